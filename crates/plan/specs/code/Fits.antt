use Rattle.std.specs.Prelude.{ℕ, ◌≤◌, List, length}
use Rattle.term.specs.Terms.{Terms}

-- Rows that fit a state: k terms in at most n cells.
abbrev pub Fits : ℕ → ℕ → List ℕ → Type 0
Fits n k r = Terms k r × (length r ≤ n)
