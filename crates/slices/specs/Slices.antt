-- A part of a list whose ends may lie outside it.
use Rattle.std.specs.Prelude.{ℕ, ◌-◌, ◌≤◌, ◌≡◌, List, length, take, drop}
use Rattle.slices.specs.declared.Span.{Span}

-- what stands from a place up to another: the kit's `slice`, in the form in which rows are compared
abbrev pub between : ℕ → ℕ → List ℕ → List ℕ
between start end l = take (end - start) (drop start l)

-- the same part of every list so long, between two places of it
pub record Inside (n start end : ℕ) (r : Span) : Type 0 where
  pub from : r.start ≤ r.end
  pub within : r.end ≤ n
  pub same : (l : List ℕ) → length l ≡ n → between r.start r.end l ≡ between start end l
