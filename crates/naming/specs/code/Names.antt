-- What is asked of a list of names, one thing at a time (clauses/specs/Handed, Listed).
use Rattle.std.specs.Prelude.{ℕ, ◌+◌, ◌/◌, ◌%◌, ◌≤◌, ◌<◌, ◌≡◌, ◌≢◌, List, length, get_or}
use Rattle.cell.specs.Cell.{kind_of, number_of}
use Rattle.table.specs.All.{All}
use Rattle.lex.specs.Names.{IsName}
use Rattle.termtext.specs.Saying.{word_in}

-- an entry lies in the text and is a name
abbrev pub Entry : List ℕ → ℕ → Type 0
Entry text n = (n % 65536 + n / 65536 ≤ length text) × IsName (word_in text n)

abbrev pub Entries : List ℕ → List ℕ → Type 0
Entries text names = All (Entry text) names

-- a name's number is listed
abbrev pub Known : ℕ → ℕ → Type 0
Known count c = kind_of c ≡ 1 → number_of c < count

abbrev pub AllKnown : ℕ → List ℕ → Type 0
AllKnown count cells = All (Known count) cells

-- an entry's word stands at none of those before it
pub record FreshTo (text names : List ℕ) (k i : ℕ) : Type 0 where
  pub apart : (j : ℕ) → j < i → word_in text (get_or names j 0) ≢ word_in text (get_or names k 0)

-- and none of those before a place stands twice
pub record ApartTo (text names : List ℕ) (k : ℕ) : Type 0 where
  pub each : (j : ℕ) → j < k → FreshTo text names j j
