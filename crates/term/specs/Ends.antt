-- Where a term ends (01, "Rows carry no lengths; a row ends when its last argument does").
use Rattle.std.specs.Prelude.{ℕ, ◌+◌, ◌≡◌, List, ◌++◌, length, drop, Option, Some, None}
use Rattle.term.specs.Terms.{Terms}

-- the cells from place p on begin with one term, and the place after it; or they begin with none: they run out
pub data Ends (xs : List ℕ) (p : ℕ) : Option ℕ → Type 0 where
  at : {t : List ℕ} (rest : List ℕ) → Terms 1 t → drop p xs ≡ t ++ rest → Ends xs p (Some (p + length t))
  short : ((t rest : List ℕ) → Terms 1 t → drop p xs ≡ t ++ rest → ⊥) → Ends xs p None
