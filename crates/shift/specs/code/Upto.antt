-- What the loop over a list has made of it after i turns (src/jobs.rt): the first i elements are made anew, each standing in a relation to
-- what was there, and the others are as they were.
use Rattle.std.specs.Prelude.{ℕ, suc, List, ◌∷◌}

pub data Upto {A : Type 0} (P : A → A → Type 0) : ℕ → List A → List A → Type 0 where
  rest : {xs : List A} → Upto P 0 xs xs
  made : {i : ℕ} {x y : A} {xs ys : List A} → P x y → Upto P i xs ys → Upto P (suc i) (x ∷ xs) (y ∷ ys)
