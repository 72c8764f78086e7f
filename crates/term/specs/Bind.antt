-- Substitutions that steps of a run are described by.
use Rattle.std.specs.Prelude.{ℕ, ◌≡◌, true, cond, eqb}
use mathlib.Core.List.{List, [], ◌∷◌, Memᴰ}
use Rattle.cell.specs.Cell.{is_var}

-- the identity, and one with a variable bound
unfoldable pub id_s : ℕ → List ℕ
id_s c = c ∷ []

unfoldable pub bind : ℕ → List ℕ → (ℕ → List ℕ) → ℕ → List ℕ
bind v t σ c = cond (eqb c v) t (σ c)

-- the variables of xs are in vs
pub record Within (vs xs : List ℕ) : Type 0 where
  pub found : (c : ℕ) → Memᴰ c xs → is_var c ≡ true → Memᴰ c vs
