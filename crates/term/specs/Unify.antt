-- Unification (01, first paragraph): "a finite substitution makes the two terms equal, the goal's variables and a row's variables being
-- renamed apart".
use Rattle.std.specs.Prelude.{ℕ, ◌+◌, ◌^◌, ◌≡◌, true, false, cond}
use mathlib.Core.List.{List, [], ◌∷◌, ◌++◌, map, Memᴰ}
use Rattle.cell.specs.Cell.{is_var}
use Rattle.term.specs.Terms.{Terms}

-- each cell replaced by its image
unfoldable pub inst : (ℕ → List ℕ) → List ℕ → List ℕ
inst σ [] = []
inst σ (c ∷ xs) = σ c ++ inst σ xs

-- a substitution: a variable goes to one term, a symbol to itself
pub record Subst (σ : ℕ → List ℕ) : Type 0 where
  pub vars : (c : ℕ) → is_var c ≡ true → Terms 1 (σ c)
  pub symbols : (c : ℕ) → is_var c ≡ false → σ c ≡ c ∷ []

-- a finite one: all but a listed few variables go to themselves
pub record Finite (σ : ℕ → List ℕ) : Type 0 where
  pub listed : List ℕ
  pub others : (c : ℕ) → ¬ Memᴰ c listed → σ c ≡ c ∷ []

-- one substitution makes the two lists of terms equal. That it may be taken finite is `finite-unifier` of proofs/Finite
pub record Unifies (xs ys : List ℕ) : Type 0 where
  pub by : ℕ → List ℕ
  pub good : Subst by
  pub same : inst by xs ≡ inst by ys

-- 01, "renamed apart": a row's variables are numbered below 2^16, a goal's are moved above that
unfoldable pub renamed : List ℕ → List ℕ
renamed xs = map (λ (c : ℕ). cond (is_var c) (2 ^ 16 + c) c) xs

-- a row's head unifies with a goal
abbrev pub Matches : (row goal : List ℕ) → Type 0
Matches row goal = Unifies row (renamed goal)
