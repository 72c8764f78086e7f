-- The occurs check, by length.
use Prim.Native.Nat.{ℕ, suc, ◌+◌, ◌≤◌}
use mathlib.Core.Path.{◌≡◌, ap}
use mathlib.Core.Logic.{◌≢◌, ◌⊎◌, inl, inr}
use mathlib.Core.Bool.{true, false}
use mathlib.Core.List.{List, [], ◌∷◌, Memᴰ}
use native.Mathlib.Omega.{arith}
use lib.ListN.{length, length-append}
use Rattle.cell.specs.Cell.{is_var}
use Rattle.term.proofs.Tests.{bool_cases}
use Rattle.term.proofs.TermsLaws.{terms-long}
use Rattle.term.specs.Unify.{inst, Subst}

-- every cell goes to at least one
pub cell-long : {σ : ℕ → List ℕ} → Subst σ → (c : ℕ) → 1 ≤ length (σ c)
cell-long {σ} s c = go (bool_cases (is_var c))
  where
    go : (is_var c ≡ true) ⊎ (is_var c ≡ false) → 1 ≤ length (σ c)
    go (inl v) = terms-long (s.vars c v)
    go (inr v) = rw (s.symbols c v) (omega arith)

pub inst-long : {σ : ℕ → List ℕ} → Subst σ → (xs : List ℕ) → length xs ≤ length (inst σ xs)
unfolding inst
inst-long s [] = omega arith
inst-long {σ} s (c ∷ xs) = let h = inst-long s xs in let l = cell-long s c in simp length-append (omega arith)

-- a list that holds v is at least as long, once v is replaced, as the image of v and the other cells
pub occurs-long : {σ : ℕ → List ℕ} {v : ℕ} {xs : List ℕ} → Subst σ → Memᴰ v xs → length (σ v) + length xs ≤ suc (length (inst σ xs))
unfolding inst
occurs-long {σ} {v} s (Memᴰ.head {x} {xs} e) = let h = inst-long s xs in rw e (simp length-append (omega arith))
occurs-long {σ} {v} s (Memᴰ.tail {x} {xs} m) = let h = occurs-long s m in let l = cell-long s x in simp length-append (omega arith)

-- no substitution makes a variable equal to a longer term in which it occurs
pub occurs-check : {σ : ℕ → List ℕ} {v : ℕ} {t : List ℕ} → Subst σ → Memᴰ v t → 2 ≤ length t → σ v ≢ inst σ t
occurs-check s m h e = let l = occurs-long s m in omega (arith, ap length e)
