-- Lists that are the same are equal.
use Prim.Native.Nat.{ℕ}
use mathlib.Core.Path.{◌≡◌, refl, sym, ap, ◌∙◌}
use mathlib.Core.Bool.{Bool, true, false, ◌&&◌}
use mathlib.Core.List.{List, [], ◌∷◌}
use mathlib.Core.Logic.{◌↔◌}
use native.Mathlib.Omega.{arith}
use lib.Dec.{eqb}
use borrow.Author.Tests.{eq-eqb, eqb-true}
use Rattle.cell.specs.Same.{same}

pub same_refl : (xs : List ℕ) → same xs xs ≡ true
unfolding same
same_refl [] = refl
same_refl (a ∷ xs) = rw (eq-eqb a a refl, same_refl xs)

pub same-eq : (xs ys : List ℕ) → same xs ys ≡ true → xs ≡ ys
unfolding same
same-eq [] [] e = refl
same-eq [] (b ∷ ys) e = absurd (let z : ◌≡◌ {A = ℕ} 0 1 = cc in omega arith)
same-eq (a ∷ xs) [] e = absurd (let z : ◌≡◌ {A = ℕ} 0 1 = cc in omega arith)
same-eq (a ∷ xs) (b ∷ ys) e = go (eqb a b) refl (same-eq xs ys) e
  where
    go : (t : Bool) → eqb a b ≡ t → (same xs ys ≡ true → xs ≡ ys) → (t && same xs ys) ≡ true → a ∷ xs ≡ b ∷ ys
    go true q f h = let x = eqb-true a b q in let y = f h in cc
    go false q f h = absurd (let z : ◌≡◌ {A = ℕ} 0 1 = cc in omega arith)

pub same-differ : (xs ys : List ℕ) → same xs ys ≡ false → xs ≡ ys → ⊥
same-differ xs ys e q = let z : true ≡ false = sym (same_refl xs) ∙ ap (same xs) q ∙ e in let y : ◌≡◌ {A = ℕ} 0 1 = cc in omega arith

pub same-no : (xs ys : List ℕ) → (xs ≡ ys → ⊥) → same xs ys ≡ false
same-no xs ys n = go (same xs ys) refl
  where
    go : (t : Bool) → same xs ys ≡ t → t ≡ false
    go true e = absurd (n (same-eq xs ys e))
    go false e = refl

-- one exactly when the other
pub same-is : (xs ys : List ℕ) → (same xs ys ≡ true) ↔ (xs ≡ ys)
same-is xs ys = (same-eq xs ys, λ e. ap (same xs) (sym e) ∙ same_refl xs)
