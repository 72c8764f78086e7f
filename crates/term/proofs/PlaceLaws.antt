-- Open places: closing two of them in either order, and what closing leaves.
use mathlib.Core.Path.{◌≡◌, refl, ap, ◌∙◌}
use mathlib.Core.List.{List, [], ◌∷◌}
use Prim.Native.Nat.{ℕ, zero, suc, ◌+◌, ◌≤◌, ◌<◌}
use native.Mathlib.Omega.{arith}
use lib.ListN.{length}
use Rattle.cell.specs.Cell.{arity}
use Rattle.term.specs.Terms.{Terms, none, more, root, close}

-- a place is closed, and one after it: in either order
pub close-close : (i j : ℕ) (xs : List ℕ) → i ≤ j → close (arity (root i xs) + j) (close i xs) ≡ close i (close (suc j) xs)
unfolding close root
close-close i j [] h = refl
close-close zero j (c ∷ xs) h = refl
close-close (suc i) zero (c ∷ xs) h = absurd (omega arith)
close-close (suc i) (suc j) (c ∷ xs) h =
    let ih = close-close (arity c + i) (arity c + j) xs (omega arith) in
    let r : ℕ = root (arity c + i) xs in
    let e : arity r + suc j ≡ suc (arity r + j) = omega arith in
    let e' : arity c + suc j ≡ suc (arity c + j) = omega arith in
    let e'' : arity c + (arity r + j) ≡ arity r + (arity c + j) = omega arith in
    rw (e, e', e'') (ap (λ (l : List ℕ). c ∷ l) ih)

-- the cell at a place after one that is closed, and before it
pub root-after : (i j : ℕ) (xs : List ℕ) → i ≤ j → root (arity (root i xs) + j) (close i xs) ≡ root (suc j) xs
unfolding close root
root-after i j [] h = refl
root-after zero j (c ∷ xs) h = refl
root-after (suc i) zero (c ∷ xs) h = absurd (omega arith)
root-after (suc i) (suc j) (c ∷ xs) h =
    let r : ℕ = root (arity c + i) xs in
    let e : arity r + suc j ≡ suc (arity r + j) = omega arith in
    let e' : arity c + suc j ≡ suc (arity c + j) = omega arith in
    let e'' : arity c + (arity r + j) ≡ arity r + (arity c + j) = omega arith in
    rw (e, e') (ap (λ (m : ℕ). root m (close (arity c + i) xs)) e'' ∙ root-after (arity c + i) (arity c + j) xs (omega arith))

pub root_before : (i j : ℕ) (xs : List ℕ) → i ≤ j → root i (close (suc j) xs) ≡ root i xs
unfolding close root
root_before i j [] h = refl
root_before zero j (c ∷ xs) h = refl
root_before (suc i) zero (c ∷ xs) h = absurd (omega arith)
root_before (suc i) (suc j) (c ∷ xs) h =
    let e' : arity c + suc j ≡ suc (arity c + j) = omega arith in
    rw e' (root_before (arity c + i) (arity c + j) xs (omega arith))

-- what closing leaves are the other terms and the cell's arguments, one cell less
close-terms' : {n : ℕ} {xs : List ℕ} (i k : ℕ) → Terms n xs → n ≡ suc k → i ≤ k → Terms (arity (root i xs) + k) (close i xs)
unfolding close root
close-terms' i k none e h = absurd (omega arith)
close-terms' zero k (more {c} {k = n} {xs} t) e h =
    let e' : arity c + n ≡ arity c + k = omega arith in rw e' at t
close-terms' (suc i) zero (more t) e h = absurd (omega arith)
close-terms' (suc i) (suc k) (more {c} {k = n} {xs} t) e h =
    let r : ℕ = root (arity c + i) xs in
    let e₁ : arity r + suc k ≡ suc (arity r + k) = omega arith in
    let e₂ : arity r + (arity c + k) ≡ arity c + (arity r + k) = omega arith in
    let u : Terms (arity c + (arity r + k)) (close (arity c + i) xs) =
    rw e₂ at (close-terms' (arity c + i) (arity c + k) t (omega arith) (omega arith)) in
    rw e₁ (more u)

pub close-terms : {k : ℕ} {xs : List ℕ} (i : ℕ) → Terms (suc k) xs → i ≤ k → Terms (arity (root i xs) + k) (close i xs)
close-terms {k} i t h = close-terms' i k t refl h

pub close-length : {k : ℕ} {xs : List ℕ} (i : ℕ) → Terms k xs → i < k → length xs ≡ suc (length (close i xs))
unfolding close
close-length i none h = absurd (omega arith)
close-length zero (more {c} t) h = refl
close-length (suc i) (more {c} {xs = xs} t) h = ap suc (close-length (arity c + i) t (omega arith))
