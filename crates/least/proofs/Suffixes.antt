-- A list of terms from an open place on: what it begins with is the cell there, and closing the place takes that cell away.
use mathlib.Core.Path.{◌≡◌, refl, sym, ap, ◌∙◌}
use mathlib.Core.List.{List, [], ◌∷◌, map}
use Prim.Native.Nat.{ℕ, zero, suc, ◌+◌, ◌≤◌, ◌<◌}
use native.Mathlib.Nat.{add_assoc, zero-add, suc-add}
use native.Mathlib.Omega.{arith}
use lib.ListN.{length, length-append, drop}
use lib.Seq.{drop-cons, drop-drop}
use Rattle.cell.specs.Cell.{arity}
use Rattle.term.specs.Terms.{front, back, root, close}
use Rattle.term.proofs.TermsLaws.{front-back}

pub root-back : (i : ℕ) (xs : List ℕ) → root 0 (back i xs) ≡ root i xs
unfolding root back
root-back i [] = refl
root-back zero (c ∷ xs) = refl
root-back (suc i) (c ∷ xs) = root-back (arity c + i) xs

pub close-back : (i : ℕ) (xs : List ℕ) → close 0 (back i xs) ≡ back i (close i xs)
unfolding close back
close-back i [] = refl
close-back zero (c ∷ []) = refl
close-back zero (c ∷ (d ∷ xs)) = refl
close-back (suc i) (c ∷ xs) = close-back (arity c + i) xs

pub back-back : (a b : ℕ) (xs : List ℕ) → back b (back a xs) ≡ back (a + b) xs
unfolding back
back-back a b [] = refl
back-back zero b (c ∷ xs) = rw zero-add
back-back (suc a) b (c ∷ xs) = rw (suc-add, ← add_assoc) (back-back (arity c + a) b xs)

pub backs : (a b : ℕ) (rows : List (List ℕ)) → map (back b) (map (back a) rows) ≡ map (back (a + b)) rows
backs a b [] = refl
backs a b (r ∷ rs) = rw (back-back a b r, backs a b rs)

pub front-back-length : (a b : ℕ) (xs : List ℕ) → length (front (a + b) xs) ≡ length (front a xs) + length (front b (back a xs))
unfolding front back
front-back-length a b [] = refl
front-back-length zero b (c ∷ xs) = rw (zero-add b) (omega arith)
front-back-length (suc a) b (c ∷ xs) = rw (suc-add a b, ← add_assoc) (omega (arith, front-back-length (arity c + a) b xs))

-- what the first terms leave is what follows their cells
pub drop-front : (k : ℕ) (xs : List ℕ) → drop (length (front k xs)) xs ≡ back k xs
unfolding front back
drop-front k [] = refl
drop-front zero (c ∷ xs) = refl
drop-front (suc k) (c ∷ xs) = drop-front (arity c + k) xs

-- the cells from a place on: without the first cell, and without the first term
pub close-drop : (p : ℕ) (xs : List ℕ) → p < length xs → close 0 (drop p xs) ≡ drop (suc p) xs
unfolding close
close-drop p xs h = rw (drop-cons xs p 0 h)

pub back-drop : (p : ℕ) (xs : List ℕ) → back 1 (drop p xs) ≡ drop (p + length (front 1 (drop p xs))) xs
back-drop p xs = sym (drop-front 1 (drop p xs)) ∙ drop-drop (length (front 1 (drop p xs))) p xs

-- past a cell that is closed
pub back-close : (a c : ℕ) (xs : List ℕ) → root 0 xs ≡ c → back (arity c + a) (close 0 xs) ≡ back (suc a) xs
unfolding root close back
back-close a c [] e = refl
back-close a c (d ∷ xs) e = rw (← e)

pub front-short : (k : ℕ) (xs : List ℕ) → length (front k xs) ≤ length xs
front-short k xs = omega (arith, ap length (front-back k xs), length-append (front k xs) (back k xs))
