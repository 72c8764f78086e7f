-- Where a run of terms ends, by computation, and that it is what `Ends` says. `ends` is said of the part of a list from a place on,
-- in the form in which the code steps.
use mathlib.Core.Path.{◌≡◌, refl, ap, ◌∙◌, sym}
use mathlib.Core.List.{List, [], ◌∷◌, ◌++◌}
use Prim.Native.Nat.{ℕ, zero, suc, ◌+◌, ◌-◌, ◌<◌, ◌≤◌}
use native.Mathlib.Numerals.{add-one}
use native.Mathlib.Omega.{arith}
use lib.ListN.{length, get_or, drop, drop_of_length-le}
use lib.Seq.{drop-cons}
use Rattle.cell.specs.Cell.{arity}
use Rattle.std.specs.Prelude.{Option, Some, None}
use Rattle.term.specs.Terms.{Terms, none, more}
use Rattle.term.specs.Ends.{Ends, at, short}
use Rattle.term.specs.code.Owed.{ends}

pub ends-none : (xs : List ℕ) (p : ℕ) → ends xs 0 p ≡ Some p
unfolding ends
ends-none [] p = refl
ends-none (c ∷ xs) p = refl

pub ends-short : (xs : List ℕ) (i k p : ℕ) → length xs ≤ i → 0 < k → ends (drop i xs) k p ≡ None
unfolding ends
ends-short xs i zero p h l = absurd (omega arith)
ends-short xs i (suc k) p h l = rw (drop_of_length-le xs h)

pub ends_more : (xs : List ℕ) (i k p : ℕ) → i < length xs → 0 < k → ends (drop i xs) k p ≡ ends (drop (i + 1) xs) (k - 1 + arity (get_or xs i 0)) (p + 1)
unfolding ends
ends_more xs i zero p h l = absurd (omega arith)
ends_more xs i (suc k) p h l =
    let e : suc k - 1 + arity (get_or xs i 0) ≡ arity (get_or xs i 0) + k = omega arith in
    rw (e, add-one i, drop-cons xs i 0 h)

-- k terms at the front of a list, or none
data Found (ys : List ℕ) (k p : ℕ) : Option ℕ → Type 0 where
  found : {t : List ℕ} (rest : List ℕ) → Terms k t → ys ≡ t ++ rest → Found ys k p (Some (p + length t))
  lost : ((t rest : List ℕ) → Terms k t → ys ≡ t ++ rest → ⊥) → Found ys k p None

no-terms : {k : ℕ} (t rest : List ℕ) → Terms (suc k) t → [] ≡ t ++ rest → ⊥
no-terms (c ∷ t) rest (more u) e = let z : ◌≡◌ {A = ℕ} 0 1 = cc in omega arith
no-terms {k = k} [] rest x'' e = elim x'' [ ]

found_here : (ys : List ℕ) (p : ℕ) → Found ys 0 p (Some p)
found_here ys p = let e : p + 0 ≡ p = omega arith in let f : Found ys 0 p (Some (p + 0)) = found ys none refl in rw e at f

-- one cell further
found-more : {c k p : ℕ} {ys : List ℕ} {r : Option ℕ} → Found ys (arity c + k) (p + 1) r → Found (c ∷ ys) (suc k) p r
found-more {c} {k} {p} {ys} (found {t} rest u e) =
    let s : p + suc (length t) ≡ p + 1 + length t = omega arith in
    let f : Found (c ∷ ys) (suc k) p (Some (p + suc (length t))) = found rest (more u) (ap (λ (l : List ℕ). c ∷ l) e) in
    rw s at f
found-more {c} {k} {p} {ys} (lost n) = lost go
  where
    go : (t rest : List ℕ) → Terms (suc k) t → c ∷ ys ≡ t ++ rest → ⊥
    go (d ∷ t) rest (more u) e =
        let cd : c ≡ d = cc in
        let f : ys ≡ t ++ rest = cc in
        n t rest (rw cd u) f
    go [] rest x3 e = elim x3 [ ]

find : (ys : List ℕ) (k p : ℕ) → Found ys k p (ends ys k p)
unfolding ends
find [] zero p = found_here [] p
find [] (suc k) p = lost no-terms
find (c ∷ ys) zero p = found_here (c ∷ ys) p
find (c ∷ ys) (suc k) p = found-more (find ys (arity c + k) (p + 1))

-- k terms, whatever follows, end right after themselves
pub ends_found : {k : ℕ} {t : List ℕ} → Terms k t → (rest : List ℕ) (p : ℕ) → ends (t ++ rest) k p ≡ Some (p + length t)
unfolding ends
ends_found none rest p = let e : p + 0 ≡ p = omega arith in rw e (ends-none rest p)
ends_found (more {xs = t} u) rest p = let e : p + 1 + length t ≡ p + suc (length t) = omega arith in ends_found u rest (p + 1) ∙ rw e

-- what is computed is where the term ends
pub ends-right : (xs : List ℕ) (p : ℕ) → Ends xs p (ends (drop p xs) 1 p)
ends-right xs p = go (find (drop p xs) 1 p)
  where
    go : {r : Option ℕ} → Found (drop p xs) 1 p r → Ends xs p r
    go (found rest u e) = at rest u e
    go (lost n) = short n

-- and nothing else is
pub ends-only : {xs : List ℕ} {p : ℕ} {r : Option ℕ} → Ends xs p r → r ≡ ends (drop p xs) 1 p
ends-only {xs} {p} (at {t} rest u e) = sym (ap (λ (l : List ℕ). ends l 1 p) e ∙ ends_found u rest p)
ends-only {xs} {p} (short n) = go (find (drop p xs) 1 p)
  where
    go : {r : Option ℕ} → Found (drop p xs) 1 p r → None ≡ r
    go (found {t} rest u e) = absurd (n t rest u e)
    go (lost m) = refl

-- so an answer that is computed is where the term ends
pub ends-meant : (xs : List ℕ) (p : ℕ) {r : Option ℕ} → r ≡ ends (drop p xs) 1 p → Ends xs p r
ends-meant xs p e = rw e (ends-right xs p)
