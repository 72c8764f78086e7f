-- Laws of lists that the library has not and several crates use: what stands at a place; several elements stored one after another (`sets`), a part
-- in the middle (`slice`), one
-- element repeated (`replicate`).
use Prim.Native.Nat.{ℕ, zero, suc, ◌+◌, ◌-◌, ◌≤◌, ◌<◌}
use mathlib.Core.Path.{◌≡◌, refl, sym, ap, ◌∙◌}
use mathlib.Core.List.{List, [], ◌∷◌, ◌++◌, append_assoc}
use native.Mathlib.Nat.{add-zero, zero-add, suc-add}
use native.Mathlib.Numerals.{add-one}
use native.Mathlib.Omega.{arith}
use lib.ListN.{length, get_or, set, take, drop, replicate, length-drop, length-replicate}
use lib.Seq.{slice, take-nil, sets, sets-eq, set_comm, length-take-le, take_at, drop_at, drop-cons, drop-drop, drop-append_seam, take-set-le}
use lib.Seq.{drop-set-lt, get_or-set_other}

-- what stands at a place, and after a part
pub head_at : (xs : List ℕ) (at c : ℕ) (ys : List ℕ) → drop at xs ≡ c ∷ ys → (at < length xs) × (get_or xs at 0 ≡ c) × (drop (at + 1) xs ≡ ys)
head_at xs at c ys e =
    let h : at < length xs = omega (arith, length-drop at xs, ap length e) in
    let d = drop-cons xs at 0 h in
    (h, cc, rw add-one (cc))

pub part_at : (xs : List ℕ) (at : ℕ) (ys zs : List ℕ) → drop at xs ≡ ys ++ zs → drop (at + length ys) xs ≡ zs
part_at xs at ys zs e = sym (drop-drop (length ys) at xs) ∙ ap (drop (length ys)) e ∙ drop-append_seam ys zs

pub nil-of-length : (xs : List ℕ) → length xs ≡ 0 → xs ≡ []
nil-of-length [] h = refl
nil-of-length (x ∷ xs) h = absurd (omega arith)

-- what is stored twice in a row is stored at once
pub sets-sets : (l : List ℕ) (i : ℕ) (xs ys : List ℕ) → sets (sets l i xs) (i + length xs) ys ≡ sets l i (xs ++ ys)
sets-sets l i [] ys = rw add-zero
sets-sets l i (x ∷ xs) ys = let e : i + suc (length xs) ≡ suc i + length xs = omega arith in rw e (sets-sets (set l i x) (suc i) xs ys)

-- a store that was still to be done
pub store-next : (new fin xs ys : List ℕ) (j x : ℕ) → xs ≡ x ∷ ys → sets new j xs ≡ fin → sets (set new j x) (j + 1) ys ≡ fin
store-next new fin xs ys j x e h = let f : j + 1 ≡ suc j = omega arith in rw f (ap (sets new j) (sym e) ∙ h)

pub store-end : (new fin xs : List ℕ) (j : ℕ) → xs ≡ [] → sets new j xs ≡ fin → new ≡ fin
store-end new fin xs j e h = ap (sets new j) (sym e) ∙ h

-- several of them
pub stores-next : (old new fin xs ys zs : List ℕ) (j k : ℕ) → xs ≡ ys ++ zs → new ≡ sets old j ys → k ≡ j + length ys → sets old j xs ≡ fin
    → sets new k zs ≡ fin
stores-next old new fin xs ys zs j k e n l h = rw (n, l) (sets-sets old j ys zs ∙ ap (sets old j) (sym e) ∙ h)

-- they are found where they were stored, and nothing before or after them is changed
pub sets-found : (l xs : List ℕ) (i n : ℕ) → i + length xs ≤ length l → n ≡ length xs → take n (drop i (sets l i xs)) ≡ xs
sets-found l xs i n b e =
    let p : length (take i l) ≡ i = length-take-le i l (omega arith) in
    rw (sets-eq xs l i b, append_assoc (take i l) xs (drop (i + length xs) l), drop_at (take i l) (xs ++ drop (i + length xs) l) i p)
    (take_at xs (drop (i + length xs) l) n (sym e))

pub take-sets : (l xs : List ℕ) (n i : ℕ) → n ≤ i → take n (sets l i xs) ≡ take n l
take-sets l [] n i h = refl
take-sets l (x ∷ xs) n i h = take-sets (set l i x) xs n (suc i) (omega arith) ∙ take-set-le n l i x h

pub get_d_sets : (l xs : List ℕ) (j i : ℕ) → j < i → get_or (sets l i xs) j 0 ≡ get_or l j 0
get_d_sets l [] j i h = refl
get_d_sets l (x ∷ xs) j i h = get_d_sets (set l i x) xs j (suc i) (omega arith) ∙ get_or-set_other l i j x 0 (λ e. omega arith)

pub drop-sets : (l xs : List ℕ) (n i : ℕ) → i + length xs ≤ n → drop n (sets l i xs) ≡ drop n l
drop-sets l [] n i h = refl
drop-sets l (x ∷ xs) n i h = drop-sets (set l i x) xs n (suc i) (omega arith) ∙ drop-set-lt n l i x (omega arith)

-- one store before others
pub set-sets : (l : List ℕ) (i j x : ℕ) (ys : List ℕ) → i < j → set (sets l j ys) i x ≡ sets (set l i x) j ys
set-sets l i j x [] h = refl
set-sets l i j x (y ∷ ys) h =
    set-sets (set l j y) i (suc j) x ys (omega arith) ∙ ap (λ (m : List ℕ). sets m (suc j) ys) (set_comm l j i y x (λ e. omega arith))

-- a part in the middle, counted from its start
pub slice-take : (f n : ℕ) (l : List ℕ) → slice f (f + n) l ≡ take n (drop f l)
slice-take zero n l = rw zero-add
slice-take (suc f) n [] = rw (take-nil (suc f + n), take-nil n)
slice-take (suc f) n (x ∷ xs) = rw suc-add (slice-take f n xs)

-- one element repeated
pub get_d-zeros : (n i : ℕ) → ◌≡◌ {A = ℕ} (get_or (replicate n 0) i 0) 0
get_d-zeros zero i = refl
get_d-zeros (suc n) zero = refl
get_d-zeros (suc n) (suc i) = get_d-zeros n i

pub drop-replicate : (k n x : ℕ) → drop k (replicate n x) ≡ replicate (n - k) x
drop-replicate zero n x = let e : n - 0 ≡ n = omega arith in rw e
drop-replicate (suc k) zero x = let e : 0 - suc k ≡ 0 = omega arith in rw e
drop-replicate (suc k) (suc n) x = let e : suc n - suc k ≡ n - k = omega arith in rw e (drop-replicate k n x)

-- elements stored at the front of one element repeated
pub sets-replicate : (n x : ℕ) (xs : List ℕ) → length xs ≤ n → sets (replicate n x) 0 xs ≡ xs ++ replicate (n - length xs) x
sets-replicate n x xs h =
    sets-eq xs (replicate n x) 0 (omega (arith, length-replicate {A = ℕ} n x)) ∙ rw (zero-add, drop-replicate (length xs) n x)
