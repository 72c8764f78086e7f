-- The hit rows as bits: bit r is set exactly when row r is among them, and rows below 64 fit 64 bits.
use Prim.Native.Nat.{ℕ, zero, suc, ◌+◌, ◌*◌, ◌^◌, ◌/◌, ◌%◌, ◌≤◌, ◌<◌}
use mathlib.Core.Path.{◌≡◌, refl, sym, ◌∙◌, ap, ap₂, subst}
use mathlib.Core.Logic.{◌↔◌, ⊎_elim}
use mathlib.Core.List.Memᴰ
use mathlib.Core.List.{List, [], ◌∷◌, ◌++◌, map, Memᴰ}
use native.Mathlib.Omega.{arith}
use lib.Pow.{high, shr-shr, pow_mono}
use lib.Bits.{bit_or, or_shifted_r}
use lib.ListN.{length, get_or, take, drop}
use lib.Seq.{split_at, take-take, take-suc, get_or-take, length-take-le}
use Rattle.table.specs.All.{All}
use Rattle.answer.specs.Run.{Ascends, done, more_of}
use Rattle.answer.specs.Jobs.{bits_of, bit}

-- A list that ascends is one that ascends with every number one more, with 0 before it or without.

lowered : {f : ℕ} {xs : List ℕ} → Ascends (suc f) xs → (ys : List ℕ) × Ascends f ys × (xs ≡ map suc ys)
lowered done = ([], done, refl)
lowered (more_of {x = zero} l a) = absurd (omega arith)
lowered {f} (more_of {x = suc x} l a) =
    let i = lowered a in
    let z : f ≤ x = omega arith in
    (x ∷ i.0, more_of z i.1, ap (λ (zs : List ℕ). suc x ∷ zs) i.2)

bits_up : (ys : List ℕ) → bits_of (map suc ys) ≡ bits_of ys * 2
unfolding bits_of
bits_up [] = refl
bits_up (y ∷ ys) = omega (arith, bits_up ys)

up_mem : {r : ℕ} {ys : List ℕ} → Memᴰ r ys → Memᴰ (suc r) (map suc ys)
up_mem (Memᴰ.head e) = Memᴰ.head (ap suc e)
up_mem (Memᴰ.tail m) = Memᴰ.tail (up_mem m)

mem_up : (r : ℕ) (ys : List ℕ) → Memᴰ (suc r) (map suc ys) → Memᴰ r ys
mem_up r [] m = absurd (Memᴰ.not-nil m)
mem_up r (y ∷ ys) m = ⊎_elim (λ e. Memᴰ.head (omega arith)) (λ q. Memᴰ.tail (mem_up r ys q)) (Memᴰ.cases_cons m)

no_zero : (ys : List ℕ) → Memᴰ 0 (map suc ys) → ⊥
no_zero [] m = Memᴰ.not-nil m
no_zero (y ∷ ys) m = ⊎_elim (λ e. omega arith) (λ q. no_zero ys q) (Memᴰ.cases_cons m)

-- the bits above the lowest are those of half the number
half : (r x c : ℕ) → c < 2 → bit (suc r) (x * 2 + c) ≡ bit r x
half r x c l =
    let e : 1 + r ≡ suc r = omega arith in
    let h : (x * 2 ^ 1 + c) / 2 ^ 1 ≡ x = high x 1 (omega arith) in
    ap (λ (z : ℕ). (x * 2 + c) / 2 ^ z % 2) (sym e) ∙ ap (λ (z : ℕ). z % 2) (sym (shr-shr (x * 2 + c) 1 r)) ∙ ap (λ (z : ℕ). z / 2 ^ r % 2) h

-- so an ascending list is that of the bits of a number, the lowest first
data Low (hs : List ℕ) : Type 0 where
  unset : (ys : List ℕ) → Ascends 0 ys → hs ≡ map suc ys → Low hs
  set : (ys : List ℕ) → Ascends 0 ys → hs ≡ 0 ∷ map suc ys → Low hs

low_of : {hs : List ℕ} → Ascends 0 hs → Low hs
low_of done = unset [] done refl
low_of (more_of {x = zero} l a) = let i = lowered a in set i.0 i.1 (ap (λ (zs : List ℕ). 0 ∷ zs) i.2)
low_of (more_of {x = suc x} {xs = xs} l a) =
    let z : 1 ≤ suc x = omega arith in
    let b : Ascends 1 (suc x ∷ xs) = more_of z a in
    let i = lowered b in
    unset i.0 i.1 i.2

-- 02, "the hit rows as 64 bits": bit r is set exactly when row r is hit
pub bits-mem : (r : ℕ) (hs : List ℕ) → Ascends 0 hs → (bit r (bits_of hs) ≡ 1) ↔ Memᴰ r hs
unfolding bits_of
bits-mem zero hs a = go (low_of a)
  where
    go : Low hs → (bit 0 (bits_of hs) ≡ 1) ↔ Memᴰ 0 hs
    go (unset ys b e) = rw e (λ h. absurd (let z : ⊥ = omega (arith, bits_up ys) in z), λ m. absurd (no_zero ys m))
    go (set ys b e) = rw e (λ h. Memᴰ.head refl, λ m. omega (arith, bits_up ys))
bits-mem (suc r) hs a = go (λ ys b. bits-mem r ys b) (low_of a)
  where
    go : ((ys : List ℕ) → Ascends 0 ys → (bit r (bits_of ys) ≡ 1) ↔ Memᴰ r ys) → Low hs → (bit (suc r) (bits_of hs) ≡ 1) ↔ Memᴰ (suc r) hs
    go i (unset ys b e) =
        let n : bits_of (map suc ys) ≡ bits_of ys * 2 + 0 = omega (arith, bits_up ys) in
        let h : bit (suc r) (bits_of (map suc ys)) ≡ bit r (bits_of ys) = ap (bit (suc r)) n ∙ half r (bits_of ys) 0 (omega arith) in
        rw e (λ s. up_mem ((i ys b).0 (sym h ∙ s)), λ m. h ∙ (i ys b).1 (mem_up r ys m))
    go i (set ys b e) =
        let n : bits_of (0 ∷ map suc ys) ≡ bits_of ys * 2 + 1 = omega (arith, bits_up ys) in
        let h : bit (suc r) (bits_of (0 ∷ map suc ys)) ≡ bit r (bits_of ys) = ap (bit (suc r)) n ∙ half r (bits_of ys) 1 (omega arith) in
        rw e (
          λ s. Memᴰ.tail (up_mem ((i ys b).0 (sym h ∙ s))),
          λ m. ⊎_elim (λ d. absurd (let z : ⊥ = omega arith in z)) (λ q. h ∙ (i ys b).1 (mem_up r ys q)) (Memᴰ.cases_cons m),
        )

-- rows from f on and below n
bits-room : {f n : ℕ} {hs : List ℕ} → f ≤ n → Ascends f hs → All (λ x. x < n) hs → bits_of hs + 2 ^ f ≤ 2 ^ n
unfolding bits_of
bits-room l done w = omega (arith, pow_mono l)
bits-room {f} {n} l (more_of {x = x} {xs = xs} g a) w =
    omega (arith, bits-room {f = suc x} {n = n} {hs = xs} (omega (arith, w.0)) a w.1, pow_mono g)

-- "as 64 bits": rows below 64 fit them
pub bits-few : (n : ℕ) {hs : List ℕ} → Ascends 0 hs → All (λ x. x < n) hs → bits_of hs < 2 ^ n
bits-few n a w = omega (arith, bits-room {f = 0} {n = n} (omega arith) a w)

-- One row more, below all of which it stands: what is before it in a list that ascends is less.

ascends-low : {f : ℕ} (xs : List ℕ) (h : ℕ) (ys : List ℕ) → Ascends f (xs ++ h ∷ ys) → f ≤ h
ascends-low [] h ys (more_of l a) = l
ascends-low (x ∷ xs) h ys (more_of l a) = let i = ascends-low xs h ys a in omega arith

ascends_front : {f : ℕ} (xs : List ℕ) (h : ℕ) (ys : List ℕ) → Ascends f (xs ++ h ∷ ys) → Ascends f xs × All (λ x. x < h) xs
ascends_front [] h ys a = (done, tt)
ascends_front (x ∷ xs) h ys (more_of l a) = let i = ascends_front xs h ys a in (more_of l i.0, (ascends-low xs h ys a, i.1))

bits-append : (hs : List ℕ) (h : ℕ) → bits_of (hs ++ (h ∷ [])) ≡ 2 ^ h + bits_of hs
unfolding bits_of
bits-append [] h = omega arith
bits-append (x ∷ hs) h = omega (arith, bits-append hs h)

pub bits-next : (l : List ℕ) (n i : ℕ) → i < n → n ≤ length l → Ascends 0 (take n l) → bit_or (bits_of (take i l)) (1 * 2 ^ get_or l i 0) ≡ bits_of (take (i + 1) l)
bits-next l n i h k a =
    let e : take n l ≡ take i l ++ get_or l i 0 ∷ drop (suc i) (take n l) =
    split_at (take n l) i 0 (omega (arith, length-take-le n l k))
    ∙ ap₂ (λ (xs : List ℕ) (x : ℕ). xs ++ x ∷ drop (suc i) (take n l)) (take-take i n l (omega arith)) (get_or-take n l i 0 h) in
    let f = ascends_front (take i l) (get_or l i 0) (drop (suc i) (take n l)) (subst (Ascends 0) e a) in
    let q : suc i ≡ i + 1 = omega arith in
    or_shifted_r 1 (get_or l i 0) (bits_of (take i l)) (bits-few (get_or l i 0) f.0 f.1) ∙ omega (arith, bits-append (take i l) (get_or l i 0))
    ∙ ap bits_of (sym (take-suc l i 0 (omega arith)) ∙ ap (λ (z : ℕ). take z l) q)
