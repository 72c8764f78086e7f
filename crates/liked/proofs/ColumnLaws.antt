-- The columns of a mask: those whose bit is set. Of a table with so many columns the masks below a power of two name columns that are there, and
-- the last of them names all.
use Prim.Native.Nat.{ℕ, zero, suc, ◌+◌, ◌-◌, ◌*◌, ◌^◌, ◌/◌, ◌≤◌, ◌<◌}
use mathlib.Core.Path.{◌≡◌, refl, sym, ◌∙◌, ap}
use mathlib.Core.Logic.{◌↔◌}
use mathlib.Core.Bool.{Bool, true, false, true≢false, ◌||◌, cond}
use mathlib.Core.List.{List, [], ◌∷◌, ◌++◌, append_assoc, append-nil}
use native.Mathlib.Omega.{arith}
use native.Mathlib.Numerals.{add-one}
use lib.Dec.{eqb}
use lib.ListN.{length, take, drop, set, replicate, length-set}
use lib.Seq.{take-suc-set, drop-set-lt, drop-drop}
use lib.Pow.{pow-lt, ones_split, ones_lt, high, shr_lt}
use borrow.Author.Tests.{eqb-true, eqb-false, eq-eqb, ne_eqb}
use Rattle.plan.specs.Named.{any_past, occurs}
use Rattle.plan.proofs.ColumnsLaws.{column-exactly}
use Rattle.answer.specs.Jobs.{bit}
use Rattle.liked.specs.Liked.{columns_from, columns_of, ColumnsListed}

-- "bit c for column c", of so many columns from c on
pub set-named : (c left mask d : ℕ) → c ≤ d → d < c + left → bit d mask ≡ 1 → occurs d (columns_from c left mask) ≡ true
unfolding columns_from
set-named c zero mask d l h e = absurd (let z : ⊥ = omega arith in z)
set-named c (suc left) mask d l h e =
    go (eqb (bit c mask) 1) refl (eqb d c) refl (λ n. set-named (suc c) left mask d (omega (arith, n)) (omega arith) e)
  where
    go : (a : Bool) → eqb (bit c mask) 1 ≡ a → (b : Bool) → eqb d c ≡ b → (¬ (d ≡ c) → occurs d (columns_from (suc c) left mask) ≡ true)
        → occurs d (cond a (c ∷ columns_from (suc c) left mask) (columns_from (suc c) left mask)) ≡ true
    go true p true q below = rw q
    go true p false q below = rw q (below (eqb-false d c q))
    go false p true q below = absurd (eqb-false (bit c mask) 1 p (rw (eqb-true d c q) at e))
    go false p false q below = below (eqb-false d c q)

pub named_set : (c left mask d : ℕ) → occurs d (columns_from c left mask) ≡ true → (c ≤ d) × (d < c + left) × (bit d mask ≡ 1)
unfolding columns_from
named_set c zero mask d e = absurd (true≢false (sym e))
named_set c (suc left) mask d e =
    go (eqb (bit c mask) 1) refl e (λ o. (let i = named_set (suc c) left mask d o in (omega (arith, i.0), omega (arith, i.1), i.2)))
  where
    first : eqb (bit c mask) 1 ≡ true → (b : Bool) → eqb d c ≡ b → b || occurs d (columns_from (suc c) left mask) ≡ true
        → (occurs d (columns_from (suc c) left mask) ≡ true → (c ≤ d) × (d < c + suc left) × (bit d mask ≡ 1))
        → (c ≤ d) × (d < c + suc left) × (bit d mask ≡ 1)
    first p true q o below = let k : d ≡ c = eqb-true d c q in rw k (omega arith, omega arith, eqb-true (bit c mask) 1 p)
    first p false q o below = below o

    go : (a : Bool) → eqb (bit c mask) 1 ≡ a → occurs d (cond a (c ∷ columns_from (suc c) left mask) (columns_from (suc c) left mask)) ≡ true
        → (occurs d (columns_from (suc c) left mask) ≡ true → (c ≤ d) × (d < c + suc left) × (bit d mask ≡ 1))
        → (c ≤ d) × (d < c + suc left) × (bit d mask ≡ 1)
    go true p o below = first p (eqb d c) refl o below
    go false p o below = below o

-- of the set: column d is named exactly where its bit is set
pub columns-named : (mask d : ℕ) → (occurs d (columns_of mask) ≡ true) ↔ ((d < 8) × (bit d mask ≡ 1))
columns-named mask d = (
  λ e. (let i = named_set 0 8 mask d e in (omega (arith, i.1), i.2)),
  λ h. set-named 0 8 mask d (omega arith) (omega (arith, h.0)) h.1,
)

-- the plain plan's
pub columns-none : columns_of 0 ≡ []
unfolding columns_from
columns-none = refl

pub pow-le : (w c : ℕ) → w ≤ c → 2 ^ w ≤ 2 ^ c
pow-le w c h = go (c - w) refl
  where
    go : (k : ℕ) → c - w ≡ k → 2 ^ w ≤ 2 ^ c
    go zero e = let z : w ≡ c = omega arith in rw z (omega arith)
    go (suc k) e = let l = pow-lt {i = w} {j = c} (omega arith) in omega (arith, l)

-- no bit past the width is set
no-bit : (w c mask : ℕ) → mask < 2 ^ w → w ≤ c → ¬ (bit c mask ≡ 1)
no-bit w c mask h l e =
    let k : mask < 2 ^ (0 + c) = (let z : 0 + c ≡ c = omega arith in rw z (omega (arith, h, pow-le w c l))) in
    let o = shr_lt 0 c k in
    absurd (omega (arith, o, e))

pub columns-there : (w mask : ℕ) → mask < 2 ^ w → any_past w (columns_of mask) ≡ false
columns-there w mask h = go (any_past w (columns_of mask)) refl
  where
    go : (b : Bool) → any_past w (columns_of mask) ≡ b → any_past w (columns_of mask) ≡ false
    go true e =
        let i = (column-exactly w (columns_of mask)).0 e in
        absurd (no-bit w i.0 mask h i.2 ((columns-named mask i.0).0 i.1).1)
    go false e = e

-- the last set has every column
every-bit : (w c : ℕ) → c < w → bit c (2 ^ w - 1) ≡ 1
every-bit w c h = go (w - suc c) refl
  where
    go : (k : ℕ) → w - suc c ≡ k → bit c (2 ^ w - 1) ≡ 1
    go k e =
        let z : w ≡ suc k + c = omega arith in
        let a : 2 ^ w - 1 ≡ (2 ^ suc k - 1) * 2 ^ c + (2 ^ c - 1) = ap (λ (n : ℕ). 2 ^ n - 1) z ∙ ones_split (suc k) c in
        let b : (2 ^ w - 1) / 2 ^ c ≡ 2 ^ suc k - 1 = ap (λ (n : ℕ). n / 2 ^ c) a ∙ high (2 ^ suc k - 1) c (ones_lt c) in
        let o : 0 < 2 ^ suc k = omega (arith, ones_lt (suc k)) in
        rw b (omega (arith, o))

pub columns-all : (w mask c : ℕ) → w ≤ 8 → mask + 1 ≡ 2 ^ w → c < w → occurs c (columns_of mask) ≡ true
columns-all w mask c l e h =
    let z : mask ≡ 2 ^ w - 1 = omega (arith, e) in
    (columns-named mask c).1 (omega arith, rw z (every-bit w c h))

-- THE LIST, as it is filled: what is in it and what is still to come are the set's columns.
pub record Filled (mask : ℕ) (list : List ℕ) (count c : ℕ) : Type 0 where
  pub below : c ≤ 8
  pub few : count ≤ c
  pub size : length list ≡ 8
  pub rest : take count list ++ columns_from c (8 - c) mask ≡ columns_of mask
  pub others : drop count list ≡ replicate (8 - count) 0

pub filled_none : (mask : ℕ) → Filled mask (replicate 8 0) 0 0
filled_none mask = record { below = omega arith; few = omega arith; size = refl; rest = refl; others = refl }

-- one zero less
drop-one : (list : List ℕ) (count n : ℕ) → drop count list ≡ replicate n 0 → drop (count + 1) list ≡ replicate (n - 1) 0
drop-one list count n e = sym (drop-drop 1 count list) ∙ ap (drop {A = ℕ} 1) e ∙ less n
  where
    less : (n : ℕ) → drop {A = ℕ} 1 (replicate n 0) ≡ replicate (n - 1) 0
    less zero = refl
    less (suc n) = ap (λ (k : ℕ). replicate k 0) (let e : n ≡ suc n - 1 = omega arith in e)

module _ {mask : ℕ} {list : List ℕ} {count c : ℕ} (f : Filled mask list count c) where
  -- a column that is in the set
  pub filled_in : c < 8 → bit c mask ≡ 1 → Filled mask (set list count c) (count + 1) (c + 1)
  unfolding columns_from
  filled_in l e =
      let on : 8 - c ≡ suc (8 - (c + 1)) = omega arith in
      let z : columns_from c (8 - c) mask ≡ c ∷ columns_from (c + 1) (8 - (c + 1)) mask = rw (on, eq-eqb (bit c mask) 1 e, add-one c) in
      let q : take (count + 1) (set list count c) ≡ take count list ++ (c ∷ []) =
      ap (λ (n : ℕ). take n (set list count c)) (add-one count) ∙ take-suc-set list count c (omega (arith, f.few, f.size)) in
      record {
        below = omega arith;
        few = omega (arith, f.few);
        size = length-set list count c ∙ f.size;
        rest = rw q (append_assoc (take count list) (c ∷ []) (columns_from (c + 1) (8 - (c + 1)) mask)
            ∙ ap (λ (r : List ℕ). take count list ++ r) (sym z) ∙ f.rest);
        others = drop-set-lt (count + 1) list count c (omega arith) ∙ drop-one list count (8 - count) f.others
            ∙ ap (λ (n : ℕ). replicate n 0) (let e : 8 - count - 1 ≡ 8 - (count + 1) = omega arith in e);
      }

  -- and one that is not
  pub left_out : c < 8 → ¬ (bit c mask ≡ 1) → Filled mask list count (c + 1)
  unfolding columns_from
  left_out l n =
      let on : 8 - c ≡ suc (8 - (c + 1)) = omega arith in
      let z : columns_from c (8 - c) mask ≡ columns_from (c + 1) (8 - (c + 1)) mask = rw (on, ne_eqb (bit c mask) 1 n, add-one c) in
      record { below = omega arith; few = omega (arith, f.few); size = f.size; rest = rw (← z) f.rest; others = f.others }

  pub listed : 8 ≤ c → ColumnsListed mask (record { list = list; count = count })
  unfolding columns_from
  listed h =
      let z : c ≡ 8 = omega (arith, f.below) in
      let w : take count list ++ [] ≡ columns_of mask = rw z at f.rest in
      record { size = f.size; few = omega (arith, f.below, f.few); are = sym (append-nil (take count list)) ∙ w; others = f.others }
