-- `ask --known` takes what `ask --tune` prints: the list of a set's columns is read as these columns, for which `build_for` then builds the plan.
use mathlib.Core.Path.{◌≡◌, sym}
use mathlib.Core.List.{List}
use Prim.Native.Nat.{ℕ, zero, suc, ◌+◌, ◌^◌, ◌/◌, ◌≤◌, ◌<◌}
use native.Mathlib.Nat.{pow-suc, div-div-eq-div-mul}
use native.Mathlib.Omega.{arith}
use lib.Dec.{eqb}
use lib.ListN.{length, take}
use borrow.Author.Tests.{eqb-false}
use Rattle.term.proofs.Tests.{cond-case}
use Rattle.answer.specs.Jobs.{bit}
use Rattle.liked.specs.Liked.{columns_from, columns_of}
use Rattle.known.specs.Known.{Listing, list_text}
use Rattle.std.specs.Prelude.{Option, Some}
use Rattle.known.proofs.ReadBack.{Small, read_back}

-- the columns of a mask: numbers below 8, at most so many, and some where a bit is set
small-from : (c left mask : ℕ) → c + left < 9 → Small (columns_from c left mask)
unfolding columns_from
small-from c zero mask h = tt
small-from c (suc left) mask h =
    let more = small-from (suc c) left mask (omega arith) in
    cond-case (eqb (bit c mask) 1) Small (λ t. (omega arith, more)) (λ f. more)

few-from : (c left mask : ℕ) → length (columns_from c left mask) ≤ left
unfolding columns_from
few-from c zero mask = omega arith
few-from c (suc left) mask =
    let more = few-from (suc c) left mask in
    cond-case (eqb (bit c mask) 1) (λ (l : List ℕ). length l ≤ suc left) (λ t. omega arith) (λ f. omega arith)

some-from : (c left mask : ℕ) → 0 < mask / 2 ^ c → mask / 2 ^ c < 2 ^ left → 0 < length (columns_from c left mask)
unfolding columns_from
some-from c zero mask h g = absurd (omega arith)
some-from c (suc left) mask h g =
    let half : mask / 2 ^ suc c ≡ mask / 2 ^ c / 2 = rw (pow-suc 2 c) (sym (div-div-eq-div-mul mask (2 ^ c) 2)) in
    cond-case (eqb (bit c mask) 1) (λ (l : List ℕ). 0 < length l) (λ t. omega arith)
    (λ f.
    let even = eqb-false (bit c mask) 1 f in
    some-from (suc c) left mask (omega (arith, half, even)) (omega (arith, half, pow-suc 2 left)))

pub taken : (mask : ℕ) {room room' : List ℕ} {r : Option ℕ} → 0 < mask → mask < 2 ^ 8 → 8 ≤ length room
    → Listing (list_text 0 (columns_of mask)) room room' r
    → (r ≡ Some (length (columns_of mask))) × (take (length (columns_of mask)) room' ≡ columns_of mask)
taken mask h g l p =
    let few = few-from 0 8 mask in
    read_back (columns_of mask) (some-from 0 8 mask (omega arith) (omega arith)) (small-from 0 8 mask (omega arith)) (omega arith) p
