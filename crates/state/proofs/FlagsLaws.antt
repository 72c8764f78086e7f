-- Flags as bits: what closing a place makes of them, and the test.
use Prim.Native.Nat.{ℕ, zero, suc, ◌+◌, ◌-◌, ◌*◌, ◌/◌, ◌%◌, ◌^◌, ◌≤◌, ◌<◌, max}
use mathlib.Core.Path.{◌≡◌, refl, sym, ap, ◌∙◌}
use mathlib.Core.Bool.{Bool, true, false, cond, not, ◌&&◌, ◌||◌}
use mathlib.Core.List.{List, [], ◌∷◌, ◌++◌}
use native.Mathlib.Nat.{mul_assoc, mul_comm, mul_left_comm, mul-le-mul, mul-le-mul_left, mul-le-mul_right, suc-mul, mul-suc}
use lib.Bits.{bit_and, and_mask}
use mathlib.Core.Logic.{◌≢◌}
use lib.Pow.{mod-pow-add, shr-shr, shr_le, split, pow_mono, pow-add}
use native.Mathlib.Omega.{arith}
use lib.Dec.{eqb, leb, ltb, eqb-suc-zero}
use borrow.Author.Tests.{eq-eqb, ne_eqb, lt-ltb, le-ltb, ltb-false, leb-true, leb-false}
use lib.ListN.{length, get_or, drop, drop_of_length-le, replicate}
use lib.Seq.{drop-cons}
use native.Mathlib.Numerals.{add-one}
use Rattle.term.proofs.Tests.{cond-case}
use Rattle.plan.specs.Named.{flag, spread, any_named, may, set_flag, set_flags, flags_of, any_past}
use Rattle.state.specs.Flags.{flags_in, spread_in, may_in, spread_of, with_column, mask_from, past_from}

-- by halves, as the bits are read
spread_by : (i a n : ℕ) → ℕ
spread_by zero a n = n % 2 * (2 ^ a - 1) + 2 ^ a * (n / 2)
spread_by (suc i) a n = n % 2 + 2 * spread_by i a (n / 2)

-- a power is at least 1, and twice the one before
power : (a : ℕ) → (1 ≤ 2 ^ a) × (2 ^ suc a ≡ 2 * 2 ^ a)
power a = (one a, omega arith)
  where
    one : (a : ℕ) → 1 ≤ 2 ^ a
    one zero = omega arith
    one (suc a) = omega (arith, one a)

double : (a h : ℕ) → 2 ^ suc a * h ≡ 2 * (2 ^ a * h)
double a h = ap (λ (x : ℕ). x * h) (power a).1 ∙ mul_assoc 2 (2 ^ a) h

-- a bit a times, and then the other bits
repeated : (a k b h : ℕ) → b < 2 → flags_in (a + k) (b * (2 ^ a - 1) + 2 ^ a * h) ≡ replicate a (eqb b 1) ++ flags_in k h
unfolding flags_in
repeated zero k b h l =
    let e : 0 + k ≡ k = omega arith in
    let z : b * (2 ^ 0 - 1) + 2 ^ 0 * h ≡ h = omega arith in
    rw (e, z)
repeated (suc a) k b h l = go b l (λ b l. repeated a k b h l)
  where
    e : suc a + k ≡ suc (a + k)
    e = omega arith

    go : (b : ℕ) → b < 2 → ((b : ℕ) → b < 2 → flags_in (a + k) (b * (2 ^ a - 1) + 2 ^ a * h) ≡ replicate a (eqb b 1) ++ flags_in k h)
        → flags_in (suc a + k) (b * (2 ^ suc a - 1) + 2 ^ suc a * h) ≡ eqb b 1 ∷ (replicate a (eqb b 1) ++ flags_in k h)
    go zero l ih =
        let d : 2 ^ suc a * h ≡ 2 * (2 ^ a * h) = double a h in
        let m : (0 * (2 ^ suc a - 1) + 2 ^ suc a * h) % 2 ≡ 0 = omega arith in
        let q : (0 * (2 ^ suc a - 1) + 2 ^ suc a * h) / 2 ≡ 0 * (2 ^ a - 1) + 2 ^ a * h = omega arith in
        rw (e, m, q) (ap (λ (l : List Bool). eqb 0 1 ∷ l) (ih 0 l))
    go (suc zero) l ih =
        let d : 2 ^ suc a * h ≡ 2 * (2 ^ a * h) = double a h in
        let m : (1 * (2 ^ suc a - 1) + 2 ^ suc a * h) % 2 ≡ 1 = omega (arith, power a) in
        let q : (1 * (2 ^ suc a - 1) + 2 ^ suc a * h) / 2 ≡ 1 * (2 ^ a - 1) + 2 ^ a * h = omega (arith, power a) in
        rw (e, m, q) (ap (λ (l : List Bool). eqb 1 1 ∷ l) (ih 1 l))
    go (suc (suc b)) l ih = absurd (omega arith)

-- CLOSING A PLACE, as bits, is `spread`
spread-by : (i a k n : ℕ) → i ≤ k → flags_in (a + k) (spread_by i a n) ≡ spread i a (flags_in (suc k) n)
unfolding flags_in spread_by
spread-by zero a k n h = repeated a k (n % 2) (n / 2) (omega arith)
spread-by (suc i) a zero n h = absurd (omega arith)
spread-by (suc i) a (suc k) n h =
    let e : a + suc k ≡ suc (a + k) = omega arith in
    let m : (n % 2 + 2 * spread_by i a (n / 2)) % 2 ≡ n % 2 = omega arith in
    let q : (n % 2 + 2 * spread_by i a (n / 2)) / 2 ≡ spread_by i a (n / 2) = omega arith in
    rw (e, m, q) (ap (λ (l : List Bool). eqb (n % 2) 1 ∷ l) (spread-by i a k (n / 2) (omega arith)))

spread-in : (i a n : ℕ) → spread_in n i a ≡ spread_by i a n
unfolding spread_by
spread-in zero a n = let e : n / 2 ^ 0 ≡ n = omega arith in rw e (omega arith)
spread-in (suc i) a n =
    let j : i + 1 ≡ suc i = omega arith in
    let k : 1 + i ≡ suc i = omega arith in
    let m : n % 2 ^ suc i ≡ n / 2 % 2 ^ i * 2 + n % 2 = rw j at (mod-pow-add n i 1) in
    let d : n / 2 ^ suc i ≡ n / 2 / 2 ^ i = sym (rw k at (shr-shr n 1 i)) in
    let p = double i (n / 2 / 2 ^ i % 2 * (2 ^ a - 1) + 2 ^ a * (n / 2 / 2 ^ i / 2)) in
    rw (m, d) (omega (arith, p, spread-in i a (n / 2)))

-- there are never more bits than open places
few-by : (i a k n : ℕ) → i ≤ k → n < 2 ^ suc k → spread_by i a n < 2 ^ (a + k)
unfolding spread_by
few-by zero a k n h l =
    let s : 2 ^ a * suc (n / 2) ≤ 2 ^ a * 2 ^ k = mul-le-mul_left (2 ^ a) (omega (arith, power k)) in
    rw (pow-add 2 a k) (one (n % 2) (omega arith) (omega (arith, mul-suc (2 ^ a) (n / 2))))
  where
    one : (b : ℕ) → b < 2 → 2 ^ a + 2 ^ a * (n / 2) ≤ 2 ^ a * 2 ^ k → b * (2 ^ a - 1) + 2 ^ a * (n / 2) < 2 ^ a * 2 ^ k
    one zero l s = omega (arith, power a)
    one (suc zero) l s = omega (arith, power a)
    one (suc (suc b)) l s = absurd (omega arith)
few-by (suc i) a zero n h l = absurd (omega arith)
few-by (suc i) a (suc k) n h l =
    let e : a + suc k ≡ suc (a + k) = omega arith in
    rw e (omega (arith, power (a + k), few-by i a k (n / 2) (omega arith) (omega (arith, power (suc k)))))

-- BELOW A BRANCH, in the code's words: k + 1 places are open above it
module _ (n i a k : ℕ) (few : n < 2 ^ suc k) (room : k < 32) (place : i ≤ k) (args : a < 5) where
  spread-of : spread_of n i a ≡ spread_by i a n
  unfolding spread_of
  spread-of =
      let m : n < 2 ^ 32 = omega (arith, pow_mono {i = suc k} {j = 32} (omega arith)) in
      rw (lt-ltb n (2 ^ 32) m, lt-ltb i 32 (omega arith), lt-ltb a 5 args) (spread-in i a n)

  pub flags-below : flags_in (a + k) (spread_of n i a) ≡ spread i a (flags_in (suc k) n)
  flags-below = ap (flags_in (a + k)) spread-of ∙ spread-by i a k n place

  pub few-below : spread_of n i a < 2 ^ (a + k)
  few-below = rw spread-of (few-by i a k n place few)

-- where no bit is set, none is below
pub none_below : (n i a : ℕ) → n ≡ 0 → spread_of n i a ≡ 0
unfolding spread_of spread_by
none_below n i a e = rw e (cond-case (ltb i 32 && (ltb a 5 && ltb 0 (2 ^ 32))) (λ n. n ≡ 0) (λ e. spread-in i a 0 ∙ none i a) (λ e. refl))
  where
    none : (i a : ℕ) → spread_by i a 0 ≡ 0
    none zero a = omega arith
    none (suc i) a = omega (arith, none i a)

-- THE TEST: a place may be chosen where no bit is set, or its own is
pub flag-bit : (k i n : ℕ) → i < k → flag i (flags_in k n) ≡ eqb (n / 2 ^ i % 2) 1
unfolding flags_in
flag-bit zero i n h = absurd (omega arith)
flag-bit (suc k) zero n h = let e : n / 2 ^ 0 ≡ n = omega arith in rw e
flag-bit (suc k) (suc i) n h =
    let j : 1 + i ≡ suc i = omega arith in
    let d : n / 2 ^ suc i ≡ n / 2 / 2 ^ i = sym (rw j at (shr-shr n 1 i)) in
    rw d (flag-bit k i (n / 2) (omega arith))

pub any-bit : (k n : ℕ) → n < 2 ^ k → any_named (flags_in k n) ≡ not (eqb n 0)
unfolding flags_in
any-bit zero n h = let e : n ≡ 0 = omega arith in rw e
any-bit (suc k) n h = go (n % 2) refl (omega arith) (any-bit k (n / 2) (omega (arith, power k)))
  where
    go : (b : ℕ) → n % 2 ≡ b → b < 2 → any_named (flags_in k (n / 2)) ≡ not (eqb (n / 2) 0)
        → (eqb (n % 2) 1 || any_named (flags_in k (n / 2))) ≡ not (eqb n 0)
    go zero e l ih = rw e (ih ∙ same (n / 2) refl)
      where
        same : (h : ℕ) → n / 2 ≡ h → not (eqb (n / 2) 0) ≡ not (eqb n 0)
        same zero q = let z : n ≡ 0 = omega arith in rw z
        same (suc h) q = rw (ne_eqb (n / 2) 0 (λ z. omega arith), ne_eqb n 0 (λ z. omega arith))
    go (suc zero) e l ih = rw (e, ne_eqb n 0 (λ z. omega arith))
    go (suc (suc b)) e l ih = absurd (omega arith)

-- in the code's words, of k open places
pub may-bits : (k i n : ℕ) → i < k → k ≤ 64 → n < 2 ^ k → may_in n i ≡ may (flags_in k n) i
unfolding may_in
may-bits k i n h f l = rw (flag-bit k i n h, any-bit k n l, lt-ltb i 64 (omega arith)) (go (eqb n 0) (eqb (n / 2 ^ i % 2) 1))
  where
    go : (b c : Bool) → (b || c) ≡ (c || not (not b))
    go true true = refl
    go true false = refl
    go false true = refl
    go false false = refl

cut : (x : ℕ) → x < 2 ^ 64 → x % 2 ^ 64 ≡ x
cut x h = omega arith

-- THE CODE'S SHIFTS: at most 32 flags, and a cell has at most 4 arguments, so nothing is cut at 64 bits.
module _ (n i a : ℕ) (hn : n < 2 ^ 32) (ha : a < 5) where
  abbrev R : ℕ
  R = n / 2 ^ i

  up : R * 2 ^ i ≤ n
  up = omega (arith, split n i)

  few : 2 ^ a ≤ 16
  few = let h : a ≤ 4 = omega arith in let p : 2 ^ a ≤ 2 ^ 4 = pow_mono {i = a} {j = 4} h in omega arith

  -- what is shifted up by a and by i
  turn : (x : ℕ) → x * 2 ^ a * 2 ^ i ≡ 2 ^ a * (x * 2 ^ i)
  turn x = mul_assoc x (2 ^ a) (2 ^ i) ∙ mul_left_comm x (2 ^ a) (2 ^ i)

  pub shifted : (x : ℕ) → x ≤ R → x * 2 ^ a * 2 ^ i ≤ 16 * n
  shifted x h =
      let l : x * 2 ^ i ≤ n = omega (arith, mul-le-mul_right (2 ^ i) h, up) in
      omega (arith, turn x, mul-le-mul few l)

  pub high_small : (x : ℕ) → x ≤ R → x * 2 ^ a ≤ 16 * n
  high_small x h =
      let l : x ≤ n = omega (arith, shr_le n i) in
      omega (arith, mul-le-mul few l, mul_comm x (2 ^ a))

  pub low-is : n - R * 2 ^ i % 2 ^ 64 ≡ n % 2 ^ i
  low-is = let m : R * 2 ^ i % 2 ^ 64 ≡ R * 2 ^ i = cut (R * 2 ^ i) (omega (arith, up)) in rw m (omega (arith, split n i))

  pub even_is : R % 2 ≡ 0 → n % 2 ^ i + R / 2 * 2 ^ a * 2 ^ i ≡ spread_in n i a
  even_is e =
      let q : 0 * (2 ^ a - 1) + 2 ^ a * (R / 2) ≡ R / 2 * 2 ^ a = omega (arith, mul_comm (2 ^ a) (R / 2)) in
      rw (e, q) (omega (arith, mul_comm (2 ^ i) (R / 2 * 2 ^ a)))

  pub odd_is : R % 2 ≡ 1 → n % 2 ^ i + (2 ^ a - 1 + R / 2 * 2 ^ a) * 2 ^ i ≡ spread_in n i a
  odd_is e =
      let q : 1 * (2 ^ a - 1) + 2 ^ a * (R / 2) ≡ 2 ^ a - 1 + R / 2 * 2 ^ a = omega (arith, mul_comm (2 ^ a) (R / 2)) in
      rw (e, q) (omega (arith, mul_comm (2 ^ i) (2 ^ a - 1 + R / 2 * 2 ^ a)))

  pub odd-small : R % 2 ≡ 1 → (2 ^ a - 1 + R / 2 * 2 ^ a) * 2 ^ i ≤ 16 * n
  odd-small e =
      let s : suc (R / 2) * 2 ^ a ≡ R / 2 * 2 ^ a + 2 ^ a = suc-mul (R / 2) (2 ^ a) in
      let l : 2 ^ a - 1 + R / 2 * 2 ^ a ≤ suc (R / 2) * 2 ^ a = omega arith in
      omega (arith, mul-le-mul_right (2 ^ i) l, shifted (suc (R / 2)) (omega arith))

  -- the code's sums
  high_is : R / 2 * 2 ^ a % 2 ^ 64 ≡ R / 2 * 2 ^ a
  high_is = cut (R / 2 * 2 ^ a) (omega (arith, high_small (R / 2) (omega arith)))

  ones_is : 1 * 2 ^ a % 2 ^ 64 ≡ 2 ^ a
  ones_is = let e : 1 * 2 ^ a ≡ 2 ^ a = omega arith in rw e (cut (2 ^ a) (omega (arith, few)))

  pub even_sum : R % 2 ≡ 0 → n - R * 2 ^ i % 2 ^ 64 + R / 2 * 2 ^ a % 2 ^ 64 * 2 ^ i % 2 ^ 64 ≡ spread_in n i a
  even_sum e =
      let m : R / 2 * 2 ^ a * 2 ^ i % 2 ^ 64 ≡ R / 2 * 2 ^ a * 2 ^ i = cut (R / 2 * 2 ^ a * 2 ^ i) (omega (arith, shifted (R / 2) (omega arith))) in
      rw (low-is, high_is, m) (even_is e)

  pub odd-sum : R % 2 ≡ 1 → n - R * 2 ^ i % 2 ^ 64 + (1 * 2 ^ a % 2 ^ 64 - 1 + R / 2 * 2 ^ a % 2 ^ 64) * 2 ^ i % 2 ^ 64 ≡ spread_in n i a
  odd-sum e =
      let m : (2 ^ a - 1 + R / 2 * 2 ^ a) * 2 ^ i % 2 ^ 64 ≡ (2 ^ a - 1 + R / 2 * 2 ^ a) * 2 ^ i =
      cut ((2 ^ a - 1 + R / 2 * 2 ^ a) * 2 ^ i) (omega (arith, odd-small e)) in
      rw (low-is, high_is, ones_is, m) (odd_is e)

  pub even-few : R % 2 ≡ 0 → spread_in n i a ≤ 17 * n
  even-few e = omega (arith, even_is e, shifted (R / 2) (omega arith), split n i)

  pub odd-few : R % 2 ≡ 1 → spread_in n i a ≤ 17 * n
  odd-few e = omega (arith, odd_is e, odd-small e, split n i)

  pub low-less : R * 2 ^ i % 2 ^ 64 ≤ n
  low-less = let m : R * 2 ^ i % 2 ^ 64 ≡ R * 2 ^ i = cut (R * 2 ^ i) (omega (arith, up)) in omega (arith, up)

  pub some-ones : 1 ≤ 1 * 2 ^ a % 2 ^ 64
  some-ones = omega (arith, ones_is, (power a).0)

  pub ones-few : 1 * 2 ^ a % 2 ^ 64 - 1 + R / 2 * 2 ^ a % 2 ^ 64 ≤ 16 + 16 * n
  ones-few = omega (arith, ones_is, high_is, few, high_small (R / 2) (omega arith))

pub lowest : (x : ℕ) → bit_and x 1 ≡ x % 2
lowest x = and_mask x 1

pub is_odd : (x : ℕ) → bit_and x 1 ≢ 0 → x % 2 ≡ 1
is_odd x h = go (x % 2) refl (omega arith)
  where
    go : (b : ℕ) → x % 2 ≡ b → b < 2 → b ≡ 1
    go zero e l = absurd (h (lowest x ∙ e))
    go (suc zero) e l = refl
    go (suc (suc b)) e l = absurd (omega arith)

-- A LIST OF COLUMNS

-- a bit that is not set can be added
pub bit-room : (w m c : ℕ) → m < 2 ^ w → c < w → m / 2 ^ c % 2 ≡ 0 → m + 2 ^ c < 2 ^ w
bit-room zero m c h l e = absurd (omega arith)
bit-room (suc w) m zero h l e =
    let z : m / 2 ^ 0 ≡ m = omega arith in
    let r : m % 2 ≡ 0 = rw z at e in
    omega (arith, power w)
bit-room (suc w) m (suc c) h l e =
    let j : 1 + c ≡ suc c = omega arith in
    let d : m / 2 ^ suc c ≡ m / 2 / 2 ^ c = sym (rw j at (shr-shr m 1 c)) in
    omega (arith, power w, power c, bit-room w (m / 2) c (omega (arith, power w)) (omega arith) (rw d at e))

pub one_up : (c : ℕ) → c < 8 → 1 * 2 ^ c % 2 ^ 64 ≡ 2 ^ c
one_up c h =
    let e : 1 * 2 ^ c ≡ 2 ^ c = omega arith in
    let l : c ≤ 8 = omega arith in
    let p : 2 ^ c ≤ 2 ^ 8 = pow_mono {i = c} {j = 8} l in
    rw e (cut (2 ^ c) (omega arith))

-- the loop over the list: one number more, and the end
pub mask_step : (m i : ℕ) (xs : List ℕ) → i < length xs → mask_from m (drop i xs) ≡ mask_from (with_column m (get_or xs i 0)) (drop (i + 1) xs)
unfolding mask_from
mask_step m i xs h = rw (drop-cons xs i 0 h, add-one i)

pub past-step : (m i : ℕ) (xs : List ℕ) → i < length xs → past_from m (drop i xs) ≡ past_from (max m (get_or xs i 0 + 1)) (drop (i + 1) xs)
unfolding past_from
past-step m i xs h = rw (drop-cons xs i 0 h, add-one i)

pub mask_end : (m i : ℕ) (xs : List ℕ) → length xs ≤ i → mask_from m (drop i xs) ≡ m
unfolding mask_from
mask_end m i xs h = rw (drop_of_length-le xs h)

pub past_end : (m i : ℕ) (xs : List ℕ) → length xs ≤ i → past_from m (drop i xs) ≡ m
unfolding past_from
past_end m i xs h = rw (drop_of_length-le xs h)

-- a bit that is added, and one that is there
set-bit : (c k m : ℕ) → m / 2 ^ c % 2 ≡ 0 → flags_in k (m + 2 ^ c) ≡ set_flag c (flags_in k m)
unfolding flags_in
set-bit c zero m e = refl
set-bit zero (suc k) m e =
    let z : m / 2 ^ 0 ≡ m = omega arith in
    let r : (m + 2 ^ 0) % 2 ≡ 1 = omega arith in
    let q : (m + 2 ^ 0) / 2 ≡ m / 2 = omega arith in
    rw (r, q)
set-bit (suc c) (suc k) m e =
    let j : 1 + c ≡ suc c = omega arith in
    let d : m / 2 ^ suc c ≡ m / 2 / 2 ^ c = sym (rw j at (shr-shr m 1 c)) in
    let e' : m / 2 / 2 ^ c % 2 ≡ 0 = rw d at e in
    let r : (m + 2 ^ suc c) % 2 ≡ m % 2 = omega (arith, power c) in
    let q : (m + 2 ^ suc c) / 2 ≡ m / 2 + 2 ^ c = omega (arith, power c) in
    rw (r, q) (ap (λ (l : List Bool). eqb (m % 2) 1 ∷ l) (set-bit c k (m / 2) e'))

kept-bit : (c k m : ℕ) → m / 2 ^ c % 2 ≡ 1 → set_flag c (flags_in k m) ≡ flags_in k m
unfolding flags_in
kept-bit c zero m e = refl
kept-bit zero (suc k) m e = let r : m % 2 ≡ 1 = omega arith in rw r
kept-bit (suc c) (suc k) m e =
    let j : 1 + c ≡ suc c = omega arith in
    let d : m / 2 ^ suc c ≡ m / 2 / 2 ^ c = sym (rw j at (shr-shr m 1 c)) in
    ap (λ (l : List Bool). eqb (m % 2) 1 ∷ l) (kept-bit c k (m / 2) (rw d at e))

past-flag : (c : ℕ) (fs : List Bool) → length fs ≤ c → set_flag c fs ≡ fs
past-flag c [] h = refl
past-flag zero (f ∷ fs) h = absurd (omega arith)
past-flag (suc c) (f ∷ fs) h = ap (λ (l : List Bool). f ∷ l) (past-flag c fs (omega arith))

flags-length : (k n : ℕ) → length (flags_in k n) ≡ k
unfolding flags_in
flags-length zero n = refl
flags-length (suc k) n = ap suc (flags-length k (n / 2))

with-flag : (w m c : ℕ) → w ≤ 8 → flags_in w (with_column m c) ≡ set_flag c (flags_in w m)
with-flag w m c h = go (ltb c 8) refl (m / 2 ^ c % 2) refl (omega arith)
  where
    go : (b : Bool) → ltb c 8 ≡ b → (x : ℕ) → m / 2 ^ c % 2 ≡ x → x < 2
        → flags_in w (cond (b && eqb (m / 2 ^ c % 2) 0) (m + 2 ^ c) m) ≡ set_flag c (flags_in w m)
    go false e x q l = sym (past-flag c (flags_in w m) (omega (arith, flags-length w m, ltb-false c 8 e)))
    go true e zero q l = rw (eq-eqb (m / 2 ^ c % 2) 0 q) (set-bit c w m q)
    go true e (suc zero) q l = rw (ne_eqb (m / 2 ^ c % 2) 0 (λ z. omega arith)) (sym (kept-bit c w m q))
    go true e (suc (suc x)) q l = absurd (omega arith)

masked : (w m : ℕ) (columns : List ℕ) → w ≤ 8 → flags_in w (mask_from m columns) ≡ set_flags columns (flags_in w m)
unfolding mask_from set_flags
masked w m [] h = refl
masked w m (c ∷ columns) h = masked w (with_column m c) columns h ∙ ap (set_flags columns) (with-flag w m c h)

-- no bit is set
no_bits : (w : ℕ) → flags_in w 0 ≡ replicate w false
unfolding flags_in
no_bits zero = refl
no_bits (suc w) = ap (λ (l : List Bool). false ∷ l) (no_bits w)

pub zero_flags : (k j : ℕ) → flag j (flags_in k 0) ≡ false
unfolding flags_in
zero_flags zero j = refl
zero_flags (suc k) zero = refl
zero_flags (suc k) (suc j) = zero_flags k j

-- THE MASK IS THE LIST'S FLAGS, for a table of at most 8 columns
pub mask-flags : (w : ℕ) (columns : List ℕ) → w ≤ 8 → flags_in w (mask_from 0 columns) ≡ flags_of w columns
mask-flags w columns h = masked w 0 columns h ∙ ap (set_flags columns) (no_bits w)

-- and its bits are below `past`
with-room : (m p c : ℕ) → m < 2 ^ p → with_column m c < 2 ^ max p (c + 1)
with-room m p c h =
    let l : 2 ^ p ≤ 2 ^ max p (c + 1) = pow_mono {i = p} {j = max p (c + 1)} (omega arith) in
    go (ltb c 8) (m / 2 ^ c % 2) refl (omega arith)
  where
    go : (b : Bool) (x : ℕ) → m / 2 ^ c % 2 ≡ x → 2 ^ p ≤ 2 ^ max p (c + 1) → cond (b && eqb x 0) (m + 2 ^ c) m < 2 ^ max p (c + 1)
    go false x e l = omega arith
    go true zero e l = bit-room (max p (c + 1)) m c (omega arith) (omega arith) e
    go true (suc x) e l = rw (eqb-suc-zero x) (omega arith)

mask-past : (m p : ℕ) (columns : List ℕ) → m < 2 ^ p → mask_from m columns < 2 ^ past_from p columns
unfolding mask_from past_from
mask-past m p [] h = h
mask-past m p (c ∷ columns) h = mask-past (with_column m c) (max p (c + 1)) columns (with-room m p c h)

pub mask-few : (w : ℕ) (columns : List ℕ) → past_from 0 columns ≤ w → mask_from 0 columns < 2 ^ w
mask-few w columns h = omega (arith, mask-past 0 0 columns (omega arith), pow_mono {i = past_from 0 columns} {j = w} h)

-- COLUMN: some number of the list is not below the width exactly where that is below `past`
past_more : (p : ℕ) (columns : List ℕ) → p ≤ past_from p columns
unfolding past_from
past_more p [] = omega arith
past_more p (c ∷ columns) = omega (arith, past_more (max p (c + 1)) columns)

pub past-any : (w p : ℕ) (columns : List ℕ) → p ≤ w → ltb w (past_from p columns) ≡ any_past w columns
unfolding past_from
past-any w p [] h = le-ltb w p h
past-any w p (c ∷ columns) h = go (leb w c) refl (past-any w (max p (c + 1)) columns)
  where
    go : (b : Bool) → leb w c ≡ b → (max p (c + 1) ≤ w → ltb w (past_from (max p (c + 1)) columns) ≡ any_past w columns)
        → ltb w (past_from (max p (c + 1)) columns) ≡ b || any_past w columns
    go true e ih = lt-ltb w _ (omega (arith, leb-true w c e, past_more (max p (c + 1)) columns))
    go false e ih = ih (omega (arith, leb-false w c e))
