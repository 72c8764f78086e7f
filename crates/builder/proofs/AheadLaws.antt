-- Masks without the cells of the first open terms: what stands open at the places after those, and what closing such a place leaves.
use mathlib.Core.Path.{◌≡◌, refl, sym, ap, ◌∙◌}
use mathlib.Core.Logic.{⊎_elim}
use mathlib.Core.Bool.{Bool, false}
use mathlib.Core.List.{List, [], ◌∷◌, map}
use Prim.Native.Nat.{ℕ, zero, suc, ◌+◌, ◌-◌, ◌*◌, ◌/◌, ◌%◌, ◌^◌, ◌≤◌, ◌<◌}
use native.Mathlib.Nat.{add-zero, mul_left_comm}
use native.Mathlib.Omega.{arith}
use lib.Dec.{eqb}
use lib.ListN.{get_or, drop}
use lib.Pow.{shr-shr}
use Rattle.cell.specs.Cell.{arity}
use Rattle.term.specs.Terms.{root}
use Rattle.state.specs.Column.{run_count}
use Rattle.state.specs.Mask.{odd, kept, bit_from, bit_at}
use Rattle.state.specs.States.{rows_at, rows_in}
use Rattle.state.proofs.MaskLaws.{is_odd, is-even, parity}
use Rattle.builder.specs.code.Ahead.{ahead_of, AheadIn}

pub ahead_none : (m : ℕ) (xs : List ℕ) → ahead_of 0 m xs ≡ m
unfolding ahead_of
ahead_none m [] = refl
ahead_none m (c ∷ xs) = refl

-- a mask whose first cell is not open
not-odd : (a : ℕ) → odd (2 * a) ≡ false
not-odd a = is-even (2 * a) (omega arith)

half : (a : ℕ) → 2 * a / 2 ≡ a
half a = omega arith

bit-twice : (o i a c : ℕ) (xs : List ℕ) → bit_from o i (2 * a) (c ∷ xs) ≡ bit_from (o + 1) i a xs
unfolding bit_from
bit-twice o zero a c xs = rw (not-odd a, half a)
bit-twice o (suc i) a c xs = rw (not-odd a, half a)

-- the cell at a place after those that are passed, and its bit
pub ahead-root : (i j m : ℕ) (xs : List ℕ) → root j (kept (ahead_of i m xs) xs) ≡ root (i + j) (kept m xs)
unfolding ahead_of root kept
ahead-root i j m [] = refl
ahead-root zero j m (c ∷ xs) = let e : 0 + j ≡ j = omega arith in rw e
ahead-root (suc i) j m (c ∷ xs) =
    let a : ℕ = ahead_of (arity c + i) (m / 2) xs in
    let b : ℕ = ahead_of (suc i) (m / 2) xs in
    let s : suc i + j ≡ suc (i + j) = omega arith in
    let q : arity c + i + j ≡ arity c + (i + j) = omega arith in
    ⊎_elim
    (λ (h : m % 2 ≡ 1). rw (s, is_odd m h, not-odd a, half a)
    (ahead-root (arity c + i) j (m / 2) xs ∙ ap (λ (n : ℕ). root n (kept (m / 2) xs)) q))
    (λ (h : m % 2 ≡ 0). rw (is-even m h, not-odd b, half b) (ahead-root (suc i) j (m / 2) xs))
    (parity m)

pub ahead-bit : (o i j m : ℕ) (xs : List ℕ) → bit_from o j (ahead_of i m xs) xs ≡ bit_from o (i + j) m xs
unfolding ahead_of bit_from
ahead-bit o i j m [] = refl
ahead-bit o zero j m (c ∷ xs) = let e : 0 + j ≡ j = omega arith in rw e
ahead-bit o (suc i) j m (c ∷ xs) =
    let s : suc i + j ≡ suc (i + j) = omega arith in
    let q : arity c + i + j ≡ arity c + (i + j) = omega arith in
    ⊎_elim
    (λ (h : m % 2 ≡ 1). rw (s, is_odd m h, bit-twice o j (ahead_of (arity c + i) (m / 2) xs) c xs)
    (ahead-bit (o + 1) (arity c + i) j (m / 2) xs ∙ ap (λ (n : ℕ). bit_from (o + 1) n (m / 2) xs) q))
    (λ (h : m % 2 ≡ 0). rw (s, is-even m h, bit-twice o j (ahead_of (suc i) (m / 2) xs) c xs)
    (ahead-bit (o + 1) (suc i) j (m / 2) xs ∙ ap (λ (n : ℕ). bit_from (o + 1) n (m / 2) xs) s))
    (parity m)

-- The bits above bit b, once that is taken away.
abbrev pub upper : ℕ → ℕ → ℕ
upper m b = (m - 2 ^ b) / 2 ^ b * 2 ^ b

upper-half : (m b : ℕ) → upper m (suc b) ≡ 2 * upper (m / 2) b
upper-half m b =
    let d : (m - 2 ^ suc b) / 2 ≡ m / 2 - 2 ^ b = omega arith in
    let n : 1 + b ≡ suc b = omega arith in
    let s : (m - 2 ^ suc b) / 2 / 2 ^ b ≡ (m - 2 ^ suc b) / 2 ^ suc b = rw n at (shr-shr (m - 2 ^ suc b) 1 b) in
    let p : 2 ^ suc b ≡ 2 * 2 ^ b = omega arith in
    let q : ℕ = (m / 2 - 2 ^ b) / 2 ^ b in
    let e : (m - 2 ^ suc b) / 2 ^ suc b ≡ q = sym s ∙ ap (λ (x : ℕ). x / 2 ^ b) d in
    ap (λ (x : ℕ). x * 2 ^ suc b) e ∙ ap (λ (x : ℕ). q * x) p ∙ mul_left_comm q 2 (2 ^ b)

-- Where place i is closed, what is ahead of it are the bits above its bit.
data Spot (i m : ℕ) (xs : List ℕ) (o : ℕ) : ℕ → Type 0 where
  nowhere : Spot i m xs o 32
  there : (d : ℕ) → 2 ^ d ≤ m → ahead_of i (m - 2 ^ d) xs ≡ upper m d → Spot i m xs o (o + d)

-- the place is not the first cell
deeper : (i j m c : ℕ) (xs : List ℕ) (o : ℕ) {b : ℕ}
    → ((d : ℕ) → 2 ^ suc d ≤ m → ahead_of i (m - 2 ^ suc d) (c ∷ xs) ≡ 2 * ahead_of j (m / 2 - 2 ^ d) xs)
    → Spot j (m / 2) xs (o + 1) b → Spot i m (c ∷ xs) o b
deeper i j m c xs o f nowhere = nowhere
deeper i j m c xs o f (there d p e) =
    let q : o + suc d ≡ o + 1 + d = omega arith in
    let l : 2 ^ suc d ≤ m = omega arith in
    let g : Spot i m (c ∷ xs) o (o + suc d) = there (suc d) l (f d l ∙ ap (λ (x : ℕ). 2 * x) e ∙ sym (upper-half m d)) in
    rw q at g

-- it is
here : (m c : ℕ) (xs : List ℕ) (o : ℕ) → m % 2 ≡ 1 → Spot 0 m (c ∷ xs) o o
here m c xs o h =
    let e : m - 2 ^ 0 ≡ upper m 0 = omega arith in
    let g : Spot 0 m (c ∷ xs) o (o + 0) = there 0 (omega arith) (ahead_none (m - 2 ^ 0) (c ∷ xs) ∙ e) in
    rw add-zero at g

module _ (m c : ℕ) (xs : List ℕ) (d : ℕ) (l : 2 ^ suc d ≤ m) where
  less : (m - 2 ^ suc d) / 2 ≡ m / 2 - 2 ^ d
  less = omega arith

  none-even : m % 2 ≡ 0 → ahead_of 0 (m - 2 ^ suc d) (c ∷ xs) ≡ 2 * ahead_of 0 (m / 2 - 2 ^ d) xs
  none-even h = rw (ahead_none (m - 2 ^ suc d) (c ∷ xs), ahead_none (m / 2 - 2 ^ d) xs) (omega arith)

  more-odd : (i : ℕ) → m % 2 ≡ 1 → ahead_of (suc i) (m - 2 ^ suc d) (c ∷ xs) ≡ 2 * ahead_of (arity c + i) (m / 2 - 2 ^ d) xs
  unfolding ahead_of
  more-odd i h = rw (is_odd (m - 2 ^ suc d) (omega arith), less)

  more-even : (i : ℕ) → m % 2 ≡ 0 → ahead_of (suc i) (m - 2 ^ suc d) (c ∷ xs) ≡ 2 * ahead_of (suc i) (m / 2 - 2 ^ d) xs
  unfolding ahead_of
  more-even i h = rw (is-even (m - 2 ^ suc d) (omega arith), less)

spot : (i m : ℕ) (xs : List ℕ) (o : ℕ) → Spot i m xs o (bit_from o i m xs)
unfolding bit_from
spot i m [] o = nowhere
spot zero m (c ∷ xs) o =
    ⊎_elim
    (λ (h : m % 2 ≡ 1). rw (is_odd m h) (here m c xs o h))
    (λ (h : m % 2 ≡ 0). rw (is-even m h) (deeper 0 0 m c xs o (λ d l. none-even m c xs d l h) (spot zero (m / 2) xs (o + 1))))
    (parity m)
spot (suc i) m (c ∷ xs) o =
    ⊎_elim
    (λ (h : m % 2 ≡ 1). rw (is_odd m h)
    (deeper (suc i) (arity c + i) m c xs o (λ d l. more-odd m c xs d l i h) (spot (arity c + i) (m / 2) xs (o + 1))))
    (λ (h : m % 2 ≡ 0). rw (is-even m h) (deeper (suc i) (suc i) m c xs o (λ d l. more-even m c xs d l i h) (spot (suc i) (m / 2) xs (o + 1))))
    (parity m)

pub ahead_upper : (i m : ℕ) (xs : List ℕ) (b : ℕ) → b ≡ bit_at i m xs → b < 32 → ahead_of i (m - 2 ^ b) xs ≡ upper m b
ahead_upper i m xs b e h = go (spot i m xs 0) (sym e)
  where
    go : {n : ℕ} → Spot i m xs 0 n → n ≡ b → ahead_of i (m - 2 ^ b) xs ≡ upper m b
    go nowhere q = absurd (omega arith)
    go (there d p a) q = let w : d ≡ b = omega arith in rw w at a

-- The column at a place after those that are passed.
module _ (t ss ms ls : List ℕ) (from : ℕ) where
  column-from : (n r j : ℕ) → ((s : ℕ) → r ≤ s → s < r + n → get_or ls s 0 ≡ ahead_of from (get_or ms s 0) (drop (get_or ss s 0) t))
      → map (root j) (rows_at t ss ls n r) ≡ map (root (from + j)) (rows_at t ss ms n r)
  unfolding rows_at
  column-from zero r j f = refl
  column-from (suc n) r j f =
      rw (
        f r (omega arith) (omega arith),
        ahead-root from j (get_or ms r 0) (drop (get_or ss r 0) t),
        column-from n (r + 1) j (λ s a b. f s (omega arith) (omega arith)),
      )

  column-ahead : {first end : ℕ} → AheadIn t ss ms ls from first end → (i : ℕ) → from ≤ i
      → map (root (i - from)) (rows_in t ss ls first end) ≡ map (root i) (rows_in t ss ms first end)
  column-ahead {first} {end} a i h =
      let e : from + (i - from) ≡ i = omega arith in
      rw e at (column-from (end - first) first (i - from) (λ s p q. a.each s p (omega arith)))

  -- and the test for one run there
  pub agreed-ahead : {first end : ℕ} → AheadIn t ss ms ls from first end → (i : ℕ) → from ≤ i → (b : Bool)
      → b ≡ eqb (run_count (map (root (i - from)) (rows_in t ss ls first end))) 1 → eqb (run_count (map (root i) (rows_in t ss ms first end))) 1 ≡ b
  agreed-ahead a i h b e = ap (λ (col : List ℕ). eqb (run_count col) 1) (sym (column-ahead a i h)) ∙ sym e
