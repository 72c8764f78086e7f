-- A mask of open cells and the list it stands for: the bit that is found is the cell at the open place, and taking it away closes the place.
use mathlib.Core.Path.{◌≡◌, refl, sym, ap, ◌∙◌}
use mathlib.Core.Logic.{◌⊎◌, inl, inr, ⊎_elim, by_cases}
use mathlib.Core.Bool.{true, false, cond}
use mathlib.Core.List.{List, [], ◌∷◌}
use Prim.Native.Nat.{ℕ, zero, suc, ◌+◌, ◌-◌, ◌*◌, ◌/◌, ◌%◌, ◌^◌, ◌≤◌, ◌<◌, min}
use native.Mathlib.Nat.{zero-add, add-zero, div-one}
use native.Mathlib.Decide.{dec_lt}
use native.Mathlib.Omega.{arith}
use lib.Dec.{ltb}
use lib.ListN.{length, get_or, take, drop, set, replicate, length-set, drop_of_length-le}
use lib.Seq.{drop-cons, drop-drop, get_or-set_same, get_or-set_other}
use lib.Pow.{pow_mono, pow_pos, shl_exact, shr-shr}
use lib.Count.{count_trailing_zeros, under}
use borrow.Author.Tests.{eq-eqb, ne_eqb, lt-ltb, le-ltb}
use Rattle.cell.specs.Cell.{arity}
use Rattle.term.specs.Terms.{root, close}
use Rattle.term.proofs.Lists.{get_d-zeros}
use Rattle.state.specs.Mask.{odd, kept, bit_from, bit_at, without, full, end_at, OpenRows, ClosedAt}
use Rattle.state.specs.declared.mask.Closed.{Closed}

pub is_odd : (m : ℕ) → m % 2 ≡ 1 → odd m ≡ true
is_odd m h = eq-eqb _ _ h

pub is-even : (m : ℕ) → m % 2 ≡ 0 → odd m ≡ false
is-even m h = ne_eqb _ _ (λ (e : m % 2 ≡ 1). omega arith)

pub parity : (m : ℕ) → (m % 2 ≡ 1) ⊎ (m % 2 ≡ 0)
parity m = go (m % 2) refl
  where
    go : (r : ℕ) → m % 2 ≡ r → (m % 2 ≡ 1) ⊎ (m % 2 ≡ 0)
    go zero e = inr e
    go (suc r) e = inl (omega arith)

pub kept_set : (m c : ℕ) (xs : List ℕ) → m % 2 ≡ 1 → kept m (c ∷ xs) ≡ c ∷ kept (m / 2) xs
unfolding kept
kept_set m c xs h = rw (is_odd m h)

pub kept-unset : (m c : ℕ) (xs : List ℕ) → m % 2 ≡ 0 → kept m (c ∷ xs) ≡ kept (m / 2) xs
unfolding kept
kept-unset m c xs h = rw (is-even m h)

kept-nil : (m : ℕ) → kept m [] ≡ []
unfolding kept
kept-nil m = refl

-- The bit of an open place, j being the first cell's: there is no such place; or it is cell d, and the mask without bit d is the list with the place closed.
data Found (i m : ℕ) (xs : List ℕ) (j : ℕ) : ℕ → Type 0 where
  nowhere : root i (kept m xs) ≡ 0 → close i (kept m xs) ≡ kept m xs → Found i m xs j 32
  there : (d : ℕ) → d < length xs → 2 ^ d ≤ m → root i (kept m xs) ≡ get_or xs d 0 → close i (kept m xs) ≡ kept (m - 2 ^ d) xs → Found i m xs j (j + d)

module _ (m c : ℕ) (xs : List ℕ) (j : ℕ) where
  -- the first cell is the place
  here : m % 2 ≡ 1 → Found 0 m (c ∷ xs) j j
  unfolding root close
  here h =
      let e : (m - 1) % 2 ≡ 0 = omega arith in
      let f : (m - 1) / 2 ≡ m / 2 = omega arith in
      let g : Found 0 m (c ∷ xs) j (j + 0) = there 0 (omega arith) (omega arith) (rw (kept_set m c xs h))
      (rw (kept_set m c xs h, kept-unset (m - 1) c xs e, f)) in
      rw add-zero at g

  -- the first cell is looked at already
  skip : {i b : ℕ} → m % 2 ≡ 0 → Found i (m / 2) xs (j + 1) b → Found i m (c ∷ xs) j b
  skip {i} h (nowhere r l) = nowhere (rw (kept-unset m c xs h) r) (rw (kept-unset m c xs h) l)
  skip {i} h (there d s p r l) =
      let q : j + suc d ≡ j + 1 + d = omega arith in
      let e : (m - 2 ^ suc d) % 2 ≡ 0 = omega arith in
      let f : (m - 2 ^ suc d) / 2 ≡ m / 2 - 2 ^ d = omega arith in
      let g : Found i m (c ∷ xs) j (j + suc d) = there (suc d) (omega arith) (omega arith) (rw (kept-unset m c xs h) r)
      (rw (kept-unset m c xs h, kept-unset (m - 2 ^ suc d) c xs e, f) l) in
      rw q at g

  -- the first cell is open, and the place is after it
  pass : {i b : ℕ} → m % 2 ≡ 1 → Found (arity c + i) (m / 2) xs (j + 1) b → Found (suc i) m (c ∷ xs) j b
  unfolding root close
  pass {i} h (nowhere r l) = nowhere (rw (kept_set m c xs h) r) (rw (kept_set m c xs h) (ap (λ (ys : List ℕ). c ∷ ys) l))
  pass {i} h (there d s p r l) =
      let q : j + suc d ≡ j + 1 + d = omega arith in
      let e : (m - 2 ^ suc d) % 2 ≡ 1 = omega arith in
      let f : (m - 2 ^ suc d) / 2 ≡ m / 2 - 2 ^ d = omega arith in
      let g : Found (suc i) m (c ∷ xs) j (j + suc d) = there (suc d) (omega arith) (omega arith) (rw (kept_set m c xs h) r)
      (rw (kept_set m c xs h, kept_set (m - 2 ^ suc d) c xs e, f) (ap (λ (ys : List ℕ). c ∷ ys) l)) in
      rw q at g

find : (i m : ℕ) (xs : List ℕ) (j : ℕ) → Found i m xs j (bit_from j i m xs)
unfolding bit_from kept root close
find i m [] j = nowhere refl refl
find zero m (c ∷ xs) j =
    ⊎_elim (λ h. rw (is_odd m h) (here m c xs j h)) (λ h. rw (is-even m h) (skip m c xs j h (find zero (m / 2) xs (j + 1)))) (parity m)
find (suc i) m (c ∷ xs) j =
    ⊎_elim
    (λ h. rw (is_odd m h) (pass m c xs j h (find (arity c + i) (m / 2) xs (j + 1))))
    (λ h. rw (is-even m h) (skip m c xs j h (find (suc i) (m / 2) xs (j + 1))))
    (parity m)

-- a bit of a mask is below 32
bit-small : (d m : ℕ) → m < 2 ^ 32 → 2 ^ d ≤ m → d < 32
bit-small d m h l = by_cases (dec_lt d 32) (λ w. w) (λ w. absurd (let w' : 32 ≤ d = omega arith in let q = pow_mono w' in omega arith))

-- What is found at a bit, and where there is none.
pub record Open (i m : ℕ) (xs : List ℕ) (b : ℕ) : Type 0 where
  pub cell : root i (kept m xs) ≡ get_or xs b 0
  pub below : b < length xs
  pub bit : 2 ^ b ≤ m

module _ (i m : ℕ) (xs : List ℕ) where
  pub found : (b : ℕ) → b ≡ bit_at i m xs → b < 32 → Open i m xs b
  found b e h = go (find i m xs 0) (sym e)
    where
      go : {n : ℕ} → Found i m xs 0 n → n ≡ b → Open i m xs b
      go (nowhere r l) q = absurd (omega arith)
      go (there d s p r l) q = let w : d ≡ b = omega arith in rw (← w) (record { cell = r; below = s; bit = p })

  pub not_found : (b : ℕ) → b ≡ bit_at i m xs → m < 2 ^ 32 → 32 ≤ b → root i (kept m xs) ≡ 0
  not_found b e s h = go (find i m xs 0) (sym e)
    where
      go : {n : ℕ} → Found i m xs 0 n → n ≡ b → root i (kept m xs) ≡ 0
      go (nowhere r l) q = r
      go (there d t p r l) q = absurd (omega (arith, bit-small d m s p))

  -- The one lemma that links: the mask without the bit of an open place is the list with the place closed.
  kept-without : m < 2 ^ 32 → kept (without m (bit_at i m xs)) xs ≡ close i (kept m xs)
  kept-without h = go (find i m xs 0)
    where
      go : {b : ℕ} → Found i m xs 0 b → kept (without m b) xs ≡ close i (kept m xs)
      go (nowhere r l) = sym l
      go (there d s p r l) = rw (zero-add, lt-ltb d 32 (bit-small d m h p)) (sym l)

  pub closed_at : m < 2 ^ 32 → (r : Closed) → r.cell ≡ root i (kept m xs) → r.mask ≡ without m (bit_at i m xs) → ClosedAt i m xs r
  closed_at h r c e = record { cell = c; mask = e; list = rw e (kept-without h) }

-- the bit as it is shifted into place
pub bit_shifted : (b : ℕ) → b < 32 → 1 * 2 ^ b % 2 ^ 32 ≡ 2 ^ b
bit_shifted b h = let e : 1 * 2 ^ b ≡ 2 ^ b = omega arith in shl_exact {a = 1} 1 b 32 (omega arith) (omega arith) ∙ e

-- a row of n cells, all open
pub kept_full : (n : ℕ) (xs : List ℕ) → n ≤ 32 → kept (full n) xs ≡ take n xs
kept_full n xs h = ap (λ (m : ℕ). kept (m - 1) xs) (size n h) ∙ ones n xs
  where
    size : (n : ℕ) → n ≤ 32 → cond (ltb n 32) (2 ^ n) (2 ^ 32) ≡ 2 ^ n
    size n h = by_cases (dec_lt n 32) (λ w. rw (lt-ltb n 32 w)) (λ w. let e : n ≡ 32 = omega arith in rw e)

    ones : (n : ℕ) (xs : List ℕ) → kept (2 ^ n - 1) xs ≡ take n xs
    ones zero [] = kept-nil 0
    ones zero (c ∷ xs) = kept-unset 0 c xs refl ∙ ones zero xs
    ones (suc n) [] = kept-nil (2 ^ suc n - 1)
    ones (suc n) (c ∷ xs) =
        let q = pow_pos n in
        let e : (2 ^ suc n - 1) % 2 ≡ 1 = omega arith in
        let f : (2 ^ suc n - 1) / 2 ≡ 2 ^ n - 1 = omega arith in
        kept_set (2 ^ suc n - 1) c xs e ∙ rw f (ap (λ (ys : List ℕ). c ∷ ys) (ones n xs))

-- The loop that looks for the bit: it goes from one open cell to the next.

-- no open cell is left
pub bit-none : (j i : ℕ) (xs : List ℕ) → bit_from j i 0 xs ≡ 32
unfolding bit_from
bit-none j i [] = refl
bit-none j zero (c ∷ xs) = bit-none (j + 1) zero xs
bit-none j (suc i) (c ∷ xs) = bit-none (j + 1) (suc i) xs

-- there is no cell
pub bit-end : (i m : ℕ) (xs : List ℕ) (start : ℕ) → length xs ≤ start → bit_at i m (drop start xs) ≡ 32
unfolding bit_from
bit-end i m xs start h = rw (drop_of_length-le xs h)

-- a cell that is not open
bit-skip : (j i m : ℕ) (xs : List ℕ) → m % 2 ≡ 0 → bit_from j i m xs ≡ bit_from (j + 1) i (m / 2) (drop 1 xs)
unfolding bit_from
bit-skip j i m [] h = refl
bit-skip j zero m (c ∷ xs) h = rw (is-even m h)
bit-skip j (suc i) m (c ∷ xs) h = rw (is-even m h)

-- all that are not open, before the next that is
zeros : (n j i m : ℕ) (xs : List ℕ) → bit_from j i m xs ≡ bit_from (j + count_trailing_zeros n m) i (m / 2 ^ count_trailing_zeros n m) (drop (count_trailing_zeros n m) xs)
unfolding count_trailing_zeros
zeros zero j i m xs = rw (add-zero, div-one)
zeros (suc n) j i m xs = go (m % 2) refl (λ h. bit-skip j i m xs h ∙ zeros n (j + 1) i (m / 2) (drop 1 xs))
  where
    go : (r : ℕ) → m % 2 ≡ r
        → (m % 2 ≡ 0 → bit_from j i m xs ≡ bit_from (j + 1 + count_trailing_zeros n (m / 2)) i (m / 2 / 2 ^ count_trailing_zeros n (m / 2))
        (drop (count_trailing_zeros n (m / 2)) (drop 1 xs)))
        → bit_from j i m xs ≡ bit_from (j + under r (count_trailing_zeros n (m / 2))) i (m / 2 ^ under r (count_trailing_zeros n (m / 2)))
        (drop (under r (count_trailing_zeros n (m / 2))) xs)
    go zero e ih =
        let t : ℕ = count_trailing_zeros n (m / 2) in
        let q : j + suc t ≡ j + 1 + t = omega arith in
        let d : 1 + t ≡ suc t = omega arith in
        let a : drop t (drop 1 xs) ≡ drop (suc t) xs = drop-drop t 1 xs ∙ ap (λ (n : ℕ). drop n xs) d in
        let b : m / 2 / 2 ^ t ≡ m / 2 ^ suc t = shr-shr m 1 t ∙ ap (λ (n : ℕ). m / 2 ^ n) d in
        ih e ∙ rw (q, a, b)
    go (suc r) e ih = rw (add-zero, div-one)

zeros-odd : (n m : ℕ) → 0 < m → m < 2 ^ n → m / 2 ^ count_trailing_zeros n m % 2 ≡ 1
unfolding count_trailing_zeros
zeros-odd zero m p h = absurd (omega arith)
zeros-odd (suc n) m p h = go (m % 2) refl (λ e. zeros-odd n (m / 2) (omega arith) (omega arith))
  where
    go : (r : ℕ) → m % 2 ≡ r → (m % 2 ≡ 0 → m / 2 / 2 ^ count_trailing_zeros n (m / 2) % 2 ≡ 1) → m / 2 ^ under r (count_trailing_zeros n (m / 2)) % 2 ≡ 1
    go zero e ih = let t : ℕ = count_trailing_zeros n (m / 2) in let d : 1 + t ≡ suc t = omega arith in rw (← d, ← (shr-shr m 1 t)) (ih e)
    go (suc r) e ih = rw div-one (omega arith)

pub zeros-small : (n m : ℕ) → 0 < m → m < 2 ^ n → count_trailing_zeros n m < n
unfolding count_trailing_zeros
zeros-small zero m p h = absurd (omega arith)
zeros-small (suc n) m p h = go (m % 2) refl (λ e. zeros-small n (m / 2) (omega arith) (omega arith))
  where
    go : (r : ℕ) → m % 2 ≡ r → (m % 2 ≡ 0 → count_trailing_zeros n (m / 2) < n) → under r (count_trailing_zeros n (m / 2)) < suc n
    go zero e ih = omega (arith, ih e)
    go (suc r) e ih = omega arith

-- One turn of the loop: m is the mask from bit j on, z its zeros, and i the open places still to be passed.
module _ (xs : List ℕ) (start j i m : ℕ) (some : 0 < m) (small : m < 2 ^ 32) where
  abbrev z : ℕ
  z = count_trailing_zeros 32 m

  to-open : bit_from j i m (drop (start + j) xs) ≡ bit_from (j + z) i (m / 2 ^ z) (drop (start + (j + z)) xs)
  to-open = let q : start + j + z ≡ start + (j + z) = omega arith in zeros 32 j i m (drop (start + j) xs) ∙ rw (drop-drop, q)

  is_open : m / 2 ^ z % 2 ≡ 1
  is_open = zeros-odd 32 m some small

  -- the cells end before the open cell
  pub bit-out : length xs ≤ start + (j + z) → bit_from j i m (drop (start + j) xs) ≡ 32
  unfolding bit_from
  bit-out h = to-open ∙ rw (drop_of_length-le xs h)

  -- the open cell is the place
  pub bit-here : start + (j + z) < length xs → i ≡ 0 → bit_from j i m (drop (start + j) xs) ≡ j + z
  unfolding bit_from
  bit-here h e = to-open ∙ rw (e, drop-cons xs (start + (j + z)) 0 h, is_odd (m / 2 ^ z) is_open)

  -- the place is after it
  pub bit-more : start + (j + z) < length xs → 0 < i → bit_from j i m (drop (start + j) xs)
      ≡ bit_from (j + z + 1) (i - 1 + arity (get_or xs (start + (j + z)) 0)) (m / 2 ^ z / 2) (drop (start + (j + z + 1)) xs)
  unfolding bit_from
  bit-more h p =
      let a : ℕ = arity (get_or xs (start + (j + z)) 0) in
      let e : i ≡ suc (i - 1) = omega arith in
      let d : start + (j + z + 1) ≡ suc (start + (j + z)) = omega arith in
      let c : a + (i - 1) ≡ i - 1 + a = omega arith in
      to-open
      ∙ ap (λ (i : ℕ). bit_from (j + z) i (m / 2 ^ z) (drop (start + (j + z)) xs)) e
      ∙ rw (drop-cons xs (start + (j + z)) 0 h, is_odd (m / 2 ^ z) is_open, c, d)

-- The loop that opens the rows, from the last of n to the first: the rows from `row` on have their masks, and the row before them ends at `end`.
pub record Opening (ss : List ℕ) (n len : ℕ) (ms : List ℕ) (row end : ℕ) : Type 0 where
  pub size : length ms ≡ 64
  pub few : row ≤ n
  pub here : end ≡ cond (ltb row n) (get_or ss row 0) len
  pub rows : (r : ℕ) → row ≤ r → r < n → get_or ms r 0 ≡ full (end_at ss n len r - get_or ss r 0)
  pub others : (r : ℕ) → n ≤ r → get_or ms r 0 ≡ 0

module _ (ss : List ℕ) (n len : ℕ) where
  pub opening-none : (row : ℕ) → row ≡ n → Opening ss n len (replicate 64 0) row len
  opening-none row e = record {
    size = refl;
    few = omega arith;
    here = rw (le-ltb row n (omega arith));
    rows = λ r h l. absurd (omega arith);
    others = λ r h. get_d-zeros 64 r;
  }

  pub opening-one : (ms : List ℕ) (row end r m : ℕ) → r + 1 ≡ row → n ≤ 64 → m ≡ full (end - get_or ss r 0) → Opening ss n len ms row end
      → Opening ss n len (set ms r m) r (get_or ss r 0)
  opening-one ms row end r m q h e o = record {
    size = length-set ms r m ∙ o.size;
    few = omega (arith, o.few);
    here = rw (lt-ltb r n (omega (arith, o.few)));
    rows = at;
    others = λ s l. get_or-set_other ms r s m 0 (λ (z : s ≡ r). omega (arith, o.few)) ∙ o.others s l;
  }
    where
      at : (s : ℕ) → r ≤ s → s < n → get_or (set ms r m) s 0 ≡ full (end_at ss n len s - get_or ss s 0)
      at s a b =
          by_cases (dec_lt r s)
          (λ (l : r < s). get_or-set_other ms r s m 0 (λ (z : s ≡ r). omega arith) ∙ o.rows s (omega arith) b)
          (λ l. let z : s ≡ r = omega arith in rw z (get_or-set_same ms r m 0 (omega (arith, o.size)) ∙ rw (e, o.here, q)))

pub opening-all : {ss : List ℕ} {n len : ℕ} {ms : List ℕ} {row end : ℕ} → row ≡ 0 → Opening ss (min n 64) len ms row end → OpenRows ss n len ms
opening-all e o = record { size = o.size; rows = λ r l. o.rows r (omega arith) l; others = o.others }
