-- Rows found again by where they start, in the form in which the code compares them and reads on.
use mathlib.Core.Path.{◌≡◌, refl, sym, ◌∙◌, ap}
use mathlib.Core.Logic.{◌≢◌}
use mathlib.Core.Bool.{Bool, true, false, ◌||◌}
use mathlib.Core.List.{List, [], ◌∷◌}
use Prim.Native.Nat.{ℕ, zero, suc, ◌+◌, ◌-◌, ◌≤◌, ◌<◌}
use native.Mathlib.Numerals.{add-one}
use native.Mathlib.Omega.{arith}
use lib.Dec.{eqb}
use lib.ListN.{length, get_or, set, take, drop, length-drop, drop_of_length-le}
use lib.Seq.{drop-cons, take-nil, take_all, take-take, length-take-le, get_or-take, get_or-set_same, get_or-set_other}
use borrow.Author.Tests.{eq-eqb, ne_eqb, eqb-true, eqb-false}
use Rattle.term.proofs.Lists.{slice-take}
use Rattle.cell.specs.Same.{same, among}
use Rattle.slices.specs.Slices.{between}
use Rattle.samerows.specs.Starts.{rows_but, rows_lent, Ascends}

-- ROWS. Two lists that are the same from a place on, and at the place before it
pub same_back : (xs ys : List ℕ) (n : ℕ) → 0 < n → n ≤ length xs → length xs ≡ length ys → get_or xs (n - 1) 0 ≡ get_or ys (n - 1) 0
    → drop n xs ≡ drop n ys → drop (n - 1) xs ≡ drop (n - 1) ys
same_back xs ys n h k l e d =
    let m : suc (n - 1) ≡ n = omega arith in
    rw (drop-cons xs (n - 1) 0 (omega arith), drop-cons ys (n - 1) 0 (omega arith), m, e, d)

-- the last of so many rows
module _ (t S : List ℕ) (b : ℕ) where
  pub none_left : {n : ℕ} (x : List ℕ) (e : ℕ) → n ≡ 0 → among x (rows_but t S b n e) ≡ false
  unfolding rows_but among
  none_left x e z = rw z

  pub left_out : (n e : ℕ) → 0 < n → n - 1 ≡ b → rows_but t S b n e ≡ rows_but t S b (n - 1) (get_or S (n - 1) 0)
  unfolding rows_but
  left_out zero e h q = absurd (omega arith)
  left_out (suc n) e h q = let m : suc n - 1 ≡ n = omega arith in rw (eq-eqb n b (omega arith), m)

  module _ (x : List ℕ) (n e : ℕ) (h : 0 < n) (q : n - 1 ≢ b) where
    last_row : among x (rows_but t S b n e)
        ≡ (same x (between (get_or S (n - 1) 0) e t) || among x (rows_but t S b (n - 1) (get_or S (n - 1) 0)))
    unfolding among rows_but
    last_row = ap (among x) (shown n h q)
      where
        shown : (n : ℕ) → 0 < n → n - 1 ≢ b → rows_but t S b n e
            ≡ between (get_or S (n - 1) 0) e t ∷ rows_but t S b (n - 1) (get_or S (n - 1) 0)
        shown zero h q = absurd (omega arith)
        shown (suc n) h q = let m : suc n - 1 ≡ n = omega arith in rw (ne_eqb n b (λ z. q (omega arith)), m)

    pub found-last : same x (between (get_or S (n - 1) 0) e t) ≡ true → among x (rows_but t S b n e) ≡ true
    found-last f = last_row ∙ rw f

  pub not_last : (x : List ℕ) (n e : ℕ) → 0 < n → same x (between (get_or S (n - 1) 0) e t) ≡ false
      → among x (rows_but t S b n e) ≡ among x (rows_but t S b (n - 1) (get_or S (n - 1) 0))
  not_last x n e h f = go (eqb (n - 1) b) refl
    where
      go : (d : Bool) → eqb (n - 1) b ≡ d → among x (rows_but t S b n e) ≡ among x (rows_but t S b (n - 1) (get_or S (n - 1) 0))
      go true q = ap (among x) (left_out n e h (eqb-true (n - 1) b q))
      go false q = last_row x n e h (eqb-false (n - 1) b q) ∙ rw f

-- FOUND AGAIN. Starts after so many, and cells after the last row, are not looked at
starts-cut : (t S : List ℕ) (b n k e : ℕ) → n ≤ k → rows_but t (take k S) b n e ≡ rows_but t S b n e
unfolding rows_but
starts-cut t S b zero k e h = refl
starts-cut t S b (suc n) k e h = rw (get_or-take k S n 0 (omega arith), starts-cut t S b n k (get_or S n 0) (omega arith))

pub rows-lent : (t S : List ℕ) (b n : ℕ) → n ≤ length S → rows_lent t (take n S) b ≡ rows_but t S b n (length t)
rows-lent t S b n h = rw (length-take-le n S h) (starts-cut t S b n n (length t) (omega arith))

part-within : (t : List ℕ) (s e k : ℕ) → s ≤ e → e ≤ k → between s e (take k t) ≡ between s e t
part-within t s e k h l =
    let q : s + (e - s) ≡ e = omega arith in
    sym (slice-take s (e - s) (take k t)) ∙ rw (q, take-take e k t l) (rw q at (slice-take s (e - s) t))

rows-within : (t S : List ℕ) (b n e k : ℕ) → Ascends S n e → e ≤ k → rows_but (take k t) S b n e ≡ rows_but t S b n e
unfolding rows_but Ascends
rows-within t S b zero e k a h = refl
rows-within t S b (suc n) e k a h =
    rw (rows-within t S b n (get_or S n 0) k a.1 (omega (arith, a.0)), part-within t (get_or S n 0) e k a.0 h)

-- none is left out where there are not so many
all-rows : (t S : List ℕ) (b c n e : ℕ) → n ≤ b → n ≤ c → rows_but t S b n e ≡ rows_but t S c n e
unfolding rows_but
all-rows t S b c zero e h k = refl
all-rows t S b c (suc n) e h k =
    rw (ne_eqb n b (λ q. omega arith), ne_eqb n c (λ q. omega arith), all-rows t S b c n (get_or S n 0) (omega arith) (omega arith))

-- the rows before place p, found in the cells and the starts before it
pub rows_before : (t S : List ℕ) (b n p : ℕ) → n ≤ b → n ≤ length S → p ≤ length t → Ascends S n p
    → rows_lent (take p t) (take n S) (length (take n S)) ≡ rows_but t S b n p
rows_before t S b n p h k l a =
    ap (rows_lent (take p t) (take n S)) (length-take-le n S k)
    ∙ rows-lent (take p t) S n n k
    ∙ ap (rows_but (take p t) S n n) (length-take-le p t l)
    ∙ rows-within t S n n p p a (omega arith)
    ∙ all-rows t S n b n p (omega arith) h

-- A START NOTED after so many changes nothing of them
start-after : (t S : List ℕ) (b n e i p : ℕ) → n ≤ i → rows_but t (set S i p) b n e ≡ rows_but t S b n e
unfolding rows_but
start-after t S b zero e i p h = refl
start-after t S b (suc n) e i p h =
    rw (get_or-set_other S i n p 0 (λ q. omega arith), start-after t S b n (get_or S n 0) i p (omega arith))

ascends-after : (S : List ℕ) (n e i p : ℕ) → n ≤ i → Ascends S n e → Ascends (set S i p) n e
unfolding Ascends
ascends-after S zero e i p h a = a
ascends-after S (suc n) e i p h a =
    rw (get_or-set_other S i n p 0 (λ q. omega arith)) (a.0, ascends-after S n (get_or S n 0) i p (omega arith) a.1)

-- one row more, from p up to e
module _ (S : List ℕ) (n p : ℕ) (h : n < length S) where
  pub row-noted : (t : List ℕ) (b e : ℕ) → n ≢ b → rows_but t (set S n p) b (n + 1) e ≡ between p e t ∷ rows_but t S b n p
  unfolding rows_but
  row-noted t b e q = rw (add-one n) (rw (ne_eqb n b q, get_or-set_same S n p 0 h, start-after t S b n p n p (omega arith)))

  pub start-noted : {e : ℕ} → p ≤ e → Ascends S n p → Ascends (set S n p) (n + 1) e
  unfolding Ascends
  start-noted k a = rw (add-one n) (rw (get_or-set_same S n p 0 h) (k, ascends-after S n p n p (omega arith) a))
