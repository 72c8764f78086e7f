-- The loop that closes a place of the rows, each from the cells ahead of those that are passed.
use mathlib.Core.Path.{◌≡◌, refl, sym, ap, ◌∙◌}
use mathlib.Core.Logic.{by_cases}
use mathlib.Core.List.{List, map}
use Prim.Native.Nat.{ℕ, zero, suc, ◌+◌, ◌-◌, ◌/◌, ◌*◌, ◌%◌, ◌^◌, ◌≤◌, ◌<◌}
use native.Mathlib.Decide.{dec_lt}
use native.Mathlib.Omega.{arith}
use lib.ListN.{length, get_or, drop, set, length-set}
use lib.Pow.{split}
use lib.Seq.{drop-set-lt, get_or-set_same, get_or-set_other}
use borrow.Author.Tests.{lt-ltb, le-ltb}
use Rattle.term.specs.Terms.{root, close}
use Rattle.term.proofs.PlaceLaws.{close-length}
use Rattle.table.specs.All.{All}
use Rattle.plan.specs.code.Fits.{Fits}
use Rattle.state.specs.Mask.{kept, bit_at, without, ClosedAt}
use Rattle.state.specs.States.{row_at, rows_at, Same}
use Rattle.state.proofs.MaskLaws.{found, closed_at}
use Rattle.state.proofs.RowsLaws.{same_self, same_then}
use Rattle.builder.specs.code.Ahead.{ahead_of, ToCloseRow, ClosedRow, ToClose, ClosedAhead}
use Rattle.builder.proofs.AheadLaws.{ahead-bit, ahead_upper, upper}

-- One row, the bit of its place j ahead being b.
module _ {t : List ℕ} {start m a j : ℕ} (q : ToCloseRow t start m a j) (small : m < 2 ^ 32) (b : ℕ) (b-is : b ≡ bit_at j a (drop start t)) where
  abbrev i : ℕ
  i = q.from + j

  abbrev xs : List ℕ
  xs = drop start t

  bit_is : b ≡ bit_at i m xs
  bit_is = b-is ∙ ap (λ (n : ℕ). bit_at j n xs) q.ahead ∙ ahead-bit 0 q.from j m xs

  closed : ClosedAt i m xs (record { cell = root i (kept m xs); mask = without m (bit_at i m xs) })
  closed = closed_at i m xs small (record { cell = root i (kept m xs); mask = without m (bit_at i m xs) }) refl refl

  pub bit-small : b < 32
  bit-small =
      by_cases (dec_lt b 32) (λ w. w)
      (λ w. let e : kept m xs ≡ close i (kept m xs) = rw (← bit_is, le-ltb b 32 (omega arith)) at closed.list in
      absurd (omega (arith, ap length e, close-length i q.fits.0 q.inside)))

  pub bit-set : 2 ^ b ≤ m
  bit-set = (found i m xs b bit_is bit-small).bit

  pub row-closed : ClosedRow t start m i (m - 2 ^ b) ((m - 2 ^ b) / 2 ^ b * 2 ^ b % 2 ^ 32)
  row-closed =
      let l : upper m b < 2 ^ 32 = omega (arith, split (m - 2 ^ b) b) in
      let c : upper m b % 2 ^ 32 ≡ upper m b = omega arith in
      record {
        row = rw (← bit_is, lt-ltb b 32 bit-small) at closed.list;
        ahead = c ∙ sym (ahead_upper i m xs b bit_is bit-small);
      }

-- a row among those that fit
pub fits-at : (t ss ms : List ℕ) (k n first r : ℕ) → All (Fits 32 k) (rows_at t ss ms n first) → first ≤ r → r < first + n → Fits 32 k (row_at t ss ms r)
unfolding rows_at
fits-at t ss ms k zero first r f a b = absurd (omega arith)
fits-at t ss ms k (suc n) first r f a b =
    by_cases (dec_lt first r) (λ (l : first < r). fits-at t ss ms k n (first + 1) r f.1 (omega arith) (omega arith))
    (λ l. let e : r ≡ first = omega arith in rw e f.0)

-- THE LOOP: the rows before `row` are closed, the others are as they were.
pub record Closing (t ss ms ls ms₁ ls₁ : List ℕ) (i first end row : ℕ) : Type 0 where
  pub later : first ≤ row
  pub aheads : length ls₁ ≡ 64
  pub masks : Same end ms ms₁
  pub rows : (r : ℕ) → first ≤ r → r < row → row_at t ss ms₁ r ≡ close i (row_at t ss ms r)
  pub ahead : (r : ℕ) → first ≤ r → r < row → get_or ls₁ r 0 ≡ ahead_of i (get_or ms₁ r 0) (drop (get_or ss r 0) t)
  pub others : (r : ℕ) → row ≤ r → (get_or ms₁ r 0 ≡ get_or ms r 0) × (get_or ls₁ r 0 ≡ get_or ls r 0)

pub closing-start : {t ss ms ls : List ℕ} {j first end : ℕ} (q : ToClose t ss ms ls j first end)
    → Closing t ss ms ls ms ls (q.from + j) first end first
closing-start {ms = ms} {end = end} q = record {
  later = omega arith;
  aheads = q.aheads;
  masks = same_self end ms;
  rows = λ r a b. absurd (let z : ⊥ = omega arith in z);
  ahead = λ r a b. absurd (let z : ⊥ = omega arith in z);
  others = λ r a. (refl, refl);
}

module _ {t ss ms ls : List ℕ} {j first end : ℕ} (q : ToClose t ss ms ls j first end) {ms₁ ls₁ : List ℕ} {row : ℕ}
    (g : Closing t ss ms ls ms₁ ls₁ (q.from + j) first end row) where
  module _ (h : row < end) where
    pub as_it_was : get_or ms₁ row 0 ≡ get_or ms row 0
    as_it_was = (g.others row (omega arith)).0

    abbrev pub closing-row : ToCloseRow t (get_or ss row 0) (get_or ms₁ row 0) (get_or ls₁ row 0) j
    closing-row = record {
      from = q.from;
      opens = q.opens;
      inside = q.inside;
      ahead = (g.others row (omega arith)).1 ∙ q.ahead.each row g.later h ∙ rw as_it_was;
      fits = rw as_it_was (fits-at t ss ms q.opens (end - first) first row q.rows g.later (omega (arith, g.later)));
    }

    pub closing-next : (n l : ℕ) → ClosedRow t (get_or ss row 0) (get_or ms₁ row 0) (q.from + j) n l
        → Closing t ss ms ls (set ms₁ row n) (set ls₁ row l) (q.from + j) first end (row + 1)
    closing-next n l d =
        let size : length ms₁ ≡ 64 = g.masks.size ∙ q.masks in
        let inside : row < 64 = omega (arith, q.few) in
        let m' = get_or-set_same ms₁ row n 0 (omega arith) in
        let l' = get_or-set_same ls₁ row l 0 (omega (arith, g.aheads)) in
        record {
          later = omega (arith, g.later);
          aheads = length-set ls₁ row l ∙ g.aheads;
          masks = same_then end g.masks (record { size = length-set ms₁ row n; after = drop-set-lt end ms₁ row n h });
          rows = λ r a z. by_cases (dec_lt r row)
              (λ (w : r < row). rw (get_or-set_other ms₁ row r n 0 (λ (e : r ≡ row). omega arith)) (g.rows r a w))
              (λ w. let e : r ≡ row = omega arith in rw (e, m') (rw as_it_was at d.row));
          ahead = λ r a z. by_cases (dec_lt r row)
              (λ (w : r < row). rw (
                get_or-set_other ms₁ row r n 0 (λ (e : r ≡ row). omega arith),
                get_or-set_other ls₁ row r l 0 (λ (e : r ≡ row). omega arith),
              ) (g.ahead r a w))
              (λ w. let e : r ≡ row = omega arith in rw (e, m', l') d.ahead);
          others = λ r a. (
            get_or-set_other ms₁ row r n 0 (λ (e : r ≡ row). omega arith) ∙ (g.others r (omega arith)).0,
            get_or-set_other ls₁ row r l 0 (λ (e : r ≡ row). omega arith) ∙ (g.others r (omega arith)).1,
          );
        }

  rows_all : (n r : ℕ) → ((s : ℕ) → r ≤ s → s < r + n → row_at t ss ms₁ s ≡ close (q.from + j) (row_at t ss ms s))
      → rows_at t ss ms₁ n r ≡ map (close (q.from + j)) (rows_at t ss ms n r)
  unfolding rows_at
  rows_all zero r f = refl
  rows_all (suc n) r f = rw (f r (omega arith) (omega arith), rows_all n (r + 1) (λ s a b. f s (omega arith) (omega arith)))

  pub closing-done : end ≤ row → ClosedAhead t ss ms ms₁ ls₁ (q.from + j) first end
  closing-done h = record {
    rows = rows_all (end - first) first (λ s a b. g.rows s a (omega arith));
    ahead = record { each = λ r a b. g.ahead r a (omega arith) };
    aheads = g.aheads;
    masks = g.masks;
  }
