-- A table, a goal and a row are accepted exactly when they are what 01 calls so, and a table's rows are then those that are read.
use mathlib.Core.Path.{◌≡◌, refl, sym, ◌∙◌, ap}
use mathlib.Core.Logic.{◌↔◌}
use mathlib.Core.Bool.{Bool, true, false, ◌||◌}
use mathlib.Core.List.Memᴰ
use mathlib.Core.List.{List, [], ◌∷◌, ◌++◌, flatten, append-nil, Memᴰ}
use Prim.Native.Nat.{ℕ, zero, suc, ◌+◌, ◌-◌, ◌*◌, ◌≤◌, ◌<◌}
use native.Mathlib.Omega.{arith}
use lib.Dec.{ltb}
use lib.ListN.{length, get_or, take, drop, length-append}
use lib.Seq.{take_all}
use borrow.Author.Tests.{le-ltb, ltb-false}
use Rattle.cell.specs.Cell.{is_var}
use Rattle.term.proofs.Lists.{nil-of-length}
use Rattle.table.specs.All.{All}
use Rattle.refusal.specs.Refusal.{refused}
use Rattle.refusal.specs.declared.Reason.TheVariants as reason
use Rattle.refusal.specs.declared.Input.TheVariants as input
use Rattle.refusal.specs.Read.{read, when}
use Rattle.table.specs.Table.{Met, met, Table, table, terms_from, rows_from, table_of, goal_of, row_of}
use Rattle.table.specs.Table.{doubled, appear, Head, Row, Apart, Distinct, IsTable, IsGoal}
use Rattle.table.proofs.ReadLaws.{not-both, passed, read_one, first, inside, within-bounds}
use Rattle.table.proofs.WholeLaws.{terms-pass, Whole, whole}
use Rattle.table.proofs.HeadLaws.{passed-head, head-passes, head-below, head_few}
use Rattle.table.proofs.RowsLaws.{RowsAre, rows_are, are-rows, read-row}
use Rattle.table.proofs.AllLaws.{all-members}
use Rattle.table.proofs.ApartLaws.{tested-apart, apart-tested}
use Rattle.limits.specs.Limits.{most_table_cells}

-- two cells, and what follows
pub two_cells : (t : List ℕ) → 2 ≤ length t → t ≡ get_or t 0 0 ∷ (get_or t 1 0 ∷ drop 2 t)
two_cells [] h = absurd (omega arith)
two_cells (a ∷ []) h = absurd (omega arith)
two_cells (a ∷ (b ∷ t)) h = refl

-- a table that is read
pub is-table : (t : List ℕ) {T : Table} → table_of t ≡ read T → IsTable t T.width T.rows
unfolding table_of
is-table t {T} e =
    let a = passed (ltb (length t) 2 || ltb most_table_cells (length t)) _ _ e in
    let b = passed (ltb (get_or t 0 0) 1 || ltb 8 (get_or t 0 0)) _ _ a.1 in
    let c = passed (ltb (get_or t 1 0) 1 || ltb 64 (get_or t 1 0)) _ _ b.1 in
    let f = first (rows_from (get_or t 0 0) (get_or t 1 0) [] (drop 2 t) 2) (λ (rows : List (List ℕ)). read (table (get_or t 0 0) rows)) c.1 in
    rw (← read_one f.2)
    (by_rows t (inside (length t) 2 most_table_cells a.0).0 (inside (get_or t 0 0) 1 8 b.0) (inside (get_or t 1 0) 1 64 c.0)
    (rows_are (get_or t 0 0) (get_or t 1 0) [] (drop 2 t) 2 f.1))
  where
    by_rows : (t : List ℕ) {rows : List (List ℕ)} → 2 ≤ length t → (1 ≤ get_or t 0 0) × (get_or t 0 0 ≤ 8) → (1 ≤ get_or t 1 0) × (get_or t 1 0 ≤ 64)
        → RowsAre (get_or t 0 0) (get_or t 1 0) [] (drop 2 t) rows → IsTable t (get_or t 0 0) rows
    by_rows t l w n r = record {
      cells = two_cells t l ∙ rw (r.cells, r.count);
      width = w;
      count = (omega (arith, r.count), omega (arith, r.count));
      each = r.each;
      apart = r.distinct;
    }

-- and has at most 2,050 cells
pub table-short : (t : List ℕ) {T : Table} → table_of t ≡ read T → length t ≤ most_table_cells
unfolding table_of
table-short t e = (inside (length t) 2 most_table_cells (passed (ltb (length t) 2 || ltb most_table_cells (length t)) _ _ e).0).1

-- rows of at most 32 cells
few-cells : (w : ℕ) (rows : List (List ℕ)) → All (Row w) rows → length (flatten rows) ≤ 32 * length rows
unfolding flatten
few-cells w [] a = omega arith
few-cells w (r ∷ rs) a = omega (arith, few-cells w rs a.1, a.0.short, length-append r (flatten rs))

-- rows of 01, as many as a table may have and none doubled, written after their width and number, are accepted as these rows
pub rows-accepted : (w : ℕ) (rows : List (List ℕ)) → (1 ≤ w) × (w ≤ 8) → (1 ≤ length rows) × (length rows ≤ 64)
    → All (Row w) rows → Distinct rows → table_of (w ∷ (length rows ∷ flatten rows)) ≡ read (table w rows)
unfolding table_of
rows-accepted w rows b c a d =
    let l = few-cells w rows a in
    rw (
      within-bounds (suc (suc (length (flatten rows)))) 2 most_table_cells (omega arith) (omega arith),
      within-bounds w 1 8 b.0 b.1,
      within-bounds (length rows) 1 64 c.0 c.1,
      are-rows w [] rows 2 a (all-members (Apart []) rows (λ s m g n. absurd (Memᴰ.not-nil n))) d,
    )

-- 01, "A table is: width (1 to 8), row count (1 to 64), then the rows": a table is accepted exactly when it is one, and then as these rows
pub table-accepted : (t : List ℕ) (w : ℕ) (rows : List (List ℕ)) → (table_of t ≡ read (table w rows)) ↔ IsTable t w rows
table-accepted t w rows = (is-table t, λ i. ap table_of i.cells ∙ rows-accepted w rows i.width i.count i.each i.apart)

-- terms that are read up to the end of a list are all of it
all_read : {row : Bool} {w : ℕ} {xs : List ℕ} {m : Met} (o : Whole row xs w 0 m) → ltb m.next (length xs) ≡ false → xs ≡ o.front.cells
all_read {xs = xs} {m} o e =
    let f = o.front in
    let l = ltb-false m.next (length xs) e in
    let n = length-append f.cells f.rest in
    let k = ap length f.split in
    let z : f.rest ≡ [] = nil-of-length f.rest (omega (arith, o.next)) in
    f.split ∙ ap (λ (s : List ℕ). f.cells ++ s) z ∙ append-nil f.cells

-- a goal that is read, with its number of variables
pub is-goal : (w : ℕ) (g : List ℕ) {v : ℕ} → goal_of w g ≡ read v → IsGoal w g × (v ≡ length (appear [] g))
unfolding goal_of
is-goal w g {v} e =
    let a = passed (ltb (length g) 1 || ltb 32 (length g)) _ _ e in
    let b = inside (length g) 1 32 a.0 in
    let f = first (terms_from false g w 0 0 0) (λ (m : Met). when (ltb m.next (length g)) (refused reason.Extra input.Goal m.next)
    (read m.vars)) a.1 in
    let c = passed (ltb f.0.next (length g)) _ _ f.2 in
    let o = whole false g w 0 f.1 in
    let h = by_whole o c.0 b.1 in
    (record { head = h.0; some = b.0 }, sym (read_one c.1) ∙ h.1)
  where
    by_whole : {w : ℕ} {g : List ℕ} {m : Met} → Whole false g w 0 m → ltb m.next (length g) ≡ false → length g ≤ 32
        → Head w g × (m.vars ≡ length (appear [] g))
    by_whole o e k = let q = all_read o e in rw q (passed-head o.front.terms (omega (arith, ap length q)) false 0 o.tested)

pub goal-is : (w : ℕ) (g : List ℕ) → IsGoal w g → goal_of w g ≡ read (length (appear [] g))
unfolding goal_of
goal-is w g i =
    let h : terms_from false g w 0 0 0 ≡ read (met (0 + length g) (length (appear [] g))) =
    rw append-nil at (terms-pass i.head.terms [] false 0 0 0 (λ r. not-both r refl)) ∙ rw (head-passes false 0 i.head) in
    rw (within-bounds (length g) 1 32 i.some i.head.short, h, le-ltb (0 + length g) (length g) (omega arith))

-- 01, "A goal is read with its table: width terms, 1 to 32 cells in all": a goal is accepted exactly when it is one
pub goal-accepted : (w : ℕ) (g : List ℕ) → ((v : ℕ) × (goal_of w g ≡ read v)) ↔ IsGoal w g
goal-accepted w g = (λ r. (is-goal w g r.1).0, λ i. (length (appear [] g), goal-is w g i))

-- a row that is read beside others
is_row : (w : ℕ) (rows : List (List ℕ)) (r : List ℕ) {v : ℕ} → row_of w rows r ≡ read v → Row w r × Apart rows r
unfolding row_of
is_row w rows r e =
    let f = first (terms_from true r w 0 0 0) _ e in
    let d = passed (doubled f.0 (take f.0.next r) rows) _ _ f.2 in
    let c = passed (ltb f.0.next (length r)) _ _ d.1 in
    let z : f.0.next - 0 ≡ f.0.next = omega arith in
    let i : Row w (take f.0.next r) × (f.0.vars ≡ length (appear [] (take f.0.next r))) = rw z at (read-row w r 0 f.1) in
    let k : Row w (take f.0.next r) × Apart rows (take f.0.next r) = (i.0, tested-apart f.0 _ rows i.1 d.0) in
    rw (take_all f.0.next r (ltb-false f.0.next (length r) c.0)) at k

row_is : (w : ℕ) (rows : List (List ℕ)) (r : List ℕ) → Row w r → Apart rows r → row_of w rows r ≡ read (length (appear [] r))
unfolding row_of
row_is w rows r i a =
    let h : terms_from true r w 0 0 0 ≡ read (met (0 + length r) (length (appear [] r))) =
    rw append-nil at (terms-pass i.terms [] true 0 0 0 (λ _. omega (arith, i.short))) ∙ rw (head-passes true 0 i) in
    let t = apart-tested (met (0 + length r) (length (appear [] r))) r rows refl a in
    rw (h, take_all (0 + length r) r (omega arith), t, le-ltb (0 + length r) (length r) (omega arith))

-- 01, "A row is width terms one after another, at most 32 cells", and W-208: a row beside others is accepted exactly when it is one, and
-- is not doubled among them
pub row-accepted : (w : ℕ) (rows : List (List ℕ)) (r : List ℕ) → ((v : ℕ) × (row_of w rows r ≡ read v)) ↔ (Row w r × Apart rows r)
row-accepted w rows r = (λ a. is_row w rows r a.1, λ i. (length (appear [] r), row_is w rows r i.0 i.1))

-- What an accepted table and goal have, for those who go on with them.

pub all-at : {A : Type 0} (P : A → Type 0) (xs : List A) (i : ℕ) (d : A) → All P xs → i < length xs → P (get_or xs i d)
all-at P [] i d a h = absurd (omega arith)
all-at P (x ∷ xs) zero d a h = a.0
all-at P (x ∷ xs) (suc i) d a h = all-at P xs i d a.1 (omega arith)

-- each row of an accepted table is a row of 01
pub accepted-row : (t : List ℕ) {T : Table} → table_of t ≡ read T → (r : ℕ) → r < length T.rows → Row T.width (get_or T.rows r [])
accepted-row t {T} e r h = all-at (Row T.width) T.rows r [] (is-table t e).each h

-- a variable of a row or goal is numbered below 32, since there are no more cells
pub few-variables : {w : ℕ} {xs : List ℕ} → Head w xs → (c : ℕ) → Memᴰ c xs → is_var c ≡ true → c < 32
few-variables h c m i = omega (arith, head-below h c m i, head_few h)
