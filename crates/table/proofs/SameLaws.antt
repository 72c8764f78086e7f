-- SAME (02, W-208): a table is refused so exactly where a row that is complete, has no variable and stands before begins.
use mathlib.Core.Path.{◌≡◌, refl, sym, ap, subst, ◌∙◌}
use mathlib.Core.Logic.{◌↔◌, ◌⊎◌, inl, inr, ⊎_elim}
use mathlib.Core.Bool.{Bool, true, false, ◌&&◌, ◌||◌}
use mathlib.Core.List.Memᴰ
use mathlib.Core.List.{List, [], ◌∷◌, ◌++◌, flatten, append_assoc, Memᴰ}
use Prim.Native.Nat.{ℕ, zero, suc, ◌+◌, ◌-◌, ◌≤◌, ◌<◌}
use native.Mathlib.Omega.{arith}
use lib.Dec.{eqb, leb, ltb}
use lib.ListN.{length, get_or, take, drop, length-append, take-append-drop}
use lib.Seq.{take_at, drop_at}
use Rattle.cell.specs.Cell.{Values, values_at}
use Rattle.refusal.specs.Refusal.{Refused, refused, reason_number}
use Rattle.refusal.specs.declared.Reason.{Reason}
use Rattle.refusal.specs.declared.Reason.TheVariants as reason
use Rattle.refusal.specs.declared.Input.TheVariants as input
use Rattle.refusal.specs.Read.{Read, read, refuse, when, and_then}
use Rattle.table.specs.All.{All}
use Rattle.table.specs.Table.{Met, met, bad_term, counted, cell_tests, terms_from, row_before, doubled, rows_from, table, table_of, Row, appear, Ground, Apart}
use Rattle.table.specs.Table.{row_of, Distinct, Repeats, RowRepeats}
use Rattle.table.proofs.ReadLaws.{apart, refuse-one, passed-other, inside, within-bounds}
use Rattle.table.proofs.AllLaws.{all-members}
use Rattle.table.proofs.ApartLaws.{is-doubled, tested-apart, apart-tested, doubled-has, has-among, ground-none}
use Rattle.table.proofs.RowsLaws.{RowsAre, rows-put, read-row, reads-row, later-apart}
use Rattle.table.proofs.WholeLaws.{whole, whole_part}
use Rattle.table.proofs.Accepted.{two_cells}
use Rattle.limits.specs.Limits.{most_table_cells}

-- NO REFUSAL OF TERMS IS SAME OR EXTRA: their numbers are at most 7
few : {A : Type 0} (b row : Bool) (r : Reason) (p : ℕ) (R : Read A) {f : Refused} → reason_number r ≤ 7 → (R ≡ refuse f → f.number ≤ 7)
    → when b (bad_term row r p) R ≡ refuse f → f.number ≤ 7
few true row r p R h k e = omega (arith, ap (λ (g : Refused). g.number) (refuse-one e))
few false row r p R h k e = k e

few-tests : {A : Type 0} (row : Bool) (v : Values) (vars p : ℕ) (R : Read A) {f : Refused} → (R ≡ refuse f → f.number ≤ 7)
    → cell_tests row v vars p R ≡ refuse f → f.number ≤ 7
few-tests row v vars p R k =
    few (eqb v.kind 3) row reason.Cell p _ (omega arith)
    (few (eqb v.kind 0 && ltb vars v.number) row reason.Fresh p R (omega arith) k)

pub terms-few : (row : Bool) (xs : List ℕ) (k used vars p : ℕ) {f : Refused} → terms_from row xs k used vars p ≡ refuse f → f.number ≤ 7
unfolding terms_from
terms-few row [] zero used vars p e = apart e
terms-few row [] (suc k) used vars p e =
    few (row && leb 32 used) row reason.Long p _ (omega arith) (λ h. omega (arith, ap (λ (g : Refused). g.number) (refuse-one h))) e
terms-few row (c ∷ xs) zero used vars p e = apart e
terms-few row (c ∷ xs) (suc k) used vars p e =
    few (row && leb 32 used) row reason.Long p _ (omega arith)
    (few-tests row (values_at c) vars p _
    (terms-few row xs ((values_at c).args + k) (suc used) (counted (values_at c) vars) (suc p)))
    e

-- ROWS, some having been seen before, and then one that stands among those or these
record Doubling (w n : ℕ) (seen : List (List ℕ)) (xs : List ℕ) (p q : ℕ) : Type 0 where
  rows : List (List ℕ)
  row : List ℕ
  rest : List ℕ
  cells : xs ≡ flatten rows ++ (row ++ rest)
  fewer : length rows < n
  are : RowsAre w (length rows) seen (flatten rows) rows
  whole : Row w row
  ground : Ground row
  again : Memᴰ row rows ⊎ Memᴰ row seen
  at : q ≡ p + length (flatten rows)

module _ (w n : ℕ) (seen : List (List ℕ)) (xs : List ℕ) (p q : ℕ) where
  -- the row at hand is such a one
  doubling-here : (m : Met) → terms_from true xs w 0 0 p ≡ read m → doubled m (take (m.next - p) xs) seen ≡ true → p ≡ q
      → Doubling w (suc n) seen xs p q
  unfolding flatten
  doubling-here m e d z =
      let i = read-row w xs p e in
      let h = doubled-has m (take (m.next - p) xs) seen i.1 d in
      record {
        rows = [];
        row = take (m.next - p) xs;
        rest = drop (m.next - p) xs;
        cells = sym (take-append-drop (m.next - p) xs);
        fewer = omega arith;
        are = record { count = refl; cells = refl; each = tt; apart = tt; distinct = tt };
        whole = i.0;
        ground = h.0;
        again = inr h.1;
        at = omega arith;
      }

  -- or it comes after the row at hand
  doubling-later : (r ys : List ℕ) → xs ≡ r ++ ys → Row w r → Apart seen r → Doubling w n (r ∷ seen) ys (p + length r) q
      → Doubling w (suc n) seen xs p q
  unfolding flatten
  doubling-later r ys x i a o = record {
    rows = r ∷ o.rows;
    row = o.row;
    rest = o.rest;
    cells = x ∙ ap (λ (s : List ℕ). r ++ s) o.cells ∙ sym (append_assoc r (flatten o.rows) (o.row ++ o.rest));
    fewer = omega (arith, o.fewer);
    are = rows-put refl i a o.are;
    whole = o.whole;
    ground = o.ground;
    again = ⊎_elim (λ m. inl (Memᴰ.tail m)) (λ m. ⊎_elim (λ e. inl (Memᴰ.head e)) inr (Memᴰ.cases_cons m)) o.again;
    at = o.at ∙ omega (arith, length-append r (flatten o.rows));
  }

before-refused : (r : List ℕ) (R : Read (List (List ℕ))) {f : Refused} → row_before r R ≡ refuse f → R ≡ refuse f
before-refused r (read rows) e = apart e
before-refused r (refuse g) e = ap refuse (refuse-one e)

-- where a row that is read ends
row_ends : (w : ℕ) (xs : List ℕ) (p : ℕ) {m : Met} → terms_from true xs w 0 0 p ≡ read m → m.next ≡ p + length (take (m.next - p) xs)
row_ends w xs p e = let o = whole true xs w p e in o.next ∙ ap (λ (r : List ℕ). p + length r) (sym (whole_part o).0)

doubling : (w n : ℕ) (seen : List (List ℕ)) (xs : List ℕ) (p q : ℕ)
    → rows_from w n seen xs p ≡ refuse (refused reason.Same input.Table q) → Doubling w n seen xs p q
unfolding rows_from
doubling w zero seen [] p q e = apart e
doubling w zero seen (c ∷ xs) p q e = absurd (omega (arith, ap (λ (g : Refused). g.number) (refuse-one e)))
doubling w (suc n) seen xs p q e = by-terms (terms_from true xs w 0 0 p) refl e (λ r ys k. doubling w n (r ∷ seen) ys k q)
  where
    same : ℕ → Read (List (List ℕ))
    same k = refuse (refused reason.Same input.Table k)

    by-terms : (R : Read Met) → terms_from true xs w 0 0 p ≡ R
        → and_then R (λ (m : Met). let r = take (m.next - p) xs in when (doubled m r seen) (refused reason.Same input.Table p)
        (row_before r (rows_from w n (r ∷ seen) (drop (m.next - p) xs) m.next))) ≡ same q
        → ((r ys : List ℕ) (k : ℕ) → rows_from w n (r ∷ seen) ys k ≡ same q → Doubling w n (r ∷ seen) ys k q)
        → Doubling w (suc n) seen xs p q
    by-terms (refuse f) h k ih = absurd (omega (arith, terms-few true xs w 0 0 p h, ap (λ (g : Refused). g.number) (refuse-one k)))
    by-terms (read m) h k ih = by-test (doubled m r seen) refl k
      where
        r : List ℕ
        r = take (m.next - p) xs

        by-test : (b : Bool) → doubled m r seen ≡ b → when b (refused reason.Same input.Table p)
            (row_before r (rows_from w n (r ∷ seen) (drop (m.next - p) xs) m.next)) ≡ same q
            → Doubling w (suc n) seen xs p q
        by-test true d k = doubling-here w n seen xs p q m h d (ap (λ (g : Refused). g.place) (refuse-one k))
        by-test false d k =
            let i = read-row w xs p h in
            let o = ih r (drop (m.next - p) xs) m.next (before-refused r _ k) in
            doubling-later w n seen xs p q r (drop (m.next - p) xs) (sym (take-append-drop (m.next - p) xs)) i.0
            (tested-apart m r seen i.1 d) (subst (λ (k : ℕ). Doubling w n (r ∷ seen) (drop (m.next - p) xs) k q) (row_ends w xs p h) o)

-- and the other way round
module _ (w : ℕ) (row rest : List ℕ) (i : Row w row) (g : Ground row) where
  doubled-at : (n : ℕ) (seen rows : List (List ℕ)) (p : ℕ) → length rows < n → All (Row w) rows → All (Apart seen) rows → Distinct rows
      → Memᴰ row rows ⊎ Memᴰ row seen
      → rows_from w n seen (flatten rows ++ (row ++ rest)) p ≡ refuse (refused reason.Same input.Table (p + length (flatten rows)))
  unfolding rows_from flatten
  doubled-at zero seen rows p l e a d m = absurd (omega arith)
  doubled-at (suc n) seen [] p l e a d m =
      let k : length row ≡ p + length row - p = omega arith in
      let z : p + 0 ≡ p = omega arith in
      let h = ⊎_elim (λ n. absurd (Memᴰ.not-nil n)) (has-among row seen) m in
      let t = is-doubled (met (p + length row) (length (appear [] row))) row seen (ap length (ground-none row g)) h in
      rw (reads-row i rest p, take_at row rest (p + length row - p) k, t, z)
  doubled-at (suc n) seen (r ∷ rs) p l e a d m =
      let k : length r ≡ p + length r - p = omega arith in
      let ys = flatten rs ++ (row ++ rest) in
      let t = apart-tested (met (p + length r) (length (appear [] r))) r seen refl a.0 in
      let o = doubled-at n (r ∷ seen) rs (p + length r) (omega arith) e.1 (later-apart seen r rs a.1 d.0) d.1
      (⊎_elim (λ x. ⊎_elim (λ q. inr (Memᴰ.head q)) inl (Memᴰ.cases_cons x)) (λ x. inr (Memᴰ.tail x)) m) in
      let q : p + length r + length (flatten rs) ≡ p + length (r ++ flatten rs) = omega (arith, length-append r (flatten rs)) in
      rw (
        append_assoc r (flatten rs) (row ++ rest),
        reads-row e.0 ys p,
        take_at r ys (p + length r - p) k,
        t,
        drop_at r ys (p + length r - p) k,
        o,
        q,
      )

-- THE THEOREM
repeats : (t : List ℕ) (p : ℕ) → table_of t ≡ refuse (refused reason.Same input.Table p) → Repeats t p
unfolding table_of
repeats t p e =
    let a = passed-other (ltb (length t) 2 || ltb most_table_cells (length t)) _ _ (λ z. omega arith) e in
    let b = passed-other (ltb (get_or t 0 0) 1 || ltb 8 (get_or t 0 0)) _ _ (λ z. omega arith) a.1 in
    let c = passed-other (ltb (get_or t 1 0) 1 || ltb 64 (get_or t 1 0)) _ _ (λ z. omega arith) b.1 in
    let l = inside (length t) 2 most_table_cells a.0 in
    let o = doubling (get_or t 0 0) (get_or t 1 0) [] (drop 2 t) 2 p (then-refused (rows_from (get_or t 0 0) (get_or t 1 0) [] (drop 2 t) 2) c.1) in
    record {
      columns = get_or t 0 0;
      all = get_or t 1 0;
      rows = o.rows;
      row = o.row;
      rest = o.rest;
      cells = two_cells t l.0 ∙ ap (λ (ys : List ℕ). get_or t 0 0 ∷ (get_or t 1 0 ∷ ys)) o.cells;
      size = l.1;
      width = inside (get_or t 0 0) 1 8 b.0;
      count = (o.fewer, (inside (get_or t 1 0) 1 64 c.0).1);
      each = (o.whole, o.are.each);
      apart = o.are.distinct;
      ground = o.ground;
      again = ⊎_elim (λ m. m) (λ m. absurd (Memᴰ.not-nil m)) o.again;
      at = o.at;
    }
  where
    then-refused : (R : Read (List (List ℕ))) {f : Refused} → and_then R (λ (rows : List (List ℕ)). read (table (get_or t 0 0) rows)) ≡ refuse f
        → R ≡ refuse f
    then-refused (read rows) e = apart e
    then-refused (refuse g) e = ap refuse (refuse-one e)

repeats-refused : (t : List ℕ) (p : ℕ) → Repeats t p → table_of t ≡ refuse (refused reason.Same input.Table p)
unfolding table_of
repeats-refused t p o =
    let ys = flatten o.rows ++ (o.row ++ o.rest) in
    let n : All (Apart []) o.rows = all-members (Apart []) o.rows (λ s m g x. absurd (Memᴰ.not-nil x)) in
    let s = doubled-at o.columns o.row o.rest o.each.0 o.ground o.all [] o.rows 2 o.count.0 o.each.1 n o.apart
    (inl o.again) in
    let l : length t ≡ suc (suc (length ys)) = ap length o.cells in
    ap table_of o.cells
    ∙ rw (
      within-bounds (suc (suc (length ys))) 2 most_table_cells (omega arith) (omega (arith, o.size)),
      within-bounds o.columns 1 8 o.width.0 o.width.1,
      within-bounds o.all 1 64 (omega (arith, o.count.0)) o.count.1,
      s,
      ← o.at,
    )

-- 02, W-208, "SAME at the later row's first cell, when that row is complete, before anything of the next row and before EXTRA"
pub same-exactly : (t : List ℕ) (p : ℕ) → (table_of t ≡ refuse (refused reason.Same input.Table p)) ↔ Repeats t p
same-exactly t p = (repeats t p, repeats-refused t p)

-- A ROW BESIDE OTHERS
row-repeats : (w : ℕ) (others : List (List ℕ)) (xs : List ℕ) → row_of w others xs ≡ refuse (refused reason.Same input.Table 0)
    → RowRepeats w others xs
unfolding row_of
row-repeats w others xs e = by-terms (terms_from true xs w 0 0 0) refl e
  where
    same : Read ℕ
    same = refuse (refused reason.Same input.Table 0)

    rest : Met → Read ℕ
    rest m = when (ltb m.next (length xs)) (refused reason.Extra input.Table m.next) (read m.vars)

    by-terms : (R : Read Met) → terms_from true xs w 0 0 0 ≡ R
        → and_then R (λ (m : Met). when (doubled m (take m.next xs) others) (refused reason.Same input.Table 0) (rest m)) ≡ same
        → RowRepeats w others xs
    by-terms (refuse f) h k = absurd (omega (arith, terms-few true xs w 0 0 0 h, ap (λ (g : Refused). g.number) (refuse-one k)))
    by-terms (read m) h k = by-test (doubled m (take m.next xs) others) refl k
      where
        by-test : (b : Bool) → doubled m (take m.next xs) others ≡ b → when b (refused reason.Same input.Table 0) (rest m) ≡ same
            → RowRepeats w others xs
        by-test true d k =
            let z : m.next - 0 ≡ m.next = omega arith in
            let i = rw z at (read-row w xs 0 h) in
            let g = doubled-has m (take m.next xs) others i.1 d in
            record {
              row = take m.next xs;
              rest = drop m.next xs;
              cells = sym (take-append-drop m.next xs);
              whole = i.0;
              ground = g.0;
              again = g.1;
            }
        by-test false d k = apart (passed-other (ltb m.next (length xs)) _ _ (λ z. omega arith) k).1

row-repeats-refused : (w : ℕ) (others : List (List ℕ)) (xs : List ℕ) → RowRepeats w others xs
    → row_of w others xs ≡ refuse (refused reason.Same input.Table 0)
unfolding row_of
row-repeats-refused w others xs o =
    let t = is-doubled (met (0 + length o.row) (length (appear [] o.row))) o.row others (ap length (ground-none o.row o.ground))
    (has-among o.row others o.again) in
    ap (row_of w others) o.cells
    ∙ rw (reads-row o.whole o.rest 0, take_at o.row o.rest (0 + length o.row) (omega arith), t)

-- 02, W-208, "W-207's edits obey it too, against every other row, at 0 .. before EXTRA"
pub row-same-exactly : (w : ℕ) (others : List (List ℕ)) (xs : List ℕ)
    → (row_of w others xs ≡ refuse (refused reason.Same input.Table 0)) ↔ RowRepeats w others xs
row-same-exactly w others xs = (row-repeats w others xs, row-repeats-refused w others xs)
