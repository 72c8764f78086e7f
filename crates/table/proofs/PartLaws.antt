-- Where the rows of a table stand: each starts where the one before it ends, and the last ends with the table.
use mathlib.Core.Path.{◌≡◌, refl, sym, ◌∙◌, ap}
use mathlib.Core.List.{List, [], ◌∷◌, ◌++◌, flatten, append_assoc}
use Prim.Native.Nat.{ℕ, zero, suc, ◌+◌, ◌-◌, ◌≤◌, ◌<◌}
use native.Mathlib.Numerals.{add-one}
use native.Mathlib.Decide.{dec_lt}
use mathlib.Core.Logic.{by_cases}
use native.Mathlib.Omega.{arith}
use lib.ListN.{length, get_or, take, drop, replicate, length-append, get_or-append, get_or-eq_default}
use lib.Seq.{take-append_seam, drop-append_seam, get_or-append-add}
use Rattle.term.proofs.Lists.{get_d-zeros}
use Rattle.table.specs.declared.Part.{Part}
use Rattle.refusal.specs.Refusal.{Refused, answered, turned}
use Rattle.refusal.specs.Read.{Read, read, refuse}
use Rattle.table.specs.Table.{Table, table_of, starts, starts_in, table_says, row_in, RowPlace}
use Rattle.table.proofs.RowsLaws.{length-starts}
use Rattle.table.proofs.Accepted.{is-table}

-- where a row starts, and where the last one ends
start-next : (p : ℕ) (rows : List (List ℕ)) (r : ℕ) → suc r < length rows → get_or (starts p rows) (suc r) 0 ≡ get_or (starts p rows) r 0 + length (get_or rows r [])
unfolding starts
start-next p [] r h = absurd (omega arith)
start-next p (x ∷ []) r h = absurd (omega arith)
start-next p (x ∷ (y ∷ rows)) zero h = refl
start-next p (x ∷ (y ∷ rows)) (suc r) h = start-next (p + length x) (y ∷ rows) r (omega arith)

start-last : (p : ℕ) (rows : List (List ℕ)) (r : ℕ) → suc r ≡ length rows → get_or (starts p rows) r 0 + length (get_or rows r []) ≡ p + length (flatten rows)
unfolding starts flatten
start-last p [] r h = absurd (omega arith)
start-last p (x ∷ []) zero h = omega (arith, length-append x [])
start-last p (x ∷ []) (suc r) h = absurd (omega arith)
start-last p (x ∷ (y ∷ rows)) zero h = absurd (omega arith)
start-last p (x ∷ (y ∷ rows)) (suc r) h = omega (arith, start-last (p + length x) (y ∷ rows) r (omega arith), length-append x (flatten (y ∷ rows)))

start_is : (p : ℕ) (rows : List (List ℕ)) (r : ℕ) → r < length rows → get_or (starts p rows) r 0 ≡ p + length (flatten (take r rows))
unfolding starts flatten
start_is p [] r h = absurd (omega arith)
start_is p (row ∷ rows) zero h = omega arith
start_is p (row ∷ rows) (suc r) h =
    start_is (p + length row) rows r (omega arith) ∙ omega (arith, length-append row (flatten (take r rows)))

start-within : (p : ℕ) (rows : List (List ℕ)) (r : ℕ) → r < length rows → get_or (starts p rows) r 0 + length (get_or rows r []) ≤ p + length (flatten rows)
unfolding starts flatten
start-within p [] r h = absurd (omega arith)
start-within p (x ∷ rows) zero h = omega (arith, length-append x (flatten rows))
start-within p (x ∷ rows) (suc r) h = omega (arith, start-within (p + length x) rows r (omega arith), length-append x (flatten rows))

-- the cells from a row's start on begin with the row
row_at : (pre : List ℕ) (rows : List (List ℕ)) (r : ℕ) → r < length rows
    → take (length (get_or rows r [])) (drop (get_or (starts (length pre) rows) r 0) (pre ++ flatten rows)) ≡ get_or rows r []
unfolding starts flatten
row_at pre [] r h = absurd (omega arith)
row_at pre (x ∷ rows) zero h = rw (drop-append_seam, take-append_seam)
row_at pre (x ∷ rows) (suc r) h =
    let n = length-append pre x in
    rw (← append_assoc pre x (flatten rows), ← n) (row_at (pre ++ x) rows r (omega arith))

-- a start that is noted is a row's, and beyond the rows 0 is noted
module _ (T : Table) (r : ℕ) where
  pub noted : r < length T.rows → get_or (starts_in (read T)) r 0 ≡ get_or (starts 2 T.rows) r 0
  noted h = get_or-append (starts 2 T.rows) _ 0 r (omega (arith, length-starts 2 T.rows))

  -- a row begins after the cells of those before it
  pub start-at : r < length T.rows → get_or (starts_in (read T)) r 0 ≡ 2 + length (flatten (take r T.rows))
  start-at h = noted h ∙ start_is 2 T.rows r h

  none : length T.rows ≤ r → get_or (starts_in (read T)) r 0 ≡ 0
  none h =
      let l = length-starts 2 T.rows in
      let e : length (starts 2 T.rows) + (r - length T.rows) ≡ r = omega arith in
      rw e at (get_or-append-add (starts 2 T.rows) (replicate (64 - length T.rows) 0) (r - length T.rows) 0)
      ∙ get_d-zeros (64 - length T.rows) (r - length T.rows)

-- what an answer for a table tells of its reading
pub says-read : (t : Read Table) {w n : ℕ} → answered w n ≡ table_says t → (T : Table) × (t ≡ read T) × (T.width ≡ w) × (length T.rows ≡ n)
says-read (read T) e = (T, refl, cc, cc)
says-read (refuse f) e = absurd (let z : ◌≡◌ {A = ℕ} 0 1 = cc in omega arith)

pub says-turned : (t : Read Table) {f : Refused} → turned f ≡ table_says t → t ≡ refuse f
says-turned (read T) e = absurd (let z : ◌≡◌ {A = ℕ} 0 1 = cc in omega arith)
says-turned (refuse f) e = ap refuse (cc)

-- the place of a row, by the cases of the code
abbrev pub part : ℕ → ℕ → Part
part s e = record { start = s; end = e }

pub place-turned : (t : Read Table) (r : ℕ) {f : Refused} → t ≡ refuse f → RowPlace t r (part 0 0)
place-turned t r e = rw e (record { start = sym (get_d-zeros 64 r); end = refl })

module _ (t : List ℕ) {T : Table} (g : table_of t ≡ read T) (r : ℕ) where
  -- the table's cells: two, and the rows
  pub all-cells : t ≡ (T.width ∷ (length T.rows ∷ [])) ++ flatten T.rows
  all-cells = (is-table t g).cells

  beyond : length T.rows ≤ r → get_or T.rows r [] ≡ []
  beyond h = get_or-eq_default T.rows [] h

  pub place_none : length T.rows ≤ r → RowPlace (table_of t) r (part 0 0)
  place_none h = rw g (record { start = sym (none T r h); end = rw (beyond h) })

  module _ {S : List ℕ} (s : S ≡ starts_in (table_of t)) where
    pub place-next : r + 1 < length T.rows → RowPlace (table_of t) r (part (get_or S r 0) (get_or S (r + 1) 0))
    place-next h =
        rw (s, g) (record {
          start = refl;
          end = rw add-one (noted T (suc r) (omega arith) ∙ start-next 2 T.rows r (omega arith)
              ∙ rw (noted T r (omega arith)));
        })

    pub place-last : r + 1 ≡ length T.rows → RowPlace (table_of t) r (part (get_or S r 0) (length t))
    place-last h =
        let l : length t ≡ 2 + length (flatten T.rows) = ap length all-cells ∙ omega arith in
        rw (s, g) (record { start = refl; end = l ∙ sym (rw (noted T r (omega arith)) (start-last 2 T.rows r (omega arith))) })

  -- the cells of a row are those at its place
  pub cells_at : take (length (get_or T.rows r [])) (drop (get_or (starts_in (read T)) r 0) t) ≡ get_or T.rows r []
  cells_at =
      by_cases (dec_lt r (length T.rows))
      (λ (h : r < length T.rows). rw (noted T r h) (rw (← all-cells) at (row_at (T.width ∷ (length T.rows ∷ [])) T.rows r h)))
      (λ h. rw (beyond (omega arith)))

  place-within : get_or (starts_in (read T)) r 0 + length (get_or T.rows r []) ≤ length t
  place-within =
      let l : length t ≡ 2 + length (flatten T.rows) = ap length all-cells ∙ omega arith in
      by_cases (dec_lt r (length T.rows))
      (λ (h : r < length T.rows). omega (arith, noted T r h, start-within 2 T.rows r h))
      (λ h. let z : length (get_or T.rows r []) ≡ 0 = ap length (beyond (omega arith)) in omega (arith, none T r (omega arith)))

-- for any table and any number
row-part : (t : List ℕ) (r : ℕ) → take (length (row_in (table_of t) r)) (drop (get_or (starts_in (table_of t)) r 0) t) ≡ row_in (table_of t) r
row-part t r = go (table_of t) refl
  where
    go : (R : Read Table) → table_of t ≡ R → take (length (row_in R r)) (drop (get_or (starts_in R) r 0) t) ≡ row_in R r
    go (read T) g = cells_at t g r
    go (refuse f) g = refl

part-within : (t : List ℕ) (r : ℕ) → get_or (starts_in (table_of t)) r 0 + length (row_in (table_of t) r) ≤ length t
part-within t r = go (table_of t) refl
  where
    go : (R : Read Table) → table_of t ≡ R → get_or (starts_in R) r 0 + length (row_in R r) ≤ length t
    go (read T) g = place-within t g r
    go (refuse f) g = omega (arith, get_d-zeros 64 r)

module _ (t : List ℕ) (r : ℕ) {p : Part} (l : RowPlace (table_of t) r p) where
  pub place_inside : (p.start ≤ p.end) × (p.end ≤ length t)
  place_inside = let w = part-within t r in (omega (arith, l.start, l.end), omega (arith, l.start, l.end))

  pub place-cells : take (p.end - p.start) (drop p.start t) ≡ row_in (table_of t) r
  place-cells =
      let n : p.end - p.start ≡ length (row_in (table_of t) r) = omega (arith, l.end) in
      rw (n, l.start) (row-part t r)
