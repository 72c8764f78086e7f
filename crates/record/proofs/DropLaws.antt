-- The last row is dropped: from a record to the record of the other rows.
use mathlib.Core.Path.{◌≡◌, ap, ◌∙◌}
use mathlib.Core.List.{List, ◌∷◌, ◌++◌, flatten}
use Prim.Native.Nat.{ℕ, suc, ◌+◌, ◌-◌, ◌<◌}
use native.Mathlib.Omega.{arith}
use lib.ListN.{length, set, take, drop, replicate, length-append}
use lib.Seq.{sets, length-take-le}
use Rattle.refusal.specs.Read.{read}
use Rattle.table.specs.Table.{Table, table, table_of, Row}
use Rattle.table.proofs.Accepted.{is-table, rows-accepted}
use Rattle.table.proofs.AllLaws.{all_take}
use Rattle.table.proofs.ApartLaws.{distinct-take}
use Rattle.record.specs.Record.{cells_in, Holds}
use Rattle.record.specs.code.Zeros.{Cleared}
use Rattle.record.specs.code.Rows.{in_room}
use Rattle.record.proofs.KeptLaws.{dropped-kept}
use Rattle.record.proofs.PartLaws.{few-cells, kept-long, length-room, holds_parts, parts-hold}
use Rattle.record.proofs.StartLaws.{flatten-split}
use Rattle.record.proofs.StoreLaws.{kept-lent, kept_put, back-cleared}
use Rattle.limits.specs.Limits.{most_table_cells}

module _ {rec : List ℕ} {figure : ℕ} {T : Table} (x : Holds rec figure T)
    {last : ℕ} (is_last : suc last ≡ length T.rows) (some : 0 < last) where
  abbrev rows : List (List ℕ)
  rows = take last T.rows

  abbrev front : List ℕ
  front = T.width ∷ length T.rows ∷ flatten rows

  abbrev back : List ℕ
  back = flatten (drop last T.rows)

  abbrev kept : List ℕ
  kept = drop 2052 rec

  split : cells_in T ≡ front ++ back
  split = ap (λ (cells : List ℕ). T.width ∷ length T.rows ∷ cells)
      (flatten-split last T.rows)

  lengths : length (cells_in T) ≡ length front + length back
  lengths = ap length split ∙ length-append front back

  fewer : length rows ≡ last
  fewer = length-take-le last T.rows (omega arith)

  -- the last row's cells are cleared
  cells-dropped : {start size : ℕ} → start ≡ 2 + length (flatten rows) → size ≡ length (cells_in T)
      → sets rec (2 + start) (replicate (2 + size - (2 + start)) 0) ≡ length (cells_in T) ∷ figure ∷ (in_room front ++ kept)
  cells-dropped {start} {size} e f =
      let e : start ≡ length front = omega arith in
      let k : 2 + size - (2 + start) ≡ length back = omega (arith, lengths) in
      let parts : rec ≡ length (cells_in T) ∷ figure ∷ (in_room (front ++ back) ++ kept) =
      holds_parts x ∙ ap (λ (cells : List ℕ). length (cells_in T) ∷ figure ∷ (in_room cells ++ kept)) split in
      rw (k, e) (ap (λ (r : List ℕ). sets r (2 + length front) (replicate (length back) 0)) parts
      ∙ back-cleared (length (cells_in T)) figure front back kept (omega (arith, lengths, few-cells x)))

  accepted : table_of (cells_in (table T.width rows)) ≡ read (table T.width rows)
  accepted =
      let i = is-table (cells_in T) x.accepted in
      rows-accepted T.width rows i.width (omega (arith, fewer), omega (arith, fewer, i.count.1))
      (all_take (Row T.width) last T.rows i.each) (distinct-take last T.rows i.apart)

  -- with the pairs that end there, and the head: the record of the other rows
  pub row-dropped : {start size : ℕ} {cleared new : List ℕ} → start ≡ 2 + length (flatten rows) → size ≡ length (cells_in T)
      → cleared ≡ sets rec (2 + start) (replicate (2 + size - (2 + start)) 0)
      → Cleared last (take (length cleared - 2052) (drop 2052 cleared)) new
      → {headed done : List ℕ} → headed ≡ set (take 2052 cleared ++ (new ++ drop (length cleared - 2052) (drop 2052 cleared))) 0 start
      → done ≡ set headed 3 last → Holds done figure (table T.width rows)
  row-dropped {start} {size} {cleared} {new} e f g c {headed} {done} h d =
      let n : ℕ = length (cells_in T) in
      let long : length (in_room front) ≡ most_table_cells = length-room front (omega (arith, lengths, few-cells x)) in
      let is : cleared ≡ n ∷ figure ∷ (in_room front ++ kept) = g ∙ cells-dropped e f in
      let c' : Cleared last kept new = rw (is, kept-lent n figure (in_room front) kept long) at c in
      let put = kept_put n figure (in_room front) kept long new in
      let e' : start ≡ length front = omega arith in
      let i = is-table (cells_in T) x.accepted in
      parts-hold accepted x.low (dropped-kept x.kept i.count.1 is_last c') (c'.size ∙ kept-long x)
      (d ∙ ap (λ (r : List ℕ). set r 3 last) (rw is at h ∙ ap (λ (r : List ℕ). set r 0 start) put) ∙ rw (e', fewer))
