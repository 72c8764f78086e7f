-- Only the pairs with the new row are worked out: from a record to the record of the table with the row.
use mathlib.Core.Path.{◌≡◌, sym, ap, ◌∙◌}
use mathlib.Core.Logic.{◌⊎◌, inl, inr}
use mathlib.Core.List.{List, [], ◌∷◌, ◌++◌}
use Prim.Native.Nat.{ℕ, suc, ◌+◌, ◌-◌, ◌≤◌, ◌<◌}
use native.Mathlib.Omega.{arith}
use lib.ListN.{length, get_or, set, take, drop, replicate}
use lib.Seq.{sets, take_at}
use Rattle.refusal.specs.declared.Refusal.{Refusal}
use Rattle.refusal.specs.Read.{read}
use Rattle.table.specs.declared.TableRead.{TableRead}
use Rattle.std.specs.Prelude.{Result, Ok, Err}
use Rattle.refusal.specs.Refusal.{answered}
use Rattle.table.specs.Table.{Table, table_says, read_told}
use Rattle.table.proofs.Accepted.{is-table, table-short}
use Rattle.table.proofs.ReadLaws.{apart}
use Rattle.state.specs.Flags.{flags_in}
use Rattle.least.specs.Measures.{table_by, work}
use Rattle.least.specs.declared.By.TheVariants.{Work}
use Rattle.least.proofs.Measured.{by-table}
use Rattle.record.specs.Record.{cells_in, Kept, Holds}
use Rattle.record.specs.code.Rows.{in_room, table_with}
use Rattle.record.proofs.KeptLaws.{kept-zero, right_kept}
use Rattle.record.proofs.PartLaws.{few-cells, kept-long, length-room, holds_parts, parts-hold}
use Rattle.record.proofs.RowLaws.{with-length, with-between}
use Rattle.record.proofs.StoreLaws.{lent-all, kept_put, room-put}
use Rattle.paircosts.specs.Fill.{NoPair, Unasked, KeptRight, Fills}
use Rattle.paircosts.proofs.WorkedLaws.{turned_by}
use Rattle.paircosts.proofs.PlainLaws.{plain-free, zero-free, free-kept}
use Rattle.edits.specs.code.Joining.{Ready}
use Rattle.edits.proofs.WorkLaws.{plain-filled, filled-kept}
use Rattle.limits.specs.Limits.{most_table_cells}

module _ {rec : List ℕ} {figure : ℕ} {T : Table} (x : Holds rec figure T)
    {r : ℕ} {row next : List ℕ} {size : ℕ} (y : Ready T r row next size) where
  abbrev new : Table
  new = table_with T r row

  abbrev cells : List ℕ
  cells = cells_in new

  few : length T.rows ≤ 64
  few = (is-table (cells_in T) x.accepted).count.1

  here : table_by (Work figure) cells ≡ read new
  here = by-table (Work figure) cells x.low ∙ y.accepted

  -- the pairs without the row are right for the new rows
  right : KeptRight (work figure) [] T.width new.rows (r + 1) r (drop 2052 rec)
  right = record {
    at = λ first last o i u.
        let w = with-between T.rows r row y.there first last (unasked u) o i in
        right_kept x.kept few first last w.1 o w.0 i;
  }
    where
      unasked : {first last : ℕ} → Unasked (r + 1) r first last → (suc r ≤ first) ⊎ (last < r)
      unasked (inl h) = inl (omega arith)
      unasked (inr h) = inr h

  no-pair : {first last : ℕ} → NoPair (length new.rows) first last → NoPair (length T.rows) first last
  no-pair (inl h) = inl h
  no-pair (inr h) = inr (omega (arith, with-length T.rows r row y.there))

  module _ {kept : List ℕ} {s : Result TableRead Refusal}
      (given : Fills (Work (get_or rec 1 0)) 0 (take size next) (r + 1) r (take (length rec - 2052) (drop 2052 rec)) kept s) where
    fills : Fills (Work figure) 0 cells (r + 1) r (drop 2052 rec) kept s
    fills =
        let e : take size next ≡ cells = ap (take size) y.is ∙ take_at cells (replicate (most_table_cells - length cells) 0) size (sym y.many) in
        rw (x.figure-is, e, lent-all rec) at given

    pub again-read : {f : Refusal} {X : Type 0} → s ≡ Err f → X
    again-read e = apart (sym here ∙ turned_by (Work figure) cells fills.reads e)

    again_kept : Kept (work figure) T.width new.rows kept
    again_kept =
        filled-kept (plain-filled ((fills.accepted new here (kept-long x)).filled
        (free-kept [] (flags_in T.width 0) (plain-free T.width) (zero-free T.width) right)))
        (λ first last h l o. kept-zero x.kept first last h l (no-pair o))

    pub again-held : {a : TableRead} → s ≡ Ok a → {copied done : List ℕ}
        → copied ≡ sets (take 2052 rec ++ (kept ++ drop (length rec - 2052) (drop 2052 rec))) 2 next → done ≡ set copied 0 size
        → Holds done figure new × (answered a.width a.rows ≡ table_says (read new))
    again-held a {copied} c d =
        let n : ℕ = length (cells_in T) in
        let old : List ℕ = in_room (cells_in T) in
        let long : length old ≡ most_table_cells = length-room (cells_in T) (few-cells x) in
        let lent : take 2052 rec ++ (kept ++ drop (length rec - 2052) (drop 2052 rec)) ≡ n ∷ figure ∷ (old ++ kept) =
        ap (λ (w : List ℕ). take 2052 w ++ (kept ++ drop (length w - 2052) (drop 2052 w))) (holds_parts x)
        ∙ kept_put n figure old (drop 2052 rec) long kept in
        let is : copied ≡ n ∷ figure ∷ (in_room cells ++ kept) =
        c ∙ rw (lent, y.is) (room-put n figure old kept long (in_room cells) (length-room cells (table-short cells y.accepted))) in (
          parts-hold y.accepted x.low again_kept (fills.size ∙ kept-long x)
              (d ∙ ap (λ (w : List ℕ). set w 0 size) is ∙ rw y.many),
          sym (ap read_told a) ∙ fills.reads.answer ∙ ap table_says here,
        )
