-- W-207 of what the entries promise: `WorkCoded` for working a record out, `EditCoded` for the three edits, `BuildCoded` for building. The
-- statements are in specs/Records.
use Prim.Native.Nat.{ℕ, ◌-◌, ◌≤◌}
use mathlib.Core.Path.{◌≡◌, refl, sym, ◌∙◌, ap, subst}
use mathlib.Core.Logic.{◌↔◌}
use mathlib.Core.Bool.{Bool, true, false}
use mathlib.Core.List.{List, [], ◌∷◌, ◌++◌}
use lib.Dec.{leb}
use borrow.Author.Tests.{leb-true, leb-false, le-leb, lt-leb}
use lib.ListN.{length, take, set}
use Rattle.refusal.specs.Refusal.{Refused, refused, Answer, answered, turned}
use Rattle.refusal.specs.declared.Reason.TheVariants as reason
use Rattle.refusal.specs.declared.Input.TheVariants as input
use Rattle.refusal.specs.Read.{Read, read, refuse, when, and_then}
use Rattle.table.specs.Table.{Table, table, table_of, IsTable, others, row_of}
use Rattle.table.proofs.ReadLaws.{apart, read_one, refuse-one}
use Rattle.least.specs.Measures.{table_by}
use Rattle.least.specs.declared.By.TheVariants.{Work}
use Rattle.least.proofs.Measured.{by-table, by-figure}
use Rattle.record.specs.Record.{cells_in, Holds}
use Rattle.record.specs.Edits.{Edit, append, drop-last, replace, edit_of, WorkedOut, no_record, worked, Edited, no-edit, edit}
use Rattle.record.proofs.EditKeeps.{edit-keeps}
use Rattle.record.proofs.PartLaws.{table-in}
use Rattle.record.proofs.Fixed.{made_holds, made-anew}
use Rattle.refusal.specs.Coded.{decoded}
use Rattle.dudowiej.specs.Coded.{WorkCoded, EditCoded, BuildCoded}
use Rattle.dudowiej.proofs.Back.{work-back, edit-back, build-back}
use Rattle.demands.specs.Demands.{Demand1Build, Demand3Build}
use Rattle.demands.specs.Records.{WorkTurned, no-figure, no_table, MakesRecord, EditTurned, full, last, index, bad-append, bad-replace}
use Rattle.demands.specs.Records.{EditsRecord, Anew, BuildsFrom, TablePart}
use Rattle.demands.proofs.Cited.{clash, turned-one, reads, TakenBy, too_much, small, taken-by, build-kept, least-built}

-- working a record out
module _ (figure : ℕ) (cells : List ℕ) where
  work-turned : {f : Refused} → table_by (Work figure) cells ≡ refuse f ↔ WorkTurned figure cells f
  work-turned = (λ e. why e (taken-by (Work figure) cells), gets)
    where
      why : {f : Refused} → table_by (Work figure) cells ≡ refuse f → TakenBy (Work figure) cells → WorkTurned figure cells f
      why e (too_much l k) = no-figure l (refuse-one (sym e ∙ k))
      why e (small l k) = no_table l (sym k ∙ e)

      gets : {f : Refused} → WorkTurned figure cells f → table_by (Work figure) cells ≡ refuse f
      gets (no-figure l q) = by-figure (Work figure) cells l ∙ ap refuse (sym q)
      gets (no_table l a) = by-table (Work figure) cells l ∙ a

  as_read : {w : ℕ} {rows : List (List ℕ)} → figure ≤ 15 → IsTable cells w rows → table_by (Work figure) cells ≡ read (table w rows)
  as_read l i = by-table (Work figure) cells l ∙ reads i

  makes-record : {rec rec' : List ℕ} {answer : Answer} → WorkedOut figure cells rec rec' answer → MakesRecord figure cells rec rec' answer
  makes-record (no_record g q a s) = record {
    refuses = λ f. (λ e. work-turned.0 (q ∙ ap refuse (turned-one (sym a ∙ e))), λ e. a ∙ ap turned (refuse-one (sym q ∙ work-turned.1 e)));
    untouched = λ f e. s;
    made = λ w rows l i. apart (sym (as_read l i) ∙ q);
  }
  makes-record {rec' = rec'} {answer} (worked U q a x) = record {
    refuses = λ f. (λ e. clash (sym a ∙ e), λ e. apart (sym q ∙ work-turned.1 e));
    untouched = λ f e. clash (sym a ∙ e);
    made = λ w rows l i. of-table (read_one (sym q ∙ as_read l i));
  }
    where
      of-table : {T : Table} → U ≡ T → Holds rec' figure T × (answer ≡ answered T.width (length T.rows))
      of-table e = rw (← e) (x, a)

-- what turns an edit away, by the definition's tests
module _ (T : Table) where
  edit-turned : (e : Edit) {f : Refused} → EditTurned T e f → edit_of e T ≡ refuse f
  unfolding edit_of
  edit-turned (append row) (full h) = rw (le-leb 64 (length T.rows) h)
  edit-turned (append row) (bad-append h q) = rw (lt-leb 64 (length T.rows) h, q)
  edit-turned drop-last (last h) = rw (le-leb (length T.rows) 1 h)
  edit-turned (replace r row) (index h) = rw (le-leb (length T.rows) r h)
  edit-turned (replace r row) (bad-replace h q) = rw (lt-leb (length T.rows) r h, q)

  turned-edit : (e : Edit) {f : Refused} → edit_of e T ≡ refuse f → EditTurned T e f
  unfolding edit_of
  turned-edit (append row) {f} = go (leb 64 (length T.rows)) refl (row_of T.width T.rows row) refl
    where
      go : (b : Bool) → leb 64 (length T.rows) ≡ b → (x : Read ℕ) → row_of T.width T.rows row ≡ x
          → when b (refused reason.Full input.Table 0) (and_then x (λ (_ : ℕ). read (table T.width (T.rows ++ (row ∷ []))))) ≡ refuse f
          → EditTurned T (append row) f
      go true h x q e = rw (← refuse-one e) (full (leb-true 64 (length T.rows) h))
      go false h (read n) q e = apart e
      go false h (refuse g) q e = bad-append (leb-false 64 (length T.rows) h) (q ∙ ap refuse (refuse-one e))
  turned-edit drop-last {f} = go (leb (length T.rows) 1) refl
    where
      go : (b : Bool) → leb (length T.rows) 1 ≡ b
          → when b (refused reason.Last input.Table 0) (read (table T.width (take (length T.rows - 1) T.rows))) ≡ refuse f
          → EditTurned T drop-last f
      go true h e = rw (← refuse-one e) (last (leb-true (length T.rows) 1 h))
      go false h e = apart e
  turned-edit (replace r row) {f} = go (leb (length T.rows) r) refl (row_of T.width (others r T.rows) row) refl
    where
      go : (b : Bool) → leb (length T.rows) r ≡ b → (x : Read ℕ) → row_of T.width (others r T.rows) row ≡ x
          → when b (refused reason.Index input.Table 0) (and_then x (λ (_ : ℕ). read (table T.width (set T.rows r row)))) ≡ refuse f
          → EditTurned T (replace r row) f
      go true h x q e = rw (← refuse-one e) (index (leb-true (length T.rows) r h))
      go false h (read n) q e = apart e
      go false h (refuse g) q e = bad-replace (leb-false (length T.rows) r h) (q ∙ ap refuse (refuse-one e))

-- an edit of a record that holds a table
edits-record : {e : Edit} {figure : ℕ} {T : Table} {rec rec' : List ℕ} {answer : Answer} → Holds rec figure T
    → Edited e figure T rec rec' answer → EditsRecord e figure T rec rec' answer
edits-record {e} {figure} {T} {rec} {rec'} {answer} x (no-edit g q a s) = record {
  refuses = λ f. (λ k. turned-edit T e (q ∙ ap refuse (turned-one (sym a ∙ k))), λ k. a ∙ ap turned (refuse-one (sym q ∙ edit-turned T e k)));
  untouched = λ f k. s;
  given_back = λ T' k. apart (sym k ∙ q);
  keeps = λ T' k first last o p. apart (sym k ∙ q);
}
edits-record {e} {figure} {T} {rec} {rec'} {answer} x (edit U q a y) = record {
  refuses = λ f. (λ k. clash (sym a ∙ k), λ k. apart (sym q ∙ edit-turned T e k));
  untouched = λ f k. clash (sym a ∙ k);
  given_back = λ T' k. of-table (read_one (sym q ∙ k));
  keeps = λ T' k first last o w. edit-keeps x (edit U q a y) first last o w;
}
  where
    of-table : {T' : Table} → U ≡ T' → Holds rec' figure T' × (answer ≡ answered T'.width (length T'.rows))
    of-table k = rw (← k) (y, a)

-- after any sequence of edits
pub anew : Anew
anew figure rec old new T answer d x = made-anew d x

pub table-part : TablePart
table-part figure rec T d = let h = made_holds d in (table-in h, ap table_of (table-in h) ∙ h.accepted)

-- of the entries
pub request-207-work-out : {figure : ℕ} {cells rec rec' : List ℕ} {n : ℕ} → WorkCoded figure cells rec rec' n
    → MakesRecord figure cells rec rec' (decoded n)
request-207-work-out {figure} {cells} {rec} {rec'} x = subst (MakesRecord figure cells rec rec') (sym (work-back x)) (makes-record figure cells x.worked)

pub request-207-edit : {e : Edit} {rec rec' : List ℕ} {n : ℕ} → EditCoded e rec rec' n → (figure : ℕ) (T : Table) → Holds rec figure T
    → EditsRecord e figure T rec rec' (decoded n)
request-207-edit {e} {rec} {rec'} x figure T h =
    let y = x figure T h in
    subst (EditsRecord e figure T rec rec') (sym (edit-back y)) (edits-record h y.edited)

pub builds-from : {rec room room' : List ℕ} {n : ℕ} → BuildCoded rec room room' n → BuildsFrom rec room room' (decoded n)
builds-from {rec} {room} {room'} x figure T h =
    let y = x figure T h in
    let e = sym (build-back y) in (
      subst (Demand1Build (Work figure) [] (cells_in T) room room') e (build-kept y.built),
      subst (Demand3Build (Work figure) [] (cells_in T) room room') e (least-built y.built),
    )
