-- What any sequence of edits makes of a record is the one worked out anew; and two results that a promise allows are equal.
use mathlib.Core.Path.{◌≡◌, sym, ap, ◌∙◌}
use mathlib.Core.List.{List}
use Prim.Native.Nat.{ℕ}
use Rattle.refusal.specs.Refusal.{Answer, Refused, turned}
use Rattle.refusal.specs.Read.{Read, read, refuse}
use Rattle.table.specs.Table.{Table, table_says}
use Rattle.table.proofs.ReadLaws.{apart, read_one}
use Rattle.least.specs.Measures.{table_by}
use Rattle.least.specs.declared.By.TheVariants.{Work}
use Rattle.least.proofs.Measured.{by-table}
use Rattle.record.specs.Record.{cells_in, Holds}
use Rattle.record.specs.Edits.{WorkedOut, no_record, worked, Edit, Edited, no-edit, edit, Made, worked-out, edited, refused-edit}
use Rattle.record.proofs.PartLaws.{record-one}

-- a record that was made of a table holds it
of-table : {rec : List ℕ} {figure : ℕ} {T U : Table} → T ≡ U → Holds rec figure T → Holds rec figure U
of-table e x = rw (← e) x

pub made_holds : {figure : ℕ} {rec : List ℕ} {T : Table} → Made figure rec T → Holds rec figure T
made_holds (worked-out (no_record f q a s) p) = apart (sym p ∙ q)
made_holds (worked-out (worked U q a x) p) = of-table (read_one (sym q ∙ p)) x
made_holds (edited e d (no-edit f q a s) p) = apart (sym p ∙ q)
made_holds (edited e d (edit U q a x) p) = of-table (read_one (sym q ∙ p)) x
made_holds (refused-edit e d (no-edit f q a s) p) = rw s (made_holds d)
made_holds (refused-edit e d (edit U q a x) p) = apart (sym q ∙ p)

-- a reading that is turned away, and one that is not, each with one answer and one record
module _ {R : Read Table} {a b : Answer} {r s : List ℕ} where
  turned_same : {f g : Refused} {rec : List ℕ} → R ≡ refuse f → R ≡ refuse g → a ≡ turned f → b ≡ turned g → r ≡ rec → s ≡ rec
      → (r ≡ s) × (a ≡ b)
  turned_same {f} {g} q q' u v k k' = let e : f ≡ g = cc in (k ∙ sym k', u ∙ ap turned e ∙ sym v)

  held_same : {figure : ℕ} {T U : Table} → R ≡ read T → R ≡ read U → a ≡ table_says (read T) → b ≡ table_says (read U)
      → Holds r figure T → Holds s figure U → (r ≡ s) × (a ≡ b)
  held_same {T = T} {U} q q' u v x y =
      let e : T ≡ U = read_one (sym q ∙ q') in
      (record-one (of-table e x) y, u ∙ ap (λ (X : Table). table_says (read X)) e ∙ sym v)

-- work_out
pub worked-one : {figure : ℕ} {cells rec r s : List ℕ} {a b : Answer}
    → WorkedOut figure cells rec r a → WorkedOut figure cells rec s b → (r ≡ s) × (a ≡ b)
worked-one (no_record f q u k) (no_record g q' v k') = turned_same q q' u v k k'
worked-one (no_record f q u k) (worked T q' v x) = apart (sym q' ∙ q)
worked-one (worked T q u x) (no_record g q' v k) = apart (sym q ∙ q')
worked-one (worked T q u x) (worked U q' v y) = held_same q q' u v x y

-- append, drop_last, replace
pub edited-one : {e : Edit} {figure : ℕ} {T : Table} {rec r s : List ℕ} {a b : Answer}
    → Edited e figure T rec r a → Edited e figure T rec s b → (r ≡ s) × (a ≡ b)
edited-one (no-edit f q u k) (no-edit g q' v k') = turned_same q q' u v k k'
edited-one (no-edit f q u k) (edit T q' v x) = apart (sym q' ∙ q)
edited-one (edit T q u x) (no-edit g q' v k) = apart (sym q ∙ q')
edited-one (edit T q u x) (edit U q' v y) = held_same q q' u v x y

-- 02, "After any sequence of these from an accepted table, the record equals the one worked out anew from its rows and its W-204 figure"
pub made-anew : {figure : ℕ} {rec old new : List ℕ} {T : Table} {answer : Answer}
    → Made figure rec T → WorkedOut figure (cells_in T) old new answer → rec ≡ new
made-anew {figure} {T = T} d x =
    let h = made_holds d in
    let here : table_by (Work figure) (cells_in T) ≡ read T = by-table (Work figure) (cells_in T) h.low ∙ h.accepted in
    record-one h (made_holds (worked-out x here))
