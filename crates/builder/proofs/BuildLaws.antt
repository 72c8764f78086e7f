-- The answers of the builder; and that what is kept for a table's rows is right, where its array was filled for it.
use Rattle.std.specs.Prelude.{Result, Err}
use Rattle.builder.specs.declared.BuiltPlan.{BuiltPlan}
use mathlib.Core.Path.{◌≡◌, refl, sym, ap, ap₂, ◌∙◌}
use mathlib.Core.Bool.{Bool, true, false}
use mathlib.Core.List.{List, ◌++◌}
use Prim.Native.Nat.{ℕ, suc, ◌-◌, ◌^◌, ◌≤◌, ◌<◌}
use native.Mathlib.Omega.{arith}
use lib.ListN.{length, drop, length-take}
use lib.Seq.{slice, take-length}
use borrow.Author.Tests.{lt-ltb, le-ltb}
use Rattle.refusal.specs.Refusal.{refused, told, answered, turned}
use Rattle.refusal.specs.declared.Refusal.{Refusal}
use Rattle.refusal.specs.declared.Reason.TheVariants as reason
use Rattle.refusal.specs.declared.Input.TheVariants as input
use Rattle.refusal.specs.Read.{read, refuse}
use Rattle.term.specs.Terms.{Terms}
use Rattle.table.specs.All.{All}
use Rattle.table.specs.Table.{Table, Row, IsTable}
use Rattle.std.specs.Prelude.{Result}
use Rattle.table.specs.declared.TableRead.{TableRead}
use Rattle.table.proofs.Accepted.{is-table}
use Rattle.table.proofs.AllLaws.{all-each}
use Rattle.plan.specs.Plans.{Measure}
use Rattle.plan.specs.Named.{flags_of, any_past}
use Rattle.state.specs.Flags.{flags_in, mask_from, past_from}
use Rattle.state.specs.declared.flags.Named.{Named}
use Rattle.state.proofs.FlagsLaws.{mask-flags, mask-few, past-any}
use Rattle.least.specs.Least.{Least, Built}
use Rattle.least.specs.Entries.{between}
use Rattle.least.specs.Measures.{measure_of, cost_by, table_by}
use Rattle.least.specs.declared.By.{By}
use Rattle.least.proofs.Measured.{by-table, by_read}
use Rattle.least.proofs.Best.{least-one}
use Rattle.least.proofs.Building.{built-least}
use Rattle.least.proofs.Weighed.{by-light}
use Rattle.least.proofs.FollowLaws.{follows-built}
use Rattle.paircosts.specs.Fill.{Filled, Fills}
use Rattle.paircosts.proofs.WorkedLaws.{all_asked}
use Rattle.builder.specs.code.Writing.{Planned, KeptOf, Right, Put, fitted, short}
use Rattle.builder.specs.Build.{table_for, BuiltInto, table-refused, room-refused, built}
use Rattle.builder.proofs.AskedLaws.{column, for-refused, for-column, for-read}
use Rattle.limits.specs.Limits.{kept_cells}

pub no_table : {by : By} {columns t : List ℕ} (room : List ℕ) {f : Refusal} → table_by by t ≡ refuse (told f)
    → BuiltInto by columns t room room (Err f)
no_table {by} {columns} {t} room {f} e = table-refused (told f) (for-refused by columns t e) refl refl

pub cells-there : {T : Table} {named : ℕ} {kept cells : List ℕ} {size cost : ℕ} → Planned T named kept cells size cost → size ≤ length cells
cells-there {cells = cells} {size} p = omega (arith, ap length p.cells_are, p.size_is, length-take size cells)

-- a table has a row, at most 8 columns, and its rows are terms
module _ (by : By) (t : List ℕ) {T : Table} (here : table_by by t ≡ read T) where
  table_is : IsTable t T.width T.rows
  table_is = is-table t (sym (by-table by t (by_read by t here)) ∙ here)

  some-row : 0 < length T.rows
  some-row = table_is.count.0

  rows-terms : All (Terms T.width) T.rows
  rows-terms = all-each (Row T.width) (Terms T.width) (λ r x. x.terms) T.rows table_is.each

module _ {by : By} {columns t : List ℕ} {r : Result TableRead Refusal} {named : Named} {kept : List ℕ} (x : Right by columns t r named kept)
    {T : Table} (here : table_by by t ≡ read T) where
  -- COLUMN, by the width that was read
  pub no-column : (room : List ℕ) → T.width < named.past
      → BuiltInto by columns t room room (Err (record { reason = reason.Column; input = input.Columns; place = 0 }))
  no-column room h =
      let e : any_past T.width columns ≡ true =
      sym (past-any T.width 0 columns (omega arith)) ∙ lt-ltb T.width (past_from 0 columns) (omega (arith, x.past)) in
      table-refused column (for-column by columns t here e) refl refl

  module _ (inside : named.past ≤ T.width) {cells : List ℕ} {size cost : ℕ} (p : Planned T named.mask kept cells size cost) where
    read_here : table_for by columns t ≡ read T
    read_here =
        let e : any_past T.width columns ≡ false =
        sym (past-any T.width 0 columns (omega arith)) ∙ le-ltb T.width (past_from 0 columns) (omega (arith, x.past)) in
        for-read by columns t here e

    -- the bits are the flags of the list
    flags-are : flags_in T.width named.mask ≡ flags_of T.width columns
    flags-are = ap (flags_in T.width) x.mask ∙ mask-flags T.width columns (table_is by t here).width.1

    kept_here : KeptOf (measure_of by) (flags_of T.width columns) T kept
    kept_here = rw flags-are at (x.kept_of T here)

    -- the plan that was written is the builder's, and its cost the one kept for all rows
    plan-built : Built (measure_of by) (flags_of T.width columns) p.plan
    plan-built =
        follows-built (measure_of by) (flags_of T.width columns) kept T.width T.rows
        (λ first last o l. (_, kept_here.entries first last o l)) p.plan (some-row by t here) (rw flags-are at p.follows)

    plan-least : Least (measure_of by) (flags_of T.width columns) T.width T.rows (cost_by by p.plan)
    plan-least = (built-least (measure_of by) (by-light by) (flags_of T.width columns) p.plan (rows-terms by t here) plan-built).0

    cost-is : cost ≡ cost_by by p.plan
    cost-is = p.cost-is ∙ least-one kept_here.least plan-least

    pub handed : {room room' : List ℕ} {answer : Result BuiltPlan Refusal} → Put cells size cost room room' answer → BuiltInto by columns t room room' answer
    handed {room} (fitted h e) =
        built T p.plan read_here plan-built plan-least (omega (arith, p.size_is)) (ap₂ answered p.size_is cost-is)
        (e ∙ ap₂ (λ (xs : List ℕ) (x : ℕ). xs ++ drop x room) p.cells_are p.size_is)
    handed (short h e) =
        room-refused T p.plan read_here plan-built (omega (arith, p.size_is))
        (ap (λ (x : ℕ). turned (refused reason.Room input.Lent x)) p.size_is) e

-- the rows from the first to the last are all of them
pub all-rows : (rows : List (List ℕ)) → 0 < length rows → between 0 (length rows - 1) rows ≡ rows
all-rows rows h =
    let e : suc (length rows - 1) ≡ length rows = omega arith in
    ap (λ (m : ℕ). slice 0 m rows) e ∙ take-length rows

-- the array that is filled for a table
filled-kept : {m : Measure} {fs : List Bool} (T : Table) {old new : List ℕ} → 0 < length T.rows
    → Filled m fs T.width T.rows old new → KeptOf m fs T new
filled-kept T h f = record {
  least = rw (all-rows T.rows h) at (f.whole 0 (length T.rows - 1) (omega arith) (omega arith));
  entries = f.entry;
}

-- a list's bits are below its width, where none of its numbers is past it
pub flags-few : (columns : List ℕ) {named : Named} → named.mask ≡ mask_from 0 columns → named.past ≡ past_from 0 columns
    → (width : ℕ) → named.past ≤ width → named.mask < 2 ^ width
flags-few columns m p width h = rw m (mask-few width columns (omega (arith, p)))

pub filled-right : (by : By) (columns t : List ℕ) {named : Named} {old new : List ℕ} {r : Result TableRead Refusal} → named.mask ≡ mask_from 0 columns
    → named.past ≡ past_from 0 columns → Fills by named.mask t 64 0 old new r → length old ≡ kept_cells → Right by columns t r named new
filled-right by columns t m p f h = record {
  reads = f.reads;
  mask = m;
  past = p;
  kept_of = λ T e. filled-kept T (some-row by t e) ((f.accepted T e h).filled (all_asked by _ t e (omega arith)));
}
