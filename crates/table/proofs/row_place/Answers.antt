use Rattle.std.proofs.Common.{ℕ, ◌≤◌, List, Ok, arith}
use Rattle.table.specs.Table.{table_of, TableReads}
use Rattle.table.specs.declared.TableRead.{TableRead}
use Rattle.table.proofs.Accepted.{is-table}
use Rattle.table.proofs.PartLaws.{says-read, says-turned, place-turned, place_none, place-next, place-last}
use Rattle.table.proofs.row_place.Goals as goal

-- a table that is read has at most 64 rows
few : (t : List ℕ) {r : TableRead} → TableReads (table_of t) (Ok r) → r.rows ≤ 64
few t a = let k = says-read (table_of t) a.answer in omega (arith, k.3, (is-table t k.1).count.1)

pub returns-in_default : goal.returns-in_default
returns-in_default c =
    let t = c.args.cells.now in place-turned (table_of t) _ (says-turned (table_of t) c.in_default.ensures.answer)

pub returns-then-read-r : goal.returns-then-read-r
returns-then-read-r c =
    let t = c.args.cells.now in let k = says-read (table_of t) c.in-Ok.ensures.answer in place_none t k.1 _ (omega (arith, k.3))

pub offset_bounds-read-r : goal.offset_bounds-read-r
offset_bounds-read-r c = omega (arith, few c.args.cells.now c.in-Ok.ensures)

pub bounds-read-r : goal.bounds-read-r
bounds-read-r c = omega (arith, few c.args.cells.now c.in-Ok.ensures)

pub offset_bounds-read-r-then-r-read : goal.offset_bounds-read-r-then-r-read
offset_bounds-read-r-then-r-read c = omega (arith, few c.args.cells.now c.in-Ok.ensures)

pub bounds-read-r-then-r-read : goal.bounds-read-r-then-r-read
bounds-read-r-then-r-read c = omega (arith, few c.args.cells.now c.in-Ok.ensures)

pub returns-then-r-read : goal.returns-then-r-read
returns-then-r-read c =
    let t = c.args.cells.now in
    let k = says-read (table_of t) c.in-Ok.ensures.answer in
    place-next t k.1 _ c.in-Ok.ensures.starts (omega (arith, k.3))

pub returns-else-r-read : goal.returns-else-r-read
returns-else-r-read c =
    let t = c.args.cells.now in
    let k = says-read (table_of t) c.in-Ok.ensures.answer in
    place-last t k.1 _ c.in-Ok.ensures.starts (omega (arith, k.3))
