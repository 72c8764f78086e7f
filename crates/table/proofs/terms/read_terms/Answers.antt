use Rattle.std.proofs.Common.{◌≡◌, ℕ, ◌+◌, ◌<◌, ◌≤◌, Bool, List, length, get_or, Result, Ok, Err, sym, ◌∙◌, ap, ap₂, arith}
use Rattle.std.proofs.lemmas.Result.{err_from_is_err_and}
use Rattle.cell.specs.Cell.{arity}
use Rattle.cell.proofs.CellLaws.{arity-small}
use Rattle.samerows.specs.Marks.{mix}
use Rattle.samerows.proofs.MarkLaws.{mark-none, mark-longer}
use Rattle.refusal.specs.declared.Refusal.{Refusal}
use Rattle.refusal.specs.Read.{Read, refuse, and_then}
use Rattle.table.specs.Table.{Met}
use Rattle.table.specs.declared.terms.Tested.{Tested}
use Rattle.table.specs.code.Looks.{cell_from, tested_told, args_told}
use Rattle.table.proofs.LooksLaws.{left, at_first, used-up, in-the-end, next-cell, one_more}
use Rattle.table.proofs.terms.read_terms.Goals as goal

-- a cell is tested: what is then left to read comes to what there was to read
turn : (row : Bool) (xs : List ℕ) (from to vars at c : ℕ) (r : Result Tested Refusal) {R : Read Met} → at < length xs → from ≤ at → at < from + 32
    → at < to → c ≡ get_or xs at 0 → (tested_told r ≡ cell_from row c vars at) × (args_told r ≡ arity c) → left row xs from to vars at ≡ R
    → and_then (tested_told r) (λ (v : ℕ). left row xs from (to + args_told r) v (at + 1)) ≡ R
turn row xs from to vars at c r h f u o q t e = rw (t.0, t.1, q) (sym (next-cell row xs from to vars at h f u o) ∙ e)

pub loop-at-init : goal.loop-at-init
loop-at-init c =
    let a = c.args in
    record {
      owed = omega (arith, c.min.ensures);
      few = omega (arith, c.min.ensures);
      seen = omega arith;
      mark = mark-none a.cells.now a.from;
      rest = rw c.min.ensures (at_first a.row a.cells.now a.from c.requires.1 a.width);
    }

pub returns-then-to-at : goal.returns-then-to-at
returns-then-to-at c =
    let a = c.args in
    let l = c.loop-at in
    (sym (in-the-end a.row a.cells.now a.from l.to l.vars l.at (omega arith)) ∙ l.invariant.rest, l.invariant.mark)

pub returns-in_err-tested : goal.returns-in_err-tested
returns-in_err-tested c =
    let a = c.args in
    let l = c.loop-at in
    let p = err_from_is_err_and c.from_residual.result c.from_residual.ensures.1 in
    rw (p.1, p.2) (
      turn a.row a.cells.now a.from l.to l.vars l.at c.cell_in-c.result (Err c.in_err-tested.field-0.0) (omega arith) (omega arith) (omega arith) (omega arith)
          c.cell_in-c.ensures c.in_err-tested.ensures l.invariant.rest,
      tt,
    )

pub overflow_add-to-in-loop-at : goal.overflow_add-to-in-loop-at
overflow_add-to-in-loop-at c = omega (arith, c.in_ok-tested.ensures.1, arity-small c.cell_in-c.result)

pub loop-at-preserved : goal.loop-at-preserved
loop-at-preserved c =
    let a = c.args in
    let l = c.loop-at in
    let i = l.invariant in
    let m = one_more a.row c.cell_in-c.result l.vars l.at (sym c.in_ok-tested.ensures.0) in
    record {
      owed = omega arith;
      few = omega (arith, i.few, c.in_ok-tested.ensures.1, arity-small c.cell_in-c.result);
      seen = omega (arith, m, i.seen);
      mark = c.mixed-mark.ensures ∙ ap₂ mix i.mark c.cell_in-c.ensures ∙ mark-longer a.cells.now a.from l.at (omega arith) (omega arith);
      rest =
          turn a.row a.cells.now a.from l.to l.vars l.at c.cell_in-c.result (Ok c.in_ok-tested.tested) (omega arith) (omega arith) (omega arith)
          (omega arith) c.cell_in-c.ensures c.in_ok-tested.ensures i.rest;
    }

pub returns-then-stop-to : goal.returns-then-stop-to
returns-then-stop-to c =
    let a = c.args in
    let l = c.loop-at in
    let e : l.at ≡ c.min-stop.result = omega arith in (
      ap refuse c.not_whole.ensures
          ∙ rw e at (sym (used-up a.row a.cells.now a.from c.requires.1 l.to l.vars l.at (omega arith) (λ h. omega arith)) ∙ l.invariant.rest),
      tt,
    )

pub returns : goal.returns
returns c =
    let a = c.args in
    let l = c.loop-at in
    let e : l.at ≡ c.min-stop.result = omega arith in
    (rw e at (sym (in-the-end a.row a.cells.now a.from l.to l.vars l.at (omega arith)) ∙ l.invariant.rest), rw e at l.invariant.mark)
