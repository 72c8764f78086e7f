use Rattle.std.proofs.Common.{◌≡◌, ℕ, ◌+◌, ◌-◌, length, drop, get_or, List, ◌<◌, sym, ◌∙◌, arith}
use Rattle.cell.specs.Cell.{arity}
use Rattle.cell.proofs.CellLaws.{arity-small}
use Rattle.term.specs.code.Owed.{ends}
use Rattle.term.proofs.EndsLaws.{ends-meant, ends-none, ends-short, ends_more}
use Rattle.term.proofs.term_end.Goals as goal

-- what is owed once a cell is passed still ends where the whole does
turn : (cells : List ℕ) (from owed at a : ℕ) → at < length cells → 0 < owed → a ≡ arity (get_or cells at 0)
    → ends (drop at cells) owed at ≡ ends (drop from cells) 1 from → ends (drop (at + 1) cells) (owed - 1 + a) (at + 1) ≡ ends (drop from cells) 1 from
turn cells from owed at a h l e i = rw e (sym (ends_more cells at owed at h l) ∙ i)

pub overflow_add-owed : goal.overflow_add-owed
overflow_add-owed c = omega (arith, arity-small (get_or c.args.cells.now c.loop-at.at 0))

pub returns-then-owed-eq0 : goal.returns-then-owed-eq0
returns-then-owed-eq0 c =
    let cells = c.args.cells.now in
    let l = c.loop-at in
    let t = turn cells c.args.from l.owed l.at c.arity_of.result c.loop-at-test.true l.invariant.0 c.arity_of.ensures l.invariant.2 in
    ends-meant cells c.args.from (sym (ends-none (drop (l.at + 1) cells) (l.at + 1)) ∙ rw c.if-owed-eq0.true at t)

pub loop-at-preserved : goal.loop-at-preserved
loop-at-preserved c =
    let cells = c.args.cells.now in
    let l = c.loop-at in (
      omega (arith, c.if-owed-eq0.false),
      omega (arith, arity-small (get_or cells l.at 0)),
      turn cells c.args.from l.owed l.at c.arity_of.result c.loop-at-test.true l.invariant.0 c.arity_of.ensures l.invariant.2,
    )

pub returns : goal.returns
returns c =
    let cells = c.args.cells.now in
    let l = c.loop-at in
    ends-meant cells c.args.from (sym (ends-short cells l.at l.owed l.at (omega arith) l.invariant.0) ∙ l.invariant.2)
