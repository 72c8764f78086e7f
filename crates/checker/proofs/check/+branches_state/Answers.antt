use Rattle.std.proofs.Common.{◌≡◌, ◌+◌, ℕ, arith, true, sym, ◌∙◌, get_or}
use Rattle.std.proofs.lemmas.Result.{err_from_is_err_and}
use borrow.Author.Tests.{not-true, not-false}
use Rattle.cell.specs.Cell.{arity}
use Rattle.state.specs.Flags.{may_in, spread_of}
use Rattle.state.proofs.FlagsLaws.{none_below}
use Rattle.checker.specs.code.Steps.{Done}
use Rattle.checker.proofs.StateLaws.{few-open, shorter, fits-alone, done-alone, done-leaf, done-ends, done-open, done-early}
use Rattle.checker.proofs.StateLaws.{done-ends-2, done-edges, ready-branches, done-node}
use Rattle.checker.proofs.LoopLaws.{going-ends, going-label, Turn, turn-of, ready-below, shorter-below}
use Rattle.checker.proofs.LoopLaws.{turn-refused, turn_on}
use Rattle.checker.proofs.check.+branches_state.Goals as goal
use Rattle.checker.proofs.check.+branches_state.Goals.{branches-then-named-ne0, branches-else-named-ne0}

pub branches-returns-then-plan-place : goal.branches-returns-then-plan-place
branches-returns-then-plan-place t c = going-ends c.loop-row.invariant c.loop-row-test.true c.if-plan-place.true c.refusal.ensures

pub branches-returns-then-label-c : goal.branches-returns-then-label-c
branches-returns-then-label-c t c =
    going-label c.loop-row.invariant c.loop-row-test.true
    c.if-plan-place.false c.if-label-c.true c.refusal-then-label-c.ensures

pub branches-overflow_add-open : goal.branches-overflow_add-open
branches-overflow_add-open t c =
    let w = turn-of c.run_length-n.result c.loop-row.invariant c.loop-row-test.true c.if-plan-place.false c.if-label-c.false c.run_length-n.ensures in
    omega (arith, few-open (ready-below w), c.arity_of-args.ensures)

pub branches-overflow_add-row : goal.branches-overflow_add-row
branches-overflow_add-row t c =
    let w = turn-of c.run_length-n.result c.loop-row.invariant c.loop-row-test.true c.if-plan-place.false c.if-label-c.false c.run_length-n.ensures in
    omega (arith, (ready-below w).room.few)

pub branches-state-requires : goal.branches-state-requires
branches-state-requires t c =
    let w = turn-of c.run_length-n.result c.loop-row.invariant c.loop-row-test.true c.if-plan-place.false c.if-label-c.false c.run_length-n.ensures in
    let flags : c.if-named-ne0.flags ≡ spread_of c.args.named c.args.i c.arity_of-args.result =
    elim c.if-named-ne0.branch [
      | branches-then-named-ne0 w ↦ w.flags-is ∙ w.spread-flags.ensures
      | branches-else-named-ne0 w ↦ w.flags-is ∙ sym (none_below _ _ _ w.if-named-ne0.false)
    ] in
    (omega (arith, shorter-below w), rw (flags, c.arity_of-args.ensures) (ready-below w))

pub branches-returns-in_err-below : goal.branches-returns-in_err-below
branches-returns-in_err-below t c =
    let w = turn-of c.run_length-n.result c.loop-row.invariant c.loop-row-test.true c.if-plan-place.false c.if-label-c.false c.run_length-n.ensures in
    let flags : c.if-named-ne0.flags ≡ spread_of c.args.named c.args.i c.arity_of-args.result =
    elim c.if-named-ne0.branch [
      | branches-then-named-ne0 w ↦ w.flags-is ∙ w.spread-flags.ensures
      | branches-else-named-ne0 w ↦ w.flags-is ∙ sym (none_below _ _ _ w.if-named-ne0.false)
    ] in
    let p = err_from_is_err_and c.from_residual.result c.from_residual.ensures.1 in
    rw (p.1, p.2) (turn-refused w (rw (flags, c.arity_of-args.ensures) at c.state.ensures) c.in_err-below.was)

pub branches-overflow_add-row-in-loop-row : goal.branches-overflow_add-row-in-loop-row
branches-overflow_add-row-in-loop-row t c =
    let w = turn-of c.run_length-n.result c.loop-row.invariant c.loop-row-test.true c.if-plan-place.false c.if-label-c.false c.run_length-n.ensures in
    omega (arith, (ready-below w).room.few)

pub branches-loop-row-preserved : goal.branches-loop-row-preserved
branches-loop-row-preserved t c =
    let w = turn-of c.run_length-n.result c.loop-row.invariant c.loop-row-test.true c.if-plan-place.false c.if-label-c.false c.run_length-n.ensures in
    let flags : c.if-named-ne0.flags ≡ spread_of c.args.named c.args.i c.arity_of-args.result =
    elim c.if-named-ne0.branch [
      | branches-then-named-ne0 w ↦ w.flags-is ∙ w.spread-flags.ensures
      | branches-else-named-ne0 w ↦ w.flags-is ∙ sym (none_below _ _ _ w.if-named-ne0.false)
    ] in
    turn_on w (rw (flags, c.arity_of-args.ensures) at c.state.ensures) c.in_ok-below.was

pub state-alone-requires : goal.state-alone-requires
state-alone-requires t c = fits-alone c.requires c.if-rows-eq1.true

pub state-returns-then-named-eq0 : goal.state-returns-then-named-eq0
state-returns-then-named-eq0 t c =
    done-alone c.requires c.if-rows-eq1.true c.if-named-eq0.true c.alone.ensures

pub state-returns-then-k-eq0 : goal.state-returns-then-k-eq0
state-returns-then-k-eq0 t c = done-leaf c.requires c.if-k-eq0.true c.leaf.ensures

pub state-returns-then-plan-at : goal.state-returns-then-plan-at
state-returns-then-plan-at t c = done-ends c.requires (omega arith) c.if-plan-at.true c.refusal.ensures

pub state-returns-then-k-i : goal.state-returns-then-k-i
state-returns-then-k-i t c = done-open c.requires (omega arith) (omega arith) c.if-k-i.true c.refusal-then-k-i.ensures

pub state-returns-then-not-may : goal.state-returns-then-not-may
state-returns-then-not-may t c =
    done-early c.requires (omega arith) (omega arith) (omega arith)
    (sym c.may.ensures ∙ not-true _ c.if-not-may.true-raw) c.refusal-then-not-may.ensures

pub state-returns-then-plan-next : goal.state-returns-then-plan-next
state-returns-then-plan-next t c =
    done-ends-2 c.requires (omega arith) (omega arith) (sym c.may.ensures ∙ not-false _ c.if-not-may.false-raw) c.close_rows.ensures (omega arith)
    c.if-plan-next.true c.refusal-then-plan-next.ensures

pub state-returns-then-plan-next-2 : goal.state-returns-then-plan-next-2
state-returns-then-plan-next-2 t c =
    done-edges c.requires (omega arith) (omega arith) (sym c.may.ensures ∙ not-false _ c.if-not-may.false-raw) c.close_rows.ensures
    c.run_count.result (omega arith) c.run_count.ensures c.if-plan-next-2.true c.refusal-then-plan-next-2.ensures

pub state-branches-requires : goal.state-branches-requires
state-branches-requires t c =
    let chosen : may_in c.args.named (get_or c.args.lent.now.plan.now c.args.at 0) ≡ true = sym c.may.ensures ∙ not-false _ c.if-not-may.false-raw in (
      omega (arith, shorter c.requires (omega arith) (omega arith) chosen c.close_rows.ensures),
      ready-branches c.requires (omega arith) (omega arith) chosen c.close_rows.ensures (omega arith),
    )

pub state-returns : goal.state-returns
state-returns t c =
    done-node c.requires (omega arith) (omega arith) (sym c.may.ensures ∙ not-false _ c.if-not-may.false-raw) c.close_rows.ensures
    c.run_count.result (omega arith) c.run_count.ensures c.if-plan-next-2.false c.branches.ensures
