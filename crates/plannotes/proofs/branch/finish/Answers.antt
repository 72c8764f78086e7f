use Rattle.std.proofs.Common.{◌≡◌, ℕ, ◌+◌, ◌-◌, arith, eqb, get_or, ap, ◌∙◌}
use Rattle.plannotes.specs.code.Steps.{end_of}
use Rattle.plannotes.proofs.AloneLaws.{kind-var, kind-symbol}
use Rattle.plannotes.proofs.BranchLaws.{finish-first, mark-low, word_low, cell-low, finish-symbol, finish-variable}
use Rattle.plannotes.proofs.branch.finish.Goals as goal

pub loop-i-init : goal.loop-i-init
loop-i-init c = finish-first c.requires

pub meet-again-requires : goal.meet-again-requires
meet-again-requires c =
    let v = kind-var _ c.kind.result c.kind.ensures (omega (arith, c.in-0.is)) in
    (cell-low c.requires c.loop-i.invariant (omega arith) c.cell_of-c.ensures v, c.loop-i.invariant.size-seen)

pub overflow_add-notes : goal.overflow_add-notes
overflow_add-notes c = omega (arith, word_low c.requires c.loop-i.invariant (omega arith), c.end-more.ensures, c.requires.few)

pub overflow_add-notes-in-0 : goal.overflow_add-notes-in-0
overflow_add-notes-in-0 c =
    let m = mark-low c.requires c.loop-i.invariant (eqb (get_or c.loop-i.seen c.cell_of-c.result 0) 0) c.meet-again.ensures.0 in
    omega (arith, word_low c.requires c.loop-i.invariant (omega arith), c.end-more.ensures, c.requires.few, m)

pub loop-i-preserved-in-0 : goal.loop-i-preserved-in-0
loop-i-preserved-in-0 c =
    let v = kind-var _ c.kind.result c.kind.ensures (omega (arith, c.in-0.is)) in
    let n : c.args.past - (c.loop-i.i - 1 + 1) ≡ c.args.past - c.loop-i.i = omega arith in
    finish-variable c.requires c.loop-i.invariant (omega arith) c.cell_of-c.ensures v (c.end-more.ensures ∙ ap end_of n)
    c.meet-again.ensures.0 c.meet-again.ensures.1

pub overflow_add-notes-in_default : goal.overflow_add-notes-in_default
overflow_add-notes-in_default c = omega (arith, word_low c.requires c.loop-i.invariant (omega arith), c.end-more.ensures, c.requires.few)

pub loop-i-preserved : goal.loop-i-preserved
loop-i-preserved c =
    let v = kind-symbol _ c.kind.result c.kind.ensures (omega arith) in
    let n : c.args.past - (c.loop-i.i - 1 + 1) ≡ c.args.past - c.loop-i.i = omega arith in
    finish-symbol c.requires c.loop-i.invariant (omega arith) c.cell_of-c.ensures v (c.end-more.ensures ∙ ap end_of n)
