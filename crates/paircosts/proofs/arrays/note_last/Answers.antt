use Rattle.std.proofs.Common.{arith}
use Rattle.paircosts.proofs.AloneLaws.{alone-start, alone-safe, alone-step, alone-end}
use Rattle.paircosts.proofs.arrays.note_last.Goals as goal

pub loop-q-init : goal.loop-q-init
loop-q-init c = λ g. alone-start g

pub overflow_add-agreed : goal.overflow_add-agreed
overflow_add-agreed c =
    let safe = alone-safe c.requires (c.loop-q.invariant c.requires) c.loop-q-test.true in
    omega (arith, safe.light, safe.weighs, c.weight_after-agreed.ensures)

pub met_after-met-requires : goal.met_after-met-requires
met_after-met-requires c = (alone-safe c.requires (c.loop-q.invariant c.requires) c.loop-q-test.true).met

pub loop-q-preserved : goal.loop-q-preserved
loop-q-preserved c = λ g.
    rw (c.put_note.ensures, c.weight_after-agreed.ensures, c.met_after-met.ensures)
    (alone-step g (c.loop-q.invariant g) c.loop-q-test.true)

pub returns : goal.returns
returns c = λ g. (c.loop-q.met, alone-end g c.loop-q-test.false (c.loop-q.invariant g))
