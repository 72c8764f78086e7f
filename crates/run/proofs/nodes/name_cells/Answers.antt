use Rattle.std.proofs.Common.{refl, arith}
use Rattle.walking.proofs.NodeLaws.{naming-none, number_small, naming-variable, naming-symbol}
use Rattle.plannotes.proofs.AloneLaws.{kind-var, kind-symbol}
use Rattle.run.proofs.nodes.name_cells.Goals as goal
use Rattle.run.proofs.nodes.name_cells.Goals.{in-0, in_default}

pub loop-p-init : goal.loop-p-init
loop-p-init c = naming-none c.args.goal.now _ _ _ _ _ c.requires.1 c.requires.2 c.requires.3 c.numbers-rep.ensures refl

pub first_cell-requires : goal.first_cell-requires
first_cell-requires c =
    let w = c.requires.0 in
    let l = c.loop-p in
    let v = kind-var _ c.kind.result c.kind.ensures (omega (arith, c.in-0.is)) in
    (number_small w l.invariant c.loop-p-test.true v, omega (arith, w.few), l.invariant.firsts.size)

pub loop-p-preserved : goal.loop-p-preserved
loop-p-preserved c =
    let w = c.requires.0 in
    let l = c.loop-p in
    let h = c.loop-p-test.true in
    elim c.match-kind.branch [
      | in-0 x ↦
          let v = kind-var _ c.kind.result c.kind.ensures (omega (arith, x.in-0.is)) in
          rw (x.bound-is, x.args-is, x.until-is, x.rep-is, x.first-is, x.first_cell.ensures.0, x.first_cell.ensures.1)
          (naming-variable w l.invariant h v)
      | in_default x ↦
          let v = kind-symbol _ c.kind.result c.kind.ensures (omega arith) in
          rw (x.bound-is, x.args-is, x.until-is, x.rep-is, x.first-is) (naming-symbol w l.invariant h v)
    ]
