use mathlib.Core.List.{[], ◌∷◌}
use native.Mathlib.Omega.{arith}
use lib.ListN.{length-append}
use Rattle.octets.specs.Octets.{decimal}
use Rattle.octets.proofs.DecimalLaws.{digits-few}
use Rattle.clauses.specs.code.Size.{atom_bytes}
use Rattle.handing.specs.code.Lines.{blanks}
use Rattle.handing.proofs.MeasureLaws.{sum-on, no_cells}
use Rattle.handing.proofs.measure.atom_bytes.Goals as goal

pub overflow_add-sum : goal.overflow_add-sum
overflow_add-sum c = omega (arith, c.digits-sum.ensures, digits-few 9 c.args.k (omega arith))

pub loop-c-init : goal.loop-c-init
loop-c-init c =
    let a = c.args in
    let d = c.digits-sum.ensures in
    (omega (arith, d, digits-few 9 a.k (omega arith)), omega arith, omega (arith, d, length-append (decimal a.k) (39 ∷ [])))

pub overflow_add-sum-in-loop-c : goal.overflow_add-sum-in-loop-c
overflow_add-sum-in-loop-c c = omega (arith, c.word_bytes.ensures.1)

pub overflow_add-sum-in-loop-c-2 : goal.overflow_add-sum-in-loop-c-2
overflow_add-sum-in-loop-c-2 c =
    let l = c.loop-c in
    omega (arith, l.invariant, c.word_bytes.ensures.1, c.requires)

pub loop-c-preserved : goal.loop-c-preserved
loop-c-preserved c =
    let a = c.args in
    let l = c.loop-c in
    let w = c.word_bytes.ensures in
    let xs = a.cells.now in
    let words = blanks a.names.now in
    let s = sum-on words xs l.c-index l.sum c.word_bytes.result (atom_bytes words a.k xs) (omega arith) w.0 l.invariant.2 in
    (omega (arith, l.invariant.0, w.1), omega arith, s)

pub returns : goal.returns
returns c =
    let a = c.args in
    let l = c.loop-c in
    (omega (arith, l.invariant.2, no_cells (blanks a.names.now) a.cells.now l.c-index (omega arith)), omega (arith, l.invariant.0, l.invariant.1, c.requires))
