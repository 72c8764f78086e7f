use mathlib.Core.Path.{refl, sym, ap, ◌∙◌}
use mathlib.Core.List.{[], ◌∷◌}
use native.Mathlib.Omega.{arith}
use lib.ListN.{length, length-append}
use lib.Seq.{length-take-le}
use Rattle.refusal.specs.Read.{refuse}
use Rattle.termtext.specs.Goal.{no_text}
use Rattle.goaltext.proofs.read_stopped.Goals as goal

pub slice_bounds-read_whole-end : goal.slice_bounds-read_whole-end
slice_bounds-read_whole-end c =
    sym (length-take-le _ _ c.in-Ok.ensures.fits)

pub read_whole-requires : goal.read_whole-requires
read_whole-requires c =
    let a = c.args in
    let l = length-take-le c.in-Ok.m a.stopped.now c.in-Ok.ensures.fits in
    (c.requires.0, omega (arith, l, c.in-Ok.ensures.fits, c.requires))

pub returns-in-Ok : goal.returns-in-Ok
returns-in-Ok c = λ t e short.
    let n = ap length e ∙ length-append t (10 ∷ 46 ∷ []) in
    let z = c.in-Ok.ensures.read t e (omega arith) in
    c.read_whole.ensures t z.0 z.1 short

pub returns-in-Err : goal.returns-in-Err
returns-in-Err c = λ t e short.
    let n = ap length e ∙ length-append t (10 ∷ 46 ∷ []) in
    record {
      says = refuse _;
      rule = no_text short (c.in-Err.ensures.read t e (omega arith));
      answers = record { tells = c.refuse.ensures; wrote = refl; listed = refl };
    }
