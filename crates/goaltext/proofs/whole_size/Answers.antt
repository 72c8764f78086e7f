use mathlib.Core.Path.{sym, subst}
use native.Mathlib.Omega.{arith}
use lib.Seq.{length-take-le}
use Rattle.goaltext.specs.code.Steps.{EndsAre}
use Rattle.goaltext.proofs.StepLaws.{size-whole, size-byte, size-stopped, size_none}
use Rattle.goaltext.proofs.whole_size.Goals as goal

pub slice_bounds-text_stop-end : goal.slice_bounds-text_stop-end
slice_bounds-text_stop-end c =
    let a = c.args in sym (length-take-le a.n a.text.now (omega (arith, c.requires)))

pub returns-then-k-n : goal.returns-then-k-n
returns-then-k-n c =
    let a = c.args in
    record {
      fits = tt;
      read = λ t e l.
          size-byte t a.text.now a.n e l (c.in-Some.ensures (omega (arith, length-take-le c.args.n c.args.text.now (omega (arith, c.requires)), c.requires))) (omega arith);
    }

pub returns-in-None : goal.returns-in-None
returns-in-None c =
    let a = c.args in
    record {
      fits = omega (arith, c.requires);
      read = λ t e l.
          size-whole t a.text.now a.n e l (c.in-None.ensures (omega (arith, length-take-le c.args.n c.args.text.now (omega (arith, c.requires)), c.requires)));
    }

pub returns-in-None-text_stop : goal.returns-in-None-text_stop
returns-in-None-text_stop c =
    let a = c.args in
    record {
      fits = omega (arith, c.requires);
      read = λ t e l.
          size-stopped t a.text.now a.n e l (c.in-Some.ensures (omega (arith, length-take-le c.args.n c.args.text.now (omega (arith, c.requires)), c.requires))) (omega arith)
          (subst (EndsAre a.text.now) c.in-None-text_stop.is
          (c.text_stop-in-Some.ensures (omega (arith, c.requires))));
    }

pub returns-in-Some-text_stop : goal.returns-in-Some-text_stop
returns-in-Some-text_stop c =
    let a = c.args in
    record {
      fits = tt;
      read = λ t e l.
          size_none t a.text.now a.n e l (c.in-Some.ensures (omega (arith, length-take-le c.args.n c.args.text.now (omega (arith, c.requires)), c.requires))) (omega arith)
          (subst (EndsAre a.text.now) c.in-Some-text_stop.is
          (c.text_stop-in-Some.ensures (omega (arith, c.requires))));
    }
