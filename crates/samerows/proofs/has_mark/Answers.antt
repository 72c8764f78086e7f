use Rattle.std.proofs.Common.{◌≡◌, ◌||◌, Bool, true, false, refl, sym, ◌∙◌, ap, arith}
use Rattle.samerows.specs.Marks.{has}
use Rattle.samerows.proofs.MarkLaws.{has-next, has_end}
use Rattle.samerows.proofs.has_mark.Goals as goal

or-assoc : (a b c : Bool) → ((a || b) || c) ≡ (a || (b || c))
or-assoc true b c = refl
or-assoc false b c = refl

pub loop-m-preserved : goal.loop-m-preserved
loop-m-preserved c =
    let marks = c.args.marks.now in
    let l = c.loop-m in
    or-assoc l.found _ _ ∙ sym (ap (λ (d : Bool). l.found || d) (has-next marks c.args.mark l.m-index (omega arith))) ∙ l.invariant

pub returns : goal.returns
returns c = let l = c.loop-m in sym (has_end c.args.marks.now c.args.mark l.m-index l.found (omega arith)) ∙ l.invariant
