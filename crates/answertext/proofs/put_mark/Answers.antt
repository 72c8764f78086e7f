use mathlib.Core.Path.{sym, ◌∙◌}
use native.Mathlib.Omega.{arith}
use Rattle.answertext.specs.code.Levels.{levels}
use Rattle.answertext.proofs.LevelLaws.{levels-more, mark-none, owed_none, mark-some, owed-some}
use Rattle.answertext.proofs.put_mark.Goals as goal

pub returns-then-args-eq0 : goal.returns-then-args-eq0
returns-then-args-eq0 c =
    let a = c.args in
    let k = c.put_closing.ensures in
    let owed = levels a.owed.now a.depth in
    record {
      puts = rw (mark-none a.args owed (omega arith)) k.puts;
      still = k.still ∙ sym (owed_none a.args owed (omega arith));
      few = omega (arith, k.few);
    }

pub returns : goal.returns
returns c =
    let a = c.args in
    let owed = levels a.owed.now a.depth in
    record {
      puts = rw (mark-some a.args owed (λ e. omega arith)) c.put_byte-on.ensures;
      still = levels-more a.owed.now a.depth a.args (omega arith) ∙ sym (owed-some a.args owed (λ e. omega arith));
      few = omega arith;
    }
