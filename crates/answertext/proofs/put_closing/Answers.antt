use Prim.Native.Nat.{◌+◌, ◌-◌}
use mathlib.Core.Path.{◌≡◌, refl, sym, ◌∙◌}
use mathlib.Core.List.{[]}
use native.Mathlib.Omega.{arith}
use Rattle.octets.proofs.PutLaws.{put-begins, put-part, put-ends, put-put, put-length}
use Rattle.answertext.proofs.LevelLaws.{levels-store, closing-more, owing-more, closing-last, owing-last, closing-none, owing-none}
use Rattle.answertext.proofs.put_closing.Goals as goal

pub loop-level-init : goal.loop-level-init
loop-level-init c = (omega arith, refl, (put-begins, refl))

pub shape_of-out-then-n-gt1 : goal.shape_of-out-then-n-gt1
shape_of-out-then-n-gt1 c =
    let l = c.loop-level in
    put-length (put-put l.invariant.2.0.puts c.put_word-on.ensures)

pub returns-then-n-gt1 : goal.returns-then-n-gt1
returns-then-n-gt1 c =
    let l = c.loop-level in
    let more = closing-more l.owed l.level refl (omega arith) (omega arith) in
    let here : l.level - 1 + 1 ≡ l.level = omega arith in
    record {
      puts = put-ends (put-part {left = []} (rw more at l.invariant.2.0) c.put_word-on.ensures);
      still = rw here
          (levels-store l.owed l.level _ (omega arith) (omega arith)
          ∙ sym (owing-more l.owed l.level refl (omega arith) (omega arith)) ∙ l.invariant.2.1);
      few = omega arith;
    }

pub loop-level-preserved : goal.loop-level-preserved
loop-level-preserved c =
    let l = c.loop-level in (
      omega arith,
      l.invariant.1,
      (
        put-part (rw (closing-last l.owed l.level refl (omega arith) (omega arith)) at l.invariant.2.0)
            c.put_byte-on.ensures,
        sym (owing-last l.owed l.level refl (omega arith) (omega arith)) ∙ l.invariant.2.1,
      ),
    )

pub shape_of-out : goal.shape_of-out
shape_of-out c = put-length c.loop-level.invariant.2.0.puts

pub returns : goal.returns
returns c =
    let l = c.loop-level in
    record {
      puts = put-ends (rw (closing-none l.owed l.level (omega arith)) at l.invariant.2.0);
      still = sym (owing-none l.owed l.level (omega arith)) ∙ l.invariant.2.1;
      few = omega arith;
    }
