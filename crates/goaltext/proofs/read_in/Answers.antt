use mathlib.Core.Path.{sym, ap, ◌∙◌}
use mathlib.Core.List.{[], ◌∷◌}
use native.Mathlib.Omega.{arith}
use lib.ListN.{length, length-append}
use Rattle.octets.proofs.PutLaws.{put-put, put-found, put-length}
use Rattle.goaltext.specs.Asked.{asked}
use Rattle.goaltext.proofs.read_in.Goals as goal

pub slice_bounds-read_stopped-end : goal.slice_bounds-read_stopped-end
slice_bounds-read_stopped-end c =
    let z = put-found (put-put c.put_word-n.ensures c.put_word-k.ensures) (omega (arith, length-append c.args.goal.now (10 ∷ 46 ∷ []))) in
    let kept = put-length (put-put c.put_word-n.ensures c.put_word-k.ensures) in
    omega (arith, z.0, kept, length-append c.args.goal.now (10 ∷ 46 ∷ []))

pub slice_bounds-read_stopped-end-2 : goal.slice_bounds-read_stopped-end-2
slice_bounds-read_stopped-end-2 c = let z = put-found (put-put c.put_word-n.ensures c.put_word-k.ensures) (omega (arith, length-append c.args.goal.now (10 ∷ 46 ∷ []))) in z.0 ∙ sym (ap length z.1)

pub read_stopped-requires : goal.read_stopped-requires
read_stopped-requires c =
    let z = put-found (put-put c.put_word-n.ensures c.put_word-k.ensures) (omega (arith, length-append c.args.goal.now (10 ∷ 46 ∷ []))) in
    let n = ap length z.1 ∙ length-append c.args.goal.now (10 ∷ 46 ∷ []) in
    (omega arith, omega arith, omega arith)

pub returns : goal.returns
returns c =
    let R = c.read_stopped.ensures c.args.goal.now (put-found (put-put c.put_word-n.ensures c.put_word-k.ensures) (omega (arith, length-append c.args.goal.now (10 ∷ 46 ∷ [])))).1 (omega arith) in
    record { says = R.says; rule = asked (omega arith) R.rule; answers = R.answers }
