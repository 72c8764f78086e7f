use Rattle.std.proofs.Common.{◌≡◌, ◌-◌, ℕ, List, arith, length, replicate, take, drop, ap, ◌∙◌, length-take, length-drop}
use Rattle.std.proofs.lemmas.List.{length-replicate}
use Rattle.edits.proofs.StoringLaws.{put_mid-sets}
use Rattle.edits.proofs.store.clear.Goals as goal

pub returns : goal.returns
returns c =
    let n : ℕ = c.args.to - c.args.from in
    let part : List ℕ = take n (drop c.args.from c.args.out.now) in
    let long : length part ≡ n =
    omega (arith, length-take n (drop c.args.from c.args.out.now), length-drop c.args.from c.args.out.now) in
    put_mid-sets c.args.from n c.args.out.now _ (replicate n 0)
    (c.fill.ensures.after (λ y e. e) ∙ ap (λ (m : ℕ). replicate m 0) long) (length-replicate n 0) (omega arith)
