use Rattle.std.proofs.Common.{◌≡◌, ◌+◌, ◌-◌, get_or, refl, arith}
use Rattle.term.proofs.Lists.{store-next, store-end}
use Rattle.walking.proofs.ListLaws.{steps_all, nodes-more, nodes-none}
use Rattle.repeats.proofs.put_terms.Goals as goal

pub loop-init : goal.loop-init
loop-init c = let z : c.args.a - 0 ≡ c.args.a = omega arith in λ room small. rw z (room, small, refl)

pub loop-preserved : goal.loop-preserved
loop-preserved c = λ room small.
    let l = c.loop in
    let a = c.args in
    let left = a.a - l.counter in
    let i = l.invariant room small in
    let h = steps_all a.sib.now left l.q (omega arith) i.1 in
    let m = nodes-more a.rep.now a.sib.now left l.q (omega arith) in
    let e = c.node-r.ensures.1 h.0 in
    let f = c.node-slot.ensures.1 (omega arith) in
    let d : a.a - (l.counter + 1) ≡ left - 1 = omega arith in
    rw (c.wide-q.ensures, e, f, d) (omega arith, h.1, store-next l.refs _ _ _ l.j (get_or a.rep.now l.q 0) m i.2)

pub returns : goal.returns
returns c = λ room small.
    let l = c.loop in
    let a = c.args in
    store-end l.refs _ _ l.j (nodes-none a.rep.now a.sib.now (a.a - l.counter) l.q (omega arith)) (l.invariant room small).2
