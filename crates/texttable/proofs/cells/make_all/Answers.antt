use mathlib.Core.Path.{refl, ◌∙◌}
use native.Mathlib.Omega.{arith}
use Rattle.symbols.proofs.LeftLaws.{start-reads}
use Rattle.texttable.proofs.MakeLaws.{first-ready, ready, went, ended}
use Rattle.texttable.proofs.cells.make_all.Goals as goal

pub loop-next-init : goal.loop-next-init
loop-next-init c = ((refl, refl, refl, refl, refl, refl, refl), λ R. R.state)

pub make_on-requires : goal.make_on-requires
make_on-requires c =
    let F = c.requires in
    let R = first-ready c.begin-first.result F.writes F.low F.for-list (start-reads c.begin-first.ensures) F.names F.vars F.for-given F.for-words F.for-owners in
    ready c.loop-next.list c.loop-next.links c.loop-next.words c.loop-next.ways c.loop-next.given c.loop-next.cells c.loop-next.owners c.loop-next.m c.loop-next.k R c.loop-next.invariant.0.0 c.loop-next.invariant.0.2 c.loop-next.invariant.0.5 c.loop-next.invariant.0.6 (c.loop-next.invariant.1 R)

pub loop-next-smaller : goal.loop-next-smaller
loop-next-smaller c =
    let n = c.make_on in
    let F = c.requires in
    let R = first-ready c.begin-first.result F.writes F.low F.for-list (start-reads c.begin-first.ensures) F.names F.vars F.for-given F.for-words F.for-owners in
    let w = went c.args.text.now R.start R.listed n.new.list n.new.links n.new.words
    n.new.ways n.new.given n.new.cells n.new.owners
    R.facts c.loop-next.m c.in-Go.is (n.ensures (ready c.loop-next.list c.loop-next.links c.loop-next.words c.loop-next.ways c.loop-next.given c.loop-next.cells c.loop-next.owners c.loop-next.m c.loop-next.k R c.loop-next.invariant.0.0 c.loop-next.invariant.0.2 c.loop-next.invariant.0.5 c.loop-next.invariant.0.6 (c.loop-next.invariant.1 R))) in
    omega (arith, w.0, w.1.makes.within)

pub loop-next-preserved : goal.loop-next-preserved
loop-next-preserved c =
    let l = c.loop-next.invariant in
    let n = c.make_on in (
      (
        n.auto.list ∙ l.0.0,
        n.auto.links ∙ l.0.1,
        n.auto.words ∙ l.0.2,
        n.auto.ways ∙ l.0.3,
        n.auto.given ∙ l.0.4,
        n.auto.cells ∙ l.0.5,
        n.auto.owners ∙ l.0.6,
      ),
      λ R. (went c.args.text.now R.start R.listed n.new.list n.new.links n.new.words
          n.new.ways n.new.given n.new.cells n.new.owners
          R.facts c.loop-next.m c.in-Go.is (n.ensures (ready c.loop-next.list c.loop-next.links c.loop-next.words c.loop-next.ways c.loop-next.given c.loop-next.cells c.loop-next.owners c.loop-next.m c.loop-next.k R c.loop-next.invariant.0.0 c.loop-next.invariant.0.2 c.loop-next.invariant.0.5 c.loop-next.invariant.0.6 (c.loop-next.invariant.1 R)))).1,
    )

pub returns-in-Done : goal.returns-in-Done
returns-in-Done c =
    let n = c.make_on in
    λ F. let R = first-ready c.begin-first.result F.writes F.low F.for-list (start-reads c.begin-first.ensures) F.names F.vars F.for-given F.for-words F.for-owners in
    ended c.args.text.now R.start R.listed n.new.list n.new.links n.new.words
    n.new.ways n.new.given n.new.cells n.new.owners
    R.facts c.loop-next.m c.in-Done.is (n.ensures (ready c.loop-next.list c.loop-next.links c.loop-next.words c.loop-next.ways c.loop-next.given c.loop-next.cells c.loop-next.owners c.loop-next.m c.loop-next.k R c.loop-next.invariant.0.0 c.loop-next.invariant.0.2 c.loop-next.invariant.0.5 c.loop-next.invariant.0.6 (c.loop-next.invariant.1 R)))
