-- `unify` (src/lib.rt), by the laws of crate classes.
use mathlib.Core.Path.{refl}
use mathlib.Core.Logic.{◌≢◌}
use borrow.Author.Rules.{rules}
use native.Mathlib.Omega.{arith}
use Rattle.classes.proofs.SearchLaws.{classes-few, equals-apart, search-first, equals-searched}
use Rattle.joins.proofs.unify.Statement.{statement}
use Rattle.joins.proofs.unify.Tie as tie

node-requires : tie.Need-node-x-requires
node-requires c κs = search rules

node-requires-2 : tie.Need-node-y-requires
node-requires-2 c κs = search rules

unify-term-requires : tie.Need-unify_term-some-requires
unify-term-requires c κs = search rules

returns : tie.Need-returns-then-some-eq0
returns c = λ R ha hb.
    let e = c.node-x.ensures.1 ha in
    let u = rw (e, c.node-y.ensures.1 hb) at (c.unify_term-some.ensures.1 R (classes-few c.args.rep.now)) in
    equals-apart ha u (omega arith)

finite-requires : tie.Need-finite-requires
finite-requires c κs = search rules

returns-2 : tie.Need-returns
returns-2 c = λ R ha hb.
    let e = c.node-x.ensures.1 ha in
    let u = rw (e, c.node-y.ensures.1 hb) at (c.unify_term-some.ensures.1 R (classes-few c.args.rep.now)) in
    let z : c.unify_term-some.result ≢ 0 = λ e. (let z : ⊥ = omega arith in z) in
    equals-searched ha u z (rw e at (c.finite.ensures.1 (rw e (search-first ha u z refl))))

pub unify_spec : {M : Type 1} → statement M
unify_spec =
    tie.close
    (tie.spec node-requires node-requires-2 unify-term-requires returns finite-requires returns-2)
