-- `meets_symbol` (src/lib.rt).
use mathlib.Core.Path.{◌≡◌, refl, ◌∙◌}
use native.Mathlib.Omega.{arith}
use lib.ListN.{get_or}
use Rattle.alone.specs.code.Rest.{Safe, same-symbol, other-symbol, new-symbol}
use Rattle.repeats.proofs.meets_symbol.Goals as goal
use Rattle.repeats.proofs.meets_symbol.Goals.{After-node-x}

-- the node that stands for the class, as it is read
module _ (c : After-node-x) where
  read : (let a = c.args in Safe a.sib.now a.own.now a.args.now a.cls.now a.keep.now a.c a.u a.next)
      → c.node-x.result ≡ get_or c.args.cls.now c.args.u 0
  read S = let e = c.wide.ensures in c.node-x.ensures.1 (omega (arith, S.stands)) ∙ e

pub returns-then-s-c : goal.returns-then-s-c
returns-then-s-c c =
    λ S v.
    let r = read (goal.at.returns-then-s-c c).After-node-x S in
    let e = rw r at c.if-s-c.true in
    let f = rw (c.arity_of.ensures, c.wide-then-s-c.ensures, r) at c.put_terms.ensures in
    same-symbol v e refl refl refl refl (f S.room (S.kids e v))

pub returns-then-s-ne0 : goal.returns-then-s-ne0
returns-then-s-ne0 c =
    λ S v.
    let r = read (goal.at.returns-then-s-ne0 c).After-node-x S in
    other-symbol v (rw r at c.if-s-ne0.true) (rw r at c.if-s-c.false)

pub returns : goal.returns
returns c =
    λ S v.
    let r = read (goal.at.returns c).After-node-x S in
    let z : get_or c.args.own.now c.node-x.result 0 ≡ 0 = omega arith in
    let f = rw c.arity_of-2.ensures at c.put_terms-2.ensures in
    new-symbol v (rw r at z) (rw r refl) (rw r refl) refl refl (f S.room S.new)
