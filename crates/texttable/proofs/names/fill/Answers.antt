use Rattle.texttable.proofs.NameLaws.{name-is, none-listed, filling-tree, name-grown, name-stayed}
use borrow.Author.Rules.{rules}
use native.Mathlib.Omega.{arith}
use mathlib.Core.Path.{◌≡◌, refl}
use Prim.Native.Nat.{ℕ}
use Rattle.texttable.proofs.names.fill.Goals as goal

pub loop-count-init : goal.loop-count-init
loop-count-init c =
    (refl, refl, omega arith, none-listed c.args.text.now c.args.from c.args.list.now c.args.links.now c.requires.2)

pub returns-in_default : goal.returns-in_default
returns-in_default c =
    let l = c.loop-count in
    record {
      filling = l.invariant.3;
      few = l.invariant.2;
      full = λ e. absurd (let z : ◌≡◌ {A = ℕ} 0 1 = cc in omega arith);
      ended = λ e. name-is c.args.text.now l.to c.next_name.ensures c.in_default.is;
    }

pub meet-requires : goal.meet-requires
meet-requires c =
    let A = name-is c.args.text.now c.loop-count.to c.next_name.ensures c.in-Some.is in
    (omega (arith, A.1), omega (arith, A.2, A.3), omega arith, omega arith, omega arith, filling-tree c.loop-count.invariant.3)

pub loop-count-smaller-then-meet-count : goal.loop-count-smaller-then-meet-count
loop-count-smaller-then-meet-count c =
    let A = name-is c.args.text.now c.loop-count.to c.next_name.ensures c.in-Some.is in
    omega (arith, A.0, A.1, A.2, A.3)

pub loop-count-preserved-then-meet-count : goal.loop-count-preserved-then-meet-count
loop-count-preserved-then-meet-count c =
    let l = c.loop-count in
    let a = c.args in (
      search rules,
      search rules,
      search rules,
      name-grown a.text.now a.from l.list l.links _ _ l.count l.to c.in-Some.field-0.next c.in-Some.field-0.start c.in-Some.field-0.end c.meet.result
          l.invariant.3 (name-is c.args.text.now c.loop-count.to c.next_name.ensures c.in-Some.is) (omega (arith, (name-is c.args.text.now c.loop-count.to c.next_name.ensures c.in-Some.is).1)) c.meet.ensures c.if-meet-count.true,
    )

pub loop-count-smaller : goal.loop-count-smaller
loop-count-smaller c =
    let A = name-is c.args.text.now c.loop-count.to c.next_name.ensures c.in-Some.is in
    omega (arith, A.0, A.1, A.2, A.3)

pub loop-count-preserved : goal.loop-count-preserved
loop-count-preserved c =
    let l = c.loop-count in
    let a = c.args in (
      search rules,
      search rules,
      search rules,
      name-stayed a.text.now a.from l.list l.links _ _ l.count l.to c.in-Some.field-0.next c.in-Some.field-0.start c.in-Some.field-0.end c.meet.result
          l.invariant.3 (name-is c.args.text.now c.loop-count.to c.next_name.ensures c.in-Some.is) (omega (arith, (name-is c.args.text.now c.loop-count.to c.next_name.ensures c.in-Some.is).1)) c.meet.ensures c.if-meet-count.false,
    )

pub returns : goal.returns
returns c =
    let l = c.loop-count in
    record { filling = l.invariant.3; few = l.invariant.2; full = λ e. omega (arith, l.invariant.2); ended = λ e. absurd (let z : ◌≡◌ {A = ℕ} 0 1 = cc in omega arith) }
