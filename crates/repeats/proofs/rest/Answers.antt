-- `rest` (src/lib.rt): one branch after another, up to the first that fails.
use Prim.Native.Nat.{◌<◌}
use mathlib.Core.Path.{◌≡◌, refl}
use mathlib.Core.Bool.{true, false}
use native.Mathlib.Omega.{arith}
use Rattle.alone.specs.code.Rest.{Begins}
use Rattle.alone.proofs.BeginLaws.{begins-under}
use Rattle.alone.proofs.RestLaws.{rest-ends, rest-safe, rest-on, rest-off}
use Rattle.repeats.proofs.rest.Goals as goal
use Rattle.repeats.proofs.rest.Goals.{At-loop-i}

-- a place in the loop: where the branches end
module _ (c : At-loop-i) where
  abbrev Begun : Type 0
  Begun =
      let a = c.args in
      Begins a.notes.now a.rep.now a.sib.now a.bound.now a.args.now a.until.now a.refs.now a.from a.to

  at-end : Begun → c.end_of-end.result ≡ c.args.to
  at-end b = c.end_of-end.ensures.1 b.far

  lower : Begun → c.loop-i.i < c.end_of-end.result → c.loop-i.i < c.args.to
  lower b h = omega (arith, at-end b)

pub loop-i-init : goal.loop-i-init
loop-i-init c = λ b. begins-under b (c.symbols-own.ensures b.size-bound b.size-until) refl

pub returns-then-not-meets : goal.returns-then-not-meets
returns-then-not-meets c = (
  omega (arith, c.end_of-end.ensures.0),
  omega arith,
  λ b.
      let u = c.loop-i.invariant b in
      let h = lower (goal.at.returns-then-not-meets c).At-loop-i b (omega arith) in
      (false, refl, rest-off u h (c.meets.ensures (rest-safe u h)) c.if-not-meets.true _ (omega arith)),
)

pub loop-i-preserved : goal.loop-i-preserved
loop-i-preserved c = λ b.
    let u = c.loop-i.invariant b in
    let h = lower (goal.at.loop-i-preserved c).At-loop-i b (omega arith) in
    rest-on u h (c.meets.ensures (rest-safe u h)) c.if-not-meets.false

pub returns : goal.returns
returns c = (
  omega (arith, c.end_of-end.ensures.0),
  omega arith,
  λ b.
      let u = c.loop-i.invariant b in
      let h = at-end (goal.at.returns c).At-loop-i b in
      (true, refl, rest-ends u (omega (arith, h, u.left)) _ (omega (arith, h, u.left))),
)
