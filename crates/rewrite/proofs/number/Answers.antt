use mathlib.Core.Path.{◌≡◌, ◌∙◌}
use mathlib.Core.Bool.{true}
use Prim.Native.Nat.{suc, ◌≤◌}
use native.Mathlib.Omega.{arith}
use lib.ListN.{length, take, length-set}
use Rattle.cell.specs.Cell.{is_var}
use Rattle.cell.proofs.CellLaws.{is-var, not-var}
use Rattle.instance.specs.Rewrite.{place}
use Rattle.instance.proofs.NumberLaws.{named-least, named-old, named-full, named_new}
use Rattle.rewrite.proofs.number.Goals as goal
use Rattle.rewrite.proofs.number.Goals.{After-find-p}

-- what is known once the variable is looked up
module _ (c : After-find-p) where
  held : c.args.k ≤ length c.args.met.now
  held = let p = c.requires in omega (arith, p.0, p.1)

  variable : is_var c.args.c ≡ true
  variable = is-var c.args.c (omega (arith, c.kind.ensures, c.if-kind-ne0.false))

  least : c.find-p.result ≤ c.args.k
  least = omega (arith, c.find-p.ensures, named-least c.args.met.now c.args.k c.args.c held)

pub returns-then-kind-ne0 : goal.returns-then-kind-ne0
returns-then-kind-ne0 c =
    let z = not-var c.args.c (λ e. c.if-kind-ne0.true (c.kind.ensures ∙ e)) in
    (rw z, rw z, c.requires.0, c.requires.1)

pub overflow_cast-cell : goal.overflow_cast-cell
overflow_cast-cell c = omega (arith, least (goal.at.overflow_cast-cell c).After-find-p, c.requires.0)

pub returns-then-p-k : goal.returns-then-p-k
returns-then-p-k c =
    let p = c.requires in
    (rw (variable (goal.at.returns-then-p-k c).After-find-p) c.find-p.ensures, named-old c.args.met.now c.args.k c.args.c (held (goal.at.returns-then-p-k c).After-find-p) 64 (omega (arith, c.find-p.ensures, c.if-p-k.true)), p.0, p.1)

pub returns-then-k-ge64 : goal.returns-then-k-ge64
returns-then-k-ge64 c =
    let p = c.requires in
    (rw (variable (goal.at.returns-then-k-ge64 c).After-find-p) c.find-p.ensures, named-full c.args.met.now c.args.k c.args.c (held (goal.at.returns-then-k-ge64 c).After-find-p) 64 (variable (goal.at.returns-then-k-ge64 c).After-find-p) c.if-k-ge64.true, p.0, p.1)

pub returns : goal.returns
returns c =
    let p = c.requires in
    let e : place c.args.c (take c.args.k c.args.met.now) ≡ c.args.k = omega (arith, c.find-p.ensures, least (goal.at.returns c).After-find-p, c.if-p-k.false) in
    let l : suc c.args.k ≤ 64 = omega (arith, c.if-k-ge64.false) in (
      rw (variable (goal.at.returns c).After-find-p) c.find-p.ensures,
      named_new c.args.met.now c.args.k c.args.c (held (goal.at.returns c).After-find-p) 64 (variable (goal.at.returns c).After-find-p) e l (omega (arith, l, p.1)),
      omega (arith, l),
      length-set c.args.met.now c.args.k c.args.c ∙ p.1,
    )
