-- `meets` (src/lib.rt).
use Prim.Native.Nat.{ℕ}
use mathlib.Core.Path.{◌≡◌, sym, ◌∙◌, ap}
use mathlib.Core.Logic.{◌≢◌}
use native.Mathlib.Omega.{arith}
use lib.ListN.{get_or}
use Rattle.cell.specs.Cell.{kind_of}
use Rattle.cell.proofs.CellLaws.{is-var, not-var}
use Rattle.plan.specs.Notes.{cell_in, slot_in, next_in}
use Rattle.alone.specs.code.Rest.{Safe}
use Rattle.repeats.proofs.meets.Goals as goal
use Rattle.repeats.proofs.meets.Goals.{After-node-u}

-- the node that the branch looks at
module _ (c : After-node-u) where
  slot_read : c.wide.result ≡ get_or c.args.refs.now (slot_in c.args.w) 0
  slot_read = c.wide.ensures ∙ ap (λ (x : ℕ). get_or c.args.refs.now x 0) c.slot_of.ensures

  node-read : (let a = c.args in
      Safe a.sib.now a.own.now a.args.now a.cls.now a.keep.now (cell_in a.w) (get_or a.refs.now (slot_in a.w) 0)
      (next_in a.w))
      → c.node-u.result ≡ get_or c.args.refs.now (slot_in c.args.w) 0
  node-read S = c.node-u.ensures.1 (omega (arith, slot_read, S.node)) ∙ slot_read

pub returns-in-0 : goal.returns-in-0
returns-in-0 c =
    λ S.
    let a = c.args in
    let e = c.cell_of-c.ensures in
    let v = is-var (cell_in a.w) (rw e at (sym c.kind.ensures ∙ c.in-0.is)) in
    let f = rw (e, node-read (goal.at.returns-in-0 c).After-node-u S) at (c.meets_variable.ensures a.refs.now (next_in a.w)) in
    f S v

pub returns-in_default : goal.returns-in_default
returns-in_default c =
    λ S.
    let r = c.cell_of-c in
    let o : kind_of r.result ≢ 0 = λ z. (let q : ⊥ = omega (arith, c.kind.ensures ∙ z) in q) in
    let v = not-var (cell_in c.args.w) (rw r.ensures at o) in
    let f = rw (r.ensures, node-read (goal.at.returns-in_default c).After-node-u S, c.next_of.ensures) at c.meets_symbol.ensures in
    f S v
