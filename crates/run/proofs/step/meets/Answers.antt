use Prim.Native.Nat.{ℕ, ◌+◌}
use mathlib.Core.Path.{◌≡◌, refl, ◌∙◌, ap, ap₂, subst}
use native.Mathlib.Omega.{arith}
use lib.ListN.{get_or, set}
use Rattle.cell.specs.Cell.{arity}
use Rattle.plan.specs.Notes.{cell_in, slot_in, next_in}
use Rattle.walking.specs.code.Steps.{Safe, step-any, step_other, step_same, step-binds}
use Rattle.run.specs.code.Finds.{Finds}
use Rattle.run.proofs.TestLaws.{is_any, is-other, is_same, is-unbound}
use Rattle.run.proofs.step.meets.Goals as goal
use Rattle.run.proofs.step.meets.Goals.{After-node-v, After-test-seen}

-- the node that the branch looks at
module _ (c : After-node-v) where
  -- what the branch takes for granted
  abbrev Granted : Type 0
  Granted =
      let a = c.args in
      Safe a.sib.now a.bound.now a.args.now a.until.now a.i (cell_in a.w) (get_or a.refs.now (slot_in a.w) 0) (next_in a.w)

  node-read : Granted → c.node-v.result ≡ get_or c.args.refs.now (slot_in c.args.w) 0
  node-read S =
      let e = c.wide.ensures
      ∙ ap (λ (x : ℕ). get_or c.args.refs.now x 0) c.slot_of.ensures in
      c.node-v.ensures.1 (omega (arith, e, S.node)) ∙ e

-- what the test finds, in the branch's own numbers
finds : (c : After-test-seen) (v : ℕ) → c.node-v.result ≡ v
    → (let a = c.args in Finds a.bound.now a.args.now a.until.now a.i (cell_in a.w) v c.test-seen.result)
finds c v e =
    let a = c.args in
    let r = c.test-seen.result in
    subst (λ (v : ℕ). Finds a.bound.now a.args.now a.until.now a.i (cell_in a.w) v r) e
    (subst (λ (d : ℕ). Finds a.bound.now a.args.now a.until.now a.i d c.node-v.result r) c.cell_of-c.ensures c.test-seen.ensures)

pub overflow_add-past-in-Unbound : goal.overflow_add-past-in-Unbound
overflow_add-past-in-Unbound c = omega (arith, c.skip_of.ensures)

pub overflow_cast-until : goal.overflow_cast-until
overflow_cast-until c = omega (arith, c.skip_of.ensures)

pub returns-in-Any : goal.returns-in-Any
returns-in-Any c = λ S. step-any (is_any (finds (goal.at.returns-in-Any c).After-test-seen _ (node-read (goal.at.returns-in-Any c).After-node-v S)) c.in-Any.is) refl refl refl refl

pub returns-in-Other : goal.returns-in-Other
returns-in-Other c = λ S.
    let s = is-other (finds (goal.at.returns-in-Other c).After-test-seen _ (node-read (goal.at.returns-in-Other c).After-node-v S)) c.in-Other.is in
    step_other s.0 s.1 s.2 refl refl refl refl

pub returns-in-Same : goal.returns-in-Same
returns-in-Same c = λ S.
    let r = c.cell_of-c.ensures in
    let s = is_same (finds (goal.at.returns-in-Same c).After-test-seen _ (node-read (goal.at.returns-in-Same c).After-node-v S)) c.in-Same.is in
    let a = c.arity_of.ensures ∙ ap arity r in
    let f = rw (a, c.next_of.ensures, s.3) at c.put_terms.ensures in
    step_same s.0 s.1 s.2 refl refl refl (f S.room (S.same s.1 s.2))

pub returns-in-Unbound : goal.returns-in-Unbound
returns-in-Unbound c = λ S.
    let r = c.cell_of-c.ensures in
    let e = node-read (goal.at.returns-in-Unbound c).After-node-v S in
    let s = is-unbound (finds (goal.at.returns-in-Unbound c).After-test-seen _ (node-read (goal.at.returns-in-Unbound c).After-node-v S)) c.in-Unbound.is in
    let a = c.args in
    let z = c.arity_of-in-Unbound.ensures ∙ ap arity r in
    let f = rw (z, c.next_of-next.ensures) at c.put_terms-in-Unbound.ensures in
    step-binds s.0 s.1
    (ap₂ (λ (v d : ℕ). set a.bound.now v d) e r)
    (ap₂ (λ (v d : ℕ). set a.args.now v d) e c.next_of-next.ensures)
    (ap₂ (λ (v d : ℕ). set a.until.now v (a.i + 1 + d)) e c.skip_of.ensures)
    (f S.room S.new)
