-- `swap` meets its contract: one cell after another.
use Rattle.std.proofs.Common.{◌≡◌, ℕ, ◌<◌, length, set, refl, ◌∙◌, ap, subst, arith}
use Rattle.meeting.specs.code.Turns.{Swapped}
use Rattle.meeting.proofs.SwapLaws.{swap-next}
use Rattle.meeting.proofs.swap.Goals as goal

pub loop-i-init : goal.loop-i-init
loop-i-init c = refl

pub loop-i-preserved : goal.loop-i-preserved
loop-i-preserved c =
    let l = c.loop-i in
    let a = c.args in
    let h : l.i < length a.cells.now = omega (arith, c.requires) in
    ap (set l.cells l.i) c.swapped.ensures ∙ swap-next a.cells.now l.cells a.v a.c l.i h l.invariant

pub returns : goal.returns
returns c =
    let l = c.loop-i in
    let a = c.args in
    let e : l.i ≡ a.n = omega arith in
    subst (λ (m : ℕ). Swapped a.cells.now l.cells a.v a.c m) e l.invariant
