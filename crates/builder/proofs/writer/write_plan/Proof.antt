use mathlib.Core.Path.{refl}
use native.Mathlib.Omega.{arith}
use borrow.Author.Rules.{rules}
use Rattle.state.proofs.FirstLaws.{few-rows}
use Rattle.builder.proofs.PlannedLaws.{first-state, planned}
use Rattle.builder.proofs.writer.write_plan.Statement.{statement}
use Rattle.builder.proofs.writer.write_plan.Tie as tie

open-rows-requires : tie.Need-open_rows-masks-requires
open-rows-requires c κs = search rules

state-requires : tie.Need-state-cells-requires
state-requires c κs =
    let o = c in
    let q = o.requires in
    (first-state _ _ q.0 o.open_rows-masks.ensures q.1 refl q.2 q.3).state

sub-t13 : tie.Need-overflow_sub-result
sub-t13 c = omega (arith, few-rows c.requires.0)

mul-t17 : tie.Need-offset_bounds-kept-count
mul-t17 c = omega (arith, few-rows c.requires.0)

shared-slice-read-t19 : tie.Need-bounds-kept-count
shared-slice-read-t19 c =
    let q = c.requires in
    omega (arith, few-rows q.0, q.2)

returns : tie.Need-returns
returns c =
    λ k. let o = c in
    let q = o.requires in
    let s = first-state _ _ k o.open_rows-masks.ensures q.1 refl q.2 q.3 in
    planned _ _ k q.3 s (c.state-cells.ensures s.state) refl

pub write_plan_spec : {M : Type 1} → statement M
write_plan_spec =
    tie.close
    (tie.spec open-rows-requires state-requires sub-t13 mul-t17 shared-slice-read-t19 returns)
