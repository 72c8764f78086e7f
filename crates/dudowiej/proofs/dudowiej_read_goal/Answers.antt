use mathlib.Core.Path.{◌∙◌, ap}
use mathlib.Core.List.{List}
use Prim.Native.Nat.{ℕ}
use Rattle.refusal.specs.Coded.{coded}
use Rattle.refusal.proofs.CodedLaws.{small_by}
use Rattle.table.specs.Table.{goal_says, goal_with}
use Rattle.dudowiej.proofs.CodeLaws.{coded_by, goal-by}
use Rattle.dudowiej.proofs.Small.{goal-with-small}
use Rattle.dudowiej.proofs.dudowiej_read_goal.Goals as goal

pub returns : goal.returns
returns c =
    let g = c.args.goal.now in
    let s = small_by c.read_goal.ensures (goal-with-small c.table_of-cells.result.now g) in
    coded_by (goal-by c.read_goal.result) s c.as_number.ensures ∙
    ap coded (c.read_goal.ensures ∙ ap (λ (cells : List ℕ). goal_says g (goal_with cells g)) c.table_of-cells.ensures)
