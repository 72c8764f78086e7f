use Prim.Native.Nat.{ℕ, ◌+◌, ◌%◌, ◌^◌}
use mathlib.Core.Path.{ap₂, ◌∙◌}
use Rattle.cell.specs.Cell.{name_cell}
use Rattle.texttable.proofs.cells.with_argument.Goals as goal

pub returns : goal.returns
returns c =
    c.name_cell.ensures
    ∙ ap₂ (λ (a n : ℕ). name_cell ((a + 1) % 2 ^ 3) (n % 2 ^ 16)) c.args-2.ensures c.number.ensures
