use Prim.Native.Nat.{ℕ}
use mathlib.Core.Path.{ap, ◌∙◌}
use lib.ListN.{get_or, set}
use Rattle.texttable.specs.code.Cells.{with_argument}
use Rattle.texttable.proofs.cells.add_argument.Goals as goal

pub returns : goal.returns
returns c =
    let a = c.args in
    ap (set a.cells.now _) c.with_argument.ensures
    ∙ ap (λ (i : ℕ). set a.cells.now i (with_argument (get_or a.cells.now i 0))) c.from-own.ensures
