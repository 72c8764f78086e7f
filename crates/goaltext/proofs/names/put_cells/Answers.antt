use Prim.Native.Nat.{ℕ, ◌+◌}
use mathlib.Core.Path.{refl, sym, ap, ◌∙◌}
use mathlib.Core.List.{◌∷◌, ◌++◌}
use native.Mathlib.Omega.{arith}
use lib.ListN.{drop}
use lib.Seq.{sets}
use Rattle.term.proofs.Lists.{store-next, store-end}
use Rattle.termtext.specs.code.Renumber.{new_cells}
use Rattle.goaltext.proofs.NameLaws.{cells-next, cells-none, cells-many, stored-front}
use borrow.Author.Rules.{rules}
use Rattle.goaltext.proofs.names.put_cells.Goals as goal

pub loop-i-init : goal.loop-i-init
loop-i-init c = (refl, refl)

pub loop-i-preserved : goal.loop-i-preserved
loop-i-preserved c =
    let l = c.loop-i in
    let a = c.args in
    let row = a.row.now in
    let numbers = a.numbers.now in
    let next = cells-next numbers row l.i (omega arith)
    ∙ ap (λ (x : ℕ). x ∷ new_cells numbers (drop (l.i + 1) row)) (sym c.new_cell.ensures) in
    (search rules, store-next l.cells (sets a.cells.now 0 (new_cells numbers row)) _ _ l.i _ next l.invariant.1)

pub returns : goal.returns
returns c =
    let l = c.loop-i in
    let a = c.args in
    let row = a.row.now in
    let numbers = a.numbers.now in
    let e = cells-many numbers row in
    store-end l.cells (sets a.cells.now 0 (new_cells numbers row)) _ l.i (cells-none numbers row l.i (omega arith)) l.invariant.1
    ∙ stored-front (new_cells numbers row) a.cells.now (omega arith) ∙ ap (λ (n : ℕ). new_cells numbers row ++ drop n a.cells.now) e
