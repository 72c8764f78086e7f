use Prim.Native.Nat.{ℕ}
use mathlib.Core.Path.{◌≡◌, refl, sym, subst}
use mathlib.Core.Bool.{false}
use mathlib.Core.List.{List}
use Rattle.symbols.specs.Next.{RowEnds}
use Rattle.std.specs.Prelude.{Some}
use Rattle.texttable.specs.code.Tree.{Cleared}
use Rattle.texttable.specs.code.Cells.{making, known, RowMade}
use Rattle.texttable.specs.declared.cells.Known.{Known}
use Rattle.texttable.specs.declared.cells.Made.{Made}
use Rattle.texttable.specs.declared.cells.Made.TheVariants as made
use Rattle.texttable.proofs.cells.after_row.Goals as goal

begun : (t : List ℕ) (at count : ℕ) (k : Known) (ways ways' : List ℕ) (q : ℕ) {r : Made} → r ≡ made.Go (making q false 0 count) (known k.names 0 0)
    → RowEnds t at (Some q) → Cleared ways ways' k.row.named → RowMade t at count k ways ways' r
begun t at count k ways ways' q e x y = subst (RowMade t at count k ways ways') (sym e) (x, refl, refl, y)

pub returns-in-Some : goal.returns-in-Some
returns-in-Some c =
    let a = c.args in
    begun a.text.now a.at a.count a.k a.ways.now c.clear.new.links c.in-Some.q c.go.ensures
    (subst (RowEnds a.text.now a.at) c.in-Some.is c.row_end.ensures)
    c.clear.ensures

pub returns-in-None : goal.returns-in-None
returns-in-None c =
    let a = c.args in
    (subst (RowEnds a.text.now a.at) c.in-None.is c.row_end.ensures, refl)
