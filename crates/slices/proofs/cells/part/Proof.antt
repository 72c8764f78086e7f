use mathlib.Core.Path.{refl}
use borrow.Author.Rules.{rules}
use Rattle.slices.proofs.cells.part.Statement.{statement}
use Rattle.slices.proofs.cells.part.Tie as tie

inside-requires : tie.Need-inside-s-requires
inside-requires c κs = search rules

mul-result : tie.Need-offset_bounds-cells-a
mul-result c = search rules

sub-result : tie.Need-slice_bounds-result-count
sub-result c = search rules

part-result-start : tie.Need-slice_bounds-result-start
part-result-start c = search rules

part-result-end : tie.Need-slice_bounds-result-end
part-result-end c = search rules

returns : tie.Need-returns
returns c =
    let i = c.inside-s in
    let a = c.args in
    i.ensures.same a.cells.now refl

pub part_spec : {M : Type 1} → statement M
part_spec =
    tie.close
    (tie.spec inside-requires mul-result sub-result part-result-start part-result-end returns)
