use mathlib.Core.Path.{refl, ◌∙◌}
use Rattle.paircosts.proofs.WorkedLaws.{rows-by}
use Rattle.builder.proofs.BuildLaws.{filled-right, flags-few}
use borrow.Author.Rules.{rules}
use Rattle.builder.proofs.build_for.Statement.{statement}
use Rattle.builder.proofs.build_for.Tie as tie

named-of-requires : tie.Need-named_of-named-requires
named-of-requires c κs = search rules

slice-aggregate-fill : tie.Need-slice_bounds-fill-end
slice-aggregate-fill c = search rules

fill-requires : tie.Need-fill-read-requires
fill-requires c κs = search rules

slice-aggregate-build : tie.Need-slice_bounds-build-end
slice-aggregate-build c = search rules

build-requires : tie.Need-build-requires
build-requires c κs =
    let f = c in
    let n = f.named_of-named.ensures in
    (record { rows = λ e. rows-by _ _ f.fill-read.ensures.reads e; flags = flags-few _ n.0 n.1 }, f.fill-read.ensures.size ∙ refl)

same_length : tie.Need-shape_of-room
same_length c = search rules

returns : tie.Need-returns
returns c =
    let f = c in
    let n = f.named_of-named.ensures in
    c.build.ensures _ _ (filled-right _ _ _ n.0 n.1 f.fill-read.ensures refl)

pub build_for_spec : {M : Type 1} → statement M
build_for_spec =
    tie.close
    (tie.spec
    named-of-requires
    slice-aggregate-fill
    fill-requires
    slice-aggregate-build
    build-requires
    same_length
    returns)
