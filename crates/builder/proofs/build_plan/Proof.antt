use borrow.Author.Rules.{rules}
use Rattle.builder.proofs.build_plan.Statement.{statement}
use Rattle.builder.proofs.build_plan.Tie as tie

sub-none : tie.Need-slice_bounds-none-count
sub-none c = search rules

part-none-start : tie.Need-slice_bounds-none-start
part-none-start c = search rules

part-none-end : tie.Need-slice_bounds-none-end
part-none-end c = search rules

build-for-requires : tie.Need-build_for-requires
build-for-requires c κs = search rules

same_length : tie.Need-shape_of-room
same_length c = search rules

returns : tie.Need-returns
returns c = c.build_for.ensures

pub build_plan_spec : {M : Type 1} → statement M
build_plan_spec =
    tie.close
    (tie.spec sub-none part-none-start part-none-end build-for-requires same_length returns)
