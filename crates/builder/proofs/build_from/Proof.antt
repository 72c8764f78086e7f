use native.Mathlib.Omega.{arith}
use lib.Pow.{pow_pos}
use Rattle.state.proofs.FirstLaws.{table-rows}
use Rattle.record.proofs.StoreLaws.{lent-long}
use Rattle.builder.proofs.RecordLaws.{built-from}
use borrow.Author.Rules.{rules}
use Rattle.builder.proofs.build_from.Statement.{statement}
use Rattle.builder.proofs.build_from.Tie as tie

table-of-requires : tie.Need-table_of-cells-requires
table-of-requires c κs = search rules

read-table-requires : tie.Need-read_table-read-requires
read-table-requires c κs = search rules

sub-build : tie.Need-slice_bounds-build-count
sub-build c = search rules

part-build-start : tie.Need-slice_bounds-build-start
part-build-start c = search rules

part-build-end : tie.Need-slice_bounds-build-end
part-build-end c = search rules

build-requires : tie.Need-build-requires
build-requires c κs =
    let s = c in (
      record { rows = λ e. table-rows _ c.read_table-read.ensures e; flags = λ w h. pow_pos w },
      lent-long s.args.rec.now (omega arith),
    )

same_length : tie.Need-shape_of-room
same_length c = search rules

returns : tie.Need-returns
returns c =
    λ figure T x. built-from x c.table_of-cells.ensures
    c.read_table-read.ensures c.build.ensures

pub build_from_spec : {M : Type 1} → statement M
build_from_spec =
    tie.close
    (tie.spec
    table-of-requires
    read-table-requires
    sub-build
    part-build-start
    part-build-end
    build-requires
    same_length
    returns)
