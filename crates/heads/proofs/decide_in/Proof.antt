use Prim.Native.Nat.{◌-◌}
use mathlib.Core.Path.{◌≡◌, sym, refl}
use native.Mathlib.Omega.{arith}
use lib.Seq.{length-take-le}
use Rattle.heads.proofs.HeadLaws.{put-taken}
use borrow.Author.Rules.{rules}
use Rattle.heads.proofs.decide_in.Statement.{statement}
use Rattle.heads.proofs.decide_in.Tie as tie

-- src/lib.rt:73:25
slice-aggregate-put-decided : tie.Need-slice_bounds-put_decided-end
slice-aggregate-put-decided c = search rules

-- src/lib.rt:73:36
part-requires : tie.Need-part-requires
part-requires c κs = search rules

-- src/lib.rt:73:9
put-decided-requires : tie.Need-put_decided-m-requires
put-decided-requires c κs = search rules

-- src/lib.rt:74:24
array-share-prefix-next : tie.Need-slice_bounds-next-end
array-share-prefix-next c = ((let e : c.args.n - 0 ≡ c.args.n = omega arith in
    put-taken refl (rw (c.part.ensures, e) at c.put_decided-m.ensures))).0

-- src/lib.rt:74:24
slice-aggregate-put-cells : tie.Need-slice_bounds-put_cells-end
slice-aggregate-put-cells c =
    sym (length-take-le c.put_decided-m.result c.put_decided-m.new.out ((let e : c.args.n - 0 ≡ c.args.n = omega arith in
    put-taken refl (rw (c.part.ensures, e) at c.put_decided-m.ensures))).0)

-- src/lib.rt:74:5
put-cells-requires : tie.Need-put_cells-requires
put-cells-requires c κs = search rules

-- src/lib.rt:69:1
same_length : tie.Need-shape_of-head
same_length c = search rules

-- src/lib.rt:69:1
returns : tie.Need-returns
returns c =
    rw ((let e : c.args.n - 0 ≡ c.args.n = omega arith in
    put-taken refl (rw (c.part.ensures, e) at c.put_decided-m.ensures))).1 at c.put_cells.ensures

pub decide_in_spec : {M : Type 1} → statement M
decide_in_spec =
    tie.close
    (tie.spec
    slice-aggregate-put-decided
    part-requires
    put-decided-requires
    array-share-prefix-next
    slice-aggregate-put-cells
    put-cells-requires
    same_length
    returns)
