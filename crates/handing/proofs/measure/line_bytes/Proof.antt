use native.Mathlib.Omega.{arith}
use Rattle.handing.specs.code.Lines.{blanks}
use Rattle.handing.proofs.LineLaws.{cut_short, met-short, ups-long, fact-bytes, rule-bytes}
use borrow.Author.Rules.{rules}
use Rattle.handing.proofs.measure.line_bytes.Statement.{statement}
use Rattle.handing.proofs.measure.line_bytes.Tie as tie

-- src/measure.rt:120:16
sub-head : tie.Need-slice_bounds-head-count
sub-head c = search rules

-- src/measure.rt:120:16
part-head-start : tie.Need-slice_bounds-head-start
part-head-start c = search rules

-- src/measure.rt:120:16
part-head-end : tie.Need-slice_bounds-head-end
part-head-end c = search rules

-- src/measure.rt:121:35
shared-slice-read-atom-bytes : tie.Need-bounds-clause-0
shared-slice-read-atom-bytes c = search rules

-- src/measure.rt:121:17
atom-bytes-requires : tie.Need-atom_bytes-bytes-requires
atom-bytes-requires c κs = let p = c in cut_short p.args.clause.now p.requires.0

-- src/measure.rt:121:17
add-bytes : tie.Need-overflow_add-bytes
add-bytes c = search rules

-- src/measure.rt:122:18
shared-slice-read-called : tie.Need-bounds-clause-1
shared-slice-read-called c = search rules

-- src/measure.rt:124:9
returns : tie.Need-returns-then-called-eq0
returns c =
    let t = c.atom_bytes-bytes in
    (λ w. fact-bytes c.args.clause.now w (blanks c.args.names.now) t.result c.if-called-eq0.true t.ensures.0, omega (arith, t.ensures.1))

-- src/measure.rt:127:9
variables-requires : tie.Need-variables-v-requires
variables-requires c κs = let p = c in cut_short p.args.clause.now p.requires.0

-- src/measure.rt:128:5
add-result : tie.Need-overflow_add-result
add-result c = search rules

-- src/measure.rt:128:43
array-share-prefix-up : tie.Need-slice_bounds-up-end
array-share-prefix-up c =
    omega (arith, c.variables-v.ensures, met-short c.args.clause.now c.requires.0)

-- src/measure.rt:128:43
slice-aggregate-atom-bytes : tie.Need-slice_bounds-atom_bytes-end
slice-aggregate-atom-bytes c =
    ups-long c.variables-v.result (omega (arith, c.variables-v.ensures, met-short c.args.clause.now c.requires.0))

-- src/measure.rt:128:17
atom-bytes-requires-2 : tie.Need-atom_bytes-requires
atom-bytes-requires-2 c κs =
    let h = met-short c.args.clause.now c.requires.0 in
    let v = c.variables-v in
    omega (arith, v.ensures, ups-long v.result (omega (arith, v.ensures)))

-- src/measure.rt:128:5
add-result-2 : tie.Need-overflow_add-result-2
add-result-2 c = search rules

-- src/measure.rt:115:1
returns-2 : tie.Need-returns
returns-2 c =
    let t = c.atom_bytes-bytes in
    let v = c.variables-v in
    let s = c.atom_bytes in
    let words = blanks c.args.names.now in
    let l = c.if-called-eq0.false in
    let is = rule-bytes c.args.clause.now in (
      λ w. is w words t.result s.result v.result l t.ensures.0 v.ensures s.ensures.0,
      omega (arith, t.ensures.1, s.ensures.1),
    )

pub line_bytes_spec : {M : Type 1} → statement M
line_bytes_spec =
    tie.close
    (tie.spec
    sub-head
    part-head-start
    part-head-end
    shared-slice-read-atom-bytes
    atom-bytes-requires
    add-bytes
    shared-slice-read-called
    returns
    variables-requires
    add-result
    array-share-prefix-up
    slice-aggregate-atom-bytes
    atom-bytes-requires-2
    add-result-2
    returns-2)
