use lib.ListN.{length}
use borrow.Author.Tests.{le-leb, lt-leb}
use Rattle.octets.proofs.PutLaws.{put-put, put-nothing}
use borrow.Author.Rules.{rules}
use Rattle.heads.proofs.put_clause.Statement.{statement}
use Rattle.heads.proofs.put_clause.Tie as tie

-- src/lib.rt:126:9
returns : tie.Need-returns-then-head-gt-ROW_CELLS
returns c = rw (lt-leb (length c.args.head.now) 32 c.if-head-gt-ROW_CELLS.true) put-nothing

-- src/lib.rt:128:9
put-cell-requires : tie.Need-put_cell-a-requires
put-cell-requires c κs = search rules

-- src/lib.rt:129:9
put-cell-requires-2 : tie.Need-put_cell-b-requires
put-cell-requires-2 c κs = search rules

-- src/lib.rt:130:9
put-cell-requires-3 : tie.Need-put_cell-c-requires
put-cell-requires-3 c κs = search rules

-- src/lib.rt:131:30
cast-put-cell : tie.Need-overflow_cast-head
cast-put-cell c = search rules

-- src/lib.rt:131:9
put-cell-requires-4 : tie.Need-put_cell-d-requires
put-cell-requires-4 c κs = search rules

-- src/lib.rt:132:5
put-head-requires : tie.Need-put_head-requires
put-head-requires c κs = search rules

-- src/lib.rt:115:1
same_length : tie.Need-shape_of-out
same_length c = search rules

-- src/lib.rt:115:1
returns-2 : tie.Need-returns
returns-2 c =
    let h = c.before.before in
    let n = h.before.before.before.before in
    let w = n.before.before.before.before in
    let j = w.before.before.before.before in
    let k = j.before.before.before.before in
    let t = k.before.before in
    rw (le-leb (length t.args.head.now) 32 t.if-head-gt-ROW_CELLS.false)
    (put-put k.put_cell-a.ensures (put-put j.put_cell-b.ensures (put-put w.put_cell-c.ensures
    (put-put n.put_cell-d.ensures h.put_head.ensures))))

pub put_clause_spec : {M : Type 1} → statement M
put_clause_spec =
    tie.close
    (tie.spec
    returns
    put-cell-requires
    put-cell-requires-2
    put-cell-requires-3
    cast-put-cell
    put-cell-requires-4
    put-head-requires
    same_length
    returns-2)
