use Rattle.term.specs.Bind.{id_s}
use Rattle.term.proofs.Inst.{bind-same, bind-other}
use borrow.Author.Rules.{rules}
use Rattle.rewrite.proofs.put_swapped.Statement.{statement}
use Rattle.rewrite.proofs.put_swapped.Tie as tie

put-cells-requires : tie.Need-put_cells-requires
put-cells-requires c κs = search rules

same_length : tie.Need-shape_of-out-then-c-v
same_length c = search rules

returns : tie.Need-returns-then-c-v
returns c =
    let s = c.args in
    rw (c.if-c-v.true, bind-same s.v s.term.now id_s) c.put_cells.ensures

put-cell-requires : tie.Need-put_cell-requires
put-cell-requires c κs = search rules

same-length-2 : tie.Need-shape_of-out
same-length-2 c = search rules

returns-2 : tie.Need-returns
unfolding id_s
returns-2 c =
    let s = c.args in
    rw (bind-other s.v s.term.now id_s s.c c.if-c-v.false) c.put_cell.ensures

pub put_swapped_spec : {M : Type 1} → statement M
put_swapped_spec =
    tie.close
    (tie.spec put-cells-requires same_length returns put-cell-requires same-length-2 returns-2)
