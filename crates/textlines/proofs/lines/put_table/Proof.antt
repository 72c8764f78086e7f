use Rattle.octets.proofs.PutLaws.{put-put}
use borrow.Author.Rules.{rules}
use Rattle.textlines.proofs.lines.put_table.Statement.{statement}
use Rattle.textlines.proofs.lines.put_table.Tie as tie

put-heading-requires : tie.Need-put_heading-p-requires
put-heading-requires c κs = search rules

put-rows-requires : tie.Need-put_rows-q-requires
put-rows-requires c κs = search rules

put-names-requires : tie.Need-put_names-requires
put-names-requires c κs = search rules

same_length : tie.Need-shape_of-out
same_length c = search rules

returns : tie.Need-returns
returns c =
    let c3 = c.before.before in
    let c2 = c3.before.before.before.before in
    let c1 = c2.before.before.before.before in
    let names = c3.put_names.ensures in
    record { puts = put-put c1.put_heading-p.ensures (put-put c2.put_rows-q.ensures names.puts); few = names.few }

pub put_table_spec : {M : Type 1} → statement M
put_table_spec =
    tie.close
    (tie.spec put-heading-requires put-rows-requires put-names-requires same_length returns)
