use mathlib.Core.List.{[]}
use Rattle.octets.proofs.PutLaws.{put-put}
use Rattle.handing.proofs.TextLaws.{atom-is}
use borrow.Author.Rules.{rules}
use Rattle.handing.proofs.text.put_atom.Statement.{statement}
use Rattle.handing.proofs.text.put_atom.Tie as tie

-- src/text.rt:24:31
-- src/text.rt:24:9
put-word-requires : tie.Need-put_word-a-requires
put-word-requires c κs = search rules

-- src/text.rt:25:9
put-decimal-requires : tie.Need-put_decimal-b-requires
put-decimal-requires c κs = search rules

-- src/text.rt:26:30
-- src/text.rt:26:9
put-word-requires-2 : tie.Need-put_word-c-requires
put-word-requires-2 c κs = search rules

-- src/text.rt:27:44
slice-aggregate-put-terms : tie.Need-slice_bounds-put_terms-end
slice-aggregate-put-terms c = search rules

-- src/text.rt:27:56
slice-aggregate-put-terms-2 : tie.Need-slice_bounds-put_terms-end-2
slice-aggregate-put-terms-2 c = search rules

-- src/text.rt:27:5
put-terms-requires : tie.Need-put_terms-requires
put-terms-requires c κs = search rules

-- src/text.rt:11:1
same_length : tie.Need-shape_of-out
same_length c = search rules

-- src/text.rt:11:1
returns : tie.Need-returns
returns c =
    let a = c.args in
    let n = a.text.now in
    rw (atom-is n a.names.now [] a.cells.now a.predicate a.width c.requires)
    (put-put c.put_word-a.ensures (put-put c.put_decimal-b.ensures (put-put c.put_word-c.ensures c.put_terms.ensures)))

pub put_atom_spec : {M : Type 1} → statement M
put_atom_spec =
    tie.close
    (tie.spec
    put-word-requires
    put-decimal-requires
    put-word-requires-2
    slice-aggregate-put-terms
    slice-aggregate-put-terms-2
    put-terms-requires
    same_length
    returns)
