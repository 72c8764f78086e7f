use Rattle.texttable.proofs.MakeLaws.{at_most}
use Rattle.limits.specs.Limits.{most_names}
use Rattle.texttable.proofs.cells.write_cells.Goals as goal

pub write_few-requires : goal.write_few-requires
write_few-requires c = at_most 512 c.if-most-le512.true c.requires.0

pub returns-then-most-le512 : goal.returns-then-most-le512
returns-then-most-le512 c = λ W. c.write_few.ensures (at_most 512 c.if-most-le512.true W)

pub write_many-requires : goal.write_many-requires
write_many-requires c = let P = c.requires in at_most most_names P.1 P.0

pub returns : goal.returns
returns c = λ W. c.write_many.ensures
    (at_most most_names c.requires.1 W)
