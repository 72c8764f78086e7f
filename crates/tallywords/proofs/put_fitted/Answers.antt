use Rattle.octets.proofs.PutLaws.{put-put}
use Rattle.tallywords.specs.Tallies.{fitted_line}
use borrow.Author.Rules.{rules}
use Rattle.tallywords.proofs.put_fitted.Goals as goal

pub returns : goal.returns
unfolding fitted_line
returns c =
    put-put c.put_number-a.ensures (put-put c.put_rule-b.ensures (put-put c.put_mark-c.ensures c.put_byte.ensures))
