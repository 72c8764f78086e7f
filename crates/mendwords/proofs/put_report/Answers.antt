use Rattle.message.specs.Words.{ascii}
use Rattle.octets.proofs.PutLaws.{put-put}
use Rattle.mendwords.specs.Mended.{report_lines}
use Rattle.mendwords.proofs.put_report.Goals as goal

pub returns : goal.returns
unfolding ascii report_lines
returns c = put-put c.put_kept-a.ensures (put-put c.put_plan-b.ensures c.put_bad.ensures)
