use Rattle.cardmend.proofs.SavedLaws.{saved-few}
use Rattle.cardmend.proofs.save.Goals as goal

pub put_report-requires : goal.put_report-requires
put_report-requires c = saved-few (rw c.in_ok-r.was at c.salvage.ensures)
