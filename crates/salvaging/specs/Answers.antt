-- What saving a file answers, as the numbers of the report or a refusal.
use Rattle.std.specs.Prelude.{Result, Ok, Err}
use Rattle.refusal.specs.Refusal.{told}
use Rattle.refusal.specs.declared.Refusal.{Refusal}
use Rattle.salvaging.specs.declared.Report.{Report}
use Rattle.salvaging.specs.Salvage.{Findings, Outcome, saved, lost}

abbrev pub report_told : Report → Findings
report_told r = record {
  rows = r.kept;
  dropped = r.dropped;
  keeps = r.plan_kept;
  table = r.table;
  plan = r.plan;
  bad = r.bad;
}

abbrev pub salvage_told : Result Report Refusal → Outcome
salvage_told (Ok r) = saved (report_told r)
salvage_told (Err f) = lost (told f)
