use Rattle.salvaging.specs.Answers.{salvage_told}
use Rattle.dudowiej.proofs.Small.{salvaged-small}
use Rattle.dudowiej.proofs.dudowiej_salvage.Goals as goal

pub returns : goal.returns
returns c =
    let s = c.salvage in
    let n = c.salvage_as_number.ensures in
    record { told = salvage_told s.result; had = s.ensures; reports = n.report_after; code = n.value (salvaged-small s.ensures) }
