use Rattle.std.proofs.Common.{◌≡◌, drop}
use Rattle.tally.specs.code.Hits.{added_to}
use Rattle.tally.proofs.add_hits.Given as goal

abbrev pub invariant-loop-row : goal.invariant-loop-row
invariant-loop-row l = added_to l.fits (drop l.row-index l.hits) ≡ added_to l.initial.fits l.hits
