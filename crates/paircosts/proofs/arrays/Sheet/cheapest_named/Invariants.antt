use Rattle.std.proofs.Common.{◌-◌}
use Rattle.paircosts.specs.code.Reading.{Inside}
use Rattle.paircosts.specs.code.Filling.{pair_row}
use Rattle.paircosts.proofs.ReadLaws.{NamedAt}
use Rattle.paircosts.proofs.arrays.Sheet.cheapest_named.Given as goal

abbrev pub invariant-loop-start : goal.invariant-loop-start
invariant-loop-start l =
    (g : Inside l.self.marks.now l.self.kept.now l.self.notes.now (pair_row l.number l.initial.start l.stop) l.base l.named)
    → NamedAt g l.found l.rest l.start

abbrev pub decreases-loop-start : goal.decreases-loop-start
decreases-loop-start l = l.stop - l.start
