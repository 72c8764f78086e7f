use Rattle.std.proofs.Common.{◌-◌}
use Rattle.paircosts.specs.code.Reading.{Columns}
use Rattle.paircosts.proofs.PartLaws.{PartsAt}
use Rattle.paircosts.proofs.arrays.Sheet.part_named.Given as goal

abbrev pub invariant-loop-start : goal.invariant-loop-start
invariant-loop-start l = (g : Columns l.self.marks.now l.self.notes.now l.initial.start l.stop l.named) → PartsAt g l.part l.rest l.start

abbrev pub decreases-loop-start : goal.decreases-loop-start
decreases-loop-start l = l.stop - l.start
