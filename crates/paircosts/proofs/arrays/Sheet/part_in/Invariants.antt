use Rattle.std.proofs.Common.{◌-◌}
use Rattle.paircosts.specs.code.Reading.{part_of, Column}
use Rattle.paircosts.proofs.PartLaws.{PartAt}
use Rattle.paircosts.proofs.arrays.Sheet.part_in.Given as goal

abbrev pub invariant-loop-q : goal.invariant-loop-q
invariant-loop-q l =
    (g : Column l.self.marks.now l.self.notes.now l.start l.end (part_of l.initial.inside l.initial.only)) → PartAt g l.inside l.only l.q

abbrev pub decreases-loop-q : goal.decreases-loop-q
decreases-loop-q l = l.end - l.q
