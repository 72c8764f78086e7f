use Rattle.std.proofs.Common.{◌-◌}
use Rattle.paircosts.specs.code.Reading.{found_of, Range}
use Rattle.paircosts.specs.code.Filling.{pair_row}
use Rattle.paircosts.proofs.ReadLaws.{CheapAt}
use Rattle.paircosts.proofs.arrays.Sheet.cheapest.Given as goal

abbrev pub invariant-loop-q : goal.invariant-loop-q
invariant-loop-q l =
    (g : Range l.self.marks.now l.self.kept.now l.self.notes.now (pair_row l.number l.initial.q l.stop) l.base (found_of l.initial.best l.initial.place))
    → CheapAt g l.best l.place l.q

abbrev pub decreases-loop-q : goal.decreases-loop-q
decreases-loop-q l = l.stop - l.q
