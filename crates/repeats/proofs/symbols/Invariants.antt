-- One node after another.
use Rattle.std.proofs.Common.{◌≡◌, length}
use Rattle.repeats.proofs.RepeatLaws.{SymbolsTo}
use Rattle.repeats.proofs.symbols.Given as goal

abbrev pub invariant-loop-r : goal.invariant-loop-r
invariant-loop-r l = length l.bound ≡ 64 → length l.until ≡ 64 → SymbolsTo l.at l.bound l.until l.own l.r
