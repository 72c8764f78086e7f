use Rattle.std.proofs.Common.{◌≡◌, ◌-◌, ◌<◌, ℕ}
use Rattle.table.specs.All.{All}
use Rattle.plannotes.specs.code.Places.{steps, hop_of}
use Rattle.plannotes.proofs.places.hop.Given as goal

abbrev pub invariant-loop : goal.invariant-loop
invariant-loop l = record {
  low : All (λ (x : ℕ). x < 64) (steps l.links (l.i - l.counter) l.slot);
  ends : hop_of l.links (l.i - l.counter) l.slot ≡ hop_of l.links l.i 0;
}
