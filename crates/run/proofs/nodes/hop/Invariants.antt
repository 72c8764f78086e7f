use Rattle.std.proofs.Common.{◌≡◌, ℕ, ◌-◌, ◌<◌}
use Rattle.table.specs.All.{All}
use Rattle.walking.specs.code.Link.{steps}
use Rattle.walking.specs.code.Goal.{hop_of}
use Rattle.run.proofs.nodes.hop.Given as goal

abbrev pub invariant-loop : goal.invariant-loop
invariant-loop l =
    All (λ (x : ℕ). x < 64) (steps l.sib (l.a - l.counter) l.q) × (hop_of l.sib (l.a - l.counter) l.q ≡ hop_of l.sib l.a l.from)
