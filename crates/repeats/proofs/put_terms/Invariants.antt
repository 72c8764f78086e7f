-- One reference after another.
use Rattle.std.proofs.Common.{◌≡◌, ℕ, ◌+◌, ◌-◌, ◌<◌, ◌≤◌}
use Rattle.std.proofs.lemmas.List.Edits.{sets}
use Rattle.table.specs.All.{All}
use Rattle.walking.specs.code.Link.{steps, goal_nodes}
use Rattle.repeats.proofs.put_terms.Given as goal

abbrev pub invariant-loop : goal.invariant-loop
invariant-loop l =
    l.to + l.a ≤ 64 → All (λ (x : ℕ). x < 64) (steps l.sib l.a l.p)
    → (l.j + (l.a - l.counter) ≤ 64) × All (λ (x : ℕ). x < 64) (steps l.sib (l.a - l.counter) l.q)
    × (sets l.refs l.j (goal_nodes l.rep l.sib (l.a - l.counter) l.q) ≡ sets l.initial.refs l.to (goal_nodes l.rep l.sib l.a l.p))
