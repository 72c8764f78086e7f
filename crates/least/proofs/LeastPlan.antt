-- What is asked of the builder's plan (demand 3; 01, "The least plan"): it is there, it is the only one, and none of the kind
-- costs less (02, W-213).
use mathlib.Core.Path.{◌≡◌}
use mathlib.Core.Bool.{Bool}
use mathlib.Core.List.{List, []}
use Prim.Native.Nat.{ℕ, ◌≤◌, ◌<◌}
use lib.ListN.{length}
use Rattle.table.specs.All.{All}
use Rattle.table.proofs.AllLaws.{all-each}
use Rattle.term.specs.Terms.{Terms}
use Rattle.plan.specs.Plans.{Plan, Measure}
use Rattle.plan.specs.Named.{NamedFirst}
use Rattle.plan.specs.code.Fits.{Fits}
use Rattle.least.specs.Least.{Built}
use Rattle.least.specs.Measures.{cost_from}
use Rattle.least.specs.code.Low.{Light}
use Rattle.least.proofs.Building.{built-least, built-one}
use Rattle.least.proofs.Builder.{plan-built}

-- by every measure of ours, for each state whose rows are terms of at most n cells, and any columns
pub record TheLeast (m : Measure) (fs : List Bool) (k : ℕ) (rows : List (List ℕ)) : Type 0 where
  pub plan : Plan k rows
  pub built : Built m fs plan
  pub kind : NamedFirst fs plan
  pub only : (q : Plan k rows) → Built m fs q → plan ≡ q
  pub least : (q : Plan k rows) → NamedFirst fs q → cost_from m [] plan ≤ cost_from m [] q

pub the-least : (m : Measure) → Light m → (n : ℕ) (fs : List Bool) (k : ℕ) (rows : List (List ℕ)) → length fs ≤ k → All (Fits n k) rows → 0 < length rows
    → TheLeast m fs k rows
the-least m light n fs k rows few a h =
    let b = plan-built m light n fs k rows few a h in
    let l = built-least m light fs b.plan (all-each (Fits n k) (Terms k) (λ r x. x.0) rows a) b.built in
    record {
      plan = b.plan;
      built = b.built;
      kind = l.1;
      only = λ q c. built-one m fs b.plan q b.built c;
      least = l.0.none-less;
    }
