-- What the walk over a plan's states asks and answers.
use Rattle.std.specs.Prelude.{ℕ, suc, ◌+◌, ◌<◌, ◌≡◌, List, [], length, replicate}
use Rattle.table.specs.All.{All}
use Rattle.plan.specs.Plans.{Plan, leaf, node}
use Rattle.answer.specs.Skeleton.{hole}
use Rattle.octets.specs.Octets.{Put}
use Rattle.clauses.specs.Clauses.{Clause}
use Rattle.clauses.specs.Translate.{each}
use Rattle.clauses.specs.Program.{own}
use Rattle.clauses.specs.code.Walk.{splits_in, visited_in}
use Rattle.unfolding.specs.Flat.{flat}
use Rattle.unfolding.specs.code.Walk.{Stands, Fills}
use Rattle.unfolding.specs.declared.walk.Stand.{Stand}

-- a state stands in the plan with the rows that it is for: each is terms for its open places, without a hole, of 32 cells at most
pub record Peopled (plan : List ℕ) (at places : ℕ) : Type 0 where
  pub stands : Stands plan at places
  pub some : 0 < length stands.rows
  pub fills : All (Fills stands.k (replicate stands.k hole)) stands.rows

-- the clauses of a state's own predicate, number j, n being the number of the next one that is called
unfoldable pub own_of : {k : ℕ} {rows : List (List ℕ)} → Plan k rows → (j n : ℕ) → List Clause
own_of leaf j n = []
own_of (node {k} i h bs) j n = own j (suc k) n (each bs i)

-- the clauses of all states below it with several branches, the first of them being number n, and how many these states are
unfoldable pub below_of : {k : ℕ} {rows : List (List ℕ)} → Plan k rows → (n : ℕ) → List Clause
below_of leaf n = []
below_of (node i h bs) n = visited_in bs n

unfoldable pub splits_below : {k : ℕ} {rows : List (List ℕ)} → Plan k rows → ℕ
splits_below leaf = 0
splits_below (node i h bs) = splits_in bs

-- so many cells of the plan are gone through, so many predicates are numbered, and these clauses are put
pub record Visits (old new : List ℕ) (from : Stand) (cells predicates : ℕ) (clauses : List Clause) (r : Stand) : Type 0 where
  pub put : Put old new from.to (flat clauses) r.to
  pub ends : r.at ≡ from.at + cells
  pub counts : r.number ≡ from.number + predicates
