-- What is written from any kept numbers at all (02, W-207, "with any other record an entry only ends, in bounds"). The place that is taken
-- at a state is a function of them, so that there is a plan that follows them whatever they are: `followed` of proofs/FollowLaws. Where
-- they are a table's entries it is the builder's: `follows-built`.
use Rattle.std.specs.Prelude.{ℕ, zero, suc, ◌+◌, ◌-◌, ◌≡◌, Bool, cond, ◌&&◌, List, eqb, ltb, length}
use Rattle.cell.specs.Cell.{arity}
use Rattle.plan.specs.Runs.{Run, runs}
use Rattle.plan.specs.Named.{spread, may}
use Rattle.plan.specs.Plans.{Plan, leaf, node, Branches, end, next}
use Rattle.least.specs.Entries.{place_in}

-- the leftmost place that may be chosen and that all rows agree on, of n places from i on; the place after them where there is none
unfoldable pub agreed_from : List Bool → ℕ → ℕ → List (List ℕ) → ℕ
agreed_from fs zero i rows = i
agreed_from fs (suc n) i rows = cond (may fs i && eqb (length (runs i rows)) 1) i (agreed_from fs n (suc i) rows)

-- a kept place, and 0 where that is none of the open places
abbrev pub within : ℕ → ℕ → ℕ
within place opens = cond (ltb place opens) place 0

-- the place that is taken at a state whose first row is `first`
unfoldable pub taken : (kept : List ℕ) → List Bool → (first opens : ℕ) → List (List ℕ) → ℕ
taken kept fs first opens rows =
    cond (ltb (agreed_from fs opens 0 rows) opens) (agreed_from fs opens 0 rows) (within (place_in kept first (first + length rows - 1)) opens)

-- the plan takes it at each of its states; and so does each of some branches at a place
unfoldable mutual
  pub Follows : (kept : List ℕ) → List Bool → (first : ℕ) {opens : ℕ} {rows : List (List ℕ)} → Plan opens rows → Type 0
  Follows kept fs first leaf = Unit {0}
  Follows kept fs first (node {k} {rows} i h bs) = (i ≡ taken kept fs first (suc k) rows) × FollowsIn kept fs i first bs

  pub FollowsIn : (kept : List ℕ) → List Bool → ℕ → (first : ℕ) {others : ℕ} {gs : List Run} → Branches others gs → Type 0
  FollowsIn kept fs i first end = Unit {0}
  FollowsIn kept fs i first (next {g = g} p bs) =
      Follows kept (spread i (arity g.cell) fs) first p × FollowsIn kept fs i (first + length g.rows) bs
