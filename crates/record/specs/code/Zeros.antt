-- Where an array of what is kept holds 0.
use Rattle.std.specs.Prelude.{ℕ, ◌<◌, ◌≡◌, ◌≢◌, List, length}
use Rattle.least.specs.Entries.{whole_in, cost_in, place_in, SameAt}
use Rattle.limits.specs.Limits.{most_rows}

-- what is kept for a pair is 0
pub record ZeroAt (first last : ℕ) (kept : List ℕ) : Type 0 where
  pub whole : whole_in kept first last ≡ 0
  pub cost : cost_in kept first last ≡ 0
  pub place : place_in kept first last ≡ 0

-- 0 at the pairs that end at a row, and all others as they were
pub record Cleared (last : ℕ) (old new : List ℕ) : Type 0 where
  pub size : length new ≡ length old
  pub column : (first : ℕ) → first < most_rows → ZeroAt first last new
  pub others : (first j : ℕ) → first < most_rows → j < most_rows → j ≢ last → SameAt first j old new
