-- What goals add up to, one goal after another (02, W-214, "each row's hit count and the total tried .. as exact sums of the single runs").
use Rattle.std.specs.Prelude.{ℕ, ◌<◌, ◌≡◌, List, length, get_or, replicate}
use Rattle.refusal.specs.Refusal.{Answer, answered, turned}
use Rattle.table.specs.Table.{count}
use Rattle.knowing.specs.Knowing.{reported, tried_of}
use Rattle.sums.specs.Sums.{up_by}
use Rattle.tally.specs.declared.Tally.{Tally}
use Rattle.limits.specs.Limits.{most_rows}

-- one goal answered, or one refused
abbrev pub is_answered : Answer → ℕ
is_answered (answered hits tried) = 1
is_answered (turned f) = 0

abbrev pub is_refused : Answer → ℕ
is_refused (answered hits tried) = 0
is_refused (turned f) = 1

-- nothing is counted yet
pub record Nothing (r : Tally) : Type 0 where
  pub fits : r.fits ≡ replicate most_rows 0
  pub answers : r.answered ≡ 0
  pub refusals : r.refused ≡ 0
  pub tries : r.tried ≡ 0

-- what the counts are after one goal more: each is what it was, and what this goal's run reports
pub record Added (t : Tally) (a : Answer) (room : List ℕ) (r : Tally) : Type 0 where
  pub rows : length r.fits ≡ length t.fits
  pub fits : (row : ℕ) → row < length t.fits → get_or r.fits row 0 ≡ up_by (get_or t.fits row 0) (count row (reported a room))
  pub answers : r.answered ≡ up_by t.answered (is_answered a)
  pub refusals : r.refused ≡ up_by t.refused (is_refused a)
  pub tries : r.tried ≡ up_by t.tried (tried_of a)
