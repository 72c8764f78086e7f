-- That the limits that follow from others do: the sums of src/lib.rt, of the numbers that contracts go by.
use Prim.Native.Nat.{◌+◌, ◌*◌}
use mathlib.Core.Path.{◌≡◌, refl}
use Rattle.limits.specs.Limits.{most_rows, most_row_cells, most_table_cells, most_branches, most_plan_cells, most_text_bytes, most_goal_bytes, most_names}
use Rattle.limits.specs.Limits.{most_reply_cells, most_rows_cells, most_meeting_cells, kept_cells, record_cells}

pub table-follows : most_table_cells ≡ 2 + most_rows_cells
table-follows = refl

pub rows-follow : (most_rows_cells ≡ most_rows * most_row_cells) × (most_branches ≡ most_rows_cells) × (most_names ≡ most_rows_cells)
rows-follow = (refl, refl, refl)

pub plan-follows : most_plan_cells + most_rows ≡ 3 * most_branches + 2
plan-follows = refl

pub texts-follow : (most_text_bytes ≡ most_goal_bytes + 2) × (most_meeting_cells ≡ 2 * most_reply_cells)
texts-follow = (refl, refl)

pub record-follows : (kept_cells ≡ 3 * most_rows * most_rows) × (record_cells ≡ 2 + most_table_cells + kept_cells)
record-follows = (refl, refl)
