-- What the code has of a file while it saves it.
use Rattle.std.specs.Prelude.{ℕ, ◌+◌, ◌-◌, ◌%◌, ◌^◌, ◌≤◌, ◌<◌, ◌≡◌, Bool, true, false, cond, List, [], ltb, length, take, drop, Result, Ok, Err}
use Rattle.refusal.specs.declared.Reason.{Reason}
use Rattle.refusal.specs.declared.Reason.TheVariants as reason
use Rattle.refusal.specs.declared.Input.TheVariants as input
use Rattle.refusal.specs.declared.Refusal.{Refusal}
use Rattle.blocks.specs.Blocks.{good, good_cells}
use Rattle.filing.specs.Files.{plan_size}
use Rattle.filing.specs.code.Front.{Front}
use Rattle.salvaging.specs.Salvage.{bad_in, front, count, no_head, kept, kept_cells, plan_start, plan_cells, plan_kept, PlanHad}
use Rattle.salvaging.specs.declared.Report.{Report}
use Rattle.salvage.specs.declared.Top.{Top}
use Rattle.salvage.specs.declared.Laid.{Laid}

-- a file with a head: so many sound blocks at its front, and their first cells
pub record Fronted (file cells : List ℕ) (blocks : ℕ) : Type 0 where
  pub fits : Front 2052 cells (good_cells file 0)
  pub many : blocks ≡ good file 0
  pub head : no_head file ≡ false

-- a file of which rows are kept, and its numbers
pub record TopIs (file : List ℕ) (top : Top) : Type 0 where
  pub head : no_head file ≡ false
  pub some : 1 ≤ length (kept file)
  pub good : top.good ≡ good file 0
  pub count : top.count ≡ count file
  pub rows : top.rows ≡ length (kept file)
  pub end : top.end ≡ 2 + length (kept_cells file)
  pub start : top.start ≡ plan_start file
  pub plans : top.plans ≡ plan_size (front file)
  pub narrow : top.plans < 2 ^ 32

-- what comes of any bytes; where rows are kept, the table that they are begins at the third cell
abbrev pub nothing_had : Reason → Result Top Refusal
nothing_had reason = Err (record { reason = reason; input = input.File; place = 0 })

pub data RowsHad (file cells : List ℕ) : Result Top Refusal → Type 0 where
  no-head : no_head file ≡ true → RowsHad file cells (nothing_had reason.Head)
  no_row : no_head file ≡ false → kept file ≡ [] → RowsHad file cells (nothing_had reason.None)
  had : (top : Top) → TopIs file top → top.end ≤ length cells → take (top.end - 2) (drop 2 cells) ≡ kept_cells file
      → RowsHad file cells (Ok top)

-- whether the file's own plan is kept, and where it then is
pub record OwnPlan (file : List ℕ) (top : Top) (cells : List ℕ) (keeps : Bool) : Type 0 where
  pub is : plan_kept file ≡ keeps
  pub within : keeps ≡ true → top.start % 125 + top.plans ≤ length cells
  pub here : keeps ≡ true → take (top.start % 125 + top.plans - top.start % 125) (drop (top.start % 125) cells) ≡ plan_cells file

-- a plan for the kept rows, and where it is
pub record PlanLaid (file cells : List ℕ) (laid : Laid) : Type 0 where
  pub order : laid.start ≤ laid.end
  pub within : laid.end ≤ length cells
  pub is : PlanHad file laid.keeps (take (laid.end - laid.start) (drop laid.start cells))

-- the report's numbers
pub record Reported (file : List ℕ) (laid : Laid) (report : Report) : Type 0 where
  pub rows : report.kept ≡ length (kept file)
  pub dropped : report.dropped ≡ count file - length (kept file)
  pub keeps : report.plan_kept ≡ laid.keeps
  pub table : report.table ≡ length (kept_cells file)
  pub plan : report.plan ≡ laid.end - laid.start
  pub bad : report.bad ≡ length (bad_in file)

-- what the first room that is too small would need, of so much room for the table, the plan and the bad blocks; 0 where each is enough
abbrev pub short_of : (report : Report) (table plan bad : ℕ) → ℕ
short_of report table plan bad =
    cond (ltb table report.table) report.table (cond (ltb plan report.plan) report.plan (cond (ltb bad report.bad) report.bad 0))
