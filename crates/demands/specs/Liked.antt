-- The plan that a list of goals likes best: "Given a record, a list of goals and a room: of the plans that `build_for` gives for each set of
-- columns, the one with the least total tried over the list; ties go to the plain plan, then to the smallest mask (bit c for column c)." As
-- statements of what the entry is given and what it answers; proofs/Liked proves them of the entry's promise, and src/lib.rt ties them to it.
--
-- The list has two words for each goal (`goals_in`, crate shift, specs/Totals); a mask's columns are `columns_of` (crate liked). A total has 64 bits:
-- `held` is what they hold of it (crate sums).
use Rattle.std.specs.Prelude.{ℕ, ◌^◌, ◌≤◌, ◌<◌, ◌≡◌, ◌↔◌, length, get_or, take, drop}
use mathlib.Core.List.{List, [], ◌∷◌, Memᴰ}
use Rattle.refusal.specs.Refusal.{Refused, refused, Answer, answered, turned}
use Rattle.refusal.specs.declared.Reason.TheVariants as reason
use Rattle.refusal.specs.declared.Input.TheVariants as input
use Rattle.refusal.specs.Read.{refuse}
use Rattle.table.specs.Table.{table_of, IsTable}
use Rattle.least.specs.Measures.{measure_of}
use Rattle.least.specs.declared.By.{By}
use Rattle.least.specs.declared.By.TheVariants.{Work}
use Rattle.record.specs.Record.{table_in}
use Rattle.answer.specs.Jobs.{bit}
use Rattle.shift.specs.Totals.{goals_in, Tries}
use Rattle.knowing.specs.Knowing.{Singles}
use Rattle.knowing.specs.Knowing as knowing
use Rattle.sums.specs.Sums.{held}
use Rattle.liked.specs.Liked.{columns_of}
use Rattle.demands.specs.Kind.{There}
use Rattle.demands.specs.Demands.{LeastBy, LeastFor}
use Rattle.limits.specs.Limits.{most_plan_cells}

-- "the total tried over the list" by a plan: what W-202's records of the goals say that they tried, which is W-214's sum of the single runs.
-- "Refused goals add nothing": a refused run tries 0
pub record Total (cells plan goals list : List ℕ) (rows total : ℕ) : Type 0 where
  pub sum : ℕ
  pub tries : Tries cells plan goals (goals_in list) sum
  pub adds : total ≡ held sum
  pub single-runs : (found : List (List ℕ)) × (tried : List ℕ) × Singles cells plan goals rows (goals_in list) found tried
  pub sums : {found : List (List ℕ)} {tried : List ℕ} → Singles cells plan goals rows (goals_in list) found tried → sum ≡ knowing.sum tried

-- the plan that the list likes best, its columns as a mask, what it tries and what the plain plan tries
pub record LikedBest (by : By) (cells goals list plan : List ℕ) (cost mask total plain : ℕ) : Type 0 where
  pub width : ℕ
  pub rows : List (List ℕ)
  pub is-table : IsTable cells width rows
  -- "bit c for column c"
  pub set : (c : ℕ) → Memᴰ c (columns_of mask) ↔ ((c < width) × (bit c mask ≡ 1))
  pub small : mask < 2 ^ width
  -- it is the plan that `build_for` gives for the mask
  pub given : LeastFor by (columns_of mask) cells plan cost
  pub tries : Total cells plan goals list (length rows) total
  pub plainly : (other : List ℕ) × (c : ℕ) × LeastBy by cells other c × Total cells other goals list (length rows) plain
  -- no plan that is least for some set of columns tries less on this list
  pub none-less : (columns other : List ℕ) (c n : ℕ) → There width columns → LeastFor by columns cells other c
      → Total cells other goals list (length rows) n → total ≤ n
  -- and one that tries as many is not for a smaller mask
  pub first : (smaller c n : ℕ) (other : List ℕ) → smaller < mask → LeastFor by (columns_of smaller) cells other c
      → Total cells other goals list (length rows) n → total < n
  -- it never tries more than the plain plan
  pub never-more : total ≤ plain
  -- "of an empty list it is the plain plan"
  pub empty : goals_in list ≡ [] → mask ≡ 0

-- "Refusals: table (the record's), FIGURE as `build_for`, then ROOM, where the plan found does not fit": what turns the call away, and the refusal
-- that it gets
pub data LikedTurned (by : By) (cells goals list room : List ℕ) (refusal : Refused) : Type 0 where
  no-figure : 15 < (measure_of by).figure → refusal ≡ refused reason.Figure input.Figure 0 → LikedTurned by cells goals list room refusal
  no_table : (measure_of by).figure ≤ 15 → table_of cells ≡ refuse refusal → LikedTurned by cells goals list room refusal
  no_room : (measure_of by).figure ≤ 15 → {plan : List ℕ} {cost mask total plain : ℕ} → LikedBest by cells goals list plan cost mask total plain
      → length room < length plan → refusal ≡ refused reason.Room input.Lent (length plan) → LikedTurned by cells goals list room refusal

pub record LikesMost (by : By) (cells goals list room after liked liked' : List ℕ) (answer : Answer) : Type 0 where
  pub refuses : (f : Refused) → (answer ≡ turned f) ↔ LikedTurned by cells goals list room f
  pub untouched : (f : Refused) → answer ≡ turned f → (after ≡ room) × (liked' ≡ liked)
  -- given a small figure, a table and room for any plan it writes one
  pub builds : (width : ℕ) (rows : List (List ℕ)) → (measure_of by).figure ≤ 15 → IsTable cells width rows → most_plan_cells ≤ length room
      → (n : ℕ) × (cost : ℕ) × (answer ≡ answered n cost)
  -- "It answers the plan's cells and, in a record of its own, the columns as a mask, the total tried, and what the plain plan would have tried"
  pub best : (n cost : ℕ) → answer ≡ answered n cost → (mask : ℕ) × (total : ℕ) × (plain : ℕ) × (liked' ≡ mask ∷ total ∷ plain ∷ [])
      × LikedBest by cells goals list (take n after) cost mask total plain
  pub rest : (n cost : ℕ) → answer ≡ answered n cost → drop n after ≡ drop n room

-- by the record's figure and of its table, of any record at all
abbrev pub BuildsLiked : (rec goals list room after liked liked' : List ℕ) → Answer → Type 0
BuildsLiked rec goals list room after liked liked' answer =
    LikesMost (Work (get_or rec 1 0)) (table_in rec) goals list room after liked liked' answer
