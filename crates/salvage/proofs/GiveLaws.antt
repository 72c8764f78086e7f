-- What was had, put into the rooms.
use Prim.Native.Nat.{ℕ, ◌-◌, ◌≤◌, ◌<◌}
use mathlib.Core.Path.{◌≡◌, refl, sym, ◌∙◌, ap, subst}
use mathlib.Core.Logic.{◌⊎◌, inl, inr}
use mathlib.Core.Bool.{true, false}
use mathlib.Core.List.{List, [], ◌++◌}
use native.Mathlib.Omega.{arith}
use lib.Dec.{ltb}
use lib.ListN.{length, take, drop, length-drop}
use lib.Seq.{length-take-le, take_all}
use borrow.Author.Tests.{ltb-true, ltb-false}
use Rattle.std.specs.Prelude.{Result, Ok, Err}
use Rattle.refusal.specs.Refusal.{told}
use Rattle.refusal.specs.declared.Refusal.{Refusal}
use Rattle.refusal.specs.declared.Reason.TheVariants as reason
use Rattle.refusal.specs.declared.Input.TheVariants as input
use Rattle.term.proofs.Tests.{bool_cases}
use Rattle.octets.specs.Octets.{Put, fitting}
use Rattle.octets.proofs.PutLaws.{put_front}
use Rattle.filing.specs.Files.{table_part}
use Rattle.salvaging.specs.Salvage.{bad_in, front, width, count, kept_cells, Outcome, saved, lost, room_short, facts}
use Rattle.salvaging.specs.Salvage.{Salvaged, head-lost, none_kept, table-short, plan-short, bad-short, all-had}
use Rattle.salvaging.specs.Answers.{report_told}
use Rattle.salvaging.specs.declared.Report.{Report}
use Rattle.salvaging.proofs.KeptLaws.{kept-are}
use Rattle.mending.specs.Mending.{bad_on, NumbersListed}
use Rattle.mending.proofs.ListLaws.{bad-from-front}
use Rattle.salvage.specs.declared.Top.{Top}
use Rattle.salvage.specs.declared.Laid.{Laid}
use Rattle.salvage.specs.code.Saving.{TopIs, RowsHad, no-head, no_row, had, PlanLaid, Reported, short_of}

-- a refusal before there is anything to put
pub rows-lost : {file cells table plan bad : List ℕ} {r : Result Top Refusal} {f : Refusal} → RowsHad file cells r → r ≡ Err f
    → Salvaged file table plan bad table plan bad (lost (told f))
rows-lost {f = f} (no-head h) e =
    let is : f ≡ record { reason = reason.Head; input = input.File; place = 0 } = cc in
    head-lost h (ap (λ (g : Refusal). lost (told g)) is) refl refl refl
rows-lost {f = f} (no_row h k) e =
    let is : f ≡ record { reason = reason.None; input = input.File; place = 0 } = cc in
    none_kept h k (ap (λ (g : Refusal). lost (told g)) is) refl refl refl
rows-lost (had top t l s) e = absurd (let z : ◌≡◌ {A = ℕ} 0 1 = cc in omega arith)

-- and the table that was had
pub record TableHad (file cells : List ℕ) (top : Top) : Type 0 where
  pub is : TopIs file top
  pub two : 2 ≤ top.end
  pub within : top.end ≤ length cells
  pub table : take (top.end - 2) (drop 2 cells) ≡ kept_cells file

pub rows-said : {file cells : List ℕ} {r : Result Top Refusal} {top : Top} → RowsHad file cells r → r ≡ Ok top → TableHad file cells top
rows-said (no-head h) e = absurd (let z : ◌≡◌ {A = ℕ} 0 1 = cc in omega arith)
rows-said (no_row h k) e = absurd (let z : ◌≡◌ {A = ℕ} 0 1 = cc in omega arith)
rows-said {file} {cells} {top = found} (had top t l s) e =
    let q : top ≡ found = cc in
    subst (TableHad file cells) q (record { is = t; two = omega (arith, t.end); within = l; table = s })

-- no more rows are kept than there are
pub rows_few : {file : List ℕ} {top : Top} → TopIs file top → top.rows ≤ top.count
rows_few {file} t = omega (arith, t.rows, t.count, (kept-are (width file) (count file) [] (drop 2 (table_part (front file)))).few)

-- the bad blocks counted and listed
pub bad-count : {file room room' : List ℕ} {top : Top} {n : ℕ} → TopIs file top → NumbersListed (bad_on file top.good) room room' n
    → NumbersListed (bad_in file) room room' n
bad-count {file} {room} {room'} {n = n} t l =
    subst (λ (b : List ℕ). NumbersListed b room room' n) (ap (bad_on file) t.good ∙ bad-from-front file) l

-- numbers listed in a room that is enough
list-front : {numbers room room' : List ℕ} {n : ℕ} → NumbersListed numbers room room' n → length numbers ≤ length room
    → room' ≡ numbers ++ drop (length numbers) room
list-front {numbers} {room} {room'} l h =
    let f : fitting room 0 numbers ≡ numbers = take_all (length room - 0) numbers (omega arith) in
    let p : Put room room' 0 numbers (length numbers) = record { wrote = l.put; after = omega (arith, ap length f) } in
    (put_front p h).1

-- the first room that is too small, or that each is enough
data Rooms (report : Report) (t p b need : ℕ) : Type 0 where
  no_table : t < report.table → need ≡ report.table → Rooms report t p b need
  no-plan : report.table ≤ t → p < report.plan → need ≡ report.plan → Rooms report t p b need
  no-list : report.table ≤ t → report.plan ≤ p → b < report.bad → need ≡ report.bad → Rooms report t p b need
  each : report.table ≤ t → report.plan ≤ p → report.bad ≤ b → need ≡ 0 → Rooms report t p b need

rooms : (report : Report) (t p b : ℕ) {need : ℕ} → need ≡ short_of report t p b → Rooms report t p b need
rooms report t p b {need} e = go (bool_cases (ltb t report.table)) (bool_cases (ltb p report.plan)) (bool_cases (ltb b report.bad))
  where
    go : (ltb t report.table ≡ true) ⊎ (ltb t report.table ≡ false) → (ltb p report.plan ≡ true) ⊎ (ltb p report.plan ≡ false)
        → (ltb b report.bad ≡ true) ⊎ (ltb b report.bad ≡ false) → Rooms report t p b need
    go (inl x) y z = no_table (ltb-true t report.table x) (rw x at e)
    go (inr x) (inl y) z = no-plan (ltb-false t report.table x) (ltb-true p report.plan y) (rw (x, y) at e)
    go (inr x) (inr y) (inl z) =
        no-list (ltb-false t report.table x) (ltb-false p report.plan y) (ltb-true b report.bad z) (rw (x, y, z) at e)
    go (inr x) (inr y) (inr z) =
        each (ltb-false t report.table x) (ltb-false p report.plan y) (ltb-false b report.bad z) (rw (x, y, z) at e)

-- the plan's cells, as the code cuts them out
abbrev pub steps : (cells : List ℕ) (laid : Laid) → List ℕ
steps cells laid = take (laid.end - laid.start) (drop laid.start cells)

module _ {file cells : List ℕ} {top : Top} {laid : Laid} {report : Report} (t : TopIs file top) (p : PlanLaid file cells laid)
    (r : Reported file laid report) where
  size : length (steps cells laid) ≡ report.plan
  size =
      length-take-le (laid.end - laid.start) (drop laid.start cells) (omega (arith, length-drop laid.start cells, p.order, p.within))
      ∙ sym r.plan

  facts-told : report_told report ≡ facts file laid.keeps (steps cells laid)
  facts-told = rw (r.rows, r.dropped, r.keeps, r.table, size, r.bad)

  module _ {table plan bad : List ℕ} {need : ℕ} (short : need ≡ short_of report (length table) (length plan) (length bad)) where
    pub too_small : 0 < need → {x : Outcome} → x ≡ room_short need → Salvaged file table plan bad table plan bad x
    too_small h {x} q = go (rooms report (length table) (length plan) (length bad) short)
      where
        go : Rooms report (length table) (length plan) (length bad) need → Salvaged file table plan bad table plan bad x
        go (no_table a e) = table-short t.head t.some (omega (arith, r.table)) (q ∙ ap room_short (e ∙ r.table)) refl refl refl
        go (no-plan a b e) =
            plan-short t.head t.some (omega (arith, r.table)) laid.keeps (steps cells laid) p.is (omega (arith, size))
            (q ∙ ap room_short (e ∙ sym size)) refl refl refl
        go (no-list a b c e) =
            bad-short t.head t.some (omega (arith, r.table)) laid.keeps (steps cells laid) p.is (omega (arith, size))
            (omega (arith, r.bad)) (q ∙ ap room_short (e ∙ r.bad)) refl refl refl
        go (each a b c e) = absurd (omega arith)

    pub all-put : need ≤ 0 → {cells' : List ℕ} → cells' ≡ kept_cells file → {table' plan' bad' : List ℕ} {i j n : ℕ} → Put table table' 0 cells' i
        → Put plan plan' 0 (steps cells laid) j → NumbersListed (bad_on file top.good) bad bad' n → {x : Outcome} → x ≡ saved (report_told report)
        → Salvaged file table plan bad table' plan' bad' x
    all-put h is {table'} {plan'} {bad'} {i} {j} {n} a b c {x} q = go (rooms report (length table) (length plan) (length bad) short)
      where
        a' : Put table table' 0 (kept_cells file) i
        a' = rw is at a

        go : Rooms report (length table) (length plan) (length bad) need → Salvaged file table plan bad table' plan' bad' x
        go (no_table u e) = absurd (omega arith)
        go (no-plan u v e) = absurd (omega arith)
        go (no-list u v w e) = absurd (omega arith)
        go (each u v w e) =
            let ut : length (kept_cells file) ≤ length table = omega (arith, r.table) in
            let vp : length (steps cells laid) ≤ length plan = omega (arith, size) in
            let wb : length (bad_in file) ≤ length bad = omega (arith, r.bad) in
            all-had t.head t.some ut laid.keeps (steps cells laid) p.is vp wb (q ∙ ap saved facts-told)
            (put_front a' ut).1 (put_front b vp).1 (list-front (bad-count t c) wb)
