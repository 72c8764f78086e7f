-- What a run takes, in 01's order: "table, plan, goal, then ROOM".
use Prim.Native.Nat.{ℕ, ◌≤◌, ◌<◌}
use mathlib.Core.Path.{◌≡◌, refl, sym, ◌∙◌, ap, subst}
use mathlib.Core.List.{List}
use lib.Dec.{ltb}
use borrow.Author.Tests.{lt-ltb, le-ltb, ltb-false}
use lib.ListN.{length}
use Rattle.refusal.specs.Refusal.{Refused, refused}
use Rattle.refusal.specs.declared.Reason.TheVariants as reason
use Rattle.refusal.specs.declared.Input.TheVariants as input
use Rattle.refusal.specs.Read.{Read, read, refuse, when, and_then}
use Rattle.table.specs.Table.{Table, table_of, goal_of}
use Rattle.table.proofs.ReadLaws.{read_one, passed, first}
use Rattle.plan.specs.Check.{plan_of}
use Rattle.answer.specs.Run.{run_of}

run_in : (t g room : List ℕ) → Read ℕ → Read Table
run_in t g room plan =
    and_then (table_of t) (λ (T : Table).
    and_then plan (λ (n : ℕ).
    and_then (goal_of T.width g) (λ (v : ℕ).
    when (ltb (length room) (length T.rows)) (refused reason.Room input.Lent (length T.rows)) (read T))))

run_in_lem : (t p g room : List ℕ) → run_of t p g room ≡ run_in t g room (plan_of t p)
unfolding run_of run_in
run_in_lem t p g room = refl

-- what a run takes: the table, the plan, the goal, the room
pub record Takes (t p g room : List ℕ) (T : Table) : Type 0 where
  pub table : table_of t ≡ read T
  pub branches : ℕ
  pub plan : plan_of t p ≡ read branches
  pub variables : ℕ
  pub goal : goal_of T.width g ≡ read variables
  pub room_for : length T.rows ≤ length room

pub run-takes : {t p g room : List ℕ} {T : Table} → run_of t p g room ≡ read T → Takes t p g room T
unfolding run_in
run-takes {t} {p} {g} {room} {T} e =
    let e₁ = sym (run_in_lem t p g room) ∙ e in
    let a = first (table_of t) _ e₁ in
    let b = first (plan_of t p) _ a.2 in
    let c = first (goal_of a.0.width g) _ b.2 in
    let d = passed (ltb (length room) (length a.0.rows)) _ (read a.0) c.2 in
    let q : a.0 ≡ T = read_one d.1 in
    record {
      table = a.1 ∙ ap read q;
      branches = b.0;
      plan = b.1;
      variables = c.0;
      goal = ap (λ (x : Table). goal_of x.width g) (sym q) ∙ c.1;
      room_for = subst (λ (x : Table). length x.rows ≤ length room) q (ltb-false (length room) (length a.0.rows) d.0);
    }

pub takes_run : {t p g room : List ℕ} {T : Table} → Takes t p g room T → run_of t p g room ≡ read T
unfolding run_in
takes_run {t} {p} {g} {room} {T} k = run_in_lem t p g room ∙ rw (k.plan, k.table, k.goal, le-ltb (length room) (length T.rows) k.room_for)

-- any two accepted plans are taken alike
pub any-plan : (t p p' g room : List ℕ) {b b' : ℕ} → plan_of t p ≡ read b → plan_of t p' ≡ read b' → run_of t p g room ≡ run_of t p' g room
unfolding run_in
any-plan t p p' g room e e' = run_in_lem t p g room ∙ go (plan_of t p) (plan_of t p') e e' ∙ sym (run_in_lem t p' g room)
  where
    go : (x y : Read ℕ) {b b' : ℕ} → x ≡ read b → y ≡ read b' → run_in t g room x ≡ run_in t g room y
    go x y e e' = rw (e, e')

-- by the first refusal
module _ (t p g room : List ℕ) where
  pub run-table : {f : Refused} → table_of t ≡ refuse f → run_of t p g room ≡ refuse f
  unfolding run_in
  run-table e = run_in_lem t p g room ∙ rw e

  pub run-plan : {f : Refused} {T : Table} → table_of t ≡ read T → plan_of t p ≡ refuse f → run_of t p g room ≡ refuse f
  unfolding run_in
  run-plan d e = run_in_lem t p g room ∙ rw (e, d)

  pub run-goal : {f : Refused} {T : Table} {b : ℕ} → table_of t ≡ read T → plan_of t p ≡ read b → goal_of T.width g ≡ refuse f → run_of t p g room ≡ refuse f
  unfolding run_in
  run-goal d e h = run_in_lem t p g room ∙ rw (e, d, h)

  pub run_room : {T : Table} {b v : ℕ} → table_of t ≡ read T → plan_of t p ≡ read b → goal_of T.width g ≡ read v → length room < length T.rows
      → run_of t p g room ≡ refuse (refused reason.Room input.Lent (length T.rows))
  unfolding run_in
  run_room {T} d e h l = run_in_lem t p g room ∙ rw (e, d, h, lt-ltb (length room) (length T.rows) l)
