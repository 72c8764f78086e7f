-- What the entry takes (02, W-210, "Refusals, after table and plan"): a table, and a plan of it.
use Prim.Native.Nat.{ℕ}
use mathlib.Core.Path.{◌≡◌, sym, ◌∙◌, ap}
use mathlib.Core.List.{List}
use Rattle.refusal.specs.Refusal.{Refused}
use Rattle.refusal.specs.Read.{read, refuse}
use Rattle.table.specs.Table.{Table, table_of}
use Rattle.table.proofs.ReadLaws.{read_one, first}
use Rattle.plan.specs.Check.{plan_for}
use Rattle.clauses.specs.Handed.{hand_of}

pub record Takes (t p : List ℕ) (T : Table) : Type 0 where
  pub table : table_of t ≡ read T
  pub branches : ℕ
  pub plan : plan_for T p ≡ read branches

pub hand_takes : (t p : List ℕ) {T : Table} → hand_of t p ≡ read T → Takes t p T
unfolding hand_of
hand_takes t p {T} a =
    let y = first (table_of t) _ a in
    let z = first (plan_for y.0 p) _ y.2 in
    let q : y.0 ≡ T = read_one z.2 in
    record { table = y.1 ∙ ap read q; branches = z.0; plan = ap (λ (X : Table). plan_for X p) (sym q) ∙ z.1 }

pub takes-hand : {t p : List ℕ} {T : Table} → Takes t p T → hand_of t p ≡ read T
unfolding hand_of
takes-hand x = rw (x.table, x.plan)

pub hand-table : (t p : List ℕ) {f : Refused} → table_of t ≡ refuse f → hand_of t p ≡ refuse f
unfolding hand_of
hand-table t p e = rw e

pub hand-plan : (t p : List ℕ) {T : Table} {f : Refused} → table_of t ≡ read T → plan_for T p ≡ refuse f → hand_of t p ≡ refuse f
unfolding hand_of
hand-plan t p e k = rw (e, k)
