-- W-213, "Columns that are always filled in", of what the entries promise. The statements are in specs/Columns; those of building are specs/Demands',
-- and proofs/Cited has the steps.
use Prim.Native.Nat.{ℕ, ◌≤◌, ◌<◌}
use mathlib.Core.Path.{◌≡◌, refl, sym, ◌∙◌, ap, subst}
use mathlib.Core.Logic.{◌↔◌}
use mathlib.Core.Bool.{Bool, true, false, true≢false}
use mathlib.Core.List.{List}
use lib.ListN.{get_or}
use Rattle.refusal.specs.Refusal.{Refused, refused, Answer, answered, turned}
use Rattle.refusal.specs.declared.Reason.TheVariants as reason
use Rattle.refusal.specs.declared.Input.TheVariants as input
use Rattle.refusal.specs.Read.{Read, read, refuse, when, and_then}
use Rattle.refusal.specs.Coded.{coded, decoded}
use Rattle.table.specs.Table.{Table, table, table_of, IsTable}
use Rattle.table.proofs.ReadLaws.{apart, refuse-one}
use Rattle.table.proofs.Accepted.{is-table}
use Rattle.plan.specs.Plans.{Plan, write, branches}
use Rattle.plan.specs.Named.{flags_of, any_past}
use Rattle.plan.specs.Check.{plan_of, plan_for, plan_with, columns_for, plan_under}
use Rattle.plan.proofs.PlansLaws.{write-one}
use Rattle.plan.proofs.CheckLaws.{accepted-kind, kind-accepted, rows_fit}
use Rattle.plan.proofs.ColumnsLaws.{same-under, plan-free}
use Rattle.least.specs.declared.By.TheVariants.{Work}
use Rattle.checker.specs.Checked.{plan_says}
use Rattle.record.specs.Record.{table_in}
use Rattle.builder.specs.Build.{build_told, BuiltInto}
use Rattle.builder.proofs.ColumnsLaws.{same-list}
use Rattle.dudowiej.specs.Coded.{BuildForCoded}
use Rattle.dudowiej.proofs.Back.{under_back, build-for-back}
use Rattle.demands.specs.Kind.{There, Missing, SameColumns, NoneOrAll}
use Rattle.demands.specs.Demands.{Demand1Build, Demand3Build}
use Rattle.demands.specs.Columns.{CheckForTurned, bad-table, no-column, bad-plan, WritesKind, ChecksKind, ChecksFor, BuildsFor}
use Rattle.demands.proofs.KindLaws.{Listed, one-missing, all_there, listed, missing-past, there-past, same-occurs, free-flags}
use Rattle.demands.proofs.Cited.{clash, turned-one, reads, says-read, build-kept, least-built}

-- The check.

module _ (t columns p : List ℕ) where
  -- what is read, by what the table and the list are
  under_table : {f : Refused} → table_of t ≡ refuse f → plan_under t columns p ≡ refuse f
  under_table e = rw e

  under-missing : {T : Table} → table_of t ≡ read T → Missing T.width columns → plan_under t columns p ≡ refuse (refused reason.Column input.Columns 0)
  under-missing {T} e m = rw (e, missing-past T.width columns m)

  under-there : {T : Table} → table_of t ≡ read T → There T.width columns → plan_under t columns p ≡ plan_with (flags_of T.width columns) T p
  under-there {T} e h = rw (e, there-past T.width columns h)

  why : {f : Refused} → plan_under t columns p ≡ refuse f → CheckForTurned t columns p f
  why {f} e = go (table_of t) refl
    where
      with-table : (T : Table) → table_of t ≡ read T → Listed T.width columns → CheckForTurned t columns p f
      with-table T d (one-missing m) = no-column (is-table t d) m (refuse-one (sym e ∙ under-missing d m))
      with-table T d (all_there h) = bad-plan (is-table t d) h (sym (under-there d h) ∙ e)

      go : (x : Read Table) → table_of t ≡ x → CheckForTurned t columns p f
      go (read T) d = with-table T d (listed T.width columns)
      go (refuse h) d = bad-table (d ∙ ap refuse (refuse-one (sym (under_table d) ∙ e)))

  gets : {f : Refused} → CheckForTurned t columns p f → plan_under t columns p ≡ refuse f
  gets (bad-table d) = under_table d
  gets (no-column i m q) = under-missing (reads i) m ∙ ap refuse (sym q)
  gets (bad-plan i h e) = under-there (reads i) h ∙ e

  -- a plan of the kind, and the only plan that writes these cells
  module _ {w : ℕ} {rows : List (List ℕ)} (i : IsTable t w rows) (h : There w columns) where
    writes-kind : (b : ℕ) → plan_under t columns p ≡ read b → WritesKind w rows columns p b
    writes-kind b e =
        let a = (accepted-kind (flags_of w columns) (table w rows) (rows_fit w rows i.each) i.count.0 i.count.1 p b).0
        (sym (under-there (reads i) h) ∙ e) in
        record { tree = a.0; kind = a.3; cells = a.1; counted = a.2; only = λ q v. write-one q a.0 (v ∙ sym a.1) }

    kind-read : (b : ℕ) → WritesKind w rows columns p b → plan_under t columns p ≡ read b
    kind-read b x =
        under-there (reads i) h
        ∙ (accepted-kind (flags_of w columns) (table w rows) (rows_fit w rows i.each) i.count.0 i.count.1 p b).1
        (x.tree, x.cells, x.counted, x.kind)

  -- it is a plan
  plainly : (b : ℕ) → plan_under t columns p ≡ read b → plan_of t p ≡ read b
  plainly b e = go (table_of t) refl
    where
      with-table : (T : Table) → table_of t ≡ read T → Listed T.width columns → plan_of t p ≡ read b
      with-table T d (one-missing m) = apart (sym e ∙ under-missing d m)
      with-table T d (all_there h) =
          let i = is-table t d in
          let k = sym (under-there d h) ∙ e in
          rw d (kind-accepted (flags_of T.width columns) T (rows_fit T.width T.rows i.each) i.count.0 i.count.1 p b k)

      go : (x : Read Table) → table_of t ≡ x → plan_of t p ≡ read b
      go (read T) d = with-table T d (listed T.width columns)
      go (refuse f) d = apart (sym e ∙ under_table d)

  freely : {w : ℕ} {rows : List (List ℕ)} → IsTable t w rows → There w columns → NoneOrAll w columns → plan_under t columns p ≡ plan_of t p
  freely {w} {rows} i h n =
      let d = reads i in
      under-there d h ∙ plan-free (flags_of w columns) (table w rows) (free-flags w columns n) p ∙ sym (rw d)

  says-turned : (x : Read ℕ) (f : Refused) → (plan_says x ≡ turned f) ↔ (x ≡ refuse f)
  says-turned (read b) f = (λ e. clash e, λ e. apart e)
  says-turned (refuse k) f = (λ e. ap refuse (turned-one e), λ e. ap turned (refuse-one e))

  checks-kind : ChecksKind t columns p (plan_says (plan_under t columns p))
  checks-kind = record {
    refuses = λ f. (λ e. why ((says-turned (plan_under t columns p) f).0 e), λ e. (says-turned (plan_under t columns p) f).1 (gets e));
    accepts = λ w rows i h b.
        (λ e. writes-kind i h b (says-read (plan_under t columns p) b e), λ x. ap plan_says (kind-read i h b x));
    plain = λ b e. plainly b (says-read (plan_under t columns p) b e);
    free = λ w rows i h n f. rw (freely i h n) (says-turned (plan_of t p) f);
  }

pub request-213-check : (t columns p : List ℕ) {n : ℕ} → n ≡ coded (plan_says (plan_under t columns p)) → ChecksFor t columns p (decoded n)
request-213-check t columns p e others same =
    let k = under_back t columns p e ∙ ap plan_says (same-under columns others (same-occurs columns others same) t p) in
    subst (ChecksKind t others p) (sym k) (checks-kind t others p)

-- The builder.

pub request-213-build : {rec columns room room' : List ℕ} {n : ℕ} → BuildForCoded rec columns room room' n → BuildsFor rec columns room room' (decoded n)
request-213-build {rec} {columns} {room} {room'} x others same =
    let b = same-list columns others (same-occurs columns others same) x.built in
    let e = sym (build-for-back x) in (
      subst (Demand1Build (Work (get_or rec 1 0)) others (table_in rec) room room') e (build-kept b),
      subst (Demand3Build (Work (get_or rec 1 0)) others (table_in rec) room room') e (least-built b),
    )
