-- How the demands follow from the theorems of the crates: the steps that proofs/Demands cites.
use Rattle.std.specs.Prelude.{Result, Err}
use Rattle.builder.specs.declared.BuiltPlan.{BuiltPlan}
use Rattle.answer.specs.declared.RunCounts.{RunCounts}
use Rattle.refusal.specs.declared.Refusal.{Refusal}
use Prim.Native.Nat.{ℕ, zero, suc, ◌+◌, ◌^◌, ◌≤◌, ◌<◌}
use mathlib.Core.Path.{◌≡◌, refl, sym, ◌∙◌, ap, ap₂, subst}
use mathlib.Core.Logic.{◌↔◌}
use mathlib.Core.Bool.{Bool, true, false}
use mathlib.Core.List.{List, [], Memᴰ}
use native.Mathlib.Nat.{add-zero, zero-add}
use native.Mathlib.Omega.{arith}
use lib.Dec.{leb, ltb}
use lib.ListN.{length, get_or, take, drop}
use lib.Seq.{take_at, drop_at}
use borrow.Author.Tests.{leb-true, leb-false, ltb-true, ltb-false, le-ltb, eq-eqb}
use Rattle.cell.proofs.CellLaws.{built-variable}
use Rattle.term.specs.Unify.{Matches}
use Rattle.refusal.specs.declared.Reason.TheVariants as reason
use Rattle.refusal.specs.declared.Input.TheVariants as input
use Rattle.refusal.specs.Refusal.{Refused, refused, answered, turned}
use Rattle.refusal.specs.Read.{Read, read, refuse}
use Rattle.table.specs.Table.{Table, table, table_of, table_says, goal_of, goal_with, goal_says, row_in, IsTable, IsGoal}
use Rattle.table.specs.Table.{Row, met, terms_from, up_from}
use Rattle.table.proofs.ReadLaws.{apart, read_one, refuse-one, within-bounds}
use Rattle.table.proofs.Accepted.{is-table, table-accepted, goal-accepted, goal-is}
use Rattle.table.proofs.PartLaws.{start-at, place_none, cells_at}
use Rattle.term.proofs.Lists.{get_d-zeros}
use Rattle.term.specs.Terms.{Terms}
use Rattle.table.proofs.AllLaws.{all-each}
use Rattle.plan.specs.Plans.{Plan, write, branches}
use Rattle.plan.specs.Named.{NamedFirst, flags_of}
use Rattle.plan.specs.Check.{plan_of, plan_with}
use Rattle.checker.specs.Checked.{plan_says}
use Rattle.plan.proofs.SizeLaws.{size-bound}
use Rattle.plan.proofs.PlansLaws.{write-one}
use Rattle.plan.proofs.CheckLaws.{accepted-one, accepted-kind, rows_fit}
use Rattle.plan.proofs.NamedLaws.{no_place, free-kind}
use Rattle.builder.specs.Build.{table_for, BuiltInto, table-refused, room-refused, built, build_told}
use Rattle.builder.proofs.AskedLaws.{for-refused, for-column, for-read, read-for}
use Rattle.builder.proofs.Fixed.{build-fixed}
use Rattle.dudowiej.specs.Coded.{row_says}
use Rattle.least.specs.Measures.{measure_of, cost_by, table_by}
use Rattle.least.specs.declared.By.{By}
use Rattle.least.specs.Least.{Built}
use Rattle.least.proofs.Measured.{by-table, by-figure, by_read}
use Rattle.least.proofs.Weighed.{by-light}
use Rattle.least.proofs.Building.{built-least}
use Rattle.least.proofs.NoneNamed.{free-built}
use Rattle.answer.specs.Run.{Picks, Counts, Tried, run_of, run_told, Ran, refusal, ran, Ascends}
use Rattle.answer.proofs.Fixed.{skeletons-one}
use Rattle.table.proofs.HeadLaws.{up-length}
use Rattle.answer.proofs.Theorems.{picked, picks-ascend, tries-at-most, tries-every}
use Rattle.answer.proofs.TakesLaws.{Takes, takes_run, run-table, run-plan, run-goal, run_room}
use Rattle.demands.specs.Demands.{Demand1Table, Demand1Goal, Demand1Row, Demand1Place, Demand1Check, Demand1Build, Demand1Run}
use Rattle.demands.specs.Kind.{There, Missing, NoneOrAll}
use Rattle.demands.specs.Demands.{BuildTurned, no-figure, no_table, no-column, no_room, RunTurned, bad-table, bad-plan, bad-goal, bad-room}
use Rattle.demands.specs.Demands.{Answers, Demand2, TriedFew, Writes, Demand3Check, Demand3Run, LeastBy, LeastFor, Demand3Build}
use Rattle.demands.proofs.KindLaws.{Listed, one-missing, all_there, listed, missing-past, there-past, past-there, free-flags}
use Rattle.limits.specs.Limits.{most_plan_cells}

-- Refusals.

pub clash : {A : Type 0} {a b : ℕ} {f : Refused} → answered a b ≡ turned f → A
clash e = absurd (let z : ◌≡◌ {A = ℕ} 0 1 = cc in omega arith)

pub turned-one : {f h : Refused} → turned f ≡ turned h → f ≡ h
turned-one e = cc

pub answered-one : {a b c d : ℕ} → answered a b ≡ answered c d → (a ≡ c) × (b ≡ d)
answered-one e = (cc, cc)

-- what is answered is a refusal exactly when what is read is
table-turned : (x : Read Table) (f : Refused) → (table_says x ≡ turned f) ↔ (x ≡ refuse f)
table-turned (read T) f = (λ e. clash e, λ e. apart e)
table-turned (refuse h) f = (λ e. ap refuse (turned-one e), λ e. ap turned (refuse-one e))

goal-turned : (g : List ℕ) (x : Read ℕ) (f : Refused) → (goal_says g x ≡ turned f) ↔ (x ≡ refuse f)
goal-turned g (read v) f = (λ e. clash e, λ e. apart e)
goal-turned g (refuse h) f = (λ e. ap refuse (turned-one e), λ e. ap turned (refuse-one e))

plan-turned : (x : Read ℕ) (f : Refused) → (plan_says x ≡ turned f) ↔ (x ≡ refuse f)
plan-turned (read b) f = (λ e. clash e, λ e. apart e)
plan-turned (refuse h) f = (λ e. ap refuse (turned-one e), λ e. ap turned (refuse-one e))

-- a table that is one is read as its rows
pub reads : {t : List ℕ} {w : ℕ} {rows : List (List ℕ)} → IsTable t w rows → table_of t ≡ read (table w rows)
reads {t} {w} {rows} i = (table-accepted t w rows).1 i

-- Reading.

pub table_kept : (t : List ℕ) → Demand1Table t (table_says (table_of t))
table_kept t = record { refuses = table-turned (table_of t); accepts = λ w rows i. ap table_says (reads i) }

pub goal-kept : (t g : List ℕ) → Demand1Goal t g (goal_says g (goal_with t g))
goal-kept t g = record { refuses = goal-turned g (goal_with t g); accepts = λ w rows e i. rw (reads e, goal-is w g i) }

pub row_kept : (t : List ℕ) (j : ℕ) {row : List ℕ} → row ≡ row_in (table_of t) j → Demand1Row t j row
row_kept t j a = record { none = λ f e. rw e at a; some = λ w rows i. rw (reads i) at a }

pub place_kept : (t : List ℕ) (j : ℕ) → Demand1Place t j (row_says (table_of t) j)
place_kept t j = record {
  none = λ f e. rw (e, get_d-zeros 64 j);
  missing = λ w rows i l.
      (let x = place_none t (reads i) j l in ap₂ answered (sym x.start) (omega (arith, x.end)));
  some = λ w rows i l. (
    rw (reads i) (ap (λ (n : ℕ). answered n (length (get_or rows j []))) (start-at (table w rows) j l)),
    rw (← start-at (table w rows) j l) (cells_at t (reads i) j),
  );
}

pub plan-kept : (t p : List ℕ) → Demand1Check t p (plan_says (plan_of t p))
plan-kept t p = record { refuses = plan-turned (plan_of t p) }

-- The check.

pub says-read : (x : Read ℕ) (b : ℕ) → plan_says x ≡ answered b 0 → x ≡ read b
says-read (read c) b q = let s : c ≡ b = cc in ap read s
says-read (refuse f) b q = clash (sym q)

-- a tree writes its cells, and no other does
by-tree : {w : ℕ} {rows : List (List ℕ)} {p : List ℕ} (tree : Plan w rows) → write tree ≡ p → Writes w rows p (branches tree)
by-tree tree e = record { tree = tree; cells = e; count = refl; only = λ q v. write-one q tree (v ∙ sym e) }

module _ (t p : List ℕ) {w : ℕ} {rows : List (List ℕ)} (i : IsTable t w rows) where
  -- cells that the check accepts are written by one plan
  pub writes : (b : ℕ) → plan_of t p ≡ read b → Writes w rows p b
  writes b k =
      let a = (accepted-one (table w rows) i p b).0 (rw (reads i) at k) in
      record { tree = a.0; cells = a.1; count = a.2; only = a.3 }

  written : (b : ℕ) → Writes w rows p b → plan_of t p ≡ read b
  written b x = rw (reads i) ((accepted-one (table w rows) i p b).1 (x.tree, x.cells, x.count, x.only))

-- so the check accepts what a tree writes, and the check for the kind what one of the kind writes
pub tree-read : {t p : List ℕ} {w : ℕ} {rows : List (List ℕ)} → IsTable t w rows → (tree : Plan w rows) → write tree ≡ p
    → plan_of t p ≡ read (branches tree)
tree-read {t} {p} i tree e = written t p i (branches tree) (by-tree tree e)

kind-written : {t : List ℕ} (fs : List Bool) (T : Table) → IsTable t T.width T.rows → (tree : Plan T.width T.rows) → NamedFirst fs tree
    → plan_with fs T (write tree) ≡ read (branches tree)
kind-written fs T i tree k =
    (accepted-kind fs T (rows_fit T.width T.rows i.each) i.count.0 i.count.1 (write tree) (branches tree)).1 (tree, refl, refl, k)

pub check-accepts : (t p : List ℕ) → Demand3Check t p (plan_says (plan_of t p))
check-accepts t p w rows i b = (λ q. writes t p i b (says-read (plan_of t p) b q), λ x. ap plan_says (written t p i b x))

-- Building.

-- a table for which a plan is asked by a measure: where the figure is small, what reading the table says
pub data TakenBy (b : By) (t : List ℕ) : Type 0 where
  too_much : 15 < (measure_of b).figure → table_by b t ≡ refuse (refused reason.Figure input.Figure 0) → TakenBy b t
  small : (measure_of b).figure ≤ 15 → table_by b t ≡ table_of t → TakenBy b t

pub taken-by : (b : By) (t : List ℕ) → TakenBy b t
taken-by b t = go (leb (measure_of b).figure 15) refl
  where
    go : (x : Bool) → leb (measure_of b).figure 15 ≡ x → TakenBy b t
    go true e = small (leb-true (measure_of b).figure 15 e) (by-table b t (leb-true (measure_of b).figure 15 e))
    go false e = too_much (leb-false (measure_of b).figure 15 e) (by-figure b t (leb-false (measure_of b).figure 15 e))

-- and where columns are named too: FIGURE, the table's, COLUMN, or the table
module _ (by : By) (columns t : List ℕ) where
  for-figure : 15 < (measure_of by).figure → table_for by columns t ≡ refuse (refused reason.Figure input.Figure 0)
  for-figure l = for-refused by columns t (by-figure by t l)

  for-table : {f : Refused} → (measure_of by).figure ≤ 15 → table_of t ≡ refuse f → table_for by columns t ≡ refuse f
  for-table l e = for-refused by columns t (by-table by t l ∙ e)

  for-missing : {T : Table} → (measure_of by).figure ≤ 15 → table_of t ≡ read T → Missing T.width columns
      → table_for by columns t ≡ refuse (refused reason.Column input.Columns 0)
  for-missing {T} l e m = for-column by columns t (by-table by t l ∙ e) (missing-past T.width columns m)

  for-there : {T : Table} → (measure_of by).figure ≤ 15 → table_of t ≡ read T → There T.width columns → table_for by columns t ≡ read T
  for-there {T} l e h = for-read by columns t (by-table by t l ∙ e) (there-past T.width columns h)

  -- what is read is a table, and the columns are there
  pub was_read : {T : Table} → table_for by columns t ≡ read T → ((measure_of by).figure ≤ 15) × (table_of t ≡ read T) × There T.width columns
  was_read {T} e =
      let a = read-for by columns t e in
      let l = by_read by t a.0 in
      (l, sym (by-table by t l) ∙ a.0, past-there T.width columns a.1)

-- the builder's plan is of the kind
built-kind : (by : By) (fs : List Bool) {t : List ℕ} {w : ℕ} {rows : List (List ℕ)} (plan : Plan w rows) → IsTable t w rows → Built (measure_of by) fs plan
    → NamedFirst fs plan
built-kind by fs {w = w} {rows} plan i u =
    (built-least (measure_of by) (by-light by) fs plan (all-each (Row w) (Terms w) (λ r x. x.terms) rows i.each) u).1

-- with no column named, or all of them, the plain least plan
pub plain_of : {by : By} {columns t cells : List ℕ} {w : ℕ} {rows : List (List ℕ)} {cost : ℕ} → IsTable t w rows → NoneOrAll w columns
    → LeastFor by columns t cells cost → LeastBy by t cells cost
plain_of {by} {columns} {w = w} {rows} i n x =
    let q : table x.width x.rows ≡ table w rows = read_one (sym (reads x.is-table) ∙ reads i) in
    let e : w ≡ x.width = sym (ap (λ (T : Table). T.width) q) in
    let free = free-flags x.width columns (subst (λ (v : ℕ). NoneOrAll v columns) e n) in
    record {
      width = x.width;
      rows = x.rows;
      is-table = x.is-table;
      tree = x.tree;
      written = x.written;
      checked = x.checked;
      costs = x.costs;
      none-less = λ other. x.none-less other (free-kind (flags_of x.width columns) free other);
      rule = free-built (measure_of by) (flags_of x.width columns) [] free (no_place (λ j. refl)) x.tree x.rule;
    }

module _ {by : By} {columns t room room' : List ℕ} {r : Result BuiltPlan Refusal} where
  build-is-turned : BuiltInto by columns t room room' r → (f : Refused) → (build_told r ≡ turned f) ↔ BuildTurned by columns t room f
  build-is-turned b f = (why b, gets)
    where
      -- the first of the three that is refused
      by-columns : (T : Table) → (measure_of by).figure ≤ 15 → table_of t ≡ read T → table_for by columns t ≡ refuse f → Listed T.width columns
          → BuildTurned by columns t room f
      by-columns T l d e (one-missing m) = no-column l (is-table t d) m (refuse-one (sym e ∙ for-missing by columns t l d m))
      by-columns T l d e (all_there h) = apart (sym (for-there by columns t l d h) ∙ e)

      by-cells : (x : Read Table) → (measure_of by).figure ≤ 15 → table_of t ≡ x → table_for by columns t ≡ refuse f → BuildTurned by columns t room f
      by-cells (read T) l d e = by-columns T l d e (listed T.width columns)
      by-cells (refuse h) l d e = no_table l (d ∙ ap refuse (refuse-one (sym (for-table by columns t l d) ∙ e)))

      refused_as : TakenBy by t → table_for by columns t ≡ refuse f → BuildTurned by columns t room f
      refused_as (too_much l k) e = no-figure l (refuse-one (sym e ∙ for-figure by columns t l))
      refused_as (small l k) e = by-cells (table_of t) l refl e

      why : BuiltInto by columns t room room' r → build_told r ≡ turned f → BuildTurned by columns t room f
      why (table-refused h a x c) e = refused_as (taken-by by t) (a ∙ ap refuse (turned-one (sym x ∙ e)))
      why (room-refused T plan a u l x c) e =
          let k = was_read by columns t a in no_room k.0 (is-table t k.1) k.2 plan u l (turned-one (sym e ∙ x))
      why (built T plan a u m l x c) e = clash (sym x ∙ e)

      as_read : table_for by columns t ≡ refuse f → build_told r ≡ turned f
      as_read a = go b
        where
          go : BuiltInto by columns t room room' r → build_told r ≡ turned f
          go (table-refused h d x c) = x ∙ ap turned (refuse-one (sym d ∙ a))
          go (room-refused T plan d u l x c) = apart (sym d ∙ a)
          go (built T plan d u m l x c) = apart (sym d ∙ a)

      gets : BuildTurned by columns t room f → build_told r ≡ turned f
      gets (no-figure l q) = as_read (for-figure by columns t l ∙ ap refuse (sym q))
      gets (no_table l a) = as_read (for-table by columns t l a)
      gets (no-column l i m q) = as_read (for-missing by columns t l (reads i) m ∙ ap refuse (sym q))
      gets (no_room s i h plan u l q) =
          let no : Result BuiltPlan Refusal = Err (record { reason = reason.Room; input = input.Lent; place = length (write plan) }) in
          let short : BuiltInto by columns t room room no = room-refused (table _ _) plan (for-there by columns t s (reads i) h) u l refl refl in
          ap build_told (build-fixed b short).0 ∙ ap turned (sym q)

  pub build-writes-nothing : BuiltInto by columns t room room' r → (f : Refused) → build_told r ≡ turned f → room' ≡ room
  build-writes-nothing (table-refused h a x c) f e = c
  build-writes-nothing (room-refused T plan a u l x c) f e = c
  build-writes-nothing (built T plan a u m l x c) f e = clash (sym x ∙ e)

  pub build-kept : BuiltInto by columns t room room' r → Demand1Build by columns t room room' (build_told r)
  build-kept b = record { refuses = build-is-turned b; untouched = build-writes-nothing b }

  pub builds : (w : ℕ) (rows : List (List ℕ)) → (measure_of by).figure ≤ 15 → IsTable t w rows → There w columns → most_plan_cells ≤ length room
      → BuiltInto by columns t room room' r → (n : ℕ) × (cost : ℕ) × (build_told r ≡ answered n cost)
  builds w rows s i h l (table-refused g a x c) = apart (sym (for-there by columns t s (reads i) h) ∙ a)
  builds w rows s i h l (room-refused T plan a u z x c) =
      let j = is-table t (was_read by columns t a).1 in
      absurd (omega (arith, size-bound plan (rows_fit T.width T.rows j.each) j.count.0 j.count.1))
  builds w rows s i h l (built T plan a u m z x c) = (length (write plan), cost_by by plan, x)

  pub least-of : (n cost : ℕ) → build_told r ≡ answered n cost → BuiltInto by columns t room room' r
      → LeastFor by columns t (take n room') cost × (drop n room' ≡ drop n room)
  least-of n cost q (table-refused h a x c) = clash (sym q ∙ x)
  least-of n cost q (room-refused T plan a u z x c) = clash (sym q ∙ x)
  least-of n cost q (built T plan a u m z x c) =
      let k = answered-one (sym x ∙ q) in
      let front = ap (take n) c ∙ take_at (write plan) (drop (length (write plan)) room) n k.0 in
      let d = (was_read by columns t a).1 in
      let i = is-table t d in
      let kind = built-kind by (flags_of T.width columns) plan i u in (
        record {
          width = T.width;
          rows = T.rows;
          is-table = i;
          tree = plan;
          kind = kind;
          written = sym front;
          accepted = rw front (kind-written (flags_of T.width columns) T i plan kind);
          checked = rw front (tree-read i plan refl);
          costs = k.1;
          none-less = λ other o. rw (← k.1) (m.none-less other o);
          rule = u;
        },
        ap (drop n) c ∙ drop_at (write plan) (drop (length (write plan)) room) n k.0 ∙ ap (λ (j : ℕ). drop j room) k.0,
      )

  pub least-built : BuiltInto by columns t room room' r → Demand3Build by columns t room room' (build_told r)
  least-built x = record {
    builds = λ w rows s i h l. builds w rows s i h l x;
    least = λ n cost q. (least-of n cost q x).0;
    plain = λ w rows n cost i h q. plain_of i h (least-of n cost q x).0;
    rest = λ n cost q. (least-of n cost q x).1;
  }

-- A run.

module _ {t p g room : List ℕ} {f : Refused} where
  -- what turns it away gives its refusal
  turns : RunTurned t p g room f → run_of t p g room ≡ refuse f
  turns (bad-table d) = run-table t p g room d
  turns (bad-plan i k) = run-plan t p g room (reads i) k
  turns (bad-goal i tree k m) = run-goal t p g room (reads i) (tree-read i tree k) m
  turns (bad-room {width = w} i tree k m l q) =
      run_room t p g room (reads i) (tree-read i tree k) ((goal-accepted w g).1 m).1 l ∙ ap refuse (sym q)

  -- and what is refused was turned away by the first of the four that is bad
  turned_by : run_of t p g room ≡ refuse f → RunTurned t p g room f
  turned_by e = by-table (table_of t) refl
    where
      same : {h : Refused} → run_of t p g room ≡ refuse h → h ≡ f
      same a = refuse-one (sym a ∙ e)

      by-room : (T : Table) (b v : ℕ) → table_of t ≡ read T → plan_of t p ≡ read b → goal_of T.width g ≡ read v → (full : Bool)
          → ltb (length room) (length T.rows) ≡ full → RunTurned t p g room f
      by-room T b v d k m true l =
          let less = ltb-true (length room) (length T.rows) l in
          let x = writes t p (is-table t d) b k in
          bad-room (is-table t d) x.tree x.cells ((goal-accepted T.width g).0 (v, m)) less (sym (same (run_room t p g room d k m less)))
      by-room T b v d k m false l =
          let enough = ltb-false (length room) (length T.rows) l in
          let all : Takes t p g room T = record { table = d; branches = b; plan = k; variables = v; goal = m; room_for = enough } in
          apart (sym (takes_run all) ∙ e)

      by-goal : (T : Table) (b : ℕ) → table_of t ≡ read T → plan_of t p ≡ read b → (x : Read ℕ) → goal_of T.width g ≡ x
          → RunTurned t p g room f
      by-goal T b d k (read v) m = by-room T b v d k m (ltb (length room) (length T.rows)) refl
      by-goal T b d k (refuse h) m =
          let x = writes t p (is-table t d) b k in
          bad-goal (is-table t d) x.tree x.cells (m ∙ ap refuse (same (run-goal t p g room d k m)))

      by-plan : (T : Table) → table_of t ≡ read T → (x : Read ℕ) → plan_of t p ≡ x → RunTurned t p g room f
      by-plan T d (read b) k = by-goal T b d k (goal_of T.width g) refl
      by-plan T d (refuse h) k = bad-plan (is-table t d) (k ∙ ap refuse (same (run-plan t p g room d k)))

      by-table : (x : Read Table) → table_of t ≡ x → RunTurned t p g room f
      by-table (read T) d = by-plan T d (plan_of t p) refl
      by-table (refuse h) d = bad-table (d ∙ ap refuse (same (run-table t p g room d)))

-- the rows in words: each of the table's rows that unifies and no other number, ascending
rows-reported : (g : List ℕ) {rows : List (List ℕ)} {found : List ℕ} → Picks (λ (row : List ℕ). Matches row g) rows 0 found
    → ((j : ℕ) → Memᴰ j found ↔ ((j < length rows) × Matches (get_or rows j []) g)) × Ascends 0 found
rows-reported g {rows} {found} p =
    let up = picks-ascend p in (
      λ j. (
        λ m. (let l : j < length rows = omega (arith, up.1 j m) in (l, (at_row j l).0 m)),
        λ h. (at_row j h.0).1 h.1,
      ),
      up.0,
    )
  where
    at_row : (j : ℕ) → j < length rows → Memᴰ j found ↔ Matches (get_or rows j []) g
    at_row j l = let e : 0 + j ≡ j = omega arith in rw e at (picked p j l)

module _ {t p g room room' : List ℕ} {r : Result RunCounts Refusal} where
  run-is-turned : Ran t p g room room' r → (f : Refused) → (run_told r ≡ turned f) ↔ RunTurned t p g room f
  run-is-turned b f = (why b, λ k. gets b (turns k))
    where
      why : Ran t p g room room' r → run_told r ≡ turned f → RunTurned t p g room f
      why (refusal h a x c) e = turned_by (a ∙ ap refuse (turned-one (sym x ∙ e)))
      why (ran T tree found n a w v u x c) e = clash (sym x ∙ e)

      gets : Ran t p g room room' r → run_of t p g room ≡ refuse f → run_told r ≡ turned f
      gets (refusal h a x c) e = x ∙ ap turned (refuse-one (sym a ∙ e))
      gets (ran T tree found n a w v u x c) e = apart (sym a ∙ e)

  run-writes-nothing : Ran t p g room room' r → (f : Refused) → run_told r ≡ turned f → room' ≡ room
  run-writes-nothing (refusal h a x c) f e = c
  run-writes-nothing (ran T tree found n a w v u x c) f e = clash (sym x ∙ e)

  pub run-kept : Ran t p g room room' r → Demand1Run t p g room room' (run_told r)
  run-kept b = record { refuses = run-is-turned b; untouched = run-writes-nothing b }

  -- with any tree that writes the plan's cells
  pub run-answers : Ran t p g room room' r → Demand2 t p g room room' (run_told r)
  run-answers b w rows tree i e m l = go b
    where
      takes : run_of t p g room ≡ read (table w rows)
      takes =
          let v = (goal-accepted w g).1 m in
          takes_run
          (record { table = reads i; branches = branches tree; plan = tree-read i tree e; variables = v.0; goal = v.1; room_for = l })

      go : Ran t p g room room' r → Answers tree g room room' (run_told r)
      go (refusal f a x c) = apart (sym takes ∙ a)
      go (ran T tree' found n a d v u x c) =
          let q : T ≡ table w rows = read_one (sym a ∙ takes) in
          let s = skeletons-one (ap (λ (y : Table). y.width) q) (ap (λ (y : Table). y.rows) q) tree' tree (sym d ∙ sym e) in
          let rows = rows-reported g (subst (λ (y : Table). Picks (λ (row : List ℕ). Matches row g) y.rows 0 found) q v) in
          record {
            found = found;
            exactly = rows.0;
            ascends = rows.1;
            tried = n;
            branches = subst (λ (ks : List (List ℕ)). Counts (Tried g) ks n) s u;
            told = x;
            wrote = c;
          }

  -- and so with any cells that the check accepts
  pub any-plan-answers : Ran t p g room room' r → Demand3Run t p g room room' (run_told r)
  any-plan-answers x w rows b i k m l = let z = writes t p i b k in (z, run-answers x w rows z.tree i z.cells m l)

-- The goal of distinct variables.

-- cell by cell each variable is the next one
variables-read : (w v used p : ℕ) → v + w < 2 ^ 16 → terms_from false (up_from v w) w used v p ≡ read (met (p + w) (v + w))
unfolding terms_from up_from
variables-read zero v used p h = rw (add-zero p, add-zero v)
variables-read (suc w) v used p h =
    let on : p + suc w ≡ suc p + w = omega arith in
    let more : v + suc w ≡ suc v + w = omega arith in
    let rest = variables-read w (suc v) (suc used) (suc p) (omega arith) in
    rw (built-variable v (omega arith), le-ltb v v (omega arith), eq-eqb v v refl, zero-add w, on, more) rest

variables-goal : (w : ℕ) → 1 ≤ w → w ≤ 8 → IsGoal w (up_from 0 w)
unfolding goal_of
variables-goal w h l =
    let n = up-length 0 w in
    let bounds = within-bounds (length (up_from 0 w)) 1 32 (omega arith) (omega arith) in
    let whole = le-ltb (0 + w) (length (up_from 0 w)) (omega arith) in
    (goal-accepted w (up_from 0 w)).0 (0 + w, rw (bounds, variables-read w 0 0 0 (omega arith), whole))

-- its run answers, and every branch is tried
tries-all : {t p g room room' : List ℕ} {r : Result RunCounts Refusal} → Ran t p g room room' r → (w : ℕ) (rows : List (List ℕ)) (b : ℕ) → IsTable t w rows
    → plan_of t p ≡ read b → length rows ≤ length room → g ≡ up_from 0 w → (h : ℕ) × (run_told r ≡ answered h b)
tries-all {t} {p} {room = room} {room'} {r} x w rows b i k l e =
    let y = subst (λ (goal : List ℕ). Ran t p goal room room' r) e x in
    let a = (any-plan-answers y w rows b i k (variables-goal w i.width.0 i.width.1) l).1 in
    (length a.found, a.told ∙ ap (answered (length a.found)) (tries-every (reads i) k y a.told))

pub tried-few : {t p g room room' : List ℕ} {r : Result RunCounts Refusal} → Ran t p g room room' r → TriedFew t p g room (run_told r)
tried-few x = record { bound = λ b h n k q. tries-at-most k x q; variables = tries-all x }
