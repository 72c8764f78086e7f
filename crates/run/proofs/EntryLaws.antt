-- A run of an accepted plan: what the walk takes for granted, and what it gives, for each way the entry returns.
use Prim.Native.Nat.{ℕ, ◌+◌, ◌≤◌, ◌<◌}
use Rattle.std.proofs.Common.{Ok, Err}
use mathlib.Core.Path.{◌≡◌, refl, sym, ◌∙◌, ap, ap₂, subst}
use mathlib.Core.List.{List, ◌++◌}
use native.Mathlib.Omega.{arith}
use lib.ListN.{length, drop, replicate}
use lib.Seq.{sets, sets-eq}
use Rattle.term.specs.Unify.{renamed, Matches}
use Rattle.refusal.specs.Refusal.{Refused, refused, told, answered, turned}
use Rattle.refusal.specs.declared.Reason.TheVariants as reason
use Rattle.refusal.specs.declared.Input.TheVariants as input
use Rattle.refusal.specs.declared.Refusal.{Refusal}
use Rattle.refusal.specs.Read.{Read, read, refuse, and_then}
use Rattle.table.specs.Table.{Table, table_of, goal_of, goal_says, goal_told, up_from, IsGoal}
use Rattle.std.specs.Prelude.{Result, Ok, Err}
use Rattle.table.specs.declared.GoalSize.{GoalSize}
use Rattle.table.proofs.Accepted.{is-goal}
use Rattle.table.proofs.HeadLaws.{up-length}
use Rattle.plan.specs.Plans.{branches}
use Rattle.plan.specs.Check.{plan_for, plan_of}
use Rattle.plan.proofs.CheckLaws.{accepted-one}
use Rattle.plan.proofs.PlansLaws.{write-one}
use Rattle.plannotes.specs.Noted.{NotedInto}
use Rattle.plannotes.specs.declared.Noted.{Noted}
use Rattle.answer.specs.Skeleton.{hole}
use Rattle.answer.specs.Run.{Picks, Counts, skeletons, Tried, run_of, Ran, refusal, ran}
use Rattle.answer.specs.code.Tree.{hits, tried}
use Rattle.answer.proofs.FewLaws.{hits_few}
use Rattle.answer.proofs.AcceptedLaws.{hits-right, tried-right}
use Rattle.answer.proofs.OpenGoalLaws.{distinct, every-hit}
use Rattle.answer.proofs.Theorems.{every-try}
use Rattle.answer.proofs.TakesLaws.{run-table, run-plan, run-goal, run_room, takes_run}
use Rattle.walking.specs.code.Walk.{Begun, Walked}
use Rattle.plannotes.specs.code.ForRun.{ForRun}
use Rattle.plannotes.proofs.HandedLaws.{no_run}

-- what the goal's answer tells of its reading
pub says-goal : (g : List ℕ) (x : Read ℕ) {a : Result GoalSize Refusal} {s : GoalSize} → goal_told a ≡ goal_says g x → a ≡ Ok s
    → (x ≡ read s.vars) × (s.cells ≡ length g)
says-goal g (read u) {a} {s} e d = let q : goal_told a ≡ answered s.cells s.vars = ap goal_told d in (cc, cc)
says-goal g (refuse f) {a} {s} e d =
    let q : goal_told a ≡ answered s.cells s.vars = ap goal_told d in
    absurd (let z : ◌≡◌ {A = ℕ} 0 1 = cc in let y : ⊥ = omega arith in y)

pub says-no-goal : (g : List ℕ) (x : Read ℕ) {a : Result GoalSize Refusal} {f : Refusal} → goal_told a ≡ goal_says g x → a ≡ Err f → x ≡ refuse (told f)
says-no-goal g (read u) {a} {f} e d =
    let q : goal_told a ≡ turned (told f) = ap goal_told d in
    absurd (let z : ◌≡◌ {A = ℕ} 0 1 = cc in let y : ⊥ = omega arith in y)
says-no-goal g (refuse h) {a} {f} e d = let q : goal_told a ≡ turned (told f) = ap goal_told d in cc

module _ {t p ns : List ℕ} {b w n : ℕ} (A : ForRun t p ns b w n) where
  pub few-rows : n ≤ 64
  few-rows = omega (arith, A.same_rows, A.is.count.1)

  plan-reads : plan_of t p ≡ read (branches A.tree)
  plan-reads =
      rw A.reads ((accepted-one A.table A.is p (branches A.tree)).1
      (A.tree, sym A.writes, refl, λ q e. write-one q A.tree (e ∙ A.writes)))

  module _ (g : List ℕ) where
    at_width : {x : Read ℕ} → goal_of w g ≡ x → goal_of A.table.width g ≡ x
    at_width e = rw A.same_width at e

    -- the goal is turned away, or the room
    pub no-goal : (room : List ℕ) {f : Refusal} → goal_of w g ≡ refuse (told f) → Ran t p g room room (Err f)
    no-goal room {f} e = refusal (told f) (run-goal t p g room A.reads plan-reads (at_width e)) refl refl

    pub no_room : (room : List ℕ) {v : ℕ} → goal_of w g ≡ read v → length room < n
        → Ran t p g room room (Err (record { reason = reason.Room; input = input.Lent; place = n }))
    no_room room e l =
        refusal (refused reason.Room input.Lent n)
        (run_room t p g room A.reads plan-reads (at_width e) (rw A.same_rows at l)
        ∙ ap (λ (x : ℕ). refuse (refused reason.Room input.Lent x)) (sym A.same_rows))
        refl refl

    -- neither is
    module _ {v : ℕ} (e : goal_of w g ≡ read v) (room : List ℕ) (l : n ≤ length room) where
      goal-is : IsGoal A.table.width g
      goal-is = (is-goal A.table.width g (at_width e)).0

      -- what a run reports is told by the hits and the number tried
      reports : (found : List ℕ) (k : ℕ) → Picks (λ (row : List ℕ). Matches row g) A.table.rows 0 found
          → Counts (Tried g) (skeletons A.tree (replicate A.table.width hole)) k → length found ≤ n → (room' : List ℕ) (h m : ℕ)
          → room' ≡ sets room 0 found → h ≡ length found → m ≡ k → Ran t p g room room' (Ok (record { hits = h; tried = m }))
      reports found k picks counts few room' h m x y z =
          let b : 0 + length found ≤ length room = omega arith in
          let q : 0 + length found ≡ length found = omega arith in
          ran A.table A.tree found k
          (takes_run (record {
            table = A.reads;
            branches = branches A.tree;
            plan = plan-reads;
            variables = v;
            goal = at_width e;
            room_for =
                omega (arith, A.same_rows);
          }))
          A.writes picks counts (ap₂ answered y z) (x ∙ sets-eq found room 0 b ∙ ap (λ (i : ℕ). found ++ drop i room) q)

      -- the goal of distinct variables
      pub opened : v ≡ length g → (room' : List ℕ) → room' ≡ sets room 0 (up_from 0 n) → Ran t p g room room' (Ok (record { hits = n; tried = b }))
      opened d room' x =
          let i = is-goal A.table.width g (at_width e) in
          let o : up_from 0 A.table.width ≡ g = sym (distinct i.0 (sym i.1 ∙ d)) in
          let c = A.is.width in
          let q : up_from 0 n ≡ up_from 0 (length A.table.rows) = ap (up_from 0) A.same_rows in
          let z = up-length 0 (length A.table.rows) in
          reports (up_from 0 (length A.table.rows)) (branches A.tree)
          (subst (λ (l : List ℕ). Picks (λ (row : List ℕ). Matches row l) A.table.rows 0 (up_from 0 (length A.table.rows))) o
          (every-hit A.table.width (omega arith) A.table.rows A.is.each))
          (subst (λ (l : List ℕ). Counts (Tried l) (skeletons A.tree (replicate A.table.width hole)) (branches A.tree)) o
          (every-try A.is A.tree))
          (omega (arith, z, A.same_rows)) room' n b (x ∙ ap (sets room 0) q) (A.same_rows ∙ sym z) A.number

      -- the walk
      pub walked : (room' : List ℕ) (h k : ℕ) → ((x : Begun ns b g room w) → Walked x room' h k) → Ran t p g room room' (Ok (record { hits = h; tried = k }))
      walked room' h k u =
          let u' : (x : Begun ns b g room A.table.width) → Walked x room' h k = rw A.same_width at u in
          let x = u' (record {
            table = t;
            rows = A.table.rows;
            accepted = A.is;
            tree = A.tree;
            number = A.number;
            words = A.words;
            is = goal-is;
            roomy = omega (arith, A.same_rows);
          }) in
          let c = A.is.count in
          reports (hits A.tree 32 (renamed g) 0) (tried A.tree 32 (renamed g))
          (hits-right goal-is A.is.each c.0 A.tree) (tried-right goal-is A.is.each c.0 A.tree)
          (omega (arith, hits_few A.tree 32 (renamed g) 0, A.same_rows)) room' h k x.wrote x.number-found x.number-tried

-- The table or the plan is turned away.
run-refused : (t p g room : List ℕ) {f : Refused} → plan_of t p ≡ refuse f → run_of t p g room ≡ refuse f
run-refused t p g room {f} e = go (table_of t) refl
  where
    go : (x : Read Table) → table_of t ≡ x → run_of t p g room ≡ refuse f
    go (read T) d = run-plan t p g room d e
    go (refuse h) d =
        let q : ◌≡◌ {A = Read ℕ} (refuse h) (refuse f) = sym (ap (λ (x : Read Table). and_then x (λ (T : Table). plan_for T p)) d) ∙ e in
        let k : h ≡ f = cc in
        run-table t p g room d ∙ ap refuse k

pub handed-refused : {t p ns ns' : List ℕ} {m : Noted} {f : Refusal} (g room : List ℕ) → NotedInto t p ns ns' m → m.answer ≡ Err f
    → Ran t p g room room (Err f)
handed-refused {t} {p} {f = f} g room h d = refusal (told f) (run-refused t p g room (no_run h d).0) refl refl
