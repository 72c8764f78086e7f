-- W-203 of what the entry promises: `RepliesCoded t p g room room' n`. The statements are in specs/Replies.
use Rattle.std.specs.Prelude.{Result}
use Rattle.instance.specs.declared.ReplyCounts.{ReplyCounts}
use Rattle.answer.specs.declared.RunCounts.{RunCounts}
use Rattle.refusal.specs.declared.Refusal.{Refusal}
use Prim.Native.Nat.{ℕ, suc, ◌*◌, ◌≤◌, ◌<◌}
use mathlib.Core.Path.{◌≡◌, refl, sym, ◌∙◌, ap, subst}
use mathlib.Core.Logic.{◌↔◌}
use mathlib.Core.List.{List, ◌++◌, flatten}
use native.Mathlib.Omega.{arith}
use lib.ListN.{length, drop}
use Rattle.term.specs.Unify.{Matches}
use Rattle.refusal.specs.Refusal.{Refused, refused, Answer, answered, turned}
use Rattle.refusal.specs.declared.Reason.TheVariants as reason
use Rattle.refusal.specs.declared.Input.TheVariants as input
use Rattle.refusal.specs.Read.{Read, read, refuse, and_then}
use Rattle.table.specs.All.{All}
use Rattle.table.specs.Table.{Table, table, table_of, goal_of, Row, IsTable, IsGoal}
use Rattle.table.proofs.ReadLaws.{apart, read_one, refuse-one, first}
use Rattle.table.proofs.Accepted.{is-table, goal-accepted}
use Rattle.plan.specs.Plans.{Plan, write}
use Rattle.plan.specs.Check.{plan_of}
use Rattle.answer.specs.Run.{Picks, Ran, run_told}
use Rattle.answer.specs.Run as runs
use Rattle.answer.proofs.TakesLaws.{run-takes}
use Rattle.instance.specs.Instance.{Common}
use Rattle.instance.specs.Reply.{Reply, Replies, Short, Large, none, hit, miss}
use Rattle.instance.specs.Replied.{replies_of, replies_told, Replied, refusal, no_room, replied}
use Rattle.instance.specs.Replied as entry
use Rattle.instance.proofs.Apart.{matches-common, common-matches}
use Rattle.instance.proofs.Variants.{reply-one, replies-one}
use Rattle.instance.proofs.StartLaws.{head-below}
use Rattle.instance.proofs.RepliesLaws.{replies-take, replies-few, short-flat, not-large}
use Rattle.instance.proofs.Fixed.{not-both}
use Rattle.refusal.specs.Coded.{decoded}
use Rattle.dudowiej.specs.Coded.{RunCoded, RepliesCoded}
use Rattle.dudowiej.proofs.Back.{run-back, replies-back}
use Rattle.demands.specs.Replies.{RepliesTurned, bad-table, bad-plan, bad-goal, big, bad-room, RepliesRefused, Said, Says}
use Rattle.demands.proofs.Cited.{clash, turned-one, answered-one, reads, writes, tree-read}
use Rattle.limits.specs.Limits.{most_reply_cells}

-- BIG is not ROOM
not-room : {k : ℕ} → turned (refused reason.Big input.Goal 0) ≡ turned (refused reason.Room input.Lent k) → ⊥
not-room e = omega (arith, ap (λ (f : Refused). f.number) (turned-one e))

-- what turns the entry away before the replies
asked-turned : {t p g room : List ℕ} {f : Refused} → replies_of t p g ≡ refuse f → RepliesTurned t p g room f
unfolding replies_of
asked-turned {t} {p} {g} {room} {f} = go (table_of t) refl
  where
    in-goal : (T : Table) (b : ℕ) → table_of t ≡ read T → plan_of t p ≡ read b → (x : Read ℕ) → goal_of T.width g ≡ x
        → and_then x (λ (v : ℕ). read T) ≡ refuse f → RepliesTurned t p g room f
    in-goal T b e h (read v) k q = apart q
    in-goal T b e h (refuse z) k q =
        let x = writes t p (is-table t e) b h in
        bad-goal (is-table t e) x.tree x.cells (k ∙ ap refuse (refuse-one q))

    in-plan : (T : Table) → table_of t ≡ read T → (x : Read ℕ) → plan_of t p ≡ x
        → and_then x (λ (b : ℕ). and_then (goal_of T.width g) (λ (v : ℕ). read T)) ≡ refuse f → RepliesTurned t p g room f
    in-plan T e (read b) k q = in-goal T b e k (goal_of T.width g) refl q
    in-plan T e (refuse z) k q = bad-plan (is-table t e) (k ∙ ap refuse (refuse-one q))

    go : (x : Read Table) → table_of t ≡ x
        → and_then x (λ (T : Table). and_then (plan_of t p) (λ (b : ℕ). and_then (goal_of T.width g) (λ (v : ℕ). read T))) ≡ refuse f
        → RepliesTurned t p g room f
    go (read T) e q = in-plan T e (plan_of t p) refl q
    go (refuse z) e q = bad-table (e ∙ ap refuse (refuse-one q))

-- what is asked, the plan's reading as an argument
asked_in : (t g : List ℕ) → Read ℕ → Read Table
asked_in t g plan = and_then (table_of t) (λ (T : Table). and_then plan (λ (b : ℕ). and_then (goal_of T.width g) (λ (v : ℕ). read T)))

module _ (t p g : List ℕ) where
  asked_in_lem : replies_of t p g ≡ asked_in t g (plan_of t p)
  unfolding replies_of asked_in
  asked_in_lem = refl

  asked-table : {f : Refused} → table_of t ≡ refuse f → replies_of t p g ≡ refuse f
  unfolding asked_in
  asked-table e = asked_in_lem ∙ rw e

  asked-plan : {T : Table} {f : Refused} → table_of t ≡ read T → plan_of t p ≡ refuse f → replies_of t p g ≡ refuse f
  unfolding asked_in
  asked-plan e h = asked_in_lem ∙ rw (h, e)

  asked-goal : {T : Table} {b : ℕ} {f : Refused} → table_of t ≡ read T → plan_of t p ≡ read b → goal_of T.width g ≡ refuse f
      → replies_of t p g ≡ refuse f
  unfolding asked_in
  asked-goal e h k = asked_in_lem ∙ rw (h, e, k)

  asked-read : {T : Table} {b v : ℕ} → table_of t ≡ read T → plan_of t p ≡ read b → goal_of T.width g ≡ read v → replies_of t p g ≡ read T
  unfolding asked_in
  asked-read e h k = asked_in_lem ∙ rw (h, e, k)

  -- the replies of one table are one list
  rows_of : {T T' : Table} {all : List (List ℕ)} → replies_of t p g ≡ read T → replies_of t p g ≡ read T' → Replies g T.rows all
      → Replies g T'.rows all
  rows_of {all = all} a b w = subst (λ (X : Table). Replies g X.rows all) (read_one (sym a ∙ b)) w

  same-replies : {T T' : Table} {all all' : List (List ℕ)} → replies_of t p g ≡ read T → replies_of t p g ≡ read T' → Replies g T.rows all
      → Replies g T'.rows all' → all ≡ all'
  same-replies a b w w' = replies-one (rows_of a b w) w'

-- what is asked where it is read: a table, a plan as a tree, and a goal
record Asked (t p g : List ℕ) (T : Table) : Type 0 where
  pub is : IsTable t T.width T.rows
  pub tree : Plan T.width T.rows
  pub cells : write tree ≡ p
  pub goal : IsGoal T.width g

asked_by : (t p g : List ℕ) {T : Table} → replies_of t p g ≡ read T → Asked t p g T
unfolding replies_of
asked_by t p g {T} a =
    let y = first (table_of t) _ a in
    let z = first (plan_of t p) _ y.2 in
    let k = first (goal_of y.0.width g) _ z.2 in
    let q : y.0 ≡ T = read_one k.2 in
    let i = is-table t (y.1 ∙ ap read q) in
    let s = writes t p i z.0 z.1 in
    let is-goal = (goal-accepted T.width g).0 (k.0, ap (λ (X : Table). goal_of X.width g) (sym q) ∙ k.1) in
    record { is = i; tree = s.tree; cells = s.cells; goal = is-goal }

-- under a table, a plan and a goal: what the three cases say of BIG, of ROOM and of the replies
enough-cells : {g : List ℕ} {rows all : List (List ℕ)} → Replies g rows all → All Short all → length (flatten all) ≤ length rows * most_reply_cells
enough-cells {all = all} w s = omega (arith, replies-few w, short-flat all s)

module _ {g room room' : List ℕ} {answer : Answer} {rows all : List (List ℕ)} (w : Replies g rows all) where
  says-big : Large all → answer ≡ turned (refused reason.Big input.Goal 0) → Said rows g room room' answer
  says-big n y =
      record {
        all = all;
        each = w;
        fixed = λ others o. replies-one o w;
        large = (λ e. n, λ k. y);
        full = (λ e. absurd (not-room (sym y ∙ e)), λ k. absurd (not-large k.0 n));
        told = (λ e. clash (sym e ∙ y), λ k. absurd (not-large k.0 n));
        wrote = λ s m. absurd (not-large s n);
        small = λ h m e. clash (sym e ∙ y);
        enough = enough-cells w;
      }

  says-full : All Short all → length room < length (flatten all)
      → answer ≡ turned (refused reason.Room input.Lent (length (flatten all))) → Said rows g room room' answer
  says-full s l y =
      record {
        all = all;
        each = w;
        fixed = λ others o. replies-one o w;
        large = (λ e. absurd (not-room (sym e ∙ y)), λ n. absurd (not-large s n));
        full = (λ e. (s, l), λ k. y);
        told = (λ e. clash (sym e ∙ y), λ k. absurd (let z : ⊥ = omega (arith, l, k.1) in z));
        wrote = λ k m. absurd (let z : ⊥ = omega (arith, l, m) in z);
        small = λ h m e. clash (sym e ∙ y);
        enough = enough-cells w;
      }

  says_all : All Short all → length (flatten all) ≤ length room → answer ≡ answered (length all) (length (flatten all))
      → room' ≡ flatten all ++ drop (length (flatten all)) room → Said rows g room room' answer
  says_all s l y c =
      record {
        all = all;
        each = w;
        fixed = λ others o. replies-one o w;
        large = (λ e. clash (sym y ∙ e), λ n. absurd (not-large s n));
        full = (λ e. clash (sym y ∙ e), λ k. absurd (let z : ⊥ = omega (arith, l, k.1) in z));
        told = (λ e. (s, l), λ k. y);
        wrote = λ k m. c;
        small = λ h m e. s;
        enough = enough-cells w;
      }

module _ {t p g room room' : List ℕ} {r : Result ReplyCounts Refusal} where
  turned-why : Replied t p g room room' r → (f : Refused) → replies_told r ≡ turned f → RepliesTurned t p g room f
  turned-why (refusal h a x c) f e = asked-turned (a ∙ ap refuse (turned-one (sym x ∙ e)))
  turned-why (entry.big T all a w n x c) f e =
      let k = asked_by t p g a in
      big all k.is k.tree k.cells k.goal w n (sym (turned-one (sym x ∙ e)))
  turned-why (no_room T all a w n l x c) f e =
      let k = asked_by t p g a in
      bad-room all k.is k.tree k.cells k.goal w n l (sym (turned-one (sym x ∙ e)))
  turned-why (replied T all a w n l x c) f e = clash (sym x ∙ e)

  -- as it is asked, so it is answered
  as-refused : {h : Refused} → replies_of t p g ≡ refuse h → Replied t p g room room' r → replies_told r ≡ turned h
  as-refused e (refusal h a x c) = x ∙ ap turned (refuse-one (sym a ∙ e))
  as-refused e (entry.big T all a w n x c) = apart (sym a ∙ e)
  as-refused e (no_room T all a w n l x c) = apart (sym a ∙ e)
  as-refused e (replied T all a w n l x c) = apart (sym a ∙ e)

  as-big : (T : Table) (all : List (List ℕ)) → replies_of t p g ≡ read T → Replies g T.rows all → Large all
      → Replied t p g room room' r → replies_told r ≡ turned (refused reason.Big input.Goal 0)
  as-big T all e w n (refusal h a x c) = apart (sym e ∙ a)
  as-big T all e w n (entry.big T' all' a w' n' x c) = x
  as-big T all e w n (no_room T' all' a w' n' l' x c) = absurd (not-both (read_one (sym e ∙ a)) w w' n n')
  as-big T all e w n (replied T' all' a w' n' l' x c) = absurd (not-both (read_one (sym e ∙ a)) w w' n n')

  as-full : (T : Table) (all : List (List ℕ)) → replies_of t p g ≡ read T → Replies g T.rows all → All Short all
      → length room < length (flatten all)
      → Replied t p g room room' r → replies_told r ≡ turned (refused reason.Room input.Lent (length (flatten all)))
  as-full T all e w n l (refusal h a x c) = apart (sym e ∙ a)
  as-full T all e w n l (entry.big T' all' a w' n' x c) = absurd (not-both (read_one (sym a ∙ e)) w' w n' n)
  as-full T all e w n l (no_room T' all' a w' n' l' x c) =
      x ∙ ap (λ (y : List (List ℕ)). turned (refused reason.Room input.Lent (length (flatten y)))) (same-replies t p g a e w' w)
  as-full T all e w n l (replied T' all' a w' n' l' x c) =
      let q = ap (λ (y : List (List ℕ)). length (flatten y)) (same-replies t p g a e w' w) in
      absurd (let z : ⊥ = omega arith in z)

  turned-gets : Replied t p g room room' r → (f : Refused) → RepliesTurned t p g room f → replies_told r ≡ turned f
  turned-gets x f (bad-table e) = as-refused (asked-table t p g e) x
  turned-gets x f (bad-plan i h) = as-refused (asked-plan t p g (reads i) h) x
  turned-gets x f (bad-goal i tree h k) = as-refused (asked-goal t p g (reads i) (tree-read i tree h) k) x
  turned-gets x f (big {width = m} {rows} all i tree h k w n q) =
      as-big (table m rows) all (asked-read t p g (reads i) (tree-read i tree h) ((goal-accepted m g).1 k).1) w n x ∙ ap turned (sym q)
  turned-gets x f (bad-room {width = m} {rows} all i tree h k w n l q) =
      as-full (table m rows) all (asked-read t p g (reads i) (tree-read i tree h) ((goal-accepted m g).1 k).1) w n l x ∙ ap turned (sym q)

  untouched-by : Replied t p g room room' r → (f : Refused) → replies_told r ≡ turned f → room' ≡ room
  untouched-by (refusal h a x c) f e = c
  untouched-by (entry.big T all a w n x c) f e = c
  untouched-by (no_room T all a w n l x c) f e = c
  untouched-by (replied T all a w n l x c) f e = clash (sym x ∙ e)

  pub refuses-kept : Replied t p g room room' r → RepliesRefused t p g room room' (replies_told r)
  refuses-kept x = record { refuses = λ f. (turned-why x f, turned-gets x f); untouched = untouched-by x }

  says-kept : Replied t p g room room' r → Says t p g room room' (replies_told r)
  says-kept x width rows tree i h m = go x
    where
      asked : replies_of t p g ≡ read (table width rows)
      asked = asked-read t p g (reads i) (tree-read i tree h) ((goal-accepted width g).1 m).1

      go : Replied t p g room room' r → Said rows g room room' (replies_told r)
      go (refusal z a y c) = apart (sym asked ∙ a)
      go (entry.big T all a w n y c) = says-big (rows_of t p g a asked w) n y
      go (no_room T all a w n l y c) = says-full (rows_of t p g a asked w) n l y
      go (replied T all a w n l y c) = says_all (rows_of t p g a asked w) n l y c

module _ {t p g room room' : List ℕ} {n : ℕ} (x : RepliesCoded t p g room room' n) where
  pub request-203-refuses : RepliesRefused t p g room room' (decoded n)
  request-203-refuses = subst (RepliesRefused t p g room room') (sym (replies-back x)) (refuses-kept x.replied)

  pub request-203-says : Says t p g room room' (decoded n)
  request-203-says = subst (Says t p g room room') (sym (replies-back x)) (says-kept x.replied)

-- "fixed as cells": a row and a goal have one reply
pub request-203-fixed : {row goal xs ys : List ℕ} → Reply row goal xs → Reply row goal ys → xs ≡ ys
request-203-fixed = reply-one

-- a row of a table and a goal have something in common exactly when they unify
pub request-203-common : {w : ℕ} {row goal : List ℕ} → Row w row → IsGoal w goal → Matches row goal ↔ ((cells : List ℕ) × Common row goal cells)
request-203-common r g = (matches-common (head-below g.head), λ c. common-matches (head-below r) (head-below g.head) c.1)

-- "For each hit": as many replies as a run reports rows
replies-many : {goal : List ℕ} {rows all : List (List ℕ)} {f : ℕ} {found : List ℕ} → Picks (λ (row : List ℕ). Matches row goal) rows f found
    → Replies goal rows all → length found ≡ length all
replies-many runs.none none = refl
replies-many (runs.hit m p) (hit k r a) = ap suc (replies-many p a)
replies-many (runs.hit m p) (miss k a) = absurd (k m)
replies-many (runs.miss m p) (hit k r a) = absurd (m k)
replies-many (runs.miss m p) (miss k a) = replies-many p a

many-hits : {t p g bytes bytes' room room' : List ℕ} {a : Result RunCounts Refusal} {r : Result ReplyCounts Refusal} → Ran t p g bytes bytes' a
    → Replied t p g room room' r → (h n k m : ℕ) → run_told a ≡ answered h n → replies_told r ≡ answered k m → h ≡ k
many-hits (runs.refusal f e x c) y h n k m q s = clash (sym q ∙ x)
many-hits (runs.ran T tree found n' e w x u y c) (refusal f e' y' c') h n k m q s = clash (sym s ∙ y')
many-hits (runs.ran T tree found n' e w x u y c) (entry.big T' all e' w' o y' c') h n k m q s = clash (sym s ∙ y')
many-hits (runs.ran T tree found n' e w x u y c) (no_room T' all e' w' o l y' c') h n k m q s = clash (sym s ∙ y')
many-hits {t} {p} {g} (runs.ran T tree found n' e w x u y c) (replied T' all e' w' o l y' c') h n k m q s =
    let i = (run-takes e).table in
    let j = (replies-take t p g e').0 in
    let z = ap (λ (X : Table). X.rows) (read_one (sym j ∙ i)) in
    let a = (answered-one (sym q ∙ y)).0 in
    let b = (answered-one (sym s ∙ y')).0 in
    a ∙ replies-many x (subst (λ (rows : List (List ℕ)). Replies g rows all) z w') ∙ sym b

pub request-203-hits : {t p g bytes bytes' room room' : List ℕ} {a r : ℕ} → RunCoded t p g bytes bytes' a → RepliesCoded t p g room room' r
    → (h n k m : ℕ) → decoded a ≡ answered h n → decoded r ≡ answered k m → h ≡ k
request-203-hits x y h n k m q s = many-hits x.ran y.replied h n k m (sym (run-back x) ∙ q) (sym (replies-back y) ∙ s)
