-- W-202 (specs/Shift), proved of what the entry promises: `JobsRun t p cells jobs jobs' answer`.
use Rattle.std.specs.Prelude.{Result, Ok, Err}
use Rattle.answer.specs.declared.RunCounts.{RunCounts}
use Rattle.refusal.specs.declared.Refusal.{Refusal}
use Prim.Native.Nat.{ℕ, ◌≤◌, ◌<◌}
use mathlib.Core.Path.{◌≡◌, refl, sym, ◌∙◌, ap, subst}
use mathlib.Core.Logic.{◌↔◌}
use mathlib.Core.List.{List, [], ◌∷◌, Memᴰ}
use native.Mathlib.Omega.{arith}
use lib.ListN.{length, drop, replicate, length-replicate}
use Rattle.refusal.specs.Refusal.{Refused, Answer, turned}
use Rattle.refusal.specs.Read.{refuse}
use Rattle.table.specs.All.{All}
use Rattle.table.specs.Table.{Table, goal_of, IsTable, IsGoal}
use Rattle.table.proofs.ReadLaws.{apart, read_one}
use Rattle.plan.specs.Plans.{Plan, write}
use Rattle.plan.specs.Check.{plan_of}
use Rattle.checker.specs.Checked.{plan_says}
use Rattle.answer.specs.declared.Job.{Job}
use Rattle.answer.specs.Skeleton.{hole}
use Rattle.answer.specs.Run.{Counts, skeletons, Tried, Ran}
use Rattle.answer.specs.Jobs.{bits_of, filled, entered, Asked, outside, alone, Each, JobsRun, refusal, asked}
use Rattle.answer.proofs.BitsLaws.{bits-mem, bits-few}
use Rattle.answer.proofs.JobsLaws.{each_map, Enough, any-room, enough-64, entered-refused, entered-found}
use Rattle.shift.proofs.Fixed.{jobs-told}
use Rattle.demands.specs.Demands.{bad-goal}
use Rattle.demands.specs.Shift.{JobHolds, JobAnswered, OneJob, Shift}
use Rattle.demands.proofs.Cited.{reads, tree-read, plan-kept, run-kept, run-answers}

-- What a record holds.

holds : (j : Job) {k : Job} {n p h t : ℕ} → k ≡ filled j n p h t → JobHolds k n p h t
holds j e = record {
  number_is = ap (λ (x : Job). x.number) e;
  place_is = ap (λ (x : Job). x.place) e;
  hits-is = ap (λ (x : Job). x.hits) e;
  tried-is = ap (λ (x : Job). x.tried) e;
}

entered-stays : (j : Job) (r : Result RunCounts Refusal) (room : List ℕ) → ((entered j r room).start ≡ j.start) × ((entered j r room).count ≡ j.count)
entered-stays j (Ok n) room = (refl, refl)
entered-stays j (Err f) room = (refl, refl)

all-below : (n : ℕ) (xs : List ℕ) → ((x : ℕ) → Memᴰ x xs → x < n) → All (λ x. x < n) xs
all-below n [] h = tt
all-below n (x ∷ xs) h = (h x (Memᴰ.head refl), all-below n xs (λ y m. h y (Memᴰ.tail m)))

-- One record, where table and plan are accepted.
module _ (t p : List ℕ) {width : ℕ} {rows : List (List ℕ)} (i : IsTable t width rows) (tree : Plan width rows) (w : write tree ≡ p) where
  few-rows : length rows ≤ 64
  few-rows = i.count.1

  enough : (room : List ℕ) → length rows ≤ length room → Enough t room
  enough room l = record { for-rows = λ T d. subst (λ (y : Table). length y.rows ≤ length room) (read_one (sym (reads i) ∙ d)) l }

  module _ {g room : List ℕ} {r : Result RunCounts Refusal} (x : Ran t p g (replicate 64 0) room r) (j : Job) {k : Job} (is : k ≡ entered j r room) where
    refused-holds : (f : Refused) → goal_of width g ≡ refuse f → JobHolds k f.number f.place 0 0
    refused-holds f h = holds j (is ∙ entered-refused j r f room (((run-kept x).refuses f).1 (bad-goal i tree w h)))

    answered-holds : IsGoal width g → JobAnswered tree g k
    answered-holds h =
        let l = length-replicate {A = ℕ} 64 0 in
        let a = run-answers x width rows tree i w h (omega (arith, few-rows, l)) in
        let q : k ≡ filled j 0 0 (bits_of a.found) a.tried =
        is ∙ ap (entered j r) a.wrote ∙ entered-found j r a.found (drop (length a.found) (replicate 64 0)) a.tried a.told in
        let o = holds j q in
        let low = all-below 64 a.found (λ y m. omega (arith, ((a.exactly y).0 m).0, few-rows)) in
        record {
          number-zero = o.number_is;
          place-zero = o.place_is;
          bits = rw o.hits-is (bits-few 64 a.ascends low);
          hit-rows = λ z. let b = bits-mem z a.found a.ascends in rw o.hits-is (λ s. (a.exactly z).0 (b.0 s), λ m. b.1 ((a.exactly z).1 m));
          branches = subst (Counts (Tried g) (skeletons tree (replicate width hole))) (sym o.tried-is) a.branches;
        }

  one-job : {cells : List ℕ} {j k : Job} → Asked t p cells j k → OneJob t p cells tree j k
  one-job {j = j} (outside l q) = record {
    start-stays = ap (λ (x : Job). x.start) q;
    count-stays = ap (λ (x : Job). x.count) q;
    past = λ h. holds j q;
    equals = λ h. absurd (let z : ⊥ = omega arith in z);
    refused = λ h. absurd (let z : ⊥ = omega arith in z);
    answers = λ h. absurd (let z : ⊥ = omega arith in z);
  }
  one-job {j = j} (alone room r l x q) =
      let s = entered-stays j r room in
      record {
        start-stays = ap (λ (y : Job). y.start) q ∙ s.0;
        count-stays = ap (λ (y : Job). y.count) q ∙ s.1;
        past = λ h. absurd (let z : ⊥ = omega arith in z);
        equals = λ h other other' r' m y. q ∙ any-room (enough-64 t) (enough other m) x y j;
        refused = λ h. refused-holds x j q;
        answers = λ h. answered-holds x j q;
      }

-- The whole list.
module _ {t p cells : List ℕ} {jobs jobs' : List Job} {a : Answer} where
  pub w-202 : JobsRun t p cells jobs jobs' a → Shift t p cells jobs jobs' a
  w-202 x = record {
    refuses = told;
    untouched = left x;
    accepts = λ b e. jobs-told x ∙ ap plan_says e;
    each = λ width rows tree i w. all x i tree w;
  }
    where
      told : (f : Refused) → (a ≡ turned f) ↔ (plan_of t p ≡ refuse f)
      told f = let k = (plan-kept t p).refuses f in (λ e. k.0 (sym (jobs-told x) ∙ e), λ e. jobs-told x ∙ k.1 e)

      left : JobsRun t p cells jobs jobs' a → (f : Refused) → a ≡ turned f → jobs' ≡ jobs
      left (refusal g d q c) f e = c
      left (asked n d q c) f e = apart (sym d ∙ (told f).0 e)

      all : JobsRun t p cells jobs jobs' a → {width : ℕ} {rows : List (List ℕ)} → IsTable t width rows → (tree : Plan width rows)
          → write tree ≡ p → Each (OneJob t p cells tree) jobs jobs'
      all (refusal g d q c) i tree w = apart (sym (tree-read i tree w) ∙ d)
      all (asked n d q c) i tree w = each_map (λ j k y. one-job t p i tree w y) c
