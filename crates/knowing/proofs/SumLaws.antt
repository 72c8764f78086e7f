-- W-214 of what the promises of a run and of a list of goals say: `Ran` for run_plan, `Asked` and `JobsRun` for run_jobs (crate answer).
use Rattle.std.specs.Prelude.{Result, Ok, Err}
use Rattle.answer.specs.declared.RunCounts.{RunCounts}
use Rattle.refusal.specs.declared.Refusal.{Refusal}
use Prim.Native.Nat.{ℕ, zero, suc, ◌+◌, ◌%◌, ◌/◌, ◌^◌, ◌≤◌, ◌<◌}
use mathlib.Core.Path.{◌≡◌, refl, sym, ◌∙◌, ap, subst}
use mathlib.Core.Logic.{◌↔◌, ◌⊎◌, inl, inr, ⊎_elim}
use mathlib.Core.Bool.{true, false}
use mathlib.Core.List.Memᴰ
use mathlib.Core.List.{List, [], ◌∷◌, ◌++◌, Memᴰ}
use native.Mathlib.Omega.{arith}
use lib.Dec.{eqb}
use lib.ListN.{length, get_or, drop, replicate, length-replicate}
use lib.Seq.{take-append_seam}
use borrow.Author.Tests.{eqb-true}
use Rattle.term.proofs.Tests.{bool_cases}
use Rattle.term.specs.Unify.{Matches}
use Rattle.refusal.specs.Refusal.{Answer, answered}
use Rattle.refusal.specs.Read.{read}
use Rattle.table.specs.Table.{Table, table, table_of, count, IsTable, IsGoal}
use Rattle.table.proofs.Accepted.{table-accepted, is-goal, goal-is}
use Rattle.table.proofs.ReadLaws.{apart, read_one}
use Rattle.plan.specs.Check.{plan_of}
use Rattle.answer.specs.Run.{Picks, Counts, Tried, Ascends, done, more_of, run_of, run_told, Ran, refusal, ran}
use Rattle.answer.specs.Jobs.{bits_of, bit, filled, entered, Asked, outside, alone, Each, nil, cons}
use Rattle.answer.specs.declared.Job.{Job}
use Rattle.answer.proofs.Fixed.{skeletons-one}
use Rattle.answer.proofs.Theorems.{picked, picks-ascend}
use Rattle.answer.proofs.TakesLaws.{run-takes, takes_run}
use Rattle.answer.proofs.CountLaws.{count-mem, mem-count, no-count}
use Rattle.answer.proofs.BitsLaws.{bits-mem}
use Rattle.answer.proofs.JobsLaws.{Enough, enough-64, any-room}
use Rattle.instance.specs.Instance.{Instance}
use Rattle.knowing.specs.Knowing.{Among, hit_count, total_tried, reported, tried_of, Singles, past, single, times_in, sum}
use Rattle.knowing.specs.Knowing.{CountsJobs, zero_of, one_of, none_of, Hit}
use Rattle.knowing.specs.Knowing as knowing
use Rattle.knowing.proofs.WiderLaws.{knowing-more}

-- What is reported of a run that found these rows.
pub found-reported : (found room : List ℕ) {a : Answer} {after : List ℕ} {n : ℕ} → a ≡ answered (length found) n
    → after ≡ found ++ drop (length found) room → (reported a after ≡ found) × (tried_of a ≡ n)
found-reported found room e c = (rw (e, c) (take-append_seam found (drop (length found) room)), rw e)

-- TWO RUNS. "If one accepted goal is an instance of another, for the same table and any accepted plan, its hit rows are among the other's, in
-- the same order, and it tries no more branches": of two answers that the promise of a run allows, in any two rooms.
pub run_more : {t p wide narrow room after other after' : List ℕ} {r s : Result RunCounts Refusal} {h n h' n' : ℕ} → Instance wide narrow
    → Ran t p wide room after r → Ran t p narrow other after' s → run_told r ≡ answered h n → run_told s ≡ answered h' n'
    → Among (reported (run_told s) after') (reported (run_told r) after) × (tried_of (run_told s) ≤ tried_of (run_told r))
run_more i (refusal f a b c) y e e' = absurd (let z : ◌≡◌ {A = ℕ} 0 1 = cc in let y : ⊥ = omega arith in y)
run_more i (ran T tree found n a w v u b c) (refusal f a' b' c') e e' =
    absurd (let z : ◌≡◌ {A = ℕ} 0 1 = cc in let y : ⊥ = omega arith in y)
run_more {t} {wide = wide} {narrow} {room} {other = other} i (ran T tree found m a w v u b c) (ran T' tree' found' m' a' w' v' u' b' c') e e' =
    let k = run-takes a in
    let k' = run-takes a' in
    let q : T' ≡ T = read_one (sym k'.table ∙ k.table) in
    let s = skeletons-one (ap (λ (x : Table). x.width) q) (ap (λ (x : Table). x.rows) q) tree' tree (sym w' ∙ w) in
    let g = (is-goal T.width wide k.goal).0 in
    let g' = subst (λ (x : Table). IsGoal x.width narrow) q (is-goal T'.width narrow k'.goal).0 in
    let v'' = subst (λ (x : Table). Picks (λ (row : List ℕ). Matches row narrow) x.rows 0 found') q v' in
    let u'' = subst (λ (l : List (List ℕ)). Counts (Tried narrow) l m') s u' in
    let it = (table-accepted t T.width T.rows).0 k.table in
    let x = knowing-more it tree g g' i v v'' u u'' in
    let f = found-reported found room b c in
    let f' = found-reported found' other b' c' in
    (rw (f.0, f'.0) x.0, rw (f.1, f'.1) x.1)

-- A LIST. One record adds to a row's count what the single run reports of it, and to the total what it tried.

ascends-above : {f x : ℕ} {xs : List ℕ} → Ascends f xs → Memᴰ x xs → f ≤ x
ascends-above done m = absurd (Memᴰ.not-nil m)
ascends-above (more_of l a) m = ⊎_elim (λ e. omega arith) (λ q. let i = ascends-above a q in omega arith) (Memᴰ.cases_cons m)

-- in a list that ascends each number stands once at most
once-at-most : {f : ℕ} (r : ℕ) {xs : List ℕ} → Ascends f xs → count r xs ≤ 1
unfolding count
once-at-most r done = omega arith
once-at-most r (more_of {x = x} {xs = xs} l a) = go (bool_cases (eqb r x)) (once-at-most r a)
  where
    go : (eqb r x ≡ true) ⊎ (eqb r x ≡ false) → count r xs ≤ 1 → count r (x ∷ xs) ≤ 1
    go (inl e) h =
        let q : r ≡ x = eqb-true r x e in
        let z : count r xs ≡ 0 = no-count r xs (λ m. (let i = ascends-above a m in omega arith)) in
        rw e (omega arith)
    go (inr e) h = rw e (omega arith)

-- so a bit is how often the row is reported
pub bit-count : (r : ℕ) (hs : List ℕ) → Ascends 0 hs → bit r (bits_of hs) ≡ count r hs
bit-count r hs a = go (count r hs) refl
  where
    zero-or-one : (x : ℕ) → ¬ (x % 2 ≡ 1) → x % 2 ≡ 0
    zero-or-one x n = small (x % 2) (omega arith) n
      where
        small : (y : ℕ) → y < 2 → ¬ (y ≡ 1) → y ≡ 0
        small zero l n = refl
        small (suc zero) l n = absurd (n refl)
        small (suc (suc y)) l n = absurd (omega arith)

    go : (k : ℕ) → count r hs ≡ k → bit r (bits_of hs) ≡ k
    go zero e = zero-or-one (bits_of hs / 2 ^ r) (λ b. (let m = count-mem r ((bits-mem r hs a).0 b) in let z : ⊥ = omega arith in z))
    go (suc k) e = (bits-mem r hs a).1 (mem-count r hs (omega arith)) ∙ (let l = once-at-most r a in omega arith)

-- what a run reports ascends: demand 2, "from the top down, each once"
reported-ascends : {t p g room after : List ℕ} {r : Result RunCounts Refusal} → Ran t p g room after r → Ascends 0 (reported (run_told r) after)
reported-ascends (refusal f a b c) = rw b done
reported-ascends {room = room} (ran T tree found n a w v u b c) = rw (found-reported found room b c).0 (picks-ascend v).0

-- a record holds the bits of what its run reports, and what it tried
entered-holds : (j : Job) (r : Result RunCounts Refusal) (room : List ℕ)
    → ((entered j r room).hits ≡ bits_of (reported (run_told r) room)) × ((entered j r room).tried ≡ tried_of (run_told r))
unfolding bits_of
entered-holds j (Ok n) room = (refl, refl)
entered-holds j (Err f) room = (refl, refl)

record-holds : {t p g room after : List ℕ} {r : Result RunCounts Refusal} (j : Job) {k : Job} → k ≡ entered j r after → Ran t p g room after r → (row : ℕ)
    → (bit row k.hits ≡ count row (reported (run_told r) after)) × (k.tried ≡ tried_of (run_told r))
record-holds {after = after} {r} j e x row =
    let o = entered-holds j r after in (
      ap (λ (y : Job). bit row y.hits) e ∙ ap (bit row) o.0 ∙ bit-count row (reported (run_told r) after) (reported-ascends x),
      ap (λ (y : Job). y.tried) e ∙ o.1,
    )

past-holds : (j : Job) {k : Job} {n : ℕ} → k ≡ filled j n 0 0 0 → (row : ℕ) → (bit row k.hits ≡ 0) × (k.tried ≡ 0)
unfolding bits_of count
past-holds j e row = (ap (λ (y : Job). bit row y.hits) e ∙ bit-count row [] done, ap (λ (y : Job). y.tried) e)

module _ (t p lent : List ℕ) {width : ℕ} {rows : List (List ℕ)} (it : IsTable t width rows) where
  accepted : table_of t ≡ read (table width rows)
  accepted = (table-accepted t width rows).1 it

  enough : {room : List ℕ} → length rows ≤ length room → Enough t room
  enough {room} l = record { for-rows = λ T d. subst (λ (x : Table). length x.rows ≤ length room) (read_one (sym accepted ∙ d)) l }

  few : length rows ≤ length (replicate {A = ℕ} 64 0)
  few = omega (arith, it.count.1, length-replicate {A = ℕ} 64 0)

  -- "each row's hit count and the total tried over a W-202 list as exact sums of the single runs": a record is the single run's, whatever room
  -- that had (W-202, "It equals asking one by one")
  pub sums : {jobs jobs' : List Job} {found : List (List ℕ)} {tried : List ℕ} → Each (Asked t p lent) jobs jobs'
      → Singles t p lent (length rows) jobs found tried → (row : ℕ) → (hit_count row jobs' ≡ times_in row found) × (total_tried jobs' ≡ sum tried)
  unfolding hit_count total_tried times_in sum count
  sums nil knowing.done row = (refl, refl)
  sums (cons {x = j} (outside l e) u) (past m v) row =
      let o = past-holds j e row in
      let i = sums u v row in
      (omega (arith, o.0, i.0), omega (arith, o.1, i.1))
  sums (cons (outside l e) u) (single m room after r k x v) row = absurd (let z : ⊥ = omega arith in z)
  sums (cons (alone other s l y e) u) (past m v) row = absurd (let z : ⊥ = omega arith in z)
  sums (cons {x = j} (alone other s l y e) u) (single m room after r k x v) row =
      let o = record-holds j (e ∙ any-room (enough-64 t) (enough k) y x j) x row in
      let i = sums u v row in
      (omega (arith, o.0, i.0), omega (arith, o.1, i.1))

  -- and such single runs there are: those in 64 bytes
  pub singles-there : {jobs jobs' : List Job} → Each (Asked t p lent) jobs jobs'
      → (found : List (List ℕ)) × (tried : List ℕ) × Singles t p lent (length rows) jobs found tried
  singles-there nil = ([], [], knowing.done)
  singles-there (cons (outside l e) u) = let i = singles-there u in ([] ∷ i.0, 0 ∷ i.1, past l i.2)
  singles-there (cons (alone room r l x e) u) =
      let i = singles-there u in
      (reported (run_told r) room ∷ i.0, tried_of (run_told r) ∷ i.1, single l (replicate 64 0) room r few x i.2)

  -- THE SAME BY MEANING. Where the plan is accepted too, a run reports a row exactly when the goal is one and the row unifies with it.
  module _ {b : ℕ} (d : plan_of t p ≡ read b) (row : ℕ) where
    abbrev Fits : List ℕ → Type 0
    Fits g = IsGoal width g × (row < length rows) × Matches (get_or rows row []) g

    run-hit : {g room after : List ℕ} {r : Result RunCounts Refusal} → length rows ≤ length room → Ran t p g room after r
        → Memᴰ row (reported (run_told r) after) ↔ Fits g
    run-hit {g} {room} l (refusal f a e c) =
        let read-it : IsGoal width g → run_of t p g room ≡ read (table width rows) =
        λ i. takes_run (record { table = accepted; branches = b; plan = d; variables = _; goal = goal-is width g i; room_for = l }) in
        rw e (λ m. absurd (Memᴰ.not-nil m), λ x. apart (sym (read-it x.0) ∙ a))
    run-hit {g} {room} l (ran T tree found n a w v u e c) =
        let k = run-takes a in
        let q : T ≡ table width rows = read_one (sym k.table ∙ accepted) in
        let v' = subst (λ (x : Table). Picks (λ (row : List ℕ). Matches row g) x.rows 0 found) q v in
        let g' = subst (λ (x : Table). IsGoal x.width g) q (is-goal T.width g k.goal).0 in
        rw (found-reported found room e c).0 (at_row v' g')
      where
        at_row : {found : List ℕ} → Picks (λ (row : List ℕ). Matches row g) rows 0 found → IsGoal width g → Memᴰ row found ↔ Fits g
        at_row v h =
            let z : 0 + row ≡ row = omega arith in (
              λ m. (let l : row < length rows = omega (arith, (picks-ascend v).1 row m) in (h, l, (picked v row l).0 (rw z m))),
              λ x. rw z at ((picked v row x.1).1 x.2),
            )

    -- one record: its bit is set and the row fits, or neither
    data Tells (j : Job) : ℕ → Type 0 where
      yes : Hit lent width rows row j → Tells j 1
      no : ¬ Hit lent width rows row j → Tells j 0

    tells : {j k : Job} → Asked t p lent j k → Tells j (bit row k.hits)
    tells {j} (outside l e) = rw (past-holds j e row).0 (no (λ h. absurd (let z : ⊥ = omega (arith, h.lies) in z)))
    tells {j} (alone room r l x e) = rw (record-holds j e x row).0 (go (count row (reported (run_told r) room)) refl)
      where
        go : (n : ℕ) → count row (reported (run_told r) room) ≡ n → Tells j n
        go zero z = no (λ h. (let m = count-mem row ((run-hit few x).1 (h.goal, h.there, h.fits)) in let w : ⊥ = omega arith in w))
        go (suc zero) z =
            let f = (run-hit few x).0 (mem-count row (reported (run_told r) room) (omega arith)) in
            yes (record { lies = l; goal = f.0; there = f.1; fits = f.2 })
        go (suc (suc n)) z = absurd (let o = once-at-most row (reported-ascends x) in omega arith)

    counted : {j : Job} {jobs : List Job} {k n : ℕ} → Tells j k → CountsJobs (Hit lent width rows row) jobs n
        → CountsJobs (Hit lent width rows row) (j ∷ jobs) (k + n)
    counted {n = n} (yes h) c = let z : 1 + n ≡ suc n = omega arith in rw z (one_of h c)
    counted {n = n} (no h) c = let z : 0 + n ≡ n = omega arith in rw z (none_of h c)

    -- so a row's hit count is the number of the list's goals that it unifies with
    pub means : {jobs jobs' : List Job} → Each (Asked t p lent) jobs jobs' → CountsJobs (Hit lent width rows row) jobs (hit_count row jobs')
    unfolding hit_count
    means nil = zero_of
    means (cons a u) = counted (tells a) (means u)
