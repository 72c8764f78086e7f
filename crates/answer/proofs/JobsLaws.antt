-- What a list of goals becomes is one list, and each of its records is what a run of that goal alone gives, in any room that is enough.
use Rattle.std.specs.Prelude.{Result, Ok, Err}
use Rattle.answer.specs.declared.RunCounts.{RunCounts}
use Rattle.refusal.specs.declared.Refusal.{Refusal}
use Prim.Native.Nat.{ℕ, ◌≤◌}
use mathlib.Core.Path.{◌≡◌, refl, sym, ◌∙◌, ap, ap₂}
use mathlib.Core.List.{List, ◌∷◌, ◌++◌}
use native.Mathlib.Omega.{arith}
use lib.ListN.{length, drop, replicate, length-replicate}
use lib.Seq.{take-append_seam}
use Rattle.refusal.specs.Refusal.{Refused, told, Answer, answered, turned}
use Rattle.refusal.specs.Read.{Read, read, refuse}
use Rattle.table.specs.Table.{Table, table_of, goal_of}
use Rattle.table.proofs.Accepted.{is-table}
use Rattle.table.proofs.ReadLaws.{apart, read_one}
use Rattle.plan.specs.Check.{plan_of}
use Rattle.answer.specs.Run.{run_of, run_told, Ran, ran}
use Rattle.answer.specs.Run as run
use Rattle.answer.specs.Jobs.{bits_of, filled, entered, Asked, outside, alone, Each, nil, cons, JobsRun, refusal, asked}
use Rattle.answer.specs.declared.Job.{Job}
use Rattle.answer.proofs.Fixed.{run_told-one, run-fixed}
use Rattle.answer.proofs.TakesLaws.{takes_run, run-table, run-plan, run-goal}

-- two lists that each record of a list becomes
pub each-one : {A : Type 0} {P : A → A → Type 0} → ((x y z : A) → P x y → P x z → y ≡ z) → {xs ys zs : List A} → Each P xs ys → Each P xs zs → ys ≡ zs
each-one f nil nil = refl
each-one {A} f (cons {x} {y} p u) (cons {y = z} q v) = ap₂ (λ (a : A) (l : List A). a ∷ l) (f x y z p q) (each-one f u v)

pub each_map : {A : Type 0} {P Q : A → A → Type 0} → ((x y : A) → P x y → Q x y) → {xs ys : List A} → Each P xs ys → Each Q xs ys
each_map f nil = nil
each_map f (cons {x} {y} p u) = cons (f x y p) (each_map f u)

-- one record
pub asked-fixed : {t p cells : List ℕ} {j k l : Job} → Asked t p cells j k → Asked t p cells j l → k ≡ l
asked-fixed (outside h e) (outside h' e') = e ∙ sym e'
asked-fixed (outside h e) (alone room r h' x e') = absurd (let z : ⊥ = omega arith in z)
asked-fixed (alone room r h x e) (outside h' e') = absurd (let z : ⊥ = omega arith in z)
asked-fixed {j = j} (alone room r h x e) (alone room' r' h' x' e') =
    let f = run-fixed x x' in
    e ∙ ap₂ (λ (s : Result RunCounts Refusal) (l : List ℕ). entered j s l) f.0 f.1 ∙ sym e'

-- run_jobs
pub jobs-fixed : {t p cells : List ℕ} {jobs jobs' jobs'' : List Job} {a b : Answer} → JobsRun t p cells jobs jobs' a → JobsRun t p cells jobs jobs'' b
    → (a ≡ b) × (jobs' ≡ jobs'')
jobs-fixed (refusal f d e g) (refusal f' d' e' g') = (let q : f ≡ f' = cc in e ∙ ap turned q ∙ sym e', g ∙ sym g')
jobs-fixed (refusal f d e g) (asked n d' e' g') = apart (sym d' ∙ d)
jobs-fixed (asked n d e g) (refusal f' d' e' g') = apart (sym d ∙ d')
jobs-fixed (asked n d e g) (asked n' d' e' g') =
    (e ∙ ap (λ (z : ℕ). answered z 0) (read_one (sym d ∙ d')) ∙ sym e', each-one (λ x y z p q. asked-fixed p q) g g')

-- "It equals asking one by one": in any room that has a byte for each row of the table.

pub record Enough (t room : List ℕ) : Type 0 where
  pub for-rows : (T : Table) → table_of t ≡ read T → length T.rows ≤ length room

pub enough-64 : (t : List ℕ) → Enough t (replicate 64 0)
enough-64 t = record { for-rows = λ T e. omega (arith, (is-table t e).count.1, length-replicate {A = ℕ} 64 0) }

-- a run is turned away or not, whatever such room it has
any-room-takes : (t p g : List ℕ) {room room' : List ℕ} → Enough t room → Enough t room' → run_of t p g room ≡ run_of t p g room'
any-room-takes t p g {room} {room'} l l' = go (table_of t) refl (plan_of t p) refl
  where
    with-goal : (T : Table) → table_of t ≡ read T → (n : ℕ) → plan_of t p ≡ read n → (x : Read ℕ) → goal_of T.width g ≡ x → run_of t p g room ≡ run_of t p g room'
    with-goal T d n e (read v) h =
        takes_run (record { table = d; branches = n; plan = e; variables = v; goal = h; room_for = l.for-rows T d })
        ∙ sym (takes_run (record { table = d; branches = n; plan = e; variables = v; goal = h; room_for = l'.for-rows T d }))
    with-goal T d n e (refuse f) h = run-goal t p g room d e h ∙ sym (run-goal t p g room' d e h)

    go : (x : Read Table) → table_of t ≡ x → (y : Read ℕ) → plan_of t p ≡ y → run_of t p g room ≡ run_of t p g room'
    go (refuse f) d y e = run-table t p g room d ∙ sym (run-table t p g room' d)
    go (read T) d (refuse f) e = run-plan t p g room d e ∙ sym (run-plan t p g room' d e)
    go (read T) d (read n) e = with-goal T d n e (goal_of T.width g) refl

-- what is entered of a refusal, and of hits
pub entered-refused : (j : Job) (r : Result RunCounts Refusal) (f : Refused) (room : List ℕ) → run_told r ≡ turned f → entered j r room ≡ filled j f.number f.place 0 0
entered-refused j (Ok n) f room e = absurd (let z : ◌≡◌ {A = ℕ} 0 1 = cc in let y : ⊥ = omega arith in y)
entered-refused j (Err h) f room e = let q : told h ≡ f = cc in ap (λ (x : Refused). filled j x.number x.place 0 0) q

pub entered-found : (j : Job) (r : Result RunCounts Refusal) (found rest : List ℕ) (n : ℕ) → run_told r ≡ answered (length found) n
    → entered j r (found ++ rest) ≡ filled j 0 0 (bits_of found) n
entered-found j r found rest n e =
    ap (λ (s : Result RunCounts Refusal). entered j s (found ++ rest)) (run_told-one r (Ok (record { hits = length found; tried = n })) e)
    ∙ ap (λ (l : List ℕ). filled j 0 0 (bits_of l) n) (take-append_seam found rest)

-- a run in one room is one in any other, with the same answer and the same record
moved : {t p g room room₁ : List ℕ} {r : Result RunCounts Refusal} (other : List ℕ) → Enough t room → Enough t other → Ran t p g room room₁ r → (j : Job)
    → (other₁ : List ℕ) × Ran t p g other other₁ r × (entered j r other₁ ≡ entered j r room₁)
moved {t} {p} {g} {r = r} other l l' (run.refusal f a b c) j =
    (other, run.refusal f (any-room-takes t p g l' l ∙ a) b refl, entered-refused j r f other b ∙ sym (entered-refused j r f _ b))
moved {t} {p} {g} {room} {r = r} other l l' (ran T tree found n a e w u b c) j =
    let same = entered-found j r found (drop (length found) other) n b ∙ sym (entered-found j r found (drop (length found) room) n b) in (
      found ++ drop (length found) other,
      ran T tree found n (any-room-takes t p g l' l ∙ a) e w u b refl,
      same ∙ ap (entered j r) (sym c),
    )

pub any-room : {t p g room room₁ other other₁ : List ℕ} {r s : Result RunCounts Refusal} → Enough t room → Enough t other → Ran t p g room room₁ r
    → Ran t p g other other₁ s → (j : Job)
    → entered j r room₁ ≡ entered j s other₁
any-room {r = r} l l' x y j =
    let m = moved _ l l' x j in
    let f = run-fixed m.1 y in
    sym m.2 ∙ ap₂ (λ (a : Result RunCounts Refusal) (b : List ℕ). entered j a b) f.0 f.1
