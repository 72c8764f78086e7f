-- A goal of a list whose replies are wanted: what its record and the room are, for each way the code returns.
use Rattle.std.specs.Prelude.{Result, Ok, Err}
use Rattle.instance.specs.declared.ReplyCounts.{ReplyCounts}
use Rattle.answer.specs.declared.RunCounts.{RunCounts}
use Prim.Native.Nat.{ℕ, ◌+◌, ◌-◌, ◌≤◌, ◌<◌}
use mathlib.Core.Path.{◌≡◌, refl, sym, ◌∙◌, ap, subst}
use mathlib.Core.List.{List, ◌++◌, append-nil}
use native.Mathlib.Omega.{arith}
use lib.ListN.{length, take, drop, replicate, length-replicate, length-drop, take-append-drop, drop_of_length-le}
use lib.Seq.{take_all}
use Rattle.refusal.specs.Refusal.{Refused, told, reason_number, turned}
use Rattle.refusal.specs.declared.Reason.TheVariants as reason
use Rattle.refusal.specs.declared.Refusal.{Refusal}
use Rattle.table.specs.Table.{table_of, starts_in}
use Rattle.table.proofs.ReadLaws.{apart}
use Rattle.plannotes.specs.Noted.{NotedInto, noted, refused}
use Rattle.plannotes.specs.declared.Noted.{Noted}
use Rattle.answer.specs.Run.{Ran}
use Rattle.answer.specs.Run as runs
use Rattle.answer.specs.Jobs.{bits_of}
use Rattle.answer.proofs.TakesLaws.{run-takes}
use Rattle.instance.specs.Replied.{Replied, replies_told, refusal, big, no_room, replied}
use Rattle.instance.specs.ReplyJobs.{declined, reply_filled, goal_of_job, ReplyAsked}
use Rattle.instance.specs.ReplyJobs as asks
use Rattle.instance.specs.declared.ReplyJob.{ReplyJob}
use Rattle.instance.specs.code.Passes.{Held}
use Rattle.replies.proofs.AskedLaws.{refused-by}
use Rattle.replyjobs.specs.code.Shift.{Placed, no_place, placed}

-- The replies of the hits, from the record's place on.

-- what is turned away leaves the room as it was
pub turned_same : {t p g room after : List ℕ} {r : Result ReplyCounts Refusal} {f : Refused} → Replied t p g room after r → replies_told r ≡ turned f → after ≡ room
turned_same (refusal f a b c) e = c
turned_same (big T all a w l b c) e = c
turned_same (no_room T all a w s l b c) e = c
turned_same (replied T all a w s l b c) e = absurd (let z : ◌≡◌ {A = ℕ} 0 1 = cc in let y : ⊥ = omega arith in y)

-- the part of the room from a place on, as the code takes it, and the room with the part put back
module _ {t p g after : List ℕ} {r : Result ReplyCounts Refusal} (room : List ℕ) (on : ℕ) (j : ReplyJob) (o : on ≡ j.at)
    (x : Replied t p g (take (length room - on) (drop on room)) after r) where
  there : Replied t p g (drop on room) after r
  there = subst (λ (l : List ℕ). Replied t p g l after r) (take_all (length room - on) (drop on room) (omega (arith, length-drop on room))) x

  here : Replied t p g (drop j.at room) after r
  here = subst (λ (n : ℕ). Replied t p g (drop n room) after r) o there

  back : take on room ++ (after ++ drop (length room - on) (drop on room)) ≡ take on room ++ after
  back =
      let e = drop_of_length-le (drop on room) {i = length room - on} (omega (arith, length-drop on room)) in
      ap (λ (l : List ℕ). take on room ++ l) (ap (λ (l : List ℕ). after ++ l) e ∙ append-nil after)

  pub not-placed : {f : Refusal} {k : ReplyJob} → r ≡ Err f → k ≡ declined j (reason_number f.reason) f.place
      → Placed t p g room (take on room ++ (after ++ drop (length room - on) (drop on room))) j k
  not-placed {f} d e =
      let q : replies_told r ≡ turned (told f) = ap replies_told d in
      no_place (told f) after r here q e (back ∙ ap (λ (l : List ℕ). take on room ++ l) (turned_same there q) ∙ take-append-drop on room)

  pub placed-there : {many size : ℕ} → r ≡ Ok (record { replies = many; cells = size })
      → Placed t p g room (take on room ++ (after ++ drop (length room - on) (drop on room))) j (reply_filled j 0 0 j.at many size j.hits j.tried)
  placed-there {many} {size} d = placed many size after r here (ap replies_told d) refl (back ∙ ap (λ (n : ℕ). take n room ++ after) o)

-- The goal.

-- where a run has answered, the table is held
pub held_by : {t p before numbers starts g bytes bytes' : List ℕ} {m : Noted} {r : Result RunCounts Refusal} {h n : ℕ} → NotedInto t p before numbers m
    → starts ≡ starts_in (table_of t) → r ≡ Ok (record { hits = h; tried = n }) → Ran t p g bytes bytes' r → Held t starts m.rows
held_by (noted T tree e c a w n k) b d x = record { is = T; reads = e; begin = b; many = sym n }
held_by (refused f e a w n k) b d (runs.refusal f' e' q z) = absurd (let o : ◌≡◌ {A = ℕ} 0 1 = cc in let y : ⊥ = omega arith in y)
held_by (refused f e a w n k) b d (runs.ran T tree found i e' c u v q z) = apart (sym (run-takes e').plan ∙ e)

-- the part of the cells from the start to the sum is the goal
pub job-goal : (cells : List ℕ) (j : ReplyJob) → take (j.start + j.count - j.start) (drop j.start cells) ≡ goal_of_job cells j
job-goal cells j = let e : j.start + j.count - j.start ≡ j.count = omega arith in ap (λ (n : ℕ). take n (drop j.start cells)) e

module _ {t p : List ℕ} (cells room : List ℕ) (on : ℕ) (j : ReplyJob) where
  pub past : {k : ReplyJob} → length cells < j.start + j.count → k ≡ declined j (reason_number reason.Length) 0 → ReplyAsked t p cells on room room j k
  past l e = asks.outside l e refl

  module _ {g bytes : List ℕ} {r : Result RunCounts Refusal} (l : j.start + j.count ≤ length cells) (s : g ≡ goal_of_job cells j)
      (x : Ran t p g (replicate 64 0) bytes r) where
    ran-alone : Ran t p (goal_of_job cells j) (replicate 64 0) bytes r
    ran-alone = subst (λ (a : List ℕ). Ran t p a (replicate 64 0) bytes r) s x

    pub refused-alone : {f : Refusal} {k : ReplyJob} → r ≡ Err f → k ≡ declined j (reason_number f.reason) f.place
        → ReplyAsked t p cells on room room j k
    refused-alone {f} d e =
        asks.refused (told f) (drop on room) (Err f) l (refused-by d ran-alone (omega (arith, length-replicate {A = ℕ} 64 0))) refl e refl

    pub placed-alone : {room' : List ℕ} {h n b : ℕ} {i k : ReplyJob} → r ≡ Ok (record { hits = h; tried = n }) → b ≡ bits_of (take h bytes) → i ≡ reply_filled j 0 0 on 0 0 b n
        → Placed t p g room room' i k → ReplyAsked t p cells on room room' j k
    placed-alone {room'} {h} {n} {b} {i} {k} d e q y =
        go (subst (λ (i : ReplyJob). Placed t p (goal_of_job cells j) room room' i k) q (subst (λ (a : List ℕ). Placed t p a room room' i k) s y))
      where
        go : Placed t p (goal_of_job cells j) room room' (reply_filled j 0 0 on 0 0 b n) k → ReplyAsked t p cells on room room' j k
        go (no_place f after a u v w z) = asks.refused f after a l u v w z
        go (placed many size after a u v w z) =
            asks.replied many size h n after bytes a l u v (subst (λ (c : Result RunCounts Refusal). Ran t p (goal_of_job cells j) (replicate 64 0) bytes c) d ran-alone)
            (w ∙ ap (λ (c : ℕ). reply_filled j 0 0 on many size c n) e) z
