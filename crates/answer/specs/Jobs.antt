-- What a list of goals becomes (02, W-202, "A whole shift's jobs in one call").
use Rattle.std.specs.Prelude.{Result, Ok, Err, ℕ, ◌+◌, ◌^◌, ◌/◌, ◌%◌, ◌≤◌, ◌<◌, ◌≡◌, List, [], ◌∷◌, length, take, drop, replicate}
use Rattle.answer.specs.declared.RunCounts.{RunCounts}
use Rattle.refusal.specs.declared.Refusal.{Refusal}
use Rattle.refusal.specs.Refusal.{Refused, reason_number, Answer, answered, turned}
use Rattle.refusal.specs.declared.Reason.TheVariants as reason
use Rattle.refusal.specs.Read.{read, refuse}
use Rattle.plan.specs.Check.{plan_of}
use Rattle.answer.specs.Run.{Ran}
use Rattle.answer.specs.declared.Job.{Job}
use Rattle.limits.specs.Limits.{most_rows}

-- "the hit rows as 64 bits": bit r is set exactly when row r is among them (proofs/BitsLaws)
unfoldable pub bits_of : List ℕ → ℕ
bits_of [] = 0
bits_of (h ∷ hs) = 2 ^ h + bits_of hs

-- a bit, as `n >> r & 1` gives it
abbrev pub bit : (r n : ℕ) → ℕ
bit r n = n / 2 ^ r % 2

-- "Start and count stay": a record with the other four numbers written
abbrev pub filled : Job → (number place hits tried : ℕ) → Job
filled j number place hits tried =
    record { start = j.start; count = j.count; number = number; place = place; hits = hits; tried = tried }

-- "A refused goal's record holds number and place, with hits and tried 0; an answered one's are 0 and 0": a run's answer, the first bytes
-- of its room being the hits
abbrev pub entered : Job → Result RunCounts Refusal → (room : List ℕ) → Job
entered j (Err f) room = filled j (reason_number f.reason) f.place 0 0
entered j (Ok n) room = filled j 0 0 (bits_of (take n.hits room)) n.tried

-- what one record becomes.
-- "a start or count past the lent cells is that goal's LENGTH"; otherwise "It equals asking one by one": the record holds what a run of
-- that goal alone answers. 64 bytes are room enough for any table
pub data Asked (t p cells : List ℕ) (j j' : Job) : Type 0 where
  outside : length cells < j.start + j.count → j' ≡ filled j (reason_number reason.Length) 0 0 0 → Asked t p cells j j'
  alone : (room : List ℕ) (r : Result RunCounts Refusal) → j.start + j.count ≤ length cells
      → Ran t p (take j.count (drop j.start cells)) (replicate most_rows 0) room r → j' ≡ entered j r room → Asked t p cells j j'

-- "after the call each record ..": record by record
pub data Each {A : Type 0} (P : A → A → Type 0) : List A → List A → Type 0 where
  nil : Each P [] []
  cons : {x y : A} {xs ys : List A} → P x y → Each P xs ys → Each P (x ∷ xs) (y ∷ ys)

-- what the call answers and what the records then hold. "Refusals: table and plan as in 01, for the whole call, no record touched"; where
-- both are accepted it answers what the check does, the plan's number of branches
pub data JobsRun (t p cells : List ℕ) (jobs jobs' : List Job) (told : Answer) : Type 0 where
  refusal : (f : Refused) → plan_of t p ≡ refuse f → told ≡ turned f → jobs' ≡ jobs → JobsRun t p cells jobs jobs' told
  asked : (n : ℕ) → plan_of t p ≡ read n → told ≡ answered n 0 → Each (Asked t p cells) jobs jobs' → JobsRun t p cells jobs jobs' told
