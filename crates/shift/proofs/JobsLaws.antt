-- A goal of a list: what its record is, for each way the code returns.
use Rattle.std.specs.Prelude.{Result, Ok, Err, is_ok}
use Rattle.answer.specs.declared.RunCounts.{RunCounts}
use Prim.Native.Nat.{ℕ, ◌+◌, ◌-◌, ◌*◌, ◌^◌, ◌%◌, ◌≤◌, ◌<◌}
use mathlib.Core.Path.{◌≡◌, refl, sym, ◌∙◌, ap, ap₂, subst}
use mathlib.Core.Bool.{true, false}
use mathlib.Core.List.{List, []}
use native.Mathlib.Omega.{arith}
use lib.Bits.{bit_or}
use lib.Pow.{shl_exact}
use lib.ListN.{length, get_or, take, drop, replicate}
use lib.Seq.{get_or-take, length-take-le, take-append_seam}
use Rattle.refusal.specs.Refusal.{reason_number, answered}
use Rattle.refusal.specs.declared.Reason.TheVariants as reason
use Rattle.refusal.specs.declared.Refusal.{Refusal}
use Rattle.refusal.specs.Read.{Read, read, refuse}
use Rattle.table.proofs.Accepted.{is-table}
use Rattle.table.proofs.AllLaws.{all-at}
use Rattle.plan.specs.Check.{plan_of}
use Rattle.checker.specs.Checked.{plan_told, plan_says}
use Rattle.plannotes.specs.Noted.{NotedInto}
use Rattle.plannotes.specs.declared.Noted.{Noted}
use Rattle.plannotes.proofs.HandedLaws.{handed-says}
use Rattle.answer.specs.Run.{run_told, Ran, refusal, ran}
use Rattle.answer.specs.Jobs.{bits_of, filled, entered, outside, alone, Each, JobsRun}
use Rattle.answer.specs.Jobs as job
use Rattle.answer.specs.declared.Job.{Job}
use Rattle.answer.proofs.BitsLaws.{bits-next}
use Rattle.answer.proofs.JobsLaws.{each_map}
use Rattle.answer.proofs.TakesLaws.{run-takes}
use Rattle.answer.proofs.Theorems.{picks-ascend, picks-low, picks-few}
use Rattle.shift.specs.code.Asked.{Hits, AskedBy}

-- The hits as bits.

pub bits_none : ◌≡◌ {A = ℕ} 0 (bits_of [])
unfolding bits_of
bits_none = refl

pub bits-all : (l : List ℕ) (i n b : ℕ) → i ≡ n → b ≡ bits_of (take i l) → b ≡ bits_of (take n l)
bits-all l i n b e h = h ∙ ap (λ (k : ℕ). bits_of (take k l)) e

module _ (room : List ℕ) (n : ℕ) (hits : Hits room n) (i : ℕ) (h : i < n) where
  pub row_low : get_or room i 0 < 64
  row_low =
      let k : n ≤ length room = omega (arith, hits.size, hits.few) in
      let x = all-at (λ (y : ℕ). y < 64) 0 (take n room) i (omega (arith, length-take-le n room k)) hits.low in
      rw (get_or-take n room i 0 h) at x

  pub bits-more : {b w : ℕ} → b ≡ bits_of (take i room) → w ≡ get_or room i 0 → bit_or b ((1 * 2 ^ w) % 2 ^ 64) ≡ bits_of (take (i + 1) room)
  bits-more {b} {w} e d =
      let s : (1 * 2 ^ w) % 2 ^ 64 ≡ 1 * 2 ^ w = shl_exact {a = 1} 1 w 64 (omega arith) (omega (arith, row_low)) in
      ap₂ bit_or e (s ∙ ap (λ (z : ℕ). 1 * 2 ^ z) d) ∙ bits-next room n i h (omega (arith, hits.size, hits.few)) hits.ascends

-- The hits of a run are rows of a table, from the top down.
pub hits-rise : {t p g room room' : List ℕ} {r : Result RunCounts Refusal} {h n : ℕ} → length room' ≡ 64 → Ran t p g room room' r → r ≡ Ok (record { hits = h; tried = n }) → Hits room' h
hits-rise {r = r} {h} {n} z (refusal f a b c) d =
    let q : run_told r ≡ answered h n = ap run_told d in
    absurd (let z : ◌≡◌ {A = ℕ} 0 1 = cc in let y : ⊥ = omega arith in y)
hits-rise {t} {room = room} {room' = room'} {r = r} {h} {n} z (ran T tree found k a e w u b c) d =
    let q : run_told r ≡ answered h n = ap run_told d in
    let l : length found ≡ h = cc in
    let i = is-table t (run-takes a).table in
    let same : take h room' ≡ found = ap₂ (λ (x : ℕ) (y : List ℕ). take x y) (sym l) c ∙ take-append_seam found (drop (length found) room) in
    record {
      size = z;
      few = omega (arith, picks-few w, i.count.1);
      ascends = rw same (picks-ascend w).0;
      low = rw same (picks-low 64 (omega (arith, i.count.1)) w);
    }

-- The record, for the table and the plan of which the numbers are noted.
module _ {numbers : List ℕ} {noted : Noted} (cells : List ℕ) (j : Job) where
  pub past : {k : Job} → length cells < j.start + j.count → k ≡ filled j (reason_number reason.Length) 0 0 0 → AskedBy numbers noted cells j k
  past l e t p ns h = outside l e

  -- the part of the cells from the start to the sum is the goal
  module _ {room : List ℕ} {r : Result RunCounts Refusal} (l : j.start + j.count ≤ length cells)
      (x : (t p ns : List ℕ) → NotedInto t p ns numbers noted
      → Ran t p (take (j.start + j.count - j.start) (drop j.start cells)) (replicate 64 0) room r) where
    ran-alone : (t p ns : List ℕ) → NotedInto t p ns numbers noted → Ran t p (take j.count (drop j.start cells)) (replicate 64 0) room r
    ran-alone t p ns h =
        let e : j.start + j.count - j.start ≡ j.count = omega arith in
        subst (λ (n : ℕ). Ran t p (take n (drop j.start cells)) (replicate 64 0) room r) e (x t p ns h)

    pub refused-alone : {f : Refusal} {k : Job} → r ≡ Err f → k ≡ filled j (reason_number f.reason) f.place 0 0
        → AskedBy numbers noted cells j k
    refused-alone d e t p ns h = alone room r l (ran-alone t p ns h) (e ∙ ap (λ (s : Result RunCounts Refusal). entered j s room) (sym d))

    pub found-alone : {h n b : ℕ} → r ≡ Ok (record { hits = h; tried = n }) → length room ≡ 64 → (Hits room h → b ≡ bits_of (take h room))
        → AskedBy numbers noted cells j (filled j 0 0 b n)
    found-alone {n = n} d z e t p ns a =
        let x = ran-alone t p ns a in
        alone room r l x (ap (λ (z : ℕ). filled j 0 0 z n) (e (hits-rise z x d)) ∙ ap (λ (s : Result RunCounts Refusal). entered j s room) (sym d))

-- The list, by the check's answer.
module _ {t p before numbers : List ℕ} {m : Noted} (cells : List ℕ) (h : NotedInto t p before numbers m) {jobs : List Job} where
  pub jobs-asked : {jobs' : List Job} → is_ok m.answer ≡ true → Each (AskedBy numbers m cells) jobs jobs'
      → JobsRun t p cells jobs jobs' (plan_told m.answer)
  jobs-asked {jobs'} is each = go (plan_of t p) refl m.answer (handed-says h) is
    where
      go : (x : Read ℕ) → plan_of t p ≡ x → (a : Result ℕ Refusal) → plan_told a ≡ plan_says x → is_ok a ≡ true → JobsRun t p cells jobs jobs' (plan_told a)
      go (read n) e a s y = job.asked n e s (each_map (λ j k q. q t p before h) each)
      go (refuse f) e (Ok n) s y = absurd (let z : ◌≡◌ {A = ℕ} 0 1 = cc in let w : ⊥ = omega arith in w)
      go (refuse f) e (Err g) s y = absurd (let z : ◌≡◌ {A = ℕ} 0 1 = cc in let w : ⊥ = omega arith in w)

  pub jobs-left : is_ok m.answer ≡ false → JobsRun t p cells jobs jobs (plan_told m.answer)
  jobs-left is = go (plan_of t p) refl m.answer (handed-says h) is
    where
      go : (x : Read ℕ) → plan_of t p ≡ x → (a : Result ℕ Refusal) → plan_told a ≡ plan_says x → is_ok a ≡ false → JobsRun t p cells jobs jobs (plan_told a)
      go (refuse f) e a s y = job.refusal f e s refl
      go (read n) e (Ok k) s y = absurd (let z : ◌≡◌ {A = ℕ} 0 1 = cc in let w : ⊥ = omega arith in w)
      go (read n) e (Err g) s y = absurd (let z : ◌≡◌ {A = ℕ} 0 1 = cc in let w : ⊥ = omega arith in w)
