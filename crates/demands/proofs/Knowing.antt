-- W-214 (specs/Knowing) of what the entries promise: `RunCoded t p g room room' n` of a run, `JobsCoded t p cells jobs jobs' n` of a list.
--
-- How it is carried: what a row has in common with an instance it has in common with the goal (`wider`, knowing/proofs/WiderLaws). That holds of
-- what is decided above a branch too, each open place a variable, so the instance hits no other row and tries no other branch
-- (`knowing-more`). A record's bit for a row is how often the run by itself reports the row (`bit-count`, proofs/SumLaws), whatever room it had.
use Rattle.std.specs.Prelude.{Result}
use Rattle.answer.specs.declared.RunCounts.{RunCounts}
use Rattle.refusal.specs.declared.Refusal.{Refusal}
use Prim.Native.Nat.{ℕ, ◌+◌, ◌≤◌}
use mathlib.Core.Path.{sym, ◌∙◌, subst}
use mathlib.Core.List.{List, ◌∷◌}
use lib.ListN.{length}
use Rattle.refusal.specs.Refusal.{Answer}
use Rattle.refusal.specs.Coded.{decoded}
use Rattle.table.proofs.ReadLaws.{apart}
use Rattle.answer.specs.Run.{run_told, Ran}
use Rattle.answer.specs.Jobs.{JobsRun, refusal, asked}
use Rattle.answer.specs.declared.Job.{Job}
use Rattle.knowing.specs.Knowing.{reported, tried_of, Singles, single}
use Rattle.knowing.proofs.SumLaws.{found-reported, run_more, sums, singles-there, means}
use Rattle.dudowiej.specs.Coded.{RunCoded, JobsCoded}
use Rattle.dudowiej.proofs.Back.{run-back}
use Rattle.demands.specs.Knowing.{KnowingMore, Sums}
use Rattle.demands.specs.Shift.{goal_in}
use Rattle.demands.proofs.Cited.{tree-read, run-answers}

-- Two runs of one plan.
knows_more : {t p wide narrow room after other after' : List ℕ} {r s : Result RunCounts Refusal} → Ran t p wide room after r → Ran t p narrow other after' s
    → KnowingMore t p wide narrow room after other after' (run_told r) (run_told s)
knows_more {room = room} {other = other} x y width rows tree e w g g' i l l' =
    let a = run-answers x width rows tree e w g l in
    let b = run-answers y width rows tree e w g' l' in
    let m = run_more i x y a.told b.told in
    let f = found-reported a.found room a.told a.wrote in
    let f' = found-reported b.found other b.told b.wrote in
    record { wider = a; narrower = b; among = rw (f.0, f'.0) at m.0; fewer = rw (f.1, f'.1) at m.1 }

pub request-214 : {t p wide narrow room after other after' : List ℕ} {m n : ℕ} → RunCoded t p wide room after m
    → RunCoded t p narrow other after' n → KnowingMore t p wide narrow room after other after' (decoded m) (decoded n)
request-214 {t} {p} {wide} {narrow} {room} {after} {other} {after'} {n = n} x y =
    subst (λ (a : Answer). KnowingMore t p wide narrow room after other after' a (decoded n)) (sym (run-back x))
    (subst (KnowingMore t p wide narrow room after other after' (run_told x.answer)) (sym (run-back y)) (knows_more x.ran y.ran))

-- A list.
adds-up : {t p lent : List ℕ} {jobs jobs' : List Job} {a : Answer} → JobsRun t p lent jobs jobs' a → Sums t p lent jobs jobs'
adds-up (refusal f d q c) width rows tree e w = apart (sym (tree-read e tree w) ∙ d)
adds-up {t} {p} {lent} (asked n d q c) width rows tree e w = record {
  single-runs = singles-there t p lent e c;
  hits = λ s row. (sums t p lent e c s row).0;
  tried = λ s. (sums t p lent e c s 0).1;
  means = λ row. means t p lent e d row c;
}

pub request-214-sums : {t p lent : List ℕ} {jobs jobs' : List Job} {n : ℕ} → JobsCoded t p lent jobs jobs' n → Sums t p lent jobs jobs'
request-214-sums x = adds-up x.ran

-- what the entry of a run answers to a goal of the list by itself, read back by the header's masks, is such a single run
pub request-214-single : {t p lent room after : List ℕ} {rows n : ℕ} {j : Job} {jobs : List Job} {found : List (List ℕ)} {tried : List ℕ}
    → j.start + j.count ≤ length lent → rows ≤ length room → RunCoded t p (goal_in lent j) room after n
    → Singles t p lent rows jobs found tried
    → Singles t p lent rows (j ∷ jobs) (reported (decoded n) after ∷ found) (tried_of (decoded n) ∷ tried)
request-214-single {room = room} {after} l m x s = rw (run-back x) (single l room after x.answer m x.ran s)
