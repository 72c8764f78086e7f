-- What the loop over a list of records has made of them and of the room after i turns: the first i records are made anew, one after another, the
-- replies standing from one place up to another, and the other records are as they were.
use Rattle.std.specs.Prelude.{ℕ, suc, ◌+◌, List, ◌∷◌}
use Rattle.instance.specs.ReplyJobs.{ReplyAsked}
use Rattle.instance.specs.declared.ReplyJob.{ReplyJob}

pub data RepliedUpto (t p cells : List ℕ) : (i from on : ℕ) (room room' : List ℕ) (jobs jobs' : List ReplyJob) → Type 0 where
  rest : {on : ℕ} {room : List ℕ} {js : List ReplyJob} → RepliedUpto t p cells 0 on on room room js js
  made : {i from on : ℕ} {room between room' : List ℕ} {j j' : ReplyJob} {js js' : List ReplyJob} → ReplyAsked t p cells from room between j j'
      → RepliedUpto t p cells i (from + j'.cells) on between room' js js' → RepliedUpto t p cells (suc i) from on room room' (j ∷ js) (j' ∷ js')
