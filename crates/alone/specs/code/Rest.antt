-- The rest of a row as the code walks it (crates/repeats): what is noted of its branches, and what one of them does to the arrays. These
-- definitions describe the code's own state; no promise of a public function cites them.
use Rattle.std.specs.Prelude.{ℕ, suc, ◌+◌, ◌≤◌, ◌<◌, ◌≡◌, ◌≢◌, Bool, true, false, cond, List, length, get_or, set, replicate}
use Rattle.std.proofs.lemmas.List.Edits.{sets}
use Rattle.cell.specs.Cell.{arity, is_var}
use Rattle.term.specs.Terms.{root}
use Rattle.table.specs.All.{All}
use Rattle.answer.specs.Skeleton.{hole}
use Rattle.plan.specs.Notes.{below, cell_in, slot_in, next_in}
use Rattle.walking.specs.code.Link.{steps, entries, Tables, Linked}
use Rattle.answer.specs.code.Renamed.{Goal}
use Rattle.answer.specs.code.Loose.{Loose}
use Rattle.classes.specs.code.Arrays.{Ready}
use Rattle.classes.specs.code.Search.{Equals}
use Rattle.alone.specs.code.Alone.{Chain, end, at_place, skeletons_of, Going, Gone}
use Rattle.limits.specs.Limits.{most_branches}

-- how many branches there are
unfoldable pub length_of : {k : ℕ} {x : List ℕ} → Chain k x → ℕ
length_of end = 0
length_of (at_place i h q) = suc (length_of q)

-- what is noted of them, from the number `at` on: each branch's cell, the slot of its place, and the first slot free below it
unfoldable pub Noted : {k : ℕ} {x : List ℕ} → Chain k x → (words : List ℕ) (at : ℕ) (slots : List ℕ) (m : ℕ) → Type 0
Noted end words at slots m = Unit {0}
Noted (at_place {x = x} i h q) words at slots m =
    (cell_in (get_or words at 0) ≡ root i x) × (slot_in (get_or words at 0) ≡ get_or slots i 0) × (next_in (get_or words at 0) ≡ m) × (m + arity (root i x) < 64)
    × (is_var (root i x) ≡ true → root i x < 32) × (root i x ≢ hole) × Noted q words (at + 1) (below i (arity (root i x)) m slots) (m + arity (root i x))

-- a branch can be tested: c is its cell, u the node at its place, the slots from `next` on are new
pub record Safe (sib bs ns cls keep : List ℕ) (c u next : ℕ) : Type 0 where
  pub ready : Ready bs ns sib cls
  pub node : u < 64
  pub stands : get_or cls u 0 < 64
  pub room : next + arity c ≤ 64
  pub low : is_var c ≡ true → c < 32
  pub kept : is_var c ≡ true → get_or keep c 0 ≢ 64 → get_or keep c 0 < 64
  pub kids : get_or bs (get_or cls u 0) 0 ≡ c → is_var c ≡ false → All (λ (r : ℕ). r < 64) (steps sib (arity c) (get_or ns (get_or cls u 0) 0))
  pub new : All (λ (r : ℕ). r < 64) (steps sib (arity c) next)

-- whether it succeeds, and the arrays after it
pub data Takes (sib : List ℕ) (c u next : ℕ) (bs ns cls rs keep bs' ns' cls' rs' keep' : List ℕ) : Bool → Type 0 where
  -- the same symbol: its arguments get slots
  same-symbol : is_var c ≡ false → get_or bs (get_or cls u 0) 0 ≡ c → bs' ≡ bs → ns' ≡ ns → cls' ≡ cls → keep' ≡ keep
      → rs' ≡ sets rs next (entries cls (steps sib (arity c) (get_or ns (get_or cls u 0) 0))) → Takes sib c u next bs ns cls rs keep bs' ns' cls' rs' keep' true
  -- another one
  other-symbol : is_var c ≡ false → get_or bs (get_or cls u 0) 0 ≢ 0 → get_or bs (get_or cls u 0) 0 ≢ c
      → Takes sib c u next bs ns cls rs keep bs' ns' cls' rs' keep' false
  -- a node without a symbol gets it, over new nodes
  new-symbol : is_var c ≡ false → get_or bs (get_or cls u 0) 0 ≡ 0 → bs' ≡ set bs (get_or cls u 0) c → ns' ≡ set ns (get_or cls u 0) next → cls' ≡ cls → keep' ≡ keep
      → rs' ≡ sets rs next (entries cls (steps sib (arity c) next)) → Takes sib c u next bs ns cls rs keep bs' ns' cls' rs' keep' true
  -- a variable that is met first
  first-met : is_var c ≡ true → get_or keep c 0 ≡ 64 → bs' ≡ bs → ns' ≡ ns → cls' ≡ cls → keep' ≡ set keep c u → rs' ≡ rs
      → Takes sib c u next bs ns cls rs keep bs' ns' cls' rs' keep' true
  -- one that is met again: the two terms are made equal
  met-again : {b : Bool} → is_var c ≡ true → get_or keep c 0 ≢ 64 → Equals bs ns sib cls cls' (get_or keep c 0) u b → bs' ≡ bs → ns' ≡ ns → keep' ≡ keep → rs' ≡ rs
      → Takes sib c u next bs ns cls rs keep bs' ns' cls' rs' keep' b

-- on the way: the branch number `at` is next, and `to` comes after the last
pub record Under (R x₀ : List ℕ) (all : List (List ℕ)) (words sib bs ns cls rs keep : List ℕ) (from at to : ℕ) : Type 0 where
  pub k : ℕ
  pub x : List ℕ
  pub K : List ℕ
  pub slots : List ℕ
  pub m : ℕ
  pub chain : Chain k x
  pub done : ℕ
  pub going : Going R x₀ all sib bs ns cls rs keep slots K x m k chain done
  pub noted : Noted chain words at slots m
  pub left : at + length_of chain ≡ to
  pub so_far : from + done ≡ at
  pub size-refs : length rs ≡ 64

-- At the walk's branch number `from`, the first for a variable of a row that uses one twice: the walk's state there, and the rest of the row
pub record Begins (words rep sib bs ns us rs : List ℕ) (from to : ℕ) : Type 0 where
  pub w : ℕ
  pub G : List ℕ
  pub goal : Goal w G
  pub tables : Tables G sib rep
  pub e : ℕ
  pub m : ℕ
  pub k : ℕ
  pub slots : List ℕ
  pub R : List ℕ
  pub linked : Linked G rep sib bs ns us rs from e m slots R
  pub on : from < e
  pub wide : length slots ≡ k
  pub x : List ℕ
  pub chain : Chain k x
  pub loose : Loose (replicate k hole) x
  pub noted : Noted chain words from slots m
  pub count : from + length_of chain ≡ to
  pub far : to ≤ most_branches
  pub size-bound : length bs ≡ 64
  pub size-args : length ns ≡ 64
  pub size-until : length us ≡ 64
  pub size-refs : length rs ≡ 64

-- what is answered for it: so many branches were tried, and so many hits there are, one or none
abbrev pub Walks : {words rep sib bs ns us rs : List ℕ} {from to : ℕ} → Begins words rep sib bs ns us rs from to → ℕ → ℕ → Type 0
Walks b tried hits = (hit : Bool) × (hits ≡ cond hit 1 0) × Gone b.R b.x (skeletons_of b.chain (replicate b.k hole)) tried hit
