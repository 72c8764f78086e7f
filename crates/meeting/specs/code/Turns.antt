-- Where the making of one reply stands (crate instance, specs/code/Meet), by the code's own struct.
use Rattle.std.specs.Prelude.{Option, Some, None}
use Rattle.std.specs.Prelude.{ℕ, ◌+◌, ◌-◌, ◌*◌, ◌≤◌, ◌<◌, ◌≡◌, cond, List, ◌++◌, map, eqb, length, take, drop}
use Rattle.instance.specs.code.Meet.{Meeting, After, InstanceMet, Over}
use Rattle.meeting.specs.declared.Stand.{Stand}
use Rattle.limits.specs.Limits.{most_meeting_cells, most_reply_cells}

abbrev pub MeetingAt : (row goal cells : List ℕ) → Stand → Type 0
MeetingAt row goal cells k = Meeting row goal cells k.i k.n k.at k.len k.turns

-- a variable v is about to be replaced by a term t
abbrev pub AfterAt : (row goal cells : List ℕ) (v : ℕ) (t : List ℕ) → Stand → Type 0
AfterAt row goal cells v t k = After row goal cells v t k.i k.n k.at k.len (k.turns - 1)

-- the two lists: the second has a cell more at least, so that a full one is told from one that was too short
pub record Lists (cells other : List ℕ) : Type 0 where
  pub most : length cells ≤ most_meeting_cells
  pub beside : length cells < length other

-- whatever row and goal are: the goal so far comes before what is left of the row, and both are in the list, which has so many cells
pub record Sound (size : ℕ) (k : Stand) : Type 0 where
  pub inside : k.at ≤ k.len
  pub apart : k.len ≤ k.i
  pub started : k.i ≤ k.n
  pub held : k.n ≤ size

-- a variable's cell replaced by another, in the first n cells of a list
abbrev pub instead : (v c x : ℕ) → ℕ
instead v c x = cond (eqb x v) c x

abbrev pub Swapped : (cells cells' : List ℕ) (v c n : ℕ) → Type 0
Swapped cells cells' v c n = cells' ≡ map (instead v c) (take n cells) ++ drop n cells

-- a variable is about to be replaced in lists of at most 1,024 cells
pub record Turning (row goal cells : List ℕ) (v : ℕ) (t : List ℕ) (k : Stand) : Type 0 where
  pub after : AfterAt row goal cells v t k
  pub goal-short : k.len ≤ most_reply_cells
  pub row-short : k.n ≤ k.i + most_reply_cells

-- one less may be replaced
abbrev pub turned : Stand → Stand
turned k = record { i = k.i; n = k.n; at = k.at; len = k.len; turns = k.turns - 1 }

-- before a variable is replaced by the term from a up to e
pub record Binding (cells other : List ℕ) (a e : ℕ) (k : Stand) : Type 0 where
  pub lists : Lists cells other
  pub sound : Sound (length cells) k
  pub begun : a ≤ e
  pub ended : e ≤ length cells

-- after it, or the list is too short for it; one of 2,048 cells is so only where they have too much in common
pub data Bound (cells : List ℕ) (v : ℕ) (t cells' : List ℕ) (k : Stand) : Option Stand → Type 0 where
  bound : {s : Stand} → Sound (length cells) s → s.turns < k.turns
      → ((row goal : List ℕ) → Turning row goal cells v t k → MeetingAt row goal cells' s) → Bound cells v t cells' k (Some s)
  bound-over : (length cells ≡ most_meeting_cells → (row goal : List ℕ) → 0 < k.turns → Turning row goal cells v t k → Over row goal)
      → Bound cells v t cells' k None

-- what the loop goes down by: a variable less, or a cell less of the row
abbrev pub to_do : Stand → ℕ
to_do k = k.turns * 2049 + (k.n - k.i)

-- before a step: cells are left of the row
pub record Stepping (cells other : List ℕ) (k : Stand) : Type 0 where
  pub lists : Lists cells other
  pub sound : Sound (length cells) k
  pub more : k.i < k.n

-- after it: less is to be done, or the list is too short
pub record Went (cells cells' : List ℕ) (k r : Stand) : Type 0 where
  pub sound : Sound (length cells) r
  pub less : to_do r < to_do k
  pub turn : r.turns ≤ k.turns
  pub meeting : (row goal : List ℕ) → MeetingAt row goal cells k → MeetingAt row goal cells' r

pub data Stepped (cells cells' : List ℕ) (k : Stand) : Option Stand → Type 0 where
  stepped : {s : Stand} → Went cells cells' k s → Stepped cells cells' k (Some s)
  stepped-over : (length cells ≡ most_meeting_cells → (row goal : List ℕ) → MeetingAt row goal cells k → Over row goal) → Stepped cells cells' k None

-- the start: nothing is passed
abbrev pub at_start : (len n : ℕ) → Stand
at_start len n = record { i = len; n = n; at = 0; len = len; turns = 64 }

pub record Starting (cells other : List ℕ) (len n : ℕ) : Type 0 where
  pub lists : Lists cells other
  pub sound : Sound (length cells) (at_start len n)

-- the end
pub data Finished (cells cells' : List ℕ) (len n : ℕ) : Option ℕ → Type 0 where
  finished : {m : ℕ} → m ≤ length cells → ((row goal : List ℕ) → MeetingAt row goal cells (at_start len n) → InstanceMet row goal cells' m)
      → Finished cells cells' len n (Some m)
  finished-over : (length cells ≡ most_meeting_cells → (row goal : List ℕ) → MeetingAt row goal cells (at_start len n) → Over row goal)
      → Finished cells cells' len n None
