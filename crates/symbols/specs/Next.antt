-- What stands next in a text, for every text and every place, by what stands there (lex/specs): turn after turn, marks passed over.
use Rattle.std.specs.Prelude.{ℕ, suc, ◌+◌, ◌≤◌, ◌<◌, Bool, true, false, List, length, Option, Some, None, Ok, Err}
use Rattle.lex.specs.Turns.{Turns}
use Rattle.lex.specs.Heads.{Heads, Closes}
use Rattle.lex.specs.declared.turn.Turn.{Turn}
use Rattle.lex.specs.declared.turn.Turn.TheVariants as turn
use Rattle.lex.specs.declared.fact.Head.TheVariants as head
use Rattle.lex.specs.declared.Stop.{Stop}
use Rattle.symbols.specs.declared.Spot.{Spot}
use Rattle.symbols.specs.declared.Ahead.{Ahead}
use Rattle.symbols.specs.declared.Ahead.TheVariants as ahead

abbrev pub spot : ℕ → Bool → ℕ → Spot
spot at past depth = record { at = at; past = past; depth = depth }

-- after a fact's last bracket: its full stop and then another fact's name and bracket, after which its arguments begin; or the text ends
-- there, or is none
pub data RowEnds (t : List ℕ) (at : ℕ) : Option ℕ → Type 0 where
  another : {q s e : ℕ} → Closes t at (Ok q) → Heads t q false (head.Open s e) → RowEnds t at (Some (e + 1))
  no_more : {q : ℕ} → Closes t at (Ok q) → Heads t q false head.End → RowEnds t at None
  no-fact : {q p : ℕ} → Closes t at (Ok q) → Heads t q false (head.Stop p) → RowEnds t at None
  no_stop : {p : Stop} → Closes t at (Err p) → RowEnds t at None

-- where the first fact's arguments begin; place 0 where there is no fact
pub data Begins (t : List ℕ) : Spot → Type 0 where
  opens : {s e : ℕ} → Heads t 0 true (head.Open s e) → Begins t (spot (e + 1) false 0)
  empty : Heads t 0 true head.End → Begins t (spot 0 false 0)
  no-fact : {p : ℕ} → Heads t 0 true (head.Stop p) → Begins t (spot 0 false 0)

-- what stands after a fact's last bracket: another row's start, or nothing
pub data RowAhead (t : List ℕ) (at : ℕ) : Ahead → Type 0 where
  next_row : {q : ℕ} → RowEnds t at (Some q) → RowAhead t at (ahead.Row (spot q false 0))
  last_row : RowEnds t at None → RowAhead t at ahead.End

-- what stands next when a turn comes, with so many names open
pub data After (t : List ℕ) : ℕ → Turn → Ahead → Type 0 where
  a-name : {d s e : ℕ} → After t d (turn.Name s e) (ahead.Name s e (spot e true d))
  opens : {d s e : ℕ} → After t d (turn.Open s e) (ahead.Name s e (spot (e + 1) false (d + 1)))
  a-variable : {d s e : ℕ} → After t d (turn.Variable s e) (ahead.Variable s e (spot e true d))
  a-number : {d v e : ℕ} → After t d (turn.Number v e) (ahead.Number v (spot e true d))
  comma : {d p : ℕ} {x : Turn} {r : Ahead} → Turns t (p + 1) false x → After t d x r → After t d (turn.Comma p) r
  close : {d p : ℕ} {x : Turn} {r : Ahead} → Turns t (p + 1) true x → After t d x r → After t (suc d) (turn.Close p) r
  row : {p : ℕ} {r : Ahead} → RowAhead t (p + 1) r → After t 0 (turn.Close p) r
  stop : {d p : ℕ} → After t d (turn.Stop p) ahead.End

-- the promise of `next_item`; no text has more names open than bytes
pub data NextIs (t : List ℕ) (sp : Spot) : Ahead → Type 0 where
  too-deep : length t < sp.depth → NextIs t sp ahead.End
  stands : {x : Turn} {r : Ahead} → sp.depth ≤ length t → Turns t sp.at sp.past x → After t sp.depth x r → NextIs t sp r
