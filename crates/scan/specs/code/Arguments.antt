-- A fact's arguments, read once, by the reader. Of the work under way the code keeps only counts: of the open names' complete arguments, of
-- the fact's, of its symbols.
use Rattle.std.specs.Prelude.{ℕ, ◌*◌, ◌≤◌, ◌<◌, ◌≡◌, Bool, List, [], map, length, drop, Result, Ok, Err}
use Rattle.grammar.specs.Grammar.{Symbol}
use Rattle.grammar.specs.Reader.{arg, closed, Frame, work, Out, stops, run}
use Rattle.lex.specs.Turns.{term_mode}
use Rattle.scan.specs.code.Levels.{levels_of}
use Rattle.scan.specs.declared.arguments.Spot.{Spot}
use Rattle.scan.specs.declared.arguments.Move.{Move}
use Rattle.scan.specs.declared.arguments.Move.TheVariants as move
use Rattle.scan.specs.declared.arguments.Arguments.{Arguments}
use Rattle.lex.specs.declared.Stop.{Stop}
use Rattle.limits.specs.Limits.{most_text_bytes}

abbrev pub spot : ℕ → Bool → ℕ → ℕ → ℕ → Spot
spot at past depth done symbols = record { at = at; past = past; depth = depth; done = done; symbols = symbols }

abbrev pub done_in : List Frame → List ℕ
done_in fs = map (λ (f : Frame). f.done) fs

-- the numbers: nothing is out of range
pub record Ready (t dones : List ℕ) (sp : Spot) : Type 0 where
  pub text : length t ≤ most_text_bytes
  pub room : length t < 8 * length dones
  pub place : sp.at ≤ length t
  pub deep : 2 * sp.depth ≤ sp.at
  pub few : sp.symbols ≤ sp.at
  pub args : sp.done ≤ sp.at

-- the work under way, of which the counts are kept: what is read in the end, F for each place of the predicate's name, is what is read from
-- here
pub record UnderSpot (F : ℕ → ℕ → Out) (t dones : List ℕ) (sp : Spot) : Type 0 where
  pub opened : List Frame
  pub out : List Symbol
  pub levels : levels_of dones sp.depth ≡ done_in opened
  pub count : length out ≡ sp.symbols
  pub same : (s e : ℕ) → F s e ≡ run (drop sp.at t) (term_mode sp.past) (work s e sp.done opened out) sp.at

-- the fact's bracket is closed
pub record Whole (F : ℕ → ℕ → Out) (t : List ℕ) (q done symbols : ℕ) : Type 0 where
  pub within : q ≤ length t
  pub args : done < q
  pub few : symbols < q
  pub out : List Symbol
  pub count : length out ≡ symbols
  pub same : (s e : ℕ) → F s e ≡ run (drop q t) closed (work s e done [] out) q

-- no text goes on so
abbrev pub Stopped : (ℕ → ℕ → Out) → ℕ → Type 0
Stopped F p = (s e : ℕ) → F s e ≡ stops p

pub record Goes (F : ℕ → ℕ → Out) (t dones : List ℕ) (from : ℕ) (sp : Spot) : Type 0 where
  pub on : from < sp.at
  pub ready : Ready t dones sp
  pub under : UnderSpot F t dones sp

-- what a turn answers
abbrev pub Moves : (ℕ → ℕ → Out) → List ℕ → List ℕ → Spot → Move → Type 0
Moves F t dones sp (move.Go s) = Goes F t dones sp.at s
Moves F t dones sp (move.Closed q) = (sp.at < q) × Whole F t q sp.done sp.symbols
Moves F t dones sp (move.Stop p) = Stopped F p

pub record Moved (F : ℕ → ℕ → Out) (t dones : List ℕ) (sp : Spot) (r : Move) : Type 0 where
  pub is : Moves F t dones sp r

-- for every work under way of which these are the counts
abbrev pub MoveIs : List ℕ → List ℕ → Spot → List ℕ → Move → Type 0
MoveIs t dones sp dones' r = (F : ℕ → ℕ → Out) → UnderSpot F t dones sp → Moved F t dones' sp r

-- what the arguments from a place on are
abbrev pub arguments_at : List ℕ → ℕ → ℕ → ℕ → Out
arguments_at t at s e = run (drop at t) arg (work s e 0 [] []) at

abbrev pub Reads : List ℕ → ℕ → Result Arguments Stop → Type 0
Reads t at (Ok a) = (at < a.next) × Whole (arguments_at t at) t a.next a.last a.symbols
Reads t at (Err p) = Stopped (arguments_at t at) p.at
