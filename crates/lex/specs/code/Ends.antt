-- Where layout, words and numbers end, by the grammar's relations and the reader.
use Rattle.std.specs.Prelude.{ℕ, ◌≤◌, ◌<◌, ◌≡◌, Bool, List, length, drop}
use Rattle.grammar.specs.Grammar.{Line, Gap, Word}
use Rattle.grammar.specs.Reader.{Mode, first, between, minus, digits, Work, Solid, Ends, run}
use Rattle.lex.specs.Turns.{number_from, negative_from, on_turn, Leads}
use Rattle.lex.specs.Heads.{head_from, on_head, Reaches}
use Rattle.lex.specs.declared.turn.Turn.{Turn}
use Rattle.lex.specs.declared.fact.Head.{Head}

-- the rest of a comment's line
pub record LineTo (t : List ℕ) (p q : ℕ) : Type 0 where
  pub line : Line p (drop p t) q (drop q t)
  pub from : p ≤ q
  pub within : q ≤ length t

-- layout, all of it
pub record GapTo (t : List ℕ) (p q : ℕ) : Type 0 where
  pub gap : Gap p (drop p t) q (drop q t)
  pub solid : Solid (drop q t)
  pub from : p ≤ q
  pub within : p ≤ length t → q ≤ length t

-- a word after its first byte, all of it
pub record WordTo (t : List ℕ) (p q : ℕ) : Type 0 where
  pub word : Word p (drop p t) q (drop q t)
  pub ends : Ends (drop q t)
  pub from : p ≤ q
  pub within : p ≤ length t → q ≤ length t

-- a number from within it on, and where it leads: on from its first byte, which stands before p
pub record Within (t : List ℕ) (p : ℕ) (m : Mode) (says r : Turn) : Type 0 where
  pub is : r ≡ says
  pub leads : (at : ℕ) → at < p → Leads t at r
  pub same : (w : Work) → run (drop p t) m w p ≡ on_turn t w r

-- its digits from p on, after a minus sign or not, with the value v before them
abbrev pub Counts : List ℕ → ℕ → Bool → ℕ → Turn → Type 0
Counts t p sign v r = Within t p (digits sign v) (number_from sign v (drop p t) p) r

-- its first digit at p, after a minus sign
abbrev pub AfterMinus : List ℕ → ℕ → Turn → Type 0
AfterMinus t p r = Within t p minus (negative_from (drop p t) p) r

-- a fact's name and its bracket, whether it is the first fact or not
pub record HeadAt (t : List ℕ) (at : ℕ) (r : Head) : Type 0 where
  pub is : r ≡ head_from t at (drop at t)
  pub reaches : Reaches t at r
  pub first : (w : Work) → run (drop at t) first w at ≡ on_head t r
  pub later : (w : Work) → run (drop at t) between w at ≡ on_head t r
