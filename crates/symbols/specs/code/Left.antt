-- What is left of an accepted text from a place on: its symbols, in their order. By the reader: the text from there on is read to the end,
-- and what it is read as begins with what has been met. Callers who know that a text is accepted go by these; that they follow from the
-- promises (specs/Next) is proved in proofs/LeftLaws.
use Rattle.std.specs.Prelude.{ℕ, suc, ◌≤◌, ◌<◌, ◌≡◌, false, List, [], ◌∷◌, ◌++◌, length, drop, Option, Some, None}
use Rattle.grammar.specs.Grammar.{Fact, fact}
use Rattle.grammar.specs.Meaning.{place}
use Rattle.grammar.specs.Reader.{arg, closed, Work, work, reads, run, text_of, Held}
use Rattle.loading.specs.Items.{Item, of-name, of-variable, of_number, next_row, items_in, items_of}
use Rattle.lex.specs.Turns.{term_mode}
use Rattle.symbols.specs.declared.Spot.{Spot}
use Rattle.symbols.specs.declared.Ahead.{Ahead}
use Rattle.symbols.specs.declared.Ahead.TheVariants as ahead

-- the fact that is complete at its last bracket
abbrev pub fact_of : Work → Fact
fact_of w = fact w.start w.end (suc w.done) w.out

-- after a fact's last bracket another one follows, and its arguments begin at a place; what has been read is read as these facts
pub record NextRow (t : List ℕ) (w : Work) (q : ℕ) (facts : List Fact) : Type 0 where
  pub start : ℕ
  pub end : ℕ
  pub later : List Fact
  pub is : facts ≡ fact_of w ∷ later
  pub same : run (drop q t) arg (work start end 0 [] []) q ≡ reads later

abbrev pub RowLeft : List ℕ → ℕ → Option ℕ → Type 0
RowLeft t at (Some q) = (at < q) × (q ≤ length t) × ((w : Work) (facts : List Fact) → run (drop at t) closed w at ≡ reads facts
    → NextRow t w q facts)
RowLeft t at None = (w : Work) (facts : List Fact) → run (drop at t) closed w at ≡ reads facts → facts ≡ fact_of w ∷ []

-- these items are left at a place inside a fact. `facts` are the fact under way and those after it
pub record Left (t : List ℕ) (sp : Spot) (rest : List Item) : Type 0 where
  pub work : Work
  pub facts : List Fact
  pub within : sp.at ≤ length t
  pub few : sp.depth ≤ sp.at
  pub deep : length work.opened ≡ sp.depth
  pub held : Held work.out work.opened
  pub same : run (drop sp.at t) (term_mode sp.past) work sp.at ≡ reads facts
  pub items : items_of facts ≡ items_in work.out ++ rest

-- the first of them, and what is left after it
pub record LeftAfter (t : List ℕ) (item : Item) (sp : Spot) (rest : List Item) : Type 0 where
  pub after : List Item
  pub is : rest ≡ item ∷ after
  pub left : Left t sp after

-- an item is met between two places
pub record Meets (t : List ℕ) (from : Spot) (item : Item) (to : Spot) : Type 0 where
  pub on : from.at < to.at
  pub within : to.at ≤ length t
  pub left : (rest : List Item) → Left t from rest → LeftAfter t item to rest

abbrev pub AheadLeft : List ℕ → Spot → Ahead → Type 0
AheadLeft t sp (ahead.Name s e to) = (sp.at ≤ s) × (s < e) × (e ≤ to.at) × Meets t sp (of-name (place s e)) to
AheadLeft t sp (ahead.Variable s e to) = (sp.at ≤ s) × (s < e) × (e ≤ to.at) × Meets t sp (of-variable (place s e)) to
AheadLeft t sp (ahead.Number v to) = (v ≤ 65535) × Meets t sp (of_number v) to
AheadLeft t sp (ahead.Row to) = Meets t sp next_row to
AheadLeft t sp ahead.End = (rest : List Item) → Left t sp rest → rest ≡ []

-- the place at which the first fact's arguments begin
pub record FirstRow (t : List ℕ) (q : ℕ) (facts : List Fact) : Type 0 where
  pub start : ℕ
  pub end : ℕ
  pub same : run (drop q t) arg (work start end 0 [] []) q ≡ reads facts

pub record StartLeft (t : List ℕ) (sp : Spot) : Type 0 where
  pub within : sp.at ≤ length t
  pub spot : sp ≡ record { at = sp.at; past = false; depth = 0 }
  pub first : (facts : List Fact) → text_of t ≡ reads facts → FirstRow t sp.at facts
  pub left : (facts : List Fact) → text_of t ≡ reads facts → Left t sp (items_of facts)
