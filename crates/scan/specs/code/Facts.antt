-- The facts of a text, read and counted.
use Rattle.std.specs.Prelude.{ℕ, ◌+◌, ◌*◌, ◌≤◌, ◌<◌, ◌≡◌, Bool, cond, List, [], ◌∷◌, eqb, length, drop, Option, Some, None, Result, Ok, Err}
use Rattle.refusal.specs.Refusal.{refused}
use Rattle.refusal.specs.Read.{Read, read, refuse}
use Rattle.refusal.specs.declared.Reason.TheVariants as reason
use Rattle.refusal.specs.declared.Input.TheVariants as input
use Rattle.grammar.specs.Grammar.{Symbol, Fact, fact}
use Rattle.grammar.specs.Meaning.{none, Found, found, alike, other_in, symbols_of}
use Rattle.grammar.specs.Reader.{stop, Work, nothing, Out, stops, reads, fact_before, run, text_of}
use Rattle.lex.specs.Heads.{fact_mode}
use Rattle.scan.specs.Scan.{counted_as}
use Rattle.scan.specs.declared.Counted.{Counted}
use Rattle.scan.specs.declared.facts.Seen.{Seen}
use Rattle.scan.specs.declared.facts.Tally.{Tally}
use Rattle.lex.specs.declared.Stop.{Stop}

-- the fact that was seen, with its symbols, which are not kept
abbrev pub seen_fact : Seen → List Symbol → Fact
seen_fact x out = fact x.start x.end x.width out

-- a fact that is read: its numbers, and the text after it
pub record FactFits (t : List ℕ) (at : ℕ) (first : Bool) (x : Seen) : Type 0 where
  pub from : (at ≤ x.start) × (x.start < x.end)
  pub within : (x.end < x.next) × (x.next ≤ length t)
  pub few : x.symbols ≤ x.next
  pub out : List Symbol
  pub count : length out ≡ x.symbols
  pub same : (w : Work) → run (drop at t) (fact_mode first) w at ≡ fact_before (seen_fact x out) (run (drop x.next t) stop nothing x.next)

abbrev pub FactIs : List ℕ → ℕ → Bool → Result (Option Seen) Stop → Type 0
FactIs t at first (Ok None) = (w : Work) → run (drop at t) (fact_mode first) w at ≡ reads []
FactIs t at first (Ok (Some x)) = FactFits t at first x
FactIs t at first (Err p) = (w : Work) → run (drop at t) (fact_mode first) w at ≡ stops p.at

abbrev pub tally_of : ℕ → ℕ → ℕ → ℕ → ℕ → Option ℕ → Tally
tally_of n s e w m o = record { facts = n; start = s; end = e; width = w; symbols = m; other = o }

abbrev pub no_facts : Tally
no_facts = tally_of 0 0 0 0 0 None

-- the first fact, as far as it is kept
abbrev pub first_of : Tally → Fact
first_of c = fact c.start c.end c.width []

abbrev pub like_first : List ℕ → Tally → Seen → Bool
like_first t c x = alike t (seen_fact x []) (first_of c)

-- where the first other fact begins: one before, or this one, or none
abbrev pub later : Option ℕ → Option ℕ → Option ℕ
later (Some p) o = Some p
later None o = o

unfoldable pub later_other : List ℕ → Tally → Seen → Option ℕ
later_other t c x = later c.other (cond (like_first t c x) None (Some x.start))

-- one fact more
unfoldable pub with_fact : List ℕ → Tally → Seen → Tally
with_fact text tally seen =
    cond (eqb tally.facts 0) (tally_of 1 seen.start seen.end seen.width seen.symbols None)
    (tally_of (tally.facts + 1) tally.start tally.end tally.width (tally.symbols + seen.symbols) (later_other text tally seen))

-- the numbers: nothing is out of range
pub record Sized (t : List ℕ) (c : Tally) (x : Seen) : Type 0 where
  pub first : (c.start ≤ c.end) × (c.end ≤ length t)
  pub this : (x.start ≤ x.end) × (x.end ≤ length t)
  pub few : (c.facts ≤ 65535) × (x.symbols ≤ 65535)
  pub sum : c.symbols ≤ 65535 * c.facts

-- the same of the facts so far, which end before a place
pub record FactsKept (t : List ℕ) (at : ℕ) (c : Tally) : Type 0 where
  pub first : (c.start ≤ c.end) × (c.end ≤ length t)
  pub few : c.facts ≤ at
  pub sum : c.symbols ≤ 65535 * c.facts

-- where it begins
abbrev pub other_said : Option ℕ → Found
other_said (Some p) = found p
other_said None = none

-- the facts so far, as far as they are kept
abbrev pub FirstIs : List Fact → Tally → Type 0
FirstIs [] c = c.width ≡ 0
FirstIs (f ∷ fs) c = (f.start ≡ c.start) × (f.end ≡ c.end) × (f.width ≡ c.width)

pub record Tallied (t : List ℕ) (fs : List Fact) (c : Tally) : Type 0 where
  pub number : length fs ≡ c.facts
  pub symbols : length (symbols_of fs) ≡ c.symbols
  pub first : FirstIs fs c
  pub other : other_in t fs ≡ other_said c.other

-- and then what is read
unfoldable pub with_facts : List Fact → Out → Out
with_facts [] o = o
with_facts (f ∷ fs) o = fact_before f (with_facts fs o)

pub record Going (t : List ℕ) (at : ℕ) (first : Bool) (c : Tally) : Type 0 where
  pub facts : List Fact
  pub counts : Tallied t facts c
  pub same : text_of t ≡ with_facts facts (run (drop at t) (fact_mode first) nothing at)

-- what is answered for facts that are counted
abbrev pub other_or : Option ℕ → Counted → Read Counted
other_or (Some p) n = refuse (refused reason.Other input.Text p)
other_or None n = read n

abbrev pub verdict_of : Tally → Read Counted
verdict_of c = other_or c.other (counted_as c.facts c.width c.symbols)
