-- The lists of names of a text of facts and of a goal: every word is a name, no two are equal, and W-201's list says them of the text.
use Prim.Native.Nat.{ℕ, ◌≤◌}
use mathlib.Core.Path.{◌≡◌, refl, subst}
use mathlib.Core.List.{List, [], ◌∷◌, ◌++◌}
use native.Mathlib.Omega.{arith}
use lib.ListN.{length}
use Rattle.table.specs.All.{All}
use Rattle.table.proofs.AllLaws.{all-++}
use Rattle.grammar.specs.Grammar.{Symbol, Fact, Text}
use Rattle.grammar.specs.Meaning.{Place, symbols_of, names_of, name_list}
use Rattle.grammar.specs.Numbering as numbering
use Rattle.grammar.specs.Numbering.{Words, words_at, Firsts}
use Rattle.grammar.proofs.NthLaws.{Any, Parted, parted-none}
use Rattle.grammar.proofs.FirstLaws.{firsts-parted}
use Rattle.grammar.proofs.Numbered.{names-are}
use Rattle.lex.specs.Names.{IsName}
use Rattle.termtext.specs.Saying.{words_in}
use Rattle.termtext.specs.Goal.{Whole, stopped, unstopped, Goal, Asks}
use Rattle.termtext.proofs.SpellLaws.{lower-name}
use Rattle.termtext.proofs.ListLaws.{AllIn, listed-words, new-words}
use Rattle.replyback.proofs.StandLaws.{Stands, NameStands, FactStands, text-stands, symbols-stand}
use Rattle.replyback.proofs.ListedLaws.{Listed, row_listed}
use Rattle.limits.specs.Limits.{most_goal_bytes, most_text_bytes}

-- THE PLACES OF NAMES that first stand in a text
abbrev PlaceStands : List ℕ → Place → Type 0
PlaceStands t w = Stands t w.start w.end

module _ (t : List ℕ) where
  firsts-stand : {met : Words} {ss : List Symbol} {ns : List Place} → All (NameStands t) ss → Firsts t met ss ns → All (PlaceStands t) ns
  firsts-stand a numbering.none = tt
  firsts-stand a (numbering.first n f) = (a.0, firsts-stand a.1 f)
  firsts-stand a (numbering.again h f) = firsts-stand a.1 f
  firsts-stand a (numbering.a-variable f) = firsts-stand a.1 f
  firsts-stand a (numbering.a-number f) = firsts-stand a.1 f

  words-named : (ns : List Place) → All (PlaceStands t) ns → All IsName (words_at t ns)
  words-named [] a = tt
  words-named (n ∷ ns) a = (lower-name a.0.named, words-named ns a.1)

  stand-in : (ns : List Place) → All (PlaceStands t) ns → AllIn (length t) ns
  stand-in [] a = tt
  stand-in (n ∷ ns) a = (a.0.from, a.0.within, stand-in ns a.1)

-- words that are names, no two of them equal
pub record Names (words : Words) : Type 0 where
  pub each : All IsName words
  pub parted : Parted Any words

-- some that are so, and the new names of a fact after them
names_more : (t : List ℕ) {words : Words} {ss : List Symbol} {ns : List Place} → All (NameStands t) ss → Firsts t words ss ns → Names words
    → Names (words ++ words_at t ns)
names_more t {words} {ns = ns} a f n =
    record {
      each = all-++ IsName words (words_at t ns) n.each (words-named t ns (firsts-stand t a f));
      parted = firsts-parted t n.parted f;
    }

-- A TABLE'S NAMES
module _ (text : List ℕ) (facts : List Fact) (few : length text ≤ most_text_bytes) (x : Text text facts) where
  abbrev all-stand : All (NameStands text) (symbols_of facts)
  all-stand = symbols-stand text facts (text-stands text x)

  abbrev are-first : Firsts text [] (symbols_of facts) (names_of text facts)
  are-first = (names-are text facts (names_of text facts)).1 refl

  pub table-words : words_in text (name_list text facts) ≡ words_at text (names_of text facts)
  unfolding name_list
  table-words =
      listed-words text (length text) (names_of text facts) (omega arith)
      (stand-in text (names_of text facts) (firsts-stand text all-stand are-first))

  pub table-names : Names (words_in text (name_list text facts))
  table-names = rw table-words (names_more text all-stand are-first (record { each = tt; parted = parted-none Any }))

-- A GOAL'S, read against such words: with its new names they are so too, its cells have no other, and its predicate is a name
whole-text : {g whole : List ℕ} {fs : List Fact} → Whole g whole fs → Text whole fs
whole-text (stopped x) = x
whole-text (unstopped s x) = x

module _ {words : Words} {predicate goal : List ℕ} {width : ℕ} {G : Goal} (few : length goal ≤ most_goal_bytes)
    (a : Asks words predicate width goal G) where
  abbrev fact-stands : FactStands a.whole a.fact
  fact-stands = (text-stands a.whole (whole-text a.text)).0

  pub goal-names : Names words → Names (words ++ words_in goal G.new)
  goal-names n = rw (new-words a few) (names_more a.whole fact-stands.1 a.numbered.firsts n)

  pub goal-listed : length G.cells ≤ 32 → Listed (length (words ++ words_in goal G.new)) G.cells
  goal-listed h = rw (new-words a few) (row_listed a.numbered.row (omega arith))

  pub goal-called : IsName predicate
  goal-called = subst IsName a.ours.called (lower-name fact-stands.0.named)
