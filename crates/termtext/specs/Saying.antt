-- The text of an answer: its cells as one Prolog term of the facts' predicate, "in the file's own names (W-203's instance; variables as
-- `_0`, `_1`)". Defined for any cells, so that nothing has to be tested first; what it is for is in proofs/Back: it is read back as the
-- cells.
use Rattle.std.specs.Prelude.{ℕ, zero, suc, ◌+◌, ◌-◌, ◌%◌, ◌/◌, ◌≤◌, ◌<◌, ◌≡◌, cond, eqb, leb, length, get_or}
use mathlib.Core.List.{List, [], ◌∷◌, ◌++◌, map, Memᴰ}
use Rattle.std.proofs.Math.Seq.{slice}
use Rattle.cell.specs.Cell.{Cell, kind_of, number_of, Values, values_at, arity}
use Rattle.term.specs.Terms.{Terms}
use Rattle.table.specs.Table.{appear, up_from}
use Rattle.octets.specs.Octets.{decimal}
use Rattle.printing.specs.Printing.{signed_decimal}
use Rattle.grammar.specs.Numbering.{Words, Nth}
use Rattle.lex.specs.Names.{IsName}
use Rattle.termtext.specs.Goal.{Goal}
use Rattle.termtext.specs.declared.Predicate.{Predicate}
use Rattle.limits.specs.Limits.{most_reply_cells}

-- W-201's list of names has the start in bits 15..0 and the bytes in bits 31..16: the word that a number of the list says of a text
abbrev pub word_in : List ℕ → ℕ → List ℕ
word_in text name = slice (name % 65536) (name % 65536 + name / 65536) text

abbrev pub words_in : List ℕ → List ℕ → Words
words_in text names = map (word_in text) names

-- a variable's word: `_` (95) and its number
abbrev pub variable_word : ℕ → List ℕ
variable_word n = 95 ∷ decimal n

-- a name by its word, a number with its sign. A name that the list has not, and a number that is no cell of 01, have none
unfoldable pub symbol_word : Words → Values → List ℕ
symbol_word words v =
    cond (eqb v.kind 0) (variable_word v.number)
    (cond (eqb v.kind 1) (get_or words v.number [])
    (cond (eqb v.kind 2) (signed_decimal v.value)
    []))

-- How many terms are owed inside each bracket that is open, the innermost first, the one under way counted. After a complete term: `, `
-- where its bracket owes more; otherwise `)`, and what the bracket belongs to is complete too. `)`, `,` and the space are 41, 44, 32
unfoldable pub closing : List ℕ → List ℕ
closing [] = []
closing (n ∷ owed) = cond (leb n 1) (41 ∷ closing owed) (44 ∷ 32 ∷ [])

unfoldable pub owing : List ℕ → List ℕ
owing [] = []
owing (n ∷ owed) = cond (leb n 1) (owing owed) ((n - 1) ∷ owed)

-- after a symbol with so many arguments: `(` (40), and they are owed; without any it is a complete term
abbrev pub mark_after : ℕ → List ℕ → List ℕ
mark_after zero owed = closing owed
mark_after (suc a) owed = 40 ∷ []

abbrev pub owed_after : ℕ → List ℕ → List ℕ
owed_after zero owed = owing owed
owed_after (suc a) owed = suc a ∷ owed

-- the terms of some cells, with these owed
unfoldable pub terms_text : Words → List ℕ → List ℕ → List ℕ
terms_text words owed [] = []
terms_text words owed (c ∷ cells) =
    symbol_word words (values_at c) ++ (mark_after (arity c) owed ++ terms_text words (owed_after (arity c) owed) cells)

-- the predicate, and its arguments in brackets
unfoldable pub answer_text : Words → (predicate : List ℕ) (width : ℕ) (cells : List ℕ) → List ℕ
answer_text words predicate width cells = predicate ++ (40 ∷ terms_text words (width ∷ []) cells)

-- The same by texts: the facts' with its list of names, and the goal's with the list of those that it has beside them, for a rule with a
-- variable passes them on. No reply has over 1,024 cells (W-203), and for more of them nothing is said
abbrev pub words_of : (text names goal new : List ℕ) → Words
words_of text names goal new = words_in text names ++ words_in goal new

abbrev pub predicate_in : List ℕ → Predicate → List ℕ
predicate_in text p = slice p.start p.end text

unfoldable pub said_in : (text names goal new : List ℕ) → Predicate → (cells : List ℕ) → List ℕ
said_in text names goal new p cells =
    cond (leb (length cells) most_reply_cells) (answer_text (words_of text names goal new) (predicate_in text p) p.width cells) []

-- An answer: so many terms, good cells, "variables are numbered 0, 1, 2 in order of first appearance" (01); its names are in a list of
-- words, which are names as the predicate is one, and no two of them are equal. W-203's replies are such: crate `replyback`
pub record IsAnswer (words : Words) (predicate : List ℕ) (width : ℕ) (cells : List ℕ) : Type 0 where
  pub some : 1 ≤ width
  pub terms : Terms width cells
  pub good : (c : ℕ) → Memᴰ c cells → Cell c
  pub order : appear [] cells ≡ up_from 0 (length (appear [] cells))
  pub listed : (c : ℕ) → Memᴰ c cells → kind_of c ≡ 1 → number_of c < length words
  pub called : IsName predicate
  pub names : (k : ℕ) (w : List ℕ) → Nth words k w → IsName w
  pub apart : (j k : ℕ) (w : List ℕ) → Nth words j w → Nth words k w → j ≡ k

-- what it is read back as: a goal of its cells, with no new name
abbrev pub known : List ℕ → Goal
known cells = record { cells = cells; new = [] }
