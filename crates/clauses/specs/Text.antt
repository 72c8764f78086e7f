-- The text of a program, byte for byte (02, W-210): a clause to a line. Predicates are `'P0'`, `'P1'` and on: a quoted name that begins
-- with a capital is no name of W-201's ("the predicates' names can't clash with them"). Heads and calls are as `ask` prints an answer
-- (crate termtext): a blank after each comma, names by their words ("Names come from W-201's list"), numbers with their sign, variables as
-- `_0`, `_1`.
use Rattle.std.specs.Prelude.{ℕ, List, [], ◌∷◌, ◌++◌, length}
use Rattle.octets.specs.Octets.{decimal}
use Rattle.grammar.specs.Numbering.{Words}
use Rattle.termtext.specs.Saying.{answer_text}
use Rattle.clauses.specs.Clauses.{Body, nothing, calls, Clause, handed}

-- `'P`, the number, `'`: "the predicates' names can't clash with them"
abbrev pub predicate_word : ℕ → List ℕ
predicate_word k = 39 ∷ 80 ∷ (decimal k ++ (39 ∷ []))

-- a predicate with its arguments: "Names come from W-201's list"
abbrev pub atom_text : Words → (predicate width : ℕ) → List ℕ → List ℕ
atom_text words k w cells = answer_text words (predicate_word k) w cells

-- ` :- ` and a call, or nothing
abbrev pub body_text : Words → (head : List ℕ) → Body → List ℕ
body_text words head nothing = []
body_text words head (calls j) = 32 ∷ 58 ∷ 45 ∷ 32 ∷ atom_text words j (length (handed head)) (handed head)

-- a clause to a line: at its end `.` and a line feed
abbrev pub line_text : Words → Clause → List ℕ
line_text words c = atom_text words c.predicate c.width c.head ++ (body_text words c.head c.body ++ (46 ∷ 10 ∷ []))

-- "Write an accepted plan as clauses": one after another
unfoldable pub program_text : Words → List Clause → List ℕ
program_text words [] = []
program_text words (c ∷ cs) = line_text words c ++ program_text words cs
