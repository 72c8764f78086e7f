-- How many bytes an atom has: its predicate's, and for each cell those of its word and two for what stands around it (a bracket or a
-- comma's half each): so a text is measured without a look at its brackets.
use Rattle.std.specs.Prelude.{ℕ, ◌+◌, List, [], ◌∷◌, length}
use Rattle.cell.specs.Cell.{values_at}
use Rattle.grammar.specs.Numbering.{Words}
use Rattle.termtext.specs.Saying.{symbol_word}
use Rattle.clauses.specs.Clauses.{Body, nothing, calls, Clause, handed}
use Rattle.clauses.specs.Text.{predicate_word}

unfoldable pub cell_bytes : Words → List ℕ → ℕ
cell_bytes words [] = 0
cell_bytes words (c ∷ cells) = length (symbol_word words (values_at c)) + 2 + cell_bytes words cells

abbrev pub atom_bytes : Words → (predicate : ℕ) → List ℕ → ℕ
atom_bytes words k cells = length (predicate_word k) + cell_bytes words cells

abbrev pub body_bytes : Words → (head : List ℕ) → Body → ℕ
body_bytes words head nothing = 0
body_bytes words head (calls j) = 4 + atom_bytes words j (handed head)

abbrev pub line_bytes : Words → Clause → ℕ
line_bytes words c = atom_bytes words c.predicate c.head + body_bytes words c.head c.body + 2

unfoldable pub program_bytes : Words → List Clause → ℕ
program_bytes words [] = 0
program_bytes words (c ∷ cs) = line_bytes words c + program_bytes words cs
