-- Two worked examples, computed by the definitions: 01's P1, and rows with a variable that stands twice (02, W-209) and a number below zero.
use mathlib.Core.Path.{◌≡◌, refl}
use mathlib.Core.List.{List, [], ◌∷◌}
use Prim.Native.Nat.{ℕ}
use native.Mathlib.Omega.{arith}
use Rattle.cell.specs.Cell.{name_cell, variable_cell, number_cell, values_at, arity, is_var}
use Rattle.term.specs.Terms.{root, close, front, back}
use Rattle.table.specs.Table.{count, appear, up_from}
use Rattle.octets.specs.Octets.{digits_of, decimal}
use Rattle.grammar.specs.Numbering.{Words}
use Rattle.termtext.specs.Saying.{symbol_word, closing, owing, terms_text, answer_text}
use Rattle.plan.specs.Runs.{agree}
use Rattle.plan.specs.Plans.{Plan, leaf, node, end, next}
use Rattle.answer.specs.Skeleton.{hole, fill, decide}
use Rattle.clauses.specs.Translate.{head_of, each, predicate}
use Rattle.clauses.specs.Program.{callees, own, below, numbered, program}
use Rattle.clauses.specs.Text.{program_text}

-- `a`, `b`, `c`, `d`, `f`
abbrev words : Words
words = (97 ∷ []) ∷ (98 ∷ []) ∷ (99 ∷ []) ∷ (100 ∷ []) ∷ (102 ∷ []) ∷ []

abbrev a : ℕ
a = name_cell 0 0

abbrev b : ℕ
b = name_cell 0 1

abbrev c : ℕ
c = name_cell 0 2

abbrev d : ℕ
d = name_cell 0 3

abbrev f1 : ℕ
f1 = name_cell 1 4

abbrev v0 : ℕ
v0 = variable_cell 0

-- (a,b,c) (a,b,d) (a,c,c) (b,a,c)
abbrev rows : List (List ℕ)
rows = (a ∷ b ∷ c ∷ []) ∷ (a ∷ b ∷ d ∷ []) ∷ (a ∷ c ∷ c ∷ []) ∷ (b ∷ a ∷ c ∷ []) ∷ []

unfoldable tree : Plan 3 rows
unfolding root close agree arity values_at is_var
tree = node {k = 2} 0 (omega arith)
    (next (node {k = 1} 0 (omega arith) (next (node {k = 0} 0 (omega arith) (next leaf (next leaf end)))
    (next (node {k = 0} 0 (omega arith) (next leaf end)) end)))
    (next (node {k = 1} 0 (omega arith) (next (node {k = 0} 0 (omega arith) (next leaf end)) end)) end))

text-p1 : program_text words (program tree) ≡
    39 ∷ 80 ∷ 48 ∷ 39 ∷ 40 ∷ 97 ∷ 44 ∷ 32 ∷ 95 ∷ 48 ∷ 44 ∷ 32 ∷ 95 ∷ 49 ∷ 41 ∷ 32 ∷ 58 ∷ 45 ∷ 32 ∷ 39 ∷ 80 ∷ 49 ∷ 39 ∷ 40 ∷ 95 ∷ 48 ∷ 44 ∷ 32 ∷ 95
    ∷ 49 ∷ 41 ∷ 46 ∷ 10 ∷ 39 ∷ 80 ∷ 48 ∷ 39 ∷ 40 ∷ 98 ∷ 44 ∷ 32 ∷ 97 ∷ 44 ∷ 32 ∷ 99 ∷ 41 ∷ 46 ∷ 10 ∷ 39 ∷ 80 ∷ 49 ∷ 39 ∷ 40 ∷ 98 ∷ 44 ∷ 32 ∷ 95
    ∷ 48 ∷ 41 ∷ 32 ∷ 58 ∷ 45 ∷ 32 ∷ 39 ∷ 80 ∷ 50 ∷ 39 ∷ 40 ∷ 95 ∷ 48 ∷ 41 ∷ 46 ∷ 10 ∷ 39 ∷ 80 ∷ 49 ∷ 39 ∷ 40 ∷ 99 ∷ 44 ∷ 32 ∷ 99 ∷ 41 ∷ 46 ∷ 10
    ∷ 39 ∷ 80 ∷ 50 ∷ 39 ∷ 40 ∷ 99 ∷ 41 ∷ 46 ∷ 10 ∷ 39 ∷ 80 ∷ 50 ∷ 39 ∷ 40 ∷ 100 ∷ 41 ∷ 46 ∷ 10 ∷ []
unfolding tree root close agree arity values_at is_var each predicate numbered own below callees head_of hole fill decide front back count appear up_from
    program_text answer_text terms_text symbol_word closing owing decimal digits_of
text-p1 = refl

-- (f1(v0),v0) (f1(a),b) (c,-1)
abbrev twice : List (List ℕ)
twice = (f1 ∷ v0 ∷ v0 ∷ []) ∷ (f1 ∷ a ∷ b ∷ []) ∷ (c ∷ number_cell 65535 ∷ []) ∷ []

unfoldable tree-twice : Plan 2 twice
unfolding root close agree arity values_at is_var
tree-twice = node {k = 1} 0 (omega arith)
    (next (node {k = 1} 0 (omega arith) (next (node {k = 0} 0 (omega arith) (next leaf end)) (next (node {k = 0} 0 (omega arith) (next leaf end)) end)))
    (next (node {k = 0} 0 (omega arith) (next leaf end)) end))

text-twice : program_text words (program tree-twice) ≡
    39 ∷ 80 ∷ 48 ∷ 39 ∷ 40 ∷ 102 ∷ 40 ∷ 95 ∷ 48 ∷ 41 ∷ 44 ∷ 32 ∷ 95 ∷ 49 ∷ 41 ∷ 32 ∷ 58 ∷ 45 ∷ 32 ∷ 39 ∷ 80 ∷ 49 ∷ 39 ∷ 40 ∷ 95 ∷ 48 ∷ 44 ∷ 32 ∷ 95
    ∷ 49 ∷ 41 ∷ 46 ∷ 10 ∷ 39 ∷ 80 ∷ 48 ∷ 39 ∷ 40 ∷ 99 ∷ 44 ∷ 32 ∷ 45 ∷ 49 ∷ 41 ∷ 46 ∷ 10 ∷ 39 ∷ 80 ∷ 49 ∷ 39 ∷ 40 ∷ 95 ∷ 48 ∷ 44 ∷ 32 ∷ 95 ∷ 48
    ∷ 41 ∷ 46 ∷ 10 ∷ 39 ∷ 80 ∷ 49 ∷ 39 ∷ 40 ∷ 97 ∷ 44 ∷ 32 ∷ 98 ∷ 41 ∷ 46 ∷ 10 ∷ []
unfolding tree-twice root close agree arity values_at is_var each predicate numbered own below callees head_of hole fill decide front back count appear
    up_from program_text answer_text terms_text symbol_word closing owing decimal digits_of
text-twice = refl
