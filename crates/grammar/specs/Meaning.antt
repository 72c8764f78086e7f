-- What a text's facts say (02, W-201): the cells of their table, the list of names, and the first fact of another predicate or width.
use Rattle.std.specs.Prelude.{ℕ, suc, ◌+◌, ◌-◌, ◌*◌, ◌^◌, Bool, cond, ◌&&◌, eqb, ltb, length}
use mathlib.Core.List.{List, [], ◌∷◌, ◌++◌, map, flatten}
use Rattle.std.proofs.Math.Seq.{slice}
use Rattle.cell.specs.Cell.{variable_cell, name_cell, number_cell}
use Rattle.cell.specs.Same.{same}
use Rattle.grammar.specs.Grammar.{Symbol, name, variable, number, Fact}

-- where a name or a variable stands: from a place up to another
pub record Place : Type 0 where
  pub start : ℕ
  pub end : ℕ

abbrev pub place : ℕ → ℕ → Place
place s e = record { start = s; end = e }

-- its bytes
abbrev pub bytes_at : List ℕ → Place → List ℕ
bytes_at t w = slice w.start w.end t

-- the position in a list of the first place that has these bytes; the list's length where there is none
unfoldable pub position : List ℕ → List ℕ → List Place → ℕ
position t w [] = 0
position t w (v ∷ vs) = cond (same w (bytes_at t v)) 0 (suc (position t w vs))

-- one more place, where the list has none with its bytes
unfoldable pub meet : List ℕ → List Place → Place → List Place
meet t ws w = cond (ltb (position t (bytes_at t w) ws) (length ws)) ws (ws ++ (w ∷ []))

-- "Names are numbered from 0 in order of first appearance": where each name first stands, some being listed before
unfoldable pub names_from : List ℕ → List Place → List Symbol → List Place
names_from t ws [] = ws
names_from t ws (name s e a ∷ ss) = names_from t (meet t ws (place s e)) ss
names_from t ws (variable s e ∷ ss) = names_from t ws ss
names_from t ws (number v ∷ ss) = names_from t ws ss

abbrev pub symbols_of : List Fact → List Symbol
symbols_of fs = flatten (map (λ (f : Fact). f.symbols) fs)

-- "the predicate's own name isn't numbered": the names among the arguments
abbrev pub names_of : List ℕ → List Fact → List Place
names_of t fs = names_from t [] (symbols_of fs)

-- 01, "Variables are numbered 0, 1, 2 in order of first appearance, in each row"; "`_` as a fresh variable each time": `_` is 95.
-- The number of a variable, those before it in a list; and the list with it
unfoldable pub variable_number : List ℕ → List Place → Place → ℕ
variable_number t vs w = cond (same (bytes_at t w) (95 ∷ [])) (length vs) (position t (bytes_at t w) vs)

unfoldable pub variables_with : List ℕ → List Place → Place → List Place
variables_with t vs w = cond (ltb (variable_number t vs w) (length vs)) vs (vs ++ (w ∷ []))

-- the cells of a row, a cell for each symbol, by the names and the variables listed
unfoldable pub cells_from : List ℕ → List Place → List Place → List Symbol → List ℕ
cells_from t ns vs [] = []
cells_from t ns vs (name s e a ∷ ss) = name_cell a (position t (bytes_at t (place s e)) ns) ∷ cells_from t ns vs ss
cells_from t ns vs (variable s e ∷ ss) = variable_cell (variable_number t vs (place s e)) ∷ cells_from t ns (variables_with t vs (place s e)) ss
cells_from t ns vs (number v ∷ ss) = number_cell v ∷ cells_from t ns vs ss

-- the width is the first fact's
unfoldable pub width_of : List Fact → ℕ
width_of [] = 0
width_of (f ∷ fs) = f.width

-- 01, "A table is: width, row count, then the rows"
unfoldable pub table_cells : List ℕ → List Fact → List ℕ
table_cells t fs = width_of fs ∷ length fs ∷ flatten (map (λ (f : Fact). cells_from t (names_of t fs) [] f.symbols) fs)

-- "a list of where each name first stands in the text, start and bytes": a number for each name, its start in bits 15..0, its bytes in
-- 31..16
abbrev pub entry_of : Place → ℕ
entry_of w = (w.end - w.start) * 2 ^ 16 + w.start

unfoldable pub name_list : List ℕ → List Fact → List ℕ
name_list t fs = map entry_of (names_of t fs)

-- "OTHER at the first fact of another predicate or width": than the first fact's
pub data Found : Type 0 where
  none : Found
  found : ℕ → Found

-- two facts have one predicate and width
abbrev pub alike : List ℕ → Fact → Fact → Bool
alike t f g = eqb f.width g.width && same (slice f.start f.end t) (slice g.start g.end t)

unfoldable pub other_than : List ℕ → Fact → List Fact → Found
other_than t f [] = none
other_than t f (g ∷ gs) = cond (alike t g f) (other_than t f gs) (found g.start)

unfoldable pub other_in : List ℕ → List Fact → Found
other_in t [] = none
other_in t (f ∷ fs) = other_than t f fs
