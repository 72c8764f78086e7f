-- The symbols of a text in their order, what numbers they get, and how the names among them are counted. The promise of `texttable` rests on
-- `numbering`; no promise of the entry cites these definitions.
use Rattle.std.specs.Prelude.{ℕ, suc, ◌+◌, Bool, false, cond, ◌||◌}
use mathlib.Core.List.{List, [], ◌∷◌, ◌++◌, map, flatten}
use Rattle.cell.specs.Cell.{variable_cell, name_cell, number_cell}
use Rattle.grammar.specs.Grammar.{Symbol, name, variable, number, Fact}
use Rattle.cell.specs.Same.{same}
use Rattle.grammar.specs.Meaning.{Place, place, bytes_at, position, meet, variable_number, variables_with}

-- a symbol without its number of arguments; and that a row begins
pub data Item : Type 0 where
  of-name : Place → Item
  of-variable : Place → Item
  of_number : ℕ → Item
  next_row : Item

unfoldable pub item_of : Symbol → Item
item_of (name s e a) = of-name (place s e)
item_of (variable s e) = of-variable (place s e)
item_of (number v) = of_number v

abbrev pub items_in : List Symbol → List Item
items_in ss = map item_of ss

abbrev pub rows_in : List Fact → List Item
rows_in fs = flatten (map (λ (f : Fact). next_row ∷ items_in f.symbols) fs)

-- the fact under way and those after it
abbrev pub items_of : List Fact → List Item
items_of [] = []
items_of (f ∷ fs) = items_in f.symbols ++ rows_in fs

-- how many of the items are symbols
unfoldable pub symbols_among : List Item → ℕ
symbols_among [] = 0
symbols_among (of-name w ∷ xs) = suc (symbols_among xs)
symbols_among (of-variable w ∷ xs) = suc (symbols_among xs)
symbols_among (of_number v ∷ xs) = suc (symbols_among xs)
symbols_among (next_row ∷ xs) = symbols_among xs

-- the names that are listed once these items are met too
unfoldable pub names_met : List ℕ → List Place → List Item → List Place
names_met t ns [] = ns
names_met t ns (of-name w ∷ xs) = names_met t (meet t ns w) xs
names_met t ns (of-variable w ∷ xs) = names_met t ns xs
names_met t ns (of_number v ∷ xs) = names_met t ns xs
names_met t ns (next_row ∷ xs) = names_met t ns xs

-- the number of each symbol: a name's by the list so far, a variable's by its row's list so far, a number's value
unfoldable pub numbering : List ℕ → List Place → List Place → List Item → List ℕ
numbering t ns vs [] = []
numbering t ns vs (of-name w ∷ xs) = position t (bytes_at t w) (meet t ns w) ∷ numbering t (meet t ns w) vs xs
numbering t ns vs (of-variable w ∷ xs) = variable_number t vs w ∷ numbering t ns (variables_with t vs w) xs
numbering t ns vs (of_number v ∷ xs) = v ∷ numbering t ns vs xs
numbering t ns vs (next_row ∷ xs) = numbering t ns [] xs

-- the cells of symbols by their numbers
abbrev pub shape_of : Symbol → ℕ → ℕ
shape_of (name s e a) n = name_cell a n
shape_of (variable s e) n = variable_cell n
shape_of (number v) n = number_cell n

unfoldable pub shapes : List Symbol → List ℕ → List ℕ
shapes [] ns = []
shapes (x ∷ ss) [] = shape_of x 0 ∷ shapes ss []
shapes (x ∷ ss) (n ∷ ns) = shape_of x n ∷ shapes ss ns

-- whether a word is met as a name; and how many of some words are not
unfoldable pub met_in : List ℕ → List ℕ → List Item → Bool
met_in t w [] = false
met_in t w (of-name v ∷ xs) = same (bytes_at t v) w || met_in t w xs
met_in t w (of-variable v ∷ xs) = met_in t w xs
met_in t w (of_number v ∷ xs) = met_in t w xs
met_in t w (next_row ∷ xs) = met_in t w xs

unfoldable pub unmet : List ℕ → List Item → List Place → ℕ
unmet t xs [] = 0
unmet t xs (b ∷ bs) = cond (met_in t (bytes_at t b) xs) 0 1 + unmet t xs bs
