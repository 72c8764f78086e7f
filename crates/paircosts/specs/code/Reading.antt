-- How the values of a pair are read off the notes at the cells of its first row: the cheapest of the open places that may be chosen (02,
-- W-213), and what the closed cells weigh, over all columns or over the named ones.
use Rattle.std.specs.Prelude.{ℕ, zero, suc, ◌+◌, ◌-◌, ◌*◌, ◌≤◌, ◌<◌, ◌≡◌, Bool, true, false, cond, ◌&&◌, ◌||◌, List, [], ◌∷◌, ltb}
use Rattle.state.specs.Flags.{flags_in}
use Rattle.least.specs.code.Best.{first_over, least_over}
use Rattle.paircosts.specs.declared.arrays.Note.{Note}
use Rattle.paircosts.specs.declared.arrays.Row.{Row}
use Rattle.paircosts.specs.declared.arrays.Choice.{Choice}
use Rattle.paircosts.specs.declared.arrays.Base.{Base}
use Rattle.paircosts.specs.declared.arrays.Found.{Found}
use Rattle.paircosts.specs.declared.arrays.Part.{Part}
use Rattle.paircosts.specs.declared.arrays.Asked.{Asked}
use Rattle.paircosts.specs.code.Notes.{Fair, note_in, read_in, end_in, weight_in, most_agreed, Long}
use Rattle.limits.specs.Limits.{most_rows, most_table_cells}

abbrev pub choice_of : ℕ → ℕ → Choice
choice_of c i = record { cost = c; place = i }

abbrev pub base_of : ℕ → ℕ → Base
base_of a f = record { agreed = a; figure = f }

abbrev pub found_of : Choice → ℕ → Found
found_of b k = record { best = b; place = k }

abbrev pub part_of : ℕ → Bool → Part
part_of a b = record { agreed = a; only = b }

-- what an open place costs by its note, where a run costs W and the closed cells weigh `agreed`: what its runs cost together, less `agreed`
-- for each run, and the state's own figure
abbrev pub price_of : (W : ℕ → ℕ → ℕ) (first agreed figure : ℕ) → Note → ℕ
price_of W first agreed figure s = figure + (s.sum + W first s.to - s.runs * agreed)

-- no place costs as much
abbrev pub too_much : ℕ
too_much = 4294967295

-- the first at which F is least of the first k places, of those for which `ok` holds, and F there
unfoldable pub best_to : (ok : ℕ → Bool) (F : ℕ → ℕ) → ℕ → Choice
best_to ok F zero = choice_of too_much 0
best_to ok F (suc k) = cond (ok k && ltb (F k) (best_to ok F k).cost) (choice_of (F k) k) (best_to ok F k)

abbrev pub found_to : (ok : ℕ → Bool) (F : ℕ → ℕ) → ℕ → Found
found_to ok F k = found_of (best_to ok F k) k

-- the same by least's definitions, where one is open
abbrev pub choice_over : (ok : ℕ → Bool) (F : ℕ → ℕ) → ℕ → Choice
choice_over ok F k = choice_of (least_over ok k F) (first_over ok k F)

-- whether it holds for one of the first k places
unfoldable pub some_to : (ok : ℕ → Bool) → ℕ → Bool
some_to ok zero = false
some_to ok (suc k) = some_to ok k || ok k

-- the closed cells, by whether a place inside named columns is open: those inside them, or all
abbrev pub sort_of : (agreed weight : ℕ) → Bool → Part
sort_of agreed weight b = cond b (part_of weight true) (part_of agreed false)

-- The notes at some cells of a row as they are read, from a cell on, where so many open places are passed, up to the stop, where there are
-- `opens` in all; `ends` is where the term at a cell ends, and `weighs` what the cell weighs. The closed cells among them weigh `weight`,
-- and the note of each open place is what it has to be
pub data Shown (notes : ℕ → Note) (ends weighs : ℕ → ℕ) (Is : ℕ → Note → Type 0) (stop opens : ℕ) : (at passed weight : ℕ) → Type 0 where
  at-end : Shown notes ends weighs Is stop opens stop opens 0
  at-closed : {at passed weight : ℕ} → at < stop → (notes at).runs ≡ 1 → Shown notes ends weighs Is stop opens (suc at) passed weight
      → Shown notes ends weighs Is stop opens at passed (weighs at + weight)
  at_open : {at passed weight : ℕ} → at < stop → at < ends at → 1 < (notes at).runs → Is passed (notes at)
      → Shown notes ends weighs Is stop opens (ends at) (suc passed) weight → Shown notes ends weighs Is stop opens at passed weight

-- The same column by column, with a flag for each. One that has none is passed whole: it is one open place, which is not looked at
pub data ShownIn (notes : ℕ → Note) (ends weighs : ℕ → ℕ) (Is : ℕ → Note → Type 0) (Out : ℕ → Type 0) (stop opens : ℕ)
    : (flags : List Bool) (at passed weight : ℕ) → Type 0 where
  no_more : ShownIn notes ends weighs Is Out stop opens [] stop opens 0
  in-column : {flags : List Bool} {at passed next weight more : ℕ} → at < ends at
      → Shown notes ends weighs Is (ends at) next at passed weight → ShownIn notes ends weighs Is Out stop opens flags (ends at) next more
      → ShownIn notes ends weighs Is Out stop opens (true ∷ flags) at passed (weight + more)
  past-column : {flags : List Bool} {at passed more : ℕ} → at < ends at → Out passed
      → ShownIn notes ends weighs Is Out stop opens flags (ends at) (suc passed) more
      → ShownIn notes ends weighs Is Out stop opens (false ∷ flags) at passed more

-- What is given of a pair: what a run costs that begins at its first row, which of its open places may be chosen, and their prices, where
-- the closed cells weigh `agreed`. What a run costs is kept for each that ends before the last row
pub record Pair (kept : List ℕ) (first agreed figure : ℕ) : Type 0 where
  pub costs : ℕ → ℕ → ℕ
  pub last : ℕ
  pub ok : ℕ → Bool
  pub prices : ℕ → ℕ
  pub known : (j : ℕ) → first ≤ j → j < last → read_in kept first j ≡ costs first j
  pub small : (j : ℕ) → first ≤ j → j ≤ last → costs first j ≤ 65535
  pub few : (agreed ≤ most_agreed) × (figure ≤ 15)
  pub rows : (first ≤ last) × (last < most_rows)
  pub long : Long kept

-- the note of an open place that may be chosen gives its price
pub record Priced (costs : ℕ → ℕ → ℕ) (first last agreed figure : ℕ) (ok : ℕ → Bool) (prices : ℕ → ℕ) (place : ℕ) (noted : Note)
    : Type 0 where
  pub price : prices place ≡ price_of costs first agreed figure noted
  pub fair : Fair first last noted
  pub may : ok place ≡ true

abbrev pub PricedOf : {kept : List ℕ} {first agreed figure : ℕ} → Pair kept first agreed figure → ℕ → Note → Type 0
PricedOf {first = first} {agreed} {figure} pair = Priced pair.costs first pair.last agreed figure pair.ok pair.prices

-- the open places in a range of cells of its first row, where those before them are looked at
pub record Range (marks kept : List ℕ) (notes : List Note) (range : Row) (base : Base) (found : Found) : Type 0 where
  pub pair : Pair kept range.number base.agreed base.figure
  pub opens : ℕ
  pub weight : ℕ
  pub shown : Shown (note_in notes) (end_in marks) (weight_in marks) (PricedOf pair) range.end opens range.start found.place weight
  pub so_far : found.best ≡ best_to pair.ok pair.prices found.place
  pub within : (range.end ≤ most_table_cells) × (found.place ≤ range.start)

-- all of them, where those inside named columns alone may be chosen
pub record Inside (marks kept : List ℕ) (notes : List Note) (row : Row) (base : Base) (named : ℕ) : Type 0 where
  pub pair : Pair kept row.number base.agreed base.figure
  pub width : ℕ
  pub opens : ℕ
  pub weight : ℕ
  pub shown : ShownIn (note_in notes) (end_in marks) (weight_in marks) (PricedOf pair) (λ (p : ℕ). pair.ok p ≡ false) row.end opens
      (flags_in width named) row.start 0 weight
  pub within : row.end ≤ most_table_cells

-- a named column, where those before it are looked at: `ok` are the open places inside named columns
pub record Column (marks : List ℕ) (notes : List Note) (start end : ℕ) (part : Part) : Type 0 where
  pub ok : ℕ → Bool
  pub passed : ℕ
  pub opens : ℕ
  pub weight : ℕ
  pub shown : Shown (note_in notes) (end_in marks) (weight_in marks) (λ (p : ℕ) (s : Note). ok p ≡ true) end opens start passed weight
  pub so_far : part.only ≡ some_to ok passed
  pub light : part.agreed ≤ 7 * start
  pub within : end ≤ most_table_cells

-- all columns
pub record Columns (marks : List ℕ) (notes : List Note) (start end named : ℕ) : Type 0 where
  pub ok : ℕ → Bool
  pub width : ℕ
  pub opens : ℕ
  pub weight : ℕ
  pub shown : ShownIn (note_in notes) (end_in marks) (weight_in marks) (λ (p : ℕ) (s : Note). ok p ≡ true) (λ (p : ℕ). ok p ≡ false)
      end opens (flags_in width named) start 0 weight
  pub within : end ≤ most_table_cells

-- the open places of a pair, by which of them may be chosen: all, or those inside named columns, of which there is one
pub record Sorted (marks kept : List ℕ) (notes : List Note) (row : Row) (part : Part) (asked : Asked) : Type 0 where
  pub pair : Pair kept row.number part.agreed asked.figure
  pub opens : ℕ
  pub all : part.only ≡ false → (weight : ℕ)
      × Shown (note_in notes) (end_in marks) (weight_in marks) (PricedOf pair) row.end opens row.start 0 weight
  pub inside : part.only ≡ true → (0 < opens) × (width : ℕ) × (weight : ℕ)
      × ShownIn (note_in notes) (end_in marks) (weight_in marks) (PricedOf pair) (λ (p : ℕ). pair.ok p ≡ false) row.end opens
      (flags_in width asked.named) row.start 0 weight
  pub some : 0 < opens → (j : ℕ) × (j < opens) × (pair.ok j ≡ true)
  pub cheap : (j : ℕ) → j < opens → pair.ok j ≡ true → pair.prices j ≤ 4300000
  pub within : row.end ≤ most_table_cells
