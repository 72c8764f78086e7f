-- Two texts with what is printed for them, computed by the definitions.
use mathlib.Core.Path.{◌≡◌, refl, subst}
use mathlib.Core.List.{List, [], ◌∷◌, ◌++◌, flatten}
use Prim.Native.Nat.{ℕ, ◌+◌, ◌*◌, ◌^◌}
use Rattle.cell.specs.Cell.{values_at, variable_cell, name_cell, number_cell}
use Rattle.refusal.specs.Refusal.{refused}
use Rattle.refusal.specs.Read.{read, refuse}
use Rattle.refusal.specs.declared.Reason.TheVariants as reason
use Rattle.refusal.specs.declared.Input.TheVariants as input
use Rattle.octets.specs.Octets.{digits_of, decimal}
use Rattle.printing.specs.Printing.{symbol_of, refusal}
use Rattle.table.specs.Table.{Table, table, terms_from, rows_from, table_of}
use Rattle.grammar.specs.Grammar.{is_lower, is_upper, is_digit, is_word}
use Rattle.cell.specs.Same.{same, among}
use Rattle.grammar.specs.Meaning.{position, meet, names_from, variable_number, variables_with, cells_from}
use Rattle.grammar.specs.Meaning.{width_of, table_cells, name_list, other_than, other_in}
use Rattle.grammar.specs.Reader.{is_blank, layout, push, put, on_comma, on_close, past, step, finish, run, text_of}
use Rattle.grammar.proofs.Fixed.{taken_of}
use Rattle.grammar.proofs.Examples.{bytes}
use Rattle.loading.specs.Load.{Loaded, Loads}
use Rattle.loading.proofs.Fixed.{load_of, load-holds}
use Rattle.textlines.specs.Lines.{heading, row_line, name_line, lines_of, cell_room, name_room, Prints, refused as turned, printed}

-- the text that is stored with `textlist`
unfoldable pub text : List ℕ
text = bytes "p(red,X,f(red,_,09)). % c\np(blue,_,9).\n"

abbrev first : List ℕ
first = name_cell 0 0 ∷ variable_cell 0 ∷ name_cell 3 1 ∷ name_cell 0 0 ∷ variable_cell 1 ∷ number_cell 9 ∷ []

abbrev second : List ℕ
second = name_cell 0 2 ∷ variable_cell 0 ∷ number_cell 9 ∷ []

unfoldable rows : Table
rows = table 3 (first ∷ second ∷ [])

unfoldable what : Loaded
what = record { cells = 3 ∷ 2 ∷ (first ++ second); names = (3 * 2 ^ 16 + 2) ∷ (1 * 2 ^ 16 + 8) ∷ (4 * 2 ^ 16 + 28) ∷ [] }

-- its lines, as they are stored
unfoldable pub output : List ℕ
output = bytes "cells 11 names 3\nn0/0 v0 n1/3 n0/0 v1 i9\nn2/0 v0 i9\n2 3\n8 1\n28 4\n"

loads : load_of text cell_room name_room ≡ read what
unfolding text what bytes load_of taken_of text_of run step layout push put on_comma on_close past finish is_blank is_lower is_upper is_digit is_word table_cells
    name_list names_from meet position same cells_from variable_number variables_with width_of other_in other_than flatten table_of rows_from among terms_from
    values_at
loads = refl

reads : table_of what.cells ≡ read rows
unfolding what rows table_of rows_from among terms_from values_at
reads = refl

lines : lines_of what rows ≡ output
unfolding what rows output bytes heading row_line name_line flatten decimal digits_of symbol_of values_at
lines = refl

pub prints-table : Prints text output
prints-table =
    let says = subst (Loads text cell_room name_room) loads (load-holds text cell_room name_room) in
    subst (Prints text) lines (printed what rows says reads)

-- a full stop that is missing
unfoldable pub other : List ℕ
other = bytes "p(a)"

stops : load_of other cell_room name_room ≡ refuse (refused reason.Text input.Text 4)
unfolding other bytes load_of taken_of text_of run step layout push put on_comma on_close past finish is_blank is_lower is_upper is_digit is_word
stops = refl

line : refusal 18 4 ≡ bytes "refused 18 at 4\n"
unfolding bytes refusal decimal digits_of
line = refl

pub prints-refusal : Prints other (bytes "refused 18 at 4\n")
prints-refusal =
    let says = subst (Loads other cell_room name_room) stops (load-holds other cell_room name_room) in
    subst (Prints other) line (turned (refused reason.Text input.Text 4) says)
