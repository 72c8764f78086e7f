-- The code's own steps, in which the cells of a row or of a goal are looked at: one cell, and cells one after another. That the cells of
-- whole terms are read so is `terms-pass` of proofs/WholeLaws.
use Rattle.std.specs.Prelude.{ℕ, suc, ◌≡◌, Bool, cond, ◌&&◌, List, [], ◌∷◌, leb, Result, Ok, Err}
use Rattle.cell.specs.Cell.{values_at}
use Rattle.slices.specs.Slices.{between}
use Rattle.samerows.specs.Marks.{mark_of}
use Rattle.table.specs.declared.terms.Tested.{Tested}
use Rattle.table.specs.declared.terms.TermsRead.{TermsRead}
use Rattle.refusal.specs.declared.Refusal.{Refusal}
use Rattle.refusal.specs.Refusal.{Refused, told}
use Rattle.refusal.specs.declared.Reason.TheVariants as reason
use Rattle.refusal.specs.Read.{Read, read, refuse, and_then}
use Rattle.table.specs.Table.{Met, met, bad_term, counted, cell_tests}
use Rattle.limits.specs.Limits.{most_row_cells}

-- one cell: the variables met once it is read, or why it is turned away
unfoldable pub cell_from : Bool → ℕ → ℕ → ℕ → Read ℕ
cell_from row c vars p = cell_tests row (values_at c) vars p (read (counted (values_at c) vars))

-- cells from left to right, the first at place p: the variables met, or the first refusal
unfoldable pub cells_from : Bool → List ℕ → ℕ → ℕ → Read ℕ
cells_from row [] vars p = read vars
cells_from row (c ∷ xs) vars p = and_then (cell_from row c vars p) (λ (v : ℕ). cells_from row xs v (suc p))

-- the cells are used up at place p, so many of them, before the terms are complete: LONG in a row that has its 32, otherwise SHORT
abbrev pub not_whole : Bool → ℕ → ℕ → Refused
not_whole row used p = bad_term row (cond (row && leb most_row_cells used) reason.Long reason.Short) p

-- what the code's answers say of one cell; one that is turned away has no arguments
abbrev pub tested_told : Result Tested Refusal → Read ℕ
tested_told (Ok t) = read t.vars
tested_told (Err f) = refuse (told f)

abbrev pub args_told : Result Tested Refusal → ℕ
args_told (Ok t) = t.args
args_told (Err f) = 0

-- and of terms
abbrev pub terms_told : Result TermsRead Refusal → Read Met
terms_told (Ok t) = read (met t.end t.vars)
terms_told (Err f) = refuse (told f)

-- the mark is that of the cells from a place up to the end of the terms
abbrev pub MarkTold : List ℕ → ℕ → Result TermsRead Refusal → Type 0
MarkTold cells from (Ok t) = t.mark ≡ mark_of (between from t.end cells)
MarkTold cells from (Err f) = Unit {0}
