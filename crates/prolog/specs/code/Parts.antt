-- What the entry's parts hand to one another (src/lib.rt). These definitions describe the code's own state; no promise of the entry cites
-- them.
use Rattle.std.specs.Prelude.{ℕ, ◌≡◌, cond, List, ltb, Result}
use Rattle.refusal.specs.Refusal.{Answer, refused, turned}
use Rattle.refusal.specs.Read.{Read, read, refuse}
use Rattle.refusal.specs.declared.Reason.TheVariants as reason
use Rattle.refusal.specs.declared.Input.TheVariants as input
use Rattle.table.specs.Table.{Table, table_of}
use Rattle.loading.specs.Load.{Loaded, load_says, cells_after, names_after}
use Rattle.prolog.specs.Entry.{text_told}
use Rattle.prolog.specs.declared.TextSize.{TextSize}
use Rattle.refusal.specs.declared.Refusal.{Refusal}

-- what is answered for too many symbols, with so many names and room for so many
abbrev pub over_of : ℕ → ℕ → Answer
over_of n room = turned (cond (ltb room n) (refused reason.Room input.Lent n) (refused reason.Length input.Table 0))

-- the cells are read as a table, and then both are copied
abbrev pub given : List ℕ → List ℕ → Read Table → Read Loaded
given made list (read T) = read (record { cells = made; names = list })
given made list (refuse f) = refuse f

pub record Gives (made list cells names cells' names' : List ℕ) (r : Result TextSize Refusal) : Type 0 where
  pub told : text_told r ≡ load_says (given made list (table_of made))
  pub wrote : cells' ≡ cells_after (given made list (table_of made)) cells
  pub listed : names' ≡ names_after (given made list (table_of made)) names
