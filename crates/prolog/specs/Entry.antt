-- What the entry answers, in the words of the promise (loading/specs/Load).
use Rattle.std.specs.Prelude.{ℕ, ◌≤◌, ◌<◌, List, length, Result, Ok, Err}
use Rattle.refusal.specs.Refusal.{told, Answer, answered, turned}
use Rattle.refusal.specs.Read.{refuse}
use Rattle.refusal.specs.declared.Refusal.{Refusal}
use Rattle.grammar.specs.Meaning.{table_cells, name_list}
use Rattle.grammar.specs.Taken.{Taken}
use Rattle.loading.specs.Load.{put_first}
use Rattle.scan.specs.Scan.{Counts}
use Rattle.scan.specs.declared.Counted.{Counted}
use Rattle.prolog.specs.declared.TextSize.{TextSize}
use Rattle.prolog.specs.declared.FactsMade.{FactsMade}
use Rattle.prolog.specs.declared.FactsMade.TheVariants as facts-made
use Rattle.limits.specs.Limits.{most_names}

-- the cells written and the names listed
abbrev pub text_told : Result TextSize Refusal → Answer
text_told (Ok n) = answered n.cells n.names
text_told (Err f) = turned (told f)

abbrev pub sizes : ℕ → ℕ → TextSize
sizes cells names = record { cells = cells; names = names }

-- what is answered for a text that is made and not read as a table: its cells and its names at the front of two rooms, the rest of which is as
-- it was; and nothing is written where it has too many symbols for a table, or is turned away
pub data FactsAre (t made list : List ℕ) : List ℕ → List ℕ → Result FactsMade Refusal → Type 0 where
  are-made : {c : Counted} (C : Counts t c) → c.symbols ≤ most_names
      → FactsAre t made list (put_first (table_cells t C.facts) made) (put_first (name_list t C.facts) list)
      (Ok (facts-made.Made c (sizes (length (table_cells t C.facts)) (length (name_list t C.facts)))))
  too_long : {c : Counted} → Counts t c → most_names < c.symbols → FactsAre t made list made list (Ok (facts-made.Long c))
  not_taken : {f : Refusal} → Taken t (refuse (told f)) → FactsAre t made list made list (Err f)
