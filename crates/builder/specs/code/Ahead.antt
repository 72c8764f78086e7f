-- A state's rows of which the first open terms are passed, since they are known not to be agreed: for each the mask of the cells after them.
use Rattle.std.specs.Prelude.{ℕ, zero, suc, ◌+◌, ◌*◌, ◌/◌, ◌≤◌, ◌<◌, ◌≡◌, cond, List, [], ◌∷◌, map, length, get_or, drop}
use Rattle.std.proofs.lemmas.List.Edits.{sets}
use Rattle.cell.specs.Cell.{arity}
use Rattle.term.specs.Terms.{close}
use Rattle.table.specs.All.{All}
use Rattle.plan.specs.Plans.{write}
use Rattle.plan.specs.code.Fits.{Fits}
use Rattle.state.specs.Flags.{flags_in}
use Rattle.state.specs.Mask.{odd}
use Rattle.state.specs.States.{rows_in, Same}
use Rattle.least.specs.code.Follow.{agreed_from}
use Rattle.builder.specs.code.Writing.{open_in, ToWrite}
use Rattle.limits.specs.Limits.{most_row_cells, most_rows}

-- the mask without the cells of its first i open terms
unfoldable pub ahead_of : ℕ → ℕ → List ℕ → ℕ
ahead_of i m [] = m
ahead_of zero m (c ∷ xs) = m
ahead_of (suc i) m (c ∷ xs) = cond (odd m) (2 * ahead_of (arity c + i) (m / 2) xs) (2 * ahead_of (suc i) (m / 2) xs)

-- the rows from first to before end have their masks in ms, and without their first `from` open terms in ls
pub record AheadIn (t ss ms ls : List ℕ) (from first end : ℕ) : Type 0 where
  pub each : (r : ℕ) → first ≤ r → r < end → get_or ls r 0 ≡ ahead_of from (get_or ms r 0) (drop (get_or ss r 0) t)

-- a row whose place j after those that are passed is to be closed: there is such a place; and the row with its place i closed, the terms
-- before it being passed
pub record ToCloseRow (t : List ℕ) (start m a j : ℕ) : Type 0 where
  pub from : ℕ
  pub opens : ℕ
  pub inside : from + j < opens
  pub ahead : a ≡ ahead_of from m (drop start t)
  pub fits : Fits most_row_cells opens (open_in t start m)

pub record ClosedRow (t : List ℕ) (start m i m' a' : ℕ) : Type 0 where
  pub row : open_in t start m' ≡ close i (open_in t start m)
  pub ahead : a' ≡ ahead_of i m' (drop start t)

-- rows whose place j after those that are passed is to be closed: there is such a place in each
pub record ToClose (t ss ms ls : List ℕ) (j first end : ℕ) : Type 0 where
  pub masks : length ms ≡ most_rows
  pub aheads : length ls ≡ most_rows
  pub few : end ≤ most_rows
  pub from : ℕ
  pub opens : ℕ
  pub inside : from + j < opens
  pub ahead : AheadIn t ss ms ls from first end
  pub rows : All (Fits most_row_cells opens) (rows_in t ss ms first end)

-- place i is closed in each, and the terms before it are passed; masks of the rows after these are as they were
pub record ClosedAhead (t ss ms ms' ls' : List ℕ) (i first end : ℕ) : Type 0 where
  pub rows : rows_in t ss ms' first end ≡ map (close i) (rows_in t ss ms first end)
  pub ahead : AheadIn t ss ms' ls' i first end
  pub aheads : length ls' ≡ most_rows
  pub masks : Same end ms ms'

-- where to go on looking once place i is closed: from there where no flag was set, and otherwise from the first place on
pub data Again (named i : ℕ) (ms ls ls' : List ℕ) : ℕ → Type 0 where
  onward : named ≡ 0 → ls' ≡ ls → Again named i ms ls ls' i
  anew : ls' ≡ ms → Again named i ms ls ls' 0

-- a state whose agreed places are to be taken, with any column and kept places
pub record ToTake (t ss ms out : List ℕ) (first end opens named at : ℕ) : Type 0 where
  pub column : List ℕ
  pub places : List ℕ
  pub state : ToWrite t ss ms column places out first end opens named at

-- some of them are taken: what the state that is reached writes is, with what is written already, all of it
pub record Taking (t ss kept ms hs out : List ℕ) (first end at : ℕ) (cells ms₁ out₁ : List ℕ) (k named next : ℕ) : Type 0 where
  pub rest : ToWrite t ss ms₁ hs kept out₁ first end k named next
  pub out-is : sets out₁ next (write rest.plan) ≡ sets out at cells
  pub next-is : next + length (write rest.plan) ≡ at + length cells
  pub later : at ≤ next
  pub masks : Same end ms ms₁

-- and all of them: none is left at the state that is reached
pub record Taken (t ss kept ms hs out : List ℕ) (first end at : ℕ) (cells ms₁ out₁ : List ℕ) (k named next : ℕ) : Type 0 where
  pub taking : Taking t ss kept ms hs out first end at cells ms₁ out₁ k named next
  pub none : k ≤ agreed_from (flags_in k named) k 0 (rows_in t ss ms₁ first end)
