-- The replies of the rows that a run has found, by their numbers. The contracts of private functions speak of them, and as a premise that
-- of `put_replies` (crate replies), which stands beneath the replies.
use Rattle.std.specs.Prelude.{ℕ, ◌≤◌, ◌<◌, ◌≡◌, length, drop}
use mathlib.Core.List.{List, [], ◌∷◌, ◌++◌, flatten}
use Rattle.std.proofs.lemmas.List.Edits.{sets}
use Rattle.term.specs.Unify.{Matches}
use Rattle.refusal.specs.Read.{read}
use Rattle.octets.specs.Octets.{Put, fitting}
use Rattle.table.specs.All.{All}
use Rattle.table.specs.Table.{Table, table_of, starts_in, row_in}
use Rattle.answer.specs.Run.{Picks}
use Rattle.instance.specs.Replied.{replies_of}
use Rattle.instance.specs.Reply.{Reply, Short, Large}
use Rattle.instance.specs.code.Meet.{Hit}
use Rattle.limits.specs.Limits.{most_rows}

-- `row` gives each number's row
pub data RepliesAt (row : ℕ → List ℕ) (goal : List ℕ) : List ℕ → List (List ℕ) → Type 0 where
  done : RepliesAt row goal [] []
  next : {r : ℕ} {hits cells : List ℕ} {all : List (List ℕ)} → Hit (row r) goal → Reply (row r) goal cells → RepliesAt row goal hits all
      → RepliesAt row goal (r ∷ hits) (cells ∷ all)

-- an accepted table as the code holds it: where its rows start, and how many there are
pub record Held (table starts : List ℕ) (rows : ℕ) : Type 0 where
  pub is : Table
  pub reads : table_of table ≡ read is
  pub begin : starts ≡ starts_in (table_of table)
  pub many : length is.rows ≡ rows

-- numbers of rows that are hits
pub record Hits (table goal hits : List ℕ) (rows : ℕ) : Type 0 where
  pub below : All (λ (r : ℕ). r < rows) hits
  pub few : length hits ≤ most_rows
  pub all : List (List ℕ)
  pub at : RepliesAt (row_in (table_of table)) goal hits all

-- the first i are done, none over 1,024 cells: what is put so far and the replies left make up all
pub record Pass (table goal hits : List ℕ) (i : ℕ) (all : List (List ℕ)) (room₀ room : List ℕ) (on sum : ℕ) : Type 0 where
  pub left : List (List ℕ)
  pub at : RepliesAt (row_in (table_of table)) goal (drop i hits) left
  pub front : List ℕ
  pub put : Put room₀ room 0 front on
  pub split : front ++ flatten left ≡ flatten all
  pub cells : length front ≡ sum
  pub short : All Short left → All Short all
  pub large : Large left → Large all

-- all are done, none over 1,024 cells: their number of cells, and as many of them as there is room for
pub record Passed (room room' : List ℕ) (all : List (List ℕ)) (sum : ℕ) : Type 0 where
  pub cells : sum ≡ length (flatten all)
  pub wrote : room' ≡ sets room 0 (fitting room 0 (flatten all))
  pub short : All Short all

-- what a run has found, for a plan that is accepted
pub record Found (table plan goal hits : List ℕ) : Type 0 where
  pub is : Table
  pub reads : replies_of table plan goal ≡ read is
  pub picks : Picks (λ (row : List ℕ). Matches row goal) is.rows 0 hits
