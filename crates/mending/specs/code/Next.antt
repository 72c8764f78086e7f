-- One row more, as the code comes to it.
use Rattle.std.specs.Prelude.{ℕ, suc, ◌+◌, ◌≤◌, ◌≡◌, true, false, List, [], length, take, Option, Some, None}
use Rattle.refusal.specs.Read.{read}
use Rattle.table.specs.Table.{Met, terms_from, doubled}
use Rattle.salvaging.specs.Kept.{kept_from}

-- a row that begins at a place, after those that were seen, with the cells from there on: where it ends, or that none is kept
pub data NextIs (width : ℕ) (seen : List (List ℕ)) (cells : List ℕ) (at : ℕ) : Option ℕ → Type 0 where
  ends : (m : Met) (e : ℕ) → terms_from true cells width 0 0 0 ≡ read m → doubled m (take m.next cells) seen ≡ false
      → m.next ≤ length cells → e ≡ at + m.next → NextIs width seen cells at (Some e)
  stops : ((left : ℕ) → kept_from width (suc left) seen cells ≡ []) → NextIs width seen cells at None
