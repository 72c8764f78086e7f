-- What the check notes of a plan's branches: the first row of each, and how many branches are below it.
use mathlib.Core.Path.{◌≡◌, ◌∙◌, ap}
use mathlib.Core.List.{List, ◌++◌, map, append_assoc, map-append}
use Prim.Native.Nat.{ℕ, ◌+◌}
use lib.ListN.{length, drop, length-map}
use Rattle.term.proofs.Lists.{head_at, part_at}
use Rattle.cell.specs.Cell.{arity}
use Rattle.table.specs.All.{All}
use Rattle.table.proofs.AllLaws.{all-front, all_back}
use Rattle.plan.specs.Runs.{Run}
use Rattle.plan.specs.Plans.{Plan, leaf, node, Branches, end, next, branches}
use Rattle.plan.specs.Notes.{below, notes, notes_in, word, BranchFits}
use Rattle.plan.proofs.NotesLaws.{word-parts, notes-count}
use Rattle.listing.specs.code.Walk.{Marked, MarkedIn}

mutual
  unfolding notes Marked

  pub marked : {k : ℕ} {rows : List (List ℕ)} (p : Plan k rows) (slots : List ℕ) (free row n : ℕ) (noted rest : List ℕ)
      → drop n noted ≡ map word (notes p slots free row) ++ rest → All BranchFits (notes p slots free row) → Marked p noted n row
  marked leaf slots free row n noted rest d f = tt
  marked (node i h bs) slots free row n noted rest d f = marked-in bs i slots free row n noted rest d f

  marked-in : {k : ℕ} {gs : List Run} (bs : Branches k gs) (i : ℕ) (slots : List ℕ) (free row n : ℕ) (noted rest : List ℕ)
      → drop n noted ≡ map word (notes_in bs i slots free row) ++ rest → All BranchFits (notes_in bs i slots free row) → MarkedIn bs noted n row
  marked-in end i slots free row n noted rest d f = tt
  marked-in (next {g = g} p bs) i slots free row n noted rest d f =
      let a = arity g.cell in
      let N = notes p (below i a free slots) (free + a) row in
      let M = notes_in bs i slots free (row + length g.rows) in
      let w = head_at noted n _ (map word (N ++ M) ++ rest) d in
      let parts = word-parts _ f.0 in
      let d' : drop (n + 1) noted ≡ map word N ++ (map word M ++ rest) =
      w.2 ∙ ap (λ (l : List ℕ). l ++ rest) (map-append word N M) ∙ append_assoc (map word N) (map word M) rest in
      let many : length (map word N) ≡ branches p = length-map N word ∙ notes-count p (below i a free slots) (free + a) row in (
        rw w.1 parts.row,
        rw w.1 parts.skip,
        marked p (below i a free slots) (free + a) row (n + 1) noted (map word M ++ rest) d' (all-front BranchFits N M f.1),
        marked-in bs i slots free (row + length g.rows) (n + 1 + branches p) noted rest
            (rw many at (part_at noted (n + 1) (map word N) (map word M ++ rest) d')) (all_back BranchFits N M f.1),
      )
