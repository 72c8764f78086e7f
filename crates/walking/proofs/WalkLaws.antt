-- The walk of a noted plan on a goal, from its first branch on.
use Prim.Native.Nat.{ℕ, ◌+◌, ◌≤◌, ◌<◌}
use mathlib.Core.Path.{◌≡◌, refl, sym, ◌∙◌, ap, subst}
use mathlib.Core.Logic.{◌≢◌}
use mathlib.Core.Bool.{Bool, true, false, cond}
use mathlib.Core.List.{List, [], ◌∷◌, map, append-nil}
use native.Mathlib.Omega.{arith}
use lib.Dec.{eqb}
use lib.ListN.{length, get_or, set, take, replicate, length-map, length-replicate}
use lib.Seq.{sets, length-sets, get_or-take}
use Rattle.cell.specs.Cell.{Cell}
use Rattle.term.specs.Unify.{renamed}
use Rattle.table.specs.Table.{up_from}
use Rattle.table.proofs.Accepted.{few-variables}
use Rattle.table.proofs.HeadLaws.{up-length}
use Rattle.plan.specs.Plans.{branches}
use Rattle.answer.specs.code.Tree.{hits, tried}
use Rattle.answer.proofs.AcceptedLaws.{goal-head, no_cell}
use Rattle.plan.specs.Notes.{flag, notes, word, cell_in, skip_in, row_noted, slot_in, next_in, alone_in}
use Rattle.walking.specs.code.Link.{goal_nodes, Tables}
use Rattle.walking.specs.code.Steps.{Safe, Step}
use Rattle.walking.specs.code.Goal.{Stepped, Named}
use Rattle.walking.specs.code.Frames.{RowCell, notes_of, hits_of, nothing}
use Rattle.walking.specs.code.Walk.{Begun}
use Rattle.plan.proofs.NotesLaws.{notes-count}
use Rattle.plan.proofs.NotesLaws.{branches-few, notes-fit}
use Rattle.plan.proofs.TwiceLaws.{table-cells}
use Rattle.walking.proofs.FrameLaws.{Top, Below, below-frame, below-stands}
use Rattle.walking.proofs.AlongLaws.{Along, first, alone-here, safe-here, found_here, skip-here, on-fail, on-leaf, on-down}
use Rattle.walking.proofs.StartLaws.{linked}
use Rattle.limits.specs.Limits.{most_branches}

module _ {noted goal room : List ℕ} {count w : ℕ} (b : Begun noted count goal room w) where
  -- at the branch number i
  abbrev pub Walking : (rep sib bs ns us rs room' : List ℕ) (i found tries : ℕ) → Type 0
  Walking rep sib bs ns us rs room' i found tries =
      Along (renamed goal) rep sib (take count noted) (sets room 0 (hits b.tree 32 (renamed goal) 0)) (length (hits b.tree 32 (renamed goal) 0))
      (tried b.tree 32 (renamed goal)) (length b.rows)
      bs ns us rs room' i found tries

  pub words_count : length (take count noted) ≡ count
  words_count =
      let all = notes b.tree (up_from 1 w) 32 0 in
      ap length b.words ∙ length-map all word ∙ notes-count b.tree (up_from 1 w) 32 0 ∙ sym b.number

  pub count_small : count ≤ most_branches
  count_small = omega (arith, b.number, branches-few b.accepted b.tree)

  -- One branch more, by what the code reads: sk is the number of branches below it.
  module _ {sib rep bs ns us rs room' : List ℕ} {i found tries : ℕ} (T : Tables (renamed goal) sib rep)
      (A : Walking rep sib bs ns us rs room' i found tries) (l : i < count) where
    abbrev W : ℕ
    W = get_or noted i 0

    pub same_word : get_or (take count noted) i 0 ≡ W
    same_word = get_or-take count noted i 0 l

    pub inside : i < length (take count noted)
    inside = omega (arith, words_count)

    pub safe-now : Safe sib bs ns us i (cell_in W) (get_or rs (slot_in W) 0) (next_in W)
    safe-now = rw same_word at (safe-here (goal-head b.is) T A inside)

    pub found-now : found < length b.rows
    found-now = found_here (goal-head b.is) T A inside

    pub skip-now : i + 1 + skip_in W ≤ count
    skip-now = rw (same_word, words_count) at (skip-here (goal-head b.is) T A inside)

    -- whether the rest of its row is run by itself
    abbrev pub top-now : Top (renamed goal) rep sib bs ns us rs A.left_over i A.top A.row
    top-now = first (goal-head b.is) T A inside

    abbrev pub flagged : Bool
    flagged = flag top-now.group

    pub flag-now : (r : Bool) → r ≡ eqb (alone_in W) 1 → flagged ≡ r
    flag-now r e = sym (e ∙ rw (← same_word, alone-here (goal-head b.is) T A inside) (bit flagged))
      where
        bit : (z : Bool) → eqb (cond z 1 0) 1 ≡ z
        bit true = refl
        bit false = refl

    module _ {bs' ns' us' rs' : List ℕ} (off : flagged ≡ false) where
      pub fail-now : {i' tries' : ℕ} → Step rep sib i (cell_in W) (get_or rs (slot_in W) 0) (next_in W) (i + 1 + skip_in W) bs ns us rs bs' ns' us' rs' false
          → i' ≡ i + 1 + skip_in W → tries' ≡ tries + 1 → Walking rep sib bs' ns' us' rs' room' i' found tries'
      fail-now x ei et = rw (ei, et) (rw same_word at (on-fail (goal-head b.is) T A inside off (rw (← same_word) at x)))

      pub leaf-now : {i' found' tries' : ℕ} (r sk : ℕ) {room'' : List ℕ} → r ≡ row_noted W → sk ≡ skip_in W
          → Step rep sib i (cell_in W) (get_or rs (slot_in W) 0) (next_in W) (i + 1 + skip_in W) bs ns us rs bs' ns' us' rs' true → sk ≡ 0 → room'' ≡ set room' found r
          → i' ≡ i + 1 → found' ≡ found + 1 → tries' ≡ tries + 1 → Walking rep sib bs' ns' us' rs' room'' i' found' tries'
      leaf-now r sk {room''} er es x e y ei ef et =
          let es' : skip_in (get_or (take count noted) i 0) ≡ 0 = rw same_word (sym es ∙ e) in
          let y' : room'' ≡ set room' found (row_noted (get_or (take count noted) i 0)) = rw same_word (y ∙ ap (set room' found) er) in
          rw (ei, ef, et) (on-leaf (goal-head b.is) T A inside off (rw (← same_word) at x) es' y')

      pub down-now : {i' tries' : ℕ} (sk : ℕ) → sk ≡ skip_in W
          → Step rep sib i (cell_in W) (get_or rs (slot_in W) 0) (next_in W) (i + 1 + skip_in W) bs ns us rs bs' ns' us' rs' true
          → sk ≢ 0 → i' ≡ i + 1 → tries' ≡ tries + 1 → Walking rep sib bs' ns' us' rs' room' i' found tries'
      down-now sk es x d ei et =
          let es' : sk ≡ skip_in (get_or (take count noted) i 0) = rw same_word es in
          rw (ei, et) (on-down (goal-head b.is) T A inside off (rw (← same_word) at x) (λ e. d (es' ∙ e)))

  module _ {sib rep bs ns us rs : List ℕ} (S : Stepped goal sib) (N : Named goal rep bs ns us) (er : rs ≡ sets (replicate 64 0) 1 (goal_nodes rep sib w 0)) where
    began-with : Below b.tree 32 (up_from 1 w) (renamed goal) → Walking rep sib bs ns us rs room 0 0 0
    began-with F =
        let all = notes b.tree (up_from 1 w) 32 0 in
        let z : 0 + branches b.tree ≤ 4095 = omega (arith, branches-few b.accepted b.tree) in
        let ns : notes_of (F.first ∷ []) 0 ≡ all = append-nil _ ∙ F.same-notes 0 in
        let hs : hits_of (F.first ∷ []) 0 ≡ hits b.tree 32 (renamed goal) 0 = append-nil _ ∙ F.same-hits 0 in
        record {
          left_over = F.first ∷ [];
          row = 0;
          top = 32;
          stands =
              below-stands b.tree 32 (up_from 1 w) (renamed goal) F [] 0 {o = 0}
              (linked b.is S N rs (0 + branches b.tree) er b.accepted.width.1 z) (up-length 1 w) (omega arith) nothing;
          noted = ap (map word) ns ∙ sym b.words;
          fit = rw ns (notes-fit b.accepted b.tree);
          sizes =
              record {
                bound = N.size-bound;
                args = N.size-args;
                until = N.size-until;
                refers =
                    rw er (length-sets (replicate 64 0) 1 (goal_nodes rep sib w 0) ∙ length-replicate {A = ℕ} 64 0);
              };
          wrote = ap (sets room 0) hs;
          more = omega (arith, ap length hs);
          tries = omega (arith, F.same-tried);
          rows = omega (arith, F.same_rows);
          fewer = omega arith;
          least = omega arith;
          reach = omega arith;
          sound = (F.sound (table-cells RowCell b.accepted (λ r h c m. (few-variables h c m, λ e. no_cell (subst Cell e (h.cells c m)))) b.tree), tt);
        }

    pub began : Walking rep sib bs ns us rs room 0 0 0
    began = began-with (below-frame b.tree 32 (up_from 1 w) (renamed goal) (omega (arith, b.accepted.width.0)))
