-- The walk's invariant: what is done with what is left is the whole. One branch keeps it.
use Prim.Native.Nat.{ℕ, suc, ◌+◌, ◌≤◌, ◌<◌}
use mathlib.Core.Path.{◌≡◌, refl, sym, ◌∙◌, ap}
use mathlib.Core.Logic.{◌≢◌}
use mathlib.Core.Bool.{Bool, true, false, cond}
use mathlib.Core.List.{List, [], ◌∷◌, ◌++◌, flatten, map, map-append, append_assoc, append-nil}
use native.Mathlib.Omega.{arith}
use lib.ListN.{length, get_or, set, drop, replicate, length-append, length-drop, length-map}
use lib.Seq.{sets, drop-drop, drop_at, drop-cons}
use Rattle.cell.specs.Cell.{arity}
use Rattle.term.proofs.Lists.{sets-sets}
use Rattle.table.specs.All.{All}
use Rattle.table.proofs.AllLaws.{all-front, all_back}
use Rattle.plan.specs.Plans.{end, next, branches}
use Rattle.plan.specs.code.Cells.{Cells}
use Rattle.plan.specs.code.Rows.{row_count}
use Rattle.answer.specs.code.After.{Left, after}
use Rattle.answer.specs.code.Renamed.{var, Goal}
use Rattle.answer.specs.code.Tree.{insert, tried_on, under, hits, tried}
use Rattle.answer.specs.Skeleton.{hole, decide}
use Rattle.answer.specs.Run.{skeletons}
use Rattle.answer.proofs.FewLaws.{tried-few}
use Rattle.answer.proofs.Theorems.{skeletons-length}
use Rattle.term.specs.code.Unifiable.{unifiable}
use Rattle.plan.specs.Notes.{Branch, branch, flag, below, notes, notes_in, word, cell_in, skip_in, row_noted, slot_in, next_in, alone_in}
use Rattle.walking.specs.code.Link.{Tables}
use Rattle.walking.specs.code.Steps.{Safe, Step}
use Rattle.walking.specs.code.Frames.{Frame, RowCell, SoundOf, notes_of, hits_of, tried_of, rows_of, Stands}
use Rattle.plan.proofs.NotesLaws.{Parts, word-parts, notes-count}
use Rattle.plan.specs.Notes.{BranchFits}
use Rattle.walking.proofs.FrameLaws.{Top, top_of, none_of, leaf-one, Below, below-frame, some-open, below-stands}
use Rattle.walking.proofs.StepLaws.{Sizes, Goes, frames, node, rest-stands, below-width, safe, fails, goes}

-- At the branch number i, `words` being what is noted: the rows before `row` are done, `found` hits are in the room and `count` branches are tried. With what
-- the frames still give, the room is `final`, and there are h hits, t branches tried and r rows.
pub record Along (G rep sib words final : List ℕ) (h t r : ℕ) (bs ns us rs room : List ℕ) (i found count : ℕ) : Type 0 where
  pub left_over : List Frame
  pub row : ℕ
  pub top : ℕ
  pub stands : Stands G rep sib bs ns us rs left_over i top
  pub noted : map word (notes_of left_over row) ≡ drop i words
  pub fit : All BranchFits (notes_of left_over row)
  pub sizes : Sizes bs ns us rs
  pub wrote : sets room found (hits_of left_over row) ≡ final
  pub more : found + length (hits_of left_over row) ≡ h
  pub tries : count + tried_of left_over ≡ t
  pub rows : row + rows_of left_over ≡ r
  pub fewer : found ≤ row
  pub least : count ≤ i
  pub reach : i ≤ length words
  pub sound : SoundOf left_over

-- what stands at a place of a list
read : (l : List ℕ) (at x : ℕ) (xs : List ℕ) → at < length l → drop at l ≡ x ∷ xs → get_or l at 0 ≡ x
read l at x xs h e = let q : get_or l at 0 ∷ drop (suc at) l ≡ x ∷ xs = sym (drop-cons l at 0 h) ∙ e in cc

next-words : (l xs : List ℕ) (at x : ℕ) → drop at l ≡ x ∷ xs → xs ≡ drop (at + 1) l
next-words l xs at x e = sym (ap (drop 1) e) ∙ drop-drop 1 at l

drop_past : (l xs ys : List ℕ) (at x n : ℕ) → drop at l ≡ x ∷ (xs ++ ys) → length xs ≡ n → drop (at + 1 + n) l ≡ ys
drop_past l xs ys at x n e z =
    let q : at + 1 + n ≡ at + suc n = omega arith in
    rw q (sym (drop-drop (suc n) at l) ∙ ap (drop (suc n)) e ∙ drop_at (x ∷ xs) ys (suc n) (ap suc z))

sets-next : (l : List ℕ) {l' : List ℕ} (xs ys : List ℕ) (at n : ℕ) → l' ≡ sets l at xs → length xs ≡ n → sets l' (at + n) ys ≡ sets l at (xs ++ ys)
sets-next l xs ys at n e z = rw (e, ← z) (sets-sets l at xs ys)

module _ {w : ℕ} {G sib rep : List ℕ} (G-goal : Goal w G) (T : Tables G sib rep) {words final : List ℕ} {h t r : ℕ} {bs ns us rs room : List ℕ}
    {i found count : ℕ}
    (A : Along G rep sib words final h t r bs ns us rs room i found count) where
  abbrev row : ℕ
  row = A.row

  -- no branch is left
  pub ended : length words ≤ i → (room ≡ final) × (found ≡ h) × (count ≡ t)
  ended l =
      let z : length (notes_of A.left_over row) ≡ 0 =
      sym (length-map (notes_of A.left_over row) word) ∙ ap length A.noted ∙ length-drop i words ∙ omega arith in
      let n = none_of A.left_over row z in
      (rw n.0 at A.wrote, omega (arith, A.more, ap length n.0), omega (arith, A.tries, n.1))

  module _ (l : i < length words) where
    pub first : Top G rep sib bs ns us rs A.left_over i A.top row
    first =
        let z : length (notes_of A.left_over row) ≡ length (drop i words) = sym (length-map (notes_of A.left_over row) word) ∙ ap length A.noted in
        top_of A.left_over i A.top row (omega (arith, z, length-drop i words)) A.stands

    abbrev c : ℕ
    c = first.group.cell

    abbrev m : ℕ
    m = first.free

    abbrev n : ℕ
    n = length first.group.rows

    abbrev sk : ℕ
    sk = i + 1 + branches first.tree

    abbrev others : List Frame
    others = frames G-goal T first

    -- its branches are of a table's rows
    sound-here : Cells RowCell first.tree × SoundOf others
    sound-here = let s = first.sound A.sound in (s.1, (s.2, s.3))

    -- it has a row, and no more where no place is open below it
    some-here : 0 < n
    some-here = (first.sound A.sound).0.some

    one-here : arity c + first.k ≡ 0 → n ≡ 1
    one-here = (first.sound A.sound).0.last

    -- what is noted of it, and of what is below it
    b : Branch
    b = branch c (branches first.tree) row (get_or first.slots first.place 0) m (flag first.group)

    abbrev under-it : List Branch
    under-it = notes first.tree (below first.place (arity c) m first.slots) (m + arity c) row

    split-notes : notes_of A.left_over row ≡ b ∷ (under-it ++ notes_of others (row + n))
    unfolding b notes branches
    split-notes =
        let q : row + (n + row_count first.groups) ≡ row + n + row_count first.groups = omega arith in
        first.same-notes ∙ rw q (ap (λ (xs : List Branch). b ∷ xs) (append_assoc under-it
        (notes_in first.trees first.place first.slots m (row + n)) (notes_of first.others (row + n + row_count first.groups))))

    split-words : drop i words ≡ word b ∷ (map word under-it ++ map word (notes_of others (row + n)))
    split-words = sym A.noted ∙ ap (map word) split-notes ∙ ap (λ (xs : List ℕ). word b ∷ xs) (map-append word under-it (notes_of others (row + n)))

    fit-here : All BranchFits (b ∷ (under-it ++ notes_of others (row + n)))
    fit-here = rw split-notes at A.fit

    parts : Parts b (get_or words i 0)
    parts = rw (read words i (word b) _ l split-words) (word-parts b fit-here.0)

    room-enough : m + arity c < 64
    unfolding b
    room-enough = fit-here.0.next

    -- as the only branch of its state, with all below it
    pub words-here : drop i words ≡ map word (notes_in (next {g = first.group} first.tree end) first.place first.slots m row)
        ++ map word (notes_of others (row + n))
    unfolding b notes
    words-here = rw (append-nil under-it) split-words

    pub fit-only : All BranchFits (notes_in (next {g = first.group} first.tree end) first.place first.slots m row)
    unfolding b notes
    fit-only = (fit-here.0, rw (append-nil under-it) (all-front BranchFits under-it (notes_of others (row + n)) fit-here.1))

    pub alone-here : alone_in (get_or words i 0) ≡ cond (flag first.group) 1 0
    unfolding b
    alone-here = parts.alone

    pub skip_is : skip_in (get_or words i 0) ≡ branches first.tree
    unfolding b
    skip_is = parts.skip

    -- what the branch gives, with what `after` leaves of the goal
    abbrev leaves : Left
    leaves = after (var m) first.place c first.R

    abbrev hits-here : Left → List ℕ
    hits-here x = under [] x (λ R'. hits first.tree (m + arity c) R' row)

    abbrev tried_here : Left → ℕ
    tried_here x = under 0 x (λ R'. tried first.tree (m + arity c) R')

    -- and where the row is finished by itself
    abbrev alone-row : List ℕ
    alone-row = insert first.place c (flatten first.group.rows)

    abbrev hits-alone : List ℕ
    hits-alone = cond (unifiable alone-row first.R) (row ∷ []) []

    abbrev tried-alone : ℕ
    tried-alone = tried_on first.R (replicate (suc first.k) hole ∷ skeletons first.tree (decide first.place c (replicate (suc first.k) hole)))

    all-hits : hits_of A.left_over row ≡ cond (flag first.group) hits-alone (hits-here leaves) ++ hits_of others (row + n)
    unfolding hits
    all-hits =
        let q : row + (n + row_count first.groups) ≡ row + n + row_count first.groups = omega arith in
        first.same-hits ∙ rw q (append_assoc (cond (flag first.group) hits-alone (hits-here leaves)) _ _)

    all-tried : tried_of A.left_over ≡ cond (flag first.group) tried-alone (suc (tried_here leaves)) + tried_of others
    unfolding tried
    all-tried = first.same-tried ∙ omega arith

    split_rows : rows_of A.left_over ≡ n + rows_of others
    split_rows = first.same_rows ∙ omega arith

    -- the code's own numbers for it
    abbrev W : ℕ
    W = get_or words i 0

    same-node : node G-goal T first ≡ get_or rs (slot_in W) 0
    unfolding b
    same-node = ap (λ (x : ℕ). get_or rs x 0) (sym parts.slot)

    pub safe-here : Safe sib bs ns us i (cell_in W) (get_or rs (slot_in W) 0) (next_in W)
    unfolding b
    safe-here = rw (parts.cell, parts.next, ← same-node) (safe G-goal T first room-enough)

    -- one more hit would be no more than there are rows
    pub found_here : found < r
    found_here = omega (arith, A.fewer, A.rows, split_rows, some-here)

    pub skip-here : i + 1 + skip_in W ≤ length words
    unfolding b
    skip-here =
        let d = ap length split-words ∙ ap suc (length-append (map word under-it) (map word (notes_of others (row + n)))) in
        let e = length-map under-it word ∙ notes-count first.tree (below first.place (arity c) m first.slots) (m + arity c) row in
        omega (arith, parts.skip, d, e, length-drop i words)

    -- the branches after all that is below it
    past_words : map word (notes_of others (row + n)) ≡ drop sk words
    past_words =
        sym (drop_past words (map word under-it) (map word (notes_of others (row + n))) i (word b) (branches first.tree) split-words
        (length-map under-it word ∙ notes-count first.tree (below first.place (arity c) m first.slots) (m + arity c) row))

    past-fit : All BranchFits (notes_of others (row + n))
    past-fit = all_back BranchFits under-it (notes_of others (row + n)) fit-here.1

    -- a row that is finished by itself: so many branches of it are tried, and whether it is a hit
    pub on-alone : {room' : List ℕ} (t' : ℕ) (b' : Bool) → flag first.group ≡ true → t' ≡ tried-alone → b' ≡ unifiable alone-row first.R
        → room' ≡ sets room found (cond b' (row_noted W ∷ []) [])
        → Along G rep sib words final h t r bs ns us rs room' (i + 1 + skip_in W) (found + cond b' 1 0) (count + t')
    unfolding b
    on-alone {room'} t' b' z et eb er =
        let x = cond b' (row ∷ []) [] in
        let hs : hits_of A.left_over row ≡ x ++ hits_of others (row + n) = all-hits ∙ rw (z, eb) refl in
        let ts : tried_of A.left_over ≡ t' + tried_of others = all-tried ∙ rw (z, et) refl in
        let u : length x ≡ cond b' 1 0 = one-long b' in
        let v = length-append x (hits_of others (row + n)) in
        let w = one-few b' in
        let er' : room' ≡ sets room found x = er ∙ rw parts.row in
        rw parts.skip
        (record {
          left_over = others;
          row = row + n;
          sound = sound-here.1;
          top = m;
          stands = rest-stands G-goal T first;
          noted = past_words;
          fit = past-fit;
          sizes = A.sizes;
          wrote = sets-next room x (hits_of others (row + n)) found (cond b' 1 0) er' u ∙ ap (sets room found) (sym hs) ∙ A.wrote;
          more = omega (arith, A.more, ap length hs);
          tries = omega (arith, A.tries, ts);
          rows = omega (arith, A.rows, split_rows);
          fewer = omega (arith, A.fewer, some-here);
          least =
              omega (
                arith,
                A.least,
                et,
                tried-few first.R
                    (replicate (suc first.k) hole ∷ skeletons first.tree (decide first.place c (replicate (suc first.k) hole))),
                skeletons-length first.tree (decide first.place c (replicate (suc first.k) hole)),
              );
          reach = omega (arith, skip-here, parts.skip);
        })
      where
        one-long : (b : Bool) → length (cond b (row ∷ []) []) ≡ cond b 1 0
        one-long true = refl
        one-long false = refl

        one-few : (b : Bool) → cond b 1 0 ≤ 1
        one-few true = omega arith
        one-few false = omega arith

    module _ (off : flag first.group ≡ false) where
      split-hits : hits_of A.left_over row ≡ hits-here leaves ++ hits_of others (row + n)
      split-hits = all-hits ∙ rw off refl

      split-tried : tried_of A.left_over ≡ suc (tried_here leaves + tried_of others)
      split-tried = all-tried ∙ rw off (omega arith)

    module _ {bs' ns' us' rs' : List ℕ} (off : flag first.group ≡ false) where
      pub on-fail : Step rep sib i (cell_in W) (get_or rs (slot_in W) 0) (next_in W) (i + 1 + skip_in W) bs ns us rs bs' ns' us' rs' false
          → Along G rep sib words final h t r bs' ns' us' rs' room (i + 1 + skip_in W) found (count + 1)
      unfolding b
      on-fail x =
          let x' : Step rep sib i c (node G-goal T first) m sk bs ns us rs bs' ns' us' rs' false =
          rw (parts.cell, parts.next, parts.skip, ← same-node) at x in
          let f = fails G-goal T first room-enough A.sizes x' in
          let hs : hits_of A.left_over row ≡ hits_of others (row + n) = split-hits off ∙ rw f.0 in
          let ts : tried_of A.left_over ≡ suc (tried_of others) = split-tried off ∙ rw f.0 (omega arith) in
          rw parts.skip
          (record {
            left_over = others;
            row = row + n;
            sound = sound-here.1;
            top = m;
            stands = f.1;
            noted = past_words;
            fit = past-fit;
            sizes = f.2;
            wrote = rw hs at A.wrote;
            more = rw hs at A.more;
            tries = omega (arith, A.tries, ts);
            rows = omega (arith, A.rows, split_rows);
            fewer = omega (arith, A.fewer);
            least = omega (arith, A.least);
            reach = omega (arith, skip-here, parts.skip);
          })

      module _ (x : Step rep sib i (cell_in W) (get_or rs (slot_in W) 0) (next_in W) (i + 1 + skip_in W) bs ns us rs bs' ns' us' rs' true) where
        gone : Goes G-goal T first room-enough A.sizes bs' ns' us' rs'
        unfolding b
        gone = goes G-goal T first room-enough A.sizes (rw (parts.cell, parts.next, parts.skip, ← same-node) at x)

        -- a leaf is below it: its row is a hit
        pub on-leaf : {room' : List ℕ} → skip_in W ≡ 0 → room' ≡ set room found (row_noted W)
            → Along G rep sib words final h t r bs' ns' us' rs' room' (i + 1) (found + 1) (count + 1)
        unfolding b
        on-leaf {room'} e y =
            let z : branches first.tree ≡ 0 = omega (arith, parts.skip) in
            let d = gone.down in
            let f = leaf-one first.tree z some-here one-here (m + arity c) d.rest row in
            let hs : hits_of A.left_over row ≡ row ∷ hits_of others (row + n) = split-hits off ∙ rw (d.leaves, f.0) in
            let ts : tried_of A.left_over ≡ suc (tried_of others) = split-tried off ∙ rw (d.leaves, f.1) (omega arith) in
            let q : sk ≡ i + 1 = omega arith in
            let y' : room' ≡ set room found row = y ∙ rw parts.row in
            record {
              left_over = others;
              row = row + n;
              sound = sound-here.1;
              top = m;
              stands = rw q at gone.rest;
              noted = rw q at past_words;
              fit = past-fit;
              sizes = gone.sizes;
              wrote = sets-next room (row ∷ []) (hits_of others (row + n)) found 1 y' refl ∙ ap (sets room found) (sym hs) ∙ A.wrote;
              more = omega (arith, A.more, ap length hs);
              tries = omega (arith, A.tries, ts);
              rows = omega (arith, A.rows, split_rows);
              fewer = omega (arith, A.fewer, some-here);
              least = omega (arith, A.least);
              reach = omega arith;
            }

        -- a state is below it: its frame comes first
        down-with : Below first.tree (m + arity c) (below first.place (arity c) m first.slots) gone.down.rest → 0 < branches first.tree
            → Along G rep sib words final h t r bs' ns' us' rs' room (i + 1) found (count + 1)
        down-with F z =
            let d = gone.down in
            let hs : hits_of A.left_over row ≡ hits_of (F.first ∷ others) row = split-hits off ∙ rw (d.leaves, F.same-hits row, F.same_rows) in
            let ts : tried_of A.left_over ≡ suc (tried_of (F.first ∷ others)) = split-tried off ∙ rw d.leaves (omega (arith, F.same-tried)) in
            let ns : notes_of (F.first ∷ others) row ≡ under-it ++ notes_of others (row + n) = rw (F.same-notes row, F.same_rows) in
            let ws : map word under-it ++ map word (notes_of others (row + n)) ≡ drop (i + 1) words =
            next-words words (map word under-it ++ map word (notes_of others (row + n))) i (word b) split-words in
            record {
              left_over = F.first ∷ others;
              row = row;
              sound = (F.sound sound-here.0, sound-here.1);
              top = m + arity c;
              stands =
                  below-stands first.tree (m + arity c) (below first.place (arity c) m first.slots) d.rest F others (i + 1) d.linked
                  (below-width G-goal T first) (omega arith) gone.rest;
              noted = ap (map word) ns ∙ map-append word under-it (notes_of others (row + n)) ∙ ws;
              fit = rw ns fit-here.1;
              sizes = gone.sizes;
              wrote = rw hs at A.wrote;
              more = rw hs at A.more;
              tries = omega (arith, A.tries, ts);
              rows = omega (arith, A.rows, split_rows, F.same_rows);
              fewer = A.fewer;
              least = omega (arith, A.least);
              reach = omega arith;
            }

        pub on-down : skip_in W ≢ 0 → Along G rep sib words final h t r bs' ns' us' rs' room (i + 1) found (count + 1)
        unfolding b
        on-down e =
            let z : 0 < branches first.tree = omega (arith, parts.skip, e) in
            down-with (below-frame first.tree (m + arity c) (below first.place (arity c) m first.slots) gone.down.rest
            (some-open first.tree z)) z
