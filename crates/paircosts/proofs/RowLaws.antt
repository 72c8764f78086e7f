-- One row more is noted, in front: where the walk begins, one step of it, and its end.
use mathlib.Core.Path.{◌≡◌, refl, sym, ap, subst, ◌∙◌}
use mathlib.Core.Logic.{◌≢◌}
use mathlib.Core.Bool.{Bool, true, false, cond}
use mathlib.Core.List.{List, ◌∷◌, ◌++◌, map, append_assoc}
use Prim.Native.Nat.{ℕ, zero, suc, pred, ◌+◌, ◌-◌, ◌*◌, ◌≤◌, ◌<◌}
use native.Mathlib.Omega.{arith}
use native.Mathlib.Nat.{zero-add}
use native.Mathlib.Numerals.{add-one, one-add}
use lib.ListN.{length, get_or, take, drop, length-map, take-append-drop}
use lib.Seq.{slice, slice-cons, length-slice, drop-append-le, length-take-le}
use lib.Dec.{eqb}
use borrow.Author.Tests.{eqb-true, eqb-false}
use Rattle.cell.specs.Cell.{arity}
use Rattle.term.specs.Terms.{Terms, none, more, front, back, root, close}
use Rattle.term.proofs.TermsLaws.{front-back, front-++, front-terms, zero-nil}
use Rattle.plan.specs.Runs.{agree}
use Rattle.plan.specs.Plans.{Measure}
use Rattle.plan.proofs.RunsLaws.{terms-length}
use Rattle.paircosts.specs.declared.arrays.Note.{Note}
use Rattle.paircosts.specs.code.Notes.{note, note_next, note_of, note_in, put_note, read_in, end_in, Small, Fair, Noted, done, closed, opened}
use Rattle.paircosts.specs.code.Notes.{weight_in, most_agreed, MarkedFrom, NextRow, RowNoted}
use Rattle.paircosts.proofs.NoteLaws.{note-fair}
use Rattle.paircosts.proofs.NotedLaws.{From, close-first, back-first, note-is, note_with, next-note, next-closed, next-opened}
use Rattle.paircosts.proofs.RingLaws.{put_same, put-room, put-later, put-earlier}
use Rattle.least.proofs.Suffixes.{front-short, close-drop, back-drop}
use Rattle.limits.specs.Limits.{most_table_cells}

-- a part of the cells: its first cell, and what follows it and its term
pub part-root : (p e : ℕ) (cells : List ℕ) → p < e → e ≤ length cells → root 0 (slice p e cells) ≡ get_or cells p 0
unfolding root
part-root p e cells h l = rw (slice-cons p e cells 0 h l)

part-close : (p e : ℕ) (cells : List ℕ) → p < e → e ≤ length cells → close 0 (slice p e cells) ≡ slice (suc p) e cells
part-close p e cells h l = close-drop p (take e cells) (omega (arith, length-take-le e cells l))

part-some : {r : ℕ} (p e : ℕ) (cells : List ℕ) → e ≤ length cells → Terms (suc r) (slice p e cells) → p < e
part-some p e cells l t = omega (arith, terms-length t, length-slice p e cells l)

-- where the term at p ends
pub ended_at : {m : Measure} {cells marks : List ℕ} {r : ℕ} (p e : ℕ) → MarkedFrom m cells marks 0 → p < e → e ≤ length cells
    → Terms (suc r) (slice p e cells) → end_in marks p ≡ p + length (front 1 (slice p e cells))
ended_at {cells = cells} {r = r} p e x h l t =
    let s : drop p cells ≡ slice p e cells ++ drop e cells =
    ap (drop p) (sym (take-append-drop e cells)) ∙ drop-append-le p (take e cells) (drop e cells) (omega (arith, length-take-le e cells l)) in
    let f : slice p e cells ≡ front 1 (slice p e cells) ++ back 1 (slice p e cells) = sym (front-back 1 (slice p e cells)) in
    let a : drop p cells ≡ front 1 (slice p e cells) ++ (back 1 (slice p e cells) ++ drop e cells) =
    s ∙ ap (λ (l : List ℕ). l ++ drop e cells) f ∙ append_assoc (front 1 (slice p e cells)) (back 1 (slice p e cells)) (drop e cells) in
    let k : front 1 (drop p cells) ≡ front 1 (slice p e cells) =
    ap (front 1) a ∙ front-++ (back 1 (slice p e cells) ++ drop e cells) (front-terms 1 r (slice p e cells) (rw one-add t)) in
    (x.at p (omega arith) (omega arith)).end ∙ ap (λ (l : List ℕ). p + length l) k

-- the note that one step of the walk puts
abbrev pub note_step : (cells kept : List ℕ) (notes : List Note) → ℕ → ℕ → ℕ → Note
note_step cells kept notes row p q = note_next (read_in kept) (note_in notes p) row (get_or cells q 0) (get_or cells p 0)

next-some : (W : ℕ → ℕ → ℕ) (s : Note) (row c d : ℕ) → 1 ≤ s.runs → 1 ≤ (note_next W s row c d).runs
next-some W s row c d h = go (agree c d)
  where
    go : (b : Bool) → 1 ≤ (cond b s (note (suc s.runs) (s.sum + W (suc row) s.to) row)).runs
    go true = h
    go false = omega arith

next-same : (U W : ℕ → ℕ → ℕ) (s : Note) (row c d : ℕ) → U (suc row) s.to ≡ W (suc row) s.to → note_next U s row c d ≡ note_next W s row c d
next-same U W s row c d e = rw e

module _ {cells marks kept : List ℕ} {notes₀ : List Note} {row new old : ℕ} (g : NextRow cells marks kept notes₀ row new old) where
  abbrev stop : ℕ
  stop = g.stop

  -- the walk has come to cell q of the new row and to cell p of the row after it: what is left of each row begins there, what is noted
  -- from q on completes what has been noted so far, and what is closed from q on adds to what is closed so far
  pub record RowAt (notes : List Note) (agreed p q : ℕ) : Type 0 where
    pub r : ℕ
    pub rest : List (List ℕ)
    pub noted : From g.m g.costs (suc row) (note_in notes₀) p r (slice p stop cells) rest
    pub old-terms : Terms r (slice p stop cells)
    pub new-terms : Terms r (slice q old cells)
    pub rows : length rest ≡ length g.rest
    pub order : (old ≤ p) × (p ≤ stop) × (new ≤ q) × (q ≤ old)
    pub same : (j : ℕ) → old ≤ j → j < stop → note_in notes j ≡ note_in notes₀ j
    pub then : (N : ℕ → Note) → ((j : ℕ) → new ≤ j → j < q → N j ≡ note_in notes j)
        → (b : ℕ) → Noted g.m g.costs row N q r (slice q old cells) (slice p stop cells ∷ rest) b
        → Noted g.m g.costs row N new g.width (slice new old cells) (slice old stop cells ∷ g.rest) (agreed + b)
    pub light : agreed ≤ 7 * q
    pub room : length notes ≡ 64

  pub row-start : RowAt notes₀ 0 old new
  row-start = record {
    r = g.width;
    rest = g.rest;
    noted = (g.shared, g.noted);
    old-terms = g.old-terms;
    new-terms = g.new-terms;
    rows = refl;
    order = (omega arith, g.order.1, omega arith, g.order.0);
    same = λ j h l. refl;
    then = λ N e b d. rw zero-add d;
    light = omega arith;
    room = g.room;
  }

  old-in : old ≤ length cells
  old-in = omega (arith, g.order.1, g.order.2)

  pub row-end : {notes : List Note} {n p q : ℕ} → RowAt notes n p q → old ≤ q → RowNoted g notes n
  row-end {notes} {n} {p} {q} x h =
      let l : length (slice q old cells) ≡ old - q = length-slice q old cells old-in in
      let z : x.r ≡ 0 = no-terms x.new-terms (omega (arith, x.order.3)) in
      let e : n + 0 ≡ n = omega arith in
      record {
        noted = rw e at (x.then (note_in notes) (λ j l m. refl) 0 (rw z done));
        light =
            omega (arith, x.light, x.order.3, old-in, g.order.3);
        room = x.room;
      }
    where
      no-terms : {r : ℕ} {xs : List ℕ} → Terms r xs → length xs ≡ 0 → r ≡ 0
      no-terms none e = refl
      no-terms (more t) e = absurd (omega arith)

  module _ (notes : List Note) (n p q : ℕ) (x : RowAt notes n p q) (h : q < old) where
    abbrev step_note : Note
    step_note = note_step cells kept notes row p q

    abbrev y : List ℕ
    y = slice p stop cells

    abbrev z : List ℕ
    z = slice q old cells

    some-terms : x.r ≡ suc (pred x.r)
    some-terms = go x.r x.new-terms
      where
        go : (r : ℕ) → Terms r z → r ≡ suc (pred r)
        go zero t = absurd (omega (arith, ap length (zero-nil t), length-slice q old cells old-in))
        go (suc r) t = refl

    old-at : Noted g.m g.costs (suc row) (note_in notes₀) p (suc (pred x.r)) y x.rest x.noted.0
    old-at = rw some-terms at x.noted.1

    y-terms : Terms (suc (pred x.r)) y
    y-terms = rw some-terms at x.old-terms

    z-terms : Terms (suc (pred x.r)) z
    z-terms = rw some-terms at x.new-terms

    stop-in : stop ≤ length cells
    stop-in = g.order.2

    row-after : p < stop
    row-after = part-some p stop cells stop-in y-terms

    row-fair : Fair (suc row) g.last (note_in notes p)
    row-fair =
        let l : length (map (root 0) x.rest) ≡ length g.rest = length-map x.rest (root 0) ∙ x.rows in
        let f = note-fair g.costs g.count g.small (suc row) (root 0 y) (map (root 0) x.rest) (omega (arith, g.rows.0, g.rows.1)) in
        let e : suc row + length (map (root 0) x.rest) ≡ g.last = omega (arith, g.rows.0) in
        rw (x.same p x.order.0 row-after, note-is old-at z) (rw e at f)

    abbrev notes' : List Note
    notes' = put_note notes q step_note

    -- the note that is put is that of the column with the new row
    step_is : step_note ≡ note_with old-at z
    step_is =
        let n : note_in notes p ≡ note_in notes₀ p = x.same p x.order.0 row-after in
        let f : Fair (suc row) g.last (note_in notes₀ p) = subst (λ (n : Note). Fair (suc row) g.last n) n row-fair in
        ap (λ (n : Note). note_next (read_in kept) n row (get_or cells q 0) (get_or cells p 0)) n
        ∙ next-same (read_in kept) g.costs (note_in notes₀ p) row (get_or cells q 0) (get_or cells p 0) (g.known (note_in notes₀ p).to f.low f.high)
        ∙ rw (part-root p stop cells row-after stop-in, part-root q old cells h old-in)

    put_is : note_in notes' q ≡ step_note
    put_is = put_same notes q step_note x.room

    -- what was noted so far is not changed, nor are the notes at the row after it
    unchanged : (j : ℕ) → new ≤ j → j < q → note_in notes' j ≡ note_in notes j
    unchanged j l m = put-later notes q step_note j m (omega (arith, g.short.0))

    unchanged-old : (j : ℕ) → old ≤ j → j < stop → note_in notes' j ≡ note_in notes j
    unchanged-old j l m = put-earlier notes q step_note j (omega arith) (omega (arith, g.short.0, g.short.1, x.order.2))

    column-is : (N : ℕ → Note) → N q ≡ note_in notes' q → N q ≡ note_of g.costs row (map (root 0) (z ∷ (y ∷ x.rest)))
    column-is N e = e ∙ put_is ∙ step_is ∙ next-note old-at z

    -- what a closed cell weighs
    weight_is : weight_in marks q ≡ g.m.weight (root 0 z)
    weight_is = (g.marked.at q (omega arith) (omega (arith, old-in))).weight ∙ ap g.m.weight (sym (part-root q old cells h old-in))

    step-closed : step_note.runs ≡ 1 → RowAt notes' (n + weight_in marks q) (suc p) (suc q)
    step-closed o =
        let c = next-closed old-at z (ap (λ (n : Note). n.runs) (sym step_is) ∙ o) in
        let yc : close 0 y ≡ slice (suc p) stop cells = part-close p stop cells row-after stop-in in
        let zc : close 0 z ≡ slice (suc q) old cells = part-close q old cells h old-in in
        record {
          r = arity (root 0 y) + pred x.r;
          rest = map (close 0) x.rest;
          noted = (c.1.0, rw yc at c.1.1);
          old-terms = rw yc at (close-first y-terms);
          new-terms = rw (← c.0, ← zc) (close-first z-terms);
          rows = length-map x.rest (close 0) ∙ x.rows;
          order = (omega (arith, x.order.0), row-after, omega (arith, x.order.2), omega arith);
          same = λ j l m. unchanged-old j l m ∙ x.same j l m;
          then = λ N e b d. let s : n + weight_in marks q + b ≡ n + (g.m.weight (root 0 z) + b) = omega (arith, weight_is) in
              rw s (x.then N (λ j l m. e j l (omega arith) ∙ unchanged j l m) (g.m.weight (root 0 z) + b)
              (rw some-terms (closed {terms = pred x.r} {agreed = b} {row = z} {rest = y ∷ x.rest} (column-is N (e q x.order.2 (omega arith)))
              (ap (λ (n : Note). n.runs) (e q x.order.2 (omega arith) ∙ put_is) ∙ o) (rw (c.0, zc, yc) d))));
          light = omega (arith, x.light);
          room = put-room notes q step_note ∙ x.room;
        }

    step-opened : 1 < step_note.runs → RowAt notes' n (end_in marks p) (end_in marks q)
    step-opened o =
        let py : end_in marks p ≡ p + length (front 1 y) = ended_at p stop g.marked row-after stop-in y-terms in
        let qz : end_in marks q ≡ q + length (front 1 z) = ended_at q old g.marked h old-in z-terms in
        let yb : back 1 y ≡ slice (end_in marks p) stop cells = back-drop p (take stop cells) ∙ ap (λ (j : ℕ). slice j stop cells) (sym py) in
        let zb : back 1 z ≡ slice (end_in marks q) old cells = back-drop q (take old cells) ∙ ap (λ (j : ℕ). slice j old cells) (sym qz) in
        let fy : length (front 1 y) ≤ length y = front-short 1 y in
        let fz : length (front 1 z) ≤ length z = front-short 1 z in
        let ly : length y ≡ stop - p = length-slice p stop cells stop-in in
        let lz : length z ≡ old - q = length-slice q old cells old-in in
        let f₁ : 0 < length (front 1 z) = terms-length (front-terms 1 (pred x.r) z (rw one-add z-terms)) in
        record {
          r = pred x.r;
          rest = map (back 1) x.rest;
          noted = (let w = next-opened old-at z y-terms in (w.0, rw (← py, yb) at w.1));
          old-terms = rw yb at (back-first y-terms);
          new-terms = rw zb at (back-first z-terms);
          rows = length-map x.rest (back 1) ∙ x.rows;
          order = (omega (arith, x.order.0), omega (arith, row-after), omega (arith, x.order.2), omega arith);
          same = λ j l m. unchanged-old j l m ∙ x.same j l m;
          then = λ N e b d.
              x.then N (λ j l m. e j l (omega arith) ∙ unchanged j l m) b
              (rw some-terms (opened {terms = pred x.r} {agreed = b} {row = z} {rest = y ∷ x.rest} (column-is N (e q x.order.2 (omega arith)))
              (omega (arith, ap (λ (n : Note). n.runs) (e q x.order.2 (omega arith) ∙ put_is))) (rw (← qz, zb, yb) d)));
          light = omega (arith, x.light);
          room = put-room notes q step_note ∙ x.room;
        }

    -- one step of the walk
    pub row_step : RowAt notes' (n + cond (eqb step_note.runs 1) (weight_in marks q) 0) (cond (eqb step_note.runs 1) (p + 1) (end_in marks p))
        (cond (eqb step_note.runs 1) (q + 1) (end_in marks q))
    row_step = go (eqb step_note.runs 1) refl
      where
        go : (b : Bool) → eqb step_note.runs 1 ≡ b
            → RowAt notes' (n + cond b (weight_in marks q) 0) (cond b (p + 1) (end_in marks p)) (cond b (q + 1) (end_in marks q))
        go true e = rw (add-one p, add-one q) (step-closed (eqb-true step_note.runs 1 e))
        go false e =
            let z : n + 0 ≡ n = omega arith in
            rw z (step-opened (omega (arith, next-some (read_in kept) (note_in notes p) row (get_or cells q 0) (get_or cells p 0) row-fair.some, ne)))
          where
            ne : step_note.runs ≢ 1
            ne = eqb-false step_note.runs 1 e

    -- what the step asks: the cells are there, and the numbers are small
    pub record RowSafe : Type 0 where
      pub p-small : p < most_table_cells
      pub q-small : q < most_table_cells
      pub p-in : p < length cells
      pub q-in : q < length cells
      pub light : n ≤ most_agreed
      pub small : Small (row + 1) (note_in notes p)

    pub row-safe : RowSafe
    row-safe =
        let f = row-fair in
        let b = row-after in
        record {
          p-small = omega (arith, stop-in, g.order.3);
          q-small = omega (arith, old-in, g.order.3);
          p-in = omega (arith, stop-in);
          q-in = omega (arith, old-in);
          light = omega (arith, x.light, old-in, g.order.3);
          small = record {
            runs = omega (arith, f.few, g.rows.1, g.rows.2);
            sum = omega (arith, f.small, f.few, g.rows.1, g.rows.2);
            to = omega (arith, f.high, g.rows.1, g.rows.2);
            row = omega (arith, g.rows.0, g.rows.1, g.rows.2);
          };
        }

    -- the walk goes on
    pub row_more : q < cond (eqb step_note.runs 1) (q + 1) (end_in marks q)
    row_more = go (eqb step_note.runs 1)
      where
        go : (b : Bool) → q < cond b (q + 1) (end_in marks q)
        go true = omega arith
        go false = omega (arith, ended_at q old g.marked h old-in z-terms, terms-length (front-terms 1 (pred x.r) z (rw one-add z-terms)))
