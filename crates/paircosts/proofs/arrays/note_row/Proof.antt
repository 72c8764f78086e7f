use mathlib.Core.Path.{◌≡◌, sym, ap, subst, ◌∙◌}
use Prim.Native.Nat.{◌+◌, ◌-◌}
use mathlib.Core.Bool.{cond}
use lib.Dec.{eqb}
use lib.ListN.{get_or}
use native.Mathlib.Omega.{arith}
use Rattle.paircosts.specs.declared.arrays.Note.{Note}
use Rattle.paircosts.specs.code.Notes.{note_next, read_in, end_in, NextRow, Small}
use Rattle.paircosts.proofs.RowLaws.{RowAt, row-start, row-end, RowSafe, row-safe, note_step, row_more, row_step}
use Rattle.paircosts.proofs.arrays.note_row.Statement.{statement}
use Rattle.paircosts.proofs.arrays.note_row.Tie as tie

abbrev invariant-loop : tie.invariant-loop-q
invariant-loop cells marks kept notes₀ number stop agreed₀ p₀ q₀ notes agreed p q =
    (g : NextRow cells marks kept notes₀ number q₀ stop) → RowAt g notes agreed p q

abbrev decreases-loop : tie.decreases-loop-q
decreases-loop cells marks kept notes₀ number stop agreed₀ p₀ q₀ notes agreed p q = stop - q

loop-holds : tie.Need-loop-q-init invariant-loop decreases-loop
loop-holds c = λ g. row-start g

-- where the loop's test has held
module _ (c : tie.In-loop-q invariant-loop decreases-loop) where
  abbrev start : tie.Start invariant-loop decreases-loop
  start = c.before.before.before.before

  safe : RowSafe start.requires c.loop-q.notes c.loop-q.agreed c.loop-q.p c.loop-q.q
      (c.loop-q.invariant start.requires) c.loop-q-test.true
  safe = row-safe start.requires c.loop-q.notes c.loop-q.agreed c.loop-q.p c.loop-q.q
      (c.loop-q.invariant start.requires) c.loop-q-test.true

-- and after the step
module _ (c : tie.After-after-q invariant-loop decreases-loop) where
  abbrev here : tie.In-loop-q invariant-loop decreases-loop
  here = c.before.before.before.before.before.before.before.before.before

  stepped : c.next_note-s.result
      ≡ note_step (start here).args.cells.now (start here).args.kept.now here.loop-q.notes
      (start here).args.row.number here.loop-q.p here.loop-q.q
  stepped =
      c.next_note-s.ensures
      ∙ ap (λ (n : Note). note_next (read_in (start here).args.kept.now) n (start here).args.row.number
      (get_or (start here).args.cells.now here.loop-q.q 0) (get_or (start here).args.cells.now here.loop-q.p 0))
      c.note_at.ensures

note-at-requires : tie.Need-note_at-requires invariant-loop decreases-loop
note-at-requires c κs = tt

mul-next-note : tie.Need-offset_bounds-cells-q invariant-loop decreases-loop
mul-next-note c = record { fits = omega (arith, (safe c.before).q-small) }

shared-slice-read-next-note : tie.Need-bounds-cells-q invariant-loop decreases-loop
shared-slice-read-next-note c = (safe c.before.before).q-in

mul-next-note-2 : tie.Need-offset_bounds-cells-p invariant-loop decreases-loop
mul-next-note-2 c = record { fits = omega (arith, (safe c.before.before).p-small) }

shared-slice-read-next-note-2 : tie.Need-bounds-cells-p invariant-loop decreases-loop
shared-slice-read-next-note-2 c = (safe c.before.before.before).p-in

next-note-requires : tie.Need-next_note-s-requires invariant-loop decreases-loop
next-note-requires c κs =
    let i = c.before.before.before in (
      subst (λ (n : Note). Small ((start i).args.row.number + 1) n) (sym c.note_at.ensures) (safe i).small,
      (start i).requires.long,
    )

put-note-requires : tie.Need-put_note-requires invariant-loop decreases-loop
put-note-requires c κs = tt

with-closed-requires : tie.Need-with_closed-agreed-requires invariant-loop decreases-loop
with-closed-requires c κs = (let s = safe c.before.before.before.before.before.before in (s.q-small, s.light))

after-requires : tie.Need-after-p-requires invariant-loop decreases-loop
after-requires c κs = (safe c.before.before.before.before.before.before.before).p-small

after-requires-2 : tie.Need-after-q-requires invariant-loop decreases-loop
after-requires-2 c κs = (safe c.before.before.before.before.before.before.before.before).q-small

loop-less : tie.Need-loop-q-smaller invariant-loop decreases-loop
loop-less c =
    let i = here c in
    let g = (start i).requires in
    omega (
      arith,
      i.loop-q-test.true,
      c.after-q.ensures,
      ap (λ (n : Note). cond (eqb n.runs 1) (i.loop-q.q + 1) (end_in (start i).args.marks.now i.loop-q.q)) (stepped c),
      row_more g i.loop-q.notes i.loop-q.agreed i.loop-q.p i.loop-q.q (i.loop-q.invariant g) i.loop-q-test.true,
    )

loop-again : tie.Need-loop-q-preserved invariant-loop decreases-loop
loop-again c = λ g.
    let i = here c in
    rw (c.put_note.ensures, c.with_closed-agreed.ensures, c.after-p.ensures, c.after-q.ensures, stepped c)
    (row_step g i.loop-q.notes i.loop-q.agreed i.loop-q.p i.loop-q.q (i.loop-q.invariant g) i.loop-q-test.true)

returns : tie.Need-returns invariant-loop decreases-loop
returns c = λ g. row-end g (c.loop-q.invariant g) c.loop-q-test.false

pub note_row_spec : {M : Type 1} → statement M
note_row_spec =
    tie.close
    (tie.spec
    invariant-loop
    decreases-loop
    loop-holds
    note-at-requires
    mul-next-note
    shared-slice-read-next-note
    mul-next-note-2
    shared-slice-read-next-note-2
    next-note-requires
    put-note-requires
    with-closed-requires
    after-requires
    after-requires-2
    loop-less
    loop-again
    returns)
