use Prim.Native.Nat.{ℕ, ◌+◌, ◌<◌}
use mathlib.Core.Path.{◌≡◌, refl, ◌∙◌}
use mathlib.Core.Bool.{true}
use native.Mathlib.Omega.{arith}
use lib.ListN.{length, get_or}
use Rattle.term.specs.Unify.{renamed}
use Rattle.answer.proofs.AcceptedLaws.{goal-head}
use Rattle.plan.specs.Notes.{skip_in, row_noted}
use Rattle.walking.specs.code.Link.{Tables}
use Rattle.walking.specs.code.Walk.{Begun}
use Rattle.walking.proofs.StartLaws.{whole, tables, arguments}
use Rattle.walking.proofs.AlongLaws.{ended}
use Rattle.walking.proofs.WalkLaws.{Walking, words_count, count_small, began, safe-now, found-now, flagged, flag-now}
use Rattle.walking.proofs.WalkLaws.{fail-now, leaf-now, down-now}
use Rattle.alone.specs.code.Rest.{Begins}
use Rattle.alone.proofs.FlagLaws.{rest-now, alone-now}
use Rattle.limits.specs.Limits.{most_branches}
use Rattle.run.proofs.walk.walk.Goals as goal
use Rattle.run.proofs.walk.walk.Goals.{After-alone_of}

pub siblings-sib-requires : goal.siblings-sib-requires
siblings-sib-requires c = whole c.requires

pub name_cells-rep-requires : goal.name_cells-rep-requires
name_cells-rep-requires c = (whole c.requires, refl, refl, refl)

pub loop-i-init : goal.loop-i-init
loop-i-init c =
    let S = c.siblings-sib.ensures in
    let N = c.name_cells-rep.ensures in
    let p = c.requires in (
      tables p S N,
      refl,
      omega arith,
      omega arith,
      omega arith,
      λ b. began b S N (c.put_terms.ensures (omega (arith, b.accepted.width.1)) (arguments p S N).small),
    )

-- a branch whose number is taken apart
module _ (c : After-alone_of) where
  -- that it is a run of an accepted plan
  abbrev Granted : Type 0
  Granted = Begun c.args.notes.now c.args.branches c.args.goal.now c.args.room.now c.args.width

  abbrev T : Tables (renamed c.args.goal.now) c.siblings-sib.result c.name_cells-rep.result
  T = c.loop-i.invariant.0

  abbrev walking : (b : Granted)
      → (let l = c.loop-i in
      Walking b c.name_cells-rep.result c.siblings-sib.result l.bound l.args l.until l.refs l.room l.i l.hits (l.tried + l.apart))
  walking b = c.loop-i.invariant.5 b

  -- what is read of it
  abbrev Word : ℕ
  Word = get_or c.args.notes.now c.loop-i.i 0

  abbrev below : c.loop-i.i < c.end_of-end.result
  below = c.loop-i-test.true

  in-notes : c.loop-i.i < most_branches
  in-notes = omega (arith, c.end_of-end.ensures.0, below)

  lower : Granted → c.loop-i.i < c.args.branches
  lower b = omega (arith, c.end_of-end.ensures.1 (count_small b), below)

  -- how many branches are below it, and the branch after them
  abbrev skip : ℕ
  skip = c.skip_of-skip.result

  past-read : c.loop-i.i + 1 + skip ≡ c.loop-i.i + 1 + skip_in Word
  past-read = omega (arith, c.skip_of-skip.ensures)

  few-skipped : skip < 4096
  few-skipped = omega (arith, c.skip_of-skip.ensures)

  -- where there is a hit, the room has a place for it
  has_room : (b : Granted) → c.loop-i.hits < length c.loop-i.room
  has_room b = omega (arith, found-now b T (walking b) (lower b), b.roomy, c.loop-i.invariant.1)

  -- whether the rest of its row is run by itself
  flag-read : (b : Granted) → flagged b T (walking b) (lower b) ≡ c.alone_of.result
  flag-read b = flag-now b T (walking b) (lower b) _ c.alone_of.ensures

  -- a row that is run by itself: the walk as the call of `rest` finds it
  abbrev begins : c.alone_of.result ≡ true → Granted → (let l = c.loop-i in
      Begins c.args.notes.now c.name_cells-rep.result c.siblings-sib.result l.bound l.args l.until l.refs l.i (l.i + 1 + skip))
  begins on b = rest-now b T (walking b) (lower b) (flag-read b ∙ on) _ past-read

pub loop-i-preserved-then-alone_of : goal.loop-i-preserved-then-alone_of
loop-i-preserved-then-alone_of c =
    let d = (goal.at.loop-i-preserved-then-alone_of c).After-alone_of in
    let l = c.loop-i.invariant in
    let h = c.rest-o.ensures in
    let e : c.wide.result ≡ row_noted (Word d) = c.wide.ensures ∙ c.row_of.ensures in (
      l.0,
      c.put_rows.auto.room ∙ l.1,
      omega (arith, l.2, h.1),
      omega (arith, l.3, h.0),
      omega (arith, in-notes d, few-skipped d),
      λ b.
          alone-now b (T d) (walking d b) (lower d b) (flag-read d b ∙ c.if-alone_of.true) (past-read d)
          (h.2 (begins d c.if-alone_of.true b)) _ e (c.put_rows.ensures (omega (arith, has_room d b, h.1)) (omega (arith, e, h.1)))
          refl refl (omega arith),
    )

pub loop-i-preserved-then-skip-eq0 : goal.loop-i-preserved-then-skip-eq0
loop-i-preserved-then-skip-eq0 c =
    let d = (goal.at.loop-i-preserved-then-skip-eq0 c).After-alone_of in
    let l = c.loop-i.invariant in (
      l.0,
      c.put_row.auto.room ∙ l.1,
      omega (arith, l.2),
      omega (arith, l.3),
      omega (arith, in-notes d, few-skipped d),
      λ b.
          let A = walking d b in
          let s = rw c.if-meets.true at (c.meets.ensures (safe-now b l.0 A (lower d b))) in
          leaf-now b l.0 A (lower d b) (flag-read d b ∙ c.if-alone_of.false) _ _ c.row_of-then-skip-eq0.ensures c.skip_of-skip.ensures s c.if-skip-eq0.true
          (c.put_row.ensures (has_room d b)) (omega arith) (omega arith) (omega arith),
    )

pub loop-i-preserved-else-skip-eq0 : goal.loop-i-preserved-else-skip-eq0
loop-i-preserved-else-skip-eq0 c =
    let d = (goal.at.loop-i-preserved-else-skip-eq0 c).After-alone_of in
    let l = c.loop-i.invariant in (
      l.0,
      l.1,
      omega (arith, l.2),
      omega (arith, l.3),
      omega (arith, in-notes d, few-skipped d),
      λ b.
          let A = walking d b in
          let s = rw c.if-meets.true at (c.meets.ensures (safe-now b l.0 A (lower d b))) in
          down-now b l.0 A (lower d b) (flag-read d b ∙ c.if-alone_of.false) _ c.skip_of-skip.ensures s c.if-skip-eq0.false (omega arith) (omega arith),
    )

pub loop-i-preserved : goal.loop-i-preserved
loop-i-preserved c =
    let d = (goal.at.loop-i-preserved c).After-alone_of in
    let l = c.loop-i.invariant in (
      l.0,
      l.1,
      omega (arith, l.2),
      omega (arith, l.3),
      omega (arith, in-notes d, few-skipped d),
      λ b.
          let A = walking d b in
          let s = rw c.if-meets.false at (c.meets.ensures (safe-now b l.0 A (lower d b))) in
          fail-now b l.0 A (lower d b) (flag-read d b ∙ c.if-alone_of.false) s (omega (arith, past-read d)) (omega arith),
    )

pub overflow_add-result : goal.overflow_add-result
overflow_add-result c = let l = c.loop-i.invariant in omega (arith, l.3, l.4)

pub returns : goal.returns
returns c = λ b.
    let e = ended (goal-head b.is) c.loop-i.invariant.0 (c.loop-i.invariant.5 b)
    (omega (arith, words_count b, c.end_of-end.ensures.1 (count_small b))) in
    record { wrote = e.0; number-found = e.1; number-tried = e.2 }
