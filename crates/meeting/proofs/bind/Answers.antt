-- `bind` meets its contract: the variable replaced in the goal so far and in what is left of the row, and whether one is too long.
use mathlib.Core.Path.{◌≡◌, sym}
use mathlib.Core.List.{List}
use Prim.Native.Nat.{ℕ, ◌+◌, ◌-◌, ◌≤◌, ◌<◌}
use native.Mathlib.Nat.{pos_of_ne-zero}
use native.Mathlib.Omega.{arith}
use lib.ListN.{length, take, drop}
use lib.Seq.{slice, length-take-le}
use Rattle.octets.specs.Octets.{Put}
use Rattle.instance.specs.Rewrite.{put}
use Rattle.instance.specs.code.Meet.{Over}
use Rattle.instance.proofs.MeetSteps.{goal-over, row-over, bind-there}
use Rattle.meeting.specs.code.Turns.{Turning, bound-over}
use Rattle.meeting.proofs.PartLaws.{part-put, two-long, third-long, three-fit, put_three, put-held, put_back}
use Rattle.meeting.proofs.TurnLaws.{bound-fits}
use Rattle.limits.specs.Limits.{most_reply_cells}
use Rattle.meeting.proofs.bind.Goals as goal
use Rattle.meeting.proofs.bind.Goals.{After-put_with-len, After-put_with-last}

-- once the goal so far is put: the first two parts of the cells, the variable replaced
module _ (c : After-put_with-len) where
  abbrev T₂ : List ℕ
  T₂ = take (c.args.e - c.args.a) (drop c.args.a c.args.cells.now)

  second-put : Put c.put_with-at.new.out c.put_with-len.new.out c.put_with-at.result
      (put c.args.v T₂ (slice c.args.k.at c.args.k.len c.args.cells.now)) c.put_with-len.result
  second-put =
      part-put c.args.v T₂ c.args.cells.now c.args.k.at c.args.k.len c.requires.sound.inside c.put_with-len.ensures

  goal-large : most_reply_cells < c.put_with-len.result
      → (row goal : List ℕ) → Turning row goal c.args.cells.now c.args.v T₂ c.args.k → Over row goal
  goal-large l row goal w = goal-over w.after c.requires.sound.inside (two-long c.put_with-at.ensures second-put l)

-- once all three parts are
module _ (c : After-put_with-last) where
  abbrev T : List ℕ
  T = take (c.args.e - c.args.a) (drop c.args.a c.args.cells.now)

  -- a part of the cells, the variable replaced
  abbrev A : List ℕ
  A = put c.args.v T (slice 0 c.args.k.at c.args.cells.now)

  abbrev B : List ℕ
  B = put c.args.v T (slice c.args.k.at c.args.k.len c.args.cells.now)

  abbrev D : List ℕ
  D = put c.args.v T (slice c.args.k.i c.args.k.n c.args.cells.now)

  one-put : Put c.args.other.now c.put_with-at.new.out 0 A c.put_with-at.result
  one-put = c.put_with-at.ensures

  two-put : Put c.put_with-at.new.out c.put_with-len.new.out c.put_with-at.result B c.put_with-len.result
  two-put = part-put c.args.v T c.args.cells.now c.args.k.at c.args.k.len c.requires.sound.inside c.put_with-len.ensures

  three-put : Put c.put_with-len.new.out c.put_with-last.new.out c.put_with-len.result D c.put_with-last.result
  three-put = part-put c.args.v T c.args.cells.now c.args.k.i c.args.k.n c.requires.sound.started c.put_with-last.ensures

  row-large : most_reply_cells < c.put_with-last.result - c.put_with-len.result
      → (row goal : List ℕ) → Turning row goal c.args.cells.now c.args.v T c.args.k → Over row goal
  row-large l row goal w = row-over w.after c.requires.sound.inside (third-long one-put two-put three-put l)

  -- and all of them fit
  module _ (here : c.put_with-last.result ≤ length c.args.cells.now) where
    room : length A + length B + length D ≤ length c.args.other.now
    room = three-fit one-put two-put three-put (omega (arith, here, c.requires.lists.beside))

    ends : (c.put_with-at.result ≡ length A) × (c.put_with-len.result ≡ length A + length B)
        × (c.put_with-last.result ≡ c.put_with-len.result + length D)
    ends = put_three room one-put two-put three-put

    held : c.put_with-last.result ≤ length c.put_with-last.new.out
    held = put-held room one-put two-put three-put

pub returns-then-k-eq0 : goal.returns-then-k-eq0
returns-then-k-eq0 c = bound-over (λ y row goal h w. absurd (let z : ⊥ = omega (arith, h, c.if-k-eq0.true) in z))

pub returns-then-len-gt-REPLY_CELLS : goal.returns-then-len-gt-REPLY_CELLS
returns-then-len-gt-REPLY_CELLS c =
    bound-over (λ y row aim h w.
    goal-large (goal.at.returns-then-len-gt-REPLY_CELLS c).After-put_with-len c.if-len-gt-REPLY_CELLS.true row aim w)

pub returns-then-last-len-gt-REPLY_CELLS : goal.returns-then-last-len-gt-REPLY_CELLS
returns-then-last-len-gt-REPLY_CELLS c =
    bound-over (λ y row aim h w.
    row-large (goal.at.returns-then-last-len-gt-REPLY_CELLS c).After-put_with-last c.if-last-len-gt-REPLY_CELLS.true row aim w)

pub returns-then-cells-last : goal.returns-then-cells-last
returns-then-cells-last c =
    bound-over (λ y row goal h v.
    absurd (let z : ⊥ = omega (arith, y, c.if-cells-last.true, c.if-len-gt-REPLY_CELLS.false, c.if-last-len-gt-REPLY_CELLS.false) in z))

pub slice_bounds-put_cells-end-2 : goal.slice_bounds-put_cells-end-2
slice_bounds-put_cells-end-2 c =
    sym (length-take-le _ _ (held (goal.at.slice_bounds-put_cells-end-2 c).After-put_with-last (omega arith)))

pub returns : goal.returns
returns c =
    let t = (goal.at.returns c).After-put_with-last in
    let h : c.put_with-last.result ≤ length c.args.cells.now = omega (arith, c.if-cells-last.false) in
    let p = c.requires in
    let e = ends t h in
    let x = c.put_cells in
    let f : length (A t) + length (B t) + length (D t) ≤ length c.args.cells.now = omega (arith, e.1, e.2, h) in
    let back = put_back (room t h) (one-put t) (two-put t) (three-put t) f x.ensures in
    let i : c.put_with-at.result ≤ c.put_with-len.result = omega (arith, e.0, e.1) in
    let a : c.put_with-len.result ≤ c.put_with-last.result = omega (arith, e.2) in
    bound-fits i a h (pos_of_ne-zero c.if-k-eq0.false)
    (λ row goal v.
    bind-there v.after p.sound.inside _ _ _ _ (omega (arith, h, x.auto.out)) e.0 e.1 e.2
    (omega (arith, c.if-len-gt-REPLY_CELLS.false)) (omega (arith, c.if-last-len-gt-REPLY_CELLS.false)) back)
