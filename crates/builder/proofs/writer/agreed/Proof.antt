use mathlib.Core.Path.{◌≡◌, refl, sym, ◌∙◌}
use mathlib.Core.List.{List}
use Prim.Native.Nat.{ℕ, ◌+◌, ◌-◌, ◌^◌, ◌≤◌, ◌<◌}
use native.Mathlib.Omega.{arith}
use borrow.Author.Rules.{rules}
use lib.ListN.{length, set}
use Rattle.cell.specs.Cell.{arity}
use Rattle.term.specs.Terms.{root}
use Rattle.plan.specs.Plans.{write}
use Rattle.state.specs.Flags.{flags_in, spread_of}
use Rattle.state.specs.States.{row_at, rows_in}
use Rattle.least.specs.code.Follow.{agreed_from}
use Rattle.builder.specs.code.Writing.{ToWrite}
use Rattle.builder.specs.code.Ahead.{AheadIn, ToClose, ClosedAhead, Taking}
use Rattle.builder.proofs.ChooseLaws.{found_from, found-most, few-open}
use Rattle.builder.proofs.TakingLaws.{cell-ahead, taking-start, taking-next, taking-from, ahead-start, again-ahead, again-length, again-from}
use Rattle.builder.proofs.writer.agreed.Statement.{statement}
use Rattle.builder.proofs.writer.agreed.Tie as tie
use Rattle.limits.specs.Limits.{most_plan_cells}

abbrev invariant-loop : tie.invariant-loop-i
invariant-loop table starts masks₀ out₀ at first end ahead₀ from₀ opens₀ named₀ next₀ i₀ masks out ahead from opens named next i =
    ((hs kept : List ℕ) (q : ToWrite table starts masks₀ hs kept out₀ first end opens₀ named₀ at)
    → Taking table starts kept masks₀ hs out₀ first end at (write q.plan) masks out opens named next)
    × AheadIn table starts masks ahead from first end × (length ahead ≡ 64) × (from ≤ i)
    × (i ≡ agreed_from (flags_in opens named) opens 0 (rows_in table starts masks first end))

abbrev decreases-loop : tie.decreases-loop-i
decreases-loop table starts masks₀ out₀ at first end ahead₀ from₀ opens₀ named₀ next₀ i₀ masks out ahead from opens named next i = most_plan_cells - next

leftmost-requires : tie.Need-leftmost-i-requires invariant-loop decreases-loop
leftmost-requires c κs =
    let s = c in
    let q = s.requires.state in
    (q.some, q.few, few-open s.args.table.now s.args.starts.now s.args.masks.now q.rows q.some, q.flags)

loop-holds : tie.Need-loop-i-init invariant-loop decreases-loop
loop-holds c =
    let s = c in
    let a = ahead-start s.args.table.now s.args.starts.now s.args.masks.now s.args.rows.first s.args.rows.end in
    let e : s.args.rows.opens - 0 ≡ s.args.rows.opens = omega arith in
    (λ hs kept q. taking-start q, a, s.requires.state.room.masks, omega arith, rw e at (c.leftmost-i.ensures s.args.masks.now a))

-- a turn of the loop, and the call
abbrev turn : tie.After-close_ahead invariant-loop decreases-loop → tie.At-loop-i invariant-loop decreases-loop
turn c = c.before.before.before.before.before.before.before

abbrev call : tie.At-loop-i invariant-loop decreases-loop → tie.Start invariant-loop decreases-loop
call l = l.before.before.before.before.before

-- the state that is reached
reached : (l : tie.At-loop-i invariant-loop decreases-loop) → let s = call l in let a = s.args in
    Taking a.table.now a.starts.now s.requires.places a.masks.now s.requires.column a.out.now a.rows.first a.rows.end a.at
    (write s.requires.state.plan) l.loop-i.masks l.loop-i.out l.loop-i.opens l.loop-i.named l.loop-i.next
reached l = let p = (call l).requires in l.loop-i.invariant.0 p.column p.places p.state

few-here : (l : tie.At-loop-i invariant-loop decreases-loop) → l.loop-i.opens ≤ 32
few-here l =
    let a = (call l).args in
    let r = (reached l).rest in
    few-open a.table.now a.starts.now l.loop-i.masks r.rows r.some

abbrev to-close : (l : tie.At-loop-i invariant-loop decreases-loop) → l.loop-i.i < l.loop-i.opens → let a = (call l).args in
    ToClose a.table.now a.starts.now l.loop-i.masks l.loop-i.ahead (l.loop-i.i - l.loop-i.from) a.rows.first a.rows.end
to-close l h =
    let r = (reached l).rest in
    record {
      masks = r.room.masks;
      aheads = l.loop-i.invariant.2;
      few = r.few;
      from = l.loop-i.from;
      opens = l.loop-i.opens;
      inside = omega (arith, l.loop-i.invariant.3);
      ahead = l.loop-i.invariant.1;
      rows = r.rows;
    }

-- its place is closed
closed-here : (c : tie.After-close_ahead invariant-loop decreases-loop) → let l = turn c in let a = (call l).args in
    ClosedAhead a.table.now a.starts.now l.loop-i.masks c.close_ahead.new.masks c.close_ahead.new.ahead l.loop-i.i
    a.rows.first a.rows.end
closed-here c =
    let l = turn c in
    let e : l.loop-i.from + (l.loop-i.i - l.loop-i.from) ≡ l.loop-i.i = omega (arith, l.loop-i.invariant.3) in
    rw e at (c.close_ahead.ensures (to-close l (omega arith)))

cell-here : (c : tie.After-close_ahead invariant-loop decreases-loop) → let l = turn c in let a = (call l).args in
    c.close_at-c.result.cell ≡ root l.loop-i.i (row_at a.table.now a.starts.now l.loop-i.masks a.rows.first)
cell-here c =
    let l = turn c in
    c.close_at-c.ensures.cell ∙ cell-ahead l.loop-i.invariant.1 (reached l).rest.some l.loop-i.i l.loop-i.invariant.3

-- the state below it
below : (c : tie.After-close_ahead invariant-loop decreases-loop) → let l = turn c in let a = (call l).args in let x = c.close_at-c.result.cell in
    (hs kept : List ℕ) (q : ToWrite a.table.now a.starts.now a.masks.now hs kept a.out.now
    a.rows.first a.rows.end a.rows.opens a.rows.named a.at)
    → (args n : ℕ) → args ≡ arity x → n ≡ spread_of l.loop-i.named l.loop-i.i args
    → Taking a.table.now a.starts.now kept a.masks.now hs a.out.now a.rows.first a.rows.end a.at (write q.plan)
    c.close_ahead.new.masks (set (set (set l.loop-i.out l.loop-i.next l.loop-i.i) (l.loop-i.next + 1) 1) (l.loop-i.next + 2) x)
    (args + (l.loop-i.opens - 1)) n (l.loop-i.next + 3)
below c hs kept q args n a-is n-is =
    let l = turn c in
    let d = closed-here c in
    taking-next (l.loop-i.invariant.0 hs kept q) l.loop-i.i l.loop-i.invariant.4 (omega arith) _ _ args n (cell-here c) d.rows d.masks a-is n-is

some_below : (c : tie.After-close_ahead invariant-loop decreases-loop) (args n : ℕ) → args ≡ arity c.close_at-c.result.cell
    → n ≡ spread_of (turn c).loop-i.named (turn c).loop-i.i args → let a = (call (turn c)).args in
    (args + ((turn c).loop-i.opens - 1) ≤ 32) × (n < 2 ^ (args + ((turn c).loop-i.opens - 1))) × ((turn c).loop-i.next + 3 ≤ most_plan_cells)
some_below c args n a-is n-is =
    let a = (call (turn c)).args in
    let p = (call (turn c)).requires in
    let r = (below c p.column p.places p.state args n a-is n-is).rest in
    (few-open a.table.now a.starts.now c.close_ahead.new.masks r.rows r.some, r.flags, omega (arith, r.fits))

room-here : (c : tie.After-close_ahead invariant-loop decreases-loop) → (turn c).loop-i.next + 3 ≤ most_plan_cells
room-here c = (some_below c _ _ refl refl).2

cast-loop : tie.Need-overflow_cast-i invariant-loop decreases-loop
cast-loop c = record {
  fits = omega (
    arith,
    few-here c,
    c.loop-i.invariant.4,
    found-most (flags_in c.loop-i.opens c.loop-i.named)
        (rows_in (call c).args.table.now (call c).args.starts.now c.loop-i.masks (call c).args.rows.first (call c).args.rows.end)
        c.loop-i.opens 0,
  );
}

mul-close-at : tie.Need-offset_bounds-starts-first invariant-loop decreases-loop
mul-close-at c = search rules

element-copy-out-close-at : tie.Need-bounds-starts-first invariant-loop decreases-loop
element-copy-out-close-at c = search rules

mul-close-at-2 : tie.Need-offset_bounds-ahead-first invariant-loop decreases-loop
mul-close-at-2 c = search rules

array-read-close-at : tie.Need-bounds-ahead-first invariant-loop decreases-loop
array-read-close-at c = search rules

sub-close-at : tie.Need-overflow_sub-i invariant-loop decreases-loop
sub-close-at c = search rules

close-at-requires : tie.Need-close_at-c-requires invariant-loop decreases-loop
close-at-requires c κs = search rules

sub-close-ahead : tie.Need-overflow_sub-i-in-loop-i invariant-loop decreases-loop
sub-close-ahead c = search rules

close-ahead-requires : tie.Need-close_ahead-requires invariant-loop decreases-loop
close-ahead-requires c κs = to-close c.before.before.before.before.before.before (omega arith)

add-second : tie.Need-overflow_add-second invariant-loop decreases-loop
add-second c = record { fits = omega (arith, room-here c) }

add-third : tie.Need-overflow_add-third invariant-loop decreases-loop
add-third c = record { fits = omega (arith, room-here c) }

mul-out : tie.Need-offset_bounds-out-next invariant-loop decreases-loop
mul-out c = record { fits = omega (arith, room-here c) }

element-write-out : tie.Need-bounds-out-next invariant-loop decreases-loop
element-write-out c = omega (arith, room-here c.before)

mul-out-2 : tie.Need-offset_bounds-out-second invariant-loop decreases-loop
mul-out-2 c = record { fits = omega (arith, room-here c.before) }

element-write-out-2 : tie.Need-bounds-out-second invariant-loop decreases-loop
element-write-out-2 c = omega (arith, room-here c.before)

mul-out-3 : tie.Need-offset_bounds-out-third invariant-loop decreases-loop
mul-out-3 c = record { fits = omega (arith, room-here c.before) }

element-write-out-3 : tie.Need-bounds-out-third invariant-loop decreases-loop
element-write-out-3 c = omega (arith, room-here c.before)

add-next : tie.Need-overflow_add-next invariant-loop decreases-loop
add-next c = record { fits = omega (arith, room-here c.before) }

arity-of-requires : tie.Need-arity_of-args-requires invariant-loop decreases-loop
arity-of-requires c κs = search rules

sub-opens : tie.Need-overflow_sub-opens invariant-loop decreases-loop
sub-opens c = search rules

add-opens : tie.Need-overflow_add-opens invariant-loop decreases-loop
add-opens c = record { fits = omega (arith, some_below c.before.before c.arity_of-args.result _ c.arity_of-args.ensures refl) }

again-requires : tie.Need-again-from-requires invariant-loop decreases-loop
again-requires c κs = search rules

spread-requires : tie.Need-spread-named-requires invariant-loop decreases-loop
spread-requires c κs = search rules

-- where all of the turn is known
abbrev closed_at : tie.After-ahead-in-loop-i-3-1 invariant-loop decreases-loop → tie.After-close_ahead invariant-loop decreases-loop
closed_at c = c.before.before.before.before.before.before

leftmost-requires-2 : tie.Need-leftmost-i-requires-in-loop-i invariant-loop decreases-loop
leftmost-requires-2 c κs =
    let k = closed_at c in
    let y = c in
    let b = some_below k y.arity_of-args.result c.spread-named.result y.arity_of-args.ensures c.spread-named.ensures in
    let r = (reached (turn k)).rest in
    (r.some, r.few, b.0, b.1)

loop-less : tie.Need-loop-i-smaller invariant-loop decreases-loop
loop-less c = omega (arith, room-here (closed_at c.before))

loop-again : tie.Need-loop-i-preserved invariant-loop decreases-loop
loop-again c =
    let k = closed_at c.before in
    let l = turn k in
    let a = (call l).args in
    let y = c in
    let z = c in
    let d = closed-here k in
    let g = z.again-from.ensures in
    let ahead = again-ahead g d.ahead in
    let m = k.close_ahead.new.masks in
    let rows = rows_in a.table.now a.starts.now m a.rows.first a.rows.end in
    let size = d.masks.size ∙ (reached l).rest.room.masks in
    let i-is = c.leftmost-i-in-loop-i.ensures m ahead in
    let k' : ℕ = y.arity_of-args.result + (l.loop-i.opens - 1) in
    let gs = flags_in k' z.spread-named.result in
    let r = z.again-from.result in
    let from_is = again-from gs rows k' g
    (taking-from (reached l) l.loop-i.i l.loop-i.invariant.4 k.loop-i-test.true m _ y.arity_of-args.result
    z.spread-named.result (cell-here k) d.rows d.masks
    y.arity_of-args.ensures z.spread-named.ensures) in (
      λ hs kept q. below k hs kept q y.arity_of-args.result z.spread-named.result y.arity_of-args.ensures z.spread-named.ensures,
      ahead,
      again-length g size d.aheads,
      omega (arith, i-is, found_from gs rows (k' - r) r),
      i-is ∙ sym from_is,
    )

returns : tie.Need-returns invariant-loop decreases-loop
returns c = λ hs kept q. let l = c in record { taking = l.loop-i.invariant.0 hs kept q; none = omega (arith, l.loop-i.invariant.4) }

pub agreed_spec : {M : Type 1} → statement M
agreed_spec =
    tie.close
    (tie.spec
    invariant-loop
    decreases-loop
    leftmost-requires
    loop-holds
    cast-loop
    mul-close-at
    element-copy-out-close-at
    mul-close-at-2
    array-read-close-at
    sub-close-at
    close-at-requires
    sub-close-ahead
    close-ahead-requires
    add-second
    add-third
    mul-out
    element-write-out
    mul-out-2
    element-write-out-2
    mul-out-3
    element-write-out-3
    add-next
    arity-of-requires
    sub-opens
    add-opens
    again-requires
    spread-requires
    leftmost-requires-2
    loop-less
    loop-again
    returns)
