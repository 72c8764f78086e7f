use mathlib.Core.Path.{◌≡◌, refl, ◌∙◌}
use Prim.Native.Nat.{ℕ, ◌+◌, ◌-◌, ◌<◌}
use native.Mathlib.Omega.{arith}
use borrow.Author.Rules.{rules}
use borrow.Author.Tests.{eqb-true}
use lib.ListN.{get_or, set}
use Rattle.cell.specs.Cell.{arity}
use Rattle.plan.specs.Plans.{write, writes}
use Rattle.state.specs.Flags.{flags_in, spread_of}
use Rattle.state.specs.States.{rows_in, column_in}
use Rattle.state.proofs.RowsLaws.{column-length}
use Rattle.builder.specs.code.Writing.{ToWrite, ToWriteAll}
use Rattle.builder.specs.code.Ahead.{Taken}
use Rattle.builder.proofs.AloneLaws.{alone-fits, alone-written}
use Rattle.builder.proofs.ChooseLaws.{few-open, rows_end, taken-kept}
use Rattle.builder.proofs.TakingLaws.{taking-done}
use Rattle.builder.proofs.WritingLaws.{leaf_room, leaf-written, Inner, inner, Going, going_start, going_done}
use Rattle.builder.proofs.WritingLaws.{Branch, branch, count-few}
use borrow.Fn.Kinds.{In}
use borrow.Fn.PlainCycle.{Measures, is, falls, and}
use Rattle.builder.proofs.writer.branches.Reads as branches
use Rattle.builder.proofs.writer.branches.Kinds as branches-kinds
use Rattle.builder.proofs.writer.+branches_state.Lts-branches as branches-lts
use Rattle.builder.proofs.writer.state.Reads as state
use Rattle.builder.proofs.writer.state.Kinds as state-kinds
use Rattle.builder.proofs.writer.+branches_state.Lts-state as state-lts
use Rattle.builder.proofs.writer.alone.Reads as alone-reads
use Rattle.builder.proofs.writer.agreed.Reads as agreed-reads
use Rattle.builder.proofs.writer.leaf.Reads as leaf-reads
use Rattle.builder.proofs.writer.within.Reads as within-reads
use Rattle.cell.proofs.arity_of.Reads as arity-of-reads
use Rattle.state.proofs.column.run_count.Reads as run-count-reads
use Rattle.state.proofs.column.run_length.Reads as run-length-reads
use Rattle.state.proofs.flags.spread.Reads as spread-reads
use Rattle.state.proofs.mask.close_rows.Reads as close-rows-reads
use Rattle.builder.proofs.writer.+branches_state.{statement}
use Rattle.builder.proofs.writer.+branches_state.Tie.{close}
use Rattle.limits.specs.Limits.{most_plan_cells}

abbrev μ-branches : Measures 6 branches-kinds.ps ℕ
μ-branches κs a = most_plan_cells - a.1.1.1.1.1.1.1.1.0

abbrev μ-state : Measures 6 state-kinds.ps ℕ
μ-state κs a = most_plan_cells - a.1.1.1.1.1.1.1.0

abbrev branches_at : ℕ → In 6 branches-kinds.ps
branches_at t = and 6 branches-kinds.ps (is 6 branches-kinds.ps μ-branches t) branches.Pre

abbrev branches-below : ℕ → In 6 branches-kinds.ps
branches-below t =
    and 6 branches-kinds.ps (falls 6 branches-kinds.ps ◌<◌ μ-branches t) branches.Pre

abbrev state-at : ℕ → In 6 state-kinds.ps
state-at t = and 6 state-kinds.ps (is 6 state-kinds.ps μ-state t) state.Pre

abbrev state-below : ℕ → In 6 state-kinds.ps
state-below t = and 6 state-kinds.ps (falls 6 state-kinds.ps ◌<◌ μ-state t) state.Pre

abbrev branches-with : ℕ → branches-lts.Claims
branches-with t = (
  run-length-reads.Asked,
  run-length-reads.Learnt,
  arity-of-reads.Asked,
  arity-of-reads.Learnt,
  spread-reads.Asked,
  spread-reads.Learnt,
  state-below t,
  state.Post,
)

abbrev state-with : ℕ → state-lts.Claims
state-with t = (
  alone-reads.Asked,
  alone-reads.Learnt,
  agreed-reads.Asked,
  agreed-reads.Learnt,
  leaf-reads.Asked,
  leaf-reads.Learnt,
  within-reads.Asked,
  within-reads.Learnt,
  close-rows-reads.Asked,
  close-rows-reads.Learnt,
  run-count-reads.Asked,
  run-count-reads.Learnt,
  branches-below t,
  branches.Post,
)

abbrev branches-Inv-loop : branches-lts.invariant-loop-row
branches-Inv-loop table starts masks₀ column₀ kept out₀ rows i at end row₀ next₀ masks column out row next =
    (q : ToWriteAll table starts masks₀ column₀ kept out₀ rows.first rows.end rows.opens rows.named i at)
    → Going table starts kept masks₀ column₀ out₀ rows.end rows.opens rows.named i at (writes q.plans) masks column out row next

abbrev branches-μ-loop : branches-lts.decreases-loop-row
branches-μ-loop table starts masks₀ column₀ kept out₀ rows i at end row₀ next₀ masks column out row next =
    end - row

-- the places of `branches` that its answers go back to: where the run's length is known, the turn of the loop before that, and the call
-- before that
abbrev At-run : ℕ → Type 0
At-run t = branches-lts.After-run_length-n (branches-with t) (branches_at t) branches.Post branches-Inv-loop branches-μ-loop

abbrev turn_at : (t : ℕ) → At-run t → branches-lts.At-loop-row (branches-with t) (branches_at t) branches.Post branches-Inv-loop branches-μ-loop
turn_at t c = c.before.before.before.before.before

abbrev call_at : (t : ℕ) → At-run t → branches-lts.Start (branches-with t) (branches_at t) branches.Post branches-Inv-loop branches-μ-loop
call_at t c = (turn_at t c).before.before.before

-- the branch of a turn
branch-here : (t : ℕ) (c : At-run t) → let r = (call_at t c).args in let l = (turn_at t c).loop-row in
    (a m : ℕ) → a ≡ arity (get_or l.column l.row 0) → m ≡ spread_of r.rows.named r.i a
    → (q : ToWriteAll r.table.now r.starts.now r.masks.now r.column.now r.kept.now r.out.now
    r.rows.first r.rows.end r.rows.opens r.rows.named r.i r.at)
    → Branch r.table.now r.starts.now r.kept.now r.masks.now r.column.now r.out.now
    r.rows.end r.rows.opens r.rows.named r.i r.at (writes q.plans)
    l.masks l.column l.out l.row l.next c.run_length-n.result (get_or l.column l.row 0) a m
branch-here t c a m e f q =
    branch ((turn_at t c).loop-row.invariant q) c.run_length-n.result _ c.loop-row-test.true refl
    c.run_length-n.ensures a m e f

-- the same where only its rows are of interest
some-branch : (t : ℕ) (c : At-run t) → let r = (call_at t c).args in let l = (turn_at t c).loop-row in
    let a = arity (get_or l.column l.row 0) in
    Branch r.table.now r.starts.now r.kept.now r.masks.now r.column.now r.out.now
    r.rows.end r.rows.opens r.rows.named r.i r.at (writes (call_at t c).requires.1.plans)
    l.masks l.column l.out l.row l.next c.run_length-n.result
    (get_or l.column l.row 0) a (spread_of r.rows.named r.i a)
some-branch t c = branch-here t c _ _ refl refl (call_at t c).requires.1

branches-loop-holds : (t : ℕ) → branches-lts.Need-loop-row-init (branches-with t) (branches_at t) branches.Post branches-Inv-loop branches-μ-loop
branches-loop-holds t c = λ q. going_start q

branches-mul-run-length : (t : ℕ) → branches-lts.Need-offset_bounds-cells-row (branches-with t) (branches_at t) branches.Post branches-Inv-loop branches-μ-loop
branches-mul-run-length t c = search rules

branches-sub-run-length : (t : ℕ) → branches-lts.Need-slice_bounds-run_length-count (branches-with t) (branches_at t) branches.Post branches-Inv-loop branches-μ-loop
branches-sub-run-length t c = search rules

branches-part-run-length-start : (t : ℕ) → branches-lts.Need-slice_bounds-run_length-start (branches-with t) (branches_at t) branches.Post branches-Inv-loop
    branches-μ-loop
branches-part-run-length-start t c = search rules

branches-part-run-length-end : (t : ℕ) → branches-lts.Need-slice_bounds-run_length-end (branches-with t) (branches_at t) branches.Post branches-Inv-loop branches-μ-loop
branches-part-run-length-end t c = search rules

branches-run-length-requires : (t : ℕ) → branches-lts.Need-run_length-n-requires (branches-with t) (branches_at t) branches.Post branches-Inv-loop branches-μ-loop
branches-run-length-requires t c κs = search rules

branches-mul-c : (t : ℕ) → branches-lts.Need-offset_bounds-column-row (branches-with t) (branches_at t) branches.Post branches-Inv-loop branches-μ-loop
branches-mul-c t c = search rules

branches-element-copy-out-c : (t : ℕ) → branches-lts.Need-bounds-column-row (branches-with t) (branches_at t) branches.Post branches-Inv-loop branches-μ-loop
branches-element-copy-out-c t c = search rules

branches-mul-out : (t : ℕ) → branches-lts.Need-offset_bounds-out-next (branches-with t) (branches_at t) branches.Post branches-Inv-loop branches-μ-loop
branches-mul-out t c = omega (arith, (some-branch t c.before.before).room)

branches-element-write-out : (t : ℕ) → branches-lts.Need-bounds-out-next (branches-with t) (branches_at t) branches.Post branches-Inv-loop branches-μ-loop
branches-element-write-out t c = (some-branch t c.before.before.before).room

branches-arity-of-requires : (t : ℕ) → branches-lts.Need-arity_of-args-requires (branches-with t) (branches_at t) branches.Post branches-Inv-loop branches-μ-loop
branches-arity-of-requires t c κs = search rules

branches-add-state : (t : ℕ) → branches-lts.Need-overflow_add-below (branches-with t) (branches_at t) branches.Post branches-Inv-loop branches-μ-loop
branches-add-state t c = omega (arith, (some-branch t c.before.before.before.before).few, (call_at t c.before.before.before.before).requires.1.few)

branches-add-t22 : (t : ℕ) → branches-lts.Need-overflow_add-below-in-loop-row (branches-with t) (branches_at t) branches.Post branches-Inv-loop branches-μ-loop
branches-add-t22 t c =
    let l = c.before.before.before.before.before in
    let r = (call_at t l).args in
    let h = branch-here t l c.arity_of-args.result _ c.arity_of-args.ensures refl (call_at t l).requires.1 in
    omega (arith, few-open r.table.now r.starts.now (turn_at t l).loop-row.masks h.below.rows h.below.some)

branches-spread-requires : (t : ℕ) → branches-lts.Need-spread-requires (branches-with t) (branches_at t) branches.Post branches-Inv-loop branches-μ-loop
branches-spread-requires t c κs = search rules

-- where the state below is called: the turn's run, and the branch with what was counted and spread there
abbrev At-below : ℕ → Type 0
At-below t = branches-lts.After-state-arg-in-loop-row-2-1 (branches-with t) (branches_at t) branches.Post branches-Inv-loop branches-μ-loop

abbrev run_at : (t : ℕ) → At-below t → At-run t
run_at t c = c.before.before.before.before.before.before.before.before.before

branches-add-state-2 : (t : ℕ) → branches-lts.Need-overflow_add-next (branches-with t) (branches_at t) branches.Post branches-Inv-loop branches-μ-loop
branches-add-state-2 t c = omega (arith, (some-branch t (run_at t c)).room)

branches-state-requires : (t : ℕ) → branches-lts.Need-state-next-requires (branches-with t) (branches_at t) branches.Post branches-Inv-loop branches-μ-loop
branches-state-requires t c κs =
    let l = run_at t c in
    let z = c.before.before.before in
    let y = z in
    let q = (call_at t l).requires.1 in
    let h = branch-here t l y.arity_of-args.result z.spread.result y.arity_of-args.ensures z.spread.ensures q in
    (omega (arith, (call_at t l).requires.0, h.room, ((turn_at t l).loop-row.invariant q).later), h.below)

branches-add-row : (t : ℕ) → branches-lts.Need-overflow_add-row (branches-with t) (branches_at t) branches.Post branches-Inv-loop branches-μ-loop
branches-add-row t c = let l = run_at t c.before in omega (arith, (some-branch t l).few, (call_at t l).requires.1.few)

branches-loop-less : (t : ℕ) → branches-lts.Need-loop-row-smaller (branches-with t) (branches_at t) branches.Post branches-Inv-loop branches-μ-loop
branches-loop-less t c = let l = run_at t c.before in omega (arith, (some-branch t l).few, (some-branch t l).some)

branches-loop-again : (t : ℕ) → branches-lts.Need-loop-row-preserved (branches-with t) (branches_at t) branches.Post branches-Inv-loop branches-μ-loop
branches-loop-again t c =
    λ q. let z = c.before.before.before.before in
    let y = z in
    let h = branch-here t (run_at t c.before) y.arity_of-args.result z.spread.result y.arity_of-args.ensures z.spread.ensures q in
    h.on _ _ _ _ (c.state-next.ensures h.below)

branches-returns : (t : ℕ) → branches-lts.Need-returns (branches-with t) (branches_at t) branches.Post branches-Inv-loop branches-μ-loop
branches-returns t c = λ q. going_done (c.loop-row.invariant q) (omega arith)

-- the same of `state`: where its agreed places are taken, where the runs are counted, and the call
abbrev At-agreed : ℕ → Type 0
At-agreed t = state-lts.After-agreed-reached (state-with t) (state-at t) state.Post

abbrev entered : (t : ℕ) → At-agreed t → state-lts.Start (state-with t) (state-at t) state.Post
entered t c = c.before.before.before.before.before.before

abbrev At-count : ℕ → Type 0
At-count t = state-lts.After-run_count-count (state-with t) (state-at t) state.Post

abbrev agreed-at : (t : ℕ) → At-count t → At-agreed t
agreed-at t c = c.before.before.before.before.before.before.before.before.before.before

-- the state that is reached
taken_here : (t : ℕ) (c : At-agreed t) → let r = (entered t c).args in
    (q : ToWrite r.table.now r.starts.now r.masks.now r.column.now r.kept.now r.out.now
    r.rows.first r.rows.end r.rows.opens r.rows.named r.at)
    → Taken r.table.now r.starts.now r.kept.now r.masks.now r.column.now r.out.now
    r.rows.first r.rows.end r.at (write q.plan)
    c.agreed-reached.new.masks c.agreed-reached.new.out c.agreed-reached.result.opens c.agreed-reached.result.named c.agreed-reached.result.next
taken_here t c q = c.agreed-reached.ensures _ _ q

some-taken : (t : ℕ) (c : At-agreed t) → let r = (entered t c).args in
    Taken r.table.now r.starts.now r.kept.now r.masks.now r.column.now r.out.now
    r.rows.first r.rows.end r.at (write (entered t c).requires.1.plan)
    c.agreed-reached.new.masks c.agreed-reached.new.out c.agreed-reached.result.opens c.agreed-reached.result.named c.agreed-reached.result.next
some-taken t c = taken_here t c (entered t c).requires.1

-- its kept place is taken and closed
inner-here : (t : ℕ) (c : At-count t) → let a = agreed-at t c in
    let r = (entered t a).args in
    let i = c.within-i.result in
    (q : ToWrite r.table.now r.starts.now r.masks.now r.column.now r.kept.now r.out.now
    r.rows.first r.rows.end r.rows.opens r.rows.named r.at)
    → Inner r.table.now r.starts.now a.agreed-reached.new.masks r.column.now r.kept.now a.agreed-reached.new.out
    r.rows.first r.rows.end a.agreed-reached.result.opens a.agreed-reached.result.named i a.agreed-reached.result.next
    c.close_rows.new.masks c.close_rows.new.column
    (set (set a.agreed-reached.new.out a.agreed-reached.result.next i) (a.agreed-reached.result.next + 1) c.run_count-count.result)
    (write (taken_here t a q).taking.rest.plan)
inner-here t c q =
    let a = agreed-at t c in
    let r = (entered t a).args in
    let x = taken_here t a q in
    let z = x.taking.rest in
    inner z _ _ _ c.run_count-count.result
    (omega (arith, c.if-opens-eq0.false))
    (c.within-i.ensures
    ∙ taken-kept (flags_in a.agreed-reached.result.opens a.agreed-reached.result.named)
    (rows_in r.table.now r.starts.now a.agreed-reached.new.masks r.rows.first r.rows.end) r.kept.now r.rows.first
    a.agreed-reached.result.opens _ refl r.rows.end x.none (rows_end r.table.now r.starts.now a.agreed-reached.new.masks z.some))
    c.close_rows.ensures c.run_count-count.ensures

some-inner : (t : ℕ) (c : At-count t) → (agreed-at t c).agreed-reached.result.next + 1 < most_plan_cells
some-inner t c = (inner-here t c (entered t (agreed-at t c)).requires.1).room

state-sub-if1 : (t : ℕ) → state-lts.Need-overflow_sub-end (state-with t) (state-at t) state.Post
state-sub-if1 t c = search rules

state-mul-alone : (t : ℕ) → state-lts.Need-offset_bounds-starts-first (state-with t) (state-at t) state.Post
state-mul-alone t c = search rules

state-element-copy-out-alone : (t : ℕ) → state-lts.Need-bounds-starts-first (state-with t) (state-at t) state.Post
state-element-copy-out-alone t c = search rules

state-mul-alone-2 : (t : ℕ) → state-lts.Need-offset_bounds-masks-first (state-with t) (state-at t) state.Post
state-mul-alone-2 t c = search rules

state-element-copy-out-alone-2 : (t : ℕ) → state-lts.Need-bounds-masks-first (state-with t) (state-at t) state.Post
state-element-copy-out-alone-2 t c = search rules

state-alone-requires : (t : ℕ) → state-lts.Need-alone-requires (state-with t) (state-at t) state.Post
state-alone-requires t c κs =
    let h = c in
    let q = h.requires.1 in
    (q.room.cells, alone-fits q h.if-end-first-eq1.true (eqb-true _ _ h.if-rows-eq0.true-raw))

state-returns : (t : ℕ) → state-lts.Need-returns-then-rows-eq0 (state-with t) (state-at t) state.Post
state-returns t c =
    λ q. let h = c in alone-written q h.if-end-first-eq1.true (eqb-true _ _ h.if-rows-eq0.true-raw) _ _ c.alone.ensures

state-agreed-requires : (t : ℕ) → state-lts.Need-agreed-reached-requires (state-with t) (state-at t) state.Post
state-agreed-requires t c κs =
    let s = c in
    record { column = s.args.column.now; places = s.args.kept.now; state = s.requires.1 }

state-sub-leaf : (t : ℕ) → state-lts.Need-overflow_sub-end-then-opens-eq0 (state-with t) (state-at t) state.Post
state-sub-leaf t c = search rules

state-leaf-requires : (t : ℕ) → state-lts.Need-leaf-requires (state-with t) (state-at t) state.Post
state-leaf-requires t c κs =
    let r = (some-taken t c.before.before).taking.rest in
    (omega (arith, r.few), leaf_room r c.if-opens-eq0.true)

state-returns-2 : (t : ℕ) → state-lts.Need-returns-then-opens-eq0 (state-with t) (state-at t) state.Post
state-returns-2 t c =
    λ q. let x = (taken_here t c.before.before.before q).taking in
    taking-done x _ _ _ _ (leaf-written x.rest c.if-opens-eq0.true _ _ c.leaf.ensures)

state-sub-last : (t : ℕ) → state-lts.Need-overflow_sub-last (state-with t) (state-at t) state.Post
state-sub-last t c = search rules

state-mul-pair : (t : ℕ) → state-lts.Need-overflow_mul-pair (state-with t) (state-at t) state.Post
state-mul-pair t c = search rules

state-add-pair : (t : ℕ) → state-lts.Need-overflow_add-pair (state-with t) (state-at t) state.Post
state-add-pair t c = search rules

state-add-within : (t : ℕ) → state-lts.Need-overflow_add-pair-2 (state-with t) (state-at t) state.Post
state-add-within t c = search rules

state-mul-within : (t : ℕ) → state-lts.Need-offset_bounds-kept-pair (state-with t) (state-at t) state.Post
state-mul-within t c = search rules

state-shared-slice-read-within : (t : ℕ) → state-lts.Need-bounds-kept-pair (state-with t) (state-at t) state.Post
state-shared-slice-read-within t c = search rules

state-within-requires : (t : ℕ) → state-lts.Need-within-i-requires (state-with t) (state-at t) state.Post
state-within-requires t c κs = search rules

state-close-rows-requires : (t : ℕ) → state-lts.Need-close_rows-requires (state-with t) (state-at t) state.Post
state-close-rows-requires t c κs = search rules

state-mul-run-count : (t : ℕ) → state-lts.Need-offset_bounds-cells-first (state-with t) (state-at t) state.Post
state-mul-run-count t c = search rules

state-sub-run-count : (t : ℕ) → state-lts.Need-slice_bounds-run_count-count (state-with t) (state-at t) state.Post
state-sub-run-count t c = search rules

state-part-run-count-start : (t : ℕ) → state-lts.Need-slice_bounds-run_count-start (state-with t) (state-at t) state.Post
state-part-run-count-start t c = search rules

state-part-run-count-end : (t : ℕ) → state-lts.Need-slice_bounds-run_count-end (state-with t) (state-at t) state.Post
state-part-run-count-end t c = search rules

state-run-count-requires : (t : ℕ) → state-lts.Need-run_count-count-requires (state-with t) (state-at t) state.Post
state-run-count-requires t c κs = search rules

state-cast-count : (t : ℕ) → state-lts.Need-overflow_cast-count (state-with t) (state-at t) state.Post
state-cast-count t c =
    let q = (entered t (agreed-at t c)).requires.1 in
    let r = (entered t (agreed-at t c)).args.rows in
    let h = c.close_rows.new.column in
    let z = (inner-here t c q).ready.room.column in
    omega (
      arith,
      c.run_count-count.ensures,
      count-few (column_in h r.first r.end),
      column-length h r.first r.end (omega (arith, q.few)),
      q.few,
      q.some,
    )

state-add-second : (t : ℕ) → state-lts.Need-overflow_add-second (state-with t) (state-at t) state.Post
state-add-second t c = record { fits = omega (arith, some-inner t c) }

state-mul-out : (t : ℕ) → state-lts.Need-offset_bounds-out-next (state-with t) (state-at t) state.Post
state-mul-out t c = record { fits = omega (arith, some-inner t c) }

state-mul-out-2 : (t : ℕ) → state-lts.Need-offset_bounds-out-second (state-with t) (state-at t) state.Post
state-mul-out-2 t c = record { fits = omega (arith, some-inner t c.before) }

state-element-write-out : (t : ℕ) → state-lts.Need-bounds-out-next (state-with t) (state-at t) state.Post
state-element-write-out t c = omega (arith, some-inner t c.before)

state-element-write-out-2 : (t : ℕ) → state-lts.Need-bounds-out-second (state-with t) (state-at t) state.Post
state-element-write-out-2 t c = omega (arith, some-inner t c.before)

state-sub-t22 : (t : ℕ) → state-lts.Need-overflow_sub-others (state-with t) (state-at t) state.Post
state-sub-t22 t c = search rules

state-add-branches : (t : ℕ) → state-lts.Need-overflow_add-next (state-with t) (state-at t) state.Post
state-add-branches t c = record { fits = omega (arith, some-inner t c.before.before.before.before) }

state-branches-requires : (t : ℕ) → state-lts.Need-branches-requires (state-with t) (state-at t) state.Post
state-branches-requires t c κs =
    let l = c.before.before.before.before in
    let a = agreed-at t l in
    let s = entered t a in
    (omega (arith, s.requires.0, some-inner t l, (some-taken t a).taking.later), (inner-here t l s.requires.1).ready)

state-returns-3 : (t : ℕ) → state-lts.Need-returns (state-with t) (state-at t) state.Post
state-returns-3 t c =
    λ q. let l = c.before.before.before.before.before in
    let i = inner-here t l q in
    taking-done (taken_here t (agreed-at t l) q).taking _ _ _ _ (i.done _ _ _ _ (c.branches.ensures i.ready))

pub +branches_state_spec : {M : Type 1} → statement M
+branches_state_spec = close μ-branches μ-state (λ t. branches-lts.spec (branches-with t)
    (branches_at t)
    branches.Post
    branches-Inv-loop
    branches-μ-loop
    (branches-loop-holds t)
    (branches-mul-run-length t)
    (branches-sub-run-length t)
    (branches-part-run-length-start t)
    (branches-part-run-length-end t)
    (branches-run-length-requires t)
    (branches-mul-c t)
    (branches-element-copy-out-c t)
    (branches-mul-out t)
    (branches-element-write-out t)
    (branches-arity-of-requires t)
    (branches-add-state t)
    (branches-add-t22 t)
    (branches-spread-requires t)
    (branches-add-state-2 t)
    (branches-state-requires t)
    (branches-add-row t)
    (branches-loop-less t)
    (branches-loop-again t)
    (branches-returns t))
    λ t. state-lts.spec (state-with t)
    (state-at t)
    state.Post
    (state-sub-if1 t)
    (state-mul-alone t)
    (state-element-copy-out-alone t)
    (state-mul-alone-2 t)
    (state-element-copy-out-alone-2 t)
    (state-alone-requires t)
    (state-returns t)
    (state-agreed-requires t)
    (state-sub-leaf t)
    (state-leaf-requires t)
    (state-returns-2 t)
    (state-sub-last t)
    (state-mul-pair t)
    (state-add-pair t)
    (state-add-within t)
    (state-mul-within t)
    (state-shared-slice-read-within t)
    (state-within-requires t)
    (state-close-rows-requires t)
    (state-mul-run-count t)
    (state-sub-run-count t)
    (state-part-run-count-start t)
    (state-part-run-count-end t)
    (state-run-count-requires t)
    (state-cast-count t)
    (state-add-second t)
    (state-mul-out t)
    (state-element-write-out t)
    (state-mul-out-2 t)
    (state-element-write-out-2 t)
    (state-sub-t22 t)
    (state-add-branches t)
    (state-branches-requires t)
    (state-returns-3 t)
