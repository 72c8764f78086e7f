use Prim.Native.Nat.{◌-◌, ◌*◌, ◌≤◌}
use native.Mathlib.Omega.{arith}
use borrow.Author.Rules.{rules}
use lib.ListN.{length}
use Rattle.handing.specs.code.Lines.{ProgramWritten}
use Rattle.handing.proofs.LineLaws.{one-long}
use Rattle.handing.proofs.WalkLaws.{here, Rest, rest-begins, rest-on, rest-ends}
use Rattle.handing.proofs.measure.measure.Statement.{statement}
use Rattle.handing.proofs.measure.measure.Tie as tie

abbrev invariant-loop : tie.invariant-loop-at
invariant-loop names program at₀ clauses₀ bytes₀ at clauses bytes =
    (clauses ≤ at) × (at ≤ length program) × (bytes ≤ 16777216 * clauses) × ((w : ProgramWritten program) → Rest names program w.clauses at clauses bytes)

abbrev decreases-loop : tie.decreases-loop-at
decreases-loop names program at₀ clauses₀ bytes₀ at clauses bytes = length program - at

-- src/measure.rt:158:5
loop-holds : tie.Need-loop-at-init invariant-loop decreases-loop
loop-holds c = let a = c.args in (omega arith, omega arith, omega arith, λ w. rest-begins a.names.now w)

-- src/measure.rt:159:13
clause-end-requires : tie.Need-clause_end-end-requires invariant-loop decreases-loop
clause-end-requires c κs =
    let l = c.loop-at in
    let r = l.invariant.3 c.requires in
    record { clauses = r.left; left = r.here; inside = omega arith }

-- src/measure.rt:160:36
mul-line-bytes : tie.Need-offset_bounds-program-at invariant-loop decreases-loop
mul-line-bytes c = search rules

-- src/measure.rt:160:36
sub-line-bytes : tie.Need-slice_bounds-line_bytes-count invariant-loop decreases-loop
sub-line-bytes c = search rules

-- src/measure.rt:160:36
part-line-bytes-start : tie.Need-slice_bounds-line_bytes-start invariant-loop decreases-loop
part-line-bytes-start c = search rules

-- src/measure.rt:160:36
part-line-bytes-end : tie.Need-slice_bounds-line_bytes-end invariant-loop decreases-loop
part-line-bytes-end c = search rules

-- src/measure.rt:160:18
line-bytes-requires : tie.Need-line_bytes-bytes-requires invariant-loop decreases-loop
line-bytes-requires c κs =
    let l = c.loop-at in
    let e = c.clause_end-end in
    let r = l.invariant.3 c.requires in
    let z = here c.args.program.now l.at e.result r.left r.here (omega arith) e.ensures.0 in
    (z.one, omega (arith, one-long _ z.one))

-- src/measure.rt:160:9
add-bytes : tie.Need-overflow_add-bytes invariant-loop decreases-loop
add-bytes c =
    let l = c.loop-at in
    record { fits = omega (arith, l.invariant.0, l.invariant.1, l.invariant.2, c.line_bytes-bytes.ensures.1, c.requires.short) }

-- src/measure.rt:161:9
add-clauses : tie.Need-overflow_add-clauses invariant-loop decreases-loop
add-clauses c = search rules

-- src/measure.rt:158:5
loop-less : tie.Need-loop-at-smaller invariant-loop decreases-loop
loop-less c = search rules

-- src/measure.rt:158:5
loop-again : tie.Need-loop-at-preserved invariant-loop decreases-loop
loop-again c =
    let l = c.loop-at in
    let e = c.clause_end-end in
    let b = c.line_bytes-bytes in (
      omega arith,
      e.ensures.2,
      omega (arith, l.invariant.2, b.ensures.1),
      λ w. rest-on l.at e.result l.clauses l.bytes b.result (omega arith) e.ensures.0 b.ensures.0 (l.invariant.3 w),
    )

-- src/measure.rt:151:1
returns : tie.Need-returns invariant-loop decreases-loop
returns c =
    let l = c.loop-at in
    λ w. (let q = rest-ends l.at l.clauses l.bytes (omega arith) (l.invariant.3 w) in record { clauses = q.0; bytes = q.1 })

pub measure_spec : {M : Type 1} → statement M
measure_spec =
    tie.close
    (tie.spec
    invariant-loop
    decreases-loop
    loop-holds
    clause-end-requires
    mul-line-bytes
    sub-line-bytes
    part-line-bytes-start
    part-line-bytes-end
    line-bytes-requires
    add-bytes
    add-clauses
    loop-less
    loop-again
    returns)
