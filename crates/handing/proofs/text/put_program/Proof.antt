use Rattle.octets.proofs.PutLaws.{put-length}
use Prim.Native.Nat.{◌-◌, ◌≤◌}
use native.Mathlib.Omega.{arith}
use borrow.Author.Rules.{rules}
use lib.ListN.{length}
use Rattle.handing.specs.code.Lines.{ProgramWritten}
use Rattle.handing.proofs.LineLaws.{one-long}
use Rattle.handing.proofs.WalkLaws.{here, Puts, puts-begins, puts-on, puts-end}
use Rattle.handing.proofs.text.put_program.Statement.{statement}
use Rattle.handing.proofs.text.put_program.Tie as tie

abbrev invariant-loop : tie.invariant-loop-at
invariant-loop out₀ text names program on₀ at₀ out on at =
    (at ≤ length program) × ((w : ProgramWritten program) → Puts text names program w.clauses at out₀ out on)

abbrev decreases-loop : tie.decreases-loop-at
decreases-loop out₀ text names program on₀ at₀ out on at = length program - at

-- src/text.rt:64:5
loop-holds : tie.Need-loop-at-init invariant-loop decreases-loop
loop-holds c = let a = c.args in (omega arith, λ w. puts-begins a.text.now a.names.now w)

-- src/text.rt:65:13
clause-end-requires : tie.Need-clause_end-end-requires invariant-loop decreases-loop
clause-end-requires c κs =
    let l = c.loop-at in
    let r = l.invariant.1 c.requires in
    record { clauses = r.left; left = r.here; inside = omega arith }

-- src/text.rt:66:45
mul-put-line : tie.Need-offset_bounds-program-at invariant-loop decreases-loop
mul-put-line c = search rules

-- src/text.rt:66:45
sub-put-line : tie.Need-slice_bounds-put_line-count invariant-loop decreases-loop
sub-put-line c = search rules

-- src/text.rt:66:45
part-put-line-start : tie.Need-slice_bounds-put_line-start invariant-loop decreases-loop
part-put-line-start c = search rules

-- src/text.rt:66:45
part-put-line-end : tie.Need-slice_bounds-put_line-end invariant-loop decreases-loop
part-put-line-end c = search rules

-- src/text.rt:66:9
put-line-requires : tie.Need-put_line-on-requires invariant-loop decreases-loop
put-line-requires c κs =
    let l = c.loop-at in
    let e = c.clause_end-end in
    let r = l.invariant.1 c.requires in
    let z = here c.args.program.now l.at e.result r.left r.here (omega arith) e.ensures.0 in
    (z.one, omega (arith, one-long _ z.one))

-- src/text.rt:64:5
loop-less : tie.Need-loop-at-smaller invariant-loop decreases-loop
loop-less c = search rules

-- src/text.rt:64:5
loop-again : tie.Need-loop-at-preserved invariant-loop decreases-loop
loop-again c =
    let l = c.loop-at in
    let e = c.clause_end-end in
    let q = c.put_line-on in
    (e.ensures.2, λ w. puts-on l.at e.result l.on q.result (omega arith) e.ensures.0 q.ensures (l.invariant.1 w))

-- src/text.rt:57:1
same_length : tie.Need-shape_of-out invariant-loop decreases-loop
same_length c =
    let l = c.loop-at in
    put-length (puts-end l.at l.on (omega arith) (l.invariant.1 c.requires))

-- src/text.rt:57:1
returns : tie.Need-returns invariant-loop decreases-loop
returns c = let l = c.loop-at in λ w. puts-end l.at l.on (omega arith) (l.invariant.1 w)

pub put_program_spec : {M : Type 1} → statement M
put_program_spec =
    tie.close
    (tie.spec
    invariant-loop
    decreases-loop
    loop-holds
    clause-end-requires
    mul-put-line
    sub-put-line
    part-put-line-start
    part-put-line-end
    put-line-requires
    loop-less
    loop-again
    same_length
    returns)
