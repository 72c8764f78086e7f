use native.Mathlib.Omega.{arith}
use Rattle.unfolding.proofs.PastLaws.{enters-inside}
use Rattle.unfolding.proofs.RunLaws.{straight-leaf, straight-inner}
use Rattle.unfolding.proofs.fold.straight.Statement.{statement}
use Rattle.unfolding.proofs.fold.straight.Tie as tie

-- src/fold.rt:20:9
returns : tie.Need-returns-then-places-eq0
returns c = λ w. straight-leaf w c.if-places-eq0.true

-- src/fold.rt:22:10
add-result : tie.Need-overflow_add-result
add-result c = let w = c.requires in omega (arith, w.size, enters-inside w (omega arith))

-- src/fold.rt:22:5
mul-result : tie.Need-offset_bounds-plan-at
mul-result c = let w = c.requires in omega (arith, w.size, enters-inside w (omega arith))

-- src/fold.rt:22:5
shared-slice-read-result : tie.Need-bounds-plan-at
shared-slice-read-result c = enters-inside c.requires (omega arith)

-- src/fold.rt:15:1
returns-2 : tie.Need-returns
returns-2 c = λ w. straight-inner w (omega arith)

pub straight_spec : {M : Type 1} → statement M
straight_spec =
    tie.close (tie.spec returns add-result mul-result shared-slice-read-result returns-2)
