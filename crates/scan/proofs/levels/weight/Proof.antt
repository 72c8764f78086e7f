use native.Mathlib.Omega.{arith}
use Rattle.scan.proofs.LevelLaws.{weight-0, weight-1, weight-2, weight-3}
use Rattle.scan.proofs.levels.weight.Statement.{statement}
use Rattle.scan.proofs.levels.weight.Tie as tie

returns : tie.Need-returns-in-0
returns c = (weight-0 _ c.in-0.is, omega arith, omega arith)

returns-2 : tie.Need-returns-in-1
returns-2 c = (weight-1 _ c.in-1.is, omega arith, omega arith)

returns-3 : tie.Need-returns-in-2
returns-3 c = (weight-2 _ c.in-2.is, omega arith, omega arith)

returns-4 : tie.Need-returns-in_default
returns-4 c = (weight-3 _ c.in_default.in_default-own.rest.0.0.1 c.in_default.in_default-own.rest.0.1 c.in_default.in_default-own.rest.1, omega arith, omega arith)

pub weight_spec : {M : Type 1} → statement M
weight_spec = tie.close (tie.spec returns returns-2 returns-3 returns-4)
