use native.Mathlib.Omega.{arith}
use Rattle.goaltext.specs.code.Steps.{listed, fresh}
use Rattle.goaltext.proofs.names.number_one.Goals as goal

pub returns-then-at-known : goal.returns-then-at-known
returns-then-at-known c = listed (omega arith)

pub returns : goal.returns
returns c = fresh (omega arith)
