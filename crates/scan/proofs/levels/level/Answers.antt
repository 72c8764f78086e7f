use Prim.Native.Nat.{ℕ, ◌/◌, ◌%◌}
use mathlib.Core.Path.{ap₂}
use native.Mathlib.Omega.{arith}
use Rattle.scan.proofs.levels.level.Goals as goal

pub returns : goal.returns
returns c = (ap₂ (λ (b w : ℕ). b / w % 4) c.from-byte.ensures c.weight.ensures.0, omega arith)
