-- What a cell weighs, as it is told by its kind.
use mathlib.Core.Path.{◌≡◌}
use mathlib.Core.Logic.{◌≢◌}
use Prim.Native.Nat.{ℕ, ◌+◌}
use native.Mathlib.Omega.{arith}
use borrow.Author.Tests.{eq-eqb, ne_eqb}
use Rattle.cell.specs.Cell.{kind_of, arity, is_var}
use Rattle.least.specs.Measures.{work_of}

-- what a cell weighs by W-204's measure
pub work-variable : (c : ℕ) → kind_of c ≡ 0 → work_of c ≡ 0
unfolding work_of is_var
work-variable c e = rw (eq-eqb (kind_of c) 0 e)

pub work-other : (c : ℕ) → kind_of c ≢ 0 → work_of c ≡ arity c + 1
unfolding work_of is_var
work-other c e = rw (ne_eqb (kind_of c) 0 e) (omega arith)
