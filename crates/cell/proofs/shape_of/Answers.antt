use mathlib.Core.Path.{sym}
use native.Mathlib.Omega.{arith}
use Rattle.cell.specs.Cell.{number_of}
use Rattle.cell.proofs.SignedLaws.{stored}
use Rattle.cell.proofs.CellLaws.{is-variable, no-variable, no_name, signed-number, no_number, no_kind}
use Rattle.cell.proofs.shape_of.Goals as goal

pub returns-in-0-m : goal.returns-in-0-m
returns-in-0-m c = rw c.number.ensures (sym (is-variable _ (omega arith) (omega arith)))

pub returns-in_default-m : goal.returns-in_default-m
returns-in_default-m c = sym (no-variable _ (omega arith) (λ e. omega arith))

pub returns-in_default-m-2 : goal.returns-in_default-m-2
returns-in_default-m-2 c = sym (no_name _ (omega arith) (omega arith))

pub returns-in-0-m-2 : goal.returns-in-0-m-2
returns-in-0-m-2 c =
    let n = number_of c.args.c in
    signed-number _ (omega arith) (omega arith) (stored n (omega arith) c.signed.ensures)

pub returns-in_default-m-3 : goal.returns-in_default-m-3
returns-in_default-m-3 c = sym (no_number _ (omega arith) (λ e. omega arith))

pub returns-in_default : goal.returns-in_default
returns-in_default c = sym (no_kind _ (λ e. omega arith) (λ e. omega arith) (λ e. omega arith))
