use mathlib.Core.Path.{◌≡◌, sym, ◌∙◌, ap}
use native.Mathlib.Numerals.{add-one}
use native.Mathlib.Omega.{arith}
use Rattle.cell.specs.Cell.{values, values_at}
use Rattle.refusal.specs.Read.{read, refuse}
use Rattle.table.proofs.LooksLaws.{high-variable, high-number, high-none, args_are}
use Rattle.table.proofs.LooksLaws.{not-cell, a-number, fresh, new, again}
use Rattle.table.proofs.terms.test_cell.Goals as goal

-- No answer names a branch by its test: what the cell is follows from the facts of the branch, whatever they are called.
pub returns-then-vars-n : goal.returns-then-vars-n
returns-then-vars-n c =
    let e : values_at c.args.c ≡ values 0 0 c.args.c = high-variable _ (omega arith) in
    (ap refuse c.refusal.ensures ∙ sym (fresh _ _ _ _ e (omega arith)), args_are _ e)

pub returns-then-n-vars : goal.returns-then-n-vars
returns-then-n-vars c =
    let e : values_at c.args.c ≡ values 0 0 c.args.c = high-variable _ (omega arith) in
    (ap read (add-one _) ∙ sym (new _ _ _ _ e (omega arith)), args_are _ e)

pub returns-else-n-vars : goal.returns-else-n-vars
returns-else-n-vars c =
    let e : values_at c.args.c ≡ values 0 0 c.args.c = high-variable _ (omega arith) in
    (sym (again _ _ _ _ e (omega arith)), args_are _ e)

pub returns-in-32768 : goal.returns-in-32768
returns-in-32768 c = let e = high-number c.args.c (omega arith) in (sym (a-number _ _ _ _ e), args_are _ e)

pub returns-in_default : goal.returns-in_default
returns-in_default c =
    let e = high-none c.args.c (λ z. omega arith) (λ l h. omega arith) (λ z. omega arith) in
    (ap refuse c.refusal-in_default.ensures ∙ sym (not-cell _ _ _ _ e), args_are _ e)
