use mathlib.Core.Path.{sym, ap, ◌∙◌}
use Prim.Native.Nat.{ℕ, ◌+◌}
use native.Mathlib.Omega.{arith}
use Rattle.cell.proofs.CellLaws.{arity-small}
use Rattle.measuring.proofs.WorkLaws.{work-variable, work-other}
use borrow.Author.Rules.{rules}
use Rattle.measuring.proofs.work_of.Statement.{statement}
use Rattle.measuring.proofs.work_of.Tie as tie

kind-requires : tie.Need-kind-requires
kind-requires c κs = search rules

arity-of-requires : tie.Need-arity_of-requires
arity-of-requires c κs = search rules

add-result : tie.Need-overflow_add-result
add-result c = record { fits = omega (arith, c.arity_of.ensures, arity-small c.args.c) }

cast-result : tie.Need-overflow_cast-result
cast-result c = record { fits = omega (arith, c.arity_of.ensures, arity-small c.args.c) }

returns : tie.Need-returns-in-0
returns c = (sym (work-variable c.args.c (sym c.kind.ensures ∙ c.in-0.is)), omega arith)

returns-2 : tie.Need-returns-in_default
returns-2 c =
    let a = c.args.c in (
      ap (λ (n : ℕ). n + 1) c.arity_of.ensures
          ∙ sym (work-other a (λ e. c.in_default.in_default-own.rest.1 (omega (arith, c.kind.ensures)))),
      omega (arith, c.arity_of.ensures, arity-small a),
    )

pub work_of_spec : {M : Type 1} → statement M
work_of_spec = tie.close (tie.spec kind-requires arity-of-requires add-result cast-result returns returns-2)
