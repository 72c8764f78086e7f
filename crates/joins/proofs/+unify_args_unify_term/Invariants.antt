-- The falling number is `left`.
use Rattle.std.proofs.Common.{◌+◌, ◌-◌, ◌*◌, ◌≤◌}
use Rattle.classes.specs.code.Arrays.{classes, ReadyAll}
use Rattle.classes.proofs.ArrayLaws.{Going}
use Rattle.joins.proofs.+unify_args_unify_term.Given as goal

abbrev pub decreases-unify_args : goal.decreases-unify_args
decreases-unify_args l = 2 * l.left + 2

abbrev pub decreases-unify_term : goal.decreases-unify_term
decreases-unify_term l = 2 * l.left + 1

abbrev pub invariant-unify_args-loop : goal.invariant-unify_args-loop
invariant-unify_args-loop l =
    (l.n ≤ l.left)
    × (ReadyAll l.bound l.args l.sib l.initial.rep l.p l.q l.k → classes l.initial.rep ≤ l.left
    → Going l.bound l.args l.sib l.initial.rep l.rep l.p l.q l.k l.i l.j (l.k - l.counter) l.n)
