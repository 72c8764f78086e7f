-- What falls is how many nodes are new.
use Rattle.std.proofs.Common.{◌+◌, ◌-◌, ◌*◌}
use Rattle.classes.specs.code.Search.{news, Fewer, SearchingAll}
use Rattle.classes.proofs.SearchLaws.{Looking}
use Rattle.joins.proofs.+finite_finite_args.Given as goal

abbrev pub decreases-finite : goal.decreases-finite
decreases-finite l = 2 * news l.mark.now + 1

abbrev pub decreases-finite_args : goal.decreases-finite_args
decreases-finite_args l = 2 * news l.mark.now + 2

abbrev pub invariant-finite_args-loop : goal.invariant-finite_args-loop
invariant-finite_args-loop l =
    Fewer l.initial.mark l.mark
    × (SearchingAll l.bound l.args l.sib l.rep l.initial.mark l.p l.k → Looking l.bound l.args l.sib l.rep l.initial.mark l.mark l.p l.k l.q (l.k - l.counter))
