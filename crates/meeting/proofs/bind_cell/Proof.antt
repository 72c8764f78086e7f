-- `bind_cell` meets its contract.
use native.Mathlib.Nat.{pos_of_ne-zero}
use native.Mathlib.Omega.{arith}
use Rattle.meeting.specs.code.Turns.{bound-over}
use Rattle.meeting.proofs.TurnLaws.{bound-still}
use Rattle.meeting.proofs.SwapLaws.{swapped-there}
use borrow.Author.Rules.{rules}
use Rattle.meeting.proofs.bind_cell.Statement.{statement}
use Rattle.meeting.proofs.bind_cell.Tie as tie

returns : tie.Need-returns-then-k-eq0
returns c = bound-over (λ y row goal h w. absurd (let z : ⊥ = omega (arith, h, c.if-k-eq0.true) in z))

swap-requires : tie.Need-swap-requires
swap-requires c κs = c.requires.held

sub-t10 : tie.Need-overflow_sub-result
sub-t10 c = pos_of_ne-zero c.if-k-eq0.false

same_length : tie.Need-shape_of-cells
same_length c = search rules

returns-2 : tie.Need-returns
returns-2 c =
    let at-swap = c.before.before.before in
    let at-else1 = at-swap.before.before in
    let at-start = at-else1.before.before.before in
    let p = at-start.requires in
    bound-still p (pos_of_ne-zero at-else1.if-k-eq0.false) (λ row goal w. swapped-there at-start.args.k p at-swap.swap.ensures w)

pub bind_cell_spec : {M : Type 1} → statement M
bind_cell_spec = tie.close (tie.spec returns swap-requires sub-t10 same_length returns-2)
