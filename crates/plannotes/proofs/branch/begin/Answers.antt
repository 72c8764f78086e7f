use Rattle.std.proofs.Common.{arith}
use Rattle.plannotes.proofs.BranchLaws.{spot_of, slot-low, begun}
use Rattle.plannotes.proofs.branch.begin.Goals as goal

pub close-slot-requires : goal.close-slot-requires
close-slot-requires c = spot_of c.requires c.arity_of-a.ensures

pub part-requires : goal.part-requires
part-requires c = slot-low c.requires c.arity_of-a.ensures c.close-slot.ensures

pub returns : goal.returns
returns c = λ w.
    begun w c.arity_of-a.ensures c.close-slot.ensures _ (omega (arith, c.type_inv.plan c.args.here.place)) c.part.ensures
