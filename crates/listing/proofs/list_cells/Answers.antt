use Rattle.std.proofs.Common.{ℕ, sym, arith}
use lib.ListN.{length-replicate}
use lib.Seq.{length-take-le}
use Rattle.refusal.specs.Refusal.{told}
use Rattle.printing.proofs.ListedLaws.{listed-text}
use Rattle.listing.specs.Listing.{listing_of, refused, listed}
use Rattle.listing.proofs.EntryLaws.{plan-built, plan-refused, planned-few}
use Rattle.listing.proofs.list_cells.Goals as goal
use Rattle.limits.specs.Limits.{most_plan_cells}

pub slice_bounds-room-end : goal.slice_bounds-room-end
slice_bounds-room-end c = (plan-built c.build_plan.ensures (length-replicate {A = ℕ} most_plan_cells 0) _ _ c.in-Ok.is).0

pub slice_bounds-list_plan-end : goal.slice_bounds-list_plan-end
slice_bounds-list_plan-end c =
    sym (length-take-le _ _ (plan-built c.build_plan.ensures (length-replicate {A = ℕ} most_plan_cells 0) _ _ c.in-Ok.is).0)

pub list_plan-requires : goal.list_plan-requires
list_plan-requires c = (plan-built c.build_plan.ensures (length-replicate {A = ℕ} most_plan_cells 0) _ _ c.in-Ok.is).1

pub returns-in-Ok : goal.returns-in-Ok
returns-in-Ok c =
    let w = (plan-built c.build_plan.ensures (length-replicate {A = ℕ} most_plan_cells 0) _ _ c.in-Ok.is).1 in
    record {
      text = listing_of w.table w.tree;
      right = listed w.table w.tree w.reads w.built;
      few = planned-few w;
      puts = c.list_plan.ensures w;
    }

pub returns-in-Err : goal.returns-in-Err
returns-in-Err c =
    let f = c.in-Err.f in
    let turned = plan-refused c.build_plan.ensures (length-replicate {A = ℕ} most_plan_cells 0) f c.in-Err.is in
    let line = c.put_refusal.ensures in
    listed-text line.0 (omega arith) (refused (told f) turned)
