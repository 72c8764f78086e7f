use Rattle.std.proofs.Common.{ℕ, sym}
use lib.ListN.{length-replicate}
use Rattle.askmain.proofs.lend.Goals as goal

pub slice_bounds-open-end : goal.slice_bounds-open-end
slice_bounds-open-end c = sym (length-replicate {0} {A = ℕ} 65536 0)

pub slice_bounds-open-end-2 : goal.slice_bounds-open-end-2
slice_bounds-open-end-2 c = sym (length-replicate {0} {A = ℕ} 10244 0)

pub slice_bounds-open-end-3 : goal.slice_bounds-open-end-3
slice_bounds-open-end-3 c = sym (length-replicate {0} {A = ℕ} 164864 0)
