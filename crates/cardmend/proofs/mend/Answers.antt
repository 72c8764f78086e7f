use Rattle.std.proofs.Common.{ℕ, sym}
use lib.ListN.{length-replicate}
use Rattle.cardmend.proofs.mend.Goals as goal

pub slice_bounds-mend_file-end : goal.slice_bounds-mend_file-end
slice_bounds-mend_file-end c = sym (length-replicate {0} {A = ℕ} 1048577 0)
