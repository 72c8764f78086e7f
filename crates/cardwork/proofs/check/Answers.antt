use Rattle.std.proofs.Common.{ℕ, sym}
use lib.ListN.{length-replicate}
use Rattle.cardwork.proofs.check.Goals as goal

pub slice_bounds-check_file-end : goal.slice_bounds-check_file-end
slice_bounds-check_file-end c = sym (length-replicate {0} {A = ℕ} 1048577 0)

pub slice_bounds-check_file-end-2 : goal.slice_bounds-check_file-end-2
slice_bounds-check_file-end-2 c = sym (length-replicate {0} {A = ℕ} 8192 0)
