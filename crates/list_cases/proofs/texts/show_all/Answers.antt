use Rattle.std.proofs.Common.{sym, rules}
use lib.Seq.{length-take-le}
use Rattle.list_cases.proofs.texts.show_all.Goals as goal

pub slice_bounds-show-end-3 : goal.slice_bounds-show-end-3
slice_bounds-show-end-3 c = sym (length-take-le 512 c.facts-all.result (search rules))
