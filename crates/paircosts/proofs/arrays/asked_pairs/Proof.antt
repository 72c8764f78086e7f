use Prim.Native.Nat.{ℕ}
use native.Mathlib.Omega.{arith}
use lib.ListN.{length-replicate}
use Rattle.plan.specs.Plans.{Measure}
use Rattle.least.specs.Measures.{measure_of}
use Rattle.least.specs.code.Low.{Low}
use Rattle.least.proofs.Weighed.{by-low}
use Rattle.paircosts.specs.code.Filling.{Rows, Task}
use Rattle.paircosts.proofs.RightLaws.{task, refilled}
use borrow.Author.Rules.{rules}
use Rattle.paircosts.proofs.arrays.asked_pairs.Statement.{statement}
use Rattle.paircosts.proofs.arrays.asked_pairs.Tie as tie
use Rattle.limits.specs.Limits.{most_table_cells}

-- there is such a task
module _ (c : tie.After-mark_cells) where
  abbrev start : tie.Start
  start = c.before.before.before.before

  abbrev measure : Measure
  measure = measure_of start.args.by

  low : Low measure
  low = by-low start.args.by (omega (arith, start.requires.2, start.requires.3))

  abbrev all : (g : Rows start.args.cells.now start.args.starts.now start.args.asked.count)
      → Task start.args.cells.now c.mark_cells.new.marks start.args.starts.now start.args.asked start.args.kept.now
  all g = task measure low start.args.asked start.requires.2 g.laid c.mark_cells.ensures start.args.kept.now start.requires.1

mark-cells-requires : tie.Need-mark_cells-requires
mark-cells-requires c κs = (c.requires.0.laid.size, length-replicate {A = ℕ} most_table_cells 0)

pairs-again-requires : tie.Need-pairs_again-requires
pairs-again-requires c κs = (let m = c.before.before in all m (start m).requires.0)

same_length : tie.Need-shape_of-kept
same_length c = search rules

returns : tie.Need-returns
returns c = λ g.
    (let m = c.before.before.before.before.before in
    let s = start m in
    refilled (measure m) (low m) s.args.asked s.requires.2 g.laid m.mark_cells.ensures s.args.kept.now s.requires.1
    (c.pairs_again.ensures (all m g)))

pub asked_pairs_spec : {M : Type 1} → statement M
asked_pairs_spec =
    tie.close (tie.spec mark-cells-requires pairs-again-requires same_length returns)
