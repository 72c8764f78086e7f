use Rattle.walking.proofs.NodeLaws.{Naming}
use Rattle.run.proofs.nodes.name_cells.Given as goal

abbrev pub invariant-loop-p : goal.invariant-loop-p
invariant-loop-p l = Naming l.goal l.bound l.args l.until l.rep l.first l.p
