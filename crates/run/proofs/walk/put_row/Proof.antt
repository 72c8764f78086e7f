use native.Mathlib.Omega.{arith}
use borrow.Author.Rules.{rules}
use Rattle.run.proofs.walk.put_row.Statement.{statement}
use Rattle.run.proofs.walk.put_row.Tie as tie

slice-write-room : tie.Need-bounds-room-at
slice-write-room c = search rules

same_length : tie.Need-shape_of-room
same_length c = search rules

returns : tie.Need-returns-then-at-room
returns c = search rules

returns-2 : tie.Need-returns-else-at-room
returns-2 c = λ l. absurd (let z : ⊥ = omega arith in z)

pub put_row_spec : {M : Type 1} → statement M
put_row_spec = tie.close (tie.spec slice-write-room same_length returns returns-2)
