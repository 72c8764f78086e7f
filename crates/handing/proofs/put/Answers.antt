use native.Mathlib.Omega.{arith}
use mathlib.Core.Path.{◌∙◌, sym}
use Rattle.handing.proofs.EntryLaws.{is-put}
use Rattle.handing.proofs.put.Goals as goal

pub returns : goal.returns
returns c =
    let m = c.measure-size.ensures in
    λ w e. is-put (m w).clauses ((m w).bytes ∙ sym e) (omega arith) (c.put_program.ensures w)
