use Prim.Native.Nat.{ℕ}
use mathlib.Core.Path.{◌≡◌, ◌∙◌}
use native.Mathlib.Omega.{arith}
use lib.Dec.{eqb}
use lib.ListN.{take}
use borrow.Author.Rules.{rules}
use Rattle.std.specs.Prelude.{count_by}
use Rattle.texttable.specs.code.Names.{zeros}
use Rattle.texttable.proofs.NameLaws.{zeros-counted, zeros-few}
use Rattle.texttable.proofs.names.unmarked.Goals as goal

pub returns : goal.returns
returns c =
    let a = c.args in
    let r : c.count.result ≡ count_by (λ (m : ℕ). eqb m 0) (take a.count a.marks.now) = search rules in
    let e : c.count.result ≡ zeros a.count a.marks.now = r ∙ zeros-counted a.count a.marks.now in
    (e, omega (arith, e, zeros-few a.count a.marks.now))
