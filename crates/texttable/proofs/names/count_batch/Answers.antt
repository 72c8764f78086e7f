use lib.ListN.{length}
use mathlib.Core.Path.{◌≡◌}
use Rattle.texttable.proofs.NameLaws.{filling-tree, batched}
use Rattle.texttable.proofs.TreeLaws.{empty-tree}
use native.Mathlib.Omega.{arith}
use borrow.Author.Rules.{rules}
use Rattle.texttable.proofs.names.count_batch.Goals as goal

pub fill-filled-requires : goal.fill-filled-requires
fill-filled-requires c = (omega arith, omega arith, empty-tree c.args.text.now 3500 7001 (omega arith))

pub strike-requires : goal.strike-requires
strike-requires c =
    let f = c.fill-filled in
    let e : length f.new.list ≡ 3500 = search rules in
    (omega (arith, f.ensures.few, e), filling-tree f.ensures.filling)

pub returns : goal.returns
returns c =
    let a = c.args in
    let f = c.fill-filled in
    let s = c.strike in
    batched a.text.now a.from f.new.list f.new.links f.result s.new.marks c.unmarked-names.result
    f.ensures s.ensures
    c.unmarked-names.ensures.0 c.unmarked-names.ensures.1 (search rules) (search rules)
