use Rattle.texttable.proofs.TreeLaws.{trail-slot, found-listed, found-free, meet-new}
use Rattle.texttable.specs.code.Tree.{Missing, old}
use Rattle.lex.proofs.NameLaws.{part-is}
use lib.ListN.{take, drop}
use native.Mathlib.Omega.{arith}
use mathlib.Core.List.{List}
use mathlib.Core.Path.{refl, subst, ◌∙◌}
use Prim.Native.Nat.{ℕ, ◌-◌}
use Rattle.texttable.proofs.tree.meet.Goals as goal

abbrev part : List ℕ → ℕ → ℕ → List ℕ
part t from to = take (to - from) (drop from t)

pub offset_bounds-links-slot : goal.offset_bounds-links-slot
offset_bounds-links-slot c =
    let a = c.args in
    let T = c.requires.5 in
    let m = found-free a.text.now a.list.now a.links.now (part a.text.now a.start a.end) a.count
    c.find.ensures c.in-Free.is in
    omega (arith, trail-slot a.text.now a.list.now a.links.now a.count T m.trail, T.slots, T.room)

pub bounds-links-slot : goal.bounds-links-slot
bounds-links-slot c =
    let a = c.args in
    let T = c.requires.5 in
    let m = found-free a.text.now a.list.now a.links.now (part a.text.now a.start a.end) a.count
    c.find.ensures c.in-Free.is in
    omega (arith, trail-slot a.text.now a.list.now a.links.now a.count T m.trail, T.slots, T.room)

pub returns-in-Listed : goal.returns-in-Listed
returns-in-Listed c =
    let a = c.args in
    let w = part a.text.now a.start a.end in
    let f = found-listed a.text.now a.list.now a.links.now w a.count c.find.ensures c.in-Listed.is in
    old f.0 (f.1 ∙ part-is a.text.now a.start a.end (omega arith) (omega arith)) refl refl

pub returns-in-Free : goal.returns-in-Free
returns-in-Free c =
    let a = c.args in
    let T = c.requires.5 in
    let m = found-free a.text.now a.list.now a.links.now (part a.text.now a.start a.end) a.count
    c.find.ensures c.in-Free.is in
    let e = part-is a.text.now a.start a.end (omega arith) (omega arith) in
    meet-new a.text.now a.list.now a.links.now a.count a.start a.end c.in-Free.slot T
    (subst (λ (w : List ℕ). Missing a.text.now a.list.now a.links.now a.count w c.in-Free.slot) e m)
    (omega arith) (omega arith) (omega arith) (omega arith)
