use mathlib.Core.Path.{refl}
use native.Mathlib.Omega.{arith}
use Rattle.salvage.proofs.RangeLaws.{in_range, outside, inside}
use Rattle.salvage.proofs.RowsLaws.{few-blocks, none-sound, bad-width, bad-count, fronted}
use borrow.Author.Rules.{rules}
use Rattle.salvage.proofs.rows_of.Goals as goal

pub returns-then-good-eq0 : goal.returns-then-good-eq0
returns-then-good-eq0 c = rw c.turn.ensures (none-sound c.requires c.sound_run-good.ensures c.if-good-eq0.true)

pub returns-then-not-contains : goal.returns-then-not-contains
returns-then-not-contains c =
    let w = in_range 1 8 _ c.new.ensures.start c.new.ensures.end c.new.ensures.exhausted c.contains.ensures.value in
    rw c.turn-then-not-contains.ensures
    (bad-width c.requires c.sound_run-good.ensures (λ e. omega (arith, e)) refl refl (outside w c.if-not-contains.true))

pub returns-then-not-contains-2 : goal.returns-then-not-contains-2
returns-then-not-contains-2 c =
    let k = in_range 1 64 _ c.new-2.ensures.start c.new-2.ensures.end c.new-2.ensures.exhausted c.contains-2.ensures.value in
    rw c.turn-then-not-contains-2.ensures
    (bad-count c.requires c.sound_run-good.ensures (λ e. omega (arith, e)) refl refl (outside k c.if-not-contains-2.true))

pub rows_in-requires : goal.rows_in-requires
rows_in-requires c =
    (search rules, few-blocks c.args.file.now 0 c.sound_run-good.ensures.many (omega arith))

pub returns : goal.returns
returns c =
    let w = in_range 1 8 _ c.new.ensures.start c.new.ensures.end c.new.ensures.exhausted c.contains.ensures.value in
    let k = in_range 1 64 _ c.new-2.ensures.start c.new-2.ensures.end c.new-2.ensures.exhausted c.contains-2.ensures.value in
    c.rows_in.ensures c.args.file.now
    (fronted c.requires c.sound_run-good.ensures (λ e. omega (arith, e)) refl refl (inside w c.if-not-contains.false) refl refl
    (inside k c.if-not-contains-2.false))
