use mathlib.Core.Path.{refl, sym, ap, ◌∙◌}
use native.Mathlib.Omega.{arith}
use borrow.Author.Tests.{not-true, not-false}
use Rattle.filing.specs.Answers.{contents_told}
use Rattle.filing.proofs.StepLaws.{told-damage, told-sizes, told-padding, sized}
use Rattle.filereading.proofs.read_blocks.Goals as goal

pub returns-then-good-count : goal.returns-then-good-count
returns-then-good-count c =
    told-damage c.args.file.now c.requires.0 c.requires.1 c.sound_run-good.ensures.many (omega arith) (ap contents_told c.turn.ensures)

pub returns-then-n-count : goal.returns-then-n-count
returns-then-n-count c =
    let q = c.requires in
    told-sizes c.args.file.now q.0 q.1 q.2 c.sound_run-good.ensures (omega arith) refl refl
    (λ e. omega arith) (ap contents_told c.turn-then-n-count.ensures)

pub returns-then-not-padded : goal.returns-then-not-padded
returns-then-not-padded c =
    let q = c.requires in
    told-padding c.args.file.now q.0 q.1 q.2 c.sound_run-good.ensures (omega arith) refl refl
    (omega arith) (sym c.padded.ensures ∙ not-true _ c.if-not-padded.true-raw) (ap contents_told c.turn-then-not-padded.ensures)

pub returns : goal.returns
returns c =
    let q = c.requires in
    let z = sized c.args.file.now q.0 q.1 q.2 c.sound_run-good.ensures (omega arith) refl refl
    (omega arith) (sym c.padded.ensures ∙ not-false _ c.if-not-padded.false-raw) in
    c.give.ensures c.args.file.now z
