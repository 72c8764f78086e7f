use Prim.Native.Nat.{ℕ, ◌+◌, ◌*◌, ◌-◌, ◌/◌, ◌%◌}
use mathlib.Core.Path.{sym, ap, ◌∙◌}
use mathlib.Core.List.{List}
use native.Mathlib.Omega.{arith}
use lib.ListN.{length, take, drop}
use Rattle.texttable.specs.code.Tree.{mix_from}
use Rattle.texttable.proofs.TreeLaws.{mix-more, mix-end, mix-part}
use Rattle.texttable.proofs.tree.mixed.Goals as goal

abbrev from_place : List ℕ → ℕ → List ℕ
from_place w start = take (length w - start) (drop start w)

pub loop-byte-init : goal.loop-byte-init
loop-byte-init c =
    (omega arith, mix-part c.args.word.now c.args.turn c.mix_start-start.result c.mix_start-start.ensures.0)

pub loop-byte-preserved : goal.loop-byte-preserved
loop-byte-preserved c =
    let l = c.loop-byte in
    let xs = from_place c.args.word.now c.mix_start-start.result in (
      omega arith,
      ap (λ (b : ℕ). mix_from ((31 * l.mix + l.mix / 256 + b) % 65536) (drop (l.byte-index + 1) xs)) c.from.ensures
          ∙ mix-more xs l.byte-index l.mix (omega arith) ∙ l.invariant.1,
    )

pub returns : goal.returns
returns c =
    let l = c.loop-byte in
    let xs = from_place c.args.word.now c.mix_start-start.result in
    sym (mix-end xs l.byte-index l.mix (omega arith)) ∙ l.invariant.1
