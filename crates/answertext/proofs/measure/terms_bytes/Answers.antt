use Prim.Native.Nat.{◌+◌}
use mathlib.Core.Path.{◌≡◌, sym, ap}
use mathlib.Core.List.{[], ◌∷◌}
use native.Mathlib.Omega.{arith}
use borrow.Author.Rules.{rules}
use lib.ListN.{length, drop}
use Rattle.termtext.specs.Saying.{words_of, terms_text}
use Rattle.answertext.specs.code.Levels.{levels}
use Rattle.answertext.proofs.LevelLaws.{terms-over, terms-are}
use Rattle.answertext.proofs.BytesLaws.{mark-counted, bytes_next, bytes-done}
use Rattle.answertext.proofs.measure.terms_bytes.Goals as goal

pub returns-then-cells-gt-REPLY_CELLS : goal.returns-then-cells-gt-REPLY_CELLS
returns-then-cells-gt-REPLY_CELLS c =
    let a = c.args in
    let words = words_of a.text.now a.names.now a.goal.now a.new.now in
    (sym (ap length (terms-over words a.width a.cells.now (omega arith))), omega arith)

pub loop-c-init : goal.loop-c-init
loop-c-init c = (omega arith, omega arith, search rules, search rules, omega arith, omega arith)

pub overflow_add-sum : goal.overflow_add-sum
overflow_add-sum c =
    let l = c.loop-c in
    let t = mark-counted c.arity_of.result l.owed l.depth c.put_mark-next.ensures.puts (omega arith) in
    record { fits = omega (arith, t.1, c.symbol_bytes-word.ensures.1) }

pub overflow_add-sum-in-loop-c : goal.overflow_add-sum-in-loop-c
overflow_add-sum-in-loop-c c =
    let l = c.loop-c in
    let t = mark-counted c.arity_of.result l.owed l.depth c.put_mark-next.ensures.puts (omega arith) in
    record { fits = omega (arith, t.1, c.symbol_bytes-word.ensures.1) }

pub loop-c-preserved : goal.loop-c-preserved
loop-c-preserved c =
    let l = c.loop-c in
    let a = c.args in
    let words = words_of a.text.now a.names.now a.goal.now a.new.now in
    let k = c.put_mark-next.ensures in
    let arity = c.arity_of.ensures in
    let t = mark-counted c.arity_of.result l.owed l.depth k.puts (omega arith) in
    let next = bytes_next words (levels l.owed l.depth) a.cells.now l.c-index (omega arith) in
    let said = c.symbol_bytes-word.ensures in
    let here = rw arity at t.0 in (
      omega arith,
      omega (arith, k.few),
      search rules,
      search rules,
      omega (arith, t.1, said.1),
      rw (k.still, arity) (omega (arith, next, here, said.0, l.invariant.5)),
    )

pub returns : goal.returns
returns c =
    let l = c.loop-c in
    let a = c.args in
    let words = words_of a.text.now a.names.now a.goal.now a.new.now in
    let e : l.sum + length (terms_text words (levels l.owed l.depth) (drop l.c-index a.cells.now))
    ≡ length (terms_text words (a.width ∷ []) a.cells.now) = l.invariant.5 in
    let d = bytes-done words (levels l.owed l.depth) a.cells.now l.c-index (omega arith) in
    (rw (terms-are words a.width a.cells.now (omega arith)) (omega (arith, d, e)), omega arith)
