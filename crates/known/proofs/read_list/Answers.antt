use Rattle.std.proofs.Common.{◌≡◌, sym, ◌∙◌, arith}
use Rattle.octets.proofs.PutLaws.{Putting, put-part}
use Rattle.known.proofs.ListLaws.{columns-number, columns-column, columns-wrong, list-number, list-column, list-wrong, columns-none}
use Rattle.known.proofs.ListLaws.{columns-last, list-none, list-last, no-list, is-list}
use Rattle.known.proofs.read_list.Goals.{in-Number, in-Column}
use Rattle.known.proofs.read_list.Goals as goal

pub loop-byte-preserved : goal.loop-byte-preserved
loop-byte-preserved c =
    let l = c.loop-byte in
    let word = c.args.word.now in
    elim c.match-step_of.branch [
      | in-Number w ↦
          (let step = sym c.step_of.ensures ∙ w.in-Number.is in
          rw (w.columns-is, w.n-is, w.number-is) (
            rw (columns-number word l.byte-index l.number _ (omega arith) step) at l.invariant.0,
            sym (list-number word l.byte-index l.number _ (omega arith) step) ∙ l.invariant.1,
          ))
      | in-Column w ↦
          (let step = sym c.step_of.ensures ∙ w.in-Column.is in
          rw (w.columns-is, w.n-is, w.number-is) (
            put-part (rw (columns-column word l.byte-index l.number _ (omega arith) step) at l.invariant.0) w.put_cell-n.ensures,
            sym (list-column word l.byte-index l.number _ (omega arith) step) ∙ l.invariant.1,
          ))
    ]

pub returns-in-Wrong : goal.returns-in-Wrong
returns-in-Wrong c =
    let l = c.loop-byte in
    let word = c.args.word.now in
    let step = sym c.step_of.ensures ∙ c.in-Wrong.is in
    no-list (rw (columns-wrong word l.byte-index l.number (omega arith) step) at l.invariant.0)
    (sym l.invariant.1 ∙ list-wrong word l.byte-index l.number (omega arith) step)

pub returns-then-number-eq0 : goal.returns-then-number-eq0
returns-then-number-eq0 c =
    let l = c.loop-byte in
    let word = c.args.word.now in
    no-list (rw (columns-none word l.byte-index l.number (omega arith) c.if-number-eq0.true) at l.invariant.0)
    (sym l.invariant.1 ∙ list-none word l.byte-index l.number (omega arith) c.if-number-eq0.true)

pub returns : goal.returns
returns c =
    let l = c.loop-byte in
    let word = c.args.word.now in
    let left = rw (columns-last word l.byte-index l.number (omega arith) c.if-number-eq0.false) at l.invariant.0 in
    is-list (put-part left c.put_cell.ensures)
    (sym l.invariant.1 ∙ list-last word l.byte-index l.number (omega arith) c.if-number-eq0.false)
