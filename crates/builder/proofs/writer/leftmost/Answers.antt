use Rattle.std.proofs.Common.{ℕ, List, ◌≡◌, max, false, sym, ◌∙◌, arith}
use Rattle.state.specs.Flags.{flags_in}
use Rattle.state.specs.States.{rows_in}
use Rattle.builder.proofs.AheadLaws.{agreed-ahead}
use Rattle.builder.proofs.ChooseLaws.{takes-it, not_free, not-agreed, looking-next, looking-here, looking-end}
use Rattle.builder.proofs.writer.leftmost.Goals as goal
use Rattle.builder.proofs.writer.leftmost.Goals.{else-may-via-then-may+else-agreed_at, else-may-via-else-may}

pub returns-then-agreed_at : goal.returns-then-agreed_at
returns-then-agreed_at c =
    λ ms a. let l = c.loop-i in
    let r = c.args.rows in
    let rows = rows_in c.args.table.now c.args.starts.now ms r.first r.end in
    looking-here (flags_in r.opens r.named) rows r.opens c.args.from l.i (omega arith)
    (takes-it r.opens r.named l.i rows (omega arith) c.requires.2 c.requires.3
    (sym c.may.ensures ∙ c.if-may.true)
    (agreed-ahead _ _ ms _ _ a l.i l.auto.i _ c.agreed_at.ensures ∙ c.if-agreed_at.true))
    (l.invariant.1 ms a)

-- the place of a turn is not to be taken: it may not be chosen, or not all rows agree there
pub loop-i-preserved : goal.loop-i-preserved
loop-i-preserved c =
    let l = c.loop-i in
    let r = c.args.rows in (
      omega arith,
      λ ms a.
          let rows = rows_in c.args.table.now c.args.starts.now ms r.first r.end in
          looking-next _ _ _ _ l.i (omega arith)
          (elim c.else-may.branch [
            | else-may-via-then-may+else-agreed_at x ↦ not-agreed (flags_in r.opens r.named) rows l.i (agreed-ahead _ _ ms _ _ a l.i l.auto.i _ x.agreed_at.ensures ∙ x.if-agreed_at.false)
            | else-may-via-else-may x ↦ not_free r.opens r.named l.i rows (omega arith) c.requires.2 c.requires.3 (sym c.may.ensures ∙ x.if-may.false)
          ])
          (l.invariant.1 ms a),
    )

-- the number of open places, or where the search began past them
pub returns : goal.returns
returns c =
    λ ms a. let l = c.loop-i in
    let e : c.max.result ≡ l.i = omega arith in
    e ∙ looking-end _ _ _ _ l.i (omega arith) (l.invariant.1 ms a)
