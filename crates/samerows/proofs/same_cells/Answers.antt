use Rattle.std.proofs.Common.{◌≡◌, ℕ, ◌-◌, List, length, get_or, drop, sym, ◌∙◌, ap, arith}
use lib.Seq.{drop-length}
use Rattle.cell.proofs.SameLaws.{same-no, same-is}
use Rattle.samerows.proofs.StartLaws.{same_back}
use Rattle.samerows.proofs.same_cells.Goals as goal

pub returns-then-a-b : goal.returns-then-a-b
returns-then-a-b c = sym (same-no _ _ (λ e. c.if-a-b.true (ap length e)))

pub loop-n-init : goal.loop-n-init
loop-n-init c =
    let a = c.args.a.now in
    let b = c.args.b.now in
    let e : length a ≡ length b = c.if-a-b.false in
    (e, drop-length a ∙ sym (rw e (drop-length b)))

pub returns-then-a-n : goal.returns-then-a-n
returns-then-a-n c = sym (same-no _ _ (λ e. c.if-a-n.true (ap (λ (xs : List ℕ). get_or xs (c.loop-n.n - 1) 0) e)))

pub loop-n-preserved : goal.loop-n-preserved
loop-n-preserved c =
    let l = c.loop-n in
    (l.invariant.0, same_back c.args.a.now c.args.b.now l.n (omega arith) (omega arith) l.invariant.0 c.if-a-n.false l.invariant.1)

pub returns : goal.returns
returns c =
    let l = c.loop-n in
    let z : l.n ≡ 0 = omega arith in
    sym ((same-is c.args.a.now c.args.b.now).1 (rw z at l.invariant.1))
