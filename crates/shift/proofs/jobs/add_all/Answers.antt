use Rattle.std.proofs.Common.{◌≡◌, ◌+◌, ◌*◌, sym, subst, arith}
use Rattle.shift.proofs.TotalLaws.{Rest, rest_all, rest-on, rest-none}
use Rattle.shift.proofs.jobs.add_all.Goals as goal

pub loop-k-init : goal.loop-k-init
loop-k-init c = (omega arith, λ table plan before h. rest_all)

pub loop-k-preserved : goal.loop-k-preserved
loop-k-preserved c =
    let l = c.loop-k in
    let next : 2 * (l.k + 1) ≡ 2 * l.k + 2 = omega arith in (
      omega (arith, c.plus-tried.ensures),
      λ table plan before h. (let o = l.invariant.1 table plan before h in
          rw next (subst (Rest table plan _ _ (2 * l.k + 2)) (sym c.plus-tried.ensures)
          (rest-on (omega arith) (omega arith) (c.ask_one-one.ensures table plan before h) o))),
    )

pub returns : goal.returns
returns c = λ table plan before h. rest-none (omega arith) (omega arith) (c.loop-k.invariant.1 table plan before h)
