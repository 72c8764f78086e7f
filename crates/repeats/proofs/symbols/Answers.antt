use Rattle.std.proofs.Common.{refl, arith}
use Rattle.repeats.proofs.RepeatLaws.{symbols-next, symbols-all}
use Rattle.repeats.proofs.symbols.Goals as goal

pub loop-r-init : goal.loop-r-init
loop-r-init c = λ b u. record {
  size = refl;
  size-bound = b;
  size-until = u;
  few = omega arith;
  done = λ q h. absurd (let z : ⊥ = omega arith in z);
}

pub loop-r-preserved : goal.loop-r-preserved
loop-r-preserved c = λ b u. symbols-next c.symbol.result (c.loop-r.invariant b u) (omega arith) c.symbol.ensures

pub returns : goal.returns
returns c = λ b u. symbols-all (c.loop-r.invariant b u) (omega arith)
