-- A refusal whose place is cut to 48 bits.
use Prim.Native.Nat.{ℕ, ◌%◌, ◌^◌}
use mathlib.Core.Path.{◌≡◌, refl, sym, ap}
use native.Mathlib.Omega.{arith}
use Rattle.refusal.specs.Refusal.{Refused, Answer, answered, turned}
use Rattle.refusal.specs.Coded.{Small}
use Rattle.refusal.specs.Read.{Read, refuse}
use Rattle.refusal.proofs.CodedLaws.{refused-small, small_by}
use Rattle.table.proofs.ReadLaws.{apart, refuse-one}
use Rattle.dudowiej.specs.Coded.{cut}
use Rattle.dudowiej.proofs.Places.{Placed}
use Rattle.dudowiej.proofs.Places as places

-- one by its names fits its bits, and one that did is as it was
pub placed-cut : {A : Type 0} {n : ℕ} {P : A → Type 0} {f : Refused} {r : Read A} → Placed n P r → r ≡ refuse f → Small (cut (turned f))
placed-cut (places.good p) e = apart e
placed-cut (places.turned k i p l) e =
    small_by (ap (λ (f : Refused). cut (turned f)) (sym (refuse-one e))) (refused-small k i (p % 2 ^ 48) (omega arith))

pub cut_small : (a : Answer) → Small a → cut a ≡ a
cut_small (answered first second) s = refl
cut_small (turned f) s = let e : f.place % 2 ^ 48 ≡ f.place = omega arith in rw e
