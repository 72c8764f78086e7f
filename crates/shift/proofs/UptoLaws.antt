-- A loop over a list, turn by turn: after as many turns as there are elements, each is made anew.
use mathlib.Core.Path.{◌≡◌, refl, ap}
use Prim.Native.Nat.{ℕ, suc, ◌<◌, ◌≤◌}
use native.Mathlib.Omega.{arith}
use mathlib.Core.List.{List, [], ◌∷◌}
use lib.ListN.{length, get_or, set}
use Rattle.answer.specs.Jobs.{Each, nil, cons}
use Rattle.shift.specs.code.Upto.{Upto, rest, made}

module _ {A : Type 0} {P : A → A → Type 0} where
  pub upto-long : {i : ℕ} {xs ys : List A} → Upto P i xs ys → length ys ≡ length xs
  upto-long rest = refl
  upto-long (made p u) = ap suc (upto-long u)

  pub upto-within : {i : ℕ} {xs ys : List A} → Upto P i xs ys → i ≤ length xs
  upto-within rest = omega arith
  upto-within (made p u) = let w = upto-within u in omega arith

  pub upto-more : {i : ℕ} {xs ys : List A} (d y : A) → Upto P i xs ys → i < length xs → P (get_or ys i d) y → Upto P (suc i) xs (set ys i y)
  upto-more {xs = []} d y rest l p = absurd (omega arith)
  upto-more {xs = x ∷ xs} d y rest l p = made p rest
  upto-more d y (made q u) l p = made q (upto-more d y u (omega arith) p)

  pub upto_all : {i : ℕ} {xs ys : List A} → Upto P i xs ys → i ≡ length xs → Each P xs ys
  upto_all {xs = []} rest e = nil
  upto_all {xs = x ∷ xs} rest e = absurd (omega arith)
  upto_all (made p u) e = cons p (upto_all u (omega arith))
