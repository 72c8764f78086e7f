-- What a test finds, case by case.
use Prim.Native.Nat.{ℕ, ◌≤◌, ◌<◌}
use mathlib.Core.Path.{◌≡◌}
use mathlib.Core.Logic.{◌≢◌}
use mathlib.Core.Bool.{true, false}
use mathlib.Core.List.{List}
use native.Mathlib.Omega.{arith}
use lib.ListN.{get_or}
use Rattle.cell.specs.Cell.{is_var}
use Rattle.run.specs.code.Finds.{Finds, any, other, same, unbound}
use Rattle.run.specs.declared.step.Found.{Found}
use Rattle.run.specs.declared.step.Found.TheVariants.{Any, Other, Same, Unbound}

module _ {bs ns us : List ℕ} {i c v : ℕ} where
  pub is_any : {r : Found} → Finds bs ns us i c v r → r ≡ Any → is_var c ≡ true
  is_any (any h) e = h
  is_any (other h l d) e = absurd (let z : ◌≡◌ {A = ℕ} 0 1 = cc in let y : ⊥ = omega arith in y)
  is_any (same h l d) e = absurd (let z : ◌≡◌ {A = ℕ} 0 1 = cc in let y : ⊥ = omega arith in y)
  is_any (unbound h l) e = absurd (let z : ◌≡◌ {A = ℕ} 0 1 = cc in let y : ⊥ = omega arith in y)

  pub is-other : {r : Found} → Finds bs ns us i c v r → r ≡ Other → (is_var c ≡ false) × (i < get_or us v 0) × (get_or bs v 0 ≢ c)
  is-other (any h) e = absurd (let z : ◌≡◌ {A = ℕ} 0 1 = cc in let y : ⊥ = omega arith in y)
  is-other (other h l d) e = (h, l, d)
  is-other (same h l d) e = absurd (let z : ◌≡◌ {A = ℕ} 0 1 = cc in let y : ⊥ = omega arith in y)
  is-other (unbound h l) e = absurd (let z : ◌≡◌ {A = ℕ} 0 1 = cc in let y : ⊥ = omega arith in y)

  pub is_same : {r : Found} {p : ℕ} → Finds bs ns us i c v r → r ≡ Same p → (is_var c ≡ false) × (i < get_or us v 0) × (get_or bs v 0 ≡ c) × (p ≡ get_or ns v 0)
  is_same (any h) e = absurd (let z : ◌≡◌ {A = ℕ} 0 1 = cc in let y : ⊥ = omega arith in y)
  is_same (other h l d) e = absurd (let z : ◌≡◌ {A = ℕ} 0 1 = cc in let y : ⊥ = omega arith in y)
  is_same (same h l d) e = (h, l, d, cc)
  is_same (unbound h l) e = absurd (let z : ◌≡◌ {A = ℕ} 0 1 = cc in let y : ⊥ = omega arith in y)

  pub is-unbound : {r : Found} → Finds bs ns us i c v r → r ≡ Unbound → (is_var c ≡ false) × (get_or us v 0 ≤ i)
  is-unbound (any h) e = absurd (let z : ◌≡◌ {A = ℕ} 0 1 = cc in let y : ⊥ = omega arith in y)
  is-unbound (other h l d) e = absurd (let z : ◌≡◌ {A = ℕ} 0 1 = cc in let y : ⊥ = omega arith in y)
  is-unbound (same h l d) e = absurd (let z : ◌≡◌ {A = ℕ} 0 1 = cc in let y : ⊥ = omega arith in y)
  is-unbound (unbound h l) e = (h, l)
