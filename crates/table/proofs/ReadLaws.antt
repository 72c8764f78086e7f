-- Laws of readings: how a refusal and a reading that goes on combine, and what a reading that succeeds says of its tests.
use mathlib.Core.Path.{◌≡◌, refl, sym, ap}
use mathlib.Core.Logic.{◌≢◌, ◌⊎◌, inl, inr}
use mathlib.Core.Bool.{Bool, true, false, ◌&&◌, ◌||◌}
use Prim.Native.Nat.{ℕ, ◌≤◌, ◌<◌}
use native.Mathlib.Omega.{arith}
use lib.Dec.{eqb, ltb}
use borrow.Author.Tests.{ltb-false, le-ltb, lt-ltb}
use Rattle.cell.specs.Cell.{Values}
use Rattle.refusal.specs.Refusal.{Refused}
use Rattle.refusal.specs.declared.Reason.TheVariants as reason
use Rattle.refusal.specs.Read.{Read, read, refuse, when, and_then}
use Rattle.table.specs.Table.{bad_term, cell_tests}

module _ {A B : Type 0} where
  pub then-both : (r : Read A) {f g : A → Read B} → ((x : A) → f x ≡ g x) → and_then r f ≡ and_then r g
  then-both (read x) h = h x
  then-both (refuse r) h = refl

  pub then-assoc : {C : Type 0} (r : Read A) (f : A → Read B) (g : B → Read C) → and_then r (λ x. and_then (f x) g) ≡ and_then (and_then r f) g
  then-assoc (read x) f g = refl
  then-assoc (refuse r) f g = refl

  -- two tests, and then a reading
  two_then : (a b : Bool) (r s : Refused) (x : A) (f : A → Read B) → when a r (when b s (f x)) ≡ and_then (when a r (when b s (read x))) f
  two_then true b r s x f = refl
  two_then false true r s x f = refl
  two_then false false r s x f = refl

  pub tests_then : (row : Bool) (v : Values) (vars p : ℕ) (x : A) (f : A → Read B) → cell_tests row v vars p (f x) ≡ and_then (cell_tests row v vars p (read x)) f
  tests_then row v vars p x f =
      two_then (eqb v.kind 3) (eqb v.kind 0 && ltb vars v.number) (bad_term row reason.Cell p) (bad_term row reason.Fresh p) x f

-- a refusal is not a value, and a test has one answer
pub apart : {A B : Type 0} {x : A} {f : Refused} → read x ≡ refuse f → B
apart e = absurd (let z : ◌≡◌ {A = ℕ} 0 1 = cc in omega arith)

pub not-both : {A : Type 0} {b : Bool} → b ≡ true → b ≡ false → A
not-both h k = absurd (let z : ◌≡◌ {A = ℕ} 0 1 = cc in omega arith)

pub read_one : {A : Type 0} {x y : A} → read x ≡ read y → x ≡ y
read_one e = cc

pub refuse-one : {A : Type 0} {f g : Refused} → ◌≡◌ {A = Read A} (refuse f) (refuse g) → f ≡ g
refuse-one e = cc

-- what is read has passed its test
pub passed : {A : Type 0} (b : Bool) (f : Refused) (r : Read A) {x : A} → when b f r ≡ read x → (b ≡ false) × (r ≡ read x)
passed true f r e = apart (sym e)
passed false f r e = (refl, e)

-- and what is refused for another reason has, too
pub passed-other : {A : Type 0} (b : Bool) (f : Refused) (r : Read A) {g : Refused} → f.number ≢ g.number → when b f r ≡ refuse g
    → (b ≡ false) × (r ≡ refuse g)
passed-other true f r n e = absurd (n (ap (λ (h : Refused). h.number) (refuse-one e)))
passed-other false f r n e = (refl, e)

pub passed-tests : {A : Type 0} (row : Bool) (v : Values) (vars p : ℕ) (r : Read A) {x : A} → cell_tests row v vars p r ≡ read x → r ≡ read x
passed-tests row v vars p r e =
    let a = passed (eqb v.kind 3) _ _ e in
    (passed (eqb v.kind 0 && ltb vars v.number) _ _ a.1).1

-- and what is read after another reading has that one first
pub first : {A B : Type 0} (r : Read A) (f : A → Read B) {y : B} → and_then r f ≡ read y → (x : A) × (r ≡ read x) × (f x ≡ read y)
first (read x) f e = (x, refl, e)
first (refuse s) f e = apart (sym e)

-- a number that is not outside its bounds
pub inside : (n low high : ℕ) → (ltb n low || ltb high n) ≡ false → (low ≤ n) × (n ≤ high)
inside n low high e = let p = both (ltb n low) (ltb high n) e in (ltb-false n low p.0, ltb-false high n p.1)
  where
    both : (a b : Bool) → (a || b) ≡ false → (a ≡ false) × (b ≡ false)
    both true b h = not-both refl h
    both false b h = (refl, h)

pub outside : (n low high : ℕ) → (n < low) ⊎ ((low ≤ n) × (high < n)) → (ltb n low || ltb high n) ≡ true
outside n low high (inl l) = rw (lt-ltb n low l)
outside n low high (inr h) = rw (lt-ltb high n h.1) (or-true (ltb n low))
  where
    or-true : (b : Bool) → (b || true) ≡ true
    or-true true = refl
    or-true false = refl

pub within-bounds : (n low high : ℕ) → low ≤ n → n ≤ high → (ltb n low || ltb high n) ≡ false
within-bounds n low high l h = rw (le-ltb n low l, le-ltb high n h)
