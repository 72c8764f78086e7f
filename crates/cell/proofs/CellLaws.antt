-- What a cell says, case by case; taking a cell apart and building it undo each other; what every arity and variable has.
use mathlib.Core.Path.{◌≡◌, refl, sym, ap, ◌∙◌}
use mathlib.Core.Bool.{Bool, true, false, cond}
use mathlib.Core.Logic.{◌≢◌, ◌↔◌}
use Prim.Native.Nat.{ℕ, ◌+◌, ◌*◌, ◌/◌, ◌%◌, ◌≤◌, ◌<◌, ◌^◌}
use native.Mathlib.Omega.{arith}
use lib.Dec.{eqb, leb}
use lib.IntN.{ℤ}
use borrow.Author.Tests.{ne_eqb, le-leb, lt-leb, leb-true, leb-false, eqb-true, eqb-false}
use Rattle.cell.specs.Signed.{signed_of, bits_of}
use Rattle.cell.specs.Cell.{kind_of, args_of, number_of, middle_of, variable_cell, name_cell, number_cell, Cell, variable, name, number, Values}
use Rattle.cell.specs.Cell.{values, number_values, no_values, values_at, values_of, arity, is_var}
use Rattle.cell.specs.declared.Shape.{Shape}
use Rattle.cell.specs.declared.Shape.TheVariants.{Variable, Name, Number, Refused}
use Rattle.cell.proofs.SignedLaws.{bits-signed}

-- the values, by the first test that holds
module _ (c : ℕ) where
  pub is-variable : kind_of c ≡ 0 → middle_of c ≡ 0 → values_at c ≡ values 0 0 (number_of c)
  unfolding values_at
  is-variable k m = simp (k, m)

  pub no-variable : kind_of c ≡ 0 → middle_of c ≢ 0 → values_at c ≡ no_values
  unfolding values_at
  no-variable k m = simp (k, ne_eqb _ _ m)

  pub is_name : kind_of c ≡ 1 → middle_of c ≤ 4 → values_at c ≡ values 1 (args_of c) (number_of c)
  unfolding values_at
  is_name k m = simp (k, le-leb _ _ m)

  pub no_name : kind_of c ≡ 1 → 4 < middle_of c → values_at c ≡ no_values
  unfolding values_at
  no_name k m = simp (k, lt-leb _ _ m)

  pub is_number : kind_of c ≡ 2 → middle_of c ≡ 0 → values_at c ≡ number_values (number_of c) (signed_of (number_of c))
  unfolding values_at
  is_number k m = simp (k, m)

  -- what has its value has its bits
  pub signed-number : {z : ℤ} → kind_of c ≡ 2 → middle_of c ≡ 0 → z ≡ signed_of (number_of c) → number_values (bits_of z) z ≡ values_at c
  signed-number {z} k m e =
      let b : bits_of z ≡ number_of c = ap bits_of e ∙ bits-signed (number_of c) (omega arith) in
      rw (b, e) (sym (is_number k m))

  pub no_number : kind_of c ≡ 2 → middle_of c ≢ 0 → values_at c ≡ no_values
  unfolding values_at
  no_number k m = simp (k, ne_eqb _ _ m)

  pub no_kind : kind_of c ≢ 0 → kind_of c ≢ 1 → kind_of c ≢ 2 → values_at c ≡ no_values
  unfolding values_at
  no_kind k l m = simp (ne_eqb _ _ k, ne_eqb _ _ l, ne_eqb _ _ m)

  pub arity-name : kind_of c ≡ 1 → middle_of c ≤ 4 → arity c ≡ args_of c
  unfolding arity
  arity-name k m = ap (λ (v : Values). v.args) (is_name k m)

  arity-no-name : kind_of c ≡ 1 → 4 < middle_of c → arity c ≡ 0
  unfolding arity
  arity-no-name k m = ap (λ (v : Values). v.args) (no_name k m)

-- every way a number can be read as a cell, with what it then says
pub data Reading (c : ℕ) : Values → Type 0 where
  a-variable : kind_of c ≡ 0 → middle_of c ≡ 0 → Reading c (values 0 0 (number_of c))
  a-name : kind_of c ≡ 1 → middle_of c ≤ 4 → Reading c (values 1 (args_of c) (number_of c))
  a-number : kind_of c ≡ 2 → middle_of c ≡ 0 → Reading c (number_values (number_of c) (signed_of (number_of c)))
  no_cell : ¬ Cell c → Reading c no_values

by-test : {c : ℕ} (b : Bool) {x y : Values} → (b ≡ true → Reading c x) → (b ≡ false → Reading c y) → Reading c (cond b x y)
by-test true f g = f refl
by-test false f g = g refl

-- a cell of 01 has one of three pairs of kind and middle
no-cell-by : (c : ℕ) → (kind_of c ≡ 0 → middle_of c ≡ 0 → ⊥) → (kind_of c ≡ 1 → middle_of c ≤ 4 → ⊥) → (kind_of c ≡ 2 → middle_of c ≡ 0 → ⊥) → ¬ Cell c
no-cell-by c f g h (variable {n} l) = f (omega arith) (omega arith)
no-cell-by c f g h (name {a} {n} k l) = g (omega arith) (omega arith)
no-cell-by c f g h (number {n} l) = h (omega arith) (omega arith)

pub reading : (c : ℕ) → Reading c (values_at c)
unfolding values_at
reading c =
    by-test (eqb (kind_of c) 0)
    (λ k. let k₀ = eqb-true (kind_of c) 0 k in by-test (eqb (middle_of c) 0)
    (λ m. a-variable k₀ (eqb-true _ _ m))
    (λ m. no_cell (no-cell-by c (λ _ e. eqb-false (middle_of c) 0 m e) (λ e _. omega arith) (λ e _. omega arith))))
    (λ k. let k₀ = eqb-false (kind_of c) 0 k in by-test (eqb (kind_of c) 1)
    (λ k'. let k₁ = eqb-true (kind_of c) 1 k' in by-test (leb (middle_of c) 4)
    (λ m. a-name k₁ (leb-true _ _ m))
    (λ m. let l = leb-false (middle_of c) 4 m in no_cell (no-cell-by c (λ e _. omega arith) (λ _ e. omega arith) (λ e _. omega arith))))
    (λ k'. let k₁ = eqb-false (kind_of c) 1 k' in by-test (eqb (kind_of c) 2)
    (λ k''. let k₂ = eqb-true (kind_of c) 2 k'' in by-test (eqb (middle_of c) 0)
    (λ m. a-number k₂ (eqb-true _ _ m))
    (λ m. no_cell (no-cell-by c (λ e _. omega arith) (λ e _. omega arith) (λ _ e. eqb-false (middle_of c) 0 m e))))
    (λ k''. no_cell (no-cell-by c (λ e _. k₀ e) (λ e _. k₁ e) (λ e _. eqb-false (kind_of c) 2 k'' e)))))

-- a name's middle is its number of arguments
args-middle : (q : ℕ) → q % 2 ^ 14 ≤ 4 → q % 2 ^ 3 ≡ q % 2 ^ 14
args-middle q h = omega arith

middle-of : (t a : ℕ) → a ≤ 4 → (t * 2 ^ 14 + a) % 2 ^ 14 ≡ a
middle-of t a h = omega arith

-- the cell that has given values
abbrev pub built : Values → ℕ
built v = v.kind * 2 ^ 30 + v.args * 2 ^ 16 + v.number

-- taken apart and built again: every cell of 01
rebuilt : (c : ℕ) {v : Values} → Cell c → Reading c v → built v ≡ c
rebuilt c l (a-variable k m) = omega arith
rebuilt c l (a-name k m) = omega arith
rebuilt c l (a-number k m) = omega arith
rebuilt c l (no_cell n) = absurd (n l)

pub apart-built : (c : ℕ) → Cell c → built (values_at c) ≡ c
apart-built c l = rebuilt c l (reading c)

-- built and taken apart again: every kind of cell
pub built-variable : (n : ℕ) → n < 2 ^ 16 → values_at (variable_cell n) ≡ values 0 0 n
built-variable n h = let e : number_of (variable_cell n) ≡ n = omega arith in is-variable (variable_cell n) (omega arith) (omega arith) ∙ ap (values 0 0) e

pub built-name : (a n : ℕ) → a ≤ 4 → n < 2 ^ 16 → values_at (name_cell a n) ≡ values 1 a n
built-name a n l h =
    let e : args_of (name_cell a n) ≡ a = omega arith in
    let f : number_of (name_cell a n) ≡ n = omega arith in
    let d : name_cell a n / 2 ^ 16 ≡ 1 * 2 ^ 14 + a = omega arith in
    let m : middle_of (name_cell a n) ≡ a = rw d (middle-of 1 a l) in
    is_name (name_cell a n) (omega arith) (omega arith) ∙ rw (e, f)

pub built-number : (n : ℕ) → n < 2 ^ 16 → values_at (number_cell n) ≡ number_values n (signed_of n)
built-number n h =
    let e : number_of (number_cell n) ≡ n = omega arith in
    let d : number_cell n / 2 ^ 16 ≡ 2 * 2 ^ 14 + 0 = omega arith in
    let m : middle_of (number_cell n) ≡ 0 = rw d (middle-of 2 0 (omega arith)) in
    is_number (number_cell n) (omega arith) (omega arith) ∙ ap (λ (m : ℕ). number_values m (signed_of m)) e

-- a cell of 01 is one that is not refused
cell-of : (c : ℕ) {v : Values} → Reading c v → v.kind ≢ 3 → Cell c
cell-of c (a-variable k m) h = let e : variable_cell (number_of c) ≡ c = omega arith in rw e at (variable (let l : number_of c < 2 ^ 16 = omega arith in l))
cell-of c (a-name k m) h =
    let e : name_cell (args_of c) (number_of c) ≡ c = omega arith in
    let i : args_of c ≤ 4 = omega (arith, args-middle (c / 2 ^ 16) m) in
    let l : number_of c < 2 ^ 16 = omega arith in
    rw e at (name i l)
cell-of c (a-number k m) h = let e : number_cell (number_of c) ≡ c = omega arith in rw e at (number (let l : number_of c < 2 ^ 16 = omega arith in l))
cell-of c (no_cell n) h = absurd (h refl)

kind-of : (c : ℕ) {v : Values} → Cell c → Reading c v → v.kind ≢ 3
kind-of c l (a-variable k m) e = omega arith
kind-of c l (a-name k m) e = omega arith
kind-of c l (a-number k m) e = omega arith
kind-of c l (no_cell n) e = n l

pub cell-accepted : (c : ℕ) → Cell c ↔ ((values_at c).kind ≢ 3)
cell-accepted c = (λ l. kind-of c l (reading c), cell-of c (reading c))

-- what every value is
few-args : (c : ℕ) {v : Values} → Reading c v → (v.args ≤ 4) × (v.number < 2 ^ 16) × (v.kind ≤ 3)
few-args c (a-variable k m) = omega arith
few-args c (a-name k m) = omega arith
few-args c (a-number k m) = omega arith
few-args c (no_cell n) = omega arith

pub values-small : (c : ℕ) → ((values_at c).args ≤ 4) × ((values_at c).number < 2 ^ 16) × ((values_at c).kind ≤ 3)
values-small c = few-args c (reading c)

pub arity-small : (c : ℕ) → arity c ≤ 4
unfolding arity
arity-small c = (values-small c).0

-- a number's value is that of its 16 bits
number_by : (c : ℕ) {v : Values} → Reading c v → v.kind ≡ 2 → v.value ≡ signed_of (number_of c)
number_by c (a-variable k m) e = absurd (omega arith)
number_by c (a-name k m) e = absurd (omega arith)
number_by c (a-number k m) e = refl
number_by c (no_cell n) e = absurd (omega arith)

pub number-value : (c : ℕ) → (values_at c).kind ≡ 2 → (values_at c).value ≡ signed_of (number_of c)
number-value c = number_by c (reading c)

-- only a name has arguments
no-args : (c : ℕ) {v : Values} → Reading c v → kind_of c ≢ 1 → v.args ≡ 0
no-args c (a-variable k m) h = refl
no-args c (a-name k m) h = absurd (h k)
no-args c (a-number k m) h = refl
no-args c (no_cell n) h = refl

pub arity-other : (c : ℕ) → kind_of c ≢ 1 → arity c ≡ 0
unfolding arity
arity-other c h = no-args c (reading c) h

-- by the high half: a name's is 0x4000 and its number of arguments
pub arity-below : (c : ℕ) → c / 2 ^ 16 < 16384 → arity c ≡ 0
arity-below c l = arity-other c (λ k. omega arith)

pub arity-above : (c : ℕ) → 16388 < c / 2 ^ 16 → arity c ≡ 0
arity-above c l = go (eqb (kind_of c) 1) refl
  where
    go : (b : Bool) → eqb (kind_of c) 1 ≡ b → arity c ≡ 0
    go true e = let k = eqb-true (kind_of c) 1 e in arity-no-name c k (omega arith)
    go false e = arity-other c (eqb-false (kind_of c) 1 e)

pub var-arity : (c : ℕ) → is_var c ≡ true → arity c ≡ 0
unfolding is_var
var-arity c e = let k = eqb-true (kind_of c) 0 e in arity-other c (λ q. omega arith)

-- the kind tells a variable
pub is-var : (c : ℕ) → kind_of c ≡ 0 → is_var c ≡ true
unfolding is_var
is-var c k = rw k

pub not-var : (c : ℕ) → kind_of c ≢ 0 → is_var c ≡ false
unfolding is_var
not-var c h = ne_eqb (kind_of c) 0 h

-- a variable is a cell below 2^30
pub var-small : (c : ℕ) → c < 2 ^ 30 → is_var c ≡ true
unfolding is_var
var-small c h = let e : kind_of c ≡ 0 = omega arith in rw e

pub small-var : (c : ℕ) → is_var c ≡ true → c < 2 ^ 30
unfolding is_var
small-var c e = let p = eqb-true (kind_of c) 0 e in omega arith

-- the values of a cell that is allowed tell whether it is a variable
var-by : (c : ℕ) {v : Values} → Reading c v → v.kind ≢ 3 → is_var c ≡ eqb v.kind 0
unfolding is_var
var-by c (a-variable k m) h = rw k
var-by c (a-name k m) h = rw k
var-by c (a-number k m) h = rw k
var-by c (no_cell n) h = absurd (h refl)

pub is_var-kind : (c : ℕ) → (values_at c).kind ≢ 3 → is_var c ≡ eqb (values_at c).kind 0
is_var-kind c = var-by c (reading c)

-- 01's values tell the enum's cases apart: each case is found again from its values
shape_in : Values → Shape
shape_in v =
    cond (eqb v.kind 0) (Variable v.number)
    (cond (eqb v.kind 1) (Name v.args v.number) (cond (eqb v.kind 2) (Number v.value) Refused))

shape-found : (s : Shape) → shape_in (values_of s) ≡ s
unfolding shape_in
shape-found (Variable n) = refl
shape-found (Name a n) = refl
shape-found (Number z) = refl
shape-found Refused = refl

pub values_of-one : {s t : Shape} → values_of s ≡ values_of t → s ≡ t
values_of-one {s} {t} e = sym (shape-found s) ∙ ap shape_in e ∙ shape-found t

-- The arguments of a name, where `arity_of` meets one.
pub ruleset name_arity = (arity-name)
