-- A most general common instance has no symbol of its own: each stands in one of the two lists. For with another symbol in the place of one
-- that stands in neither, it is a common instance still, and not an instance of the most general one.
use Prim.Native.Nat.{ℕ, ◌+◌, ◌≤◌}
use mathlib.Core.Path.{◌≡◌, refl, sym, ◌∙◌, ap, ap₂, subst}
use mathlib.Core.Logic.{◌≢◌, ◌⊎◌, inl, inr, ⊎_elim}
use mathlib.Core.Bool.{Bool, true, false, cond}
use mathlib.Core.List.{List, [], ◌∷◌, ◌++◌, map, map-append}
use mathlib.Core.List.Memᴰ
use mathlib.Core.List.{Memᴰ}
use native.Mathlib.Omega.{arith}
use lib.Dec.{eqb}
use lib.ListN.{length, length-append, length-map}
use borrow.Author.Tests.{eqb-true, eqb-false, ne_eqb}
use Rattle.cell.specs.Cell.{name_cell, Values, arity, is_var}
use Rattle.cell.proofs.CellLaws.{arity-small, built-name}
use Rattle.term.specs.Terms as terms
use Rattle.term.specs.Terms.{Terms}
use Rattle.term.specs.Unify.{inst, Subst}
use Rattle.term.proofs.Tests.{bool_cases, eqb_same}
use Rattle.term.proofs.Occurs.{cell-long, inst-long}
use Rattle.term.proofs.Decide.{Decides, says-yes, says-no, occurs-decides}
use Rattle.instance.specs.Instance.{Instance, MostGeneral}

-- AN INSTANCE CELL BY CELL. Where each cell goes to one, a symbol stays
one-first : (l zs : List ℕ) {a : ℕ} {ms : List ℕ} → l ++ zs ≡ a ∷ ms → 1 ≤ length l → length ms ≤ length zs → (l ≡ a ∷ []) × (zs ≡ ms)
one-first [] zs e h k = absurd (omega arith)
one-first (y ∷ []) zs e h k = (cc, cc)
one-first (y ∷ z ∷ l) zs e h k = absurd (omega (arith, ap length e, length-append l zs))

symbol-stays : {σ : ℕ → List ℕ} → Subst σ → (f : ℕ → ℕ) (xs : List ℕ) → inst σ xs ≡ map f xs → (c : ℕ) → is_var c ≡ false
    → Memᴰ c xs → f c ≡ c
unfolding inst
symbol-stays s f [] e c v m = absurd (Memᴰ.not-nil m)
symbol-stays {σ} s f (x ∷ xs) e c v m =
    let o = one-first (σ x) (inst σ xs) e (cell-long s x) (omega (arith, inst-long s xs, length-map xs f)) in
    ⊎_elim (λ p. one (sym o.0 ∙ ap σ (sym p) ∙ s.symbols c v) p) (λ q. symbol-stays s f xs o.1 c v q) (Memᴰ.cases_cons m)
  where
    one : f x ∷ [] ≡ c ∷ [] → c ≡ x → f c ≡ c
    one e p = cc

-- CELLS CHANGED, each for one with as many arguments
module _ (f : ℕ → ℕ) (alike : (x : ℕ) → arity (f x) ≡ arity x) where
  terms-changed : {k : ℕ} {xs : List ℕ} → Terms k xs → Terms k (map f xs)
  terms-changed terms.none = terms.none
  terms-changed (terms.more {c = c} {k = k} {xs = xs} t) =
      terms.more (subst (λ (n : ℕ). Terms (n + k) (map f xs)) (sym (alike c)) (terms-changed t))

  -- a substitution with what it puts changed
  through : (ℕ → List ℕ) → ℕ → List ℕ
  through σ x = cond (is_var x) (map f (σ x)) (x ∷ [])

  through-good : {σ : ℕ → List ℕ} → Subst σ → Subst (through σ)
  unfolding through
  through-good s = record { vars = λ x v. rw v (terms-changed (s.vars x v)); symbols = λ x v. rw v }

  -- the symbols of a list staying, its instances may be changed
  Stay : List ℕ → Type 0
  Stay xs = (x : ℕ) → Memᴰ x xs → is_var x ≡ false → f x ≡ x

  inst-changed : {σ : ℕ → List ℕ} → Subst σ → (xs : List ℕ) → Stay xs → inst (through σ) xs ≡ map f (inst σ xs)
  unfolding inst through Stay
  inst-changed s [] h = refl
  inst-changed {σ} s (x ∷ xs) h =
      let ih = inst-changed s xs (λ y m. h y (Memᴰ.tail m)) in
      ⊎_elim
      (λ (v : is_var x ≡ true). rw v (ap (λ (l : List ℕ). map f (σ x) ++ l) ih ∙ sym (map-append f (σ x) (inst σ xs))))
      (λ (v : is_var x ≡ false). rw (v, s.symbols x v) (ap₂ ◌∷◌ (sym (h x (Memᴰ.head refl) v)) ih))
      (bool_cases (is_var x))

  instance-changed : {xs zs : List ℕ} → Stay xs → Instance xs zs → Instance xs (map f zs)
  instance-changed {xs} h i =
      record { by = through i.by; good = through-good i.good; same = inst-changed i.good xs h ∙ ap (map f) i.same }

-- ANOTHER SYMBOL with as many arguments
name-args : (c n : ℕ) → n ≤ 1 → arity (name_cell (arity c) n) ≡ arity c
unfolding arity
name-args c n h = ap (λ (v : Values). v.args) (built-name (arity c) n (arity-small c) (omega arith))

another : (c : ℕ) → (d : ℕ) × (arity d ≡ arity c) × (d ≢ c)
another c = by (eqb (name_cell (arity c) 0) c) refl
  where
    by : (b : Bool) → eqb (name_cell (arity c) 0) c ≡ b → (d : ℕ) × (arity d ≡ arity c) × (d ≢ c)
    by true e = (name_cell (arity c) 1, name-args c 1 (omega arith), λ p. (let q = eqb-true (name_cell (arity c) 0) c e in omega arith))
    by false e = (name_cell (arity c) 0, name-args c 0 (omega arith), eqb-false (name_cell (arity c) 0) c e)

-- in the place of one
module _ (c d : ℕ) where
  instead : ℕ → ℕ
  instead x = cond (eqb x c) d x

  instead-alike : arity d ≡ arity c → (x : ℕ) → arity (instead x) ≡ arity x
  unfolding instead
  instead-alike h x = by (eqb x c) refl
    where
      by : (b : Bool) → eqb x c ≡ b → arity (cond b d x) ≡ arity x
      by true e = h ∙ ap arity (sym (eqb-true x c e))
      by false e = refl

  instead-there : instead c ≡ d
  unfolding instead
  instead-there = rw (eqb_same c)

  instead-other : (x : ℕ) → x ≢ c → instead x ≡ x
  unfolding instead
  instead-other x n = rw (ne_eqb x c n)

-- EACH SYMBOL stands in one of the lists
pub symbols-shared : {row goal cells : List ℕ} → MostGeneral row goal cells → (c : ℕ) → is_var c ≡ false → Memᴰ c cells
    → Memᴰ c row ⊎ Memᴰ c goal
unfolding Stay
symbols-shared {row} {goal} {cells} g c v m = by (occurs-decides c row) (occurs-decides c goal)
  where
    d : ℕ
    d = (another c).0

    stay : (xs : List ℕ) → ¬ Memᴰ c xs → Stay (instead c d) (instead-alike c d (another c).1) xs
    stay xs n x k w = instead-other c d x (λ p. n (subst (λ (y : ℕ). Memᴰ y xs) p k))

    neither : ¬ Memᴰ c row → ¬ Memᴰ c goal → ⊥
    neither p q =
        let f = instead c d in
        let a = instead-alike c d (another c).1 in
        let i = g.most (map f cells) (record {
          first = instance-changed f a (stay row p) g.common.first;
          second = instance-changed f a (stay goal q) g.common.second;
        }) in
        (another c).2 (sym (instead-there c d) ∙ symbol-stays i.good f cells i.same c v m)

    by : {x y : Bool} → Decides (Memᴰ c row) x → Decides (Memᴰ c goal) y → Memᴰ c row ⊎ Memᴰ c goal
    by (says-yes p) q = inl p
    by (says-no p) (says-yes q) = inr q
    by (says-no p) (says-no q) = absurd (neither p q)
