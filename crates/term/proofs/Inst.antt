-- Substitutions: what they do to a list of cells, and what they keep.
use Prim.Native.Nat.{ℕ, suc, ◌+◌}
use mathlib.Core.Path.{◌≡◌, refl, sym, ◌∙◌, ap, ap₂, subst}
use mathlib.Core.Logic.{◌≢◌, ◌⊎◌, inl, inr}
use mathlib.Core.Bool.{Bool, true, false, cond, true≢false}
use mathlib.Core.List.{List, [], ◌∷◌, ◌++◌, append_assoc, append-nil, Memᴰ}
use native.Mathlib.Nat.{zero-add, add-zero}
use native.Mathlib.Numerals.{one-add}
use lib.Dec.{eqb}
use Rattle.cell.specs.Cell.{arity, is_var}
use Rattle.cell.proofs.CellLaws.{var-arity}
use borrow.Author.Tests.{eqb-true, eqb-false, ne_eqb}
use Rattle.term.proofs.Tests.{bool_cases, eqb_same}
use Rattle.term.specs.Unify.{inst, Subst}
use Rattle.term.specs.Terms.{Terms, none, more}
use Rattle.term.proofs.TermsLaws.{Terms-++}
use Rattle.term.specs.Bind.{bind, id_s}

pub inst-++ : (σ : ℕ → List ℕ) (xs ys : List ℕ) → inst σ (xs ++ ys) ≡ inst σ xs ++ inst σ ys
unfolding inst
inst-++ σ [] ys = refl
inst-++ σ (c ∷ xs) ys = rw (inst-++ σ xs ys, append_assoc)

-- two that agree on the cells of xs
pub inst-agree : (σ τ : ℕ → List ℕ) (xs : List ℕ) → ((c : ℕ) → Memᴰ c xs → σ c ≡ τ c) → inst σ xs ≡ inst τ xs
unfolding inst
inst-agree σ τ [] h = refl
inst-agree σ τ (c ∷ xs) h = ap₂ ◌++◌ (h c (Memᴰ.head refl)) (inst-agree σ τ xs (λ d m. h d (Memᴰ.tail m)))

-- one after the other
unfoldable pub then : (ℕ → List ℕ) → (ℕ → List ℕ) → ℕ → List ℕ
then σ τ c = inst τ (σ c)

pub inst-then : (σ τ : ℕ → List ℕ) (xs : List ℕ) → inst τ (inst σ xs) ≡ inst (then σ τ) xs
unfolding inst then
inst-then σ τ [] = refl
inst-then σ τ (c ∷ xs) = inst-++ τ (σ c) (inst σ xs) ∙ ap (λ (l : List ℕ). inst τ (σ c) ++ l) (inst-then σ τ xs)

pub Terms-inst : {σ : ℕ → List ℕ} {k : ℕ} {xs : List ℕ} → Subst σ → Terms k xs → Terms k (inst σ xs)
unfolding inst
Terms-inst s none = none
Terms-inst {σ} s (more {c} {k} {xs} t) = go (bool_cases (is_var c)) (Terms-inst s t)
  where
    go : (is_var c ≡ true) ⊎ (is_var c ≡ false) → Terms (arity c + k) (inst σ xs) → Terms (suc k) (σ c ++ inst σ xs)
    go (inl v) u = rw one-add at (Terms-++ (s.vars c v) (rw (var-arity c v, zero-add) at u))
    go (inr v) u = rw (s.symbols c v) (more u)

pub Subst-then : {σ τ : ℕ → List ℕ} → Subst σ → Subst τ → Subst (then σ τ)
unfolding then inst
Subst-then {σ} {τ} s t = record { vars = λ c v. Terms-inst t (s.vars c v); symbols = λ c v. rw (s.symbols c v) (append-nil (τ c) ∙ t.symbols c v) }

pub bind-same : (v : ℕ) (t : List ℕ) (σ : ℕ → List ℕ) → bind v t σ v ≡ t
unfolding bind
bind-same v t σ = rw (eqb_same v)

pub bind-other : (v : ℕ) (t : List ℕ) (σ : ℕ → List ℕ) (c : ℕ) → c ≢ v → bind v t σ c ≡ σ c
unfolding bind
bind-other v t σ c h = rw (ne_eqb c v h)

pub inst-id : (xs : List ℕ) → inst id_s xs ≡ xs
unfolding inst id_s
inst-id [] = refl
inst-id (c ∷ xs) = ap (λ (l : List ℕ). c ∷ l) (inst-id xs)

pub more-var : (c : ℕ) {k : ℕ} {xs : List ℕ} → is_var c ≡ true → Terms k xs → Terms (suc k) (c ∷ xs)
more-var c {k} {xs} v t = let u : Terms (arity c + k) xs = rw (var-arity c v, zero-add) t in more u

pub Terms-var : {c : ℕ} → is_var c ≡ true → Terms 1 (c ∷ [])
Terms-var {c} v = more-var c v none

pub Terms-symbol : (c : ℕ) {ws : List ℕ} → Terms (arity c) ws → Terms 1 (c ∷ ws)
Terms-symbol c {ws} t = let u : Terms (arity c + 0) ws = rw add-zero t in more u

pub Subst-id : Subst id_s
unfolding id_s
Subst-id = record { vars = λ c v. Terms-var v; symbols = λ c v. refl }

pub Subst-bind : (v : ℕ) {t : List ℕ} {σ : ℕ → List ℕ} → is_var v ≡ true → Terms 1 t → Subst σ → Subst (bind v t σ)
unfolding bind
Subst-bind v {t} {σ} hv u s =
    record {
      vars = λ c e. go c e (eqb c v) refl;
      symbols =
          λ c e. rw (ne_eqb c v (λ p. true≢false (sym hv ∙ ap is_var (sym p) ∙ e))) (s.symbols c e);
    }
  where
    go : (c : ℕ) → is_var c ≡ true → (b : Bool) → eqb c v ≡ b → Terms 1 (cond b t (σ c))
    go c e true p = u
    go c e false p = s.vars c e

-- a variable bound that does not occur
pub inst-bind : (v : ℕ) (t : List ℕ) (σ : ℕ → List ℕ) (xs : List ℕ) → ¬ Memᴰ v xs → inst (bind v t σ) xs ≡ inst σ xs
inst-bind v t σ xs h = inst-agree (bind v t σ) σ xs (λ c m. bind-other v t σ c (λ p. h (subst (λ (d : ℕ). Memᴰ d xs) p m)))

pub inst-var : (σ : ℕ → List ℕ) (c : ℕ) → inst σ (c ∷ []) ≡ σ c
unfolding inst
inst-var σ c = append-nil (σ c)

-- σ after v := t, where σ already makes v and t equal
pub absorb : (σ : ℕ → List ℕ) (v : ℕ) (t xs : List ℕ) → σ v ≡ inst σ t → inst σ (inst (bind v t id_s) xs) ≡ inst σ xs
unfolding id_s then
absorb σ v t xs e = inst-then (bind v t id_s) σ xs ∙ inst-agree (then (bind v t id_s) σ) σ xs (λ c m. go c (bool_cases (eqb c v)))
  where
    go : (c : ℕ) → (eqb c v ≡ true) ⊎ (eqb c v ≡ false) → inst σ (bind v t id_s c) ≡ σ c
    go c (inl p) = rw (eqb-true c v p, bind-same v t id_s) (sym e)
    go c (inr p) = rw (bind-other v t id_s c (eqb-false c v p)) (inst-var σ c)

-- v := t leaves alone what does not hold v
pub unbound : (v : ℕ) (t xs : List ℕ) → ¬ Memᴰ v xs → inst (bind v t id_s) xs ≡ xs
unbound v t xs h = inst-bind v t id_s xs h ∙ inst-id xs
