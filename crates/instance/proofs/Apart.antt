-- A row and a goal have something in common exactly when they unify, their variables being moved apart.
use Prim.Native.Nat.{ℕ, suc, ◌+◌, ◌-◌, ◌^◌, ◌≤◌, ◌<◌}
use mathlib.Core.Path.{◌≡◌, refl, sym, ◌∙◌, ap}
use mathlib.Core.Logic.{⊎_elim, by_cases}
use mathlib.Core.Bool.{true, false, cond, ◌&&◌, true≢false}
use mathlib.Core.List.{List, [], ◌∷◌, ◌++◌, Memᴰ}
use native.Mathlib.Omega.{arith}
use native.Mathlib.Decide.{dec_lt}
use lib.Dec.{ltb}
use borrow.Author.Tests.{lt-ltb, le-ltb, ltb-true}
use Rattle.cell.specs.Cell.{arity, is_var}
use Rattle.cell.proofs.CellLaws.{var-small}
use Rattle.term.specs.Terms.{Terms, more}
use Rattle.term.specs.Unify.{inst, Subst, renamed, Matches}
use Rattle.term.proofs.Tests.{bool_cases, cond-case}
use Rattle.term.proofs.Inst.{inst-agree, Terms-var}
use Rattle.instance.specs.Instance.{Common}

-- variables numbered below m
pub record Below (m : ℕ) (xs : List ℕ) : Type 0 where
  pub vars : (c : ℕ) → Memᴰ c xs → is_var c ≡ true → c < m

-- the terms after a list's first cell
pub after-cell : {c k : ℕ} {xs : List ℕ} → Terms k (c ∷ xs) → (j : ℕ) × (k ≡ suc j) × Terms (arity c + j) xs
after-cell (more {k} t) = (k, refl, t)

-- A unifier and a common instance: the goal's variables moved up, and back.

pub moved : (ℕ → List ℕ) → ℕ → List ℕ
moved σ c = cond (is_var c && ltb c (2 ^ 16)) (σ (2 ^ 16 + c)) (c ∷ [])

pub moved-good : {σ : ℕ → List ℕ} → Subst σ → Subst (moved σ)
unfolding moved
moved-good {σ} s = record {
  vars =
      λ c v. rw v (cond-case (ltb c (2 ^ 16)) (Terms 1)
      (λ e. s.vars (2 ^ 16 + c) (var-small (2 ^ 16 + c) (let l = ltb-true c (2 ^ 16) e in omega arith))) (λ e. Terms-var v));
  symbols = λ c v. rw v;
}

pub moved_same : {σ : ℕ → List ℕ} → Subst σ → (g : List ℕ) → Below (2 ^ 16) g → inst (moved σ) g ≡ inst σ (renamed g)
unfolding moved inst renamed
moved_same s [] b = refl
moved_same {σ} s (c ∷ g) b =
    let ih = moved_same s g (record { vars = λ d m. b.vars d (Memᴰ.tail m) }) in
    ⊎_elim
    (λ (v : is_var c ≡ true). rw (v, lt-ltb c (2 ^ 16) (b.vars c (Memᴰ.head refl) v)) (ap (λ (l : List ℕ). σ (2 ^ 16 + c) ++ l) ih))
    (λ (v : is_var c ≡ false). rw (v, s.symbols c v) (ap (λ (l : List ℕ). c ∷ l) ih))
    (bool_cases (is_var c))

pub matches-common : {row goal : List ℕ} → Below (2 ^ 16) goal → Matches row goal → (Y : List ℕ) × Common row goal Y
matches-common {row} {goal} b u = (
  inst u.by row,
  record {
    first = record { by = u.by; good = u.good; same = refl };
    second = record { by = moved u.by; good = moved-good u.good; same = moved_same u.good goal b ∙ sym u.same };
  },
)

symbol-large : (c : ℕ) → is_var c ≡ false → 2 ^ 30 ≤ c
symbol-large c v = by_cases (dec_lt c (2 ^ 30)) (λ l. absurd (true≢false (sym (var-small c l) ∙ v))) (λ l. omega arith)

pub both : (σ τ : ℕ → List ℕ) → ℕ → List ℕ
both σ τ c = cond (ltb c (2 ^ 16)) (σ c) (cond (ltb c (2 ^ 17)) (τ (c - 2 ^ 16)) (c ∷ []))

module _ {σ τ : ℕ → List ℕ} (s : Subst σ) (t : Subst τ) where
  both-symbol : (c : ℕ) → is_var c ≡ false → both σ τ c ≡ c ∷ []
  unfolding both
  both-symbol c v = let l = symbol-large c v in rw (le-ltb c (2 ^ 16) (omega arith), le-ltb c (2 ^ 17) (omega arith))

  pub both-good : Subst (both σ τ)
  unfolding both
  both-good = record {
    vars = λ c v. cond-case (ltb c (2 ^ 16)) (Terms 1) (λ e. s.vars c v)
        (λ e. cond-case (ltb c (2 ^ 17)) (Terms 1) (λ f. t.vars (c - 2 ^ 16) (var-small (c - 2 ^ 16) (let l = ltb-true c (2 ^ 17) f in omega arith)))
        (λ f. Terms-var v));
    symbols = both-symbol;
  }

  pub both-row : (xs : List ℕ) → Below (2 ^ 16) xs → inst (both σ τ) xs ≡ inst σ xs
  unfolding both
  both-row xs a =
      inst-agree (both σ τ) σ xs (λ c m. ⊎_elim (λ v. rw (lt-ltb c (2 ^ 16) (a.vars c m v))) (λ v. both-symbol c v ∙ sym (s.symbols c v))
      (bool_cases (is_var c)))

  both-up : (c : ℕ) → c < 2 ^ 16 → both σ τ (2 ^ 16 + c) ≡ τ c
  unfolding both
  both-up c l =
      let e : 2 ^ 16 + c - 2 ^ 16 ≡ c = omega arith in
      rw (le-ltb (2 ^ 16 + c) (2 ^ 16) (omega arith), lt-ltb (2 ^ 16 + c) (2 ^ 17) (omega arith), e)

  pub both-goal : (g : List ℕ) → Below (2 ^ 16) g → inst (both σ τ) (renamed g) ≡ inst τ g
  unfolding inst renamed
  both-goal [] b = refl
  both-goal (c ∷ g) b =
      let ih = both-goal g (record { vars = λ d m. b.vars d (Memᴰ.tail m) }) in
      ⊎_elim
      (λ (v : is_var c ≡ true). rw (v, both-up c (b.vars c (Memᴰ.head refl) v)) (ap (λ (l : List ℕ). τ c ++ l) ih))
      (λ (v : is_var c ≡ false). rw (v, both-symbol c v, t.symbols c v) (ap (λ (l : List ℕ). c ∷ l) ih))
      (bool_cases (is_var c))

pub common-matches : {row goal Y : List ℕ} → Below (2 ^ 16) row → Below (2 ^ 16) goal → Common row goal Y → Matches row goal
common-matches {row} {goal} {Y} a b c =
    let s = c.first in
    let t = c.second in
    record {
      by = both s.by t.by;
      good = both-good s.good t.good;
      same = both-row s.good t.good row a ∙ s.same ∙ sym t.same ∙ sym (both-goal s.good t.good goal b);
    }
