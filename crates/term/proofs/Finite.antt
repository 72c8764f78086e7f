-- A unifier may be taken finite: what it does to variables that do not occur is of no account.
use Prim.Native.Nat.{ℕ}
use mathlib.Core.Path.{◌≡◌, refl, sym, ◌∙◌}
use mathlib.Core.Bool.{Bool, true, false, cond}
use mathlib.Core.List.Memᴰ
use mathlib.Core.List.{List, [], ◌∷◌, ◌++◌, Memᴰ}
use Rattle.cell.specs.Cell.{is_var}
use Rattle.term.specs.Terms.{Terms}
use Rattle.term.specs.Unify.{inst, Subst, Finite, Unifies}
use Rattle.term.proofs.Inst.{inst-agree, Terms-var}
use Rattle.term.specs.code.Unifiable.{occurs}
use Rattle.term.proofs.Decide.{occurs-decides, Decides, says-yes, says-no}

-- σ on the cells of xs, and nothing elsewhere
unfoldable restricted : List ℕ → (ℕ → List ℕ) → ℕ → List ℕ
restricted xs σ c = cond (occurs c xs) (σ c) (c ∷ [])

module _ (xs : List ℕ) (σ : ℕ → List ℕ) where
  inside : (c : ℕ) → Memᴰ c xs → restricted xs σ c ≡ σ c
  unfolding restricted
  inside c m = go (occurs-decides c xs)
    where
      go : {b : Bool} → Decides (Memᴰ c xs) b → cond b (σ c) (c ∷ []) ≡ σ c
      go (says-yes p) = refl
      go (says-no n) = absurd (n m)

  outside : (c : ℕ) → ¬ Memᴰ c xs → restricted xs σ c ≡ c ∷ []
  unfolding restricted
  outside c n = go (occurs-decides c xs)
    where
      go : {b : Bool} → Decides (Memᴰ c xs) b → cond b (σ c) (c ∷ []) ≡ c ∷ []
      go (says-yes p) = absurd (n p)
      go (says-no q) = refl

  restricted-good : Subst σ → Subst (restricted xs σ)
  unfolding restricted
  restricted-good s = record { vars = λ c v. one c v (occurs c xs); symbols = λ c v. other c v (occurs c xs) }
    where
      one : (c : ℕ) → is_var c ≡ true → (b : Bool) → Terms 1 (cond b (σ c) (c ∷ []))
      one c v true = s.vars c v
      one c v false = Terms-var v

      other : (c : ℕ) → is_var c ≡ false → (b : Bool) → cond b (σ c) (c ∷ []) ≡ c ∷ []
      other c v true = s.symbols c v
      other c v false = refl

pub finite-unifier : {xs ys : List ℕ} → Unifies xs ys → (u : Unifies xs ys) × Finite u.by
finite-unifier {xs} {ys} u =
    let all : List ℕ = xs ++ ys in
    let σ = restricted all u.by in
    let agrees : (zs : List ℕ) → ((c : ℕ) → Memᴰ c zs → Memᴰ c all) → inst σ zs ≡ inst u.by zs
    = λ zs f. inst-agree σ u.by zs (λ c m. inside all u.by c (f c m)) in (
      record {
        by = σ;
        good = restricted-good all u.by u.good;
        same = agrees xs (λ c m. Memᴰ.append_left ys m) ∙ u.same ∙ sym (agrees ys (λ c m. Memᴰ.append_right xs m));
      },
      record { listed = all; others = outside all u.by },
    )
