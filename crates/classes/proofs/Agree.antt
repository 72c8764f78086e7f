-- One cell of a row against a node: what is left agrees exactly when the whole did. No law asks that a row uses a variable once.
use Prim.Native.Nat.{ℕ, suc, ◌+◌}
use mathlib.Core.Path.{◌≡◌, refl, sym, ◌∙◌, ap}
use mathlib.Core.Logic.{◌≢◌, ◌↔◌}
use mathlib.Core.Bool.{true, false}
use mathlib.Core.List.{List, [], ◌∷◌, ◌++◌, append_assoc, head-eq_of_cons-eq, tail-eq_of_cons-eq}
use native.Mathlib.Numerals.{one-add}
use lib.ListN.{length}
use Rattle.cell.specs.Cell.{is_var}
use Rattle.term.specs.Terms.{Terms, none}
use Rattle.term.specs.Unify.{inst, Subst}
use Rattle.term.proofs.TermsLaws.{Terms-++}
use Rattle.term.proofs.Inst.{inst-++, inst-var, Terms-var}
use Rattle.term.proofs.Step.{at_place, inst-symbol}
use Rattle.classes.specs.code.Nodes.{Nodes, owns, at, Solves, Fair, Flat, Merges}
use Rattle.classes.specs.code.Agrees.{Agrees}
use Rattle.classes.proofs.Joined.{val, vals, merged, unmerged}

pub owns-++ : (N : Nodes) (P Q : List ℕ) → owns N (P ++ Q) ≡ owns N P ++ owns N Q
unfolding owns
owns-++ N [] Q = refl
owns-++ N (r ∷ P) Q = rw (owns-++ N P Q, append_assoc)

pub owns-terms : {N : Nodes} → Fair N → (rs : List ℕ) → Terms (length rs) (owns N rs)
unfolding owns
owns-terms f [] = none
owns-terms f (r ∷ rs) = rw one-add at (Terms-++ (f.term r) (owns-terms f rs))

module _ {N : Nodes} (f : Fair N) where
  -- one substitution: what it says of a front and of the rest
  pub cut : {τ : ℕ → List ℕ} {A : List ℕ} (P Y Z : List ℕ) → Subst τ → Terms (length P) A
      → (inst τ (A ++ Y) ≡ vals N τ (P ++ Z)) ↔ ((inst τ A ≡ vals N τ P) × (inst τ Y ≡ vals N τ Z))
  cut {τ} {A} P Y Z s t = rw (owns-++ N P Z) (at_place Y (owns N Z) s t (owns-terms f P))

  pub one : (τ : ℕ → List ℕ) (u : ℕ) (Q : List ℕ) → vals N τ (u ∷ Q) ≡ val N τ u ++ vals N τ Q
  unfolding owns
  one τ u Q = inst-++ τ (N.own u) (owns N Q)

  -- the first cell is a variable: it and the first node
  cut-var : {τ : ℕ → List ℕ} (c : ℕ) (B : List ℕ) (u : ℕ) (Q : List ℕ) → Subst τ → is_var c ≡ true
      → (inst τ (c ∷ B) ≡ vals N τ (u ∷ Q)) ↔ ((τ c ≡ val N τ u) × (inst τ B ≡ vals N τ Q))
  unfolding owns
  cut-var {τ} c B u Q s h =
      let p = at_place B (owns N Q) s (Terms-var h) (f.term u) in (
        λ e. let q = p.0 e in (sym (inst-var τ c) ∙ q.0, q.1),
        λ q. p.1 (inst-var τ c ∙ q.0, q.1),
      )

  module _ (rep A P : List ℕ) (t : Terms (length P) A) (c : ℕ) (B : List ℕ) (u : ℕ) (Q : List ℕ) where
    -- the same symbol: its arguments
    pub agree_same : is_var c ≡ false → N.head (at rep u) ≢ 0 → N.head (at rep u) ≡ c
        → Agrees N rep (A ++ (c ∷ B)) (P ++ (u ∷ Q)) ↔ Agrees N rep (A ++ B) (P ++ (N.kids (at rep u) ++ Q))
    agree_same h nz e = (
      λ a. let s = a.solves in
          let τ = a.by in
          let p = (cut P (c ∷ B) (u ∷ Q) s.good t).0 a.same in
          let q : c ∷ inst τ B ≡ c ∷ (vals N τ ks ++ vals N τ Q) =
          sym (inst-symbol c B s.good h) ∙ p.1 ∙ one τ u Q ∙ ap (λ (l : List ℕ). l ++ vals N τ Q) (value s) in
          record { by = τ; solves = s; same = (cut P B (ks ++ Q) s.good t).1 (p.0, tail-eq_of_cons-eq q ∙ sym (both τ)) },
      λ a. let s = a.solves in
          let τ = a.by in
          let p = (cut P B (ks ++ Q) s.good t).0 a.same in
          record {
            by = τ;
            solves = s;
            same = (cut P (c ∷ B) (u ∷ Q) s.good t).1 (
              p.0,
              inst-symbol c B s.good h ∙ ap (λ (l : List ℕ). c ∷ l) (p.1 ∙ both τ)
                  ∙ sym (one τ u Q ∙ ap (λ (l : List ℕ). l ++ vals N τ Q) (value s)),
            );
          },
    )
      where
        ks : List ℕ
        ks = N.kids (at rep u)

        value : {τ : ℕ → List ℕ} → Solves N rep τ → val N τ u ≡ c ∷ vals N τ (N.kids (at rep u))
        value {τ} s = s.classes u ∙ s.heads (at rep u) nz ∙ ap (λ (d : ℕ). d ∷ vals N τ (N.kids (at rep u))) e

        both : (τ : ℕ → List ℕ) → vals N τ (N.kids (at rep u) ++ Q) ≡ vals N τ (N.kids (at rep u)) ++ vals N τ Q
        both τ = ap (inst τ) (owns-++ N (N.kids (at rep u)) Q) ∙ inst-++ τ (owns N (N.kids (at rep u))) (owns N Q)

    -- another one: nothing agrees
    pub agree-other : is_var c ≡ false → N.head (at rep u) ≢ 0 → N.head (at rep u) ≢ c → ¬ Agrees N rep (A ++ (c ∷ B)) (P ++ (u ∷ Q))
    agree-other h nz d a =
        let s = a.solves in
        let τ = a.by in
        let p = (cut P (c ∷ B) (u ∷ Q) s.good t).0 a.same in
        d (head-eq_of_cons-eq (sym (ap (λ (l : List ℕ). l ++ vals N τ Q) (s.classes u ∙ s.heads (at rep u) nz)) ∙ sym (one τ u Q) ∙ sym p.1
        ∙ inst-symbol c B s.good h))

    -- a row's variable met first: it is kept with its node
    pub agree-first : is_var c ≡ true → Agrees N rep (A ++ (c ∷ B)) (P ++ (u ∷ Q)) ↔ Agrees N rep (c ∷ (A ++ B)) (u ∷ (P ++ Q))
    agree-first h = (
      λ a. let s = a.solves in
          let p = (cut P (c ∷ B) (u ∷ Q) s.good t).0 a.same in
          let q = (cut-var c B u Q s.good h).0 p.1 in
          record { by = a.by; solves = s; same = (cut-var c (A ++ B) u (P ++ Q) s.good h).1 (q.0, (cut P B Q s.good t).1 (p.0, q.1)) },
      λ a. let s = a.solves in
          let q = (cut-var c (A ++ B) u (P ++ Q) s.good h).0 a.same in
          let p = (cut P B Q s.good t).0 q.1 in
          record { by = a.by; solves = s; same = (cut P (c ∷ B) (u ∷ Q) s.good t).1 (p.0, (cut-var c B u Q s.good h).1 (q.0, p.1)) },
    )

  -- met again: the node that it met first is joined to this one
  module _ (rep A₁ P₁ A₂ P₂ : List ℕ) (t₁ : Terms (length P₁) A₁) (t₂ : Terms (length P₂) A₂) (c : ℕ) (h : is_var c ≡ true) (w : ℕ) (B : List ℕ)
      (u : ℕ) (Q : List ℕ) where
    met : {τ : ℕ → List ℕ} → Subst τ → (inst τ (A₁ ++ (c ∷ A₂)) ≡ vals N τ (P₁ ++ (w ∷ P₂))) → τ c ≡ val N τ w
    met s e = ((cut-var c A₂ w P₂ s h).0 ((cut P₁ (c ∷ A₂) (w ∷ P₂) s t₁).0 e).1).0

    whole : Terms (length (P₁ ++ (w ∷ P₂))) (A₁ ++ (c ∷ A₂))
    whole = rw (lengths P₁ w P₂) (Terms-++ t₁ (Rattle.term.proofs.Inst.more-var c h t₂))
      where
        lengths : (xs : List ℕ) (y : ℕ) (ys : List ℕ) → length (xs ++ (y ∷ ys)) ≡ length xs + suc (length ys)
        lengths xs y ys = lib.ListN.length-append xs (y ∷ ys)

    pub agree-again : {rep' : List ℕ} → Flat rep → Merges N rep w u rep' → Agrees N rep ((A₁ ++ (c ∷ A₂)) ++ (c ∷ B)) ((P₁ ++ (w ∷ P₂)) ++ (u ∷ Q))
        ↔ Agrees N rep' ((A₁ ++ (c ∷ A₂)) ++ B) ((P₁ ++ (w ∷ P₂)) ++ Q)
    agree-again F m = (
      λ a. let s = a.solves in
          let p = (cut (P₁ ++ (w ∷ P₂)) (c ∷ B) (u ∷ Q) s.good whole).0 a.same in
          let q = (cut-var c B u Q s.good h).0 p.1 in
          record { by = a.by; solves = merged f m s (sym (met s.good p.0) ∙ q.0); same = (cut (P₁ ++ (w ∷ P₂)) B Q s.good whole).1 (p.0, q.1) },
      λ a. let r = unmerged f F m a.solves in
          let s = r.0 in
          let p = (cut (P₁ ++ (w ∷ P₂)) B Q s.good whole).0 a.same in
          record {
            by = a.by;
            solves = s;
            same = (cut (P₁ ++ (w ∷ P₂)) (c ∷ B) (u ∷ Q) s.good whole).1
                (p.0, (cut-var c B u Q s.good h).1 (met s.good p.0 ∙ r.1, p.1));
          },
    )

    -- what agrees makes the two nodes equal
    pub agree-met : Agrees N rep ((A₁ ++ (c ∷ A₂)) ++ (c ∷ B)) ((P₁ ++ (w ∷ P₂)) ++ (u ∷ Q)) → (τ : ℕ → List ℕ) × Solves N rep τ × (val N τ w ≡ val N τ u)
    agree-met a =
        let s = a.solves in
        let p = (cut (P₁ ++ (w ∷ P₂)) (c ∷ B) (u ∷ Q) s.good whole).0 a.same in
        (a.by, s, sym (met s.good p.0) ∙ ((cut-var c B u Q s.good h).0 p.1).0)
