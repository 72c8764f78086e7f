-- The elementary steps of a run: one open place of the row against one term of the goal.
use Prim.Native.Nat.{ℕ, ◌+◌}
use mathlib.Core.Path.{◌≡◌, refl, sym, ◌∙◌, ap, ap₂}
use mathlib.Core.Logic.{◌≢◌, ◌↔◌, ⊎_elim}
use mathlib.Core.Bool.{true, false}
use mathlib.Core.List.Memᴰ
use mathlib.Core.List.{List, [], ◌∷◌, ◌++◌, Memᴰ}
use mathlib.Core.List.{head-eq_of_cons-eq, tail-eq_of_cons-eq}
use native.Mathlib.Nat.{add-zero}
use Rattle.cell.specs.Cell.{arity, is_var}
use Rattle.term.specs.Terms.{Terms, none, more, front, back}
use Rattle.term.proofs.TermsLaws.{prefix, one_cell, zero-nil, front-back, front-terms, back-terms}
use native.Mathlib.Numerals.{one-add}
use Rattle.term.specs.Unify.{inst, Subst, Unifies}
use Rattle.term.proofs.Inst.{inst-++, inst-agree, then, inst-then, Terms-inst, Subst-then, bind-same, bind-other, Subst-bind, inst-bind}
use Rattle.term.proofs.Inst.{Terms-var, inst-var, more-var, absorb, unbound, Subst-id}
use Rattle.term.specs.Bind.{id_s, bind}
use Rattle.term.specs.code.Fresh.{Fresh, nil, cons, AbsentFrom}

mk : {xs ys : List ℕ} (σ : ℕ → List ℕ) → Subst σ → inst σ xs ≡ inst σ ys → Unifies xs ys
mk σ s e = record { by = σ; good = s; same = e }

-- what one substitution says of two lists that begin with k terms each
pub at_place : {σ : ℕ → List ℕ} {k : ℕ} {A A' : List ℕ} (X X' : List ℕ) → Subst σ → Terms k A → Terms k A'
    → (inst σ (A ++ X) ≡ inst σ (A' ++ X')) ↔ ((inst σ A ≡ inst σ A') × (inst σ X ≡ inst σ X'))
at_place {σ} {k} {A} {A'} X X' s t t' = (
  λ e. prefix (inst σ X) (inst σ X') (Terms-inst s t) (Terms-inst s t') (sym (inst-++ σ A X) ∙ e ∙ inst-++ σ A' X'),
  λ p. inst-++ σ A X ∙ ap₂ ◌++◌ p.0 p.1 ∙ sym (inst-++ σ A' X'),
)

pub inst-symbol : {σ : ℕ → List ℕ} (c : ℕ) (xs : List ℕ) → Subst σ → is_var c ≡ false → inst σ (c ∷ xs) ≡ c ∷ inst σ xs
unfolding inst
inst-symbol c xs s e = rw (s.symbols c e)

-- the same symbol
pub same-symbol : (c : ℕ) {i : ℕ} {A A' : List ℕ} (B D : List ℕ) → is_var c ≡ false → Terms i A → Terms i A'
    → Unifies (A ++ (c ∷ B)) (A' ++ (c ∷ D)) ↔ Unifies (A ++ B) (A' ++ D)
same-symbol c {i} {A} {A'} B D hc t t' = (
  λ u. let p = (at_place (c ∷ B) (c ∷ D) u.good t t').0 u.same in
      mk u.by u.good ((at_place B D u.good t t').1
      (p.0, tail-eq_of_cons-eq (sym (inst-symbol c B u.good hc) ∙ p.1 ∙ inst-symbol c D u.good hc))),
  λ u. let p = (at_place B D u.good t t').0 u.same in
      mk u.by u.good ((at_place (c ∷ B) (c ∷ D) u.good t t').1 (
        p.0,
        inst-symbol c B u.good hc ∙ ap (λ (l : List ℕ). c ∷ l) p.1
            ∙ sym (inst-symbol c D u.good hc),
      )),
)

-- two symbols
pub other-symbol : (c d : ℕ) {i : ℕ} {A A' : List ℕ} (B D : List ℕ) → is_var c ≡ false → is_var d ≡ false → c ≢ d → Terms i A → Terms i A'
    → ¬ Unifies (A ++ (c ∷ B)) (A' ++ (d ∷ D))
other-symbol c d B D hc hd h t t' u =
    let p = (at_place (c ∷ B) (d ∷ D) u.good t t').0 u.same in
    h (head-eq_of_cons-eq (sym (inst-symbol c B u.good hc) ∙ p.1 ∙ inst-symbol d D u.good hd))

-- the row's variable, which occurs nowhere else
pub row-variable : (c : ℕ) {i : ℕ} {A A' t : List ℕ} (B B' : List ℕ) → is_var c ≡ true → Terms i A → Terms i A' → Terms 1 t
    → ¬ Memᴰ c (A ++ B) → ¬ Memᴰ c (A' ++ (t ++ B'))
    → Unifies (A ++ (c ∷ B)) (A' ++ (t ++ B')) ↔ Unifies (A ++ B) (A' ++ B')
row-variable c {i} {A} {A'} {t} B B' hc a a' ht n n' = (
  λ u. let s = u.good in
      let p = (at_place (c ∷ B) (t ++ B') s a a').0 u.same in
      let q = (at_place B B' s (Terms-var hc) ht).0 p.1 in
      mk u.by s ((at_place B B' s a a').1 (p.0, q.1)),
  λ u. let σ = u.by in
      let s = Subst-bind c hc (Terms-inst u.good ht) u.good in
      let p = (at_place B B' u.good a a').0 u.same in
      let off : (xs : List ℕ) → ¬ Memᴰ c xs → inst (bind c (inst σ t) σ) xs ≡ inst σ xs = inst-bind c (inst σ t) σ in
      let n_a = off A (λ m. n (Memᴰ.append_left B m)) in
      let n_b = off B (λ m. n (Memᴰ.append_right A m)) in
      let nA' = off A' (λ m. n' (Memᴰ.append_left (t ++ B') m)) in
      let nt = off t (λ m. n' (Memᴰ.append_right A' (Memᴰ.append_left B' m))) in
      let nB' = off B' (λ m. n' (Memᴰ.append_right A' (Memᴰ.append_right t m))) in
      let here = inst-var (bind c (inst σ t) σ) c ∙ bind-same c (inst σ t) σ ∙ sym nt in
      mk (bind c (inst σ t) σ) s (
      (at_place (c ∷ B) (t ++ B') s a a').1
      (n_a ∙ p.0 ∙ sym nA', (at_place B B' s (Terms-var hc) ht).1 (here, n_b ∙ p.1 ∙ sym nB'))),
)

-- a variable eliminated, of either side
pub eliminate : (v : ℕ) {t : List ℕ} (xs ys : List ℕ) → is_var v ≡ true → Terms 1 t → ¬ Memᴰ v t
    → Unifies (v ∷ xs) (t ++ ys) ↔ Unifies (inst (bind v t id_s) xs) (inst (bind v t id_s) ys)
unfolding then
eliminate v {t} xs ys hv ht n = (
  λ u. let σ = u.by in
      let p = (at_place xs ys u.good (Terms-var hv) ht).0 u.same in
      let e = sym (inst-var σ v) ∙ p.0 in
      mk σ u.good (absorb σ v t xs e ∙ p.1 ∙ sym (absorb σ v t ys e)),
  λ u. let σ = u.by in
      let s = Subst-then (Subst-bind v hv ht Subst-id) u.good in
      let ρ = bind v t id_s in
      let here : inst (then ρ σ) (v ∷ []) ≡ inst (then ρ σ) t =
      inst-var (then ρ σ) v ∙ ap (inst σ) (bind-same v t id_s) ∙ sym (ap (inst σ) (unbound v t t n)) ∙ inst-then ρ σ t in
      mk (then ρ σ) s ((at_place xs ys s (Terms-var hv) ht).1 (here, sym (inst-then ρ σ xs) ∙ u.same ∙ inst-then ρ σ ys)),
)

-- distinct variables take any terms
pub record Spread (σ : ℕ → List ℕ) (ws us : List ℕ) : Type 0 where
  pub new : ℕ → List ℕ
  pub good : Subst new
  pub hits : inst new ws ≡ us
  pub keeps : (c : ℕ) → ¬ Memᴰ c ws → new c ≡ σ c

pub spread : {σ : ℕ → List ℕ} {k : ℕ} {ws : List ℕ} (us : List ℕ) → Subst σ → Fresh k ws → Terms k us → Spread σ ws us
unfolding inst
spread {σ} us s nil t = record { new = σ; good = s; hits = sym (zero-nil t); keeps = λ c m. refl }
spread {σ} us s (cons {w} {k} {ws} hw n f) t =
    let t₁ : Terms (1 + k) us = rw one-add t in
    let r = spread (back 1 us) s f (back-terms 1 k us t₁) in
    record {
      new = bind w (front 1 us) r.new;
      good = Subst-bind w hw (front-terms 1 k us t₁) r.good;
      hits = ap₂ ◌++◌ (bind-same w (front 1 us) r.new) (inst-bind w (front 1 us) r.new ws n ∙ r.hits) ∙ front-back 1 us;
      keeps = λ c m. bind-other w (front 1 us) r.new c (λ p. m (Memᴰ.head p)) ∙ r.keeps c (λ q. m (Memᴰ.tail q));
    }

pub Terms-fresh : {k : ℕ} {ws : List ℕ} → Fresh k ws → Terms k ws
Terms-fresh nil = none
Terms-fresh (cons {w} hw n f) = more-var w hw (Terms-fresh f)

pub fresh-var : {k : ℕ} {ws : List ℕ} → Fresh k ws → (c : ℕ) → Memᴰ c ws → is_var c ≡ true
fresh-var nil c m = absurd (Memᴰ.not-nil m)
fresh-var (cons {w} {k} {ws} h n f) c m = ⊎_elim (λ p. ap is_var p ∙ h) (fresh-var f c) (Memᴰ.cases_cons m)

-- a variable whose value meets a symbol
symbol-value : {σ : ℕ → List ℕ} (c v : ℕ) (B B' : List ℕ) → Subst σ → is_var c ≡ false → is_var v ≡ true → inst σ (c ∷ B) ≡ inst σ (v ∷ B')
    → (us : List ℕ) × (σ v ≡ c ∷ us) × Terms (arity c) us × (inst σ B ≡ us ++ inst σ B')
unfolding inst
symbol-value {σ} c v B B' s hc hv e =
    let o = one_cell (s.vars v hv) in
    let q : c ∷ inst σ B ≡ o.0 ∷ (o.1 ++ inst σ B') = sym (inst-symbol c B s hc) ∙ e ∙ ap (λ (l : List ℕ). l ++ inst σ B') o.2 in
    let cd = head-eq_of_cons-eq q in
    (o.1, rw cd o.2, rw cd (rw add-zero at o.3), tail-eq_of_cons-eq q)

-- a symbol against a variable of the goal
pub goal-variable : (c v : ℕ) {i : ℕ} {A A' ws : List ℕ} (B B' : List ℕ) → is_var c ≡ false → is_var v ≡ true → Terms i A → Terms i A' → Fresh (arity c) ws
    → ¬ Memᴰ v (A ++ B) → AbsentFrom ws (v ∷ A ++ B) → AbsentFrom ws (A' ++ B')
    → Unifies (A ++ (c ∷ B)) (A' ++ (v ∷ B')) ↔ Unifies (A ++ B) (inst (bind v (c ∷ ws) id_s) A' ++ (ws ++ inst (bind v (c ∷ ws) id_s) B'))
unfolding then inst
goal-variable c v {i} {A} {A'} {ws} B B' hc hv a a' f n d d' =
    let ρ : ℕ → List ℕ = bind v (c ∷ ws) id_s in
    let sρ : Subst ρ = Subst-bind v hv (more (rw add-zero (Terms-fresh f))) Subst-id in (
      λ u. let s = u.good in
          let p = (at_place (c ∷ B) (v ∷ B') s a a').0 u.same in
          let q = symbol-value c v B B' s hc hv p.1 in
          let r = spread q.0 s f q.2 in
          let off : (xs : List ℕ) → AbsentFrom ws xs → inst r.new xs ≡ inst u.by xs =
          λ xs h. inst-agree r.new u.by xs (λ x m. r.keeps x (λ w. h x w m)) in
          let e : r.new v ≡ inst r.new (c ∷ ws) = r.keeps v (λ w. d v w (Memᴰ.head refl)) ∙ q.1
          ∙ sym (inst-symbol c ws r.good hc ∙ ap (λ (l : List ℕ). c ∷ l) r.hits) in
          let n_a = off A (λ w h m. d w h (Memᴰ.tail (Memᴰ.append_left B m))) in
          let n_b = off B (λ w h m. d w h (Memᴰ.tail (Memᴰ.append_right A m))) in
          let nA' = absorb r.new v (c ∷ ws) A' e ∙ off A' (λ w h m. d' w h (Memᴰ.append_left B' m)) in
          let nB' = absorb r.new v (c ∷ ws) B' e ∙ off B' (λ w h m. d' w h (Memᴰ.append_right A' m)) in
          mk r.new r.good ((at_place B (ws ++ inst ρ B') r.good a (Terms-inst sρ a')).1
          (n_a ∙ p.0 ∙ sym nA', n_b ∙ q.3 ∙ sym (inst-++ r.new ws (inst ρ B') ∙ ap₂ ◌++◌ r.hits nB'))),
      λ u. let σ = u.by in
          let s = Subst-then sρ u.good in
          let p = (at_place B (ws ++ inst ρ B') u.good a (Terms-inst sρ a')).0 u.same in
          let row : (xs : List ℕ) → ¬ Memᴰ v xs → inst (then ρ σ) xs ≡ inst σ xs =
          λ xs h. sym (inst-then ρ σ xs) ∙ ap (inst σ) (unbound v (c ∷ ws) xs h) in
          let n_a = row A (λ m. n (Memᴰ.append_left B m)) in
          let n_b = row B (λ m. n (Memᴰ.append_right A m)) in
          let here : inst (then ρ σ) (v ∷ B') ≡ c ∷ inst σ (ws ++ inst ρ B') =
          sym (inst-then ρ σ (v ∷ B')) ∙ ap (λ (l : List ℕ). inst σ (l ++ inst ρ B')) (bind-same v (c ∷ ws) id_s)
          ∙ inst-symbol c (ws ++ inst ρ B') u.good hc in
          mk (then ρ σ) s ((at_place (c ∷ B) (v ∷ B') s a a').1
          (n_a ∙ p.0 ∙ inst-then ρ σ A', inst-symbol c B s hc ∙ ap (λ (l : List ℕ). c ∷ l) (n_b ∙ p.1) ∙ sym here)),
    )
