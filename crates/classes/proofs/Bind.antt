-- A symbol of the row against a node without one: the node gets the symbol over new nodes.
use Prim.Native.Nat.{ℕ, ◌^◌, ◌<◌}
use mathlib.Core.Path.{◌≡◌, refl, sym, ◌∙◌, ap, ap₂}
use mathlib.Core.Logic.{◌≢◌, ◌↔◌, by_cases, ⊎_elim}
use mathlib.Core.Bool.{true, false}
use mathlib.Core.List.Memᴰ
use mathlib.Core.List.{List, [], ◌∷◌, ◌++◌, head-eq_of_cons-eq, tail-eq_of_cons-eq, Memᴰ}
use native.Mathlib.Nat.{add-zero}
use native.Mathlib.Decide.{ℕ_discrete}
use native.Mathlib.Omega.{arith}
use lib.ListN.{length}
use Rattle.cell.specs.Cell.{arity, is_var}
use Rattle.term.specs.Terms.{Terms}
use Rattle.term.specs.Unify.{inst}
use Rattle.term.proofs.TermsLaws.{one_cell}
use Rattle.term.proofs.Inst.{inst-++, inst-agree, Terms-inst}
use Rattle.term.proofs.Step.{inst-symbol, Spread, spread}
use Rattle.classes.specs.code.Nodes.{Nodes, owns, at, Solves, Fair}
use Rattle.classes.specs.code.Agrees.{Agrees, Binds, New}
use Rattle.classes.proofs.Joined.{val, vals}
use Rattle.classes.proofs.Agree.{owns-++, cut, one}

-- what the nodes stand for stays
pub owns-bound : {N N' : Nodes} {v c : ℕ} {ws : List ℕ} → Binds N N' v c ws → (rs : List ℕ) → owns N' rs ≡ owns N rs
unfolding owns
owns-bound b [] = refl
owns-bound b (r ∷ rs) = ap₂ ◌++◌ (b.own_same r) (owns-bound b rs)

module _ {N N' : Nodes} (f : Fair N) (rep : List ℕ) {v c : ℕ} {ws : List ℕ} (b : Binds N N' v c ws) (n : New N rep ws) (hc : is_var c ≡ false)
    (hl : length ws ≡ arity c) (hz : N.head v ≡ 0)
    (nv : ¬ Memᴰ v ws) where
  -- what solves the nodes with the binding solves them without it
  solves-less : {τ : ℕ → List ℕ} → Solves N' rep τ → Solves N rep τ × (val N τ v ≡ c ∷ vals N τ ws)
  solves-less {τ} s = (
    record {
      good = s.good;
      classes = λ r. rw (b.own_same r, b.own_same (at rep r)) at (s.classes r);
      heads = λ r nz.
          let d : r ≢ v = λ e. nz (ap N.head e ∙ hz) in
          let nz' : N'.head r ≢ 0 = λ e. nz (sym (b.head-other r d) ∙ e) in
          let h = s.heads r nz' in
          ap (inst τ) (sym (b.own_same r)) ∙ h ∙ ap₂ (λ (x : ℕ) (l : List ℕ). x ∷ inst τ l) (b.head-other r d) (owns-bound b (N'.kids r)
          ∙ ap (owns N) (b.kids-other r d));
    },
    here,
  )
    where
      here : val N τ v ≡ c ∷ vals N τ ws
      here = by_cases (ℕ_discrete c 0)
          (λ z. absurd (no_zero z))
          (λ z. let nz : N'.head v ≢ 0 = λ e. z (sym b.head-here ∙ e) in
          ap (inst τ) (sym (b.own_same v)) ∙ s.heads v nz
          ∙ ap₂ (λ (x : ℕ) (l : List ℕ). x ∷ inst τ l) b.head-here (owns-bound b (N'.kids v) ∙ ap (owns N) b.kids-here))
        where
          no_zero : c ≡ 0 → ⊥
          no_zero z = mathlib.Core.Bool.true≢false (sym (Rattle.cell.proofs.CellLaws.var-small c (let q : c < 2 ^ 30 = omega arith in q)) ∙ hc)

  module _ {τ : ℕ → List ℕ} (s : Solves N rep τ) (us : List ℕ) (e : val N τ v ≡ c ∷ us) (t : Terms (arity c) us) where
    new : Spread τ n.cells us
    new = spread us s.good n.fresh (rw hl t)

    off : (r : ℕ) → ¬ Memᴰ r ws → val N new.new r ≡ val N τ r
    off r m = inst-agree new.new τ (N.own r) (λ d q. new.keeps d (n.apart r m d q))

    offs : (rs : List ℕ) → ((r : ℕ) → Memᴰ r rs → ¬ Memᴰ r ws) → vals N new.new rs ≡ vals N τ rs
    unfolding owns inst
    offs [] h = refl
    offs (r ∷ rs) h =
        inst-++ new.new (N.own r) (owns N rs) ∙ ap₂ ◌++◌ (off r (h r (Memᴰ.head refl))) (offs rs (λ q m. h q (Memᴰ.tail m)))
        ∙ sym (inst-++ τ (N.own r) (owns N rs))

    of-new : vals N new.new ws ≡ us
    of-new = ap (inst new.new) n.are ∙ new.hits

    mem? : (r : ℕ) (xs : List ℕ) {P : Type 0} → (Memᴰ r xs → P) → (¬ Memᴰ r xs → P) → P
    mem? r [] y z = z (λ m. mathlib.Core.List.Memᴰ.not-nil m)
    mem? r (x ∷ xs) y z = by_cases (ℕ_discrete r x)
        (λ q. y (Memᴰ.head q))
        (λ d. mem? r xs (λ m. y (Memᴰ.tail m)) (λ m. z (λ o. ⊎_elim d m (mathlib.Core.List.Memᴰ.cases_cons o))))

    solves-more : Solves N' rep new.new
    solves-more = record {
      good = new.good;
      classes = λ r. rw (b.own_same r, b.own_same (at rep r)) (mem? r ws
          (λ m. ap (val N new.new) (sym (n.fixed r m)))
          (λ m. off r m ∙ s.classes r ∙ sym (off (at rep r) (λ q. m (n.selves r q).0))));
      heads = λ r nz. by_cases (ℕ_discrete r v)
          (λ q. rw (q, b.own_same v, b.head-here, b.kids-here, owns-bound b ws) (off v nv ∙ e ∙ ap (λ (l : List ℕ). c ∷ l) (sym of-new)))
          (λ d. let nz' : N.head r ≢ 0 = λ z. nz (b.head-other r d ∙ z) in
          rw (b.own_same r, b.head-other r d, b.kids-other r d, owns-bound b (N.kids r))
          (off r (λ m. nz' (n.bare r m)) ∙ s.heads r nz' ∙ ap (λ (l : List ℕ). N.head r ∷ l) (sym (offs (N.kids r) (λ q m. n.no-kid r nz' q m)))));
    }

  -- the law
  pub agree-bind : (A P : List ℕ) → Terms (length P) A → (B : List ℕ) (u : ℕ) (Q : List ℕ) → at rep u ≡ v
      → ((r : ℕ) → Memᴰ r P → ¬ Memᴰ r ws) → ((r : ℕ) → Memᴰ r Q → ¬ Memᴰ r ws)
      → ((d : ℕ) → Memᴰ d (A ++ B) → ¬ Memᴰ d n.cells)
      → Agrees N rep (A ++ (c ∷ B)) (P ++ (u ∷ Q)) ↔ Agrees N' rep (A ++ B) (P ++ (ws ++ Q))
  agree-bind A P t B u Q hu n_p n_q nx = (
    λ a. let s = a.solves in
        let τ = a.by in
        let p = (cut f P (c ∷ B) (u ∷ Q) s.good t).0 a.same in
        let o = one_cell (Terms-inst s.good (f.term v)) in
        let vu : val N τ u ≡ val N τ v = s.classes u ∙ ap (val N τ) hu in
        let q : c ∷ inst τ B ≡ o.0 ∷ (o.1 ++ vals N τ Q) =
        sym (inst-symbol c B s.good hc) ∙ p.1 ∙ one f τ u Q ∙ ap (λ (l : List ℕ). l ++ vals N τ Q) (vu ∙ o.2) in
        let cd = head-eq_of_cons-eq q in
        let e : val N τ v ≡ c ∷ o.1 = o.2 ∙ ap (λ (x : ℕ). x ∷ o.1) (sym cd) in
        let tu : Terms (arity c) o.1 = rw (cd, ← add-zero (arity o.0)) o.3 in
        let σ = new s o.1 e tu in
        let on : (xs : List ℕ) → ((d : ℕ) → Memᴰ d xs → ¬ Memᴰ d n.cells) → inst σ.new xs ≡ inst τ xs =
        λ xs h. inst-agree σ.new τ xs (λ d m. σ.keeps d (h d m)) in
        let e_a : inst σ.new A ≡ vals N σ.new P = on A (λ d m. nx d (Memᴰ.append_left B m)) ∙ p.0 ∙ sym (offs s o.1 e tu P n_p) in
        let e_b : inst σ.new B ≡ vals N σ.new (ws ++ Q)
        = on B (λ d m. nx d (Memᴰ.append_right A m)) ∙ tail-eq_of_cons-eq q ∙ ap₂ ◌++◌ (sym (of-new s o.1 e tu)) (sym (offs s o.1 e tu Q n_q))
        ∙ sym (two σ.new) in
        record {
          by = σ.new;
          solves = solves-more s o.1 e tu;
          same = (cut f P B (ws ++ Q) σ.good t).1 (e_a, e_b) ∙ ap (inst σ.new) (sym (owns-bound b (P ++ (ws ++ Q))));
        },
    λ a. let τ = a.by in
        let r = solves-less a.solves in
        let s = r.0 in
        let p = (cut f P B (ws ++ Q) s.good t).0 (a.same ∙ ap (inst τ) (owns-bound b (P ++ (ws ++ Q)))) in
        record {
          by = τ;
          solves = s;
          same = (cut f P (c ∷ B) (u ∷ Q) s.good t).1 (
            p.0,
            inst-symbol c B s.good hc ∙ ap (λ (l : List ℕ). c ∷ l) (p.1 ∙ two τ)
                ∙ ap (λ (l : List ℕ). l ++ vals N τ Q) (sym r.1 ∙ ap (val N τ) (sym hu) ∙ sym (s.classes u)) ∙ sym (one f τ u Q),
          );
        },
  )
    where
      two : (τ : ℕ → List ℕ) → vals N τ (ws ++ Q) ≡ vals N τ ws ++ vals N τ Q
      two τ = ap (inst τ) (owns-++ N ws Q) ∙ inst-++ τ (owns N ws) (owns N Q)
