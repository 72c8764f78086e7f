-- A plan of one row as a chain of branches, and what the walk of it says of the plan.
use Prim.Native.Nat.{ℕ, suc, ◌+◌}
use mathlib.Core.Path.{◌≡◌, refl, sym, ◌∙◌, ap, subst, path_j, subst_refl}
use mathlib.Core.Bool.{Bool, true, false, cond}
use mathlib.Core.List.{List, [], ◌∷◌, ◌++◌, append-nil, head-eq_of_cons-eq, tail-eq_of_cons-eq}
use native.Mathlib.Omega.{arith}
use Rattle.cell.specs.Cell.{arity}
use Rattle.term.specs.Terms.{Terms, root, close}
use Rattle.term.specs.Unify.{Unifies}
use Rattle.term.specs.code.Unifiable.{unifiable}
use Rattle.term.proofs.Decide.{Decides, says-yes, says-no, unifiable-correct}
use Rattle.table.specs.All.{All}
use Rattle.plan.specs.Runs.{Run, run, runs}
use Rattle.plan.specs.Plans.{Plan, leaf, node, Branches, end, next}
use Rattle.answer.specs.Skeleton.{decide, opened}
use Rattle.answer.specs.Run.{Counts, zero_of, one_of, none_of, skeletons, skeletons_in}
use Rattle.answer.specs.code.Tree.{tried_on}
use Rattle.alone.specs.code.Alone.{Chain, at_place, skeletons_of, TriedOn, Gone, hit, miss}
use Rattle.alone.specs.code.Alone as alone

pub cell-is : (g : Run) (gs : List Run) (c : ℕ) (y : List ℕ) → g ∷ gs ≡ run c (y ∷ []) ∷ [] → (g.cell ≡ c) × (g.rows ≡ y ∷ []) × (gs ≡ [])
cell-is g gs c y e = let q = head-eq_of_cons-eq e in (ap (λ (r : Run). r.cell) q, ap (λ (r : Run). r.rows) q, tail-eq_of_cons-eq e)

unfoldable mutual
  pub chain-of : {k : ℕ} {rows : List (List ℕ)} (p : Plan k rows) (x : List ℕ) → rows ≡ x ∷ [] → Chain k x
  chain-of leaf x e = alone.end
  chain-of (node i h bs) x e = at_place i h (chain-in bs (root i x) (close i x) (ap (runs i) e))

  pub chain-in : {k : ℕ} {gs : List Run} (bs : Branches k gs) (c : ℕ) (y : List ℕ) → gs ≡ run c (y ∷ []) ∷ [] → Chain (arity c + k) y
  chain-in end c y e = let z : ◌≡◌ {A = ℕ} 0 1 = cc in absurd (let y : ⊥ = omega arith in y)
  chain-in (next {k} {g} {gs} p bs) c y e = let q = cell-is g gs c y e in subst (λ (d : ℕ). Chain (arity d + k) y) q.0 (chain-of p y q.1)

skeletons-subst : (k : ℕ) {c d : ℕ} {y : List ℕ} (e : c ≡ d) (q : Chain (arity c + k) y) (K : List ℕ)
    → skeletons_of (subst (λ (d : ℕ). Chain (arity d + k) y) e q) K ≡ skeletons_of q K
skeletons-subst k {c} {d} {y} e q K =
    path_j (λ (d : ℕ) (e : c ≡ d). skeletons_of (subst (λ (d : ℕ). Chain (arity d + k) y) e q) K ≡ skeletons_of q K)
    (ap (λ (r : Chain (arity c + k) y). skeletons_of r K) (subst_refl (λ (d : ℕ). Chain (arity d + k) y) q)) e

mutual
  unfolding skeletons skeletons_of chain-of

  -- the same branches, and the same is decided above them
  pub chain-skeletons : {k : ℕ} {rows : List (List ℕ)} (p : Plan k rows) (x : List ℕ) (e : rows ≡ x ∷ []) (K : List ℕ)
      → skeletons_of (chain-of p x e) K ≡ skeletons p K
  chain-skeletons leaf x e K = refl
  chain-skeletons (node i h bs) x e K = chain-skeletons_in bs (root i x) (close i x) (ap (runs i) e) i K

  chain-skeletons_in : {k : ℕ} {gs : List Run} (bs : Branches k gs) (c : ℕ) (y : List ℕ) (e : gs ≡ run c (y ∷ []) ∷ []) (i : ℕ) (K : List ℕ)
      → K ∷ skeletons_of (chain-in bs c y e) (decide i c K) ≡ skeletons_in bs i K
  chain-skeletons_in end c y e i K = let z : ◌≡◌ {A = ℕ} 0 1 = cc in absurd (let y : ⊥ = omega arith in y)
  chain-skeletons_in (next {k} {g} {gs} p bs) c y e i K =
      let q = cell-is g gs c y e in
      let n = none_in bs q.2 i K in
      let s = skeletons-subst k q.0 (chain-of p y q.1) (decide i c K) ∙ chain-skeletons p y q.1 (decide i c K) in
      ap (λ (l : List (List ℕ)). K ∷ l) (s ∙ ap (λ (d : ℕ). skeletons p (decide i d K)) (sym q.0)
      ∙ sym (append-nil (skeletons p (decide i g.cell K))) ∙ ap (λ (l : List (List ℕ)). skeletons p (decide i g.cell K) ++ l) (sym n))

  none_in : {k : ℕ} {gs : List Run} (bs : Branches k gs) → gs ≡ [] → (i : ℕ) (K : List ℕ) → skeletons_in bs i K ≡ []
  none_in end e i K = refl
  none_in (next p bs) e i K = let z : ◌≡◌ {A = ℕ} 0 1 = cc in absurd (let y : ⊥ = omega arith in y)

-- what the walk of a row counts and finds, as the tree has it
counts-on : {w : ℕ} (R : List ℕ) → Terms w R → (Ks : List (List ℕ)) → All (λ (K : List ℕ). Terms w (opened K)) Ks → (t : ℕ) → Counts (TriedOn R) Ks t
    → t ≡ tried_on R Ks
unfolding tried_on
counts-on R u [] a t zero_of = refl
counts-on R u (K ∷ Ks) a t c = go (unifiable-correct (opened K) R a.0 u) c (λ n d. counts-on R u Ks a.1 n d)
  where
    go : {b : Bool} {t : ℕ} → Decides (Unifies (opened K) R) b → Counts (TriedOn R) (K ∷ Ks) t
        → ((n : ℕ) → Counts (TriedOn R) Ks n → n ≡ tried_on R Ks) → t ≡ cond b (suc (tried_on R Ks)) (tried_on R Ks)
    go (says-yes p) (one_of {n = n} q d) ih = ap suc (ih n d)
    go (says-yes p) (none_of q d) ih = absurd (q p)
    go (says-no p) (one_of q d) ih = absurd (p q)
    go (says-no p) (none_of {n = n} q d) ih = ih n d

pub gone-is : {w t : ℕ} {R x : List ℕ} {Ks : List (List ℕ)} {b : Bool} → Terms w R → Terms w x → All (λ (K : List ℕ). Terms w (opened K)) Ks
    → Gone R x Ks t b → (t ≡ tried_on R Ks) × (b ≡ unifiable x R)
gone-is {t = t} {R} {x} {Ks} u v a (hit c p) = (counts-on R u Ks a t c, go (unifiable-correct x R v u))
  where
    go : {b : Bool} → Decides (Unifies x R) b → true ≡ b
    go (says-yes q) = refl
    go (says-no q) = absurd (q p)
gone-is {t = t} {R} {x} {Ks} u v a (miss c p) = (counts-on R u Ks a t c, go (unifiable-correct x R v u))
  where
    go : {b : Bool} → Decides (Unifies x R) b → false ≡ b
    go (says-yes q) = absurd (p q)
    go (says-no q) = refl
