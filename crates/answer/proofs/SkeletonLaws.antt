-- What is decided above a branch: filling its holes, deciding one of them, and what is left of the goal under it.
use Prim.Native.Nat.{ℕ, zero, suc, ◌+◌, ◌-◌, ◌^◌, ◌≤◌, ◌<◌}
use mathlib.Core.Path.{◌≡◌, refl, sym, ◌∙◌, ap, ap₂, subst}
use mathlib.Core.Logic.Iff
use mathlib.Core.Logic.{◌≢◌, ◌↔◌, ◌⊎◌, inl, inr}
use mathlib.Core.Bool.{true, false, cond}
use mathlib.Core.List.{List, [], ◌∷◌, ◌++◌, append_assoc, append-nil, Memᴰ}
use native.Mathlib.Numerals.{one-add}
use native.Mathlib.Omega.{arith}
use lib.Dec.{eqb}
use lib.ListN.{replicate}
use borrow.Author.Tests.{eqb-true, eqb-false, ne_eqb}
use Rattle.cell.specs.Cell.{arity, is_var}
use Rattle.cell.proofs.CellLaws.{small-var}
use Rattle.term.specs.Terms.{Terms, more, front, back}
use Rattle.term.specs.Unify.{Unifies}
use Rattle.term.proofs.Tests.{bool_cases, eqb_same}
use Rattle.term.proofs.TermsLaws.{Terms-++, zero-nil, front-back, front-terms, back-terms, front-++, back-++}
use Rattle.term.proofs.Inst.{inst-agree, inst-id, Subst-id, Terms-symbol}
use Rattle.term.specs.Bind.{id_s}
use Rattle.term.specs.code.Fresh.{Fresh}
use Rattle.term.proofs.Step.{spread, Terms-fresh, fresh-var}
use Rattle.table.specs.Table.{count, up_from}
use Rattle.answer.specs.Skeleton.{hole, fill, decide}
use Rattle.answer.specs.code.After.{Left, stuck, left, after}
use Rattle.answer.proofs.CountLaws.{count_same, count-other, count-++, count-mem, mem-count, no-count, Linear, up_mem, up-distinct}
use Rattle.answer.specs.code.Loose.{RowLike, GoalLike}
use Rattle.answer.proofs.AfterLaws.{after-correct, Met, met, unmet, RowAt}

data Hole? : ℕ → Type 0 where
  a-hole : Hole? hole
  a-cell : {c : ℕ} → c ≢ hole → Hole? c

hole? : (c : ℕ) → Hole? c
hole? c = go (bool_cases (eqb c hole))
  where
    go : (eqb c hole ≡ true) ⊎ (eqb c hole ≡ false) → Hole? c
    go (inl e) = rw (eqb-true c hole e) a-hole
    go (inr e) = a-cell (eqb-false c hole e)

pub fill-hole : (K X : List ℕ) → fill (hole ∷ K) X ≡ front 1 X ++ fill K (back 1 X)
unfolding fill
fill-hole K X = rw (eqb_same hole)

pub fill-cell : (c : ℕ) (K X : List ℕ) → c ≢ hole → fill (c ∷ K) X ≡ c ∷ fill K X
unfolding fill
fill-cell c K X h = rw (ne_eqb c hole h)

-- a hole filled, as terms
pub first-hole : (K X : List ℕ) → Terms (count hole (hole ∷ K)) X → Terms 1 (front 1 X) × Terms (count hole K) (back 1 X)
first-hole K X t =
    let u : Terms (1 + count hole K) X = rw (one-add, ← count_same hole K) t in
    (front-terms 1 (count hole K) X u, back-terms 1 (count hole K) X u)

-- what a filled list holds
pub count-fill : (v : ℕ) (K X : List ℕ) → v ≢ hole → Terms (count hole K) X → count v (fill K X) ≡ count v K + count v X
unfolding fill count
count-fill v [] X h t = rw (zero-nil t) (omega arith)
count-fill v (c ∷ K) X h t = go (hole? c) (count-fill v K X h) (count-fill v K (back 1 X) h) t
  where
    go : {c : ℕ} → Hole? c → (Terms (count hole K) X → count v (fill K X) ≡ count v K + count v X)
        → (Terms (count hole K) (back 1 X) → count v (fill K (back 1 X)) ≡ count v K + count v (back 1 X))
        → Terms (count hole (c ∷ K)) X → count v (fill (c ∷ K) X) ≡ count v (c ∷ K) + count v X
    go a-hole f g u =
        let e = g (first-hole K X u).1 in
        let s : count v X ≡ count v (front 1 X) + count v (back 1 X) = ap (count v) (sym (front-back 1 X)) ∙ count-++ v (front 1 X) (back 1 X) in
        rw (fill-hole K X, count-other v hole K h, count-++ v (front 1 X) (fill K (back 1 X))) (omega arith)
    go (a-cell {c} n) f g u =
        let e = f (rw (count-other hole c K (λ p. n (sym p))) at u) in
        rw (fill-cell c K X n) (omega arith)

-- a first term
data First (k : ℕ) : List ℕ → Type 0 where
  first : {f b : List ℕ} → Terms 1 f → Terms k b → First k (f ++ b)

first_of : {k : ℕ} {X : List ℕ} → Terms (suc k) X → First k X
first_of {k} {X} t =
    let u : Terms (1 + k) X = rw one-add t in
    subst (λ (l : List ℕ). First k l) (front-back 1 X) (first (front-terms 1 k X u) (back-terms 1 k X u))

pub fill-term : (K : List ℕ) {f : List ℕ} (Z : List ℕ) → Terms 1 f → fill (hole ∷ K) (f ++ Z) ≡ f ++ fill K Z
fill-term K Z t = rw (fill-hole, front-++ Z t, back-++ Z t)

fill-holes : (K : List ℕ) (a : ℕ) {X : List ℕ} (Y : List ℕ) → Terms a X → fill (replicate a hole ++ K) (X ++ Y) ≡ X ++ fill K Y
fill-holes K zero Y t = rw (zero-nil t)
fill-holes K (suc a) {X} Y t = go (first_of t) (λ (b : List ℕ). fill-holes K a {X = b} Y)
  where
    go : {X : List ℕ} → First a X → ((b : List ℕ) → Terms a b → fill (replicate a hole ++ K) (b ++ Y) ≡ b ++ fill K Y)
        → fill (hole ∷ (replicate a hole ++ K)) (X ++ Y) ≡ X ++ fill K Y
    go (first {f} {b} u w) ih = rw (append_assoc f b Y, fill-term (replicate a hole ++ K) (b ++ Y) u, ih b w, append_assoc f b (fill K Y))

decide-here : (c : ℕ) (K : List ℕ) → decide 0 c (hole ∷ K) ≡ c ∷ (replicate (arity c) hole ++ K)
unfolding decide
decide-here c K = rw (eqb_same hole)

decide-later : (j c : ℕ) (K : List ℕ) → decide (suc j) c (hole ∷ K) ≡ hole ∷ decide j c K
unfolding decide
decide-later j c K = rw (eqb_same hole)

decide-cell : (i c d : ℕ) (K : List ℕ) → d ≢ hole → decide i c (d ∷ K) ≡ d ∷ decide i c K
unfolding decide
decide-cell zero c d K h = rw (ne_eqb d hole h)
decide-cell (suc j) c d K h = rw (ne_eqb d hole h)

pub fill-decide : (i c : ℕ) (K : List ℕ) {A args : List ℕ} (B : List ℕ) → c ≢ hole → Terms i A → Terms (arity c) args
    → fill (decide i c K) (A ++ (args ++ B)) ≡ fill K (A ++ (c ∷ (args ++ B)))
unfolding decide fill
fill-decide i c [] B h a r = refl
fill-decide i c (d ∷ K) {A} {args} B h a r = go i A (hole? d) a (λ (j : ℕ) (A : List ℕ). fill-decide j c K {A = A} {args = args} B h)
  where
    later : (j : ℕ) {A : List ℕ} → First j A → ((j : ℕ) (A : List ℕ) → Terms j A → Terms (arity c) args
        → fill (decide j c K) (A ++ (args ++ B)) ≡ fill K (A ++ (c ∷ (args ++ B))))
        → fill (decide (suc j) c (hole ∷ K)) (A ++ (args ++ B)) ≡ fill (hole ∷ K) (A ++ (c ∷ (args ++ B)))
    later j (first {f} {b} u w) ih =
        rw (
          decide-later j c K,
          append_assoc f b (args ++ B),
          append_assoc f b (c ∷ (args ++ B)),
          fill-term (decide j c K) (b ++ (args ++ B)) u,
          fill-term K (b ++ (c ∷ (args ++ B))) u,
          ih j b w r,
        )

    go : (i : ℕ) (A : List ℕ) {d : ℕ} → Hole? d → Terms i A
        → ((j : ℕ) (A : List ℕ) → Terms j A → Terms (arity c) args → fill (decide j c K) (A ++ (args ++ B)) ≡ fill K (A ++ (c ∷ (args ++ B))))
        → fill (decide i c (d ∷ K)) (A ++ (args ++ B)) ≡ fill (d ∷ K) (A ++ (c ∷ (args ++ B)))
    go zero A a-hole a ih =
        rw (zero-nil a, decide-here c K, fill-cell c (replicate (arity c) hole ++ K) (args ++ B) h, fill-holes K (arity c) B r)
        (sym (fill-term K B (Terms-symbol c r)))
    go (suc j) A a-hole a ih = later j (first_of a) ih
    go i A (a-cell {c = d} n) a ih =
        rw (decide-cell i c d K n, fill-cell d (decide i c K) (A ++ (args ++ B)) n, fill-cell d K (A ++ (c ∷ (args ++ B))) n, ih i A a r)

count-holes : (a : ℕ) (K : List ℕ) → count hole (replicate a hole ++ K) ≡ a + count hole K
count-holes zero K = omega arith
count-holes (suc a) K = let h = count-holes a K in count_same hole (replicate a hole ++ K) ∙ omega arith

pub decide-count : (i c : ℕ) (K : List ℕ) → c ≢ hole → i < count hole K → suc (count hole (decide i c K)) ≡ arity c + count hole K
unfolding count
decide-count i c [] h l = absurd (let z : ⊥ = omega arith in z)
decide-count i c (d ∷ K) h l = go i (hole? d) (λ (j : ℕ). decide-count j c K h) l
  where
    go : (i : ℕ) {d : ℕ} → Hole? d → ((j : ℕ) → j < count hole K → suc (count hole (decide j c K)) ≡ arity c + count hole K)
        → i < count hole (d ∷ K) → suc (count hole (decide i c (d ∷ K))) ≡ arity c + count hole (d ∷ K)
    go zero a-hole ih l =
        rw (decide-here c K, count-other hole c (replicate (arity c) hole ++ K) (λ p. h (sym p)), count-holes (arity c) K, count_same hole K)
        (omega arith)
    go (suc j) a-hole ih l =
        let e = count_same hole K in
        let r = ih j (omega arith) in
        rw (decide-later j c K, count_same hole (decide j c K)) (omega arith)
    go i (a-cell {c = d} n) ih l =
        let n' : hole ≢ d = λ p. n (sym p) in
        let e = count-other hole d K n' in
        let r = ih i (omega arith) in
        rw (decide-cell i c d K n, count-other hole d (decide i c K) n') (omega arith)

pub var-no-hole : (v : ℕ) → is_var v ≡ true → v ≢ hole
unfolding hole
var-no-hole v h e = let l = small-var v h in omega arith

-- every variable that is decided stands there once
pub record Settled (K X : List ℕ) : Type 0 where
  pub once : (v : ℕ) → is_var v ≡ true → 1 ≤ count v K → count v (fill K X) ≤ 1

pub settled-linear : {K X : List ℕ} → Linear (fill K X) → Settled K X
settled-linear l = record { once = λ v h n. l.once v h }

row_at : (c : ℕ) {A B : List ℕ} → RowLike (A ++ (c ∷ B)) → (is_var c ≡ true → count c (A ++ (c ∷ B)) ≤ 1) → RowAt c A B
unfolding count
row_at c {A} {B} r l = record {
  row = r;
  once = λ hc m. let h = l hc in let e = count-++ c A (c ∷ B) in let e' = count-++ c A B in let q = count-mem c m in
      let o : ◌≡◌ {A = ℕ} (cond (eqb c c) 1 0) 1 = rw (eqb_same c) in omega arith;
}

pub part-row : (K X : List ℕ) → Terms (count hole K) X → RowLike (fill K X) → RowLike X
part-row K X t r =
    record {
      low = λ c m v. r.low c (mem-count c (fill K X) (let e = count-fill c K X (var-no-hole c v) t in let o = count-mem c m in omega arith)) v;
    }

-- what is left of the goal G under the skeleton K
pub record Holds (n : ℕ) (G K R : List ℕ) : Type 0 where
  pub terms : Terms (count hole K) R
  pub goal : GoalLike n R
  pub same : (X : List ℕ) → Terms (count hole K) X → RowLike (fill K X) → Settled K X → Unifies (fill K X) G ↔ Unifies X R

pub fill-all : (w : ℕ) {X : List ℕ} → Terms w X → fill (replicate w hole) X ≡ X
unfolding fill
fill-all w {X} t = ap₂ fill (sym (append-nil (replicate w hole))) (sym (append-nil X)) ∙ fill-holes [] w [] t ∙ append-nil X

pub count-all : (w : ℕ) → count hole (replicate w hole) ≡ w
unfolding count
count-all w = ap (count hole) (sym (append-nil (replicate w hole))) ∙ count-holes w [] ∙ omega arith

pub start : {n w : ℕ} {G : List ℕ} → Terms w G → GoalLike n G → Holds n G (replicate w hole) G
start {n} {w} {G} t g = record {
  terms = rw (count-all w) t;
  goal = g;
  same = λ X u r l. rw (fill-all w (rw (count-all w) at u)) (λ x. x, λ x. x);
}

-- i terms, then a, then k
pub data Three (i a k : ℕ) : List ℕ → Type 0 where
  three : {A args B : List ℕ} → Terms i A → Terms a args → Terms k B → Three i a k (A ++ (args ++ B))

pub three-of : (i a k : ℕ) {X : List ℕ} → Terms (i + (a + k)) X → Three i a k X
three-of i a k {X} t =
    let b = back-terms i (a + k) X t in
    subst (λ (l : List ℕ). Three i a k l) (front-back i X)
    (subst (λ (l : List ℕ). Three i a k (front i X ++ l)) (front-back a (back i X))
    (three (front-terms i (a + k) X t) (front-terms a k (back i X) b) (back-terms a k (back i X) b)))

pub data Decided (n i c : ℕ) (G K : List ℕ) : Left → Type 0 where
  goes : {R : List ℕ} → Holds (n + arity c) G (decide i c K) R → Decided n i c G K (left R)
  ends : ((X : List ℕ) → Terms (count hole (decide i c K)) X → RowLike (fill (decide i c K) X) → Settled (decide i c K) X → ¬ Unifies (fill (decide i c K) X) G)
      → Decided n i c G K stuck

-- one row under the skeleton before and after the decision
module _ (i c j : ℕ) (K : List ℕ) (h : c ≢ hole) (e : count hole K ≡ i + suc j) where
  -- a variable is decided once more where it is c
  pub decided : (v : ℕ) → is_var v ≡ true → {A args B : List ℕ} → Terms i A → Terms (arity c) args → Terms j B
      → (count v (decide i c K) ≡ cond (eqb v c) 1 0 + count v K)
      × (count v (fill K (A ++ (c ∷ (args ++ B)))) ≡ count v K + (cond (eqb v c) 1 0 + count v (A ++ (args ++ B))))
  unfolding count
  decided v hv {A} {args} {B} ta tg tb =
      let f = fill-decide i c K B h ta tg in
      let z : count hole (decide i c K) ≡ i + (arity c + j) = (let q = decide-count i c K h (omega arith) in omega arith) in
      let a = count-fill v (decide i c K) (A ++ (args ++ B)) (var-no-hole v hv) (rw z (Terms-++ ta (Terms-++ tg tb))) in
      let b = count-fill v K (A ++ (c ∷ (args ++ B))) (var-no-hole v hv) (rw e (Terms-++ ta (more (Terms-++ tg tb)))) in
      let x = count-++ v A (args ++ B) in
      let y = count-++ v A (c ∷ (args ++ B)) in
      let g = ap (count v) f in
      (omega arith, omega arith)

  pub one-row : {X : List ℕ} → Three i (arity c) j X → RowLike (fill (decide i c K) X) → Settled (decide i c K) X
      → (Y : List ℕ) × (fill (decide i c K) X ≡ fill K Y) × Terms (count hole K) Y × RowLike (fill K Y) × Settled K Y
      × ((P : List ℕ → List ℕ → Type 0) → ((A B : List ℕ) → RowAt c A B → Terms i A → P (A ++ (c ∷ B)) (A ++ B)) → P Y X)
  unfolding count
  one-row (three {A} {args} {B} ta tg tb) r l =
      let f = fill-decide i c K B h ta tg in
      let t : Terms (count hole K) (A ++ (c ∷ (args ++ B))) = rw e (Terms-++ ta (more (Terms-++ tg tb))) in
      let r' = rw f at r in
      let l' : Settled K (A ++ (c ∷ (args ++ B))) =
      record { once = λ v hv n. let d = decided v hv ta tg tb in rw (← f) (l.once v hv (omega (arith, d.0))) } in
      let once-c : is_var c ≡ true → count c (A ++ (c ∷ (args ++ B))) ≤ 1 = λ hc.
      let d = decided c hc ta tg tb in
      let o : ◌≡◌ {A = ℕ} (cond (eqb c c) 1 0) 1 = rw (eqb_same c) in
      let u : count c (fill K (A ++ (c ∷ (args ++ B)))) ≤ 1 = rw (← f) (l.once c hc (omega (arith, d.0, o))) in
      let y = count-++ c A (c ∷ (args ++ B)) in
      let x = count-++ c A (args ++ B) in
      omega (arith, d.1, o, u, x, y) in
      (A ++ (c ∷ (args ++ B)), f, t, r', l', λ P k. k A (args ++ B) (row_at c (part-row K _ t r') once-c) ta)

pub step : {n : ℕ} {G K R : List ℕ} (i c : ℕ) → Holds n G K R → i < count hole K → c ≢ hole → 2 ^ 16 ≤ n → n + arity c ≤ 2 ^ 30
    → Decided n i c G K (after n i c R)
step {n} {G} {K} {R} i c H l h low high = go (after-correct n i c j R (rw e at H.terms) H.goal low high)
  where
    j : ℕ
    j = count hole K - suc i

    e : count hole K ≡ i + suc (count hole K - suc i)
    e = omega arith

    e' : count hole (decide i c K) ≡ i + (arity c + j)
    e' = let d = decide-count i c K h l in omega arith

    go : {x : Left} → Met n i c j R x → Decided n i c G K x
    go (met {R'} f t g) = goes {R = R'} (record {
      terms = rw e' t;
      goal = g;
      same = λ X u r s.
          let o = one-row i c j K h e (three-of i (arity c) j (rw e' at u)) r s in
          rw o.1 (Iff.trans (H.same o.0 o.2 o.3 o.4) (o.5 (λ Y X. Unifies Y R ↔ Unifies X R') f));
    })
    go (unmet f) = ends (λ X u r s q.
        let o = one-row i c j K h e (three-of i (arity c) j (rw e' at u)) r s in
        o.5 (λ Y X. ¬ Unifies Y R) f ((H.same o.0 o.2 o.3 o.4).0 (rw o.1 at q)))

-- distinct variables unify with any terms that do not hold them
pub vars-unify : {k : ℕ} {ws R : List ℕ} → Fresh k ws → Terms k R → ((c : ℕ) → Memᴰ c R → ¬ Memᴰ c ws) → Unifies ws R
vars-unify {ws = ws} {R = R} f t apart =
    let s = spread R Subst-id f t in
    let off : (c : ℕ) → Memᴰ c R → s.new c ≡ id_s c = λ c m. s.keeps c (apart c m) in
    record { by = s.new; good = s.good; same = s.hits ∙ sym (inst-agree s.new id_s R off ∙ inst-id R) }

-- so those at the open places unify with whatever is left
open-unifies : {n k : ℕ} {ws R : List ℕ} → Fresh k ws → RowLike ws → Terms k R → GoalLike n R → Unifies ws R
open-unifies f r t g = vars-unify f t (λ c m q. let v = fresh-var f c q in let x = g.range c m v in let y = r.low c q v in omega arith)

-- a skeleton with a variable of its own at each open place
pub record Opened (m : ℕ) (K : List ℕ) : Type 0 where
  pub terms : Terms (count hole K) (up_from m (count hole K))
  pub row : RowLike (fill K (up_from m (count hole K)))
  pub lin : Settled K (up_from m (count hole K))

pub opened-row : {K : List ℕ} (m : ℕ) → Linear K → ((c : ℕ) → Memᴰ c K → is_var c ≡ true → c < m) → m + count hole K ≤ 2 ^ 16 → Opened m K
opened-row {K} m l b h = record { terms = t; row = row; lin = lin }
  where
    X : List ℕ
    X = up_from m (count hole K)

    f : Fresh (count hole K) X
    f = up-distinct m (count hole K) (omega arith)

    t : Terms (count hole K) X
    t = Terms-fresh f

    low : RowLike X
    low = record { low = λ c q v. let r = up_mem m (count hole K) c q in omega arith }

    row : RowLike (fill K X)
    row = record { low = λ c q v. let e = count-fill c K X (var-no-hole c v) t in let o = count-mem c q in cases c v (count c K) refl (omega arith) }
      where
        cases : (c : ℕ) → is_var c ≡ true → (k : ℕ) → count c K ≡ k → 1 ≤ count c K + count c X → c < 2 ^ 16
        cases c v zero e o = low.low c (mem-count c X (omega arith)) v
        cases c v (suc k) e o = let p = b c (mem-count c K (omega arith)) v in omega arith

    lin : Settled K X
    lin = record {
      once = λ v hv n.
          let e = count-fill v K X (var-no-hole v hv) t in
          let o = l.once v hv in
          let p = b v (mem-count v K n) hv in
          let z = no-count v X (λ q. let r = up_mem m (count hole K) v q in omega arith) in
          omega arith;
    }

-- a branch is reached exactly when something is left: the goal then unifies with the skeleton, each open place a variable of its own
pub reached : {n : ℕ} {G K R : List ℕ} (m : ℕ) → Holds n G K R → Linear K → ((c : ℕ) → Memᴰ c K → is_var c ≡ true → c < m) → m + count hole K ≤ 2 ^ 16
    → Unifies (fill K (up_from m (count hole K))) G
reached {n} {G} {K} {R} m H l b h =
    let o = opened-row m l b h in
    (H.same (up_from m (count hole K)) o.terms o.row o.lin).1
    (open-unifies (up-distinct m (count hole K) (omega arith)) (record { low = λ c q v. let r = up_mem m (count hole K) c q in omega arith })
    H.terms H.goal)
