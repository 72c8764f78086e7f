-- What is decided with no variable in it: what its holes are filled with tells all, and its head's variables are the open places in order.
use Prim.Native.Nat.{ℕ, zero, suc, ◌+◌, ◌^◌, ◌≤◌}
use mathlib.Core.Path.{◌≡◌, refl, sym, ◌∙◌, ap, ap₂}
use mathlib.Core.Logic.{◌≢◌, ◌⊎◌, inl, inr, ⊎_elim}
use mathlib.Core.Bool.{Bool, true, false, cond, ◌&&◌}
use mathlib.Core.List.{List, [], ◌∷◌, ◌++◌, tail-eq_of_cons-eq, Memᴰ}
use native.Mathlib.Omega.{arith}
use lib.Dec.{eqb}
use lib.ListN.{length, replicate, length-append}
use borrow.Author.Tests.{eqb-true, eqb-false, eq-eqb}
use Rattle.cell.specs.Cell.{arity, is_var}
use Rattle.cell.proofs.CellLaws.{var-small}
use Rattle.term.specs.Terms.{Terms, front, back}
use Rattle.term.specs.Unify.{inst, Subst}
use Rattle.term.proofs.Tests.{bool_cases, cond-case}
use Rattle.term.proofs.TermsLaws.{front-back, front-++, back-++, prefix, zero-nil}
use Rattle.term.proofs.Inst.{inst-++, Terms-inst}
use Rattle.term.proofs.Step.{Terms-fresh, inst-symbol}
use Rattle.table.specs.All.{All}
use Rattle.table.proofs.AllLaws.{all-++}
use Rattle.table.specs.Table.{count, appear, up_from}
use Rattle.answer.specs.Skeleton.{hole, fill, decide}
use Rattle.answer.proofs.CountLaws.{up-distinct, count_same, count-other}
use Rattle.answer.proofs.SkeletonLaws.{fill-hole, fill-cell, var-no-hole, first-hole}
use Rattle.instance.specs.Reply.{Numbered}
use Rattle.clauses.specs.Clauses.{handed}
use Rattle.clauses.specs.Translate.{head_of}

-- no variable is decided in K
abbrev pub Solid : List ℕ → Type 0
Solid K = All (λ (c : ℕ). is_var c ≡ false) K

-- filled, it is w terms
abbrev pub Frame : ℕ → List ℕ → Type 0
Frame w K = (X : List ℕ) → Terms (count hole K) X → Terms w (fill K X)

pub data Hole? : ℕ → Type 0 where
  a-hole : Hole? hole
  a-cell : {c : ℕ} → c ≢ hole → Hole? c

pub hole? : (c : ℕ) → Hole? c
hole? c = go (bool_cases (eqb c hole))
  where
    go : (eqb c hole ≡ true) ⊎ (eqb c hole ≡ false) → Hole? c
    go (inl e) = rw (eqb-true c hole e) a-hole
    go (inr e) = a-cell (eqb-false c hole e)

pub no-hole : {c : ℕ} (K X : List ℕ) → c ≢ hole → Terms (count hole (c ∷ K)) X → Terms (count hole K) X
no-hole {c} K X n t = rw (count-other hole c K (λ p. n (sym p))) at t

-- a substitution works on what it is filled with
pub inst-fill : {τ : ℕ → List ℕ} (K X : List ℕ) → Subst τ → Solid K → Terms (count hole K) X → inst τ (fill K X) ≡ fill K (inst τ X)
unfolding fill inst
inst-fill [] X s a t = refl
inst-fill {τ} (c ∷ K) X s a t = go (hole? c) a.0 t (inst-fill K X s a.1) (inst-fill K (back 1 X) s a.1)
  where
    go : {c : ℕ} → Hole? c → is_var c ≡ false → Terms (count hole (c ∷ K)) X
        → (Terms (count hole K) X → inst τ (fill K X) ≡ fill K (inst τ X))
        → (Terms (count hole K) (back 1 X) → inst τ (fill K (back 1 X)) ≡ fill K (inst τ (back 1 X)))
        → inst τ (fill (c ∷ K) X) ≡ fill (c ∷ K) (inst τ X)
    go a-hole v u ih jh =
        let f = first-hole K X u in
        let x : inst τ X ≡ inst τ (front 1 X) ++ inst τ (back 1 X) = ap (inst τ) (sym (front-back 1 X)) ∙ inst-++ τ (front 1 X) (back 1 X) in
        let g = Terms-inst s f.0 in
        rw (fill-hole K X, fill-hole K (inst τ X), x, front-++ (inst τ (back 1 X)) g, back-++ (inst τ (back 1 X)) g)
        (inst-++ τ (front 1 X) (fill K (back 1 X)) ∙ ap (λ (l : List ℕ). inst τ (front 1 X) ++ l) (jh f.1))
    go (a-cell {c} n) v u ih jh =
        rw (fill-cell c K X n, fill-cell c K (inst τ X) n) (inst-symbol c (fill K X) s v ∙ ap (λ (l : List ℕ). c ∷ l) (ih (no-hole K X n u)))

-- and is told by the outcome
pub fill_one : (K X Y : List ℕ) → Terms (count hole K) X → Terms (count hole K) Y → fill K X ≡ fill K Y → X ≡ Y
unfolding fill count
fill_one [] X Y t u e = zero-nil t ∙ sym (zero-nil u)
fill_one (c ∷ K) X Y t u e = go (hole? c) t u e (fill_one K X Y) (fill_one K (back 1 X) (back 1 Y))
  where
    go : {c : ℕ} → Hole? c → Terms (count hole (c ∷ K)) X → Terms (count hole (c ∷ K)) Y → fill (c ∷ K) X ≡ fill (c ∷ K) Y
        → (Terms (count hole K) X → Terms (count hole K) Y → fill K X ≡ fill K Y → X ≡ Y)
        → (Terms (count hole K) (back 1 X) → Terms (count hole K) (back 1 Y) → fill K (back 1 X) ≡ fill K (back 1 Y) → back 1 X ≡ back 1 Y) → X ≡ Y
    go a-hole t u e ih jh =
        let f = first-hole K X t in
        let g = first-hole K Y u in
        let p = prefix (fill K (back 1 X)) (fill K (back 1 Y)) f.0 g.0 (sym (fill-hole K X) ∙ e ∙ fill-hole K Y) in
        sym (front-back 1 X) ∙ ap₂ ◌++◌ p.0 (jh f.1 g.1 p.1) ∙ front-back 1 Y
    go (a-cell {c} n) t u e ih jh =
        ih (no-hole K X n t) (no-hole K Y n u) (tail-eq_of_cons-eq (sym (fill-cell c K X n) ∙ e ∙ fill-cell c K Y n))

-- what a filled list of terms is
pub fill_none : (K : List ℕ) → count hole K ≡ 0 → fill K [] ≡ K
unfolding fill
fill_none [] e = refl
fill_none (c ∷ K) e = go (hole? c) e (fill_none K)
  where
    go : {c : ℕ} → Hole? c → count hole (c ∷ K) ≡ 0 → (count hole K ≡ 0 → fill K [] ≡ K) → fill (c ∷ K) [] ≡ c ∷ K
    go a-hole e ih = absurd (let z = count_same hole K in let y : ⊥ = omega arith in y)
    go (a-cell {c} n) e ih = fill-cell c K [] n ∙ ap (λ (l : List ℕ). c ∷ l) (ih (sym (count-other hole c K (λ p. n (sym p))) ∙ e))

pub hole-solid : is_var hole ≡ false
hole-solid = go (bool_cases (is_var hole))
  where
    go : (is_var hole ≡ true) ⊎ (is_var hole ≡ false) → is_var hole ≡ false
    go (inl e) = absurd (var-no-hole hole e refl)
    go (inr e) = e

pub blank-solid : (n : ℕ) → Solid (replicate n hole)
blank-solid zero = tt
blank-solid (suc n) = (hole-solid, blank-solid n)

pub solid-decide : (i c : ℕ) (K : List ℕ) → is_var c ≡ false → Solid K → Solid (decide i c K)
unfolding decide
solid-decide i c [] p a = tt
solid-decide zero c (d ∷ K) p a = cond-case (eqb d hole) Solid
    (λ e. (p, all-++ (λ (c : ℕ). is_var c ≡ false) (replicate (arity c) hole) K (blank-solid (arity c)) a.1)) (λ e. (a.0, solid-decide zero c K p a.1))
solid-decide (suc i) c (d ∷ K) p a = cond-case (eqb d hole) Solid
    (λ e. (hole-solid, solid-decide i c K p a.1)) (λ e. (a.0, solid-decide (suc i) c K p a.1))

-- THE HEAD'S VARIABLES are the open places, in order
appear-symbol : (met : List ℕ) (c : ℕ) (xs : List ℕ) → is_var c ≡ false → appear met (c ∷ xs) ≡ appear met xs
unfolding appear
appear-symbol met c xs v = rw v

appear-new : (met : List ℕ) (c : ℕ) (xs : List ℕ) → is_var c ≡ true → count c met ≡ 0 → appear met (c ∷ xs) ≡ c ∷ appear (c ∷ met) xs
unfolding appear
appear-new met c xs v e = rw (v, eq-eqb (count c met) 0 e)

-- none of the variables met is as high as n
abbrev Lower : ℕ → List ℕ → Type 0
Lower n met = (m : ℕ) → n ≤ m → count m met ≡ 0

appear-fill : (K met : List ℕ) (n : ℕ) → Solid K → n + count hole K ≤ 2 ^ 30 → Lower n met
    → appear met (fill K (up_from n (count hole K))) ≡ up_from n (count hole K)
unfolding fill up_from appear count
appear-fill [] met n a h l = refl
appear-fill (c ∷ K) met n a h l = go (hole? c) a.0 h (λ met n. appear-fill K met n a.1)
  where
    go : {c : ℕ} → Hole? c → is_var c ≡ false → n + count hole (c ∷ K) ≤ 2 ^ 30
        → ((met : List ℕ) (n : ℕ) → n + count hole K ≤ 2 ^ 30 → Lower n met → appear met (fill K (up_from n (count hole K))) ≡ up_from n (count hole K))
        → appear met (fill (c ∷ K) (up_from n (count hole (c ∷ K)))) ≡ up_from n (count hole (c ∷ K))
    go a-hole v h ih =
        let e = count_same hole K in
        let w : is_var n ≡ true = var-small n (omega arith) in
        let t : Terms 1 (n ∷ []) = Terms-fresh (up-distinct n 1 (omega arith)) in
        let X = up_from (suc n) (count hole K) in
        let low : Lower (suc n) (n ∷ met) = λ m q. count-other m n met (λ p. (let z : ⊥ = omega arith in z)) ∙ l m (omega arith) in
        rw (e, fill-hole K (n ∷ X), front-++ X t, back-++ X t) (appear-new met n (fill K X) w (l n (omega arith))
        ∙ ap (λ (l : List ℕ). n ∷ l) (ih (n ∷ met) (suc n) (omega arith) low))
    go (a-cell {c} m) v h ih =
        let e = count-other hole c K (λ p. m (sym p)) in
        rw (e, fill-cell c K (up_from n (count hole K)) m) (appear-symbol met c (fill K (up_from n (count hole K))) v ∙ ih met n (omega arith) l)

pub handed-is : (K : List ℕ) (n : ℕ) → Solid K → count hole K ≡ n → n ≤ 2 ^ 15 → handed (head_of K) ≡ up_from 0 n
unfolding head_of count
handed-is K n a e h = appear-fill K [] 0 a (omega arith) (λ m q. refl) ∙ ap (up_from 0) e

pub head-is : (K : List ℕ) (n : ℕ) → count hole K ≡ n → head_of K ≡ fill K (up_from 0 n)
unfolding head_of
head-is K n e = ap (λ (m : ℕ). fill K (up_from 0 m)) e

-- what it is filled with stands in it, and has its variables
pub fill-mem : (K X : List ℕ) (c : ℕ) → Terms (count hole K) X → Memᴰ c X → Memᴰ c (fill K X)
unfolding fill count
fill-mem [] X c t m = absurd (mathlib.Core.List.Memᴰ.not-nil (rw (zero-nil t) at m))
fill-mem (d ∷ K) X c t m = go (hole? d) t (fill-mem K X c) (fill-mem K (back 1 X) c)
  where
    go : {d : ℕ} → Hole? d → Terms (count hole (d ∷ K)) X → (Terms (count hole K) X → Memᴰ c X → Memᴰ c (fill K X))
        → (Terms (count hole K) (back 1 X) → Memᴰ c (back 1 X) → Memᴰ c (fill K (back 1 X))) → Memᴰ c (fill (d ∷ K) X)
    go a-hole u ih jh =
        let m' : Memᴰ c (front 1 X ++ back 1 X) = rw (front-back 1 X) m in
        rw (fill-hole K X) (⊎_elim (λ q. mathlib.Core.List.Memᴰ.append_left (fill K (back 1 X)) q) (λ q. mathlib.Core.List.Memᴰ.append_right (front 1 X) (jh (first-hole K X u).1 q))
        (mathlib.Core.List.Memᴰ.append_cases (front 1 X) m'))
    go (a-cell {c = d} n) u ih jh = rw (fill-cell d K X n) (mathlib.Core.List.Memᴰ.tail (ih (no-hole K X n u) m))

-- the variables that come first in two lists with one front
appear-front : (A met Y Z : List ℕ) → ((met : List ℕ) → appear met Y ≡ appear met Z) → appear met (A ++ Y) ≡ appear met (A ++ Z)
unfolding appear
appear-front [] met Y Z h = h met
appear-front (c ∷ A) met Y Z h =
    cond_both (is_var c && eqb (count c met) 0) (ap (λ (l : List ℕ). c ∷ l) (appear-front A (c ∷ met) Y Z h)) (appear-front A met Y Z h)
  where
    cond_both : (b : Bool) {x y x' y' : List ℕ} → x ≡ x' → y ≡ y' → cond b x y ≡ cond b x' y'
    cond_both true p q = p
    cond_both false p q = q

pub appear-solid : (K X met : List ℕ) → Solid K → Terms (count hole K) X → appear met (fill K X) ≡ appear met X
unfolding fill count
appear-solid [] X met a t = rw (zero-nil t)
appear-solid (c ∷ K) X met a t = go (hole? c) a.0 t (λ met. appear-solid K X met a.1) (λ met. appear-solid K (back 1 X) met a.1)
  where
    go : {c : ℕ} → Hole? c → is_var c ≡ false → Terms (count hole (c ∷ K)) X
        → ((met : List ℕ) → Terms (count hole K) X → appear met (fill K X) ≡ appear met X)
        → ((met : List ℕ) → Terms (count hole K) (back 1 X) → appear met (fill K (back 1 X)) ≡ appear met (back 1 X))
        → appear met (fill (c ∷ K) X) ≡ appear met X
    go a-hole v u ih jh =
        ap (appear met) (fill-hole K X) ∙ appear-front (front 1 X) met (fill K (back 1 X)) (back 1 X) (λ m. jh m (first-hole K X u).1)
        ∙ ap (appear met) (front-back 1 X)
    go (a-cell {c} n) v u ih jh = ap (appear met) (fill-cell c K X n) ∙ appear-symbol met c (fill K X) v ∙ ih met (no-hole K X n u)

-- so it is numbered where they are
pub numbered-solid : (K X : List ℕ) → Solid K → Terms (count hole K) X → Numbered (fill K X) → Numbered X
numbered-solid K X a t o = let e = appear-solid K X [] a t in sym e ∙ o ∙ ap (λ (l : List ℕ). up_from 0 (length l)) e

-- how long it is
pub fill-long : (K X : List ℕ) → Terms (count hole K) X → length (fill K X) + count hole K ≡ length K + length X
unfolding fill count
fill-long [] X t = rw (zero-nil t)
fill-long (c ∷ K) X t = go (hole? c) t (fill-long K X) (fill-long K (back 1 X))
  where
    go : {c : ℕ} → Hole? c → Terms (count hole (c ∷ K)) X
        → (Terms (count hole K) X → length (fill K X) + count hole K ≡ length K + length X)
        → (Terms (count hole K) (back 1 X) → length (fill K (back 1 X)) + count hole K ≡ length K + length (back 1 X))
        → length (fill (c ∷ K) X) + count hole (c ∷ K) ≡ suc (length K) + length X
    go a-hole u ih jh =
        let e = jh (first-hole K X u).1 in
        let l = length-append (front 1 X) (back 1 X) in
        let m = length-append (front 1 X) (fill K (back 1 X)) in
        let n = ap length (front-back 1 X) in
        let s = count_same hole K in
        rw (fill-hole K X) (omega arith)
    go (a-cell {c} n) u ih jh =
        let e = ih (no-hole K X n u) in
        let s = count-other hole c K (λ p. n (sym p)) in
        rw (fill-cell c K X n) (omega arith)
