-- Unification of flat lists by computation, and that it decides `Unifies`.
use Prim.Native.Nat.{ℕ, zero, suc, ◌+◌, ◌≤◌, ◌<◌}
use mathlib.Core.Path.{◌≡◌, refl, sym, ◌∙◌, ap, ap₂, subst}
use mathlib.Core.Logic.{◌≢◌, ◌↔◌, ◌⊎◌, inl, inr, ⊎_elim}
use mathlib.Core.Bool.{Bool, true, false, cond}
use mathlib.Core.List.{List, [], ◌∷◌, ◌++◌, append_cancel_left, Memᴰ}
use native.Mathlib.Nat.{zero-add}
use native.Mathlib.Numerals.{one-add}
use native.Mathlib.Omega.{arith}
use lib.Dec.{eqb}
use lib.ListN.{length}
use Rattle.cell.specs.Cell.{arity, is_var}
use Rattle.cell.proofs.CellLaws.{var-arity}
use borrow.Author.Tests.{eqb-true, eqb-false}
use Rattle.term.proofs.Tests.{bool_cases, cond-case}
use Rattle.term.specs.Terms.{Terms, none, more, front, back}
use Rattle.term.proofs.TermsLaws.{front-back, front-terms, back-terms}
use Rattle.term.specs.Unify.{inst, Unifies}
use Rattle.term.proofs.Inst.{Terms-inst, Subst-id, Subst-bind, bind-same, bind-other, inst-var, Terms-var}
use Rattle.term.specs.Bind.{id_s, bind, Within}
use Rattle.term.proofs.Step.{at_place, eliminate, other-symbol}
use Rattle.term.proofs.Occurs.{occurs-check}
use Rattle.term.specs.code.Unifiable.{occurs, bind_test, walk, unify, unifiable}

-- a Boolean that is the answer to P
pub data Decides (P : Type 0) : Bool → Type 0 where
  says-yes : P → Decides P true
  says-no : ¬ P → Decides P false

-- a test, as a case split
pub by-test : (b : Bool) {x y : Bool} {P : Type 0} → (b ≡ true → Decides P x) → (b ≡ false → Decides P y) → Decides P (cond b x y)
by-test true f g = f refl
by-test false f g = g refl

pub Decides-iff : {b : Bool} {P Q : Type 0} → P ↔ Q → Decides P b → Decides Q b
Decides-iff e (says-yes p) = says-yes (e.0 p)
Decides-iff e (says-no p) = says-no (λ q. p (e.1 q))

pub occurs-decides : (v : ℕ) (xs : List ℕ) → Decides (Memᴰ v xs) (occurs v xs)
unfolding occurs
occurs-decides v [] = says-no mathlib.Core.List.Memᴰ.not-nil
occurs-decides v (c ∷ xs) =
    by-test (eqb v c)
    (λ e. says-yes (mathlib.Core.List.Memᴰ.head (eqb-true v c e)))
    (λ e. Decides-iff (mathlib.Core.List.Memᴰ.tail, λ m. ⊎_elim (λ p. absurd (eqb-false v c e p)) (λ q. q) (mathlib.Core.List.Memᴰ.cases_cons m)) (occurs-decides v xs))

unfoldable pub remove : ℕ → List ℕ → List ℕ
remove v [] = []
remove v (w ∷ ws) = cond (eqb w v) (remove v ws) (w ∷ remove v ws)

pub remove-keeps : (v : ℕ) (ws : List ℕ) (x : ℕ) → Memᴰ x ws → x ≢ v → Memᴰ x (remove v ws)
unfolding remove
remove-keeps v [] x m h = absurd (mathlib.Core.List.Memᴰ.not-nil m)
remove-keeps v (w ∷ ws) x m h =
    let ih : Memᴰ x ws → Memᴰ x (remove v ws) = λ q. remove-keeps v ws x q h in
    cond-case (eqb w v) (λ (l : List ℕ). Memᴰ x l)
    (λ e. ⊎_elim (λ p. absurd (h (p ∙ eqb-true w v e))) ih (mathlib.Core.List.Memᴰ.cases_cons m))
    (λ e. ⊎_elim (λ p. mathlib.Core.List.Memᴰ.head p) (λ q. mathlib.Core.List.Memᴰ.tail (ih q)) (mathlib.Core.List.Memᴰ.cases_cons m))

remove-short : (v : ℕ) (ws : List ℕ) → length (remove v ws) ≤ length ws
unfolding remove
remove-short v [] = omega arith
remove-short v (w ∷ ws) =
    let ih = remove-short v ws in
    cond-case (eqb w v) (λ (l : List ℕ). length l ≤ suc (length ws)) (λ e. omega arith) (λ e. omega arith)

pub remove-shorter : (v : ℕ) (ws : List ℕ) → Memᴰ v ws → length (remove v ws) < length ws
unfolding remove
remove-shorter v [] m = absurd (mathlib.Core.List.Memᴰ.not-nil m)
remove-shorter v (w ∷ ws) m =
    let ih : Memᴰ v ws → length (remove v ws) < length ws = remove-shorter v ws in
    let sh = remove-short v ws in
    cond-case (eqb w v) (λ (l : List ℕ). length l < suc (length ws))
    (λ e. omega arith)
    (λ e. ⊎_elim (λ p. absurd (eqb-false w v e (sym p))) (λ q. let r = ih q in omega arith) (mathlib.Core.List.Memᴰ.cases_cons m))

-- what v := t leaves
pub inst-mem : (v : ℕ) (t xs : List ℕ) (x : ℕ) → Memᴰ x (inst (bind v t id_s) xs) → Memᴰ x t ⊎ (Memᴰ x xs × (x ≢ v))
unfolding inst id_s
inst-mem v t [] x m = absurd (mathlib.Core.List.Memᴰ.not-nil m)
inst-mem v t (c ∷ xs) x m = ⊎_elim (here (bool_cases (eqb c v))) (λ q. below (inst-mem v t xs x q)) (mathlib.Core.List.Memᴰ.append_cases (bind v t id_s c) m)
  where
    here : (eqb c v ≡ true) ⊎ (eqb c v ≡ false) → Memᴰ x (bind v t id_s c) → Memᴰ x t ⊎ (Memᴰ x (c ∷ xs) × (x ≢ v))
    here (inl e) q = inl (rw (eqb-true c v e, bind-same v t id_s) at q)
    here (inr e) q =
        let p = mathlib.Core.List.Memᴰ.eq_of_singleton (rw (bind-other v t id_s c (eqb-false c v e)) at q) in
        inr (mathlib.Core.List.Memᴰ.head p, λ r. eqb-false c v e (sym p ∙ r))

    below : Memᴰ x t ⊎ (Memᴰ x xs × (x ≢ v)) → Memᴰ x t ⊎ (Memᴰ x (c ∷ xs) × (x ≢ v))
    below (inl q) = inl q
    below (inr q) = inr (mathlib.Core.List.Memᴰ.tail q.0, q.1)

pub Within-inst : (v : ℕ) {t xs vs : List ℕ} → ¬ Memᴰ v t → Within vs t → Within vs xs → Within (remove v vs) (inst (bind v t id_s) xs)
Within-inst v {t} {xs} {vs} n wt wx = record {
  found = λ c m hc. ⊎_elim
      (λ q. remove-keeps v vs c (wt.found c q hc) (λ p. n (mathlib.Core.List.Memᴰ.cast (sym p) q)))
      (λ q. remove-keeps v vs c (wx.found c q.0 hc) q.1)
      (inst-mem v t xs c m);
}

pub Within-part : (vs xs ys : List ℕ) → Within vs (xs ++ ys) → Within vs xs × Within vs ys
Within-part vs xs ys w = (record { found = λ c m. w.found c (mathlib.Core.List.Memᴰ.append_left ys m) }, record { found = λ c m. w.found c (mathlib.Core.List.Memᴰ.append_right xs m) })

pub Within-tail : {c : ℕ} {vs xs : List ℕ} → Within vs (c ∷ xs) → Within vs xs
Within-tail w = record { found = λ x m. w.found x (mathlib.Core.List.Memᴰ.tail m) }

Unifies-sym : {xs ys : List ℕ} → Unifies xs ys → Unifies ys xs
Unifies-sym u = record { by = u.by; good = u.good; same = sym u.same }

by-decides : {b x y : Bool} {P Q : Type 0} → Decides P b → (P → Decides Q x) → (¬ P → Decides Q y) → Decides Q (cond b x y)
by-decides (says-yes p) f g = f p
by-decides (says-no p) f g = g p

-- rec decides every pair with its variables in fewer than n
pub record Correct (rec : List ℕ → List ℕ → Bool) (n : ℕ) : Type 0 where
  pub decides : {k : ℕ} {xs ys us : List ℕ} → Terms k xs → Terms k ys → Within us xs → Within us ys → length us < n → Decides (Unifies xs ys) (rec xs ys)

pub two-long : {v d : ℕ} (xs : List ℕ) → Memᴰ v (d ∷ xs) → v ≢ d → 2 ≤ length (d ∷ xs)
two-long [] m h = absurd (h (mathlib.Core.List.Memᴰ.eq_of_singleton m))
two-long (x ∷ xs) m h = omega arith

-- a variable that occurs in the term that it meets
pub occurs-apart : (v d : ℕ) (xs zs : List ℕ) → is_var v ≡ true → v ≢ d → Terms 1 (front 1 (d ∷ zs)) → Memᴰ v (front 1 (d ∷ zs))
    → ¬ Unifies (v ∷ xs) (front 1 (d ∷ zs) ++ back 1 (d ∷ zs))
unfolding front
occurs-apart v d xs zs hv h t m u =
    let p = (at_place xs (back 1 (d ∷ zs)) u.good (Terms-var hv) t).0 u.same in
    occurs-check u.good m (two-long (front (arity d + 0) zs) m h) (sym (inst-var u.by v) ∙ p.0)

bind-correct : (rec : List ℕ → List ℕ → Bool) (v d : ℕ) {k : ℕ} {xs : List ℕ} (zs : List ℕ) {vs : List ℕ} → is_var v ≡ true → v ≢ d → Correct rec (length vs)
    → Terms k xs → Terms (suc k) (d ∷ zs) → Within vs (v ∷ xs) → Within vs (d ∷ zs) → Decides (Unifies (v ∷ xs) (d ∷ zs)) (bind_test rec v xs (d ∷ zs))
unfolding bind_test
bind-correct rec v d {k} {xs} zs {vs} hv h ih t u wx wy =
    let fb = front-back 1 (d ∷ zs) in
    let u₁ : Terms (1 + k) (d ∷ zs) = rw one-add u in
    let tf = front-terms 1 k (d ∷ zs) u₁ in
    let tb = back-terms 1 k (d ∷ zs) u₁ in
    let w = Within-part vs (front 1 (d ∷ zs)) (back 1 (d ∷ zs)) (subst (λ (l : List ℕ). Within vs l) (sym fb) wy) in
    let r = remove-shorter v vs (wx.found v (mathlib.Core.List.Memᴰ.head refl) hv) in
    subst (λ (l : List ℕ). Decides (Unifies (v ∷ xs) l) (bind_test rec v xs (d ∷ zs))) fb
    (by-decides (occurs-decides v (front 1 (d ∷ zs)))
    (λ m. says-no (occurs-apart v d xs zs hv h tf m))
    (λ n. let e = eliminate v xs (back 1 (d ∷ zs)) hv tf n in
    let s = Subst-bind v hv tf Subst-id in
    Decides-iff (e.1, e.0) (ih.decides (Terms-inst s t) (Terms-inst s tb) (Within-inst v n w.0 (Within-tail wx)) (Within-inst v n w.0 w.1) r)))

same-cell : {c d : ℕ} {xs ys : List ℕ} → c ≡ d → Unifies xs ys ↔ Unifies (c ∷ xs) (d ∷ ys)
unfolding inst
same-cell {c} {d} {xs} {ys} e = (
  λ u. record { by = u.by; good = u.good; same = ap₂ ◌++◌ (ap u.by e) u.same },
  λ u. record {
    by = u.by;
    good = u.good;
    same =
        append_cancel_left (u.by c) (inst u.by xs) (inst u.by ys) (u.same ∙ ap (λ (l : List ℕ). l ++ inst u.by ys) (ap u.by (sym e)));
  },
)

walk-correct : {rec : List ℕ → List ℕ → Bool} (vs : List ℕ) {k : ℕ} {xs ys : List ℕ} → Correct rec (length vs) → Terms k xs → Terms k ys
    → Within vs xs → Within vs ys → Decides (Unifies xs ys) (walk rec xs ys)
unfolding walk
walk-correct vs ih none none wx wy = says-yes (record { by = id_s; good = Subst-id; same = refl })
walk-correct {rec} vs ih (more {c} {k} {xs} t) (more {c = d} {xs = ys} u) wx wy =
    by-test (eqb c d)
    (λ e. Decides-iff (same-cell (eqb-true c d e)) (walk-correct vs ih t (rw (eqb-true c d e) u) (Within-tail wx) (Within-tail wy)))
    (λ e. by-test (is_var c)
    (λ hc. bind-correct rec c d ys hc (eqb-false c d e) ih (rw (var-arity c hc, zero-add) at t) (more u) wx wy)
    (λ hc. by-test (is_var d)
    (λ hd. Decides-iff (Unifies-sym, Unifies-sym)
    (bind-correct rec d c xs hd (λ p. eqb-false c d e (sym p)) ih (rw (var-arity d hd, zero-add) at u) (more t) wy wx))
    (λ hd. says-no (other-symbol c d xs ys hc hd (eqb-false c d e) none none))))

unify-correct : (n : ℕ) → Correct (unify n) (suc n)
unfolding unify
unify-correct zero =
    record {
      decides = λ {k} {xs} {ys} {us} t u wx wy h. walk-correct us
          (record { decides = λ t' u' wx' wy' h'. absurd (let z : ⊥ = omega arith in z) }) t u wx wy;
    }
unify-correct (suc n) =
    record {
      decides = λ {k} {xs} {ys} {us} t u wx wy h. walk-correct us
          (record { decides = λ t' u' wx' wy' h'. (unify-correct n).decides t' u' wx' wy' (omega arith) }) t u wx wy;
    }

pub unifiable-correct : {k : ℕ} (xs ys : List ℕ) → Terms k xs → Terms k ys → Decides (Unifies xs ys) (unifiable xs ys)
unfolding unifiable
unifiable-correct xs ys t u = (unify-correct (length (xs ++ ys))).decides t u
    (record { found = λ c m v. mathlib.Core.List.Memᴰ.append_left ys m }) (record { found = λ c m v. mathlib.Core.List.Memᴰ.append_right xs m }) (omega arith)

pub yes-means : {P : Type 0} {b : Bool} → Decides P b → b ≡ true → P
yes-means (says-yes p) e = p
yes-means (says-no n) e = let z : ◌≡◌ {A = ℕ} 0 1 = cc in absurd (omega arith)

pub no-means : {P : Type 0} {b : Bool} → Decides P b → b ≡ false → ¬ P
no-means (says-yes p) e = let z : ◌≡◌ {A = ℕ} 0 1 = cc in absurd (omega arith)
no-means (says-no n) e = n
