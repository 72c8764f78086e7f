-- Unification builds the most general common instance, for any two lists of terms, a row with a variable used twice too (02, W-209). It is the
-- decision procedure of crate term
-- (proofs/Decide), step by step, with a third list S carried along: what S becomes is the most general instance of S under which the two lists are equal.
use Prim.Native.Nat.{ℕ, zero, suc, ◌+◌, ◌^◌, ◌<◌}
use mathlib.Core.Path.{◌≡◌, refl, sym, ◌∙◌, ap, ap₂, subst}
use mathlib.Core.Logic.{◌≢◌, ◌↔◌, ⊎_elim}
use mathlib.Core.Bool.{Bool, true, false, cond}
use mathlib.Core.List.{List, [], ◌∷◌, ◌++◌, append_cancel_left, Memᴰ}
use native.Mathlib.Nat.{zero-add}
use native.Mathlib.Numerals.{one-add}
use native.Mathlib.Omega.{arith}
use lib.Dec.{eqb}
use lib.ListN.{length}
use borrow.Author.Tests.{eqb-true, eqb-false}
use Rattle.cell.specs.Cell.{is_var}
use Rattle.cell.proofs.CellLaws.{var-arity}
use Rattle.term.specs.Terms.{Terms, none, more, front, back}
use Rattle.term.specs.Unify.{inst, Unifies, renamed, Matches}
use Rattle.term.proofs.TermsLaws.{front-back, front-terms, back-terms}
use Rattle.term.proofs.Inst.{then, inst-then, Terms-inst, Subst-then, bind-same, Subst-id, Subst-bind, inst-var, Terms-var, absorb, unbound}
use Rattle.term.proofs.Tests.{cond-case}
use Rattle.term.proofs.Step.{at_place, other-symbol}
use Rattle.term.specs.code.Unifiable.{occurs, bind_test, walk, unify}
use Rattle.term.proofs.Decide.{Decides, says-yes, says-no, occurs-decides, remove, Within-inst, Within-part, Within-tail, remove-shorter, occurs-apart}
use Rattle.term.specs.Bind.{Within, bind, id_s}
use Rattle.instance.specs.Instance.{Instance, Common, MostGeneral}
use Rattle.instance.specs.code.Left.{Solves}
use Rattle.instance.proofs.Instances.{most-general}
use Rattle.instance.proofs.Apart.{Below, matches-common, moved, moved-good, moved_same, both, both-good, both-row, both-goal}

-- what unification builds; nothing where the lists do not unify
pub data Built : Type 0 where
  apart : Built
  built : List ℕ → Built

-- the procedure with S carried along
unfoldable pub bind_with : (List ℕ → List ℕ → List ℕ → Built) → ℕ → List ℕ → List ℕ → List ℕ → Built
bind_with rec v xs ys S =
    let t = front 1 ys in
    let r = rec (inst (bind v t id_s) xs) (inst (bind v t id_s) (back 1 ys)) (inst (bind v t id_s) S) in
    cond (occurs v t) apart r

unfoldable pub walk_with : (List ℕ → List ℕ → List ℕ → Built) → List ℕ → List ℕ → List ℕ → Built
walk_with rec [] ys S = built S
walk_with rec (c ∷ xs) [] S = apart
walk_with rec (c ∷ xs) (d ∷ ys) S =
    let deeper = walk_with rec xs ys S in
    let left = bind_with rec c xs (d ∷ ys) S in
    let right = bind_with rec d ys (c ∷ xs) S in
    let last = cond (is_var d) right apart in
    let other = cond (is_var c) left last in
    cond (eqb c d) deeper other

unfoldable pub solve : ℕ → List ℕ → List ℕ → List ℕ → Built
solve zero = walk_with (λ xs ys S. apart)
solve (suc n) = walk_with (solve n)

-- it answers as the decision procedure does
unfoldable pub answers : Built → Bool
answers apart = false
answers (built S) = true

-- The same cell; a variable bound to the term that it meets; the two sides exchanged.
pub solves-cell : {c d : ℕ} (xs ys S Y : List ℕ) → c ≡ d → Solves (c ∷ xs) (d ∷ ys) S Y ↔ Solves xs ys S Y
unfolding inst
solves-cell {c} {d} xs ys S Y e = (
  λ u. record {
    by = u.by;
    good = u.good;
    same =
        append_cancel_left (u.by c) (inst u.by xs) (inst u.by ys) (u.same ∙ ap (λ (l : List ℕ). l ++ inst u.by ys) (ap u.by (sym e)));
    gives = u.gives;
  },
  λ u. record { by = u.by; good = u.good; same = ap₂ ◌++◌ (ap u.by e) u.same; gives = u.gives },
)

pub solves-bind : (v : ℕ) {t : List ℕ} (xs ys S Y : List ℕ) → is_var v ≡ true → Terms 1 t → ¬ Memᴰ v t
    → Solves (v ∷ xs) (t ++ ys) S Y ↔ Solves (inst (bind v t id_s) xs) (inst (bind v t id_s) ys) (inst (bind v t id_s) S) Y
unfolding then
solves-bind v {t} xs ys S Y hv ht n = (
  λ u. let σ = u.by in
      let p = (at_place xs ys u.good (Terms-var hv) ht).0 u.same in
      let e = sym (inst-var σ v) ∙ p.0 in
      record { by = σ; good = u.good; same = absorb σ v t xs e ∙ p.1 ∙ sym (absorb σ v t ys e); gives = absorb σ v t S e ∙ u.gives },
  λ u. let σ = u.by in
      let s = Subst-then (Subst-bind v hv ht Subst-id) u.good in
      let ρ = bind v t id_s in
      let here : inst (then ρ σ) (v ∷ []) ≡ inst (then ρ σ) t =
      inst-var (then ρ σ) v ∙ ap (inst σ) (bind-same v t id_s) ∙ sym (ap (inst σ) (unbound v t t n)) ∙ inst-then ρ σ t in
      record {
        by = then ρ σ;
        good = s;
        same = (at_place xs ys s (Terms-var hv) ht).1 (here, sym (inst-then ρ σ xs) ∙ u.same ∙ inst-then ρ σ ys);
        gives = sym (inst-then ρ σ S) ∙ u.gives;
      },
)

pub solves-turn : {xs ys S Y : List ℕ} → Solves xs ys S Y → Solves ys xs S Y
solves-turn u = record { by = u.by; good = u.good; same = sym u.same; gives = u.gives }

-- what is built is most general, and nothing is built only where the lists do not unify
pub data Solved (xs ys S : List ℕ) : Built → Type 0 where
  solved : {T : List ℕ} → ((Y : List ℕ) → Solves xs ys S Y ↔ Instance T Y) → ((vs : List ℕ) → Within vs xs → Within vs ys → Within vs S → Within vs T)
      → Solved xs ys S (built T)
  unsolved : ((Y : List ℕ) → ¬ Solves xs ys S Y) → Solved xs ys S apart

solved-by : {xs ys S xs' ys' S' : List ℕ} {x : Built} → ((Y : List ℕ) → Solves xs ys S Y ↔ Solves xs' ys' S' Y)
    → ((vs : List ℕ) → Within vs xs → Within vs ys → Within vs S → Within vs xs' × Within vs ys' × Within vs S') → Solved xs' ys' S' x → Solved xs ys S x
solved-by h k (solved f w) = solved (λ Y. (λ u. (f Y).0 ((h Y).0 u), λ i. (h Y).1 ((f Y).1 i))) (λ vs a b c. let q = k vs a b c in w vs q.0 q.1 q.2)
solved-by h k (unsolved f) = unsolved (λ Y u. f Y ((h Y).0 u))

solved-test : (b : Bool) {xs ys S : List ℕ} {x y : Built} → (b ≡ true → Solved xs ys S x) → (b ≡ false → Solved xs ys S y) → Solved xs ys S (cond b x y)
solved-test true f g = f refl
solved-test false f g = g refl

solved-decided : {b : Bool} {P : Type 0} {xs ys S : List ℕ} {x y : Built} → Decides P b → (P → Solved xs ys S x) → (¬ P → Solved xs ys S y)
    → Solved xs ys S (cond b x y)
solved-decided (says-yes p) f g = f p
solved-decided (says-no p) f g = g p

unifies : {xs ys S Y : List ℕ} → Solves xs ys S Y → Unifies xs ys
unifies u = record { by = u.by; good = u.good; same = u.same }

-- for lists with their variables in fewer than n
record RightBelow (rec : List ℕ → List ℕ → List ℕ → Built) (n : ℕ) : Type 0 where
  pub right : {k : ℕ} {xs ys us : List ℕ} (S : List ℕ) → Terms k xs → Terms k ys → Within us xs → Within us ys → length us < n → Solved xs ys S (rec xs ys S)

-- what is within fewer variables is within all
removed : (v : ℕ) (us : List ℕ) (c : ℕ) → Memᴰ c (remove v us) → Memᴰ c us
unfolding remove
removed v [] c m = m
removed v (u ∷ us) c m =
    let ih : Memᴰ c (remove v us) → Memᴰ c us = removed v us c in
    cond-case (eqb u v) (λ (l : List ℕ). Memᴰ c l → Memᴰ c (u ∷ us))
    (λ e q. mathlib.Core.List.Memᴰ.tail (ih q)) (λ e q. ⊎_elim (λ p. mathlib.Core.List.Memᴰ.head p) (λ p. mathlib.Core.List.Memᴰ.tail (ih p)) (mathlib.Core.List.Memᴰ.cases_cons q)) m

wider : (v : ℕ) {us xs : List ℕ} → Within (remove v us) xs → Within us xs
wider v {us} w = record { found = λ c m h. removed v us c (w.found c m h) }

bind-right : (rec : List ℕ → List ℕ → List ℕ → Built) (v d : ℕ) {k : ℕ} {xs : List ℕ} (zs : List ℕ) {vs : List ℕ} (S : List ℕ) → is_var v ≡ true
    → v ≢ d → RightBelow rec (length vs)
    → Terms k xs → Terms (suc k) (d ∷ zs) → Within vs (v ∷ xs) → Within vs (d ∷ zs) → Solved (v ∷ xs) (d ∷ zs) S (bind_with rec v xs (d ∷ zs) S)
unfolding bind_with
bind-right rec v d {k} {xs} zs {vs} S hv h ih t u wx wy =
    let fb = front-back 1 (d ∷ zs) in
    let u₁ : Terms (1 + k) (d ∷ zs) = rw one-add u in
    let tf = front-terms 1 k (d ∷ zs) u₁ in
    let tb = back-terms 1 k (d ∷ zs) u₁ in
    let w = Within-part vs (front 1 (d ∷ zs)) (back 1 (d ∷ zs)) (subst (λ (l : List ℕ). Within vs l) (sym fb) wy) in
    let r = remove-shorter v vs (wx.found v (mathlib.Core.List.Memᴰ.head refl) hv) in
    subst (λ (l : List ℕ). Solved (v ∷ xs) l S (bind_with rec v xs (d ∷ zs) S)) fb
    (solved-decided (occurs-decides v (front 1 (d ∷ zs)))
    (λ m. unsolved (λ Y z. occurs-apart v d xs zs hv h tf m (unifies z)))
    (λ n. let s = Subst-bind v hv tf Subst-id in
    solved-by (λ Y. solves-bind v xs (back 1 (d ∷ zs)) S Y hv tf n)
    (λ us a b c. let p = Within-part us (front 1 (d ∷ zs)) (back 1 (d ∷ zs)) b in
    (wider v (Within-inst v n p.0 (Within-tail a)), wider v (Within-inst v n p.0 p.1), wider v (Within-inst v n p.0 c)))
    (ih.right (inst (bind v (front 1 (d ∷ zs)) id_s) S) (Terms-inst s t) (Terms-inst s tb) (Within-inst v n w.0 (Within-tail wx))
    (Within-inst v n w.0 w.1) r)))

solved-empty : (S Y : List ℕ) → Solves [] [] S Y ↔ Instance S Y
solved-empty S Y = (λ u. record { by = u.by; good = u.good; same = u.gives }, λ i. record { by = i.by; good = i.good; same = refl; gives = i.same })

walk-right : {rec : List ℕ → List ℕ → List ℕ → Built} (vs : List ℕ) {k : ℕ} {xs ys : List ℕ} (S : List ℕ) → RightBelow rec (length vs) → Terms k xs
    → Terms k ys → Within vs xs → Within vs ys
    → Solved xs ys S (walk_with rec xs ys S)
unfolding walk_with
walk-right vs S ih none none wx wy = solved (solved-empty S) (λ us a b c. c)
walk-right {rec} vs S ih (more {c} {k} {xs} t) (more {c = d} {xs = ys} u) wx wy =
    solved-test (eqb c d)
    (λ e. solved-by (λ Y. solves-cell xs ys S Y (eqb-true c d e)) (λ us a b c. (Within-tail a, Within-tail b, c))
    (walk-right vs S ih t (rw (eqb-true c d e) u) (Within-tail wx) (Within-tail wy)))
    (λ e. solved-test (is_var c)
    (λ hc. bind-right rec c d ys S hc (eqb-false c d e) ih (rw (var-arity c hc, zero-add) at t) (more u) wx wy)
    (λ hc. solved-test (is_var d)
    (λ hd. solved-by (λ Y. (solves-turn, solves-turn)) (λ us a b c. (b, a, c))
    (bind-right rec d c xs S hd (λ p. eqb-false c d e (sym p)) ih (rw (var-arity d hd, zero-add) at u) (more t) wy wx))
    (λ hd. unsolved (λ Y z. other-symbol c d xs ys hc hd (eqb-false c d e) none none (unifies z)))))

solve-right : (n : ℕ) → RightBelow (solve n) (suc n)
unfolding solve
solve-right zero =
    record {
      right = λ {k} {xs} {ys} {us} S t u wx wy h. walk-right us S
          (record { right = λ S' t' u' wx' wy' h'. absurd (let z : ⊥ = omega arith in z) }) t u wx wy;
    }
solve-right (suc n) =
    record {
      right = λ {k} {xs} {ys} {us} S t u wx wy h. walk-right us S
          (record { right = λ S' t' u' wx' wy' h'. (solve-right n).right S' t' u' wx' wy' (omega arith) }) t u wx wy;
    }

-- It is the procedure that decides `Unifies`.
answers-test : (b : Bool) (x y : Built) {p q : Bool} → answers x ≡ p → answers y ≡ q → answers (cond b x y) ≡ cond b p q
answers-test true x y e f = e
answers-test false x y e f = f

module _ (rec : List ℕ → List ℕ → List ℕ → Built) (dec : List ℕ → List ℕ → Bool) (h : (xs ys S : List ℕ) → answers (rec xs ys S) ≡ dec xs ys) where
  answers-bind : (v : ℕ) (xs ys S : List ℕ) → answers (bind_with rec v xs ys S) ≡ bind_test dec v xs ys
  unfolding bind_with bind_test answers
  answers-bind v xs ys S =
      let ρ = bind v (front 1 ys) id_s in
      answers-test (occurs v (front 1 ys)) apart (rec (inst ρ xs) (inst ρ (back 1 ys)) (inst ρ S)) refl (h (inst ρ xs) (inst ρ (back 1 ys)) (inst ρ S))

  answers-walk : (xs ys S : List ℕ) → answers (walk_with rec xs ys S) ≡ walk dec xs ys
  unfolding walk_with walk answers
  answers-walk [] ys S = refl
  answers-walk (c ∷ xs) [] S = refl
  answers-walk (c ∷ xs) (d ∷ ys) S =
      let left = bind_with rec c xs (d ∷ ys) S in
      let right = bind_with rec d ys (c ∷ xs) S in
      let last = cond (is_var d) right apart in
      answers-test (eqb c d) (walk_with rec xs ys S) (cond (is_var c) left last) (answers-walk xs ys S)
      (answers-test (is_var c) left last (answers-bind c xs (d ∷ ys) S)
      (answers-test (is_var d) right apart (answers-bind d ys (c ∷ xs) S) refl))

pub answers-unify : (n : ℕ) (xs ys S : List ℕ) → answers (solve n xs ys S) ≡ unify n xs ys
unfolding solve unify answers
answers-unify zero xs ys S = answers-walk (λ xs ys S. apart) (λ xs ys. false) (λ xs ys S. refl) xs ys S
answers-unify (suc n) xs ys S = answers-walk (solve n) (unify n) (answers-unify n) xs ys S

-- A row and a goal that unify have a most general common instance, whatever variables the row repeats.
pub solves-common : {row goal : List ℕ} → Below (2 ^ 16) row → Below (2 ^ 16) goal → (Y : List ℕ) → Common row goal Y
    ↔ Solves row (renamed goal) (renamed goal) Y
solves-common {row} {goal} a b Y = (
  λ c. let s = c.first in
      let t = c.second in
      let g = both-goal s.good t.good goal b in
      record {
        by = both s.by t.by;
        good = both-good s.good t.good;
        same = both-row s.good t.good row a ∙ s.same ∙ sym t.same
            ∙ sym g;
        gives = g ∙ t.same;
      },
  λ u. record {
    first = record { by = u.by; good = u.good; same = u.same ∙ u.gives };
    second = record { by = moved u.by; good = moved-good u.good; same = moved_same u.good goal b ∙ u.gives };
  },
)

-- It has no variables but theirs.
pub unified-general : {k : ℕ} {row goal : List ℕ} → Terms k row → Terms k (renamed goal) → Below (2 ^ 16) row → Below (2 ^ 16) goal → Matches row goal
    → (T : List ℕ) × MostGeneral row goal T × ((vs : List ℕ) → Within vs row → Within vs (renamed goal) → Within vs T)
unified-general {row = row} {goal = goal} t u a b m =
    let G = renamed goal in
    go (solve (length (row ++ G)) row G G)
    ((solve-right (length (row ++ G))).right G t u (record { found = λ c n v. mathlib.Core.List.Memᴰ.append_left G n })
    (record { found = λ c n v. mathlib.Core.List.Memᴰ.append_right row n }) (omega arith))
  where
    go : (x : Built) → Solved row (renamed goal) (renamed goal) x
        → (T : List ℕ) × MostGeneral row goal T × ((vs : List ℕ) → Within vs row → Within vs (renamed goal) → Within vs T)
    go (built T) (solved f w) = (T, most-general (λ Y. (λ c. (f Y).0 ((solves-common a b Y).0 c), λ i. (solves-common a b Y).1 ((f Y).1 i))), λ vs p q. w vs p q q)
    go apart (unsolved f) = let c = matches-common b m in absurd (f c.0 ((solves-common a b c.0).0 c.1))
