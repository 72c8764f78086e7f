-- Variables renumbered by first appearance: what comes out is numbered, and is a variant of what went in.
use Prim.Native.Nat.{ℕ, zero, suc, ◌^◌, ◌≤◌, ◌<◌}
use mathlib.Core.Path.{◌≡◌, refl, sym, ◌∙◌, ap, subst}
use mathlib.Core.Logic.{◌≢◌, ⊎_elim, by_cases}
use mathlib.Core.Bool.{true, false, cond, ◌&&◌}
use mathlib.Core.List.Memᴰ
use mathlib.Core.List.{List, [], ◌∷◌, ◌++◌, map, Memᴰ}
use native.Mathlib.Omega.{arith}
use native.Mathlib.Decide.{dec_lt}
use lib.Dec.{eqb, ltb}
use lib.ListN.{length, get_or, length-append}
use borrow.Author.Tests.{eqb-true, ne_eqb, lt-ltb, ltb-true}
use Rattle.cell.specs.Cell.{is_var}
use Rattle.cell.proofs.CellLaws.{var-small}
use Rattle.term.specs.Terms.{Terms}
use Rattle.term.specs.Unify.{inst, Subst}
use Rattle.term.proofs.Tests.{bool_cases, cond-case, eqb_same}
use Rattle.term.proofs.Inst.{Terms-var}
use Rattle.table.specs.Table.{count, appear, up_from}
use Rattle.table.proofs.HeadLaws.{up-length}
use Rattle.answer.proofs.CountLaws.{count_same, count-other}
use Rattle.instance.specs.Instance.{Instance}
use Rattle.instance.specs.Reply.{Numbered}
use Rattle.instance.specs.Rewrite.{place, meet, number_from}
use Rattle.instance.proofs.Variants.{inst-map}

-- A list of the variables met, each found where it stands.

pub place-most : (v : ℕ) (met : List ℕ) → place v met ≤ length met
unfolding place
place-most v [] = omega arith
place-most v (c ∷ met) = cond-case (eqb v c) (λ (n : ℕ). n ≤ suc (length met)) (λ e. omega arith) (λ e. omega (arith, place-most v met))

pub place_at : (v : ℕ) (met : List ℕ) → place v met < length met → get_or met (place v met) 0 ≡ v
unfolding place
place_at v [] h = absurd (omega arith)
place_at v (c ∷ met) h = ⊎_elim
    (λ e. rw e (sym (eqb-true v c e)))
    (λ e. let l : suc (place v met) < suc (length met) = rw e at h in rw e (place_at v met (omega arith)))
    (bool_cases (eqb v c))

-- one that is met already changes nothing
pub meet-old : (v : ℕ) (met : List ℕ) → place v met < length met → meet v met ≡ met
unfolding place meet
meet-old v [] h = absurd (omega arith)
meet-old v (c ∷ met) h = ⊎_elim
    (λ e. rw e)
    (λ e. let l : suc (place v met) < suc (length met) = rw e at h in rw e (ap (λ (m : List ℕ). c ∷ m) (meet-old v met (omega arith))))
    (bool_cases (eqb v c))

-- a new one comes last
pub meet-new : (v : ℕ) (met : List ℕ) → place v met ≡ length met → meet v met ≡ met ++ (v ∷ [])
unfolding place meet
meet-new v [] h = refl
meet-new v (c ∷ met) h = ⊎_elim
    (λ e. let l : ◌≡◌ {A = ℕ} 0 (suc (length met)) = rw e at h in absurd (omega arith))
    (λ e. let l : suc (place v met) ≡ suc (length met) = rw e at h in rw e (ap (λ (m : List ℕ). c ∷ m) (meet-new v met (omega arith))))
    (bool_cases (eqb v c))

meet-here : (v : ℕ) (met : List ℕ) → (place v (meet v met) ≡ place v met) × (place v met < length (meet v met))
unfolding place meet
meet-here v [] = (rw (eqb_same v), omega arith)
meet-here v (c ∷ met) = ⊎_elim
    (λ e. rw e (rw e, omega arith))
    (λ e. let i = meet-here v met in rw e (rw e (ap suc i.0), omega arith))
    (bool_cases (eqb v c))

meet-long : (v : ℕ) (met : List ℕ) → length met ≤ length (meet v met)
unfolding meet
meet-long v [] = omega arith
meet-long v (c ∷ met) = cond-case (eqb v c) (λ (l : List ℕ). suc (length met) ≤ length l) (λ e. omega arith) (λ e. omega (arith, meet-long v met))

meet-keeps : (u v : ℕ) (met : List ℕ) → place u met < length met → place u (meet v met) ≡ place u met
unfolding place meet
meet-keeps u v [] h = absurd (omega arith)
meet-keeps u v (c ∷ met) h = ⊎_elim
    (λ e. rw e)
    (λ e. rw e (⊎_elim
    (λ d. rw d)
    (λ d. let l : suc (place u met) < suc (length met) = rw d at h in rw d (ap suc (meet-keeps u v met (omega arith))))
    (bool_cases (eqb u c))))
    (bool_cases (eqb v c))

-- all that are met in the end
unfoldable pub final : List ℕ → List ℕ → List ℕ
final met [] = met
final met (c ∷ xs) = let more = final (meet c met) xs in let rest = final met xs in cond (is_var c) more rest

final-long : (met xs : List ℕ) → length met ≤ length (final met xs)
unfolding final
final-long met [] = omega arith
final-long met (c ∷ xs) =
    cond-case (is_var c) (λ (l : List ℕ). length met ≤ length l) (λ e. omega (arith, meet-long c met, final-long (meet c met) xs)) (λ e. final-long met xs)

final-keeps : (v : ℕ) (met xs : List ℕ) → place v met < length met → place v (final met xs) ≡ place v met
unfolding final
final-keeps v met [] h = refl
final-keeps v met (c ∷ xs) h =
    let k = meet-keeps v c met h in
    cond-case (is_var c) (λ (l : List ℕ). place v l ≡ place v met)
    (λ e. final-keeps v (meet c met) xs (omega (arith, k, meet-long c met)) ∙ k)
    (λ e. final-keeps v met xs h)

-- the number of a variable that stands in the list is the one that it had when it was met
final-here : (v : ℕ) (met xs : List ℕ) → (place v (final (meet v met) xs) ≡ place v met) × (place v met < length (final (meet v met) xs))
final-here v met xs =
    let i = meet-here v met in
    (final-keeps v (meet v met) xs (omega arith) ∙ i.0, omega (arith, final-long (meet v met) xs))

final-has : (met xs : List ℕ) (c : ℕ) → Memᴰ c xs → is_var c ≡ true → place c (final met xs) < length (final met xs)
unfolding final
final-has met [] c m v = absurd (Memᴰ.not-nil m)
final-has met (d ∷ xs) c m v = ⊎_elim
    (λ p. let w : is_var d ≡ true = rw p at v in rw w (let i = final-here d met xs in rw p (omega arith)))
    (λ q. cond-case (is_var d) (λ (l : List ℕ). place c l < length l) (λ e. final-has (meet d met) xs c q v) (λ e. final-has met xs c q v))
    (Memᴰ.cases_cons m)

-- A renumbered list is the list with each variable's place among all of them.
numbering : List ℕ → ℕ → ℕ
numbering F c = cond (is_var c) (place c F) c

final-var : (met xs : List ℕ) (c : ℕ) → is_var c ≡ true → final met (c ∷ xs) ≡ final (meet c met) xs
unfolding final
final-var met xs c v = rw v

final-symbol : (met xs : List ℕ) (c : ℕ) → is_var c ≡ false → final met (c ∷ xs) ≡ final met xs
unfolding final
final-symbol met xs c v = rw v

numbers-map : (met xs : List ℕ) → number_from met xs ≡ map (numbering (final met xs)) xs
unfolding number_from final numbering
numbers-map met [] = refl
numbers-map met (c ∷ xs) = ⊎_elim
    (λ v. subst (λ (F : List ℕ). number_from met (c ∷ xs) ≡ map (numbering F) (c ∷ xs)) (sym (final-var met xs c v))
    (rw v (ap (λ (n : ℕ). n ∷ number_from (meet c met) xs) (sym (final-here c met xs).0)
    ∙ ap (λ (l : List ℕ). place c (final (meet c met) xs) ∷ l) (numbers-map (meet c met) xs))))
    (λ v. subst (λ (F : List ℕ). number_from met (c ∷ xs) ≡ map (numbering F) (c ∷ xs)) (sym (final-symbol met xs c v))
    (rw v (ap (λ (l : List ℕ). c ∷ l) (numbers-map met xs))))
    (bool_cases (is_var c))

record Vars (met : List ℕ) : Type 0 where
  pub each : (i : ℕ) → i < length met → is_var (get_or met i 0) ≡ true

vars-cons : {c : ℕ} {met : List ℕ} → is_var c ≡ true → Vars met → Vars (c ∷ met)
vars-cons {c} {met} v w = record { each = go }
  where
    go : (i : ℕ) → i < suc (length met) → is_var (get_or (c ∷ met) i 0) ≡ true
    go zero h = v
    go (suc i) h = w.each i (omega arith)

vars-tail : {c : ℕ} {met : List ℕ} → Vars (c ∷ met) → (is_var c ≡ true) × Vars met
vars-tail w = (w.each 0 (omega arith), record { each = λ i h. w.each (suc i) (omega arith) })

vars-meet : (v : ℕ) (met : List ℕ) → is_var v ≡ true → Vars met → Vars (meet v met)
unfolding meet
vars-meet v [] h w = vars-cons h w
vars-meet v (c ∷ met) h w =
    let t = vars-tail w in
    cond-case (eqb v c) Vars (λ e. w) (λ e. vars-cons t.0 (vars-meet v met h t.1))

vars-final : (met xs : List ℕ) → Vars met → Vars (final met xs)
unfolding final
vars-final met [] w = w
vars-final met (c ∷ xs) w = cond-case (is_var c) Vars (λ e. vars-final (meet c met) xs (vars-meet c met e w)) (λ e. vars-final met xs w)

-- there and back
module _ (F : List ℕ) (w : Vars F) (few : length F ≤ 2 ^ 30) where
  forth : ℕ → List ℕ
  forth c = cond (is_var c && ltb (place c F) (length F)) (place c F ∷ []) (c ∷ [])

  return : ℕ → List ℕ
  return d = cond (is_var d && ltb d (length F)) (get_or F d 0 ∷ []) (d ∷ [])

  forth-good : Subst forth
  unfolding forth
  forth-good = record {
    vars =
        λ c v. rw v (cond-case (ltb (place c F) (length F)) (Terms 1)
        (λ e. Terms-var (var-small (place c F) (omega (arith, ltb-true (place c F) (length F) e)))) (λ e. Terms-var v));
    symbols = λ c v. rw v;
  }

  return-good : Subst return
  unfolding return
  return-good = record {
    vars = λ d v. rw v (cond-case (ltb d (length F)) (Terms 1) (λ e. Terms-var (w.each d (ltb-true d (length F) e))) (λ e. Terms-var v));
    symbols = λ d v. rw v;
  }

  forth-is : (c : ℕ) → (is_var c ≡ true → place c F < length F) → forth c ≡ numbering F c ∷ []
  unfolding forth numbering
  forth-is c h = ⊎_elim (λ (v : is_var c ≡ true). rw (v, lt-ltb (place c F) (length F) (h v))) (λ (v : is_var c ≡ false). rw v) (bool_cases (is_var c))

  return-is : (c : ℕ) → (is_var c ≡ true → place c F < length F) → return (numbering F c) ≡ c ∷ []
  unfolding return numbering
  return-is c h = ⊎_elim
      (λ (v : is_var c ≡ true). let l = h v in let i : is_var (place c F) ≡ true = var-small (place c F) (omega arith) in
      rw (v, i, lt-ltb (place c F) (length F) l, place_at c F l))
      (λ (v : is_var c ≡ false). rw (v, v))
      (bool_cases (is_var c))

inst_back : (τ : ℕ → List ℕ) (f : ℕ → ℕ) (xs : List ℕ) → ((c : ℕ) → Memᴰ c xs → τ (f c) ≡ c ∷ []) → inst τ (map f xs) ≡ xs
unfolding inst
inst_back τ f [] h = refl
inst_back τ f (c ∷ xs) h = rw (h c (Memᴰ.head refl)) (ap (λ (l : List ℕ). c ∷ l) (inst_back τ f xs (λ d m. h d (Memᴰ.tail m))))

no-vars : Vars []
no-vars = record { each = λ i h. absurd (let z : ⊥ = omega arith in z) }

module _ (xs : List ℕ) (few : length (final [] xs) ≤ 2 ^ 30) where
  all : List ℕ
  all = final [] xs

  all-vars : Vars all
  unfolding all
  all-vars = vars-final [] xs no-vars

  all-few : length all ≤ 2 ^ 30
  unfolding all
  all-few = few

  all-has : (c : ℕ) → Memᴰ c xs → is_var c ≡ true → place c all < length all
  unfolding all
  all-has = final-has [] xs

  are-numbers : number_from [] xs ≡ map (numbering all) xs
  unfolding all
  are-numbers = numbers-map [] xs

  -- a renumbered list is a variant
  pub numbers-instance : Instance xs (number_from [] xs)
  numbers-instance = record {
    by = forth all all-vars all-few;
    good = forth-good all all-vars all-few;
    same = inst-map (forth all all-vars all-few) (numbering all) xs (λ c m. forth-is all all-vars all-few c (all-has c m)) ∙ sym are-numbers;
  }

  pub instance-numbers : Instance (number_from [] xs) xs
  instance-numbers = record {
    by = return all all-vars all-few;
    good = return-good all all-vars all-few;
    same =
        ap (inst (return all all-vars all-few)) are-numbers
        ∙ inst_back (return all all-vars all-few) (numbering all) xs (λ c m. return-is all all-vars all-few c (all-has c m));
  }

-- And it is numbered. `ms` are the numbers given out: those below the number of variables met
record Given (met ms : List ℕ) : Type 0 where
  pub old : (i : ℕ) → i < length met → count i ms ≢ 0
  pub new : (i : ℕ) → length met ≤ i → count i ms ≡ 0

appear-old : (c : ℕ) (ms xs : List ℕ) → count c ms ≢ 0 → appear ms (c ∷ xs) ≡ appear ms xs
unfolding appear
appear-old c ms xs h = ⊎_elim (λ (v : is_var c ≡ true). rw (v, ne_eqb (count c ms) 0 h)) (λ (v : is_var c ≡ false). rw v) (bool_cases (is_var c))

appear-new : (c : ℕ) (ms xs : List ℕ) → is_var c ≡ true → count c ms ≡ 0 → appear ms (c ∷ xs) ≡ c ∷ appear (c ∷ ms) xs
unfolding appear
appear-new c ms xs v h = rw (v, h)

appear-symbol : (c : ℕ) (ms xs : List ℕ) → is_var c ≡ false → appear ms (c ∷ xs) ≡ appear ms xs
unfolding appear
appear-symbol c ms xs v = rw v

given-more : {met ms : List ℕ} (v : ℕ) → place v met ≡ length met → Given met ms → Given (meet v met) (length met ∷ ms)
unfolding count
given-more {met} {ms} v e g =
    let l : length (meet v met) ≡ suc (length met) = ap length (meet-new v met e) ∙ length-append met (v ∷ []) ∙ omega arith in
    record {
      old = λ i h. by_cases (dec_lt i (length met))
          (λ a z. g.old i a (omega arith))
          (λ a z. let q : i ≡ length met = omega arith in omega (arith, count_same (length met) ms, ap (λ (k : ℕ). count k (length met ∷ ms)) q));
      new = λ i h. count-other i (length met) ms (λ q. omega arith) ∙ g.new i (omega arith);
    }

-- no more variables are met after a cell than with it
module _ (c : ℕ) (met xs : List ℕ) where
  few-new : is_var c ≡ true → length (final met (c ∷ xs)) ≤ 2 ^ 30 → length (final (meet c met) xs) ≤ 2 ^ 30
  unfolding final
  few-new v few = rw v at few

  few-old : is_var c ≡ true → place c met < length met → length (final met (c ∷ xs)) ≤ 2 ^ 30 → length (final met xs) ≤ 2 ^ 30
  few-old v l few = rw (meet-old c met l) at (few-new v few)

  few-symbol : is_var c ≡ false → length (final met (c ∷ xs)) ≤ 2 ^ 30 → length (final met xs) ≤ 2 ^ 30
  unfolding final
  few-symbol v few = rw v at few

numbered-from : (met ms xs : List ℕ) → Given met ms → length (final met xs) ≤ 2 ^ 30 → (n : ℕ) × (appear ms (number_from met xs) ≡ up_from (length met) n)
unfolding number_from up_from appear
numbered-from met ms [] g few = (0, refl)
numbered-from met ms (c ∷ xs) g few = ⊎_elim
    (λ v. by_cases (dec_lt (place c met) (length met))
    (λ l. let r = numbered-from met ms xs g (few-old c met xs v l few) in
    (r.0, rw (v, meet-old c met l) (appear-old (place c met) ms (number_from met xs) (g.old (place c met) l) ∙ r.1)))
    (λ l.
    let e : place c met ≡ length met = omega (arith, place-most c met) in
    let k : length (meet c met) ≡ suc (length met) = ap length (meet-new c met e) ∙ length-append met (c ∷ []) ∙ omega arith in
    let f = few-new c met xs v few in
    let low : length met < 2 ^ 30 = omega (arith, f, k, final-long (meet c met) xs) in
    let r = numbered-from (meet c met) (length met ∷ ms) xs (given-more c e g) f in
    let N : List ℕ = number_from (meet c met) xs in
    let z : count (place c met) ms ≡ 0 = ap (λ (y : ℕ). count y ms) e ∙ g.new (length met) (omega arith) in (
      suc r.0,
      rw v (appear-new (place c met) ms N (var-small (place c met) (omega arith)) z
          ∙ ap (λ (y : ℕ). y ∷ appear (y ∷ ms) N) e ∙ ap (λ (y : List ℕ). length met ∷ y) (r.1 ∙ ap (λ (y : ℕ). up_from y r.0) k)),
    )))
    (λ v. let r = numbered-from met ms xs g (few-symbol c met xs v few) in (r.0, rw v (appear-symbol c ms (number_from met xs) v ∙ r.1)))
    (bool_cases (is_var c))

pub numbers-numbered : (xs : List ℕ) → length (final [] xs) ≤ 2 ^ 30 → Numbered (number_from [] xs)
unfolding count
numbers-numbered xs few =
    let r = numbered-from [] [] xs (record { old = λ i h. absurd (let z : ⊥ = omega arith in z); new = λ i h. refl }) few in
    let e : length (appear [] (number_from [] xs)) ≡ r.0 = ap length r.1 ∙ up-length 0 r.0 in
    r.1 ∙ ap (up_from 0) (sym e)
