-- Variables found and numbered, cell by cell, as the code goes.
use Prim.Native.Nat.{ℕ, zero, suc, ◌+◌, ◌≤◌, ◌<◌}
use mathlib.Core.Path.{◌≡◌, refl, sym, ◌∙◌, ap, subst}
use mathlib.Core.Logic.{◌≢◌, ◌⊎◌, inl, inr, ⊎_elim, by_cases}
use mathlib.Core.Bool.{true, false, ◌&&◌}
use mathlib.Core.List.Memᴰ
use mathlib.Core.List.{List, [], ◌∷◌, ◌++◌, Memᴰ}
use native.Mathlib.Omega.{arith}
use lib.Dec.{eqb, ltb}
use native.Mathlib.Decide.{dec_lt}
use native.Mathlib.Numerals.{add-one}
use lib.ListN.{length, get_or, take, drop, set, length-append, length-drop}
use lib.Seq.{slice, slice-cons, slice_empty, drop-cons, length-take-le, take-suc-set}
use borrow.Author.Tests.{eqb-true, eqb-false, lt-ltb, le-ltb}
use Rattle.cell.specs.Cell.{is_var}
use Rattle.term.proofs.Tests.{bool_cases, cond-case, eqb_same}
use Rattle.term.proofs.Decide.{remove, remove-keeps, remove-shorter}
use Rattle.instance.specs.Rewrite.{place, meet, number_from, number_at, meet_in, number_in}
use Rattle.instance.specs.code.Meet.{Few}
use Rattle.instance.proofs.Numbering.{final, place-most, meet-old, meet-new}

slice-next : (xs : List ℕ) (i e : ℕ) → i < e → e ≤ length xs → slice i e xs ≡ get_or xs i 0 ∷ slice (i + 1) e xs
slice-next xs i e l h = rw add-one (slice-cons i e xs 0 l h)

slice-none : (xs : List ℕ) (i e : ℕ) → i ≡ e → slice i e xs ≡ []
slice-none xs i e p = rw p (slice_empty e xs)

module _ (v : ℕ) (xs : List ℕ) (i e : ℕ) where
  pub place_here : i < e → e ≤ length xs → get_or xs i 0 ≡ v → place v (slice i e xs) ≡ 0
  unfolding place
  place_here l h p = rw (slice-next xs i e l h, p, eqb_same v)

  pub place-there : i < e → e ≤ length xs → get_or xs i 0 ≢ v → place v (slice i e xs) ≡ suc (place v (slice (i + 1) e xs))
  unfolding place
  place-there l h p = ⊎_elim
      (λ (b : eqb v (get_or xs i 0) ≡ true). absurd (p (sym (eqb-true v (get_or xs i 0) b))))
      (λ (b : eqb v (get_or xs i 0) ≡ false). rw (slice-next xs i e l h, b))
      (bool_cases (eqb v (get_or xs i 0)))

  pub place_none : i ≡ e → place v (slice i e xs) ≡ 0
  unfolding place
  place_none p = rw (slice-none xs i e p)

-- the next cell of a list that is numbered
pub number-cell : (n : ℕ) (met xs : List ℕ) (i : ℕ) → i < length xs
    → number_in n met (drop i xs) ≡ number_at met (get_or xs i 0) ∷ number_in n (meet_in n (get_or xs i 0) met) (drop (i + 1) xs)
unfolding number_in
number-cell n met xs i h = rw (drop-cons xs i 0 h, add-one i)

pub number-long : (n : ℕ) (met xs : List ℕ) → length (number_in n met xs) ≡ length xs
unfolding number_in
number-long n met [] = refl
number-long n met (c ∷ xs) = ap suc (number-long n (meet_in n c met) xs)

-- and of the list that it becomes
pub number-next : (W : List ℕ) (i : ℕ) {x : ℕ} {ys zs : List ℕ} → zs ≡ drop i W → zs ≡ x ∷ ys
    → (i < length W) × (x ≡ get_or W i 0) × (ys ≡ drop (i + 1) W)
number-next [] i e f = absurd (omega (arith, ap length (sym f ∙ e), length-drop {A = ℕ} i []))
number-next (w ∷ W) zero {x} {ys} e f = let p : x ≡ w = cc in let q : ys ≡ W = cc in (omega arith, p, q)
number-next (w ∷ W) (suc i) e f =
    let r = number-next W i e f in
    let k : suc i + 1 ≡ suc (i + 1) = omega arith in
    (omega (arith, r.0), r.1, rw k r.2)

-- the variables not met yet
place_found : (v : ℕ) (met : List ℕ) → Memᴰ v met → place v met < length met
unfolding place
place_found v [] m = absurd (Memᴰ.not-nil m)
place_found v (c ∷ met) m = ⊎_elim
    (λ (b : eqb v c ≡ true). rw b (omega arith))
    (λ (b : eqb v c ≡ false). rw b (⊎_elim (λ p. absurd (eqb-false v c b p)) (λ q. let h = place_found v met q in omega arith) (Memᴰ.cases_cons m)))
    (bool_cases (eqb v c))

pub record Unmet (n : ℕ) (met xs : List ℕ) : Type 0 where
  pub vars : List ℕ
  pub found : (c : ℕ) → Memᴰ c xs → is_var c ≡ true → Memᴰ c met ⊎ Memᴰ c vars
  pub few : length met + length vars ≤ n

pub unmet-start : {n : ℕ} {xs : List ℕ} → Few n xs → Unmet n [] xs
unmet-start f = record { vars = f.vars; found = λ c m v. inr (f.found.found c m v); few = omega (arith, f.few) }

pub unmet-next : {n c : ℕ} {met xs : List ℕ} → Unmet n met (c ∷ xs) → Unmet n met xs
unmet-next u = record { vars = u.vars; found = λ x m v. u.found x (Memᴰ.tail m) v; few = u.few }

-- a variable, new or not
pub unmet-variable : {n : ℕ} (c : ℕ) (met : List ℕ) {xs : List ℕ} → is_var c ≡ true → Unmet n met (c ∷ xs)
    → Unmet n (meet c met) xs × (place c met ≡ length met → length met < n)
unmet-variable {n} c met {xs} v u = ⊎_elim
    (λ (h : place c met < length met). (
      subst (λ (l : List ℕ). Unmet n l xs) (sym (meet-old c met h)) (unmet-next u),
      λ e. absurd (let z : ⊥ = omega arith in z),
    ))
    (λ (h : place c met ≡ length met).
    let m = new h in
    let r = remove-shorter c u.vars m in (
      subst (λ (l : List ℕ). Unmet n l xs) (sym (meet-new c met h)) (record {
        vars = remove c u.vars;
        found = λ x i w. split x (bool_cases (eqb x c)) (u.found x (Memᴰ.tail i) w);
        few = omega (arith, r, u.few, length-append met (c ∷ []));
      }),
      λ e. omega (arith, r, u.few),
    ))
    (least (place-most c met))
  where
    least : place c met ≤ length met → (place c met < length met) ⊎ (place c met ≡ length met)
    least h = by_cases (dec_lt (place c met) (length met)) (λ l. inl l) (λ l. inr (omega arith))

    new : place c met ≡ length met → Memᴰ c u.vars
    new h = ⊎_elim (λ m. absurd (let l = place_found c met m in let z : ⊥ = omega arith in z)) (λ m. m) (u.found c (Memᴰ.head refl) v)

    split : (x : ℕ) → (eqb x c ≡ true) ⊎ (eqb x c ≡ false) → Memᴰ x met ⊎ Memᴰ x u.vars
        → Memᴰ x (met ++ (c ∷ [])) ⊎ Memᴰ x (remove c u.vars)
    split x (inl e) q = inl (Memᴰ.append_right met (Memᴰ.head (eqb-true x c e)))
    split x (inr e) (inl m) = inl (Memᴰ.append_left (c ∷ []) m)
    split x (inr e) (inr m) = inr (remove-keeps c u.vars x m (eqb-false x c e))

-- there are no more than that in the end
pub final-few : {n : ℕ} (met xs : List ℕ) → Unmet n met xs → length (final met xs) ≤ n
unfolding final
final-few met [] u = omega (arith, u.few)
final-few {n} met (c ∷ xs) u = cond-case (is_var c) (λ (l : List ℕ). length l ≤ n)
    (λ v. final-few (meet c met) xs (unmet-variable c met v u).0) (λ v. final-few met xs (unmet-next u))

-- one more variable, where there is room for it
met-old : (n c : ℕ) (met : List ℕ) → place c met < length met → meet_in n c met ≡ met
met-old n c met h = cond-case (is_var c && ltb (length met) n) (λ (l : List ℕ). l ≡ met) (λ e. meet-old c met h) (λ e. refl)

met-fits : (n c : ℕ) (met : List ℕ) → is_var c ≡ true → (place c met ≡ length met → length met < n) → meet_in n c met ≡ meet c met
met-fits n c met v f = by_cases (dec_lt (length met) n)
    (λ l. rw (v, lt-ltb (length met) n l))
    (λ l. rw (v, le-ltb (length met) n (omega arith))
    (sym (meet-old c met (by_cases (dec_lt (place c met) (length met)) (λ h. h) (λ h. absurd (l (f (omega (arith, place-most c met)))))))))

-- with room for as many variables as there are
pub number_fits : {n : ℕ} (met xs : List ℕ) → Unmet n met xs → number_in n met xs ≡ number_from met xs
unfolding number_in number_from
number_fits met [] u = refl
number_fits {n} met (c ∷ xs) u = ⊎_elim
    (λ (v : is_var c ≡ true).
    let w = unmet-variable c met v u in
    let e = met-fits n c met v w.1 in
    rw e (rw v (ap (λ (l : List ℕ). place c met ∷ l) (number_fits (meet c met) xs w.0))))
    (λ (v : is_var c ≡ false). rw v (ap (λ (l : List ℕ). c ∷ l) (number_fits met xs (unmet-next u))))
    (bool_cases (is_var c))

-- the variables met stand at the front of a list
module _ (met : List ℕ) (k c : ℕ) (h : k ≤ length met) where
  front_long : length (take k met) ≡ k
  front_long = length-take-le k met h

  pub named-least : place c (take k met) ≤ k
  named-least = omega (arith, place-most c (take k met), front_long)

  pub named-old : (n : ℕ) → place c (take k met) < k → take k met ≡ meet_in n c (take k met)
  named-old n l = sym (met-old n c (take k met) (omega (arith, l, front_long)))

  pub named-full : (n : ℕ) → is_var c ≡ true → n ≤ k → take k met ≡ meet_in n c (take k met)
  named-full n v l = rw (v, le-ltb (length (take k met)) n (omega (arith, front_long)))

  pub named_new : (n : ℕ) → is_var c ≡ true → place c (take k met) ≡ k → k < n → k < length met
      → take (k + 1) (set met k c) ≡ meet_in n c (take k met)
  named_new n v e l m = rw (v, lt-ltb (length (take k met)) n (omega (arith, front_long)))
      (ap (λ (n : ℕ). take n (set met k c)) (add-one k) ∙ take-suc-set met k c m ∙ sym (meet-new c (take k met) (e ∙ sym front_long)))
