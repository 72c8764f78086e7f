-- The cheapest place as it is found, one place after another, is the first at which the price is least.
use mathlib.Core.Path.{◌≡◌, refl, sym, ap, ◌∙◌}
use mathlib.Core.Logic.{◌≢◌}
use mathlib.Core.List.{List}
use mathlib.Core.Bool.{Bool, true, false, true≢false}
use Prim.Native.Nat.{ℕ, zero, suc, ◌≤◌, ◌<◌}
use native.Mathlib.Omega.{arith}
use lib.Dec.{ltb}
use borrow.Author.Tests.{ltb-true, ltb-false, lt-ltb}
use Rattle.least.specs.code.Best.{argmin, least_over}
use Rattle.least.proofs.Minimum.{argmin-within, argmin-first}
use Rattle.paircosts.specs.declared.arrays.Note.{Note}
use Rattle.paircosts.specs.declared.arrays.Row.{Row}
use Rattle.paircosts.specs.declared.arrays.Found.{Found}
use Rattle.paircosts.specs.declared.arrays.Part.{Part}
use Rattle.paircosts.specs.declared.arrays.Asked.{Asked}
use Rattle.paircosts.specs.code.Reading.{choice_of, base_of, found_of, part_of, sort_of, too_much, best_to, found_to, choice_over, Range, Inside, Sorted}

module _ (ok : ℕ → Bool) (F : ℕ → ℕ) where
  -- of the places 0 .. k none may be chosen, or the first least of those that may be is found
  data BestAt (k : ℕ) : Type 0 where
    none_yet : ((j : ℕ) → j ≤ k → ok j ≡ false) → best_to ok F (suc k) ≡ choice_of too_much 0 → BestAt k
    best-yet : ok (argmin ok k F) ≡ true → best_to ok F (suc k) ≡ choice_of (F (argmin ok k F)) (argmin ok k F) → BestAt k

  upto : (k : ℕ) → ((j : ℕ) → j ≤ k → ok j ≡ false) → ok (suc k) ≡ false → (j : ℕ) → j ≤ suc k → ok j ≡ false
  upto k n e j h = go (ltb k j) refl
    where
      go : (b : Bool) → ltb k j ≡ b → ok j ≡ false
      go true q = let z : j ≡ suc k = omega (arith, ltb-true k j q) in rw z e
      go false q = n j (ltb-false k j q)

  best-zero : (b : Bool) → ok 0 ≡ b → (ok 0 ≡ true → F 0 < too_much) → BestAt 0
  unfolding best_to argmin
  best-zero true e h = best-yet e (rw (e, lt-ltb (F 0) too_much (h e)))
  best-zero false e h = none_yet (λ j l. (let z : j ≡ 0 = omega arith in rw z e)) (rw e)

  -- one place more
  best-step : (k : ℕ) (b : Bool) → ok (suc k) ≡ b → (ok (suc k) ≡ true → F (suc k) < too_much) → BestAt k → BestAt (suc k)
  unfolding best_to argmin
  best-step k false e h (none_yet n q) = none_yet (upto k n e) (rw e q)
  best-step k false e h (best-yet y q) = best-yet (rw e y) (rw e q)
  best-step k true e h (none_yet n q) =
      let o : ok (argmin ok k F) ≡ false = n (argmin ok k F) (argmin-within ok F k) in
      best-yet (rw (e, o) e) (rw (e, o, q, lt-ltb (F (suc k)) too_much (h e)))
  best-step k true e h (best-yet y q) = go (ltb (F (suc k)) (F (argmin ok k F))) refl
    where
      go : (t : Bool) → ltb (F (suc k)) (F (argmin ok k F)) ≡ t → BestAt (suc k)
      go true l = best-yet (rw (e, y, l) e) (rw (e, y, q, l))
      go false l = best-yet (rw (e, y, l) y) (rw (e, y, q, l))

  best-at : (k : ℕ) → ((p : ℕ) → p ≤ k → ok p ≡ true → F p < too_much) → BestAt k
  best-at zero h = best-zero (ok 0) refl (h 0 (omega arith))
  best-at (suc k) h = best-step k (ok (suc k)) refl (h (suc k) (omega arith)) (best-at k (λ p l. h p (omega arith)))

  -- WHERE ONE MAY BE CHOSEN it is least's choice
  pub best-is : (k j : ℕ) → j < k → ok j ≡ true → ((p : ℕ) → p < k → ok p ≡ true → F p < too_much) → best_to ok F k ≡ choice_over ok F k
  best-is zero j l y h = absurd (omega arith)
  best-is (suc k) j l y h = go (best-at k (λ p m. h p (omega arith)))
    where
      go : BestAt k → best_to ok F (suc k) ≡ choice_over ok F (suc k)
      go (none_yet n q) = absurd (true≢false (sym y ∙ n j (omega arith)))
      go (best-yet z q) = q

  -- and no more than each of these prices
  pub least-few : (n k : ℕ) → (0 < k → (j : ℕ) × (j < k) × (ok j ≡ true)) → ((p : ℕ) → p < k → ok p ≡ true → F p ≤ n) → least_over ok k F ≤ n
  least-few n zero s h = omega arith
  least-few n (suc k) s h =
      let j = s (omega arith) in
      let a = argmin-first ok F k j.0 (omega (arith, j.1)) j.2 in
      h (argmin ok k F) (omega (arith, a.within)) a.chosen

-- a pair by its sort
module _ {marks kept : List ℕ} {notes : List Note} {row : Row} {part : Part} {asked : Asked} (g : Sorted marks kept notes row part asked) where
  pub none-yet-is : choice_of too_much 0 ≡ best_to g.pair.ok g.pair.prices 0
  unfolding best_to
  none-yet-is = refl

  abbrev pub all-range : part.only ≡ false → Range marks kept notes row (base_of part.agreed asked.figure) (found_of (choice_of too_much 0) 0)
  all-range e = record {
    pair = g.pair;
    opens = g.opens;
    weight = (g.all e).0;
    shown = (g.all e).1;
    so_far = none-yet-is;
    within = (g.within, omega arith);
  }

  abbrev pub all-inside : part.only ≡ true → Inside marks kept notes row (base_of part.agreed asked.figure) asked.named
  all-inside e = record {
    pair = g.pair;
    width = (g.inside e).1;
    opens = g.opens;
    weight = (g.inside e).2;
    shown = (g.inside e).3;
    within = g.within;
  }

  module _ (found : Found) (e : found ≡ found_to g.pair.ok g.pair.prices g.opens) where
    place_is : found.place ≡ g.opens
    place_is = ap (λ (f : Found). f.place) e

    pub best-some : 0 < g.opens → found.best ≡ choice_over g.pair.ok g.pair.prices g.opens
    best-some h =
        let j = g.some h in
        ap (λ (f : Found). f.best) e
        ∙ best-is g.pair.ok g.pair.prices g.opens j.0 j.1 j.2 (λ p l y. omega (arith, g.cheap p l y))

    pub best-open : found.place ≢ 0 → found.best ≡ choice_over g.pair.ok g.pair.prices g.opens
    best-open ne = best-some (go g.opens place_is)
      where
        go : (k : ℕ) → found.place ≡ k → 0 < k
        go zero q = absurd (ne q)
        go (suc k) q = omega arith

    pub best_none : found.place ≡ 0 → choice_of 0 0 ≡ choice_over g.pair.ok g.pair.prices g.opens
    best_none q = let z : g.opens ≡ 0 = sym place_is ∙ q in rw z

-- what is closed, by its sort
pub part-some : (agreed : ℕ) {weight : ℕ} {b : Bool} (part : Part) → part ≡ part_of weight b → part.only ≡ true → part ≡ sort_of agreed weight b
part-some agreed {b = b} part e o = let q : b ≡ true = sym (ap (λ (p : Part). p.only) e) ∙ o in rw q (rw q at e)

pub part_none : (agreed : ℕ) {weight : ℕ} {b : Bool} (part : Part) → part ≡ part_of weight b → part.only ≡ false → part_of agreed false ≡ sort_of agreed weight b
part_none agreed {b = b} part e o = let q : b ≡ false = sym (ap (λ (p : Part). p.only) e) ∙ o in rw q
