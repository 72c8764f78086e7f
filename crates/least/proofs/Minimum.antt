-- The first of the places 0 .. k that may be chosen at which a function is least, and its value there.
use mathlib.Core.Path.{◌≡◌, refl, sym, ◌∙◌}
use mathlib.Core.Bool.{Bool, true, false, cond, true≢false, not, ◌&&◌, ◌||◌}
use Prim.Native.Nat.{ℕ, zero, suc, ◌≤◌, ◌<◌}
use native.Mathlib.Omega.{arith}
use lib.Dec.{leb, ltb}
use borrow.Author.Tests.{leb-true, leb-false, ltb-true, ltb-false}
use Rattle.least.specs.code.Best.{better, argmin}

-- the place i of 0 .. k is the first that may be chosen at which F is least
pub record First (ok : ℕ → Bool) (k : ℕ) (F : ℕ → ℕ) (i : ℕ) : Type 0 where
  pub within : i ≤ k
  pub chosen : ok i ≡ true
  pub least : (j : ℕ) → j ≤ k → ok j ≡ true → F i ≤ F j
  pub before : (j : ℕ) → j < i → ok j ≡ true → F i < F j

-- so it is, or none of these places may be chosen
pub data Found (ok : ℕ → Bool) (k : ℕ) (F : ℕ → ℕ) (i : ℕ) : Type 0 where
  there : First ok k F i → Found ok k F i
  nowhere : i ≤ k → ((j : ℕ) → j ≤ k → ok j ≡ false) → Found ok k F i

-- a property of each place up to suc k, from each up to k and the last
upto : (k : ℕ) (P : ℕ → Type 0) → ((j : ℕ) → j ≤ k → P j) → P (suc k) → (j : ℕ) → j ≤ suc k → P j
upto k P f p j h = go (leb j k) refl
  where
    go : (b : Bool) → leb j k ≡ b → P j
    go true e = f j (leb-true j k e)
    go false e = let q : j ≡ suc k = omega (arith, leb-false j k e) in rw q p

no-yes : {b : Bool} → b ≡ false → b ≡ true → ⊥
no-yes e q = true≢false (sym q ∙ e)

module _ (ok : ℕ → Bool) (F : ℕ → ℕ) where
  -- one place more, by whether it may be chosen and whether it costs less
  step-there : (k i : ℕ) → First ok k F i → (b c : Bool) → ok (suc k) ≡ b → ltb (F (suc k)) (F i) ≡ c
      → First ok (suc k) F (cond (b && (not (ok i) || c)) (suc k) i)
  step-there k i a b c e q = rw a.chosen (go b c e q)
    where
      go : (b c : Bool) → ok (suc k) ≡ b → ltb (F (suc k)) (F i) ≡ c → First ok (suc k) F (cond (b && c) (suc k) i)
      go false c e q = record {
        within = omega (arith, a.within);
        chosen = a.chosen;
        least = upto k (λ (j : ℕ). ok j ≡ true → F i ≤ F j) a.least (λ y. absurd (no-yes e y));
        before = a.before;
      }
      go true false e q = record {
        within = omega (arith, a.within);
        chosen = a.chosen;
        least = upto k (λ (j : ℕ). ok j ≡ true → F i ≤ F j) a.least (λ y. ltb-false (F (suc k)) (F i) q);
        before = a.before;
      }
      go true true e q =
          let l : F (suc k) < F i = ltb-true (F (suc k)) (F i) q in
          record {
            within = omega arith;
            chosen = e;
            least = upto k (λ (j : ℕ). ok j ≡ true → F (suc k) ≤ F j) (λ j h y. omega (arith, a.least j h y)) (λ y. omega arith);
            before = λ j h y. omega (arith, a.least j (omega arith) y);
          }

  step-nowhere : (k i : ℕ) → i ≤ k → ((j : ℕ) → j ≤ k → ok j ≡ false) → (b c : Bool) → ok (suc k) ≡ b
      → Found ok (suc k) F (cond (b && (not (ok i) || c)) (suc k) i)
  step-nowhere k i l n true c e = rw (n i l) (there (record {
    within = omega arith;
    chosen = e;
    least = upto k (λ (j : ℕ). ok j ≡ true → F (suc k) ≤ F j) (λ j h y. absurd (no-yes (n j h) y)) (λ y. omega arith);
    before = λ j h y. absurd (no-yes (n j (omega arith)) y);
  }))
  step-nowhere k i l n false c e = nowhere (omega arith) (upto k (λ (j : ℕ). ok j ≡ false) n e)

  found-zero : (b : Bool) → ok 0 ≡ b → Found ok 0 F 0
  found-zero true e = there (record {
    within = omega arith;
    chosen = e;
    least = λ j h y. (let q : j ≡ 0 = omega arith in rw q (omega arith));
    before = λ j h y. absurd (omega arith);
  })
  found-zero false e = nowhere (omega arith) (λ j h. (let q : j ≡ 0 = omega arith in rw q e))

  pub argmin-found : (k : ℕ) → Found ok k F (argmin ok k F)
  unfolding argmin
  argmin-found zero = found-zero (ok 0) refl
  argmin-found (suc k) = go (argmin-found k)
    where
      go : Found ok k F (argmin ok k F) → Found ok (suc k) F (cond (better ok F (argmin ok k F) (suc k)) (suc k) (argmin ok k F))
      go (there a) = there (step-there k (argmin ok k F) a (ok (suc k)) (ltb (F (suc k)) (F (argmin ok k F))) refl refl)
      go (nowhere l n) = step-nowhere k (argmin ok k F) l n (ok (suc k)) (ltb (F (suc k)) (F (argmin ok k F))) refl

  pub argmin-within : (k : ℕ) → argmin ok k F ≤ k
  argmin-within k = go (argmin-found k)
    where
      go : Found ok k F (argmin ok k F) → argmin ok k F ≤ k
      go (there a) = a.within
      go (nowhere l n) = l

  pub argmin-first : (k j : ℕ) → j ≤ k → ok j ≡ true → First ok k F (argmin ok k F)
  argmin-first k j h y = go (argmin-found k)
    where
      go : Found ok k F (argmin ok k F) → First ok k F (argmin ok k F)
      go (there a) = a
      go (nowhere l n) = absurd (no-yes (n j h) y)
