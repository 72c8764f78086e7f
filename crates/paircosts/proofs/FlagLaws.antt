-- Flags along a scan of open places: what the scan sees from where it is, and what it leaves as it was.
use mathlib.Core.Path.{◌≡◌, refl, sym, ap, ◌∙◌}
use mathlib.Core.Bool.{Bool, true, false, cond, true≢false, ◌||◌}
use mathlib.Core.List.{List, [], ◌∷◌, ◌++◌}
use Prim.Native.Nat.{ℕ, zero, suc, ◌+◌, ◌-◌, ◌/◌, ◌≤◌, ◌<◌}
use native.Mathlib.Omega.{arith}
use native.Mathlib.Nat.{zero-add}
use lib.Dec.{ltb}
use lib.ListN.{length, replicate}
use borrow.Author.Tests.{ltb-true, ltb-false}
use Rattle.cell.specs.Cell.{arity}
use Rattle.plan.specs.Runs.{Run, runs}
use Rattle.plan.specs.Plans.{Measure}
use Rattle.plan.specs.Named.{flag, spread, any_named}
use Rattle.plan.proofs.NamedLaws.{flag-after, flag-before, none-spread, flag-past, length-past}
use Rattle.state.specs.Flags.{flags_in}
use Rattle.least.specs.code.Pairs.{plus, one_run, scan}
use Rattle.paircosts.specs.code.Reading.{some_to}

-- a flag a times, and then others

own-flag : (a j : ℕ) (f : Bool) (fs : List Bool) → j < a → flag j (replicate a f ++ fs) ≡ f
own-flag zero j f fs h = absurd (omega arith)
own-flag (suc a) zero f fs h = refl
own-flag (suc a) (suc j) f fs h = own-flag a j f fs (omega arith)

-- each argument has its place's flag
flag-in : (i j a : ℕ) (fs : List Bool) → j < a → flag (i + j) (spread i a fs) ≡ flag i fs
flag-in i j a [] h = refl
flag-in zero j a (f ∷ fs) h = rw zero-add (own-flag a j f fs h)
flag-in (suc i) j a (f ∷ fs) h = let e : suc i + j ≡ suc (i + j) = omega arith in rw e (flag-in i j a fs h)

-- whether the places from i on are looked at, one after another
abbrev pub Sees : (every : Bool) → List Bool → ℕ → List Bool → Type 0
Sees every fs i bs = (j : ℕ) → j < length bs → (every || flag (i + j) fs) ≡ flag j bs

module _ (every : Bool) where
  pub sees-first : (fs : List Bool) (i : ℕ) (b : Bool) (bs : List Bool) → Sees every fs i (b ∷ bs) → every || flag i fs ≡ b
  sees-first fs i b bs s = let e : i + 0 ≡ i = omega arith in rw e at (s 0 (omega arith))

  pub sees-next : (fs : List Bool) (i : ℕ) (b : Bool) (bs : List Bool) → Sees every fs i (b ∷ bs) → Sees every fs (suc i) bs
  sees-next fs i b bs s j h = let e : suc i + j ≡ i + suc j = omega arith in rw e (s (suc j) (omega arith))

  -- where a place is closed, its arguments are looked at in its stead
  pub sees_below : (a : ℕ) (fs : List Bool) (i : ℕ) (bs : List Bool) → Sees every fs i (true ∷ bs) → Sees every (spread i a fs) i (replicate a true ++ bs)
  sees_below a fs i bs s j h = go (ltb j a) refl
    where
      go : (b : Bool) → ltb j a ≡ b → (every || flag (i + j) (spread i a fs)) ≡ flag j (replicate a true ++ bs)
      go true e =
          let l : j < a = ltb-true j a e in
          rw (flag-in i j a fs l, own-flag a j true bs l) (sees-first fs i true bs s)
      go false e =
          let l : a ≤ j = ltb-false j a e in
          let x : ℕ = j - a in
          let e₁ : i + j ≡ a + (i + x) = omega arith in
          let e₂ : j ≡ a + x = omega arith in
          let e₃ : i + suc x ≡ suc (i + x) = omega arith in
          let l' : suc x < length (true ∷ bs) = omega (arith, length-past a true bs) in
          rw (e₁, flag-after i (i + x) a fs (omega arith)) (rw e₃ at (s (suc x) l')
          ∙ sym (ap (λ (n : ℕ). flag n (replicate a true ++ bs)) e₂ ∙ flag-past a x true bs))

-- every place is looked at; and the columns are those that are named
pub sees-every : (w : ℕ) → Sees true [] 0 (replicate w true ++ [])
sees-every w j h = sym (own-flag w j true [] (omega (arith, length-past w true [])))

pub sees_named : (fs : List Bool) → Sees false fs 0 fs
sees_named fs j h = rw zero-add

-- a scan closes places from where it is on: what closing them keeps, it keeps
module _ (m : Measure) (every : Bool) (P : List Bool → Type 0) (low : ℕ) (kept : (i a : ℕ) (fs : List Bool) → low ≤ i → P fs → P (spread i a fs)) where
  scan-keeps : (n : ℕ) (fs : List Bool) (i r : ℕ) (rows : List (List ℕ)) → low ≤ i → P fs → P (scan m every n fs i r rows).named
  unfolding scan
  scan-keeps zero fs i r rows h p = p
  scan-keeps (suc n) fs i zero rows h p = p
  scan-keeps (suc n) fs i (suc r) rows h p = by (every || flag i fs) (λ fs i r rows. scan-keeps n fs i r rows)
    where
      Below : Type 0
      Below = (fs : List Bool) (i r : ℕ) (rows : List (List ℕ)) → low ≤ i → P fs → P (scan m every n fs i r rows).named

      go : (gs : List Run) → Below
          → P (one_run gs (λ (g : Run). plus (m.weight g.cell) (scan m every n (spread i (arity g.cell) fs) i (arity g.cell + r) g.rows))
          (scan m every n fs (suc i) r rows)).named
      go [] ih = ih fs (suc i) r rows (omega arith) p
      go (g ∷ []) ih = ih (spread i (arity g.cell) fs) i (arity g.cell + r) g.rows h (kept i (arity g.cell) fs h p)
      go (g ∷ (k ∷ gs)) ih = ih fs (suc i) r rows (omega arith) p

      by : (b : Bool) → Below
          → P (cond b (one_run (runs i rows) (λ (g : Run). plus (m.weight g.cell)
          (scan m every n (spread i (arity g.cell) fs) i (arity g.cell + r) g.rows))
          (scan m every n fs (suc i) r rows)) (scan m every n fs (suc i) r rows)).named
      by true ih = go (runs i rows) ih
      by false ih = ih fs (suc i) r rows (omega arith) p

module _ (m : Measure) (every : Bool) where
  -- the flags left of where it is
  pub scan-flag : (n : ℕ) (fs : List Bool) (i r : ℕ) (rows : List (List ℕ)) (j : ℕ) → j < i → flag j (scan m every n fs i r rows).named ≡ flag j fs
  scan-flag n fs i r rows j h =
      scan-keeps m every (λ (gs : List Bool). flag j gs ≡ flag j fs) (suc j) (λ i a gs l p. before i a gs l ∙ p) n fs i r rows h refl
    where
      before : (i a : ℕ) (gs : List Bool) → suc j ≤ i → flag j (spread i a gs) ≡ flag j gs
      before zero a gs l = absurd (omega arith)
      before (suc i) a gs l = flag-before j i a gs (omega arith)

  -- and that none stands
  pub scan-none : (n : ℕ) (fs : List Bool) (i r : ℕ) (rows : List (List ℕ)) → ((j : ℕ) → flag j fs ≡ false) → (j : ℕ)
      → flag j (scan m every n fs i r rows).named ≡ false
  scan-none n fs i r rows none =
      scan-keeps m every (λ (gs : List Bool). (j : ℕ) → flag j gs ≡ false) 0 (λ i a gs l p j. none-spread i a j gs p) n fs i r rows (omega arith) none

-- a flag that stands is one of the first k places
pub any_some : (fs : List Bool) (k : ℕ) → length fs ≤ k → any_named fs ≡ true → (j : ℕ) × (j < k) × (flag j fs ≡ true)
any_some [] k h e = absurd (true≢false (sym e))
any_some (f ∷ fs) zero h e = absurd (omega arith)
any_some (true ∷ fs) (suc k) h e = (0, omega arith, refl)
any_some (false ∷ fs) (suc k) h e = let i = any_some fs k (omega arith) e in (suc i.0, omega (arith, i.1), i.2)

module _ (ok : ℕ → Bool) where
  pub some-yes : (k j : ℕ) → j < k → ok j ≡ true → some_to ok k ≡ true
  unfolding some_to
  some-yes zero j h e = absurd (omega arith)
  some-yes (suc k) j h e = go (ltb j k) refl (some-yes k j)
    where
      either : (b : Bool) → b || true ≡ true
      either true = refl
      either false = refl

      go : (b : Bool) → ltb j k ≡ b → (j < k → ok j ≡ true → some_to ok k ≡ true) → some_to ok k || ok k ≡ true
      go true q ih = rw (ih (ltb-true j k q) e)
      go false q ih = let l : j ≡ k = omega (arith, ltb-false j k q) in rw (rw l at e) (either (some_to ok k))

  pub some-no : (k : ℕ) → ((j : ℕ) → j < k → ok j ≡ false) → some_to ok k ≡ false
  unfolding some_to
  some-no zero n = refl
  some-no (suc k) n = rw (some-no k (λ j h. n j (omega arith)), n k (omega arith))

-- a number's flags: so many
pub length-flags : (k n : ℕ) → length (flags_in k n) ≡ k
unfolding flags_in
length-flags zero n = refl
length-flags (suc k) n = ap suc (length-flags k (n / 2))
