-- A row that stands among others (02, W-208): as a test of what was read of it, and by what a table is.
use mathlib.Core.Path.{◌≡◌, refl, sym, ◌∙◌, ap}
use mathlib.Core.Logic.{◌≢◌, ⊎_elim}
use mathlib.Core.Bool.{Bool, true, false, cond, ◌&&◌, ◌||◌}
use mathlib.Core.List.Memᴰ
use mathlib.Core.List.{List, [], ◌∷◌, ◌++◌, Memᴰ}
use Prim.Native.Nat.{ℕ, zero, suc, ◌≤◌}
use native.Mathlib.Omega.{arith}
use lib.Dec.{eqb}
use lib.ListN.{length, set, take}
use borrow.Author.Tests.{eq-eqb, ne_eqb, eqb-true}
use Rattle.cell.specs.Cell.{is_var}
use Rattle.cell.specs.Same.{same, among}
use Rattle.cell.proofs.SameLaws.{same_refl, same-eq}
use Rattle.table.specs.Table.{Met, doubled, others, count, appear, Ground, Apart, Distinct}
use Rattle.table.proofs.AllLaws.{all_take, all-++, all_set, all-members}
use Rattle.table.proofs.ReadLaws.{not-both}

-- a row has no variable exactly when none appears in it
none-ground : (xs : List ℕ) → length (appear [] xs) ≡ 0 → Ground xs
unfolding appear count
none-ground [] e = tt
none-ground (c ∷ xs) e = go (is_var c) refl e (none-ground xs)
  where
    go : (b : Bool) → is_var c ≡ b → length (cond (b && true) (c ∷ appear (c ∷ []) xs) (appear [] xs)) ≡ 0
        → (length (appear [] xs) ≡ 0 → Ground xs) → Ground (c ∷ xs)
    go true i h f = absurd (omega arith)
    go false i h f = (i, f h)

pub ground-none : (xs : List ℕ) → Ground xs → appear [] xs ≡ []
unfolding appear
ground-none [] g = refl
ground-none (c ∷ xs) g = rw g.0 (ground-none xs g.1)

-- it is one of the others exactly when the test says so
among-has : (r : List ℕ) (rows : List (List ℕ)) → among r rows ≡ true → Memᴰ r rows
unfolding among
among-has r [] e = not-both e refl
among-has r (s ∷ rows) e = go (same r s) refl (among-has r rows) e
  where
    go : (b : Bool) → same r s ≡ b → (among r rows ≡ true → Memᴰ r rows) → (b || among r rows) ≡ true → Memᴰ r (s ∷ rows)
    go true q f h = Memᴰ.head (same-eq r s q)
    go false q f h = Memᴰ.tail (f h)

pub has-among : (r : List ℕ) (rows : List (List ℕ)) → Memᴰ r rows → among r rows ≡ true
unfolding among
has-among r [] m = absurd (Memᴰ.not-nil m)
has-among r (s ∷ rows) m =
    ⊎_elim (λ e. rw (← e, same_refl r)) (λ k. rw (has-among r rows k) (or-true (same r s))) (Memᴰ.cases_cons m)
  where
    or-true : (b : Bool) → (b || true) ≡ true
    or-true true = refl
    or-true false = refl

-- a row is doubled that has no variable and is one of the others; one that has a variable or is none of them is not
module _ (m : Met) (r : List ℕ) (rows : List (List ℕ)) where
  pub is-doubled : m.vars ≡ 0 → among r rows ≡ true → doubled m r rows ≡ true
  is-doubled z h = rw (eq-eqb m.vars 0 z, h)

  pub has-variable : m.vars ≢ 0 → doubled m r rows ≡ false
  has-variable z = rw (ne_eqb m.vars 0 z)

  pub none-of-them : among r rows ≡ false → doubled m r rows ≡ false
  none-of-them h = rw h (and-false (eqb m.vars 0))
    where
      and-false : (b : Bool) → (b && false) ≡ false
      and-false true = refl
      and-false false = refl

-- so what was read of a row tells whether it is doubled
module _ (m : Met) (r : List ℕ) (rows : List (List ℕ)) (v : m.vars ≡ length (appear [] r)) where
  pub tested-apart : doubled m r rows ≡ false → Apart rows r
  tested-apart e g h = not-both (is-doubled m r rows (v ∙ ap length (ground-none r g)) (has-among r rows h)) e

  pub doubled-has : doubled m r rows ≡ true → Ground r × Memᴰ r rows
  doubled-has e = go (eqb m.vars 0) (among r rows) refl refl e
    where
      go : (b c : Bool) → eqb m.vars 0 ≡ b → among r rows ≡ c → (b && c) ≡ true → Ground r × Memᴰ r rows
      go true true z h q = (none-ground r (sym v ∙ eqb-true m.vars 0 z), among-has r rows h)
      go true false z h q = not-both q refl
      go false c z h q = not-both q refl

  pub apart-tested : Apart rows r → doubled m r rows ≡ false
  apart-tested a = go (eqb m.vars 0) (among r rows) refl refl
    where
      go : (b c : Bool) → eqb m.vars 0 ≡ b → among r rows ≡ c → (b && c) ≡ false
      go true true z h = absurd (a (none-ground r (sym v ∙ eqb-true m.vars 0 z)) (among-has r rows h))
      go true false z h = refl
      go false c z h = refl

-- rows stay distinct when some are taken, when one more is put after them, and when one takes the place of another
pub distinct-take : (n : ℕ) (rows : List (List ℕ)) → Distinct rows → Distinct (take n rows)
distinct-take zero rows d = tt
distinct-take (suc n) [] d = tt
distinct-take (suc n) (r ∷ rs) d = (all_take (λ (s : List ℕ). Ground s → r ≡ s → ⊥) n rs d.0, distinct-take n rs d.1)

pub distinct_append : (rows : List (List ℕ)) (row : List ℕ) → Distinct rows → Apart rows row → Distinct (rows ++ (row ∷ []))
distinct_append [] row d a = (tt, tt)
distinct_append (r ∷ rs) row d a = (
  all-++ (λ (s : List ℕ). Ground s → r ≡ s → ⊥) rs (row ∷ []) d.0 (λ g e. a g (Memᴰ.head (sym e)), tt),
  distinct_append rs row d.1 (λ g m. a g (Memᴰ.tail m)),
)

pub distinct-set : (rows : List (List ℕ)) (i : ℕ) (row : List ℕ) → Distinct rows → Apart (others i rows) row → Distinct (set rows i row)
unfolding others
distinct-set [] i row d a = tt
distinct-set (r ∷ rs) zero row d a = (all-members (λ (s : List ℕ). Ground s → row ≡ s → ⊥) rs (λ s m g e. a (rw e g) (rw e m)), d.1)
distinct-set (r ∷ rs) (suc i) row d a = (
  all_set (λ (s : List ℕ). Ground s → r ≡ s → ⊥) rs i row d.0 (λ g e. a g (Memᴰ.head (sym e))),
  distinct-set rs i row d.1 (λ g m. a g (Memᴰ.tail m)),
)

-- no row is left out where there is none of that number
pub others-all : (r : ℕ) (rows : List (List ℕ)) → length rows ≤ r → others r rows ≡ rows
unfolding others
others-all r [] h = refl
others-all zero (x ∷ rows) h = absurd (omega arith)
others-all (suc r) (x ∷ rows) h = ap (λ (s : List (List ℕ)). x ∷ s) (others-all r rows (omega arith))
