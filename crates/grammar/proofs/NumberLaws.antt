-- Numbering, one symbol further. Names are numbered by the list so far; a number once given stays.
use Prim.Native.Nat.{ℕ, zero, suc, ◌≤◌, ◌<◌}
use mathlib.Core.Path.{◌≡◌, refl, sym, ap, ◌∙◌}
use mathlib.Core.Bool.{Bool, true, false, cond}
use mathlib.Core.List.{List, [], ◌∷◌, ◌++◌}
use native.Mathlib.Omega.{arith}
use lib.ListN.{length, get_or}
use borrow.Author.Tests.{lt-ltb, le-ltb}
use Rattle.grammar.specs.Grammar.{Symbol, name, variable, number}
use Rattle.cell.specs.Same.{same}
use Rattle.grammar.specs.Meaning.{Place, place, bytes_at, position, meet, names_from, variable_number, variables_with}
use Rattle.cell.proofs.SameLaws.{same_refl, same-no}

-- POSITIONS
pub position-bound : (t w : List ℕ) (vs : List Place) → position t w vs ≤ length vs
unfolding position
position-bound t w [] = omega arith
position-bound t w (v ∷ vs) = go (same w (bytes_at t v)) (position-bound t w vs)
  where
    go : (b : Bool) → position t w vs ≤ length vs → cond b 0 (suc (position t w vs)) ≤ suc (length vs)
    go true h = omega arith
    go false h = omega arith

-- a number that is given stays when the list grows
pub position-kept : (t w : List ℕ) (vs us : List Place) → position t w vs < length vs → position t w (vs ++ us) ≡ position t w vs
unfolding position
position-kept t w [] us h = absurd (omega arith)
position-kept t w (v ∷ vs) us h = go (same w (bytes_at t v)) (position-kept t w vs us) h
  where
    go : (b : Bool) → (position t w vs < length vs → position t w (vs ++ us) ≡ position t w vs) → cond b 0 (suc (position t w vs)) < suc (length vs)
        → cond b 0 (suc (position t w (vs ++ us))) ≡ cond b 0 (suc (position t w vs))
    go true f l = refl
    go false f l = ap suc (f (omega arith))

-- a word that is not there is found where it is added
pub position-added : (t : List ℕ) (v : Place) (vs : List Place) → length vs ≤ position t (bytes_at t v) vs
    → position t (bytes_at t v) (vs ++ (v ∷ [])) ≡ length vs
unfolding position
position-added t v [] h = rw (same_refl (bytes_at t v))
position-added t v (u ∷ vs) h = go (same (bytes_at t v) (bytes_at t u)) (position-added t v vs) h
  where
    go : (b : Bool) → (length vs ≤ position t (bytes_at t v) vs → position t (bytes_at t v) (vs ++ (v ∷ [])) ≡ length vs)
        → suc (length vs) ≤ cond b 0 (suc (position t (bytes_at t v) vs)) → cond b 0 (suc (position t (bytes_at t v) (vs ++ (v ∷ [])))) ≡ suc (length vs)
    go true f l = absurd (omega arith)
    go false f l = ap suc (f (omega arith))

-- the position by the words: the first that is equal, or none
abbrev pub at : List Place → ℕ → Place
at vs i = get_or vs i (place 0 0)

pub position-is : (t w : List ℕ) (vs : List Place) (r : ℕ) → r < length vs → bytes_at t (at vs r) ≡ w → ((i : ℕ) → i < r → bytes_at t (at vs i) ≡ w → ⊥)
    → position t w vs ≡ r
unfolding position
position-is t w [] r h e n = absurd (omega arith)
position-is t w (v ∷ vs) zero h e n = rw (ap (same w) e ∙ same_refl w)
position-is t w (v ∷ vs) (suc r) h e n =
    rw (same-no w (bytes_at t v) (λ q. n 0 (omega arith) (sym q)))
    (ap suc (position-is t w vs r (omega arith) e (λ i l. n (suc i) (omega arith))))

pub position-none : (t w : List ℕ) (vs : List Place) → ((i : ℕ) → i < length vs → bytes_at t (at vs i) ≡ w → ⊥) → position t w vs ≡ length vs
unfolding position
position-none t w [] n = refl
position-none t w (v ∷ vs) n =
    rw (same-no w (bytes_at t v) (λ q. n 0 (omega arith) (sym q))) (ap suc (position-none t w vs (λ i l. n (suc i) (omega arith))))

-- A NAME IS MET
pub meet-old : (t : List ℕ) (ns : List Place) (w : Place) → position t (bytes_at t w) ns < length ns → meet t ns w ≡ ns
unfolding meet
meet-old t ns w h = rw (lt-ltb (position t (bytes_at t w) ns) (length ns) h)

pub meet-new : (t : List ℕ) (ns : List Place) (w : Place) → length ns ≤ position t (bytes_at t w) ns → meet t ns w ≡ ns ++ (w ∷ [])
unfolding meet
meet-new t ns w h = rw (le-ltb (position t (bytes_at t w) ns) (length ns) h)

pub names_more : (t : List ℕ) (ns : List Place) (ss us : List Symbol) → names_from t ns (ss ++ us) ≡ names_from t (names_from t ns ss) us
unfolding names_from
names_more t ns [] us = refl
names_more t ns (name s e a ∷ ss) us = names_more t (meet t ns (place s e)) ss us
names_more t ns (variable s e ∷ ss) us = names_more t ns ss us
names_more t ns (number v ∷ ss) us = names_more t ns ss us

-- A VARIABLE IS MET. `_` is 95
module _ (t : List ℕ) (vs : List Place) (w : Place) where
  pub fresh-number : same (bytes_at t w) (95 ∷ []) ≡ true → variable_number t vs w ≡ length vs
  unfolding variable_number
  fresh-number e = rw e

  pub named-number : same (bytes_at t w) (95 ∷ []) ≡ false → variable_number t vs w ≡ position t (bytes_at t w) vs
  unfolding variable_number
  named-number e = rw e

  pub with-new : length vs ≤ variable_number t vs w → variables_with t vs w ≡ vs ++ (w ∷ [])
  unfolding variables_with
  with-new h = rw (le-ltb (variable_number t vs w) (length vs) h)

  pub with-old : variable_number t vs w < length vs → variables_with t vs w ≡ vs
  unfolding variables_with
  with-old h = rw (lt-ltb (variable_number t vs w) (length vs) h)

-- the variables of some symbols, some being listed before
unfoldable pub variables_in : List ℕ → List Place → List Symbol → List Place
variables_in t vs [] = vs
variables_in t vs (name s e a ∷ ss) = variables_in t vs ss
variables_in t vs (variable s e ∷ ss) = variables_in t (variables_with t vs (place s e)) ss
variables_in t vs (number v ∷ ss) = variables_in t vs ss
