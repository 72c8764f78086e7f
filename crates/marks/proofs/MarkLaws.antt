-- How the line and the column of a place go on with the byte there.
use Prim.Native.Nat.{ℕ, ◌+◌, ◌≤◌, ◌<◌}
use mathlib.Core.Path.{◌≡◌, refl, ◌∙◌}
use mathlib.Core.Logic.{by_cases}
use mathlib.Core.Bool.{cond}
use mathlib.Core.List.{List, [], ◌∷◌, ◌++◌}
use native.Mathlib.Numerals.{add-one}
use native.Mathlib.Omega.{arith}
use native.Mathlib.Decide.{dec_le}
use Rattle.std.specs.Prelude.{min}
use lib.Dec.{eqb}
use lib.ListN.{length, take, get_or}
use lib.Seq.{take-suc, take_all}
use Rattle.marks.specs.Marks.{feeds, column_after}

feeds-last : (bytes : List ℕ) (b : ℕ) → feeds (bytes ++ (b ∷ [])) ≡ feeds bytes + cond (eqb b 10) 1 0
unfolding feeds
feeds-last [] b = omega arith
feeds-last (a ∷ bytes) b = let h = feeds-last bytes b in omega arith

column-last : (k : ℕ) (bytes : List ℕ) (b : ℕ) → column_after k (bytes ++ (b ∷ [])) ≡ cond (eqb b 10) 1 (column_after k bytes + 1)
unfolding column_after
column-last k [] b = refl
column-last k (a ∷ bytes) b = column-last (cond (eqb a 10) 1 (k + 1)) bytes b

-- where a walk over a text stands: so many bytes passed, at most those before the place
pub record Marked (text : List ℕ) (at i line column : ℕ) : Type 0 where
  pub within : i ≤ length text
  pub before : i ≤ at
  pub lined : line ≡ 1 + feeds (take i text)
  pub columned : column ≡ column_after 1 (take i text)
  pub few : (line ≤ i + 1) × (column ≤ i + 1)

pub marked-first : (text : List ℕ) (at : ℕ) → Marked text at 0 1 1
unfolding feeds column_after
marked-first text at =
    record { within = omega arith; before = omega arith; lined = refl; columned = refl; few = (omega arith, omega arith) }

module _ (text : List ℕ) (at i line column : ℕ) (m : Marked text at i line column) (h : i < length text) (g : i < at) where
  feeds-on : feeds (take (i + 1) text) ≡ feeds (take i text) + cond (eqb (get_or text i 0) 10) 1 0
  feeds-on = rw (add-one i, take-suc text i 0, feeds-last)

  column-on : column_after 1 (take (i + 1) text) ≡ cond (eqb (get_or text i 0) 10) 1 (column_after 1 (take i text) + 1)
  column-on = rw (add-one i, take-suc text i 0, column-last)

  pub marked_next : {f k : ℕ} → f ≡ cond (eqb (get_or text i 0) 10) 1 0 → k ≡ cond (eqb (get_or text i 0) 10) 1 (column + 1)
      → f ≤ 1 → k ≤ column + 1 → Marked text at (i + 1) (line + f) k
  marked_next {f} {k} e d a b =
      let p = feeds-on in
      record {
        within = omega arith;
        before = omega arith;
        lined = omega arith;
        columned = rw (column-on, ← m.columned) d;
        few = (omega arith, omega arith);
      }

-- the bytes before a place are as many as it says, or all
before-place : (text : List ℕ) (at n : ℕ) → n ≡ min at (length text) → take n text ≡ take at text
before-place text at n e =
    by_cases (dec_le at (length text)) (λ h. let q : n ≡ at = omega arith in rw q)
    (λ h. rw (take_all n text (omega arith), take_all at text (omega arith)))

-- at the end of them
pub marked-end : (text : List ℕ) (at n : ℕ) {i line column : ℕ} → n ≡ min at (length text)
    → Marked (take n text) (length (take n text)) i line column
    → length (take n text) ≤ i → (line ≡ 1 + feeds (take at text)) × (column ≡ column_after 1 (take at text))
marked-end text at n {i} e m h =
    let q : take i (take n text) ≡ take at text = take_all i (take n text) h ∙ before-place text at n e in
    rw (← q) (m.lined, m.columned)
