-- Hits added one after another: each row's count is what it was and how often the row stands among the hits.
use Rattle.std.specs.Prelude.{Result, Ok, Err}
use Rattle.answer.specs.declared.RunCounts.{RunCounts}
use mathlib.Core.Path.{◌≡◌, refl, ap, ◌∙◌}
use mathlib.Core.Bool.{Bool, true, false, cond}
use mathlib.Core.List.{List, [], ◌∷◌}
use Prim.Native.Nat.{ℕ, ◌+◌, ◌≤◌, ◌<◌}
use native.Mathlib.Numerals.{add-one}
use native.Mathlib.Omega.{arith}
use lib.Dec.{eqb}
use lib.ListN.{length, get_or, take, drop, length-set, drop_of_length-le}
use lib.Seq.{drop-cons, get_or-set_same, get_or-set_other}
use borrow.Author.Tests.{eqb-true, eqb-false}
use Rattle.table.specs.Table.{count}
use Rattle.refusal.specs.declared.Refusal.{Refusal}
use Rattle.answer.specs.Run.{run_told}
use Rattle.sums.specs.Sums.{up_by}
use Rattle.sums.proofs.HeldLaws.{up_up}
use Rattle.tally.specs.Tally.{Added}
use Rattle.tally.specs.code.Hits.{one_more, added_to}
use Rattle.tally.specs.declared.Tally.{Tally}

pub one-length : (fits : List ℕ) (row : ℕ) → length (one_more fits row) ≡ length fits
one-length fits row = length-set fits row (up_by (get_or fits row 0) 1)

-- one more for a row and for no other
one_at : (fits : List ℕ) (hit row : ℕ) (b : Bool) → eqb row hit ≡ b → row < length fits
    → get_or (one_more fits hit) row 0 ≡ up_by (get_or fits row 0) (cond b 1 0)
one_at fits hit row true e h =
    let same : row ≡ hit = eqb-true row hit e in
    rw same (get_or-set_same fits hit (up_by (get_or fits hit 0) 1) 0 (omega arith))
one_at fits hit row false e h =
    let other : get_or (one_more fits hit) row 0 ≡ get_or fits row 0 =
    get_or-set_other fits hit row (up_by (get_or fits hit 0) 1) 0 (eqb-false row hit e) in
    omega (arith, other)

pub added-length : (fits hits : List ℕ) → length (added_to fits hits) ≡ length fits
unfolding added_to
added-length fits [] = refl
added-length fits (hit ∷ hits) = added-length (one_more fits hit) hits ∙ one-length fits hit

pub added-at : (fits hits : List ℕ) (row : ℕ) → row < length fits → get_or (added_to fits hits) row 0 ≡ up_by (get_or fits row 0) (count row hits)
unfolding added_to count
added-at fits [] row h = omega arith
added-at fits (hit ∷ hits) row h =
    let on : row < length (one_more fits hit) = omega (arith, one-length fits hit) in
    added-at (one_more fits hit) hits row on ∙ ap (λ (n : ℕ). up_by n (count row hits)) (one_at fits hit row (eqb row hit) refl h)
    ∙ up_up (get_or fits row 0) (cond (eqb row hit) 1 0) (count row hits)

-- in the code's own form
pub added-on : (fits hits : List ℕ) (i : ℕ) → i < length hits
    → added_to fits (drop i hits) ≡ added_to (one_more fits (get_or hits i 0)) (drop (i + 1) hits)
unfolding added_to
added-on fits hits i h = rw (drop-cons hits i 0 h, add-one i)

pub added-done : (fits hits : List ℕ) (i : ℕ) → length hits ≤ i → added_to fits (drop i hits) ≡ fits
unfolding added_to
added-done fits hits i h = rw (drop_of_length-le hits h)

-- what a goal adds, from what the code does for one that is answered and for one that is refused
module _ (t r : Tally) (a : Result RunCounts Refusal) (room : List ℕ) where
  pub answered-adds : (hits : List ℕ) (h n : ℕ) → a ≡ Ok (record { hits = h; tried = n }) → hits ≡ take h room → r.fits ≡ added_to t.fits hits
      → r.answered ≡ up_by t.answered 1 → r.refused ≡ t.refused → r.tried ≡ up_by t.tried n → Added t (run_told a) room r
  answered-adds hits h n e p f x y z =
      rw e
      (record {
        rows = ap length f ∙ added-length t.fits hits;
        fits = λ row l. ap (λ (fits : List ℕ). get_or fits row 0) f ∙ added-at t.fits hits row l
            ∙ ap (λ (found : List ℕ). up_by (get_or t.fits row 0) (count row found)) p;
        answers = x;
        refusals = omega (arith, y);
        tries = z;
      })

  pub refused-adds : (f : Refusal) → a ≡ Err f → r.fits ≡ t.fits → r.answered ≡ t.answered
      → r.refused ≡ up_by t.refused 1 → r.tried ≡ t.tried → Added t (run_told a) room r
  unfolding count
  refused-adds f e p x y z =
      rw e
      (record {
        rows = ap length p;
        fits = λ row l. omega (arith, ap (λ (fits : List ℕ). get_or fits row 0) p);
        answers = omega (arith, x);
        refusals = y;
        tries = omega (arith, z);
      })
