-- A column's note is what its runs say: how many there are, and the sum of what they cost. One row more in front is one step, as the runs
-- are made.
use mathlib.Core.Path.{◌≡◌, refl, sym}
use mathlib.Core.Bool.{Bool, true, false, cond}
use mathlib.Core.List.{List, [], ◌∷◌, map}
use Prim.Native.Nat.{ℕ, suc, pred, ◌+◌, ◌≤◌, ◌<◌}
use native.Mathlib.Omega.{arith}
use lib.ListN.{length}
use Rattle.plan.specs.Runs.{Run, run, agree, join, join_if, group}
use Rattle.plan.proofs.RunsLaws.{agree-eq}
use Rattle.least.specs.code.Pairs.{sums}
use Rattle.paircosts.specs.declared.arrays.Note.{Note}
use Rattle.paircosts.specs.code.Notes.{note, note_next, note_from, note_of, Fair}

-- the first run has the first row's cell
group-head : (cell : List ℕ → ℕ) (left : List ℕ → List ℕ) (r : List ℕ) (rs : List (List ℕ))
    → (g : Run) × (gs : List Run) × (group cell left (r ∷ rs) ≡ g ∷ gs) × (g.cell ≡ cell r)
group-head cell left r rs = go (group cell left rs)
  where
    both : (g : Run) (gs : List Run) (b : Bool) → agree (cell r) g.cell ≡ b
        → (h : Run) × (hs : List Run) × (join_if b (cell r) (left r) g gs ≡ h ∷ hs) × (h.cell ≡ cell r)
    both g gs true e = (run g.cell (left r ∷ g.rows), gs, refl, sym (agree-eq (cell r) g.cell e))
    both g gs false e = (run (cell r) (left r ∷ []), g ∷ gs, refl, refl)

    go : (gs : List Run) → (h : Run) × (hs : List Run) × (join (cell r) (left r) gs ≡ h ∷ hs) × (h.cell ≡ cell r)
    go [] = (run (cell r) (left r ∷ []), [], refl, refl)
    go (g ∷ gs) = both g gs (agree (cell r) g.cell) refl

-- what a note says of runs, the first of them from row j on: their number, where the first of them ends, and what the others cost
abbrev first_size : List Run → ℕ
first_size [] = 0
first_size (g ∷ gs) = length g.rows

abbrev others : List Run → List Run
others [] = []
others (g ∷ gs) = gs

record Tells (W : ℕ → ℕ → ℕ) (n : Note) (j : ℕ) (gs : List Run) : Type 0 where
  pub number : n.runs ≡ length gs
  pub to : n.to ≡ pred (j + first_size gs)
  pub sum : n.sum ≡ sums W (j + first_size gs) (others gs)

-- and so what they cost together
pub record Says (W : ℕ → ℕ → ℕ) (n : Note) (first : ℕ) (count total : ℕ) : Type 0 where
  pub number : n.runs ≡ count
  pub costs : n.sum + W first n.to ≡ total

module _ (W : ℕ → ℕ → ℕ) (cell : List ℕ → ℕ) (left : List ℕ → List ℕ) where
  note-from : (j : ℕ) (r : List ℕ) (rs : List (List ℕ)) → Tells W (note_from W j (cell r) (map cell rs)) j (group cell left (r ∷ rs))
  unfolding note_from
  note-from j r [] = record { number = refl; to = omega arith; sum = refl }
  note-from j r (r₂ ∷ rs) =
      let h = group-head cell left r₂ rs in
      rw (h.2, h.3) (step h.0 h.1 (rw h.2 at (note-from (suc j) r₂ rs)) (agree (cell r) (cell r₂)))
    where
      step : (g : Run) (gs : List Run) → Tells W (note_from W (suc j) (cell r₂) (map cell rs)) (suc j) (g ∷ gs) → (b : Bool)
          → Tells W (cond b (note_from W (suc j) (cell r₂) (map cell rs))
          (note (suc (note_from W (suc j) (cell r₂) (map cell rs)).runs)
          ((note_from W (suc j) (cell r₂) (map cell rs)).sum + W (suc j) (note_from W (suc j) (cell r₂) (map cell rs)).to) j))
          j (join_if b (cell r) (left r) g gs)
      step g gs x true =
          let f : j + suc (length g.rows) ≡ suc j + length g.rows = omega arith in
          record { number = x.number; to = rw f x.to; sum = rw f x.sum }
      step g gs x false =
          let f : j + 1 ≡ suc j = omega arith in
          record { number = omega (arith, x.number); to = omega arith; sum = rw (f, x.to, x.sum) (omega arith) }

  -- the note of a column is its runs' number, and what they cost together
  pub note-says : (j : ℕ) (rows : List (List ℕ)) → 0 < length rows
      → Says W (note_of W j (map cell rows)) j (length (group cell left rows)) (sums W j (group cell left rows))
  note-says j [] h = absurd (omega arith)
  note-says j (r ∷ rs) h =
      let g = group-head cell left r rs in
      rw g.2 (both g.0 g.1 (rw g.2 at (note-from j r rs)))
    where
      both : (g : Run) (gs : List Run) → Tells W (note_from W j (cell r) (map cell rs)) j (g ∷ gs)
          → Says W (note_from W j (cell r) (map cell rs)) j (length (g ∷ gs)) (sums W j (g ∷ gs))
      both g gs x = record { number = x.number; costs = rw (x.to, x.sum) (omega arith) }

module _ (W : ℕ → ℕ → ℕ) (count : ℕ) (bound : (i k : ℕ) → i ≤ k → k < count → W i k ≤ 65535) where
  next-fair : (row last c d : ℕ) (n : Note) → last < count → Fair (suc row) last n → Fair row last (note_next W n row c d)
  next-fair row last c d n h f = go (agree c d)
    where
      go : (b : Bool) → Fair row last (cond b n (note (suc n.runs) (n.sum + W (suc row) n.to) row))
      go true = record { some = f.some; few = omega (arith, f.few); low = omega (arith, f.low); high = f.high; earlier = f.earlier; small = f.small }
      go false = record {
        some = omega arith;
        few = omega (arith, f.few);
        low = omega arith;
        high = omega (arith, f.low, f.high);
        earlier = λ l. omega (arith, f.low, f.high);
        small = omega (arith, f.small, bound (suc row) n.to f.low (omega (arith, f.high)));
      }

  from-fair : (j c : ℕ) (cs : List ℕ) → j + length cs < count → Fair j (j + length cs) (note_from W j c cs)
  unfolding note_from
  from-fair j c [] h =
      record {
        some = omega arith;
        few = omega arith;
        low = omega arith;
        high = omega arith;
        earlier = λ l. absurd (omega arith);
        small =
            omega arith;
      }
  from-fair j c (d ∷ cs) h =
      let e : j + suc (length cs) ≡ suc j + length cs = omega arith in
      rw e (next-fair j (suc j + length cs) c d (note_from W (suc j) d cs) (omega arith) (from-fair (suc j) d cs (omega arith)))

  pub note-fair : (j : ℕ) (c : ℕ) (cs : List ℕ) → j + length cs < count → Fair j (j + length cs) (note_of W j (c ∷ cs))
  note-fair j c cs h = from-fair j c cs h
