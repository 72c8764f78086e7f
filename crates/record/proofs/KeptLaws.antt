-- An entry goes by the rows from the first to the last alone, so that the rows which an edit leaves keep their entries.
use mathlib.Core.Path.{◌≡◌, refl, sym, ap, ◌∙◌}
use mathlib.Core.Bool.{Bool, true, false}
use mathlib.Core.Logic.{◌≢◌, ◌⊎◌, inl, inr}
use mathlib.Core.List.{List, [], ◌∷◌, ◌++◌}
use Prim.Native.Nat.{ℕ, suc, ◌≤◌, ◌<◌}
use native.Mathlib.Omega.{arith}
use lib.Dec.{leb, eqb}
use borrow.Author.Tests.{leb-true, leb-false, eqb-true, eqb-false}
use lib.ListN.{length, set, take, drop}
use lib.Seq.{length-take-le, take-set-le, take-set-lt, drop-set-lt, take-append-le, take-take}
use Rattle.plan.specs.Plans.{Measure}
use Rattle.table.specs.Table.{Table}
use Rattle.least.specs.Least.{Least}
use Rattle.least.specs.Entries.{between, Entry, none, leaf, inner, whole_in, cost_in, place_in, RightAt, SameAt}
use Rattle.least.specs.Measures.{work}
use Rattle.least.proofs.Best.{least-one}
use Rattle.least.proofs.Pairs.{entry-one}
use Rattle.least.proofs.Places.{IsPair, pair, no-pair, is-pair, same_kept}
use Rattle.record.specs.Record.{Costs, no_rows, some-rows, Kept, Holds}
use Rattle.record.specs.code.Zeros.{ZeroAt, Cleared}
use Rattle.limits.specs.Limits.{kept_cells}

-- the rows of a pair that an edit leaves: the replaced row is before or after them, the new one after them, the dropped one after them
pub between-set : (first last r : ℕ) (row : List ℕ) (rows : List (List ℕ)) → (r < first) ⊎ (last < r)
    → between first last (set rows r row) ≡ between first last rows
between-set first last r row rows (inr h) = ap (drop first) (take-set-le (suc last) rows r row (omega arith))
between-set first last r row rows (inl h) = go (leb (suc last) r) refl
  where
    go : (b : Bool) → leb (suc last) r ≡ b → between first last (set rows r row) ≡ between first last rows
    go true e = ap (drop first) (take-set-le (suc last) rows r row (leb-true (suc last) r e))
    go false e =
        ap (drop first) (take-set-lt (suc last) rows r row (leb-false (suc last) r e)) ∙ drop-set-lt first (take (suc last) rows) r row h

pub between-append : (first last : ℕ) (row : List ℕ) (rows : List (List ℕ)) → last < length rows
    → between first last (rows ++ (row ∷ [])) ≡ between first last rows
between-append first last row rows h = ap (drop first) (take-append-le (suc last) rows (row ∷ []) (omega arith))

pub between-take : (first last n : ℕ) (rows : List (List ℕ)) → last < n → between first last (take n rows) ≡ between first last rows
between-take first last n rows h = ap (drop first) (take-take (suc last) n rows (omega arith))

-- THE EDIT LEMMA
module _ {m : Measure} {width : ℕ} {rows rows' : List (List ℕ)} {first last : ℕ} (same : between first last rows ≡ between first last rows')
    (order : first ≤ last) (inside : last < length rows) (inside' : last < length rows') where
  pub entry_kept : {cost place : ℕ} → Entry m [] width rows first last cost place → Entry m [] width rows' first last cost place
  entry_kept (none (inl h)) = absurd (omega arith)
  entry_kept (none (inr h)) = absurd (omega arith)
  entry_kept (leaf h l x) = leaf order inside' (rw same at x)
  entry_kept (inner h l x s c b d) = inner order inside' (rw same at x) s c b d

  pub costs-kept : {cost : ℕ} → Costs m width rows first last cost → Costs m width rows' first last cost
  costs-kept (no_rows (inl h)) = absurd (omega arith)
  costs-kept (no_rows (inr h)) = absurd (omega arith)
  costs-kept (some-rows h l x) = some-rows order inside' (rw same at x)

-- what a pair's rows cost is determined
pub costs-one : {m : Measure} {width : ℕ} {rows : List (List ℕ)} {first last n n' : ℕ}
    → Costs m width rows first last n → Costs m width rows first last n' → n ≡ n'
costs-one (no_rows o) (no_rows o') = refl
costs-one (no_rows (inl o)) (some-rows h l x) = absurd (omega arith)
costs-one (no_rows (inr o)) (some-rows h l x) = absurd (omega arith)
costs-one (some-rows h l x) (no_rows (inl o)) = absurd (omega arith)
costs-one (some-rows h l x) (no_rows (inr o)) = absurd (omega arith)
costs-one (some-rows h l x) (some-rows h' l' y) = least-one x y

-- two arrays that are kept for one table are one
pub kept-one : {m : Measure} {width : ℕ} {rows : List (List ℕ)} {a b : List ℕ} → Kept m width rows a → Kept m width rows b
    → length a ≡ kept_cells → length b ≡ kept_cells → a ≡ b
kept-one {a = a} {b} x y l l' =
    same_kept a b l l' (λ first last h i.
    let e = entry-one (y.entry first last h i) (x.entry first last h i) in
    record { whole = costs-one (y.costs first last h i) (x.costs first last h i); cost = e.0; place = e.1 })

-- what is kept for the rows of a pair is kept for them in another table of the same width
pub kept_at : {m : Measure} {width : ℕ} {rows rows' : List (List ℕ)} {a b : List ℕ} → Kept m width rows a → Kept m width rows' b
    → (first last : ℕ) → first < 64 → last < 64 → between first last rows ≡ between first last rows' → first ≤ last
    → last < length rows → last < length rows' → SameAt first last a b
kept_at x y first last h i same o l l' =
    let e = entry-one (y.entry first last h i) (entry_kept same o l l' (x.entry first last h i)) in
    record { whole = costs-one (y.costs first last h i) (costs-kept same o l l' (x.costs first last h i)); cost = e.0; place = e.1 }

-- 02, "runs that don't contain the changed row keep their entries": of two records of one figure and width
pub kept : {rec rec' : List ℕ} {figure : ℕ} {T T' : Table} → Holds rec figure T → Holds rec' figure T' → T.width ≡ T'.width
    → (first last : ℕ) → first < 64 → last < 64 → between first last T.rows ≡ between first last T'.rows → first ≤ last
    → last < length T.rows → last < length T'.rows → SameAt first last (drop 2052 rec) (drop 2052 rec')
kept {rec} {rec'} {figure} {T} {T'} x y e first last h i same o l l' = kept_at (at_width e x.kept) y.kept first last h i same o l l'
  where
    at_width : {v w : ℕ} → v ≡ w → Kept (work figure) v T.rows (drop 2052 rec) → Kept (work figure) w T.rows (drop 2052 rec)
    at_width e k = rw (← e) k

-- From what is kept to each pair, and back. Of a pair of rows: what they cost with nothing closed, and their entry
module _ {m : Measure} {width : ℕ} {rows : List (List ℕ)} {array : List ℕ} where
  pub kept_pair : Kept m width rows array → length rows ≤ 64 → (first last : ℕ) → first ≤ last → last < length rows
      → RightAt m [] width rows array first last
  kept_pair k few first last o i = record {
    whole = least-of (k.costs first last (omega arith) (omega arith));
    entry = k.entry first last (omega arith) (omega arith);
  }
    where
      least-of : {n : ℕ} → Costs m width rows first last n → Least m [] width (between first last rows) n
      least-of (no_rows (inl h)) = absurd (omega arith)
      least-of (no_rows (inr h)) = absurd (omega arith)
      least-of (some-rows h l x) = x

  -- where there is no such pair, 0
  pub kept-zero : Kept m width rows array → (first last : ℕ) → first < 64 → last < 64 → (last < first) ⊎ (length rows ≤ last)
      → ZeroAt first last array
  kept-zero k first last h l o =
      let e = entry-one (k.entry first last h l) (none o) in
      record { whole = costs-one (k.costs first last h l) (no_rows o); cost = e.0; place = e.1 }

  pub kept-when : ((first last : ℕ) → first ≤ last → last < length rows → RightAt m [] width rows array first last)
      → ((first last : ℕ) → first < 64 → last < 64 → (last < first) ⊎ (length rows ≤ last) → ZeroAt first last array)
      → Kept m width rows array
  kept-when right zero = record {
    costs = λ first last h l. costs first last h l (is-pair (length rows) first last);
    entry = λ first last h l. entry first last h l (is-pair (length rows) first last);
  }
    where
      costs : (first last : ℕ) → first < 64 → last < 64 → IsPair (length rows) first last
          → Costs m width rows first last (whole_in array first last)
      costs first last h l (pair o i) = some-rows o i (right first last o i).whole
      costs first last h l (no-pair o) = rw (zero first last h l o).whole (no_rows o)

      entry : (first last : ℕ) → first < 64 → last < 64 → IsPair (length rows) first last
          → Entry m [] width rows first last (cost_in array first last) (place_in array first last)
      entry first last h l (pair o i) = (right first last o i).entry
      entry first last h l (no-pair o) = rw ((zero first last h l o).cost, (zero first last h l o).place) (none o)

-- at a pair where an array is as it was it is as right
right-same : {m : Measure} {width : ℕ} {rows : List (List ℕ)} {old new : List ℕ} {first last : ℕ} → SameAt first last old new
    → RightAt m [] width rows old first last → RightAt m [] width rows new first last
right-same s x = record { whole = rw s.whole x.whole; entry = rw (s.cost, s.place) x.entry }

pub zero_same : {old new : List ℕ} {first last : ℕ} → SameAt first last old new → ZeroAt first last old → ZeroAt first last new
zero_same s z = record { whole = s.whole ∙ z.whole; cost = s.cost ∙ z.cost; place = s.place ∙ z.place }

-- a pair whose rows an edit leaves is right for the new rows
pub right_kept : {m : Measure} {width : ℕ} {rows rows' : List (List ℕ)} {array : List ℕ} → Kept m width rows array → length rows ≤ 64
    → (first last : ℕ) → between first last rows ≡ between first last rows' → first ≤ last → last < length rows → last < length rows'
    → RightAt m [] width rows' array first last
right_kept k few first last same o i i' =
    let x = kept_pair k few first last o i in
    record { whole = rw same at x.whole; entry = entry_kept same o i i' x.entry }

-- what is kept when the last row is dropped
pub dropped-kept : {m : Measure} {width n : ℕ} {rows : List (List ℕ)} {old new : List ℕ} → Kept m width rows old → length rows ≤ 64
    → suc n ≡ length rows → Cleared n old new → Kept m width (take n rows) new
dropped-kept {m} {width} {n} {rows} {old} {new} k few e c = kept-when right zero
  where
    fewer : length (take n rows) ≡ n
    fewer = length-take-le n rows (omega arith)

    right : (first last : ℕ) → first ≤ last → last < length (take n rows) → RightAt m [] width (take n rows) new first last
    right first last o i =
        let s = c.others first last (omega (arith, fewer)) (omega (arith, fewer)) (λ q. omega (arith, fewer)) in
        right-same s (right_kept k few first last (sym (between-take first last n rows (omega (arith, fewer)))) o (omega (arith, fewer)) i)

    zero : (first last : ℕ) → first < 64 → last < 64 → (last < first) ⊎ (length (take n rows) ≤ last) → ZeroAt first last new
    zero first last h l o = go (eqb last n) refl
      where
        more : last ≢ n → (last < first) ⊎ (length (take n rows) ≤ last) → (last < first) ⊎ (length rows ≤ last)
        more q (inl o) = inl o
        more q (inr o) = inr (omega (arith, q, fewer))

        go : (b : Bool) → eqb last n ≡ b → ZeroAt first last new
        go true q = rw (eqb-true last n q) (c.column first h)
        go false q =
            let ne : last ≢ n = eqb-false last n q in
            zero_same (c.others first last h l ne) (kept-zero k first last h l (more ne o))
