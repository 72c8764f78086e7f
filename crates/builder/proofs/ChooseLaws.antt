-- The leftmost place that may be chosen and that all rows agree on: the loop that looks for it, and what is known of what it finds.
use mathlib.Core.Path.{◌≡◌, refl, ◌∙◌}
use mathlib.Core.Logic.{by_cases}
use mathlib.Core.Bool.{Bool, true, false, cond, ◌&&◌}
use mathlib.Core.List.{List, [], ◌∷◌, map}
use Prim.Native.Nat.{ℕ, zero, suc, ◌+◌, ◌-◌, ◌^◌, ◌≤◌, ◌<◌}
use native.Mathlib.Numerals.{add-one}
use native.Mathlib.Decide.{dec_lt}
use native.Mathlib.Omega.{arith}
use lib.Dec.{eqb}
use lib.ListN.{length, length-map}
use borrow.Author.Tests.{lt-ltb, le-ltb}
use Rattle.term.specs.Terms.{root, close}
use Rattle.term.proofs.TermsLaws.{terms-long}
use Rattle.table.specs.All.{All}
use Rattle.plan.specs.Runs.{runs}
use Rattle.plan.specs.Named.{may}
use Rattle.plan.specs.code.Fits.{Fits}
use Rattle.state.specs.Column.{run_count}
use Rattle.state.specs.Flags.{flags_in, may_in}
use Rattle.state.specs.States.{rows_in}
use Rattle.state.proofs.RowsLaws.{rows-length}
use Rattle.state.proofs.ColumnLaws.{group-on, count_runs}
use Rattle.state.proofs.FlagsLaws.{may-bits}
use Rattle.least.specs.Entries.{place_in}
use Rattle.least.specs.code.Follow.{agreed_from, within, taken}

-- how many runs there are at a place, by the column of cells there
pub column-count : (p : ℕ) (rows : List (List ℕ)) → length (runs p rows) ≡ run_count (map (root p) rows)
column-count p rows = rw (group-on (root p) (close p) rows) (count_runs (map (root p) rows) (map (close p) rows) (simp length-map))

-- place i may be chosen, and all rows agree there
abbrev pub takes : List Bool → List (List ℕ) → ℕ → Bool
takes fs rows i = may fs i && eqb (length (runs i rows)) 1

-- the code's two tests
module _ (k named i : ℕ) (rows : List (List ℕ)) (open-here : i < k) (few : k ≤ 32) (flags : named < 2 ^ k) where
  pub takes-it : may_in named i ≡ true → eqb (run_count (map (root i) rows)) 1 ≡ true → takes (flags_in k named) rows i ≡ true
  takes-it m e = rw (← (may-bits k i named open-here (omega arith) flags), m, column-count i rows, e)

  pub not_free : may_in named i ≡ false → takes (flags_in k named) rows i ≡ false
  not_free m = rw (← (may-bits k i named open-here (omega arith) flags), m)

pub not-agreed : (fs : List Bool) (rows : List (List ℕ)) (i : ℕ) → eqb (run_count (map (root i) rows)) 1 ≡ false → takes fs rows i ≡ false
not-agreed fs rows i e = rw (column-count i rows, e) (go (may fs i))
  where
    go : (b : Bool) → b && false ≡ false
    go true = refl
    go false = refl

module _ (fs : List Bool) (rows : List (List ℕ)) where
  -- Looking from a place on, among k: the places before i are not to be taken.
  module _ (k from : ℕ) where
    abbrev pub Looking : ℕ → Type 0
    Looking i = agreed_from fs (k - i) i rows ≡ agreed_from fs (k - from) from rows

    pub looking-next : (i : ℕ) → i < k → takes fs rows i ≡ false → Looking i → Looking (i + 1)
    unfolding agreed_from
    looking-next i h e l =
        let n : k - i ≡ suc (k - (i + 1)) = omega arith in
        let q : agreed_from fs (k - (i + 1)) (i + 1) rows ≡ agreed_from fs (k - i) i rows = rw (n, e, add-one i) in
        q ∙ l

    pub looking-here : (i : ℕ) → i < k → takes fs rows i ≡ true → Looking i → i ≡ agreed_from fs (k - from) from rows
    unfolding agreed_from
    looking-here i h e l = let n : k - i ≡ suc (k - (i + 1)) = omega arith in rw (n, e) at l

    pub looking-end : (i : ℕ) → k ≤ i → Looking i → i ≡ agreed_from fs (k - from) from rows
    unfolding agreed_from
    looking-end i h l = let n : k - i ≡ 0 = omega arith in rw n at l

  -- What is found: a place from where it was looked for, to be taken where it is one of them, and none before it is.
  pub found_from : (n s : ℕ) → s ≤ agreed_from fs n s rows
  unfolding agreed_from
  found_from zero s = omega arith
  found_from (suc n) s = go (takes fs rows s) (found_from n (suc s))
    where
      go : (b : Bool) → suc s ≤ agreed_from fs n (suc s) rows → s ≤ cond b s (agreed_from fs n (suc s) rows)
      go true h = omega arith
      go false h = omega arith

  pub found-most : (n s : ℕ) → agreed_from fs n s rows ≤ s + n
  unfolding agreed_from
  found-most zero s = omega arith
  found-most (suc n) s = go (takes fs rows s) (found-most n (suc s))
    where
      go : (b : Bool) → agreed_from fs n (suc s) rows ≤ suc s + n → cond b s (agreed_from fs n (suc s) rows) ≤ s + suc n
      go true h = omega arith
      go false h = omega arith

  pub found-takes : (n s : ℕ) → agreed_from fs n s rows < s + n → takes fs rows (agreed_from fs n s rows) ≡ true
  unfolding agreed_from
  found-takes zero s h = absurd (omega arith)
  found-takes (suc n) s h = go (takes fs rows s) refl h (found-takes n (suc s))
    where
      go : (b : Bool) → takes fs rows s ≡ b → cond b s (agreed_from fs n (suc s) rows) < s + suc n
          → (agreed_from fs n (suc s) rows < suc s + n → takes fs rows (agreed_from fs n (suc s) rows) ≡ true)
          → takes fs rows (cond b s (agreed_from fs n (suc s) rows)) ≡ true
      go true e h ih = e
      go false e h ih = ih (omega arith)

  pub found_before : (n s j : ℕ) → s ≤ j → j < agreed_from fs n s rows → takes fs rows j ≡ false
  unfolding agreed_from
  found_before zero s j a b = absurd (omega arith)
  found_before (suc n) s j a b = go (takes fs rows s) refl b (found_before n (suc s) j)
    where
      go : (x : Bool) → takes fs rows s ≡ x → j < cond x s (agreed_from fs n (suc s) rows)
          → (suc s ≤ j → j < agreed_from fs n (suc s) rows → takes fs rows j ≡ false) → takes fs rows j ≡ false
      go true e b ih = absurd (omega arith)
      go false e b ih = by_cases (dec_lt s j) (λ (l : s < j). ih (omega arith) b) (λ l. let z : j ≡ s = omega arith in rw z e)

  -- and places that are not to be taken can be passed
  pub passed_over : (n m s : ℕ) → ((j : ℕ) → s ≤ j → j < s + n → takes fs rows j ≡ false) → agreed_from fs (n + m) s rows ≡ agreed_from fs m (s + n) rows
  unfolding agreed_from
  passed_over zero m s f =
      let e : 0 + m ≡ m = omega arith in
      let d : s + 0 ≡ s = omega arith in
      rw (e, d)
  passed_over (suc n) m s f =
      let e : suc n + m ≡ suc (n + m) = omega arith in
      let d : s + suc n ≡ suc s + n = omega arith in
      rw (e, d, f s (omega arith) (omega arith)) (passed_over n m (suc s) (λ j a b. f j (omega arith) (omega arith)))

  -- The place that is taken: the one that is found, and the kept one where none is.
  module _ (kept : List ℕ) (first k i : ℕ) (i-is : i ≡ agreed_from fs k 0 rows) where
    pub taken-agreed : i < k → i ≡ taken kept fs first k rows
    unfolding taken
    taken-agreed h = rw (← i-is, lt-ltb i k h)

    pub taken-kept : (end : ℕ) → k ≤ i → first + length rows ≡ end → within (place_in kept first (end - 1)) k ≡ taken kept fs first k rows
    unfolding taken
    taken-kept end h e = rw (← i-is, le-ltb i k h, e)

-- the rows from the first to before the end are so many
pub rows_end : (t ss ms : List ℕ) {first end : ℕ} → first < end → first + length (rows_in t ss ms first end) ≡ end
rows_end t ss ms {first} {end} h = omega (arith, rows-length t ss ms (end - first) first)

-- a state has no more open places than a row has cells
few-places : (k : ℕ) (left : List (List ℕ)) → All (Fits 32 k) left → 0 < length left → k ≤ 32
few-places k [] f h = absurd (omega arith)
few-places k (r ∷ rs) f h = omega (arith, terms-long f.0.0, f.0.1)

pub few-open : (t ss ms : List ℕ) {first end k : ℕ} → All (Fits 32 k) (rows_in t ss ms first end) → first < end → k ≤ 32
few-open t ss ms {first} {end} {k} f h =
    few-places k (rows_in t ss ms first end) f (omega (arith, rows_end t ss ms h))
