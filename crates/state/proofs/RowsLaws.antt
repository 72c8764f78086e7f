-- The rows of a state by their masks, their column, and their runs, as the check goes through them.
use mathlib.Core.Path.{◌≡◌, refl, sym, ap, ◌∙◌}
use mathlib.Core.Logic.{by_cases}
use mathlib.Core.List.{List, [], ◌∷◌, map}
use Prim.Native.Nat.{ℕ, zero, suc, ◌+◌, ◌-◌, ◌≤◌, ◌<◌, min}
use native.Mathlib.Nat.{add-zero}
use native.Mathlib.Decide.{dec_lt}
use native.Mathlib.Omega.{arith}
use lib.ListN.{length, get_or, take, drop, set, length-drop, length-map}
use lib.Seq.{drop-cons, drop-drop, drop-set-lt, get_or-set_same, get_or-drop, length-take-le, sets, length-sets}
use Rattle.term.specs.Terms.{root, close}
use Rattle.term.proofs.Lists.{set-sets, sets-found, get_d_sets, drop-sets, slice-take}
use Rattle.plan.specs.Runs.{run, runs}
use Rattle.state.specs.Mask.{kept}
use Rattle.state.specs.Column.{run_length, run_count, runs_on}
use Rattle.state.specs.States.{row_at, rows_at, rows_in, column_in, runs_in, mask_at, masks_at, masks_in, ClosedRows, Same}
use Rattle.state.proofs.ColumnLaws.{run-few, group-on, first_run, count_runs}

-- the first row, and the others
module _ (t ss ms : List ℕ) where
  pub rows_none : (first : ℕ) → rows_in t ss ms first first ≡ []
  unfolding rows_at
  rows_none first = let e : first - first ≡ 0 = omega arith in rw e

  pub rows-first : (first end : ℕ) → first < end → rows_in t ss ms first end ≡ row_at t ss ms first ∷ rows_in t ss ms (first + 1) end
  unfolding rows_at
  rows-first first end h = let e : end - first ≡ suc (end - (first + 1)) = omega arith in rw e

  pub rows-length : (n r : ℕ) → length (rows_at t ss ms n r) ≡ n
  unfolding rows_at
  rows-length zero r = refl
  rows-length (suc n) r = ap suc (rows-length n (r + 1))

  rows_take : (n m r : ℕ) → take n (rows_at t ss ms (n + m) r) ≡ rows_at t ss ms n r
  unfolding rows_at
  rows_take zero m r = refl
  rows_take (suc n) m r = let e : suc n + m ≡ suc (n + m) = omega arith in rw e (ap (λ (l : List (List ℕ)). row_at t ss ms r ∷ l) (rows_take n m (r + 1)))

  rows_drop : (n m r : ℕ) → drop n (rows_at t ss ms (n + m) r) ≡ rows_at t ss ms m (r + n)
  unfolding rows_at
  rows_drop zero m r = let e : 0 + m ≡ m = omega arith in rw (e, add-zero)
  rows_drop (suc n) m r =
      let e : suc n + m ≡ suc (n + m) = omega arith in
      let d : r + suc n ≡ r + 1 + n = omega arith in
      rw (e, d) (rows_drop n m (r + 1))

-- rows whose masks are as they were
at_drop : (l : List ℕ) (r : ℕ) → get_or l r 0 ≡ get_or (drop r l) 0 0
at_drop l r = let e : r + 0 ≡ r = omega arith in sym (rw e at (get_or-drop r l 0 0))

pub rows-kept : (t ss ms ms' : List ℕ) (n r : ℕ) → drop r ms' ≡ drop r ms → rows_at t ss ms' n r ≡ rows_at t ss ms n r
unfolding rows_at
rows-kept t ss ms ms' zero r h = refl
rows-kept t ss ms ms' (suc n) r h =
    let e = at_drop ms' r ∙ ap (λ (l : List ℕ). get_or l 0 0) h ∙ sym (at_drop ms r) in
    let d : drop (r + 1) ms' ≡ drop (r + 1) ms = sym (drop-drop 1 r ms') ∙ ap (drop 1) h ∙ drop-drop 1 r ms in
    rw (e, rows-kept t ss ms ms' n (r + 1) d)

-- the first cell of a column, and the others
pub column-none : (hs : List ℕ) (first : ℕ) → column_in hs first first ≡ []
column-none hs first = let e : first - first ≡ 0 = omega arith in rw e

column-first : (hs : List ℕ) (first end : ℕ) → first < end → end ≤ length hs → column_in hs first end ≡ get_or hs first 0 ∷ column_in hs (first + 1) end
column-first hs first end h l =
    let e : end - first ≡ suc (end - (first + 1)) = omega arith in
    let d : first + 1 ≡ suc first = omega arith in
    rw (e, d, drop-cons hs first 0 (omega arith))

column-drop : (hs : List ℕ) (first end n : ℕ) → first + n ≤ end → drop n (column_in hs first end) ≡ column_in hs (first + n) end
column-drop hs first end n h =
    let e : end - first ≡ n + (end - (first + n)) = omega arith in
    rw e (slice-take n (end - (first + n)) (drop first hs) ∙ ap (take (end - (first + n))) (drop-drop n first hs))

pub column-length : (hs : List ℕ) (first end : ℕ) → end ≤ length hs → length (column_in hs first end) ≡ end - first
column-length hs first end h = length-take-le (end - first) (drop first hs) (omega (arith, length-drop first hs))

-- The first run of some rows, and the runs after it.
pub record FirstRun (t ss ms hs : List ℕ) (row end n : ℕ) : Type 0 where
  pub some : 0 < n
  pub few : row + n ≤ end
  pub front : rows_in t ss ms row (row + n) ≡ take n (rows_in t ss ms row end)
  pub back : rows_in t ss ms (row + n) end ≡ drop n (rows_in t ss ms row end)
  pub runs : runs_in t ss ms hs row end ≡ run (get_or hs row 0) (rows_in t ss ms row (row + n)) ∷ runs_in t ss ms hs (row + n) end

pub run-first : (t ss ms hs : List ℕ) (row end n : ℕ) → row < end → end ≤ length hs → n ≡ run_length (column_in hs row end) → FirstRun t ss ms hs row end n
run-first t ss ms hs row end n h l e =
    let cs : List ℕ = column_in hs (row + 1) end in
    let c : ℕ = get_or hs row 0 in
    let col = column-first hs row end h l in
    let q : n ≡ run_length (c ∷ cs) = e ∙ ap run_length col in
    let f : run_length (c ∷ cs) ≤ length (c ∷ cs) = run-few c cs in
    let len : length (c ∷ cs) ≡ end - row = ap length (sym col) ∙ column-length hs row end l in
    let m : end - row ≡ n + (end - (row + n)) = omega arith in
    let z : row + n - row ≡ n = omega arith in
    let rl = rows-length t ss ms (end - row) row in
    let r = first_run c cs (rows_in t ss ms row end) (len ∙ sym rl) in
    let tk : take n (rows_in t ss ms row end) ≡ rows_in t ss ms row (row + n) = rw (m, z) (rows_take t ss ms n (end - (row + n)) row) in
    let dr : drop n (rows_in t ss ms row end) ≡ rows_in t ss ms (row + n) end = rw m (rows_drop t ss ms n (end - (row + n)) row) in
    let dc : drop n (c ∷ cs) ≡ column_in hs (row + n) end = ap (drop n) (sym col) ∙ column-drop hs row end n (omega arith) in
    record {
      some = omega arith;
      few = omega arith;
      front = sym tk;
      back = sym dr;
      runs = ap (λ (l : List ℕ). runs_on l (rows_in t ss ms row end)) col
          ∙ (rw (← q, tk, dr, dc) at r);
    }

-- How many runs there are.
pub run-number : (t ss ms hs : List ℕ) (first end : ℕ) → end ≤ length hs → length (runs_in t ss ms hs first end) ≡ run_count (column_in hs first end)
run-number t ss ms hs first end l =
    count_runs (column_in hs first end) (rows_in t ss ms first end) (column-length hs first end l ∙ sym (rows-length t ss ms (end - first) first))

-- What the check and the builder use of rows that are closed: those before first do not count any more.
pub record Closes (t ss ms hs ms' hs' : List ℕ) (i first end : ℕ) : Type 0 where
  pub cells : column_in hs' first end ≡ map (root i) (rows_in t ss ms first end)
  pub rows : rows_in t ss ms' first end ≡ map (close i) (rows_in t ss ms first end)
  pub masks : Same end ms ms'
  pub column : Same end hs hs'

-- Closing a place: the runs of the rows that are closed are the runs at that place.
pub runs_closed : {t ss ms hs ms' hs' : List ℕ} {i first end : ℕ} → Closes t ss ms hs ms' hs' i first end
    → runs i (rows_in t ss ms first end) ≡ runs_in t ss ms' hs' first end
runs_closed {t} {ss} {ms} {i = i} {first} {end} c = group-on (root i) (close i) (rows_in t ss ms first end) ∙ rw (← c.cells, ← c.rows)

-- a list is the same as itself, as one that is the same as it, and as one with a store before the place
module _ (from : ℕ) where
  pub same_self : (xs : List ℕ) → Same from xs xs
  same_self xs = record { size = refl; after = refl }

  pub same_then : {xs ys zs : List ℕ} → Same from xs ys → Same from ys zs → Same from xs zs
  same_then a b = record { size = b.size ∙ a.size; after = b.after ∙ a.after }

  pub same-later : {xs ys : List ℕ} (to : ℕ) → from ≤ to → Same from xs ys → Same to xs ys
  same-later {xs} {ys} to h a =
      let e : from + (to - from) ≡ to = omega arith in
      record { size = a.size; after = rw e at (sym (drop-drop (to - from) from ys) ∙ ap (drop (to - from)) a.after ∙ drop-drop (to - from) from xs) }

-- The loop that closes a place of the rows, from the last to the first: no row is closed, one more before those that are, and all are.
module _ (t ss ms hs : List ℕ) (i : ℕ) where
  masks-first : (first end : ℕ) → first < end → masks_in t ss ms i first end ≡ mask_at t ss ms i first ∷ masks_in t ss ms i (first + 1) end
  unfolding masks_at
  masks-first first end h = let e : end - first ≡ suc (end - (first + 1)) = omega arith in rw e

  pub closed_none : (first end : ℕ) → end ≤ first → ClosedRows t ss ms hs ms hs i first end
  unfolding rows_at masks_at
  closed_none first end h =
      let e : end - first ≡ 0 = omega arith in
      record { column = rw e; masks = rw e; lists = λ r a b. absurd (let z : ⊥ = omega arith in z) }

  pub closed-one : (ns ks : List ℕ) (r row end x m : ℕ) → r + 1 ≡ row → row ≤ end → x ≡ root i (row_at t ss ns r)
      → m ≡ mask_at t ss ns i r → kept m (drop (get_or ss r 0) t) ≡ close i (row_at t ss ns r)
      → ClosedRows t ss ms hs ns ks i row end → ClosedRows t ss ms hs (set ns r m) (set ks r x) i r end
  closed-one ns ks r row end x m q h ex em here c =
      let s : row ≡ suc r = omega arith in
      let same : get_or ns r 0 ≡ get_or ms r 0 = rw c.masks (get_d_sets ms (masks_in t ss ms i row end) r row (omega arith)) in
      record {
        column = ap (λ (k : List ℕ). set k r x) c.column
            ∙ set-sets hs r row x (map (root i) (rows_in t ss ms row end)) (omega arith)
            ∙ rw (ex, same, rows-first t ss ms r end (omega arith), q, s);
        masks = ap (λ (n : List ℕ). set n r m) c.masks
            ∙ set-sets ms r row m (masks_in t ss ms i row end) (omega arith)
            ∙ rw (em, same, masks-first r end (omega arith), q, s);
        lists = at same;
      }
    where
      at : get_or ns r 0 ≡ get_or ms r 0 → (s : ℕ) → r ≤ s → s < end → kept (mask_at t ss ms i s) (drop (get_or ss s 0) t) ≡ close i (row_at t ss ms s)
      at same s a b =
          by_cases (dec_lt r s)
          (λ (l : r < s). c.lists s (omega arith) b)
          (λ l. let z : s ≡ r = omega arith in rw (z, ← same, ← em) here)

  pub closed_all : {ns ks : List ℕ} (first row end : ℕ) → row ≤ end → min first end ≤ row → row ≤ first → ClosedRows t ss ms hs ns ks i row end
      → ClosedRows t ss ms hs ns ks i first end
  unfolding rows_at masks_at
  closed_all first row end a b d c =
      by_cases (dec_lt end first)
      (λ (l : end < first). let e : end - first ≡ 0 = omega arith in let z : end - row ≡ 0 = omega arith in
      record { column = rw e (rw z at c.column); masks = rw e (rw z at c.masks); lists = λ r x y. absurd (let z : ⊥ = omega arith in z) })
      (λ l. let e : row ≡ first = omega arith in rw e at c)

  -- what is used of it: the rows by the masks that are left are those of the definition
  masks-length : (n r : ℕ) → length (masks_at t ss ms i n r) ≡ n
  unfolding masks_at
  masks-length zero r = refl
  masks-length (suc n) r = ap suc (masks-length n (r + 1))

  rows-closed : (n r : ℕ) → r + n ≤ length ms → ((s : ℕ) → r ≤ s → s < r + n → kept (mask_at t ss ms i s) (drop (get_or ss s 0) t) ≡ close i (row_at t ss ms s))
      → rows_at t ss (sets ms r (masks_at t ss ms i n r)) n r ≡ map (close i) (rows_at t ss ms n r)
  unfolding rows_at masks_at
  rows-closed zero r h f = refl
  rows-closed (suc n) r h f =
      let m : ℕ = mask_at t ss ms i r in
      let rest : List ℕ = masks_at t ss ms i n (r + 1) in
      let ns : List ℕ = sets ms (r + 1) rest in
      let q : suc r ≡ r + 1 = omega arith in
      let e : sets (set ms r m) (suc r) rest ≡ set ns r m = rw q (sym (set-sets ms r (r + 1) m rest (omega arith))) in
      let here = get_or-set_same ns r m 0 (omega (arith, length-sets ms (r + 1) rest)) in
      let others = rows-kept t ss ns (set ns r m) n (r + 1) (drop-set-lt (r + 1) ns r m (omega arith)) in
      ap (λ (z : List ℕ). rows_at t ss z (suc n) r) e
      ∙ rw (here, others, f r (omega arith) (omega arith), rows-closed n (r + 1) (omega arith) (λ s a b. f s (omega arith) (omega arith)))

  pub closes-of : {ns ks : List ℕ} {first end : ℕ} → first ≤ end → end ≤ 64 → length ms ≡ 64 → length hs ≡ 64 → ClosedRows t ss ms hs ns ks i first (min end 64)
      → Closes t ss ms hs ns ks i first end
  closes-of {ns} {ks} {first} {end} h l j k d =
      let e : min end 64 ≡ end = omega arith in
      let c = rw e at d in
      let xs : List ℕ = map (root i) (rows_in t ss ms first end) in
      let x : length xs ≡ end - first = length-map (rows_in t ss ms first end) (root i) ∙ rows-length t ss ms (end - first) first in
      let ys : List ℕ = masks_in t ss ms i first end in
      let y : length ys ≡ end - first = masks-length (end - first) first in
      record {
        cells = rw c.column (sets-found hs xs first (end - first) (omega arith) (omega arith));
        rows = rw c.masks (rows-closed (end - first) first (omega arith) (λ r a b. c.lists r a (omega arith)));
        masks = record { size = rw c.masks (length-sets ms first ys); after = rw c.masks (drop-sets ms ys end first (omega arith)) };
        column = record { size = rw c.column (length-sets hs first xs); after = rw c.column (drop-sets hs xs end first (omega arith)) };
      }
