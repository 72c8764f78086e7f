-- What is worked out again, and what is kept. `solved` is what the arrays hold in the end, whatever stood at the pairs that are kept: at a
-- pair that is worked out what its runs' values give, at any other what stood there. So the contracts of the code speak of values that are
-- there for any arrays at all. Where the kept values are a table's least costs, all of them are.
use mathlib.Core.Path.{◌≡◌, refl, ap, ◌∙◌}
use mathlib.Core.Logic.{◌≢◌, inr}
use mathlib.Core.Bool.{Bool, true, false, cond, not, ◌&&◌, ◌||◌}
use mathlib.Core.List.{List, [], ◌∷◌}
use Prim.Native.Nat.{ℕ, zero, suc, pred, ◌+◌, ◌-◌, ◌*◌, ◌≤◌, ◌<◌}
use native.Mathlib.Omega.{arith}
use lib.Dec.{eqb, ltb}
use lib.ListN.{length, get_or}
use lib.Seq.{slice, slice_empty, slice-cons, length-slice}
use borrow.Author.Tests.{eqb-true, eqb-false, ne_eqb, ltb-true, ltb-false, lt-ltb, le-ltb}
use Rattle.term.specs.Terms.{Terms, root, close}
use Rattle.table.specs.All.{All}
use Rattle.table.proofs.AllLaws.{all-each}
use Rattle.plan.specs.Runs.{Run, runs}
use Rattle.plan.specs.Plans.{Measure}
use Rattle.plan.specs.Named.{May, may}
use Rattle.plan.proofs.NamedLaws.{may-is, Some, some, some-may}
use Rattle.plan.specs.code.Fits.{Fits}
use Rattle.plan.specs.code.Rows.{row_count}
use Rattle.plan.proofs.SizeLaws.{bound}
use Rattle.plan.proofs.RunsLaws.{Sized, group-sizes, group-rows}
use Rattle.least.specs.Entries.{between}
use Rattle.least.specs.Least.{Stuck, Least}
use Rattle.least.specs.code.Best.{better, argmin, first_over, least_over, best}
use Rattle.least.specs.Later.{later_in, laters_in}
use Rattle.least.specs.code.Low.{Low}
use Rattle.least.specs.code.Pairs.{sums, closed_of, weighed_of, later_of, agreed_of, whole_of, price_by, least_by, place_by, whole_by}
use Rattle.least.proofs.Minimum.{argmin-within, argmin-first}
use Rattle.least.proofs.Best.{bare-one, best-least, least-later}
use Rattle.least.proofs.Later.{none-later, closes-later, laters-both}
use Rattle.least.proofs.Closing.{closes-length}
use Rattle.least.proofs.Parts.{Parts, slice-both, group-parts, part-proper}
use Rattle.least.proofs.Counts.{solved-least}
use Rattle.least.proofs.Pairs.{least_of, cost_of, may_of, place_of, pair-state, pair-closed, pair-flags, pair-solved, left-terms, branches-whole, equation}
use Rattle.least.proofs.Weighed.{cost-few}

ltb-shift : (a b c : ℕ) → ltb (a + c) (b + c) ≡ ltb a b
ltb-shift a b c = go (ltb a b) refl
  where
    go : (t : Bool) → ltb a b ≡ t → ltb (a + c) (b + c) ≡ t
    go true e = lt-ltb (a + c) (b + c) (omega (arith, ltb-true a b e))
    go false e = le-ltb (a + c) (b + c) (omega (arith, ltb-false a b e))

-- the first place at which a function is least goes by its values at the places that may be chosen, and does not change where all are c more
argmin-shift : (ok : ℕ → Bool) (k c : ℕ) (F G : ℕ → ℕ) → ((p : ℕ) → p ≤ k → ok p ≡ true → F p ≡ G p + c) → argmin ok k F ≡ argmin ok k G
unfolding argmin
argmin-shift ok zero c F G e = refl
argmin-shift ok (suc k) c F G e =
    let q : argmin ok k F ≡ argmin ok k G = argmin-shift ok k c F G (λ p h. e p (omega arith)) in
    let i : ℕ = argmin ok k F in
    let b : better ok F i (suc k) ≡ better ok G i (suc k) = go i (argmin-within ok F k) (ok (suc k)) (ok i) refl refl in
    rw (b, q)
  where
    go : (i : ℕ) → i ≤ k → (b d : Bool) → ok (suc k) ≡ b → ok i ≡ d
        → (b && (not d || ltb (F (suc k)) (F i))) ≡ (b && (not d || ltb (G (suc k)) (G i)))
    go i l true true x y = rw (e (suc k) (omega arith) x, e i (omega arith) y) (ltb-shift (G (suc k)) (G i) c)
    go i l true false x y = refl
    go i l false d x y = refl

over-shift : (fs : List Bool) (k c : ℕ) (F G : ℕ → ℕ) → length fs ≤ suc k → ((p : ℕ) → p ≤ k → May fs p → F p ≡ G p + c)
    → (least_over (may fs) (suc k) F ≡ least_over (may fs) (suc k) G + c) × (first_over (may fs) (suc k) F ≡ first_over (may fs) (suc k) G)
over-shift fs k c F G few e = go (some-may fs k few)
  where
    go : Some fs (suc k) → (least_over (may fs) (suc k) F ≡ least_over (may fs) (suc k) G + c) × (first_over (may fs) (suc k) F ≡ first_over (may fs) (suc k) G)
    go (some j l y) =
        let q : argmin (may fs) k F ≡ argmin (may fs) k G = argmin-shift (may fs) k c F G (λ p h y. e p h (may-is fs p y)) in
        let a = argmin-first (may fs) F k j (omega arith) y in
        (e (argmin (may fs) k F) a.within (may-is fs (argmin (may fs) k F) a.chosen) ∙ ap (λ (p : ℕ). G p + c) q, q)

over-same : (fs : List Bool) (k : ℕ) (F G : ℕ → ℕ) → length fs ≤ k → ((p : ℕ) → p < k → May fs p → F p ≡ G p)
    → (least_over (may fs) k F ≡ least_over (may fs) k G) × (first_over (may fs) k F ≡ first_over (may fs) k G)
over-same fs zero F G few e = (refl, refl)
over-same fs (suc k) F G few e =
    let q = over-shift fs k 0 F G few (λ p h y. omega (arith, e p (omega arith) y)) in
    (omega (arith, q.0), q.1)

module _ (m : Measure) (fs : List Bool) (w : ℕ) (rows : List (List ℕ)) where
  -- the values in the end: `again` says which pairs are worked out, `old` what stood at the others. The first number bounds the rows of the pair and
  -- never decides
  unfoldable pub solved : (ℕ → ℕ → Bool) → (ℕ → ℕ → ℕ) → ℕ → ℕ → ℕ → ℕ
  solved again old zero first last = old first last
  solved again old (suc n) first last = cond (again first last) (whole_by m fs w rows (λ (j j' : ℕ). solved again old n j j') first last) (old first last)

  module _ (fits : All (Fits 32 w) rows) (flags : length fs ≤ w) where
    module _ (first last : ℕ) (order : first ≤ last) (inside : last < length rows) where
      -- every run of an open place is a smaller pair
      sums-within : (U N : ℕ → ℕ → ℕ) (p : ℕ) → p < (closed_of m 32 fs w rows first last).opens → May (closed_of m 32 fs w rows first last).named p
          → ((j j' : ℕ) → first ≤ j → j ≤ j' → j' ≤ last → j' - j < last - first → U j j' ≡ N j j')
          → (o : ℕ) (gs : List Run) → Parts (root p) (close p) (closed_of m 32 fs w rows first last).left o gs → sums U (first + o) gs ≡ sums N (first + o) gs
      sums-within U N p h y e o [] q = refl
      sums-within U N p h y e o (g ∷ gs) q =
          let x = pair-closed m 32 fs w rows fits flags first last order inside in
          let l : length (closed_of m 32 fs w rows first last).left ≡ suc last - first =
          closes-length x.closes.closes ∙ length-slice first (suc last) rows inside in
          let less = part-proper p o g (closed_of m 32 fs w rows first last).left q.0 (λ a. x.stuck p g.cell h a y) in
          let a : first + (o + length g.rows) ≡ first + o + length g.rows = omega arith in
          let here : U (first + o) (pred (first + o + length g.rows)) ≡ N (first + o) (pred (first + o + length g.rows)) =
          e (first + o) (pred (first + o + length g.rows)) (omega arith) (omega (arith, q.0.some)) (omega (arith, q.0.inside, q.0.some))
          (omega (arith, q.0.inside, q.0.some)) in
          let rest : sums U (first + o + length g.rows) gs ≡ sums N (first + o + length g.rows) gs =
          rw a at (sums-within U N p h y e (o + length g.rows) gs q.1) in
          omega arith

      cost-same : (U N : ℕ → ℕ → ℕ) → ((j j' : ℕ) → first ≤ j → j ≤ j' → j' ≤ last → j' - j < last - first → U j j' ≡ N j j')
          → (p : ℕ) → p < (closed_of m 32 fs w rows first last).opens → May (closed_of m 32 fs w rows first last).named p
          → price_by m fs w rows U first last p ≡ price_by m fs w rows N first last p
      cost-same U N e p h y =
          let z : first + 0 ≡ first = omega arith in
          let s : sums U first (runs p (closed_of m 32 fs w rows first last).left) ≡ sums N first (runs p (closed_of m 32 fs w rows first last).left) =
          rw z at (sums-within U N p h y e 0 (runs p (closed_of m 32 fs w rows first last).left)
          (group-parts (root p) (close p) (closed_of m 32 fs w rows first last).left)) in
          rw s

      -- a pair's values go by those of smaller pairs
      pub by-same : (U N : ℕ → ℕ → ℕ) → ((j j' : ℕ) → first ≤ j → j ≤ j' → j' ≤ last → j' - j < last - first → U j j' ≡ N j j')
          → (least_by m fs w rows U first last ≡ least_by m fs w rows N first last) × (place_by m fs w rows U first last ≡ place_by m fs w rows N first last)
      by-same U N e =
          over-same (closed_of m 32 fs w rows first last).named (closed_of m 32 fs w rows first last).opens (price_by m fs w rows U first last)
          (price_by m fs w rows N first last)
          (pair-flags m 32 fs w rows fits flags first last order inside) (cost-same U N e)

    -- the bound on the rows of a pair does not matter
    pub solved-more : (again : ℕ → ℕ → Bool) (old : ℕ → ℕ → ℕ) (n n' first last : ℕ) → last - first < n → last - first < n' → first ≤ last → last < length rows
        → solved again old n first last ≡ solved again old n' first last
    unfolding solved
    solved-more again old zero n' first last h h' o i = absurd (omega arith)
    solved-more again old (suc n) zero first last h h' o i = absurd (omega arith)
    solved-more again old (suc n) (suc n') first last h h' o i =
        let e = by-same first last o i (λ (j j' : ℕ). solved again old n j j') (λ (j j' : ℕ). solved again old n' j j')
        (λ j j' a b c d. solved-more again old n n' j j' (omega arith) (omega arith) b (omega arith)) in
        let q : whole_by m fs w rows (λ (j j' : ℕ). solved again old n j j') first last ≡ whole_by m fs w rows (λ (j j' : ℕ). solved again old n' j j')
        first last = rw e.0 in
        rw q

    module _ (again : ℕ → ℕ → Bool) (old : ℕ → ℕ → ℕ) (few : length rows ≤ 64) where
      -- what the arrays hold in the end
      abbrev pub held : ℕ → ℕ → ℕ
      held first last = solved again old 64 first last

      -- a pair that is worked out, from the values of its runs
      pub again-is : (first last : ℕ) → first ≤ last → last < length rows → again first last ≡ true → held first last ≡ whole_by m fs w rows held first last
      unfolding solved
      again-is first last o i a =
          let e = by-same first last o i (λ (j j' : ℕ). solved again old 63 j j') held
          (λ j j' b c d l. solved-more again old 63 64 j j' (omega arith) (omega arith) c (omega arith)) in
          rw (a, e.0)

      -- a pair that is kept
      pub old-is : (first last : ℕ) → again first last ≡ false → held first last ≡ old first last
      unfolding solved
      old-is first last a = rw a

-- what later meetings cost, over runs one after another
sums-later : (m : Measure) (rows : List (List ℕ)) (j : ℕ) (gs : List Run) (s : ℕ) → Sized s gs → j + row_count gs ≤ length rows
    → sums (λ (i i' : ℕ). laters_in m [] (between i i' rows)) j gs ≡ laters_in m [] (slice j (j + row_count gs) rows)
sums-later m rows j [] s z h = let e : j + 0 ≡ j = omega arith in rw (e, slice_empty j rows)
sums-later m rows j (g ∷ gs) s z h =
    let n : ℕ = length g.rows in
    let e : suc (pred (j + n)) ≡ j + n = omega (arith, z.0.0) in
    let e' : j + n + row_count gs ≡ j + (n + row_count gs) = omega arith in
    let ih = rw e' at (sums-later m rows (j + n) gs s z.1 (omega arith)) in
    let both = ap (laters_in m []) (slice-both j (j + n) (j + (n + row_count gs)) rows (omega arith) (omega arith) (omega arith)) in
    let split = laters-both m [] (slice j (j + n) rows) (slice (j + n) (j + (n + row_count gs)) rows) in
    rw e (omega (arith, ih, both, split))

sums-plus : (U W : ℕ → ℕ → ℕ) (j : ℕ) (gs : List Run) → sums (λ (i i' : ℕ). U i i' + W i i') j gs ≡ sums U j gs + sums W j gs
sums-plus U W j [] = omega arith
sums-plus U W j (g ∷ gs) = omega (arith, sums-plus U W (j + length g.rows) gs)

-- a state at which no place that may be chosen is agreed has several rows
stuck-many : (fs : List Bool) (k : ℕ) (rows : List (List ℕ)) → length fs ≤ suc k → Stuck fs (suc k) rows → 0 < length rows → 1 < length rows
stuck-many fs k [] few s h = absurd (omega arith)
stuck-many fs k (r ∷ []) few s h = go (some-may fs k few)
  where
    go : Some fs (suc k) → 1 < length (r ∷ [])
    go (some j l y) = absurd (s j (root j r) l (record { cells = (refl, tt); fixed = inr (omega arith); some = omega arith }) (may-is fs j y))
stuck-many fs k (r ∷ (q ∷ rs)) few s h = omega arith

-- WHERE THE KEPT VALUES ARE RIGHT, ALL ARE
module _ (m : Measure) (low : Low m) (fs : List Bool) (w : ℕ) (rows : List (List ℕ)) (fits : All (Fits 32 w) rows) (flags : length fs ≤ w)
    (few : length rows ≤ 64) where
  whole-splits : (j j' : ℕ) → j ≤ j' → j' < length rows → best m 32 fs w (between j j' rows) ≡ weighed_of m 32 fs w rows j j' + least_of m 32 fs w rows j j'
  whole-splits j j' h l =
      let s = pair-state m 32 fs w rows fits flags j j' h l in
      bare-one (best-least m 32 fs w (between j j' rows) flags s.0 s.1) (solved-least (pair-solved m 32 fs w rows fits flags j j' h l))

  pair-terms : (j j' : ℕ) → j ≤ j' → j' < length rows → All (Terms w) (between j j' rows)
  pair-terms j j' h l = all-each (Fits 32 w) (Terms w) (λ r x. x.0) (between j j' rows) (pair-state m 32 fs w rows fits flags j j' h l).0

  -- what a pair costs at least
  pub whole-least : (j j' : ℕ) → j ≤ j' → j' < length rows → Least m fs w (between j j' rows) (whole_of m fs w rows j j')
  whole-least j j' h l =
      let s = pair-state m 32 fs w rows fits flags j j' h l in
      least-later low.light (pair-terms j j' h l) (best-least m 32 fs w (between j j' rows) flags s.0 s.1)

  pub whole-small : (j j' : ℕ) → j ≤ j' → j' < length rows → whole_of m fs w rows j j' ≤ 40960
  whole-small j j' h l =
      let s = pair-state m 32 fs w rows fits flags j j' h l in
      let b = whole-least j j' h l in
      let z = bound b.plan 32 s.0 s.1 in
      omega (arith, b.costs-it, cost-few m low [] b.plan, length-slice j (suc j') rows l)

  module _ (first last : ℕ) (order : first ≤ last) (inside : last < length rows) where
    abbrev Left : List (List ℕ)
    Left = (closed_of m 32 fs w rows first last).left

    abbrev opens : ℕ
    opens = (closed_of m 32 fs w rows first last).opens

    abbrev names : List Bool
    names = (closed_of m 32 fs w rows first last).named

    left-length : length Left ≡ suc last - first
    left-length = closes-length (pair-closed m 32 fs w rows fits flags first last order inside).closes.closes ∙ length-slice first (suc last) rows inside

    -- where a place is open there are several rows
    several : (k : ℕ) → opens ≡ suc k → first < last
    several k e =
        let f : length names ≤ suc k = omega (arith, pair-flags m 32 fs w rows fits flags first last order inside) in
        omega (
          arith,
          left-length,
          stuck-many names k Left f (rw e at (pair-closed m 32 fs w rows fits flags first last order inside).stuck)
              (omega (arith, left-length)),
        )

    -- a pair's later meetings are those of a single row, or they are left when all that is agreed on is closed
    later-splits : laters_in m [] (between first last rows) ≡ later_of m 32 fs w rows first last + laters_in m [] Left
    unfolding later_of
    later-splits = go (eqb first last) refl
      where
        none : (k : ℕ) → opens ≡ k → first ≡ last → laters_in m [] Left ≡ 0
        none zero e q = none-later m Left [] (rw e at (left-terms m 32 fs w rows fits flags first last order inside))
        none (suc k) e q = absurd (omega (arith, several k e))

        go : (b : Bool) → eqb first last ≡ b → laters_in m [] (between first last rows) ≡ cond b (later_in m [] (get_or rows first [])) 0 + laters_in m [] Left
        go true e =
            let q : first ≡ last = eqb-true first last e in
            let c : between first last rows ≡ get_or rows first [] ∷ slice (suc first) (suc last) rows =
            slice-cons first (suc last) rows [] (omega arith) inside in
            let d : slice (suc first) (suc last) rows ≡ [] = rw (← q) (slice_empty (suc first) rows) in
            rw (c, d) (omega (arith, none opens refl q))
        go false e =
            let q : first ≢ last = eqb-false first last e in
            let x = (pair-closed m 32 fs w rows fits flags first last order inside).closes.closes in
            omega (arith, closes-later m x (omega (arith, q, length-slice first (suc last) rows inside)) (pair-terms first last order inside))

    -- the least costs solve the equations
    right-cost : (k : ℕ) → opens ≡ suc k → (p : ℕ) → p ≤ k → May names p
        → price_by m fs w rows (whole_of m fs w rows) first last p ≡ cost_of m 32 fs w rows first last p + laters_in m [] Left
    unfolding later_of
    right-cost k e p h y =
        let gs : List Run = runs p Left in
        let b = branches-whole m 32 fs w rows fits flags first last order inside k e p h y in
        let z : first + 0 ≡ first = omega arith in
        let s : sums (λ (j j' : ℕ). best m 32 fs w (between j j' rows)) first gs
        ≡ sums (λ (j j' : ℕ). weighed_of m 32 fs w rows j j' + least_of m 32 fs w rows j j') first gs =
        rw z at (sums-within m fs w rows fits flags first last order inside (λ (j j' : ℕ). best m 32 fs w (between j j' rows))
        (λ (j j' : ℕ). weighed_of m 32 fs w rows j j' + least_of m 32 fs w rows j j')
        p (omega arith) y (λ j j' a b c d. whole-splits j j' b (omega arith)) 0 gs (group-parts (root p) (close p) Left)) in
        let n : row_count gs ≡ length Left = group-rows (root p) (close p) Left in
        let t : first + row_count gs ≡ suc last = omega (arith, n, left-length) in
        let u = rw t at (sums-later m rows first gs (length Left) (group-sizes (root p) (close p) Left) (omega arith)) in
        let v = sums-plus (λ (j j' : ℕ). best m 32 fs w (between j j' rows)) (λ (j j' : ℕ). laters_in m [] (between j j' rows)) first gs in
        let o : later_of m 32 fs w rows first last ≡ 0 = rw (ne_eqb first last (λ q. omega (arith, several k e))) in
        let f : length gs * agreed_of m 32 fs w rows first last ≡ length gs * weighed_of m 32 fs w rows first last =
        ap (λ (a : ℕ). length gs * a) (omega (arith, o)) in
        omega (arith, b, s, u, v, f, later-splits, o)

  -- at right values the pair's entry
  pub by_right : (first last : ℕ) → first ≤ last → last < length rows
      → (least_by m fs w rows (whole_of m fs w rows) first last ≡ least_of m 32 fs w rows first last + laters_in m [] (closed_of m 32 fs w rows first last).left)
      × (place_by m fs w rows (whole_of m fs w rows) first last ≡ place_of m 32 fs w rows first last)
  unfolding place_of
  by_right first last o i = go (opens first last o i) refl (equation m 32 fs w rows fits flags first last o i)
    where
      go : (K : ℕ) → (closed_of m 32 fs w rows first last).opens ≡ K
          → least_of m 32 fs w rows first last ≡ least_over (may_of m 32 fs w rows first last) K (cost_of m 32 fs w rows first last)
          → (least_over (may_of m 32 fs w rows first last) K (price_by m fs w rows (whole_of m fs w rows) first last)
          ≡ least_of m 32 fs w rows first last + laters_in m [] (closed_of m 32 fs w rows first last).left)
          × (first_over (may_of m 32 fs w rows first last) K (price_by m fs w rows (whole_of m fs w rows) first last)
          ≡ first_over (may_of m 32 fs w rows first last) K (cost_of m 32 fs w rows first last))
      go zero e q =
          let s : List (List ℕ) = (closed_of m 32 fs w rows first last).left in
          (omega (arith, q, none-later m s [] (rw e at (left-terms m 32 fs w rows fits flags first last o i))), refl)
      go (suc k) e q =
          let c = over-shift (names first last o i) k _ (price_by m fs w rows (whole_of m fs w rows) first last) (cost_of m 32 fs w rows first last)
          (omega (arith, pair-flags m 32 fs w rows fits flags first last o i)) (right-cost first last o i k e) in
          (omega (arith, q, c.0), c.1)

  right-whole : (first last : ℕ) → first ≤ last → last < length rows → whole_by m fs w rows (whole_of m fs w rows) first last ≡ whole_of m fs w rows first last
  right-whole first last o i =
      omega (arith, (by_right first last o i).0, whole-splits first last o i, later-splits first last o i, whole-small first last o i)

  module _ (again : ℕ → ℕ → Bool) (old : ℕ → ℕ → ℕ)
      (kept : (j j' : ℕ) → j ≤ j' → j' < length rows → again j j' ≡ false → old j j' ≡ whole_of m fs w rows j j') where
    all_right : (n first last : ℕ) → last - first < n → first ≤ last → last < length rows
        → held m fs w rows fits flags again old few first last ≡ whole_of m fs w rows first last
    all_right zero first last h o i = absurd (omega arith)
    all_right (suc n) first last h o i = go (again first last) refl (λ j j' a b c d. all_right n j j' (omega arith) b (omega arith))
      where
        go : (b : Bool) → again first last ≡ b
            → ((j j' : ℕ) → first ≤ j → j ≤ j' → j' ≤ last → j' - j < last - first → held m fs w rows fits flags again old few j j' ≡ whole_of m fs w rows j j')
            → held m fs w rows fits flags again old few first last ≡ whole_of m fs w rows first last
        go false e ih = old-is m fs w rows fits flags again old few first last e ∙ kept first last o i e
        go true e ih =
            let s = by-same m fs w rows fits flags first last o i (held m fs w rows fits flags again old few) (whole_of m fs w rows) ih in
            again-is m fs w rows fits flags again old few first last o i e ∙ rw s.0 (right-whole first last o i)

    pub values-right : (first last : ℕ) → first ≤ last → last < length rows
        → held m fs w rows fits flags again old few first last ≡ whole_of m fs w rows first last
    values-right first last o i = all_right 64 first last (omega arith) o i
