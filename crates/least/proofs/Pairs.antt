-- What is kept for every pair of first and last row, as functions: the equation between them, and that they are the entries.
use mathlib.Core.Path.{◌≡◌, refl}
use mathlib.Core.Bool.{Bool}
use mathlib.Core.Logic.{◌⊎◌, inl, inr}
use mathlib.Core.List.{List, []}
use Prim.Native.Nat.{ℕ, zero, suc, ◌+◌, ◌*◌, ◌≤◌, ◌<◌}
use native.Mathlib.Omega.{arith}
use lib.ListN.{length, take}
use lib.Seq.{length-slice}
use Rattle.term.specs.Terms.{Terms}
use Rattle.table.specs.All.{All}
use Rattle.plan.specs.Runs.{runs}
use Rattle.plan.specs.Plans.{Measure}
use Rattle.plan.specs.Named.{May, may}
use Rattle.plan.proofs.NamedLaws.{Some, some, some-may}
use Rattle.plan.specs.code.Fits.{Fits}
use Rattle.least.specs.code.Best.{argmin, first_over, least_over, through, best}
use Rattle.least.specs.Later.{laters_in}
use Rattle.least.specs.code.Low.{Light}
use Rattle.least.specs.code.Pairs.{sums, closed_of, weighed_of}
use Rattle.least.specs.Least.{Least, Chosen}
use Rattle.least.specs.Entries.{between, Entry, none, leaf, inner}
use Rattle.least.proofs.Minimum.{argmin-first}
use Rattle.table.proofs.AllLaws.{all-each, all_take, all_drop}
use Rattle.least.proofs.Best.{Bare, bare-one, best-least, least-one, least-later, LeastRuns, leaf-least, node-least}
use Rattle.least.proofs.Later.{none-later}
use Rattle.least.proofs.Closing.{closes-length, order-does-not-matter}
use Rattle.least.proofs.Counts.{Solved, adds, place-least, place-whole}
use Rattle.least.proofs.Scan.{Scanned, closed_all, closes-fit, closes-flags}
use Rattle.least.proofs.Building.{chosen-one, chosen-cheapest}

outside : {first last n : ℕ} → (last < first) ⊎ (n ≤ last) → first ≤ last → last < n → ⊥
outside (inl l) h i = omega arith
outside (inr l) h i = omega arith

-- an entry is determined
pub entry-one : {m : Measure} {fs : List Bool} {w : ℕ} {rows : List (List ℕ)} {first last n n' i i' : ℕ} → Entry m fs w rows first last n i
    → Entry m fs w rows first last n' i'
    → (n ≡ n') × (i ≡ i')
entry-one (none o) (none o') = (refl, refl)
entry-one (none o) (leaf h l x) = absurd (outside o h l)
entry-one (none o) (inner h l x s c b d) = absurd (outside o h l)
entry-one (leaf h l x) (none o) = absurd (outside o h l)
entry-one (leaf h l x) (leaf h' l' y) = (refl, refl)
entry-one {m} (leaf h l x) (inner h' l' y s c b d) = absurd (omega (arith, (order-does-not-matter m x (λ i c h a v. absurd (omega arith)) y s).1))
entry-one (inner h l x s c b d) (none o) = absurd (outside o h l)
entry-one {m} (inner h l x s c b d) (leaf h' l' y) = absurd (omega (arith, (order-does-not-matter m x s y (λ i c h a v. absurd (omega arith))).1))
entry-one {m} (inner {others = k} {left = left} {count = n} {place = i} h l x s c b d) (inner {named' = gs} {others = k'} {left = left'} h' l' y t c' b' d') =
    let u = order-does-not-matter m x s y t in
    let ek : k ≡ k' = omega (arith, u.1) in
    let c'' : Least m gs (suc k') left' n = rw (ek, u.2, u.3) at c in
    let d'' : Chosen m gs k' left' i = rw (ek, u.2, u.3) at d in
    (least-one c'' c', chosen-one m (omega arith) b' d'' d')

-- rows of a table of width w, of at most n cells each
module _ (m : Measure) (n : ℕ) (fs : List Bool) (w : ℕ) (rows : List (List ℕ)) where
  -- the least cost from there
  unfoldable pub least_of : ℕ → ℕ → ℕ
  least_of first last =
      best m n (closed_of m n fs w rows first last).named (closed_of m n fs w rows first last).opens (closed_of m n fs w rows first last).left

  -- what the branches of place p there cost: over its runs, the sum of what each adds
  unfoldable pub branches_of : ℕ → ℕ → ℕ → ℕ
  branches_of first last p =
      sums (adds (weighed_of m n fs w rows) least_of (weighed_of m n fs w rows first last)) first (runs p (closed_of m n fs w rows first last).left)

  -- with the state's own figure
  abbrev pub cost_of : ℕ → ℕ → ℕ → ℕ
  cost_of first last = through m (closed_of m n fs w rows first last).left (branches_of first last)

  -- which of its places may be chosen
  abbrev pub may_of : ℕ → ℕ → ℕ → Bool
  may_of first last = may (closed_of m n fs w rows first last).named

  -- the place that is taken there
  unfoldable pub place_of : ℕ → ℕ → ℕ
  place_of first last = first_over (may_of first last) (closed_of m n fs w rows first last).opens (cost_of first last)

  module _ (fits : All (Fits n w) rows) (few : length fs ≤ w) where
    module _ (first last : ℕ) (order : first ≤ last) (inside : last < length rows) where
      pub pair-state : All (Fits n w) (between first last rows) × (0 < length (between first last rows))
      pair-state = (
        all_drop (Fits n w) first (take (suc last) rows) (all_take (Fits n w) (suc last) rows fits),
        omega (arith, length-slice first (suc last) rows inside),
      )

      pub pair-closed : Scanned m fs w (between first last rows) (closed_of m n fs w rows first last)
      unfolding closed_of
      pair-closed = closed_all m n fs w (between first last rows) pair-state.0 pair-state.1

      pub pair-flags : length (closed_of m n fs w rows first last).named ≤ (closed_of m n fs w rows first last).opens
      pair-flags = closes-flags pair-closed.closes.closes few

      pair-counts : Bare m (closed_of m n fs w rows first last).named (closed_of m n fs w rows first last).opens
          (closed_of m n fs w rows first last).left (least_of first last)
      unfolding least_of
      pair-counts =
          best-least m n (closed_of m n fs w rows first last).named (closed_of m n fs w rows first last).opens
          (closed_of m n fs w rows first last).left pair-flags
          (closes-fit n pair-closed.closes.closes pair-state.0)
          (omega (arith, closes-length pair-closed.closes.closes, pair-state.1))

      pub pair-solved : Solved m fs w (between first last rows) (weighed_of m n fs w rows first last) (least_of first last)
      pair-solved = record {
        named = (closed_of m n fs w rows first last).named;
        opens = (closed_of m n fs w rows first last).opens;
        left = (closed_of m n fs w rows first last).left;
        closes = pair-closed.closes;
        stuck = pair-closed.stuck;
        counts = pair-counts;
      }

    module _ (first last : ℕ) (order : first ≤ last) (inside : last < length rows) where
      -- what the branches of each place of the closed state that may be chosen cost at least
      branches-least : (k : ℕ) → (closed_of m n fs w rows first last).opens ≡ suc k → (p : ℕ) → p ≤ k → May (closed_of m n fs w rows first last).named p
          → LeastRuns m (closed_of m n fs w rows first last).named p k (runs p (closed_of m n fs w rows first last).left) (branches_of first last p)
      unfolding branches_of
      branches-least k e =
          let x = pair-closed first last order inside in
          place-least w rows (weighed_of m n fs w rows) least_of first last (weighed_of m n fs w rows first last) k
          (closed_of m n fs w rows first last).left inside
          (rw e at x.closes) (rw e at x.stuck) (λ j j' h h' h'' l. pair-solved j j' h' (omega arith))

      -- and with what the pair's rows agree on, once for each run, what the runs' rows cost with nothing closed
      pub branches-whole : (k : ℕ) → (closed_of m n fs w rows first last).opens ≡ suc k → (p : ℕ) → p ≤ k → May (closed_of m n fs w rows first last).named p
          → branches_of first last p + length (runs p (closed_of m n fs w rows first last).left) * weighed_of m n fs w rows first last
          ≡ sums (λ (j j' : ℕ). weighed_of m n fs w rows j j' + least_of j j') first (runs p (closed_of m n fs w rows first last).left)
      unfolding branches_of
      branches-whole k e =
          let x = pair-closed first last order inside in
          place-whole w rows (weighed_of m n fs w rows) least_of first last (weighed_of m n fs w rows first last) k
          (closed_of m n fs w rows first last).left inside
          (rw e at x.closes) (rw e at x.stuck) (λ j j' h h' h'' l. pair-solved j j' h' (omega arith))

      -- THE EQUATION OF LEAST COUNTS, for every pair of first and last row
      pub equation : least_of first last ≡ least_over (may_of first last) (closed_of m n fs w rows first last).opens (cost_of first last)
      equation = go (closed_of m n fs w rows first last).opens refl
        where
          go : (K : ℕ) → (closed_of m n fs w rows first last).opens ≡ K → least_of first last ≡ least_over (may_of first last) K (cost_of first last)
          go zero e =
              bare-one (rw e at (pair-counts first last order inside))
              (leaf-least m (closed_of m n fs w rows first last).named (closed_of m n fs w rows first last).left)
          go (suc k) e =
              bare-one (rw e at (pair-counts first last order inside))
              (node-least m (closed_of m n fs w rows first last).named k (closed_of m n fs w rows first last).left (branches_of first last)
              (omega (arith, pair-flags first last order inside)) (branches-least k e))

      -- the rows that are left are terms
      pub left-terms : All (Terms (closed_of m n fs w rows first last).opens) (closed_of m n fs w rows first last).left
      left-terms =
          all-each (Fits n (closed_of m n fs w rows first last).opens) (Terms (closed_of m n fs w rows first last).opens) (λ r x. x.0)
          (closed_of m n fs w rows first last).left (closes-fit n (pair-closed first last order inside).closes.closes
          (pair-state first last order inside).0)

      -- and the place is the rule's
      place-chosen : Light m → (k : ℕ) → (closed_of m n fs w rows first last).opens ≡ suc k
          → (argmin (may_of first last) k (cost_of first last) ≤ k)
          × Chosen m (closed_of m n fs w rows first last).named k (closed_of m n fs w rows first last).left
          (argmin (may_of first last) k (cost_of first last))
      place-chosen light k e = go (some-may (closed_of m n fs w rows first last).named k (omega (arith, pair-flags first last order inside)))
        where
          go : Some (closed_of m n fs w rows first last).named (suc k) → (argmin (may_of first last) k (cost_of first last) ≤ k)
              × Chosen m (closed_of m n fs w rows first last).named k (closed_of m n fs w rows first last).left
              (argmin (may_of first last) k (cost_of first last))
          go (some j l y) =
              let a = argmin-first (may_of first last) (cost_of first last) k j (omega arith) y in (
                a.within,
                chosen-cheapest m light (rw e at left-terms) (branches_of first last) (branches-least k e)
                    (rw e at (pair-closed first last order inside).stuck) a,
              )

      -- so these are the pair's entry, with what the later meetings cost that are left
      pub pair-entry : Light m → Entry m fs w rows first last (least_of first last + laters_in m [] (closed_of m n fs w rows first last).left)
          (place_of first last)
      unfolding place_of
      pair-entry light = go (closed_of m n fs w rows first last).opens refl equation
        where
          go : (K : ℕ) → (closed_of m n fs w rows first last).opens ≡ K → least_of first last ≡ least_over (may_of first last) K (cost_of first last)
              → Entry m fs w rows first last (least_of first last + laters_in m [] (closed_of m n fs w rows first last).left)
              (first_over (may_of first last) K (cost_of first last))
          go zero e q =
              let s : List (List ℕ) = (closed_of m n fs w rows first last).left in
              let z : least_of first last + laters_in m [] s ≡ 0 = omega (arith, q, none-later m s [] (rw e at left-terms)) in
              rw z (leaf order inside (rw e at (pair-closed first last order inside).closes.closes))
          go (suc k) e q =
              let x = pair-closed first last order inside in
              let c = place-chosen light k e in
              let l = least-later light (rw e at left-terms) (rw e at (pair-counts first last order inside)) in
              inner order inside (rw e at x.closes.closes) (rw e at x.stuck) l c.0 c.1
