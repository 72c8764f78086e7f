-- The plan that follows kept places: there is one whatever they are, and where they are a table's entries it is the builder's.
use mathlib.Core.Path.{◌≡◌, refl, sym, ◌∙◌}
use mathlib.Core.Bool.{Bool, true, false, cond, true≢false, ◌&&◌}
use mathlib.Core.Logic.{inl, inr}
use mathlib.Core.List.{List, [], ◌∷◌}
use Prim.Native.Nat.{ℕ, zero, suc, ◌+◌, ◌-◌, ◌≤◌, ◌<◌}
use native.Mathlib.Nat.{zero-add}
use native.Mathlib.Omega.{arith}
use lib.Dec.{eqb, ltb}
use lib.ListN.{length}
use lib.Seq.{slice, take-length}
use borrow.Author.Tests.{eqb-true, eqb-false, ltb-true, ltb-false, lt-ltb, le-ltb}
use Rattle.cell.specs.Cell.{arity}
use Rattle.term.specs.Terms.{root, close}
use Rattle.table.specs.All.{All}
use Rattle.plan.specs.Runs.{Run, runs}
use Rattle.plan.specs.Plans.{Plan, leaf, node, Branches, end, next, Measure}
use Rattle.plan.specs.Named.{spread, May, may}
use Rattle.plan.proofs.NamedLaws.{may-is, is-may}
use Rattle.plan.specs.code.Fits.{Fits}
use Rattle.plan.proofs.RunsLaws.{Each, Sized, group-sizes, fits-some, runs_fit}
use Rattle.least.specs.Least.{Agree, Stuck, Chosen, shared, Built, Builts}
use Rattle.least.specs.Entries.{Closes, stop, Entry, none, leaf, inner, place_in}
use Rattle.least.specs.code.Follow.{agreed_from, within, taken, Follows, FollowsIn}
use Rattle.least.proofs.Agreed.{one-agrees, no_run}
use Rattle.least.proofs.Closing.{weighed, order-does-not-matter}
use Rattle.least.proofs.Counts.{run-closes}
use Rattle.least.proofs.Building.{chosen-may}
use Rattle.least.proofs.Parts.{Parts, group-parts}

stuck-next : (fs : List Bool) (i : ℕ) (rows : List (List ℕ)) → Stuck fs i rows → ((c : ℕ) → Agree i c rows → May fs i → ⊥) → Stuck fs (suc i) rows
stuck-next fs i rows s n j c h a y = go (ltb j i) refl
  where
    go : (b : Bool) → ltb j i ≡ b → ⊥
    go true e = s j c (ltb-true j i e) a y
    go false e = let ij : j ≡ i = omega (arith, ltb-false j i e) in n c (rw ij at a) (rw ij at y)

-- the leftmost agreed place that may be chosen, or none
data Leftmost (fs : List Bool) (n i : ℕ) (rows : List (List ℕ)) : ℕ → Type 0 where
  is-there : {a : ℕ} → a < i + n → May fs a → length (runs a rows) ≡ 1 → Stuck fs a rows → Leftmost fs n i rows a
  is_none : Stuck fs (i + n) rows → Leftmost fs n i rows (i + n)

leftmost : (fs : List Bool) (n i : ℕ) (rows : List (List ℕ)) → Stuck fs i rows → Leftmost fs n i rows (agreed_from fs n i rows)
unfolding agreed_from
leftmost fs zero i rows s =
    let e : i + 0 ≡ i = omega arith in
    let x : Leftmost fs zero i rows (i + 0) = is_none (rw e s) in
    rw e at x
leftmost fs (suc n) i rows s = go (may fs i) (eqb (length (runs i rows)) 1) refl refl (λ t. leftmost fs n (suc i) rows t)
  where
    up : {a : ℕ} → Leftmost fs n (suc i) rows a → Leftmost fs (suc n) i rows a
    up (is-there {a} l y e t) = is-there {a = a} (omega arith) y e t
    up (is_none t) =
        let e : suc i + n ≡ i + suc n = omega arith in
        let x : Leftmost fs (suc n) i rows (i + suc n) = is_none (rw e at t) in
        rw e x

    go : (b c : Bool) → may fs i ≡ b → eqb (length (runs i rows)) 1 ≡ c → (Stuck fs (suc i) rows → Leftmost fs n (suc i) rows (agreed_from fs n (suc i) rows))
        → Leftmost fs (suc n) i rows (cond (b && c) i (agreed_from fs n (suc i) rows))
    go true true y e ih = is-there {a = i} (omega arith) (may-is fs i y) (eqb-true (length (runs i rows)) 1 e) s
    go true false y e ih = up (ih (stuck-next fs i rows s (λ c a v. no_run i c rows (eqb-false (length (runs i rows)) 1 e) a)))
    go false c y e ih = up (ih (stuck-next fs i rows s (λ c a v. true≢false (sym (is-may fs i v) ∙ y))))

within-open : (p k : ℕ) → within p (suc k) ≤ k
within-open p k = go (ltb p (suc k)) refl
  where
    go : (b : Bool) → ltb p (suc k) ≡ b → cond b p 0 ≤ k
    go true e = omega (arith, ltb-true p (suc k) e)
    go false e = omega arith

-- a place that is taken is open
pub taken-open : (kept : List ℕ) (fs : List Bool) (first k : ℕ) (rows : List (List ℕ)) → taken kept fs first (suc k) rows ≤ k
unfolding taken
taken-open kept fs first k rows = go (ltb (agreed_from fs (suc k) 0 rows) (suc k)) refl
  where
    go : (b : Bool) → ltb (agreed_from fs (suc k) 0 rows) (suc k) ≡ b
        → cond b (agreed_from fs (suc k) 0 rows) (within (place_in kept first (first + length rows - 1)) (suc k)) ≤ k
    go true e = omega (arith, ltb-true (agreed_from fs (suc k) 0 rows) (suc k) e)
    go false e = within-open (place_in kept first (first + length rows - 1)) k

-- THERE IS A PLAN THAT FOLLOWS ANY KEPT PLACES, at each state with a row, whose rows are terms of at most n cells
pub record Followed (kept : List ℕ) (fs : List Bool) (first k : ℕ) (rows : List (List ℕ)) : Type 0 where
  pub plan : Plan k rows
  pub follows : Follows kept fs first plan

record FollowedAll (kept : List ℕ) (fs : List Bool) (i first k : ℕ) (gs : List Run) : Type 0 where
  pub plans : Branches k gs
  pub follows : FollowsIn kept fs i first plans

module _ (kept : List ℕ) where
  abbrev Makes : ℕ → Type 0
  Makes n = (fs : List Bool) (first k : ℕ) (rows : List (List ℕ)) → All (Fits n k) rows → 0 < length rows → Followed kept fs first k rows

  runs-followed : (n : ℕ) → Makes n → (fs : List Bool) (i k first : ℕ) (gs : List Run) → Each (λ (c : ℕ). Fits n (arity c + k)) gs → (s : ℕ) → Sized s gs
      → FollowedAll kept fs i first k gs
  unfolding FollowsIn
  runs-followed n ih fs i k first [] a s b = record { plans = end; follows = tt }
  runs-followed n ih fs i k first (g ∷ gs) a s b =
      let p = ih (spread i (arity g.cell) fs) first (arity g.cell + k) g.rows a.0 b.0.0 in
      let bs = runs-followed n ih fs i k (first + length g.rows) gs a.1 s b.1 in
      record { plans = next p.plan bs.plans; follows = (p.follows, bs.follows) }

  pub followed : (n : ℕ) → Makes n
  unfolding Follows
  followed zero fs first zero rows a h = record { plan = leaf; follows = tt }
  followed (suc n) fs first zero rows a h = record { plan = leaf; follows = tt }
  followed zero fs first (suc k) rows a h = absurd (omega (arith, fits-some 0 k rows a h))
  followed (suc n) fs first (suc k) rows a h =
      let i : ℕ = taken kept fs first (suc k) rows in
      let l = taken-open kept fs first k rows in
      let bs = runs-followed n (followed n) fs i k first (runs i rows)
      (runs_fit n k i l rows a) (length rows) (group-sizes (root i) (close i) rows) in
      record { plan = node i l bs.plans; follows = (refl, bs.follows) }

-- where no column is named, it does not matter at which place the branches are
pub any-follows : (kept : List ℕ) (i j first : ℕ) {k : ℕ} {gs : List Run} (bs : Branches k gs) → FollowsIn kept [] i first bs → FollowsIn kept [] j first bs
unfolding FollowsIn
any-follows kept i j first end f = tt
any-follows kept i j first (next {g = g} p bs) f = (f.0, any-follows kept i j (first + length g.rows) bs f.1)

-- WHERE THE PLACES ARE A TABLE'S ENTRIES IT IS THE BUILDER'S
module _ (m : Measure) (named : List Bool) (kept : List ℕ) (w : ℕ) (rows : List (List ℕ))
    (right : (first last : ℕ) → first ≤ last → last < length rows
    → (cost : ℕ) × Entry m named w rows first last cost (place_in kept first last)) where
  -- a state reached from the rows of the table, from the first on, by closing what they agree on
  record Reached (fs : List Bool) (first k : ℕ) (left : List (List ℕ)) : Type 0 where
    pub closes : Closes named w (slice first (first + length left) rows) fs k left
    pub some : 0 < length left
    pub inside : first + length left ≤ length rows

  -- runs of neighbouring rows, the first of them from `first` on: each of them is such a state
  abbrev AllReached : List Bool → ℕ → ℕ → ℕ → List Run → Type 0
  AllReached fs i first k [] = Unit {0}
  AllReached fs i first k (g ∷ gs) =
      Reached (spread i (arity g.cell) fs) first (arity g.cell + k) g.rows × AllReached fs i (first + length g.rows) k gs

  runs-reached : (fs : List Bool) (first k i o : ℕ) (left : List (List ℕ)) → Reached fs first (suc k) left → i ≤ k → May fs i
      → (gs : List Run) → Parts (root i) (close i) left o gs → AllReached fs i (first + o) k gs
  runs-reached fs first k i o left x h y [] p = tt
  runs-reached fs first k i o left x h y (g ∷ gs) p =
      let e : first + (o + length g.rows) ≡ first + o + length g.rows = omega arith in (
        record {
          closes = rw e at (run-closes first (first + length left) rows i o g (weighed {m = m} x.closes) x.inside h y p.0).closes;
          some = p.0.some;
          inside = omega (arith, p.0.inside, x.inside);
        },
        rw e at (runs-reached fs first k i (o + length g.rows) left x h y gs p.1),
      )

  module _ (fs : List Bool) (first k : ℕ) (left : List (List ℕ)) (x : Reached fs first (suc k) left) where
    abbrev last : ℕ
    last = first + length left - 1

    here : suc last ≡ first + length left
    here = omega (arith, x.some)

    -- nothing that may be chosen is agreed: closing what the pair agrees on has come to its end, so the entry is this state's
    by-entry : {c p : ℕ} → Stuck fs (suc k) left → Entry m named w rows first last c p → (p ≤ k) × Chosen m fs k left p
    by-entry s (none (inl l)) = absurd (omega (arith, x.some))
    by-entry s (none (inr l)) = absurd (omega (arith, x.some, x.inside))
    by-entry s (leaf h l y) = absurd (omega (arith, (order-does-not-matter m x.closes s (rw here at y) (λ i c h a v. omega arith)).1))
    by-entry s (inner {others = k'} {left = left'} {place = p} h l y t c b d) =
        let u = order-does-not-matter m x.closes s (rw here at y) t in
        let ek : k ≡ k' = omega (arith, u.1) in
        (omega arith, rw (ek, u.2, u.3) d)

    taken-chosen : Chosen m fs k left (taken kept fs first (suc k) left)
    unfolding taken
    taken-chosen = go (leftmost fs (suc k) 0 left (λ i c h a v. absurd (omega arith)))
      where
        go : {a : ℕ} → Leftmost fs (suc k) 0 left a → Chosen m fs k left (cond (ltb a (suc k)) a (within (place_in kept first last) (suc k)))
        go (is-there {a} l y e s) = rw (lt-ltb a (suc k) (omega arith)) (let g = one-agrees a left e in shared g.0 g.1 y s)
        go (is_none s) =
            let z : 0 + suc k ≡ suc k = zero-add (suc k) in
            let y = by-entry (rw z at s) (right first last (omega (arith, x.some)) (omega (arith, x.some, x.inside))).1 in
            rw (le-ltb (0 + suc k) (suc k) (omega arith), lt-ltb (place_in kept first last) (suc k) (omega arith)) y.1

  mutual
    unfolding Follows Built

    state-built : {k : ℕ} {left : List (List ℕ)} (fs : List Bool) (p : Plan k left) (first : ℕ) → Reached fs first k left → Follows kept fs first p
        → Built m fs p
    state-built fs leaf first x f = tt
    state-built fs (node {k} {rows = left} i h bs) first x f =
        let e : first + 0 ≡ first = omega arith in
        let c : Chosen m fs k left i = rw f.0 (taken-chosen fs first k left x) in (
          c,
          states-built fs i bs first (rw e at (runs-reached fs first k i 0 left x h (chosen-may m c) (runs i left)
              (group-parts (root i) (close i) left))) f.1,
        )

    states-built : {k : ℕ} {gs : List Run} (fs : List Bool) (i : ℕ) (bs : Branches k gs) (first : ℕ) → AllReached fs i first k gs
        → FollowsIn kept fs i first bs → Builts m fs i bs
    states-built fs i end first x f = tt
    states-built fs i (next {g = g} p bs) first x f =
        (state-built (spread i (arity g.cell) fs) p first x.0 f.0, states-built fs i bs (first + length g.rows) x.1 f.1)

  pub follows-built : (p : Plan w rows) → 0 < length rows → Follows kept named 0 p → Built m named p
  follows-built p h f =
      let e : slice 0 (0 + length rows) rows ≡ rows = rw (zero-add (length rows)) (take-length rows) in
      let c : Closes named w (slice 0 (0 + length rows) rows) named w rows = rw e stop in
      state-built named p 0 (record { closes = c; some = h; inside = omega arith }) f
