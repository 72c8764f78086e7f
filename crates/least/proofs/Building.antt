-- The builder's plan: the rule takes one place at each state, so that one plan follows it, and no plan of the
-- kind costs less.
use mathlib.Core.Path.{◌≡◌, refl, ap, ap₂, path_j, subst}
use mathlib.Core.Bool.{Bool, true, false, cond}
use mathlib.Core.List.{List, []}
use Prim.Native.Nat.{ℕ, suc, ◌+◌, ◌≤◌, ◌<◌}
use native.Mathlib.Bridge.{le_prop}
use native.Mathlib.Omega.{arith}
use lib.ListN.{length}
use lib.Dec.{eqb}
use borrow.Author.Tests.{eqb-true, eq-eqb, ne_eqb}
use Rattle.cell.specs.Cell.{arity}
use Rattle.term.specs.Terms.{Terms}
use Rattle.table.specs.All.{All}
use Rattle.plan.specs.Runs.{Run, runs}
use Rattle.plan.specs.Plans.{Plan, leaf, node, Branches, end, next, Measure, choice, cost, costs}
use Rattle.plan.specs.Named.{spread, May, may, NamedFirst, NamedFirsts}
use Rattle.plan.proofs.NamedLaws.{may-is, is-may}
use Rattle.plan.proofs.RunsLaws.{Each}
use Rattle.least.specs.Measures.{cost_from}
use Rattle.least.specs.code.Best.{through, best}
use Rattle.least.specs.Later.{laters_in}
use Rattle.least.specs.code.Low.{Light}
use Rattle.least.specs.Least.{Agree, Stuck, Least, first, Chosen, shared, cheapest, Built, Builts}
use Rattle.least.proofs.Minimum.{First}
use Rattle.least.proofs.Best.{least-one, Bare, least-later, LeastRuns, leaf-least, runs-nil, runs-cons}
use Rattle.least.proofs.Later.{runs-terms, cost-from}
use Rattle.least.proofs.Exchange.{Tri, before, equal, after, tri, exchange, agreed-branch}
use Rattle.least.proofs.Agreed.{agree-runs, one-agrees}

-- the branches of a plan that looks at i first
first-branches : (m : Measure) (fs : List Bool) {k i : ℕ} {rows : List (List ℕ)} (p : Plan (suc k) rows) → first p ≡ i → NamedFirst fs p
    → (bs : Branches k (runs i rows)) × (cost m p ≡ choice m (length (runs i rows)) + costs m bs) × NamedFirsts fs i bs × May fs i
unfolding cost NamedFirst
first-branches m fs {k} {rows = rows} (node j h bs) e s =
    subst (λ (i : ℕ). (cs : Branches k (runs i rows)) × (choice m (length (runs j rows)) + costs m bs ≡ choice m (length (runs i rows)) + costs m cs)
    × NamedFirsts fs i cs × May fs i) e (bs, refl, s.1, s.0)

module _ (m : Measure) where
  -- the chosen place may be chosen
  pub chosen-may : {fs : List Bool} {k i : ℕ} {rows : List (List ℕ)} → Chosen m fs k rows i → May fs i
  chosen-may (shared c a y s) = y
  chosen-may {fs} (cheapest s best e f) = (first-branches m fs best.plan e best.kind).3

module _ (m : Measure) (light : Light m) where
  -- where the branches below the chosen place weigh least, so does the plan
  chosen-least : (fs : List Bool) (k i : ℕ) (rows : List (List ℕ)) → All (Terms (suc k)) rows → (h : i ≤ k) (bs : Branches k (runs i rows))
      → NamedFirsts fs i bs
      → Chosen m fs k rows i → LeastRuns m fs i k (runs i rows) (costs m bs) → Bare m fs (suc k) rows (cost m {rows = rows} (node i h bs))
  unfolding cost NamedFirst
  chosen-least fs k i rows t h bs z (shared c a y s) l = record { plan = node i h bs; kind = (y, z); costs-it = refl; none-less = λ q u. less q u }
    where
      less : (q : Plan (suc k) rows) → NamedFirst fs q → choice m (length (runs i rows)) + costs m bs ≤ cost m q
      less q u =
          let x = exchange m fs i c h a y q u in
          let b = agreed-branch m fs i c h a x.plan x.kind in
          omega (arith, l.none-less b.0 b.2, b.1, x.less)
  chosen-least fs k i rows t h bs z (cheapest {count = n} s best e f) l =
      record { plan = node i h bs; kind = (chosen-may m (cheapest s best e f), z); costs-it = refl; none-less = λ q u. less q u }
    where
      less : (q : Plan (suc k) rows) → NamedFirst fs q → choice m (length (runs i rows)) + costs m bs ≤ cost m q
      less q u =
          let x = first-branches m fs best.plan e best.kind in
          omega (arith, l.none-less x.0 x.2, x.1, best.costs-it, best.none-less q u, cost-from light best.plan [] t, cost-from light q [] t)

  mutual
    unfolding Built costs NamedFirst

    built-bare : {k : ℕ} {rows : List (List ℕ)} (fs : List Bool) (p : Plan k rows) → All (Terms k) rows → Built m fs p
        → Bare m fs k rows (cost m p) × NamedFirst fs p
    built-bare fs (leaf {rows}) t b = (leaf-least m fs rows, tt)
    built-bare fs (node {k} {rows} i h bs) t b =
        let x = builts-bare fs i bs (runs-terms i k h rows t) b.1 in
        (chosen-least fs k i rows t h bs x.1 b.0 x.0, (chosen-may m b.0, x.1))

    builts-bare : {k : ℕ} {gs : List Run} (fs : List Bool) (i : ℕ) (bs : Branches k gs) → Each (λ (c : ℕ). Terms (arity c + k)) gs → Builts m fs i bs
        → LeastRuns m fs i k gs (costs m bs) × NamedFirsts fs i bs
    builts-bare fs i (end {k}) t b = (runs-nil m fs i k, tt)
    builts-bare fs i (next {k} {g} {gs} p bs) t b =
        let x = built-bare (spread i (arity g.cell) fs) p t.0 b.0 in
        let y = builts-bare fs i bs t.1 b.1 in
        (runs-cons m fs i k (cost m p) (costs m bs) g gs x.0 y.0, (x.1, y.1))

  -- THE BUILDER'S PLAN IS OF THE KIND AND LEAST among all plans of the kind
  pub built-least : {k : ℕ} {rows : List (List ℕ)} (fs : List Bool) (p : Plan k rows) → All (Terms k) rows → Built m fs p
      → Least m fs k rows (cost_from m [] p) × NamedFirst fs p
  built-least fs p t b =
      let x = built-bare fs p t b in
      (rw (cost-from light p [] t) (least-later light t x.0), x.1)

module _ (m : Measure) where
  -- the rule takes one place
  pub chosen-one : {fs : List Bool} {k i j : ℕ} {rows : List (List ℕ)} → i ≤ k → j ≤ k → Chosen m fs k rows i → Chosen m fs k rows j → i ≡ j
  chosen-one {k = k} {i} {j} hi hj (shared c a u s) (shared d b v t) = go (tri i j)
    where
      go : Tri i j → i ≡ j
      go (before x e l) = absurd (t i c (omega arith) a u)
      go (equal e) = e
      go (after x e l) = absurd (s j d (omega arith) b v)
  chosen-one {i = i} hi hj (shared c a u s) (cheapest t best e f) = absurd (t i c (omega arith) a u)
  chosen-one {j = j} hi hj (cheapest s best e f) (shared d b v t) = absurd (s j d (omega arith) b v)
  chosen-one {i = i} {j} hi hj (cheapest s l e f) (cheapest t r e' f') = go (tri i j)
    where
      go : Tri i j → i ≡ j
      go (before x q h) = absurd (omega (arith, f' l.plan l.kind (omega arith), l.costs-it, least-one l r))
      go (equal q) = q
      go (after x q h) = absurd (omega (arith, f r.plan r.kind (omega arith), r.costs-it, least-one l r))

  node-same : (fs : List Bool) {k : ℕ} {rows : List (List ℕ)} {i : ℕ} (h : i ≤ k) (bs : Branches k (runs i rows))
      → ((cs : Branches k (runs i rows)) → Builts m fs i cs → bs ≡ cs)
      → {j : ℕ} → i ≡ j → (l : j ≤ k) (cs : Branches k (runs j rows)) → Builts m fs j cs → ◌≡◌ {A = Plan (suc k) rows} (node i h bs) (node j l cs)
  node-same fs {k} {rows} {i} h bs same e =
      path_j
      (λ (j : ℕ) (q : i ≡ j). (l : j ≤ k) (cs : Branches k (runs j rows)) → Builts m fs j cs → ◌≡◌ {A = Plan (suc k) rows} (node i h bs) (node j l cs))
      (λ l cs c. ap₂ (λ (u : i ≤ k) (v : Branches k (runs i rows)). node i u v) (le_prop h l) (same cs c))
      e

  mutual
    unfolding Built

    -- THE BUILDER'S PLAN IS THE ONLY ONE that follows the rule
    pub built-one : {k : ℕ} {rows : List (List ℕ)} (fs : List Bool) (p q : Plan k rows) → Built m fs p → Built m fs q → p ≡ q
    built-one fs leaf leaf b c = refl
    built-one fs (node i h bs) (node j l cs) b c =
        node-same fs h bs (λ ds d. builts-one fs i bs ds b.1 d) (chosen-one h l b.0 c.0) l cs c.1

    builts-one : {k : ℕ} {gs : List Run} (fs : List Bool) (i : ℕ) (bs cs : Branches k gs) → Builts m fs i bs → Builts m fs i cs → bs ≡ cs
    builts-one fs i end end b c = refl
    builts-one fs i (next {g = g} p bs) (next q cs) b c =
        ap₂ next (built-one (spread i (arity g.cell) fs) p q b.0 c.0) (builts-one fs i bs cs b.1 c.1)

  -- Where the branches of each place that may be chosen cost F of it at least, the rule's place is found by comparing numbers.
  -- Where no such place is agreed: the first of the cheapest
  pub chosen-cheapest : Light m → {fs : List Bool} {k i : ℕ} {rows : List (List ℕ)} → All (Terms (suc k)) rows → (F : ℕ → ℕ)
      → ((j : ℕ) → j ≤ k → May fs j → LeastRuns m fs j k (runs j rows) (F j))
      → Stuck fs (suc k) rows → First (may fs) k (through m rows F) i → Chosen m fs k rows i
  unfolding cost NamedFirst
  chosen-cheapest light {fs} {k} {i} {rows} t F f s a =
      let y = may-is fs i a.chosen in
      let b = f i a.within y in
      cheapest {count = through m rows F i + laters_in m [] rows} s
      (least-later light t
      (record { plan = node i a.within b.branches; kind = (y, b.kind); costs-it = omega (arith, b.costs-it); none-less = λ q u. less q u })) refl
      (λ q u h. omega (arith, more q u h, cost-from light q [] t))
    where
      less : (q : Plan (suc k) rows) → NamedFirst fs q → through m rows F i ≤ cost m q
      less (node j h bs) u = omega (arith, a.least j h (is-may fs j u.0), (f j h u.0).none-less bs u.1)

      more : (q : Plan (suc k) rows) → NamedFirst fs q → first q < i → through m rows F i < cost m q
      more (node j h bs) u l = omega (arith, a.before j l (is-may fs j u.0), (f j h u.0).none-less bs u.1)

-- 0 at an agreed place, and at any other one more than it costs: the first place that may be chosen at which this is least is the rule's
abbrev pub rank : Measure → List (List ℕ) → (ℕ → ℕ) → ℕ → ℕ
rank m rows F i = cond (eqb (length (runs i rows)) 1) 0 (suc (through m rows F i))

module _ (m : Measure) (light : Light m) (fs : List Bool) (rows : List (List ℕ)) (F : ℕ → ℕ) where
  rank-agreed : (i c : ℕ) → Agree i c rows → rank m rows F i ≡ 0
  rank-agreed i c a = rw (eq-eqb (length (runs i rows)) 1 (ap length (agree-runs i c rows a)))

  -- the rule's place, agreed or not
  pub chosen-first : {k i : ℕ} → All (Terms (suc k)) rows → ((j : ℕ) → j ≤ k → May fs j → LeastRuns m fs j k (runs j rows) (F j))
      → First (may fs) k (rank m rows F) i
      → Chosen m fs k rows i
  chosen-first {k} {i} t f a = go (eqb (length (runs i rows)) 1) refl
    where
      value : (j : ℕ) → eqb (length (runs j rows)) 1 ≡ false → rank m rows F j ≡ suc (through m rows F j)
      value j e = rw e

      go : (b : Bool) → eqb (length (runs i rows)) 1 ≡ b → Chosen m fs k rows i
      go true e =
          let r : rank m rows F i ≡ 0 = rw e in
          let g = one-agrees i rows (eqb-true (length (runs i rows)) 1 e) in
          shared g.0 g.1 (may-is fs i a.chosen) (λ j c h b y. absurd (omega (arith, a.before j h (is-may fs j y), rank-agreed j c b)))
      go false e =
          let s : Stuck fs (suc k) rows = λ j c h b y. omega (arith, a.least j (omega arith) (is-may fs j y), rank-agreed j c b, value i e) in
          let other : (j : ℕ) → j ≤ k → may fs j ≡ true → rank m rows F j ≡ suc (through m rows F j) =
          λ j h y. value j (ne_eqb (length (runs j rows)) 1 (λ o. (let g = one-agrees j rows o in s j g.0 (omega arith) g.1 (may-is fs j y)))) in
          chosen-cheapest m light t F f s (record {
            within = a.within;
            chosen = a.chosen;
            least = λ j h y. omega (arith, a.least j h y, value i e, other j h y);
            before = λ j h y. omega (arith, a.before j h y, value i e, other j (omega (arith, a.within)) y);
          })
