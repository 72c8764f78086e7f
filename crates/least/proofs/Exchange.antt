-- The exchange: where all rows agree at a place that may be chosen, every plan of the kind can be turned into one of the kind that starts
-- there and costs no more.
use mathlib.Core.Path.{◌≡◌, refl, sym, ap, ◌∙◌, subst}
use mathlib.Core.Bool.{Bool, false}
use mathlib.Core.Logic.{◌⊎◌, inl, inr}
use mathlib.Core.List.{List, [], ◌∷◌, map}
use Prim.Native.Nat.{ℕ, zero, suc, pred, ◌+◌, ◌*◌, ◌≤◌, ◌<◌}
use native.Mathlib.Nat.{suc-mul}
use native.Mathlib.Omega.{arith}
use lib.ListN.{length}
use Rattle.cell.specs.Cell.{arity, is_var}
use Rattle.term.specs.Terms.{root, close}
use Rattle.term.proofs.PlaceLaws.{close-close, root-after, root_before}
use Rattle.table.specs.All.{All}
use Rattle.plan.specs.Runs.{Run, run, runs}
use Rattle.plan.specs.Plans.{Plan, leaf, node, Branches, end, next, Measure, choice, cost, costs}
use Rattle.plan.proofs.RunsLaws.{Each, Sized, map_runs, group-all, group-sizes, group-map, group-some}
use Rattle.plan.specs.Named.{spread, May, NamedFirst, NamedFirsts}
use Rattle.plan.proofs.NamedLaws.{spread-spread, may-after, may-before}
use Rattle.least.specs.Least.{Agree}
use Rattle.least.proofs.Agreed.{agree-runs}
use Rattle.least.proofs.Best.{Bare}

-- how two places stand to each other
pub data Tri (i j : ℕ) : Type 0 where
  before : (x : ℕ) → j ≡ suc x → i ≤ x → Tri i j
  equal : i ≡ j → Tri i j
  after : (x : ℕ) → i ≡ suc x → j ≤ x → Tri i j

pub tri : (i j : ℕ) → Tri i j
tri zero zero = equal refl
tri zero (suc j) = before j refl (omega arith)
tri (suc i) zero = after i refl (omega arith)
tri (suc i) (suc j) = go (tri i j)
  where
    go : Tri i j → Tri (suc i) (suc j)
    go (before x e l) = before (suc x) (omega arith) (omega arith)
    go (equal e) = equal (omega arith)
    go (after x e l) = after (suc x) (omega arith) (omega arith)

-- what is agreed is agreed in each run at another place j, where the place is then h of the run's cell
agree-down : (i c j : ℕ) (h : ℕ → ℕ) (rows : List (List ℕ)) → Agree i c rows
    → ((r : List ℕ) → root i r ≡ c → root (h (root j r)) (close j r) ≡ c)
    → All (λ (g : Run). Agree (h g.cell) c g.rows) (runs j rows)
agree-down i c j h rows a f =
    zip (runs j rows)
    (group-all (root j) (close j) (λ (r : List ℕ). root i r ≡ c) (λ (d : ℕ) (r : List ℕ). root (h d) r ≡ c) f rows a.cells)
    (group-sizes (root j) (close j) rows)
  where
    fix : (is_var c ≡ false) ⊎ (length rows ≤ 1) → (n : ℕ) → n ≤ length rows → (is_var c ≡ false) ⊎ (n ≤ 1)
    fix (inl e) n l = inl e
    fix (inr e) n l = inr (omega arith)

    zip : (gs : List Run) → Each (λ (d : ℕ) (r : List ℕ). root (h d) r ≡ c) gs → Sized (length rows) gs
        → All (λ (g : Run). Agree (h g.cell) c g.rows) gs
    zip [] s l = tt
    zip (g ∷ gs) s l = (record { cells = s.0; fixed = fix a.fixed (length g.rows) l.0.1; some = l.0.0 }, zip gs s.1 l.1)

length-map_runs : (f : ℕ → List ℕ → List ℕ) (gs : List Run) → length (map_runs f gs) ≡ length gs
length-map_runs f [] = refl
length-map_runs f (g ∷ gs) = ap suc (length-map_runs f gs)

at-least-once : (n w : ℕ) → 0 < n → w ≤ n * w
at-least-once zero w h = absurd (omega arith)
at-least-once (suc n) w h = omega (arith, suc-mul n w)

module _ (m : Measure) where
  -- what an exchange gives: a plan of the kind below the agreed place, that with the agreed cell's branch costs no more than n
  pub record Better (fs : List Bool) (k : ℕ) (rows : List (List ℕ)) (w n : ℕ) : Type 0 where
    pub plan : Plan k rows
    pub kind : NamedFirst fs plan
    pub less : w + cost m plan ≤ n

  pub record BetterAll (fs : List Bool) (j k : ℕ) (gs : List Run) (w n : ℕ) : Type 0 where
    pub plans : Branches k gs
    pub kind : NamedFirsts fs j plans
    pub less : costs m plans + length gs * w ≤ n

  one-branch : {k : ℕ} {gs : List Run} (fs : List Bool) (i : ℕ) (bs : Branches k gs) (g : Run) → gs ≡ g ∷ [] → NamedFirsts fs i bs
      → Better (spread i (arity g.cell) fs) (arity g.cell + k) g.rows (m.weight g.cell) (costs m bs)
  unfolding costs NamedFirsts
  one-branch fs i end g e s = let z : ◌≡◌ {A = ℕ} 0 1 = cc in absurd (omega arith)
  one-branch {k} fs i (next {g = g'} p bs) g e s =
      let eg : g' ≡ g = cc in
      subst
      (λ (g : Run). Better (spread i (arity g.cell) fs) (arity g.cell + k) g.rows (m.weight g.cell)
      (m.weight g'.cell + (cost m p + costs m bs)))
      eg (record { plan = p; kind = s.0; less = omega arith })

  -- the exchange below some branches of place j: c is agreed in each run, at a place h of the run's cell, may be chosen there, and is closed there.
  -- Above, c's place is i₁ before any is closed, and j is j₁ once it is
  abbrev Below : (fs gone : List Bool) (j j₁ k c : ℕ) (gs : List Run) → Branches k gs → Type 0
  Below fs gone j j₁ k c gs bs = (k₀ : ℕ) (h : ℕ → ℕ) → k ≡ suc k₀ → ((d : ℕ) → h d ≤ arity d + k₀) → All (λ (g : Run). Agree (h g.cell) c g.rows) gs
      → ((d : ℕ) → May (spread j (arity d) fs) (h d)) → ((d : ℕ) → spread (h d) (arity c) (spread j (arity d) fs) ≡ spread j₁ (arity d) gone)
      → BetterAll gone j₁ (arity c + k₀) (map_runs (λ (d : ℕ). close (h d)) gs) (m.weight c) (costs m bs)

  module _ (fs : List Bool) (k j i c : ℕ) (rows : List (List ℕ)) (hj : j ≤ k) (hi : i ≤ k) (a : Agree i c rows) (bs : Branches k (runs j rows))
      (mi : May fs i) (mj : May fs j) (ms : NamedFirsts fs j bs) where
    abbrev Goal : Type 0
    Goal = Better (spread i (arity c) fs) (arity c + k) (map (close i) rows) (m.weight c) (choice m (length (runs j rows)) + costs m bs)

    rebuild : (k₀ j' : ℕ) (f : ℕ → List ℕ → List ℕ) → k ≡ suc k₀ → j' ≤ arity c + k₀ → runs j' (map (close i) rows) ≡ map_runs f (runs j rows)
        → May (spread i (arity c) fs) j'
        → BetterAll (spread i (arity c) fs) j' (arity c + k₀) (map_runs f (runs j rows)) (m.weight c) (costs m bs) → Goal
    unfolding cost NamedFirst
    rebuild k₀ j' f ek hj' e my b =
        let e' : arity c + k ≡ suc (arity c + k₀) = omega arith in
        let w : m.weight c ≤ length (runs j rows) * m.weight c =
        at-least-once (length (runs j rows)) (m.weight c) (group-some (root j) (close j) rows a.some) in
        let n : length (map_runs f (runs j rows)) ≡ length (runs j rows) = length-map_runs f (runs j rows) in
        let r : length (runs j' (map (close i) rows)) ≡ length (runs j rows) = rw e n in
        let b₁ : BetterAll (spread i (arity c) fs) j' (arity c + k₀) (runs j' (map (close i) rows)) (m.weight c) (costs m bs) = rw e b in
        rw e' (record { plan = node j' hj' b₁.plans; kind = (my, b₁.kind); less = rw r (omega (arith, rw r at b₁.less)) })

    exchange-at : ((gone : List Bool) (j₁ : ℕ) → Below fs gone j j₁ k c (runs j rows) bs) → Tri i j → Goal
    exchange-at ih (equal e) =
        let q = one-branch fs j bs (run c (map (close i) rows)) (ap (λ (j : ℕ). runs j rows) (sym e) ∙ agree-runs i c rows a) ms in
        let q' = subst (λ (n : ℕ). Better (spread n (arity c) fs) (arity c + k) (map (close i) rows) (m.weight c) (costs m bs)) (sym e) q in
        record { plan = q'.plan; kind = q'.kind; less = omega (arith, q'.less) }
    exchange-at ih (before x e l) =
        let ek : k ≡ suc (pred k) = omega arith in
        let gone = spread i (arity c) fs in
        let mj' : May fs (suc x) = rw e at mj in
        let cs = ih gone (arity c + x) (pred k) (λ (d : ℕ). i) ek (λ d. omega arith)
        (agree-down i c j (λ (d : ℕ). i) rows a (λ (r : List ℕ) (er : root i r ≡ c). cc (root_before i x r l)))
        (λ d. rw e (may-before i x (arity d) fs l mi))
        (λ d. rw e (sym (spread-spread i x (arity c) (arity d) fs l))) in
        rebuild (pred k) (arity c + x) (λ (d : ℕ). close i) ek (omega arith)
        (group-map (λ (r : List ℕ). root i r ≡ c) (root j) (root (arity c + x)) (close j) (close (arity c + x)) (close i) (λ (d : ℕ). close i)
        (λ (r : List ℕ) (er : root i r ≡ c). (cc (root-after i x r l), cc (close-close i x r l))) rows a.cells)
        (may-after i x (arity c) fs l mj') cs
    exchange-at ih (after x e l) =
        let ek : k ≡ suc (pred k) = omega arith in
        let gone = spread i (arity c) fs in
        let mi' : May fs (suc x) = rw e at mi in
        let cs = ih gone j (pred k) (λ (d : ℕ). arity d + x) ek (λ d. omega arith)
        (agree-down i c j (λ (d : ℕ). arity d + x) rows a (λ (r : List ℕ) (er : root i r ≡ c). cc (root-after j x r l)))
        (λ d. may-after j x (arity d) fs l mi')
        (λ d. rw e (spread-spread j x (arity d) (arity c) fs l)) in
        rebuild (pred k) j (λ (d : ℕ). close (arity d + x)) ek (omega arith)
        (group-map (λ (r : List ℕ). root i r ≡ c) (root j) (root j) (close j) (close j) (close i) (λ (d : ℕ). close (arity d + x))
        (λ (r : List ℕ) (er : root i r ≡ c). (cc (root_before j x r l), cc (close-close j x r l))) rows a.cells)
        (rw e (may-before j x (arity c) fs l mj)) cs

  mutual
    unfolding cost NamedFirst

    exchange-any : {K : ℕ} {rows : List (List ℕ)} (fs : List Bool) (p : Plan K rows) (k i c : ℕ) → K ≡ suc k → i ≤ k → Agree i c rows → May fs i
        → NamedFirst fs p
        → Better (spread i (arity c) fs) (arity c + k) (map (close i) rows) (m.weight c) (cost m p)
    exchange-any fs leaf k i c e h a y s = absurd (omega arith)
    exchange-any fs (node {k = k'} {rows} j l bs) k i c e h a y s =
        let ek : k' ≡ k = omega arith in
        rw (← ek) (exchange-at fs k' j i c rows l (omega arith) a bs y s.0 s.1
        (λ gone j₁ k₀ h e f a y q. exchange-below fs gone j j₁ bs k₀ c h e f a y q s.1) (tri i j))

    exchange-below : {k : ℕ} {gs : List Run} (fs gone : List Bool) (j j₁ : ℕ) (bs : Branches k gs) (k₀ c : ℕ) (h : ℕ → ℕ) → k ≡ suc k₀
        → ((d : ℕ) → h d ≤ arity d + k₀)
        → All (λ (g : Run). Agree (h g.cell) c g.rows) gs
        → ((d : ℕ) → May (spread j (arity d) fs) (h d)) → ((d : ℕ) → spread (h d) (arity c) (spread j (arity d) fs) ≡ spread j₁ (arity d) gone)
        → NamedFirsts fs j bs → BetterAll gone j₁ (arity c + k₀) (map_runs (λ (d : ℕ). close (h d)) gs) (m.weight c) (costs m bs)
    exchange-below fs gone j j₁ end k₀ c h e f a y q s = record { plans = end; kind = tt; less = omega arith }
    exchange-below {k} fs gone j j₁ (next {g = g} {gs = gs} p bs) k₀ c h e f a y q s =
        let d : ℕ = g.cell in
        let b = exchange-any (spread j (arity d) fs) p (arity d + k₀) (h d) c (omega arith) (f d) a.0 (y d) s.0 in
        let cs = exchange-below fs gone j j₁ bs k₀ c h e f a.1 y q s.1 in
        let ek : arity c + (arity d + k₀) ≡ arity d + (arity c + k₀) = omega arith in
        let b₁ : Better (spread j₁ (arity d) gone) (arity d + (arity c + k₀)) (map (close (h d)) g.rows) (m.weight c) (cost m p) = rw (ek, q d) at b in
        record { plans = next b₁.plan cs.plans; kind = (b₁.kind, cs.kind); less = omega (arith, suc-mul (length gs) (m.weight c), b₁.less, cs.less) }

  -- THE EXCHANGE: where all rows agree at a place that may be chosen, every plan of the kind can be turned into one of the kind that starts there and
  -- costs no more
  pub exchange : {k : ℕ} {rows : List (List ℕ)} (fs : List Bool) (i c : ℕ) → i ≤ k → Agree i c rows → May fs i → (p : Plan (suc k) rows) → NamedFirst fs p
      → Better (spread i (arity c) fs) (arity c + k) (map (close i) rows) (m.weight c) (cost m p)
  exchange {k} fs i c h a y p s = exchange-any fs p k i c refl h a y s

  -- what the plan costs that takes an agreed place first
  pub agreed-branch : {k : ℕ} {rows : List (List ℕ)} (fs : List Bool) (i c : ℕ) → i ≤ k → Agree i c rows → (q : Plan (arity c + k) (map (close i) rows))
      → NamedFirst (spread i (arity c) fs) q
      → (bs : Branches k (runs i rows)) × (choice m (length (runs i rows)) + costs m bs ≡ m.weight c + cost m q) × NamedFirsts fs i bs
  unfolding costs NamedFirsts
  agreed-branch {k} {rows} fs i c h a q s = rw (agree-runs i c rows a) (next q end, omega arith, (s, tt))

  -- so the least cost is the agreed cell's weight and the least cost of the state below
  pub agreed-least : (fs : List Bool) (k i c n : ℕ) (rows : List (List ℕ)) → i ≤ k → Agree i c rows → May fs i
      → Bare m (spread i (arity c) fs) (arity c + k) (map (close i) rows) n → Bare m fs (suc k) rows (m.weight c + n)
  unfolding cost NamedFirst
  agreed-least fs k i c n rows h a y s =
      let b = agreed-branch fs i c h a s.plan s.kind in
      record {
        plan = node i h b.0;
        kind = (y, b.2);
        costs-it = omega (arith, b.1, s.costs-it);
        none-less = λ q t. (let x = exchange fs i c h a y q t in omega (arith, s.none-less x.plan x.kind, x.less));
      }
