-- The runs of rows: what agreeing means, and what a grouping keeps of its rows. All of it holds whatever cell each row is grouped by and whatever is
-- left of it.
use mathlib.Core.Path.{◌≡◌, refl, sym, ap, subst, ◌∙◌}
use mathlib.Core.Bool.{Bool, true, false, not, ◌&&◌}
use mathlib.Core.Logic.{◌⊎◌, inl, inr}
use mathlib.Core.List.{List, [], ◌∷◌, ◌++◌, map, append-nil}
use Prim.Native.Nat.{ℕ, suc, ◌+◌, ◌≤◌, ◌<◌}
use native.Mathlib.Omega.{arith}
use lib.ListN.{length}
use lib.Dec.{eqb}
use borrow.Author.Tests.{eqb-true}
use Rattle.cell.specs.Cell.{arity, is_var}
use Rattle.term.specs.Terms.{Terms, more, root, close}
use Rattle.term.proofs.Tests.{eqb_same}
use Rattle.term.proofs.TermsLaws.{terms-long}
use Rattle.term.proofs.PlaceLaws.{close-terms, close-length}
use Rattle.table.specs.All.{All}
use Rattle.plan.specs.Runs.{Run, run, agree, join_if, join, group, runs}
use Rattle.plan.specs.code.Fits.{Fits}
use Rattle.plan.specs.code.Rows.{row_count}

-- cells that agree are one symbol, and no variable
pub agree-eq : (c d : ℕ) → agree c d ≡ true → c ≡ d
unfolding agree
agree-eq c d h = eqb-true c d (go (eqb c d) h)
  where
    go : (b : Bool) → (b && not (is_var c)) ≡ true → b ≡ true
    go true e = refl
    go false e = e

pub agree-fixed : (c d : ℕ) → agree c d ≡ true → is_var c ≡ false
unfolding agree
agree-fixed c d h = go (eqb c d) (is_var c) h
  where
    go : (b v : Bool) → (b && not v) ≡ true → v ≡ false
    go true true e = sym e
    go true false e = refl
    go false v e = let z : ◌≡◌ {A = ℕ} 0 1 = cc in absurd (omega arith)

agree_refl : (c : ℕ) → is_var c ≡ false → agree c c ≡ true
unfolding agree
agree_refl c v = rw (eqb_same c, v)

-- a property of each row of each run, with the run's cell
abbrev pub Each : (ℕ → List ℕ → Type 0) → List Run → Type 0
Each Q gs = All (λ (g : Run). All (Q g.cell) g.rows) gs

-- each run has a row, and at most n
abbrev pub Sized : ℕ → List Run → Type 0
Sized n gs = All (λ (g : Run). (0 < length g.rows) × (length g.rows ≤ n)) gs

-- each row of each run changed by its run's cell
abbrev pub map_runs : (ℕ → List ℕ → List ℕ) → List Run → List Run
map_runs f [] = []
map_runs f (g ∷ gs) = run g.cell (map (f g.cell) g.rows) ∷ map_runs f gs

join-all : (Q : ℕ → List ℕ → Type 0) (c : ℕ) (r : List ℕ) (gs : List Run) → Q c r → Each Q gs → Each Q (join c r gs)
join-all Q c r [] q a = ((q, tt), tt)
join-all Q c r (g ∷ gs) q a = go (agree c g.cell) refl
  where
    go : (b : Bool) → agree c g.cell ≡ b → Each Q (join_if b c r g gs)
    go true e = ((subst (λ (d : ℕ). Q d r) (agree-eq c g.cell e) q, a.0), a.1)
    go false e = ((q, tt), a)

join-sizes : (n c : ℕ) (r : List ℕ) (gs : List Run) → Sized n gs → Sized (suc n) (join c r gs)
join-sizes n c r [] a = ((omega arith, omega arith), tt)
join-sizes n c r (g ∷ gs) a = go (agree c g.cell)
  where
    up : (hs : List Run) → Sized n hs → Sized (suc n) hs
    up [] b = tt
    up (h ∷ hs) b = ((omega arith, omega arith), up hs b.1)

    go : (b : Bool) → Sized (suc n) (join_if b c r g gs)
    go true = ((omega arith, omega arith), up gs a.1)
    go false = ((omega arith, omega arith), up (g ∷ gs) a)

join-some : (c : ℕ) (r : List ℕ) (gs : List Run) → 0 < length (join c r gs)
join-some c r [] = omega arith
join-some c r (g ∷ gs) = go (agree c g.cell)
  where
    go : (b : Bool) → 0 < length (join_if b c r g gs)
    go true = omega arith
    go false = omega arith

join-rows : (c : ℕ) (r : List ℕ) (gs : List Run) → row_count (join c r gs) ≡ suc (row_count gs)
join-rows c r [] = refl
join-rows c r (g ∷ gs) = go (agree c g.cell)
  where
    go : (b : Bool) → row_count (join_if b c r g gs) ≡ suc (row_count (g ∷ gs))
    go true = omega arith
    go false = omega arith

-- the first run has the first row's cell
join-head : (c : ℕ) (r : List ℕ) (gs : List Run) → (g : Run) × (hs : List Run) × (join c r gs ≡ g ∷ hs) × (g.cell ≡ c)
join-head c r [] = (run c (r ∷ []), [], refl, refl)
join-head c r (g ∷ gs) = go (agree c g.cell) refl
  where
    go : (b : Bool) → agree c g.cell ≡ b → (h : Run) × (hs : List Run) × (join_if b c r g gs ≡ h ∷ hs) × (h.cell ≡ c)
    go true e = (run g.cell (r ∷ g.rows), gs, refl, sym (agree-eq c g.cell e))
    go false e = (run c (r ∷ []), g ∷ gs, refl, refl)

join-map : (f : ℕ → List ℕ → List ℕ) (c : ℕ) (r : List ℕ) (gs : List Run) → join c (f c r) (map_runs f gs) ≡ map_runs f (join c r gs)
join-map f c r [] = refl
join-map f c r (g ∷ gs) = go (agree c g.cell) refl
  where
    go : (b : Bool) → agree c g.cell ≡ b → join_if b c (f c r) (run g.cell (map (f g.cell) g.rows)) (map_runs f gs) ≡ map_runs f (join_if b c r g gs)
    go true e = rw (agree-eq c g.cell e)
    go false e = refl

module _ (cell : List ℕ → ℕ) (left : List ℕ → List ℕ) where
  -- a property that each row's cell and rest have, its run has of the run's cell
  pub group-all : (P : List ℕ → Type 0) (Q : ℕ → List ℕ → Type 0) → ((r : List ℕ) → P r → Q (cell r) (left r))
      → (rows : List (List ℕ)) → All P rows → Each Q (group cell left rows)
  group-all P Q f [] a = tt
  group-all P Q f (r ∷ rs) a = join-all Q (cell r) (left r) (group cell left rs) (f r a.0) (group-all P Q f rs a.1)

  -- no run is empty or has more rows than there are
  pub group-sizes : (rows : List (List ℕ)) → Sized (length rows) (group cell left rows)
  group-sizes [] = tt
  group-sizes (r ∷ rs) = join-sizes (length rs) (cell r) (left r) (group cell left rs) (group-sizes rs)

  -- where there is a row there is a run
  pub group-some : (rows : List (List ℕ)) → 0 < length rows → 0 < length (group cell left rows)
  group-some [] h = absurd (omega arith)
  group-some (r ∷ rs) h = join-some (cell r) (left r) (group cell left rs)

  -- each row is in one run
  pub group-rows : (rows : List (List ℕ)) → row_count (group cell left rows) ≡ length rows
  group-rows [] = refl
  group-rows (r ∷ rs) = join-rows (cell r) (left r) (group cell left rs) ∙ ap suc (group-rows rs)

  -- a run of c goes no further than these rows: there are none, or the first does not agree with c
  abbrev pub Stops : ℕ → List (List ℕ) → Type 0
  Stops c [] = Unit {0}
  Stops c (y ∷ ys) = agree c (cell y) ≡ false

  stopped : (c : ℕ) (r : List ℕ) (ys : List (List ℕ)) → cell r ≡ c → Stops c ys → group cell left (r ∷ ys) ≡ run c (left r ∷ []) ∷ group cell left ys
  stopped c r [] e h = rw e
  stopped c r (y ∷ ys) e h =
      let j = join-head (cell y) (left y) (group cell left ys) in
      let n : agree c j.0.cell ≡ false = rw j.3 h in
      rw (e, j.2, n)

  -- the first run: rows of one cell, as many as agree
  pub group-first : (c : ℕ) (r : List ℕ) (rs ys : List (List ℕ)) → All (λ (x : List ℕ). cell x ≡ c) (r ∷ rs)
      → (is_var c ≡ false) ⊎ (length (r ∷ rs) ≤ 1) → Stops c ys → group cell left (r ∷ (rs ++ ys)) ≡ run c (map left (r ∷ rs)) ∷ group cell left ys
  group-first c r [] ys a v h = stopped c r ys a.0 h
  group-first c r (x ∷ xs) ys a v h = rw (group-first c x xs ys a.1 (inl (fixed v)) h, a.0, agree_refl c (fixed v))
    where
      fixed : (is_var c ≡ false) ⊎ (length (r ∷ x ∷ xs) ≤ 1) → is_var c ≡ false
      fixed (inl e) = e
      fixed (inr e) = absurd (omega arith)

  -- rows that agree are one run, and so is a single row
  pub group-one : (c : ℕ) (r : List ℕ) (rs : List (List ℕ)) → All (λ (x : List ℕ). cell x ≡ c) (r ∷ rs) → (is_var c ≡ false) ⊎ (length (r ∷ rs) ≤ 1)
      → group cell left (r ∷ rs) ≡ run c (map left (r ∷ rs)) ∷ []
  group-one c r rs a v = ap (λ (l : List (List ℕ)). group cell left (r ∷ l)) (sym (append-nil rs)) ∙ group-first c r rs [] a v tt

-- rows changed so that each keeps its cell are grouped as before
pub group-map : (P : List ℕ → Type 0) (cell cell' : List ℕ → ℕ) (left left' : List ℕ → List ℕ) (f : List ℕ → List ℕ) (h : ℕ → List ℕ → List ℕ)
    → ((r : List ℕ) → P r → (cell' (f r) ≡ cell r) × (left' (f r) ≡ h (cell r) (left r)))
    → (rows : List (List ℕ)) → All P rows → group cell' left' (map f rows) ≡ map_runs h (group cell left rows)
group-map P cell cell' left left' f h e [] a = refl
group-map P cell cell' left left' f h e (r ∷ rs) a =
    rw ((e r a.0).0, (e r a.0).1, group-map P cell cell' left left' f h e rs a.1) (join-map h (cell r) (left r) (group cell left rs))

pub terms-length : {k : ℕ} {r : List ℕ} → Terms (suc k) r → 0 < length r
terms-length (more t) = omega arith

pub fits-close : (n k i : ℕ) → i ≤ k → (r : List ℕ) → Fits (suc n) (suc k) r → Fits n (arity (root i r) + k) (close i r)
fits-close n k i h r f = (close-terms i f.0 h, omega (arith, close-length i f.0 (omega arith)))

-- a row with an open place has a cell
pub fits-some : (n k : ℕ) (rows : List (List ℕ)) → All (Fits n (suc k)) rows → 0 < length rows → 0 < n
fits-some n k [] a h = absurd (omega arith)
fits-some n k (r ∷ rs) a h = omega (arith, terms-length a.0.0)

-- no more places are open than a row has cells
pub fits-wide : (n k : ℕ) (rows : List (List ℕ)) → All (Fits n k) rows → 0 < length rows → k ≤ n
fits-wide n k [] f h = absurd (omega arith)
fits-wide n k (r ∷ rs) f h = omega (arith, terms-long f.0.0)

pub fits_more : (n k : ℕ) (rows : List (List ℕ)) → All (Fits n k) rows → All (Fits (suc n) k) rows
fits_more n k [] a = tt
fits_more n k (r ∷ rs) a = ((a.0.0, omega arith), fits_more n k rs a.1)

-- below each branch the rows fit with one cell less
pub runs_fit : (n k i : ℕ) → i ≤ k → (rows : List (List ℕ)) → All (Fits (suc n) (suc k)) rows → Each (λ (c : ℕ). Fits n (arity c + k)) (runs i rows)
runs_fit n k i h = group-all (root i) (close i) (Fits (suc n) (suc k)) (λ (c : ℕ). Fits n (arity c + k)) (fits-close n k i h)
