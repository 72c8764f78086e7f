-- The reading of a plan, case by case, as the code goes: the cells from i on are `drop i xs`, and i is the place.
use mathlib.Core.Path.{◌≡◌, refl, sym, ap, ◌∙◌}
use mathlib.Core.Bool.{Bool, true, false, not}
use mathlib.Core.List.{List, [], ◌∷◌}
use mathlib.Core.Logic.{◌≢◌}
use Prim.Native.Nat.{ℕ, zero, suc, ◌+◌, ◌-◌, ◌≤◌, ◌<◌}
use native.Mathlib.Numerals.{add-one}
use native.Mathlib.Omega.{arith}
use lib.ListN.{length, get_or, drop, drop_of_length-le}
use lib.Seq.{drop-cons}
use lib.Dec.{eqb, leb}
use borrow.Author.Tests.{leb-true, le-leb, lt-leb, eq-eqb, ne_eqb}
use Rattle.cell.specs.Cell.{arity}
use Rattle.term.specs.Terms.{root, close}
use Rattle.table.specs.All.{All}
use Rattle.refusal.specs.Refusal.{Refused}
use Rattle.refusal.specs.declared.Reason.{Reason}
use Rattle.refusal.specs.declared.Reason.TheVariants as reason
use Rattle.refusal.specs.Read.{Read, read, refuse, when, and_then}
use Rattle.table.proofs.ReadLaws.{then-both}
use Rattle.plan.specs.Runs.{Run, runs}
use Rattle.plan.specs.Named.{spread, may}
use Rattle.plan.specs.Check.{Seen, seen, bad_plan, cell_then, Reader, branches_from, leaf_from, node_from, state_from}
use Rattle.plan.proofs.RunsLaws.{Each, Sized, group-sizes, fits-some, fits_more, runs_fit}
use Rattle.plan.specs.code.Fits.{Fits}

-- one cell: ENDS, the test it fails, or on with the cells after it
module _ {A : Type 0} (ok : ℕ → Bool) (n : Reason) (f : ℕ → List ℕ → Read A) (xs : List ℕ) (i : ℕ) where
  cell-ends : length xs ≤ i → cell_then ok n i f (drop i xs) ≡ refuse (bad_plan reason.Ends i)
  cell-ends h = rw (drop_of_length-le xs h)

  cell-bad : i < length xs → ok (get_or xs i 0) ≡ false → cell_then ok n i f (drop i xs) ≡ refuse (bad_plan n i)
  cell-bad h e = rw (drop-cons xs i 0 h, e)

  cell-on : i < length xs → ok (get_or xs i 0) ≡ true → cell_then ok n i f (drop i xs) ≡ f (get_or xs i 0) (drop (i + 1) xs)
  cell-on h e = rw (drop-cons xs i 0 h, e, add-one i)

-- a leaf: ENDS, ROWS, or read
module _ (rows : List (List ℕ)) (xs : List ℕ) (i : ℕ) where
  pub leaf-ends : length xs ≤ i → leaf_from rows i (drop i xs) ≡ refuse (bad_plan reason.Ends i)
  leaf-ends h = cell-ends (λ c. eqb c (length rows)) reason.Rows (λ c ys. read (seen 0 (suc i) ys)) xs i h

  pub leaf-rows : i < length xs → get_or xs i 0 ≢ length rows → leaf_from rows i (drop i xs) ≡ refuse (bad_plan reason.Rows i)
  leaf-rows h e = cell-bad (λ c. eqb c (length rows)) reason.Rows (λ c ys. read (seen 0 (suc i) ys)) xs i h (ne_eqb _ _ e)

  pub leaf-read : i < length xs → get_or xs i 0 ≡ length rows → leaf_from rows i (drop i xs) ≡ read (seen 0 (i + 1) (drop (i + 1) xs))
  leaf-read h e = cell-on (λ c. eqb c (length rows)) reason.Rows (λ c ys. read (seen 0 (suc i) ys)) xs i h (eq-eqb _ _ e) ∙ rw (add-one i)

-- an inner state with k + 1 open places: ENDS, OPEN, EARLY, ENDS, EDGES, or on with the branches
module _ (below : Reader) (fs : List Bool) (k : ℕ) (rows : List (List ℕ)) (xs : List ℕ) (i : ℕ) where
  -- what is read once the place is known, and once the number of branches is
  abbrev at-edges : ℕ → ℕ → List ℕ → Read Seen
  at-edges x c zs = branches_from below fs x k (runs x rows) (suc (suc i)) zs

  abbrev at-open : ℕ → List ℕ → Read Seen
  at-open x ys =
      when (not (may fs x)) (bad_plan reason.Early i) (
      cell_then (λ c. eqb c (length (runs x rows))) reason.Edges (suc i) (at-edges x) ys)

  pub node-ends : length xs ≤ i → node_from below fs k rows i (drop i xs) ≡ refuse (bad_plan reason.Ends i)
  node-ends h = cell-ends (λ c. leb c k) reason.Open at-open xs i h

  pub node-open : i < length xs → k < get_or xs i 0 → node_from below fs k rows i (drop i xs) ≡ refuse (bad_plan reason.Open i)
  node-open h e = cell-bad (λ c. leb c k) reason.Open at-open xs i h (lt-leb _ _ e)

  pub node-early : i < length xs → get_or xs i 0 ≤ k → may fs (get_or xs i 0) ≡ false → node_from below fs k rows i (drop i xs) ≡ refuse (bad_plan reason.Early i)
  node-early h e y = cell-on (λ c. leb c k) reason.Open at-open xs i h (le-leb _ _ e) ∙ rw y

  node-edge : i < length xs → get_or xs i 0 ≤ k → may fs (get_or xs i 0) ≡ true → node_from below fs k rows i (drop i xs)
      ≡ cell_then (λ c. eqb c (length (runs (get_or xs i 0) rows))) reason.Edges (i + 1)
      (λ m zs. branches_from below fs (get_or xs i 0) k (runs (get_or xs i 0) rows) (i + 2) zs) (drop (i + 1) xs)
  node-edge h e y = let z : i + 2 ≡ suc (suc i) = omega arith in cell-on (λ c. leb c k) reason.Open at-open xs i h (le-leb _ _ e) ∙ rw (y, add-one i, z)

  pub node-ends-2 : i < length xs → length xs ≤ i + 1 → get_or xs i 0 ≤ k → may fs (get_or xs i 0) ≡ true
      → node_from below fs k rows i (drop i xs) ≡ refuse (bad_plan reason.Ends (i + 1))
  node-ends-2 h l e y = node-edge h e y ∙ cell-ends (λ c. eqb c (length (runs (get_or xs i 0) rows))) reason.Edges (λ m zs. branches_from below fs (get_or xs i 0) k (runs (get_or xs i 0) rows) (i + 2) zs) xs (i + 1) l

  pub node-edges : i + 1 < length xs → get_or xs i 0 ≤ k → may fs (get_or xs i 0) ≡ true → get_or xs (i + 1) 0 ≢ length (runs (get_or xs i 0) rows)
      → node_from below fs k rows i (drop i xs) ≡ refuse (bad_plan reason.Edges (i + 1))
  node-edges h e y m = node-edge (omega arith) e y ∙ cell-bad (λ c. eqb c (length (runs (get_or xs i 0) rows))) reason.Edges (λ m zs. branches_from below fs (get_or xs i 0) k (runs (get_or xs i 0) rows) (i + 2) zs) xs (i + 1) h (ne_eqb _ _ m)

  pub node-on : i + 1 < length xs → get_or xs i 0 ≤ k → may fs (get_or xs i 0) ≡ true → get_or xs (i + 1) 0 ≡ length (runs (get_or xs i 0) rows)
      → node_from below fs k rows i (drop i xs) ≡ branches_from below fs (get_or xs i 0) k (runs (get_or xs i 0) rows) (i + 2) (drop (i + 2) xs)
  node-on h e y m =
      let z : i + 1 + 1 ≡ i + 2 = omega arith in
      node-edge (omega arith) e y
      ∙ cell-on (λ c. eqb c (length (runs (get_or xs i 0) rows))) reason.Edges (λ m zs. branches_from below fs (get_or xs i 0) k (runs (get_or xs i 0) rows) (i + 2) zs) xs (i + 1) h (eq-eqb _ _ m)
      ∙ ap (λ (j : ℕ). branches_from below fs (get_or xs i 0) k (runs (get_or xs i 0) rows) (i + 2) (drop j xs)) z

-- a state by its number of open places: a leaf where there is none
pub state-leaf : (n : ℕ) (fs : List Bool) (k : ℕ) (rows : List (List ℕ)) (p : ℕ) (xs : List ℕ) → k ≡ 0 → state_from n fs k rows p xs ≡ leaf_from rows p xs
unfolding state_from
state-leaf zero fs zero rows p xs h = refl
state-leaf (suc n) fs zero rows p xs h = refl
state-leaf zero fs (suc k) rows p xs h = absurd (omega arith)
state-leaf (suc n) fs (suc k) rows p xs h = absurd (omega arith)

-- so many branches more than those that are read
abbrev pub after : ℕ → Read Seen → Read Seen
after n r = and_then r (λ (s : Seen). read (seen (n + s.branches) s.next s.rest))

pub after_none : (r : Read Seen) → after 0 r ≡ r
after_none (read s) = let e : 0 + s.branches ≡ s.branches = omega arith in ap (λ (b : ℕ). read (seen b s.next s.rest)) e
after_none (refuse f) = refl

pub after-after : (m n : ℕ) (r : Read Seen) → after m (after n r) ≡ after (m + n) r
after-after m n (read s) =
    let e : m + (n + s.branches) ≡ m + n + s.branches = omega arith in ap (λ (b : ℕ). read (seen b s.next s.rest)) e
after-after m n (refuse f) = refl

after_one : (b : ℕ) (r : Read Seen) → and_then r (λ (t : Seen). read (seen (suc (b + t.branches)) t.next t.rest)) ≡ after (b + 1) r
after_one b (read t) =
    let e : suc (b + t.branches) ≡ b + 1 + t.branches = omega arith in ap (λ (n : ℕ). read (seen n t.next t.rest)) e
after_one b (refuse f) = refl

after-each : (r : Read Seen) (f : Seen → Read Seen)
    → and_then r (λ (s : Seen). and_then (f s) (λ (t : Seen). read (seen (suc (s.branches + t.branches)) t.next t.rest)))
    ≡ and_then r (λ (s : Seen). after (s.branches + 1) (f s))
after-each (read s) f = after_one s.branches (f s)
after-each (refuse g) f = refl

-- the branches of some runs: ENDS, LABEL, what the state below is refused for, or on with the other runs
module _ (below : Reader) (fs : List Bool) (j k : ℕ) (g : Run) (gs : List Run) (xs : List ℕ) (i : ℕ) where
  abbrev at-label : ℕ → List ℕ → Read Seen
  at-label c ys =
      and_then (below (spread j (arity g.cell) fs) (arity g.cell + k) g.rows (suc i) ys) (λ (s : Seen).
      and_then (branches_from below fs j k gs s.next s.rest) (λ (t : Seen).
      read (seen (suc (s.branches + t.branches)) t.next t.rest)))

  pub branches-ends : length xs ≤ i → branches_from below fs j k (g ∷ gs) i (drop i xs) ≡ refuse (bad_plan reason.Ends i)
  branches-ends h = cell-ends (λ c. eqb c g.cell) reason.Label at-label xs i h

  pub branches-label : i < length xs → get_or xs i 0 ≢ g.cell → branches_from below fs j k (g ∷ gs) i (drop i xs) ≡ refuse (bad_plan reason.Label i)
  branches-label h e = cell-bad (λ c. eqb c g.cell) reason.Label at-label xs i h (ne_eqb _ _ e)

  branches-below : i < length xs → get_or xs i 0 ≡ g.cell → branches_from below fs j k (g ∷ gs) i (drop i xs)
      ≡ and_then (below (spread j (arity g.cell) fs) (arity g.cell + k) g.rows (i + 1) (drop (i + 1) xs))
      (λ (s : Seen). after (s.branches + 1) (branches_from below fs j k gs s.next s.rest))
  branches-below h e =
      cell-on (λ c. eqb c g.cell) reason.Label at-label xs i h (eq-eqb _ _ e)
      ∙ rw (add-one i)
      (after-each (below (spread j (arity g.cell) fs) (arity g.cell + k) g.rows (suc i) (drop (suc i) xs))
      (λ (s : Seen). branches_from below fs j k gs s.next s.rest))

  pub branches-refused : (f : Refused) → i < length xs → get_or xs i 0 ≡ g.cell
      → below (spread j (arity g.cell) fs) (arity g.cell + k) g.rows (i + 1) (drop (i + 1) xs) ≡ refuse f
      → branches_from below fs j k (g ∷ gs) i (drop i xs) ≡ refuse f
  branches-refused f h e b = branches-below h e ∙ rw b

  pub branches-on : (s : Seen) → i < length xs → get_or xs i 0 ≡ g.cell
      → below (spread j (arity g.cell) fs) (arity g.cell + k) g.rows (i + 1) (drop (i + 1) xs) ≡ read s
      → branches_from below fs j k (g ∷ gs) i (drop i xs) ≡ after (s.branches + 1) (branches_from below fs j k gs s.next s.rest)
  branches-on s h e b = branches-below h e ∙ rw b

-- The number that bounds the depth never decides, where the rows fit.
abbrev Alike : ℕ → ℕ → Reader → Reader → Type 0
Alike m n below other = (fs : List Bool) (k : ℕ) (rows : List (List ℕ)) → All (Fits m k) rows → All (Fits n k) rows → 0 < length rows → (p : ℕ) (xs : List ℕ)
    → below fs k rows p xs ≡ other fs k rows p xs

branches-alike : (m n : ℕ) (below other : Reader) → Alike m n below other → (fs : List Bool) (j k z : ℕ) (gs : List Run)
    → Each (λ (c : ℕ). Fits m (arity c + k)) gs
    → Each (λ (c : ℕ). Fits n (arity c + k)) gs → Sized z gs → (p : ℕ) (xs : List ℕ) → branches_from below fs j k gs p xs ≡ branches_from other fs j k gs p xs
branches-alike m n below other h fs j k z [] f f' s p xs = refl
branches-alike m n below other h fs j k z (g ∷ gs) f f' s p [] = refl
branches-alike m n below other h fs j k z (g ∷ gs) f f' s p (c ∷ ys) =
    ap (when (not (eqb c g.cell)) (bad_plan reason.Label p))
    (rw (h (spread j (arity g.cell) fs) (arity g.cell + k) g.rows f.0 f'.0 s.0.0 (suc p) ys)
    (then-both (other (spread j (arity g.cell) fs) (arity g.cell + k) g.rows (suc p) ys)
    (λ (t : Seen). rw (branches-alike m n below other h fs j k z gs f.1 f'.1 s.1 t.next t.rest))))

node_alike : (m n : ℕ) (below other : Reader) → Alike m n below other → (fs : List Bool) (k : ℕ) (rows : List (List ℕ)) → All (Fits (suc m) (suc k)) rows
    → All (Fits (suc n) (suc k)) rows → (p : ℕ) (xs : List ℕ) → node_from below fs k rows p xs ≡ node_from other fs k rows p xs
node_alike m n below other h fs k rows f f' p [] = refl
node_alike m n below other h fs k rows f f' p (i ∷ []) = refl
node_alike m n below other h fs k rows f f' p (i ∷ c ∷ zs) = go (leb i k) refl
  where
    go : (b : Bool) → leb i k ≡ b
        → when (not b) (bad_plan reason.Open p) (when (not (may fs i)) (bad_plan reason.Early p)
        (when (not (eqb c (length (runs i rows)))) (bad_plan reason.Edges (suc p)) (branches_from below fs i k (runs i rows) (suc (suc p)) zs)))
        ≡ when (not b) (bad_plan reason.Open p) (when (not (may fs i)) (bad_plan reason.Early p)
        (when (not (eqb c (length (runs i rows)))) (bad_plan reason.Edges (suc p)) (branches_from other fs i k (runs i rows) (suc (suc p)) zs)))
    go true e =
        let l : i ≤ k = leb-true i k e in
        ap (λ (x : Read Seen). when (not (may fs i)) (bad_plan reason.Early p) (when (not (eqb c (length (runs i rows)))) (bad_plan reason.Edges (suc p)) x))
        (branches-alike m n below other h fs i k (length rows) (runs i rows) (runs_fit m k i l rows f) (runs_fit n k i l rows f')
        (group-sizes (root i) (close i) rows)
        (suc (suc p)) zs)
    go false e = refl

depth-free : (m n : ℕ) → Alike m n (state_from m) (state_from n)
unfolding state_from
depth-free zero n fs zero rows f f' h p xs = sym (state-leaf n fs zero rows p xs refl)
depth-free zero n fs (suc k) rows f f' h p xs = absurd (omega (arith, fits-some zero k rows f h))
depth-free (suc m) zero fs zero rows f f' h p xs = refl
depth-free (suc m) (suc n) fs zero rows f f' h p xs = refl
depth-free (suc m) zero fs (suc k) rows f f' h p xs = absurd (omega (arith, fits-some zero k rows f' h))
depth-free (suc m) (suc n) fs (suc k) rows f f' h p xs = node_alike m n (state_from m) (state_from n) (depth-free m n) fs k rows f f' p xs

-- so an inner state is read by the reading of any state below it, with no number that falls
pub state-again : (n : ℕ) (fs : List Bool) (k : ℕ) (rows : List (List ℕ)) → All (Fits n k) rows → 0 < length rows → 0 < k → (p : ℕ) (xs : List ℕ)
    → state_from n fs k rows p xs ≡ node_from (state_from n) fs (k - 1) rows p xs
unfolding state_from
state-again n fs zero rows f h l p xs = absurd (omega arith)
state-again zero fs (suc k) rows f h l p xs = absurd (omega (arith, fits-some zero k rows f h))
state-again (suc n) fs (suc k) rows f h l p xs =
    let e : suc k - 1 ≡ k = omega arith in
    rw e (node_alike n (suc n) (state_from n) (state_from (suc n)) (depth-free n (suc n)) fs k rows f (fits_more (suc n) (suc k) rows f) p xs)
