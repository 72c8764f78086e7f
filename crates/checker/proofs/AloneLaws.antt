-- A leaf, and a state with one row, which is a chain of single branches: what each answer of the code makes of the reading.
use mathlib.Core.Path.{◌≡◌, refl, sym, ap, ◌∙◌}
use mathlib.Core.Bool.{Bool, true, false, not}
use mathlib.Core.Logic.{◌≢◌}
use mathlib.Core.List.{List, [], ◌∷◌}
use Prim.Native.Nat.{ℕ, suc, ◌+◌, ◌-◌, ◌≤◌, ◌<◌}
use native.Mathlib.Numerals.{add-one}
use native.Mathlib.Omega.{arith}
use lib.Dec.{eqb}
use lib.ListN.{length, get_or, drop, drop_of_length-le}
use lib.Seq.{drop-cons}
use borrow.Author.Tests.{eq-eqb, ne_eqb}
use Rattle.cell.specs.Cell.{arity}
use Rattle.term.specs.Terms.{root, close}
use Rattle.term.proofs.TermsLaws.{terms-long}
use Rattle.term.proofs.PlaceLaws.{close-length}
use Rattle.refusal.specs.Refusal.{Refused, told}
use Rattle.refusal.specs.declared.Reason.TheVariants as reason
use Rattle.refusal.specs.declared.Refusal.{Refusal}
use Rattle.refusal.specs.Read.{Read, read, refuse, when}
use Rattle.plan.specs.Runs.{Run, run}
use Rattle.plan.specs.Check.{Seen, seen, bad_plan, Reader, branches_from, leaf_from, node_from, state_from}
use Rattle.plan.specs.code.Fits.{Fits}
use Rattle.plan.proofs.ReadingLaws.{
  after,
  after_none,
  after-after,
  node-ends,
  node-open,
  node-ends-2,
  node-edges,
  node-on,
  branches-ends,
  branches-label,
  branches-refused,
  branches-on,
  state-leaf,
  state-again,
}
use Rattle.state.specs.Mask.{kept, ClosedAt}
use Rattle.state.specs.declared.mask.Closed.{Closed}
use Rattle.checker.proofs.StateLaws.{fits_below}
use Rattle.checker.specs.code.Steps.{Step, leaf_after, LeafDone, alone_from, AloneDone}
use Rattle.std.proofs.Common.{Ok, Err}
use Rattle.checker.specs.declared.check.Seen as code

-- A leaf: ENDS, ROWS, or read.
module _ (p : List ℕ) (rows count at : ℕ) where
  pub leaf-ends : {f : Refusal} → length p ≤ at → told f ≡ bad_plan reason.Ends at → LeafDone p rows count at (Err f)
  leaf-ends h q = record { says = rw (drop_of_length-le p h, q); inside = λ from l. tt }

  pub leaf-rows : {f : Refusal} → at < length p → get_or p at 0 ≢ rows → told f ≡ bad_plan reason.Rows at → LeafDone p rows count at (Err f)
  leaf-rows h e q = record { says = rw (drop-cons p at 0 h, ne_eqb _ _ e, q); inside = λ from l. tt }

  pub leaf-read : at < length p → get_or p at 0 ≡ rows → LeafDone p rows count at (Ok (record { branches = count; next = at + 1 }))
  leaf-read h e = record {
    says = rw (drop-cons p at 0 h, eq-eqb _ _ e, add-one at);
    inside = λ from l. (omega arith, omega arith);
  }

-- it is the definition's, so many branches being counted above it
after-leaf : (count : ℕ) (rows : List (List ℕ)) (at : ℕ) (xs : List ℕ) → after count (leaf_from rows at xs) ≡ leaf_after (length rows) count at xs
after-leaf count rows at [] = refl
after-leaf count rows at (c ∷ xs) = go (eqb c (length rows))
  where
    go : (b : Bool) → after count (when (not b) (bad_plan reason.Rows at) (read (seen 0 (suc at) xs)))
        ≡ when (not b) (bad_plan reason.Rows at) (read (seen count (suc at) xs))
    go true = let e : count + 0 ≡ count = omega arith in ap (λ (b : ℕ). read (seen b (suc at) xs)) e
    go false = refl

-- A single branch: the state below it, and one branch more.
one-branch : (below : Reader) (j k : ℕ) (g : Run) (p : List ℕ) (at : ℕ) → at < length p → get_or p at 0 ≡ g.cell
    → branches_from below [] j k (g ∷ []) at (drop at p) ≡ after 1 (below [] (arity g.cell + k) g.rows (at + 1) (drop (at + 1) p))
one-branch below j k g p at h e = go (below [] (arity g.cell + k) g.rows (at + 1) (drop (at + 1) p)) refl
  where
    go : (r : Read Seen) → below [] (arity g.cell + k) g.rows (at + 1) (drop (at + 1) p) ≡ r
        → branches_from below [] j k (g ∷ []) at (drop at p) ≡ after 1 r
    go (read s) q =
        let n : s.branches + 1 + 0 ≡ 1 + s.branches = omega arith in
        branches-on below [] j k g [] p at s h e q ∙ ap (λ (b : ℕ). read (seen b s.next s.rest)) n
    go (refuse f) q = branches-refused below [] j k g [] p at f h e q

-- The chain. Some of the row's cells are looked at: what is left of the work, from place on, is all of it, but for the branches counted so far.
pub record Chain (t : List ℕ) (start mask : ℕ) (p : List ℕ) (k at left owed place count : ℕ) : Type 0 where
  pub fits : Fits 32 owed (kept left (drop start t))
  pub few : at + count ≤ place
  pub says : after count (alone_from owed (kept left (drop start t)) p place) ≡ alone_from k (kept mask (drop start t)) p at

pub chain-start : {t : List ℕ} {start mask : ℕ} {p : List ℕ} {k at : ℕ} → Fits 32 k (kept mask (drop start t))
    → Chain t start mask p k at mask k at 0
chain-start {t} {start} {mask} {p} {k} {at} f = record {
  fits = f;
  few = omega arith;
  says = after_none (alone_from k (kept mask (drop start t)) p at);
}

module _ {t : List ℕ} {start mask : ℕ} {p : List ℕ} {k at left owed place count : ℕ} (g : Chain t start mask p k at left owed place count) where
  abbrev row : List ℕ
  row = kept left (drop start t)

  -- no place is open: the leaf
  pub chain-leaf : {r : Step} → owed ≡ 0 → LeafDone p 1 count place r → AloneDone t start mask p k at r
  chain-leaf e d =
      let leaf = state-leaf 32 [] owed (row ∷ []) place (drop place p) e in
      record {
        says = sym g.says ∙ ap (after count) leaf ∙ after-leaf count (row ∷ []) place (drop place p) ∙ d.says;
        inside = d.inside at g.few;
      }

  -- a place is open: ENDS, OPEN, ENDS at the second cell, EDGES where that is not 1
  pub few-owed : owed ≤ 32
  few-owed = omega (arith, terms-long g.fits.0, g.fits.1)

  refused : {f : Refusal} (x : Refused) → alone_from owed row p place ≡ refuse x → told f ≡ x → AloneDone t start mask p k at (Err f)
  refused x e q = record { says = sym g.says ∙ rw (e, q); inside = tt }

  module _ (l : 0 < owed) where
    abbrev as-node : alone_from owed row p place ≡ node_from (state_from 32) [] (owed - 1) (row ∷ []) place (drop place p)
    as-node = state-again 32 [] owed (row ∷ []) (g.fits, tt) (omega arith) l place (drop place p)

    pub chain-ends : {f : Refusal} → length p ≤ place → told f ≡ bad_plan reason.Ends place → AloneDone t start mask p k at (Err f)
    chain-ends h = refused (bad_plan reason.Ends place) (as-node ∙ node-ends (state_from 32) [] (owed - 1) (row ∷ []) p place h)

    pub chain-open : {f : Refusal} → place < length p → owed ≤ get_or p place 0 → told f ≡ bad_plan reason.Open place
        → AloneDone t start mask p k at (Err f)
    chain-open h i = refused (bad_plan reason.Open place) (as-node ∙ node-open (state_from 32) [] (owed - 1) (row ∷ []) p place h (omega arith))

    module _ (i : get_or p place 0 < owed) where
      pub chain-ends-2 : {f : Refusal} → place < length p → length p ≤ place + 1 → told f ≡ bad_plan reason.Ends (place + 1)
          → AloneDone t start mask p k at (Err f)
      chain-ends-2 h n =
          refused (bad_plan reason.Ends (place + 1)) (as-node ∙ node-ends-2 (state_from 32) [] (owed - 1) (row ∷ []) p place h n (omega arith) refl)

      pub chain-edges : {f : Refusal} → place + 1 < length p → get_or p (place + 1) 0 ≢ 1 → told f ≡ bad_plan reason.Edges (place + 1)
          → AloneDone t start mask p k at (Err f)
      chain-edges h n = refused (bad_plan reason.Edges (place + 1)) (as-node ∙ node-edges (state_from 32) [] (owed - 1) (row ∷ []) p place h (omega arith) refl n)

      -- one branch: ENDS at its cell, LABEL, or on with the row below it
      module _ (h : place + 1 < length p) (n : get_or p (place + 1) 0 ≡ 1) where
        abbrev branch : Run
        branch = run (root (get_or p place 0) row) (close (get_or p place 0) row ∷ [])

        as-branch : alone_from owed row p place ≡ branches_from (state_from 32) [] (get_or p place 0) (owed - 1) (branch ∷ []) (place + 2) (drop (place + 2) p)
        as-branch = as-node ∙ node-on (state_from 32) [] (owed - 1) (row ∷ []) p place h (omega arith) refl n

        pub chain-ends-3 : {f : Refusal} → length p ≤ place + 2 → told f ≡ bad_plan reason.Ends (place + 2) → AloneDone t start mask p k at (Err f)
        chain-ends-3 m =
            refused (bad_plan reason.Ends (place + 2)) (as-branch
            ∙ branches-ends (state_from 32) [] (get_or p place 0) (owed - 1) branch [] p (place + 2) m)

        module _ {c : Closed} (closed : ClosedAt (get_or p place 0) left (drop start t) c) (m : place + 2 < length p) where
          pub chain-label : {f : Refusal} → get_or p (place + 2) 0 ≢ c.cell → told f ≡ bad_plan reason.Label (place + 2)
              → AloneDone t start mask p k at (Err f)
          chain-label d =
              refused (bad_plan reason.Label (place + 2))
              (as-branch ∙ branches-label (state_from 32) [] (get_or p place 0) (owed - 1) branch [] p (place + 2) m (λ e. d (e ∙ sym closed.cell)))

          -- the row has one cell less
          pub chain-less : length (kept c.mask (drop start t)) < length row
          chain-less = omega (arith, ap length closed.list, close-length (get_or p place 0) g.fits.0 i)

          pub chain-on : get_or p (place + 2) 0 ≡ c.cell → Chain t start mask p k at c.mask (arity c.cell + (owed - 1)) (place + 3) (count + 1)
          chain-on d =
              let e : place + 2 + 1 ≡ place + 3 = omega arith in
              let b = as-branch ∙ (rw e at (one-branch (state_from 32) (get_or p place 0) (owed - 1) branch p (place + 2) m (d ∙ closed.cell))) in
              let below = alone_from (arity branch.cell + (owed - 1)) (close (get_or p place 0) row) p (place + 3) in
              record {
                fits = rw (closed.list, closed.cell) (fits_below (get_or p place 0) owed i row g.fits);
                few = omega (arith, g.few);
                says = rw (closed.list, closed.cell) (sym (after-after count 1 below) ∙ ap (after count) (sym b) ∙ g.says);
              }
