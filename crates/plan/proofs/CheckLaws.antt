-- What the reading of a plan accepts: exactly what some plan of the kind writes.
use mathlib.Core.Path.{◌≡◌, refl, sym, ◌∙◌}
use mathlib.Core.Bool.{Bool, true, not}
use mathlib.Core.List.{List, [], ◌∷◌, ◌++◌, append_assoc, append-nil}
use mathlib.Core.Logic.{◌↔◌}
use Prim.Native.Nat.{ℕ, zero, suc, ◌+◌, ◌≤◌, ◌<◌}
use native.Mathlib.Omega.{arith}
use lib.ListN.{length, length-append, drop, length-drop}
use lib.Dec.{eqb, leb, ltb}
use borrow.Author.Tests.{eqb-true, leb-true, le-leb, ltb-false, lt-ltb, le-ltb, not-false}
use Rattle.cell.specs.Cell.{arity}
use Rattle.term.specs.Terms.{Terms, root, close}
use Rattle.term.proofs.Tests.{eqb_same}
use Rattle.term.proofs.Lists.{nil-of-length}
use Rattle.table.specs.All.{All}
use Rattle.refusal.specs.Refusal.{Refused}
use Rattle.refusal.specs.declared.Reason.{Reason}
use Rattle.refusal.specs.declared.Reason.TheVariants as reason
use Rattle.refusal.specs.Read.{Read, read, refuse}
use Rattle.table.specs.Table.{Table, Row, IsTable}
use Rattle.table.proofs.ReadLaws.{apart, passed, first}
use Rattle.plan.specs.Runs.{Run, runs}
use Rattle.plan.specs.Named.{spread, may, NamedFirst, NamedFirsts}
use Rattle.plan.proofs.NamedLaws.{may-is, is-may, no-column}
use Rattle.plan.specs.Plans.{Plan, leaf, node, Branches, end, next, write, writes, branches, branches_in}
use Rattle.plan.specs.Check.{Seen, seen, bad_plan, cell_then, Reader, branches_from, leaf_from, node_from, state_from, nothing_after, plan_with, plan_for}
use Rattle.plan.proofs.RunsLaws.{Each, Sized, group-sizes, fits-some, runs_fit}
use Rattle.plan.specs.code.Fits.{Fits}
use Rattle.plan.proofs.PlansLaws.{write-one}
use Rattle.plan.proofs.SizeLaws.{size-bound}
use Rattle.limits.specs.Limits.{most_plan_cells}

-- a cell that is read is there, and has passed its test
cell-read : {A : Type 0} (ok : ℕ → Bool) (n : Reason) (p : ℕ) (f : ℕ → List ℕ → Read A) (xs : List ℕ) (x : A) → cell_then ok n p f xs ≡ read x
    → (c : ℕ) × (ys : List ℕ) × (xs ≡ c ∷ ys) × (ok c ≡ true) × (f c ys ≡ read x)
cell-read ok n p f [] x e = apart (sym e)
cell-read ok n p f (c ∷ ys) x e = let w = passed (not (ok c)) _ (f c ys) e in (c, ys, refl, not-false (ok c) w.0, w.1)

-- a state that stands at the front of some cells: a plan for it, whose cells they are, its number of branches and the place after it
record Stands (fs : List Bool) (k : ℕ) (rows : List (List ℕ)) (p : ℕ) (xs : List ℕ) (s : Seen) : Type 0 where
  plan : Plan k rows
  kind : NamedFirst fs plan
  cells : xs ≡ write plan ++ s.rest
  count : branches plan ≡ s.branches
  ends : s.next ≡ p + length (write plan)

record StandsIn (fs : List Bool) (i k : ℕ) (gs : List Run) (p : ℕ) (xs : List ℕ) (s : Seen) : Type 0 where
  plans : Branches k gs
  kind : NamedFirsts fs i plans
  cells : xs ≡ writes plans ++ s.rest
  count : branches_in plans ≡ s.branches
  ends : s.next ≡ p + length (writes plans)

abbrev Sound : Reader → Type 0
Sound below = (fs : List Bool) (k : ℕ) (rows : List (List ℕ)) (p : ℕ) (xs : List ℕ) (s : Seen) → below fs k rows p xs ≡ read s → Stands fs k rows p xs s

together : (c d : ℕ) (xs ys w zs v rest : List ℕ) → xs ≡ c ∷ ys → c ≡ d → ys ≡ w ++ zs → zs ≡ v ++ rest → xs ≡ d ∷ ((w ++ v) ++ rest)
together c d xs ys w zs v rest e l f g = cc (append_assoc w v rest)

branches-sound : (below : Reader) → Sound below → (fs : List Bool) (i k : ℕ) (gs : List Run) (p : ℕ) (xs : List ℕ) (s : Seen)
    → branches_from below fs i k gs p xs ≡ read s
    → StandsIn fs i k gs p xs s
unfolding write branches NamedFirst
branches-sound below h fs i k [] p xs s e =
    let f : seen 0 p xs ≡ s = cc in
    rw (← f) (record { plans = end; kind = tt; cells = refl; count = refl; ends = omega arith })
branches-sound below h fs i k (g ∷ gs) p xs s e =
    let c = cell-read (λ c. eqb c g.cell) reason.Label p _ xs s e in
    let a : List Bool = spread i (arity g.cell) fs in
    let t = first (below a (arity g.cell + k) g.rows (suc p) c.1) _ c.4 in
    let u = first (branches_from below fs i k gs t.0.next t.0.rest) _ t.2 in
    let b = h a (arity g.cell + k) g.rows (suc p) c.1 t.0 t.1 in
    let bs = branches-sound below h fs i k gs t.0.next t.0.rest u.0 u.1 in
    let f : seen (suc (t.0.branches + u.0.branches)) u.0.next u.0.rest ≡ s = cc u.2 in
    let l : c.0 ≡ g.cell = eqb-true c.0 g.cell c.3 in
    rw (← f)
    (record {
      plans = next b.plan bs.plans;
      kind = (b.kind, bs.kind);
      cells = together c.0 g.cell xs c.1 (write b.plan) t.0.rest (writes bs.plans) u.0.rest c.2 l b.cells bs.cells;
      count = omega (arith, b.count, bs.count);
      ends = omega (arith, b.ends, bs.ends, length-append (write b.plan) (writes bs.plans));
    })

leaf-sound : (fs : List Bool) (rows : List (List ℕ)) (p : ℕ) (xs : List ℕ) (s : Seen) → leaf_from rows p xs ≡ read s → Stands fs 0 rows p xs s
unfolding write branches NamedFirst
leaf-sound fs rows p xs s e =
    let c = cell-read (λ c. eqb c (length rows)) reason.Rows p _ xs s e in
    let f : seen 0 (suc p) c.1 ≡ s = cc c.4 in
    let l : c.0 ≡ length rows = eqb-true c.0 (length rows) c.3 in
    rw (← f) (record { plan = leaf; kind = tt; cells = cc c.2; count = refl; ends = omega arith })

node-sound : (below : Reader) → Sound below → (fs : List Bool) (k : ℕ) (rows : List (List ℕ)) (p : ℕ) (xs : List ℕ) (s : Seen)
    → node_from below fs k rows p xs ≡ read s
    → Stands fs (suc k) rows p xs s
unfolding write branches NamedFirst
node-sound below h fs k rows p xs s e =
    let c = cell-read (λ c. leb c k) reason.Open p _ xs s e in
    let i : ℕ = c.0 in
    let w = passed (not (may fs i)) _ _ c.4 in
    let m = cell-read (λ c. eqb c (length (runs i rows))) reason.Edges (suc p) _ c.1 s w.1 in
    let l : m.0 ≡ length (runs i rows) = eqb-true m.0 (length (runs i rows)) m.3 in
    let bs = branches-sound below h fs i k (runs i rows) (suc (suc p)) m.1 s m.4 in
    record {
      plan = node i (leb-true i k c.3) bs.plans;
      kind = (may-is fs i (not-false (may fs i) w.0), bs.kind);
      cells = cc (c.2, m.2, bs.cells);
      count = bs.count;
      ends = omega (arith, bs.ends);
    }

-- what is read is a plan of the kind
state-sound : (n : ℕ) → Sound (state_from n)
unfolding state_from
state-sound zero fs zero rows p xs s e = leaf-sound fs rows p xs s e
state-sound zero fs (suc k) rows p xs s e = apart (sym e)
state-sound (suc n) fs zero rows p xs s e = leaf-sound fs rows p xs s e
state-sound (suc n) fs (suc k) rows p xs s e = node-sound (state_from n) (state-sound n) fs k rows p xs s e

-- and each plan of the kind is read
abbrev Complete : ℕ → Reader → Type 0
Complete n below =
    (fs : List Bool) (k : ℕ) (rows : List (List ℕ)) → All (Fits n k) rows → 0 < length rows → (t : Plan k rows) → NamedFirst fs t
    → (p : ℕ) (rest : List ℕ)
    → below fs k rows p (write t ++ rest) ≡ read (seen (branches t) (p + length (write t)) rest)

branches-complete : (n : ℕ) (below : Reader) → Complete n below → (fs : List Bool) (i k m : ℕ) (gs : List Run)
    → Each (λ (c : ℕ). Fits n (arity c + k)) gs → Sized m gs
    → (bs : Branches k gs) → NamedFirsts fs i bs → (p : ℕ) (rest : List ℕ)
    → branches_from below fs i k gs p (writes bs ++ rest) ≡ read (seen (branches_in bs) (p + length (writes bs)) rest)
unfolding write branches NamedFirst
branches-complete n below h fs i k m [] f z end s p rest = let e : p + 0 ≡ p = omega arith in rw e
branches-complete n below h fs i k m (g ∷ gs) f z (next t bs) s p rest =
    let a = append_assoc (write t) (writes bs) rest in
    let x = h (spread i (arity g.cell) fs) (arity g.cell + k) g.rows f.0 z.0.0 t s.0 (suc p) (writes bs ++ rest) in
    let y = branches-complete n below h fs i k m gs f.1 z.1 bs s.1 (suc p + length (write t)) rest in
    let e : suc p + length (write t) + length (writes bs) ≡ p + suc (length (write t ++ writes bs)) = omega (arith, length-append (write t) (writes bs)) in
    rw (eqb_same g.cell, a, x, y, e)

leaf-complete : (rows : List (List ℕ)) (p : ℕ) (rest : List ℕ) → leaf_from rows p (length rows ∷ rest) ≡ read (seen 0 (p + 1) rest)
leaf-complete rows p rest = let e : p + 1 ≡ suc p = omega arith in rw (eqb_same (length rows), e)

state-complete : (n : ℕ) → Complete n (state_from n)
unfolding state_from write branches NamedFirst
state-complete zero fs zero rows f h leaf s p rest = leaf-complete rows p rest
state-complete (suc n) fs zero rows f h leaf s p rest = leaf-complete rows p rest
state-complete zero fs (suc k) rows f h t s p rest = absurd (omega (arith, fits-some zero k rows f h))
state-complete (suc n) fs (suc k) rows f h (node i l bs) s p rest =
    let x = branches-complete n (state_from n) (state-complete n) fs i k (length rows) (runs i rows) (runs_fit n k i l rows f)
    (group-sizes (root i) (close i) rows) bs s.1
    (suc (suc p)) rest in
    let e : suc (suc p) + length (writes bs) ≡ p + suc (suc (length (writes bs))) = omega arith in
    rw (le-leb i k l, is-may fs i s.0, eqb_same (length (runs i rows)), x, e)

-- A plan for a table.
nothing_read : (s : Seen) (b : ℕ) → nothing_after s ≡ read b → (s.rest ≡ []) × (s.branches ≡ b)
nothing_read s b e =
    let w = passed (ltb 0 (length s.rest)) _ (read s.branches) e in
    let l : length s.rest ≡ 0 = omega (arith, ltb-false 0 (length s.rest) w.0) in
    (nil-of-length s.rest l, cc w.1)

module _ (fs : List Bool) (T : Table) (cells : List ℕ) where
  -- SIZE; what the first state is refused for; EXTRA
  pub plan-size : most_plan_cells < length cells → plan_with fs T cells ≡ refuse (bad_plan reason.Size 0)
  unfolding plan_with
  plan-size h = rw (lt-ltb most_plan_cells (length cells) h)

  pub plan-refused : (f : Refused) → length cells ≤ most_plan_cells → state_from 32 fs T.width T.rows 0 cells ≡ refuse f → plan_with fs T cells ≡ refuse f
  unfolding plan_with
  plan-refused f h e = rw (le-ltb most_plan_cells (length cells) h, e)

  pub plan-extra : (b e : ℕ) → length cells ≤ most_plan_cells → state_from 32 fs T.width T.rows 0 cells ≡ read (seen b e (drop e cells)) → e < length cells
      → plan_with fs T cells ≡ refuse (bad_plan reason.Extra e)
  unfolding plan_with
  plan-extra b e h r l =
      let m : 0 < length (drop e cells) = omega (arith, length-drop e cells) in
      rw (le-ltb most_plan_cells (length cells) h, r, lt-ltb 0 (length (drop e cells)) m)

-- 02, W-213, the check for the kind: cells are accepted with the answer b exactly where some plan of the kind writes them, and it has b branches
pub accepted-kind : (fs : List Bool) (T : Table) → All (λ (r : List ℕ). Terms T.width r × (length r ≤ 32)) T.rows → 0 < length T.rows
    → length T.rows ≤ 64
    → (cells : List ℕ) (b : ℕ) → (plan_with fs T cells ≡ read b) ↔ ((p : Plan T.width T.rows) × (write p ≡ cells) × (branches p ≡ b) × NamedFirst fs p)
unfolding plan_with
accepted-kind fs T f h m cells b = (sound, complete)
  where
    sound : plan_with fs T cells ≡ read b → (p : Plan T.width T.rows) × (write p ≡ cells) × (branches p ≡ b) × NamedFirst fs p
    sound e =
        let w = passed (ltb most_plan_cells (length cells)) _ _ e in
        let t = first (state_from 32 fs T.width T.rows 0 cells) nothing_after w.1 in
        let n = nothing_read t.0 b t.2 in
        let s = state-sound 32 fs T.width T.rows 0 cells t.0 t.1 in
        let c : cells ≡ write s.plan ++ [] = rw n.0 at s.cells in
        (s.plan, sym (append-nil (write s.plan)) ∙ sym c, s.count ∙ n.1, s.kind)

    complete : (p : Plan T.width T.rows) × (write p ≡ cells) × (branches p ≡ b) × NamedFirst fs p → plan_with fs T cells ≡ read b
    complete (p, w, e, s) =
        let r = rw append-nil at (state-complete 32 fs T.width T.rows f h p s 0 []) in
        let z = le-ltb most_plan_cells (length (write p)) (size-bound p f h m) in
        rw (← w, z, r, e)

-- Demand 3, "The check accepts it exactly when, written as document 01 sets out, each step names one place not yet looked at and splits its rows there
-- into the longest runs of neighbours that agree, down to rows with no place left", and 01, checking returns "the plan's number of branches": for rows as an
-- accepted table has them, cells are accepted with the answer b exactly where some plan for these rows writes them, and it has b branches.
pub accepted : (T : Table) → All (λ (r : List ℕ). Terms T.width r × (length r ≤ 32)) T.rows → 0 < length T.rows → length T.rows ≤ 64
    → (cells : List ℕ) (b : ℕ) → (plan_for T cells ≡ read b) ↔ ((p : Plan T.width T.rows) × (write p ≡ cells) × (branches p ≡ b))
accepted T f h m cells b =
    let a = accepted-kind [] T f h m cells b in
    (λ e. let p = a.0 e in (p.0, p.1, p.2), λ p. a.1 (p.0, p.1, p.2, no-column [] (λ j. refl) p.0))

-- so whatever is accepted for the kind is accepted, with the same answer
pub kind-accepted : (fs : List Bool) (T : Table) → All (λ (r : List ℕ). Terms T.width r × (length r ≤ 32)) T.rows → 0 < length T.rows
    → length T.rows ≤ 64
    → (cells : List ℕ) (b : ℕ) → plan_with fs T cells ≡ read b → plan_for T cells ≡ read b
kind-accepted fs T f h m cells b e = let p = (accepted-kind fs T f h m cells b).0 e in (accepted T f h m cells b).1 (p.0, p.1, p.2)

-- the rows of a table, by 01's words, are such rows
pub rows_fit : (w : ℕ) (rows : List (List ℕ)) → All (Row w) rows → All (Fits 32 w) rows
rows_fit w [] a = tt
rows_fit w (r ∷ rs) a = ((a.0.terms, a.0.short), rows_fit w rs a.1)

-- the same of a table by 01's words, with that there is no other plan that writes these cells
pub accepted-one : {t : List ℕ} (T : Table) → IsTable t T.width T.rows → (cells : List ℕ) (b : ℕ)
    → (plan_for T cells ≡ read b)
    ↔ ((p : Plan T.width T.rows) × (write p ≡ cells) × (branches p ≡ b) × ((q : Plan T.width T.rows) → write q ≡ cells → q ≡ p))
accepted-one T is cells b =
    let a = accepted T (rows_fit T.width T.rows is.each) is.count.0 is.count.1 cells b in
    (λ e. let p = a.0 e in (p.0, p.1, p.2, λ q w. write-one q p.0 (w ∙ sym p.1)), λ p. a.1 (p.0, p.1, p.2))
