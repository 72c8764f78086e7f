-- A state of the check: what each answer of the code makes of the reading.
use mathlib.Core.Path.{◌≡◌, sym, ap, ◌∙◌}
use mathlib.Core.Logic.{◌≢◌}
use mathlib.Core.List.{List, [], ◌∷◌, map}
use mathlib.Core.Bool.{Bool, true, false}
use Prim.Native.Nat.{ℕ, zero, suc, ◌+◌, ◌-◌, ◌≤◌, ◌<◌, min, max}
use native.Mathlib.Omega.{arith}
use lib.ListN.{length, get_or, take, drop}
use Rattle.cell.specs.Cell.{arity}
use Rattle.term.specs.Terms.{root, close}
use Rattle.term.proofs.TermsLaws.{terms-long}
use Rattle.term.proofs.PlaceLaws.{close-length}
use Rattle.table.specs.All.{All}
use Rattle.refusal.specs.Refusal.{Refused, told}
use Rattle.refusal.specs.declared.Reason.TheVariants as reason
use Rattle.refusal.specs.Read.{refuse}
use Rattle.refusal.specs.declared.Refusal.{Refusal}
use Rattle.plan.specs.Named.{may}
use Rattle.plan.proofs.NamedLaws.{Free, no_place}
use Rattle.plan.proofs.ColumnsLaws.{state-plain}
use Rattle.plan.specs.Runs.{Run, runs}
use Rattle.plan.specs.Check.{bad_plan, node_from, state_from}
use Rattle.plan.specs.code.Fits.{Fits}
use Rattle.state.specs.Column.{run_count}
use Rattle.state.specs.Flags.{flags_in, may_in}
use Rattle.state.specs.States.{row_at, rows_in, column_in, ClosedRows}
use Rattle.checker.specs.code.Steps.{Step, said_by, Inside, LeafDone, AloneDone, Ready, ReadyIn, Done, DoneIn}
use Rattle.std.proofs.Common.{Ok, Err}
use Rattle.checker.specs.declared.check.Seen as code
use Rattle.plan.proofs.RunsLaws.{group-all, fits-close}
use Rattle.plan.proofs.ReadingLaws.{node-ends, node-open, node-early, node-ends-2, node-edges, node-on, state-leaf, state-again}
use Rattle.state.proofs.FlagsLaws.{may-bits, zero_flags}
use Rattle.state.proofs.RowsLaws.{Closes, rows_none, rows-first, rows-length, run-number, runs_closed, same_self, same_then, closes-of}

-- How deep the check can still go: the cells of the longest row.
abbrev pub longest : List (List ℕ) → ℕ
longest [] = 0
longest (r ∷ rows) = max (length r) (longest rows)

pub longest-take : (n : ℕ) (rows : List (List ℕ)) → longest (take n rows) ≤ longest rows
longest-take zero rows = omega arith
longest-take (suc n) [] = omega arith
longest-take (suc n) (r ∷ rows) = omega (arith, longest-take n rows)

pub longest-drop : (n : ℕ) (rows : List (List ℕ)) → longest (drop n rows) ≤ longest rows
longest-drop zero rows = omega arith
longest-drop (suc n) [] = omega arith
longest-drop (suc n) (r ∷ rows) = omega (arith, longest-drop n rows)

-- closing a place takes a cell from each row
longest-close : (i k : ℕ) → i < k → (rows : List (List ℕ)) → All (Fits 32 k) rows → 0 < length rows → longest (map (close i) rows) < longest rows
longest-close i k h [] f l = absurd (omega arith)
longest-close i k h (r ∷ []) f l = omega (arith, close-length i f.0.0 h)
longest-close i k h (r ∷ s ∷ rows) f l = omega (arith, close-length i f.0.0 h, longest-close i k h (s ∷ rows) f.1 (omega arith))

-- a row with a place closed fits below its branch
pub fits_below : (i k : ℕ) → i < k → (r : List ℕ) → Fits 32 k r → Fits 32 (arity (root i r) + (k - 1)) (close i r)
fits_below i k h r f =
    let e : k ≡ suc (k - 1) = omega arith in
    let g = fits-close 31 (k - 1) i (omega arith) r (rw e at f) in
    (g.0, omega (arith, g.1))

module _ {t ss ms hs p : List ℕ} {first last named k at : ℕ} (w : Ready t ss ms hs p first last named k at) where
  abbrev rows : List (List ℕ)
  rows = rows_in t ss ms first last

  abbrev fs : List Bool
  fs = flags_in k named

  pub few-open : k ≤ 32
  few-open = let f = rw (rows-first t ss ms first last w.row) at w.rows in omega (arith, terms-long f.0.0)

  some-row : 0 < length rows
  some-row = omega (arith, rows-length t ss ms (last - first) first, w.row)

  -- masks and column are as they were
  untouched : {r : Step} → state_from 32 fs k rows at (drop at p) ≡ said_by p r → Inside p at r → Done t ss ms hs ms hs p first last named k at r
  untouched s i = record { says = s; inside = i; masks = same_self last ms; column = same_self last hs }

  -- one row
  module _ (one : last - first ≡ 1) where
    one-row : rows ≡ row_at t ss ms first ∷ []
    one-row =
        let e : last ≡ first + 1 = omega arith in
        rows-first t ss ms first last w.row ∙ rw e (ap (λ (l : List (List ℕ)). row_at t ss ms first ∷ l) (rows_none t ss ms (first + 1)))

    pub fits-alone : Fits 32 k (row_at t ss ms first)
    fits-alone = (rw one-row at w.rows).0

    pub done-alone : {r : Step} → named ≡ 0 → AloneDone t (get_or ss first 0) (get_or ms first 0) p k at r → Done t ss ms hs ms hs p first last named k at r
    done-alone e d =
        let n : Free fs k = rw e (no_place (zero_flags k)) in
        untouched (state-plain 32 fs k n rows at (drop at p) ∙ rw one-row d.says) d.inside

  -- a leaf
  pub done-leaf : {r : Step} → k ≡ 0 → LeafDone p (last - first) 0 at r → Done t ss ms hs ms hs p first last named k at r
  done-leaf e d =
      untouched (state-leaf 32 fs k rows at (drop at p) e ∙ rw (rows-length t ss ms (last - first) first) d.says) (d.inside at (omega arith))

  -- an inner state: ENDS, OPEN, ENDS at its second cell, EDGES, or its branches
  module _ (l : 0 < k) where
    abbrev as-node : state_from 32 fs k rows at (drop at p) ≡ node_from (state_from 32) fs (k - 1) rows at (drop at p)
    as-node = state-again 32 fs k rows w.rows some-row l at (drop at p)

    refused : {f : Refusal} (x : Refused) → node_from (state_from 32) fs (k - 1) rows at (drop at p) ≡ refuse x → told f ≡ x
        → Done t ss ms hs ms hs p first last named k at (Err f)
    refused x e q = untouched (as-node ∙ e ∙ rw q) tt

    pub done-ends : {f : Refusal} → length p ≤ at → told f ≡ bad_plan reason.Ends at → Done t ss ms hs ms hs p first last named k at (Err f)
    done-ends h = refused (bad_plan reason.Ends at) (node-ends (state_from 32) fs (k - 1) rows p at h)

    pub done-open : {f : Refusal} → at < length p → k ≤ get_or p at 0 → told f ≡ bad_plan reason.Open at
        → Done t ss ms hs ms hs p first last named k at (Err f)
    done-open h i = refused (bad_plan reason.Open at) (node-open (state_from 32) fs (k - 1) rows p at h (omega arith))

    -- whether the place may be chosen, by the code's test
    tested : get_or p at 0 < k → may fs (get_or p at 0) ≡ may_in named (get_or p at 0)
    tested i = sym (may-bits k (get_or p at 0) named i (omega (arith, few-open)) w.flags)

    pub done-early : {f : Refusal} → at < length p → get_or p at 0 < k → may_in named (get_or p at 0) ≡ false → told f ≡ bad_plan reason.Early at
        → Done t ss ms hs ms hs p first last named k at (Err f)
    done-early h i m = refused (bad_plan reason.Early at) (node-early (state_from 32) fs (k - 1) rows p at h (omega arith) (tested i ∙ m))

    module _ (i : get_or p at 0 < k) (m : may_in named (get_or p at 0) ≡ true) where
      allowed : may fs (get_or p at 0) ≡ true
      allowed = tested i ∙ m

      module _ {ms₁ hs₁ : List ℕ} (done : ClosedRows t ss ms hs ms₁ hs₁ (get_or p at 0) first (min last 64)) where
        abbrev c : Closes t ss ms hs ms₁ hs₁ (get_or p at 0) first last
        c = closes-of t ss ms hs (get_or p at 0) w.room.some w.room.few w.room.masks w.room.column done

        -- the rows are closed, and it is turned away
        closed-refused : {f : Refusal} (x : Refused) → node_from (state_from 32) fs (k - 1) rows at (drop at p) ≡ refuse x → told f ≡ x
            → Done t ss ms hs ms₁ hs₁ p first last named k at (Err f)
        closed-refused x e q = record { says = as-node ∙ e ∙ rw q; inside = tt; masks = c.masks; column = c.column }

        pub done-ends-2 : {f : Refusal} → at < length p → length p ≤ at + 1 → told f ≡ bad_plan reason.Ends (at + 1)
            → Done t ss ms hs ms₁ hs₁ p first last named k at (Err f)
        done-ends-2 h n = closed-refused (bad_plan reason.Ends (at + 1)) (node-ends-2 (state_from 32) fs (k - 1) rows p at h n (omega arith) allowed)

        number : (n : ℕ) → n ≡ run_count (column_in hs₁ first last) → n ≡ length (runs (get_or p at 0) rows)
        number n e =
            let z : last ≤ length hs₁ = omega (arith, c.column.size, w.room.column, w.room.few) in
            e ∙ sym (run-number t ss ms₁ hs₁ first last z) ∙ ap length (sym (runs_closed c))

        pub done-edges : {f : Refusal} (n : ℕ) → at + 1 < length p → n ≡ run_count (column_in hs₁ first last) → get_or p (at + 1) 0 ≢ n
            → told f ≡ bad_plan reason.Edges (at + 1) → Done t ss ms hs ms₁ hs₁ p first last named k at (Err f)
        done-edges n h e d =
            closed-refused (bad_plan reason.Edges (at + 1))
            (node-edges (state_from 32) fs (k - 1) rows p at h (omega arith) allowed
            (λ (x : get_or p (at + 1) 0 ≡ length (runs (get_or p at 0) rows)). d (x ∙ sym (number n e))))

        -- the rows are shorter, and fit, below each branch
        pub shorter : longest (rows_in t ss ms₁ first last) < longest rows
        shorter = rw c.rows (longest-close (get_or p at 0) k i rows w.rows some-row)

        more : k ≡ suc (k - 1)
        more = omega arith

        pub ready-branches : at + 1 < length p → ReadyIn t ss ms₁ hs₁ p first last named (get_or p at 0) (k - 1) (at + 2)
        ready-branches h = record {
          room = record {
            masks = c.masks.size ∙ w.room.masks;
            column = c.column.size ∙ w.room.column;
            here = omega arith;
            few = w.room.few;
            some = w.room.some;
          };
          runs = rw (runs_closed c) at fit;
          flags = rw (← more) w.flags;
          place = omega arith;
          opens = omega (arith, few-open);
        }
          where
            fit : All (λ (g : Run). All (Fits 32 (arity g.cell + (k - 1))) g.rows) (runs (get_or p at 0) rows)
            fit =
                group-all (root (get_or p at 0)) (close (get_or p at 0)) (Fits 32 k) (λ (c : ℕ). Fits 32 (arity c + (k - 1)))
                (fits_below (get_or p at 0) k i) rows w.rows

        pub done-node : {ms₂ hs₂ : List ℕ} {r : Step} (n : ℕ) → at + 1 < length p → n ≡ run_count (column_in hs₁ first last) → get_or p (at + 1) 0 ≡ n
            → DoneIn t ss ms₁ hs₁ ms₂ hs₂ p first last named (get_or p at 0) (k - 1) (at + 2) r → Done t ss ms hs ms₂ hs₂ p first last named k at r
        done-node {r = r} n h e d b = record {
          says = as-node ∙ node-on (state_from 32) fs (k - 1) rows p at h (omega arith) allowed (d ∙ number n e) ∙ rw (runs_closed c) (rw (← more) at b.says);
          inside = up r b.inside;
          masks = same_then last c.masks b.masks;
          column = same_then last c.column b.column;
        }
          where
            up : (r : Step) → Inside p (at + 2) r → Inside p at r
            up (Ok s) i = (omega arith, i.1)
            up (Err f) i = tt
