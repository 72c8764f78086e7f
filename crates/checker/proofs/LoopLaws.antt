-- The branches of a state: what one turn of the loop over them makes of the reading.
use mathlib.Core.Path.{◌≡◌, refl, sym, ap, ◌∙◌}
use mathlib.Core.Logic.{◌≢◌}
use mathlib.Core.List.{List, []}
use Prim.Native.Nat.{ℕ, suc, ◌+◌, ◌-◌, ◌≤◌, ◌<◌}
use native.Mathlib.Omega.{arith}
use lib.ListN.{length, get_or, drop}
use Rattle.cell.specs.Cell.{arity}
use Rattle.cell.proofs.CellLaws.{arity-small}
use Rattle.refusal.specs.Refusal.{Refused, told}
use Rattle.refusal.specs.declared.Reason.TheVariants as reason
use Rattle.refusal.specs.Read.{read, refuse}
use Rattle.refusal.specs.declared.Refusal.{Refusal}
use Rattle.plan.specs.Named.{spread}
use Rattle.plan.specs.Runs.{Run, run}
use Rattle.plan.specs.Check.{seen, bad_plan, branches_from, state_from}
use Rattle.state.specs.Column.{run_length}
use Rattle.state.specs.Flags.{flags_in, spread_of}
use Rattle.state.specs.States.{rows_in, column_in, runs_in, Same}
use Rattle.checker.specs.code.Steps.{Step, said_by, Ready, ReadyIn, Done, DoneIn}
use Rattle.std.proofs.Common.{Ok, Err}
use Rattle.checker.specs.declared.check.Seen as code
use Rattle.plan.proofs.ReadingLaws.{after, after_none, after-after, branches-ends, branches-label, branches-refused, branches-on}
use Rattle.state.proofs.FlagsLaws.{flags-below, few-below}
use Rattle.state.proofs.RowsLaws.{rows-kept, FirstRun, run-first, same_self, same_then, same-later}
use Rattle.checker.proofs.StateLaws.{longest, longest-take, longest-drop}

-- The loop over the branches. Rows from first to before row are done: what is left of the work, from row and place on, is all of it, but for the
-- branches counted so far. The lists are those where the loop begins, and as they are now.
pub record Going (t ss p ms hs : List ℕ) (first last named i k at : ℕ) (ms₁ hs₁ : List ℕ) (row place count : ℕ) : Type 0 where
  pub ready : ReadyIn t ss ms₁ hs₁ p row last named i k place
  pub deep : longest (rows_in t ss ms₁ row last) ≤ longest (rows_in t ss ms first last)
  pub few : at + count ≤ place
  pub masks : Same last ms ms₁
  pub column : Same last hs hs₁
  pub says : after count (branches_from (state_from 32) (flags_in (suc k) named) i k (runs_in t ss ms₁ hs₁ row last) place (drop place p))
      ≡ branches_from (state_from 32) (flags_in (suc k) named) i k (runs_in t ss ms hs first last) at (drop at p)

pub going_start : {t ss ms hs p : List ℕ} {first last named i k at : ℕ} → ReadyIn t ss ms hs p first last named i k at
    → Going t ss p ms hs first last named i k at ms hs first at 0
going_start {t} {ss} {ms} {hs} {p} {first = first} {last} {named} {i} {k} {at} w = record {
  ready = w;
  deep = omega arith;
  few = omega arith;
  masks = same_self last ms;
  column = same_self last hs;
  says = after_none (branches_from (state_from 32) (flags_in (suc k) named) i k (runs_in t ss ms hs first last) at (drop at p));
}

module _ {t ss p ms hs : List ℕ} {first last named i k at : ℕ} {ms₁ hs₁ : List ℕ} {row place count : ℕ}
    (g : Going t ss p ms hs first last named i k at ms₁ hs₁ row place count) where
  abbrev left : List Run
  left = runs_in t ss ms₁ hs₁ row last

  -- what is left is turned away
  going-refused : {ms₂ hs₂ : List ℕ} {f : Refusal} (x : Refused)
      → branches_from (state_from 32) (flags_in (suc k) named) i k left place (drop place p) ≡ refuse x → told f ≡ x
      → Same last ms₁ ms₂ → Same last hs₁ hs₂ → DoneIn t ss ms hs ms₂ hs₂ p first last named i k at (Err f)
  going-refused x e q a b = record {
    says = sym g.says ∙ rw (e, q);
    inside = tt;
    masks = same_then last g.masks a;
    column = same_then last g.column b;
  }

  -- no row is left
  pub going_done : last ≤ row → DoneIn t ss ms hs ms₁ hs₁ p first last named i k at (Ok (record { branches = count; next = place }))
  going_done h =
      let e : last - row ≡ 0 = omega arith in
      let none : left ≡ [] = rw e in
      let z : count + 0 ≡ count = omega arith in
      record {
        says = sym (rw none at g.says) ∙ ap (λ (b : ℕ). read (seen b place (drop place p))) z;
        inside = (g.few, g.ready.room.here);
        masks = g.masks;
        column = g.column;
      }

  -- a row is left: ENDS, LABEL
  module _ (h : row < last) where
    abbrev size : ℕ
    size = run_length (column_in hs₁ row last)

    first-left : FirstRun t ss ms₁ hs₁ row last size
    first-left = run-first t ss ms₁ hs₁ row last size h (omega (arith, g.ready.room.column, g.ready.room.few)) refl

    abbrev first_run : Run
    first_run = run (get_or hs₁ row 0) (rows_in t ss ms₁ row (row + size))

    abbrev runs_after : List Run
    runs_after = runs_in t ss ms₁ hs₁ (row + size) last

    pub going-ends : {f : Refusal} → length p ≤ place → told f ≡ bad_plan reason.Ends place
        → DoneIn t ss ms hs ms₁ hs₁ p first last named i k at (Err f)
    going-ends l q =
        let e = branches-ends (state_from 32) (flags_in (suc k) named) i k first_run runs_after p place l in
        going-refused (bad_plan reason.Ends place) (rw first-left.runs e) q (same_self last ms₁) (same_self last hs₁)

    pub going-label : {f : Refusal} → place < length p → get_or p place 0 ≢ get_or hs₁ row 0 → told f ≡ bad_plan reason.Label place
        → DoneIn t ss ms hs ms₁ hs₁ p first last named i k at (Err f)
    going-label l d q =
        let e = branches-label (state_from 32) (flags_in (suc k) named) i k first_run runs_after p place l d in
        going-refused (bad_plan reason.Label place) (rw first-left.runs e) q (same_self last ms₁) (same_self last hs₁)

-- One turn: a branch's cell is there and is the first row's, and n rows are its run.
pub record Turn (t ss p ms hs : List ℕ) (first last named i k at : ℕ) (ms₁ hs₁ : List ℕ) (row place count n : ℕ) : Type 0 where
  pub going : Going t ss p ms hs first last named i k at ms₁ hs₁ row place count
  pub here : place < length p
  pub label : get_or p place 0 ≡ get_or hs₁ row 0
  pub run : FirstRun t ss ms₁ hs₁ row last n

pub turn-of : {t ss p ms hs : List ℕ} {first last named i k at : ℕ} {ms₁ hs₁ : List ℕ} {row place count : ℕ} (n : ℕ)
    → Going t ss p ms hs first last named i k at ms₁ hs₁ row place count → row < last → place < length p → get_or p place 0 ≡ get_or hs₁ row 0
    → n ≡ run_length (column_in hs₁ row last) → Turn t ss p ms hs first last named i k at ms₁ hs₁ row place count n
turn-of {t} {ss} {last = last} {ms₁ = ms₁} {hs₁} {row = row} n g h l d e = record {
  going = g;
  here = l;
  label = d;
  run = run-first t ss ms₁ hs₁ row last n h (omega (arith, g.ready.room.column, g.ready.room.few)) e;
}

module _ {t ss p ms hs : List ℕ} {first last named i k at : ℕ} {ms₁ hs₁ : List ℕ} {row place count n : ℕ}
    (w : Turn t ss p ms hs first last named i k at ms₁ hs₁ row place count n) where
  abbrev g : Going t ss p ms hs first last named i k at ms₁ hs₁ row place count
  g = w.going

  abbrev r : FirstRun t ss ms₁ hs₁ row last n
  r = w.run

  abbrev c : ℕ
  c = get_or hs₁ row 0

  abbrev one : Run
  one = run c (rows_in t ss ms₁ row (row + n))

  abbrev others : List Run
  others = runs_in t ss ms₁ hs₁ (row + n) last

  -- the flags below the branch
  abbrev down : ℕ
  down = spread_of named i (arity c)

  few-args : arity c < 5
  few-args = omega (arith, arity-small c)

  -- the state below the branch: its rows fit, and are no longer than all were
  pub ready-below : Ready t ss ms₁ hs₁ p row (row + n) down (arity c + k) (place + 1)
  ready-below = record {
    room = record {
      masks = g.ready.room.masks;
      column = g.ready.room.column;
      here = omega (arith, w.here);
      few = omega (arith, r.few, g.ready.room.few);
      some = omega arith;
    };
    row = omega (arith, r.some);
    rows = (rw r.runs at g.ready.runs).0;
    flags = few-below named i (arity c) k g.ready.flags g.ready.opens g.ready.place few-args;
  }

  pub shorter-below : longest (rows_in t ss ms₁ row (row + n)) ≤ longest (rows_in t ss ms first last)
  shorter-below = omega (arith, g.deep, ap longest r.front, longest-take n (rows_in t ss ms₁ row last))

  module _ {ms₂ hs₂ : List ℕ} {s : Step} (a : Done t ss ms₁ hs₁ ms₂ hs₂ p row (row + n) down (arity c + k) (place + 1) s) where
    says-below : state_from 32 (spread i (arity c) (flags_in (suc k) named)) (arity c + k) one.rows (place + 1) (drop (place + 1) p) ≡ said_by p s
    says-below = rw (flags-below named i (arity c) k g.ready.flags g.ready.opens g.ready.place few-args) at a.says

    -- it is turned away
    pub turn-refused : {f : Refusal} → s ≡ Err f → DoneIn t ss ms hs ms₂ hs₂ p first last named i k at (Err f)
    turn-refused {f} e =
        going-refused g (told f) (rw r.runs (branches-refused (state_from 32) (flags_in (suc k) named) i k one others p place (told f) w.here
        w.label (says-below ∙ ap (said_by p) e))) refl
        (same-later (row + n) last r.few a.masks)
        (same-later (row + n) last r.few a.column)

    -- it is read: on with the runs after it
    module _ {z : code.Seen} (e : s ≡ Ok z) where
      -- the place after it, and its branches, are within the plan
      pub turn-next : (place + 1 + z.branches ≤ z.next) × (z.next ≤ length p)
      turn-next = rw e at a.inside

      others-kept : runs_in t ss ms₂ hs₂ (row + n) last ≡ others
      others-kept = rw (a.column.after, rows-kept t ss ms₁ ms₂ (last - (row + n)) (row + n) a.masks.after)

      ready-next : ReadyIn t ss ms₂ hs₂ p (row + n) last named i k z.next
      ready-next = record {
        room = record {
          masks = a.masks.size ∙ g.ready.room.masks;
          column = a.column.size ∙ g.ready.room.column;
          here = turn-next.1;
          few = g.ready.room.few;
          some = r.few;
        };
        runs = rw others-kept (rw r.runs at g.ready.runs).1;
        flags = g.ready.flags;
        place = g.ready.place;
        opens = g.ready.opens;
      }

      says-next : after (count + (1 + z.branches)) (branches_from (state_from 32) (flags_in (suc k) named) i k (runs_in t ss ms₂ hs₂ (row + n) last) z.next (drop z.next p))
          ≡ branches_from (state_from 32) (flags_in (suc k) named) i k (runs_in t ss ms hs first last) at (drop at p)
      says-next =
          let q : count + (1 + z.branches) ≡ count + (z.branches + 1) = omega arith in
          let on = branches-on (state_from 32) (flags_in (suc k) named) i k one others p place (seen z.branches z.next (drop z.next p)) w.here w.label
          (says-below ∙ ap (said_by p) e) in
          rw (others-kept, q)
          (sym (after-after count (z.branches + 1) (branches_from (state_from 32) (flags_in (suc k) named) i k others z.next (drop z.next p))) ∙ ap (after count) (sym on)
          ∙ (rw r.runs at g.says))

      pub turn_on : Going t ss p ms hs first last named i k at ms₂ hs₂ (row + n) z.next (count + (1 + z.branches))
      turn_on = record {
        ready = ready-next;
        deep = omega (
          arith,
          g.deep,
          ap longest (rows-kept t ss ms₁ ms₂ (last - (row + n)) (row + n) a.masks.after),
          ap longest r.back,
          longest-drop n (rows_in t ss ms₁ row last),
        );
        few = omega (arith, g.few, turn-next);
        masks = same_then last g.masks (same-later (row + n) last r.few a.masks);
        column = same_then last g.column (same-later (row + n) last r.few a.column);
        says = says-next;
      }
