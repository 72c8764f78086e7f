-- The entry: from an accepted plan to its first state, and from what is noted to what is handed on.
use Prim.Native.Nat.{ℕ, ◌+◌, ◌≤◌, ◌<◌}
use Rattle.std.proofs.Common.{Result, Ok, Err}
use mathlib.Core.Path.{◌≡◌, refl, sym, ◌∙◌, ap}
use mathlib.Core.Logic.{◌≢◌}
use mathlib.Core.List.{List, [], ◌++◌, map, append-nil}
use native.Mathlib.Omega.{arith}
use lib.ListN.{length, get_or, drop}
use lib.Seq.{sets, sets-eq}
use Rattle.refusal.specs.Refusal.{Refused, told}
use Rattle.refusal.specs.declared.Refusal.{Refusal}
use Rattle.table.specs.Table.{up_from}
use Rattle.table.proofs.Accepted.{table-accepted, few-variables}
use Rattle.table.proofs.HeadLaws.{up-length}
use Rattle.plan.specs.Plans.{write, branches}
use Rattle.plan.specs.Check.{plan_of}
use Rattle.plan.specs.Notes.{notes, word}
use Rattle.plan.proofs.CheckLaws.{rows_fit}
use Rattle.plan.proofs.NotesLaws.{branches-few}
use Rattle.plan.proofs.SizeLaws.{size-bound}
use Rattle.plan.proofs.TwiceLaws.{table-cells}
use Rattle.checker.specs.Checked.{plan_says, plan_told}
use Rattle.checker.proofs.Accepts.{PlanFor}
use Rattle.checker.proofs.SaidLaws.{said-refused}
use Rattle.plannotes.specs.Noted.{NotedInto, noted, refused}
use Rattle.plannotes.specs.code.Places.{NoSlotTwice, Open}
use Rattle.plannotes.specs.code.Steps.{Low}
use Rattle.plannotes.specs.code.Tree.{Ready, StateDone, Accepted, AllNoted}
use Rattle.plannotes.specs.declared.branch.Past.{Past}
use Rattle.plannotes.proofs.TreeLaws.{words_count}
use Rattle.plannotes.proofs.PlacesLaws.{up_at, up-all, up_apart, up-path}
use Rattle.limits.specs.Limits.{most_branches}

-- the width's arguments stand open in the slots after the head
start : (w : ℕ) → w ≤ 8 → Open (up_from 1 64) 32 (up_from 1 w)
unfolding NoSlotTwice
start w h = record {
  path = up-path (up_from 1 64) 0 w (λ j l k. up_at 1 64 j (omega arith) ∙ omega arith);
  made = (omega arith, up-all (λ (x : ℕ). x < 32) 1 w (λ x k l. omega arith));
  apart = (up-all (λ (x : ℕ). 0 ≢ x) 1 w (λ x k l q. omega arith), up_apart 1 w);
  free = λ j l k. up_at 1 64 j k ∙ omega arith;
  size = up-length 1 64;
}

-- The first state.
module _ {plan links array : List ℕ} {width : ℕ} (w : Accepted plan array width) (e : links ≡ up_from 1 64) where
  pub first-state : Ready plan links array 0 width 0 32 0
  first-state =
      let f = rows_fit width w.rows w.is.each in
      let c = w.is.count in
      record {
        rows = w.rows;
        tree = w.tree;
        behind = [];
        cells = w.cells ∙ sym (append-nil (write w.tree));
        size = rw w.cells (size-bound w.tree f c.0 c.1);
        some = c.0;
        few = omega (arith, c.1);
        left = 32;
        deep = omega arith;
        fit = f;
        low = table-cells Low w.is (λ r h. few-variables h) w.tree;
        enough = omega (arith, w.is.width);
        slots = up_from 1 width;
        number = up-length 1 width;
        opens = rw e (start width w.is.width.1);
        room = omega (arith, branches-few w.is w.tree);
        array = w.array;
      }

  pub all_noted : {array' : List ℕ} {p : Past} → ((v : Ready plan links array 0 width 0 32 0) → StateDone v array' p) → AllNoted w array'
  unfolding first-state
  all_noted f = (f first-state).wrote

-- The plan is accepted.
module _ {t p : List ℕ} {b : ℕ} (x : PlanFor t p b) where
  -- the table's first two cells
  pub two_cells : (1 < length t) × (get_or t 0 0 ≡ x.table.width) × (get_or t 1 0 ≡ length x.table.rows)
  two_cells =
      let c = x.is.cells in
      (omega (arith, ap length c), ap (λ (l : List ℕ). get_or l 0 0) c, ap (λ (l : List ℕ). get_or l 1 0) c)

  module _ {array : List ℕ} (l : length array ≡ most_branches) where
    accepted-there : Accepted p array x.table.width
    accepted-there = record { table = t; rows = x.table.rows; is = x.is; tree = x.tree; cells = sym x.cells; array = l }

    pub accepted-plan : Accepted p array (get_or t 0 0)
    accepted-plan = rw two_cells.1 accepted-there

    pub handed-on : {array' : List ℕ} → ((w : Accepted p array (get_or t 0 0)) → AllNoted w array')
        → NotedInto t p array array' (record { answer = Ok b; width = get_or t 0 0; rows = get_or t 1 0 })
    unfolding accepted-there
    handed-on {array'} f =
        let w : ℕ = x.table.width in
        let W : List ℕ = map word (notes x.tree (up_from 1 w) 32 0) in
        let q : 0 + length W ≡ branches x.tree = omega (arith, words_count x.tree (up_from 1 w) 32 0) in
        let s : array' ≡ sets array 0 W = (rw two_cells.1 at f) accepted-there in
        noted x.table x.tree ((table-accepted t w x.table.rows).1 x.is) (sym x.cells) (ap Ok (sym x.count))
        two_cells.1 two_cells.2
        (s ∙ sets-eq W array 0 (omega (arith, branches-few x.is x.tree)) ∙ ap (λ (k : ℕ). W ++ drop k array) q)

-- The table or the plan is turned away.
pub turned-away : (t p array : List ℕ) {r : Result ℕ Refusal} → plan_told r ≡ plan_says (plan_of t p) → {f : Refusal} → r ≡ Err f
    → NotedInto t p array array (record { answer = Err f; width = 0; rows = 0 })
turned-away t p array promise {f} e = refused (told f) (said-refused (plan_of t p) promise e) refl refl refl refl
