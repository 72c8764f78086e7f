-- The way from any cells to what is put: an accepted plan is a tree for the table's rows, and the walk may begin; or the refusal is the check's.
use Prim.Native.Nat.{ℕ, ◌≤◌, ◌<◌}
use Rattle.std.proofs.Common.{Result, Err}
use mathlib.Core.Path.{◌≡◌, refl, sym, ◌∙◌, ap}
use mathlib.Core.List.{List, [], append-nil}
use native.Mathlib.Omega.{arith}
use lib.ListN.{length, get_or}
use Rattle.std.specs.Prelude.{Ok, Err}
use Rattle.refusal.specs.Refusal.{Refused, told}
use Rattle.refusal.specs.declared.Refusal.{Refusal}
use Rattle.refusal.specs.Read.{Read, read, refuse, and_then}
use Rattle.table.specs.Table.{Table, table_of, Head}
use Rattle.table.proofs.ReadLaws.{refuse-one}
use Rattle.table.proofs.AllLaws.{all-each}
use Rattle.table.proofs.Accepted.{table-accepted}
use Rattle.plan.specs.Plans.{write}
use Rattle.plan.specs.Check.{plan_for, plan_of}
use Rattle.plan.proofs.SizeLaws.{size-bound}
use Rattle.plan.proofs.CheckLaws.{accepted-one, rows_fit}
use Rattle.checker.specs.Checked.{plan_says, plan_told}
use Rattle.checker.proofs.Accepts.{PlanFor}
use Rattle.checker.proofs.SaidLaws.{said-refused}
use Rattle.octets.specs.Octets.{Put}
use Rattle.clauses.specs.Program.{program}
use Rattle.clauses.specs.Handed.{hand_of}
use Rattle.clauses.proofs.SeatLaws.{Seat, seat-row}
use Rattle.unfolding.specs.Flat.{flat}
use Rattle.unfolding.specs.Unfolds.{Unfolds, refusal, made}
use Rattle.unfolding.specs.code.Visits.{Peopled}
use Rattle.unfolding.proofs.VisitLaws.{all-fills}

-- THE PLAN IS ACCEPTED
module _ {t p : List ℕ} {b : ℕ} (x : PlanFor t p b) where
  -- the table's first cell is its width
  pub width_read : (0 < length t) × (get_or t 0 0 ≡ x.table.width) × (0 < get_or t 0 0) × (get_or t 0 0 ≤ 8)
  width_read =
      let c = x.is.cells in
      let e : get_or t 0 0 ≡ x.table.width = ap (λ (l : List ℕ). get_or l 0 0) c in
      (omega (arith, ap length c), e, omega (arith, e, x.is.width), omega (arith, e, x.is.width))

  -- the first state
  unfoldable pub first-state : Peopled p 0 (get_or t 0 0)
  first-state =
      let w = x.table.width in
      let rows = x.table.rows in
      record {
        stands = record {
          k = w;
          rows = rows;
          tree = x.tree;
          rest = [];
          open-places = width_read.1;
          cells = sym x.cells ∙ sym (append-nil (write x.tree));
          wide = omega (arith, width_read);
          size = omega (arith, ap length x.cells, size-bound x.tree (rows_fit w rows x.is.each) x.is.count.0 x.is.count.1);
        };
        some = x.is.count.0;
        fills = all-fills w rows (all-each (Head w) (Seat w) (seat-row w) rows x.is.each);
      }

  handed-table : hand_of t p ≡ read x.table
  unfolding hand_of
  handed-table =
      let T = x.table in
      let g = (table-accepted t T.width T.rows).1 x.is in
      let a = (accepted-one T x.is p b).1 (x.tree, x.cells, x.count, x.only) in
      rw (g, a)

  pub made-whole : {room room' : List ℕ} {n : ℕ} → ((w : Peopled p 0 (get_or t 0 0)) → Put room room' 0 (flat (program w.stands.tree)) n)
      → Unfolds t p room room' (Ok n)
  unfolding first-state
  made-whole {n = n} f = made x.table x.tree n handed-table (sym x.cells) refl (f first-state)

-- THE TABLE OR THE PLAN IS TURNED AWAY
hand-refused : (t p : List ℕ) (f : Refused) → plan_of t p ≡ refuse f → hand_of t p ≡ refuse f
unfolding hand_of
hand-refused t p f e = go (table_of t) e
  where
    go : (r : Read Table) → and_then r (λ (T : Table). plan_for T p) ≡ refuse f
        → and_then r (λ (T : Table). and_then (plan_for T p) (λ (branches : ℕ). read T)) ≡ refuse f
    go (read T) e = rw e
    go (refuse g) e = ap refuse (refuse-one e)

pub turned-away : (t p room : List ℕ) {r : Result ℕ Refusal} → plan_told r ≡ plan_says (plan_of t p) → {f : Refusal} → r ≡ Err f
    → Unfolds t p room room (Err f)
turned-away t p room promise {f} e =
    refusal f (hand-refused t p (told f) (said-refused (plan_of t p) promise e)) refl refl
