-- A record that holds a table: its table's part is that table's cells, and what it keeps is right for them.
use Rattle.std.specs.Prelude.{Result}
use Rattle.builder.specs.declared.BuiltPlan.{BuiltPlan}
use Rattle.refusal.specs.declared.Refusal.{Refusal}
use mathlib.Core.Path.{◌≡◌, refl, sym, ap, subst, ◌∙◌}
use mathlib.Core.Logic.{inl, inr}
use mathlib.Core.List.{List, []}
use Prim.Native.Nat.{ℕ, ◌-◌, ◌≤◌, ◌<◌}
use native.Mathlib.Omega.{arith}
use lib.ListN.{length, take, drop, length-drop}
use lib.Seq.{take-length}
use Rattle.refusal.specs.Read.{Read, read}
use Rattle.table.specs.Table.{Table, table_of, TableReads}
use Rattle.std.specs.Prelude.{Result}
use Rattle.refusal.specs.declared.Refusal.{Refusal}
use Rattle.table.specs.declared.TableRead.{TableRead}
use Rattle.table.proofs.ReadLaws.{read_one}
use Rattle.table.proofs.Accepted.{is-table}
use Rattle.state.specs.Flags.{flags_in, mask_from, past_from}
use Rattle.state.specs.declared.flags.Named.{Named}
use Rattle.least.specs.Least.{Least}
use Rattle.least.specs.Measures.{work, table_by}
use Rattle.least.specs.declared.By.{By}
use Rattle.least.specs.declared.By.TheVariants.{Work}
use Rattle.least.proofs.Measured.{by-table}
use Rattle.least.proofs.NoneNamed.{free-least}
use Rattle.record.specs.Record.{cells_in, Costs, no_rows, some-rows, Holds, table_in}
use Rattle.record.proofs.PartLaws.{table-in}
use Rattle.paircosts.proofs.PlainLaws.{plain-free, zero-free, free-entry}
use Rattle.builder.specs.code.Writing.{KeptOf, Right}
use Rattle.builder.specs.Build.{BuiltInto}
use Rattle.builder.proofs.BuildLaws.{all-rows}

-- the part of a record from 2,052 on, as the code takes it
abbrev kept_in : List ℕ → List ℕ
kept_in rec = take (length rec - 2052) (drop 2052 rec)

-- no column, as the code has it
abbrev unnamed : Named
unnamed = record { mask = 0; past = 0 }

all-kept : (rec : List ℕ) → kept_in rec ≡ drop 2052 rec
all-kept rec = rw (← (length-drop 2052 rec)) (take-length (drop 2052 rec))

module _ {rec : List ℕ} {figure : ℕ} {T : Table} (x : Holds rec figure T) where
  many : (0 < length T.rows) × (length T.rows ≤ 64)
  many = let c = (is-table (cells_in T) x.accepted).count in (omega arith, omega arith)

  least-all : {cost : ℕ} → Costs (work figure) T.width T.rows 0 (length T.rows - 1) cost
      → Least (work figure) [] T.width T.rows cost
  least-all (no_rows (inl l)) = absurd (omega arith)
  least-all (no_rows (inr l)) = absurd (omega (arith, many))
  least-all (some-rows h l e) = rw (all-rows T.rows many.0) at e

  -- no column is named, so that it is right for flags of which none stands
  kept_here : KeptOf (work figure) (flags_in T.width 0) T (drop 2052 rec)
  kept_here =
      let w = T.width in
      record {
        least = free-least (work figure) [] (flags_in w 0) (plain-free w) (zero-free w)
            (least-all (x.kept.costs 0 (length T.rows - 1) (omega arith) (omega (arith, many))));
        entries = λ first last o l.
            free-entry [] (flags_in w 0) (plain-free w) (zero-free w) (x.kept.entry first last (omega (arith, many)) (omega (arith, many)));
      }

  -- what reading its table answers is what is asked by its figure, so what is built from it is what is built for the table
  module _ {t : List ℕ} (e : t ≡ table_in rec) {r : Result TableRead Refusal} (a : TableReads (table_of t) r) where
    low : table_by (Work figure) t ≡ table_of t
    low = by-table (Work figure) t x.low

    here : table_by (Work figure) t ≡ read T
    here = low ∙ ap table_of (e ∙ table-in x) ∙ x.accepted

    record-right : Right (Work figure) [] t r unnamed (kept_in rec)
    unfolding mask_from past_from
    record-right = record {
      reads = subst (λ (y : Read Table). TableReads y r) (sym low) a;
      mask = refl;
      past = refl;
      kept_of = λ T' q. subst (λ (y : Table). KeptOf (work figure) (flags_in y.width 0) y (kept_in rec)) (read_one (sym here ∙ q))
          (rw (all-kept rec) kept_here);
    }

    pub built-from : {room room' : List ℕ} {answer : Result BuiltPlan Refusal}
        → ((by : By) (columns : List ℕ) → Right by columns t r unnamed (kept_in rec) → BuiltInto by columns t room room' answer)
        → BuiltInto (Work figure) [] (cells_in T) room room' answer
    built-from {room} {room'} {answer} b =
        subst (λ (cells : List ℕ). BuiltInto (Work figure) [] cells room room' answer) (e ∙ table-in x) (b (Work figure) [] record-right)
