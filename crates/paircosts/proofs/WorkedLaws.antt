-- What is answered: the array of a table that is read, and of one that is turned away.
use mathlib.Core.Path.{◌≡◌, refl, sym, ap, subst, ◌∙◌}
use mathlib.Core.Logic.{◌≢◌, inl, inr}
use mathlib.Core.Bool.{Bool}
use mathlib.Core.List.{List}
use Prim.Native.Nat.{ℕ, ◌≤◌, ◌<◌}
use native.Mathlib.Omega.{arith}
use lib.ListN.{length}
use Rattle.refusal.specs.Refusal.{Refused, told}
use Rattle.refusal.specs.declared.Refusal.{Refusal}
use Rattle.refusal.specs.Read.{Read, read, refuse}
use Rattle.plan.specs.Plans.{Measure}
use Rattle.state.specs.Flags.{flags_in}
use Rattle.state.specs.code.First.{TableRows}
use Rattle.state.proofs.FirstLaws.{table-rows}
use Rattle.table.specs.declared.TableRead.{TableRead}
use Rattle.std.specs.Prelude.{Result, Ok, Err}
use Rattle.table.specs.Table.{Table, TableReads}
use Rattle.table.proofs.Accepted.{is-table}
use Rattle.table.proofs.PartLaws.{says-read, says-turned}
use Rattle.table.proofs.ReadLaws.{apart, read_one}
use Rattle.least.specs.Measures.{measure_of, table_by}
use Rattle.least.specs.declared.By.{By}
use Rattle.least.proofs.Measured.{by-table, by_read}
use Rattle.paircosts.specs.Fill.{Unasked, KeptRight, Refilled, Fills}
use Rattle.paircosts.specs.code.Notes.{Long}
use Rattle.limits.specs.Limits.{kept_cells}

-- where a table is read for a measure, the figure is small and the table is one
module _ (by : By) (t : List ℕ) {r : Result TableRead Refusal} (a : TableReads (table_by by t) r) where
  pub figure-small : {x : TableRead} → r ≡ Ok x → (measure_of by).figure ≤ 15
  figure-small e = by_read by t (says-read (table_by by t) (subst (TableReads (table_by by t)) e a).answer).1

  pub rows-by : {x : TableRead} → r ≡ Ok x → TableRows t x.starts x.width x.rows
  rows-by e = table-rows t (subst (λ (x : Read Table). TableReads x r) (by-table by t (figure-small e)) a) e

  pub turned_by : {f : Refusal} → r ≡ Err f → table_by by t ≡ refuse (told f)
  turned_by e = says-turned (table_by by t) (subst (TableReads (table_by by t)) e a).answer

-- the array of a table that is read
refilled-width : (named : ℕ) {m : Measure} {w v top since : ℕ} {rows : List (List ℕ)} {old new : List ℕ} → w ≡ v
    → Refilled m (flags_in w named) w rows top since old new → Refilled m (flags_in v named) v rows top since old new
refilled-width named e f = rw (← e) f

refilled_same : (named : ℕ) {m : Measure} {T T' : Table} {top since : ℕ} {old new : List ℕ} → T ≡ T'
    → Refilled m (flags_in T.width named) T.width T.rows top since old new
    → Refilled m (flags_in T'.width named) T'.width T'.rows top since old new
refilled_same named {m} {top = top} {since} {old} {new} e f =
    subst (λ (X : Table). Refilled m (flags_in X.width named) X.width X.rows top since old new) e f

pub table_filled : (named : ℕ) {t ss : List ℕ} {w n top since : ℕ} {r : Result TableRead Refusal} {old new : List ℕ} (by : By) (k : TableRows t ss w n)
    → (measure_of by).figure ≤ 15
    → TableReads (table_by by t) r → length new ≡ length old → Long old → Refilled (measure_of by) (flags_in w named) w k.table.rows top since old new
    → Fills by named t top since old new r
table_filled named {t} by k h r size long f =
    let here : table_by by t ≡ read k.table = by-table by t h ∙ k.here in
    record {
      reads = r;
      size = size;
      turned-away = λ x e. apart (sym here ∙ e);
      other_length = λ n. absurd (n long);
      accepted = λ T e l. refilled_same named (read_one (sym here ∙ e)) (refilled-width named k.width f);
    }

-- of one that is turned away, and one of another length
pub none_filled : {by : By} {t : List ℕ} {x : Refused} {named top since : ℕ} {r : Result TableRead Refusal} {old : List ℕ} → table_by by t ≡ refuse x
    → TableReads (table_by by t) r → Fills by named t top since old old r
none_filled q r = record { reads = r; size = refl; turned-away = λ x e. refl; other_length = λ n. refl; accepted = λ T e l. apart (sym e ∙ q) }

pub other-filled : {by : By} {t : List ℕ} {named top since : ℕ} {r : Result TableRead Refusal} {old : List ℕ} → length old ≢ kept_cells → TableReads (table_by by t) r
    → Fills by named t top since old old r
other-filled n r = record { reads = r; size = refl; turned-away = λ x e. refl; other_length = λ n. refl; accepted = λ T e l. absurd (n l) }

-- where all pairs are asked for none is kept
pub all_asked : (by : By) (fs : List Bool) (t : List ℕ) {T : Table} {top : ℕ} {kept : List ℕ} → table_by by t ≡ read T → 64 ≤ top
    → KeptRight (measure_of by) fs T.width T.rows top 0 kept
all_asked by fs t {T} {top} {kept} e h = record { at = λ first last o i u. absurd (go first last o i u) }
  where
    few : length T.rows ≤ 64
    few = (is-table t (sym (by-table by t (by_read by t e)) ∙ e)).count.1

    go : (first last : ℕ) → first ≤ last → last < length T.rows → Unasked top 0 first last → ⊥
    go first last o i (inl u) = omega (arith, few)
    go first last o i (inr u) = omega arith
