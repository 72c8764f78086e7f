-- What is read where a plan is asked for named columns: FIGURE and the table's refusals, then COLUMN exactly where some number of the list
-- is not below the width.
use mathlib.Core.Path.{◌≡◌, refl, sym}
use mathlib.Core.Bool.{Bool, true, false}
use mathlib.Core.List.{List, []}
use Prim.Native.Nat.{ℕ}
use Rattle.refusal.specs.Refusal.{Refused, refused}
use Rattle.refusal.specs.declared.Reason.TheVariants as reason
use Rattle.refusal.specs.declared.Input.TheVariants as input
use Rattle.refusal.specs.Read.{Read, read, refuse, and_then}
use Rattle.table.specs.Table.{Table}
use Rattle.table.proofs.ReadLaws.{apart, read_one}
use Rattle.plan.specs.Named.{any_past}
use Rattle.plan.specs.Check.{columns_for}
use Rattle.least.specs.Measures.{table_by}
use Rattle.least.specs.declared.By.{By}
use Rattle.builder.specs.Build.{table_for}

-- COLUMN (02, W-213)
abbrev pub column : Refused
column = refused reason.Column input.Columns 0

module _ (by : By) (columns t : List ℕ) where
  -- one of three
  pub data Asked : Read Table → Type 0 where
    turned-away : {f : Refused} → table_by by t ≡ refuse f → Asked (refuse f)
    past-width : {T : Table} → table_by by t ≡ read T → any_past T.width columns ≡ true → Asked (refuse column)
    is-asked : {T : Table} → table_by by t ≡ read T → any_past T.width columns ≡ false → Asked (read T)

  pub asked : Asked (table_for by columns t)
  unfolding table_for
  asked = go (table_by by t) refl
    where
      test : (T : Table) → table_by by t ≡ read T → (b : Bool) → any_past T.width columns ≡ b
          → Asked (and_then (columns_for T columns) (λ (named : List Bool). read T))
      test T e true p = rw p (past-width e p)
      test T e false p = rw p (is-asked e p)

      go : (r : Read Table) → table_by by t ≡ r → Asked (and_then r (λ (T : Table). and_then (columns_for T columns) (λ (named : List Bool). read T)))
      go (read T) e = test T e (any_past T.width columns) refl
      go (refuse f) e = turned-away e

  -- the same the other way round
  pub for-refused : {f : Refused} → table_by by t ≡ refuse f → table_for by columns t ≡ refuse f
  unfolding table_for
  for-refused e = rw e

  module _ {T : Table} (e : table_by by t ≡ read T) where
    pub for-column : any_past T.width columns ≡ true → table_for by columns t ≡ refuse column
    unfolding table_for
    for-column p = rw (e, p)

    pub for-read : any_past T.width columns ≡ false → table_for by columns t ≡ read T
    unfolding table_for
    for-read p = rw (e, p)

  -- where a table is read so, it is the measure's, and no number is past its width
  pub read-for : {T : Table} → table_for by columns t ≡ read T → (table_by by t ≡ read T) × (any_past T.width columns ≡ false)
  read-for {T} e = go asked e
    where
      go : {r : Read Table} → Asked r → r ≡ read T → (table_by by t ≡ read T) × (any_past T.width columns ≡ false)
      go (turned-away x) q = apart (sym q)
      go (past-width x p) q = apart (sym q)
      go (is-asked x p) q = rw (← (read_one q)) (x, p)

-- W-213, with no column named: what the measure asks
pub plain-table : (by : By) (t : List ℕ) → table_for by [] t ≡ table_by by t
unfolding table_for
plain-table by t = go (table_by by t)
  where
    go : (r : Read Table) → and_then r (λ (T : Table). and_then (columns_for T []) (λ (named : List Bool). read T)) ≡ r
    go (read T) = refl
    go (refuse f) = refl
