-- Two results that a promise allows are equal, for every public function of the crate.
use mathlib.Core.Path.{◌≡◌}
use mathlib.Core.List.{List}
use Prim.Native.Nat.{ℕ}
use Rattle.std.specs.Prelude.{Result}
use Rattle.refusal.specs.declared.Refusal.{Refusal}
use Rattle.table.specs.declared.TableSize.{TableSize}
use Rattle.table.specs.Table.{Table, table_told}
use Rattle.table.proofs.Fixed.{table_told-one}
use Rattle.record.specs.Edits.{WorkedOut, Edit, Edited}
use Rattle.record.proofs.Fixed.{worked-one, edited-one}

-- work_out
pub work-out-fixed : {figure : ℕ} {cells rec r s : List ℕ} {a b : Result TableSize Refusal}
    → WorkedOut figure cells rec r (table_told a) → WorkedOut figure cells rec s (table_told b) → (r ≡ s) × (a ≡ b)
work-out-fixed {a = a} {b} x y = let e = worked-one x y in (e.0, table_told-one a b e.1)

-- drop_last, append, replace: of a record that holds a table
pub edit-fixed : {e : Edit} {figure : ℕ} {T : Table} {rec r s : List ℕ} {a b : Result TableSize Refusal}
    → Edited e figure T rec r (table_told a) → Edited e figure T rec s (table_told b) → (r ≡ s) × (a ≡ b)
edit-fixed {a = a} {b} x y = let e = edited-one x y in (e.0, table_told-one a b e.1)
