-- Two results that a promise allows are equal, for every public function of the crate.
use mathlib.Core.Path.{◌≡◌, sym, ◌∙◌}
use Prim.Native.Nat.{ℕ}
use Rattle.cell.specs.Cell.{values_at, values_of}
use Rattle.cell.specs.declared.Shape.{Shape}
use Rattle.cell.proofs.CellLaws.{values_of-one}

-- kind, args, number, middle, variable_cell, name_cell, number_cell, arity_of, and functions of other crates: the promise is an equation with what
-- the arguments give
pub given-fixed : {A : Type 0} {x r s : A} → r ≡ x → s ≡ x → r ≡ s
given-fixed p q = p ∙ sym q

-- shape_of: the promise gives 01's values, which tell the cases apart
pub shape-fixed : (c : ℕ) {r s : Shape} → values_of r ≡ values_at c → values_of s ≡ values_at c → r ≡ s
shape-fixed c p q = values_of-one (p ∙ sym q)
