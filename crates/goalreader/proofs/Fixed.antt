-- Two results that a promise allows are equal, for every public function of the crate. The promises of peek, place, left, cell_at and cells_left are
-- equations with what the arguments give: two such results are equal as two things are that equal a third (`given-fixed` of crate cell).
use mathlib.Core.Path.{◌≡◌, sym, ◌∙◌}
use mathlib.Core.List.{List}
use Prim.Native.Nat.{ℕ}
use denote.Ref.{Bor}
use Rattle.goalreader.specs.declared.Reader.{Reader}

-- reader_at, taken: the promise gives both fields, the slice with its pointer and its cells, and the place
pub reader-fixed : {r s : Reader} {cells : Bor (List ℕ)} {at : ℕ} → (r.cells ≡ cells) × (r.at ≡ at) → (s.cells ≡ cells) × (s.at ≡ at) → r ≡ s
reader-fixed p q = λ i. record { cells = (p.0 ∙ sym q.0) i; at = (p.1 ∙ sym q.1) i }
