-- Any bytes have one listing, and what is written of it is fixed: how many bytes, and every byte of the room.
use mathlib.Core.Path.{◌≡◌, refl, sym, ap, path_j, ◌∙◌}
use mathlib.Core.List.{List, []}
use Prim.Native.Nat.{ℕ}
use native.Mathlib.Omega.{arith}
use Rattle.table.specs.Table.{Table}
use Rattle.table.proofs.ReadLaws.{apart, read_one}
use Rattle.plan.specs.Plans.{Plan, plain}
use Rattle.least.specs.Least.{Built}
use Rattle.least.proofs.Building.{built-one}
use Rattle.printing.specs.Printing.{Written}
use Rattle.printing.proofs.Fixed.{written-fixed}
use Rattle.listing.specs.Listing.{listing_of, ListsTable, refused, listed, Lists, no_cells, cells}

listing-one : (T : Table) (p : Plan T.width T.rows) → Built plain [] p → (T' : Table) → T ≡ T' → (q : Plan T'.width T'.rows) → Built plain [] q
    → listing_of T p ≡ listing_of T' q
listing-one T p b T' e =
    path_j
    (λ (T' : Table) (e : T ≡ T'). (q : Plan T'.width T'.rows) → Built plain [] q → listing_of T p ≡ listing_of T' q)
    (λ q c. ap (listing_of T) (built-one plain [] p q b c))
    e

table-one : (t : List ℕ) {x y : List ℕ} → ListsTable t x → ListsTable t y → x ≡ y
table-one t (refused f e) (refused g d) = let s : f ≡ g = cc in rw s
table-one t (refused f e) (listed T p d b) = apart (sym d ∙ e)
table-one t (listed T p e b) (refused f d) = apart (sym e ∙ d)
table-one t (listed T p e b) (listed T' q d c) = listing-one T p b T' (read_one (sym e ∙ d)) q c

-- any bytes have one listing
pub lists-one : (bytes : List ℕ) {x y : List ℕ} → Lists bytes x → Lists bytes y → x ≡ y
lists-one bytes (no_cells u) (no_cells v) = refl
lists-one bytes (no_cells u) (cells v l) = let z : ◌≡◌ {A = ℕ} 0 1 = cc in absurd (omega arith)
lists-one bytes (cells u l) (no_cells v) = let z : ◌≡◌ {A = ℕ} 0 1 = cc in absurd (omega arith)
lists-one bytes (cells u l) (cells v m) = table-one _ l m

-- two results that `list_table` allows are equal
pub written_one : (bytes room : List ℕ) {room' room'' : List ℕ} {m n : ℕ} → Written (Lists bytes) room room' m → Written (Lists bytes) room room'' n
    → (m ≡ n) × (room' ≡ room'')
written_one bytes room = written-fixed (λ x y a b. lists-one bytes a b)
