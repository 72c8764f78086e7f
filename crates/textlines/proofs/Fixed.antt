-- For any bytes one text is printed, and what is written of it is fixed: how many bytes, and every byte of the room.
use mathlib.Core.Path.{◌≡◌, sym, ap, ◌∙◌}
use mathlib.Core.List.{List}
use Prim.Native.Nat.{ℕ}
use Rattle.refusal.specs.Read.{Read, read}
use Rattle.printing.specs.Printing.{Written}
use Rattle.printing.proofs.Fixed.{written-fixed}
use Rattle.table.specs.Table.{Table, table_of}
use Rattle.table.proofs.ReadLaws.{apart, read_one}
use Rattle.loading.specs.Load.{Loaded, Loads}
use Rattle.loading.proofs.Fixed.{load_is}
use Rattle.textlines.specs.Lines.{cell_room, name_room, lines_of, Prints, refused, printed}

same : (t : List ℕ) {o p : Read Loaded} → Loads t cell_room name_room o → Loads t cell_room name_room p → o ≡ p
same t l m = load_is t cell_room name_room l ∙ sym (load_is t cell_room name_room m)

lines-one : (x y : Loaded) → x ≡ y → {T S : Table} → table_of x.cells ≡ read T → table_of y.cells ≡ read S → lines_of x T ≡ lines_of y S
lines-one x y e {T} {S} p q =
    let s : T ≡ S = read_one (sym p ∙ ap (λ (z : Loaded). table_of z.cells) e ∙ q) in
    rw (e, s)

pub prints-one : (t : List ℕ) {a b : List ℕ} → Prints t a → Prints t b → a ≡ b
prints-one t (refused f l) (refused g m) = let e = same t l m in let s : f ≡ g = cc in rw s
prints-one t (refused f l) (printed y S m q) = apart (same t m l)
prints-one t (printed x T l p) (refused g m) = apart (same t l m)
prints-one t (printed x T l p) (printed y S m q) = lines-one x y (read_one (same t l m)) p q

-- two results that `list_text` allows are equal
pub printed-one : (t room : List ℕ) {room' room'' : List ℕ} {m n : ℕ} → Written (Prints t) room room' m → Written (Prints t) room room'' n
    → (m ≡ n) × (room' ≡ room'')
printed-one t room = written-fixed (λ x y a b. prints-one t a b)
