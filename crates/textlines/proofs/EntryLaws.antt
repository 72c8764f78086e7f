-- From the entry's answer to what is written.
use mathlib.Core.Path.{◌≡◌, refl, sym, ap, ◌∙◌}
use mathlib.Core.List.{List, ◌++◌}
use Prim.Native.Nat.{ℕ, ◌+◌, ◌≤◌}
use native.Mathlib.Omega.{arith}
use lib.ListN.{length, take, drop, length-append}
use lib.Seq.{take_at}
use Rattle.refusal.specs.Refusal.{told, answered, turned}
use Rattle.refusal.specs.Read.{Read, read, refuse}
use Rattle.refusal.specs.declared.Refusal.{Refusal}
use Rattle.printing.specs.code.Listed.{TextListed}
use Rattle.table.specs.Table.{Table, table_of}
use Rattle.table.proofs.ReadLaws.{apart, read_one}
use Rattle.loading.specs.Load.{Loaded, loaded, Loads, not_taken, no_cells, no_names, no_table, loads}
use Rattle.loading.specs.Load.{TextLoads, load_says, cells_after, names_after}
use Rattle.prolog.specs.Entry.{text_told}
use Rattle.prolog.specs.declared.TextSize.{TextSize}
use Rattle.std.specs.Prelude.{Result, Ok, Err}
use Rattle.textlines.specs.Lines.{cell_room, name_room, lines_of, Prints, printed}
use Rattle.textlines.specs.code.Puts.{most, PutsTable}
use Rattle.textlines.proofs.LengthLaws.{lines-few}
use Rattle.textlines.proofs.Enough.{names-fewer}

-- what is loaded is a table, and has fewer names than cells
loaded-table : (t : List ℕ) {c n : ℕ} {o : Read Loaded} → Loads t c n o → (x : Loaded) → o ≡ read x
    → (T : Table) × (table_of x.cells ≡ read T) × (length x.names + 2 ≤ length x.cells)
loaded-table t (not_taken l) x e = apart (sym e)
loaded-table t (no_cells l h) x e = apart (sym e)
loaded-table t (no_names l h k) x e = apart (sym e)
loaded-table t (no_table l h k q) x e = apart (sym e)
loaded-table t (loads {facts = fs} {T = T} l h k q) x e =
    let s : loaded t fs ≡ x = read_one e in
    rw (← s) (T, q, names-fewer t fs)

-- a text that is read, with so many cells and names at the front of the rooms
pub record Came (t cells names : List ℕ) (n m : ℕ) : Type 0 where
  pub what : Loaded
  pub table : Table
  pub rule : Loads t cell_room name_room (read what)
  pub reads : table_of what.cells ≡ read table
  pub fewer : length what.names + 2 ≤ length what.cells
  pub cells_are : take n cells ≡ what.cells
  pub names-are : take m names ≡ what.names
  pub inside : (n ≤ length cells) × (m ≤ length names)

-- the front of a room
front : (xs room : List ℕ) {room' : List ℕ} (n : ℕ) → n ≡ length xs → room' ≡ xs ++ drop (length xs) room
    → (take n room' ≡ xs) × (n ≤ length room')
front xs room n e w =
    let tail = drop (length xs) room in
    (ap (take n) w ∙ take_at xs tail n (sym e), omega (arith, ap length w, length-append xs tail))

module _ {t cells names cells' names' : List ℕ} (r : Result TextSize Refusal) (x : TextLoads t cells names cells' names' (text_told r))
    (hc : length cells ≡ cell_room) (hn : length names ≡ name_room) where
  rule : Loads t cell_room name_room x.says
  rule = rw (hc, hn) at x.rule

  pub came-read : (size : TextSize) → r ≡ Ok size → Came t cells' names' size.cells size.names
  came-read size e = go x.says rule x.told x.wrote x.listed
    where
      go : (o : Read Loaded) → Loads t cell_room name_room o → text_told r ≡ load_says o → cells' ≡ cells_after o cells
          → names' ≡ names_after o names → Came t cells' names' size.cells size.names
      go (read y) l a w s =
          let d : answered size.cells size.names ≡ answered (length y.cells) (length y.names) = ap text_told (sym e) ∙ a in
          let many : size.cells ≡ length y.cells = cc in
          let named : size.names ≡ length y.names = cc in
          let k = loaded-table t l y refl in
          let c = front y.cells cells size.cells many w in
          let f = front y.names names size.names named s in
          record {
            what = y;
            table = k.0;
            rule = l;
            reads = k.1;
            fewer = k.2;
            cells_are = c.0;
            names-are = f.0;
            inside = (c.1, f.1);
          }
      go (refuse f) l a w s =
          let d : answered size.cells size.names ≡ turned f = ap text_told (sym e) ∙ a in
          let z : ◌≡◌ {A = ℕ} 0 1 = cc in
          absurd (omega arith)

  pub came_refused : (f : Refusal) → r ≡ Err f → Loads t cell_room name_room (refuse (told f))
  came_refused f e = go x.says rule x.told
    where
      go : (o : Read Loaded) → Loads t cell_room name_room o → text_told r ≡ load_says o → Loads t cell_room name_room (refuse (told f))
      go (read y) l a =
          let d : turned (told f) ≡ answered (length y.cells) (length y.names) = ap text_told (sym e) ∙ a in
          let z : ◌≡◌ {A = ℕ} 0 1 = cc in
          absurd (omega arith)
      go (refuse g) l a =
          let d : turned (told f) ≡ turned g = ap text_told (sym e) ∙ a in
          let q : told f ≡ g = cc in
          rw q l

-- its lines are put
pub table-listed : {t cells names old new : List ℕ} {n m r : ℕ} (C : Came t cells names n m)
    → PutsTable (take n cells) (take m names) old new r → TextListed most (Prints t) old new r
table-listed C p = record {
  text = lines_of C.what C.table;
  right = printed C.what C.table C.rule C.reads;
  few = lines-few C.what C.table C.reads C.fewer (rw C.names-are at p.few);
  puts = rw (C.cells_are, C.names-are, C.reads) at p.puts;
}
