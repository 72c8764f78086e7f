-- The rooms that are lent are enough for every text: ROOM is never printed, and larger rooms would change nothing.
use mathlib.Core.Path.{◌≡◌, refl}
use mathlib.Core.Logic.{◌⊎◌, inl, inr}
use mathlib.Core.List.{List, []}
use Prim.Native.Nat.{ℕ, ◌+◌, ◌≤◌}
use native.Mathlib.Omega.{arith}
use lib.ListN.{length}
use Rattle.refusal.specs.Refusal.{Refused}
use Rattle.refusal.specs.Read.{Read, read, refuse}
use Rattle.table.specs.Table.{table_of}
use Rattle.table.proofs.ReadLaws.{apart}
use Rattle.grammar.specs.Grammar.{Fact}
use Rattle.grammar.specs.Meaning.{symbols_of, table_cells, name_list}
use Rattle.grammar.specs.Taken.{Taken, taken}
use Rattle.grammar.proofs.LongLaws.{text-long, names-few}
use Rattle.loading.specs.Load.{Loaded, Loads, not_taken, no_cells, no_names, no_table, loads}
use Rattle.prolog.proofs.EntryLaws.{cells-long, names-long}
use Rattle.textlines.specs.Lines.{cell_room, name_room}

module _ (t : List ℕ) where
  -- a name for each symbol at most, and two cells more than symbols
  pub names-fewer : (fs : List Fact) → length (name_list t fs) + 2 ≤ length (table_cells t fs)
  names-fewer fs = omega (arith, cells-long t fs, names-long t fs, names-few t [] (symbols_of fs))

  sizes : {fs : List Fact} → Taken t (read fs) → (length (table_cells t fs) ≤ cell_room) × (length (name_list t fs) ≤ name_room)
  sizes {fs} (taken h x e) =
      let few = text-long t x in
      let cells = cells-long t fs in
      let names = names-fewer fs in
      (omega arith, omega arith)

  -- what is refused is refused as a text or as a table, and never for its room
  pub never-room : {f : Refused} → Loads t cell_room name_room (refuse f)
      → Taken t (refuse f) ⊎ ((fs : List Fact) × Taken t (read fs) × (table_of (table_cells t fs) ≡ refuse f))
  never-room {f} l = go l refl
    where
      go : {o : Read Loaded} → Loads t cell_room name_room o → o ≡ refuse f
          → Taken t (refuse f) ⊎ ((fs : List Fact) × Taken t (read fs) × (table_of (table_cells t fs) ≡ refuse f))
      go (not_taken {f = g} x) e = let q : f ≡ g = cc in inl (rw q x)
      go (no_cells x h) e = absurd (omega (arith, sizes x))
      go (no_names x h k) e = absurd (omega (arith, sizes x))
      go (no_table {facts = fs} {f = g} x h k q) e = let s : g ≡ f = cc in inr (fs, x, rw (← s) q)
      go (loads x h k q) e = apart e

  -- larger rooms change nothing
  pub enough : {c n : ℕ} → cell_room ≤ c → name_room ≤ n → {o : Read Loaded} → Loads t cell_room name_room o → Loads t c n o
  enough hc hn (not_taken x) = not_taken x
  enough hc hn (no_cells x h) = absurd (omega (arith, sizes x))
  enough hc hn (no_names x h k) = absurd (omega (arith, sizes x))
  enough hc hn (no_table x h k q) = no_table x (omega arith) (omega arith) q
  enough hc hn (loads x h k q) = loads x (omega arith) (omega arith) q
