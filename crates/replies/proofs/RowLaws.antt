-- Where the row of a hit stands in an accepted table: nothing is cut there.
use Prim.Native.Nat.{ℕ, ◌+◌, ◌%◌, ◌≤◌, ◌<◌}
use mathlib.Core.Path.{◌≡◌}
use mathlib.Core.List.{List}
use native.Mathlib.Omega.{arith}
use lib.ListN.{length, get_or}
use Rattle.table.specs.Table.{table_of, RowPlace}
use Rattle.table.proofs.Accepted.{is-table}
use Rattle.table.proofs.PartLaws.{part, place-next, place-last}
use Rattle.instance.specs.code.Passes.{Held}

module _ {table starts : List ℕ} {rows : ℕ} (h : Held table starts rows) (r : ℕ) {hit : ℕ} (e : r ≡ hit) (l : hit < rows) where
  small : rows ≤ 64
  small = omega (arith, h.many, (is-table table h.reads).count)

  same : r % 64 ≡ hit
  same = omega (arith, e, l, small)

  pub row_next : r % 64 + 1 < rows → RowPlace (table_of table) hit (part (get_or starts (r % 64) 0) (get_or starts ((r % 64 + 1) % 64) 0))
  row_next n =
      let f : (hit + 1) % 64 ≡ hit + 1 = omega (arith, n, same, small) in
      rw (same, f) (place-next table h.reads hit h.begin (omega (arith, n, same, h.many)))

  pub row_last : rows ≤ r % 64 + 1 → RowPlace (table_of table) hit (part (get_or starts (r % 64) 0) (length table))
  row_last n = rw same (place-last table h.reads hit h.begin (omega (arith, n, l, same, h.many)))
