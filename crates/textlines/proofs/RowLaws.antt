-- The rows of a table that is read, by where they start.
use mathlib.Core.Path.{◌≡◌, refl, ap, ◌∙◌}
use mathlib.Core.Logic.{◌⊎◌, ⊎_elim}
use mathlib.Core.List.{List, []}
use Prim.Native.Nat.{ℕ, ◌+◌, ◌≤◌, ◌<◌}
use native.Mathlib.Omega.{arith}
use lib.ListN.{length, get_or}
use Rattle.refusal.specs.Refusal.{Refused, answered, turned}
use Rattle.refusal.specs.Read.{Read, read, refuse}
use Rattle.table.specs.Table.{Table, table_of, starts_in, table_says, row_in, RowPlace}
use Rattle.table.proofs.PartLaws.{part, says-read, says-turned, place-next, place-last}
use Rattle.table.proofs.Accepted.{is-table}
use Rattle.textlines.specs.code.Puts.{rows_of}

-- the row of a number is one of them
pub row_is : (R : Read Table) (r : ℕ) → row_in R r ≡ get_or (rows_of R) r []
row_is (read T) r = refl
row_is (refuse f) r = refl

-- a table that is turned away has none
pub none-turned : (R : Read Table) {f : Refused} → turned f ≡ table_says R → rows_of R ≡ []
none-turned R e = ap rows_of (says-turned R e)

module _ (t : List ℕ) {w n : ℕ} (a : answered w n ≡ table_says (table_of t)) where
  pub rows-counted : length (rows_of (table_of t)) ≡ n
  rows-counted = let k = says-read (table_of t) a in ap (λ (R : Read Table). length (rows_of R)) k.1 ∙ k.3

  pub rows_few : n ≤ 64
  rows_few = let k = says-read (table_of t) a in omega (arith, k.3, (is-table t k.1).count.1)

  -- a row is between its start and the next one's, and the last before the table's end
  pub row-between : {S : List ℕ} → S ≡ starts_in (table_of t) → (r e : ℕ) → r < n
      → ((r + 1 < n) × (e ≡ get_or S (r + 1) 0)) ⊎ ((n ≤ r + 1) × (e ≡ length t)) → RowPlace (table_of t) r (part (get_or S r 0) e)
  row-between {S} s r e h =
      let k = says-read (table_of t) a in
      ⊎_elim
      (λ (x : (r + 1 < n) × (e ≡ get_or S (r + 1) 0)). rw x.1 (place-next t k.1 r s (omega (arith, k.3, x.0))))
      (λ (x : (n ≤ r + 1) × (e ≡ length t)). rw x.1 (place-last t k.1 r s (omega (arith, k.3, x.0, h))))
