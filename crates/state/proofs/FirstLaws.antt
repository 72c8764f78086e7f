-- From a table that is read to the rows of its first state.
use mathlib.Core.Path.{◌≡◌, sym, ap, subst, ◌∙◌}
use mathlib.Core.Logic.{by_cases}
use mathlib.Core.List.{List, []}
use Prim.Native.Nat.{ℕ, zero, suc, ◌+◌, ◌-◌, ◌≤◌, ◌<◌, min}
use native.Mathlib.Decide.{dec_lt}
use native.Mathlib.Omega.{arith}
use lib.ListN.{length, get_or, drop}
use lib.Seq.{ext_get_or}
use borrow.Author.Tests.{lt-ltb, le-ltb}
use Rattle.refusal.specs.Refusal.{told}
use Rattle.refusal.specs.declared.Refusal.{Refusal}
use Rattle.refusal.specs.Read.{refuse}
use Rattle.table.specs.Table.{Table, table_of, starts_in, TableReads, RowPlace, IsTable}
use Rattle.table.specs.declared.TableRead.{TableRead}
use Rattle.std.specs.Prelude.{Result, Ok, Err}
use Rattle.table.proofs.Accepted.{is-table, accepted-row}
use Rattle.table.proofs.PartLaws.{says-read, says-turned, part, place-next, place-last, place-cells}
use Rattle.state.specs.Mask.{full, end_at, OpenRows}
use Rattle.state.specs.States.{row_at, rows_at, rows_in}
use Rattle.state.specs.code.First.{TableRows}
use Rattle.state.proofs.MaskLaws.{kept_full}
use Rattle.state.proofs.RowsLaws.{rows-length}

-- what the reading of a table answers
module _ (t : List ℕ) {r : Result TableRead Refusal} (a : TableReads (table_of t) r) where
  pub table-rows : {x : TableRead} → r ≡ Ok x → TableRows t x.starts x.width x.rows
  table-rows e =
      let b = subst (TableReads (table_of t)) e a in
      let s = says-read (table_of t) b.answer in
      record { table = s.0; here = s.1; starts = b.starts ∙ ap starts_in s.1; width = sym s.2; rows = sym s.3 }

  pub table-turned : {f : Refusal} → r ≡ Err f → table_of t ≡ refuse (told f)
  table-turned e = says-turned (table_of t) (subst (TableReads (table_of t)) e a).answer

-- a row of a list of rows, by its number
row_in : (t ss ms : List ℕ) (n r i : ℕ) → i < n → get_or (rows_at t ss ms n r) i [] ≡ row_at t ss ms (r + i)
unfolding rows_at
row_in t ss ms zero r i h = absurd (omega arith)
row_in t ss ms (suc n) r zero h = let e : r + 0 ≡ r = omega arith in rw e
row_in t ss ms (suc n) r (suc i) h = let e : r + suc i ≡ r + 1 + i = omega arith in rw e (row_in t ss ms n (r + 1) i (omega arith))

module _ {t ss : List ℕ} {w n : ℕ} (k : TableRows t ss w n) where
  abbrev T : Table
  T = k.table

  pub is : IsTable t T.width T.rows
  is = is-table t k.here

  pub few-rows : (0 < n) × (n ≤ 64)
  few-rows = (omega (arith, k.rows, is.count.0), omega (arith, k.rows, is.count.1))

  -- where a row stands in the table
  place : (i : ℕ) → i < n → RowPlace (table_of t) i (part (get_or ss i 0) (end_at ss n (length t) i))
  place i h =
      let s : ss ≡ starts_in (table_of t) = rw k.here k.starts in
      by_cases (dec_lt (i + 1) n)
      (λ (l : i + 1 < n). rw (lt-ltb (i + 1) n l) (place-next t k.here i s (omega (arith, k.rows))))
      (λ l. let m : n ≤ i + 1 = omega arith in rw (le-ltb (i + 1) n m) (place-last t k.here i s (omega (arith, k.rows))))

  module _ {ms : List ℕ} (o : OpenRows ss n (length t) ms) where
    -- all of its cells open, a row is the table's
    row_open : (i : ℕ) → i < n → row_at t ss ms i ≡ get_or T.rows i []
    row_open i h =
        let e : min n 64 ≡ n = omega (arith, few-rows) in
        let p = place i h in
        let m : get_or ms i 0 ≡ full (end_at ss n (length t) i - get_or ss i 0) = rw e at (o.rows i (omega arith)) in
        let c = place-cells t i p in
        let e' = rw k.here at p.end in
        let s : end_at ss n (length t) i - get_or ss i 0 ≤ 32 = omega (arith, (accepted-row t k.here i (omega (arith, k.rows))).short) in
        rw (m, kept_full (end_at ss n (length t) i - get_or ss i 0) (drop (get_or ss i 0) t) s) (c ∙ rw k.here)

    pub rows-open : rows_in t ss ms 0 n ≡ T.rows
    rows-open =
        let z : n - 0 ≡ n = omega arith in
        let l = rows-length t ss ms n 0 in
        rw z (ext_get_or [] (rows_at t ss ms n 0) T.rows (l ∙ k.rows) (λ i h. row_in t ss ms n 0 i (omega arith)
        ∙ (let q : 0 + i ≡ i = omega arith in rw q (row_open i (omega arith)))))
