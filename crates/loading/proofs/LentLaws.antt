-- What a table is turned away for concerns the table: so ROOM, which concerns a lent room, is never 01's.
use Prim.Native.Nat.{ℕ, zero, suc, ◌+◌, ◌-◌}
use mathlib.Core.Path.{◌≡◌, ap}
use mathlib.Core.Bool.{Bool, true, false, ◌&&◌, ◌||◌}
use mathlib.Core.List.{List, [], ◌∷◌}
use native.Mathlib.Omega.{arith}
use lib.Dec.{eqb, leb, ltb}
use lib.ListN.{length, get_or, take, drop}
use Rattle.cell.specs.Cell.{values_at}
use Rattle.refusal.specs.Refusal.{Refused, refused}
use Rattle.refusal.specs.Read.{Read, read, refuse, when, and_then}
use Rattle.refusal.specs.declared.Reason.{Reason}
use Rattle.refusal.specs.declared.Reason.TheVariants as reason
use Rattle.refusal.specs.declared.Input.TheVariants as input
use Rattle.table.specs.Table.{Table, table, Met, counted, terms_from, row_before, doubled, rows_from, table_of}
use Rattle.table.proofs.ReadLaws.{apart, refuse-one}
use Rattle.limits.specs.Limits.{most_table_cells}

data OfTable {A : Type 0} : Read A → Type 0 where
  good : {x : A} → OfTable (read x)
  turned : (k : Reason) (p : ℕ) → OfTable (refuse (refused k input.Table p))

of-when : {A : Type 0} (b : Bool) (k : Reason) (p : ℕ) {r : Read A} → OfTable r → OfTable (when b (refused k input.Table p) r)
of-when true k p h = turned k p
of-when false k p h = h

of-then : {A B : Type 0} {r : Read A} (f : A → Read B) → OfTable r → ((x : A) → OfTable (f x)) → OfTable (and_then r f)
of-then f (good {x}) h = h x
of-then f (turned k p) h = turned k p

of-terms : (xs : List ℕ) (owed used vars p : ℕ) → OfTable (terms_from true xs owed used vars p)
unfolding terms_from
of-terms [] zero used vars p = good
of-terms [] (suc owed) used vars p = of-when (leb 32 used) reason.Long p (turned reason.Short p)
of-terms (c ∷ xs) zero used vars p = good
of-terms (c ∷ xs) (suc owed) used vars p =
    let v = values_at c in
    of-when (leb 32 used) reason.Long p
    (of-when (eqb v.kind 3) reason.Cell p
    (of-when (eqb v.kind 0 && ltb vars v.number) reason.Fresh p
    (of-terms xs (v.args + owed) (suc used) (counted v vars) (suc p))))

of-before : (r : List ℕ) {rs : Read (List (List ℕ))} → OfTable rs → OfTable (row_before r rs)
of-before r good = good
of-before r (turned k p) = turned k p

of-rows : (w k : ℕ) (seen : List (List ℕ)) (xs : List ℕ) (p : ℕ) → OfTable (rows_from w k seen xs p)
unfolding rows_from
of-rows w zero seen [] p = good
of-rows w zero seen (c ∷ xs) p = turned reason.Extra p
of-rows w (suc k) seen xs p =
    of-then _ (of-terms xs w 0 0 p) (λ (m : Met).
    let row = take (m.next - p) xs in
    of-when (doubled m row seen) reason.Same p (of-before row (of-rows w k (row ∷ seen) (drop (m.next - p) xs) m.next)))

of-table : (t : List ℕ) → OfTable (table_of t)
unfolding table_of
of-table t =
    of-when (ltb (length t) 2 || ltb most_table_cells (length t)) reason.Length 0
    (of-when (ltb (get_or t 0 0) 1 || ltb 8 (get_or t 0 0)) reason.Width 0
    (of-when (ltb (get_or t 1 0) 1 || ltb 64 (get_or t 1 0)) reason.Count 1
    (of-then (λ (rows : List (List ℕ)). read (table (get_or t 0 0) rows)) (of-rows (get_or t 0 0) (get_or t 1 0) [] (drop 2 t) 2) (λ rows. good))))

pub table-never-lent : (t : List ℕ) (k : Reason) (p : ℕ) → table_of t ≡ refuse (refused k input.Lent p) → ⊥
table-never-lent t k p = by (of-table t)
  where
    by : {r : Read Table} → OfTable r → r ≡ refuse (refused k input.Lent p) → ⊥
    by good e = apart e
    by (turned j q) e = let z = ap (λ (f : Refused). f.input) (refuse-one e) in omega arith
