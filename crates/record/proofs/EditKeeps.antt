-- The runs that don't contain the row that an edit changes keep their entries.
use mathlib.Core.Path.{◌≡◌, refl, sym}
use mathlib.Core.List.{List, [], ◌∷◌, ◌++◌}
use Prim.Native.Nat.{ℕ, ◌-◌, ◌≤◌, ◌<◌}
use native.Mathlib.Omega.{arith}
use lib.Dec.{leb}
use lib.ListN.{length, set, take, drop, length-append, length-set}
use lib.Seq.{length-take-le}
use Rattle.refusal.specs.Refusal.{Answer}
use Rattle.refusal.specs.Read.{read}
use Rattle.table.specs.Table.{Table, table, others, row_of}
use Rattle.table.proofs.Accepted.{is-table}
use Rattle.table.proofs.ReadLaws.{passed, first, read_one}
use Rattle.least.specs.Entries.{between, SameAt}
use Rattle.record.specs.Record.{cells_in, Holds}
use Rattle.record.specs.Edits.{Edit, append, drop-last, replace, edit_of, Edited, no-edit, edit, Without}
use Rattle.record.proofs.KeptLaws.{between-set, between-append, between-take, kept}

-- of the table that an edit makes: its width, and the runs without the changed row
record Makes (e : Edit) (T T' : Table) : Type 0 where
  width : T.width ≡ T'.width
  between-same : (first last : ℕ) → Without e T first last → between first last T.rows ≡ between first last T'.rows
  still : (first last : ℕ) → Without e T first last → (last < length T.rows) × (last < length T'.rows)

of-rows : {e : Edit} {T T' : Table} {rows : List (List ℕ)} → read (table T.width rows) ≡ read T'
    → ((first last : ℕ) → Without e T first last → between first last T.rows ≡ between first last rows)
    → ((first last : ℕ) → Without e T first last → (last < length T.rows) × (last < length rows)) → Makes e T T'
of-rows q b l = let t = read_one q in rw (← t) (record { width = refl; between-same = b; still = l })

edit-makes : (e : Edit) (T : Table) {T' : Table} → edit_of e T ≡ read T' → Makes e T T'
unfolding edit_of
edit-makes (append row) T q =
    let rows : List (List ℕ) = T.rows ++ (row ∷ []) in
    let x = row_of T.width T.rows row in
    let t = first x (λ (_ : ℕ). read (table T.width rows)) (passed (leb 64 (length T.rows)) _ _ q).1 in
    of-rows t.2 (λ first last h. sym (between-append first last row T.rows h))
    (λ first last h. (h, omega (arith, length-append T.rows (row ∷ []))))
edit-makes drop-last T q =
    let n : ℕ = length T.rows - 1 in
    let l : length (take n T.rows) ≡ n = length-take-le n T.rows (omega arith) in
    of-rows (passed (leb (length T.rows) 1) _ _ q).1 (λ first last h. sym (between-take first last n T.rows (omega arith)))
    (λ first last h. (omega arith, omega arith))
edit-makes (replace r row) T q =
    let rows : List (List ℕ) = set T.rows r row in
    let x = row_of T.width (others r T.rows) row in
    let t = first x (λ (_ : ℕ). read (table T.width rows)) (passed (leb (length T.rows) r) _ _ q).1 in
    of-rows t.2 (λ first last h. sym (between-set first last r row T.rows h.1))
    (λ first last h. (h.0, omega (arith, h.0, length-set T.rows r row)))

-- 02, "runs that don't contain the changed row keep their entries"
pub edit-keeps : {e : Edit} {figure : ℕ} {T : Table} {rec rec' : List ℕ} {answer : Answer} → Holds rec figure T
    → Edited e figure T rec rec' answer → (first last : ℕ) → first ≤ last → Without e T first last
    → SameAt first last (drop 2052 rec) (drop 2052 rec')
edit-keeps x (no-edit f q a s) first last o w = rw s (record { whole = refl; cost = refl; place = refl })
edit-keeps {e} {T = T} x (edit T' q a y) first last o w =
    let m = edit-makes e T q in
    let i = m.still first last w in
    let few = (is-table (cells_in T) x.accepted).count.1 in
    kept x y m.width first last (omega (arith, few)) (omega (arith, few)) (m.between-same first last w) o i.0 i.1
