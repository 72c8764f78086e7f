-- One row is put into a table: its cells, its acceptance, and the pairs that keep their rows.
use mathlib.Core.Path.{◌≡◌, refl, sym, ap, subst, ◌∙◌}
use mathlib.Core.Logic.{◌⊎◌, inl, inr, by_cases}
use mathlib.Core.List.{List, [], ◌∷◌, ◌++◌, flatten, append_assoc}
use Prim.Native.Nat.{ℕ, suc, ◌+◌, ◌-◌, ◌≤◌, ◌<◌}
use native.Mathlib.Nat.{zero-add}
use native.Mathlib.Decide.{dec_lt}
use native.Mathlib.Omega.{arith}
use lib.ListN.{length, set, take, drop, replicate, length-append, length-set, length-drop, drop_of_length-le}
use lib.Seq.{sets, length-take-le, set_split, set-append_left, take_at, drop_at, take-append-le, take-take, take_all, take-length}
use Rattle.refusal.specs.Read.{read}
use Rattle.term.proofs.Lists.{sets-sets, sets-replicate}
use Rattle.table.specs.Table.{Table, table_of, others, Row, Apart, Distinct}
use Rattle.table.proofs.Accepted.{is-table, rows-accepted}
use Rattle.table.proofs.AllLaws.{all_take, all_drop, all-++}
use Rattle.table.proofs.ApartLaws.{distinct_append, distinct-set, others-all}
use Rattle.least.specs.Entries.{between}
use Rattle.record.specs.Record.{cells_in}
use Rattle.record.specs.code.Rows.{in_room, with_row, table_with}
use Rattle.record.proofs.KeptLaws.{between-set}
use Rattle.record.proofs.StartLaws.{flatten-append, flatten-split, before-few}
use Rattle.limits.specs.Limits.{most_table_cells}

-- after the last row
pub with-last : (rows : List (List ℕ)) (row : List ℕ) → rows ++ (row ∷ []) ≡ with_row rows (length rows) row
with-last rows row = rw (take-length rows, drop_of_length-le rows {i = suc (length rows)} (omega arith))

module _ (rows : List (List ℕ)) (r : ℕ) (row : List ℕ) (there : r ≤ length rows) where
  pub with-length : length (with_row rows r row) ≡ r + suc (length rows - suc r)
  with-length =
      length-append (take r rows) (row ∷ drop (suc r) rows)
      ∙ omega (arith, length-take-le r rows there, length-drop (suc r) rows)

  -- a pair before or after the row
  pub with-between : (first last : ℕ) → (suc r ≤ first) ⊎ (last < r) → first ≤ last → last < length (with_row rows r row)
      → (last < length rows) × (between first last rows ≡ between first last (with_row rows r row))
  with-between first last (inr h) o i =
      let l : suc last ≤ length (take r rows) = omega (arith, length-take-le r rows there) in
      let e = take-append-le (suc last) (take r rows) (row ∷ drop (suc r) rows) l ∙ take-take (suc last) r rows (omega arith) in
      (omega arith, sym (ap (drop first) e))
  with-between first last (inl h) o i =
      let l : r < length rows = omega (arith, with-length) in
      (omega (arith, with-length), sym (ap (between first last) (sym (set_split rows r row l)) ∙ between-set first last r row rows (inl h)))

  -- rows stay distinct where one is put that is none of the others
  with-distinct : Distinct rows → Apart (others r rows) row → Distinct (with_row rows r row)
  with-distinct d a =
      by_cases (dec_lt r (length rows))
      (λ (h : r < length rows). subst Distinct (set_split rows r row h) (distinct-set rows r row d a))
      (λ h.
      let e : length rows ≡ r = omega arith in
      let b : Apart rows row = subst (λ (s : List (List ℕ)). Apart s row) (others-all r rows (omega arith)) a in
      subst (λ (i : ℕ). Distinct (with_row rows i row)) e (subst Distinct (with-last rows row) (distinct_append rows row d b)))

-- three parts stored one after another where all was 0, and then a number in the first of them
parts-stored : (n : ℕ) (xs ys zs : List ℕ) → length xs + (length ys + length zs) ≤ n
    → sets (sets (sets (replicate n 0) 0 xs) (length xs) ys) (length xs + length ys) zs
    ≡ (xs ++ (ys ++ zs)) ++ replicate (n - length (xs ++ (ys ++ zs))) 0
parts-stored n xs ys zs h =
    let l = length-append ys zs in
    let e : sets (sets (replicate n 0) 0 xs) (length xs) ys ≡ sets (replicate n 0) 0 (xs ++ ys) =
    rw (zero-add (length xs)) at (sets-sets (replicate n 0) 0 xs ys) in
    let f : length xs + length ys ≡ 0 + length (xs ++ ys) = omega (arith, length-append xs ys) in
    rw (e, f) (sets-sets (replicate n 0) 0 (xs ++ ys) zs
    ∙ rw (append_assoc xs ys zs) (sets-replicate n 0 (xs ++ (ys ++ zs)) (omega (arith, length-append xs (ys ++ zs)))))

number-stored : (n v : ℕ) (xs : List ℕ) → 1 < length xs
    → set (xs ++ replicate (n - length xs) 0) 1 v ≡ set xs 1 v ++ replicate (n - length (set xs 1 v)) 0
number-stored n v xs h = rw (length-set xs 1 v) (set-append_left xs (replicate (n - length xs) 0) 1 v h)

-- the sizes of these parts: the cells up to a start, the row, the cells from an end on
pub record Sizes (cells row : List ℕ) (start end size : ℕ) : Type 0 where
  pub order : start ≤ end
  pub within : end ≤ length cells
  pub all : start + length row + (length cells - end) ≡ size

-- the cells of the table with the row: those before it, the row, those after it, and the number of rows
module _ (T : Table) (r : ℕ) (row : List ℕ) where
  abbrev cells : List ℕ
  cells = cells_in T

  -- where a row begins in them
  abbrev begins : ℕ → ℕ
  begins s = 2 + length (flatten (take s T.rows))

  front : take (begins r) cells ≡ T.width ∷ length T.rows ∷ flatten (take r T.rows)
  front =
      let e : begins r ≡ suc (suc (length (flatten (take r T.rows)))) = omega arith in
      rw e (ap (λ (c : List ℕ). T.width ∷ length T.rows ∷ c)
      (ap (take (length (flatten (take r T.rows)))) (flatten-split r T.rows)
      ∙ take_at (flatten (take r T.rows)) (flatten (drop r T.rows)) (length (flatten (take r T.rows))) refl))

  behind : (s : ℕ) → drop (begins s) cells ≡ flatten (drop s T.rows)
  behind s =
      let e : begins s ≡ suc (suc (length (flatten (take s T.rows)))) = omega arith in
      rw e (ap (drop (length (flatten (take s T.rows)))) (flatten-split s T.rows)
      ∙ drop_at (flatten (take s T.rows)) (flatten (drop s T.rows)) (length (flatten (take s T.rows))) refl)

  pub with-cells : {start end count : ℕ} → start ≡ begins r → end ≡ begins (suc r)
      → count ≡ length (with_row T.rows r row) → set (take start cells ++ (row ++ drop end cells)) 1 count ≡ cells_in (table_with T r row)
  unfolding flatten
  with-cells e f g =
      rw (e, f, g, front, behind (suc r))
      (ap (λ (c : List ℕ). T.width ∷ length (with_row T.rows r row) ∷ c)
      (sym (flatten-append (take r T.rows) (row ∷ drop (suc r) T.rows))))

  pub with-sizes : {start end : ℕ} → start ≡ begins r → end ≡ begins (suc r)
      → Sizes cells row start end (length (cells_in (table_with T r row)))
  with-sizes {start} {end} e f =
      let o : length (flatten (take r T.rows)) ≤ length (flatten (take (suc r) T.rows)) =
      rw (take-take r (suc r) T.rows (omega arith)) at (before-few r (take (suc r) T.rows)) in
      let w : end ≤ length cells = omega (arith, before-few (suc r) T.rows) in
      let joined : List ℕ = take start cells ++ (row ++ drop end cells) in
      let n : length joined ≡ length (cells_in (table_with T r row)) =
      sym (length-set joined 1 (length (with_row T.rows r row))) ∙ ap length (with-cells e f refl) in
      let a = length-append (take start cells) (row ++ drop end cells) in
      let b = length-append row (drop end cells) in
      let c : length (take start cells) ≡ start = length-take-le start cells (omega arith) in
      let d = length-drop end cells in
      record { order = omega arith; within = w; all = omega arith }

  -- they are stored part by part
  all-stored : {start end count : ℕ} → start ≡ begins r → end ≡ begins (suc r)
      → count ≡ length (with_row T.rows r row) → length (cells_in (table_with T r row)) ≤ most_table_cells
      → set (sets (sets (sets (replicate most_table_cells 0) 0 (take start cells)) start row) (start + length row) (drop end cells)) 1 count
      ≡ in_room (cells_in (table_with T r row))
  all-stored {start} {end} {count} e f g few =
      let xs : List ℕ = take start cells in
      let zs : List ℕ = drop end cells in
      let lx : length xs ≡ start = length-take-le start cells (omega (arith, before-few r T.rows)) in
      let is : set (xs ++ (row ++ zs)) 1 count ≡ cells_in (table_with T r row) = with-cells e f g in
      let la = length-append xs (row ++ zs) in
      let lb = length-append row zs in
      let m = length-set (xs ++ (row ++ zs)) 1 count in
      let stored = parts-stored most_table_cells xs row zs (omega (arith, ap length is)) in
      ap (λ (s : List ℕ). set s 1 count) (rw lx at stored) ∙ number-stored most_table_cells count (xs ++ (row ++ zs)) (omega arith) ∙ ap in_room is

  pub with-stored : {start end count : ℕ} {text next one two three : List ℕ} → text ≡ cells → next ≡ replicate most_table_cells 0
      → one ≡ sets next 0 (take start text) → two ≡ sets one start row
      → three ≡ sets two (start + length row) (take (length text - end) (drop end text))
      → start ≡ begins r → end ≡ begins (suc r)
      → count ≡ length (with_row T.rows r row) → length (cells_in (table_with T r row)) ≤ most_table_cells
      → set three 1 count ≡ in_room (cells_in (table_with T r row))
  with-stored {start} {end} {count} t n a b c e f g few =
      let rest = take_all (length cells - end) (drop end cells) (omega (arith, length-drop end cells)) in
      rw (c, b, a, t, n, rest) (all-stored e f g few)

  -- it is a table again
  pub with-accepted : table_of cells ≡ read T → r ≤ length T.rows → r < 64 → Row T.width row → Apart (others r T.rows) row
      → table_of (cells_in (table_with T r row)) ≡ read (table_with T r row)
  with-accepted h there few x a =
      let i = is-table cells h in
      rows-accepted T.width (with_row T.rows r row) i.width
      (omega (arith, with-length T.rows r row there), omega (arith, with-length T.rows r row there, i.count.1))
      (all-++ (Row T.width) (take r T.rows) (row ∷ drop (suc r) T.rows) (all_take (Row T.width) r T.rows i.each)
      (x, all_drop (Row T.width) (suc r) T.rows i.each))
      (with-distinct T.rows r row there i.apart a)
