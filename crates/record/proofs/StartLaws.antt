-- The cells of a table's rows, and where each row begins in them.
use mathlib.Core.Path.{◌≡◌, refl, sym, ap, ◌∙◌}
use mathlib.Core.Bool.{cond}
use mathlib.Core.Logic.{by_cases}
use mathlib.Core.List.{List, [], ◌∷◌, ◌++◌, flatten, append_assoc}
use Prim.Native.Nat.{ℕ, ◌+◌, ◌≤◌, ◌<◌}
use native.Mathlib.Decide.{dec_lt}
use native.Mathlib.Omega.{arith}
use lib.Dec.{ltb}
use borrow.Author.Tests.{lt-ltb, le-ltb}
use lib.ListN.{length, get_or, take, drop, length-append, take-append-drop}
use lib.Seq.{take_all}
use Rattle.refusal.specs.Read.{read}
use Rattle.table.specs.Table.{Table, starts_in}
use Rattle.table.proofs.PartLaws.{start-at}
use Rattle.record.specs.Record.{cells_in}

-- the cells of rows, before and after one of them
pub flatten-append : (xs ys : List (List ℕ)) → flatten (xs ++ ys) ≡ flatten xs ++ flatten ys
unfolding flatten
flatten-append [] ys = refl
flatten-append (x ∷ xs) ys = ap (λ (cells : List ℕ). x ++ cells) (flatten-append xs ys) ∙ sym (append_assoc x (flatten xs) (flatten ys))

pub flatten-split : (r : ℕ) (rows : List (List ℕ)) → flatten rows ≡ flatten (take r rows) ++ flatten (drop r rows)
flatten-split r rows = ap flatten (sym (take-append-drop r rows)) ∙ flatten-append (take r rows) (drop r rows)

pub before-few : (r : ℕ) (rows : List (List ℕ)) → length (flatten (take r rows)) ≤ length (flatten rows)
before-few r rows = omega (arith, ap length (flatten-split r rows), length-append (flatten (take r rows)) (flatten (drop r rows)))

-- a row begins after the cells of those before it (`start-at`); and one more would begin where the table's cells end, as would all after it
pub edge-is : (T : Table) {cells begins : List ℕ} {count : ℕ} → cells ≡ cells_in T → begins ≡ starts_in (read T) → count ≡ length T.rows
    → (r : ℕ) → cond (ltb r count) (get_or begins r 0) (length cells) ≡ 2 + length (flatten (take r T.rows))
edge-is T c b n r =
    rw (c, b, n)
    (by_cases (dec_lt r (length T.rows))
    (λ (h : r < length T.rows). rw (lt-ltb r (length T.rows) h) (start-at T r h))
    (λ h. let l : length T.rows ≤ r = omega arith in rw (le-ltb r (length T.rows) l, take_all r T.rows l) (omega arith)))
