-- The rows of a table that is read, found again by their starts: a row compared with them is compared with the table's rows but one.
use mathlib.Core.Path.{◌≡◌, refl, sym, ◌∙◌, ap}
use mathlib.Core.Logic.{◌≢◌}
use mathlib.Core.Bool.{Bool, true, false, cond, ◌||◌}
use mathlib.Core.List.{List, [], ◌∷◌, ◌++◌, flatten}
use Prim.Native.Nat.{ℕ, zero, suc, ◌+◌, ◌-◌, ◌≤◌, ◌<◌}
use native.Mathlib.Omega.{arith}
use lib.Dec.{eqb}
use lib.ListN.{length, get_or, take, drop, replicate, length-append}
use lib.Seq.{take-suc, take_all, length-take-le}
use borrow.Author.Tests.{eqb-true, eqb-false}
use Rattle.cell.specs.Same.{same, among}
use Rattle.refusal.specs.Read.{read}
use Rattle.table.specs.Table.{Table, table_of, terms_from, others, row_of, starts, starts_in}
use Rattle.samerows.specs.Starts.{rows_but, rows_lent}
use Rattle.samerows.proofs.StartLaws.{rows-lent}
use Rattle.table.proofs.ReadLaws.{then-both}
use Rattle.table.proofs.RowsLaws.{length-starts}
use Rattle.table.proofs.PartLaws.{start-at, all-cells, cells_at}

-- one row more after others
among-last : (x y : List ℕ) (ys : List (List ℕ)) → among x (ys ++ (y ∷ [])) ≡ (same x y || among x ys)
unfolding among
among-last x y [] = refl
among-last x y (z ∷ ys) = rw (among-last x y ys) (swap (same x z) (same x y) (among x ys))
  where
    swap : (a b c : Bool) → (a || (b || c)) ≡ (b || (a || c))
    swap true true c = refl
    swap true false c = refl
    swap false true c = refl
    swap false false c = refl

module _ (y : List ℕ) where
  others-last : (b : ℕ) (ys : List (List ℕ)) → b ≡ length ys → others b (ys ++ (y ∷ [])) ≡ others b ys
  unfolding others
  others-last zero [] e = refl
  others-last (suc b) [] e = absurd (omega arith)
  others-last zero (z ∷ ys) e = absurd (omega arith)
  others-last (suc b) (z ∷ ys) e = ap (λ (l : List (List ℕ)). z ∷ l) (others-last b ys (omega arith))

  others-more : (b : ℕ) (ys : List (List ℕ)) → b ≢ length ys → others b (ys ++ (y ∷ [])) ≡ others b ys ++ (y ∷ [])
  unfolding others
  others-more zero [] e = absurd (e refl)
  others-more (suc b) [] e = refl
  others-more zero (z ∷ ys) e = refl
  others-more (suc b) (z ∷ ys) e = ap (λ (l : List (List ℕ)). z ∷ l) (others-more b ys (λ q. e (omega arith)))

-- a row more is compared, or left out
one_more : (x y : List ℕ) (b n : ℕ) (ys zs : List (List ℕ)) → length ys ≡ n → among x zs ≡ among x (others b ys)
    → among x (cond (eqb n b) zs (y ∷ zs)) ≡ among x (others b (ys ++ (y ∷ [])))
unfolding among
one_more x y b n ys zs l e = go (eqb n b) refl
  where
    go : (d : Bool) → eqb n b ≡ d → among x (cond d zs (y ∷ zs)) ≡ among x (others b (ys ++ (y ∷ [])))
    go true q = let h = eqb-true n b q in e ∙ ap (among x) (sym (others-last y b ys (omega arith)))
    go false q =
        rw (others-more y b ys (λ h. eqb-false n b q (omega arith)), among-last x y (others b ys)) (ap (λ (c : Bool). same x y || c) e)

-- where the first so many rows of a table end
end_of : ℕ → List (List ℕ) → ℕ
end_of n rows = 2 + length (flatten (take n rows))

end-next : (n : ℕ) (rows : List (List ℕ)) → n < length rows → end_of (suc n) rows ≡ end_of n rows + length (get_or rows n [])
unfolding end_of flatten
end-next n [] h = absurd (omega arith)
end-next zero (r ∷ rs) h = omega (arith, length-append r [])
end-next (suc n) (r ∷ rs) h =
    omega (arith, end-next n rs (omega arith), length-append r (flatten (take n rs)), length-append r (flatten (take (suc n) rs)))

module _ (t : List ℕ) {T : Table} (g : table_of t ≡ read T) {S : List ℕ} (s : S ≡ starts_in (table_of t)) where
  start-here : (n : ℕ) → n < length T.rows → get_or S n 0 ≡ end_of n T.rows
  unfolding end_of
  start-here n h = rw (s, g) (start-at T n h)

  row-there : (n : ℕ) → n < length T.rows
      → take (end_of (suc n) T.rows - end_of n T.rows) (drop (end_of n T.rows) t) ≡ get_or T.rows n []
  unfolding end_of
  row-there n h =
      let l : end_of (suc n) T.rows - end_of n T.rows ≡ length (get_or T.rows n []) = omega (arith, end-next n T.rows h) in
      rw (l, ← start-at T n h) (cells_at t g n)

  end-all : end_of (length T.rows) T.rows ≡ length t
  unfolding end_of
  end-all = rw (take_all (length T.rows) T.rows (omega arith)) (omega (arith, ap length (all-cells t g 0)))

  compared : (x : List ℕ) (b n : ℕ) → n ≤ length T.rows
      → among x (rows_but t S b n (end_of n T.rows)) ≡ among x (others b (take n T.rows))
  unfolding rows_but others
  compared x b zero h = refl
  compared x b (suc n) h =
      rw (start-here n (omega arith), row-there n (omega arith), take-suc T.rows n [] (omega arith))
      (one_more x (get_or T.rows n []) b n (take n T.rows) (rows_but t S b n (end_of n T.rows))
      (length-take-le n T.rows (omega arith)) (compared x b n (omega arith)))

  -- all of them
  module _ {n : ℕ} (c : length T.rows ≡ n) where
    pub starts-enough : n ≤ length S
    starts-enough =
        rw (s, g)
        (omega (arith, c, length-append (starts 2 T.rows) (replicate (64 - length T.rows) 0), length-starts 2 T.rows))

    rows-compared : (x : List ℕ) (b : ℕ) → among x (rows_lent t (take n S) b) ≡ among x (others b T.rows)
    rows-compared x b =
        ap (among x) (rows-lent t S b n starts-enough)
        ∙ rw (← c, ← end-all) (compared x b (length T.rows) (omega arith) ∙ rw (take_all (length T.rows) T.rows (omega arith)))

    -- a row beside them is a row beside the others of the table
    pub beside : (w b : ℕ) (row : List ℕ) → row_of w (rows_lent t (take n S) b) row ≡ row_of w (others b T.rows) row
    unfolding row_of
    beside w b row = then-both (terms_from true row w 0 0 0) (λ m. rw (rows-compared (take m.next row) b))
