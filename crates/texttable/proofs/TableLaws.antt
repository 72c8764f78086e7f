-- The cells of a table and the list of its names, as they are made: width, number of rows, rows.
use Prim.Native.Nat.{ℕ, ◌+◌, ◌-◌, ◌≤◌}
use mathlib.Core.Path.{◌≡◌, refl, sym, ap, ap₂, ◌∙◌}
use mathlib.Core.List.{List, [], ◌∷◌, ◌++◌, append-nil}
use native.Mathlib.Omega.{arith}
use lib.ListN.{length, take, drop, set, length-drop, length-set, drop_of_length-le}
use lib.Seq.{take_all, drop-drop}
use borrow.Rule.Slice.PartMut.{put_mid, post_of, mid_len}
use Rattle.refusal.specs.Read.{read}
use Rattle.grammar.specs.Grammar.{Fact}
use Rattle.grammar.specs.Meaning.{symbols_of, width_of, table_cells}
use Rattle.grammar.specs.Taken.{Taken, taken}
use Rattle.loading.specs.Items.{items_of, numbering, shapes}
use Rattle.loading.proofs.ItemLaws.{cells-shapes, shapes-long}
use Rattle.loading.proofs.WideLaws.{text-wide}
use Rattle.scan.specs.Scan.{Counts}
use Rattle.scan.specs.declared.Counted.{Counted}
use Rattle.scan.proofs.SaysLaws.{counts-read}
use Rattle.texttable.specs.Words.{numbers_of}
use Rattle.texttable.specs.code.Cells.{Writes, Written, TableIs}
use Rattle.limits.specs.Limits.{most_names, most_table_cells}

pub cells-long : (t : List ℕ) (facts : List Fact) → length (table_cells t facts) ≡ length (symbols_of facts) + 2
unfolding table_cells
cells-long t facts =
    omega (arith, ap length (sym (cells-shapes t facts [])), shapes-long (symbols_of facts) (numbering t [] [] (items_of facts) ++ []))

-- no more arguments than symbols, nor facts
pub counts-wide : {t : List ℕ} {c : Counted} → Counts t c → (c.width ≤ c.symbols) × (c.facts ≤ c.symbols)
counts-wide {t} {c} C = by C.taken
  where
    by : Taken t (read C.facts) → (c.width ≤ c.symbols) × (c.facts ≤ c.symbols)
    by (taken h x e) = let w = text-wide t x in (omega (arith, w.0, C.width, C.symbols), omega (arith, w.1, C.number, C.symbols))

rows_are : (t : List ℕ) (facts : List Fact) → table_cells t facts ≡ width_of facts ∷ length facts ∷ shapes (symbols_of facts) (numbers_of t facts)
unfolding table_cells
rows_are t facts =
    ap (λ (l : List ℕ). width_of facts ∷ length facts ∷ l)
    (sym (cells-shapes t facts []) ∙ ap (shapes (symbols_of facts)) (append-nil (numbers_of t facts)))

-- the first two cells are stored, and the others written behind them
front-stored : (made : List ℕ) (w n : ℕ) → 2 ≤ length made → set (set made 0 w) 1 n ≡ w ∷ n ∷ drop 2 made
front-stored [] w n h = absurd (omega arith)
front-stored (a ∷ []) w n h = absurd (omega arith)
front-stored (a ∷ b ∷ made) w n h = refl

module _ (t list made : List ℕ) (c : Counted) (C : Counts t c) (low : c.symbols ≤ most_names) (size : length list ≡ most_names)
    (room : length made ≡ most_table_cells) where
  abbrev pub stored : List ℕ
  stored = set (set made 0 c.width) 1 c.facts

  abbrev pub behind : List ℕ
  behind = take (length stored - 2) (drop 2 stored)

  pub stored-long : length stored ≡ most_table_cells
  stored-long = length-set (set made 0 c.width) 1 c.facts ∙ length-set made 0 c.width ∙ room

  pub behind-long : length behind ≡ most_names
  behind-long = mid_len 2 (length stored) stored (omega arith) ∙ omega (arith, stored-long)

  -- they are all the others
  behind-is : behind ≡ drop 2 made
  behind-is =
      let e = ap (drop 2) (front-stored made c.width c.facts (omega arith)) in
      ap (take (length stored - 2)) e ∙ take_all (length stored - 2) (drop 2 made) (omega (arith, length-drop 2 made, stored-long))

  none_after : post_of 2 (length stored - 2) stored ≡ []
  none_after = drop_of_length-le (drop 2 stored) {i = length stored - 2} (omega (arith, length-drop 2 stored))

  abbrev pub writes : Writes c.symbols t list behind
  writes =
      record {
        facts = C.facts;
        accepted = (counts-read C).1;
        text = (counts-read C).0;
        for-list = size;
        for-cells = omega (arith, C.symbols, low, behind-long);
        few = omega (arith, C.symbols);
      }

  pub table-made : (list' out : List ℕ) (r : ℕ) → Written t C.facts behind list list' out r
      → TableIs t C.facts list list' made (put_mid 2 (length stored - 2) stored out) r
  table-made list' out r W =
      let fs = C.facts in
      let k = cells-long t fs in
      let cells = shapes (symbols_of fs) (numbers_of t fs) in
      let rows : table_cells t fs ≡ c.width ∷ c.facts ∷ cells = rows_are t fs ∙ ap₂ (λ (w n : ℕ). w ∷ n ∷ cells) C.width C.number in
      let o : out ≡ cells ++ drop (length (table_cells t fs)) made =
      W.cells
      ∙ ap (λ (l : List ℕ). cells ++ drop (length (symbols_of fs)) l) behind-is
      ∙ ap (λ (l : List ℕ). cells ++ l) (drop-drop (length (symbols_of fs)) 2 made)
      ∙ (let z : 2 + length (symbols_of fs) ≡ length (table_cells t fs) = omega (arith, k) in ap (λ (n : ℕ). cells ++ drop n made) z) in
      record {
        count = W.count;
        names = W.names;
        wrote =
            ap₂ (λ (xs ys : List ℕ). take 2 xs ++ (ys ++ post_of 2 (length stored - 2) stored)) (front-stored made c.width c.facts (omega arith)) o
            ∙ ap (λ (l : List ℕ). c.width ∷ c.facts ∷ ((cells ++ drop (length (table_cells t fs)) made) ++ l)) none_after
            ∙ ap (λ (l : List ℕ). c.width ∷ c.facts ∷ l) (append-nil (cells ++ drop (length (table_cells t fs)) made))
            ∙ ap (λ (l : List ℕ). l ++ drop (length (table_cells t fs)) made) (sym rows);
      }
