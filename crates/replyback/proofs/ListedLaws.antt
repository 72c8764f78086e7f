-- The names in the cells of a row, of a table and of a goal are in the list by which they are numbered.
use Prim.Native.Nat.{ℕ, ◌+◌, ◌^◌, ◌≤◌, ◌<◌}
use mathlib.Core.Path.{◌≡◌, refl, sym, ap, subst, ◌∙◌}
use mathlib.Core.Logic.{⊎_elim}
use mathlib.Core.List.{List, [], ◌∷◌, ◌++◌, flatten}
use mathlib.Core.List.Memᴰ
use mathlib.Core.List.{Memᴰ}
use native.Mathlib.Omega.{arith}
use lib.ListN.{length, length-append}
use lib.Seq.{slice}
use Rattle.cell.specs.Cell.{kind_of, number_of, variable_cell, name_cell, number_cell}
use Rattle.refusal.specs.Read.{read}
use Rattle.table.specs.Table.{Table, table_of}
use Rattle.table.proofs.Accepted.{is-table, table-short}
use Rattle.grammar.specs.Grammar.{Symbol, Fact}
use Rattle.grammar.specs.Meaning.{Place, names_of, table_cells}
use Rattle.grammar.specs.Numbering as numbering
use Rattle.grammar.specs.Numbering.{Words, words_at, NumberedRow, Rows}
use Rattle.grammar.proofs.NthLaws.{nth-below}
use Rattle.grammar.proofs.Numbered.{cells_are}

-- the names among some cells are in a list of so many
abbrev pub Listed : ℕ → List ℕ → Type 0
Listed n cells = (c : ℕ) → Memᴰ c cells → kind_of c ≡ 1 → number_of c < n

listed-none : (n : ℕ) → Listed n []
listed-none n c m k = absurd (Memᴰ.not-nil m)

listed_more : {n d : ℕ} {cells : List ℕ} → (kind_of d ≡ 1 → number_of d < n) → Listed n cells → Listed n (d ∷ cells)
listed_more {n} h l c m k =
    ⊎_elim (λ p. subst (λ (x : ℕ). kind_of x ≡ 1 → number_of x < n) (sym p) h k) (λ q. l c q k) (Memᴰ.cases_cons m)

listed-both : {n : ℕ} {xs ys : List ℕ} → Listed n xs → Listed n ys → Listed n (xs ++ ys)
listed-both {xs = xs} l r c m k = ⊎_elim (λ p. l c p k) (λ q. r c q k) (Memᴰ.append_cases xs m)

-- cell by cell
name-listed : {n k c : ℕ} (a : ℕ) → c ≡ name_cell a k → k < n → kind_of c ≡ 1 → number_of c < n
name-listed a e l h = omega arith

number-other : {n c : ℕ} (v : ℕ) → c ≡ number_cell v → kind_of c ≡ 1 → number_of c < n
number-other v e h = absurd (omega arith)

variable-other : {n v c : ℕ} → c ≡ variable_cell v → v < 2 ^ 30 → kind_of c ≡ 1 → number_of c < n
variable-other e l h = absurd (omega arith)

-- A ROW
pub row_listed : {t : List ℕ} {words met : Words} {ss : List Symbol} {cells : List ℕ} → NumberedRow t words met ss cells
    → length met + length cells ≤ 2 ^ 30 → Listed (length words) cells
row_listed {words = words} numbering.none h = listed-none (length words)
row_listed (numbering.a-name {a = a} f c r) h = listed_more (name-listed a c (nth-below f.there)) (row_listed r (omega arith))
row_listed (numbering.a-number {v = v} c r) h = listed_more (number-other v c) (row_listed r (omega arith))
row_listed {t} {met = met} (numbering.unnamed {s = s} {e = e} u c r) h =
    listed_more (variable-other c (omega arith)) (row_listed r (omega (arith, length-append met (slice s e t ∷ []))))
row_listed {t} {met = met} (numbering.first {s = s} {e = e} u c r) h =
    listed_more (variable-other c (omega arith)) (row_listed r (omega (arith, length-append met (slice s e t ∷ []))))
row_listed (numbering.again u g c r) h = let b = nth-below g in listed_more (variable-other c (omega arith)) (row_listed r (omega arith))

rows-listed : {t : List ℕ} {ns : List Place} {fs : List Fact} {cells : List ℕ} → Rows t ns fs cells → length cells ≤ 2 ^ 30
    → Listed (length (words_at t ns)) cells
rows-listed {t} {ns} numbering.none h = listed-none (length (words_at t ns))
rows-listed {t} {ns} (numbering.more {row = row} {others = others} r rs e) h =
    let l = ap length e ∙ length-append row others in
    subst (Listed (length (words_at t ns))) (sym e) (listed-both (row_listed r (omega arith)) (rows-listed rs (omega arith)))

-- A TABLE'S ROW
member-flat : {c : ℕ} {row : List ℕ} (rows : List (List ℕ)) → Memᴰ row rows → Memᴰ c row → Memᴰ c (flatten rows)
unfolding flatten
member-flat [] m n = absurd (Memᴰ.not-nil m)
member-flat {c} (r ∷ rows) m n =
    ⊎_elim (λ p. Memᴰ.append_left (flatten rows) (subst (Memᴰ c) p n)) (λ q. Memᴰ.append_right r (member-flat rows q n))
    (Memᴰ.cases_cons m)

same_rows : {w n w' n' : ℕ} {xs ys zs : List ℕ} → xs ≡ w ∷ n ∷ ys → xs ≡ w' ∷ n' ∷ zs → xs ≡ w ∷ n ∷ zs
same_rows e f = cc

table-rows : (t : List ℕ) (fs : List Fact) {T : Table} → table_of (table_cells t fs) ≡ read T → Rows t (names_of t fs) fs (flatten T.rows)
unfolding table_cells
table-rows t fs {T} e = (cells_are t fs (flatten T.rows)).1 (same_rows refl (is-table (table_cells t fs) e).cells)

pub table-listed : (t : List ℕ) (fs : List Fact) {T : Table} {row : List ℕ} → table_of (table_cells t fs) ≡ read T → Memᴰ row T.rows
    → Listed (length (words_at t (names_of t fs))) row
table-listed t fs {T} e m c n k =
    let l = table-short (table_cells t fs) e in
    let i = ap length (is-table (table_cells t fs) e).cells in
    rows-listed (table-rows t fs e) (omega arith) c (member-flat T.rows m n) k
