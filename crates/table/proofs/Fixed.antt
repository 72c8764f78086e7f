-- Two results that a promise allows are equal, for every public function of the crate.
use mathlib.Core.Path.{◌≡◌, sym, ◌∙◌, ap, ap₂}
use mathlib.Core.List.{List}
use Prim.Native.Nat.{ℕ}
use native.Mathlib.Omega.{arith}
use Rattle.std.specs.Prelude.{Result, Ok, Err}
use Rattle.table.specs.declared.TableSize.{TableSize}
use Rattle.table.specs.declared.TableRead.{TableRead}
use Rattle.table.specs.declared.GoalSize.{GoalSize}
use Rattle.refusal.specs.declared.Refusal.{Refusal}
use Rattle.table.specs.declared.Part.{Part}
use Rattle.refusal.specs.Refusal.{told}
use Rattle.refusal.specs.Read.{Read}
use Rattle.table.specs.Table.{Table, table_of, goal_of, goal_with, row_of, row_in, TableReads, RowPlace}
use Rattle.table.specs.Table.{table_told, read_told, starts_told, goal_told, goal_says, row_told}
use Rattle.refusal.proofs.RefusalLaws.{told-one}
use Rattle.table.proofs.PartLaws.{part}

-- an answer with two numbers, or a refusal, tells all that its value has
pub table_told-one : (a b : Result TableSize Refusal) → table_told a ≡ table_told b → a ≡ b
table_told-one (Ok t) (Ok u) e = let w : t.width ≡ u.width = cc in let n : t.rows ≡ u.rows = cc in λ i. Ok (record { width = w i; rows = n i })
table_told-one (Ok t) (Err g) e = absurd (let z : ◌≡◌ {A = ℕ} 0 1 = cc in omega arith)
table_told-one (Err f) (Ok u) e = absurd (let z : ◌≡◌ {A = ℕ} 0 1 = cc in omega arith)
table_told-one (Err f) (Err g) e = let q : told f ≡ told g = cc in ap Err (told-one q)

goal_told-one : (a b : Result GoalSize Refusal) → goal_told a ≡ goal_told b → a ≡ b
goal_told-one (Ok t) (Ok u) e = let w : t.cells ≡ u.cells = cc in let n : t.vars ≡ u.vars = cc in λ i. Ok (record { cells = w i; vars = n i })
goal_told-one (Ok t) (Err g) e = absurd (let z : ◌≡◌ {A = ℕ} 0 1 = cc in omega arith)
goal_told-one (Err f) (Ok u) e = absurd (let z : ◌≡◌ {A = ℕ} 0 1 = cc in omega arith)
goal_told-one (Err f) (Err g) e = let q : told f ≡ told g = cc in ap Err (told-one q)

row_told-one : (a b : Result ℕ Refusal) → row_told a ≡ row_told b → a ≡ b
row_told-one (Ok n) (Ok m) e = cc
row_told-one (Ok n) (Err g) e = absurd (let z : ◌≡◌ {A = ℕ} 0 1 = cc in omega arith)
row_told-one (Err f) (Ok m) e = absurd (let z : ◌≡◌ {A = ℕ} 0 1 = cc in omega arith)
row_told-one (Err f) (Err g) e = let q : told f ≡ told g = cc in ap Err (told-one q)

read_told-one : (a b : Result TableRead Refusal) → read_told a ≡ read_told b → starts_told a ≡ starts_told b → a ≡ b
read_told-one (Ok t) (Ok u) e q =
    let w : t.width ≡ u.width = cc in let n : t.rows ≡ u.rows = cc in λ i. Ok (record { width = w i; rows = n i; starts = q i })
read_told-one (Ok t) (Err g) e q = absurd (let z : ◌≡◌ {A = ℕ} 0 1 = cc in omega arith)
read_told-one (Err f) (Ok u) e q = absurd (let z : ◌≡◌ {A = ℕ} 0 1 = cc in omega arith)
read_told-one (Err f) (Err g) e q = let s : told f ≡ told g = cc in ap Err (told-one s)

-- what is answered for a reading of a table
pub reads-fixed : {x : Read Table} {r s : Result TableRead Refusal} → TableReads x r → TableReads x s → r ≡ s
reads-fixed {r = r} {s} p q = read_told-one r s (p.answer ∙ sym q.answer) (p.starts ∙ sym q.starts)

-- read_table
pub table-fixed : (t : List ℕ) {r s : Result TableRead Refusal} → TableReads (table_of t) r → TableReads (table_of t) s → r ≡ s
table-fixed t p q = reads-fixed p q

-- goal_for
pub goal-for-fixed : (w : ℕ) (g : List ℕ) {r s : Result GoalSize Refusal} → goal_told r ≡ goal_says g (goal_of w g) → goal_told s ≡ goal_says g (goal_of w g) → r ≡ s
goal-for-fixed w g {r} {s} p q = goal_told-one r s (p ∙ sym q)

-- read_goal
pub goal-fixed : (t g : List ℕ) {r s : Result GoalSize Refusal} → goal_told r ≡ goal_says g (goal_with t g) → goal_told s ≡ goal_says g (goal_with t g) → r ≡ s
goal-fixed t g {r} {s} p q = goal_told-one r s (p ∙ sym q)

-- row_beside
pub row-beside-fixed : (w : ℕ) (others : List (List ℕ)) (row : List ℕ) {r s : Result ℕ Refusal} → row_told r ≡ row_of w others row
    → row_told s ≡ row_of w others row → r ≡ s
row-beside-fixed w others row {r} {s} p q = row_told-one r s (p ∙ sym q)

-- row_place
pub place-fixed : (t : List ℕ) (r : ℕ) {p q : Part} → RowPlace (table_of t) r p → RowPlace (table_of t) r q → p ≡ q
place-fixed t r {p} {q} l m =
    let a : p.start ≡ q.start = l.start ∙ sym m.start in
    ap₂ part a (l.end ∙ rw a (sym m.end))

-- row: the cells of the part that is handed out
pub row-fixed : (t : List ℕ) (r : ℕ) {p q : List ℕ} → p ≡ row_in (table_of t) r → q ≡ row_in (table_of t) r → p ≡ q
row-fixed t r p q = p ∙ sym q
