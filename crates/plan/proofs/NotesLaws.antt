-- The notes of a plan: their number, a branch's number taken apart, and that its parts have bits enough.
use Prim.Native.Nat.{ℕ, zero, suc, pred, ◌+◌, ◌*◌, ◌/◌, ◌%◌, ◌^◌, ◌≤◌, ◌<◌}
use mathlib.Core.Path.{◌≡◌, refl, sym, ◌∙◌, ap}
use mathlib.Core.Bool.{Bool, true, false, cond}
use mathlib.Core.List.{List, [], ◌∷◌, ◌++◌, Memᴰ}
use native.Mathlib.Omega.{arith}
use lib.ListN.{length, get_or, take, drop, length-append, length-drop}
use lib.Seq.{length-take-le}
use Rattle.cell.specs.Cell.{Cell, variable, name, number, arity}
use Rattle.term.specs.Terms.{root, close}
use Rattle.term.proofs.TermsLaws.{terms-long}
use Rattle.table.specs.All.{All}
use Rattle.table.proofs.AllLaws.{all-each, all-++, all_take, all_drop}
use Rattle.table.specs.Table.{up_from, Row, IsTable}
use Rattle.table.proofs.HeadLaws.{up-length}
use Rattle.plan.specs.Runs.{Run, runs}
use Rattle.plan.specs.Plans.{Plan, leaf, node, Branches, end, next, branches, branches_in}
use Rattle.plan.specs.Notes.{Branch, below, notes, notes_in, word, cell_in, skip_in, row_noted, slot_in, next_in, alone_in, flag, BranchFits}
use Rattle.plan.specs.code.Fits as of_row
use Rattle.plan.specs.code.Rows.{row_count}
use Rattle.plan.proofs.CheckLaws.{rows_fit}
use Rattle.plan.proofs.RunsLaws.{Each, Sized, group-all, group-sizes, group-rows, fits-some, runs_fit}
use Rattle.plan.proofs.SizeLaws.{bound}
use Rattle.limits.specs.Limits.{most_branches}

mutual
  unfolding notes branches

  pub notes-count : {k : ℕ} {rows : List (List ℕ)} (p : Plan k rows) (slots : List ℕ) (free row : ℕ) → length (notes p slots free row) ≡ branches p
  notes-count leaf slots free row = refl
  notes-count (node i h bs) slots free row = notes_in-count bs i slots free row

  pub notes_in-count : {k : ℕ} {gs : List Run} (bs : Branches k gs) (i : ℕ) (slots : List ℕ) (free row : ℕ)
      → length (notes_in bs i slots free row) ≡ branches_in bs
  notes_in-count end i slots free row = refl
  notes_in-count (next {g = g} p bs) i slots free row =
      let a = arity g.cell in
      let more = row + length g.rows in
      ap suc (length-append (notes p (below i a free slots) (free + a) row) (notes_in bs i slots free more)
      ∙ omega (arith, notes-count p (below i a free slots) (free + a) row, notes_in-count bs i slots free more))

-- the number of slots below a branch
pub below_length : (i a m : ℕ) (slots : List ℕ) → i < length slots → length (below i a m slots) + 1 ≡ length slots + a
below_length i a m slots h =
    let e = length-append (take i slots) (up_from m a ++ drop (suc i) slots) in
    let f = length-append (up_from m a) (drop (suc i) slots) in
    omega (arith, e, f, length-take-le i slots (omega arith), up-length m a, length-drop (suc i) slots)

-- What the number of a branch has in its fields.
pub record Parts (b : Branch) (w : ℕ) : Type 0 where
  pub cell : cell_in w ≡ b.cell
  pub skip : skip_in w ≡ b.skip
  pub row : row_noted w ≡ b.row
  pub slot : slot_in w ≡ b.slot
  pub next : next_in w ≡ b.next
  pub alone : alone_in w ≡ b.alone

fields : (c s r n l a : ℕ) → c < 2 ^ 32 → s < 2 ^ 12 → r < 2 ^ 6 → n < 2 ^ 6 → l < 2 ^ 6
    → let w = c + s * 2 ^ 32 + r * 2 ^ 44 + n * 2 ^ 51 + l * 2 ^ 57 + a * 2 ^ 63 in
    (w % 2 ^ 32 ≡ c) × (w / 2 ^ 32 % 2 ^ 12 ≡ s) × (w / 2 ^ 44 % 2 ^ 6 ≡ r) × (w / 2 ^ 51 % 2 ^ 6 ≡ n) × (w / 2 ^ 57 % 2 ^ 6 ≡ l)
    × (w / 2 ^ 63 ≡ a)
fields c s r n l a hc hs hr hn hl = (omega arith, omega arith, omega arith, omega arith, omega arith, omega arith)

pub word-parts : (b : Branch) → BranchFits b → Parts b (word b)
unfolding word
word-parts b f =
    let h = fields b.cell b.skip b.row b.next b.slot b.alone f.cell f.skip f.row (omega (arith, f.next)) f.slot in
    record { cell = h.0; skip = h.1; row = h.2; slot = h.4; next = h.3; alone = h.5 }

-- The parts have bits enough, where the rows are an accepted table's.

-- the cells of a row
abbrev Low : List ℕ → Type 0
Low r = All (λ (c : ℕ). c < 2 ^ 32) r

root-low : (i : ℕ) (xs : List ℕ) → Low xs → root i xs < 2 ^ 32
unfolding root
root-low i [] a = omega arith
root-low zero (c ∷ xs) a = a.0
root-low (suc i) (c ∷ xs) a = root-low (arity c + i) xs a.1

close-low : (i : ℕ) (xs : List ℕ) → Low xs → Low (close i xs)
unfolding close
close-low i [] a = tt
close-low zero (c ∷ xs) a = a.1
close-low (suc i) (c ∷ xs) a = (a.0, close-low (arity c + i) xs a.1)

-- those of a run, with its own
abbrev LowRun : ℕ → List ℕ → Type 0
LowRun c r = (c < 2 ^ 32) × Low r

runs-low : (i : ℕ) (rows : List (List ℕ)) → All Low rows → Each LowRun (runs i rows)
runs-low i = group-all (root i) (close i) Low LowRun (λ r a. (root-low i r a, close-low i r a))

-- what a run's first row tells: its cell, and how many places are open below
first-row : (n k c : ℕ) (rows : List (List ℕ)) → All (of_row.Fits n (arity c + k)) rows → All (LowRun c) rows → 0 < length rows
    → (c < 2 ^ 32) × (arity c + k ≤ n)
first-row n k c [] f a h = absurd (omega arith)
first-row n k c (r ∷ rs) f a h = (a.0.0, omega (arith, terms-long f.0.0))

-- the slots
abbrev Small : List ℕ → Type 0
Small slots = All (λ (s : ℕ). s < 2 ^ 6) slots

slot_small : (slots : List ℕ) (i : ℕ) → Small slots → get_or slots i 0 < 2 ^ 6
slot_small [] i a = omega arith
slot_small (s ∷ slots) zero a = a.0
slot_small (s ∷ slots) (suc i) a = slot_small slots i a.1

up_small : (free a : ℕ) → free + a ≤ 63 → Small (up_from free a)
unfolding up_from
up_small free zero h = tt
up_small free (suc a) h = (omega arith, up_small (suc free) a (omega arith))

below-small : (i a free : ℕ) (slots : List ℕ) → free + a ≤ 63 → Small slots → Small (below i a free slots)
below-small i a free slots h s =
    let P : ℕ → Type 0 = λ (x : ℕ). x < 2 ^ 6 in
    all-++ P (take i slots) (up_from free a ++ drop (suc i) slots) (all_take P i slots s)
    (all-++ P (up_from free a) (drop (suc i) slots) (up_small free a h) (all_drop P (suc i) slots s))

bit : (b : Bool) → cond b 1 0 < 2
bit true = omega arith
bit false = omega arith

-- k places are open, each row has at most n cells, and slots from `free` on are free: enough for all the arguments to come. The rows from `row` on are
-- at most 64
mutual
  unfolding notes branches

  fits : {k : ℕ} {rows : List (List ℕ)} (p : Plan k rows) (n : ℕ) (slots : List ℕ) (free row : ℕ) → All (of_row.Fits n k) rows → All Low rows
      → 0 < length rows → row + length rows ≤ 64 → Small slots → branches p ≤ most_branches → free + n ≤ 63 + k → All BranchFits (notes p slots free row)
  fits leaf n slots free row f a h m s b e = tt
  fits (node {k} {rows} i l bs) n slots free row f a h m s b e =
      let q : n ≡ suc (pred n) = omega (arith, fits-some n k rows f h) in
      fits_in bs i (pred n) (length rows) slots free row (runs_fit (pred n) k i l rows (rw q at f)) (runs-low i rows a)
      (group-sizes (root i) (close i) rows) (omega (arith, group-rows (root i) (close i) rows)) s b (omega arith)

  fits_in : {k : ℕ} {gs : List Run} (bs : Branches k gs) (i n m : ℕ) (slots : List ℕ) (free row : ℕ) → Each (λ (c : ℕ). of_row.Fits n (arity c + k)) gs
      → Each LowRun gs → Sized m gs → row + row_count gs ≤ 64 → Small slots → branches_in bs ≤ most_branches → free + n ≤ 63 + k
      → All BranchFits (notes_in bs i slots free row)
  fits_in end i n m slots free row f a z h s b e = tt
  fits_in (next {k} {g} p bs) i n m slots free row f a z h s b e =
      let c = g.cell in
      let r = first-row n k c g.rows f.0 a.0 z.0.0 in
      let more = row + length g.rows in (
        record { cell = r.0; skip = omega arith; row = omega (arith, z.0.0); slot = slot_small slots i s; next = omega arith; alone = bit (flag g) },
        all-++ BranchFits (notes p (below i (arity c) free slots) (free + arity c) row) (notes_in bs i slots free more)
            (fits p n (below i (arity c) free slots) (free + arity c) row f.0 (all-each (LowRun c) Low (λ r x. x.1) g.rows a.0) z.0.0
            (omega arith) (below-small i (arity c) free slots (omega arith) s) (omega arith) (omega arith))
            (fits_in bs i n m slots free more f.1 a.1 z.1 (omega arith) s (omega arith) e),
      )

cell-low : {c : ℕ} → Cell c → c < 2 ^ 32
cell-low (variable h) = omega arith
cell-low (name a h) = omega arith
cell-low (number h) = omega arith

cells_low : (xs : List ℕ) → ((c : ℕ) → Memᴰ c xs → Cell c) → Low xs
cells_low [] f = tt
cells_low (c ∷ xs) f = (cell-low (f c (Memᴰ.head refl)), cells_low xs (λ d m. f d (Memᴰ.tail m)))

-- A plan of an accepted table has at most 2,048 branches, and what is noted of each of them fits its number.
module _ {t : List ℕ} {w : ℕ} {rows : List (List ℕ)} (is : IsTable t w rows) (p : Plan w rows) where
  pub branches-few : branches p ≤ most_branches
  branches-few = omega (arith, bound p 32 (rows_fit w rows is.each) is.count.0)

  pub notes-fit : All BranchFits (notes p (up_from 1 w) 32 0)
  notes-fit =
      fits p 32 (up_from 1 w) 32 0 (rows_fit w rows is.each) (all-each (Row w) Low (λ r h. cells_low r h.cells) rows is.each) is.count.0
      (omega (arith, is.count.1)) (up_small 1 w (omega (arith, is.width))) (omega (arith, branches-few)) (omega (arith, is.width))
