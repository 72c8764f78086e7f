-- How many cells a program is: at most 127 clauses, each of four numbers and a head of at most 32 cells.
use Prim.Native.Nat.{ℕ, suc, ◌+◌, ◌*◌, ◌≤◌, ◌<◌}
use mathlib.Core.Path.{◌≡◌, sym, ap, subst}
use mathlib.Core.List.{List, [], ◌∷◌, ◌++◌}
use native.Mathlib.Omega.{arith}
use lib.ListN.{length, length-append}
use Rattle.cell.specs.Cell.{arity}
use Rattle.term.specs.Terms.{Terms, root, close}
use Rattle.term.proofs.Step.{Terms-fresh}
use Rattle.table.specs.All.{All}
use Rattle.table.specs.Table.{count, up_from, Head, IsTable}
use Rattle.table.proofs.AllLaws.{all-each, all-++}
use Rattle.table.proofs.HeadLaws.{up-length}
use Rattle.plan.specs.Runs.{Run, runs}
use Rattle.plan.specs.Plans.{Plan, leaf, node, Branches, end, next}
use Rattle.plan.proofs.RunsLaws.{Each, Sized, group-all, group-sizes}
use Rattle.answer.specs.Skeleton.{hole, decide}
use Rattle.answer.proofs.CountLaws.{up-distinct}
use Rattle.answer.proofs.SkeletonLaws.{count-all}
use Rattle.clauses.specs.Clauses.{Clause}
use Rattle.clauses.specs.Translate.{head_of, single, each}
use Rattle.clauses.specs.Program.{own, program}
use Rattle.clauses.specs.code.Walk.{splits, fold_head, fold_head_in, visited, visited_at, visited_in}
use Rattle.clauses.proofs.SolidLaws.{head-is, fill-long}
use Rattle.clauses.proofs.SeatLaws.{Seat, SeatAt, one-solid, seats, seat-row, blank, below-count}
use Rattle.clauses.proofs.WalkLaws.{clause-own, program-visited}
use Rattle.clauses.proofs.Theorems.{program-few}
use Rattle.unfolding.specs.Flat.{flat, flat_one}
use Rattle.unfolding.specs.code.Walk.{Fills}
use Rattle.unfolding.proofs.FoldLaws.{count-short, FillsAt, fills-close, fills-short}
use Rattle.unfolding.proofs.VisitLaws.{all-fills}

-- a head is as long as what is decided
head-long : (K : List ℕ) (n : ℕ) → count hole K ≡ n → n ≤ 32 → length (head_of K) ≡ length K
head-long K n e h =
    let t : Terms (count hole K) (up_from 0 n) = rw e (Terms-fresh (up-distinct 0 n (omega arith))) in
    omega (arith, ap length (head-is K n e), fill-long K (up_from 0 n) t, up-length 0 n, e)

-- the runs of a state's rows, which fill what is decided
runs-fill : (i k : ℕ) (K : List ℕ) → i ≤ k → count hole K ≡ suc k → (rows : List (List ℕ)) → All (Fills (suc k) K) rows
    → Each (FillsAt i k K) (runs i rows)
runs-fill i k K h e rows a = group-all (root i) (close i) (Fills (suc k) K) (FillsAt i k K) (fills-close i k K h e) rows a

one_of : (gs : List Run) (A B : List ℕ) → length A ≤ 32 → length B ≤ 32 → length (single gs A B) ≤ 32
one_of [] A B a b = a
one_of (g ∷ gs) A B a b = b

-- the rows of a run, by what was carried to it
fills-in : (i k : ℕ) (K : List ℕ) (g : Run) → All (FillsAt i k K g.cell) g.rows
    → All (Fills (arity g.cell + k) (decide i g.cell K)) g.rows
fills-in i k K g a = all-each (FillsAt i k K g.cell) (Fills (arity g.cell + k) (decide i g.cell K)) (λ x f. f.1) g.rows a

seats-in : (i k : ℕ) (K : List ℕ) (g : Run) → All (FillsAt i k K g.cell) g.rows → All (SeatAt k g.cell) g.rows
seats-in i k K g a = all-each (FillsAt i k K g.cell) (SeatAt k g.cell) (λ x f. f.0) g.rows a

-- A STRAIGHT RUN'S HEAD
mutual
  unfolding fold_head

  fold-short : {k : ℕ} {rows : List (List ℕ)} (p : Plan k rows) (K : List ℕ) → count hole K ≡ k → 0 < length rows → All (Fills k K) rows
      → length (fold_head p K) ≤ 32
  fold-short (leaf {rows}) K e s a = fills-short K rows e s a
  fold-short (node {k} {rows} i h bs) K e s a =
      let l = fills-short K rows e s a in
      fold_in-short bs i K e h (omega (arith, l, e, count-short K)) l (runs-fill i k K h e rows a) (length rows)
      (group-sizes (root i) (close i) rows)

  fold_in-short : {k : ℕ} {gs : List Run} (bs : Branches k gs) (i : ℕ) (K : List ℕ) → count hole K ≡ suc k → i ≤ k → suc k ≤ 32
      → length K ≤ 32 → Each (FillsAt i k K) gs → (z : ℕ) → Sized z gs → length (fold_head_in bs i K) ≤ 32
  fold_in-short end i K e h m l a z s = l
  fold_in-short (next {k} {g} {gs} p bs) i K e h m l a z s =
      let c = one-solid k g.cell g.rows (seats-in i k K g a.0) s.0.0 in
      one_of gs (fold_head p (decide i g.cell K)) (head_of K)
      (fold-short p (decide i g.cell K) (below-count i g.cell k K e h c) s.0.0 (fills-in i k K g a.0))
      (omega (arith, head-long K (suc k) e m))

-- ALL HEADS
abbrev Short : Clause → Type 0
Short c = length c.head ≤ 32

own-short : {k : ℕ} {gs : List Run} (bs : Branches k gs) (i : ℕ) → i ≤ k → Each (FillsAt i k (blank k)) gs → (z : ℕ) → Sized z gs
    → (j w n : ℕ) → All Short (own j w n (each bs i))
unfolding each own
own-short end i h a z s j w n = tt
own-short (next {k} {g} p bs) i h a z s j w n =
    let B = blank k in
    let c = one-solid k g.cell g.rows (seats-in i k B g a.0) s.0.0 in
    let f = fold-short p (decide i g.cell B) (below-count i g.cell k B (count-all (suc k)) h c) s.0.0 (fills-in i k B g a.0) in
    rw (clause-own p (decide i g.cell B) (each bs i) j w n s.0.0) (f, own-short bs i h a.1 z s.1 j w (n + splits p))

all_one : (gs : List Run) (A B : List Clause) → All Short A → All Short B → All Short (single gs A B)
all_one [] A B a b = a
all_one (g ∷ gs) A B a b = b

mutual
  unfolding visited

  visited-short : {k : ℕ} {rows : List (List ℕ)} (p : Plan k rows) (n : ℕ) → All (Seat k) rows → All Short (visited p n)
  visited-short leaf n a = tt
  visited-short (node {k} {rows} i h bs) n a =
      visited_at-short bs i n h (runs-fill i k (blank k) h (count-all (suc k)) rows (all-fills (suc k) rows a)) (length rows)
      (group-sizes (root i) (close i) rows)

  visited_at-short : {k : ℕ} {gs : List Run} (bs : Branches k gs) (i n : ℕ) → i ≤ k → Each (FillsAt i k (blank k)) gs → (z : ℕ) → Sized z gs
      → All Short (visited_at bs i n)
  visited_at-short end i n h a z s = tt
  visited_at-short (next {k} {g} {gs} p bs) i n h a z s =
      let b = seats k g.cell g.rows (seats-in i k (blank k) g a.0) in
      let o = own n (suc k) (suc n) (each (next {g = g} p bs) i) in
      let v = visited p (suc n) in
      let r = visited_in bs (suc n + splits p) in
      all_one gs (visited p n) (o ++ (v ++ r)) (visited-short p n b)
      (all-++ Short o (v ++ r) (own-short (next {g = g} p bs) i h a z s n (suc k) (suc n))
      (all-++ Short v r (visited-short p (suc n) b) (visited_in-short bs i (suc n + splits p) a.1)))

  visited_in-short : {k : ℕ} {gs : List Run} (bs : Branches k gs) (i n : ℕ) → Each (FillsAt i k (blank k)) gs → All Short (visited_in bs n)
  visited_in-short end i n a = tt
  visited_in-short (next {k} {g} p bs) i n a =
      all-++ Short (visited p n) (visited_in bs (n + splits p)) (visited-short p n (seats k g.cell g.rows (seats-in i k (blank k) g a.0)))
      (visited_in-short bs i (n + splits p) a.1)

program-short : {rows : List (List ℕ)} (w : ℕ) → 1 ≤ w → (p : Plan w rows) → All (Seat w) rows → 0 < length rows → All Short (program p)
program-short w h leaf a s = absurd (omega arith)
program-short {rows} w h (node {k} i l bs) a s =
    let f = runs-fill i k (blank k) l (count-all (suc k)) rows (all-fills (suc k) rows a) in
    let z = group-sizes (root i) (close i) rows in
    let o = own 0 (suc k) 1 (each bs i) in
    subst (All Short) (sym (program-visited rows i l bs a s))
    (all-++ Short o (visited_in bs 1) (own-short bs i l f (length rows) z 0 (suc k) 1) (visited_in-short bs i 1 f))

flat-long : (cs : List Clause) → All Short cs → length (flat cs) ≤ 36 * length cs
unfolding flat
flat-long [] a = omega arith
flat-long (c ∷ cs) a = omega (arith, a.0, flat-long cs a.1, length-append (flat_one c) (flat cs))

-- THE WHOLE PROGRAM of an accepted plan: at most 127 · 36 cells
pub flat-short : {t : List ℕ} {w : ℕ} {rows : List (List ℕ)} → IsTable t w rows → (tree : Plan w rows) → length (flat (program tree)) ≤ 4572
flat-short {w = w} {rows} i tree =
    let a = program-short w i.width.0 tree (all-each (Head w) (Seat w) (seat-row w) rows i.each) i.count.0 in
    omega (arith, flat-long (program tree) a, program-few i tree)
