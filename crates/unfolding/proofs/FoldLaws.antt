-- A straight run folded, one state after another.
use Prim.Native.Nat.{ℕ, suc, ◌+◌, ◌-◌, ◌≤◌, ◌<◌}
use mathlib.Core.Path.{◌≡◌, refl, sym, ◌∙◌, ap, subst}
use mathlib.Core.Bool.{true, true≢false}
use mathlib.Core.List.{List, [], ◌∷◌, append-nil}
use native.Mathlib.Omega.{arith}
use lib.ListN.{length}
use borrow.Author.Tests.{eqb-true}
use Rattle.cell.specs.Cell.{arity}
use Rattle.term.specs.Terms.{root, close}
use Rattle.term.proofs.TermsLaws.{terms-long}
use Rattle.table.specs.All.{All}
use Rattle.table.specs.Table.{count}
use Rattle.table.proofs.AllLaws.{all-each}
use Rattle.plan.specs.Runs.{Run, runs}
use Rattle.plan.specs.Plans.{Plan, leaf, node, Branches, end, next, write, writes}
use Rattle.plan.proofs.RunsLaws.{Each, Sized, group-all, group-sizes}
use Rattle.answer.specs.Skeleton.{hole, decide}
use Rattle.answer.proofs.CountLaws.{count_same, count-other}
use Rattle.clauses.specs.code.Walk.{fold_head, fold_head_in, fold_body, fold_body_in}
use Rattle.clauses.proofs.SolidLaws.{Hole?, a-hole, a-cell, hole?, fill-long}
use Rattle.clauses.proofs.SeatLaws.{Seat, SeatAt, seat-close, refill, one-solid, below-count}
use Rattle.unfolding.specs.code.Walk.{goes_on, Fills}

-- the one branch of a state
record OneIn {k : ℕ} {gs : List Run} (bs : Branches k gs) (i : ℕ) : Type 0 where
  run : Run
  tree : Plan (arity run.cell + k) run.rows
  runs-are : gs ≡ run ∷ []
  cells : writes bs ≡ run.cell ∷ write tree
  heads : (K : List ℕ) → fold_head_in bs i K ≡ fold_head tree (decide i run.cell K)
  bodies : (n : ℕ) → fold_body_in bs n ≡ fold_body tree n

one_in : {k : ℕ} {gs : List Run} (bs : Branches k gs) (i : ℕ) → length gs ≡ 1 → OneIn bs i
unfolding write fold_head fold_body
one_in end i e = absurd (let z : ◌≡◌ {A = ℕ} 0 1 = e in omega arith)
one_in (next {k} {g} {gs} p bs) i e = go gs bs e
  where
    go : (gs : List Run) (bs : Branches k gs) → suc (length gs) ≡ 1 → OneIn (next {g = g} p bs) i
    go [] end e =
        record {
          run = g;
          tree = p;
          runs-are = refl;
          cells = ap (λ (l : List ℕ). g.cell ∷ l) (append-nil (write p));
          heads = λ K. refl;
          bodies =
              λ n. refl;
        }
    go (g' ∷ gs) bs e = absurd (omega arith)

pub record One {k : ℕ} {rows : List (List ℕ)} (p : Plan k rows) : Type 0 where
  pub below : ℕ
  pub one_more : k ≡ suc below
  pub index : ℕ
  pub inside : index ≤ below
  pub run : Run
  pub tree : Plan (arity run.cell + below) run.rows
  pub runs-are : runs index rows ≡ run ∷ []
  pub cells : write p ≡ index ∷ (1 ∷ (run.cell ∷ write tree))
  pub heads : (K : List ℕ) → fold_head p K ≡ fold_head tree (decide index run.cell K)
  pub bodies : (n : ℕ) → fold_body p n ≡ fold_body tree n

pub one-branch : {k : ℕ} {rows : List (List ℕ)} (p : Plan k rows) → goes_on p ≡ true → One p
unfolding goes_on write fold_head fold_body
one-branch leaf e = absurd (true≢false (sym e))
one-branch (node {k} {rows} i h bs) e =
    let n = eqb-true (length (runs i rows)) 1 e in
    let o = one_in bs i n in
    record {
      below = k;
      one_more = refl;
      index = i;
      inside = h;
      run = o.run;
      tree = o.tree;
      runs-are = o.runs-are;
      cells = ap (λ (m : ℕ). i ∷ (m ∷ writes bs)) n ∙ ap (λ (l : List ℕ). i ∷ (1 ∷ l)) o.cells;
      heads = o.heads;
      bodies = o.bodies;
    }

-- no more holes than cells
pub count-short : (K : List ℕ) → count hole K ≤ length K
unfolding count
count-short [] = omega arith
count-short (d ∷ K) = go (hole? d) (count-short K)
  where
    go : {d : ℕ} → Hole? d → count hole K ≤ length K → count hole (d ∷ K) ≤ suc (length K)
    go a-hole h = omega (arith, count_same hole K)
    go (a-cell {c = d} n) h = omega (arith, count-other hole d K (λ p. n (sym p)))

-- a row that fills what is decided is short, and so is that
seat : {k : ℕ} (K x : List ℕ) → count hole K ≡ k → Fills k K x → Seat k x
seat {k} K x e f =
    let l = fill-long K x (rw e f.terms) in
    record { terms = f.terms; short = omega (arith, l, f.short, count-short K); symbols = f.symbols }

pub fills-short : {k : ℕ} (K : List ℕ) (rows : List (List ℕ)) → count hole K ≡ k → 0 < length rows → All (Fills k K) rows → length K ≤ 32
fills-short K [] e s a = absurd (omega arith)
fills-short K (x ∷ rows) e s a = omega (arith, fill-long K x (rw e a.0.terms), a.0.short, terms-long a.0.terms, e)

-- THE NEXT STATE of a run: its rows fill what is then decided
pub record Next {k : ℕ} {rows : List (List ℕ)} {p : Plan k rows} (o : One p) (K : List ℕ) : Type 0 where
  pub some : 0 < length o.run.rows
  pub places : count hole (decide o.index o.run.cell K) ≡ arity o.run.cell + o.below
  pub fills : All (Fills (arity o.run.cell + o.below) (decide o.index o.run.cell K)) o.run.rows
  pub there : o.index < count hole K

abbrev pub FillsAt : (i k : ℕ) (K : List ℕ) → ℕ → List ℕ → Type 0
FillsAt i k K c x = SeatAt k c x × Fills (arity c + k) (decide i c K) x

pub fills-close : (i k : ℕ) (K : List ℕ) → i ≤ k → count hole K ≡ suc k → (x : List ℕ) → Fills (suc k) K x → FillsAt i k K (root i x) (close i x)
fills-close i k K h e x f =
    let s = seat K x e f in
    let c = seat-close k i h x s in
    let q : suc k ≡ i + suc (k - i) = omega arith in
    let r = refill i (k - i) K x (rw q at s) in
    (c, record { terms = c.seat.terms; symbols = c.seat.symbols; short = rw r f.short })

pub fills-next : {k : ℕ} {rows : List (List ℕ)} {p : Plan k rows} (o : One p) (K : List ℕ) → count hole K ≡ k → 0 < length rows
    → All (Fills k K) rows → Next o K
fills-next {k} {rows} o K e s a =
    let i = o.index in
    let d = o.below in
    let c = o.run.cell in
    let m : count hole K ≡ suc d = e ∙ o.one_more in
    let all : All (Fills (suc d) K) rows = subst (λ (n : ℕ). All (Fills n K) rows) o.one_more a in
    let each : Each (FillsAt i d K) (runs i rows) = group-all (root i) (close i) (Fills (suc d) K) (FillsAt i d K) (fills-close i d K o.inside m) rows all in
    let here : Each (FillsAt i d K) (o.run ∷ []) = subst (Each (FillsAt i d K)) o.runs-are each in
    let sized : Sized (length rows) (o.run ∷ []) = subst (Sized (length rows)) o.runs-are (group-sizes (root i) (close i) rows) in
    let some : 0 < length o.run.rows = sized.0.0 in
    let seats = all-each (FillsAt i d K c) (SeatAt d c) (λ x f. f.0) o.run.rows here.0 in
    record {
      some = some;
      places = below-count i c d K m o.inside (one-solid d c o.run.rows seats some);
      fills = all-each (FillsAt i d K c) (Fills (arity c + d) (decide i c K)) (λ x f. f.1) o.run.rows here.0;
      there = omega (arith, m, o.inside);
    }
