-- A variable that stands twice, by how often each cell stands in a list; and the rows of runs, cell by cell.
use Prim.Native.Nat.{ℕ, zero, suc, ◌+◌, ◌≤◌, ◌<◌}
use mathlib.Core.Path.{◌≡◌, refl, sym, ◌∙◌, ap, subst}
use mathlib.Core.Logic.{⊎_elim, by_cases}
use mathlib.Core.Bool.{Bool, true, false, cond, ◌&&◌, ◌||◌, true≢false}
use mathlib.Core.List.{List, [], ◌∷◌, Memᴰ}
use native.Mathlib.Decide.{ℕ_discrete}
use native.Mathlib.Omega.{arith}
use lib.Dec.{eqb, ltb}
use lib.ListN.{length}
use borrow.Author.Tests.{ne_eqb, eq-eqb, le-ltb, ltb-false}
use Rattle.cell.specs.Cell.{arity, is_var}
use Rattle.term.specs.Terms.{Terms, more, root, close}
use Rattle.term.proofs.Tests.{bool_cases, eqb_same}
use Rattle.term.proofs.PlaceLaws.{close-terms, close-length}
use Rattle.table.specs.All.{All}
use Rattle.table.specs.Table.{count, Head, Row, Distinct, IsTable}
use Rattle.table.proofs.AllLaws.{all-each}
use Rattle.plan.specs.Runs.{Run, agree, join_if, join, runs}
use Rattle.plan.specs.Plans.{Plan, leaf, node, Branches, end, next}
use Rattle.plan.specs.Notes.{twice}
use Rattle.plan.specs.code.Cells.{Good, Cells, CellsIn}
use Rattle.plan.proofs.OneRow.{runs-distinct, no_cells}
use Rattle.plan.proofs.RunsLaws.{agree-eq, agree-fixed, Each, Sized, group-all, group-sizes}

or-false : (a b : Bool) → (a || b) ≡ false → (a ≡ false) × (b ≡ false)
or-false true b e = absurd (true≢false e)
or-false false b e = (refl, e)

false-or : (a b : Bool) → a ≡ false → b ≡ false → (a || b) ≡ false
false-or true b e f = absurd (true≢false e)
false-or false b e f = f

and-off : (a b : Bool) → a ≡ true → (a && b) ≡ false → b ≡ false
and-off true b h e = e
and-off false b h e = absurd (true≢false (sym h))

and-false : (b : Bool) → (b && false) ≡ false
and-false true = refl
and-false false = refl

-- no variable stands twice where each stands at most once
pub twice-once : (xs : List ℕ) → twice xs ≡ false → (v : ℕ) → is_var v ≡ true → count v xs ≤ 1
unfolding twice count
twice-once [] e v h = omega arith
twice-once (c ∷ xs) e v h =
    let o = or-false (is_var c && ltb 0 (count c xs)) (twice xs) e in
    by_cases (ℕ_discrete v c)
    (λ q. let z = and-off (is_var c) (ltb 0 (count c xs)) (ap is_var (sym q) ∙ h) o.0 in let n = ltb-false 0 (count c xs) z in
    let m : count v xs ≤ 0 = subst (λ (x : ℕ). count x xs ≤ 0) (sym q) n in
    rw (eq-eqb v c q) (omega arith))
    (λ q. let n = twice-once xs o.1 v h in rw (ne_eqb v c q) (omega arith))

pub once-twice : (xs : List ℕ) → ((v : ℕ) → is_var v ≡ true → count v xs ≤ 1) → twice xs ≡ false
unfolding twice count
once-twice [] l = refl
once-twice (c ∷ xs) l =
    let r = once-twice xs (λ v h. let n = l v h in omega arith) in
    ⊎_elim
    (λ h. let n = l c h in let o : ◌≡◌ {A = ℕ} (cond (eqb c c) 1 0) 1 = rw (eqb_same c) in
    let z = le-ltb 0 (count c xs) (omega arith) in
    false-or (is_var c && ltb 0 (count c xs)) (twice xs) (rw z (and-false (is_var c))) r)
    (λ h. false-or (is_var c && ltb 0 (count c xs)) (twice xs) (rw h refl) r)
    (bool_cases (is_var c))

-- lists in which each variable stands as often
pub twice_same : (xs ys : List ℕ) → ((v : ℕ) → is_var v ≡ true → count v xs ≡ count v ys) → twice xs ≡ twice ys
twice_same xs ys h = ⊎_elim
    (λ e. ⊎_elim (λ f. e ∙ sym f)
    (λ f. absurd (true≢false (sym e ∙ once-twice xs (λ v q. let o = twice-once ys f v q in let z = h v q in omega arith)))) (bool_cases (twice ys)))
    (λ e. e ∙ sym (once-twice ys (λ v q. let o = twice-once xs e v q in let z = h v q in omega arith)))
    (bool_cases (twice xs))

-- the cell at a place and the others
pub count-close : (v i k : ℕ) (xs : List ℕ) → Terms (suc k) xs → i ≤ k → count v xs ≡ count v (root i xs ∷ close i xs)
unfolding count root close
count-close v zero k (c ∷ xs) t h = refl
count-close v (suc i) zero (c ∷ xs) t h = absurd (omega arith)
count-close v (suc i) (suc k) (c ∷ xs) (more t) h =
    let q : arity c + suc k ≡ suc (arity c + k) = omega arith in
    let ih = count-close v (arity c + i) (arity c + k) xs (rw q at t) (omega arith) in
    omega arith
count-close v zero k [] t h = elim t [ ]
count-close v (suc i) zero [] t h = elim t [ ]
count-close v (suc i) (suc k) [] t h = elim t [ ]

-- a variable's run has one row
abbrev pub Lone : List Run → Type 0
Lone gs = All (λ (g : Run). is_var g.cell ≡ true → length g.rows ≡ 1) gs

join-lone : (c : ℕ) (r : List ℕ) (gs : List Run) → Lone gs → Lone (join c r gs)
join-lone c r [] a = (λ v. refl, tt)
join-lone c r (g ∷ gs) a = go (agree c g.cell) refl
  where
    go : (b : Bool) → agree c g.cell ≡ b → Lone (join_if b c r g gs)
    go true e = (λ v. absurd (true≢false (sym v ∙ ap is_var (sym (agree-eq c g.cell e)) ∙ agree-fixed c g.cell e)), a.1)
    go false e = (λ v. refl, a)

pub runs-lone : (i : ℕ) (rows : List (List ℕ)) → Lone (runs i rows)
runs-lone i [] = tt
runs-lone i (r ∷ rs) = join-lone (root i r) (close i r) (runs i rs) (runs-lone i rs)

-- What all cells of the rows have, all branches of a plan have.
module _ (P : ℕ → Type 0) where
  root-all : (i k : ℕ) (xs : List ℕ) → Terms (suc k) xs → i ≤ k → All P xs → P (root i xs)
  unfolding root
  root-all zero k (c ∷ xs) t h a = a.0
  root-all (suc i) zero (c ∷ xs) t h a = absurd (omega arith)
  root-all (suc i) (suc k) (c ∷ xs) (more t) h a =
      let q : arity c + suc k ≡ suc (arity c + k) = omega arith in
      root-all (arity c + i) (arity c + k) xs (rw q at t) (omega arith) a.1
  root-all zero k [] t h a = elim t [ ]
  root-all (suc i) zero [] t h a = elim t [ ]
  root-all (suc i) (suc k) [] t h a = elim t [ ]

  close-all : (i : ℕ) (xs : List ℕ) → All P xs → All P (close i xs)
  unfolding close
  close-all i [] a = tt
  close-all zero (c ∷ xs) a = a.1
  close-all (suc i) (c ∷ xs) a = (a.0, close-all (arity c + i) xs a.1)

  good-close : (i k : ℕ) (r : List ℕ) → i ≤ k → Good P (suc k) r → Good P (arity (root i r) + k) (close i r)
  good-close i k r h g =
      record {
        terms = close-terms i g.terms h;
        short = omega (arith, close-length i g.terms (omega arith), g.short);
        cells =
            close-all i r g.cells;
      }

  -- of a run's rows
  first_good : (k c : ℕ) (rows : List (List ℕ)) → 0 < length rows → All (λ (r : List ℕ). P c × Good P (arity c + k) r) rows
      → P c × All (Good P (arity c + k)) rows
  first_good k c [] h a = absurd (omega arith)
  first_good k c (r ∷ rows) h a = (a.0.0, all-each (λ (r : List ℕ). P c × Good P (arity c + k) r) (Good P (arity c + k)) (λ r g. g.1) (r ∷ rows) a)

  -- where no place is open, rows of which none is left twice are one
  last : (k : ℕ) (g : Run) → All (Good P (arity g.cell + k)) g.rows → Distinct g.rows → 0 < length g.rows → arity g.cell + k ≡ 0
      → length g.rows ≡ 1
  last k g a d h e =
      no_cells g.rows (rw e at (all-each (Good P (arity g.cell + k)) (Terms (arity g.cell + k)) (λ r x. x.terms) g.rows a)) d h

  mutual
    unfolding Cells

    cells-all : {k : ℕ} {rows : List (List ℕ)} (p : Plan k rows) → All (Good P k) rows → Distinct rows → Cells P p
    cells-all leaf a d = tt
    cells-all (node {k} {rows} i h bs) a d =
        cells-all_in bs (length rows) (group-sizes (root i) (close i) rows) (runs-lone i rows)
        (runs-distinct i k h rows (all-each (Good P (suc k)) (Terms (suc k)) (λ r g. g.terms) rows a) d)
        (group-all (root i) (close i) (Good P (suc k)) (λ (c : ℕ) (r : List ℕ). P c × Good P (arity c + k) r)
        (λ r g. (root-all i k r g.terms h g.cells, good-close i k r h g)) rows a)

    cells-all_in : {k : ℕ} {gs : List Run} (bs : Branches k gs) (n : ℕ) → Sized n gs → Lone gs → All (λ (g : Run). Distinct g.rows) gs
        → Each (λ (c : ℕ) (r : List ℕ). P c × Good P (arity c + k) r) gs → CellsIn P bs
    cells-all_in end n s l d a = tt
    cells-all_in (next {k} {g} p bs) n s l d a =
        let f = first_good k g.cell g.rows s.0.0 a.0 in (
          record { cell = f.0; lone = l.0; some = s.0.0; last = last k g f.1 d.0 s.0.0; rows = f.1 },
          cells-all p f.1 d.0,
          cells-all_in bs n s.1 l.1 d.1 a.1,
        )

  -- a plan for an accepted table
  pub table-cells : {t : List ℕ} {w : ℕ} {rows : List (List ℕ)} → IsTable t w rows → ((r : List ℕ) → Head w r → (c : ℕ) → Memᴰ c r → P c)
      → (p : Plan w rows) → Cells P p
  table-cells {w = w} {rows} is h p =
      cells-all p (all-each (Row w) (Good P w) (λ r x. record { terms = x.terms; short = x.short; cells = each r (h r x) }) rows is.each) is.apart
    where
      each : (xs : List ℕ) → ((c : ℕ) → Memᴰ c xs → P c) → All P xs
      each [] f = tt
      each (c ∷ xs) f = (f c (Memᴰ.head refl), each xs (λ d m. f d (Memᴰ.tail m)))
