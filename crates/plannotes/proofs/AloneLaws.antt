-- Whether the rest of a branch's row is run by itself, by the cells of the branches below it.
use Prim.Native.Nat.{ℕ, suc, ◌+◌, ◌*◌, ◌^◌, ◌≤◌, ◌<◌}
use mathlib.Core.Path.{◌≡◌, refl, sym, ◌∙◌, ap, ap₂}
use mathlib.Core.Logic.{◌≢◌, ⊎_elim}
use mathlib.Core.Bool.{Bool, true, false, cond, ◌&&◌, ◌||◌}
use mathlib.Core.List.{List, [], ◌∷◌, ◌++◌, flatten, map, append-nil, head-eq_of_cons-eq}
use native.Mathlib.Omega.{arith}
use lib.Dec.{eqb}
use lib.ListN.{length, length-append}
use borrow.Author.Tests.{eq-eqb, ne_eqb}
use Rattle.cell.specs.Cell.{is_var, kind_of}
use Rattle.cell.proofs.CellLaws.{is-var, not-var}
use Rattle.term.specs.Terms.{root, close}
use Rattle.term.proofs.Tests.{bool_cases}
use Rattle.term.proofs.TermsLaws.{zero-nil}
use Rattle.table.specs.All.{All}
use Rattle.table.specs.Table.{count}
use Rattle.plan.specs.Runs.{Run, run, runs}
use Rattle.plan.specs.Notes.{flag, repeats, cell_in}
use Rattle.plan.specs.code.Fits.{Fits}
use Rattle.plan.proofs.TwiceLaws.{twice_same, count-close}
use Rattle.plannotes.specs.code.Steps.{ended, finished}
use Rattle.plannotes.specs.code.Tree.{One}

-- a branch, by the cells of its row
pub flag_is : (g : Run) (cs : List ℕ) → (is_var g.cell ≡ true → length g.rows ≡ 1) → One g.rows cs → flag g ≡ repeats g.cell cs
unfolding count flatten
flag_is g cs lone o = ⊎_elim (λ h. single h g.rows (lone h) o) (λ h. rw h refl) (bool_cases (is_var g.cell))
  where
    single : is_var g.cell ≡ true → (rows : List (List ℕ)) → length rows ≡ 1 → One rows cs → flag (run g.cell rows) ≡ repeats g.cell cs
    single h [] l o = absurd (let z : ⊥ = omega arith in z)
    single h (x ∷ []) l o =
        rw (append-nil x) (ap (λ (b : Bool). is_var g.cell && b) (twice_same (g.cell ∷ x) (g.cell ∷ cs) (λ v q. let z = o x refl v q in omega arith)))
    single h (x ∷ (y ∷ rows)) l o = absurd (let z : ⊥ = omega arith in z)

-- the only branch of a state
pub one_more : (n i k : ℕ) (rows : List (List ℕ)) (g : Run) (cs : List ℕ) → All (Fits n (suc k)) rows → i ≤ k → runs i rows ≡ g ∷ [] → One g.rows cs
    → One rows (g.cell ∷ cs)
unfolding count
one_more n i k rows g cs f h e o x q v hv =
    let d : run (root i x) (close i x ∷ []) ∷ [] ≡ g ∷ [] = sym (ap (runs i) q) ∙ e in
    let r : run (root i x) (close i x ∷ []) ≡ g = head-eq_of_cons-eq d in
    let a : All (Fits n (suc k)) (x ∷ []) = rw q at f in
    let c = count-close v i k x a.0.0 h in
    let z = o (close i x) (sym (ap (λ (g : Run). g.rows) r)) v hv in
    let y : count v (root i x ∷ close i x) ≡ count v (g.cell ∷ close i x) = ap (λ (d : ℕ). count v (d ∷ close i x)) (ap (λ (g : Run). g.cell) r) in
    c ∙ y ∙ omega (arith, z)

-- a state with one row has one branch, and nothing is left of the row at a leaf
pub one-run : (i : ℕ) (rows : List (List ℕ)) (x : List ℕ) → rows ≡ x ∷ [] → length (runs i rows) ≡ 1
one-run i rows x e = ap (λ (l : List (List ℕ)). length (runs i l)) e

pub one-leaf : (n : ℕ) (rows : List (List ℕ)) → All (Fits n 0) rows → One rows []
one-leaf n rows f x e v h = let a : All (Fits n 0) (x ∷ []) = rw e at f in ap (count v) (zero-nil a.0.0)

-- one branch more
cells-moved : (ps : List ℕ) (y : ℕ) (cs : List ℕ) → map cell_in (ps ++ (y ∷ [])) ++ cs ≡ map cell_in ps ++ (cell_in y ∷ cs)
cells-moved [] y cs = refl
cells-moved (p ∷ ps) y cs = ap (λ (l : List ℕ). cell_in p ∷ l) (cells-moved ps y cs)

pub one-moved : (rows : List (List ℕ)) (ps : List ℕ) (y : ℕ) (cs : List ℕ) → One rows (map cell_in ps ++ (cell_in y ∷ cs))
    → One rows (map cell_in (ps ++ (y ∷ [])) ++ cs)
one-moved rows ps y cs o = rw (cells-moved ps y cs) o

pub finished-more : (s : ℕ) (ps : List ℕ) (y : ℕ) (cs zs : List ℕ)
    → finished (suc s) ps (cell_in y ∷ cs) ++ ((ended s y + cond (repeats (cell_in y) cs) 1 0 * 2 ^ 63) ∷ zs) ≡ finished s (ps ++ (y ∷ [])) cs ++ zs
unfolding finished
finished-more s [] y cs zs = let e : s ≡ 0 + s = omega arith in ap (λ (n : ℕ). (ended n y + cond (repeats (cell_in y) cs) 1 0 * 2 ^ 63) ∷ zs) e
finished-more s (p ∷ ps) y cs zs =
    let e : length ps + suc s ≡ length (ps ++ (y ∷ [])) + s = omega (arith, length-append ps (y ∷ [])) in
    ap₂ (λ (w : ℕ) (t : List ℕ). w ∷ t)
    (ap₂ (λ (n : ℕ) (l : List ℕ). ended n p + cond (repeats (cell_in p) l) 1 0 * 2 ^ 63) e (sym (cells-moved ps y cs)))
    (finished-more s ps y cs zs)

pub finished-length : (s : ℕ) (ps cs : List ℕ) → length (finished s ps cs) ≡ length ps
unfolding finished
finished-length s [] cs = refl
finished-length s (p ∷ ps) cs = ap suc (finished-length s ps cs)

-- a cell's kind tells whether it is a variable
pub kind-var : (c k : ℕ) → k ≡ kind_of c → k < 1 → is_var c ≡ true
kind-var c k e h = is-var c (omega arith)

pub kind-symbol : (c k : ℕ) → k ≡ kind_of c → 1 ≤ k → is_var c ≡ false
kind-symbol c k e h = not-var c (λ z. omega arith)

-- What the code keeps: a variable that is met first, and one that is met again.
pub first-met : (s a : ℕ) → s ≡ 0 → a ≡ cond (eqb s 0) a (2 ^ 63)
first-met s a e = rw (eq-eqb s 0 e)

pub met-again : (s a : ℕ) → s ≢ 0 → 2 ^ 63 ≡ cond (eqb s 0) a (2 ^ 63)
met-again s a n = rw (ne_eqb s 0 n)

-- so a variable stands twice from there on, or does not
pub met-mark : (s a : ℕ) (b t : Bool) → s ≡ cond b 1 0 → a ≡ cond t 1 0 * 2 ^ 63 → cond (eqb s 0) a (2 ^ 63) ≡ cond (b || t) 1 0 * 2 ^ 63
met-mark s a true t e f = rw e
met-mark s a false t e f = rw (e, f)
