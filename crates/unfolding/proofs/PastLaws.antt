-- A state of a plan passed, case by case: what stands where in the plan, and what is counted once the parts are.
use Prim.Native.Nat.{ℕ, suc, ◌+◌, ◌-◌, ◌*◌, ◌≤◌, ◌<◌}
use mathlib.Core.Path.{◌≡◌, refl, sym, ◌∙◌, ap}
use mathlib.Core.Bool.{cond}
use mathlib.Core.List.{List, [], ◌∷◌, ◌++◌, append_assoc}
use native.Mathlib.Omega.{arith}
use lib.Dec.{ltb}
use borrow.Author.Tests.{lt-ltb}
use lib.ListN.{length, get_or, drop, length-append, length-drop}
use Rattle.term.proofs.Lists.{head_at, part_at}
use Rattle.cell.specs.Cell.{arity}
use Rattle.cell.proofs.CellLaws.{arity-small}
use Rattle.plan.specs.Runs.{Run, runs}
use Rattle.plan.specs.Plans.{Plan, leaf, node, Branches, end, next, write, writes}
use Rattle.clauses.specs.code.Walk.{several, splits, splits_in}
use Rattle.unfolding.specs.code.Walk.{Stands, PastOf}
use Rattle.unfolding.specs.declared.past.Past.{Past}
use Rattle.limits.specs.Limits.{most_plan_cells}

abbrev pub passed : (at splits : ℕ) → Past
passed at n = record { at = at; splits = n }

-- several runs are counted once
pub several-is : (gs : List Run) → ◌≡◌ {A = ℕ} (several gs 0 1) (cond (ltb 1 (length gs)) 1 0)
several-is [] = refl
several-is (g ∷ []) = refl
several-is (g ∷ g' ∷ gs) = rw (lt-ltb 1 (suc (suc (length gs))) (omega arith))

several-one : (gs : List Run) → several gs 0 1 ≤ 1
several-one [] = omega arith
several-one (g ∷ []) = omega arith
several-one (g ∷ g' ∷ gs) = omega arith

-- there are no more of them than cells
mutual
  unfolding splits write

  pub splits-short : {k : ℕ} {rows : List (List ℕ)} (p : Plan k rows) → splits p ≤ length (write p)
  splits-short leaf = omega arith
  splits-short (node {rows = rows} i h bs) = omega (arith, several-one (runs i rows), splits_in-short bs)

  splits_in-short : {k : ℕ} {gs : List Run} (bs : Branches k gs) → splits_in bs ≤ length (writes bs)
  splits_in-short end = omega arith
  splits_in-short (next p bs) = omega (arith, splits-short p, splits_in-short bs, length-append (write p) (writes bs))

-- a plan with no open place, and one with some
record Leaf {k : ℕ} {rows : List (List ℕ)} (p : Plan k rows) : Type 0 where
  cells : write p ≡ length rows ∷ []
  none : splits p ≡ 0

leaf-is : {k : ℕ} {rows : List (List ℕ)} (p : Plan k rows) → k ≡ 0 → Leaf p
unfolding write splits
leaf-is leaf e = record { cells = refl; none = refl }
leaf-is (node i h bs) e = absurd (omega arith)

record Inner {k : ℕ} {rows : List (List ℕ)} (p : Plan k rows) : Type 0 where
  below : ℕ
  one_more : k ≡ suc below
  index : ℕ
  trees : Branches below (runs index rows)
  cells : write p ≡ index ∷ (length (runs index rows) ∷ writes trees)
  count : splits p ≡ several (runs index rows) 0 1 + splits_in trees

inner-is : {k : ℕ} {rows : List (List ℕ)} (p : Plan k rows) → 0 < k → Inner p
unfolding write splits
inner-is leaf h = absurd (omega arith)
inner-is (node {k} i l bs) h = record { below = k; one_more = refl; index = i; trees = bs; cells = refl; count = refl }

-- no branch, and a first one
record None {k : ℕ} {gs : List Run} (bs : Branches k gs) : Type 0 where
  cells : writes bs ≡ []
  none : splits_in bs ≡ 0

none_is : {k : ℕ} {gs : List Run} (bs : Branches k gs) → length gs ≡ 0 → None bs
unfolding write splits
none_is end e = record { cells = refl; none = refl }
none_is (next p bs) e = absurd (omega arith)

record First {k : ℕ} {gs : List Run} (bs : Branches k gs) : Type 0 where
  run : Run
  others : List Run
  tree : Plan (arity run.cell + k) run.rows
  trees : Branches k others
  runs-are : gs ≡ run ∷ others
  cells : writes bs ≡ run.cell ∷ (write tree ++ writes trees)
  count : splits_in bs ≡ splits tree + splits_in trees

first-is : {k : ℕ} {gs : List Run} (bs : Branches k gs) → 0 < length gs → First bs
unfolding write splits
first-is end h = absurd (omega arith)
first-is (next {g = g} {gs = gs} p bs) h =
    record { run = g; others = gs; tree = p; trees = bs; runs-are = refl; cells = refl; count = refl }

module _ {plan : List ℕ} {at places : ℕ} where
  -- a leaf
  pub leaf-inside : (w : Stands plan at places) → places ≡ 0 → at < length plan
  leaf-inside w z =
      let l = leaf-is w.tree (sym w.open-places ∙ z) in
      (head_at plan at (length w.rows) w.rest (w.cells ∙ rw l.cells)).0

  pub leaf-past : (w : Stands plan at places) → places ≡ 0 → PastOf w.tree at (passed (at + 1) 0)
  leaf-past w z =
      let l = leaf-is w.tree (sym w.open-places ∙ z) in
      record { ends = omega (arith, ap length l.cells); counts = sym l.none }

  -- an inner state part of the way: the branches that are left of it stand in the plan where the walk does
  pub record Left (w : Stands plan at places) (left : ℕ) (here : Past) : Type 0 where
    pub k : ℕ
    pub gs : List Run
    pub trees : Branches k gs
    pub rest : List ℕ
    pub open-places : places ≡ suc k
    pub count : left ≡ length gs
    pub cells : drop here.at plan ≡ writes trees ++ rest
    pub after : at < here.at
    pub past : here.at + length (writes trees) ≡ at + length (write w.tree)
    pub counted : here.splits + splits_in trees ≡ splits w.tree

  -- it begins with its index and its number of branches
  pub enters-inside : (w : Stands plan at places) → 0 < places → at + 1 < length plan
  enters-inside w h =
      let i = inner-is w.tree (omega (arith, w.open-places)) in
      omega (arith, length-drop at plan, ap length w.cells, length-append (write w.tree) w.rest, ap length i.cells)

  pub enters : (w : Stands plan at places) {n left : ℕ} → 0 < places → n ≡ cond (ltb 1 (get_or plan (at + 1) 0)) 1 0
      → left ≡ get_or plan (at + 1) 0 → Left w left (passed (at + 2) n)
  enters w h q z =
      let i = inner-is w.tree (omega (arith, w.open-places)) in
      let gs = runs i.index w.rows in
      let here = head_at plan at i.index (length gs ∷ (writes i.trees ++ w.rest)) (w.cells ∙ rw i.cells) in
      let two = head_at plan (at + 1) (length gs) (writes i.trees ++ w.rest) here.2 in
      let e : at + 1 + 1 ≡ at + 2 = omega arith in
      let s = q ∙ ap (λ (m : ℕ). cond (ltb 1 m) 1 0) two.1 ∙ sym (several-is gs) in
      record {
        k = i.below;
        gs = gs;
        trees = i.trees;
        rest = w.rest;
        open-places = w.open-places ∙ i.one_more;
        count = z ∙ two.1;
        cells = rw e at two.2;
        after = omega arith;
        past = omega (arith, ap length i.cells);
        counted = omega (arith, s, i.count);
      }

  -- no branch is left
  pub none_left : {left : ℕ} {here : Past} (w : Stands plan at places) → Left w left here → left ≡ 0 → PastOf w.tree at here
  none_left w l z =
      let n = none_is l.trees (sym l.count ∙ z) in
      record { ends = omega (arith, l.past, ap length n.cells); counts = omega (arith, l.counted, n.none) }

  -- the next branch, with a arguments: the state below it, the branches beside it
  pub record Goes {w : Stands plan at places} {left : ℕ} {here : Past} (l : Left w left here) (a : ℕ) : Type 0 where
    pub inside : here.at < length plan
    pub size : length plan ≤ most_plan_cells
    pub wide : places ≤ 4 * here.at + 8
    pub inner : 0 < places
    pub further : at < here.at
    pub few-args : a ≤ 4
    pub below : Stands plan (here.at + 1) (a + places - 1)
    pub beside : {rest : ℕ} {s : Past} → rest + 1 ≡ left → PastOf below.tree (here.at + 1) s → Left w rest (passed s.at (here.splits + s.splits))
    pub fits : {s : Past} → PastOf below.tree (here.at + 1) s → here.splits + s.splits ≤ most_plan_cells

  pub goes : {w : Stands plan at places} {left : ℕ} {here : Past} (l : Left w left here) (a : ℕ) → 0 < left
      → a ≡ arity (get_or plan here.at 0) → Goes l a
  goes {w = w} {left} {here} l a h ea =
      let p = here.at in
      let f = first-is l.trees (omega (arith, l.count)) in
      let cells = head_at plan p f.run.cell ((write f.tree ++ writes f.trees) ++ l.rest) (l.cells ∙ rw f.cells) in
      let after : drop (p + 1) plan ≡ write f.tree ++ (writes f.trees ++ l.rest) =
      cells.2 ∙ append_assoc (write f.tree) (writes f.trees) l.rest in
      let whole : at + length (write w.tree) ≤ length plan =
      omega (arith, length-drop at plan, ap length w.cells, length-append (write w.tree) w.rest, cells.0, l.after) in
      record {
        inside = cells.0;
        size = w.size;
        wide = omega (arith, w.wide, l.after);
        inner = omega (arith, l.open-places);
        further = l.after;
        few-args = omega (arith, ea, arity-small (get_or plan p 0));
        below = record {
          k = arity f.run.cell + l.k;
          rows = f.run.rows;
          tree = f.tree;
          rest = writes f.trees ++ l.rest;
          open-places = omega (arith, ea, ap arity cells.1, l.open-places);
          cells = after;
          wide = omega (arith, w.wide, l.after, ea, arity-small (get_or plan p 0));
          size = w.size;
        };
        beside = λ less q. record {
          k = l.k;
          gs = f.others;
          trees = f.trees;
          rest = l.rest;
          open-places = l.open-places;
          count = omega (arith, l.count, ap length f.runs-are);
          cells = rw q.ends (part_at plan (p + 1) (write f.tree) (writes f.trees ++ l.rest) after);
          after = omega (arith, l.after, q.ends);
          past = omega (arith, l.past, q.ends, ap length f.cells, length-append (write f.tree) (writes f.trees));
          counted = omega (arith, l.counted, q.counts, f.count);
        };
        fits = λ q. omega (arith, l.counted, q.counts, f.count, splits-short w.tree, whole, w.size);
      }
