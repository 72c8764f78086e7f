-- The walk over a plan, case by case: what stands where in the plan, and what is written once the parts are.
use mathlib.Core.Path.{◌≡◌, refl, sym, ap, ◌∙◌}
use mathlib.Core.Logic.{◌≢◌}
use mathlib.Core.Bool.{cond}
use mathlib.Core.List.{List, [], ◌∷◌, ◌++◌, append_assoc, append-nil}
use Prim.Native.Nat.{ℕ, suc, ◌+◌, ◌-◌, ◌*◌, ◌≤◌, ◌<◌}
use native.Mathlib.Numerals.{add-one}
use native.Mathlib.Omega.{arith}
use lib.Dec.{eqb}
use lib.ListN.{length, get_or, drop, length-append, length-drop}
use borrow.Author.Tests.{eq-eqb, ne_eqb}
use Rattle.cell.specs.Cell.{arity}
use Rattle.cell.proofs.CellLaws.{arity-small}
use Rattle.term.specs.Terms.{root, close}
use Rattle.term.proofs.Lists.{head_at, part_at}
use Rattle.octets.specs.Octets.{Put}
use Rattle.octets.proofs.PutLaws.{put-put, put-nothing}
use Rattle.table.specs.All.{All}
use Rattle.plan.specs.Runs.{Run, runs}
use Rattle.plan.specs.Plans.{Plan, leaf, node, Branches, end, next, write, writes, branches, branches_in}
use Rattle.plan.specs.Notes.{skip_in, row_noted}
use Rattle.plan.specs.code.Rows.{row_count}
use Rattle.plan.proofs.RunsLaws.{Sized, group-sizes, group-rows}
use Rattle.listing.specs.Listing.{line, lines_in, lines_of}
use Rattle.listing.specs.code.Walk.{Marked, MarkedIn, Ready, Walked}
use Rattle.listing.specs.declared.walk.Stand.{Stand}
use Rattle.limits.specs.Limits.{most_branches, most_plan_cells}

abbrev pub stand : (at number to : ℕ) → Stand
stand at number to = record { at = at; number = number; to = to }

-- a plan with no open place, and one with some
record Leaf {k : ℕ} {rows : List (List ℕ)} (p : Plan k rows) : Type 0 where
  lines : (depth first : ℕ) → lines_in p depth first ≡ []
  cells : write p ≡ length rows ∷ []
  none : branches p ≡ 0

leaf-is : {k : ℕ} {rows : List (List ℕ)} (p : Plan k rows) → k ≡ 0 → Leaf p
unfolding lines_in write branches
leaf-is leaf e = record { lines = λ depth first. refl; cells = refl; none = refl }
leaf-is (node i h bs) e = absurd (omega arith)

-- none of a state's runs is empty
sized-some : (n : ℕ) (gs : List Run) → Sized n gs → All (λ (g : Run). 0 < length g.rows) gs
sized-some n [] s = tt
sized-some n (g ∷ gs) s = (s.0.0, sized-some n gs s.1)

record Inner {k : ℕ} {rows : List (List ℕ)} (p : Plan k rows) : Type 0 where
  below : ℕ
  one_more : k ≡ suc below
  index : ℕ
  trees : Branches below (runs index rows)
  cells : write p ≡ index ∷ (length (runs index rows) ∷ writes trees)
  marks : (noted : List ℕ) (n row : ℕ) → Marked p noted n row → MarkedIn trees noted n row
  some : All (λ (g : Run). 0 < length g.rows) (runs index rows)
  same_rows : row_count (runs index rows) ≡ length rows
  count : branches p ≡ branches_in trees
  lines : (depth first i : ℕ) → i ≡ index → lines_in p depth first ≡ lines_of trees depth i first

inner-is : {k : ℕ} {rows : List (List ℕ)} (p : Plan k rows) → 0 < k → Inner p
unfolding lines_in write Marked branches
inner-is leaf h = absurd (omega arith)
inner-is (node {k} {rows} i l bs) h =
    record {
      below = k;
      one_more = refl;
      index = i;
      trees = bs;
      cells = refl;
      marks = λ noted n row m. m;
      some = sized-some (length rows) (runs i rows) (group-sizes (root i) (close i) rows);
      same_rows = group-rows (root i) (close i) rows;
      count = refl;
      lines = λ depth first j e. ap (λ (i : ℕ). lines_of bs depth i first) (sym e);
    }

-- no branch, and a first one
record None {k : ℕ} {gs : List Run} (bs : Branches k gs) : Type 0 where
  lines : (depth index first : ℕ) → lines_of bs depth index first ≡ []
  cells : writes bs ≡ []
  none : branches_in bs ≡ 0

none_is : {k : ℕ} {gs : List Run} (bs : Branches k gs) → length gs ≡ 0 → None bs
unfolding lines_in write branches
none_is end e = record { lines = λ depth index first. refl; cells = refl; none = refl }
none_is (next p bs) e = absurd (omega arith)

record First {k : ℕ} {gs : List Run} (bs : Branches k gs) : Type 0 where
  run : Run
  others : List Run
  tree : Plan (arity run.cell + k) run.rows
  trees : Branches k others
  runs-are : gs ≡ run ∷ others
  cells : writes bs ≡ run.cell ∷ (write tree ++ writes trees)
  marks : (noted : List ℕ) (n row : ℕ) → MarkedIn bs noted n row
      → (row_noted (get_or noted n 0) ≡ row) × (skip_in (get_or noted n 0) ≡ branches tree) × Marked tree noted (n + 1) row
      × MarkedIn trees noted (n + 1 + branches tree) (row + length run.rows)
  count : branches_in bs ≡ suc (branches tree + branches_in trees)
  lines : (depth index first c after : ℕ) → c ≡ run.cell → after ≡ first + length run.rows → lines_of bs depth index first
      ≡ line depth index c first (after - 1) ++ (lines_in tree (depth + 1) first ++ lines_of trees depth index after)

first-is : {k : ℕ} {gs : List Run} (bs : Branches k gs) → 0 < length gs → First bs
unfolding lines_in write Marked branches
first-is end h = absurd (omega arith)
first-is (next {g = g} {gs = gs} p bs) h =
    record {
      run = g;
      others = gs;
      tree = p;
      trees = bs;
      runs-are = refl;
      cells = refl;
      marks = λ noted n row m. m;
      count = refl;
      lines = λ depth index first c after ec ea. rw (ec, ea, add-one depth);
    }

-- the row after those of the first branch: where it is the only one the row after all, otherwise the first row of the next one
row-after : {k : ℕ} {gs : List Run} (bs : Branches k gs) (noted : List ℕ) (n row stop left : ℕ) → MarkedIn bs noted n row → row + row_count gs ≡ stop
    → left ≡ suc (length gs) → row ≡ cond (eqb left 1) stop (row_noted (get_or noted n 0))
unfolding Marked
row-after end noted n row stop left m e c = let one : left ≡ 1 = omega arith in rw (eq-eqb left 1 one) (omega arith)
row-after (next p bs) noted n row stop left m e c = rw (ne_eqb left 1 (λ one. let z : ⊥ = omega arith in z)) (sym m.0)

-- where a branch is left, its number is below the last
more-than : {k : ℕ} {gs : List Run} (bs : Branches k gs) → 0 < length gs → {n : ℕ} → n + branches_in bs ≤ most_branches → n < most_branches
unfolding branches
more-than end h l = absurd (let z : ⊥ = omega arith in z)
more-than (next p bs) h l = omega arith

module _ {plan noted : List ℕ} {places depth stop : ℕ} {from : Stand} where
  -- a leaf
  pub leaf-inside : (w : Ready plan noted places depth stop from) → places ≡ 0 → from.at < length plan
  leaf-inside w z =
      let l = leaf-is w.tree (sym w.open-places ∙ z) in
      (head_at plan from.at (length w.rows) w.rest (w.cells ∙ rw l.cells)).0

  pub leaf_walked : {out : List ℕ} (w : Ready plan noted places depth stop from) → places ≡ 0
      → Walked out out depth w.first from w.tree (stand (from.at + 1) from.number from.to)
  leaf_walked w z =
      let l = leaf-is w.tree (sym w.open-places ∙ z) in
      record {
        puts = rw (l.lines depth w.first) put-nothing;
        past = omega (arith, ap length l.cells);
        counted = omega (arith, l.none);
      }

  -- An inner state part of the way: the branches that are left of it, `left` of them at the open place `index`, from row `row` on,
  -- stand in the plan where the walk does; `done` is put, and what is done and what is left are the whole
  pub record Left (w : Ready plan noted places depth stop from) (old new : List ℕ) (index left : ℕ) (here : Stand) : Type 0 where
    pub row : ℕ
    pub k : ℕ
    pub gs : List Run
    pub trees : Branches k gs
    pub rest : List ℕ
    pub done : List ℕ
    pub open-places : places ≡ suc k
    pub count : left ≡ length gs
    pub cells : drop here.at plan ≡ writes trees ++ rest
    pub marked : MarkedIn trees noted here.number row
    pub some : All (λ (g : Run). 0 < length g.rows) gs
    pub ends : row + row_count gs ≡ stop
    pub after : from.at < here.at
    pub puts : Put old new from.to done here.to
    pub lines : lines_in w.tree depth w.first ≡ done ++ lines_of trees depth index row
    pub past : here.at + length (writes trees) ≡ from.at + length (write w.tree)
    pub counted : here.number + branches_in trees ≡ from.number + branches w.tree

  -- it begins with its index and its number of branches
  pub enters-inside : (w : Ready plan noted places depth stop from) → 0 < places → from.at + 1 < length plan
  enters-inside w h =
      let i = inner-is w.tree (omega (arith, w.open-places)) in
      omega (arith, length-drop from.at plan, ap length w.cells, length-append (write w.tree) w.rest, ap length i.cells)

  pub enters : {out : List ℕ} {left : ℕ} (w : Ready plan noted places depth stop from) → 0 < places → left ≡ get_or plan (from.at + 1) 0
      → Left w out out (get_or plan from.at 0) left (stand (from.at + 2) from.number from.to)
  enters w h z =
      let at = from.at in
      let i = inner-is w.tree (omega (arith, w.open-places)) in
      let here = head_at plan at i.index (length (runs i.index w.rows) ∷ (writes i.trees ++ w.rest)) (w.cells ∙ rw i.cells) in
      let two = head_at plan (at + 1) (length (runs i.index w.rows)) (writes i.trees ++ w.rest) here.2 in
      let e : at + 1 + 1 ≡ at + 2 = omega arith in
      record {
        row = w.first;
        k = i.below;
        gs = runs i.index w.rows;
        trees = i.trees;
        rest = w.rest;
        done = [];
        open-places = w.open-places ∙ i.one_more;
        count = z ∙ two.1;
        cells = rw e at two.2;
        marked = i.marks noted from.number w.first w.marked;
        some = i.some;
        ends = omega (arith, i.same_rows, w.ends);
        after = omega arith;
        puts = put-nothing;
        lines = i.lines depth w.first (get_or plan at 0) here.1;
        past = omega (arith, ap length i.cells);
        counted = omega (arith, i.count);
      }

  -- no branch is left
  pub none_left : {old new : List ℕ} {index left : ℕ} {here : Stand} (w : Ready plan noted places depth stop from)
      → Left w old new index left here → left ≡ 0 → Walked old new depth w.first from w.tree here
  none_left {index = index} w l z =
      let n = none_is l.trees (sym l.count ∙ z) in
      let all : lines_in w.tree depth w.first ≡ l.done = l.lines ∙ rw (n.lines depth index l.row) (append-nil l.done) in
      record {
        puts = rw all l.puts;
        past = omega (arith, l.past, ap length n.cells);
        counted = omega (arith, l.counted, n.none);
      }

  -- the next branch, with a arguments and its rows from `row` to before `after`: its line, the state below it, the branches beside it
  pub record Goes {w : Ready plan noted places depth stop from} {old new : List ℕ} {index left : ℕ} {here : Stand}
      (l : Left w old new index left here) (row after a : ℕ) : Type 0 where
    pub inside : here.at < length plan
    pub size : length plan ≤ most_plan_cells
    pub deep : depth ≤ here.at
    pub wide : places ≤ 4 * here.at + 8
    pub inner : 0 < places
    pub further : from.at < here.at
    pub some : row < after
    pub few-args : a ≤ 4
    pub below : (to : ℕ) → Ready plan noted (a + places - 1) (depth + 1) after (stand (here.at + 1) (here.number + 1) to)
    pub beside : {mid last : List ℕ} {to rest : ℕ} {s : Stand} → rest + 1 ≡ left → Put new mid here.to (line depth index (get_or plan here.at 0) row (after - 1)) to
        → Walked mid last (depth + 1) (below to).first (stand (here.at + 1) (here.number + 1) to) (below to).tree s
        → Left w old last index rest s

  -- where it stands: its own number, and that of the next one
  pub numbered : {w : Ready plan noted places depth stop from} {old new : List ℕ} {index left : ℕ} {here : Stand} (l : Left w old new index left here)
      → 0 < left
      → (here.number < most_branches) × (left ≢ 1 → here.number + 1 + skip_in (get_or noted here.number 0) < most_branches)
  numbered {w = w} {left = left} {here} l h =
      let f = first-is l.trees (omega (arith, l.count)) in
      let m = f.marks noted here.number l.row l.marked in (
        omega (arith, w.numbered, l.counted, f.count),
        λ n. more-than f.trees (omega (arith, n, l.count, ap length f.runs-are)) (omega (arith, w.numbered, l.counted, f.count, m.1)),
      )

  pub goes : {w : Ready plan noted places depth stop from} {old new : List ℕ} {index left : ℕ} {here : Stand}
      (l : Left w old new index left here) (row after a : ℕ) → 0 < left → row ≡ row_noted (get_or noted here.number 0)
      → after ≡ cond (eqb left 1) stop (row_noted (get_or noted (here.number + 1 + skip_in (get_or noted here.number 0)) 0)) → a ≡ arity (get_or plan here.at 0)
      → Goes l row after a
  goes {w = w} {old} {new} {index} {left} {here} l row after a h er en ea =
      let at = here.at in
      let f = first-is l.trees (omega (arith, l.count)) in
      let cells = head_at plan at f.run.cell ((write f.tree ++ writes f.trees) ++ l.rest) (l.cells ∙ rw f.cells) in
      let marks = f.marks noted here.number l.row l.marked in
      let behind : drop (at + 1) plan ≡ write f.tree ++ (writes f.trees ++ l.rest) =
      cells.2 ∙ append_assoc (write f.tree) (writes f.trees) l.rest in
      let row_is : row ≡ l.row = er ∙ marks.0 in
      let some = rw f.runs-are at l.some in
      let ends : l.row + (length f.run.rows + row_count f.others) ≡ stop = rw f.runs-are at l.ends in
      let after_is : after ≡ l.row + length f.run.rows =
      en ∙ rw marks.1 (sym (row-after f.trees noted (here.number + 1 + branches f.tree) (l.row + length f.run.rows) stop left
      marks.3 (omega (arith, ends))
      (omega (arith, l.count, ap length f.runs-are)))) in
      let few-args : a ≤ 4 = omega (arith, ea, arity-small (get_or plan at 0)) in
      record {
        inside = cells.0;
        size = w.size;
        deep = omega (arith, w.deep, l.after);
        wide = omega (arith, w.wide, l.after);
        inner = omega (arith, l.open-places);
        further = l.after;
        some = omega (arith, row_is, after_is, some.0);
        few-args = few-args;
        below = λ to. record {
          first = l.row;
          k = arity f.run.cell + l.k;
          rows = f.run.rows;
          tree = f.tree;
          rest = writes f.trees ++ l.rest;
          open-places = omega (arith, ea, ap arity cells.1, l.open-places);
          cells = behind;
          marked = marks.2;
          ends = sym after_is;
          few = omega (arith, after_is, ends, w.few);
          deep = omega (arith, w.deep, l.after);
          numbered = omega (arith, w.numbered, l.counted, f.count);
          wide = omega (arith, w.wide, l.after);
          size = w.size;
        };
        beside = λ less p q. record {
          row = after;
          k = l.k;
          gs = f.others;
          trees = f.trees;
          rest = l.rest;
          done = l.done ++ (line depth index (get_or plan at 0) row (after - 1) ++ lines_in f.tree (depth + 1) l.row);
          open-places = l.open-places;
          count = omega (arith, l.count, ap length f.runs-are);
          cells = rw q.past (part_at plan (at + 1) (write f.tree) (writes f.trees ++ l.rest) behind);
          marked = rw (q.counted, after_is) marks.3;
          some = some.1;
          ends = omega (arith, after_is, ends);
          after = omega (arith, l.after, q.past);
          puts = put-put l.puts (put-put p q.puts);
          lines = l.lines ∙ rw (f.lines depth index l.row (get_or plan at 0) after cells.1 after_is, row_is) (simp append_assoc);
          past = omega (arith, l.past, q.past, ap length f.cells, length-append (write f.tree) (writes f.trees));
          counted = omega (arith, l.counted, q.counted, f.count);
        };
      }
