-- From a state to its branches, and from a branch to the state below it.
use Prim.Native.Nat.{ℕ, suc, pred, ◌+◌, ◌-◌, ◌*◌, ◌≤◌, ◌<◌}
use mathlib.Core.Path.{◌≡◌, refl, sym, ◌∙◌, ap, subst}
use mathlib.Core.List.{List, [], ◌∷◌, ◌++◌, map, append_assoc, map-append}
use native.Mathlib.Omega.{arith}
use lib.ListN.{length, get_or, take, drop, set, length-set, length-append, length-drop, length-map}
use lib.Seq.{length-take-le, sets, length-sets}
use Rattle.cell.specs.Cell.{arity}
use Rattle.term.specs.Terms.{root, close}
use Rattle.term.proofs.Lists.{sets-sets, head_at, part_at}
use Rattle.table.specs.All.{All}
use Rattle.table.specs.Table.{up_from}
use Rattle.table.proofs.HeadLaws.{up-length}
use Rattle.plan.specs.Runs.{Run, runs}
use Rattle.plan.specs.Plans.{Plan, leaf, node, Branches, end, next, write, writes, branches, branches_in}
use Rattle.plan.specs.Notes.{below, notes, notes_in, word, cell_in}
use Rattle.plan.specs.code.Cells.{Cells, CellsIn}
use Rattle.plan.specs.code.Fits.{Fits}
use Rattle.plan.proofs.NotesLaws.{notes-count}
use Rattle.plan.proofs.PlansLaws.{leaf-cells}
use Rattle.plan.proofs.RunsLaws.{Each, Sized, group-rows, group-sizes, fits-some, runs_fit, fits-wide}
use Rattle.plan.specs.code.Rows.{row_count}
use Rattle.plannotes.specs.code.Places.{Open}
use Rattle.plannotes.specs.code.Steps.{part_of, Low, Part, BranchMet, Begun}
use Rattle.plannotes.specs.code.Tree.{Ready, ReadyAt, notes_at, Done, StateDone, BranchDone}
use Rattle.plannotes.specs.declared.branch.Past.{Past}
use Rattle.limits.specs.Limits.{most_branches, most_plan_cells}

-- how many places are open below a branch
pub below-long : (i a free : ℕ) (slots : List ℕ) → i < length slots → length (below i a free slots) ≡ a + (length slots - 1)
below-long i a free slots h =
    length-append (take i slots) (up_from free a ++ drop (suc i) slots)
    ∙ omega (arith, length-take-le i slots (omega arith), length-append (up_from free a) (drop (suc i) slots), up-length free a, length-drop (suc i) slots)

-- numbers after others
sets_more : (l : List ℕ) (i j : ℕ) (xs ys : List ℕ) → j ≡ i + length xs → sets (sets l i xs) j ys ≡ sets l i (xs ++ ys)
sets_more l i j xs ys e = rw e (sets-sets l i xs ys)

-- there is a number for each branch
pub words_count : {k : ℕ} {rows : List (List ℕ)} (p : Plan k rows) (slots : List ℕ) (free row : ℕ) → length (map word (notes p slots free row)) ≡ branches p
words_count p slots free row = length-map (notes p slots free row) word ∙ notes-count p slots free row

-- the array stays as long as it was
pub done-long : {noted noted' words : List ℕ} {place cells made count row rows : ℕ} {p : Past} → Done noted noted' words place cells made count row rows p
    → length noted' ≡ length noted
done-long {noted} {words = words} {made = made} d = ap length d.wrote ∙ length-sets noted made words

-- A leaf.

leaf-notes : {k : ℕ} {rows : List (List ℕ)} (p : Plan k rows) (slots : List ℕ) (free row : ℕ) → k ≡ 0 → notes p slots free row ≡ []
unfolding notes
leaf-notes leaf slots free row e = refl
leaf-notes (node i h bs) slots free row e = absurd (omega arith)

leaf-branches : {k : ℕ} {rows : List (List ℕ)} (p : Plan k rows) → k ≡ 0 → branches p ≡ 0
unfolding branches
leaf-branches leaf e = refl
leaf-branches (node i h bs) e = absurd (omega arith)

-- An inner state: its place, and its branches.
record Inner {k : ℕ} {rows : List (List ℕ)} (p : Plan k rows) (j : ℕ) : Type 0 where
  pub i : ℕ
  pub bound : i ≤ j
  pub trees : Branches j (runs i rows)
  pub cells : write p ≡ i ∷ (length (runs i rows) ∷ writes trees)
  pub noted : (slots : List ℕ) (free row : ℕ) → notes p slots free row ≡ notes_in trees i slots free row
  pub low : Cells Low p → CellsIn Low trees
  pub count : branches p ≡ branches_in trees

inner : {k : ℕ} {rows : List (List ℕ)} (p : Plan k rows) (j : ℕ) → k ≡ suc j → Inner p j
unfolding write notes branches Cells
inner leaf j e = absurd (omega arith)
inner (node {k} {rows} i h bs) j e =
    subst (λ (j : ℕ). Inner (node {k = k} {rows = rows} i h bs) j) (let z : k ≡ j = omega arith in z)
    (record { i = i; bound = h; trees = bs; cells = refl; noted = λ slots free row. refl; low = λ c. c; count = refl })

-- a state's first cell
first_cell : (plan behind : List ℕ) (at : ℕ) {k : ℕ} {rows : List (List ℕ)} (p : Plan k rows) → drop at plan ≡ write p ++ behind → at < length plan
unfolding write
first_cell plan behind at (leaf {rows}) e = (head_at plan at (length rows) behind e).0
first_cell plan behind at (node {rows = rows} i l bs) e = (head_at plan at i (length (runs i rows) ∷ (writes bs ++ behind)) e).0

-- some of a state's branches, from a cell of the plan on
pub record ReadyIn (plan links noted slots : List ℕ) (i place k made free row : ℕ) {groups : List Run} (trees : Branches (k - 1) groups) : Type 0 where
  pub behind : List ℕ
  pub cells : drop place plan ≡ writes trees ++ behind
  pub size : length plan ≤ most_plan_cells
  pub most : ℕ
  pub some : Sized most groups
  pub few : row + row_count groups ≤ 64
  pub left : ℕ
  pub deep : left ≤ 32
  pub fit : Each (λ (c : ℕ). Fits left (arity c + (k - 1))) groups
  pub low : CellsIn Low trees
  pub enough : free + suc left ≤ 63 + k
  pub here : i < k
  pub number : length slots ≡ k
  pub opens : Open links free slots
  pub room : made + branches_in trees ≤ most_branches
  pub array : length noted ≡ most_branches

module _ {plan links noted : List ℕ} {at k made free row : ℕ} (w : Ready plan links noted at k made free row) where
  -- the numbers that the code keeps are small
  pub state-bounds : (at < length plan) × (length plan ≤ most_plan_cells) × (k ≤ 32) × (made ≤ most_branches) × (free ≤ 63)
  state-bounds =
      let l = fits-wide w.left k w.rows w.fit w.some in
      (first_cell plan w.behind at w.tree w.cells, w.size, omega (arith, w.deep), omega (arith, w.room), omega (arith, w.enough))

  pub leaf-read : k ≡ 0 → get_or plan at 0 ≡ length w.rows
  leaf-read e = (head_at plan at (length w.rows) w.behind (w.cells ∙ ap (λ (x : List ℕ). x ++ w.behind) (leaf-cells w.tree e))).1

  pub leaf-done : k ≡ 0 → StateDone w noted (record { place = at + 1; made = made; row = row + get_or plan at 0 })
  leaf-done e =
      rw (leaf-notes w.tree w.slots free row e, leaf-branches w.tree e, leaf-cells w.tree e)
      (record { wrote = refl; after = refl; next = omega arith; has = omega (arith, leaf-read e) })

  -- all of its branches
  pub record Inside : Type 0 where
    pub groups : List Run
    pub trees : Branches (k - 1) groups
    pub reads : at + 1 < length plan
    pub number : get_or plan (at + 1) 0 ≡ length groups
    pub within : ReadyIn plan links noted w.slots (get_or plan at 0) (at + 2) k made free row trees
    pub same-notes : notes w.tree w.slots free row ≡ notes_in trees (get_or plan at 0) w.slots free row
    pub count : branches w.tree ≡ branches_in trees
    pub cells : length (write w.tree) ≡ suc (suc (length (writes trees)))
    pub rows : length w.rows ≡ row_count groups
    pub index : ℕ
    pub index-low : index ≤ k - 1
    pub are : groups ≡ runs index w.rows

  inside-by : Inner w.tree (k - 1) → 0 < k → Inside
  inside-by n l =
      let gs = runs n.i w.rows in
      let ws = writes n.trees ++ w.behind in
      let r = head_at plan at n.i (length gs ∷ ws) (w.cells ∙ ap (λ (x : List ℕ). x ++ w.behind) n.cells) in
      let s = head_at plan (at + 1) (length gs) ws r.2 in
      let q : at + 1 + 1 ≡ at + 2 = omega arith in
      let z : k ≡ suc (k - 1) = omega arith in
      let f : All (Fits w.left (suc (k - 1))) w.rows = rw z at w.fit in
      let m : w.left ≡ suc (pred w.left) = omega (arith, fits-some w.left (k - 1) w.rows f w.some) in
      let y = group-rows (root n.i) (close n.i) w.rows in
      record {
        groups = gs;
        trees = n.trees;
        reads = s.0;
        number = s.1;
        within = rw r.1 (record {
          behind = w.behind;
          cells = rw q at s.2;
          size = w.size;
          most = length w.rows;
          some = group-sizes (root n.i) (close n.i) w.rows;
          few = omega (arith, y, w.few);
          left = pred w.left;
          deep = omega (arith, w.deep, m);
          fit = runs_fit (pred w.left) (k - 1) n.i n.bound w.rows (rw m at f);
          low = n.low w.low;
          enough = omega (arith, w.enough);
          here = omega (arith, n.bound);
          number = w.number;
          opens = w.opens;
          room = omega (arith, n.count, w.room);
          array = w.array;
        });
        same-notes = rw r.1 (n.noted w.slots free row);
        count = n.count;
        cells = ap length n.cells;
        rows = sym y;
        index = n.i;
        index-low = n.bound;
        are = refl;
      }

  pub inside : 0 < k → Inside
  inside l = inside-by (inner w.tree (k - 1) (omega arith)) l

-- The first of some branches, and the others once it is noted.
module _ {plan links noted slots : List ℕ} {i place k made free row : ℕ} {g : Run} {gs : List Run} {p : Plan (arity g.cell + (k - 1)) g.rows}
    {bs : Branches (k - 1) gs} (w : ReadyIn plan links noted slots i place k made free row (next p bs)) where
  unfoldable pub first_of : ReadyAt plan links noted i place k made free row
  unfolding write branches Cells
  first_of = record {
    group = g;
    tree = p;
    behind = writes bs ++ w.behind;
    cells = w.cells ∙ ap (λ (l : List ℕ). g.cell ∷ l) (append_assoc (write p) (writes bs) w.behind);
    size = w.size;
    some = w.some.0.0;
    few = omega (arith, w.few);
    left = w.left;
    deep = w.deep;
    fit = w.fit.0;
    sound = w.low.0;
    low = w.low.1;
    enough = w.enough;
    here = w.here;
    slots = slots;
    number = w.number;
    opens = w.opens;
    room = omega (arith, w.room);
    array = w.array;
  }

  others-of : {noted' : List ℕ} {q : Past} → BranchDone first_of noted' q → ReadyIn plan links noted' slots i q.place k q.made free q.row bs
  unfolding first_of branches Cells
  others-of {noted'} {q} d =
      let r = head_at plan place g.cell (write p ++ (writes bs ++ w.behind)) first_of.cells in
      let e : q.place ≡ place + 1 + length (write p) = d.after ∙ omega arith in
      record {
        behind = w.behind;
        cells = rw e (part_at plan (place + 1) (write p) (writes bs ++ w.behind) r.2);
        size = w.size;
        most = w.most;
        some = w.some.1;
        few = omega (arith, w.few, d.has);
        left = w.left;
        deep = w.deep;
        fit = w.fit.1;
        low = w.low.2;
        enough = w.enough;
        here = w.here;
        number = w.number;
        opens = w.opens;
        room = omega (arith, w.room, d.next);
        array = done-long d ∙ w.array;
      }

-- A state below a branch.

-- the place it looks at is there, and slots for its arguments are
module _ {plan links noted : List ℕ} {i place k made free row : ℕ} (w : ReadyAt plan links noted i place k made free row) where
  abbrev c : ℕ
  c = w.group.cell

  open-below : arity c + (k - 1) ≤ w.left
  open-below = fits-wide w.left (arity c + (k - 1)) w.group.rows w.fit w.some

  pub branch_read : (place < length plan) × (get_or plan place 0 ≡ c) × (drop (place + 1) plan ≡ write w.tree ++ w.behind)
  branch_read = head_at plan place c (write w.tree ++ w.behind) w.cells

  pub branch-bounds : (place < length plan) × (length plan ≤ most_plan_cells) × (0 < k) × (arity c + (k - 1) ≤ 32) × (made < most_branches) × (free + arity c ≤ 63)
  branch-bounds = (
    branch_read.0,
    w.size,
    omega (arith, w.here),
    omega (arith, open-below, w.deep),
    omega (arith, w.room),
    omega (arith, open-below, w.enough, w.here),
  )

  pub met : BranchMet plan links noted i place made free row
  met = record {
    here = branch_read.0;
    spot = record { slots = w.slots; opens = w.opens; here = omega (arith, w.here, w.number); room = rw branch_read.1 (omega (arith, branch-bounds)) };
    few = omega (arith, w.room);
    first = omega (arith, w.some, w.few);
    size = w.array;
  }

  -- the state below it
  module _ {links' noted' : List ℕ} {a : ℕ} (b : Begun met links' noted' a) where
    pub arity-is : a ≡ arity c
    arity-is = b.count ∙ ap arity branch_read.1

    pub number_is : noted' ≡ set noted made (part_of c row free (get_or w.slots i 0))
    unfolding met
    number_is = rw branch_read.1 at b.wrote

    pub number-low : Part (part_of c row free (get_or w.slots i 0))
    unfolding met
    number-low = rw branch_read.1 at b.low

    pub number-cell : cell_in (part_of c row free (get_or w.slots i 0)) ≡ c
    unfolding met
    number-cell = rw branch_read.1 at b.cell

    unfoldable pub lower_of : Ready plan links' noted' (place + 1) (arity c + (k - 1)) (made + 1) (free + arity c) row
    unfolding met
    lower_of = record {
      rows = w.group.rows;
      tree = w.tree;
      behind = w.behind;
      cells = branch_read.2;
      size = w.size;
      some = w.some;
      few = w.few;
      left = w.left;
      deep = w.deep;
      fit = w.fit;
      low = w.low;
      enough = omega (arith, w.enough, w.here);
      slots = below i (arity c) free w.slots;
      number = below-long i (arity c) free w.slots (omega (arith, w.here, w.number)) ∙ omega (arith, w.number);
      opens = rw arity-is at b.opens;
      room = omega (arith, w.room);
      array = ap length number_is ∙ length-set noted made (part_of c row free (get_or w.slots i 0)) ∙ w.array;
    }

-- The loop over a state's branches: those that are left, and that with them all is noted.
module _ {plan links noted₀ : List ℕ} {at k made₀ free row₀ : ℕ} (w : Ready plan links noted₀ at k made₀ free row₀) where
  pub record RestOf (noted : List ℕ) (here : Past) (left : ℕ) {groups : List Run} (trees : Branches (k - 1) groups) : Type 0 where
    pub ready : ReadyIn plan links noted w.slots (get_or plan at 0) here.place k here.made free here.row trees
    pub number : left ≡ length groups
    pub wrote : sets noted here.made (map word (notes_in trees (get_or plan at 0) w.slots free here.row))
        ≡ sets noted₀ made₀ (map word (notes w.tree w.slots free row₀))
    pub after : here.place + length (writes trees) ≡ at + length (write w.tree)
    pub count : here.made + branches_in trees ≡ made₀ + branches w.tree
    pub has : here.row + row_count groups ≡ row₀ + length w.rows
    pub later : at < here.place

  pub record Rest (noted : List ℕ) (here : Past) (left : ℕ) : Type 0 where
    pub groups : List Run
    pub trees : Branches (k - 1) groups
    pub rest : RestOf noted here left trees

  pub all_left : 0 < k → Rest noted₀ (record { place = at + 2; made = made₀; row = row₀ }) (get_or plan (at + 1) 0)
  all_left l = by (inside w l)
    where
      by : Inside w → Rest noted₀ (record { place = at + 2; made = made₀; row = row₀ }) (get_or plan (at + 1) 0)
      by x = record {
        groups = x.groups;
        trees = x.trees;
        rest = record {
          ready = x.within;
          number = x.number;
          wrote = rw x.same-notes;
          after = omega (arith, x.cells);
          count = omega (arith, x.count);
          has = omega (arith, x.rows);
          later = omega arith;
        };
      }

  -- none is left
  none-by : {noted : List ℕ} {here : Past} {left : ℕ} {groups : List Run} (trees : Branches (k - 1) groups) → RestOf noted here left trees → left ≡ 0
      → StateDone w noted here
  unfolding notes branches write
  none-by end r e = record { wrote = r.wrote; after = omega (arith, r.after); next = omega (arith, r.count); has = omega (arith, r.has) }
  none-by (next p bs) r e = absurd (omega (arith, r.number))

  pub none_left : {noted : List ℕ} {here : Past} {left : ℕ} → Rest noted here left → left ≡ 0 → StateDone w noted here
  none_left r e = none-by r.trees r.rest e

  -- the next one, and the others once it is noted
  pub record First (noted : List ℕ) (here : Past) (left : ℕ) : Type 0 where
    pub one : ReadyAt plan links noted (get_or plan at 0) here.place k here.made free here.row
    pub others : (noted' : List ℕ) (q : Past) → BranchDone one noted' q → Rest noted' q (left - 1)

  first_by : {noted : List ℕ} {here : Past} {left : ℕ} {groups : List Run} (trees : Branches (k - 1) groups) → RestOf noted here left trees → 0 < left
      → First noted here left
  unfolding notes branches write first_of
  first_by end r l = absurd (omega (arith, r.number))
  first_by {noted} {here} {left} (next {g = g} {gs = gs} p bs) r l = record {
    one = first_of r.ready;
    others = λ noted' q d.
        let i : ℕ = get_or plan at 0 in
        let made : ℕ = here.made in
        let row : ℕ = here.row in
        let e : q.made ≡ made + 1 + branches p = d.next ∙ omega arith in
        let A = notes_at p g.cell i w.slots free row in
        let B = notes_in bs i w.slots free (row + length g.rows) in
        let z = words_count p (below i (arity g.cell) free w.slots) (free + arity g.cell) row in
        record {
          groups = gs;
          trees = bs;
          rest = record {
            ready = others-of r.ready d;
            number = omega (arith, r.number);
            wrote =
                rw (d.wrote, e, d.has) (sets_more noted made (made + 1 + branches p) (map word A) (map word B) (omega arith)
                ∙ ap (sets noted made) (sym (map-append word A B)) ∙ r.wrote);
            after = omega (arith, r.after, d.after, length-append (write p) (writes bs));
            count = omega (arith, r.count, d.next);
            has = omega (arith, r.has, d.has);
            later = omega (arith, r.later, d.after);
          };
        };
  }

  pub first-left : {noted : List ℕ} {here : Past} {left : ℕ} → Rest noted here left → 0 < left → First noted here left
  first-left r l = first_by r.trees r.rest l

-- what is left of the plan falls, from a state to a branch and from a branch to a state
pub branch-falls : (t l at place : ℕ) → 2 * (l - at) ≡ t → at < l → at < place → 2 * (l - place) + 1 < t
branch-falls t l at place e h b = omega arith

pub state-falls : (t l place at : ℕ) → 2 * (l - place) + 1 ≡ t → place + 1 ≤ at → 2 * (l - at) < t
state-falls t l place at e h = omega arith
