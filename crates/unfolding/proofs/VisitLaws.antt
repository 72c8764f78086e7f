-- The walk over a plan's states, case by case: what stands where in the plan, and what clauses are put once the parts are.
use Prim.Native.Nat.{ℕ, suc, ◌+◌, ◌-◌, ◌*◌, ◌≤◌, ◌<◌}
use mathlib.Core.Path.{◌≡◌, refl, sym, ◌∙◌, ap, subst}
use mathlib.Core.List.{List, [], ◌∷◌, ◌++◌, append_assoc, append-nil}
use native.Mathlib.Numerals.{add-one}
use native.Mathlib.Omega.{arith}
use lib.ListN.{length, get_or, drop, replicate, length-append}
use Rattle.cell.specs.Cell.{arity}
use Rattle.cell.proofs.CellLaws.{arity-small}
use Rattle.term.specs.Terms.{root, close}
use Rattle.term.proofs.Lists.{head_at, part_at}
use Rattle.table.specs.All.{All}
use Rattle.table.proofs.AllLaws.{all-each}
use Rattle.octets.specs.Octets.{Put}
use Rattle.octets.proofs.PutLaws.{put-put, put-nothing}
use Rattle.plan.specs.Runs.{Run, runs}
use Rattle.plan.specs.Plans.{Plan, leaf, node, Branches, end, next, write, writes}
use Rattle.plan.proofs.RunsLaws.{Each, Sized, group-all, group-sizes, group-some}
use Rattle.answer.specs.Skeleton.{hole}
use Rattle.answer.proofs.SkeletonLaws.{fill-all}
use Rattle.clauses.specs.Clauses.{Clause}
use Rattle.clauses.specs.Translate.{each}
use Rattle.clauses.specs.Program.{own, program}
use Rattle.clauses.specs.code.Walk.{several, splits, splits_in, visited, visited_at, visited_in}
use Rattle.clauses.proofs.SeatLaws.{Seat, SeatAt, seat-close, seats}
use Rattle.clauses.proofs.WalkLaws.{program-visited}
use Rattle.unfolding.specs.Flat.{flat, flat_one}
use Rattle.unfolding.specs.code.Walk.{Stands, Fills}
use Rattle.unfolding.specs.code.Visits.{Peopled, own_of, below_of, splits_below, Visits}
use Rattle.unfolding.specs.declared.walk.Stand.{Stand}
use Rattle.unfolding.proofs.PastLaws.{splits-short}
use Rattle.limits.specs.Limits.{most_plan_cells}

abbrev pub stand : (at number to : ℕ) → Stand
stand at number to = record { at = at; number = number; to = to }

-- clauses one after another
pub flat-++ : (xs ys : List Clause) → flat (xs ++ ys) ≡ flat xs ++ flat ys
unfolding flat
flat-++ [] ys = refl
flat-++ (c ∷ xs) ys = ap (λ (l : List ℕ). flat_one c ++ l) (flat-++ xs ys) ∙ sym (append_assoc (flat_one c) (flat xs) (flat ys))

-- a row that fills the blank head of its state, and back
seat-of : (k : ℕ) (x : List ℕ) → Fills k (replicate k hole) x → Seat k x
seat-of k x f = record { terms = f.terms; short = rw (fill-all k f.terms) at f.short; symbols = f.symbols }

fills_of : (k : ℕ) (x : List ℕ) → Seat k x → Fills k (replicate k hole) x
fills_of k x s = record { terms = s.terms; symbols = s.symbols; short = rw (fill-all k s.terms) s.short }

pub seats-of : (k : ℕ) (rows : List (List ℕ)) → All (Fills k (replicate k hole)) rows → All (Seat k) rows
seats-of k rows a = all-each (Fills k (replicate k hole)) (Seat k) (seat-of k) rows a

pub all-fills : (k : ℕ) (rows : List (List ℕ)) → All (Seat k) rows → All (Fills k (replicate k hole)) rows
all-fills k rows a = all-each (Seat k) (Fills k (replicate k hole)) (fills_of k) rows a

-- A STATE WITH ONE BRANCH, AND ONE WITH SEVERAL
at_one : {k : ℕ} {gs : List Run} (bs : Branches k gs) (i n : ℕ) → length gs ≡ 1
    → (visited_at bs i n ≡ visited_in bs n) × (◌≡◌ {A = ℕ} (several gs 0 1) 0)
unfolding visited
at_one end i n e = absurd (let z : ◌≡◌ {A = ℕ} 0 1 = e in omega arith)
at_one (next {k} {g} {gs} p bs) i n e = go gs bs e
  where
    go : (gs : List Run) (bs : Branches k gs) → suc (length gs) ≡ 1
        → (visited_at (next {g = g} p bs) i n ≡ visited_in (next {g = g} p bs) n) × (◌≡◌ {A = ℕ} (several (g ∷ gs) 0 1) 0)
    go [] end e = (sym (append-nil (visited p n)), refl)
    go (g' ∷ gs) bs e = absurd (omega arith)

at-several : {k : ℕ} {gs : List Run} (bs : Branches k gs) (i n : ℕ) → 1 < length gs
    → (visited_at bs i n ≡ own n (suc k) (suc n) (each bs i) ++ visited_in bs (suc n)) × (◌≡◌ {A = ℕ} (several gs 0 1) 1)
unfolding visited
at-several end i n h = absurd (omega arith)
at-several (next {k} {g} {gs} p bs) i n h = go gs bs h
  where
    go : (gs : List Run) (bs : Branches k gs) → 1 < suc (length gs)
        → (visited_at (next {g = g} p bs) i n ≡ own n (suc k) (suc n) (each (next {g = g} p bs) i) ++ visited_in (next {g = g} p bs) (suc n))
        × (◌≡◌ {A = ℕ} (several (g ∷ gs) 0 1) 1)
    go [] end h = absurd (omega arith)
    go (g' ∷ gs) bs h = (refl, refl)

-- A LEAF, AND AN INNER STATE
record Leaf {k : ℕ} {rows : List (List ℕ)} (p : Plan k rows) : Type 0 where
  cells : write p ≡ length rows ∷ []
  none : splits p ≡ 0
  clauses : (n : ℕ) → visited p n ≡ []

leaf-is : {k : ℕ} {rows : List (List ℕ)} (p : Plan k rows) → k ≡ 0 → Leaf p
unfolding write splits visited
leaf-is leaf e = record { cells = refl; none = refl; clauses = λ n. refl }
leaf-is (node i h bs) e = absurd (omega arith)

record Inner {k : ℕ} {rows : List (List ℕ)} (p : Plan k rows) : Type 0 where
  below : ℕ
  one_more : k ≡ suc below
  index : ℕ
  inside : index ≤ below
  trees : Branches below (runs index rows)
  cells : write p ≡ index ∷ (length (runs index rows) ∷ writes trees)
  clauses : (n : ℕ) → below_of p n ≡ visited_in trees n
  count : splits_below p ≡ splits_in trees
  one : length (runs index rows) ≡ 1 → (n : ℕ) → (visited p n ≡ below_of p n) × (splits p ≡ splits_below p)
  more : 1 < length (runs index rows) → (n : ℕ) → (visited p n ≡ own_of p n (suc n) ++ below_of p (suc n)) × (splits p ≡ suc (splits_below p))
  all : All (Seat k) rows → 0 < length rows → program p ≡ own_of p 0 1 ++ below_of p 1

inner-is : {k : ℕ} {rows : List (List ℕ)} (p : Plan k rows) → 0 < k → Inner p
unfolding write visited splits own_of below_of splits_below
inner-is leaf h = absurd (omega arith)
inner-is (node {k} {rows} i l bs) h =
    record {
      below = k;
      one_more = refl;
      index = i;
      inside = l;
      trees = bs;
      cells = refl;
      clauses = λ n. refl;
      count = refl;
      one = λ e n. (let a = at_one bs i n e in (a.0, omega (arith, a.1)));
      more = λ h n. (let a = at-several bs i n h in (a.0, omega (arith, a.1)));
      all = λ a s. program-visited rows i l bs a s;
    }

-- NO BRANCH, AND A FIRST ONE
record None {k : ℕ} {gs : List Run} (bs : Branches k gs) : Type 0 where
  cells : writes bs ≡ []
  none : splits_in bs ≡ 0
  clauses : (n : ℕ) → visited_in bs n ≡ []

none_is : {k : ℕ} {gs : List Run} (bs : Branches k gs) → length gs ≡ 0 → None bs
unfolding write splits visited
none_is end e = record { cells = refl; none = refl; clauses = λ n. refl }
none_is (next p bs) e = absurd (omega arith)

record First {k : ℕ} {gs : List Run} (bs : Branches k gs) : Type 0 where
  run : Run
  others : List Run
  tree : Plan (arity run.cell + k) run.rows
  trees : Branches k others
  runs-are : gs ≡ run ∷ others
  cells : writes bs ≡ run.cell ∷ (write tree ++ writes trees)
  count : splits_in bs ≡ splits tree + splits_in trees
  clauses : (n : ℕ) → visited_in bs n ≡ visited tree n ++ visited_in trees (n + splits tree)

first-is : {k : ℕ} {gs : List Run} (bs : Branches k gs) → 0 < length gs → First bs
unfolding write splits visited
first-is end h = absurd (omega arith)
first-is (next {g = g} {gs = gs} p bs) h =
    record { run = g; others = gs; tree = p; trees = bs; runs-are = refl; cells = refl; count = refl; clauses = λ n. refl }

-- the state that stands at a place
module _ {plan : List ℕ} {at places : ℕ} where
  abbrev inner : (w : Stands plan at places) → 0 < places → Inner w.tree
  inner w h = inner-is w.tree (omega (arith, w.open-places))

  -- its number of branches
  branches_at : (w : Stands plan at places) (h : 0 < places)
      → (get_or plan (at + 1) 0 ≡ length (runs (inner w h).index w.rows)) × (drop (at + 2) plan ≡ writes (inner w h).trees ++ w.rest)
  branches_at w h =
      let i = inner w h in
      let n = length (runs i.index w.rows) in
      let here = head_at plan at i.index (n ∷ (writes i.trees ++ w.rest)) (w.cells ∙ rw i.cells) in
      let two = head_at plan (at + 1) n (writes i.trees ++ w.rest) here.2 in
      let e : at + 1 + 1 ≡ at + 2 = omega arith in
      (two.1, rw e at two.2)

  abbrev VisitedFrom : (w : Peopled plan at places) (old new : List ℕ) (number to : ℕ) → Stand → Type 0
  VisitedFrom w old new number to r =
      Visits old new (stand at number to) (length (write w.stands.tree)) (splits w.stands.tree) (visited w.stands.tree number) r

  abbrev BelowFrom : (w : Peopled plan at places) (old new : List ℕ) (number to : ℕ) → Stand → Type 0
  BelowFrom w old new number to r =
      Visits old new (stand at number to) (length (write w.stands.tree)) (splits_below w.stands.tree) (below_of w.stands.tree number) r

  -- THE STATE ITSELF: a leaf, one branch, several branches
  pub leaf-visits : {out : List ℕ} {number to : ℕ} (w : Peopled plan at places) → places ≡ 0
      → VisitedFrom w out out number to (stand (at + 1) number to)
  unfolding flat
  leaf-visits {number = number} w z =
      let l = leaf-is w.stands.tree (sym w.stands.open-places ∙ z) in
      record { put = rw (l.clauses number) put-nothing; ends = omega (arith, ap length l.cells); counts = omega (arith, l.none) }

  pub one-visits : {old new : List ℕ} {number to : ℕ} {r : Stand} (w : Peopled plan at places) → 0 < places → get_or plan (at + 1) 0 ≡ 1
      → BelowFrom w old new number to r → VisitedFrom w old new number to r
  one-visits {number = number} w h e v =
      let o = (inner w.stands h).one (sym (branches_at w.stands h).0 ∙ e) number in
      record { put = rw o.0 v.put; ends = v.ends; counts = omega (arith, v.counts, o.1) }

  pub several-visits : {old mid new : List ℕ} {number after to on : ℕ} {r : Stand} (w : Peopled plan at places) → 0 < places
      → Put old mid to (flat (own_of w.stands.tree number after)) on → BelowFrom w mid new after on r
      → after ≡ number + 1 → (get_or plan (at + 1) 0 ≡ 1 → ⊥) → VisitedFrom w old new number to r
  several-visits {number = number} {after} w h p v e n =
      let t = w.stands.tree in
      let i = inner w.stands h in
      let b = (branches_at w.stands h).0 in
      let some = group-some (root i.index) (close i.index) w.stands.rows w.some in
      let m = i.more (omega (arith, b, n, some)) number in
      let all : visited t number ≡ own_of t number after ++ below_of t after = rw (e, add-one) m.0 in
      record {
        put = rw (all, flat-++ (own_of t number after) (below_of t after)) (put-put p v.put);
        ends = v.ends;
        counts = omega (arith, v.counts, m.1, e);
      }

  -- the first state: with its own clauses it is the program
  pub first-visits : {old mid new : List ℕ} {on : ℕ} {r : Stand} (w : Peopled plan at places) → 0 < places
      → Put old mid 0 (flat (own_of w.stands.tree 0 1)) on → BelowFrom w mid new 1 on r → Put old new 0 (flat (program w.stands.tree)) r.to
  first-visits w h p v =
      let t = w.stands.tree in
      let e = (inner w.stands h).all (seats-of w.stands.k w.stands.rows w.fills) w.some in
      rw (e, flat-++ (own_of t 0 1) (below_of t 1)) (put-put p v.put)

  -- ITS BRANCHES, part of the way: those that are left stand in the plan where the walk does; `done` is put, and what is done and what
  -- is left are the whole
  pub record Left (w : Peopled plan at places) (number to : ℕ) (old new : List ℕ) (left : ℕ) (here : Stand) : Type 0 where
    pub k : ℕ
    pub gs : List Run
    pub trees : Branches k gs
    pub rest : List ℕ
    pub done : List Clause
    pub open-places : places ≡ suc k
    pub count : left ≡ length gs
    pub cells : drop here.at plan ≡ writes trees ++ rest
    pub seated : Each (SeatAt k) gs
    pub sized : Sized (length w.stands.rows) gs
    pub after : at < here.at
    pub low : number ≤ at + 1 → here.number ≤ here.at
    pub puts : Put old new to (flat done) here.to
    pub clauses : below_of w.stands.tree number ≡ done ++ visited_in trees here.number
    pub past : here.at + length (writes trees) ≡ at + length (write w.stands.tree)
    pub counted : here.number + splits_in trees ≡ number + splits_below w.stands.tree

  pub below-enters : {out : List ℕ} {number to left : ℕ} (w : Peopled plan at places) → 0 < places → left ≡ get_or plan (at + 1) 0
      → Left w number to out out left (stand (at + 2) number to)
  unfolding flat
  below-enters {number = number} w h z =
      let s = w.stands in
      let i = inner s h in
      let b = branches_at s h in
      let all : All (Seat (suc i.below)) s.rows
      = subst (λ (n : ℕ). All (Seat n) s.rows) i.one_more (seats-of s.k s.rows w.fills) in
      record {
        k = i.below;
        gs = runs i.index s.rows;
        trees = i.trees;
        rest = s.rest;
        done = [];
        open-places = s.open-places ∙ i.one_more;
        count = z ∙ b.0;
        cells = b.1;
        seated = group-all (root i.index) (close i.index) (Seat (suc i.below)) (SeatAt i.below)
            (seat-close i.below i.index i.inside) s.rows all;
        sized = group-sizes (root i.index) (close i.index) s.rows;
        after = omega arith;
        low = λ l. omega arith;
        puts = put-nothing;
        clauses = i.clauses number;
        past = omega (arith, ap length i.cells);
        counted = omega (arith, i.count);
      }

  -- no branch is left
  pub below-done : {old new : List ℕ} {number to left : ℕ} {here : Stand} (w : Peopled plan at places)
      → Left w number to old new left here → left ≡ 0 → BelowFrom w old new number to here
  below-done {number = number} {here = here} w l z =
      let n = none_is l.trees (sym l.count ∙ z) in
      let e : below_of w.stands.tree number ≡ l.done = l.clauses ∙ rw (n.clauses here.number) (append-nil l.done) in
      record {
        put = rw e l.puts;
        ends = omega (arith, l.past, ap length n.cells);
        counts = omega (arith, l.counted, n.none);
      }

  -- the next branch, with a arguments: the state below it, the branches beside it
  pub record Goes {w : Peopled plan at places} {number to : ℕ} {old new : List ℕ} {left : ℕ} {here : Stand} (l : Left w number to old new left here)
      (a : ℕ) : Type 0 where
    pub inside : here.at < length plan
    pub size : length plan ≤ most_plan_cells
    pub wide : places ≤ 4 * here.at + 8
    pub inner : 0 < places
    pub further : at < here.at
    pub few-args : a ≤ 4
    pub below : Peopled plan (here.at + 1) (a + places - 1)
    pub beside : {last : List ℕ} {s : Stand} {rest : ℕ} → rest + 1 ≡ left
        → Visits new last (stand (here.at + 1) here.number here.to) (length (write below.stands.tree)) (splits below.stands.tree)
        (visited below.stands.tree here.number) s
        → Left w number to old last rest s

  pub goes_on : {w : Peopled plan at places} {number to : ℕ} {old new : List ℕ} {left : ℕ} {here : Stand} (l : Left w number to old new left here)
      (a : ℕ) → 0 < left → a ≡ arity (get_or plan here.at 0) → Goes l a
  goes_on {w = w} {number} {to} {old} {new} {left} {here} l a h ea =
      let p = here.at in
      let f = first-is l.trees (omega (arith, l.count)) in
      let cells = head_at plan p f.run.cell ((write f.tree ++ writes f.trees) ++ l.rest) (l.cells ∙ rw f.cells) in
      let after : drop (p + 1) plan ≡ write f.tree ++ (writes f.trees ++ l.rest)
      = cells.2 ∙ append_assoc (write f.tree) (writes f.trees) l.rest in
      let seated : Each (SeatAt l.k) (f.run ∷ f.others) = subst (Each (SeatAt l.k)) f.runs-are l.seated in
      let sized : Sized (length w.stands.rows) (f.run ∷ f.others) = subst (Sized (length w.stands.rows)) f.runs-are l.sized in
      let places-below : ℕ = arity f.run.cell + l.k in
      record {
        inside = cells.0;
        size = w.stands.size;
        wide = omega (arith, w.stands.wide, l.after);
        inner = omega (arith, l.open-places);
        further = l.after;
        few-args = omega (arith, ea, arity-small (get_or plan p 0));
        below = record {
          stands = record {
            k = places-below;
            rows = f.run.rows;
            tree = f.tree;
            rest = writes f.trees ++ l.rest;
            open-places = omega (arith, ea, ap arity cells.1, l.open-places);
            cells = after;
            wide = omega (arith, w.stands.wide, l.after, ea, arity-small (get_or plan p 0));
            size = w.stands.size;
          };
          some = sized.0.0;
          fills = all-fills places-below f.run.rows (seats l.k f.run.cell f.run.rows seated.0);
        };
        beside = λ {last} {s} less q. record {
          k = l.k;
          gs = f.others;
          trees = f.trees;
          rest = l.rest;
          done = l.done ++ visited f.tree here.number;
          open-places = l.open-places;
          count = omega (arith, l.count, ap length f.runs-are);
          cells = rw q.ends (part_at plan (p + 1) (write f.tree) (writes f.trees ++ l.rest) after);
          seated = seated.1;
          sized = sized.1;
          after = omega (arith, l.after, q.ends);
          low = λ m. omega (arith, l.low m, q.ends, q.counts, splits-short f.tree);
          puts = rw (flat-++ l.done (visited f.tree here.number)) (put-put l.puts q.put);
          clauses = l.clauses ∙ rw (f.clauses here.number, q.counts)
              (sym (append_assoc l.done (visited f.tree here.number) (visited_in f.trees (here.number + splits f.tree))));
          past = omega (arith, l.past, q.ends, ap length f.cells, length-append (write f.tree) (writes f.trees));
          counted = omega (arith, l.counted, q.counts, f.count);
        };
      }
