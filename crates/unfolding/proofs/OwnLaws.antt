-- A branch's clause, and the clauses of a state's predicate one after another.
use Prim.Native.Nat.{ℕ, zero, suc, ◌+◌, ◌-◌, ◌*◌, ◌^◌, ◌≤◌, ◌<◌}
use mathlib.Core.Path.{◌≡◌, refl, sym, ◌∙◌, ap, subst}
use mathlib.Core.Bool.{Bool, true, false, cond}
use mathlib.Core.List.{List, [], ◌∷◌, ◌++◌, append_assoc}
use native.Mathlib.Omega.{arith}
use lib.Dec.{eqb}
use lib.ListN.{length, get_or, take, drop, replicate, length-append, length-drop, length-replicate}
use lib.Seq.{length-take-le}
use borrow.Author.Tests.{le-leb}
use Rattle.cell.specs.Cell.{arity}
use Rattle.cell.proofs.CellLaws.{arity-small}
use Rattle.term.specs.Terms.{root, close}
use Rattle.term.proofs.Step.{Terms-fresh}
use Rattle.term.proofs.Lists.{head_at, part_at}
use Rattle.table.specs.All.{All}
use Rattle.table.specs.Table.{count}
use Rattle.table.proofs.AllLaws.{all-each}
use Rattle.table.proofs.HeadLaws.{up-length}
use Rattle.plan.specs.Runs.{Run, runs}
use Rattle.plan.specs.Plans.{Plan, leaf, node, Branches, end, next, write, writes}
use Rattle.plan.proofs.RunsLaws.{Each, Sized, group-all, group-sizes}
use Rattle.plan.proofs.PlansLaws.{write-some}
use Rattle.answer.specs.Skeleton.{hole, decide}
use Rattle.answer.proofs.CountLaws.{up-distinct}
use Rattle.answer.proofs.SkeletonLaws.{count-all}
use Rattle.octets.specs.Octets.{Put}
use Rattle.octets.proofs.PutLaws.{Putting, put-begins, put-part, put-ends}
use Rattle.clauses.specs.Clauses.{Clause, clause_of}
use Rattle.clauses.specs.Translate.{Predicate, head_of, each, clause}
use Rattle.clauses.specs.Program.{own}
use Rattle.clauses.specs.code.Walk.{splits, fold_head, fold_body}
use Rattle.clauses.proofs.SolidLaws.{head-is, fill-long}
use Rattle.clauses.proofs.SeatLaws.{SeatAt, one-solid, below-count, blank}
use Rattle.clauses.proofs.WalkLaws.{clause-own}
use Rattle.heads.specs.Heads.{clause_cells}
use Rattle.heads.proofs.HeadLaws.{hole-is, CanDecide, decide-long}
use Rattle.unfolding.specs.Flat.{called_in, flat_one, flat}
use Rattle.unfolding.specs.code.Walk.{Stands, PastOf, Fills}
use Rattle.unfolding.specs.code.Folds.{Folds, Folded}
use Rattle.unfolding.specs.code.Visits.{Peopled, own_of}
use Rattle.unfolding.specs.code.Branch.{first_head, BranchAt, branch_clause}
use Rattle.unfolding.specs.declared.fold.Fold.{Fold}
use Rattle.unfolding.specs.declared.own.Own.{Own}
use Rattle.unfolding.specs.declared.past.Past.{Past}
use Rattle.unfolding.proofs.PastLaws.{splits-short}
use Rattle.unfolding.proofs.FoldLaws.{count-short, fills-short, FillsAt, fills-close}
use Rattle.unfolding.proofs.RunLaws.{folded}
use Rattle.limits.specs.Limits.{most_plan_cells}

-- A BRANCH'S CLAUSE
-- a head as it is said is as long as it was
head-long : (K : List ℕ) → length K ≤ 32 → length (head_of K) ≡ length K
head-long K h =
    let n = count hole K in
    let f = fill-long K _ (Terms-fresh (up-distinct 0 n (omega (arith, count-short K)))) in
    omega (arith, ap length (head-is K n refl), f, up-length 0 n)

-- the room before anything is decided
pub blank-taken : (n m : ℕ) → n ≤ m → take n (replicate m 4294967295) ≡ replicate n hole
blank-taken zero m h = refl
blank-taken (suc n) zero h = absurd (omega arith)
blank-taken (suc n) (suc m) h = rw (blank-taken n m (omega arith), hole-is)

same-clause : {k j j' w n n' : ℕ} {h h' : List ℕ} → j ≡ j' → n ≡ n' → h ≡ h' → k ∷ j ∷ w ∷ n ∷ h ≡ k ∷ j' ∷ w ∷ n' ∷ h'
same-clause a b c = rw (a, b, c)

called-few : (b : Bool) (n : ℕ) → cond b 0 n ≤ n
called-few true n = omega arith
called-few false n = omega arith

module _ {plan : List ℕ} {p index : ℕ} {o : Own} (w : BranchAt plan p index o) where
  abbrev K : List ℕ
  K = first_head plan p index o.width

  pub branch-inside : (p + 1 < length plan) × (length plan ≤ most_plan_cells)
  branch-inside =
      let s = w.below in
      (omega (arith, length-drop (p + 1) plan, ap length s.cells, length-append (write s.tree) s.rest, write-some s.tree), s.size)

  -- how many cells the head has once the branch's cell is decided
  branch-long : (length K ≡ o.width + arity (get_or plan p 0)) × (length K ≤ 32)
  branch-long =
      let n = o.width in
      let l = decide-long index (get_or plan p 0) (replicate n hole) (omega (arith, count-all n, w.there)) in
      (omega (arith, l, length-replicate n hole), fills-short K w.below.rows w.open-here w.some w.fills)

  room-taken : take o.width (replicate 32 4294967295) ≡ replicate o.width hole
  room-taken = let l = branch-long in blank-taken o.width 32 (omega (arith, l.0, l.1))

  pub branch-decides : CanDecide (replicate 32 4294967295) o.width index (get_or plan p 0)
  branch-decides =
      let l = branch-long in
      record {
        room = length-replicate {A = ℕ} 32 4294967295;
        there = rw room-taken (omega (arith, count-all o.width, w.there));
        short = omega (arith, l.0, l.1);
      }

  -- the run's fold begins there
  pub record Starts (head : List ℕ) (from : Fold) : Type 0 where
    pub folds : Folds plan head from
    pub heads : fold_head folds.stands.tree (take from.cells head) ≡ fold_head w.below.tree K
    pub bodies : (n : ℕ) → fold_body folds.stands.tree n ≡ fold_body w.below.tree n

  pub starts : {head : List ℕ} {n a : ℕ} → length head ≡ 32 → n ≡ o.width + arity (get_or plan p 0)
      → take n head ≡ decide index (get_or plan p 0) (take o.width (replicate 32 4294967295)) → a ≡ arity (get_or plan p 0)
      → Starts head (folded (p + 1) (a + o.width - 1) n)
  starts {head} {n} h q e ea =
      let s = w.below in
      let l = branch-long in
      let d : take n head ≡ K = e ∙ ap (decide index (get_or plan p 0)) room-taken in
      record {
        folds = record {
          stands = record {
            k = s.k;
            rows = s.rows;
            tree = s.tree;
            rest = s.rest;
            open-places = rw ea s.open-places;
            cells = s.cells;
            wide = rw ea s.wide;
            size = s.size;
          };
          some = w.some;
          room = h;
          open-here = ap (count hole) d ∙ w.open-here;
          within = omega (arith, q, l.0, l.1);
          fills = subst (λ (L : List ℕ). All (Fills s.k L) s.rows) (sym d) w.fills;
        };
        heads = ap (fold_head s.tree) d;
        bodies = λ m. refl;
      }

  -- the clause's numbers are small
  pub called-fits : (places : ℕ) {j : ℕ} → j ≡ cond (eqb places 0) 0 o.called → j < 2 ^ 32
  called-fits places q = let c = called-few (eqb places 0) o.called in omega (arith, q, c, w.called-small)

  pub branch-narrow : o.width + arity (get_or plan p 0) ≤ 32
  branch-narrow = let l = branch-long in omega (arith, l.0, l.1)

  -- at the run's end, what is put is the branch's clause
  pub branch-put : {head head' : List ℕ} {from r : Fold} (s : Starts head from) {old new : List ℕ} {to j e : ℕ} → Folded s.folds head' r
      → j ≡ cond (eqb r.places 0) 0 o.called
      → Put old new to (clause_cells o.predicate j o.width (take r.cells head')) e
      → Put old new to (flat_one (branch_clause w)) e
  branch-put {head' = head'} {r = r} s {old} {new} {to} {e = e} f q x =
      let L = take r.cells head' in
      let kept : length L ≡ r.cells = length-take-le r.cells head' (omega (arith, f.room, f.within)) in
      let h = f.heads ∙ s.heads in
      let l = sym (head-long L (omega (arith, kept, f.within))) ∙ ap length h in
      let b = q ∙ sym (f.bodies o.called) ∙ ap called_in (s.bodies o.called) in
      subst (λ (c : List ℕ). Put old new to c e) (same-clause b l h) (rw (le-leb (length L) 32 (omega (arith, kept, f.within))) at x)

-- ALL CLAUSES OF A STATE'S PREDICATE
record Inner {k : ℕ} {rows : List (List ℕ)} (p : Plan k rows) : Type 0 where
  below : ℕ
  one_more : k ≡ suc below
  index : ℕ
  inside : index ≤ below
  trees : Branches below (runs index rows)
  cells : write p ≡ index ∷ (length (runs index rows) ∷ writes trees)
  clauses : (j n : ℕ) → own_of p j n ≡ own j k n (each trees index)

inner-is : {k : ℕ} {rows : List (List ℕ)} (p : Plan k rows) → 0 < k → Inner p
unfolding write own_of
inner-is leaf h = absurd (omega arith)
inner-is (node {k} i l bs) h = record { below = k; one_more = refl; index = i; inside = l; trees = bs; cells = refl; clauses = λ j n. refl }

none-own : {k : ℕ} {gs : List Run} (bs : Branches k gs) (i j w n : ℕ) → length gs ≡ 0 → flat (own j w n (each bs i)) ≡ []
unfolding each own flat
none-own end i j w n e = refl
none-own (next p bs) i j w n e = absurd (omega arith)

record First {k : ℕ} {gs : List Run} (bs : Branches k gs) (i : ℕ) : Type 0 where
  run : Run
  others : List Run
  tree : Plan (arity run.cell + k) run.rows
  trees : Branches k others
  runs-are : gs ≡ run ∷ others
  cells : writes bs ≡ run.cell ∷ (write tree ++ writes trees)
  clauses : each bs i ≡ clause tree (decide i run.cell (blank k)) (each trees i)

first-is : {k : ℕ} {gs : List Run} (bs : Branches k gs) (i : ℕ) → 0 < length gs → First bs i
unfolding write each
first-is end i h = absurd (omega arith)
first-is (next {g = g} {gs = gs} p bs) i h =
    record { run = g; others = gs; tree = p; trees = bs; runs-are = refl; cells = refl; clauses = refl }

first_flat : {k : ℕ} {gs : List Run} {bs : Branches k gs} {i : ℕ} (f : First bs i) (j w n : ℕ) → 0 < length f.run.rows
    → flat (own j w n (each bs i))
    ≡ flat_one (clause_of j w (fold_head f.tree (decide i f.run.cell (blank k))) (fold_body f.tree n))
    ++ flat (own j w (n + splits f.tree) (each f.trees i))
unfolding flat
first_flat {k} {i = i} f j w n s =
    ap (λ (P : Predicate). flat (own j w n P)) f.clauses
    ∙ ap flat (clause-own f.tree (decide i f.run.cell (blank k)) (each f.trees i) j w n s)

abbrev pub mine : (predicate called width : ℕ) → Own
mine k n w = record { predicate = k; called = n; width = w }

own-rows : {x d : ℕ} → x ≤ d → (rows : List (List ℕ)) → All (Fills (suc d) (blank d)) rows → Each (FillsAt x d (blank d)) (runs x rows)
own-rows {x} {d} h rows a =
    group-all (root x) (close x) (Fills (suc d) (blank d)) (FillsAt x d (blank d)) (fills-close x d (blank d) h (count-all (suc d))) rows a

-- its first two cells are inside the plan
pub own-inside : {plan : List ℕ} {at places : ℕ} (w : Peopled plan at places) → 0 < places
    → (at + 1 < length plan) × (length plan ≤ most_plan_cells) × (get_or plan at 0 < places) × (places ≤ 4 * at + 8)
own-inside {plan} {at} w h =
    let s = w.stands in
    let i = inner-is s.tree (omega (arith, s.open-places)) in
    let one = head_at plan at i.index (length (runs i.index s.rows) ∷ (writes i.trees ++ s.rest)) (s.cells ∙ rw i.cells) in
    let two = head_at plan (at + 1) (length (runs i.index s.rows)) (writes i.trees ++ s.rest) one.2 in
    (two.0, s.size, omega (arith, one.1, i.inside, i.one_more, s.open-places), s.wide)

module _ {plan : List ℕ} {at places : ℕ} (w : Peopled plan at places) (j next : ℕ) where
  -- part of the way: the branches that are left stand in the plan where the walk does, and their clauses are still to be put
  pub record OwnLeft (index : ℕ) (old : List ℕ) (to : ℕ) (new : List ℕ) (left p on called : ℕ) : Type 0 where
    pub k : ℕ
    pub gs : List Run
    pub trees : Branches k gs
    pub rest : List ℕ
    pub most : ℕ
    pub open-places : places ≡ suc k
    pub inside : index ≤ k
    pub count_of : left ≡ length gs
    pub cells : drop p plan ≡ writes trees ++ rest
    pub after : at < p
    pub few : called ≤ p
    pub sized : Sized most gs
    pub rows : Each (FillsAt index k (blank k)) gs
    pub puts : Putting old new to on (flat (own j places called (each trees index))) (flat (own_of w.stands.tree j next))

  pub own-begins : {out : List ℕ} {to left : ℕ} → 0 < places → next ≤ at + 1 → left ≡ get_or plan (at + 1) 0
      → OwnLeft (get_or plan at 0) out to out left (at + 2) to next
  own-begins {out} {to} h n z =
      let s = w.stands in
      let i = inner-is s.tree (omega (arith, s.open-places)) in
      let x = i.index in
      let d = i.below in
      let gs = runs x s.rows in
      let one = head_at plan at x (length gs ∷ (writes i.trees ++ s.rest)) (s.cells ∙ rw i.cells) in
      let two = head_at plan (at + 1) (length gs) (writes i.trees ++ s.rest) one.2 in
      let e : at + 1 + 1 ≡ at + 2 = omega arith in
      let rows = own-rows i.inside s.rows (subst (λ (m : ℕ). All (Fills m (replicate m hole)) s.rows) i.one_more w.fills) in
      let same : own_of s.tree j next ≡ own j places next (each i.trees (get_or plan at 0)) =
      i.clauses j next ∙ ap (λ (m : ℕ). own j m next (each i.trees x)) (sym s.open-places)
      ∙ ap (λ (m : ℕ). own j places next (each i.trees m)) (sym one.1) in
      record {
        k = d;
        gs = gs;
        trees = i.trees;
        rest = s.rest;
        most = length s.rows;
        open-places = s.open-places ∙ i.one_more;
        inside = omega (arith, one.1, i.inside);
        count_of = z ∙ two.1;
        cells = rw e at two.2;
        after = omega arith;
        few = omega arith;
        sized = group-sizes (root x) (close x) s.rows;
        rows = subst (λ (m : ℕ). Each (FillsAt m d (blank d)) gs) (sym one.1) rows;
        puts = subst (λ (cs : List Clause). Putting out out to to (flat cs) (flat (own_of s.tree j next))) same put-begins;
      }

module _ {plan : List ℕ} {at places : ℕ} {w : Peopled plan at places} {j next index : ℕ} {old new : List ℕ} {to left p on called : ℕ}
    (l : OwnLeft w j next index old to new left p on called) where
  pub own-ends : left ≡ 0 → Put old new to (flat (own_of w.stands.tree j next)) on
  own-ends z = put-ends (rw (none-own l.trees index j places called (sym l.count_of ∙ z)) at l.puts)

  -- the first of the branches that are left: where it stands, and that its rows fill the head in which its cell is decided
  record Here : Type 0 where
    first : First l.trees index
    cell : get_or plan p 0 ≡ first.run.cell
    past : drop (p + 1) plan ≡ write first.tree ++ (writes first.trees ++ l.rest)
    within : p + 1 + length (write first.tree) ≤ length plan
    some : 0 < length first.run.rows
    heads : first_head plan p index places ≡ decide index first.run.cell (blank l.k)
    open-here : count hole (decide index first.run.cell (blank l.k)) ≡ arity first.run.cell + l.k
    fills : All (Fills (arity first.run.cell + l.k) (decide index first.run.cell (blank l.k))) first.run.rows
    sized : Sized l.most first.others
    rows : Each (FillsAt index l.k (blank l.k)) first.others

  own-here : 0 < left → Here
  own-here h =
      let f = first-is l.trees index (omega (arith, l.count_of)) in
      let t = f.tree in
      let c = f.run.cell in
      let k = l.k in
      let B = blank k in
      let cells = head_at plan p c ((write t ++ writes f.trees) ++ l.rest) (l.cells ∙ rw f.cells) in
      let past = cells.2 ∙ append_assoc (write t) (writes f.trees) l.rest in
      let sized : Sized l.most (f.run ∷ f.others) = subst (Sized l.most) f.runs-are l.sized in
      let rows : Each (FillsAt index k B) (f.run ∷ f.others) = subst (Each (FillsAt index k B)) f.runs-are l.rows in
      let seats = all-each (FillsAt index k B c) (SeatAt k c) (λ x y. y.0) f.run.rows rows.0 in
      record {
        first = f;
        cell = cells.1;
        past = past;
        within = omega (arith, cells.0, length-drop (p + 1) plan, ap length past, length-append (write t) (writes f.trees ++ l.rest));
        some = sized.0.0;
        heads = ap (λ (x : ℕ). decide index x (replicate places hole)) cells.1 ∙ ap (λ (n : ℕ). decide index c (replicate n hole)) l.open-places;
        open-here = below-count index c k B (count-all (suc k)) l.inside (one-solid k c f.run.rows seats sized.0.0);
        fills = all-each (FillsAt index k B c) (Fills (arity c + k) (decide index c B)) (λ x y. y.1) f.run.rows rows.0;
        sized = sized.1;
        rows = rows.1;
      }

  -- the state below it
  abbrev own_below : (x : Here) (a : ℕ) → a ≡ arity (get_or plan p 0) → Stands plan (p + 1) (a + places - 1)
  own_below x a ea =
      record {
        k = arity x.first.run.cell + l.k;
        rows = x.first.run.rows;
        tree = x.first.tree;
        rest = writes x.first.trees ++ l.rest;
        open-places = omega (arith, ea, ap arity x.cell, l.open-places);
        cells = x.past;
        wide = omega (arith, w.stands.wide, l.after, ea, arity-small (get_or plan p 0));
        size = w.stands.size;
      }

  abbrev own-branch : Here → j ≤ at → BranchAt plan p index (mine j called places)
  own-branch x m =
      record {
        below = own_below x (arity (get_or plan p 0)) refl;
        some = x.some;
        there = omega (arith, l.inside, l.open-places);
        open-here = ap (count hole) x.heads ∙ x.open-here;
        fills = subst (λ (H : List ℕ). All (Fills (arity x.first.run.cell + l.k) H) x.first.run.rows) (sym x.heads) x.fills;
        predicate-small = omega (arith, m, l.after, x.within, w.stands.size);
        called-small = omega (arith, l.few, x.within, w.stands.size);
      }

  -- once its clause is put, the branches beside it are left
  abbrev its_clause : Here → Clause
  its_clause x = clause_of j places (fold_head x.first.tree (first_head plan p index places)) (fold_body x.first.tree called)

  own-next : (x : Here) (n : ℕ) → n ≡ splits x.first.tree
      → flat (own j places called (each l.trees index)) ≡ flat_one (its_clause x) ++ flat (own j places (called + n) (each x.first.trees index))
  own-next x n q = rw (x.heads, q) (first_flat x.first j places called x.some)

  own-beside : (x : Here) {rest : ℕ} {s : Past} {new' : List ℕ} {on' : ℕ} → rest + 1 ≡ left → PastOf x.first.tree (p + 1) s → Put new new' on (flat_one (its_clause x)) on'
      → OwnLeft w j next index old to new' rest s.at on' (called + s.splits)
  own-beside x {s = s} less q y =
      let t = x.first.tree in
      let e = own-next x s.splits q.counts in
      record {
        k = l.k;
        gs = x.first.others;
        trees = x.first.trees;
        rest = l.rest;
        most = l.most;
        open-places = l.open-places;
        inside = l.inside;
        count_of = omega (arith, l.count_of, ap length x.first.runs-are);
        cells = rw q.ends (part_at plan (p + 1) (write t) (writes x.first.trees ++ l.rest) x.past);
        after = omega (arith, l.after, q.ends);
        few = omega (arith, l.few, q.ends, q.counts, splits-short t);
        sized = x.sized;
        rows = x.rows;
        puts = put-part (subst (λ (text : List ℕ). Putting old new to on text (flat (own_of w.stands.tree j next))) e l.puts) y;
      }

  -- the next branch, with a arguments: the state below it, its clause, the branches beside it
  pub record OwnGoes (a : ℕ) : Type 0 where
    pub here : p + 1 < length plan
    pub size : length plan ≤ most_plan_cells
    pub wide : places ≤ 4 * p + 8
    pub inner : 0 < places
    pub few-args : a ≤ 4
    pub below : Stands plan (p + 1) (a + places - 1)
    pub branch : BranchAt plan p index (mine j called places)
    pub fits : {s : Past} → PastOf below.tree (p + 1) s → called + s.splits ≤ most_plan_cells
    pub beside : {rest : ℕ} {s : Past} {new' : List ℕ} {on' : ℕ} → rest + 1 ≡ left → PastOf below.tree (p + 1) s → Put new new' on (flat_one (branch_clause branch)) on'
        → OwnLeft w j next index old to new' rest s.at on' (called + s.splits)

  pub own-goes : (a : ℕ) → 0 < left → j ≤ at → a ≡ arity (get_or plan p 0) → OwnGoes a
  own-goes a h m ea =
      let x = own-here h in
      let t = x.first.tree in
      record {
        here = omega (arith, x.within, write-some t);
        size = w.stands.size;
        wide = omega (arith, w.stands.wide, l.after);
        inner = omega (arith, l.open-places);
        few-args = omega (arith, ea, arity-small (get_or plan p 0));
        below = own_below x a ea;
        branch = own-branch x m;
        fits = λ q. omega (arith, q.counts, splits-short t, l.few, x.within, w.stands.size);
        beside = λ less q y. own-beside x less q y;
      }
