-- The fold of a straight run in the plan's cells: whether it goes on, a turn, its end.
use Prim.Native.Nat.{ℕ, zero, suc, ◌+◌, ◌-◌, ◌*◌, ◌≤◌, ◌<◌}
use mathlib.Core.Path.{◌≡◌, refl, sym, ◌∙◌, ap, subst}
use mathlib.Core.Bool.{true, false, cond}
use mathlib.Core.List.{List, [], ◌∷◌, ◌++◌}
use native.Mathlib.Omega.{arith}
use lib.Dec.{eqb}
use lib.ListN.{length, get_or, take}
use lib.Seq.{length-take-le}
use borrow.Author.Tests.{eqb-false, ne_eqb}
use Rattle.cell.specs.Cell.{arity}
use Rattle.cell.proofs.CellLaws.{arity-small}
use Rattle.term.specs.Terms.{root, close}
use Rattle.term.proofs.Lists.{head_at}
use Rattle.table.specs.All.{All}
use Rattle.table.specs.Table.{count, up_from}
use Rattle.plan.specs.Runs.{Run, runs}
use Rattle.plan.specs.Plans.{Plan, leaf, node, Branches, end, next, write, writes}
use Rattle.plan.proofs.RunsLaws.{group-some}
use Rattle.answer.specs.Skeleton.{hole, decide}
use Rattle.clauses.specs.Clauses.{calls}
use Rattle.clauses.specs.Translate.{head_of}
use Rattle.clauses.specs.code.Walk.{fold_head, fold_head_in, fold_body, fold_body_in}
use Rattle.clauses.proofs.SolidLaws.{head-is, fill_none}
use Rattle.heads.proofs.HeadLaws.{CanDecide, decide-long}
use Rattle.unfolding.specs.Flat.{called_in}
use Rattle.unfolding.specs.code.Walk.{Stands, goes_on, Fills}
use Rattle.unfolding.specs.code.Folds.{Folds, Folded}
use Rattle.unfolding.specs.declared.fold.Fold.{Fold}
use Rattle.unfolding.proofs.FoldLaws.{one-branch, fills-next, fills-short}
use Rattle.limits.specs.Limits.{most_plan_cells}

abbrev pub folded : (at places cells : ℕ) → Fold
folded at places n = record { at = at; places = places; cells = n }

-- WHETHER IT GOES ON
goes-leaf : {k : ℕ} {rows : List (List ℕ)} (p : Plan k rows) → k ≡ 0 → false ≡ goes_on p
unfolding goes_on
goes-leaf leaf e = refl
goes-leaf (node i h bs) e = absurd (omega arith)

record Begins {k : ℕ} {rows : List (List ℕ)} (p : Plan k rows) : Type 0 where
  index : ℕ
  count_of : ℕ
  others : List ℕ
  cells : write p ≡ index ∷ (count_of ∷ others)
  on : goes_on p ≡ eqb count_of 1

begins : {k : ℕ} {rows : List (List ℕ)} (p : Plan k rows) → 0 < k → Begins p
unfolding goes_on write
begins leaf h = absurd (omega arith)
begins (node {rows = rows} i l bs) h = record { index = i; count_of = length (runs i rows); others = writes bs; cells = refl; on = refl }

module _ {plan : List ℕ} {at places : ℕ} (w : Stands plan at places) where
  pub straight-leaf : places ≡ 0 → false ≡ goes_on w.tree
  straight-leaf z = goes-leaf w.tree (sym w.open-places ∙ z)

  pub straight-inner : 0 < places → eqb (get_or plan (at + 1) 0) 1 ≡ goes_on w.tree
  straight-inner h =
      let b = begins w.tree (omega (arith, w.open-places)) in
      let one = head_at plan at b.index (b.count_of ∷ (b.others ++ w.rest)) (w.cells ∙ rw b.cells) in
      let two = head_at plan (at + 1) b.count_of (b.others ++ w.rest) one.2 in
      ap (λ (n : ℕ). eqb n 1) two.1 ∙ sym b.on

-- ITS END
several-in : {k : ℕ} {gs : List Run} (bs : Branches k gs) (i : ℕ) (K : List ℕ) → 2 ≤ length gs
    → (head_of K ≡ fold_head_in bs i K) × ((n : ℕ) → fold_body_in bs n ≡ calls n)
unfolding fold_head fold_body
several-in end i K h = absurd (omega arith)
several-in (next {k} {g} {gs} p bs) i K h = go gs bs h
  where
    go : (gs : List Run) (bs : Branches k gs) → 2 ≤ suc (length gs)
        → (head_of K ≡ fold_head_in (next {g = g} p bs) i K) × ((n : ℕ) → fold_body_in (next {g = g} p bs) n ≡ calls n)
    go [] bs h = absurd (omega arith)
    go (g' ∷ gs) bs h = (refl, λ n. refl)

ended : {k : ℕ} {rows : List (List ℕ)} (p : Plan k rows) (K : List ℕ) → count hole K ≡ k → 0 < length rows → goes_on p ≡ false
    → (head_of K ≡ fold_head p K) × ((n : ℕ) → called_in (fold_body p n) ≡ cond (eqb k 0) 0 n)
unfolding goes_on fold_head fold_body up_from
ended leaf K e s g = (head-is K 0 e ∙ fill_none K e, λ n. refl)
ended (node {k} {rows} i h bs) K e s g =
    let n = group-some (root i) (close i) rows s in
    let m = eqb-false (length (runs i rows)) 1 g in
    let two : 2 ≤ length (runs i rows) = more (length (runs i rows)) n m in
    let q = several-in bs i K two in
    (q.0, λ j. ap called_in (q.1 j) ∙ rw (ne_eqb (suc k) 0 (λ z. omega arith)))
  where
    more : (n : ℕ) → 0 < n → (n ≡ 1 → ⊥) → 2 ≤ n
    more zero h f = absurd (omega arith)
    more (suc zero) h f = absurd (f refl)
    more (suc (suc n)) h f = omega arith

-- A TURN
pub record On {plan old : List ℕ} {from : Fold} (w : Folds plan old from) (head : List ℕ) (here : Fold) : Type 0 where
  pub folds : Folds plan head here
  pub heads : fold_head folds.stands.tree (take here.cells head) ≡ fold_head w.stands.tree (take from.cells old)
  pub bodies : (n : ℕ) → fold_body folds.stands.tree n ≡ fold_body w.stands.tree n

pub on-begins : {plan old : List ℕ} {from : Fold} (w : Folds plan old from) → On w old from
on-begins w = record { folds = w; heads = refl; bodies = λ n. refl }

pub on-ends : {plan old head : List ℕ} {from here : Fold} {w : Folds plan old from} (o : On w head here)
    → false ≡ goes_on o.folds.stands.tree → Folded w head here
on-ends {head = head} {here = here} o g =
    let f = o.folds in
    let e = ended f.stands.tree (take here.cells head) f.open-here f.some (sym g) in
    record {
      heads = e.0 ∙ o.heads;
      bodies = λ n. ap called_in (sym (o.bodies n)) ∙ e.1 n ∙ ap (λ (k : ℕ). cond (eqb k 0) 0 n) (sym f.stands.open-places);
      room = f.room;
      within = f.within;
    }

pub record Turn {plan old head : List ℕ} {from here : Fold} {w : Folds plan old from} (o : On w head here) : Type 0 where
  pub inside : here.at + 2 < length plan
  pub size : length plan ≤ most_plan_cells
  pub inner : 0 < here.places
  pub low : get_or plan here.at 0 < here.places
  pub wide : here.places ≤ 4 * here.at + 8
  pub few : arity (get_or plan (here.at + 2) 0) ≤ 4
  pub can : CanDecide head here.cells (get_or plan here.at 0) (get_or plan (here.at + 2) 0)
  pub after : {head' : List ℕ} {r a : ℕ} → r ≡ here.cells + arity (get_or plan (here.at + 2) 0)
      → take r head' ≡ decide (get_or plan here.at 0) (get_or plan (here.at + 2) 0) (take here.cells head)
      → length head' ≡ length head → a ≡ arity (get_or plan (here.at + 2) 0) → On w head' (folded (here.at + 3) (a + here.places - 1) r)

pub turn : {plan old head : List ℕ} {from here : Fold} {w : Folds plan old from} (o : On w head here)
    → true ≡ goes_on o.folds.stands.tree → Turn o
turn {plan = plan} {head = head} {here = here} o g =
    let f = o.folds in
    let s = f.stands in
    let at = here.at in
    let K = take here.cells head in
    let b = one-branch s.tree (sym g) in
    let n = fills-next b K f.open-here f.some f.fills in
    let i = b.index in
    let c = b.run.cell in
    let x = head_at plan at i (1 ∷ (c ∷ (write b.tree ++ s.rest))) (s.cells ∙ rw b.cells) in
    let y = head_at plan (at + 1) 1 (c ∷ (write b.tree ++ s.rest)) x.2 in
    let e : at + 1 + 1 ≡ at + 2 = omega arith in
    let z = head_at plan (at + 2) c (write b.tree ++ s.rest) (rw e at y.2) in
    let u : at + 2 + 1 ≡ at + 3 = omega arith in
    let kept : length K ≡ here.cells = length-take-le here.cells head (omega (arith, f.room, f.within)) in
    let long = decide-long i c K n.there in
    let short = fills-short (decide i c K) b.run.rows n.places n.some n.fills in
    let same : decide (get_or plan at 0) (get_or plan (at + 2) 0) K ≡ decide i c K =
    ap (λ (j : ℕ). decide j (get_or plan (at + 2) 0) K) x.1 ∙ ap (λ (m : ℕ). decide i m K) z.1 in
    record {
      inside = z.0;
      size = s.size;
      inner = omega (arith, s.open-places, b.one_more);
      low = omega (arith, x.1, b.inside, s.open-places, b.one_more);
      wide = s.wide;
      few = omega (arith, arity-small (get_or plan (at + 2) 0));
      can = record {
        room = f.room;
        there = subst (λ (j : ℕ). j < count hole K) (sym x.1) n.there;
        short = omega (arith, ap arity z.1, short, long, kept);
      };
      after = λ p q l ea. record {
        folds = record {
          stands = record {
            k = arity c + b.below;
            rows = b.run.rows;
            tree = b.tree;
            rest = s.rest;
            open-places = omega (arith, ea, ap arity z.1, s.open-places, b.one_more);
            cells = rw u at z.2;
            wide = omega (arith, s.wide, ea, arity-small (get_or plan (at + 2) 0));
            size = s.size;
          };
          some = n.some;
          room = l ∙ f.room;
          open-here = ap (count hole) (q ∙ same) ∙ n.places;
          within = omega (arith, p, ap arity z.1, short, long, kept);
          fills = subst (λ (L : List ℕ). All (Fills (arity c + b.below) L) b.run.rows) (sym (q ∙ same)) n.fills;
        };
        heads = ap (fold_head b.tree) (q ∙ same) ∙ sym (b.heads K) ∙ o.heads;
        bodies = λ m. sym (b.bodies m) ∙ o.bodies m;
      };
    }
