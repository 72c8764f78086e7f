-- The goal of distinct variables: every branch is tried, and every row is a hit.
use Prim.Native.Nat.{ℕ, zero, suc, ◌+◌, ◌-◌, ◌^◌, ◌≤◌, ◌<◌}
use mathlib.Core.Path.{◌≡◌, refl, sym, ◌∙◌, ap, subst}
use mathlib.Core.Logic.{◌≢◌}
use mathlib.Core.Bool.{true, ◌&&◌}
use mathlib.Core.List.{List, [], ◌∷◌, ◌++◌, Memᴰ}
use native.Mathlib.Omega.{arith}
use lib.Dec.{eqb}
use lib.ListN.{length, replicate}
use Rattle.cell.specs.Cell.{arity, is_var}
use Rattle.cell.proofs.CellLaws.{var-arity, var-small}
use Rattle.term.specs.Terms.{Terms, none, more, root, close}
use Rattle.term.specs.Unify.{renamed, Matches}
use Rattle.term.proofs.TermsLaws.{Terms-++}
use Rattle.term.proofs.Step.{fresh-var, Terms-fresh}
use Rattle.term.proofs.Tests.{cond-case}
use Rattle.table.specs.All.{All}
use Rattle.table.proofs.AllLaws.{all-++, all-each}
use Rattle.table.proofs.HeadLaws.{appear-short}
use Rattle.table.proofs.Accepted.{few-variables}
use Rattle.table.specs.Table.{up_from, count, appear, Row, IsGoal}
use Rattle.plan.specs.Runs.{Run}
use Rattle.plan.specs.Plans.{Plan, leaf, node, Branches, end, next}
use Rattle.plan.proofs.RunsLaws.{Each, Sized, group-all, group-sizes}
use Rattle.answer.specs.Skeleton.{hole, fill, decide, opened}
use Rattle.answer.specs.Run.{Picks, hit, Counts, zero_of, one_of, skeletons, skeletons_in, Tried}
use Rattle.answer.proofs.CountLaws.{up_mem, up-distinct}
use Rattle.answer.proofs.SkeletonLaws.{count-all, fill-all, Three, three, three-of, fill-decide, decide-count, vars-unify}
use Rattle.answer.specs.code.Loose.{Loose}
use Rattle.answer.proofs.LooseLaws.{some-row, no-hole, loose-close, skeleton-short}
use Rattle.answer.proofs.RelativeLaws.{LooseBelow, opened-low}

-- a skeleton of w arguments: filled with terms it is w terms
pub record Wide (w : ℕ) (K : List ℕ) : Type 0 where
  pub fills : (X : List ℕ) → Terms (count hole K) X → Terms w (fill K X)

wide-first : (w : ℕ) → Wide w (replicate w hole)
wide-first w = record { fills = λ X t. let u = rw (count-all w) at t in rw (fill-all w u) u }

wide-decide : {w : ℕ} (K : List ℕ) (i c j : ℕ) → c ≢ hole → count hole K ≡ i + suc j → Wide w K → Wide w (decide i c K)
wide-decide {w} K i c j h e W = record {
  fills = λ X t. let z : count hole (decide i c K) ≡ i + (arity c + j) = (let q = decide-count i c K h (omega arith) in omega arith) in
      go (three-of i (arity c) j (rw z at t));
}
  where
    go : {X : List ℕ} → Three i (arity c) j X → Terms w (fill (decide i c K) X)
    go (three {A} {args} {B} ta tg tb) = rw (fill-decide i c K B h ta tg) (W.fills (A ++ (c ∷ (args ++ B))) (rw e (Terms-++ ta (more (Terms-++ tg tb)))))

-- the goal renamed apart
renamed-up : (n a : ℕ) → n + a ≤ 2 ^ 30 → renamed (up_from n a) ≡ up_from (2 ^ 16 + n) a
unfolding renamed up_from
renamed-up n zero h = refl
renamed-up n (suc a) h =
    let q : 2 ^ 16 + suc n ≡ suc (2 ^ 16 + n) = omega arith in
    let v : is_var n ≡ true = var-small n (omega arith) in
    let r : renamed (up_from (suc n) a) ≡ up_from (suc (2 ^ 16 + n)) a = rw q at (renamed-up (suc n) a (omega arith)) in
    rw v (ap (λ (l : List ℕ). (2 ^ 16 + n) ∷ l) r)

-- what every skeleton of w arguments above a row has, all skeletons of a plan have
module _ (w : ℕ) (Q : List ℕ → Type 0) (has : (K x : List ℕ) → Wide w K → Loose K x → Q K) where
  mutual
    unfolding skeletons

    all-skeletons : {k : ℕ} {rows : List (List ℕ)} (p : Plan k rows) (K : List ℕ) → Wide w K → count hole K ≡ k → All (Loose K) rows → 0 < length rows
        → All Q (skeletons p K)
    all-skeletons leaf K W e a s = tt
    all-skeletons (node {k} {rows} i h bs) K W e a s =
        let q : count hole K ≡ i + suc (k - i) = omega arith in
        let x = some-row (Loose K) rows s a in
        all-skeletons_in bs i K W e h (group-all (root i) (close i) (Loose K) (LooseBelow i K)
        (λ x f. (loose-close K i (k - i) q f, no-hole K i (k - i) q f)) rows a) (length rows) (group-sizes (root i) (close i) rows)
        (has K x.0 W x.1)

    all-skeletons_in : {k : ℕ} {gs : List Run} (bs : Branches k gs) (i : ℕ) (K : List ℕ) → Wide w K → count hole K ≡ suc k → i ≤ k
        → Each (LooseBelow i K) gs → (z : ℕ) → Sized z gs → Q K
        → All Q (skeletons_in bs i K)
    all-skeletons_in end i K W e l a z s y = tt
    all-skeletons_in (next {k} {g} {gs} p bs) i K W e l a z s y =
        let c = g.cell in
        let q : count hole K ≡ i + suc (k - i) = omega arith in
        let o = (some-row (LooseBelow i K c) g.rows s.0.0 a.0).1.1 in
        let d : count hole (decide i c K) ≡ arity c + k = (let y = decide-count i c K o (omega arith) in omega arith) in
        let F = all-each (LooseBelow i K c) (Loose (decide i c K)) (λ y w. w.0) g.rows a.0 in
        let below = all-skeletons p (decide i c K) (wide-decide K i c (k - i) o q W) d F s.0.0 in
        (y, all-++ Q (skeletons p (decide i c K)) (skeletons_in bs i K) below (all-skeletons_in bs i K W e l a.1 z s.1 y))

-- each open place a variable, they are w terms
opened-terms : (w : ℕ) (K x : List ℕ) → Wide w K → Loose K x → Terms w (opened K)
unfolding opened
opened-terms w K x W F = let s = skeleton-short F in W.fills (up_from (2 ^ 15) (count hole K)) (Terms-fresh (up-distinct (2 ^ 15) (count hole K) (omega arith)))

pub skeletons-terms : (w : ℕ) {rows : List (List ℕ)} (p : Plan w rows) → All (Loose (replicate w hole)) rows → 0 < length rows
    → All (λ (K : List ℕ). Terms w (opened K)) (skeletons p (replicate w hole))
skeletons-terms w p a s = all-skeletons w (λ (K : List ℕ). Terms w (opened K)) (opened-terms w) p (replicate w hole) (wide-first w) (count-all w) a s

-- the goal of distinct variables unifies with each
one-tried : (w : ℕ) → w ≤ 32 → (K x : List ℕ) → Wide w K → Loose K x → Tried (up_from 0 w) K
unfolding Tried opened
one-tried w few K x W F =
    let s = skeleton-short F in
    let ot : Terms (count hole K) (up_from (2 ^ 15) (count hole K)) = Terms-fresh (up-distinct (2 ^ 15) (count hole K) (omega arith)) in
    let o = opened-low F in
    let f = up-distinct (2 ^ 16 + 0) w (omega arith) in
    let u = vars-unify f (W.fills (up_from (2 ^ 15) (count hole K)) ot)
    (λ c m q. let v = fresh-var f c q in let r = up_mem (2 ^ 16 + 0) w c q in let l = o.low c m v in omega arith) in
    rw (renamed-up 0 w (omega arith)) (record { by = u.by; good = u.good; same = sym u.same })

counts_all : (P : List ℕ → Type 0) (xs : List (List ℕ)) → All P xs → Counts P xs (length xs)
counts_all P [] a = zero_of
counts_all P (x ∷ xs) a = one_of a.0 (counts_all P xs a.1)

pub every-branch : (w : ℕ) → w ≤ 32 → {rows : List (List ℕ)} (p : Plan w rows) → All (Loose (replicate w hole)) rows → 0 < length rows
    → Counts (Tried (up_from 0 w)) (skeletons p (replicate w hole)) (length (skeletons p (replicate w hole)))
every-branch w few p a s =
    counts_all (Tried (up_from 0 w)) (skeletons p (replicate w hole))
    (all-skeletons w (Tried (up_from 0 w)) (one-tried w few) p (replicate w hole) (wide-first w) (count-all w) a s)

-- A goal with as many variables as cells is the goal of distinct variables.

-- where as many variables appear as there are cells, each cell is one that appears
appear-all : (ms ys : List ℕ) → length (appear ms ys) ≡ length ys → appear ms ys ≡ ys
unfolding appear
appear-all ms [] e = refl
appear-all ms (c ∷ ys) e =
    cond-case (is_var c && eqb (count c ms) 0) (λ (l : List ℕ). length l ≡ suc (length ys) → l ≡ c ∷ ys)
    (λ b d. ap (λ (l : List ℕ). c ∷ l) (appear-all (c ∷ ms) ys (omega arith)))
    (λ b d. absurd (let z : ⊥ = omega (arith, appear-short ms ys) in z)) e

-- terms that are variables have a cell each
only-variables : {k : ℕ} {xs : List ℕ} → Terms k xs → ((c : ℕ) → Memᴰ c xs → is_var c ≡ true) → length xs ≡ k
only-variables none h = refl
only-variables (more {c} t) h = omega (arith, only-variables t (λ d m. h d (Memᴰ.tail m)), var-arity c (h c (Memᴰ.head refl)))

pub distinct : {w : ℕ} {g : List ℕ} → IsGoal w g → length (appear [] g) ≡ length g → g ≡ up_from 0 w
distinct {w} {g} i e =
    let u : g ≡ up_from 0 (length g) = sym (appear-all [] g e) ∙ i.head.order ∙ ap (up_from 0) e in
    let v : (c : ℕ) → Memᴰ c g → is_var c ≡ true =
    λ c m. let r = up_mem 0 (length g) c (subst (λ (l : List ℕ). Memᴰ c l) u m) in var-small c (omega (arith, i.head.short)) in
    u ∙ ap (up_from 0) (only-variables i.head.terms v)

-- it unifies with every row
every-row : (w : ℕ) → w ≤ 32 → (row : List ℕ) → Row w row → Matches row (up_from 0 w)
every-row w few row r =
    let f = up-distinct (2 ^ 16 + 0) w (omega arith) in
    let u = vars-unify f r.terms
    (λ c m q. let v = fresh-var f c q in let x = up_mem (2 ^ 16 + 0) w c q in let y = few-variables r c m v in omega arith) in
    rw (renamed-up 0 w (omega arith)) (record { by = u.by; good = u.good; same = sym u.same })

picks-all : (P : List ℕ → Type 0) (rows : List (List ℕ)) (f : ℕ) → All P rows → Picks P rows f (up_from f (length rows))
unfolding up_from
picks-all P [] f a = Picks.none
picks-all P (r ∷ rs) f a = hit a.0 (picks-all P rs (suc f) a.1)

pub every-hit : (w : ℕ) → w ≤ 32 → (rows : List (List ℕ)) → All (Row w) rows
    → Picks (λ (row : List ℕ). Matches row (up_from 0 w)) rows 0 (up_from 0 (length rows))
every-hit w few rows a =
    picks-all (λ (row : List ℕ). Matches row (up_from 0 w)) rows 0 (all-each (Row w) (λ (row : List ℕ). Matches row (up_from 0 w)) (every-row w few) rows a)
