-- A state's branches seen from the state: under a skeleton K without variables, what is tried below is what is left of the goal there tries.
use Prim.Native.Nat.{ℕ, zero, suc, ◌+◌, ◌-◌, ◌^◌, ◌≤◌, ◌<◌}
use mathlib.Core.Path.{◌≡◌, refl, sym, ◌∙◌, ap}
use mathlib.Core.Logic.{◌≢◌, ◌↔◌}
use mathlib.Core.Bool.{Bool, true, false, cond}
use mathlib.Core.List.{List, [], ◌∷◌, ◌++◌}
use native.Mathlib.Nat.{zero-add}
use native.Mathlib.Omega.{arith}
use lib.ListN.{length, replicate}
use Rattle.cell.specs.Cell.{arity, is_var}
use Rattle.term.specs.Terms.{Terms, more, root, close}
use Rattle.term.specs.Unify.{Unifies, renamed}
use Rattle.term.proofs.TermsLaws.{Terms-++}
use Rattle.term.proofs.Step.{Terms-fresh}
use Rattle.term.specs.code.Unifiable.{unifiable}
use Rattle.term.proofs.Decide.{Decides, says-yes, says-no, unifiable-correct}
use Rattle.table.specs.All.{All}
use Rattle.table.proofs.AllLaws.{all-each}
use Rattle.table.specs.Table.{count, up_from}
use Rattle.plan.specs.Runs.{Run}
use Rattle.plan.specs.Plans.{Plan, leaf, node, Branches, end, next}
use Rattle.plan.proofs.RunsLaws.{Each, Sized, group-all, group-sizes}
use Rattle.answer.specs.Skeleton.{hole, fill, decide, opened}
use Rattle.answer.specs.Run.{Counts, zero_of, one_of, none_of, skeletons, skeletons_in, Tried}
use Rattle.answer.specs.code.Tree.{tried_on}
use Rattle.answer.specs.code.Loose.{RowLike}
use Rattle.answer.proofs.CountLaws.{count-mem, mem-count, up_mem, up-distinct}
use Rattle.answer.proofs.SkeletonLaws.{Holds, Three, three, three-of, fill-decide, decide-count, count-fill, var-no-hole, fill-all, count-all}
use Rattle.answer.specs.code.Loose.{Loose}
use Rattle.answer.proofs.LooseLaws.{some-row, counts-++, no-hole, loose-close, skeleton-low, skeleton-short}

tried-++ : (R : List ℕ) (xs ys : List (List ℕ)) → tried_on R (xs ++ ys) ≡ tried_on R xs + tried_on R ys
unfolding tried_on
tried-++ R [] ys = omega arith
tried-++ R (x ∷ xs) ys = let e = tried-++ R xs ys in go (unifiable (opened x) R) e
  where
    go : (b : Bool) → tried_on R (xs ++ ys) ≡ tried_on R xs + tried_on R ys
        → cond b (suc (tried_on R (xs ++ ys))) (tried_on R (xs ++ ys)) ≡ cond b (suc (tried_on R xs)) (tried_on R xs) + tried_on R ys
    go true e = omega arith
    go false e = e

-- a row of a run, under the skeleton below the branch
abbrev pub LooseBelow : ℕ → List ℕ → ℕ → List ℕ → Type 0
LooseBelow i K c x = Loose (decide i c K) x × (c ≢ hole)

-- a row with a variable of its own at each open place is like a row
pub opened-low : {K x : List ℕ} → Loose K x → RowLike (fill K (up_from (2 ^ 15) (count hole K)))
opened-low {K} {x} F =
    let s = skeleton-short F in
    let t = Terms-fresh (up-distinct (2 ^ 15) (count hole K) (omega arith)) in
    record {
      low = λ c q v. let e = count-fill c K (up_from (2 ^ 15) (count hole K)) (var-no-hole c v) t in let o = count-mem c q in
          cases c v (count c K) refl (omega arith);
    }
  where
    cases : (c : ℕ) → is_var c ≡ true → (n : ℕ) → count c K ≡ n → 1 ≤ count c K + count c (up_from (2 ^ 15) (count hole K)) → c < 2 ^ 16
    cases c v zero e o =
        let r = up_mem (2 ^ 15) (count hole K) c (mem-count c (up_from (2 ^ 15) (count hole K)) (omega arith)) in
        let s = skeleton-short F in
        omega arith
    cases c v (suc n) e o = let p = skeleton-low F c (mem-count c K (omega arith)) v in omega arith

module _ (g : List ℕ) {n : ℕ} (K R : List ℕ) (H : Holds n (renamed g) K R) (none : (v : ℕ) → is_var v ≡ true → count v K ≡ 0) where
  -- J is K with some places decided, and J' these decisions alone
  pub record Rel (J J' : List ℕ) : Type 0 where
    pub same-holes : count hole J ≡ count hole J'
    pub fills : (X : List ℕ) → Terms (count hole J') X → fill J X ≡ fill K (fill J' X)
    pub wide : (X : List ℕ) → Terms (count hole J') X → Terms (count hole K) (fill J' X)

  pub rel-first : Rel K (replicate (count hole K) hole)
  rel-first =
      let e = count-all (count hole K) in
      record {
        same-holes = sym e;
        fills = λ X t. ap (fill K) (sym (fill-all (count hole K) (rw e at t)));
        wide = λ X t. let u = rw e at t in rw (fill-all (count hole K) u) u;
      }

  pub rel-next : {J J' : List ℕ} (i c j : ℕ) → c ≢ hole → count hole J ≡ i + suc j → Rel J J' → Rel (decide i c J) (decide i c J')
  rel-next {J} {J'} i c j h e r =
      let e' : count hole J' ≡ i + suc j = omega (arith, r.same-holes) in
      let z : count hole (decide i c J) ≡ i + (arity c + j) = (let q = decide-count i c J h (omega arith) in omega arith) in
      let z' : count hole (decide i c J') ≡ i + (arity c + j) = (let q = decide-count i c J' h (omega arith) in omega arith) in
      record {
        same-holes = z ∙ sym z';
        fills = λ X t. go (three-of i (arity c) j (rw z' at t)) e';
        wide = λ X t. go-wide (three-of i (arity c) j (rw z' at t)) e';
      }
    where
      go : {X : List ℕ} → Three i (arity c) j X → count hole J' ≡ i + suc j → fill (decide i c J) X ≡ fill K (fill (decide i c J') X)
      go (three {A} {args} {B} ta tg tb) e' =
          fill-decide i c J B h ta tg ∙ r.fills (A ++ (c ∷ (args ++ B))) (rw e' (Terms-++ ta (more (Terms-++ tg tb))))
          ∙ ap (fill K) (sym (fill-decide i c J' B h ta tg))

      go-wide : {X : List ℕ} → Three i (arity c) j X → count hole J' ≡ i + suc j → Terms (count hole K) (fill (decide i c J') X)
      go-wide (three {A} {args} {B} ta tg tb) e' =
          rw (fill-decide i c J' B h ta tg) (r.wide (A ++ (c ∷ (args ++ B))) (rw e' (Terms-++ ta (more (Terms-++ tg tb)))))

  -- a branch below is tried exactly when what is left of the goal unifies with the decisions below
  pub rel-tried : {J J' x : List ℕ} → Rel J J' → Loose J x → Decides (Tried g J) (unifiable (opened J') R)
  unfolding Tried opened
  rel-tried {J} {J'} r F =
      let s = skeleton-short F in
      let q = r.same-holes in
      let X = up_from (2 ^ 15) (count hole J') in
      let t : Terms (count hole J') X = Terms-fresh (up-distinct (2 ^ 15) (count hole J') (omega arith)) in
      let f : fill J (up_from (2 ^ 15) (count hole J)) ≡ fill K (fill J' X) = rw q (r.fills X t) in
      let w = r.wide X t in
      let o = H.same (fill J' X) w (rw f at (opened-low F)) (record { once = λ v h k. absurd (let z = none v h in let y : ⊥ = omega arith in y) }) in
      go (unifiable-correct (fill J' X) R w H.terms) f o
    where
      go : {b : Bool} {Y Z : List ℕ} → Decides (Unifies Y R) b → Z ≡ fill K Y → Unifies (fill K Y) (renamed g) ↔ Unifies Y R → Decides (Unifies Z (renamed g)) b
      go (says-yes p) f o = says-yes (rw f (o.1 p))
      go (says-no p) f o = says-no (λ u. p (o.0 (rw f at u)))

  pub add : {J : List ℕ} {Js : List (List ℕ)} {b : Bool} {c : ℕ} → Decides (Tried g J) b → Counts (Tried g) Js c → Counts (Tried g) (J ∷ Js) (cond b (suc c) c)
  add (says-yes p) c = one_of p c
  add (says-no p) c = none_of p c

  mutual
    unfolding skeletons tried_on

    pub rel-skeletons : {k : ℕ} {rows : List (List ℕ)} (p : Plan k rows) {J J' : List ℕ} → Rel J J' → count hole J ≡ k → All (Loose J) rows → 0 < length rows
        → Counts (Tried g) (skeletons p J) (tried_on R (skeletons p J'))
    rel-skeletons leaf r e a s = zero_of
    rel-skeletons (node {k} {rows} i h bs) {J} {J'} r e a s =
        let q : count hole J ≡ i + suc (k - i) = omega arith in
        let x = some-row (Loose J) rows s a in
        rel-skeletons_in bs i r e h (group-all (root i) (close i) (Loose J) (LooseBelow i J)
        (λ x f. (loose-close J i (k - i) q f, no-hole J i (k - i) q f)) rows a)
        (length rows) (group-sizes (root i) (close i) rows) (rel-tried r x.1)

    rel-skeletons_in : {k : ℕ} {gs : List Run} (bs : Branches k gs) (i : ℕ) {J J' : List ℕ} → Rel J J' → count hole J ≡ suc k → i ≤ k
        → Each (LooseBelow i J) gs → (z : ℕ) → Sized z gs
        → Decides (Tried g J) (unifiable (opened J') R) → Counts (Tried g) (skeletons_in bs i J) (tried_on R (skeletons_in bs i J'))
    rel-skeletons_in end i r e l a z s d = zero_of
    rel-skeletons_in (next {k} {g = b} {gs} p bs) i {J} {J'} r e l a z s d =
        let c = b.cell in
        let o = (some-row (LooseBelow i J c) b.rows s.0.0 a.0).1.1 in
        let q : count hole J ≡ i + suc (k - i) = omega arith in
        let x : count hole (decide i c J) ≡ arity c + k = (let y = decide-count i c J o (omega arith) in omega arith) in
        let f = all-each (LooseBelow i J c) (Loose (decide i c J)) (λ y w. w.0) b.rows a.0 in
        let below = rel-skeletons p (rel-next i c (k - i) o q r) x f s.0.0 in
        let rest = rel-skeletons_in bs i r e l a.1 z s.1 d in
        add d (rw (tried-++ R (skeletons p (decide i c J')) (skeletons_in bs i J')) (counts-++ below rest))

-- where no row that fits the skeleton unifies, nothing below is tried
abbrev pub DeadAll : List ℕ → List ℕ → Type 0
DeadAll G K = (X : List ℕ) → Terms (count hole K) X → RowLike (fill K X) → ¬ Unifies (fill K X) G

dead-all-below : {G : List ℕ} (K : List ℕ) (i c j : ℕ) → c ≢ hole → count hole K ≡ i + suc j → DeadAll G K → DeadAll G (decide i c K)
dead-all-below {G} K i c j h e d X t r u =
    let z : count hole (decide i c K) ≡ i + (arity c + j) = (let q = decide-count i c K h (omega arith) in omega arith) in
    go (three-of i (arity c) j (rw z at t)) r u
  where
    go : {X : List ℕ} → Three i (arity c) j X → RowLike (fill (decide i c K) X) → Unifies (fill (decide i c K) X) G → ⊥
    go (three {A} {args} {B} ta tg tb) r u =
        let q = fill-decide i c K B h ta tg in
        d (A ++ (c ∷ (args ++ B))) (rw e (Terms-++ ta (more (Terms-++ tg tb)))) (rw q at r) (rw q at u)

dead-all-open : (g : List ℕ) {K x : List ℕ} → Loose K x → DeadAll (renamed g) K → ¬ Tried g K
unfolding Tried opened
dead-all-open g {K} F d u =
    let s = skeleton-short F in
    d (up_from (2 ^ 15) (count hole K)) (Terms-fresh (up-distinct (2 ^ 15) (count hole K) (omega arith))) (opened-low F) u

module _ (g : List ℕ) where
  mutual
    unfolding skeletons

    pub dead-all : {k : ℕ} {rows : List (List ℕ)} (p : Plan k rows) (K : List ℕ) → DeadAll (renamed g) K → count hole K ≡ k → All (Loose K) rows
        → 0 < length rows → Counts (Tried g) (skeletons p K) 0
    dead-all leaf K d e a s = zero_of
    dead-all (node {k} {rows} i h bs) K d e a s =
        let q : count hole K ≡ i + suc (k - i) = omega arith in
        let x = some-row (Loose K) rows s a in
        dead-all_in bs i K d e h (group-all (root i) (close i) (Loose K) (LooseBelow i K) (λ x f. (loose-close K i (k - i) q f, no-hole K i (k - i) q f)) rows a)
        (length rows) (group-sizes (root i) (close i) rows) (dead-all-open g x.1 d)

    dead-all_in : {k : ℕ} {gs : List Run} (bs : Branches k gs) (i : ℕ) (K : List ℕ) → DeadAll (renamed g) K → count hole K ≡ suc k → i ≤ k
        → Each (LooseBelow i K) gs → (z : ℕ) → Sized z gs
        → ¬ Tried g K → Counts (Tried g) (skeletons_in bs i K) 0
    dead-all_in end i K d e l a z s n = zero_of
    dead-all_in (next {k} {g = r} {gs} p bs) i K d e l a z s n =
        let c = r.cell in
        let o = (some-row (LooseBelow i K c) r.rows s.0.0 a.0).1.1 in
        let q : count hole K ≡ i + suc (k - i) = omega arith in
        let x : count hole (decide i c K) ≡ arity c + k = (let y = decide-count i c K o (omega arith) in omega arith) in
        let f = all-each (LooseBelow i K c) (Loose (decide i c K)) (λ y w. w.0) r.rows a.0 in
        none_of n (rw zero-add at (counts-++ (dead-all p (decide i c K) (dead-all-below K i c (k - i) o q d) x f s.0.0)
        (dead-all_in bs i K d e l a.1 z s.1 n)))
