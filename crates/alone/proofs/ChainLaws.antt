-- Along a row by itself: every state that is reached is alive, nothing below a branch that fails is tried, and at the end the row is a hit.
use Prim.Native.Nat.{ℕ, zero, suc, ◌+◌, ◌-◌, ◌^◌, ◌≤◌, ◌<◌}
use mathlib.Core.Path.{◌≡◌, refl, sym, ◌∙◌, ap, subst}
use mathlib.Core.Logic.{◌≢◌, ⊎_elim}
use mathlib.Core.Bool.{true, false}
use mathlib.Core.List.Memᴰ
use mathlib.Core.List.{List, [], ◌∷◌, ◌++◌, Memᴰ}
use native.Mathlib.Nat.{zero-add, suc-add}
use native.Mathlib.Omega.{arith}
use lib.ListN.{length, length-append}
use Rattle.cell.specs.Cell.{arity, is_var}
use Rattle.term.specs.Terms.{Terms, more, root, close}
use Rattle.term.specs.Unify.{Unifies}
use Rattle.term.proofs.TermsLaws.{Terms-++, zero-nil}
use Rattle.term.specs.code.Fresh.{Fresh, nil, cons}
use Rattle.term.proofs.Step.{Terms-fresh}
use Rattle.table.specs.Table.{count, up_from}
use Rattle.answer.specs.Skeleton.{hole, fill, decide, opened}
use Rattle.answer.specs.Run.{Counts, zero_of, one_of, none_of}
use Rattle.answer.specs.code.Loose.{RowLike}
use Rattle.answer.proofs.CountLaws.{count-mem, mem-count, up_mem, up-distinct}
use Rattle.answer.proofs.SkeletonLaws.{Three, three, three-of, fill-decide, decide-count, count-fill, var-no-hole}
use Rattle.answer.specs.code.Loose.{Loose}
use Rattle.answer.proofs.LooseLaws.{refill, no-hole, holes, loose-close, skeleton-low, skeleton-short}
use Rattle.walking.specs.code.Link.{entries}
use Rattle.walking.proofs.ListLaws.{entries-length}
use Rattle.classes.specs.code.Agrees.{Agrees}
use Rattle.classes.proofs.Finite.{solution}
use Rattle.classes.proofs.Kept.{alive}
use Rattle.alone.specs.code.Alone.{graph, node_of, Standing, Chain, end, at_place, skeletons_of, TriedOn, Going, Gone, hit, miss}
use Rattle.alone.proofs.NewLaws.{all-mem, own-low}

fresh-++ : {a b : ℕ} {xs ys : List ℕ} → Fresh a xs → Fresh b ys → ((c : ℕ) → Memᴰ c xs → ¬ Memᴰ c ys) → Fresh (a + b) (xs ++ ys)
fresh-++ nil g h = rw zero-add g
fresh-++ {xs = _} {ys} (cons {w} {k} {ws} v n f) g h =
    rw suc-add
    (cons v (λ m. ⊎_elim n (h w (Memᴰ.head refl)) (Memᴰ.append_cases ws m))
    (fresh-++ f g (λ c m. h c (Memᴰ.tail m))))

module _ {R sib bs ns cls rs keep slots K : List ℕ} {m k : ℕ} (S : Standing R sib bs ns cls rs keep slots K m k) where
  -- with distinct variables of its own at the open places, the row unifies
  open-alive : k ≤ 2 ^ 15 → Agrees (graph bs ns sib) cls (S.vs ++ up_from (2 ^ 15) k) (S.us ++ entries rs slots)
  open-alive l =
      let st = S.steady in
      let e : length (S.us ++ entries rs slots) ≡ length S.us + k =
      length-append S.us (entries rs slots) ∙ ap (λ (n : ℕ). length S.us + n) (entries-length rs slots ∙ S.width) in
      let f : Fresh (length S.us + k) (S.vs ++ up_from (2 ^ 15) k)
      = fresh-++ S.distinct (up-distinct (2 ^ 15) k (omega arith)) (λ c a b. let x = all-mem (λ (v : ℕ). v < 32) S.vs S.low c a in
      let y = up_mem (2 ^ 15) k c b in omega arith) in
      alive st.fair (solution st.fair st.ready.flat node_of 64 st.within st.closed st.finite) (S.us ++ entries rs slots) (rw e f)
      (λ r c a b. let x = own-low r c a in ⊎_elim
      (λ p. let y = all-mem (λ (v : ℕ). v < 32) S.vs S.low c p in omega arith)
      (λ p. let y = up_mem (2 ^ 15) k c p in omega arith)
      (Memᴰ.append_cases S.vs b))

-- each open place a variable of its own, it is a row's
opened-low : {K x : List ℕ} → Loose K x → (Y : List ℕ) → Terms (count hole K) Y → ((c : ℕ) → Memᴰ c Y → is_var c ≡ true → c < 2 ^ 16) → RowLike (fill K Y)
opened-low {K} {x} F Y t h =
    record { low = λ c q v. let e = count-fill c K Y (var-no-hole c v) t in let o = count-mem c q in cases c v (count c K) refl (omega arith) }
  where
    cases : (c : ℕ) → is_var c ≡ true → (n : ℕ) → count c K ≡ n → 1 ≤ count c K + count c Y → c < 2 ^ 16
    cases c v zero e o = h c (mem-count c Y (omega arith)) v
    cases c v (suc n) e o = let p = skeleton-low F c (mem-count c K (omega arith)) v in omega arith

module _ {R sib bs ns cls rs keep slots K x : List ℕ} {m k : ℕ} (S : Standing R sib bs ns cls rs keep slots K m k) (F : Loose K x) where
  few-holes : k ≤ 2 ^ 15
  few-holes = omega (arith, S.holes, skeleton-short F)

  tried_here : TriedOn R K
  unfolding opened
  tried_here =
      let l = few-holes in
      let t = Terms-fresh (up-distinct (2 ^ 15) k (omega arith)) in
      rw S.holes
      ((S.means (up_from (2 ^ 15) k) t
      (opened-low F (up_from (2 ^ 15) k) (rw S.holes t) (λ c q v. let y = up_mem (2 ^ 15) k c q in omega arith))).1
      (open-alive S l))

  hit-here : k ≡ 0 → Unifies (fill K x) R
  unfolding up_from
  hit-here z =
      let n : x ≡ [] = zero-nil (rw (S.holes, z) at F.terms) in
      let r : RowLike (fill K x) = opened-low F x F.terms (λ c q v. absurd (Memᴰ.not-nil (subst (λ (l : List ℕ). Memᴰ c l) n q))) in
      let u : up_from (2 ^ 15) k ≡ x = ap (up_from (2 ^ 15)) z ∙ sym n in
      (S.means x (rw S.holes at F.terms) r).1
      (subst (λ (X : List ℕ). Agrees (graph bs ns sib) cls (S.vs ++ X) (S.us ++ entries rs slots)) u (open-alive S few-holes))

-- where nothing under a skeleton unifies, nothing below it is tried
abbrev DeadAt : List ℕ → List ℕ → Type 0
DeadAt R K = (X : List ℕ) → Terms (count hole K) X → RowLike (fill K X) → ¬ Unifies (fill K X) R

dead-below : {R : List ℕ} (K : List ℕ) (i c j : ℕ) → c ≢ hole → count hole K ≡ i + suc j → DeadAt R K → DeadAt R (decide i c K)
dead-below {R} K i c j h e d X t r u =
    let z : count hole (decide i c K) ≡ i + (arity c + j) = (let q = decide-count i c K h (omega arith) in omega arith) in
    go (three-of i (arity c) j (rw z at t)) r u
  where
    go : {X : List ℕ} → Three i (arity c) j X → RowLike (fill (decide i c K) X) → Unifies (fill (decide i c K) X) R → ⊥
    go (three {A} {args} {B} ta tg tb) r u =
        let q = fill-decide i c K B h ta tg in
        d (A ++ (c ∷ (args ++ B))) (rw e (Terms-++ ta (more (Terms-++ tg tb)))) (rw q at r) (rw q at u)

dead-open : {R K x : List ℕ} → Loose K x → DeadAt R K → ¬ TriedOn R K
unfolding opened
dead-open {R} {K} F d u =
    let s = skeleton-short F in
    let t = Terms-fresh (up-distinct (2 ^ 15) (count hole K) (omega arith)) in
    d (up_from (2 ^ 15) (count hole K)) t (opened-low F (up_from (2 ^ 15) (count hole K)) t (λ c q v. let y = up_mem (2 ^ 15) (count hole K) c q in
    omega arith)) u

dead-chain : {R x : List ℕ} {k : ℕ} (q : Chain k x) (K : List ℕ) → DeadAt R K → count hole K ≡ k → Loose K x → Counts (TriedOn R) (skeletons_of q K) 0
unfolding skeletons_of
dead-chain end K d e F = zero_of
dead-chain (at_place {k} {x} i h q) K d e F =
    let o : count hole K ≡ i + suc (k - i) = omega arith in
    let n = no-hole K i (k - i) o F in
    let z = holes K i (k - i) o F in
    none_of (dead-open F d) (dead-chain q (decide i (root i x) K) (dead-below K i (root i x) (k - i) n o d) (omega arith) (loose-close K i (k - i) o F))

-- The walk along a row.
module _ {R x₀ : List ℕ} {all : List (List ℕ)} {sib bs ns cls rs keep slots K x : List ℕ} {m : ℕ} where
  -- a branch whose test fails: it is the last that is tried
  pub going-fails : {k : ℕ} (i : ℕ) (h : i ≤ k) (q : Chain (arity (root i x) + k) (close i x)) {done : ℕ}
      → Going R x₀ all sib bs ns cls rs keep slots K x m (suc k) (at_place i h q) done
      → ((X : List ℕ) → Terms (i + (arity (root i x) + (k - i))) X → RowLike (fill (decide i (root i x) K) X) → ¬ Unifies (fill (decide i (root i x) K) X) R)
      → Gone R x₀ all (done + 1) false
  unfolding skeletons_of
  going-fails {k} i h q {done} G d =
      let F = G.loose in
      let o : count hole K ≡ i + suc (k - i) = omega (arith, G.standing.holes) in
      let z = holes K i (k - i) o F in
      let D : DeadAt R (decide i (root i x) K) = λ X t r. d X (rw z at t) r in
      let L = loose-close K i (k - i) o F in
      miss (G.rest 1 (one_of (tried_here G.standing F) (dead-chain q (decide i (root i x) K) D (omega (arith, z)) L)))
      (λ u. D (close i x) L.terms (rw (refill K i (k - i) o F) (row_of F)) (rw (refill K i (k - i) o F, G.same) u))
    where
      row_of : Loose K x → RowLike (fill K x)
      row_of F = record { low = λ c q v. let l = F.low c q v in omega arith }

  -- one that succeeds: on with the state below it
  pub going_on : {k : ℕ} (i : ℕ) (h : i ≤ k) (q : Chain (arity (root i x) + k) (close i x)) {done : ℕ} {bs' ns' cls' rs' keep' slots' : List ℕ} {m' : ℕ}
      → Going R x₀ all sib bs ns cls rs keep slots K x m (suc k) (at_place i h q) done
      → Standing R sib bs' ns' cls' rs' keep' slots' (decide i (root i x) K) m' (arity (root i x) + k)
      → Going R x₀ all sib bs' ns' cls' rs' keep' slots' (decide i (root i x) K) (close i x) m' (arity (root i x) + k) q (done + 1)
  unfolding skeletons_of
  going_on {k} i h q {done} G S' =
      let F = G.loose in
      let o : count hole K ≡ i + suc (k - i) = omega (arith, G.standing.holes) in
      record {
        standing = S';
        loose = loose-close K i (k - i) o F;
        same = refill K i (k - i) o F ∙ G.same;
        rest = λ n c. let e : done + 1 + n ≡ done + suc n = omega arith in rw e (G.rest (suc n) (one_of (tried_here G.standing F) c));
      }

  -- the end: the row is a hit
  pub going-ends : {k : ℕ} (q : Chain k x) {done : ℕ} → Going R x₀ all sib bs ns cls rs keep slots K x m k q done → k ≡ 0 → Gone R x₀ all done true
  unfolding skeletons_of
  going-ends end {done} G e =
      let z : done + 0 ≡ done = omega arith in
      hit (rw z at (G.rest 0 zero_of)) (rw (← G.same) (hit-here G.standing G.loose refl))
  going-ends (at_place i h q) G e = absurd (let z : ⊥ = omega arith in z)
