-- Where an open place stands, cell by cell; and what is decided, piece by piece.
use Prim.Native.Nat.{ℕ, zero, suc, ◌+◌, ◌-◌, ◌^◌, ◌≤◌, ◌<◌}
use mathlib.Core.Path.{◌≡◌, refl, sym, ◌∙◌, ap}
use mathlib.Core.Logic.{◌≢◌, by_cases}
use mathlib.Core.Bool.{Bool, true, false, cond}
use mathlib.Core.List.{List, [], ◌∷◌, ◌++◌}
use native.Mathlib.Omega.{arith}
use native.Mathlib.Decide.{dec_le}
use lib.ListN.{length, get_or, take, drop, replicate, drop_of_length-le, length-drop, length-append, length-replicate, length-take}
use lib.Seq.{drop-cons, take_all, take-take, length-take-le}
use lib.Dec.{eqb}
use borrow.Author.Tests.{eq-eqb, ne_eqb}
use Rattle.cell.specs.Cell.{arity}
use Rattle.cell.proofs.CellLaws.{var-small, var-arity}
use Rattle.term.specs.Terms.{front, back}
use Rattle.term.proofs.Tests.{eqb_same}
use Rattle.octets.specs.Octets.{fitting, Put}
use Rattle.octets.proofs.PutLaws.{put-put, put-found, put-length}
use Rattle.table.specs.Table.{count, up_from}
use Rattle.answer.specs.Skeleton.{hole, decide, fill}
use Rattle.answer.proofs.CountLaws.{count_same, count-other}
use Rattle.clauses.specs.code.Walk.{hole_at}
use Rattle.clauses.proofs.DecideLaws.{decide-at}
use Rattle.clauses.proofs.SolidLaws.{Hole?, a-hole, a-cell, hole?}

pub hole-is : hole ≡ 4294967295
unfolding hole
hole-is = refl

module _ (K : List ℕ) (at : ℕ) where
  pub hole-none : (i : ℕ) → length K ≤ at → hole_at (drop at K) i ≡ 0
  unfolding hole_at
  hole-none i h = rw (drop_of_length-le K {i = at} h)

  -- the one that is looked for, another one, and none
  pub hole-here : (i : ℕ) → at < length K → get_or K at 0 ≡ 4294967295 → i ≡ 0 → hole_at (drop at K) i ≡ 0
  unfolding hole_at
  hole-here i h e z = rw (z, drop-cons K at 0 h, eq-eqb (get_or K at 0) hole (e ∙ sym hole-is))

  pub hole-later : (i : ℕ) → at < length K → get_or K at 0 ≡ 4294967295 → i ≢ 0
      → hole_at (drop at K) i ≡ suc (hole_at (drop (at + 1) K) (i - 1))
  unfolding hole_at
  hole-later zero h e z = absurd (z refl)
  hole-later (suc i) h e z =
      let s : at + 1 ≡ suc at = omega arith in
      let q : suc i - 1 ≡ i = omega arith in
      rw (s, q, drop-cons K at 0 h, eq-eqb (get_or K at 0) hole (e ∙ sym hole-is))

  pub hole-other : (i : ℕ) → at < length K → get_or K at 0 ≢ 4294967295 → hole_at (drop at K) i ≡ suc (hole_at (drop (at + 1) K) i)
  unfolding hole_at
  hole-other zero h e =
      let s : at + 1 ≡ suc at = omega arith in
      rw (s, drop-cons K at 0 h, ne_eqb (get_or K at 0) hole (λ p. e (p ∙ hole-is)))
  hole-other (suc i) h e =
      let s : at + 1 ≡ suc at = omega arith in
      rw (s, drop-cons K at 0 h, ne_eqb (get_or K at 0) hole (λ p. e (p ∙ hole-is)))

  -- a step on from another one, and from none
  pub later-on : (i : ℕ) {j whole : ℕ} → at < length K → get_or K at 0 ≡ 4294967295 → i ≢ 0 → j ≡ i - 1 → at + hole_at (drop at K) i ≡ whole
      → at + 1 + hole_at (drop (at + 1) K) j ≡ whole
  later-on i h e z q w = rw q (omega (arith, hole-later i h e z))

  pub other-on : (i : ℕ) {j whole : ℕ} → at < length K → get_or K at 0 ≢ 4294967295 → j ≡ i → at + hole_at (drop at K) i ≡ whole
      → at + 1 + hole_at (drop (at + 1) K) j ≡ whole
  other-on i h e q w = rw q (omega (arith, hole-other i h e))

-- where there are not so many open places: none stands there, and nothing is decided
abbrev Past : (i c : ℕ) → List ℕ → Type 0
Past i c K = (decide i c K ≡ K) × (hole_at K i ≡ length K)

decide-past : (i c : ℕ) (K : List ℕ) → count hole K ≤ i → Past i c K
unfolding count decide hole_at
decide-past i c [] h = (refl, refl)
decide-past i c (d ∷ K) h = go i (hole? d) h (λ j. decide-past j c K)
  where
    go : (i : ℕ) {d : ℕ} → Hole? d → count hole (d ∷ K) ≤ i → ((j : ℕ) → count hole K ≤ j → Past j c K) → Past i c (d ∷ K)
    go zero a-hole h ih = absurd (omega (arith, count_same hole K))
    go (suc i) a-hole h ih =
        let q = ih i (omega (arith, count_same hole K)) in
        rw (eqb_same hole) (ap (λ (l : List ℕ). hole ∷ l) q.0, ap suc q.1)
    go zero (a-cell {c = d} n) h ih =
        let q = ih zero (omega (arith, count-other hole d K (λ p. n (sym p)))) in
        rw (ne_eqb d hole n) (ap (λ (l : List ℕ). d ∷ l) q.0, ap suc q.1)
    go (suc i) (a-cell {c = d} n) h ih =
        let q = ih (suc i) (omega (arith, count-other hole d K (λ p. n (sym p)))) in
        rw (ne_eqb d hole n) (ap (λ (l : List ℕ). d ∷ l) q.0, ap suc q.1)

module _ (i c p : ℕ) (K : List ℕ) where
  pub none-decided : p ≡ hole_at K i → length K ≤ p → decide i c K ≡ K
  none-decided e l = by_cases (dec_le (count hole K) i) (λ h. (decide-past i c K h).0)
      (λ h. absurd (let z : ⊥ = omega (arith, (decide-at i c K (omega arith)).1) in z))

  -- in the order in which the code puts it
  pub decided : i < count hole K → p ≡ hole_at K i
      → (p < length K) × (decide i c K ≡ take p K ++ ((c ∷ []) ++ (replicate (arity c) hole ++ take (length K - (p + 1)) (drop (p + 1) K))))
  decided h e =
      let d = decide-at i c K h in
      let s : p + 1 ≡ suc (hole_at K i) = omega arith in
      let n = length K - suc (hole_at K i) in
      rw (s, e, take_all n (drop (suc (hole_at K i)) K) (omega (arith, length-drop (suc (hole_at K i)) K))) (d.1, d.0)

  there : p ≡ hole_at K i → p < length K → i < count hole K
  there e l = by_cases (dec_le (count hole K) i) (λ h. absurd (let z : ⊥ = omega (arith, (decide-past i c K h).1) in z)) (λ h. omega arith)

  pub decided-put : (m : ℕ) {a b d e f : List ℕ} {r s t u : ℕ} → p ≡ hole_at K i → p < length K → Put a b 0 (take p K) r
      → Put b d r (c ∷ []) s → m ≡ arity c → Put d e s (replicate m hole) t → Put e f t (take (length K - (p + 1)) (drop (p + 1) K)) u
      → Put a f 0 (decide i c K) u
  decided-put m q l x y n z v = rw (decided (there q l) q).1 (put-put x (put-put y (put-put (rw n at z) v)))

pub decide-long : (i c : ℕ) (K : List ℕ) → i < count hole K → length (decide i c K) ≡ length K + arity c
decide-long i c K h =
    let p = hole_at K i in
    let d = decided i c p K h refl in
    let rest = take (length K - (p + 1)) (drop (p + 1) K) in
    let long = length-take-le (length K - (p + 1)) (drop (p + 1) K) (omega (arith, length-drop (p + 1) K)) in
    omega (
      arith,
      ap length d.1,
      d.0,
      length-append (take p K) ((c ∷ []) ++ (replicate (arity c) hole ++ rest)),
      length-take-le p K (omega (arith, d.0)),
      length-append (replicate (arity c) hole) rest,
      length-replicate (arity c) hole,
      long,
    )

-- what is put into a room is found there, as much as there is room for
pub put-taken : {old new text : List ℕ} {r n : ℕ} → length old ≡ n → Put old new 0 text r → (r ≤ length new) × (take r new ≡ take n text)
put-taken {old} {new} {text} {r} {n} q p =
    let e : fitting old 0 text ≡ fitting old 0 (take n text) = sym (take-take (length old - 0) n text (omega arith)) in
    let s = length-take n text in
    let cut : Put old new 0 (take n text) r = record { wrote = rw e at p.wrote; after = rw e at p.after } in
    let f = put-found cut (omega (arith, s)) in
    (omega (arith, f.0, s, put-length p), f.1)

-- A HEAD IN A ROOM OF 32 CELLS: open place i of the first n can be decided by a cell
pub record CanDecide (head : List ℕ) (n i c : ℕ) : Type 0 where
  pub room : length head ≡ 32
  pub there : i < count hole (take n head)
  pub short : n + arity c ≤ 32

-- and then it is
pub decided-in : {head head' : List ℕ} {n i c r : ℕ} → CanDecide head n i c → Put head head' 0 (take 32 (decide i c (take n head))) r
    → (r ≡ n + arity c) × (take r head' ≡ decide i c (take n head))
decided-in {head} {n = n} {i} {c} d x =
    let long = decide-long i c (take n head) d.there in
    let kept : length (take n head) ≡ n = length-take-le n head (omega (arith, d.room, d.short)) in
    let all : take 32 (decide i c (take n head)) ≡ decide i c (take n head) = take_all 32 (decide i c (take n head)) (omega (arith, d.short)) in
    let b = put-found (rw all at x) (omega (arith, d.room, d.short)) in
    (omega (arith, b.0), b.1)

-- so many holes, one after another
pub holes-next : (n i : ℕ) → i < n → replicate (n - i) hole ≡ (4294967295 ∷ []) ++ replicate (n - (i + 1)) hole
holes-next n i h = let e : n - i ≡ suc (n - (i + 1)) = omega arith in rw (e, hole-is)

pub holes-none : (n i : ℕ) → n ≤ i → replicate (n - i) hole ≡ []
holes-none n i h = let e : n - i ≡ 0 = omega arith in rw e

-- a hole, or not
pub a-hole-is : (c x y : ℕ) → c ≡ 4294967295 → x ≡ cond (eqb c hole) x y
a-hole-is c x y e = rw (eq-eqb c hole (e ∙ sym hole-is))

pub no-hole-is : (c x y : ℕ) → c ≢ 4294967295 → y ≡ cond (eqb c hole) x y
no-hole-is c x y e = rw (ne_eqb c hole (λ p. e (p ∙ hole-is)))

-- A HEAD'S CELLS, said one by one
abbrev pub said_from : ℕ → List ℕ → List ℕ
said_from v K = fill K (up_from v (count hole K))

front-none : (xs : List ℕ) → front 0 xs ≡ []
unfolding front
front-none [] = refl
front-none (x ∷ xs) = refl

back_none : (xs : List ℕ) → back 0 xs ≡ xs
unfolding back
back_none [] = refl
back_none (x ∷ xs) = refl

fill-hole : (v : ℕ) (K xs : List ℕ) → v < 2 ^ 30 → fill (hole ∷ K) (v ∷ xs) ≡ v ∷ fill K xs
unfolding fill front back
fill-hole v K xs h =
    let n : arity v + 0 ≡ 0 = omega (arith, var-arity v (var-small v h)) in
    rw (eqb_same hole, n, back_none xs, front-none xs)

said-first : (d v : ℕ) (K : List ℕ) → v < 2 ^ 30
    → said_from v (d ∷ K) ≡ (cond (eqb d hole) v d ∷ []) ++ said_from (v + cond (eqb d hole) 1 0) K
unfolding fill up_from
said-first d v K h = go (hole? d)
  where
    go : {d : ℕ} → Hole? d → said_from v (d ∷ K) ≡ (cond (eqb d hole) v d ∷ []) ++ said_from (v + cond (eqb d hole) 1 0) K
    go a-hole =
        let e : v + 1 ≡ suc v = omega arith in
        let f = fill-hole v K (up_from (suc v) (count hole K)) h in
        ap (λ (n : ℕ). fill (hole ∷ K) (up_from v n)) (count_same hole K) ∙ f ∙ rw (eqb_same hole, e)
    go (a-cell {c = d} n) =
        let e : v + 0 ≡ v = omega arith in
        rw (count-other hole d K (λ p. n (sym p)), ne_eqb d hole n, e)

module _ (K : List ℕ) (i v : ℕ) where
  pub said-next : i < length K → v < 2 ^ 30
      → said_from v (drop i K) ≡ (cond (eqb (get_or K i 0) hole) v (get_or K i 0) ∷ []) ++ said_from (v + cond (eqb (get_or K i 0) hole) 1 0) (drop (i + 1) K)
  said-next h k = let e : i + 1 ≡ suc i = omega arith in rw (e, drop-cons K i 0 h) (said-first (get_or K i 0) v (drop (suc i) K) k)

  pub said-none : length K ≤ i → said_from v (drop i K) ≡ []
  unfolding fill
  said-none h = rw (drop_of_length-le K {i = i} h)

pub one_at_most : (c : ℕ) → cond (eqb c hole) 1 0 ≤ 1
one_at_most c = go (eqb c hole)
  where
    go : (b : Bool) → cond b 1 0 ≤ 1
    go true = omega arith
    go false = omega arith
