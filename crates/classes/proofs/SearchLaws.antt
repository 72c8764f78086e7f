-- The search for a term below itself, case by case.
use Prim.Native.Nat.{ℕ, zero, suc, ◌+◌, ◌-◌, ◌<◌, ◌≤◌}
use mathlib.Core.Path.{◌≡◌, refl, sym, ◌∙◌, ap, ap₂}
use mathlib.Core.Logic.{◌≢◌, by_cases}
use mathlib.Core.Bool.{Bool, true, false, cond}
use mathlib.Core.List.{List, [], ◌∷◌, Memᴰ}
use native.Mathlib.Omega.{arith}
use native.Mathlib.Decide.{ℕ_discrete}
use lib.Dec.{eqb}
use lib.ListN.{length, get_or, set, length-set, replicate, length-replicate}
use Rattle.term.proofs.Lists.{get_d-zeros}
use lib.Seq.{get_or-set_same, get_or-set_other}
use borrow.Author.Tests.{eq-eqb, ne_eqb}
use Rattle.cell.specs.Cell.{arity}
use Rattle.term.specs.Unify.{inst}
use Rattle.table.specs.All.{All}
use Rattle.walking.specs.code.Link.{steps}
use Rattle.walking.proofs.ListLaws.{steps-more}
use Rattle.classes.specs.code.Nodes.{Nodes, at, Flat}
use Rattle.classes.specs.code.Finite.{Fin, bare, over, FinAll, no_more, and-more}
use Rattle.classes.specs.code.Arrays.{nodes, Inside, Ready, roots_from, classes, Unified, joined, apart}
use Rattle.classes.specs.code.Search.{new_from, news, Fewer, Under, Marks, Searching, SearchingAll, Searched}
use Rattle.classes.specs.code.Search.{ends, cycles, Equals, equal, never, SearchedAll, all_end, one-cycles}
use Rattle.classes.proofs.Joined.{merged, failed}
use Rattle.classes.proofs.Finite.{kid-short}
use Rattle.classes.proofs.ArrayLaws.{at-is, steps-none, first-inside}

-- Counting what is new.

module _ (mark : List ℕ) (x v : ℕ) (h : x < length mark) where
  new-other : (r : ℕ) → r ≢ x → ◌≡◌ {A = ℕ} (cond (eqb (get_or (set mark x v) r 0) 0) 1 0) (cond (eqb (get_or mark r 0) 0) 1 0)
  new-other r n = rw (get_or-set_other mark x r v 0 n)

  new-out : (n r : ℕ) → x < r → new_from (set mark x v) n r ≡ new_from mark n r
  unfolding new_from
  new-out zero r l = refl
  new-out (suc n) r l = ap₂ ◌+◌ (new-other r (λ e. (let z : ⊥ = omega arith in z))) (new-out n (suc r) (omega arith))

  -- a mark that is not 0 makes no more of them
  new-no-more : v ≢ 0 → (n r : ℕ) → new_from (set mark x v) n r ≤ new_from mark n r
  unfolding new_from
  new-no-more nv zero r = omega arith
  new-no-more nv (suc n) r =
      let ih = new-no-more nv n (suc r) in
      by_cases (ℕ_discrete r x)
      (λ e. let o : ◌≡◌ {A = ℕ} (cond (eqb (get_or (set mark x v) r 0) 0) 1 0) 0 = rw (e, get_or-set_same mark x v 0 h, ne_eqb v 0 nv) in omega (arith, o, ih))
      (λ e. let o = new-other r e in omega (arith, o, ih))

  -- and one less where the node was new
  new-less : v ≢ 0 → get_or mark x 0 ≡ 0 → (n r : ℕ) → r ≤ x → x < r + n → suc (new_from (set mark x v) n r) ≡ new_from mark n r
  unfolding new_from
  new-less nv z zero r l m = absurd (omega arith)
  new-less nv z (suc n) r l m = by_cases (ℕ_discrete r x)
      (λ e. let o : ◌≡◌ {A = ℕ} (cond (eqb (get_or (set mark x v) r 0) 0) 1 0) 0 = rw (e, get_or-set_same mark x v 0 h, ne_eqb v 0 nv) in
      let p : ◌≡◌ {A = ℕ} (cond (eqb (get_or mark r 0) 0) 1 0) 1 = rw (e, eq-eqb (get_or mark x 0) 0 z) in
      let q = new-out n (suc r) (omega arith) in omega (arith, o, p, q))
      (λ e. let o = new-other r e in let q = new-less nv z n (suc r) (omega arith) (omega arith) in omega (arith, o, q))

-- a new node that is marked: one less is new, and none more once it is finite
pub fewer-new : (mark : List ℕ) (x : ℕ) → length mark ≡ 64 → x < 64 → get_or mark x 0 ≡ 0 → suc (news (set mark x 1)) ≡ news mark
fewer-new mark x h l z = new-less mark x 1 (omega arith) (λ e. (let z : ⊥ = omega arith in z)) z 64 0 (omega arith) (omega arith)

pub fewer-same : {mark : List ℕ} → length mark ≡ 64 → Fewer mark mark
fewer-same h = record { size = h; few = omega arith }

pub fewer-more : {mark mark' mark'' : List ℕ} → Fewer mark mark' → Fewer mark' mark'' → Fewer mark mark''
fewer-more a b = record { size = b.size; few = omega (arith, a.few, b.few) }

pub fewer-down : {mark down mark' : List ℕ} → suc (news down) ≡ news mark → Fewer down mark' → Fewer mark mark'
fewer-down e f = record { size = f.size; few = omega (arith, f.few) }

pub fewer-end : {mark mark' : List ℕ} (x : ℕ) → x < 64 → Fewer mark mark' → Fewer mark (set mark' x 2)
fewer-end {mark' = mark'} x l f = record {
  size = length-set mark' x 2 ∙ f.size;
  few = omega (arith, f.few, new-no-more mark' x 2 (omega (arith, f.size)) (λ e. (let z : ⊥ = omega arith in z)) 64 0);
}

-- finite at what stands for a node is finite at the node
fin-of : {N : Nodes} {rep : List ℕ} (r : ℕ) → Flat rep → Fin N rep (at rep r) → Fin N rep r
fin-of r F (bare z) = bare (rw (F.fixed r) at z)
fin-of r F (over z k) = over (rw (F.fixed r) at z) (rw (F.fixed r) at k)

fin-at : {N : Nodes} {rep : List ℕ} (r : ℕ) → Flat rep → Fin N rep r → Fin N rep (at rep r)
fin-at {rep = rep} r F (bare z) = bare {r = at rep r} (rw (F.fixed r) z)
fin-at {rep = rep} r F (over z k) = over {r = at rep r} (rw (F.fixed r) z) (rw (F.fixed r) k)

module _ {bs ns sib rep mark : List ℕ} {r : ℕ} (S : Searching bs ns sib rep mark r) where
  pub x-is : at rep r ≡ get_or rep r 0
  x-is = at-is rep r (omega (arith, S.ready.size, S.inside))

  pub x-small : get_or rep r 0 < 64
  x-small = rw (← x-is) (S.ready.small r S.inside)

  -- it is marked finite already
  pub found-done : get_or mark (get_or rep r 0) 0 ≡ 2 → Searched bs ns sib rep mark mark r true
  found-done e = ends S.marks (λ g q. q) (λ own. fin-of r S.ready.flat (rw x-is (S.marks.done own (get_or rep r 0) e)))

  -- it is on the way down: nothing solves the classes
  pub found-way : get_or mark (get_or rep r 0) 0 ≢ 2 → get_or mark (get_or rep r 0) 0 ≢ 0 → Searched bs ns sib rep mark mark r false
  found-way n z =
      let l = S.marks.low (get_or rep r 0) in
      let e : get_or mark (get_or rep r 0) 0 ≡ 1 = omega arith in
      cycles (λ own τ f s.
      let a = S.under.shorter own τ f s (get_or rep r 0) e in
      let b : length (inst τ (own r)) ≡ length (inst τ (own (get_or rep r 0))) = ap length (s.classes r ∙ ap (λ (n : ℕ). inst τ (own n)) x-is) in
      let z : ⊥ = omega arith in z)

  -- it is new: it is put on the way
  module _ (z : get_or mark (get_or rep r 0) 0 ≡ 0) where
    abbrev x : ℕ
    x = get_or rep r 0

    abbrev down : List ℕ
    down = set mark x 1

    size-down : length down ≡ 64
    size-down = length-set mark x 1 ∙ S.marks.size

    at-down : get_or down x 0 ≡ 1
    at-down = get_or-set_same mark x 1 0 (omega (arith, S.marks.size, x-small))

    marks-down : Marks bs ns sib rep down
    marks-down = record {
      size = size-down;
      low = λ g. by_cases (ℕ_discrete g x) (λ e. rw (e, at-down) (omega arith)) (λ e. rw (get_or-set_other mark x g 1 0 e) (S.marks.low g));
      done = λ own g q. by_cases (ℕ_discrete g x)
          (λ e. absurd (let o : get_or down g 0 ≡ 1 = rw e at-down in let z : ⊥ = omega arith in z))
          (λ e. S.marks.done own g (rw (get_or-set_other mark x g 1 0 e) at q));
    }

    -- an argument of it is under everything on the way, itself among it
    under-kid : get_or bs x 0 ≢ 0 → (s : ℕ) → Memᴰ s (steps sib (arity (get_or bs x 0)) (get_or ns x 0)) → Under bs ns sib rep down s
    under-kid nz s m = record {
      shorter = λ own τ f so g q.
          let a = kid-short so r s (rw x-is nz) (rw x-is m) in
          by_cases (ℕ_discrete g x)
          (λ e. let b : length (inst τ (own r)) ≡ length (inst τ (own g)) =
          ap length (so.classes r ∙ ap (λ (n : ℕ). inst τ (own n)) (x-is ∙ sym e)) in omega arith)
          (λ e. let b = S.under.shorter own τ f so g (rw (get_or-set_other mark x g 1 0 e) at q) in omega arith);
    }

    all_under : (P : ℕ → Type 0) (ss : List ℕ) → ((s : ℕ) → Memᴰ s ss → P s) → All P ss
    all_under P [] h = tt
    all_under P (s ∷ ss) h = (h s (Memᴰ.head refl), all_under P ss (λ q m. h q (Memᴰ.tail m)))

no-args : (c : ℕ) → c ≡ 0 → arity c ≡ 0
no-args c e = rw e (Rattle.cell.proofs.CellLaws.var-arity 0 (Rattle.cell.proofs.CellLaws.var-small 0 (omega arith)))

not-both : {A : Type 0} → ◌≡◌ {A = Bool} true false → A
not-both e = let z : ◌≡◌ {A = ℕ} 0 1 = cc in absurd (let y : ⊥ = omega arith in y)

-- the node x is new: its arguments, and back
module _ {bs ns sib rep mark : List ℕ} {r x p k : ℕ} (S : Searching bs ns sib rep mark r) (e : x ≡ get_or rep r 0) (z : get_or mark x 0 ≡ 0)
    (ek : k ≡ arity (get_or bs x 0)) (ep : p ≡ get_or ns x 0) where
  z' : get_or mark (get_or rep r 0) 0 ≡ 0
  z' = rw e at z

  pub down-ready : SearchingAll bs ns sib rep (set mark x 1) p k
  down-ready = by_cases (ℕ_discrete (get_or bs x 0) 0)
      (λ o. let st : steps sib k p ≡ [] = steps-none sib k p (ek ∙ no-args (get_or bs x 0) o) in
      record { ready = S.ready; marks = rw e (marks-down S z'); here = rw st tt; unders = rw st tt })
      (λ o. record {
        ready = S.ready;
        marks = rw e (marks-down S z');
        here = rw (ek, ep) (S.ready.kids x (rw e (x-small S)) o);
        unders =
            rw (ek, ep, e) (all_under S z' (Under bs ns sib rep (set mark (get_or rep r 0) 1))
            (steps sib (arity (get_or bs (get_or rep r 0) 0)) (get_or ns (get_or rep r 0) 0))
            (λ s m. under-kid S z' (rw e at o) s m));
      })

  pub down-cycles : {mark' : List ℕ} {b : Bool} → SearchedAll bs ns sib rep (set mark x 1) mark' p k b → b ≡ false → Searched bs ns sib rep mark mark' r false
  down-cycles (one-cycles w) q = cycles w
  down-cycles (all_end m g w) q = not-both q

  pub down_ends : {mark' : List ℕ} {b : Bool} → SearchedAll bs ns sib rep (set mark x 1) mark' p k b → b ≡ true
      → Searched bs ns sib rep mark (set mark' x 2) r true
  down_ends {mark'} s o = go s o
    where
      fx : at rep r ≡ x
      fx = x-is S ∙ sym e

      sx : x < 64
      sx = rw e (x-small S)

      fin : ((own : ℕ → List ℕ) → FinAll (nodes own bs ns sib) rep (steps sib k p)) → (own : ℕ → List ℕ) → Fin (nodes own bs ns sib) rep r
      fin w own = by_cases (ℕ_discrete (get_or bs x 0) 0) (λ o. bare {r = r} (rw fx o)) (λ o. over {r = r} (rw fx o) (rw (fx, ← ek, ← ep) (w own)))

      go : {b : Bool} → SearchedAll bs ns sib rep (set mark x 1) mark' p k b → b ≡ true → Searched bs ns sib rep mark (set mark' x 2) r true
      go (one-cycles w) q = not-both (sym q)
      go (all_end m g w) q =
          let lx : x < length mark' = omega (arith, m.size, sx) in
          let here : get_or (set mark' x 2) x 0 ≡ 2 = get_or-set_same mark' x 2 0 lx in
          ends
          (record {
            size = length-set mark' x 2 ∙ m.size;
            low = λ i. by_cases (ℕ_discrete i x) (λ o. rw (o, here) (omega arith)) (λ o. rw (get_or-set_other mark' x i 2 0 o) (m.low i));
            done = λ own i v. by_cases (ℕ_discrete i x)
                (λ o. rw (o, ← fx) (fin-at r S.ready.flat (fin w own)))
                (λ o. m.done own i (rw (get_or-set_other mark' x i 2 0 o) at v));
          })
          (λ i v. by_cases (ℕ_discrete i x)
          (λ o. absurd (let u : get_or (set mark' x 2) i 0 ≡ 2 = rw o here in let z : ⊥ = omega arith in z))
          (λ o. let u = g i (rw (get_or-set_other mark' x i 2 0 o) at v) in rw (get_or-set_other mark x i 1 0 o) at u))
          (fin w)

-- THE LOOP over the arguments: what is still to be searched gives the whole
pub record Looking (bs ns sib rep mark₀ mark : List ℕ) (p k q more : ℕ) : Type 0 where
  pub ready : Ready bs ns sib rep
  pub marks : Marks bs ns sib rep mark
  pub grey : (g : ℕ) → get_or mark g 0 ≡ 1 → get_or mark₀ g 0 ≡ 1
  pub here : Inside (steps sib more q)
  pub unders : All (Under bs ns sib rep mark₀) (steps sib more q)
  pub whole : (own : ℕ → List ℕ) → FinAll (nodes own bs ns sib) rep (steps sib more q) → FinAll (nodes own bs ns sib) rep (steps sib k p)

pub looking-first : {bs ns sib rep mark : List ℕ} {p k : ℕ} → SearchingAll bs ns sib rep mark p k → Looking bs ns sib rep mark mark p k p k
looking-first S = record { ready = S.ready; marks = S.marks; grey = λ g e. e; here = S.here; unders = S.unders; whole = λ own w. w }

under-fewer : {bs ns sib rep mark mark' : List ℕ} {r : ℕ} → ((g : ℕ) → get_or mark' g 0 ≡ 1 → get_or mark g 0 ≡ 1) → Under bs ns sib rep mark r
    → Under bs ns sib rep mark' r
under-fewer h u = record { shorter = λ own τ f s g q. u.shorter own τ f s g (h g q) }

module _ {bs ns sib rep mark₀ mark : List ℕ} {p k q more : ℕ} (L : Looking bs ns sib rep mark₀ mark p k q more) where
  module _ (h : 0 < more) where
    first_under : Under bs ns sib rep mark₀ q × All (Under bs ns sib rep mark₀) (steps sib (more - 1) (get_or sib q 0))
    first_under = rw (steps-more sib more q h) at L.unders

    pub looking-call : Searching bs ns sib rep mark q
    looking-call =
        record { ready = L.ready; inside = (first-inside sib more q h L.here).0; marks = L.marks; under = under-fewer L.grey first_under.0 }

    pub looking-next : {mark' : List ℕ} {b : Bool} → Searched bs ns sib rep mark mark' q b → b ≡ true
        → Looking bs ns sib rep mark₀ mark' p k (get_or sib q 0) (more - 1)
    looking-next (cycles w) e = not-both (sym e)
    looking-next (ends m g w) e = record {
      ready = L.ready;
      marks = m;
      grey = λ i v. L.grey i (g i v);
      here = (first-inside sib more q h L.here).1;
      unders = first_under.1;
      whole = λ own v. L.whole own (rw (steps-more sib more q h) (and-more (w own) v));
    }

    pub looking-cycles : {mark' : List ℕ} {b : Bool} → Searched bs ns sib rep mark mark' q b → b ≡ false → SearchedAll bs ns sib rep mark₀ mark' p k false
    looking-cycles (cycles w) e = one-cycles w
    looking-cycles (ends m g w) e = not-both e

  pub looking-last : more ≡ 0 → SearchedAll bs ns sib rep mark₀ mark p k true
  looking-last e = all_end L.marks L.grey (λ own. L.whole own (rw (steps-none sib more q e) no_more))

-- Two terms made equal: the two functions, then the search from the joined term.
roots_few : (rep : List ℕ) (n r : ℕ) → roots_from rep n r ≤ n
unfolding roots_from
roots_few rep zero r = omega arith
roots_few rep (suc n) r = go (eqb (at rep r) r) (roots_few rep n (suc r))
  where
    go : (b : Bool) → roots_from rep n (suc r) ≤ n → cond b 1 0 + roots_from rep n (suc r) ≤ suc n
    go true h = omega arith
    go false h = omega arith

pub classes-few : (rep : List ℕ) → classes rep ≤ 64
classes-few rep = roots_few rep 64 0

module _ {bs ns sib rep rep' : List ℕ} {a b n : ℕ} (ha : a < 64) (u : Unified bs ns sib rep rep' a b n) where
  pub equals-apart : n ≡ 0 → Equals bs ns sib rep rep' a b false
  equals-apart z = go u
    where
      go : Unified bs ns sib rep rep' a b n → Equals bs ns sib rep rep' a b false
      go (joined s c r m) = absurd (let o : ⊥ = omega arith in o)
      go (apart e l w) = never l (λ own τ f s q. failed f (w own) s q)

  module _ (nz : n ≢ 0) where
    ready : Ready bs ns sib rep'
    ready = go u
      where
        go : Unified bs ns sib rep rep' a b n → Ready bs ns sib rep'
        go (joined s c r m) = r
        go (apart e l w) = absurd (nz e)

    pub search-first : {mark : List ℕ} → mark ≡ replicate 64 0 → Searching bs ns sib rep' mark a
    search-first {mark} e = record {
      ready = ready;
      inside = ha;
      marks = record {
        size = rw e (length-replicate {A = ℕ} 64 0);
        low = λ g. rw (e, get_d-zeros 64 g) (omega arith);
        done = λ own g q. absurd (let z : get_or mark g 0 ≡ 0 = rw e (get_d-zeros 64 g) in let o : ⊥ = omega arith in o);
      };
      under = record { shorter = λ own τ f s g q. absurd (let z : get_or mark g 0 ≡ 0 = rw e (get_d-zeros 64 g) in let o : ⊥ = omega arith in o) };
    }

    pub equals-searched : {mark mark' : List ℕ} {r : Bool} → Searched bs ns sib rep' mark mark' a r → Equals bs ns sib rep rep' a b r
    equals-searched x = go u x
      where
        go : {mark mark' : List ℕ} {r : Bool} → Unified bs ns sib rep rep' a b n → Searched bs ns sib rep' mark mark' a r
            → Equals bs ns sib rep rep' a b r
        go (apart e l w) y = absurd (nz e)
        go (joined s c r m) (ends k g t) = equal r m t
        go (joined s c r m) (cycles w) = never r.size (λ own τ f so q. w own τ f (merged f (m own) so q))
