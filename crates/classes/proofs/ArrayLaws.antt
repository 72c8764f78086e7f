-- Laws for the two functions and for joining, in the code's own form.
use Prim.Native.Nat.{ℕ, zero, suc, ◌+◌, ◌-◌, ◌<◌, ◌≤◌}
use mathlib.Core.Path.{◌≡◌, refl, sym, ◌∙◌, ap, ap₂}
use mathlib.Core.Logic.{◌≢◌, by_cases}
use mathlib.Core.Bool.{cond}
use mathlib.Core.List.{List, [], ◌∷◌, ◌++◌, map}
use native.Mathlib.Omega.{arith}
use native.Mathlib.Decide.{ℕ_discrete}
use lib.Dec.{eqb}
use lib.ListN.{length, get_or, set, take, drop}
use lib.Seq.{take-suc, take-suc-set, drop-cons}
use borrow.Author.Tests.{eq-eqb, ne_eqb}
use Rattle.cell.specs.Cell.{arity}
use Rattle.walking.specs.code.Link.{steps}
use Rattle.walking.proofs.ListLaws.{steps-more}
use Rattle.classes.specs.code.Nodes.{at, to, join, same, loose, bound, alike, nil, cons, clash, within, first, later}
use Rattle.classes.specs.code.Arrays.{roots_from, classes, Inside, Ready, ReadyAll, Unified, joined, apart, UnifiedAll, all-joined, one_apart}
use Rattle.classes.proofs.Joined.{join-here, join-other, flat-join, length-join}

map-++ : (f : ℕ → ℕ) (xs ys : List ℕ) → map f (xs ++ ys) ≡ map f xs ++ map f ys
map-++ f [] ys = refl
map-++ f (x ∷ xs) ys = ap (λ (l : List ℕ). f x ∷ l) (map-++ f xs ys)

drop-set : (l : List ℕ) (i x : ℕ) → drop (suc i) (set l i x) ≡ drop (suc i) l
drop-set [] zero x = refl
drop-set [] (suc i) x = refl
drop-set (c ∷ l) zero x = refl
drop-set (c ∷ l) (suc i) x = drop-set l i x

take_all : (l : List ℕ) (n : ℕ) → length l ≤ n → take n l ≡ l
take_all [] zero h = refl
take_all [] (suc n) h = refl
take_all (c ∷ l) zero h = absurd (omega arith)
take_all (c ∷ l) (suc n) h = ap (λ (x : List ℕ). c ∷ x) (take_all l n (omega arith))

-- one node more is moved
pub record Moving (rep₀ rep : List ℕ) (x y r : ℕ) : Type 0 where
  pub size : length rep ≡ 64
  size₀ : length rep₀ ≡ 64
  pub few : r ≤ 64
  pub rest : drop r rep ≡ drop r rep₀
  pub done : take r rep ≡ map (to x y) (take r rep₀)

pub moving-first : (rep : List ℕ) (x y : ℕ) → length rep ≡ 64 → Moving rep rep x y 0
moving-first rep x y h = record { size = h; size₀ = h; few = omega arith; rest = refl; done = refl }

head-of : (xs ys : List ℕ) (a b : ℕ) → a ∷ xs ≡ b ∷ ys → a ≡ b
head-of xs ys a b e = cc

tail_of : (xs ys : List ℕ) (a b : ℕ) → a ∷ xs ≡ b ∷ ys → xs ≡ ys
tail_of xs ys a b e = cc

pub moving-next : (rep₀ rep : List ℕ) (x y r : ℕ) → Moving rep₀ rep x y r → r < 64 → Moving rep₀ (set rep r (to x y (get_or rep r 0))) x y (r + 1)
moving-next rep₀ rep x y r M h =
    let s = M.size in
    let s₀ = M.size₀ in
    let e : r + 1 ≡ suc r = omega arith in
    let d = sym (drop-cons rep r 0 (omega arith)) ∙ M.rest ∙ drop-cons rep₀ r 0 (omega arith) in
    let g : get_or rep r 0 ≡ get_or rep₀ r 0 = head-of _ _ _ _ d in
    rw e (record {
      size = lib.ListN.length-set rep r (to x y (get_or rep r 0)) ∙ s;
      size₀ = s₀;
      few = omega arith;
      rest = drop-set rep r (to x y (get_or rep r 0)) ∙ tail_of _ _ _ _ d;
      done = take-suc-set rep r (to x y (get_or rep r 0)) (omega arith) ∙ ap₂ ◌++◌ M.done (ap (λ (z : ℕ). to x y z ∷ []) g)
          ∙ sym (ap (map (to x y)) (take-suc rep₀ r 0 (omega arith)) ∙ map-++ (to x y) (take r rep₀) (get_or rep₀ r 0 ∷ []));
    })

pub moving-last : (rep₀ rep : List ℕ) (x y r : ℕ) → Moving rep₀ rep x y r → 64 ≤ r → rep ≡ join x y rep₀
unfolding join
moving-last rep₀ rep x y r M h =
    let s = M.size in
    let s₀ = M.size₀ in
    sym (take_all rep r (omega arith)) ∙ M.done ∙ ap (map (to x y)) (take_all rep₀ r (omega arith))

-- COUNTING. A joining takes one class away.

pub at-is : (rep : List ℕ) (a : ℕ) → a < length rep → at rep a ≡ get_or rep a 0
at-is [] a h = absurd (omega arith)
at-is (c ∷ rep) zero h = refl
at-is (c ∷ rep) (suc a) h = go rep a (omega arith)
  where
    go : (l : List ℕ) (n : ℕ) → n < length l → get_or l n (suc a) ≡ get_or l n 0
    go [] n h = absurd (omega arith)
    go (c ∷ l) zero h = refl
    go (c ∷ l) (suc n) h = go l n (omega arith)

module _ (rep : List ℕ) (x y : ℕ) (h : x < length rep) (fx : at rep x ≡ x) (fy : at rep y ≡ y) (d : x ≢ y) where
  abbrev one : List ℕ → ℕ → ℕ
  one l r = cond (eqb (at l r) r) 1 0

  one-other : (r : ℕ) → r ≢ x → one (join x y rep) r ≡ one rep r
  one-other r n = by_cases (ℕ_discrete (at rep r) x)
      (λ q. let a : at (join x y rep) r ≢ r = λ e. n
      (sym (sym q ∙ ap (λ (z : ℕ). at rep z) (sym (sym (join-here rep x y r h q) ∙ e)) ∙ fy ∙ sym (join-here rep x y r h q) ∙ e)) in
      rw (ne_eqb (at (join x y rep) r) r a, ne_eqb (at rep r) r (λ e. n (sym e ∙ q))))
      (λ q. rw (join-other rep x y r h q))

  one-here : (one (join x y rep) x ≡ 0) × (one rep x ≡ 1)
  one-here = (rw (join-here rep x y x h fx, ne_eqb y x (λ e. d (sym e))), rw (eq-eqb (at rep x) x fx))

  roots-out : (n r : ℕ) → x < r → roots_from (join x y rep) n r ≡ roots_from rep n r
  unfolding roots_from
  roots-out zero r l = refl
  roots-out (suc n) r l = ap₂ ◌+◌ (one-other r (λ e. (let z : ⊥ = omega arith in z))) (roots-out n (suc r) (omega arith))

  roots-in : (n r : ℕ) → r ≤ x → x < r + n → suc (roots_from (join x y rep) n r) ≡ roots_from rep n r
  unfolding roots_from
  roots-in zero r l m = absurd (omega arith)
  roots-in (suc n) r l m = by_cases (ℕ_discrete r x)
      (λ e. let o = one-here in let q = roots-out n (suc r) (omega arith) in rw e (let q' = rw e at q in omega (arith, o.0, o.1, q')))
      (λ e. let o = one-other r e in let q = roots-in n (suc r) (omega arith) (omega arith) in omega (arith, o, q))

root-counts : (rep : List ℕ) (y n r : ℕ) → at rep y ≡ y → r ≤ y → y < r + n → 1 ≤ roots_from rep n r
unfolding roots_from
root-counts rep y zero r e l m = absurd (omega arith)
root-counts rep y (suc n) r e l m = by_cases (ℕ_discrete r y)
    (λ q. let o : ◌≡◌ {A = ℕ} (cond (eqb (at rep r) r) 1 0) 1 = rw (q, eq-eqb (at rep y) y e) in omega (arith, o))
    (λ q. let o = root-counts rep y n (suc r) e (omega arith) (omega arith) in omega (arith, o))

-- THE TWO FUNCTIONS, case by case.
module _ {bs ns sib rep : List ℕ} (R : Ready bs ns sib rep) where
  pub some-class : (a : ℕ) → a < 64 → 0 < classes rep
  some-class a h = let s = R.small a h in omega (arith, root-counts rep (at rep a) 64 0 (R.flat.fixed a) (omega arith) (omega arith))

  module _ (a b : ℕ) (ha : a < 64) (hb : b < 64) (d : at rep a ≢ at rep b) where
    fewer : suc (classes (join (at rep a) (at rep b) rep)) ≡ classes rep
    fewer = let s = R.small a ha in
        roots-in rep (at rep a) (at rep b) (omega (arith, R.size)) (R.flat.fixed a) (R.flat.fixed b) d 64 0 (omega arith) (omega arith)

    still : at (join (at rep a) (at rep b) rep) (at rep b) ≡ at rep b
    still = let s = R.small a ha in
        join-other rep (at rep a) (at rep b) (at rep b) (omega (arith, R.size)) (λ e. d (sym (sym (R.flat.fixed b) ∙ e))) ∙ R.flat.fixed b

    some_left : 0 < classes (join (at rep a) (at rep b) rep)
    some_left = let s = R.small b hb in omega (arith, root-counts (join (at rep a) (at rep b) rep) (at rep b) 64 0 still (omega arith) (omega arith))

    ready-join : Ready bs ns sib (join (at rep a) (at rep b) rep)
    ready-join =
        let s = R.small a ha in
        let l : at rep a < length rep = omega (arith, R.size) in
        record {
          size = length-join (at rep a) (at rep b) rep ∙ R.size;
          flat = flat-join (at rep a) (at rep b) R.flat l (R.flat.fixed b) d;
          small = λ r h. by_cases (ℕ_discrete (at rep r) (at rep a))
              (λ q. rw (join-here rep (at rep a) (at rep b) r l q) (R.small b hb)) (λ q. rw (join-other rep (at rep a) (at rep b) r l q) (R.small r h));
          kids = R.kids;
        }

-- a term against a term, by what the code finds: x and y stand for the classes of a and b
module _ {bs ns sib rep : List ℕ} (R : Ready bs ns sib rep) (a b left : ℕ) (ha : a < 64) (hb : b < 64) (c : classes rep ≤ left) where
  x-is : at rep a ≡ get_or rep a 0
  x-is = at-is rep a (omega (arith, R.size))

  y-is : at rep b ≡ get_or rep b 0
  y-is = at-is rep b (omega (arith, R.size))

  inside-x : at rep a < length rep
  inside-x = let s = R.small a ha in omega (arith, R.size)

  inside-y : at rep b < length rep
  inside-y = let s = R.small b hb in omega (arith, R.size)

  pub same_class : get_or rep a 0 ≡ get_or rep b 0 → Unified bs ns sib rep rep a b left
  same_class e = let s = some-class R a ha in joined (omega arith) c R (λ own. same (x-is ∙ e ∙ sym y-is) refl)

  module _ (d : get_or rep a 0 ≢ get_or rep b 0) where
    d' : at rep a ≢ at rep b
    d' e = d (sym x-is ∙ e ∙ y-is)

    left-loose : {rep' : List ℕ} → get_or bs (get_or rep a 0) 0 ≡ 0 → rep' ≡ join (get_or rep a 0) (get_or rep b 0) rep
        → Unified bs ns sib rep rep' a b (left - 1)
    left-loose {rep'} z e =
        let q : rep' ≡ join (at rep a) (at rep b) rep = rw (x-is, y-is) e in
        let f = fewer R a b ha hb d' in
        let s = some_left R a b ha hb d' in
        rw q (joined (omega arith) (omega arith) (ready-join R a b ha hb d')
        (λ own. loose {rep = rep} {a = a} {b = b} d' inside-x (rw x-is z) refl))

    right-loose : {rep' : List ℕ} → get_or bs (get_or rep b 0) 0 ≡ 0 → rep' ≡ join (get_or rep b 0) (get_or rep a 0) rep
        → Unified bs ns sib rep rep' a b (left - 1)
    right-loose {rep'} z e =
        let n : at rep b ≢ at rep a = λ o. d' (sym o) in
        let q : rep' ≡ join (at rep b) (at rep a) rep = rw (x-is, y-is) e in
        let f = fewer R b a hb ha n in
        let s = some_left R b a hb ha n in
        rw q (joined (omega arith) (omega arith) (ready-join R b a hb ha n)
        (λ own. bound {rep = rep} {a = a} {b = b} d' inside-y (rw y-is z) refl))

    two-symbols : get_or bs (get_or rep a 0) 0 ≢ 0 → get_or bs (get_or rep b 0) 0 ≢ 0 → get_or bs (get_or rep a 0) 0 ≢ get_or bs (get_or rep b 0) 0
        → Unified bs ns sib rep rep a b 0
    two-symbols nx ny e = apart refl R.size (λ own. clash {rep = rep} {a = a} {b = b} (rw x-is nx) (rw y-is ny) (rw (x-is, y-is) e))

    -- the same symbol: the classes are joined, and then the arguments are compared
    ready-args : {rep₁ : List ℕ} → get_or bs (get_or rep a 0) 0 ≢ 0 → get_or bs (get_or rep a 0) 0 ≡ get_or bs (get_or rep b 0) 0
        → rep₁ ≡ join (get_or rep a 0) (get_or rep b 0) rep
        → ReadyAll bs ns sib rep₁ (get_or ns (get_or rep a 0) 0) (get_or ns (get_or rep b 0) 0) (arity (get_or bs (get_or rep a 0) 0)) × (classes rep₁ ≤ left - 1)
    ready-args {rep₁} nz e q =
        let q' : rep₁ ≡ join (at rep a) (at rep b) rep = rw (x-is, y-is) q in
        let f = fewer R a b ha hb d' in
        let sx : get_or rep a 0 < 64 = rw (← x-is) (R.small a ha) in
        let sy : get_or rep b 0 < 64 = rw (← y-is) (R.small b hb) in
        rw q' (
          record {
            ready = ready-join R a b ha hb d';
            left = R.kids (get_or rep a 0) sx nz;
            right =
                rw e (R.kids (get_or rep b 0) sy (λ o. nz (e ∙ o)));
          },
          omega arith,
        )

    by_args : {rep₁ rep' : List ℕ} {n : ℕ} → get_or bs (get_or rep a 0) 0 ≢ 0 → get_or bs (get_or rep a 0) 0 ≡ get_or bs (get_or rep b 0) 0
        → rep₁ ≡ join (get_or rep a 0) (get_or rep b 0) rep
        → UnifiedAll bs ns sib rep₁ rep' (get_or ns (get_or rep a 0) 0) (get_or ns (get_or rep b 0) 0) (arity (get_or bs (get_or rep a 0) 0)) n
        → Unified bs ns sib rep rep' a b n
    by_args {rep₁} {rep'} nz e q (all-joined p m r w) =
        joined p m r (λ own. alike {rep = rep} {rep' = rep'} {a = a} {b = b} d' inside-x (rw x-is nz) (rw (x-is, y-is) e)
        (rw (x-is, y-is, ← e) (rw q at (w own))))
    by_args {rep₁} {rep'} nz e q (one_apart z l w) =
        apart z l (λ own. within {rep = rep} {a = a} {b = b} inside-x (rw x-is nz) (rw (x-is, y-is) e) (rw (x-is, y-is, ← e) (rw q at (w own))))

-- THE LISTS: what is still to be compared gives the whole
pub record Going (bs ns sib rep₀ rep : List ℕ) (p q k i j more n : ℕ) : Type 0 where
  pub ready : Ready bs ns sib rep
  pub some : 0 < n
  pub number : classes rep ≤ n
  pub here : Inside (steps sib more i)
  pub there : Inside (steps sib more j)
  pub whole : (rep' : List ℕ) (n' : ℕ) → UnifiedAll bs ns sib rep rep' i j more n' → UnifiedAll bs ns sib rep₀ rep' p q k n'

pub going-first : {bs ns sib rep : List ℕ} {p q k left : ℕ} → ReadyAll bs ns sib rep p q k → classes rep ≤ left → 0 < left
    → Going bs ns sib rep rep p q k p q k left
going-first R c h = record { ready = R.ready; some = h; number = c; here = R.left; there = R.right; whole = λ rep' n' u. u }

pub first-inside : (sib : List ℕ) (a p : ℕ) → 0 < a → Inside (steps sib a p) → (p < 64) × Inside (steps sib (a - 1) (get_or sib p 0))
first-inside sib a p h l = rw (steps-more sib a p h) at l

module _ {bs ns sib rep₀ rep rep₁ : List ℕ} {p q k i j more n₁ n : ℕ} (G : Going bs ns sib rep₀ rep p q k i j more n) (h : 0 < more) where
  pub going_next : Unified bs ns sib rep rep₁ i j n₁ → n₁ ≢ 0 → Going bs ns sib rep₀ rep₁ p q k (get_or sib i 0) (get_or sib j 0) (more - 1) n₁
  going_next (apart z l w) d = absurd (d z)
  going_next (joined s m r w) d =
      let a = first-inside sib more i h G.here in
      let b = first-inside sib more j h G.there in
      record {
        ready = r;
        some = s;
        number = m;
        here = a.1;
        there = b.1;
        whole = λ rep' n' u. G.whole rep' n' (add u);
      }
    where
      add : {rep' : List ℕ} {n' : ℕ} → UnifiedAll bs ns sib rep₁ rep' (get_or sib i 0) (get_or sib j 0) (more - 1) n'
          → UnifiedAll bs ns sib rep rep' i j more n'
      add (all-joined s' m' r' w') =
          all-joined s' m' r' (λ own. rw (steps-more sib more i h, steps-more sib more j h) (cons (w own) (w' own)))
      add (one_apart z l' w') = one_apart z l' (λ own. rw (steps-more sib more i h, steps-more sib more j h) (later (w own) (w' own)))

  pub going-apart : Unified bs ns sib rep rep₁ i j n₁ → n₁ ≡ 0 → UnifiedAll bs ns sib rep₀ rep₁ p q k 0
  going-apart (joined s m r w) e = absurd (let z : ⊥ = omega arith in z)
  going-apart (apart z l w) e = G.whole rep₁ 0 (one_apart refl l (λ own. rw (steps-more sib more i h, steps-more sib more j h) (first (w own))))

pub steps-none : (sib : List ℕ) (a p : ℕ) → a ≡ 0 → steps sib a p ≡ []
unfolding steps
steps-none sib zero p h = refl
steps-none sib (suc a) p h = absurd (omega arith)

pub going-last : {bs ns sib rep₀ rep : List ℕ} {p q k i j more n : ℕ} → Going bs ns sib rep₀ rep p q k i j more n → more ≡ 0
    → UnifiedAll bs ns sib rep₀ rep p q k n
going-last {sib = sib} {rep = rep} {i = i} {j} {more} {n} G e =
    G.whole rep n (all-joined G.some G.number G.ready (λ own. rw (steps-none sib more i e, steps-none sib more j e) (nil refl)))

-- In the code's own form: what it has read, by equations.
module _ {bs ns sib rep : List ℕ} (R : Ready bs ns sib rep) (a b left : ℕ) (ha : a < 64) (hb : b < 64) (c : classes rep ≤ left) where
  pub small_at : get_or rep a 0 < 64
  small_at = rw (← at-is rep a (omega (arith, R.size))) (R.small a ha)

  pub one_class : 1 ≤ left
  one_class = let s = some-class R a ha in omega arith

  module _ {i j f g : ℕ} (ei : i ≡ get_or rep a 0) (ej : j ≡ get_or rep b 0) (ef : f ≡ get_or bs i 0) (eg : g ≡ get_or bs j 0) (d : get_or rep a 0 ≢ get_or rep b 0) where
    pub code-left : {rep' : List ℕ} → f ≡ 0 → rep' ≡ join (get_or rep a 0) (get_or rep b 0) rep → Unified bs ns sib rep rep' a b (left - 1)
    code-left z e = left-loose R a b left ha hb c d (rw (← ei) (sym ef ∙ z)) e

    pub code-right : {rep' : List ℕ} → g ≡ 0 → rep' ≡ join (get_or rep b 0) (get_or rep a 0) rep → Unified bs ns sib rep rep' a b (left - 1)
    code-right z e = right-loose R a b left ha hb c d (rw (← ej) (sym eg ∙ z)) e

    pub code_apart : f ≢ 0 → g ≢ 0 → f ≢ g → Unified bs ns sib rep rep a b 0
    code_apart nf ng n = two-symbols R a b left ha hb c d (rw (← ei, ← ef) nf) (rw (← ej, ← eg) ng) (rw (← ei, ← ej, ← ef, ← eg) n)

    module _ {p q k : ℕ} {rep₁ : List ℕ} (ep : p ≡ get_or ns i 0) (eq : q ≡ get_or ns j 0) (ek : k ≡ arity f) (nf : f ≢ 0) (e : f ≡ g)
        (er : rep₁ ≡ join (get_or rep a 0) (get_or rep b 0) rep) where
      code-ready : ReadyAll bs ns sib rep₁ p q k × (classes rep₁ ≤ left - 1)
      code-ready = rw (ep, eq, ek, ef, ei, ej) (ready-args R a b left ha hb c d (rw (← ei, ← ef) nf) (rw (← ei, ← ej, ← ef, ← eg) e) er)

      pub code-args : {rep' : List ℕ} {n : ℕ} → (ReadyAll bs ns sib rep₁ p q k → classes rep₁ ≤ left - 1 → UnifiedAll bs ns sib rep₁ rep' p q k n)
          → Unified bs ns sib rep rep' a b n
      code-args u =
          by_args R a b left ha hb c d (rw (← ei, ← ef) nf) (rw (← ei, ← ej, ← ef, ← eg) e) er
          (rw (ep, eq, ek, ef, ei, ej) at (u code-ready.0 code-ready.1))
