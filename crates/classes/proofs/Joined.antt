-- What joining classes means, for every substitution at once: `merged` and `unmerged` say that the joined classes say exactly what the
-- equation of the two terms says, `failed` that nothing solves it where the symbols clash, `closed` what classes are afterwards.
use Prim.Native.Nat.{ℕ, zero, suc, ◌≤◌, ◌<◌}
use mathlib.Core.Path.{◌≡◌, refl, sym, ◌∙◌, ap, ap₂}
use mathlib.Core.Logic.{◌≢◌, by_cases}
use mathlib.Core.Bool.{Bool, true, false}
use mathlib.Core.List.{List, [], ◌∷◌, map, head-eq_of_cons-eq, tail-eq_of_cons-eq, ◌++◌}
use native.Mathlib.Omega.{arith}
use native.Mathlib.Decide.{ℕ_discrete}
use lib.Dec.{ltb}
use lib.ListN.{length, get_or, length-map}
use borrow.Author.Tests.{eq-eqb, ne_eqb, ltb-true, ltb-false}
use Rattle.term.specs.Unify.{inst}
use Rattle.term.proofs.TermsLaws.{prefix}
use Rattle.term.proofs.Inst.{inst-++, Terms-inst}
use Rattle.classes.specs.code.Nodes.{Nodes, owns, at, to, join, Solves, Fair, Flat, Merges, same, loose, bound, alike, MergesAll, nil, cons}
use Rattle.classes.specs.code.Nodes.{Fails, clash, within, FailsAll, first, later, reps, ClosedTo, Closed}

-- Joining, node by node.

to-here : (x y : ℕ) → to x y x ≡ y
to-here x y = rw (eq-eqb x x refl)

to-other : (x y z : ℕ) → z ≢ x → to x y z ≡ z
to-other x y z h = rw (ne_eqb z x h)

get_d-in : (g : ℕ → ℕ) (l : List ℕ) (n d e : ℕ) → n < length l → get_or (map g l) n d ≡ g (get_or l n e)
get_d-in g [] n d e h = absurd (let z : ⊥ = omega arith in z)
get_d-in g (c ∷ l) zero d e h = refl
get_d-in g (c ∷ l) (suc n) d e h = get_d-in g l n d e (omega arith)

pub get_d_past : (l : List ℕ) (n d : ℕ) → length l ≤ n → get_or l n d ≡ d
get_d_past [] n d h = refl
get_d_past (c ∷ l) zero d h = absurd (let z : ⊥ = omega arith in z)
get_d_past (c ∷ l) (suc n) d h = get_d_past l n d (omega arith)

pub length-join : (x y : ℕ) (rep : List ℕ) → length (join x y rep) ≡ length rep
unfolding join
length-join x y [] = refl
length-join x y (c ∷ rep) = ap suc (length-join x y rep)

at_join : (rep : List ℕ) (x y r : ℕ) → x < length rep → at (join x y rep) r ≡ to x y (at rep r)
unfolding join
at_join rep x y r h = go (ltb r (length rep)) refl
  where
    go : (b : Bool) → ltb r (length rep) ≡ b → get_or (map (to x y) rep) r r ≡ to x y (get_or rep r r)
    go true e = get_d-in (to x y) rep r r r (ltb-true r (length rep) e)
    go false e =
        let l = ltb-false r (length rep) e in
        let n : r ≢ x = λ q. (let z : ⊥ = omega arith in z) in
        get_d_past (map (to x y) rep) r r (omega (arith, length-map rep (to x y))) ∙ sym (ap (to x y) (get_d_past rep r r l) ∙ to-other x y r n)

-- a node of the class of x, and any other
pub join-here : (rep : List ℕ) (x y r : ℕ) → x < length rep → at rep r ≡ x → at (join x y rep) r ≡ y
join-here rep x y r h e = at_join rep x y r h ∙ ap (to x y) e ∙ to-here x y

pub join-other : (rep : List ℕ) (x y r : ℕ) → x < length rep → at rep r ≢ x → at (join x y rep) r ≡ at rep r
join-other rep x y r h n = at_join rep x y r h ∙ to-other x y (at rep r) n

-- what τ makes of a node, and of some
abbrev pub val : Nodes → (ℕ → List ℕ) → ℕ → List ℕ
val N τ r = inst τ (N.own r)

abbrev pub vals : Nodes → (ℕ → List ℕ) → List ℕ → List ℕ
vals N τ rs = inst τ (owns N rs)

rest-first : (N : Nodes) (τ : ℕ → List ℕ) (a b : ℕ) (xs ys : List ℕ) → val N τ a ≡ val N τ b → vals N τ xs ≡ vals N τ ys → vals N τ (a ∷ xs) ≡ vals N τ (b ∷ ys)
unfolding owns
rest-first N τ a b xs ys e e' = inst-++ τ (N.own a) (owns N xs) ∙ ap₂ ◌++◌ e e' ∙ sym (inst-++ τ (N.own b) (owns N ys))

module _ {N : Nodes} (f : Fair N) {τ : ℕ → List ℕ} where
  -- one joining says that its two ends are equal, and nothing else
  join_more : {rep : List ℕ} (x y : ℕ) → x < length rep → Solves N rep τ → val N τ x ≡ val N τ y → Solves N (join x y rep) τ
  join_more {rep} x y h s e = record {
    good = s.good;
    classes = λ r. by_cases (ℕ_discrete (at rep r) x)
        (λ q. rw (join-here rep x y r h q) (s.classes r ∙ ap (val N τ) q ∙ e)) (λ q. rw (join-other rep x y r h q) (s.classes r));
    heads = s.heads;
  }

  join-less : {rep : List ℕ} (x y : ℕ) → x < length rep → at rep x ≡ x → Solves N (join x y rep) τ → Solves N rep τ × (val N τ x ≡ val N τ y)
  join-less {rep} x y h fix s =
      let e : val N τ x ≡ val N τ y = s.classes x ∙ ap (val N τ) (join-here rep x y x h fix) in (
        record {
          good = s.good;
          classes = λ r. by_cases (ℕ_discrete (at rep r) x)
              (λ q. s.classes r ∙ ap (val N τ) (join-here rep x y r h q) ∙ sym e ∙ ap (val N τ) (sym q)) (λ q. s.classes r
              ∙ ap (val N τ) (join-other rep x y r h q));
          heads = s.heads;
        },
        e,
      )

  -- equal terms with a symbol have the same symbol, and equal arguments
  same_head : {rep : List ℕ} {x y : ℕ} → Solves N rep τ → N.head x ≢ 0 → N.head y ≢ 0 → val N τ x ≡ val N τ y
      → (N.head x ≡ N.head y) × (vals N τ (N.kids x) ≡ vals N τ (N.kids y))
  same_head {x = x} {y} s nx ny e =
      let q = sym (s.heads x nx) ∙ e ∙ s.heads y ny in (head-eq_of_cons-eq q, tail-eq_of_cons-eq q)

  first_rest : {rep : List ℕ} (a b : ℕ) (xs ys : List ℕ) → Solves N rep τ → (vals N τ (a ∷ xs) ≡ vals N τ (b ∷ ys))
      → (val N τ a ≡ val N τ b) × (vals N τ xs ≡ vals N τ ys)
  unfolding owns
  first_rest a b xs ys s e =
      prefix (vals N τ xs) (vals N τ ys) (Terms-inst s.good (f.term a)) (Terms-inst s.good (f.term b))
      (sym (inst-++ τ (N.own a) (owns N xs)) ∙ e ∙ inst-++ τ (N.own b) (owns N ys))

  ends_same : {rep : List ℕ} (a b : ℕ) → Solves N rep τ → val N τ a ≡ val N τ b → val N τ (at rep a) ≡ val N τ (at rep b)
  ends_same a b s e = sym (s.classes a) ∙ e ∙ s.classes b

  ends-back : {rep : List ℕ} (a b : ℕ) → Solves N rep τ → val N τ (at rep a) ≡ val N τ (at rep b) → val N τ a ≡ val N τ b
  ends-back a b s e = s.classes a ∙ e ∙ sym (s.classes b)

  -- COMPLETE: what solves the equation solves the classes
  mutual
    pub merged : {rep rep' : List ℕ} {a b : ℕ} → Merges N rep a b rep' → Solves N rep τ → val N τ a ≡ val N τ b → Solves N rep' τ
    merged (same e i) s q = rw i s
    merged (loose {rep} {a = a} {b} d h z i) s q = rw i (join_more (at rep a) (at rep b) h s (ends_same a b s q))
    merged (bound {rep} {a = a} {b} d h z i) s q = rw i (join_more (at rep b) (at rep a) h s (sym (ends_same a b s q)))
    merged (alike {rep} {a = a} {b} d h nz e w) s q =
        let ex = ends_same a b s q in
        merged-all w (join_more (at rep a) (at rep b) h s ex) (same_head s nz (λ o. nz (e ∙ o)) ex).1

    merged-all : {rep rep' xs ys : List ℕ} → MergesAll N rep xs ys rep' → Solves N rep τ → vals N τ xs ≡ vals N τ ys → Solves N rep' τ
    merged-all (nil i) s q = rw i s
    merged-all (cons {a = a} {b} {xs} {ys} m w) s q =
        let x = first_rest a b xs ys s q in
        merged-all w (merged m s x.0) x.1

  -- where the two functions fail, nothing solves the equation
  mutual
    pub failed : {rep : List ℕ} {a b : ℕ} → Fails N rep a b → Solves N rep τ → val N τ a ≢ val N τ b
    failed (clash {rep} {a} {b} nx ny d) s q = d (same_head s nx ny (ends_same a b s q)).0
    failed (within {rep} {a} {b} h nz e w) s q =
        let ex = ends_same a b s q in
        failed-all w (join_more (at rep a) (at rep b) h s ex) (same_head s nz (λ o. nz (e ∙ o)) ex).1

    failed-all : {rep xs ys : List ℕ} → FailsAll N rep xs ys → Solves N rep τ → vals N τ xs ≢ vals N τ ys
    failed-all (first {a = a} {b} {xs} {ys} m) s q = failed m s (first_rest a b xs ys s q).0
    failed-all (later {a = a} {b} {xs} {ys} m w) s q =
        let x = first_rest a b xs ys s q in
        failed-all w (merged m s x.0) x.1

-- Classes stay flat.

pub flat-join : {rep : List ℕ} (x y : ℕ) → Flat rep → x < length rep → at rep y ≡ y → x ≢ y → Flat (join x y rep)
flat-join {rep} x y F h fy d = record {
  fixed = λ r. by_cases (ℕ_discrete (at rep r) x)
      (λ q. rw (join-here rep x y r h q) (join-other rep x y y h (λ o. d (sym (sym fy ∙ o))) ∙ fy))
      (λ q. rw (join-other rep x y r h q) (join-other rep x y (at rep r) h (λ o. q (sym (F.fixed r) ∙ o)) ∙ F.fixed r));
}

module _ {N : Nodes} where
  mutual
    pub flat-merges : {rep rep' : List ℕ} {a b : ℕ} → Flat rep → Merges N rep a b rep' → Flat rep'
    flat-merges F (same e i) = rw i F
    flat-merges F (loose {rep} {a = a} {b} d h z i) = rw i (flat-join (at rep a) (at rep b) F h (F.fixed b) d)
    flat-merges F (bound {rep} {a = a} {b} d h z i) = rw i (flat-join (at rep b) (at rep a) F h (F.fixed a) (λ e. d (sym e)))
    flat-merges F (alike {rep} {a = a} {b} d h nz e w) = flat-all (flat-join (at rep a) (at rep b) F h (F.fixed b) d) w

    flat-all : {rep rep' xs ys : List ℕ} → Flat rep → MergesAll N rep xs ys rep' → Flat rep'
    flat-all F (nil i) = rw i F
    flat-all F (cons m w) = flat-all (flat-merges F m) w

module _ {N : Nodes} (f : Fair N) {τ : ℕ → List ℕ} where
  -- SOUND: what solves the classes solves the equation
  mutual
    pub unmerged : {rep rep' : List ℕ} {a b : ℕ} → Flat rep → Merges N rep a b rep' → Solves N rep' τ → Solves N rep τ × (inst τ (N.own a) ≡ inst τ (N.own b))
    unmerged F (same {rep} {a = a} {b} e i) s₀ = let s = rw i at s₀ in (s, s.classes a ∙ ap (λ (r : ℕ). inst τ (N.own r)) e ∙ sym (s.classes b))
    unmerged F (loose {rep} {a = a} {b} d h z i) s =
        let t = join-less f (at rep a) (at rep b) h (F.fixed a) (rw i at s) in
        (t.0, ends-back f a b t.0 t.1)
    unmerged F (bound {rep} {a = a} {b} d h z i) s =
        let t = join-less f (at rep b) (at rep a) h (F.fixed b) (rw i at s) in
        (t.0, ends-back f a b t.0 (sym t.1))
    unmerged F (alike {rep} {a = a} {b} d h nz e w) s =
        let u = unmerged-all (flat-join (at rep a) (at rep b) F h (F.fixed b) d) w s in
        let t = join-less f (at rep a) (at rep b) h (F.fixed a) u.0 in
        (t.0, ends-back f a b t.0 t.1)

    unmerged-all : {rep rep' xs ys : List ℕ} → Flat rep → MergesAll N rep xs ys rep' → Solves N rep' τ
        → Solves N rep τ × (inst τ (owns N xs) ≡ inst τ (owns N ys))
    unmerged-all F (nil i) s = (rw i at s, refl)
    unmerged-all F (cons {a = a} {b} {xs} {ys} m w) s =
        let t = unmerged-all (flat-merges F m) w s in
        let u = unmerged F m t.0 in
        (u.0, rest-first N τ a b xs ys u.1 t.1)

-- CLASSES AFTERWARDS.

-- classes only grow
abbrev pub Grows : (rep rep' : List ℕ) → Type 0
Grows rep rep' = (r s : ℕ) → at rep r ≡ at rep s → at rep' r ≡ at rep' s

pub grows-join : (rep : List ℕ) (x y : ℕ) → x < length rep → Grows rep (join x y rep)
grows-join rep x y h r s e = at_join rep x y r h ∙ ap (to x y) e ∙ sym (at_join rep x y s h)

grow-all : (rep rep' : List ℕ) → Grows rep rep' → (rs ss : List ℕ) → reps rep rs ≡ reps rep ss → reps rep' rs ≡ reps rep' ss
grow-all rep rep' g [] [] e = refl
grow-all rep rep' g [] (s ∷ ss) e = let z : ◌≡◌ {A = ℕ} 0 1 = cc in absurd (let y : ⊥ = omega arith in y)
grow-all rep rep' g (r ∷ rs) [] e = let z : ◌≡◌ {A = ℕ} 0 1 = cc in absurd (let y : ⊥ = omega arith in y)
grow-all rep rep' g (r ∷ rs) (s ∷ ss) e = ap₂ ◌∷◌ (g r s (head-eq_of_cons-eq e)) (grow-all rep rep' g rs ss (tail-eq_of_cons-eq e))

-- what is joined is in one class
pub joined-ends : (rep : List ℕ) (a b : ℕ) → at rep a < length rep → at rep a ≢ at rep b
    → at (join (at rep a) (at rep b) rep) a ≡ at (join (at rep a) (at rep b) rep) b
joined-ends rep a b h d = join-here rep (at rep a) (at rep b) a h refl ∙ sym (join-other rep (at rep a) (at rep b) b h (λ e. d (sym e)))

keeps-loose : (N : Nodes) (rep fin : List ℕ) (x y : ℕ) → x < length rep → N.head x ≡ 0 → ClosedTo N fin rep → ClosedTo N fin (join x y rep)
keeps-loose N rep fin x y h z c r nz = by_cases (ℕ_discrete (at rep r) x)
    (λ q. absurd (nz (sym (c r nz).0 ∙ ap N.head q ∙ z)))
    (λ q. rw (join-other rep x y r h q) (c r nz))

keeps-alike : (N : Nodes) (rep fin : List ℕ) (x y : ℕ) → x < length rep → N.head x ≡ N.head y → reps fin (N.kids x) ≡ reps fin (N.kids y)
    → ClosedTo N fin rep → ClosedTo N fin (join x y rep)
keeps-alike N rep fin x y h e k c r nz = by_cases (ℕ_discrete (at rep r) x)
    (λ q. rw (join-here rep x y r h q) (sym e ∙ ap N.head (sym q) ∙ (c r nz).0, (c r nz).1 ∙ ap (λ (n : ℕ). reps fin (N.kids n)) q ∙ k))
    (λ q. rw (join-other rep x y r h q) (c r nz))

module _ {N : Nodes} where
  mutual
    pub grows : {rep rep' : List ℕ} {a b : ℕ} → Merges N rep a b rep' → Grows rep rep'
    grows (same e i) r s q = rw i q
    grows (loose {rep} {a = a} {b} d h z i) r s q = rw i (grows-join rep (at rep a) (at rep b) h r s q)
    grows (bound {rep} {a = a} {b} d h z i) r s q = rw i (grows-join rep (at rep b) (at rep a) h r s q)
    grows (alike {rep} {a = a} {b} d h nz e w) r s q = grows_all w r s (grows-join rep (at rep a) (at rep b) h r s q)

    pub grows_all : {rep rep' xs ys : List ℕ} → MergesAll N rep xs ys rep' → Grows rep rep'
    grows_all (nil i) r s q = rw i q
    grows_all (cons m w) r s q = grows_all w r s (grows m r s q)

  pub joined : {rep rep' : List ℕ} {a b : ℕ} → Merges N rep a b rep' → at rep' a ≡ at rep' b
  joined (same e i) = rw i e
  joined (loose {rep} {a = a} {b} d h z i) = rw i (joined-ends rep a b h d)
  joined (bound {rep} {a = a} {b} d h z i) = rw i (sym (joined-ends rep b a h (λ e. d (sym e))))
  joined (alike {rep} {a = a} {b} d h nz e w) = grows_all w a b (joined-ends rep a b h d)

  joined-all : {rep rep' xs ys : List ℕ} → MergesAll N rep xs ys rep' → reps rep' xs ≡ reps rep' ys
  joined-all (nil i) = refl
  joined-all (cons {a = a} {b} m w) = ap₂ ◌∷◌ (grows_all w a b (joined m)) (joined-all w)

  mutual
    keeps : {rep rep' : List ℕ} {a b : ℕ} (fin : List ℕ) → Merges N rep a b rep' → Grows rep' fin → ClosedTo N fin rep → ClosedTo N fin rep'
    keeps fin (same e i) g c = rw i c
    keeps fin (loose {rep} {a = a} {b} d h z i) g c = rw i (keeps-loose N rep fin (at rep a) (at rep b) h z c)
    keeps fin (bound {rep} {a = a} {b} d h z i) g c = rw i (keeps-loose N rep fin (at rep b) (at rep a) h z c)
    keeps fin (alike {rep} {rep'} {a} {b} d h nz e w) g c =
        keeps-all fin w g (keeps-alike N rep fin (at rep a) (at rep b) h e (grow-all rep' fin g (N.kids (at rep a)) (N.kids (at rep b)) (joined-all w)) c)

    keeps-all : {rep rep' xs ys : List ℕ} (fin : List ℕ) → MergesAll N rep xs ys rep' → Grows rep' fin → ClosedTo N fin rep → ClosedTo N fin rep'
    keeps-all fin (nil i) g c = rw i c
    keeps-all fin (cons m w) g c = keeps-all fin w g (keeps fin m (λ r s q. g r s (grows_all w r s q)) c)

  pub closed : {rep rep' : List ℕ} {a b : ℕ} → Merges N rep a b rep' → Closed N rep → Closed N rep'
  closed {rep} {rep'} m c = keeps rep' m (λ r s q. q) (λ r nz. let k = c r nz in (k.0, grow-all rep rep' (grows m) (N.kids r) (N.kids (at rep r)) k.1))
