-- Where a search starts: after two terms are joined, all terms are finite as soon as the joined one is.
use Prim.Native.Nat.{ℕ}
use mathlib.Core.Path.{◌≡◌, refl, sym, ◌∙◌}
use mathlib.Core.Logic.{◌≢◌, ◌⊎◌, inl, inr, ⊎_elim, by_cases}
use mathlib.Core.List.{List, [], ◌∷◌, head-eq_of_cons-eq, tail-eq_of_cons-eq}
use native.Mathlib.Decide.{ℕ_discrete}
use native.Mathlib.Omega.{arith}
use Rattle.classes.specs.code.Nodes.{Nodes, at, Flat, Merges, same, loose, bound, alike, MergesAll, nil, cons, reps, Closed}
use Rattle.classes.specs.code.Finite.{Fin, bare, over, FinAll, no_more, and-more}
use Rattle.classes.proofs.Joined.{join-other, grows-join, joined-ends, Grows, grows_all, closed, flat-join, flat-merges}

module _ {N : Nodes} {fin : List ℕ} where
  -- nodes of one class are finite together
  pub fin-class : {r s : ℕ} → at fin r ≡ at fin s → Fin N fin r → Fin N fin s
  fin-class {r} {s} e (bare z) = bare {r = s} (rw e at z)
  fin-class {r} {s} e (over z k) = over {r = s} (rw e at z) (rw e at k)

  fins-class : (rs ss : List ℕ) → reps fin rs ≡ reps fin ss → FinAll N fin rs → FinAll N fin ss
  fins-class [] [] e k = no_more
  fins-class [] (s ∷ ss) e k = let z : ◌≡◌ {A = ℕ} 0 1 = cc in absurd (let y : ⊥ = omega arith in y)
  fins-class (r ∷ rs) [] e k = let z : ◌≡◌ {A = ℕ} 0 1 = cc in absurd (let y : ⊥ = omega arith in y)
  fins-class (r ∷ rs) (s ∷ ss) e (and-more t ts) = and-more (fin-class (head-eq_of_cons-eq e) t) (fins-class rs ss (tail-eq_of_cons-eq e) ts)

  under : {a : ℕ} → Fin N fin a → N.head (at fin a) ≢ 0 → FinAll N fin (N.kids (at fin a))
  under (bare z) nz = absurd (nz z)
  under (over z k) nz = k

  module _ (C : Closed N fin) where
    -- the arguments of a node whose class has a finite term
    kids-fin : (x a : ℕ) → at fin x ≡ at fin a → N.head x ≢ 0 → Fin N fin a → FinAll N fin (N.kids x)
    kids-fin x a e nz t =
        let c = C x nz in
        fins-class (N.kids (at fin a)) (N.kids x) (rw (← e) (sym c.1)) (under t (rw (← e) (λ z. nz (sym c.0 ∙ z))))

    -- a node whose class is another one now is in a class that the search comes to
    mutual
      moved : {rep rep' : List ℕ} {a b : ℕ} → Flat rep → Merges N rep a b rep' → Grows rep' fin → Fin N fin a → (r : ℕ) → (at rep' r ≡ at rep r) ⊎ Fin N fin r
      moved F (same e i) g t r = inl (rw i refl)
      moved F (loose {rep} {a = a} {b} d h z i) g t r = by_cases (ℕ_discrete (at rep r) (at rep a))
          (λ q. inr (fin-class (sym (g r a (rw i (grows-join rep (at rep a) (at rep b) h r a q)))) t))
          (λ q. inl (rw i (join-other rep (at rep a) (at rep b) r h q)))
      moved F (bound {rep} {a = a} {b} d h z i) g t r = by_cases (ℕ_discrete (at rep r) (at rep b))
          (λ q. inr (fin-class (sym (g r b (rw i (grows-join rep (at rep b) (at rep a) h r b q)) ∙ g b a (rw i (joined-ends rep b a h (λ e. d (sym e)))))) t))
          (λ q. inl (rw i (join-other rep (at rep b) (at rep a) r h q)))
      moved F (alike {rep} {rep'} {a} {b} d h nz e w) g t r =
          let step : Grows rep fin = λ p q o. g p q (grows_all w p q (grows-join rep (at rep a) (at rep b) h p q o)) in
          by_cases (ℕ_discrete (at rep r) (at rep a))
          (λ q. inr (fin-class (sym (step r a q)) t))
          (λ q. let o = moved_all (flat-join (at rep a) (at rep b) F h (F.fixed b) d) w g (kids-fin (at rep a) a (step (at rep a) a (F.fixed a)) nz t) r in
          ⊎_elim (λ p. inl (p ∙ join-other rep (at rep a) (at rep b) r h q)) (λ p. inr p) o)

      moved_all : {rep rep' xs ys : List ℕ} → Flat rep → MergesAll N rep xs ys rep' → Grows rep' fin → FinAll N fin xs → (r : ℕ)
          → (at rep' r ≡ at rep r) ⊎ Fin N fin r
      moved_all F (nil i) g k r = inl (rw i refl)
      moved_all F (cons m w) g (and-more t ts) r =
          ⊎_elim
          (λ p. ⊎_elim (λ q. inl (q ∙ p)) (λ q. inr q) (moved_all (flat-merges F m) w g ts r))
          (λ p. inr p)
          (moved F m (λ p q o. g p q (grows_all w p q o)) t r)

module _ {N : Nodes} {rep rep' : List ℕ} {a b : ℕ} (F : Flat rep) (C : Closed N rep) (m : Merges N rep a b rep') (t : Fin N rep' a) where
  mutual
    pub fin-merged : {r : ℕ} → Fin N rep r → Fin N rep' r
    fin-merged (bare {r} z) = ⊎_elim (λ e. bare {r = r} (rw e z)) (λ f. f) (moved (closed m C) F m (λ p q o. o) t r)
    fin-merged (over {r} z k) = ⊎_elim (λ e. over {r = r} (rw e z) (rw e (fins-merged k))) (λ f. f) (moved (closed m C) F m (λ p q o. o) t r)

    fins-merged : {rs : List ℕ} → FinAll N rep rs → FinAll N rep' rs
    fins-merged no_more = no_more
    fins-merged (and-more u us) = and-more (fin-merged u) (fins-merged us)
