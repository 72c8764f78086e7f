-- Finite terms: with all terms finite there is a solution (`solution`), and every solution makes an argument shorter than what it is an
-- argument of (`kid-short`), so that none has a term below itself.
use Prim.Native.Nat.{ℕ, zero, suc, ◌+◌, ◌≤◌, ◌<◌}
use mathlib.Core.Path.{◌≡◌, refl, sym, ◌∙◌, ap, ap₂}
use mathlib.Core.Logic.{◌≢◌, ⊎_elim}
use mathlib.Core.Bool.{Bool, true, false, cond}
use mathlib.Core.List.Memᴰ
use mathlib.Core.List.{List, [], ◌∷◌, ◌++◌, head-eq_of_cons-eq, tail-eq_of_cons-eq, Memᴰ}
use native.Mathlib.Omega.{arith}
use native.Mathlib.Numerals.{one-add}
use lib.Dec.{ltb}
use lib.ListN.{length, length-append}
use borrow.Author.Tests.{ltb-true, ltb-false}
use Rattle.cell.specs.Cell.{is_var}
use Rattle.term.specs.Terms.{Terms, none}
use Rattle.term.specs.Unify.{inst, Subst}
use Rattle.term.proofs.TermsLaws.{Terms-++, terms-long}
use Rattle.term.proofs.Inst.{inst-++, inst-var, Terms-symbol}
use Rattle.term.proofs.Step.{inst-symbol}
use Rattle.table.specs.All.{All}
use Rattle.classes.specs.code.Nodes.{Nodes, owns, at, Solves, Fair, Flat, reps, Closed}
use Rattle.classes.specs.code.Finite.{Fin, bare, over, FinAll, no_more, and-more, image, images, Sort, literal, variable, Within}

-- it is one list for all nodes of a class
module _ {N : Nodes} {rep : List ℕ} where
  mutual
    unfolding image

    image-one : {r s : ℕ} (t : Fin N rep r) (u : Fin N rep s) → at rep r ≡ at rep s → image t ≡ image u
    image-one (bare z) (bare w) e = ap N.own e
    image-one (bare z) (over w l) e = absurd (w (ap N.head (sym e) ∙ z))
    image-one (over z k) (bare w) e = absurd (z (ap N.head e ∙ w))
    image-one (over {r} z k) (over {r = s} w l) e = ap₂ ◌∷◌ (ap N.head e) (images-one k l (ap (λ (n : ℕ). reps rep (N.kids n)) e))

    images-one : {rs ss : List ℕ} (t : FinAll N rep rs) (u : FinAll N rep ss) → reps rep rs ≡ reps rep ss → images t ≡ images u
    images-one no_more no_more e = refl
    images-one no_more (and-more u us) e = let z : ◌≡◌ {A = ℕ} 0 1 = cc in absurd (let y : ⊥ = omega arith in y)
    images-one (and-more t ts) no_more e = let z : ◌≡◌ {A = ℕ} 0 1 = cc in absurd (let y : ⊥ = omega arith in y)
    images-one (and-more t ts) (and-more u us) e = ap₂ ◌++◌ (image-one t u (head-eq_of_cons-eq e)) (images-one ts us (tail-eq_of_cons-eq e))

module _ {N : Nodes} (f : Fair N) {rep : List ℕ} (F : Flat rep) (node : ℕ → ℕ) (n : ℕ) (W : Within N rep node n) (c : Closed N rep) (all : (r : ℕ)
    → Fin N rep r) where
  alls : (rs : List ℕ) → FinAll N rep rs
  alls [] = no_more
  alls (r ∷ rs) = and-more (all r) (alls rs)

  opened_up : (r : ℕ) → N.head r ≢ 0 → image (all r) ≡ N.head r ∷ images (alls (N.kids r))
  unfolding image
  opened_up r nz = go (all r)
    where
      go : (t : Fin N rep r) → image t ≡ N.head r ∷ images (alls (N.kids r))
      go (bare z) = absurd (nz (sym (c r nz).0 ∙ z))
      go (over z k) = let q = c r nz in ap₂ ◌∷◌ q.0 (images-one k (alls (N.kids r)) (sym q.1))

  mutual
    unfolding image

    image-terms : {r : ℕ} (t : Fin N rep r) → Terms 1 (image t)
    image-terms (bare {r} z) = f.term (at rep r)
    image-terms (over {r} z k) = Terms-symbol (N.head (at rep r)) (rw (f.number (at rep r) z) at (images-terms k))

    images-terms : {rs : List ℕ} (t : FinAll N rep rs) → Terms (length rs) (images t)
    images-terms no_more = none
    images-terms (and-more t ts) = rw one-add at (Terms-++ (image-terms t) (images-terms ts))

  -- each variable its node's term, written out
  unfoldable pub written : ℕ → List ℕ
  written v = cond (is_var v) (image (all (node v))) (v ∷ [])

  written-good : Subst written
  unfolding written
  written-good = record { vars = λ v h. rw h (image-terms (all (node v))); symbols = λ v h. rw h }

  written-var : (v : ℕ) → is_var v ≡ true → written v ≡ image (all (node v))
  unfolding written
  written-var v h = rw h

  stands-all : (d : ℕ) → ((r : ℕ) → r < n → length (image (all r)) ≤ d → inst written (N.own r) ≡ image (all r))
      → (rs : List ℕ) → All (λ (s : ℕ). s < n) rs → length (images (alls rs)) ≤ d → inst written (owns N rs) ≡ images (alls rs)
  unfolding image owns alls inst
  stands-all d ih [] a h = refl
  stands-all d ih (r ∷ rs) a h =
      let l = length-append (image (all r)) (images (alls rs)) in
      inst-++ written (N.own r) (owns N rs) ∙ ap₂ ◌++◌ (ih r a.0 (omega arith)) (stands-all d ih rs a.1 (omega arith))

  stands-to : (d r : ℕ) → r < n → length (image (all r)) ≤ d → inst written (N.own r) ≡ image (all r)
  stands-to zero r i h = absurd (let l = terms-long (image-terms (all r)) in let z : ⊥ = omega arith in z)
  stands-to (suc d) r i h = go (W.sorts r i) (stands-to d)
    where
      go : Sort N rep node r → ((r : ℕ) → r < n → length (image (all r)) ≤ d → inst written (N.own r) ≡ image (all r))
          → inst written (N.own r) ≡ image (all r)
      go (literal nz e) ih =
          let u = opened_up r nz in
          let l : length (images (alls (N.kids r))) ≤ d = omega (arith, ap length u) in
          ap (inst written) e ∙ inst-symbol (N.head r) (owns N (N.kids r)) written-good (f.symbol r nz)
          ∙ ap (λ (l : List ℕ). N.head r ∷ l) (stands-all d ih (N.kids r) (W.kids-in r i nz) l) ∙ sym u
      go (variable v hv e S) ih = ap (inst written) e ∙ inst-var written v ∙ written-var v hv ∙ image-one (all (node v)) (all r) (sym S)

  stands : (r : ℕ) → r < n → inst written (N.own r) ≡ image (all r)
  stands r i = stands-to (length (image (all r))) r i (omega arith)

  -- with all terms finite there is a solution
  pub solution : Solves N rep written
  solution = record {
    good = written-good;
    classes = λ r. by-test r
        (λ i. stands r i ∙ image-one (all r) (all (at rep r)) (sym (F.fixed r)) ∙ sym (stands (at rep r) (W.rep_in r i)))
        (λ i. ap (λ (s : ℕ). inst written (N.own s)) (sym (W.out r i).0));
    heads = λ r nz. by-test r
        (λ i. stands r i ∙ opened_up r nz ∙ ap (λ (l : List ℕ). N.head r ∷ l)
        (sym (stands-all (length (images (alls (N.kids r)))) (λ q j h. stands q j) (N.kids r) (W.kids-in r i nz) (omega arith))))
        (λ i. absurd (nz (W.out r i).1));
  }
    where
      by-test : (r : ℕ) {P : Type 0} → (r < n → P) → (n ≤ r → P) → P
      by-test r {P} f g = go (ltb r n) refl
        where
          go : (b : Bool) → ltb r n ≡ b → P
          go true e = f (ltb-true r n e)
          go false e = g (ltb-false r n e)

-- THE OCCURS CHECK. An argument is shorter than what it is an argument of.
module _ {N : Nodes} {τ : ℕ → List ℕ} {rep : List ℕ} (s : Solves N rep τ) where
  mem-short : (rs : List ℕ) (q : ℕ) → Memᴰ q rs → length (inst τ (N.own q)) ≤ length (inst τ (owns N rs))
  unfolding owns
  mem-short [] q m = absurd (Memᴰ.not-nil m)
  mem-short (r ∷ rs) q m =
      let e : length (inst τ (N.own r ++ owns N rs)) ≡ length (inst τ (N.own r)) + length (inst τ (owns N rs))
      = ap length (inst-++ τ (N.own r) (owns N rs)) ∙ length-append (inst τ (N.own r)) (inst τ (owns N rs)) in
      ⊎_elim (λ p. let z : length (inst τ (N.own q)) ≡ length (inst τ (N.own r)) = ap (λ (n : ℕ). length (inst τ (N.own n))) p in omega arith)
      (λ p. let z = mem-short rs q p in omega arith) (Memᴰ.cases_cons m)

  pub kid-short : (r q : ℕ) → N.head (at rep r) ≢ 0 → Memᴰ q (N.kids (at rep r)) → length (inst τ (N.own q)) < length (inst τ (N.own r))
  kid-short r q nz m =
      let z = mem-short (N.kids (at rep r)) q m in
      omega (arith, ap length (s.classes r ∙ s.heads (at rep r) nz))
