-- The fact that is refused as OTHER is the one that 02 says (specs/Other), and no other is.
use Prim.Native.Nat.{ℕ}
use mathlib.Core.Path.{◌≡◌, refl, sym, ap, subst}
use mathlib.Core.Bool.{Bool, true, false, cond, ◌&&◌}
use mathlib.Core.List.{List, [], ◌∷◌}
use mathlib.Core.Logic.{◌↔◌}
use lib.Dec.{eqb}
use lib.Seq.{slice}
use borrow.Author.Tests.{eqb-true, eqb-false}
use Rattle.grammar.specs.Grammar.{Fact}
use Rattle.cell.specs.Same.{same}
use Rattle.grammar.specs.Meaning.{Found, found, alike, other_than, other_in}
use Rattle.grammar.specs.Other.{Alike, FirstOther, no_other, other, passed, OtherAmong}
use Rattle.cell.proofs.SameLaws.{same-eq, same-differ}

-- a test that decides
data Decides (P : Type 0) : Bool → Type 0 where
  yes-it-is : P → Decides P true
  no-it-is-not : (P → ⊥) → Decides P false

alike-decides : (t : List ℕ) (f g : Fact) → Decides (Alike t f g) (alike t f g)
alike-decides t f g = go (eqb f.width g.width) (same (slice f.start f.end t) (slice g.start g.end t)) refl refl
  where
    go : (a b : Bool) → eqb f.width g.width ≡ a → same (slice f.start f.end t) (slice g.start g.end t) ≡ b
        → Decides (Alike t f g) (a && b)
    go true true w p = yes-it-is (record { width = eqb-true f.width g.width w; predicate = same-eq _ _ p })
    go true false w p = no-it-is-not (λ l. same-differ _ _ p l.predicate)
    go false b w p = no-it-is-not (λ l. eqb-false f.width g.width w l.width)

module _ (t : List ℕ) (f : Fact) where
  other-found : {gs : List Fact} {o : Found} → FirstOther t f gs o → other_than t f gs ≡ o
  unfolding other_than
  other-found no_other = refl
  other-found (other {g = g} {gs = gs} {k = k} n e) = go (alike t g f) (alike-decides t g f)
    where
      go : (b : Bool) → Decides (Alike t g f) b → cond b (other_than t f gs) (found g.start) ≡ found k
      go true (yes-it-is l) = absurd (n l)
      go false (no-it-is-not m) = ap found (sym e)
  other-found (passed {g = g} {gs = gs} {o = o} l r) = go (alike t g f) (alike-decides t g f) (other-found r)
    where
      go : (b : Bool) → Decides (Alike t g f) b → other_than t f gs ≡ o → cond b (other_than t f gs) (found g.start) ≡ o
      go true (yes-it-is m) q = q
      go false (no-it-is-not n) q = absurd (n l)

  other-holds : (gs : List Fact) → FirstOther t f gs (other_than t f gs)
  unfolding other_than
  other-holds [] = no_other
  other-holds (g ∷ gs) = go (alike t g f) (alike-decides t g f) (other-holds gs)
    where
      go : (b : Bool) → Decides (Alike t g f) b → FirstOther t f gs (other_than t f gs)
          → FirstOther t f (g ∷ gs) (cond b (other_than t f gs) (found g.start))
      go true (yes-it-is l) r = passed l r
      go false (no-it-is-not n) r = other n refl

-- "OTHER at the first fact of another predicate or width": it is that one
pub other-is : (t : List ℕ) (f : Fact) (fs : List Fact) (o : Found) → FirstOther t f fs o ↔ (other_in t (f ∷ fs) ≡ o)
unfolding other_in
other-is t f fs o = (other-found t f, λ e. subst (FirstOther t f fs) e (other-holds t f fs))

-- and so for any facts
pub other-among : (t : List ℕ) (fs : List Fact) (o : Found) → OtherAmong t fs o ↔ (other_in t fs ≡ o)
unfolding other_in
other-among t [] o = (sym, sym)
other-among t (f ∷ fs) o = other-is t f fs o
