-- 02, W-201, "OTHER at the first fact of another predicate or width", by equal bytes and widths. Meaning works out the same; that the two
-- are one is proved in proofs/Other.
use Rattle.std.specs.Prelude.{ℕ, ◌≡◌, List, [], ◌∷◌}
use Rattle.std.proofs.Math.Seq.{slice}
use Rattle.grammar.specs.Grammar.{Fact}
use Rattle.grammar.specs.Meaning.{Found, none, found}

-- two facts have one predicate and width
pub record Alike (t : List ℕ) (f g : Fact) : Type 0 where
  pub predicate : slice f.start f.end t ≡ slice g.start g.end t
  pub width : f.width ≡ g.width

-- after a first fact: where the first that is not like it begins, or there is none
pub data FirstOther (t : List ℕ) (f : Fact) : List Fact → Found → Type 0 where
  no_other : FirstOther t f [] none
  other : {g : Fact} {gs : List Fact} {k : ℕ} → (Alike t g f → ⊥) → k ≡ g.start → FirstOther t f (g ∷ gs) (found k)
  passed : {g : Fact} {gs : List Fact} {o : Found} → Alike t g f → FirstOther t f gs o → FirstOther t f (g ∷ gs) o

-- of the facts of a text, the first of which is the one that the others are compared with
abbrev pub OtherAmong : List ℕ → List Fact → Found → Type 0
OtherAmong t [] o = o ≡ none
OtherAmong t (f ∷ fs) o = FirstOther t f fs o
