-- Two results that a promise allows are equal, for every text and place.
use Prim.Native.Nat.{ℕ}
use mathlib.Core.Path.{◌≡◌, refl, sym, ◌∙◌}
use mathlib.Core.Bool.{Bool, true, false}
use mathlib.Core.List.{List}
use Rattle.lex.specs.Turns.{Turns}
use Rattle.lex.specs.Heads.{Heads, Closes}
use Rattle.lex.specs.Names.{NameSaid}
use Rattle.lex.specs.declared.turn.Turn.{Turn}
use Rattle.lex.specs.declared.fact.Head.{Head}
use Rattle.lex.specs.declared.Stop.{Stop}
use Rattle.std.specs.Prelude.{Result}

pub turn-fixed : {t : List ℕ} {at : ℕ} {past : Bool} {a b : Turn} → Turns t at past a → Turns t at past b → a ≡ b
turn-fixed x y = x.is ∙ sym y.is

pub head_fixed : {t : List ℕ} {at : ℕ} {first : Bool} {a b : Head} → Heads t at first a → Heads t at first b → a ≡ b
head_fixed x y = x.is ∙ sym y.is

pub end-fixed : {t : List ℕ} {at : ℕ} {a b : Result ℕ Stop} → Closes t at a → Closes t at b → a ≡ b
end-fixed x y = x.is ∙ sym y.is

pub name-fixed : (t : List ℕ) (start bytes : ℕ) (a b : Bool) → NameSaid t start bytes a → NameSaid t start bytes b → a ≡ b
name-fixed t start bytes true true x y = refl
name-fixed t start bytes true false x y = absurd (y x.0 x.1)
name-fixed t start bytes false true x y = absurd (x y.0 y.1)
name-fixed t start bytes false false x y = refl
