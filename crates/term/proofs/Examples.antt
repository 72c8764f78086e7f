-- Worked examples of unification (01, "On both sides" and "Errors that look right"), computed by the decision procedure, and what they say of `Unifies`.
use Prim.Native.Nat.{ℕ}
use mathlib.Core.Path.{◌≡◌, refl}
use mathlib.Core.Bool.{Bool, true, false}
use mathlib.Core.List.{List, [], ◌∷◌, map}
use Rattle.cell.specs.Cell.{name_cell, variable_cell, values_at, arity, is_var}
use Rattle.term.specs.Terms.{none, more, front, back}
use Rattle.term.specs.Unify.{inst, renamed, Matches}
use Rattle.term.specs.Bind.{bind, id_s}
use Rattle.term.specs.code.Unifiable.{unifiable, unify, walk, bind_test, occurs}
use Rattle.term.proofs.Decide.{unifiable-correct, yes-means, no-means}

abbrev a : ℕ
a = name_cell 0 1

abbrev b : ℕ
b = name_cell 0 2

abbrev f1 : ℕ
f1 = name_cell 1 3

abbrev v0 : ℕ
v0 = variable_cell 0

abbrev v1 : ℕ
v1 = variable_cell 1

pub record Case : Type 0 where
  pub left : List ℕ
  pub right : List ℕ
  pub unify? : Bool

pub cases : List Case
cases =
    -- P7: goal (v0,v0) against the rows (a,b) and (a,a)
    record { left = a ∷ b ∷ []; right = renamed (v0 ∷ v0 ∷ []); unify? = false }
    ∷ record { left = a ∷ a ∷ []; right = renamed (v0 ∷ v0 ∷ []); unify? = true }
    -- (v0,v0) against (a,b), the variables on the other side
    ∷ record { left = v0 ∷ v0 ∷ []; right = a ∷ b ∷ []; unify? = false }
    -- the same number in a row and in a goal is two variables: (v0,a) against (b,v0)
    ∷ record { left = v0 ∷ a ∷ []; right = renamed (b ∷ v0 ∷ []); unify? = true }
    -- the occurs check: (v0,v0) against (v1,f1(v1))
    ∷ record { left = v0 ∷ v0 ∷ []; right = v1 ∷ f1 ∷ v1 ∷ []; unify? = false }
    -- and without it: (v0,v1) against (v1,f1(a))
    ∷ record { left = v0 ∷ v1 ∷ []; right = v1 ∷ f1 ∷ a ∷ []; unify? = true }
    -- P8: (g) against (f1(a)); f1(v0) against f1(a)
    ∷ record { left = f1 ∷ a ∷ []; right = b ∷ []; unify? = false }
    ∷ record { left = f1 ∷ a ∷ []; right = renamed (f1 ∷ v0 ∷ []); unify? = true }
    ∷ []

pub computed : map (λ (k : Case). unifiable k.left k.right) cases ≡ map (λ (k : Case). k.unify?) cases
unfolding cases unifiable unify walk bind_test occurs renamed inst bind id_s front back arity values_at is_var
computed = refl

-- P7, by the definition: row 1 unifies, row 0 does not
pub p7-hit : Matches (a ∷ a ∷ []) (v0 ∷ v0 ∷ [])
unfolding unifiable unify walk bind_test occurs renamed inst bind id_s front back arity values_at is_var
p7-hit = yes-means (unifiable-correct (a ∷ a ∷ []) (renamed (v0 ∷ v0 ∷ [])) (more {k = 1} (more {k = 0} none)) (more {k = 1} (more {k = 0} none))) refl

pub p7-miss : ¬ Matches (a ∷ b ∷ []) (v0 ∷ v0 ∷ [])
unfolding unifiable unify walk bind_test occurs renamed inst bind id_s front back arity values_at is_var
p7-miss = no-means (unifiable-correct (a ∷ b ∷ []) (renamed (v0 ∷ v0 ∷ [])) (more {k = 1} (more {k = 0} none)) (more {k = 1} (more {k = 0} none))) refl
