-- One decision of a run, as a function of what is left of the goal. The state of the code is described by it (crate walking, specs/code/Walk);
-- no promise of a public function cites it, and what it has to do with unification is proved (proofs/AfterLaws).
use Rattle.std.specs.Prelude.{ℕ, cond, List, [], ◌∷◌, ◌++◌, eqb}
use Rattle.cell.specs.Cell.{arity, is_var}
use Rattle.term.specs.Terms.{front, back}
use Rattle.term.specs.Unify.{inst}
use Rattle.term.specs.Bind.{bind, id_s}
use Rattle.table.specs.Table.{up_from}

-- what is left of the goal: nothing where a test fails, otherwise the terms that stand at the open places
pub data Left : Type 0 where
  stuck : Left
  left : List ℕ → Left

-- a symbol c of the row against the goal's terms from the place on, A before it, fresh variables being numbered from n:
-- a variable there is bound to the symbol over fresh variables; another symbol ends the branch
unfoldable pub meet : (n c : ℕ) → List ℕ → List ℕ → Left
meet n c A [] = stuck
meet n c A (d ∷ D) =
    let ws = up_from n (arity c) in
    let bound = left (inst (bind d (c ∷ ws) id_s) A ++ (ws ++ inst (bind d (c ∷ ws) id_s) D)) in
    let other = cond (eqb c d) (left (A ++ D)) stuck in
    cond (is_var d) bound other

-- the cell c decided at place i of the goal's terms R: a row's variable takes the term that stands there
unfoldable pub after : (n i c : ℕ) → List ℕ → Left
after n i c R =
    let off = left (front i R ++ back 1 (back i R)) in
    let on = meet n c (front i R) (back i R) in
    cond (is_var c) off on
