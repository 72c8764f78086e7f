-- Whether two lists of terms unify, by computation: cell by cell, a variable replaced by the term across from it. That it is so exactly where
-- a substitution makes them one is `unifiable-correct` of proofs/Decide.
use Rattle.std.specs.Prelude.{ℕ, zero, suc, Bool, true, false, cond, List, [], ◌∷◌, ◌++◌, eqb, length}
use Rattle.cell.specs.Cell.{is_var}
use Rattle.term.specs.Terms.{front, back}
use Rattle.term.specs.Unify.{inst}
use Rattle.term.specs.Bind.{id_s, bind}

unfoldable pub occurs : ℕ → List ℕ → Bool
occurs v [] = false
occurs v (c ∷ xs) = let r = occurs v xs in cond (eqb v c) true r

-- a variable against what is across from it
unfoldable pub bind_test : (List ℕ → List ℕ → Bool) → ℕ → List ℕ → List ℕ → Bool
bind_test rec v xs ys =
    let t = front 1 ys in
    let r = rec (inst (bind v t id_s) xs) (inst (bind v t id_s) (back 1 ys)) in
    cond (occurs v t) false r

unfoldable pub walk : (List ℕ → List ℕ → Bool) → List ℕ → List ℕ → Bool
walk rec [] ys = true
walk rec (c ∷ xs) [] = false
walk rec (c ∷ xs) (d ∷ ys) =
    let deeper = walk rec xs ys in
    let left = bind_test rec c xs (d ∷ ys) in
    let right = bind_test rec d ys (c ∷ xs) in
    let last = cond (is_var d) right false in
    let other = cond (is_var c) left last in
    cond (eqb c d) deeper other

unfoldable pub unify : ℕ → List ℕ → List ℕ → Bool
unify zero = walk (λ xs ys. false)
unify (suc n) = walk (unify n)

unfoldable pub unifiable : List ℕ → List ℕ → Bool
unifiable xs ys = unify (length (xs ++ ys)) xs ys
