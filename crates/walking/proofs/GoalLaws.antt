-- The goal's tables as the code fills them: the table of steps from the last cell to the first, the nodes from the first cell on.
use Prim.Native.Nat.{ℕ, zero, suc, ◌+◌, ◌-◌, ◌≤◌, ◌<◌}
use mathlib.Core.Path.{◌≡◌, refl, sym, ◌∙◌, ap}
use mathlib.Core.Logic.{◌≢◌, by_cases}
use mathlib.Core.List.{List, [], ◌∷◌, ◌++◌}
use native.Mathlib.Nat.{add-zero, suc-add}
use native.Mathlib.Numerals.{one-add}
use native.Mathlib.Omega.{arith}
use native.Mathlib.Decide.{ℕ_discrete}
use lib.ListN.{length, get_or, drop, set, length-append, length-drop, length-set}
use lib.Seq.{drop-cons, drop-drop, get_or-set_same, get_or-set_other}
use Rattle.cell.specs.Cell.{arity}
use Rattle.term.specs.Terms.{Terms, front, back}
use Rattle.term.proofs.TermsLaws.{Terms-1, front-back, back-terms, front-zero}
use Rattle.table.specs.All.{All}
use Rattle.table.specs.Table.{up_from}
use Rattle.table.proofs.HeadLaws.{up-length}
use Rattle.answer.proofs.CountLaws.{up_at}
use Rattle.walking.specs.code.Link.{steps}
use Rattle.walking.specs.code.Goal.{hop_of, Whole}
use Rattle.walking.proofs.ListLaws.{front-add, back-drop, drop-in, suffix}

pub hop-none : (sib : List ℕ) (a p : ℕ) → a ≡ 0 → hop_of sib a p ≡ p
unfolding hop_of
hop-none sib zero p h = refl
hop-none sib (suc a) p h = absurd (let z : ⊥ = omega arith in z)

pub hop-more : (sib : List ℕ) (a p : ℕ) → 0 < a → hop_of sib a p ≡ hop_of sib (a - 1) (get_or sib p 0)
unfolding hop_of
hop-more sib zero p h = absurd (let z : ⊥ = omega arith in z)
hop-more sib (suc a) p h = let e : suc a - 1 ≡ a = omega arith in rw e

-- the cells from p on are done
pub record Done (goal sib : List ℕ) (p : ℕ) : Type 0 where
  pub size : length sib ≡ 64
  pub reach : p ≤ length goal
  pub places : (x : ℕ) → p ≤ x → x < length goal → get_or sib x 0 ≡ x + length (front 1 (drop x goal))
  pub numbers : (r : ℕ) → 32 ≤ r → r < 64 → get_or sib r 0 ≡ r + 1

module _ {goal sib : List ℕ} {p : ℕ} (w : Whole goal) (D : Done goal sib p) where
  hop-ends : (a q j : ℕ) → p ≤ q → Terms (a + j) (drop q goal) → (hop_of sib a q ≡ q + length (front a (drop q goal))) × All (λ (x : ℕ). x < 64) (steps sib a q)
  unfolding hop_of steps front
  hop-ends zero q j h t = (let z : front 0 (drop q goal) ≡ [] = front-zero (drop q goal) in sym (rw z (add-zero q)), tt)
  hop-ends (suc a) q j h t =
      let t₁ : Terms (suc (a + j)) (drop q goal) = rw suc-add at t in
      let i = drop-in q goal t₁ in
      let s = D.places q h i in
      let t₂ : Terms (1 + (a + j)) (drop q goal) = rw one-add t₁ in
      let e : back 1 (drop q goal) ≡ drop (get_or sib q 0) goal
      = back-drop 1 (drop q goal) ∙ drop-drop (length (front 1 (drop q goal))) q goal ∙ ap (λ (m : ℕ). drop m goal) (sym s) in
      let r = hop-ends a (get_or sib q 0) j (omega arith) (rw e at (back-terms 1 (a + j) (drop q goal) t₂)) in
      let f : front (suc a) (drop q goal) ≡ front 1 (drop q goal) ++ front a (drop (get_or sib q 0) goal)
      = rw (← one-add) (front-add 1 a (drop q goal)) ∙ ap (λ (m : List ℕ). front 1 (drop q goal) ++ front a m) e in
      let fl = ap length f ∙ length-append (front 1 (drop q goal)) (front a (drop (get_or sib q 0) goal)) in
      let g = w.few in
      (r.0 ∙ omega arith, (omega arith, r.1))

  -- the cell before p
  pub hop-here : (s : ℕ) → suc s ≡ p
      → (hop_of sib (arity (get_or goal s 0)) (s + 1) ≡ s + length (front 1 (drop s goal))) × All (λ (x : ℕ). x < 64) (steps sib (arity (get_or goal s 0)) (s + 1))
  unfolding front
  hop-here s e =
      let i : s < length goal = omega (arith, D.reach) in
      let o = suffix s w.terms i in
      let q : s + 1 ≡ suc s = omega arith in
      let d : drop s goal ≡ get_or goal s 0 ∷ drop (s + 1) goal = drop-cons goal s 0 i ∙ rw q in
      let t : Terms (arity (get_or goal s 0) + o.0) (drop (s + 1) goal) = Terms-1 (rw d at o.1) in
      let r = hop-ends (arity (get_or goal s 0)) (s + 1) o.0 (omega arith) t in
      let z : front 1 (drop s goal) ≡ get_or goal s 0 ∷ front (arity (get_or goal s 0)) (drop (s + 1) goal) = rw (d, add-zero) in
      (r.0 ∙ (let k = ap length z in omega arith), r.1)

  pub step-done : (s v : ℕ) → suc s ≡ p → v ≡ hop_of sib (arity (get_or goal s 0)) (s + 1) → Done goal (set sib s v) s
  step-done s v e x =
      let h = hop-here s e in
      let z = w.few in
      let b = D.reach in
      let m = D.size in
      record {
        size = length-set sib s v ∙ m;
        reach = omega arith;
        places = λ y a c. by_cases (ℕ_discrete y s)
            (λ q. rw q (get_or-set_same sib s v 0 (omega arith) ∙ x ∙ h.0))
            (λ q. get_or-set_other sib s y v 0 q ∙ D.places y (let g : suc s ≤ y = (let nq : y ≢ s = q in omega (arith, nq)) in omega arith) c);
        numbers = λ r a c. get_or-set_other sib s r v 0 (λ q. omega arith) ∙ D.numbers r a c;
      }

  front-short : (k : ℕ) (xs : List ℕ) → length (front k xs) ≤ length xs
  front-short k xs = omega (arith, ap length (front-back k xs), length-append (front k xs) (back k xs))

  pub hop-small : (s v : ℕ) → suc s ≡ p → v ≡ hop_of sib (arity (get_or goal s 0)) (s + 1) → v ≤ 64
  hop-small s v e x =
      let h = (hop-here s e).0 in
      let b = D.reach in
      let z = w.few in
      omega (arith, front-short 1 (drop s goal), length-drop s goal)

-- no cell is done
pub done_none : (goal : List ℕ) → Done goal (up_from 1 64) (length goal)
done_none goal = record {
  size = up-length 1 64;
  reach = omega arith;
  places = λ x a b. absurd (let z : ⊥ = omega arith in z);
  numbers = λ r a b. up_at 1 64 r b ∙ omega arith;
}
