-- Numbers one after another, entries of a table, steps; terms of the goal from a cell on.
use Prim.Native.Nat.{ℕ, zero, suc, ◌+◌, ◌-◌, ◌≤◌, ◌<◌}
use mathlib.Core.Path.{◌≡◌, refl, sym, ◌∙◌, ap, ap₂}
use mathlib.Core.List.{List, [], ◌∷◌, ◌++◌}
use native.Mathlib.Nat.{zero-add, suc-add, add_assoc}
use native.Mathlib.Omega.{arith}
use lib.ListN.{length, get_or, drop, set, length-set}
use lib.Seq.{sets, drop_at, get_or-set_same}
use Rattle.cell.specs.Cell.{arity}
use Rattle.term.specs.Terms.{Terms, none, more, front, back}
use Rattle.term.proofs.TermsLaws.{nil-zero, front-back}
use Rattle.term.proofs.Lists.{get_d_sets}
use Rattle.table.specs.All.{All}
use Rattle.table.proofs.AllLaws.{all-each, all-++}
use Rattle.table.specs.Table.{up_from}
use Rattle.walking.specs.code.Link.{steps, entries, goal_nodes}

pub up_none : (n a : ℕ) → a ≡ 0 → up_from n a ≡ []
unfolding up_from
up_none n zero h = refl
up_none n (suc a) h = absurd (omega arith)

pub up_more : (n a : ℕ) → 0 < a → up_from n a ≡ n ∷ up_from (n + 1) (a - 1)
unfolding up_from
up_more n zero h = absurd (omega arith)
up_more n (suc a) h = let e : suc a - 1 ≡ a = omega arith in let f : n + 1 ≡ suc n = omega arith in rw (e, f)

pub up-range : (m a : ℕ) → All (λ (x : ℕ). (m ≤ x) × (x < m + a)) (up_from m a)
unfolding up_from
up-range m zero = tt
up-range m (suc a) = (
  (omega arith, omega arith),
  all-each (λ (x : ℕ). (suc m ≤ x) × (x < suc m + a)) (λ (x : ℕ). (m ≤ x) × (x < m + suc a)) (λ x r. (omega arith, omega arith)) (up_from (suc m) a)
      (up-range (suc m) a),
)

-- slots below m, and new ones from there on
pub new-made : (m a : ℕ) (A B : List ℕ) → All (λ (s : ℕ). s < m) A → All (λ (s : ℕ). s < m) B → All (λ (s : ℕ). s < m + a) (A ++ (up_from m a ++ B))
new-made m a A B h k =
    let P : ℕ → Type 0 = λ (s : ℕ). s < m + a in
    let more : (xs : List ℕ) → All (λ (s : ℕ). s < m) xs → All P xs = λ xs h. all-each (λ (s : ℕ). s < m) P (λ s k. omega arith) xs h in
    all-++ P A (up_from m a ++ B) (more A h)
    (all-++ P (up_from m a) B (all-each (λ (s : ℕ). (m ≤ s) × (s < m + a)) P (λ s k. k.1) (up_from m a) (up-range m a)) (more B k))

-- Steps.

pub steps-none : (sib : List ℕ) (a p : ℕ) → a ≡ 0 → steps sib a p ≡ []
unfolding steps
steps-none sib zero p h = refl
steps-none sib (suc a) p h = absurd (omega arith)

pub steps-more : (sib : List ℕ) (a p : ℕ) → 0 < a → steps sib a p ≡ p ∷ steps sib (a - 1) (get_or sib p 0)
unfolding steps
steps-more sib zero p h = absurd (omega arith)
steps-more sib (suc a) p h = let e : suc a - 1 ≡ a = omega arith in rw e

pub steps_all : (sib : List ℕ) (a p : ℕ) → 0 < a → All (λ (x : ℕ). x < 64) (steps sib a p)
    → (p < 64) × All (λ (x : ℕ). x < 64) (steps sib (a - 1) (get_or sib p 0))
steps_all sib a p h l = rw (steps-more sib a p h) at l

pub steps-length : (sib : List ℕ) (a p : ℕ) → length (steps sib a p) ≡ a
unfolding steps
steps-length sib zero p = refl
steps-length sib (suc a) p = ap suc (steps-length sib a (get_or sib p 0))

pub nodes-none : (rep sib : List ℕ) (a p : ℕ) → a ≡ 0 → goal_nodes rep sib a p ≡ []
nodes-none rep sib a p h = ap (entries rep) (steps-none sib a p h)

pub nodes-more : (rep sib : List ℕ) (a p : ℕ) → 0 < a → goal_nodes rep sib a p ≡ get_or rep p 0 ∷ goal_nodes rep sib (a - 1) (get_or sib p 0)
nodes-more rep sib a p h = ap (entries rep) (steps-more sib a p h)

-- Entries.

pub entries-++ : (l xs ys : List ℕ) → entries l (xs ++ ys) ≡ entries l xs ++ entries l ys
entries-++ l [] ys = refl
entries-++ l (x ∷ xs) ys = ap (λ (z : List ℕ). get_or l x 0 ∷ z) (entries-++ l xs ys)

pub entries-length : (l xs : List ℕ) → length (entries l xs) ≡ length xs
entries-length l [] = refl
entries-length l (x ∷ xs) = ap suc (entries-length l xs)

-- what is stored from m on is not seen below m
pub entries_below : (l ks xs : List ℕ) (m : ℕ) → All (λ (s : ℕ). s < m) xs → entries (sets l m ks) xs ≡ entries l xs
entries_below l ks [] m a = refl
entries_below l ks (x ∷ xs) m a = ap₂ (λ (y : ℕ) (ys : List ℕ). y ∷ ys) (get_d_sets l ks x m a.0) (entries_below l ks xs m a.1)

-- and is found where it was stored
pub entries-stored : (l ks : List ℕ) (m a : ℕ) → a ≡ length ks → m + a ≤ length l → entries (sets l m ks) (up_from m a) ≡ ks
unfolding up_from
entries-stored l [] m zero e h = refl
entries-stored l [] m (suc a) e h = absurd (omega arith)
entries-stored l (k ∷ ks) m zero e h = absurd (omega arith)
entries-stored l (k ∷ ks) m (suc a) e h =
    ap₂ (λ (y : ℕ) (ys : List ℕ). y ∷ ys)
    (get_d_sets (set l m k) ks m (suc m) (omega arith) ∙ get_or-set_same l m k 0 (omega arith))
    (entries-stored (set l m k) ks (suc m) a (omega arith) (omega (arith, length-set l m k)))

-- Terms.

-- the first a + b terms
pub front-add : (a b : ℕ) (xs : List ℕ) → front (a + b) xs ≡ front a xs ++ front b (back a xs)
unfolding front back
front-add a b [] = refl
front-add zero b (c ∷ xs) = rw zero-add
front-add (suc a) b (c ∷ xs) = rw suc-add (ap (λ (l : List ℕ). c ∷ l) (rw add_assoc at (front-add (arity c + a) b xs)))

pub back-drop : (k : ℕ) (xs : List ℕ) → back k xs ≡ drop (length (front k xs)) xs
back-drop k xs = sym (drop_at (front k xs) (back k xs) (length (front k xs)) refl) ∙ ap (drop (length (front k xs))) (front-back k xs)

pub drop-in : (p : ℕ) (xs : List ℕ) {k : ℕ} → Terms (suc k) (drop p xs) → p < length xs
drop-in zero [] t = absurd (let z = nil-zero t in let y : ⊥ = omega arith in y)
drop-in zero (c ∷ xs) t = omega arith
drop-in (suc p) [] t = absurd (let z = nil-zero t in let y : ⊥ = omega arith in y)
drop-in (suc p) (c ∷ xs) t = let h = drop-in p xs t in omega arith

-- from each cell on stand some terms
pub suffix : {k : ℕ} {xs : List ℕ} (r : ℕ) → Terms k xs → r < length xs → (j : ℕ) × Terms (suc j) (drop r xs)
suffix r none h = absurd (let z : ⊥ = omega arith in z)
suffix zero (more {k} t) h = (k, more t)
suffix (suc r) (more t) h = suffix r t (omega arith)
