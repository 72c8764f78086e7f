-- What nodes stand for.
use Prim.Native.Nat.{ℕ, zero, suc, ◌+◌, ◌≤◌, ◌<◌}
use mathlib.Core.Path.{◌≡◌, refl, sym, ◌∙◌, ap, ap₂}
use mathlib.Core.List.{List, [], ◌∷◌, ◌++◌, append_assoc}
use native.Mathlib.Nat.{suc-add}
use native.Mathlib.Numerals.{one-add}
use native.Mathlib.Omega.{arith}
use lib.ListN.{length, get_or, drop}
use lib.Seq.{drop-drop}
use borrow.Author.Tests.{lt-leb, le-leb}
use Rattle.cell.proofs.CellLaws.{var-small}
use Rattle.term.specs.Terms.{Terms, none, front, back}
use Rattle.term.proofs.TermsLaws.{Terms-++, front-terms, back-terms, front-zero}
use Rattle.term.proofs.Inst.{Terms-var}
use Rattle.table.specs.All.{All}
use Rattle.table.specs.Table.{up_from}
use Rattle.answer.specs.code.Renamed.{var, Goal}
use Rattle.walking.specs.code.Link.{ref, refs, steps, entries, goal_nodes, Node, cell, made, GoalNodes, nil, cons, Tables}
use Rattle.walking.proofs.ListLaws.{front-add, back-drop, drop-in, suffix}

pub ref-cell : (G : List ℕ) (r : ℕ) → r < 32 → ref G r ≡ front 1 (drop r G)
unfolding ref
ref-cell G r h = rw (lt-leb 32 r h)

pub ref-made : (G : List ℕ) (r : ℕ) → 32 ≤ r → ref G r ≡ var r ∷ []
unfolding ref
ref-made G r h = rw (le-leb 32 r h)

pub refs-++ : (G P Q : List ℕ) → refs G (P ++ Q) ≡ refs G P ++ refs G Q
unfolding refs
refs-++ G [] Q = refl
refs-++ G (r ∷ P) Q = rw (refs-++ G P Q, append_assoc)

-- Nodes.

pub nodes-split : {G rep : List ℕ} {m : ℕ} (P : List ℕ) {r : ℕ} {Q xs : List ℕ} → GoalNodes G rep m xs → xs ≡ P ++ (r ∷ Q)
    → GoalNodes G rep m P × Node G rep m r × GoalNodes G rep m Q
nodes-split [] {r} {Q} nil e = let z : ◌≡◌ {A = ℕ} 0 1 = cc in absurd (let y : ⊥ = omega arith in y)
nodes-split (p ∷ P) {r} {Q} nil e = let z : ◌≡◌ {A = ℕ} 0 1 = cc in absurd (let y : ⊥ = omega arith in y)
nodes-split [] {r} {Q} (cons {r = s} {rs = rs} o os) e = let a : s ≡ r = cc in let b : rs ≡ Q = cc in (nil, rw a at o, rw b at os)
nodes-split (p ∷ P) {r} {Q} (cons {r = s} {rs = rs} o os) e =
    let a : s ≡ p = cc in
    let b : rs ≡ P ++ (r ∷ Q) = cc in
    let h = nodes-split P os b in
    (cons (rw a at o) h.0, h.1, h.2)

pub nodes-++ : {G rep : List ℕ} {m : ℕ} {P Q : List ℕ} → GoalNodes G rep m P → GoalNodes G rep m Q → GoalNodes G rep m (P ++ Q)
nodes-++ nil q = q
nodes-++ (cons o p) q = cons o (nodes-++ p q)

pub node-more : {G rep : List ℕ} {m n r : ℕ} → m ≤ n → Node G rep m r → Node G rep n r
node-more h (cell x y) = cell x y
node-more h (made x y) = made x (omega arith)

pub nodes-more : {G rep : List ℕ} {m n : ℕ} {P : List ℕ} → m ≤ n → GoalNodes G rep m P → GoalNodes G rep n P
nodes-more h nil = nil
nodes-more h (cons o p) = cons (node-more h o) (nodes-more h p)

-- Arguments made on the way.

module _ {G sib rep : List ℕ} (T : Tables G sib rep) where
  pub up-nodes : (m u a : ℕ) → 32 ≤ u → u + a ≤ m → GoalNodes G rep m (up_from u a)
  unfolding up_from
  up-nodes m u zero h l = nil
  up-nodes m u (suc a) h l = cons (made h (omega arith)) (up-nodes m (suc u) a (omega arith) (omega arith))

  -- from 32 on the tables go up by one
  pub steps_up : (u a : ℕ) → 32 ≤ u → u + a ≤ 64 → steps sib a u ≡ up_from u a
  unfolding steps up_from
  steps_up u zero h l = refl
  steps_up u (suc a) h l =
      let e = (T.up u h (omega arith)).0 in
      let q : u + 1 ≡ suc u = omega arith in
      ap (λ (x : List ℕ). u ∷ x) (rw (e, q) (steps_up (suc u) a (omega arith) (omega arith)))

  rep-up : (u a : ℕ) → 32 ≤ u → u + a ≤ 64 → entries rep (up_from u a) ≡ up_from u a
  unfolding up_from
  rep-up u zero h l = refl
  rep-up u (suc a) h l = ap₂ (λ (y : ℕ) (ys : List ℕ). y ∷ ys) (T.up u h (omega arith)).1 (rep-up (suc u) a (omega arith) (omega arith))

  pub nodes-up : (u a : ℕ) → 32 ≤ u → u + a ≤ 64 → goal_nodes rep sib a u ≡ up_from u a
  nodes-up u a h l = rw (steps_up u a h l) (rep-up u a h l)

pub up-all : (u a : ℕ) → u + a ≤ 64 → All (λ (x : ℕ). x < 64) (up_from u a)
unfolding up_from
up-all u zero l = tt
up-all u (suc a) l = (omega arith, up-all (suc u) a (omega arith))

pub up-refs : (G : List ℕ) (u a : ℕ) → 32 ≤ u → refs G (up_from u a) ≡ up_from (var u) a
unfolding up_from refs
up-refs G u zero h = refl
up-refs G u (suc a) h =
    let q : suc (var u) ≡ var (suc u) = omega arith in
    rw (ref-made G u h, q) (ap (λ (l : List ℕ). var u ∷ l) (up-refs G (suc u) a (omega arith)))

-- Terms of the goal.

module _ {w : ℕ} {G sib rep : List ℕ} (g : Goal w G) (T : Tables G sib rep) where
  term-at : (r : ℕ) → r < length G → Terms 1 (front 1 (drop r G))
  term-at r h =
      let s = suffix r g.terms h in
      let t : Terms (1 + s.0) (drop r G) = rw one-add s.1 in
      front-terms 1 s.0 (drop r G) t

  pub Terms-ref : {m r : ℕ} → m ≤ 64 → Node G rep m r → Terms 1 (ref G r)
  Terms-ref {r = r} l (cell h k) = rw (ref-cell G r (let s = g.short in omega arith)) (term-at r h)
  Terms-ref {r = r} l (made h u) = rw (ref-made G r h) (Terms-var (var-small (var r) (omega arith)))

  pub Terms-refs : {m : ℕ} {rs : List ℕ} → m ≤ 64 → GoalNodes G rep m rs → Terms (length rs) (refs G rs)
  unfolding refs
  Terms-refs l nil = none
  Terms-refs l (cons o os) = rw one-add at (Terms-++ (Terms-ref l o) (Terms-refs l os))

  -- a of them from p on, as nodes
  pub record Stand (m a p : ℕ) (xs : List ℕ) : Type 0 where
    pub terms : refs G (goal_nodes rep sib a p) ≡ xs
    pub stand : GoalNodes G rep m (goal_nodes rep sib a p)
    pub small : All (λ (x : ℕ). x < 64) (steps sib a p)

  pub stand-at : (a p j m : ℕ) → Terms (a + j) (drop p G) → Stand m a p (front a (drop p G))
  unfolding steps refs
  stand-at zero p j m t = record { terms = sym (front-zero (drop p G)); stand = nil; small = tt }
  stand-at (suc a) p j m t =
      let t₁ : Terms (suc (a + j)) (drop p G) = rw suc-add at t in
      let h = drop-in p G t₁ in
      let s = T.sibs p h in
      let t₂ : Terms (1 + (a + j)) (drop p G) = rw one-add t₁ in
      let b = back-terms 1 (a + j) (drop p G) t₂ in
      let e : back 1 (drop p G) ≡ drop (get_or sib p 0) G =
      back-drop 1 (drop p G) ∙ drop-drop (length (front 1 (drop p G))) p G ∙ ap (λ (n : ℕ). drop n G) (sym s) in
      let r = stand-at a (get_or sib p 0) j m (rw e at b) in
      let q : p < 32 = (let x = g.short in omega arith) in
      let f : front (suc a) (drop p G) ≡ front 1 (drop p G) ++ front a (back 1 (drop p G)) = rw (← one-add) (front-add 1 a (drop p G)) in
      record {
        terms = ap₂ ◌++◌ (T.same p h ∙ ref-cell G p q) (r.terms ∙ ap (front a) (sym e)) ∙ sym f;
        stand = cons (cell (T.inside p h) (T.kept p h)) r.stand;
        small = (omega arith, r.small);
      }

  -- the same variable, the same node
  pub one-node : {m : ℕ} (r s x : ℕ) → x < 64 → Node G rep m r → Node G rep m s → ref G r ≡ var x ∷ [] → ref G s ≡ var x ∷ [] → r ≡ s
  one-node r s x lx (cell h k) (cell h' k') e e' = T.one r s x lx h h' k k' e e'
  one-node r s x lx (cell h k) (made h' l') e e' =
      let y = T.vars r x lx h e in
      let z : var s ≡ var x = (let q : var s ∷ [] ≡ var x ∷ [] = sym (ref-made G s h') ∙ e' in cc) in
      absurd (let n : ⊥ = omega arith in n)
  one-node r s x lx (made h l) (cell h' k') e e' =
      let y = T.vars s x lx h' e' in
      let z : var r ≡ var x = (let q : var r ∷ [] ≡ var x ∷ [] = sym (ref-made G r h) ∙ e in cc) in
      absurd (let n : ⊥ = omega arith in n)
  one-node r s x lx (made h l) (made h' l') e e' =
      let z : var r ≡ var x = (let q : var r ∷ [] ≡ var x ∷ [] = sym (ref-made G r h) ∙ e in cc) in
      let z' : var s ≡ var x = (let q : var s ∷ [] ≡ var x ∷ [] = sym (ref-made G s h') ∙ e' in cc) in
      omega arith
