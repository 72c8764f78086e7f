-- One branch: what it does to the arrays, against what `after` leaves of the goal.
use Prim.Native.Nat.{ℕ, suc, ◌+◌, ◌≤◌, ◌<◌}
use mathlib.Core.Path.{◌≡◌, ◌∙◌}
use mathlib.Core.Bool.{true, false}
use mathlib.Core.List.{List, ◌∷◌, ◌++◌}
use native.Mathlib.Omega.{arith}
use lib.ListN.{length, get_or, take, drop, length-set}
use lib.Seq.{split_at, length-take-le, length-sets}
use Rattle.cell.specs.Cell.{arity}
use Rattle.plan.specs.Plans.{next, branches, branches_in}
use Rattle.answer.specs.code.After.{stuck, after}
use Rattle.answer.specs.code.Renamed.{var, Goal}
use Rattle.plan.specs.Notes.{below}
use Rattle.walking.specs.code.Link.{goal_nodes, Tables, Linked}
use Rattle.walking.specs.code.Steps.{Safe, Step, step-any, step_same, step_other, step-binds}
use Rattle.walking.specs.code.Frames.{Frame, frame, Held, Stands, within}
use Rattle.plan.proofs.NotesLaws.{below_length}
use Rattle.walking.proofs.RefLaws.{steps_up, up-all}
use Rattle.walking.proofs.LinkLaws.{linked-rest, Down, node-small, down-variable, down-same, same-safe, stuck-other, down-bind}
use Rattle.walking.proofs.FrameLaws.{Top, stands-refs, stands-binding}

-- the arrays have 64 entries each
pub record Sizes (bs ns us rs : List ℕ) : Type 0 where
  pub bound : length bs ≡ 64
  pub args : length ns ≡ 64
  pub until : length us ≡ 64
  pub refers : length rs ≡ 64

-- The first branch, number n.
module _ {v : ℕ} {G sib rep : List ℕ} (G-goal : Goal v G) (T : Tables G sib rep) {bs ns us rs : List ℕ} {fs : List Frame} {n top row : ℕ}
    (t : Top G rep sib bs ns us rs fs n top row) where
  abbrev c : ℕ
  c = t.group.cell

  abbrev i : ℕ
  i = t.place

  abbrev m : ℕ
  m = t.free

  abbrev s : ℕ
  s = get_or t.slots t.place 0

  abbrev A : List ℕ
  A = take t.place t.slots

  abbrev B : List ℕ
  B = drop (suc t.place) t.slots

  abbrev sk : ℕ
  sk = n + 1 + branches t.tree

  -- the node that it looks at
  abbrev pub node : ℕ
  node = get_or rs s 0

  -- the frames without it
  abbrev pub frames : List Frame
  frames = frame t.trees t.place t.free t.slots t.R ∷ t.others

  -- what the arrays stand for there
  pub held : Held G rep sib bs ns us rs n (n + branches_in (next {g = t.group} t.tree t.trees))
      (frame (next {g = t.group} t.tree t.trees) t.place t.free t.slots t.R)
  held = go t.stands
    where
      go : {o : ℕ} → Stands G rep sib bs ns us rs (frame (next {g = t.group} t.tree t.trees) t.place t.free t.slots t.R ∷ t.others) n o
          → Held G rep sib bs ns us rs n (n + branches_in (next {g = t.group} t.tree t.trees))
          (frame (next {g = t.group} t.tree t.trees) t.place t.free t.slots t.R)
      go (within x l r) = x

  -- its place among the slots
  record Place : Type 0 where
    pub end : ℕ
    pub some : sk ≤ end
    pub linked : Linked G rep sib bs ns us rs n end m (A ++ (s ∷ B)) t.R
    pub number : length A ≡ i
    pub width : length t.slots ≡ suc t.k
    pub rest : Stands G rep sib bs ns us rs frames sk m

  place_in : {o : ℕ} → Stands G rep sib bs ns us rs
      (frame (next {g = t.group} t.tree t.trees) t.place t.free t.slots t.R ∷ t.others) n o → Place
  unfolding branches
  place_in (within x l r) =
      let L = x.linked in
      let bp = branches t.tree in
      let bt = branches_in t.trees in
      let q : t.slots ≡ A ++ (s ∷ B) = split_at t.slots i 0 (omega (arith, x.width, x.low)) in
      let d : n + suc (bp + bt) ≡ sk + bt = omega arith in
      let o : m ≤ m = omega arith in
      record {
        end = n + suc (bp + bt);
        some = omega arith;
        linked = rw q at L;
        number = length-take-le i t.slots (omega (arith, x.width, x.low));
        width = x.width;
        rest =
            within {f = frame t.trees t.place t.free t.slots t.R}
            (record { linked = rw d at (linked-rest G-goal T sk (omega arith) L); width = x.width; low = x.low }) o (rw d at r);
      }

  place-low : {o : ℕ} → Stands G rep sib bs ns us rs
      (frame (next {g = t.group} t.tree t.trees) t.place t.free t.slots t.R ∷ t.others) n o → i < length t.slots
  place-low (within x l r) = omega (arith, x.width, x.low)

  P : Place
  P = place_in t.stands

  L : Linked G rep sib bs ns us rs n P.end m (A ++ (s ∷ B)) t.R
  L = P.linked

  -- the rest of the state and the frames further out, where nothing is written
  pub rest-stands : Stands G rep sib bs ns us rs frames sk m
  rest-stands = P.rest

  -- so many places are open below it
  pub below-width : length (below i (arity c) m t.slots) ≡ arity c + t.k
  below-width = omega (arith, below_length i (arity c) m t.slots (place-low t.stands), P.width)

  module _ (fits : m + arity c < 64) where
    pub safe : Safe sib bs ns us n c node m
    unfolding L
    safe =
        let o = P.some in
        record {
          node = node-small G-goal T A s B L;
          room = omega arith;
          same = λ h q. same-safe G-goal T A s B L c (omega arith) h q;
          new = rw (steps_up T m (arity c) L.some (omega arith)) (up-all m (arity c) (omega arith));
        }

    module _ (z : Sizes bs ns us rs) where
      -- it fails
      pub fails : {bs' ns' us' rs' : List ℕ} → Step rep sib n c node m sk bs ns us rs bs' ns' us' rs' false
          → (after (var m) i c t.R ≡ stuck) × Stands G rep sib bs' ns' us' rs' frames sk m × Sizes bs' ns' us' rs'
      unfolding L
      fails (step_other hc on d eb en eu er) =
          let o = P.some in
          (rw P.number at (stuck-other G-goal T A s B L c (omega arith) hc on d), rw (eb, en, eu, er) P.rest, rw (eb, en, eu, er) z)

      -- it succeeds: what is below it, and the rest of the state
      pub record Goes (bs' ns' us' rs' : List ℕ) : Type 0 where
        pub down : Down G-goal T bs' ns' us' rs' (n + 1) sk (m + arity c) (below i (arity c) m t.slots) i c m t.R
        pub rest : Stands G rep sib bs' ns' us' rs' frames sk m
        pub sizes : Sizes bs' ns' us' rs'

      pub goes : {bs' ns' us' rs' : List ℕ} → Step rep sib n c node m sk bs ns us rs bs' ns' us' rs' true → Goes bs' ns' us' rs'
      unfolding L
      goes (step-any h eb en eu er) =
          rw (eb, en, eu, er)
          (record {
            down = rw P.number at (down-variable G-goal T A s B L (n + 1) sk c (omega arith) P.some z.refers h);
            rest = P.rest;
            sizes = z;
          })
      goes (step_same hc on q eb en eu er) =
          let o = P.some in
          let ks = goal_nodes rep sib (arity c) (get_or ns node 0) in
          rw (eb, en, eu, er)
          (record {
            down = rw P.number at (down-same G-goal T A s B L (n + 1) sk c (omega arith) (omega arith) o fits z.refers hc on q);
            rest = stands-refs G-goal T m ks (omega arith) P.rest;
            sizes = record { bound = z.bound; args = z.args; until = z.until; refers = length-sets rs m ks ∙ z.refers };
          })
      goes (step-binds hc off eb en eu er) =
          let o = P.some in
          let ks = goal_nodes rep sib (arity c) m in
          let l : node < length us = omega (arith, node-small G-goal T A s B L, z.until) in
          rw (eb, en, eu, er)
          (record {
            down =
                rw P.number at (down-bind G-goal T A s B L (n + 1) sk c (omega arith) (omega arith) o fits z.bound z.args z.until
                z.refers hc off);
            rest = stands-refs G-goal T m ks (omega arith) (stands-binding G-goal T node c m {i = n} l off (omega arith) (omega arith) P.rest);
            sizes = record {
              bound = length-set bs node c ∙ z.bound;
              args = length-set ns node m ∙ z.args;
              until = length-set us node sk ∙ z.until;
              refers = length-sets rs m ks ∙ z.refers;
            };
          })
