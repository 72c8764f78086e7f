-- Where a walk begins: the goal's tables are what the link takes for granted, and nothing is bound but the goal's symbols.
use Prim.Native.Nat.{ℕ, suc, ◌+◌, ◌≤◌, ◌<◌}
use mathlib.Core.Path.{◌≡◌, refl, sym, ◌∙◌, ap}
use mathlib.Core.Logic.{◌≢◌, ⊎_elim}
use mathlib.Core.Bool.{true, false, true≢false}
use mathlib.Core.List.{List, [], ◌∷◌, append-nil}
use native.Mathlib.Nat.{add-zero}
use native.Mathlib.Omega.{arith}
use lib.Dec.{ltb}
use borrow.Author.Tests.{ltb-true, ltb-false}
use lib.ListN.{length, get_or, drop, replicate, length-replicate}
use lib.Seq.{sets, drop-cons}
use Rattle.cell.specs.Cell.{arity, is_var}
use Rattle.cell.proofs.CellLaws.{var-arity, var-small}
use Rattle.term.specs.Terms.{Terms, front}
use Rattle.term.specs.Unify.{renamed}
use Rattle.term.proofs.Tests.{bool_cases}
use Rattle.term.proofs.TermsLaws.{Terms-1, front-++, front-zero}
use Rattle.term.proofs.Inst.{Subst-id, inst-id}
use Rattle.term.specs.Bind.{id_s}
use Rattle.table.proofs.AllLaws.{all-each}
use Rattle.table.specs.Table.{up_from, IsGoal}
use Rattle.answer.specs.code.Renamed.{var, lift}
use Rattle.answer.proofs.RenamedLaws.{lift-var, lift-symbol}
use Rattle.answer.proofs.RenamedLaws.{renamed-length, renamed-drop, renamed-at, renamed-front, small-drop, get_d-mem}
use Rattle.answer.proofs.AcceptedLaws.{small, goal-head}
use Rattle.walking.specs.code.Link.{ref, steps, entries, goal_nodes, Node, cell, made, Tables, Is, held, free, Bound, Linked}
use Rattle.walking.specs.code.Goal.{Whole, Stepped, Named}
use Rattle.walking.proofs.ListLaws.{suffix, entries-stored, entries-length, steps-length, up-range}
use Rattle.walking.proofs.RefLaws.{ref-cell, Stand, stand-at}

module _ {w : ℕ} {goal : List ℕ} (h : IsGoal w goal) where
  abbrev G : List ℕ
  G = renamed goal

  pub whole : Whole goal
  whole = record { width = w; terms = h.head.terms; few = h.head.short; vars = λ p l v. (small h).vars (get_or goal p 0) (get_d-mem goal p l) v }

  -- what stands at a cell
  at-cell : (p : ℕ) → p < length goal → (j : ℕ) × Terms (suc j) (drop p G) × (drop p G ≡ lift (get_or goal p 0) ∷ drop (p + 1) G)
  at-cell p l =
      let l' : p < length G = omega (arith, renamed-length goal) in
      let s = suffix p (goal-head h).terms l' in
      let e : p + 1 ≡ suc p = omega arith in
      (s.0, s.1, drop-cons G p 0 l' ∙ rw (renamed-at p goal l, e))

  low : (p : ℕ) → p < length goal → p < 32
  low p l = omega (arith, h.head.short)

  ref-var : (p : ℕ) → p < length goal → is_var (get_or goal p 0) ≡ true → ref G p ≡ var (get_or goal p 0) ∷ []
  unfolding front
  ref-var p l v =
      let s = at-cell p l in
      let c = get_or goal p 0 in
      let b = whole.vars p l v in
      let z : arity (var c) ≡ 0 = var-arity (var c) (var-small (var c) (omega arith)) in
      ref-cell G p (low p l) ∙ rw (s.2, lift-var c v, z, add-zero, front-zero (drop (p + 1) G))

  -- a symbol before its arguments
  ref-symbol : (p : ℕ) → p < length goal → is_var (get_or goal p 0) ≡ false
      → (j : ℕ) × (ref G p ≡ get_or goal p 0 ∷ front (arity (get_or goal p 0)) (drop (p + 1) G)) × Terms (arity (get_or goal p 0) + j) (drop (p + 1) G)
  unfolding front
  ref-symbol p l v =
      let s = at-cell p l in
      let c = get_or goal p 0 in
      let d : drop p G ≡ c ∷ drop (p + 1) G = s.2 ∙ rw (lift-symbol c v) in
      let t : Terms (arity c + s.0) (drop (p + 1) G) = Terms-1 (rw d at s.1) in
      (s.0, ref-cell G p (low p l) ∙ rw (d, add-zero), t)

  -- which variable a cell of the goal is
  var-cell : (r x : ℕ) → x < 64 → r < length goal → ref G r ≡ var x ∷ [] → (is_var (get_or goal r 0) ≡ true) × (get_or goal r 0 ≡ x)
  var-cell r x lx l e = ⊎_elim
      (λ v. let q : var (get_or goal r 0) ∷ [] ≡ var x ∷ [] = sym (ref-var r l v) ∙ e in let z : var (get_or goal r 0) ≡ var x = cc in (v, omega arith))
      (λ v. let s = ref-symbol r l v in let q = sym s.1 ∙ e in let z : get_or goal r 0 ≡ var x = cc in
      absurd (true≢false (sym (var-small (var x) (omega arith)) ∙ ap is_var (sym z) ∙ v)))
      (bool_cases (is_var (get_or goal r 0)))

  module _ {sib rep bs ns us : List ℕ} (S : Stepped goal sib) (N : Named goal rep bs ns us) where
    -- a cell names one that names itself
    kept-variable : (p : ℕ) → p < length goal → is_var (get_or goal p 0) ≡ true → get_or rep (get_or rep p 0) 0 ≡ get_or rep p 0
    kept-variable p l v =
        let x = N.variables p l v in
        let q = get_or rep p 0 in
        let y = N.variables q (omega (arith, x.low)) (ap is_var x.cell ∙ v) in
        ⊎_elim
        (λ b. absurd (x.first (get_or rep q 0) (ltb-true (get_or rep q 0) q b) (y.cell ∙ x.cell)))
        (λ b. omega (arith, ltb-false (get_or rep q 0) q b, y.low))
        (bool_cases (ltb (get_or rep q 0) q))

    one-first : (r s : ℕ) → r < s → s < length goal → is_var (get_or goal s 0) ≡ true → get_or rep s 0 ≡ s → get_or goal r 0 ≢ get_or goal s 0
    one-first r s l k v e = (N.variables s k v).first r (omega arith)

    pub tables : Tables G sib rep
    tables =
        let n = renamed-length goal in
        record {
          sibs = λ p l. let l' : p < length goal = omega arith in
              S.places p l' ∙ ap (λ (n : ℕ). p + n) (sym (ap (λ (l : List ℕ). length (front 1 l)) (renamed-drop p goal)
              ∙ renamed-front 1 (drop p goal) (small-drop p goal (small h))));
          up = λ r a b. (S.numbers r a b, N.others r (omega (arith, h.head.short)) b);
          size = N.size-rep;
          others = λ r a b. N.others r (omega arith) b;
          inside = λ p l. let l' : p < length goal = omega arith in ⊎_elim
              (λ v. omega (arith, (N.variables p l' v).low))
              (λ v. omega (arith, (N.symbols p l' v).node))
              (bool_cases (is_var (get_or goal p 0)));
          kept = λ p l. let l' : p < length goal = omega arith in ⊎_elim
              (λ v. kept-variable p l' v)
              (λ v. ap (λ (x : ℕ). get_or rep x 0) (N.symbols p l' v).node)
              (bool_cases (is_var (get_or goal p 0)));
          same = λ p l. let l' : p < length goal = omega arith in ⊎_elim
              (λ v. let x = N.variables p l' v in
              ref-var (get_or rep p 0) (omega (arith, x.low)) (ap is_var x.cell ∙ v) ∙ ap (λ (c : ℕ). var c ∷ []) x.cell ∙ sym (ref-var p l' v))
              (λ v. ap (ref G) (N.symbols p l' v).node)
              (bool_cases (is_var (get_or goal p 0)));
          vars = λ r x lx l e. let l' : r < length goal = omega arith in
              let c = var-cell r x lx l' e in omega (arith, whole.vars r l' c.0, c.1);
          one = λ r s x lx l k a b e f.
              let l' : r < length goal = omega arith in
              let k' : s < length goal = omega arith in
              let c = var-cell r x lx l' e in
              let d = var-cell s x lx k' f in
              one_of r s l' k' c.0 d.0 a b (c.1 ∙ sym d.1);
        }
      where
        one_of : (r s : ℕ) → r < length goal → s < length goal → is_var (get_or goal r 0) ≡ true → is_var (get_or goal s 0) ≡ true → get_or rep r 0 ≡ r
            → get_or rep s 0 ≡ s
            → get_or goal r 0 ≡ get_or goal s 0 → r ≡ s
        one_of r s l k v u a b e = ⊎_elim
            (λ t. absurd (one-first r s (ltb-true r s t) k u b e))
            (λ t. ⊎_elim
            (λ t'. absurd (one-first s r (ltb-true s r t') l v a (sym e)))
            (λ t'. omega (arith, ltb-false r s t, ltb-false s r t'))
            (bool_cases (ltb s r)))
            (bool_cases (ltb r s))

    -- only the goal's symbols are bound, and no argument is made
    unbound : (e : ℕ) → e ≤ 4095 → Bound G rep sib bs ns us 0 e 32 id_s
    unfolding id_s
    unbound e le = record {
      good = Subst-id;
      is = λ r o. is r o;
      fresh = λ u l. refl;
      later = λ r o. ⊎_elim
          (λ t. let l = ltb-true r (length goal) t in ⊎_elim
          (λ v. omega (arith, (N.variables r l v).ends))
          (λ v. absurd (o (cell (omega (arith, renamed-length goal)) (N.symbols r l v).node)))
          (bool_cases (is_var (get_or goal r 0))))
          (λ t. omega (arith, N.unbound r (ltb-false r (length goal) t)))
          (bool_cases (ltb r (length goal)));
    }
      where
        is-symbol : (r : ℕ) → r < length goal → is_var (get_or goal r 0) ≡ false → Is G rep sib bs ns us 0 e 32 id_s r
        is-symbol r l v =
            let x = N.symbols r l v in
            let s = ref-symbol r l v in
            let c = get_or goal r 0 in
            let t = stand-at (goal-head h) tables (arity c) (r + 1) s.0 32 s.2 in
            held (omega (arith, x.ends)) (rw x.cell v)
            (rw (x.cell, x.args_at, t.terms) (inst-id (ref G r) ∙ s.1 ∙ ap (λ (l : List ℕ). c ∷ l) (sym (inst-id (front (arity c) (drop (r + 1) G))))))
            (rw (x.cell, x.args_at) t.stand)
            (rw (x.cell, x.args_at) t.small)

        is : (r : ℕ) → Node G rep 32 r → Is G rep sib bs ns us 0 e 32 id_s r
        is r (cell l k) =
            let l' : r < length goal = omega (arith, renamed-length goal) in
            ⊎_elim
            (λ v. let b = whole.vars r l' v in free (get_or goal r 0) (omega arith) (omega (arith, (N.variables r l' v).ends)) (ref-var r l' v) refl)
            (λ v. is-symbol r l' v)
            (bool_cases (is_var (get_or goal r 0)))
        is r (made a b) = absurd (let z : ⊥ = omega arith in z)

    -- the goal's terms stand open in the first slots
    pub arguments : Stand (goal-head h) tables 32 w 0 (front w G)
    arguments = let t : Terms (w + 0) (drop 0 G) = rw add-zero (goal-head h).terms in stand-at (goal-head h) tables w 0 0 32 t

    pub linked : (rs : List ℕ) (e : ℕ) → rs ≡ sets (replicate 64 0) 1 (goal_nodes rep sib w 0) → w ≤ 8 → e ≤ 4095
        → Linked G rep sib bs ns us rs 0 e 32 (up_from 1 w) G
    linked rs e er lw le =
        let z : length (replicate {A = ℕ} 64 0) ≡ 64 = length-replicate {A = ℕ} 64 0 in
        let n : w ≡ length (goal_nodes rep sib w 0) = sym (entries-length rep (steps sib w 0) ∙ steps-length sib w 0) in
        let q : entries rs (up_from 1 w) ≡ goal_nodes rep sib w 0 = rw er (entries-stored (replicate 64 0) (goal_nodes rep sib w 0) 1 w n (omega arith)) in
        let f : front w G ≡ G = ap (front w) (sym (append-nil G)) ∙ front-++ [] (goal-head h).terms in
        record {
          by = id_s;
          binds = unbound e le;
          slots-made = all-each (λ (x : ℕ). (1 ≤ x) × (x < 1 + w)) (λ (x : ℕ). x < 32) (λ x r. omega arith) (up_from 1 w) (up-range 1 w);
          stand = rw q arguments.stand;
          same = rw (q, arguments.terms, f) (sym (inst-id G));
          some = omega arith;
          few = omega arith;
        }
