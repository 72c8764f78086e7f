-- Where a row by itself begins: from the walk's bindings and its substitution to nodes in classes.
use Prim.Native.Nat.{ℕ, zero, suc, ◌+◌, ◌-◌, ◌^◌, ◌≤◌, ◌<◌}
use mathlib.Core.Path.{◌≡◌, refl, sym, ◌∙◌, ap, ap₂, subst}
use mathlib.Core.Logic.{◌≢◌, ◌⊎◌, inl, inr, ⊎_elim, by_cases}
use mathlib.Core.Bool.{Bool, true, false, cond, true≢false}
use mathlib.Core.List.{List, [], ◌∷◌, head-eq_of_cons-eq, Memᴰ, ◌++◌}
use native.Mathlib.Decide.{ℕ_discrete}
use native.Mathlib.Omega.{arith}
use lib.Dec.{eqb, leb, ltb}
use lib.ListN.{length, get_or, drop, length-append}
use lib.Seq.{drop-cons}
use borrow.Author.Tests.{lt-ltb, le-ltb, lt-leb, le-leb, ltb-true, ltb-false, leb-true, eq-eqb, ne_eqb}
use Rattle.term.proofs.Tests.{bool_cases, cond-case}
use Rattle.cell.specs.Cell.{arity, is_var}
use Rattle.cell.proofs.CellLaws.{var-small, var-arity}
use Rattle.term.specs.Terms.{Terms, front}
use Rattle.term.specs.Unify.{inst, Subst, Unifies}
use Rattle.term.proofs.TermsLaws.{terms-long, front-zero}
use Rattle.term.proofs.Inst.{inst-++, inst-agree, inst-var, Terms-inst, Terms-var}
use Rattle.term.proofs.Step.{inst-symbol}
use Rattle.table.specs.All.{All}
use Rattle.answer.specs.code.Renamed.{var, Goal}
use Rattle.answer.specs.code.Loose.{RowLike}
use Rattle.walking.specs.code.Link.{ref, refs, steps, entries, Node, cell, made, Tables, Is, held, free, Bound}
use Rattle.walking.specs.code.Link as link
use Rattle.walking.proofs.ListLaws.{steps-length}
use Rattle.walking.proofs.RefLaws.{ref-cell, ref-made, Terms-ref, one-node}
use Rattle.classes.specs.code.Nodes.{Nodes, owns, at, Solves}
use Rattle.classes.specs.code.Finite.{Fin, bare, over, FinAll, no_more, and-more, variable}
use Rattle.classes.specs.code.Agrees.{Agrees}
use Rattle.classes.proofs.Joined.{get_d_past, vals}
use Rattle.classes.proofs.Search.{fin-class}
use Rattle.classes.proofs.ArrayLaws.{at-is}
use Rattle.alone.specs.code.Alone.{own, graph, Steady, Symbols}
use Rattle.alone.proofs.NewLaws.{own_is}

-- where a cell first stands in a list
unfoldable index : ℕ → List ℕ → ℕ
index v [] = 0
index v (c ∷ xs) = cond (eqb v c) 0 (suc (index v xs))

index_of : (v : ℕ) (xs : List ℕ) (r : ℕ) → r < length xs → get_or xs r 0 ≡ v → (index v xs < length xs) × (get_or xs (index v xs) 0 ≡ v)
unfolding index
index_of v [] r l e = absurd (let z : ⊥ = omega arith in z)
index_of v (c ∷ xs) zero l e = rw (eq-eqb v c (sym e)) (omega arith, e)
index_of v (c ∷ xs) (suc r) l e =
    by_cases (ℕ_discrete v c) (λ q. rw (eq-eqb v c q) (omega arith, sym q))
    (λ d. let h = index_of v xs r (omega arith) e in rw (ne_eqb v c d) (omega (arith, h.0), h.1))

index-low : (v : ℕ) (xs : List ℕ) → index v xs ≤ length xs
unfolding index
index-low v [] = omega arith
index-low v (c ∷ xs) = cond-case (eqb v c) (λ (n : ℕ). n ≤ suc (length xs)) (λ e. omega arith) (λ e. let h = index-low v xs in omega arith)

module _ {w : ℕ} {G sib rep : List ℕ} (g : Goal w G) (T : Tables G sib rep) {bs ns us bs' : List ℕ} {n e m : ℕ} {Θ : ℕ → List ℕ}
    (b : Bound G rep sib bs ns us n e m Θ)
    (ne : n < e) (some : 32 ≤ m) (few : m ≤ 64) (Y : Symbols n bs us bs') (sn : length ns ≡ 64) where
  abbrev N : Nodes
  N = graph bs' ns sib

  in-goal : length G ≤ 32
  in-goal = g.short

  -- a node, or nothing
  node? : (r : ℕ) → r < 64 → Node G rep m r ⊎ (Node G rep m r → ⊥)
  node? r l = go (ltb r 32) refl
    where
      no_cell : (r : ℕ) → 32 ≤ r → (m ≤ r) → Node G rep m r → ⊥
      no_cell r h k (cell a c) = omega (arith, g.short)
      no_cell r h k (made a c) = omega arith

      go : (x : Bool) → ltb r 32 ≡ x → Node G rep m r ⊎ (Node G rep m r → ⊥)
      go false q = low (ltb r m) refl
        where
          h : 32 ≤ r
          h = ltb-false r 32 q

          low : (y : Bool) → ltb r m ≡ y → Node G rep m r ⊎ (Node G rep m r → ⊥)
          low true o = inl (made (ltb-false r 32 q) (ltb-true r m o))
          low false o = inr (no_cell r (ltb-false r 32 q) (ltb-false r m o))
      go true q = low (ltb r (length G)) refl
        where
          out : r < 32 → (r < length G → get_or rep r 0 ≡ r → ⊥) → Node G rep m r → ⊥
          out h f (cell a c) = f a c
          out h f (made a c) = omega arith

          low : (y : Bool) → ltb r (length G) ≡ y → Node G rep m r ⊎ (Node G rep m r → ⊥)
          low true o = by_cases (ℕ_discrete (get_or rep r 0) r) (λ p. inl (cell (ltb-true r (length G) o) p)) (λ p. inr (out (ltb-true r 32 q) (λ a c. p c)))
          low false o = inr (out (ltb-true r 32 q) (λ a c. let k = ltb-false r (length G) o in omega arith))

  -- what stands for a number
  at-rep : (r : ℕ) → r < 64 → at rep r ≡ get_or rep r 0
  at-rep r l = at-is rep r (omega (arith, T.size))

  at_out : (r : ℕ) → 64 ≤ r → at rep r ≡ r
  at_out r l = get_d_past rep r r (omega (arith, T.size))

  -- a cell of the goal, or a number that is itself
  place? : (r : ℕ) → (r < length G) ⊎ (at rep r ≡ r)
  place? r = go (ltb r (length G)) (ltb r 64) refl refl
    where
      go : (x y : Bool) → ltb r (length G) ≡ x → ltb r 64 ≡ y → (r < length G) ⊎ (at rep r ≡ r)
      go true y p q = inl (ltb-true r (length G) p)
      go false true p q = inr (at-rep r (ltb-true r 64 q) ∙ T.others r (ltb-false r (length G) p) (ltb-true r 64 q))
      go false false p q = inr (at_out r (ltb-false r 64 q))

  at-cell : (r : ℕ) → r < length G → at rep r ≡ get_or rep r 0
  at-cell r l = at-rep r (omega (arith, in-goal))

  flat : (r : ℕ) → at rep (at rep r) ≡ at rep r
  flat r = ⊎_elim
      (λ l. rw (at-cell r l) (at-cell (get_or rep r 0) (T.inside r l) ∙ T.kept r l))
      (λ q. ap (at rep) q)
      (place? r)

  small : (r : ℕ) → r < 64 → at rep r < 64
  small r l = ⊎_elim (λ k. rw (at-cell r k) (omega (arith, T.inside r k, in-goal))) (λ q. rw q l) (place? r)

  node-fixed : (r : ℕ) → Node G rep m r → at rep r ≡ r
  node-fixed r (cell l k) = at-cell r l ∙ k
  node-fixed r (made h l) = let x : r < 64 = omega arith in at-rep r x ∙ (T.up r h x).1

  node-64 : (r : ℕ) → Node G rep m r → r < 64
  node-64 r (cell l k) = omega (arith, in-goal)
  node-64 r (made h l) = omega arith

  pub node-m : (r : ℕ) → Node G rep m r → r < m
  node-m r (cell l k) = omega (arith, in-goal)
  node-m r (made h l) = omega arith

  -- what a node is, at the branch number n
  data Now (r : ℕ) : Type 0 where
    has : Node G rep m r → get_or bs' r 0 ≡ get_or bs r 0 → is_var (get_or bs r 0) ≡ false
        → inst Θ (ref G r) ≡ get_or bs r 0 ∷ inst Θ (refs G (link.goal_nodes rep sib (arity (get_or bs r 0)) (get_or ns r 0)))
        → link.GoalNodes G rep m (link.goal_nodes rep sib (arity (get_or bs r 0)) (get_or ns r 0))
        → All (λ (x : ℕ). x < 64) (steps sib (arity (get_or bs r 0)) (get_or ns r 0)) → Now r
    loose : Node G rep m r → get_or bs' r 0 ≡ 0 → (x : ℕ) → x < 64 → ref G r ≡ var x ∷ [] → Θ (var x) ≡ var x ∷ [] → Now r
    no_node : (Node G rep m r → ⊥) → get_or bs' r 0 ≡ 0 → Now r

  now? : (r : ℕ) → r < 64 → Now r
  now? r l = ⊎_elim (λ o. go o (b.is r o)) (λ o. no_node o (Y.unbound r l (b.later r o))) (node? r l)
    where
      go : Node G rep m r → Is G rep sib bs ns us n e m Θ r → Now r
      go o (held a h t k s) = has o (Y.bound r l (omega arith)) h t k s
      go o (free x lx a t f) = loose o (Y.unbound r l a) x lx t f

  bare-out : (r : ℕ) → 64 ≤ r → get_or bs' r 0 ≡ 0
  bare-out r l = get_d_past bs' r 0 (omega (arith, Y.size))

  -- an argument of a node: a cell of the goal or one made
  raw-low : (p : ℕ) → p < 64 → Node G rep m (get_or rep p 0) → p < m
  raw-low p l o = ⊎_elim (λ k. omega (arith, in-goal)) (λ q. node-m p (subst (λ (x : ℕ). Node G rep m x) (sym (at-rep p l) ∙ q) o)) (place? p)

  -- all terms are finite
  ref-long : (r : ℕ) → Node G rep m r → 1 ≤ length (inst Θ (ref G r))
  ref-long r o = terms-long (Terms-inst b.good (Terms-ref g T few o))

  fins : (d : ℕ) → ((r : ℕ) → Node G rep m r → length (inst Θ (ref G r)) ≤ d → Fin N rep r) → (ps : List ℕ) → All (λ (x : ℕ). x < 64) ps
      → link.GoalNodes G rep m (entries rep ps)
      → length (inst Θ (refs G (entries rep ps))) ≤ d → FinAll N rep ps
  unfolding refs
  fins d ih [] a o l = no_more
  fins d ih (p ∷ ps) a (link.cons o os) l =
      let q = inst-++ Θ (ref G (get_or rep p 0)) (refs G (entries rep ps)) in
      let k = ap length q ∙ length-append (inst Θ (ref G (get_or rep p 0))) (inst Θ (refs G (entries rep ps))) in
      let c : at rep (get_or rep p 0) ≡ at rep p = rw (← (at-rep p a.0)) (flat p) in
      and-more (fin-class c (ih (get_or rep p 0) o (omega arith))) (fins d ih ps a.1 os (omega arith))

  fin-to : (d r : ℕ) → Node G rep m r → length (inst Θ (ref G r)) ≤ d → Fin N rep r
  fin-to zero r o l = absurd (let k = ref-long r o in let z : ⊥ = omega arith in z)
  fin-to (suc d) r o l = go (now? r (node-64 r o)) (fin-to d)
    where
      go : Now r → ((s : ℕ) → Node G rep m s → length (inst Θ (ref G s)) ≤ d → Fin N rep s) → Fin N rep r
      go (no_node f z) ih = absurd (f o)
      go (loose k z x lx t f) ih = bare {r = r} (rw (node-fixed r o) z)
      go (has k q h t ks s) ih =
          let nz : get_or bs r 0 ≢ 0 = λ y. true≢false (sym (var-small (get_or bs r 0) (omega arith)) ∙ h) in
          over {r = r} (rw (node-fixed r o, q) nz) (rw (node-fixed r o, q)
          (fins d ih (steps sib (arity (get_or bs r 0)) (get_or ns r 0)) s ks (omega (arith, ap length t))))

  finite : (r : ℕ) → Fin N rep r
  finite r = go (ltb r 64) refl
    where
      itself : at rep r ≡ r → get_or bs' r 0 ≡ 0 → Fin N rep r
      itself q z = bare {r = r} (rw q z)

      go : (x : Bool) → ltb r 64 ≡ x → Fin N rep r
      go false q = itself (at_out r (ltb-false r 64 q)) (bare-out r (ltb-false r 64 q))
      go true q =
          let l = ltb-true r 64 q in
          ⊎_elim
          (λ o. fin-to (length (inst Θ (ref G r))) r o (omega arith))
          (λ o. ⊎_elim
          (λ k. let o' : Node G rep m (get_or rep r 0) = cell (T.inside r k) (T.kept r k) in
          let c : at rep (get_or rep r 0) ≡ at rep r = rw (← (at-rep r l)) (flat r) in
          fin-class c (fin-to (length (inst Θ (ref G (get_or rep r 0)))) (get_or rep r 0) o' (omega arith)))
          (λ p. itself p (Y.unbound r l (b.later r o)))
          (place? r))
          (node? r l)

  -- a node with a symbol
  symbol-node : (r : ℕ) → get_or bs' r 0 ≢ 0 → Node G rep m r × (get_or bs' r 0 ≡ get_or bs r 0) × (is_var (get_or bs r 0) ≡ false)
      × (inst Θ (ref G r) ≡ get_or bs r 0 ∷ inst Θ (refs G (link.goal_nodes rep sib (arity (get_or bs r 0)) (get_or ns r 0))))
      × link.GoalNodes G rep m (link.goal_nodes rep sib (arity (get_or bs r 0)) (get_or ns r 0))
      × All (λ (x : ℕ). x < 64) (steps sib (arity (get_or bs r 0)) (get_or ns r 0))
  symbol-node r nz = go (ltb r 64) refl
    where
      by : Now r → Node G rep m r × (get_or bs' r 0 ≡ get_or bs r 0) × (is_var (get_or bs r 0) ≡ false)
          × (inst Θ (ref G r) ≡ get_or bs r 0 ∷ inst Θ (refs G (link.goal_nodes rep sib (arity (get_or bs r 0)) (get_or ns r 0))))
          × link.GoalNodes G rep m (link.goal_nodes rep sib (arity (get_or bs r 0)) (get_or ns r 0))
          × All (λ (x : ℕ). x < 64) (steps sib (arity (get_or bs r 0)) (get_or ns r 0))
      by (has o q h t k s) = (o, q, h, t, k, s)
      by (loose o z x lx t f) = absurd (nz z)
      by (no_node f z) = absurd (nz z)

      go : (x : Bool) → ltb r 64 ≡ x → Node G rep m r × (get_or bs' r 0 ≡ get_or bs r 0) × (is_var (get_or bs r 0) ≡ false)
          × (inst Θ (ref G r) ≡ get_or bs r 0 ∷ inst Θ (refs G (link.goal_nodes rep sib (arity (get_or bs r 0)) (get_or ns r 0))))
          × link.GoalNodes G rep m (link.goal_nodes rep sib (arity (get_or bs r 0)) (get_or ns r 0))
          × All (λ (x : ℕ). x < 64) (steps sib (arity (get_or bs r 0)) (get_or ns r 0))
      go true q = by (now? r (ltb-true r 64 q))
      go false q = absurd (nz (bare-out r (ltb-false r 64 q)))

  raws-low : (ps : List ℕ) → All (λ (x : ℕ). x < 64) ps → link.GoalNodes G rep m (entries rep ps) → All (λ (x : ℕ). x < m) ps
  raws-low [] a o = tt
  raws-low (p ∷ ps) a (link.cons o os) = (raw-low p a.0 o, raws-low ps a.1 os)

  pub steady : Steady sib bs' ns rep m
  steady = record {
    ready = record {
      size = T.size;
      flat = record { fixed = flat };
      small = small;
      kids = λ r l nz. let o = symbol-node r nz in rw o.1 o.5;
    };
    fair = record {
      term = λ r. Terms-var (var-small _ (own-small r));
      symbol = λ r nz. let o = symbol-node r nz in rw o.1 o.2;
      number = λ r nz. steps-length sib (arity (get_or bs' r 0)) (get_or ns r 0);
    };
    closed = λ r nz. let o = symbol-node r nz in rw (node-fixed r o.0) (refl, refl);
    finite = finite;
    within = record {
      sorts = λ r l. let q : var r - var 0 ≡ r = omega arith in variable (var r) (var-small (var r) (omega arith)) (own_is r l) (rw q refl);
      kids-in = λ r l nz. let o = symbol-node r nz in rw o.1 o.5;
      rep_in = small;
      out = λ r l. (at_out r l, bare-out r l);
    };
    bare =
        λ r l. by_cases (ℕ_discrete (get_or bs' r 0) 0) (λ z. z)
        (λ nz. absurd (let o = symbol-node r nz in let k = node-m r o.0 in let z : ⊥ = omega arith in z));
    selves = λ r l. ⊎_elim (λ k. absurd (let i = T.inside r k in let q = at-cell r k in let z : ⊥ = omega (arith, in-goal) in z)) (λ q. q) (place? r);
    fixed = λ r l. ⊎_elim (λ k. absurd (let z : ⊥ = omega (arith, in-goal) in z)) (λ q. q) (place? r);
    kids-low = λ r nz. let o = symbol-node r nz in rw o.1 (raws-low (steps sib (arity (get_or bs r 0)) (get_or ns r 0)) o.5 o.4);
    some = some;
    few = few;
    size-bound = Y.size;
    size-args = sn;
    next = λ r h l. (T.up r h l).0;
  }
    where
      own-small : (r : ℕ) → var (cond (ltb r 64) r 64) < 2 ^ 30
      own-small r = go (ltb r 64) refl
        where
          go : (x : Bool) → ltb r 64 ≡ x → var (cond x r 64) < 2 ^ 30
          go true q = let l = ltb-true r 64 q in omega arith
          go false q = omega arith

  -- FROM A UNIFIER TO A SOLUTION. Each node has what the walk's substitution and the unifier make of what it stands for.
  ref-term : (r : ℕ) → r < 64 → (r < length G) ⊎ (32 ≤ r) → Terms 1 (ref G r)
  ref-term r l (inl k) = rw (← (T.same r k)) (Terms-ref g T few (cell (T.inside r k) (T.kept r k)))
  ref-term r l (inr h) = rw (ref-made G r h) (Terms-var (var-small (var r) (omega arith)))

  is-there : (p : ℕ) → p < 64 → Node G rep m (get_or rep p 0) → (p < length G) ⊎ (32 ≤ p)
  is-there p l o = ⊎_elim (λ k. inl k) (λ q. go (subst (λ (x : ℕ). Node G rep m x) (sym (at-rep p l) ∙ q) o)) (place? p)
    where
      go : Node G rep m p → (p < length G) ⊎ (32 ≤ p)
      go (cell a c) = inl a
      go (made a c) = inr a

  ref-rep : (p : ℕ) → p < 64 → ref G (get_or rep p 0) ≡ ref G p
  ref-rep p l = ⊎_elim (λ k. T.same p k) (λ q. ap (ref G) (sym (at-rep p l) ∙ q)) (place? p)

  module _ (σ : ℕ → List ℕ) (sσ : Subst σ) where
    val_of : ℕ → List ℕ
    val_of r = cond (leb 32 r) (inst σ (inst Θ (ref G r))) (cond (ltb r (length G)) (inst σ (inst Θ (ref G r))) (var r ∷ []))

    τ : ℕ → List ℕ
    τ c = cond (ltb c (var 0)) (σ c) (cond (ltb c (var 64)) (val_of (c - var 0)) (σ c))

    val_is : (r : ℕ) → (r < length G) ⊎ (32 ≤ r) → val_of r ≡ inst σ (inst Θ (ref G r))
    unfolding val_of
    val_is r (inl k) = rw (lt-leb 32 r (omega (arith, in-goal)), lt-ltb r (length G) k)
    val_is r (inr h) = rw (le-leb 32 r h)

    τ-row : (c : ℕ) → c < 2 ^ 16 → τ c ≡ σ c
    unfolding τ
    τ-row c l = rw (lt-ltb c (var 0) (omega arith))

    τ-node : (r : ℕ) → r < 64 → τ (var r) ≡ val_of r
    unfolding τ
    τ-node r l = let q : var r - var 0 ≡ r = omega arith in rw (le-ltb (var r) (var 0) (omega arith), lt-ltb (var r) (var 64) (omega arith), q)

    val-term : (r : ℕ) → r < 64 → Terms 1 (val_of r)
    unfolding val_of
    val-term r l =
        cond-case (leb 32 r) (λ (x : List ℕ). Terms 1 x)
        (λ q. Terms-inst sσ (Terms-inst b.good (ref-term r l (inr (leb-true 32 r q)))))
        (λ q. cond-case (ltb r (length G)) (λ (x : List ℕ). Terms 1 x)
        (λ o. Terms-inst sσ (Terms-inst b.good (ref-term r l (inl (ltb-true r (length G) o)))))
        (λ o. Terms-var (var-small (var r) (omega arith))))

    τ-good : Subst τ
    unfolding τ
    τ-good = record {
      vars = λ c h. cond-case (ltb c (var 0)) (λ (x : List ℕ). Terms 1 x) (λ q. sσ.vars c h)
          (λ q. cond-case (ltb c (var 64)) (λ (x : List ℕ). Terms 1 x)
          (λ o. val-term (c - var 0) (let u = ltb-true c (var 64) o in let w = ltb-false c (var 0) q in omega arith)) (λ o. sσ.vars c h));
      symbols = λ c h. let k = symbol-big c h in rw (le-ltb c (var 0) (omega arith), le-ltb c (var 64) (omega arith)) (sσ.symbols c h);
    }
      where
        symbol-big : (c : ℕ) → is_var c ≡ false → 2 ^ 30 ≤ c
        symbol-big c h = go (ltb c (2 ^ 30)) refl
          where
            go : (x : Bool) → ltb c (2 ^ 30) ≡ x → 2 ^ 30 ≤ c
            go true q = absurd (true≢false (sym (var-small c (ltb-true c (2 ^ 30) q)) ∙ h))
            go false q = ltb-false c (2 ^ 30) q

    -- what a node and what arguments are worth
    worth : (r : ℕ) → r < 64 → (r < length G) ⊎ (32 ≤ r) → inst τ (own r) ≡ inst σ (inst Θ (ref G r))
    worth r l h = ap (inst τ) (own_is r l) ∙ inst-var τ (var r) ∙ τ-node r l ∙ val_is r h

    worths : (ps : List ℕ) → All (λ (x : ℕ). x < 64) ps → link.GoalNodes G rep m (entries rep ps) → vals N τ ps ≡ inst σ (inst Θ (refs G (entries rep ps)))
    unfolding refs owns inst
    worths [] a o = refl
    worths (p ∷ ps) a (link.cons o os) =
        inst-++ τ (own p) (owns N ps)
        ∙ ap₂ ◌++◌ (worth p a.0 (is-there p a.0 o) ∙ ap (λ (x : List ℕ). inst σ (inst Θ x)) (sym (ref-rep p a.0))) (worths ps a.1 os)
        ∙ sym (ap (inst σ) (inst-++ Θ (ref G (get_or rep p 0)) (refs G (entries rep ps)))
        ∙ inst-++ σ (inst Θ (ref G (get_or rep p 0))) (inst Θ (refs G (entries rep ps))))

    node-there : (r : ℕ) → Node G rep m r → (r < length G) ⊎ (32 ≤ r)
    node-there r (cell a c) = inl a
    node-there r (made a c) = inr a

    τ-solves : Solves N rep τ
    τ-solves = record {
      good = τ-good;
      classes = λ r. ⊎_elim
          (λ k. let l : r < 64 = omega (arith, in-goal) in let i = T.inside r k in
          worth r l (inl k) ∙ ap (λ (x : List ℕ). inst σ (inst Θ x)) (sym (T.same r k))
          ∙ rw (at-cell r k) (sym (worth (get_or rep r 0) (omega (arith, in-goal)) (inl i))))
          (λ q. ap (λ (x : ℕ). inst τ (own x)) (sym q))
          (place? r);
      heads = λ r nz.
          let o = symbol-node r nz in
          let c = get_or bs r 0 in
          let ps = steps sib (arity c) (get_or ns r 0) in
          rw o.1
          (worth r (node-64 r o.0) (node-there r o.0) ∙ ap (inst σ) o.3 ∙ inst-symbol c (inst Θ (refs G (entries rep ps))) sσ o.2
          ∙ ap (λ (x : List ℕ). c ∷ x) (sym (worths ps o.5 o.4)));
    }

    -- the nodes at open places
    worth-nodes : (rs : List ℕ) → link.GoalNodes G rep m rs → vals N τ rs ≡ inst σ (inst Θ (refs G rs))
    unfolding refs owns inst
    worth-nodes [] o = refl
    worth-nodes (r ∷ rs) (link.cons o os) =
        inst-++ τ (own r) (owns N rs) ∙ ap₂ ◌++◌ (worth r (node-64 r o) (node-there r o)) (worth-nodes rs os)
        ∙ sym (ap (inst σ) (inst-++ Θ (ref G r) (refs G rs)) ∙ inst-++ σ (inst Θ (ref G r)) (inst Θ (refs G rs)))

  pub means-to : (X rs : List ℕ) → RowLike X → link.GoalNodes G rep m rs → Unifies X (inst Θ (refs G rs)) → Agrees N rep X rs
  means-to X rs r o u = record {
    by = τ u.by u.good;
    solves = τ-solves u.by u.good;
    same = inst-agree (τ u.by u.good) u.by X (λ c q. row-cell c q) ∙ u.same ∙ sym (worth-nodes u.by u.good rs o);
  }
    where
      row-cell : (c : ℕ) → Memᴰ c X → τ u.by u.good c ≡ u.by c
      row-cell c q =
          ⊎_elim (λ h. τ-row u.by u.good c (r.low c q h)) (λ h. (τ-good u.by u.good).symbols c h ∙ sym (u.good.symbols c h))
          (bool_cases (is_var c))

  -- FROM A SOLUTION TO A UNIFIER. A variable of the goal is worth what its node is.
  cell-var : (r x : ℕ) → x < 64 → r < length G → ref G r ≡ var x ∷ [] → get_or G r 0 ≡ var x
  unfolding front
  cell-var r x lx l e =
      let k : r < 32 = omega (arith, in-goal) in
      let q : get_or G r 0 ∷ front (arity (get_or G r 0) + 0) (drop (suc r) G) ≡ var x ∷ [] = sym (ap (front 1) (drop-cons G r 0 l)) ∙ sym (ref-cell G r k) ∙ e in
      head-eq_of_cons-eq q

  var-cell : (p x : ℕ) → x < 64 → p < length G → get_or G p 0 ≡ var x → ref G p ≡ var x ∷ []
  unfolding front
  var-cell p x lx l e =
      let k : p < 32 = omega (arith, in-goal) in
      let z : arity (var x) + 0 ≡ 0 = (let y = var-arity (var x) (var-small (var x) (omega arith)) in omega arith) in
      ref-cell G p k ∙ ap (front 1) (drop-cons G p 0 l ∙ ap (λ (c : ℕ). c ∷ drop (suc p) G) e) ∙ ap (λ (n : ℕ). var x ∷ front n (drop (suc p) G)) z
      ∙ ap (λ (l : List ℕ). var x ∷ l) (front-zero (drop (suc p) G))

  module _ (ρ : ℕ → List ℕ) (S : Solves N rep ρ) where
    node_for : ℕ → ℕ
    node_for x = cond (ltb x 32) (at rep (index (var x) G)) x

    node-small : (x : ℕ) → x < 64 → node_for x < 64
    unfolding node_for
    node-small x l = cond-case (ltb x 32) (λ (n : ℕ). n < 64) (λ q. small (index (var x) G) (let h = index-low (var x) G in omega (arith, in-goal))) (λ q. l)

    φ : ℕ → List ℕ
    φ c = cond (ltb c (var 0)) (ρ c) (cond (ltb c (var 64)) (ρ (var (node_for (c - var 0)))) (ρ c))

    φ-row : (c : ℕ) → c < 2 ^ 16 → φ c ≡ ρ c
    unfolding φ
    φ-row c l = rw (lt-ltb c (var 0) (omega arith))

    φ-var : (x : ℕ) → x < 64 → φ (var x) ≡ ρ (var (node_for x))
    unfolding φ
    φ-var x l = let q : var x - var 0 ≡ x = omega arith in rw (le-ltb (var x) (var 0) (omega arith), lt-ltb (var x) (var 64) (omega arith), q)

    φ-good : Subst φ
    unfolding φ
    φ-good = record {
      vars = λ c h. cond-case (ltb c (var 0)) (λ (x : List ℕ). Terms 1 x) (λ q. S.good.vars c h)
          (λ q. cond-case (ltb c (var 64)) (λ (x : List ℕ). Terms 1 x)
          (λ o. let u = ltb-true c (var 64) o in let w = ltb-false c (var 0) q in let k = node-small (c - var 0) (omega arith) in
          S.good.vars (var (node_for (c - var 0))) (var-small _ (omega arith)))
          (λ o. S.good.vars c h));
      symbols = λ c h. let k = symbol-big c h in rw (le-ltb c (var 0) (omega arith), le-ltb c (var 64) (omega arith)) (S.good.symbols c h);
    }
      where
        symbol-big : (c : ℕ) → is_var c ≡ false → 2 ^ 30 ≤ c
        symbol-big c h = go (ltb c (2 ^ 30)) refl
          where
            go : (x : Bool) → ltb c (2 ^ 30) ≡ x → 2 ^ 30 ≤ c
            go true q = absurd (true≢false (sym (var-small c (ltb-true c (2 ^ 30) q)) ∙ h))
            go false q = ltb-false c (2 ^ 30) q

    -- the node of a node's variable is the node
    found : (r x : ℕ) → Node G rep m r → x < 64 → ref G r ≡ var x ∷ [] → node_for x ≡ r
    unfolding node_for
    found r x (cell l k) lx e =
        let v = T.vars r x lx l e in
        let i = index_of (var x) G r l (cell-var r x lx l e) in
        let p = index (var x) G in
        let o : Node G rep m (get_or rep p 0) = cell (T.inside p i.0) (T.kept p i.0) in
        rw (lt-ltb x 32 v, at-cell p i.0) (one-node g T (get_or rep p 0) r x lx o (cell l k) (T.same p i.0 ∙ var-cell p x lx i.0 i.1) e)
    found r x (made h l) lx e =
        let q : var r ∷ [] ≡ var x ∷ [] = sym (ref-made G r h) ∙ e in
        let z : var r ≡ var x = head-eq_of_cons-eq q in
        let y : 32 ≤ x = omega arith in
        rw (le-ltb x 32 y) (omega arith)

    backs : (d : ℕ) → ((r : ℕ) → Node G rep m r → length (inst Θ (ref G r)) ≤ d → inst φ (inst Θ (ref G r)) ≡ inst ρ (own r)) → (ps : List ℕ)
        → All (λ (x : ℕ). x < 64) ps
        → link.GoalNodes G rep m (entries rep ps) → length (inst Θ (refs G (entries rep ps))) ≤ d → inst φ (inst Θ (refs G (entries rep ps))) ≡ vals N ρ ps
    unfolding refs owns inst
    backs d ih [] a o l = refl
    backs d ih (p ∷ ps) a (link.cons o os) l =
        let q = inst-++ Θ (ref G (get_or rep p 0)) (refs G (entries rep ps)) in
        let k = ap length q ∙ length-append (inst Θ (ref G (get_or rep p 0))) (inst Θ (refs G (entries rep ps))) in
        let c : inst ρ (own (get_or rep p 0)) ≡ inst ρ (own p) = rw (← (at-rep p a.0)) (sym (S.classes p)) in
        ap (inst φ) q ∙ inst-++ φ (inst Θ (ref G (get_or rep p 0))) (inst Θ (refs G (entries rep ps)))
        ∙ ap₂ ◌++◌ (ih (get_or rep p 0) o (omega arith) ∙ c) (backs d ih ps a.1 os (omega arith)) ∙ sym (inst-++ ρ (own p) (owns N ps))

    back_to : (d r : ℕ) → Node G rep m r → length (inst Θ (ref G r)) ≤ d → inst φ (inst Θ (ref G r)) ≡ inst ρ (own r)
    back_to zero r o l = absurd (let k = ref-long r o in let z : ⊥ = omega arith in z)
    back_to (suc d) r o l = go (now? r (node-64 r o)) (back_to d)
      where
        go : Now r → ((s : ℕ) → Node G rep m s → length (inst Θ (ref G s)) ≤ d → inst φ (inst Θ (ref G s)) ≡ inst ρ (own s))
            → inst φ (inst Θ (ref G r)) ≡ inst ρ (own r)
        go (no_node f z) ih = absurd (f o)
        go (loose k z x lx t f) ih =
            ap (inst φ) (ap (inst Θ) t ∙ inst-var Θ (var x) ∙ f) ∙ inst-var φ (var x) ∙ φ-var x lx ∙ ap (λ (n : ℕ). ρ (var n)) (found r x o lx t)
            ∙ sym (ap (inst ρ) (own_is r (node-64 r o)) ∙ inst-var ρ (var r))
        go (has k q h t ks s) ih =
            let c = get_or bs r 0 in
            let ps = steps sib (arity c) (get_or ns r 0) in
            let nz : get_or bs' r 0 ≢ 0 = λ y. true≢false (sym (var-small c (omega arith)) ∙ h) in
            ap (inst φ) t ∙ inst-symbol c (inst Θ (refs G (entries rep ps))) φ-good h
            ∙ ap (λ (x : List ℕ). c ∷ x) (backs d ih ps s ks (omega (arith, ap length t)))
            ∙ sym (rw q at (S.heads r nz))

    back-nodes : (rs : List ℕ) → link.GoalNodes G rep m rs → inst φ (inst Θ (refs G rs)) ≡ vals N ρ rs
    unfolding refs owns inst
    back-nodes [] o = refl
    back-nodes (r ∷ rs) (link.cons o os) =
        ap (inst φ) (inst-++ Θ (ref G r) (refs G rs)) ∙ inst-++ φ (inst Θ (ref G r)) (inst Θ (refs G rs))
        ∙ ap₂ ◌++◌ (back_to (length (inst Θ (ref G r))) r o (omega arith)) (back-nodes rs os) ∙ sym (inst-++ ρ (own r) (owns N rs))

  pub means-from : (X rs : List ℕ) → RowLike X → link.GoalNodes G rep m rs → Agrees N rep X rs → Unifies X (inst Θ (refs G rs))
  means-from X rs r o a = record {
    by = φ a.by a.solves;
    good = φ-good a.by a.solves;
    same = inst-agree (φ a.by a.solves) a.by X (λ c q. row-cell c q) ∙ a.same ∙ sym (back-nodes a.by a.solves rs o);
  }
    where
      row-cell : (c : ℕ) → Memᴰ c X → φ a.by a.solves c ≡ a.by c
      row-cell c q =
          ⊎_elim (λ h. φ-row a.by a.solves c (r.low c q h)) (λ h. (φ-good a.by a.solves).symbols c h ∙ sym (a.solves.good.symbols c h))
          (bool_cases (is_var c))
