-- The link between bindings and substitution: it goes past what other branches write, and from a state to the state below one of its branches.
use Prim.Native.Nat.{ℕ, zero, suc, ◌+◌, ◌≤◌, ◌<◌}
use mathlib.Core.Path.{◌≡◌, refl, sym, ◌∙◌, ap, ap₂}
use mathlib.Core.Logic.{◌≢◌, ◌⊎◌, inl, inr, ⊎_elim, by_cases}
use mathlib.Core.Bool.{true, false, cond}
use mathlib.Core.List.{List, [], ◌∷◌, ◌++◌}
use native.Mathlib.Omega.{arith}
use native.Mathlib.Decide.{ℕ_discrete}
use lib.Dec.{leb}
use lib.ListN.{length, get_or, set}
use lib.Seq.{sets, get_or-set_same, get_or-set_other}
use borrow.Author.Tests.{ne_eqb, leb-true, leb-false}
use Rattle.cell.specs.Cell.{arity, is_var}
use Rattle.cell.proofs.CellLaws.{var-arity, var-small}
use Rattle.term.specs.Terms.{Terms}
use Rattle.term.specs.Unify.{inst, Subst}
use Rattle.term.proofs.Tests.{bool_cases, eqb_same}
use Rattle.term.proofs.TermsLaws.{front-++, back-++}
use Rattle.term.proofs.Inst.{inst-++, then, inst-then, Terms-inst, Subst-then, bind-same, bind-other, Subst-id, Subst-bind, Terms-symbol, inst-var}
use Rattle.term.specs.Bind.{id_s, bind}
use Rattle.term.proofs.Step.{inst-symbol, Terms-fresh}
use Rattle.table.specs.All.{All}
use Rattle.table.proofs.AllLaws.{all-each, all-front, all_back}
use Rattle.table.specs.Table.{up_from}
use Rattle.table.proofs.HeadLaws.{up-length}
use Rattle.answer.specs.code.After.{stuck, left, meet, after}
use Rattle.answer.specs.code.Renamed.{var, Goal}
use Rattle.answer.proofs.CountLaws.{up-distinct}
use Rattle.walking.specs.code.Link.{ref, refs, steps, entries, goal_nodes, Node, cell, made, GoalNodes, nil, Tables, Is, held, free, Bound, Linked}
use Rattle.walking.proofs.ListLaws.{entries-++, entries_below, entries-stored, entries-length, steps-length, new-made}
use Rattle.walking.proofs.RefLaws.{ref-made, refs-++, nodes-split, nodes-++, node-more, nodes-more, up-nodes, steps_up, nodes-up, up-all}
use Rattle.walking.proofs.RefLaws.{up-refs, Terms-ref, Terms-refs, one-node}

-- a node that was made before, or one that was not
older : {G rep : List ℕ} (m : ℕ) {n r : ℕ} → 32 ≤ m → Node G rep n r → Node G rep m r ⊎ ((m ≤ r) × (32 ≤ r))
older m s (cell h k) = inl (cell h k)
older m {r = r} s (made h l) = ⊎_elim (λ p. inr (leb-true m r p, h)) (λ p. inl (made h (leb-false m r p))) (bool_cases (leb m r))

-- One decision at the place r, A before it and D after.
after-at : (n c : ℕ) {i : ℕ} {A T : List ℕ} (D : List ℕ) → Terms i A → Terms 1 T
    → after n i c (A ++ (T ++ D)) ≡ cond (is_var c) (left (A ++ D)) (meet n c A (T ++ D))
unfolding after
after-at n c {i} {A} {T} D a t = rw (front-++ (T ++ D) a, back-++ (T ++ D) a, back-++ D t)

module _ {w : ℕ} {G sib rep : List ℕ} (g : Goal w G) (T : Tables G sib rep) where
  node-low : {m r : ℕ} → Node G rep m r → m ≤ 64 → r < 64
  node-low (cell h k) l = omega (arith, g.short)
  node-low (made h k) l = omega arith

  -- a number from m on is no node yet
  not_made : {m r : ℕ} → 32 ≤ m → m ≤ r → Node G rep m r → ⊥
  not_made s h (cell k q) = omega (arith, g.short)
  not_made s h (made k l) = omega arith

  -- what holds for some branches, holds for fewer of them, with more nodes made
  is_within : {bs ns us : List ℕ} {n e m n' e' m' r : ℕ} {Θ : ℕ → List ℕ} → n ≤ n' → e' ≤ e → m ≤ m' → Is G rep sib bs ns us n e m Θ r
      → Is G rep sib bs ns us n' e' m' Θ r
  is_within h k l (held a v t o s) = held (omega arith) v t (nodes-more l o) s
  is_within h k l (free x lx a t f) = free x lx (omega arith) t f

  bound-within : {bs ns us : List ℕ} {n e m : ℕ} (n' e' m' : ℕ) {Θ : ℕ → List ℕ} → 32 ≤ m → m' ≤ 64 → n ≤ n' → e' ≤ e → m ≤ m'
      → Bound G rep sib bs ns us n e m Θ
      → Bound G rep sib bs ns us n' e' m' Θ
  bound-within {m = m} n' e' m' s few h k l b = record {
    good = b.good;
    is = λ r o. ⊎_elim
        (λ q. is_within h k l (b.is r q))
        (λ q. free r (node-low o few) (omega (arith, b.later r (not_made s q.0))) (ref-made G r q.1) (b.fresh r q.0))
        (older m s o);
    fresh = λ u q. b.fresh u (omega arith);
    later = λ r o. omega (arith, b.later r (λ q. o (node-more l q)));
  }

  -- What a branch binds is not seen by those that are not below it.
  module _ (bs ns us : List ℕ) (v c x : ℕ) {i sk : ℕ} (lv : v < length us) (low : get_or us v 0 ≤ i) (on : i < sk) {n e : ℕ} (past : sk ≤ n) (l : n ≤ e) where
    us-here : get_or (set us v sk) v 0 ≡ sk
    us-here = get_or-set_same us v sk 0 lv

    us-other : (r : ℕ) → r ≢ v → get_or (set us v sk) r 0 ≡ get_or us r 0
    us-other r h = get_or-set_other us v r sk 0 h

    bs-other : (r : ℕ) → r ≢ v → get_or (set bs v c) r 0 ≡ get_or bs r 0
    bs-other r h = get_or-set_other bs v r c 0 h

    ns-other : (r : ℕ) → r ≢ v → get_or (set ns v x) r 0 ≡ get_or ns r 0
    ns-other r h = get_or-set_other ns v r x 0 h

    is-past : {m r : ℕ} {Θ : ℕ → List ℕ} → Is G rep sib bs ns us n e m Θ r → Is G rep sib (set bs v c) (set ns v x) (set us v sk) n e m Θ r
    is-past {r = r} (held a h t o s) =
        let d : r ≢ v = λ q. let a' : e ≤ get_or us v 0 = rw (← q) a in let z : ⊥ = omega arith in z in
        held (rw (us-other r d) a) (rw (bs-other r d) h) (rw (bs-other r d, ns-other r d) t) (rw (bs-other r d, ns-other r d) o)
        (rw (bs-other r d, ns-other r d) s)
    is-past {r = r} (free y ly a t f) = by_cases (ℕ_discrete r v)
        (λ q. free y ly (rw (q, us-here) past) t f)
        (λ q. free y ly (rw (us-other r q) a) t f)

    bound-past : {m : ℕ} {Θ : ℕ → List ℕ} → Bound G rep sib bs ns us n e m Θ → Bound G rep sib (set bs v c) (set ns v x) (set us v sk) n e m Θ
    bound-past b = record {
      good = b.good;
      is = λ r o. is-past (b.is r o);
      fresh = b.fresh;
      later = λ u q. by_cases (ℕ_discrete u v) (λ z. rw (z, us-here) past) (λ z. rw (us-other u z) (b.later u q));
    }

  -- nor are the references in slots that are new to it
  pub refs-past : {bs ns us rs : List ℕ} {n e m : ℕ} {slots R : List ℕ} (to : ℕ) (ks : List ℕ) → m ≤ to → Linked G rep sib bs ns us rs n e m slots R
      → Linked G rep sib bs ns us (sets rs to ks) n e m slots R
  refs-past {rs = rs} {m = m} {slots} to ks h L =
      let q : entries (sets rs to ks) slots ≡ entries rs slots
      = entries_below rs ks slots to (all-each (λ (s : ℕ). s < m) (λ (s : ℕ). s < to) (λ s k. omega arith) slots L.slots-made) in
      record { by = L.by; binds = L.binds; slots-made = L.slots-made; stand = rw q L.stand; same = rw q L.same; some = L.some; few = L.few }

  pub binding-past : {bs ns us rs : List ℕ} (v c x : ℕ) {i sk n e m : ℕ} {slots R : List ℕ} → v < length us → get_or us v 0 ≤ i → i < sk → sk ≤ n → n ≤ e
      → Linked G rep sib bs ns us rs n e m slots R → Linked G rep sib (set bs v c) (set ns v x) (set us v sk) rs n e m slots R
  binding-past {bs} {ns} {us} v c x lv low on past l L =
      record {
        by = L.by;
        binds = bound-past bs ns us v c x lv low on past l L.binds;
        slots-made = L.slots-made;
        stand = L.stand;
        same =
            L.same;
        some = L.some;
        few = L.few;
      }

  -- the rest of a state's branches
  pub linked-rest : {bs ns us rs : List ℕ} {n e m : ℕ} {slots R : List ℕ} (n' : ℕ) → n ≤ n' → Linked G rep sib bs ns us rs n e m slots R
      → Linked G rep sib bs ns us rs n' e m slots R
  linked-rest {e = e} {m} n' h L = record {
    by = L.by;
    binds = bound-within n' e m L.some (omega (arith, L.few)) h (omega arith) (omega arith) L.binds;
    slots-made = L.slots-made;
    stand = L.stand;
    same = L.same;
    some = L.some;
    few = L.few;
  }

  -- The state below a branch: R' is left of the goal there.
  pub record Down (bs ns us rs : List ℕ) (n e m : ℕ) (slots : List ℕ) (i c o : ℕ) (R : List ℕ) : Type 0 where
    pub rest : List ℕ
    pub leaves : after (var o) i c R ≡ left rest
    pub linked : Linked G rep sib bs ns us rs n e m slots rest

  module _ (A : List ℕ) (s : ℕ) (B : List ℕ) {bs ns us rs : List ℕ} {n e m : ℕ} {R : List ℕ} (L : Linked G rep sib bs ns us rs n e m (A ++ (s ∷ B)) R) where
    abbrev P : List ℕ
    P = entries rs A

    abbrev v : ℕ
    v = get_or rs s 0

    abbrev Q : List ℕ
    Q = entries rs B

    abbrev Θ : ℕ → List ℕ
    Θ = L.by

    cut : entries rs (A ++ (s ∷ B)) ≡ P ++ (v ∷ Q)
    cut = entries-++ rs A (s ∷ B)

    split : GoalNodes G rep m P × Node G rep m v × GoalNodes G rep m Q
    split = nodes-split P L.stand cut

    pub node-small : v < 64
    node-small = node-low split.1 (omega (arith, L.few))

    -- it is made before any new one
    new-node : (r : ℕ) → r ≡ v → m ≤ r → ⊥
    new-node r z h = not_made L.some (omega arith) split.1

    -- what the branch finds
    pub seen : Is G rep sib bs ns us n e m Θ v
    seen = L.binds.is v split.1

    parts : R ≡ inst Θ (refs G P) ++ (inst Θ (ref G v) ++ inst Θ (refs G Q))
    unfolding refs
    parts =
        L.same ∙ ap (λ (l : List ℕ). inst Θ (refs G l)) cut ∙ ap (inst Θ) (refs-++ G P (v ∷ Q)) ∙ inst-++ Θ (refs G P) (ref G v ++ refs G Q)
        ∙ ap (λ (l : List ℕ). inst Θ (refs G P) ++ l) (inst-++ Θ (ref G v) (refs G Q))

    joined : (σ : ℕ → List ℕ) (xs : List ℕ) → inst σ (refs G (P ++ (xs ++ Q))) ≡ inst σ (refs G P) ++ (inst σ (refs G xs) ++ inst σ (refs G Q))
    joined σ xs =
        ap (inst σ) (refs-++ G P (xs ++ Q) ∙ ap (λ (l : List ℕ). refs G P ++ l) (refs-++ G xs Q)) ∙ inst-++ σ (refs G P) (refs G xs ++ refs G Q)
        ∙ ap (λ (l : List ℕ). inst σ (refs G P) ++ l) (inst-++ σ (refs G xs) (refs G Q))

    at_after : (n c : ℕ) → after n (length A) c R
        ≡ cond (is_var c) (left (inst Θ (refs G P) ++ inst Θ (refs G Q))) (meet n c (inst Θ (refs G P)) (inst Θ (ref G v) ++ inst Θ (refs G Q)))
    at_after n c =
        let y = L.binds.good in
        let f : m ≤ 64 = omega (arith, L.few) in
        let t : Terms (length A) (inst Θ (refs G P)) = rw (entries-length rs A) at (Terms-inst y (Terms-refs g T f split.0)) in
        ap (after n (length A) c) parts ∙ after-at n c (inst Θ (refs G Q)) t (Terms-inst y (Terms-ref g T f split.1))

    -- the slots below, and the references in them once the new ones are stored
    below-made : (a : ℕ) → All (λ (x : ℕ). x < m + a) (A ++ (up_from m a ++ B))
    below-made a = new-made m a A B (all-front (λ (x : ℕ). x < m) A (s ∷ B) L.slots-made) (all_back (λ (x : ℕ). x < m) A (s ∷ B) L.slots-made).1

    below-refs : (ks : List ℕ) (a : ℕ) → a ≡ length ks → m + a ≤ length rs → entries (sets rs m ks) (A ++ (up_from m a ++ B)) ≡ P ++ (ks ++ Q)
    below-refs ks a e h =
        let old = L.slots-made in
        entries-++ (sets rs m ks) A (up_from m a ++ B)
        ∙ ap₂ ◌++◌ (entries_below rs ks A m (all-front (λ (x : ℕ). x < m) A (s ∷ B) old))
        (entries-++ (sets rs m ks) (up_from m a) B ∙ ap₂ ◌++◌ (entries-stored rs ks m a e h)
        (entries_below rs ks B m (all_back (λ (x : ℕ). x < m) A (s ∷ B) old).1))

    -- nothing bound: the nodes ks for the one
    kept : (n' e' c : ℕ) (ks : List ℕ) → n ≤ n' → e' ≤ e → arity c ≡ length ks → m + arity c < 64 → length rs ≡ 64 → GoalNodes G rep m ks
        → after (var m) (length A) c R ≡ left (inst Θ (refs G (P ++ (ks ++ Q))))
        → Down bs ns us (sets rs m ks) n' e' (m + arity c) (A ++ (up_from m (arity c) ++ B)) (length A) c m R
    kept n' e' c ks hn he ek f z o t =
        let q = below-refs ks (arity c) ek (omega arith) in
        let y = split in
        let up : m ≤ m + arity c = omega arith in
        record {
          rest = inst Θ (refs G (P ++ (ks ++ Q)));
          leaves = t;
          linked = record {
            by = Θ;
            binds = bound-within n' e' (m + arity c) L.some (omega arith) hn he up L.binds;
            slots-made = below-made (arity c);
            stand = rw q (nodes-++ (nodes-more up y.0) (nodes-++ (nodes-more up o) (nodes-more up y.2)));
            same = rw q;
            some = omega (arith, L.some);
            few = f;
          };
        }

    -- (1) the row has a variable
    pub down-variable : (n' e' c : ℕ) → n ≤ n' → e' ≤ e → length rs ≡ 64 → is_var c ≡ true
        → Down bs ns us rs n' e' (m + arity c) (A ++ (up_from m (arity c) ++ B)) (length A) c m R
    down-variable n' e' c hn he z h =
        let a = var-arity c h in
        kept n' e' c [] hn he a (omega (arith, L.few)) z nil
        (at_after (var m) c ∙ rw h (ap left (sym (ap (inst Θ) (refs-++ G P Q) ∙ inst-++ Θ (refs G P) (refs G Q)))))

    -- (2) the goal has the same symbol there
    pub down-same : (n' e' c : ℕ) → n < e → n ≤ n' → e' ≤ e → m + arity c < 64 → length rs ≡ 64 → is_var c ≡ false → n < get_or us v 0 → get_or bs v 0 ≡ c
        → Down bs ns us (sets rs m (goal_nodes rep sib (arity c) (get_or ns v 0))) n' e' (m + arity c) (A ++ (up_from m (arity c) ++ B)) (length A) c m R
    unfolding meet
    down-same n' e' c some hn he f z hc on q = go seen
      where
        go : Is G rep sib bs ns us n e m Θ v → Down bs ns us (sets rs m (goal_nodes rep sib (arity c) (get_or ns v 0))) n' e' (m + arity c)
            (A ++ (up_from m (arity c) ++ B)) (length A) c m R
        go (free x lx a t y) = absurd (let z : ⊥ = omega arith in z)
        go (held a h t o y) =
            let ks = goal_nodes rep sib (arity c) (get_or ns v 0) in
            let t' : inst Θ (ref G v) ≡ c ∷ inst Θ (refs G ks) = rw q at t in
            kept n' e' c ks hn he (sym (entries-length rep (steps sib (arity c) (get_or ns v 0)) ∙ steps-length sib (arity c) (get_or ns v 0))) f z (rw q at o)
            (at_after (var m) c ∙ rw (hc, t', hc, eqb_same c) (ap left (sym (joined Θ ks))))

    pub same-safe : (c : ℕ) → n < e → n < get_or us v 0 → get_or bs v 0 ≡ c → All (λ (x : ℕ). x < 64) (steps sib (arity c) (get_or ns v 0))
    same-safe c some on q = go seen
      where
        go : Is G rep sib bs ns us n e m Θ v → All (λ (x : ℕ). x < 64) (steps sib (arity c) (get_or ns v 0))
        go (free x lx a t y) = absurd (let z : ⊥ = omega arith in z)
        go (held a h t o y) = rw q at y

    -- (3) it has another symbol
    pub stuck-other : (c : ℕ) → n < e → is_var c ≡ false → n < get_or us v 0 → get_or bs v 0 ≢ c → after (var m) (length A) c R ≡ stuck
    unfolding meet
    stuck-other c some hc on q = go seen
      where
        go : Is G rep sib bs ns us n e m Θ v → after (var m) (length A) c R ≡ stuck
        go (free x lx a t y) = absurd (let z : ⊥ = omega arith in z)
        go (held a h t o y) = at_after (var m) c ∙ rw (hc, t, h, ne_eqb c (get_or bs v 0) (λ z. q (sym z)))

    -- (4) an unbound variable: the new binding, and the substitution followed by it
    module _ (c x : ℕ) (lx : x < 64) (hc : is_var c ≡ false) (fits : m + arity c < 64) (hx : ref G v ≡ var x ∷ []) (hf : Θ (var x) ≡ var x ∷ []) where
      ρ : ℕ → List ℕ
      ρ = bind (var x) (c ∷ up_from (var m) (arity c)) id_s

      Θ' : ℕ → List ℕ
      Θ' = then Θ ρ

      x-low : x < m
      x-low = go split.1 hx
        where
          go : {r : ℕ} → Node G rep m r → ref G r ≡ var x ∷ [] → x < m
          go (cell {r} h k) e = omega (arith, T.vars r x lx h e, L.some)
          go (made {r} h l) e = let q : var r ∷ [] ≡ var x ∷ [] = sym (ref-made G r h) ∙ e in let z : var r ≡ var x = cc in omega arith

      x-var : is_var (var x) ≡ true
      x-var = var-small (var x) (omega (arith, L.few, x-low))

      ρ-good : Subst ρ
      unfolding ρ
      ρ-good = Subst-bind (var x) x-var (Terms-symbol c (Terms-fresh (up-distinct (var m) (arity c) (omega arith)))) Subst-id

      ρ-other : (y : ℕ) → y ≢ x → ρ (var y) ≡ var y ∷ []
      unfolding ρ id_s
      ρ-other y h = bind-other (var x) (c ∷ up_from (var m) (arity c)) id_s (var y) (λ p. h (omega arith))

      ρ-here : ρ (var x) ≡ c ∷ up_from (var m) (arity c)
      unfolding ρ
      ρ-here = bind-same (var x) (c ∷ up_from (var m) (arity c)) id_s

      still : (y : ℕ) → Θ (var y) ≡ var y ∷ [] → y ≢ x → Θ' (var y) ≡ var y ∷ []
      unfolding Θ' then
      still y p h = rw p (inst-var ρ (var y) ∙ ρ-other y h)

      -- what is not made yet stays as it is
      new-still : (u a : ℕ) → m ≤ u → inst Θ' (up_from (var u) a) ≡ up_from (var u) a
      unfolding up_from inst
      new-still u zero h = refl
      new-still u (suc a) h =
          let q : suc (var u) ≡ var (suc u) = omega arith in
          let l = x-low in
          ap₂ ◌++◌ (still u (L.binds.fresh u h) (λ p. let z : ⊥ = omega arith in z)) (rw q (new-still (suc u) a (omega arith)))

      -- the arguments of the new binding
      new-kids : inst Θ' (refs G (up_from m (arity c))) ≡ up_from (var m) (arity c)
      new-kids = ap (inst Θ') (up-refs G m (arity c) L.some) ∙ new-still m (arity c) (omega arith)

      after-bind : after (var m) (length A) c R ≡ left (inst Θ' (refs G (P ++ (up_from m (arity c) ++ Q))))
      unfolding meet Θ' ρ
      after-bind =
          let e : inst Θ (ref G v) ≡ var x ∷ [] = ap (inst Θ) hx ∙ inst-var Θ (var x) ∙ hf in
          at_after (var m) c
          ∙ rw (hc, e, x-var)
          (ap left
          (ap₂ ◌++◌ (inst-then Θ ρ (refs G P)) (ap₂ ◌++◌ (sym new-kids) (inst-then Θ ρ (refs G Q)))
          ∙ sym (joined Θ' (up_from m (arity c)))))

      module _ (n' e' : ℕ) (hn : n ≤ n') (he : e' ≤ e) (size-b : length bs ≡ 64) (size-n : length ns ≡ 64) (size-u : length us ≡ 64) where
        abbrev bs' : List ℕ
        bs' = set bs v c

        abbrev ns' : List ℕ
        ns' = set ns v m

        abbrev us' : List ℕ
        us' = set us v e'

        abbrev Is' : ℕ → Type 0
        Is' r = Is G rep sib bs' ns' us' n' e' (m + arity c) Θ' r

        bs-here : get_or bs' v 0 ≡ c
        bs-here = get_or-set_same bs v c 0 (omega (arith, node-small))

        ns-here : get_or ns' v 0 ≡ m
        ns-here = get_or-set_same ns v m 0 (omega (arith, node-small))

        until-here : get_or us' v 0 ≡ e'
        until-here = get_or-set_same us v e' 0 (omega (arith, node-small))

        is-here : Is' v
        unfolding Θ' then
        is-here =
            let a = arity c in
            let k : goal_nodes rep sib a m ≡ up_from m a = nodes-up T m a L.some (omega arith) in
            let k' : steps sib a m ≡ up_from m a = steps_up T m a L.some (omega arith) in
            held (omega (arith, until-here)) (rw bs-here hc)
            (rw (bs-here, ns-here, k, new-kids) (ap (inst Θ') hx ∙ inst-var Θ' (var x) ∙ ap (inst ρ) hf ∙ inst-var ρ (var x) ∙ ρ-here))
            (rw (bs-here, ns-here, k) (up-nodes T (m + a) m a L.some (omega arith)))
            (rw (bs-here, ns-here, k') (up-all m a (omega arith)))

        is-other : (r : ℕ) → r ≢ v → Node G rep m r → Is G rep sib bs ns us n e m Θ r → Is' r
        unfolding Θ' then
        is-other r d o (held a h t k s) =
            let b = get_or bs r 0 in
            let ks = goal_nodes rep sib (arity b) (get_or ns r 0) in
            let xb = get_or-set_other bs v r c 0 d in
            let xn = get_or-set_other ns v r m 0 d in
            held (rw (get_or-set_other us v r e' 0 d) (omega arith)) (rw xb h)
            (rw (xb, xn) (sym (inst-then Θ ρ (ref G r)) ∙ ap (inst ρ) t ∙ inst-symbol b (inst Θ (refs G ks)) ρ-good h
            ∙ ap (λ (l : List ℕ). b ∷ l) (inst-then Θ ρ (refs G ks))))
            (rw (xb, xn) (nodes-more (omega arith) k))
            (rw (xb, xn) s)
        is-other r d o (free y ly a t f) =
            free y ly (rw (get_or-set_other us v r e' 0 d) (omega arith)) t
            (still y f (λ q. d (one-node g T r v x lx o split.1 (t ∙ ap (λ (z : ℕ). var z ∷ []) q) hx)))

        is-new : (r : ℕ) → r < 64 → m ≤ r → 32 ≤ r → Is' r
        is-new r lr h k =
            let q : r ≢ v = λ z. new-node r z h in
            let l = x-low in
            free r lr (rw (get_or-set_other us v r e' 0 q) (omega (arith, L.binds.later r (not_made L.some h)))) (ref-made G r k)
            (still r (L.binds.fresh r h) (λ z. let y : ⊥ = omega arith in y))

        bound-bind : Bound G rep sib bs' ns' us' n' e' (m + arity c) Θ'
        unfolding Θ'
        bound-bind = record {
          good = Subst-then L.binds.good ρ-good;
          is = λ r o. ⊎_elim
              (λ q. by_cases (ℕ_discrete r v) (λ z. rw z is-here) (λ z. is-other r z q (L.binds.is r q)))
              (λ q. is-new r (node-low o (omega arith)) q.0 q.1)
              (older m L.some o);
          fresh = λ u h. let l = x-low in still u (L.binds.fresh u (omega arith)) (λ z. let y : ⊥ = omega arith in y);
          later =
              λ r o. rw (get_or-set_other us v r e' 0 (λ z. o (rw z (node-more (omega arith) split.1))))
              (omega (arith, L.binds.later r (λ q. o (node-more (omega arith) q))));
        }

        down-new : length rs ≡ 64 → Down bs' ns' us' (sets rs m (goal_nodes rep sib (arity c) m)) n' e' (m + arity c) (A ++ (up_from m (arity c) ++ B))
            (length A) c m R
        down-new z =
            let a = arity c in
            let k : goal_nodes rep sib a m ≡ up_from m a = nodes-up T m a L.some (omega arith) in
            let q = below-refs (up_from m a) a (sym (up-length m a)) (omega arith) in
            let y = split in
            let up : m ≤ m + a = omega arith in
            record {
              rest = inst Θ' (refs G (P ++ (up_from m a ++ Q)));
              leaves = after-bind;
              linked = record {
                by = Θ';
                binds = bound-bind;
                slots-made = below-made a;
                stand = rw (k, q) (nodes-++ (nodes-more up y.0) (nodes-++ (up-nodes T (m + a) m a L.some (omega arith)) (nodes-more up y.2)));
                same = rw (k, q);
                some = omega (arith, L.some);
                few = fits;
              };
            }

    pub down-bind : (n' e' c : ℕ) → n < e → n ≤ n' → e' ≤ e → m + arity c < 64 → length bs ≡ 64 → length ns ≡ 64 → length us ≡ 64 → length rs ≡ 64
        → is_var c ≡ false → get_or us v 0 ≤ n
        → Down (set bs v c) (set ns v m) (set us v e') (sets rs m (goal_nodes rep sib (arity c) m)) n' e' (m + arity c)
        (A ++ (up_from m (arity c) ++ B)) (length A) c m R
    down-bind n' e' c some hn he f zb zn zu zr hc off = go seen
      where
        go : Is G rep sib bs ns us n e m Θ v
            → Down (set bs v c) (set ns v m) (set us v e') (sets rs m (goal_nodes rep sib (arity c) m)) n' e' (m + arity c)
            (A ++ (up_from m (arity c) ++ B)) (length A) c m R
        go (held a h t o y) = absurd (let z : ⊥ = omega arith in z)
        go (free x lx a t y) = down-new c x lx hc f t y n' e' hn he zb zn zu zr
