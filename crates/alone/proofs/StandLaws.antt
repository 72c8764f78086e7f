-- One branch of a row by itself: the state below it, by what its test finds. No law asks that the row uses a variable once.
use Prim.Native.Nat.{ℕ, zero, suc, ◌+◌, ◌^◌, ◌≤◌, ◌<◌}
use mathlib.Core.Path.{◌≡◌, refl, sym, ◌∙◌, ap, ap₂, subst}
use mathlib.Core.Logic.Iff
use mathlib.Core.Logic.{◌≢◌, ◌↔◌, ⊎_elim, by_cases}
use mathlib.Core.Bool.{Bool, true, false}
use mathlib.Core.List.Memᴰ
use mathlib.Core.List.{List, [], ◌∷◌, ◌++◌, append_assoc, Memᴰ}
use native.Mathlib.Decide.{ℕ_discrete}
use native.Mathlib.Omega.{arith}
use lib.Dec.{ltb}
use lib.ListN.{length, get_or, set, length-append, length-set}
use borrow.Author.Tests.{ltb-true, ltb-false}
use lib.Seq.{sets, get_or-set_same, get_or-set_other}
use Rattle.cell.specs.Cell.{arity, is_var}
use Rattle.cell.proofs.CellLaws.{var-arity, var-small}
use Rattle.term.specs.Terms.{Terms, more}
use Rattle.term.specs.Unify.{Unifies}
use Rattle.term.proofs.TermsLaws.{Terms-++}
use Rattle.term.specs.code.Fresh.{Fresh}
use Rattle.term.proofs.Step.{Terms-fresh}
use Rattle.term.specs.code.Fresh as fresh
use Rattle.table.specs.All.{All}
use Rattle.table.proofs.AllLaws.{all-each, all-front, all_back, all-++}
use Rattle.table.specs.Table.{count, up_from}
use Rattle.table.proofs.HeadLaws.{up-length}
use Rattle.answer.specs.Skeleton.{hole, fill, decide}
use Rattle.answer.specs.code.Renamed.{var}
use Rattle.answer.specs.code.Loose.{RowLike}
use Rattle.answer.proofs.CountLaws.{up_mem}
use Rattle.answer.proofs.SkeletonLaws.{Three, three, three-of, fill-decide, decide-count, part-row}
use Rattle.walking.specs.code.Link.{steps, entries}
use Rattle.walking.proofs.ListLaws.{entries-++, entries_below, entries-stored, entries-length, steps-length, new-made, up-range}
use Rattle.classes.specs.code.Nodes.{Nodes, at, join, reps, Merges, same, loose, bound, alike, MergesAll, nil, cons}
use Rattle.classes.specs.code.Finite.{Fin}
use Rattle.classes.specs.code.Agrees.{Agrees, Binds, New}
use Rattle.classes.specs.code.Arrays.{Ready}
use Rattle.classes.specs.code.Search.{Equals, equal, never}
use Rattle.classes.proofs.Joined.{closed, join-here, join-other}
use Rattle.classes.proofs.Search.{fin-merged}
use Rattle.classes.proofs.Kept.{within-merged, fair-bound, closed-bound, fin-bound, within-bound}
use Rattle.classes.proofs.Bind.{agree-bind}
use Rattle.classes.proofs.Agree.{agree_same, agree-other, agree-first, agree-again, agree-met}
use Rattle.classes.proofs.ArrayLaws.{at-is}
use Rattle.alone.specs.code.Alone.{own, graph, Steady, Pair, here, there, Keeps, Standing}
use Rattle.alone.proofs.NewLaws.{all-mem, new-nodes, new-cells, steps-new, not_new, at_low, entries_at, reps-low, agree-reps}

-- deciding a cell c at place i of a row: what the state below it means
module _ {R : List ℕ} (K : List ℕ) (i j c : ℕ) (hc : c ≢ hole) (e : count hole K ≡ i + suc j) (S S' : List ℕ → Type 0) where
  means-next : ((X : List ℕ) → Terms (i + suc j) X → RowLike (fill K X) → Unifies (fill K X) R ↔ S X)
      → ((A D : List ℕ) → Terms i A → Terms (arity c + j) D → RowLike (A ++ (c ∷ D)) → S (A ++ (c ∷ D)) ↔ S' (A ++ D))
      → (X : List ℕ) → Terms (i + (arity c + j)) X → RowLike (fill (decide i c K) X) → Unifies (fill (decide i c K) X) R ↔ S' X
  means-next m f X t r = go (three-of i (arity c) j t) r
    where
      go : {X : List ℕ} → Three i (arity c) j X → RowLike (fill (decide i c K) X) → Unifies (fill (decide i c K) X) R ↔ S' X
      go (three {A} {args} {B} ta tg tb) r =
          let q = fill-decide i c K B hc ta tg in
          let t : Terms (i + suc j) (A ++ (c ∷ (args ++ B))) = Terms-++ ta (more (Terms-++ tg tb)) in
          let r' = rw q at r in
          rw q (Iff.trans (m (A ++ (c ∷ (args ++ B))) t r') (f A (args ++ B) ta (Terms-++ tg tb) (part-row K (A ++ (c ∷ (args ++ B))) (rw e t) r')))

  -- and where nothing agrees, nothing unifies
  dead-next : ((X : List ℕ) → Terms (i + suc j) X → RowLike (fill K X) → Unifies (fill K X) R ↔ S X)
      → ((A D : List ℕ) → Terms i A → Terms (arity c + j) D → ¬ S (A ++ (c ∷ D)))
      → (X : List ℕ) → Terms (i + (arity c + j)) X → RowLike (fill (decide i c K) X) → ¬ Unifies (fill (decide i c K) X) R
  dead-next m f X t r = go (three-of i (arity c) j t) r
    where
      go : {X : List ℕ} → Three i (arity c) j X → RowLike (fill (decide i c K) X) → ¬ Unifies (fill (decide i c K) X) R
      go (three {A} {args} {B} ta tg tb) r u =
          let q = fill-decide i c K B hc ta tg in
          let t : Terms (i + suc j) (A ++ (c ∷ (args ++ B))) = Terms-++ ta (more (Terms-++ tg tb)) in
          f A (args ++ B) ta (Terms-++ tg tb) ((m (A ++ (c ∷ (args ++ B))) t (rw q at r)).0 (rw q at u))

-- a variable that was met, with its node, in the lists
pub record Split (c w : ℕ) (vs us : List ℕ) : Type 0 where
  pub V₁ : List ℕ
  pub V₂ : List ℕ
  pub U₁ : List ℕ
  pub U₂ : List ℕ
  pub in-vs : vs ≡ V₁ ++ (c ∷ V₂)
  pub in-us : us ≡ U₁ ++ (w ∷ U₂)
  pub terms₁ : Terms (length U₁) V₁
  pub terms₂ : Terms (length U₂) V₂

split : {c w k : ℕ} {vs us : List ℕ} → Pair c w vs us → Fresh k vs → length us ≡ k → Split c w vs us
split (here {vs} {us}) (fresh.cons {k = k} h n f) e =
    let q : length us ≡ k = omega arith in
    record { V₁ = []; V₂ = vs; U₁ = []; U₂ = us; in-vs = refl; in-us = refl; terms₁ = Rattle.term.specs.Terms.none; terms₂ = rw q (Terms-fresh f) }
split (there {x} {y} {us = us} p) (fresh.cons {k = k} h n f) e =
    let q : length us ≡ k = omega arith in
    let r = split p f q in
    record {
      V₁ = x ∷ r.V₁;
      V₂ = r.V₂;
      U₁ = y ∷ r.U₁;
      U₂ = r.U₂;
      in-vs = ap (λ (l : List ℕ). x ∷ l) r.in-vs;
      in-us = ap (λ (l : List ℕ). y ∷ l) r.in-us;
      terms₁ = Rattle.term.proofs.Inst.more-var x h r.terms₁;
      terms₂ = r.terms₂;
    }

pair-low : (P : ℕ → Type 0) {c w : ℕ} {vs us : List ℕ} → Pair c w vs us → All P us → P w
pair-low P here a = a.0
pair-low P (there p) a = pair-low P p a.1

-- joining terms below m leaves the nodes from m on alone
record Low (m : ℕ) (rep : List ℕ) : Type 0 where
  pub below : (r : ℕ) → r < m → at rep r < m
  above : (r : ℕ) → m ≤ r → at rep r ≡ r

low-join : {m : ℕ} (rep : List ℕ) (x y : ℕ) → x < length rep → x < m → y < m → Low m rep → Low m (join x y rep)
low-join {m} rep x y h lx ly L = record {
  below = λ r l. by_cases (ℕ_discrete (at rep r) x) (λ q. rw (join-here rep x y r h q) ly) (λ q. rw (join-other rep x y r h q) (L.below r l));
  above = λ r l. let e = L.above r l in join-other rep x y r h (λ q. let z : ⊥ = omega arith in z) ∙ e;
}

module _ {N : Nodes} {m : ℕ} (K : (r : ℕ) → N.head r ≢ 0 → All (λ (s : ℕ). s < m) (N.kids r)) where
  mutual
    low_merged : {rep rep' : List ℕ} {a b : ℕ} → Merges N rep a b rep' → a < m → b < m → Low m rep → Low m rep'
    low_merged (same e i) la lb L = rw i L
    low_merged (loose {rep} {a = a} {b} d h z i) la lb L = rw i (low-join rep (at rep a) (at rep b) h (L.below a la) (L.below b lb) L)
    low_merged (bound {rep} {a = a} {b} d h z i) la lb L = rw i (low-join rep (at rep b) (at rep a) h (L.below b lb) (L.below a la) L)
    low_merged (alike {rep} {a = a} {b} d h nz e w) la lb L =
        low-all w (K (at rep a) nz) (K (at rep b) (λ z. nz (e ∙ z))) (low-join rep (at rep a) (at rep b) h (L.below a la) (L.below b lb) L)

    low-all : {rep rep' xs ys : List ℕ} → MergesAll N rep xs ys rep' → All (λ (s : ℕ). s < m) xs → All (λ (s : ℕ). s < m) ys → Low m rep → Low m rep'
    low-all (nil i) lx ly L = rw i L
    low-all (cons x w) lx ly L = low-all w lx.1 ly.1 (low_merged x lx.0 ly.0 L)

-- The place: A before it, B after, and the node u there.
module _ {R sib bs ns cls rs keep : List ℕ} (A : List ℕ) (s : ℕ) (B : List ℕ) {K : List ℕ} {m : ℕ} (j : ℕ)
    (S : Standing R sib bs ns cls rs keep (A ++ (s ∷ B)) K m (length A + suc j))
    (zr : length rs ≡ 64) (c : ℕ) (hc : c ≢ hole) (fits : m + arity c ≤ 64) where
  abbrev i : ℕ
  i = length A

  abbrev P : List ℕ
  P = entries rs A

  abbrev u : ℕ
  u = get_or rs s 0

  abbrev Q : List ℕ
  Q = entries rs B

  abbrev N : Nodes
  N = graph bs ns sib

  abbrev vs : List ℕ
  vs = S.vs

  abbrev us : List ℕ
  us = S.us

  cut : entries rs (A ++ (s ∷ B)) ≡ P ++ (u ∷ Q)
  cut = entries-++ rs A (s ∷ B)

  low-P : All (λ (r : ℕ). r < m) P
  low-P = all-front (λ (r : ℕ). r < m) P (u ∷ Q) (rw cut at S.stand)

  low-Q : (u < m) × All (λ (r : ℕ). r < m) Q
  low-Q = all_back (λ (r : ℕ). r < m) P (u ∷ Q) (rw cut at S.stand)

  pub node-low : u < 64
  node-low = omega (arith, low-Q.0, S.steady.few)

  means-here : (X : List ℕ) → Terms (i + suc j) X → RowLike (fill K X) → Unifies (fill K X) R ↔ Agrees N cls (vs ++ X) (us ++ (P ++ (u ∷ Q)))
  means-here X t r = rw cut at (S.means X t r)

  -- the state below, by a law of agreement
  below-state : {bs' ns' cls' rs' keep' vs' us' : List ℕ} (ks : List ℕ) → Steady sib bs' ns' cls' (m + arity c) → Keeps keep' vs' us'
      → Fresh (length us') vs' → All (λ (v : ℕ). v < 32) vs'
      → All (λ (r : ℕ). r < m + arity c) us' → arity c ≡ length ks → All (λ (r : ℕ). r < m + arity c) ks → rs' ≡ sets rs m ks
      → ((A' D : List ℕ) → Terms i A' → Terms (arity c + j) D → RowLike (A' ++ (c ∷ D))
      → Agrees N cls (vs ++ (A' ++ (c ∷ D))) (us ++ (P ++ (u ∷ Q))) ↔ Agrees (graph bs' ns' sib) cls' (vs' ++ (A' ++ D)) (us' ++ (P ++ (ks ++ Q))))
      → Standing R sib bs' ns' cls' rs' keep' (A ++ (up_from m (arity c) ++ B)) (decide i c K) (m + arity c) (i + (arity c + j))
  below-state {bs'} {ns'} {cls'} {rs'} {keep'} {vs'} {us'} ks st kp ds lv mt ek lk er law =
      let a = arity c in
      let more : (xs : List ℕ) → All (λ (r : ℕ). r < m) xs → All (λ (r : ℕ). r < m + a) xs =
      λ xs h. all-each (λ (r : ℕ). r < m) (λ (r : ℕ). r < m + a) (λ r k. omega arith) xs h in
      let old = S.made in
      let o_a = all-front (λ (x : ℕ). x < m) A (s ∷ B) old in
      let o_b = (all_back (λ (x : ℕ). x < m) A (s ∷ B) old).1 in
      let q : entries rs' (A ++ (up_from m a ++ B)) ≡ P ++ (ks ++ Q)
      = rw er (entries-++ (sets rs m ks) A (up_from m a ++ B)
      ∙ ap₂ ◌++◌ (entries_below rs ks A m o_a) (entries-++ (sets rs m ks) (up_from m a) B
      ∙ ap₂ ◌++◌ (entries-stored rs ks m a ek (omega arith)) (entries_below rs ks B m o_b))) in
      record {
        steady = st;
        vs = vs';
        us = us';
        keeps = kp;
        distinct = ds;
        low = lv;
        met = mt;
        made = new-made m a A B o_a o_b;
        stand = rw q (all-++ (λ (r : ℕ). r < m + a) P (ks ++ Q) (more P low-P) (all-++ (λ (r : ℕ). r < m + a) ks Q lk (more Q low-Q.1)));
        width = omega (arith, S.width, length-append A (s ∷ B), length-append A (up_from m a ++ B), length-append (up_from m a) B, up-length m a);
        holes = (let d = decide-count i c K hc (omega (arith, S.holes)) in omega (arith, d, S.holes));
        means =
            rw q (means-next K i j c hc S.holes (λ (X : List ℕ). Agrees N cls (vs ++ X) (us ++ (P ++ (u ∷ Q))))
            (λ (X : List ℕ). Agrees (graph bs' ns' sib) cls' (vs' ++ X) (us' ++ (P ++ (ks ++ Q)))) means-here law);
      }

  abbrev Next : (bs' ns' cls' rs' keep' : List ℕ) → Type 0
  Next bs' ns' cls' rs' keep' = Standing R sib bs' ns' cls' rs' keep' (A ++ (up_from m (arity c) ++ B)) (decide i c K) (m + arity c) (i + (arity c + j))

  abbrev Dead : Type 0
  Dead = (X : List ℕ) → Terms (i + (arity c + j)) X → RowLike (fill (decide i c K) X) → ¬ Unifies (fill (decide i c K) X) R

  -- what stands for the node
  x-is : at cls u ≡ get_or cls u 0
  x-is = at-is cls u (omega (arith, S.steady.ready.size, node-low))

  -- what is before the place: the variables met, and the row's terms there
  before : {A' : List ℕ} → Terms i A' → Terms (length (us ++ P)) (vs ++ A')
  before {A'} t =
      let e : length (us ++ P) ≡ length us + i = length-append us P ∙ ap (λ (n : ℕ). length us + n) (entries-length rs A) in
      rw e (Terms-++ (Terms-fresh S.distinct) t)

  wider : {bs' ns' cls' : List ℕ} → Steady sib bs' ns' cls' m → Steady sib bs' ns' cls' (m + arity c)
  wider {bs'} {ns'} {cls'} st = record {
    ready = st.ready;
    fair = st.fair;
    closed = st.closed;
    finite = st.finite;
    within = st.within;
    bare = λ r h. st.bare r (omega arith);
    selves = λ r h. st.selves r (omega arith);
    fixed = λ r h. st.fixed r (omega arith);
    kids-low =
        λ r nz. all-each (λ (x : ℕ). x < m) (λ (x : ℕ). x < m + arity c) (λ x k. omega arith) (steps sib (arity (get_or bs' r 0)) (get_or ns' r 0))
        (st.kids-low r nz);
    some = omega (arith, st.some);
    few = fits;
    size-bound = st.size-bound;
    size-args = st.size-args;
    next = st.next;
  }

  more-low : (xs : List ℕ) → All (λ (r : ℕ). r < m) xs → All (λ (r : ℕ). r < m + arity c) xs
  more-low xs h = all-each (λ (r : ℕ). r < m) (λ (r : ℕ). r < m + arity c) (λ r k. omega arith) xs h

  move : (A' D : List ℕ) → (vs ++ (A' ++ D) ≡ (vs ++ A') ++ D)
  move A' D = sym (append_assoc vs A' D)

  -- (1) the same symbol
  abbrev kids : List ℕ
  kids = steps sib (arity c) (get_or ns (get_or cls u 0) 0)

  module _ (hv : is_var c ≡ false) (nz : get_or bs (get_or cls u 0) 0 ≢ 0) where
    pub stand-same : {rs' : List ℕ} → get_or bs (get_or cls u 0) 0 ≡ c → rs' ≡ sets rs m (entries cls kids) → Next bs ns cls rs' keep
    stand-same {rs'} e er =
        let kl : All (λ (r : ℕ). r < m) kids = rw e at (S.steady.kids-low (get_or cls u 0) nz) in
        let k64 : All (λ (r : ℕ). r < 64) kids = all-each (λ (r : ℕ). r < m) (λ (r : ℕ). r < 64) (λ r k. omega (arith, S.steady.few)) kids kl in
        let q = entries_at S.steady kids k64 in
        below-state (entries cls kids) (wider S.steady) S.keeps S.distinct S.low (more-low us S.met)
        (sym (entries-length cls kids ∙ steps-length sib (arity c) (get_or ns (get_or cls u 0) 0)))
        (rw q (more-low (reps cls kids) (reps-low S.steady kids kl))) er
        (λ A' D t _ _.
        let k : N.kids (at cls u) ≡ kids = rw (x-is, e) in
        let a = agree_same S.steady.fair cls (vs ++ A') (us ++ P) (before t) c D u Q hv (rw x-is nz) (rw x-is e) in
        rw (move A' (c ∷ D), move A' D, q, sym (append_assoc us P (u ∷ Q)))
        (Iff.trans a (rw k (Iff.trans (agree-reps ((vs ++ A') ++ D) (us ++ P) kids Q) (rw (append_assoc us P (reps cls kids ++ Q)) (λ x. x, λ x. x))))))

    -- (2) another one
    pub dead-other : get_or bs (get_or cls u 0) 0 ≢ c → Dead
    dead-other d = dead-next K i j c hc S.holes (λ (X : List ℕ). Agrees N cls (vs ++ X) (us ++ (P ++ (u ∷ Q)))) (λ (X : List ℕ). Unifies X R) means-here
        (λ A' D t _ a. agree-other S.steady.fair cls (vs ++ A') (us ++ P) (before t) c D u Q hv (rw x-is nz) (rw x-is d)
        (rw (move A' (c ∷ D), sym (append_assoc us P (u ∷ Q))) at a))

  -- (3) a variable of the row that is not met yet: it is kept with its node
  module _ (lc : c < 32) where
    is-var : is_var c ≡ true
    is-var = var-small c (omega arith)

    no-args : arity c ≡ 0
    no-args = var-arity c is-var

    pub stand-first : get_or keep c 0 ≡ 64 → Next bs ns cls rs (set keep c u)
    stand-first e =
        let z = no-args in
        let n = S.keeps.none c lc e in
        let l : c < length keep = omega (arith, S.keeps.size) in
        below-state {vs' = c ∷ vs} {us' = u ∷ us} [] (wider S.steady)
        (record {
          none = λ v lv q. by_cases (ℕ_discrete v c)
              (λ o. absurd (let g : get_or (set keep c u) v 0 ≡ u = rw o (get_or-set_same keep c u 0 l) in let k = node-low in let y : ⊥ = omega arith in y))
              (λ d o. ⊎_elim (λ p. d p) (λ p. S.keeps.none v lv (sym (get_or-set_other keep c v u 0 d) ∙ q) p) (Memᴰ.cases_cons o));
          some = λ v lv q. by_cases (ℕ_discrete v c)
              (λ o. rw (o, get_or-set_same keep c u 0 l) here)
              (λ d. let g = get_or-set_other keep c v u 0 d in rw g (there (S.keeps.some v lv (rw g at q))));
          size = length-set keep c u ∙ S.keeps.size;
        })
        (fresh.cons is-var n S.distinct) (lc, S.low) (omega (arith, low-Q.0), more-low us S.met) z tt refl
        (λ A' D t _ _.
        rw (move A' (c ∷ D), sym (append_assoc us P (u ∷ Q)))
        (Iff.trans (agree-first S.steady.fair cls (vs ++ A') (us ++ P) (before t) c D u Q is-var)
        (rw (← append_assoc vs A' D, ← append_assoc us P Q) (λ x. x, λ x. x))))

    -- (4) one that is met: the two terms are made equal
    module _ (ne : get_or keep c 0 ≢ 64) where
      abbrev w : ℕ
      w = get_or keep c 0

      pair : Pair c w vs us
      pair = S.keeps.some c lc ne

      pub kept_low : w < 64
      kept_low = let l = pair-low (λ (r : ℕ). r < m) pair S.met in omega (arith, S.steady.few)

      parts : Split c w vs us
      parts = split pair S.distinct refl

      low-w : w < m
      low-w = pair-low (λ (r : ℕ). r < m) pair S.met

      steady-joined : {cls' : List ℕ} → Ready bs ns sib cls' → Merges N cls w u cls' → Fin N cls' w → Steady sib bs ns cls' m
      steady-joined {cls'} R' M t =
          let st = S.steady in
          let L = low_merged (λ r nz. st.kids-low r nz) M low-w low-Q.0 (record { below = λ r l. at_low st r l; above = λ r l. st.fixed r l }) in
          record {
            ready = R';
            fair = st.fair;
            closed = closed M st.closed;
            finite = λ r. fin-merged st.ready.flat st.closed M t (st.finite r);
            within = within-merged M (λ r l. R'.small r l) (λ r l. L.above r (omega (arith, st.few))) st.within;
            bare = st.bare;
            selves = λ r h. by-cases-le r h L;
            fixed = L.above;
            kids-low = st.kids-low;
            some = st.some;
            few = st.few;
            size-bound = st.size-bound;
            size-args = st.size-args;
            next = st.next;
          }
        where
          by-cases-le : (r : ℕ) → m ≤ at cls' r → Low m cls' → at cls' r ≡ r
          by-cases-le r h L = go (ltb r m) refl
            where
              go : (b : Bool) → ltb r m ≡ b → at cls' r ≡ r
              go true e = absurd (let l = L.below r (ltb-true r m e) in let z : ⊥ = omega arith in z)
              go false e = L.above r (ltb-false r m e)

      -- the law, with the variable in its place among those met
      again-law : {cls' : List ℕ} → Merges N cls w u cls' → (A' D : List ℕ) → Terms i A'
          → Agrees N cls (vs ++ (A' ++ (c ∷ D))) (us ++ (P ++ (u ∷ Q))) ↔ Agrees N cls' (vs ++ (A' ++ D)) (us ++ (P ++ Q))
      again-law {cls'} M A' D t =
          let p = parts in
          let t₂ : Terms (length (p.U₂ ++ P)) (p.V₂ ++ A') = rw (length-append p.U₂ P, entries-length rs A) (Terms-++ p.terms₂ t) in
          let a = agree-again S.steady.fair cls p.V₁ p.U₁ (p.V₂ ++ A') (p.U₂ ++ P) p.terms₁ t₂ c is-var w D u Q S.steady.ready.flat M in
          let e₁ : (X : List ℕ) → vs ++ (A' ++ X) ≡ (p.V₁ ++ (c ∷ (p.V₂ ++ A'))) ++ X =
          λ X. ap (λ (l : List ℕ). l ++ (A' ++ X)) p.in-vs ∙ simp append_assoc in
          let e₂ : (X : List ℕ) → us ++ (P ++ X) ≡ (p.U₁ ++ (w ∷ (p.U₂ ++ P))) ++ X =
          λ X. ap (λ (l : List ℕ). l ++ (P ++ X)) p.in-us ∙ simp append_assoc in
          rw (e₁ (c ∷ D), e₁ D, e₂ (u ∷ Q), e₂ Q) a

      pub stand-again : {cls' : List ℕ} {b : Bool} → Equals bs ns sib cls cls' w u b → b ≡ true → Next bs ns cls' rs keep
      stand-again {cls'} E q = go E q
        where
          go : {b : Bool} → Equals bs ns sib cls cls' w u b → b ≡ true → Next bs ns cls' rs keep
          go (never l n) e = absurd (mathlib.Core.Bool.true≢false (sym e))
          go (equal R' M t) e =
              below-state {vs' = vs} {us' = us} [] (wider (steady-joined R' (M own) (t own))) S.keeps S.distinct S.low (more-low us S.met)
              no-args tt refl
              (λ A' D t' _ _. again-law (M own) A' D t')

      -- (5) nothing makes them equal
      pub dead-again : {cls' : List ℕ} {b : Bool} → Equals bs ns sib cls cls' w u b → b ≡ false → Dead
      dead-again {cls'} E q = go E q
        where
          go : {b : Bool} → Equals bs ns sib cls cls' w u b → b ≡ false → Dead
          go (equal R' M t) e = absurd (mathlib.Core.Bool.true≢false e)
          go (never l n) e =
              dead-next K i j c hc S.holes (λ (X : List ℕ). Agrees N cls (vs ++ X) (us ++ (P ++ (u ∷ Q)))) (λ (X : List ℕ). Unifies X R) means-here
              (λ A' D t _ a.
              let p = parts in
              let t₂ : Terms (length (p.U₂ ++ P)) (p.V₂ ++ A') = rw (length-append p.U₂ P, entries-length rs A) (Terms-++ p.terms₂ t) in
              let e₁ : vs ++ (A' ++ (c ∷ D)) ≡ (p.V₁ ++ (c ∷ (p.V₂ ++ A'))) ++ (c ∷ D) =
              ap (λ (l : List ℕ). l ++ (A' ++ (c ∷ D))) p.in-vs ∙ simp append_assoc in
              let e₂ : us ++ (P ++ (u ∷ Q)) ≡ (p.U₁ ++ (w ∷ (p.U₂ ++ P))) ++ (u ∷ Q) =
              ap (λ (l : List ℕ). l ++ (P ++ (u ∷ Q))) p.in-us ∙ simp append_assoc in
              let m₂ = agree-met S.steady.fair cls p.V₁ p.U₁ (p.V₂ ++ A') (p.U₂ ++ P) p.terms₁ t₂ c is-var w D u Q (rw (e₁, e₂) at a) in
              n own m₂.0 S.steady.fair m₂.1 m₂.2)

  -- (6) a node without a symbol: it gets the row's symbol, over new nodes
  module _ (hv : is_var c ≡ false) (z : get_or bs (get_or cls u 0) 0 ≡ 0) where
    abbrev x : ℕ
    x = get_or cls u 0

    abbrev new : List ℕ
    new = up_from m (arity c)

    st : Steady sib bs ns cls m
    st = S.steady

    x-low : x < m
    x-low = rw (← x-is) (at_low S.steady u low-Q.0)

    x-fixed : at cls x ≡ x
    x-fixed = rw (← x-is) (S.steady.ready.flat.fixed u)

    not-zero : c ≢ 0
    not-zero e = mathlib.Core.Bool.true≢false (sym (var-small c (omega arith)) ∙ hv)

    abbrev bs' : List ℕ
    bs' = set bs x c

    abbrev ns' : List ℕ
    ns' = set ns x m

    bs-here : get_or bs' x 0 ≡ c
    bs-here = get_or-set_same bs x c 0 (omega (arith, S.steady.size-bound, x-low, S.steady.few))

    ns-here : get_or ns' x 0 ≡ m
    ns-here = get_or-set_same ns x m 0 (omega (arith, S.steady.size-args, x-low, S.steady.few))

    kids-new : steps sib (arity (get_or bs' x 0)) (get_or ns' x 0) ≡ new
    kids-new = rw (bs-here, ns-here) (steps-new S.steady (arity c) m S.steady.some fits)

    binds : Binds N (graph bs' ns' sib) x c new
    binds = record {
      own_same = λ r. refl;
      head-here = bs-here;
      kids-here = kids-new;
      head-other = λ r d. get_or-set_other bs x r c 0 d;
      kids-other = λ r d. rw (get_or-set_other bs x r c 0 d, get_or-set_other ns x r m 0 d);
    }

    fresh-new : New N cls new
    fresh-new = new-nodes S.steady (arity c) fits

    x-old : ¬ Memᴰ x new
    x-old = not_new S.steady x (arity c) x-low

    new_in : All (λ (r : ℕ). r < m + arity c) new
    new_in = all-each (λ (r : ℕ). (m ≤ r) × (r < m + arity c)) (λ (r : ℕ). r < m + arity c) (λ r k. k.1) new (up-range m (arity c))

    new-64 : All (λ (r : ℕ). r < 64) new
    new-64 = all-each (λ (r : ℕ). r < m + arity c) (λ (r : ℕ). r < 64) (λ r k. omega arith) new new_in

    steady-bound : Steady sib bs' ns' cls (m + arity c)
    steady-bound =
        let s₀ = S.steady in
        record {
          ready = record {
            size = s₀.ready.size;
            flat = s₀.ready.flat;
            small = s₀.ready.small;
            kids = λ r l nz. by_cases (ℕ_discrete r x) (λ e. rw (e, kids-new) new-64)
                (λ d. rw (get_or-set_other bs x r c 0 d, get_or-set_other ns x r m 0 d) (s₀.ready.kids r l (rw (get_or-set_other bs x r c 0 d) at nz)));
          };
          fair = fair-bound cls binds fresh-new hv not-zero (up-length m (arity c)) z x-old x-fixed s₀.fair;
          closed = closed-bound cls binds fresh-new hv not-zero (up-length m (arity c)) z x-old x-fixed s₀.closed;
          finite = λ r. fin-bound cls binds fresh-new hv not-zero (up-length m (arity c)) z x-old x-fixed (s₀.finite r);
          within = within-bound cls binds fresh-new hv not-zero (up-length m (arity c)) z x-old x-fixed (omega (arith, x-low, s₀.few)) new-64 s₀.within;
          bare = λ r h. let d : r ≢ x = λ e. let y : ⊥ = omega (arith, x-low) in y in get_or-set_other bs x r c 0 d ∙ s₀.bare r (omega arith);
          selves = λ r h. s₀.selves r (omega arith);
          fixed = λ r h. s₀.fixed r (omega arith);
          kids-low = λ r nz. by_cases (ℕ_discrete r x) (λ e. rw (e, kids-new) new_in)
              (λ d. rw (get_or-set_other bs x r c 0 d, get_or-set_other ns x r m 0 d)
              (more-low (steps sib (arity (get_or bs r 0)) (get_or ns r 0)) (s₀.kids-low r (rw (get_or-set_other bs x r c 0 d) at nz))));
          some = omega (arith, s₀.some);
          few = fits;
          size-bound = length-set bs x c ∙ s₀.size-bound;
          size-args = length-set ns x m ∙ s₀.size-args;
          next = s₀.next;
        }

    none-new : (xs : List ℕ) → All (λ (r : ℕ). r < m) xs → (r : ℕ) → Memᴰ r xs → ¬ Memᴰ r new
    none-new xs a r q = not_new S.steady r (arity c) (all-mem (λ (y : ℕ). y < m) xs a r q)

    cells-new : (d : ℕ) → Memᴰ d fresh-new.cells → Memᴰ d (up_from (var m) (arity c))
    unfolding fresh-new
    cells-new d k = subst (λ (l : List ℕ). Memᴰ d l) (new-cells S.steady (arity c) fits) k

    pub stand-bind : {rs' : List ℕ} → rs' ≡ sets rs m (entries cls (steps sib (arity c) m)) → Next bs' ns' cls rs' keep
    unfolding up_from
    stand-bind {rs'} er =
        let q : entries cls (steps sib (arity c) m) ≡ new =
        rw (steps-new S.steady (arity c) m S.steady.some fits) (entries-new m (arity c) (omega arith) fits) in
        below-state new steady-bound S.keeps S.distinct S.low (more-low us S.met) (sym (up-length m (arity c))) new_in (er ∙ ap (sets rs m) q)
        (λ A' D t _ r.
        let a = agree-bind S.steady.fair cls binds fresh-new hv (up-length m (arity c)) z x-old (vs ++ A') (us ++ P) (before t) D u Q x-is
        (none-new (us ++ P) (all-++ (λ (y : ℕ). y < m) us P S.met low-P)) (none-new Q low-Q.1)
        (λ d o k. let v = up_mem (var m) (arity c) d (cells-new d k) in let h = row-cells A' D r d o in
        let y : ⊥ = omega (arith, h (var-small d (omega arith))) in y) in
        rw (move A' (c ∷ D), move A' D, sym (append_assoc us P (u ∷ Q)))
        (Iff.trans a (rw (append_assoc us P (new ++ Q)) (λ y. y, λ y. y))))
      where
        entries-new : (p a : ℕ) → m ≤ p → p + a ≤ 64 → entries cls (up_from p a) ≡ up_from p a
        entries-new p zero h l = refl
        entries-new p (suc a) h l =
            ap₂ ◌∷◌ (sym (at-is cls p (omega (arith, S.steady.ready.size))) ∙ S.steady.fixed p h)
            (entries-new (suc p) a (omega arith) (omega arith))

        row-cells : (A' D : List ℕ) → RowLike (A' ++ (c ∷ D)) → (d : ℕ) → Memᴰ d ((vs ++ A') ++ D) → is_var d ≡ true → d < 2 ^ 16
        row-cells A' D r d o v = ⊎_elim
            (λ p. ⊎_elim (λ q. let l = all-mem (λ (y : ℕ). y < 32) vs S.low d q in omega arith) (λ q. r.low d (Memᴰ.append_left (c ∷ D) q) v)
            (Memᴰ.append_cases vs p))
            (λ p. r.low d (Memᴰ.append_right A' (Memᴰ.tail p)) v)
            (Memᴰ.append_cases (vs ++ A') o)
