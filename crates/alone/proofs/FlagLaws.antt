-- A flagged branch of the walk: with all below it, it is a plan of one row, and what is answered for that row is what the tree has.
use Prim.Native.Nat.{ℕ, zero, suc, ◌+◌, ◌-◌, ◌≤◌, ◌<◌}
use mathlib.Core.Path.{◌≡◌, refl, sym, ◌∙◌, ap, ap₂, subst, path_j, subst_refl}
use mathlib.Core.Bool.{Bool, true, false, cond, ◌&&◌, true≢false}
use mathlib.Core.List.{List, [], ◌∷◌, ◌++◌, flatten, map, append-nil, append_assoc, Memᴰ}
use native.Mathlib.Omega.{arith}
use lib.ListN.{length, get_or, drop, take, replicate, length-append, take-append-drop}
use lib.Seq.{sets}
use Rattle.cell.specs.Cell.{arity, is_var}
use Rattle.cell.proofs.CellLaws.{var-arity}
use Rattle.term.specs.Terms.{Terms, none, more, front, back, root, close}
use Rattle.term.proofs.TermsLaws.{Terms-++, front-back, front-terms, back-terms}
use Rattle.term.proofs.Inst.{Terms-inst, more-var}
use Rattle.term.specs.code.Unifiable.{unifiable}
use Rattle.table.specs.All.{All}
use Rattle.table.specs.Table.{up_from}
use Rattle.table.proofs.AllLaws.{all-++, all-front, all_back}
use Rattle.plan.specs.Runs.{Run, run, runs}
use Rattle.plan.specs.Plans.{Plan, node, Branches, end, next, branches, branches_in}
use Rattle.plan.specs.Notes.{flag, notes, notes_in, word, skip_in, row_noted, BranchFits}
use Rattle.plan.specs.code.Cells.{Good, Sound, Cells, CellsIn}
use Rattle.answer.specs.Skeleton.{hole, decide, opened}
use Rattle.answer.specs.Run.{skeletons, skeletons_in}
use Rattle.answer.specs.code.Renamed.{Goal}
use Rattle.answer.specs.code.Tree.{insert, tried_on}
use Rattle.answer.specs.code.Loose.{Loose}
use Rattle.answer.proofs.SkeletonLaws.{fill-all, count-all}
use Rattle.answer.proofs.OpenGoalLaws.{skeletons-terms}
use Rattle.walking.specs.code.Link.{Tables}
use Rattle.walking.specs.code.Frames.{Frame, RowCell}
use Rattle.walking.proofs.ListLaws.{entries-length}
use Rattle.walking.proofs.RefLaws.{Terms-refs}
use Rattle.walking.proofs.FrameLaws.{Top}
use Rattle.walking.specs.code.Frames.{notes_of}
use Rattle.walking.specs.code.Walk.{Begun}
use Rattle.walking.proofs.StepLaws.{Sizes, held, frames}
use Rattle.walking.proofs.AlongLaws.{words-here, fit-only, skip_is, on-alone}
use Rattle.walking.proofs.WalkLaws.{Walking, count_small, inside, same_word, skip-now, top-now, flagged}
use Rattle.answer.proofs.AcceptedLaws.{goal-head}
use Rattle.term.specs.Unify.{renamed}
use Rattle.alone.specs.code.Alone.{Chain, skeletons_of, Gone}
use Rattle.alone.specs.code.Rest.{length_of, Noted, Begins, Walks}
use Rattle.alone.proofs.NewLaws.{all-mem}
use Rattle.alone.proofs.PlanLaws.{chain-of, chain-skeletons, gone-is}
use Rattle.alone.proofs.NotedLaws.{chain_length, chain-noted}
use Rattle.limits.specs.Limits.{most_branches}

-- a cell put before the rest of a row, at place i
root_in : {i : ℕ} {A : List ℕ} (c : ℕ) (B : List ℕ) → Terms i A → (root i (A ++ (c ∷ B)) ≡ c) × (close i (A ++ (c ∷ B)) ≡ A ++ B)
unfolding root close
root_in c B none = (refl, refl)
root_in c B (more {c = d} t) = let h = root_in c B t in (h.0, ap (λ (l : List ℕ). d ∷ l) h.1)

-- A branch whose cell is a variable, with the plan below it, of one row y.
module _ {k : ℕ} (i : ℕ) (h : i ≤ k) (g : Run) (p : Plan (arity g.cell + k) g.rows) (y : List ℕ) (e : g.rows ≡ y ∷ [])
    (v : is_var g.cell ≡ true) (S : Sound RowCell k g) (C : Cells RowCell p) where
  abbrev pub x : List ℕ
  x = insert i g.cell y

  good : Good RowCell k y
  good = let z : arity g.cell + k ≡ k = omega (arith, var-arity g.cell v) in let a = rw e at S.rows in rw z at a.0

  fronts : Terms i (front i y) × Terms (k - i) (back i y)
  fronts = let z : k ≡ i + (k - i) = omega arith in let t = rw z at good.terms in (front-terms i (k - i) y t, back-terms i (k - i) y t)

  root_is : root i x ≡ g.cell
  root_is = (root_in g.cell (back i y) fronts.0).0

  close-is : close i x ≡ y
  close-is = (root_in g.cell (back i y) fronts.0).1 ∙ front-back i y

  pub row-terms : Terms (suc k) x
  row-terms = let z : suc k ≡ i + suc (k - i) = omega arith in rw z (Terms-++ fronts.0 (more-var g.cell v fronts.1))

  same-run : g ∷ [] ≡ runs i (x ∷ [])
  same-run = ap (λ (r : Run). r ∷ []) (ap₂ run (sym root_is) (e ∙ ap (λ (l : List ℕ). l ∷ []) (sym close-is)))

  only : Branches k (runs i (x ∷ []))
  only = subst (Branches k) same-run (next {g = g} p end)

  -- what holds of the branch holds of it as the only one of that row
  as-only : (P : (gs : List Run) → Branches k gs → Type 0) → P (g ∷ []) (next {g = g} p end) → P (runs i (x ∷ [])) only
  unfolding only
  as-only P a =
      path_j (λ (gs : List Run) (q : g ∷ [] ≡ gs). P gs (subst (Branches k) q (next {g = g} p end)))
      (subst (P (g ∷ [])) (sym (subst_refl (Branches k) (next {g = g} p end))) a) same-run

  pub whole : Plan (suc k) (x ∷ [])
  whole = node i h only

  whole-notes : (slots : List ℕ) (m row : ℕ) → notes whole slots m row ≡ notes_in (next {g = g} p end) i slots m row
  unfolding whole notes
  whole-notes slots m row = as-only (λ (gs : List Run) (b : Branches k gs). notes_in b i slots m row ≡ notes_in (next {g = g} p end) i slots m row) refl

  whole-count : branches whole ≡ suc (branches p)
  unfolding whole branches
  whole-count = as-only (λ (gs : List Run) (b : Branches k gs). branches_in b ≡ suc (branches p)) (omega arith)

  whole-skeletons : (K : List ℕ) → skeletons whole K ≡ K ∷ skeletons p (decide i g.cell K)
  unfolding whole skeletons
  whole-skeletons K =
      as-only (λ (gs : List Run) (b : Branches k gs). skeletons_in b i K ≡ K ∷ skeletons p (decide i g.cell K))
      (ap (λ (l : List (List ℕ)). K ∷ l) (append-nil (skeletons p (decide i g.cell K))))

  whole_cells : Cells RowCell whole
  unfolding whole Cells
  whole_cells = as-only (λ (gs : List Run) (b : Branches k gs). CellsIn RowCell b) (S, C, tt)

  pub chain : Chain (suc k) x
  chain = chain-of whole x refl

  chain-is-noted : (words : List ℕ) (n : ℕ) (slots : List ℕ) (m row : ℕ) (rest : List ℕ) → drop n words ≡ map word (notes whole slots m row) ++ rest
      → All BranchFits (notes whole slots m row)
      → Noted chain words n slots m
  unfolding chain
  chain-is-noted words n slots m row rest d f = chain-noted whole x refl words n slots m row rest d f whole_cells

  chain-is-long : length_of chain ≡ suc (branches p)
  unfolding chain
  chain-is-long = chain_length whole x refl ∙ whole-count

  chain-decides : (K : List ℕ) → skeletons_of chain K ≡ K ∷ skeletons p (decide i g.cell K)
  unfolding chain
  chain-decides K = chain-skeletons whole x refl K ∙ whole-skeletons K

  pub row_loose : Loose (replicate (suc k) hole) x
  row_loose =
      let f = fill-all (suc k) row-terms in
      let l = length-append (front i y) (g.cell ∷ back i y) in
      let m = length-append (front i y) (back i y) in
      let z = ap length (front-back i y) in
      record {
        terms = rw (count-all (suc k)) row-terms;
        low = λ c q w. omega (arith, (all-mem RowCell x cells c (subst (λ (l : List ℕ). Memᴰ c l) f q)).0 w);
        short = omega (arith, good.short, l, m, z);
        symbols = λ q. (all-mem RowCell x cells hole q).1 refl;
      }
    where
      cells : All RowCell x
      cells =
          let a : All RowCell (front i y ++ back i y) = rw (front-back i y) good.cells in
          all-++ RowCell (front i y) (g.cell ∷ back i y) (all-front RowCell (front i y) (back i y) a)
          (S.cell, all_back RowCell (front i y) (back i y) a)

  decided-terms : All (λ (K : List ℕ). Terms (suc k) (opened K)) (replicate (suc k) hole ∷ skeletons p (decide i g.cell (replicate (suc k) hole)))
  decided-terms = rw (whole-skeletons (replicate (suc k) hole)) at (skeletons-terms (suc k) whole (row_loose, tt) (omega arith))

-- The flagged branch, number n, as the walk stands at it.
and-true : (a b : Bool) → (a && b) ≡ true → a ≡ true
and-true true b e = refl
and-true false b e = absurd (true≢false (sym e))

one_of : (rows : List (List ℕ)) → length rows ≡ 1 → (y : List ℕ) × (rows ≡ y ∷ [])
one_of [] l = absurd (let z : ⊥ = omega arith in z)
one_of (y ∷ []) l = (y, refl)
one_of (y ∷ (x ∷ rows)) l = absurd (let z : ⊥ = omega arith in z)

module _ {v : ℕ} {G sib rep : List ℕ} (g : Goal v G) (T : Tables G sib rep) {bs ns us rs : List ℕ} {fs : List Frame} {n top row : ℕ}
    (t : Top G rep sib bs ns us rs fs n top row) (Z : Sizes bs ns us rs)
    (S : Sound RowCell t.k t.group) (C : Cells RowCell t.tree) (on : flag t.group ≡ true) where
  is-var : is_var t.group.cell ≡ true
  is-var = and-true (is_var t.group.cell) _ on

  row_of : (y : List ℕ) × (t.group.rows ≡ y ∷ [])
  row_of = one_of t.group.rows (S.lone is-var)

  abbrev low : t.place ≤ t.k
  low = (held g T t).low

  abbrev the-chain : Chain (suc t.k) (x t.place low t.group t.tree row_of.0 row_of.1 is-var S C)
  the-chain = chain t.place low t.group t.tree row_of.0 row_of.1 is-var S C

  module _ (words rest : List ℕ) (d : drop n words ≡ map word (notes_in (next {g = t.group} t.tree end) t.place t.slots t.free row) ++ rest)
      (f : All BranchFits (notes_in (next {g = t.group} t.tree end) t.place t.slots t.free row)) (to : ℕ)
      (e : to ≡ n + 1 + branches t.tree) (far : to ≤ most_branches) where
    pub begins : Begins words rep sib bs ns us rs n to
    unfolding branches
    begins =
        let o = row_of in
        let q = whole-notes t.place low t.group t.tree o.0 o.1 is-var S C t.slots t.free row in
        record {
          w = v;
          G = G;
          goal = g;
          tables = T;
          e = n + branches_in (next {g = t.group} t.tree t.trees);
          m = t.free;
          k = suc t.k;
          slots = t.slots;
          R = t.R;
          linked = (held g T t).linked;
          on = omega arith;
          wide = (held g T t).width;
          x = x t.place low t.group t.tree o.0 o.1 is-var S C;
          chain = the-chain;
          loose = row_loose t.place low t.group t.tree o.0 o.1 is-var S C;
          noted = chain-is-noted t.place low t.group t.tree o.0 o.1 is-var S C words n t.slots t.free row rest (rw q d) (rw q f);
          count = omega (arith, chain-is-long t.place low t.group t.tree o.0 o.1 is-var S C);
          far = far;
          size-bound = Z.bound;
          size-args = Z.args;
          size-until = Z.until;
          size-refs = Z.refers;
        }

    -- what is answered for the row is what the tree has
    pub gone : {tried : ℕ} {hit : Bool} → Gone begins.R begins.x (skeletons_of begins.chain (replicate begins.k hole)) tried hit
        → (tried ≡ tried_on t.R (replicate (suc t.k) hole ∷ skeletons t.tree (decide t.place t.group.cell (replicate (suc t.k) hole))))
        × (hit ≡ unifiable (insert t.place t.group.cell (flatten t.group.rows)) t.R)
    unfolding begins flatten
    gone a =
        let o = row_of in
        let L = (held g T t).linked in
        let u : Terms (suc t.k) t.R =
        rw (L.same, ← (held g T t).width, ← entries-length rs t.slots) (Terms-inst L.binds.good (Terms-refs g T (omega (arith, L.few)) L.stand)) in
        let K = replicate (suc t.k) hole in
        let s = chain-decides t.place low t.group t.tree o.0 o.1 is-var S C K in
        let h = gone-is u (row-terms t.place low t.group t.tree o.0 o.1 is-var S C)
        (rw s (decided-terms t.place low t.group t.tree o.0 o.1 is-var S C)) a in
        (h.0 ∙ ap (tried_on t.R) s, rw (o.1, append-nil o.0) h.1)

-- what is noted in the first `n` numbers of an array, in the array
drop-cut : (i n : ℕ) (l : List ℕ) → i ≤ n → drop i l ≡ drop i (take n l) ++ drop n l
drop-cut zero n l h = sym (take-append-drop n l)
drop-cut (suc i) zero l h = absurd (let z : ⊥ = omega arith in z)
drop-cut (suc i) (suc n) [] h = refl
drop-cut (suc i) (suc n) (c ∷ l) h = drop-cut i n l (omega arith)

-- the hit of a row that is run by itself
its-row : (row : ℕ) (hit : Bool) → up_from row (cond hit 1 0) ≡ cond hit (row ∷ []) []
unfolding up_from
its-row row true = refl
its-row row false = refl

-- In the walk: the rest of the row, and the walk after it.
module _ {noted goal room : List ℕ} {count w : ℕ} (b : Begun noted count goal room w) {sib rep bs ns us rs room' : List ℕ} {i found tries : ℕ}
    (T : Tables (renamed goal) sib rep)
    (A : Walking b rep sib bs ns us rs room' i found tries) (l : i < count) (on : flagged b T A l ≡ true) where
  abbrev G : Goal w (renamed goal)
  G = goal-head b.is

  abbrev t : Top (renamed goal) rep sib bs ns us rs A.left_over i A.top A.row
  t = top-now b T A l

  abbrev W : ℕ
  W = get_or noted i 0

  words-all : drop i noted ≡ map word (notes_in (next {g = t.group} t.tree end) t.place t.slots t.free A.row)
      ++ (map word (notes_of (frames G T t) (A.row + length t.group.rows)) ++ drop count noted)
  words-all =
      drop-cut i count noted (omega arith) ∙ ap (λ (x : List ℕ). x ++ drop count noted) (words-here G T A (inside b T A l))
      ∙ append_assoc (map word (notes_in (next {g = t.group} t.tree end) t.place t.slots t.free A.row))
      (map word (notes_of (frames G T t) (A.row + length t.group.rows))) (drop count noted)

  pub rest-now : (to : ℕ) → to ≡ i + 1 + skip_in W → Begins noted rep sib bs ns us rs i to
  rest-now to e =
      let s = t.sound A.sound in
      let q : to ≡ i + 1 + branches t.tree = e ∙ ap (λ (s : ℕ). i + 1 + s) (rw (same_word b T A l) at (skip_is G T A (inside b T A l))) in
      begins G T t A.sizes s.0 s.1 on noted (map word (notes_of (frames G T t) (A.row + length t.group.rows)) ++ drop count noted)
      words-all (fit-only G T A (inside b T A l)) to q
      (omega (arith, e, skip-now b T A l, count_small b))

  pub alone-now : {to : ℕ} (e : to ≡ i + 1 + skip_in W) {t' h : ℕ} → Walks (rest-now to e) t' h → {room'' : List ℕ} (r : ℕ) → r ≡ row_noted W
      → room'' ≡ sets room' found (up_from r h)
      → {i' found' tries' : ℕ} → i' ≡ to → found' ≡ found + h → tries' ≡ tries + t' → Walking b rep sib bs ns us rs room'' i' found' tries'
  unfolding rest-now
  alone-now {to} e {t'} {h} (hit, eh, a) {room''} r er y ei ef et =
      let y' : room'' ≡ sets room' found (cond hit (row_noted (get_or (take count noted) i 0) ∷ []) []) =
      y ∙ ap (λ (z : ℕ). sets room' found (up_from r z)) eh ∙ ap (sets room' found) (its-row r hit) ∙ rw (same_word b T A l, er) in
      let s = t.sound A.sound in
      let g = gone G T t A.sizes s.0 s.1 on noted (map word (notes_of (frames G T t) (A.row + length t.group.rows)) ++ drop count noted)
      words-all (fit-only G T A (inside b T A l)) to _ _ a in
      rw (ei, ef, et, eh, e) (rw (same_word b T A l) at (on-alone G T A (inside b T A l) t' hit on g.0 g.1 y'))
