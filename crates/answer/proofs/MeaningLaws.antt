-- What the walk gives, `hits` and `tried`, against what a run is to report, by unification alone.
use Prim.Native.Nat.{ℕ, suc, ◌+◌, ◌-◌, ◌^◌, ◌≤◌, ◌<◌}
use mathlib.Core.Path.{◌≡◌, refl, sym, ◌∙◌, ap, subst}
use mathlib.Core.Logic.{◌≢◌, ◌↔◌, ◌⊎◌, inl, inr, ⊎_elim}
use mathlib.Core.Bool.{Bool, true, false, cond, ◌&&◌, true≢false}
use mathlib.Core.List.{List, [], ◌∷◌, ◌++◌, flatten, append-nil}
use native.Mathlib.Nat.{zero-add, add_assoc}
use native.Mathlib.Omega.{arith}
use lib.Dec.{eqb}
use lib.ListN.{length, replicate}
use borrow.Author.Tests.{ne_eqb}
use Rattle.cell.specs.Cell.{arity, is_var}
use Rattle.term.specs.Terms.{Terms, root, close}
use Rattle.term.specs.Unify.{inst, Unifies, renamed}
use Rattle.term.proofs.TermsLaws.{zero-nil, front-++, back-++}
use Rattle.term.proofs.Inst.{Subst-id}
use Rattle.term.proofs.Tests.{bool_cases, eqb_same}
use Rattle.term.specs.code.Unifiable.{unifiable}
use Rattle.term.proofs.Decide.{Decides, says-yes, says-no, unifiable-correct}
use Rattle.term.specs.Bind.{id_s}
use Rattle.table.specs.All.{All}
use Rattle.table.proofs.AllLaws.{all-each}
use Rattle.table.specs.Table.{count, up_from}
use Rattle.plan.specs.Runs.{Run, agree, join_if, join, runs}
use Rattle.plan.specs.Plans.{Plan, leaf, node, Branches, end, next}
use Rattle.plan.specs.Notes.{twice, flag}
use Rattle.plan.proofs.TwiceLaws.{Lone, runs-lone, twice-once, once-twice}
use Rattle.plan.proofs.RunsLaws.{agree-eq, Each, Sized, group-all, group-sizes}
use Rattle.answer.specs.Skeleton.{hole, fill, decide, opened}
use Rattle.answer.specs.Run.{Picks, none, hit, miss, Counts, zero_of, one_of, none_of, skeletons, skeletons_in, Tried}
use Rattle.answer.specs.code.After.{Left}
use Rattle.answer.specs.code.Renamed.{var}
use Rattle.answer.specs.code.Tree.{insert, tried_on, under, hits, hits_in, tried, tried_in, Deep, DeepIn}
use Rattle.answer.proofs.CountLaws.{Linear}
use Rattle.answer.specs.code.Loose.{RowLike}
use Rattle.answer.specs.code.Loose.{Loose}
use Rattle.answer.proofs.LooseLaws.{refill, no-hole, loose-close, skeleton-low, skeleton-short}
use Rattle.answer.proofs.LooseLaws.{row-like, parts, some-row, counts-++}
use Rattle.answer.proofs.RelativeLaws.{dead-all, rel-first, rel-next, rel-tried, rel-skeletons, add}
use Rattle.answer.proofs.SkeletonLaws.{Settled, settled-linear, decided, Holds, Decided, goes, ends, step, reached, decide-count, count-fill}
use Rattle.answer.proofs.SkeletonLaws.{var-no-hole, three-of, one-row, Opened, opened-row}

-- a row that uses each of its variables once
pub record Once (K x : List ℕ) : Type 0 where
  pub loose : Loose K x
  pub lin : Linear (fill K x)

once-close : (K : List ℕ) (i j : ℕ) → count hole K ≡ i + suc j → {x : List ℕ} → Once K x → Once (decide i (root i x) K) (close i x)
once-close K i j e {x} f = record { loose = loose-close K i j e f.loose; lin = subst Linear (sym (refill K i j e f.loose)) f.lin }

-- Picks of the rows of runs.

data PicksIn (Q : ℕ → List ℕ → Type 0) : List Run → ℕ → List ℕ → Type 0 where
  none-run : {f : ℕ} → PicksIn Q [] f []
  one-run : {g : Run} {gs : List Run} {f : ℕ} {hs hs' : List ℕ} → Picks (Q g.cell) g.rows f hs → PicksIn Q gs (f + length g.rows) hs'
      → PicksIn Q (g ∷ gs) f (hs ++ hs')

data Head (Q : ℕ → List ℕ → Type 0) (c : ℕ) (r : List ℕ) (gs : List Run) (f : ℕ) : List ℕ → Type 0 where
  head-hit : {hs : List ℕ} → Q c r → PicksIn Q gs (suc f) hs → Head Q c r gs f (f ∷ hs)
  head-miss : {hs : List ℕ} → ¬ Q c r → PicksIn Q gs (suc f) hs → Head Q c r gs f hs

module _ (Q : ℕ → List ℕ → Type 0) where
  single : (c : ℕ) (r : List ℕ) (gs : List Run) (f : ℕ) {hs hs' : List ℕ} → Picks (Q c) (r ∷ []) f hs → PicksIn Q gs (f + 1) hs' → Head Q c r gs f (hs ++ hs')
  single c r gs f (hit q none) p = let e : f + 1 ≡ suc f = omega arith in head-hit q (rw e at p)
  single c r gs f (miss q none) p = let e : f + 1 ≡ suc f = omega arith in head-miss q (rw e at p)

  front_of : (c : ℕ) (r : List ℕ) (g : Run) (gs : List Run) (f : ℕ) {hs hs' : List ℕ} → c ≡ g.cell → Picks (Q g.cell) (r ∷ g.rows) f hs
      → PicksIn Q gs (f + suc (length g.rows)) hs' → Head Q c r (g ∷ gs) f (hs ++ hs')
  front_of c r g gs f e (hit q p) w = let x : f + suc (length g.rows) ≡ suc f + length g.rows = omega arith in head-hit (rw e q) (one-run p (rw x at w))
  front_of c r g gs f e (miss q p) w = let x : f + suc (length g.rows) ≡ suc f + length g.rows = omega arith in head-miss (rw e q) (one-run p (rw x at w))

  join-head : (c : ℕ) (r : List ℕ) (gs : List Run) (f : ℕ) {hs : List ℕ} → PicksIn Q (join c r gs) f hs → Head Q c r gs f hs
  join-head c r [] f (one-run p w) = single c r [] f p w
  join-head c r (g ∷ gs) f w = go (agree c g.cell) refl w
    where
      go : (b : Bool) → agree c g.cell ≡ b → {hs : List ℕ} → PicksIn Q (join_if b c r g gs) f hs → Head Q c r (g ∷ gs) f hs
      go true e (one-run p w) = front_of c r g gs f (agree-eq c g.cell e) p w
      go false e (one-run p w) = single c r (g ∷ gs) f p w

  -- those of the runs at a place are those of the rows
  picks-runs : (P : List ℕ → Type 0) (F : List ℕ → Type 0) (i : ℕ) → ((r : List ℕ) → F r → P r ↔ Q (root i r) (close i r))
      → (rs : List (List ℕ)) (f : ℕ) {hs : List ℕ} → All F rs
      → PicksIn Q (runs i rs) f hs → Picks P rs f hs
  picks-runs P F i h [] f a none-run = none
  picks-runs P F i h (r ∷ rs) f a w = go (join-head (root i r) (close i r) (runs i rs) f w) (λ hs. picks-runs P F i h rs (suc f) {hs = hs} a.1)
    where
      go : {hs : List ℕ} → Head Q (root i r) (close i r) (runs i rs) f hs → ((hs : List ℕ) → PicksIn Q (runs i rs) (suc f) hs → Picks P rs (suc f) hs)
          → Picks P (r ∷ rs) f hs
      go (head-hit {hs} q w) ih = hit ((h r a.0).1 q) (ih hs w)
      go (head-miss {hs} q w) ih = miss (λ p. q ((h r a.0).0 p)) (ih hs w)

picks-all : (P : List ℕ → Type 0) (rs : List (List ℕ)) (f : ℕ) → All P rs → Picks P rs f (up_from f (length rs))
unfolding up_from
picks-all P [] f a = none
picks-all P (r ∷ rs) f a = hit a.0 (picks-all P rs (suc f) a.1)

picks-none : (P : List ℕ → Type 0) (rs : List (List ℕ)) (f : ℕ) → All (λ (x : List ℕ). ¬ P x) rs → Picks P rs f []
picks-none P [] f a = none
picks-none P (r ∷ rs) f a = miss a.0 (picks-none P rs (suc f) a.1)

-- a row of a run, under the skeleton below the branch
abbrev pub Below : ℕ → List ℕ → ℕ → List ℕ → Type 0
Below i K c x = Once (decide i c K) x × (c ≢ hole)

below_all : (K : List ℕ) (i j : ℕ) → count hole K ≡ i + suc j → (rows : List (List ℕ)) → All (Once K) rows → Each (Below i K) (runs i rows)
below_all K i j e = group-all (root i) (close i) (Once K) (Below i K) (λ r f. (once-close K i j e f, no-hole K i j e f.loose))

-- what a run's rows say of its cell and of what is open below it
module _ (i k c : ℕ) (K : List ℕ) (rows : List (List ℕ)) (e : count hole K ≡ suc k) (l : i ≤ k) (s : 0 < length rows) (a : All (Below i K c) rows) where
  pub cell-hole : c ≢ hole
  cell-hole = (some-row (Below i K c) rows s a).1.1

  holes-below : count hole (decide i c K) ≡ arity c + k
  holes-below = let z = decide-count i c K cell-hole (omega arith) in omega arith

  once-below : All (Once (decide i c K)) rows
  once-below = all-each (Below i K c) (Once (decide i c K)) (λ x y. y.0) rows a

-- A row of which no variable is decided, or that uses each of its variables once.
pub data Even (K x : List ℕ) : Type 0 where
  plain : ((v : ℕ) → is_var v ≡ true → count v K ≡ 0) → Even K x
  linear : Linear (fill K x) → Even K x

pub record Fine (K x : List ℕ) : Type 0 where
  pub loose : Loose K x
  pub even : Even K x

even-settled : {K x : List ℕ} → Even K x → Settled K x
even-settled (plain p) = record { once = λ v h n. absurd (let z = p v h in let y : ⊥ = omega arith in y) }
even-settled (linear l) = settled-linear l

-- a row of a run: what it was before the run's place was closed, and what it is below the branch
pub record From (i : ℕ) (K : List ℕ) (c : ℕ) (y : List ℕ) : Type 0 where
  pub row : List ℕ
  pub fine : Fine K row
  pub whole : insert i c y ≡ row
  pub again : fill (decide i c K) y ≡ fill K row
  pub loose : Loose (decide i c K) y
  pub solid : c ≢ hole
  pub even : (is_var c && twice (c ∷ y)) ≡ false → Even (decide i c K) y
  pub cells : (v : ℕ) → is_var v ≡ true → count v (c ∷ y) ≤ count v (fill K row)

flat-one : (y : List ℕ) → flatten (y ∷ []) ≡ y
unfolding flatten
flat-one y = append-nil y

-- a row's own place
module _ (K : List ℕ) (i j : ℕ) (e : count hole K ≡ i + suc j) {x : List ℕ} (F : Fine K x) where
  abbrev c : ℕ
  c = root i x

  abbrev y : List ℕ
  y = close i x

  counts : (v : ℕ) → is_var v ≡ true → (count v (decide i c K) ≡ cond (eqb v c) 1 0 + count v K)
      × (count v (fill K x) ≡ count v K + (cond (eqb v c) 1 0 + count v y))
  counts v hv =
      let q = parts K i j e F.loose in
      let d = decided i c j K (no-hole K i j e F.loose) e v hv q.t_a q.targs q.t_b in
      (d.0, rw (← q.whole, ← q.closed) at d.1)

  still-even : (is_var c && twice (c ∷ y)) ≡ false → Even (decide i c K) y
  unfolding count
  still-even z = go F.even
    where
      go : Even K x → Even (decide i c K) y
      go (linear l) = linear (subst Linear (sym (refill K i j e F.loose)) l)
      go (plain p) = ⊎_elim
          (λ h. let t : twice (c ∷ y) ≡ false = rw h at z in
          let l = twice-once (c ∷ y) t in
          linear (record {
            once = λ v hv. rw (refill K i j e F.loose) (let d = counts v hv in let n = l v hv in let o = p v hv in
                omega (arith, d.1, n, o));
          }))
          (λ h. plain (λ v hv. let d = counts v hv in let o = p v hv in let n : v ≢ c = λ q. true≢false (sym hv ∙ ap is_var q ∙ h) in
          let u : ◌≡◌ {A = ℕ} (cond (eqb v c) 1 0) 0 = rw (ne_eqb v c n) in omega (arith, d.0, o, u)))
          (bool_cases (is_var c))

  from_row : From i K c y
  unfolding count
  from_row =
      let q = parts K i j e F.loose in
      record {
        row = x;
        fine = F;
        whole = rw (q.closed, front-++ (q.args ++ q.B) q.t_a, back-++ (q.args ++ q.B) q.t_a) (sym q.whole);
        again = refill K i j e F.loose;
        loose = loose-close K i j e F.loose;
        solid = no-hole K i j e F.loose;
        even = still-even;
        cells = λ v hv. let d = counts v hv in omega (arith, d.1);
      }

pub from_all : (K : List ℕ) (i j : ℕ) → count hole K ≡ i + suc j → (rows : List (List ℕ)) → All (Fine K) rows → Each (From i K) (runs i rows)
from_all K i j e = group-all (root i) (close i) (Fine K) (From i K) (λ r f. from_row K i j e f)

-- numbers of variables: m is the next one, n cells are left in each row
pub record Numbers (k m n : ℕ) : Type 0 where
  pub wide : k ≤ n
  pub few : m + n ≤ 64 + k

numbers-below : {k m n : ℕ} (a : ℕ) → Numbers (suc k) m n → a + k < n → Numbers (a + k) (m + a) (n - 1) × (m + a ≤ 64)
numbers-below a x h = (record { wide = omega arith; few = omega (arith, x.few) }, omega (arith, x.few))

Unify-none : {X R : List ℕ} → Terms 0 X → Terms 0 R → Unifies X R
Unify-none t u = record { by = id_s; good = Subst-id; same = ap (inst id_s) (zero-nil t ∙ sym (zero-nil u)) }

-- what a run's rows say, as they stand in the state
module _ (i k c : ℕ) (K : List ℕ) (rows : List (List ℕ)) (e : count hole K ≡ suc k) (l : i ≤ k) (s : 0 < length rows) (a : All (From i K c) rows) where
  from-solid : c ≢ hole
  from-solid = (some-row (From i K c) rows s a).1.solid

  from-holes : count hole (decide i c K) ≡ arity c + k
  from-holes = let z = decide-count i c K from-solid (omega arith) in omega arith

  from-loose : All (Loose (decide i c K)) rows
  from-loose = all-each (From i K c) (Loose (decide i c K)) (λ x y. y.loose) rows a

-- where the branch is not flagged, each row is fine below it
flag_off : (i : ℕ) (K : List ℕ) (g : Run) → flag g ≡ false → (is_var g.cell ≡ true → length g.rows ≡ 1) → All (From i K g.cell) g.rows
    → All (Fine (decide i g.cell K)) g.rows
flag_off i K g z one a = ⊎_elim
    (λ h. single g.rows (one h) (rw h at z) h a)
    (λ h. all-each (From i K g.cell) (Fine (decide i g.cell K)) (λ y f. record { loose = f.loose; even = f.even (rw h refl) }) g.rows a)
    (bool_cases (is_var g.cell))
  where
    single : (rows : List (List ℕ)) → length rows ≡ 1 → twice (g.cell ∷ flatten rows) ≡ false → is_var g.cell ≡ true
        → All (From i K g.cell) rows → All (Fine (decide i g.cell K)) rows
    single [] l t h a = tt
    single (y ∷ []) l t h a = (record { loose = a.0.loose; even = a.0.even (rw h (rw (flat-one y) at t)) }, tt)
    single (y ∷ (x ∷ rows)) l t h a = absurd (let z : ⊥ = omega arith in z)

-- where it is, no variable is decided above it
flag-on : (i : ℕ) (K : List ℕ) (g : Run) {k : ℕ} → count hole K ≡ suc k → i ≤ k → flag g ≡ true → (is_var g.cell ≡ true → length g.rows ≡ 1)
    → 0 < length g.rows → All (From i K g.cell) g.rows
    → (y : List ℕ) × (g.rows ≡ y ∷ []) × From i K g.cell y × (is_var g.cell ≡ true) × (twice (g.cell ∷ y) ≡ true)
flag-on i K g e l z one s a = go g.rows (is_var g.cell) refl z one s a
  where
    go : (rows : List (List ℕ)) (v : Bool) → is_var g.cell ≡ v → (v && twice (g.cell ∷ flatten rows)) ≡ true → (v ≡ true → length rows ≡ 1)
        → 0 < length rows → All (From i K g.cell) rows
        → (y : List ℕ) × (rows ≡ y ∷ []) × From i K g.cell y × (is_var g.cell ≡ true) × (twice (g.cell ∷ y) ≡ true)
    go rows false h z one s a = absurd (true≢false (sym z))
    go [] true h z one s a = absurd (let y : ⊥ = omega arith in y)
    go (y ∷ []) true h z one s a = (y, refl, a.0, h, rw (flat-one y) at z)
    go (y ∷ (x ∷ rows)) true h z one s a = absurd (let w = one refl in let q : ⊥ = omega arith in q)

flag-plain : {i : ℕ} {K : List ℕ} {c : ℕ} {y : List ℕ} → From i K c y → twice (c ∷ y) ≡ true → (v : ℕ) → is_var v ≡ true → count v K ≡ 0
flag-plain {K = K} {c} {y} f t = go f.fine.even
  where
    go : Even K f.row → (v : ℕ) → is_var v ≡ true → count v K ≡ 0
    go (plain p) = p
    go (linear l) = absurd (true≢false (sym t ∙ once-twice (c ∷ y) (λ v h. let n = l.once v h in let o = f.cells v h in omega arith)))

module _ (G : List ℕ) where
  abbrev Fills : List ℕ → List ℕ → Type 0
  Fills K x = Unifies (fill K x) G

  one-mean : (i c : ℕ) (K : List ℕ) (m : ℕ) (rows : List (List ℕ)) (f : ℕ) (h : List ℕ → List ℕ) → All (Fine (decide i c K)) rows → {x : Left}
      → Decided (var m) i c G K x
      → ((R' : List ℕ) → Holds (var m + arity c) G (decide i c K) R' → Picks (Fills (decide i c K)) rows f (h R'))
      → Picks (Fills (decide i c K)) rows f (under [] x h)
  one-mean i c K m rows f h F (goes {R} H) ih = ih R H
  one-mean i c K m rows f h F (ends n) ih =
      picks-none (Fills (decide i c K)) rows f
      (all-each (Fine (decide i c K)) (λ (x : List ℕ). ¬ Fills (decide i c K) x)
      (λ x y. n x y.loose.terms (row-like y.loose) (even-settled y.even)) rows F)

  -- a flagged row, by itself
  alone-mean : {n : ℕ} (i c : ℕ) (K R : List ℕ) (f : ℕ) → Holds n G K R → (rows : List (List ℕ)) → length rows ≡ 1 → All (From i K c) rows
      → Picks (Fills (decide i c K)) rows f (cond (unifiable (insert i c (flatten rows)) R) (f ∷ []) [])
  alone-mean i c K R f H [] l a = absurd (let z : ⊥ = omega arith in z)
  alone-mean i c K R f H (y ∷ (x ∷ rows)) l a = absurd (let z : ⊥ = omega arith in z)
  alone-mean i c K R f H (y ∷ []) l a =
      let r = a.0 in
      let F = r.fine in
      let o = H.same r.row F.loose.terms (row-like F.loose) (even-settled F.even) in
      rw (flat-one y, r.whole) (go (unifiable-correct r.row R F.loose.terms H.terms) (λ u. o.0 (rw r.again at u)) (λ u. rw r.again (o.1 u)))
    where
      go : {b : Bool} {x : List ℕ} → Decides (Unifies x R) b → (Fills (decide i c K) y → Unifies x R) → (Unifies x R → Fills (decide i c K) y)
          → Picks (Fills (decide i c K)) (y ∷ []) f (cond b (f ∷ []) [])
      go (says-yes p) t u = hit (u p) none
      go (says-no p) t u = miss (λ w. p (t w)) none

  picks-test : {P : List ℕ → Type 0} {rows : List (List ℕ)} {f : ℕ} {x y : List ℕ} (b : Bool) → (b ≡ true → Picks P rows f x)
      → (b ≡ false → Picks P rows f y) → Picks P rows f (cond b x y)
  picks-test true p q = p refl
  picks-test false p q = q refl

  -- the hits are the rows that unify
  mutual
    unfolding hits Deep

    pub hits-mean : {k : ℕ} {rows : List (List ℕ)} (p : Plan k rows) (K R : List ℕ) (m n f : ℕ) → Holds (var m) G K R → count hole K ≡ k
        → All (Fine K) rows → Numbers k m n → Deep p n
        → Picks (Fills K) rows f (hits p m R f)
    hits-mean (leaf {rows}) K R m n f H e a u t =
        picks-all (Fills K) rows f
        (all-each (Fine K) (Fills K) (λ x F. (H.same x F.loose.terms (row-like F.loose) (even-settled F.even)).1
        (Unify-none (rw e at F.loose.terms) (rw e at H.terms))) rows a)
    hits-mean (node {k} {rows} i h bs) K R m n f H e a u t =
        let q : count hole K ≡ i + suc (k - i) = omega arith in
        picks-runs (λ c x. Fills (decide i c K) x) (Fills K) (Fine K) i
        (λ r F. let z = refill K i (k - i) q F.loose in
        (λ u. subst (λ (l : List ℕ). Unifies l G) (sym z) u, λ u. subst (λ (l : List ℕ). Unifies l G) z u)) rows f a
        (hits_in-mean bs i K R m n f H e h (from_all K i (k - i) q rows a) (length rows) (group-sizes (root i) (close i) rows) (runs-lone i rows) u t)

    hits_in-mean : {k : ℕ} {gs : List Run} (bs : Branches k gs) (i : ℕ) (K R : List ℕ) (m n f : ℕ) → Holds (var m) G K R → count hole K ≡ suc k → i ≤ k
        → Each (From i K) gs
        → (z : ℕ) → Sized z gs → Lone gs → Numbers (suc k) m n → DeepIn bs n → PicksIn (λ c x. Fills (decide i c K) x) gs f (hits_in bs i m R f)
    hits_in-mean end i K R m n f H e l a z s o u t = none-run
    hits_in-mean (next {k} {g} {gs} p bs) i K R m n f H e l a z s o u t =
        let c = g.cell in
        let d = from-holes i k c K g.rows e l s.0.0 a.0 in
        let solid = from-solid i k c K g.rows e l s.0.0 a.0 in
        let v = numbers-below (arity c) u t.0 in
        one-run
        (picks-test (flag g)
        (λ q. let y = flag-on i K g e l q o.0 s.0.0 a.0 in alone-mean i c K R f H g.rows (o.0 y.3) a.0)
        (λ q. let F = flag_off i K g q o.0 a.0 in
        one-mean i c K m g.rows f (λ R'. hits p (m + arity c) R' f) F (step i c H (omega arith) solid (omega arith) (omega arith))
        (λ R' H'. hits-mean p (decide i c K) R' (m + arity c) (n - 1) f
        (subst (λ (n : ℕ). Holds n G (decide i c K) R') (add_assoc (2 ^ 16) m (arity c)) H') d F v.0 t.1)))
        (hits_in-mean bs i K R m n (f + length g.rows) H e l a.1 z s.1 o.1 u t.2)

-- What a row says of its skeleton.

once-linear : {K x : List ℕ} → Loose K x → Linear (fill K x) → Linear K
once-linear {K} {x} F l = record { once = λ v hv. let e = count-fill v K x (var-no-hole v hv) F.terms in let o = l.once v hv in omega arith }

skeleton-linear : {K x : List ℕ} → Fine K x → Linear K
skeleton-linear {K} {x} F = go F.even
  where
    go : Even K x → Linear K
    go (plain p) = record { once = λ v h. let z = p v h in omega arith }
    go (linear l) = once-linear F.loose l

-- so with a variable of its own at each open place it is a row itself
opened-once : {K x : List ℕ} → Once K x → Opened (2 ^ 15) K
opened-once F = opened-row (2 ^ 15) (once-linear F.loose F.lin) (skeleton-low F.loose) (skeleton-short F.loose)

-- a variable is decided, or none
some-variable : (K : List ℕ) → ((v : ℕ) → is_var v ≡ true → count v K ≡ 0) ⊎ ((v : ℕ) × (is_var v ≡ true) × (1 ≤ count v K))
unfolding count
some-variable [] = inl (λ v h. refl)
some-variable (c ∷ K) = ⊎_elim
    (λ h. inr (c, h, let o : ◌≡◌ {A = ℕ} (cond (eqb c c) 1 0) 1 = rw (eqb_same c) in omega arith))
    (λ h. ⊎_elim
    (λ n. inl (λ v hv. let d : v ≢ c = λ q. true≢false (sym hv ∙ ap is_var q ∙ h) in let z = n v hv in rw (ne_eqb v c d) (omega arith)))
    (λ n. inr (n.0, n.1, let o = n.2 in omega arith))
    (some-variable K))
    (bool_cases (is_var c))

-- no row that fits the skeleton unifies
abbrev Dead : List ℕ → List ℕ → Type 0
Dead G K = (X : List ℕ) → Terms (count hole K) X → RowLike (fill K X) → Settled K X → ¬ Unifies (fill K X) G

dead-below : {G : List ℕ} (K : List ℕ) (i c j : ℕ) → c ≢ hole → count hole K ≡ i + suc j → Dead G K → Dead G (decide i c K)
dead-below {G} K i c j h e d X t r l u =
    let z : count hole (decide i c K) ≡ i + (arity c + j) = (let q = decide-count i c K h (omega arith) in omega arith) in
    let o = one-row i c j K h e (three-of i (arity c) j (rw z at t)) r l in
    d o.0 o.2 o.3 o.4 (subst (λ (l : List ℕ). Unifies l G) o.1 u)

module _ (g : List ℕ) where
  abbrev goal : List ℕ
  goal = renamed g

  dead-open : {K x : List ℕ} → Once K x → Dead goal K → ¬ Tried g K
  unfolding Tried opened
  dead-open {K} F d u =
      let o = opened-once F in
      d (up_from (2 ^ 15) (count hole K)) o.terms o.row o.lin u

  alive-open : {n : ℕ} {K R x : List ℕ} → Fine K x → Holds n goal K R → Tried g K
  unfolding Tried opened
  alive-open F H = reached (2 ^ 15) H (skeleton-linear F) (skeleton-low F.loose) (skeleton-short F.loose)

  -- below a branch whose test fails nothing is tried
  mutual
    unfolding skeletons

    dead-skeletons : {k : ℕ} {rows : List (List ℕ)} (p : Plan k rows) (K : List ℕ) → Dead goal K → count hole K ≡ k → All (Once K) rows → 0 < length rows
        → Counts (Tried g) (skeletons p K) 0
    dead-skeletons leaf K d e a s = zero_of
    dead-skeletons (node {k} {rows} i h bs) K d e a s =
        let q : count hole K ≡ i + suc (k - i) = omega arith in
        let x = some-row (Once K) rows s a in
        dead-skeletons_in bs i K d e h (below_all K i (k - i) q rows a) (length rows) (group-sizes (root i) (close i) rows) (dead-open x.1 d)

    dead-skeletons_in : {k : ℕ} {gs : List Run} (bs : Branches k gs) (i : ℕ) (K : List ℕ) → Dead goal K → count hole K ≡ suc k → i ≤ k → Each (Below i K) gs
        → (z : ℕ) → Sized z gs → ¬ Tried g K → Counts (Tried g) (skeletons_in bs i K) 0
    dead-skeletons_in end i K d e l a z s n = zero_of
    dead-skeletons_in (next {k} {g = r} {gs} p bs) i K d e l a z s n =
        let c = r.cell in
        let o = cell-hole i k c K r.rows e l s.0.0 a.0 in
        let q : count hole K ≡ i + suc (k - i) = omega arith in
        let h = holes-below i k c K r.rows e l s.0.0 a.0 in
        let F = once-below i k c K r.rows e l s.0.0 a.0 in
        none_of n
        (rw zero-add at (counts-++ (dead-skeletons p (decide i c K) (dead-below K i c (k - i) o q d) h F s.0.0)
        (dead-skeletons_in bs i K d e l a.1 z s.1 n)))

  -- where a branch's test fails: no variable is decided above, or there is one row, which uses each once
  dead-either : {k : ℕ} {rows : List (List ℕ)} (p : Plan k rows) (K : List ℕ) → Dead goal K → count hole K ≡ k → All (Fine K) rows → 0 < length rows
      → Counts (Tried g) (skeletons p K) 0
  dead-either {rows = rows} p K d e a s = ⊎_elim
      (λ n. dead-all g p K (λ X t r. d X t r (record { once = λ v h m. absurd (let z = n v h in let y : ⊥ = omega arith in y) })) e
      (all-each (Fine K) (Loose K) (λ x F. F.loose) rows a) s)
      (λ n. dead-skeletons p K d e (all-each (Fine K) (Once K) (λ x F. record { loose = F.loose; lin = only n F.even }) rows a) s)
      (some-variable K)
    where
      only : {K x : List ℕ} → (v : ℕ) × (is_var v ≡ true) × (1 ≤ count v K) → Even K x → Linear (fill K x)
      only n (linear l) = l
      only n (plain p) = absurd (let z = p n.0 n.1 in let o = n.2 in let y : ⊥ = omega arith in y)

  one-tried : (i c : ℕ) (K : List ℕ) (m : ℕ) (xs : List (List ℕ)) (h : List ℕ → ℕ) {x : Left} → Decided (var m) i c goal K x
      → ((R' : List ℕ) → Holds (var m + arity c) goal (decide i c K) R' → Counts (Tried g) xs (h R')) → (Dead goal (decide i c K) → Counts (Tried g) xs 0)
      → Counts (Tried g) xs (under 0 x h)
  one-tried i c K m xs h (goes {R} H) ih jh = ih R H
  one-tried i c K m xs h (ends n) ih jh = jh n

  counts-test : {xs : List (List ℕ)} {x y : ℕ} (b : Bool) → (b ≡ true → Counts (Tried g) xs x) → (b ≡ false → Counts (Tried g) xs y)
      → Counts (Tried g) xs (cond b x y)
  counts-test true p q = p refl
  counts-test false p q = q refl

  -- a flagged row, by itself
  alone-tried : {n k : ℕ} (i c : ℕ) (K R : List ℕ) {rows : List (List ℕ)} (p : Plan (arity c + k) rows) → Holds n goal K R → count hole K ≡ suc k
      → i ≤ k → c ≢ hole → ((v : ℕ) → is_var v ≡ true → count v K ≡ 0)
      → (x : List ℕ) → Loose K x → All (Loose (decide i c K)) rows → 0 < length rows
      → Counts (Tried g) (K ∷ skeletons p (decide i c K)) (tried_on R (replicate (suc k) hole ∷ skeletons p (decide i c (replicate (suc k) hole))))
  unfolding tried_on
  alone-tried {n} {k} i c K R p H e l h free x F a s =
      let r = rel-first g K R H free in
      let q : count hole K ≡ i + suc (k - i) = omega arith in
      let d : count hole (decide i c K) ≡ arity c + k = (let y = decide-count i c K h (omega arith) in omega arith) in
      subst (λ (n : ℕ). Counts (Tried g) (K ∷ skeletons p (decide i c K)) (tried_on R (replicate n hole ∷ skeletons p (decide i c (replicate n hole))))) e
      (add g K R H free (rel-tried g K R H free r F) (rel-skeletons g K R H free p (rel-next g K R H free i c (k - i) h q r) d a s))

  -- the tries are the branches whose skeleton unifies
  mutual
    unfolding tried skeletons Deep

    pub tried-mean : {k : ℕ} {rows : List (List ℕ)} (p : Plan k rows) (K R : List ℕ) (m n : ℕ) → Holds (var m) goal K R → count hole K ≡ k
        → All (Fine K) rows → 0 < length rows
        → Numbers k m n → Deep p n → Counts (Tried g) (skeletons p K) (tried p m R)
    tried-mean leaf K R m n H e a s u t = zero_of
    tried-mean (node {k} {rows} i h bs) K R m n H e a s u t =
        let q : count hole K ≡ i + suc (k - i) = omega arith in
        let x = some-row (Fine K) rows s a in
        tried_in-mean bs i K R m n H e h (from_all K i (k - i) q rows a) (length rows) (group-sizes (root i) (close i) rows) (runs-lone i rows)
        (alive-open x.1 H) u t

    tried_in-mean : {k : ℕ} {gs : List Run} (bs : Branches k gs) (i : ℕ) (K R : List ℕ) (m n : ℕ) → Holds (var m) goal K R → count hole K ≡ suc k
        → i ≤ k → Each (From i K) gs
        → (z : ℕ) → Sized z gs → Lone gs → Tried g K → Numbers (suc k) m n → DeepIn bs n → Counts (Tried g) (skeletons_in bs i K) (tried_in bs i m R)
    tried_in-mean end i K R m n H e l a z s o y u t = zero_of
    tried_in-mean (next {k} {g = r} {gs} p bs) i K R m n H e l a z s o y u t =
        let c = r.cell in
        let d = from-holes i k c K r.rows e l s.0.0 a.0 in
        let solid = from-solid i k c K r.rows e l s.0.0 a.0 in
        let v = numbers-below (arity c) u t.0 in
        counts-++
        (counts-test (flag r)
        (λ q. let w = flag-on i K r e l q o.0 s.0.0 a.0 in
        alone-tried i c K R p H e l solid (flag-plain w.2 w.4) w.2.row w.2.fine.loose
        (from-loose i k c K r.rows e l s.0.0 a.0) s.0.0)
        (λ q. let F = flag_off i K r q o.0 a.0 in
        one_of y
        (one-tried i c K m (skeletons p (decide i c K)) (λ R'. tried p (m + arity c) R') (step i c H (omega arith) solid (omega arith) (omega arith))
        (λ R' H'. tried-mean p (decide i c K) R' (m + arity c) (n - 1)
        (subst (λ (n : ℕ). Holds n goal (decide i c K) R') (add_assoc (2 ^ 16) m (arity c)) H') d F s.0.0 v.0 t.1)
        (λ z. dead-either p (decide i c K) z d F s.0.0))))
        (tried_in-mean bs i K R m n H e l a.1 z s.1 o.1 y u t.2)
