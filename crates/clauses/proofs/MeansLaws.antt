-- The clauses of a plan answer what its rows reply, in row order (02, W-210).
use Prim.Native.Nat.{ℕ, suc, ◌+◌, ◌-◌, ◌*◌, ◌≤◌, ◌<◌}
use mathlib.Core.Path.{◌≡◌, refl, ◌∙◌, ap, ap₂}
use mathlib.Core.Bool.{false}
use mathlib.Core.List.{List, [], ◌∷◌, ◌++◌, map, append-nil}
use native.Mathlib.Omega.{arith}
use lib.ListN.{length}
use Rattle.cell.specs.Cell.{is_var}
use Rattle.term.specs.Terms.{root, close}
use Rattle.term.proofs.TermsLaws.{zero-nil}
use Rattle.table.specs.All.{All}
use Rattle.table.specs.Table.{count}
use Rattle.plan.specs.Runs.{Run, runs}
use Rattle.plan.specs.Plans.{Plan, leaf, node, Branches, end, next, OneRow, OneRows}
use Rattle.plan.specs.code.Rows.{row_count}
use Rattle.plan.proofs.RunsLaws.{Each, Sized, group-all, group-sizes, group-rows}
use Rattle.answer.specs.Skeleton.{hole, fill, decide}
use Rattle.answer.proofs.SkeletonLaws.{fill-all, count-all}
use Rattle.clauses.specs.Translate.{Predicate, rule, head_of, single, each, clause, clause_in, predicate}
use Rattle.clauses.proofs.SolidLaws.{Solid, Frame, blank-solid, solid-decide, fill_none}
use Rattle.clauses.proofs.CallLaws.{Means, means-done, means-fact, means-rule}
use Rattle.clauses.proofs.SeatLaws.{Seat, SeatAt, seat-close, few-places, one-solid, seats, expand, runs-expand, Fixed, runs-fixed, refill}
use Rattle.clauses.proofs.SeatLaws.{blank, map-expand, below-count, frame-blank, frame_below}

pub solid-below : (i : ℕ) (K : List ℕ) (g : Run) → (2 ≤ length g.rows → Solid K) → (2 ≤ length g.rows → is_var g.cell ≡ false)
    → 2 ≤ length g.rows → Solid (decide i g.cell K)
solid-below i K g d f l = solid-decide i g.cell K (f l) (d l)

-- of several runs none has all the rows
fewer-rows : (g g' : Run) (gs : List Run) (z : ℕ) → Sized z (g ∷ (g' ∷ gs)) → Sized (row_count (g ∷ (g' ∷ gs)) - 1) (g ∷ (g' ∷ gs))
fewer-rows g g' gs z s = (
  (s.0.0, omega (arith, s.1.0.0)),
  (
    (s.1.0.0, omega (arith, s.0.0)),
    rest gs z (row_count (g ∷ (g' ∷ gs)) - 1) s.1.1 (omega (arith, s.0.0)),
  ),
)
  where
    rest : (hs : List Run) (z n : ℕ) → Sized z hs → row_count hs ≤ n → Sized n hs
    rest [] z n a l = tt
    rest (h ∷ hs) z n a l = ((a.0.0, omega arith), rest hs z n a.1 (omega arith))

-- one branch is folded into the head; where there are more, the head calls a predicate of their own
one-or-more : (w i k r : ℕ) (K : List ℕ) → i ≤ k → (g : Run) (gs : List Run) (z : ℕ) {P P₁ Q : Predicate} {xs : List (List ℕ)} → Frame w K
    → Each (SeatAt k) (g ∷ gs) → Sized z (g ∷ gs) → count hole K ≡ suc k → suc k ≤ 32 → 32 * row_count (g ∷ gs) ≤ r
    → (2 ≤ row_count (g ∷ gs) → Solid K)
    → Means P₁ w r (map (fill (decide i g.cell K)) g.rows ++ xs)
    → ((z : ℕ) → Sized z (g ∷ gs) → Means Q (suc k) (32 * z) (expand (λ (c : ℕ). fill (decide i c (blank k))) (g ∷ gs))) → Means P w r xs
    → Means (single gs P₁ (rule (head_of K) Q P)) w r (expand (λ (c : ℕ). fill (decide i c K)) (g ∷ gs) ++ xs)
one-or-more w i k r K h g [] z f a s e m l d M₁ MQ M = rw (append-nil (map (fill (decide i g.cell K)) g.rows)) M₁
one-or-more w i k r K h g (g' ∷ gs) y f a s e m l d M₁ MQ M =
    let v = map-expand i k K h (g ∷ (g' ∷ gs)) a in
    let z = row_count (g ∷ (g' ∷ gs)) in
    let o : 1 ≤ z = omega (arith, s.0.0) in
    rw (← v.0)
    (means-rule K (suc k) (d (omega (arith, s.0.0, s.1.0.0))) e (omega arith) f (omega arith) (omega arith) v.1 (MQ (z - 1) (fewer-rows g g' gs y s)) M)

leaf-row : (K : List ℕ) → count hole K ≡ 0 → (rows : List (List ℕ)) → All (Seat 0) rows → length rows ≡ 1 → map (fill K) rows ≡ K ∷ []
leaf-row K e [] a o = absurd (let z : ⊥ = omega arith in z)
leaf-row K e (r ∷ []) a o = let z : r ≡ [] = zero-nil a.0.terms in ap (λ (l : List ℕ). l ∷ []) (ap (fill K) z ∙ fill_none K e)
leaf-row K e (r ∷ (t ∷ rs)) a o = absurd (let z : ⊥ = omega arith in z)

mutual
  unfolding each OneRow

  clause-means : {k : ℕ} {rows : List (List ℕ)} (p : Plan k rows) (w r : ℕ) (K : List ℕ) {P : Predicate} {xs : List (List ℕ)} → OneRow p
      → Frame w K
      → count hole K ≡ k → All (Seat k) rows → 0 < length rows → 32 * length rows ≤ r → (2 ≤ length rows → Solid K) → Means P w r xs
      → Means (clause p K P) w r (map (fill K) rows ++ xs)
  clause-means (leaf {rows}) w r K {xs = xs} o f e a s l d M = rw (leaf-row K e rows a o) (means-fact K M)
  clause-means (node {k} {rows} i h bs) w r K {xs = xs} o f e a s l d M =
      let q : suc k ≡ i + suc (k - i) = omega arith in
      let v : expand (λ (c : ℕ). fill (decide i c K)) (runs i rows) ≡ map (fill K) rows
      = runs-expand (λ (c : ℕ). fill (decide i c K)) (fill K) i (Seat (suc k)) (λ r S. refill i (k - i) K r (rw q at S)) rows a in
      let n = group-rows (root i) (close i) rows in
      rw (← v)
      (clause_in-means bs w r i K o f e h (few-places (suc k) rows a s)
      (group-all (root i) (close i) (Seat (suc k)) (SeatAt k) (seat-close k i h) rows a) (runs-fixed i rows) (length rows) (group-sizes (root i) (close i) rows)
      (omega (arith, n)) (λ l. d (omega (arith, n))) M)

  clause_in-means : {k : ℕ} {gs : List Run} (bs : Branches k gs) (w r i : ℕ) (K : List ℕ) {P : Predicate} {xs : List (List ℕ)} → OneRows bs
      → Frame w K
      → count hole K ≡ suc k → i ≤ k → suc k ≤ 32 → Each (SeatAt k) gs → Fixed gs → (z : ℕ) → Sized z gs → 32 * row_count gs ≤ r
      → (2 ≤ row_count gs → Solid K) → Means P w r xs → Means (clause_in bs i K P) w r (expand (λ (c : ℕ). fill (decide i c K)) gs ++ xs)
  clause_in-means end w r i K o f e h m a x z s l d M = M
  clause_in-means (next {k} {g} {gs} p bs) w r i K o f e h m a x z s l d M =
      let n = one-solid k g.cell g.rows a.0 s.0.0 in
      let B = blank k in
      let c = count-all (suc k) in
      let MQ : (y : ℕ) → Sized y (g ∷ gs)
      → Means (clause p (decide i g.cell B) (each bs i)) (suc k) (32 * y) (expand (λ (c : ℕ). fill (decide i c B)) (g ∷ gs))
      = λ y t. clause-means p (suc k) (32 * y) (decide i g.cell B) o.0 (frame_below (suc k) i g.cell k B c h n (frame-blank (suc k)))
      (below-count i g.cell k B c h n)
      (seats k g.cell g.rows a.0) s.0.0 (omega (arith, t.0.1)) (solid-below i B g (λ l. blank-solid (suc k)) x.0)
      (each-means bs i o.1 h m a.1 x.1 y t.1) in
      let M₁ = clause-means p w r (decide i g.cell K) o.0 (frame_below w i g.cell k K e h n f) (below-count i g.cell k K e h n)
      (seats k g.cell g.rows a.0) s.0.0 (omega arith) (solid-below i K g (λ l. d (omega arith)) x.0) M in
      one-or-more w i k r K h g gs z f a s e m l d M₁ MQ M

  each-means : {k : ℕ} {gs : List Run} (bs : Branches k gs) (i : ℕ) → OneRows bs → i ≤ k → suc k ≤ 32 → Each (SeatAt k) gs → Fixed gs
      → (z : ℕ) → Sized z gs
      → Means (each bs i) (suc k) (32 * z) (expand (λ (c : ℕ). fill (decide i c (blank k))) gs)
  each-means end i o h m a x z s = means-done
  each-means (next {k} {g} p bs) i o h m a x z s =
      let n = one-solid k g.cell g.rows a.0 s.0.0 in
      let B = blank k in
      let c = count-all (suc k) in
      clause-means p (suc k) (32 * z) (decide i g.cell B) o.0 (frame_below (suc k) i g.cell k B c h n (frame-blank (suc k)))
      (below-count i g.cell k B c h n)
      (seats k g.cell g.rows a.0) s.0.0 (omega (arith, s.0.1)) (solid-below i B g (λ l. blank-solid (suc k)) x.0)
      (each-means bs i o.1 h m a.1 x.1 z s.1)

-- W-210's theorem: to every goal the clauses of a plan answer what the rows reply, in row order
pub clauses-mean : {k : ℕ} {rows : List (List ℕ)} (p : Plan (suc k) rows) → OneRow p → All (Seat (suc k)) rows → 0 < length rows
    → Means (predicate p) (suc k) (32 * length rows) rows
unfolding predicate OneRow
clauses-mean {rows = rows} (node {k} i h bs) o a s =
    let q : suc k ≡ i + suc (k - i) = omega arith in
    let w : expand (λ (c : ℕ). fill (decide i c (blank k))) (runs i rows) ≡ map (fill (blank k)) rows
    = runs-expand (λ (c : ℕ). fill (decide i c (blank k))) (fill (blank k)) i (Seat (suc k)) (λ r S. refill i (k - i) (blank k) r (rw q at S)) rows a in
    let v : map (fill (blank k)) rows ≡ rows = same_rows rows a in
    let M = each-means bs i o h (few-places (suc k) rows a s)
    (group-all (root i) (close i) (Seat (suc k)) (SeatAt k) (seat-close k i h) rows a) (runs-fixed i rows) (length rows)
    (group-sizes (root i) (close i) rows) in
    rw (w, v) at M
  where
    same_rows : (rs : List (List ℕ)) → All (Seat (suc k)) rs → map (fill (blank k)) rs ≡ rs
    same_rows [] b = refl
    same_rows (r ∷ rs) b = ap₂ ◌∷◌ (fill-all (suc k) b.0.terms) (same_rows rs b.1)
