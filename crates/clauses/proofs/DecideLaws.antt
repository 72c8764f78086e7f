-- A place decided, in the code's form: the cell stands where the hole stood, and what came after it moves up.
use Prim.Native.Nat.{ℕ, zero, suc, ◌<◌}
use mathlib.Core.Path.{◌≡◌, refl, sym, ap}
use mathlib.Core.List.{List, [], ◌∷◌, ◌++◌}
use native.Mathlib.Omega.{arith}
use lib.ListN.{length, take, drop, replicate}
use borrow.Author.Tests.{ne_eqb}
use Rattle.cell.specs.Cell.{arity}
use Rattle.term.proofs.Tests.{eqb_same}
use Rattle.table.specs.Table.{count}
use Rattle.answer.specs.Skeleton.{hole, decide}
use Rattle.answer.proofs.CountLaws.{count_same, count-other}
use Rattle.clauses.specs.code.Walk.{hole_at}
use Rattle.clauses.proofs.SolidLaws.{Hole?, a-hole, a-cell, hole?}

-- the cell put at place p
abbrev pub put_at : (p c : ℕ) → List ℕ → List ℕ
put_at p c K = take p K ++ (c ∷ (replicate (arity c) hole ++ drop (suc p) K))

abbrev pub At : (i c : ℕ) → List ℕ → Type 0
At i c K = (decide i c K ≡ put_at (hole_at K i) c K) × (hole_at K i < length K)

pub decide-at : (i c : ℕ) (K : List ℕ) → i < count hole K → At i c K
unfolding count decide hole_at
decide-at i c [] h = absurd (omega arith)
decide-at i c (d ∷ K) h = go i (hole? d) h (λ j. decide-at j c K)
  where
    go : (i : ℕ) {d : ℕ} → Hole? d → i < count hole (d ∷ K) → ((j : ℕ) → j < count hole K → At j c K) → At i c (d ∷ K)
    go zero a-hole h ih = rw (eqb_same hole) (refl, omega arith)
    go (suc i) a-hole h ih =
        let q = ih i (omega (arith, count_same hole K)) in
        rw (eqb_same hole) (ap (λ (l : List ℕ). hole ∷ l) q.0, omega (arith, q.1))
    go zero (a-cell {c = d} n) h ih =
        let q = ih zero (omega (arith, count-other hole d K (λ p. n (sym p)))) in
        rw (ne_eqb d hole n) (ap (λ (l : List ℕ). d ∷ l) q.0, omega (arith, q.1))
    go (suc i) (a-cell {c = d} n) h ih =
        let q = ih (suc i) (omega (arith, count-other hole d K (λ p. n (sym p)))) in
        rw (ne_eqb d hole n) (ap (λ (l : List ℕ). d ∷ l) q.0, omega (arith, q.1))
