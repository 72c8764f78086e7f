-- Never more hits than rows.
use Prim.Native.Nat.{ℕ, suc, ◌+◌, ◌≤◌}
use mathlib.Core.Path.{◌≡◌, refl, sym}
use mathlib.Core.Bool.{Bool, true, false, cond, ◌&&◌, ◌||◌, true≢false}
use mathlib.Core.List.{List, [], ◌∷◌, flatten}
use lib.Dec.{ltb}
use native.Mathlib.Omega.{arith}
use lib.ListN.{length, length-append}
use Rattle.cell.specs.Cell.{arity, is_var}
use Rattle.term.specs.code.Unifiable.{unifiable}
use Rattle.table.specs.Table.{count}
use Rattle.term.specs.Terms.{root, close}
use Rattle.plan.specs.Runs.{Run}
use Rattle.plan.specs.Plans.{Plan, leaf, node, Branches, end, next}
use Rattle.plan.specs.Notes.{twice, flag}
use Rattle.plan.proofs.RunsLaws.{group-rows}
use Rattle.plan.specs.code.Rows.{row_count}
use Rattle.answer.specs.Skeleton.{opened}
use Rattle.answer.specs.code.After.{Left, stuck, left, after}
use Rattle.answer.specs.code.Renamed.{var}
use Rattle.answer.specs.code.Tree.{insert, tried_on, under, hits, hits_in}
use Rattle.table.proofs.HeadLaws.{up-length}

under-length : (n : ℕ) (x : Left) (f : List ℕ → List ℕ) → ((R : List ℕ) → length (f R) ≤ n) → length (under [] x f) ≤ n
under-length n stuck f h = omega arith
under-length n (left R) f h = h R

one-length : (b : Bool) (f : ℕ) → length (cond b (f ∷ []) []) ≤ 1
one-length true f = omega arith
one-length false f = omega arith

test-length : (b : Bool) (rows : List (List ℕ)) → (b ≡ true → 1 ≤ length rows) → (x y : List ℕ) → length x ≤ 1 → length y ≤ length rows
    → length (cond b x y) ≤ length rows
test-length true rows h x y k l = let o = h refl in omega arith
test-length false rows h x y k l = l

pub tried-few : (R : List ℕ) (Ks : List (List ℕ)) → tried_on R Ks ≤ length Ks
unfolding tried_on
tried-few R [] = omega arith
tried-few R (K ∷ Ks) = let h = tried-few R Ks in go (unifiable (opened K) R) h
  where
    go : (b : Bool) → tried_on R Ks ≤ length Ks → cond b (suc (tried_on R Ks)) (tried_on R Ks) ≤ suc (length Ks)
    go true h = omega arith
    go false h = omega arith

-- a flagged branch has a row
flag-some : (g : Run) → flag g ≡ true → 1 ≤ length g.rows
unfolding twice count flatten
flag-some g e = go g.rows e
  where
    go : (rows : List (List ℕ)) → (is_var g.cell && twice (g.cell ∷ flatten rows)) ≡ true → 1 ≤ length rows
    go [] e = absurd (no (is_var g.cell) e)
      where
        no : (b : Bool) → (b && ((b && ltb 0 0) || false)) ≡ true → ⊥
        no true e = true≢false (sym e)
        no false e = true≢false (sym e)
    go (r ∷ rows) e = omega arith

mutual
  unfolding hits

  pub hits_few : {k : ℕ} {rows : List (List ℕ)} (p : Plan k rows) (m : ℕ) (R : List ℕ) (f : ℕ) → length (hits p m R f) ≤ length rows
  hits_few (leaf {rows}) m R f = omega (arith, up-length f (length rows))
  hits_few (node {rows = rows} i h bs) m R f = omega (arith, hits_in-few bs i m R f, group-rows (root i) (close i) rows)

  hits_in-few : {k : ℕ} {gs : List Run} (bs : Branches k gs) (i m : ℕ) (R : List ℕ) (f : ℕ) → length (hits_in bs i m R f) ≤ row_count gs
  hits_in-few end i m R f = omega arith
  hits_in-few (next {g = g} p bs) i m R f =
      let here = test-length (flag g) g.rows (λ q. flag-some g q)
      (cond (unifiable (insert i g.cell (flatten g.rows)) R) (f ∷ []) [])
      (under [] (after (var m) i g.cell R) (λ R'. hits p (m + arity g.cell) R' f))
      (one-length (unifiable (insert i g.cell (flatten g.rows)) R) f)
      (under-length (length g.rows) (after (var m) i g.cell R) (λ R'. hits p (m + arity g.cell) R' f) (λ R'. hits_few p (m + arity g.cell) R' f)) in
      omega (
        arith,
        here,
        length-append (cond (flag g) (cond (unifiable (insert i g.cell (flatten g.rows)) R) (f ∷ []) [])
            (under [] (after (var m) i g.cell R) (λ R'. hits p (m + arity g.cell) R' f))) (hits_in bs i m R (f + length g.rows)),
        hits_in-few bs i m R (f + length g.rows),
      )
