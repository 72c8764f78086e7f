-- How many clauses a program has: one for each leaf, and one for each state with several branches that is called. So at most 127.
use Prim.Native.Nat.{ℕ, suc, ◌+◌, ◌*◌, ◌≤◌, ◌<◌}
use mathlib.Core.Path.{◌≡◌, refl, ◌∙◌, ap}
use mathlib.Core.List.{List, [], ◌∷◌, ◌++◌}
use native.Mathlib.Omega.{arith}
use lib.ListN.{length, length-append}
use Rattle.term.specs.Terms.{root, close}
use Rattle.plan.specs.Runs.{Run, runs}
use Rattle.plan.specs.Plans.{Plan, leaf, node, Branches, end, next, leaves, leaves_in}
use Rattle.plan.proofs.RunsLaws.{Sized, group-sizes, group-some}
use Rattle.answer.specs.Skeleton.{decide}
use Rattle.clauses.specs.Translate.{single, each}
use Rattle.clauses.specs.Program.{own}
use Rattle.clauses.specs.code.Walk.{several, splits, splits_in, visited, visited_at, visited_in}
use Rattle.clauses.proofs.SeatLaws.{blank}
use Rattle.clauses.proofs.WalkLaws.{clause-own}

-- a state's own clauses: one for each branch
each_long : {k : ℕ} {gs : List Run} (bs : Branches k gs) (i j w n z : ℕ) → Sized z gs → length (own j w n (each bs i)) ≡ length gs
unfolding each own
each_long end i j w n z s = refl
each_long (next {k} {g} p bs) i j w n z s =
    ap length (clause-own p (decide i g.cell (blank k)) (each bs i) j w n s.0.0) ∙ ap suc (each_long bs i j w (n + splits p) z s.1)

mutual
  unfolding visited splits leaves

  visited-long : {k : ℕ} {rows : List (List ℕ)} (p : Plan k rows) (n : ℕ) → 0 < length rows
      → suc (length (visited p n)) ≡ leaves p + splits p
  visited-long leaf n s = refl
  visited-long (node {rows = rows} i h bs) n s =
      visited_at-long bs i n (length rows) (group-sizes (root i) (close i) rows) (group-some (root i) (close i) rows s)

  visited_at-long : {k : ℕ} {gs : List Run} (bs : Branches k gs) (i n z : ℕ) → Sized z gs → 0 < length gs
      → suc (length (visited_at bs i n)) ≡ leaves_in bs + (several gs 0 1 + splits_in bs)
  visited_at-long end i n z s l = absurd (omega arith)
  visited_at-long (next {k} {g} {gs} p bs) i n z s l =
      one gs bs (each_long (next {g = g} p bs) i n (suc k) (suc n) z s) (visited-long p n s.0.0) (visited-long p (suc n) s.0.0)
      (visited_in-long bs (suc n + splits p) z s.1)
    where
      one : (gs : List Run) (bs : Branches k gs) → length (own n (suc k) (suc n) (each (next {g = g} p bs) i)) ≡ suc (length gs)
          → suc (length (visited p n)) ≡ leaves p + splits p
          → suc (length (visited p (suc n))) ≡ leaves p + splits p
          → length (visited_in bs (suc n + splits p)) + length gs ≡ leaves_in bs + splits_in bs
          → suc (length (single gs (visited p n) (own n (suc k) (suc n) (each (next {g = g} p bs) i)
          ++ (visited p (suc n) ++ visited_in bs (suc n + splits p)))))
          ≡ leaves p + leaves_in bs + (single gs 0 1 + (splits p + splits_in bs))
      one [] end o a b c = omega arith
      one (g' ∷ gs) bs o a b c =
          omega (
            arith,
            length-append (own n (suc k) (suc n) (each (next {g = g} p bs) i)) (visited p (suc n) ++ visited_in bs (suc n + splits p)),
            length-append (visited p (suc n)) (visited_in bs (suc n + splits p)),
          )

  visited_in-long : {k : ℕ} {gs : List Run} (bs : Branches k gs) (n z : ℕ) → Sized z gs
      → length (visited_in bs n) + length gs ≡ leaves_in bs + splits_in bs
  visited_in-long end n z s = refl
  visited_in-long (next p bs) n z s =
      omega (arith, length-append (visited p n) (visited_in bs (n + splits p)), visited-long p n s.0.0, visited_in-long bs (n + splits p) z s.1)

mutual
  unfolding splits leaves

  few-splits : {k : ℕ} {rows : List (List ℕ)} (p : Plan k rows) → 0 < length rows → splits p < leaves p
  few-splits leaf s = omega arith
  few-splits (node {rows = rows} i h bs) s = at-splits bs (length rows) (group-sizes (root i) (close i) rows) (group-some (root i) (close i) rows s)

  at-splits : {k : ℕ} {gs : List Run} (bs : Branches k gs) (z : ℕ) → Sized z gs → 0 < length gs → several gs 0 1 + splits_in bs < leaves_in bs
  at-splits end z s l = absurd (omega arith)
  at-splits (next {k} {g} {gs} p bs) z s l = one gs bs (few-splits p s.0.0) (in-splits bs z s.1)
    where
      one : (gs : List Run) (bs : Branches k gs) → splits p < leaves p → splits_in bs + length gs ≤ leaves_in bs
          → single gs 0 1 + (splits p + splits_in bs) < leaves p + leaves_in bs
      one [] end a b = omega arith
      one (g' ∷ gs) bs a b = omega arith

  in-splits : {k : ℕ} {gs : List Run} (bs : Branches k gs) (z : ℕ) → Sized z gs → splits_in bs + length gs ≤ leaves_in bs
  in-splits end z s = omega arith
  in-splits (next p bs) z s = let a = few-splits p s.0.0 in let b = in-splits bs z s.1 in omega arith

-- the program as the walk makes it
pub walked-long : {k : ℕ} (rows : List (List ℕ)) (i : ℕ) (bs : Branches k (runs i rows)) → 0 < length rows
    → suc (length (own 0 (suc k) 1 (each bs i) ++ visited_in bs 1)) ≤ 2 * leaves_in bs
walked-long {k} rows i bs s =
    let z = group-sizes (root i) (close i) rows in
    let a = each_long bs i 0 (suc k) 1 (length rows) z in
    let b = visited_in-long bs 1 (length rows) z in
    let c = in-splits bs (length rows) z in
    let d = group-some (root i) (close i) rows s in
    omega (arith, length-append (own 0 (suc k) 1 (each bs i)) (visited_in bs 1))
