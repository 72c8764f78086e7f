-- The walk over a plan's states makes the plan's program.
use Prim.Native.Nat.{ℕ, suc, ◌+◌, ◌≤◌, ◌<◌}
use mathlib.Core.Path.{◌≡◌, refl, sym, ◌∙◌, ap}
use mathlib.Core.List.{List, [], ◌∷◌, ◌++◌, append_assoc}
use native.Mathlib.Omega.{arith}
use lib.ListN.{length}
use Rattle.term.specs.Terms.{root, close}
use Rattle.table.specs.All.{All}
use Rattle.table.specs.Table.{count}
use Rattle.table.proofs.HeadLaws.{up-length}
use Rattle.plan.specs.Runs.{Run, runs}
use Rattle.plan.specs.Plans.{Plan, leaf, node, Branches, end, next}
use Rattle.plan.specs.code.Rows.{row_count}
use Rattle.plan.proofs.RunsLaws.{Each, Sized, group-all, group-sizes, group-some, group-rows}
use Rattle.answer.specs.Skeleton.{hole, decide}
use Rattle.answer.proofs.SkeletonLaws.{count-all}
use Rattle.clauses.specs.Clauses.{calls, Clause, clause_of, handed}
use Rattle.clauses.specs.Translate.{Predicate, rule, head_of, single, each, clause, clause_in, predicate}
use Rattle.clauses.specs.Program.{callees, own, below, numbered, program}
use Rattle.clauses.specs.code.Walk.{several, splits, splits_in, fold_head, fold_head_in, fold_body, fold_body_in, visited, visited_at, visited_in}
use Rattle.clauses.proofs.SolidLaws.{Solid, blank-solid, handed-is}
use Rattle.clauses.proofs.SeatLaws.{Seat, SeatAt, seat-close, few-places, one-solid, seats, Fixed, runs-fixed, blank, below-count}
use Rattle.clauses.proofs.MeansLaws.{solid-below}

-- HOW MANY ARE CALLED
mutual
  unfolding each callees splits

  pub clause-callees : {k : ℕ} {rows : List (List ℕ)} (p : Plan k rows) (K : List ℕ) (P : Predicate) → 0 < length rows
      → callees (clause p K P) ≡ splits p + callees P
  clause-callees leaf K P s = omega arith
  clause-callees (node {rows = rows} i h bs) K P s =
      clause_in-callees bs i K P (length rows) (group-sizes (root i) (close i) rows) (group-some (root i) (close i) rows s)

  clause_in-callees : {k : ℕ} {gs : List Run} (bs : Branches k gs) (i : ℕ) (K : List ℕ) (P : Predicate) (z : ℕ) → Sized z gs → 0 < length gs
      → callees (clause_in bs i K P) ≡ several gs 0 1 + splits_in bs + callees P
  clause_in-callees end i K P z s l = absurd (omega arith)
  clause_in-callees (next {k} {g} {gs} p bs) i K P z s l =
      one gs bs (clause-callees p (decide i g.cell K) P s.0.0) (clause-callees p (decide i g.cell (blank k)) (each bs i) s.0.0)
      (each-callees bs i z s.1)
    where
      one : (gs : List Run) (bs : Branches k gs) → callees (clause p (decide i g.cell K) P) ≡ splits p + callees P
          → callees (clause p (decide i g.cell (blank k)) (each bs i)) ≡ splits p + callees (each bs i)
          → callees (each bs i) ≡ splits_in bs
          → callees (single gs (clause p (decide i g.cell K) P) (rule (head_of K) (clause p (decide i g.cell (blank k)) (each bs i)) P))
          ≡ single gs 0 1 + (splits p + splits_in bs) + callees P
      one [] end a b c = omega arith
      one (g' ∷ gs) bs a b c = omega arith

  each-callees : {k : ℕ} {gs : List Run} (bs : Branches k gs) (i z : ℕ) → Sized z gs → callees (each bs i) ≡ splits_in bs
  each-callees end i z s = refl
  each-callees (next {k} {g} p bs) i z s =
      clause-callees p (decide i g.cell (blank k)) (each bs i) s.0.0 ∙ ap (λ (n : ℕ). splits p + n) (each-callees bs i z s.1)

-- ONE BRANCH'S CLAUSE
mutual
  unfolding each own splits fold_head fold_body

  pub clause-own : {k : ℕ} {rows : List (List ℕ)} (p : Plan k rows) (K : List ℕ) (P : Predicate) (j w n : ℕ) → 0 < length rows
      → own j w n (clause p K P) ≡ clause_of j w (fold_head p K) (fold_body p n) ∷ own j w (n + splits p) P
  clause-own leaf K P j w n s = let e : n + 0 ≡ n = omega arith in rw e
  clause-own (node {rows = rows} i h bs) K P j w n s =
      clause_in-own bs i K P j w n (length rows) (group-sizes (root i) (close i) rows) (group-some (root i) (close i) rows s)

  clause_in-own : {k : ℕ} {gs : List Run} (bs : Branches k gs) (i : ℕ) (K : List ℕ) (P : Predicate) (j w n z : ℕ) → Sized z gs
      → 0 < length gs
      → own j w n (clause_in bs i K P) ≡ clause_of j w (fold_head_in bs i K) (fold_body_in bs n) ∷ own j w (n + (several gs 0 1 + splits_in bs)) P
  clause_in-own end i K P j w n z s l = absurd (omega arith)
  clause_in-own (next {k} {g} {gs} p bs) i K P j w n z s l =
      one gs bs (clause-own p (decide i g.cell K) P j w n s.0.0) (clause-callees p (decide i g.cell (blank k)) (each bs i) s.0.0)
      (each-callees bs i z s.1)
    where
      one : (gs : List Run) (bs : Branches k gs)
          → own j w n (clause p (decide i g.cell K) P) ≡ clause_of j w (fold_head p (decide i g.cell K)) (fold_body p n) ∷ own j w (n + splits p) P
          → callees (clause p (decide i g.cell (blank k)) (each bs i)) ≡ splits p + callees (each bs i)
          → callees (each bs i) ≡ splits_in bs
          → own j w n (single gs (clause p (decide i g.cell K) P) (rule (head_of K) (clause p (decide i g.cell (blank k)) (each bs i)) P))
          ≡ clause_of j w (single gs (fold_head p (decide i g.cell K)) (head_of K)) (single gs (fold_body p n) (calls n))
          ∷ own j w (n + (single gs 0 1 + (splits p + splits_in bs))) P
      one [] end a b c = let e : n + (0 + (splits p + 0)) ≡ n + splits p = omega arith in rw e a
      one (g' ∷ gs) bs a b c =
          let Q = clause p (decide i g.cell (blank k)) (each bs i) in
          let e : n + (1 + (splits p + splits_in bs)) ≡ n + suc (callees Q) = omega arith in
          rw e

-- ALL OF THEM, in the plan's order
mutual
  unfolding each below splits visited

  pub clause-below : {k : ℕ} {rows : List (List ℕ)} (p : Plan k rows) (K : List ℕ) (P : Predicate) (n : ℕ) → count hole K ≡ k
      → All (Seat k) rows → 0 < length rows
      → (2 ≤ length rows → Solid K) → below n (clause p K P) ≡ visited p n ++ below (n + splits p) P
  clause-below leaf K P n e a s d = let z : n + 0 ≡ n = omega arith in rw z
  clause-below (node {k} {rows} i h bs) K P n e a s d =
      let r = group-rows (root i) (close i) rows in
      clause_in-below bs i K P n e h (few-places (suc k) rows a s) (group-all (root i) (close i) (Seat (suc k)) (SeatAt k) (seat-close k i h) rows a)
      (runs-fixed i rows)
      (length rows) (group-sizes (root i) (close i) rows) (group-some (root i) (close i) rows s) (λ l. d (omega (arith, r)))

  clause_in-below : {k : ℕ} {gs : List Run} (bs : Branches k gs) (i : ℕ) (K : List ℕ) (P : Predicate) (n : ℕ) → count hole K ≡ suc k
      → i ≤ k → suc k ≤ 32 → Each (SeatAt k) gs → Fixed gs
      → (z : ℕ) → Sized z gs → 0 < length gs → (2 ≤ row_count gs → Solid K)
      → below n (clause_in bs i K P) ≡ visited_at bs i n ++ below (n + (several gs 0 1 + splits_in bs)) P
  clause_in-below end i K P n e h m a x z s l d = absurd (omega arith)
  clause_in-below (next {k} {g} {gs} p bs) i K P n e h m a x z s l d =
      let c = one-solid k g.cell g.rows a.0 s.0.0 in
      let B = blank k in
      let u = clause-below p (decide i g.cell K) P n (below-count i g.cell k K e h c) (seats k g.cell g.rows a.0) s.0.0
      (solid-below i K g (λ l. d (omega arith)) x.0) in
      let v = clause-below p (decide i g.cell B) (each bs i) (suc n) (below-count i g.cell k B (count-all (suc k)) h c)
      (seats k g.cell g.rows a.0) s.0.0
      (solid-below i B g (λ l. blank-solid (suc k)) x.0) in
      one gs bs s (λ two. d two) u v (each_below bs i (suc n + splits p) h m a.1 x.1 z s.1)
      (clause-callees p (decide i g.cell B) (each bs i) s.0.0) (each-callees bs i z s.1)
    where
      one : (gs : List Run) (bs : Branches k gs) → Sized z (g ∷ gs) → (2 ≤ row_count (g ∷ gs) → Solid K)
          → below n (clause p (decide i g.cell K) P) ≡ visited p n ++ below (n + splits p) P
          → below (suc n) (clause p (decide i g.cell (blank k)) (each bs i)) ≡ visited p (suc n) ++ below (suc n + splits p) (each bs i)
          → below (suc n + splits p) (each bs i) ≡ visited_in bs (suc n + splits p)
          → callees (clause p (decide i g.cell (blank k)) (each bs i)) ≡ splits p + callees (each bs i)
          → callees (each bs i) ≡ splits_in bs
          → below n (single gs (clause p (decide i g.cell K) P) (rule (head_of K) (clause p (decide i g.cell (blank k)) (each bs i)) P))
          ≡ single gs (visited p n) (own n (suc k) (suc n) (each (next {g = g} p bs) i) ++ (visited p (suc n) ++ visited_in bs (suc n + splits p)))
          ++ below (n + (single gs 0 1 + (splits p + splits_in bs))) P
      one [] end s d u v b q r = let f : n + (0 + (splits p + 0)) ≡ n + splits p = omega arith in rw f u
      one (g' ∷ gs) bs s d u v b q r =
          let Q = clause p (decide i g.cell (blank k)) (each bs i) in
          let w : length (handed (head_of K)) ≡ suc k = ap length (handed-is K (suc k) (d (omega (arith, s.0.0, s.1.0.0))) e (omega arith))
          ∙ up-length 0 (suc k) in
          let f : n + (1 + (splits p + splits_in bs)) ≡ n + suc (callees Q) = omega arith in
          let o = own n (suc k) (suc n) Q in
          let t : below (suc n) Q ≡ visited p (suc n) ++ visited_in bs (suc n + splits p) = v ∙ ap (λ (l : List Clause). visited p (suc n) ++ l) b in
          rw (f, w, t) (sym (append_assoc o (visited p (suc n) ++ visited_in bs (suc n + splits p)) (below (n + suc (callees Q)) P)))

  each_below : {k : ℕ} {gs : List Run} (bs : Branches k gs) (i n : ℕ) → i ≤ k → suc k ≤ 32 → Each (SeatAt k) gs → Fixed gs → (z : ℕ)
      → Sized z gs
      → below n (each bs i) ≡ visited_in bs n
  each_below end i n h m a x z s = refl
  each_below (next {k} {g} p bs) i n h m a x z s =
      let c = one-solid k g.cell g.rows a.0 s.0.0 in
      let B = blank k in
      clause-below p (decide i g.cell B) (each bs i) n (below-count i g.cell k B (count-all (suc k)) h c) (seats k g.cell g.rows a.0) s.0.0
      (solid-below i B g (λ l. blank-solid (suc k)) x.0)
      ∙ ap (λ (l : List Clause). visited p n ++ l) (each_below bs i (n + splits p) h m a.1 x.1 z s.1)

-- THE PROGRAM, as the walk makes it: the first state's clauses, and then those of all others with several branches, in the plan's order
pub program-visited : {k : ℕ} (rows : List (List ℕ)) (i : ℕ) (h : i ≤ k) (bs : Branches k (runs i rows)) → All (Seat (suc k)) rows
    → 0 < length rows
    → program (node {rows = rows} i h bs) ≡ own 0 (suc k) 1 (each bs i) ++ visited_in bs 1
unfolding numbered predicate
program-visited {k} rows i h bs a s =
    ap (λ (l : List Clause). own 0 (suc k) 1 (each bs i) ++ l)
    (each_below bs i 1 h (few-places (suc k) rows a s) (group-all (root i) (close i) (Seat (suc k)) (SeatAt k) (seat-close k i h) rows a) (runs-fixed i rows)
    (length rows) (group-sizes (root i) (close i) rows))
