-- From an accepted table, plan and goal to what the walk takes for granted, and from what it gives to what a run is to report.
use Prim.Native.Nat.{ℕ, zero, suc, ◌+◌, ◌-◌, ◌^◌, ◌<◌}
use mathlib.Core.Path.{◌≡◌, refl, sym, subst}
use mathlib.Core.Bool.{true}
use mathlib.Core.List.{List, Memᴰ}
use native.Mathlib.Omega.{arith}
use lib.ListN.{length, replicate}
use Rattle.cell.specs.Cell.{arity, is_var, values_at}
use borrow.Author.Tests.{ne_eqb}
use Rattle.cell.proofs.CellLaws.{cell-accepted}
use Rattle.term.specs.Terms.{none, root, close}
use Rattle.term.specs.Unify.{Unifies, renamed, Matches}
use Rattle.table.specs.All.{All}
use Rattle.table.proofs.AllLaws.{all-each}
use Rattle.table.specs.Table.{count, Row, IsTable, IsGoal}
use Rattle.table.proofs.Accepted.{few-variables}
use Rattle.plan.specs.Runs.{Run}
use Rattle.plan.specs.Plans.{Plan, leaf, node, Branches, end, next}
use Rattle.plan.proofs.CheckLaws.{rows_fit}
use Rattle.plan.proofs.RunsLaws.{Each, Sized, fits-some, runs_fit, group-sizes, fits-wide}
use Rattle.plan.specs.code.Fits.{Fits}
use Rattle.answer.specs.Skeleton.{hole, fill}
use Rattle.answer.specs.Run.{Picks, none, hit, miss, Counts, skeletons, Tried}
use Rattle.answer.specs.code.Renamed.{Goal}
use Rattle.answer.specs.code.Tree.{hits, tried, Deep, DeepIn}
use Rattle.answer.specs.code.Loose.{GoalLike}
use Rattle.answer.proofs.SkeletonLaws.{fill-all, count-all, start, var-no-hole}
use Rattle.answer.specs.code.Loose.{Loose}
use Rattle.answer.proofs.RenamedLaws.{Small, renamed-length, renamed-terms, renamed-range}
use Rattle.answer.proofs.MeaningLaws.{Fine, plain, Numbers, hits-mean, tried-mean}

-- The rows.

-- a hole is no cell of 01
pub no_cell : ¬ Rattle.cell.specs.Cell.Cell hole
unfolding hole values_at
no_cell c = (cell-accepted hole).0 c refl

-- nothing is decided above the first state
no-variable : (w v : ℕ) → is_var v ≡ true → count v (replicate w hole) ≡ 0
unfolding count
no-variable zero v h = refl
no-variable (suc w) v h = let n = no-variable w v h in rw (ne_eqb v hole (var-no-hole v h)) (omega arith)

fine-row : (w : ℕ) (r : List ℕ) → Row w r → Fine (replicate w hole) r
fine-row w r h =
    let e = fill-all w h.terms in
    record {
      loose = record {
        terms = rw (count-all w) h.terms;
        low = λ c m v. omega (arith, few-variables h c (subst (λ (l : List ℕ). Memᴰ c l) e m) v);
        short = omega (arith, h.short);
        symbols = λ m. no_cell (h.cells hole m);
      };
      even = plain (λ v q. no-variable w v q);
    }

pub table-loose : {t : List ℕ} {w : ℕ} {rows : List (List ℕ)} → IsTable t w rows → All (Loose (replicate w hole)) rows
table-loose {w = w} {rows = rows} i = all-each (Row w) (Loose (replicate w hole)) (λ r h. (fine-row w r h).loose) rows i.each

-- rows that fit: at most so many cells, so what is open below a branch is less

mutual
  unfolding Deep

  deep : {k : ℕ} {rows : List (List ℕ)} (p : Plan k rows) (n : ℕ) → All (Fits n k) rows → 0 < length rows → Deep p n
  deep leaf n a s = tt
  deep (node {k} {rows} i h bs) n a s =
      let l = fits-some n k rows a s in
      let e : n ≡ suc (n - 1) = omega arith in
      deep_in bs n l (runs_fit (n - 1) k i h rows (subst (λ (n : ℕ). All (Fits n (suc k)) rows) e a)) (length rows) (group-sizes (root i) (close i) rows)

  deep_in : {k : ℕ} {gs : List Run} (bs : Branches k gs) (n : ℕ) → 0 < n → Each (λ (c : ℕ). Fits (n - 1) (arity c + k)) gs → (z : ℕ) → Sized z gs → DeepIn bs n
  deep_in end n l a z s = tt
  deep_in (next {k} {g} p bs) n l a z s = (
    omega (arith, fits-wide (n - 1) (arity g.cell + k) g.rows a.0 s.0.0),
    deep p (n - 1) a.0 s.0.0,
    deep_in bs n l a.1 z s.1,
  )

-- The goal.
module _ {w : ℕ} {g : List ℕ} (h : IsGoal w g) where
  pub small : Small g
  small = record { vars = few-variables h.head }

  pub goal-head : Goal w (renamed g)
  goal-head = record { terms = renamed-terms h.head.terms small; short = rw (renamed-length g) h.head.short }

  goal-like : GoalLike (2 ^ 16 + 32) (renamed g)
  goal-like = record { range = renamed-range g small }

-- What a run then reports.

picks-map : {P Q : List ℕ → Type 0} {rs : List (List ℕ)} {f : ℕ} {hs : List ℕ} (F : List ℕ → Type 0) → ((x : List ℕ) → F x → P x → Q x)
    → ((x : List ℕ) → F x → Q x → P x) → All F rs
    → Picks P rs f hs → Picks Q rs f hs
picks-map F g h a none = none
picks-map F g h a (hit {r} p w) = hit (g r a.0 p) (picks-map F g h a.1 w)
picks-map F g h a (miss {r} p w) = miss (λ q. p (h r a.0 q)) (picks-map F g h a.1 w)

module _ {w : ℕ} {g : List ℕ} {rows : List (List ℕ)} (h : IsGoal w g) (a : All (Row w) rows) (s : 0 < length rows) (tree : Plan w rows) where
  fine : All (Fine (replicate w hole)) rows
  fine = all-each (Row w) (Fine (replicate w hole)) (fine-row w) rows a

  fits : All (Fits 32 w) rows
  fits = rows_fit w rows a

  numbers : Numbers w 32 32
  numbers = record { wide = fits-wide 32 w rows fits s; few = omega arith }

  pub tree-deep : Deep tree 32
  tree-deep = deep tree 32 fits s

  -- demand 2: exactly the rows that unify with the goal
  pub hits-right : Picks (λ (row : List ℕ). Matches row g) rows 0 (hits tree 32 (renamed g) 0)
  hits-right =
      let same : (x : List ℕ) → Fine (replicate w hole) x → fill (replicate w hole) x ≡ x = λ x F. fill-all w (rw (count-all w) at F.loose.terms) in
      picks-map (Fine (replicate w hole))
      (λ x F p. subst (λ (l : List ℕ). Unifies l (renamed g)) (same x F) p)
      (λ x F p. subst (λ (l : List ℕ). Unifies l (renamed g)) (sym (same x F)) p)
      fine
      (hits-mean (renamed g) tree (replicate w hole) (renamed g) 32 32 0 (start (goal-head h).terms (goal-like h)) (count-all w) fine numbers tree-deep)

  -- 01, "A branch is tried when the goal unifies with everything decided above that branch"
  pub tried-right : Counts (Tried g) (skeletons tree (replicate w hole)) (tried tree 32 (renamed g))
  tried-right =
      tried-mean g tree (replicate w hole) (renamed g) 32 32 (start (goal-head h).terms (goal-like h)) (count-all w) fine s numbers tree-deep
