-- What is decided above each branch of a plan, read off the plan's cells, so that the branches tried can be computed from what 01 prints.
use Prim.Native.Nat.{ℕ, zero, suc, ◌+◌, ◌<◌}
use mathlib.Core.Path.{◌≡◌, refl}
use mathlib.Core.List.{List, [], ◌∷◌, ◌++◌, append_assoc}
use native.Mathlib.Omega.{arith}
use lib.ListN.{length}
use Rattle.cell.specs.Cell.{arity}
use Rattle.term.specs.Terms.{root, close}
use Rattle.table.specs.All.{All}
use Rattle.plan.specs.Runs.{Run, runs}
use Rattle.plan.specs.Plans.{Plan, leaf, node, Branches, end, next, write, writes}
use Rattle.plan.proofs.RunsLaws.{Each, Sized, fits-some, runs_fit, group-sizes}
use Rattle.plan.specs.code.Fits.{Fits}
use Rattle.answer.specs.Skeleton.{decide}
use Rattle.answer.specs.Run.{skeletons, skeletons_in}

-- what was read off, and the cells after it
pub record Got : Type 0 where
  pub above : List (List ℕ)
  pub rest : List ℕ

abbrev pub got : List (List ℕ) → List ℕ → Got
got ks xs = record { above = ks; rest = xs }

-- how a state is read: k open places, its rows, what is decided above it, the cells from there on
abbrev pub Getter : Type 0
Getter = ℕ → List (List ℕ) → List ℕ → List ℕ → Got

-- above each of a state's branches stands K, then what stands above those below it
abbrev pub above_in : Getter → ℕ → List Run → ℕ → List ℕ → List ℕ → Got
above_in below k [] i K xs = got [] xs
above_in below k (g ∷ gs) i K [] = got [] []
above_in below k (g ∷ gs) i K (c ∷ xs) =
    let s : Got = below (arity g.cell + k) g.rows (decide i g.cell K) xs in
    let t : Got = above_in below k gs i K s.rest in
    got (K ∷ (s.above ++ t.above)) t.rest

-- a leaf has one cell; an inner state has two, its index and its number of branches, before its branches
abbrev pub past_one : List ℕ → Got
past_one [] = got [] []
past_one (c ∷ xs) = got [] xs

abbrev pub past_two : (ℕ → List ℕ → Got) → List ℕ → Got
past_two f [] = got [] []
past_two f (i ∷ []) = got [] []
past_two f (i ∷ (m ∷ xs)) = f i xs

-- a state; the first number bounds the depth and never decides
unfoldable pub above : ℕ → Getter
above zero k rows K xs = past_one xs
above (suc n) zero rows K xs = past_one xs
above (suc n) (suc k) rows K xs = past_two (λ i ys. above_in (λ j rs L us. above n j rs L us) k (runs i rows) i K ys) xs

-- for a plan's cells it gives the definition's list
abbrev Right : ℕ → Getter → Type 0
Right n below = (k : ℕ) (rows : List (List ℕ)) → All (Fits n k) rows → 0 < length rows → (p : Plan k rows) (K rest : List ℕ)
    → below k rows K (write p ++ rest) ≡ got (skeletons p K) rest

above_in_lem : (n : ℕ) (below : Getter) → Right n below → (k m : ℕ) (gs : List Run) → Each (λ (c : ℕ). Fits n (arity c + k)) gs → Sized m gs
    → (bs : Branches k gs) (i : ℕ) (K rest : List ℕ) → above_in below k gs i K (writes bs ++ rest) ≡ got (skeletons_in bs i K) rest
unfolding write skeletons
above_in_lem n below h k m [] f z end i K rest = refl
above_in_lem n below h k m (g ∷ gs) f z (next p bs) i K rest =
    let x = h (arity g.cell + k) g.rows f.0 z.0.0 p (decide i g.cell K) (writes bs ++ rest) in
    let y = above_in_lem n below h k m gs f.1 z.1 bs i K rest in
    rw (append_assoc (write p) (writes bs) rest, x, y)

pub above-right : (n : ℕ) → Right n (above n)
unfolding above write skeletons
above-right zero zero rows f h leaf K rest = refl
above-right (suc n) zero rows f h leaf K rest = refl
above-right zero (suc k) rows f h p K rest = absurd (omega (arith, fits-some zero k rows f h))
above-right (suc n) (suc k) rows f h (node i l bs) K rest =
    let sized = group-sizes (root i) (close i) rows in
    above_in_lem n (above n) (above-right n) k (length rows) (runs i rows) (runs_fit n k i l rows f) sized bs i K rest
