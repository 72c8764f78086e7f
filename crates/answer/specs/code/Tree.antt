-- What a walk along a plan gives, by the decisions that `after` describes. That it means what specs/Run says is proved (proofs/MeaningLaws).
use Rattle.std.specs.Prelude.{ℕ, suc, ◌+◌, ◌-◌, ◌<◌, cond, length, replicate}
use mathlib.Core.List.{List, [], ◌∷◌, ◌++◌, flatten}
use Rattle.cell.specs.Cell.{arity}
use Rattle.term.specs.Terms.{front, back}
use Rattle.term.specs.code.Unifiable.{unifiable}
use Rattle.table.specs.Table.{up_from}
use Rattle.plan.specs.Runs.{Run}
use Rattle.plan.specs.Plans.{Plan, leaf, node, Branches, end, next}
use Rattle.plan.specs.Notes.{flag}
use Rattle.answer.specs.Skeleton.{hole, decide, opened}
use Rattle.answer.specs.Run.{skeletons}
use Rattle.answer.specs.code.After.{Left, stuck, left, after}
use Rattle.answer.specs.code.Renamed.{var}

-- how many of some skeletons unify with R, each open place a variable of its own
unfoldable pub tried_on : List ℕ → List (List ℕ) → ℕ
tried_on R [] = 0
tried_on R (K ∷ Ks) = cond (unifiable (opened K) R) (suc (tried_on R Ks)) (tried_on R Ks)

-- a row with its cell put back at place i
abbrev pub insert : ℕ → ℕ → List ℕ → List ℕ
insert i c y = front i y ++ (c ∷ back i y)

abbrev pub under : {A : Type 0} → A → Left → (List ℕ → A) → A
under a stuck f = a
under a (left R) f = f R

-- the rows of the leaves that are reached, the first row being f; m is the next variable's number, R what is left of the goal. A row that
-- repeats a variable is a hit by itself, from the branch of its first variable on
unfoldable mutual
  pub hits : {k : ℕ} {rows : List (List ℕ)} → Plan k rows → (m : ℕ) (R : List ℕ) (f : ℕ) → List ℕ
  hits (leaf {rows}) m R f = up_from f (length rows)
  hits (node i h bs) m R f = hits_in bs i m R f

  pub hits_in : {k : ℕ} {gs : List Run} → Branches k gs → (i m : ℕ) (R : List ℕ) (f : ℕ) → List ℕ
  hits_in end i m R f = []
  hits_in (next {g = g} p bs) i m R f =
      cond (flag g) (cond (unifiable (insert i g.cell (flatten g.rows)) R) (f ∷ []) [])
      (under [] (after (var m) i g.cell R) (λ R'. hits p (m + arity g.cell) R' f))
      ++ hits_in bs i m R (f + length g.rows)

-- the branches that are tried
unfoldable mutual
  pub tried : {k : ℕ} {rows : List (List ℕ)} → Plan k rows → (m : ℕ) (R : List ℕ) → ℕ
  tried leaf m R = 0
  tried (node i h bs) m R = tried_in bs i m R

  pub tried_in : {k : ℕ} {gs : List Run} → Branches k gs → (i m : ℕ) (R : List ℕ) → ℕ
  tried_in end i m R = 0
  tried_in (next {k} {g = g} p bs) i m R =
      cond (flag g)
      (tried_on R (replicate (suc k) hole ∷ skeletons p (decide i g.cell (replicate (suc k) hole))))
      (suc (under 0 (after (var m) i g.cell R) (λ R'. tried p (m + arity g.cell) R')))
      + tried_in bs i m R

-- a state's rows have at most n cells left: what is open below a branch is less than that
unfoldable mutual
  pub Deep : {k : ℕ} {rows : List (List ℕ)} → Plan k rows → ℕ → Type 0
  Deep leaf n = Unit {0}
  Deep (node i h bs) n = DeepIn bs n

  pub DeepIn : {k : ℕ} {gs : List Run} → Branches k gs → ℕ → Type 0
  DeepIn end n = Unit {0}
  DeepIn (next {k} {g} p bs) n = (arity g.cell + k < n) × Deep p (n - 1) × DeepIn bs n
