-- A goal that is an instance of another: what unifies with it unifies with the other. So its hits are among the other's, and it tries no more
-- branches of a plan. Of a row no more is asked than 01 does of a head: it may repeat its variables.
use Prim.Native.Nat.{ℕ, suc, ◌+◌, ◌-◌, ◌^◌, ◌≤◌, ◌<◌}
use mathlib.Core.Path.{◌≡◌}
use mathlib.Core.List.{List}
use native.Mathlib.Omega.{arith}
use lib.ListN.{length, replicate}
use Rattle.cell.specs.Cell.{arity}
use Rattle.term.specs.Terms.{root, close}
use Rattle.term.specs.Unify.{Matches}
use Rattle.table.specs.All.{All}
use Rattle.table.proofs.AllLaws.{all-each, all-++}
use Rattle.table.specs.Table.{count, IsTable, IsGoal, Row}
use Rattle.plan.specs.Runs.{Run}
use Rattle.plan.specs.Plans.{Plan, leaf, node, Branches, end, next}
use Rattle.plan.proofs.RunsLaws.{Each, Sized, group-all, group-sizes}
use Rattle.answer.specs.Skeleton.{hole, decide, opened}
use Rattle.answer.specs.Run.{Picks, none, hit, miss, Counts, zero_of, one_of, none_of, skeletons, skeletons_in, Tried}
use Rattle.answer.proofs.SkeletonLaws.{decide-count, count-all}
use Rattle.answer.specs.code.Loose.{Loose}
use Rattle.answer.proofs.LooseLaws.{some-row, no-hole, loose-close}
use Rattle.answer.proofs.RelativeLaws.{LooseBelow, opened-low}
use Rattle.answer.proofs.AcceptedLaws.{table-loose}
use Rattle.instance.specs.Instance.{Instance}
use Rattle.instance.proofs.Instances.{instance-then}
use Rattle.instance.proofs.Apart.{Below, matches-common, common-matches}
use Rattle.instance.proofs.StartLaws.{head-below}
use Rattle.knowing.specs.Knowing.{Among, kept, left_out}
use Rattle.knowing.specs.Knowing as knowing

-- what a row has in common with the instance it has in common with the goal
pub wider : {row wide narrow : List ℕ} → Below (2 ^ 16) row → Below (2 ^ 16) wide → Below (2 ^ 16) narrow → Instance wide narrow
    → Matches row narrow → Matches row wide
wider r w n i u =
    let c = (matches-common n u).1 in
    common-matches r w (record { first = c.first; second = instance-then i c.second })

-- where Q gives P, the rows of which Q holds are among those of which P holds, and no more
pub picks-among : {P Q : List ℕ → Type 0} {rs : List (List ℕ)} {f : ℕ} {hs hs' : List ℕ} → All (λ (x : List ℕ). Q x → P x) rs
    → Picks P rs f hs → Picks Q rs f hs' → Among hs' hs
picks-among a none none = knowing.none
picks-among a (hit p w) (hit q v) = kept (picks-among a.1 w v)
picks-among a (hit p w) (miss q v) = left_out (picks-among a.1 w v)
picks-among a (miss p w) (hit q v) = absurd (p (a.0 q))
picks-among a (miss p w) (miss q v) = picks-among a.1 w v

pub counts-fewer : {P Q : List ℕ → Type 0} {xs : List (List ℕ)} {n n' : ℕ} → All (λ (x : List ℕ). Q x → P x) xs
    → Counts P xs n → Counts Q xs n' → n' ≤ n
counts-fewer a zero_of zero_of = omega arith
counts-fewer a (one_of p c) (one_of q d) = let h = counts-fewer a.1 c d in omega arith
counts-fewer a (one_of p c) (none_of q d) = let h = counts-fewer a.1 c d in omega arith
counts-fewer a (none_of p c) (one_of q d) = absurd (p (a.0 q))
counts-fewer a (none_of p c) (none_of q d) = counts-fewer a.1 c d

-- What is decided above a plan's branches, each open place a variable, is like a row: its variables lie below 2^16.
abbrev Low : List ℕ → Type 0
Low K = Below (2 ^ 16) (opened K)

low : {K x : List ℕ} → Loose K x → Low K
unfolding opened
low f = record { vars = (opened-low f).low }

mutual
  unfolding skeletons

  skeletons-low : {k : ℕ} {rows : List (List ℕ)} (p : Plan k rows) (K : List ℕ) → count hole K ≡ k → All (Loose K) rows → 0 < length rows
      → All Low (skeletons p K)
  skeletons-low leaf K e a s = tt
  skeletons-low (node {k} {rows} i h bs) K e a s =
      let q : count hole K ≡ i + suc (k - i) = omega arith in
      let below = group-all (root i) (close i) (Loose K) (LooseBelow i K)
      (λ x f. (loose-close K i (k - i) q f, no-hole K i (k - i) q f)) rows a in
      branches-low bs i K e h below (length rows) (group-sizes (root i) (close i) rows) (low (some-row (Loose K) rows s a).1)

  branches-low : {k : ℕ} {gs : List Run} (bs : Branches k gs) (i : ℕ) (K : List ℕ) → count hole K ≡ suc k → i ≤ k → Each (LooseBelow i K) gs
      → (z : ℕ) → Sized z gs → Low K → All Low (skeletons_in bs i K)
  branches-low end i K e h a z s o = tt
  branches-low (next {k} {g} {gs} p bs) i K e h a z s o =
      let c = g.cell in
      let solid = (some-row (LooseBelow i K c) g.rows s.0.0 a.0).1.1 in
      let d : count hole (decide i c K) ≡ arity c + k = (let y = decide-count i c K solid (omega arith) in omega arith) in
      let f = all-each (LooseBelow i K c) (Loose (decide i c K)) (λ x y. y.0) g.rows a.0 in
      let below = skeletons-low p (decide i c K) d f s.0.0 in
      (o, all-++ Low (skeletons p (decide i c K)) (skeletons_in bs i K) below (branches-low bs i K e h a.1 z s.1 o))

-- Knowing more never adds rules: of what two runs of one plan are to report.
pub knowing-more : {t : List ℕ} {w : ℕ} {rows : List (List ℕ)} → IsTable t w rows → (tree : Plan w rows) {wide narrow hs hs' : List ℕ} {n n' : ℕ}
    → IsGoal w wide → IsGoal w narrow → Instance wide narrow
    → Picks (λ (row : List ℕ). Matches row wide) rows 0 hs → Picks (λ (row : List ℕ). Matches row narrow) rows 0 hs'
    → Counts (Tried wide) (skeletons tree (replicate w hole)) n → Counts (Tried narrow) (skeletons tree (replicate w hole)) n'
    → Among hs' hs × (n' ≤ n)
unfolding Tried
knowing-more {w = w} {rows} it tree {wide} {narrow} g g' i p p' c c' =
    let more : (x : List ℕ) → Below (2 ^ 16) x → Matches x narrow → Matches x wide =
    λ x l. wider l (head-below g.head) (head-below g'.head) i in
    let K = replicate w hole in
    let above = skeletons-low tree K (count-all w) (table-loose it) it.count.0 in (
      picks-among (all-each (Row w) (λ (x : List ℕ). Matches x narrow → Matches x wide) (λ x r. more x (head-below r)) rows it.each) p p',
      counts-fewer (all-each Low (λ (K : List ℕ). Tried narrow K → Tried wide K) (λ K l. more (opened K) l) (skeletons tree K) above) c c',
    )
