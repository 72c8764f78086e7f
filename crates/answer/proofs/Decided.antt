-- Hits and tries computed: by the unifier of proofs/Decide in crate term, row by row and branch by branch, as the definitions say. No plan is walked.
use Rattle.std.specs.Prelude.{Result}
use Rattle.answer.specs.declared.RunCounts.{RunCounts}
use Rattle.refusal.specs.declared.Refusal.{Refusal}
use Prim.Native.Nat.{ℕ, suc}
use mathlib.Core.Path.{◌≡◌, sym, ◌∙◌, ap, subst}
use mathlib.Core.Bool.{Bool, cond}
use mathlib.Core.List.{List, [], ◌∷◌, ◌++◌}
use native.Mathlib.Omega.{arith}
use lib.ListN.{length, drop, replicate}
use Rattle.term.specs.Terms.{Terms}
use Rattle.term.specs.Unify.{Unifies, renamed, Matches}
use Rattle.term.specs.code.Unifiable.{unifiable}
use Rattle.term.proofs.Decide.{Decides, says-yes, says-no, unifiable-correct}
use Rattle.table.specs.All.{All}
use Rattle.refusal.specs.Refusal.{answered}
use Rattle.table.specs.Table.{Table, Row}
use Rattle.table.proofs.ReadLaws.{apart, read_one}
use Rattle.table.proofs.Accepted.{is-table, is-goal}
use Rattle.plan.specs.Plans.{Plan, write}
use Rattle.answer.specs.Skeleton.{hole, opened}
use Rattle.answer.specs.Run.{Picks, none, hit, miss, Counts, zero_of, one_of, none_of, skeletons, Tried, run_told, Ran, refusal, ran}
use Rattle.answer.proofs.AcceptedLaws.{goal-head, table-loose}
use Rattle.answer.proofs.OpenGoalLaws.{skeletons-terms}
use Rattle.answer.proofs.TakesLaws.{Takes, takes_run}
use Rattle.answer.proofs.Fixed.{picks-one, counts-one, skeletons-one}

unfoldable pub hits_by : (goal : List ℕ) → List (List ℕ) → ℕ → List ℕ
hits_by g [] f = []
hits_by g (r ∷ rs) f = let on = hits_by g rs (suc f) in cond (unifiable r (renamed g)) (f ∷ on) on

unfoldable pub tried_by : (goal : List ℕ) → List (List ℕ) → ℕ
tried_by g [] = 0
tried_by g (K ∷ Ks) = let on = tried_by g Ks in cond (unifiable (opened K) (renamed g)) (suc on) on

module _ (w : ℕ) (g : List ℕ) (t : Terms w (renamed g)) where
  pick : {r : List ℕ} {rs : List (List ℕ)} {f : ℕ} {hs : List ℕ} {b : Bool} → Decides (Matches r g) b → Picks (λ (x : List ℕ). Matches x g) rs (suc f) hs
      → Picks (λ (x : List ℕ). Matches x g) (r ∷ rs) f (cond b (f ∷ hs) hs)
  pick (says-yes p) w = hit p w
  pick (says-no p) w = miss p w

  pub hits-by : (rs : List (List ℕ)) (f : ℕ) → All (Terms w) rs → Picks (λ (x : List ℕ). Matches x g) rs f (hits_by g rs f)
  unfolding hits_by
  hits-by [] f a = none
  hits-by (r ∷ rs) f a = pick (unifiable-correct r (renamed g) a.0 t) (hits-by rs (suc f) a.1)

  tally : {K : List ℕ} {Ks : List (List ℕ)} {n : ℕ} {b : Bool} → Decides (Unifies (opened K) (renamed g)) b → Counts (Tried g) Ks n
      → Counts (Tried g) (K ∷ Ks) (cond b (suc n) n)
  unfolding Tried
  tally (says-yes p) c = one_of p c
  tally (says-no p) c = none_of p c

  pub tried-by : (Ks : List (List ℕ)) → All (λ (K : List ℕ). Terms w (opened K)) Ks → Counts (Tried g) Ks (tried_by g Ks)
  unfolding tried_by
  tried-by [] a = zero_of
  tried-by (K ∷ Ks) a = tally (unifiable-correct (opened K) (renamed g) a.0 t) (tried-by Ks a.1)

-- so what a run of an accepted table, plan and goal answers and writes is computed
pub row-terms : (w : ℕ) (rows : List (List ℕ)) → All (Row w) rows → All (Terms w) rows
row-terms w [] a = tt
row-terms w (r ∷ rs) a = (a.0.terms, row-terms w rs a.1)

pub run_by : {t p g room room' : List ℕ} {T : Table} {r : Result RunCounts Refusal} (tree : Plan T.width T.rows) → Takes t p g room T → write tree ≡ p
    → Ran t p g room room' r
    → (run_told r ≡ answered (length (hits_by g T.rows 0)) (tried_by g (skeletons tree (replicate T.width hole))))
    × (room' ≡ hits_by g T.rows 0 ++ drop (length (hits_by g T.rows 0)) room)
run_by tree k c (refusal f a b d) = apart (sym (takes_run k) ∙ a)
run_by {t} {p} {g} {room} {T = T} tree k c (ran T' tree' found n a e w u b d) =
    let q : T' ≡ T = read_one (sym a ∙ takes_run k) in
    let i = is-table t k.table in
    let h = (goal-head (is-goal T.width g k.goal).0).terms in
    let hs = hits-by T.width g h T.rows 0 (row-terms T.width T.rows i.each) in
    let ef : found ≡ hits_by g T.rows 0 = picks-one (subst (λ (x : Table). Picks (λ (row : List ℕ). Matches row g) x.rows 0 found) q w) hs in
    let es = skeletons-one (ap (λ (x : Table). x.width) q) (ap (λ (x : Table). x.rows) q) tree' tree (sym e ∙ sym c) in
    let Ks = skeletons tree (replicate T.width hole) in
    let ts = tried-by T.width g h Ks (skeletons-terms T.width tree (table-loose i) (omega (arith, i.count))) in
    let en : n ≡ tried_by g Ks = counts-one (subst (λ (l : List (List ℕ)). Counts (Tried g) l n) es u) ts in (
      b ∙ ap (λ (l : List ℕ). answered (length l) n) ef ∙ ap (answered (length (hits_by g T.rows 0))) en,
      d
          ∙ ap (λ (l : List ℕ). l ++ drop (length l) room) ef,
    )
