-- Two results of a run, and two final contents of its room, that the promise allows are equal. What a run reports is one list of rows and one number.
use Rattle.std.specs.Prelude.{Result, Ok, Err}
use Rattle.answer.specs.declared.RunCounts.{RunCounts}
use Rattle.refusal.specs.declared.Refusal.{Refusal}
use Prim.Native.Nat.{ℕ, suc}
use mathlib.Core.Path.{◌≡◌, refl, sym, ◌∙◌, ap, ap₂, subst}
use mathlib.Core.List.{List, [], ◌∷◌, ◌++◌}
use native.Mathlib.Omega.{arith}
use lib.ListN.{length, drop, replicate}
use Rattle.refusal.specs.Refusal.{told, answered, turned}
use Rattle.table.specs.Table.{Table}
use Rattle.table.proofs.ReadLaws.{apart, read_one}
use Rattle.refusal.proofs.RefusalLaws.{told-one}
use Rattle.term.specs.Unify.{Matches}
use Rattle.plan.specs.Plans.{Plan, write}
use Rattle.plan.proofs.PlansLaws.{plan-tells}
use Rattle.answer.specs.Skeleton.{hole}
use Rattle.answer.specs.Run.{Picks, none, hit, miss, Counts, zero_of, one_of, none_of, skeletons, Tried, run_told, Ran, refusal, ran}

-- the rows of which something holds are one list
pub picks-one : {P : List ℕ → Type 0} {rs : List (List ℕ)} {f : ℕ} {hs hs' : List ℕ} → Picks P rs f hs → Picks P rs f hs' → hs ≡ hs'
picks-one none none = refl
picks-one (hit {f = f} p w) (hit q v) = ap (λ (l : List ℕ). f ∷ l) (picks-one w v)
picks-one (hit p w) (miss q v) = absurd (q p)
picks-one (miss p w) (hit q v) = absurd (p q)
picks-one (miss p w) (miss q v) = picks-one w v

-- and their number is one
pub counts-one : {P : List ℕ → Type 0} {xs : List (List ℕ)} {m n : ℕ} → Counts P xs m → Counts P xs n → m ≡ n
counts-one zero_of zero_of = refl
counts-one (one_of p c) (one_of q d) = ap suc (counts-one c d)
counts-one (one_of p c) (none_of q d) = absurd (q p)
counts-one (none_of p c) (one_of q d) = absurd (p q)
counts-one (none_of p c) (none_of q d) = counts-one c d

-- what is decided above each branch is told by the plan's cells
pub skeletons-one : {k k' : ℕ} {rows rows' : List (List ℕ)} → k ≡ k' → rows ≡ rows' → (p : Plan k rows) (q : Plan k' rows') → write p ≡ write q
    → skeletons p (replicate k hole) ≡ skeletons q (replicate k' hole)
skeletons-one ek er p q e = (plan-tells (λ k rows p. skeletons p (replicate k hole)) ek er p q [] [] (ap (λ (l : List ℕ). l ++ []) e)).0

pub run_told-one : (a b : Result RunCounts Refusal) → run_told a ≡ run_told b → a ≡ b
run_told-one (Ok n) (Ok m) e =
    let x : n.hits ≡ m.hits = cc in
    let y : n.tried ≡ m.tried = cc in
    ap₂ (λ (h t : ℕ). Ok (record { hits = h; tried = t })) x y
run_told-one (Ok n) (Err g) e = absurd (let z : ◌≡◌ {A = ℕ} 0 1 = cc in omega arith)
run_told-one (Err f) (Ok m) e = absurd (let z : ◌≡◌ {A = ℕ} 0 1 = cc in omega arith)
run_told-one (Err f) (Err g) e = let q : told f ≡ told g = cc in ap Err (told-one q)

-- run_plan
pub run-fixed : {t p g room room' room'' : List ℕ} {r s : Result RunCounts Refusal} → Ran t p g room room' r → Ran t p g room room'' s → (r ≡ s) × (room' ≡ room'')
run-fixed {r = r} {s = s} (refusal f a b c) (refusal f' a' b' c') = (run_told-one r s (let q : f ≡ f' = cc in b ∙ ap turned q ∙ sym b'), c ∙ sym c')
run-fixed (refusal f a b c) (ran T tree found n a' e w u b' c') = apart (sym a' ∙ a)
run-fixed (ran T tree found n a e w u b c) (refusal f' a' b' c') = apart (sym a ∙ a')
run-fixed {g = g} {room = room} {r = r} {s = s} (ran T tree found n a e w u b c) (ran T' tree' found' n' a' e' w' u' b' c') =
    let q : T ≡ T' = read_one (sym a ∙ a') in
    let er : T.rows ≡ T'.rows = ap (λ (x : Table). x.rows) q in
    let ek : T.width ≡ T'.width = ap (λ (x : Table). x.width) q in
    let ef : found ≡ found' = picks-one w (subst (λ (l : List (List ℕ)). Picks (λ (row : List ℕ). Matches row g) l 0 found') (sym er) w') in
    let es = skeletons-one ek er tree tree' (sym e ∙ e') in
    let en : n ≡ n' = counts-one u (subst (λ (l : List (List ℕ)). Counts (Tried g) l n') (sym es) u') in
    let x : run_told r ≡ answered (length found') n' = rw (← ef, ← en) b in
    (run_told-one r s (x ∙ sym b'), c ∙ ap (λ (l : List ℕ). l ++ drop (length l) room) ef ∙ sym c')
