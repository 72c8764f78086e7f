-- Two results that the promise of crate salvage's entry allows are equal.
use Prim.Native.Nat.{ℕ}
use mathlib.Core.Path.{◌≡◌, refl, sym, ◌∙◌, ap, subst}
use mathlib.Core.Bool.{Bool}
use mathlib.Core.List.{List, [], ◌++◌}
use native.Mathlib.Omega.{arith}
use lib.ListN.{length, drop}
use Rattle.refusal.specs.Refusal.{told}
use Rattle.refusal.proofs.RefusalLaws.{told-one}
use Rattle.table.specs.Table.{Table}
use Rattle.table.proofs.ReadLaws.{not-both, read_one}
use Rattle.plan.specs.Plans.{Plan, write}
use Rattle.least.specs.Least.{Built}
use Rattle.least.specs.Measures.{work}
use Rattle.least.proofs.Building.{built-one}
use Rattle.salvaging.specs.Salvage.{PlanHad, old-plan, new-plan, room_short, facts, saved, Outcome}
use Rattle.salvaging.specs.Salvage.{Salvaged, head-lost, none_kept, table-short, plan-short, bad-short, all-had}
use Rattle.salvaging.specs.Salvage.{Findings}
use Rattle.salvaging.specs.Answers.{report_told, salvage_told}
use Rattle.salvaging.specs.declared.Report.{Report}
use Rattle.std.specs.Prelude.{Result, Ok, Err}
use Rattle.refusal.specs.declared.Refusal.{Refusal}

-- one least plan for one table
same-plan : (T U : Table) → T ≡ U → (p : Plan T.width T.rows) (q : Plan U.width U.rows) → Built (work 0) [] p → Built (work 0) [] q
    → write p ≡ write q
same-plan T U e p q b c =
    subst (λ (X : Table). (q : Plan X.width X.rows) → Built (work 0) [] q → write p ≡ write q) e
    (λ q c. ap write (built-one (work 0) [] p q b c)) q c

pub had-fixed : {f : List ℕ} {a b : Bool} {xs ys : List ℕ} → PlanHad f a xs → PlanHad f b ys → (a ≡ b) × (xs ≡ ys)
had-fixed (old-plan e) (old-plan g) = (refl, refl)
had-fixed (old-plan e) (new-plan g T h p b) = not-both e g
had-fixed (new-plan e T h p b) (old-plan g) = not-both g e
had-fixed (new-plan e T h p b) (new-plan g U k q c) = (refl, same-plan T U (read_one (sym h ∙ k)) p q b c)

same : {A : Type 0} {x y z : A} → x ≡ z → y ≡ z → x ≡ y
same p q = p ∙ sym q

pub salvaged-fixed : {f t p b t₁ p₁ b₁ t₂ p₂ b₂ : List ℕ} {x y : Outcome} → Salvaged f t p b t₁ p₁ b₁ x → Salvaged f t p b t₂ p₂ b₂ y
    → (x ≡ y) × (t₁ ≡ t₂) × (p₁ ≡ p₂) × (b₁ ≡ b₂)
salvaged-fixed (head-lost h r t p b) (head-lost h' r' t' p' b') =
    (same r r', same t t', same p p', same b b')
salvaged-fixed (head-lost h r t p b) (none_kept h' k' r' t' p' b') =
    not-both h h'
salvaged-fixed (head-lost h r t p b) (table-short h' k' l' r' t' p' b') =
    not-both h h'
salvaged-fixed (head-lost h r t p b) (plan-short h' k' l' u' xs' y' z' r' t' p' b') =
    not-both h h'
salvaged-fixed (head-lost h r t p b) (bad-short h' k' l' u' xs' y' z' v' r' t' p' b') =
    not-both h h'
salvaged-fixed (head-lost h r t p b) (all-had h' k' l' u' xs' y' z' v' r' t' p' b') =
    not-both h h'
salvaged-fixed (none_kept h k r t p b) (head-lost h' r' t' p' b') =
    not-both h' h
salvaged-fixed (none_kept h k r t p b) (none_kept h' k' r' t' p' b') =
    (same r r', same t t', same p p', same b b')
salvaged-fixed (none_kept h k r t p b) (table-short h' k' l' r' t' p' b') =
    absurd (omega (arith, ap length k))
salvaged-fixed (none_kept h k r t p b) (plan-short h' k' l' u' xs' y' z' r' t' p' b') =
    absurd (omega (arith, ap length k))
salvaged-fixed (none_kept h k r t p b) (bad-short h' k' l' u' xs' y' z' v' r' t' p' b') =
    absurd (omega (arith, ap length k))
salvaged-fixed (none_kept h k r t p b) (all-had h' k' l' u' xs' y' z' v' r' t' p' b') =
    absurd (omega (arith, ap length k))
salvaged-fixed (table-short h k l r t p b) (head-lost h' r' t' p' b') =
    not-both h' h
salvaged-fixed (table-short h k l r t p b) (none_kept h' k' r' t' p' b') =
    absurd (omega (arith, ap length k'))
salvaged-fixed (table-short h k l r t p b) (table-short h' k' l' r' t' p' b') =
    (same r r', same t t', same p p', same b b')
salvaged-fixed (table-short h k l r t p b) (plan-short h' k' l' u' xs' y' z' r' t' p' b') =
    absurd (omega arith)
salvaged-fixed (table-short h k l r t p b) (bad-short h' k' l' u' xs' y' z' v' r' t' p' b') =
    absurd (omega arith)
salvaged-fixed (table-short h k l r t p b) (all-had h' k' l' u' xs' y' z' v' r' t' p' b') =
    absurd (omega arith)
salvaged-fixed (plan-short h k l u xs y z r t p b) (head-lost h' r' t' p' b') =
    not-both h' h
salvaged-fixed (plan-short h k l u xs y z r t p b) (none_kept h' k' r' t' p' b') =
    absurd (omega (arith, ap length k'))
salvaged-fixed (plan-short h k l u xs y z r t p b) (table-short h' k' l' r' t' p' b') =
    absurd (omega arith)
salvaged-fixed (plan-short h k l u xs y z r t p b) (plan-short h' k' l' u' xs' y' z' r' t' p' b') =
    let q = had-fixed y' y in (same r (r' ∙ ap (λ (c : List ℕ). room_short (length c)) q.1), same t t', same p p', same b b')
salvaged-fixed (plan-short h k l u xs y z r t p b) (bad-short h' k' l' u' xs' y' z' v' r' t' p' b') =
    absurd (omega (arith, ap length (had-fixed y y').1))
salvaged-fixed (plan-short h k l u xs y z r t p b) (all-had h' k' l' u' xs' y' z' v' r' t' p' b') =
    absurd (omega (arith, ap length (had-fixed y y').1))
salvaged-fixed (bad-short h k l u xs y z v r t p b) (head-lost h' r' t' p' b') =
    not-both h' h
salvaged-fixed (bad-short h k l u xs y z v r t p b) (none_kept h' k' r' t' p' b') =
    absurd (omega (arith, ap length k'))
salvaged-fixed (bad-short h k l u xs y z v r t p b) (table-short h' k' l' r' t' p' b') =
    absurd (omega arith)
salvaged-fixed (bad-short h k l u xs y z v r t p b) (plan-short h' k' l' u' xs' y' z' r' t' p' b') =
    absurd (omega (arith, ap length (had-fixed y y').1))
salvaged-fixed (bad-short h k l u xs y z v r t p b) (bad-short h' k' l' u' xs' y' z' v' r' t' p' b') =
    (same r r', same t t', same p p', same b b')
salvaged-fixed (bad-short h k l u xs y z v r t p b) (all-had h' k' l' u' xs' y' z' v' r' t' p' b') =
    absurd (omega arith)
salvaged-fixed (all-had h k l u xs y z v r t p b) (head-lost h' r' t' p' b') =
    not-both h' h
salvaged-fixed (all-had h k l u xs y z v r t p b) (none_kept h' k' r' t' p' b') =
    absurd (omega (arith, ap length k'))
salvaged-fixed (all-had h k l u xs y z v r t p b) (table-short h' k' l' r' t' p' b') =
    absurd (omega arith)
salvaged-fixed (all-had h k l u xs y z v r t p b) (plan-short h' k' l' u' xs' y' z' r' t' p' b') =
    absurd (omega (arith, ap length (had-fixed y y').1))
salvaged-fixed (all-had h k l u xs y z v r t p b) (bad-short h' k' l' u' xs' y' z' v' r' t' p' b') =
    absurd (omega arith)
salvaged-fixed {f = file} {p = room} (all-had h k l u xs y z v r t p b) (all-had h' k' l' u' xs' y' z' v' r' t' p' b') =
    let q = had-fixed y' y in (
      same r (r' ∙ ap (λ (k : Bool). saved (facts file k xs')) q.0 ∙ ap (λ (c : List ℕ). saved (facts file u c)) q.1),
      same t t',
      same p (p' ∙ ap (λ (c : List ℕ). c ++ drop (length c) room) q.1),
      same b b',
    )

-- salvage: the promise gives the report's numbers or 01's, which tell the cases apart
report-of : Findings → Report
report-of f = record { kept = f.rows; dropped = f.dropped; plan_kept = f.keeps; table = f.table; plan = f.plan; bad = f.bad }

told_same : (a b : Result Report Refusal) → salvage_told a ≡ salvage_told b → a ≡ b
unfolding report-of
told_same (Ok x) (Ok y) e = let q : report_told x ≡ report_told y = cc in ap (λ (f : Findings). Ok (report-of f)) q
told_same (Ok x) (Err g) e = absurd (let z : ◌≡◌ {A = ℕ} 0 1 = cc in omega arith)
told_same (Err f) (Ok y) e = absurd (let z : ◌≡◌ {A = ℕ} 0 1 = cc in omega arith)
told_same (Err f) (Err g) e = let q : told f ≡ told g = cc in ap Err (told-one q)

pub salvage-fixed : {f t p b t₁ p₁ b₁ t₂ p₂ b₂ : List ℕ} {x y : Result Report Refusal} → Salvaged f t p b t₁ p₁ b₁ (salvage_told x)
    → Salvaged f t p b t₂ p₂ b₂ (salvage_told y) → (x ≡ y) × (t₁ ≡ t₂) × (p₁ ≡ p₂) × (b₁ ≡ b₂)
salvage-fixed {x = x} {y = y} v w = let f = salvaged-fixed v w in (told_same x y f.0, f.1, f.2, f.3)
