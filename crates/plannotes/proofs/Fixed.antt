-- Two results that the promise allows are equal.
use Prim.Native.Nat.{ℕ}
use Rattle.std.proofs.Common.{Result, Ok}
use Rattle.refusal.specs.declared.Refusal.{Refusal}
use mathlib.Core.Path.{◌≡◌, sym, ap, ap₂, ◌∙◌}
use mathlib.Core.List.{List, [], ◌++◌, map}
use native.Mathlib.Omega.{arith}
use lib.ListN.{length, drop}
use Rattle.refusal.specs.Refusal.{Refused, turned}
use Rattle.table.specs.Table.{Table, up_from}
use Rattle.plan.specs.Plans.{Plan, branches}
use Rattle.plan.specs.Notes.{notes, word}
use Rattle.plan.proofs.PlansLaws.{plan-tells}
use Rattle.checker.specs.Checked.{plan_told}
use Rattle.checker.proofs.Fixed.{plan-fixed}
use Rattle.plannotes.specs.Noted.{NotedInto, noted, refused}
use Rattle.plannotes.specs.declared.Noted.{Noted}
use Rattle.plannotes.proofs.HandedLaws.{handed-says}

-- what is noted of a plan, before other numbers
abbrev pub whole : (before : List ℕ) (k : ℕ) (rows : List (List ℕ)) → Plan k rows → List ℕ
whole before k rows tree = map word (notes tree (up_from 1 k) 32 0) ++ drop (branches tree) before

-- an accepted plan is not turned away
not-both : {n : ℕ} {f : Refused} {a : Result ℕ Refusal} {B : Type 0} → a ≡ Ok n → plan_told a ≡ turned f → B
not-both e q = absurd (let z : ◌≡◌ {A = ℕ} 0 1 = cc (ap plan_told e) in omega arith)

-- check_noted: the answer is that of the check, and the cells tell the plan, which tells what is noted
pub handed-fixed : {t p before after after' : List ℕ} {m n : Noted} → NotedInto t p before after m → NotedInto t p before after' n → (m ≡ n) × (after ≡ after')
handed-fixed {t} {p} {before} {after} {after'} {m} {n} x y = by_parts (plan-fixed t p (handed-says x) (handed-says y)) (others x y)
  where
    make : Result ℕ Refusal → ℕ → ℕ → Noted
    make a w r = record { answer = a; width = w; rows = r }

    by_parts : m.answer ≡ n.answer → (m.width ≡ n.width) × (m.rows ≡ n.rows) × (after ≡ after') → (m ≡ n) × (after ≡ after')
    by_parts a o = (ap (λ (x : Result ℕ Refusal). make x m.width m.rows) a ∙ ap₂ (make n.answer) o.0 o.1, o.2)

    others : NotedInto t p before after m → NotedInto t p before after' n → (m.width ≡ n.width) × (m.rows ≡ n.rows) × (after ≡ after')
    others (noted T tree e c a w r k) (noted T' tree' e' c' a' w' r' k') =
        let q : T ≡ T' = cc in
        let s = ap (λ (l : List ℕ). l ++ []) (sym c ∙ c') in (
          w ∙ ap (λ (T : Table). T.width) q ∙ sym w',
          r ∙ ap (λ (T : Table). length T.rows) q ∙ sym r',
          k ∙ (plan-tells (whole before) (ap (λ (T : Table). T.width) q) (ap (λ (T : Table). T.rows) q) tree tree' [] [] s).0 ∙ sym k',
        )
    others (noted T tree e c a w r k) (refused f e' a' w' r' k') = not-both {f = f} a (handed-says x ∙ rw e')
    others (refused f e a w r k) (noted T' tree' e' c' a' w' r' k') = not-both {f = f} a' (handed-says y ∙ rw e)
    others (refused f e a w r k) (refused f' e' a' w' r' k') = (w ∙ sym w', r ∙ sym r', k ∙ sym k')
