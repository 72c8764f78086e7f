-- What is handed on, for those who go on with it.
use Prim.Native.Nat.{ℕ}
use Rattle.std.proofs.Common.{Ok, Err}
use mathlib.Core.Path.{◌≡◌, refl, sym, ◌∙◌, ap}
use mathlib.Core.List.{List, map}
use native.Mathlib.Omega.{arith}
use lib.ListN.{drop}
use lib.Seq.{take_at}
use Rattle.refusal.specs.Refusal.{told, answered, turned}
use Rattle.refusal.specs.declared.Refusal.{Refusal}
use Rattle.refusal.specs.Read.{refuse}
use Rattle.table.specs.Table.{up_from}
use Rattle.table.proofs.Accepted.{is-table}
use Rattle.plan.specs.Plans.{branches}
use Rattle.plan.specs.Check.{plan_of}
use Rattle.plan.specs.Notes.{notes, word}
use Rattle.plan.proofs.CheckLaws.{accepted-one}
use Rattle.plan.proofs.NotesLaws.{notes-fit}
use Rattle.plan.proofs.PlansLaws.{write-one}
use Rattle.checker.specs.Checked.{plan_says, plan_told}
use Rattle.plannotes.specs.Noted.{NotedInto, noted, refused}
use Rattle.plannotes.specs.code.ForRun.{ForRun}
use Rattle.plannotes.specs.declared.Noted.{Noted}
use Rattle.plannotes.proofs.TreeLaws.{words_count}

-- It has the answer of the check.
pub handed-says : {t p before after : List ℕ} {m : Noted} → NotedInto t p before after m → plan_told m.answer ≡ plan_says (plan_of t p)
handed-says {t} {p} (noted T tree e c a w n k) =
    ap plan_told a ∙ rw (e, (accepted-one T (is-table t e) p (branches tree)).1 (tree, sym c, refl, λ q z. write-one q tree (z ∙ c)))
handed-says (refused f e a w n k) = a ∙ rw e

-- Where the plan is accepted.
pub for-run : {t p before after : List ℕ} {m : Noted} {b : ℕ} → NotedInto t p before after m → m.answer ≡ Ok b
    → ForRun t p after b m.width m.rows
for-run {t} {p} {before} {m = m} {b} (noted T tree e c a w n k) d =
    let q : plan_told m.answer ≡ answered b 0 = ap plan_told d in
    let q' : plan_told m.answer ≡ answered (branches tree) 0 = ap plan_told a in
    let z : b ≡ branches tree = cc in
    let s : List ℕ = up_from 1 T.width in
    record {
      table = T;
      reads = e;
      is = is-table t e;
      tree = tree;
      writes = c;
      number = z;
      same_width = w;
      same_rows = n;
      words = rw (k, z) (take_at (map word (notes tree s 32 0)) (drop (branches tree) before) (branches tree) (words_count tree s 32 0));
      fit = notes-fit (is-table t e) tree;
    }
for-run {m = m} {b} (refused f e a w n k) d =
    let q : plan_told m.answer ≡ answered b 0 = ap plan_told d in
    absurd (let z : ◌≡◌ {A = ℕ} 0 1 = cc in omega arith)

-- Where the table or the plan is turned away.
pub no_run : {t p before after : List ℕ} {m : Noted} {f : Refusal} → NotedInto t p before after m → m.answer ≡ Err f
    → (plan_of t p ≡ refuse (told f)) × (after ≡ before)
no_run {m = m} {f = f} (noted T tree e c a w n k) d =
    let q : plan_told m.answer ≡ turned (told f) = ap plan_told d in
    let q' : plan_told m.answer ≡ answered (branches tree) 0 = ap plan_told a in
    absurd (let z : ◌≡◌ {A = ℕ} 0 1 = cc in omega arith)
no_run {m = m} {f = f} (refused g e a w n k) d =
    let q : plan_told m.answer ≡ turned (told f) = ap plan_told d in
    let z : g ≡ told f = cc in
    (e ∙ ap refuse z, k)
