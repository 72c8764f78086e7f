-- Two results that the promise allows are equal, of the crate's public function.
use mathlib.Core.Path.{◌≡◌, refl, sym, ◌∙◌}
use mathlib.Core.Logic.{◌≢◌}
use mathlib.Core.Bool.{Bool, true, false}
use mathlib.Core.List.{List}
use Prim.Native.Nat.{ℕ, ◌≤◌, ◌<◌}
use lib.Dec.{eqb}
use lib.ListN.{length}
use borrow.Author.Tests.{eqb-true, eqb-false}
use Rattle.refusal.specs.Read.{Read, read, refuse}
use Rattle.table.specs.Table.{Table}
use Rattle.std.specs.Prelude.{Result}
use Rattle.refusal.specs.declared.Refusal.{Refusal}
use Rattle.table.specs.declared.TableRead.{TableRead}
use Rattle.table.proofs.Fixed.{reads-fixed}
use Rattle.plan.specs.Plans.{Measure}
use Rattle.state.specs.Flags.{flags_in}
use Rattle.least.specs.Entries.{SameAt}
use Rattle.least.specs.Measures.{measure_of, table_by}
use Rattle.least.specs.declared.By.{By}
use Rattle.least.proofs.Best.{least-one}
use Rattle.least.proofs.Pairs.{entry-one}
use Rattle.least.proofs.Places.{IsPair, pair, no-pair, is-pair, same_kept}
use Rattle.paircosts.specs.Fill.{Filled, KeptRight, Fills}
use Rattle.paircosts.proofs.WorkedLaws.{all_asked}
use Rattle.limits.specs.Limits.{kept_cells}

-- two arrays that are filled are one
module _ {m : Measure} {fs : List Bool} {w : ℕ} {rows : List (List ℕ)} {old new new' : List ℕ} (f : Filled m fs w rows old new)
    (g : Filled m fs w rows old new') where
  same_at : (first last : ℕ) → first < 64 → last < 64 → SameAt first last new new'
  same_at first last h l = go (is-pair (length rows) first last)
    where
      go : IsPair (length rows) first last → SameAt first last new new'
      go (pair o i) =
          let e = entry-one (g.entry first last o i) (f.entry first last o i) in
          record { whole = least-one (g.whole first last o i) (f.whole first last o i); cost = e.0; place = e.1 }
      go (no-pair o) =
          let x = f.other first last h l o in
          let y = g.other first last h l o in
          record { whole = y.whole ∙ sym x.whole; cost = y.cost ∙ sym x.cost; place = y.place ∙ sym x.place }

  same-arrays : new ≡ new'
  same-arrays = same_kept new new' f.size.1 g.size.1 same_at

-- where what is kept is right
pub fill-fixed : {by : By} {t : List ℕ} {named top since : ℕ} {old new new' : List ℕ} {r s : Result TableRead Refusal}
    → ((T : Table) → table_by by t ≡ read T → KeptRight (measure_of by) (flags_in T.width named) T.width T.rows top since old)
    → Fills by named t top since old new r → Fills by named t top since old new' s → (new ≡ new') × (r ≡ s)
fill-fixed {by} {t} {old = old} {new} {new'} right f g = (go (table_by by t) refl, reads-fixed f.reads g.reads)
  where
    filled : (T : Table) → table_by by t ≡ read T → (b : Bool) → eqb (length old) kept_cells ≡ b → new ≡ new'
    filled T e true l =
        let long : length old ≡ kept_cells = eqb-true (length old) kept_cells l in
        same-arrays ((f.accepted T e long).filled (right T e)) ((g.accepted T e long).filled (right T e))
    filled T e false l = let n : length old ≢ kept_cells = eqb-false (length old) kept_cells l in f.other_length n ∙ sym (g.other_length n)

    go : (x : Read Table) → table_by by t ≡ x → new ≡ new'
    go (read T) e = filled T e (eqb (length old) kept_cells) refl
    go (refuse x) e = f.turned-away x e ∙ sym (g.turned-away x e)

-- so where all pairs are asked for
pub fill-all-fixed : {by : By} {t : List ℕ} {named top : ℕ} {old new new' : List ℕ} {r s : Result TableRead Refusal} → 64 ≤ top
    → Fills by named t top 0 old new r → Fills by named t top 0 old new' s → (new ≡ new') × (r ≡ s)
fill-all-fixed {by} {t} {named} h f g = fill-fixed (λ T e. all_asked by (flags_in T.width named) t e h) f g
