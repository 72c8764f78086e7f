-- Building for named columns (02, W-213): with no column named it is the plain least plan; and which columns the list names is all that counts,
-- not its order and not how often.
use Rattle.std.specs.Prelude.{Result}
use Rattle.builder.specs.declared.BuiltPlan.{BuiltPlan}
use Rattle.refusal.specs.declared.Refusal.{Refusal}
use mathlib.Core.Path.{◌≡◌, refl, ◌∙◌}
use mathlib.Core.Logic.{inr}
use mathlib.Core.List.{List, []}
use Prim.Native.Nat.{ℕ}
use Rattle.table.specs.Table.{Table}
use Rattle.table.proofs.ReadLaws.{then-both}
use Rattle.plan.specs.Named.{flags_of, occurs}
use Rattle.plan.specs.Plans.{Plan, Measure}
use Rattle.plan.proofs.NamedLaws.{Free}
use Rattle.plan.proofs.ColumnsLaws.{free-columns, same_flags, same-columns}
use Rattle.least.specs.Least.{Built}
use Rattle.least.specs.Measures.{table_by}
use Rattle.least.specs.declared.By.{By}
use Rattle.least.proofs.NoneNamed.{free-built}
use Rattle.paircosts.proofs.PlainLaws.{plain-free}
use Rattle.builder.specs.Build.{table_for, BuiltInto, table-refused, room-refused, built}

-- No flag stands where no column is named.
pub no-column-free : (w : ℕ) → Free (flags_of w []) w
no-column-free w = free-columns [] w (inr (λ c h. refl))

-- The plain rule's plan, with no column named.
module _ (m : Measure) {w : ℕ} {rows : List (List ℕ)} where
  pub plain-built : (p : Plan w rows) → Built m (flags_of w []) p → Built m [] p
  plain-built p b = free-built m (flags_of w []) [] (no-column-free w) (plain-free w) p b

-- THE LIST AS A SET: what is built for one list is built for every other that names the same columns
module _ (xs ys : List ℕ) (alike : (c : ℕ) → occurs c xs ≡ occurs c ys) where
  same-table : (by : By) (t : List ℕ) → table_for by ys t ≡ table_for by xs t
  unfolding table_for
  same-table by t = then-both (table_by by t) (λ (T : Table). rw (same-columns xs ys alike T))

  pub same-list : {by : By} {t room room' : List ℕ} {r : Result BuiltPlan Refusal} → BuiltInto by xs t room room' r → BuiltInto by ys t room room' r
  same-list {by} {t} (table-refused f a b c) = table-refused f (same-table by t ∙ a) b c
  same-list {by} {t} (room-refused T p a u w b c) =
      room-refused T p (same-table by t ∙ a) (rw (same_flags xs ys alike T.width) at u) w b c
  same-list {by} {t} (built T p a u l w b c) =
      let e = same_flags xs ys alike T.width in built T p (same-table by t ∙ a) (rw e at u) (rw e at l) w b c
