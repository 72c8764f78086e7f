-- Two results that a promise allows are equal, for every public function of the crate.
use Rattle.std.specs.Prelude.{Result, Ok, Err}
use Rattle.builder.specs.declared.BuiltPlan.{BuiltPlan}
use Rattle.refusal.specs.declared.Refusal.{Refusal}
use mathlib.Core.Path.{◌≡◌, sym, ap, ap₂, subst, ◌∙◌}
use mathlib.Core.List.{List, []}
use Prim.Native.Nat.{ℕ}
use native.Mathlib.Omega.{arith}
use lib.ListN.{length}
use Rattle.refusal.specs.Refusal.{told, turned}
use Rattle.table.specs.Table.{Table}
use Rattle.table.proofs.ReadLaws.{apart, read_one}
use Rattle.refusal.proofs.RefusalLaws.{told-one}
use Rattle.plan.specs.Plans.{Plan, write, Measure}
use Rattle.plan.specs.Named.{flags_of}
use Rattle.least.specs.Least.{Built}
use Rattle.least.specs.Measures.{measure_of, cost_from}
use Rattle.least.specs.declared.By.{By}
use Rattle.record.specs.Record.{Holds}
use Rattle.builder.specs.Build.{build_told, BuiltInto, BuiltFrom, table-refused, room-refused, built}
use Rattle.least.proofs.Building.{built-one}

-- build_for, and build_plan with no column named: the answer tells the case, and the rule the plan
pub build_told-one : (a b : Result BuiltPlan Refusal) → build_told a ≡ build_told b → a ≡ b
build_told-one (Ok n) (Ok m) e =
    let x : n.cells ≡ m.cells = cc in
    let y : n.cost ≡ m.cost = cc in
    ap₂ (λ (k l : ℕ). Ok (record { cells = k; cost = l })) x y
build_told-one (Ok n) (Err g) e = absurd (let z : ◌≡◌ {A = ℕ} 0 1 = cc in omega arith)
build_told-one (Err f) (Ok m) e = absurd (let z : ◌≡◌ {A = ℕ} 0 1 = cc in omega arith)
build_told-one (Err f) (Err g) e = let q : told f ≡ told g = cc in ap Err (told-one q)

-- the builder's plans of one table write the same cells, and cost the same
pub same-built : (m : Measure) (columns : List ℕ) {T T' : Table} → T ≡ T' → (p : Plan T.width T.rows) (q : Plan T'.width T'.rows)
    → Built m (flags_of T.width columns) p → Built m (flags_of T'.width columns) q → (write p ≡ write q) × (cost_from m [] p ≡ cost_from m [] q)
same-built m columns {T} {T'} e p q b c =
    subst (λ (X : Table). (q : Plan X.width X.rows) → Built m (flags_of X.width columns) q
    → (write p ≡ write q) × (cost_from m [] p ≡ cost_from m [] q)) e
    (λ q c. (let d : p ≡ q = built-one m (flags_of T.width columns) p q b c in (ap write d, ap (λ (p : Plan _ _). cost_from m [] p) d))) q c

pub build-fixed : {by : By} {columns t room room' room'' : List ℕ} {r s : Result BuiltPlan Refusal} → BuiltInto by columns t room room' r
    → BuiltInto by columns t room room'' s → (r ≡ s) × (room' ≡ room'')
build-fixed {by} {r = r} {s} (table-refused f a b c) (table-refused f' a' b' c') =
    (build_told-one r s (let q : f ≡ f' = cc in b ∙ ap turned q ∙ sym b'), c ∙ sym c')
build-fixed (table-refused f a b c) (room-refused T p a' u w b' c') = apart (sym a' ∙ a)
build-fixed (table-refused f a b c) (built T p a' u l w b' c') = apart (sym a' ∙ a)
build-fixed (room-refused T p a u w b c) (table-refused f a' b' c') = apart (sym a ∙ a')
build-fixed {by} {columns} {r = r} {s} (room-refused T p a u w b c) (room-refused T' p' a' u' w' b' c') =
    let x = same-built (measure_of by) columns (read_one (sym a ∙ a')) p p' u u' in
    (build_told-one r s (b ∙ rw x.0 (sym b')), c ∙ sym c')
build-fixed {by} {columns} (room-refused T p a u w b c) (built T' p' a' u' l' w' b' c') =
    let x = same-built (measure_of by) columns (read_one (sym a ∙ a')) p p' u u' in
    absurd (omega (arith, ap length x.0))
build-fixed (built T p a u l w b c) (table-refused f a' b' c') = apart (sym a ∙ a')
build-fixed {by} {columns} (built T p a u l w b c) (room-refused T' p' a' u' w' b' c') =
    let x = same-built (measure_of by) columns (read_one (sym a ∙ a')) p p' u u' in
    absurd (omega (arith, ap length x.0))
build-fixed {by} {columns} {room = room} {r = r} {s} (built T p a u l w b c) (built T' p' a' u' l' w' b' c') =
    let x = same-built (measure_of by) columns (read_one (sym a ∙ a')) p p' u u' in
    (build_told-one r s (b ∙ rw (x.0, x.1) (sym b')), c ∙ rw x.0 (sym c'))

-- build_from: of a record that holds a table
pub build-from-fixed : {rec room room' room'' : List ℕ} {figure : ℕ} {T : Table} {r s : Result BuiltPlan Refusal} → Holds rec figure T
    → BuiltFrom rec room room' r → BuiltFrom rec room room'' s → (r ≡ s) × (room' ≡ room'')
build-from-fixed x p q = build-fixed (p _ _ x) (q _ _ x)
