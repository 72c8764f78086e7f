-- The plan of the rows that were kept, as the code comes to it.
use Rattle.std.specs.Prelude.{Result, Ok, Err}
use Rattle.builder.specs.declared.BuiltPlan.{BuiltPlan}
use Prim.Native.Nat.{ℕ, ◌+◌, ◌-◌, ◌*◌, ◌/◌, ◌%◌, ◌≤◌, ◌<◌, min}
use mathlib.Core.Path.{◌≡◌, refl, sym, ◌∙◌, ap, subst}
use mathlib.Core.Bool.{Bool, true, false}
use mathlib.Core.List.{List, []}
use native.Mathlib.Omega.{arith}
use lib.ListN.{length, take, drop, length-append}
use lib.Seq.{sets, length-sets, take_at}
use Rattle.refusal.specs.Refusal.{told, answered, turned}
use Rattle.refusal.specs.declared.Refusal.{Refusal}
use Rattle.table.specs.Table.{table_of}
use Rattle.table.proofs.ReadLaws.{apart, not-both}
use Rattle.table.proofs.Accepted.{is-table}
use Rattle.plan.specs.Check.{plan_of}
use Rattle.plan.specs.Plans.{write}
use Rattle.plan.proofs.CheckLaws.{rows_fit}
use Rattle.plan.proofs.SizeLaws.{size-bound}
use Rattle.checker.specs.Checked.{plan_told, plan_says}
use Rattle.checker.proofs.SaidLaws.{said_read, said-refused}
use Rattle.least.specs.Measures.{work, cost_by, table_by}
use Rattle.least.specs.declared.By.TheVariants.{Work}
use Rattle.least.proofs.Measured.{by-table}
use Rattle.builder.proofs.AskedLaws.{plain-table}
use Rattle.builder.proofs.ColumnsLaws.{plain-built}
use Rattle.builder.specs.Build.{table_for, BuiltInto, table-refused, room-refused, built, build_told}
use Rattle.octets.specs.Octets.{fitting}
use Rattle.blocks.specs.Blocks.{good, good_cells, Found}
use Rattle.filing.specs.Files.{plan_size}
use Rattle.filing.specs.code.Front.{Front}
use Rattle.filing.proofs.ReadingLaws.{front-found}
use Rattle.salvaging.specs.Salvage.{front, count, kept, kept_cells, plan_start, plan_run, plan_kept, PlanHad, old-plan, new-plan}
use Rattle.salvaging.proofs.PlanLaws.{kept_read, rows-missing, cells-missing, not-accepted, is-accepted}
use Rattle.salvage.specs.declared.Top.{Top}
use Rattle.salvage.specs.declared.Laid.{Laid}
use Rattle.salvage.specs.code.Saving.{TopIs, OwnPlan, PlanLaid}

module _ {file : List ℕ} {top : Top} (t : TopIs file top) where
  -- not kept: nothing is said of the list
  not_own : {cells : List ℕ} → plan_kept file ≡ false → OwnPlan file top cells false
  not_own e = record { is = e; within = λ h. not-both h refl; here = λ h. not-both h refl }

  pub rows_dropped : {cells : List ℕ} → (top.rows ≡ top.count → ⊥) → OwnPlan file top cells false
  rows_dropped d = not_own (rows-missing file (λ e. d (t.rows ∙ e ∙ sym t.count)))

  module _ (same : top.rows ≡ top.count) {old new : List ℕ} {n : ℕ} (size : length old ≡ 6207)
      (found : Found file (top.start / 125) old new n) where
    every : length (kept file) ≡ count file
    every = sym t.rows ∙ same ∙ t.count

    skip : top.start % 125 ≡ plan_start file % 125
    skip = ap (λ (j : ℕ). j % 125) t.start

    run : n ≡ good file (plan_start file / 125)
    run = found.many ∙ ap (λ (j : ℕ). good file (j / 125)) t.start

    fits : Front 6207 new (plan_run file)
    fits =
        front-found old new (plan_run file) size
        (found.put ∙ ap (λ (j : ℕ). sets old 0 (fitting old 0 (good_cells file (j / 125)))) t.start)

    pub plan-cut-off : 125 * n < top.start % 125 + top.plans → OwnPlan file top new false
    plan-cut-off h = not_own (cells-missing file every (omega (arith, run, skip, t.plans)))

    module _ (within : top.start % 125 + top.plans ≤ 125 * n) {k : ℕ} (least : k ≡ min top.plans 6083)
        {table : List ℕ} (is : table ≡ kept_cells file) where
      -- what the check says of the cells that are cut out
      abbrev Said : Result ℕ Refusal → Type 0
      Said a = plan_told a ≡ plan_says (plan_of table (take (top.start % 125 + k - top.start % 125) (drop (top.start % 125) new)))

      within' : plan_start file % 125 + plan_size (front file) ≤ 125 * good file (plan_start file / 125)
      within' = omega (arith, run, skip, t.plans)

      least' : k ≡ min (plan_size (front file)) 6083
      least' = least ∙ ap (λ (j : ℕ). min j 6083) t.plans

      same_check : plan_of table (take (top.start % 125 + k - top.start % 125) (drop (top.start % 125) new))
          ≡ plan_of (kept_cells file) (take (plan_start file % 125 + k - plan_start file % 125) (drop (plan_start file % 125) new))
      same_check =
          ap (λ (l : List ℕ). plan_of l (take (top.start % 125 + k - top.start % 125) (drop (top.start % 125) new))) is
          ∙ ap (λ (s : ℕ). plan_of (kept_cells file) (take (s + k - s) (drop s new))) skip

      pub plan-turned : {a : Result ℕ Refusal} {f : Refusal} → Said a → a ≡ Err f → OwnPlan file top new false
      plan-turned said e =
          not_own (not-accepted file every t.head t.some within' new fits k least' (sym same_check ∙ said-refused _ said e))

      pub plan-passed : {a : Result ℕ Refusal} {b : ℕ} → Said a → a ≡ Ok b → OwnPlan file top new true
      plan-passed said e =
          let p = is-accepted file every t.head t.some within' new fits k least' (sym same_check ∙ said_read _ said e) in
          let l : length new ≡ 6207 = ap length found.put ∙ length-sets old 0 (fitting old 0 (good_cells file (top.start / 125))) ∙ size in
          record {
            is = p.0;
            within = λ h. omega (arith, p.1, l, skip, t.plans);
            here = λ h.
                ap (λ (s : ℕ). take (s + top.plans - s) (drop s new)) skip
                ∙ ap (λ (j : ℕ). take (plan_start file % 125 + j - plan_start file % 125) (drop (plan_start file % 125) new)) t.plans ∙ p.2;
          }

  -- the file's own plan
  pub own-laid : {cells : List ℕ} {b : Bool} → OwnPlan file top cells b → b ≡ true
      → PlanLaid file cells (record { keeps = true; start = top.start % 125; end = top.start % 125 + top.plans })
  own-laid {cells} o e =
      record {
        order = omega arith;
        within = o.within e;
        is = subst (PlanHad file true) (sym (o.here e)) (old-plan (o.is ∙ e));
      }

  -- a new one
  module _ {cells table : List ℕ} {b : Bool} (o : OwnPlan file top cells b) (no : b ≡ false) (is : table ≡ kept_cells file)
      (size : length cells ≡ 6207) where
    reads : table_for (Work 0) [] table ≡ table_of (kept_cells file)
    reads = plain-table (Work 0) table ∙ ap (table_by (Work 0)) is ∙ by-table (Work 0) (kept_cells file) (omega arith)

    pub new-laid : {cells' : List ℕ} {r : Result BuiltPlan Refusal} {n cost : ℕ} → BuiltInto (Work 0) [] table cells cells' r → r ≡ Ok (record { cells = n; cost = cost })
        → PlanLaid file cells' (record { keeps = false; start = 0; end = n })
    new-laid (table-refused f x a s) e = let z : ◌≡◌ {A = ℕ} 0 1 = cc in absurd (omega arith)
    new-laid (room-refused T p x y l a s) e = let z : ◌≡◌ {A = ℕ} 0 1 = cc in absurd (omega arith)
    new-laid {cells'} {n = n} {cost} (built T p x y m l a s) e =
        let d : answered n cost ≡ answered (length (write p)) (cost_by (Work 0) p) = ap build_told (sym e) ∙ a in
        let q : n ≡ length (write p) = cc in
        let j : n - 0 ≡ length (write p) = omega (arith, q) in
        let w : take (n - 0) cells' ≡ write p =
        ap (λ (i : ℕ). take i cells') j ∙ ap (take (length (write p))) s
        ∙ take_at (write p) (drop (length (write p)) cells) (length (write p)) refl in
        record {
          order = omega arith;
          within = omega (arith, q, ap length s, length-append (write p) (drop (length (write p)) cells));
          is = subst (PlanHad file false) (sym w) (new-plan (o.is ∙ no) T (sym reads ∙ x) p (plain-built (work 0) p y));
        }

    pub never-refused : {cells' : List ℕ} {r : Result BuiltPlan Refusal} {f : Refusal} → BuiltInto (Work 0) [] table cells cells' r → r ≡ Err f
        → {l : Laid} → PlanLaid file cells' l
    never-refused (table-refused g x a s) e = apart (sym (kept_read file t.head t.some) ∙ sym reads ∙ x)
    never-refused (room-refused T p x y l a s) e =
        let i = is-table (kept_cells file) (sym reads ∙ x) in
        absurd (omega (arith, size-bound p (rows_fit T.width T.rows i.each) i.count.0 i.count.1))
    never-refused {f = f} (built T p x y m l a s) e =
        let d : turned (told f) ≡ answered (length (write p)) (cost_by (Work 0) p) = ap build_told (sym e) ∙ a in
        let z : ◌≡◌ {A = ℕ} 0 1 = cc in
        absurd (omega arith)
