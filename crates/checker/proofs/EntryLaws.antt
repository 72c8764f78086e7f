-- The entries: from a table that is read to its first state, and from the first state's answer to the plan's.
use mathlib.Core.Path.{◌≡◌, refl, ap, ◌∙◌}
use mathlib.Core.Bool.{Bool, true, false}
use mathlib.Core.List.{List}
use Prim.Native.Nat.{ℕ, ◌^◌, ◌≤◌, ◌<◌}
use native.Mathlib.Omega.{arith}
use lib.Dec.{ltb}
use lib.ListN.{length, drop_of_length-le}
use lib.Pow.{pow_mono}
use borrow.Author.Tests.{lt-ltb, le-ltb}
use Rattle.refusal.specs.Refusal.{Refused, refused, told, Answer, answered, turned}
use Rattle.refusal.specs.declared.Input.TheVariants as input
use Rattle.refusal.specs.declared.Reason.TheVariants as reason
use Rattle.refusal.specs.declared.Refusal.{Refusal}
use Rattle.refusal.specs.Read.{Read, read, refuse, when, and_then}
use Rattle.table.specs.Table.{Table, table_of}
use Rattle.table.proofs.Accepted.{is-table}
use Rattle.plan.specs.Named.{flags_of, any_past}
use Rattle.plan.specs.Check.{bad_plan, state_from, plan_with, columns_for, plan_under}
use Rattle.plan.proofs.CheckLaws.{rows_fit, plan-size, plan-refused, plan-extra}
use Rattle.state.specs.Flags.{flags_in, mask_from, past_from}
use Rattle.state.specs.Mask.{OpenRows}
use Rattle.state.specs.code.First.{TableRows}
use Rattle.state.proofs.FirstLaws.{is, few-rows, rows-open}
use Rattle.state.proofs.FlagsLaws.{mask-flags, past-any}
use Rattle.checker.specs.Checked.{plan_says}
use Rattle.checker.specs.code.Steps.{Step, named_plan, said_by, Ready, Done}
use Rattle.std.proofs.Common.{Ok, Err}
use Rattle.checker.specs.declared.check.Seen as code
use Rattle.limits.specs.Limits.{most_plan_cells}

-- The table is turned away.
pub table-refused : (t columns p : List ℕ) (f : Refused) → table_of t ≡ refuse f → turned f ≡ plan_says (plan_under t columns p)
table-refused t columns p f e = rw e

module _ {t ss : List ℕ} {w n : ℕ} (k : TableRows t ss w n) (mask past : ℕ) (p : List ℕ) where
  -- COLUMN
  pub entry-column : {x : Refused} → w < past → x ≡ refused reason.Column input.Columns 0 → turned x ≡ plan_says (named_plan mask past t p)
  entry-column h q = rw (k.here, lt-ltb k.table.width past (omega (arith, k.width)), q)

  module _ (below : past ≤ w) where
    abbrev fs : List Bool
    fs = flags_in k.table.width mask

    -- what is said of the plan, the table being read and the columns there
    says-plan : (r : Read ℕ) → plan_with fs k.table p ≡ r → plan_says r ≡ plan_says (named_plan mask past t p)
    says-plan r e = rw (k.here, le-ltb k.table.width past (omega (arith, k.width)), e)

    turned-plan : (x : Refused) {y : Refused} → plan_with fs k.table p ≡ refuse x → y ≡ x → turned y ≡ plan_says (named_plan mask past t p)
    turned-plan x e q = ap turned q ∙ says-plan (refuse x) e

    -- SIZE
    pub entry-size : {x : Refused} → most_plan_cells < length p → x ≡ bad_plan reason.Size 0 → turned x ≡ plan_says (named_plan mask past t p)
    entry-size h = turned-plan (bad_plan reason.Size 0) (plan-size fs k.table p h)

    module _ {ms : List ℕ} (o : OpenRows ss n (length t) ms) {hs : List ℕ} where
      -- the first state
      pub ready-first : mask < 2 ^ past → length hs ≡ 64 → Ready t ss ms hs p 0 n mask w 0
      ready-first b a = record {
        room = record { masks = o.size; column = a; here = omega arith; few = (few-rows k).1; some = omega arith };
        row = (few-rows k).0;
        rows = rw (k.width, rows-open k o) (rows_fit k.table.width k.table.rows (is k).each);
        flags = omega (arith, pow_mono {i = past} below);
      }

      module _ (h : length p ≤ most_plan_cells) {ms' hs' : List ℕ} {r : Step} (d : Done t ss ms hs ms' hs' p 0 n mask w 0 r) where
        says : state_from 32 fs k.table.width k.table.rows 0 p ≡ said_by p r
        says = rw (k.width, rows-open k o) at d.says

        -- what it is turned away for
        pub entry-refused : {f : Refusal} → r ≡ Err f → turned (told f) ≡ plan_says (named_plan mask past t p)
        entry-refused {f} e = says-plan (refuse (told f)) (plan-refused fs k.table p (told f) h (says ∙ ap (said_by p) e))

        -- EXTRA
        pub entry-extra : {x : Refused} {s : code.Seen} → r ≡ Ok s → s.next < length p → x ≡ bad_plan reason.Extra s.next
            → turned x ≡ plan_says (named_plan mask past t p)
        entry-extra {s = s} q l = turned-plan (bad_plan reason.Extra s.next) (plan-extra fs k.table p s.branches s.next h (says ∙ ap (said_by p) q) l)

        -- the plan is accepted
        pub entry-accepted : {s : code.Seen} → r ≡ Ok s → length p ≤ s.next → answered s.branches 0 ≡ plan_says (named_plan mask past t p)
        unfolding plan_with
        entry-accepted {s} q l =
            let e = says ∙ ap (said_by p) q in
            says-plan (read s.branches) (rw (le-ltb most_plan_cells (length p) h, e, drop_of_length-le p l))

-- A LIST'S mask and the largest of its numbers are the list, for every table that is read
named-under : (t columns p : List ℕ) → named_plan (mask_from 0 columns) (past_from 0 columns) t p ≡ plan_under t columns p
named-under t columns p = go (table_of t) refl
  where
    go : (r : Read Table) → table_of t ≡ r
        → and_then r (λ (T : Table). when (ltb T.width (past_from 0 columns)) (refused reason.Column input.Columns 0)
        (plan_with (flags_in T.width (mask_from 0 columns)) T p))
        ≡ and_then r (λ (T : Table). and_then (columns_for T columns) (λ (named : List Bool). plan_with named T p))
    go (read T) e =
        rw (past-any T.width 0 columns (omega arith), mask-flags T.width columns (is-table t e).width.1)
        (then-when (any_past T.width columns) (flags_of T.width columns))
      where
        then-when : (b : Bool) (named : List Bool) → when b (refused reason.Column input.Columns 0) (plan_with named T p)
            ≡ and_then (when b (refused reason.Column input.Columns 0) (read named)) (λ (named : List Bool). plan_with named T p)
        then-when true named = refl
        then-when false named = refl
    go (refuse f) e = refl

pub said_under : {x : Answer} (mask past : ℕ) (t columns p : List ℕ) → mask ≡ mask_from 0 columns → past ≡ past_from 0 columns
    → x ≡ plan_says (named_plan mask past t p) → x ≡ plan_says (plan_under t columns p)
said_under mask past t columns p m n e = e ∙ rw (m, n) (ap plan_says (named-under t columns p))
