-- From a table that is read to its first state, and from what is written there to the cells of the plan.
use mathlib.Core.Path.{◌≡◌, refl, ap, ◌∙◌}
use mathlib.Core.List.{List, ◌++◌}
use Prim.Native.Nat.{ℕ, ◌+◌, ◌-◌, ◌*◌, ◌^◌, ◌≤◌, ◌<◌}
use native.Mathlib.Omega.{arith}
use lib.ListN.{length, get_or, drop}
use lib.Seq.{sets, sets-eq, take_at}
use Rattle.table.specs.All.{All}
use Rattle.table.specs.Table.{Table, IsTable}
use Rattle.table.proofs.Accepted.{is-table}
use Rattle.plan.specs.Plans.{Plan, write}
use Rattle.plan.specs.code.Fits.{Fits}
use Rattle.plan.proofs.SizeLaws.{size-bound}
use Rattle.plan.proofs.CheckLaws.{rows_fit}
use Rattle.state.specs.Flags.{flags_in}
use Rattle.state.specs.Mask.{OpenRows}
use Rattle.state.specs.States.{rows_in}
use Rattle.state.specs.code.First.{TableRows}
use Rattle.state.proofs.FirstLaws.{few-rows, rows-open}
use Rattle.least.specs.code.Follow.{Follows}
use Rattle.least.proofs.FollowLaws.{Followed, followed}
use Rattle.builder.specs.code.Writing.{ToWrite, Written, Planned}
use Rattle.limits.specs.Limits.{kept_cells, most_plan_cells}

-- what is known of a state, of an equal one
module _ {w w' : ℕ} {rows rows' : List (List ℕ)} (e : w ≡ w') (f : rows ≡ rows') where
  same-plan : (kept : List ℕ) (named : ℕ) (p : Plan w' rows') → Follows kept (flags_in w' named) 0 p
      → (q : Plan w rows) × Follows kept (flags_in w named) 0 q × (write q ≡ write p)
  same-plan kept named p b = rw (e, f) (p, b, refl)

  same-fits : All (Fits 32 w') rows' → All (Fits 32 w) rows
  same-fits a = rw (e, f) a

module _ (kept : List ℕ) (named : ℕ) {t ss : List ℕ} {w n : ℕ} (k : TableRows t ss w n) where
  abbrev T : Table
  T = k.table

  is : IsTable t T.width T.rows
  is = is-table t k.here

  fits : All (Fits 32 T.width) T.rows
  fits = rows_fit T.width T.rows is.each

  -- the plan that is written
  pub plan-of : Followed kept (flags_in T.width named) 0 T.width T.rows
  plan-of = followed kept 32 (flags_in T.width named) 0 T.width T.rows fits is.count.0

  few : length (write plan-of.plan) ≤ most_plan_cells
  few = size-bound plan-of.plan fits is.count.0 is.count.1

  -- the first state, to be written from place 0 on
  pub record First (ms hs out : List ℕ) : Type 0 where
    pub state : ToWrite t ss ms hs kept out 0 n w named 0
    pub same : write state.plan ≡ write plan-of.plan

  pub first-state : {ms hs out : List ℕ} → OpenRows ss n (length t) ms → named < 2 ^ w → length hs ≡ 64 → length kept ≡ kept_cells
      → length out ≡ most_plan_cells → First ms hs out
  first-state {ms} {hs} {out} o small lh lk lo =
      let r : rows_in t ss ms 0 n ≡ T.rows = rows-open k o in
      let p = same-plan k.width r kept named plan-of.plan plan-of.follows in
      record {
        state = record {
          room = record { masks = o.size; column = lh; pairs = lk; cells = lo };
          some = (few-rows k).0;
          few = (few-rows k).1;
          rows = same-fits k.width r fits;
          flags = small;
          plan = p.0;
          follows = p.1;
          fits = omega (arith, ap length p.2, few);
        };
        same = p.2;
      }

  pub planned : {ms hs out ms' hs' out' : List ℕ} {size cost : ℕ} → length out ≡ most_plan_cells → (s : First ms hs out)
      → Written ms hs out ms' hs' out' (write s.state.plan) n 0 size → cost ≡ get_or kept (n - 1) 0 → Planned T named kept out' size cost
  planned {out = out} {out' = out'} {size} {cost} lo s x e =
      let l : List ℕ = write plan-of.plan in
      let q : 0 + length l ≡ length l = omega arith in
      let n-is : size ≡ length l = omega (arith, x.next-is, ap length s.same) in
      let o : out' ≡ l ++ drop (length l) out =
      x.out-is ∙ ap (λ (xs : List ℕ). sets out 0 xs) s.same ∙ sets-eq l out 0 (omega (arith, few)) ∙ rw q in
      let z : n - 1 ≡ 64 * 0 + (length T.rows - 1) = omega (arith, k.rows) in
      record {
        plan = plan-of.plan;
        follows = plan-of.follows;
        cells_are = rw (o, n-is) (take_at l (drop (length l) out) (length l) refl);
        size_is = n-is;
        few = omega (arith, few);
        cost-is = e ∙ ap (λ (i : ℕ). get_or kept i 0) z;
      }
