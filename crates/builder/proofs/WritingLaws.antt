-- The writing of a plan, state by state: what is written is what the plan that follows the kept places writes.
use mathlib.Core.Path.{◌≡◌, refl, sym, ap, subst, ◌∙◌}
use mathlib.Core.Bool.{Bool, true, false, cond}
use mathlib.Core.List.{List, [], ◌∷◌, ◌++◌}
use Prim.Native.Nat.{ℕ, suc, ◌+◌, ◌-◌, ◌^◌, ◌≤◌, ◌<◌, min}
use native.Mathlib.Omega.{arith}
use lib.ListN.{length, get_or, set, length-set, length-append}
use lib.Seq.{sets, length-sets}
use Rattle.cell.specs.Cell.{arity}
use Rattle.cell.proofs.CellLaws.{arity-small}
use Rattle.term.proofs.Lists.{sets-sets}
use Rattle.table.specs.All.{All}
use Rattle.plan.specs.Runs.{Run, run, agree, runs}
use Rattle.plan.specs.Plans.{Plan, leaf, node, Branches, end, next, write, writes}
use Rattle.plan.specs.Named.{spread}
use Rattle.plan.specs.code.Fits.{Fits}
use Rattle.plan.proofs.RunsLaws.{fits_more, runs_fit}
use Rattle.plan.proofs.PlansLaws.{leaf-cells}
use Rattle.state.specs.Column.{breaks, run_length, run_count}
use Rattle.state.specs.Flags.{flags_in, spread_of}
use Rattle.state.specs.States.{rows_in, column_in, runs_in, Same, ClosedRows}
use Rattle.state.proofs.RowsLaws.{rows-length, rows-kept, column-none, FirstRun, run-first, run-number}
use Rattle.state.proofs.RowsLaws.{Closes, closes-of, runs_closed, same_self, same_then, same-later}
use Rattle.state.proofs.FlagsLaws.{flags-below, few-below}
use Rattle.least.specs.code.Follow.{taken, Follows, FollowsIn}
use Rattle.least.proofs.FollowLaws.{taken-open}
use Rattle.builder.specs.code.Writing.{ToWrite, ToWriteAll, Written}
use Rattle.builder.proofs.ChooseLaws.{few-open}
use Rattle.limits.specs.Limits.{most_plan_cells}

-- a state's own two cells, and those of its branches
two_cells : (l xs ys cells : List ℕ) (at i n : ℕ) → xs ≡ ys → cells ≡ i ∷ (n ∷ ys)
    → sets (set (set l at i) (at + 1) n) (at + 2) xs ≡ sets l at cells
two_cells l xs ys cells at i n e c =
    let p : at + 1 ≡ suc at = omega arith in
    let q : at + 2 ≡ suc (suc at) = omega arith in
    rw (c, e, p, q)

-- a branch's cell, those of the state below it, and those of the other branches
three-cells : (l l₁ xs ys cells : List ℕ) (at m c : ℕ) → l₁ ≡ sets (set l at c) (at + 1) xs → m ≡ at + 1 + length xs
    → cells ≡ c ∷ (xs ++ ys) → sets l₁ m ys ≡ sets l at cells
three-cells l l₁ xs ys cells at m c e em ec =
    let p : at + 1 ≡ suc at = omega arith in
    rw (e, em, ec, p) (sets-sets (set l at c) (suc at) xs ys)

-- The plan that follows, by its first state: a leaf, or the place that is taken with the plans below its branches.
module _ (kept : List ℕ) (fs : List Bool) (first : ℕ) where
  pub record Below (k i : ℕ) (rows : List (List ℕ)) (cells : List ℕ) : Type 0 where
    pub plans : Branches k (runs i rows)
    pub follows : FollowsIn kept fs i first plans
    pub cells_are : cells ≡ i ∷ (length (runs i rows) ∷ writes plans)

  pub node-cells : {K : ℕ} {rows : List (List ℕ)} (p : Plan K rows) (k i : ℕ) → K ≡ suc k → Follows kept fs first p
      → i ≡ taken kept fs first (suc k) rows → Below k i rows (write p)
  unfolding write Follows
  node-cells leaf k i e f c = absurd (omega arith)
  node-cells (node {k = k'} {rows} j l bs) k i e f c =
      let ek : k' ≡ k = omega arith in
      let ij : j ≡ i = f.0 ∙ ap (λ (n : ℕ). taken kept fs first (suc n) rows) ek ∙ sym c in
      subst (λ (i : ℕ). Below k i rows (j ∷ (length (runs j rows) ∷ writes bs))) ij
      (rw (← ek) (record { plans = bs; follows = f.1; cells_are = refl }))

  module _ (i : ℕ) where
    pub record NextPlan (k : ℕ) (g : Run) (gs : List Run) (cells : List ℕ) : Type 0 where
      pub plan : Plan (arity g.cell + k) g.rows
      pub follows : Follows kept (spread i (arity g.cell) fs) first plan
      pub plans : Branches k gs
      pub all-follow : FollowsIn kept fs i (first + length g.rows) plans
      pub cells_are : cells ≡ g.cell ∷ (write plan ++ writes plans)

    pub next-plan : {k : ℕ} {gs : List Run} (bs : Branches k gs) (g : Run) (gs' : List Run) → gs ≡ g ∷ gs' → FollowsIn kept fs i first bs
        → NextPlan k g gs' (writes bs)
    unfolding write Follows
    next-plan end g gs' e b = let z : ◌≡◌ {A = ℕ} 0 1 = cc in absurd (omega arith)
    next-plan {k} (next {g = h} {gs = hs} p bs) g gs' e b =
        let eg : h ≡ g = cc in
        let es : hs ≡ gs' = cc in
        rw (← eg, ← es) (record { plan = p; follows = b.0; plans = bs; all-follow = b.1; cells_are = refl })

    -- branches that follow, of runs that are the same
    same-plans : {k : ℕ} {gs gs' : List Run} → gs ≡ gs' → (bs : Branches k gs) → FollowsIn kept fs i first bs
        → (cs : Branches k gs') × FollowsIn kept fs i first cs × (writes cs ≡ writes bs)
    same-plans e bs f = rw (← e) (bs, f, refl)

pub no-plan : {k : ℕ} {gs : List Run} (bs : Branches k gs) → gs ≡ [] → writes bs ≡ []
unfolding writes
no-plan end e = refl
no-plan (next p bs) e = let z : ◌≡◌ {A = ℕ} 0 1 = cc in absurd (omega arith)

-- A leaf.
module _ {t ss ms hs kept out : List ℕ} {first last k named at : ℕ} (q : ToWrite t ss ms hs kept out first last k named at) (z : k ≡ 0) where
  leaf-is : write q.plan ≡ (last - first) ∷ []
  leaf-is = leaf-cells q.plan z ∙ rw (rows-length t ss ms (last - first) first)

  pub leaf_room : at < most_plan_cells
  leaf_room = omega (arith, q.fits, ap length leaf-is)

  pub leaf-written : (r : ℕ) (out₁ : List ℕ) → (r ≡ at + 1) × (out₁ ≡ set out at (last - first))
      → Written ms hs out ms hs out₁ (write q.plan) last at r
  leaf-written r out₁ d = rw leaf-is (record { next-is = d.0; out-is = d.1; masks = same_self last ms; column = same_self last hs })

-- An inner state: the place i is taken and closed, and the branches are next.
pub record Inner (t ss ms hs kept out : List ℕ) (first last k named i at : ℕ) (ms₁ hs₁ out₁ cells : List ℕ) : Type 0 where
  pub room : at + 1 < most_plan_cells
  pub ready : ToWriteAll t ss ms₁ hs₁ kept out₁ first last (k - 1) named i (at + 2)
  pub done : (ms₂ hs₂ out₂ : List ℕ) (m : ℕ) → Written ms₁ hs₁ out₁ ms₂ hs₂ out₂ (writes ready.plans) last (at + 2) m
      → Written ms hs out ms₂ hs₂ out₂ cells last at m

module _ {t ss ms hs kept out : List ℕ} {first last k named at : ℕ} (q : ToWrite t ss ms hs kept out first last k named at) (ms₁ hs₁ : List ℕ)
    (i n : ℕ) (some : 0 < k) (i-is : i ≡ taken kept (flags_in k named) first k (rows_in t ss ms first last))
    (closed : ClosedRows t ss ms hs ms₁ hs₁ i first (min last 64)) (n-is : n ≡ run_count (column_in hs₁ first last)) where
  abbrev rows : List (List ℕ)
  rows = rows_in t ss ms first last

  closes : Closes t ss ms hs ms₁ hs₁ i first last
  closes = closes-of t ss ms hs i (omega (arith, q.some)) q.few q.room.masks q.room.column closed

  k-is : k ≡ suc (k - 1)
  k-is = omega arith

  abbrev fs : List Bool
  fs = flags_in k named

  taken_here : i ≡ taken kept fs first (suc (k - 1)) rows
  taken_here = i-is ∙ ap (λ (m : ℕ). taken kept fs first m rows) k-is

  open-here : i ≤ k - 1
  open-here = omega (arith, taken_here, taken-open kept fs first (k - 1) rows)

  below : Below kept fs first (k - 1) i rows (write q.plan)
  below = node-cells kept fs first q.plan (k - 1) i k-is q.follows taken_here

  each_fits : All (λ (g : Run). All (Fits 32 (arity g.cell + (k - 1))) g.rows) (runs i rows)
  each_fits = runs_fit 32 (k - 1) i open-here rows (fits_more 32 (suc (k - 1)) rows (rw k-is at q.rows))

  runs_number : length (runs i rows) ≡ n
  runs_number =
      ap length (runs_closed closes)
      ∙ run-number t ss ms₁ hs₁ first last (omega (arith, q.room.column, closes.column.size, q.few)) ∙ sym n-is

  all-ready : (r : ToWriteAll t ss ms₁ hs₁ kept (set (set out at i) (at + 1) n) first last (k - 1) named i (at + 2))
      × (writes r.plans ≡ writes below.plans)
  all-ready =
      let x = same-plans kept fs first i (runs_closed closes) below.plans below.follows in (
        record {
          room = record {
            masks = closes.masks.size ∙ q.room.masks;
            column = closes.column.size ∙ q.room.column;
            pairs = q.room.pairs;
            cells = length-set (set out at i) (at + 1) n ∙ length-set out at i ∙ q.room.cells;
          };
          order = omega (arith, q.some);
          few = q.few;
          each = rw (← (runs_closed closes)) each_fits;
          place = open-here;
          flags = subst (λ (m : ℕ). named < 2 ^ m) k-is q.flags;
          many = omega (arith, few-open t ss ms q.rows q.some);
          plans = x.0;
          follows = subst (λ (m : ℕ). FollowsIn kept (flags_in m named) i first x.0) k-is x.1;
          fits = omega (arith, q.fits, ap length below.cells_are, ap length x.2);
        },
        x.2,
      )

  pub inner : Inner t ss ms hs kept out first last k named i at ms₁ hs₁ (set (set out at i) (at + 1) n) (write q.plan)
  inner = record {
    room = omega (arith, q.fits, ap length below.cells_are);
    ready = all-ready.0;
    done = λ ms₂ hs₂ out₂ m x. record {
      next-is = omega (arith, x.next-is, ap length all-ready.1, ap length below.cells_are);
      out-is = x.out-is ∙ two_cells out (writes all-ready.0.plans) (writes below.plans) (write q.plan) at i n all-ready.1
          (below.cells_are ∙ ap (λ (z : ℕ). i ∷ (z ∷ writes below.plans)) runs_number);
      masks = same_then last closes.masks x.masks;
      column = same_then last closes.column x.column;
    };
  }

-- The branches: those of the rows before `row` are written, and with those of the rows from it on they are all.
pub record Going (t ss kept ms hs out : List ℕ) (last k named i at : ℕ) (cells ms₁ hs₁ out₁ : List ℕ) (row next : ℕ) : Type 0 where
  pub rest : ToWriteAll t ss ms₁ hs₁ kept out₁ row last k named i next
  pub out-is : sets out₁ next (writes rest.plans) ≡ sets out at cells
  pub next-is : next + length (writes rest.plans) ≡ at + length cells
  pub later : at ≤ next
  pub masks : Same last ms ms₁
  pub column : Same last hs hs₁

pub going_start : {t ss ms hs kept out : List ℕ} {first last k named i at : ℕ} (q : ToWriteAll t ss ms hs kept out first last k named i at)
    → Going t ss kept ms hs out last k named i at (writes q.plans) ms hs out first at
going_start {ms = ms} {hs} {last = last} q =
    record { rest = q; out-is = refl; next-is = refl; later = omega arith; masks = same_self last ms; column = same_self last hs }

-- the next branch: the state below it, and what is left once that is written
pub record Branch (t ss kept ms hs out : List ℕ) (last k named i at : ℕ) (cells ms₁ hs₁ out₁ : List ℕ) (row next n c a below-named : ℕ) : Type 0 where
  pub some : 0 < n
  pub few : row + n ≤ last
  pub room : next < most_plan_cells
  pub below : ToWrite t ss ms₁ hs₁ kept (set out₁ next c) row (row + n) (a + k) below-named (next + 1)
  pub on : (ms₂ hs₂ out₂ : List ℕ) (m : ℕ) → Written ms₁ hs₁ (set out₁ next c) ms₂ hs₂ out₂ (write below.plan) (row + n) (next + 1) m
      → Going t ss kept ms hs out last k named i at cells ms₂ hs₂ out₂ (row + n) m

module _ {t ss kept ms hs out : List ℕ} {last k named i at : ℕ} {cells ms₁ hs₁ out₁ : List ℕ} {row next : ℕ}
    (g : Going t ss kept ms hs out last k named i at cells ms₁ hs₁ out₁ row next) where
  pub going_done : last ≤ row → Written ms hs out ms₁ hs₁ out₁ cells last at next
  going_done h =
      let e : row ≡ last = omega (arith, g.rest.order) in
      let z : runs_in t ss ms₁ hs₁ row last ≡ [] = rw (e, column-none hs₁ last) in
      let w : writes g.rest.plans ≡ [] = no-plan g.rest.plans z in
      record {
        next-is = omega (arith, g.next-is, ap length w);
        out-is = ap (λ (xs : List ℕ). sets out₁ next xs) (sym w) ∙ g.out-is;
        masks = g.masks;
        column = g.column;
      }

  module _ (n c : ℕ) (h : row < last) (ec : c ≡ get_or hs₁ row 0) (en : n ≡ run_length (column_in hs₁ row last)) where
    abbrev here : Run
    here = run c (rows_in t ss ms₁ row (row + n))

    abbrev others : List Run
    others = runs_in t ss ms₁ hs₁ (row + n) last

    first_run : FirstRun t ss ms₁ hs₁ row last n
    first_run = run-first t ss ms₁ hs₁ row last n h (omega (arith, g.rest.room.column, g.rest.few)) en

    runs-are : runs_in t ss ms₁ hs₁ row last ≡ here ∷ others
    runs-are = rw ec first_run.runs

    -- the flags of the state whose branches these are
    abbrev fs-here : List Bool
    fs-here = flags_in (suc k) named

    plan : NextPlan kept fs-here row i k here others (writes g.rest.plans)
    plan = next-plan kept fs-here row i g.rest.plans here others runs-are g.rest.follows

    each : All (λ (r : Run). All (Fits 32 (arity r.cell + k)) r.rows) (here ∷ others)
    each = rw runs-are at g.rest.each

    args-few : arity c < 5
    args-few = omega (arith, arity-small c)

    state-below : ToWrite t ss ms₁ hs₁ kept (set out₁ next c) row (row + n) (arity c + k) (spread_of named i (arity c)) (next + 1)
    state-below = record {
      room = record {
        masks = g.rest.room.masks;
        column = g.rest.room.column;
        pairs = g.rest.room.pairs;
        cells = length-set out₁ next c ∙ g.rest.room.cells;
      };
      some = omega (arith, first_run.some);
      few = omega (arith, first_run.few, g.rest.few);
      rows = each.0;
      flags = few-below named i (arity c) k g.rest.flags g.rest.many g.rest.place args-few;
      plan = plan.plan;
      follows = rw (flags-below named i (arity c) k g.rest.flags g.rest.many g.rest.place args-few) plan.follows;
      fits = omega (arith, g.rest.fits, ap length plan.cells_are, length-append (write plan.plan) (writes plan.plans));
    }

    -- what is left once the state below is written
    left_over : {ms₂ hs₂ out₂ : List ℕ} {m : ℕ} → Written ms₁ hs₁ (set out₁ next c) ms₂ hs₂ out₂ (write plan.plan) (row + n) (next + 1) m
        → (r : ToWriteAll t ss ms₂ hs₂ kept out₂ (row + n) last k named i m) × (writes r.plans ≡ writes plan.plans)
    left_over {ms₂} {hs₂} {out₂} {m} x =
        let same : others ≡ runs_in t ss ms₂ hs₂ (row + n) last =
        rw (x.column.after, rows-kept t ss ms₁ ms₂ (last - (row + n)) (row + n) x.masks.after) in
        let many : length (rows_in t ss ms₁ row (row + n)) ≡ n = rows-length t ss ms₁ (row + n - row) row ∙ omega arith in
        let y = same-plans kept fs-here (row + n) i same plan.plans (rw many at plan.all-follow) in
        let size : length out₂ ≡ most_plan_cells =
        ap length x.out-is ∙ length-sets (set out₁ next c) (next + 1) (write plan.plan)
        ∙ length-set out₁ next c ∙ g.rest.room.cells in
        let w = length-append (write plan.plan) (writes plan.plans) in (
          record {
            room = record {
              masks = x.masks.size ∙ g.rest.room.masks;
              column = x.column.size ∙ g.rest.room.column;
              pairs = g.rest.room.pairs;
              cells = size;
            };
            order = first_run.few;
            few = g.rest.few;
            each = rw (← same) each.1;
            place = g.rest.place;
            flags = g.rest.flags;
            many = g.rest.many;
            plans = y.0;
            follows = y.1;
            fits = omega (arith, g.rest.fits, x.next-is, ap length plan.cells_are, ap length y.2);
          },
          y.2,
        )

    go_on : {ms₂ hs₂ out₂ : List ℕ} {m : ℕ} → Written ms₁ hs₁ (set out₁ next c) ms₂ hs₂ out₂ (write plan.plan) (row + n) (next + 1) m
        → Going t ss kept ms hs out last k named i at cells ms₂ hs₂ out₂ (row + n) m
    go_on {ms₂} {hs₂} {out₂} {m} x =
        let y = left_over x in
        let w = length-append (write plan.plan) (writes plan.plans) in
        record {
          rest = y.0;
          out-is = rw y.1 (three-cells out₁ out₂ (write plan.plan) (writes plan.plans) (writes g.rest.plans) next m c
              x.out-is x.next-is plan.cells_are ∙ g.out-is);
          next-is = omega (arith, g.next-is, x.next-is, ap length plan.cells_are, ap length y.1);
          later = omega (arith, g.later, x.next-is);
          masks = same_then last g.masks (same-later (row + n) last first_run.few x.masks);
          column = same_then last g.column (same-later (row + n) last first_run.few x.column);
        }

    pub branch : (a m : ℕ) → a ≡ arity c → m ≡ spread_of named i a
        → Branch t ss kept ms hs out last k named i at cells ms₁ hs₁ out₁ row next n c a m
    unfolding state-below
    branch a m ea em = rw (em, ea) (record {
      some = first_run.some;
      few = first_run.few;
      room = omega (arith, g.rest.fits, ap length plan.cells_are);
      below = state-below;
      on = λ ms₂ hs₂ out₂ m x. go_on x;
    })

-- a column has no more runs than cells
breaks-few : (c : ℕ) (cs : List ℕ) → breaks c cs ≤ length cs
unfolding breaks
breaks-few c [] = omega arith
breaks-few c (d ∷ cs) = go (breaks-few d cs) (agree c d)
  where
    go : breaks d cs ≤ length cs → (b : Bool) → cond b (breaks d cs) (suc (breaks d cs)) ≤ suc (length cs)
    go ih true = omega arith
    go ih false = omega arith

pub count-few : (cs : List ℕ) → run_count cs ≤ length cs
count-few [] = omega arith
count-few (c ∷ cs) = omega (arith, breaks-few c cs)
