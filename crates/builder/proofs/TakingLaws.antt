-- Agreed places, taken one after another: each is a state with one branch, and the same rows are below it with the place closed.
use mathlib.Core.Path.{◌≡◌, refl, sym, ap, subst, ◌∙◌}
use mathlib.Core.Bool.{Bool, true, false, ◌&&◌}
use mathlib.Core.List.{List, [], ◌∷◌, map, append-nil}
use Prim.Native.Nat.{ℕ, suc, ◌+◌, ◌-◌, ◌^◌, ◌≤◌, ◌<◌}
use native.Mathlib.Omega.{arith}
use lib.Dec.{eqb}
use lib.ListN.{length, get_or, set, drop, length-set}
use lib.Seq.{sets}
use borrow.Author.Tests.{eqb-true}
use Rattle.cell.specs.Cell.{arity}
use Rattle.cell.proofs.CellLaws.{arity-small}
use Rattle.term.specs.Terms.{root, close}
use Rattle.term.proofs.PlaceLaws.{root_before}
use Rattle.table.specs.All.{All}
use Rattle.plan.specs.Runs.{run, runs}
use Rattle.plan.specs.Plans.{write, writes}
use Rattle.plan.specs.Named.{may, freely, spread}
use Rattle.plan.specs.code.Fits.{Fits}
use Rattle.plan.proofs.NamedLaws.{none_named, is-may}
use Rattle.plan.proofs.RunsLaws.{fits_more, runs_fit}
use Rattle.state.specs.Column.{run_count}
use Rattle.state.specs.Flags.{flags_in, spread_of}
use Rattle.state.specs.Mask.{kept}
use Rattle.state.specs.States.{row_at, rows_in, Same}
use Rattle.state.proofs.FlagsLaws.{any-bit, flags-below, few-below}
use Rattle.state.proofs.RowsLaws.{rows-first, same_self, same_then}
use Rattle.least.specs.code.Follow.{agreed_from, taken}
use Rattle.least.proofs.Agreed.{one-agrees, agree-runs}
use Rattle.builder.specs.code.Writing.{ToWrite, Written}
use Rattle.builder.specs.code.Ahead.{AheadIn, Again, onward, anew, Taking}
use Rattle.builder.proofs.AheadLaws.{ahead_none, ahead-root}
use Rattle.builder.proofs.ChooseLaws.{column-count, takes, not-agreed, found-takes, found_before, passed_over, taken-agreed, few-open}
use Rattle.builder.proofs.WritingLaws.{Below, node-cells, NextPlan, next-plan, no-plan}

-- A state's own three cells where all rows agree, and those of the state below.
three-first : (l xs cells : List ℕ) (at i c : ℕ) → cells ≡ i ∷ (1 ∷ (c ∷ xs))
    → sets (set (set (set l at i) (at + 1) 1) (at + 2) c) (at + 3) xs ≡ sets l at cells
three-first l xs cells at i c e =
    let p : at + 1 ≡ suc at = omega arith in
    let q : at + 2 ≡ suc (suc at) = omega arith in
    let s : at + 3 ≡ suc (suc (suc at)) = omega arith in
    rw (e, p, q, s)

first_cell : (i c : ℕ) {rows rs : List (List ℕ)} {r : List ℕ} → rows ≡ r ∷ rs → All (λ (x : List ℕ). root i x ≡ c) rows → root i r ≡ c
first_cell i c e a = (rw e at a).0

both : (a b : Bool) → (a && b) ≡ true → b ≡ true
both true b e = e
both false b e = let z : ◌≡◌ {A = Bool} false true = e in cc

module _ {t ss ms hs kept out : List ℕ} {first last k named at : ℕ} (q : ToWrite t ss ms hs kept out first last k named at) (i : ℕ)
    (i-is : i ≡ agreed_from (flags_in k named) k 0 (rows_in t ss ms first last)) (h : i < k) where
  abbrev rows : List (List ℕ)
  rows = rows_in t ss ms first last

  abbrev fs : List Bool
  fs = flags_in k named

  k-is : k ≡ suc (k - 1)
  k-is = omega arith

  few : k - 1 < 32
  few = omega (arith, few-open t ss ms q.rows q.some)

  one-run : length (runs i rows) ≡ 1
  one-run =
      let f : takes fs rows i ≡ true = rw (← i-is) at (found-takes fs rows k 0 (omega (arith, i-is))) in
      eqb-true _ _ (both (may fs i) (eqb (length (runs i rows)) 1) f)

  below : Below kept fs first (k - 1) i rows (write q.plan)
  below =
      node-cells kept fs first q.plan (k - 1) i k-is q.follows
      (taken-agreed fs rows kept first k i i-is h ∙ ap (λ (m : ℕ). taken kept fs first m rows) k-is)

  -- the state below, its rows having the masks ms₁
  module _ (ms₁ : List ℕ) (c : ℕ) (c-is : c ≡ root i (row_at t ss ms first)) (closed : rows_in t ss ms₁ first last ≡ map (close i) rows)
      (same : Same last ms ms₁) where
    run_is : runs i rows ≡ run c (rows_in t ss ms₁ first last) ∷ []
    run_is =
        let a = one-agrees i rows one-run in
        let e : root i (row_at t ss ms first) ≡ a.0 = first_cell i a.0 (rows-first t ss ms first last q.some) a.1.cells in
        agree-runs i a.0 rows a.1
        ∙ ap (λ (rs : List (List ℕ)). run a.0 rs ∷ []) (sym closed)
        ∙ ap (λ (x : ℕ). run x (rows_in t ss ms₁ first last) ∷ []) (sym e ∙ sym c-is)

    on : NextPlan kept fs first i (k - 1) (run c (rows_in t ss ms₁ first last)) [] (writes below.plans)
    on = next-plan kept fs first i below.plans (run c (rows_in t ss ms₁ first last)) [] run_is below.follows

    cells-on : write q.plan ≡ i ∷ (1 ∷ (c ∷ write on.plan))
    cells-on =
        below.cells_are
        ∙ rw (one-run, on.cells_are, no-plan on.plans refl, append-nil (write on.plan))

    each_fits : All (Fits 32 (arity c + (k - 1))) (rows_in t ss ms₁ first last)
    each_fits =
        (rw run_is at (runs_fit 32 (k - 1) i (omega arith) rows (fits_more 32 (suc (k - 1)) rows (rw k-is at q.rows)))).0

    flags-here : named < 2 ^ suc (k - 1)
    flags-here = subst (λ (m : ℕ). named < 2 ^ m) k-is q.flags

    args-few : arity c < 5
    args-few = omega (arith, arity-small c)

    flags-on : flags_in (arity c + (k - 1)) (spread_of named i (arity c)) ≡ spread i (arity c) fs
    flags-on = rw (← k-is) at (flags-below named i (arity c) (k - 1) flags-here few (omega arith) args-few)

    pub after : ToWrite t ss ms₁ hs kept (set (set (set out at i) (at + 1) 1) (at + 2) c) first last (arity c + (k - 1)) (spread_of named i (arity c)) (at + 3)
    after = record {
      room = record {
        masks = same.size ∙ q.room.masks;
        column = q.room.column;
        pairs = q.room.pairs;
        cells = length-set (set (set out at i) (at + 1) 1) (at + 2) c ∙ length-set (set out at i) (at + 1) 1 ∙ length-set out at i ∙ q.room.cells;
      };
      some = q.some;
      few = q.few;
      rows = each_fits;
      flags = few-below named i (arity c) (k - 1) flags-here few (omega arith) args-few;
      plan = on.plan;
      follows = rw flags-on on.follows;
      fits = omega (arith, q.fits, ap length cells-on);
    }

    -- with no flag set, the places before i are not to be taken below either
    after-from : named ≡ 0 → let gs = flags_in (arity c + (k - 1)) (spread_of named i (arity c)) in let rs = rows_in t ss ms₁ first last in
        agreed_from gs (arity c + (k - 1)) 0 rs ≡ agreed_from gs (arity c + (k - 1) - i) i rs
    after-from z =
        let n : i + (arity c + (k - 1) - i) ≡ arity c + (k - 1) = omega arith in
        let o : 0 + i ≡ i = omega arith in
        rw (n, o) at (passed_over (flags_in (arity c + (k - 1)) (spread_of named i (arity c))) (rows_in t ss ms₁ first last) i (arity c + (k - 1) - i) 0
        (λ j a b. not-agreed (flags_in (arity c + (k - 1)) (spread_of named i (arity c))) (rows_in t ss ms₁ first last) j (others j (omega arith))))
      where
        free : (j : ℕ) → may fs j ≡ true
        free j = is-may fs j (freely (none_named fs (any-bit k named q.flags ∙ rw z)))

        columns : (j : ℕ) → j < i → (rs : List (List ℕ)) → map (root j) (map (close i) rs) ≡ map (root j) rs
        columns j l [] = refl
        columns j l (r ∷ rs) =
            let e : i ≡ suc (i - 1) = omega arith in
            let b : root j (close i r) ≡ root j r = rw (← e) at (root_before j (i - 1) r (omega arith)) in
            rw (b, columns j l rs)

        others : (j : ℕ) → j < i → eqb (run_count (map (root j) (rows_in t ss ms₁ first last))) 1 ≡ false
        others j l =
            let f : takes fs rows j ≡ false = found_before fs rows k 0 j (omega arith) (omega (arith, i-is)) in
            rw (closed, columns j l rows, ← (column-count j rows)) (rw (free j) at f)

-- THE LOOP.
pub taking-start : {t ss kept ms hs out : List ℕ} {first last at k named : ℕ} (q : ToWrite t ss ms hs kept out first last k named at)
    → Taking t ss kept ms hs out first last at (write q.plan) ms out k named at
taking-start {ms = ms} {last = last} q = record { rest = q; out-is = refl; next-is = refl; later = omega arith; masks = same_self last ms }

module _ {t ss kept ms hs out : List ℕ} {first last at : ℕ} {cells ms₁ out₁ : List ℕ} {k named next : ℕ}
    (g : Taking t ss kept ms hs out first last at cells ms₁ out₁ k named next) where
  pub taking-next : (i : ℕ) → i ≡ agreed_from (flags_in k named) k 0 (rows_in t ss ms₁ first last) → i < k → (ms₂ : List ℕ) (c a n : ℕ)
      → c ≡ root i (row_at t ss ms₁ first) → rows_in t ss ms₂ first last ≡ map (close i) (rows_in t ss ms₁ first last) → Same last ms₁ ms₂
      → a ≡ arity c → n ≡ spread_of named i a
      → Taking t ss kept ms hs out first last at cells ms₂ (set (set (set out₁ next i) (next + 1) 1) (next + 2) c) (a + (k - 1)) n (next + 3)
  unfolding after
  taking-next i e h ms₂ c a n c-is closed same a-is n-is =
      let cs = cells-on g.rest i e h ms₂ c c-is closed same in
      let f = after g.rest i e h ms₂ c c-is closed same in
      rw (n-is, a-is) (record {
        rest = f;
        out-is = three-first out₁ (write f.plan) (write g.rest.plan) next i c cs ∙ g.out-is;
        next-is = omega (arith, g.next-is, ap length cs);
        later = omega (arith, g.later);
        masks = same_then last g.masks same;
      })

  -- with no flag set, the places before it are not to be taken below either
  pub taking-from : (i : ℕ) → i ≡ agreed_from (flags_in k named) k 0 (rows_in t ss ms₁ first last) → i < k → (ms₂ : List ℕ) (c a n : ℕ)
      → c ≡ root i (row_at t ss ms₁ first) → rows_in t ss ms₂ first last ≡ map (close i) (rows_in t ss ms₁ first last) → Same last ms₁ ms₂
      → a ≡ arity c → n ≡ spread_of named i a → named ≡ 0
      → let gs = flags_in (a + (k - 1)) n in let rs = rows_in t ss ms₂ first last in
      agreed_from gs (a + (k - 1)) 0 rs ≡ agreed_from gs (a + (k - 1) - i) i rs
  taking-from i e h ms₂ c a n c-is closed same a-is n-is z =
      rw (n-is, a-is) (after-from g.rest i e h ms₂ c c-is closed same z)

  -- what the state that is reached writes completes it
  pub taking-done : (ms₂ hs₂ out₂ : List ℕ) (m : ℕ) → Written ms₁ hs out₁ ms₂ hs₂ out₂ (write g.rest.plan) last next m
      → Written ms hs out ms₂ hs₂ out₂ cells last at m
  taking-done ms₂ hs₂ out₂ m w = record {
    next-is = w.next-is ∙ g.next-is;
    out-is = w.out-is ∙ g.out-is;
    masks = same_then last g.masks w.masks;
    column = w.column;
  }

-- Where to go on looking.
pub ahead-start : (t ss ms : List ℕ) (first end : ℕ) → AheadIn t ss ms ms 0 first end
ahead-start t ss ms first end = record { each = λ r a b. sym (ahead_none (get_or ms r 0) (drop (get_or ss r 0) t)) }

pub cell-ahead : {t ss ms ls : List ℕ} {from first end : ℕ} → AheadIn t ss ms ls from first end → first < end → (i : ℕ) → from ≤ i
    → root (i - from) (row_at t ss ls first) ≡ root i (row_at t ss ms first)
cell-ahead {t} {ss} {ms} {ls} {from} {first} a h i l =
    let xs : List ℕ = drop (get_or ss first 0) t in
    let e : from + (i - from) ≡ i = omega arith in
    ap (λ (m : ℕ). root (i - from) (kept m xs)) (a.each first (omega arith) h) ∙ rw e at (ahead-root from (i - from) (get_or ms first 0) xs)

pub again-ahead : {t ss ms ls ls' : List ℕ} {named i r first end : ℕ} → Again named i ms ls ls' r → AheadIn t ss ms ls i first end
    → AheadIn t ss ms ls' r first end
again-ahead (onward z e) a = rw e a
again-ahead {t} {ss} {ms} {first = first} {end} (anew e) a = rw e (ahead-start t ss ms first end)

pub again-length : {ms ls ls' : List ℕ} {named i r n : ℕ} → Again named i ms ls ls' r → length ms ≡ n → length ls ≡ n → length ls' ≡ n
again-length (onward z e) a b = rw e b
again-length (anew e) a b = rw e a

pub again-from : {ms ls ls' : List ℕ} {named i r : ℕ} (gs : List Bool) (rs : List (List ℕ)) (k : ℕ) → Again named i ms ls ls' r
    → (named ≡ 0 → agreed_from gs k 0 rs ≡ agreed_from gs (k - i) i rs) → agreed_from gs k 0 rs ≡ agreed_from gs (k - r) r rs
again-from gs rs k (onward z e) f = f z
again-from gs rs k (anew e) f = let d : k - 0 ≡ k = omega arith in rw d
