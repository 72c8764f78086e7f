-- What later meetings of variables cost (02, W-209, "a later meeting costs 1 in W-204"): the same for every plan of the rows. So a plan is
-- least by its cost where it is least by what its cells weigh.
use Prim.Native.Nat.{ℕ, zero, suc, ◌+◌, ◌-◌, ◌*◌, ◌≤◌, ◌<◌}
use mathlib.Core.Path.{◌≡◌, refl, sym, ◌∙◌, ap, ap₂}
use mathlib.Core.Logic.{◌≢◌, ⊎_elim, by_cases}
use mathlib.Core.Bool.{Bool, true, false, cond, ◌&&◌, true≢false}
use mathlib.Core.List.{List, [], ◌∷◌, ◌++◌, map}
use native.Mathlib.Omega.{arith}
use native.Mathlib.Decide.{ℕ_discrete}
use native.Mathlib.Nat.{mul-zero, suc-mul}
use lib.Dec.{eqb, leb, ltb}
use lib.ListN.{length, length-map}
use borrow.Author.Tests.{eq-eqb, ne_eqb, lt-ltb}
use Rattle.cell.specs.Cell.{arity, is_var}
use Rattle.term.specs.Terms.{Terms, more, root, close}
use Rattle.term.proofs.Tests.{bool_cases}
use Rattle.term.proofs.TermsLaws.{zero-nil}
use Rattle.term.proofs.PlaceLaws.{close-terms}
use Rattle.table.specs.All.{All}
use Rattle.table.specs.Table.{count}
use Rattle.table.proofs.AllLaws.{all_map, all_both}
use Rattle.plan.specs.Runs.{Run, agree, join_if, join, runs}
use Rattle.plan.specs.Plans.{Plan, leaf, node, Branches, end, next, branches, branches_in, Measure, plain, cost, costs}
use Rattle.plan.proofs.RunsLaws.{Each, agree-eq, group-all}
use Rattle.plan.proofs.TwiceLaws.{Lone, runs-lone}
use Rattle.least.specs.Entries.{Closes, stop, step}
use Rattle.least.specs.Measures.{weight_at, cost_from, costs_from}
use Rattle.least.specs.code.Low.{Light}
use Rattle.least.specs.Later.{later_at, later_in, laters_in}

-- which variables are met decides, and not how often
pub record Alike (met met' : List ℕ) : Type 0 where
  pub same : (v : ℕ) → is_var v ≡ true → ltb 0 (count v met) ≡ ltb 0 (count v met')

alike-cons : {met met' : List ℕ} (c : ℕ) → Alike met met' → Alike (c ∷ met) (c ∷ met')
unfolding count
alike-cons {met} {met'} c A = record {
  same = λ v h.
      by_cases (ℕ_discrete v c)
      (λ e. rw (eq-eqb v c e) (here (count v met) ∙ sym (here (count v met'))))
      (λ d. rw (ne_eqb v c d) (there (count v met) ∙ A.same v h ∙ sym (there (count v met'))));
}
  where
    here : (n : ℕ) → ltb 0 (1 + n) ≡ true
    here n = lt-ltb 0 (1 + n) (omega arith)

    there : (n : ℕ) → ltb 0 (0 + n) ≡ ltb 0 n
    there n = let e : 0 + n ≡ n = omega arith in rw e

alike-turn : (a c : ℕ) (met : List ℕ) → Alike (a ∷ (c ∷ met)) (c ∷ (a ∷ met))
unfolding count
alike-turn a c met = record {
  same = λ v h.
      let e : cond (eqb v a) 1 0 + (cond (eqb v c) 1 0 + count v met) ≡ cond (eqb v c) 1 0 + (cond (eqb v a) 1 0 + count v met) = omega arith in
      ap (ltb 0) e;
}

module _ (m : Measure) where
  later-alike : {met met' : List ℕ} (xs : List ℕ) → Alike met met' → later_in m met xs ≡ later_in m met' xs
  unfolding later_in
  later-alike [] A = refl
  later-alike (c ∷ xs) A = ap₂ ◌+◌ (⊎_elim (λ h. rw (h, A.same c h)) (λ h. rw h) (bool_cases (is_var c))) (later-alike xs (alike-cons c A))

  later-other : (c d : ℕ) (met : List ℕ) → d ≢ c → later_at m (c ∷ met) d ≡ later_at m met d
  unfolding count
  later-other c d met h = let e : 0 + count d met ≡ count d met = omega arith in rw (ne_eqb d c h, e)

  later-turn : (c d : ℕ) (met : List ℕ) → later_at m met c + later_at m (c ∷ met) d ≡ later_at m met d + later_at m (d ∷ met) c
  later-turn c d met =
      by_cases (ℕ_discrete c d)
      (λ e. rw e)
      (λ n. let a = later-other c d met (λ e. n (sym e)) in let b = later-other d c met n in omega (arith, a, b))

  -- a cell taken out of a row at a place
  place-later : (i k : ℕ) (x met : List ℕ) → Terms (suc k) x → i ≤ k
      → later_in m met x ≡ later_at m met (root i x) + later_in m (root i x ∷ met) (close i x)
  unfolding later_in root close
  place-later zero k (c ∷ xs) met t h = refl
  place-later (suc i) zero (c ∷ xs) met t h = absurd (let z : ⊥ = omega arith in z)
  place-later (suc i) (suc k) (c ∷ xs) met (more t) h =
      let q : arity c + suc k ≡ suc (arity c + k) = omega arith in
      let d = root (arity c + i) xs in
      let y = close (arity c + i) xs in
      let ih = place-later (arity c + i) (arity c + k) xs (c ∷ met) (rw q at t) (omega arith) in
      let e = later-alike y (alike-turn d c met) in
      let o = later-turn c d met in
      omega (arith, ih, e, o)
  place-later zero k [] met t h = elim t [ ]
  place-later (suc i) zero [] met t h = elim t [ ]
  place-later (suc i) (suc k) [] met t h = elim t [ ]

  -- what a run's rows have later, with the run's cell for each
  abbrev in_run : List ℕ → Run → ℕ
  in_run met g = length g.rows * later_at m met g.cell + laters_in m (g.cell ∷ met) g.rows

  abbrev in_runs : List ℕ → List Run → ℕ
  in_runs met [] = 0
  in_runs met (g ∷ gs) = in_run met g + in_runs met gs

  join-later : (met : List ℕ) (c : ℕ) (r : List ℕ) (gs : List Run)
      → in_runs met (join c r gs) ≡ later_at m met c + later_in m (c ∷ met) r + in_runs met gs
  join-later met c r [] = omega arith
  join-later met c r (g ∷ gs) = go (agree c g.cell) refl
    where
      go : (b : Bool) → agree c g.cell ≡ b → in_runs met (join_if b c r g gs) ≡ later_at m met c + later_in m (c ∷ met) r + in_runs met (g ∷ gs)
      go true e = let q = agree-eq c g.cell e in rw q (omega (arith, suc-mul (length g.rows) (later_at m met g.cell)))
      go false e = omega arith

  runs-later : (i k : ℕ) (met : List ℕ) → i ≤ k → (rows : List (List ℕ)) → All (Terms (suc k)) rows → in_runs met (runs i rows) ≡ laters_in m met rows
  runs-later i k met h [] t = refl
  runs-later i k met h (r ∷ rs) t =
      join-later met (root i r) (close i r) (runs i rs) ∙ omega (arith, place-later i k r met t.0 h, runs-later i k met h rs t.1)

  -- a row with nothing open has nothing later
  pub none-later : (rows : List (List ℕ)) (met : List ℕ) → All (Terms 0) rows → laters_in m met rows ≡ 0
  unfolding later_in
  none-later [] met t = refl
  none-later (r ∷ rs) met t = let e : later_in m met r ≡ 0 = rw (zero-nil t.0) in omega (arith, e, none-later rs met t.1)

-- the rows of a state's runs are terms
pub runs-terms : (i k : ℕ) → i ≤ k → (rows : List (List ℕ)) → All (Terms (suc k)) rows → Each (λ (c : ℕ). Terms (arity c + k)) (runs i rows)
runs-terms i k h rows t = group-all (root i) (close i) (Terms (suc k)) (λ (c : ℕ). Terms (arity c + k)) (λ r u. close-terms i u h) rows t

module _ {m : Measure} (light : Light m) where
  -- a cell's weight, and what it costs beyond that
  pub weight-later : (met : List ℕ) (c : ℕ) → weight_at m met c ≡ m.weight c + later_at m met c
  weight-later met c = go (is_var c) (ltb 0 (count c met)) (light.variable c)
    where
      go : (v b : Bool) → (v ≡ true → m.weight c ≤ 1) → cond (v && b) 1 (m.weight c) ≡ m.weight c + cond (v && b) (1 - m.weight c) 0
      go true true h = let x = h refl in omega (arith, x)
      go true false h = omega arith
      go false b h = omega arith

  -- the same in a run's rows, of which a variable's run has one
  run-later : (met : List ℕ) (c n : ℕ) → (is_var c ≡ true → n ≡ 1) → weight_at m met c ≡ m.weight c + n * later_at m met c
  run-later met c n h = weight-later met c ∙ ap (λ (x : ℕ). m.weight c + x) (go (is_var c) h)
    where
      go : (v : Bool) → (v ≡ true → n ≡ 1)
          → cond (v && ltb 0 (count c met)) (1 - m.weight c) 0 ≡ n * cond (v && ltb 0 (count c met)) (1 - m.weight c) 0
      go true h = let x = h refl in rw x (omega arith)
      go false h = sym (mul-zero n)

  mutual
    unfolding cost_from cost

    -- THE LAW: a plan's cost is what its cells weigh, and what the rows' later meetings cost beyond that
    pub cost-from : {k : ℕ} {rows : List (List ℕ)} (p : Plan k rows) (met : List ℕ) → All (Terms k) rows
        → cost_from m met p ≡ cost m p + laters_in m met rows
    cost-from (leaf {rows}) met t = omega (arith, none-later m rows met t)
    cost-from (node {k} {rows} i h bs) met t =
        let e = runs-later m i k met h rows t in
        let c = costs-from bs met (runs-lone i rows) (runs-terms i k h rows t) in
        omega (arith, c, e)

    costs-from : {k : ℕ} {gs : List Run} (bs : Branches k gs) (met : List ℕ) → Lone gs → Each (λ (c : ℕ). Terms (arity c + k)) gs
        → costs_from m met bs ≡ costs m bs + in_runs m met gs
    costs-from end met l t = omega arith
    costs-from (next {k} {g} {gs} p bs) met l t =
        let a = cost-from p (g.cell ∷ met) t.0 in
        let b = costs-from bs met l.1 t.1 in
        let c = run-later met g.cell (length g.rows) l.0 in
        omega (arith, a, b, c)

either_way : (b : Bool) (n : ℕ) → cond b n n ≡ n
either_way true n = refl
either_way false n = refl

mutual
  unfolding cost_from branches

  -- by 01's measure a later meeting costs what every branch does, and a plan's cost is its number of branches
  pub from-plain : {k : ℕ} {rows : List (List ℕ)} (p : Plan k rows) (met : List ℕ) → cost_from plain met p ≡ branches p
  from-plain leaf met = refl
  from-plain (node {rows = rows} i h bs) met = omega (arith, either_way (leb 2 (length (runs i rows))) 0, all_plain bs met)

  all_plain : {k : ℕ} {gs : List Run} (bs : Branches k gs) (met : List ℕ) → costs_from plain met bs ≡ branches_in bs
  all_plain end met = refl
  all_plain (next {g = g} p bs) met =
      omega (arith, either_way (is_var g.cell && ltb 0 (count g.cell met)) 1, from-plain p (g.cell ∷ met), all_plain bs met)

-- of two lists of rows
pub laters-both : (m : Measure) (met : List ℕ) (xs ys : List (List ℕ)) → laters_in m met (xs ++ ys) ≡ laters_in m met xs + laters_in m met ys
laters-both m met [] ys = omega arith
laters-both m met (x ∷ xs) ys = omega (arith, laters-both m met xs ys)

module _ (m : Measure) where
  -- a name or a number that is met changes nothing
  symbol-later : (c : ℕ) (xs : List ℕ) → is_var c ≡ false → later_in m (c ∷ []) xs ≡ later_in m [] xs
  unfolding count
  symbol-later c xs f = later-alike m xs (record { same = λ v h. rw (ne_eqb v c (λ q. true≢false (sym h ∙ ap is_var q ∙ f))) refl })

  -- nor does one that several rows agree on
  agreed-later : (i c k : ℕ) (rows : List (List ℕ)) → i ≤ k → is_var c ≡ false → All (λ (r : List ℕ). root i r ≡ c) rows → All (Terms (suc k)) rows
      → laters_in m [] (map (close i) rows) ≡ laters_in m [] rows
  agreed-later i c k [] h f a t = refl
  agreed-later i c k (r ∷ rs) h f a t =
      let e = rw a.0 at (place-later m i k r [] t.0 h) in
      let z : later_at m [] c ≡ 0 = rw f in
      omega (arith, e, z, symbol-later c (close i r) f, agreed-later i c k rs h f a.1 t.1)

  pub closes-later : {fs fs' : List Bool} {k k' : ℕ} {rows rows' : List (List ℕ)} → Closes fs k rows fs' k' rows' → 1 < length rows → All (Terms k) rows
      → laters_in m [] rows' ≡ laters_in m [] rows
  closes-later stop l t = refl
  closes-later (step {others = k} {rows = rows} i c h a y x) l t =
      closes-later x (omega (arith, length-map rows (close i)))
      (all_map (λ (r : List ℕ). Terms (suc k) r × (root i r ≡ c)) (Terms (arity c + k)) (close i) (λ r u. rw u.1 at (close-terms i u.0 h)) rows
      (all_both (Terms (suc k)) (λ (r : List ℕ). root i r ≡ c) rows t a.cells))
      ∙ agreed-later i c k rows h (⊎_elim (λ f. f) (λ s. absurd (let z : ⊥ = omega arith in z)) a.fixed) a.cells t
