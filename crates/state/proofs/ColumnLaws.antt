-- A column of cells: what the loops over it count, and that its runs are the runs of the rows.
use mathlib.Core.Path.{◌≡◌, refl, sym, ap, ◌∙◌}
use mathlib.Core.Logic.{◌≢◌, ⊎_elim}
use mathlib.Core.Bool.{true, false}
use mathlib.Core.List.{List, [], ◌∷◌, map}
use Prim.Native.Nat.{ℕ, suc, ◌+◌, ◌-◌, ◌≤◌, ◌<◌}
use native.Mathlib.Omega.{arith}
use lib.ListN.{length, get_or, take, drop, drop_of_length-le}
use lib.Seq.{drop-cons}
use borrow.Author.Tests.{eq-eqb, ne_eqb}
use Rattle.cell.specs.Cell.{kind_of, is_var}
use Rattle.term.proofs.Tests.{bool_cases}
use Rattle.plan.specs.Runs.{Run, run, agree, join, group}
use Rattle.state.specs.Column.{follow, run_length, breaks, run_count, runs_on}
use Rattle.plan.proofs.RunsLaws.{agree-eq}

-- Two cells, by the tests of the code.
module _ (c d : ℕ) where
  pub agree-other : c ≢ d → agree c d ≡ false
  unfolding agree
  agree-other h = rw (ne_eqb c d h)

  pub agree-variable : c ≡ d → kind_of c ≡ 0 → agree c d ≡ false
  unfolding agree is_var
  agree-variable e k = rw (eq-eqb c d e, eq-eqb (kind_of c) 0 k)

  pub agree-symbol : c ≡ d → kind_of c ≢ 0 → agree c d ≡ true
  unfolding agree is_var
  agree-symbol e k = rw (eq-eqb c d e, ne_eqb (kind_of c) 0 k)

-- The loops: n cells are passed, and the last of them is at n - 1.
module _ (cs : List ℕ) (n : ℕ) where
  pub follow-all : length cs ≤ n → follow (get_or cs (n - 1) 0) (drop n cs) ≡ 0
  unfolding follow
  follow-all h = rw (drop_of_length-le cs h)

  pub follow-break : n < length cs → agree (get_or cs (n - 1) 0) (get_or cs n 0) ≡ false → follow (get_or cs (n - 1) 0) (drop n cs) ≡ 0
  unfolding follow
  follow-break h e = rw (drop-cons cs n 0 h, e)

  pub follow-more : n < length cs → agree (get_or cs (n - 1) 0) (get_or cs n 0) ≡ true
      → follow (get_or cs (n - 1) 0) (drop n cs) ≡ suc (follow (get_or cs (n + 1 - 1) 0) (drop (n + 1) cs))
  unfolding follow
  follow-more h e =
      let p : n + 1 ≡ suc n = omega arith in
      let q : n + 1 - 1 ≡ n = omega arith in
      rw (drop-cons cs n 0 h, e, q, p)

  pub breaks-all : length cs ≤ n → breaks (get_or cs (n - 1) 0) (drop n cs) ≡ 0
  unfolding breaks
  breaks-all h = rw (drop_of_length-le cs h)

  pub breaks-none : n < length cs → agree (get_or cs (n - 1) 0) (get_or cs n 0) ≡ true
      → breaks (get_or cs (n - 1) 0) (drop n cs) ≡ breaks (get_or cs (n + 1 - 1) 0) (drop (n + 1) cs)
  unfolding breaks
  breaks-none h e =
      let p : n + 1 ≡ suc n = omega arith in
      let q : n + 1 - 1 ≡ n = omega arith in
      rw (drop-cons cs n 0 h, e, q, p)

  pub breaks-one : n < length cs → agree (get_or cs (n - 1) 0) (get_or cs n 0) ≡ false
      → breaks (get_or cs (n - 1) 0) (drop n cs) ≡ suc (breaks (get_or cs (n + 1 - 1) 0) (drop (n + 1) cs))
  unfolding breaks
  breaks-one h e =
      let p : n + 1 ≡ suc n = omega arith in
      let q : n + 1 - 1 ≡ n = omega arith in
      rw (drop-cons cs n 0 h, e, q, p)

pub length_none : (cs : List ℕ) → length cs ≡ 0 → run_length cs ≡ 0
length_none [] h = refl
length_none (c ∷ cs) h = absurd (omega arith)

pub count_none : (cs : List ℕ) → length cs ≡ 0 → run_count cs ≡ 0
count_none [] h = refl
count_none (c ∷ cs) h = absurd (omega arith)

pub length-first : (cs : List ℕ) → 0 < length cs → 1 + follow (get_or cs 0 0) (drop 1 cs) ≡ run_length cs
length-first [] h = absurd (omega arith)
length-first (c ∷ cs) h = omega arith

pub count-first : (cs : List ℕ) → 0 < length cs → 1 + breaks (get_or cs 0 0) (drop 1 cs) ≡ run_count cs
count-first [] h = absurd (omega arith)
count-first (c ∷ cs) h = omega arith

-- a run has no more rows than there are
pub run-few : (c : ℕ) (cs : List ℕ) → run_length (c ∷ cs) ≤ length (c ∷ cs)
unfolding follow
run-few c [] = omega arith
run-few c (d ∷ cs) =
    ⊎_elim (λ (e : agree c d ≡ true). rw e (omega (arith, run-few d cs))) (λ (e : agree c d ≡ false). rw e (omega arith)) (bool_cases (agree c d))

-- The runs of rows are those of the column of their cells.
pub group-on : (cell : List ℕ → ℕ) (left : List ℕ → List ℕ) (rows : List (List ℕ)) → group cell left rows ≡ runs_on (map cell rows) (map left rows)
group-on cell left [] = refl
group-on cell left (r ∷ rows) = ap (join (cell r) (left r)) (group-on cell left rows)

-- the first run, and the runs after it
pub first_run : (c : ℕ) (cs : List ℕ) (rows : List (List ℕ)) → length (c ∷ cs) ≡ length rows
    → runs_on (c ∷ cs) rows ≡ run c (take (run_length (c ∷ cs)) rows) ∷ runs_on (drop (run_length (c ∷ cs)) (c ∷ cs)) (drop (run_length (c ∷ cs)) rows)
unfolding follow
first_run c cs [] h = absurd (omega arith)
first_run c [] (r ∷ []) h = refl
first_run c [] (r ∷ s ∷ rows) h = absurd (omega arith)
first_run c (d ∷ cs) (r ∷ []) h = absurd (omega arith)
first_run c (d ∷ cs) (r ∷ s ∷ rows) h =
    let ih = first_run d cs (s ∷ rows) (omega arith) in
    ⊎_elim
    (λ (e : agree c d ≡ true). let q = agree-eq c d e in rw (ih, e) (rw q))
    (λ (e : agree c d ≡ false). rw (ih, e) (ap (λ (gs : List Run). run c (r ∷ []) ∷ gs) (sym ih)))
    (bool_cases (agree c d))

pub count_runs : (cs : List ℕ) (rows : List (List ℕ)) → length cs ≡ length rows → length (runs_on cs rows) ≡ run_count cs
unfolding breaks
count_runs [] rows h = refl
count_runs (c ∷ cs) [] h = absurd (omega arith)
count_runs (c ∷ []) (r ∷ []) h = refl
count_runs (c ∷ []) (r ∷ s ∷ rows) h = absurd (omega arith)
count_runs (c ∷ d ∷ cs) (r ∷ []) h = absurd (omega arith)
count_runs (c ∷ d ∷ cs) (r ∷ s ∷ rows) h =
    let ih = count_runs (d ∷ cs) (s ∷ rows) (omega arith) in
    let f = first_run d cs (s ∷ rows) (omega arith) in
    ⊎_elim
    (λ (e : agree c d ≡ true). rw (f, e) (ap length (sym f) ∙ ih))
    (λ (e : agree c d ≡ false). rw (f, e) (ap suc (ap length (sym f) ∙ ih)))
    (bool_cases (agree c d))
