-- Scans of the open places from left to right close every agreed one that may be chosen.
use mathlib.Core.Path.{◌≡◌, refl, sym, ap, ◌∙◌}
use mathlib.Core.Bool.{Bool, true, false, cond, true≢false, ◌||◌}
use mathlib.Core.List.{List, [], ◌∷◌, map}
use Prim.Native.Nat.{ℕ, zero, suc, ◌+◌, ◌≤◌, ◌<◌}
use native.Mathlib.Omega.{arith}
use native.Mathlib.Nat.{zero-add}
use lib.ListN.{length, length-map}
use lib.Dec.{ltb}
use borrow.Author.Tests.{ltb-true, ltb-false}
use Rattle.cell.specs.Cell.{arity}
use Rattle.term.proofs.TermsLaws.{terms-long}
use Rattle.term.specs.Terms.{root, close}
use Rattle.term.proofs.PlaceLaws.{root_before}
use Rattle.table.specs.All.{All}
use Rattle.plan.specs.Runs.{Run, runs}
use Rattle.plan.specs.Plans.{Measure}
use Rattle.plan.specs.Named.{flag, spread, May, inside, freely, any_named}
use Rattle.plan.proofs.NamedLaws.{flag-before, none-spread, none_named, named_none, spread-length}
use Rattle.plan.proofs.RunsLaws.{fits-close, fits_more}
use Rattle.plan.specs.code.Fits.{Fits}
use Rattle.least.specs.Least.{Agree, Stuck}
use Rattle.least.specs.code.Pairs.{Scan, found, plus, one_run, scan, closed}
use Rattle.table.proofs.AllLaws.{all_map, all_both, all-unmap}
use Rattle.least.specs.Entries.{Closes, stop, step}
use Rattle.least.proofs.Closing.{Closing, none-closed, one-closed, closes-then, closes-length}
use Rattle.least.proofs.Agreed.{run-agrees, run_is, no_run}

-- what a scan leaves: no agreed place, or none inside a named column
abbrev pub Left : (every : Bool) → List Bool → ℕ → List (List ℕ) → Type 0
Left every fs k rows = (i c : ℕ) → i < k → Agree i c rows → every || flag i fs ≡ true → ⊥

record ScannedBy (m : Measure) (every : Bool) (fs : List Bool) (k : ℕ) (rows : List (List ℕ)) (s : Scan) : Type 0 where
  pub closes : Closing m s.agreed fs k rows s.named s.opens s.left
  pub none : Left every s.named s.opens s.left

pub record Scanned (m : Measure) (fs : List Bool) (k : ℕ) (rows : List (List ℕ)) (s : Scan) : Type 0 where
  pub closes : Closing m s.agreed fs k rows s.named s.opens s.left
  pub stuck : Stuck s.named s.opens s.left

left-next : (every : Bool) (fs : List Bool) (i : ℕ) (rows : List (List ℕ)) → Left every fs i rows → ((c : ℕ) → Agree i c rows → every || flag i fs ≡ true → ⊥)
    → Left every fs (suc i) rows
left-next every fs i rows s n j c h a y = go (ltb j i) refl
  where
    go : (b : Bool) → ltb j i ≡ b → ⊥
    go true e = s j c (ltb-true j i e) a y
    go false e = let ij : j ≡ i = omega (arith, ltb-false j i e) in n c (rw ij at a) (rw ij at y)

-- closing a place changes nothing left of it
left-close : (every : Bool) (fs : List Bool) (i x : ℕ) (rows : List (List ℕ)) → Left every fs i rows → Left every (spread i x fs) i (map (close i) rows)
left-close every fs zero x rows s j c h a y = absurd (omega arith)
left-close every fs (suc i) x rows s j c h a y = s j c h (record {
  cells = all-unmap (λ (r : List ℕ). root j r ≡ c) (λ (r : List ℕ). root j r ≡ c) (close (suc i))
      (λ (r : List ℕ) (x : root j (close (suc i) r) ≡ c). sym (root_before j i r (omega arith)) ∙ x) rows a.cells;
  fixed = rw (length-map rows (close (suc i))) at a.fixed;
  some = rw (length-map rows (close (suc i))) at a.some;
}) (ap (λ (b : Bool). every || b) (sym (flag-before j i x fs (omega arith))) ∙ y)

-- rows that agree fit below with one cell less
pub fits-agreed : (n k i c : ℕ) (rows : List (List ℕ)) → i ≤ k → Agree i c rows → All (Fits (suc n) (suc k)) rows
    → All (Fits n (arity c + k)) (map (close i) rows)
fits-agreed n k i c rows h a f =
    all_map (λ (r : List ℕ). (root i r ≡ c) × Fits (suc n) (suc k) r) (Fits n (arity c + k)) (close i)
    (λ (r : List ℕ) (x : (root i r ≡ c) × Fits (suc n) (suc k) r). rw x.0 at (fits-close n k i h r x.1))
    rows (all_both (λ (r : List ℕ). root i r ≡ c) (Fits (suc n) (suc k)) rows a.cells f)

-- every agreed place is closed only where no flag stands
abbrev Lets : Bool → List Bool → Type 0
Lets every fs = every ≡ true → (j : ℕ) → flag j fs ≡ false

lets-may : (every : Bool) (fs : List Bool) (i : ℕ) → Lets every fs → every || flag i fs ≡ true → May fs i
lets-may true fs i l e = freely (l refl)
lets-may false fs i l e = inside e

module _ (m : Measure) (every : Bool) where
  abbrev Scans : ℕ → Type 0
  Scans n = (fs : List Bool) (i r : ℕ) (rows : List (List ℕ)) → All (Fits (n + i) (i + r)) rows → 0 < length rows → Lets every fs → Left every fs i rows
      → ScannedBy m every fs (i + r) rows (scan m every n fs i r rows)

  ends : (fs : List Bool) (i : ℕ) (rows : List (List ℕ)) → Left every fs i rows → ScannedBy m every fs (i + 0) rows (found 0 fs i rows)
  ends fs i rows s = let e : i + 0 ≡ i = omega arith in rw e (record { closes = none-closed; none = s })

  scan_step : (n : ℕ) → Scans n → (fs : List Bool) (i r : ℕ) (rows : List (List ℕ)) → All (Fits (suc n + i) (i + suc r)) rows → 0 < length rows
      → Lets every fs → Left every fs i rows → (b : Bool) → every || flag i fs ≡ b → (gs : List Run) → runs i rows ≡ gs
      → ScannedBy m every fs (i + suc r) rows (cond b
      (one_run gs (λ (g : Run). plus (m.weight g.cell) (scan m every n (spread i (arity g.cell) fs) i (arity g.cell + r) g.rows))
      (scan m every n fs (suc i) r rows))
      (scan m every n fs (suc i) r rows))
  scan_step n ih fs i r rows f h l s b eb gs e = by b eb
    where
      e₁ : i + suc r ≡ suc i + r
      e₁ = omega arith

      e₂ : i + suc r ≡ suc (i + r)
      e₂ = omega arith

      open-place : ((c : ℕ) → Agree i c rows → every || flag i fs ≡ true → ⊥) → ScannedBy m every fs (i + suc r) rows (scan m every n fs (suc i) r rows)
      open-place other =
          let e₃ : suc n + i ≡ n + suc i = omega arith in
          rw e₁ (ih fs (suc i) r rows (rw (e₁, e₃) at f) h l (left-next every fs i rows s other))

      closed-place : (g : Run) → runs i rows ≡ g ∷ [] → every || flag i fs ≡ true
          → ScannedBy m every fs (i + suc r) rows (plus (m.weight g.cell)
          (scan m every n (spread i (arity g.cell) fs) i (arity g.cell + r) g.rows))
      closed-place g e y =
          let a = run-agrees i g rows e in
          let q : g.rows ≡ map (close i) rows = ap (λ (g : Run). g.rows) (run_is i g rows e) in
          let e₃ : suc n + i ≡ suc (n + i) = omega arith in
          let e₄ : arity g.cell + (i + r) ≡ i + (arity g.cell + r) = omega arith in
          let f' : All (Fits (n + i) (i + (arity g.cell + r))) (map (close i) rows) =
          rw e₄ at (fits-agreed (n + i) (i + r) i g.cell rows (omega arith) a (rw (e₂, e₃) at f)) in
          let x = ih (spread i (arity g.cell) fs) i (arity g.cell + r) (map (close i) rows) f' (rw (length-map rows (close i)) h)
          (λ v j. none-spread i (arity g.cell) j fs (l v)) (left-close every fs i (arity g.cell) rows s) in
          rw (e₂, q) (record {
            closes = one-closed {k = i + r} i g.cell (omega arith) a (lets-may every fs i l y) (rw (← e₄) at x.closes);
            none = x.none;
          })

      go : (gs : List Run) → runs i rows ≡ gs → every || flag i fs ≡ true
          → ScannedBy m every fs (i + suc r) rows (one_run gs (λ (g : Run). plus (m.weight g.cell)
          (scan m every n (spread i (arity g.cell) fs) i (arity g.cell + r) g.rows)) (scan m every n fs (suc i) r rows))
      go [] e y = open-place (λ c a v. no_run i c rows (λ o. (let z : ◌≡◌ {A = ℕ} 0 1 = sym (ap length e) ∙ o in omega arith)) a)
      go (g ∷ []) e y = closed-place g e y
      go (g ∷ (x ∷ xs)) e y = open-place (λ c a v. no_run i c rows (λ o. (let z : suc (suc (length xs)) ≡ 1 = sym (ap length e) ∙ o in omega arith)) a)

      by : (b : Bool) → every || flag i fs ≡ b
          → ScannedBy m every fs (i + suc r) rows (cond b (one_run gs (λ (g : Run). plus (m.weight g.cell)
          (scan m every n (spread i (arity g.cell) fs) i (arity g.cell + r) g.rows)) (scan m every n fs (suc i) r rows))
          (scan m every n fs (suc i) r rows))
      by true y = go gs e y
      by false y = open-place (λ c a v. true≢false (sym v ∙ y))

  -- a scan closes agreed places that may be chosen, and leaves none that it looks for
  scan-is : (n : ℕ) → Scans n
  unfolding scan
  scan-is zero fs i zero rows f h l s = ends fs i rows s
  scan-is zero fs i (suc r) [] f h l s = absurd (omega arith)
  scan-is zero fs i (suc r) (x ∷ xs) f h l s = absurd (omega (arith, terms-long f.0.0))
  scan-is (suc n) fs i zero rows f h l s = ends fs i rows s
  scan-is (suc n) fs i (suc r) rows f h l s = scan_step n (scan-is n) fs i r rows f h l s (every || flag i fs) refl (runs i rows) refl

  -- of a state with k open places, whose rows have at most n cells
  scan-closes : (n : ℕ) (fs : List Bool) (k : ℕ) (rows : List (List ℕ)) → All (Fits n k) rows → 0 < length rows → Lets every fs
      → ScannedBy m every fs k rows (scan m every n fs 0 k rows)
  scan-closes n fs k rows f h l =
      let e : n + 0 ≡ n = omega arith in
      rw zero-add at (scan-is n fs 0 k rows (rw (e, zero-add k) f) h l (λ i c l. absurd (omega arith)))

-- rows that fit still do when agreed places are closed
pub closes-fit : {fs fs' : List Bool} {k k' : ℕ} {rows rows' : List (List ℕ)} (n : ℕ) → Closes fs k rows fs' k' rows' → All (Fits n k) rows
    → All (Fits n k') rows'
closes-fit n stop f = f
closes-fit n (step {others = k} {rows = rows} i c h a y x) f =
    closes-fit n x
    (fits-agreed n k i c rows h a (fits_more n (suc k) rows f))

-- and there are never more flags than open places
pub closes-flags : {fs fs' : List Bool} {k k' : ℕ} {rows rows' : List (List ℕ)} → Closes fs k rows fs' k' rows' → length fs ≤ k → length fs' ≤ k'
closes-flags stop l = l
closes-flags (step {named = fs} {others = k} i c h a y x) l = closes-flags x (spread-length i (arity c) k fs l h)

-- THE TWO SCANS close every agreed place that may be chosen
pub closed_all : (m : Measure) (n : ℕ) (fs : List Bool) (k : ℕ) (rows : List (List ℕ)) → All (Fits n k) rows → 0 < length rows
    → Scanned m fs k rows (closed m n fs k rows)
unfolding closed
closed_all m n fs k rows f h = go (any_named (scan m false n fs 0 k rows).named) refl
  where
    one : ScannedBy m false fs k rows (scan m false n fs 0 k rows)
    one = scan-closes m false n fs k rows f h (λ v. absurd (true≢false (sym v)))

    go : (b : Bool) → any_named (scan m false n fs 0 k rows).named ≡ b
        → Scanned m fs k rows (cond b (scan m false n fs 0 k rows) (plus (scan m false n fs 0 k rows).agreed
        (scan m true n (scan m false n fs 0 k rows).named 0 (scan m false n fs 0 k rows).opens (scan m false n fs 0 k rows).left)))
    go true e = record { closes = one.closes; stuck = λ i c l a y. stuck_at i c l a y }
      where
        stuck_at : (i c : ℕ) → i < (scan m false n fs 0 k rows).opens → Agree i c (scan m false n fs 0 k rows).left
            → May (scan m false n fs 0 k rows).named i → ⊥
        stuck_at i c l a (inside q) = one.none i c l a q
        stuck_at i c l a (freely q) = true≢false (sym e ∙ named_none (scan m false n fs 0 k rows).named q)
    go false e =
        let free = none_named (scan m false n fs 0 k rows).named e in
        let two = scan-closes m true n (scan m false n fs 0 k rows).named (scan m false n fs 0 k rows).opens (scan m false n fs 0 k rows).left
        (closes-fit n one.closes.closes f) (omega (arith, closes-length one.closes.closes)) (λ v. free) in
        record { closes = closes-then one.closes two.closes; stuck = λ i c l a y. two.none i c l a refl }
