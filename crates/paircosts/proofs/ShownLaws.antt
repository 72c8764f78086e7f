-- The notes at a row's cells show what a scan of the rows from it on finds: what the closed cells weigh, and the runs of each open place
-- that it looks at. It looks at every place, or at those inside named columns.
use mathlib.Core.Path.{◌≡◌, refl, sym, ap, ◌∙◌, subst}
use mathlib.Core.Bool.{Bool, true, false, ◌||◌}
use mathlib.Core.List.{List, [], ◌∷◌, ◌++◌, map}
use Prim.Native.Nat.{ℕ, zero, suc, ◌+◌, ◌≤◌, ◌<◌}
use native.Mathlib.Omega.{arith}
use native.Mathlib.Nat.{zero-add}
use native.Mathlib.Numerals.{one-add}
use lib.ListN.{length, drop, replicate, length-map, length-drop}
use Rattle.cell.specs.Cell.{arity}
use Rattle.term.specs.Terms.{Terms, front, back, root, close}
use Rattle.term.proofs.TermsLaws.{back-terms, front-zero, zero-nil, front-terms, terms-long}
use Rattle.table.specs.All.{All}
use Rattle.plan.specs.Named.{flag, spread}
use Rattle.plan.specs.Runs.{Run, runs}
use Rattle.plan.specs.Plans.{Measure}
use Rattle.plan.proofs.RunsLaws.{terms-length}
use Rattle.plan.specs.code.Fits.{Fits}
use Rattle.least.specs.code.Pairs.{Scan, found, plus, one_run, scan, sums}
use Rattle.least.proofs.Agreed.{run-agrees, run_is}
use Rattle.least.proofs.Scan.{fits-agreed}
use Rattle.least.proofs.ScanLaws.{sums-sizes, length-sizes, scan-sizes}
use Rattle.least.proofs.Suffixes.{root-back, close-back, back-back, backs, front-short, front-back-length, close-drop, back-drop}
use Rattle.paircosts.specs.declared.arrays.Note.{Note}
use Rattle.paircosts.specs.code.Notes.{note_of, Fair, Noted, done, closed, opened}
use Rattle.paircosts.specs.code.Reading.{Shown, at-end, at-closed, at_open, ShownIn, no_more, in-column, past-column}
use Rattle.paircosts.proofs.NoteLaws.{Says, note-says, note-fair}
use Rattle.paircosts.proofs.NotedLaws.{front-close, noted-past}
use Rattle.paircosts.proofs.FlagLaws.{Sees, sees-first, sees-next, sees_below, scan-flag}

-- at the stop nothing is left
pub shown-none : {N : ℕ → Note} {E H : ℕ → ℕ} {P : ℕ → Note → Type 0} {stop k q i w : ℕ} → Shown N E H P stop k q i w → stop ≤ q → (k ≡ i) × (w ≡ 0)
shown-none at-end h = (refl, refl)
shown-none (at-closed l o s) h = absurd (omega arith)
shown-none (at_open l e o p s) h = absurd (omega arith)

-- the rows from place i on, and the cells that they begin with
column : (i : ℕ) (rows : List (List ℕ)) → map (root 0) (map (back i) rows) ≡ map (root i) rows
column i [] = refl
column i (x ∷ rows) = rw (root-back i x, column i rows)

closing : (i : ℕ) (rows : List (List ℕ)) → map (close 0) (map (back i) rows) ≡ map (back i) (map (close i) rows)
closing i [] = refl
closing i (x ∷ rows) = rw (close-back i x, closing i rows)

replicate-both : (a b : ℕ) (f : Bool) (fs : List Bool) → replicate a f ++ (replicate b f ++ fs) ≡ replicate (a + b) f ++ fs
replicate-both zero b f fs = rw zero-add
replicate-both (suc a) b f fs = let e : suc a + b ≡ suc (a + b) = omega arith in rw e (ap (λ (l : List Bool). f ∷ l) (replicate-both a b f fs))

-- what a note has to be at open place i of the state that a scan leaves, which it has looked at
pub record Is (W : ℕ → ℕ → ℕ) (first last : ℕ) (every : Bool) (named : List Bool) (left : List (List ℕ)) (i : ℕ) (n : Note) : Type 0 where
  pub says : Says W n first (length (runs i left)) (sums W first (runs i left))
  pub fair : Fair first last n
  pub looked : every || flag i named ≡ true

-- one that it has not
abbrev pub Out : Bool → List Bool → ℕ → Type 0
Out every named i = (every || flag i named) ≡ false

module _ (m : Measure) (W : ℕ → ℕ → ℕ) (count : ℕ) (bound : (i k : ℕ) → i ≤ k → k < count → W i k ≤ 65535) (first last : ℕ) (below : last < count)
    (N : ℕ → Note) (E H : ℕ → ℕ) (zs : List ℕ) (at : ℕ)
    (ends : (j : ℕ) → at ≤ j → j < length zs → E j ≡ j + length (front 1 (drop j zs)))
    (weighs : (j : ℕ) → at ≤ j → j < length zs → H j ≡ m.weight (root 0 (drop j zs))) (every : Bool) where
  -- the scan is at place i, with r places to look at: a of them in a column that it looks at, and then a column for each of some flags
  pub record Reached (n : ℕ) (fs : List Bool) (i r a : ℕ) (cs : List Bool) (q : ℕ) (y : List ℕ) (rest : List (List ℕ)) (b : ℕ) : Type 0 where
    pub places : r ≡ a + length cs
    pub sees : Sees every fs i (replicate a true ++ cs)
    pub fits : All (Fits (n + i) (i + r)) (y ∷ rest)
    pub rows : first + length rest ≡ last
    pub low : at ≤ q
    pub high : q ≤ length zs
    pub cells : back i y ≡ drop q zs
    pub noted : Noted m W first N q r (back i y) (map (back i) rest) b

  -- what is noted shows what the scan finds: to the end of the column, and in the columns after it. Where there is none of these the closed
  -- cells weigh the same
  pub record Shows (i a : ℕ) (cs : List Bool) (q : ℕ) (y : List ℕ) (b : ℕ) (s : Scan) : Type 0 where
    pub next : ℕ
    pub weight : ℕ
    pub more : ℕ
    pub shown : Shown N E H (Is W first last every s.named s.left) (q + length (front a (back i y))) next q i weight
    pub after : ShownIn N E H (Is W first last every s.named s.left) (Out every s.named) (length zs) s.opens cs
        (q + length (front a (back i y))) next more
    pub agreed : s.agreed ≡ weight + more
    pub whole : length cs ≡ 0 → b ≡ s.agreed

  abbrev All-shown : ℕ → Type 0
  All-shown n = (fs : List Bool) (i r a : ℕ) (cs : List Bool) (q : ℕ) (y : List ℕ) (rest : List (List ℕ)) (b : ℕ) → Reached n fs i r a cs q y rest b
      → Shows i a cs q y b (scan m every n fs i r (y ∷ rest))

  -- no place is left
  shown-end : (n : ℕ) (fs : List Bool) (i a : ℕ) (cs : List Bool) (q : ℕ) (y : List ℕ) (rest : List (List ℕ)) (b : ℕ) → Reached n fs i 0 a cs q y rest b
      → Shows i a cs q y b (found 0 fs i (y ∷ rest))
  shown-end n fs i zero [] q y rest b x =
      let t : Terms 0 (back i y) = back-terms i 0 y x.fits.0.0 in
      let l : length (drop q zs) ≡ 0 = ap length (sym x.cells ∙ zero-nil t) in
      let e : q ≡ length zs = omega (arith, length-drop q zs, x.high) in
      let z : q + 0 ≡ length zs = omega arith in
      record {
        next = i;
        weight = 0;
        more = 0;
        shown = rw (front-zero (back i y), z, e) at-end;
        after = rw (front-zero (back i y), z) no_more;
        agreed = omega arith;
        whole = λ h. none-closed x.noted;
      }
    where
      none-closed : {b : ℕ} {y : List ℕ} {rest : List (List ℕ)} → Noted m W first N q 0 y rest b → b ≡ 0
      none-closed done = refl
  shown-end n fs i zero (c ∷ cs) q y rest b x = absurd (omega (arith, x.places))
  shown-end n fs i (suc a) cs q y rest b x = absurd (omega (arith, x.places))

  module _ (n : ℕ) (ih : All-shown n) (fs : List Bool) (i r : ℕ) (q : ℕ) (y : List ℕ) (rest : List (List ℕ)) where
    abbrev here : List (List ℕ)
    here = y ∷ rest

    -- what is known whatever the flags say
    module _ {a : ℕ} {cs : List Bool} {b : ℕ} (x : Reached (suc n) fs i (suc r) a cs q y rest b) where
      first-terms : Terms (suc r) (back i y)
      first-terms = back-terms i (suc r) y x.fits.0.0

      inside : q < length zs
      inside = omega (arith, terms-length first-terms, ap length x.cells, length-drop q zs)

      ends_at : E q ≡ q + length (front 1 (back i y))
      ends_at = rw x.cells (ends q x.low inside)

      on : q < E q
      on = omega (arith, ends_at, terms-length (front-terms 1 r (back i y) (rw one-add first-terms)))

      -- past the term at q, whatever is noted there
      step-over : {b' : ℕ} (a' : ℕ) (cs' : List Bool) → r ≡ a' + length cs' → Sees every fs (suc i) (replicate a' true ++ cs')
          → Noted m W first N (q + length (front 1 (back i y))) r (back 1 (back i y)) (map (back 1) (map (back i) rest)) b'
          → Shows (suc i) a' cs' (E q) y b' (scan m every n fs (suc i) r here)
      step-over {b'} a' cs' k s d =
          let e₁ : suc n + i ≡ n + suc i = omega arith in
          let e₂ : i + suc r ≡ suc i + r = omega arith in
          let e₃ : i + 1 ≡ suc i = omega arith in
          let past : back 1 (back i y) ≡ back (suc i) y = back-back i 1 y ∙ ap (λ (n : ℕ). back n y) e₃ in
          ih fs (suc i) r a' cs' (E q) y rest b' (record {
            places = k;
            sees = s;
            fits = subst (λ (p : ℕ). All (Fits p (suc i + r)) here) e₁ (subst (λ (p : ℕ). All (Fits (suc n + i) p) here) e₂ x.fits);
            rows = x.rows;
            low = omega (arith, on, x.low);
            high = omega (arith, inside, ends_at, ap length x.cells, length-drop q zs, front-short 1 (back i y));
            cells = sym past ∙ ap (back 1) x.cells ∙ back-drop q zs ∙ ap (λ (j : ℕ). drop j zs) (sym (ends q x.low inside));
            noted = rw (backs i 1 rest, e₃, past, ← ends_at) at d;
          })

    -- a place that is looked at
    module _ (a : ℕ) (cs : List Bool) (b : ℕ) (x : Reached (suc n) fs i (suc r) (suc a) cs q y rest b) where
      says : N q ≡ note_of W first (map (root 0) (back i y ∷ map (back i) rest)) → Says W (N q) first (length (runs i here)) (sums W first (runs i here))
      says e = rw (e, root-back i y, column i rest) (note-says W (root i) (close i) first here (omega arith))

      fair : N q ≡ note_of W first (map (root 0) (back i y ∷ map (back i) rest)) → Fair first last (N q)
      fair e =
          let l : length (map (root i) rest) ≡ length rest = length-map rest (root i) in
          let f = note-fair W count bound first (root i y) (map (root i) rest) (omega (arith, x.rows)) in
          rw (e, root-back i y, column i rest, ← x.rows, ← l) f

      shut-here : (g : Run) → runs i here ≡ g ∷ [] → (N q).runs ≡ 1
          → {b' : ℕ} → Noted m W first N (suc q) (arity (root 0 (back i y)) + r) (close 0 (back i y)) (map (close 0) (map (back i) rest)) b'
          → Shows i (suc a) cs q y (m.weight (root 0 (back i y)) + b')
          (plus (m.weight g.cell) (scan m every n (spread i (arity g.cell) fs) i (arity g.cell + r) g.rows))
      shut-here g e o {b'} d =
          let agrees = run-agrees i g here e in
          let c : root i y ≡ g.cell = agrees.cells.0 in
          let gr : g.rows ≡ close i y ∷ map (close i) rest = ap (λ (g : Run). g.rows) (run_is i g here e) in
          let e₁ : suc n + i ≡ suc (n + i) = omega arith in
          let e₂ : i + suc r ≡ suc (i + r) = omega arith in
          let e₃ : arity g.cell + (i + r) ≡ i + (arity g.cell + r) = omega arith in
          let s = ih (spread i (arity g.cell) fs) i (arity g.cell + r) (arity g.cell + a) cs (suc q) (close i y) (map (close i) rest) b' (record {
            places = omega (arith, x.places);
            sees = rw replicate-both at (sees_below every (arity g.cell) fs i (replicate a true ++ cs) x.sees);
            fits = subst (λ (p : ℕ). All (Fits (n + i) p) (close i y ∷ map (close i) rest)) e₃ (fits-agreed (n + i) (i + r) i g.cell here (omega arith) agrees
                (subst (λ (p : ℕ). All (Fits p (suc (i + r))) here) e₁ (subst (λ (p : ℕ). All (Fits (suc n + i) p) here) e₂ x.fits)));
            rows = ap (λ (n : ℕ). first + n) (length-map rest (close i)) ∙ x.rows;
            low = omega (arith, x.low);
            high = omega (arith, inside x);
            cells = sym (close-back i y) ∙ ap (close 0) x.cells ∙ close-drop q zs (inside x);
            noted = rw (closing i rest, close-back i y, root-back i y, c) at d;
          }) in
          let w : m.weight (root 0 (back i y)) ≡ m.weight g.cell = ap m.weight (root-back i y ∙ c) in
          let v : H q ≡ m.weight g.cell = weighs q x.low (inside x) ∙ ap (λ (l : List ℕ). m.weight (root 0 l)) (sym x.cells) ∙ w in
          let l : q + length (front (suc a) (back i y)) ≡ suc q + length (front (arity g.cell + a) (back i (close i y))) =
          omega (arith, rw (root-back i y, c, close-back i y) at (front-close a (first-terms x))) in
          let h : q < suc q + length (front (arity g.cell + a) (back i (close i y))) = omega arith in
          rw gr (record {
            next = s.next;
            weight = H q + s.weight;
            more = s.more;
            shown = rw l (at-closed {weight = s.weight} h o s.shown);
            after = rw l s.after;
            agreed = omega (arith, s.agreed);
            whole = λ h. omega (arith, s.whole h);
          })

      open-here : 1 < (N q).runs → N q ≡ note_of W first (map (root 0) (back i y ∷ map (back i) rest))
          → {b' : ℕ} → Noted m W first N (q + length (front 1 (back i y))) r (back 1 (back i y)) (map (back 1) (map (back i) rest)) b'
          → Shows i (suc a) cs q y b' (scan m every n fs (suc i) r here)
      open-here o e {b'} d =
          let s = step-over x a cs (omega (arith, x.places)) (sees-next every fs i true (replicate a true ++ cs) x.sees) d in
          let e₃ : i + 1 ≡ suc i = omega arith in
          let e₄ : 1 + a ≡ suc a = omega arith in
          let past : back 1 (back i y) ≡ back (suc i) y = back-back i 1 y ∙ ap (λ (n : ℕ). back n y) e₃ in
          let l : q + length (front (suc a) (back i y)) ≡ E q + length (front a (back (suc i) y)) =
          omega (arith, ends_at x, rw (past, e₄) at (front-back-length 1 a (back i y))) in
          let k = scan-sizes m every n fs (suc i) r here i (omega arith) in
          let u = says e in
          let now : List Run = runs i (scan m every n fs (suc i) r here).left in
          let h : q < E q + length (front a (back (suc i) y)) = omega (arith, on x) in
          record {
            next = s.next;
            weight = s.weight;
            more = s.more;
            shown = rw l (at_open h (on x) o
                (record {
                  says =
                      record {
                        number = u.number ∙ sym (length-sizes now (runs i here) k);
                        costs = u.costs
                            ∙ sym (sums-sizes W first now (runs i here) k);
                      };
                  fair = fair e;
                  looked = rw (scan-flag m every n fs (suc i) r here i (omega arith)) (sees-first every fs i true (replicate a true ++ cs) x.sees);
                }) s.shown);
            after = rw l s.after;
            agreed = s.agreed;
            whole = s.whole;
          }

      looked-at : Shows i (suc a) cs q y b (scan m every (suc n) fs i (suc r) here)
      unfolding scan
      looked-at = rw (sees-first every fs i true (replicate a true ++ cs) x.sees) (go x.noted)
        where
          shut : {b' : ℕ} → Noted m W first N (suc q) (arity (root 0 (back i y)) + r) (close 0 (back i y)) (map (close 0) (map (back i) rest)) b'
              → (N q).runs ≡ 1 → length (runs i here) ≡ 1 → (gs : List Run) → runs i here ≡ gs
              → Shows i (suc a) cs q y (m.weight (root 0 (back i y)) + b') (one_run gs (λ (g : Run). plus (m.weight g.cell)
              (scan m every n (spread i (arity g.cell) fs) i (arity g.cell + r) g.rows)) (scan m every n fs (suc i) r here))
          shut d o l [] e = let z : ◌≡◌ {A = ℕ} 0 1 = sym (ap length e) ∙ l in absurd (omega arith)
          shut d o l (g ∷ []) e = shut-here g e o d
          shut d o l (g ∷ (h ∷ gs)) e = let z : suc (suc (length gs)) ≡ 1 = sym (ap length e) ∙ l in absurd (omega arith)

          open_up : {b' : ℕ} → Shows i (suc a) cs q y b' (scan m every n fs (suc i) r here) → 1 < length (runs i here) → (gs : List Run) → runs i here ≡ gs
              → Shows i (suc a) cs q y b' (one_run gs (λ (g : Run). plus (m.weight g.cell)
              (scan m every n (spread i (arity g.cell) fs) i (arity g.cell + r) g.rows)) (scan m every n fs (suc i) r here))
          open_up s l [] e = s
          open_up s l (g ∷ []) e = absurd (omega (arith, ap length e))
          open_up s l (g ∷ (h ∷ gs)) e = s

          go : {b' : ℕ} → Noted m W first N q (suc r) (back i y) (map (back i) rest) b'
              → Shows i (suc a) cs q y b' (one_run (runs i here) (λ (g : Run). plus (m.weight g.cell)
              (scan m every n (spread i (arity g.cell) fs) i (arity g.cell + r) g.rows)) (scan m every n fs (suc i) r here))
          go (closed e o d) = shut d o (sym (says e).number ∙ o) (runs i here) refl
          go (opened e o d) = open_up (open-here o e d) (omega (arith, (says e).number)) (runs i here) refl

    -- a column that is looked at, and one that is passed
    look_in : (cs : List Bool) (b : ℕ) → Reached (suc n) fs i (suc r) 0 (true ∷ cs) q y rest b
        → Shows i 0 (true ∷ cs) q y b (scan m every (suc n) fs i (suc r) here)
    look_in cs b x =
        let z : q + 0 ≡ q = omega arith in
        let s = looked-at 0 cs b (record {
          places = omega (arith, x.places);
          sees = x.sees;
          fits = x.fits;
          rows = x.rows;
          low = x.low;
          high =
              x.high;
          cells = x.cells;
          noted = x.noted;
        }) in
        record {
          next = i;
          weight = 0;
          more = s.weight + s.more;
          shown = rw (front-zero (back i y), z) at-end;
          after = rw (front-zero (back i y), z) (in-column (on x) (rw (← (ends_at x)) at s.shown) (rw (← (ends_at x)) at s.after));
          agreed = omega (arith, s.agreed);
          whole = λ h. absurd (omega arith);
        }

    passed-by : (cs : List Bool) (b : ℕ) → Reached (suc n) fs i (suc r) 0 (false ∷ cs) q y rest b
        → Shows i 0 (false ∷ cs) q y b (scan m every n fs (suc i) r here)
    passed-by cs b x =
        let z : q + 0 ≡ q = omega arith in
        let z' : E q + 0 ≡ E q = omega arith in
        let d = noted-past x.noted 1 r (omega arith) (first-terms x) in
        let s = step-over x 0 cs (omega (arith, x.places)) (sees-next every fs i false cs x.sees) d.1 in
        let f : length (front 0 (back (suc i) y)) ≡ 0 = ap length (front-zero (back (suc i) y)) in
        let e = shown-none s.shown (omega arith) in
        let out : Out every (scan m every n fs (suc i) r here).named i =
        rw (scan-flag m every n fs (suc i) r here i (omega arith)) (sees-first every fs i false cs x.sees) in
        record {
          next = i;
          weight = 0;
          more = s.more;
          shown = rw (front-zero (back i y), z) at-end;
          after = rw (front-zero (back i y), z) (past-column (on x) out (rw (front-zero (back (suc i) y), z', e.0) at s.after));
          agreed = omega (arith, s.agreed, e.1);
          whole = λ h. absurd (omega arith);
        }

    look-past : (cs : List Bool) (b : ℕ) → Reached (suc n) fs i (suc r) 0 (false ∷ cs) q y rest b
        → Shows i 0 (false ∷ cs) q y b (scan m every (suc n) fs i (suc r) here)
    unfolding scan
    look-past cs b x = rw (sees-first every fs i false cs x.sees) (passed-by cs b x)

  -- from a place on
  pub shown-from : (n : ℕ) → All-shown n
  unfolding scan
  shown-from zero fs i zero a cs q y rest b x = shown-end zero fs i a cs q y rest b x
  shown-from zero fs i (suc r) a cs q y rest b x = let f = x.fits.0 in absurd (omega (arith, terms-long f.0))
  shown-from (suc n) fs i zero a cs q y rest b x = shown-end (suc n) fs i a cs q y rest b x
  shown-from (suc n) fs i (suc r) zero [] q y rest b x = absurd (omega (arith, x.places))
  shown-from (suc n) fs i (suc r) zero (true ∷ cs) q y rest b x = look_in n (shown-from n) fs i r q y rest cs b x
  shown-from (suc n) fs i (suc r) zero (false ∷ cs) q y rest b x = look-past n (shown-from n) fs i r q y rest cs b x
  shown-from (suc n) fs i (suc r) (suc a) cs q y rest b x = looked-at n (shown-from n) fs i r q y rest a cs b x
