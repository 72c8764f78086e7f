-- The notes at the cells of a row: of a row alone, past some terms, and with one row more in front.
use mathlib.Core.Path.{◌≡◌, refl, sym, ap, ◌∙◌}
use mathlib.Core.Bool.{Bool, true, false, cond}
use mathlib.Core.List.{List, [], ◌∷◌, map}
use Prim.Native.Nat.{ℕ, zero, suc, ◌+◌, ◌≤◌, ◌<◌}
use native.Mathlib.Omega.{arith}
use native.Mathlib.Numerals.{one-add}
use lib.ListN.{length}
use Rattle.cell.specs.Cell.{arity}
use Rattle.term.specs.Terms.{Terms, none, more, front, back, root, close}
use Rattle.term.proofs.TermsLaws.{front-zero, back-zero, back-terms}
use Rattle.term.proofs.PlaceLaws.{close-terms}
use Rattle.table.specs.All.{All}
use Rattle.plan.specs.Runs.{agree, runs}
use Rattle.plan.specs.Plans.{Measure}
use Rattle.plan.proofs.RunsLaws.{agree-eq, group-some}
use Rattle.paircosts.specs.declared.arrays.Note.{Note}
use Rattle.paircosts.specs.code.Notes.{note, note_next, note_from, note_of, Noted, done, closed, opened, weight_of}
use Rattle.least.proofs.Agreed.{one-agrees}
use Rattle.paircosts.proofs.NoteLaws.{note-says}
use Rattle.least.proofs.Suffixes.{back-back, backs, front-back-length, back-close}

-- one run: all rows have the first one's cell
one-cell-all : (W : ℕ → ℕ → ℕ) (first : ℕ) (y : List ℕ) (rest : List (List ℕ)) → (note_of W first (map (root 0) (y ∷ rest))).runs ≡ 1
    → All (λ (r : List ℕ). root 0 r ≡ root 0 y) rest
one-cell-all W first y rest e =
    let n = note-says W (root 0) (close 0) first (y ∷ rest) (omega arith) in
    let a = one-agrees 0 (y ∷ rest) (sym n.number ∙ e) in
    let c : root 0 y ≡ a.0 = a.1.cells.0 in
    rw c a.1.cells.1

pub map-id : (rows : List (List ℕ)) → map (back 0) rows ≡ rows
map-id [] = refl
map-id (r ∷ rs) = rw (back-zero r, map-id rs)

map-past : (a c : ℕ) (rows : List (List ℕ)) → All (λ (r : List ℕ). root 0 r ≡ c) rows → map (back (arity c + a)) (map (close 0) rows) ≡ map (back (suc a)) rows
map-past a c [] h = refl
map-past a c (r ∷ rs) h = rw (back-close a c r h.0, map-past a c rs h.1)

-- past the first cell, where it is closed
pub front-close : (a : ℕ) {r : ℕ} {y : List ℕ} → Terms (suc r) y → length (front (suc a) y) ≡ suc (length (front (arity (root 0 y) + a) (close 0 y)))
unfolding front root close
front-close a (more t) = refl

pub close-first : {r : ℕ} {y : List ℕ} → Terms (suc r) y → Terms (arity (root 0 y) + r) (close 0 y)
close-first {r} t = close-terms 0 t (omega arith)

pub back-first : {r : ℕ} {y : List ℕ} → Terms (suc r) y → Terms r (back 1 y)
back-first {r} {y} t = back-terms 1 r y (rw one-add t)

-- noted from a place on, whatever the closed cells weigh
abbrev pub From : Measure → (ℕ → ℕ → ℕ) → ℕ → (ℕ → Note) → ℕ → ℕ → List ℕ → List (List ℕ) → Type 0
From m W first N q r y rest = (agreed : ℕ) × Noted m W first N q r y rest agreed

module _ {m : Measure} {W : ℕ → ℕ → ℕ} {first : ℕ} {N : ℕ → Note} where
  past-none : {q R b : ℕ} {y : List ℕ} {rest : List (List ℕ)} → Noted m W first N q R y rest b → (r : ℕ) → R ≡ 0 + r
      → From m W first N (q + length (front 0 y)) r (back 0 y) (map (back 0) rest)
  past-none {q} {R} {b} {y} {rest} d r e =
      let f : r ≡ R = omega arith in
      let z : q + 0 ≡ q = omega arith in
      (b, rw (f, front-zero y, z, map-id rest, back-zero y) d)

  -- past a terms: where they are closed, past all that is noted below them
  pub noted-past : {q R b : ℕ} {y : List ℕ} {rest : List (List ℕ)} → Noted m W first N q R y rest b → (a r : ℕ) → R ≡ a + r → Terms R y
      → From m W first N (q + length (front a y)) r (back a y) (map (back a) rest)
  noted-past (done {at = q} {row = y} {rest}) zero r e t = past-none {y = y} {rest = rest} done r e
  noted-past (closed {at = q} {terms = r₀} {row = y} {rest} n o d) zero r e t = past-none {y = y} {rest = rest} (closed n o d) r e
  noted-past (opened {at = q} {terms = r₀} {row = y} {rest} n o d) zero r e t = past-none {y = y} {rest = rest} (opened n o d) r e
  noted-past done (suc a) r e t = absurd (omega arith)
  noted-past (closed {at = q} {terms = r₀} {row = y} {rest} n o d) (suc a) r e t =
      let c : ℕ = root 0 y in
      let x = noted-past d (arity c + a) r (omega arith) (close-first t) in
      let l : q + length (front (suc a) y) ≡ suc q + length (front (arity c + a) (close 0 y)) = omega (arith, front-close a t) in
      (x.0, rw l (rw (map-past a c rest (one-cell-all W first y rest (ap (λ (n : Note). n.runs) (sym n) ∙ o)), back-close a c y refl) at x.1))
  noted-past (opened {at = q} {terms = r₀} {row = y} {rest} n o d) (suc a) r e t =
      let x = noted-past d a r (omega arith) (back-first t) in
      let s : 1 + a ≡ suc a = omega arith in
      let f : length (front (1 + a) y) ≡ length (front 1 y) + length (front a (back 1 y)) = front-back-length 1 a y in
      let l : q + length (front (suc a) y) ≡ q + length (front 1 y) + length (front a (back 1 y)) = rw (← s) (omega arith) in
      let b : back a (back 1 y) ≡ back (suc a) y = back-back 1 a y ∙ ap (λ (n : ℕ). back n y) s in
      (x.0, rw l (rw (backs 1 a rest, s, b) at x.1))

  -- a row alone: every place is closed
  pub noted-alone : {r : ℕ} {y : List ℕ} (q : ℕ) → Terms r y → ((j : ℕ) → q ≤ j → j < q + length y → N j ≡ note 1 0 first)
      → Noted m W first N q r y [] (weight_of m y)
  unfolding note_from root close
  noted-alone q none h = done
  noted-alone q (more {c} {k} {xs} t) h =
      let e : N q ≡ note 1 0 first = h q (omega arith) (omega arith) in
      closed e (rw e) (noted-alone (suc q) t (λ j l m. h j (omega arith) (omega arith)))

-- One row more, x in front of y, at a place that has the note N p.
module _ {m : Measure} {W : ℕ → ℕ → ℕ} {row : ℕ} {N : ℕ → Note} {p r b : ℕ} {y : List ℕ} {rest : List (List ℕ)}
    (d : Noted m W (suc row) N p (suc r) y rest b) (x : List ℕ) where
  abbrev pub note_with : Note
  note_with = note_next W (N p) row (root 0 x) (root 0 y)

  pub note-is : N p ≡ note_of W (suc row) (map (root 0) (y ∷ rest))
  note-is = go d
    where
      go : {b : ℕ} → Noted m W (suc row) N p (suc r) y rest b → N p ≡ note_of W (suc row) (map (root 0) (y ∷ rest))
      go (closed n o t) = n
      go (opened n o t) = n

  -- it is the column's note
  pub next-note : note_with ≡ note_of W row (map (root 0) (x ∷ (y ∷ rest)))
  unfolding note_from
  next-note = ap (λ (n : Note). note_next W n row (root 0 x) (root 0 y)) note-is

  has-run : 1 ≤ (N p).runs
  has-run =
      let l : 0 < length (y ∷ rest) = omega arith in
      let n = note-says W (root 0) (close 0) (suc row) (y ∷ rest) l in
      omega (arith, ap (λ (n : Note). n.runs) note-is, n.number, group-some (root 0) (close 0) (y ∷ rest) l)

  -- still one run: the place was closed, and the cells are the same
  pub next-closed : note_with.runs ≡ 1 → (root 0 x ≡ root 0 y) × From m W (suc row) N (suc p) (arity (root 0 y) + r) (close 0 y) (map (close 0) rest)
  next-closed e = go (agree (root 0 x) (root 0 y)) refl e d
    where
      go : (b : Bool) → agree (root 0 x) (root 0 y) ≡ b
          → (cond b (N p) (note (suc (N p).runs) ((N p).sum + W (suc row) (N p).to) row)).runs ≡ 1
          → {w : ℕ} → Noted m W (suc row) N p (suc r) y rest w
          → (root 0 x ≡ root 0 y) × From m W (suc row) N (suc p) (arity (root 0 y) + r) (close 0 y) (map (close 0) rest)
      go true a e (closed {agreed = w} n o t) = (agree-eq (root 0 x) (root 0 y) a, (w, t))
      go true a e (opened n o t) = absurd (omega arith)
      go false a e t = absurd (omega (arith, has-run))

  -- more than one: the term is passed in each row
  pub next-opened : Terms (suc r) y → From m W (suc row) N (p + length (front 1 y)) r (back 1 y) (map (back 1) rest)
  next-opened t = noted-past d 1 r (omega arith) t
