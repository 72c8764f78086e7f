-- Terms that are read whole: they stand at the front of the list, and their cells pass the tests; and the other way round.
use mathlib.Core.Path.{◌≡◌, refl, sym, ◌∙◌, ap}
use mathlib.Core.Bool.{Bool, true, false, ◌&&◌}
use mathlib.Core.List.{List, [], ◌∷◌, ◌++◌}
use Prim.Native.Nat.{ℕ, zero, suc, ◌+◌, ◌-◌, ◌≤◌, ◌<◌}
use native.Mathlib.Nat.{add-zero}
use native.Mathlib.Omega.{arith}
use lib.Dec.{leb}
use lib.ListN.{length, take, drop, length-append, length-drop}
use lib.Seq.{take_at, drop_at}
use borrow.Author.Tests.{lt-leb, leb-false}
use Rattle.cell.specs.Cell.{values_at, arity}
use Rattle.term.specs.Terms.{Terms, none, more}
use Rattle.refusal.specs.Read.{read, and_then}
use Rattle.table.specs.Table.{Met, met, counted, terms_from}
use Rattle.table.specs.code.Looks.{cell_from, cells_from}
use Rattle.table.proofs.ReadLaws.{not-both, then-both, then-assoc, tests_then, passed, passed-tests, apart, read_one, first}

-- a row that is not yet full
not_full : (row : Bool) (used : ℕ) → (row ≡ true → used < 32) → (row && leb 32 used) ≡ false
not_full true used h = lt-leb 32 used (h refl)
not_full false used h = refl

full : (row : Bool) (used : ℕ) → (row && leb 32 used) ≡ false → row ≡ true → used < 32
full true used h e = leb-false 32 used h
full false used h e = not-both e refl

-- k terms, whatever follows, are read whole where their cells pass the tests
pub terms-pass : {k : ℕ} {ys : List ℕ} → Terms k ys → (rest : List ℕ) (row : Bool) (used vars p : ℕ) → (row ≡ true → used + length ys ≤ 32)
    → terms_from row (ys ++ rest) k used vars p ≡ and_then (cells_from row ys vars p) (λ (v : ℕ). read (met (p + length ys) v))
unfolding terms_from cells_from cell_from arity
terms-pass none [] row used vars p h = rw (add-zero p)
terms-pass none (c ∷ rest) row used vars p h = rw (add-zero p)
terms-pass (more {c} {k} {xs = ys} t) rest row used vars p h =
    let ih : (v : ℕ) → terms_from row (ys ++ rest) (arity c + k) (suc used) v (suc p) ≡ and_then (cells_from row ys v (suc p))
    (λ (u : ℕ). read (met (suc p + length ys) u)) = λ v. terms-pass t rest row (suc used) v (suc p) (λ r. omega (arith, h r)) in
    let q : suc p + length ys ≡ p + suc (length ys) = omega arith in
    rw (not_full row used (λ r. omega (arith, h r)))
    (tests_then row (values_at c) vars p (counted (values_at c) vars) (λ (v : ℕ). terms_from row (ys ++ rest) (arity c + k) (suc used) v (suc p))
    ∙ then-both (cell_from row c vars p) (λ v. ih v ∙ rw q)
    ∙ then-assoc (cell_from row c vars p) (λ (v : ℕ). cells_from row ys v (suc p)) (λ (v : ℕ). read (met (p + suc (length ys)) v)))

-- terms at the front of a list, in a row no more than 32 cells with those used before
pub record Front (row : Bool) (xs : List ℕ) (k used : ℕ) : Type 0 where
  pub cells : List ℕ
  pub rest : List ℕ
  pub split : xs ≡ cells ++ rest
  pub terms : Terms k cells
  pub room : row ≡ true → used + length cells ≤ 32

pub terms-front : (row : Bool) (xs : List ℕ) (k used vars p : ℕ) {m : Met} → (row ≡ true → used ≤ 32) → terms_from row xs k used vars p ≡ read m
    → Front row xs k used
unfolding terms_from arity
terms-front row [] zero used vars p h e = record { cells = []; rest = []; split = refl; terms = none; room = λ r. omega (arith, h r) }
terms-front row [] (suc k) used vars p h e = apart (sym (passed (row && leb 32 used) _ _ e).1)
terms-front row (c ∷ xs) zero used vars p h e = record { cells = []; rest = c ∷ xs; split = refl; terms = none; room = λ r. omega (arith, h r) }
terms-front row (c ∷ xs) (suc k) used vars p h e =
    let a = passed (row && leb 32 used) _ _ e in
    let f = terms-front row xs (arity c + k) (suc used) (counted (values_at c) vars) (suc p) (full row used a.0)
    (passed-tests row (values_at c) vars p _ a.1) in
    record {
      cells = c ∷ f.cells;
      rest = f.rest;
      split = ap (λ (l : List ℕ). c ∷ l) f.split;
      terms = more f.terms;
      room = λ r. omega (arith, f.room r);
    }

-- terms that are read whole: what stands at the front, where it ends, and that its cells pass the tests
pub record Whole (row : Bool) (xs : List ℕ) (k p : ℕ) (m : Met) : Type 0 where
  pub front : Front row xs k 0
  pub next : m.next ≡ p + length front.cells
  pub tested : cells_from row front.cells 0 p ≡ read m.vars

pub whole : (row : Bool) (xs : List ℕ) (k p : ℕ) {m : Met} → terms_from row xs k 0 0 p ≡ read m → Whole row xs k p m
whole row xs k p {m} e =
    let f = terms-front row xs k 0 0 p (λ r. omega arith) e in
    let h : and_then (cells_from row f.cells 0 p) (λ (v : ℕ). read (met (p + length f.cells) v)) ≡ read m =
    sym (terms-pass f.terms f.rest row 0 0 p f.room) ∙ rw f.split at e in
    let g = first (cells_from row f.cells 0 p) (λ (v : ℕ). read (met (p + length f.cells) v)) h in
    let q : met (p + length f.cells) g.0 ≡ m = read_one g.2 in
    record { front = f; next = sym (ap (λ (n : Met). n.next) q); tested = g.1 ∙ ap (λ (n : Met). read n.vars) q }

-- they are the cells up to the place after them, and what follows is the rest
pub whole_part : {row : Bool} {xs : List ℕ} {k p : ℕ} {m : Met} (o : Whole row xs k p m)
    → (take (m.next - p) xs ≡ o.front.cells) × (drop (m.next - p) xs ≡ o.front.rest)
whole_part {p = p} {m = m} o =
    let l : length o.front.cells ≡ m.next - p = omega (arith, o.next) in (
      ap (take (m.next - p)) o.front.split ∙ take_at o.front.cells o.front.rest (m.next - p) l,
      ap (drop (m.next - p)) o.front.split ∙ drop_at o.front.cells o.front.rest (m.next - p) l,
    )

-- they end within the list
pub whole-within : (row : Bool) (xs : List ℕ) (k p : ℕ) {m : Met} → p ≤ length xs → terms_from row (drop p xs) k 0 0 p ≡ read m
    → (p ≤ m.next) × (m.next ≤ length xs)
whole-within row xs k p h e =
    let r = whole row (drop p xs) k p e in
    let l : length (drop p xs) ≡ length r.front.cells + length r.front.rest =
    ap length r.front.split ∙ length-append r.front.cells r.front.rest in
    (omega (arith, r.next), omega (arith, r.next, length-drop p xs))
