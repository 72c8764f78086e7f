-- 02, W-208: where no row without variables equals an earlier one, every leaf of every plan has exactly one row, and a plan has a leaf for
-- each row.
use mathlib.Core.Path.{◌≡◌, refl, sym, ◌∙◌}
use mathlib.Core.Bool.{Bool, true, false}
use mathlib.Core.List.{List, [], ◌∷◌}
use Prim.Native.Nat.{ℕ, zero, suc, ◌+◌, ◌*◌, ◌≤◌, ◌<◌}
use native.Mathlib.Omega.{arith}
use lib.ListN.{length}
use Rattle.cell.specs.Cell.{arity, is_var}
use Rattle.term.specs.Terms.{Terms, more, root, close}
use Rattle.term.proofs.TermsLaws.{zero-nil}
use Rattle.term.proofs.PlaceLaws.{close-terms}
use Rattle.refusal.specs.Read.{read}
use Rattle.table.specs.All.{All}
use Rattle.table.specs.Table.{Table, table_of, Row, Ground, Distinct}
use Rattle.table.proofs.Accepted.{is-table}
use Rattle.table.proofs.AllLaws.{all-each, all_both}
use Rattle.plan.specs.Runs.{Run, agree, join, join_if, group, runs}
use Rattle.plan.specs.Plans.{Plan, leaf, node, Branches, end, next, write, branches, leaves, leaves_in, OneRow, OneRows}
use Rattle.plan.specs.code.Rows.{row_count}
use Rattle.plan.proofs.RunsLaws.{agree-eq, agree-fixed, Each, Sized, group-all, group-sizes, group-rows}
use Rattle.plan.proofs.SizeLaws.{size}

-- the cell at a place and the rest tell the row, where the place is there
whole_of : (i k : ℕ) (xs ys : List ℕ) → Terms (suc k) xs → Terms (suc k) ys → i ≤ k → root i xs ≡ root i ys → close i xs ≡ close i ys
    → xs ≡ ys
unfolding root close
whole_of zero k (c ∷ xs) (d ∷ ys) t u h er ec = cc
whole_of (suc i) zero (c ∷ xs) (d ∷ ys) t u h er ec = absurd (omega arith)
whole_of (suc i) (suc k) (c ∷ xs) (d ∷ ys) (more t) (more u) h er ec =
    let cd : c ≡ d = cc in
    let es : close (arity c + i) xs ≡ close (arity d + i) ys = cc in
    let q : arity c + suc k ≡ suc (arity c + k) = omega arith in
    let q' : arity d + suc k ≡ suc (arity c + k) = rw cd (omega arith) in
    let rest : xs ≡ ys =
    whole_of (arity c + i) (arity c + k) xs ys (rw q at t) (rw q' at u) (omega arith) (er ∙ rw cd) (es ∙ rw cd) in
    cc
whole_of zero k [] ys t u h er ec = elim t [ ]
whole_of zero k (c ∷ xs) [] t u h er ec = elim u [ ]
whole_of (suc i) zero [] ys t u h er ec = elim t [ ]
whole_of (suc i) zero (c ∷ xs) [] t u h er ec = elim u [ ]
whole_of (suc i) (suc k) [] ys t u h er ec = elim t [ ]
whole_of (suc i) (suc k) (c ∷ xs) [] t u h er ec = elim u [ ]

-- and whether it has a variable
ground-of : (i k : ℕ) (xs : List ℕ) → Terms (suc k) xs → i ≤ k → is_var (root i xs) ≡ false → Ground (close i xs) → Ground xs
unfolding root close
ground-of zero k (c ∷ xs) t h v g = (v, g)
ground-of (suc i) zero (c ∷ xs) t h v g = absurd (omega arith)
ground-of (suc i) (suc k) (c ∷ xs) (more t) h v g =
    let q : arity c + suc k ≡ suc (arity c + k) = omega arith in
    (g.0, ground-of (arity c + i) (arity c + k) xs (rw q at t) (omega arith) v g.1)
ground-of zero k [] t h v g = elim t [ ]
ground-of (suc i) zero [] t h v g = elim t [ ]
ground-of (suc i) (suc k) [] t h v g = elim t [ ]

module _ (i k : ℕ) (h : i ≤ k) where
  -- what is left of a row that has this cell at the place and is not a later copy of r
  data Later (r : List ℕ) (c : ℕ) : List ℕ → Type 0 where
    later : (x : List ℕ) → Terms (suc k) x → (Ground x → r ≡ x → ⊥) → root i x ≡ c → Later r c (close i x)

  -- such a one is left no copy of what is left of r
  still-later : (r : List ℕ) {c : ℕ} → Terms (suc k) r → root i r ≡ c → is_var c ≡ false
      → (s : List ℕ) → Later r c s → Ground s → close i r ≡ s → ⊥
  still-later r t e v s (later x u n q) g z = n (ground-of i k x u h (rw q v) g) (whole_of i k r x t u h (e ∙ sym q) z)

  -- each run of distinct rows has distinct rows
  pub runs-distinct : (rows : List (List ℕ)) → All (Terms (suc k)) rows → Distinct rows → All (λ (g : Run). Distinct g.rows) (runs i rows)
  runs-distinct [] t d = tt
  runs-distinct (r ∷ rs) t d =
      put (runs i rs) (runs-distinct rs t.1 d.1)
      (group-all (root i) (close i) (λ (x : List ℕ). Terms (suc k) x × (Ground x → r ≡ x → ⊥)) (Later r)
      (λ x p. later x p.0 p.1 refl) rs
      (all_both (Terms (suc k)) (λ (x : List ℕ). Ground x → r ≡ x → ⊥) rs t.1 d.0))
    where
      put : (gs : List Run) → All (λ (g : Run). Distinct g.rows) gs → Each (Later r) gs
          → All (λ (g : Run). Distinct g.rows) (join (root i r) (close i r) gs)
      put [] a l = ((tt, tt), tt)
      put (g ∷ gs) a l = go (agree (root i r) g.cell) refl
        where
          go : (b : Bool) → agree (root i r) g.cell ≡ b → All (λ (g : Run). Distinct g.rows) (join_if b (root i r) (close i r) g gs)
          go true e =
              let q = agree-eq (root i r) g.cell e in
              let v : is_var g.cell ≡ false = rw q at (agree-fixed (root i r) g.cell e) in
              let apart : List ℕ → Type 0 = λ s. Ground s → close i r ≡ s → ⊥ in
              ((all-each (Later r g.cell) apart (still-later r t.0 q v) g.rows l.0, a.0), a.1)
          go false e = ((tt, tt), a)

pub no_cells : (rows : List (List ℕ)) → All (Terms 0) rows → Distinct rows → 0 < length rows → length rows ≡ 1
no_cells [] t d h = absurd (omega arith)
no_cells (r ∷ []) t d h = refl
no_cells (r ∷ (s ∷ rs)) t d h =
    let er : r ≡ [] = zero-nil t.0 in
    let es : s ≡ [] = zero-nil t.1.0 in
    absurd (d.0.0 (rw es tt) (er ∙ sym es))

mutual
  unfolding OneRow

  -- 02, "From then on a leaf has exactly one row"
  pub one-row : {k : ℕ} {rows : List (List ℕ)} (p : Plan k rows) → All (Terms k) rows → Distinct rows → 0 < length rows → OneRow p
  one-row (leaf {rows}) t d h = no_cells rows t d h
  one-row (node {k} {rows} i l bs) t d h =
      one-rows (length rows) bs
      (group-all (root i) (close i) (Terms (suc k)) (λ (c : ℕ). Terms (arity c + k)) (λ r u. close-terms i u l) rows t)
      (runs-distinct i k l rows t d)
      (group-sizes (root i) (close i) rows)

  one-rows : {k : ℕ} {gs : List Run} (n : ℕ) (bs : Branches k gs) → Each (λ (c : ℕ). Terms (arity c + k)) gs
      → All (λ (g : Run). Distinct g.rows) gs → Sized n gs → OneRows bs
  one-rows n end t d s = tt
  one-rows n (next p bs) t d s = (one-row p t.0 d.0 s.0.0, one-rows n bs t.1 d.1 s.1)

mutual
  unfolding OneRow leaves

  -- so a plan has as many leaves as rows
  pub leaf-each : {k : ℕ} {rows : List (List ℕ)} (p : Plan k rows) → OneRow p → leaves p ≡ length rows
  leaf-each leaf o = sym o
  leaf-each (node {rows = rows} i h bs) o = leaf-all bs o ∙ group-rows (root i) (close i) rows

  leaf-all : {k : ℕ} {gs : List Run} (bs : Branches k gs) → OneRows bs → leaves_in bs ≡ row_count gs
  leaf-all end o = refl
  leaf-all (next p bs) o = omega (arith, leaf-each p o.0, leaf-all bs o.1)

-- of an accepted table: each leaf of each plan has one row, so of R rows it has 3·B + 2 − R cells
pub table-one-row : (t : List ℕ) {T : Table} → table_of t ≡ read T → (p : Plan T.width T.rows)
    → OneRow p × (length (write p) + length T.rows ≡ 3 * branches p + 2)
table-one-row t {T} e p =
    let i = is-table t e in
    let each = all-each (Row T.width) (Terms T.width) (λ r x. x.terms) T.rows i.each in
    let o = one-row p each i.apart i.count.0 in
    (o, omega (arith, size p, leaf-each p o))
