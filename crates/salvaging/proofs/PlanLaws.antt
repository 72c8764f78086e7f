-- The plan of a file, in the code's steps: whether it is kept, by three tests one after another.
use Prim.Native.Nat.{ℕ, ◌+◌, ◌-◌, ◌*◌, ◌/◌, ◌%◌, ◌≤◌, ◌<◌, min}
use mathlib.Core.Path.{◌≡◌, sym, ◌∙◌, ap}
use mathlib.Core.Bool.{true, false}
use mathlib.Core.List.{List}
use native.Mathlib.Omega.{arith}
use lib.Dec.{eqb}
use lib.ListN.{length, take, drop, length-drop}
use lib.Seq.{take_all, length-take-le}
use borrow.Author.Tests.{eq-eqb, ne_eqb, le-leb, lt-leb}
use Rattle.refusal.specs.Refusal.{Refused}
use Rattle.refusal.specs.Read.{read, refuse}
use Rattle.table.specs.Table.{table, table_of}
use Rattle.table.proofs.Accepted.{table-short}
use Rattle.plan.specs.Check.{plan_of}
use Rattle.octets.specs.Octets.{cells_of}
use Rattle.blocks.specs.Blocks.{whole, good}
use Rattle.blocks.proofs.BlockLaws.{cells-size}
use Rattle.filing.specs.Files.{plan_size, table_part}
use Rattle.filing.specs.code.Front.{Front}
use Rattle.filing.proofs.ReadingLaws.{front-part, taken, plan-cut}
use Rattle.filing.proofs.Undo.{accepted-sizes}
use Rattle.salvaging.specs.Salvage.{front, width, count, no_head, kept, kept_cells, plan_start, plan_run, plan_cells, in_sound, plan_kept}
use Rattle.salvaging.proofs.KeptLaws.{kept_table}
use Rattle.salvaging.proofs.TopLaws.{head-is}

module _ (f : List ℕ) where
  abbrev skip : ℕ
  skip = plan_start f % 125

  -- the kept rows are a table
  pub kept_read : no_head f ≡ false → 1 ≤ length (kept f) → table_of (kept_cells f) ≡ read (table (width f) (kept f))
  kept_read head some = let h = head-is f head in kept_table (width f) (count f) (drop 2 (table_part (front f))) h.columns h.rows.1 some

  pub rows-missing : (length (kept f) ≡ count f → ⊥) → plan_kept f ≡ false
  rows-missing d = rw (ne_eqb (length (kept f)) (count f) d)

  run-size : length (plan_run f) ≡ 125 * good f (plan_start f / 125)
  run-size = cells-size (whole f - plan_start f / 125) (plan_start f / 125) (drop (128 * (plan_start f / 125)) (cells_of f))

  module _ (every : length (kept f) ≡ count f) where
    all : eqb (length (kept f)) (count f) ≡ true
    all = eq-eqb (length (kept f)) (count f) every

    pub cells-missing : 125 * good f (plan_start f / 125) < skip + plan_size (front f) → plan_kept f ≡ false
    cells-missing h = rw (all, lt-leb (skip + plan_size (front f)) (length (plan_run f)) (omega (arith, run-size)))

    module _ (head : no_head f ≡ false) (some : 1 ≤ length (kept f)) (within : skip + plan_size (front f) ≤ 125 * good f (plan_start f / 125))
        (cells : List ℕ) (fits : Front 6207 cells (plan_run f)) (k : ℕ) (least : k ≡ min (plan_size (front f)) 6083) where
      inside : in_sound f ≡ true
      inside = le-leb (skip + plan_size (front f)) (length (plan_run f)) (omega (arith, run-size))

      less : (p k : ℕ) → k ≡ min p 6083 → (k ≤ p) × (k ≤ 6083)
      less p k e = (omega arith, omega arith)

      part : take k (drop skip cells) ≡ take 6083 (plan_cells f)
      part =
          let b = less (plan_size (front f)) k least in
          front-part cells (plan_run f) fits skip k (omega (arith, b)) (omega (arith, b, run-size))
          ∙ taken k (plan_size (front f)) 6083 (drop skip (plan_run f)) least

      checked : plan_of (kept_cells f) (take (skip + k - skip) (drop skip cells)) ≡ plan_of (kept_cells f) (plan_cells f)
      checked =
          let n : skip + k - skip ≡ k = omega arith in
          let t : take 2051 (kept_cells f) ≡ kept_cells f =
          take_all 2051 (kept_cells f) (omega (arith, table-short (kept_cells f) (kept_read head some))) in
          ap (λ (j : ℕ). plan_of (kept_cells f) (take j (drop skip cells))) n
          ∙ ap (λ (l : List ℕ). plan_of l (take k (drop skip cells))) (sym t)
          ∙ plan-cut (kept_cells f) (plan_cells f) (take k (drop skip cells)) (λ h. part)

      pub not-accepted : {x : Refused} → plan_of (kept_cells f) (take (skip + k - skip) (drop skip cells)) ≡ refuse x → plan_kept f ≡ false
      not-accepted e = rw (all, inside, sym checked ∙ e)

      -- kept: the cells are those of the lent list
      pub is-accepted : {n : ℕ} → plan_of (kept_cells f) (take (skip + k - skip) (drop skip cells)) ≡ read n
          → (plan_kept f ≡ true) × (skip + plan_size (front f) ≤ 6207)
          × (take (skip + plan_size (front f) - skip) (drop skip cells) ≡ plan_cells f)
      is-accepted e =
          let p = sym checked ∙ e in
          let s = accepted-sizes (kept_cells f) (plan_cells f) p in
          let l : length (plan_cells f) ≡ plan_size (front f) =
          length-take-le (plan_size (front f)) (drop skip (plan_run f)) (omega (arith, length-drop skip (plan_run f), run-size)) in
          let m : skip + plan_size (front f) - skip ≡ plan_size (front f) = omega arith in (
            rw (all, inside, p),
            omega (arith, l, s),
            ap (λ (j : ℕ). take j (drop skip cells)) m
                ∙ front-part cells (plan_run f) fits skip (plan_size (front f)) (omega (arith, l, s)) (omega (arith, run-size)),
          )
