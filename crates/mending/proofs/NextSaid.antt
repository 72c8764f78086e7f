-- What the reading of one row beside others says of the next row.
use Prim.Native.Nat.{ℕ, ◌+◌, ◌-◌, ◌≤◌}
use mathlib.Core.Path.{◌≡◌, sym, ◌∙◌, ap}
use mathlib.Core.Bool.{true}
use mathlib.Core.List.{List}
use native.Mathlib.Omega.{arith}
use lib.ListN.{length, take, drop, length-drop}
use lib.Seq.{take_all}
use Rattle.std.specs.Prelude.{Some, None, Result, Ok, Err}
use Rattle.refusal.specs.Refusal.{reason_number}
use Rattle.refusal.specs.declared.Refusal.{Refusal}
use Rattle.samerows.specs.Starts.{rows_lent}
use Rattle.table.specs.Table.{row_of, row_told}
use Rattle.table.proofs.WholeLaws.{whole-within}
use Rattle.salvaging.proofs.NextLaws.{accepted-ends, extra-ends, other-stops}
use Rattle.mending.specs.code.Next.{NextIs, ends, stops}

module _ (w at : ℕ) (cells starts : List ℕ) (h : at ≤ length cells) (a : Result ℕ Refusal)
    (said : row_told a ≡ row_of w (rows_lent (take at cells) starts (length starts)) (take (length cells - at) (drop at cells))) where
  abbrev seen : List (List ℕ)
  seen = rows_lent (take at cells) starts (length starts)

  said' : row_of w seen (drop at cells) ≡ row_told a
  said' = ap (row_of w seen) (sym (take_all (length cells - at) (drop at cells) (omega (arith, length-drop at cells)))) ∙ sym said

  pub on-accepted : {v : ℕ} → a ≡ Ok v → NextIs w seen (drop at cells) at (Some (length cells))
  on-accepted q =
      let e = accepted-ends w seen (drop at cells) (said' ∙ ap row_told q) in
      ends e.0 (length cells) e.1 e.2 (omega (arith, e.3)) (omega (arith, e.3, length-drop at cells))

  pub extra-place : {f : Refusal} → a ≡ Err f → reason_number f.reason ≡ 9 → at + f.place ≤ length cells
  extra-place q n =
      let e = extra-ends w seen (drop at cells) (said' ∙ ap row_told q) n in
      let b = whole-within true (drop at cells) w 0 (omega arith) e.1 in
      omega (arith, b.1, e.3, length-drop at cells)

  pub on-extra : {f : Refusal} → a ≡ Err f → reason_number f.reason ≡ 9 → NextIs w seen (drop at cells) at (Some (at + f.place))
  on-extra {f} q n =
      let e = extra-ends w seen (drop at cells) (said' ∙ ap row_told q) n in
      let b = whole-within true (drop at cells) w 0 (omega arith) e.1 in
      ends e.0 (at + f.place) e.1 e.2 b.1 (ap (λ (k : ℕ). at + k) (sym e.3))

  pub on-other : {f : Refusal} → a ≡ Err f → (reason_number f.reason ≡ 9 → ⊥) → NextIs w seen (drop at cells) at None
  on-other q n = stops (other-stops w seen (drop at cells) (said' ∙ ap row_told q) n)
