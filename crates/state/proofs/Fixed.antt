-- Two results that a promise allows are equal, for every public function of the crate. The promises of mask::row_mask, mask::root_at, column::same_symbol,
-- column::run_length, column::run_count, flags::may and flags::spread are equations with what the arguments give: for them this is `given-fixed` of crate cell.
use mathlib.Core.Path.{◌≡◌, sym, ap₂, ◌∙◌}
use mathlib.Core.Logic.{by_cases}
use mathlib.Core.List.{List}
use Prim.Native.Nat.{ℕ, ◌<◌, min}
use native.Mathlib.Decide.{dec_lt}
use native.Mathlib.Omega.{arith}
use lib.Seq.{ext_get_or}
use Rattle.state.specs.Flags.{mask_from, past_from}
use Rattle.state.specs.Mask.{OpenRows, ClosedAt}
use Rattle.state.specs.States.{ClosedRows}
use Rattle.state.specs.declared.flags.Named.{Named}
use Rattle.state.specs.declared.mask.Closed.{Closed}

-- mask::close_at: each of the two values is given
pub closed-fixed : {i m : ℕ} {xs : List ℕ} {r s : Closed} → ClosedAt i m xs r → ClosedAt i m xs s → r ≡ s
closed-fixed p q = ap₂ (λ (c n : ℕ). record { cell = c; mask = n }) (p.cell ∙ sym q.cell) (p.mask ∙ sym q.mask)

-- mask::close_rows: both lists that are left are given
pub closed-rows-fixed : {t ss ms hs ms' hs' ms'' hs'' : List ℕ} {i first end : ℕ} → ClosedRows t ss ms hs ms' hs' i first end
    → ClosedRows t ss ms hs ms'' hs'' i first end
    → (ms' ≡ ms'') × (hs' ≡ hs'')
closed-rows-fixed p q = (p.masks ∙ sym q.masks, p.column ∙ sym q.column)

-- mask::open_rows: each mask is given
pub open-fixed : {ss : List ℕ} {n len : ℕ} {ms ns : List ℕ} → OpenRows ss n len ms → OpenRows ss n len ns → ms ≡ ns
open-fixed {n = n} {ms = ms} {ns} p q =
    ext_get_or 0 ms ns (p.size ∙ sym q.size) (λ i h. by_cases (dec_lt i (min n 64))
    (λ (l : i < min n 64). p.rows i l ∙ sym (q.rows i l))
    (λ l. p.others i (omega arith) ∙ sym (q.others i (omega arith))))

-- flags::named_of: each of the two values is given
pub named-fixed : (columns : List ℕ) {r s : Named} → (r.mask ≡ mask_from 0 columns) × (r.past ≡ past_from 0 columns)
    → (s.mask ≡ mask_from 0 columns) × (s.past ≡ past_from 0 columns) → r ≡ s
named-fixed columns p q = ap₂ (λ (m n : ℕ). record { mask = m; past = n }) (p.0 ∙ sym q.0) (p.1 ∙ sym q.1)
