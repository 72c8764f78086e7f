use Rattle.std.proofs.Common.{◌≡◌, ℕ, ◌+◌, ◌<◌, max, get_or, refl, sym, ◌∙◌, ap, cond, arith}
use mathlib.Core.Logic.{by_cases}
use native.Mathlib.Decide.{dec_lt}
use Rattle.std.specs.Ordering.{ord_max, nat_cmp, is_lt}
use Rattle.std.specs.Cmp.{nat_cmp_is}
use Rattle.std.specs.declared.cmp.Ordering.{Ordering}
use Rattle.std.specs.declared.cmp.Ordering.TheVariants.{Less, Equal, Greater}
use Rattle.state.proofs.FlagsLaws.{mask_step, past-step, mask_end, past_end}
use Rattle.state.proofs.flags.named_of.Goals as goal

-- the library's larger of two numbers
larger : (a b : ℕ) → ord_max nat_cmp a b ≡ max a b
larger a b =
    by_cases (dec_lt b a)
    (λ (h : b < a). let m : a ≡ max a b = omega arith in ap (λ (r : Ordering). cond (is_lt r) a b) (sym (nat_cmp_is b a Less h)) ∙ m)
    (λ h. let m : b ≡ max a b = omega arith in
    by_cases (dec_lt a b)
    (λ (g : a < b). ap (λ (r : Ordering). cond (is_lt r) a b) (sym (nat_cmp_is b a Greater g)) ∙ m)
    (λ g. let e : b ≡ a = omega arith in ap (λ (r : Ordering). cond (is_lt r) a b) (sym (nat_cmp_is b a Equal e)) ∙ m))

pub loop-column-init : goal.loop-column-init
loop-column-init c = (refl, refl, omega arith)

pub loop-column-preserved : goal.loop-column-preserved
loop-column-preserved c =
    let w = c.with_column-mask.ensures in
    let l = c.loop-column in
    let xs = c.args.columns.now in
    let h = c.loop-column-test.true in
    let m : c.max-past.result ≡ max l.past (get_or xs l.column-index 0 + 1) = c.max-past.ensures ∙ larger l.past (get_or xs l.column-index 0 + 1) in (
      rw w.0 (sym (mask_step l.mask l.column-index xs h) ∙ l.invariant.0),
      rw m (sym (past-step l.past l.column-index xs h) ∙ l.invariant.1),
      w.1,
    )

pub returns : goal.returns
returns c =
    let l = c.loop-column in
    let xs = c.args.columns.now in
    (sym (mask_end l.mask l.column-index xs (omega arith)) ∙ l.invariant.0, sym (past_end l.past l.column-index xs (omega arith)) ∙ l.invariant.1)
