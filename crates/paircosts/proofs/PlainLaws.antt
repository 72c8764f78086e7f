-- "with no column named, or all of them, it is the plain least plan" (02, W-213): so it is of what is kept for a pair, and of an array that is
-- filled.
use mathlib.Core.Path.{refl}
use mathlib.Core.Bool.{Bool}
use mathlib.Core.List.{List, []}
use Prim.Native.Nat.{ℕ, suc}
use native.Mathlib.Omega.{arith}
use Rattle.cell.specs.Cell.{arity}
use Rattle.plan.specs.Named.{spread}
use Rattle.plan.proofs.NamedLaws.{Free, no_place, free-may, free-below}
use Rattle.plan.specs.Plans.{Measure}
use Rattle.state.specs.Flags.{flags_in}
use Rattle.state.proofs.FlagsLaws.{zero_flags}
use Rattle.least.specs.Entries.{Closes, stop, step, Entry, none, leaf, inner, RightAt}
use Rattle.least.proofs.NoneNamed.{free-least, free-chosen}
use Rattle.paircosts.specs.Fill.{Filled, KeptRight}

pub plain-free : (k : ℕ) → Free [] k
plain-free k = no_place (λ j. refl)

pub zero-free : (k : ℕ) → Free (flags_in k 0) k
zero-free k = no_place (zero_flags k)

-- the same places may be closed
record Closed (gs : List Bool) (k : ℕ) (rows : List (List ℕ)) (fs' : List Bool) (k' : ℕ) (rows' : List (List ℕ)) : Type 0 where
  pub named : List Bool
  pub closes : Closes gs k rows named k' rows'
  pub free : Free fs' k' × Free named k'

free-closes : {fs fs' : List Bool} {k k' : ℕ} {rows rows' : List (List ℕ)} (gs : List Bool) → Free fs k → Free gs k → Closes fs k rows fs' k' rows'
    → Closed gs k rows fs' k' rows'
free-closes gs f g stop = record { named = gs; closes = stop; free = (f, g) }
free-closes gs f g (step {named = fs} {others = k} i c h a y x) =
    let r = free-closes (spread i (arity c) gs) (free-below fs k i (arity c) h f) (free-below gs k i (arity c) h g) x in
    record { named = r.named; closes = step i c h a (free-may gs (suc k) i g (omega arith)) r.closes; free = r.free }

module _ {m : Measure} {w : ℕ} {rows : List (List ℕ)} (fs gs : List Bool) (f : Free fs w) (g : Free gs w) where
  pub free-entry : {first last count place : ℕ} → Entry m fs w rows first last count place → Entry m gs w rows first last count place
  free-entry (none o) = none o
  free-entry (leaf h l x) = leaf h l (free-closes gs f g x).closes
  free-entry (inner {named' = fs'} {others = k} h l x s c b d) =
      let r = free-closes gs f g x in
      inner h l r.closes (λ i c l a y. s i c l a (free-may fs' (suc k) i r.free.0 l))
      (free-least m fs' r.named r.free.0 r.free.1 c) b (free-chosen m fs' r.named r.free.0 r.free.1 b d)

  free-right : {first last : ℕ} {kept : List ℕ} → RightAt m fs w rows kept first last → RightAt m gs w rows kept first last
  free-right r = record { whole = free-least m fs gs f g r.whole; entry = free-entry r.entry }

  pub free-filled : {old new : List ℕ} → Filled m fs w rows old new → Filled m gs w rows old new
  free-filled x = record {
    whole = λ first last o i. free-least m fs gs f g (x.whole first last o i);
    entry = λ first last o i. free-entry (x.entry first last o i);
    other = x.other;
    size = x.size;
  }

  pub free-kept : {top since : ℕ} {kept : List ℕ} → KeptRight m fs w rows top since kept → KeptRight m gs w rows top since kept
  free-kept x = record { at = λ first last o i u. free-right (x.at first last o i u) }
