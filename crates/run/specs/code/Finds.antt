-- What a branch's test finds (src/step.rt): the branch number i, with the cell c, looks at the node v. This describes the code's own state;
-- no promise of a public function cites it.
use Rattle.std.specs.Prelude.{ℕ, ◌≤◌, ◌<◌, ◌≡◌, ◌≢◌, true, false, List, get_or}
use Rattle.cell.specs.Cell.{is_var}
use Rattle.run.specs.declared.step.Found.{Found}
use Rattle.run.specs.declared.step.Found.TheVariants.{Any, Other, Same, Unbound}

pub data Finds (bound args until : List ℕ) (i c v : ℕ) : Found → Type 0 where
  any : is_var c ≡ true → Finds bound args until i c v Any
  other : is_var c ≡ false → i < get_or until v 0 → get_or bound v 0 ≢ c → Finds bound args until i c v Other
  same : is_var c ≡ false → i < get_or until v 0 → get_or bound v 0 ≡ c → Finds bound args until i c v (Same (get_or args v 0))
  unbound : is_var c ≡ false → get_or until v 0 ≤ i → Finds bound args until i c v Unbound
