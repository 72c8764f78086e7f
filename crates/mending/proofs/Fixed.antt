-- Two results that a promise allows are equal, for `keep_rows` and `list_bad`.
use Prim.Native.Nat.{ℕ}
use mathlib.Core.Path.{◌≡◌}
use mathlib.Core.List.{List}
use Rattle.cell.proofs.Fixed.{given-fixed}
use Rattle.mending.specs.Mending.{Keeps, NumbersListed}
use Rattle.mending.specs.declared.Kept.{Kept}

pub keeps-fixed : {rows : List (List ℕ)} {r s : Kept} → Keeps rows r → Keeps rows s → (r.rows ≡ s.rows) × (r.end ≡ s.end)
keeps-fixed p q = (given-fixed p.many q.many, given-fixed p.last q.last)

pub listed-fixed : {numbers room a b : List ℕ} {m n : ℕ} → NumbersListed numbers room a m → NumbersListed numbers room b n → (m ≡ n) × (a ≡ b)
listed-fixed p q = (given-fixed p.many q.many, given-fixed p.put q.put)
