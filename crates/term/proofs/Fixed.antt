-- Two results that the promise of `term_end` allows are equal.
use mathlib.Core.Path.{◌≡◌, sym, ◌∙◌}
use mathlib.Core.List.{List}
use Prim.Native.Nat.{ℕ}
use Rattle.std.specs.Prelude.{Option}
use Rattle.term.specs.Ends.{Ends}
use Rattle.term.proofs.EndsLaws.{ends-only}

pub end-fixed : {xs : List ℕ} {p : ℕ} {r s : Option ℕ} → Ends xs p r → Ends xs p s → r ≡ s
end-fixed a b = ends-only a ∙ sym (ends-only b)
