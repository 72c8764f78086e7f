-- Where a run of terms ends, by computation, with a count of the terms still owed. Contracts of private functions cite it; that it is what
-- `Ends` says is `ends-meant` of proofs/EndsLaws.
use Rattle.std.specs.Prelude.{ℕ, zero, suc, ◌+◌, List, [], ◌∷◌, Option, Some, None}
use Rattle.cell.specs.Cell.{arity}

-- `k` terms are still owed, the cells left are the list, and `p` is the next cell's place
unfoldable pub ends : List ℕ → ℕ → ℕ → Option ℕ
ends [] zero p = Some p
ends [] (suc k) p = None
ends (c ∷ xs) zero p = Some p
ends (c ∷ xs) (suc k) p = ends xs (arity c + k) (p + 1)
