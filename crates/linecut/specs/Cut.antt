-- Lines cut out of bytes, and where a goal ends in its line.
use Rattle.std.specs.Prelude.{ℕ, suc, Bool, false, cond, not, List, [], ◌∷◌, eqb}
use Rattle.std.proofs.Math.Seq.{slice}

-- the place of the first line feed among bytes that stand from a place on; the end where there is none
unfoldable pub feed_at : List ℕ → (at end : ℕ) → ℕ
feed_at [] at end = end
feed_at (b ∷ bytes) at end = cond (eqb b 10) at (feed_at bytes (suc at) end)

-- the first line feed between two places, or the second
unfoldable pub line_end : List ℕ → (from to : ℕ) → ℕ
line_end bytes from to = feed_at (slice from to bytes) from to

-- whether a byte stands in a comment, by whether the one before it does: `%` begins one, a line feed ends it
unfoldable pub in_remark : Bool → ℕ → Bool
in_remark remark b = cond remark (not (eqb b 10)) (eqb b 37)

-- a closing bracket that is no comment's
unfoldable pub closes : Bool → ℕ → Bool
closes remark b = cond remark false (eqb b 41)

-- past the last of these from a place on, the bytes before it being in a comment or not; `end` where there is none
unfoldable pub bracket_end : Bool → (at end : ℕ) → List ℕ → ℕ
bracket_end remark at end [] = end
bracket_end remark at end (b ∷ bytes) =
    let on = in_remark remark b in
    bracket_end on (suc at) (cond (closes on b) (suc at) end) bytes
