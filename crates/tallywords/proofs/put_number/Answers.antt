use mathlib.Core.Path.{◌≡◌}
use mathlib.Core.List.{List}
use Prim.Native.Nat.{ℕ, ◌-◌}
use native.Mathlib.Omega.{arith}
use lib.ListN.{length}
use Rattle.std.proofs.Math.Seq.{slice}
use Rattle.message.specs.Words.{ascii}
use Rattle.octets.specs.Octets.{Put, decimal}
use Rattle.octets.proofs.PutLaws.{put-put}
use Rattle.tallywords.specs.Tallies.{column}
use Rattle.tallywords.proofs.put_number.Goals as goal

-- as many blanks are put as the number leaves of its column
filled : (width n : ℕ) (blanks : List ℕ) {old new : List ℕ} {to r more : ℕ} → more ≡ width - length (decimal n) → Put old new to (slice 0 more blanks) r
    → Put old new to (slice 0 (width - length (decimal n)) blanks) r
filled width n blanks e p = rw e at p

pub returns : goal.returns
unfolding ascii column
returns c =
    let blanks = filled c.args.width c.args.n _ (omega (arith, c.digits.ensures)) (rw c.part.ensures at c.put_word-b.ensures) in
    put-put c.put_word-a.ensures (put-put blanks (put-put c.put_decimal-c.ensures c.put_word.ensures))
