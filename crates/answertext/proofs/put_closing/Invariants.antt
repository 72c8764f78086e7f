use Prim.Native.Nat.{ℕ, ◌≤◌}
use mathlib.Core.Path.{◌≡◌}
use mathlib.Core.List.{List}
use lib.ListN.{length}
use Rattle.octets.proofs.PutLaws.{Putting}
use Rattle.termtext.specs.Saying.{closing, owing}
use Rattle.answertext.specs.code.Levels.{levels}
use Rattle.answertext.proofs.put_closing.Given as goal

-- what is left to put and to owe from a level on is what was
abbrev Still : (out₀ out : List ℕ) (to on : ℕ) (owed : List ℕ) (left : ℕ) (owed₀ : List ℕ) (depth : ℕ) → Type 0
Still out₀ out to on owed left owed₀ depth =
    Putting out₀ out to on (closing (levels owed left)) (closing (levels owed₀ depth))
    × (owing (levels owed left) ≡ owing (levels owed₀ depth))

abbrev pub invariant-loop-level : goal.invariant-loop-level
invariant-loop-level l =
    (l.level ≤ l.depth) × (length l.owed ≡ length l.initial.owed) × Still l.initial.out l.out l.to l.on l.owed l.level l.initial.owed l.depth
