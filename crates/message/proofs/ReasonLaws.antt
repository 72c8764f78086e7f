-- The words for a number are those for the reason that has it.
use mathlib.Core.Path.{◌≡◌, refl}
use mathlib.Core.List.{List}
use Prim.Native.Nat.{ℕ}
use borrow.Author.Tests.{ne_eqb}
use Rattle.refusal.specs.Refusal.{reason_number}
use Rattle.refusal.specs.declared.Reason.{Reason}
use Rattle.refusal.specs.declared.Reason.TheVariants as reason
use Rattle.message.specs.Message.{by_number, facts_reason, goal_reason}
use Rattle.message.specs.code.Numbers.{facts_number, goal_number}

abbrev Not : ℕ → ℕ → Type 0
Not n k = n ≡ k → ⊥

module _ (n : ℕ) (said : List ℕ) where
  pub facts-other : Not n 1 → Not n 2 → Not n 3 → Not n 4 → Not n 17 → Not n 18 → Not n 19 → Not n 24
      → facts_number n said ≡ by_number n
  unfolding facts_number
  facts-other a b c d f g h i =
      rw (ne_eqb n 1 a, ne_eqb n 2 b, ne_eqb n 3 c, ne_eqb n 4 d, ne_eqb n 17 f, ne_eqb n 18 g, ne_eqb n 19 h, ne_eqb n 24 i)

  pub goal-other : Not n 1 → Not n 17 → Not n 18 → Not n 19 → Not n 25 → goal_number n said ≡ by_number n
  unfolding goal_number
  goal-other a f g h j = rw (ne_eqb n 1 a, ne_eqb n 17 f, ne_eqb n 18 g, ne_eqb n 19 h, ne_eqb n 25 j)

-- every reason has its words
pub facts-by-reason : (r : Reason) (said : List ℕ) → facts_number (reason_number r) said ≡ facts_reason r said
unfolding facts_number facts_reason
facts-by-reason reason.Length said = refl
facts-by-reason reason.Width said = refl
facts-by-reason reason.Count said = refl
facts-by-reason reason.Long said = refl
facts-by-reason reason.Short said = refl
facts-by-reason reason.Cell said = refl
facts-by-reason reason.Fresh said = refl
facts-by-reason reason.Extra said = refl
facts-by-reason reason.Size said = refl
facts-by-reason reason.Ends said = refl
facts-by-reason reason.Open said = refl
facts-by-reason reason.Edges said = refl
facts-by-reason reason.Label said = refl
facts-by-reason reason.Rows said = refl
facts-by-reason reason.Room said = refl
facts-by-reason reason.Bytes said = refl
facts-by-reason reason.Text said = refl
facts-by-reason reason.Other said = refl
facts-by-reason reason.Figure said = refl
facts-by-reason reason.Full said = refl
facts-by-reason reason.Last said = refl
facts-by-reason reason.Index said = refl
facts-by-reason reason.Same said = refl
facts-by-reason reason.Big said = refl
facts-by-reason reason.Names said = refl
facts-by-reason reason.Blocks said = refl
facts-by-reason reason.Damage said = refl
facts-by-reason reason.Sizes said = refl
facts-by-reason reason.Padding said = refl
facts-by-reason reason.Head said = refl
facts-by-reason reason.None said = refl
facts-by-reason reason.Column said = refl
facts-by-reason reason.Early said = refl

pub goal-by-reason : (r : Reason) (said : List ℕ) → goal_number (reason_number r) said ≡ goal_reason r said
unfolding goal_number goal_reason
goal-by-reason reason.Length said = refl
goal-by-reason reason.Width said = refl
goal-by-reason reason.Count said = refl
goal-by-reason reason.Long said = refl
goal-by-reason reason.Short said = refl
goal-by-reason reason.Cell said = refl
goal-by-reason reason.Fresh said = refl
goal-by-reason reason.Extra said = refl
goal-by-reason reason.Size said = refl
goal-by-reason reason.Ends said = refl
goal-by-reason reason.Open said = refl
goal-by-reason reason.Edges said = refl
goal-by-reason reason.Label said = refl
goal-by-reason reason.Rows said = refl
goal-by-reason reason.Room said = refl
goal-by-reason reason.Bytes said = refl
goal-by-reason reason.Text said = refl
goal-by-reason reason.Other said = refl
goal-by-reason reason.Figure said = refl
goal-by-reason reason.Full said = refl
goal-by-reason reason.Last said = refl
goal-by-reason reason.Index said = refl
goal-by-reason reason.Same said = refl
goal-by-reason reason.Big said = refl
goal-by-reason reason.Names said = refl
goal-by-reason reason.Blocks said = refl
goal-by-reason reason.Damage said = refl
goal-by-reason reason.Sizes said = refl
goal-by-reason reason.Padding said = refl
goal-by-reason reason.Head said = refl
goal-by-reason reason.None said = refl
goal-by-reason reason.Column said = refl
goal-by-reason reason.Early said = refl
