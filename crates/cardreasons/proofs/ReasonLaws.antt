-- The words for a number are those for the reason that has it; a number that has none here is looked up in the next list.
use mathlib.Core.Path.{◌≡◌, refl}
use Prim.Native.Nat.{ℕ}
use borrow.Author.Tests.{ne_eqb}
use Rattle.refusal.specs.Refusal.{reason_number}
use Rattle.refusal.specs.declared.Reason.{Reason}
use Rattle.refusal.specs.declared.Reason.TheVariants as reason
use Rattle.message.specs.Message.{by_number}
use Rattle.cardreasons.specs.Reasons.{card_reason}
use Rattle.cardreasons.specs.code.Numbers.{file_reason, plan_reason, table_reason}

abbrev Not : ℕ → ℕ → Type 0
Not n k = n ≡ k → ⊥

module _ (n : ℕ) where
  pub table-other : Not n 1 → Not n 2 → Not n 3 → Not n 4 → Not n 5 → Not n 6 → Not n 7 → Not n 9 → Not n 24 → table_reason n ≡ by_number n
  unfolding table_reason
  table-other a b d f g h i j k =
      rw (ne_eqb n 1 a, ne_eqb n 2 b, ne_eqb n 3 d, ne_eqb n 4 f, ne_eqb n 5 g, ne_eqb n 6 h, ne_eqb n 7 i, ne_eqb n 9 j, ne_eqb n 24 k)

  pub plan-other : Not n 10 → Not n 11 → Not n 12 → Not n 13 → Not n 14 → Not n 15 → plan_reason n ≡ table_reason n
  unfolding plan_reason
  plan-other a b d f g h = rw (ne_eqb n 10 a, ne_eqb n 11 b, ne_eqb n 12 d, ne_eqb n 13 f, ne_eqb n 14 g, ne_eqb n 15 h)

  pub file-other : Not n 27 → Not n 28 → Not n 29 → Not n 30 → Not n 31 → Not n 32 → file_reason n ≡ plan_reason n
  unfolding file_reason
  file-other a b d f g h = rw (ne_eqb n 27 a, ne_eqb n 28 b, ne_eqb n 29 d, ne_eqb n 30 f, ne_eqb n 31 g, ne_eqb n 32 h)

-- every reason has its words
pub by-reason : (r : Reason) → file_reason (reason_number r) ≡ card_reason r
unfolding card_reason file_reason plan_reason table_reason
by-reason reason.Length = refl
by-reason reason.Width = refl
by-reason reason.Count = refl
by-reason reason.Long = refl
by-reason reason.Short = refl
by-reason reason.Cell = refl
by-reason reason.Fresh = refl
by-reason reason.Extra = refl
by-reason reason.Size = refl
by-reason reason.Ends = refl
by-reason reason.Open = refl
by-reason reason.Edges = refl
by-reason reason.Label = refl
by-reason reason.Rows = refl
by-reason reason.Room = refl
by-reason reason.Bytes = refl
by-reason reason.Text = refl
by-reason reason.Other = refl
by-reason reason.Figure = refl
by-reason reason.Full = refl
by-reason reason.Last = refl
by-reason reason.Index = refl
by-reason reason.Same = refl
by-reason reason.Big = refl
by-reason reason.Names = refl
by-reason reason.Blocks = refl
by-reason reason.Damage = refl
by-reason reason.Sizes = refl
by-reason reason.Padding = refl
by-reason reason.Head = refl
by-reason reason.None = refl
by-reason reason.Column = refl
by-reason reason.Early = refl
