-- The words for a reason by its number: a file's, then a plan's, then a table's. That they are `card_reason`'s is `by-reason` of proofs/ReasonLaws.
use Rattle.std.specs.Prelude.{ℕ, cond, List, eqb}
use Rattle.refusal.specs.declared.Reason.TheVariants as reason
use Rattle.message.specs.Message.{by_number}
use Rattle.cardreasons.specs.Reasons.{card_reason}

unfoldable pub table_reason : ℕ → List ℕ
table_reason number =
    cond (eqb number 1) (card_reason reason.Length)
    (cond (eqb number 2) (card_reason reason.Width)
    (cond (eqb number 3) (card_reason reason.Count)
    (cond (eqb number 4) (card_reason reason.Long)
    (cond (eqb number 5) (card_reason reason.Short)
    (cond (eqb number 6) (card_reason reason.Cell)
    (cond (eqb number 7) (card_reason reason.Fresh)
    (cond (eqb number 9) (card_reason reason.Extra)
    (cond (eqb number 24) (card_reason reason.Same)
    (by_number number)))))))))

unfoldable pub plan_reason : ℕ → List ℕ
plan_reason number =
    cond (eqb number 10) (card_reason reason.Size)
    (cond (eqb number 11) (card_reason reason.Ends)
    (cond (eqb number 12) (card_reason reason.Open)
    (cond (eqb number 13) (card_reason reason.Edges)
    (cond (eqb number 14) (card_reason reason.Label)
    (cond (eqb number 15) (card_reason reason.Rows)
    (table_reason number))))))

unfoldable pub file_reason : ℕ → List ℕ
file_reason number =
    cond (eqb number 27) (card_reason reason.Blocks)
    (cond (eqb number 28) (card_reason reason.Damage)
    (cond (eqb number 29) (card_reason reason.Sizes)
    (cond (eqb number 30) (card_reason reason.Padding)
    (cond (eqb number 31) (card_reason reason.Head)
    (cond (eqb number 32) (card_reason reason.None)
    (plan_reason number))))))
