-- The terms of some cells, so many of them in the bracket that is open, and the bracket after them. No reply has over 1,024 cells (W-203), and
-- for more of them nothing is said.
use Rattle.std.specs.Prelude.{ℕ, cond, List, [], ◌∷◌, leb, length}
use Rattle.grammar.specs.Numbering.{Words}
use Rattle.termtext.specs.Saying.{terms_text}
use Rattle.limits.specs.Limits.{most_reply_cells}

unfoldable pub terms_said : Words → (width : ℕ) (cells : List ℕ) → List ℕ
terms_said words width cells = cond (leb (length cells) most_reply_cells) (terms_text words (width ∷ []) cells) []
