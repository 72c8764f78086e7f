-- The terms owed, level by level: law by law, in the code's own form.
use Prim.Native.Nat.{ℕ, zero, suc, ◌+◌, ◌-◌, ◌≤◌, ◌<◌}
use mathlib.Core.Path.{◌≡◌, refl, ap₂, ◌∙◌}
use mathlib.Core.List.{List, [], ◌∷◌, ◌++◌}
use native.Mathlib.Omega.{arith}
use lib.ListN.{length, get_or, set, drop, drop_of_length-le}
use lib.Seq.{get_or-set_other, get_or-set_same, drop-cons}
use borrow.Author.Tests.{le-leb, lt-leb}
use Rattle.cell.specs.Cell.{values_at, arity}
use Rattle.grammar.specs.Numbering.{Words}
use Rattle.termtext.specs.Saying.{symbol_word, closing, owing, mark_after, owed_after, terms_text, answer_text, words_of, predicate_in, said_in}
use Rattle.termtext.specs.declared.Predicate.{Predicate}
use Rattle.answertext.specs.Terms.{terms_said}
use Rattle.answertext.specs.code.Levels.{levels}
use Rattle.limits.specs.Limits.{most_reply_cells}

-- a store above the levels
pub levels-set : (owed : List ℕ) (k n d : ℕ) → d ≤ k → levels (set owed k n) d ≡ levels owed d
levels-set owed k n zero h = refl
levels-set owed k n (suc d) h = ap₂ ◌∷◌ (get_or-set_other owed k d n 0 (λ e. omega arith)) (levels-set owed k n d (omega arith))

-- the innermost level
pub levels-first : (owed : List ℕ) (d : ℕ) → 0 < d → levels owed d ≡ get_or owed (d - 1) 0 ∷ levels owed (d - 1)
levels-first owed zero h = absurd (omega arith)
levels-first owed (suc d) h = let e : suc d - 1 ≡ d = omega arith in rw e

-- and another number there; or one more level
pub levels-store : (owed : List ℕ) (d n : ℕ) → 0 < d → d ≤ length owed → levels (set owed (d - 1) n) d ≡ n ∷ levels owed (d - 1)
levels-store owed d n h l =
    levels-first (set owed (d - 1) n) d h
    ∙ ap₂ ◌∷◌ (get_or-set_same owed (d - 1) n 0 (omega arith)) (levels-set owed (d - 1) n (d - 1) (omega arith))

pub levels-more : (owed : List ℕ) (d n : ℕ) → d < length owed → levels (set owed d n) (d + 1) ≡ n ∷ levels owed d
levels-more owed d n l =
    let e : d + 1 - 1 ≡ d = omega arith in
    levels-first (set owed d n) (d + 1) (omega arith) ∙ rw e (ap₂ ◌∷◌ (get_or-set_same owed d n 0 l) (levels-set owed d n d (omega arith)))

-- AFTER A COMPLETE TERM
module _ (owed : List ℕ) (d : ℕ) {n : ℕ} (e : n ≡ get_or owed (d - 1) 0) (h : 0 < d) where
  pub closing-more : 1 < n → closing (levels owed d) ≡ 44 ∷ 32 ∷ []
  unfolding closing
  closing-more l = rw (levels-first owed d h, ← e, lt-leb n 1 l)

  pub owing-more : 1 < n → owing (levels owed d) ≡ (n - 1) ∷ levels owed (d - 1)
  unfolding owing
  owing-more l = rw (levels-first owed d h, ← e, lt-leb n 1 l)

  pub closing-last : n ≤ 1 → closing (levels owed d) ≡ (41 ∷ []) ++ closing (levels owed (d - 1))
  unfolding closing
  closing-last l = rw (levels-first owed d h, ← e, le-leb n 1 l)

  pub owing-last : n ≤ 1 → owing (levels owed d) ≡ owing (levels owed (d - 1))
  unfolding owing
  owing-last l = rw (levels-first owed d h, ← e, le-leb n 1 l)

module _ (owed : List ℕ) (d : ℕ) (h : d ≡ 0) where
  pub closing-none : closing (levels owed d) ≡ []
  unfolding closing
  closing-none = rw h

  pub owing-none : owing (levels owed d) ≡ []
  unfolding owing
  owing-none = rw h

-- AFTER A SYMBOL
module _ (a : ℕ) (owed : List ℕ) where
  pub mark-none : a ≡ 0 → mark_after a owed ≡ closing owed
  mark-none e = rw e

  pub owed_none : a ≡ 0 → owed_after a owed ≡ owing owed
  owed_none e = rw e

pub mark-some : (a : ℕ) (owed : List ℕ) → (a ≡ 0 → ⊥) → mark_after a owed ≡ 40 ∷ []
mark-some zero owed h = absurd (h refl)
mark-some (suc a) owed h = refl

pub owed-some : (a : ℕ) (owed : List ℕ) → (a ≡ 0 → ⊥) → owed_after a owed ≡ a ∷ owed
owed-some zero owed h = absurd (h refl)
owed-some (suc a) owed h = refl

-- THE CELLS LEFT
module _ (words : Words) (owed cells : List ℕ) (i : ℕ) where
  pub terms-next : i < length cells
      → terms_text words owed (drop i cells)
      ≡ symbol_word words (values_at (get_or cells i 0))
      ++ (mark_after (arity (get_or cells i 0)) owed ++ terms_text words (owed_after (arity (get_or cells i 0)) owed) (drop (i + 1) cells))
  unfolding terms_text
  terms-next h = let e : i + 1 ≡ suc i = omega arith in rw (drop-cons cells i 0 h, e)

  pub terms-done : length cells ≤ i → terms_text words owed (drop i cells) ≡ []
  unfolding terms_text
  terms-done h = rw (drop_of_length-le cells {i = i} h)

-- all of them, or too many
module _ (words : Words) (width : ℕ) (cells : List ℕ) where
  pub terms-over : most_reply_cells < length cells → terms_said words width cells ≡ []
  unfolding terms_said
  terms-over h = rw (lt-leb (length cells) most_reply_cells h)

  pub terms-are : length cells ≤ most_reply_cells → terms_said words width cells ≡ terms_text words (width ∷ []) cells
  unfolding terms_said
  terms-are h = rw (le-leb (length cells) most_reply_cells h)

-- THE WHOLE ANSWER
module _ (text names goal new : List ℕ) (p : Predicate) (cells : List ℕ) where
  pub said-over : most_reply_cells < length cells → said_in text names goal new p cells ≡ []
  unfolding said_in
  said-over h = rw (lt-leb (length cells) most_reply_cells h)

  pub said-is : length cells ≤ most_reply_cells
      → said_in text names goal new p cells
      ≡ predicate_in text p ++ ((40 ∷ []) ++ terms_text (words_of text names goal new) (p.width ∷ []) cells)
  unfolding said_in answer_text
  said-is h = rw (le-leb (length cells) most_reply_cells h)
