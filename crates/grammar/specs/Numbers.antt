-- Numbers in a text, by their digits (02, W-206). By the grammar alone.
use Rattle.std.specs.Prelude.{ℕ, suc, ◌+◌, ◌-◌, ◌*◌, ◌≤◌, ◌<◌, ◌≡◌, true, length}
use mathlib.Core.List.{List, ◌∷◌, ◌++◌, Memᴰ}
use Rattle.grammar.specs.Grammar.{is_digit, Digits, name, Fact, Text}
use Rattle.grammar.specs.Meaning.{symbols_of}

-- digits, the first of them at place p, where the bytes xs are left, up to place q, where ys are; their value is n
pub data Decimal : ℕ → List ℕ → ℕ → List ℕ → ℕ → Type 0 where
  decimal : {p b q n : ℕ} {xs ys : List ℕ} → is_digit b ≡ true → Digits (b - 48) (suc p) xs q ys n → Decimal p (b ∷ xs) q ys n

-- digits from place p on whose value goes above `most` with the one at place k
pub record Leaves (most p : ℕ) (xs : List ℕ) (k : ℕ) : Type 0 where
  pub value : ℕ
  pub digit : ℕ
  pub rest : List ℕ
  pub before : Decimal p xs k (digit ∷ rest) value
  pub within : value ≤ most
  pub is_digit : is_digit digit ≡ true
  pub above : most < 10 * value + (digit - 48)

-- after these bytes a term may begin: some accepted text begins with them, and right after them a name stands as an argument
pub record TermNext (before : List ℕ) : Type 0 where
  pub rest : List ℕ
  pub facts : List Fact
  pub text : Text (before ++ rest) facts
  pub end : ℕ
  pub args : ℕ
  pub there : Memᴰ (name (length before) end args) (symbols_of facts)
