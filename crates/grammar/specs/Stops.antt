-- 02, W-201: "TEXT at the first byte (or the end) where no accepted text could go on so". By the grammar alone.
use Rattle.std.specs.Prelude.{ℕ, suc, ◌<◌, List, ◌++◌, length, take}
use Rattle.grammar.specs.Grammar.{Fact, Text}

-- some accepted text begins so
pub record Begins (u : List ℕ) : Type 0 where
  pub rest : List ℕ
  pub facts : List Fact
  pub text : Text (u ++ rest) facts

-- an accepted text begins with the bytes before place k, and none with the byte there too; or the text ends where it could only go on
pub data Stops (t : List ℕ) : ℕ → Type 0 where
  at_byte : {k : ℕ} → k < length t → Begins (take k t) → (Begins (take (suc k) t) → ⊥) → Stops t k
  at-end : Begins t → ((fs : List Fact) → Text t fs → ⊥) → Stops t (length t)
