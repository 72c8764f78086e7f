-- What is answered of a program's size, and what is put of it.
use Rattle.std.specs.Prelude.{ℕ, ◌≤◌, ◌<◌, ◌≡◌, List, ◌++◌, length, drop, Result}
use Rattle.refusal.specs.Refusal.{refused, answered, turned}
use Rattle.refusal.specs.declared.Reason.TheVariants as reason
use Rattle.refusal.specs.declared.Input.TheVariants as input
use Rattle.clauses.specs.Clauses.{Clause}
use Rattle.clauses.specs.Handed.{hand_told}
use Rattle.clauses.specs.declared.ProgramSize.{ProgramSize}
use Rattle.refusal.specs.declared.Refusal.{Refusal}
use Rattle.clauses.specs.code.Size.{program_bytes}
use Rattle.handing.specs.code.Lines.{blanks}

pub record Measured (names : List ℕ) (all : List Clause) (size : ProgramSize) : Type 0 where
  pub clauses : size.clauses ≡ length all
  pub bytes : size.bytes ≡ program_bytes (blanks names) all

-- of a text: it is put if the room is enough, and otherwise its length is said
pub data Gives (clauses : ℕ) (text room room' : List ℕ) (result : Result ProgramSize Refusal) : Type 0 where
  short : length room < length text → hand_told result ≡ turned (refused reason.Room input.Lent (length text)) → room' ≡ room
      → Gives clauses text room room' result
  enough : length text ≤ length room → hand_told result ≡ answered clauses (length text) → room' ≡ text ++ drop (length text) room
      → Gives clauses text room room' result
