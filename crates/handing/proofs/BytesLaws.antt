-- Only how long its words are decides how long a text is; and an entry that lies in the text says how long its word is.
use Prim.Native.Nat.{ℕ, zero, suc, ◌+◌, ◌/◌, ◌%◌, ◌≤◌}
use mathlib.Core.Path.{◌≡◌, refl, ◌∙◌}
use mathlib.Core.Bool.{Bool, true, false, cond}
use mathlib.Core.List.{List, [], ◌∷◌}
use native.Mathlib.Omega.{arith}
use lib.Dec.{eqb}
use lib.ListN.{length, get_or, length-replicate}
use lib.Seq.{length-slice}
use Rattle.cell.specs.Cell.{Values, values_at}
use Rattle.printing.specs.Printing.{signed_decimal}
use Rattle.grammar.specs.Numbering.{Words, Nth, here, later}
use Rattle.table.specs.Table.{IsTable}
use Rattle.plan.specs.Plans.{Plan}
use Rattle.termtext.specs.Saying.{words_in, variable_word, symbol_word}
use Rattle.clauses.specs.Clauses.{Body, nothing, calls, Clause, handed}
use Rattle.clauses.specs.Program.{program}
use Rattle.clauses.specs.Handed.{Listed, text_for}
use Rattle.clauses.specs.code.Size.{cell_bytes, body_bytes, program_bytes}
use Rattle.clauses.proofs.SizeLaws.{program-long}
use Rattle.clauses.proofs.Theorems.{program-printed}
use Rattle.handing.specs.code.Lines.{blanks}

module _ (a b : Words) (e : (n : ℕ) → length (get_or a n []) ≡ length (get_or b n [])) where
  same_word : (v : Values) → length (symbol_word a v) ≡ length (symbol_word b v)
  unfolding symbol_word
  same_word v = go (eqb v.kind 0) (eqb v.kind 1) (cond (eqb v.kind 2) (signed_decimal v.value) [])
    where
      go : (x y : Bool) (z : List ℕ) → length (cond x (variable_word v.number) (cond y (get_or a v.number []) z))
          ≡ length (cond x (variable_word v.number) (cond y (get_or b v.number []) z))
      go true y z = refl
      go false true z = e v.number
      go false false z = refl

  same-cells : (cells : List ℕ) → cell_bytes a cells ≡ cell_bytes b cells
  unfolding cell_bytes
  same-cells [] = refl
  same-cells (c ∷ cells) = omega (arith, same_word (values_at c), same-cells cells)

  same_body : (head : List ℕ) (d : Body) → body_bytes a head d ≡ body_bytes b head d
  same_body head nothing = refl
  same_body head (calls j) = omega (arith, same-cells (handed head))

  same_bytes : (cs : List Clause) → program_bytes a cs ≡ program_bytes b cs
  unfolding program_bytes
  same_bytes [] = refl
  same_bytes (c ∷ cs) = omega (arith, same-cells c.head, same_body c.head c.body, same_bytes cs)

word-long : (text names : List ℕ) → ((k n : ℕ) → Nth names k n → n % 65536 + n / 65536 ≤ length text) → (m : ℕ)
    → length (get_or (words_in text names) m []) ≡ length (get_or (blanks names) m [])
word-long text [] h m = refl
word-long text (n ∷ names) h zero =
    omega (arith, length-slice (n % 65536) (n % 65536 + n / 65536) text (h 0 n here), length-replicate {A = ℕ} (n / 65536) 32)
word-long text (n ∷ names) h (suc m) = word-long text names (λ k i x. h (suc k) i (later x)) m

-- so the text of an accepted plan's program has as many bytes as are measured
pub text-long : {t : List ℕ} {w : ℕ} {rows : List (List ℕ)} → IsTable t w rows → (tree : Plan w rows) → {text names : List ℕ}
    → Listed text names rows
    → length (text_for text names (program tree)) ≡ program_bytes (blanks names) (program tree)
text-long i tree {text} {names} l =
    program-long (words_in text names) (program tree) (program-printed i tree l)
    ∙ same_bytes (words_in text names) (blanks names) (word-long text names (λ k n x. (l.places k n x).0)) (program tree)
