-- How many bytes a text has, piece by piece, and how many variables some cells have.
use Prim.Native.Nat.{ℕ, zero, suc, ◌+◌, ◌-◌, ◌/◌, ◌%◌, ◌≤◌, ◌<◌}
use mathlib.Core.Path.{◌≡◌, refl, sym, ◌∙◌, ap}
use mathlib.Core.Logic.{◌≢◌}
use mathlib.Core.Bool.{cond}
use mathlib.Core.List.{List, [], ◌∷◌}
use native.Mathlib.Omega.{arith}
use lib.Dec.{eqb}
use lib.ListN.{length, get_or, drop, length-append, length-replicate, drop_of_length-le}
use lib.Seq.{drop-cons}
use borrow.Author.Tests.{eq-eqb, ne_eqb}
use Rattle.cell.specs.Cell.{number_of, values_at}
use Rattle.octets.specs.Octets.{decimal}
use Rattle.octets.proofs.DecimalLaws.{decimal-small, decimal-more, digits-few}
use Rattle.printing.specs.Printing.{value}
use Rattle.printing.proofs.SymbolLaws.{value_low, value-high}
use Rattle.grammar.specs.Numbering.{Words}
use Rattle.termtext.specs.Saying.{symbol_word}
use Rattle.clauses.specs.code.Size.{cell_bytes}
use Rattle.handing.specs.code.Lines.{blanks, met_in}

pub one-digit : (n : ℕ) → n < 10 → length (decimal n) ≡ 1
one-digit n h = ap length (decimal-small n h)

pub more-digits : (n : ℕ) → 10 ≤ n → length (decimal n) ≡ length (decimal (n / 10)) + 1
more-digits n h = omega (arith, ap length (decimal-more n h), length-append (decimal (n / 10)) ((48 + n % 10) ∷ []))

-- the value of a cell's 16 bits, without a sign and with one
pub low-bytes : (c n r : ℕ) → n ≡ number_of c → n < 32768 → r ≡ length (decimal n) → (r ≡ length (value c)) × (r ≤ 6)
low-bytes c n r e h d = (d ∙ ap length (sym (value_low c e h)), omega (arith, d, digits-few 4 n (omega arith)))

pub high-bytes : (c n r : ℕ) → n ≡ number_of c → 32768 ≤ n → r ≡ length (decimal (65536 - n)) → (1 + r ≡ length (value c)) × (1 + r ≤ 6)
high-bytes c n r e h d =
    (omega (arith, d, ap length (value-high c e h (omega arith))), omega (arith, d, digits-few 4 (65536 - n) (omega arith)))

-- a name's word, where the list has it and where not
pub name-none : (names : List ℕ) (n : ℕ) → length names ≤ n → 0 ≡ length (get_or (blanks names) n [])
name-none [] n h = refl
name-none (m ∷ names) zero h = absurd (omega arith)
name-none (m ∷ names) (suc n) h = name-none names n (omega arith)

pub name-some : (names : List ℕ) (n : ℕ) → n < length names → get_or names n 0 / 65536 ≡ length (get_or (blanks names) n [])
name-some [] n h = absurd (omega arith)
name-some (m ∷ names) zero h = sym (length-replicate (m / 65536) 32)
name-some (m ∷ names) (suc n) h = name-some names n (omega arith)

-- the cells' bytes from a place on
cell-sum : (words : Words) (cells : List ℕ) (i : ℕ) → i < length cells
    → cell_bytes words (drop i cells) ≡ length (symbol_word words (values_at (get_or cells i 0))) + 2 + cell_bytes words (drop (i + 1) cells)
unfolding cell_bytes
cell-sum words cells i h = let e : i + 1 ≡ suc i = omega arith in rw (e, drop-cons cells i 0 h)

pub no_cells : (words : Words) (cells : List ℕ) (i : ℕ) → length cells ≤ i → cell_bytes words (drop i cells) ≡ 0
unfolding cell_bytes
no_cells words cells i h = rw (drop_of_length-le cells h)

-- the variables from a place on
pub met-on : (cells : List ℕ) (i v : ℕ) → i < length cells
    → met_in (drop i cells) v ≡ met_in (drop (i + 1) cells) (cond (eqb (get_or cells i 0) v) (suc v) v)
unfolding met_in
met-on cells i v h = let e : i + 1 ≡ suc i = omega arith in rw (e, drop-cons cells i 0 h)

pub met-end : (cells : List ℕ) (i v : ℕ) → length cells ≤ i → met_in (drop i cells) v ≡ v
unfolding met_in
met-end cells i v h = rw (drop_of_length-le cells h)

pub met-new : (c v : ℕ) → c ≡ v → (v + 1 ≡ cond (eqb c v) (suc v) v) × (v + 1 ≤ suc v)
met-new c v e = let o : v + 1 ≡ suc v = omega arith in (rw (eq-eqb c v e) o, omega arith)

pub met-old : (c v : ℕ) → c ≢ v → (v ≡ cond (eqb c v) (suc v) v) × (v ≤ suc v)
met-old c v e = (rw (ne_eqb c v e), omega arith)

-- one word more in a sum
pub sum-on : (words : Words) (cells : List ℕ) (i sum r whole : ℕ) → i < length cells
    → r ≡ length (symbol_word words (values_at (get_or cells i 0))) → sum + cell_bytes words (drop i cells) ≡ whole
    → sum + (r + 2) + cell_bytes words (drop (i + 1) cells) ≡ whole
sum-on words cells i sum r whole h e s = omega (arith, cell-sum words cells i h)
