-- The text of a table's facts (02, W-201 and W-206), by ISO/IEC 13211-1, 6.2 to 6.5, as far as the request goes. A text is a list of bytes.
--
--     text     = gap fact { gap1 fact } gap                          6.2.1; gap1 is a gap of at least one byte
--     fact     = name "(" args ")" gap "."                           6.2.1, clause term and end
--     args     = gap term gap { "," gap term gap }                   6.3.3, arg list
--     term     = name | name "(" args ")" | variable | number        6.3, a name with at most 4 arguments
--     gap      = { space | line feed | carriage return | comment }   6.4.1, layout text
--     comment  = "%" { any byte but a line feed } ( line feed | the end of the text )
--     name     = a-z { a-z | A-Z | 0-9 | "_" }                       6.4.2, letter digit token
--     variable = ( A-Z | "_" ) { a-z | A-Z | 0-9 | "_" }             6.4.3
--     number   = digits | "-" digits                                 6.3.1.2, "-" directly before the digits
--     digits   = 0-9 { 0-9 }                                         6.4.4, at most 32,767, after "-" at most 32,768
--
-- Each relation below says how one of these is read: `R p xs q ys` goes from place p, where the bytes xs are left, to place q, where ys
-- are.
use Rattle.std.specs.Prelude.{ℕ, suc, ◌+◌, ◌-◌, ◌*◌, ◌≤◌, ◌<◌, ◌≡◌, Bool, true, false, ◌&&◌, ◌||◌, List, [], ◌∷◌, ◌++◌, eqb, leb, pos, neg_ℤ}
use Rattle.cell.specs.Signed.{bits_of}

-- "names in lower case": `a` to `z`
unfoldable pub is_lower : ℕ → Bool
is_lower b = leb 97 b && leb b 122

-- "variables in upper case, `_` ..": `A` to `Z` and `_`
unfoldable pub is_upper : ℕ → Bool
is_upper b = eqb b 95 || (leb 65 b && leb b 90)

-- `0` to `9`
unfoldable pub is_digit : ℕ → Bool
is_digit b = leb 48 b && leb b 57

-- what names and variables go on with (6.5.2, alphanumeric char)
unfoldable pub is_word : ℕ → Bool
is_word b = is_lower b || (is_upper b || is_digit b)

-- "spaces, line ends": the space, the line feed, the carriage return
pub data Blank : ℕ → Type 0 where
  space : Blank 32
  feed : Blank 10
  return : Blank 13

-- "`%` comments to the end of the line": the rest of such a line with its line feed. The end of the text ends a line too
pub data Line : ℕ → List ℕ → ℕ → List ℕ → Type 0 where
  ended : {p : ℕ} → Line p [] p []
  feed : {p : ℕ} {xs : List ℕ} → Line p (10 ∷ xs) (suc p) xs
  byte : {p b q : ℕ} {xs ys : List ℕ} → eqb b 10 ≡ false → Line (suc p) xs q ys → Line p (b ∷ xs) q ys

-- a gap: blanks and comments, none too. `%` is 37
pub data Gap : ℕ → List ℕ → ℕ → List ℕ → Type 0 where
  none : {p : ℕ} {xs : List ℕ} → Gap p xs p xs
  blank : {p b q : ℕ} {xs ys : List ℕ} → Blank b → Gap (suc p) xs q ys → Gap p (b ∷ xs) q ys
  remark : {p r q : ℕ} {xs zs ys : List ℕ} → Line (suc p) xs r zs → Gap r zs q ys → Gap p (37 ∷ xs) q ys

-- a name or a variable after its first byte, nothing too
pub data Word : ℕ → List ℕ → ℕ → List ℕ → Type 0 where
  none : {p : ℕ} {xs : List ℕ} → Word p xs p xs
  more : {p b q : ℕ} {xs ys : List ℕ} → is_word b ≡ true → Word (suc p) xs q ys → Word p (b ∷ xs) q ys

-- digits, none too, from the value before them to the value with them: "`09` and `9` are the number 9"
pub data Digits : ℕ → ℕ → List ℕ → ℕ → List ℕ → ℕ → Type 0 where
  none : {v p : ℕ} {xs : List ℕ} → Digits v p xs p xs v
  more : {before p digit q value : ℕ} {xs ys : List ℕ} → is_digit digit ≡ true
      → Digits (10 * before + (digit - 48)) (suc p) xs q ys value → Digits before p (digit ∷ xs) q ys value

-- A symbol where it stands: a name with its start, the place after it and its number of arguments; a variable with its start and the place
-- after it; a number's 16 bits
pub data Symbol : Type 0 where
  name : (start end args : ℕ) → Symbol
  variable : (start end : ℕ) → Symbol
  number : ℕ → Symbol

-- the 16 bits of a number after a minus sign. `-0` is 0
abbrev pub negative : ℕ → ℕ
negative n = bits_of (neg_ℤ (pos n))

-- A term, as its symbols in the order of the text; and the arguments of a name from one on, the first being 0, up to its last, with the
-- commas between them and the bracket after them. `(`, `)` and `,` are 40, 41 and 44; "(" follows its name at once (6.3.3, open ct).
-- "a name inside at most 4"; W-206: "from -32,768 to 32,767", "the text reader takes a minus sign directly before the digits". `-` is 45
mutual
  pub data Term : ℕ → List ℕ → ℕ → List ℕ → List Symbol → Type 0 where
    is_name : {p b q : ℕ} {xs ys : List ℕ} → is_lower b ≡ true → Word (suc p) xs q ys → Term p (b ∷ xs) q ys (name p q 0 ∷ [])
    is-compound : {start byte bracket end last : ℕ} {rest inside left : List ℕ} {symbols : List Symbol}
        → is_lower byte ≡ true → Word (suc start) rest bracket (40 ∷ inside)
        → Args 0 (suc bracket) inside end left last symbols → last ≤ 3
        → Term start (byte ∷ rest) end left (name start bracket (suc last) ∷ symbols)
    is-variable : {p b q : ℕ} {xs ys : List ℕ} → is_upper b ≡ true → Word (suc p) xs q ys → Term p (b ∷ xs) q ys (variable p q ∷ [])
    is_number : {p b q n : ℕ} {xs ys : List ℕ} → is_digit b ≡ true → Digits (b - 48) (suc p) xs q ys n → n ≤ 32767
        → Term p (b ∷ xs) q ys (number n ∷ [])
    is_negative : {p b q n bits : ℕ} {xs ys : List ℕ} → is_digit b ≡ true → Digits (b - 48) (suc (suc p)) xs q ys n → n ≤ 32768
        → bits ≡ negative n → Term p (45 ∷ b ∷ xs) q ys (number bits ∷ [])

  pub data Args : ℕ → ℕ → List ℕ → ℕ → List ℕ → ℕ → List Symbol → Type 0 where
    last : {argument p term after bracket : ℕ} {xs terms gap left : List ℕ} {symbols : List Symbol}
        → Gap p xs term terms → Term term terms after gap symbols → Gap after gap bracket (41 ∷ left)
        → Args argument p xs (suc bracket) left argument symbols
    more : {argument p term after comma end last : ℕ} {xs terms gap rest left : List ℕ} {symbols others all : List Symbol}
        → Gap p xs term terms → Term term terms after gap symbols → Gap after gap comma (44 ∷ rest)
        → Args (suc argument) (suc comma) rest end left last others → all ≡ symbols ++ others
        → Args argument p xs end left last all

-- A fact: where its predicate's name stands, the place after it, its number of arguments, its symbols
pub record Fact : Type 0 where
  pub start : ℕ
  pub end : ℕ
  pub width : ℕ
  pub symbols : List Symbol

abbrev pub fact : ℕ → ℕ → ℕ → List Symbol → Fact
fact s e w ss = record { start = s; end = e; width = w; symbols = ss }

-- "a fact at least one argument". `.` is 46
pub data OneFact : ℕ → List ℕ → ℕ → List ℕ → Fact → Type 0 where
  one : {start byte bracket after stop last : ℕ} {rest inside gap left : List ℕ} {symbols : List Symbol}
      → is_lower byte ≡ true → Word (suc start) rest bracket (40 ∷ inside)
      → Args 0 (suc bracket) inside after gap last symbols → Gap after gap stop (46 ∷ left)
      → OneFact start (byte ∷ rest) (suc stop) left (fact start bracket (suc last) symbols)

-- "A text has at least one fact". After a full stop the text ends or layout follows (6.4.8): between two facts there is some
pub data Facts : ℕ → List ℕ → List Fact → Type 0 where
  last : {p q r : ℕ} {xs ys : List ℕ} {f : Fact} → OneFact p xs q ys f → Gap q ys r [] → Facts p xs (f ∷ [])
  more : {p q r : ℕ} {xs ys zs : List ℕ} {f : Fact} {fs : List Fact} → OneFact p xs q ys f → Gap q ys r zs → q < r → Facts r zs fs
      → Facts p xs (f ∷ fs)

-- "The reader accepts exactly the grammar": an accepted text, and the facts that are read from it
pub record Text (t : List ℕ) (fs : List Fact) : Type 0 where
  pub at : ℕ
  pub rest : List ℕ
  pub layout : Gap 0 t at rest
  pub facts : Facts at rest fs
