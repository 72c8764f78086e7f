-- What a message means where a text is refused (TEXT): which bytes it names, and that these are the bytes with which some accepted text
-- goes on there, by the grammar.
use Rattle.std.specs.Prelude.{ℕ, suc, ◌+◌, ◌-◌, ◌*◌, ◌<◌, ◌≡◌, Bool, true, false, not, cond, ◌&&◌, ◌||◌, List, [], ◌∷◌, ◌++◌, ◌↔◌, eqb, leb, take, drop}
use Rattle.grammar.specs.Grammar.{is_lower, is_upper, is_digit, is_word, Blank, Fact, Text}
use Rattle.grammar.specs.Reader.{Mode, first, head, arg, word, minus, digits, after, closed, stop, between, remark, Work, nothing, Next, dead, go}
use Rattle.grammar.specs.Reader.{says, is_blank, limit, step}
use Rattle.grammar.specs.Stops.{Begins}
use Rattle.expecting.specs.declared.What.{What}
use Rattle.expecting.specs.declared.What.TheVariants as what
use Rattle.expecting.specs.declared.Found.{Found}
use Rattle.expecting.specs.declared.Found.TheVariants as found
use Rattle.expecting.specs.declared.Wanted.{Wanted}
use Rattle.expecting.specs.Looking.{spaced}

-- "a name": a small letter. "a variable": a capital letter or `_`. "a number": a digit or `-` (45)
abbrev pub names : What → ℕ → Bool
names what.Name b = is_lower b
names what.Next b = is_lower b
names what.Open b = eqb b 40
names what.Term b = is_lower b || (is_upper b || (is_digit b || eqb b 45))
names what.Digit b = is_digit b
names what.Mark b = eqb b 44 || eqb b 41
names what.Close b = eqb b 41
names what.Full b = eqb b 46
names what.Blank b = false

-- with the layout before it: "a blank, a new line", or a comment
abbrev pub takes : What → ℕ → Bool
takes w b = names w b || (spaced w && (is_blank b || eqb b 37))

-- "the end"
abbrev pub may_end : What → Bool
may_end what.Name = false
may_end what.Next = true
may_end what.Open = false
may_end what.Term = false
may_end what.Digit = false
may_end what.Mark = false
may_end what.Close = false
may_end what.Full = false
may_end what.Blank = true

-- the reader's mode after some bytes, if a text begins with them
pub data Reached : Type 0 where
  lost : Reached
  here : Mode → Work → Reached

abbrev pub onward : Next → (Mode → Work → Reached) → Reached
onward dead k = lost
onward (go m w) k = k m w
onward (says f m w) k = k m w

unfoldable pub reach : List ℕ → Mode → Work → ℕ → Reached
reach [] m w p = here m w
reach (b ∷ xs) m w p = onward (step m w p b) (λ (m' : Mode) (w' : Work). reach xs m' w' (suc p))

-- No message names what only goes on with the word that stands right before the place: of a name or a variable the next letter, digit or
-- underscore, of a name inside a rule its bracket, of a number a digit that leaves it in the range
abbrev pub goes_on_in : Mode → ℕ → Bool
goes_on_in first b = false
goes_on_in (head s) b = is_word b
goes_on_in arg b = false
goes_on_in (word n s) b = is_word b || (n && eqb b 40)
goes_on_in minus b = false
goes_on_in (digits sign v) b = is_digit b && leb (10 * v + (b - 48)) (limit sign)
goes_on_in after b = false
goes_on_in closed b = false
goes_on_in stop b = false
goes_on_in between b = false
goes_on_in (remark m) b = false

abbrev pub goes_on_at : Reached → ℕ → Bool
goes_on_at lost b = false
goes_on_at (here m w) b = goes_on_in m b

abbrev pub goes_on : List ℕ → ℕ → Bool
goes_on u b = goes_on_at (reach u first nothing 0) b

-- bytes that end inside a comment
unfoldable pub in_comment : Bool → List ℕ → Bool
in_comment c [] = c
in_comment true (b ∷ bytes) = in_comment (not (eqb b 10)) bytes
in_comment false (b ∷ bytes) = in_comment (eqb b 37) bytes

-- the bytes before a place, with a line feed after them where they end inside a comment
unfoldable pub ahead : List ℕ → ℕ → List ℕ
ahead t k = cond (in_comment false (take k t)) (take k t ++ (10 ∷ [])) (take k t)

-- What is said is right of these bytes: some accepted text goes on from them with a byte exactly when the message names it, or it goes on
-- with the word before; and a text may end with them exactly when the message says so
pub record Right (u : List ℕ) (w : What) : Type 0 where
  pub bytes : (b : ℕ) → Begins (u ++ (b ∷ [])) ↔ ((goes_on u b || takes w b) ≡ true)
  pub ends : ((fs : List Fact) × Text u fs) ↔ (may_end w ≡ true)

-- "a number from -32,768 to 32,767": after the digits of a number a digit stands with which it leaves the range
pub record Leaves (u rest : List ℕ) : Type 0 where
  pub digit : ℕ
  pub others : List ℕ
  pub stands : rest ≡ digit ∷ others
  pub one : is_digit digit ≡ true
  pub sign : Bool
  pub value : ℕ
  pub work : Work
  pub number : reach u first nothing 0 ≡ here (digits sign value) work
  pub over : limit sign < 10 * value + (digit - 48)

-- "a tab: blanks and line ends are taken"
pub record Tabbed (u rest : List ℕ) : Type 0 where
  pub others : List ℕ
  pub stands : rest ≡ 9 ∷ others
  pub taken : (b : ℕ) → Blank b → Begins (u ++ (b ∷ []))

-- what is said of the byte that stands there is right too
abbrev pub RightOf : List ℕ → List ℕ → Found → Type 0
RightOf u rest found.Tab = Tabbed u rest
RightOf u rest found.Large = Leaves u rest
RightOf u rest found.Other = Unit {0}

-- of a place of a text
pub record Expects (t : List ℕ) (k : ℕ) (w : Wanted) : Type 0 where
  pub expected : Right (ahead t k) w.what
  pub instead : RightOf (ahead t k) (drop k t) w.found
