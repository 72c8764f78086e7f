-- What is said of a place of a text, for every text and place: computed, by one look at each byte before the place. It is of use where a
-- text is refused, and what it means there is in specs/Expected.
use Rattle.std.specs.Prelude.{ℕ, ◌+◌, ◌-◌, Bool, true, false, not, cond, ◌&&◌, List, [], ◌∷◌, eqb, leb, ltb, take, drop}
use Rattle.grammar.specs.Grammar.{is_lower, is_digit}
use Rattle.grammar.specs.Reader.{is_blank}
use Rattle.expecting.specs.declared.What.{What}
use Rattle.expecting.specs.declared.What.TheVariants as what
use Rattle.expecting.specs.declared.Found.{Found}
use Rattle.expecting.specs.declared.Found.TheVariants as found
use Rattle.expecting.specs.declared.Wanted.{Wanted}
use Rattle.expecting.specs.declared.Stand.{Stand}
use Rattle.expecting.specs.declared.Stand.TheVariants as stand
use Rattle.expecting.specs.declared.Sight.{Sight}

abbrev pub sight : Stand → Bool → ℕ → ℕ → Sight
sight s c d n = record { stand = s; comment = c; depth = d; commas = n }

abbrev pub wanted : What → Found → Wanted
wanted w f = record { what = w; found = f }

-- after layout: it ends a word and a number, and it is what follows a full stop
abbrev pub rested : Stand → Stand
rested stand.First = stand.First
rested stand.Head = stand.Head
rested stand.Arg = stand.Arg
rested stand.Name = stand.After
rested stand.Variable = stand.After
rested stand.Minus = stand.Minus
rested stand.Number = stand.After
rested stand.After = stand.After
rested stand.Closed = stand.Closed
rested stand.Stop = stand.Between
rested stand.Between = stand.Between

-- the first byte of a term that is no minus sign
unfoldable pub termed : ℕ → Stand
termed b = cond (is_lower b) stand.Name (cond (is_digit b) stand.Number stand.Variable)

-- after a letter, a digit or an underscore, with which a term may begin so: a rule's name begins, or a term does, or what was begun goes on
abbrev pub worded : Stand → Stand → Stand
worded stand.First term = stand.Head
worded stand.Head term = stand.Head
worded stand.Arg term = term
worded stand.Name term = stand.Name
worded stand.Variable term = stand.Variable
worded stand.Minus term = stand.Number
worded stand.Number term = stand.Number
worded stand.After term = stand.After
worded stand.Closed term = stand.Closed
worded stand.Stop term = stand.Stop
worded stand.Between term = stand.Head

-- after `(`: of the rule's own name, or of a name inside, whose commas are counted anew where its level is the one that is asked for
abbrev pub is_head : Stand → Bool
is_head stand.First = false
is_head stand.Head = true
is_head stand.Arg = false
is_head stand.Name = false
is_head stand.Variable = false
is_head stand.Minus = false
is_head stand.Number = false
is_head stand.After = false
is_head stand.Closed = false
is_head stand.Stop = false
is_head stand.Between = false

unfoldable pub opened : ℕ → Stand → ℕ → ℕ → Sight
opened level s depth commas =
    cond (is_head s) (sight stand.Arg false 0 commas)
    (sight stand.Arg false (depth + 1) (cond (eqb (depth + 1) level) 0 commas))

-- after `)`: of a name inside, or the rule's last
unfoldable pub closed : ℕ → ℕ → Sight
closed depth commas = cond (eqb depth 0) (sight stand.Closed false 0 commas) (sight stand.After false (depth - 1) commas)

-- after `,`
abbrev pub after_comma : ℕ → ℕ → ℕ → Sight
after_comma level depth commas = sight stand.Arg false depth (cond (eqb depth level) (commas + 1) commas)

-- outside a comment. `%`, `(`, `)`, `,`, `-` and `.` are 37, 40, 41, 44, 45 and 46
unfoldable pub seen : ℕ → Stand → ℕ → ℕ → ℕ → Sight
seen level s depth commas b =
    cond (eqb b 37) (sight (rested s) true depth commas)
    (cond (is_blank b) (sight (rested s) false depth commas)
    (cond (eqb b 40) (opened level s depth commas)
    (cond (eqb b 41) (closed depth commas)
    (cond (eqb b 44) (after_comma level depth commas)
    (cond (eqb b 45) (sight stand.Minus false depth commas)
    (cond (eqb b 46) (sight stand.Stop false 0 commas)
    (sight (worded s (termed b)) false depth commas)))))))

-- one byte further
unfoldable pub glance : ℕ → Sight → ℕ → Sight
glance level s b =
    cond s.comment (sight s.stand (not (eqb b 10)) s.depth s.commas) (seen level s.stand s.depth s.commas b)

unfoldable pub look_from : ℕ → Sight → List ℕ → Sight
look_from level s [] = s
look_from level s (b ∷ bytes) = look_from level (glance level s b) bytes

abbrev pub look_at : ℕ → List ℕ → Sight
look_at level bytes = look_from level (sight stand.First false 0 0) bytes

-- after a term: a name has at most 4 arguments, the rule itself any number of them
abbrev pub marks : ℕ → ℕ → What
marks depth commas = cond (ltb 0 depth && leb 3 commas) what.Close what.Mark

-- by what was read last, with what follows a term
abbrev pub what_by : Stand → What → What
what_by stand.First next_mark = what.Name
what_by stand.Head next_mark = what.Open
what_by stand.Arg next_mark = what.Term
what_by stand.Name next_mark = next_mark
what_by stand.Variable next_mark = next_mark
what_by stand.Minus next_mark = what.Digit
what_by stand.Number next_mark = next_mark
what_by stand.After next_mark = next_mark
what_by stand.Closed next_mark = what.Full
what_by stand.Stop next_mark = what.Blank
what_by stand.Between next_mark = what.Next

abbrev pub what_of : Stand → ℕ → ℕ → What
what_of s depth commas = what_by s (marks depth commas)

abbrev pub in_number : Stand → Bool
in_number stand.First = false
in_number stand.Head = false
in_number stand.Arg = false
in_number stand.Name = false
in_number stand.Variable = false
in_number stand.Minus = false
in_number stand.Number = true
in_number stand.After = false
in_number stand.Closed = false
in_number stand.Stop = false
in_number stand.Between = false

-- layout may stand before what is expected: not right after a rule's name or a minus sign
abbrev pub spaced : What → Bool
spaced what.Name = true
spaced what.Next = true
spaced what.Open = false
spaced what.Term = true
spaced what.Digit = false
spaced what.Mark = true
spaced what.Close = true
spaced what.Full = true
spaced what.Blank = true

-- what stands at the place, after a number or not, where layout may stand or not. A tab is byte 9
abbrev pub tabbed : Bool → ℕ → Found
tabbed layout b = cond (layout && eqb b 9) found.Tab found.Other

unfoldable pub found_by : Bool → Bool → ℕ → Found
found_by number layout b = cond (number && is_digit b) found.Large (tabbed layout b)

unfoldable pub found_at : Stand → What → List ℕ → Found
found_at s w [] = found.Other
found_at s w (b ∷ bytes) = found_by (in_number s) (spaced w) b

-- what is said of the place after some bytes, with these bytes from there on
abbrev pub wanted_by : Sight → List ℕ → Wanted
wanted_by s rest = wanted (what_of s.stand s.depth s.commas) (found_at s.stand (what_of s.stand s.depth s.commas) rest)

-- the commas are those of the innermost open name: a first look says on which level it is
abbrev pub wanted_after : List ℕ → List ℕ → Wanted
wanted_after bytes rest = wanted_by (look_at (look_at 0 bytes).depth bytes) rest

unfoldable pub wanted_at : List ℕ → ℕ → Wanted
wanted_at t k = wanted_after (take k t) (drop k t)
