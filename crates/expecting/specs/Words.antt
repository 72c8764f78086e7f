-- The words of a message, as bytes.
use Rattle.std.specs.Prelude.{ℕ, List, [], ◌∷◌, ◌++◌}
use Prim.Native.Char.{code}
use Prim.Native.String as text
use Prim.Native.String.{String}
use Rattle.expecting.specs.declared.What.{What}
use Rattle.expecting.specs.declared.What.TheVariants as what
use Rattle.expecting.specs.declared.Found.{Found}
use Rattle.expecting.specs.declared.Found.TheVariants as found
use Rattle.expecting.specs.declared.Wanted.{Wanted}

-- the bytes of a quoted text, whose characters are one byte each
unfoldable pub bytes : String → List ℕ
bytes text.[] = []
bytes (text.◌∷◌ c s) = code c ∷ bytes s

unfoldable pub what_words : What → List ℕ
what_words what.Name = bytes "a name that begins with a small letter is expected"
what_words what.Next = bytes "a name that begins with a small letter or the end is expected"
what_words what.Open = bytes "`(` is expected right after the name"
what_words what.Term = bytes "a name, a variable or a number is expected"
what_words what.Digit = bytes "a digit is expected right after `-`"
what_words what.Mark = bytes "`,` or `)` is expected"
what_words what.Close = bytes "`)` is expected: a name has at most 4 arguments"
what_words what.Full = bytes "`.` is expected"
what_words what.Blank = bytes "a blank, a new line or the end is expected after `.`"

-- before them, where a message says what stands there instead
unfoldable pub found_words : Found → List ℕ
found_words found.Tab = bytes "a tab: blanks and line ends are taken; "
found_words found.Large = bytes "a number from -32,768 to 32,767, then "
found_words found.Other = []

abbrev pub message : Wanted → List ℕ
message w = found_words w.found ++ what_words w.what
