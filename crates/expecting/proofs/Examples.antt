-- Worked examples, computed: the place at which a text is refused, and what is said there.
use Prim.Native.Nat.{ℕ}
use Prim.Native.String.{String}
use mathlib.Core.Path.{◌≡◌, refl}
use mathlib.Core.List.{List, [], ◌∷◌, map}
use Rattle.grammar.specs.Grammar.{is_lower, is_upper, is_digit, is_word}
use Rattle.grammar.specs.Reader.{Out, stops, reads, is_blank, layout, push, put, past, step, finish, run, text_of}
use Rattle.grammar.specs.Reader as R
use Rattle.expecting.specs.Looking.{termed, opened, closed, seen, glance, look_from, found_by, found_at, wanted_at}
use Rattle.expecting.specs.Words.{bytes, what_words, found_words, message}

pub record Case : Type 0 where
  pub text : String
  pub place : ℕ
  pub says : String

abbrev at : String → ℕ → String → Case
at t k m = record { text = t; place = k; says = m }

-- what is said of a refused text, and where
pub record Told : Type 0 where
  pub place : ℕ
  pub says : List ℕ

unfoldable pub told_of : List ℕ → Out → List Told
told_of t (stops k) = record { place = k; says = message (wanted_at t k) } ∷ []
told_of t (reads fs) = []

unfoldable pub cases : List Case
cases =
    at "" 0 "a name that begins with a small letter is expected"
    ∷ at "%c" 2 "a name that begins with a small letter is expected"
    ∷ at "P(a)." 0 "a name that begins with a small letter is expected"
    ∷ at "p" 1 "`(` is expected right after the name"
    ∷ at "p (a)." 1 "`(` is expected right after the name"
    ∷ at "p\t(a)." 1 "`(` is expected right after the name"
    ∷ at "p(" 2 "a name, a variable or a number is expected"
    ∷ at "p(%c" 4 "a name, a variable or a number is expected"
    ∷ at "p(a,b," 6 "a name, a variable or a number is expected"
    ∷ at "p(\ta)." 2 "a tab: blanks and line ends are taken; a name, a variable or a number is expected"
    ∷ at "p(a" 3 "`,` or `)` is expected"
    ∷ at "p(f(g(a),b)" 11 "`,` or `)` is expected"
    ∷ at "p(1,2,3,4,5;" 11 "`,` or `)` is expected"
    ∷ at "p(f(1,2,3,4" 11 "`)` is expected: a name has at most 4 arguments"
    ∷ at "p(f(1,2,3,g(1,2),5" 16 "`)` is expected: a name has at most 4 arguments"
    ∷ at "p(f(1,2,3,g(1,2)" 16 "`)` is expected: a name has at most 4 arguments"
    ∷ at "p(-" 3 "a digit is expected right after `-`"
    ∷ at "p(a)" 4 "`.` is expected"
    ∷ at "p(a) %c" 7 "`.` is expected"
    ∷ at "p(a):-q." 4 "`.` is expected"
    ∷ at "p(a)\t." 4 "a tab: blanks and line ends are taken; `.` is expected"
    ∷ at "p(a).q" 5 "a blank, a new line or the end is expected after `.`"
    ∷ at "p(a).\tq(b)." 5 "a tab: blanks and line ends are taken; a blank, a new line or the end is expected after `.`"
    ∷ at "p(a). !" 6 "a name that begins with a small letter or the end is expected"
    ∷ at "p(32768)." 6 "a number from -32,768 to 32,767, then `,` or `)` is expected"
    ∷ at "p(f(1,2,3,-32769))." 15 "a number from -32,768 to 32,767, then `)` is expected: a name has at most 4 arguments"
    ∷ at "p(9a)." 3 "`,` or `)` is expected"
    ∷ []

pub examples : map (λ (c : Case). told_of (bytes c.text) (text_of (bytes c.text))) cases
    ≡ map (λ (c : Case). record { place = c.place; says = bytes c.says } ∷ []) cases
unfolding cases bytes told_of text_of run step finish layout is_blank push put R.on_comma R.on_close past is_lower is_upper is_digit is_word termed opened
    closed seen glance look_from found_by found_at wanted_at what_words found_words
examples = refl
