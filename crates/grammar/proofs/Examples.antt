-- Worked examples, computed: what the definitions say of these texts.
use Prim.Native.Nat.{ℕ, ◌+◌, ◌*◌, ◌^◌}
use Prim.Native.Char.{code}
use Prim.Native.String as text
use Prim.Native.String.{String}
use mathlib.Core.Path.{◌≡◌, refl}
use mathlib.Core.List.{List, [], ◌∷◌, map, flatten}
use Rattle.cell.specs.Cell.{variable_cell, name_cell, number_cell}
use Rattle.refusal.specs.Refusal.{refused}
use Rattle.refusal.specs.Read.{Read, read, refuse, and_then}
use Rattle.refusal.specs.declared.Reason.{Reason}
use Rattle.refusal.specs.declared.Reason.TheVariants.{Text, Other}
use Rattle.refusal.specs.declared.Input.TheVariants as input
use Rattle.grammar.specs.Grammar.{is_lower, is_upper, is_digit, is_word, Fact}
use Rattle.cell.specs.Same.{same}
use Rattle.grammar.specs.Meaning.{position, meet, names_from, variable_number, variables_with, cells_from, width_of, table_cells, name_list, other_than, other_in}
use Rattle.grammar.specs.Reader.{is_blank, layout, push, put, on_comma, on_close, past, step, finish, run, text_of}
use Rattle.grammar.proofs.Fixed.{taken_of}

-- the bytes of a quoted text, whose characters are one byte each
unfoldable pub bytes : String → List ℕ
bytes text.[] = []
bytes (text.◌∷◌ c s) = code c ∷ bytes s

-- a text's cells and its list of names, or why it is turned away
pub record Said : Type 0 where
  pub cells : List ℕ
  pub names : List ℕ

unfoldable pub said : List ℕ → Read Said
said t = and_then (taken_of t) (λ (fs : List Fact). read (record { cells = table_cells t fs; names = name_list t fs }))

pub record Case : Type 0 where
  pub text : String
  pub says : Read Said

abbrev stops : String → Reason → ℕ → Case
stops s r k = record { text = s; says = refuse (refused r input.Text k) }

abbrev means : String → List ℕ → List ℕ → Case
means s cs ns = record { text = s; says = read (record { cells = cs; names = ns }) }

-- a name's start and bytes, as the list has them
abbrev at : ℕ → ℕ → ℕ
at start bytes' = bytes' * 2 ^ 16 + start

unfoldable pub cases : List Case
cases =
    stops "" Text 0
    ∷ stops "P(a)." Text 0
    ∷ stops "p" Text 1
    ∷ stops "p." Text 1
    ∷ stops "p (a)." Text 1
    ∷ stops "p()." Text 2
    ∷ stops "p('a')." Text 2
    ∷ stops "p([])." Text 2
    ∷ stops "p(+1)." Text 2
    ∷ stops "p(9a)." Text 3
    ∷ stops "p(- 1)." Text 3
    ∷ stops "p(--1)." Text 3
    ∷ stops "p(-a)." Text 3
    ∷ stops "p(-%\n1)." Text 3
    ∷ stops "p(-" Text 3
    ∷ stops "p(a-1)." Text 3
    ∷ stops "p(A(a))." Text 3
    ∷ stops "p(a)" Text 4
    ∷ stops "p(f (a))." Text 4
    ∷ stops "p(a b)." Text 4
    ∷ stops "p(a):-q." Text 4
    ∷ stops "p(a).p(b)." Text 5
    ∷ stops "p(a).\t" Text 5
    ∷ stops "p(32768)." Text 6
    ∷ stops "p(-32769)." Text 7
    ∷ stops "p(a). ." Text 6
    ∷ stops "p(f(a,b,c,d,e))." Text 11
    ∷ stops "p(a). q(b). !" Text 12
    ∷ stops "%" Text 1
    ∷ stops "p(a) % b" Text 8
    ∷ stops "p(a). q(b)." Other 6
    ∷ stops "p(a). pp(a)." Other 6
    ∷ stops "p(a). p(a,b)." Other 6
    ∷ stops "p(a). p(b). q(c). p(d,e)." Other 12
    ∷ means "p(p)." (1 ∷ 1 ∷ name_cell 0 0 ∷ []) (at 2 1 ∷ [])
    ∷ means "p(f,f(a))." (2 ∷ 1 ∷ name_cell 0 0 ∷ name_cell 1 0 ∷ name_cell 0 1 ∷ []) (at 2 1 ∷ at 6 1 ∷ [])
    ∷ means "p(_,_X,_Y,_)." (4 ∷ 1 ∷ variable_cell 0 ∷ variable_cell 1 ∷ variable_cell 2 ∷ variable_cell 3 ∷ []) []
    ∷ means "p(X,_,X)." (3 ∷ 1 ∷ variable_cell 0 ∷ variable_cell 1 ∷ variable_cell 0 ∷ []) []
    ∷ means "p(00000032767,09)." (2 ∷ 1 ∷ number_cell 32767 ∷ number_cell 9 ∷ []) []
    ∷ means "p(-1,-32768,-0)." (3 ∷ 1 ∷ number_cell 65535 ∷ number_cell 32768 ∷ number_cell 0 ∷ []) []
    ∷ means "p(32767). p(-7)." (1 ∷ 2 ∷ number_cell 32767 ∷ number_cell 65529 ∷ []) []
    ∷ means "p(-00,f(-007))." (2 ∷ 1 ∷ number_cell 0 ∷ name_cell 1 0 ∷ number_cell 65529 ∷ []) (at 6 1 ∷ [])
    ∷ means "%x\n p( a , B )\r\n.%" (2 ∷ 1 ∷ name_cell 0 0 ∷ variable_cell 0 ∷ []) (at 7 1 ∷ [])
    ∷ means
    "p(red,X,f(red,_,09)). % c\np(blue,_,9)."
    (3 ∷ 2 ∷ name_cell 0 0 ∷ variable_cell 0 ∷ name_cell 3 1 ∷ name_cell 0 0 ∷ variable_cell 1 ∷ number_cell 9 ∷ name_cell 0 2 ∷ variable_cell 0 ∷ number_cell 9 ∷ [])
    (at 2 3 ∷ at 8 1 ∷ at 28 4 ∷ [])
    ∷ []

pub examples : map (λ (c : Case). said (bytes c.text)) cases ≡ map (λ (c : Case). c.says) cases
unfolding cases bytes said taken_of text_of run step finish layout is_blank push put on_comma on_close past is_lower is_upper is_digit is_word same position
    meet names_from variable_number variables_with cells_from width_of table_cells name_list other_than other_in flatten
examples = refl
