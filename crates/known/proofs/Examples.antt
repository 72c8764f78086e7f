-- Lists of columns, and words that are none; columns put as lists.
use mathlib.Core.Path.{◌≡◌, refl}
use mathlib.Core.Bool.{Bool, true, false}
use mathlib.Core.List.{List, [], ◌∷◌, map}
use Prim.Native.Nat.{ℕ}
use Prim.Native.String.{String}
use Rattle.message.specs.Words.{ascii}
use Rattle.octets.specs.Octets.{digits_of, decimal}
use Rattle.known.specs.Known.{step_of, columns_typed, list_from, next_text, list_text}

pub lists : map (λ (s : String). columns_typed 0 (ascii s)) ("1,3" ∷ "3,1,1" ∷ "08" ∷ "999999999" ∷ [])
    ≡ (0 ∷ 2 ∷ []) ∷ (2 ∷ 0 ∷ 0 ∷ []) ∷ (7 ∷ []) ∷ (999999998 ∷ []) ∷ []
unfolding ascii step_of columns_typed
lists = refl

pub none : map (λ (s : String). list_from 0 (ascii s)) ("1,3" ∷ "999999999" ∷ "" ∷ "0" ∷ "1,,2" ∷ ",1" ∷ "1," ∷ "1 ,2" ∷ "x" ∷ "-1" ∷ "1000000000" ∷ [])
    ≡ true ∷ true ∷ false ∷ false ∷ false ∷ false ∷ false ∷ false ∷ false ∷ false ∷ false ∷ []
unfolding ascii step_of list_from
none = refl

pub puts : map (list_text 0) ((0 ∷ 2 ∷ []) ∷ (1 ∷ []) ∷ (7 ∷ 9 ∷ []) ∷ []) ≡ map ascii ("1,3" ∷ "2" ∷ "8,10" ∷ [])
unfolding ascii digits_of decimal next_text list_text
puts = refl
