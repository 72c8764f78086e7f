-- 01's numbers tell refusals apart: each reason and each input is found again by its number, and the number fits eight bits. A reason or
-- an input more is a line in its list and a line in its law.
use mathlib.Core.Path.{◌≡◌, refl, sym, ◌∙◌, ap}
use mathlib.Core.Logic.{◌≢◌}
use mathlib.Core.Bool.{cond}
use mathlib.Core.List.{List, [], ◌∷◌}
use Prim.Native.Nat.{ℕ, ◌≤◌, ◌<◌, ◌^◌}
use native.Mathlib.Omega.{arith}
use lib.Dec.{eqb}
use Rattle.refusal.specs.declared.Reason.{Reason}
use Rattle.refusal.specs.declared.Reason.TheVariants.{Length, Width, Count, Long, Short, Cell, Fresh}
use Rattle.refusal.specs.declared.Reason.TheVariants.{Extra, Size, Ends, Open, Edges, Label, Rows, Room}
use Rattle.refusal.specs.declared.Reason.TheVariants.{Bytes, Text, Other, Figure, Full, Last, Index, Same, Big, Names}
use Rattle.refusal.specs.declared.Reason.TheVariants.{Blocks, Damage, Sizes, Padding, Head, None, Column, Early}
use Rattle.refusal.specs.declared.Input.{Input}
use Rattle.refusal.specs.declared.Input.TheVariants.{Table, Plan, Goal, Lent}
use Rattle.refusal.specs.declared.Input.TheVariants as input
use Rattle.refusal.specs.declared.Refusal.{Refusal}
use Rattle.refusal.specs.Refusal.{reason_number, input_of, Refused, told}

-- the first of a list that has this number
first_with : {A : Type 0} → (A → ℕ) → A → List A → ℕ → A
first_with number other [] n = other
first_with number other (x ∷ xs) n = cond (eqb (number x) n) x (first_with number other xs n)

reasons : List Reason
reasons =
    Length
    ∷ Width
    ∷ Count
    ∷ Long
    ∷ Short
    ∷ Cell
    ∷ Fresh
    ∷ Extra
    ∷ Size
    ∷ Ends
    ∷ Open
    ∷ Edges
    ∷ Label
    ∷ Rows
    ∷ Room
    ∷ Bytes
    ∷ Text
    ∷ Other
    ∷ Figure
    ∷ Full
    ∷ Last
    ∷ Index
    ∷ Same
    ∷ Big
    ∷ Names
    ∷ Blocks
    ∷ Damage
    ∷ Sizes
    ∷ Padding
    ∷ Head
    ∷ None
    ∷ Column
    ∷ Early
    ∷ []

reason_at : ℕ → Reason
reason_at = first_with reason_number Length reasons

reason-found : (r : Reason) → (reason_at (reason_number r) ≡ r) × (1 ≤ reason_number r) × (reason_number r < 2 ^ 8)
unfolding reason_at reasons first_with
reason-found Length = (refl, omega arith, omega arith)
reason-found Width = (refl, omega arith, omega arith)
reason-found Count = (refl, omega arith, omega arith)
reason-found Long = (refl, omega arith, omega arith)
reason-found Short = (refl, omega arith, omega arith)
reason-found Cell = (refl, omega arith, omega arith)
reason-found Fresh = (refl, omega arith, omega arith)
reason-found Extra = (refl, omega arith, omega arith)
reason-found Size = (refl, omega arith, omega arith)
reason-found Ends = (refl, omega arith, omega arith)
reason-found Open = (refl, omega arith, omega arith)
reason-found Edges = (refl, omega arith, omega arith)
reason-found Label = (refl, omega arith, omega arith)
reason-found Rows = (refl, omega arith, omega arith)
reason-found Room = (refl, omega arith, omega arith)
reason-found Bytes = (refl, omega arith, omega arith)
reason-found Text = (refl, omega arith, omega arith)
reason-found Other = (refl, omega arith, omega arith)
reason-found Figure = (refl, omega arith, omega arith)
reason-found Full = (refl, omega arith, omega arith)
reason-found Last = (refl, omega arith, omega arith)
reason-found Index = (refl, omega arith, omega arith)
reason-found Same = (refl, omega arith, omega arith)
reason-found Big = (refl, omega arith, omega arith)
reason-found Names = (refl, omega arith, omega arith)
reason-found Blocks = (refl, omega arith, omega arith)
reason-found Damage = (refl, omega arith, omega arith)
reason-found Sizes = (refl, omega arith, omega arith)
reason-found Padding = (refl, omega arith, omega arith)
reason-found Head = (refl, omega arith, omega arith)
reason-found None = (refl, omega arith, omega arith)
reason-found Column = (refl, omega arith, omega arith)
reason-found Early = (refl, omega arith, omega arith)

inputs : List Input
inputs = Table ∷ Plan ∷ Goal ∷ Lent ∷ input.Text ∷ input.Figure ∷ input.Names ∷ input.File ∷ input.Columns ∷ []

input_at : ℕ → Input
input_at = first_with input_of Table inputs

input-found : (i : Input) → (input_at (input_of i) ≡ i) × (input_of i < 2 ^ 8)
unfolding input_at inputs first_with
input-found Table = (refl, omega arith)
input-found Plan = (refl, omega arith)
input-found Goal = (refl, omega arith)
input-found Lent = (refl, omega arith)
input-found input.Text = (refl, omega arith)
input-found input.Figure = (refl, omega arith)
input-found input.Names = (refl, omega arith)
input-found input.File = (refl, omega arith)
input-found input.Columns = (refl, omega arith)

-- so refusals that tell the same are the same
found : Refused → Refusal
found f = record { reason = reason_at f.number; input = input_at f.input; place = f.place }

told-found : (f : Refusal) → found (told f) ≡ f
unfolding found
told-found f = rw ((reason-found f.reason).0, (input-found f.input).0)

pub told-one : {f g : Refusal} → told f ≡ told g → f ≡ g
told-one {f} {g} e = sym (told-found f) ∙ ap found e ∙ told-found g

-- 02, W-209, "TWICE is never given again": 8 is no reason's number
pub never-twice : (r : Reason) → reason_number r ≢ 8
unfolding reason_at reasons first_with
never-twice r e = let q : Length ≡ r = rw e at (reason-found r).0 in omega (arith, ap reason_number q)

-- and their numbers fit eight bits
pub number_small : (r : Reason) → (1 ≤ reason_number r) × (reason_number r < 2 ^ 8)
number_small r = let f = reason-found r in (f.1, f.2)

pub input-small : (i : Input) → input_of i < 2 ^ 8
input-small i = (input-found i).1

-- what an arm of `number_of` or `input_of` answers
pub number-arm : {r s : Reason} {n : ℕ} → r ≡ s → n ≡ reason_number s → (n ≡ reason_number r) × (n < 2 ^ 8)
number-arm {s = s} q e = (e ∙ ap reason_number (sym q), rw e (number_small s).1)

pub input-arm : {i j : Input} {n : ℕ} → i ≡ j → n ≡ input_of j → (n ≡ input_of i) × (n < 2 ^ 8)
input-arm {j = j} q e = (e ∙ ap input_of (sym q), rw e (input-small j))
