-- What is turned away, in 01's numbers (01, "What is turned away").
use Rattle.std.specs.Prelude.{ℕ}
use Rattle.refusal.specs.declared.Reason.{Reason}
use Rattle.refusal.specs.declared.Reason.TheVariants.{Length, Width, Count, Long, Short, Cell, Fresh}
use Rattle.refusal.specs.declared.Reason.TheVariants.{Extra, Size, Ends, Open, Edges, Label, Rows, Room}
use Rattle.refusal.specs.declared.Reason.TheVariants.{Bytes, Text, Other, Figure, Full, Last, Index, Same, Big, Names}
use Rattle.refusal.specs.declared.Reason.TheVariants.{Blocks, Damage, Sizes, Padding, Head, None, Column, Early}
use Rattle.refusal.specs.declared.Input.{Input}
use Rattle.refusal.specs.declared.Input.TheVariants.{Table, Plan, Goal, Lent}
use Rattle.refusal.specs.declared.Input.TheVariants as input
use Rattle.refusal.specs.declared.Refusal.{Refusal}

-- 01, the column "no." of the table of refusals, and those of 02 after them: W-201's, W-204's, W-207's, W-208's, W-209's, W-210's and W-211's.
-- W-209, "TWICE is never given again": 8 is no reason's number
abbrev pub reason_number : Reason → ℕ
reason_number Length = 1
reason_number Width = 2
reason_number Count = 3
reason_number Long = 4
reason_number Short = 5
reason_number Cell = 6
reason_number Fresh = 7
reason_number Extra = 9
reason_number Size = 10
reason_number Ends = 11
reason_number Open = 12
reason_number Edges = 13
reason_number Label = 14
reason_number Rows = 15
reason_number Room = 16
reason_number Bytes = 17
reason_number Text = 18
reason_number Other = 19
reason_number Figure = 20
reason_number Full = 21
reason_number Last = 22
reason_number Index = 23
reason_number Same = 24
reason_number Big = 25
reason_number Names = 26
reason_number Blocks = 27
reason_number Damage = 28
reason_number Sizes = 29
reason_number Padding = 30
reason_number Head = 31
reason_number None = 32
reason_number Column = 33
reason_number Early = 34

-- 01, "which input it concerns (table, plan, goal or lent room)", in that order, and then a text, a figure, a list of names, a file and a list
-- of columns (02, W-201, W-204, W-210, W-211 and W-213)
abbrev pub input_of : Input → ℕ
input_of Table = 1
input_of Plan = 2
input_of Goal = 3
input_of Lent = 4
input_of input.Text = 5
input_of input.Figure = 6
input_of input.Names = 7
input_of input.File = 8
input_of input.Columns = 9

-- 01, "A refusal returns its number, which input it concerns and a place"
pub record Refused : Type 0 where
  pub number : ℕ
  pub input : ℕ
  pub place : ℕ

abbrev pub refused : Reason → Input → ℕ → Refused
refused r i p = record { number = reason_number r; input = input_of i; place = p }

-- what a refusal of the code says
abbrev pub told : Refusal → Refused
told f = refused f.reason f.input f.place

-- what an entry answers: its two values, or a refusal
pub data Answer : Type 0 where
  answered : (first second : ℕ) → Answer
  turned : Refused → Answer
