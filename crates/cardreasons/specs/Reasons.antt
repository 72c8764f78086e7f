-- Why a card is refused, as ASCII bytes.
use Rattle.std.specs.Prelude.{List, ℕ}
use Rattle.refusal.specs.declared.Reason.{Reason}
use Rattle.refusal.specs.declared.Reason.TheVariants as reason
use Rattle.message.specs.Words.{ascii}
use Rattle.message.specs.Message.{by_number}

-- a refusal's name, its number, and what is expected: every reason, so that one that is added later is not left out. A card is refused for its
-- table, its plan or its blocks; for the other reasons it is not, and they have their number alone
unfoldable pub card_reason : Reason → List ℕ
card_reason reason.Length = ascii "LENGTH 1: 2 to 2,050 cells are expected"
card_reason reason.Width = ascii "WIDTH 2: 1 to 8 columns are expected"
card_reason reason.Count = ascii "COUNT 3: 1 to 64 rules are expected"
card_reason reason.Long = ascii "LONG 4: at most 32 cells are expected in a rule"
card_reason reason.Short = ascii "SHORT 5: the rest of the rules is expected"
card_reason reason.Cell = ascii "CELL 6: a name with at most 4 arguments, a number or a variable is expected"
card_reason reason.Fresh = ascii "FRESH 7: a variable that the rule has before is expected, or the next one"
card_reason reason.Extra = ascii "EXTRA 9: nothing more is expected"
card_reason reason.Size = ascii "SIZE 10: at most 6,082 cells are expected"
card_reason reason.Ends = ascii "ENDS 11: the rest of the plan is expected"
card_reason reason.Open = ascii "OPEN 12: the number of an open place is expected, the first being 0"
card_reason reason.Edges = ascii "EDGES 13: a branch is expected for each run of rules that agree at the place"
card_reason reason.Label = ascii "LABEL 14: what the branch's rules have at the place is expected"
card_reason reason.Rows = ascii "ROWS 15: the number of rules that are left is expected"
card_reason reason.Room = by_number 16
card_reason reason.Bytes = by_number 17
card_reason reason.Text = by_number 18
card_reason reason.Other = by_number 19
card_reason reason.Figure = by_number 20
card_reason reason.Full = by_number 21
card_reason reason.Last = by_number 22
card_reason reason.Index = by_number 23
card_reason reason.Same = ascii "SAME 24: a rule that does not stand above is expected, or one with a variable"
card_reason reason.Big = by_number 25
card_reason reason.Names = by_number 26
card_reason reason.Blocks = ascii "BLOCKS 27: whole blocks of 512 bytes are expected, one or more"
card_reason reason.Damage = ascii "DAMAGE 28: its own number and the check words of its cells are expected"
card_reason reason.Sizes = ascii "SIZES 29: as many blocks are expected as its table and its plan need"
card_reason reason.Padding = ascii "PADDING 30: zeros are expected after the plan"
card_reason reason.Head = ascii "HEAD 31: a sound block 0 with 1 to 8 columns and 1 to 64 rules is expected"
card_reason reason.None = ascii "NONE 32: a whole rule is expected before the first bad block"
card_reason reason.Column = by_number 33
card_reason reason.Early = by_number 34
