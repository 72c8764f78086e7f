-- What the program ask says, as ASCII bytes.
use Rattle.std.specs.Prelude.{ℕ, cond, List, [], ◌∷◌, ◌++◌, map, eqb}
use Rattle.refusal.specs.declared.Reason.{Reason}
use Rattle.refusal.specs.declared.Reason.TheVariants as reason
use Rattle.octets.specs.Octets.{decimal}
use Rattle.message.specs.Words.{ascii}
use Rattle.message.specs.declared.reason.Whose.{Whose}
use Rattle.message.specs.declared.reason.Whose.TheVariants as whose

-- the line feed that ends every line
abbrev pub ended : List ℕ → List ℕ
ended text = text ++ (10 ∷ [])

-- by its number alone: neither a text of facts nor a goal is refused for such a reason
abbrev pub by_number : ℕ → List ℕ
by_number number = ascii "refusal " ++ decimal number

-- where no text goes on: what is expected there is said by others
abbrev pub stopped : List ℕ → List ℕ
stopped said = ascii "TEXT 18: " ++ said

-- why a text of facts is refused: the refusal's name, its number, and what is expected. Every reason stands here, so that one that is added later is
-- not left out; a text of facts is refused for those that have words
unfoldable pub facts_reason : Reason → List ℕ → List ℕ
facts_reason reason.Length said = ascii "LENGTH 1: at most 2,048 names, variables and numbers are expected in all rules"
facts_reason reason.Width said = ascii "WIDTH 2: 1 to 8 arguments are expected"
facts_reason reason.Count said = ascii "COUNT 3: at most 64 rules are expected"
facts_reason reason.Long said = ascii "LONG 4: at most 32 names, variables and numbers are expected in a rule"
facts_reason reason.Short said = by_number 5
facts_reason reason.Cell said = by_number 6
facts_reason reason.Fresh said = by_number 7
facts_reason reason.Extra said = by_number 9
facts_reason reason.Size said = by_number 10
facts_reason reason.Ends said = by_number 11
facts_reason reason.Open said = by_number 12
facts_reason reason.Edges said = by_number 13
facts_reason reason.Label said = by_number 14
facts_reason reason.Rows said = by_number 15
facts_reason reason.Room said = by_number 16
facts_reason reason.Bytes said = ascii "BYTES 17: at most 65,535 bytes are expected"
facts_reason reason.Text said = stopped said
facts_reason reason.Other said = ascii "OTHER 19: the first rule's name and number of arguments are expected"
facts_reason reason.Figure said = by_number 20
facts_reason reason.Full said = by_number 21
facts_reason reason.Last said = by_number 22
facts_reason reason.Index said = by_number 23
facts_reason reason.Same said = ascii "SAME 24: a rule that does not stand above is expected, or one with a variable"
facts_reason reason.Big said = by_number 25
facts_reason reason.Names said = by_number 26
facts_reason reason.Blocks said = by_number 27
facts_reason reason.Damage said = by_number 28
facts_reason reason.Sizes said = by_number 29
facts_reason reason.Padding said = by_number 30
facts_reason reason.Head said = by_number 31
facts_reason reason.None said = by_number 32
facts_reason reason.Column said = by_number 33
facts_reason reason.Early said = by_number 34

-- and a goal
unfoldable pub goal_reason : Reason → List ℕ → List ℕ
goal_reason reason.Length said = ascii "LENGTH 1: at most 32 names, variables and numbers are expected in a goal"
goal_reason reason.Width said = by_number 2
goal_reason reason.Count said = by_number 3
goal_reason reason.Long said = by_number 4
goal_reason reason.Short said = by_number 5
goal_reason reason.Cell said = by_number 6
goal_reason reason.Fresh said = by_number 7
goal_reason reason.Extra said = by_number 9
goal_reason reason.Size said = by_number 10
goal_reason reason.Ends said = by_number 11
goal_reason reason.Open said = by_number 12
goal_reason reason.Edges said = by_number 13
goal_reason reason.Label said = by_number 14
goal_reason reason.Rows said = by_number 15
goal_reason reason.Room said = by_number 16
goal_reason reason.Bytes said = ascii "BYTES 17: at most 65,533 bytes are expected in a goal"
goal_reason reason.Text said = stopped said
goal_reason reason.Other said = ascii "OTHER 19: one term is expected, with the rules' name and number of arguments"
goal_reason reason.Figure said = by_number 20
goal_reason reason.Full said = by_number 21
goal_reason reason.Last said = by_number 22
goal_reason reason.Index said = by_number 23
goal_reason reason.Same said = by_number 24
goal_reason reason.Big said = ascii "BIG 25: a rule's answer has over 1,024 cells"
goal_reason reason.Names said = by_number 26
goal_reason reason.Blocks said = by_number 27
goal_reason reason.Damage said = by_number 28
goal_reason reason.Sizes said = by_number 29
goal_reason reason.Padding said = by_number 30
goal_reason reason.Head said = by_number 31
goal_reason reason.None said = by_number 32
goal_reason reason.Column said = by_number 33
goal_reason reason.Early said = by_number 34

unfoldable pub reason_of : Whose → Reason → List ℕ → List ℕ
reason_of whose.Facts reason said = facts_reason reason said
reason_of whose.Goal reason said = goal_reason reason said

-- `:3:14: TEXT 18: .. is expected`, after the name of what is refused
unfoldable pub refusal_line : (line column : ℕ) → Whose → Reason → (said : List ℕ) → List ℕ
refusal_line line column of reason said =
    ascii ":" ++ (decimal line ++ (ascii ":" ++ (decimal column ++ (ascii ": " ++ ended (reason_of of reason said)))))

-- `rule 3, line 7`
unfoldable pub rule_text : (rule line : ℕ) → List ℕ
rule_text rule line = ascii "rule " ++ (decimal rule ++ (ascii ", line " ++ decimal line))

-- a number with the word for one of what it counts, or with that for any other number of them
unfoldable pub numbered_by : ℕ → (one many : List ℕ) → List ℕ
numbered_by n one many = decimal n ++ cond (eqb n 1) one many

-- `2 rules fit, 17 of 39 branches tried`
unfoldable pub counts_line : (rules tried branches : ℕ) → List ℕ
counts_line rules tried branches =
    numbered_by rules (ascii " rule fits, ") (ascii " rules fit, ") ++ (decimal tried ++ (ascii " of " ++
    numbered_by branches (ascii " branch tried\n") (ascii " branches tried\n")))

-- a byte in one line: a line feed and a carriage return are blanks
unfoldable pub in_line : ℕ → ℕ
in_line byte = cond (eqb byte 10) 32 (cond (eqb byte 13) 32 byte)

-- `?- rule(9, red, ring, Firing)`
unfoldable pub goal_line : List ℕ → List ℕ
goal_line goal = ascii "?- " ++ ended (map in_line goal)
