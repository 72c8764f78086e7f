use native.Mathlib.Omega.{arith}
use Rattle.octets.proofs.PutLaws.{put-put, put-nothing}
use Rattle.printing.proofs.SymbolLaws.{symbol-variable, symbol-name, symbol-number, symbol-none, name-few}
use borrow.Author.Rules.{rules}
use Rattle.printing.proofs.put_symbol.Statement.{statement}
use Rattle.printing.proofs.put_symbol.Tie as tie

shape-of-requires : tie.Need-shape_of-requires
shape-of-requires c κs = search rules

enum-known-n : tie.Need-enum_known-n
enum-known-n c = search rules

put-tagged-requires : tie.Need-put_tagged-requires
put-tagged-requires c κs = search rules

enum-known-a : tie.Need-enum_known-a
enum-known-a c = search rules

put-tagged-requires-2 : tie.Need-put_tagged-on-requires
put-tagged-requires-2 c κs = search rules

put-tagged-requires-3 : tie.Need-put_tagged-requires-in-0-to-4
put-tagged-requires-3 c κs = search rules

enum_told : tie.Need-enum_told-1
enum_told c = search rules

put-byte-requires : tie.Need-put_byte-on-requires
put-byte-requires c κs = search rules

put-value-requires : tie.Need-put_value-requires
put-value-requires c κs = search rules

enum-told-2 : tie.Need-enum_told-in-Refused
enum-told-2 c = search rules

same_length : tie.Need-shape_of-out-in-Variable
same_length c = search rules

returns : tie.Need-returns-in-Variable
returns c = rw (symbol-variable _ _ c.shape_of.ensures _ c.in-Variable.is) c.put_tagged.ensures

same-length-2 : tie.Need-shape_of-out-in-0-to-4
same-length-2 c = search rules

returns-2 : tie.Need-returns-in-0-to-4
returns-2 c =
    rw (symbol-name _ _ c.shape_of.ensures _ _ c.in-Name.is) (put-put c.put_tagged-on.ensures c.put_tagged-in-0-to-4.ensures)

returns-3 : tie.Need-returns-in_default
returns-3 c =
    let few = name-few _ _ c.shape_of.ensures _ _ c.in-Name.is in
    absurd (omega arith)

same-length-3 : tie.Need-shape_of-out-in-Number
same-length-3 c = search rules

returns-4 : tie.Need-returns-in-Number
returns-4 c =
    rw (symbol-number _ _ c.shape_of.ensures _ c.in-Number.is) (put-put c.put_byte-on.ensures c.put_value.ensures)

returns-5 : tie.Need-returns-in-Refused
returns-5 c = rw (symbol-none _ _ c.shape_of.ensures c.in-Refused.is) put-nothing

pub put_symbol_spec : {M : Type 1} → statement M
put_symbol_spec =
    tie.close
    (tie.spec
    shape-of-requires
    enum-known-n
    put-tagged-requires
    enum-known-a
    put-tagged-requires-2
    put-tagged-requires-3
    enum_told
    put-byte-requires
    put-value-requires
    enum-told-2
    same_length
    returns
    same-length-2
    returns-2
    returns-3
    same-length-3
    returns-4
    returns-5)
