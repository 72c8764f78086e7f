use mathlib.Core.Path.{◌∙◌, sym, ap}
use native.Mathlib.Omega.{arith}
use lib.ListN.{length}
use Rattle.octets.proofs.DecimalLaws.{digits-few}
use Rattle.answertext.proofs.WordLaws.{word-variable, word-name, word_number, word-refused}
use Rattle.handing.specs.code.Lines.{blanks}
use borrow.Author.Rules.{rules}
use Rattle.handing.proofs.measure.word_bytes.Statement.{statement}
use Rattle.handing.proofs.measure.word_bytes.Tie as tie

-- src/measure.rt:53:11
shape-of-requires : tie.Need-shape_of-requires
shape-of-requires c κs = search rules

-- src/measure.rt:54:25
enum-known-n : tie.Need-enum_known-n
enum-known-n c = search rules

-- src/measure.rt:54:42
cast-digits : tie.Need-overflow_cast-n
cast-digits c = search rules

-- src/measure.rt:54:35
digits-requires : tie.Need-digits-requires
digits-requires c κs = search rules

-- src/measure.rt:54:31
add-result : tie.Need-overflow_add-result
add-result c = record { fits = omega (arith, c.digits.ensures, digits-few 9 c.in-Variable.n (omega arith)) }

-- src/measure.rt:55:24
enum-known-n-2 : tie.Need-enum_known-n-in-Name-1
enum-known-n-2 c = search rules

-- src/measure.rt:55:48
cast-name-bytes : tie.Need-overflow_cast-n-in-Name
cast-name-bytes c = search rules

-- src/measure.rt:55:30
name-bytes-requires : tie.Need-name_bytes-requires
name-bytes-requires c κs = search rules

-- src/measure.rt:56:29
enum_told : tie.Need-enum_told-1
enum_told c = search rules

-- src/measure.rt:56:29
value-bytes-requires : tie.Need-value_bytes-requires
value-bytes-requires c κs = search rules

-- src/measure.rt:57:27
enum-told-2 : tie.Need-enum_told-in-Refused
enum-told-2 c = search rules

-- src/measure.rt:50:1
returns : tie.Need-returns-in-Variable
returns c =
    let a = c.args in
    let e = ap length (word-variable (blanks a.names.now) a.c _ c.shape_of.ensures _ c.in-Variable.is) in
    (omega (arith, c.digits.ensures, e), omega (arith, c.digits.ensures, digits-few 9 c.in-Variable.n (omega arith)))

-- src/measure.rt:50:1
returns-2 : tie.Need-returns-in-Name
returns-2 c =
    let a = c.args in
    let e = ap length (word-name (blanks a.names.now) a.c _ c.shape_of.ensures _ _ c.in-Name.is) in
    (c.name_bytes.ensures.0 ∙ sym e, c.name_bytes.ensures.1)

-- src/measure.rt:50:1
returns-3 : tie.Need-returns-in-Number
returns-3 c =
    let a = c.args in
    let e = ap length (word_number (blanks a.names.now) a.c _ c.shape_of.ensures _ c.in-Number.is) in
    (c.value_bytes.ensures.0 ∙ sym e, omega (arith, c.value_bytes.ensures.1))

-- src/measure.rt:50:1
returns-4 : tie.Need-returns-in-Refused
returns-4 c =
    let a = c.args in
    (sym (ap length (word-refused (blanks a.names.now) a.c _ c.shape_of.ensures c.in-Refused.is)), omega arith)

pub word_bytes_spec : {M : Type 1} → statement M
word_bytes_spec =
    tie.close
    (tie.spec
    shape-of-requires
    enum-known-n
    cast-digits
    digits-requires
    add-result
    enum-known-n-2
    cast-name-bytes
    name-bytes-requires
    enum_told
    value-bytes-requires
    enum-told-2
    returns
    returns-2
    returns-3
    returns-4)
