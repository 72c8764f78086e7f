use mathlib.Core.Path.{◌∙◌}
use native.Mathlib.Omega.{arith}
use Rattle.handing.proofs.MeasureLaws.{name-none, name-some}
use borrow.Author.Rules.{rules}
use Rattle.handing.proofs.measure.name_bytes.Statement.{statement}
use Rattle.handing.proofs.measure.name_bytes.Tie as tie

-- src/measure.rt:53:9
returns : tie.Need-returns-then-names-n
returns c = let a = c.args in (name-none a.names.now a.n c.if-names-n.true, omega arith)

-- src/measure.rt:55:17
mul-entry-bytes : tie.Need-offset_bounds-names-n
mul-entry-bytes c = search rules

-- src/measure.rt:55:17
shared-slice-read-entry-bytes : tie.Need-bounds-names-n
shared-slice-read-entry-bytes c = search rules

-- src/measure.rt:55:5
entry-bytes-requires : tie.Need-entry_bytes-requires
entry-bytes-requires c κs = search rules

-- src/measure.rt:49:1
returns-2 : tie.Need-returns
returns-2 c =
    let a = c.args in
    (c.entry_bytes.ensures.0 ∙ name-some a.names.now a.n (omega arith), c.entry_bytes.ensures.1)

pub name_bytes_spec : {M : Type 1} → statement M
name_bytes_spec =
    tie.close
    (tie.spec returns mul-entry-bytes shared-slice-read-entry-bytes entry-bytes-requires returns-2)
