use mathlib.Core.Path.{ap}
use Rattle.refusal.specs.Read.{refuse}
use Rattle.scan.proofs.CountLaws.{over-bytes}
use Rattle.scan.proofs.scan_text.Goals as goal

pub returns-then-text-gt-TEXT_BYTES : goal.returns-then-text-gt-TEXT_BYTES
returns-then-text-gt-TEXT_BYTES c = over-bytes c.args.text.now c.if-text-gt-TEXT_BYTES.true (ap refuse c.turned.ensures)
