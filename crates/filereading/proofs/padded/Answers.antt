use mathlib.Core.Path.{◌∙◌, ap}
use Rattle.filing.specs.Files.{zeros}
use Rattle.filing.proofs.StepLaws.{padding-seen}
use Rattle.filereading.proofs.ZerosLaws.{zeros-all}
use Rattle.filereading.proofs.padded.Goals as goal

pub returns : goal.returns
returns c =
    let q = c.requires in
    let e = padding-seen c.args.file.now c.args.count c.args.n q.0 q.1 q.2 q.3 q.5 c.sound_run.ensures in
    c.all_zero.ensures ∙ zeros-all _ ∙ ap zeros e
