use Rattle.std.proofs.Common.{ap, ◌∙◌}
use Rattle.blocks.specs.Blocks.{sound}
use Rattle.blocks.proofs.LookLaws.{looked}
use Rattle.blocks.proofs.look.Goals as goal

pub returns : goal.returns
returns c =
    let w = looked c.args.file.now c.args.i c.requires.0 c.requires.1 c.read_cells.ensures in
    (w, c.is_sound.ensures ∙ ap (sound c.args.i) w)
