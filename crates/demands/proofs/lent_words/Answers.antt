use Rattle.demands.proofs.Files.{words_of}
use Rattle.demands.proofs.lent_words.Goals as goal

pub returns : goal.returns
returns c = words_of c.args.cells.now (λ i. (c.type_inv.cells i).fits)
