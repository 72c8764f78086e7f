use Rattle.demands.proofs.Files.{bytes_of}
use Rattle.demands.proofs.Salvage.{request-212-refuses, request-212-saves, request-212-unchanged, request-212-original}
use Rattle.demands.proofs.request_salvage.Goals as goal

pub returns : goal.returns
returns c =
    let x = c.dudowiej_salvage.ensures in
    let file = bytes_of c.args.file.now (λ i. (c.type_inv.file i).fits) in
    record {
      salvage_refused = request-212-refuses x;
      salvages = request-212-saves x;
      unchanged = request-212-unchanged x file;
      originals = request-212-original x;
    }
