use Rattle.demands.proofs.Files.{request-211-reads-refuses, request-211-reads, request-211-back, bytes_of}
use Rattle.demands.proofs.request_read_file.Goals as goal

pub returns : goal.returns
returns c =
    let x = c.dudowiej_read_file.ensures in
    let file = bytes_of c.args.file.now (λ i. (c.type_inv.file i).fits) in
    record { read_refused = request-211-reads-refuses x; reads_file = request-211-reads x; back_again = request-211-back x file }
