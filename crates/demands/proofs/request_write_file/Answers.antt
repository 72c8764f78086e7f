use Rattle.demands.proofs.Files.{request-211-writes-refuses, request-211-writes, request-211-there, words_of}
use Rattle.demands.proofs.request_write_file.Goals as goal

pub returns : goal.returns
returns c =
    let x = c.dudowiej_write_file.ensures in
    let cells = rw c.table_of.ensures at c.lent_words.ensures in
    let plan = words_of c.args.plan.now (λ i. (c.type_inv.plan i).fits) in
    record { write_refused = request-211-writes-refuses x; writes_file = request-211-writes x; there_and_back = request-211-there x cells plan }
