use Rattle.scan.proofs.SaysLaws.{scan-is, scan-facts, scan-turned}
use Rattle.std.proofs.lemmas.Result.{err_from_is_err_and}
use Rattle.texttable.specs.Words.{facts, refused}
use Rattle.texttable.proofs.read_words.Goals as goal

pub read_names-names-requires : goal.read_names-names-requires
read_names-names-requires c = scan-facts c.args.text.now _ (scan-is c.args.text.now c.scan_text.ensures c.in_ok-facts.was)

pub returns : goal.returns
returns c =
    let k = scan-facts c.args.text.now _ (scan-is c.args.text.now c.scan_text.ensures c.in_ok-facts.was) in
    facts k (c.read_names-names.ensures k)

pub returns-in_err-facts : goal.returns-in_err-facts
returns-in_err-facts c =
    let t = c.args.text.now in
    let p = err_from_is_err_and c.from_residual.result c.from_residual.ensures.1 in
    rw (p.1, p.2) (refused (scan-turned t _ (scan-is t c.scan_text.ensures c.in_err-facts.was)))
