use lib.ListN.{length, drop}
use Rattle.naming.specs.code.Names.{Entries, ApartTo}
use Rattle.naming.proofs.ListedLaws.{listed-last, unlisted-entry, unlisted-twice, says-yes}
use Rattle.naming.proofs.listed.Goals as goal

pub returns-then-not-each_name : goal.returns-then-not-each_name
returns-then-not-each_name c =
    let a = c.args in
    λ l. unlisted-entry a.text.now a.names.now c.each_name.result c.each_name.ensures c.if-not-each_name.true l

pub returns-then-not-no_two : goal.returns-then-not-no_two
returns-then-not-no_two c =
    let a = c.args in
    λ l. unlisted-twice a.text.now a.names.now c.no_two.result c.no_two.ensures c.if-not-no_two.true l

pub returns : goal.returns
returns c =
    let a = c.args in
    let t = a.text.now in
    let n = a.names.now in
    let x = says-yes t n (Entries t n) c.each_name.result c.each_name.ensures c.if-not-each_name.false in
    let y = says-yes t n (ApartTo t n (length n)) c.no_two.result c.no_two.ensures c.if-not-no_two.false in
    listed-last t n (drop 2 a.table.now) c.all_known.result x y c.all_known.ensures
