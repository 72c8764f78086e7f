use Rattle.std.proofs.Common.{arith}
use Rattle.message.specs.Words.{ascii}
use Rattle.octets.proofs.PutLaws.{put-put}
use Rattle.mendwords.proofs.NumberLaws.{numbers-none, numbers-some}
use Rattle.mendwords.proofs.put_numbers.Goals as goal

pub returns-in-empty : goal.returns-in-empty
unfolding ascii
returns-in-empty c = rw (numbers-none c.args.numbers.now (omega arith)) c.put_word.ensures

pub returns-in-len1-up : goal.returns-in-len1-up
returns-in-len1-up c =
    rw (numbers-some c.args.numbers.now (λ e. omega arith)) (put-put c.put_decimal-on.ensures c.put_others.ensures)
