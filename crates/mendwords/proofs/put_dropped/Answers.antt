use borrow.Author.Tests.{le-leb, lt-leb}
use Rattle.message.specs.Words.{ascii}
use Rattle.octets.proofs.PutLaws.{put-put, put-nothing}
use Rattle.mendwords.specs.Mended.{dropped_text}
use Rattle.mendwords.proofs.put_dropped.Goals as goal

pub returns-then-count-kept : goal.returns-then-count-kept
unfolding dropped_text
returns-then-count-kept c = rw (le-leb _ _ c.if-count-kept.true) put-nothing

pub returns : goal.returns
unfolding ascii dropped_text
returns c =
    rw (lt-leb _ _ c.if-count-kept.false)
    (put-put c.put_word-a.ensures (put-put c.put_decimal-b.ensures c.put_word.ensures))
