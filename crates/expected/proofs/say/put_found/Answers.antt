use mathlib.Core.Path.{refl}
use Rattle.octets.proofs.PutLaws.{put-nothing}
use Rattle.expecting.specs.Words.{bytes, found_words}
use Rattle.expected.proofs.SayLaws.{found-put}
use Rattle.expected.proofs.say.put_found.Goals as goal

pub returns-in-Tab : goal.returns-in-Tab
unfolding bytes found_words
returns-in-Tab c = found-put c.in-Tab.is refl c.put_word.ensures

pub returns-in-Large : goal.returns-in-Large
unfolding bytes found_words
returns-in-Large c = found-put c.in-Large.is refl c.put_word-in-Large.ensures

pub returns-in-Other : goal.returns-in-Other
unfolding bytes found_words
returns-in-Other c = found-put c.in-Other.is refl put-nothing
