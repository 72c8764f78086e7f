use mathlib.Core.Path.{refl}
use Rattle.expecting.specs.Words.{bytes, what_words}
use Rattle.expected.proofs.SayLaws.{what-put}
use Rattle.expected.proofs.say.put_what.Goals as goal

pub returns-in-Name : goal.returns-in-Name
unfolding bytes what_words
returns-in-Name c = what-put c.in-Name.is refl c.put_word.ensures

pub returns-in-Next : goal.returns-in-Next
unfolding bytes what_words
returns-in-Next c = what-put c.in-Next.is refl c.put_word-in-Next.ensures

pub returns-in-Open : goal.returns-in-Open
unfolding bytes what_words
returns-in-Open c = what-put c.in-Open.is refl c.put_word-in-Open.ensures

pub returns-in-Term : goal.returns-in-Term
unfolding bytes what_words
returns-in-Term c = what-put c.in-Term.is refl c.put_word-in-Term.ensures

pub returns-in-Digit : goal.returns-in-Digit
unfolding bytes what_words
returns-in-Digit c = what-put c.in-Digit.is refl c.put_word-in-Digit.ensures

pub returns-in-Mark : goal.returns-in-Mark
unfolding bytes what_words
returns-in-Mark c = what-put c.in-Mark.is refl c.put_word-in-Mark.ensures

pub returns-in-Close : goal.returns-in-Close
unfolding bytes what_words
returns-in-Close c = what-put c.in-Close.is refl c.put_word-in-Close.ensures

pub returns-in-Full : goal.returns-in-Full
unfolding bytes what_words
returns-in-Full c = what-put c.in-Full.is refl c.put_word-in-Full.ensures

pub returns-in-Blank : goal.returns-in-Blank
unfolding bytes what_words
returns-in-Blank c = what-put c.in-Blank.is refl c.put_word-in-Blank.ensures
