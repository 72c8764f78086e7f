-- The words of a message, once they are put.
use Prim.Native.Nat.{ℕ}
use mathlib.Core.Path.{◌≡◌}
use mathlib.Core.List.{List}
use Rattle.octets.specs.Octets.{Put}
use Rattle.expecting.specs.declared.What.{What}
use Rattle.expecting.specs.declared.Found.{Found}
use Rattle.expecting.specs.Words.{what_words, found_words}

pub what-put : {old new words : List ℕ} {to r : ℕ} {w v : What} → w ≡ v → what_words v ≡ words → Put old new to words r → Put old new to (what_words w) r
what-put e h p = rw (e, h) p

pub found-put : {old new words : List ℕ} {to r : ℕ} {f g : Found} → f ≡ g → found_words g ≡ words → Put old new to words r → Put old new to (found_words f) r
found-put e h p = rw (e, h) p
