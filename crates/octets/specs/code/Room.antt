-- What is put into a room of whatever elements: `Put` (specs/Octets) says the same of bytes and cells.
use Rattle.std.specs.Prelude.{ℕ, ◌+◌, ◌-◌, ◌≡◌, List, length, take}
use Rattle.std.proofs.lemmas.List.Edits.{sets}

pub record Puts {A : Type 0} (old new : List A) (to : ℕ) (text : List A) (r : ℕ) : Type 0 where
  pub wrote : new ≡ sets old to (take (length old - to) text)
  pub after : r ≡ to + length (take (length old - to) text)
