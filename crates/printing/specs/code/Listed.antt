-- What is on its way to be written.
use Rattle.std.specs.Prelude.{ℕ, ◌≤◌, List, length}
use Rattle.octets.specs.Octets.{Put}

-- a text with the property is put at the front, one for which so many bytes are enough
pub record TextListed (most : ℕ) (Is : List ℕ → Type 0) (old new : List ℕ) (r : ℕ) : Type 0 where
  pub text : List ℕ
  pub right : Is text
  pub few : length text ≤ most
  pub puts : Put old new 0 text r
