-- What stands at a place, and what is said of it.
use Prim.Native.Nat.{ℕ, ◌≤◌, ◌<◌}
use mathlib.Core.Path.{◌≡◌}
use mathlib.Core.List.{List}
use lib.ListN.{length, get_or, take, drop, drop_of_length-le}
use lib.Seq.{drop-cons}
use Rattle.expecting.specs.declared.What.{What}
use Rattle.expecting.specs.declared.Found.{Found}
use Rattle.expecting.specs.declared.Found.TheVariants as found
use Rattle.expecting.specs.declared.Stand.{Stand}
use Rattle.expecting.specs.declared.Sight.{Sight}
use Rattle.expecting.specs.Looking.{wanted, look_at, marks, what_by, in_number, spaced, found_by, found_at, wanted_at}

module _ (t : List ℕ) (k : ℕ) where
  module _ (s : Stand) (w : What) where
    pub found-end : length t ≤ k → found_at s w (drop k t) ≡ found.Other
    unfolding found_at
    found-end h = rw (drop_of_length-le t h)

    pub found-byte : k < length t → found_at s w (drop k t) ≡ found_by (in_number s) (spaced w) (get_or t k 0)
    unfolding found_at
    found-byte h = rw (drop-cons t k 0 h)

  pub wanted-is : {first s : Sight} {mark w : What} {f : Found} → first ≡ look_at 0 (take k t) → s ≡ look_at first.depth (take k t)
      → mark ≡ marks s.depth s.commas → w ≡ what_by s.stand mark → f ≡ found_at s.stand w (drop k t) → wanted w f ≡ wanted_at t k
  unfolding wanted_at
  wanted-is a b c d e = rw (e, d, c, b, a)
