-- What a test answers: that something holds, or that it does not.
use Rattle.std.specs.Prelude.{Bool, true, false}

abbrev pub Says : Type 0 → Bool → Type 0
Says P true = P
Says P false = P → ⊥
