-- Two results that a promise allows are equal, for `read_list`.
use mathlib.Core.Path.{◌≡◌}
use mathlib.Core.Bool.{cond}
use mathlib.Core.List.{List}
use Prim.Native.Nat.{ℕ}
use Rattle.octets.proofs.Fixed.{put-fixed}
use Rattle.known.specs.Known.{list_from, Listing}
use Rattle.std.specs.Prelude.{Option}

pub listing-fixed : {word room a b : List ℕ} {r s : Option ℕ} → Listing word room a r → Listing word room b s → (r ≡ s) × (a ≡ b)
listing-fixed p q =
    let same = put-fixed p.puts q.puts in
    (rw (p.told, q.told, same.0), same.1)
