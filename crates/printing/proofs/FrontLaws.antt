-- What is written is the front of the room, in the two forms that a part of an array asks for. Programs cite these.
use mathlib.Core.Path.{◌≡◌, sym, ap}
use mathlib.Core.List.{List}
use Prim.Native.Nat.{ℕ, ◌≤◌}
use native.Mathlib.Omega.{arith}
use lib.ListN.{length, take, drop, length-append}
use lib.Seq.{length-take-le}
use Rattle.printing.specs.Printing.{Written}

module _ {Is : List ℕ → Type 0} {room room' : List ℕ} {n : ℕ} (w : Written Is room room' n) where
  pub written-inside : n ≤ length room'
  written-inside = omega (arith, w.count, ap length w.front, length-append w.text (drop (length w.text) room))

  pub written-part : n ≡ length (take n room')
  written-part = sym (length-take-le n room' written-inside)
