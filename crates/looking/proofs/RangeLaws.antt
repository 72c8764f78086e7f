-- A byte within a range, below it and above it.
use Prim.Native.Nat.{ℕ, ◌≤◌, ◌<◌}
use mathlib.Core.Path.{◌≡◌}
use mathlib.Core.Bool.{true, false, ◌&&◌, and-false}
use lib.Dec.{leb}
use borrow.Author.Tests.{le-leb, lt-leb}

module _ (low b high : ℕ) where
  pub in-range : low ≤ b → b ≤ high → (leb low b && leb b high) ≡ true
  in-range h k = rw (le-leb low b h, le-leb b high k)

  pub below-range : b < low → (leb low b && leb b high) ≡ false
  below-range h = rw (lt-leb low b h)

  pub above-range : high < b → (leb low b && leb b high) ≡ false
  above-range h = rw (lt-leb b high h, and-false (leb low b))
