-- The way to what is written: a text is put for a reason, and with room for it it is written, all of it.
use mathlib.Core.List.{List}
use Prim.Native.Nat.{ℕ, ◌≤◌}
use native.Mathlib.Omega.{arith}
use lib.ListN.{length}
use Rattle.octets.specs.Octets.{Put}
use Rattle.octets.proofs.PutLaws.{put_front}
use Rattle.printing.specs.Printing.{Written}
use Rattle.printing.specs.code.Listed.{TextListed}

module _ {most : ℕ} {old new : List ℕ} {n : ℕ} where
  -- one text
  pub listed-text : {Is : List ℕ → Type 0} {text : List ℕ} → Put old new 0 text n → length text ≤ most → Is text → TextListed most Is old new n
  listed-text {text = text} p h i = record { text = text; right = i; few = h; puts = p }

  -- a text that is put for one reason is put for another
  pub listed-as : {P Q : List ℕ → Type 0} → TextListed most P old new n → ((text : List ℕ) → P text → Q text) → TextListed most Q old new n
  listed-as l f = record { text = l.text; right = f l.text l.right; few = l.few; puts = l.puts }

  pub listed-written : {Is : List ℕ → Type 0} → most ≤ length old → TextListed most Is old new n → Written Is old new n
  listed-written h l =
      let fits : length l.text ≤ length old = omega (arith, l.few) in
      let front = put_front l.puts fits in
      record { text = l.text; right = l.right; count = front.0; fits = fits; front = front.1 }
