-- What is seen of each byte outside a comment, and of a byte in one.
use Prim.Native.Nat.{ℕ}
use mathlib.Core.Path.{◌≡◌}
use mathlib.Core.Bool.{true, false, not}
use mathlib.Core.Logic.{◌⊎◌, inl, inr}
use lib.Dec.{eqb}
use borrow.Author.Tests.{ne_eqb}
use Rattle.grammar.specs.Reader.{is_blank}
use Rattle.expecting.specs.declared.Stand.{Stand}
use Rattle.expecting.specs.declared.Stand.TheVariants as stand
use Rattle.expecting.specs.declared.Sight.{Sight}
use Rattle.expecting.specs.Looking.{sight, rested, termed, worded, opened, closed, after_comma, seen, glance}

module _ (level : ℕ) (s : Stand) (d n b : ℕ) where
  pub seen-percent : b ≡ 37 → seen level s d n b ≡ sight (rested s) true d n
  unfolding seen
  seen-percent e = rw e

  pub seen-layout : (b ≡ 10) ⊎ ((b ≡ 13) ⊎ (b ≡ 32)) → seen level s d n b ≡ sight (rested s) false d n
  unfolding seen is_blank
  seen-layout (inl e) = rw e
  seen-layout (inr (inl e)) = rw e
  seen-layout (inr (inr e)) = rw e

  pub seen-open : b ≡ 40 → seen level s d n b ≡ opened level s d n
  unfolding seen is_blank
  seen-open e = rw e

  pub seen-close : b ≡ 41 → seen level s d n b ≡ closed d n
  unfolding seen is_blank
  seen-close e = rw e

  pub seen-comma : b ≡ 44 → seen level s d n b ≡ after_comma level d n
  unfolding seen is_blank
  seen-comma e = rw e

  pub seen-minus : b ≡ 45 → seen level s d n b ≡ sight stand.Minus false d n
  unfolding seen is_blank
  seen-minus e = rw e

  pub seen-stop : b ≡ 46 → seen level s d n b ≡ sight stand.Stop false 0 n
  unfolding seen is_blank
  seen-stop e = rw e

  pub seen_other : (b ≡ 37 → ⊥) → ((b ≡ 10) ⊎ ((b ≡ 13) ⊎ (b ≡ 32)) → ⊥) → (b ≡ 40 → ⊥) → (b ≡ 41 → ⊥) → (b ≡ 44 → ⊥) → (b ≡ 45 → ⊥) → (b ≡ 46 → ⊥)
      → seen level s d n b ≡ sight (worded s (termed b)) false d n
  unfolding seen is_blank
  seen_other p l o k c m f =
      rw (
        ne_eqb b 37 p,
        ne_eqb b 32 (λ e. l (inr (inr e))),
        ne_eqb b 10 (λ e. l (inl e)),
        ne_eqb b 13 (λ e. l (inr (inl e))),
        ne_eqb b 40 o,
        ne_eqb b 41 k,
        ne_eqb b 44 c,
        ne_eqb b 45 m,
        ne_eqb b 46 f,
      )

pub glance-comment : (level : ℕ) (s : Sight) (b : ℕ) → s.comment ≡ true → glance level s b ≡ sight s.stand (not (eqb b 10)) s.depth s.commas
unfolding glance
glance-comment level s b e = rw e

pub glance-outside : (level : ℕ) (s : Sight) (b : ℕ) → s.comment ≡ false → glance level s b ≡ seen level s.stand s.depth s.commas b
unfolding glance
glance-outside level s b e = rw e

-- what is seen of a byte, case by case
pub ruleset seen_laws = (seen-percent, seen-layout, seen-open, seen-close, seen-comma, seen-minus, seen-stop, seen_other)

pub ruleset glances = (glance-comment, glance-outside)
