-- 02, W-201: "Refusals in order: BYTES for over 65,535 bytes; TEXT ..; OTHER ..": the facts of a text, or the first of the three that it
-- meets.
use Rattle.std.specs.Prelude.{ℕ, ◌≤◌, ◌<◌, ◌≡◌, List, length}
use Rattle.refusal.specs.Refusal.{refused}
use Rattle.refusal.specs.Read.{Read, read, refuse}
use Rattle.refusal.specs.declared.Reason.TheVariants as reason
use Rattle.refusal.specs.declared.Input.TheVariants as input
use Rattle.grammar.specs.Grammar.{Fact, Text}
use Rattle.grammar.specs.Stops.{Stops}
use Rattle.grammar.specs.Meaning.{none, found, other_in}
use Rattle.limits.specs.Limits.{most_text_bytes}

pub data Taken (t : List ℕ) : Read (List Fact) → Type 0 where
  too_long : most_text_bytes < length t → Taken t (refuse (refused reason.Bytes input.Text 0))
  no_text : {k : ℕ} → length t ≤ most_text_bytes → Stops t k → Taken t (refuse (refused reason.Text input.Text k))
  other-fact : {k : ℕ} {fs : List Fact} → length t ≤ most_text_bytes → Text t fs → other_in t fs ≡ found k
      → Taken t (refuse (refused reason.Other input.Text k))
  taken : {fs : List Fact} → length t ≤ most_text_bytes → Text t fs → other_in t fs ≡ none → Taken t (read fs)
