-- What is proved of the reading of a text (02, W-201), stated and nothing else.
use Prim.Native.Nat.{ℕ, suc, ◌≤◌, ◌<◌}
use mathlib.Core.Path.{◌≡◌, refl, sym, ap, subst, ◌∙◌}
use mathlib.Core.List.{List, [], ◌++◌, append-nil, append_assoc}
use mathlib.Core.Logic.{◌⊎◌, ◌↔◌, inl, inr}
use native.Mathlib.Omega.{arith}
use native.Mathlib.Decide.{dec_lt}
use lib.ListN.{take, drop, take-append-drop}
use lib.Seq.{take-take}
use Rattle.grammar.specs.Grammar.{Fact, Text}
use Rattle.grammar.specs.Reader.{Out, stops, reads, text_of}
use Rattle.grammar.specs.Stops.{Begins, Stops, at_byte, at-end}
use Rattle.grammar.proofs.Complete.{text-read, text-one}
use Rattle.grammar.proofs.Sound.{text-is}
use Rattle.grammar.proofs.Viable.{text-stops}

-- "The reader accepts exactly the grammar": the facts are read exactly when the grammar gives them
pub accepted : (t : List ℕ) (fs : List Fact) → (text_of t ≡ reads fs) ↔ Text t fs
accepted t fs = (text-is t fs, text-read t)

-- "and the reading is unique"
pub unique : (t : List ℕ) {fs gs : List Fact} → Text t fs → Text t gs → fs ≡ gs
unique = text-one

-- a text that begins with u begins with each of its beginnings
shorter : (u v : List ℕ) → Begins (u ++ v) → Begins u
shorter u v b = record { rest = v ++ b.rest; facts = b.facts; text = subst (λ (x : List ℕ). Text x b.facts) (append_assoc u v b.rest) b.text }

begins-take : (t : List ℕ) (j k : ℕ) → j ≤ k → Begins (take k t) → Begins (take j t)
begins-take t j k h b =
    shorter (take j t) (drop j (take k t))
    (subst Begins (sym (ap (λ (x : List ℕ). x ++ drop j (take k t)) (sym (take-take j k t h)) ∙ take-append-drop j (take k t))) b)

begins-all : (t : List ℕ) (j : ℕ) → Begins t → Begins (take j t)
begins-all t j b = shorter (take j t) (drop j t) (subst Begins (sym (take-append-drop j t)) b)

text-begins : (t : List ℕ) {fs : List Fact} → Text t fs → Begins t
text-begins t {fs} x = record { rest = []; facts = fs; text = subst (λ (y : List ℕ). Text y fs) (sym (append-nil t)) x }

-- an accepted text is refused nowhere
pub not-both : (t : List ℕ) (k : ℕ) {fs : List Fact} → Stops t k → Text t fs → ⊥
not-both t k (at_byte h b n) x = n (begins-all t (suc k) (text-begins t x))
not-both t k {fs} (at-end b n) x = n fs x

-- the place is one
pub one_place : (t : List ℕ) {j k : ℕ} → Stops t j → Stops t k → j ≡ k
one_place t {j} {k} (at_byte h b n) (at_byte h' b' n') = by (dec_lt j k) (dec_lt k j)
  where
    by : Dec (j < k) → Dec (k < j) → j ≡ k
    by (yes l) e = absurd (n (begins-take t (suc j) k l b'))
    by (no l) (yes l') = absurd (n' (begins-take t (suc k) j l' b))
    by (no l) (no l') = omega arith
one_place t {j} (at_byte h b n) (at-end b' n') = absurd (n (begins-all t (suc j) b'))
one_place t {j} {k} (at-end b n) (at_byte h' b' n') = absurd (n' (begins-all t (suc k) b))
one_place t (at-end b n) (at-end b' n') = refl

-- "TEXT at the first byte (or the end) where no accepted text could go on so"
pub refused-at : (t : List ℕ) (k : ℕ) → (text_of t ≡ stops k) ↔ Stops t k
refused-at t k = (text-stops t k, λ s. on s (text_of t) refl)
  where
    on : Stops t k → (o : Out) → text_of t ≡ o → text_of t ≡ stops k
    on s (stops j) e = e ∙ ap stops (one_place t (text-stops t j e) s)
    on s (reads fs) e = absurd (not-both t k s (text-is t fs e))

-- and one of the two holds of every text
pub one_of_two : (t : List ℕ) → ((fs : List Fact) × Text t fs) ⊎ ((k : ℕ) × Stops t k)
one_of_two t = on (text_of t) refl
  where
    on : (o : Out) → text_of t ≡ o → ((fs : List Fact) × Text t fs) ⊎ ((k : ℕ) × Stops t k)
    on (stops k) e = inr (k, text-stops t k e)
    on (reads fs) e = inl (fs, text-is t fs e)
