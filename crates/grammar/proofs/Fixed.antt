-- What a text is taken as, or why it is turned away, is fixed by the text, for every text.
use Prim.Native.Nat.{ℕ, ◌≤◌}
use mathlib.Core.Path.{◌≡◌, refl, sym, ◌∙◌}
use mathlib.Core.Bool.{Bool, true, false}
use mathlib.Core.List.{List}
use lib.Dec.{ltb}
use lib.ListN.{length}
use borrow.Author.Tests.{lt-ltb, le-ltb, ltb-true, ltb-false}
use Rattle.refusal.specs.Refusal.{refused}
use Rattle.refusal.specs.Read.{Read, read, refuse, when}
use Rattle.refusal.specs.declared.Reason.TheVariants as reason
use Rattle.refusal.specs.declared.Input.TheVariants as input
use Rattle.grammar.specs.Grammar.{Fact, Text}
use Rattle.grammar.specs.Reader.{Out, stops, reads, text_of}
use Rattle.grammar.specs.Meaning.{Found, none, found, other_in}
use Rattle.grammar.specs.Taken.{Taken, too_long, no_text, other-fact, taken}
use Rattle.grammar.proofs.Accepted.{accepted, refused-at}
use Rattle.limits.specs.Limits.{most_text_bytes}

-- the same as one function of the text: the form in which code decides it
abbrev by_other : List Fact → Found → Read (List Fact)
by_other fs (found k) = refuse (refused reason.Other input.Text k)
by_other fs none = read fs

abbrev by_text : List ℕ → Out → Read (List Fact)
by_text t (stops k) = refuse (refused reason.Text input.Text k)
by_text t (reads fs) = by_other fs (other_in t fs)

unfoldable pub taken_of : List ℕ → Read (List Fact)
taken_of t = when (ltb most_text_bytes (length t)) (refused reason.Bytes input.Text 0) (by_text t (text_of t))

pub taken_is : (t : List ℕ) {says : Read (List Fact)} → Taken t says → says ≡ taken_of t
unfolding taken_of
taken_is t (too_long h) = rw (lt-ltb most_text_bytes (length t) h)
taken_is t (no_text {k = k} h s) = rw (le-ltb most_text_bytes (length t) h, (refused-at t k).1 s)
taken_is t (other-fact {fs = fs} h x e) = rw (le-ltb most_text_bytes (length t) h, (accepted t fs).1 x, e)
taken_is t (taken {fs = fs} h x e) = rw (le-ltb most_text_bytes (length t) h, (accepted t fs).1 x, e)

-- two answers that the rule allows are equal
pub taken-fixed : (t : List ℕ) {a b : Read (List Fact)} → Taken t a → Taken t b → a ≡ b
taken-fixed t x y = taken_is t x ∙ sym (taken_is t y)

-- and there is one for every text
pub taken-holds : (t : List ℕ) → Taken t (taken_of t)
unfolding taken_of
taken-holds t = by_bytes (ltb most_text_bytes (length t)) refl
  where
    by-other : (fs : List Fact) (o : Found) → other_in t fs ≡ o → length t ≤ most_text_bytes → Text t fs → Taken t (by_other fs o)
    by-other fs (found k) e h x = other-fact h x e
    by-other fs none e h x = taken h x e

    by-text : (o : Out) → text_of t ≡ o → length t ≤ most_text_bytes → Taken t (by_text t o)
    by-text (stops k) e h = no_text h ((refused-at t k).0 e)
    by-text (reads fs) e h = by-other fs (other_in t fs) refl h ((accepted t fs).0 e)

    by_bytes : (b : Bool) → ltb most_text_bytes (length t) ≡ b → Taken t (when b (refused reason.Bytes input.Text 0) (by_text t (text_of t)))
    by_bytes true e = too_long (ltb-true most_text_bytes (length t) e)
    by_bytes false e = by-text (text_of t) refl (ltb-false most_text_bytes (length t) e)
