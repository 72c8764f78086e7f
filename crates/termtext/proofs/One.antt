-- A goal's text has one reading: two goals that `Asks` allows are equal, and two answers that `GoalRead` allows.
use Prim.Native.Nat.{ℕ, ◌≤◌, ◌<◌}
use mathlib.Core.Path.{◌≡◌, refl, sym, ap, ap₂, subst, ◌∙◌}
use mathlib.Core.List.{List, [], ◌∷◌, ◌++◌, map}
use native.Mathlib.Omega.{arith}
use lib.ListN.{length}
use Rattle.refusal.specs.Refusal.{refused}
use Rattle.refusal.specs.Read.{Read, read, refuse, and_then}
use Rattle.refusal.specs.declared.Reason.TheVariants as reason
use Rattle.refusal.specs.declared.Input.TheVariants as input
use Rattle.table.specs.Table.{goal_of}
use Rattle.grammar.specs.Grammar.{Fact}
use Rattle.grammar.specs.Meaning.{Place, entry_of}
use Rattle.grammar.specs.Numbering.{Words, words_at, NumberedRow}
use Rattle.grammar.specs.Stops.{Stops}
use Rattle.grammar.proofs.Accepted.{unique, not-both, one_place}
use Rattle.grammar.proofs.NthLaws.{parted-none}
use Rattle.grammar.proofs.FirstLaws.{firsts-one}
use Rattle.grammar.proofs.RowLaws.{Named, row_one}
use Rattle.termtext.specs.Goal.{with_stop, Whole, stopped, unstopped, NoGoal, at_byte, at-end, Ours, Goal, GoalNumbered, Asks}
use Rattle.termtext.specs.Goal.{GoalRead, too_long, no_text, other, no-goal, is-goal}
use Rattle.limits.specs.Limits.{most_goal_bytes}

-- THE TEXT THAT IS READ, and its facts
pub whole-one : {t u v : List ℕ} {fs gs : List Fact} → Whole t u fs → Whole t v gs → (u ≡ v) × (fs ≡ gs)
whole-one {t} (stopped x) (stopped y) = (refl, unique t x y)
whole-one {t} (stopped x) (unstopped s y) = absurd (not-both t (length t) s x)
whole-one {t} (unstopped s x) (stopped y) = absurd (not-both t (length t) s y)
whole-one {t} (unstopped s x) (unstopped r y) = (refl, unique (with_stop t) x y)

-- TEXT'S PLACE, and that such a text is no goal
no-stops : {t : List ℕ} {k : ℕ} → NoGoal t k → Stops t k
no-stops (at_byte h s) = s
no-stops (at-end s n) = s

no_whole : {t u : List ℕ} {k : ℕ} {fs : List Fact} → NoGoal t k → Whole t u fs → ⊥
no_whole {t} {k = k} n (stopped x) = not-both t k (no-stops n) x
no_whole {t} (at_byte h s) (unstopped r x) = omega (arith, one_place t s r)
no_whole {fs = fs} (at-end s n) (unstopped r x) = n fs x

-- ONE FACT'S CELLS AND NEW NAMES
abbrev goal : List ℕ → List ℕ → Goal
goal cells new = record { cells = cells; new = new }

module _ (words : Words) where
  numbered-one : {whole : List ℕ} {f : Fact} {a b : Goal} → GoalNumbered words whole f a → GoalNumbered words whole f b → a ≡ b
  numbered-one {whole} {f} {a} {b} x y =
      let p : x.places ≡ y.places = firsts-one whole x.firsts y.firsts in
      let r = subst (λ (ns : List Place). NumberedRow whole (words ++ words_at whole ns) [] f.symbols a.cells) p x.row in
      let cells : a.cells ≡ b.cells = row_one whole (words ++ words_at whole y.places) (parted-none Named) r y.row in
      let new : a.new ≡ b.new = x.listed ∙ ap (map entry_of) p ∙ sym y.listed in
      ap₂ goal cells new

-- THE GOAL
module _ (words : Words) (predicate : List ℕ) (width : ℕ) (t : List ℕ) where
  pub asks-one : {a b : Goal} → Asks words predicate width t a → Asks words predicate width t b → a ≡ b
  asks-one {a} {b} x y =
      let w = whole-one x.text y.text in
      let f : x.fact ≡ y.fact = let e = w.1 in cc in
      numbered-one words
      (subst (λ (g : Fact). GoalNumbered words y.whole g a) f (subst (λ (u : List ℕ). GoalNumbered words u x.fact a) w.0 x.numbered))
      y.numbered

  -- it is of the table's predicate
  asks-ours : {a : Goal} {u : List ℕ} {f : Fact} {fs : List Fact} → Asks words predicate width t a → Whole t u (f ∷ fs)
      → Ours predicate width u f fs
  asks-ours {u = u} {f} {fs} x w =
      let e = whole-one x.text w in
      let q = e.1 in
      let g : x.fact ≡ f = cc in
      let gs : [] ≡ fs = cc in
      subst (Ours predicate width u f) gs
      (subst (λ (h : Fact). Ours predicate width u h []) g (subst (λ (v : List ℕ). Ours predicate width v x.fact []) e.0 x.ours))

  -- WHAT IS ANSWERED, by the first that holds
  abbrev Says : Read Goal → Type 0
  Says = GoalRead words predicate width t

  long-one : {r : Read Goal} → most_goal_bytes < length t → Says r → r ≡ refuse (refused reason.Bytes input.Text 0)
  long-one h (too_long k) = refl
  long-one h (no_text k n) = absurd (omega arith)
  long-one h (other k w n) = absurd (omega arith)
  long-one h (no-goal k x e) = absurd (omega arith)
  long-one h (is-goal k x e) = absurd (omega arith)

  text-one : {k : ℕ} {r : Read Goal} → length t ≤ most_goal_bytes → NoGoal t k → Says r → r ≡ refuse (refused reason.Text input.Text k)
  text-one h n (too_long l) = absurd (omega arith)
  text-one h n (no_text l m) = ap (λ (j : ℕ). refuse (refused reason.Text input.Text j)) (one_place t (no-stops m) (no-stops n))
  text-one h n (other l w m) = absurd (no_whole n w)
  text-one h n (no-goal l x e) = absurd (no_whole n x.text)
  text-one h n (is-goal l x e) = absurd (no_whole n x.text)

  other-one : {u : List ℕ} {f : Fact} {fs : List Fact} {r : Read Goal} → length t ≤ most_goal_bytes → Whole t u (f ∷ fs)
      → (Ours predicate width u f fs → ⊥) → Says r → r ≡ refuse (refused reason.Other input.Text f.start)
  other-one h w n (too_long l) = absurd (omega arith)
  other-one h w n (no_text l m) = absurd (no_whole m w)
  other-one {f = f} h w n (other {f = g} l v m) =
      let e = (whole-one v w).1 in
      let q : g ≡ f = cc in
      ap (λ (k : Fact). refuse (refused reason.Other input.Text k.start)) q
  other-one h w n (no-goal l x e) = absurd (n (asks-ours x w))
  other-one h w n (is-goal l x e) = absurd (n (asks-ours x w))

  goal-one : {a : Goal} {r : Read Goal} → length t ≤ most_goal_bytes → Asks words predicate width t a → Says r
      → r ≡ and_then (goal_of width a.cells) (λ (vars : ℕ). read a)
  goal-one h x (too_long l) = absurd (omega arith)
  goal-one h x (no_text l n) = absurd (no_whole n x.text)
  goal-one h x (other l w n) = absurd (n (asks-ours x w))
  goal-one h x (no-goal l y e) = rw (asks-one x y, e)
  goal-one h x (is-goal l y e) = rw (asks-one x y, e)

  -- TWO ANSWERS ARE EQUAL
  pub read_one : {r s : Read Goal} → Says r → Says s → r ≡ s
  read_one (too_long h) y = sym (long-one h y)
  read_one (no_text h n) y = sym (text-one h n y)
  read_one (other h w n) y = sym (other-one h w n y)
  read_one (no-goal {goal = a} h x e) y = sym (goal-one h x y ∙ ap (λ (o : Read ℕ). and_then o (λ (vars : ℕ). read a)) e)
  read_one (is-goal {goal = a} h x e) y = sym (goal-one h x y ∙ ap (λ (o : Read ℕ). and_then o (λ (vars : ℕ). read a)) e)
