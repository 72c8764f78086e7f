-- Two results that the promise allows are equal, for every text, list of names, goal, new names, cells and room.
use Prim.Native.Nat.{ℕ}
use mathlib.Core.Path.{◌≡◌, refl, sym, ap, ap₂, ◌∙◌}
use mathlib.Core.List.{List}
use native.Mathlib.Omega.{arith}
use lib.ListN.{length}
use Rattle.refusal.specs.Refusal.{refused, told, Answer, answered, turned}
use Rattle.refusal.specs.declared.Reason.TheVariants as reason
use Rattle.refusal.specs.declared.Input.TheVariants as input
use Rattle.refusal.proofs.RefusalLaws.{told-one}
use Rattle.loading.specs.Load.{put_first}
use Rattle.termtext.specs.Saying.{said_in}
use Rattle.termtext.specs.declared.Predicate.{Predicate}
use Rattle.goaltext.proofs.Fixed.{predicate-of-fixed}
use Rattle.answerroom.specs.Room.{answer_told, AnswerInto, too-big, no_room, is_said}
use Rattle.std.specs.Prelude.{Result, Ok, Err}
use Rattle.answerroom.specs.declared.AnswerTextSize.{AnswerTextSize}
use Rattle.refusal.specs.declared.Refusal.{Refusal}

told-answer : (a b : Result AnswerTextSize Refusal) → answer_told a ≡ answer_told b → a ≡ b
told-answer (Ok c) (Ok d) e =
    let first : c.cells ≡ d.cells = cc in
    let second : c.bytes ≡ d.bytes = cc in
    let with : ℕ → ℕ → Result AnswerTextSize Refusal = λ m n. Ok (record { cells = m; bytes = n }) in
    ap₂ with first second
told-answer (Ok c) (Err g) e = absurd (let z : ◌≡◌ {A = ℕ} 0 1 = cc in omega arith)
told-answer (Err f) (Ok d) e = absurd (let z : ◌≡◌ {A = ℕ} 0 1 = cc in omega arith)
told-answer (Err f) (Err g) e = let q : told f ≡ told g = cc in ap Err (told-one q)

both : {r s : Result AnswerTextSize Refusal} {a b : Answer} → answer_told r ≡ a → answer_told s ≡ b → a ≡ b → {x y room' room'' : List ℕ} → room' ≡ x → room'' ≡ y → x ≡ y
    → (r ≡ s) × (room' ≡ room'')
both {r = r} {s = s} t u e x y f = (told-answer r s (t ∙ e ∙ sym u), x ∙ f ∙ sym y)

module _ {text names goal new cells room room' room'' : List ℕ} {r s : Result AnswerTextSize Refusal} where
  pub answer-into-fixed : AnswerInto text names goal new cells room room' r → AnswerInto text names goal new cells room room'' s
      → (r ≡ s) × (room' ≡ room'')
  answer-into-fixed (too-big h t x) (too-big k u y) = both {r = r} {s = s} t u refl x y refl
  answer-into-fixed (too-big h t x) (no_room q k b l u y) = absurd (omega arith)
  answer-into-fixed (too-big h t x) (is_said q k b l u y) = absurd (omega arith)
  answer-into-fixed (no_room p h a l t x) (too-big k u y) = absurd (omega arith)
  answer-into-fixed (no_room p h a l t x) (no_room q k b m u y) =
      let e = predicate-of-fixed a b in
      both {r = r} {s = s} t u (ap (λ (p : Predicate). turned (refused reason.Room input.Lent (length (said_in text names goal new p cells)))) e) x y refl
  answer-into-fixed (no_room p h a l t x) (is_said q k b m u y) =
      absurd (let e = ap (λ (p : Predicate). length (said_in text names goal new p cells)) (predicate-of-fixed a b) in omega arith)
  answer-into-fixed (is_said p h a l t x) (too-big k u y) = absurd (omega arith)
  answer-into-fixed (is_said p h a l t x) (no_room q k b m u y) =
      absurd (let e = ap (λ (p : Predicate). length (said_in text names goal new p cells)) (predicate-of-fixed a b) in omega arith)
  answer-into-fixed (is_said p h a l t x) (is_said q k b m u y) =
      let e = predicate-of-fixed a b in
      both {r = r} {s = s} t u (ap (λ (p : Predicate). answered (length cells) (length (said_in text names goal new p cells))) e) x y
      (ap (λ (p : Predicate). put_first (said_in text names goal new p cells) room) e)
