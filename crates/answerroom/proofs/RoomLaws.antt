-- The facts' predicate and the room, case by case.
use Prim.Native.Nat.{ℕ, ◌+◌, ◌≤◌, ◌<◌}
use mathlib.Core.Path.{◌≡◌, refl, ap, ◌∙◌}
use mathlib.Core.List.{List, [], ◌∷◌}
use native.Mathlib.Omega.{arith}
use lib.ListN.{length, length-append}
use Rattle.refusal.specs.Refusal.{refused, answered, turned}
use Rattle.refusal.specs.declared.Reason.TheVariants as reason
use Rattle.refusal.specs.declared.Input.TheVariants as input
use Rattle.grammar.specs.Taken.{taken}
use Rattle.octets.specs.Octets.{Put}
use Rattle.octets.proofs.PutLaws.{put_front}
use Rattle.termtext.specs.Saying.{terms_text, words_of, predicate_in, said_in}
use Rattle.termtext.specs.declared.Predicate.{Predicate}
use Rattle.goaltext.specs.Asked.{PredicateIs, first, none}
use Rattle.answertext.specs.Terms.{terms_said}
use Rattle.answertext.proofs.LevelLaws.{said-is, terms-are}
use Rattle.answertext.proofs.BytesLaws.{slice-few, slice-within}
use Rattle.answerroom.specs.Room.{answer_told, AnswerInto, no_room, is_said}
use Rattle.std.specs.Prelude.{Result, Ok}
use Rattle.answerroom.specs.declared.AnswerTextSize.{AnswerTextSize}
use Rattle.refusal.specs.declared.Refusal.{Refusal}
use Rattle.limits.specs.Limits.{most_reply_cells, most_text_bytes}

-- a predicate stands in a text that is taken, which has at most 65,535 bytes; or there is none
pub predicate-short : {t : List ℕ} {p : Predicate} → PredicateIs t p → length (predicate_in t p) ≤ most_text_bytes
predicate-short {t} (first {f = f} (taken h x o)) = omega (arith, slice-within f.start f.end t)
predicate-short {t} (none x) = omega (arith, slice-few 0 0 t)

-- the measured text
pub said-long : (text names goal new : List ℕ) (p : Predicate) (cells : List ℕ) → length cells ≤ most_reply_cells
    → length (said_in text names goal new p cells)
    ≡ length (predicate_in text p) + 1 + length (terms_said (words_of text names goal new) p.width cells)
said-long text names goal new p cells h =
    let words = words_of text names goal new in
    let e = ap length (said-is text names goal new p cells h) in
    let t = ap length (terms-are words p.width cells h) in
    omega (arith, e, t, length-append (predicate_in text p) (40 ∷ terms_text words (p.width ∷ []) cells))

-- and its room
module _ {text names goal new : List ℕ} {p : Predicate} {cells : List ℕ} {need : ℕ} (h : length cells ≤ most_reply_cells) (q : PredicateIs text p)
    (e : need ≡ length (said_in text names goal new p cells)) {room : List ℕ} where
  pub short-room : {r : Result AnswerTextSize Refusal} → length room < need → answer_told r ≡ turned (refused reason.Room input.Lent need)
      → AnswerInto text names goal new cells room room r
  short-room l t = no_room p h q (omega arith) (t ∙ ap (λ (n : ℕ). turned (refused reason.Room input.Lent n)) e) refl

  pub is-put : {room' : List ℕ} {r : ℕ} → need ≤ length room → Put room room' 0 (said_in text names goal new p cells) r
      → AnswerInto text names goal new cells room room' (Ok (record { cells = length cells; bytes = need }))
  is-put l x = is_said p h q (omega arith) (ap (answered (length cells)) e) (put_front x (omega arith)).1
