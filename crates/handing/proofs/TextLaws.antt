-- An atom's text, piece by piece.
use Prim.Native.Nat.{ℕ, ◌≤◌}
use mathlib.Core.Path.{◌≡◌, ap}
use mathlib.Core.List.{List, [], ◌∷◌, ◌++◌, append_assoc, append-nil}
use native.Mathlib.Omega.{arith}
use lib.ListN.{length}
use Rattle.octets.specs.Octets.{decimal}
use Rattle.termtext.specs.Saying.{words_in, words_of, terms_text, answer_text}
use Rattle.answertext.specs.Terms.{terms_said}
use Rattle.answertext.proofs.LevelLaws.{terms-are}
use Rattle.clauses.specs.Text.{atom_text}

pub atom-is : (text names goal cells : List ℕ) (k w : ℕ) → length cells ≤ 32
    → atom_text (words_in text names) k w cells
    ≡ (39 ∷ 80 ∷ []) ++ (decimal k ++ ((39 ∷ 40 ∷ []) ++ terms_said (words_of text names goal []) w cells))
unfolding answer_text
atom-is text names goal cells k w h =
    let e = append-nil (words_in text names) in
    let T = terms_text (words_in text names) (w ∷ []) cells in
    rw (e, terms-are (words_in text names) w cells (omega arith)) (ap (λ (l : List ℕ). 39 ∷ 80 ∷ l) (append_assoc (decimal k) (39 ∷ []) (40 ∷ T)))
