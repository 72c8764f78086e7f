-- What the next turn inside a fact is: a symbol or a mark, layout passed over. Said twice: as a function of the text, and by the reader,
-- for which the text from here on is the turn and then the text after it, whatever has been read before.
use Rattle.std.specs.Prelude.{ℕ, suc, ◌+◌, ◌-◌, ◌*◌, ◌≤◌, ◌<◌, ◌≡◌, Bool, true, false, not, cond, List, [], ◌∷◌, eqb, leb, length, drop}
use Rattle.grammar.specs.Grammar.{is_lower, is_upper, is_digit, is_word, name, variable, number}
use Rattle.grammar.specs.Reader.{Mode, arg, after, Work, is_blank, put, push, on_comma, on_close, Next, Out, stops, follow, run}
use Rattle.grammar.specs.Reader.{limit, bits_after}
use Rattle.lex.specs.declared.turn.Turn.{Turn}
use Rattle.lex.specs.declared.turn.Turn.TheVariants as turn
use Rattle.limits.specs.Limits.{most_text_bytes}

-- where layout ends, in a comment's line or not
unfoldable pub gap_from : Bool → List ℕ → ℕ → ℕ
gap_from comment [] p = p
gap_from true (b ∷ xs) p = gap_from (not (eqb b 10)) xs (suc p)
gap_from false (b ∷ xs) p = cond (is_blank b) (gap_from false xs (suc p)) (cond (eqb b 37) (gap_from true xs (suc p)) p)

abbrev pub gap_of : List ℕ → ℕ → ℕ
gap_of t at = gap_from false (drop at t) at

-- where a name or a variable ends, its first byte passed over
unfoldable pub word_from : List ℕ → ℕ → ℕ
word_from [] p = p
word_from (b ∷ xs) p = cond (is_word b) (word_from xs (suc p)) p

abbrev pub word_of : List ℕ → ℕ → ℕ
word_of t at = word_from (drop at t) at

-- a number, after a minus sign or not, with a value before it: its 16 bits and the place after it, or the digit with which it leaves the
-- range
unfoldable pub number_from : Bool → ℕ → List ℕ → ℕ → Turn
number_from sign v [] p = turn.Number (bits_after sign v) p
number_from sign value (byte ∷ rest) place =
    let more = 10 * value + (byte - 48) in
    cond (is_digit byte) (cond (leb more (limit sign)) (number_from sign more rest (suc place)) (turn.Stop place))
    (turn.Number (bits_after sign value) place)

-- after a minus sign: its first digit stands here
unfoldable pub negative_from : List ℕ → ℕ → Turn
negative_from [] p = turn.Stop p
negative_from (b ∷ xs) p = cond (is_digit b) (number_from true (b - 48) xs (p + 1)) (turn.Stop p)

-- this byte stands here
unfoldable pub stands_at : ℕ → List ℕ → Bool
stands_at byte [] = false
stands_at byte (b ∷ xs) = eqb b byte

-- before a term: a name with or without a bracket, a variable, a number
unfoldable pub term_from : List ℕ → ℕ → List ℕ → Turn
term_from t p [] = turn.Stop p
term_from t place (byte ∷ rest) =
    let end = word_from rest (place + 1) in
    cond (is_lower byte) (cond (stands_at 40 (drop end t)) (turn.Open place end) (turn.Name place end))
    (cond (is_upper byte) (turn.Variable place end)
    (cond (is_digit byte) (number_from false (byte - 48) rest (place + 1))
    (cond (eqb byte 45) (negative_from rest (place + 1)) (turn.Stop place))))

-- after a term: a comma or a bracket
unfoldable pub mark_from : ℕ → List ℕ → Turn
mark_from p [] = turn.Stop p
mark_from p (b ∷ xs) = cond (eqb b 44) (turn.Comma p) (cond (eqb b 41) (turn.Close p) (turn.Stop p))

-- the turn from a place on, where a term has just been read or is to come
unfoldable pub turn_of : List ℕ → ℕ → Bool → Turn
turn_of t at true = mark_from (gap_of t at) (drop (gap_of t at) t)
turn_of t at false = term_from t (gap_of t at) (drop (gap_of t at) t)

abbrev pub term_mode : Bool → Mode
term_mode true = after
term_mode false = arg

-- what a mark does, and then the text after it
abbrev pub on_mark : List ℕ → ℕ → Next → Out
on_mark t p next = follow next p (λ (m : Mode) (w : Work). run (drop (p + 1) t) m w (p + 1))

-- what follows a turn, for a work under way
abbrev pub on_turn : List ℕ → Work → Turn → Out
on_turn t w (turn.Name s e) = run (drop e t) after (put (name s e 0) w) e
on_turn t w (turn.Open s e) = run (drop (e + 1) t) arg (push s e w) (e + 1)
on_turn t w (turn.Variable s e) = run (drop e t) after (put (variable s e) w) e
on_turn t w (turn.Number v e) = run (drop e t) after (put (number v) w) e
on_turn t w (turn.Comma p) = on_mark t p (on_comma w.start w.end w.done w.opened w.out)
on_turn t w (turn.Close p) = on_mark t p (on_close w.start w.end w.done w.opened w.out)
on_turn t w (turn.Stop p) = stops p

-- where it leads: on, within the text
abbrev pub Leads : List ℕ → ℕ → Turn → Type 0
Leads t at (turn.Name s e) = (at ≤ s) × (s < e) × (e ≤ length t)
Leads t at (turn.Open s e) = (at ≤ s) × (s < e) × (e < length t)
Leads t at (turn.Variable s e) = (at ≤ s) × (s < e) × (e ≤ length t)
Leads t at (turn.Number v e) = (at < e) × (e ≤ length t) × (v ≤ most_text_bytes)
Leads t at (turn.Comma p) = (at ≤ p) × (p < length t)
Leads t at (turn.Close p) = (at ≤ p) × (p < length t)
Leads t at (turn.Stop p) = at ≤ length t → p ≤ length t

-- the promise, for every place of every text
pub record Turns (t : List ℕ) (at : ℕ) (past : Bool) (r : Turn) : Type 0 where
  pub is : r ≡ turn_of t at past
  pub leads : Leads t at r
  pub same : (w : Work) → run (drop at t) (term_mode past) w at ≡ on_turn t w r
