-- Where a fact begins and ends, layout passed over: as a function of the text, and by the reader.
use Rattle.std.specs.Prelude.{ℕ, suc, ◌+◌, ◌≤◌, ◌<◌, ◌≡◌, Bool, true, false, cond, ◌||◌, List, [], ◌∷◌, ltb, length, drop, Result, Ok, Err}
use Rattle.grammar.specs.Grammar.{is_lower, fact}
use Rattle.grammar.specs.Reader.{Mode, first, arg, closed, stop, Work, work, nothing, Out, stops, reads, fact_before, run}
use Rattle.lex.specs.Turns.{gap_of, word_from, stands_at}
use Rattle.lex.specs.declared.fact.Head.{Head}
use Rattle.lex.specs.declared.fact.Head.TheVariants as head
use Rattle.lex.specs.declared.Stop.{Stop}

-- a fact's name, its bracket at once after it
unfoldable pub head_from : List ℕ → ℕ → List ℕ → Head
head_from t p [] = head.Stop p
head_from t place (byte ∷ rest) =
    let end = word_from rest (place + 1) in
    cond (is_lower byte) (cond (stands_at 40 (drop end t)) (head.Open place end) (head.Stop end)) (head.Stop place)

-- the next fact, from the start of the text on, or from just after a full stop: which layout follows (ISO/IEC 13211-1, 6.4.8), or nothing
unfoldable pub head_of : List ℕ → ℕ → Bool → Head
head_of t at start =
    let place = gap_of t at in
    cond (ltb place (length t)) (cond (start || ltb at place) (head_from t place (drop place t)) (head.Stop place))
    (cond start (head.Stop place) head.End)

abbrev pub fact_mode : Bool → Mode
fact_mode true = first
fact_mode false = stop

-- what follows a head: no fact more; a fact's arguments
abbrev pub on_head : List ℕ → Head → Out
on_head t head.End = reads []
on_head t (head.Open s e) = run (drop (e + 1) t) arg (work s e 0 [] []) (e + 1)
on_head t (head.Stop p) = stops p

-- where it leads: on, within the text
abbrev pub Reaches : List ℕ → ℕ → Head → Type 0
Reaches t at head.End = Unit {0}
Reaches t at (head.Open s e) = (at ≤ s) × (s < e) × (e < length t)
Reaches t at (head.Stop p) = at ≤ length t → p ≤ length t

-- the promise, for every place of every text
pub record Heads (t : List ℕ) (at : ℕ) (first : Bool) (r : Head) : Type 0 where
  pub is : r ≡ head_of t at first
  pub reaches : Reaches t at r
  pub same : (w : Work) → run (drop at t) (fact_mode first) w at ≡ on_head t r

abbrev pub stop_at : ℕ → Stop
stop_at p = record { at = p }

-- after a fact's last bracket: its full stop, and the place after it
unfoldable pub end_of : List ℕ → ℕ → Result ℕ Stop
end_of t at = cond (stands_at 46 (drop (gap_of t at) t)) (Ok (gap_of t at + 1)) (Err (stop_at (gap_of t at)))

-- what follows: the fact is complete, and the text after its full stop
abbrev pub on_end : List ℕ → Work → Result ℕ Stop → Out
on_end t w (Ok q) = fact_before (fact w.start w.end (suc w.done) w.out) (run (drop q t) stop nothing q)
on_end t w (Err p) = stops p.at

abbrev pub Arrives : List ℕ → ℕ → Result ℕ Stop → Type 0
Arrives t at (Ok q) = (at < q) × (q ≤ length t)
Arrives t at (Err p) = at ≤ length t → p.at ≤ length t

pub record Closes (t : List ℕ) (at : ℕ) (r : Result ℕ Stop) : Type 0 where
  pub is : r ≡ end_of t at
  pub arrives : Arrives t at r
  pub same : (w : Work) → run (drop at t) closed w at ≡ on_end t w r
