-- The text read byte by byte: what the code does. That it reads the texts of Grammar, and stops where no such text could go on, is proved
-- in proofs/Accepted.
use Rattle.std.specs.Prelude.{ℕ, suc, ◌+◌, ◌-◌, ◌*◌, ◌<◌, ◌≡◌, Bool, true, false, cond, ◌&&◌, ◌||◌, List, [], ◌∷◌, ◌++◌, eqb, leb, ltb, length, get_or, set}
use Rattle.grammar.specs.Grammar.{is_lower, is_upper, is_digit, is_word, Blank, negative, Symbol, name, variable, number, Fact, fact}

-- what the reader is in: before the first fact; a fact's name, from a place on; before a term; a name (true) or a variable (false), from a
-- place on; just after a minus sign; a number, after a minus sign (true) or not, its digits' value so far; after a term; after a fact's
-- last bracket; just after its full stop; after layout that follows a full stop; a comment, and what it stands in
pub data Mode : Type 0 where
  first : Mode
  head : ℕ → Mode
  arg : Mode
  word : Bool → ℕ → Mode
  minus : Mode
  digits : Bool → ℕ → Mode
  after : Mode
  closed : Mode
  stop : Mode
  between : Mode
  remark : Mode → Mode

-- a name whose bracket is open: which symbol it is, where it stands, how many arguments are complete
pub record Frame : Type 0 where
  pub owner : ℕ
  pub start : ℕ
  pub end : ℕ
  pub done : ℕ

abbrev pub frame : ℕ → ℕ → ℕ → ℕ → Frame
frame o s n c = record { owner = o; start = s; end = n; done = c }

-- the fact under way: its predicate's place, how many arguments are complete, the open names, the innermost first, and its symbols so far.
-- A name that is open stands among them with the arguments that are complete
pub record Work : Type 0 where
  pub start : ℕ
  pub end : ℕ
  pub done : ℕ
  pub opened : List Frame
  pub out : List Symbol

abbrev pub work : ℕ → ℕ → ℕ → List Frame → List Symbol → Work
work s n k open' out = record { start = s; end = n; done = k; opened = open'; out = out }

abbrev pub nothing : Work
nothing = work 0 0 0 [] []

-- one byte further: no text goes on so; on; or on, with a fact that is complete
pub data Next : Type 0 where
  dead : Next
  go : Mode → Work → Next
  says : Fact → Mode → Work → Next

unfoldable pub is_blank : ℕ → Bool
is_blank b = eqb b 32 || (eqb b 10 || eqb b 13)

unfoldable pub layout : Mode → Work → ℕ → Next
layout m w b = cond (is_blank b) (go m w) (cond (eqb b 37) (go (remark m) w) dead)

-- a name's bracket opens; a symbol is read
unfoldable pub push : ℕ → ℕ → Work → Work
push s n w = work w.start w.end w.done (frame (length w.out) s n 0 ∷ w.opened) (w.out ++ (name s n 0 ∷ []))

unfoldable pub put : Symbol → Work → Work
put x w = work w.start w.end w.done w.opened (w.out ++ (x ∷ []))

-- one more argument of an open name is complete: in its frame, and among the symbols
abbrev pub one_more : Frame → Frame
one_more f = frame f.owner f.start f.end (suc f.done)

abbrev pub one_more_in : Frame → List Symbol → List Symbol
one_more_in f out = set out f.owner (name f.start f.end (suc f.done))

-- a comma, of the fact or of the innermost open name, which has at most 4 arguments; a closing bracket
unfoldable pub on_comma : ℕ → ℕ → ℕ → List Frame → List Symbol → Next
on_comma s n k [] out = go arg (work s n (suc k) [] out)
on_comma s n k (f ∷ fs) out = cond (ltb f.done 3) (go arg (work s n k (one_more f ∷ fs) (one_more_in f out))) dead

unfoldable pub on_close : ℕ → ℕ → ℕ → List Frame → List Symbol → Next
on_close s n k [] out = go closed (work s n k [] out)
on_close s n k (f ∷ fs) out = go after (work s n k fs (one_more_in f out))

unfoldable pub past : Work → ℕ → Next
past now byte =
    cond (eqb byte 44) (on_comma now.start now.end now.done now.opened now.out)
    (cond (eqb byte 41) (on_close now.start now.end now.done now.opened now.out)
    (layout after now byte))

abbrev pub symbol : Bool → ℕ → ℕ → Symbol
symbol true s n = name s n 0
symbol false s n = variable s n

-- after a minus sign or without one: the largest value of the digits, and a number's 16 bits
abbrev pub limit : Bool → ℕ
limit sign = cond sign 32768 32767

abbrev pub bits_after : Bool → ℕ → ℕ
bits_after sign n = cond sign (negative n) n

unfoldable pub step : Mode → Work → ℕ → ℕ → Next
step first w p b = cond (is_lower b) (go (head p) w) (layout first w b)
step (head s) w p b = cond (is_word b) (go (head s) w) (cond (eqb b 40) (go arg (work s p 0 [] [])) dead)
step arg now place byte =
    cond (is_lower byte) (go (word true place) now)
    (cond (is_upper byte) (go (word false place) now)
    (cond (is_digit byte) (go (digits false (byte - 48)) now)
    (cond (eqb byte 45) (go minus now)
    (layout arg now byte))))
step (word n s) w p b = cond (is_word b) (go (word n s) w) (cond (n && eqb b 40) (go arg (push s p w)) (past (put (symbol n s p) w) b))
step minus w p b = cond (is_digit b) (go (digits true (b - 48)) w) dead
step (digits sign value) now place byte =
    let more = 10 * value + (byte - 48) in
    cond (is_digit byte) (cond (leb more (limit sign)) (go (digits sign more) now) dead)
    (past (put (number (bits_after sign value)) now) byte)
step after w p b = past w b
step closed w p b = cond (eqb b 46) (says (fact w.start w.end (suc w.done) w.out) stop nothing) (layout closed w b)
step stop w p b = layout between w b
step between w p b = cond (is_lower b) (go (head p) w) (layout between w b)
step (remark m) w p b = cond (eqb b 10) (go m w) (go (remark m) w)

-- what is read: the facts, or the place at which no text goes on so
pub data Out : Type 0 where
  stops : ℕ → Out
  reads : List Fact → Out

abbrev pub fact_before : Fact → Out → Out
fact_before f (stops k) = stops k
fact_before f (reads fs) = reads (f ∷ fs)

-- the text ends
unfoldable pub finish : Mode → ℕ → Out
finish first p = stops p
finish (head s) p = stops p
finish arg p = stops p
finish (word n s) p = stops p
finish minus p = stops p
finish (digits sign v) p = stops p
finish after p = stops p
finish closed p = stops p
finish stop p = reads []
finish between p = reads []
finish (remark m) p = finish m p

abbrev pub follow : Next → ℕ → (Mode → Work → Out) → Out
follow dead p k = stops p
follow (go m w) p k = k m w
follow (says f m w) p k = fact_before f (k m w)

unfoldable pub run : List ℕ → Mode → Work → ℕ → Out
run [] m w p = finish m p
run (b ∷ xs) m w p = follow (step m w p b) p (λ (m' : Mode) (w' : Work). run xs m' w' (suc p))

unfoldable pub text_of : List ℕ → Out
text_of t = run t first nothing 0

-- the open names among the symbols so far: each stands where its owner says, and the owners fall from the innermost on
abbrev pub Under : ℕ → List Frame → Type 0
Under n [] = Unit {0}
Under n (f ∷ fs) = (f.owner < n) × Under n fs

pub data Held (out : List Symbol) : List Frame → Type 0 where
  none : Held out []
  more : {f : Frame} {fs : List Frame} → f.owner < length out → get_or out f.owner (number 0) ≡ name f.start f.end f.done
      → Under f.owner fs → Held out fs → Held out (f ∷ fs)

-- a mode in which layout may stand
pub record Rests (m : Mode) (w : Work) : Type 0 where
  pub blank : (p : ℕ) {b : ℕ} → Blank b → step m w p b ≡ go m w
  pub mark : (p : ℕ) → step m w p 37 ≡ go (remark m) w

-- no layout begins here
abbrev pub Solid : List ℕ → Type 0
Solid [] = Unit {0}
Solid (b ∷ xs) = (is_blank b ≡ false) × (eqb b 37 ≡ false)

-- no word goes on here
abbrev pub Ends : List ℕ → Type 0
Ends [] = Unit {0}
Ends (b ∷ xs) = is_word b ≡ false
