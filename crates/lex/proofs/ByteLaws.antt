-- One byte further at a place of the text: in the grammar's relations, and by the reader.
use Prim.Native.Nat.{ℕ, zero, suc, ◌+◌, ◌-◌, ◌*◌, ◌%◌, ◌≤◌, ◌<◌}
use mathlib.Core.Path.{◌≡◌, refl, sym, ap, subst, ◌∙◌}
use mathlib.Core.Bool.{Bool, true, false, ◌&&◌}
use mathlib.Core.List.{List, [], ◌∷◌}
use native.Mathlib.Omega.{arith}
use native.Mathlib.Numerals.{add-one}
use native.Mathlib.Decide.{dec_lt}
use lib.Dec.{eqb, leb}
use lib.ListN.{length, get_or, drop, drop_of_length-le}
use lib.Seq.{drop-cons}
use borrow.Author.Tests.{ne_eqb, eqb-true, le-leb, lt-leb, leb-true}
use Rattle.grammar.specs.Grammar as G
use Rattle.grammar.specs.Grammar.{is_digit, is_word, Line, Gap, Word, negative, number}
use Rattle.grammar.specs.Reader.{Mode, digits, after, Work, dead, go, is_blank, put, limit, bits_after, step, stops, finish, follow, run, Solid, Ends}
use Rattle.grammar.proofs.Sound.{is-blank}
use Rattle.lex.specs.Turns.{gap_from, gap_of, word_from, word_of, number_from, stands_at, on_mark}
use Rattle.lex.specs.code.Ends.{GapTo, WordTo}
use Rattle.lex.specs.declared.turn.Turn.TheVariants as turn

-- the byte at a place, and the text after it
pub here : (t : List ℕ) (i : ℕ) → i < length t → drop i t ≡ get_or t i 0 ∷ drop (i + 1) t
here t i h = drop-cons t i 0 h ∙ ap (λ (n : ℕ). get_or t i 0 ∷ drop n t) (sym (add-one i))

-- a comment's line
pub line-ended : (t : List ℕ) (i : ℕ) → length t ≤ i → Line i (drop i t) i (drop i t)
line-ended t i h = subst (λ (xs : List ℕ). Line i xs i xs) (sym (drop_of_length-le t h)) G.ended

module _ (t : List ℕ) (i : ℕ) (h : i < length t) where
  -- what begins with the byte at a place, from what goes on after it
  begins : (R : ℕ → List ℕ → Type 0) → (R (suc i) (drop (i + 1) t) → R i (get_or t i 0 ∷ drop (i + 1) t)) → R (i + 1) (drop (i + 1) t) → R i (drop i t)
  begins R f x = subst (R i) (sym (here t i h)) (f (subst (λ (k : ℕ). R k (drop (i + 1) t)) (add-one i) x))

  pub line-feed : get_or t i 0 ≡ 10 → Line i (drop i t) (i + 1) (drop (i + 1) t)
  line-feed e =
      subst (λ (xs : List ℕ). Line i xs (i + 1) (drop (i + 1) t)) (sym (here t i h))
      (rw (e, add-one i) G.feed)

  pub line-byte : (get_or t i 0 ≡ 10 → ⊥) → (q : ℕ) (ys : List ℕ) → Line (i + 1) (drop (i + 1) t) q ys → Line i (drop i t) q ys
  line-byte n q ys = begins (λ (k : ℕ) (xs : List ℕ). Line k xs q ys) (G.byte (ne_eqb (get_or t i 0) 10 n))

  -- layout
  pub gap-blank : is_blank (get_or t i 0) ≡ true → (q : ℕ) (ys : List ℕ) → Gap (i + 1) (drop (i + 1) t) q ys → Gap i (drop i t) q ys
  gap-blank e q ys = begins (λ (k : ℕ) (xs : List ℕ). Gap k xs q ys) (G.blank (is-blank (get_or t i 0) e))

  pub gap-remark : get_or t i 0 ≡ 37 → (r : ℕ) → Line (i + 1) (drop (i + 1) t) r (drop r t) → (q : ℕ) (ys : List ℕ) → Gap r (drop r t) q ys
      → Gap i (drop i t) q ys
  gap-remark e r l q ys g =
      subst (λ (xs : List ℕ). Gap i xs q ys) (sym (here t i h ∙ ap (λ (b : ℕ). b ∷ drop (i + 1) t) e))
      (G.remark (subst (λ (k : ℕ). Line k (drop (i + 1) t) r (drop r t)) (add-one i) l) g)

  pub solid-at : is_blank (get_or t i 0) ≡ false → (get_or t i 0 ≡ 37 → ⊥) → Solid (drop i t)
  solid-at e n = subst Solid (sym (here t i h)) (e, ne_eqb (get_or t i 0) 37 n)

  pub solid-here : Solid (drop i t) → (is_blank (get_or t i 0) ≡ false) × (eqb (get_or t i 0) 37 ≡ false)
  solid-here s = subst Solid (here t i h) s

  -- words
  pub word_byte : is_word (get_or t i 0) ≡ true → (q : ℕ) (ys : List ℕ) → Word (i + 1) (drop (i + 1) t) q ys → Word i (drop i t) q ys
  word_byte e q ys = begins (λ (k : ℕ) (xs : List ℕ). Word k xs q ys) (G.more e)

  pub ends_at : is_word (get_or t i 0) ≡ false → Ends (drop i t)
  ends_at e = subst Ends (sym (here t i h)) e

  -- a byte that is asked for
  pub stands_at_lem : (b : ℕ) → stands_at b (drop i t) ≡ eqb (get_or t i 0) b
  unfolding stands_at
  stands_at_lem b = ap (stands_at b) (here t i h)

  -- the reader
  pub on-byte : (m : Mode) (w : Work) → run (drop i t) m w i ≡ on_mark t i (step m w i (get_or t i 0))
  unfolding run
  on-byte m w =
      ap (λ (xs : List ℕ). run xs m w i) (here t i h)
      ∙ ap (λ (n : ℕ). follow (step m w i (get_or t i 0)) i (λ (m' : Mode) (w' : Work). run (drop (i + 1) t) m' w' n)) (sym (add-one i))

  pub on_go : (m m' : Mode) (w w' : Work) → step m w i (get_or t i 0) ≡ go m' w' → run (drop i t) m w i ≡ run (drop (i + 1) t) m' w' (i + 1)
  on_go m m' w w' e = on-byte m w ∙ ap (on_mark t i) e

  pub on-dead : (m : Mode) (w : Work) → step m w i (get_or t i 0) ≡ dead → run (drop i t) m w i ≡ stops i
  on-dead m w e = on-byte m w ∙ ap (on_mark t i) e

pub solid-end : (t : List ℕ) (i : ℕ) → length t ≤ i → Solid (drop i t)
solid-end t i h = subst Solid (sym (drop_of_length-le t h)) tt

pub ends-end : (t : List ℕ) (i : ℕ) → length t ≤ i → Ends (drop i t)
ends-end t i h = subst Ends (sym (drop_of_length-le t h)) tt

pub stands-end : (t : List ℕ) (i b : ℕ) → length t ≤ i → stands_at b (drop i t) ≡ false
unfolding stands_at
stands-end t i b h = ap (stands_at b) (drop_of_length-le t h)

pub stands-within : (t : List ℕ) (i b : ℕ) → stands_at b (drop i t) ≡ true → i < length t
stands-within t i b e = by (dec_lt i (length t))
  where
    by : Dec (i < length t) → i < length t
    by (yes h) = h
    by (no h) = absurd (let z : true ≡ false = sym e ∙ stands-end t i b (omega arith) in let y : ◌≡◌ {A = ℕ} 0 1 = cc in omega arith)

-- the text from such a byte on
pub stands_here : (t : List ℕ) (i b : ℕ) → stands_at b (drop i t) ≡ true → drop i t ≡ b ∷ drop (i + 1) t
stands_here t i b e =
    let h = stands-within t i b e in
    here t i h ∙ ap (λ (x : ℕ). x ∷ drop (i + 1) t) (eqb-true (get_or t i 0) b (sym (stands_at_lem t i h b) ∙ e))

pub at-end : (t : List ℕ) (i : ℕ) (m : Mode) (w : Work) → length t ≤ i → run (drop i t) m w i ≡ finish m i
unfolding run
at-end t i m w h = ap (λ (xs : List ℕ). run xs m w i) (drop_of_length-le t h)

-- a number
pub digit-least : (b : ℕ) → is_digit b ≡ true → (48 ≤ b) × (b ≤ 57)
unfolding is_digit
digit-least b e = by (leb 48 b) (leb b 57) refl refl e
  where
    by : (x y : Bool) → leb 48 b ≡ x → leb b 57 ≡ y → (x && y) ≡ true → (48 ≤ b) × (b ≤ 57)
    by true true p q h = (leb-true 48 b p, leb-true b 57 q)
    by true false p q h = absurd (let z : ◌≡◌ {A = ℕ} 0 1 = cc in omega arith)
    by false y p q h = absurd (let z : ◌≡◌ {A = ℕ} 0 1 = cc in omega arith)

pub in-digits : (sign : Bool) (v : ℕ) (w : Work) (p b : ℕ) → is_digit b ≡ true → 10 * v + (b - 48) ≤ limit sign
    → step (digits sign v) w p b ≡ go (digits sign (10 * v + (b - 48))) w
unfolding step
in-digits sign v w p b e h = rw (e, le-leb (10 * v + (b - 48)) (limit sign) h)

pub digits-over : (sign : Bool) (v : ℕ) (w : Work) (p b : ℕ) → is_digit b ≡ true → limit sign < 10 * v + (b - 48) → step (digits sign v) w p b ≡ dead
unfolding step
digits-over sign v w p b e h = rw (e, lt-leb (10 * v + (b - 48)) (limit sign) h)

digits-past : (sign : Bool) (v : ℕ) (w : Work) (p b : ℕ) → is_digit b ≡ false
    → step (digits sign v) w p b ≡ step after (put (number (bits_after sign v)) w) p b
unfolding step
digits-past sign v w p b e = rw e

pub digits-end-at : (t : List ℕ) (i : ℕ) (sign : Bool) (v : ℕ) (w : Work) → i < length t → is_digit (get_or t i 0) ≡ false
    → run (drop i t) (digits sign v) w i ≡ run (drop i t) after (put (number (bits_after sign v)) w) i
digits-end-at t i sign v w h e =
    on-byte t i h (digits sign v) w
    ∙ ap (on_mark t i) (digits-past sign v w i (get_or t i 0) e)
    ∙ sym (on-byte t i h after (put (number (bits_after sign v)) w))

pub digits-end-text : (t : List ℕ) (i : ℕ) (sign : Bool) (v : ℕ) (w : Work) → length t ≤ i
    → run (drop i t) (digits sign v) w i ≡ run (drop i t) after (put (number (bits_after sign v)) w) i
unfolding finish
digits-end-text t i sign v w h = at-end t i (digits sign v) w h ∙ sym (at-end t i after (put (number (bits_after sign v)) w) h)

-- its range and its 16 bits
pub limit-most : (sign : Bool) → limit sign ≤ 32768
limit-most true = omega arith
limit-most false = omega arith

pub negative-is : (n : ℕ) → n ≤ 32768 → (65536 - n) % 65536 ≡ negative n
negative-is zero h = refl
negative-is (suc n) h = omega arith

pub bits_small : (sign : Bool) (n : ℕ) → n ≤ limit sign → bits_after sign n ≤ 65535
bits_small true zero h = omega arith
bits_small true (suc n) h = omega arith
bits_small false n h = omega arith

-- Where things end, as a function of the text: the grammar's relations lead there.

-- layout
line-is : {p q : ℕ} {xs ys : List ℕ} → Line p xs q ys → gap_from true xs p ≡ gap_from false ys q
unfolding gap_from
line-is G.ended = refl
line-is G.feed = refl
line-is (G.byte e l) = rw e (line-is l)

solid-is : (xs : List ℕ) (p : ℕ) → Solid xs → gap_from false xs p ≡ p
unfolding gap_from
solid-is [] p s = refl
solid-is (b ∷ xs) p s = rw (s.0, s.1)

blank-is : {b : ℕ} → G.Blank b → is_blank b ≡ true
unfolding is_blank
blank-is G.space = refl
blank-is G.feed = refl
blank-is G.return = refl

gap_is : {p q : ℕ} {xs ys : List ℕ} → Gap p xs q ys → Solid ys → gap_from false xs p ≡ q
unfolding gap_from is_blank
gap_is (G.none {p = p} {xs = xs}) s = solid-is xs p s
gap_is (G.blank b g) s = rw (blank-is b) (gap_is g s)
gap_is (G.remark l g) s = line-is l ∙ gap_is g s

pub gap-of : (t : List ℕ) (p q : ℕ) → GapTo t p q → gap_of t p ≡ q
gap-of t p q g = gap_is g.gap g.solid

pub gap_here : (t : List ℕ) (p : ℕ) → Solid (drop p t) → gap_of t p ≡ p
gap_here t p s = solid-is (drop p t) p s

-- words
word-is : {p q : ℕ} {xs ys : List ℕ} → Word p xs q ys → Ends ys → word_from xs p ≡ q
unfolding word_from
word-is (G.none {p = p} {xs = xs}) e = stays xs p e
  where
    stays : (xs : List ℕ) (p : ℕ) → Ends xs → word_from xs p ≡ p
    stays [] p e = refl
    stays (b ∷ xs) p e = rw e
word-is (G.more e w) x = rw e (word-is w x)

pub word-of : (t : List ℕ) (p q : ℕ) → WordTo t p q → word_of t p ≡ q
word-of t p q w = word-is w.word w.ends

-- numbers
pub number-ended : (t : List ℕ) (i : ℕ) (sign : Bool) (v : ℕ) → length t ≤ i → number_from sign v (drop i t) i ≡ turn.Number (bits_after sign v) i
unfolding number_from
number-ended t i sign v h = ap (λ (xs : List ℕ). number_from sign v xs i) (drop_of_length-le t h)

module _ (t : List ℕ) (i : ℕ) (sign : Bool) (v : ℕ) (h : i < length t) where
  pub number-ends : is_digit (get_or t i 0) ≡ false → number_from sign v (drop i t) i ≡ turn.Number (bits_after sign v) i
  unfolding number_from
  number-ends e = ap (λ (xs : List ℕ). number_from sign v xs i) (here t i h) ∙ rw e

  pub number-over : is_digit (get_or t i 0) ≡ true → limit sign < 10 * v + (get_or t i 0 - 48) → number_from sign v (drop i t) i ≡ turn.Stop i
  unfolding number_from
  number-over e l = ap (λ (xs : List ℕ). number_from sign v xs i) (here t i h) ∙ rw (e, lt-leb (10 * v + (get_or t i 0 - 48)) (limit sign) l)

  pub number-digit : {n : ℕ} → is_digit (get_or t i 0) ≡ true → 10 * v + (get_or t i 0 - 48) ≡ n → n ≤ limit sign
      → number_from sign v (drop i t) i ≡ number_from sign n (drop (i + 1) t) (i + 1)
  unfolding number_from
  number-digit {n} e q l =
      ap (λ (xs : List ℕ). number_from sign v xs i) (here t i h)
      ∙ rw (e, q, le-leb n (limit sign) l)
      (ap (λ (k : ℕ). number_from sign n (drop (i + 1) t) k) (sym (add-one i)))
