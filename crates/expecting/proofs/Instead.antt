-- What is said of the byte at which a text is refused is right: a tab where layout may stand, a digit with which a number leaves the range.
use Prim.Native.Nat.{ℕ, suc, ◌+◌, ◌-◌, ◌*◌, ◌<◌}
use mathlib.Core.Path.{◌≡◌, refl, sym, ap, ◌∙◌}
use mathlib.Core.Bool.{Bool, true, false, ◌&&◌, ◌||◌, true≢false, false≢true, or-true}
use mathlib.Core.List.{List, [], ◌∷◌, ◌++◌}
use native.Mathlib.Omega.{arith}
use lib.Dec.{eqb, leb}
use lib.ListN.{length, get_or, take, drop}
use lib.Seq.{take_all, take-suc, drop-cons, drop-length}
use borrow.Author.Tests.{leb-false, eqb-true}
use Rattle.grammar.specs.Grammar.{is_digit, Blank, space, feed, return}
use Rattle.grammar.specs.Reader.{Mode, first, head, arg, word, minus, digits, after, closed, stop, between, remark, Work, nothing, is_blank, limit, step}
use Rattle.grammar.specs.Stops.{Begins, Stops, at_byte, at-end}
use Rattle.grammar.proofs.Complete.{and-true}
use Rattle.expecting.specs.declared.What.{What}
use Rattle.expecting.specs.Looking.{spaced, in_number, found_by, found_at, wanted_at}
use Rattle.expecting.specs.Expected.{names, goes_on, here, reach, ahead, Right, RightOf, Expects}
use Rattle.expecting.proofs.Agreed.{stand_of, remarks, View, plain, noted}
use Rattle.expecting.proofs.Alive.{alive, test}
use Rattle.expecting.proofs.Right.{bytes-are, begins-agrees, ahead-plain, found_here, begins-reach, begins-right}

-- layout is taken where a message lets it stand
blank-taken : {u : List ℕ} {w : What} → Right u w → spaced w ≡ true → (b : ℕ) → Blank b → Begins (u ++ (b ∷ []))
unfolding is_blank
blank-taken {u} {w} r s b l = (r.bytes b).1 (ap (λ (x : Bool). goes_on u b || x) (on (names w b) l) ∙ or-true (goes_on u b))
  where
    on : {b : ℕ} (x : Bool) → Blank b → (x || (spaced w && (is_blank b || eqb b 37))) ≡ true
    on true l = refl
    on false space = rw s
    on false feed = rw s
    on false return = rw s

-- a digit that the reader does not take after a number's
record Over (m : Mode) (b : ℕ) : Type 0 where
  sign : Bool
  value : ℕ
  is : m ≡ digits sign value
  over : limit sign < 10 * value + (b - 48)

digit-over : (m : Mode) (w : Work) (p b : ℕ) → remarks m ≡ false → in_number (stand_of m) ≡ true → is_digit b ≡ true → (alive (step m w p b) ≡ true → ⊥) → Over m b
unfolding step
digit-over first w p b r n d a = absurd (false≢true n)
digit-over (head s) w p b r n d a = absurd (false≢true n)
digit-over arg w p b r n d a = absurd (false≢true n)
digit-over (word true s) w p b r n d a = absurd (false≢true n)
digit-over (word false s) w p b r n d a = absurd (false≢true n)
digit-over minus w p b r n d a = absurd (false≢true n)
digit-over (digits sign v) w p b r n d a =
    test (leb (10 * v + (b - 48)) (limit sign)) (λ e. absurd (a (rw (d, e))))
    (λ e. record { sign = sign; value = v; is = refl; over = leb-false (10 * v + (b - 48)) (limit sign) e })
digit-over after w p b r n d a = absurd (false≢true n)
digit-over closed w p b r n d a = absurd (false≢true n)
digit-over stop w p b r n d a = absurd (false≢true n)
digit-over between w p b r n d a = absurd (false≢true n)
digit-over (remark m) w p b r n d a = absurd (true≢false r)

-- at a byte with which no accepted text goes on
module _ (t : List ℕ) (k : ℕ) (l : k < length t) (g : Begins (take k t)) (none : Begins (take (suc k) t) → ⊥) where
  byte : ℕ
  byte = get_or t k 0

  not-alive : {m : Mode} {w : Work} → reach (take k t) first nothing 0 ≡ here m w → alive (step m w (0 + length (take k t)) byte) ≡ true → ⊥
  unfolding byte
  not-alive {m} {w} e a = none (rw (take-suc t k 0 l) ((bytes-are (take k t) m w e byte).1 a))

  instead-by : {m : Mode} {w : Work} → reach (take k t) first nothing 0 ≡ here m w → remarks m ≡ false
      → RightOf (ahead t k) (byte ∷ drop (suc k) t) (found_at (stand_of m) (wanted_at t k).what (byte ∷ drop (suc k) t))
  unfolding found_at found_by
  instead-by {m} {w} e r =
      test (in_number (stand_of m) && is_digit byte)
      (λ h.
      let a = and-true (in_number (stand_of m)) (is_digit byte) h in
      let o = digit-over m w (0 + length (take k t)) byte r a.0 a.1 (not-alive e) in
      rw h
      (record {
        digit = byte;
        others = drop (suc k) t;
        stands = refl;
        one = a.1;
        sign = o.sign;
        value = o.value;
        work = w;
        number =
            rw (ahead-plain t k e r) (e ∙ ap (λ (x : Mode). here x w) o.is);
        over = o.over;
      }))
      (λ h. rw h
      (test (spaced (wanted_at t k).what && eqb byte 9)
      (λ q.
      let a = and-true (spaced (wanted_at t k).what) (eqb byte 9) q in
      rw q (record {
        others = drop (suc k) t;
        stands = ap (λ (x : ℕ). x ∷ drop (suc k) t) (eqb-true byte 9 a.1);
        taken =
            blank-taken (begins-right t k g) a.0;
      }))
      (λ q. rw q tt)))

  instead-right : RightOf (ahead t k) (drop k t) (wanted_at t k).found
  unfolding byte step
  instead-right = let o = begins-reach t k g in by o.2 (begins-agrees t k o.2 0).view
    where
      by : {m : Mode} {w : Work} → reach (take k t) first nothing 0 ≡ here m w → View m → RightOf (ahead t k) (drop k t) (wanted_at t k).found
      by e (plain r) = rw (found_here t k e, drop-cons t k 0 l) (instead-by e r)
      by {w = w} e (noted {m = m} r) = absurd (not-alive e (test (eqb (get_or t k 0) 10) (λ q. rw q) (λ q. rw q)))

-- WHERE A TEXT IS REFUSED WITH TEXT
pub expected-right : (t : List ℕ) (k : ℕ) → Stops t k → Expects t k (wanted_at t k)
unfolding wanted_at found_at
expected-right t k (at_byte l g none) = record { expected = begins-right t k g; instead = instead-right t k l g none }
expected-right t k (at-end g none) = record {
  expected = begins-right t (length t) (rw (sym (take_all (length t) t (omega arith))) at g);
  instead = rw (drop-length t) tt;
}
