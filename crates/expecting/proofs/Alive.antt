-- With which bytes the grammar's reader goes on from a mode: those that a message for the mode names, and those that go on with the word
-- before.
use Prim.Native.Nat.{ℕ, suc, ◌+◌, ◌-◌, ◌*◌}
use mathlib.Core.Path.{◌≡◌, refl, sym}
use mathlib.Core.Bool.{Bool, true, false, cond, ◌&&◌, ◌||◌, true≢false}
use mathlib.Core.List.{List, [], ◌∷◌}
use native.Mathlib.Omega.{arith}
use lib.Dec.{eqb, leb, ltb}
use lib.ListN.{length}
use borrow.Author.Tests.{ltb-true, ltb-false, eqb-true, le-leb, lt-leb, lt-ltb}
use Rattle.grammar.specs.Grammar.{is_lower, is_upper, is_digit, is_word, Symbol, name, variable, number}
use Rattle.grammar.specs.Reader.{Mode, first, head, arg, word, minus, digits, after, closed, stop, between, remark, Frame, Work, work, Next, dead}
use Rattle.grammar.specs.Reader.{go, says, is_blank, layout, put, limit, bits_after, step}
use Rattle.grammar.specs.Reader as R
use Rattle.expecting.specs.declared.What.TheVariants as what
use Rattle.expecting.specs.Looking.{marks, what_of}
use Rattle.expecting.specs.Expected.{takes, goes_on_in}
use Rattle.expecting.proofs.Agreed.{stand_of, remarks, Kept, not-mark, not-blank, digit-word}

abbrev pub alive : Next → Bool
alive dead = false
alive (go m w) = true
alive (says f m w) = true

-- a test turns out one way or the other
pub test : {P : Type 0} (t : Bool) → (t ≡ true → P) → (t ≡ false → P) → P
test true f g = f refl
test false f g = g refl

layout-alive : (m : Mode) (w : Work) (b : ℕ) → alive (layout m w b) ≡ (is_blank b || eqb b 37)
unfolding layout
layout-alive m w b = test (is_blank b) (λ e. rw e) (λ e. test (eqb b 37) (λ q. rw (e, q)) (λ q. rw (e, q)))

-- after a term, where the commas are those of the innermost open name
past-plain : (m : Mode) (w w' : Work) (n : Next) (b : ℕ) → alive n ≡ true
    → alive (cond (eqb b 44) n (cond (eqb b 41) (go m w') (layout after w b))) ≡ takes what.Mark b
past-plain m w w' n b e = test (eqb b 44) (λ q. rw q e) (λ q. test (eqb b 41) (λ h. rw (q, h)) (λ h. rw (q, h) (layout-alive after w b)))

past-full : (m : Mode) (w w' : Work) (b : ℕ) → alive (cond (eqb b 44) dead (cond (eqb b 41) (go m w') (layout after w b))) ≡ takes what.Close b
unfolding is_blank
past-full m w w' b =
    test (eqb b 44) (λ q. rw (eqb-true b 44 q)) (λ q. test (eqb b 41) (λ h. rw (q, h)) (λ h. rw (q, h) (layout-alive after w b)))

past-alive : (s e d n b : ℕ) (fs : List Frame) (out : List Symbol) → Kept (length fs) fs n
    → alive (R.past (work s e d fs out) b) ≡ takes (marks (length fs) n) b
unfolding R.past R.on_comma R.on_close
past-alive s e d n b [] out k = past-plain closed (work s e d [] out) _ _ b refl
past-alive s e d n b (f ∷ fs) out k =
    let h = k.0 refl in
    rw (lt-ltb 0 (suc (length fs)) (omega arith))
    (test (ltb f.done 3)
    (λ q. rw (q, lt-leb 3 n (omega (arith, ltb-true f.done 3 q))) (past-plain after (work s e d (f ∷ fs) out) _ _ b refl))
    (λ q. rw (q, le-leb 3 n (omega (arith, ltb-false f.done 3 q))) (past-full after (work s e d (f ∷ fs) out) _ b)))

-- a digit is none of them
digit-no-mark : (d n b : ℕ) → is_digit b ≡ true → takes (marks d n) b ≡ false
digit-no-mark d n b e =
    let w = digit-word b e in
    test (ltb 0 d && leb 3 n)
    (λ q. rw (q, not-mark b 41 w (omega arith), not-blank b w, not-mark b 37 w (omega arith)))
    (λ q. rw (q, not-mark b 44 w (omega arith), not-mark b 41 w (omega arith), not-blank b w, not-mark b 37 w (omega arith)))

-- EVERY MODE
module _ (w : Work) (p n b : ℕ) (k : Kept (length w.opened) w.opened n) where
  after-term : (w' : Work) → w'.opened ≡ w.opened → alive (R.past w' b) ≡ takes (marks (length w.opened) n) b
  after-term w' o = rw (← o) (past-alive w'.start w'.end w'.done n b w'.opened w'.out (rw (← o) at k))

  pub mode-alive : (m : Mode) → remarks m ≡ false → alive (step m w p b) ≡ (goes_on_in m b || takes (what_of (stand_of m) (length w.opened) n) b)
  unfolding step put
  mode-alive first r = test (is_lower b) (λ e. rw e) (λ e. rw e (layout-alive first w b))
  mode-alive (head s) r = test (is_word b) (λ e. rw e) (λ e. test (eqb b 40) (λ q. rw (e, q)) (λ q. rw (e, q)))
  mode-alive arg r =
      test (is_lower b) (λ e. rw e)
      (λ e. test (is_upper b) (λ u. rw (e, u))
      (λ u. test (is_digit b) (λ d. rw (e, u, d)) (λ d. test (eqb b 45) (λ q. rw (e, u, d, q)) (λ q. rw (e, u, d, q) (layout-alive arg w b)))))
  mode-alive (word true s) r =
      test (is_word b) (λ e. rw e) (λ e. test (eqb b 40) (λ q. rw (e, q)) (λ q. rw (e, q) (after-term (put (name s p 0) w) refl)))
  mode-alive (word false s) r = test (is_word b) (λ e. rw e) (λ e. rw e (after-term (put (variable s p) w) refl))
  mode-alive minus r = test (is_digit b) (λ e. rw e) (λ e. rw e)
  mode-alive (digits sign v) r =
      test (is_digit b)
      (λ e. test (leb (10 * v + (b - 48)) (limit sign)) (λ q. rw (e, q)) (λ q. rw (e, q) (sym (digit-no-mark (length w.opened) n b e))))
      (λ e. rw e (after-term (put (number (bits_after sign v)) w) refl))
  mode-alive after r = after-term w refl
  mode-alive closed r = test (eqb b 46) (λ e. rw e) (λ e. rw e (layout-alive closed w b))
  mode-alive stop r = layout-alive between w b
  mode-alive between r = test (is_lower b) (λ e. rw e) (λ e. rw e (layout-alive between w b))
  mode-alive (remark m) r = absurd (true≢false r)
