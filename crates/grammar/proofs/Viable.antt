-- Where the reader stops no text of the grammar goes on, and before that place one does.
use Prim.Native.Nat.{ℕ, suc, ◌+◌, ◌<◌}
use mathlib.Core.Path.{◌≡◌, refl, sym, ap, subst, ◌∙◌}
use mathlib.Core.Bool.{Bool, true, false}
use mathlib.Core.List.{List, [], ◌∷◌, ◌++◌}
use native.Mathlib.Nat.{add-zero}
use native.Mathlib.Omega.{arith}
use lib.ListN.{length, take}
use Rattle.grammar.specs.Grammar as G
use Rattle.grammar.specs.Grammar.{is_lower, is_digit, Symbol, Fact, fact}
use Rattle.grammar.specs.Reader.{Mode, first, head, arg, word, minus, digits, after, closed, stop, between, remark, Frame, Work, work, nothing}
use Rattle.grammar.specs.Reader.{Next, dead, go, says, put, bits_after, step, Out, stops, reads, fact_before, finish, run, text_of}
use Rattle.grammar.specs.Stops.{Begins, Stops, at_byte, at-end}
use Rattle.grammar.proofs.Complete.{Follows, name-ends, variable-ends, follows-ends, digits-end, after_minus, at-lower, at_first}
use Rattle.grammar.proofs.Complete.{at-head-open, at-close, at-fact-close, at-stop, text-read, bracket-follows}
use Rattle.grammar.proofs.Sound.{clash, text-is}

-- Every mode can be brought to an end.
pub record Lives (u : List ℕ) (m : Mode) (w : Work) (p : ℕ) : Type 0 where
  pub rest : List ℕ
  pub facts : List Fact
  pub goes : run (u ++ rest) m w p ≡ reads facts

closes : List Frame → List ℕ
closes [] = 41 ∷ 46 ∷ []
closes (f ∷ fs) = 41 ∷ closes fs

closes-follow : (fs : List Frame) → Follows (closes fs)
unfolding closes
closes-follow [] = bracket-follows (46 ∷ [])
closes-follow (f ∷ fs) = bracket-follows (closes fs)

run-closes : (fs : List Frame) (s n k : ℕ) (out : List Symbol) (p : ℕ) → (F : List Fact) × (run (closes fs) after (work s n k fs out) p ≡ reads F)
unfolding closes run finish
run-closes [] s n k out p = (fact s n (suc k) out ∷ [], at-fact-close (46 ∷ []) p s n k out ∙ at-stop [] (suc p) (work s n k [] out))
run-closes (f ∷ fs) s n k out p =
    let r = run-closes fs s n k _ (suc p) in
    (r.0, at-close (closes fs) p s n k f fs out ∙ r.1)

after-lives : (w : Work) (p : ℕ) → Lives [] after w p
after-lives w p = let r = run-closes w.opened w.start w.end w.done w.out p in record { rest = closes w.opened; facts = r.0; goes = r.1 }

name-lives : (s : ℕ) (w : Work) (p : ℕ) → Lives [] (word true s) w p
unfolding put
name-lives s w p =
    let r = run-closes w.opened w.start w.end w.done (w.out ++ (G.name s p 0 ∷ [])) p in
    record { rest = closes w.opened; facts = r.0; goes = name-ends s w p (closes w.opened) (closes-follow w.opened) ∙ r.1 }

arg-lives : (w : Work) (p : ℕ) → Lives [] arg w p
unfolding is_lower
arg-lives w p = let r = name-lives p w (suc p) in record { rest = 97 ∷ r.rest; facts = r.facts; goes = at-lower 97 r.rest w p refl ∙ r.goes }

head-lives : (s : ℕ) (w : Work) (p : ℕ) → Lives [] (head s) w p
head-lives s w p =
    let r = arg-lives (work s p 0 [] []) (suc p) in
    record { rest = 40 ∷ r.rest; facts = r.facts; goes = at-head-open r.rest p s w ∙ r.goes }

digits-live : (sign : Bool) (v : ℕ) (w : Work) (p : ℕ) → Lives [] (digits sign v) w p
unfolding put
digits-live sign v w p =
    let r = run-closes w.opened w.start w.end w.done (w.out ++ (G.number (bits_after sign v) ∷ [])) p in
    record { rest = closes w.opened; facts = r.0; goes = digits-end sign v w p (closes w.opened) (closes-follow w.opened) ∙ r.1 }

-- a minus sign goes on with `0`
minus-lives : (w : Work) (p : ℕ) → Lives [] minus w p
unfolding is_digit
minus-lives w p = let r = digits-live true 0 w (suc p) in record { rest = 48 ∷ r.rest; facts = r.facts; goes = after_minus 48 r.rest w p refl ∙ r.goes }

pub mode-lives : (m : Mode) (w : Work) (p : ℕ) → Lives [] m w p
unfolding is_lower run finish step put
mode-lives first w p = let r = head-lives p w (suc p) in record { rest = 97 ∷ r.rest; facts = r.facts; goes = at_first 97 r.rest w p refl ∙ r.goes }
mode-lives (head s) w p = head-lives s w p
mode-lives arg w p = arg-lives w p
mode-lives (word true s) w p = name-lives s w p
mode-lives (word false s) w p =
    let r = run-closes w.opened w.start w.end w.done (w.out ++ (G.variable s p ∷ [])) p in
    record {
      rest = closes w.opened;
      facts = r.0;
      goes =
          variable-ends s w p (closes w.opened) (follows-ends (closes w.opened) (closes-follow w.opened)) ∙ r.1;
    }
mode-lives minus w p = minus-lives w p
mode-lives (digits sign v) w p = digits-live sign v w p
mode-lives after w p = after-lives w p
mode-lives closed w p = record { rest = 46 ∷ []; facts = fact w.start w.end (suc w.done) w.out ∷ []; goes = at-stop [] p w }
mode-lives stop w p = record { rest = []; facts = []; goes = refl }
mode-lives between w p = record { rest = []; facts = []; goes = refl }
mode-lives (remark m) w p = let r = mode-lives m w (suc p) in record { rest = 10 ∷ r.rest; facts = r.facts; goes = r.goes }

-- Where the reader stops: at a byte after which nothing is read whatever follows, or at the end; up to there it lives.
data Halts (xs : List ℕ) (m : Mode) (w : Work) (p k : ℕ) : Type 0 where
  inside : (j : ℕ) → j < length xs → k ≡ p + j → ((v : List ℕ) → run (take (suc j) xs ++ v) m w p ≡ stops k) → Lives (take j xs) m w p → Halts xs m w p k
  outside : k ≡ p + length xs → Lives xs m w p → Halts xs m w p k

finish-place : (m : Mode) (p k : ℕ) → finish m p ≡ stops k → k ≡ p
unfolding finish
finish-place first p k e = cc
finish-place (head s) p k e = cc
finish-place arg p k e = cc
finish-place (word n s) p k e = cc
finish-place minus p k e = cc
finish-place (digits sign v) p k e = cc
finish-place after p k e = cc
finish-place closed p k e = cc
finish-place stop p k e = clash (sym e)
finish-place between p k e = clash (sym e)
finish-place (remark m) p k e = finish-place m p k e

before-stops : (f : Fact) (o : Out) (k : ℕ) → fact_before f o ≡ stops k → o ≡ stops k
before-stops f (stops j) k e = e
before-stops f (reads F) k e = clash (sym e)

on_go : {b : ℕ} {xs : List ℕ} {m m' : Mode} {w w' : Work} {p k : ℕ} → step m w p b ≡ go m' w' → Halts xs m' w' (suc p) k → Halts (b ∷ xs) m w p k
unfolding run
on_go e (inside j h q f l) = inside (suc j) (omega arith) (omega arith) (λ v. rw e (f v)) (record { rest = l.rest; facts = l.facts; goes = rw e l.goes })
on_go e (outside q l) = outside (omega arith) (record { rest = l.rest; facts = l.facts; goes = rw e l.goes })

on-says : {b : ℕ} {xs : List ℕ} {f : Fact} {m m' : Mode} {w w' : Work} {p k : ℕ} → step m w p b ≡ says f m' w' → Halts xs m' w' (suc p) k
    → Halts (b ∷ xs) m w p k
unfolding run
on-says {f = f} e (inside j h q g l) =
    inside (suc j) (omega arith) (omega arith) (λ v. rw e (ap (fact_before f) (g v)))
    (record { rest = l.rest; facts = f ∷ l.facts; goes = rw e (ap (fact_before f) l.goes) })
on-says {f = f} e (outside q l) = outside (omega arith) (record { rest = l.rest; facts = f ∷ l.facts; goes = rw e (ap (fact_before f) l.goes) })

halts : (xs : List ℕ) (m : Mode) (w : Work) (p k : ℕ) → run xs m w p ≡ stops k → Halts xs m w p k
unfolding run
halts [] m w p k e = outside (finish-place m p k e ∙ sym (add-zero p)) (mode-lives m w p)
halts (b ∷ xs) m w p k e = on (step m w p b) refl (λ m' w'. halts xs m' w' (suc p) k) e
  where
    on : (n : Next) → step m w p b ≡ n → ((m' : Mode) (w' : Work) → run xs m' w' (suc p) ≡ stops k → Halts xs m' w' (suc p) k)
        → run (b ∷ xs) m w p ≡ stops k → Halts (b ∷ xs) m w p k
    on dead h f r =
        let q : stops p ≡ stops k = rw h at r in
        let z : k ≡ p = cc in
        inside 0 (omega arith) (omega arith) (λ v. rw h (ap stops (sym z))) (mode-lives m w p)
    on (go m' w') h f r = on_go h (f m' w' (rw h at r))
    on (says g m' w') h f r = on-says h (f m' w' (before-stops g (run xs m' w' (suc p)) k (rw h at r)))

-- WHERE TEXT IS REFUSED
pub text-stops : (t : List ℕ) (k : ℕ) → text_of t ≡ stops k → Stops t k
unfolding text_of
text-stops t k e = on (halts t first nothing 0 k e)
  where
    lives : (u : List ℕ) → Lives u first nothing 0 → Begins u
    lives u l = record { rest = l.rest; facts = l.facts; text = text-is (u ++ l.rest) l.facts l.goes }

    on : Halts t first nothing 0 k → Stops t k
    on (inside j h q f l) =
        let z : k ≡ j = omega arith in
        subst (Stops t) (sym z) (at_byte h (lives (take j t) l) (λ b. clash (sym (f b.rest) ∙ text-read (take (suc j) t ++ b.rest) b.text)))
    on (outside q l) =
        let z : k ≡ length t = omega arith in
        subst (Stops t) (sym z) (at-end (lives t l) (λ F x. clash (sym e ∙ text-read t x)))
