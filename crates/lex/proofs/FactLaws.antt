-- Where a fact begins and ends, law by law.
use Prim.Native.Nat.{ℕ, suc, ◌+◌, ◌≤◌, ◌<◌}
use mathlib.Core.Path.{◌≡◌, refl, sym, ap, subst, ◌∙◌}
use mathlib.Core.Bool.{Bool, true, false, cond, ◌||◌}
use mathlib.Core.List.{List, [], ◌∷◌}
use native.Mathlib.Omega.{arith}
use native.Mathlib.Numerals.{add-one}
use native.Mathlib.Decide.{dec_lt}
use lib.Dec.{eqb, ltb}
use lib.ListN.{length, get_or, drop}
use borrow.Author.Tests.{lt-ltb, le-ltb}
use Rattle.grammar.specs.Grammar.{is_lower, fact}
use Rattle.grammar.specs.Reader.{Mode, first, head, arg, closed, stop, between, Work, work, nothing, dead, is_blank, step, stops, reads, fact_before}
use Rattle.grammar.specs.Reader.{finish, run, Solid, Ends}
use Rattle.grammar.proofs.Complete.{run-gap, run-head, run-stop, rests-first, rests-closed, at_first, at-between, at-head-open, at-stop}
use Rattle.grammar.proofs.Sound.{not-layout}
use Rattle.lex.specs.Turns.{stands_at}
use Rattle.lex.specs.Heads.{head_from, head_of, stop_at, end_of, Reaches, Heads, Closes}
use Rattle.lex.specs.code.Ends.{GapTo, WordTo, HeadAt}
use Rattle.lex.specs.declared.fact.Head.{Head}
use Rattle.lex.specs.declared.fact.Head.TheVariants as head-is
use Rattle.std.specs.Prelude.{Ok, Err}
use Rattle.lex.proofs.ByteLaws.{here, gap-of, word-of, solid-here, stands-within, stands_here, on-dead, at-end}

-- no fact begins with such a byte
no-first : (w : Work) (p b : ℕ) → is_lower b ≡ false → is_blank b ≡ false → eqb b 37 ≡ false → step first w p b ≡ dead
unfolding step
no-first w p b e h k = rw (e, not-layout first w b h k)

no-between : (w : Work) (p b : ℕ) → is_lower b ≡ false → is_blank b ≡ false → eqb b 37 ≡ false → step between w p b ≡ dead
unfolding step
no-between w p b e h k = rw (e, not-layout between w b h k)

pub no-fact : (t : List ℕ) (at : ℕ) → at < length t → Solid (drop at t) → is_lower (get_or t at 0) ≡ false → HeadAt t at (head-is.Stop at)
unfolding head_from
no-fact t at h s e =
    let o = solid-here t at h s in
    record {
      is = sym (ap (head_from t at) (here t at h) ∙ rw e);
      reaches = λ l. l;
      first = λ w. on-dead t at h first w (no-first w at (get_or t at 0) e o.0 o.1);
      later = λ w. on-dead t at h between w (no-between w at (get_or t at 0) e o.0 o.1);
    }

-- a predicate's name without a bracket
head-stops : (xs : List ℕ) (s : ℕ) (w : Work) (p : ℕ) → Ends xs → stands_at 40 xs ≡ false → run xs (head s) w p ≡ stops p
unfolding run step finish stands_at
head-stops [] s w p e o = refl
head-stops (b ∷ xs) s w p e o = rw (e, o)

-- and with one
head-opens : (t : List ℕ) (e s : ℕ) (w : Work) → stands_at 40 (drop e t) ≡ true
    → run (drop e t) (head s) w e ≡ run (drop (e + 1) t) arg (work s e 0 [] []) (e + 1)
head-opens t e s w o =
    ap (λ (xs : List ℕ). run xs (head s) w e) (stands_here t e 40 o)
    ∙ at-head-open (drop (e + 1) t) e s w
    ∙ ap (λ (n : ℕ). run (drop (e + 1) t) arg (work s e 0 [] []) n) (sym (add-one e))

module _ (t : List ℕ) (at e : ℕ) (h : at < length t) (l : is_lower (get_or t at 0) ≡ true) (k : WordTo t (at + 1) e) where
  -- from its first byte to its end, in a mode that begins a fact with such a byte
  to_end : (m : Mode) (w : Work) → ((b : ℕ) (xs : List ℕ) (w : Work) (p : ℕ) → is_lower b ≡ true → run (b ∷ xs) m w p ≡ run xs (head p) w (suc p))
      → run (drop at t) m w at ≡ run (drop e t) (head at) w e
  to_end m w f =
      ap (λ (xs : List ℕ). run xs m w at) (here t at h)
      ∙ f (get_or t at 0) (drop (at + 1) t) w at l
      ∙ ap (λ (n : ℕ). run (drop (at + 1) t) (head at) w n) (sym (add-one at))
      ∙ run-head at w k.word

  pub head-alone : stands_at 40 (drop e t) ≡ false → HeadAt t at (head-is.Stop e)
  unfolding head_from
  head-alone o =
      record {
        is = sym (ap (head_from t at) (here t at h) ∙ rw (l, word-of t (at + 1) e k, o));
        reaches = λ g. k.within (omega arith);
        first = λ w. to_end first w at_first ∙ head-stops (drop e t) at w e k.ends o;
        later = λ w. to_end between w at-between ∙ head-stops (drop e t) at w e k.ends o;
      }

  pub head-open : stands_at 40 (drop e t) ≡ true → HeadAt t at (head-is.Open at e)
  unfolding head_from
  head-open o =
      record {
        is = sym (ap (head_from t at) (here t at h) ∙ rw (l, word-of t (at + 1) e k, o));
        reaches = (omega arith, omega (arith, k.from), stands-within t e 40 o);
        first = λ w. to_end first w at_first ∙ head-opens t e at w o;
        later = λ w. to_end between w at-between ∙ head-opens t e at w o;
      }

-- layout first
module _ (t : List ℕ) (at p : ℕ) (g : GapTo t at p) where
  -- the head, where layout ends
  abbrev head_after : Bool → ℕ → Head
  head_after f place =
      cond (ltb place (length t)) (cond (f || ltb at place) (head_from t place (drop place t)) (head-is.Stop place))
      (cond f (head-is.Stop place) head-is.End)

  reaches-on : (r : Head) → Reaches t p r → Reaches t at r
  reaches-on head-is.End x = tt
  reaches-on (head-is.Open s e) x = (omega (arith, g.from), x.1, x.2)
  reaches-on (head-is.Stop q) x = λ l. x (g.within l)

  head-of : (f : Bool) → head_of t at f ≡ head_after f p
  unfolding head_of
  head-of f = ap (head_after f) (gap-of t at p g)

  pub first-fact : {f : Bool} (r : Head) → HeadAt t p r → p < length t → f ≡ true → Heads t at f r
  first-fact r x h q =
      subst (λ (f : Bool). Heads t at f r) (sym q)
      (record {
        is = x.is ∙ sym (head-of true ∙ rw (lt-ltb p (length t) h));
        reaches = reaches-on r x.reaches;
        same =
            λ w. run-gap (rests-first w) g.gap ∙ x.first w;
      })

  pub later-fact : {f : Bool} (r : Head) → HeadAt t p r → p < length t → f ≡ false → at < p → Heads t at f r
  later-fact r x h q l =
      subst (λ (f : Bool). Heads t at f r) (sym q)
      (record {
        is = x.is ∙ sym (head-of false ∙ rw (lt-ltb p (length t) h, lt-ltb at p l));
        reaches = reaches-on r x.reaches;
        same =
            λ w. run-stop w g.gap l ∙ x.later w;
      })

  -- no layout after a full stop
  pub no-layout : {f : Bool} → p < length t → f ≡ false → p ≤ at → Heads t at f (head-is.Stop p)
  unfolding step
  no-layout h q l =
      let e : at ≡ p = omega (arith, g.from) in
      let o = solid-here t p h g.solid in
      subst (λ (f : Bool). Heads t at f (head-is.Stop p)) (sym q)
      (record {
        is = sym (head-of false ∙ rw (lt-ltb p (length t) h, le-ltb at p l));
        reaches = λ x. omega arith;
        same = λ w. ap (λ (i : ℕ). run (drop i t) stop w i) e ∙ on-dead t p h stop w (not-layout between w (get_or t p 0) o.0 o.1);
      })

  -- the text ends
  pub no-facts : {f : Bool} → length t ≤ p → f ≡ true → Heads t at f (head-is.Stop p)
  unfolding finish
  no-facts h q =
      subst (λ (f : Bool). Heads t at f (head-is.Stop p)) (sym q)
      (record {
        is = sym (head-of true ∙ rw (le-ltb p (length t) h));
        reaches = λ l. g.within l;
        same = λ w. run-gap (rests-first w) g.gap
            ∙ at-end t p first w h;
      })

  pub all-facts : {f : Bool} → length t ≤ p → f ≡ false → Heads t at f head-is.End
  unfolding finish
  all-facts h q =
      subst (λ (f : Bool). Heads t at f head-is.End) (sym q)
      (record { is = sym (head-of false ∙ rw (le-ltb p (length t) h)); reaches = tt; same = λ w. by w (dec_lt at p) })
    where
      by : (w : Work) → Dec (at < p) → run (drop at t) stop w at ≡ reads []
      by w (yes l) = run-stop w g.gap l ∙ at-end t p between w h
      by w (no l) = at-end t at stop w (omega (arith, g.from))

  -- a full stop
  end-of : end_of t at ≡ cond (stands_at 46 (drop p t)) (Ok (p + 1)) (Err (stop_at p))
  unfolding end_of
  end-of = ap (λ (q : ℕ). cond (stands_at 46 (drop q t)) (Ok (q + 1)) (Err (stop_at q))) (gap-of t at p g)

  pub full-stop : stands_at 46 (drop p t) ≡ true → Closes t at (Ok (p + 1))
  full-stop y =
      let h = stands-within t p 46 y in
      record {
        is = sym (end-of ∙ rw y);
        arrives = (omega (arith, g.from), omega arith);
        same =
            λ w.
            run-gap (rests-closed w) g.gap
            ∙ ap (λ (xs : List ℕ). run xs closed w p) (stands_here t p 46 y)
            ∙ at-stop (drop (p + 1) t) p w
            ∙ ap (λ (n : ℕ). fact_before (fact w.start w.end (suc w.done) w.out) (run (drop (p + 1) t) stop nothing n)) (sym (add-one p));
      }

  closed-stops : (xs : List ℕ) (w : Work) → Solid xs → stands_at 46 xs ≡ false → run xs closed w p ≡ stops p
  unfolding run step finish stands_at
  closed-stops [] w s y = refl
  closed-stops (b ∷ xs) w s y = rw (y, not-layout closed w b s.0 s.1)

  pub no_stop : stands_at 46 (drop p t) ≡ false → Closes t at (Err (stop_at p))
  no_stop y =
      record {
        is = sym (end-of ∙ rw y);
        arrives = λ l. g.within l;
        same = λ w. run-gap (rests-closed w) g.gap ∙ closed-stops (drop p t) w g.solid y;
      }
