-- What stands next inside a fact, law by law: before a term and after one.
use Prim.Native.Nat.{ℕ, ◌+◌, ◌-◌, ◌≤◌, ◌<◌}
use mathlib.Core.Path.{◌≡◌, refl, sym, ap, subst, ◌∙◌}
use mathlib.Core.Bool.{Bool, true, false}
use mathlib.Core.List.{List, [], ◌∷◌}
use native.Mathlib.Omega.{arith}
use native.Mathlib.Numerals.{add-one}
use lib.Dec.{eqb}
use lib.ListN.{length, get_or, drop, drop_of_length-le}
use borrow.Author.Tests.{ne_eqb}
use Rattle.grammar.specs.Grammar.{is_lower, is_upper, is_digit, name, number}
use Rattle.grammar.specs.Reader.{arg, word, minus, digits, after, Work, dead, go, is_blank, put, push, past, limit, bits_after, step, finish, run, Solid, Ends}
use Rattle.grammar.proofs.Complete as complete
use Rattle.grammar.proofs.Complete.{run-gap, run-word, at-digit, at-minus, at_open, variable-ends}
use Rattle.grammar.proofs.Sound.{not-layout}
use Rattle.lex.specs.Turns.{gap_of, number_from, negative_from, stands_at, term_from, mark_from, turn_of, term_mode, on_mark, on_turn, Leads, Turns}
use Rattle.lex.specs.code.Ends.{GapTo, WordTo, Counts, AfterMinus}
use Rattle.lex.specs.declared.turn.Turn.{Turn}
use Rattle.lex.specs.declared.turn.Turn.TheVariants as turn
use Rattle.lex.proofs.ByteLaws.{here, gap-of, gap_here, word-of, solid-here, stands-within, stands_here, on-byte, on_go, on-dead, at-end, bits_small}

-- the first byte of a term
step-lower : (w : Work) (p b : ℕ) → is_lower b ≡ true → step arg w p b ≡ go (word true p) w
unfolding step
step-lower w p b e = rw e

step-upper : (w : Work) (p b : ℕ) → is_lower b ≡ false → is_upper b ≡ true → step arg w p b ≡ go (word false p) w
unfolding step
step-upper w p b e f = rw (e, f)

step-none : (w : Work) (p b : ℕ) → is_lower b ≡ false → is_upper b ≡ false → is_digit b ≡ false → eqb b 45 ≡ false
    → is_blank b ≡ false → eqb b 37 ≡ false → step arg w p b ≡ dead
unfolding step
step-none w p b e f g m h k = rw (e, f, g, m, not-layout arg w b h k)

step-digit : (w : Work) (p b : ℕ) → is_digit b ≡ true → step minus w p b ≡ go (digits true (b - 48)) w
unfolding step
step-digit w p b e = rw e

step-no-digit : (w : Work) (p b : ℕ) → is_digit b ≡ false → step minus w p b ≡ dead
unfolding step
step-no-digit w p b e = rw e

-- a name without a bracket
name-alone : (xs : List ℕ) (s : ℕ) (w : Work) (p : ℕ) → Ends xs → stands_at 40 xs ≡ false → run xs (word true s) w p ≡ run xs after (put (name s p 0) w) p
unfolding run step finish stands_at
name-alone [] s w p e o = refl
name-alone (b ∷ xs) s w p e o = rw (e, o)

-- and with one
name-opens : (t : List ℕ) (e s : ℕ) (w : Work) → stands_at 40 (drop e t) ≡ true
    → run (drop e t) (word true s) w e ≡ run (drop (e + 1) t) arg (push s e w) (e + 1)
name-opens t e s w o =
    ap (λ (xs : List ℕ). run xs (word true s) w e) (stands_here t e 40 o)
    ∙ at_open (drop (e + 1) t) e s w
    ∙ ap (λ (n : ℕ). run (drop (e + 1) t) arg (push s e w) n) (sym (add-one e))

-- the turn at a place at which no layout stands
module _ (t : List ℕ) (i : ℕ) (s : Solid (drop i t)) where
  term_is : turn_of t i false ≡ term_from t i (drop i t)
  unfolding turn_of
  term_is = ap (λ (p : ℕ). term_from t p (drop p t)) (gap_here t i s)

  mark-is : turn_of t i true ≡ mark_from i (drop i t)
  unfolding turn_of
  mark-is = ap (λ (p : ℕ). mark_from p (drop p t)) (gap_here t i s)

  -- the text ends
  pub term-ends : length t ≤ i → Turns t i false (turn.Stop i)
  unfolding finish term_from
  term-ends h = record { is = sym (term_is ∙ ap (term_from t i) (drop_of_length-le t h)); leads = λ l. l; same = λ w. at-end t i arg w h }

  pub mark-ends : length t ≤ i → Turns t i true (turn.Stop i)
  unfolding finish mark_from
  mark-ends h = record { is = sym (mark-is ∙ ap (mark_from i) (drop_of_length-le t h)); leads = λ l. l; same = λ w. at-end t i after w h }

module _ (t : List ℕ) (i : ℕ) (s : Solid (drop i t)) (h : i < length t) where
  term-here : turn_of t i false ≡ term_from t i (get_or t i 0 ∷ drop (i + 1) t)
  term-here = term_is t i s ∙ ap (term_from t i) (here t i h)

  mark-here : turn_of t i true ≡ mark_from i (get_or t i 0 ∷ drop (i + 1) t)
  mark-here = mark-is t i s ∙ ap (mark_from i) (here t i h)

  -- before a term
  pub name-turn : (e : ℕ) → is_lower (get_or t i 0) ≡ true → WordTo t (i + 1) e → stands_at 40 (drop e t) ≡ false → Turns t i false (turn.Name i e)
  unfolding term_from
  name-turn e l k o =
      record {
        is = sym (term-here ∙ rw (l, word-of t (i + 1) e k, o));
        leads = (omega arith, omega (arith, k.from), k.within (omega arith));
        same =
            λ w.
            on_go t i h arg (word true i) w w (step-lower w i (get_or t i 0) l)
            ∙ run-word true i w k.word
            ∙ name-alone (drop e t) i w e k.ends o;
      }

  pub open_turn : (e : ℕ) → is_lower (get_or t i 0) ≡ true → WordTo t (i + 1) e → stands_at 40 (drop e t) ≡ true → Turns t i false (turn.Open i e)
  unfolding term_from
  open_turn e l k o =
      record {
        is = sym (term-here ∙ rw (l, word-of t (i + 1) e k, o));
        leads = (omega arith, omega (arith, k.from), stands-within t e 40 o);
        same =
            λ w.
            on_go t i h arg (word true i) w w (step-lower w i (get_or t i 0) l)
            ∙ run-word true i w k.word
            ∙ name-opens t e i w o;
      }

  pub variable-turn : (e : ℕ) → is_lower (get_or t i 0) ≡ false → is_upper (get_or t i 0) ≡ true → WordTo t (i + 1) e → Turns t i false (turn.Variable i e)
  unfolding term_from
  variable-turn e l u k =
      record {
        is = sym (term-here ∙ rw (l, u, word-of t (i + 1) e k));
        leads = (omega arith, omega (arith, k.from), k.within (omega arith));
        same =
            λ w.
            on_go t i h arg (word false i) w w (step-upper w i (get_or t i 0) l u)
            ∙ run-word false i w k.word
            ∙ variable-ends i w e (drop e t) k.ends;
      }

  pub no-term : is_lower (get_or t i 0) ≡ false → is_upper (get_or t i 0) ≡ false → is_digit (get_or t i 0) ≡ false → (get_or t i 0 ≡ 45 → ⊥)
      → Turns t i false (turn.Stop i)
  unfolding term_from
  no-term e f g n =
      let o = solid-here t i h s in
      let m = ne_eqb (get_or t i 0) 45 n in
      record { is = sym (term-here ∙ rw (e, f, g, m)); leads = λ l. l; same = λ w. on-dead t i h arg w (step-none w i (get_or t i 0) e f g m o.0 o.1) }

  -- after one
  pub comma-turn : get_or t i 0 ≡ 44 → Turns t i true (turn.Comma i)
  unfolding step past mark_from
  comma-turn e =
      record {
        is = sym (mark-here ∙ rw e);
        leads = (omega arith, h);
        same = λ w. on-byte t i h after w
            ∙ ap (λ (b : ℕ). on_mark t i (step after w i b)) e;
      }

  pub close-turn : get_or t i 0 ≡ 41 → Turns t i true (turn.Close i)
  unfolding step past mark_from
  close-turn e =
      record {
        is = sym (mark-here ∙ rw e);
        leads = (omega arith, h);
        same = λ w. on-byte t i h after w
            ∙ ap (λ (b : ℕ). on_mark t i (step after w i b)) e;
      }

  pub no-mark : (get_or t i 0 ≡ 44 → ⊥) → (get_or t i 0 ≡ 41 → ⊥) → Turns t i true (turn.Stop i)
  unfolding step past mark_from
  no-mark e f =
      let o = solid-here t i h s in
      record {
        is = sym (mark-here ∙ rw (ne_eqb (get_or t i 0) 44 e, ne_eqb (get_or t i 0) 41 f));
        leads = λ l. l;
        same = λ w. on-dead t i h after w (rw (ne_eqb (get_or t i 0) 44 e, ne_eqb (get_or t i 0) 41 f, not-layout after w (get_or t i 0) o.0 o.1));
      }

  -- a number, its first digit before it
  pub number-turn : {v : ℕ} (r : Turn) → is_lower (get_or t i 0) ≡ false → is_upper (get_or t i 0) ≡ false → is_digit (get_or t i 0) ≡ true
      → v ≡ get_or t i 0 - 48 → Counts t (i + 1) false v r → Turns t i false r
  unfolding term_from
  number-turn {v} r l u d q c =
      record {
        is = c.is ∙ ap (λ (x : ℕ). number_from false x (drop (i + 1) t) (i + 1)) q ∙ sym (term-here ∙ rw (l, u, d));
        leads = c.leads i (omega arith);
        same =
            λ w.
            ap (λ (xs : List ℕ). run xs arg w i) (here t i h)
            ∙ at-digit (get_or t i 0) (drop (i + 1) t) w i d
            ∙ ap (λ (n : ℕ). run (drop (i + 1) t) (digits false (get_or t i 0 - 48)) w n) (sym (add-one i))
            ∙ ap (λ (x : ℕ). run (drop (i + 1) t) (digits false x) w (i + 1)) (sym q)
            ∙ c.same w;
      }

  -- or a minus sign
  pub minus-turn : (r : Turn) → get_or t i 0 ≡ 45 → AfterMinus t (i + 1) r → Turns t i false r
  unfolding term_from is_lower is_upper is_digit
  minus-turn r e c =
      record {
        is = c.is ∙ sym (term-here ∙ ap (λ (b : ℕ). term_from t i (b ∷ drop (i + 1) t)) e);
        leads = c.leads i (omega arith);
        same =
            λ w.
            ap (λ (xs : List ℕ). run xs arg w i) (here t i h ∙ ap (λ (b : ℕ). b ∷ drop (i + 1) t) e)
            ∙ at-minus (drop (i + 1) t) w i
            ∙ ap (λ (n : ℕ). run (drop (i + 1) t) minus w n) (sym (add-one i))
            ∙ c.same w;
      }

-- a number's digits end: its 16 bits, the reader having come here from its first digit on
pub number-done : (t : List ℕ) (at i : ℕ) (sign : Bool) (first v : ℕ) {bits : ℕ} → bits ≡ bits_after sign v → at ≤ i → i ≤ length t → v ≤ limit sign
    → number_from sign v (drop i t) i ≡ turn.Number (bits_after sign v) i
    → ((w : Work) → run (drop i t) (digits sign v) w i ≡ run (drop i t) after (put (number (bits_after sign v)) w) i)
    → ((w : Work) → run (drop i t) (digits sign v) w i ≡ run (drop at t) (digits sign first) w at)
    → number_from sign v (drop i t) i ≡ number_from sign first (drop at t) at → Counts t at sign first (turn.Number bits i)
number-done t at i sign first v q l m h e ends from same =
    subst (λ (b : ℕ). Counts t at sign first (turn.Number b i)) (sym q)
    (record { is = sym e ∙ same; leads = λ p k. (omega arith, m, bits_small sign v h); same = λ w. sym (from w) ∙ ends w })

-- after a minus sign
pub minus-ends : (t : List ℕ) (i : ℕ) → i ≤ length t → length t ≤ i → AfterMinus t i (turn.Stop i)
unfolding finish negative_from
minus-ends t i l h =
    record {
      is = sym (ap (λ (xs : List ℕ). negative_from xs i) (drop_of_length-le t h));
      leads = λ at k j. l;
      same = λ w. at-end t i minus w h;
    }

module _ (t : List ℕ) (i : ℕ) (h : i < length t) where
  negative-here : negative_from (drop i t) i ≡ negative_from (get_or t i 0 ∷ drop (i + 1) t) i
  negative-here = ap (λ (xs : List ℕ). negative_from xs i) (here t i h)

  pub minus-digit : {v : ℕ} (r : Turn) → is_digit (get_or t i 0) ≡ true → v ≡ get_or t i 0 - 48 → Counts t (i + 1) true v r → AfterMinus t i r
  unfolding negative_from
  minus-digit {v} r d q c =
      record {
        is = c.is ∙ ap (λ (x : ℕ). number_from true x (drop (i + 1) t) (i + 1)) q ∙ sym (negative-here ∙ rw d);
        leads = λ at l. c.leads at (omega arith);
        same =
            λ w.
            on_go t i h minus (digits true (get_or t i 0 - 48)) w w (step-digit w i (get_or t i 0) d)
            ∙ ap (λ (x : ℕ). run (drop (i + 1) t) (digits true x) w (i + 1)) (sym q)
            ∙ c.same w;
      }

  pub minus-none : is_digit (get_or t i 0) ≡ false → AfterMinus t i (turn.Stop i)
  unfolding negative_from
  minus-none d =
      record {
        is = sym (negative-here ∙ rw d);
        leads = λ at l k. omega arith;
        same = λ w. on-dead t i h minus w (step-no-digit w i (get_or t i 0) d);
      }

-- layout first
pub turns-on : (t : List ℕ) (at p : ℕ) (past' : Bool) (r : Turn) → GapTo t at p → Turns t p past' r → Turns t at past' r
unfolding turn_of
turns-on t at p past' r s x = record { is = x.is ∙ moved past'; leads = from r x.leads; same = same past' x.same }
  where
    place : gap_of t p ≡ gap_of t at
    place = gap_here t p s.solid ∙ sym (gap-of t at p s)

    moved : (b : Bool) → turn_of t p b ≡ turn_of t at b
    moved true = ap (λ (q : ℕ). mark_from q (drop q t)) place
    moved false = ap (λ (q : ℕ). term_from t q (drop q t)) place

    from : (r : Turn) → Leads t p r → Leads t at r
    from (turn.Name a e) l = (omega (arith, s.from), l.1, l.2)
    from (turn.Open a e) l = (omega (arith, s.from), l.1, l.2)
    from (turn.Variable a e) l = (omega (arith, s.from), l.1, l.2)
    from (turn.Number v e) l = (omega (arith, s.from), l.1, l.2)
    from (turn.Comma q) l = (omega (arith, s.from), l.1)
    from (turn.Close q) l = (omega (arith, s.from), l.1)
    from (turn.Stop q) l = λ h. l (s.within h)

    same : (b : Bool) → ((w : Work) → run (drop p t) (term_mode b) w p ≡ on_turn t w r) → (w : Work) → run (drop at t) (term_mode b) w at ≡ on_turn t w r
    same true f w = run-gap (complete.rests-after w) s.gap ∙ f w
    same false f w = run-gap (complete.rests-arg w) s.gap ∙ f w
