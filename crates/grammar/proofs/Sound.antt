-- What is read is a text of the grammar.
use Prim.Native.Nat.{ℕ, zero, suc, ◌+◌, ◌-◌, ◌*◌, ◌≤◌, ◌<◌}
use mathlib.Core.Path.{◌≡◌, refl, sym, ap, subst, ◌∙◌}
use mathlib.Core.Bool.{Bool, true, false, ◌&&◌, ◌||◌}
use mathlib.Core.List.{List, [], ◌∷◌, ◌++◌, append_assoc}
use mathlib.Core.Logic.{◌⊎◌, inl, inr, ⊎_elim}
use native.Mathlib.Omega.{arith}
use lib.Dec.{eqb, leb, ltb}
use lib.ListN.{length, set}
use borrow.Author.Tests.{leb-true, ltb-true, eqb-true}
use Rattle.grammar.specs.Grammar as G
use Rattle.grammar.specs.Grammar.{is_lower, is_upper, is_digit, is_word, Blank, space, feed, return, Line, Gap, Word, Digits, Symbol, Term, Args}
use Rattle.grammar.specs.Grammar.{Fact, fact, OneFact, Facts, Text}
use Rattle.grammar.specs.Reader.{Mode, first, head, arg, word, minus, digits, after, closed, stop, between, Frame, frame, Work, work}
use Rattle.grammar.specs.Reader.{nothing, dead, is_blank, layout, push, put, on_comma, past, limit, bits_after, step, Out, stops, reads}
use Rattle.grammar.specs.Reader.{fact_before, finish, run, text_of, Solid, Ends}
use Rattle.grammar.proofs.Complete.{run-gap, rests-first, rests-arg, rests-after, rests-closed, run-word, run-head, name-ends, variable-ends}
use Rattle.grammar.proofs.Complete.{at_open, at-head-open, at-comma, at-close, at-fact-comma, at-fact-close, at-stop, puts, named, set-over}
use Rattle.grammar.proofs.Complete.{run-stop}

-- a stop is no reading
pub clash : {A : Type 0} {k : ℕ} {fs : List Fact} → stops k ≡ reads fs → A
clash e = absurd (let z : ◌≡◌ {A = ℕ} 0 1 = cc in omega arith)

-- layout can always be passed over, up to a byte that is none
pub record Skipped (p : ℕ) (xs : List ℕ) : Type 0 where
  pub at : ℕ
  pub rest : List ℕ
  pub gap : Gap p xs at rest
  pub solid : Solid rest
  pub within : length rest ≤ length xs

record Lined (p : ℕ) (xs : List ℕ) : Type 0 where
  at : ℕ
  rest : List ℕ
  line : Line p xs at rest
  next : Skipped at rest
  within : length rest ≤ length xs

or_cases : (a b : Bool) → (a || b) ≡ true → (a ≡ true) ⊎ (b ≡ true)
or_cases true b e = inl refl
or_cases false b e = inr e

pub is-blank : (b : ℕ) → is_blank b ≡ true → Blank b
unfolding is_blank
is-blank b e =
    ⊎_elim (λ l. subst Blank (sym (eqb-true b 32 l)) space)
    (λ h. ⊎_elim (λ l. subst Blank (sym (eqb-true b 10 l)) feed) (λ l. subst Blank (sym (eqb-true b 13 l)) return) (or_cases (eqb b 10) (eqb b 13) h))
    (or_cases (eqb b 32) (eqb b 10 || eqb b 13) e)

skip-byte : (b : ℕ) (xs : List ℕ) (p : ℕ) (t u : Bool) → is_blank b ≡ t → eqb b 37 ≡ u → Skipped (suc p) xs → Lined (suc p) xs → Skipped p (b ∷ xs)
skip-byte b xs p true u e h s l =
    record { at = s.at; rest = s.rest; gap = G.blank (is-blank b e) s.gap; solid = s.solid; within = omega (arith, s.within) }
skip-byte b xs p false true e h s l =
    let n = l.next in
    let g : Gap p (37 ∷ xs) n.at n.rest = G.remark l.line n.gap in
    record {
      at = n.at;
      rest = n.rest;
      gap = subst (λ (c : ℕ). Gap p (c ∷ xs) n.at n.rest) (sym (eqb-true b 37 h)) g;
      solid =
          n.solid;
      within = omega (arith, n.within, l.within);
    }
skip-byte b xs p false false e h s l = record { at = p; rest = b ∷ xs; gap = G.none; solid = (e, h); within = omega arith }

line-byte : (b : ℕ) (xs : List ℕ) (p : ℕ) (t : Bool) → eqb b 10 ≡ t → Skipped (suc p) xs → Lined (suc p) xs → Lined p (b ∷ xs)
line-byte b xs p true e s l =
    let g : Line p (10 ∷ xs) (suc p) xs = G.feed in
    record { at = suc p; rest = xs; line = subst (λ (c : ℕ). Line p (c ∷ xs) (suc p) xs) (sym (eqb-true b 10 e)) g; next = s; within = omega arith }
line-byte b xs p false e s l = record { at = l.at; rest = l.rest; line = G.byte e l.line; next = l.next; within = omega (arith, l.within) }

mutual
  pub skip : (xs : List ℕ) (p : ℕ) → Skipped p xs
  skip [] p = record { at = p; rest = []; gap = G.none; solid = tt; within = omega arith }
  skip (b ∷ xs) p = skip-byte b xs p (is_blank b) (eqb b 37) refl refl (skip xs (suc p)) (lined xs (suc p))

  lined : (xs : List ℕ) (p : ℕ) → Lined p xs
  lined [] p =
      record {
        at = p;
        rest = [];
        line = G.ended;
        next = record { at = p; rest = []; gap = G.none; solid = tt; within = omega arith };
        within =
            omega arith;
      }
  lined (b ∷ xs) p = line-byte b xs p (eqb b 10) refl (skip xs (suc p)) (lined xs (suc p))

-- and a word
pub record Worded (p : ℕ) (xs : List ℕ) : Type 0 where
  pub at : ℕ
  pub rest : List ℕ
  pub word : Word p xs at rest
  pub ends : Ends rest
  pub within : length rest ≤ length xs

word_byte : (b : ℕ) (xs : List ℕ) (p : ℕ) (t : Bool) → is_word b ≡ t → Worded (suc p) xs → Worded p (b ∷ xs)
word_byte b xs p true e s = record { at = s.at; rest = s.rest; word = G.more e s.word; ends = s.ends; within = omega (arith, s.within) }
word_byte b xs p false e s = record { at = p; rest = b ∷ xs; word = G.none; ends = e; within = omega arith }

pub worded : (xs : List ℕ) (p : ℕ) → Worded p xs
worded [] p = record { at = p; rest = []; word = G.none; ends = tt; within = omega arith }
worded (b ∷ xs) p = word_byte b xs p (is_word b) refl (worded xs (suc p))

-- a byte with which no layout begins is none
pub not-layout : (m : Mode) (w : Work) (b : ℕ) → is_blank b ≡ false → eqb b 37 ≡ false → layout m w b ≡ dead
unfolding layout
not-layout m w b e h = rw (e, h)

-- a number
record DigitsIs (w : Work) (sign : Bool) (v p : ℕ) (xs : List ℕ) (F : List Fact) : Type 0 where
  at : ℕ
  rest : List ℕ
  value : ℕ
  read : Digits v p xs at rest value
  small : value ≤ limit sign
  goes : run rest after (put (G.number (bits_after sign value)) w) at ≡ reads F
  within : length rest ≤ length xs

digits-byte : (w : Work) (sign : Bool) (v p b : ℕ) (xs : List ℕ) (F : List Fact) (t : Bool) → is_digit b ≡ t → (u : Bool)
    → leb (10 * v + (b - 48)) (limit sign) ≡ u → v ≤ limit sign
    → (10 * v + (b - 48) ≤ limit sign → run xs (digits sign (10 * v + (b - 48))) w (suc p) ≡ reads F → DigitsIs w sign (10 * v + (b - 48)) (suc p) xs F)
    → run (b ∷ xs) (digits sign v) w p ≡ reads F → DigitsIs w sign v p (b ∷ xs) F
unfolding run step
digits-byte w sign v p b xs F true e true h l k r =
    let d = k (leb-true (10 * v + (b - 48)) (limit sign) h) (rw (e, h) at r) in
    record { at = d.at; rest = d.rest; value = d.value; read = G.more e d.read; small = d.small; goes = d.goes; within = omega (arith, d.within) }
digits-byte w sign v p b xs F true e false h l k r = clash (rw (e, h) at r)
digits-byte w sign v p b xs F false e u h l k r = record { at = p; rest = b ∷ xs; value = v; read = G.none; small = l; goes = rw e at r; within = omega arith }

digits_of : (w : Work) (sign : Bool) (v p : ℕ) (xs : List ℕ) (F : List Fact) → v ≤ limit sign → run xs (digits sign v) w p ≡ reads F → DigitsIs w sign v p xs F
unfolding run finish
digits_of w sign v p [] F l r = clash r
digits_of w sign v p (b ∷ xs) F l r =
    digits-byte w sign v p b xs F (is_digit b) refl (leb (10 * v + (b - 48)) (limit sign)) refl l
    (λ l' r'. digits_of w sign (10 * v + (b - 48)) (suc p) xs F l' r') r

-- after a term: layout, and then a comma or a bracket
record Then (b : ℕ) (w : Work) (p : ℕ) (xs : List ℕ) (F : List Fact) : Type 0 where
  at : ℕ
  rest : List ℕ
  gap : Gap p xs at (b ∷ rest)
  goes : run (b ∷ rest) after w at ≡ reads F
  within : length rest < length xs

after-byte : (w : Work) (p q b : ℕ) (xs ys : List ℕ) (F : List Fact) (t u : Bool) → eqb b 44 ≡ t → eqb b 41 ≡ u → Gap p xs q (b ∷ ys)
    → length (b ∷ ys) ≤ length xs
    → is_blank b ≡ false → eqb b 37 ≡ false → run (b ∷ ys) after w q ≡ reads F → Then 44 w p xs F ⊎ Then 41 w p xs F
unfolding run step past
after-byte w p q b xs ys F true u e h g l x y r =
    let k = eqb-true b 44 e in
    inl (record {
      at = q;
      rest = ys;
      gap = subst (λ (c : ℕ). Gap p xs q (c ∷ ys)) k g;
      goes = subst (λ (c : ℕ). run (c ∷ ys) after w q ≡ reads F) k r;
      within = omega arith;
    })
after-byte w p q b xs ys F false true e h g l x y r =
    let k = eqb-true b 41 h in
    inr (record {
      at = q;
      rest = ys;
      gap = subst (λ (c : ℕ). Gap p xs q (c ∷ ys)) k g;
      goes = subst (λ (c : ℕ). run (c ∷ ys) after w q ≡ reads F) k r;
      within = omega arith;
    })
after-byte w p q b xs ys F false false e h g l x y r = clash (rw (e, h, not-layout after w b x y) at r)

after-of : (w : Work) (p : ℕ) (xs : List ℕ) (F : List Fact) → run xs after w p ≡ reads F → Then 44 w p xs F ⊎ Then 41 w p xs F
unfolding run finish
after-of w p xs F r = go' (skip xs p)
  where
    go' : Skipped p xs → Then 44 w p xs F ⊎ Then 41 w p xs F
    go' s = on s.rest s.gap s.solid s.within (sym (run-gap (rests-after w) s.gap) ∙ r)
      where
        on : (ys : List ℕ) → Gap p xs s.at ys → Solid ys → length ys ≤ length xs → run ys after w s.at ≡ reads F → Then 44 w p xs F ⊎ Then 41 w p xs F
        on [] g o l r' = clash r'
        on (b ∷ ys) g o l r' = after-byte w p s.at b xs ys F (eqb b 44) (eqb b 41) refl refl g l o.0 o.1 r'

-- a comma inside a name that has four arguments is none
comma-of : (xs : List ℕ) (p s n k : ℕ) (f : Frame) (fs : List Frame) (out : List Symbol) (F : List Fact) (t : Bool) → ltb f.done 3 ≡ t
    → run (44 ∷ xs) after (work s n k (f ∷ fs) out) p ≡ reads F → f.done < 3
unfolding run step past on_comma
comma-of xs p s n k f fs out F true e r = ltb-true f.done 3 e
comma-of xs p s n k f fs out F false e r = clash (rw e at r)

-- TERMS AND ARGUMENTS. The first number bounds the bytes left
pub record TermIs (w : Work) (p : ℕ) (xs : List ℕ) (F : List Fact) : Type 0 where
  pub at : ℕ
  pub rest : List ℕ
  pub symbols : List Symbol
  pub term : Term p xs at rest symbols
  pub goes : run rest after (puts symbols w) at ≡ reads F
  pub within : length rest < length xs

pub record ArgsIs (s n k i a m c : ℕ) (fs : List Frame) (out : List Symbol) (p : ℕ) (xs : List ℕ) (F : List Fact) : Type 0 where
  pub at : ℕ
  pub rest : List ℕ
  pub last : ℕ
  pub symbols : List Symbol
  pub args : Args c p xs at rest last symbols
  pub small : last ≤ 3
  pub goes : run rest after (work s n k fs (set (out ++ symbols) i (G.name a m (suc last)))) at ≡ reads F
  pub within : length rest < length xs

not_digit : (b : ℕ) → is_word b ≡ false → is_digit b ≡ false
unfolding is_word
not_digit b e = go' (is_lower b) (is_upper b) (is_digit b) e
  where
    go' : (x y z : Bool) → (x || (y || z)) ≡ false → z ≡ false
    go' true y z h = absurd (let q : ◌≡◌ {A = ℕ} 0 1 = cc in omega arith)
    go' false true z h = absurd (let q : ◌≡◌ {A = ℕ} 0 1 = cc in omega arith)
    go' false false z h = h

pub digit-small : (b : ℕ) → is_digit b ≡ true → b - 48 ≤ 9
unfolding is_digit
digit-small b e = go' (leb 48 b) (leb b 57) refl e
  where
    go' : (x y : Bool) → leb b 57 ≡ y → (x && y) ≡ true → b - 48 ≤ 9
    go' true y q h = omega (arith, leb-true b 57 (q ∙ h))
    go' false y q h = absurd (let z : ◌≡◌ {A = ℕ} 0 1 = cc in omega arith)

-- a name, once its first byte is read
name_of : (w : Work) (p b : ℕ) (xs : List ℕ) (F : List Fact) → is_lower b ≡ true
    → ((q : ℕ) (ys : List ℕ) → length ys < length xs → run ys arg (push p q w) (suc q) ≡ reads F
    → ArgsIs w.start w.end w.done (length w.out) p q 0 w.opened (w.out ++ (G.name p q 0 ∷ [])) (suc q) ys F)
    → run xs (word true p) w (suc p) ≡ reads F → TermIs w p (b ∷ xs) F
unfolding run finish put
name_of w p b xs F e inside r =
    on (worded xs (suc p)).rest (worded xs (suc p)).word (worded xs (suc p)).ends (worded xs (suc p)).within
    (sym (run-word true p w (worded xs (suc p)).word) ∙ r)
  where
    compound : (q c : ℕ) (ys : List ℕ) → c ≡ 40 → Word (suc p) xs q (c ∷ ys) → length (c ∷ ys) ≤ length xs → run (c ∷ ys) (word true p) w q ≡ reads F
        → TermIs w p (b ∷ xs) F
    compound q c ys k l h r' =
        let l' : Word (suc p) xs q (40 ∷ ys) = subst (λ (x : ℕ). Word (suc p) xs q (x ∷ ys)) k l in
        let r'' : run (40 ∷ ys) (word true p) w q ≡ reads F = subst (λ (x : ℕ). run (x ∷ ys) (word true p) w q ≡ reads F) k r' in
        let a = inside q ys (omega arith) (sym (at_open ys q p w) ∙ r'') in
        record {
          at = a.at;
          rest = a.rest;
          symbols = G.name p q (suc a.last) ∷ a.symbols;
          term = G.is-compound e l' a.args a.small;
          goes =
              ap (λ (o : List Symbol). run a.rest after (work w.start w.end w.done w.opened o) a.at)
              (sym (named w.out a.symbols (G.name p q 0) (G.name p q (suc a.last)))) ∙ a.goes;
          within = omega (arith, a.within);
        }

    plain : (q c : ℕ) (ys : List ℕ) → eqb c 40 ≡ false → Word (suc p) xs q (c ∷ ys) → is_word c ≡ false → length (c ∷ ys) ≤ length xs
        → run (c ∷ ys) (word true p) w q ≡ reads F → TermIs w p (b ∷ xs) F
    plain q c ys k l n h r' =
        record {
          at = q;
          rest = c ∷ ys;
          symbols = G.name p q 0 ∷ [];
          term = G.is_name e l;
          goes = sym (name-ends p w q (c ∷ ys) (n, k, not_digit c n)) ∙ r';
          within = omega arith;
        }

    by-bracket : (q c : ℕ) (ys : List ℕ) (t : Bool) → eqb c 40 ≡ t → Word (suc p) xs q (c ∷ ys) → is_word c ≡ false → length (c ∷ ys) ≤ length xs
        → run (c ∷ ys) (word true p) w q ≡ reads F → TermIs w p (b ∷ xs) F
    by-bracket q c ys true k l n h r' = compound q c ys (eqb-true c 40 k) l h r'
    by-bracket q c ys false k l n h r' = plain q c ys k l n h r'

    on : {q : ℕ} (ys : List ℕ) → Word (suc p) xs q ys → Ends ys → length ys ≤ length xs → run ys (word true p) w q ≡ reads F → TermIs w p (b ∷ xs) F
    on [] l n h r' = clash r'
    on {q} (c ∷ ys) l n h r' = by-bracket q c ys (eqb c 40) refl l n h r'

variable-of : (w : Work) (p b : ℕ) (xs : List ℕ) (F : List Fact) → is_upper b ≡ true → run xs (word false p) w (suc p) ≡ reads F → TermIs w p (b ∷ xs) F
unfolding put
variable-of w p b xs F e r =
    let o = worded xs (suc p) in
    record {
      at = o.at;
      rest = o.rest;
      symbols = G.variable p o.at ∷ [];
      term = G.is-variable e o.word;
      goes = sym (variable-ends p w o.at o.rest o.ends) ∙ sym (run-word false p w o.word) ∙ r;
      within = omega (arith, o.within);
    }

number_of : (w : Work) (p b : ℕ) (xs : List ℕ) (F : List Fact) → is_digit b ≡ true → run xs (digits false (b - 48)) w (suc p) ≡ reads F → TermIs w p (b ∷ xs) F
unfolding put
number_of w p b xs F e r =
    let d = digits_of w false (b - 48) (suc p) xs F (omega (arith, digit-small b e)) r in
    record {
      at = d.at;
      rest = d.rest;
      symbols = G.number d.value ∷ [];
      term = G.is_number e d.read d.small;
      goes = d.goes;
      within =
          omega (arith, d.within);
    }

negative_of : (w : Work) (p b : ℕ) (xs : List ℕ) (F : List Fact) → is_digit b ≡ true → run xs (digits true (b - 48)) w (suc (suc p)) ≡ reads F
    → TermIs w p (45 ∷ b ∷ xs) F
unfolding put
negative_of w p b xs F e r =
    let d = digits_of w true (b - 48) (suc (suc p)) xs F (omega (arith, digit-small b e)) r in
    record {
      at = d.at;
      rest = d.rest;
      symbols = G.number (G.negative d.value) ∷ [];
      term = G.is_negative e d.read d.small refl;
      goes = d.goes;
      within = omega (arith, d.within);
    }

minus-of : (w : Work) (p : ℕ) (xs : List ℕ) (F : List Fact) → run xs minus w (suc p) ≡ reads F → TermIs w p (45 ∷ xs) F
unfolding run step finish
minus-of w p [] F r = clash r
minus-of w p (b ∷ xs) F r = by (is_digit b) refl
  where
    by : (t : Bool) → is_digit b ≡ t → TermIs w p (45 ∷ b ∷ xs) F
    by true e = negative_of w p b xs F e (rw e at r)
    by false e = clash (rw e at r)

term-byte : (w : Work) (p b : ℕ) (xs : List ℕ) (F : List Fact) (x y z u : Bool) → is_lower b ≡ x → is_upper b ≡ y → is_digit b ≡ z → eqb b 45 ≡ u
    → is_blank b ≡ false → eqb b 37 ≡ false
    → ((q : ℕ) (ys : List ℕ) → length ys < length xs → run ys arg (push p q w) (suc q) ≡ reads F
    → ArgsIs w.start w.end w.done (length w.out) p q 0 w.opened (w.out ++ (G.name p q 0 ∷ [])) (suc q) ys F)
    → run (b ∷ xs) arg w p ≡ reads F → TermIs w p (b ∷ xs) F
unfolding run step
term-byte w p b xs F true y z u e f g m h k inside r = name_of w p b xs F e inside (rw e at r)
term-byte w p b xs F false true z u e f g m h k inside r = variable-of w p b xs F f (rw (e, f) at r)
term-byte w p b xs F false false true u e f g m h k inside r = number_of w p b xs F g (rw (e, f, g) at r)
term-byte w p b xs F false false false true e f g m h k inside r =
    subst (λ (c : ℕ). TermIs w p (c ∷ xs) F) (sym (eqb-true b 45 m)) (minus-of w p xs F (rw (e, f, g, m) at r))
term-byte w p b xs F false false false false e f g m h k inside r = clash (rw (e, f, g, m, not-layout arg w b h k) at r)

mutual
  unfolding run finish push

  term_of : (fuel : ℕ) (w : Work) (p : ℕ) (xs : List ℕ) (F : List Fact) → length xs + length xs ≤ fuel → Solid xs → run xs arg w p ≡ reads F → TermIs w p xs F
  term_of zero w p [] F l o r = clash r
  term_of zero w p (b ∷ xs) F l o r = absurd (omega arith)
  term_of (suc n) w p [] F l o r = clash r
  term_of (suc n) w p (b ∷ xs) F l o r =
      term-byte w p b xs F (is_lower b) (is_upper b) (is_digit b) (eqb b 45) refl refl refl refl o.0 o.1
      (λ q ys h r'. args_of n w.start w.end w.done (length w.out) p q 0 w.opened (w.out ++ (G.name p q 0 ∷ [])) (suc q) ys F
      (omega arith) (omega arith) r') r

  args_of : (fuel : ℕ) (s n k i a m c : ℕ) (fs : List Frame) (out : List Symbol) (p : ℕ) (xs : List ℕ) (F : List Fact)
      → suc (length xs + length xs) ≤ fuel → c ≤ 3
      → run xs arg (work s n k (frame i a m c ∷ fs) out) p ≡ reads F → ArgsIs s n k i a m c fs out p xs F
  args_of zero s n k i a m c fs out p xs F l h r = absurd (omega arith)
  args_of (suc u) s n k i a m c fs out p xs F l h r =
      let w = work s n k (frame i a m c ∷ fs) out in
      let g = skip xs p in
      let t = term_of u w g.at g.rest F (omega (arith, g.within)) g.solid (sym (run-gap (rests-arg w) g.gap) ∙ r) in
      ⊎_elim
      (λ (x : Then 44 (puts t.symbols w) t.at t.rest F).
      (let y = comma-of x.rest x.at s n k (frame i a m c) fs (out ++ t.symbols) F (ltb c 3) refl x.goes in
      let z = args_of u s n k i a m (suc c) fs (set (out ++ t.symbols) i (G.name a m (suc c))) (suc x.at) x.rest F
      (omega (arith, x.within, t.within, g.within)) (omega arith)
      (sym (at-comma x.rest x.at s n k (frame i a m c) fs (out ++ t.symbols) y) ∙ x.goes) in
      record {
        at = z.at;
        rest = z.rest;
        last = z.last;
        symbols = t.symbols ++ z.symbols;
        args = G.more g.gap t.term x.gap z.args refl;
        small = z.small;
        goes =
            ap (λ (o : List Symbol). run z.rest after (work s n k fs o) z.at)
            (ap (λ (o : List Symbol). set o i (G.name a m (suc z.last))) (sym (append_assoc out t.symbols z.symbols))
            ∙ sym (set-over (out ++ t.symbols) z.symbols i (G.name a m (suc c)) (G.name a m (suc z.last))))
            ∙ z.goes;
        within = omega (arith, z.within, x.within, t.within, g.within);
      }))
      (λ (x : Then 41 (puts t.symbols w) t.at t.rest F).
      record {
        at = suc x.at;
        rest = x.rest;
        last = c;
        symbols = t.symbols;
        args = G.last g.gap t.term x.gap;
        small = h;
        goes = sym (at-close x.rest x.at s n k (frame i a m c) fs (out ++ t.symbols)) ∙ x.goes;
        within = omega (arith, x.within, t.within, g.within);
      })
      (after-of (puts t.symbols w) t.at t.rest F t.goes)

-- the arguments of the fact itself
record WidthIs (s n c : ℕ) (out : List Symbol) (p : ℕ) (xs : List ℕ) (F : List Fact) : Type 0 where
  at : ℕ
  rest : List ℕ
  last : ℕ
  symbols : List Symbol
  args : Args c p xs at rest last symbols
  goes : run rest closed (work s n last [] (out ++ symbols)) at ≡ reads F
  within : length rest < length xs

width_of : (fuel : ℕ) (s n c : ℕ) (out : List Symbol) (p : ℕ) (xs : List ℕ) (F : List Fact) → length xs < fuel
    → run xs arg (work s n c [] out) p ≡ reads F → WidthIs s n c out p xs F
width_of zero s n c out p xs F l r = absurd (omega arith)
width_of (suc u) s n c out p xs F l r =
    let w = work s n c [] out in
    let g = skip xs p in
    let t = term_of (length g.rest + length g.rest) w g.at g.rest F (omega arith) g.solid (sym (run-gap (rests-arg w) g.gap) ∙ r) in
    ⊎_elim
    (λ (x : Then 44 (puts t.symbols w) t.at t.rest F).
    (let z = width_of u s n (suc c) (out ++ t.symbols) (suc x.at) x.rest F (omega (arith, x.within, t.within, g.within))
    (sym (at-fact-comma x.rest x.at s n c (out ++ t.symbols)) ∙ x.goes) in
    record {
      at = z.at;
      rest = z.rest;
      last = z.last;
      symbols = t.symbols ++ z.symbols;
      args = G.more g.gap t.term x.gap z.args refl;
      goes = ap (λ (o : List Symbol). run z.rest closed (work s n z.last [] o) z.at) (sym (append_assoc out t.symbols z.symbols)) ∙ z.goes;
      within = omega (arith, z.within, x.within, t.within, g.within);
    }))
    (λ (x : Then 41 (puts t.symbols w) t.at t.rest F).
    record {
      at = suc x.at;
      rest = x.rest;
      last = c;
      symbols = t.symbols;
      args = G.last g.gap t.term x.gap;
      goes = sym (at-fact-close x.rest x.at s n c (out ++ t.symbols)) ∙ x.goes;
      within = omega (arith, x.within, t.within, g.within);
    })
    (after-of (puts t.symbols w) t.at t.rest F t.goes)

-- after the fact's bracket: layout, and then the full stop
record Closed (w : Work) (p : ℕ) (xs : List ℕ) (F : List Fact) : Type 0 where
  at : ℕ
  rest : List ℕ
  gap : Gap p xs at (46 ∷ rest)
  goes : run (46 ∷ rest) closed w at ≡ reads F
  within : length rest < length xs

closed-byte : (w : Work) (p q b : ℕ) (xs ys : List ℕ) (F : List Fact) (t : Bool) → eqb b 46 ≡ t → Gap p xs q (b ∷ ys) → length (b ∷ ys) ≤ length xs
    → is_blank b ≡ false → eqb b 37 ≡ false → run (b ∷ ys) closed w q ≡ reads F → Closed w p xs F
unfolding run step
closed-byte w p q b xs ys F true e g l x y r =
    let k = eqb-true b 46 e in
    record {
      at = q;
      rest = ys;
      gap = subst (λ (c : ℕ). Gap p xs q (c ∷ ys)) k g;
      goes = subst (λ (c : ℕ). run (c ∷ ys) closed w q ≡ reads F) k r;
      within = omega arith;
    }
closed-byte w p q b xs ys F false e g l x y r = clash (rw (e, not-layout closed w b x y) at r)

closed_of : (w : Work) (p : ℕ) (xs : List ℕ) (F : List Fact) → run xs closed w p ≡ reads F → Closed w p xs F
unfolding run finish
closed_of w p xs F r = on (skip xs p).rest (skip xs p).gap (skip xs p).solid (skip xs p).within (sym (run-gap (rests-closed w) (skip xs p).gap) ∙ r)
  where
    on : {q : ℕ} (ys : List ℕ) → Gap p xs q ys → Solid ys → length ys ≤ length xs → run ys closed w q ≡ reads F → Closed w p xs F
    on [] g o l r' = clash r'
    on {q} (b ∷ ys) g o l r' = closed-byte w p q b xs ys F (eqb b 46) refl g l o.0 o.1 r'

-- a fact
record FactIs (p : ℕ) (xs : List ℕ) (F : List Fact) : Type 0 where
  at : ℕ
  rest : List ℕ
  fact : Fact
  one : OneFact p xs at rest fact
  others : List Fact
  all : F ≡ fact ∷ others
  goes : run rest stop nothing at ≡ reads others
  within : length rest < length xs

pub before-reads : (f : Fact) (o : Out) (F : List Fact) → fact_before f o ≡ reads F → (H : List Fact) × (o ≡ reads H) × (F ≡ f ∷ H)
before-reads f (stops k) F e = clash e
before-reads f (reads H) F e = (H, refl, cc)

head-of : (w : Work) (p b : ℕ) (xs : List ℕ) (F : List Fact) → is_lower b ≡ true → run xs (head p) w (suc p) ≡ reads F → FactIs p (b ∷ xs) F
unfolding run finish step
head-of w p b xs F e r =
    on (worded xs (suc p)).rest (worded xs (suc p)).word (worded xs (suc p)).ends (worded xs (suc p)).within
    (sym (run-head p w (worded xs (suc p)).word) ∙ r)
  where
    opened : (q c : ℕ) (ys : List ℕ) → c ≡ 40 → Word (suc p) xs q (c ∷ ys) → length (c ∷ ys) ≤ length xs → run (c ∷ ys) (head p) w q ≡ reads F
        → FactIs p (b ∷ xs) F
    opened q c ys k l h r' =
        let l' : Word (suc p) xs q (40 ∷ ys) = subst (λ (x : ℕ). Word (suc p) xs q (x ∷ ys)) k l in
        let r'' : run (40 ∷ ys) (head p) w q ≡ reads F = subst (λ (x : ℕ). run (x ∷ ys) (head p) w q ≡ reads F) k r' in
        let a = width_of (suc (length ys)) p q 0 [] (suc q) ys F (omega arith) (sym (at-head-open ys q p w) ∙ r'') in
        let z = closed_of (work p q a.last [] a.symbols) a.at a.rest F a.goes in
        let f = fact p q (suc a.last) a.symbols in
        let y = before-reads f (run z.rest stop nothing (suc z.at)) F (sym (at-stop z.rest z.at (work p q a.last [] a.symbols)) ∙ z.goes) in
        record {
          at = suc z.at;
          rest = z.rest;
          fact = f;
          one = G.one e l' a.args z.gap;
          others = y.0;
          all = y.2;
          goes = y.1;
          within = omega (arith, z.within, a.within);
        }

    shut : (q c : ℕ) (ys : List ℕ) → eqb c 40 ≡ false → is_word c ≡ false → run (c ∷ ys) (head p) w q ≡ reads F → FactIs p (b ∷ xs) F
    shut q c ys k n r' = clash (rw (n, k) at r')

    by-bracket : (q c : ℕ) (ys : List ℕ) (t : Bool) → eqb c 40 ≡ t → Word (suc p) xs q (c ∷ ys) → is_word c ≡ false → length (c ∷ ys) ≤ length xs
        → run (c ∷ ys) (head p) w q ≡ reads F → FactIs p (b ∷ xs) F
    by-bracket q c ys true k l n h r' = opened q c ys (eqb-true c 40 k) l h r'
    by-bracket q c ys false k l n h r' = shut q c ys k n r'

    on : {q : ℕ} (ys : List ℕ) → Word (suc p) xs q ys → Ends ys → length ys ≤ length xs → run ys (head p) w q ≡ reads F → FactIs p (b ∷ xs) F
    on [] l n h r' = clash r'
    on {q} (c ∷ ys) l n h r' = by-bracket q c ys (eqb c 40) refl l n h r'

first_byte : (w : Work) (p b : ℕ) (xs : List ℕ) (F : List Fact) (t : Bool) → is_lower b ≡ t → is_blank b ≡ false → eqb b 37 ≡ false
    → run (b ∷ xs) first w p ≡ reads F → FactIs p (b ∷ xs) F
unfolding run step
first_byte w p b xs F true e x y r = head-of w p b xs F e (rw e at r)
first_byte w p b xs F false e x y r = clash (rw (e, not-layout first w b x y) at r)

next-byte : (w : Work) (p b : ℕ) (xs : List ℕ) (F : List Fact) (t : Bool) → is_lower b ≡ t → is_blank b ≡ false → eqb b 37 ≡ false
    → run (b ∷ xs) between w p ≡ reads F → FactIs p (b ∷ xs) F
unfolding run step
next-byte w p b xs F true e x y r = head-of w p b xs F e (rw e at r)
next-byte w p b xs F false e x y r = clash (rw (e, not-layout between w b x y) at r)

-- what follows a full stop: nothing more, layout, or what no text goes on with
line-grows : {p q : ℕ} {xs ys : List ℕ} → Line p xs q ys → p ≤ q
line-grows G.ended = omega arith
line-grows G.feed = omega arith
line-grows (G.byte e l) = omega (arith, line-grows l)

gap-grows : {p q : ℕ} {xs ys : List ℕ} → Gap p xs q ys → p ≤ q
gap-grows G.none = omega arith
gap-grows (G.blank b g) = omega (arith, gap-grows g)
gap-grows (G.remark l g) = omega (arith, gap-grows g, line-grows l)

data Stopped (p : ℕ) (xs : List ℕ) : Type 0 where
  ended : {q : ℕ} → Gap p xs q [] → Stopped p xs
  on : {q b : ℕ} {ys : List ℕ} → Gap p xs q (b ∷ ys) → p < q → Solid (b ∷ ys) → length (b ∷ ys) ≤ length xs → Stopped p xs
  stuck : Solid xs → 0 < length xs → Stopped p xs

stopped-at : {p q : ℕ} {xs : List ℕ} (ys : List ℕ) → Gap p xs q ys → p < q → Solid ys → length ys ≤ length xs → Stopped p xs
stopped-at [] g l o h = ended g
stopped-at (b ∷ ys) g l o h = on g l o h

stopped-byte : (b : ℕ) (xs : List ℕ) (p : ℕ) (t u : Bool) → is_blank b ≡ t → eqb b 37 ≡ u → Stopped p (b ∷ xs)
stopped-byte b xs p true u e h =
    let s = skip xs (suc p) in
    stopped-at s.rest (G.blank (is-blank b e) s.gap) (omega (arith, gap-grows s.gap)) s.solid (omega (arith, s.within))
stopped-byte b xs p false true e h =
    let l = lined xs (suc p) in
    let n = l.next in
    let g : Gap p (37 ∷ xs) n.at n.rest = G.remark l.line n.gap in
    stopped-at n.rest (subst (λ (c : ℕ). Gap p (c ∷ xs) n.at n.rest) (sym (eqb-true b 37 h)) g)
    (omega (arith, gap-grows n.gap, line-grows l.line)) n.solid (omega (arith, n.within, l.within))
stopped-byte b xs p false false e h = stuck (e, h) (omega arith)

stopped : (p : ℕ) (xs : List ℕ) → Stopped p xs
stopped p [] = ended G.none
stopped p (b ∷ xs) = stopped-byte b xs p (is_blank b) (eqb b 37) refl refl

stop-stuck : (xs : List ℕ) (p : ℕ) (w : Work) (F : List Fact) → Solid xs → 0 < length xs → run xs stop w p ≡ reads F → ⊥
unfolding run step
stop-stuck [] p w F o l r = absurd (omega arith)
stop-stuck (b ∷ xs) p w F o l r = clash (rw (not-layout between w b o.0 o.1) at r)

reads-nil : (F : List Fact) → reads [] ≡ reads F → F ≡ []
reads-nil F e = cc

stop-ended : {p q : ℕ} {xs ys : List ℕ} (w : Work) (F : List Fact) → Gap p xs q ys → ys ≡ [] → run xs stop w p ≡ reads F → F ≡ []
unfolding run finish
stop-ended {xs = xs} w F G.none e r = reads-nil F (rw e at r)
stop-ended w F (G.blank b g) e r = reads-nil F (rw e at (sym (run-stop w (G.blank b g) (omega (arith, gap-grows g))) ∙ r))
stop-ended w F (G.remark l g) e r = reads-nil F (rw e at (sym (run-stop w (G.remark l g) (omega (arith, gap-grows g, line-grows l))) ∙ r))

-- the facts from one on
facts-of : (fuel p : ℕ) (xs : List ℕ) (F : List Fact) → length xs ≤ fuel → FactIs p xs F → Facts p xs F
facts-of zero p xs F l x = absurd (omega (arith, x.within))
facts-of (suc fuel) p xs F l x =
    subst (λ (H : List Fact). Facts p xs H) (sym x.all)
    (others (stopped x.at x.rest) (λ q b ys h o r. facts-of fuel q (b ∷ ys) x.others (omega (arith, x.within))
    (next-byte nothing q b ys x.others (is_lower b) refl o.0 o.1 r)))
  where
    others : Stopped x.at x.rest
        → ((q b : ℕ) (ys : List ℕ) → length (b ∷ ys) ≤ length x.rest → Solid (b ∷ ys) → run (b ∷ ys) between nothing q ≡ reads x.others
        → Facts q (b ∷ ys) x.others)
        → Facts p xs (x.fact ∷ x.others)
    others (ended g) k = subst (λ (K : List Fact). Facts p xs (x.fact ∷ K)) (sym (stop-ended nothing x.others g refl x.goes)) (G.last x.one g)
    others (on {q = q} {b = b} {ys = ys} g h o j) k = G.more x.one g h (k q b ys j o (sym (run-stop nothing g h) ∙ x.goes))
    others (stuck o h) k = absurd (stop-stuck x.rest x.at nothing x.others o h x.goes)

-- WHAT IS READ IS A TEXT
pub text-is : (t : List ℕ) (F : List Fact) → text_of t ≡ reads F → Text t F
unfolding text_of run finish
text-is t F r = on' (skip t 0).rest (skip t 0).gap (skip t 0).solid (sym (run-gap (rests-first nothing) (skip t 0).gap) ∙ r)
  where
    on' : {q : ℕ} (ys : List ℕ) → Gap 0 t q ys → Solid ys → run ys first nothing q ≡ reads F → Text t F
    on' [] g o r' = clash r'
    on' {q} (b ∷ ys) g o r' =
        record {
          at = q;
          rest = b ∷ ys;
          layout = g;
          facts =
              facts-of (length (b ∷ ys)) q (b ∷ ys) F (omega arith) (first_byte nothing q b ys F (is_lower b) refl o.0 o.1 r');
        }
