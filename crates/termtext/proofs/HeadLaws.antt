-- Where the first fact of a text has its name: the place that the code finds is the grammar's.
use Prim.Native.Nat.{ℕ, suc, ◌≤◌, ◌<◌}
use mathlib.Core.Path.{◌≡◌, refl, sym, ap, subst, ◌∙◌}
use mathlib.Core.Bool.{true}
use mathlib.Core.List.{List, ◌∷◌}
use native.Mathlib.Omega.{arith}
use native.Mathlib.Numerals.{add-one}
use native.Mathlib.Decide.{dec_lt}
use lib.ListN.{length, get_or, drop}
use lib.Seq.{drop-cons}
use borrow.Author.Tests.{ne_eqb}
use Rattle.grammar.specs.Grammar as G
use Rattle.grammar.specs.Grammar.{is_lower, is_upper, is_digit, is_word, Gap, Word, Fact, OneFact, Facts, Text}
use Rattle.grammar.specs.Reader.{is_blank, Solid, Ends}
use Rattle.grammar.proofs.Complete.{not_lower}
use Rattle.grammar.proofs.LongLaws.{word_on}
use Rattle.lex.specs.Turns.{stands_at}
use Rattle.lex.specs.Heads.{head_of}
use Rattle.lex.specs.code.Ends.{GapTo, WordTo}
use Rattle.lex.specs.declared.fact.Head.TheVariants as head
use Rattle.lex.proofs.FactLaws.{head-open, first-fact}
use Rattle.termtext.proofs.TextLaws.{Left, left-within, left-on, gap-left, word-left}

-- layout ends before a letter, and a word at a bracket
lower-solid : (b : ℕ) (xs : List ℕ) → is_lower b ≡ true → Solid (b ∷ xs)
unfolding is_blank
lower-solid b xs e =
    let l = least (dec_lt b 97) in
    (rw (ne_eqb b 32 (λ q. omega arith), ne_eqb b 10 (λ q. omega arith), ne_eqb b 13 (λ q. omega arith)), ne_eqb b 37 (λ q. omega arith))
  where
    least : Dec (b < 97) → 97 ≤ b
    least (yes h) = absurd (let z = sym e ∙ not_lower b h in let y : ◌≡◌ {A = ℕ} 0 1 = cc in omega arith)
    least (no h) = omega arith

bracket-ends : (xs : List ℕ) → Ends (40 ∷ xs)
unfolding is_word is_lower is_upper is_digit
bracket-ends xs = refl

-- THE FIRST FACT'S NAME
one-head : (t : List ℕ) {p q : ℕ} {xs ys : List ℕ} {f : Fact} → Gap 0 t p xs → OneFact p xs q ys f
    → head_of t 0 true ≡ head.Open f.start f.end
unfolding stands_at
one-head t g (G.one {start = s} {byte = b} {bracket = e} {rest = rest} {inside = inside} lower w a h) =
    let here : Left t s (b ∷ rest) = gap-left (record { is = refl }) g in
    let next = left-on here in
    let open' = word-left next w in
    let within : s < length t = omega (arith, left-within here) in
    let gap : GapTo t 0 s
    = record {
      gap = subst (Gap 0 t s) (sym here.is) g;
      solid = subst Solid (sym here.is) (lower-solid b rest lower);
      from = omega arith;
      within = λ l. omega arith;
    } in
    let word : WordTo t (suc s) e
    = record {
      word = subst (λ (xs : List ℕ). Word (suc s) xs e (drop e t)) (sym next.is) (subst (Word (suc s) rest e) (sym open'.is) w);
      ends = subst Ends (sym open'.is) (bracket-ends inside);
      from = (word_on w).0;
      within = λ l. omega (arith, left-within open');
    } in
    let first = sym here.is ∙ drop-cons t s 0 within in
    let letter : b ≡ get_or t s 0 = cc in
    let opens
    = head-open t s e within (sym (ap is_lower letter) ∙ lower)
    (subst (λ (k : ℕ). WordTo t k e) (sym (add-one s)) word) (ap (stands_at 40) open'.is) in
    sym (first-fact t 0 s gap (head.Open s e) opens within refl).is

pub first_head : (t : List ℕ) {f : Fact} {fs : List Fact} → Text t (f ∷ fs) → head_of t 0 true ≡ head.Open f.start f.end
first_head t x = by x.layout x.facts
  where
    by : {p : ℕ} {xs : List ℕ} {f : Fact} {fs : List Fact} → Gap 0 t p xs → Facts p xs (f ∷ fs)
        → head_of t 0 true ≡ head.Open f.start f.end
    by g (G.last o r) = one-head t g o
    by g (G.more o r l k) = one-head t g o
