-- A text walked along by its grammar: at each place what is left is the text's own, and what is said of names, variables and numbers by
-- themselves holds of every symbol.
use Prim.Native.Nat.{ℕ, suc, ◌+◌, ◌≤◌, ◌<◌}
use mathlib.Core.Path.{◌≡◌, refl, sym, ap, subst, ◌∙◌}
use mathlib.Core.Bool.{true}
use mathlib.Core.List.{List, ◌∷◌}
use native.Mathlib.Omega.{arith}
use native.Mathlib.Numerals.{add-one}
use lib.ListN.{length, drop, length-drop}
use lib.Seq.{drop-drop}
use Rattle.table.specs.All.{All}
use Rattle.table.proofs.AllLaws.{all-++}
use Rattle.grammar.specs.Grammar as G
use Rattle.grammar.specs.Grammar.{is_lower, Line, Gap, Word, Digits, Symbol, name, variable, number, Term, Args, Fact, OneFact, Facts, Text}
use Rattle.grammar.proofs.Written.{negative-small}

-- what is left of a text at a place
pub record Left (t : List ℕ) (p : ℕ) (xs : List ℕ) : Type 0 where
  pub is : drop p t ≡ xs

-- a name of it, from its first byte up to the place after it
pub record Named (t : List ℕ) (p q : ℕ) : Type 0 where
  pub byte : ℕ
  pub rest : List ℕ
  pub after : List ℕ
  pub here : Left t p (byte ∷ rest)
  pub lower : is_lower byte ≡ true
  pub word : Word (suc p) rest q after

-- BYTE BY BYTE it stays so
module _ {t : List ℕ} where
  pub left-within : {p b : ℕ} {xs : List ℕ} → Left t p (b ∷ xs) → p + length (b ∷ xs) ≡ length t
  left-within {p} l = omega (arith, length-drop p t, ap length l.is)

  pub left-on : {p b : ℕ} {xs : List ℕ} → Left t p (b ∷ xs) → Left t (suc p) xs
  left-on {p} l = record { is = ap (λ (n : ℕ). drop n t) (sym (add-one p)) ∙ sym (drop-drop 1 p t) ∙ ap (drop 1) l.is }

  line-left : {p q : ℕ} {xs ys : List ℕ} → Left t p xs → Line p xs q ys → Left t q ys
  line-left l G.ended = l
  line-left l G.feed = left-on l
  line-left l (G.byte e x) = line-left (left-on l) x

  pub gap-left : {p q : ℕ} {xs ys : List ℕ} → Left t p xs → Gap p xs q ys → Left t q ys
  gap-left l G.none = l
  gap-left l (G.blank b g) = gap-left (left-on l) g
  gap-left l (G.remark x g) = gap-left (line-left (left-on l) x) g

  pub word-left : {p q : ℕ} {xs ys : List ℕ} → Left t p xs → Word p xs q ys → Left t q ys
  word-left l G.none = l
  word-left l (G.more e w) = word-left (left-on l) w

  digits-left : {v p q n : ℕ} {xs ys : List ℕ} → Left t p xs → Digits v p xs q ys n → Left t q ys
  digits-left l G.none = l
  digits-left l (G.more e d) = digits-left (left-on l) d

  named : {p b q : ℕ} {xs ys : List ℕ} → Left t p (b ∷ xs) → is_lower b ≡ true → Word (suc p) xs q ys → Named t p q
  named {b = b} {xs = xs} {ys = ys} l e w = record { byte = b; rest = xs; after = ys; here = l; lower = e; word = w }

-- SYMBOL BY SYMBOL: a property that names, variables and numbers have. Of a fact, its own name has it too, as one without arguments
module _ (t : List ℕ) (Has : Symbol → Type 0) (of-name : (p q a : ℕ) → Named t p q → a ≤ 4 → Has (name p q a))
    (of-variable : (p q : ℕ) → Has (variable p q)) (of_number : (v : ℕ) → v < 65536 → Has (number v)) where
  abbrev FactHas : Fact → Type 0
  FactHas f = Has (name f.start f.end 0) × All Has f.symbols

  mutual
    term-has : {p q : ℕ} {xs ys : List ℕ} {ss : List Symbol} → Left t p xs → Term p xs q ys ss → All Has ss × Left t q ys
    term-has {p} {q} l (G.is_name e w) = ((of-name p q 0 (named l e w) (omega arith), tt), word-left (left-on l) w)
    term-has l (G.is-compound {start = p} {bracket = q} {last = a} e w as' k) =
        let r = args-have (left-on (word-left (left-on l) w)) as' in
        ((of-name p q (suc a) (named l e w) (omega arith), r.0), r.1)
    term-has {p} {q} l (G.is-variable e w) = ((of-variable p q, tt), word-left (left-on l) w)
    term-has l (G.is_number {n = n} e d k) = ((of_number n (omega arith), tt), digits-left (left-on l) d)
    term-has l (G.is_negative {n = n} {bits = v} e d k z) =
        ((of_number v (omega (arith, z, negative-small n)), tt), digits-left (left-on (left-on l)) d)

    args-have : {c p q d : ℕ} {xs ys : List ℕ} {ss : List Symbol} → Left t p xs → Args c p xs q ys d ss → All Has ss × Left t q ys
    args-have l (G.last g x k) = let r = term-has (gap-left l g) x in (r.0, left-on (gap-left r.1 k))
    args-have l (G.more {symbols = ss} {others = us} g x k as' e) =
        let r = term-has (gap-left l g) x in
        let o = args-have (left-on (gap-left r.1 k)) as' in
        (subst (All Has) (sym e) (all-++ Has ss us r.0 o.0), o.1)

  fact-has : {p q : ℕ} {xs ys : List ℕ} {f : Fact} → Left t p xs → OneFact p xs q ys f → FactHas f × Left t q ys
  fact-has l (G.one {start = p} {bracket = q} e w as' g) =
      let r = args-have (left-on (word-left (left-on l) w)) as' in
      ((of-name p q 0 (named l e w) (omega arith), r.0), left-on (gap-left r.1 g))

  facts-have : {p : ℕ} {xs : List ℕ} {fs : List Fact} → Left t p xs → Facts p xs fs → All FactHas fs
  facts-have l (G.last o g) = ((fact-has l o).0, tt)
  facts-have l (G.more o g h fs) = let r = fact-has l o in (r.0, facts-have (gap-left r.1 g) fs)

  pub text-has : {fs : List Fact} → Text t fs → All FactHas fs
  text-has x = facts-have (gap-left (record { is = refl }) x.layout) x.facts
