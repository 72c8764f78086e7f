-- What stands at a place of a text is one: gaps, words, numbers, terms and arguments (crate grammar) end at one place, with one list of symbols.
use Prim.Native.Nat.{ℕ, suc, ◌+◌, ◌-◌, ◌*◌}
use mathlib.Core.Path.{◌≡◌, refl, sym, ◌∙◌, ap, ap₂, subst}
use mathlib.Core.Bool.{Bool, true, false, cond, not}
use mathlib.Core.List.{List, [], ◌∷◌, ◌++◌}
use native.Mathlib.Omega.{arith}
use lib.Dec.{eqb}
use lib.ListN.{length, get_or, drop}
use borrow.Author.Tests.{ne_eqb}
use Rattle.table.proofs.ReadLaws.{not-both}
use Rattle.grammar.specs.Grammar as G
use Rattle.grammar.specs.Grammar.{is_lower, is_upper, is_digit, is_word, space, feed, return, Line, Gap, Word, Digits, Symbol, Term, Args}
use Rattle.grammar.specs.Reader.{is_blank, Solid, Ends}
use Rattle.grammar.proofs.LongLaws.{gap-place, word_on}
use Rattle.grammar.proofs.Complete.{Follows, comma-follows, bracket-follows, follows-ends, upper-below, digit-below, not_lower, not-upper, gap-follows}

-- GAPS. What is left of a text after its blanks and comments; in a comment or not
skip : List ℕ → Bool → List ℕ
skip [] r = []
skip (b ∷ xs) r = cond r (skip xs (not (eqb b 10))) (cond (is_blank b) (skip xs false) (cond (eqb b 37) (skip xs true) (b ∷ xs)))

line-skip : {p q : ℕ} {xs ys : List ℕ} → Line p xs q ys → skip xs true ≡ skip ys false
unfolding skip
line-skip G.ended = refl
line-skip G.feed = refl
line-skip (G.byte e l) = rw e (line-skip l)

gap-skip : {p q : ℕ} {xs ys : List ℕ} → Gap p xs q ys → skip xs false ≡ skip ys false
unfolding skip is_blank
gap-skip G.none = refl
gap-skip (G.blank space g) = gap-skip g
gap-skip (G.blank feed g) = gap-skip g
gap-skip (G.blank return g) = gap-skip g
gap-skip (G.remark l g) = line-skip l ∙ gap-skip g

solid-skip : (ys : List ℕ) → Solid ys → skip ys false ≡ ys
unfolding skip
solid-skip [] s = refl
solid-skip (b ∷ ys) s = rw (s.0, s.1)

-- where something ends: the place and the bytes after it
pub record Same (q q' : ℕ) (ys ys' : List ℕ) : Type 0 where
  pub place : q ≡ q'
  pub rest : ys ≡ ys'

pub gap-one : {p q q' : ℕ} {xs ys ys' : List ℕ} → Gap p xs q ys → Solid ys → Gap p xs q' ys' → Solid ys' → Same q q' ys ys'
gap-one {ys = ys} {ys'} g s h u =
    let e : ys ≡ ys' = sym (solid-skip ys s) ∙ sym (gap-skip g) ∙ gap-skip h ∙ solid-skip ys' u in
    record { place = omega (arith, gap-place g, gap-place h, ap length e); rest = e }

-- WORDS
chop : List ℕ → List ℕ
chop [] = []
chop (b ∷ xs) = cond (is_word b) (chop xs) (b ∷ xs)

word-chop : {p q : ℕ} {xs ys : List ℕ} → Word p xs q ys → chop xs ≡ chop ys
unfolding chop
word-chop G.none = refl
word-chop (G.more e w) = rw e (word-chop w)

ends-chop : (ys : List ℕ) → Ends ys → chop ys ≡ ys
unfolding chop
ends-chop [] e = refl
ends-chop (b ∷ ys) e = rw e

word-one : {p q q' : ℕ} {xs ys ys' : List ℕ} → Word p xs q ys → Ends ys → Word p xs q' ys' → Ends ys' → Same q q' ys ys'
word-one {ys = ys} {ys'} v e w f =
    let z : ys ≡ ys' = sym (ends-chop ys e) ∙ sym (word-chop v) ∙ word-chop w ∙ ends-chop ys' f in
    record { place = omega (arith, (word_on v).1, (word_on w).1, ap length z); rest = z }

-- DIGITS. Their value, and what is left
unfoldable pub worth : List ℕ → ℕ → ℕ
worth [] v = v
worth (b ∷ xs) v = cond (is_digit b) (worth xs (10 * v + (b - 48))) v

unfoldable pub shorn : List ℕ → List ℕ
shorn [] = []
shorn (b ∷ xs) = cond (is_digit b) (shorn xs) (b ∷ xs)

pub digits-worth : {v p q n : ℕ} {xs ys : List ℕ} → Digits v p xs q ys n → worth xs v ≡ worth ys n
unfolding worth
digits-worth G.none = refl
digits-worth (G.more e d) = rw e (digits-worth d)

pub digits-shorn : {v p q n : ℕ} {xs ys : List ℕ} → Digits v p xs q ys n → shorn xs ≡ shorn ys
unfolding shorn
digits-shorn G.none = refl
digits-shorn (G.more e d) = rw e (digits-shorn d)

digits_long : {v p q n : ℕ} {xs ys : List ℕ} → Digits v p xs q ys n → p + length xs ≡ q + length ys
digits_long G.none = refl
digits_long (G.more e d) = omega (arith, digits_long d)

pub over : (ys : List ℕ) → Follows ys → (n : ℕ) → (worth ys n ≡ n) × (shorn ys ≡ ys)
unfolding worth shorn
over [] f n = (refl, refl)
over (b ∷ ys) f n = (rw f.2, rw f.2)

record SameNumber (n n' q q' : ℕ) (ys ys' : List ℕ) : Type 0 where
  value : n ≡ n'
  ends : Same q q' ys ys'

digits-one : {v p q q' n n' : ℕ} {xs ys ys' : List ℕ} → Digits v p xs q ys n → Follows ys → Digits v p xs q' ys' n' → Follows ys'
    → SameNumber n n' q q' ys ys'
digits-one {n = n} {n'} {ys = ys} {ys'} d f c g =
    let z : ys ≡ ys' = sym (over ys f n).1 ∙ sym (digits-shorn d) ∙ digits-shorn c ∙ (over ys' g n').1 in
    record {
      value = sym (over ys f n).0 ∙ sym (digits-worth d) ∙ digits-worth c ∙ (over ys' g n').0;
      ends = record { place = omega (arith, digits_long d, digits_long c, ap length z); rest = z };
    }

-- TERMS. The first byte tells the kind
lower-upper : {A : Type 0} (b : ℕ) → is_lower b ≡ true → is_upper b ≡ true → A
lower-upper b e f = not-both e (not_lower b (upper-below b f))

lower-digit : {A : Type 0} (b : ℕ) → is_lower b ≡ true → is_digit b ≡ true → A
lower-digit b e f = not-both e (not_lower b (omega (arith, digit-below b f)))

upper-digit : {A : Type 0} (b : ℕ) → is_upper b ≡ true → is_digit b ≡ true → A
upper-digit b e f = not-both e (not-upper b (digit-below b f))

-- `-` is 45, `(` is 40
dash-lower : {A : Type 0} → is_lower 45 ≡ true → A
unfolding is_lower
dash-lower e = not-both e refl

dash-upper : {A : Type 0} → is_upper 45 ≡ true → A
unfolding is_upper
dash-upper e = not-both e refl

dash-digit : {A : Type 0} → is_digit 45 ≡ true → A
unfolding is_digit
dash-digit e = not-both e refl

bracket-ends : (xs : List ℕ) → Ends (40 ∷ xs)
unfolding is_word is_lower is_upper is_digit
bracket-ends xs = refl

no-bracket : {A : Type 0} {xs ys : List ℕ} → Follows ys → ys ≡ 40 ∷ xs → A
no-bracket {xs = xs} f e = not-both refl (subst Follows e f).1

-- no layout begins with a byte of a kind to which no layout's byte belongs
byte-solid : (kind : ℕ → Bool) (b : ℕ) → kind b ≡ true → kind 32 ≡ false → kind 10 ≡ false → kind 13 ≡ false → kind 37 ≡ false
    → (is_blank b ≡ false) × (eqb b 37 ≡ false)
unfolding is_blank
byte-solid kind b e x y z u = (
  rw (ne_eqb b 32 (λ q. not-both e (rw q x)), ne_eqb b 10 (λ q. not-both e (rw q y)), ne_eqb b 13 (λ q. not-both e (rw q z))),
  ne_eqb b 37 (λ q. not-both e (rw q u)),
)

term-solid : {p q : ℕ} {xs ys : List ℕ} {ss : List Symbol} → Term p xs q ys ss → Solid xs
unfolding is_blank is_lower is_upper is_digit
term-solid (G.is_name {b = b} e w) = byte-solid is_lower b e refl refl refl refl
term-solid (G.is-compound {byte = b} e w a l) = byte-solid is_lower b e refl refl refl refl
term-solid (G.is-variable {b = b} e w) = byte-solid is_upper b e refl refl refl refl
term-solid (G.is_number {b = b} e d l) = byte-solid is_digit b e refl refl refl refl
term-solid (G.is_negative e d l z) = (refl, refl)

-- what stands there and where it ends
pub record SameTerm (q q' : ℕ) (ys ys' : List ℕ) (ss ss' : List Symbol) : Type 0 where
  pub symbols : ss ≡ ss'
  pub ends : Same q q' ys ys'

pub record SameArgs (q q' : ℕ) (ys ys' : List ℕ) (ss ss' : List Symbol) (d d' : ℕ) : Type 0 where
  pub many : d ≡ d'
  pub term : SameTerm q q' ys ys' ss ss'

-- the same at an equal place
term_moved : {p p' q : ℕ} {xs xs' ys : List ℕ} {ss : List Symbol} → Same p p' xs xs' → Term p' xs' q ys ss → Term p xs q ys ss
term_moved {p} {q = q} {xs' = xs'} {ys = ys} {ss = ss} e t =
    subst (λ (l : List ℕ). Term p l q ys ss) (sym e.rest) (subst (λ (n : ℕ). Term n xs' q ys ss) (sym e.place) t)

pub gap-moved : {p p' q : ℕ} {xs xs' ys : List ℕ} → Same p p' xs xs' → Gap p' xs' q ys → Gap p xs q ys
gap-moved {p} {q = q} {xs' = xs'} {ys = ys} e g =
    subst (λ (l : List ℕ). Gap p l q ys) (sym e.rest) (subst (λ (n : ℕ). Gap n xs' q ys) (sym e.place) g)

pub args-moved : {c p p' q d : ℕ} {xs xs' ys : List ℕ} {ss : List Symbol} → Same p p' xs xs' → Args c p' xs' q ys d ss → Args c p xs q ys d ss
args-moved {c} {p} {q = q} {d = d} {xs' = xs'} {ys = ys} {ss = ss} e a =
    subst (λ (l : List ℕ). Args c p l q ys d ss) (sym e.rest) (subst (λ (n : ℕ). Args c n xs' q ys d ss) (sym e.place) a)

-- past one byte
pub past : {b b' q q' : ℕ} {ys ys' : List ℕ} → Same q q' (b ∷ ys) (b' ∷ ys') → Same (suc q) (suc q') ys ys'
past s = record { place = ap suc s.place; rest = ap (drop 1) s.rest }

pub byte_of : {b b' q q' : ℕ} {ys ys' : List ℕ} → Same q q' (b ∷ ys) (b' ∷ ys') → b ≡ b'
byte_of s = ap (λ (l : List ℕ). get_or l 0 0) s.rest

solid-close : (xs : List ℕ) → Solid (41 ∷ xs)
unfolding is_blank
solid-close xs = (refl, refl)

solid-comma : (xs : List ℕ) → Solid (44 ∷ xs)
unfolding is_blank
solid-comma xs = (refl, refl)

compound-same : (p : ℕ) {n n' q q' d d' : ℕ} {ys ys' : List ℕ} {ss ss' : List Symbol} → n ≡ n' → SameArgs q q' ys ys' ss ss' d d'
    → G.name p n (suc d) ∷ ss ≡ G.name p n' (suc d') ∷ ss'
compound-same p e r = let m = r.many in let s = r.term.symbols in cc

mutual
  term-one : {p q q' : ℕ} {xs ys ys' : List ℕ} {ss ss' : List Symbol} → Term p xs q ys ss → Follows ys → Term p xs q' ys' ss' → Follows ys'
      → SameTerm q q' ys ys' ss ss'
  term-one {p = p} {ys = ys} {ys'} (G.is_name e v) f (G.is_name e' w) g =
      let s = word-one v (follows-ends ys f) w (follows-ends ys' g) in
      record { symbols = ap (λ (n : ℕ). G.name p n 0 ∷ []) s.place; ends = s }
  term-one {ys = ys} (G.is_name e v) f (G.is-compound {inside = zs} e' w a l) g =
      no-bracket f (word-one v (follows-ends ys f) w (bracket-ends zs)).rest
  term-one (G.is_name {b = b} e v) f (G.is-variable e' w) g = lower-upper b e e'
  term-one (G.is_name {b = b} e v) f (G.is_number e' d l) g = lower-digit b e e'
  term-one (G.is_name e v) f (G.is_negative e' d l z) g = dash-lower e
  term-one {ys' = ys'} (G.is-compound {inside = zs} e v a l) f (G.is_name e' w) g =
      no-bracket g (word-one w (follows-ends ys' g) v (bracket-ends zs)).rest
  term-one {p = p} (G.is-compound {inside = zs} e v a l) f (G.is-compound {inside = us} e' w c k) g =
      let s = word-one v (bracket-ends zs) w (bracket-ends us) in
      let r = args_one a (args-moved (past s) c) in
      record { symbols = compound-same p s.place r; ends = r.term.ends }
  term-one (G.is-compound {byte = b} e v a l) f (G.is-variable e' w) g = lower-upper b e e'
  term-one (G.is-compound {byte = b} e v a l) f (G.is_number e' d m) g = lower-digit b e e'
  term-one (G.is-compound e v a l) f (G.is_negative e' d m z) g = dash-lower e
  term-one (G.is-variable {b = b} e v) f (G.is_name e' w) g = lower-upper b e' e
  term-one (G.is-variable {b = b} e v) f (G.is-compound e' w a l) g = lower-upper b e' e
  term-one {p = p} {ys = ys} {ys'} (G.is-variable e v) f (G.is-variable e' w) g =
      let s = word-one v (follows-ends ys f) w (follows-ends ys' g) in
      record { symbols = ap (λ (n : ℕ). G.variable p n ∷ []) s.place; ends = s }
  term-one (G.is-variable {b = b} e v) f (G.is_number e' d l) g = upper-digit b e e'
  term-one (G.is-variable e v) f (G.is_negative e' d l z) g = dash-upper e
  term-one (G.is_number {b = b} e d l) f (G.is_name e' w) g = lower-digit b e' e
  term-one (G.is_number {b = b} e d l) f (G.is-compound e' w a m) g = lower-digit b e' e
  term-one (G.is_number {b = b} e d l) f (G.is-variable e' w) g = upper-digit b e' e
  term-one (G.is_number e d l) f (G.is_number e' c m) g =
      let s = digits-one d f c g in
      record { symbols = ap (λ (n : ℕ). G.number n ∷ []) s.value; ends = s.ends }
  term-one (G.is_number e d l) f (G.is_negative e' c m z) g = dash-digit e
  term-one (G.is_negative e d l z) f (G.is_name e' w) g = dash-lower e'
  term-one (G.is_negative e d l z) f (G.is-compound e' w a m) g = dash-lower e'
  term-one (G.is_negative e d l z) f (G.is-variable e' w) g = dash-upper e'
  term-one (G.is_negative e d l z) f (G.is_number e' c m) g = dash-digit e'
  term-one (G.is_negative e d l z) f (G.is_negative e' c m y) g =
      let s = digits-one d f c g in
      record { symbols = ap (λ (n : ℕ). G.number n ∷ []) (z ∙ ap G.negative s.value ∙ sym y); ends = s.ends }

  pub args_one : {c p q q' d d' : ℕ} {xs ys ys' : List ℕ} {ss ss' : List Symbol} → Args c p xs q ys d ss → Args c p xs q' ys' d' ss'
      → SameArgs q q' ys ys' ss ss' d d'
  args_one (G.last {left = ys} g t h) (G.last {left = zs} i u k) =
      let s = gap-one g (term-solid t) i (term-solid u) in
      let r = term-one t (gap-follows h (bracket-follows ys)) (term_moved s u) (gap-follows k (bracket-follows zs)) in
      let v = gap-one h (solid-close ys) (gap-moved r.ends k) (solid-close zs) in
      record { many = refl; term = record { symbols = r.symbols; ends = past v } }
  args_one (G.last {left = ys} g t h) (G.more {rest = zs} i u k a e) =
      let s = gap-one g (term-solid t) i (term-solid u) in
      let r = term-one t (gap-follows h (bracket-follows ys)) (term_moved s u) (gap-follows k (comma-follows zs)) in
      absurd (omega (arith, byte_of (gap-one h (solid-close ys) (gap-moved r.ends k) (solid-comma zs))))
  args_one (G.more {rest = ys} g t h a e) (G.last {left = zs} i u k) =
      let s = gap-one g (term-solid t) i (term-solid u) in
      let r = term-one t (gap-follows h (comma-follows ys)) (term_moved s u) (gap-follows k (bracket-follows zs)) in
      absurd (omega (arith, byte_of (gap-one h (solid-comma ys) (gap-moved r.ends k) (solid-close zs))))
  args_one (G.more {rest = ys} g t h a e) (G.more {rest = zs} i u k b f) =
      let s = gap-one g (term-solid t) i (term-solid u) in
      let r = term-one t (gap-follows h (comma-follows ys)) (term_moved s u) (gap-follows k (comma-follows zs)) in
      let v = gap-one h (solid-comma ys) (gap-moved r.ends k) (solid-comma zs) in
      let w = args_one a (args-moved (past v) b) in
      record { many = w.many; term = record { symbols = e ∙ ap₂ ◌++◌ r.symbols w.term.symbols ∙ sym f; ends = w.term.ends } }
