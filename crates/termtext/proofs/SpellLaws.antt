-- How the words of an answer are read by the grammar, whatever follows them: names, decimal numbers, variables.
use Prim.Native.Nat.{ℕ, zero, suc, ◌+◌, ◌-◌, ◌*◌, ◌/◌, ◌%◌, ◌<◌}
use mathlib.Core.Path.{◌≡◌, refl, sym, ap, subst, ◌∙◌}
use mathlib.Core.Bool.{Bool, true, false, ◌||◌}
use mathlib.Core.List.{List, [], ◌∷◌, ◌++◌, append-nil, append_assoc}
use native.Mathlib.Nat.{add-zero, div-lt_self}
use native.Mathlib.Omega.{arith}
use native.Mathlib.Decide.{dec_lt}
use lib.ListN.{length, length-append}
use borrow.Author.Tests.{le-leb}
use Rattle.octets.specs.Octets.{decimal}
use Rattle.octets.proofs.DecimalLaws.{decimal-small, decimal-more}
use Rattle.grammar.specs.Grammar as G
use Rattle.grammar.specs.Grammar.{is_lower, is_upper, is_digit, is_word, Word, Digits, Symbol, name, Term}
use Rattle.lex.specs.Names.{IsName}
use Rattle.termtext.specs.Saying.{variable_word}

-- NAMES. Bytes with which a word goes on
abbrev pub Going : List ℕ → Type 0
Going [] = Unit {0}
Going (b ∷ xs) = (is_word b ≡ true) × Going xs

pub going-word : (xs : List ℕ) → Going xs → (p : ℕ) (ys : List ℕ) → Word p (xs ++ ys) (p + length xs) ys
going-word [] g p ys = rw (add-zero p) G.none
going-word (b ∷ xs) g p ys =
    let e : p + suc (length xs) ≡ suc p + length xs = omega arith in
    rw e (G.more g.0 (going-word xs g.1 (suc p) ys))

word-going : {p q : ℕ} {xs ys : List ℕ} → Word p xs q ys → ys ≡ [] → Going xs
word-going G.none e = subst Going (sym e) tt
word-going (G.more e w) z = (e, word-going w z)

-- a name: a first byte in lower case, and bytes with which it goes on
pub data Lower : List ℕ → Type 0 where
  lower : {b : ℕ} {rest : List ℕ} → is_lower b ≡ true → Going rest → Lower (b ∷ rest)

pub name-lower : {w : List ℕ} → IsName w → Lower w
name-lower n = by n refl
  where
    by : {p q : ℕ} {xs : List ℕ} {ss : List Symbol} → Term p xs q [] ss → ss ≡ name p q 0 ∷ [] → Lower xs
    by (G.is_name e l) z = lower e (word-going l refl)
    by (G.is-compound e l a h) z = absurd (let y : ◌≡◌ {A = ℕ} 0 1 = cc in omega arith)
    by (G.is-variable e l) z = absurd (let y : ◌≡◌ {A = ℕ} 0 1 = cc in omega arith)
    by (G.is_number e d h) z = absurd (let y : ◌≡◌ {A = ℕ} 0 1 = cc in omega arith)
    by (G.is_negative e d h y) z = absurd (let y : ◌≡◌ {A = ℕ} 0 1 = cc in omega arith)

pub lower-name : {w : List ℕ} → Lower w → IsName w
lower-name (lower {b = b} {rest = rest} e g) =
    let q : suc (length rest) ≡ 1 + length rest = omega arith in
    G.is_name e (rw (append-nil rest, ← q) at (going-word rest g 1 []))

-- NUMBERS. One digit more
digits-snoc : {v p q m d : ℕ} {xs zs ys : List ℕ} → Digits v p xs q zs m → zs ≡ d ∷ ys → is_digit d ≡ true
    → Digits v p xs (suc q) ys (10 * m + (d - 48))
digits-snoc {v} {p} {d = d} {ys = ys} (G.none {xs = xs}) z e =
    subst (λ (l : List ℕ). Digits v p l (suc p) ys (10 * v + (d - 48))) (sym z) (G.more e G.none)
digits-snoc (G.more f g) z e = G.more f (digits-snoc g z e)

-- the digits of a number, read after whatever place and before whatever bytes
pub record DecimalRead (n : ℕ) : Type 0 where
  pub digit : ℕ
  pub rest : List ℕ
  pub is : decimal n ≡ digit ∷ rest
  pub first : is_digit digit ≡ true
  pub digits : (p : ℕ) (ys : List ℕ) → Digits (digit - 48) p (rest ++ ys) (p + length rest) ys n

digit-is : (n : ℕ) → n < 10 → is_digit (48 + n) ≡ true
unfolding is_digit
digit-is n h = rw (le-leb 48 (48 + n) (omega arith), le-leb (48 + n) 57 (omega arith))

read_one : (n : ℕ) → n < 10 → DecimalRead n
read_one n h =
    let e : 48 + n - 48 ≡ n = omega arith in
    record { digit = 48 + n; rest = []; is = decimal-small n h; first = digit-is n h; digits = λ p ys. rw (add-zero p, e) G.none }

read_more : (n : ℕ) → (n < 10 → ⊥) → DecimalRead (n / 10) → DecimalRead n
read_more n h r =
    let last = 48 + n % 10 in
    let e : 10 * (n / 10) + (last - 48) ≡ n = omega arith in
    let f : is_digit last ≡ true = digit-is (n % 10) (omega arith) in
    record {
      digit = r.digit;
      rest = r.rest ++ (last ∷ []);
      is = decimal-more n (omega arith) ∙ ap (λ (l : List ℕ). l ++ (last ∷ [])) r.is;
      first = r.first;
      digits = λ p ys.
          let l : p + length (r.rest ++ (last ∷ [])) ≡ suc (p + length r.rest) = omega (arith, length-append r.rest (last ∷ [])) in
          rw (append_assoc r.rest (last ∷ []) ys, l)
          (subst (Digits (r.digit - 48) p (r.rest ++ (last ∷ ys)) (suc (p + length r.rest)) ys) e
          (digits-snoc (r.digits p (last ∷ ys)) refl f));
    }

read_below : (k n : ℕ) → n < k → DecimalRead n
read_below zero n h = absurd (omega arith)
read_below (suc k) n h = go (dec_lt n 10) (read_below k (n / 10))
  where
    go : Dec (n < 10) → (n / 10 < k → DecimalRead (n / 10)) → DecimalRead n
    go (yes l) f = read_one n l
    go (no l) f = let d : n / 10 < n = div-lt_self (omega arith) (omega arith) in read_more n l (f (omega arith))

pub decimal-read : (n : ℕ) → DecimalRead n
decimal-read n = read_below (suc n) n (omega arith)

-- two numbers with the same digits are one
abbrev value_from : ℕ → List ℕ → ℕ
value_from v [] = v
value_from v (d ∷ ds) = value_from (10 * v + (d - 48)) ds

digits_value : {v p q n : ℕ} {xs ys : List ℕ} → Digits v p xs q ys n → ys ≡ [] → n ≡ value_from v xs
digits_value {v} G.none e = sym (ap (value_from v) e)
digits_value (G.more e d) z = digits_value d z

abbrev value_of : List ℕ → ℕ
value_of [] = 0
value_of (d ∷ ds) = value_from (d - 48) ds

decimal-value : (n : ℕ) → n ≡ value_of (decimal n)
decimal-value n =
    let r = decimal-read n in
    digits_value (r.digits 0 []) refl ∙ ap (value_from (r.digit - 48)) (append-nil r.rest) ∙ sym (ap value_of r.is)

pub decimal-one : {m n : ℕ} → decimal m ≡ decimal n → m ≡ n
decimal-one {m} {n} e = decimal-value m ∙ ap value_of e ∙ sym (decimal-value n)

-- VARIABLES. Digits go on with a word
digit-goes : (b : ℕ) → is_digit b ≡ true → is_word b ≡ true
unfolding is_word
digit-goes b e = rw e (by (is_lower b) (is_upper b))
  where
    by : (x y : Bool) → (x || (y || true)) ≡ true
    by true y = refl
    by false true = refl
    by false false = refl

digits-going : {v p q n : ℕ} {xs ys : List ℕ} → Digits v p xs q ys n → ys ≡ [] → Going xs
digits-going G.none e = subst Going (sym e) tt
digits-going (G.more {digit = b} e d) z = (digit-goes b e, digits-going d z)

decimal-going : (n : ℕ) → Going (decimal n)
decimal-going n =
    let r = decimal-read n in
    let g = subst Going (append-nil r.rest) (digits-going (r.digits 0 []) refl) in
    subst Going (sym r.is) (digit-goes r.digit r.first, g)

upper_first : is_upper 95 ≡ true
unfolding is_upper
upper_first = refl

pub variable-term : (n p : ℕ) (ys : List ℕ)
    → Term p (variable_word n ++ ys) (p + length (variable_word n)) ys (G.variable p (p + length (variable_word n)) ∷ [])
variable-term n p ys =
    let e : p + suc (length (decimal n)) ≡ suc p + length (decimal n) = omega arith in
    rw e (G.is-variable upper_first (going-word (decimal n) (decimal-going n) (suc p) ys))

-- it is not `_` alone, and two of one word are one
pub variable-named : (n : ℕ) → variable_word n ≡ 95 ∷ [] → ⊥
variable-named n e =
    let r = decimal-read n in
    let z : r.digit ∷ r.rest ≡ [] = sym r.is ∙ tail e in
    let y : ◌≡◌ {A = ℕ} 0 1 = cc in
    omega arith
  where
    tail : {a b : ℕ} {xs ys : List ℕ} → a ∷ xs ≡ b ∷ ys → xs ≡ ys
    tail e = cc

pub variable-one : {m n : ℕ} → variable_word m ≡ variable_word n → m ≡ n
variable-one {m} {n} e = let z : decimal m ≡ decimal n = cc in decimal-one z
