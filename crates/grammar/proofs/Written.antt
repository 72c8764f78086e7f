-- Numbers in a text (02, W-206): the terms that begin with a digit or a minus sign, and that the value of a number's cell is the value that
-- is written.
use Prim.Native.Nat.{ℕ, zero, suc, ◌+◌, ◌-◌, ◌*◌, ◌≤◌, ◌<◌}
use mathlib.Core.Path.{◌≡◌, refl, sym, ap, subst, ◌∙◌}
use mathlib.Core.Bool.{true}
use mathlib.Core.List.{List, [], ◌∷◌}
use mathlib.Core.Logic.{◌↔◌}
use native.Mathlib.Omega.{arith}
use lib.IntN.{ℤ, pos, neg_ℤ}
use Rattle.cell.specs.Cell.{Values, number_cell, values_at}
use Rattle.cell.specs.Signed.{bits_of, InRange}
use Rattle.cell.proofs.SignedLaws.{bits-signed, signed-bits, bits_range}
use Rattle.cell.proofs.CellLaws.{built-number}
use Rattle.grammar.specs.Grammar as G
use Rattle.grammar.specs.Grammar.{is_lower, is_upper, is_digit, negative, Digits, Symbol, number, Term}
use Rattle.grammar.specs.Numbers.{Decimal, decimal}
use Rattle.grammar.proofs.Complete.{digit-below, not_lower, not-upper}

read_back : (z : ℤ) → InRange z → (values_at (number_cell (bits_of z))).value ≡ z
read_back z h = ap (λ (v : Values). v.value) (built-number (bits_of z) (bits_range z h)) ∙ signed-bits z h

-- digits alone
pub plain_value : (n : ℕ) → n ≤ 32767 → (values_at (number_cell n)).value ≡ pos n
plain_value n h = read_back (pos n) (omega arith)

-- digits after a minus sign
pub negative-value : (n : ℕ) → n ≤ 32768 → (values_at (number_cell (negative n))).value ≡ neg_ℤ (pos n)
negative-value zero h = read_back (pos zero) (omega arith)
negative-value (suc n) h = read_back (neg_ℤ (pos (suc n))) (omega arith)

pub negative-small : (n : ℕ) → negative n < 65536
negative-small zero = omega arith
negative-small (suc n) = omega arith

-- and no other cell of a number has this value
pub value-bits : (bits : ℕ) {z : ℤ} → bits < 65536 → (values_at (number_cell bits)).value ≡ z → bits ≡ bits_of z
value-bits bits h e =
    sym (bits-signed bits h) ∙ ap bits_of (sym (ap (λ (v : Values). v.value) (built-number bits h)) ∙ e)

-- A TERM'S FIRST BYTE: one below 58 begins no name and no variable, and `-` is no digit
no_name : {A : Type 0} (b : ℕ) → b < 58 → is_lower b ≡ true → A
no_name b h l = let z = sym l ∙ not_lower b (omega arith) in absurd (let y : ◌≡◌ {A = ℕ} 0 1 = cc in omega arith)

no-variable : {A : Type 0} (b : ℕ) → b < 58 → is_upper b ≡ true → A
no-variable b h u = let z = sym u ∙ not-upper b h in absurd (let y : ◌≡◌ {A = ℕ} 0 1 = cc in omega arith)

no_digit : {A : Type 0} → is_digit 45 ≡ true → A
unfolding is_digit
no_digit d = absurd (let y : ◌≡◌ {A = ℕ} 0 1 = cc in omega arith)

-- a term of digits alone
plain_in : {p b q : ℕ} {xs ys : List ℕ} {ss : List Symbol} → Term p (b ∷ xs) q ys ss → is_digit b ≡ true
    → (n : ℕ) × Decimal p (b ∷ xs) q ys n × (n ≤ 32767) × (ss ≡ number n ∷ [])
plain_in (G.is_name {b = b} l w) d = no_name b (digit-below b d) l
plain_in (G.is-compound {byte = b} l w a h) d = no_name b (digit-below b d) l
plain_in (G.is-variable {b = b} u w) d = no-variable b (digit-below b d) u
plain_in (G.is_number {n = n} e x h) d = (n, decimal e x, h, refl)
plain_in (G.is_negative e x h z) d = no_digit d

plain_out : {p q n : ℕ} {xs ys : List ℕ} → Decimal p xs q ys n → n ≤ 32767 → Term p xs q ys (number n ∷ [])
plain_out (decimal e x) h = G.is_number e x h

pub plain-term : {p b q : ℕ} {xs ys : List ℕ} {ss : List Symbol} → is_digit b ≡ true
    → Term p (b ∷ xs) q ys ss ↔ ((n : ℕ) × Decimal p (b ∷ xs) q ys n × (n ≤ 32767) × (ss ≡ number n ∷ []))
plain-term {p} {b} {q} {xs} {ys} d = (λ t. plain_in t d, λ x. subst (Term p (b ∷ xs) q ys) (sym x.3) (plain_out x.1 x.2))

-- a minus sign and digits
minus-in : {p q : ℕ} {xs ys : List ℕ} {ss : List Symbol} (zs : List ℕ) → Term p xs q ys ss → xs ≡ 45 ∷ zs
    → (n : ℕ) × Decimal (suc p) zs q ys n × (n ≤ 32768) × (ss ≡ number (negative n) ∷ [])
minus-in zs (G.is_name {b = b} l w) e = let z : b ≡ 45 = cc in no_name b (omega arith) l
minus-in zs (G.is-compound {byte = b} l w a h) e = let z : b ≡ 45 = cc in no_name b (omega arith) l
minus-in zs (G.is-variable {b = b} u w) e = let z : b ≡ 45 = cc in no-variable b (omega arith) u
minus-in zs (G.is_number {b = b} d x h) e = let z : b ≡ 45 = cc in no_digit (rw z at d)
minus-in {p} {q} {ys = ys} zs (G.is_negative {b = b} {n = n} {xs = xs} d x h z) e =
    let y : b ∷ xs ≡ zs = cc in
    (n, subst (λ (l : List ℕ). Decimal (suc p) l q ys n) y (decimal d x), h, ap (λ (k : ℕ). number k ∷ []) z)

minus-out : {p q n : ℕ} {xs ys : List ℕ} → Decimal (suc p) xs q ys n → n ≤ 32768 → Term p (45 ∷ xs) q ys (number (negative n) ∷ [])
minus-out (decimal e x) h = G.is_negative e x h refl

pub minus-term : {p q : ℕ} {xs ys : List ℕ} {ss : List Symbol}
    → Term p (45 ∷ xs) q ys ss ↔ ((n : ℕ) × Decimal (suc p) xs q ys n × (n ≤ 32768) × (ss ≡ number (negative n) ∷ []))
minus-term {p} {q} {xs} {ys} =
    (λ t. minus-in xs t refl, λ x. subst (Term p (45 ∷ xs) q ys) (sym x.3) (minus-out x.1 x.2))

-- ZEROS IN FRONT change nothing: W-201, "`09` and `9` are the number 9"
past-zero : {v p q n : ℕ} {xs ys : List ℕ} → Digits v p xs q ys n → v ≡ 0 → p < q → Decimal p xs q ys n
past-zero G.none z l = absurd (omega arith)
past-zero {v} {p} {q} {n} {ys = ys} (G.more {digit = b} {xs = xs} e x) z l =
    let y : 10 * v + (b - 48) ≡ b - 48 = omega arith in
    decimal e (subst (λ (u : ℕ). Digits u (suc p) xs q ys n) y x)

zero-off : {p q n : ℕ} {xs ys : List ℕ} → Decimal p (48 ∷ xs) q ys n → suc p < q → Decimal (suc p) xs q ys n
zero-off (decimal e x) l = past-zero x refl l

zero-on : {p q n : ℕ} {xs ys : List ℕ} → Decimal (suc p) xs q ys n → Decimal p (48 ∷ xs) q ys n
unfolding is_digit
zero-on {p} {q} {n} {ys = ys} (decimal {b = b} {xs = xs} e x) =
    let y : b - 48 ≡ 10 * 0 + (b - 48) = omega arith in
    decimal {b = 48} refl (G.more e (subst (λ (u : ℕ). Digits u (suc (suc p)) xs q ys n) y x))

pub zero-term : {p b q : ℕ} {xs ys : List ℕ} {ss : List Symbol} → is_digit b ≡ true → suc p < q
    → Term p (48 ∷ b ∷ xs) q ys ss ↔ Term (suc p) (b ∷ xs) q ys ss
unfolding is_digit
zero-term d l =
    let z = plain-term {b = 48} refl in
    let o = plain-term d in (
      λ t. let x = z.0 t in o.1 (x.0, zero-off x.1 l, x.2, x.3),
      λ t. let x = o.0 t in z.1 (x.0, zero-on x.1, x.2, x.3),
    )

pub minus-zero-term : {p q : ℕ} {xs ys : List ℕ} {ss : List Symbol} → suc (suc p) < q
    → Term p (45 ∷ 48 ∷ xs) q ys ss ↔ Term (suc p) (45 ∷ xs) q ys ss
minus-zero-term l = (
  λ t. let x = minus-term.0 t in minus-term.1 (x.0, zero-off x.1 l, x.2, x.3),
  λ t. let x = minus-term.0 t in minus-term.1 (x.0, zero-on x.1, x.2, x.3),
)
