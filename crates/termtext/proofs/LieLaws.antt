-- Where the symbols of a goal lie, and how large they are.
use Prim.Native.Nat.{ℕ, ◌+◌, ◌≤◌, ◌<◌}
use mathlib.Core.Path.{◌≡◌, sym, ap, ◌∙◌}
use mathlib.Core.Bool.{true}
use mathlib.Core.List.{List, [], ◌∷◌, ◌++◌}
use native.Mathlib.Omega.{arith}
use native.Mathlib.Decide.{dec_lt}
use lib.ListN.{length, drop, length-drop, length-append}
use lib.Seq.{drop-append-le, drop-append-add}
use Rattle.table.specs.All.{All}
use Rattle.grammar.specs.Grammar as G
use Rattle.grammar.specs.Grammar.{is_lower, is_upper, is_digit, is_word, Symbol, name, variable, number, Word, Fact, Text}
use Rattle.grammar.proofs.Complete.{not_lower}
use Rattle.grammar.proofs.LongLaws.{word_on}
use Rattle.termtext.specs.Goal.{with_stop, Whole, stopped, unstopped}
use Rattle.termtext.proofs.TextLaws.{Named, left-within, text-has}

-- a name lies within so many bytes and has at most 4 arguments; a number has 16 bits
abbrev pub Lies : ℕ → Symbol → Type 0
Lies n (name s e a) = (s ≤ e) × (e ≤ n) × (a ≤ 4)
Lies n (variable s e) = Unit {0}
Lies n (number v) = v < 65536

abbrev pub AllLie : ℕ → List Symbol → Type 0
AllLie n ss = All (Lies n) ss

-- the symbols of a text's first fact, where its names end within so many bytes
text-lies : (t : List ℕ) (n : ℕ) → ((p q : ℕ) → Named t p q → q ≤ n) → {f : Fact} {fs : List Fact} → Text t (f ∷ fs) → AllLie n f.symbols
text-lies t n ends x =
    (text-has t (Lies n) (λ p q a m h. (omega (arith, (word_on m.word).0), ends p q m, h)) (λ p q. tt) (λ v h. h) x).0.1

-- WITH A FULL STOP AFTER IT: a line feed is no byte of a name, and the full stop begins none
no_word : {b : ℕ} → b ≡ 10 → is_word b ≡ true → ⊥
unfolding is_word is_lower is_upper is_digit
no_word e h = let z = sym (ap is_word e) ∙ h in let y : ◌≡◌ {A = ℕ} 0 1 = cc in omega arith

word-before : {p q : ℕ} {xs ys : List ℕ} (us zs : List ℕ) → Word p xs q ys → xs ≡ us ++ (10 ∷ zs) → q ≤ p + length us
word-before us zs G.none e = omega arith
word-before [] zs (G.more {b = b} h w) e = absurd (no_word (let z : b ≡ 10 = cc in z) h)
word-before (u ∷ us) zs (G.more {xs = xs} h w) e =
    let z : xs ≡ us ++ (10 ∷ zs) = cc in
    omega (arith, word-before us zs w z)

lower_word : (b : ℕ) → is_lower b ≡ true → is_word b ≡ true
unfolding is_word
lower_word b e = rw e

name-before : (t : List ℕ) (p q : ℕ) → Named (with_stop t) p q → q ≤ length t
name-before t p q m = by (dec_lt (length t) p)
  where
    by : Dec (length t < p) → q ≤ length t
    by (no h) =
        let e = sym m.here.is ∙ drop-append-le p t (10 ∷ 46 ∷ []) (omega arith) in
        let w : Word p (m.byte ∷ m.rest) q m.after = G.more (lower_word m.byte m.lower) m.word in
        omega (arith, word-before (drop p t) (46 ∷ []) w e, length-drop p t)
    by (yes h) =
        let k : p ≡ length t + 1 = omega (arith, left-within m.here, length-append t (10 ∷ 46 ∷ [])) in
        let e : m.byte ∷ m.rest ≡ 46 ∷ []
        = sym m.here.is ∙ ap (λ (n : ℕ). drop n (with_stop t)) k ∙ drop-append-add t (10 ∷ 46 ∷ []) 1 in
        let b : m.byte ≡ 46 = cc in
        let z = sym m.lower ∙ not_lower m.byte (omega arith) in
        absurd (let y : ◌≡◌ {A = ℕ} 0 1 = cc in omega arith)

-- THE SYMBOLS OF A GOAL'S FIRST FACT lie in the goal's own bytes
pub goal-lies : {t whole : List ℕ} {f : Fact} {fs : List Fact} → Whole t whole (f ∷ fs) → AllLie (length t) f.symbols
goal-lies {t} (stopped x) = text-lies t (length t) (λ p q m. omega (arith, left-within m.here, (word_on m.word).1)) x
goal-lies {t} (unstopped s x) = text-lies (with_stop t) (length t) (name-before t) x
