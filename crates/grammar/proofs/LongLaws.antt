-- How long a text is for its symbols: two bytes each. So a text of 65,535 bytes has at most 32,766, and with them the table's cells and the names are bounded.
use Prim.Native.Nat.{ℕ, suc, ◌+◌, ◌*◌, ◌≤◌}
use mathlib.Core.Path.{◌≡◌, refl, ap, ◌∙◌}
use mathlib.Core.Bool.{Bool, true, false, cond}
use mathlib.Core.List.{List, [], ◌∷◌, ◌++◌, flatten}
use lib.Dec.{ltb}
use native.Mathlib.Omega.{arith}
use lib.ListN.{length, length-append}
use Rattle.grammar.specs.Grammar as G
use Rattle.grammar.specs.Grammar.{Line, Gap, Word, Digits, Symbol, Term, Args, Fact, OneFact, Facts, Text}
use Rattle.grammar.specs.Meaning.{Place, place, bytes_at, position, meet, names_from, symbols_of, none, found, alike, other_than, other_in}

-- places and the bytes left go together
line-place : {p q : ℕ} {xs ys : List ℕ} → Line p xs q ys → p + length xs ≡ q + length ys
line-place G.ended = refl
line-place G.feed = omega arith
line-place (G.byte e l) = omega (arith, line-place l)

pub gap-place : {p q : ℕ} {xs ys : List ℕ} → Gap p xs q ys → p + length xs ≡ q + length ys
gap-place G.none = refl
gap-place (G.blank b g) = omega (arith, gap-place g)
gap-place (G.remark l g) = omega (arith, gap-place g, line-place l)

line_on : {p q : ℕ} {xs ys : List ℕ} → Line p xs q ys → p ≤ q
line_on G.ended = omega arith
line_on G.feed = omega arith
line_on (G.byte e l) = omega (arith, line_on l)

pub gap-on : {p q : ℕ} {xs ys : List ℕ} → Gap p xs q ys → p ≤ q
gap-on G.none = omega arith
gap-on (G.blank b g) = omega (arith, gap-on g)
gap-on (G.remark l g) = omega (arith, gap-on g, line_on l)

pub word_on : {p q : ℕ} {xs ys : List ℕ} → Word p xs q ys → (p ≤ q) × (p + length xs ≡ q + length ys)
word_on G.none = (omega arith, refl)
word_on (G.more e l) = let w = word_on l in (omega (arith, w.0), omega (arith, w.1))

pub digits-on : {v p q n : ℕ} {xs ys : List ℕ} → Digits v p xs q ys n → (p ≤ q) × (p + length xs ≡ q + length ys)
digits-on G.none = (omega arith, refl)
digits-on (G.more e d) = let w = digits-on d in (omega (arith, w.0), omega (arith, w.1))

mutual
  pub term-long : {p q : ℕ} {xs ys : List ℕ} {ss : List Symbol} → Term p xs q ys ss → (p + 2 * length ss ≤ q + 1) × (p + length xs ≡ q + length ys)
  term-long (G.is_name e l) = let w = word_on l in (omega (arith, w.0), omega (arith, w.1))
  term-long (G.is-compound e l as' h) = let w = word_on l in let a = args-long as' in (omega (arith, w.0, a.0), omega (arith, w.1, a.1))
  term-long (G.is-variable e l) = let w = word_on l in (omega (arith, w.0), omega (arith, w.1))
  term-long (G.is_number e d h) = let w = digits-on d in (omega (arith, w.0), omega (arith, w.1))
  term-long (G.is_negative e d h z) = let w = digits-on d in (omega (arith, w.0), omega (arith, w.1))

  pub args-long : {c p q d : ℕ} {xs ys : List ℕ} {ss : List Symbol} → Args c p xs q ys d ss → (p + 2 * length ss ≤ q) × (p + length xs ≡ q + length ys)
  args-long (G.last g t h) =
      let a = term-long t in
      (omega (arith, gap-on g, a.0, gap-on h), omega (arith, gap-place g, a.1, gap-place h))
  args-long (G.more {symbols = ss} {others = ts} g t h as' e) =
      let a = term-long t in
      let b = args-long as' in
      let n = ap length e ∙ length-append ss ts in
      (omega (arith, gap-on g, a.0, gap-on h, b.0, n), omega (arith, gap-place g, a.1, gap-place h, b.1))

pub fact-long : {p q : ℕ} {xs ys : List ℕ} {f : Fact} → OneFact p xs q ys f → (p + 3 + 2 * length f.symbols ≤ q) × (p + length xs ≡ q + length ys)
fact-long (G.one e l as' g) =
    let w = word_on l in
    let a = args-long as' in
    (omega (arith, w.0, a.0, gap-on g), omega (arith, w.1, a.1, gap-place g))

pub facts-long : {p : ℕ} {xs : List ℕ} {fs : List Fact} → Facts p xs fs → 3 + 2 * length (symbols_of fs) ≤ length xs
unfolding flatten
facts-long (G.last {f = f} o g) = let a = fact-long o in omega (arith, a.0, a.1, gap-on g, gap-place g, length-append f.symbols [])
facts-long (G.more {f = f} {fs = fs} o g h r) =
    let a = fact-long o in
    omega (arith, a.0, a.1, gap-on g, gap-place g, facts-long r, length-append f.symbols (symbols_of fs))

-- TWO BYTES A SYMBOL
pub text-long : (t : List ℕ) {fs : List Fact} → Text t fs → 3 + 2 * length (symbols_of fs) ≤ length t
text-long t x = omega (arith, facts-long x.facts, gap-on x.layout, gap-place x.layout)

-- OTHER'S PLACE lies in the text: a fact starts where it is read
fact-start : {p q : ℕ} {xs ys : List ℕ} {f : Fact} → OneFact p xs q ys f → f.start ≡ p
fact-start (G.one e l as' g) = refl

other-within : {p : ℕ} {xs : List ℕ} {fs : List Fact} (t : List ℕ) (g : Fact) (k : ℕ) → Facts p xs fs → other_than t g fs ≡ found k
    → k ≤ p + length xs
unfolding other_than
other-within {p} {xs} t g k (G.last {f = f} o h) e = go (alike t f g) e
  where
    go : (b : Bool) → cond b none (found f.start) ≡ found k → k ≤ p + length xs
    go true q = absurd (let z : ◌≡◌ {A = ℕ} 0 1 = cc in omega arith)
    go false q = let z : f.start ≡ k = cc in omega (arith, fact-start o)
other-within {p} {xs} t g k (G.more {r = r} {zs = zs} {f = f} {fs = fs} o h l fs') e = go (alike t f g) (other-within t g k fs') e
  where
    go : (b : Bool) → (other_than t g fs ≡ found k → k ≤ r + length zs) → cond b (other_than t g fs) (found f.start) ≡ found k
        → k ≤ p + length xs
    go true later q = omega (arith, later q, (fact-long o).1, gap-place h)
    go false later q = let z : f.start ≡ k = cc in omega (arith, fact-start o)

pub other_place : (t : List ℕ) {fs : List Fact} {k : ℕ} → Text t fs → other_in t fs ≡ found k → k ≤ length t
unfolding other_in other_than
other_place t {fs} {k} x e = by fs x.facts e
  where
    by : (gs : List Fact) → Facts x.at x.rest gs → other_in t gs ≡ found k → k ≤ length t
    by [] f q = absurd (let z : ◌≡◌ {A = ℕ} 0 1 = cc in omega arith)
    by (g ∷ gs) (G.last o h) q = absurd (let z : ◌≡◌ {A = ℕ} 0 1 = cc in omega arith)
    by (g ∷ gs) (G.more o h l r) q =
        omega (arith, other-within t g k r q, (fact-long o).1, gap-place h, gap-place x.layout)

-- AT MOST ONE NAME A SYMBOL
met-few : (t : List ℕ) (ns : List Place) (w : Place) → length (meet t ns w) ≤ suc (length ns)
unfolding meet
met-few t ns w = go (ltb (position t (bytes_at t w) ns) (length ns))
  where
    go : (b : Bool) → length (cond b ns (ns ++ (w ∷ []))) ≤ suc (length ns)
    go true = omega arith
    go false = omega (arith, length-append ns (w ∷ []))

pub names-few : (t : List ℕ) (ns : List Place) (ss : List Symbol) → length (names_from t ns ss) ≤ length ns + length ss
unfolding names_from
names-few t ns [] = omega arith
names-few t ns (G.name s e a ∷ ss) = omega (arith, names-few t (meet t ns (place s e)) ss, met-few t ns (place s e))
names-few t ns (G.variable s e ∷ ss) = omega (arith, names-few t ns ss)
names-few t ns (G.number v ∷ ss) = omega (arith, names-few t ns ss)
