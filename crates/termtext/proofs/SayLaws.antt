-- The text of an answer, term by term: how it is read by the grammar, and that its symbols spell the cells.
use Prim.Native.Nat.{ℕ, zero, suc, ◌+◌, ◌-◌, ◌^◌, ◌≤◌, ◌<◌}
use mathlib.Core.Path.{◌≡◌, refl, sym, ap, subst, ◌∙◌}
use mathlib.Core.List.{List, [], ◌∷◌, ◌++◌, append-nil, append_assoc}
use native.Mathlib.Nat.{zero-add}
use native.Mathlib.Omega.{arith}
use lib.ListN.{length, get_or, take, length-append}
use lib.Seq.{slice, take_at, drop_at}
use borrow.Author.Tests.{lt-leb}
use Rattle.cell.specs.Cell.{variable_cell, name_cell, number_cell, Values, values_at, arity}
use Rattle.cell.specs.Signed.{signed_of}
use Rattle.cell.proofs.CellLaws.{built-variable, built-name, built-number}
use Rattle.term.specs.Terms as terms
use Rattle.term.specs.Terms.{Terms}
use Rattle.term.proofs.Lists.{slice-take}
use Rattle.printing.specs.Printing.{signed_decimal}
use Rattle.grammar.specs.Grammar as G
use Rattle.grammar.specs.Grammar.{Symbol, name, variable, number, Gap, Term, Args}
use Rattle.grammar.specs.Numbering.{Words, Nth, here, later}
use Rattle.termtext.specs.Saying.{variable_word, symbol_word, closing, owing, terms_text}
use Rattle.termtext.proofs.SpellLaws.{going-word, Lower, lower, variable-term}
use Rattle.termtext.proofs.ValueLaws.{number-term}

-- TREES. One term's cells, and those of k terms
mutual
  data Tree : List ℕ → Type 0 where
    node : {a c : ℕ} {xs : List ℕ} → a ≡ arity c → Trees a xs → Tree (c ∷ xs)

  data Trees : ℕ → List ℕ → Type 0 where
    none : Trees 0 []
    more : {k : ℕ} {ys zs all : List ℕ} → Tree ys → Trees k zs → all ≡ ys ++ zs → Trees (suc k) all

-- the first terms of some, and what is left
record Parted (a k : ℕ) (xs : List ℕ) : Type 0 where
  front : List ℕ
  back : List ℕ
  both : xs ≡ front ++ back
  trees : Trees a front
  left : Terms k back

first-term : {a k c : ℕ} {xs : List ℕ} (p : Parted (arity c) (a + k) xs) → Parted a k p.back → Parted (suc a) k (c ∷ xs)
first-term {c = c} p q =
    record {
      front = (c ∷ p.front) ++ q.front;
      back = q.back;
      both = ap (λ (l : List ℕ). c ∷ l)
          (p.both ∙ ap (λ (l : List ℕ). p.front ++ l) q.both ∙ sym (append_assoc p.front q.front q.back));
      trees = more (node refl p.trees) q.trees refl;
      left = q.left;
    }

no-terms : (k : ℕ) (xs : List ℕ) → Terms (0 + k) xs → Parted 0 k xs
no-terms k xs t = record { front = []; back = xs; both = refl; trees = none; left = rw zero-add at t }

part : (n a k : ℕ) (xs : List ℕ) → length xs ≤ n → Terms (a + k) xs → Parted a k xs
part zero zero k xs h t = no-terms k xs t
part zero (suc a) k xs h t = absurd (let e : suc a + k ≡ suc (a + k) = omega arith in no xs h (rw e at t))
  where
    no : (xs : List ℕ) → length xs ≤ 0 → Terms (suc (a + k)) xs → ⊥
    no (c ∷ xs) h t = omega arith
    no [] h t = elim t [ ]
part (suc n) zero k xs h t = no-terms k xs t
part (suc n) (suc a) k xs h t = let e : suc a + k ≡ suc (a + k) = omega arith in by xs h (rw e at t) (λ a k xs h t. part n a k xs h t)
  where
    by : (xs : List ℕ) → length xs ≤ suc n → Terms (suc (a + k)) xs
        → ((a k : ℕ) (xs : List ℕ) → length xs ≤ n → Terms (a + k) xs → Parted a k xs) → Parted (suc a) k xs
    by (c ∷ xs) h (terms.more t) f =
        let p = f (arity c) (a + k) xs (omega arith) t in
        let l = ap length p.both ∙ length-append p.front p.back in
        first-term p (f a k p.back (omega arith) p.left)
    by [] h x5 f = elim x5 [ ]

all-trees : {k : ℕ} {xs : List ℕ} → Terms k xs → Trees k xs
all-trees {k} {xs} t =
    let e : k ≡ k + 0 = omega arith in
    let p = part (length xs) k 0 xs (omega arith) (subst (λ (n : ℕ). Terms n xs) e t) in
    subst (Trees k) (sym (p.both ∙ ap (λ (l : List ℕ). p.front ++ l) (empty p.left) ∙ append-nil p.front)) p.trees
  where
    empty : {xs : List ℕ} → Terms 0 xs → xs ≡ []
    empty terms.none = refl

-- SPELLING. The symbols of a text stand for these cells
pub data Spells (t : List ℕ) (words : Words) : List Symbol → List ℕ → Type 0 where
  none : Spells t words [] []
  a-name : {s e a k : ℕ} {ss : List Symbol} {cs : List ℕ} → a ≤ 4 → k < 2 ^ 16 → Nth words k (slice s e t) → Spells t words ss cs
      → Spells t words (name s e a ∷ ss) (name_cell a k ∷ cs)
  a-variable : {s e n : ℕ} {ss : List Symbol} {cs : List ℕ} → n < 2 ^ 16 → slice s e t ≡ variable_word n → Spells t words ss cs
      → Spells t words (variable s e ∷ ss) (variable_cell n ∷ cs)
  a-number : {v : ℕ} {ss : List Symbol} {cs : List ℕ} → v < 2 ^ 16 → Spells t words ss cs
      → Spells t words (number v ∷ ss) (number_cell v ∷ cs)

pub spells-both : {t : List ℕ} {words : Words} {ss us : List Symbol} {cs ds : List ℕ} → Spells t words ss cs → Spells t words us ds
    → Spells t words (ss ++ us) (cs ++ ds)
spells-both none z = z
spells-both (a-name l m h x) z = a-name l m h (spells-both x z)
spells-both (a-variable l h x) z = a-variable l h (spells-both x z)
spells-both (a-number l x) z = a-number l (spells-both x z)

-- a word is found where it stands
pub slice-word : (pre w post : List ℕ) → slice (length pre) (length pre + length w) (pre ++ (w ++ post)) ≡ w
slice-word pre w post =
    slice-take (length pre) (length w) (pre ++ (w ++ post))
    ∙ ap (take (length w)) (drop_at pre (w ++ post) (length pre) refl)
    ∙ take_at w post (length w) refl

-- a cell that an answer may have: a variable, a name of the list, a number
pub data Good (words : Words) : ℕ → Type 0 where
  good-variable : {n : ℕ} → n < 2 ^ 16 → Good words (variable_cell n)
  good-name : {a k : ℕ} {w : List ℕ} → a ≤ 4 → k < 2 ^ 16 → Nth words k w → Lower w → Good words (name_cell a k)
  good-number : {n : ℕ} → n < 2 ^ 16 → Good words (number_cell n)

abbrev pub Goods : Words → List ℕ → Type 0
Goods words [] = Unit {0}
Goods words (c ∷ xs) = Good words c × Goods words xs

goods-left : (words : Words) (xs ys : List ℕ) → Goods words (xs ++ ys) → Goods words xs
goods-left words [] ys g = tt
goods-left words (x ∷ xs) ys g = (g.0, goods-left words xs ys g.1)

goods-right : (words : Words) (xs ys : List ℕ) → Goods words (xs ++ ys) → Goods words ys
goods-right words [] ys g = g
goods-right words (x ∷ xs) ys g = goods-right words xs ys g.1

-- WHAT IS SAID FOR ONE TERM: its bytes, its symbols where it begins at a place
record TermSaid (words : Words) (xs : List ℕ) : Type 0 where
  bytes : List ℕ
  symbols : ℕ → List Symbol
  flat : (owed rest : List ℕ) → terms_text words owed (xs ++ rest) ≡ bytes ++ (closing owed ++ terms_text words (owing owed) rest)
  reads : (p : ℕ) (ys : List ℕ) → Term p (bytes ++ ys) (p + length bytes) ys (symbols p)
  spells : (pre post : List ℕ) → Spells (pre ++ (bytes ++ post)) words (symbols (length pre)) xs

-- and for suc k arguments with the bracket after them
pub record ArgsSaid (words : Words) (k : ℕ) (xs : List ℕ) : Type 0 where
  pub bytes : List ℕ
  pub symbols : ℕ → List Symbol
  pub flat : (owed rest : List ℕ)
      → terms_text words (suc k ∷ owed) (xs ++ rest) ≡ bytes ++ (closing owed ++ terms_text words (owing owed) rest)
  pub reads : {p₀ : ℕ} {zs : List ℕ} (argument p : ℕ) (ys : List ℕ) → Gap p₀ zs p (bytes ++ ys)
      → Args argument p₀ zs (p + length bytes) ys (argument + k) (symbols p)
  pub spells : (pre post : List ℕ) → Spells (pre ++ (bytes ++ post)) words (symbols (length pre)) xs

abbrev SomeSaid : Words → ℕ → List ℕ → Type 0
SomeSaid words zero xs = xs ≡ []
SomeSaid words (suc k) xs = ArgsSaid words k xs

-- a symbol alone
leaf-flat : (words : Words) (c : ℕ) (w : List ℕ) → arity c ≡ 0 → symbol_word words (values_at c) ≡ w → (owed rest : List ℕ)
    → terms_text words owed (c ∷ rest) ≡ w ++ (closing owed ++ terms_text words (owing owed) rest)
unfolding terms_text
leaf-flat words c w a e owed rest = rw (a, e)

-- a symbol before its arguments
open-flat : (words : Words) (c a : ℕ) (w : List ℕ) → arity c ≡ suc a → symbol_word words (values_at c) ≡ w → (owed rest : List ℕ)
    → terms_text words owed (c ∷ rest) ≡ w ++ (40 ∷ terms_text words (suc a ∷ owed) rest)
unfolding terms_text
open-flat words c a w e f owed rest = rw (e, f)

module _ (words : Words) where
  variable-word : (n : ℕ) → n < 2 ^ 16 → (arity (variable_cell n) ≡ 0) × (symbol_word words (values_at (variable_cell n)) ≡ variable_word n)
  unfolding arity symbol_word
  variable-word n h = let e = built-variable n h in (ap (λ (v : Values). v.args) e, ap (symbol_word words) e)

  number_word : (n : ℕ) → n < 2 ^ 16
      → (arity (number_cell n) ≡ 0) × (symbol_word words (values_at (number_cell n)) ≡ signed_decimal (signed_of n))
  unfolding arity symbol_word
  number_word n h = let e = built-number n h in (ap (λ (v : Values). v.args) e, ap (symbol_word words) e)

  nth-get : {ws : Words} {k : ℕ} {w : List ℕ} → Nth ws k w → get_or ws k [] ≡ w
  nth-get here = refl
  nth-get (later h) = nth-get h

  name-word : (a k : ℕ) {w : List ℕ} → a ≤ 4 → k < 2 ^ 16 → Nth words k w
      → (arity (name_cell a k) ≡ a) × (symbol_word words (values_at (name_cell a k)) ≡ w)
  unfolding arity symbol_word
  name-word a k h l n = let e = built-name a k h l in (ap (λ (v : Values). v.args) e, ap (symbol_word words) e ∙ nth-get n)

  -- one symbol that is a term
  leaf : (c : ℕ) (w : List ℕ) (ss : ℕ → List Symbol) → arity c ≡ 0 → symbol_word words (values_at c) ≡ w
      → ((p : ℕ) (ys : List ℕ) → Term p (w ++ ys) (p + length w) ys (ss p))
      → ((pre post : List ℕ) → Spells (pre ++ (w ++ post)) words (ss (length pre)) (c ∷ [])) → TermSaid words (c ∷ [])
  leaf c w ss a e r z = record { bytes = w; symbols = ss; flat = leaf-flat words c w a e; reads = r; spells = z }

  variable-said : (n : ℕ) → n < 2 ^ 16 → TermSaid words (variable_cell n ∷ [])
  variable-said n h =
      let w = variable_word n in
      let e = variable-word n h in
      leaf (variable_cell n) w (λ p. variable p (p + length w) ∷ []) e.0 e.1 (variable-term n)
      (λ pre post. a-variable h (slice-word pre w post) none)

  number-said : (n : ℕ) → n < 2 ^ 16 → TermSaid words (number_cell n ∷ [])
  number-said n h =
      let e = number_word n h in
      leaf (number_cell n) (signed_decimal (signed_of n)) (λ p. number n ∷ []) e.0 e.1 (λ p ys. number-term n p ys h)
      (λ pre post. a-number h none)

  name-said : (k : ℕ) {w : List ℕ} → k < 2 ^ 16 → Nth words k w → Lower w → TermSaid words (name_cell 0 k ∷ [])
  name-said k l n (lower {b = b} {rest = rest} e g) =
      let w = b ∷ rest in
      let f = name-word 0 k (omega arith) l n in
      leaf (name_cell 0 k) w (λ p. name p (p + length w) 0 ∷ []) f.0 f.1
      (λ p ys. (let q : p + suc (length rest) ≡ suc p + length rest = omega arith in rw q (G.is_name e (going-word rest g (suc p) ys))))
      (λ pre post. a-name (omega arith) l (subst (Nth words k) (sym (slice-word pre w post)) n) none)

  no_arguments : {a c : ℕ} {xs : List ℕ} → a ≡ 0 → SomeSaid words a xs → TermSaid words (c ∷ []) → TermSaid words (c ∷ xs)
  no_arguments {c = c} {xs} e s t =
      subst (λ (l : List ℕ). TermSaid words (c ∷ l)) (sym (subst (λ (m : ℕ). SomeSaid words m xs) e s)) t

  -- a name with its arguments
  compound-said : (a k : ℕ) {w xs : List ℕ} → suc a ≤ 4 → k < 2 ^ 16 → Nth words k w → Lower w → ArgsSaid words a xs
      → TermSaid words (name_cell (suc a) k ∷ xs)
  compound-said a k {xs = xs} h l n (lower {b = b} {rest = rest} e g) A =
      let w = b ∷ rest in
      let f = name-word (suc a) k h l n in
      record {
        bytes = w ++ (40 ∷ A.bytes);
        symbols = λ p. name p (p + length w) (suc a) ∷ A.symbols (suc (p + length w));
        flat = λ owed more.
            open-flat words (name_cell (suc a) k) a w f.0 f.1 owed (xs ++ more)
            ∙ ap (λ (t : List ℕ). w ++ (40 ∷ t)) (A.flat owed more)
            ∙ sym (append_assoc w (40 ∷ A.bytes) (closing owed ++ terms_text words (owing owed) more));
        reads = λ p ys.
            let q : p + length w ≡ suc p + length rest = omega arith in
            let r : p + length (w ++ (40 ∷ A.bytes)) ≡ suc (suc p + length rest) + length A.bytes
            = omega (arith, length-append w (40 ∷ A.bytes)) in
            let z : ◌≡◌ {A = ℕ} (0 + a) a = omega arith in
            rw (q, r, append_assoc w (40 ∷ A.bytes) ys)
            (G.is-compound e (going-word rest g (suc p) (40 ∷ (A.bytes ++ ys)))
            (subst (λ (m : ℕ). Args 0 (suc (suc p + length rest)) (A.bytes ++ ys) (suc (suc p + length rest) + length A.bytes) ys m
            (A.symbols (suc (suc p + length rest)))) z (A.reads 0 (suc (suc p + length rest)) ys G.none)) (omega arith));
        spells = λ pre post.
            let u = pre ++ (w ++ (40 ∷ [])) in
            let t = pre ++ ((w ++ (40 ∷ A.bytes)) ++ post) in
            let m : length u ≡ suc (length pre + length w) = omega (arith, length-append pre (w ++ (40 ∷ [])), length-append w (40 ∷ [])) in
            let i : u ++ (A.bytes ++ post) ≡ t = simp append_assoc in
            let j : pre ++ (w ++ ((40 ∷ A.bytes) ++ post)) ≡ t = simp append_assoc in
            a-name h l (subst (λ (x : List ℕ). Nth words k (slice (length pre) (length pre + length w) x)) j
            (subst (Nth words k) (sym (slice-word pre w ((40 ∷ A.bytes) ++ post))) n))
            (subst (λ (x : ℕ). Spells t words (A.symbols x) xs) m
            (subst (λ (x : List ℕ). Spells x words (A.symbols (length u)) xs) i (A.spells u post)));
      }

  node-said : {a c : ℕ} {xs : List ℕ} → Good words c → a ≡ arity c → SomeSaid words a xs → TermSaid words (c ∷ xs)
  node-said (good-variable {n = n} h) e s = no_arguments (e ∙ (variable-word n h).0) s (variable-said n h)
  node-said (good-number {n = n} h) e s = no_arguments (e ∙ (number_word n h).0) s (number-said n h)
  node-said {xs = xs} (good-name {a = b} {k = k} h l n g) e s = by b h (e ∙ (name-word b k h l n).0) s
    where
      by : {a : ℕ} (b : ℕ) → b ≤ 4 → a ≡ b → SomeSaid words a xs → TermSaid words (name_cell b k ∷ xs)
      by zero h e s = no_arguments e s (name-said k l n g)
      by (suc b) h e s = compound-said b k h l n g (subst (λ (m : ℕ). SomeSaid words m xs) e s)

  -- arguments: the last one, and one before others
  last-said : {ys : List ℕ} → TermSaid words ys → ArgsSaid words 0 ys
  unfolding closing owing
  last-said T =
      record {
        bytes = T.bytes ++ (41 ∷ []);
        symbols = T.symbols;
        flat = λ owed more.
            T.flat (1 ∷ owed) more ∙ sym (append_assoc T.bytes (41 ∷ []) (closing owed ++ terms_text words (owing owed) more));
        reads = λ argument p ys g.
            let r : p + length (T.bytes ++ (41 ∷ [])) ≡ suc (p + length T.bytes) = omega (arith, length-append T.bytes (41 ∷ [])) in
            let z : argument + 0 ≡ argument = omega arith in
            rw (r, z) (G.last (rw (append_assoc T.bytes (41 ∷ []) ys) at g) (T.reads p (41 ∷ ys)) G.none);
        spells = λ pre post. rw (append_assoc T.bytes (41 ∷ []) post) (T.spells pre ((41 ∷ []) ++ post));
      }

  more-said : {k : ℕ} {ys zs : List ℕ} → TermSaid words ys → ArgsSaid words k zs → ArgsSaid words (suc k) (ys ++ zs)
  unfolding closing owing
  more-said {k} {ys} {zs} T A =
      let bs = T.bytes ++ (44 ∷ 32 ∷ A.bytes) in
      record {
        bytes = bs;
        symbols = λ p. T.symbols p ++ A.symbols (suc (suc (p + length T.bytes)));
        flat = λ owed more.
            let l = lt-leb (suc (suc k)) 1 (omega arith) in
            let d : suc (suc k) - 1 ≡ suc k = omega arith in
            let o : List ℕ = suc (suc k) ∷ owed in
            ap (terms_text words o) (append_assoc ys zs more)
            ∙ T.flat o (zs ++ more)
            ∙ rw (l, d, A.flat owed more)
            (sym (append_assoc T.bytes (44 ∷ 32 ∷ A.bytes) (closing owed ++ terms_text words (owing owed) more)));
        reads = λ argument p xs g.
            let n = length T.bytes in
            let r : p + length bs ≡ suc (suc (p + n)) + length A.bytes = omega (arith, length-append T.bytes (44 ∷ 32 ∷ A.bytes)) in
            let z : argument + suc k ≡ suc argument + k = omega arith in
            rw (r, z)
            (G.more (rw (append_assoc T.bytes (44 ∷ 32 ∷ A.bytes) xs) at g) (T.reads p (44 ∷ 32 ∷ (A.bytes ++ xs))) G.none
            (A.reads (suc argument) (suc (suc (p + n))) xs (G.blank G.space G.none)) refl);
        spells = λ pre post.
            let u = pre ++ (T.bytes ++ (44 ∷ 32 ∷ [])) in
            let t = pre ++ (bs ++ post) in
            let m : length u ≡ suc (suc (length pre + length T.bytes))
            = omega (arith, length-append pre (T.bytes ++ (44 ∷ 32 ∷ [])), length-append T.bytes (44 ∷ 32 ∷ [])) in
            let i : u ++ (A.bytes ++ post) ≡ t = simp append_assoc in
            let j : pre ++ (T.bytes ++ ((44 ∷ 32 ∷ A.bytes) ++ post)) ≡ t = simp append_assoc in
            spells-both
            (subst (λ (x : List ℕ). Spells x words (T.symbols (length pre)) ys) j (T.spells pre ((44 ∷ 32 ∷ A.bytes) ++ post)))
            (subst (λ (x : ℕ). Spells t words (A.symbols x) zs) m
            (subst (λ (x : List ℕ). Spells x words (A.symbols (length u)) zs) i (A.spells u post)));
      }

  args-step : (k : ℕ) {ys all : List ℕ} (zs : List ℕ) → TermSaid words ys → SomeSaid words k zs → all ≡ ys ++ zs → ArgsSaid words k all
  args-step zero {ys} zs T z e = subst (ArgsSaid words 0) (sym (e ∙ ap (λ (l : List ℕ). ys ++ l) z ∙ append-nil ys)) (last-said T)
  args-step (suc k) zs T A e = subst (ArgsSaid words (suc k)) (sym e) (more-said T A)

  mutual
    term-said : {xs : List ℕ} → Tree xs → Goods words xs → TermSaid words xs
    term-said (node e ts) g = node-said g.0 e (some-said ts g.1)

    some-said : {k : ℕ} {xs : List ℕ} → Trees k xs → Goods words xs → SomeSaid words k xs
    some-said none g = refl
    some-said (more {k = k} {ys = ys} {zs = zs} t ts e) g =
        let both = subst (Goods words) e g in
        args-step k zs (term-said t (goods-left words ys zs both)) (some-said ts (goods-right words ys zs both)) e

  -- THE TERMS OF AN ANSWER
  pub terms-said : {k : ℕ} {xs : List ℕ} → Terms (suc k) xs → Goods words xs → ArgsSaid words k xs
  terms-said t g = some-said (all-trees t) g
