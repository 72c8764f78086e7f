-- 02, W-201: "A text has at least one fact, a fact at least one argument, a name inside at most 4".
use Prim.Native.Nat.{ℕ, ◌≤◌}
use mathlib.Core.Path.{◌≡◌, sym, ap, subst}
use mathlib.Core.List.Memᴰ
use mathlib.Core.List.{List, [], ◌∷◌, ◌++◌, flatten, Memᴰ}
use mathlib.Core.Logic.{⊎_elim}
use native.Mathlib.Omega.{arith}
use lib.ListN.{length}
use Rattle.grammar.specs.Grammar as G
use Rattle.grammar.specs.Grammar.{Symbol, name, Term, Args, Fact, OneFact, Facts, Text}
use Rattle.grammar.specs.Meaning.{symbols_of}

facts-some : {p : ℕ} {xs : List ℕ} {fs : List Fact} → Facts p xs fs → 1 ≤ length fs
facts-some (G.last o g) = omega arith
facts-some (G.more o g h r) = omega arith

pub text-some : {t : List ℕ} {fs : List Fact} → Text t fs → 1 ≤ length fs
text-some x = facts-some x.facts

-- ARGUMENTS OF A FACT
fact-wide : {p q : ℕ} {xs ys : List ℕ} {f : Fact} → OneFact p xs q ys f → 1 ≤ f.width
fact-wide (G.one e w a g) = omega arith

of_one : {f h : Fact} → 1 ≤ h.width → f ≡ h → 1 ≤ f.width
of_one l e = omega (arith, ap (λ (x : Fact). x.width) e)

facts-wide : {p : ℕ} {xs : List ℕ} {f : Fact} {fs : List Fact} → Facts p xs fs → Memᴰ f fs → 1 ≤ f.width
facts-wide (G.last o g) (Memᴰ.head e) = of_one (fact-wide o) e
facts-wide (G.more o g h r) (Memᴰ.head e) = of_one (fact-wide o) e
facts-wide (G.more o g h r) (Memᴰ.tail m) = facts-wide r m
facts-wide (Rattle.grammar.specs.Grammar.last {p = p} {q = q} {r = r} {xs = xs} {ys = ys} {f = f} o g) (Memᴰ.tail m) = elim m [ ]

pub text-wide : {t : List ℕ} {f : Fact} {fs : List Fact} → Text t fs → Memᴰ f fs → 1 ≤ f.width
text-wide x = facts-wide x.facts

-- ARGUMENTS OF A NAME
record Few (ss : List Symbol) : Type 0 where
  each : {s e a : ℕ} → Memᴰ (name s e a) ss → a ≤ 4

few-none : Few []
few-none = record { each = λ m. elim m [ ] }

few-more : {x : Symbol} {ss : List Symbol} → ((s e a : ℕ) → name s e a ≡ x → a ≤ 4) → Few ss → Few (x ∷ ss)
few-more {x} {ss} h f = record { each = by }
  where
    by : {s e a : ℕ} → Memᴰ (name s e a) (x ∷ ss) → a ≤ 4
    by {s} {e} {a} (Memᴰ.head q) = h s e a q
    by (Memᴰ.tail m) = f.each m

few-both : {ss us : List Symbol} → Few ss → Few us → Few (ss ++ us)
few-both {ss} f g = record { each = λ m. ⊎_elim f.each g.each (Memᴰ.append_cases ss m) }

no_name : {x : Symbol} → ((s e a : ℕ) → name s e a ≡ x → a ≤ 4) → Few (x ∷ [])
no_name h = few-more h few-none

named-few : {s e b : ℕ} {ss : List Symbol} → b ≤ 4 → Few ss → Few (name s e b ∷ ss)
named-few {b = b} h f = few-more (λ s e a q. let z : a ≡ b = cc in omega arith) f

mutual
  term_few : {p q : ℕ} {xs ys : List ℕ} {ss : List Symbol} → Term p xs q ys ss → Few ss
  term_few (G.is_name e w) = named-few (omega arith) few-none
  term_few (G.is-compound e w a h) = named-few (omega arith) (args-few a)
  term_few (G.is-variable e w) = no_name (λ s e a q. absurd (let z : ◌≡◌ {A = ℕ} 0 1 = cc in omega arith))
  term_few (G.is_number e d h) = no_name (λ s e a q. absurd (let z : ◌≡◌ {A = ℕ} 0 1 = cc in omega arith))
  term_few (G.is_negative e d h z) = no_name (λ s e a q. absurd (let z : ◌≡◌ {A = ℕ} 0 1 = cc in omega arith))

  args-few : {c p q d : ℕ} {xs ys : List ℕ} {ss : List Symbol} → Args c p xs q ys d ss → Few ss
  args-few (G.last g t h) = term_few t
  args-few (G.more g t h a e) = subst Few (sym e) (few-both (term_few t) (args-few a))

fact-few : {p q : ℕ} {xs ys : List ℕ} {f : Fact} → OneFact p xs q ys f → Few f.symbols
fact-few (G.one e w a g) = args-few a

facts-few : {p : ℕ} {xs : List ℕ} {fs : List Fact} → Facts p xs fs → Few (symbols_of fs)
unfolding flatten
facts-few (G.last o g) = few-both (fact-few o) few-none
facts-few (G.more o g h r) = few-both (fact-few o) (facts-few r)

pub text-few : {t : List ℕ} {fs : List Fact} {s e a : ℕ} → Text t fs → Memᴰ (name s e a) (symbols_of fs) → a ≤ 4
text-few x m = (facts-few x.facts).each m
