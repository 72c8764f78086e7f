-- The names of a text stand in it one after another.
use Prim.Native.Nat.{ℕ, ◌+◌, ◌≤◌, ◌<◌}
use mathlib.Core.Path.{◌≡◌, sym, subst}
use mathlib.Core.List.{List, [], ◌∷◌, ◌++◌, flatten, Memᴰ}
use native.Mathlib.Omega.{arith}
use lib.ListN.{length}
use Rattle.grammar.specs.Grammar as G
use Rattle.grammar.specs.Grammar.{Symbol, name, variable, number, Term, Args, Fact, OneFact, Facts, Text}
use Rattle.grammar.specs.Meaning.{symbols_of}
use Rattle.grammar.proofs.LongLaws.{gap-place, gap-on, word_on, digits-on, fact-long}

-- from a place up to another
pub data Along : ℕ → List Symbol → ℕ → Type 0 where
  none : {p q : ℕ} → p ≤ q → Along p [] q
  a-name : {p q s e a : ℕ} {ss : List Symbol} → p ≤ s → s < e → Along e ss q → Along p (name s e a ∷ ss) q
  a-variable : {p q s e : ℕ} {ss : List Symbol} → Along p ss q → Along p (variable s e ∷ ss) q
  a-number : {p q v : ℕ} {ss : List Symbol} → Along p ss q → Along p (number v ∷ ss) q

wider : {o p q r : ℕ} {ss : List Symbol} → o ≤ p → q ≤ r → Along p ss q → Along o ss r
wider {o} {r = r} h k (none l) = none {p = o} {q = r} (omega arith)
wider {o} h k (a-name {s = s} {e = e} l m n) = a-name {p = o} {s = s} (omega arith) m (wider {o = e} (omega arith) k n)
wider h k (a-variable l) = a-variable (wider h k l)
wider h k (a-number l) = a-number (wider h k l)

both : {p q r : ℕ} {ss us : List Symbol} → Along p ss q → Along q us r → Along p (ss ++ us) r
both {r = r} (none l) k = wider {r = r} l (omega arith) k
both (a-name l m n) k = a-name l m (both n k)
both (a-variable l) k = a-variable (both l k)
both (a-number l) k = a-number (both l k)

along-on : {p q : ℕ} {ss : List Symbol} → Along p ss q → p ≤ q
along-on (none l) = l
along-on (a-name l m n) = omega (arith, along-on n)
along-on (a-variable l) = along-on l
along-on (a-number l) = along-on l

-- one of them
pub along-name : {p q s e a : ℕ} {ss : List Symbol} → Along p ss q → Memᴰ (name s e a) ss → (p ≤ s) × (s < e) × (e ≤ q)
along-name {s = s} {e} (a-name {s = s'} {e = e'} l m n) (Memᴰ.head x) =
    let y : s ≡ s' = cc in
    let z : e ≡ e' = cc in
    let k = along-on n in
    omega arith
along-name (a-name l m n) (Memᴰ.tail x) = omega (arith, along-name n x)
along-name (a-variable l) (Memᴰ.head x) = absurd (let z : ◌≡◌ {A = ℕ} 0 1 = cc in omega arith)
along-name (a-variable l) (Memᴰ.tail m) = along-name l m
along-name (a-number l) (Memᴰ.head x) = absurd (let z : ◌≡◌ {A = ℕ} 0 1 = cc in omega arith)
along-name (a-number l) (Memᴰ.tail m) = along-name l m
along-name {s = s} {e = e} {a = a} (none {p = p} {q = q} _) x6 = elim x6 [ ]

-- a name, and what stands after it
after : {s e q a r : ℕ} {ss : List Symbol} → s < e → e ≤ r → Along r ss q → Along s (name s e a ∷ ss) q
after {s} {e} {q} l h k = a-name {p = s} {s = s} (omega arith) l (wider {o = e} {r = q} h (omega arith) k)

mutual
  term-along : {p q : ℕ} {xs ys : List ℕ} {ss : List Symbol} → Term p xs q ys ss → Along p ss q
  term-along {p} {q} (G.is_name e w) = after {s = p} {e = q} {r = q} (word_on w).0 (omega arith) (none {p = q} {q = q} (omega arith))
  term-along (G.is-compound {start = p} {bracket = b} e w a h) = after {s = p} {e = b} (word_on w).0 (omega arith) (args-along a)
  term-along {p} {q} (G.is-variable e w) = a-variable (none {p = p} {q = q} (omega (arith, (word_on w).0)))
  term-along {p} {q} (G.is_number e d h) = a-number (none {p = p} {q = q} (omega (arith, (digits-on d).0)))
  term-along {p} {q} (G.is_negative e d h z) = a-number (none {p = p} {q = q} (omega (arith, (digits-on d).0)))

  args-along : {c p q d : ℕ} {xs ys : List ℕ} {ss : List Symbol} → Args c p xs q ys d ss → Along p ss q
  args-along {q = q} (G.last g t h) = wider {r = q} (gap-on g) (omega (arith, gap-on h)) (term-along t)
  args-along {p = p} {q = q} (G.more {comma = c} g t h a e) =
      subst (λ (zs : List Symbol). Along p zs q) (sym e)
      (both (wider (gap-on g) (gap-on h) (term-along t)) (wider {o = c} {r = q} (omega arith) (omega arith) (args-along a)))

fact-along : {p q : ℕ} {xs ys : List ℕ} {f : Fact} → OneFact p xs q ys f → Along p f.symbols q
fact-along {p} {q} (G.one e w a g) = wider {o = p} {r = q} (omega (arith, (word_on w).0)) (omega (arith, gap-on g)) (args-along a)

facts-along : {p : ℕ} {xs : List ℕ} {fs : List Fact} → Facts p xs fs → Along p (symbols_of fs) (p + length xs)
unfolding flatten
facts-along {p} {xs} (G.last {q = q} o g) = both (fact-along o) (none {p = q} {q = p + length xs} (omega (arith, (fact-long o).1)))
facts-along {p} {xs} (G.more o g h r) =
    both (fact-along o) (wider {r = p + length xs} (gap-on g) (omega (arith, (fact-long o).1, gap-place g)) (facts-along r))

-- ALL OF THEM
pub text-along : {t : List ℕ} {fs : List Fact} → Text t fs → Along 0 (symbols_of fs) (length t)
text-along {t} x = wider {o = 0} {r = length t} (omega arith) (omega (arith, gap-place x.layout)) (facts-along x.facts)
