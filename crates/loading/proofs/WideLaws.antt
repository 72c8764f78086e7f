-- A fact has no more arguments than symbols, and a text no more facts.
use Prim.Native.Nat.{ℕ, suc, ◌+◌, ◌≤◌}
use mathlib.Core.Path.{ap, ◌∙◌}
use mathlib.Core.List.{List, [], flatten}
use native.Mathlib.Omega.{arith}
use lib.ListN.{length, length-append}
use Rattle.grammar.specs.Grammar as G
use Rattle.grammar.specs.Grammar.{Symbol, Term, Args, Fact, OneFact, Facts, Text}
use Rattle.grammar.specs.Meaning.{symbols_of, width_of}

term-some : {p q : ℕ} {xs ys : List ℕ} {ss : List Symbol} → Term p xs q ys ss → 1 ≤ length ss
term-some (G.is_name e w) = omega arith
term-some (G.is-compound e w a h) = omega arith
term-some (G.is-variable e w) = omega arith
term-some (G.is_number e d h) = omega arith
term-some (G.is_negative e d h z) = omega arith

args-wide : {c p q d : ℕ} {xs ys : List ℕ} {ss : List Symbol} → Args c p xs q ys d ss → suc d ≤ c + length ss
args-wide (G.last g t h) = omega (arith, term-some t)
args-wide (G.more {symbols = ss} {others = ts} g t h a e) = omega (arith, term-some t, args-wide a, ap length e ∙ length-append ss ts)

fact-wide : {p q : ℕ} {xs ys : List ℕ} {f : Fact} → OneFact p xs q ys f → f.width ≤ length f.symbols
fact-wide (G.one e w a g) = omega (arith, args-wide a)

facts-some : {p q : ℕ} {xs ys : List ℕ} {f : Fact} → OneFact p xs q ys f → 1 ≤ length f.symbols
facts-some (G.one e w a g) = omega (arith, args-wide a)

facts-wide : {p : ℕ} {xs : List ℕ} {fs : List Fact} → Facts p xs fs → (width_of fs ≤ length (symbols_of fs)) × (length fs ≤ length (symbols_of fs))
unfolding width_of flatten
facts-wide (G.last {f = f} o g) =
    let n = length-append f.symbols [] in
    (omega (arith, fact-wide o, n), omega (arith, facts-some o, n))
facts-wide (G.more {f = f} {fs = fs} o g h r) =
    let n = length-append f.symbols (symbols_of fs) in
    (omega (arith, fact-wide o, n), omega (arith, facts-some o, n, (facts-wide r).1))

pub text-wide : (t : List ℕ) {fs : List Fact} → Text t fs → (width_of fs ≤ length (symbols_of fs)) × (length fs ≤ length (symbols_of fs))
text-wide t x = facts-wide x.facts
