-- Two answers of the scan that the promise allows are equal, for every text; and so are the facts that are counted.
use mathlib.Core.Path.{◌≡◌, sym, ap, ◌∙◌}
use mathlib.Core.List.{List}
use Prim.Native.Nat.{ℕ}
use native.Mathlib.Omega.{arith}
use Rattle.refusal.specs.Refusal.{told}
use Rattle.refusal.specs.Read.{read}
use Rattle.refusal.proofs.RefusalLaws.{told-one}
use lib.ListN.{length}
use Rattle.grammar.specs.Grammar.{Fact}
use Rattle.grammar.specs.Meaning.{width_of, symbols_of}
use Rattle.grammar.proofs.Fixed.{taken-fixed}
use Rattle.scan.specs.declared.Counted.{Counted}
use Rattle.std.specs.Prelude.{Result, Ok, Err}
use Rattle.refusal.specs.declared.Refusal.{Refusal}
use Rattle.scan.specs.Scan.{counted_as, counted_in, scan_told, ScanIs, Counts}

told-apart : (a b : Result Counted Refusal) → scan_told a ≡ scan_told b → a ≡ b
told-apart (Ok c) (Ok d) e = ap Ok cc
told-apart (Ok c) (Err g) e = absurd (let z : ◌≡◌ {A = ℕ} 0 1 = cc in omega arith)
told-apart (Err f) (Ok d) e = absurd (let z : ◌≡◌ {A = ℕ} 0 1 = cc in omega arith)
told-apart (Err f) (Err g) e = ap Err (told-one (let q : told f ≡ told g = cc in q))

pub scan-fixed : (t : List ℕ) {a b : Result Counted Refusal} → ScanIs t a → ScanIs t b → a ≡ b
scan-fixed t {a} {b} x y = told-apart a b (x.answer ∙ ap counted_in (taken-fixed t x.rule y.rule) ∙ sym y.answer)

reads-one : {fs gs : List Fact} → read fs ≡ read gs → fs ≡ gs
reads-one e = cc

counted-alike : {c d : Counted} → c.facts ≡ d.facts → c.width ≡ d.width → c.symbols ≡ d.symbols → c ≡ d
counted-alike {c} {d} a b e =
    ap (λ (n : ℕ). counted_as n c.width c.symbols) a ∙ ap (λ (n : ℕ). counted_as d.facts n c.symbols) b
    ∙ ap (counted_as d.facts d.width) e

pub counts-fixed : (t : List ℕ) {c d : Counted} (C : Counts t c) (D : Counts t d) → (C.facts ≡ D.facts) × (c ≡ d)
counts-fixed t C D =
    let e = reads-one (taken-fixed t C.taken D.taken) in (
      e,
      counted-alike (sym C.number ∙ ap length e ∙ D.number) (sym C.width ∙ ap width_of e ∙ D.width)
          (sym C.symbols ∙ ap (λ (fs : List Fact). length (symbols_of fs)) e ∙ D.symbols),
    )
