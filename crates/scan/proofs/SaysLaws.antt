-- What an answer of the scan says of a text, case by case.
use Prim.Native.Nat.{ℕ, ◌≤◌}
use mathlib.Core.Path.{◌≡◌, sym, ap, subst}
use mathlib.Core.List.{List}
use native.Mathlib.Omega.{arith}
use lib.ListN.{length}
use Rattle.refusal.specs.Refusal.{Refused, told}
use Rattle.refusal.specs.Read.{Read, read, refuse}
use Rattle.refusal.specs.declared.Refusal.{Refusal}
use Rattle.grammar.specs.Grammar.{Fact}
use Rattle.grammar.specs.Reader.{reads, text_of}
use Rattle.grammar.specs.Meaning.{width_of, symbols_of}
use Rattle.grammar.specs.Taken.{Taken, taken}
use Rattle.grammar.proofs.Accepted.{accepted}
use Rattle.grammar.proofs.LongLaws.{text-long}
use Rattle.scan.specs.Scan.{counted_as, counted_in, ScanIs, Counts}
use Rattle.scan.specs.declared.Counted.{Counted}
use Rattle.std.specs.Prelude.{Result, Ok, Err}
use Rattle.limits.specs.Limits.{most_text_bytes}

pub scan-is : (t : List ℕ) {r x : Result Counted Refusal} → ScanIs t r → r ≡ x → ScanIs t x
scan-is t c e = subst (ScanIs t) e c

pub scan-facts : (t : List ℕ) (c : Counted) → ScanIs t (Ok c) → Counts t c
scan-facts t c s = by s.says s.rule s.answer
  where
    by : (o : Read (List Fact)) → Taken t o → read c ≡ counted_in o → Counts t c
    by (read fs) x e =
        let q : c ≡ counted_as (length fs) (width_of fs) (length (symbols_of fs)) = cc in
        record {
          facts = fs;
          taken = x;
          number = sym (ap (λ (d : Counted). d.facts) q);
          width = sym (ap (λ (d : Counted). d.width) q);
          symbols = sym (ap (λ (d : Counted). d.symbols) q);
        }
    by (refuse f) x e = absurd (let z : ◌≡◌ {A = ℕ} 0 1 = cc in omega arith)

pub scan-turned : (t : List ℕ) (f : Refusal) → ScanIs t (Err f) → Taken t (refuse (told f))
scan-turned t f s = by s.says s.rule s.answer
  where
    by : (o : Read (List Fact)) → Taken t o → refuse (told f) ≡ counted_in o → Taken t (refuse (told f))
    by (read fs) x e = absurd (let z : ◌≡◌ {A = ℕ} 0 1 = cc in omega arith)
    by (refuse g) x e = let q : told f ≡ g = cc in subst (λ (y : Refused). Taken t (refuse y)) (sym q) x

-- the text of facts that are counted: how long it is, what it is read as; and two bytes for each symbol
pub counts-read : {t : List ℕ} {c : Counted} (C : Counts t c) → (length t ≤ most_text_bytes) × (text_of t ≡ reads C.facts) × (c.symbols ≤ 32766)
counts-read {t} {c} C = by C.taken
  where
    by : Taken t (read C.facts) → (length t ≤ most_text_bytes) × (text_of t ≡ reads C.facts) × (c.symbols ≤ 32766)
    by (taken h x e) = (h, (accepted t C.facts).1 x, omega (arith, text-long t x, C.symbols))
