-- The facts of a text, counted: law by law.
use Prim.Native.Nat.{ℕ, ◌+◌, ◌≤◌, ◌<◌}
use mathlib.Core.Path.{◌≡◌, refl, sym, ap, ap₂, subst, ◌∙◌}
use mathlib.Core.Bool.{Bool, true, false, cond}
use mathlib.Core.List.{List, [], ◌∷◌, ◌++◌, flatten}
use native.Mathlib.Omega.{arith}
use native.Mathlib.Decide.{dec_lt}
use lib.Dec.{eqb}
use lib.ListN.{length, drop, length-append}
use borrow.Author.Tests.{eq-eqb, ne_eqb}
use Rattle.refusal.specs.Refusal.{refused}
use Rattle.refusal.specs.Read.{read, refuse}
use Rattle.refusal.specs.declared.Reason.TheVariants as reason
use Rattle.refusal.specs.declared.Input.TheVariants as input
use Rattle.grammar.specs.Grammar.{Symbol, Fact, Text}
use Rattle.grammar.specs.Meaning.{none, found, alike, other_than, other_in, width_of, symbols_of}
use Rattle.grammar.specs.Taken.{too_long, no_text, other-fact, taken}
use Rattle.grammar.specs.Reader.{stop, nothing, Out, stops, reads, fact_before, run, text_of}
use Rattle.grammar.proofs.Accepted.{accepted, refused-at}
use Rattle.lex.specs.Heads.{fact_mode}
use Rattle.scan.specs.declared.facts.Seen.{Seen}
use Rattle.scan.specs.declared.facts.Tally.{Tally}
use Rattle.scan.specs.declared.Counted.{Counted}
use Rattle.refusal.specs.declared.Refusal.{Refusal}
use Rattle.std.specs.Prelude.{Option, Some, None, Result}
use Rattle.scan.specs.Scan.{counted_as, scan_told, ScanIs}
use Rattle.scan.specs.code.Facts as code
use Rattle.scan.specs.code.Facts.{seen_fact, FactFits, tally_of, later, later_other, with_fact, Sized, FactsKept, other_said, FirstIs, Tallied, with_facts}
use Rattle.scan.specs.code.Facts.{Going, other_or, verdict_of}
use Rattle.limits.specs.Limits.{most_text_bytes}

-- one fact more, as the code makes it
pub one-fact : (t : List ℕ) (c : Tally) (x : Seen) → c.facts ≡ 0 → tally_of 1 x.start x.end x.width x.symbols None ≡ with_fact t c x
unfolding with_fact
one-fact t c x e = rw (eq-eqb c.facts 0 e)

pub one_more : (t : List ℕ) (c : Tally) (x : Seen) {other : Option ℕ} → (c.facts ≡ 0 → ⊥) → other ≡ later_other t c x
    → tally_of (c.facts + 1) c.start c.end c.width (c.symbols + x.symbols) other ≡ with_fact t c x
unfolding with_fact
one_more t c x n e = rw (ne_eqb c.facts 0 n, e)

-- the facts so far, and then what is read
with-stops : (fs : List Fact) (p : ℕ) → with_facts fs (stops p) ≡ stops p
unfolding with_facts
with-stops [] p = refl
with-stops (f ∷ fs) p = ap (fact_before f) (with-stops fs p)

with-reads : (fs : List Fact) → with_facts fs (reads []) ≡ reads fs
unfolding with_facts
with-reads [] = refl
with-reads (f ∷ fs) = ap (fact_before f) (with-reads fs)

with-more : (fs : List Fact) (g : Fact) (o : Out) → with_facts (fs ++ (g ∷ [])) o ≡ with_facts fs (fact_before g o)
unfolding with_facts
with-more [] g o = refl
with-more (f ∷ fs) g o = ap (fact_before f) (with-more fs g o)

symbols-more : (fs : List Fact) (g : Fact) → length (symbols_of (fs ++ (g ∷ []))) ≡ length (symbols_of fs) + length g.symbols
unfolding flatten
symbols-more [] g = length-append g.symbols [] ∙ omega arith
symbols-more (f ∷ fs) g =
    length-append f.symbols (symbols_of (fs ++ (g ∷ [])))
    ∙ ap (λ (n : ℕ). length f.symbols + n) (symbols-more fs g)
    ∙ omega (arith, length-append f.symbols (symbols_of fs))

-- the first fact that is another
apart : {A : Type 0} {k : ℕ} → found k ≡ none → A
apart e = absurd (let z : ◌≡◌ {A = ℕ} 0 1 = cc in omega arith)

module _ (t : List ℕ) (f g : Fact) where
  -- one fact more: the one before, or this one, or still none
  abbrev next : Option ℕ → Option ℕ
  next other = later other (cond (alike t g f) None (Some g.start))

  other-more : (other : Option ℕ) (fs : List Fact) → other_than t f fs ≡ other_said other → other_than t f (fs ++ (g ∷ [])) ≡ other_said (next other)
  unfolding other_than
  other-more (Some o) [] e = apart (sym e)
  other-more None [] e = by (alike t g f)
    where
      by : (b : Bool) → cond b none (found g.start) ≡ other_said (cond b None (Some g.start))
      by true = refl
      by false = refl
  other-more (Some o) (x ∷ fs) e = by (alike t x f) (other-more (Some o) fs) e
    where
      by : (b : Bool) → (other_than t f fs ≡ found o → other_than t f (fs ++ (g ∷ [])) ≡ found o)
          → cond b (other_than t f fs) (found x.start) ≡ found o
          → cond b (other_than t f (fs ++ (g ∷ []))) (found x.start) ≡ found o
      by true k q = k q
      by false k q = q
  other-more None (x ∷ fs) e = by (alike t x f) (other-more None fs) e
    where
      by : (b : Bool) → (other_than t f fs ≡ none → other_than t f (fs ++ (g ∷ [])) ≡ other_said (next None))
          → cond b (other_than t f fs) (found x.start) ≡ none
          → cond b (other_than t f (fs ++ (g ∷ []))) (found x.start) ≡ other_said (next None)
      by true k q = k q
      by false k q = apart q

-- the count, one fact further
tallied-more : (t : List ℕ) (fs : List Fact) (c : Tally) (x : Seen) (out : List Symbol) → length out ≡ x.symbols → Tallied t fs c
    → Tallied t (fs ++ (seen_fact x out ∷ [])) (with_fact t c x)
unfolding other_in other_than flatten later_other
tallied-more t [] c x out n T =
    subst (Tallied t (seen_fact x out ∷ [])) (one-fact t c x (sym T.number))
    (record { number = refl; symbols = length-append out [] ∙ omega (arith, n); first = (refl, refl, refl); other = refl })
tallied-more t (f ∷ fs) c x out n T =
    let i = T.first in
    let a : alike t (seen_fact x out) f ≡ code.like_first t c x = rw (i.0, i.1, i.2) in
    let o : next t f (seen_fact x out) c.other ≡ later_other t c x = rw a in
    subst (Tallied t ((f ∷ fs) ++ (seen_fact x out ∷ []))) (one_more t c x (λ e. omega (arith, T.number)) o)
    (record {
      number = length-append (f ∷ fs) (seen_fact x out ∷ []) ∙ ap (λ (k : ℕ). k + 1) T.number;
      symbols = symbols-more (f ∷ fs) (seen_fact x out) ∙ ap₂ ◌+◌ T.symbols n;
      first = i;
      other = other-more t f (seen_fact x out) c.other fs T.other;
    })

width_is : (fs : List Fact) (c : Tally) → FirstIs fs c → width_of fs ≡ c.width
unfolding width_of
width_is [] c w = sym w
width_is (f ∷ fs) c w = w.2

-- the whole text
pub none_yet : (t : List ℕ) {c : Tally} → c ≡ code.no_facts → Going t 0 (eqb c.facts 0) c
unfolding text_of with_facts other_in flatten
none_yet t q =
    subst (λ (c : Tally). Going t 0 (eqb c.facts 0) c) (sym q)
    (record { facts = []; counts = record { number = refl; symbols = refl; first = refl; other = refl }; same = refl })

module _ (t : List ℕ) (at : ℕ) (c : Tally) (G : Going t at (eqb c.facts 0) c) where
  some : (fs : List Fact) (g : Fact) {c' : Tally} → Tallied t (fs ++ (g ∷ [])) c' → eqb c'.facts 0 ≡ false
  some fs g {c'} T = ne_eqb c'.facts 0 (λ e. omega (arith, T.number, length-append fs (g ∷ [])))

  pub fact-more : (x : Seen) {c' : Tally} → FactFits t at (eqb c.facts 0) x → c' ≡ with_fact t c x
      → Going t x.next (eqb c'.facts 0) c'
  fact-more x {c'} F q =
      let g = seen_fact x F.out in
      let T : Tallied t (G.facts ++ (g ∷ [])) c' =
      subst (Tallied t (G.facts ++ (g ∷ []))) (sym q) (tallied-more t G.facts c x F.out F.count G.counts) in
      record {
        facts = G.facts ++ (g ∷ []);
        counts = T;
        same =
            G.same
            ∙ ap (with_facts G.facts) (F.same nothing)
            ∙ sym (with-more G.facts g (run (drop x.next t) stop nothing x.next))
            ∙ ap (λ (b : Bool). with_facts (G.facts ++ (g ∷ [])) (run (drop x.next t) (fact_mode b) nothing x.next)) (sym (some G.facts g T));
      }

  pub all_read : length t ≤ most_text_bytes → {r : Result Counted Refusal} → run (drop at t) (fact_mode (eqb c.facts 0)) nothing at ≡ reads []
      → scan_told r ≡ verdict_of c → ScanIs t r
  all_read h {r} e q = by c.other G.counts.other q
    where
      text : Text t G.facts
      text = (accepted t G.facts).0 (G.same ∙ ap (with_facts G.facts) e ∙ with-reads G.facts)

      by : (o : Option ℕ) → other_in t G.facts ≡ other_said o → scan_told r ≡ other_or o (counted_as c.facts c.width c.symbols) → ScanIs t r
      by (Some p) l a = record { says = refuse (refused reason.Other input.Text p); rule = other-fact {k = p} h text l; answer = a }
      by None l a = record {
        says = read G.facts;
        rule = taken h text l;
        answer = a ∙ rw (G.counts.number, G.counts.symbols, width_is G.facts c G.counts.first);
      }

  pub stops-there : length t ≤ most_text_bytes → {r : Result Counted Refusal} (p : ℕ) → run (drop at t) (fact_mode (eqb c.facts 0)) nothing at ≡ stops p
      → scan_told r ≡ refuse (refused reason.Text input.Text p) → ScanIs t r
  stops-there h p e q =
      record {
        says = refuse (refused reason.Text input.Text p);
        rule = no_text h ((refused-at t p).0 (G.same ∙ ap (with_facts G.facts) e ∙ with-stops G.facts p));
        answer = q;
      }

pub over-bytes : (t : List ℕ) {r : Result Counted Refusal} → most_text_bytes < length t → scan_told r ≡ refuse (refused reason.Bytes input.Text 0) → ScanIs t r
over-bytes t h q = record { says = refuse (refused reason.Bytes input.Text 0); rule = too_long h; answer = q }

-- the numbers
pub kept-none : (t : List ℕ) {c : Tally} → c ≡ code.no_facts → FactsKept t 0 c
kept-none t q = subst (FactsKept t 0) (sym q) (record { first = (omega arith, omega arith); few = omega arith; sum = omega arith })

module _ (t : List ℕ) (at : ℕ) (c : Tally) (K : FactsKept t at c) (f : Bool) (x : Seen) (F : FactFits t at f x) where
  pub sized : length t ≤ most_text_bytes → Sized t c x
  sized h =
      record {
        first = K.first;
        this = (omega (arith, F.from.1), omega (arith, F.within.0, F.within.1));
        few = (omega (arith, K.few, F.from.0, F.from.1, F.within.0, F.within.1), omega (arith, F.few, F.within.1));
        sum = K.sum;
      }

  pub kept_more : length t ≤ most_text_bytes → {c' : Tally} → c' ≡ with_fact t c x → FactsKept t x.next c'
  kept_more h q = subst (FactsKept t x.next) (sym q) (by (dec_lt 0 c.facts))
    where
      by : Dec (0 < c.facts) → FactsKept t x.next (with_fact t c x)
      by (yes l) =
          subst (FactsKept t x.next) (one_more t c x (λ e. omega arith) refl)
          (record {
            first = K.first;
            few = omega (arith, K.few, F.from.0, F.from.1, F.within.0);
            sum = omega (arith, K.sum, F.few, F.within.1);
          })
      by (no n) =
          subst (FactsKept t x.next) (one-fact t c x (omega arith))
          (record {
            first = (omega (arith, F.from.1), omega (arith, F.within.0, F.within.1));
            few = omega (arith, F.from.1, F.within.0);
            sum = omega (arith, F.few, F.within.1);
          })
