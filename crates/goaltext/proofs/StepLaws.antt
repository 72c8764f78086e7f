-- The steps of the reader, law by law.
use Prim.Native.Nat.{ℕ, ◌+◌, ◌≤◌, ◌<◌}
use mathlib.Core.Path.{◌≡◌, refl, sym, ap, subst, ◌∙◌}
use mathlib.Core.Bool.{Bool, true, false}
use mathlib.Core.List.{List, [], ◌∷◌}
use native.Mathlib.Omega.{arith}
use lib.ListN.{length, take, length-append}
use lib.Seq.{slice, take_at, take_all}
use Rattle.std.specs.Prelude.{Some, None, Ok, Err}
use Rattle.refusal.specs.Refusal.{told, reason_number}
use Rattle.refusal.specs.Read.{Read, read, refuse}
use Rattle.refusal.specs.declared.Refusal.{Refusal}
use Rattle.grammar.specs.Grammar.{Fact, Text}
use Rattle.grammar.specs.Grammar as G
use Rattle.cell.specs.Same.{same}
use Rattle.grammar.specs.Meaning.{width_of}
use Rattle.grammar.specs.Stops.{Stops, at_byte, at-end}
use Rattle.grammar.specs.Taken.{Taken, too_long, no_text, other-fact, taken}
use Rattle.cell.proofs.SameLaws.{same-eq, same-differ}
use Rattle.grammar.proofs.Accepted.{not-both}
use Rattle.lex.specs.Heads.{Heads}
use Rattle.lex.specs.declared.fact.Head.{Head}
use Rattle.lex.specs.declared.fact.Head.TheVariants as head
use Rattle.scan.specs.Scan.{ScanIs, Counts}
use Rattle.scan.specs.declared.Counted.{Counted}
use Rattle.slices.specs.declared.Span.{Span}
use Rattle.scan.proofs.SaysLaws.{scan-turned}
use Rattle.termtext.specs.Saying.{predicate_in}
use Rattle.termtext.specs.Goal.{with_stop, stopped, unstopped}
use Rattle.termtext.specs.Goal as goal
use Rattle.termtext.specs.declared.Predicate.{Predicate}
use Rattle.termtext.proofs.HeadLaws.{first_head}
use Rattle.goaltext.specs.Asked.{predicate_of, PredicateIs, first, none}
use Rattle.goaltext.specs.code.Steps.{NameIs, EndsAre, SizeOf, OursIs}
use Rattle.limits.specs.Limits.{most_text_bytes}

-- A TEXT'S FACTS: those that are counted, and at least one
pub counted-text : {t : List ℕ} {c : Counted} (C : Counts t c) → Text t C.facts
counted-text {t} C = by C.taken
  where
    by : {fs : List Fact} → Taken t (read fs) → Text t fs
    by (taken h x y) = x

pub some-fact : {t : List ℕ} {fs : List Fact} → Text t fs → (f : Fact) × ((gs : List Fact) × (fs ≡ f ∷ gs))
some-fact x = by x.facts
  where
    by : {p : ℕ} {xs : List ℕ} {fs : List Fact} → G.Facts p xs fs → (f : Fact) × ((gs : List Fact) × (fs ≡ f ∷ gs))
    by (G.last {f = f} o g) = (f, ([], refl))
    by (G.more {f = f} {fs = fs} o g l r) = (f, (fs, refl))

-- THE PREDICATE
module _ (t : List ℕ) {r : Head} (H : Heads t 0 true r) where
  pub name-open : (s e : ℕ) → r ≡ head.Open s e → NameIs t (record { start = s; end = e })
  name-open s e q f fs x = let z : head.Open s e ≡ head.Open f.start f.end = sym q ∙ H.is ∙ first_head t x in (cc, cc)

  pub name-none : {o : Head} → r ≡ o → ((s e : ℕ) → o ≡ head.Open s e → ⊥) → NameIs t (record { start = 0; end = 0 })
  name-none q n f fs x = absurd (n f.start f.end (sym q ∙ H.is ∙ first_head t x))

pub not_end : (s e : ℕ) → head.End ≡ head.Open s e → ⊥
not_end s e q = let z : ◌≡◌ {A = ℕ} 0 1 = cc in omega arith

pub not-stop : (k s e : ℕ) → head.Stop k ≡ head.Open s e → ⊥
not-stop k s e q = let z : ◌≡◌ {A = ℕ} 0 1 = cc in omega arith

one-predicate : (t : List ℕ) (f : Fact) {s e w : ℕ} → s ≡ f.start → e ≡ f.end → w ≡ f.width → PredicateIs t (predicate_of f)
    → PredicateIs t (record { start = s; end = e; width = w })
one-predicate t f a b c x = rw (a, b, c) x

pub predicate-facts : (t : List ℕ) (s : Span) (c : Counted) → NameIs t s → Counts t c
    → PredicateIs t (record { start = s.start; end = s.end; width = c.width })
unfolding width_of
predicate-facts t s c N C =
    let o = some-fact (counted-text C) in
    let q = o.1.1 in
    let z = N o.0 o.1.0 (subst (Text t) q (counted-text C)) in
    let w : c.width ≡ o.0.width = sym C.width ∙ ap width_of q in
    one-predicate t o.0 z.0 z.1 w (first (subst (λ (fs : List Fact). Taken t (read fs)) q C.taken))

pub predicate-none : (t : List ℕ) (f : Refusal) → ScanIs t (Err f) → PredicateIs t (record { start = 0; end = 0; width = 0 })
predicate-none t f s = none (scan-turned t f s)

-- A TEXT OR NOT
pub ends-facts : (t : List ℕ) (c : Counted) → Counts t c → EndsAre t None
ends-facts t c C = by C.taken
  where
    by : Taken t (read C.facts) → (fs : List Fact) × Text t fs
    by (taken h x e) = (C.facts, x)

module _ (t : List ℕ) (f : Refusal) (few : length t ≤ most_text_bytes) where
  pub ends-stop : ScanIs t (Err f) → reason_number f.reason ≡ 18 → EndsAre t (Some f.place)
  ends-stop s n = by (scan-turned t f s) refl
    where
      by : {o : Read (List Fact)} → Taken t o → o ≡ refuse (told f) → Stops t f.place
      by (too_long h) e = absurd (omega arith)
      by (no_text {k = k} h x) e = let z : k ≡ f.place = ap place e in subst (Stops t) z x
        where
          place : Read (List Fact) → ℕ
          place (read fs) = 0
          place (refuse r) = r.place
      by (other-fact h x y) e = absurd (omega (arith, ap number e, n))
        where
          number : Read (List Fact) → ℕ
          number (read fs) = 0
          number (refuse r) = r.number
      by (taken h x y) e = absurd (let z : ◌≡◌ {A = ℕ} 0 1 = cc in omega arith)

  pub ends-other : ScanIs t (Err f) → (reason_number f.reason ≡ 18 → ⊥) → EndsAre t None
  ends-other s n = by (scan-turned t f s) refl
    where
      number : Read (List Fact) → ℕ
      number (read fs) = 0
      number (refuse r) = r.number

      by : {o : Read (List Fact)} → Taken t o → o ≡ refuse (told f) → (fs : List Fact) × Text t fs
      by (too_long h) e = absurd (omega arith)
      by (no_text h x) e = absurd (n (sym (ap number e)))
      by (other-fact {fs = fs} h x y) e = (fs, x)
      by (taken h x y) e = absurd (let z : ◌≡◌ {A = ℕ} 0 1 = cc in omega arith)

-- HOW MANY BYTES ARE READ
stops-within : (t : List ℕ) {k : ℕ} → Stops t k → k ≤ length t
stops-within t (at_byte h b n) = omega arith
stops-within t (at-end b n) = omega arith

module _ (t text : List ℕ) (n : ℕ) (e : text ≡ with_stop t) (l : n ≡ length t) where
  long : length text ≡ n + 2
  long = ap length e ∙ length-append t (10 ∷ 46 ∷ []) ∙ omega arith

  front : take n text ≡ t
  front = ap (take n) e ∙ take_at t (10 ∷ 46 ∷ []) n (sym l)

  pub size-whole : EndsAre (take n text) None → SizeOf t text (Ok n)
  size-whole x = (x.0, rw front (stopped (subst (λ (u : List ℕ). Text u x.0) front x.1)))

  pub size-byte : {k : ℕ} → EndsAre (take n text) (Some k) → k < n → SizeOf t text (Err k)
  size-byte {k} x h = goal.at_byte {k = k} (omega arith) (subst (λ (u : List ℕ). Stops u k) front x)

  -- it ends too early
  early : {k : ℕ} → EndsAre (take n text) (Some k) → n ≤ k → Stops t (length t)
  early {k} x h =
      let s = subst (λ (u : List ℕ). Stops u k) front x in
      let z : k ≡ length t = omega (arith, stops-within t s) in
      subst (Stops t) z s

  pub size-stopped : {k : ℕ} → EndsAre (take n text) (Some k) → n ≤ k → EndsAre text None → SizeOf t text (Ok (n + 2))
  size-stopped x h y =
      let all : take (n + 2) text ≡ text = take_all (n + 2) text (omega (arith, long)) in
      (y.0, rw (all, e) (unstopped (early x h) (subst (λ (u : List ℕ). Text u y.0) e y.1)))

  pub size_none : {k j : ℕ} → EndsAre (take n text) (Some k) → n ≤ k → EndsAre text (Some j) → SizeOf t text (Err n)
  size_none {j = j} x h y =
      rw l (goal.at-end (early x h) (λ fs z. not-both (with_stop t) j (subst (λ (u : List ℕ). Stops u j) e y) z))

-- THE GOAL'S PREDICATE
pub ours-by : (text : List ℕ) (p : Predicate) (whole : List ℕ) (s : Span) (c : Counted) {x y : List ℕ} (b : Bool) → b ≡ same x y
    → x ≡ slice s.start s.end whole → y ≡ predicate_in text p → c.facts ≡ 1 → p.width ≡ c.width → OursIs text p whole s c b
ours-by text p whole s c {x} {y} true e f g h k = record { one = h; wide = k; called = sym f ∙ same-eq x y (sym e) ∙ g }
ours-by text p whole s c {x} {y} false e f g h k = λ S. same-differ x y (sym e) (f ∙ S.called ∙ sym g)
