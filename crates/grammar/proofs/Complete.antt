-- A text of the grammar is read, and as the facts that the grammar gives it.
use Prim.Native.Nat.{ℕ, zero, suc, ◌+◌, ◌-◌, ◌*◌, ◌≤◌, ◌<◌}
use mathlib.Core.Path.{◌≡◌, refl, sym, ap, ◌∙◌}
use mathlib.Core.Bool.{Bool, true, false, ◌&&◌, ◌||◌}
use mathlib.Core.List.{List, [], ◌∷◌, ◌++◌, append_assoc}
use mathlib.Core.Logic.{◌⊎◌, inl, inr, ⊎_elim}
use native.Mathlib.Omega.{arith}
use lib.Dec.{eqb, leb}
use lib.ListN.{length, set}
use lib.Seq.{set-append_seam}
use borrow.Author.Tests.{leb-true, le-leb, lt-leb, lt-ltb, eqb-true, ne_eqb}
use Rattle.grammar.specs.Grammar as G
use Rattle.grammar.specs.Grammar.{is_lower, is_upper, is_digit, is_word, Blank, space, feed, return, Line, Gap, Word, Digits, Symbol, Term, Args}
use Rattle.grammar.specs.Grammar.{Fact, fact, OneFact, Facts, Text}
use Rattle.grammar.specs.Reader.{Mode, first, head, arg, word, minus, digits, after, closed, stop, between, remark, Frame, frame, Work, work}
use Rattle.grammar.specs.Reader.{nothing, go, is_blank, layout, push, put, on_comma, on_close, past, limit, bits_after, step, reads, fact_before}
use Rattle.grammar.specs.Reader.{finish, run, text_of, Rests, Ends}

-- a comment
pub run-line : {p q : ℕ} {xs ys : List ℕ} (m : Mode) (w : Work) → Line p xs q ys → run xs (remark m) w p ≡ run ys m w q
unfolding run step finish
run-line m w G.ended = refl
run-line m w G.feed = refl
run-line m w (G.byte e l) = rw e (run-line m w l)

-- layout
pub run-gap : {p q : ℕ} {xs ys : List ℕ} {m : Mode} {w : Work} → Rests m w → Gap p xs q ys → run xs m w p ≡ run ys m w q
unfolding run
run-gap r G.none = refl
run-gap r (G.blank {p = p} b g) = rw (r.blank p b) (run-gap r g)
run-gap {m = m} {w} r (G.remark {p = p} l g) = rw (r.mark p) (run-line m w l ∙ run-gap r g)

layout-blank : (m : Mode) (w : Work) {b : ℕ} → Blank b → layout m w b ≡ go m w
unfolding layout is_blank
layout-blank m w space = refl
layout-blank m w feed = refl
layout-blank m w return = refl

layout-mark : (m : Mode) (w : Work) → layout m w 37 ≡ go (remark m) w
unfolding layout is_blank
layout-mark m w = refl

first-blank : (w : Work) (p : ℕ) {b : ℕ} → Blank b → step first w p b ≡ layout first w b
unfolding step is_lower
first-blank w p space = refl
first-blank w p feed = refl
first-blank w p return = refl

pub rests-first : (w : Work) → Rests first w
unfolding step is_lower
rests-first w = record { blank = λ p b. first-blank w p b ∙ layout-blank first w b; mark = λ p. layout-mark first w }

arg-blank : (w : Work) (p : ℕ) {b : ℕ} → Blank b → step arg w p b ≡ layout arg w b
unfolding step is_lower is_upper is_digit
arg-blank w p space = refl
arg-blank w p feed = refl
arg-blank w p return = refl

pub rests-arg : (w : Work) → Rests arg w
unfolding step is_lower is_upper is_digit
rests-arg w = record { blank = λ p b. arg-blank w p b ∙ layout-blank arg w b; mark = λ p. layout-mark arg w }

past-blank : (w : Work) {b : ℕ} → Blank b → past w b ≡ layout after w b
unfolding past
past-blank w space = refl
past-blank w feed = refl
past-blank w return = refl

pub rests-after : (w : Work) → Rests after w
unfolding step past
rests-after w = record { blank = λ p b. past-blank w b ∙ layout-blank after w b; mark = λ p. layout-mark after w }

closed-blank : (w : Work) (p : ℕ) {b : ℕ} → Blank b → step closed w p b ≡ layout closed w b
unfolding step
closed-blank w p space = refl
closed-blank w p feed = refl
closed-blank w p return = refl

pub rests-closed : (w : Work) → Rests closed w
unfolding step
rests-closed w = record { blank = λ p b. closed-blank w p b ∙ layout-blank closed w b; mark = λ p. layout-mark closed w }

between-blank : (w : Work) (p : ℕ) {b : ℕ} → Blank b → step between w p b ≡ layout between w b
unfolding step is_lower
between-blank w p space = refl
between-blank w p feed = refl
between-blank w p return = refl

pub rests-between : (w : Work) → Rests between w
unfolding step is_lower
rests-between w = record { blank = λ p b. between-blank w p b ∙ layout-blank between w b; mark = λ p. layout-mark between w }

-- what can follow a word or a number: layout, a comma or a bracket, and nothing that they go on with
abbrev pub Follows : List ℕ → Type 0
Follows [] = Unit {0}
Follows (b ∷ xs) = (is_word b ≡ false) × (eqb b 40 ≡ false) × (is_digit b ≡ false)

pub gap-follows : {p q : ℕ} {xs ys : List ℕ} → Gap p xs q ys → Follows ys → Follows xs
unfolding is_word is_lower is_upper is_digit
gap-follows G.none f = f
gap-follows (G.blank space g) f = (refl, refl, refl)
gap-follows (G.blank feed g) f = (refl, refl, refl)
gap-follows (G.blank return g) f = (refl, refl, refl)
gap-follows (G.remark l g) f = (refl, refl, refl)

pub comma-follows : (xs : List ℕ) → Follows (44 ∷ xs)
unfolding is_word is_lower is_upper is_digit
comma-follows xs = (refl, refl, refl)

pub bracket-follows : (xs : List ℕ) → Follows (41 ∷ xs)
unfolding is_word is_lower is_upper is_digit
bracket-follows xs = (refl, refl, refl)

-- a word, and its end
pub run-word : {p q : ℕ} {xs ys : List ℕ} (n : Bool) (s : ℕ) (w : Work) → Word p xs q ys → run xs (word n s) w p ≡ run ys (word n s) w q
unfolding run step
run-word n s w G.none = refl
run-word n s w (G.more e l) = rw e (run-word n s w l)

pub run-head : {p q : ℕ} {xs ys : List ℕ} (s : ℕ) (w : Work) → Word p xs q ys → run xs (head s) w p ≡ run ys (head s) w q
unfolding run step
run-head s w G.none = refl
run-head s w (G.more e l) = rw e (run-head s w l)

pub name-ends : (s : ℕ) (w : Work) (p : ℕ) (xs : List ℕ) → Follows xs → run xs (word true s) w p ≡ run xs after (put (G.name s p 0) w) p
unfolding run step finish
name-ends s w p [] f = refl
name-ends s w p (b ∷ xs) f = rw (f.0, f.1)

-- a variable goes on with no bracket: what follows it is what may follow a term
pub follows-ends : (xs : List ℕ) → Follows xs → Ends xs
follows-ends [] f = tt
follows-ends (b ∷ xs) f = f.0

pub variable-ends : (s : ℕ) (w : Work) (p : ℕ) (xs : List ℕ) → Ends xs → run xs (word false s) w p ≡ run xs after (put (G.variable s p) w) p
unfolding run step finish
variable-ends s w p [] f = refl
variable-ends s w p (b ∷ xs) f = rw f

-- a number, and its end
pub digits-grow : {v p q n : ℕ} {xs ys : List ℕ} → Digits v p xs q ys n → v ≤ n
digits-grow G.none = omega arith
digits-grow (G.more e d) = omega (arith, digits-grow d)

pub run-digits : {v p q n : ℕ} {xs ys : List ℕ} (sign : Bool) (w : Work) → Digits v p xs q ys n → n ≤ limit sign
    → run xs (digits sign v) w p ≡ run ys (digits sign n) w q
unfolding run step
run-digits sign w G.none h = refl
run-digits {v} sign w (G.more {digit = b} e d) h =
    rw (e, le-leb (10 * v + (b - 48)) (limit sign) (omega (arith, digits-grow d))) (run-digits sign w d h)

pub digits-end : (sign : Bool) (v : ℕ) (w : Work) (p : ℕ) (xs : List ℕ) → Follows xs
    → run xs (digits sign v) w p ≡ run xs after (put (G.number (bits_after sign v)) w) p
unfolding run step finish
digits-end sign v w p [] f = refl
digits-end sign v w p (b ∷ xs) f = rw f.2

-- the ranges of the bytes are apart
pub or-true : (a b : Bool) → (a || b) ≡ true → (a ≡ true) ⊎ (b ≡ true)
or-true true b e = inl refl
or-true false b e = inr e

pub and-true : (a b : Bool) → (a && b) ≡ true → (a ≡ true) × (b ≡ true)
and-true true b e = (refl, e)
and-true false b e = absurd (let z : ◌≡◌ {A = ℕ} 0 1 = cc in omega arith)

pub upper-below : (b : ℕ) → is_upper b ≡ true → b < 97
unfolding is_upper
upper-below b e =
    ⊎_elim (λ l. omega (arith, eqb-true b 95 l)) (λ l. omega (arith, leb-true b 90 (and-true (leb 65 b) (leb b 90) l).1))
    (or-true (eqb b 95) (leb 65 b && leb b 90) e)

pub digit-below : (b : ℕ) → is_digit b ≡ true → b < 58
unfolding is_digit
digit-below b e = omega (arith, leb-true b 57 (and-true (leb 48 b) (leb b 57) e).1)

pub not_lower : (b : ℕ) → b < 97 → is_lower b ≡ false
unfolding is_lower
not_lower b h = rw (lt-leb 97 b h)

pub not-upper : (b : ℕ) → b < 58 → is_upper b ≡ false
unfolding is_upper
not-upper b h = rw (ne_eqb b 95 (λ e. omega arith), lt-leb 65 b (omega arith))

-- the first byte of a term
pub at-lower : (b : ℕ) (xs : List ℕ) (w : Work) (p : ℕ) → is_lower b ≡ true → run (b ∷ xs) arg w p ≡ run xs (word true p) w (suc p)
unfolding run step
at-lower b xs w p e = rw e

at-upper : (b : ℕ) (xs : List ℕ) (w : Work) (p : ℕ) → is_upper b ≡ true → run (b ∷ xs) arg w p ≡ run xs (word false p) w (suc p)
unfolding run step
at-upper b xs w p e = rw (not_lower b (upper-below b e), e)

pub at-digit : (b : ℕ) (xs : List ℕ) (w : Work) (p : ℕ) → is_digit b ≡ true → run (b ∷ xs) arg w p ≡ run xs (digits false (b - 48)) w (suc p)
unfolding run step
at-digit b xs w p e = rw (not_lower b (omega (arith, digit-below b e)), not-upper b (digit-below b e), e)

-- a minus sign, and the first digit after it
pub at-minus : (xs : List ℕ) (w : Work) (p : ℕ) → run (45 ∷ xs) arg w p ≡ run xs minus w (suc p)
unfolding run step is_lower is_upper is_digit
at-minus xs w p = refl

pub after_minus : (b : ℕ) (xs : List ℕ) (w : Work) (p : ℕ) → is_digit b ≡ true → run (b ∷ xs) minus w p ≡ run xs (digits true (b - 48)) w (suc p)
unfolding run step
after_minus b xs w p e = rw e

-- of a fact
pub at_first : (b : ℕ) (xs : List ℕ) (w : Work) (p : ℕ) → is_lower b ≡ true → run (b ∷ xs) first w p ≡ run xs (head p) w (suc p)
unfolding run step
at_first b xs w p e = rw e

pub at-between : (b : ℕ) (xs : List ℕ) (w : Work) (p : ℕ) → is_lower b ≡ true → run (b ∷ xs) between w p ≡ run xs (head p) w (suc p)
unfolding run step
at-between b xs w p e = rw e

-- brackets, commas, the full stop
module _ (xs : List ℕ) (p : ℕ) where
  pub at_open : (s : ℕ) (w : Work) → run (40 ∷ xs) (word true s) w p ≡ run xs arg (push s p w) (suc p)
  unfolding run step is_word is_lower is_upper is_digit
  at_open s w = refl

  pub at-head-open : (s : ℕ) (w : Work) → run (40 ∷ xs) (head s) w p ≡ run xs arg (work s p 0 [] []) (suc p)
  unfolding run step is_word is_lower is_upper is_digit
  at-head-open s w = refl

  pub at-comma : (s n k : ℕ) (f : Frame) (fs : List Frame) (out : List Symbol) → f.done < 3
      → run (44 ∷ xs) after (work s n k (f ∷ fs) out) p
      ≡ run xs arg (work s n k (frame f.owner f.start f.end (suc f.done) ∷ fs)
      (set out f.owner (G.name f.start f.end (suc f.done)))) (suc p)
  unfolding run step past on_comma
  at-comma s n k f fs out h = rw (lt-ltb f.done 3 h)

  pub at-close : (s n k : ℕ) (f : Frame) (fs : List Frame) (out : List Symbol)
      → run (41 ∷ xs) after (work s n k (f ∷ fs) out) p ≡ run xs after (work s n k fs (set out f.owner (G.name f.start f.end (suc f.done)))) (suc p)
  unfolding run step past on_close
  at-close s n k f fs out = refl

  pub at-fact-comma : (s n k : ℕ) (out : List Symbol) → run (44 ∷ xs) after (work s n k [] out) p ≡ run xs arg (work s n (suc k) [] out) (suc p)
  unfolding run step past on_comma
  at-fact-comma s n k out = refl

  pub at-fact-close : (s n k : ℕ) (out : List Symbol) → run (41 ∷ xs) after (work s n k [] out) p ≡ run xs closed (work s n k [] out) (suc p)
  unfolding run step past on_close
  at-fact-close s n k out = refl

  pub at-stop : (w : Work) → run (46 ∷ xs) closed w p ≡ fact_before (fact w.start w.end (suc w.done) w.out) (run xs stop nothing (suc p))
  unfolding run step
  at-stop w = refl

-- terms and arguments
abbrev pub puts : List Symbol → Work → Work
puts ss w = work w.start w.end w.done w.opened (w.out ++ ss)

pub args-grow : {c p q d : ℕ} {xs ys : List ℕ} {ss : List Symbol} → Args c p xs q ys d ss → c ≤ d
args-grow (G.last g t h) = omega arith
args-grow (G.more g t h as' e) = omega (arith, args-grow as')

-- a store at a place that is stored to again
pub set-over : (l ts : List Symbol) (i : ℕ) (x y : Symbol) → set (set l i x ++ ts) i y ≡ set (l ++ ts) i y
set-over [] ts i x y = refl
set-over (a ∷ l) ts zero x y = refl
set-over (a ∷ l) ts (suc i) x y = ap (λ (r : List Symbol). a ∷ r) (set-over l ts i x y)

pub named : (out ss : List Symbol) (x y : Symbol) → set ((out ++ (x ∷ [])) ++ ss) (length out) y ≡ out ++ (y ∷ ss)
named out ss x y = rw append_assoc (set-append_seam out x ss y)

mutual
  unfolding push put

  pub run-term : {p q : ℕ} {xs ys : List ℕ} {ss : List Symbol} (w : Work) → Term p xs q ys ss → Follows ys → run xs arg w p ≡ run ys after (puts ss w) q
  run-term w (G.is_name {p = p} {b = b} {q = q} {xs = xs} {ys = ys} e l) f = at-lower b xs w p e ∙ run-word true p w l ∙ name-ends p w q ys f
  run-term w (G.is-compound {start = p} {byte = b} {bracket = r} {end = q} {last = d} {rest = xs} {inside = zs} {left = ys} {symbols = ss} e l as' h) f =
      at-lower b xs w p e
      ∙ run-word true p w l
      ∙ at_open zs r p w
      ∙ run-args w.start w.end w.done (length w.out) p r w.opened (w.out ++ (G.name p r 0 ∷ [])) as' h
      ∙ ap (λ (o : List Symbol). run ys after (work w.start w.end w.done w.opened o) q) (named w.out ss (G.name p r 0) (G.name p r (suc d)))
  run-term w (G.is-variable {p = p} {b = b} {q = q} {xs = xs} {ys = ys} e l) f =
      at-upper b xs w p e ∙ run-word false p w l ∙ variable-ends p w q ys (follows-ends ys f)
  run-term w (G.is_number {p = p} {b = b} {q = q} {n = n} {xs = xs} {ys = ys} e d h) f =
      at-digit b xs w p e ∙ run-digits false w d h ∙ digits-end false n w q ys f
  run-term w (G.is_negative {p = p} {b = b} {q = q} {n = n} {xs = xs} {ys = ys} e d h z) f =
      at-minus (b ∷ xs) w p ∙ after_minus b xs w (suc p) e ∙ run-digits true w d h ∙ digits-end true n w q ys f
      ∙ ap (λ (v : ℕ). run ys after (puts (G.number v ∷ []) w) q) (sym z)

  pub run-args : {c p q d : ℕ} {xs ys : List ℕ} {ss : List Symbol} (s n k i a m : ℕ) (fs : List Frame) (out : List Symbol) → Args c p xs q ys d ss → d ≤ 3
      → run xs arg (work s n k (frame i a m c ∷ fs) out) p ≡ run ys after (work s n k fs (set (out ++ ss) i (G.name a m (suc d)))) q
  run-args {c} s n k i a m fs out (G.last {bracket = u} {left = ys} {symbols = ss} g t h) l =
      let w = work s n k (frame i a m c ∷ fs) out in
      run-gap (rests-arg w) g
      ∙ run-term w t (gap-follows h (bracket-follows ys))
      ∙ run-gap (rests-after (puts ss w)) h
      ∙ at-close ys u s n k (frame i a m c) fs (out ++ ss)
  run-args {c} {q = q} {d = d} {ys = ys} s n k i a m fs out (G.more {comma = u} {rest = vs} {symbols = ss} {others = ts} {all = all} g t h as' e) l =
      let w = work s n k (frame i a m c ∷ fs) out in
      run-gap (rests-arg w) g
      ∙ run-term w t (gap-follows h (comma-follows vs))
      ∙ run-gap (rests-after (puts ss w)) h
      ∙ at-comma vs u s n k (frame i a m c) fs (out ++ ss) (omega (arith, args-grow as'))
      ∙ run-args s n k i a m fs (set (out ++ ss) i (G.name a m (suc c))) as' l
      ∙ ap (λ (o : List Symbol). run ys after (work s n k fs o) q)
      (set-over (out ++ ss) ts i (G.name a m (suc c)) (G.name a m (suc d))
      ∙ ap (λ (o : List Symbol). set o i (G.name a m (suc d))) (append_assoc out ss ts ∙ ap (λ (o : List Symbol). out ++ o) (sym e)))

-- the arguments of the fact itself
pub run-width : {c p q d : ℕ} {xs ys : List ℕ} {ss : List Symbol} (s n : ℕ) (out : List Symbol) → Args c p xs q ys d ss
    → run xs arg (work s n c [] out) p ≡ run ys closed (work s n d [] (out ++ ss)) q
run-width {c} s n out (G.last {bracket = u} {left = ys} {symbols = ss} g t h) =
    let w = work s n c [] out in
    run-gap (rests-arg w) g
    ∙ run-term w t (gap-follows h (bracket-follows ys))
    ∙ run-gap (rests-after (puts ss w)) h
    ∙ at-fact-close ys u s n c (out ++ ss)
run-width {c} {q = q} {d = d} {ys = ys} s n out (G.more {comma = u} {rest = vs} {symbols = ss} {others = ts} {all = all} g t h as' e) =
    let w = work s n c [] out in
    run-gap (rests-arg w) g
    ∙ run-term w t (gap-follows h (comma-follows vs))
    ∙ run-gap (rests-after (puts ss w)) h
    ∙ at-fact-comma vs u s n c (out ++ ss)
    ∙ run-width s n (out ++ ss) as'
    ∙ ap (λ (o : List Symbol). run ys closed (work s n d [] o) q) (append_assoc out ss ts ∙ ap (λ (o : List Symbol). out ++ o) (sym e))

-- a fact, from within its name on
run-rest : {p r s u d : ℕ} {xs zs us ys : List ℕ} {ss : List Symbol} (w : Work) → Word (suc p) xs r (40 ∷ zs) → Args 0 (suc r) zs s us d ss
    → Gap s us u (46 ∷ ys)
    → run xs (head p) w (suc p) ≡ fact_before (fact p r (suc d) ss) (run ys stop nothing (suc u))
run-rest {p} {r} {u = u} {d = d} {zs = zs} {ys = ys} {ss = ss} w l as' g =
    run-head p w l
    ∙ at-head-open zs r p w
    ∙ run-width p r [] as'
    ∙ run-gap (rests-closed (work p r d [] ss)) g
    ∙ at-stop ys u (work p r d [] ss)

pub run-first : {p q : ℕ} {xs ys : List ℕ} {f : Fact} (w : Work) → OneFact p xs q ys f → run xs first w p ≡ fact_before f (run ys stop nothing q)
run-first w (G.one {start = p} {byte = b} {rest = xs} e l as' g) = at_first b xs w p e ∙ run-rest w l as' g

pub run-next : {p q : ℕ} {xs ys : List ℕ} {f : Fact} (w : Work) → OneFact p xs q ys f → run xs between w p ≡ fact_before f (run ys stop nothing q)
run-next w (G.one {start = p} {byte = b} {rest = xs} e l as' g) = at-between b xs w p e ∙ run-rest w l as' g

-- what follows a full stop
stop-layout : (b : ℕ) (xs : List ℕ) (p : ℕ) (w : Work) (m : Mode) → layout between w b ≡ go m w → run (b ∷ xs) stop w p ≡ run xs m w (suc p)
unfolding run step
stop-layout b xs p w m e = rw e

pub run-stop : {p q : ℕ} {xs ys : List ℕ} (w : Work) → Gap p xs q ys → p < q → run xs stop w p ≡ run ys between w q
run-stop w G.none h = absurd (omega arith)
run-stop w (G.blank {p = p} {b = b} {xs = xs} l g) h = stop-layout b xs p w between (layout-blank between w l) ∙ run-gap (rests-between w) g
run-stop w (G.remark {p = p} {xs = xs} l g) h =
    stop-layout 37 xs p w (remark between) (layout-mark between w) ∙ run-line between w l ∙ run-gap (rests-between w) g

run-last : {p q : ℕ} {xs : List ℕ} {ys : List ℕ} (w : Work) → Gap p xs q ys → ys ≡ [] → run xs stop w p ≡ reads []
unfolding run finish
run-last w (G.none {xs = xs}) e = rw e
run-last w (G.blank {p = p} {b = b} {xs = xs} l g) e = stop-layout b xs p w between (layout-blank between w l) ∙ run-gap (rests-between w) g ∙ rw e
run-last w (G.remark {p = p} {xs = xs} l g) e =
    stop-layout 37 xs p w (remark between) (layout-mark between w) ∙ run-line between w l ∙ run-gap (rests-between w) g ∙ rw e

pub run-facts : {p : ℕ} {xs : List ℕ} {fs : List Fact} (w : Work) → Facts p xs fs → run xs between w p ≡ reads fs
run-facts w (G.last {f = f} o g) = run-next w o ∙ ap (fact_before f) (run-last nothing g refl)
run-facts w (G.more {f = f} o g h fs) = run-next w o ∙ ap (fact_before f) (run-stop nothing g h ∙ run-facts nothing fs)

-- the whole text
pub text-read : (t : List ℕ) {fs : List Fact} → Text t fs → text_of t ≡ reads fs
unfolding text_of
text-read t x = run-gap (rests-first nothing) x.layout ∙ from x.facts
  where
    from : {p : ℕ} {xs : List ℕ} {fs : List Fact} → Facts p xs fs → run xs first nothing p ≡ reads fs
    from (G.last {f = f} o g) = run-first nothing o ∙ ap (fact_before f) (run-last nothing g refl)
    from (G.more {f = f} o g h fs) = run-first nothing o ∙ ap (fact_before f) (run-stop nothing g h ∙ run-facts nothing fs)

-- THE READING IS UNIQUE
pub text-one : (t : List ℕ) {fs gs : List Fact} → Text t fs → Text t gs → fs ≡ gs
text-one t x y = let e = text-read t x in let h = text-read t y in cc
