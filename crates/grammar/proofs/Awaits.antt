-- Where a term begins the reader awaits one: of the names of a text, those that start at a place are begun there, in the mode `arg`, and in
-- no other.
use Prim.Native.Nat.{ℕ, zero, suc, ◌+◌, ◌≤◌}
use mathlib.Core.Path.{◌≡◌, refl, sym, ap, subst, ◌∙◌}
use mathlib.Core.Bool.{Bool, true, false, cond, ◌&&◌}
use mathlib.Core.List.{List, [], ◌∷◌, ◌++◌, flatten, Memᴰ}
use mathlib.Core.Logic.{◌⊎◌, inl, inr, ⊎_elim}
use native.Mathlib.Nat.{zero-add}
use native.Mathlib.Omega.{arith}
use lib.Dec.{eqb, leb, ltb}
use lib.ListN.{length, set}
use Rattle.grammar.specs.Grammar.{is_lower, is_upper, is_digit, is_word, Symbol, name, variable, number, Fact}
use Rattle.grammar.specs.Meaning.{symbols_of}
use Rattle.grammar.specs.Reader.{Mode, first, head, arg, word, minus, digits, after, closed, stop, between, remark}
use Rattle.grammar.specs.Reader.{Frame, Work, nothing, Next, dead, go, says, is_blank, layout, push, put, on_comma, on_close, past, symbol}
use Rattle.grammar.specs.Reader.{limit, bits_after, step, Out, stops, reads, fact_before, finish, run, text_of}
use Rattle.grammar.specs.Numbers.{TermNext}
use Rattle.grammar.proofs.Complete.{text-read}
use Rattle.grammar.proofs.Sound.{clash}

-- the facts that some bytes complete, and then what is read
abbrev pub said : List Fact → Out → Out
said [] o = o
said (f ∷ fs) o = fact_before f (said fs o)

pub said-stops : (fs : List Fact) (k : ℕ) → said fs (stops k) ≡ stops k
said-stops [] k = refl
said-stops (f ∷ fs) k = ap (fact_before f) (said-stops fs k)

-- NO NAME STARTS AT p: among symbols, among the open names, in a mode
record NoName (p : ℕ) (ss : List Symbol) : Type 0 where
  none : (e a : ℕ) → Memᴰ (name p e a) ss → ⊥

abbrev Other : ℕ → Symbol → Type 0
Other p x = (e a : ℕ) → name p e a ≡ x → ⊥

no-nil : {p : ℕ} → NoName p []
no-nil = record { none = λ e a m. elim m [ ] }

no_both : {p : ℕ} {ss us : List Symbol} → NoName p ss → NoName p us → NoName p (ss ++ us)
no_both {ss = ss} f g = record { none = λ e a m. ⊎_elim (f.none e a) (g.none e a) (mathlib.Core.List.Memᴰ.append_cases ss m) }

no_one : {p : ℕ} (x : Symbol) → Other p x → NoName p (x ∷ [])
no_one {p} x o = record { none = λ e a m. by e a m }
  where
    by : (e a : ℕ) → Memᴰ (name p e a) (x ∷ []) → ⊥
    by e a (mathlib.Core.List.Memᴰ.head q) = o e a q
    by e a (mathlib.Core.List.Memᴰ.tail m) = elim m [ ]

no-added : {p : ℕ} {ss : List Symbol} (x : Symbol) → Other p x → NoName p ss → NoName p (ss ++ (x ∷ []))
no-added x o f = no_both f (no_one x o)

mem-set : {y : Symbol} (ss : List Symbol) (i : ℕ) (x : Symbol) → Memᴰ y (set ss i x) → Memᴰ y ss ⊎ (y ≡ x)
mem-set (s ∷ ss) zero x (mathlib.Core.List.Memᴰ.head e) = inr e
mem-set (s ∷ ss) zero x (mathlib.Core.List.Memᴰ.tail m) = inl (mathlib.Core.List.Memᴰ.tail m)
mem-set (s ∷ ss) (suc i) x (mathlib.Core.List.Memᴰ.head e) = inl (mathlib.Core.List.Memᴰ.head e)
mem-set {y} (s ∷ ss) (suc i) x (mathlib.Core.List.Memᴰ.tail m) = by (mem-set ss i x m)
  where
    by : Memᴰ y ss ⊎ (y ≡ x) → Memᴰ y (s ∷ ss) ⊎ (y ≡ x)
    by (inl k) = inl (mathlib.Core.List.Memᴰ.tail k)
    by (inr e) = inr e
mem-set [] i x m = elim m [ ]

no-set : {p : ℕ} {ss : List Symbol} (i : ℕ) (x : Symbol) → Other p x → NoName p ss → NoName p (set ss i x)
no-set {ss = ss} i x o f = record { none = λ e a m. ⊎_elim (f.none e a) (o e a) (mem-set ss i x m) }

named_other : (p s e a : ℕ) → (s ≡ p → ⊥) → Other p (name s e a)
named_other p s e a n e' a' q = n (let z : s ≡ p = cc in z)

variable-other : (p s e : ℕ) → Other p (variable s e)
variable-other p s e e' a' q = let z : ◌≡◌ {A = ℕ} 0 1 = cc in omega arith

number-other : (p v : ℕ) → Other p (number v)
number-other p v e a q = let z : ◌≡◌ {A = ℕ} 0 1 = cc in omega arith

abbrev Apart : ℕ → List Frame → Type 0
Apart p [] = Unit {0}
Apart p (f ∷ fs) = (f.start ≡ p → ⊥) × Apart p fs

abbrev Clear : ℕ → Mode → Type 0
Clear p first = Unit {0}
Clear p (head s) = Unit {0}
Clear p arg = Unit {0}
Clear p (word n s) = s ≡ p → ⊥
Clear p minus = Unit {0}
Clear p (digits sign v) = Unit {0}
Clear p after = Unit {0}
Clear p closed = Unit {0}
Clear p stop = Unit {0}
Clear p between = Unit {0}
Clear p (remark m) = Clear p m

record Free (p : ℕ) (m : Mode) (w : Work) : Type 0 where
  mode : Clear p m
  out : NoName p w.out
  open' : Apart p w.opened

data Kept (p : ℕ) : Next → Type 0 where
  dies : Kept p dead
  goes : {m : Mode} {w : Work} → Free p m w → Kept p (go m w)
  tells : {f : Fact} {m : Mode} {w : Work} → NoName p f.symbols → Free p m w → Kept p (says f m w)

kept_if : {p : ℕ} {x y : Next} (b : Bool) → Kept p x → Kept p y → Kept p (cond b x y)
kept_if true k l = k
kept_if false k l = l

free_in : {p : ℕ} {m n : Mode} {w : Work} → Clear p n → Free p m w → Free p n w
free_in c f = record { mode = c; out = f.out; open' = f.open' }

kept-layout : {p : ℕ} {m : Mode} {w : Work} (b : ℕ) → Free p m w → Kept p (layout m w b)
unfolding layout
kept-layout {m = m} b f = kept_if (is_blank b) (goes f) (kept_if (eqb b 37) (goes (free_in {n = remark m} f.mode f)) dies)

kept-comma : {p : ℕ} (s n k : ℕ) (fs : List Frame) (out : List Symbol) → Apart p fs → NoName p out → Kept p (on_comma s n k fs out)
unfolding on_comma
kept-comma s n k [] out a f = goes (record { mode = tt; out = f; open' = tt })
kept-comma {p} s n k (x ∷ fs) out a f =
    kept_if (ltb x.done 3)
    (goes (record { mode = tt; out = no-set x.owner _ (named_other p x.start x.end (suc x.done) a.0) f; open' = a }))
    dies

kept-close : {p : ℕ} (s n k : ℕ) (fs : List Frame) (out : List Symbol) → Apart p fs → NoName p out → Kept p (on_close s n k fs out)
unfolding on_close
kept-close s n k [] out a f = goes (record { mode = tt; out = f; open' = tt })
kept-close {p} s n k (x ∷ fs) out a f =
    goes (record { mode = tt; out = no-set x.owner _ (named_other p x.start x.end (suc x.done) a.0) f; open' = a.1 })

kept-past : {p : ℕ} {m : Mode} {w : Work} (b : ℕ) → Free p m w → Kept p (past w b)
unfolding past
kept-past {w = w} b f =
    kept_if (eqb b 44) (kept-comma w.start w.end w.done w.opened w.out f.open' f.out)
    (kept_if (eqb b 41) (kept-close w.start w.end w.done w.opened w.out f.open' f.out)
    (kept-layout b (free_in {n = after} tt f)))

free-put : {p : ℕ} {m : Mode} {w : Work} (x : Symbol) → Other p x → Free p m w → Free p after (put x w)
unfolding put
free-put x o f = record { mode = tt; out = no-added x o f.out; open' = f.open' }

symbol-other : (p : ℕ) (n : Bool) (s e : ℕ) → (s ≡ p → ⊥) → Other p (symbol n s e)
symbol-other p true s e n = named_other p s e 0 n
symbol-other p false s e n = variable-other p s e

free-push : {p s : ℕ} {m : Mode} {w : Work} (q : ℕ) → (s ≡ p → ⊥) → Free p m w → Free p arg (push s q w)
unfolding push
free-push {p} {s} q n f = record { mode = tt; out = no-added (name s q 0) (named_other p s q 0 n) f.out; open' = (n, f.open') }

-- one byte further, at another place or in another mode than `arg`
kept : (p q b : ℕ) (m : Mode) (w : Work) → Free p m w → (q ≡ p → m ≡ arg → ⊥) → Kept p (step m w q b)
unfolding step
kept p q b first w f n = kept_if (is_lower b) (goes (free_in {n = head q} tt f)) (kept-layout b f)
kept p q b (head s) w f n =
    kept_if (is_word b) (goes f) (kept_if (eqb b 40) (goes (record { mode = tt; out = no-nil; open' = tt })) dies)
kept p q b arg w f n =
    let other : q ≡ p → ⊥ = λ e. n e refl in
    kept_if (is_lower b) (goes (free_in {n = word true q} other f))
    (kept_if (is_upper b) (goes (free_in {n = word false q} other f))
    (kept_if (is_digit b) (goes (free_in {n = digits false _} tt f))
    (kept_if (eqb b 45) (goes (free_in {n = minus} tt f))
    (kept-layout b f))))
kept p q b (word x s) w f n =
    kept_if (is_word b) (goes f)
    (kept_if (x && eqb b 40) (goes (free-push q f.mode f)) (kept-past b (free-put (symbol x s q) (symbol-other p x s q f.mode) f)))
kept p q b minus w f n = kept_if (is_digit b) (goes (free_in {n = digits true _} tt f)) dies
kept p q b (digits sign v) w f n =
    kept_if (is_digit b) (kept_if (leb _ (limit sign)) (goes (free_in {n = digits sign _} tt f)) dies)
    (kept-past b (free-put (number (bits_after sign v)) (number-other p (bits_after sign v)) f))
kept p q b after w f n = kept-past b f
kept p q b closed w f n = kept_if (eqb b 46) (tells f.out (record { mode = tt; out = no-nil; open' = tt })) (kept-layout b f)
kept p q b stop w f n = kept-layout b (free_in {n = between} tt f)
kept p q b between w f n = kept_if (is_lower b) (goes (free_in {n = head q} tt f)) (kept-layout b f)
kept p q b (remark m) w f n = kept_if (eqb b 10) (goes (free_in {n = m} f.mode f)) (goes f)

-- WHAT IS READ from there on has none either
before-reads : (f : Fact) (o : Out) (F : List Fact) → fact_before f o ≡ reads F → (G : List Fact) × (o ≡ reads G) × (F ≡ f ∷ G)
before-reads f (stops k) F e = clash e
before-reads f (reads G) F e = (G, refl, let z : F ≡ f ∷ G = cc in z)

finish-none : (m : Mode) (q : ℕ) (F : List Fact) → finish m q ≡ reads F → F ≡ []
unfolding finish
finish-none first q F e = clash e
finish-none (head s) q F e = clash e
finish-none arg q F e = clash e
finish-none (word n s) q F e = clash e
finish-none minus q F e = clash e
finish-none (digits sign v) q F e = clash e
finish-none after q F e = clash e
finish-none closed q F e = clash e
finish-none stop q F e = cc
finish-none between q F e = cc
finish-none (remark m) q F e = finish-none m q F e

no-later : (p : ℕ) (xs : List ℕ) (m : Mode) (w : Work) (q : ℕ) (F : List Fact) → p ≤ q → (q ≡ p → m ≡ arg → ⊥) → Free p m w
    → run xs m w q ≡ reads F → NoName p (symbols_of F)
unfolding run flatten
no-later p [] m w q F l n f e = subst (λ (G : List Fact). NoName p (symbols_of G)) (sym (finish-none m q F e)) no-nil
no-later p (b ∷ xs) m w q F l n f e =
    on (step m w q b) refl (kept p q b m w f n) (λ m' w' G g r. no-later p xs m' w' (suc q) G (omega arith) (λ z y. omega arith) g r) e
  where
    on : (x : Next) → step m w q b ≡ x → Kept p x
        → ((m' : Mode) (w' : Work) (G : List Fact) → Free p m' w' → run xs m' w' (suc q) ≡ reads G → NoName p (symbols_of G))
        → run (b ∷ xs) m w q ≡ reads F → NoName p (symbols_of F)
    on dead h dies k r = clash (rw h at r)
    on (go m' w') h (goes g) k r = k m' w' F g (rw h at r)
    on (says t m' w') h (tells s g) k r =
        let z = before-reads t (run xs m' w' (suc q)) F (rw h at r) in
        subst (λ (G : List Fact). NoName p (symbols_of G)) (sym z.2) (no_both s (k m' w' z.0 g z.1))

-- SO A NAME THAT STARTS AT p is begun in the mode `arg`
arg-or : (m : Mode) → (m ≡ arg) ⊎ (m ≡ arg → ⊥)
arg-or first = inr (λ e. (let z : ◌≡◌ {A = ℕ} 0 1 = cc in omega arith))
arg-or (head s) = inr (λ e. (let z : ◌≡◌ {A = ℕ} 0 1 = cc in omega arith))
arg-or arg = inl refl
arg-or (word n s) = inr (λ e. (let z : ◌≡◌ {A = ℕ} 0 1 = cc in omega arith))
arg-or minus = inr (λ e. (let z : ◌≡◌ {A = ℕ} 0 1 = cc in omega arith))
arg-or (digits sign v) = inr (λ e. (let z : ◌≡◌ {A = ℕ} 0 1 = cc in omega arith))
arg-or after = inr (λ e. (let z : ◌≡◌ {A = ℕ} 0 1 = cc in omega arith))
arg-or closed = inr (λ e. (let z : ◌≡◌ {A = ℕ} 0 1 = cc in omega arith))
arg-or stop = inr (λ e. (let z : ◌≡◌ {A = ℕ} 0 1 = cc in omega arith))
arg-or between = inr (λ e. (let z : ◌≡◌ {A = ℕ} 0 1 = cc in omega arith))
arg-or (remark m) = inr (λ e. (let z : ◌≡◌ {A = ℕ} 0 1 = cc in omega arith))

-- after some bytes a term is awaited, whatever follows
record After (u : List ℕ) (m : Mode) (w : Work) (q : ℕ) : Type 0 where
  facts : List Fact
  work' : Work
  on : (z : List ℕ) → run (u ++ z) m w q ≡ said facts (run z arg work' (q + length u))

after-go : {b : ℕ} {u : List ℕ} {m n : Mode} {w v : Work} {q : ℕ} → step m w q b ≡ go n v → After u n v (suc q) → After (b ∷ u) m w q
unfolding run
after-go {u = u} {q = q} h a =
    let e : q + suc (length u) ≡ suc q + length u = omega arith in
    record { facts = a.facts; work' = a.work'; on = λ z. rw (h, e) (a.on z) }

after-says : {b : ℕ} {u : List ℕ} {t : Fact} {m n : Mode} {w v : Work} {q : ℕ} → step m w q b ≡ says t n v → After u n v (suc q)
    → After (b ∷ u) m w q
unfolding run
after-says {u = u} {t = t} {q = q} h a =
    let e : q + suc (length u) ≡ suc q + length u = omega arith in
    record { facts = t ∷ a.facts; work' = a.work'; on = λ z. rw (h, e) (ap (fact_before t) (a.on z)) }

module _ (p e a : ℕ) (rest : List ℕ) where
  begun : (u : List ℕ) (m : Mode) (w : Work) (q : ℕ) (F : List Fact) → q + length u ≡ p → Free p m w → run (u ++ rest) m w q ≡ reads F
      → Memᴰ (name p e a) (symbols_of F) → After u m w q
  unfolding run flatten
  begun [] m w q F l f r x = by (arg-or m)
    where
      by : (m ≡ arg) ⊎ (m ≡ arg → ⊥) → After [] m w q
      by (inl y) =
          let z : q ≡ q + 0 = omega arith in
          record { facts = []; work' = w; on = λ s. ap (λ (n : Mode). run s n w q) y ∙ ap (run s arg w) z }
      by (inr n) = absurd ((no-later p rest m w q F (omega arith) (λ y. n) f r).none e a x)
  begun (b ∷ u) m w q F l f r x =
      on (step m w q b) refl (kept p q b m w f (λ y z. omega arith)) (λ n v G g s y. begun u n v (suc q) G (omega arith) g s y) r
    where
      on : (k : Next) → step m w q b ≡ k → Kept p k
          → ((n : Mode) (v : Work) (G : List Fact) → Free p n v → run (u ++ rest) n v (suc q) ≡ reads G → Memᴰ (name p e a) (symbols_of G)
          → After u n v (suc q))
          → run (b ∷ (u ++ rest)) m w q ≡ reads F → After (b ∷ u) m w q
      on dead h dies i s = clash (rw h at s)
      on (go n v) h (goes g) i s = after-go h (i n v F g (rw h at s) x)
      on (says t n v) h (tells k g) i s =
          let z = before-reads t (run (u ++ rest) n v (suc q)) F (rw h at s) in
          let y : Memᴰ (name p e a) (t.symbols ++ symbols_of z.0) = subst (λ (G : List Fact). Memᴰ (name p e a) (symbols_of G)) z.2 x in
          after-says h (i n v z.0 g z.1 (⊎_elim (λ o. absurd (k.none e a o)) (λ o. o) (mathlib.Core.List.Memᴰ.append_cases t.symbols y)))

pub record Awaits (u : List ℕ) : Type 0 where
  pub facts : List Fact
  pub work : Work
  pub on : (z : List ℕ) → text_of (u ++ z) ≡ said facts (run z arg work (length u))

pub awaits : (u : List ℕ) → TermNext u → Awaits u
unfolding text_of
awaits u x =
    let r = begun (length u) x.end x.args x.rest u first nothing 0 x.facts (omega arith)
    (record { mode = tt; out = no-nil; open' = tt }) (text-read (u ++ x.rest) x.text) x.there in
    record {
      facts = r.facts;
      work = r.work';
      on = λ z. r.on z ∙ ap (λ (p : ℕ). said r.facts (run z arg r.work' p)) (zero-add (length u));
    }
