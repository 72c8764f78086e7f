-- A reading that succeeds keeps every symbol that it has met: the fact under way is the next fact, and its symbols begin with these, but for their numbers
-- of arguments.
use Prim.Native.Nat.{ℕ, suc, ◌+◌, ◌-◌, ◌*◌}
use mathlib.Core.Path.{◌≡◌, refl, sym, ap, ◌∙◌}
use mathlib.Core.Bool.{Bool, true, false, cond, ◌&&◌}
use mathlib.Core.List.{List, [], ◌∷◌, ◌++◌, append-nil, append_assoc}
use lib.Dec.{eqb, leb, ltb}
use lib.ListN.{set}
use lib.Seq.{map-set_same}
use Rattle.grammar.specs.Grammar.{is_lower, is_upper, is_digit, is_word, Symbol, name, number, Fact}
use Rattle.grammar.specs.Reader.{Mode, arg, word, minus, digits, after, closed, remark, Frame, frame, Work, work, Next, dead, go, says, is_blank}
use Rattle.grammar.specs.Reader.{layout, push, put, on_comma, on_close, past, symbol, limit, bits_after, step, Out, stops, reads, fact_before, finish}
use Rattle.grammar.specs.Reader.{follow, run, Held, none, more}
use Rattle.grammar.proofs.Sound.{clash, before-reads}
use Rattle.grammar.proofs.HeldLaws.{held-put, held-push, held-comma, held-close}
use Rattle.loading.specs.Items.{Item, item_of, items_in}

-- the modes inside a fact; a text that ends there is none
pub data Inside : Mode → Type 0 where
  in-arg : Inside arg
  in-word : {n : Bool} {s : ℕ} → Inside (word n s)
  in-minus : Inside minus
  in-digits : {sign : Bool} {v : ℕ} → Inside (digits sign v)
  in_after : Inside after
  in-closed : Inside closed
  in-remark : {m : Mode} → Inside m → Inside (remark m)

ended : (m : Mode) (p : ℕ) {F : List Fact} → Inside m → finish m p ≡ reads F → ⊥
unfolding finish
ended arg p in-arg e = clash e
ended (word n s) p in-word e = clash e
ended minus p in-minus e = clash e
ended (digits sign v) p in-digits e = clash e
ended after p in_after e = clash e
ended closed p in-closed e = clash e
ended (remark m) p (in-remark i) e = ended m p i e
ended Rattle.grammar.specs.Reader.first p {F = F} x'' e = elim x'' [ ]
ended (Rattle.grammar.specs.Reader.head _) p {F = F} x4 e = elim x4 [ ]
ended Rattle.grammar.specs.Reader.stop p {F = F} x4 e = elim x4 [ ]
ended Rattle.grammar.specs.Reader.between p {F = F} x5 e = elim x5 [ ]

-- a list begins with another
pub record Front (xs ys : List Item) : Type 0 where
  pub rest : List Item
  pub is : ys ≡ xs ++ rest

same-front : {xs ys : List Item} → ys ≡ xs → Front xs ys
same-front {xs} e = record { rest = []; is = e ∙ sym (append-nil xs) }

front-on : {xs ys zs : List Item} → Front xs ys → Front ys zs → Front xs zs
front-on {xs} a b =
    record { rest = a.rest ++ b.rest; is = b.is ∙ ap (λ (l : List Item). l ++ b.rest) a.is ∙ append_assoc xs a.rest b.rest }

pub items-put : (out : List Symbol) (x : Symbol) → items_in (out ++ (x ∷ [])) ≡ items_in out ++ (item_of x ∷ [])
items-put [] x = refl
items-put (y ∷ out) x = ap (λ (l : List Item). item_of y ∷ l) (items-put out x)

-- one argument more changes no item
pub items-set : {out : List Symbol} {f : Frame} {fs : List Frame} (k : ℕ) → Held out (f ∷ fs)
    → items_in (set out f.owner (name f.start f.end k)) ≡ items_in out
unfolding item_of
items-set {out} {f} k (more l e u h) = map-set_same item_of out f.owner (name f.start f.end k) (number 0) (sym (ap item_of e))

-- one byte further inside a fact
data Keeps (w : Work) : Next → Type 0 where
  dies : Keeps w dead
  goes : {m : Mode} {w' : Work} → Inside m → Held w'.out w'.opened → Front (items_in w.out) (items_in w'.out) → Keeps w (go m w')
  ends : {f : Fact} {m : Mode} {w' : Work} → Front (items_in w.out) (items_in f.symbols) → Keeps w (says f m w')

choose : {w : Work} (b : Bool) {x y : Next} → Keeps w x → Keeps w y → Keeps w (cond b x y)
choose true a b = a
choose false a b = b

longer : {w w' : Work} {n : Next} → Front (items_in w.out) (items_in w'.out) → Keeps w' n → Keeps w n
longer h dies = dies
longer h (goes i g l) = goes i g (front-on h l)
longer h (ends l) = ends (front-on h l)

stays : {w : Work} {m : Mode} → Held w.out w.opened → Inside m → Keeps w (go m w)
stays h i = goes i h (same-front refl)

layout-keeps : (m : Mode) (w : Work) (b : ℕ) → Held w.out w.opened → Inside m → Keeps w (layout m w b)
unfolding layout
layout-keeps m w b h i = choose (is_blank b) (stays h i) (choose (eqb b 37) (stays h (in-remark i)) dies)

comma-keeps : (s n k : ℕ) (fs : List Frame) (out : List Symbol) → Held out fs → Keeps (work s n k fs out) (on_comma s n k fs out)
unfolding on_comma
comma-keeps s n k [] out h = goes in-arg h (same-front refl)
comma-keeps s n k (f ∷ fs) out h = choose (ltb f.done 3) (goes in-arg (held-comma h) (same-front (items-set (suc f.done) h))) dies

close-keeps : (s n k : ℕ) (fs : List Frame) (out : List Symbol) → Held out fs → Keeps (work s n k fs out) (on_close s n k fs out)
unfolding on_close
close-keeps s n k [] out h = goes in-closed h (same-front refl)
close-keeps s n k (f ∷ fs) out h = goes in_after (held-close h) (same-front (items-set (suc f.done) h))

past-keeps : (w : Work) (b : ℕ) → Held w.out w.opened → Keeps w (past w b)
unfolding past
past-keeps w b h =
    choose (eqb b 44) (comma-keeps w.start w.end w.done w.opened w.out h)
    (choose (eqb b 41) (close-keeps w.start w.end w.done w.opened w.out h) (layout-keeps after w b h in_after))

put_keeps : (x : Symbol) (w : Work) (b : ℕ) → Held w.out w.opened → Keeps w (past (put x w) b)
unfolding put
put_keeps x w b h = longer (record { rest = item_of x ∷ []; is = items-put w.out x }) (past-keeps (put x w) b (held-put x h))

push-keeps : (s n : ℕ) (w : Work) → Held w.out w.opened → Keeps w (go arg (push s n w))
unfolding push
push-keeps s n w h = goes in-arg (held-push s n h) (record { rest = item_of (name s n 0) ∷ []; is = items-put w.out (name s n 0) })

step_keeps : (m : Mode) (w : Work) (p b : ℕ) → Held w.out w.opened → Inside m → Keeps w (step m w p b)
unfolding step
step_keeps arg w p b h i =
    choose (is_lower b) (stays h in-word)
    (choose (is_upper b) (stays h in-word)
    (choose (is_digit b) (stays h in-digits)
    (choose (eqb b 45) (stays h in-minus) (layout-keeps arg w b h in-arg))))
step_keeps (word n s) w p b h i = choose (is_word b) (stays h in-word) (choose (n && eqb b 40) (push-keeps s p w h) (put_keeps (symbol n s p) w b h))
step_keeps minus w p b h i = choose (is_digit b) (stays h in-digits) dies
step_keeps (digits sign v) w p b h i =
    choose (is_digit b) (choose (leb (10 * v + (b - 48)) (limit sign)) (stays h in-digits) dies) (put_keeps (number (bits_after sign v)) w b h)
step_keeps after w p b h i = past-keeps w b h
step_keeps closed w p b h i = choose (eqb b 46) (ends (same-front refl)) (layout-keeps closed w b h in-closed)
step_keeps (remark m) w p b h (in-remark i) = choose (eqb b 10) (stays h i) (stays h (in-remark i))
step_keeps Rattle.grammar.specs.Reader.first w p b h i = elim i [ ]
step_keeps (Rattle.grammar.specs.Reader.head _) w p b h i = elim i [ ]
step_keeps Rattle.grammar.specs.Reader.stop w p b h i = elim i [ ]
step_keeps Rattle.grammar.specs.Reader.between w p b h i = elim i [ ]

-- the next fact
pub record Ahead (w : Work) (F : List Fact) : Type 0 where
  pub fact : Fact
  pub rest : List Fact
  pub is : F ≡ fact ∷ rest
  pub keeps : Front (items_in w.out) (items_in fact.symbols)

pub ahead : (xs : List ℕ) (m : Mode) (w : Work) (p : ℕ) (F : List Fact) → Held w.out w.opened → Inside m → run xs m w p ≡ reads F → Ahead w F
unfolding run
ahead [] m w p F h i r = absurd (ended m p i r)
ahead (b ∷ xs) m w p F h i r = on (step_keeps m w p b h i) (λ m' w' h' i'. ahead xs m' w' (suc p) F h' i') r
  where
    on : {n : Next} → Keeps w n → ((m' : Mode) (w' : Work) → Held w'.out w'.opened → Inside m' → run xs m' w' (suc p) ≡ reads F → Ahead w' F)
        → follow n p (λ (m' : Mode) (w' : Work). run xs m' w' (suc p)) ≡ reads F → Ahead w F
    on dies k q = clash q
    on (goes {m = m'} {w' = w'} j g l) k q =
        let a = k m' w' g j q in
        record { fact = a.fact; rest = a.rest; is = a.is; keeps = front-on l a.keeps }
    on (ends {f = f} {m = m'} {w' = w'} l) k q =
        let z = before-reads f (run xs m' w' (suc p)) F q in
        record { fact = f; rest = z.0; is = z.2; keeps = l }
