-- What is left of an accepted text after each turn, law by law; and that it follows from what is promised for every text.
use Prim.Native.Nat.{ℕ, suc, ◌+◌, ◌-◌, ◌≤◌, ◌<◌}
use mathlib.Core.Path.{◌≡◌, refl, sym, ap, subst, ◌∙◌}
use mathlib.Core.Bool.{Bool, true, false, cond}
use mathlib.Core.List.{List, [], ◌∷◌, ◌++◌, flatten, append_assoc}
use native.Mathlib.Omega.{arith}
use lib.Dec.{ltb}
use lib.ListN.{length, drop, set}
use lib.Seq.{drop-append_seam}
use Rattle.grammar.specs.Grammar.{Symbol, name, variable, number, Fact, Facts, last, more}
use Rattle.grammar.specs.Reader.{Mode, arg, after, closed, Frame, frame, Work, work, dead, go, put, push, on_comma, on_close, stop, stops, reads}
use Rattle.grammar.specs.Reader.{run, text_of, nothing}
use Rattle.grammar.proofs.Accepted.{accepted}
use Rattle.grammar.proofs.Sound.{clash, before-reads}
use Rattle.grammar.specs.Reader.{Held, none}
use Rattle.grammar.proofs.HeldLaws.{held-put, held-push, held-comma, held-close}
use Rattle.loading.specs.Items.{Item, next_row, item_of, items_in, rows_in, items_of}
use Rattle.loading.proofs.KeepLaws.{Inside, in-arg, in_after, items-put, items-set}
use Rattle.loading.proofs.KeepLaws as keep
use Rattle.lex.specs.Turns.{term_mode, on_mark, Turns}
use Rattle.lex.specs.Heads.{Heads, Closes}
use Rattle.lex.specs.declared.turn.Turn.{Turn}
use Rattle.lex.specs.declared.turn.Turn.TheVariants as turn
use Rattle.lex.specs.declared.fact.Head.TheVariants as head
use Rattle.std.specs.Prelude.{Option, Some, None, Ok}
use Rattle.symbols.specs.Next.{spot, RowEnds, Begins, RowAhead, After, NextIs}
use Rattle.symbols.specs.Next as next
use Rattle.symbols.specs.code.Left.{fact_of, RowLeft, Left, LeftAfter, AheadLeft, StartLeft}
use Rattle.symbols.specs.declared.Ahead.{Ahead}
use Rattle.symbols.specs.declared.Ahead.TheVariants as ahead
use Rattle.symbols.specs.declared.Spot.{Spot}

-- lists that begin the same go on the same
same_rest : {A : Type 0} (xs ys zs : List A) → xs ++ ys ≡ xs ++ zs → ys ≡ zs
same_rest xs ys zs e = sym (drop-append_seam xs ys) ∙ ap (drop (length xs)) e ∙ drop-append_seam xs zs

inside : (past : Bool) → Inside (term_mode past)
inside true = in_after
inside false = in-arg

-- A COMMA AND A BRACKET, on the work under way: where the text is read to the end, no name has had its four arguments before
unfoldable pub comma_to : ℕ → ℕ → ℕ → List Frame → List Symbol → Work
comma_to s n k [] out = work s n (suc k) [] out
comma_to s n k (f ∷ fs) out =
    work s n k (frame f.owner f.start f.end (suc f.done) ∷ fs) (set out f.owner (name f.start f.end (suc f.done)))

unfoldable pub close_to : ℕ → ℕ → ℕ → Frame → List Frame → List Symbol → Work
close_to s n k f fs out = work s n k fs (set out f.owner (name f.start f.end (suc f.done)))

pub record Marked (t : List ℕ) (p : ℕ) (past : Bool) (fs : List Frame) (out : List Symbol) (facts : List Fact) (w : Work) : Type 0 where
  pub held : Held w.out w.opened
  pub items : items_in w.out ≡ items_in out
  pub same : run (drop (p + 1) t) (term_mode past) w (p + 1) ≡ reads facts

pub comma-marks : (t : List ℕ) (p s n k : ℕ) (fs : List Frame) (out : List Symbol) (facts : List Fact) → Held out fs
    → on_mark t p (on_comma s n k fs out) ≡ reads facts
    → Marked t p false fs out facts (comma_to s n k fs out)
unfolding on_comma comma_to
comma-marks t p s n k [] out facts h e = record { held = h; items = refl; same = e }
comma-marks t p s n k (f ∷ fs) out facts h e = record { held = held-comma h; items = items-set (suc f.done) h; same = by (ltb f.done 3) e }
  where
    by : (b : Bool) → on_mark t p (cond b (go arg (work s n k (frame f.owner f.start f.end (suc f.done) ∷ fs)
        (set out f.owner (name f.start f.end (suc f.done))))) dead) ≡ reads facts
        → run (drop (p + 1) t) arg (work s n k (frame f.owner f.start f.end (suc f.done) ∷ fs)
        (set out f.owner (name f.start f.end (suc f.done)))) (p + 1) ≡ reads facts
    by true q = q
    by false q = clash q

pub comma-deep : (s n k : ℕ) (fs : List Frame) (out : List Symbol) → length (comma_to s n k fs out).opened ≡ length fs
unfolding comma_to
comma-deep s n k [] out = refl
comma-deep s n k (f ∷ fs) out = refl

close_deep : (s n k : ℕ) (f : Frame) (fs : List Frame) (out : List Symbol) → length (close_to s n k f fs out).opened ≡ length fs
unfolding close_to
close_deep s n k f fs out = refl

pub close-marks : (t : List ℕ) (p s n k : ℕ) (f : Frame) (fs : List Frame) (out : List Symbol) (facts : List Fact) → Held out (f ∷ fs)
    → on_mark t p (on_close s n k (f ∷ fs) out) ≡ reads facts
    → Marked t p true (f ∷ fs) out facts (close_to s n k f fs out)
unfolding on_close close_to
close-marks t p s n k f fs out facts h e = record { held = held-close h; items = items-set (suc f.done) h; same = e }

-- THE END OF A ROW
module _ (t : List ℕ) (at q : ℕ) (c : Closes t at (Ok q)) (w : Work) (facts : List Fact) (r : run (drop at t) closed w at ≡ reads facts) where
  full-stop : (fs : List Fact) × (run (drop q t) stop nothing q ≡ reads fs) × (facts ≡ fact_of w ∷ fs)
  full-stop = before-reads (fact_of w) (run (drop q t) stop nothing q) facts (sym (c.same w) ∙ r)

reads-one : {gs hs : List Fact} → reads gs ≡ reads hs → gs ≡ hs
reads-one e = cc

pub row_reads : {t : List ℕ} {at : ℕ} {r : Option ℕ} → RowEnds t at r → RowLeft t at r
row_reads {t} {at} (next.another {q = q} {s = s} {e = e} c h) = (
  omega (arith, c.arrives.0, h.reaches.0, h.reaches.1),
  omega (arith, h.reaches.2),
  λ w facts r. (
      let z = full-stop t at q c w facts r in
      record { start = s; end = e; later = z.0; is = z.2; same = sym (h.same nothing) ∙ z.1 }),
)
row_reads {t} {at} (next.no_more {q = q} c h) = λ w facts r. (
    let z = full-stop t at q c w facts r in
    z.2 ∙ ap (λ (gs : List Fact). fact_of w ∷ gs) (reads-one (sym z.1 ∙ h.same nothing)))
row_reads {t} {at} (next.no-fact {q = q} c h) = λ w facts r. clash (sym (h.same nothing) ∙ (full-stop t at q c w facts r).1)
row_reads (next.no_stop c) = λ w facts r. clash (sym (c.same w) ∙ r)

-- with what is met, the items of what is read go on
record GoesOn (w : Work) (facts : List Fact) : Type 0 where
  rest : List Item
  is : items_of facts ≡ items_in w.out ++ rest

goes_on : (xs : List ℕ) (m : Mode) (w : Work) (p : ℕ) (facts : List Fact) → Held w.out w.opened → Inside m → run xs m w p ≡ reads facts → GoesOn w facts
goes_on xs m w p facts h i e =
    let a = keep.ahead xs m w p facts h i e in
    record {
      rest = a.keeps.rest ++ rows_in a.rest;
      is =
          ap items_of a.is ∙ ap (λ (l : List Item). l ++ rows_in a.rest) a.keeps.is
          ∙ append_assoc (items_in w.out) a.keeps.rest (rows_in a.rest);
    }

module _ (t : List ℕ) (sp : Spot) (rest : List Item) (L : Left t sp rest) where
  -- a symbol more: it is the first of what was left
  with-symbol : (x : Symbol) (w' : Work) (to : Spot) → w'.out ≡ L.work.out ++ (x ∷ []) → to.at ≤ length t → to.depth ≤ to.at
      → length w'.opened ≡ to.depth
      → Held w'.out w'.opened → run (drop to.at t) (term_mode to.past) w' to.at ≡ reads L.facts → LeftAfter t (item_of x) to rest
  with-symbol x w' to o h k d held r =
      let g = goes_on (drop to.at t) (term_mode to.past) w' to.at L.facts held (inside to.past) r in
      let out = items_in L.work.out in
      let e : out ++ rest ≡ out ++ (item_of x ∷ g.rest) =
      sym L.items ∙ g.is ∙ ap (λ (l : List Symbol). items_in l ++ g.rest) o ∙ ap (λ (l : List Item). l ++ g.rest) (items-put L.work.out x)
      ∙ append_assoc out (item_of x ∷ []) g.rest in
      record {
        after = g.rest;
        is = same_rest out rest (item_of x ∷ g.rest) e;
        left = record { work = w'; facts = L.facts; within = h; few = k; deep = d; held = held; same = r; items = g.is };
      }

  put-left : (x : Symbol) (e : ℕ) → sp.at < e → e ≤ length t
      → ((v : Work) → run (drop sp.at t) (term_mode sp.past) v sp.at ≡ run (drop e t) after (put x v) e)
      → LeftAfter t (item_of x) (spot e true sp.depth) rest
  unfolding put
  put-left x e l h f =
      with-symbol x (put x L.work) (spot e true sp.depth) refl h (omega (arith, L.few)) L.deep (held-put x L.held) (sym (f L.work) ∙ L.same)

  push-left : (s e : ℕ) → sp.at < e → e < length t
      → ((v : Work) → run (drop sp.at t) (term_mode sp.past) v sp.at ≡ run (drop (e + 1) t) arg (push s e v) (e + 1))
      → LeftAfter t (item_of (name s e 0)) (spot (e + 1) false (sp.depth + 1)) rest
  unfolding push
  push-left s e l h f =
      with-symbol (name s e 0) (push s e L.work) (spot (e + 1) false (sp.depth + 1)) refl (omega arith) (omega (arith, L.few))
      (omega (arith, L.deep)) (held-push s e L.held)
      (sym (f L.work) ∙ L.same)

  -- the same symbols, a mark further
  marked : (p : ℕ) (past : Bool) (depth : ℕ) {fs : List Frame} (w' : Work) → sp.at ≤ p → p < length t → depth ≤ sp.depth → length w'.opened ≡ depth
      → Marked t p past fs L.work.out L.facts w' → Left t (spot (p + 1) past depth) rest
  marked p past depth w' l h k d m =
      record {
        work = w';
        facts = L.facts;
        within = omega arith;
        few = omega (arith, L.few);
        deep = d;
        held = m.held;
        same = m.same;
        items = L.items ∙ ap (λ (xs : List Item). xs ++ rest) (sym m.items);
      }

  comma-left : (p : ℕ) → sp.at ≤ p → p < length t
      → ((v : Work) → run (drop sp.at t) (term_mode sp.past) v sp.at ≡ on_mark t p (on_comma v.start v.end v.done v.opened v.out))
      → Left t (spot (p + 1) false sp.depth) rest
  comma-left p l h f =
      let v = L.work in
      marked p false sp.depth (comma_to v.start v.end v.done v.opened v.out) l h (omega arith)
      (comma-deep v.start v.end v.done v.opened v.out ∙ L.deep)
      (comma-marks t p v.start v.end v.done v.opened v.out L.facts L.held (sym (f v) ∙ L.same))

  module _ (p : ℕ) (l : sp.at ≤ p) (h : p < length t)
      (f : (v : Work) → run (drop sp.at t) (term_mode sp.past) v sp.at ≡ on_mark t p (on_close v.start v.end v.done v.opened v.out)) where
    close-left : (sp.depth ≡ 0 → ⊥) → Left t (spot (p + 1) true (sp.depth - 1)) rest
    close-left n = by L.work.opened L.deep L.held (sym (f L.work) ∙ L.same)
      where
        by : (fs : List Frame) → length fs ≡ sp.depth → Held L.work.out fs
            → on_mark t p (on_close L.work.start L.work.end L.work.done fs L.work.out) ≡ reads L.facts
            → Left t (spot (p + 1) true (sp.depth - 1)) rest
        by [] d held r = absurd (n (sym d))
        by (g ∷ fs) d held r =
            marked p true (sp.depth - 1) (close_to L.work.start L.work.end L.work.done g fs L.work.out) l h (omega arith)
            (close_deep L.work.start L.work.end L.work.done g fs L.work.out ∙ omega (arith, d))
            (close-marks t p L.work.start L.work.end L.work.done g fs L.work.out L.facts held r)

    -- the fact's own bracket
    closed-left : sp.depth ≡ 0 → run (drop (p + 1) t) closed L.work (p + 1) ≡ reads L.facts
    unfolding on_close
    closed-left z = by L.work.opened (L.deep ∙ z) (sym (f L.work) ∙ L.same)
      where
        by : (fs : List Frame) → length fs ≡ 0 → on_mark t p (on_close L.work.start L.work.end L.work.done fs L.work.out) ≡ reads L.facts
            → run (drop (p + 1) t) closed (work L.work.start L.work.end L.work.done fs L.work.out) (p + 1) ≡ reads L.facts
        by [] d r = r
        by (g ∷ fs) d r = absurd (omega arith)

    -- and then the next row, or nothing
    row-left : (q : ℕ) → sp.depth ≡ 0 → RowLeft t (p + 1) (Some q) → LeftAfter t next_row (spot q false 0) rest
    unfolding flatten
    row-left q z x =
        let v = L.work in
        let n = x.2 v L.facts (closed-left z) in
        let a = keep.ahead (drop q t) arg (work n.start n.end 0 [] []) q n.later none in-arg n.same in
        let e : items_in v.out ++ rest ≡ items_in v.out ++ (next_row ∷ items_of n.later) =
        sym L.items ∙ ap items_of n.is ∙ ap (λ (gs : List Fact). items_in v.out ++ rows_in gs) a.is
        ∙ ap (λ (gs : List Fact). items_in v.out ++ (next_row ∷ items_of gs)) (sym a.is) in
        record {
          after = items_of n.later;
          is = same_rest (items_in v.out) rest (next_row ∷ items_of n.later) e;
          left = record {
            work = work n.start n.end 0 [] [];
            facts = n.later;
            within = x.1;
            few = omega arith;
            deep = refl;
            held = none;
            same = n.same;
            items = refl;
          };
        }

    none_left : sp.depth ≡ 0 → RowLeft t (p + 1) None → rest ≡ []
    unfolding flatten
    none_left z x =
        let v = L.work in
        same_rest (items_in v.out) rest [] (sym L.items ∙ ap items_of (x v L.facts (closed-left z)))

  no_stop : (p : ℕ) → ((v : Work) → run (drop sp.at t) (term_mode sp.past) v sp.at ≡ stops p) → ⊥
  no_stop p f = clash (sym (f L.work) ∙ L.same)

-- WHAT STANDS NEXT, from a place that has been reached by marks alone
module _ (t : List ℕ) (from : Spot) (at : ℕ) (past : Bool) (depth : ℕ) (low : from.at ≤ at)
    (here : (rest : List Item) → Left t from rest → Left t (spot at past depth) rest) where
  name-ahead : (s e : ℕ) → Turns t at past (turn.Name s e) → AheadLeft t from (ahead.Name s e (spot e true depth))
  unfolding item_of
  name-ahead s e c = (
    omega (arith, c.leads.0),
    c.leads.1,
    omega arith,
    record {
      on = omega (arith, c.leads.0, c.leads.1);
      within = c.leads.2;
      left = λ rest L. put-left t (spot at past depth) rest (here rest L) (name s e 0) e (omega (arith, c.leads.0, c.leads.1)) c.leads.2 c.same;
    },
  )

  open-ahead : (s e : ℕ) → Turns t at past (turn.Open s e) → AheadLeft t from (ahead.Name s e (spot (e + 1) false (depth + 1)))
  unfolding item_of
  open-ahead s e c = (
    omega (arith, c.leads.0),
    c.leads.1,
    omega arith,
    record {
      on = omega (arith, c.leads.0, c.leads.1);
      within = omega (arith, c.leads.2);
      left = λ rest L. push-left t (spot at past depth) rest (here rest L) s e (omega (arith, c.leads.0, c.leads.1)) c.leads.2 c.same;
    },
  )

  variable-ahead : (s e : ℕ) → Turns t at past (turn.Variable s e) → AheadLeft t from (ahead.Variable s e (spot e true depth))
  unfolding item_of
  variable-ahead s e c = (
    omega (arith, c.leads.0),
    c.leads.1,
    omega arith,
    record {
      on = omega (arith, c.leads.0, c.leads.1);
      within = c.leads.2;
      left = λ rest L. put-left t (spot at past depth) rest (here rest L) (variable s e) e (omega (arith, c.leads.0, c.leads.1)) c.leads.2 c.same;
    },
  )

  number-ahead : (v e : ℕ) → Turns t at past (turn.Number v e) → AheadLeft t from (ahead.Number v (spot e true depth))
  unfolding item_of
  number-ahead v e c = (
    c.leads.2,
    record {
      on = omega (arith, c.leads.0);
      within = c.leads.1;
      left = λ rest L. put-left t (spot at past depth) rest (here rest L) (number v) e c.leads.0 c.leads.1 c.same;
    },
  )

  comma-on : (p : ℕ) → Turns t at past (turn.Comma p) → (rest : List Item) → Left t from rest → Left t (spot (p + 1) false depth) rest
  comma-on p c rest L = comma-left t (spot at past depth) rest (here rest L) p c.leads.0 c.leads.1 c.same

  close-on : (p : ℕ) → Turns t at past (turn.Close p) → (depth ≡ 0 → ⊥) → (rest : List Item) → Left t from rest → Left t (spot (p + 1) true (depth - 1)) rest
  close-on p c n rest L = close-left t (spot at past depth) rest (here rest L) p c.leads.0 c.leads.1 c.same n

  row-ahead : {p : ℕ} {r : Ahead} → Turns t at past (turn.Close p) → depth ≡ 0 → RowAhead t (p + 1) r → AheadLeft t from r
  row-ahead {p} c z (next.next_row {q = q} x) =
      let y = row_reads x in
      record {
        on = omega (arith, c.leads.0, y.0);
        within = y.1;
        left = λ rest L. row-left t (spot at past depth) rest (here rest L) p c.leads.0 c.leads.1 c.same q z y;
      }
  row-ahead {p} c z (next.last_row x) = λ rest L. none_left t (spot at past depth) rest (here rest L) p c.leads.0 c.leads.1 c.same z (row_reads x)

  stop-ahead : (p : ℕ) → Turns t at past (turn.Stop p) → AheadLeft t from ahead.End
  stop-ahead p c = λ rest L. absurd (no_stop t (spot at past depth) rest (here rest L) p c.same)

-- turn after turn
after-ahead : (t : List ℕ) (from : Spot) (at : ℕ) (past : Bool) (depth : ℕ) {x : Turn} {r : Ahead} → from.at ≤ at
    → ((rest : List Item) → Left t from rest → Left t (spot at past depth) rest) → Turns t at past x → After t depth x r → AheadLeft t from r
after-ahead t from at past depth l here c (next.a-name {s = s} {e = e}) = name-ahead t from at past depth l here s e c
after-ahead t from at past depth l here c (next.opens {s = s} {e = e}) = open-ahead t from at past depth l here s e c
after-ahead t from at past depth l here c (next.a-variable {s = s} {e = e}) = variable-ahead t from at past depth l here s e c
after-ahead t from at past depth l here c (next.a-number {v = v} {e = e}) = number-ahead t from at past depth l here v e c
after-ahead t from at past depth l here c (next.comma {p = p} u a) =
    after-ahead t from (p + 1) false depth (omega (arith, c.leads.0)) (comma-on t from at past depth l here p c) u a
after-ahead t from at past (suc depth) l here c (next.close {p = p} u a) =
    let e : suc depth - 1 ≡ depth = omega arith in
    after-ahead t from (p + 1) true depth (omega (arith, c.leads.0))
    (λ rest L. subst (λ (d : ℕ). Left t (spot (p + 1) true d) rest) e (close-on t from at past (suc depth) l here p c (λ z. omega arith) rest L)) u a
after-ahead t from at past depth l here c (next.row x) = row-ahead t from at past 0 l here c refl x
after-ahead t from at past depth l here c (next.stop {p = p}) = stop-ahead t from at past depth l here p c

pub next-reads : {t : List ℕ} {sp : Spot} {r : Ahead} → NextIs t sp r → AheadLeft t sp r
next-reads (next.too-deep h) = λ rest L. absurd (omega (arith, L.few, L.within))
next-reads {t} {sp} (next.stands h c a) = after-ahead t sp sp.at sp.past sp.depth (omega arith) (λ rest L. L) c a

-- THE START
begins : (t : List ℕ) (s e : ℕ) → Heads t 0 true (head.Open s e) → StartLeft t (spot (e + 1) false 0)
unfolding text_of
begins t s e h =
    record {
      within = omega (arith, h.reaches.2);
      spot = refl;
      first = λ facts r. record { start = s; end = e; same = sym (h.same nothing) ∙ r };
      left = λ facts r. record {
        work = work s e 0 [] [];
        facts = facts;
        within = omega (arith, h.reaches.2);
        few = omega arith;
        deep = refl;
        held = none;
        same = sym (h.same nothing) ∙ r;
        items = refl;
      };
    }

-- a text that has no fact is none
begins-not : (t : List ℕ) → ((facts : List Fact) → text_of t ≡ reads facts → ⊥) → StartLeft t (spot 0 false 0)
begins-not t n = record { within = omega arith; spot = refl; first = λ facts e. absurd (n facts e); left = λ facts e. absurd (n facts e) }

-- nor has one no facts
no-facts : {p : ℕ} {xs : List ℕ} {fs : List Fact} → Facts p xs fs → fs ≡ [] → ⊥
no-facts (last o g) e = let z : ◌≡◌ {A = ℕ} 0 1 = cc in omega arith
no-facts (more o g h r) e = let z : ◌≡◌ {A = ℕ} 0 1 = cc in omega arith

pub start-reads : {t : List ℕ} {sp : Spot} → Begins t sp → StartLeft t sp
unfolding text_of
start-reads {t} (next.opens {s = s} {e = e} h) = begins t s e h
start-reads {t} (next.empty h) = begins-not t (λ facts e. no-facts ((accepted t []).0 (h.same nothing)).facts refl)
start-reads {t} (next.no-fact h) = begins-not t (λ facts e. clash (sym (h.same nothing) ∙ e))
