-- The writing of the cells, law by law.
use Prim.Native.Nat.{ℕ, suc, ◌+◌, ◌-◌, ◌/◌, ◌%◌, ◌^◌, ◌≤◌, ◌<◌}
use mathlib.Core.Path.{◌≡◌, refl, sym, ap, ap₂, subst, ◌∙◌}
use mathlib.Core.Bool.{Bool, true, false, cond}
use mathlib.Core.List.{List, [], ◌∷◌, ◌++◌, flatten, append_assoc, append-nil}
use native.Mathlib.Omega.{arith}
use lib.Dec.{ltb}
use lib.ListN.{length, get_or, drop, set, length-append, length-set, get_or-append}
use lib.Seq.{set-append_left, get_or-append-add, get_or-set_same, get_or-set_other}
use borrow.Author.Tests.{ltb-true}
use Rattle.cell.specs.Cell.{name_cell}
use Rattle.grammar.specs.Grammar.{Symbol, name, number, Fact}
use Rattle.grammar.specs.Meaning.{symbols_of}
use Rattle.grammar.specs.Reader.{Mode, arg, after, closed, Frame, frame, Work, work, dead, go, put, push, on_comma, on_close, stops, reads, run}
use Rattle.grammar.proofs.Sound.{clash}
use Rattle.grammar.specs.Reader.{Under, Held, none, more}
use Rattle.grammar.proofs.HeldLaws.{held-put, held-push}
use Rattle.loading.specs.Items.{items_in, shape_of, shapes}
use Rattle.loading.proofs.ItemLaws.{shapes-more, shapes-set, shape_at, shapes-long}
use Rattle.loading.proofs.KeepLaws.{Inside, in-arg, in_after}
use Rattle.loading.proofs.KeepLaws as keep
use Rattle.lex.specs.Turns.{term_mode, on_mark}
use Rattle.symbols.specs.Next.{RowEnds}
use Rattle.symbols.specs.code.Left.{fact_of, FirstRow}
use Rattle.std.specs.Prelude.{Some, None}
use Rattle.symbols.proofs.LeftLaws.{row_reads, comma_to, close_to, comma-marks, close-marks}
use Rattle.texttable.proofs.NumberLaws.{set_next}
use Rattle.texttable.specs.code.Cells.{making, with_argument, Owned, sofar, Makes, Roomy, cells_in}
use Rattle.texttable.specs.declared.cells.Making.{Making}

inside : (past : Bool) → Inside (term_mode past)
inside true = in_after
inside false = in-arg

-- LISTS: a store behind a beginning; a store at the end of what is written
set-behind : {A : Type 0} (xs ys : List A) (i : ℕ) (a : A) → set (xs ++ ys) (length xs + i) a ≡ xs ++ set ys i a
set-behind {A} [] ys i a = let e : 0 + i ≡ i = omega arith in ap (λ (n : ℕ). set ys n a) e
set-behind {A} (x ∷ xs) ys i a = let e : suc (length xs) + i ≡ suc (length xs + i) = omega arith in ap (λ (n : ℕ). set (x ∷ xs ++ ys) n a) e
    ∙ ap (λ (l : List A). x ∷ l) (set-behind xs ys i a)

-- A CELL: one more argument
with-argument : (a n : ℕ) → a ≤ 3 → n < 65536 → with_argument (name_cell a n) ≡ name_cell (suc a) n
with-argument a n h l =
    let e : (name_cell a n / 2 ^ 16 % 2 ^ 3 + 1) % 2 ^ 3 ≡ suc a = omega arith in
    let f : name_cell a n % 2 ^ 16 % 2 ^ 16 ≡ n = omega arith in
    ap₂ name_cell e f

-- ROOM: what is met is part of what is read
symbols-append : (fs gs : List Fact) → symbols_of (fs ++ gs) ≡ symbols_of fs ++ symbols_of gs
unfolding flatten
symbols-append [] gs = refl
symbols-append (f ∷ fs) gs = ap (λ (l : List Symbol). f.symbols ++ l) (symbols-append fs gs) ∙ sym (append_assoc f.symbols (symbols_of fs) (symbols_of gs))

items-long : (ss : List Symbol) → length (items_in ss) ≡ length ss
items-long [] = refl
items-long (x ∷ ss) = ap suc (items-long ss)

met-few : (xs : List ℕ) (m : Mode) (w : Work) (p : ℕ) (facts before later : List Fact) → facts ≡ before ++ later → Held w.out w.opened
    → Inside m → run xs m w p ≡ reads later
    → length (sofar before w) ≤ length (symbols_of facts)
unfolding flatten
met-few xs m w p facts before later e h i r =
    let a = keep.ahead xs m w p later h i r in
    let k : length w.out ≤ length a.fact.symbols =
    omega (arith, items-long w.out, items-long a.fact.symbols, ap length a.keeps.is, length-append (items_in w.out) a.keeps.rest) in
    let s = ap length (ap symbols_of e ∙ symbols-append before later) ∙ length-append (symbols_of before) (symbols_of later) in
    let l = ap (λ (gs : List Fact). length (symbols_of gs)) a.is ∙ length-append a.fact.symbols (symbols_of a.rest) in
    omega (arith, k, s, l, length-append (symbols_of before) w.out)

-- fewer names are open than symbols are met
under-few : {out : List Symbol} {fs : List Frame} (n : ℕ) → Held out fs → Under n fs → length fs ≤ n
under-few n none u = omega arith
under-few n (more {f = f} l e v h) u = omega (arith, under-few f.owner h v, u.0)

held-few : {out : List Symbol} {fs : List Frame} → Held out fs → length fs ≤ length out
held-few none = omega arith
held-few (more {f = f} l e v h) = omega (arith, under-few f.owner h v)

-- OWNERS: kept by a store above them; one more
owned-kept : (place i v : ℕ) (owners : List ℕ) (fs : List Frame) → length fs ≤ i → Owned place owners fs → Owned place (set owners i v) fs
unfolding Owned
owned-kept place i v owners [] h o = tt
owned-kept place i v owners (f ∷ fs) h o =
    (get_or-set_other owners i (length fs) v 0 (λ e. omega arith) ∙ o.0, o.1, owned-kept place i v owners fs (omega arith) o.2)

owned-push : (place count s e n : ℕ) (owners : List ℕ) (fs : List Frame) → length fs < length owners → count ≡ place + n → Owned place owners fs
    → Owned place (set owners (length fs) count) (frame n s e 0 ∷ fs)
unfolding Owned
owned-push place count s e n owners fs h q o =
    (get_or-set_same owners (length fs) count 0 h ∙ q, omega arith, owned-kept place (length fs) count owners fs (omega arith) o)

none_owned : (place : ℕ) (owners : List ℕ) → Owned place owners []
unfolding Owned
none_owned place owners = tt

-- the first fact
pub first-makes : (t : List ℕ) (facts : List Fact) (numbers cells owners : List ℕ) (q : ℕ) → q ≤ length t → FirstRow t q facts
    → Makes t facts numbers cells cells owners (making q false 0 0)
unfolding shapes flatten
first-makes t facts numbers cells owners q h x =
    record {
      before = [];
      later = facts;
      work = work x.start x.end 0 [] [];
      all = refl;
      size = refl;
      within = h;
      same = x.same;
      held = none;
      deep = refl;
      owned = none_owned 0 owners;
      count = refl;
      written = refl;
    }

-- ONE TURN FURTHER
module _ (t : List ℕ) (facts : List Fact) (numbers start cells owners : List ℕ) (m : Making) (R : Roomy facts cells owners)
    (M : Makes t facts numbers start cells owners m) where
  -- a symbol more, met at a place
  more-few : (x : Symbol) (w : Work) (to : Making) → w.out ≡ M.work.out ++ (x ∷ []) → Held w.out w.opened
      → run (drop to.at t) (term_mode to.past) w to.at ≡ reads M.later → m.count < length (symbols_of facts)
  more-few x w to o h r =
      let k = met-few (drop to.at t) (term_mode to.past) w to.at facts M.before M.later M.all h (inside to.past) r in
      let a = ap (λ (l : List Symbol). length (symbols_of M.before ++ l)) o in
      omega (
        arith,
        k,
        a,
        length-append (symbols_of M.before) (M.work.out ++ (x ∷ [])),
        length-append M.work.out (x ∷ []),
        length-append (symbols_of M.before) M.work.out,
        M.count,
      )

  sofar-more : (x : Symbol) → symbols_of M.before ++ (M.work.out ++ (x ∷ [])) ≡ sofar M.before M.work ++ (x ∷ [])
  sofar-more x = sym (append_assoc (symbols_of M.before) M.work.out (x ∷ []))

  cell-more : (x : Symbol) → m.count < length cells
      → set cells m.count (shape_of x (get_or numbers m.count 0))
      ≡ shapes (symbols_of M.before ++ (M.work.out ++ (x ∷ []))) numbers ++ drop (m.count + 1) start
  cell-more x h =
      let ss = sofar M.before M.work in
      let c = shape_of x (get_or numbers m.count 0) in
      ap (λ (l : List ℕ). set l m.count c) M.written
      ∙ set_next (shapes ss numbers) start m.count c (shapes-long ss numbers ∙ M.count) (omega (arith, M.size))
      ∙ ap (λ (i : ℕ). (shapes ss numbers ++ (shape_of x (get_or numbers i 0) ∷ [])) ++ drop (m.count + 1) start) (sym M.count)
      ∙ ap (λ (l : List ℕ). l ++ drop (m.count + 1) start) (sym (shapes-more ss x numbers))
      ∙ ap (λ (l : List Symbol). shapes l numbers ++ drop (m.count + 1) start) (sym (sofar-more x))

  count-more : (x : Symbol) → length (symbols_of M.before ++ (M.work.out ++ (x ∷ []))) ≡ m.count + 1
  count-more x = ap length (sofar-more x) ∙ length-append (sofar M.before M.work) (x ∷ []) ∙ ap (λ (n : ℕ). n + 1) M.count

  module _ (x : Symbol) (e : ℕ) (h : e ≤ length t)
      (f : (v : Work) → run (drop m.at t) (term_mode m.past) v m.at ≡ run (drop e t) after (put x v) e) where
    pub put-room : m.count < length (symbols_of facts)
    unfolding put
    put-room = more-few x (put x M.work) (making e true m.depth (m.count + 1)) refl (held-put x M.held) (sym (f M.work) ∙ M.same)

    pub put-makes : Makes t facts numbers start (set cells m.count (shape_of x (get_or numbers m.count 0))) owners
        (making e true m.depth (m.count + 1))
    unfolding put
    put-makes =
        record {
          before = M.before;
          later = M.later;
          work = put x M.work;
          all = M.all;
          size = M.size ∙ sym (length-set cells m.count (shape_of x (get_or numbers m.count 0)));
          within = h;
          same = sym (f M.work) ∙ M.same;
          held = held-put x M.held;
          deep = M.deep;
          owned = M.owned;
          count = count-more x;
          written = cell-more x (omega (arith, put-room, R.for-cells));
        }

  module _ (s e : ℕ) (h : e < length t)
      (f : (v : Work) → run (drop m.at t) (term_mode m.past) v m.at ≡ run (drop (e + 1) t) arg (push s e v) (e + 1)) where
    pub push-room : m.count < length (symbols_of facts)
    unfolding push
    push-room = more-few (name s e 0) (push s e M.work) (making (e + 1) false (m.depth + 1) (m.count + 1)) refl (held-push s e M.held)
        (sym (f M.work) ∙ M.same)

    pub push-deep : m.depth < length owners
    push-deep = omega (arith, push-room, held-few M.held, M.deep, M.count, length-append (symbols_of M.before) M.work.out, R.for-owners)

    pub push-low : m.depth < 65536
    push-low = omega (arith, push-room, held-few M.held, M.deep, M.count, length-append (symbols_of M.before) M.work.out, R.few)

    pub push-makes : Makes t facts numbers start (set cells m.count (name_cell 0 (get_or numbers m.count 0))) (set owners m.depth m.count)
        (making (e + 1) false (m.depth + 1) (m.count + 1))
    unfolding push
    push-makes =
        record {
          before = M.before;
          later = M.later;
          work = push s e M.work;
          all = M.all;
          size = M.size ∙ sym (length-set cells m.count (name_cell 0 (get_or numbers m.count 0)));
          within = omega arith;
          same = sym (f M.work) ∙ M.same;
          held = held-push s e M.held;
          deep = omega (arith, M.deep);
          owned = subst (λ (d : ℕ). Owned (length (symbols_of M.before)) (set owners d m.count)
              (frame (length M.work.out) s e 0 ∷ M.work.opened)) M.deep
              (owned-push (length (symbols_of M.before)) m.count s e (length M.work.out) owners M.work.opened (omega (arith, push-deep, M.deep))
              (sym M.count ∙ length-append (symbols_of M.before) M.work.out) M.owned);
          count = count-more (name s e 0);
          written = cell-more (name s e 0) (omega (arith, push-room, R.for-cells));
        }

  -- one more argument of the innermost open name: its cell
  module _ (g : Frame) (fs : List Frame) (H : Held M.work.out (g ∷ fs)) (O : Owned (length (symbols_of M.before)) owners (g ∷ fs))
      (q : suc (length fs) ≡ m.depth) where
    own : get_or owners (m.depth - 1) 0 ≡ length (symbols_of M.before) + g.owner
    unfolding Owned
    own = let e : m.depth - 1 ≡ length fs = omega arith in ap (λ (i : ℕ). get_or owners i 0) e ∙ O.0

    own-low : length (symbols_of M.before) + g.owner < m.count
    own-low = by H
      where
        by : Held M.work.out (g ∷ fs) → length (symbols_of M.before) + g.owner < m.count
        by (more l e u h) = omega (arith, l, M.count, length-append (symbols_of M.before) M.work.out)

    own-symbol : get_or (sofar M.before M.work) (length (symbols_of M.before) + g.owner) (number 0) ≡ name g.start g.end g.done
    own-symbol = by H
      where
        by : Held M.work.out (g ∷ fs)
            → get_or (sofar M.before M.work) (length (symbols_of M.before) + g.owner) (number 0) ≡ name g.start g.end g.done
        by (more l e u h) = get_or-append-add (symbols_of M.before) M.work.out g.owner (number 0) ∙ e

    own-cell : get_or cells (length (symbols_of M.before) + g.owner) 0 ≡ name_cell g.done (get_or numbers (length (symbols_of M.before) + g.owner) 0)
    own-cell =
        let ss = sofar M.before M.work in
        let o = length (symbols_of M.before) + g.owner in
        ap (λ (l : List ℕ). get_or l o 0) M.written
        ∙ get_or-append (shapes ss numbers) (drop m.count start) 0 o (omega (arith, own-low, shapes-long ss numbers, M.count))
        ∙ shape_at ss o numbers (omega (arith, own-low, M.count))
        ∙ ap (λ (x : Symbol). shape_of x (get_or numbers o 0)) own-symbol

    one_more : ((i : ℕ) → i < m.count → get_or numbers i 0 < 65536)
        → set cells (get_or owners (m.depth - 1) 0) (with_argument (get_or cells (get_or owners (m.depth - 1) 0) 0))
        ≡ shapes (symbols_of M.before ++ set M.work.out g.owner (name g.start g.end (suc g.done))) numbers ++ drop m.count start
    unfolding Owned
    one_more h =
        let ss = sofar M.before M.work in
        let o = length (symbols_of M.before) + g.owner in
        let x = name g.start g.end (suc g.done) in
        let c = name_cell (suc g.done) (get_or numbers o 0) in
        let e : with_argument (get_or cells o 0) ≡ c = ap with_argument own-cell ∙ with-argument g.done (get_or numbers o 0) O.1 (h o own-low) in
        ap (λ (i : ℕ). set cells i (with_argument (get_or cells i 0))) own
        ∙ ap₂ (λ (l : List ℕ) (v : ℕ). set l o v) M.written e
        ∙ set-append_left (shapes ss numbers) (drop m.count start) o c (omega (arith, own-low, shapes-long ss numbers, M.count))
        ∙ ap (λ (l : List ℕ). l ++ drop m.count start) (sym (shapes-set ss o x numbers))
        ∙ ap (λ (l : List Symbol). shapes l numbers ++ drop m.count start) (set-behind (symbols_of M.before) M.work.out g.owner x)

    -- and it fits
    fits : (m.depth - 1 < length owners) × (get_or owners (m.depth - 1) 0 < length cells)
    fits =
        let k = met-few (drop m.at t) (term_mode m.past) M.work m.at facts M.before M.later M.all M.held (inside m.past)
        M.same in (
          omega (arith, k, held-few H, q, M.count, length-append (symbols_of M.before) M.work.out, R.for-owners),
          omega (arith, own, own-low, k, M.count, R.for-cells),
        )

    same_count : (x : Symbol) → length (symbols_of M.before ++ set M.work.out g.owner x) ≡ m.count
    same_count x =
        length-append (symbols_of M.before) (set M.work.out g.owner x)
        ∙ ap (λ (n : ℕ). length (symbols_of M.before) + n) (length-set M.work.out g.owner x)
        ∙ sym (length-append (symbols_of M.before) M.work.out)
        ∙ M.count

    comma-low : (p s n k : ℕ) → on_mark t p (on_comma s n k (g ∷ fs) M.work.out) ≡ reads M.later → g.done < 3
    unfolding on_comma
    comma-low p s n k r = by (ltb g.done 3) refl r
      where
        by : (b : Bool) → ltb g.done 3 ≡ b
            → on_mark t p (cond b (go arg (work s n k (frame g.owner g.start g.end (suc g.done) ∷ fs)
            (set M.work.out g.owner (name g.start g.end (suc g.done))))) dead) ≡ reads M.later
            → g.done < 3
        by true z y = ltb-true g.done 3 z
        by false z y = clash y

    added : List ℕ
    added = set cells (get_or owners (m.depth - 1) 0) (with_argument (get_or cells (get_or owners (m.depth - 1) 0) 0))

    comma-inner : ((i : ℕ) → i < m.count → get_or numbers i 0 < 65536) → (p s n k : ℕ) → p < length t
        → on_mark t p (on_comma s n k (g ∷ fs) M.work.out) ≡ reads M.later
        → Makes t facts numbers start added owners (making (p + 1) false m.depth m.count)
    unfolding comma_to Owned added
    comma-inner small p s n k h r =
        let c = comma-marks t p s n k (g ∷ fs) M.work.out M.later H r in
        record {
          before = M.before;
          later = M.later;
          work = comma_to s n k (g ∷ fs) M.work.out;
          all = M.all;
          size = M.size ∙ sym (length-set cells (get_or owners (m.depth - 1) 0) (with_argument (get_or cells (get_or owners (m.depth - 1) 0) 0)));
          within = omega arith;
          same = c.same;
          held = c.held;
          deep = q;
          owned = (O.0, comma-low p s n k r, O.2);
          count = same_count (name g.start g.end (suc g.done));
          written = one_more small;
        }

    close-inner : ((i : ℕ) → i < m.count → get_or numbers i 0 < 65536) → (p s n k : ℕ) → p < length t
        → on_mark t p (on_close s n k (g ∷ fs) M.work.out) ≡ reads M.later
        → Makes t facts numbers start added owners (making (p + 1) true (m.depth - 1) m.count)
    unfolding close_to Owned added
    close-inner small p s n k h r =
        let c = close-marks t p s n k g fs M.work.out M.later H r in
        record {
          before = M.before;
          later = M.later;
          work = close_to s n k g fs M.work.out;
          all = M.all;
          size = M.size ∙ sym (length-set cells (get_or owners (m.depth - 1) 0) (with_argument (get_or cells (get_or owners (m.depth - 1) 0) 0)));
          within = omega arith;
          same = c.same;
          held = c.held;
          deep = omega arith;
          owned = O.2;
          count = same_count (name g.start g.end (suc g.done));
          written = one_more small;
        }

  abbrev pub added_to : List ℕ
  added_to = set cells (get_or owners (m.depth - 1) 0) (with_argument (get_or cells (get_or owners (m.depth - 1) 0) 0))

  pub argument-fits : (m.depth ≡ 0 → ⊥) → (m.depth - 1 < length owners) × (get_or owners (m.depth - 1) 0 < length cells)
  argument-fits n = by M.work.opened M.held M.owned M.deep
    where
      by : (fs : List Frame) → Held M.work.out fs → Owned (length (symbols_of M.before)) owners fs → length fs ≡ m.depth
          → (m.depth - 1 < length owners) × (get_or owners (m.depth - 1) 0 < length cells)
      by [] H O d = absurd (n (sym d))
      by (g ∷ fs) H O d = fits g fs H O d

  module _ (p : ℕ) (l : m.at ≤ p) (h : p < length t) where
    module _ (f : (v : Work) → run (drop m.at t) (term_mode m.past) v m.at
        ≡ on_mark t p (on_comma v.start v.end v.done v.opened v.out)) where
      -- a comma of the fact itself
      pub comma-outer : m.depth ≡ 0 → Makes t facts numbers start cells owners (making (p + 1) false m.depth m.count)
      unfolding on_comma
      comma-outer z = by M.work.opened M.deep (sym (f M.work) ∙ M.same)
        where
          by : (fs : List Frame) → length fs ≡ m.depth → on_mark t p (on_comma M.work.start M.work.end M.work.done fs M.work.out)
              ≡ reads M.later
              → Makes t facts numbers start cells owners (making (p + 1) false m.depth m.count)
          by [] d r =
              record {
                before = M.before;
                later = M.later;
                work = work M.work.start M.work.end (suc M.work.done) [] M.work.out;
                all = M.all;
                size = M.size;
                within = omega arith;
                same = r;
                held = none;
                deep = d;
                owned = none_owned (length (symbols_of M.before)) owners;
                count = M.count;
                written = M.written;
              }
          by (g ∷ fs) d r = absurd (omega arith)

      pub comma-makes : ((i : ℕ) → i < m.count → get_or numbers i 0 < 65536) → (m.depth ≡ 0 → ⊥)
          → Makes t facts numbers start added_to owners (making (p + 1) false m.depth m.count)
      unfolding added
      comma-makes small n = by M.work.opened M.held M.owned M.deep (sym (f M.work) ∙ M.same)
        where
          by : (fs : List Frame) → Held M.work.out fs → Owned (length (symbols_of M.before)) owners fs → length fs ≡ m.depth
              → on_mark t p (on_comma M.work.start M.work.end M.work.done fs M.work.out) ≡ reads M.later
              → Makes t facts numbers start added_to owners (making (p + 1) false m.depth m.count)
          by [] H O d r = absurd (n (sym d))
          by (g ∷ fs) H O d r = comma-inner g fs H O d small p M.work.start M.work.end M.work.done h r

    module _ (f : (v : Work) → run (drop m.at t) (term_mode m.past) v m.at
        ≡ on_mark t p (on_close v.start v.end v.done v.opened v.out)) where
      pub close-makes : ((i : ℕ) → i < m.count → get_or numbers i 0 < 65536) → (m.depth ≡ 0 → ⊥)
          → Makes t facts numbers start added_to owners (making (p + 1) true (m.depth - 1) m.count)
      unfolding added
      close-makes small n = by M.work.opened M.held M.owned M.deep (sym (f M.work) ∙ M.same)
        where
          by : (fs : List Frame) → Held M.work.out fs → Owned (length (symbols_of M.before)) owners fs → length fs ≡ m.depth
              → on_mark t p (on_close M.work.start M.work.end M.work.done fs M.work.out) ≡ reads M.later
              → Makes t facts numbers start added_to owners (making (p + 1) true (m.depth - 1) m.count)
          by [] H O d r = absurd (n (sym d))
          by (g ∷ fs) H O d r = close-inner g fs H O d small p M.work.start M.work.end M.work.done h r

      -- the fact's own bracket
      fact-closed : m.depth ≡ 0 → run (drop (p + 1) t) closed M.work (p + 1) ≡ reads M.later
      unfolding on_close
      fact-closed z = by M.work.opened (M.deep ∙ z) (sym (f M.work) ∙ M.same)
        where
          by : (fs : List Frame) → length fs ≡ 0 → on_mark t p (on_close M.work.start M.work.end M.work.done fs M.work.out) ≡ reads M.later
              → run (drop (p + 1) t) closed (work M.work.start M.work.end M.work.done fs M.work.out) (p + 1) ≡ reads M.later
          by [] d r = r
          by (g ∷ fs) d r = absurd (omega arith)

      symbols-so : symbols_of (M.before ++ (fact_of M.work ∷ [])) ≡ sofar M.before M.work
      unfolding flatten
      symbols-so = symbols-append M.before (fact_of M.work ∷ []) ∙ ap (λ (l : List Symbol). symbols_of M.before ++ l) (append-nil M.work.out)

      pub row_makes : (q : ℕ) → m.depth ≡ 0 → RowEnds t (p + 1) (Some q)
          → (m.at < q) × Makes t facts numbers start cells owners (making q false 0 m.count)
      row_makes q z r =
          let x = row_reads r in
          let n = x.2 M.work M.later (fact-closed z) in
          let w = work n.start n.end 0 [] [] in
          let e : sofar (M.before ++ (fact_of M.work ∷ [])) w ≡ sofar M.before M.work =
          append-nil (symbols_of (M.before ++ (fact_of M.work ∷ []))) ∙ symbols-so in (
            omega (arith, x.0),
            record {
              before = M.before ++ (fact_of M.work ∷ []);
              later = n.later;
              work = w;
              all = M.all ∙ ap (λ (gs : List Fact). M.before ++ gs) n.is ∙ sym (append_assoc M.before (fact_of M.work ∷ []) n.later);
              size = M.size;
              within = x.1;
              same = n.same;
              held = none;
              deep = refl;
              owned = none_owned (length (symbols_of (M.before ++ (fact_of M.work ∷ [])))) owners;
              count = ap length e ∙ M.count;
              written = M.written ∙ ap (λ (l : List Symbol). shapes l numbers ++ drop m.count start) (sym e);
            },
          )

      pub all_made : m.depth ≡ 0 → RowEnds t (p + 1) None → (m.count ≡ length (symbols_of facts)) × (cells ≡ cells_in facts numbers start)
      all_made z x =
          let e : symbols_of facts ≡ sofar M.before M.work =
          ap symbols_of M.all ∙ ap (λ (gs : List Fact). symbols_of (M.before ++ gs)) (row_reads x M.work M.later (fact-closed z)) ∙ symbols-so in
          let k : m.count ≡ length (symbols_of facts) = sym M.count ∙ ap length (sym e) in
          (k, M.written ∙ ap₂ (λ (l : List Symbol) (n : ℕ). shapes l numbers ++ drop n start) (sym e) k)

  pub no_stop : (p : ℕ) → ((v : Work) → run (drop m.at t) (term_mode m.past) v m.at ≡ stops p) → ⊥
  no_stop p f = clash (sym (f M.work) ∙ M.same)
