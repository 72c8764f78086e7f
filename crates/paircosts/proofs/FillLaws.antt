-- The array is filled pair by pair: one pair more, the pairs of one last row, and all of them.
use mathlib.Core.Path.{◌≡◌, refl, sym, ap, ◌∙◌}
use mathlib.Core.Logic.{◌≢◌, ◌⊎◌, inl, inr}
use mathlib.Core.Bool.{Bool, true, false}
use mathlib.Core.List.{List, [], ◌∷◌}
use Prim.Native.Nat.{ℕ, suc, ◌+◌, ◌-◌, ◌*◌, ◌≤◌, ◌<◌, min}
use native.Mathlib.Omega.{arith}
use lib.ListN.{length, get_or, set, length-set}
use lib.Seq.{slice, slice-cons, length-slice, get_or-set_same, get_or-set_other, slice_empty}
use lib.Dec.{eqb, leb, ltb}
use borrow.Author.Tests.{eqb-true, eqb-false, ne_eqb, leb-true, leb-false, ltb-true, ltb-false, lt-ltb}
use Rattle.term.proofs.Tests.{eqb_same}
use Rattle.table.specs.Table.{Head}
use Rattle.plan.specs.code.Fits.{Fits}
use Rattle.table.proofs.AllLaws.{all-at}
use Rattle.state.specs.Flags.{flags_in}
use Rattle.least.specs.Entries.{whole_in, cost_in, place_in, SameAt}
use Rattle.least.specs.code.Pairs.{later_of, agreed_of, least_by, place_by}
use Rattle.paircosts.specs.declared.arrays.Note.{Note}
use Rattle.paircosts.specs.declared.arrays.Asked.{Asked}
use Rattle.paircosts.specs.declared.arrays.Row.{Row}
use Rattle.paircosts.specs.Fill.{Unasked}
use Rattle.paircosts.specs.code.Notes.{read_in, weight_of, Long, NextRow, RowNoted, LastRow, Alone}
use Rattle.paircosts.specs.code.Filling.{stop_of, pair_row, shared_of, PairAt, put_pair, KeepsBefore, keeps, passes, Task, Worked}
use Rattle.paircosts.specs.code.Filling.{Stands, worked, left, FilledTo, RowHere, NotedTo, LastAt, Finished}
use Rattle.paircosts.proofs.NotedLaws.{noted-alone}
use Rattle.paircosts.proofs.AloneLaws.{weights-later, alone-sum}

-- the three values that are put for one pair: they are there, and for every other pair what was there
pub data Where (kept : List ℕ) (first last u v w j j' : ℕ) : Type 0 where
  here : j ≡ first → j' ≡ last → whole_in (put_pair kept (64 * first + last) u v w) j j' ≡ u → cost_in (put_pair kept (64 * first + last) u v w) j j' ≡ v
      → place_in (put_pair kept (64 * first + last) u v w) j j' ≡ w → Where kept first last u v w j j'
  there : (64 * j + j' ≢ 64 * first + last) → SameAt j j' kept (put_pair kept (64 * first + last) u v w) → Where kept first last u v w j j'

module _ (kept : List ℕ) (p u v w : ℕ) (long : Long kept) (low : p < 4096) where
  abbrev one : List ℕ
  one = set kept p u

  abbrev two : List ℕ
  two = set one (4096 + p) v

  put_same : (get_or (put_pair kept p u v w) p 0 ≡ u) × (get_or (put_pair kept p u v w) (4096 + p) 0 ≡ v) × (get_or (put_pair kept p u v w) (8192 + p) 0 ≡ w)
  put_same =
      let l₁ : Long one = length-set kept p u ∙ long in
      let l₂ : Long two = length-set one (4096 + p) v ∙ l₁ in (
        get_or-set_other two (8192 + p) p w 0 (λ e. omega arith) ∙ get_or-set_other one (4096 + p) p v 0 (λ e. omega arith)
            ∙ get_or-set_same kept p u 0 (omega arith),
        get_or-set_other two (8192 + p) (4096 + p) w 0 (λ e. omega arith) ∙ get_or-set_same one (4096 + p) v 0 (omega arith),
        get_or-set_same two (8192 + p) w 0 (omega arith),
      )

  put-elsewhere : (k : ℕ) → k ≢ p → k ≢ 4096 + p → k ≢ 8192 + p → get_or (put_pair kept p u v w) k 0 ≡ get_or kept k 0
  put-elsewhere k a b c = get_or-set_other two (8192 + p) k w 0 c ∙ get_or-set_other one (4096 + p) k v 0 b ∙ get_or-set_other kept p k u 0 a

pub where-is : (kept : List ℕ) (first last u v w j j' : ℕ) → Long kept → first < 64 → last < 64 → j < 64 → j' < 64 → Where kept first last u v w j j'
where-is kept first last u v w j j' l hf hl hj hj' = go (eqb (64 * j + j') (64 * first + last)) refl
  where
    go : (b : Bool) → eqb (64 * j + j') (64 * first + last) ≡ b → Where kept first last u v w j j'
    go true e =
        let q : 64 * j + j' ≡ 64 * first + last = eqb-true (64 * j + j') (64 * first + last) e in
        let s = put_same kept (64 * first + last) u v w l (omega arith) in
        here (omega arith) (omega arith) (rw q s.0) (rw q s.1) (rw q s.2)
    go false e =
        let q : 64 * j + j' ≢ 64 * first + last = eqb-false (64 * j + j') (64 * first + last) e in
        let s = put-elsewhere kept (64 * first + last) u v w l (omega arith) in
        there q (record {
          whole = s (64 * j + j') q (λ r. omega arith) (λ r. omega arith);
          cost = s (4096 + (64 * j + j')) (λ r. omega arith) (λ r. q (omega arith)) (λ r. omega arith);
          place = s (8192 + (64 * j + j')) (λ r. omega arith) (λ r. omega arith) (λ r. q (omega arith));
        })

-- a pair is asked for, or not
pub data Either (j j' top since : ℕ) : Type 0 where
  again-pair : j < top → since ≤ j' → Either j j' top since
  kept_pair : Unasked top since j j' → Either j j' top since

pub either : (j j' top since : ℕ) → Either j j' top since
either j j' top since = go (ltb j top) refl
  where
    end : (b : Bool) → leb since j' ≡ b → j < top → Either j j' top since
    end true e h = again-pair h (leb-true since j' e)
    end false e h = kept_pair (inr (leb-false since j' e))

    go : (b : Bool) → ltb j top ≡ b → Either j j' top since
    go true e = end (leb since j') refl (ltb-true j top e)
    go false e = kept_pair (inl (ltb-false j top e))

-- the flags of the named columns
abbrev named : {cells marks starts : List ℕ} {asked : Asked} {old : List ℕ} → Task cells marks starts asked old → List Bool
named {asked = asked} t = flags_in t.width asked.named

module _ {cells marks starts : List ℕ} {asked : Asked} {old : List ℕ} (t : Task cells marks starts asked old) where
  abbrev Done : ℕ → ℕ → ℕ → ℕ → Type 0
  Done first last j j' = Worked (length t.rows) asked first last j j'

  few : length t.rows ≤ 64
  few = omega (arith, t.laid.number, t.laid.few)

  done-as : {first last first' last' j j' : ℕ} → (x : Done first last j j') → (j' < last') ⊎ ((j' ≡ last') × (first' ≤ j)) → Done first' last' j j'
  done-as x d = record { order = x.order; inside = x.inside; begins = x.begins; ends = x.ends; done = d }

  stands-map : {first last first' last' : ℕ} {a : List ℕ} {j j' : ℕ} → (Done first last j j' → Done first' last' j j')
      → (Done first' last' j j' → Done first last j j')
      → Stands t first last a j j' → Stands t first' last' a j j'
  stands-map f g (worked w e c p) = worked (f w) e c p
  stands-map f g (left w e) = left (λ x. w (g x)) e

  -- nothing is worked out yet
  pub filled-start : FilledTo t (suc asked.since) asked.since old
  filled-start = record { each = λ j j' h h'. left (λ x. early j j' x x.done) (record { whole = refl; cost = refl; place = refl }); long = t.long }
    where
      early : (j j' : ℕ) → Done (suc asked.since) asked.since j j' → (j' < asked.since) ⊎ ((j' ≡ asked.since) × (suc asked.since ≤ j)) → ⊥
      early j j' x (inl d) = omega (arith, x.ends)
      early j j' x (inr d) = omega (arith, x.order, d.0, d.1)

  -- the pairs that end at a row, and then those that end at the next
  pub filled-after : {last : ℕ} {a : List ℕ} → FilledTo t 0 last a → FilledTo t (suc (suc last)) (suc last) a
  filled-after {last} {a} f =
      record {
        each = λ j j' h h'. stands-map (λ x. done-as x (to x.done)) (λ x. done-as x (back x x.done)) (f.each j j' h h');
        long =
            f.long;
      }
    where
      to : {j j' : ℕ} → (j' < last) ⊎ ((j' ≡ last) × (0 ≤ j)) → (j' < suc last) ⊎ ((j' ≡ suc last) × (suc (suc last) ≤ j))
      to (inl d) = inl (omega arith)
      to (inr d) = inl (omega (arith, d.0))

      at : (j j' : ℕ) → j' < suc last → (b : Bool) → eqb j' last ≡ b → (j' < last) ⊎ ((j' ≡ last) × (0 ≤ j))
      at j j' h true e = inr (eqb-true j' last e, omega arith)
      at j j' h false e = let z : j' ≢ last = eqb-false j' last e in inl (omega (arith, z))

      back : {j j' : ℕ} → Done (suc (suc last)) (suc last) j j' → (j' < suc last) ⊎ ((j' ≡ suc last) × (suc (suc last) ≤ j))
          → (j' < last) ⊎ ((j' ≡ last) × (0 ≤ j))
      back {j} {j'} x (inl d) = at j j' d (eqb j' last) refl
      back {j} {j'} x (inr d) = absurd (omega (arith, d.0, d.1, x.order))

  -- what is read at a pair that is done, or kept
  pub whole-there : {first last : ℕ} {a : List ℕ} → FilledTo t first last a → (j j' : ℕ) → j ≤ j' → j' < length t.rows
      → (j' < last) ⊎ ((j' ≡ last) × (first ≤ j))
      → read_in a j j' ≡ t.N j j'
  whole-there {first} {last} {a} f j j' h l d = go (f.each j j' (omega (arith, few)) (omega (arith, few)))
    where
      stays : (Done first last j j' → ⊥) → Either j j' asked.top asked.since → t.N j j' ≡ read_in old j j'
      stays w (again-pair b e) = absurd (w (record { order = h; inside = l; begins = b; ends = e; done = d }))
      stays w (kept_pair o) = t.known j j' h l o

      go : Stands t first last a j j' → read_in a j j' ≡ t.N j j'
      go (worked w e c p) = e
      go (left w e) = ap (λ (x : ℕ). min x 65535) e.whole ∙ sym (stays w (either j j' asked.top asked.since))

  -- one pair more
  module _ {first last : ℕ} {a : List ℕ} (f : FilledTo t (suc first) last a) (order : first ≤ last) (inside : last < length t.rows)
      (late : asked.since ≤ last) where
    later : {j j' : ℕ} → Done (suc first) last j j' → Done first last j j'
    later {j} {j'} x = done-as x (go x.done)
      where
        go : (j' < last) ⊎ ((j' ≡ last) × (suc first ≤ j)) → (j' < last) ⊎ ((j' ≡ last) × (first ≤ j))
        go (inl d) = inl d
        go (inr d) = inr (d.0, omega (arith, d.1))

    earlier : {j j' : ℕ} → ((j ≡ first) → (j' ≡ last) → ⊥) → Done first last j j' → Done (suc first) last j j'
    earlier {j} {j'} ne x = done-as x (go x.done)
      where
        above : j' ≡ last → first ≤ j → (q : Bool) → eqb j first ≡ q → suc first ≤ j
        above e l true q = absurd (ne (eqb-true j first q) e)
        above e l false q = let z : j ≢ first = eqb-false j first q in omega (arith, z)

        go : (j' < last) ⊎ ((j' ≡ last) × (first ≤ j)) → (j' < last) ⊎ ((j' ≡ last) × (suc first ≤ j))
        go (inl d) = inl d
        go (inr d) = inr (d.0, above d.0 d.1 (eqb j first) refl)

    filled-pass : {b : List ℕ} → asked.top ≤ first → b ≡ a → FilledTo t first last b
    filled-pass h e = rw e (record { each = λ j j' u v. pass (f.each j j' u v); long = f.long })
      where
        pass : {j j' : ℕ} → Stands t (suc first) last a j j' → Stands t first last a j j'
        pass (worked w e c p) = worked (later w) e c p
        pass (left w e) = left (λ x. w (earlier (λ q q'. omega (arith, x.begins)) x)) e

    abbrev u : ℕ
    u = agreed_of t.m 32 (named t) t.width t.rows first last + least_by t.m (named t) t.width t.rows t.N first last

    abbrev v : ℕ
    v = least_by t.m (named t) t.width t.rows t.N first last

    abbrev w : ℕ
    w = place_by t.m (named t) t.width t.rows t.N first last

    abbrev put : List ℕ
    put = put_pair a (64 * first + last) u v w

    filled_put : first < asked.top → FilledTo t first last put
    filled_put low = record {
      each = λ j j' h h'. each j j' (where-is a first last u v w j j' f.long (omega (arith, few)) (omega (arith, few)) h h') (f.each j j' h h');
      long = (let e : length put ≡ length a = simp length-set in e ∙ f.long);
    }
      where
        each : (j j' : ℕ) → Where a first last u v w j j' → Stands t (suc first) last a j j' → Stands t first last put j j'
        each j j' (here e e' x y z) s =
            worked (record { order = omega arith; inside = omega arith; begins = omega arith; ends = omega arith; done = inr (e', omega arith) })
            (ap (λ (n : ℕ). min n 65535) x ∙ rw (e, e') (sym (t.again first last order inside low late)))
            (y ∙ rw (e, e')) (z ∙ rw (e, e'))
        each j j' (there n x) (worked d e c p) = worked (later d) (ap (λ (n : ℕ). min n 65535) x.whole ∙ e) (x.cost ∙ c) (x.place ∙ p)
        each j j' (there n x) (left d e) =
            left (λ y. d (earlier (λ q q'. n (omega arith)) y)) (record { whole = x.whole ∙ e.whole; cost = x.cost ∙ e.cost; place = x.place ∙ e.place })

    filled_next : {b : List ℕ} → KeepsBefore t.m (named t) t.width t.rows t.N asked.top first last a b → FilledTo t first last b
    filled_next (keeps h k) = rw k.is (filled_put h)
    filled_next (passes h e) = filled-pass h e

  -- a row as it stands in its cells
  module _ {row : Row} (h : RowHere cells starts asked.count row) where
    pub row-part : get_or t.rows row.number [] ≡ slice row.start row.end cells
    row-part = rw (h.start_is, h.end_is) (t.laid.row row.number h.inside)

    pub row-bounds : (row.start ≤ row.end) × (row.end ≤ length cells)
    row-bounds = rw (h.start_is, h.end_is) (t.laid.order row.number h.inside)

    pub row_fits : Fits 32 t.width (slice row.start row.end cells)
    row_fits = rw row-part at (all-at (Fits 32 t.width) [] t.rows row.number (omega (arith, t.laid.number, h.inside)) t.laid.fits)

    pub row-head : Head t.width (slice row.start row.end cells)
    row-head = rw row-part at (all-at (Head t.width) [] t.rows row.number (omega (arith, t.laid.number, h.inside)) t.laid.heads)

    pub row-short : row.end ≤ row.start + 32
    row-short = omega (arith, row_fits.1, length-slice row.start row.end cells row-bounds.1)

  abbrev pub last_row : {row : Row} {notes : List Note} → RowHere cells starts asked.count row → length notes ≡ 64
      → LastRow cells marks notes row.number row.start row.end
  last_row h room = record {
    m = t.m;
    width = t.width;
    head = row-head h;
    marked = t.marked;
    part = ((row-bounds h).0, (row-bounds h).1, t.laid.size);
    number = omega (arith, h.inside, t.laid.few);
    room = room;
  }

  -- the last row by itself
  pub last-noted : {row : Row} {notes₀ notes : List Note} {kept : List ℕ} {agreed : ℕ} (h : RowHere cells starts asked.count row) → asked.since ≤ row.number
      → FilledTo t (suc row.number) row.number kept → (room : length notes₀ ≡ 64) → {met : ℕ}
      → Alone (last_row {row = row} {notes = notes₀} h room) row.end notes agreed met
      → NotedTo t (suc row.number) row.number row notes kept agreed
  unfolding later_of
  last-noted {row} {agreed = agreed} h late f room x =
      let b = row-bounds h in
      let own : List ℕ = slice row.start row.end cells in
      let l : length (slice row.start row.end cells) ≡ row.end - row.start = length-slice row.start row.end cells b.1 in
      record {
        here = h;
        order = omega arith;
        inside = h.inside;
        late = late;
        weight = weight_of t.m own;
        agreed-is = rw (eqb_same row.number, row-part h) (omega (arith, alone-sum (last_row {row = row} h room) x, weights-later t.low.light [] own));
        noted =
            rw (slice_empty (suc row.number) t.rows, row-part h)
            (noted-alone row.start (row_fits h).0 (λ j m n. x.each j m (omega (arith, l, b.0))));
        light = omega (arith, x.light, b.1, t.laid.size);
        filled = f;
        room = x.room;
      }

  abbrev pub pair-at : {last agreed : ℕ} {row : Row} {notes : List Note} {kept : List ℕ} → NotedTo t (suc row.number) last row notes kept agreed
      → PairAt marks kept notes row (shared_of last agreed) asked
  pair-at {row = row} x = record {
    m = t.m;
    low = t.low;
    figure-is = t.figure-is;
    cells = cells;
    width = t.width;
    rows = t.rows;
    few = omega (arith, t.laid.number, t.laid.few);
    fits = t.laid.fits;
    order = x.order;
    inside = omega (arith, t.laid.number, x.inside);
    part = ((row-bounds x.here).0, (row-bounds x.here).1, t.laid.size);
    row_is = row-part x.here;
    marked = t.marked;
    N = t.N;
    small = t.small;
    weight = x.weight;
    noted = x.noted;
    agreed-is = x.agreed-is;
    light = x.light;
    known = λ j h l. whole-there x.filled row.number j h (omega (arith, t.laid.number, x.inside)) (inl l);
    long = x.filled.long;
  }

  pub pair-kept : {last agreed : ℕ} {row : Row} {notes : List Note} {a b : List ℕ} → NotedTo t (suc row.number) last row notes a agreed
      → KeepsBefore t.m (named t) t.width t.rows t.N asked.top row.number last a b → NotedTo t row.number last row notes b agreed
  pair-kept x k = record {
    here = x.here;
    order = x.order;
    inside = x.inside;
    late = x.late;
    weight = x.weight;
    noted = x.noted;
    agreed-is = x.agreed-is;
    light = x.light;
    filled = filled_next x.filled x.order (omega (arith, t.laid.number, x.inside)) x.late k;
    room = x.room;
  }

  -- from one row to the one before it
  module _ {last agreed : ℕ} {row : Row} {notes : List Note} {kept : List ℕ} (x : NotedTo t row.number last row notes kept agreed) (some : 0 < row.number) (row' : Row)
      (is : row' ≡ pair_row (row.number - 1) (get_or starts (row.number - 1) 0) row.start) where
    pub number_is : suc row'.number ≡ row.number
    number_is = omega (arith, ap (λ (r : Row). r.number) is)

    pub end_is : row'.end ≡ row.start
    end_is = ap (λ (r : Row). r.end) is

    start_is : row'.start ≡ get_or starts row'.number 0
    start_is = ap (λ (r : Row). r.start) is ∙ ap (λ (n : ℕ). get_or starts n 0) (sym (ap (λ (r : Row). r.number) is))

    pub next_here : RowHere cells starts asked.count row'
    next_here =
        let l : row'.number + 1 < asked.count = omega (arith, number_is, x.here.inside) in
        let n : row'.number + 1 ≡ row.number = omega (arith, number_is) in
        record {
          inside = omega arith;
          start_is = start_is;
          end_is = end_is ∙ x.here.start_is ∙ rw (lt-ltb (row'.number + 1) asked.count l, n);
        }

    pub pair-done : (j : ℕ) → j ≤ last → (j < last) ⊎ ((j ≡ last) × (row.number ≤ row.number))
    pair-done j h = go (eqb j last) refl
      where
        go : (b : Bool) → eqb j last ≡ b → (j < last) ⊎ ((j ≡ last) × (row.number ≤ row.number))
        go true q = inr (eqb-true j last q, omega arith)
        go false q = let z : j ≢ last = eqb-false j last q in inl (omega (arith, z))

    abbrev pub next_row : NextRow cells marks kept notes row'.number row'.start row'.end
    next_row = record {
      m = t.m;
      costs = t.N;
      count = asked.count;
      last = last;
      width = t.width;
      stop = row.end;
      rest = slice (suc row.number) (suc last) t.rows;
      shared = x.weight;
      noted = rw (number_is, end_is, ← (row-part x.here)) x.noted;
      old-terms = rw end_is (row_fits x.here).0;
      new-terms = (row_fits next_here).0;
      order = ((row-bounds next_here).0, rw end_is (row-bounds x.here).0, (row-bounds x.here).1, t.laid.size);
      short = (row-short next_here, rw end_is (row-short x.here));
      rows = (
        omega (arith, number_is, length-slice (suc row.number) (suc last) t.rows (omega (arith, t.laid.number, x.inside)), x.order),
        x.inside,
        t.laid.few,
      );
      marked = t.marked;
      known =
          λ j h l. rw number_is (whole-there x.filled row.number j (omega (arith, number_is)) (omega (arith, t.laid.number, x.inside))
          (pair-done j l));
      small = λ i k h m. t.small i k h (omega (arith, t.laid.number));
      room = x.room;
      long = x.filled.long;
    }

    pub next-noted : (notes' : List Note) (agreed' : ℕ) → RowNoted next_row notes' agreed' → NotedTo t (suc row'.number) last row' notes' kept agreed'
    unfolding later_of
    next-noted notes' agreed' y =
        let c : slice row.number (suc last) t.rows ≡ get_or t.rows row.number [] ∷ slice (suc row.number) (suc last) t.rows =
        slice-cons row.number (suc last) t.rows [] (omega (arith, x.order)) (omega (arith, t.laid.number, x.inside)) in
        let b : slice (suc row'.number) (suc last) t.rows ≡ slice row'.end row.end cells ∷ slice (suc row.number) (suc last) t.rows =
        ap (λ (n : ℕ). slice n (suc last) t.rows) number_is ∙ c
        ∙ ap (λ (r : List ℕ). r ∷ slice (suc row.number) (suc last) t.rows) (row-part x.here
        ∙ ap (λ (n : ℕ). slice n row.end cells) (sym end_is)) in
        record {
          here = next_here;
          order = omega (arith, number_is, x.order);
          inside = x.inside;
          late = x.late;
          weight = agreed';
          noted = rw (b, row-part next_here) y.noted;
          agreed-is = rw (ne_eqb row'.number last (λ e. omega (arith, number_is, x.order))) (omega arith);
          light = y.light;
          filled = rw number_is x.filled;
          room = y.room;
        }

  pub rows-done : {last agreed : ℕ} {row : Row} {notes : List Note} {kept : List ℕ} → NotedTo t row.number last row notes kept agreed → row.number ≤ 0
      → FilledTo t 0 last kept
  rows-done {row = row} x h = let e : row.number ≡ 0 = omega arith in rw e at x.filled

  -- the row at which the next pairs end
  abbrev pub last-at : {last end : ℕ} {kept : List ℕ} → last < asked.count → end ≡ stop_of cells starts asked.count last → asked.since ≤ last
      → FilledTo t (suc last) last kept → LastAt cells marks starts kept asked (pair_row last (get_or starts last 0) end)
  last-at h e late f = record { old = old; task = t; here = record { inside = h; start_is = refl; end_is = e }; late = late; filled = f }

  pub finished : {last : ℕ} {kept : List ℕ} → asked.count ≤ last → FilledTo t (suc last) last kept → Finished t kept
  finished {last} h f = record { upto = last; far = h; filled = f }
