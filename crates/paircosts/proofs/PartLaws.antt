-- What is closed in named columns, as it is looked for: in one of them, and in all.
use mathlib.Core.Path.{◌≡◌, refl, sym, ap, ap₂, ◌∙◌}
use mathlib.Core.Logic.{◌≢◌}
use mathlib.Core.Bool.{Bool, true, false, cond, true≢false, ◌||◌}
use mathlib.Core.List.{List}
use Prim.Native.Nat.{ℕ, suc, ◌+◌, ◌*◌, ◌/◌, ◌%◌, ◌≤◌, ◌<◌}
use native.Mathlib.Omega.{arith}
use native.Mathlib.Numerals.{add-one}
use lib.Dec.{eqb}
use borrow.Author.Tests.{eq-eqb, ne_eqb}
use Rattle.plan.specs.Named.{flag}
use Rattle.state.specs.Flags.{flags_in}
use Rattle.state.proofs.FlagsLaws.{zero_flags}
use Rattle.paircosts.specs.declared.arrays.Note.{Note}
use Rattle.paircosts.specs.declared.arrays.Part.{Part}
use Rattle.paircosts.specs.code.Notes.{note_in, end_in, weight_in, most_agreed}
use Rattle.paircosts.specs.code.Reading.{part_of, some_to, Shown, ShownIn, no_more, in-column, past-column, Column, Columns}
use Rattle.paircosts.proofs.WalkLaws.{Here, ended, one, many, here, in-high, in-over, Looked, on-column, look_in, look-past}

or-false : (b : Bool) → b || false ≡ b
or-false true = refl
or-false false = refl

or-true : (b : Bool) → b || true ≡ true
or-true true = refl
or-true false = refl

-- WHAT IS CLOSED, in a named column
module _ {marks : List ℕ} {notes : List Note} {start end : ℕ} {part : Part} (g : Column marks notes start end part) where
  abbrev Left-in : ℕ → ℕ → ℕ → Type 0
  Left-in q i w = Shown (note_in notes) (end_in marks) (weight_in marks) (λ (p : ℕ) (s : Note). g.ok p ≡ true) end g.opens q i w

  pub record PartAt (agreed : ℕ) (only : Bool) (q : ℕ) : Type 0 where
    pub place : ℕ
    pub weight : ℕ
    pub shown : Left-in q place weight
    pub is : only ≡ some_to g.ok place
    pub sum : agreed + weight ≡ part.agreed + g.weight
    pub light : agreed ≤ 7 * q

  pub part-start : PartAt part.agreed part.only start
  part-start = record { place = g.passed; weight = g.weight; shown = g.shown; is = g.so_far; sum = refl; light = g.light }

  pub part_end : {agreed : ℕ} {only : Bool} {q : ℕ} → end ≤ q → PartAt agreed only q
      → (part_of agreed only ≡ part_of (part.agreed + g.weight) (some_to g.ok g.opens)) × (agreed ≤ 7 * end)
  part_end {agreed} {only} {q} h x = go (here x.shown)
    where
      go : Here (note_in notes) (end_in marks) (weight_in marks) (λ (p : ℕ) (s : Note). g.ok p ≡ true) end g.opens q x.place x.weight
          → (part_of agreed only ≡ part_of (part.agreed + g.weight) (some_to g.ok g.opens)) × (agreed ≤ 7 * end)
      go (ended e f z) =
          let a : agreed ≡ part.agreed + g.weight = omega (arith, x.sum) in
          (ap₂ part_of a (x.is ∙ ap (some_to g.ok) f), omega (arith, x.light))
      go (one l o e s) = absurd (omega arith)
      go (many l m o p s) = absurd (omega arith)

  module _ {agreed : ℕ} {only : Bool} {q : ℕ} (h : q < end) (x : PartAt agreed only q) (t : Note) (n : t ≡ note_in notes q)
      (agreed' : ℕ) (ea : agreed' ≡ agreed + cond (eqb t.runs 1) (weight_in marks q) 0) (q' : ℕ)
      (eq : q' ≡ cond (eqb t.runs 1) (q + 1) (end_in marks q)) where
    abbrev View-at : Type 0
    View-at = Here (note_in notes) (end_in marks) (weight_in marks) (λ (p : ℕ) (s : Note). g.ok p ≡ true) end g.opens q x.place x.weight

    runs-are : t.runs ≡ (note_in notes q).runs
    runs-are = ap (λ (t : Note). t.runs) n

    pub part-open : t.runs ≢ 1 → (only' : Bool) → only' ≡ true → PartAt agreed' only' q' × (q < q')
    unfolding some_to
    part-open ne only' eo = rw eo (go (here x.shown))
      where
        go : View-at → PartAt agreed' true q' × (q < q')
        go (ended e f z) = absurd (omega arith)
        go (one l o e s) = absurd (ne (runs-are ∙ o))
        go (many l m o p s) =
            let b : eqb t.runs 1 ≡ false = ne_eqb t.runs 1 ne in
            let f : q' ≡ end_in marks q = eq ∙ rw b in
            let a : agreed' ≡ agreed + 0 = ea ∙ rw b in (
              rw f (record {
                place = suc x.place;
                weight = x.weight;
                shown = s;
                is = sym (rw p (or-true (some_to g.ok x.place)));
                sum =
                    omega (arith, x.sum);
                light = omega (arith, x.light);
              }),
              omega arith,
            )

    pub part-closed : t.runs ≡ 1 → (only' : Bool) → only' ≡ only → PartAt agreed' only' q' × (q < q')
    part-closed o only' eo = rw eo (go (here x.shown))
      where
        go : View-at → PartAt agreed' only q' × (q < q')
        go (ended e f z) = absurd (omega arith)
        go (many l m o' p s) = absurd (omega (arith, runs-are))
        go (one {v = v} l o' e s) =
            let b : eqb t.runs 1 ≡ true = eq-eqb t.runs 1 o in
            let f : q' ≡ suc q = eq ∙ rw b (add-one q) in
            let a : agreed' ≡ agreed + weight_in marks q = ea ∙ rw b in
            (rw f (record { place = x.place; weight = v; shown = s; is = x.is; sum = omega (arith, x.sum); light = omega (arith, x.light) }), omega arith)

-- and in all of them
module _ {marks : List ℕ} {notes : List Note} {start end named : ℕ} (g : Columns marks notes start end named) where
  abbrev Parts : List Bool → ℕ → ℕ → ℕ → Type 0
  Parts fs q i w =
      ShownIn (note_in notes) (end_in marks) (weight_in marks) (λ (p : ℕ) (s : Note). g.ok p ≡ true) (λ (p : ℕ). g.ok p ≡ false) end g.opens fs q i
      w

  -- with no column named no place is looked at
  none-looked : {fs : List Bool} {q i w : ℕ} → ((j : ℕ) → flag j fs ≡ false) → Parts fs q i w → some_to g.ok i ≡ false → some_to g.ok g.opens ≡ false
  unfolding some_to
  none-looked n no_more e = e
  none-looked n (in-column l s t) e = absurd (true≢false (n 0))
  none-looked n (past-column l o t) e = none-looked (λ j. n (suc j)) t (rw (e, o))

  pub none_open : named ≡ 0 → some_to g.ok g.opens ≡ false
  unfolding some_to
  none_open e = none-looked (λ j. (rw e (zero_flags g.width j))) g.shown refl

  pub record PartsAt (part : Part) (rest q : ℕ) : Type 0 where
    pub bits : ℕ
    pub place : ℕ
    pub weight : ℕ
    pub shown : Parts (flags_in bits rest) q place weight
    pub is : part.only ≡ some_to g.ok place
    pub sum : part.agreed + weight ≡ g.weight
    pub light : part.agreed ≤ 7 * q

  pub parts-start : PartsAt (part_of 0 false) named start
  unfolding some_to
  parts-start = record { bits = g.width; place = 0; weight = g.weight; shown = g.shown; is = refl; sum = omega arith; light = omega arith }

  pub parts-end : {part : Part} {rest q : ℕ} → end ≤ q → PartsAt part rest q
      → (part ≡ part_of g.weight (some_to g.ok g.opens)) × (part.agreed ≤ most_agreed)
  parts-end {part} h x =
      let z = in-over x.shown h in
      let a : part.agreed ≡ g.weight = omega (arith, x.sum, z.1) in
      (ap₂ part_of a (x.is ∙ ap (some_to g.ok) z.0), omega (arith, x.light, in-high x.shown, g.within))

  module _ {part : Part} {rest q : ℕ} (h : q < end) (x : PartsAt part rest q) where
    pub part_in : rest % 2 ≡ 1
        → Looked (note_in notes) (end_in marks) (weight_in marks) (λ (p : ℕ) (s : Note). g.ok p ≡ true) (λ (p : ℕ). g.ok p ≡ false) end g.opens rest
        q x.place x.weight
    part_in o = look_in x.bits rest x.shown h o

    module _ (next : ℕ) (is : next ≡ end_in marks q) where
      pub part-on : (q < next) × (next ≤ end)
      part-on = rw is (on-column x.bits rest x.shown h)

      abbrev pub part-column : (o : rest % 2 ≡ 1) → Column marks notes q next part
      part-column o = record {
        ok = g.ok;
        passed = x.place;
        opens = (part_in o).next;
        weight = (part_in o).here;
        shown = rw is (part_in o).shown;
        so_far = x.is;
        light = x.light;
        within = omega (arith, part-on.1, g.within);
      }

      pub part-read : (o : rest % 2 ≡ 1) (part' : Part)
          → (part' ≡ part_of (part.agreed + (part_in o).here) (some_to g.ok (part_in o).next)) × (part'.agreed ≤ 7 * next)
          → PartsAt part' (rest / 2) next
      part-read o part' e =
          let i = part_in o in
          let l : part.agreed + i.here ≤ 7 * end_in marks q = rw (e.0, is) at e.1 in
          rw (e.0, is) (record {
            bits = i.bits;
            place = i.next;
            weight = i.more;
            shown = i.after;
            is = refl;
            sum =
                omega (arith, i.both, x.sum);
            light = l;
          })

      pub part-passed : rest % 2 ≢ 1 → (part' : Part) → part' ≡ part → PartsAt part' (rest / 2) next
      unfolding some_to
      part-passed ne part' e =
          let i = look-past x.bits rest x.shown h ne in
          let l : part.agreed ≤ 7 * end_in marks q = omega (arith, is, x.light, part-on.0) in
          rw (e, is) (record {
            bits = i.bits;
            place = suc x.place;
            weight = x.weight;
            shown = i.after;
            is = rw i.out (x.is ∙ sym (or-false (some_to g.ok x.place)));
            sum = x.sum;
            light = l;
          })
