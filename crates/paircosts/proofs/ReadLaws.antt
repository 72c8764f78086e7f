-- The cheapest open place, as it is looked for: over a range of cells, and over the named columns.
use mathlib.Core.Path.{◌≡◌, refl, sym, ap, ap₂, subst, ◌∙◌}
use mathlib.Core.Logic.{◌≢◌}
use mathlib.Core.Bool.{Bool, true, false, cond}
use mathlib.Core.List.{List}
use Prim.Native.Nat.{ℕ, suc, ◌+◌, ◌/◌, ◌%◌, ◌≤◌, ◌<◌}
use native.Mathlib.Omega.{arith}
use native.Mathlib.Numerals.{add-one}
use lib.Dec.{eqb, ltb}
use borrow.Author.Tests.{eq-eqb, ne_eqb}
use Rattle.state.specs.Flags.{flags_in}
use Rattle.paircosts.specs.declared.arrays.Note.{Note}
use Rattle.paircosts.specs.declared.arrays.Row.{Row}
use Rattle.paircosts.specs.declared.arrays.Choice.{Choice}
use Rattle.paircosts.specs.declared.arrays.Base.{Base}
use Rattle.paircosts.specs.declared.arrays.Found.{Found}
use Rattle.paircosts.specs.code.Notes.{note_in, read_in, end_in, weight_in, most_agreed, Long, Small}
use Rattle.paircosts.specs.code.Reading.{choice_of, found_of, price_of, too_much, best_to, found_to, Shown, ShownIn, PricedOf, Range, Inside}
use Rattle.paircosts.specs.code.Filling.{pair_row}
use Rattle.paircosts.proofs.WalkLaws.{Here, ended, one, many, here, shown-few, in-over, Looked, on-column, look_in, look-past}

-- THE CHEAPEST PLACE, over a range of cells
module _ {marks kept : List ℕ} {notes : List Note} {range : Row} {base : Base} {found : Found} (g : Range marks kept notes range base found) where
  abbrev stop : ℕ
  stop = range.end

  abbrev Left : ℕ → ℕ → ℕ → Type 0
  Left q i w = Shown (note_in notes) (end_in marks) (weight_in marks) (PricedOf g.pair) stop g.opens q i w

  abbrev View : ℕ → ℕ → ℕ → Type 0
  View q i w = Here (note_in notes) (end_in marks) (weight_in marks) (PricedOf g.pair) stop g.opens q i w

  -- the first i open places are looked at
  pub record CheapAt (best : Choice) (i q : ℕ) : Type 0 where
    pub weight : ℕ
    pub shown : Left q i weight
    pub is : best ≡ best_to g.pair.ok g.pair.prices i
    pub small : i ≤ q

  pub cheap_start : CheapAt found.best found.place range.start
  cheap_start = record { weight = g.weight; shown = g.shown; is = g.so_far; small = g.within.1 }

  pub cheap-end : {best : Choice} {i q : ℕ} → stop ≤ q → CheapAt best i q → found_of best i ≡ found_to g.pair.ok g.pair.prices g.opens
  cheap-end {best} {i} {q} h x = go (here x.shown)
    where
      go : View q i x.weight → found_of best i ≡ found_to g.pair.ok g.pair.prices g.opens
      go (ended e f z) = rw (x.is, f)
      go (one l o e s) = absurd (omega arith)
      go (many l m o p s) = absurd (omega arith)

  module _ {best : Choice} {i q : ℕ} (h : q < stop) (x : CheapAt best i q) where
    abbrev s : Note
    s = note_in notes q

    -- what the pair's open place costs
    abbrev price : ℕ
    price = price_of (read_in kept) range.number base.agreed base.figure s

    record Opened : Type 0 where
      pub next : Left (end_in marks q) (suc i) x.weight
      pub on : q < end_in marks q
      pub small : Small range.number s
      pub is : price ≡ g.pair.prices i
      pub may : g.pair.ok i ≡ true

    opened-at : s.runs ≢ 1 → Opened
    opened-at ne = go (here x.shown)
      where
        go : View q i x.weight → Opened
        go (ended e f z) = absurd (omega arith)
        go (one l o e t) = absurd (ne o)
        go (many l m o p t) =
            let f = p.fair in
            let k : read_in kept range.number s.to ≡ g.pair.costs range.number s.to = g.pair.known s.to f.low (f.earlier o) in
            record {
              next = t;
              on = m;
              small = record {
                runs = omega (arith, f.few, g.pair.rows.1);
                sum = omega (arith, f.small, f.few, g.pair.rows.1);
                to = omega (arith, f.high, g.pair.rows.1);
                row = omega (arith, g.pair.rows.0, g.pair.rows.1);
              };
              is = rw k (sym p.price);
              may = p.may;
            }

    cheap-open : s.runs ≢ 1 → CheapAt (cond (ltb price best.cost) (choice_of price i) best) (i + 1) (end_in marks q)
    unfolding best_to
    cheap-open ne =
        let o = opened-at ne in
        rw (add-one i) (record { weight = x.weight; shown = o.next; is = rw (o.is, o.may, x.is); small = omega (arith, o.on, x.small) })

    cheap-closed : s.runs ≡ 1 → CheapAt best i (q + 1)
    cheap-closed o = go (here x.shown)
      where
        go : View q i x.weight → CheapAt best i (q + 1)
        go (ended e f z) = absurd (omega arith)
        go (one {v = v} l o e t) = record { weight = v; shown = rw (add-one q) t; is = x.is; small = omega (arith, x.small) }
        go (many l m o' p t) = absurd (omega arith)

    -- the two ways of one turn of the loop, by what its calls give
    module _ (t : Note) (n : t ≡ note_in notes q) (q' : ℕ) (eq : q' ≡ cond (eqb t.runs 1) (q + 1) (end_in marks q)) where
      pub turn-open : t.runs ≢ 1 → (cost : ℕ) → cost ≡ price_of (read_in kept) range.number base.agreed base.figure t
          → (best' : Choice) → best' ≡ cond (ltb cost best.cost) (choice_of cost i) best → (i' : ℕ) → i' ≡ i + 1 → CheapAt best' i' q' × (q < q')
      turn-open ne cost ec best' eb i' ei =
          let ne' : s.runs ≢ 1 = λ o. ne (ap (λ (t : Note). t.runs) n ∙ o) in
          let c : cost ≡ price = ec ∙ ap (price_of (read_in kept) range.number base.agreed base.figure) n in
          let e : q' ≡ end_in marks q = eq ∙ rw (ne_eqb t.runs 1 ne) in
          (rw (eb, c, ei, e) (cheap-open ne'), rw e (opened-at ne').on)

      pub turn-closed : t.runs ≡ 1 → (best' : Choice) → best' ≡ best → (i' : ℕ) → i' ≡ i → CheapAt best' i' q' × (q < q')
      turn-closed o best' eb i' ei =
          let e : q' ≡ q + 1 = eq ∙ rw (eq-eqb t.runs 1 o) in
          (rw (eb, ei, e) (cheap-closed (ap (λ (t : Note). t.runs) (sym n) ∙ o)), omega arith)

      -- what the open place's cost asks
      pub turn-asks : t.runs ≢ 1 → Small range.number t × (base.agreed ≤ most_agreed) × (base.figure ≤ 15) × Long kept
      turn-asks ne =
          let o = opened-at (λ o. ne (ap (λ (t : Note). t.runs) n ∙ o)) in
          subst (λ (t : Note). Small range.number t × (base.agreed ≤ most_agreed) × (base.figure ≤ 15) × Long kept) (sym n)
          (o.small, g.pair.few.0, g.pair.few.1, g.pair.long)

-- over the named columns
module _ {marks kept : List ℕ} {notes : List Note} {row : Row} {base : Base} {named : ℕ} (g : Inside marks kept notes row base named) where
  abbrev Cols : List Bool → ℕ → ℕ → ℕ → Type 0
  Cols fs q i w = ShownIn (note_in notes) (end_in marks) (weight_in marks) (PricedOf g.pair) (λ (p : ℕ). g.pair.ok p ≡ false) row.end g.opens fs q i w

  pub record NamedAt (found : Found) (rest q : ℕ) : Type 0 where
    pub bits : ℕ
    pub weight : ℕ
    pub shown : Cols (flags_in bits rest) q found.place weight
    pub is : found.best ≡ best_to g.pair.ok g.pair.prices found.place
    pub small : found.place ≤ q

  pub named_start : NamedAt (found_of (choice_of too_much 0) 0) named row.start
  unfolding best_to
  named_start = record { bits = g.width; weight = g.weight; shown = g.shown; is = refl; small = omega arith }

  pub named_end : {found : Found} {rest q : ℕ} → row.end ≤ q → NamedAt found rest q → found ≡ found_to g.pair.ok g.pair.prices g.opens
  named_end h x = let z = in-over x.shown h in ap₂ found_of (x.is ∙ ap (best_to g.pair.ok g.pair.prices) z.0) z.0

  module _ {found : Found} {rest q : ℕ} (h : q < row.end) (x : NamedAt found rest q) where
    pub column-in : rest % 2 ≡ 1
        → Looked (note_in notes) (end_in marks) (weight_in marks) (PricedOf g.pair) (λ (p : ℕ). g.pair.ok p ≡ false) row.end g.opens rest q
        found.place x.weight
    column-in o = look_in x.bits rest x.shown h o

    module _ (end : ℕ) (is : end ≡ end_in marks q) where
      pub column-on : (q < end) × (end ≤ row.end)
      column-on = rw is (on-column x.bits rest x.shown h)

      abbrev pub column-range : (o : rest % 2 ≡ 1) → Range marks kept notes (pair_row row.number q end) base found
      column-range o = record {
        pair = g.pair;
        opens = (column-in o).next;
        weight = (column-in o).here;
        shown = rw is (column-in o).shown;
        so_far = x.is;
        within = (omega (arith, column-on.1, g.within), x.small);
      }

      pub column-read : (o : rest % 2 ≡ 1) (found' : Found) → found' ≡ found_to g.pair.ok g.pair.prices (column-in o).next
          → NamedAt found' (rest / 2) end
      column-read o found' e =
          let i = column-in o in
          rw (e, is) (record { bits = i.bits; weight = i.more; shown = i.after; is = refl; small = shown-few i.shown x.small })

      -- one that is not named
      pub column-passed : rest % 2 ≡ 0 → (found' : Found) → found' ≡ found_of found.best (found.place + 1) → NamedAt found' (rest / 2) end
      unfolding best_to
      column-passed o found' e =
          let i = look-past x.bits rest x.shown h (λ n. omega arith) in
          let l : suc found.place ≤ end_in marks q = omega (arith, is, x.small, column-on.0) in
          rw (e, add-one found.place, is) (record { bits = i.bits; weight = x.weight; shown = i.after; is = rw i.out x.is; small = l })
