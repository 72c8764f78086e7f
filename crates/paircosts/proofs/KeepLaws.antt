-- The values of a pair are kept: what is asked of the notes at its first row, and what they give.
use mathlib.Core.Path.{◌≡◌, refl, sym, ap, subst, ◌∙◌}
use mathlib.Core.Bool.{Bool, true, false, true≢false}
use mathlib.Core.Logic.{◌⊎◌, inl, inr}
use mathlib.Core.List.{List, [], ◌∷◌}
use Prim.Native.Nat.{ℕ, zero, suc, ◌+◌, ◌-◌, ◌≤◌, ◌<◌}
use native.Mathlib.Omega.{arith}
use lib.ListN.{length, take, drop}
use lib.Seq.{slice, length-slice, length-take-le, drop-drop}
use borrow.Author.Tests.{ne_eqb}
use Rattle.cell.specs.Cell.{arity}
use Rattle.term.specs.Terms.{Terms, more, front, root}
use Rattle.table.proofs.AllLaws.{all-at}
use Rattle.plan.specs.Named.{flag, may}
use Rattle.plan.proofs.NamedLaws.{Some, some, some-may, none_named}
use Rattle.plan.specs.code.Fits.{Fits}
use Rattle.state.specs.Flags.{flags_in}
use Rattle.least.specs.code.Pairs.{Scan, closed_of, later_of, agreed_of, price_by, least_by}
use Rattle.least.proofs.Pairs.{pair-flags}
use Rattle.paircosts.specs.declared.arrays.Note.{Note}
use Rattle.paircosts.specs.declared.arrays.Row.{Row}
use Rattle.paircosts.specs.declared.arrays.Part.{Part}
use Rattle.paircosts.specs.declared.arrays.Shared.{Shared}
use Rattle.paircosts.specs.declared.arrays.Asked.{Asked}
use Rattle.paircosts.specs.code.Notes.{note_in, end_in, weight_in, most_agreed}
use Rattle.paircosts.specs.code.Reading.{some_to, sort_of, Shown, ShownIn, Priced, Columns, Sorted}
use Rattle.paircosts.specs.code.Filling.{PairAt, put_pair}
use Rattle.paircosts.proofs.FlagLaws.{any_some, some-yes, some-no, length-flags}
use Rattle.paircosts.proofs.ShownLaws.{Is, Out}
use Rattle.paircosts.proofs.PairNotes.{NoteAt, shown-each, in-each, in_map, named_of, sort_is, inside_is, pair-weight, pair-all, pair-columns, pair_inside}
use Rattle.paircosts.proofs.BestLaws.{least-few}
use Rattle.paircosts.proofs.RowLaws.{part-root, ended_at}

-- a row from any of its cells on begins with a term
terms-drop : (n k : ℕ) (xs : List ℕ) → Terms k xs → n < length xs → (r : ℕ) × Terms (suc r) (drop n xs)
terms-drop n zero [] t h = absurd (omega arith)
terms-drop n (suc k) [] t h = absurd (omega arith)
terms-drop zero k (c ∷ xs) (more {k = r} t) h = (r, more t)
terms-drop (suc n) k (c ∷ xs) (more {k = r} t) h = terms-drop n (arity c + r) xs t (omega arith)

-- no open place costs much, whatever the runs cost
price-small : {W : ℕ → ℕ → ℕ} {first last a f j : ℕ} {ok : ℕ → Bool} {F : ℕ → ℕ} {s : Note} → ((j : ℕ) → first ≤ j → j ≤ last → W first j ≤ 65535)
    → last < 64 → f ≤ 15
    → Priced W first last a f ok F j s → F j ≤ 4300000
price-small {s = s} small row low p =
    let x = p.fair in
    let v = small s.to x.low x.high in
    omega (arith, p.price, x.small, x.few)

module _ {marks kept : List ℕ} {notes : List Note} {row : Row} {shared : Shared} {asked : Asked} (g : PairAt marks kept notes row shared asked) where
  abbrev fs : List Bool
  fs = flags_in g.width asked.named

  abbrev zs : List ℕ
  zs = take row.end g.cells

  flags : length fs ≡ g.width
  flags = length-flags g.width asked.named

  zs-length : length zs ≡ row.end
  zs-length = length-take-le row.end g.cells g.part.1

  row-terms : Terms g.width (slice row.start row.end g.cells)
  row-terms = rw g.row_is at (all-at (Fits 32 g.width) [] g.rows row.number (omega (arith, g.order, g.inside)) g.fits).0

  ends-right : (j : ℕ) → row.start ≤ j → j < length zs → end_in marks j ≡ j + length (front 1 (drop j zs))
  ends-right j h l =
      let n : row.start + (j - row.start) ≡ j = omega arith in
      let d : drop (j - row.start) (slice row.start row.end g.cells) ≡ slice j row.end g.cells =
      drop-drop (j - row.start) row.start zs ∙ ap (λ (i : ℕ). drop i zs) n in
      let t = terms-drop (j - row.start) g.width (slice row.start row.end g.cells) row-terms
      (omega (arith, zs-length, length-slice row.start row.end g.cells g.part.1)) in
      ended_at {r = t.0} j row.end g.marked (omega (arith, zs-length)) g.part.1 (rw d at t.1)

  weights-right : (j : ℕ) → row.start ≤ j → j < length zs → weight_in marks j ≡ g.m.weight (root 0 (drop j zs))
  weights-right j h l =
      (g.marked.at j (omega arith) (omega (arith, zs-length, g.part.1))).weight
      ∙ ap g.m.weight (sym (part-root j row.end g.cells (omega (arith, zs-length)) g.part.1))

  abbrev first : ℕ
  first = row.number

  abbrev last : ℕ
  last = shared.last

  -- the pair's state, its named columns, and its sort
  abbrev pub state : Scan
  state = closed_of g.m 32 fs g.width g.rows first last

  abbrev names : Scan
  names = named_of g.m fs g.width g.rows first last

  abbrev sort : Bool
  sort = sort_is g.m fs g.width g.rows first last

  abbrev ok : ℕ → Bool
  ok = may state.named

  abbrev agreed : ℕ
  agreed = agreed_of g.m 32 fs g.width g.rows first last

  abbrev prices : ℕ → ℕ
  prices = price_by g.m fs g.width g.rows g.N first last

  abbrev PricedAt : ℕ → Note → Type 0
  PricedAt = Priced g.N first last agreed g.m.figure ok prices

  -- what the notes show
  state-is : sort ≡ true → state ≡ names
  state-is = inside_is g.m g.width g.rows g.fits g.N g.small fs flags first last g.order g.inside

  pub columns-shown : ShownIn (note_in notes) (end_in marks) (weight_in marks) (Is g.N first last false names.named names.left) (Out false names.named)
      row.end names.opens fs row.start 0 names.agreed
  columns-shown =
      rw zs-length at
      (pair-columns g.m g.width g.rows g.fits g.N g.small fs flags first last g.order g.inside (note_in notes) (end_in marks)
      (weight_in marks)
      zs row.start ends-right weights-right (omega (arith, zs-length, g.part.0)) g.row_is g.noted)

  inside-shown : sort ≡ true → ShownIn (note_in notes) (end_in marks) (weight_in marks) PricedAt (λ (p : ℕ). ok p ≡ false) row.end state.opens fs
      row.start 0 state.agreed
  inside-shown e =
      rw zs-length at
      (pair_inside g.m g.width g.rows g.fits g.N g.small fs flags first last g.order g.inside (note_in notes) (end_in marks)
      (weight_in marks)
      zs row.start ends-right weights-right (omega (arith, zs-length, g.part.0)) g.row_is g.noted e)

  all_shown : sort ≡ false → (u : ℕ) × Shown (note_in notes) (end_in marks) (weight_in marks) PricedAt row.end state.opens row.start 0 u
  all_shown e =
      rw zs-length at
      (pair-all g.m g.width g.rows g.fits g.N g.small fs flags first last g.order g.inside (note_in notes) (end_in marks) (weight_in marks)
      zs row.start ends-right weights-right (omega (arith, zs-length, g.part.0)) g.row_is g.noted e)

  weight_is : sort ≡ false → g.weight ≡ state.agreed
  weight_is =
      pair-weight g.m g.width g.rows g.fits g.N g.small fs flags first last g.order g.inside (note_in notes) (end_in marks)
      (weight_in marks)
      zs row.start ends-right weights-right (omega (arith, zs-length, g.part.0)) g.row_is g.noted

  state-flags : length state.named ≤ state.opens
  state-flags = pair-flags g.m 32 fs g.width g.rows g.fits (omega (arith, flags)) first last g.order g.inside

  -- the columns, for what is closed
  abbrev inside-named : ℕ → Bool
  inside-named p = flag p names.named

  abbrev pub columns-given : Columns marks notes row.start row.end asked.named
  columns-given = record {
    ok = inside-named;
    width = g.width;
    opens = names.opens;
    weight = names.agreed;
    shown = in_map (λ j s h p. p.looked) (λ j o. o) columns-shown;
    within = omega (arith, g.part.1, g.part.2);
  }

  -- a place inside named columns that is open
  open-named : sort ≡ true → (j : ℕ) × (j < names.opens) × (flag j names.named ≡ true)
  open-named e = any_some names.named names.opens (subst (λ (s : Scan). length s.named ≤ s.opens) (state-is e) state-flags) e

  sort-is : some_to inside-named names.opens ≡ sort
  sort-is = go sort refl
    where
      go : (b : Bool) → sort ≡ b → some_to inside-named names.opens ≡ b
      go true e = let j = open-named e in some-yes inside-named names.opens j.0 j.1 j.2
      go false e = some-no inside-named names.opens (λ j h. none_named names.named e j)

  -- there are several rows then
  several : sort ≡ true → first < last
  several e = let j = open-named e in go j.0 j.2 (in-each columns-shown j.0 (omega arith) j.1)
    where
      go : (j : ℕ) → flag j names.named ≡ true → NoteAt (Is g.N first last false names.named names.left) j ⊎ Out false names.named j
          → first < last
      go j y (inl s) = omega (arith, s.1, s.2.fair.few)
      go j y (inr o) = absurd (true≢false (sym y ∙ o))

  -- WHAT IS CLOSED is as the pair's sort says
  pub record PartIs (part : Part) : Type 0 where
    pub agreed-is : part.agreed ≡ agreed
    pub only-is : part.only ≡ sort

  pub part-is : (part : Part) → part ≡ sort_of shared.agreed names.agreed (some_to inside-named names.opens) → PartIs part
  unfolding later_of
  part-is part e = go sort refl (e ∙ ap (sort_of shared.agreed names.agreed) sort-is)
    where
      go : (b : Bool) → sort ≡ b → part ≡ sort_of shared.agreed names.agreed b → PartIs part
      go true q p =
          let l : later_of g.m 32 fs g.width g.rows first last ≡ 0 = rw (ne_eqb first last (λ z. omega (arith, several q))) in
          rw p (record { agreed-is = omega (arith, l, ap (λ (s : Scan). s.agreed) (state-is q)); only-is = sym q })
      go false q p = rw p (record { agreed-is = omega (arith, g.agreed-is, weight_is q); only-is = sym q })

  -- ITS OPEN PLACES: of k > 0 one may be chosen, and none of these costs much
  pub some-open : 0 < state.opens → (j : ℕ) × (j < state.opens) × (ok j ≡ true)
  some-open h = go state.opens refl h
    where
      at : (k : ℕ) → Some state.named (suc k) → (j : ℕ) × (j < suc k) × (ok j ≡ true)
      at k (some j l y) = (j, l, y)

      go : (k : ℕ) → state.opens ≡ k → 0 < k → (j : ℕ) × (j < k) × (ok j ≡ true)
      go zero e h = absurd (omega arith)
      go (suc k) e h = at k (some-may state.named k (omega (arith, state-flags)))

  pub cheap-open : (j : ℕ) → j < state.opens → ok j ≡ true → prices j ≤ 4300000
  cheap-open j h y = go sort refl
    where
      few : {s : Note} → PricedAt j s → prices j ≤ 4300000
      few p = price-small (λ i l m. g.small first i l (omega (arith, g.inside))) (omega (arith, g.inside, g.few)) g.low.figure p

      either : NoteAt PricedAt j ⊎ (ok j ≡ false) → prices j ≤ 4300000
      either (inl s) = few s.2
      either (inr o) = absurd (true≢false (sym y ∙ o))

      go : (b : Bool) → sort ≡ b → prices j ≤ 4300000
      go true e = either (in-each (inside-shown e) j (omega arith) h)
      go false e = few (shown-each (all_shown e).1 j (omega arith) h).2

  pub keep-small : least_by g.m fs g.width g.rows g.N first last ≤ 4300000
  keep-small = least-few ok prices 4300000 state.opens some-open cheap-open

  module _ {part : Part} (x : PartIs part) (light : part.agreed ≤ most_agreed) where
    -- by the code's own numbers
    pub all-priced : part.only ≡ false → (u : ℕ)
        × Shown (note_in notes) (end_in marks) (weight_in marks) (Priced g.N first last part.agreed asked.figure ok prices) row.end
        state.opens row.start 0 u
    all-priced e = rw (x.agreed-is, g.figure-is) (all_shown (sym x.only-is ∙ e))

    pub inside-priced : part.only ≡ true → (0 < state.opens) × (width : ℕ) × (u : ℕ)
        × ShownIn (note_in notes) (end_in marks) (weight_in marks) (Priced g.N first last part.agreed asked.figure ok prices)
        (λ (p : ℕ). ok p ≡ false) row.end
        state.opens (flags_in width asked.named) row.start 0 u
    inside-priced e =
        let q : sort ≡ true = sym x.only-is ∙ e in
        let j = open-named q in
        (omega (arith, j.1, ap (λ (s : Scan). s.opens) (state-is q)), g.width, state.agreed, rw (x.agreed-is, g.figure-is) (inside-shown q))

    abbrev pub sorted : Sorted marks kept notes row part asked
    sorted = record {
      pair = record {
        costs = g.N;
        last = last;
        ok = ok;
        prices = prices;
        known = g.known;
        small = λ j h l. g.small first j h (omega (arith, g.inside));
        few = (light, omega (arith, g.figure-is, g.low.figure));
        rows = (g.order, omega (arith, g.inside, g.few));
        long = g.long;
      };
      opens = state.opens;
      all = all-priced;
      inside = inside-priced;
      some = some-open;
      cheap = cheap-open;
      within = omega (arith, g.part.1, g.part.2);
    }

pub put-same-values : (kept : List ℕ) (pair : ℕ) {x y z x' y' z' : ℕ} → x ≡ x' → y ≡ y' → z ≡ z'
    → put_pair kept pair (x + y) y z ≡ put_pair kept pair (x' + y') y' z'
put-same-values kept pair e f g = rw (e, f, g)
