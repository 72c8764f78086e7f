-- The notes at the first row of a pair give the pair's values, whatever a run of rows costs: what is closed, and what each open place costs
-- that may be chosen. A pair is of one sort. While a place inside named columns is open, what is closed is inside them; otherwise the state
-- is the one that is reached where no column is named.
use mathlib.Core.Path.{◌≡◌, refl, sym, ap, ap₂, subst, ◌∙◌}
use mathlib.Core.Bool.{Bool, true, false}
use mathlib.Core.Logic.{◌⊎◌, inl, inr}
use mathlib.Core.List.{List, [], ◌∷◌, ◌++◌}
use Prim.Native.Nat.{ℕ, suc, ◌+◌, ◌-◌, ◌*◌, ◌≤◌, ◌<◌}
use native.Mathlib.Omega.{arith}
use native.Mathlib.Nat.{zero-add}
use lib.Dec.{ltb}
use lib.ListN.{length, get_or, drop, replicate}
use lib.Seq.{slice, slice-cons, length-slice}
use borrow.Author.Tests.{ltb-true, ltb-false}
use Rattle.term.specs.Terms.{front, back, root}
use Rattle.term.proofs.TermsLaws.{back-zero, front-zero, terms-long}
use Rattle.table.specs.All.{All}
use Rattle.plan.specs.Runs.{runs}
use Rattle.plan.specs.Plans.{Measure, choice}
use Rattle.plan.specs.code.Fits.{Fits}
use Rattle.plan.specs.Named.{flag, May, inside, freely, any_named, may}
use Rattle.plan.proofs.NamedLaws.{none_named, is-may}
use Rattle.least.specs.Entries.{between, Closes, stop, step}
use Rattle.least.specs.code.Pairs.{Scan, scan, closed, sums, closed_of, agreed_of, price_by}
use Rattle.least.proofs.Closing.{Closing, weighs, none-closed, one-closed, closes-length, order-does-not-matter}
use Rattle.least.proofs.Pairs.{pair-state, pair-closed}
use Rattle.least.proofs.Weighed.{choice-stuck}
use Rattle.least.proofs.ScanLaws.{closed-plain}
use Rattle.paircosts.specs.declared.arrays.Note.{Note}
use Rattle.paircosts.specs.code.Notes.{Fair, Noted}
use Rattle.paircosts.specs.code.Reading.{Shown, at-end, at-closed, at_open, ShownIn, no_more, in-column, past-column, Priced}
use Rattle.paircosts.proofs.NoteLaws.{Says}
use Rattle.paircosts.proofs.NotedLaws.{map-id}
use Rattle.paircosts.proofs.FlagLaws.{Sees, sees-every, sees_named, scan-none}
use Rattle.paircosts.proofs.ShownLaws.{Is, Out, Shows, shown-none, shown-from}

-- an open place has its note
abbrev pub NoteAt : (ℕ → Note → Type 0) → ℕ → Type 0
NoteAt P j = (s : Note) × (1 < s.runs) × P j s

module _ {N : ℕ → Note} {E H : ℕ → ℕ} {P : ℕ → Note → Type 0} where
  shown-within : {stop k q i w : ℕ} → Shown N E H P stop k q i w → i ≤ k
  shown-within at-end = omega arith
  shown-within (at-closed h o s) = shown-within s
  shown-within (at_open h l o p s) = omega (arith, shown-within s)

  pub shown-each : {stop k q i w : ℕ} → Shown N E H P stop k q i w → (j : ℕ) → i ≤ j → j < k → NoteAt P j
  shown-each at-end j h l = absurd (omega arith)
  shown-each (at-closed m o s) j h l = shown-each s j h l
  shown-each {k = k} {i = i} (at_open {at = q} m n o p s) j h l = go (ltb i j) refl (λ u v. shown-each s j u v)
    where
      go : (t : Bool) → ltb i j ≡ t → (suc i ≤ j → j < k → NoteAt P j) → NoteAt P j
      go true e ih = ih (omega (arith, ltb-true i j e)) l
      go false e ih = let z : j ≡ i = omega (arith, ltb-false i j e) in (N q, o, rw z p)

  module _ {O : ℕ → Type 0} {stop k : ℕ} where
    in_within : {fs : List Bool} {q i w : ℕ} → ShownIn N E H P O stop k fs q i w → i ≤ k
    in_within no_more = omega arith
    in_within (in-column l s t) = omega (arith, shown-within s, in_within t)
    in_within (past-column l o t) = omega (arith, in_within t)

    -- or it is not looked at
    pub in-each : {fs : List Bool} {q i w : ℕ} → ShownIn N E H P O stop k fs q i w → (j : ℕ) → i ≤ j → j < k → NoteAt P j ⊎ O j
    in-each no_more j h l = absurd (omega arith)
    in-each (in-column {next = n} e s t) j h l = go (ltb j n) refl (λ u v. in-each t j u v)
      where
        go : (b : Bool) → ltb j n ≡ b → (n ≤ j → j < k → NoteAt P j ⊎ O j) → NoteAt P j ⊎ O j
        go true q ih = inl (shown-each s j h (ltb-true j n q))
        go false q ih = ih (ltb-false j n q) l
    in-each {i = i} (past-column e o t) j h l = go (ltb i j) refl (λ u v. in-each t j u v)
      where
        go : (b : Bool) → ltb i j ≡ b → (suc i ≤ j → j < k → NoteAt P j ⊎ O j) → NoteAt P j ⊎ O j
        go true q ih = ih (omega (arith, ltb-true i j q)) l
        go false q ih = let z : j ≡ i = omega (arith, ltb-false i j q) in inr (rw z o)

  module _ {Q : ℕ → Note → Type 0} where
    shown-map : {stop k q i w : ℕ} → ((j : ℕ) (s : Note) → j < k → P j s → Q j s) → Shown N E H P stop k q i w → Shown N E H Q stop k q i w
    shown-map f at-end = at-end
    shown-map f (at-closed h o s) = at-closed h o (shown-map f s)
    shown-map {i = i} f (at_open {at = q} h l o p s) = at_open h l o (f i (N q) (omega (arith, shown-within s)) p) (shown-map f s)

    pub in_map : {O U : ℕ → Type 0} {stop k : ℕ} {fs : List Bool} {q i w : ℕ} → ((j : ℕ) (s : Note) → j < k → P j s → Q j s) → ((j : ℕ) → O j → U j)
        → ShownIn N E H P O stop k fs q i w → ShownIn N E H Q U stop k fs q i w
    in_map f g no_more = no_more
    in_map f g (in-column l s t) = in-column l (shown-map (λ j n h. f j n (omega (arith, in_within t))) s) (in_map f g t)
    in_map {i = i} f g (past-column l o t) = past-column l (g i o) (in_map f g t)

  -- where there is no column the walk is over
  in-none : {O : ℕ → Type 0} {stop k q i w : ℕ} → ShownIn N E H P O stop k [] q i w → (q ≡ stop) × (i ≡ k) × (w ≡ 0)
  in-none no_more = (refl, refl, refl)

-- closed as if no column were named
plain-closes : (m : Measure) {fs fs' : List Bool} {k k' : ℕ} {rows rows' : List (List ℕ)} (x : Closes fs k rows fs' k' rows')
    → Closing m (weighs m x) [] k rows [] k' rows'
unfolding weighs
plain-closes m stop = none-closed
plain-closes m (step i c h a y x) = one-closed i c h a (freely (λ j. refl)) (plain-closes m x)

module _ (m : Measure) (fs : List Bool) (w : ℕ) (rows : List (List ℕ)) (first last : ℕ) where
  -- the first of the two scans, which looks at named columns only
  abbrev pub named_of : Scan
  named_of = scan m false 32 fs 0 w (between first last rows)

  -- the pair's sort: whether a place inside them is open
  abbrev pub sort_is : Bool
  sort_is = any_named named_of.named

module _ (m : Measure) (w : ℕ) (rows : List (List ℕ)) (fits : All (Fits 32 w) rows) (W : ℕ → ℕ → ℕ)
    (small : (j j' : ℕ) → j ≤ j' → j' < length rows → W j j' ≤ 65535) (fs : List Bool) (flags : length fs ≡ w)
    (first last : ℕ) (order : first ≤ last) (below : last < length rows) where
  abbrev State : Scan
  State = closed_of m 32 fs w rows first last

  abbrev Named : Scan
  Named = named_of m fs w rows first last

  abbrev sort : Bool
  sort = sort_is m fs w rows first last

  pub inside_is : sort ≡ true → State ≡ Named
  unfolding closed_of closed
  inside_is e = rw e

  no_flag : sort ≡ false → (j : ℕ) → flag j State.named ≡ false
  unfolding closed_of closed
  no_flag e = rw e (scan-none m true 32 Named.named 0 Named.opens Named.left (none_named Named.named e))

  narrow : w ≤ 32
  narrow = let f = pair-state m 32 fs w rows fits (omega arith) first last order below in wide (between first last rows) f.0 f.1
    where
      wide : (rs : List (List ℕ)) → All (Fits 32 w) rs → 0 < length rs → w ≤ 32
      wide [] a h = absurd (omega arith)
      wide (r ∷ rs) a h = omega (arith, terms-long a.0.0, a.0.1)

  -- the state where no column is named is what one scan finds
  abbrev Plain : Scan
  Plain = scan m true 32 [] 0 w (between first last rows)

  plain_closed : closed_of m 32 [] w rows first last ≡ Plain
  unfolding closed_of
  plain_closed = closed-plain m 32 w (between first last rows) narrow

  -- it is reached where no place inside named columns stays open
  record AsPlain : Type 0 where
    pub agreed : State.agreed ≡ Plain.agreed
    pub opens : State.opens ≡ Plain.opens
    pub left : State.left ≡ Plain.left

  as_plain : sort ≡ false → AsPlain
  as_plain e =
      let x = pair-closed m 32 fs w rows fits (omega arith) first last order below in
      let y = pair-closed m 32 [] w rows fits (omega arith) first last order below in
      let z = plain-closes m x.closes.closes in
      let o = order-does-not-matter m z.closes (λ i c l a v. x.stuck i c l a (freely (no_flag e))) y.closes.closes y.stuck in
      record {
        agreed = sym x.closes.weight ∙ sym z.weight ∙ o.0 ∙ y.closes.weight ∙ ap (λ (s : Scan). s.agreed) plain_closed;
        opens = o.1 ∙ ap (λ (s : Scan). s.opens) plain_closed;
        left = o.2 ∙ ap (λ (s : Scan). s.left) plain_closed;
      }

  -- which places may be chosen, what the closed cells cost, and the prices
  abbrev ok : ℕ → Bool
  ok = may State.named

  abbrev agreed : ℕ
  agreed = agreed_of m 32 fs w rows first last

  abbrev prices : ℕ → ℕ
  prices = price_by m fs w rows W first last

  abbrev PricedAt : ℕ → Note → Type 0
  PricedAt = Priced W first last agreed m.figure ok prices

  -- what the notes say of an open place that may be chosen is its price
  place-priced : (i : ℕ) (s : Note) → i < State.opens → May State.named i
      → Says W s first (length (runs i State.left)) (sums W first (runs i State.left)) → Fair first last s → PricedAt i s
  place-priced i s h y p f =
      let x = pair-closed m 32 fs w rows fits (omega arith) first last order below in
      let l : length State.left ≡ suc last - first = closes-length x.closes.closes ∙ length-slice first (suc last) rows below in
      let g : choice m (length (runs i State.left)) ≡ m.figure =
      choice-stuck m State.named State.opens i State.left (omega arith) x.stuck h y in
      let t : sums W first (runs i State.left) - length (runs i State.left) * agreed ≡ s.sum + W first s.to - s.runs * agreed =
      ap₂ (λ (u v : ℕ). u - v * agreed) (sym p.costs) (sym p.number) in
      record { price = ap₂ (λ (u v : ℕ). u + v) g t; fair = f; may = is-may State.named i y }

  module _ (N : ℕ → Note) (E H : ℕ → ℕ) (zs : List ℕ) (at : ℕ) (ends : (j : ℕ) → at ≤ j → j < length zs → E j ≡ j + length (front 1 (drop j zs)))
      (weights : (j : ℕ) → at ≤ j → j < length zs → H j ≡ m.weight (root 0 (drop j zs)))
      (within : at ≤ length zs) (row : get_or rows first [] ≡ drop at zs)
      {weight : ℕ} (noted : Noted m W first N at w (get_or rows first []) (slice (suc first) (suc last) rows) weight) where
    abbrev y : List ℕ
    y = get_or rows first []

    abbrev rest : List (List ℕ)
    rest = slice (suc first) (suc last) rows

    rows_are : between first last rows ≡ y ∷ rest
    rows_are = slice-cons first (suc last) rows [] (omega arith) (omega arith)

    -- what a scan from the first place on shows
    shows : (every : Bool) (gs : List Bool) (a : ℕ) (cs : List Bool) → w ≡ a + length cs → Sees every gs 0 (replicate a true ++ cs)
        → Shows m W (length rows) small first last below N E H zs at ends weights every 0 a cs at y weight (scan m every 32 gs 0 w (between first last rows))
    shows every gs a cs k s =
        let l : length rest ≡ suc last - suc first = length-slice (suc first) (suc last) rows below in
        rw rows_are (shown-from m W (length rows) small first last below N E H zs at ends weights every 32 gs 0 w a cs at y rest weight (record {
          places = k;
          sees = s;
          fits =
              subst (λ (l : List (List ℕ)). All (Fits 32 (0 + w)) l) rows_are
              (rw zero-add (pair-state m 32 fs w rows fits (omega arith) first last order below).0);
          rows = omega arith;
          low = omega arith;
          high = within;
          cells = back-zero y ∙ row;
          noted = rw (map-id rest, back-zero y) noted;
        }))

    -- WHERE NO PLACE INSIDE NAMED COLUMNS IS OPEN, all cells are read: every place may be chosen
    module _ (e : sort ≡ false) where
      abbrev all : Shows m W (length rows) small first last below N E H zs at ends weights true 0 w [] at y weight Plain
      all = shows true [] w [] (omega arith) (sees-every w)

      pub pair-weight : weight ≡ State.agreed
      pair-weight = all.whole refl ∙ sym (as_plain e).agreed

      pub pair-all : (u : ℕ) × Shown N E H PricedAt (length zs) State.opens at 0 u
      pair-all =
          let z = in-none all.after in
          let s = rw (z.0, z.1, ← (as_plain e).opens, ← (as_plain e).left) at all.shown in
          (all.weight, shown-map (λ j n h p. place-priced j n h (freely (no_flag e)) p.says p.fair) s)

    -- the named columns
    pub pair-columns : ShownIn N E H (Is W first last false Named.named Named.left) (Out false Named.named) (length zs) Named.opens fs at
        0 Named.agreed
    pair-columns =
        let s = shows false fs 0 fs (omega (arith, flags)) (sees_named fs) in
        let f : length (front 0 (back 0 y)) ≡ 0 = ap length (front-zero (back 0 y)) in
        let z : at + length (front 0 (back 0 y)) ≡ at = omega arith in
        let e = shown-none s.shown (omega arith) in
        let g : s.more ≡ Named.agreed = omega (arith, s.agreed, e.1) in
        rw (z, e.0, g) at s.after

    -- WHERE ONE IS OPEN, they alone are read: only the places inside them may be chosen
    pub pair_inside : sort ≡ true → ShownIn N E H PricedAt (λ (p : ℕ). ok p ≡ false) (length zs) State.opens fs at 0 State.agreed
    pair_inside e =
        let c = subst (λ (s : Scan). ShownIn N E H (Is W first last false s.named s.left) (Out false s.named) (length zs) s.opens fs at 0
        s.agreed)
        (sym (inside_is e)) pair-columns in
        let n : any_named State.named ≡ true = ap (λ (s : Scan). any_named s.named) (inside_is e) ∙ e in
        in_map (λ j s h p. place-priced j s h (inside p.looked) p.says p.fair) (λ j o. (let f : flag j State.named ≡ false = o in rw (f, n))) c
