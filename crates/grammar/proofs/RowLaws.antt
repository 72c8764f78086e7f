-- The cells of a row, symbol by symbol; and the variables of a row, told apart.
use Prim.Native.Nat.{ℕ, suc, ◌<◌}
use mathlib.Core.Path.{◌≡◌, refl, sym, ap, ap₂, subst, ◌∙◌}
use mathlib.Core.Bool.{Bool, true, false}
use mathlib.Core.List.{List, [], ◌∷◌, ◌++◌, map, flatten}
use mathlib.Core.Logic.{◌⊎◌, ◌↔◌, inl, inr}
use native.Mathlib.Omega.{arith}
use lib.ListN.{length, length-append}
use lib.Seq.{slice}
use Rattle.cell.specs.Cell.{name_cell, number_cell}
use Rattle.grammar.specs.Grammar.{Symbol, name, variable, number, Fact}
use Rattle.cell.specs.Same.{same}
use Rattle.grammar.specs.Meaning.{Place, place, bytes_at, symbols_of, variable_number, cells_from}
use Rattle.grammar.specs.Numbering.{Words, Nth, here, later, New, First, words_at, Unnamed, NumberedRow, Rows}
use Rattle.grammar.specs.Numbering as numbering
use Rattle.cell.proofs.SameLaws.{same_refl, same-eq, same-differ, same-no}
use Rattle.grammar.proofs.NumberLaws.{position-bound, fresh-number, named-number, with-new, with-old}
use Rattle.grammar.proofs.NthLaws.{nth-below, nth-one, nth_left, nth_right, nth_seam, nth-added, find}
use Rattle.grammar.proofs.NthLaws.{Parted, parted-none, parted-added, words_long, words-added, first_one, position-new, position-one}
use Rattle.grammar.proofs.NthLaws.{position_at}

-- not `_`
abbrev pub Named : List ℕ → Type 0
Named w = Unnamed w → ⊥

-- names that stand in the list
abbrev pub Listed : List ℕ → List Place → List Symbol → Type 0
Listed t ns ss = (i s e a : ℕ) → Nth ss i (name s e a) → (k : ℕ) × First (words_at t ns) k (slice s e t)

-- one variable more is told apart, `_` or a new one
unnamed-parted : {met : Words} {w : List ℕ} → Unnamed w → Parted Named met → Parted Named (met ++ (w ∷ []))
unnamed-parted {met} {w} u p = parted-added Named met w p (λ n. absurd (n u))

first-parted : {met : Words} {w : List ℕ} → New met w → Parted Named met → Parted Named (met ++ (w ∷ []))
first-parted {met} {w} n p = parted-added Named met w p (λ q. n)

module _ (t : List ℕ) (vs : List Place) (w : Place) where
  unnamed-number : Unnamed (bytes_at t w) → variable_number t vs w ≡ length vs
  unnamed-number u = fresh-number t vs w (ap (λ (x : List ℕ). same x (95 ∷ [])) u ∙ same_refl (95 ∷ []))

  again-number : {k : ℕ} → Named (bytes_at t w) → Parted Named (words_at t vs)
      → Nth (words_at t vs) k (bytes_at t w) → variable_number t vs w ≡ k
  again-number n p h = named-number t vs w (same-no (bytes_at t w) (95 ∷ []) n) ∙ position-one t vs p n h

  first-number : New (words_at t vs) (bytes_at t w) → variable_number t vs w ≡ length vs
  first-number n = go (same (bytes_at t w) (95 ∷ [])) refl
    where
      go : (b : Bool) → same (bytes_at t w) (95 ∷ []) ≡ b → variable_number t vs w ≡ length vs
      go true e = fresh-number t vs w e
      go false e =
          let p = position-new t (bytes_at t w) vs n in
          let q = position-bound t (bytes_at t w) vs in
          named-number t vs w e ∙ omega arith

-- THE CELLS. A variable that is numbered as the next; and one that is met again
variable-next : (t : List ℕ) (ns vs : List Place) (s e : ℕ) {c : ℕ} (ss : List Symbol) {cs : List ℕ}
    → variable_number t vs (place s e) ≡ length vs → c ≡ length vs → cells_from t ns (vs ++ (place s e ∷ [])) ss ≡ cs
    → cells_from t ns vs (variable s e ∷ ss) ≡ c ∷ cs
unfolding cells_from
variable-next t ns vs s e ss n c r =
    ap₂ ◌∷◌ (n ∙ sym c) (ap (λ (us : List Place). cells_from t ns us ss) (with-new t vs (place s e) (omega (arith, n))) ∙ r)

variable-again : (t : List ℕ) (ns vs : List Place) (s e : ℕ) {c : ℕ} (ss : List Symbol) {cs : List ℕ}
    → variable_number t vs (place s e) ≡ c → c < length vs → cells_from t ns vs ss ≡ cs → cells_from t ns vs (variable s e ∷ ss) ≡ c ∷ cs
unfolding cells_from
variable-again t ns vs s e ss n c r =
    ap₂ ◌∷◌ n (ap (λ (us : List Place). cells_from t ns us ss) (with-old t vs (place s e) (omega (arith, n))) ∙ r)

module _ (t : List ℕ) (ns : List Place) where
  -- the words of some variables and of one more
  met-more : {met : Words} (s e : ℕ) (vs : List Place) → met ≡ words_at t vs → met ++ (slice s e t ∷ []) ≡ words_at t (vs ++ (place s e ∷ []))
  met-more s e vs q = ap (λ (m : Words). m ++ (slice s e t ∷ [])) q ∙ sym (words-added t vs (place s e))

  met-long : {met : Words} (vs : List Place) → met ≡ words_at t vs → length met ≡ length vs
  met-long vs q = ap length q ∙ words_long t vs

  row-cells : {met : Words} {ss : List Symbol} {cs : List ℕ} (vs : List Place) → met ≡ words_at t vs → Parted Named met
      → NumberedRow t (words_at t ns) met ss cs → cells_from t ns vs ss ≡ cs
  unfolding cells_from
  row-cells vs q p numbering.none = refl
  row-cells vs q p (numbering.a-name {a = n} h c r) = ap₂ ◌∷◌ (ap (name_cell n) (position_at t ns h) ∙ sym c) (row-cells vs q p r)
  row-cells vs q p (numbering.a-number c r) = ap₂ ◌∷◌ (sym c) (row-cells vs q p r)
  row-cells vs q p (numbering.unnamed {s = s} {e = e} {ss = ss} u c r) =
      variable-next t ns vs s e ss (unnamed-number t vs (place s e) u) (c ∙ met-long vs q)
      (row-cells (vs ++ (place s e ∷ [])) (met-more s e vs q) (unnamed-parted u p) r)
  row-cells vs q p (numbering.first {s = s} {e = e} {ss = ss} n c r) =
      variable-next t ns vs s e ss (first-number t vs (place s e) (subst (λ (m : Words). New m (slice s e t)) q n)) (c ∙ met-long vs q)
      (row-cells (vs ++ (place s e ∷ [])) (met-more s e vs q) (first-parted n p) r)
  row-cells vs q p (numbering.again {k = k} {s = s} {e = e} {ss = ss} n h c r) =
      let g = subst (λ (m : Words). Nth m k (slice s e t)) q h in
      let b = nth-below g in
      let l = words_long t vs in
      variable-again t ns vs s e ss (again-number t vs (place s e) n (subst (Parted Named) q p) g ∙ sym c) (omega arith)
      (row-cells vs q p r)

  row-holds : (met : Words) (ss : List Symbol) → Listed t ns ss → (cs : List ℕ) × NumberedRow t (words_at t ns) met ss cs
  row-holds met [] l = ([], numbering.none)
  row-holds met (name s e a ∷ ss) l =
      let h = l 0 s e a here in
      let r = row-holds met ss (λ i s e a g. l (suc i) s e a (later g)) in
      (name_cell a h.0 ∷ r.0, numbering.a-name h.1 refl r.1)
  row-holds met (number v ∷ ss) l =
      let r = row-holds met ss (λ i s e a g. l (suc i) s e a (later g)) in
      (number_cell v ∷ r.0, numbering.a-number refl r.1)
  row-holds met (variable s e ∷ ss) l =
      go (same w (95 ∷ [])) refl (find met w) (row-holds met ss rest) (row-holds (met ++ (w ∷ [])) ss rest)
    where
      w : List ℕ
      w = slice s e t

      rest : Listed t ns ss
      rest i s e a g = l (suc i) s e a (later g)

      go : (b : Bool) → same w (95 ∷ []) ≡ b → ((k : ℕ) × Nth met k w) ⊎ New met w → (cs : List ℕ) × NumberedRow t (words_at t ns) met ss cs
          → (cs : List ℕ) × NumberedRow t (words_at t ns) (met ++ (w ∷ [])) ss cs → (cs : List ℕ) × NumberedRow t (words_at t ns) met (variable s e ∷ ss) cs
      go true u h r f = (length met ∷ f.0, numbering.unnamed (same-eq w (95 ∷ []) u) refl f.1)
      go false u (inl h) r f = (h.0 ∷ r.0, numbering.again (same-differ w (95 ∷ []) u) h.1 refl r.1)
      go false u (inr n) r f = (length met ∷ f.0, numbering.first n refl f.1)

-- all the rows
module _ (t : List ℕ) (ns : List Place) where
  pub rows-cells : {fs : List Fact} {cs : List ℕ} → Rows t ns fs cs → flatten (map (λ (f : Fact). cells_from t ns [] f.symbols) fs) ≡ cs
  unfolding flatten
  rows-cells numbering.none = refl
  rows-cells (numbering.more r rs e) = ap₂ ◌++◌ (row-cells t ns [] refl (parted-none Named) r) (rows-cells rs) ∙ sym e

  pub rows-hold : (fs : List Fact) → Listed t ns (symbols_of fs) → (cs : List ℕ) × Rows t ns fs cs
  unfolding flatten
  rows-hold [] l = ([], numbering.none)
  rows-hold (f ∷ fs) l =
      let r = row-holds t ns [] f.symbols (λ i s e a h. l i s e a (nth_left (symbols_of fs) h)) in
      let rs = rows-hold fs (λ i s e a h. (let g = nth_right f.symbols h in l g.0 s e a g.1)) in
      (r.0 ++ rs.0, numbering.more r.1 rs.1 refl)

-- THE CELLS ARE ONE
module _ (t : List ℕ) (ws : Words) where
  pub row_one : {met : Words} {ss : List Symbol} {cs ds : List ℕ} → Parted Named met → NumberedRow t ws met ss cs → NumberedRow t ws met ss ds → cs ≡ ds
  row_one p numbering.none numbering.none = refl
  row_one p (numbering.a-name {a = a} h c r) (numbering.a-name g d q) =
      ap₂ ◌∷◌ (c ∙ ap (name_cell a) (first_one h g) ∙ sym d) (row_one p r q)
  row_one p (numbering.a-number c r) (numbering.a-number d q) = ap₂ ◌∷◌ (c ∙ sym d) (row_one p r q)
  row_one p (numbering.unnamed u c r) (numbering.unnamed v d q) = ap₂ ◌∷◌ (c ∙ sym d) (row_one (unnamed-parted u p) r q)
  row_one p (numbering.unnamed u c r) (numbering.first m d q) = ap₂ ◌∷◌ (c ∙ sym d) (row_one (unnamed-parted u p) r q)
  row_one p (numbering.unnamed u c r) (numbering.again m g d q) = absurd (m u)
  row_one p (numbering.first n c r) (numbering.unnamed v d q) = ap₂ ◌∷◌ (c ∙ sym d) (row_one (first-parted n p) r q)
  row_one p (numbering.first n c r) (numbering.first m d q) = ap₂ ◌∷◌ (c ∙ sym d) (row_one (first-parted n p) r q)
  row_one p (numbering.first n c r) (numbering.again {k = k} m g d q) = absurd (n k g)
  row_one p (numbering.again n h c r) (numbering.unnamed v d q) = absurd (n v)
  row_one p (numbering.again {k = k} n h c r) (numbering.first m d q) = absurd (m k h)
  row_one p (numbering.again {k = j} {s = s} {e = e} n h c r) (numbering.again {k = k} m g d q) =
      ap₂ ◌∷◌ (c ∙ p.one j k (slice s e t) n h g ∙ sym d) (row_one p r q)

-- THE VARIABLES OF A ROW
before-added : (met : Words) (v : List ℕ) {w : List ℕ} {k : ℕ} → k < length met → Nth (met ++ (v ∷ [])) k w → Nth met k w
before-added met v {w} {k} l h = go (nth-added met h)
  where
    go : Nth met k w ⊎ ((k ≡ length met) × (w ≡ v)) → Nth met k w
    go (inl g) = g
    go (inr e) = absurd (omega (arith, e.0))

-- a later variable has the number of an earlier one exactly when it is that one
abbrev Is : Words → ℕ → List ℕ → ℕ → Type 0
Is met k w c = (c ≡ k) ↔ (Nth met k w × Named w)

is-new : {met : Words} {k c : ℕ} {w : List ℕ} → k < length met → c ≡ length met → (Nth met k w → Named w → ⊥) → Is met k w c
is-new l c n = ((λ e. absurd (omega arith)), λ h. absurd (n h.0 h.1))

is-more : (met : Words) (v : List ℕ) {w : List ℕ} {k c : ℕ} → k < length met → Is (met ++ (v ∷ [])) k w c → Is met k w c
is-more met v l i = (λ e. (before-added met v l (i.0 e).0, (i.0 e).1), λ h. i.1 (nth_left (v ∷ []) h.0, h.1))

more-below : (met : Words) (v : List ℕ) {k : ℕ} → k < length met → k < length (met ++ (v ∷ []))
more-below met v l = omega (arith, length-append met (v ∷ []))

module _ (t : List ℕ) (ws : Words) where
  later-variable : {met : Words} {ss : List Symbol} {cs : List ℕ} {j k s e c : ℕ} → NumberedRow t ws met ss cs → Parted Named met → k < length met
      → Nth ss j (variable s e) → Nth cs j c → Is met k (slice s e t) c
  later-variable (numbering.unnamed u c r) p l here here = is-new l c (λ h n. n u)
  later-variable {k = k} (numbering.first n c r) p l here here = is-new l c (λ h q. n k h)
  later-variable {met} {k = k} {s = s} {e = e} (numbering.again {k = i} n h c r) p l here here =
      (λ q. (subst (λ (m : ℕ). Nth met m (slice s e t)) (sym c ∙ q) h, n), λ g. c ∙ p.one i k (slice s e t) n h g.0)
  later-variable (numbering.a-name h c r) p l (later x) (later y) = later-variable r p l x y
  later-variable (numbering.a-number c r) p l (later x) (later y) = later-variable r p l x y
  later-variable {met} (numbering.unnamed {s = s} {e = e} u c r) p l (later x) (later y) =
      is-more met (slice s e t) l (later-variable r (unnamed-parted u p) (more-below met (slice s e t) l) x y)
  later-variable {met} (numbering.first {s = s} {e = e} n c r) p l (later x) (later y) =
      is-more met (slice s e t) l (later-variable r (first-parted n p) (more-below met (slice s e t) l) x y)
  later-variable (numbering.again n h c r) p l (later x) (later y) = later-variable r p l x y
  later-variable {j = j} {k = k} {s = s} {e = e} {c = c} (Rattle.grammar.specs.Numbering.none {met = met}) p l x17 _ = elim x17 [ ]

-- the row after its first symbol, and the variables with it
record After (t : List ℕ) (ws : Words) (ss : List Symbol) (cs : List ℕ) : Type 0 where
  met : Words
  apart : Parted Named met
  row : NumberedRow t ws met ss cs

module _ (t : List ℕ) (ws : Words) where
  after_one : {met : Words} {x : Symbol} {ss : List Symbol} {c : ℕ} {cs : List ℕ} → Parted Named met → NumberedRow t ws met (x ∷ ss) (c ∷ cs)
      → After t ws ss cs
  after_one {met} p (numbering.a-name h c r) = record { met = met; apart = p; row = r }
  after_one {met} p (numbering.a-number c r) = record { met = met; apart = p; row = r }
  after_one {met} p (numbering.unnamed {s = s} {e = e} u c r) =
      record { met = met ++ (slice s e t ∷ []); apart = unnamed-parted u p; row = r }
  after_one {met} p (numbering.first {s = s} {e = e} n c r) =
      record { met = met ++ (slice s e t ∷ []); apart = first-parted n p; row = r }
  after_one {met} p (numbering.again n h c r) = record { met = met; apart = p; row = r }

  -- a variable stands at its number from then on
  after-variable : {met : Words} {s e : ℕ} {ss : List Symbol} {c : ℕ} {cs : List ℕ}
      (p : Parted Named met) (r : NumberedRow t ws met (variable s e ∷ ss) (c ∷ cs))
      → Nth (after_one p r).met c (slice s e t)
  unfolding after_one
  after-variable {met} {s} {e} p (numbering.unnamed u c r) =
      subst (λ (k : ℕ). Nth (met ++ (slice s e t ∷ [])) k (slice s e t)) (sym c) (nth_seam met (slice s e t) [])
  after-variable {met} {s} {e} p (numbering.first n c r) =
      subst (λ (k : ℕ). Nth (met ++ (slice s e t ∷ [])) k (slice s e t)) (sym c) (nth_seam met (slice s e t) [])
  after-variable {met} {s} {e} p (numbering.again n h c r) = subst (λ (k : ℕ). Nth met k (slice s e t)) (sym c) h

  -- the row comes after the places, so that a case of a place can tell its first symbol
  variables-at : {ss : List Symbol} {cs : List ℕ} {i j s e s' e' c c' : ℕ} → Nth ss i (variable s e) → Nth cs i c
      → Nth ss j (variable s' e') → Nth cs j c' → i < j → {met : Words} → Parted Named met → NumberedRow t ws met ss cs
      → (c ≡ c') ↔ ((slice s e t ≡ slice s' e' t) × Named (slice s e t))
  variables-at here here here here l p r = absurd (omega arith)
  variables-at {s = s} {e = e} {s' = s'} {e' = e'} {c = c} {c' = c'} here here (later x) (later y) l p r =
      let a = after_one p r in
      let h = after-variable p r in
      let i = later-variable t ws a.row a.apart (nth-below h) x y in
      let w = slice s e t in
      let w' = slice s' e' t in (
        λ q. (let g = i.0 (sym q) in let b = nth-one h g.0 in (b, subst Named (sym b) g.1)),
        λ g. sym (i.1 (subst (Nth a.met c) g.0 h, subst Named g.0 g.1)),
      )
  variables-at (later x) (later y) here here l p r = absurd (omega arith)
  variables-at (later x) (later y) (later x') (later y') l p r =
      let a = after_one p r in
      variables-at x y x' y' (omega arith) a.apart a.row

  pub two-variables : {met : Words} {ss : List Symbol} {cs : List ℕ} {i j s e s' e' c c' : ℕ} → Parted Named met
      → NumberedRow t ws met ss cs → i < j → Nth ss i (variable s e) → Nth cs i c → Nth ss j (variable s' e') → Nth cs j c'
      → (c ≡ c') ↔ ((slice s e t ≡ slice s' e' t) × Named (slice s e t))
  two-variables p r l x y x' y' = variables-at x y x' y' l p r
