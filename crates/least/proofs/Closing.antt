-- Closing agreed places that may be chosen: the order does not matter, neither for the state that is reached nor for what the closed cells weigh.
use mathlib.Core.Path.{◌≡◌, refl, sym, ap, ◌∙◌}
use mathlib.Core.Bool.{Bool}
use mathlib.Core.List.{List, [], ◌∷◌, map}
use Prim.Native.Nat.{ℕ, suc, pred, ◌+◌, ◌≤◌, ◌<◌}
use native.Mathlib.Omega.{arith}
use native.Mathlib.Nat.{zero-add, add_assoc}
use lib.ListN.{length, length-map}
use lib.Seq.{slice}
use Rattle.cell.specs.Cell.{arity}
use Rattle.term.specs.Terms.{root, close}
use Rattle.term.proofs.PlaceLaws.{close-close, root-after, root_before}
use Rattle.table.specs.All.{All}
use Rattle.plan.specs.Plans.{Measure}
use Rattle.plan.specs.Named.{spread, May}
use Rattle.plan.proofs.NamedLaws.{spread-spread, may-after, may-before}
use Rattle.least.specs.Least.{Agree, Stuck}
use Rattle.least.specs.Entries.{Closes, stop, step}
use Rattle.table.proofs.AllLaws.{all_map, all_both, map-map-same}
use Rattle.least.proofs.Parts.{slice-map, agree-slice}
use Rattle.least.proofs.Best.{Bare}
use Rattle.least.proofs.Exchange.{Tri, before, equal, after, tri, agreed-least}

-- a row that is agreed at i and at j
abbrev Both : (i c j d : ℕ) → List ℕ → Type 0
Both i c j d r = (root i r ≡ c) × (root j r ≡ d)

agree-map : (P : List ℕ → Type 0) (i c j : ℕ) (f : List ℕ → List ℕ) (rows : List (List ℕ)) → ((r : List ℕ) → P r → root j (f r) ≡ c)
    → All P rows → Agree i c rows → Agree j c (map f rows)
agree-map P i c j f rows h b a = record {
  cells = all_map P (λ (r : List ℕ). root j r ≡ c) f h rows b;
  fixed = rw (length-map rows f) a.fixed;
  some = rw (length-map rows f) a.some;
}

agree-cell : (i c d : ℕ) (rows : List (List ℕ)) → Agree i c rows → Agree i d rows → c ≡ d
agree-cell i c d [] a b = absurd (omega (arith, a.some))
agree-cell i c d (r ∷ rs) a b = sym a.cells.0 ∙ b.cells.0

pub closes-length : {fs fs' : List Bool} {k k' : ℕ} {rows rows' : List (List ℕ)} → Closes fs k rows fs' k' rows' → length rows' ≡ length rows
closes-length stop = refl
closes-length (step {rows = rows} i c h a y x) = closes-length x ∙ length-map rows (close i)

-- what the closed cells weigh together
unfoldable pub weighs : (m : Measure) {fs fs' : List Bool} {k k' : ℕ} {rows rows' : List (List ℕ)} → Closes fs k rows fs' k' rows' → ℕ
weighs m stop = 0
weighs m (step i c h a y x) = m.weight c + weighs m x

-- agreed places are closed, and their cells weigh n
pub record Closing (m : Measure) (n : ℕ) (fs : List Bool) (k : ℕ) (rows : List (List ℕ)) (fs' : List Bool) (k' : ℕ) (rows' : List (List ℕ)) : Type 0 where
  pub closes : Closes fs k rows fs' k' rows'
  pub weight : weighs m closes ≡ n

module _ {m : Measure} where
  pub weighed : {fs fs' : List Bool} {k k' : ℕ} {rows rows' : List (List ℕ)} (x : Closes fs k rows fs' k' rows') → Closing m (weighs m x) fs k rows fs' k' rows'
  weighed x = record { closes = x; weight = refl }

  pub none-closed : {fs : List Bool} {k : ℕ} {rows : List (List ℕ)} → Closing m 0 fs k rows fs k rows
  unfolding weighs
  none-closed = record { closes = stop; weight = refl }

  pub one-closed : {n : ℕ} {fs fs' : List Bool} {k k' : ℕ} {rows rows' : List (List ℕ)} (i c : ℕ) → i ≤ k → Agree i c rows → May fs i
      → Closing m n (spread i (arity c) fs) (arity c + k) (map (close i) rows) fs' k' rows' → Closing m (m.weight c + n) fs (suc k) rows fs' k' rows'
  unfolding weighs
  one-closed i c h a y x = record { closes = step i c h a y x.closes; weight = ap (λ (w : ℕ). m.weight c + w) x.weight }

  -- the least cost is what the closed cells weigh, and the least cost of the state that is reached
  least-before : {fs fs' : List Bool} {k k' : ℕ} {rows rows' : List (List ℕ)} (x : ℕ) (s : Closes fs k rows fs' k' rows') → Bare m fs' k' rows' x
      → Bare m fs k rows (weighs m s + x)
  unfolding weighs
  least-before x stop l = rw zero-add l
  least-before x (step {named = fs} {others = k} {rows = rows} i c h a y s) l =
      rw add_assoc (agreed-least m fs k i c (weighs m s + x) rows h a y (least-before x s l))

  pub closes-least : {n : ℕ} {fs fs' : List Bool} {k k' : ℕ} {rows rows' : List (List ℕ)} (x : ℕ) → Closing m n fs k rows fs' k' rows' → Bare m fs' k' rows' x
      → Bare m fs k rows (n + x)
  closes-least x s l = rw s.weight at (least-before x s.closes l)

  -- one closing after another
  then-closed : {n : ℕ} {fs fs' fs'' : List Bool} {k k' k'' : ℕ} {rows rows' rows'' : List (List ℕ)} (x : Closes fs k rows fs' k' rows')
      → Closing m n fs' k' rows' fs'' k'' rows''
      → Closing m (weighs m x + n) fs k rows fs'' k'' rows''
  unfolding weighs
  then-closed stop y = rw zero-add y
  then-closed (step i c h a w x) y = rw add_assoc (one-closed i c h a w (then-closed x y))

  pub closes-then : {n n' : ℕ} {fs fs' fs'' : List Bool} {k k' k'' : ℕ} {rows rows' rows'' : List (List ℕ)} → Closing m n fs k rows fs' k' rows'
      → Closing m n' fs' k' rows' fs'' k'' rows'' → Closing m (n + n') fs k rows fs'' k'' rows''
  closes-then x y = rw x.weight at (then-closed x.closes y)

  -- what is closed in the whole is closed in a part of it
  part-closed : {fs fs' : List Bool} {k k' : ℕ} {rows rows' : List (List ℕ)} (o t : ℕ) → o < t → t ≤ length rows → (x : Closes fs k rows fs' k' rows')
      → Closing m (weighs m x) fs k (slice o t rows) fs' k' (slice o t rows')
  unfolding weighs
  part-closed o t h b stop = none-closed
  part-closed o t h b (step {rows = rows} i c hi a y x) =
      one-closed i c hi (agree-slice i c o t rows h b a) y (rw slice-map at (part-closed o t h (rw (length-map rows (close i)) b) x))

  pub closes-part : {n : ℕ} {fs fs' : List Bool} {k k' : ℕ} {rows rows' : List (List ℕ)} (o t : ℕ) → o < t → t ≤ length rows
      → Closing m n fs k rows fs' k' rows'
      → Closing m n fs k (slice o t rows) fs' k' (slice o t rows')
  closes-part o t h b x = rw x.weight at (part-closed o t h b x.closes)

  -- an agreed place that may be chosen may be closed first, on the way to a state where none is left
  closes-first : {fs fs' : List Bool} {K k' : ℕ} {rows rows' : List (List ℕ)} (x : Closes fs K rows fs' k' rows') → Stuck fs' k' rows'
      → (k j d : ℕ) → K ≡ suc k → j ≤ k → Agree j d rows → May fs j
      → (n : ℕ) × (weighs m x ≡ m.weight d + n) × Closing m n (spread j (arity d) fs) (arity d + k) (map (close j) rows) fs' k' rows'
  unfolding weighs
  closes-first stop s k j d e h a y = absurd (s j d (omega arith) a y)
  closes-first {fs} {fs'} {k' = k'} {rows' = rows'} (step {others = k₁} {rows = rows} i c hi ai yi t) s k j d e h a y =
      go (tri i j) (λ k j d e h a y. closes-first t s k j d e h a y)
    where
      Answer : Type 0
      Answer = (n : ℕ) × (m.weight c + weighs m t ≡ m.weight d + n) × Closing m n (spread j (arity d) fs) (arity d + k) (map (close j) rows) fs' k' rows'

      both : All (Both i c j d) rows
      both = all_both (λ (r : List ℕ). root i r ≡ c) (λ (r : List ℕ). root j r ≡ d) rows ai.cells a.cells

      same : {n : ℕ} → i ≡ j → c ≡ d → k₁ ≡ k → Closing m n (spread i (arity c) fs) (arity c + k₁) (map (close i) rows) fs' k' rows'
          → Closing m n (spread j (arity d) fs) (arity d + k) (map (close j) rows) fs' k' rows'
      same ei ec ek x = rw (ei, ec, ek) at x

      rejoin : (k₀ i' j' : ℕ) → k ≡ suc k₀ → i' ≤ arity d + k₀ → Agree i' c (map (close j) rows) → May (spread j (arity d) fs) i'
          → map (close j') (map (close i) rows) ≡ map (close i') (map (close j) rows)
          → spread j' (arity d) (spread i (arity c) fs) ≡ spread i' (arity c) (spread j (arity d) fs)
          → (n : ℕ) × (weighs m t ≡ m.weight d + n)
          × Closing m n (spread j' (arity d) (spread i (arity c) fs)) (arity d + (arity c + k₀)) (map (close j') (map (close i) rows)) fs' k' rows' → Answer
      rejoin k₀ i' j' ek hi' ai' yi' em ef x =
          let e₁ : arity d + k ≡ suc (arity d + k₀) = omega arith in
          let e₂ : arity d + (arity c + k₀) ≡ arity c + (arity d + k₀) = omega arith in
          let z : Closing m x.0 (spread i' (arity c) (spread j (arity d) fs)) (arity c + (arity d + k₀)) (map (close i') (map (close j) rows)) fs'
          k' rows' = rw (em, ef, e₂) at x.2 in
          (m.weight c + x.0, omega arith, rw e₁ (one-closed i' c hi' ai' yi' z))

      go : Tri i j → ((k j d : ℕ) → arity c + k₁ ≡ suc k → j ≤ k → Agree j d (map (close i) rows) → May (spread i (arity c) fs) j
          → (n : ℕ) × (weighs m t ≡ m.weight d + n)
          × Closing m n (spread j (arity d) (spread i (arity c) fs)) (arity d + k) (map (close j) (map (close i) rows)) fs' k' rows')
          → Answer
      go (equal q) ih =
          let ec : c ≡ d = agree-cell j c d rows (rw q at ai) a in
          let ek : k₁ ≡ k = omega arith in
          (weighs m t, ap (λ (x : ℕ). m.weight x + weighs m t) ec, same q ec ek (weighed t))
      go (before x q l) ih =
          let y' : May fs (suc x) = rw q at y in
          rejoin (pred k) i (arity c + x) (omega arith) (omega arith)
          (agree-map (Both i c j d) i c i (close j) rows (λ (r : List ℕ) (b : Both i c j d r). cc (root_before i x r l)) both ai)
          (rw q (may-before i x (arity d) fs l yi))
          (map-map-same (Both i c j d) (close (arity c + x)) (close i) (close i) (close j)
          (λ (r : List ℕ) (b : Both i c j d r). cc (close-close i x r l)) rows both)
          (rw q (spread-spread i x (arity c) (arity d) fs l))
          (ih (arity c + pred k) (arity c + x) d (omega arith) (omega arith)
          (agree-map (Both i c j d) j d (arity c + x) (close i) rows (λ (r : List ℕ) (b : Both i c j d r). cc (root-after i x r l)) both a)
          (may-after i x (arity c) fs l y'))
      go (after x q l) ih =
          let yi' : May fs (suc x) = rw q at yi in
          rejoin (pred k) (arity d + x) j (omega arith) (omega arith)
          (agree-map (Both i c j d) i c (arity d + x) (close j) rows (λ (r : List ℕ) (b : Both i c j d r). cc (root-after j x r l)) both ai)
          (may-after j x (arity d) fs l yi')
          (map-map-same (Both i c j d) (close j) (close i) (close (arity d + x)) (close j)
          (λ (r : List ℕ) (b : Both i c j d r). cc (close-close j x r l)) rows both)
          (rw q (sym (spread-spread j x (arity d) (arity c) fs l)))
          (ih (arity c + pred k) j d (omega arith) (omega arith)
          (agree-map (Both i c j d) j d j (close i) rows (λ (r : List ℕ) (b : Both i c j d r). cc (root_before j x r l)) both a)
          (rw q (may-before j x (arity c) fs l y)))

  -- any other closing meets the one that goes as far as it can
  pub confluent : {fs fs' fs'' : List Bool} {k k' k'' : ℕ} {rows rows' rows'' : List (List ℕ)} (x : Closes fs k rows fs' k' rows') → Stuck fs' k' rows'
      → (y : Closes fs k rows fs'' k'' rows'') → (n : ℕ) × (weighs m x ≡ weighs m y + n) × Closing m n fs'' k'' rows'' fs' k' rows'
  unfolding weighs
  confluent x s stop = (weighs m x, omega arith, weighed x)
  confluent x s (step {others = k} i c h a v y) =
      let z = closes-first x s k i c refl h a v in
      let w = confluent z.2.closes s y in
      (w.0, omega (arith, z.2.weight), w.2)

stuck-stop : (m : Measure) {fs fs' : List Bool} {K k' : ℕ} {rows rows' : List (List ℕ)} (x : Closes fs K rows fs' k' rows') → Stuck fs K rows
    → (weighs m x ≡ 0) × (k' ≡ K) × (rows' ≡ rows) × (fs' ≡ fs)
unfolding weighs
stuck-stop m stop s = (refl, refl, refl, refl)
stuck-stop m (step i c h a y x) s = absurd (s i c (omega arith) a y)

-- THE ORDER DOES NOT MATTER: two closings after which no place that may be chosen is agreed reach the same state, and their cells weigh the
-- same. So a pair of first and last row fixes a state
pub order-does-not-matter : (m : Measure) {fs fs' fs'' : List Bool} {k k' k'' : ℕ} {rows rows' rows'' : List (List ℕ)}
    (x : Closes fs k rows fs' k' rows') → Stuck fs' k' rows'
    → (y : Closes fs k rows fs'' k'' rows'') → Stuck fs'' k'' rows'' → (weighs m x ≡ weighs m y) × (k' ≡ k'') × (rows' ≡ rows'') × (fs' ≡ fs'')
order-does-not-matter m x s y t =
    let z = confluent {m = m} x s y in
    let w = stuck-stop m z.2.closes t in
    (omega (arith, z.2.weight), w.1, w.2, w.3)
