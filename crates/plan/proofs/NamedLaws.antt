-- Flags of open places: what closing places does to them, and the one law of plans that look into named columns first.
use mathlib.Core.Path.{◌≡◌, refl, sym, ap, ◌∙◌}
use mathlib.Core.Bool.{Bool, true, false, true≢false, not, ◌||◌}
use mathlib.Core.List.{List, [], ◌∷◌, ◌++◌}
use Prim.Native.Nat.{ℕ, zero, suc, ◌+◌, ◌≤◌, ◌<◌}
use native.Mathlib.Nat.{zero-add}
use native.Mathlib.Omega.{arith}
use lib.ListN.{length, replicate}
use Rattle.cell.specs.Cell.{arity}
use Rattle.plan.specs.Runs.{Run}
use Rattle.plan.specs.Plans.{Plan, leaf, node, Branches, end, next}
use Rattle.plan.specs.Named.{flag, spread, May, inside, freely, any_named, may, NamedFirst, NamedFirsts}

-- Flags: a place is closed, and one after it, in either order.

spread-past : (a x b : ℕ) (f : Bool) (fs : List Bool) → spread (a + x) b (replicate a f ++ fs) ≡ replicate a f ++ spread x b fs
spread-past zero x b f fs = rw zero-add
spread-past (suc a) x b f fs = let e : suc a + x ≡ suc (a + x) = omega arith in rw e (ap (λ (l : List Bool). f ∷ l) (spread-past a x b f fs))

pub spread-spread : (i x a b : ℕ) (fs : List Bool) → i ≤ x → spread (a + x) b (spread i a fs) ≡ spread i a (spread (suc x) b fs)
spread-spread i x a b [] h = refl
spread-spread zero x a b (f ∷ fs) h = spread-past a x b f fs
spread-spread (suc i) zero a b (f ∷ fs) h = absurd (omega arith)
spread-spread (suc i) (suc x) a b (f ∷ fs) h =
    let e : a + suc x ≡ suc (a + x) = omega arith in
    rw e (ap (λ (l : List Bool). f ∷ l) (spread-spread i x a b fs (omega arith)))

pub flag-past : (a x : ℕ) (f : Bool) (fs : List Bool) → flag (a + x) (replicate a f ++ fs) ≡ flag x fs
flag-past zero x f fs = rw zero-add
flag-past (suc a) x f fs = let e : suc a + x ≡ suc (a + x) = omega arith in rw e (flag-past a x f fs)

pub flag-after : (i x a : ℕ) (fs : List Bool) → i ≤ x → flag (a + x) (spread i a fs) ≡ flag (suc x) fs
flag-after i x a [] h = refl
flag-after zero x a (f ∷ fs) h = flag-past a x f fs
flag-after (suc i) zero a (f ∷ fs) h = absurd (omega arith)
flag-after (suc i) (suc x) a (f ∷ fs) h =
    let e : a + suc x ≡ suc (a + x) = omega arith in rw e (flag-after i x a fs (omega arith))

pub flag-before : (j x a : ℕ) (fs : List Bool) → j ≤ x → flag j (spread (suc x) a fs) ≡ flag j fs
flag-before j x a [] h = refl
flag-before zero x a (f ∷ fs) h = refl
flag-before (suc j) zero a (f ∷ fs) h = absurd (omega arith)
flag-before (suc j) (suc x) a (f ∷ fs) h = flag-before j x a fs (omega arith)

-- where no flag stands, none stands below
none-past : (a j : ℕ) (fs : List Bool) → ((j : ℕ) → flag j fs ≡ false) → flag j (replicate a false ++ fs) ≡ false
none-past zero j fs h = h j
none-past (suc a) zero fs h = refl
none-past (suc a) (suc j) fs h = none-past a j fs h

pub none-spread : (i a j : ℕ) (fs : List Bool) → ((j : ℕ) → flag j fs ≡ false) → flag j (spread i a fs) ≡ false
none-spread i a j [] h = h j
none-spread zero a j (f ∷ fs) h = let e : f ≡ false = h 0 in rw e (none-past a j fs (λ j. h (suc j)))
none-spread (suc i) a zero (f ∷ fs) h = h 0
none-spread (suc i) a (suc j) (f ∷ fs) h = none-spread i a j fs (λ j. h (suc j))

-- THE ONE LAW OF THE KIND: a place that may be chosen may still be chosen after another is closed
pub may-after : (i x a : ℕ) (fs : List Bool) → i ≤ x → May fs (suc x) → May (spread i a fs) (a + x)
may-after i x a fs h (inside e) = inside (flag-after i x a fs h ∙ e)
may-after i x a fs h (freely n) = freely (λ j. none-spread i a j fs n)

pub may-before : (j x a : ℕ) (fs : List Bool) → j ≤ x → May fs j → May (spread (suc x) a fs) j
may-before j x a fs h (inside e) = inside (flag-before j x a fs h ∙ e)
may-before j x a fs h (freely n) = freely (λ i. none-spread (suc x) a i fs n)

-- The test is the definition.

pub none_named : (fs : List Bool) → any_named fs ≡ false → (j : ℕ) → flag j fs ≡ false
none_named [] e j = refl
none_named (true ∷ fs) e j = absurd (true≢false e)
none_named (false ∷ fs) e zero = refl
none_named (false ∷ fs) e (suc j) = none_named fs e j

pub named_none : (fs : List Bool) → ((j : ℕ) → flag j fs ≡ false) → any_named fs ≡ false
named_none [] h = refl
named_none (true ∷ fs) h = absurd (true≢false (h 0))
named_none (false ∷ fs) h = named_none fs (λ j. h (suc j))

pub may-is : (fs : List Bool) (i : ℕ) → may fs i ≡ true → May fs i
may-is fs i e = go (flag i fs) (any_named fs) refl refl e
  where
    go : (b c : Bool) → flag i fs ≡ b → any_named fs ≡ c → b || not c ≡ true → May fs i
    go true c q r e = inside q
    go false true q r e = absurd (true≢false (sym e))
    go false false q r e = freely (none_named fs r)

pub is-may : (fs : List Bool) (i : ℕ) → May fs i → may fs i ≡ true
is-may fs i (inside e) = rw e
is-may fs i (freely h) = rw (named_none fs h, h i)

-- of k open places one may be chosen, where there is one: no flag stands past them
pub data Some (fs : List Bool) (k : ℕ) : Type 0 where
  some : (i : ℕ) → i < k → may fs i ≡ true → Some fs k

first-named : (fs : List Bool) → any_named fs ≡ true → (i : ℕ) × (i < length fs) × (flag i fs ≡ true)
first-named [] e = absurd (true≢false (sym e))
first-named (true ∷ fs) e = (0, omega arith, refl)
first-named (false ∷ fs) e = let i = first-named fs e in (suc i.0, omega (arith, i.1), i.2)

pub some-may : (fs : List Bool) (k : ℕ) → length fs ≤ suc k → Some fs (suc k)
some-may fs k h = go (any_named fs) refl
  where
    go : (b : Bool) → any_named fs ≡ b → Some fs (suc k)
    go true e = let i = first-named fs e in some i.0 (omega (arith, i.1)) (rw i.2)
    go false e = some 0 (omega arith) (rw (e, none_named fs e 0))

-- there are never more flags than open places
pub length-past : (a : ℕ) (f : Bool) (fs : List Bool) → length (replicate a f ++ fs) ≡ a + length fs
length-past zero f fs = omega arith
length-past (suc a) f fs = omega (arith, length-past a f fs)

pub spread-length : (i a k : ℕ) (fs : List Bool) → length fs ≤ suc k → i ≤ k → length (spread i a fs) ≤ a + k
spread-length i a k [] h l = omega arith
spread-length zero a k (f ∷ fs) h l = omega (arith, length-past a f fs)
spread-length (suc i) a zero (f ∷ fs) h l = absurd (omega arith)
spread-length (suc i) a (suc k) (f ∷ fs) h l = omega (arith, spread-length i a k fs (omega arith) (omega arith))

-- W-213, "with no column named, or all of them, it is the plain least plan": every plan is of the kind
mutual
  unfolding NamedFirst

  pub no-column : {k : ℕ} {rows : List (List ℕ)} (fs : List Bool) → ((j : ℕ) → flag j fs ≡ false) → (p : Plan k rows) → NamedFirst fs p
  no-column fs n leaf = tt
  no-column fs n (node i h bs) = (freely n, no-columns fs n i bs)

  no-columns : {k : ℕ} {gs : List Run} (fs : List Bool) → ((j : ℕ) → flag j fs ≡ false) → (i : ℕ) (bs : Branches k gs) → NamedFirsts fs i bs
  no-columns fs n i end = tt
  no-columns fs n i (next {g = g} p bs) = (no-column (spread i (arity g.cell) fs) (λ j. none-spread i (arity g.cell) j fs n) p, no-columns fs n i bs)

pub named : (a j : ℕ) → j < a → flag j (replicate a true) ≡ true
named zero j h = absurd (omega arith)
named (suc a) zero h = refl
named (suc a) (suc j) h = named a j (omega arith)

twice : (a b : ℕ) → replicate a true ++ replicate b true ≡ replicate (a + b) true
twice zero b = rw zero-add
twice (suc a) b = let e : suc a + b ≡ suc (a + b) = omega arith in rw e (ap (λ (l : List Bool). true ∷ l) (twice a b))

pub spread-all : (i k a : ℕ) → i ≤ k → spread i a (replicate (suc k) true) ≡ replicate (a + k) true
spread-all zero k a h = twice a k
spread-all (suc i) zero a h = absurd (omega arith)
spread-all (suc i) (suc k) a h = let e : a + suc k ≡ suc (a + k) = omega arith in rw e (ap (λ (l : List Bool). true ∷ l) (spread-all i k a (omega arith)))

mutual
  unfolding NamedFirst

  pub all-columns : {k : ℕ} {rows : List (List ℕ)} (p : Plan k rows) → NamedFirst (replicate k true) p
  all-columns leaf = tt
  all-columns (node {k} i h bs) = (inside (named (suc k) i (omega arith)), all-branches i h bs)

  all-branches : {k : ℕ} {gs : List Run} (i : ℕ) → i ≤ k → (bs : Branches k gs) → NamedFirsts (replicate (suc k) true) i bs
  all-branches i h end = tt
  all-branches i h (next {k} {g} p bs) = (rw (spread-all i k (arity g.cell) h) (all-columns p), all-branches i h bs)

-- of k open places none is inside a named column, or each is
pub data Free (fs : List Bool) (k : ℕ) : Type 0 where
  no_place : ((j : ℕ) → flag j fs ≡ false) → Free fs k
  each-place : fs ≡ replicate k true → Free fs k

pub free-may : (fs : List Bool) (k i : ℕ) → Free fs k → i < k → May fs i
free-may fs k i (no_place n) h = freely n
free-may fs k i (each-place e) h = rw e (inside (named k i h))

pub free-below : (fs : List Bool) (k i a : ℕ) → i ≤ k → Free fs (suc k) → Free (spread i a fs) (a + k)
free-below fs k i a h (no_place n) = no_place (λ j. none-spread i a j fs n)
free-below fs k i a h (each-place e) = each-place (rw e (spread-all i k a h))

pub free-kind : {k : ℕ} {rows : List (List ℕ)} (fs : List Bool) → Free fs k → (p : Plan k rows) → NamedFirst fs p
free-kind fs (no_place n) p = no-column fs n p
free-kind fs (each-place e) p = rw e (all-columns p)
