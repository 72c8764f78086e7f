-- The walks along the notes at a pair's first row: what stands at a cell, and at a column.
use mathlib.Core.Path.{◌≡◌, refl, subst}
use mathlib.Core.Logic.{◌≢◌}
use mathlib.Core.Bool.{Bool, true, false}
use mathlib.Core.List.{List}
use Prim.Native.Nat.{ℕ, zero, suc, ◌+◌, ◌/◌, ◌%◌, ◌≤◌, ◌<◌}
use native.Mathlib.Omega.{arith}
use lib.Dec.{eqb}
use borrow.Author.Tests.{eqb-true, eqb-false}
use Rattle.state.specs.Flags.{flags_in}
use Rattle.paircosts.specs.declared.arrays.Note.{Note}
use Rattle.paircosts.specs.code.Reading.{Shown, at-end, at-closed, at_open, ShownIn, no_more, in-column, past-column}

-- what is at a cell of the walk
pub data Here (N : ℕ → Note) (E H : ℕ → ℕ) (Is : ℕ → Note → Type 0) (stop k q i w : ℕ) : Type 0 where
  ended : q ≡ stop → i ≡ k → w ≡ 0 → Here N E H Is stop k q i w
  one : {v : ℕ} → q < stop → (N q).runs ≡ 1 → w ≡ H q + v → Shown N E H Is stop k (suc q) i v → Here N E H Is stop k q i w
  many : q < stop → q < E q → 1 < (N q).runs → Is i (N q) → Shown N E H Is stop k (E q) (suc i) w → Here N E H Is stop k q i w

module _ {N : ℕ → Note} {E H : ℕ → ℕ} {Is : ℕ → Note → Type 0} where
  pub here : {stop k q i w : ℕ} → Shown N E H Is stop k q i w → Here N E H Is stop k q i w
  here at-end = ended refl refl refl
  here (at-closed l o s) = one l o refl s
  here (at_open l m o p s) = many l m o p s

  -- a walk goes up to its stop, and an open place has a cell
  pub shown-high : {stop k q i w : ℕ} → Shown N E H Is stop k q i w → q ≤ stop
  shown-high at-end = omega arith
  shown-high (at-closed l o s) = omega arith
  shown-high (at_open l m o p s) = omega arith

  pub shown-few : {stop k q i w : ℕ} → Shown N E H Is stop k q i w → i ≤ q → k ≤ stop
  shown-few at-end h = h
  shown-few (at-closed l o s) h = shown-few s (omega arith)
  shown-few (at_open l m o p s) h = shown-few s (omega arith)

  module _ {O : ℕ → Type 0} {stop k : ℕ} where
    pub in-high : {fs : List Bool} {q i w : ℕ} → ShownIn N E H Is O stop k fs q i w → q ≤ stop
    in-high no_more = omega arith
    in-high (in-column l s t) = omega (arith, in-high t)
    in-high (past-column l o t) = omega (arith, in-high t)

    pub in-over : {fs : List Bool} {q i w : ℕ} → ShownIn N E H Is O stop k fs q i w → stop ≤ q → (i ≡ k) × (w ≡ 0)
    in-over no_more h = (refl, refl)
    in-over (in-column l s t) h = absurd (omega (arith, in-high t))
    in-over (past-column l o t) h = absurd (omega (arith, in-high t))

-- a column of the walk that is named, and the columns after it; and one that is not
pub record Looked (N : ℕ → Note) (E H : ℕ → ℕ) (Is : ℕ → Note → Type 0) (O : ℕ → Type 0) (stop k rest q i w : ℕ) : Type 0 where
  pub next : ℕ
  pub here : ℕ
  pub more : ℕ
  pub both : w ≡ here + more
  pub shown : Shown N E H Is (E q) next q i here
  pub bits : ℕ
  pub after : ShownIn N E H Is O stop k (flags_in bits (rest / 2)) (E q) next more

pub record Passed (N : ℕ → Note) (E H : ℕ → ℕ) (Is : ℕ → Note → Type 0) (O : ℕ → Type 0) (stop k rest q i w : ℕ) : Type 0 where
  pub out : O i
  pub bits : ℕ
  pub after : ShownIn N E H Is O stop k (flags_in bits (rest / 2)) (E q) (suc i) w

-- its bit is the lowest
data AtColumn (N : ℕ → Note) (E H : ℕ → ℕ) (Is : ℕ → Note → Type 0) (O : ℕ → Type 0) (stop k rest q i w : ℕ) : Type 0 where
  looked : rest % 2 ≡ 1 → q < E q → E q ≤ stop → Looked N E H Is O stop k rest q i w → AtColumn N E H Is O stop k rest q i w
  passed : rest % 2 ≢ 1 → q < E q → E q ≤ stop → Passed N E H Is O stop k rest q i w → AtColumn N E H Is O stop k rest q i w

module _ {N : ℕ → Note} {E H : ℕ → ℕ} {Is : ℕ → Note → Type 0} {O : ℕ → Type 0} {stop k : ℕ} where
  at-column : {fs : List Bool} {q i w : ℕ} (bits rest : ℕ) → ShownIn N E H Is O stop k fs q i w → fs ≡ flags_in bits rest → q < stop
      → AtColumn N E H Is O stop k rest q i w
  unfolding flags_in
  at-column bits rest no_more e h = absurd (omega arith)
  at-column zero rest (in-column l s t) e h = let z : ◌≡◌ {A = ℕ} 0 1 = cc in absurd (omega arith)
  at-column zero rest (past-column l o t) e h = let z : ◌≡◌ {A = ℕ} 0 1 = cc in absurd (omega arith)
  at-column {q = q} (suc bits) rest (in-column {flags = fs} {next = n} {weight = u} {more = v} l s t) e h =
      let b : eqb (rest % 2) 1 ≡ true = cc in
      let f : fs ≡ flags_in bits (rest / 2) = cc in
      looked (eqb-true (rest % 2) 1 b) l (in-high t)
      (record {
        next = n;
        here = u;
        more = v;
        both = refl;
        shown = s;
        bits = bits;
        after =
            subst (λ (gs : List Bool). ShownIn N E H Is O stop k gs (E q) n v) f t;
      })
  at-column {q = q} {i} (suc bits) rest (past-column {flags = fs} {more = v} l o t) e h =
      let b : eqb (rest % 2) 1 ≡ false = cc in
      let f : fs ≡ flags_in bits (rest / 2) = cc in
      passed (eqb-false (rest % 2) 1 b) l (in-high t)
      (record { out = o; bits = bits; after = subst (λ (gs : List Bool). ShownIn N E H Is O stop k gs (E q) (suc i) v) f t })

  module _ {q i w : ℕ} (bits rest : ℕ) (x : ShownIn N E H Is O stop k (flags_in bits rest) q i w) (h : q < stop) where
    pub on-column : (q < E q) × (E q ≤ stop)
    on-column = go (at-column bits rest x refl h)
      where
        go : AtColumn N E H Is O stop k rest q i w → (q < E q) × (E q ≤ stop)
        go (looked o l m t) = (l, m)
        go (passed o l m t) = (l, m)

    pub look_in : rest % 2 ≡ 1 → Looked N E H Is O stop k rest q i w
    look_in o = go (at-column bits rest x refl h)
      where
        go : AtColumn N E H Is O stop k rest q i w → Looked N E H Is O stop k rest q i w
        go (looked o' l m t) = t
        go (passed o' l m t) = absurd (o' o)

    pub look-past : rest % 2 ≢ 1 → Passed N E H Is O stop k rest q i w
    look-past o = go (at-column bits rest x refl h)
      where
        go : AtColumn N E H Is O stop k rest q i w → Passed N E H Is O stop k rest q i w
        go (looked o' l m t) = absurd (o o')
        go (passed o' l m t) = t
