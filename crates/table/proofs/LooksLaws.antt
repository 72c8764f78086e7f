-- The reading of a row's or a goal's terms, in the form in which the code steps: one cell, the rest of the cells, and where they are used up.
use mathlib.Core.Path.{◌≡◌, refl, ap, ◌∙◌, sym}
use mathlib.Core.Logic.{◌≢◌, by_cases}
use mathlib.Core.Bool.{Bool, true, false, cond, ◌&&◌, and-false}
use mathlib.Core.List.{List, [], ◌∷◌}
use Prim.Native.Nat.{ℕ, zero, suc, ◌+◌, ◌-◌, ◌/◌, ◌%◌, ◌^◌, ◌≤◌, ◌<◌, min}
use native.Mathlib.Numerals.{add-one}
use native.Mathlib.Decide.{dec_lt}
use native.Mathlib.Omega.{arith}
use lib.Dec.{eqb, leb}
use lib.IntN.{ℤ}
use lib.ListN.{length, get_or, drop, length-drop}
use lib.Seq.{drop-cons}
use borrow.Author.Tests.{ne_eqb, lt-ltb, le-ltb, le-leb, lt-leb, leb-false}
use Rattle.cell.specs.Cell.{Values, values, number_values, values_at, arity}
use Rattle.cell.specs.Cell as cell-specs
use Rattle.cell.specs.Signed.{signed_of}
use Rattle.cell.proofs.CellLaws.{Reading, no_cell, is-variable, is_name, is_number, reading}
use Rattle.cell.proofs.CellLaws as cell_laws
use Rattle.term.proofs.Tests.{eqb_same}
use Rattle.refusal.specs.Refusal.{Refused}
use Rattle.refusal.specs.Read.{Read, read, refuse, when, and_then}
use Rattle.table.specs.Table.{Met, met, bad_term, counted, cell_tests, terms_from}
use Rattle.refusal.specs.declared.Reason.TheVariants as reason
use Rattle.table.specs.code.Looks.{cell_from, not_whole}
use Rattle.table.proofs.ReadLaws.{tests_then, passed-tests}

-- One cell, by what it is and the first test that fails.
module _ (row : Bool) (c vars p : ℕ) where
  pub not-cell : values_at c ≡ cell-specs.no_values → cell_from row c vars p ≡ refuse (bad_term row reason.Cell p)
  unfolding cell_from
  not-cell e = rw e

  pub a-name : {a n : ℕ} → values_at c ≡ values 1 a n → cell_from row c vars p ≡ read vars
  unfolding cell_from
  a-name e = rw e

  pub a-number : {n : ℕ} {z : ℤ} → values_at c ≡ number_values n z → cell_from row c vars p ≡ read vars
  unfolding cell_from
  a-number e = rw e

  module _ {n : ℕ} (e : values_at c ≡ values 0 0 n) where
    pub fresh : vars < n → cell_from row c vars p ≡ refuse (bad_term row reason.Fresh p)
    unfolding cell_from
    fresh h = rw (e, lt-ltb vars n h)

    pub new : n ≡ vars → cell_from row c vars p ≡ read (suc vars)
    unfolding cell_from
    new h = rw (e, h, le-ltb vars vars (omega arith), eqb_same vars)

    pub again : n < vars → cell_from row c vars p ≡ read vars
    unfolding cell_from
    again h = rw (e, le-ltb vars n (omega arith), ne_eqb n vars (λ q. omega arith))

-- What a cell is, by its high half.
module _ (c : ℕ) where
  pub high-name : 16384 ≤ c / 2 ^ 16 → c / 2 ^ 16 ≤ 16388 → values_at c ≡ values 1 (c / 2 ^ 16 - 16384) (c % 2 ^ 16)
  high-name l h = let a : c / 2 ^ 16 % 2 ^ 3 ≡ c / 2 ^ 16 - 16384 = omega arith in is_name c (omega arith) (omega arith) ∙ rw a

  pub high-variable : c / 2 ^ 16 ≡ 0 → values_at c ≡ values 0 0 c
  high-variable h = let n : c % 2 ^ 16 ≡ c = omega arith in is-variable c (omega arith) (omega arith) ∙ rw n

  pub high-number : c / 2 ^ 16 ≡ 32768 → values_at c ≡ number_values (c % 2 ^ 16) (signed_of (c % 2 ^ 16))
  high-number h = is_number c (omega arith) (omega arith)

  pub high-none : c / 2 ^ 16 ≢ 0 → (16384 ≤ c / 2 ^ 16 → c / 2 ^ 16 ≤ 16388 → ⊥) → c / 2 ^ 16 ≢ 32768 → values_at c ≡ cell-specs.no_values
  high-none v n z = by (reading c)
    where
      by : {x : Values} → Reading c x → x ≡ cell-specs.no_values
      by (cell_laws.a-variable k m) = absurd (v (omega arith))
      by (cell_laws.a-name k m) = absurd (n (omega arith) (omega arith))
      by (cell_laws.a-number k m) = absurd (z (omega arith))
      by (no_cell e) = refl

  pub args_are : {x : Values} → values_at c ≡ x → x.args ≡ arity c
  unfolding arity
  args_are e = sym (ap (λ (v : Values). v.args) e)

-- A cell whose high half is that of a name, as it is looked at.
pub name_read : (row : Bool) (c vars p : ℕ) → 16384 ≤ c / 2 ^ 16 → c / 2 ^ 16 ≤ 16388 → cell_from row c vars p ≡ read vars
name_read row c vars p l h = a-name row c vars p (high-name c l h)

pub name_args : (c : ℕ) → 16384 ≤ c / 2 ^ 16 → c / 2 ^ 16 ≤ 16388 → arity c ≡ c / 2 ^ 16 - 16384
name_args c l h = sym (args_are c (high-name c l h))

-- A test that holds decides, and otherwise what comes after it.
when-both : {A : Type 0} (b : Bool) (f : Refused) {r s : Read A} → (b ≡ false → r ≡ s) → when b f r ≡ when b f s
when-both true f e = refl
when-both false f e = e refl

-- one more cell may be looked at, or none: a row has room for 32, a goal has no more than that
room : (row : Bool) (used n : ℕ) → (row && leb 32 used) ≡ false → (row ≡ false → used + suc n ≤ 32) → used < 32
room true used n e l = leb-false 32 used e
room false used n e l = omega (arith, l refl)

no_room : (row : Bool) (used : ℕ) → 32 ≤ used → row ≢ false → (row && leb 32 used) ≡ true
no_room true used h n = le-leb 32 used h
no_room false used h n = absurd (n refl)

-- Of terms that are more than the cells left, in a row the cells up to its 32nd, it does not matter how many they are.
too_many : (row : Bool) (xs : List ℕ) (a b used vars p : ℕ) → used ≤ 32 → 32 < used + a → 32 < used + b → (row ≡ false → used + length xs ≤ 32)
    → terms_from row xs a used vars p ≡ terms_from row xs b used vars p
unfolding terms_from
too_many row [] zero b used vars p u h k l = absurd (omega arith)
too_many row [] (suc a) zero used vars p u h k l = absurd (omega arith)
too_many row [] (suc a) (suc b) used vars p u h k l = refl
too_many row (c ∷ xs) zero b used vars p u h k l = absurd (omega arith)
too_many row (c ∷ xs) (suc a) zero used vars p u h k l = absurd (omega arith)
too_many row (c ∷ xs) (suc a) (suc b) used vars p u h k l =
    when-both (row && leb 32 used) (bad_term row reason.Long p) (λ e.
    let n : used < 32 = room row used (length xs) e l in
    ap (λ (r : Read Met). cell_tests row (values_at c) vars p r)
    (too_many row xs ((values_at c).args + a) ((values_at c).args + b) (suc used) (counted (values_at c) vars) (suc p) (omega arith) (omega arith) (omega arith)
    (λ q. omega (arith, l q))))

-- no term is owed, and terms are owed where the cells are used up
none-owed : (row : Bool) (xs : List ℕ) (used vars p : ℕ) → terms_from row xs 0 used vars p ≡ read (met p vars)
unfolding terms_from
none-owed row [] used vars p = refl
none-owed row (c ∷ xs) used vars p = refl

stopped : (row : Bool) (xs : List ℕ) (owed used vars p : ℕ) → 0 < owed → (0 < length xs → (row && leb 32 used) ≡ true)
    → terms_from row xs owed used vars p ≡ refuse (not_whole row used p)
unfolding terms_from
stopped row [] zero used vars p h f = absurd (omega arith)
stopped row [] (suc owed) used vars p h f = go (row && leb 32 used)
  where
    go : (b : Bool) → ◌≡◌ {A = Read Met} (when b (bad_term row reason.Long p) (refuse (bad_term row reason.Short p)))
        (refuse (bad_term row (cond b reason.Long reason.Short) p))
    go true = refl
    go false = refl
stopped row (c ∷ xs) zero used vars p h f = absurd (omega arith)
stopped row (c ∷ xs) (suc owed) used vars p h f = rw (f (omega arith))

-- What is left to read at a place, terms being owed up to another: at first all of it, in the end nothing.
abbrev pub left : Bool → List ℕ → ℕ → ℕ → ℕ → ℕ → Read Met
left row xs from to vars at = terms_from row (drop at xs) (to - at) (at - from) vars at

module _ (row : Bool) (xs : List ℕ) (from : ℕ) (l : row ≡ false → length xs ≤ from + 32) where
  pub at_first : (w : ℕ) → left row xs from (from + min w 33) 0 from ≡ terms_from row (drop from xs) w 0 0 from
  at_first w =
      let o : from + min w 33 - from ≡ min w 33 = omega arith in
      let z : from - from ≡ 0 = omega arith in
      rw (o, z) (by_cases (dec_lt 32 w)
      (λ (h : 32 < w). too_many row (drop from xs) (min w 33) w 0 0 from (omega arith) (omega arith) (omega arith)
      (λ q. omega (arith, l q, length-drop from xs)))
      (λ h. let e : min w 33 ≡ w = omega arith in rw e))

  module _ (to vars at : ℕ) where
    pub used-up : at < to → (at < length xs → from + 32 ≤ at) → left row xs from to vars at ≡ refuse (not_whole row (at - from) at)
    used-up t h =
        stopped row (drop at xs) (to - at) (at - from) vars at (omega arith) (λ (s : 0 < length (drop at xs)).
        let n = h (omega (arith, length-drop at xs)) in
        no_room row (at - from) (omega arith) (λ e. omega (arith, l e, length-drop at xs)))

module _ (row : Bool) (xs : List ℕ) (from to vars at : ℕ) where
  pub in-the-end : to ≤ at → left row xs from to vars at ≡ read (met at vars)
  in-the-end h = let z : to - at ≡ 0 = omega arith in rw z (none-owed row (drop at xs) (at - from) vars at)

  pub next-cell : at < length xs → from ≤ at → at < from + 32 → at < to
      → left row xs from to vars at ≡ and_then (cell_from row (get_or xs at 0) vars at) (λ (v : ℕ). left row xs from (to + arity (get_or xs at 0)) v (at + 1))
  unfolding terms_from cell_from arity
  next-cell h f u t =
      let c : ℕ = get_or xs at 0 in
      let o : to - at ≡ suc (to - (at + 1)) = omega arith in
      let a : to + arity c - (at + 1) ≡ arity c + (to - (at + 1)) = omega arith in
      let n : at + 1 - from ≡ suc (at - from) = omega arith in
      rw (drop-cons xs at 0 h, o, a, n, lt-leb 32 (at - from) (omega arith), and-false row, add-one at)
      (tests_then row (values_at c) vars at (counted (values_at c) vars)
      (λ (v : ℕ). terms_from row (drop (suc at) xs) (arity c + (to - suc at)) (suc (at - from)) v (suc at)))

-- a cell adds one variable at most
pub one_more : (row : Bool) (c vars p : ℕ) {v : ℕ} → cell_from row c vars p ≡ read v → v ≤ vars + 1
unfolding cell_from
one_more row c vars p {v} e = more (eqb (values_at c).kind 0 && eqb (values_at c).number vars) (passed-tests row (values_at c) vars p _ e)
  where
    more : (b : Bool) → read (cond b (suc vars) vars) ≡ read v → v ≤ vars + 1
    more true h = let q : suc vars ≡ v = cc in omega arith
    more false h = let q : vars ≡ v = cc in omega arith
