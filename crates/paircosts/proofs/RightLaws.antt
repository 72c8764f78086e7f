-- There is a task for any array at all; and where what is kept is right for the rows, so is all that stands in the array in the end.
use mathlib.Core.Path.{◌≡◌, refl, sym, ◌∙◌}
use mathlib.Core.Logic.{◌⊎◌, inl, inr}
use mathlib.Core.Bool.{Bool, true, false, ◌&&◌}
use mathlib.Core.List.{List}
use Prim.Native.Nat.{ℕ, suc, ◌≤◌, ◌<◌}
use native.Mathlib.Omega.{arith}
use lib.Dec.{leb, ltb}
use lib.ListN.{length}
use borrow.Author.Tests.{lt-ltb, le-ltb, le-leb, lt-leb}
use Rattle.plan.specs.Plans.{Measure}
use Rattle.state.specs.Flags.{flags_in}
use Rattle.least.specs.Entries.{whole_in, RightAt, SameAt}
use Rattle.least.specs.code.Low.{Low}
use Rattle.least.specs.code.Pairs.{whole_of}
use Rattle.least.proofs.Pairs.{pair-entry}
use Rattle.least.proofs.Best.{least-one}
use Rattle.least.proofs.Again.{held, by-same, again-is, old-is, values-right, whole-least, whole-small, by_right}
use Rattle.paircosts.specs.declared.arrays.Asked.{Asked}
use Rattle.paircosts.specs.Fill.{NoPair, Filled, Unasked, KeptRight, Refilled}
use Rattle.paircosts.specs.code.Notes.{read_in, Long, MarkedFrom}
use Rattle.paircosts.specs.code.Filling.{Laid, Task, Stands, worked, left, Finished}
use Rattle.paircosts.proofs.FlagLaws.{length-flags}
use Rattle.paircosts.proofs.FillLaws.{Either, again-pair, kept_pair, either}

-- which pairs are worked out
abbrev pub chosen : Asked → ℕ → ℕ → Bool
chosen asked j j' = ltb j asked.top && leb asked.since j'

pub chosen-yes : (asked : Asked) (j j' : ℕ) → j < asked.top → asked.since ≤ j' → chosen asked j j' ≡ true
chosen-yes asked j j' h l = rw (lt-ltb j asked.top h, le-leb asked.since j' l)

pub chosen-no : (asked : Asked) (j j' : ℕ) → Unasked asked.top asked.since j j' → chosen asked j j' ≡ false
chosen-no asked j j' (inl h) = rw (le-ltb j asked.top h)
chosen-no asked j j' (inr h) = go (ltb j asked.top)
  where
    go : (b : Bool) → (b && leb asked.since j') ≡ false
    go true = rw (lt-leb asked.since j' h)
    go false = refl

module _ {cells marks starts : List ℕ} {w : ℕ} {rows : List (List ℕ)} (m : Measure) (low : Low m) (asked : Asked) (fig : asked.figure ≡ m.figure)
    (laid : Laid cells starts asked.count w rows) (marked : MarkedFrom m cells marks 0) (old : List ℕ) (long : Long old) where
  abbrev fs : List Bool
  fs = flags_in w asked.named

  pub flags : length fs ≤ w
  flags = omega (arith, length-flags w asked.named)

  pub few : length rows ≤ 64
  few = omega (arith, laid.number, laid.few)

  abbrev pub N : ℕ → ℕ → ℕ
  N = held m fs w rows laid.fits flags (chosen asked) (read_in old) few

  pub small : (j j' : ℕ) → j ≤ j' → j' < length rows → N j j' ≤ 65535
  small j j' h l = go (chosen asked j j') refl
    where
      go : (b : Bool) → chosen asked j j' ≡ b → N j j' ≤ 65535
      go true e = rw (again-is m fs w rows laid.fits flags (chosen asked) (read_in old) few j j' h l e) (omega arith)
      go false e = rw (old-is m fs w rows laid.fits flags (chosen asked) (read_in old) few j j' e) (omega arith)

  -- a task, whatever stands in the array
  abbrev pub task : Task cells marks starts asked old
  task = record {
    m = m;
    low = low;
    figure-is = fig;
    width = w;
    rows = rows;
    laid = laid;
    marked = marked;
    N = N;
    again = λ j j' h l a b. again-is m fs w rows laid.fits flags (chosen asked) (read_in old) few j j' h l (chosen-yes asked j j' a b);
    known = λ j j' h l o. old-is m fs w rows laid.fits flags (chosen asked) (read_in old) few j j' (chosen-no asked j j' o);
    small = small;
    long = long;
  }

  -- where there is no pair, or none that is asked for, nothing is changed
  none-changed : {kept : List ℕ} → Finished task kept → (j j' : ℕ) → j < 64 → j' < 64
      → Unasked asked.top asked.since j j' ⊎ NoPair (length rows) j j' → SameAt j j' old kept
  none-changed {kept} f j j' h l o = go (f.filled.each j j' h l) o
    where
      go : Stands task (suc f.upto) f.upto kept j j' → Unasked asked.top asked.since j j' ⊎ NoPair (length rows) j j' → SameAt j j' old kept
      go (worked x e c p) (inl (inl o)) = absurd (omega (arith, x.begins))
      go (worked x e c p) (inl (inr o)) = absurd (omega (arith, x.ends))
      go (worked x e c p) (inr (inl o)) = absurd (omega (arith, x.order))
      go (worked x e c p) (inr (inr o)) = absurd (omega (arith, x.inside))
      go (left x e) o = e

  -- what is kept is right for these rows
  module _ (right : KeptRight m fs w rows asked.top asked.since old) where
    kept-right : (j j' : ℕ) → j ≤ j' → j' < length rows → chosen asked j j' ≡ false → read_in old j j' ≡ whole_of m fs w rows j j'
    kept-right j j' h l e = go (either j j' asked.top asked.since)
      where
        go : Either j j' asked.top asked.since → read_in old j j' ≡ whole_of m fs w rows j j'
        go (again-pair a b) = absurd (let z : ◌≡◌ {A = Bool} true false = sym (chosen-yes asked j j' a b) ∙ e in let y : ◌≡◌ {A = ℕ} 0 1 = cc in omega arith)
        go (kept_pair o) =
            omega (
              arith,
              least-one (right.at j j' h l o).whole (whole-least m low fs w rows laid.fits flags few j j' h l),
              whole-small m low fs w rows laid.fits flags few j j' h l,
            )

    values : (j j' : ℕ) → j ≤ j' → j' < length rows → N j j' ≡ whole_of m fs w rows j j'
    values j j' h l = values-right m low fs w rows laid.fits flags few (chosen asked) (read_in old) kept-right j j' h l

    -- ALL PAIRS ARE RIGHT
    all_right : {kept : List ℕ} → Finished task kept → (j j' : ℕ) → j ≤ j' → j' < length rows → RightAt m fs w rows kept j j'
    all_right {kept} f j j' h l = go (f.filled.each j j' (omega (arith, few)) (omega (arith, few)))
      where
        go : Stands task (suc f.upto) f.upto kept j j' → RightAt m fs w rows kept j j'
        go (worked x e c p) =
            let s = by-same m fs w rows laid.fits flags j j' h l N (whole_of m fs w rows) (λ i i' u v q r. values i i' v (omega arith)) in
            let y = by_right m low fs w rows laid.fits flags few j j' h l in
            let v : whole_in kept j j' ≡ whole_of m fs w rows j j' =
            omega (arith, values j j' h l, whole-small m low fs w rows laid.fits flags few j j' h l) in
            record {
              whole = rw v (whole-least m low fs w rows laid.fits flags few j j' h l);
              entry =
                  rw (c, p, s.0, s.1, y.0, y.1) (pair-entry m 32 fs w rows laid.fits flags j j' h l low.light);
            }
        go (left x e) = stays (either j j' asked.top asked.since)
          where
            stays : Either j j' asked.top asked.since → RightAt m fs w rows kept j j'
            stays (again-pair b d) = absurd (x (record { order = h; inside = l; begins = b; ends = d; done = inl (omega (arith, laid.number, f.far)) }))
            stays (kept_pair o) = let r = right.at j j' h l o in record { whole = rw e.whole r.whole; entry = rw (e.cost, e.place) r.entry }

    -- so the array is filled for these rows
    all-filled : {kept : List ℕ} → Finished task kept → Filled m fs w rows old kept
    all-filled {kept} f = record {
      whole = λ first last h l. (all_right f first last h l).whole;
      entry = λ first last h l. (all_right f first last h l).entry;
      other = λ first last h l o. none-changed f first last h l (inr o);
      size = (long, f.filled.long);
    }

  pub refilled : {kept : List ℕ} → Finished task kept → Refilled m fs w rows asked.top asked.since old kept
  refilled f = record { same = none-changed f; filled = λ right. all-filled right f }
