-- Numbers that are stored one after another, and the pairs that end at a row cleared.
use mathlib.Core.Path.{◌≡◌, refl, sym, ap, ◌∙◌}
use mathlib.Core.Logic.{◌≢◌}
use mathlib.Core.List.{List, ◌++◌, append_assoc}
use Prim.Native.Nat.{ℕ, suc, ◌+◌, ◌-◌, ◌*◌, ◌≤◌, ◌<◌}
use native.Mathlib.Omega.{arith}
use lib.ListN.{length, set, take, drop, length-set}
use lib.Seq.{sets, sets-eq, drop-drop}
use borrow.Rule.Slice.PartMut.{put_mid}
use Rattle.least.specs.Entries.{SameAt}
use Rattle.paircosts.specs.code.Filling.{put_pair}
use Rattle.paircosts.proofs.FillLaws.{Where, here, there, where-is}
use Rattle.record.specs.code.Zeros.{ZeroAt, Cleared}
use Rattle.record.proofs.KeptLaws.{zero_same}
use Rattle.limits.specs.Limits.{kept_cells}

-- a part of a list that is written over, as several elements stored one after another
pub put_mid-sets : (a k : ℕ) (xs ys zs : List ℕ) → ys ≡ zs → length zs ≡ k → a + k ≤ length xs → put_mid a k xs ys ≡ sets xs a zs
put_mid-sets a k xs ys zs e l b =
    ap (λ (m : List ℕ). take a xs ++ (m ++ drop k (drop a xs))) e
    ∙ ap (λ (m : List ℕ). take a xs ++ (zs ++ m)) (drop-drop k a xs ∙ ap (λ (n : ℕ). drop (a + n) xs) (sym l))
    ∙ sym (append_assoc (take a xs) zs (drop (a + length zs) xs)) ∙ sym (sets-eq zs xs a (omega (arith, l)))

-- three numbers are put and none comes or goes
length-pair : (kept : List ℕ) (pair : ℕ) → length (put_pair kept pair 0 0 0) ≡ length kept
length-pair kept pair =
    length-set (set (set kept pair 0) (4096 + pair) 0) (8192 + pair) 0 ∙ length-set (set kept pair 0) (4096 + pair) 0
    ∙ length-set kept pair 0

-- the pairs that end at a row are cleared up to a first row
pub record Clearing (last upto : ℕ) (old new : List ℕ) : Type 0 where
  pub size : length new ≡ length old
  pub done : (first : ℕ) → first < upto → first < 64 → ZeroAt first last new
  pub others : (first j : ℕ) → first < 64 → j < 64 → j ≢ last → SameAt first j old new

pub clearing-start : (last : ℕ) (old : List ℕ) → Clearing last 0 old old
clearing-start last old = record {
  size = refl;
  done = λ first h l. absurd (omega arith);
  others = λ first j h l n. record { whole = refl; cost = refl; place = refl };
}

module _ {last upto : ℕ} {old new : List ℕ} (room : length old ≡ kept_cells) (row : last < 64) (low : upto < 64)
    (c : Clearing last upto old new) where
  abbrev next : List ℕ
  next = put_pair new (64 * upto + last) 0 0 0

  abbrev Here : ℕ → ℕ → Type 0
  Here = Where new upto last 0 0 0

  where-now : (first j : ℕ) → first < 64 → j < 64 → Here first j
  where-now first j h l = where-is new upto last 0 0 0 first j (c.size ∙ room) low row h l

  pub clearing-more : Clearing last (upto + 1) old next
  clearing-more = record {
    size = length-pair new (64 * upto + last) ∙ c.size;
    done = λ first h l. zero first h l (where-now first last l row);
    others = λ first j h l n. same first j n (c.others first j h l n) (where-now first j h l);
  }
    where
      zero : (first : ℕ) → first < upto + 1 → first < 64 → Here first last → ZeroAt first last next
      zero first h l (here e e' a b d) = record { whole = a; cost = b; place = d }
      zero first h l (there n s) = zero_same s (c.done first (omega (arith, n)) l)

      same : (first j : ℕ) → j ≢ last → SameAt first j old new → Here first j → SameAt first j old next
      same first j n x (here e e' a b d) = absurd (n e')
      same first j n x (there m s) = record { whole = s.whole ∙ x.whole; cost = s.cost ∙ x.cost; place = s.place ∙ x.place }

pub clearing-end : {last upto : ℕ} {old new : List ℕ} → 64 ≤ upto → Clearing last upto old new → Cleared last old new
clearing-end h c = record { size = c.size; column = λ first l. c.done first (omega arith) l; others = c.others }
