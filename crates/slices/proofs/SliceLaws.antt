-- A part whose ends may lie outside: law by law.
use Prim.Native.Nat.{ℕ, zero, suc, ◌+◌, ◌-◌, ◌≤◌, ◌<◌}
use mathlib.Core.Path.{◌≡◌, refl, sym, ap, ◌∙◌}
use mathlib.Core.Bool.{Bool, true, false}
use mathlib.Core.List.{List, [], ◌∷◌}
use native.Mathlib.Omega.{arith}
use lib.Dec.{leb}
use lib.ListN.{length, take, drop, length-drop, drop_of_length-le}
use lib.Seq.{slice, take-nil, take_all}
use borrow.Author.Tests.{leb-true, leb-false}
use Rattle.term.proofs.Lists.{slice-take}
use Rattle.slices.specs.Slices.{between}

pub take-few : (n : ℕ) (l : List ℕ) → (length (take n l) ≤ n) × (length (take n l) ≤ length l)
take-few zero l = (omega arith, omega arith)
take-few (suc n) [] = (omega arith, omega arith)
take-few (suc n) (x ∷ l) = let t = take-few n l in (omega (arith, t.0), omega (arith, t.1))

module _ (s e : ℕ) (l : List ℕ) where
  pub part-late : length l < s → between 0 0 l ≡ between s e l
  part-late h = let d : drop s l ≡ [] = drop_of_length-le l {i = s} (omega arith) in rw (d, take-nil (e - s))

  pub part_none : e < s → between 0 0 l ≡ between s e l
  part_none h = let z : e - s ≡ 0 = omega arith in rw z

  pub part-over : length l < e → between s (length l) l ≡ between s e l
  part-over h =
      let d = length-drop s l in
      take_all (length l - s) (drop s l) (omega arith) ∙ sym (take_all (e - s) (drop s l) (omega arith))

  -- both forms of a part
  pub part-is : between s e l ≡ slice s e l
  part-is = go (leb s e) refl
    where
      go : (b : Bool) → leb s e ≡ b → between s e l ≡ slice s e l
      go true q =
          let h = leb-true s e q in
          let n : s + (e - s) ≡ e = omega arith in
          sym (slice-take s (e - s) l) ∙ ap (λ (n : ℕ). slice s n l) n
      go false q =
          let h = leb-false s e q in
          let z : e - s ≡ 0 = omega arith in
          rw z (sym (drop_of_length-le (take e l) {i = s} (omega (arith, (take-few e l).0))))
