-- One row more, as the table's reading of a row beside others answers it (`row_of`): EXTRA where it ends before the cells do.
use Prim.Native.Nat.{ℕ, suc, ◌≤◌}
use mathlib.Core.Path.{◌≡◌, sym, ◌∙◌, ap}
use mathlib.Core.Logic.{◌⊎◌, inl, inr}
use mathlib.Core.Bool.{true, false}
use mathlib.Core.List.{List, []}
use native.Mathlib.Omega.{arith}
use lib.Dec.{ltb}
use lib.ListN.{length, take}
use borrow.Author.Tests.{ltb-false}
use Rattle.refusal.specs.Refusal.{Refused, refused}
use Rattle.refusal.specs.declared.Reason.TheVariants as reason
use Rattle.refusal.specs.declared.Input.TheVariants as input
use Rattle.refusal.specs.Read.{read, refuse, when}
use Rattle.term.proofs.Tests.{bool_cases}
use Rattle.table.specs.Table.{Met, terms_from, doubled, row_of}
use Rattle.table.proofs.ReadLaws.{apart, passed, first, refuse-one}
use Rattle.table.proofs.WholeLaws.{whole-within}
use Rattle.table.proofs.SameLaws.{terms-few}
use Rattle.salvaging.specs.Kept.{kept_from}
use Rattle.salvaging.proofs.KeptLaws.{Reading, is_read, is-refused, reading, kept-refused, kept-doubled}

-- a row that is kept, and where it ends; or none
pub data Going (w : ℕ) (seen : List (List ℕ)) (xs : List ℕ) : Type 0 where
  row_ends : (m : Met) → terms_from true xs w 0 0 0 ≡ read m → doubled m (take m.next xs) seen ≡ false → m.next ≤ length xs → Going w seen xs
  row-stops : ((left : ℕ) → kept_from w (suc left) seen xs ≡ []) → Going w seen xs

pub going : (w : ℕ) (seen : List (List ℕ)) (xs : List ℕ) → Going w seen xs
going w seen xs = go (reading (terms_from true xs w 0 0 0))
  where
    go : Reading (terms_from true xs w 0 0 0) → Going w seen xs
    go (is-refused f e) = row-stops (λ left. kept-refused w left seen xs e)
    go (is_read m e) = more (bool_cases (doubled m (take m.next xs) seen))
      where
        more : (doubled m (take m.next xs) seen ≡ true) ⊎ (doubled m (take m.next xs) seen ≡ false) → Going w seen xs
        more (inl d) = row-stops (λ left. kept-doubled w left seen xs e d)
        more (inr d) = row_ends m e d (whole-within true xs w 0 (omega arith) e).1

-- what is answered for a row that goes on, and for one that does not
module _ (w : ℕ) (seen : List (List ℕ)) (xs : List ℕ) where
  going-says : (m : Met) → terms_from true xs w 0 0 0 ≡ read m → doubled m (take m.next xs) seen ≡ false
      → row_of w seen xs ≡ when (ltb m.next (length xs)) (refused reason.Extra input.Table m.next) (read m.vars)
  unfolding row_of
  going-says m e d = rw (e, d)

  -- accepted: it goes on, up to the end of the cells
  pub accepted-ends : {v : ℕ} → row_of w seen xs ≡ read v
      → (m : Met) × (terms_from true xs w 0 0 0 ≡ read m) × (doubled m (take m.next xs) seen ≡ false) × (m.next ≡ length xs)
  unfolding row_of
  accepted-ends e =
      let f = first (terms_from true xs w 0 0 0) _ e in
      let d = passed (doubled f.0 (take f.0.next xs) seen) _ _ f.2 in
      let l = passed (ltb f.0.next (length xs)) _ _ d.1 in
      let b = whole-within true xs w 0 (omega arith) f.1 in
      (f.0, f.1, d.0, omega (arith, ltb-false f.0.next (length xs) l.0, b.1))

  -- EXTRA: it goes on, up to that place
  pub extra-ends : {r : Refused} → row_of w seen xs ≡ refuse r → r.number ≡ 9
      → (m : Met) × (terms_from true xs w 0 0 0 ≡ read m) × (doubled m (take m.next xs) seen ≡ false) × (m.next ≡ r.place)
  unfolding row_of
  extra-ends {r} e n = go (reading (terms_from true xs w 0 0 0))
    where
      go : Reading (terms_from true xs w 0 0 0)
          → (m : Met) × (terms_from true xs w 0 0 0 ≡ read m) × (doubled m (take m.next xs) seen ≡ false) × (m.next ≡ r.place)
      go (is-refused f h) =
          let z : f ≡ r = refuse-one (rw h at e) in
          absurd (omega (arith, terms-few true xs w 0 0 0 h, n, ap (λ (g : Refused). g.number) z))
      go (is_read m h) = more (rw h at e) (bool_cases (doubled m (take m.next xs) seen))
        where
          more : when (doubled m (take m.next xs) seen) (refused reason.Same input.Table 0)
              (when (ltb m.next (length xs)) (refused reason.Extra input.Table m.next) (read m.vars)) ≡ refuse r
              → (doubled m (take m.next xs) seen ≡ true) ⊎ (doubled m (take m.next xs) seen ≡ false)
              → (m : Met) × (terms_from true xs w 0 0 0 ≡ read m) × (doubled m (take m.next xs) seen ≡ false) × (m.next ≡ r.place)
          more q (inl d) =
              let z : refused reason.Same input.Table 0 ≡ r = refuse-one (rw d at q) in
              absurd (omega (arith, n, ap (λ (g : Refused). g.number) z))
          more q (inr d) = last (rw d at q) (bool_cases (ltb m.next (length xs)))
            where
              last : when (ltb m.next (length xs)) (refused reason.Extra input.Table m.next) (read m.vars) ≡ refuse r
                  → (ltb m.next (length xs) ≡ true) ⊎ (ltb m.next (length xs) ≡ false)
                  → (m : Met) × (terms_from true xs w 0 0 0 ≡ read m) × (doubled m (take m.next xs) seen ≡ false) × (m.next ≡ r.place)
              last u (inl l) = (m, h, d, ap (λ (g : Refused). g.place) (refuse-one (rw l at u)))
              last u (inr l) = apart (rw l at u)

  -- anything else: it does not
  pub other-stops : {r : Refused} → row_of w seen xs ≡ refuse r → (r.number ≡ 9 → ⊥) → (left : ℕ) → kept_from w (suc left) seen xs ≡ []
  other-stops {r} e n left = go (going w seen xs)
    where
      go : Going w seen xs → kept_from w (suc left) seen xs ≡ []
      go (row-stops f) = f left
      go (row_ends m h d l) = more (sym (going-says m h d) ∙ e) (bool_cases (ltb m.next (length xs)))
        where
          more : when (ltb m.next (length xs)) (refused reason.Extra input.Table m.next) (read m.vars) ≡ refuse r
              → (ltb m.next (length xs) ≡ true) ⊎ (ltb m.next (length xs) ≡ false) → kept_from w (suc left) seen xs ≡ []
          more u (inl x) = absurd (n (sym (ap (λ (g : Refused). g.number) (refuse-one (rw x at u)))))
          more u (inr x) = apart (rw x at u)
