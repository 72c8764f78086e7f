-- Names counted in batches: the names of a batch that are met no more, and then those of what is left.
use Prim.Native.Nat.{ℕ, suc, ◌+◌, ◌≤◌, ◌<◌}
use mathlib.Core.Path.{◌≡◌, refl, sym, ap, subst, ◌∙◌}
use mathlib.Core.Bool.{Bool, true, false, cond, ◌||◌}
use mathlib.Core.List.{List, [], ◌∷◌, ◌++◌}
use native.Mathlib.Omega.{arith}
use lib.Dec.{ltb}
use lib.ListN.{length}
use borrow.Author.Tests.{ltb-true, ltb-false}
use Rattle.cell.specs.Same.{same}
use Rattle.grammar.specs.Meaning.{Place, bytes_at, position, meet}
use Rattle.cell.proofs.SameLaws.{same-eq, same-differ, same-no}
use Rattle.grammar.proofs.NumberLaws.{meet-old, meet-new}
use Rattle.loading.specs.Items.{Item, of-name, of-variable, of_number, next_row, names_met, met_in, unmet}

-- no two of the words are the same
unfoldable pub Apart : List ℕ → List Place → Type 0
Apart t [] = Unit {0}
Apart t (b ∷ bs) = (length bs ≤ position t (bytes_at t b) bs) × Apart t bs

-- a word that is not there is not the one that is added
position-missing : (t w : List ℕ) (ns : List Place) (v : Place) → length ns ≤ position t w ns → same w (bytes_at t v) ≡ false
    → length (ns ++ (v ∷ [])) ≤ position t w (ns ++ (v ∷ []))
unfolding position
position-missing t w [] v h e = rw e (omega arith)
position-missing t w (b ∷ bs) v h e = go (same w (bytes_at t b)) (position-missing t w bs v) h
  where
    go : (x : Bool) → (length bs ≤ position t w bs → same w (bytes_at t v) ≡ false → length (bs ++ (v ∷ [])) ≤ position t w (bs ++ (v ∷ [])))
        → suc (length bs) ≤ cond x 0 (suc (position t w bs)) → suc (length (bs ++ (v ∷ []))) ≤ cond x 0 (suc (position t w (bs ++ (v ∷ []))))
    go true f l = absurd (omega arith)
    go false f l = omega (arith, f (omega arith) e)

-- the first word of a list that has not a word is another
head-differs : (t w : List ℕ) (b : Place) (bs : List Place) → length (b ∷ bs) ≤ position t w (b ∷ bs)
    → (same w (bytes_at t b) ≡ false) × (length bs ≤ position t w bs)
unfolding position
head-differs t w b bs h = go (same w (bytes_at t b)) refl h
  where
    go : (x : Bool) → same w (bytes_at t b) ≡ x → suc (length bs) ≤ cond x 0 (suc (position t w bs)) → (x ≡ false) × (length bs ≤ position t w bs)
    go true e l = absurd (omega arith)
    go false e l = (refl, omega arith)

same-sym : (xs ys : List ℕ) → same xs ys ≡ false → same ys xs ≡ false
same-sym xs ys e = same-no ys xs (λ q. same-differ xs ys e (sym q))

apart-added : (t : List ℕ) (ns : List Place) (v : Place) → Apart t ns → length ns ≤ position t (bytes_at t v) ns → Apart t (ns ++ (v ∷ []))
unfolding Apart position
apart-added t [] v a h = (omega arith, tt)
apart-added t (b ∷ bs) v a h =
    let d = head-differs t (bytes_at t v) b bs h in
    (position-missing t (bytes_at t b) bs v a.0 (same-sym (bytes_at t v) (bytes_at t b) d.0), apart-added t bs v a.1 d.1)

apart-met : (t : List ℕ) (ns : List Place) (v : Place) → Apart t ns → Apart t (meet t ns v)
apart-met t ns v a = go (ltb (position t (bytes_at t v) ns) (length ns)) refl
  where
    go : (b : Bool) → ltb (position t (bytes_at t v) ns) (length ns) ≡ b → Apart t (meet t ns v)
    go true e = rw (meet-old t ns v (ltb-true _ _ e)) a
    go false e = rw (meet-new t ns v (ltb-false _ _ e)) (apart-added t ns v a (ltb-false _ _ e))

module _ (t : List ℕ) (v : Place) (xs : List Item) where
  -- a word that is none of the list strikes none out
  strikes-none : (ns : List Place) → length ns ≤ position t (bytes_at t v) ns → unmet t (of-name v ∷ xs) ns ≡ unmet t xs ns
  unfolding unmet met_in
  strikes-none [] h = refl
  strikes-none (b ∷ bs) h = let d = head-differs t (bytes_at t v) b bs h in rw (d.0, strikes-none bs d.1)

  -- a word of the list strikes itself out
  strikes-one : (ns : List Place) → Apart t ns → position t (bytes_at t v) ns < length ns → unmet t xs ns ≡ unmet t (of-name v ∷ xs) ns + unmet t xs (v ∷ [])
  unfolding unmet met_in Apart position
  strikes-one [] a h = absurd (omega arith)
  strikes-one (b ∷ bs) a h = go (same (bytes_at t v) (bytes_at t b)) refl (strikes-one bs a.1) h
    where
      go : (x : Bool) → same (bytes_at t v) (bytes_at t b) ≡ x
          → (position t (bytes_at t v) bs < length bs → unmet t xs bs ≡ unmet t (of-name v ∷ xs) bs + unmet t xs (v ∷ []))
          → cond x 0 (suc (position t (bytes_at t v) bs)) < suc (length bs)
          → ◌≡◌ {A = ℕ} (cond (met_in t (bytes_at t b) xs) 0 1 + unmet t xs bs)
          (cond (x || met_in t (bytes_at t b) xs) 0 1 + unmet t (of-name v ∷ xs) bs + unmet t xs (v ∷ []))
      go true e f l =
          let q = same-eq (bytes_at t v) (bytes_at t b) e in
          let n : unmet t (of-name v ∷ xs) bs ≡ unmet t xs bs = strikes-none bs (subst (λ (w : List ℕ). length bs ≤ position t w bs) (sym q) a.0) in
          let m : ◌≡◌ {A = ℕ} (cond (met_in t (bytes_at t b) xs) 0 1) (cond (met_in t (bytes_at t v) xs) 0 1) =
          ap (λ (w : List ℕ). cond {A = ℕ} (met_in t w xs) 0 1) (sym q) in
          omega (arith, n, m)
      go false e f l = omega (arith, f (omega arith))

unmet-append : (t : List ℕ) (xs : List Item) (ns ms : List Place) → unmet t xs (ns ++ ms) ≡ unmet t xs ns + unmet t xs ms
unfolding unmet
unmet-append t xs [] ms = omega arith
unmet-append t xs (b ∷ bs) ms = omega (arith, unmet-append t xs bs ms)

strikes : (t : List ℕ) (v : Place) (xs : List Item) (ns : List Place) → Apart t ns
    → unmet t xs (meet t ns v) ≡ unmet t (of-name v ∷ xs) ns + unmet t xs (v ∷ [])
strikes t v xs ns a = go (ltb (position t (bytes_at t v) ns) (length ns)) refl
  where
    go : (b : Bool) → ltb (position t (bytes_at t v) ns) (length ns) ≡ b → unmet t xs (meet t ns v) ≡ unmet t (of-name v ∷ xs) ns + unmet t xs (v ∷ [])
    go true e = ap (unmet t xs) (meet-old t ns v (ltb-true _ _ e)) ∙ strikes-one t v xs ns a (ltb-true _ _ e)
    go false e =
        ap (unmet t xs) (meet-new t ns v (ltb-false _ _ e))
        ∙ unmet-append t xs ns (v ∷ [])
        ∙ ap (λ (n : ℕ). n + unmet t xs (v ∷ [])) (sym (strikes-none t v xs ns (ltb-false _ _ e)))

apart-one : (t : List ℕ) (v : Place) → Apart t (v ∷ [])
unfolding Apart position
apart-one t v = (omega arith, tt)

meet-first : (t : List ℕ) (v : Place) → meet t [] v ≡ v ∷ []
meet-first t v = meet-new t [] v (omega arith)

none-unmet : (t : List ℕ) (ns : List Place) → unmet t [] ns ≡ length ns
unfolding unmet met_in
none-unmet t [] = refl
none-unmet t (b ∷ bs) = omega (arith, none-unmet t bs)

-- an item that is no name strikes none out
strikes-nothing : (t : List ℕ) (xs ys : List Item) → ((w : List ℕ) → met_in t w xs ≡ met_in t w ys) → (ns : List Place) → unmet t xs ns ≡ unmet t ys ns
unfolding unmet
strikes-nothing t xs ys e [] = refl
strikes-nothing t xs ys e (b ∷ bs) = rw (e (bytes_at t b), strikes-nothing t xs ys e bs)

-- some words, no two the same, and then these items: the words that are not met again, and the names of the items
pub batch : (t : List ℕ) (ns : List Place) (xs : List Item) → Apart t ns → length (names_met t ns xs) ≡ unmet t xs ns + length (names_met t [] xs)
unfolding names_met met_in
batch t ns [] a = omega (arith, none-unmet t ns)
batch t ns (of-name v ∷ xs) a =
    let i = batch t (meet t ns v) xs (apart-met t ns v a) in
    let j = batch t (v ∷ []) xs (apart-one t v) in
    let k = ap (λ (ms : List Place). length (names_met t ms xs)) (meet-first t v) in
    omega (arith, i, j, k, strikes t v xs ns a)
batch t ns (of-variable v ∷ xs) a = omega (arith, batch t ns xs a, strikes-nothing t xs (of-variable v ∷ xs) (λ w. refl) ns)
batch t ns (of_number v ∷ xs) a = omega (arith, batch t ns xs a, strikes-nothing t xs (of_number v ∷ xs) (λ w. refl) ns)
batch t ns (next_row ∷ xs) a = omega (arith, batch t ns xs a, strikes-nothing t xs (next_row ∷ xs) (λ w. refl) ns)
