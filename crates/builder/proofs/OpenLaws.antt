-- The open cells of a row by its mask: the lowest bit is the first of them, and the mask without it has the others.
use mathlib.Core.Path.{◌≡◌, refl, ap, ◌∙◌}
use mathlib.Core.List.{List, [], ◌∷◌}
use Prim.Native.Nat.{ℕ, zero, suc, ◌+◌, ◌-◌, ◌/◌, ◌%◌, ◌^◌, ◌≤◌, ◌<◌}
use native.Mathlib.Omega.{arith}
use lib.Count.{count_trailing_zeros, under}
use lib.ListN.{length, get_or, drop, length-drop, drop_of_length-le}
use lib.Seq.{get_or-drop}
use Rattle.state.specs.Mask.{kept}
use Rattle.state.proofs.MaskLaws.{kept_set, kept-unset}
use Rattle.builder.specs.code.Writing.{open_in}

pub kept-none : (xs : List ℕ) → kept 0 xs ≡ []
unfolding kept
kept-none [] = refl
kept-none (c ∷ xs) = kept-none xs

lowest : (n m : ℕ) (xs : List ℕ) → 0 < m → m < 2 ^ n → count_trailing_zeros n m < length xs
    → kept m xs ≡ get_or xs (count_trailing_zeros n m) 0 ∷ kept (m - 2 ^ count_trailing_zeros n m) xs
unfolding count_trailing_zeros
lowest zero m xs p h l = absurd (omega arith)
lowest (suc n) m [] p h l = absurd (omega arith)
lowest (suc n) m (c ∷ xs) p h l = go (m % 2) refl l (λ e q. lowest n (m / 2) xs (omega arith) (omega arith) q)
  where
    go : (r : ℕ) → m % 2 ≡ r → under r (count_trailing_zeros n (m / 2)) < length (c ∷ xs)
        → (m % 2 ≡ 0 → count_trailing_zeros n (m / 2) < length xs
        → kept (m / 2) xs ≡ get_or xs (count_trailing_zeros n (m / 2)) 0 ∷ kept (m / 2 - 2 ^ count_trailing_zeros n (m / 2)) xs)
        → kept m (c ∷ xs)
        ≡ get_or (c ∷ xs) (under r (count_trailing_zeros n (m / 2))) 0 ∷ kept (m - 2 ^ under r (count_trailing_zeros n (m / 2))) (c ∷ xs)
    go zero e l ih =
        let t : ℕ = count_trailing_zeros n (m / 2) in
        let d : (m - 2 ^ suc t) % 2 ≡ 0 = omega arith in
        let f : (m - 2 ^ suc t) / 2 ≡ m / 2 - 2 ^ t = omega arith in
        rw (kept-unset m c xs e, kept-unset (m - 2 ^ suc t) c xs d, f) (ih e (omega arith))
    go (suc r) e l ih =
        let o : m % 2 ≡ 1 = omega arith in
        let d : (m - 2 ^ 0) % 2 ≡ 0 = omega arith in
        let f : (m - 2 ^ 0) / 2 ≡ m / 2 = omega arith in
        rw (kept_set m c xs o, kept-unset (m - 2 ^ 0) c xs d, f)

no-lowest : (n m : ℕ) (xs : List ℕ) → 0 < m → m < 2 ^ n → length xs ≤ count_trailing_zeros n m → kept m xs ≡ []
unfolding count_trailing_zeros kept
no-lowest n m [] p h l = refl
no-lowest zero m (c ∷ xs) p h l = absurd (omega arith)
no-lowest (suc n) m (c ∷ xs) p h l = go (m % 2) refl l (λ e q. no-lowest n (m / 2) xs (omega arith) (omega arith) q)
  where
    go : (r : ℕ) → m % 2 ≡ r → length (c ∷ xs) ≤ under r (count_trailing_zeros n (m / 2))
        → (m % 2 ≡ 0 → length xs ≤ count_trailing_zeros n (m / 2) → kept (m / 2) xs ≡ []) → kept m (c ∷ xs) ≡ []
    go zero e l ih = kept-unset m c xs e ∙ ih e (omega arith)
    go (suc r) e l ih = absurd (omega arith)

pub lowest_set : (n m : ℕ) → 0 < m → m < 2 ^ n → 2 ^ count_trailing_zeros n m ≤ m
unfolding count_trailing_zeros
lowest_set zero m p h = absurd (omega arith)
lowest_set (suc n) m p h = go (m % 2) refl (λ e. lowest_set n (m / 2) (omega arith) (omega arith))
  where
    go : (r : ℕ) → m % 2 ≡ r → (m % 2 ≡ 0 → 2 ^ count_trailing_zeros n (m / 2) ≤ m / 2) → 2 ^ under r (count_trailing_zeros n (m / 2)) ≤ m
    go zero e ih = let p : 2 ^ suc (count_trailing_zeros n (m / 2)) ≤ m = omega (arith, ih e) in p
    go (suc r) e ih = let p : 2 ^ 0 ≤ m = omega arith in p

-- In the code's words.
pub open-outside : (t : List ℕ) (start m : ℕ) → length t ≤ start → open_in t start m ≡ []
unfolding kept
open-outside t start m h = rw (drop_of_length-le t h)

module _ (t : List ℕ) (start m : ℕ) (some : 0 < m) (small : m < 2 ^ 32) where
  pub open-first : start + count_trailing_zeros 32 m < length t
      → open_in t start m ≡ get_or t (start + count_trailing_zeros 32 m) 0 ∷ open_in t start (m - 2 ^ count_trailing_zeros 32 m)
  open-first h =
      lowest 32 m (drop start t) some small (omega (arith, length-drop start t))
      ∙ ap (λ (c : ℕ). c ∷ open_in t start (m - 2 ^ count_trailing_zeros 32 m)) (get_or-drop start t (count_trailing_zeros 32 m) 0)

  pub open_none : length t ≤ start + count_trailing_zeros 32 m → open_in t start m ≡ []
  open_none h = no-lowest 32 m (drop start t) some small (omega (arith, length-drop start t))
