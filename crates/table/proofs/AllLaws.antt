-- What holds of each element of a list holds of each of a changed list, of a part of it, and together with what else holds.
use mathlib.Core.Path.{◌≡◌, refl, sym, ap₂, subst}
use mathlib.Core.Logic.{⊎_elim}
use mathlib.Core.List.Memᴰ
use mathlib.Core.List.{List, [], ◌∷◌, ◌++◌, map, Memᴰ}
use Prim.Native.Nat.{ℕ, zero, suc, ◌<◌}
use native.Mathlib.Omega.{arith}
use lib.ListN.{length, get_or, set, take, drop}
use Rattle.table.specs.All.{All}

module _ {A : Type 0} where
  pub all-each : (P Q : A → Type 0) → ((x : A) → P x → Q x) → (xs : List A) → All P xs → All Q xs
  all-each P Q h [] a = tt
  all-each P Q h (x ∷ xs) a = (h x a.0, all-each P Q h xs a.1)

  pub all_map : (P Q : A → Type 0) (f : A → A) → ((x : A) → P x → Q (f x)) → (xs : List A) → All P xs → All Q (map f xs)
  all_map P Q f h [] a = tt
  all_map P Q f h (x ∷ xs) a = (h x a.0, all_map P Q f h xs a.1)

  pub all-unmap : (P Q : A → Type 0) (f : A → A) → ((x : A) → Q (f x) → P x) → (xs : List A) → All Q (map f xs) → All P xs
  all-unmap P Q f h [] a = tt
  all-unmap P Q f h (x ∷ xs) a = (h x a.0, all-unmap P Q f h xs a.1)

  pub all_both : (P Q : A → Type 0) (xs : List A) → All P xs → All Q xs → All (λ (x : A). P x × Q x) xs
  all_both P Q [] a b = tt
  all_both P Q (x ∷ xs) a b = ((a.0, b.0), all_both P Q xs a.1 b.1)

  pub all_take : (P : A → Type 0) (n : ℕ) (xs : List A) → All P xs → All P (take n xs)
  all_take P zero xs a = tt
  all_take P (suc n) [] a = tt
  all_take P (suc n) (x ∷ xs) a = (a.0, all_take P n xs a.1)

  pub all_drop : (P : A → Type 0) (n : ℕ) (xs : List A) → All P xs → All P (drop n xs)
  all_drop P zero xs a = a
  all_drop P (suc n) [] a = tt
  all_drop P (suc n) (x ∷ xs) a = all_drop P n xs a.1

  -- two changes after another, equal on each element, change the list alike
  pub map-map-same : (P : A → Type 0) (f g f' g' : A → A) → ((x : A) → P x → f (g x) ≡ f' (g' x)) → (xs : List A) → All P xs
      → map f (map g xs) ≡ map f' (map g' xs)
  map-map-same P f g f' g' h [] a = refl
  map-map-same P f g f' g' h (x ∷ xs) a = ap₂ (λ (y : A) (ys : List A). y ∷ ys) (h x a.0) (map-map-same P f g f' g' h xs a.1)

  pub all-front : (P : A → Type 0) (xs ys : List A) → All P (xs ++ ys) → All P xs
  all-front P [] ys a = tt
  all-front P (x ∷ xs) ys a = (a.0, all-front P xs ys a.1)

  pub all_back : (P : A → Type 0) (xs ys : List A) → All P (xs ++ ys) → All P ys
  all_back P [] ys a = a
  all_back P (x ∷ xs) ys a = all_back P xs ys a.1

  pub all-++ : (P : A → Type 0) (xs ys : List A) → All P xs → All P ys → All P (xs ++ ys)
  all-++ P [] ys a b = b
  all-++ P (x ∷ xs) ys a b = (a.0, all-++ P xs ys a.1 b)

  pub all-at : (P : A → Type 0) (d : A) (xs : List A) (i : ℕ) → i < length xs → All P xs → P (get_or xs i d)
  all-at P d [] i h a = absurd (omega arith)
  all-at P d (x ∷ xs) zero h a = a.0
  all-at P d (x ∷ xs) (suc i) h a = all-at P d xs i (omega arith) a.1

  pub all_set : (P : A → Type 0) (xs : List A) (i : ℕ) (x : A) → All P xs → P x → All P (set xs i x)
  all_set P [] i x a h = tt
  all_set P (y ∷ xs) zero x a h = (h, a.1)
  all_set P (y ∷ xs) (suc i) x a h = (a.0, all_set P xs i x a.1 h)

  pub all-members : (P : A → Type 0) (xs : List A) → ((x : A) → Memᴰ x xs → P x) → All P xs
  all-members P [] h = tt
  all-members P (x ∷ xs) h = (h x (Memᴰ.head refl), all-members P xs (λ y m. h y (Memᴰ.tail m)))

  pub all-member : (P : A → Type 0) {x : A} (xs : List A) → All P xs → Memᴰ x xs → P x
  all-member P [] a m = absurd (Memᴰ.not-nil m)
  all-member P (y ∷ xs) a m = ⊎_elim (λ p. subst P (sym p) a.0) (all-member P xs a.1) (Memᴰ.cases_cons m)
