-- A goal, renamed apart: its terms, its length, the numbers of its variables.
use Prim.Native.Nat.{ℕ, zero, suc, ◌+◌, ◌^◌, ◌≤◌, ◌<◌}
use mathlib.Core.Path.{◌≡◌, refl, sym, ◌∙◌, ap}
use mathlib.Core.Logic.{⊎_elim}
use mathlib.Core.Bool.{true, false, true≢false}
use mathlib.Core.List.Memᴰ
use mathlib.Core.List.{List, [], ◌∷◌, Memᴰ}
use native.Mathlib.Omega.{arith}
use lib.ListN.{length, get_or, drop}
use Rattle.cell.specs.Cell.{arity, is_var}
use Rattle.cell.proofs.CellLaws.{var-arity, var-small}
use Rattle.term.specs.Terms.{Terms, more, front}
use Rattle.term.specs.Unify.{renamed}
use Rattle.term.proofs.Tests.{bool_cases}
use Rattle.answer.specs.code.Renamed.{var, lift}

pub lift-var : (c : ℕ) → is_var c ≡ true → lift c ≡ var c
unfolding lift
lift-var c h = rw h

pub lift-symbol : (c : ℕ) → is_var c ≡ false → lift c ≡ c
unfolding lift
lift-symbol c h = rw h

pub record Small (xs : List ℕ) : Type 0 where
  pub vars : (c : ℕ) → Memᴰ c xs → is_var c ≡ true → c < 32

pub small-tail : {c : ℕ} {xs : List ℕ} → Small (c ∷ xs) → Small xs
small-tail s = record { vars = λ c m. s.vars c (Memᴰ.tail m) }

pub lift-arity : (c : ℕ) → (is_var c ≡ true → c < 32) → arity (lift c) ≡ arity c
lift-arity c h = ⊎_elim
    (λ v. let l = h v in rw (lift-var c v) (var-arity (var c) (var-small (var c) (omega arith)) ∙ sym (var-arity c v)))
    (λ v. rw (lift-symbol c v))
    (bool_cases (is_var c))

pub renamed-cons : (c : ℕ) (xs : List ℕ) → renamed (c ∷ xs) ≡ lift c ∷ renamed xs
unfolding renamed lift
renamed-cons c xs = refl

pub renamed-nil : renamed [] ≡ []
unfolding renamed
renamed-nil = refl

pub renamed-length : (xs : List ℕ) → length (renamed xs) ≡ length xs
renamed-length [] = rw renamed-nil
renamed-length (c ∷ xs) = rw (renamed-cons c xs) (ap suc (renamed-length xs))

pub renamed-drop : (p : ℕ) (xs : List ℕ) → drop p (renamed xs) ≡ renamed (drop p xs)
renamed-drop zero xs = refl
renamed-drop (suc p) [] = rw renamed-nil
renamed-drop (suc p) (c ∷ xs) = rw (renamed-cons c xs) (renamed-drop p xs)

pub renamed-at : (p : ℕ) (xs : List ℕ) → p < length xs → get_or (renamed xs) p 0 ≡ lift (get_or xs p 0)
renamed-at p [] h = absurd (let z : ⊥ = omega arith in z)
renamed-at zero (c ∷ xs) h = rw (renamed-cons c xs)
renamed-at (suc p) (c ∷ xs) h = rw (renamed-cons c xs) (renamed-at p xs (omega arith))

pub renamed-terms : {k : ℕ} {xs : List ℕ} → Terms k xs → Small xs → Terms k (renamed xs)
renamed-terms Terms.none s = rw renamed-nil Terms.none
renamed-terms (more {c} {k} {xs} t) s =
    let u : Terms (arity (lift c) + k) (renamed xs) = rw (lift-arity c (s.vars c (Memᴰ.head refl))) (renamed-terms t (small-tail s)) in
    rw (renamed-cons c xs) (more u)

pub renamed-front : (k : ℕ) (xs : List ℕ) → Small xs → length (front k (renamed xs)) ≡ length (front k xs)
unfolding front
renamed-front k [] s = rw renamed-nil
renamed-front zero (c ∷ xs) s = rw (renamed-cons c xs)
renamed-front (suc k) (c ∷ xs) s =
    rw (renamed-cons c xs, lift-arity c (s.vars c (Memᴰ.head refl))) (ap suc (renamed-front (arity c + k) xs (small-tail s)))

pub small-drop : (p : ℕ) (xs : List ℕ) → Small xs → Small (drop p xs)
small-drop zero xs s = s
small-drop (suc p) [] s = s
small-drop (suc p) (c ∷ xs) s = small-drop p xs (small-tail s)

-- its variables lie above a row's
lift-range : (d c : ℕ) → (is_var d ≡ true → d < 32) → c ≡ lift d → is_var c ≡ true → (2 ^ 16 ≤ c) × (c < 2 ^ 16 + 32)
lift-range d c h e v = ⊎_elim
    (λ y. let l = h y in let q : c ≡ var d = e ∙ lift-var d y in omega arith)
    (λ y. absurd (true≢false (sym v ∙ ap is_var (e ∙ lift-symbol d y) ∙ y)))
    (bool_cases (is_var d))

pub renamed-range : (xs : List ℕ) → Small xs → (c : ℕ) → Memᴰ c (renamed xs) → is_var c ≡ true → (2 ^ 16 ≤ c) × (c < 2 ^ 16 + 32)
renamed-range [] s c m v = absurd (Memᴰ.not-nil (rw renamed-nil at m))
renamed-range (d ∷ xs) s c m v =
    ⊎_elim (λ e. lift-range d c (s.vars d (Memᴰ.head refl)) e v) (λ q. renamed-range xs (small-tail s) c q v)
    (Memᴰ.cases_cons (rw (renamed-cons d xs) at m))

pub get_d-mem : (xs : List ℕ) (p : ℕ) → p < length xs → Memᴰ (get_or xs p 0) xs
get_d-mem [] p h = absurd (let z : ⊥ = omega arith in z)
get_d-mem (c ∷ xs) zero h = Memᴰ.head refl
get_d-mem (c ∷ xs) (suc p) h = Memᴰ.tail (get_d-mem xs p (omega arith))
