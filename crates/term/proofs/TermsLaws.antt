-- Lists of k terms: splitting, putting together, and that no list of k terms is the start of another.
use Prim.Native.Nat.{ℕ, zero, suc, ◌+◌, ◌≤◌}
use mathlib.Core.Path.{◌≡◌, refl, sym, ◌∙◌, ap}
use mathlib.Core.List.{List, [], ◌∷◌, ◌++◌}
use native.Mathlib.Nat.{zero-add, suc-add, add_assoc}
use native.Mathlib.Omega.{arith}
use lib.ListN.{length}
use Rattle.cell.specs.Cell.{arity}
use Rattle.term.specs.Terms.{Terms, none, more, front, back}

pub front-back : (k : ℕ) (xs : List ℕ) → front k xs ++ back k xs ≡ xs
unfolding front back
front-back k [] = refl
front-back zero (c ∷ xs) = refl
front-back (suc k) (c ∷ xs) = ap (λ (l : List ℕ). c ∷ l) (front-back (arity c + k) xs)

pub front-zero : (xs : List ℕ) → front 0 xs ≡ []
unfolding front
front-zero [] = refl
front-zero (c ∷ xs) = refl

pub back-zero : (xs : List ℕ) → back 0 xs ≡ xs
unfolding back
back-zero [] = refl
back-zero (c ∷ xs) = refl

pub front-++ : {k : ℕ} {xs : List ℕ} (zs : List ℕ) → Terms k xs → front k (xs ++ zs) ≡ xs
unfolding front
front-++ zs none = front-zero zs
front-++ zs (more {c} t) = ap (λ (l : List ℕ). c ∷ l) (front-++ zs t)

pub back-++ : {k : ℕ} {xs : List ℕ} (zs : List ℕ) → Terms k xs → back k (xs ++ zs) ≡ zs
unfolding back
back-++ zs none = back-zero zs
back-++ zs (more t) = back-++ zs t

pub Terms-++ : {m n : ℕ} {xs ys : List ℕ} → Terms m xs → Terms n ys → Terms (m + n) (xs ++ ys)
Terms-++ none u = rw zero-add u
Terms-++ (more t) u = rw suc-add (more (rw add_assoc at (Terms-++ t u)))

pub Terms-1 : {c : ℕ} {xs : List ℕ} {k : ℕ} → Terms (suc k) (c ∷ xs) → Terms (arity c + k) xs
Terms-1 (more t) = t

pub nil-zero : {k : ℕ} → Terms k [] → k ≡ 0
nil-zero none = refl

pub front-terms : (m n : ℕ) (xs : List ℕ) → Terms (m + n) xs → Terms m (front m xs)
unfolding front
front-terms m n [] t = let z = nil-zero t in let e : m ≡ 0 = omega arith in rw e none
front-terms zero n (c ∷ xs) t = none
front-terms (suc m) n (c ∷ xs) t = more (front-terms (arity c + m) n xs (rw add_assoc (Terms-1 (rw suc-add at t))))

pub back-terms : (m n : ℕ) (xs : List ℕ) → Terms (m + n) xs → Terms n (back m xs)
unfolding back
back-terms m n [] t = let z = nil-zero t in let e : n ≡ 0 = omega arith in rw e none
back-terms zero n (c ∷ xs) t = rw zero-add at t
back-terms (suc m) n (c ∷ xs) t = back-terms (arity c + m) n xs (rw add_assoc (Terms-1 (rw suc-add at t)))

-- no list of k terms is the start of another
pub prefix : {k : ℕ} {xs ys : List ℕ} (zs ws : List ℕ) → Terms k xs → Terms k ys → xs ++ zs ≡ ys ++ ws → (xs ≡ ys) × (zs ≡ ws)
prefix {k} zs ws t u e = (sym (front-++ zs t) ∙ ap (front k) e ∙ front-++ ws u, sym (back-++ zs t) ∙ ap (back k) e ∙ back-++ ws u)

-- a term has a cell
pub one_cell : {k : ℕ} {xs : List ℕ} → Terms (suc k) xs → (c : ℕ) × (ys : List ℕ) × (xs ≡ c ∷ ys) × Terms (arity c + k) ys
one_cell (more {c} {k} {xs} t) = (c, xs, refl, t)

pub zero-nil : {xs : List ℕ} → Terms 0 xs → xs ≡ []
zero-nil none = refl

-- a list of terms has at least as many cells
pub terms-long : {k : ℕ} {xs : List ℕ} → Terms k xs → k ≤ length xs
terms-long none = omega arith
terms-long (more t) = omega (arith, terms-long t)

-- the number of terms is the list's
pub Terms-number : {j k : ℕ} {xs : List ℕ} → Terms j xs → Terms k xs → j ≡ k
Terms-number none t = sym (nil-zero t)
Terms-number (more {c} {k} t) (more u) = let h = Terms-number t u in omega arith
