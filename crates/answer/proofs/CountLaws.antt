-- How often a cell stands in a list; cells numbered one after another.
use Prim.Native.Nat.{ℕ, zero, suc, ◌+◌, ◌^◌, ◌≤◌, ◌<◌}
use mathlib.Core.Path.{◌≡◌, refl, sym, ◌∙◌}
use mathlib.Core.Logic.{◌≢◌, ◌⊎◌, inl, inr, ⊎_elim}
use mathlib.Core.Bool.{true, false}
use mathlib.Core.List.{List, [], ◌∷◌, ◌++◌, Memᴰ}
use native.Mathlib.Nat.{add-zero}
use native.Mathlib.Omega.{arith}
use lib.Dec.{eqb}
use lib.ListN.{get_or}
use borrow.Author.Tests.{eqb-true, eqb-false, ne_eqb}
use Rattle.cell.specs.Cell.{is_var}
use Rattle.cell.proofs.CellLaws.{var-small}
use Rattle.term.proofs.Tests.{bool_cases, eqb_same}
use Rattle.term.specs.code.Fresh.{Fresh, nil, cons}
use Rattle.table.specs.Table.{count, up_from}

pub count_same : (v : ℕ) (xs : List ℕ) → count v (v ∷ xs) ≡ suc (count v xs)
unfolding count
count_same v xs = rw (eqb_same v) (omega arith)

pub count-other : (v c : ℕ) (xs : List ℕ) → v ≢ c → count v (c ∷ xs) ≡ count v xs
unfolding count
count-other v c xs h = rw (ne_eqb v c h) (omega arith)

pub count-++ : (v : ℕ) (xs ys : List ℕ) → count v (xs ++ ys) ≡ count v xs + count v ys
unfolding count
count-++ v [] ys = omega arith
count-++ v (c ∷ xs) ys = let h = count-++ v xs ys in omega arith

pub count-mem : (v : ℕ) {xs : List ℕ} → Memᴰ v xs → 1 ≤ count v xs
unfolding count
count-mem v (mathlib.Core.List.Memᴰ.head {x} {xs} e) = rw (← e, eqb_same v) (omega arith)
count-mem v (mathlib.Core.List.Memᴰ.tail {x} {xs} m) = let h = count-mem v m in omega arith

pub mem-count : (v : ℕ) (xs : List ℕ) → 1 ≤ count v xs → Memᴰ v xs
unfolding count
mem-count v [] h = absurd (let z : ⊥ = omega arith in z)
mem-count v (c ∷ xs) h = go (bool_cases (eqb v c)) (mem-count v xs)
  where
    go : (eqb v c ≡ true) ⊎ (eqb v c ≡ false) → (1 ≤ count v xs → Memᴰ v xs) → Memᴰ v (c ∷ xs)
    go (inl e) f = mathlib.Core.List.Memᴰ.head (eqb-true v c e)
    go (inr e) f = mathlib.Core.List.Memᴰ.tail (f (let o = count-other v c xs (eqb-false v c e) in omega arith))

pub no-count : (v : ℕ) (xs : List ℕ) → ¬ Memᴰ v xs → count v xs ≡ 0
no-count v xs h = go (count v xs) refl
  where
    go : (k : ℕ) → count v xs ≡ k → count v xs ≡ 0
    go zero e = e
    go (suc j) e = absurd (h (mem-count v xs (omega arith)))

-- "uses each of its variables once"
pub record Linear (xs : List ℕ) : Type 0 where
  pub once : (v : ℕ) → is_var v ≡ true → count v xs ≤ 1

-- n, n + 1, and so on
pub up_mem : (n a x : ℕ) → Memᴰ x (up_from n a) → (n ≤ x) × (x < n + a)
unfolding up_from
up_mem n zero x m = absurd (mathlib.Core.List.Memᴰ.not-nil m)
up_mem n (suc a) x m =
    let below : Memᴰ x (up_from (suc n) a) → (suc n ≤ x) × (x < suc n + a) = up_mem (suc n) a x in
    ⊎_elim (λ p. omega arith) (λ q. let r = below q in omega arith) (mathlib.Core.List.Memᴰ.cases_cons m)

pub up-distinct : (n a : ℕ) → n + a ≤ 2 ^ 30 → Fresh a (up_from n a)
unfolding up_from
up-distinct n zero h = nil
up-distinct n (suc a) h = cons (var-small n (omega arith)) (λ m. let r = up_mem (suc n) a n m in omega arith) (up-distinct (suc n) a (omega arith))

pub up_at : (n a r : ℕ) → r < a → get_or (up_from n a) r 0 ≡ n + r
unfolding up_from
up_at n zero r h = absurd (let z : ⊥ = omega arith in z)
up_at n (suc a) zero h = sym (add-zero n)
up_at n (suc a) (suc r) h = up_at (suc n) a r (omega arith) ∙ omega arith

pub count-up : (v n a : ℕ) → count v (up_from n a) ≤ 1
unfolding up_from count
count-up v n zero = omega arith
count-up v n (suc a) = go (bool_cases (eqb v n)) (count-up v (suc n) a)
  where
    go : (eqb v n ≡ true) ⊎ (eqb v n ≡ false) → count v (up_from (suc n) a) ≤ 1 → count v (n ∷ up_from (suc n) a) ≤ 1
    go (inl e) h =
        let p = eqb-true v n e in
        let z = no-count v (up_from (suc n) a) (λ m. let q = up_mem (suc n) a v m in omega arith) in
        rw e (omega arith)
    go (inr e) h = rw e (omega arith)
