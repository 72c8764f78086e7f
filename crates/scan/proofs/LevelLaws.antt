-- Four counts in a byte: one that is stored is there, and the others are kept.
use Prim.Native.Nat.{ℕ, zero, suc, ◌+◌, ◌-◌, ◌*◌, ◌/◌, ◌%◌, ◌≤◌, ◌<◌}
use mathlib.Core.Path.{◌≡◌, refl, sym, ap, subst, ◌∙◌}
use mathlib.Core.Bool.{Bool, true, false}
use mathlib.Core.List.{List, ◌∷◌}
use native.Mathlib.Omega.{arith}
use lib.Dec.{eqb}
use lib.ListN.{length, get_or, set}
use lib.Seq.{get_or-set_same, get_or-set_other}
use borrow.Author.Tests.{eqb-true, eqb-false, eq-eqb, ne_eqb}
use Rattle.scan.specs.code.Levels.{weight_of, count_in, with_count, level_at, stored, levels_of}

-- the four places in a byte
data Four : ℕ → Type 0 where
  zeroth : Four 0
  first : Four 1
  second : Four 2
  third : Four 3

four : (r : ℕ) → r < 4 → Four r
four zero h = zeroth
four (suc zero) h = first
four (suc (suc zero)) h = second
four (suc (suc (suc zero))) h = third
four (suc (suc (suc (suc r)))) h = absurd (omega arith)

place : (level : ℕ) → Four (level % 4)
place level = four (level % 4) (omega arith)

count_same : {r : ℕ} (b v : ℕ) → Four r → v < 4 → count_in (weight_of r) (with_count (weight_of r) b v) ≡ v
unfolding weight_of
count_same b v zeroth h = omega arith
count_same b v first h = omega arith
count_same b v second h = omega arith
count_same b v third h = omega arith

count-other : {r s : ℕ} (b v : ℕ) → Four r → Four s → v < 4 → (r ≡ s → ⊥)
    → count_in (weight_of s) (with_count (weight_of r) b v) ≡ count_in (weight_of s) b
unfolding weight_of
count-other b v zeroth zeroth h n = absurd (n refl)
count-other b v zeroth first h n = omega arith
count-other b v zeroth second h n = omega arith
count-other b v zeroth third h n = omega arith
count-other b v first zeroth h n = omega arith
count-other b v first first h n = absurd (n refl)
count-other b v first second h n = omega arith
count-other b v first third h n = omega arith
count-other b v second zeroth h n = omega arith
count-other b v second first h n = omega arith
count-other b v second second h n = absurd (n refl)
count-other b v second third h n = omega arith
count-other b v third zeroth h n = omega arith
count-other b v third first h n = omega arith
count-other b v third second h n = omega arith
count-other b v third third h n = absurd (n refl)

-- and it is a byte
small_at : {r : ℕ} (b v : ℕ) → Four r → b < 256 → v < 4 → (count_in (weight_of r) b * weight_of r ≤ b) × (with_count (weight_of r) b v < 256)
unfolding weight_of
small_at b v zeroth h k = (omega arith, omega arith)
small_at b v first h k = (omega arith, omega arith)
small_at b v second h k = (omega arith, omega arith)
small_at b v third h k = (omega arith, omega arith)

small : (level b v : ℕ) → b < 256 → v < 4
    → (count_in (weight_of (level % 4)) b * weight_of (level % 4) ≤ b) × (with_count (weight_of (level % 4)) b v < 256)
small level b v = small_at b v (place level)

-- the weights, as the code tells them apart
pub weight-0 : (r : ℕ) → r ≡ 0 → 1 ≡ weight_of r
unfolding weight_of
weight-0 r e = rw (eq-eqb r 0 e)

pub weight-1 : (r : ℕ) → r ≡ 1 → 4 ≡ weight_of r
unfolding weight_of
weight-1 r e = rw (ne_eqb r 0 (λ z. omega arith), eq-eqb r 1 e)

pub weight-2 : (r : ℕ) → r ≡ 2 → 16 ≡ weight_of r
unfolding weight_of
weight-2 r e = rw (ne_eqb r 0 (λ z. omega arith), ne_eqb r 1 (λ z. omega arith), eq-eqb r 2 e)

pub weight-3 : (r : ℕ) → (r ≡ 0 → ⊥) → (r ≡ 1 → ⊥) → (r ≡ 2 → ⊥) → 64 ≡ weight_of r
unfolding weight_of
weight-3 r a b c = rw (ne_eqb r 0 a, ne_eqb r 1 b, ne_eqb r 2 c)

-- a store fits
pub put_small : (level byte v w : ℕ) → w ≡ weight_of (level % 4) → byte < 256 → v < 4
    → (byte / w % 4 * w ≤ byte) × (byte - byte / w % 4 * w + v * w < 256)
put_small level byte v w e h k =
    subst (λ (u : ℕ). (byte / u % 4 * u ≤ byte) × (byte - byte / u % 4 * u + v * u < 256)) (sym e) (small level byte v h k)

-- A STORE
level-stored : (dones : List ℕ) (level v : ℕ) → level / 4 < length dones → v < 4 → level_at (stored dones level v) level ≡ v
level-stored dones level v h k =
    let byte = get_or dones (level / 4) 0 in
    ap (count_in (weight_of (level % 4))) (get_or-set_same dones (level / 4) (with_count (weight_of (level % 4)) byte v) 0 h)
    ∙ count_same byte v (place level) k

level-kept : (dones : List ℕ) (level v other : ℕ) → level / 4 < length dones → v < 4 → other < level
    → level_at (stored dones level v) other ≡ level_at dones other
level-kept dones level v other h k l =
    by (get_or dones (level / 4) 0) (with_count (weight_of (level % 4)) (get_or dones (level / 4) 0) v) refl refl (eqb (level / 4) (other / 4)) refl
  where
    by : (byte put : ℕ) → byte ≡ get_or dones (level / 4) 0 → with_count (weight_of (level % 4)) byte v ≡ put → (b : Bool)
        → eqb (level / 4) (other / 4) ≡ b → count_in (weight_of (other % 4)) (get_or (set dones (level / 4) put) (other / 4) 0) ≡ level_at dones other
    by byte put e f true t =
        let q : level / 4 ≡ other / 4 = eqb-true (level / 4) (other / 4) t in
        let c = count_in (weight_of (other % 4)) in
        ap (λ (i : ℕ). c (get_or (set dones (level / 4) put) i 0)) (sym q)
        ∙ ap c (get_or-set_same dones (level / 4) put 0 h ∙ sym f)
        ∙ count-other byte v (place level) (place other) k (λ z. omega (arith, q, z, l))
        ∙ ap c (e ∙ ap (λ (i : ℕ). get_or dones i 0) q)
    by byte put e f false t =
        ap (count_in (weight_of (other % 4))) (get_or-set_other dones (level / 4) (other / 4) put 0 (λ q. eqb-false (level / 4) (other / 4) t (sym q)))

-- levels: those below a place are kept by a store there
levels-kept : (dones : List ℕ) (i v d : ℕ) → i / 4 < length dones → v < 4 → d ≤ i → levels_of (stored dones i v) d ≡ levels_of dones d
unfolding levels_of
levels-kept dones i v zero h k l = refl
levels-kept dones i v (suc d) h k l = rw (level-kept dones i v d h k (omega arith), levels-kept dones i v d h k (omega arith))

pub levels-set : (dones : List ℕ) (d v : ℕ) → d / 4 < length dones → v < 4 → levels_of (stored dones d v) (suc d) ≡ v ∷ levels_of dones d
unfolding levels_of
levels-set dones d v h k = rw (level-stored dones d v h k, levels-kept dones d v d h k (omega arith))
