-- The bad blocks one after another: sound ones are passed over, and the next that is not is one.
use Prim.Native.Nat.{ℕ, zero, suc, ◌+◌, ◌-◌, ◌*◌, ◌≤◌, ◌<◌}
use mathlib.Core.Path.{◌≡◌, refl, ◌∙◌, ap}
use mathlib.Core.Logic.{◌⊎◌, inl, inr}
use mathlib.Core.Bool.{true, false}
use mathlib.Core.List.{List, [], ◌∷◌}
use native.Mathlib.Omega.{arith}
use lib.Dec.{ltb}
use lib.ListN.{drop, length-take, length-drop}
use lib.Seq.{drop-drop}
use borrow.Author.Tests.{ltb-true, ltb-false}
use Rattle.term.proofs.Tests.{bool_cases}
use Rattle.octets.specs.Octets.{cells_of}
use Rattle.octets.proofs.CellsLaws.{cells_count}
use Rattle.blocks.specs.Blocks.{sound, whole, good, block_at}
use Rattle.blocks.proofs.BlockLaws.{sound-parts}
use Rattle.blocks.proofs.LookLaws.{good-next, good-ends, good_none}
use Rattle.salvaging.specs.Salvage.{bad_from, blocks_in, bad_at, bad_in}

pub bad-all : (f : List ℕ) → bad_at f 0 ≡ bad_in f
bad-all f = let z : blocks_in f - 0 ≡ blocks_in f = omega arith in rw z

after : (f : List ℕ) (i : ℕ) → i < blocks_in f → (blocks_in f - i ≡ suc (blocks_in f - (i + 1)))
    × (drop 128 (drop (128 * i) (cells_of f)) ≡ drop (128 * (i + 1)) (cells_of f))
after f i h =
    let e : 128 * i + 128 ≡ 128 * (i + 1) = omega arith in
    (omega arith, drop-drop 128 (128 * i) (cells_of f) ∙ ap (λ (k : ℕ). drop k (cells_of f)) e)

pub bad-passed : (f : List ℕ) (i : ℕ) → i < blocks_in f → sound i (block_at f i) ≡ true → bad_at f i ≡ bad_at f (i + 1)
unfolding bad_from
bad-passed f i h s = let a = after f i h in let n : i + 1 ≡ suc i = omega arith in rw (a.0, a.1, s, n) refl

pub bad-here : (f : List ℕ) (i : ℕ) → i < blocks_in f → sound i (block_at f i) ≡ false → bad_at f i ≡ i ∷ bad_at f (i + 1)
unfolding bad_from
bad-here f i h s = let a = after f i h in let n : i + 1 ≡ suc i = omega arith in rw (a.0, a.1, s, n) refl

pub bad-none : (f : List ℕ) (i : ℕ) → blocks_in f ≤ i → bad_at f i ≡ []
unfolding bad_from
bad-none f i h = let z : blocks_in f - i ≡ 0 = omega arith in rw z

-- a part of a block is bad
part-bad : (f : List ℕ) (i : ℕ) → whole f ≤ i → sound i (block_at f i) ≡ false
part-bad f i h = go (bool_cases (sound i (block_at f i)))
  where
    go : (sound i (block_at f i) ≡ true) ⊎ (sound i (block_at f i) ≡ false) → sound i (block_at f i) ≡ false
    go (inr t) = t
    go (inl t) =
        let s = sound-parts i (block_at f i) t in
        absurd (omega (arith, s.size, length-take 128 (drop (128 * i) (cells_of f)), length-drop (128 * i) (cells_of f), cells_count f))

-- from a block on, the sound ones that come first
pub record Skipped (f : List ℕ) (i : ℕ) : Type 0 where
  pub within : i + good f i ≤ blocks_in f
  pub same : bad_at f i ≡ bad_at f (i + good f i)
  pub stop : i + good f i < blocks_in f → sound (i + good f i) (block_at f (i + good f i)) ≡ false

none-skipped : (f : List ℕ) (i : ℕ) → i ≤ blocks_in f → good f i ≡ 0 → sound i (block_at f i) ≡ false → Skipped f i
none-skipped f i l z s = let e : i + good f i ≡ i = omega (arith, z) in record { within = rw e l; same = rw e refl; stop = rw e (λ x. s) }

one-skipped : (f : List ℕ) (i : ℕ) → i < blocks_in f → good f i ≡ 1 + good f (i + 1) → sound i (block_at f i) ≡ true → Skipped f (i + 1) → Skipped f i
one-skipped f i l g s k =
    let e : i + good f i ≡ i + 1 + good f (i + 1) = omega (arith, g) in
    record { within = rw e k.within; same = bad-passed f i l s ∙ rw e k.same; stop = rw e k.stop }

pub bad-skip : (fuel : ℕ) (f : List ℕ) (i : ℕ) → blocks_in f ≤ i + fuel → i ≤ blocks_in f → Skipped f i
bad-skip zero f i h l =
    let w : whole f ≤ i = omega arith in none-skipped f i l (good_none f i w).0 (part-bad f i w)
bad-skip (suc fuel) f i h l = go (λ x. bad-skip fuel f (i + 1) (omega arith) x) (bool_cases (ltb i (whole f))) (bool_cases (sound i (block_at f i)))
  where
    go : (i + 1 ≤ blocks_in f → Skipped f (i + 1)) → (ltb i (whole f) ≡ true) ⊎ (ltb i (whole f) ≡ false)
        → (sound i (block_at f i) ≡ true) ⊎ (sound i (block_at f i) ≡ false) → Skipped f i
    go r (inr w) b = let x = ltb-false i (whole f) w in none-skipped f i l (good_none f i x).0 (part-bad f i x)
    go r (inl w) (inr t) = none-skipped f i l (good-ends f i (ltb-true i (whole f) w) t).0 t
    go r (inl w) (inl t) =
        let x : i < whole f = ltb-true i (whole f) w in
        one-skipped f i (omega arith) (good-next f i x t).0 t (r (omega arith))
