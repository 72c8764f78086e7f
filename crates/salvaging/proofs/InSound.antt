-- 02, W-212, "every plan cell is in a sound block": the one comparison that is made says it, where the plan has any cell.
use Prim.Native.Nat.{ℕ, zero, suc, ◌+◌, ◌-◌, ◌*◌, ◌/◌, ◌%◌, ◌≤◌, ◌<◌}
use mathlib.Core.Path.{◌≡◌, subst}
use mathlib.Core.Logic.{◌⊎◌, inl, inr, ◌↔◌}
use mathlib.Core.Bool.{true, false}
use mathlib.Core.List.{List}
use native.Mathlib.Omega.{arith}
use lib.Dec.{ltb}
use lib.ListN.{length, drop, length-take, length-drop}
use borrow.Author.Tests.{ltb-true, ltb-false, leb-true, le-leb}
use Rattle.term.proofs.Tests.{bool_cases}
use Rattle.octets.specs.Octets.{cells_of}
use Rattle.octets.proofs.CellsLaws.{cells_count}
use Rattle.blocks.specs.Blocks.{sound, whole, good, block_at}
use Rattle.blocks.proofs.BlockLaws.{sound-parts, cells-size}
use Rattle.blocks.proofs.LookLaws.{good-next, good-ends, good_none}
use Rattle.filing.specs.Files.{plan_size}
use Rattle.salvaging.specs.Salvage.{front, plan_start, plan_run, in_sound}

abbrev pub SoundAt : List ℕ → ℕ → Type 0
SoundAt f i = sound i (block_at f i) ≡ true

-- a sound block is whole
pub sound-whole : (f : List ℕ) (i : ℕ) → SoundAt f i → i < whole f
sound-whole f i t =
    let s = sound-parts i (block_at f i) t in
    let l = length-take 128 (drop (128 * i) (cells_of f)) in
    let d = length-drop (128 * i) (cells_of f) in
    let w : 128 ≤ length (cells_of f) - 128 * i = omega (arith, s.size, l, d) in
    omega (arith, w, cells_count f)

-- a block that begins a run is sound
pub run-first : (f : List ℕ) (i : ℕ) → 0 < good f i → SoundAt f i × (good f i ≡ 1 + good f (i + 1))
run-first f i h = go (bool_cases (ltb i (whole f))) (bool_cases (sound i (block_at f i)))
  where
    go : (ltb i (whole f) ≡ true) ⊎ (ltb i (whole f) ≡ false) → (sound i (block_at f i) ≡ true) ⊎ (sound i (block_at f i) ≡ false)
        → SoundAt f i × (good f i ≡ 1 + good f (i + 1))
    go (inl w) (inl t) = (t, (good-next f i (ltb-true i (whole f) w) t).0)
    go (inl w) (inr t) = absurd (omega (arith, (good-ends f i (ltb-true i (whole f) w) t).0))
    go (inr w) b = absurd (omega (arith, (good_none f i (ltb-false i (whole f) w)).0))

-- and so is each of the run
run_sound : (d : ℕ) (f : List ℕ) (i k : ℕ) → k ≡ i + d → d < good f i → SoundAt f k
run_sound zero f i k e h = let z : k ≡ i = omega arith in rw z (run-first f i h).0
run_sound (suc d) f i k e h =
    let r = run-first f i (omega arith) in
    run_sound d f (i + 1) k (omega arith) (omega (arith, r.1))

-- blocks that are sound one after another are a run
sound-run : (n : ℕ) (f : List ℕ) (i : ℕ) → ((k : ℕ) → i ≤ k → k < i + n → SoundAt f k) → n ≤ good f i
sound-run zero f i h = omega arith
sound-run (suc n) f i h =
    let t = h i (omega arith) (omega arith) in
    let g = good-next f i (sound-whole f i t) t in
    let r = sound-run n f (i + 1) (λ k a b. h k (omega arith) (omega arith)) in
    omega (arith, r, g.0)

pub in-sound : (f : List ℕ) → 0 < plan_size (front f)
    → (in_sound f ≡ true) ↔ ((j : ℕ) → plan_start f ≤ j → j < plan_start f + plan_size (front f) → sound (j / 125) (block_at f (j / 125)) ≡ true)
in-sound f some = (there, back)
  where
    there : in_sound f ≡ true → (j : ℕ) → plan_start f ≤ j → j < plan_start f + plan_size (front f) → sound (j / 125) (block_at f (j / 125)) ≡ true
    there e j a b =
        let l = leb-true (plan_start f % 125 + plan_size (front f)) (length (plan_run f)) e in
        let s = cells-size (whole f - plan_start f / 125) (plan_start f / 125) (drop (128 * (plan_start f / 125)) (cells_of f)) in
        run_sound (j / 125 - plan_start f / 125) f (plan_start f / 125) (j / 125) (omega arith) (omega (arith, l, s))

    back : ((j : ℕ) → plan_start f ≤ j → j < plan_start f + plan_size (front f) → sound (j / 125) (block_at f (j / 125)) ≡ true) → in_sound f ≡ true
    back h =
        let b = plan_start f / 125 in
        let end = plan_start f + plan_size (front f) - 1 in
        let n = end / 125 + 1 - b in
        let each : (k : ℕ) → b ≤ k → k < b + n → SoundAt f k = each-block h in
        let r = sound-run n f b each in
        let s = cells-size (whole f - b) b (drop (128 * b) (cells_of f)) in
        le-leb (plan_start f % 125 + plan_size (front f)) (length (plan_run f)) (omega (arith, r, s))
      where
        each-block : ((j : ℕ) → plan_start f ≤ j → j < plan_start f + plan_size (front f) → sound (j / 125) (block_at f (j / 125)) ≡ true)
            → (k : ℕ) → plan_start f / 125 ≤ k → k < plan_start f / 125 + ((plan_start f + plan_size (front f) - 1) / 125 + 1 - plan_start f / 125)
            → SoundAt f k
        each-block h k a c = pick (bool_cases (ltb (125 * k) (plan_start f)))
          where
            pick : (ltb (125 * k) (plan_start f) ≡ true) ⊎ (ltb (125 * k) (plan_start f) ≡ false) → SoundAt f k
            pick (inl t) =
                let z : plan_start f / 125 ≡ k = omega (arith, ltb-true (125 * k) (plan_start f) t) in
                subst (SoundAt f) z (h (plan_start f) (omega arith) (omega arith))
            pick (inr t) =
                let z : 125 * k / 125 ≡ k = omega arith in
                subst (SoundAt f) z (h (125 * k) (ltb-false (125 * k) (plan_start f) t) (omega arith))
