-- W-212's "each bad block" (specs/Salvage, `BadBlocks`) and the list that crate salvaging defines: that it is one, and the only one.
use Prim.Native.Nat.{ℕ, zero, suc, ◌+◌, ◌-◌, ◌≤◌, ◌<◌}
use mathlib.Core.Path.{◌≡◌, refl, sym, ◌∙◌, ap, subst}
use mathlib.Core.Logic.{◌↔◌, ◌⊎◌, inl, inr, ⊎_elim}
use mathlib.Core.Bool.{true, false}
use mathlib.Core.List.Memᴰ
use mathlib.Core.List.{List, ◌∷◌, Memᴰ}
use native.Mathlib.Omega.{arith}
use lib.Dec.{ltb}
use lib.ListN.{length}
use borrow.Author.Tests.{ltb-true, ltb-false}
use Rattle.term.proofs.Tests.{bool_cases}
use Rattle.table.proofs.ReadLaws.{not-both}
use Rattle.answer.specs.Run.{Ascends, done, more_of}
use Rattle.blocks.specs.Blocks.{sound, block_at}
use Rattle.salvaging.specs.Salvage.{blocks_in, bad_at, bad_in}
use Rattle.salvaging.proofs.BadLaws.{bad-all, bad-passed, bad-here, bad-none}
use Rattle.demands.specs.Salvage.{SoundBlock, BadBlocks}
use Rattle.demands.proofs.SalvageSteps.{sound-block, block-sound}

-- those from a block on
record Lists (f : List ℕ) (i : ℕ) (numbers : List ℕ) : Type 0 where
  ascends : Ascends i numbers
  exactly : (k : ℕ) → Memᴰ k numbers ↔ ((i ≤ k) × (k < blocks_in f) × (SoundBlock f k → ⊥))
  few : length numbers ≤ blocks_in f - i

ascends-down : {i : ℕ} {xs : List ℕ} → Ascends (i + 1) xs → Ascends i xs
ascends-down done = done
ascends-down {i} (more_of {x = x} l a) = let z : i ≤ x = omega arith in more_of z a

-- the number i is in question, or one after it
later : (i k : ℕ) → i ≤ k → (k ≡ i) ⊎ (i + 1 ≤ k)
later i k l = go (bool_cases (ltb i k))
  where
    go : (ltb i k ≡ true) ⊎ (ltb i k ≡ false) → (k ≡ i) ⊎ (i + 1 ≤ k)
    go (inl t) = inr (omega (arith, ltb-true i k t))
    go (inr t) = inl (omega (arith, ltb-false i k t))

module _ (f : List ℕ) (i : ℕ) where
  lists-none : blocks_in f ≤ i → Lists f i (bad_at f i)
  lists-none h =
      rw (bad-none f i h) (record {
        ascends = done;
        exactly = λ k. (λ m. absurd (Memᴰ.not-nil m), λ x. absurd (let z : ⊥ = omega (arith, h, x.0, x.1) in z));
        few = omega arith;
      })

  lists-passed : i < blocks_in f → sound i (block_at f i) ≡ true → Lists f (i + 1) (bad_at f (i + 1)) → Lists f i (bad_at f i)
  lists-passed h s r =
      rw (bad-passed f i h s) (record {
        ascends = ascends-down r.ascends;
        exactly = λ k. (λ m. (let x = (r.exactly k).0 m in (omega (arith, x.0), x.1, x.2)), λ x. (r.exactly k).1 (after k x, x.1, x.2));
        few = omega (arith, r.few);
      })
    where
      after : (k : ℕ) → (i ≤ k) × (k < blocks_in f) × (SoundBlock f k → ⊥) → i + 1 ≤ k
      after k x = ⊎_elim (λ e. absurd (x.2 (subst (SoundBlock f) (sym e) (sound-block f i s)))) (λ l. l) (later i k x.0)

  lists-here : i < blocks_in f → sound i (block_at f i) ≡ false → Lists f (i + 1) (bad_at f (i + 1)) → Lists f i (bad_at f i)
  lists-here h s r =
      let z : i ≤ i = omega arith in
      let n : i + 1 ≡ suc i = omega arith in
      let a : Ascends (suc i) (bad_at f (i + 1)) = subst (λ (k : ℕ). Ascends k (bad_at f (i + 1))) n r.ascends in
      rw (bad-here f i h s) (record {
        ascends = more_of z a;
        exactly = λ k. (there k, back k);
        few = omega (arith, r.few);
      })
    where
      there : (k : ℕ) → Memᴰ k (i ∷ bad_at f (i + 1)) → (i ≤ k) × (k < blocks_in f) × (SoundBlock f k → ⊥)
      there k m =
          ⊎_elim (λ e. (omega (arith, e), omega (arith, e, h), λ x. not-both (block-sound f i (subst (SoundBlock f) e x)) s))
          (λ q. (let x = (r.exactly k).0 q in (omega (arith, x.0), x.1, x.2))) (Memᴰ.cases_cons m)

      back : (k : ℕ) → (i ≤ k) × (k < blocks_in f) × (SoundBlock f k → ⊥) → Memᴰ k (i ∷ bad_at f (i + 1))
      back k x = ⊎_elim (λ e. Memᴰ.head e) (λ l. Memᴰ.tail ((r.exactly k).1 (l, x.1, x.2))) (later i k x.0)

bad-lists : (fuel : ℕ) (f : List ℕ) (i : ℕ) → blocks_in f ≤ i + fuel → Lists f i (bad_at f i)
bad-lists zero f i h = lists-none f i (omega arith)
bad-lists (suc fuel) f i h = go (bad-lists fuel f (i + 1) (omega arith)) (bool_cases (ltb i (blocks_in f))) (bool_cases (sound i (block_at f i)))
  where
    go : Lists f (i + 1) (bad_at f (i + 1)) → (ltb i (blocks_in f) ≡ true) ⊎ (ltb i (blocks_in f) ≡ false)
        → (sound i (block_at f i) ≡ true) ⊎ (sound i (block_at f i) ≡ false) → Lists f i (bad_at f i)
    go r (inl t) (inl s) = lists-passed f i (ltb-true i (blocks_in f) t) s r
    go r (inl t) (inr s) = lists-here f i (ltb-true i (blocks_in f) t) s r
    go r (inr t) s = lists-none f i (ltb-false i (blocks_in f) t)

pub bad-blocks : (f : List ℕ) → BadBlocks f (bad_in f)
bad-blocks f =
    let r = rw (bad-all f) at (bad-lists (blocks_in f) f 0 (omega arith)) in
    record { ascends = r.ascends; exactly = λ k. (λ m. (let x = (r.exactly k).0 m in (x.1, x.2)), λ x. (r.exactly k).1 (omega arith, x.0, x.1)) }

-- fewer than there are blocks, where the first is sound
pub bad-few : (f : List ℕ) → SoundBlock f 0 → length (bad_in f) ≤ blocks_in f - 1
bad-few f s =
    let l : 0 < blocks_in f = (let t = s.there in omega arith) in
    let e = sym (bad-all f) ∙ bad-passed f 0 l (block-sound f 0 s) in
    omega (arith, ap length e, (bad-lists (blocks_in f) f (0 + 1) (omega arith)).few)

-- two lists that ascend and have the same numbers are one
ascends-low : {i k : ℕ} {xs : List ℕ} → Ascends i xs → Memᴰ k xs → i ≤ k
ascends-low done m = absurd (Memᴰ.not-nil m)
ascends-low {i} {k} (more_of {x = x} l a) m =
    ⊎_elim (λ (e : k ≡ x). let z : i ≤ k = omega arith in z) (λ q. let z : i ≤ k = omega (arith, ascends-low a q) in z) (Memᴰ.cases_cons m)

pub ascends-one : {i : ℕ} {xs ys : List ℕ} → Ascends i xs → Ascends i ys → ((k : ℕ) → Memᴰ k xs → Memᴰ k ys)
    → ((k : ℕ) → Memᴰ k ys → Memᴰ k xs) → xs ≡ ys
ascends-one done done p q = refl
ascends-one done (more_of {x = y} l b) p q = absurd (Memᴰ.not-nil (q y (Memᴰ.head refl)))
ascends-one (more_of {x = x} l a) done p q = absurd (Memᴰ.not-nil (p x (Memᴰ.head refl)))
ascends-one (more_of {x = x} {xs = xs} l a) (more_of {x = y} {xs = ys} m b) p q =
    let e : x ≡ y = heads (Memᴰ.cases_cons (p x (Memᴰ.head refl))) (Memᴰ.cases_cons (q y (Memᴰ.head refl))) in
    let b' : Ascends (suc x) ys = rw e b in
    let t : xs ≡ ys = ascends-one a b' (λ k i. rest e k i) (λ k i. rest' e k i) in
    rw (e, t)
  where
    heads : (x ≡ y) ⊎ Memᴰ x ys → (y ≡ x) ⊎ Memᴰ y xs → x ≡ y
    heads (inl e) d = e
    heads (inr i) (inl e) = sym e
    heads (inr i) (inr j) = absurd (omega (arith, ascends-low b i, ascends-low a j))

    rest : x ≡ y → (k : ℕ) → Memᴰ k xs → Memᴰ k ys
    rest e k i =
        ⊎_elim (λ (d : k ≡ y). absurd (let z : ⊥ = omega (arith, ascends-low a i) in z)) (λ j. j) (Memᴰ.cases_cons (p k (Memᴰ.tail i)))

    rest' : x ≡ y → (k : ℕ) → Memᴰ k ys → Memᴰ k xs
    rest' e k i =
        ⊎_elim (λ (d : k ≡ x). absurd (let z : ⊥ = omega (arith, ascends-low b i) in z)) (λ j. j) (Memᴰ.cases_cons (q k (Memᴰ.tail i)))

pub bad-one : (f : List ℕ) (numbers : List ℕ) → BadBlocks f numbers → numbers ≡ bad_in f
bad-one f numbers x =
    let b = bad-blocks f in
    ascends-one x.ascends b.ascends (λ k m. (b.exactly k).1 ((x.exactly k).0 m)) (λ k m. (x.exactly k).1 ((b.exactly k).0 m))
