-- The bad blocks listed one after another: what is counted and put so far, and what is left, are all of them.
use Prim.Native.Nat.{ℕ, ◌+◌, ◌≤◌, ◌<◌}
use mathlib.Core.Path.{◌≡◌, sym, ◌∙◌, ap}
use mathlib.Core.Logic.{◌⊎◌, inl, inr}
use mathlib.Core.Bool.{true, false}
use mathlib.Core.List.{List, [], ◌∷◌}
use native.Mathlib.Omega.{arith}
use lib.Dec.{ltb}
use lib.ListN.{length}
use borrow.Author.Tests.{lt-ltb, le-ltb, ltb-true, ltb-false}
use Rattle.term.proofs.Tests.{bool_cases}
use Rattle.octets.specs.Octets.{Put}
use Rattle.octets.proofs.PutLaws.{Putting, put-begins, put-part, put-ends}
use Rattle.blocks.specs.Blocks.{good}
use Rattle.salvaging.specs.Salvage.{blocks_in, bad_at, bad_in}
use Rattle.salvaging.proofs.BadLaws.{bad-all, bad-here, bad-none, Skipped, bad-skip}
use Rattle.mending.specs.Mending.{bad_on, NumbersListed}

on-next : (f : List ℕ) (i : ℕ) → i < blocks_in f → bad_on f i ≡ i ∷ bad_at f (i + 1)
on-next f i h = rw (lt-ltb i (blocks_in f) h)

on_none : (f : List ℕ) (i : ℕ) → blocks_in f ≤ i → bad_on f i ≡ []
on_none f i h = rw (le-ltb i (blocks_in f) h)

-- from any block on, the sound ones that come first are passed over
pub bad-on : (f : List ℕ) (i : ℕ) → i ≤ blocks_in f → (i + good f i ≤ blocks_in f) × (bad_at f i ≡ bad_on f (i + good f i))
bad-on f i h = go (bad-skip (blocks_in f) f i (omega arith) h) (bool_cases (ltb (i + good f i) (blocks_in f)))
  where
    go : Skipped f i → (ltb (i + good f i) (blocks_in f) ≡ true) ⊎ (ltb (i + good f i) (blocks_in f) ≡ false)
        → (i + good f i ≤ blocks_in f) × (bad_at f i ≡ bad_on f (i + good f i))
    go s (inl t) =
        let l : i + good f i < blocks_in f = ltb-true (i + good f i) (blocks_in f) t in
        (s.within, s.same ∙ bad-here f (i + good f i) l (s.stop l) ∙ sym (on-next f (i + good f i) l))
    go s (inr t) =
        let l : blocks_in f ≤ i + good f i = ltb-false (i + good f i) (blocks_in f) t in
        (s.within, s.same ∙ bad-none f (i + good f i) l ∙ sym (on_none f (i + good f i) l))

-- so all of them come after the sound ones at the front
pub bad-from-front : (f : List ℕ) → bad_on f (good f 0) ≡ bad_in f
bad-from-front f = let z : 0 + good f 0 ≡ good f 0 = omega arith in ap (bad_on f) (sym z) ∙ sym (bad-on f 0 (omega arith)).1 ∙ bad-all f

pub record Listing (f : List ℕ) (from : ℕ) (room room' : List ℕ) (on n i : ℕ) : Type 0 where
  pub less : n ≤ i
  pub many : n + length (bad_on f i) ≡ length (bad_on f from)
  pub puts : Putting room room' 0 on (bad_on f i) (bad_on f from)

pub list-begins : (f room : List ℕ) (from : ℕ) → Listing f from room room 0 0 from
list-begins f room from = record { less = omega arith; many = omega arith; puts = put-begins }

pub list-next : {f room a b : List ℕ} {from on on' n i j : ℕ} → Listing f from room a on n i → i < blocks_in f → Put a b on (i ∷ []) on'
    → j ≡ i + 1 + good f (i + 1) → Listing f from room b on' (n + 1) j
list-next {f} {i = i} {j = j} l h p e =
    let s = bad-on f (i + 1) (omega arith) in
    let x : bad_on f i ≡ i ∷ bad_on f (i + 1 + good f (i + 1)) = on-next f i h ∙ ap (λ (r : List ℕ). i ∷ r) s.1 in
    record {
      less = omega (arith, e, l.less);
      many = rw e (omega (arith, l.many, ap length x));
      puts = rw e (put-part {xs = i ∷ []} (rw x at l.puts) p);
    }

pub list-ends : {f room a : List ℕ} {from on n i : ℕ} → Listing f from room a on n i → blocks_in f ≤ i → NumbersListed (bad_on f from) room a n
list-ends {f} {i = i} l h =
    let z = on_none f i h in
    record { many = omega (arith, l.many, ap length z); put = (put-ends (rw z at l.puts)).wrote }

pub list-bound : (f : List ℕ) (i : ℕ) → i < blocks_in f → i + 1 + good f (i + 1) ≤ blocks_in f
list-bound f i h = (bad-on f (i + 1) (omega arith)).0
