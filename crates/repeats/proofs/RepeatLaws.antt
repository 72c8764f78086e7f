-- The code's own steps (src/lib.rt).
use Prim.Native.Nat.{ℕ, ◌+◌, ◌≤◌, ◌<◌}
use mathlib.Core.Path.{◌≡◌, ◌∙◌}
use mathlib.Core.Logic.{by_cases}
use mathlib.Core.Bool.{cond}
use mathlib.Core.List.{List}
use native.Mathlib.Decide.{ℕ_discrete}
use native.Mathlib.Omega.{arith}
use lib.Dec.{ltb}
use lib.ListN.{length, get_or, set, length-set}
use lib.Seq.{get_or-set_same, get_or-set_other}
use borrow.Author.Tests.{lt-ltb, le-ltb}
use Rattle.alone.specs.code.Alone.{Symbols}

-- the symbols of the first r nodes
pub record SymbolsTo (n : ℕ) (bs us own : List ℕ) (r : ℕ) : Type 0 where
  pub size : length own ≡ 64
  pub size-bound : length bs ≡ 64
  pub size-until : length us ≡ 64
  pub few : r ≤ 64
  pub done : (q : ℕ) → q < r → get_or own q 0 ≡ cond (ltb n (get_or us q 0)) (get_or bs q 0) 0

pub symbols-next : {n : ℕ} {bs us own : List ℕ} {r : ℕ} (c : ℕ) → SymbolsTo n bs us own r → r < 64
    → c ≡ cond (ltb n (get_or us r 0)) (get_or bs r 0) 0 → SymbolsTo n bs us (set own r c) (r + 1)
symbols-next {own = own} {r} c S l e = record {
  size = length-set own r c ∙ S.size;
  size-bound = S.size-bound;
  size-until = S.size-until;
  few = omega arith;
  done = λ q h. by_cases (ℕ_discrete q r)
      (λ o. rw (o, get_or-set_same own r c 0 (omega (arith, S.size))) e)
      (λ o. get_or-set_other own r q c 0 o ∙ S.done q (omega (arith, o)));
}

pub symbols-all : {n : ℕ} {bs us own : List ℕ} {r : ℕ} → SymbolsTo n bs us own r → 64 ≤ r → Symbols n bs us own
symbols-all {n} {bs} {us} S l = record {
  size = S.size;
  bound = λ q h k. S.done q (omega arith) ∙ rw (lt-ltb n (get_or us q 0) k);
  unbound = λ q h k. S.done q (omega arith) ∙ rw (le-ltb n (get_or us q 0) k);
}
