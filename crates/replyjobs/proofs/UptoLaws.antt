-- The loop over a list of records, turn by turn: after as many turns as there are records, each is made anew.
use Rattle.std.specs.Prelude.{Result}
use Rattle.instance.specs.declared.ReplyCounts.{ReplyCounts}
use Rattle.refusal.specs.declared.Refusal.{Refusal}
use mathlib.Core.Path.{◌≡◌, ap}
use Prim.Native.Nat.{ℕ, suc, ◌+◌, ◌≤◌, ◌<◌}
use native.Mathlib.Omega.{arith}
use mathlib.Core.List.{List, [], ◌∷◌, flatten}
use lib.ListN.{length, get_or, set, length-drop}
use Rattle.refusal.specs.Refusal.{answered}
use Rattle.instance.specs.Replied.{Replied, replies_told, refusal, big, no_room, replied}
use Rattle.instance.specs.ReplyJobs.{ReplyAsked, RepliesEach, nil, cons}
use Rattle.instance.specs.ReplyJobs as asks
use Rattle.instance.specs.declared.ReplyJob.{ReplyJob}
use Rattle.replyjobs.specs.code.Upto.{RepliedUpto, rest, made}

-- what is answered has room
size_fits : {t p g room after : List ℕ} {r : Result ReplyCounts Refusal} {many size : ℕ} → Replied t p g room after r → replies_told r ≡ answered many size
    → size ≤ length room
size_fits (refusal f a b c) e = absurd (let z : ◌≡◌ {A = ℕ} 0 1 = cc in let y : ⊥ = omega arith in y)
size_fits (big T all a w l b c) e = absurd (let z : ◌≡◌ {A = ℕ} 0 1 = cc in let y : ⊥ = omega arith in y)
size_fits (no_room T all a w s l b c) e = absurd (let z : ◌≡◌ {A = ℕ} 0 1 = cc in let y : ⊥ = omega arith in y)
size_fits {size = size} (replied T all a w s l b c) e = let q : size ≡ length (flatten all) = cc in omega (arith, l, q)

-- the next goal's replies begin in the room
pub next-within : {t p cells : List ℕ} {on : ℕ} {room room' : List ℕ} {j k : ReplyJob} → on ≤ length room → ReplyAsked t p cells on room room' j k
    → on + k.cells ≤ length room
next-within l (asks.outside h e c) = omega (arith, l, ap (λ (x : ReplyJob). x.cells) e)
next-within l (asks.refused f after r h x d e c) = omega (arith, l, ap (λ (x : ReplyJob). x.cells) e)
next-within {on = on} {room} l (asks.replied many size hits tried after bytes r h x d y e c) =
    omega (arith, l, ap (λ (x : ReplyJob). x.cells) e, size_fits x d, length-drop on room)

module _ {t p cells : List ℕ} where
  pub upto-more : {i from on : ℕ} {room room' room'' : List ℕ} {js ks : List ReplyJob} (d k : ReplyJob) → RepliedUpto t p cells i from on room room' js ks
      → i < length js → ReplyAsked t p cells on room' room'' (get_or ks i d) k → RepliedUpto t p cells (suc i) from (on + k.cells) room room'' js (set ks i k)
  upto-more {js = []} d k rest l a = absurd (omega arith)
  upto-more {js = j ∷ js} d k rest l a = made a rest
  upto-more d k (made b u) l a = made b (upto-more d k u (omega arith) a)

  pub upto_all : {i from on : ℕ} {room room' : List ℕ} {js ks : List ReplyJob} → RepliedUpto t p cells i from on room room' js ks → i ≡ length js
      → RepliesEach t p cells from room room' js ks
  upto_all {js = []} rest e = nil
  upto_all {js = j ∷ js} rest e = absurd (omega arith)
  upto_all (made a u) e = cons a (upto_all u (omega arith))
