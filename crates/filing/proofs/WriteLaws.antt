-- Writing, in the code's steps: the stream laid out in a list of zeros, its blocks put.
use Prim.Native.Nat.{ℕ, zero, suc, ◌+◌, ◌-◌, ◌*◌, ◌≤◌, ◌<◌}
use mathlib.Core.Path.{◌≡◌, refl, sym, ◌∙◌, ap}
use mathlib.Core.List.{List, ◌++◌, append_assoc}
use native.Mathlib.Omega.{arith}
use lib.ListN.{length, take, drop, replicate, length-append, length-replicate, length-drop, replicate-append-replicate}
use lib.Seq.{take-append-le, drop-append-le}
use Rattle.refusal.specs.Read.{read}
use Rattle.refusal.specs.Refusal.{Answer, answered}
use Rattle.term.proofs.Lists.{sets-replicate}
use Rattle.plan.specs.Check.{plan_of}
use Rattle.octets.specs.Octets.{Put, bytes_of}
use Rattle.octets.proofs.PutLaws.{put-length, put_whole, put_front}
use Rattle.octets.proofs.BytesLaws.{bytes_count}
use Rattle.blocks.specs.Blocks.{blocks_from}
use Rattle.blocks.proofs.BlockLaws.{blocks-length}
use Rattle.filing.specs.Files.{stream, needed, filled_up, words_for, file_of, no_room, FileWritten, room-short, written}
use Rattle.filing.proofs.FileLaws.{filled-size}
use Rattle.limits.specs.Limits.{most_plan_cells, most_table_cells}

-- blocks do not depend on cells after their own
pub blocks-front : (k n : ℕ) (xs ys : List ℕ) → length xs ≡ 125 * k → blocks_from n k (xs ++ ys) ≡ blocks_from n k xs
unfolding blocks_from
blocks-front zero n xs ys h = refl
blocks-front (suc k) n xs ys h =
    let a : take 125 (xs ++ ys) ≡ take 125 xs = take-append-le 125 xs ys (omega arith) in
    let b : drop 125 (xs ++ ys) ≡ drop 125 xs ++ ys = drop-append-le 125 xs ys (omega arith) in
    let c = blocks-front k (suc n) (drop 125 xs) ys (omega (arith, length-drop 125 xs)) in
    rw (a, b, c)

-- so zeros to the end of a longer list are as good as those to the end of the last block
laid-blocks : (s : List ℕ) (m : ℕ) → length s ≤ m → 125 * needed (length s) ≤ m
    → blocks_from 0 (needed (length s)) (s ++ replicate (m - length s) 0) ≡ words_for s
laid-blocks s m h l =
    let k = needed (length s) in
    let a = 125 * k - length s in
    let b = m - 125 * k in
    let e : m - length s ≡ a + b = omega arith in
    let z : s ++ replicate (m - length s) 0 ≡ filled_up s ++ replicate b 0 =
    ap (λ (j : ℕ). s ++ replicate j 0) e ∙ ap (λ (l : List ℕ). s ++ l) (sym (replicate-append-replicate {A = ℕ} a b 0))
    ∙ sym (append_assoc s (replicate a 0) (replicate b 0)) in
    ap (blocks_from 0 k) z ∙ blocks-front k 0 (filled_up s) (replicate b 0) (filled-size s)

module _ (t p : List ℕ) (short : (length t ≤ most_table_cells) × (length p ≤ most_plan_cells)) where
  pub stream-size : length (stream t p) ≡ 2 + (length t + length p)
  stream-size = omega (arith, length-append t p)

  pub file-size : length (file_of t p) ≡ 512 * needed (length (stream t p))
  file-size =
      let s = stream t p in
      omega (arith, bytes_count (words_for s), blocks-length (needed (length s)) 0 (filled_up s) (filled-size s))

  -- no file has more than 66 blocks
  pub file-few : (needed (length (stream t p)) ≤ 66) × (length (file_of t p) ≤ 33792)
  file-few = let n : needed (length (stream t p)) ≤ 66 = omega (arith, stream-size) in (n, omega (arith, file-size, n))

  -- the stream laid out in 8,250 zeros: how many cells it has, what the list then is, and that this is room enough
  pub laid : {old new : List ℕ} {n : ℕ} → old ≡ replicate 8250 0 → Put old new 0 (stream t p) n
      → (n ≡ length (stream t p)) × (new ≡ stream t p ++ replicate (8250 - length (stream t p)) 0) × (n ≤ 8134) × (length new ≡ 8250)
  laid {old} {new} {n} e w =
      let s = stream t p in
      let q : Put (replicate 8250 0) new 0 s n = rw e at w in
      let z = length-replicate {A = ℕ} 8250 0 in
      let f = put_whole q (omega (arith, stream-size, z)) in (
        omega (arith, f.0),
        f.1 ∙ sets-replicate 8250 0 s (omega (arith, stream-size)),
        omega (arith, f.0, stream-size),
        put-length q ∙ z,
      )

  -- what is answered then
  pub no_room_lem : {room : List ℕ} {n bytes : ℕ} {a : Answer} → plan_of t p ≡ read n → bytes ≡ 512 * needed (length (stream t p))
      → length room < bytes → a ≡ no_room bytes → FileWritten t p room room a
  no_room_lem {n = n} e b h r = room-short n e (omega (arith, b, file-size)) (r ∙ ap no_room (b ∙ sym file-size)) refl

  pub file-put : {room room' cells : List ℕ} {n bytes blocks r : ℕ} {a : Answer} → plan_of t p ≡ read n
      → cells ≡ stream t p ++ replicate (8250 - length (stream t p)) 0 → blocks ≡ needed (length (stream t p)) → bytes ≡ 512 * blocks
      → bytes ≤ length room → Put room room' 0 (bytes_of (blocks_from 0 blocks cells)) r → a ≡ answered bytes blocks → FileWritten t p room room' a
  file-put {room} {room'} {cells} {n} {bytes} {blocks} {r} e c k b h w z =
      let s = stream t p in
      let words : blocks_from 0 blocks cells ≡ words_for s =
      ap (λ (l : List ℕ). blocks_from 0 blocks l) c ∙ ap (λ (j : ℕ). blocks_from 0 j (s ++ replicate (8250 - length s) 0)) k
      ∙ laid-blocks s 8250 (omega (arith, stream-size)) (omega (arith, stream-size)) in
      let q : Put room room' 0 (file_of t p) r = rw words at w in
      let size : length (file_of t p) ≡ bytes = omega (arith, file-size, k, b) in
      let f = put_front q (omega arith) in
      written n e (omega arith) (z ∙ ap (λ (j : ℕ). answered j blocks) (sym size) ∙ ap (answered (length (file_of t p))) k) f.1
