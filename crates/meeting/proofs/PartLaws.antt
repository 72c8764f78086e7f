-- Three parts put one after the other in another list, and put back at the front.
use Prim.Native.Nat.{ℕ, ◌+◌, ◌-◌, ◌≤◌, ◌<◌}
use mathlib.Core.Path.{◌≡◌, sym, ◌∙◌, ap, subst}
use mathlib.Core.List.{List, ◌++◌}
use native.Mathlib.Omega.{arith}
use lib.ListN.{length, take, drop, length-append, length-take}
use lib.Seq.{slice}
use Rattle.term.proofs.Lists.{slice-take}
use Rattle.octets.specs.Octets.{Put}
use Rattle.instance.specs.Rewrite.{put}
use Rattle.octets.proofs.PutLaws.{put-put, put-found, put-length, put-counted}
use Rattle.limits.specs.Limits.{most_reply_cells}

-- the place after what is put is in the room
pub put_in : {old new text : List ℕ} {to r : ℕ} → Put old new to text r → to ≤ length old → (to ≤ r) × (r ≤ length old)
put_in {old} {text = text} {to} p h = (omega (arith, p.after), omega (arith, p.after, length-take (length old - to) text, h))

-- a part of a list, as the code takes it
pub part_slice : (xs : List ℕ) (a e : ℕ) → a ≤ e → take (e - a) (drop a xs) ≡ slice a e xs
part_slice xs a e h = let n : a + (e - a) ≡ e = omega arith in sym (slice-take a (e - a) xs) ∙ ap (λ (k : ℕ). slice a k xs) n

-- put with a variable replaced
pub part-put : {out out' : List ℕ} {to r : ℕ} (v : ℕ) (t xs : List ℕ) (a e : ℕ) → a ≤ e
    → Put out out' to (put v t (take (e - a) (drop a xs))) r → Put out out' to (put v t (slice a e xs)) r
part-put {out} {out'} {to} {r} v t xs a e h = subst (λ (l : List ℕ). Put out out' to (put v t l) r) (part_slice xs a e h)

-- No more is put than there is, and all of it where a cell is left.
module _ {other other₁ other₂ A B : List ℕ} {q l : ℕ} (a : Put other other₁ 0 A q) (b : Put other₁ other₂ q B l) where
  pub two-long : most_reply_cells < l → most_reply_cells < length A + length B
  two-long h = omega (arith, h, (put-counted (put-put a b)).0, length-append A B)

  module _ {other₃ D : List ℕ} {m : ℕ} (d : Put other₂ other₃ l D m) where
    pub third-long : most_reply_cells < m - l → most_reply_cells < length D
    third-long h = omega (arith, h, d.after, length-take (length other₂ - l) D)

    pub three-fit : m < length other → length A + length B + length D ≤ length other
    three-fit h = omega (arith, h, (put-counted (put-put (put-put a b) d)).1 h, length-append (A ++ B) D, length-append A B)

module _ {other other₁ other₂ other₃ A B D : List ℕ} {q l m : ℕ} (h : length A + length B + length D ≤ length other)
    (a : Put other other₁ 0 A q) (b : Put other₁ other₂ q B l) (d : Put other₂ other₃ l D m) where
  whole : (m ≡ length ((A ++ B) ++ D)) × (take m other₃ ≡ (A ++ B) ++ D)
  whole = put-found (put-put (put-put a b) d) (omega (arith, length-append (A ++ B) D, length-append A B, h))

  pub put_three : (q ≡ length A) × (l ≡ length A + length B) × (m ≡ l + length D)
  put_three =
      let x = (put-found a (omega (arith, h))).0 in
      let y = (put-found (put-put a b) (omega (arith, length-append A B, h))).0 ∙ length-append A B in
      (x, y, omega (arith, whole.0, length-append (A ++ B) D, length-append A B, y))

  pub put-held : m ≤ length other₃
  put-held = omega (arith, put_three.1, put_three.2, h, put-length a, put-length b, put-length d)

  pub put_back : {list list' : List ℕ} {c : ℕ} → length A + length B + length D ≤ length list → Put list list' 0 (take m other₃) c
      → take m list' ≡ (A ++ B) ++ D
  put_back {list' = list'} g p =
      let w = whole.1 in
      let x = put-found p (omega (arith, ap length w, length-append (A ++ B) D, length-append A B, g, h)) in
      ap (λ (n : ℕ). take n list') (whole.0 ∙ sym (x.0 ∙ ap length w)) ∙ x.1 ∙ w
