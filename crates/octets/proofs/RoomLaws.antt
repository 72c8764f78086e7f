-- Elements put into a room: none, one, and as many as there is room for.
use mathlib.Core.Path.{◌≡◌, sym, ap, ap₂, ◌∙◌}
use mathlib.Core.List.{List, [], ◌∷◌, ◌++◌}
use mathlib.Core.Logic.{by_cases}
use Prim.Native.Nat.{ℕ, ◌+◌, ◌-◌, ◌≤◌, ◌<◌, min}
use native.Mathlib.Nat.{add-zero}
use native.Mathlib.Omega.{arith}
use native.Mathlib.Decide.{dec_le}
use lib.ListN.{length, set, take, drop}
use lib.Seq.{paste, sets-eq, take_all, length-take-le}
use Rattle.octets.specs.Octets.{Put}
use Rattle.octets.specs.code.Room.{Puts}

pub puts-late : {A : Type 0} (out : List A) (to : ℕ) (text : List A) → length out ≤ to → Puts out out to text to
puts-late out to text h =
    let e : length out - to ≡ 0 = omega arith in
    record { wrote = rw e; after = rw e (sym (add-zero to)) }

pub puts-one : {A : Type 0} (out : List A) (to : ℕ) (x : A) → to < length out → Puts out (set out to x) to (x ∷ []) (to + 1)
puts-one out to x h =
    let f : take (length out - to) (x ∷ []) ≡ x ∷ [] = take_all (length out - to) (x ∷ []) (omega arith) in
    record { wrote = rw f; after = rw f }

-- what is taken of a list, up to its end or to so many
taken : {A : Type 0} (xs : List A) (n m : ℕ) → n ≡ min (length xs) m → (take n xs ≡ take m xs) × (length (take m xs) ≡ n)
taken xs n m e =
    by_cases (dec_le (length xs) m)
    (λ h. (
    let q : n ≡ length xs = omega (arith, e) in
    (ap (λ (k : ℕ). take k xs) q ∙ take_all (length xs) xs (omega arith) ∙ sym (take_all m xs h), ap length (take_all m xs h) ∙ sym q)))
    (λ h. (let q : n ≡ m = omega (arith, e, h) in (ap (λ (k : ℕ). take k xs) q, length-take-le m xs (omega arith) ∙ sym q)))

pub puts-pasted : {A : Type 0} (out xs : List A) (to n : ℕ) → to < length out → n ≡ min (length xs) (length out - to)
    → Puts out (paste out to xs n) to xs (to + n)
puts-pasted out xs to n h e =
    let text = take (length out - to) xs in
    let t = taken xs n (length out - to) e in
    let room : to + length text ≤ length out = omega (arith, t.1, e) in
    let rest : drop (to + n) out ≡ drop (to + length text) out = ap (λ (i : ℕ). drop (to + i) out) (sym t.1) in
    record {
      wrote = ap₂ (λ ys zs. take to out ++ ys ++ zs) t.0 rest ∙ sym (sets-eq text out to room);
      after = ap (λ (i : ℕ). to + i) (sym t.1);
    }

-- bytes and cells are numbers
pub put-is : {old new text : List ℕ} {to r : ℕ} → Puts old new to text r → Put old new to text r
put-is p = record { wrote = p.wrote; after = p.after }
