-- What is written is fixed, how many bytes and every byte of the room, where one text alone has the property. `put_symbol` and
-- `put_refusal` promise `Put` of a text that their arguments give: octets/proofs/Fixed.
use mathlib.Core.Path.{◌≡◌, sym, ap, ◌∙◌}
use mathlib.Core.List.{List, ◌++◌}
use Prim.Native.Nat.{ℕ}
use lib.ListN.{length, drop}
use Rattle.printing.specs.Printing.{Written}

pub written-fixed : {Is : List ℕ → Type 0} → ((x y : List ℕ) → Is x → Is y → x ≡ y) → {room room' room'' : List ℕ} {m n : ℕ}
    → Written Is room room' m → Written Is room room'' n → (m ≡ n) × (room' ≡ room'')
written-fixed one {room = room} v w =
    let e = one v.text w.text v.right w.right in
    (v.count ∙ ap length e ∙ sym w.count, v.front ∙ ap (λ (l : List ℕ). l ++ drop (length l) room) e ∙ sym w.front)
