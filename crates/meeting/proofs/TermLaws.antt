-- The term that stands at a place of the first cells of a list, as the code takes it from the list.
use Prim.Native.Nat.{ℕ, ◌+◌, ◌-◌, ◌≤◌, ◌<◌}
use mathlib.Core.Path.{◌≡◌, refl, sym, ◌∙◌, ap, ap₂, subst}
use mathlib.Core.List.{List, [], ◌∷◌, ◌++◌}
use native.Mathlib.Omega.{arith}
use lib.ListN.{length, get_or, take, drop, length-append, length-drop}
use lib.Seq.{drop-cons, take-take, take_at, drop_at, drop-drop, length-take-le}
use Rattle.std.specs.Prelude.{Option, Some, None}
use Rattle.term.specs.Terms.{Terms}
use Rattle.term.specs.Ends.{Ends, at, short}
use Rattle.term.proofs.TermsLaws.{terms-long}
use Rattle.instance.specs.code.Meet.{TermAt}
use Rattle.meeting.proofs.PartLaws.{part_slice}

pub term-at : (cells : List ℕ) {m at' e : ℕ} {r : Option ℕ} → m ≤ length cells → Ends (take m cells) at' r → r ≡ Some e
    → (at' ≤ e) × (e ≤ m) × TermAt (take m cells) (take (e - at') (drop at' cells)) at' e
term-at cells {m} {at'} {e} h (at {t} rest u q) p =
    let C : List ℕ = take m cells in
    let z : at' + length t ≡ e = cc in
    let l : length (drop at' C) ≡ length t + length rest = ap length q ∙ length-append t rest in
    let b : e ≤ m = omega (arith, z, l, length-drop at' C, terms-long u, length-take-le m cells h) in
    let s : at' ≤ e = omega (arith, z) in
    let k : e - at' ≡ length t = omega (arith, z) in
    let f : take (e - at') (drop at' C) ≡ t = ap (λ (n : ℕ). take n (drop at' C)) k ∙ ap (take (length t)) q ∙ take_at t rest (length t) refl in
    let g = part_slice cells at' e s ∙ ap (drop at') (sym (take-take e m cells b)) ∙ sym (part_slice C at' e s) in
    let y : take (e - at') (drop at' cells) ≡ t = g ∙ f in
    let d : rest ≡ drop e C =
    sym (ap (λ (n : ℕ). drop n C) (sym z) ∙ sym (drop-drop (length t) at' C) ∙ ap (drop (length t)) q ∙ drop_at t rest (length t) refl) in
    (s, b, record { term = subst (Terms 1) (sym y) u; split = q ∙ ap₂ ◌++◌ (sym y) d; end = ap (λ (l : List ℕ). at' + length l) y ∙ z })
term-at cells h (short n) p = absurd (let z : ◌≡◌ {A = ℕ} 0 1 = cc in omega arith)

-- one of one cell
pub cell_at : (cells : List ℕ) (m : ℕ) {at' e : ℕ} → e ≡ at' + 1 → at' < length cells
    → TermAt (take m cells) (take (e - at') (drop at' cells)) at' e → TermAt (take m cells) (get_or cells at' 0 ∷ []) at' e
cell_at cells m {at'} {e} p h x =
    let k : e - at' ≡ 1 = omega (arith, p) in
    let y : take (e - at') (drop at' cells) ≡ get_or cells at' 0 ∷ [] =
    ap (λ (n : ℕ). take n (drop at' cells)) k ∙ ap (take 1) (drop-cons cells at' 0 h) in
    subst (λ (t : List ℕ). TermAt (take m cells) t at' e) y x
