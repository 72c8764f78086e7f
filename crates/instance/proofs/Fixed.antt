-- Two results of the entry, and two final contents of its room, that the promise allows are equal.
use Rattle.std.specs.Prelude.{Result, Ok, Err}
use Rattle.instance.specs.declared.ReplyCounts.{ReplyCounts}
use Rattle.refusal.specs.declared.Refusal.{Refusal}
use Prim.Native.Nat.{ℕ}
use mathlib.Core.Path.{◌≡◌, sym, ◌∙◌, ap, ap₂, subst}
use mathlib.Core.List.{List, ◌++◌, flatten}
use native.Mathlib.Omega.{arith}
use lib.ListN.{length, drop}
use Rattle.refusal.specs.Refusal.{refused, told, answered, turned}
use Rattle.refusal.specs.declared.Reason.TheVariants as reason
use Rattle.refusal.specs.declared.Input.TheVariants as input
use Rattle.refusal.proofs.RefusalLaws.{told-one}
use Rattle.table.specs.All.{All}
use Rattle.table.specs.Table.{Table}
use Rattle.table.proofs.ReadLaws.{apart, read_one}
use Rattle.instance.specs.Reply.{Replies, Short, Large}
use Rattle.instance.specs.Replied.{replies_told, Replied, refusal, big, no_room, replied}
use Rattle.instance.proofs.Variants.{replies-one}
use Rattle.instance.proofs.RepliesLaws.{not-large}

told_same : (a b : Result ReplyCounts Refusal) → replies_told a ≡ replies_told b → a ≡ b
told_same (Ok n) (Ok m) e =
    let x : n.replies ≡ m.replies = cc in
    let y : n.cells ≡ m.cells = cc in
    ap₂ (λ (k l : ℕ). Ok (record { replies = k; cells = l })) x y
told_same (Ok n) (Err g) e = absurd (let z : ◌≡◌ {A = ℕ} 0 1 = cc in omega arith)
told_same (Err f) (Ok m) e = absurd (let z : ◌≡◌ {A = ℕ} 0 1 = cc in omega arith)
told_same (Err f) (Err g) e = let q : told f ≡ told g = cc in ap Err (told-one q)

-- the replies of one table are one list
same-replies : {goal : List ℕ} {T T' : Table} {all all' : List (List ℕ)} → T ≡ T' → Replies goal T.rows all → Replies goal T'.rows all' → all ≡ all'
same-replies {goal} {T} {all = all} q a b = replies-one (subst (λ (X : Table). Replies goal X.rows all) q a) b

-- and are not over 1,024 cells and within them at once
pub not-both : {goal : List ℕ} {T T' : Table} {all all' : List (List ℕ)} → T ≡ T' → Replies goal T.rows all → Replies goal T'.rows all'
    → Large all → All Short all' → ⊥
not-both q a b l s = not-large s (subst Large (same-replies q a b) l)

pub replied-fixed : {t p g room room' room'' : List ℕ} {r s : Result ReplyCounts Refusal} → Replied t p g room room' r → Replied t p g room room'' s
    → (r ≡ s) × (room' ≡ room'')
replied-fixed {r = r} {s = s} (refusal f a b c) (refusal f' a' b' c') = (told_same r s (let q : f ≡ f' = cc in b ∙ ap turned q ∙ sym b'), c ∙ sym c')
replied-fixed (refusal f a b c) (big T all a' w n b' c') = apart (sym a' ∙ a)
replied-fixed (refusal f a b c) (no_room T all a' w n l b' c') = apart (sym a' ∙ a)
replied-fixed (refusal f a b c) (replied T all a' w n l b' c') = apart (sym a' ∙ a)
replied-fixed (big T all a w n b c) (refusal f a' b' c') = apart (sym a ∙ a')
replied-fixed (no_room T all a w n l b c) (refusal f a' b' c') = apart (sym a ∙ a')
replied-fixed (replied T all a w n l b c) (refusal f a' b' c') = apart (sym a ∙ a')
replied-fixed {r = r} {s = s} (big T all a w n b c) (big T' all' a' w' n' b' c') = (told_same r s (b ∙ sym b'), c ∙ sym c')
replied-fixed (big T all a w n b c) (no_room T' all' a' w' n' l' b' c') = absurd (not-both (read_one (sym a ∙ a')) w w' n n')
replied-fixed (big T all a w n b c) (replied T' all' a' w' n' l' b' c') = absurd (not-both (read_one (sym a ∙ a')) w w' n n')
replied-fixed (no_room T all a w n l b c) (big T' all' a' w' n' b' c') = absurd (not-both (read_one (sym a' ∙ a)) w' w n' n)
replied-fixed (replied T all a w n l b c) (big T' all' a' w' n' b' c') = absurd (not-both (read_one (sym a' ∙ a)) w' w n' n)
replied-fixed {r = r} {s = s} (no_room T all a w n l b c) (no_room T' all' a' w' n' l' b' c') =
    let e = same-replies (read_one (sym a ∙ a')) w w' in
    (told_same r s (b ∙ ap (λ (x : List (List ℕ)). turned (refused reason.Room input.Lent (length (flatten x)))) e ∙ sym b'), c ∙ sym c')
replied-fixed (no_room T all a w n l b c) (replied T' all' a' w' n' l' b' c') =
    let e = ap (λ (x : List (List ℕ)). length (flatten x)) (same-replies (read_one (sym a ∙ a')) w w') in
    absurd (let z : ⊥ = omega arith in z)
replied-fixed (replied T all a w n l b c) (no_room T' all' a' w' n' l' b' c') =
    let e = ap (λ (x : List (List ℕ)). length (flatten x)) (same-replies (read_one (sym a ∙ a')) w w') in
    absurd (let z : ⊥ = omega arith in z)
replied-fixed {room = room} {r = r} {s = s} (replied T all a w n l b c) (replied T' all' a' w' n' l' b' c') =
    let e = same-replies (read_one (sym a ∙ a')) w w' in (
      told_same r s (b ∙ ap (λ (x : List (List ℕ)). answered (length x) (length (flatten x))) e ∙ sym b'),
      c ∙ ap (λ (x : List (List ℕ)). flatten x ++ drop (length (flatten x)) room) e ∙ sym c',
    )
