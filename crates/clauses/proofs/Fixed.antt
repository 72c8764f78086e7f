-- Two results of the entry, and two final contents of its room, that the promise allows are equal.
use Prim.Native.Nat.{ℕ}
use mathlib.Core.Path.{◌≡◌, sym, ◌∙◌, ap, subst}
use mathlib.Core.List.{List, [], ◌++◌}
use native.Mathlib.Omega.{arith}
use lib.ListN.{length, drop}
use Rattle.std.specs.Prelude.{Result, Ok, Err}
use Rattle.refusal.specs.Refusal.{refused, told, answered, turned}
use Rattle.refusal.specs.declared.Reason.TheVariants as reason
use Rattle.refusal.specs.declared.Input.TheVariants as input
use Rattle.refusal.specs.declared.Refusal.{Refusal}
use Rattle.refusal.proofs.RefusalLaws.{told-one}
use Rattle.table.specs.Table.{Table}
use Rattle.table.proofs.ReadLaws.{apart, read_one}
use Rattle.plan.specs.Plans.{Plan, write}
use Rattle.plan.proofs.PlansLaws.{plan-tells}
use Rattle.clauses.specs.Clauses.{Clause}
use Rattle.clauses.specs.Program.{program}
use Rattle.clauses.specs.Handed.{Listed, hand_told, text_for, Handed, refusal, no_names, no_room, handed}
use Rattle.clauses.specs.declared.ProgramSize.{ProgramSize}

size-one : {n m : ProgramSize} → n.clauses ≡ m.clauses → n.bytes ≡ m.bytes → n ≡ m
size-one {n} {m} e f =
    ap (λ (k : ℕ). let size : ProgramSize = record { clauses = k; bytes = n.bytes } in size) e
    ∙ ap (λ (k : ℕ). let size : ProgramSize = record { clauses = m.clauses; bytes = k } in size) f

told_same : (a b : Result ProgramSize Refusal) → hand_told a ≡ hand_told b → a ≡ b
told_same (Ok n) (Ok m) e =
    let a : n.clauses ≡ m.clauses = cc in
    let b : n.bytes ≡ m.bytes = cc in
    ap Ok (size-one a b)
told_same (Ok n) (Err g) e = absurd (let z : ◌≡◌ {A = ℕ} 0 1 = cc in omega arith)
told_same (Err f) (Ok m) e = absurd (let z : ◌≡◌ {A = ℕ} 0 1 = cc in omega arith)
told_same (Err f) (Err g) e = let q : told f ≡ told g = cc in ap Err (told-one q)

-- the program is told by the plan's cells
program-one : {T T' : Table} → T ≡ T' → (p : Plan T.width T.rows) (q : Plan T'.width T'.rows) → write p ≡ write q
    → program p ≡ program q
program-one z p q e =
    (plan-tells (λ k rows p. program p) (ap (λ (x : Table). x.width) z) (ap (λ (x : Table). x.rows) z) p q [] [] (ap (λ (l : List ℕ). l ++ []) e)).0

same-listed : {text names : List ℕ} {T T' : Table} → T ≡ T' → Listed text names T.rows → Listed text names T'.rows
same-listed {text} {names} z l = subst (λ (x : Table). Listed text names x.rows) z l

pub handed-fixed : {t p text names room room' room'' : List ℕ} {r s : Result ProgramSize Refusal} → Handed t p text names room room' r
    → Handed t p text names room room'' s
    → (r ≡ s) × (room' ≡ room'')
handed-fixed {r = r} {s = s} (refusal f a b c) (refusal f' a' b' c') = (told_same r s (let q : f ≡ f' = cc in b ∙ ap turned q ∙ sym b'), c ∙ sym c')
handed-fixed (refusal f a b c) (no_names T a' l b' c') = apart (sym a' ∙ a)
handed-fixed (refusal f a b c) (no_room T p a' w l n b' c') = apart (sym a' ∙ a)
handed-fixed (refusal f a b c) (handed T p a' w l n b' c') = apart (sym a' ∙ a)
handed-fixed (no_names T a l b c) (refusal f a' b' c') = apart (sym a ∙ a')
handed-fixed {r = r} {s = s} (no_names T a l b c) (no_names T' a' l' b' c') = (told_same r s (b ∙ sym b'), c ∙ sym c')
handed-fixed (no_names T a l b c) (no_room T' p a' w m n b' c') = absurd (l (same-listed (read_one (sym a' ∙ a)) m))
handed-fixed (no_names T a l b c) (handed T' p a' w m n b' c') = absurd (l (same-listed (read_one (sym a' ∙ a)) m))
handed-fixed (no_room T p a w l n b c) (refusal f a' b' c') = apart (sym a ∙ a')
handed-fixed (no_room T p a w l n b c) (no_names T' a' l' b' c') = absurd (l' (same-listed (read_one (sym a ∙ a')) l))
handed-fixed {text = text} {names = names} {r = r} {s = s} (no_room T p a w l n b c) (no_room T' p' a' w' l' n' b' c') =
    let e = program-one (read_one (sym a ∙ a')) p p' (sym w ∙ w') in
    (told_same r s (b ∙ ap (λ (x : List Clause). turned (refused reason.Room input.Lent (length (text_for text names x)))) e ∙ sym b'), c ∙ sym c')
handed-fixed {text = text} {names = names} (no_room T p a w l n b c) (handed T' p' a' w' l' n' b' c') =
    let e = ap (λ (x : List Clause). length (text_for text names x)) (program-one (read_one (sym a ∙ a')) p p' (sym w ∙ w')) in
    absurd (let z : ⊥ = omega arith in z)
handed-fixed (handed T p a w l n b c) (refusal f a' b' c') = apart (sym a ∙ a')
handed-fixed (handed T p a w l n b c) (no_names T' a' l' b' c') = absurd (l' (same-listed (read_one (sym a ∙ a')) l))
handed-fixed {text = text} {names = names} (handed T p a w l n b c) (no_room T' p' a' w' l' n' b' c') =
    let e = ap (λ (x : List Clause). length (text_for text names x)) (program-one (read_one (sym a ∙ a')) p p' (sym w ∙ w')) in
    absurd (let z : ⊥ = omega arith in z)
handed-fixed {text = text} {names = names} {room = room} {r = r} {s = s} (handed T p a w l n b c) (handed T' p' a' w' l' n' b' c') =
    let e = program-one (read_one (sym a ∙ a')) p p' (sym w ∙ w') in (
      told_same r s (b ∙ ap (λ (x : List Clause). answered (length x) (length (text_for text names x))) e ∙ sym b'),
      c ∙ ap (λ (x : List Clause). text_for text names x ++ drop (length (text_for text names x)) room) e ∙ sym c',
    )
