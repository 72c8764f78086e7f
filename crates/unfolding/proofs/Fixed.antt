-- Two results of the walk, and two final contents of its room, that the promise allows are equal.
use Prim.Native.Nat.{ℕ}
use mathlib.Core.Path.{◌≡◌, sym, ◌∙◌, ap}
use mathlib.Core.List.{List, [], ◌++◌}
use Rattle.std.specs.Prelude.{Result, Ok, Err}
use Rattle.refusal.specs.declared.Refusal.{Refusal}
use Rattle.refusal.proofs.RefusalLaws.{told-one}
use Rattle.table.specs.Table.{Table}
use Rattle.table.proofs.ReadLaws.{apart, read_one, refuse-one}
use Rattle.plan.specs.Plans.{Plan, write}
use Rattle.plan.proofs.PlansLaws.{plan-tells}
use Rattle.octets.specs.Octets.{Put}
use Rattle.clauses.specs.Program.{program}
use Rattle.unfolding.specs.Flat.{flat}
use Rattle.unfolding.specs.Unfolds.{Unfolds, refusal, made}

-- the program is told by the plan's cells
flat-one : {T T' : Table} → T ≡ T' → (p : Plan T.width T.rows) (q : Plan T'.width T'.rows) → write p ≡ write q
    → flat (program p) ≡ flat (program q)
flat-one z p q e =
    (plan-tells (λ k rows p. flat (program p)) (ap (λ (x : Table). x.width) z) (ap (λ (x : Table). x.rows) z) p q [] []
    (ap (λ (l : List ℕ). l ++ []) e)).0

put-fixed : {room a b xs ys : List ℕ} {m n : ℕ} → xs ≡ ys → Put room a 0 xs m → Put room b 0 ys n → (m ≡ n) × (a ≡ b)
put-fixed e p q = let r = rw e at p in (r.after ∙ sym q.after, r.wrote ∙ sym q.wrote)

pub unfolds-fixed : {t p room room' room'' : List ℕ} {r s : Result ℕ Refusal} → Unfolds t p room room' r → Unfolds t p room room'' s
    → (r ≡ s) × (room' ≡ room'')
unfolds-fixed (refusal f a b c) (refusal g a' b' c') =
    (b ∙ ap Err (told-one (refuse-one (sym a ∙ a'))) ∙ sym b', c ∙ sym c')
unfolds-fixed (refusal f a b c) (made T p n a' w b' q) = apart (sym a' ∙ a)
unfolds-fixed (made T p n a w b q) (refusal f a' b' c') = apart (sym a ∙ a')
unfolds-fixed (made T p n a w b q) (made T' p' n' a' w' b' q') =
    let x = put-fixed (flat-one (read_one (sym a ∙ a')) p p' (sym w ∙ w')) q q' in
    (b ∙ ap Ok x.0 ∙ sym b', x.1)
