-- Two results that the promise of `reply_jobs` allows are equal: the records, the room and the answer.
use Prim.Native.Nat.{ℕ, ◌+◌}
use Rattle.std.proofs.Common.{Result}
use Rattle.refusal.specs.declared.Refusal.{Refusal}
use mathlib.Core.Path.{◌≡◌, refl, sym, ◌∙◌, ap, ap₂, subst}
use mathlib.Core.List.{List, ◌∷◌, ◌++◌}
use native.Mathlib.Omega.{arith}
use lib.ListN.{take}
use Rattle.refusal.specs.Refusal.{Refused, Answer}
use Rattle.table.proofs.ReadLaws.{apart}
use Rattle.plan.specs.Check.{plan_of}
use Rattle.checker.specs.Checked.{plan_told, plan_says}
use Rattle.checker.proofs.Fixed.{plan-fixed}
use Rattle.answer.specs.Jobs.{bits_of}
use Rattle.answer.specs.Run.{run_told}
use Rattle.answer.proofs.Fixed.{run-fixed}
use Rattle.instance.specs.Replied.{replies_told}
use Rattle.instance.specs.ReplyJobs.{declined, reply_filled, ReplyAsked, outside, refused, replied, RepliesEach, nil, cons, ReplyJobsRun, refusal, asked}
use Rattle.instance.specs.declared.ReplyJob.{ReplyJob}
use Rattle.instance.proofs.Fixed.{replied-fixed}

-- one record, and the room after it
pub reply-asked-fixed : {t p cells : List ℕ} {on : ℕ} {room room' room'' : List ℕ} {j k l : ReplyJob} → ReplyAsked t p cells on room room' j k
    → ReplyAsked t p cells on room room'' j l → (k ≡ l) × (room' ≡ room'')
reply-asked-fixed (outside h e c) (outside h' e' c') = (e ∙ sym e', c ∙ sym c')
reply-asked-fixed (outside h e c) (refused f a r h' x d e' c') = absurd (let z : ⊥ = omega arith in z)
reply-asked-fixed (outside h e c) (replied m s n i a b r h' x d y e' c') = absurd (let z : ⊥ = omega arith in z)
reply-asked-fixed (refused f a r h x d e c) (outside h' e' c') = absurd (let z : ⊥ = omega arith in z)
reply-asked-fixed (replied m s n i a b r h x d y e c) (outside h' e' c') = absurd (let z : ⊥ = omega arith in z)
reply-asked-fixed {j = j} (refused f a r h x d e c) (refused f' a' r' h' x' d' e' c') =
    let q = ap replies_told (replied-fixed x x').0 in
    let z : f ≡ f' = cc in
    (e ∙ ap (λ (w : Refused). declined j w.number w.place) z ∙ sym e', c ∙ sym c')
reply-asked-fixed (refused f a r h x d e c) (replied m s n i a' b r' h' x' d' y e' c') =
    let q = ap replies_told (replied-fixed x x').0 in
    absurd (let z : ◌≡◌ {A = ℕ} 0 1 = cc in let w : ⊥ = omega arith in w)
reply-asked-fixed (replied m s n i a b r h x d y e c) (refused f a' r' h' x' d' e' c') =
    let q = ap replies_told (replied-fixed x x').0 in
    absurd (let z : ◌≡◌ {A = ℕ} 0 1 = cc in let w : ⊥ = omega arith in w)
reply-asked-fixed {on = on} {room = room} {j = j} (replied m s n i a b r h x d y e c) (replied m' s' n' i' a' b' r' h' x' d' y' e' c') =
    let u = replied-fixed x x' in
    let v = run-fixed y y' in
    let q = ap replies_told u.0 in
    let o = ap run_told v.0 in
    let em : m ≡ m' = cc in
    let es : s ≡ s' = cc in
    let en : n ≡ n' = cc in
    let ei : i ≡ i' = cc in
    let eb : bits_of (take n b) ≡ bits_of (take n' b') = ap₂ (λ (k : ℕ) (l : List ℕ). bits_of (take k l)) en v.1 in (
      e ∙ ap₂ (λ (w z : ℕ). reply_filled j 0 0 on w z (bits_of (take n b)) i) em es ∙ ap₂ (λ (w z : ℕ). reply_filled j 0 0 on m' s' w z) eb ei ∙ sym e',
      c ∙ ap (λ (l : List ℕ). take on room ++ l) u.1 ∙ sym c',
    )

-- the records one after another
pub replies-each-fixed : {t p cells : List ℕ} {on : ℕ} {room room' room'' : List ℕ} {js ks ls : List ReplyJob} → RepliesEach t p cells on room room' js ks
    → RepliesEach t p cells on room room'' js ls → (ks ≡ ls) × (room' ≡ room'')
replies-each-fixed nil nil = (refl, refl)
replies-each-fixed {t} {p} {cells} {on} {room'' = room''} (cons {j' = k} a u) (cons {between = b} {j' = l} {js = js} {js' = ls} c v) =
    let q = reply-asked-fixed a c in
    let v' = subst (λ (r : List ℕ). RepliesEach t p cells (on + k.cells) r room'' js ls) (sym q.1)
    (subst (λ (z : ReplyJob). RepliesEach t p cells (on + z.cells) b room'' js ls) (sym q.0) v) in
    let w = replies-each-fixed u v' in
    (ap₂ (λ (z : ReplyJob) (zs : List ReplyJob). z ∷ zs) q.0 w.0, w.1)

-- it answers what the check does
pub reply-jobs-told : {t p cells room room' : List ℕ} {jobs jobs' : List ReplyJob} {a : Answer} → ReplyJobsRun t p cells room room' jobs jobs' a
    → a ≡ plan_says (plan_of t p)
reply-jobs-told (refusal f e d c o) = d ∙ sym (ap plan_says e)
reply-jobs-told (asked n e d c) = d ∙ sym (ap plan_says e)

made-fixed : {t p cells room room' room'' : List ℕ} {jobs jobs' jobs'' : List ReplyJob} {a b : Answer} → ReplyJobsRun t p cells room room' jobs jobs' a
    → ReplyJobsRun t p cells room room'' jobs jobs'' b → (jobs' ≡ jobs'') × (room' ≡ room'')
made-fixed (refusal f d e g o) (refusal f' d' e' g' o') = (g ∙ sym g', o ∙ sym o')
made-fixed (refusal f d e g o) (asked n d' e' g') = apart (sym d' ∙ d)
made-fixed (asked n d e g) (refusal f' d' e' g' o') = apart (sym d ∙ d')
made-fixed (asked n d e g) (asked n' d' e' g') = replies-each-fixed g g'

-- reply_jobs
pub reply-jobs-fixed : {t p cells room room' room'' : List ℕ} {jobs jobs' jobs'' : List ReplyJob} {r s : Result ℕ Refusal}
    → ReplyJobsRun t p cells room room' jobs jobs' (plan_told r) → ReplyJobsRun t p cells room room'' jobs jobs'' (plan_told s)
    → (r ≡ s) × (jobs' ≡ jobs'') × (room' ≡ room'')
reply-jobs-fixed {t} {p} x y = let m = made-fixed x y in (plan-fixed t p (reply-jobs-told x) (reply-jobs-told y), m.0, m.1)
