-- Two results that a promise allows are equal, for `nothing` and `add`.
use mathlib.Core.Path.{◌≡◌, sym, ◌∙◌}
use mathlib.Core.List.{List}
use Prim.Native.Nat.{ℕ}
use native.Mathlib.Omega.{arith}
use lib.Seq.{ext_get_or}
use Rattle.refusal.specs.Refusal.{Answer}
use Rattle.cell.proofs.Fixed.{given-fixed}
use Rattle.tally.specs.Tally.{Nothing, Added}
use Rattle.tally.specs.declared.Tally.{Tally}

-- the four counts
abbrev Same : Tally → Tally → Type 0
Same r s = (r.fits ≡ s.fits) × (r.answered ≡ s.answered) × (r.refused ≡ s.refused) × (r.tried ≡ s.tried)

pub nothing-fixed : {r s : Tally} → Nothing r → Nothing s → Same r s
nothing-fixed p q =
    (given-fixed p.fits q.fits, given-fixed p.answers q.answers, given-fixed p.refusals q.refusals, given-fixed p.tries q.tries)

pub added-fixed : {t r s : Tally} {a : Answer} {room : List ℕ} → Added t a room r → Added t a room s → Same r s
added-fixed {r = r} {s = s} p q = (
  ext_get_or 0 r.fits s.fits (given-fixed p.rows q.rows)
      (λ i h. given-fixed (p.fits i (omega (arith, p.rows))) (q.fits i (omega (arith, p.rows)))),
  given-fixed p.answers q.answers,
  given-fixed p.refusals q.refusals,
  given-fixed p.tries q.tries,
)
