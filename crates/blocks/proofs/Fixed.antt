-- Two results that a promise allows are equal, for `sums` and `sound_run`; `put_block` promises `Put` (crate octets).
use Rattle.std.proofs.Common.{◌≡◌, ℕ, List}
use Rattle.cell.proofs.Fixed.{given-fixed}
use Rattle.blocks.specs.Sums.{first, second}
use Rattle.blocks.specs.Blocks.{Found}
use Rattle.blocks.specs.declared.Checks.{Checks}

abbrev Summed : List ℕ → Checks → Type 0
Summed words r = (r.one ≡ first 1 words) × (r.two ≡ second 1 0 words)

pub sums-fixed : (words : List ℕ) {r s : Checks} → Summed words r → Summed words s → (r.one ≡ s.one) × (r.two ≡ s.two)
sums-fixed words p q = (given-fixed p.0 q.0, given-fixed p.1 q.1)

pub found-fixed : {file room a b : List ℕ} {number r s : ℕ} → Found file number room a r → Found file number room b s → (r ≡ s) × (a ≡ b)
found-fixed p q = (given-fixed p.many q.many, given-fixed p.put q.put)
