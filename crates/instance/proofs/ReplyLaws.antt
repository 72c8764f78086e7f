-- What the cells of a reply are, where a row of 01 and a goal of 01 have it: terms of the table's width, good cells, each symbol one of the
-- row's or of the goal's.
use Prim.Native.Nat.{ℕ}
use mathlib.Core.Path.{◌≡◌, refl, subst}
use mathlib.Core.Logic.{◌⊎◌, ⊎_elim}
use mathlib.Core.Bool.{false}
use mathlib.Core.List.{List, [], Memᴰ}
use native.Mathlib.Omega.{arith}
use lib.ListN.{length}
use Rattle.cell.specs.Cell as cell
use Rattle.cell.specs.Cell.{Cell, is_var}
use Rattle.term.specs.Terms.{Terms}
use Rattle.term.proofs.Tests.{bool_cases}
use Rattle.term.proofs.Inst.{Terms-inst}
use Rattle.table.specs.Table.{count, appear, Row, IsGoal}
use Rattle.table.proofs.HeadLaws.{appear-short, appear-has}
use Rattle.answer.proofs.CountLaws.{up_mem}
use Rattle.instance.specs.Reply.{Reply, Short}
use Rattle.instance.proofs.Symbols.{symbols-shared}

module _ {w : ℕ} {row goal cells : List ℕ} (r : Row w row) (g : IsGoal w goal) (p : Reply row goal cells) where
  pub reply-terms : Terms w cells
  reply-terms = let i = p.instance.common.first in subst (Terms w) i.same (Terms-inst i.good r.terms)

  pub reply-symbols : (c : ℕ) → Memᴰ c cells → is_var c ≡ false → Memᴰ c row ⊎ Memᴰ c goal
  reply-symbols c m v = symbols-shared p.instance c v m

  pub reply-cells : Short cells → (c : ℕ) → Memᴰ c cells → Cell c
  unfolding count
  reply-cells s c m = ⊎_elim
      (λ v. let n = length (appear [] cells) in
      let l = up_mem 0 n c (rw p.order at (appear-has c [] cells m v refl)) in
      cell.variable (omega (arith, l.1, appear-short [] cells, s)))
      (λ v. ⊎_elim (r.cells c) (g.head.cells c) (reply-symbols c m v))
      (bool_cases (is_var c))
