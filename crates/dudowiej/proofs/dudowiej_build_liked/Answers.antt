use Rattle.dudowiej.proofs.CodeLaws.{coded_by, build-by}
use mathlib.Core.Path.{subst}
use mathlib.Core.List.{List}
use Prim.Native.Nat.{ℕ}
use lib.ListN.{get_or}
use Rattle.least.specs.declared.By.TheVariants.{Work}
use Rattle.liked.specs.Liked.{LikedInto}
use Rattle.dudowiej.proofs.Small.{liked-small}
use Rattle.dudowiej.proofs.dudowiej_build_liked.Goals as goal

pub returns : goal.returns
returns c =
    let a = c.args in
    let figure : ℕ = get_or a.rec.now 1 0 in
    let x =
    subst (λ (cells : List ℕ). LikedInto (Work figure) cells a.goals.now a.list.now a.room.now c.build_liked.new.room
    a.liked.now c.build_liked.new.liked c.build_liked.result) c.table_of-cells.ensures c.build_liked.ensures in
    record { answer = c.build_liked.result; built = x; code = coded_by (build-by c.build_liked.result) (liked-small (Work figure) x) c.as_number.ensures }
