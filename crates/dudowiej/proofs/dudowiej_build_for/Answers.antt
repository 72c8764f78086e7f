use Rattle.dudowiej.proofs.CodeLaws.{coded_by, build-by}
use mathlib.Core.Path.{subst}
use mathlib.Core.List.{List}
use Prim.Native.Nat.{ℕ}
use lib.ListN.{get_or}
use Rattle.least.specs.declared.By.TheVariants.{Work}
use Rattle.builder.specs.Build.{BuiltInto}
use Rattle.dudowiej.proofs.Small.{build-small}
use Rattle.dudowiej.proofs.dudowiej_build_for.Goals as goal

pub returns : goal.returns
returns c =
    let a = c.args in
    let figure : ℕ = get_or a.rec.now 1 0 in
    let x =
    subst (λ (cells : List ℕ). BuiltInto (Work figure) a.columns.now cells a.room.now c.build_for.new.room c.build_for.result)
    c.table_of-cells.ensures c.build_for.ensures in
    record { answer = c.build_for.result; built = x; code = coded_by (build-by c.build_for.result) (build-small (Work figure) x) c.as_number.ensures }
