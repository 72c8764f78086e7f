use Rattle.dudowiej.proofs.CodeLaws.{coded_by, build-by}
use Rattle.least.specs.declared.By.TheVariants.{Work}
use Rattle.dudowiej.proofs.Small.{build-small}
use Rattle.dudowiej.proofs.dudowiej_build_plan.Goals as goal

pub returns : goal.returns
returns c =
    λ figure T x. let b = c.build_from.ensures figure T x in
    record { answer = c.build_from.result; built = b; code = coded_by (build-by c.build_from.result) (build-small (Work figure) b) c.as_number.ensures }
