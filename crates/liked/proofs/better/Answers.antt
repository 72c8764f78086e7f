use Rattle.std.proofs.Common.{arith}
use Rattle.liked.proofs.SearchLaws.{best-new, best-kept, no_less, no-plan, total-is}
use Rattle.liked.proofs.better.Goals as goal

pub returns-in-Ok : goal.returns-in-Ok
returns-in-Ok c = λ by cells goals list b t. best-new b (total-is t c.in-Ok.is) c.if-tried-best.true

pub returns-in_default : goal.returns-in_default
returns-in_default c =
    λ by cells goals list b t. best-kept b (no_less t c.in-Ok.is (omega (arith, c.if-tried-best.false)))

pub returns-in_default-2 : goal.returns-in_default-2
returns-in_default-2 c = λ by cells goals list b t. best-kept b (no-plan t c.in_default.is)
