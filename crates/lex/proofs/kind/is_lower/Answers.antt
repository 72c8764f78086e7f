use Rattle.std.proofs.Common.{rules}
use Rattle.grammar.specs.Grammar.{is_lower}
use Rattle.lex.proofs.kind.is_lower.Goals as goal

pub returns : goal.returns
unfolding is_lower
returns c = search rules
