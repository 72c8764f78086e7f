use Rattle.std.proofs.Common.{rules}
use Rattle.grammar.specs.Grammar.{is_digit}
use Rattle.lex.proofs.kind.is_digit.Goals as goal

pub returns : goal.returns
unfolding is_digit
returns c = search rules
