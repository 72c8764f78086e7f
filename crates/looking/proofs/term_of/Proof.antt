use native.Mathlib.Omega.{arith}
use Rattle.grammar.specs.Grammar.{is_lower, is_digit}
use Rattle.expecting.specs.Looking.{termed}
use Rattle.looking.proofs.RangeLaws.{in-range, below-range, above-range}
use Rattle.looking.proofs.term_of.Statement.{statement}
use Rattle.looking.proofs.term_of.Tie as tie

returns : tie.Need-returns-in-48-to-57
unfolding termed is_lower is_digit
returns c = let b = c.args.byte in rw (below-range 97 b 122 (omega arith), in-range 48 b 57 (omega arith) (omega arith))

returns-2 : tie.Need-returns-in-97-to-122
unfolding termed is_lower is_digit
returns-2 c = let b = c.args.byte in rw (in-range 97 b 122 (omega arith) (omega arith))

returns-3 : tie.Need-returns-in_default
unfolding termed is_lower is_digit
returns-3 c = let b = c.args.byte in rw (below-range 97 b 122 (omega arith), below-range 48 b 57 (omega arith))

returns-4 : tie.Need-returns-in_default-2
unfolding termed is_lower is_digit
returns-4 c = let b = c.args.byte in rw (below-range 97 b 122 (omega arith), above-range 48 b 57 (omega arith))

returns-5 : tie.Need-returns-in_default-3
unfolding termed is_lower is_digit
returns-5 c = let b = c.args.byte in rw (above-range 97 b 122 (omega arith), above-range 48 b 57 (omega arith))

pub term_of_spec : {M : Type 1} → statement M
term_of_spec = tie.close (tie.spec returns returns-2 returns-3 returns-4 returns-5)
