use mathlib.Core.Path.{◌≡◌, sym, subst, ◌∙◌}
use Prim.Native.Nat.{◌<◌}
use lib.ListN.{length}
use Rattle.lex.specs.Names.{Names}
use borrow.Author.Rules.{rules}
use Rattle.lex.proofs.NameLaws.{no_bytes, no_lower, name-or-not}
use Rattle.lex.proofs.name.lower_name.Goals as goal

pub returns-then-is_empty : goal.returns-then-is_empty
returns-then-is_empty c = let e : length c.args.word.now ≡ 0 = search rules in no_bytes c.args.word.now e

pub returns-then-is_lower : goal.returns-then-is_lower
returns-then-is_lower c =
    let h : 0 < length c.args.word.now = search rules in
    name-or-not c.args.word.now h c.word_end.result c.word_end.ensures (sym c.is_lower.ensures ∙ c.if-is_lower.true)

pub returns-else-is_lower : goal.returns-else-is_lower
returns-else-is_lower c = subst (Names c.args.word.now) (sym c.if-is_lower.false) (no_lower c.args.word.now (sym c.is_lower.ensures ∙ c.if-is_lower.false))
