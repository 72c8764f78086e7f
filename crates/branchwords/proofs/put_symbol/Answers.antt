use mathlib.Core.Path.{sym, ap, ◌∙◌}
use mathlib.Core.List.{append-nil}
use borrow.Author.Tests.{eq-eqb, ne_eqb}
use Rattle.message.specs.Words.{ascii}
use Rattle.termtext.specs.Saying.{words_in}
use Rattle.octets.proofs.PutLaws.{put-put}
use Rattle.branchwords.specs.Branches.{symbol_text}
use borrow.Author.Rules.{rules}
use Rattle.branchwords.proofs.put_symbol.Goals as goal

pub returns-then-kind-eq0 : goal.returns-then-kind-eq0
unfolding ascii symbol_text
returns-then-kind-eq0 c =
    rw (eq-eqb _ _ (sym c.kind.ensures ∙ c.if-kind-eq0.true)) c.put_word.ensures

pub returns : goal.returns
unfolding ascii symbol_text
returns c =
    let a = c.args in
    let known = c.kind.ensures in
    rw (ne_eqb _ _ (λ z. c.if-kind-eq0.false (known ∙ z)), ← c.arity_of.ensures)
    (put-put (rw (append-nil (words_in a.text.now a.names.now)) at c.put_symbol-on.ensures) c.put_blanks.ensures)
