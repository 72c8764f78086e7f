use Prim.Native.Nat.{ℕ}
use mathlib.Core.Path.{refl, sym, ap, ◌∙◌}
use mathlib.Core.List.{List}
use native.Mathlib.Omega.{arith}
use lib.ListN.{length}
use lib.Seq.{sets}
use Rattle.term.proofs.Lists.{store-next, store-end}
use Rattle.termtext.specs.Saying.{words_in}
use Rattle.termtext.specs.code.Renumber.{word_number}
use Rattle.goaltext.proofs.NameLaws.{words-many, numbers_left, news_left, numbers-next, news-next, numbers-none, news-none}
use Rattle.goaltext.proofs.NameLaws.{number_small}
use borrow.Author.Rules.{rules}
use Rattle.goaltext.proofs.names.number_names.Goals as goal

pub loop-i-init : goal.loop-i-init
loop-i-init c = (omega arith, refl, refl, refl, refl, omega arith)

pub overflow_cast-numbers : goal.overflow_cast-numbers
overflow_cast-numbers c = omega (arith, (number_small c.number_one-next.ensures).1)

pub loop-i-preserved : goal.loop-i-preserved
loop-i-preserved c =
    let l = c.loop-i in
    let a = c.args in
    let words = words_in a.text.now a.names.now in
    let e = c.find-at.ensures ∙ ap (λ (w : List ℕ). word_number w words) c.word.ensures in
    let known = sym (words-many a.text.now a.names.now) in
    let s = number_small c.number_one-next.ensures in
    let next = numbers-next words a.whole.now a.list.now l.count l.i (omega arith) e known c.number_one-next.ensures in
    let news = news-next words a.whole.now a.list.now l.count l.i (omega arith) e known c.number_one-next.ensures l.invariant.4
    l.invariant.5 in (
      omega (arith, s.0),
      search rules,
      s.2 ∙ l.invariant.2,
      store-next l.numbers (sets a.numbers.now 0 (numbers_left words a.whole.now a.list.now 0 0)) _ _ l.i _ next
          l.invariant.3,
      news.0,
      news.1,
    )

pub returns : goal.returns
returns c =
    let l = c.loop-i in
    let a = c.args in
    let words = words_in a.text.now a.names.now in
    let none = news-none words a.whole.now a.list.now l.i (omega arith) in
    record {
      are =
          store-end l.numbers (sets a.numbers.now 0 (numbers_left words a.whole.now a.list.now 0 0)) _ l.i
          (numbers-none words a.whole.now a.list.now l.count l.i (omega arith)) l.invariant.3;
      news = store-end l.new (sets a.new.now 0 (news_left words a.whole.now a.list.now 0)) _ l.count none l.invariant.4;
      many = omega (arith, ap length none, l.invariant.5);
    }
