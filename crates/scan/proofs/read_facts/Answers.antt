use mathlib.Core.Path.{refl, ap, ◌∙◌}
use Rattle.std.specs.Prelude.{Ok}
use Rattle.std.proofs.lemmas.Result.{err_from_is_err_and}
use native.Mathlib.Omega.{arith}
use borrow.Author.Rules.{rules}
use lib.Dec.{eqb}
use Rattle.grammar.specs.Reader.{nothing}
use Rattle.refusal.specs.Read.{refuse}
use Rattle.scan.proofs.FactLaws.{fact-is}
use Rattle.scan.proofs.CountLaws.{kept-none, sized, kept_more, none_yet, fact-more, all_read, stops-there}
use Rattle.scan.proofs.read_facts.Goals as goal

pub loop-seen-init : goal.loop-seen-init
loop-seen-init c =
    let t = c.args.text.now in
    (omega arith, kept-none t c.no_facts-tally.ensures, none_yet t c.no_facts-tally.ensures, refl)

pub fact_from-requires : goal.fact_from-requires
fact_from-requires c =
    let l = c.loop-seen in
    (l.invariant.0, c.requires.0, omega (arith, l.invariant.3, c.requires.1))

pub returns-in_err-seen : goal.returns-in_err-seen
returns-in_err-seen c =
    let l = c.loop-seen in
    let t = c.args.text.now in
    let f = fact-is t l.at (eqb l.tally.facts 0) c.fact_from.ensures c.in_err-seen.was in
    let p = err_from_is_err_and c.from_residual.result c.from_residual.ensures.1 in
    stops-there t l.at l.tally l.invariant.2 c.requires.0 _ (f nothing) (rw p.1 (ap refuse p.2))

pub returns-in_default : goal.returns-in_default
returns-in_default c =
    let l = c.loop-seen in
    let t = c.args.text.now in
    let f = fact-is t l.at (eqb l.tally.facts 0) c.fact_from.ensures (c.in_ok-seen.was ∙ ap Ok c.in_default.is) in
    all_read t l.at l.tally l.invariant.2 c.requires.0 (f nothing) c.verdict.ensures

pub count_fact-tally-requires : goal.count_fact-tally-requires
count_fact-tally-requires c =
    let l = c.loop-seen in
    let t = c.args.text.now in
    let f = fact-is t l.at (eqb l.tally.facts 0) c.fact_from.ensures (c.in_ok-seen.was ∙ ap Ok c.in-Some.is) in
    sized t l.at l.tally l.invariant.1 (eqb l.tally.facts 0) _ f c.requires.0

pub loop-seen-smaller : goal.loop-seen-smaller
loop-seen-smaller c =
    let l = c.loop-seen in
    let t = c.args.text.now in
    let f = fact-is t l.at (eqb l.tally.facts 0) c.fact_from.ensures (c.in_ok-seen.was ∙ ap Ok c.in-Some.is) in
    omega (arith, f.from.0, f.from.1, f.within.0, f.within.1)

pub loop-seen-preserved : goal.loop-seen-preserved
loop-seen-preserved c =
    let l = c.loop-seen in
    let t = c.args.text.now in
    let f = fact-is t l.at (eqb l.tally.facts 0) c.fact_from.ensures (c.in_ok-seen.was ∙ ap Ok c.in-Some.is) in (
      f.within.1,
      kept_more t l.at l.tally l.invariant.1 (eqb l.tally.facts 0) _ f c.requires.0 c.count_fact-tally.ensures,
      fact-more t l.at l.tally l.invariant.2 _ f c.count_fact-tally.ensures,
      search rules,
    )
