use mathlib.Core.Path.{refl}
use native.Mathlib.Omega.{arith}
use Rattle.octets.proofs.PutLaws.{put-put}
use Rattle.termtext.specs.Saying.{words_in}
use Rattle.handing.proofs.LineLaws.{cut_short, met-short, ups-long, fact-text, rule-text}
use Rattle.handing.proofs.text.put_line.Goals as goal

pub put_atom-a-requires : goal.put_atom-a-requires
put_atom-a-requires c =
    cut_short c.args.clause.now c.requires.0

pub returns-then-called-eq0 : goal.returns-then-called-eq0
returns-then-called-eq0 c =
    let a = c.args in
    let words = words_in a.text.now a.names.now in
    λ w. rw (fact-text a.clause.now w words _ _ _ refl refl refl c.if-called-eq0.true)
    (put-put c.put_atom-a.ensures c.put_word.ensures)

pub variables-v-requires : goal.variables-v-requires
variables-v-requires c =
    cut_short c.args.clause.now c.requires.0

pub slice_bounds-up-end : goal.slice_bounds-up-end
slice_bounds-up-end c =
    omega (arith, c.variables-v.ensures, met-short c.args.clause.now c.requires.0)

pub slice_bounds-put_atom-end : goal.slice_bounds-put_atom-end
slice_bounds-put_atom-end c =
    let v = c.variables-v in
    ups-long v.result (omega (arith, v.ensures, met-short c.args.clause.now c.requires.0))

pub put_atom-c-requires : goal.put_atom-c-requires
put_atom-c-requires c =
    let h = met-short c.args.clause.now c.requires.0 in
    let v = c.variables-v in
    omega (arith, v.ensures, ups-long v.result (omega (arith, v.ensures)))

pub returns : goal.returns
returns c =
    let v = c.variables-v in
    let a = c.args in
    let words = words_in a.text.now a.names.now in
    let is = rule-text a.clause.now in
    λ w. rw (is w words _ _ _ v.result refl refl refl c.if-called-eq0.false v.ensures)
    (put-put c.put_atom-a.ensures (put-put c.put_word-b.ensures (put-put c.put_atom-c.ensures c.put_word-2.ensures)))
