use Rattle.texttable.proofs.NameLaws.{name-is, strikes-listed, strikes-other, all-struck}
use Rattle.texttable.proofs.TreeLaws.{found-listed, found-free}
use Rattle.lex.proofs.NameLaws.{part-is}
use Rattle.grammar.specs.Meaning.{place}
use lib.ListN.{take, drop}
use borrow.Author.Rules.{rules}
use native.Mathlib.Omega.{arith}
use mathlib.Core.List.{List}
use mathlib.Core.Path.{refl, sym, ◌∙◌}
use Prim.Native.Nat.{ℕ, ◌-◌}
use Rattle.texttable.proofs.names.strike.Goals as goal

abbrev part : List ℕ → ℕ → ℕ → List ℕ
part t from to = take (to - from) (drop from t)

pub loop-start-init : goal.loop-start-init
loop-start-init c = (refl, λ ns rest rest₀ n S L k. record { rest = rest; left = L; struck = k })

pub slice_bounds-find-count : goal.slice_bounds-find-count
slice_bounds-find-count c = omega (arith, (name-is c.args.text.now c.loop-start.at c.next_name.ensures c.in-Some.is).1)

pub slice_bounds-find-start : goal.slice_bounds-find-start
slice_bounds-find-start c = omega (arith, (name-is c.args.text.now c.loop-start.at c.next_name.ensures c.in-Some.is).1)

pub slice_bounds-find-end : goal.slice_bounds-find-end
slice_bounds-find-end c =
    let A = name-is c.args.text.now c.loop-start.at c.next_name.ensures c.in-Some.is in
    omega (arith, A.2, A.3)

pub bounds-marks-j : goal.bounds-marks-j
bounds-marks-j c =
    let l = c.loop-start in
    let a = c.args in
    let t = a.text.now in
    let i = found-listed t a.list.now a.links.now (part t c.in-Some.field-0.start c.in-Some.field-0.end) a.count c.find.ensures c.in-Listed.is in
    omega (arith, i.0, l.invariant.0, c.requires.0)

pub loop-start-smaller-in-Listed : goal.loop-start-smaller-in-Listed
loop-start-smaller-in-Listed c =
    let A = name-is c.args.text.now c.loop-start.at c.next_name.ensures c.in-Some.is in
    omega (arith, A.0, A.1, A.2, A.3)

pub loop-start-preserved-in-Listed : goal.loop-start-preserved-in-Listed
loop-start-preserved-in-Listed c =
    let l = c.loop-start in
    let a = c.args in
    let t = a.text.now in
    let A = name-is c.args.text.now c.loop-start.at c.next_name.ensures c.in-Some.is in
    let i = found-listed t a.list.now a.links.now (part t c.in-Some.field-0.start c.in-Some.field-0.end) a.count c.find.ensures c.in-Listed.is in
    let e = i.1 ∙ part-is t c.in-Some.field-0.start c.in-Some.field-0.end (omega (arith, A.1)) (omega (arith, A.2, A.3)) in (
      search rules,
      λ ns rest rest₀ n S L k. (
          let K = l.invariant.1 ns rest rest₀ n S L k in
          let M = A.4 K.rest K.left in
          record {
            rest = M.rest;
            left = M.left;
            struck =
                strikes-listed t a.list.now a.links.now ns S l.marks (place c.in-Some.field-0.start c.in-Some.field-0.end) c.in-Some.field-0.next K.rest rest₀ M
                K.struck c.in-Listed.j
                (omega (arith, n, l.invariant.0, c.requires.0)) (omega (arith, n, i.0)) e;
          }),
    )

pub loop-start-smaller : goal.loop-start-smaller
loop-start-smaller c =
    let A = name-is c.args.text.now c.loop-start.at c.next_name.ensures c.in-Some.is in
    omega (arith, A.0, A.1, A.2, A.3)

pub loop-start-preserved : goal.loop-start-preserved
loop-start-preserved c =
    let l = c.loop-start in
    let a = c.args in
    let t = a.text.now in
    let A = name-is c.args.text.now c.loop-start.at c.next_name.ensures c.in-Some.is in
    let m = found-free t a.list.now a.links.now (part t c.in-Some.field-0.start c.in-Some.field-0.end) a.count c.find.ensures c.in_default-find.is in (
      l.invariant.0,
      λ ns rest rest₀ n S L k. (
          let K = l.invariant.1 ns rest rest₀ n S L k in
          let M = A.4 K.rest K.left in
          record {
            rest = M.rest;
            left = M.left;
            struck =
                strikes-other t a.list.now a.links.now ns S l.marks (place c.in-Some.field-0.start c.in-Some.field-0.end) c.in-Some.field-0.next K.rest rest₀ M
                K.struck
                (λ i h z. m.none i (omega (arith, n)) (z ∙ sym (part-is t c.in-Some.field-0.start c.in-Some.field-0.end (omega (arith, A.1)) (omega (arith, A.2, A.3)))));
          }),
    )

pub returns : goal.returns
returns c =
    let l = c.loop-start in
    let t = c.args.text.now in
    λ ns rest rest₀ n S L k. (
    let K = l.invariant.1 ns rest rest₀ n S L k in
    all-struck t ns l.marks K.rest rest₀ (name-is t l.at c.next_name.ensures c.in_default.is K.rest
    K.left) K.struck)
