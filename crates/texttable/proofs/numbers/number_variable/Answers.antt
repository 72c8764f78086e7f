use Rattle.texttable.specs.code.Numbers.{VariableIs}
use Rattle.grammar.specs.Meaning.{place}
use Prim.Native.Nat.{ℕ}
use Rattle.texttable.proofs.NumberLaws.{fresh-variable, old-variable, new-variable}
use native.Mathlib.Omega.{arith}
use mathlib.Core.Path.{sym, subst, ◌∙◌}
use Rattle.texttable.proofs.numbers.number_variable.Goals as goal

pub returns-then-is_fresh : goal.returns-then-is_fresh
returns-then-is_fresh c =
    let a = c.args in
    λ v. fresh-variable a.text.now a.words.now a.ways.now a.given.now a.row a.start a.end v
    (sym c.is_fresh.ensures ∙ c.if-is_fresh.true)

pub returns-then-j-named : goal.returns-then-j-named
returns-then-j-named c =
    let a = c.args in
    let m = c.meet-j in
    λ v. subst (λ (c : ℕ). VariableIs a.text.now v.places (place a.start a.end) m.new.list m.new.links a.given.now
    (record { number = c; row = a.row }))
    (sym c.from.ensures) (old-variable a.text.now a.words.now a.ways.now a.given.now a.row a.start a.end v
    (sym c.is_fresh.ensures
    ∙ c.if-is_fresh.false) m.ensures (omega arith))

pub returns : goal.returns
returns c =
    let a = c.args in
    λ v. new-variable a.text.now a.words.now a.ways.now a.given.now a.row a.start a.end v (omega arith) (omega arith)
    (sym c.is_fresh.ensures
    ∙ c.if-is_fresh.false) c.meet-j.ensures
    (omega arith)
