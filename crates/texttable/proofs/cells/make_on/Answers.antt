use mathlib.Core.Path.{refl}
use native.Mathlib.Omega.{arith}
use Rattle.symbols.proofs.NextLaws.{turn_is}
use Rattle.texttable.proofs.MakeLaws.{name-fits, name-low, name-made, open-fits, open-deep, open_made, variable-fits, variable-low, variable-made}
use Rattle.texttable.proofs.MakeLaws.{number_fits, number-low, number-made, argument-fits, comma-outer, comma-inner, close-inner, close-outer}
use Rattle.texttable.proofs.MakeLaws.{never-stops}
use Rattle.texttable.proofs.NumberLaws.{variable-few}
use borrow.Author.Rules.{rules}
use Rattle.texttable.proofs.cells.make_on.Goals as goal

pub put_name-n-requires : goal.put_name-n-requires
put_name-n-requires c =
    let a = c.args in
    let T = turn_is c.args.text.now c.args.m.at c.args.m.past c.next_turn.ensures c.in-Name.is in
    name-fits a.text.now a.list.now a.links.now a.words.now a.ways.now a.given.now a.cells.now a.owners.now a.m
    a.k c.in-Name.s c.in-Name.e T c.requires

pub overflow_add-count : goal.overflow_add-count
overflow_add-count c =
    let a = c.args in
    let T = turn_is c.args.text.now c.args.m.at c.args.m.past c.next_turn.ensures c.in-Name.is in
    omega (
      arith,
      name-low a.text.now a.list.now a.links.now a.words.now a.ways.now a.given.now
          a.cells.now a.owners.now a.m a.k c.in-Name.s c.in-Name.e T c.requires,
    )

pub put_name-n-requires-in-Open : goal.put_name-n-requires-in-Open
put_name-n-requires-in-Open c =
    let a = c.args in
    let T = turn_is c.args.text.now c.args.m.at c.args.m.past c.next_turn.ensures c.in-Open.is in
    open-fits a.text.now a.list.now a.links.now a.words.now a.ways.now a.given.now a.cells.now a.owners.now a.m
    a.k c.in-Open.s c.in-Open.e T c.requires

pub overflow_cast-owners : goal.overflow_cast-owners
overflow_cast-owners c = omega (
  arith,
  (open-deep c.args.text.now c.args.list.now c.args.links.now c.args.words.now c.args.ways.now c.args.given.now c.args.cells.now c.args.owners.now
      c.args.m c.args.k c.in-Open.s c.in-Open.e (turn_is c.args.text.now c.args.m.at c.args.m.past c.next_turn.ensures c.in-Open.is) c.requires).0,
)

pub offset_bounds-owners-depth : goal.offset_bounds-owners-depth
offset_bounds-owners-depth c = omega (
  arith,
  (open-deep c.args.text.now c.args.list.now c.args.links.now c.args.words.now c.args.ways.now c.args.given.now c.args.cells.now c.args.owners.now
      c.args.m c.args.k c.in-Open.s c.in-Open.e (turn_is c.args.text.now c.args.m.at c.args.m.past c.next_turn.ensures c.in-Open.is) c.requires).2,
)

pub bounds-owners-depth : goal.bounds-owners-depth
bounds-owners-depth c = (open-deep c.args.text.now c.args.list.now c.args.links.now c.args.words.now c.args.ways.now c.args.given.now c.args.cells.now c.args.owners.now
    c.args.m c.args.k c.in-Open.s c.in-Open.e (turn_is c.args.text.now c.args.m.at c.args.m.past c.next_turn.ensures c.in-Open.is) c.requires).1

pub overflow_add-e : goal.overflow_add-e
overflow_add-e c =
    let k = (turn_is c.args.text.now c.args.m.at c.args.m.past c.next_turn.ensures c.in-Open.is).leads in
    search rules

pub overflow_add-depth : goal.overflow_add-depth
overflow_add-depth c = omega (
  arith,
  (open-deep c.args.text.now c.args.list.now c.args.links.now c.args.words.now c.args.ways.now c.args.given.now c.args.cells.now c.args.owners.now
      c.args.m c.args.k c.in-Open.s c.in-Open.e (turn_is c.args.text.now c.args.m.at c.args.m.past c.next_turn.ensures c.in-Open.is) c.requires).2,
)

pub overflow_add-count-in-Open : goal.overflow_add-count-in-Open
overflow_add-count-in-Open c =
    let k = open-deep c.args.text.now c.args.list.now c.args.links.now c.args.words.now c.args.ways.now c.args.given.now c.args.cells.now c.args.owners.now
    c.args.m c.args.k c.in-Open.s c.in-Open.e (turn_is c.args.text.now c.args.m.at c.args.m.past c.next_turn.ensures c.in-Open.is) c.requires in
    search rules

pub number_variable-met-requires : goal.number_variable-met-requires
number_variable-met-requires c =
    let a = c.args in
    let T = turn_is c.args.text.now c.args.m.at c.args.m.past c.next_turn.ensures c.in-Variable.is in
    let f = variable-fits a.text.now a.list.now a.links.now a.words.now a.ways.now a.given.now a.cells.now a.owners.now
    a.m a.k c.in-Variable.s c.in-Variable.e T c.requires in
    (f.0, f.1, f.2, f.3, f.4, f.5)

pub put_variable-requires : goal.put_variable-requires
put_variable-requires c =
    let a = c.args in
    let T = turn_is c.args.text.now c.args.m.at c.args.m.past c.next_turn.ensures c.in-Variable.is in
    let f = variable-fits a.text.now a.list.now a.links.now a.words.now a.ways.now a.given.now a.cells.now a.owners.now
    a.m a.k c.in-Variable.s c.in-Variable.e T c.requires in
    let vars = c.requires.state.knows.vars in
    let is = c.number_variable-met.ensures vars in
    (f.6, omega (arith, is.low, variable-few is, vars.all, f.3, f.4))

pub overflow_add-count-in-Variable : goal.overflow_add-count-in-Variable
overflow_add-count-in-Variable c =
    let a = c.args in
    let T = turn_is c.args.text.now c.args.m.at c.args.m.past c.next_turn.ensures c.in-Variable.is in
    omega (
      arith,
      variable-low a.text.now a.list.now a.links.now a.words.now a.ways.now a.given.now
          a.cells.now a.owners.now a.m a.k c.in-Variable.s c.in-Variable.e T c.requires,
    )

pub put_number-requires : goal.put_number-requires
put_number-requires c =
    let a = c.args in
    let T = turn_is c.args.text.now c.args.m.at c.args.m.past c.next_turn.ensures c.in-Number.is in
    number_fits a.text.now a.list.now a.links.now a.words.now a.ways.now a.given.now a.cells.now a.owners.now a.m
    a.k c.in-Number.v c.in-Number.e T c.requires

pub overflow_add-count-in-Number : goal.overflow_add-count-in-Number
overflow_add-count-in-Number c =
    let a = c.args in
    let T = turn_is c.args.text.now c.args.m.at c.args.m.past c.next_turn.ensures c.in-Number.is in
    omega (
      arith,
      number-low a.text.now a.list.now a.links.now a.words.now a.ways.now a.given.now
          a.cells.now a.owners.now a.m a.k c.in-Number.v c.in-Number.e T c.requires,
    )

pub overflow_add-p : goal.overflow_add-p
overflow_add-p c =
    let a = c.args in
    let T = turn_is c.args.text.now c.args.m.at c.args.m.past c.next_turn.ensures c.in-Comma.is in
    let k = T.leads in
    search rules

pub returns-then-depth-eq0 : goal.returns-then-depth-eq0
returns-then-depth-eq0 c =
    let a = c.args in
    let T = turn_is c.args.text.now c.args.m.at c.args.m.past c.next_turn.ensures c.in-Comma.is in
    comma-outer a.text.now a.list.now a.links.now a.words.now a.ways.now a.given.now a.cells.now a.owners.now a.m
    a.k c.in-Comma.p T c.if-depth-eq0.true c.go-then-depth-eq0.ensures

pub add_argument-requires : goal.add_argument-requires
add_argument-requires c =
    let a = c.args in
    let T = turn_is c.args.text.now c.args.m.at c.args.m.past c.next_turn.ensures c.in-Comma.is in
    argument-fits a.text.now a.list.now a.links.now a.words.now a.ways.now a.given.now a.cells.now a.owners.now a.m
    a.k c.if-depth-eq0.false c.requires

pub overflow_add-p-in-Comma : goal.overflow_add-p-in-Comma
overflow_add-p-in-Comma c =
    let a = c.args in
    let T = turn_is c.args.text.now c.args.m.at c.args.m.past c.next_turn.ensures c.in-Comma.is in
    let k = T.leads in
    search rules

pub overflow_add-p-then-depth-eq0-2 : goal.overflow_add-p-then-depth-eq0-2
overflow_add-p-then-depth-eq0-2 c =
    let a = c.args in
    let T = turn_is c.args.text.now c.args.m.at c.args.m.past c.next_turn.ensures c.in-Close.is in
    let k = T.leads in
    search rules

pub returns-then-depth-eq0-2 : goal.returns-then-depth-eq0-2
returns-then-depth-eq0-2 c =
    let a = c.args in
    let T = turn_is c.args.text.now c.args.m.at c.args.m.past c.next_turn.ensures c.in-Close.is in
    close-outer a.text.now a.list.now a.links.now a.words.now a.ways.now a.given.now a.cells.now a.owners.now a.m
    a.k c.in-Close.p T c.after_row.new.ways c.after_row.result
    c.if-depth-eq0-2.true c.after_row.ensures

pub add_argument-requires-in-Close : goal.add_argument-requires-in-Close
add_argument-requires-in-Close c =
    let a = c.args in
    let T = turn_is c.args.text.now c.args.m.at c.args.m.past c.next_turn.ensures c.in-Close.is in
    argument-fits a.text.now a.list.now a.links.now a.words.now a.ways.now a.given.now a.cells.now a.owners.now a.m
    a.k c.if-depth-eq0-2.false c.requires

pub overflow_add-p-in-Close : goal.overflow_add-p-in-Close
overflow_add-p-in-Close c =
    let a = c.args in
    let T = turn_is c.args.text.now c.args.m.at c.args.m.past c.next_turn.ensures c.in-Close.is in
    let k = T.leads in
    search rules

pub returns-in-Name : goal.returns-in-Name
returns-in-Name c =
    let a = c.args in
    let T = turn_is c.args.text.now c.args.m.at c.args.m.past c.next_turn.ensures c.in-Name.is in
    name-made a.text.now a.list.now a.links.now a.words.now a.ways.now a.given.now a.cells.now a.owners.now a.m
    a.k c.in-Name.s c.in-Name.e T c.put_name-n.ensures c.go.ensures

pub returns-in-Open : goal.returns-in-Open
returns-in-Open c =
    let a = c.args in
    let T = turn_is c.args.text.now c.args.m.at c.args.m.past c.next_turn.ensures c.in-Open.is in
    open_made a.text.now a.list.now a.links.now a.words.now a.ways.now a.given.now a.cells.now a.owners.now a.m
    a.k c.in-Open.s c.in-Open.e T c.put_name-n-in-Open.ensures c.go-in-Open.ensures

pub returns-in-Variable : goal.returns-in-Variable
returns-in-Variable c =
    let a = c.args in
    let T = turn_is c.args.text.now c.args.m.at c.args.m.past c.next_turn.ensures c.in-Variable.is in
    λ R. variable-made a.text.now a.list.now a.links.now a.words.now a.ways.now a.given.now a.cells.now a.owners.now
    a.m a.k c.in-Variable.s c.in-Variable.e T R
    (record {
      numbered = c.number_variable-met.result;
      is = c.number_variable-met.ensures R.state.knows.vars;
      row = refl;
      cell = c.put_variable.ensures;
    })
    c.go-in-Variable.ensures

pub returns-in-Number : goal.returns-in-Number
returns-in-Number c =
    let a = c.args in
    let T = turn_is c.args.text.now c.args.m.at c.args.m.past c.next_turn.ensures c.in-Number.is in
    number-made a.text.now a.list.now a.links.now a.words.now a.ways.now a.given.now a.cells.now a.owners.now a.m
    a.k c.in-Number.v c.in-Number.e T c.put_number.ensures c.go-in-Number.ensures

pub returns-else-depth-eq0 : goal.returns-else-depth-eq0
returns-else-depth-eq0 c =
    let a = c.args in
    let T = turn_is c.args.text.now c.args.m.at c.args.m.past c.next_turn.ensures c.in-Comma.is in
    comma-inner a.text.now a.list.now a.links.now a.words.now a.ways.now a.given.now a.cells.now a.owners.now a.m
    a.k c.in-Comma.p T c.if-depth-eq0.false c.add_argument.ensures c.go-in-Comma.ensures

pub returns-else-depth-eq0-2 : goal.returns-else-depth-eq0-2
returns-else-depth-eq0-2 c =
    let a = c.args in
    let T = turn_is c.args.text.now c.args.m.at c.args.m.past c.next_turn.ensures c.in-Close.is in
    close-inner a.text.now a.list.now a.links.now a.words.now a.ways.now a.given.now a.cells.now a.owners.now a.m
    a.k c.in-Close.p T c.if-depth-eq0-2.false c.add_argument-in-Close.ensures
    c.go-in-Close.ensures

pub returns-in-Stop : goal.returns-in-Stop
returns-in-Stop c =
    let a = c.args in
    never-stops a.text.now a.list.now a.links.now a.words.now a.ways.now a.given.now a.cells.now a.owners.now a.m
    a.k c.in-Stop.field-0 a.k.names (turn_is c.args.text.now c.args.m.at c.args.m.past c.next_turn.ensures c.in-Stop.is)
