use Prim.Native.Nat.{ℕ, ◌+◌, ◌-◌}
use mathlib.Core.Path.{refl, sym, ap, subst, ◌∙◌}
use mathlib.Core.List.{List}
use native.Mathlib.Omega.{arith}
use Rattle.scan.specs.code.Levels.{stored}
use mathlib.Core.Bool.{false}
use Rattle.scan.specs.code.Arguments.{spot, Moved}
use Rattle.scan.specs.declared.arguments.Move.TheVariants as move
use Rattle.scan.proofs.MoveLaws.{name-moves, variable-moves, number-moves, open-moves}
use Rattle.scan.proofs.MoveLaws.{stop-moves, comma-fact, comma-full, comma-inside, close-fact, close-inside}
use Rattle.scan.proofs.arguments.move_on.Goals as goal

pub returns-then-sp-eq0 : goal.returns-then-sp-eq0
returns-then-sp-eq0 c =
    let n = c.next_turn in
    comma-fact c.args.text.now c.args.dones.now c.args.sp c.requires n.ensures c.in-Comma.is refl
    c.if-sp-eq0.true

pub returns-then-k-ge3 : goal.returns-then-k-ge3
returns-then-k-ge3 c =
    let n = c.next_turn in
    comma-full c.args.text.now c.args.dones.now c.args.sp c.requires n.ensures c.in-Comma.is
    c.if-sp-eq0.false (omega (arith, c.level-k.ensures.0, c.if-k-ge3.true))

pub returns-then-sp-eq0-2 : goal.returns-then-sp-eq0-2
returns-then-sp-eq0-2 c =
    let n = c.next_turn in
    close-fact c.args.text.now c.args.dones.now c.args.sp c.requires n.ensures c.in-Close.is c.if-sp-eq0-2.true

pub returns-in-Name : goal.returns-in-Name
returns-in-Name c =
    let n = c.next_turn in
    name-moves c.args.text.now c.args.dones.now c.args.sp c.requires n.ensures c.after_symbol.ensures c.in-Name.is

pub returns-in-Open : goal.returns-in-Open
returns-in-Open c =
    let n = c.next_turn in
    λ F U.
    subst (λ (dones : List ℕ). Moved F c.args.text.now dones c.args.sp (move.Go (spot (c.in-Open.e + 1) false (c.args.sp.depth + 1) c.args.sp.done (c.args.sp.symbols + 1))))
    (sym c.put_level.ensures)
    (open-moves c.args.text.now c.args.dones.now c.args.sp c.requires n.ensures refl c.in-Open.is F U)

pub returns-in-Variable : goal.returns-in-Variable
returns-in-Variable c =
    let n = c.next_turn in
    variable-moves c.args.text.now c.args.dones.now c.args.sp c.requires n.ensures c.after_symbol-in-Variable.ensures c.in-Variable.is

pub returns-in-Number : goal.returns-in-Number
returns-in-Number c =
    let n = c.next_turn in
    number-moves c.args.text.now c.args.dones.now c.args.sp c.requires n.ensures c.after_symbol-in-Number.ensures c.in-Number.is

pub returns-else-k-ge3 : goal.returns-else-k-ge3
returns-else-k-ge3 c =
    let n = c.next_turn in
    let l = c.level-k.ensures.0 in
    let e = c.put_level-in-Comma.ensures ∙ ap (λ (v : ℕ). stored c.args.dones.now (c.args.sp.depth - 1) (v + 1)) l in
    λ F U.
    subst (λ (dones : List ℕ). Moved F c.args.text.now dones c.args.sp (move.Go (spot (c.in-Comma.p + 1) false c.args.sp.depth c.args.sp.done c.args.sp.symbols))) (sym e)
    (comma-inside c.args.text.now c.args.dones.now c.args.sp c.requires n.ensures c.in-Comma.is refl
    c.if-sp-eq0.false
    (omega (arith, l, c.if-k-ge3.false)) F U)

pub returns-else-sp-eq0-2 : goal.returns-else-sp-eq0-2
returns-else-sp-eq0-2 c =
    let n = c.next_turn in
    close-inside c.args.text.now c.args.dones.now c.args.sp c.requires n.ensures c.in-Close.is refl
    c.if-sp-eq0-2.false

pub returns-in-Stop : goal.returns-in-Stop
returns-in-Stop c =
    let n = c.next_turn in
    stop-moves c.args.text.now c.args.dones.now c.args.sp c.requires n.ensures c.in-Stop.is
