use mathlib.Core.Path.{refl, sym, ◌∙◌}
use Prim.Native.Nat.{◌/◌, ◌%◌, ◌^◌}
use native.Mathlib.Omega.{arith}
use borrow.Author.Tests.{eq-eqb, ne_eqb, lt-ltb, le-ltb}
use borrow.Author.Rules.{rules}
use Rattle.state.proofs.FlagsLaws.{lowest, is_odd, bit-room, one_up}
use Rattle.state.proofs.flags.with_column.Statement.{statement}
use Rattle.state.proofs.flags.with_column.Tie as tie

returns : tie.Need-returns-then-c-gt7
returns c = (rw (le-ltb c.args.c 8 (omega arith)), c.requires)

shr-if2 : tie.Need-overflow_shr-mask
shr-if2 c = search rules

shl-result : tie.Need-overflow_shl-result
shl-result c = search rules

add-result : tie.Need-overflow_add-result
add-result c =
    let a = c.args in
    record {
      fits = omega (
        arith,
        one_up a.c (omega arith),
        bit-room 8 a.mask a.c c.requires (omega arith) (sym (lowest (a.mask / 2 ^ a.c)) ∙ c.if-mask-c-eq0.true),
      );
    }

returns-2 : tie.Need-returns-then-mask-c-eq0
returns-2 c =
    let a = c.args in
    let e = sym (lowest (a.mask / 2 ^ a.c)) ∙ c.if-mask-c-eq0.true in
    rw (one_up a.c (omega arith), lt-ltb a.c 8 (omega arith), eq-eqb _ 0 e) (refl, bit-room 8 a.mask a.c c.requires (omega arith) e)

returns-3 : tie.Need-returns
returns-3 c =
    let a = c.args in
    let e = is_odd (a.mask / 2 ^ a.c) c.if-mask-c-eq0.false in
    (rw (lt-ltb a.c 8 (omega arith), ne_eqb (a.mask / 2 ^ a.c % 2) 0 (λ z. omega arith)), c.requires)

pub with_column_spec : {M : Type 1} → statement M
with_column_spec = tie.close (tie.spec returns shr-if2 shl-result add-result returns-2 returns-3)
