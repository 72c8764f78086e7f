use mathlib.Core.Path.{sym, ◌∙◌}
use native.Mathlib.Omega.{arith}
use Prim.Native.Nat.{◌/◌, ◌^◌}
use borrow.Author.Tests.{lt-ltb, le-ltb}
use borrow.Author.Rules.{rules}
use Rattle.state.specs.Flags.{spread_of}
use Rattle.state.proofs.FlagsLaws.{none_below, even_sum, odd-sum, even-few, odd-few, low-less, some-ones, ones-few, lowest, is_odd}
use Rattle.state.proofs.flags.spread.Statement.{statement}
use Rattle.state.proofs.flags.spread.Tie as tie

returns : tie.Need-returns-then-named-eq0
returns c = let a = c.args in sym (none_below a.named a.i a.args c.if-named-eq0.true)

returns-2 : tie.Need-returns-then-i-gt31
unfolding spread_of
returns-2 c = let a = c.args in rw (le-ltb a.i 32 (omega arith))

returns-3 : tie.Need-returns-then-args-gt4
unfolding spread_of
returns-3 c = let a = c.args in rw (lt-ltb a.i 32 (omega arith), le-ltb a.args 5 (omega arith))

returns-4 : tie.Need-returns-then-named-gt4294967295
unfolding spread_of
returns-4 c =
    let a = c.args in
    rw (lt-ltb a.i 32 (omega arith), lt-ltb a.args 5 (omega arith), le-ltb a.named (2 ^ 32) (omega arith))

shr-rest : tie.Need-overflow_shr-rest
shr-rest c = search rules

shl-low : tie.Need-overflow_shl-low
shl-low c = search rules

sub_low : tie.Need-overflow_sub-low
sub_low c = let a = c.args in low-less a.named a.i a.args (omega arith) (omega arith)

shl-high : tie.Need-overflow_shl-high
shl-high c = search rules

shl-result : tie.Need-overflow_shl-result
shl-result c = search rules

-- the place's flag does not stand
add-result : tie.Need-overflow_add-result
add-result c =
    let a = c.args in
    let e = sym (lowest (a.named / 2 ^ a.i)) ∙ c.if-rest-eq0.true in
    record {
      fits = omega (
        arith,
        even_sum a.named a.i a.args (omega arith) (omega arith) e,
        even-few a.named a.i a.args (omega arith) (omega arith) e,
      );
    }

returns-5 : tie.Need-returns-then-rest-eq0
unfolding spread_of
returns-5 c =
    let a = c.args in
    rw (lt-ltb a.named (2 ^ 32) (omega arith), lt-ltb a.i 32 (omega arith), lt-ltb a.args 5 (omega arith))
    (even_sum a.named a.i a.args (omega arith) (omega arith) (sym (lowest (a.named / 2 ^ a.i)) ∙ c.if-rest-eq0.true))

shl-ones : tie.Need-overflow_shl-ones
shl-ones c = search rules

sub-ones : tie.Need-overflow_sub-ones
sub-ones c = let a = c.args in some-ones a.named a.i a.args (omega arith) (omega arith)

add-result-2 : tie.Need-overflow_add-result-2
add-result-2 c =
    let a = c.args in
    record { fits = omega (arith, ones-few a.named a.i a.args (omega arith) (omega arith)) }

shl-result-2 : tie.Need-overflow_shl-result-2
shl-result-2 c = search rules

-- it stands
add-result-3 : tie.Need-overflow_add-result-3
add-result-3 c =
    let a = c.args in
    let e = is_odd (a.named / 2 ^ a.i) c.if-rest-eq0.false in
    record {
      fits = omega (
        arith,
        odd-sum a.named a.i a.args (omega arith) (omega arith) e,
        odd-few a.named a.i a.args (omega arith) (omega arith) e,
      );
    }

returns-6 : tie.Need-returns
unfolding spread_of
returns-6 c =
    let a = c.args in
    rw (lt-ltb a.named (2 ^ 32) (omega arith), lt-ltb a.i 32 (omega arith), lt-ltb a.args 5 (omega arith))
    (odd-sum a.named a.i a.args (omega arith) (omega arith) (is_odd (a.named / 2 ^ a.i) c.if-rest-eq0.false))

pub spread_spec : {M : Type 1} → statement M
spread_spec =
    tie.close
    (tie.spec
    returns
    returns-2
    returns-3
    returns-4
    shr-rest
    shl-low
    sub_low
    shl-high
    shl-result
    add-result
    returns-5
    shl-ones
    sub-ones
    add-result-2
    shl-result-2
    add-result-3
    returns-6)
