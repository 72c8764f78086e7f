-- `meets_variable` (src/lib.rt).
use mathlib.Core.Path.{refl}
use mathlib.Core.Logic.{◌≢◌}
use native.Mathlib.Omega.{arith}
use lib.ListN.{get_or}
use Rattle.alone.specs.code.Rest.{first-met, met-again}
use borrow.Author.Rules.{rules}
use Rattle.repeats.proofs.meets_variable.Statement.{statement}
use Rattle.repeats.proofs.meets_variable.Tie as tie

place-requires : tie.Need-place-v-requires
place-requires c κs = search rules

element-copy-out-w : tie.Need-bounds-keep-v
element-copy-out-w c = search rules

cast-keep : tie.Need-overflow_cast-keep
cast-keep c = search rules

element-write-keep : tie.Need-bounds-keep-v-then-w-eq-NONE
element-write-keep c = search rules

returns : tie.Need-returns-then-w-eq-NONE
returns c =
    λ refs next S v.
    let e = c.place-v.ensures.1 (S.low v) in
    first-met v (rw (← e) (omega arith)) refl refl refl (rw e refl) refl

wide-requires : tie.Need-wide-requires
wide-requires c κs = search rules

unify-requires : tie.Need-unify-requires
unify-requires c κs = search rules

returns-2 : tie.Need-returns
returns-2 c =
    λ refs next S v.
    let p = c.before.before.before.before.before in
    let e = p.place-v.ensures.1 (S.low v) in
    let w = c.wide.ensures in
    let n : get_or p.args.keep.now p.args.c 0 ≢ 64 = rw (← e) (λ o. let z : ⊥ = omega arith in z) in
    met-again v n (rw (w, e) at (c.unify.ensures S.ready (rw (w, e) (S.kept v n)) S.node)) refl refl refl refl

pub meets_variable_spec : {M : Type 1} → statement M
meets_variable_spec =
    tie.close
    (tie.spec
    place-requires
    element-copy-out-w
    cast-keep
    element-write-keep
    returns
    wide-requires
    unify-requires
    returns-2)
