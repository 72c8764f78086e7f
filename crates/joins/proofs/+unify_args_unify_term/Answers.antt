-- `unify_term` and `unify_args` (src/lib.rt), by the laws of ArrayLaws.
use Rattle.std.proofs.Common.{◌≡◌, ℕ, ◌+◌, ◌-◌, ◌<◌, ◌%◌, refl, ◌∙◌, arith}
use Rattle.classes.proofs.ArrayLaws.{going-first, going_next, going-apart, going-last, first-inside}
use Rattle.classes.proofs.ArrayLaws.{some-class, same_class, small_at, one_class, code-left, code-right, code_apart, code-args}
use Rattle.joins.proofs.+unify_args_unify_term.Goals as goal

-- a number below 64 is that of its node
as_node : (w x v : ℕ) → (x < 64) × (w < 64 → x ≡ w) × (x ≡ w % 64) → w ≡ v → v < 64 → x ≡ v
as_node w x v n e h = n.1 (omega arith) ∙ e

pub unify_args-loop-init : goal.unify_args-loop-init
unify_args-loop-init t c =
    let z : c.args.k - 0 ≡ c.args.k = omega arith in
    (omega arith, λ R h. rw z (going-first R h (let s = some-class R.ready 0 (omega arith) in omega arith)))

pub unify_args-returns-then-n-eq0 : goal.unify_args-returns-then-n-eq0
unify_args-returns-then-n-eq0 t c = (
  omega arith,
  λ R h.
      let l = c.loop in
      let g = l.invariant.1 R h in
      let i = c.node-a.ensures.1 (first-inside c.args.sib.now (c.args.k - l.counter) l.i (omega arith) g.here).0 in
      let j = c.node-b.ensures.1 (first-inside c.args.sib.now (c.args.k - l.counter) l.j (omega arith) g.there).0 in
      let u = rw (i, j) at (c.unify_term-n.ensures.1 g.ready g.number) in
      going-apart g (omega arith) u (omega arith),
)

pub unify_args-loop-preserved : goal.unify_args-loop-preserved
unify_args-loop-preserved t c =
    let l = c.loop in
    let u = c.unify_term-n.ensures in (
      omega (arith, u.0, l.invariant.0),
      λ R h.
          let g = l.invariant.1 R h in
          let i = c.node-a.ensures.1 (first-inside c.args.sib.now (c.args.k - l.counter) l.i (omega arith) g.here).0 in
          let j = c.node-b.ensures.1 (first-inside c.args.sib.now (c.args.k - l.counter) l.j (omega arith) g.there).0 in
          let m : c.args.k - (l.counter + 1) ≡ c.args.k - l.counter - 1 = omega arith in
          rw (c.wide-i.ensures, c.wide-j.ensures, i, j, m)
          (going_next g (omega arith) (rw (i, j) at (u.1 g.ready g.number)) (λ e. (let z : ⊥ = omega arith in z))),
    )

pub unify_args-returns : goal.unify_args-returns
unify_args-returns t c = let l = c.loop in (l.invariant.0, λ R h. going-last (l.invariant.1 R h) (omega arith))

pub unify_term-returns-then-x-y : goal.unify_term-returns-then-x-y
unify_term-returns-then-x-y t c =
    (omega arith, λ R h. same_class R c.args.a c.args.b c.args.left c.requires.0 c.requires.1 h (omega arith))

pub unify_term-returns-then-left-eq0 : goal.unify_term-returns-then-left-eq0
unify_term-returns-then-left-eq0 t c = (
  omega arith,
  λ R h. let o = one_class R c.args.a c.args.b c.args.left c.requires.0 c.requires.1 h in absurd (let z : ⊥ = omega arith in z),
)

pub unify_term-returns-then-f-eq0 : goal.unify_term-returns-then-f-eq0
unify_term-returns-then-f-eq0 t c = (
  omega arith,
  λ R h.
      let i = as_node _ _ _ c.node-i.ensures c.wide.ensures (small_at R c.args.a c.args.b c.args.left c.requires.0 c.requires.1 h) in
      let j = as_node _ _ _ c.node-j.ensures c.wide-2.ensures (small_at R c.args.b c.args.a c.args.left c.requires.1 c.requires.0 h) in
      code-left R c.args.a c.args.b c.args.left c.requires.0 c.requires.1 h i j
      refl refl (λ e. (let z : ⊥ = omega arith in z)) (omega arith) (c.join_to.ensures R.size),
)

pub unify_term-returns-then-g-eq0 : goal.unify_term-returns-then-g-eq0
unify_term-returns-then-g-eq0 t c = (
  omega arith,
  λ R h.
      let i = as_node _ _ _ c.node-i.ensures c.wide.ensures (small_at R c.args.a c.args.b c.args.left c.requires.0 c.requires.1 h) in
      let j = as_node _ _ _ c.node-j.ensures c.wide-2.ensures (small_at R c.args.b c.args.a c.args.left c.requires.1 c.requires.0 h) in
      code-right R c.args.a c.args.b c.args.left c.requires.0 c.requires.1 h i j
      refl refl (λ e. (let z : ⊥ = omega arith in z)) (omega arith) (c.join_to-then-g-eq0.ensures R.size),
)

pub unify_term-returns-then-f-g : goal.unify_term-returns-then-f-g
unify_term-returns-then-f-g t c = (
  omega arith,
  λ R h.
      let i = as_node _ _ _ c.node-i.ensures c.wide.ensures (small_at R c.args.a c.args.b c.args.left c.requires.0 c.requires.1 h) in
      let j = as_node _ _ _ c.node-j.ensures c.wide-2.ensures (small_at R c.args.b c.args.a c.args.left c.requires.1 c.requires.0 h) in
      code_apart R c.args.a c.args.b c.args.left c.requires.0 c.requires.1 h i j
      refl refl (λ e. (let z : ⊥ = omega arith in z))
      (λ e. (let z : ⊥ = omega arith in z)) (λ e. (let z : ⊥ = omega arith in z)) (λ e. (let z : ⊥ = omega arith in z)),
)

pub unify_term-returns : goal.unify_term-returns
unify_term-returns t c =
    let u = c.unify_args.ensures in (
      omega (arith, u.0),
      λ R h.
          let i = as_node _ _ _ c.node-i.ensures c.wide.ensures (small_at R c.args.a c.args.b c.args.left c.requires.0 c.requires.1 h) in
          let j = as_node _ _ _ c.node-j.ensures c.wide-2.ensures (small_at R c.args.b c.args.a c.args.left c.requires.1 c.requires.0 h) in
          code-args R c.args.a c.args.b c.args.left c.requires.0 c.requires.1 h i j refl refl (λ e. (let z : ⊥ = omega arith in z))
          c.wide-p.ensures c.wide-q.ensures c.arity_of-k.ensures
          (λ e. (let n = c.if-f-eq0.false in let z : ⊥ = omega arith in z))
          (omega (arith, c.if-f-g.false)) (c.join_to-2.ensures R.size) u.1,
    )
