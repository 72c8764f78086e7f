-- `finite` and `finite_args` (src/lib.rt), by the laws of SearchLaws.
use Rattle.std.proofs.Common.{◌≡◌, ℕ, suc, ◌+◌, ◌-◌, ◌<◌, ◌%◌, List, length, get_or, set, ◌∙◌, arith}
use lib.ListN.{length-set}
use Rattle.classes.specs.code.Search.{news}
use Rattle.classes.proofs.SearchLaws.{fewer-new, fewer-same, fewer-more, fewer-down, fewer-end}
use Rattle.classes.proofs.SearchLaws.{x-small, found-done, found-way, down-ready, down-cycles, down_ends}
use Rattle.classes.proofs.SearchLaws.{looking-call, looking-next, looking-cycles, looking-last}
use Rattle.classes.proofs.ArrayLaws.{first-inside}
use Rattle.joins.proofs.+finite_finite_args.Goals as goal

-- a number below 64 is that of its node
as_node : (w x v : ℕ) → (x < 64) × (w < 64 → x ≡ w) × (x ≡ w % 64) → w ≡ v → v < 64 → x ≡ v
as_node w x v n e h = n.1 (omega arith) ∙ e

-- a new node is marked, and they are fewer
module _ (mark : List ℕ) (x : ℕ) (l : length mark ≡ 64) (h : x < 64) (z : get_or mark x 0 ≡ 0) where
  marked : length (set mark x 1) ≡ 64
  marked = length-set mark x 1 ∙ l

  fewer : suc (news (set mark x 1)) ≡ news mark
  fewer = fewer-new mark x l h z

pub finite-returns-then-m-eq2 : goal.finite-returns-then-m-eq2
finite-returns-then-m-eq2 t c = (
  fewer-same c.requires.1,
  λ S. let q = as_node _ _ _ c.node-x.ensures c.wide.ensures (x-small S) in found-done S (rw (← q) (omega arith)),
)

pub finite-returns-then-m-ne0 : goal.finite-returns-then-m-ne0
finite-returns-then-m-ne0 t c = (
  fewer-same c.requires.1,
  λ S.
      let q = as_node _ _ _ c.node-x.ensures c.wide.ensures (x-small S) in
      found-way S (rw (← q) (λ e. (let z : ⊥ = omega arith in z))) (rw (← q) (λ e. (let z : ⊥ = omega arith in z))),
)

pub finite-finite_args-requires : goal.finite-finite_args-requires
finite-finite_args-requires t c =
    let n = fewer c.args.mark.now c.node-x.result c.requires.1 c.node-x.ensures.0 (omega arith) in
    (omega (arith, n), marked c.args.mark.now c.node-x.result c.requires.1 c.node-x.ensures.0 (omega arith))

pub finite-returns-then-not-finite_args : goal.finite-returns-then-not-finite_args
finite-returns-then-not-finite_args t c =
    let n = fewer c.args.mark.now c.node-x.result c.requires.1 c.node-x.ensures.0 (omega arith) in
    let f = c.finite_args.ensures in (
      fewer-down n f.0,
      λ S.
          let q = as_node _ _ _ c.node-x.ensures c.wide.ensures (x-small S) in
          down-cycles S q (omega arith) c.arity_of-k.ensures c.wide-p.ensures
          (f.1 (down-ready S q (omega arith) c.arity_of-k.ensures c.wide-p.ensures)) c.if-not-finite_args.true,
    )

pub finite-returns : goal.finite-returns
finite-returns t c =
    let n = fewer c.args.mark.now c.node-x.result c.requires.1 c.node-x.ensures.0 (omega arith) in
    let f = c.finite_args.ensures in (
      fewer-end c.node-x.result c.node-x.ensures.0 (fewer-down n f.0),
      λ S.
          let q = as_node _ _ _ c.node-x.ensures c.wide.ensures (x-small S) in
          down_ends S q (omega arith) c.arity_of-k.ensures c.wide-p.ensures
          (f.1 (down-ready S q (omega arith) c.arity_of-k.ensures c.wide-p.ensures)) c.if-not-finite_args.false,
    )

pub finite_args-returns-then-not-finite : goal.finite_args-returns-then-not-finite
finite_args-returns-then-not-finite t c =
    let l = c.loop in
    let f = c.finite.ensures in (
      fewer-more l.invariant.0 f.0,
      λ S.
          let n = c.node-r.ensures.1 (first-inside c.args.sib.now (c.args.k - l.counter) l.q (omega arith) (l.invariant.1 S).here).0 in
          let s = rw n at (f.1 (rw n (looking-call (l.invariant.1 S) (omega arith)))) in
          looking-cycles (l.invariant.1 S) (omega arith) s c.if-not-finite.true,
    )

pub finite_args-loop-preserved : goal.finite_args-loop-preserved
finite_args-loop-preserved t c =
    let l = c.loop in
    let f = c.finite.ensures in (
      fewer-more l.invariant.0 f.0,
      λ S.
          let n = c.node-r.ensures.1 (first-inside c.args.sib.now (c.args.k - l.counter) l.q (omega arith) (l.invariant.1 S).here).0 in
          let s = rw n at (f.1 (rw n (looking-call (l.invariant.1 S) (omega arith)))) in
          let m : c.args.k - (l.counter + 1) ≡ c.args.k - l.counter - 1 = omega arith in
          rw (c.wide-q.ensures, n, m) (looking-next (l.invariant.1 S) (omega arith) s c.if-not-finite.false),
    )

pub finite_args-returns : goal.finite_args-returns
finite_args-returns t c = let l = c.loop in (l.invariant.0, λ S. looking-last (l.invariant.1 S) (omega arith))
