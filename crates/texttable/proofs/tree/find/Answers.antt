use Prim.Native.Nat.{ℕ, suc, ◌-◌, ◌≤◌, ◌<◌}
use mathlib.Core.Path.{◌≡◌, sym, ◌∙◌}
use native.Mathlib.Omega.{arith}
use lib.ListN.{get_or}
use Rattle.texttable.specs.code.Tree.{start, word_listed}
use Rattle.cell.proofs.SameLaws.{same-eq}
use Rattle.texttable.proofs.TreeLaws.{begins, no_way, trail-later, advance, bit_is, mix-kept}
use Rattle.texttable.proofs.tree.find.Goals as goal

lt : {k m count : ℕ} → (k ≡ 0 → ⊥) → k ≡ m → m ≤ count → k - 1 < count
lt n e h = omega arith

nonzero : {k m : ℕ} → (k ≡ 0 → ⊥) → k ≡ m → m ≡ suc (k - 1)
nonzero n e = omega arith

pub loop-count-init : goal.loop-count-init
loop-count-init c =
    let a = c.args in
    let w = a.word.now in (
      omega arith,
      omega arith,
      record { trail = start; ways = λ i h e. begins a.text.now a.list.now a.links.now a.count c.requires w i h e },
      λ h. absurd (omega arith),
    )

pub offset_bounds-links-slot : goal.offset_bounds-links-slot
offset_bounds-links-slot c =
    let a = c.args in
    let T = c.requires in
    let w = a.word.now in
    omega (arith, T.slots, T.room)

pub bounds-links-slot : goal.bounds-links-slot
bounds-links-slot c =
    let a = c.args in
    let T = c.requires in
    let w = a.word.now in
    omega (arith, T.slots, T.room)

pub returns-then-k-eq0 : goal.returns-then-k-eq0
returns-then-k-eq0 c =
    let a = c.args in
    let T = c.requires in
    let w = a.word.now in
    let z = sym c.from-k.ensures ∙ c.if-k-eq0.true in
    record {
      none = λ i h e. no_way a.text.now a.list.now a.links.now a.count T (c.loop-count.invariant.2.ways i h e) z;
      depth = c.loop-count.d;
      trail = c.loop-count.invariant.2.trail;
      free = z;
    }

pub offset_bounds-list-j : goal.offset_bounds-list-j
offset_bounds-list-j c =
    let a = c.args in
    let T = c.requires in
    let w = a.word.now in
    omega (arith, T.slots, T.room, T.lead c.loop-count.slot, c.from-k.ensures)

pub bounds-list-j : goal.bounds-list-j
bounds-list-j c =
    let a = c.args in
    let T = c.requires in
    let w = a.word.now in
    omega (arith, T.slots, T.room, T.lead c.loop-count.slot, c.from-k.ensures, c.if-k-eq0.false)

pub is_word-requires : goal.is_word-requires
is_word-requires c =
    let a = c.args in
    let T = c.requires in
    let w = a.word.now in
    T.fits (c.from-k.result - 1) (lt c.if-k-eq0.false c.from-k.ensures (T.lead c.loop-count.slot))

pub returns-then-is_word : goal.returns-then-is_word
returns-then-is_word c =
    let a = c.args in
    let T = c.requires in
    let w = a.word.now in
    let k = c.from-k in (
      lt c.if-k-eq0.false k.ensures (T.lead c.loop-count.slot),
      sym (same-eq w (word_listed a.text.now (get_or a.list.now (k.result - 1) 0)) (sym c.is_word.ensures ∙ c.if-is_word.true)),
    )

pub mix_at-mix-requires : goal.mix_at-mix-requires
mix_at-mix-requires c = c.loop-count.invariant.3

pub overflow_mul-slot : goal.overflow_mul-slot
overflow_mul-slot c =
    let a = c.args in
    let T = c.requires in
    let w = a.word.now in
    omega (arith, T.slots, T.room, T.lead c.loop-count.slot, c.from-k.ensures)

pub overflow_add-slot : goal.overflow_add-slot
overflow_add-slot c =
    let a = c.args in
    let T = c.requires in
    let w = a.word.now in
    omega (arith, T.slots, T.room, T.lead c.loop-count.slot, c.from-k.ensures)

pub overflow_add-slot-in-loop-count : goal.overflow_add-slot-in-loop-count
overflow_add-slot-in-loop-count c =
    let a = c.args in
    let T = c.requires in
    let w = a.word.now in
    omega (arith, T.slots, T.room, T.lead c.loop-count.slot, c.from-k.ensures)

pub overflow_add-d : goal.overflow_add-d
overflow_add-d c =
    let a = c.args in
    let T = c.requires in
    let w = a.word.now in
    omega (arith, T.slots, T.room)

pub loop-count-smaller : goal.loop-count-smaller
loop-count-smaller c =
    let a = c.args in
    let T = c.requires in
    let w = a.word.now in
    let k = c.from-k in
    let z = nonzero c.if-k-eq0.false k.ensures in
    omega (
      arith,
      trail-later a.text.now a.list.now a.links.now a.count T (k.result - 1) c.loop-count.invariant.2.trail z,
      T.lead c.loop-count.slot,
      z,
      c.bit.ensures.1,
    )

pub loop-count-preserved : goal.loop-count-preserved
loop-count-preserved c =
    let a = c.args in
    let T = c.requires in
    let w = a.word.now in
    let k = c.from-k in
    let z = nonzero c.if-k-eq0.false k.ensures in
    let l = trail-later a.text.now a.list.now a.links.now a.count T (k.result - 1) c.loop-count.invariant.2.trail z in (
      omega (arith, T.lead c.loop-count.slot, z, c.bit.ensures.1),
      omega (arith, l, z, c.bit.ensures.1),
      advance a.text.now a.list.now a.links.now a.count T k.result c.bit.result c.loop-count.invariant.2 k.ensures
          c.if-k-eq0.false
          (sym c.is_word.ensures ∙ c.if-is_word.false)
          (bit_is w c.loop-count.d c.mix_at-mix.result c.bit.result c.mix_at-mix.ensures c.bit.ensures.0),
      mix-kept w c.loop-count.d c.mix_at-mix.result c.mix_at-mix.ensures,
    )
