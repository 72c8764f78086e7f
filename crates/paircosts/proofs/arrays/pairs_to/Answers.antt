use Rattle.std.proofs.Common.{◌≡◌, List, ℕ, ◌-◌, arith, length, replicate, get_or, refl, ◌<◌}
use Prim.Native.Nat.{suc}
use Rattle.std.proofs.lemmas.List.{length-replicate}
use Rattle.paircosts.specs.declared.arrays.Note.{Note}
use Rattle.paircosts.specs.code.Notes.{note}
use Rattle.paircosts.specs.code.Filling.{pair_row, LastAt, NotedTo, KeepsBefore}
use Rattle.paircosts.proofs.FillLaws.{last_row, last-noted, pair-at, pair-kept, next_row, next-noted, rows-done}
use Rattle.paircosts.proofs.arrays.pairs_to.Goals as goal

room : length (replicate {A = Note} 64 (note 0 0 0)) ≡ 64
room = length-replicate {0} {A = Note} 64 (note 0 0 0)

pub keep_before-requires : goal.keep_before-requires
keep_before-requires c =
    let g = c.requires in
    pair-at g.task (last-noted g.task g.here g.late g.filled room (c.note_last-agreed.ensures (last_row g.task g.here room)).1)

pub note_row-agreed-requires : goal.note_row-agreed-requires
note_row-agreed-requires c =
    let g = c.requires in
    let x = last-noted g.task g.here g.late g.filled room (c.note_last-agreed.ensures (last_row g.task g.here room)).1 in
    let k = pair-kept g.task x (c.keep_before.ensures (pair-at g.task x)) in
    let is : pair_row (c.loop-number.number - 1) (get_or c.args.starts.now (c.loop-number.number - 1) 0) c.loop-number.first.start
    ≡ pair_row (c.loop-number.first.number - 1) (get_or c.args.starts.now (c.loop-number.first.number - 1) 0) c.loop-number.first.start =
    rw c.loop-number.invariant.is in
    next_row g.task (c.loop-number.invariant.noted g.old g.task k) (omega (arith, c.loop-number.invariant.is)) _ is

pub keep_before-requires-in-loop-number : goal.keep_before-requires-in-loop-number
keep_before-requires-in-loop-number c =
    let g = c.requires in
    let x = last-noted g.task g.here g.late g.filled room (c.note_last-agreed.ensures (last_row g.task g.here room)).1 in
    let k = pair-kept g.task x (c.keep_before.ensures (pair-at g.task x)) in
    let is : pair_row (c.loop-number.number - 1) (get_or c.args.starts.now (c.loop-number.number - 1) 0) c.loop-number.first.start
    ≡ pair_row (c.loop-number.first.number - 1) (get_or c.args.starts.now (c.loop-number.first.number - 1) 0) c.loop-number.first.start =
    rw c.loop-number.invariant.is in
    let y = c.loop-number.invariant.noted g.old g.task k in
    let some : 0 < c.loop-number.first.number = omega (arith, c.loop-number.invariant.is) in
    pair-at g.task (next-noted g.task y some _ is c.note_row-agreed.new.notes c.note_row-agreed.result
    (c.note_row-agreed.ensures (next_row g.task y some _ is)))

pub loop-number-preserved : goal.loop-number-preserved
loop-number-preserved c = record {
  is = refl;
  noted = λ old t k.
      (let is : pair_row (c.loop-number.number - 1) (get_or c.args.starts.now (c.loop-number.number - 1) 0) c.loop-number.first.start
      ≡ pair_row (c.loop-number.first.number - 1) (get_or c.args.starts.now (c.loop-number.first.number - 1) 0) c.loop-number.first.start =
      rw c.loop-number.invariant.is in
      let y = c.loop-number.invariant.noted old t k in
      let some : 0 < c.loop-number.first.number = omega (arith, c.loop-number.invariant.is) in
      let z = next-noted t y some _ is c.note_row-agreed.new.notes c.note_row-agreed.result (c.note_row-agreed.ensures (next_row t y some _ is)) in
      pair-kept t z (c.keep_before-in-loop-number.ensures (pair-at t z)));
}

pub returns : goal.returns
returns c = λ g.
    (let x = last-noted g.task g.here g.late g.filled room (c.note_last-agreed.ensures (last_row g.task g.here room)).1 in
    let k = pair-kept g.task x (c.keep_before.ensures (pair-at g.task x)) in
    rows-done g.task (c.loop-number.invariant.noted g.old g.task k) (omega (arith, c.loop-number.invariant.is)))
