use mathlib.Core.Path.{sym}
use Prim.Native.Nat.{ℕ}
use lib.ListN.{length-replicate}
use lib.Seq.{length-take-le}
use Rattle.std.proofs.lemmas.Result.{err_from_is_err_and}
use Rattle.handing.proofs.EntryLaws.{made_of, is-listed, not_listed, written, is-handed, is-refused}
use Rattle.handing.proofs.hand_back.Goals as goal

pub returns-in_err-n : goal.returns-in_err-n
returns-in_err-n c =
    let p = err_from_is_err_and c.from_residual.result c.from_residual.ensures.1 in
    rw (p.1, p.2) (is-refused c.«unfold».ensures c.in_err-n.was)

pub returns-then-not-listed : goal.returns-then-not-listed
returns-then-not-listed c =
    let m = made_of (length-replicate {A = ℕ} 4608 0) c.«unfold».ensures c.in_ok-n.was in
    not_listed m c.listed.result c.listed.ensures c.if-not-listed.true

pub slice_bounds-program-end : goal.slice_bounds-program-end
slice_bounds-program-end c = (made_of (length-replicate {A = ℕ} 4608 0) c.«unfold».ensures c.in_ok-n.was).inside

pub slice_bounds-put-end : goal.slice_bounds-put-end
slice_bounds-put-end c =
    sym (length-take-le _ _ (made_of (length-replicate {A = ℕ} 4608 0) c.«unfold».ensures c.in_ok-n.was).inside)

pub put-requires : goal.put-requires
put-requires c =
    let m = made_of (length-replicate {A = ℕ} 4608 0) c.«unfold».ensures c.in_ok-n.was in
    written m (is-listed m c.listed.result c.listed.ensures c.if-not-listed.false)

pub returns : goal.returns
returns c =
    let m = made_of (length-replicate {A = ℕ} 4608 0) c.«unfold».ensures c.in_ok-n.was in
    is-handed m (is-listed m c.listed.result c.listed.ensures c.if-not-listed.false) c.put.ensures
