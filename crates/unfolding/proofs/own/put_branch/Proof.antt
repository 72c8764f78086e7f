use mathlib.Core.Path.{◌≡◌, sym}
use native.Mathlib.Omega.{arith}
use lib.ListN.{length}
use lib.Seq.{length-take-le}
use borrow.Author.Rules.{rules}
use Rattle.heads.proofs.HeadLaws.{decided-in}
use Rattle.unfolding.proofs.OwnLaws.{branch-inside, branch-decides, starts, called-fits, branch-narrow, branch-put}
use Rattle.unfolding.proofs.own.put_branch.Statement.{statement}
use Rattle.unfolding.proofs.own.put_branch.Tie as tie

-- src/own.rt:39:13
mul-c : tie.Need-offset_bounds-plan-p
mul-c c = let h = branch-inside c.requires in omega (arith, h)

-- src/own.rt:39:13
shared-slice-read-c : tie.Need-bounds-plan-p
shared-slice-read-c c = let h = branch-inside c.requires in omega (arith, h.0)

-- src/own.rt:41:23
slice-aggregate-decide-in : tie.Need-slice_bounds-decide_in-end
slice-aggregate-decide-in c = search rules

-- src/own.rt:41:9
decide-in-requires : tie.Need-decide_in-n-requires
decide-in-requires c κs = search rules

-- src/own.rt:43:13
add-t13 : tie.Need-overflow_add-start
add-t13 c = let h = branch-inside c.requires in omega (arith, h)

-- src/own.rt:44:17
arity-of-requires : tie.Need-arity_of-requires
arity-of-requires c κs = search rules

-- src/own.rt:44:17
add-put-clause : tie.Need-overflow_add-start-2
add-put-clause c =
    let h = branch-narrow c.requires in
    omega (arith, h, c.arity_of.ensures)

-- src/own.rt:44:17
sub-put-clause : tie.Need-overflow_sub-start
sub-put-clause c = search rules

-- src/own.rt:47:28
slice-aggregate-fold-run : tie.Need-slice_bounds-fold_run-end
slice-aggregate-fold-run c = search rules

-- src/own.rt:47:9
fold-run-requires : tie.Need-fold_run-f-requires
fold-run-requires c κs = ((let k : length c.decide_in-n.new.head ≡ 32 = search rules in
    let q = decided-in (branch-decides c.requires) c.decide_in-n.ensures in
    starts c.requires k q.0 q.1 c.arity_of.ensures)).folds

-- src/own.rt:52:9
cast-put-clause : tie.Need-overflow_cast-o
cast-put-clause c = let w = c.requires in record { fits = omega (arith, w.predicate-small) }

-- src/own.rt:53:9
called-at-requires : tie.Need-called_at-requires
called-at-requires c κs = search rules

-- src/own.rt:53:9
cast-put-clause-2 : tie.Need-overflow_cast-called_at
cast-put-clause-2 c =
    record { fits = called-fits c.requires c.fold_run-f.result.places c.called_at.ensures }

-- src/own.rt:54:9
cast-put-clause-3 : tie.Need-overflow_cast-o-2
cast-put-clause-3 c = let h = branch-narrow c.requires in record { fits = omega (arith, h) }

-- src/own.rt:55:9
array-share-prefix-head : tie.Need-slice_bounds-head-end
array-share-prefix-head c = let f = (c.fold_run-f.ensures ((let k : length c.decide_in-n.new.head ≡ 32 = search rules in
    let q = decided-in (branch-decides c.requires) c.decide_in-n.ensures in
    starts c.requires k q.0 q.1 c.arity_of.ensures)).folds) in omega (arith, f.room, f.within)

-- src/own.rt:55:9
slice-aggregate-put-clause : tie.Need-slice_bounds-put_clause-end
slice-aggregate-put-clause c =
    let f = (c.fold_run-f.ensures ((let k : length c.decide_in-n.new.head ≡ 32 = search rules in
    let q = decided-in (branch-decides c.requires) c.decide_in-n.ensures in
    starts c.requires k q.0 q.1 c.arity_of.ensures)).folds) in
    sym (length-take-le c.fold_run-f.result.cells c.fold_run-f.new.head (omega (arith, f.room, f.within)))

-- src/own.rt:49:5
put-clause-requires : tie.Need-put_clause-requires
put-clause-requires c κs = search rules

-- src/own.rt:34:1
same_length : tie.Need-shape_of-program
same_length c = search rules

-- src/own.rt:34:1
returns : tie.Need-returns
returns c =
    λ w.
    let s = (let k : length c.decide_in-n.new.head ≡ 32 = search rules in
    let q = decided-in (branch-decides w) c.decide_in-n.ensures in
    starts w k q.0 q.1 c.arity_of.ensures) in
    branch-put w s (c.fold_run-f.ensures s.folds) c.called_at.ensures c.put_clause.ensures

pub put_branch_spec : {M : Type 1} → statement M
put_branch_spec =
    tie.close
    (tie.spec
    mul-c
    shared-slice-read-c
    slice-aggregate-decide-in
    decide-in-requires
    add-t13
    arity-of-requires
    add-put-clause
    sub-put-clause
    slice-aggregate-fold-run
    fold-run-requires
    cast-put-clause
    called-at-requires
    cast-put-clause-2
    cast-put-clause-3
    array-share-prefix-head
    slice-aggregate-put-clause
    put-clause-requires
    same_length
    returns)
