use Rattle.std.proofs.Common.{◌+◌, ◌*◌, arith, ap}
use Rattle.paircosts.specs.declared.arrays.Choice.{Choice}
use Rattle.paircosts.proofs.KeepLaws.{columns-given, part-is, sorted, keep-small, put-same-values}
use Rattle.paircosts.proofs.arrays.keep_pair.Goals as goal

pub part_of-part-requires : goal.part_of-part-requires
part_of-part-requires c = (columns-given c.requires, c.requires.light)

pub best_of-best-requires : goal.best_of-best-requires
best_of-best-requires c =
    let p = c.part_of-part.ensures (columns-given c.requires) in
    sorted c.requires (part-is c.requires c.part_of-part.result p.0) p.1

pub overflow_add-kept : goal.overflow_add-kept
overflow_add-kept c =
    let g = c.requires in
    let p = c.part_of-part.ensures (columns-given g) in
    let least = ap (λ (x : Choice). x.cost) (c.best_of-best.ensures (sorted g (part-is g c.part_of-part.result p.0) p.1)) in
    omega (arith, least, keep-small g, p.1)

pub returns : goal.returns
returns c = λ g.
    (let p = c.part_of-part.ensures (columns-given g) in
    let sort = part-is g c.part_of-part.result p.0 in
    let best = c.best_of-best.ensures (sorted g sort p.1) in
    record {
      is = put-same-values c.args.kept.now (64 * c.args.row.number + c.args.shared.last) sort.agreed-is
          (ap (λ (x : Choice). x.cost) best) (ap (λ (x : Choice). x.place) best);
    })
