use Prim.Native.Nat.{ℕ}
use mathlib.Core.Path.{refl}
use mathlib.Core.List.{List}
use native.Mathlib.Omega.{arith}
use lib.ListN.{replicate}
use Rattle.texttable.proofs.TreeLaws.{no_words, zero-at, empty-tree}
use Rattle.texttable.specs.code.Cells.{Writes, Fresh}
use Rattle.limits.specs.Limits.{most_names}
use Rattle.texttable.proofs.cells.write_many.Goals as goal

abbrev fresh : (t list cells : List ℕ) → Writes most_names t list cells
    → Fresh t list (replicate 4097 0) (replicate most_names 0) (replicate 4097 0) (replicate most_names 0) cells (replicate most_names 0)
fresh t list cells W =
    record {
      most = most_names;
      whole = list;
      writes = W;
      low = omega arith;
      for-list = W.for-list;
      for-words = refl;
      for-given = refl;
      for-owners = refl;
      names = no_words t list (replicate 4097 0) (omega (arith, W.for-list)) (zero-at 4097);
      vars = empty-tree t most_names 4097 (omega arith);
    }

pub make_all-requires : goal.make_all-requires
make_all-requires c =
    let a = c.args in
    fresh a.text.now a.list.now a.cells.now c.requires

pub returns : goal.returns
returns c = λ W.
    let a = c.args in
    c.make_all.ensures (fresh a.text.now a.list.now a.cells.now W)
