use Prim.Native.Nat.{ℕ, ◌≤◌}
use mathlib.Core.Path.{refl, sym, ◌∙◌}
use mathlib.Core.List.{List}
use native.Mathlib.Omega.{arith}
use lib.ListN.{length, take, replicate}
use lib.Seq.{length-take-le}
use Rattle.texttable.proofs.TreeLaws.{no_words, zero-at, empty-tree}
use Rattle.texttable.proofs.MakeLaws.{written-part}
use Rattle.texttable.specs.code.Cells.{Writes, Fresh}
use Rattle.texttable.proofs.cells.write_few.Goals as goal

abbrev fresh : (t list cells : List ℕ) → Writes 512 t list cells
    → Fresh t (take 512 list) (replicate 1025 0) (replicate 512 0) (replicate 1025 0) (replicate 512 0) cells (replicate 512 0)
fresh t list cells W =
    let l = length-take-le 512 list (omega (arith, W.for-list)) in
    record {
      most = 512;
      whole = list;
      writes = W;
      low = omega arith;
      for-list = l;
      for-words = refl;
      for-given = refl;
      for-owners = refl;
      names = no_words t (take 512 list) (replicate 1025 0) (omega (arith, l)) (zero-at 1025);
      vars = empty-tree t 512 1025 (omega arith);
    }

pub slice_bounds-make_all-end-2 : goal.slice_bounds-make_all-end-2
slice_bounds-make_all-end-2 c =
    sym (length-take-le 512 c.args.list.now (omega (arith, c.requires.for-list)))

pub make_all-requires : goal.make_all-requires
make_all-requires c =
    let a = c.args in
    fresh a.text.now a.list.now a.cells.now c.requires

pub returns : goal.returns
returns c = λ W.
    let a = c.args in
    let h : 512 ≤ length a.list.now = omega (arith, W.for-list) in
    let l = length-take-le 512 a.list.now h in
    let n = c.make_all in
    written-part 512 h (n.auto.list ∙ l) (n.ensures (fresh a.text.now a.list.now a.cells.now W))
