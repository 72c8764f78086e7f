-- 01's example of a listing, computed by the definitions: the 24 bytes are a table, and its plan has 01's four lines.
use mathlib.Core.Path.{◌≡◌, refl, sym, subst, ◌∙◌}
use mathlib.Core.Bool.{false}
use mathlib.Core.List.{List, [], ◌∷◌}
use Prim.Native.Nat.{ℕ, ◌<◌}
use native.Mathlib.Omega.{arith}
use lib.ListN.{length}
use Rattle.cell.specs.Cell.{values_at, arity, is_var}
use Rattle.cell.specs.Same.{same, among}
use Rattle.term.specs.Terms.{none, more, root, close}
use Rattle.table.specs.All.{All}
use Rattle.refusal.specs.Read.{read}
use Rattle.octets.specs.Octets.{digits_of, decimal, cells_of}
use Rattle.printing.specs.Printing.{symbol_of}
use Rattle.table.specs.Table.{Table, table, terms_from, rows_from, table_of}
use Rattle.plan.specs.Runs.{agree}
use Rattle.plan.specs.Plans.{Plan, leaf, node, end, next, write, plain, cost}
use Rattle.plan.specs.code.Fits.{Fits}
use Rattle.plan.proofs.PlansLaws.{write-one}
use Rattle.least.specs.Least.{Built}
use Rattle.least.specs.code.Best.{argmin, total, best}
use Rattle.least.proofs.Builder.{place, run_cells, plan_cells, plan-built}
use Rattle.least.proofs.Weighed.{plain-light}
use Rattle.listing.specs.Listing.{line, lines_in, header, listing_of, listed, unread, Lists, cells}

-- cells 2, 2, 1073741825, 1073741826, 1073741825, 2147483657
unfoldable pub bytes : List ℕ
bytes = 2 ∷ 0 ∷ 0 ∷ 0 ∷ 2 ∷ 0 ∷ 0 ∷ 0 ∷ 1 ∷ 0 ∷ 0 ∷ 64 ∷ 2 ∷ 0 ∷ 0 ∷ 64 ∷ 1 ∷ 0 ∷ 0 ∷ 64 ∷ 9 ∷ 0 ∷ 0 ∷ 128 ∷ []

unfoldable pub example : Table
example = table 2 ((1073741825 ∷ 1073741826 ∷ []) ∷ (1073741825 ∷ 2147483657 ∷ []) ∷ [])

pub reads : table_of (cells_of bytes) ≡ read example
unfolding bytes example cells_of table_of rows_from among same terms_from values_at
reads = refl

unfoldable pub tree : Plan example.width example.rows
unfolding example root close agree arity values_at is_var
tree = node {k = 1} 0 (omega arith) (next (node {k = 0} 0 (omega arith) (next leaf (next leaf end))) end)

-- place 0 for the one branch n1/0, place 0 again for the branches n2/0 and i9: the builder's plan
fits : All (Fits 2 example.width) example.rows
unfolding example arity values_at
fits = ((more (more none), omega arith), ((more (more none), omega arith), tt))

some : 0 < length example.rows
unfolding example
some = omega arith

cells_are : write tree ≡ plan_cells plain 2 [] example.width example.rows
unfolding tree example write plan_cells place run_cells best total argmin root close agree arity values_at is_var
cells_are = refl

pub built : Built plain [] tree
built =
    let b = plan-built plain plain-light 2 [] example.width example.rows (omega arith) fits some in
    subst (λ (p : Plan example.width example.rows). Built plain [] p) (write-one b.plan tree (b.writes-it ∙ sym cells_are)) b.built

-- rows 2 width 2 edges 3
-- 0 0 n1/0 0-1
-- 1 0 n2/0 0-0
-- 1 0 i9 1-1
unfoldable pub text : List ℕ
text =
    114 ∷ 111 ∷ 119 ∷ 115 ∷ 32 ∷ 50 ∷ 32 ∷ 119 ∷ 105 ∷ 100 ∷ 116 ∷ 104 ∷ 32 ∷ 50 ∷ 32 ∷ 101 ∷ 100 ∷ 103 ∷ 101 ∷ 115 ∷ 32 ∷ 51 ∷ 10
    ∷ 48 ∷ 32 ∷ 48 ∷ 32 ∷ 110 ∷ 49 ∷ 47 ∷ 48 ∷ 32 ∷ 48 ∷ 45 ∷ 49 ∷ 10
    ∷ 49 ∷ 32 ∷ 48 ∷ 32 ∷ 110 ∷ 50 ∷ 47 ∷ 48 ∷ 32 ∷ 48 ∷ 45 ∷ 48 ∷ 10
    ∷ 49 ∷ 32 ∷ 48 ∷ 32 ∷ 105 ∷ 57 ∷ 32 ∷ 49 ∷ 45 ∷ 49 ∷ 10 ∷ []

lines : listing_of example tree ≡ text
unfolding text tree example header line lines_in cost decimal digits_of symbol_of root close agree arity values_at is_var
lines = refl

short : unread bytes ≡ false
unfolding bytes
short = refl

pub example-lists : Lists bytes text
example-lists = subst (Lists bytes) lines (cells short (listed example tree reads built))
