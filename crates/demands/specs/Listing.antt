-- The listing (01, "On both sides", and 02, W-204 and W-206), as a statement of what is given and what is written. It is no entry of the library;
-- src/lib.rt ties it to the function that the program `planlist` calls.
--
-- `bytes` are the program's input, `room` and `after` the room before and after, `n` the number of bytes of the listing.
use Rattle.std.specs.Prelude.{ℕ, ◌%◌, ◌≤◌, ◌<◌, ◌≡◌, ◌⊎◌, List, [], length, take, drop}
use Rattle.refusal.specs.Refusal.{Refused}
use Rattle.refusal.specs.Read.{refuse}
use Rattle.table.specs.Table.{table, table_of, IsTable}
use Rattle.plan.specs.Plans.{Plan, plain, branches}
use Rattle.least.specs.Least.{Built}
use Rattle.octets.specs.Octets.{cells_of}
use Rattle.printing.specs.Printing.{refusal}
use Rattle.listing.specs.Listing.{listing_of}

-- whole cells, and no more of them than a table may have
abbrev pub WholeCells : List ℕ → Type 0
WholeCells bytes = (length bytes % 4 ≡ 0) × (length bytes ≤ 8200)

-- 00, "The plan our builder writes has the fewest branches of all plans the check accepts for that table", by 01's own measure, which the
-- listing keeps (W-204); and of several such it is the one that 01 fixes
pub record Fewest (width : ℕ) (rows : List (List ℕ)) (text : List ℕ) : Type 0 where
  pub tree : Plan width rows
  pub rule : Built plain [] tree
  pub fewest : (other : Plan width rows) → branches tree ≤ branches other
  pub text-is : listing_of (table width rows) tree ≡ text

pub record Listing (bytes room after : List ℕ) (n : ℕ) : Type 0 where
  pub lists : (width : ℕ) (rows : List (List ℕ)) → WholeCells bytes → IsTable (cells_of bytes) width rows → Fewest width rows (take n after)
  -- "A refusal prints `refused N at K`; bytes not a multiple of four, or over 8,200, print `refused 1 at 0`"
  pub refuses : (f : Refused) → WholeCells bytes → table_of (cells_of bytes) ≡ refuse f → take n after ≡ refusal f.number f.place
  pub unread : (0 < length bytes % 4) ⊎ (8200 < length bytes) → take n after ≡ refusal 1 0
  pub rest : drop n after ≡ drop n room
