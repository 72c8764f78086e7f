-- The listing of what the function beneath `planlist` promises: `Written (Lists bytes)`. The statements are in specs/Listing.
use Prim.Native.Nat.{ℕ, ◌%◌, ◌<◌}
use mathlib.Core.Path.{◌≡◌, refl, sym, ap, ◌∙◌, subst}
use mathlib.Core.Bool.{true, false, or-true}
use mathlib.Core.Logic.{◌⊎◌, inl, inr}
use mathlib.Core.List.{List, []}
use native.Mathlib.Omega.{arith}
use lib.Dec.{ltb}
use lib.ListN.{length, take, drop}
use lib.Seq.{take_at, drop_at}
use borrow.Author.Tests.{lt-ltb, le-ltb, eq-eqb, ne_eqb}
use Rattle.refusal.specs.Refusal.{Refused}
use Rattle.refusal.specs.Read.{refuse}
use Rattle.term.specs.Terms.{Terms}
use Rattle.table.specs.All.{All}
use Rattle.table.specs.Table.{Table, table, table_of, Row, IsTable}
use Rattle.table.proofs.AllLaws.{all-each}
use Rattle.table.proofs.ReadLaws.{apart, read_one, refuse-one}
use Rattle.plan.specs.Plans.{Plan, plain}
use Rattle.least.specs.Least.{Built}
use Rattle.least.proofs.Building.{built-least}
use Rattle.least.proofs.NoneNamed.{plain-least}
use Rattle.least.proofs.Later.{from-plain}
use Rattle.least.proofs.Weighed.{plain-light}
use Rattle.octets.specs.Octets.{cells_of}
use Rattle.printing.specs.Printing.{refusal, Written}
use Rattle.listing.specs.Listing.{listing_of, ListsTable, refused, listed, unread, Lists, no_cells, cells}
use Rattle.demands.specs.Listing.{WholeCells, Fewest, Listing}
use Rattle.demands.proofs.Cited.{reads}

-- what the two tests of the bytes say
whole : (bytes : List ℕ) → WholeCells bytes → unread bytes ≡ false
whole bytes h = rw (le-ltb 8200 (length bytes) h.1, eq-eqb (length bytes % 4) 0 h.0)

no_whole : (bytes : List ℕ) → (0 < length bytes % 4) ⊎ (8200 < length bytes) → unread bytes ≡ true
no_whole bytes (inl l) = rw (ne_eqb (length bytes % 4) 0 (λ e. omega arith)) (or-true (ltb 8200 (length bytes)))
no_whole bytes (inr l) = rw (lt-ltb 8200 (length bytes) l)

both : {A : Type 0} (bytes : List ℕ) → unread bytes ≡ true → unread bytes ≡ false → A
both bytes t f = absurd (let z : ◌≡◌ {A = ℕ} 0 1 = cc in omega arith)

-- of a table's cells
of-table : {t text : List ℕ} {width : ℕ} {rows : List (List ℕ)} → IsTable t width rows → ListsTable t text → Fewest width rows text
of-table i (refused f e) = apart (sym (reads i) ∙ e)
of-table {text = text} {width} {rows} i (listed T tree e b) = of-rows (read_one (sym e ∙ reads i)) tree b refl
  where
    terms : All (Terms width) rows
    terms = all-each (Row width) (Terms width) (λ r x. x.terms) rows i.each

    of-rows : {U : Table} → U ≡ table width rows → (p : Plan U.width U.rows) → Built plain [] p → text ≡ listing_of U p → Fewest width rows text
    of-rows q = subst (λ (U : Table). (p : Plan U.width U.rows) → Built plain [] p → text ≡ listing_of U p → Fewest width rows text) (sym q) (λ p d k.
        record {
          tree = p;
          rule = d;
          fewest = λ other. omega (arith, plain-least plain (built-least plain plain-light [] p terms d).0 other, from-plain p [], from-plain other []);
          text-is = sym k;
        })

of-refused : {t text : List ℕ} {f : Refused} → table_of t ≡ refuse f → ListsTable t text → text ≡ refusal f.number f.place
of-refused e (refused g d) = ap (λ (h : Refused). refusal h.number h.place) (refuse-one (sym d ∙ e))
of-refused e (listed T tree d b) = apart (sym d ∙ e)

module _ {bytes room after : List ℕ} {n : ℕ} (x : Written (Lists bytes) room after n) where
  front : take n after ≡ x.text
  front = ap (take n) x.front ∙ take_at x.text _ n (sym x.count)

  pub listing-kept : Listing bytes room after n
  listing-kept = record {
    lists = λ width rows h i. rw front (go h i x.right);
    refuses = λ f h e. front ∙ no_table f h e x.right;
    unread = λ h. front ∙ no_bytes h x.right;
    rest = ap (drop n) x.front ∙ drop_at x.text _ n (sym x.count) ∙ ap (λ (k : ℕ). drop k room) (sym x.count);
  }
    where
      go : {text : List ℕ} {width : ℕ} {rows : List (List ℕ)} → WholeCells bytes → IsTable (cells_of bytes) width rows → Lists bytes text
          → Fewest width rows text
      go h i (no_cells u) = both bytes u (whole bytes h)
      go h i (cells u l) = of-table i l

      no_table : {text : List ℕ} (f : Refused) → WholeCells bytes → table_of (cells_of bytes) ≡ refuse f → Lists bytes text
          → text ≡ refusal f.number f.place
      no_table f h e (no_cells u) = both bytes u (whole bytes h)
      no_table f h e (cells u l) = of-refused e l

      no_bytes : {text : List ℕ} → (0 < length bytes % 4) ⊎ (8200 < length bytes) → Lists bytes text → text ≡ refusal 1 0
      no_bytes h (no_cells u) = refl
      no_bytes h (cells u l) = both bytes (no_whole bytes h) u
