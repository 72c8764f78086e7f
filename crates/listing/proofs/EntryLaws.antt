-- The way from any bytes to what is written: a table that is read, its plan with the marks, and the front of the room.
use Rattle.std.specs.Prelude.{Result, Ok, Err}
use Rattle.builder.specs.declared.BuiltPlan.{BuiltPlan}
use mathlib.Core.Path.{◌≡◌, refl, sym, ap, ◌∙◌}
use mathlib.Core.Bool.{true, false}
use mathlib.Core.List.{List, [], ◌++◌, append-nil}
use Prim.Native.Nat.{ℕ, ◌%◌, ◌≤◌, ◌<◌}
use native.Mathlib.Omega.{arith}
use lib.ListN.{length, take, drop, length-append}
use lib.Seq.{take-append_seam, take_at}
use borrow.Author.Tests.{lt-ltb, le-ltb, eq-eqb, ne_eqb}
use Rattle.refusal.specs.Refusal.{told, answered, turned}
use Rattle.refusal.specs.declared.Refusal.{Refusal}
use Rattle.refusal.specs.Read.{read, refuse}
use Rattle.octets.specs.Octets.{Put, cells_of}
use Rattle.octets.proofs.PutLaws.{put-put, put-length, put_front}
use Rattle.octets.proofs.CellsLaws.{cells_count}
use Rattle.table.specs.All.{All}
use Rattle.table.specs.Table.{Table, table_of, up_from}
use Rattle.table.proofs.ReadLaws.{apart, read_one}
use Rattle.table.proofs.Accepted.{is-table}
use Rattle.plan.specs.Plans.{Plan, write, branches, plain, cost}
use Rattle.plan.specs.code.Fits.{Fits}
use Rattle.plannotes.specs.Noted.{NotedInto, refused}
use Rattle.plannotes.specs.declared.Noted as handed
use Rattle.plannotes.proofs.Fixed.{whole}
use Rattle.plan.proofs.NotesLaws.{notes-fit}
use Rattle.plan.proofs.PlansLaws.{plan-tells, cost-plain}
use Rattle.plan.proofs.SizeLaws.{bound, size-bound}
use Rattle.plan.proofs.CheckLaws.{accepted, rows_fit}
use Rattle.least.specs.Measures.{cost_by}
use Rattle.least.specs.declared.By.TheVariants as by
use Rattle.least.proofs.Measured.{by-table}
use Rattle.least.proofs.Later.{from-plain}
use Rattle.builder.specs.Build.{table_for, BuiltInto, table-refused, room-refused, built, build_told}
use Rattle.builder.proofs.AskedLaws.{plain-table}
use Rattle.builder.proofs.ColumnsLaws.{plain-built}
use Rattle.listing.specs.Listing.{header, listing_of, unread}
use Rattle.listing.specs.code.Walk.{Marked, Ready, Walked, Planned}
use Rattle.listing.specs.declared.walk.Stand.{Stand}
use Rattle.listing.proofs.LengthLaws.{listing-few}
use Rattle.listing.proofs.MarkLaws.{marked}
use Rattle.listing.proofs.WalkLaws.{stand}
use Rattle.limits.specs.Limits.{most_plan_cells, most_table_cells}

-- what is noted does not depend on which plan wrote the cells

same-notes : (before : List ℕ) (T T' : Table) → T ≡ T' → (p : Plan T.width T.rows) (q : Plan T'.width T'.rows) → write p ≡ write q
    → whole before T.width T.rows p ≡ whole before T'.width T'.rows q
same-notes before T T' e p q w =
    (plan-tells (whole before) (ap (λ (T : Table). T.width) e) (ap (λ (T : Table). T.rows) e) p q [] [] (ap (λ (l : List ℕ). l ++ []) w)).0

-- a table that is read, as the laws of plans want it
few : (t : List ℕ) {T : Table} → table_of t ≡ read T
    → All (Fits 32 T.width) T.rows × (0 < length T.rows) × (length T.rows ≤ 64) × (T.width ≤ 8)
few t {T} e = let is = is-table t e in (rows_fit T.width T.rows is.each, is.count.0, is.count.1, is.width.1)

pub planned-few : {t plan : List ℕ} {costs : ℕ} (w : Planned t plan costs) → length (listing_of w.table w.tree) ≤ 43035
planned-few {t} w = let f = few t w.reads in listing-few w.table w.tree f.0 f.1 f.2 f.3

module _ {t plan : List ℕ} {costs : ℕ} where
  -- the check accepts the plan, and the plan's branches are noted
  record Noted (w : Planned t plan costs) (after : List ℕ) (m : handed.Noted) : Type 0 where
    rows : m.rows ≡ length w.table.rows
    width : m.width ≡ w.table.width
    marks : Marked w.tree after 0 0

  noted : {before after : List ℕ} (w : Planned t plan costs) (m : handed.Noted) → NotedInto t plan before after m → Noted w after m
  noted {before} w m (NotedInto.noted T tree r c a wide rows k) =
      let e : T ≡ w.table = read_one (sym r ∙ w.reads) in
      record {
        rows = rows ∙ ap (λ (T : Table). length T.rows) e;
        width = wide ∙ ap (λ (T : Table). T.width) e;
        marks = marked w.tree (up_from 1 w.table.width) 32 0 0 _ (drop (branches w.tree) before)
            (k ∙ same-notes before T w.table e tree w.tree (sym c ∙ w.cells)) (notes-fit (is-table t w.reads) w.tree);
      }
  noted w m (refused f e a wide rows k) =
      let x = few t w.reads in
      let yes = (accepted w.table x.0 x.1 x.2 plan (branches w.tree)).1 (w.tree, sym w.cells, refl) in
      apart (sym yes ∙ (rw w.reads at e))

  -- so the walk may begin once the header is put, and with its lines the listing is
  pub record Begins (w : Planned t plan costs) (after : List ℕ) (m : handed.Noted) (old mid : List ℕ) (to : ℕ) : Type 0 where
    pub ready : Ready plan after m.width 0 m.rows (stand 0 0 to)
    pub back : {new : List ℕ} {r : Stand} → Walked mid new 0 ready.first (stand 0 0 to) ready.tree r
        → Put old new 0 (listing_of w.table w.tree) r.to

  pub begins : {before after old mid : List ℕ} {to : ℕ} (w : Planned t plan costs) (m : handed.Noted) → NotedInto t plan before after m
      → Put old mid 0 (header m.rows m.width costs) to → Begins w after m old mid to
  begins w m k p =
      let n = noted w m k in
      let f = few t w.reads in
      let same : header m.rows m.width costs ≡ header (length w.table.rows) w.table.width (cost plain w.tree) =
      rw (n.rows, n.width, w.costs-it) in
      record {
        ready = record {
          first = 0;
          k = w.table.width;
          rows = w.table.rows;
          tree = w.tree;
          rest = [];
          open-places = n.width;
          cells = w.cells ∙ sym (append-nil (write w.tree));
          marked = n.marks;
          ends = omega (arith, n.rows);
          few = omega (arith, n.rows, f.2);
          deep = omega arith;
          numbered = omega (arith, bound w.tree 32 f.0 f.1, f.2);
          wide = omega (arith, n.width, f.3);
          size = omega (arith, ap length w.cells, size-bound w.tree f.0 f.1 f.2);
        };
        back = λ x. put-put (rw same at p) x.puts;
      }

-- the builder's answer, with room for any plan: the builder's plan of a table that is read, or the table's refusal
module _ {t room room' : List ℕ} {r : Result BuiltPlan Refusal} (b : BuiltInto by.Branches [] t room room' r) (enough : length room ≡ most_plan_cells) where
  -- 01's measure has no figure to refuse, and no column is named
  reads : table_of t ≡ table_for by.Branches [] t
  reads = sym (plain-table by.Branches t ∙ by-table by.Branches t (omega arith))

  pub plan-built : (n costs : ℕ) → r ≡ Ok (record { cells = n; cost = costs }) → (n ≤ length room') × Planned t (take n room') costs
  plan-built n costs e = go b
    where
      go : BuiltInto by.Branches [] t room room' r → (n ≤ length room') × Planned t (take n room') costs
      go (table-refused f x a s) = let z : ◌≡◌ {A = ℕ} 0 1 = cc in absurd (omega arith)
      go (room-refused T tree x y l a s) = let z : ◌≡◌ {A = ℕ} 0 1 = cc in absurd (omega arith)
      go (built T tree x y least l a s) =
          let d : answered n costs ≡ answered (length (write tree)) (cost_by by.Branches tree) = ap build_told (sym e) ∙ a in
          let m : n ≡ length (write tree) = cc in
          let c : costs ≡ cost_by by.Branches tree = cc in (
            omega (arith, ap length s, length-append (write tree) (drop (length (write tree)) room)),
            record {
              table = T;
              tree = tree;
              reads = reads ∙ x;
              built = plain-built plain tree y;
              cells = rw (m, s) (take-append_seam (write tree) (drop (length (write tree)) room));
              costs-it = c ∙ from-plain tree [] ∙ sym (cost-plain tree);
            },
          )

  pub plan-refused : (f : Refusal) → r ≡ Err f → table_of t ≡ refuse (told f)
  plan-refused f e = go b
    where
      go : BuiltInto by.Branches [] t room room' r → table_of t ≡ refuse (told f)
      go (table-refused g x a s) =
          let d : turned (told f) ≡ turned g = ap build_told (sym e) ∙ a in
          let q : told f ≡ g = cc in
          reads ∙ x ∙ rw q
      go (room-refused T tree x y l a s) =
          let f = few t (reads ∙ x) in
          absurd (omega (arith, size-bound tree f.0 f.1 f.2))
      go (built T tree x y least l a s) =
          let d : turned (told f) ≡ answered (length (write tree)) (cost_by by.Branches tree) = ap build_told (sym e) ∙ a in
          let z : ◌≡◌ {A = ℕ} 0 1 = cc in
          absurd (omega arith)

-- which bytes are cells, and that they are read to the front
module _ (bytes : List ℕ) where
  pub too_long : 8200 < length bytes → unread bytes ≡ true
  too_long h = rw (lt-ltb 8200 (length bytes) h)

  pub not-fours : length bytes ≤ 8200 → (length bytes % 4 ≡ 0 → ⊥) → unread bytes ≡ true
  not-fours h n = rw (le-ltb 8200 (length bytes) h, ne_eqb (length bytes % 4) 0 n)

  pub in-fours : length bytes ≤ 8200 → length bytes % 4 ≡ 0 → unread bytes ≡ false
  in-fours h e = rw (le-ltb 8200 (length bytes) h, eq-eqb (length bytes % 4) 0 e)

  pub cells-front : {room room' : List ℕ} {n : ℕ} → Put room room' 0 (cells_of bytes) n → length bytes ≤ 8200 → length room ≡ most_table_cells
      → (n ≤ length room') × (take n room' ≡ cells_of bytes)
  cells-front {n = n} p h l =
      let front = put_front p (omega (arith, cells_count bytes)) in
      (omega (arith, put-length p, front.0, cells_count bytes), ap (take n) front.1 ∙ take_at (cells_of bytes) _ n (sym front.0))
