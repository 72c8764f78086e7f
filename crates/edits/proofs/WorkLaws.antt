-- A record is worked out anew, as the code does it.
use mathlib.Core.Path.{◌≡◌, refl, sym, ap, ◌∙◌}
use mathlib.Core.List.{List, [], ◌∷◌, ◌++◌}
use Prim.Native.Nat.{ℕ, ◌+◌, ◌-◌, ◌*◌, ◌≤◌, ◌<◌}
use native.Mathlib.Omega.{arith}
use lib.ListN.{length, get_or, set, take, drop, replicate, length-replicate}
use lib.Seq.{sets}
use Rattle.refusal.specs.Refusal.{told, answered, turned}
use Rattle.refusal.specs.declared.Refusal.{Refusal}
use Rattle.refusal.specs.Read.{read}
use Rattle.term.proofs.Lists.{get_d-zeros}
use Rattle.table.specs.declared.TableRead.{TableRead}
use Rattle.std.specs.Prelude.{Result, Ok, Err}
use Rattle.table.specs.Table.{Table, table_says, read_told, TableReads}
use Rattle.table.proofs.Accepted.{is-table, table-short}
use Rattle.state.specs.Flags.{flags_in}
use Rattle.state.specs.code.First.{TableRows}
use Rattle.plan.specs.Plans.{Measure}
use Rattle.least.specs.Measures.{table_by, work}
use Rattle.least.specs.declared.By.TheVariants.{Work}
use Rattle.least.proofs.Measured.{by-table}
use Rattle.record.specs.Record.{cells_in, Kept}
use Rattle.record.specs.Edits.{WorkedOut, no_record, worked}
use Rattle.record.specs.code.Zeros.{ZeroAt}
use Rattle.record.specs.code.Rows.{in_room}
use Rattle.record.proofs.KeptLaws.{kept-when, zero_same}
use Rattle.record.proofs.PartLaws.{length-room, parts-hold}
use Rattle.record.proofs.StoreLaws.{kept-lent, kept_put, cells-anew}
use Rattle.paircosts.specs.Fill.{NoPair, Filled, Fills}
use Rattle.paircosts.proofs.WorkedLaws.{figure-small, rows-by, turned_by, all_asked}
use Rattle.paircosts.proofs.PlainLaws.{plain-free, zero-free, free-filled}
use Rattle.limits.specs.Limits.{kept_cells, most_table_cells, record_cells}

-- no column is named
pub plain-filled : {m : Measure} {width : ℕ} {rows : List (List ℕ)} {old new : List ℕ} → Filled m (flags_in width 0) width rows old new
    → Filled m [] width rows old new
plain-filled {width = width} f = free-filled (flags_in width 0) [] (zero-free width) (plain-free width) f

-- an array that is filled, and held 0 where there is no pair, is what is kept
pub filled-kept : {m : Measure} {width : ℕ} {rows : List (List ℕ)} {old new : List ℕ} → Filled m [] width rows old new
    → ((first last : ℕ) → first < 64 → last < 64 → NoPair (length rows) first last → ZeroAt first last old) → Kept m width rows new
filled-kept f zero =
    kept-when (λ first last o i. record { whole = f.whole first last o i; entry = f.entry first last o i })
    (λ first last h l o. zero_same (f.other first last h l o) (zero first last h l o))

zeros-at : (n first last : ℕ) → ZeroAt first last (replicate n 0)
zeros-at n first last = record {
  whole = get_d-zeros n (64 * first + last);
  cost = get_d-zeros n (4096 + (64 * first + last));
  place = get_d-zeros n (8192 + (64 * first + last));
}

module _ (figure : ℕ) (t rec : List ℕ) {r : Result TableRead Refusal} (reads : TableReads (table_by (Work figure) t) r) where
  pub none-worked : {f : Refusal} → r ≡ Err f → WorkedOut figure t rec rec (turned (told f))
  none-worked {f} e = no_record (told f) (turned_by (Work figure) t reads e) refl refl

  module _ {x : TableRead} (e : r ≡ Ok x) where
    abbrev k : TableRows t x.starts x.width x.rows
    k = rows-by (Work figure) t reads e

    abbrev T : Table
    T = k.table

    pub small : length t ≤ most_table_cells
    small = table-short t k.here

    low : figure ≤ 15
    low = figure-small (Work figure) t reads e

    here : table_by (Work figure) t ≡ read T
    here = by-table (Work figure) t low ∙ k.here

    cells_are : t ≡ cells_in T
    cells_are = (is-table t k.here).cells

    -- the parts that are stored one after another
    module _ {cleared copied new headed : List ℕ} {s : Result TableRead Refusal} (size : length rec ≡ record_cells)
        (c : cleared ≡ sets rec 2 (replicate (record_cells - 2) 0)) (d : copied ≡ sets cleared 2 t)
        (f : Fills (Work figure) 0 t 64 0 (take (length copied - 2052) (drop 2052 copied)) new s)
        (h : headed ≡ set (take 2052 copied ++ (new ++ drop (length copied - 2052) (drop 2052 copied))) 0 (length t)) where
      abbrev zeros : List ℕ
      zeros = replicate kept_cells 0

      parts : copied ≡ get_or rec 0 0 ∷ get_or rec 1 0 ∷ (in_room t ++ zeros)
      parts = d ∙ ap (λ (x : List ℕ). sets x 2 t) c ∙ cells-anew rec t size small

      fills : Fills (Work figure) 0 t 64 0 zeros new s
      fills = rw (parts, kept-lent (get_or rec 0 0) (get_or rec 1 0) (in_room t) zeros (length-room t small)) at f

      pub worked-anew : WorkedOut figure t rec (set headed 1 figure) (answered x.width x.rows)
      worked-anew =
          let long : length zeros ≡ kept_cells = length-replicate {A = ℕ} kept_cells 0 in
          let filled = plain-filled ((fills.accepted T here long).filled (all_asked (Work figure) (flags_in T.width 0) t here (omega arith))) in
          let kept : Kept (work figure) T.width T.rows new = filled-kept filled (λ first last h l o. zeros-at kept_cells first last) in
          let is : set headed 1 figure ≡ length t ∷ figure ∷ (in_room t ++ new) =
          ap (λ (x : List ℕ). set x 1 figure) (rw parts at h
          ∙ ap (λ (x : List ℕ). set x 0 (length t)) (kept_put (get_or rec 0 0) (get_or rec 1 0) (in_room t) zeros (length-room t small) new)) in
          worked T here (sym (ap read_told e) ∙ reads.answer ∙ ap table_says here)
          (parts-hold (rw (← cells_are) k.here) low kept (fills.size ∙ long) (rw cells_are at is))
