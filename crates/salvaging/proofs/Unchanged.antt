-- 02, W-212, "A file W-211 accepts comes through unchanged".
use Prim.Native.Nat.{ℕ, zero, suc, ◌+◌, ◌-◌, ◌*◌, ◌/◌, ◌%◌, ◌≤◌}
use mathlib.Core.Path.{◌≡◌, refl, sym, ◌∙◌, ap}
use mathlib.Core.Logic.{◌⊎◌, inl, inr}
use mathlib.Core.Bool.{true, false, cond}
use mathlib.Core.List.{List, [], ◌∷◌, ◌++◌, flatten, append-nil}
use native.Mathlib.Omega.{arith}
use lib.ListN.{length, get_or, take, drop, length-drop}
use lib.Seq.{length-take-le, drop-drop, get_or-take, get_or-drop}
use borrow.Author.Tests.{eq-eqb, ne_eqb, le-leb}
use Rattle.refusal.specs.Read.{read}
use Rattle.term.proofs.Tests.{bool_cases}
use Rattle.table.specs.Table.{Table, table_of, IsTable}
use Rattle.table.proofs.ReadLaws as reading
use Rattle.table.proofs.ReadLaws.{within-bounds}
use Rattle.table.proofs.Accepted.{is-table}
use Rattle.plan.specs.Check.{plan_of, plan_for}
use Rattle.octets.specs.Octets.{cells_of, Bytes}
use Rattle.blocks.specs.Blocks.{sound, sound_from, whole, good, good_cells}
use Rattle.blocks.proofs.BlockLaws.{sound-most, cells-size}
use Rattle.filing.specs.Files.{Card, table_size, plan_size, sizes, table_part, plan_part, file_of, file_read}
use Rattle.filing.proofs.FileLaws.{Passed, file-passed}
use Rattle.filing.proofs.ReadingLaws.{good-from}
use Rattle.filing.proofs.Undo.{back-again}
use Rattle.salvaging.specs.Salvage.{bad_from, bad_in, width, count, no_head, kept, kept_cells}
use Rattle.salvaging.specs.Salvage.{plan_start, plan_run, plan_cells, in_sound, accepted, plan_kept}
use Rattle.salvaging.proofs.KeptLaws.{rows-kept}

-- blocks that are all sound have no bad one among them
none-bad : (k n : ℕ) (words : List ℕ) → sound_from k n words ≡ k → bad_from k n words ≡ []
unfolding sound_from bad_from
none-bad zero n words e = refl
none-bad (suc k) n words e = go (none-bad k (suc n) (drop 128 words)) (bool_cases (sound n (take 128 words)))
  where
    go : (sound_from k (suc n) (drop 128 words) ≡ k → bad_from k (suc n) (drop 128 words) ≡ [])
        → (sound n (take 128 words) ≡ true) ⊎ (sound n (take 128 words) ≡ false)
        → cond (sound n (take 128 words)) (bad_from k (suc n) (drop 128 words)) (n ∷ bad_from k (suc n) (drop 128 words)) ≡ []
    go f (inl t) = let e' : suc (sound_from k (suc n) (drop 128 words)) ≡ suc k = rw t at e in rw t (f (omega (arith, e')))
    go f (inr t) = let e' : 0 ≡ suc k = rw t at e in absurd (omega arith)

-- a file that is read: what is had of it
pub record Whole (f : List ℕ) (c : Card) : Type 0 where
  pub head : no_head f ≡ false
  pub table : kept_cells f ≡ c.table
  pub every : length (kept f) ≡ count f
  pub plan : plan_cells f ≡ c.plan
  pub keeps : plan_kept f ≡ true
  pub none : bad_in f ≡ []

pub unchanged : (f : List ℕ) (c : Card) → file_read f ≡ read c → Whole f c
unchanged f c e = go (file-passed f c e)
  where
    go : Passed f c → Whole f c
    go p =
        let k = whole f in
        let G = good_cells f 0 in
        let ts = table_size G in
        let ps = plan_size G in
        let t = table_part G in
        let most = sound-most (k - 0) 0 (drop (128 * 0) (cells_of f)) in
        let lc : length G ≡ 125 * k = omega (arith, cells-size (k - 0) 0 (drop (128 * 0) (cells_of f)), p.all, most) in
        let fits : sizes G ≤ length G = omega (arith, p.count) in
        let a = reading.first (table_of t) (λ (T : Table). plan_for T (plan_part G)) p.accepted in
        let T : Table = a.0 in
        let i : IsTable t T.width T.rows = is-table t a.1 in
        let lt : length t ≡ ts = length-take-le ts (drop 2 G) (omega (arith, length-drop 2 G)) in
        let two : 2 ≤ ts = omega (arith, lt, ap length i.cells) in
        let w : width f ≡ T.width =
        sym (get_or-drop 2 G 0 0) ∙ sym (get_or-take ts (drop 2 G) 0 0 (omega arith)) ∙ ap (λ (l : List ℕ). get_or l 0 0) i.cells in
        let n : count f ≡ length T.rows =
        sym (get_or-drop 2 G 1 0) ∙ sym (get_or-take ts (drop 2 G) 1 0 (omega arith)) ∙ ap (λ (l : List ℕ). get_or l 1 0) i.cells in
        let d : drop 2 t ≡ flatten T.rows ++ [] = ap (drop 2) i.cells ∙ sym (append-nil (flatten T.rows)) in
        let K : kept f ≡ T.rows = rw (w, n, d) (rows-kept T.width T.rows [] i.each i.apart) in
        let tb : kept_cells f ≡ t = rw (K, w) (sym i.cells) in
        let b = plan_start f / 125 in
        let r = plan_start f % 125 in
        let g = good-from f b (omega (arith, p.all, p.count)) in
        let split : 125 * b + r ≡ 2 + ts = omega arith in
        let pc : plan_cells f ≡ plan_part G =
        ap (λ (l : List ℕ). take ps (drop r l)) (sym g.1) ∙ ap (take ps) (drop-drop r (125 * b) G) ∙ ap (λ (j : ℕ). take ps (drop j G)) split in
        let ok : accepted (plan_of (kept_cells f) (plan_cells f)) ≡ true = rw (tb, pc, p.accepted) refl in
        let ins : in_sound f ≡ true = le-leb (r + ps) (length (plan_run f)) (omega (arith, ap length g.1, length-drop (125 * b) G)) in
        let blocks : (length f + 511) / 512 ≡ k - 0 = omega (arith, p.blocks) in
        record {
          head = rw (
            ne_eqb (good f 0) 0 (λ z. omega (arith, p.all, p.some)),
            w,
            n,
            within-bounds T.width 1 8 i.width.0 i.width.1,
            within-bounds (length T.rows) 1 64 i.count.0 i.count.1,
          ) refl;
          table = tb ∙ ap (λ (x : Card). x.table) p.is;
          every = ap length K ∙ sym n;
          plan = pc ∙ ap (λ (x : Card). x.plan) p.is;
          keeps = rw (eq-eqb (length (kept f)) (count f) (ap length K ∙ sym n), ins, ok) refl;
          none = rw blocks (none-bad (k - 0) 0 (cells_of f) (omega (arith, p.all, most)));
        }

-- and writing what was saved gives its bytes again
pub unchanged-bytes : (f : List ℕ) (c : Card) → Bytes f → file_read f ≡ read c → file_of (kept_cells f) (plan_cells f) ≡ f
unchanged-bytes f c by e =
    let w = unchanged f c e in
    ap (λ (t : List ℕ). file_of t (plan_cells f)) w.table ∙ ap (file_of c.table) w.plan ∙ back-again f c by e
