-- 02, W-212, "Kept rows are the original's, cell for cell, where sound blocks are as written".
use Prim.Native.Nat.{ℕ, zero, suc, ◌+◌, ◌-◌, ◌*◌, ◌≤◌, ◌<◌}
use mathlib.Core.Path.{◌≡◌, refl, sym, ◌∙◌, ap}
use mathlib.Core.Logic.{◌⊎◌, inl, inr, ⊎_elim}
use mathlib.Core.Bool.{true, false}
use mathlib.Core.List.{List, [], ◌++◌, flatten, append-nil}
use native.Mathlib.Omega.{arith}
use lib.Dec.{ltb}
use lib.ListN.{length, get_or, take, drop, length-drop, take-append-drop}
use lib.Seq.{length-take-le, get_or-take, get_or-drop, take-add, take_at, take_all, take-take, drop-append-le}
use borrow.Author.Tests.{ltb-true, ltb-false}
use Rattle.refusal.specs.Read.{read}
use Rattle.term.proofs.Tests.{bool_cases}
use Rattle.term.proofs.Lists.{slice-take}
use Rattle.table.specs.Table.{Table, table_of, IsTable}
use Rattle.table.proofs.Accepted.{is-table}
use Rattle.plan.specs.Check.{plan_of}
use Rattle.octets.specs.Octets.{cells_of, AreWords}
use Rattle.blocks.specs.Blocks.{sound, cells_in, whole, good, good_cells, block_at}
use Rattle.blocks.proofs.BlockLaws.{cells-size, sound-parts}
use Rattle.blocks.proofs.LookLaws.{good-next, good-ends, good_none}
use Rattle.filing.specs.Files.{Card, card, table_size, sizes, table_part, file_of}
use Rattle.filing.proofs.ReadingLaws.{good-from}
use Rattle.filing.proofs.FileLaws.{Passed, file-passed}
use Rattle.filing.proofs.Undo.{there_and_back}
use Rattle.salvaging.specs.Kept.{kept_from}
use Rattle.salvaging.specs.Salvage.{width, count, kept}
use Rattle.salvaging.proofs.KeptLaws.{Starts, kept-cut, rows-kept}

-- a block before the first bad one is sound, and the next 125 cells are its own
good-block : (f : List ℕ) (i : ℕ) → i < good f 0
    → (sound i (block_at f i) ≡ true) × (take 125 (drop (125 * i) (good_cells f 0)) ≡ cells_in (block_at f i))
good-block f i h = go (good-from f i (omega arith)) (bool_cases (ltb i (whole f))) (bool_cases (sound i (block_at f i)))
  where
    go : (good f 0 ≡ i + good f i) × (drop (125 * i) (good_cells f 0) ≡ good_cells f i)
        → (ltb i (whole f) ≡ true) ⊎ (ltb i (whole f) ≡ false) → (sound i (block_at f i) ≡ true) ⊎ (sound i (block_at f i) ≡ false)
        → (sound i (block_at f i) ≡ true) × (take 125 (drop (125 * i) (good_cells f 0)) ≡ cells_in (block_at f i))
    go r (inl w) (inl t) =
        let g = good-next f i (ltb-true i (whole f) w) t in
        let s = sound-parts i (block_at f i) t in
        let l : length (cells_in (block_at f i)) ≡ 125 =
        length-take-le 125 (drop 1 (block_at f i)) (omega (arith, length-drop 1 (block_at f i), s.size)) in
        (t, ap (take 125) (r.1 ∙ g.1) ∙ take_at (cells_in (block_at f i)) (good_cells f (i + 1)) 125 l)
    go r (inl w) (inr t) = absurd (omega (arith, r.0, (good-ends f i (ltb-true i (whole f) w) t).0))
    go r (inr w) b = absurd (omega (arith, r.0, (good_none f i (ltb-false i (whole f) w)).0))

-- blocks that are the same have the same cells
same-front : (f g : List ℕ) (j : ℕ) → j ≤ good f 0 → j ≤ good g 0 → ((i : ℕ) → i < j → block_at f i ≡ block_at g i)
    → take (125 * j) (good_cells f 0) ≡ take (125 * j) (good_cells g 0)
same-front f g zero a b h = refl
same-front f g (suc j) a b h =
    let n : 125 * suc j ≡ 125 * j + 125 = omega arith in
    let r = same-front f g j (omega arith) (omega arith) (λ i l. h i (omega arith)) in
    let x = good-block f j (omega arith) in
    let y = good-block g j (omega arith) in
    let e : take 125 (drop (125 * j) (good_cells f 0)) ≡ take 125 (drop (125 * j) (good_cells g 0)) =
    x.1 ∙ ap cells_in (h j (omega arith)) ∙ sym y.1 in
    rw n (take-add (125 * j) 125 (good_cells f 0) ∙ ap (λ (l : List ℕ). l ++ take 125 (drop (125 * j) (good_cells f 0))) r
    ∙ ap (λ (l : List ℕ). take (125 * j) (good_cells g 0) ++ l) e ∙ sym (take-add (125 * j) 125 (good_cells g 0)))

-- "where sound blocks are as written": each block of f that is sound is that block of the file that was written
abbrev pub AsWritten : (f g : List ℕ) → Type 0
AsWritten f g = (i : ℕ) → i < whole g → sound i (block_at f i) ≡ true → block_at f i ≡ block_at g i

lesser : (a b : ℕ) → (j : ℕ) × (j ≤ a) × (j ≤ b) × ((j ≡ a) ⊎ (j ≡ b))
lesser a b = go (bool_cases (ltb a b))
  where
    go : (ltb a b ≡ true) ⊎ (ltb a b ≡ false) → (j : ℕ) × (j ≤ a) × (j ≤ b) × ((j ≡ a) ⊎ (j ≡ b))
    go (inl t) = (a, omega arith, omega (arith, ltb-true a b t), inl refl)
    go (inr t) = (b, ltb-false a b t, omega arith, inr refl)

-- the first n cells of two lists are the same: so is each of them, and so is a part of them
at_front : (xs ys : List ℕ) (n i : ℕ) → take n xs ≡ take n ys → i < n → get_or xs i 0 ≡ get_or ys i 0
at_front xs ys n i e h = sym (get_or-take n xs i 0 h) ∙ ap (λ (l : List ℕ). get_or l i 0) e ∙ get_or-take n ys i 0 h

part-front : (xs ys : List ℕ) (n from k : ℕ) → take n xs ≡ take n ys → from + k ≤ n → take k (drop from xs) ≡ take k (drop from ys)
part-front xs ys n from k e h =
    let a : take (from + k) xs ≡ take (from + k) ys =
    sym (take-take (from + k) n xs h) ∙ ap (take (from + k)) e ∙ take-take (from + k) n ys h in
    sym (slice-take from k xs) ∙ ap (drop from) a ∙ slice-take from k ys

-- a list at the front of another
record Cut (xs ys : List ℕ) : Type 0 where
  rest : List ℕ
  both : xs ++ rest ≡ ys

-- the table's cells of the one are at the front of the table's cells of the other, where their first N cells are the same and no more
-- were there
cuts : (G F : List ℕ) (N ts tg : ℕ) → tg ≡ ts → take N G ≡ take N F → 125 ≤ N → 2 ≤ ts → (N < 2 + ts → length G ≡ N) → (t : List ℕ)
    → take ts (drop 2 F) ≡ t → length t ≡ ts → Cut (take tg (drop 2 G)) t × (2 ≤ length (take tg (drop 2 G)))
cuts G F N ts tg sz same big two short t t_f lt = rw sz (go (bool_cases (ltb N (2 + ts))))
  where
    go : (ltb N (2 + ts) ≡ true) ⊎ (ltb N (2 + ts) ≡ false) → Cut (take ts (drop 2 G)) t × (2 ≤ length (take ts (drop 2 G)))
    go (inr x) =
        let e : take ts (drop 2 G) ≡ t = part-front G F N 2 ts same (ltb-false N (2 + ts) x) ∙ t_f in
        (record { rest = []; both = append-nil (take ts (drop 2 G)) ∙ e }, omega (arith, ap length e))
    go (inl x) =
        let l : length G ≡ N = short (ltb-true N (2 + ts) x) in
        let m : 2 + (N - 2) ≤ N = omega arith in
        let ld : length (drop 2 G) ≡ N - 2 = omega (arith, length-drop 2 G) in
        let a : take ts (drop 2 G) ≡ take (N - 2) (drop 2 F) =
        take_all ts (drop 2 G) (omega (arith, ltb-true N (2 + ts) x)) ∙ sym (take_all (N - 2) (drop 2 G) (omega arith))
        ∙ part-front G F N 2 (N - 2) same m in
        let b : take (N - 2) (drop 2 F) ≡ take (N - 2) t =
        sym (take-take (N - 2) ts (drop 2 F) (omega (arith, ltb-true N (2 + ts) x))) ∙ ap (take (N - 2)) t_f in (
          record { rest = drop (N - 2) t; both = ap (λ (r : List ℕ). r ++ drop (N - 2) t) (a ∙ b) ∙ take-append-drop (N - 2) t },
          omega (arith, ap length (a ∙ b), length-take-le (N - 2) t (omega (arith, ltb-true N (2 + ts) x))),
        )

pub original : (t p : List ℕ) {n : ℕ} (T : Table) → AreWords t → AreWords p → plan_of t p ≡ read n → table_of t ≡ read T
    → (f : List ℕ) → AsWritten f (file_of t p) → 1 ≤ good f 0 → Starts (kept f) T.rows
original t p T v w ok tab f written some =
    go (file-passed (file_of t p) (card t p) (there_and_back t p v w ok)) (lesser (good f 0) (whole (file_of t p)))
  where
    go : Passed (file_of t p) (card t p) → (j : ℕ) × (j ≤ good f 0) × (j ≤ whole (file_of t p)) × ((j ≡ good f 0) ⊎ (j ≡ whole (file_of t p)))
        → Starts (kept f) T.rows
    go q (j, ja, jb, jc) =
        let g = file_of t p in
        let k = whole g in
        let G = good_cells f 0 in
        let F = good_cells g 0 in
        let N = 125 * j in
        let ts = table_size F in
        let j1 : 1 ≤ j = ⊎_elim (λ e. omega arith) (λ e. omega (arith, q.some)) jc in
        let same : take N G ≡ take N F =
        same-front f g j ja (omega (arith, q.all)) (λ i l. written i (omega arith) (good-block f i (omega arith)).0) in
        let l_f : length F ≡ 125 * good g 0 = cells-size (whole g - 0) 0 (drop (128 * 0) (cells_of g)) in
        let l_g : length G ≡ 125 * good f 0 = cells-size (whole f - 0) 0 (drop (128 * 0) (cells_of f)) in
        let fits : sizes F ≤ 125 * k = omega (arith, q.count) in
        let t_f : table_part F ≡ t = ap (λ (x : Card). x.table) q.is in
        let lt : length t ≡ ts = ap length (sym t_f) ∙ length-take-le ts (drop 2 F) (omega (arith, length-drop 2 F, q.all)) in
        let i : IsTable t T.width T.rows = is-table t tab in
        let two : 2 ≤ ts = omega (arith, lt, ap length i.cells) in
        let sz : table_size G ≡ ts = at_front G F N 0 same (omega arith) in
        let wd : width f ≡ T.width =
        at_front G F N 2 same (omega arith) ∙ sym (get_or-drop 2 F 0 0) ∙ sym (get_or-take ts (drop 2 F) 0 0 (omega arith))
        ∙ ap (λ (l : List ℕ). get_or l 0 0) (t_f ∙ i.cells) in
        let ct : count f ≡ length T.rows =
        at_front G F N 3 same (omega arith) ∙ sym (get_or-drop 2 F 1 0) ∙ sym (get_or-take ts (drop 2 F) 1 0 (omega arith))
        ∙ ap (λ (l : List ℕ). get_or l 1 0) (t_f ∙ i.cells) in
        let cut : Cut (table_part G) t × (2 ≤ length (table_part G)) =
        cuts G F N ts (table_size G) sz same (omega arith) two
        (λ l. ⊎_elim (λ e. omega (arith, l_g)) (λ e. absurd (omega (arith, fits))) jc) t t_f lt in
        let d : drop 2 (table_part G) ++ cut.0.rest ≡ flatten T.rows ++ [] =
        sym (drop-append-le 2 (table_part G) cut.0.rest cut.1) ∙ ap (drop 2) (cut.0.both ∙ i.cells) ∙ sym (append-nil (flatten T.rows)) in
        let s = kept-cut (width f) (count f) (drop 2 (table_part G)) cut.0.rest in
        let e : kept_from (width f) (count f) [] (drop 2 (table_part G) ++ cut.0.rest) ≡ T.rows =
        rw (wd, ct, d) (rows-kept T.width T.rows [] i.each i.apart) in
        record { more = s.more; both = s.both ∙ e }
