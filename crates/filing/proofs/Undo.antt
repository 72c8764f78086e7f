-- 02, W-211, "Write and read, each undoing the other".
use Prim.Native.Nat.{ℕ, ◌+◌, ◌-◌, ◌*◌, ◌≤◌}
use mathlib.Core.Path.{◌≡◌, refl, sym, ◌∙◌, ap}
use mathlib.Core.Bool.{true}
use mathlib.Core.List.{List, ◌∷◌, ◌++◌, append_assoc}
use native.Mathlib.Omega.{arith}
use borrow.Author.Tests.{ltb-false}
use lib.Dec.{ltb}
use lib.ListN.{length, drop, replicate, length-append, length-drop, take-append-drop}
use lib.Seq.{length-take-le, drop-cons, drop-drop}
use Rattle.refusal.specs.Read.{read}
use Rattle.table.proofs.ReadLaws as reading
use Rattle.table.proofs.ReadLaws.{passed}
use Rattle.table.proofs.Accepted.{table-short}
use Rattle.plan.specs.Check.{plan_of, plan_for, plan_with}
use Rattle.table.specs.Table.{Table, table_of}
use Rattle.octets.specs.Octets.{cells_of, bytes_of, Bytes, AreWords}
use Rattle.octets.proofs.BytesLaws.{bytes_count, cells-back, bytes_back}
use Rattle.octets.proofs.CellsLaws.{cells_count}
use Rattle.blocks.specs.Blocks.{blocks_from, sound_from, whole, good, good_cells}
use Rattle.blocks.proofs.BlockLaws.{words-both, blocks-length, blocks-sound, blocks-words, blocks-again, sound-most, cells-size}
use Rattle.filing.specs.Files.{stream, needed, filled_up, words_for, file_of, zeros, Card, card}
use Rattle.filing.specs.Files.{table_size, plan_size, sizes, table_part, plan_part, file_read}
use Rattle.filing.proofs.FileLaws.{filled-size, filled-words, zeros-yes, zeros-are, file-passes, card-passes, Passed, file-passed}
use Rattle.filing.proofs.FileLaws.{sizes-are, rest-is, table_is, plan-is}
use Rattle.limits.specs.Limits.{most_plan_cells, most_table_cells}

-- the sizes of what the check accepts
pub accepted-sizes : (t p : List ℕ) {n : ℕ} → plan_of t p ≡ read n → (length t ≤ most_table_cells) × (length p ≤ most_plan_cells)
unfolding plan_with
accepted-sizes t p e =
    let a = reading.first (table_of t) (λ (T : Table). plan_for T p) e in
    let b = passed (ltb most_plan_cells (length p)) _ _ a.2 in
    (table-short t a.1, ltb-false most_plan_cells (length p) b.0)

-- what is written is read: a table and a plan that the check accepts, of words of 32 bits
pub there_and_back : (t p : List ℕ) {n : ℕ} → AreWords t → AreWords p → plan_of t p ≡ read n → file_read (file_of t p) ≡ read (card t p)
there_and_back t p {n} v w e =
    let sz = accepted-sizes t p e in
    let s = stream t p in
    let k = needed (length s) in
    let rest : List ℕ = replicate (125 * k - length s) 0 in
    let l : length s ≡ 2 + (length t + length p) = omega (arith, length-append t p) in
    let ws : AreWords s = (omega arith, (omega arith, words-both t p v w)) in
    let W = words_for s in
    let lw : length W ≡ 128 * k = blocks-length k 0 (filled_up s) (filled-size s) in
    let back : cells_of (bytes_of W) ≡ W = cells-back W (blocks-words k 0 (filled_up s) (omega arith) (filled-words s ws)) in
    let lf : length (file_of t p) ≡ 512 * k = omega (arith, bytes_count W) in
    let wh : whole (file_of t p) - 0 ≡ k = omega arith in
    let sd = blocks-sound k 0 (filled_up s) (filled-size s) in
    let g : good (file_of t p) 0 ≡ k = rw (wh, back) sd.0 in
    let c : good_cells (file_of t p) 0 ≡ filled_up s = rw (wh, back) sd.1 in
    let nd : needed (sizes (filled_up s)) ≡ k = ap needed (sizes-are t p rest) in
    let tp = table_is t p rest in
    let pp = plan-is t p rest in
    let z : zeros (drop (sizes (filled_up s)) (filled_up s)) ≡ true = ap zeros (rest-is t p rest) ∙ zeros-yes (125 * k - length s) in
    let ok : plan_of (table_part (filled_up s)) (plan_part (filled_up s)) ≡ read n = rw (tp, pp) e in
    file-passes (file_of t p) k (filled_up s) lf (omega arith) g c nd ∙ card-passes (filled_up s) z ok ∙ ap read (rw (tp, pp) refl)

-- the cells of a file that is read are its stream, filled up
cut-three : (cells : List ℕ) → sizes cells ≤ length cells → stream (table_part cells) (plan_part cells) ++ drop (sizes cells) cells ≡ cells
cut-three cells h =
    let a = table_size cells in
    let b = plan_size cells in
    let d0 : cells ≡ a ∷ drop 1 cells = drop-cons cells 0 0 (omega arith) in
    let d1 : drop 1 cells ≡ b ∷ drop 2 cells = drop-cons cells 1 0 (omega arith) in
    let lt : length (table_part cells) ≡ a = length-take-le a (drop 2 cells) (omega (arith, length-drop 2 cells)) in
    let lp : length (plan_part cells) ≡ b = length-take-le b (drop (2 + a) cells) (omega (arith, length-drop (2 + a) cells)) in
    let e : drop (2 + a) cells ≡ drop a (drop 2 cells) = sym (drop-drop a 2 cells) in
    let f : drop (sizes cells) cells ≡ drop b (drop (2 + a) cells) = sym (drop-drop b (2 + a) cells) in
    let body : table_part cells ++ plan_part cells ++ drop (sizes cells) cells ≡ drop 2 cells =
    append_assoc (table_part cells) (plan_part cells) (drop (sizes cells) cells)
    ∙ ap (λ (l : List ℕ). table_part cells ++ (plan_part cells ++ l)) f
    ∙ ap (λ (l : List ℕ). table_part cells ++ l) (take-append-drop b (drop (2 + a) cells))
    ∙ ap (λ (l : List ℕ). table_part cells ++ l) e
    ∙ take-append-drop a (drop 2 cells) in
    rw (lt, lp) (ap (λ (l : List ℕ). a ∷ b ∷ l) body ∙ ap (λ (l : List ℕ). a ∷ l) (sym d1) ∙ sym d0)

-- what is read is what was written: any bytes that are read are the file of the table and the plan that they hold
pub back-again : (f : List ℕ) (c : Card) → Bytes f → file_read f ≡ read c → file_of c.table c.plan ≡ f
back-again f c by e = go (file-passed f c e)
  where
    go : Passed f c → file_of c.table c.plan ≡ f
    go p =
        let k = whole f in
        let cells = good_cells f 0 in
        let W = cells_of f in
        let k0 : k - 0 ≡ k = omega arith in
        let most : sound_from (k - 0) 0 W ≤ k - 0 = sound-most (k - 0) 0 W in
        let all : sound_from (k - 0) 0 W ≡ k - 0 = omega (arith, p.all, most) in
        let lw : length W ≡ 128 * (k - 0) = omega (arith, p.blocks, cells_count f) in
        let again : blocks_from 0 (k - 0) cells ≡ W = blocks-again (k - 0) 0 W lw all in
        let lc : length cells ≡ 125 * k = omega (arith, cells-size (k - 0) 0 W, all) in
        let s = stream (table_part cells) (plan_part cells) in
        let fits : sizes cells ≤ length cells = omega (arith, p.count) in
        let three : s ++ drop (sizes cells) cells ≡ cells = cut-three cells fits in
        let ls : length s ≡ sizes cells =
        omega (arith, ap length three, length-append s (drop (sizes cells) cells), length-drop (sizes cells) cells) in
        let nk : needed (length s) ≡ k = ap needed ls ∙ p.count in
        let n : length (drop (sizes cells) cells) ≡ 125 * needed (length s) - length s = omega (arith, length-drop (sizes cells) cells, nk) in
        let zs : drop (sizes cells) cells ≡ replicate (125 * needed (length s) - length s) 0 =
        zeros-are (drop (sizes cells) cells) p.padding ∙ ap (λ (j : ℕ). replicate j 0) n in
        let fl : filled_up s ≡ cells = ap (λ (l : List ℕ). s ++ l) (sym zs) ∙ three in
        let words : words_for s ≡ W = ap (λ (j : ℕ). blocks_from 0 j (filled_up s)) (nk ∙ sym k0) ∙ ap (blocks_from 0 (k - 0)) fl ∙ again in
        ap (λ (x : Card). file_of x.table x.plan) (sym p.is) ∙ ap bytes_of words ∙ bytes_back f by (omega (arith, p.blocks))

-- the sizes of what is read
pub read-sizes : (f : List ℕ) (c : Card) → file_read f ≡ read c → (length c.table ≤ most_table_cells) × (length c.plan ≤ most_plan_cells)
read-sizes f c e =
    let p = file-passed f c e in
    let z = accepted-sizes (table_part (good_cells f 0)) (plan_part (good_cells f 0)) p.accepted in
    rw (← p.is) z
