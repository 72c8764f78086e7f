-- What is saved is little: at most 64 rules were there, and the list has as many numbers as there are bad blocks.
use Prim.Native.Nat.{ℕ, ◌+◌, ◌-◌, ◌≤◌}
use mathlib.Core.Path.{◌≡◌, ap}
use mathlib.Core.Bool.{false, ◌||◌}
use mathlib.Core.List.{List, []}
use native.Mathlib.Omega.{arith}
use lib.Dec.{eqb, ltb}
use lib.ListN.{length, drop, length-append}
use Rattle.refusal.specs.Refusal.{Refused}
use Rattle.table.proofs.ReadLaws.{inside}
use Rattle.blocks.specs.Blocks.{good}
use Rattle.filing.specs.Files.{table_part}
use Rattle.filing.proofs.FileLaws.{or-both}
use Rattle.salvaging.specs.Salvage.{front, width, count, no_head, kept, bad_in, Findings, facts, saved, lost}
use Rattle.salvaging.specs.Salvage.{Salvaged, head-lost, none_kept, table-short, plan-short, bad-short, all-had}
use Rattle.salvaging.proofs.KeptLaws.{kept-are}

-- nothing is both saved and lost
not-lost : {A : Type 0} {f : Findings} {r : Refused} → saved f ≡ lost r → A
not-lost e = absurd (let z : ◌≡◌ {A = ℕ} 0 1 = cc in omega arith)

count-few : (file : List ℕ) → no_head file ≡ false → count file ≤ 64
count-few file h =
    let columns = ltb (width file) 1 || ltb 8 (width file) in
    let rows = ltb (count file) 1 || ltb 64 (count file) in
    let sizes = (or-both (eqb (good file 0) 0) (columns || rows) h).1 in
    (inside (count file) 1 64 (or-both columns rows sizes).1).1

rows_few : (file : List ℕ) → no_head file ≡ false → length (kept file) + (count file - length (kept file)) ≤ 64
rows_few file h =
    let few = (kept-are (width file) (count file) [] (drop 2 (table_part (front file)))).few in
    omega (arith, count-few file h, few)

pub saved-few : {file table plan bad table' plan' bad' : List ℕ} {f : Findings}
    → Salvaged file table plan bad table' plan' bad' (saved f) → (f.rows + f.dropped ≤ 64) × (f.bad ≤ length bad')
saved-few (head-lost h r t p b) = not-lost r
saved-few (none_kept h k r t p b) = not-lost r
saved-few (table-short h k l r t p b) = not-lost r
saved-few (plan-short h k l u xs y z r t p b) = not-lost r
saved-few (bad-short h k l u xs y z v r t p b) = not-lost r
saved-few {file} {bad = bad} {f = f} (all-had h k l u xs y z v r t p b) =
    let same : f ≡ facts file u xs = cc in
    rw same (rows_few file h, omega (arith, ap length b, length-append (bad_in file) (drop (length (bad_in file)) bad)))
