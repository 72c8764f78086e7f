-- A row and a goal in 01's words, and the tests that their cells pass.
use mathlib.Core.Path.{◌≡◌, refl, ◌∙◌, ap}
use mathlib.Core.Logic.{⊎_elim}
use mathlib.Core.Bool.{Bool, true, false, ◌&&◌}
use mathlib.Core.List.Memᴰ
use mathlib.Core.List.{List, [], ◌∷◌, Memᴰ}
use Prim.Native.Nat.{ℕ, zero, suc, ◌+◌, ◌≤◌, ◌<◌}
use native.Mathlib.Omega.{arith}
use lib.Dec.{eqb}
use lib.ListN.{length}
use borrow.Author.Tests.{eqb-true}
use Rattle.cell.specs.Cell.{is_var}
use Rattle.term.specs.Terms.{Terms}
use Rattle.term.proofs.Tests.{bool_cases, cond-case}
use Rattle.refusal.specs.Read.{read}
use Rattle.table.specs.Table.{count, appear, up_from, Head}
use Rattle.table.specs.code.Looks.{cells_from}
use Rattle.table.proofs.SoundLaws.{down, cells-sound, sound-cells}

-- so many numbers are as many
pub up-length : (n a : ℕ) → length (up_from n a) ≡ a
unfolding up_from
up-length n zero = refl
up-length n (suc a) = ap suc (up-length (suc n) a)

-- cells that pass the tests of a row or goal from its start on are a head, and the other way round
pub passed-head : {w : ℕ} {ys : List ℕ} → Terms w ys → length ys ≤ 32 → (row : Bool) (p : ℕ) {v : ℕ} → cells_from row ys 0 p ≡ read v
    → Head w ys × (v ≡ length (appear [] ys))
unfolding down
passed-head {ys = ys} t l row p e =
    let s = cells-sound row ys 0 p e in
    let n : length (appear [] ys) ≡ s.more = ap length s.order ∙ up-length 0 s.more in
    (record { terms = t; short = l; cells = s.cells; order = rw n s.order }, omega (arith, s.total))

pub head-passes : {w : ℕ} {ys : List ℕ} (row : Bool) (p : ℕ) → Head w ys → cells_from row ys 0 p ≡ read (length (appear [] ys))
unfolding down
head-passes {ys = ys} row p h =
    sound-cells row ys 0 p (record { cells = h.cells; more = length (appear [] ys); total = omega arith; order = h.order })

-- Every variable of a row or goal is among those that appear, so it is numbered below their number, and that is at most the number of cells.
pub appear-short : (ms ys : List ℕ) → length (appear ms ys) ≤ length ys
unfolding appear
appear-short ms [] = omega arith
appear-short ms (c ∷ ys) =
    cond-case (is_var c && eqb (count c ms) 0) (λ (l : List ℕ). length l ≤ suc (length ys))
    (λ e. omega (arith, appear-short (c ∷ ms) ys))
    (λ e. omega (arith, appear-short ms ys))

count-other : (c d : ℕ) (ms : List ℕ) → eqb c d ≡ false → count c (d ∷ ms) ≡ count c ms
unfolding count
count-other c d ms b = rw b (omega arith)

pub appear-has : (c : ℕ) (ms ys : List ℕ) → Memᴰ c ys → is_var c ≡ true → count c ms ≡ 0 → Memᴰ c (appear ms ys)
unfolding appear
appear-has c ms [] m i z = absurd (Memᴰ.not-nil m)
appear-has c ms (d ∷ ys) m i z =
    ⊎_elim
    (λ e. let j : is_var d ≡ true = rw e at i in let q : count d ms ≡ 0 = rw e at z in rw (j, q) (Memᴰ.head e))
    (λ k. cond-case (is_var d && eqb (count d ms) 0) (λ (l : List ℕ). Memᴰ c l)
    (λ q. ⊎_elim
    (λ b. Memᴰ.head (eqb-true c d b))
    (λ b. Memᴰ.tail (appear-has c (d ∷ ms) ys k i (count-other c d ms b ∙ z)))
    (bool_cases (eqb c d)))
    (λ q. appear-has c ms ys k i z))
    (Memᴰ.cases_cons m)

up-below : (n a c : ℕ) → Memᴰ c (up_from n a) → c < n + a
unfolding up_from
up-below n zero c m = absurd (Memᴰ.not-nil m)
up-below n (suc a) c m = ⊎_elim (λ e. omega arith) (λ k. omega (arith, up-below (suc n) a c k)) (Memᴰ.cases_cons m)

pub head-below : {w : ℕ} {ys : List ℕ} → Head w ys → (c : ℕ) → Memᴰ c ys → is_var c ≡ true → c < length (appear [] ys)
unfolding count
head-below {w} {ys} h c m i = omega (arith, up-below 0 (length (appear [] ys)) c (rw h.order at (appear-has c [] ys m i refl)))

pub head_few : {w : ℕ} {ys : List ℕ} → Head w ys → length (appear [] ys) ≤ 32
head_few {w} {ys} h = omega (arith, appear-short [] ys, h.short)
