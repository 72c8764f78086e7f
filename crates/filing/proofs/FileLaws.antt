-- A file's reading, test by test, and the parts of its cells.
use Prim.Native.Nat.{ℕ, zero, suc, ◌+◌, ◌-◌, ◌*◌, ◌/◌, ◌%◌, ◌≤◌, ◌<◌}
use mathlib.Core.Path.{◌≡◌, refl, sym, ◌∙◌, ap}
use mathlib.Core.Bool.{Bool, true, false, not, ◌||◌}
use mathlib.Core.List.{List, [], ◌∷◌, ◌++◌, append_assoc}
use native.Mathlib.Nat.{add_comm}
use native.Mathlib.Numerals.{add-one}
use native.Mathlib.Omega.{arith}
use lib.Dec.{eqb, ltb}
use lib.ListN.{length, get_or, drop, replicate, length-append, length-replicate, drop_of_length-le}
use lib.Seq.{take_at, drop_at, drop-cons}
use borrow.Author.Tests.{eq-eqb, ne_eqb, eqb-true, eqb-false, le-ltb, ltb-false, not-false}
use Rattle.refusal.specs.Read.{read}
use Rattle.table.proofs.ReadLaws.{passed}
use Rattle.table.proofs.ReadLaws as reading
use Rattle.octets.specs.Octets.{AreWords}
use Rattle.plan.specs.Check.{plan_of}
use Rattle.blocks.specs.Blocks.{whole, good, good_cells}
use Rattle.blocks.proofs.BlockLaws.{and_both, words-both}
use Rattle.filing.specs.Files.{stream, needed, filled_up, zeros, Card, card, sizes, table_part, plan_part, card_of, file_read}

-- as many cells as the blocks that are needed have, and no more blocks than needed
pub filled-size : (cells : List ℕ) → length (filled_up cells) ≡ 125 * needed (length cells)
filled-size cells =
    omega (
      arith,
      length-append cells (replicate (125 * needed (length cells) - length cells) 0),
      length-replicate {A = ℕ} (125 * needed (length cells) - length cells) 0,
    )

words-zeros : (n : ℕ) → AreWords (replicate n 0)
words-zeros zero = tt
words-zeros (suc n) = (omega arith, words-zeros n)

pub filled-words : (cells : List ℕ) → AreWords cells → AreWords (filled_up cells)
filled-words cells w = words-both cells (replicate (125 * needed (length cells) - length cells) 0) w (words-zeros (125 * needed (length cells) - length cells))

-- zeros, as a test and as a list
pub zeros-yes : (n : ℕ) → zeros (replicate n 0) ≡ true
unfolding zeros
zeros-yes zero = refl
zeros-yes (suc n) = zeros-yes n

pub zeros-are : (cells : List ℕ) → zeros cells ≡ true → cells ≡ replicate (length cells) 0
unfolding zeros
zeros-are [] e = refl
zeros-are (c ∷ cells) e =
    let b = and_both (eqb c 0) (zeros cells) e in
    rw (eqb-true c 0 b.0) (ap (λ (l : List ℕ). 0 ∷ l) (zeros-are cells b.1))

-- A file of so many blocks that are all sound is read by its cells.
pub file-passes : (f : List ℕ) (k : ℕ) (cells : List ℕ) → length f ≡ 512 * k → 1 ≤ k → good f 0 ≡ k → good_cells f 0 ≡ cells
    → needed (sizes cells) ≡ k → file_read f ≡ card_of cells
unfolding file_read
file-passes f k cells h l g c n =
    let w : whole f ≡ k = omega arith in
    let a : eqb (length f) 0 ≡ false = ne_eqb (length f) 0 (λ e. omega arith) in
    let b : eqb (length f % 512) 0 ≡ true = eq-eqb (length f % 512) 0 (omega arith) in
    let d : ltb (good f 0) (whole f) ≡ false = le-ltb (good f 0) (whole f) (omega (arith, g)) in
    let s : eqb (needed (sizes (good_cells f 0))) (whole f) ≡ true = eq-eqb _ _ (ap (λ (l : List ℕ). needed (sizes l)) c ∙ n ∙ sym w) in
    rw (a, b, d, s, c)

pub card-passes : (cells : List ℕ) {n : ℕ} → zeros (drop (sizes cells) cells) ≡ true → plan_of (table_part cells) (plan_part cells) ≡ read n
    → card_of cells ≡ read (card (table_part cells) (plan_part cells))
unfolding card_of
card-passes cells z e = rw (z, e)

-- and a file that is read is such a one
pub record Passed (f : List ℕ) (c : Card) : Type 0 where
  pub some : 1 ≤ whole f
  pub blocks : length f ≡ 512 * whole f
  pub all : whole f ≤ good f 0
  pub count : needed (sizes (good_cells f 0)) ≡ whole f
  pub padding : zeros (drop (sizes (good_cells f 0)) (good_cells f 0)) ≡ true
  pub branches : ℕ
  pub accepted : plan_of (table_part (good_cells f 0)) (plan_part (good_cells f 0)) ≡ read branches
  pub is : card (table_part (good_cells f 0)) (plan_part (good_cells f 0)) ≡ c

pub or-both : (a b : Bool) → (a || b) ≡ false → (a ≡ false) × (b ≡ false)
or-both true b e = absurd (let z : ◌≡◌ {A = ℕ} 0 1 = cc in omega arith)
or-both false b e = (refl, e)

pub file-passed : (f : List ℕ) (c : Card) → file_read f ≡ read c → Passed f c
unfolding file_read card_of
file-passed f c e =
    let cells = good_cells f 0 in
    let a = passed (eqb (length f) 0 || not (eqb (length f % 512) 0)) _ _ e in
    let b = passed (ltb (good f 0) (whole f)) _ _ a.1 in
    let d = passed (not (eqb (needed (sizes cells)) (whole f))) _ _ b.1 in
    let p = passed (not (zeros (drop (sizes cells) cells))) _ _ d.1 in
    let q = reading.first (plan_of (table_part cells) (plan_part cells)) (λ (n : ℕ). read (card (table_part cells) (plan_part cells))) p.1 in
    let o = or-both (eqb (length f) 0) _ a.0 in
    let n : length f % 512 ≡ 0 = eqb-true (length f % 512) 0 (not-false _ o.1) in
    let z : length f ≡ 0 → ⊥ = eqb-false (length f) 0 o.0 in
    record {
      some = ge-one (length f) z n;
      blocks = omega arith;
      all = ltb-false (good f 0) (whole f) b.0;
      count = eqb-true (needed (sizes cells)) (whole f) (not-false _ d.0);
      padding = not-false _ p.0;
      branches = q.0;
      accepted = q.1;
      is = reading.read_one q.2;
    }
  where
    ge-one : (n : ℕ) → (n ≡ 0 → ⊥) → n % 512 ≡ 0 → 1 ≤ n / 512
    ge-one zero d e = absurd (d refl)
    ge-one (suc n) d e = omega arith

-- the parts of a stream that is filled up
module _ (t p rest : List ℕ) where
  pub sizes-are : sizes (stream t p ++ rest) ≡ length (stream t p)
  sizes-are = omega (arith, length-append t p)

  pub rest-is : drop (sizes (stream t p ++ rest)) (stream t p ++ rest) ≡ rest
  rest-is = drop_at (stream t p) rest (sizes (stream t p ++ rest)) (sym sizes-are)

  pub table_is : table_part (stream t p ++ rest) ≡ t
  table_is = rw (append_assoc t p rest) (take_at t (p ++ rest) (length t) refl)

  pub plan-is : plan_part (stream t p ++ rest) ≡ p
  plan-is =
      let e : drop (2 + length t) (stream t p ++ rest) ≡ p ++ rest =
      rw (add_comm 2 (length t), append_assoc t p rest)
      (drop-two (length t) (t ++ (p ++ rest)) ∙ drop_at t (p ++ rest) (length t) refl) in
      rw e (take_at p rest (length p) refl)
    where
      drop-two : (n : ℕ) (xs : List ℕ) → drop (n + 2) (length t ∷ length p ∷ xs) ≡ drop n xs
      drop-two n xs = let e : n + 2 ≡ suc (suc n) = omega arith in rw e

-- zeros, one after another
pub zeros-next : (cells : List ℕ) (i : ℕ) → i < length cells → get_or cells i 0 ≡ 0 → zeros (drop i cells) ≡ zeros (drop (i + 1) cells)
unfolding zeros
zeros-next cells i h e = rw (add-one i, drop-cons cells i 0 h, e) refl

pub zeros-stop : (cells : List ℕ) (i : ℕ) → i < length cells → (get_or cells i 0 ≡ 0 → ⊥) → zeros (drop i cells) ≡ false
unfolding zeros
zeros-stop cells i h d = rw (drop-cons cells i 0 h, ne_eqb (get_or cells i 0) 0 d) refl

pub zeros-end : (cells : List ℕ) (i : ℕ) → length cells ≤ i → zeros (drop i cells) ≡ true
unfolding zeros
zeros-end cells i h = rw (drop_of_length-le cells h) refl
