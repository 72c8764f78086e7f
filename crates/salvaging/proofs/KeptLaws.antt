-- The rows that are kept: each is a row of 01, none is doubled, they stand at the front of the cells, and no longer run of such rows does.
use Prim.Native.Nat.{ℕ, zero, suc, ◌+◌, ◌-◌, ◌≤◌}
use mathlib.Core.Path.{◌≡◌, refl, sym, ◌∙◌, ap}
use mathlib.Core.Logic.{◌⊎◌, inl, inr}
use mathlib.Core.Bool.{true, false}
use mathlib.Core.List.Memᴰ
use mathlib.Core.List.{List, [], ◌∷◌, ◌++◌, flatten, append_assoc, append-nil}
use native.Mathlib.Omega.{arith}
use lib.ListN.{length, take, drop, length-append, take-append-drop}
use lib.Seq.{take_at, drop_at}
use Rattle.refusal.specs.Read.{Read, read, refuse}
use Rattle.refusal.specs.Refusal.{Refused}
use Rattle.term.proofs.Tests.{bool_cases}
use Rattle.table.specs.All.{All}
use Rattle.table.specs.Table.{Met, met, table, terms_from, doubled, table_of, Row, appear, Apart, Distinct}
use Rattle.table.proofs.RowsLaws.{RowsAre, read-row, rows-put, reads-row, later-apart}
use Rattle.table.proofs.Accepted.{rows-accepted}
use Rattle.table.proofs.AllLaws.{all-members}
use Rattle.table.proofs.ApartLaws.{tested-apart, apart-tested}
use Rattle.salvaging.specs.Kept.{kept_from}

-- a reading, with what it comes to
pub data Reading (R : Read Met) : Type 0 where
  is_read : (m : Met) → R ≡ read m → Reading R
  is-refused : (f : Refused) → R ≡ refuse f → Reading R

pub reading : (R : Read Met) → Reading R
reading (read m) = is_read m refl
reading (refuse f) = is-refused f refl

kept-zero : (w : ℕ) (seen : List (List ℕ)) (xs : List ℕ) → kept_from w zero seen xs ≡ []
unfolding kept_from
kept-zero w seen xs = refl

-- the three ways to go on
module _ (w left : ℕ) (seen : List (List ℕ)) (xs : List ℕ) where
  pub kept-refused : {f : Refused} → terms_from true xs w 0 0 0 ≡ refuse f → kept_from w (suc left) seen xs ≡ []
  unfolding kept_from
  kept-refused e = rw e

  pub kept-doubled : {m : Met} → terms_from true xs w 0 0 0 ≡ read m → doubled m (take m.next xs) seen ≡ true
      → kept_from w (suc left) seen xs ≡ []
  unfolding kept_from
  kept-doubled e d = rw (e, d)

  pub kept_more : {m : Met} → terms_from true xs w 0 0 0 ≡ read m → doubled m (take m.next xs) seen ≡ false
      → kept_from w (suc left) seen xs ≡ take m.next xs ∷ kept_from w left (take m.next xs ∷ seen) (drop m.next xs)
  unfolding kept_from
  kept_more e d = rw (e, d)

-- what is kept: rows of 01, none doubled, at the front of the cells
pub record KeptAre (w left : ℕ) (seen : List (List ℕ)) (xs : List ℕ) (rows : List (List ℕ)) : Type 0 where
  pub rest : List ℕ
  pub cells : flatten rows ++ rest ≡ xs
  pub few : length rows ≤ left
  pub are : RowsAre w (length rows) seen (flatten rows) rows

none_kept : (w left : ℕ) (seen : List (List ℕ)) (xs : List ℕ) → KeptAre w left seen xs []
unfolding flatten
none_kept w left seen xs = record {
  rest = xs;
  cells = refl;
  few = omega arith;
  are = record { count = refl; cells = refl; each = tt; apart = tt; distinct = tt };
}

-- one row more in front
one_more : {w left : ℕ} {seen : List (List ℕ)} {xs ys r : List ℕ} {rs : List (List ℕ)} → r ++ ys ≡ xs → Row w r → Apart seen r
    → KeptAre w left (r ∷ seen) ys rs → KeptAre w (suc left) seen xs (r ∷ rs)
unfolding flatten
one_more {r = r} {rs = rs} x i a k = record {
  rest = k.rest;
  cells = append_assoc r (flatten rs) k.rest ∙ ap (λ (l : List ℕ). r ++ l) k.cells ∙ x;
  few = omega (arith, k.few);
  are = rows-put refl i a k.are;
}

pub kept-are : (w left : ℕ) (seen : List (List ℕ)) (xs : List ℕ) → KeptAre w left seen xs (kept_from w left seen xs)
kept-are w zero seen xs = rw (kept-zero w seen xs) (none_kept w zero seen xs)
kept-are w (suc left) seen xs = go (λ (m : Met). kept-are w left (take m.next xs ∷ seen) (drop m.next xs)) (reading (terms_from true xs w 0 0 0))
  where
    go : ((m : Met) → KeptAre w left (take m.next xs ∷ seen) (drop m.next xs)
        (kept_from w left (take m.next xs ∷ seen) (drop m.next xs)))
        → Reading (terms_from true xs w 0 0 0) → KeptAre w (suc left) seen xs (kept_from w (suc left) seen xs)
    go f (is-refused r e) = rw (kept-refused w left seen xs e) (none_kept w (suc left) seen xs)
    go f (is_read m e) = more (bool_cases (doubled m (take m.next xs) seen))
      where
        more : (doubled m (take m.next xs) seen ≡ true) ⊎ (doubled m (take m.next xs) seen ≡ false)
            → KeptAre w (suc left) seen xs (kept_from w (suc left) seen xs)
        more (inl d) = rw (kept-doubled w left seen xs e d) (none_kept w (suc left) seen xs)
        more (inr d) =
            let z : m.next - 0 ≡ m.next = omega arith in
            let i = rw z at (read-row w xs 0 e) in
            rw (kept_more w left seen xs e d)
            (one_more (take-append-drop m.next xs) i.0 (tested-apart m (take m.next xs) seen i.1 d) (f m))

-- so the kept rows, where there are any, are a table of that width
pub kept_table : (w left : ℕ) (xs : List ℕ) → (1 ≤ w) × (w ≤ 8) → left ≤ 64 → 1 ≤ length (kept_from w left [] xs)
    → table_of (w ∷ length (kept_from w left [] xs) ∷ flatten (kept_from w left [] xs)) ≡ read (table w (kept_from w left [] xs))
kept_table w left xs b l s =
    let k = kept-are w left [] xs in
    rows-accepted w (kept_from w left [] xs) b (s, omega (arith, k.few)) k.are.each k.are.distinct

flatten-more : (r : List ℕ) (rs : List (List ℕ)) (rest : List ℕ) → flatten (r ∷ rs) ++ rest ≡ r ++ (flatten rs ++ rest)
unfolding flatten
flatten-more r rs rest = append_assoc r (flatten rs) rest

-- one list at the front of another
pub record Starts (rows all : List (List ℕ)) : Type 0 where
  pub more : List (List ℕ)
  pub both : rows ++ more ≡ all

-- a row of 01 at the front is kept
kept_row : (w left : ℕ) (seen : List (List ℕ)) (r ys : List ℕ) → Row w r → Apart seen r
    → kept_from w (suc left) seen (r ++ ys) ≡ r ∷ kept_from w left (r ∷ seen) ys
kept_row w left seen r ys i a =
    let n : 0 + length r ≡ length r = omega arith in
    let v = length (appear [] r) in
    let e : terms_from true (r ++ ys) w 0 0 0 ≡ read (met (length r) v) = rw n at (reads-row i ys 0) in
    let t : take (length r) (r ++ ys) ≡ r = take_at r ys (length r) refl in
    let d : drop (length r) (r ++ ys) ≡ ys = drop_at r ys (length r) refl in
    let f : doubled (met (length r) v) (take (length r) (r ++ ys)) seen ≡ false = rw t (apart-tested (met (length r) v) r seen refl a) in
    kept_more w left seen (r ++ ys) e f ∙ rw (t, d) refl

-- "the longest run of rows from the top that the table's checks accept": rows of 01 that stand at the front, none doubled and no more than
-- are asked for, are at the front of those that are kept
pub longest : (w left : ℕ) (seen : List (List ℕ)) (rs : List (List ℕ)) (rest : List ℕ) → All (Row w) rs → All (Apart seen) rs → Distinct rs
    → length rs ≤ left → Starts rs (kept_from w left seen (flatten rs ++ rest))
longest w left seen [] rest a b c l = record { more = kept_from w left seen (flatten [] ++ rest); both = refl }
longest w zero seen (r ∷ rs) rest a b c l = absurd (omega arith)
longest w (suc left) seen (r ∷ rs) rest a b c l =
    let s = longest w left (r ∷ seen) rs rest a.1 (later-apart seen r rs b.1 c.0) c.1 (omega arith) in
    let e = flatten-more r rs rest in
    let k = kept_row w left seen r (flatten rs ++ rest) a.0 b.0 in
    record { more = s.more; both = ap (λ (l : List (List ℕ)). r ∷ l) s.both ∙ sym k ∙ ap (kept_from w (suc left) seen) (sym e) }

pub no_rows : (l : List (List ℕ)) → length l ≡ 0 → l ≡ []
no_rows [] h = refl
no_rows (x ∷ l) h = absurd (omega arith)

-- rows that are a table are all kept
pub rows-kept : (w : ℕ) (rows : List (List ℕ)) (rest : List ℕ) → All (Row w) rows → Distinct rows
    → kept_from w (length rows) [] (flatten rows ++ rest) ≡ rows
rows-kept w rows rest a d =
    let s = longest w (length rows) [] rows rest a (all-members (Apart []) rows (λ r m g n. absurd (Memᴰ.not-nil n))) d (omega arith) in
    let k = kept-are w (length rows) [] (flatten rows ++ rest) in
    let n : length s.more ≡ 0 = omega (arith, k.few, ap length s.both, length-append rows s.more) in
    sym s.both ∙ ap (λ (l : List (List ℕ)). rows ++ l) (no_rows s.more n) ∙ append-nil rows

-- of cells that are cut off, a start of the rows is kept
pub kept-cut : (w left : ℕ) (xs ys : List ℕ) → Starts (kept_from w left [] xs) (kept_from w left [] (xs ++ ys))
kept-cut w left xs ys =
    let k = kept-are w left [] xs in
    let K = kept_from w left [] xs in
    let s = longest w left [] K (k.rest ++ ys) k.are.each k.are.apart k.are.distinct k.few in
    let e : flatten K ++ (k.rest ++ ys) ≡ xs ++ ys = sym (append_assoc (flatten K) k.rest ys) ∙ ap (λ (l : List ℕ). l ++ ys) k.cells in
    record { more = s.more; both = s.both ∙ ap (kept_from w left []) e }
