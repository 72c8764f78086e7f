-- The rows of a table one after another, in the form in which the code reads them.
use mathlib.Core.Path.{◌≡◌, refl, sym, ◌∙◌, ap}
use mathlib.Core.Bool.{true, false}
use mathlib.Core.Logic.{⊎_elim}
use mathlib.Core.List.Memᴰ
use mathlib.Core.List.{List, [], ◌∷◌, ◌++◌, flatten}
use Prim.Native.Nat.{ℕ, zero, suc, ◌+◌, ◌-◌, ◌≤◌, ◌<◌}
use native.Mathlib.Numerals.{add-one}
use native.Mathlib.Nat.{add-zero}
use native.Mathlib.Omega.{arith}
use lib.ListN.{length, take, drop, set, replicate, length-drop, drop_of_length-le, take-append-drop}
use lib.Seq.{take_at, drop_at, drop-cons, drop-drop, sets, length-take-le}
use Rattle.term.proofs.Lists.{sets-replicate}
use Rattle.refusal.specs.Refusal.{Refused, refused, told, Answer, answered, turned}
use Rattle.refusal.specs.declared.Reason.TheVariants as reason
use Rattle.refusal.specs.declared.Input.TheVariants as input
use Rattle.refusal.specs.Read.{Read, read, refuse, and_then}
use Rattle.table.specs.Table.{Met, met, Table, table, row_before, doubled, terms_from, rows_from, Row, appear, Ground, Apart, Distinct}
use Rattle.std.specs.Prelude.{Result, Err}
use Rattle.refusal.specs.declared.Refusal.{Refusal}
use Rattle.table.specs.Table.{starts, read_told, starts_told, TableReads}
use Rattle.table.specs.declared.TableRead.{TableRead}
use Rattle.table.specs.All.{All}
use Rattle.table.proofs.ReadLaws.{apart, passed, first}
use Rattle.table.proofs.WholeLaws.{terms-pass, whole, whole_part, whole-within}
use Rattle.table.proofs.HeadLaws.{passed-head, head-passes}
use Rattle.table.proofs.AllLaws.{all-each, all_both}
use Rattle.table.proofs.ApartLaws.{tested-apart, apart-tested}

-- the rows of the cells from p on
module _ (w : ℕ) (seen : List (List ℕ)) (t : List ℕ) (p : ℕ) where
  pub rows_end : {n : ℕ} → n ≡ 0 → length t ≤ p → rows_from w n seen (drop p t) p ≡ read []
  unfolding rows_from
  rows_end z h = rw (z, drop_of_length-le t h)

  pub rows-extra : {n : ℕ} → n ≡ 0 → p < length t → rows_from w n seen (drop p t) p ≡ refuse (refused reason.Extra input.Table p)
  unfolding rows_from
  rows-extra z h = rw (z, drop-cons t p 0 h)

  pub rows-turned : (n : ℕ) {f : Refused} → 0 < n → terms_from true (drop p t) w 0 0 p ≡ refuse f → rows_from w n seen (drop p t) p ≡ refuse f
  unfolding rows_from
  rows-turned zero l h = absurd (omega arith)
  rows-turned (suc n) l h = rw h

  -- a row is read, up to e
  module _ {e v : ℕ} (h : terms_from true (drop p t) w 0 0 p ≡ read (met e v)) where
    pub rows_same : (n : ℕ) → 0 < n → doubled (met e v) (take (e - p) (drop p t)) seen ≡ true
        → rows_from w n seen (drop p t) p ≡ refuse (refused reason.Same input.Table p)
    unfolding rows_from
    rows_same zero l d = absurd (omega arith)
    rows_same (suc n) l d = rw (h, d)

    pub rows_more : (n : ℕ) → 0 < n → p ≤ e → doubled (met e v) (take (e - p) (drop p t)) seen ≡ false
        → rows_from w n seen (drop p t) p
        ≡ row_before (take (e - p) (drop p t)) (rows_from w (n - 1) (take (e - p) (drop p t) ∷ seen) (drop e t) e)
    unfolding rows_from
    rows_more zero l k d = absurd (omega arith)
    rows_more (suc n) l k d =
        let m : suc n - 1 ≡ n = omega arith in
        let q : p + (e - p) ≡ e = omega arith in
        rw (h, d, drop-drop (e - p) p t, q, m)

-- The rows that are read, some having been seen before: as many as were asked for, one after another and nothing else, each a row of 01,
-- and none of them doubled.
pub record RowsAre (w n : ℕ) (seen : List (List ℕ)) (xs : List ℕ) (rows : List (List ℕ)) : Type 0 where
  pub count : length rows ≡ n
  pub cells : xs ≡ flatten rows
  pub each : All (Row w) rows
  pub apart : All (Apart seen) rows
  pub distinct : Distinct rows

-- cells that are read whole as a row are one, with so many variables
pub read-row : (w : ℕ) (xs : List ℕ) (p : ℕ) {m : Met} → terms_from true xs w 0 0 p ≡ read m
    → Row w (take (m.next - p) xs) × (m.vars ≡ length (appear [] (take (m.next - p) xs)))
read-row w xs p e =
    let o = whole true xs w p e in
    let l : length o.front.cells ≤ 32 = omega (arith, o.front.room refl) in
    rw (whole_part o).0 (passed-head o.front.terms l true p o.tested)

before-read : (r : List ℕ) (R : Read (List (List ℕ))) {rows : List (List ℕ)} → row_before r R ≡ read rows
    → (rs : List (List ℕ)) × (R ≡ read rs) × (rows ≡ r ∷ rs)
before-read r (read rs) e = (rs, refl, cc)
before-read r (refuse f) e = apart (sym e)

-- one more row in front of rows that come after it
pub rows-put : {w n : ℕ} {seen : List (List ℕ)} {xs ys r : List ℕ} {rs : List (List ℕ)} → xs ≡ r ++ ys → Row w r → Apart seen r
    → RowsAre w n (r ∷ seen) ys rs → RowsAre w (suc n) seen xs (r ∷ rs)
unfolding flatten
rows-put {seen = seen} {r = r} {rs = rs} x i a o = record {
  count = ap suc o.count;
  cells = x ∙ ap (λ (s : List ℕ). r ++ s) o.cells;
  each = (i, o.each);
  apart = (a, all-each (Apart (r ∷ seen)) (Apart seen) (λ s k g m. k g (Memᴰ.tail m)) rs o.apart);
  distinct = (
    all-each (Apart (r ∷ seen)) (λ (s : List ℕ). Ground s → r ≡ s → ⊥) (λ s k g e. k g (Memᴰ.head (sym e))) rs o.apart,
    o.distinct,
  );
}

pub rows_are : (w n : ℕ) (seen : List (List ℕ)) (xs : List ℕ) (p : ℕ) {rows : List (List ℕ)} → rows_from w n seen xs p ≡ read rows
    → RowsAre w n seen xs rows
unfolding rows_from flatten
rows_are w zero seen [] p {rows} e =
    let q : [] ≡ rows = cc in
    rw (← q) (record { count = refl; cells = refl; each = tt; apart = tt; distinct = tt })
rows_are w zero seen (c ∷ xs) p e = apart (sym e)
rows_are w (suc n) seen xs p {rows} e =
    let f = first (terms_from true xs w 0 0 p) _ e in
    let r : List ℕ = take (f.0.next - p) xs in
    let i = read-row w xs p f.1 in
    let d = passed (doubled f.0 r seen) _ _ f.2 in
    let b = before-read r _ d.1 in
    rw b.2
    (rows-put (sym (take-append-drop (f.0.next - p) xs)) i.0 (tested-apart f.0 r seen i.1 d.0)
    (rows_are w n (r ∷ seen) (drop (f.0.next - p) xs) f.0.next b.1))

-- a row of 01 is read whole, whatever follows it
pub reads-row : {w : ℕ} {r : List ℕ} → Row w r → (rest : List ℕ) (p : ℕ)
    → terms_from true (r ++ rest) w 0 0 p ≡ read (met (p + length r) (length (appear [] r)))
reads-row i rest p =
    terms-pass i.terms rest true 0 0 p (λ _. omega (arith, i.short)) ∙ rw (head-passes true p i)

-- rows after a row are apart from it and from those before it
pub later-apart : (seen : List (List ℕ)) (r : List ℕ) (rs : List (List ℕ)) → All (Apart seen) rs
    → All (λ (s : List ℕ). Ground s → r ≡ s → ⊥) rs → All (Apart (r ∷ seen)) rs
later-apart seen r rs a d =
    all-each _ (Apart (r ∷ seen)) (λ s k g m. ⊎_elim (λ e. k.1 g (sym e)) (k.0 g) (Memᴰ.cases_cons m)) rs
    (all_both (Apart seen) (λ (s : List ℕ). Ground s → r ≡ s → ⊥) rs a d)

pub are-rows : (w : ℕ) (seen rows : List (List ℕ)) (p : ℕ) → All (Row w) rows → All (Apart seen) rows → Distinct rows
    → rows_from w (length rows) seen (flatten rows) p ≡ read rows
unfolding rows_from flatten
are-rows w seen [] p i a d = refl
are-rows w seen (r ∷ rs) p i a d =
    let l : length r ≡ p + length r - p = omega arith in
    let t = apart-tested (met (p + length r) (length (appear [] r))) r seen refl a.0 in
    rw (
      reads-row i.0 (flatten rs) p,
      take_at r (flatten rs) (p + length r - p) l,
      t,
      drop_at r (flatten rs) (p + length r - p) l,
      are-rows w (r ∷ seen) rs (p + length r) i.1 (later-apart seen r rs a.1 d.0) d.1,
    )

-- What the code answers in the end: n rows are read, the first starts stand in S, and the next row starts at p
pub record Outcome : Type 0 where
  pub answer : Answer
  pub starts : List ℕ

abbrev pub outcome : Result TableRead Refusal → Outcome
outcome r = record { answer = read_told r; starts = starts_told r }

abbrev pub after : ℕ → ℕ → List ℕ → ℕ → Read (List (List ℕ)) → Outcome
after w n S p (read rows) = record { answer = answered w (n + length rows); starts = sets S n (starts p rows) }
after w n S p (refuse f) = record { answer = turned f; starts = replicate 64 0 }

pub after-end : (w n : ℕ) (S : List ℕ) (p : ℕ) {m : ℕ} → m ≡ n → record { answer = answered w m; starts = S } ≡ after w n S p (read [])
unfolding starts
after-end w n S p e = rw (e, add-zero n)

-- one row further
pub after-row : (w n : ℕ) (S : List ℕ) (p : ℕ) (r : List ℕ) (R : Read (List (List ℕ)))
    → after w n S p (row_before r R) ≡ after w (n + 1) (set S n p) (p + length r) R
unfolding starts
after-row w n S p r (read rows) = let e : n + suc (length rows) ≡ n + 1 + length rows = omega arith in rw (e, add-one n)
after-row w n S p r (refuse f) = refl

pub next_row : (w : ℕ) (seen : List (List ℕ)) (t : List ℕ) (p n i : ℕ) (S : List ℕ) {e v : ℕ} → 0 < n → p ≤ length t
    → terms_from true (drop p t) w 0 0 p ≡ read (met e v) → doubled (met e v) (take (e - p) (drop p t)) seen ≡ false
    → after w i S p (rows_from w n seen (drop p t) p)
    ≡ after w (i + 1) (set S i p) e (rows_from w (n - 1) (take (e - p) (drop p t) ∷ seen) (drop e t) e)
next_row w seen t p n i S {e} l k h d =
    let b = whole-within true t w p k h in
    let r : List ℕ = take (e - p) (drop p t) in
    let q : p + length (take (e - p) (drop p t)) ≡ e = omega (arith, length-take-le (e - p) (drop p t) (omega (arith, length-drop p t))) in
    ap (after w i S p) (rows_more w seen t p h n l b.0 d) ∙ after-row w i S p r (rows_from w (n - 1) (r ∷ seen) (drop e t) e) ∙ rw q

-- a table that is turned away
pub outcome-turned : (f : Refusal) {g : Refused} → told f ≡ g → outcome (Err f) ≡ record { answer = turned g; starts = replicate 64 0 }
outcome-turned f e = rw e

pub table-refused : {R : Read Table} (f : Refusal) {g : Refused} → told f ≡ g → R ≡ refuse g → TableReads R (Err f)
table-refused f e q = rw q (record { answer = ap turned e; starts = refl })

-- What the code answers is what is to be answered for a table of these rows.
pub length-starts : (p : ℕ) (rows : List (List ℕ)) → length (starts p rows) ≡ length rows
unfolding starts
length-starts p [] = refl
length-starts p (r ∷ rs) = ap suc (length-starts (p + length r) rs)

starts-placed : (rows : List (List ℕ)) → length rows ≤ 64 → sets (replicate 64 0) 0 (starts 2 rows) ≡ starts 2 rows ++ replicate (64 - length rows) 0
starts-placed rows h = let l = length-starts 2 rows in rw l at (sets-replicate 64 0 (starts 2 rows) (omega arith))

pub rows-answer : (w n : ℕ) (xs : List ℕ) (r : Result TableRead Refusal) → n ≤ 64 → outcome r ≡ after w 0 (replicate 64 0) 2 (rows_from w n [] xs 2)
    → TableReads (and_then (rows_from w n [] xs 2) (λ (rows : List (List ℕ)). read (table w rows))) r
rows-answer w n xs r h e = go (rows_from w n [] xs 2) (λ rows q. (rows_are w n [] xs 2 q).count) e
  where
    go : (R : Read (List (List ℕ))) → ((rows : List (List ℕ)) → R ≡ read rows → length rows ≡ n)
        → outcome r ≡ after w 0 (replicate 64 0) 2 R
        → TableReads (and_then R (λ (rows : List (List ℕ)). read (table w rows))) r
    go (read rows) c q =
        let z : 0 + length rows ≡ length rows = omega arith in
        record {
          answer = ap (λ (o : Outcome). o.answer) q ∙ ap (answered w) z;
          starts = ap (λ (o : Outcome). o.starts) q ∙ starts-placed rows (omega (arith, c rows refl));
        }
    go (refuse f) c q = record { answer = ap (λ (o : Outcome). o.answer) q; starts = ap (λ (o : Outcome). o.starts) q }
