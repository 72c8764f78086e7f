-- A row by itself is noted cell by cell, and its variables are counted as they are met.
use mathlib.Core.Path.{◌≡◌, refl, sym, ap, ◌∙◌}
use mathlib.Core.Logic.{◌≢◌, by_cases}
use mathlib.Core.Bool.{Bool, true, false, cond}
use mathlib.Core.List.{List, [], ◌∷◌}
use Prim.Native.Nat.{ℕ, suc, ◌+◌, ◌%◌, ◌≤◌, ◌<◌}
use native.Mathlib.Decide.{ℕ_discrete, dec_lt}
use native.Mathlib.Omega.{arith}
use native.Mathlib.Numerals.{add-one}
use lib.Dec.{eqb, ltb}
use lib.ListN.{length, get_or}
use lib.Seq.{slice, slice-cons, slice_empty}
use borrow.Author.Tests.{eq-eqb, ne_eqb, eqb-true, eqb-false, lt-ltb, le-ltb}
use Rattle.cell.specs.Cell.{is_var}
use Rattle.cell.proofs.CellLaws.{var-small}
use Rattle.refusal.specs.Read.{read}
use Rattle.table.specs.Table.{count, appear}
use Rattle.table.specs.code.Looks.{cell_from, cells_from}
use Rattle.table.proofs.ReadLaws.{not-both, first}
use Rattle.table.proofs.HeadLaws.{head-passes}
use Rattle.table.proofs.SoundLaws.{Seen, symbol, new, old, seen}
use Rattle.plan.specs.Plans.{Measure}
use Rattle.least.specs.Measures.{weight_at}
use Rattle.least.specs.Later.{later_in}
use Rattle.least.specs.code.Low.{Light}
use Rattle.least.proofs.Later.{weight-later}
use Rattle.paircosts.specs.declared.arrays.Note.{Note}
use Rattle.paircosts.specs.code.Notes.{note, note_in, put_note, weight_in, most_agreed, weight_of, weights_from, VariablesBelow, LastRow, Alone}
use Rattle.paircosts.proofs.RingLaws.{put_other, put-alike, put-room}
use Rattle.limits.specs.Limits.{most_table_cells}

-- a row's cells cost what they weigh, and what its later meetings cost beyond that
pub weights-later : {m : Measure} → Light m → (met xs : List ℕ) → weights_from m met xs ≡ weight_of m xs + later_in m met xs
unfolding later_in
weights-later light met [] = omega arith
weights-later light met (c ∷ xs) = omega (arith, weight-later light met c, weights-later light (c ∷ met) xs)

-- where a number is on the same side of two others
below_both : (v n k : ℕ) → v < n → v < k → ltb v n ≡ ltb v k
below_both v n k h l = lt-ltb v n h ∙ sym (lt-ltb v k l)

above-both : (v n k : ℕ) → n ≤ v → k ≤ v → ltb v n ≡ ltb v k
above-both v n k h l = le-ltb v n h ∙ sym (le-ltb v k l)

-- one cell more
module _ {before : List ℕ} {n : ℕ} (x : VariablesBelow before n) where
  -- of a variable in front, and of every other
  count-front : (v c : ℕ) → v ≡ c → ltb 0 (count v (c ∷ before)) ≡ true
  unfolding count
  count-front v c e = rw (eq-eqb v c e) (lt-ltb 0 (1 + count v before) (omega arith))

  count-behind : (v c : ℕ) → is_var v ≡ true → v ≢ c → ltb 0 (count v (c ∷ before)) ≡ ltb v n
  unfolding count
  count-behind v c h d = let e : 0 + count v before ≡ count v before = omega arith in rw (ne_eqb v c d, e) (x.below v h)

  numbered_next : {c u : ℕ} → Seen c n (read u) → VariablesBelow (c ∷ before) u
  numbered_next {c} (symbol C i) = record { below = λ v h. count-behind v c h (λ e. not-both h (ap is_var e ∙ i)) }
  numbered_next {c} (new C i e) = record {
    below = λ v h.
        by_cases (ℕ_discrete v c)
        (λ q. count-front v c q ∙ sym (lt-ltb v (suc n) (omega arith)))
        (λ d. count-behind v c h d
        ∙ by_cases (dec_lt v n) (λ (l : v < n). below_both v n (suc n) l (omega arith)) (λ l. above-both v n (suc n) (omega arith) (omega (arith, d))));
  }
  numbered_next {c} (old C i l) = record {
    below = λ v h. by_cases (ℕ_discrete v c) (λ q. count-front v c q ∙ sym (lt-ltb v n (omega arith))) (λ d. count-behind v c h d);
  }

  -- the number of the variables met
  met_next : {c u : ℕ} → n ≤ most_table_cells → Seen c n (read u) → u ≡ cond (eqb c n) (n + 1) n
  met_next {c} s (symbol C i) = rw (ne_eqb c n (λ e. not-both (var-small c (omega arith)) i))
  met_next {c} s (new C i e) = rw (eq-eqb c n e) (omega arith)
  met_next {c} s (old C i l) = rw (ne_eqb c n (λ e. omega arith))

  -- what the cell weighs there
  weight-next : {c u : ℕ} (m : Measure) → n ≤ most_table_cells → Seen c n (read u) → weight_at m before c ≡ cond (ltb c n) 1 (m.weight c)
  weight-next {c} m s (symbol C i) = rw (i, le-ltb c n (by_cases (dec_lt c n) (λ (l : c < n). not-both (var-small c (omega arith)) i) (λ l. omega arith)))
  weight-next {c} m s (new C i e) = rw (i, x.below c i)
  weight-next {c} m s (old C i l) = rw (i, x.below c i)

module _ {cells marks : List ℕ} {notes₀ : List Note} {row at stop : ℕ} (g : LastRow cells marks notes₀ row at stop) where
  pub alone-start : Alone g at notes₀ 0 0
  unfolding count
  alone-start = record {
    each = λ j h h'. absurd (omega arith);
    before = [];
    numbered = record { below = λ v h. sym (le-ltb v 0 (omega arith)) };
    fresh = (length (appear [] (slice at stop cells)), head-passes true at g.head);
    sum = omega arith;
    order = (omega arith, g.part.0);
    small = omega arith;
    light = omega arith;
    room = g.room;
  }

  module _ {notes : List Note} {q n k : ℕ} (x : Alone g q notes n k) (h : q < stop) where
    abbrev c : ℕ
    c = get_or cells q 0

    -- what a turn of the loop asks, and what it adds: a weight is at most 7, and one variable more is met at most
    pub record AloneSafe : Type 0 where
      pub inside : q < length cells
      pub small : q < most_table_cells
      pub light : n ≤ most_agreed
      pub met : k ≤ most_table_cells
      pub weighs : cond (ltb c k) 1 (weight_in marks q) ≤ 7
      pub more : cond (eqb c k) (k + 1) k ≤ k + 1

    pub alone-safe : AloneSafe
    alone-safe = record {
      inside = omega (arith, g.part.1);
      small = omega (arith, g.part.1, g.part.2);
      light = omega (arith, x.light, g.part.1, g.part.2);
      met = omega (arith, x.small, g.part.1, g.part.2);
      weighs = weighs (ltb c k);
      more = more (eqb c k);
    }
      where
        weighs : (b : Bool) → cond b 1 (weight_in marks q) ≤ 7
        weighs true = omega arith
        weighs false = omega arith

        more : (b : Bool) → cond b (k + 1) k ≤ k + 1
        more true = omega arith
        more false = omega arith

    rest-is : slice q stop cells ≡ c ∷ slice (suc q) stop cells
    rest-is = slice-cons q stop cells 0 h g.part.1

    -- the cell passes the reader's tests, and so do those after it
    passes : (u : ℕ) × (cell_from true c k q ≡ read u) × (cells_from true (slice (suc q) stop cells) u (suc q) ≡ read x.fresh.0)
    unfolding cells_from
    passes = first (cell_from true c k q) (λ (u : ℕ). cells_from true (slice (suc q) stop cells) u (suc q)) (rw rest-is at x.fresh.1)

    here : Seen c k (read passes.0)
    here = rw passes.1 at (seen true c k q)

    next-is : passes.0 ≡ cond (eqb c k) (k + 1) k
    next-is = met_next x.numbered alone-safe.met here

    weight_is : weight_at g.m x.before c ≡ cond (ltb c k) 1 (weight_in marks q)
    weight_is =
        let w : weight_in marks q ≡ g.m.weight c = (g.marked.at q (omega arith) alone-safe.inside).weight in
        weight-next x.numbered g.m alone-safe.met here ∙ rw w

    each_next : (j : ℕ) → at ≤ j → j < q + 1 → note_in (put_note notes q (note 1 0 row)) j ≡ note 1 0 row
    each_next j l m = go (eqb (j % 64) (q % 64)) refl
      where
        go : (b : Bool) → eqb (j % 64) (q % 64) ≡ b → note_in (put_note notes q (note 1 0 row)) j ≡ note 1 0 row
        go true e = put-alike notes q (note 1 0 row) j x.room (eqb-true (j % 64) (q % 64) e)
        go false e =
            let ne : j % 64 ≢ q % 64 = eqb-false (j % 64) (q % 64) e in
            let nj : j ≢ q = λ i. ne (ap (λ (k : ℕ). k % 64) i) in
            put_other notes q (note 1 0 row) j ne ∙ x.each j l (omega (arith, nj))

    pub alone-step : Alone g (q + 1) (put_note notes q (note 1 0 row)) (n + cond (ltb c k) 1 (weight_in marks q)) (cond (eqb c k) (k + 1) k)
    alone-step = record {
      each = each_next;
      before = c ∷ x.before;
      numbered = rw next-is at (numbered_next x.numbered here);
      fresh = (x.fresh.0, rw (add-one q, ← next-is) passes.2);
      sum = rw (add-one q) (omega (arith, x.sum, weight_is, ap (weights_from g.m x.before) rest-is));
      order = (omega (arith, x.order.0), omega arith);
      small = omega (arith, x.small, alone-safe.more);
      light = omega (arith, x.light, alone-safe.weighs);
      room = put-room notes q (note 1 0 row) ∙ x.room;
    }

  pub alone-end : {notes : List Note} {q n k : ℕ} → stop ≤ q → Alone g q notes n k → Alone g stop notes n k
  alone-end {q = q} h x = let e : q ≡ stop = omega (arith, x.order.1) in rw e at x

  -- in the end what is counted is what the row's cells cost
  pub alone-sum : {notes : List Note} {n k : ℕ} → Alone g stop notes n k → n ≡ weights_from g.m [] (slice at stop cells)
  alone-sum x = let z : weights_from g.m x.before (slice stop stop cells) ≡ 0 = rw (slice_empty stop cells) in omega (arith, x.sum, z)
