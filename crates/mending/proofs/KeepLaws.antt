-- Rows that are kept one after another: what is counted so far and what is left are the whole.
use Prim.Native.Nat.{ℕ, zero, suc, ◌+◌, ◌-◌, ◌≤◌, ◌<◌}
use mathlib.Core.Path.{◌≡◌, sym, ◌∙◌, ap}
use mathlib.Core.Bool.{true, false}
use mathlib.Core.List.{List, [], ◌∷◌, flatten}
use native.Mathlib.Omega.{arith}
use lib.ListN.{length, set, take, drop, length-append, length-drop, length-set}
use lib.Seq.{drop-drop, length-take-le}
use Rattle.std.specs.Prelude.{Option, Some, None}
use Rattle.refusal.specs.Read.{read}
use Rattle.slices.specs.Slices.{between}
use Rattle.samerows.specs.Starts.{rows_but, rows_lent, Ascends}
use Rattle.samerows.proofs.StartLaws.{rows_before, row-noted, start-noted}
use Rattle.table.specs.Table.{Met, terms_from, doubled}
use Rattle.salvaging.specs.Kept.{kept_from}
use Rattle.salvaging.proofs.KeptLaws.{kept_more}
use Rattle.mending.specs.declared.Kept.{Kept}
use Rattle.mending.specs.Mending.{Keeps}
use Rattle.mending.specs.code.Next.{NextIs, ends, stops}

pub record Keeping (cells : List ℕ) (w count : ℕ) (starts : List ℕ) (at n : ℕ) : Type 0 where
  pub within : at ≤ length cells
  pub few : n ≤ count
  pub size : length starts ≡ 64
  pub up : Ascends starts n at
  pub many : n + length (kept_from w (count - n) (rows_but cells starts 64 n at) (drop at cells)) ≡ length (kept_from w count [] cells)
  pub last : at + length (flatten (kept_from w (count - n) (rows_but cells starts 64 n at) (drop at cells)))
      ≡ length (flatten (kept_from w count [] cells))

pub keep-begins : (cells : List ℕ) (w count : ℕ) (starts : List ℕ) → length starts ≡ 64 → Keeping cells w count starts 0 0
unfolding rows_but Ascends
keep-begins cells w count starts s =
    let z : count - 0 ≡ count = omega arith in
    record { within = omega arith; few = omega arith; size = s; up = tt; many = rw z (omega arith); last = rw z (omega arith) }

-- what none adds, and what one row more does
none-flat : {rs : List (List ℕ)} → rs ≡ [] → length (flatten rs) ≡ 0
unfolding flatten
none-flat e = ap (λ (l : List (List ℕ)). length (flatten l)) e

flat-more : (r : List ℕ) (rs : List (List ℕ)) → length (flatten (r ∷ rs)) ≡ length r + length (flatten rs)
unfolding flatten
flat-more r rs = length-append r (flatten rs)

row_more : (cells : List ℕ) (w left at e : ℕ) (seen : List (List ℕ)) (m : Met) → terms_from true (drop at cells) w 0 0 0 ≡ read m
    → doubled m (take m.next (drop at cells)) seen ≡ false → e ≡ at + m.next → 0 < left
    → kept_from w left seen (drop at cells) ≡ between at e cells ∷ kept_from w (left - 1) (between at e cells ∷ seen) (drop e cells)
row_more cells w zero at e seen m h d q l = absurd (omega arith)
row_more cells w (suc left) at e seen m h d q l =
    let k : e - at ≡ m.next = omega arith in
    let j : suc left - 1 ≡ left = omega arith in
    let x : drop m.next (drop at cells) ≡ drop e cells = drop-drop m.next at cells ∙ ap (λ (i : ℕ). drop i cells) (sym q) in
    rw (k, j, ← x) (kept_more w left seen (drop at cells) h d)

module _ {cells starts : List ℕ} {w count at n : ℕ} (k : Keeping cells w count starts at n) (more : n < count) (most : count ≤ 64) where
  -- the rows so far, as they are lent
  abbrev lent : List (List ℕ)
  lent = rows_lent (take at cells) (take n starts) (length (take n starts))

  lent_is : lent ≡ rows_but cells starts 64 n at
  lent_is = rows_before cells starts 64 n at (omega arith) (omega (arith, k.size)) k.within k.up

  pub keep-next : {r : Option ℕ} {e : ℕ} → NextIs w lent (drop at cells) at r → r ≡ Some e → Keeping cells w count (set starts n at) e (n + 1)
  keep-next (ends m e' h d l q) z = go (rw lent_is at d) z
    where
      go : doubled m (take m.next (drop at cells)) (rows_but cells starts 64 n at) ≡ false → {e : ℕ} → Some e' ≡ Some e
          → Keeping cells w count (set starts n at) e (n + 1)
      go d {e} z =
          let z' : e' ≡ e = cc in
          let q' : e ≡ at + m.next = sym z' ∙ q in
          let seen = rows_but cells starts 64 n at in
          let s : rows_but cells (set starts n at) 64 (n + 1) e ≡ between at e cells ∷ seen =
          row-noted starts n at (omega (arith, k.size)) cells 64 e (λ x. omega arith) in
          let c : count - n - 1 ≡ count - (n + 1) = omega arith in
          let r = row_more cells w (count - n) at e seen m h d q' (omega arith) in
          let r' : kept_from w (count - n) seen (drop at cells)
          ≡ between at e cells ∷ kept_from w (count - (n + 1)) (between at e cells ∷ seen) (drop e cells) = rw c at r in
          let lb : length (between at e cells) ≡ e - at = length-take-le (e - at) (drop at cells) (omega (arith, q', l)) in
          let rest = kept_from w (count - (n + 1)) (between at e cells ∷ seen) (drop e cells) in
          record {
            within = omega (arith, q', l, length-drop at cells, k.within);
            few = omega arith;
            size = length-set starts n at ∙ k.size;
            up = start-noted starts n at (omega (arith, k.size)) (omega (arith, q')) k.up;
            many = rw s (omega (arith, k.many, ap length r'));
            last = rw s (omega (arith, k.last, ap (λ (l : List (List ℕ)). length (flatten l)) r', flat-more (between at e cells) rest, lb, q'));
          }
  keep-next (stops f) z = absurd (let y : ◌≡◌ {A = ℕ} 0 1 = cc in omega arith)

  pub keep-stops : {r : Option ℕ} → NextIs w lent (drop at cells) at r → r ≡ None → {x : Kept} → x.rows ≡ n → x.end ≡ at
      → Keeps (kept_from w count [] cells) x
  keep-stops (ends m e h d l q) z a b = absurd (let y : ◌≡◌ {A = ℕ} 0 1 = cc in omega arith)
  keep-stops (stops f) z a b = go (rw lent_is at f) a b
    where
      go : ((left : ℕ) → kept_from w (suc left) (rows_but cells starts 64 n at) (drop at cells) ≡ []) → {x : Kept} → x.rows ≡ n → x.end ≡ at
          → Keeps (kept_from w count [] cells) x
      go f {x} a b =
          let c : count - n ≡ suc (count - n - 1) = omega arith in
          let e : kept_from w (count - n) (rows_but cells starts 64 n at) (drop at cells) ≡ [] =
          ap (λ (j : ℕ). kept_from w j (rows_but cells starts 64 n at) (drop at cells)) c ∙ f (count - n - 1) in
          record { many = omega (arith, a, k.many, ap length e); last = omega (arith, b, k.last, none-flat e) }

pub keep-ends : {cells starts : List ℕ} {w count at n : ℕ} → Keeping cells w count starts at n → count ≤ n → {x : Kept} → x.rows ≡ n → x.end ≡ at
    → Keeps (kept_from w count [] cells) x
unfolding kept_from
keep-ends {cells} {starts} {w} {count} {at} {n} k l {x} a b =
    let c : count - n ≡ 0 = omega arith in
    let e : kept_from w (count - n) (rows_but cells starts 64 n at) (drop at cells) ≡ [] =
    ap (λ (j : ℕ). kept_from w j (rows_but cells starts 64 n at) (drop at cells)) c in
    record { many = omega (arith, a, k.many, ap length e); last = omega (arith, b, k.last, none-flat e) }
