-- The bytes between two places, one after another; where a line and a goal end, byte by byte.
use mathlib.Core.Path.{◌≡◌, refl, sym, ap, ◌∙◌}
use mathlib.Core.Bool.{Bool, cond}
use mathlib.Core.List.{List, [], ◌∷◌}
use Prim.Native.Nat.{ℕ, suc, ◌+◌, ◌-◌, ◌≤◌, ◌<◌}
use native.Mathlib.Numerals.{add-one}
use native.Mathlib.Omega.{arith}
use borrow.Author.Tests.{eq-eqb, ne_eqb}
use lib.ListN.{length, get_or, set, take, drop, length-take, length-drop, drop_of_length-le}
use lib.Seq.{slice, sets, drop-cons, get_or-take, get_or-drop, get_or-set_other}
use Rattle.octets.specs.Octets.{fitting, Put}
use Rattle.octets.proofs.PutLaws.{put-nothing, put_next, put_all, put_whole, put-length}
use Rattle.linecut.specs.Cut.{feed_at, line_end, in_remark, closes, bracket_end}

-- the first of them, and the others; or there is none
between-on : (l : List ℕ) (i to : ℕ) → i < length l → i < to → slice i to l ≡ get_or l i 0 ∷ slice (suc i) to l
between-on l i to h g =
    let few = length-take to l in
    drop-cons (take to l) i 0 (omega arith) ∙ ap (λ (x : ℕ). x ∷ slice (suc i) to l) (get_or-take to l i 0 g)

between_none : (l : List ℕ) (i to : ℕ) → length (take to l) ≤ i → slice i to l ≡ []
between_none l i to h = drop_of_length-le (take to l) {i = i} h

-- where a line ends: nothing is between the places; a line feed stands at the first; another byte does
feed-none : (part : List ℕ) (at end : ℕ) → part ≡ [] → end ≡ feed_at part at end
unfolding feed_at
feed-none part at end e = rw e

pub end_none : (l : List ℕ) (i to : ℕ) → length l ≤ i → to ≡ line_end l i to
unfolding line_end
end_none l i to h = let few = length-take to l in feed-none (slice i to l) i to (between_none l i to (omega arith))

pub end-past : (l : List ℕ) (i to : ℕ) → to ≤ i → to ≡ line_end l i to
unfolding line_end
end-past l i to h = let few = length-take to l in feed-none (slice i to l) i to (between_none l i to (omega arith))

feed-first : (b : ℕ) (part : List ℕ) (at end : ℕ) → b ≡ 10 → at ≡ feed_at (b ∷ part) at end
unfolding feed_at
feed-first b part at end e = rw (eq-eqb b 10 e)

feed-later : (b : ℕ) (part : List ℕ) (at end : ℕ) → (b ≡ 10 → ⊥) → feed_at (b ∷ part) at end ≡ feed_at part (suc at) end
unfolding feed_at
feed-later b part at end n = rw (ne_eqb b 10 n)

module _ (l : List ℕ) (i to : ℕ) (h : i < length l) (g : i < to) where
  pub end-here : get_or l i 0 ≡ 10 → i ≡ line_end l i to
  unfolding line_end
  end-here e = rw (between-on l i to h g) (feed-first (get_or l i 0) (slice (suc i) to l) i to e)

  pub end_later : (get_or l i 0 ≡ 10 → ⊥) → line_end l i to ≡ line_end l (i + 1) to
  unfolding line_end
  end_later n = rw (add-one i, between-on l i to h g) (feed-later (get_or l i 0) (slice (suc i) to l) i to n)

-- where a goal ends, from a byte on
bracket-first : (remark : Bool) (at end b : ℕ) (bytes : List ℕ) → bracket_end remark at end (b ∷ bytes)
    ≡ bracket_end (in_remark remark b) (suc at) (cond (closes (in_remark remark b) b) (suc at) end) bytes
unfolding bracket_end
bracket-first remark at end b bytes = refl

pub bracket-on : (remark : Bool) (end : ℕ) (l : List ℕ) (i : ℕ) → i < length l → bracket_end remark i end (drop i l)
    ≡ bracket_end (in_remark remark (get_or l i 0)) (i + 1) (cond (closes (in_remark remark (get_or l i 0)) (get_or l i 0)) (i + 1) end) (drop (i + 1) l)
bracket-on remark end l i h = rw (drop-cons l i 0 h, add-one i) (bracket-first remark i end (get_or l i 0) (drop (suc i) l))

pub bracket-done : (remark : Bool) (end : ℕ) (l : List ℕ) (i : ℕ) → length l ≤ i → end ≡ bracket_end remark i end (drop i l)
unfolding bracket_end
bracket-done remark end l i h = rw (drop_of_length-le l {i = i} h)

-- what stands behind stored bytes is as it was
behind : (vs l : List ℕ) (i j : ℕ) → i + length vs ≤ j → get_or (sets l i vs) j 0 ≡ get_or l j 0
behind [] l i j h = refl
behind (v ∷ vs) l i j h = behind vs (set l i v) (suc i) j (omega arith) ∙ get_or-set_other l i j v 0 (λ e. omega (arith, e))

-- so many bytes from a place on are moved to the front
pub record Moved (old new : List ℕ) (from to i n : ℕ) : Type 0 where
  pub on : i ≡ from + n
  pub few : n ≤ length (slice from to old)
  pub puts : Put old new 0 (take n (slice from to old)) n

pub moved_none : (old : List ℕ) (from to : ℕ) → Moved old old from to from 0
moved_none old from to = record { on = omega arith; few = omega arith; puts = put-nothing }

module _ (old new : List ℕ) (from to i n : ℕ) (m : Moved old new from to i n) where
  pub moved_same : length new ≡ length old
  moved_same = put-length m.puts

  -- how many bytes are to be moved: none behind the list
  moved-size : (length (slice from to old) ≤ to - from) × (length (slice from to old) ≤ length old - from)
      × ((k : ℕ) → from + k < length old → from + k < to → k < length (slice from to old))
  moved-size =
      let a = length-drop from (take to old) in
      let b = length-take to old in
      (omega arith, omega arith, λ k h g. omega arith)

  -- the byte that is read is still the one that stood there
  moved-byte : i < to → get_or new i 0 ≡ get_or (slice from to old) n 0
  moved-byte g =
      let a = behind (fitting old 0 (take n (slice from to old))) old 0 i (omega (arith, m.on, m.puts.after)) in
      ap (λ (l : List ℕ). get_or l i 0) m.puts.wrote
      ∙ a
      ∙ sym (get_or-drop from (take to old) n 0 ∙ ap (λ (k : ℕ). get_or (take to old) k 0) (sym m.on) ∙ get_or-take to old i 0 g)

  pub moved-next : {last : List ℕ} {r : ℕ} → i < length new → i < to → Put new last n (get_or new i 0 ∷ []) r
      → Moved old last from to (i + 1) r
  moved-next {last} {r} h g p =
      let same = moved_same in
      let more = moved-size.2 n (omega (arith, m.on)) (omega (arith, m.on)) in
      let next : r ≡ n + 1 = (put_whole p (omega (arith, m.on))).0 in
      record {
        on = omega (arith, m.on);
        few = omega arith;
        puts = rw next (rw next at (put_next (slice from to old) n more (moved-byte g) m.puts p));
      }

  pub moved_all : length new ≤ i → Put old new 0 (slice from to old) n
  moved_all h =
      let same = moved_same in
      let size = moved-size.1 in
      put_all (slice from to old) n (omega (arith, m.on)) m.puts

  pub moved-past : to ≤ i → Put old new 0 (slice from to old) n
  moved-past h =
      let size = moved-size.0 in
      put_all (slice from to old) n (omega (arith, m.on)) m.puts

-- where a line ends: what `line_end` needs, whatever its test is named after
pub ruleset line_ends = (end_none, end-past, end-here, end_later)
