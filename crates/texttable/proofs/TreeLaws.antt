-- Laws of words and of the tree that finds them.
use Prim.Native.Nat.{ℕ, suc, ◌+◌, ◌-◌, ◌*◌, ◌/◌, ◌%◌, ◌^◌, ◌≤◌, ◌<◌}
use mathlib.Core.Path.{◌≡◌, refl, sym, ap, ap₂, subst, ◌∙◌}
use mathlib.Core.Bool.{true, false}
use mathlib.Core.List.{List}
use native.Mathlib.Omega.{arith}
use native.Mathlib.Numerals.{add-one}
use native.Mathlib.Decide.{ℕ_discrete, dec_lt}
use lib.ListN.{length, get_or, set, replicate, length-set, take, drop, length-drop, length-replicate, get_or-replicate, get_or-eq_default, drop_of_length-le}
use lib.Seq.{slice, take_all, drop-cons, get_or-set_same, get_or-set_other}
use borrow.Author.Tests.{ne_eqb}
use Rattle.texttable.specs.code.Tree.{mix_from, start_of, mix_of, bit_of, MixKept, word_listed, WordFits, slot_of, Route, here, down, Trail, start}
use Rattle.texttable.specs.code.Tree.{step, Tree, Missing, Finds, listed, WordMet, new, ClearedTo, Cleared, Seeks}
use Rattle.cell.specs.Same.{same}
use Rattle.cell.proofs.SameLaws.{same_refl}
use Rattle.texttable.specs.declared.tree.Slot.{Slot}
use Rattle.texttable.specs.declared.tree.Slot.TheVariants.{Listed, Free}

pub bit-small : (w : List ℕ) (d : ℕ) → bit_of w d ≤ 1
unfolding bit_of
bit-small w d = omega arith

-- links that only gain keep every way
module _ {links links' w : List ℕ} (k : (s v : ℕ) → get_or links s 0 ≡ suc v → get_or links' s 0 ≡ suc v) where
  route-kept : {s d i : ℕ} → Route links w s d i → Route links' w s d i
  route-kept (here {s = s} {i = i} e) = here (k s i e)
  route-kept (down {s = s} {j = j} e r) = down (k s j e) (route-kept r)

  trail-kept : {s d : ℕ} → Trail links w s d → Trail links' w s d
  trail-kept start = start
  trail-kept (step {s = s} {j = j} r e) = step (trail-kept r) (k s j e)

-- a way that goes on
trail-route : {links w : List ℕ} {s d i : ℕ} → Trail links w s d → Route links w s d i → Route links w 0 0 i
trail-route start r = r
trail-route (step t e) r = trail-route t (down e r)

module _ (t list links : List ℕ) (count : ℕ) (T : Tree t list links count) where
  -- a trail stays among the slots in use
  pub trail-slot : {w : List ℕ} {s d : ℕ} → Trail links w s d → s ≤ 2 * count
  trail-slot start = omega arith
  trail-slot {w} (step {s = s} {d = d} {j = j} r e) = omega (arith, T.lead s, bit-small w d)

  -- a listed word's way begins at the first slot
  pub begins : (w : List ℕ) (i : ℕ) → i < count → word_listed t (get_or list i 0) ≡ w → Route links w 0 0 i
  begins w i h e = subst (λ (x : List ℕ). Route links x 0 0 i) e (T.found i h)

  -- one step of the search: the word in the slot is another
  pub goes_on : {w : List ℕ} {s d i j : ℕ} → Route links w s d i → get_or links s 0 ≡ suc j → (i ≡ j → ⊥) → Route links w (slot_of j (bit_of w d)) (suc d) i
  goes_on {i = i} {j} (here q) e n = absurd (n (let z : suc i ≡ suc j = cc in omega arith))
  goes_on {w} {d = d} {i = i} {j = j} (down {j = k} q r) e n =
      let z : suc k ≡ suc j = cc in
      let y : k ≡ j = omega arith in
      subst (λ (x : ℕ). Route links w (slot_of x (bit_of w d)) (suc d) i) y r

  -- an empty slot ends it
  pub no_way : {w : List ℕ} {s d i : ℕ} → Route links w s d i → get_or links s 0 ≡ 0 → ⊥
  no_way {i = i} (here q) e = let z : suc i ≡ 0 = cc in omega arith
  no_way (down {j = k} q r) e = let z : suc k ≡ 0 = cc in omega arith

  -- the numbers grow on the way
  pub trail-later : {w : List ℕ} {s d : ℕ} (j : ℕ) → Trail links w s d → get_or links s 0 ≡ suc j → (s + 1) / 2 < suc j
  trail-later j start e = omega arith
  trail-later {w} j (step {s = s} {d = d} {j = i} r q) e = omega (arith, T.later i (bit_of w d) j (bit-small w d) e, bit-small w d)

  -- one step further: the word in the slot is another one
  pub advance : {w : List ℕ} {slot d : ℕ} (k r : ℕ) → Seeks t list links count w slot d → k ≡ get_or links slot 0 → (k ≡ 0 → ⊥)
      → same w (word_listed t (get_or list (k - 1) 0)) ≡ false
      → r ≡ bit_of w d → Seeks t list links count w (1 + 2 * (k - 1) + r) (d + 1)
  advance {w} {slot} {d} k r S e n f q =
      let z : get_or links slot 0 ≡ suc (k - 1) = omega arith in
      subst (λ (x : ℕ). Seeks t list links count w (1 + 2 * (k - 1) + x) (d + 1)) (sym q)
      (subst (λ (x : ℕ). Seeks t list links count w (slot_of (k - 1) (bit_of w d)) x) (sym (add-one d))
      (record {
        trail = step S.trail z;
        ways = λ i h y. goes_on (S.ways i h y) z (λ (v : i ≡ k - 1). differs f (sym (ap (λ (x : ℕ). word_listed t (get_or list x 0)) v) ∙ y));
      }))
    where
      differs : {x : List ℕ} → same w x ≡ false → x ≡ w → ⊥
      differs g y = let a : true ≡ false = sym (same_refl w) ∙ ap (same w) (sym y) ∙ g in let b : ◌≡◌ {A = ℕ} 0 1 = cc in omega arith

  -- one word more
  with-word : {w : List ℕ} {slot : ℕ} (c : ℕ) → Missing t list links count w slot → count < length list → WordFits t c → word_listed t c ≡ w
      → Tree t (set list count c) (set links slot (suc count)) (suc count)
  with-word {w} {slot} c m room f e =
      record {
        room = rw length-set (omega arith);
        slots = rw (length-set list count c, length-set links slot (suc count)) T.slots;
        fits = λ i h. by i (λ (x : ℕ). WordFits t x) h (T.fits i) f;
        lead = lead';
        clean = λ s h. rw (get_or-set_other links slot s (suc count) 0 (λ q. omega (arith, trail-slot m.trail))) (T.clean s (omega arith));
        later = later';
        found = found';
        apart = apart';
      }
    where
      links' : List ℕ
      links' = set links slot (suc count)

      inside : slot < length links
      inside = omega (arith, trail-slot m.trail, T.slots)

      gains : (s v : ℕ) → get_or links s 0 ≡ suc v → get_or (set links slot (suc count)) s 0 ≡ suc v
      gains s v q =
          get_or-set_other links slot s (suc count) 0 (λ (z : s ≡ slot). (let y : suc v ≡ 0 = sym q ∙ ap (λ (x : ℕ). get_or links x 0) z ∙ m.free in
          omega arith)) ∙ q

      by : (i : ℕ) (P : ℕ → Type 0) → i < suc count → (i < count → P (get_or list i 0)) → P c → P (get_or (set list count c) i 0)
      by i P h a b = go (ℕ_discrete i count)
        where
          go : Dec (i ≡ count) → P (get_or (set list count c) i 0)
          go (yes q) = subst P (sym (ap (λ (x : ℕ). get_or (set list count c) x 0) q ∙ get_or-set_same list count c 0 room)) b
          go (no q) = subst P (sym (get_or-set_other list count i c 0 q)) (a (omega arith))

      lead' : (s : ℕ) → get_or (set links slot (suc count)) s 0 ≤ suc count
      lead' s = go (ℕ_discrete s slot)
        where
          go : Dec (s ≡ slot) → get_or (set links slot (suc count)) s 0 ≤ suc count
          go (yes q) = rw (q, get_or-set_same links slot (suc count) 0 inside) (omega arith)
          go (no q) = rw (get_or-set_other links slot s (suc count) 0 q) (omega (arith, T.lead s))

      later' : (j b v : ℕ) → b ≤ 1 → get_or (set links slot (suc count)) (slot_of j b) 0 ≡ suc v → j < v
      later' j b v h q = go (ℕ_discrete (slot_of j b) slot)
        where
          go : Dec (slot_of j b ≡ slot) → j < v
          go (yes z) =
              let y : suc count ≡ suc v = sym (get_or-set_same links slot (suc count) 0 inside)
              ∙ ap (λ (x : ℕ). get_or (set links slot (suc count)) x 0) (sym z) ∙ q in
              omega (arith, trail-slot m.trail)
          go (no z) = T.later j b v h (sym (get_or-set_other links slot (slot_of j b) (suc count) 0 z) ∙ q)

      found' : (i : ℕ) → i < suc count → Route (set links slot (suc count)) (word_listed t (get_or (set list count c) i 0)) 0 0 i
      found' i h = go (ℕ_discrete i count)
        where
          go : Dec (i ≡ count) → Route (set links slot (suc count)) (word_listed t (get_or (set list count c) i 0)) 0 0 i
          go (yes q) =
              let a : word_listed t (get_or (set list count c) i 0) ≡ w =
              ap (λ (x : ℕ). word_listed t (get_or (set list count c) x 0)) q ∙ ap (word_listed t) (get_or-set_same list count c 0 room) ∙ e in
              subst (λ (x : List ℕ). Route (set links slot (suc count)) x 0 0 i) (sym a)
              (trail-route (trail-kept gains m.trail) (here (get_or-set_same links slot (suc count) 0 inside ∙ ap suc (sym q))))
          go (no q) =
              subst (λ (x : ℕ). Route (set links slot (suc count)) (word_listed t x) 0 0 i) (sym (get_or-set_other list count i c 0 q))
              (route-kept gains (T.found i (omega arith)))

      apart' : (i j : ℕ) → i < suc count → j < suc count → word_listed t (get_or (set list count c) i 0) ≡ word_listed t (get_or (set list count c) j 0) → i ≡ j
      apart' i j h k q = go (ℕ_discrete i count) (ℕ_discrete j count)
        where
          at-end : (x : ℕ) → x ≡ count → word_listed t (get_or (set list count c) x 0) ≡ w
          at-end x z = ap (λ (y : ℕ). word_listed t (get_or (set list count c) y 0)) z ∙ ap (word_listed t) (get_or-set_same list count c 0 room) ∙ e

          before : (x : ℕ) → (x ≡ count → ⊥) → word_listed t (get_or (set list count c) x 0) ≡ word_listed t (get_or list x 0)
          before x z = ap (word_listed t) (get_or-set_other list count x c 0 z)

          go : Dec (i ≡ count) → Dec (j ≡ count) → i ≡ j
          go (yes x) (yes y) = x ∙ sym y
          go (yes x) (no y) = absurd (m.none j (omega arith) (sym (before j y) ∙ sym q ∙ at-end i x))
          go (no x) (yes y) = absurd (m.none i (omega arith) (sym (before i x) ∙ q ∙ at-end j y))
          go (no x) (no y) = T.apart i j (omega arith) (omega arith) (sym (before i x) ∙ q ∙ before j y)

-- no words: the links are all 0
pub no_words : (t list links : List ℕ) → 2 * length list < length links → ((s : ℕ) → get_or links s 0 ≡ 0) → Tree t list links 0
no_words t list links h z =
    record {
      room = omega arith;
      slots = h;
      fits = λ i l. absurd (omega arith);
      lead = λ s. omega (arith, z s);
      clean = λ s l. z s;
      later = λ j b v l e. absurd (omega (arith, z (slot_of j b)));
      found = λ i l. absurd (omega arith);
      apart = λ i j l k e. absurd (omega arith);
    }

-- in arrays of zeros
pub zero-at : (n s : ℕ) → ◌≡◌ {A = ℕ} (get_or (replicate n 0) s 0) 0
zero-at n s = go (dec_lt s n)
  where
    go : Dec (s < n) → ◌≡◌ {A = ℕ} (get_or (replicate n 0) s 0) 0
    go (yes h) = get_or-replicate n s 0 0 h
    go (no h) = get_or-eq_default (replicate n 0) 0 (omega (arith, length-replicate {A = ℕ} n 0))

pub empty-tree : (t : List ℕ) (n m : ℕ) → 2 * n < m → Tree t (replicate n 0) (replicate m 0) 0
empty-tree t n m h = no_words t (replicate n 0) (replicate m 0) (omega (arith, length-replicate {A = ℕ} n 0, length-replicate {A = ℕ} m 0)) (zero-at m)

-- THE MIX: where it begins, a byte more, and the bit that it gives
pub start-last : (turn bytes : ℕ) → turn ≡ 0 → start_of turn bytes ≡ bytes - 2
start-last turn bytes e = ap (λ (n : ℕ). start_of n bytes) e

pub start-all : (turn bytes : ℕ) → (turn ≡ 0 → ⊥) → start_of turn bytes ≡ 0
start-all turn bytes n = rw (ne_eqb turn 0 n)

pub mix-more : (w : List ℕ) (i mix : ℕ) → i < length w
    → mix_from ((31 * mix + mix / 256 + get_or w i 0) % 65536) (drop (i + 1) w) ≡ mix_from mix (drop i w)
unfolding mix_from
mix-more w i mix h =
    ap (λ (n : ℕ). mix_from ((31 * mix + mix / 256 + get_or w i 0) % 65536) (drop n w)) (add-one i) ∙ ap (mix_from mix) (sym (drop-cons w i 0 h))

pub mix-end : (w : List ℕ) (i mix : ℕ) → length w ≤ i → mix_from mix (drop i w) ≡ mix
unfolding mix_from
mix-end w i mix h = ap (mix_from mix) (drop_of_length-le w {i = i} h)

-- from the place on at which a word's mix begins
pub mix-part : (w : List ℕ) (turn from : ℕ) → from ≡ start_of turn (length w)
    → mix_from (turn % 65536) (drop 0 (take (length w - from) (drop from w))) ≡ mix_of w turn
mix-part w turn from e =
    ap (mix_from (turn % 65536)) (take_all (length w - from) (drop from w) (omega (arith, length-drop from w)))
    ∙ ap (λ (i : ℕ). mix_from (turn % 65536) (drop i w)) e

pub bit_is : (w : List ℕ) (d mix r : ℕ) → mix ≡ mix_of w (d / 16) → r ≡ mix / 2 ^ (d % 16) % 2 → r ≡ bit_of w d
unfolding bit_of
bit_is w d mix r e q = q ∙ ap (λ (m : ℕ). m / 2 ^ (d % 16) % 2) e

pub mix-kept : (w : List ℕ) (d mix : ℕ) → mix ≡ mix_of w (d / 16) → MixKept w mix (d + 1)
mix-kept w d mix e = λ h. e ∙ ap (mix_of w) (omega arith)

-- what the search answered, by its case
pub found-listed : (t list links w : List ℕ) (count : ℕ) {j : ℕ} {r : Slot} → Finds t list links count w r → r ≡ Listed j
    → (j < count) × (word_listed t (get_or list j 0) ≡ w)
found-listed t list links w count f e = subst (Finds t list links count w) e f

pub found-free : (t list links w : List ℕ) (count : ℕ) {s : ℕ} {r : Slot} → Finds t list links count w r → r ≡ Free s → Missing t list links count w s
found-free t list links w count f e = subst (Finds t list links count w) e f

-- the number that says a word
pub word-says : (t : List ℕ) (from to : ℕ) → from ≤ to → from < 65536 → word_listed t (listed from to) ≡ slice from to t
word-says t from to l h =
    let a : listed from to % 65536 ≡ from = omega arith in
    let b : listed from to % 65536 + listed from to / 65536 ≡ to = omega arith in
    ap₂ (λ (x y : ℕ). slice x y t) a b

word_fits : (t : List ℕ) (from to : ℕ) → from ≤ to → from < 65536 → to ≤ length t → WordFits t (listed from to)
word_fits t from to l h k = omega arith

pub meet-new : (t list links : List ℕ) (count from to slot : ℕ) → Tree t list links count → Missing t list links count (slice from to t) slot
    → from ≤ to → from < 65536 → to ≤ length t → count < length list
    → WordMet t list links count from to (set list count (listed from to)) (set links slot (count + 1)) count
meet-new t list links count from to slot T m l h k room =
    new m.none refl
    (subst (λ (n : ℕ). Tree t (set list count (listed from to)) (set links slot n) (suc count)) (sym (add-one count))
    (with-word t list links count T (listed from to) m room (word_fits t from to l h k) (word-says t from to l h)))

-- CLEARING: none yet, one slot more, and then the tree has no words
pub none-cleared : (links : List ℕ) → ClearedTo links links 0
none-cleared links = record { size = refl; free = λ s h. absurd (omega arith); kept = λ s h. refl }

pub one-cleared : (links links' : List ℕ) (place : ℕ) → place < length links → ClearedTo links links' place → ClearedTo links (set links' place 0) (place + 1)
one-cleared links links' place h c =
    record {
      size = length-set links' place 0 ∙ c.size;
      free = λ s l. by s l (ℕ_discrete s place);
      kept = λ s l. get_or-set_other links' place s 0 0 (λ e. omega arith) ∙ c.kept s (omega arith);
    }
  where
    by : (s : ℕ) → s < place + 1 → Dec (s ≡ place) → get_or (set links' place 0) s 0 ≡ 0
    by s l (yes e) = ap (λ (i : ℕ). get_or (set links' place 0) i 0) e ∙ get_or-set_same links' place 0 0 (omega (arith, c.size))
    by s l (no e) = get_or-set_other links' place s 0 0 e ∙ c.free s (omega arith)

pub tree-cleared : (t list links links' : List ℕ) (count : ℕ) → Tree t list links count → Cleared links links' count → Tree t list links' 0
tree-cleared t list links links' count T c = no_words t list links' (omega (arith, T.slots, c.size)) (λ s. by s (dec_lt (2 * count) s))
  where
    by : (s : ℕ) → Dec (2 * count < s) → get_or links' s 0 ≡ 0
    by s (yes h) = c.kept s (omega arith) ∙ T.clean s h
    by s (no h) = c.free s (omega arith)
