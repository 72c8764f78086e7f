-- Words told apart by their bytes, and the tree in which they are found again (src/tree.rt). These definitions describe the code's own
-- state; no promise of a public function cites them.
use Rattle.std.specs.Prelude.{ℕ, suc, ◌+◌, ◌-◌, ◌*◌, ◌/◌, ◌%◌, ◌^◌, ◌≤◌, ◌<◌, ◌≡◌, cond, List, [], ◌∷◌, eqb, length, get_or, set, drop}
use Rattle.std.proofs.Math.Seq.{slice}
use Rattle.texttable.specs.declared.tree.Slot.{Slot}
use Rattle.texttable.specs.declared.tree.Slot.TheVariants.{Listed, Free}

-- the bytes of a word mixed into 16 bits, from its last two on at turn 0, from its first on at every other
unfoldable pub mix_from : ℕ → List ℕ → ℕ
mix_from mix [] = mix
mix_from mix (b ∷ bs) = mix_from ((31 * mix + mix / 256 + b) % 65536) bs

abbrev pub start_of : ℕ → ℕ → ℕ
start_of turn bytes = cond (eqb turn 0) (bytes - 2) 0

abbrev pub mix_of : List ℕ → ℕ → ℕ
mix_of w turn = mix_from (turn % 65536) (drop (start_of turn (length w)) w)

-- the bits of a word, sixteen of each mix
unfoldable pub bit_of : List ℕ → ℕ → ℕ
bit_of w d = mix_of w (d / 16) / 2 ^ (d % 16) % 2

-- a mix that is not used up is the word's
abbrev pub MixKept : List ℕ → ℕ → ℕ → Type 0
MixKept w mix d = 0 < d % 16 → mix ≡ mix_of w (d / 16)

-- the word that a number of the list says: its start in bits 15..0, its bytes in bits 31..16
abbrev pub word_listed : List ℕ → ℕ → List ℕ
word_listed t c = slice (c % 65536) (c % 65536 + c / 65536) t

-- such a number says a part of the text
abbrev pub WordFits : List ℕ → ℕ → Type 0
WordFits t c = c % 65536 + c / 65536 ≤ length t

-- the slot for the next bit of a word at word j
abbrev pub slot_of : ℕ → ℕ → ℕ
slot_of j b = 1 + 2 * j + b

-- The way of a word w through the links, from slot s on at depth d, comes to word i
pub data Route (links w : List ℕ) : ℕ → ℕ → ℕ → Type 0 where
  here : {s d i : ℕ} → get_or links s 0 ≡ suc i → Route links w s d i
  down : {s d j i : ℕ} → get_or links s 0 ≡ suc j → Route links w (slot_of j (bit_of w d)) (suc d) i → Route links w s d i

-- and its way from the first slot to slot s
pub data Trail (links w : List ℕ) : ℕ → ℕ → Type 0 where
  start : Trail links w 0 0
  step : {s d j : ℕ} → Trail links w s d → get_or links s 0 ≡ suc j → Trail links w (slot_of j (bit_of w d)) (suc d)

-- so many words of the list, each a part of the text and no two the same, and the tree that leads to each; no slot of a later word is used
pub record Tree (t list links : List ℕ) (count : ℕ) : Type 0 where
  pub room : count ≤ length list
  pub slots : 2 * length list < length links
  pub fits : (i : ℕ) → i < count → WordFits t (get_or list i 0)
  pub lead : (s : ℕ) → get_or links s 0 ≤ count
  pub clean : (s : ℕ) → 2 * count < s → get_or links s 0 ≡ 0
  pub later : (j b v : ℕ) → b ≤ 1 → get_or links (slot_of j b) 0 ≡ suc v → j < v
  pub found : (i : ℕ) → i < count → Route links (word_listed t (get_or list i 0)) 0 0 i
  pub apart : (i j : ℕ) → i < count → j < count → word_listed t (get_or list i 0) ≡ word_listed t (get_or list j 0) → i ≡ j

-- a word that is not listed, and the slot at which it would be found
pub record Missing (t list links : List ℕ) (count : ℕ) (w : List ℕ) (slot : ℕ) : Type 0 where
  pub none : (i : ℕ) → i < count → word_listed t (get_or list i 0) ≡ w → ⊥
  pub depth : ℕ
  pub trail : Trail links w slot depth
  pub free : get_or links slot 0 ≡ 0

-- what the search answers
abbrev pub Finds : List ℕ → List ℕ → List ℕ → ℕ → List ℕ → Slot → Type 0
Finds t list links count w (Listed j) = (j < count) × (word_listed t (get_or list j 0) ≡ w)
Finds t list links count w (Free s) = Missing t list links count w s

-- the number of the list that says a word from a place up to another
abbrev pub listed : ℕ → ℕ → ℕ
listed from to = (to - from) * 65536 + from

-- a word is met, from a place up to another: its number, and the list and the tree with it
pub data WordMet (t list links : List ℕ) (count from to : ℕ) (list' links' : List ℕ) : ℕ → Type 0 where
  old : {r : ℕ} → r < count → word_listed t (get_or list r 0) ≡ slice from to t → list' ≡ list → links' ≡ links
      → WordMet t list links count from to list' links' r
  new : ((i : ℕ) → i < count → word_listed t (get_or list i 0) ≡ slice from to t → ⊥) → list' ≡ set list count (listed from to)
      → Tree t list' links' (suc count)
      → WordMet t list links count from to list' links' count

-- the slots before a place are free again, and the others as they were
pub record ClearedTo (links links' : List ℕ) (place : ℕ) : Type 0 where
  pub size : length links' ≡ length links
  pub free : (s : ℕ) → s < place → get_or links' s 0 ≡ 0
  pub kept : (s : ℕ) → place ≤ s → get_or links' s 0 ≡ get_or links s 0

-- so are those of so many words
abbrev pub Cleared : List ℕ → List ℕ → ℕ → Type 0
Cleared links links' count = ClearedTo links links' (2 * count + 1)

-- the search under way: where it is, and that every listed word with these bytes lies ahead
pub record Seeks (t list links : List ℕ) (count : ℕ) (w : List ℕ) (slot d : ℕ) : Type 0 where
  pub trail : Trail links w slot d
  pub ways : (i : ℕ) → i < count → word_listed t (get_or list i 0) ≡ w → Route links w slot d i
