-- The names of a text as the code has them (src/names.rt): those that are listed, what is left of the text, which of them are met again.
-- These definitions describe the code's own state.
use Rattle.std.specs.Prelude.{ℕ, zero, suc, ◌+◌, ◌≤◌, ◌<◌, ◌≡◌, Bool, true, false, not, cond, ◌||◌, List, [], ◌∷◌, eqb, length, get_or, Option, Some, None}
use Rattle.grammar.specs.Grammar.{Fact}
use Rattle.grammar.specs.Reader.{reads, text_of}
use Rattle.cell.specs.Same.{same}
use Rattle.grammar.specs.Meaning.{Place, place, bytes_at, meet, names_of}
use Rattle.loading.specs.Items.{Item, items_of, names_met, met_in}
use Rattle.symbols.specs.code.Left.{Left}
use Rattle.symbols.specs.declared.Spot.{Spot}
use Rattle.texttable.specs.code.Tree.{word_listed, Tree}
use Rattle.texttable.specs.declared.names.Name.{Name}
use Rattle.texttable.specs.declared.names.Filled.{Filled}
use Rattle.texttable.specs.declared.names.Batch.{Batch}

abbrev pub at : List Place → ℕ → Place
at ws i = get_or ws i (place 0 0)

-- there are no more names among the items
pub record NoName (t : List ℕ) (rest : List Item) : Type 0 where
  pub names : (ns : List Place) → names_met t ns rest ≡ ns
  pub met : (v : List ℕ) → met_in t v rest ≡ false

-- what was left at a place once, and what is left now: with the same names, or with one less
pub record Passed (t : List ℕ) (sp : Spot) (rest₀ : List Item) : Type 0 where
  pub rest : List Item
  pub left : Left t sp rest
  pub names : (ns : List Place) → names_met t ns rest₀ ≡ names_met t ns rest
  pub met : (v : List ℕ) → met_in t v rest₀ ≡ met_in t v rest

pub record NameMet (t : List ℕ) (w : Place) (sp : Spot) (rest₀ : List Item) : Type 0 where
  pub rest : List Item
  pub left : Left t sp rest
  pub names : (ns : List Place) → names_met t ns rest₀ ≡ names_met t (meet t ns w) rest
  pub met : (v : List ℕ) → met_in t v rest₀ ≡ (same (bytes_at t w) v || met_in t v rest)

abbrev pub name_at : ℕ → ℕ → Spot → Name
name_at s e to = record { start = s; end = e; next = to }

abbrev pub NextNameIs : List ℕ → Spot → Option Name → Type 0
NextNameIs t from (Some n) =
    (from.at ≤ n.start) × (n.start < n.end) × (n.end ≤ n.next.at) × (n.next.at ≤ length t)
    × ((rest : List Item) → Left t from rest → NameMet t (place n.start n.end) n.next rest)
NextNameIs t from None = (rest : List Item) → Left t from rest → NoName t rest

-- the list and its tree show these words
pub record Shown (t list links : List ℕ) (ns : List Place) : Type 0 where
  pub tree : Tree t list links (length ns)
  pub says : (i : ℕ) → i < length ns → word_listed t (get_or list i 0) ≡ bytes_at t (at ns i)

-- so much is left of what was left at a place once, with these names met since then
pub record Still (t : List ℕ) (ns : List Place) (sp : Spot) (rest₀ : List Item) : Type 0 where
  pub rest : List Item
  pub left : Left t sp rest
  pub same : names_met t ns rest ≡ names_met t [] rest₀

-- the names from a place up to another, each listed once
pub record Filling (t : List ℕ) (from : Spot) (list links : List ℕ) (count : ℕ) (to : Spot) : Type 0 where
  pub names : List Place
  pub number : length names ≡ count
  pub shown : Shown t list links names
  pub on : from.at + count ≤ to.at
  pub within : from.at ≤ length t → to.at ≤ length t
  pub still : (rest : List Item) → Left t from rest → Still t names to rest

-- up to a place at which the list is full, or after which there are none
pub record FilledTo (t : List ℕ) (from : Spot) (list links : List ℕ) (r : Filled) : Type 0 where
  pub filling : Filling t from list links r.count r.to
  pub few : r.count ≤ length list
  pub full : r.more ≡ true → r.count ≡ length list
  pub ended : r.more ≡ false → (rest : List Item) → Left t r.to rest → NoName t rest

-- a word is met already, as its mark says, or is yet to be met
abbrev pub lost : List ℕ → List ℕ → ℕ → List Item → Bool
lost t w mark rest = not (eqb mark 0) || met_in t w rest

pub record Struck (t : List ℕ) (ns : List Place) (marks : List ℕ) (rest rest₀ : List Item) : Type 0 where
  pub word : (i : ℕ) → i < length ns → lost t (bytes_at t (at ns i)) (get_or marks i 0) rest ≡ met_in t (bytes_at t (at ns i)) rest₀

-- under way
pub record Striking (t : List ℕ) (ns : List Place) (sp : Spot) (marks : List ℕ) (rest₀ : List Item) : Type 0 where
  pub rest : List Item
  pub left : Left t sp rest
  pub struck : Struck t ns marks rest rest₀

-- the words of the list that are met from a place on are marked, where none was before
abbrev pub Strikes : List ℕ → Spot → List ℕ → List ℕ → ℕ → List ℕ → List ℕ → Type 0
Strikes t sp list links count marks marks' =
    (ns : List Place) (rest rest₀ : List Item) → length ns ≡ count → Shown t list links ns → Left t sp rest
    → Struck t ns marks rest rest₀ → Struck t ns marks' [] rest₀

-- how many of the first marks are 0
unfoldable pub blank_of : ℕ → ℕ
blank_of mark = cond (eqb mark 0) 1 0

unfoldable pub zeros : ℕ → List ℕ → ℕ
zeros zero ms = 0
zeros (suc n) [] = 0
zeros (suc n) (m ∷ ms) = blank_of m + zeros n ms

-- a batch: the names from a place on that are not met after it, and what is left
pub record BatchOf (t : List ℕ) (r : Batch) (rest₀ : List Item) : Type 0 where
  pub rest : List Item
  pub left : Left t r.to rest
  pub count : r.names + length (names_met t [] rest) ≡ length (names_met t [] rest₀)
  pub ended : r.more ≡ false → length (names_met t [] rest) ≡ 0

pub record Batched (t : List ℕ) (from : Spot) (r : Batch) : Type 0 where
  pub on : from.at + r.names ≤ r.to.at
  pub further : r.more ≡ true → from.at < r.to.at
  pub within : from.at ≤ length t → r.to.at ≤ length t
  pub batch : (rest : List Item) → Left t from rest → BatchOf t r rest

-- so many are counted up to a place
pub record Counting (t : List ℕ) (sp : Spot) (total : ℕ) (facts : List Fact) : Type 0 where
  pub rest : List Item
  pub left : Left t sp rest
  pub count : total + length (names_met t [] rest) ≡ length (names_met t [] (items_of facts))

-- how many names an accepted text has
abbrev pub CountsNames : List ℕ → ℕ → Type 0
CountsNames t r = (facts : List Fact) → text_of t ≡ reads facts → r ≡ length (names_of t facts)
