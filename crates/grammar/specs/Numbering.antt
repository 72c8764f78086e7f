-- What the numbers of names and variables are (02, W-201), by equal bytes and first appearances alone. Meaning works out the same; that the
-- two are one is proved in proofs/Numbered.
use Rattle.std.specs.Prelude.{ℕ, suc, ◌≤◌, ◌≡◌, length}
use mathlib.Core.List.{List, [], ◌∷◌, ◌++◌, map, Memᴰ}
use Rattle.std.proofs.Math.Seq.{slice}
use Rattle.cell.specs.Cell.{variable_cell, name_cell, number_cell}
use Rattle.grammar.specs.Grammar.{Symbol, name, variable, number, Fact}
use Rattle.grammar.specs.Meaning.{Place, place, bytes_at}

-- a word is a list of bytes
abbrev pub Words : Type 0
Words = List (List ℕ)

-- what stands at a place of a list, the first being 0
pub data Nth {A : Type 0} : List A → ℕ → A → Type 0 where
  here : {x : A} {xs : List A} → Nth (x ∷ xs) 0 x
  later : {x y : A} {xs : List A} {k : ℕ} → Nth xs k x → Nth (y ∷ xs) (suc k) x

-- a word is none of these
abbrev pub New : Words → List ℕ → Type 0
New met w = (k : ℕ) → Nth met k w → ⊥

-- where a word first stands among some: at that place, and at none before it
pub record First (words : Words) (k : ℕ) (w : List ℕ) : Type 0 where
  pub there : Nth words k w
  pub least : (j : ℕ) → Nth words j w → k ≤ j

-- the words that stand at these places of a text
abbrev pub words_at : List ℕ → List Place → Words
words_at t = map (bytes_at t)

-- "Names are numbered from 0 in order of first appearance, and a list of where each name first stands in the text": the places of the
-- symbols' names that are new, in their order, when these words are met before
pub data Firsts (t : List ℕ) : Words → List Symbol → List Place → Type 0 where
  none : {met : Words} → Firsts t met [] []
  first : {met : Words} {s e a : ℕ} {ss : List Symbol} {ns : List Place}
      → New met (slice s e t) → Firsts t (met ++ (slice s e t ∷ [])) ss ns → Firsts t met (name s e a ∷ ss) (place s e ∷ ns)
  again : {met : Words} {k s e a : ℕ} {ss : List Symbol} {ns : List Place}
      → Nth met k (slice s e t) → Firsts t met ss ns → Firsts t met (name s e a ∷ ss) ns
  a-variable : {met : Words} {s e : ℕ} {ss : List Symbol} {ns : List Place} → Firsts t met ss ns → Firsts t met (variable s e ∷ ss) ns
  a-number : {met : Words} {v : ℕ} {ss : List Symbol} {ns : List Place} → Firsts t met ss ns → Firsts t met (number v ∷ ss) ns

-- "where each name first stands": the same by places. Among the symbols is a name from start up to end, and none with its bytes begins
-- before it
pub record FirstAt (t : List ℕ) (ss : List Symbol) (start end : ℕ) : Type 0 where
  pub args : ℕ
  pub there : Memᴰ (name start end args) ss
  pub first : (s e a : ℕ) → Memᴰ (name s e a) ss → slice s e t ≡ slice start end t → start ≤ s

-- "`_` as a fresh variable each time": `_` is 95
abbrev pub Unnamed : List ℕ → Type 0
Unnamed w = w ≡ 95 ∷ []

-- The cells of a row by the words of the names, when these variables of the row are met before. A name's number is where its bytes first
-- stand among the words, which may be those of another text (a goal's names are the table's).
-- 01, "Variables are numbered 0, 1, 2 in order of first appearance, in each row"
pub data NumberedRow (t : List ℕ) (words : Words) : Words → List Symbol → List ℕ → Type 0 where
  none : {met : Words} → NumberedRow t words met [] []
  a-name : {met : Words} {k s e a c : ℕ} {ss : List Symbol} {cs : List ℕ} → First words k (slice s e t)
      → c ≡ name_cell a k → NumberedRow t words met ss cs → NumberedRow t words met (name s e a ∷ ss) (c ∷ cs)
  a-number : {met : Words} {v c : ℕ} {ss : List Symbol} {cs : List ℕ}
      → c ≡ number_cell v → NumberedRow t words met ss cs → NumberedRow t words met (number v ∷ ss) (c ∷ cs)
  unnamed : {met : Words} {s e c : ℕ} {ss : List Symbol} {cs : List ℕ} → Unnamed (slice s e t)
      → c ≡ variable_cell (length met) → NumberedRow t words (met ++ (slice s e t ∷ [])) ss cs → NumberedRow t words met (variable s e ∷ ss) (c ∷ cs)
  first : {met : Words} {s e c : ℕ} {ss : List Symbol} {cs : List ℕ} → New met (slice s e t)
      → c ≡ variable_cell (length met) → NumberedRow t words (met ++ (slice s e t ∷ [])) ss cs → NumberedRow t words met (variable s e ∷ ss) (c ∷ cs)
  again : {met : Words} {k s e c : ℕ} {ss : List Symbol} {cs : List ℕ} → (Unnamed (slice s e t) → ⊥) → Nth met k (slice s e t)
      → c ≡ variable_cell k → NumberedRow t words met ss cs → NumberedRow t words met (variable s e ∷ ss) (c ∷ cs)

-- the cells of all rows, the variables of each by themselves
pub data Rows (t : List ℕ) (names : List Place) : List Fact → List ℕ → Type 0 where
  none : Rows t names [] []
  more : {f : Fact} {fs : List Fact} {row others all : List ℕ}
      → NumberedRow t (words_at t names) [] f.symbols row → Rows t names fs others → all ≡ row ++ others → Rows t names (f ∷ fs) all
