-- The goal's names, looked up: their numbers and the cells with them are what specs/Goal says.
use Prim.Native.Nat.{ℕ, zero, suc, ◌+◌, ◌%◌, ◌≤◌, ◌<◌}
use mathlib.Core.Path.{◌≡◌, refl, sym, ap, subst, ◌∙◌}
use mathlib.Core.Bool.{Bool, true, false, cond}
use mathlib.Core.List.{List, [], ◌∷◌, ◌++◌, map}
use mathlib.Core.Logic.{◌⊎◌, inl, inr}
use native.Mathlib.Omega.{arith}
use native.Mathlib.Decide.{dec_lt}
use lib.Dec.{eqb, ltb}
use lib.ListN.{length, get_or, length-append}
use lib.Seq.{slice}
use borrow.Author.Tests.{lt-ltb, le-ltb, eqb-true}
use Rattle.cell.specs.Cell.{variable_cell, name_cell, number_cell, Values, values, values_at}
use Rattle.cell.proofs.CellLaws.{built-variable, built-name, built-number, values-small}
use Rattle.table.specs.Table.{counted, cell_tests, terms_from, goal_of}
use Rattle.grammar.specs.Grammar.{Symbol, name, Fact}
use Rattle.cell.specs.Same.{same}
use Rattle.grammar.specs.Meaning.{Place, place, bytes_at, entry_of}
use Rattle.grammar.specs.Numbering as numbering
use Rattle.grammar.specs.Numbering.{Words, Nth, here, later, New, First, words_at, Firsts, NumberedRow}
use Rattle.cell.proofs.SameLaws.{same_refl, same-eq}
use Rattle.grammar.proofs.NthLaws.{nth-below, nth_left, nth_seam, nth-added, first-left, words_long}
use Rattle.grammar.proofs.FirstLaws.{firsts-first}
use Rattle.termtext.specs.Saying.{word_in}
use Rattle.termtext.specs.Goal.{GoalNumbered}
use Rattle.termtext.specs.code.Renumber.{word_number, numbers_from, new_ones, new_cell, new_cells}
use Rattle.termtext.proofs.LieLaws.{AllLie}
use Rattle.termtext.proofs.ListLaws.{AllIn, firsts-in, entry-word}

-- A WORD AMONG OTHERS
pub number-nth : (w : List ℕ) (words : Words) → word_number w words < length words → Nth words (word_number w words) w
unfolding word_number
number-nth w [] h = absurd (omega arith)
number-nth w (v ∷ words) h = go (same w v) refl (number-nth w words) h
  where
    go : (b : Bool) → same w v ≡ b → (word_number w words < length words → Nth words (word_number w words) w)
        → cond b 0 (suc (word_number w words)) < suc (length words) → Nth (v ∷ words) (cond b 0 (suc (word_number w words))) w
    go true e f l = subst (Nth (v ∷ words) 0) (sym (same-eq w v e)) here
    go false e f l = later (f (omega arith))

number-first : (w : List ℕ) (words : Words) {k : ℕ} → Nth words k w → word_number w words ≤ k
unfolding word_number
number-first w (v ∷ words) here = rw (same_refl w) (omega arith)
number-first w (v ∷ words) (later {k = k} h) = go (same w v) (number-first w words h)
  where
    go : (b : Bool) → word_number w words ≤ k → cond b 0 (suc (word_number w words)) ≤ suc k
    go true l = omega arith
    go false l = omega arith
number-first w [] {k = k} x' = elim x' [ ]

number-new : (w : List ℕ) (words : Words) → (word_number w words < length words → ⊥) → New words w
number-new w words n k h = n (let l = number-first w words h in let b = nth-below h in omega arith)

number-there : (w : List ℕ) (words : Words) → word_number w words < length words → First words (word_number w words) w
number-there w words l = record { there = number-nth w words l; least = λ j h. number-first w words h }

-- THOSE THAT ARE NEW
module _ {A : Type 0} (word : A → List ℕ) (words : Words) where
  pub new-listed : (x : A) (xs : List A) → word_number (word x) words < length words → new_ones word words (x ∷ xs) ≡ new_ones word words xs
  unfolding new_ones
  new-listed x xs h = rw (lt-ltb (word_number (word x) words) (length words) h)

  pub new-first : (x : A) (xs : List A) → length words ≤ word_number (word x) words → new_ones word words (x ∷ xs) ≡ x ∷ new_ones word words xs
  unfolding new_ones
  new-first x xs h = rw (le-ltb (word_number (word x) words) (length words) h)

  -- they are fewer
  pub new-few : (xs : List A) → length (new_ones word words xs) ≤ length xs
  unfolding new_ones
  new-few [] = omega arith
  new-few (x ∷ xs) = by (ltb (word_number (word x) words) (length words)) (new-few xs)
    where
      by : (b : Bool) → length (new_ones word words xs) ≤ length xs
          → length (cond b (new_ones word words xs) (x ∷ new_ones word words xs)) ≤ suc (length xs)
      by true l = omega arith
      by false l = omega arith

-- THE NEW NAMES, by first appearance: those of the goal's list that are not among the words
abbrev In : Words → List ℕ → Type 0
In ws w = (k : ℕ) × Nth ws k w

record Both (words met both : Words) : Type 0 where
  left : (w : List ℕ) → In words w → In both w
  right : (w : List ℕ) → In met w → In both w
  only : (w : List ℕ) → In both w → In words w ⊎ In met w

in_left : {ws : Words} (vs : Words) {w : List ℕ} → In ws w → In (ws ++ vs) w
in_left vs h = (h.0, nth_left vs h.1)

in-last : (ws : Words) (w : List ℕ) → In (ws ++ (w ∷ [])) w
in-last ws w = (length ws, nth_seam ws w [])

in-added : (ws : Words) (v : List ℕ) {w : List ℕ} → In (ws ++ (v ∷ [])) w → In ws w ⊎ (w ≡ v)
in-added ws v {w} h = by (nth-added ws h.1)
  where
    by : Nth ws h.0 w ⊎ ((h.0 ≡ length ws) × (w ≡ v)) → In ws w ⊎ (w ≡ v)
    by (inl g) = inl (h.0, g)
    by (inr e) = inr e.1

both-old : {words met both : Words} (v : List ℕ) → In words v → Both words met both → Both words (met ++ (v ∷ [])) both
both-old {words} {met} {both} v h B =
    record { left = B.left; right = λ w i. right w (in-added met v i); only = λ w i. only w (B.only w i) }
  where
    right : (w : List ℕ) → In met w ⊎ (w ≡ v) → In both w
    right w (inl i) = B.right w i
    right w (inr e) = subst (In both) (sym e) (B.left v h)

    only : (w : List ℕ) → In words w ⊎ In met w → In words w ⊎ In (met ++ (v ∷ [])) w
    only w (inl i) = inl i
    only w (inr i) = inr (in_left (v ∷ []) i)

both-new : {words met both : Words} (v : List ℕ) → Both words met both → Both words (met ++ (v ∷ [])) (both ++ (v ∷ []))
both-new {words} {met} {both} v B =
    record {
      left = λ w i. in_left (v ∷ []) (B.left w i);
      right = λ w i. right w (in-added met v i);
      only = λ w i. only w (in-added both v i);
    }
  where
    right : (w : List ℕ) → In met w ⊎ (w ≡ v) → In (both ++ (v ∷ [])) w
    right w (inl i) = in_left (v ∷ []) (B.right w i)
    right w (inr e) = subst (In (both ++ (v ∷ []))) (sym e) (in-last both v)

    old : (w : List ℕ) → In words w ⊎ In met w → In words w ⊎ In (met ++ (v ∷ [])) w
    old w (inl i) = inl i
    old w (inr i) = inr (in_left (v ∷ []) i)

    only : (w : List ℕ) → In both w ⊎ (w ≡ v) → In words w ⊎ In (met ++ (v ∷ [])) w
    only w (inl i) = old w (B.only w i)
    only w (inr e) = inr (subst (In (met ++ (v ∷ []))) (sym e) (in-last met v))

module _ (t : List ℕ) (words : Words) where
  abbrev new_places : List Place → List Place
  new_places ns = new_ones (bytes_at t) words ns

  new-firsts : {met : Words} {ss : List Symbol} {ns : List Place} (both : Words) → Both words met both → Firsts t met ss ns
      → Firsts t both ss (new_places ns)
  unfolding new_ones
  new-firsts both B numbering.none = numbering.none
  new-firsts both B (numbering.a-variable f) = numbering.a-variable (new-firsts both B f)
  new-firsts both B (numbering.a-number f) = numbering.a-number (new-firsts both B f)
  new-firsts both B (numbering.again {s = s} {e = e} h f) =
      let i = B.right (slice s e t) (_, h) in
      numbering.again i.1 (new-firsts both B f)
  new-firsts {met} both B (numbering.first {s = s} {e = e} {a = a} {ss = ss} {ns = ns} n f) =
      go (dec_lt (word_number w words) (length words)) (λ k K. new-firsts k K f)
    where
      w : List ℕ
      w = slice s e t

      apart : (word_number w words < length words → ⊥) → New both w
      apart l k h = by (B.only w (k, h))
        where
          by : In words w ⊎ In met w → ⊥
          by (inl i) = number-new w words l i.0 i.1
          by (inr i) = n i.0 i.1

      go : Dec (word_number w words < length words)
          → ((k : Words) → Both words (met ++ (w ∷ [])) k → Firsts t k ss (new_places ns))
          → Firsts t both (name s e a ∷ ss) (new_places (place s e ∷ ns))
      go (yes l) f =
          let h : In words w = (word_number w words, number-nth w words l) in
          rw (new-listed (bytes_at t) words (place s e) ns l) (numbering.again (B.left w h).1 (f both (both-old w h B)))
      go (no l) f =
          rw (new-first (bytes_at t) words (place s e) ns (omega arith)) (numbering.first (apart l) (f (both ++ (w ∷ [])) (both-new w B)))

  -- THE NUMBERS. A word of the goal's list has its number among the words, or among the new ones
  abbrev Stands : (j : ℕ) (ns : List Place) (numbers : List ℕ) (k : ℕ) (w : List ℕ) → Type 0
  Stands j ns numbers k w =
      First words (get_or numbers k 0) w ⊎ ((i : ℕ) × (get_or numbers k 0 ≡ length words + (j + i)) × Nth (words_at t (new_places ns)) i w)

  number-stands : (j : ℕ) (ns : List Place) {k : ℕ} {w : List ℕ} → Nth (words_at t ns) k w
      → Stands j ns (numbers_from words j (words_at t ns)) k w
  unfolding numbers_from new_ones
  number-stands j (n ∷ ns) here = go (dec_lt (word_number (bytes_at t n) words) (length words))
    where
      go : Dec (word_number (bytes_at t n) words < length words)
          → Stands j (n ∷ ns) (numbers_from words j (words_at t (n ∷ ns))) 0 (bytes_at t n)
      go (yes l) = rw (lt-ltb (word_number (bytes_at t n) words) (length words) l) (inl (number-there (bytes_at t n) words l))
      go (no l) = rw (le-ltb (word_number (bytes_at t n) words) (length words) (omega arith)) (inr (0, omega arith, here))
  number-stands j (n ∷ ns) {w = w} (later {k = k} h) =
      go (dec_lt (word_number (bytes_at t n) words) (length words)) (number-stands j ns h) (number-stands (suc j) ns h)
    where
      on : (numbers : List ℕ) → Stands (suc j) ns numbers k w
          → First words (get_or numbers k 0) w
          ⊎ ((i : ℕ) × (get_or numbers k 0 ≡ length words + (j + i)) × Nth (bytes_at t n ∷ words_at t (new_places ns)) i w)
      on numbers (inl g) = inl g
      on numbers (inr g) = inr (suc g.0, omega (arith, g.1), later g.2)

      go : Dec (word_number (bytes_at t n) words < length words) → Stands j ns (numbers_from words j (words_at t ns)) k w
          → Stands (suc j) ns (numbers_from words (suc j) (words_at t ns)) k w
          → Stands j (n ∷ ns) (numbers_from words j (words_at t (n ∷ ns))) (suc k) w
      go (yes l) f g = rw (lt-ltb (word_number (bytes_at t n) words) (length words) l) f
      go (no l) f g =
          rw (le-ltb (word_number (bytes_at t n) words) (length words) (omega arith)) (on (numbers_from words (suc j) (words_at t ns)) g)
  number-stands j [] {k = k} {w = w} x' = elim x' [ ]

  -- so it first stands at that number among all of them, which is below 65,536
  number-all : (ns : List Place) {ss : List Symbol} {k : ℕ} {w : List ℕ} → Firsts t words ss (new_places ns)
      → length words + length ns ≤ 65536
      → Nth (words_at t ns) k w
      → First (words ++ words_at t (new_places ns)) (get_or (numbers_from words 0 (words_at t ns)) k 0) w
      × (get_or (numbers_from words 0 (words_at t ns)) k 0 < 65536)
  number-all ns {k = k} {w} f h n = by (number-stands 0 ns n)
    where
      x : ℕ
      x = get_or (numbers_from words 0 (words_at t ns)) k 0

      by : Stands 0 ns (numbers_from words 0 (words_at t ns)) k w → First (words ++ words_at t (new_places ns)) x w × (x < 65536)
      by (inl g) = (
        first-left (words_at t (new_places ns)) g,
        let b = nth-below g.there in let l = nth-below n in let z = words_long t ns in omega arith,
      )
      by (inr g) =
          let e : x ≡ length words + g.0 = omega (arith, g.1) in
          let b = nth-below g.2 in (
            subst (λ (y : ℕ). First (words ++ words_at t (new_places ns)) y w) (sym e) (firsts-first t f g.2),
            omega (arith, e, b, words_long t (new_places ns), new-few (bytes_at t) words ns),
          )

-- THE CELLS, one by one
name-cell : (numbers : List ℕ) (a k : ℕ) {x : ℕ} → a ≤ 4 → k < 65536 → get_or numbers k 0 ≡ x → x < 65536
    → new_cell numbers (name_cell a k) ≡ name_cell a x
unfolding new_cell
name-cell numbers a k {x} h l e m =
    let v = built-name a k h l in
    let z : x % 65536 ≡ x = omega arith in
    rw (v, e, z)

number-cell : (numbers : List ℕ) (v : ℕ) → v < 65536 → new_cell numbers (number_cell v) ≡ number_cell v
unfolding new_cell
number-cell numbers v h = rw (built-number v h)

variable-cell : (numbers : List ℕ) (n : ℕ) → n < 65536 → new_cell numbers (variable_cell n) ≡ variable_cell n
unfolding new_cell
variable-cell numbers n h = rw (built-variable n h)

-- THE LIST: the new ones of the goal's list are the list of the new ones
listed-new : (t : List ℕ) (words : Words) (n : ℕ) (ns : List Place) → n < 65536 → AllIn n ns
    → new_ones (word_in t) words (map entry_of ns) ≡ map entry_of (new_ones (bytes_at t) words ns)
unfolding new_ones
listed-new t words n [] h l = refl
listed-new t words n (w ∷ ns) h l =
    rw (entry-word t w l.0 (omega arith))
    (by (new_ones (bytes_at t) words ns) (ltb (word_number (bytes_at t w) words) (length words)) (listed-new t words n ns h l.2))
  where
    by : {xs : List ℕ} (us : List Place) (b : Bool) → xs ≡ map entry_of us → cond b xs (entry_of w ∷ xs) ≡ map entry_of (cond b us (w ∷ us))
    by us true e = e
    by us false e = ap (λ (xs : List ℕ). entry_of w ∷ xs) e

-- THE ROW, with the numbers looked up
module _ (t : List ℕ) (words : Words) (ns : List Place) (numbers : List ℕ) (few : length words + length ns ≤ 65536)
    (same' : (k : ℕ) → k < length ns → get_or numbers k 0 ≡ get_or (numbers_from words 0 (words_at t ns)) k 0)
    (us : List Symbol) (f : Firsts t words us (new_places t words ns)) where
  abbrev all : Words
  all = words ++ words_at t (new_places t words ns)

  new_row : {met : Words} {ss : List Symbol} {cs : List ℕ} (n : ℕ) → AllLie n ss → length met + length ss ≤ 65536
      → NumberedRow t (words_at t ns) met ss cs
      → NumberedRow t all met ss (new_cells numbers cs)
  new_row n l h numbering.none = numbering.none
  new_row {met} n l h (numbering.a-name {k = k} {a = a} g c r) =
      let b = nth-below g.there in
      let z = words_long t ns in
      let x = number-all t words ns f few g.there in
      numbering.a-name x.0 (ap (new_cell numbers) c ∙ name-cell numbers a k l.0.2 (omega arith) (same' k (omega arith)) x.1)
      (new_row n l.1 (omega arith) r)
  new_row n l h (numbering.a-number {v = v} c r) =
      numbering.a-number (ap (new_cell numbers) c ∙ number-cell numbers v l.0) (new_row n l.1 (omega arith) r)
  new_row {met} n l h (numbering.unnamed {s = s} {e = e} u c r) =
      numbering.unnamed {met = met} {s = s} {e = e} u (ap (new_cell numbers) c ∙ variable-cell numbers (length met) (omega arith))
      (new_row n l.1 (omega (arith, length-append met (slice s e t ∷ []))) r)
  new_row {met} n l h (numbering.first {s = s} {e = e} u c r) =
      numbering.first {met = met} {s = s} {e = e} u (ap (new_cell numbers) c ∙ variable-cell numbers (length met) (omega arith))
      (new_row n l.1 (omega (arith, length-append met (slice s e t ∷ []))) r)
  new_row {met} n l h (numbering.again {k = k} {s = s} {e = e} u g c r) =
      let b = nth-below g in
      numbering.again {met = met} {s = s} {e = e} u g (ap (new_cell numbers) c ∙ variable-cell numbers k (omega arith))
      (new_row n l.1 (omega arith) r)

-- ALL OF IT: the cells of a fact by its own names, and by the table's; and its list of names, and of new ones
pub new-numbered : (t : List ℕ) (words : Words) (f : Fact) (ns : List Place) (numbers cells : List ℕ) (n : ℕ)
    → Firsts t [] f.symbols ns → NumberedRow t (words_at t ns) [] f.symbols cells → AllLie n f.symbols → n < 65536
    → length f.symbols ≤ 65536
    → length words + length ns ≤ 65536 → ((k : ℕ) → k < length ns → get_or numbers k 0 ≡ get_or (numbers_from words 0 (words_at t ns)) k 0)
    → GoalNumbered words t f (record { cells = new_cells numbers cells; new = new_ones (word_in t) words (map entry_of ns) })
new-numbered t words f ns numbers cells n fs r l m h few e =
    let news = new-firsts t words words start fs in
    record {
      places = new_ones (bytes_at t) words ns;
      firsts = news;
      listed = listed-new t words n ns m (firsts-in t n l fs);
      row = new_row t words ns numbers few e f.symbols news n l (omega arith) r;
    }
  where
    nothing : (w : List ℕ) → In [] w → ⊥
    nothing w i = let b = nth-below i.1 in omega arith

    start : Both words [] words
    start = record { left = λ w i. i; right = λ w i. absurd (nothing w i); only = λ w i. inl i }

-- 01'S TESTS of a goal see no name's number
new-values : (numbers : List ℕ) (c : ℕ)
    → (values_at (new_cell numbers c) ≡ values_at c)
    ⊎ (((values_at c).kind ≡ 1) × ((m : ℕ) × (values_at (new_cell numbers c) ≡ values 1 (values_at c).args m)))
unfolding new_cell
new-values numbers c = by (eqb (values_at c).kind 1) refl
  where
    x : ℕ
    x = get_or numbers (values_at c).number 0 % 65536

    by : (b : Bool) → eqb (values_at c).kind 1 ≡ b → (values_at (cond b (name_cell (values_at c).args x) c) ≡ values_at c)
        ⊎ (((values_at c).kind ≡ 1) × ((m : ℕ) × (values_at (cond b (name_cell (values_at c).args x) c) ≡ values 1 (values_at c).args m)))
    by true e = inr (eqb-true (values_at c).kind 1 e, (x, built-name (values_at c).args x (values-small c).0 (omega arith)))
    by false e = inl refl

terms-new : (numbers cs : List ℕ) (owed used vars p : ℕ)
    → terms_from false (new_cells numbers cs) owed used vars p ≡ terms_from false cs owed used vars p
unfolding terms_from
terms-new numbers [] zero used vars p = refl
terms-new numbers [] (suc owed) used vars p = refl
terms-new numbers (c ∷ cs) zero used vars p = refl
terms-new numbers (c ∷ cs) (suc owed) used vars p = go (new-values numbers c) (λ o u v q. terms-new numbers cs o u v q)
  where
    v : Values
    v = values_at c

    new : Values
    new = values_at (new_cell numbers c)

    Same : Type 0
    Same = (o u v q : ℕ) → terms_from false (new_cells numbers cs) o u v q ≡ terms_from false cs o u v q

    go : (new ≡ v) ⊎ ((v.kind ≡ 1) × ((m : ℕ) × (new ≡ values 1 v.args m))) → Same
        → cell_tests false new vars p (terms_from false (new_cells numbers cs) (new.args + owed) (suc used) (counted new vars) (suc p))
        ≡ cell_tests false v vars p (terms_from false cs (v.args + owed) (suc used) (counted v vars) (suc p))
    go (inl e) f = rw e (ap (cell_tests false v vars p) (f (v.args + owed) (suc used) (counted v vars) (suc p)))
    go (inr e) f = rw (e.1.1, e.0) (f (v.args + owed) (suc used) vars (suc p))

new-long : (numbers cs : List ℕ) → length (new_cells numbers cs) ≡ length cs
new-long numbers [] = refl
new-long numbers (c ∷ cs) = ap suc (new-long numbers cs)

pub goal-new : (width : ℕ) (numbers cs : List ℕ) → goal_of width (new_cells numbers cs) ≡ goal_of width cs
unfolding goal_of
goal-new width numbers cs = rw (new-long numbers cs, terms-new numbers cs width 0 0 0)
