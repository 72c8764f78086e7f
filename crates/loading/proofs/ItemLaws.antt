-- Names met one after another, and the numbers that symbols get by them: a number once given stays.
use Prim.Native.Nat.{ℕ, zero, suc, ◌<◌}
use mathlib.Core.Path.{◌≡◌, refl, sym, ap, ap₂, ◌∙◌}
use mathlib.Core.Bool.{Bool, true, false}
use mathlib.Core.List.{List, [], ◌∷◌, ◌++◌, map, flatten, append_assoc}
use native.Mathlib.Omega.{arith}
use lib.Dec.{ltb}
use lib.ListN.{length, get_or, set, length-append}
use borrow.Author.Tests.{ltb-true, ltb-false}
use Rattle.cell.specs.Cell.{variable_cell, name_cell, number_cell}
use Rattle.grammar.specs.Grammar.{Symbol, name, variable, number, Fact}
use Rattle.grammar.specs.Meaning.{Place, place, bytes_at, position, meet, names_from, symbols_of, names_of, variable_number, variables_with, cells_from}
use Rattle.grammar.proofs.NumberLaws.{position-kept, position-added, meet-old, meet-new, names_more, variables_in}
use Rattle.loading.specs.Items.{Item, of-name, of-variable, of_number, next_row, item_of, items_in, rows_in, items_of, symbols_among, names_met}
use Rattle.loading.specs.Items.{numbering, shape_of, shapes}

-- A WORD'S NUMBER IS KEPT
pub record Kept (t w : List ℕ) (ns ns' : List Place) : Type 0 where
  pub same : position t w ns' ≡ position t w ns
  pub there : position t w ns' < length ns'

-- by one more word
pub meet-keeps : (t w : List ℕ) (ns : List Place) (v : Place) → position t w ns < length ns → Kept t w ns (meet t ns v)
meet-keeps t w ns v h = go (ltb (position t (bytes_at t v) ns) (length ns)) refl
  where
    go : (b : Bool) → ltb (position t (bytes_at t v) ns) (length ns) ≡ b → Kept t w ns (meet t ns v)
    go true e = rw (meet-old t ns v (ltb-true _ _ e)) (record { same = refl; there = h })
    go false e =
        let k = position-kept t w ns (v ∷ []) h in
        rw (meet-new t ns v (ltb-false _ _ e)) (record { same = k; there = omega (arith, k, length-append ns (v ∷ [])) })

-- by all that are met later
pub names-keep : (t w : List ℕ) (ns : List Place) (xs : List Item) → position t w ns < length ns → Kept t w ns (names_met t ns xs)
unfolding names_met
names-keep t w ns [] h = record { same = refl; there = h }
names-keep t w ns (of-name v ∷ xs) h =
    let a = meet-keeps t w ns v h in
    let b = names-keep t w (meet t ns v) xs a.there in
    record { same = b.same ∙ a.same; there = b.there }
names-keep t w ns (of-variable v ∷ xs) h = names-keep t w ns xs h
names-keep t w ns (of_number v ∷ xs) h = names-keep t w ns xs h
names-keep t w ns (next_row ∷ xs) h = names-keep t w ns xs h

-- a word that is met is listed
met-there : (t : List ℕ) (ns : List Place) (v : Place) → position t (bytes_at t v) (meet t ns v) < length (meet t ns v)
met-there t ns v = go (ltb (position t (bytes_at t v) ns) (length ns)) refl
  where
    go : (b : Bool) → ltb (position t (bytes_at t v) ns) (length ns) ≡ b → position t (bytes_at t v) (meet t ns v) < length (meet t ns v)
    go true e = rw (meet-old t ns v (ltb-true _ _ e)) (ltb-true _ _ e)
    go false e =
        rw (meet-new t ns v (ltb-false _ _ e))
        (omega (arith, position-added t v ns (ltb-false _ _ e), length-append ns (v ∷ [])))

pub names-append : (t : List ℕ) (ns : List Place) (xs ys : List Item) → names_met t ns (xs ++ ys) ≡ names_met t (names_met t ns xs) ys
unfolding names_met
names-append t ns [] ys = refl
names-append t ns (of-name v ∷ xs) ys = names-append t (meet t ns v) xs ys
names-append t ns (of-variable v ∷ xs) ys = names-append t ns xs ys
names-append t ns (of_number v ∷ xs) ys = names-append t ns xs ys
names-append t ns (next_row ∷ xs) ys = names-append t ns xs ys

-- THE LIST OF NAMES is the facts' own
pub names-from : (t : List ℕ) (ns : List Place) (ss : List Symbol) → names_met t ns (items_in ss) ≡ names_from t ns ss
unfolding names_met item_of names_from
names-from t ns [] = refl
names-from t ns (name s e a ∷ ss) = names-from t (meet t ns (place s e)) ss
names-from t ns (variable s e ∷ ss) = names-from t ns ss
names-from t ns (number v ∷ ss) = names-from t ns ss

names-rows-from : (t : List ℕ) (ns : List Place) (fs : List Fact) → names_met t ns (rows_in fs) ≡ names_from t ns (symbols_of fs)
unfolding names_met flatten names_from
names-rows-from t ns [] = refl
names-rows-from t ns (f ∷ fs) =
    names-append t ns (items_in f.symbols) (rows_in fs)
    ∙ ap (λ (ms : List Place). names_met t ms (rows_in fs)) (names-from t ns f.symbols)
    ∙ names-rows-from t (names_from t ns f.symbols) fs
    ∙ sym (names_more t ns f.symbols (symbols_of fs))

-- the first row's mark says nothing: no variable stands before it
pub names-items : (t : List ℕ) (ns : List Place) (fs : List Fact) → names_met t ns (items_of fs) ≡ names_from t ns (symbols_of fs)
unfolding names_met flatten
names-items t ns [] = names-rows-from t ns []
names-items t ns (f ∷ fs) = names-rows-from t ns (f ∷ fs)

-- THE CELLS BY THE NUMBERS. The numbers of a row's symbols, by a list that holds every name
unfoldable numbers_by : List ℕ → List Place → List Place → List Symbol → List ℕ
numbers_by t ns vs [] = []
numbers_by t ns vs (name s e a ∷ ss) = position t (bytes_at t (place s e)) ns ∷ numbers_by t ns vs ss
numbers_by t ns vs (variable s e ∷ ss) = variable_number t vs (place s e) ∷ numbers_by t ns (variables_with t vs (place s e)) ss
numbers_by t ns vs (number v ∷ ss) = v ∷ numbers_by t ns vs ss

row-numbers : (t : List ℕ) (ns vs : List Place) (ss : List Symbol) (more : List Item)
    → numbering t ns vs (items_in ss ++ more)
    ≡ numbers_by t (names_met t ns (items_in ss ++ more)) vs ss ++ numbering t (names_met t ns (items_in ss)) (variables_in t vs ss) more
unfolding numbering numbers_by names_met item_of variables_in
row-numbers t ns vs [] more = refl
row-numbers t ns vs (name s e a ∷ ss) more =
    ap₂ ◌∷◌ (sym (names-keep t (bytes_at t (place s e)) (meet t ns (place s e)) (items_in ss ++ more) (met-there t ns (place s e))).same)
    (row-numbers t (meet t ns (place s e)) vs ss more)
row-numbers t ns vs (variable s e ∷ ss) more =
    ap (λ (l : List ℕ). variable_number t vs (place s e) ∷ l) (row-numbers t ns (variables_with t vs (place s e)) ss more)
row-numbers t ns vs (number v ∷ ss) more = ap (λ (l : List ℕ). v ∷ l) (row-numbers t ns vs ss more)

row-shapes : (t : List ℕ) (ns vs : List Place) (ss us : List Symbol) (rest : List ℕ)
    → shapes (ss ++ us) (numbers_by t ns vs ss ++ rest) ≡ cells_from t ns vs ss ++ shapes us rest
unfolding shapes numbers_by cells_from
row-shapes t ns vs [] us rest = refl
row-shapes t ns vs (name s e a ∷ ss) us rest = ap (λ (l : List ℕ). name_cell a (position t (bytes_at t (place s e)) ns) ∷ l) (row-shapes t ns vs ss us rest)
row-shapes t ns vs (variable s e ∷ ss) us rest =
    ap (λ (l : List ℕ). variable_cell (variable_number t vs (place s e)) ∷ l) (row-shapes t ns (variables_with t vs (place s e)) ss us rest)
row-shapes t ns vs (number v ∷ ss) us rest = ap (λ (l : List ℕ). number_cell v ∷ l) (row-shapes t ns vs ss us rest)

rows-shapes : (t : List ℕ) (ns vs : List Place) (fs : List Fact) (rest : List ℕ)
    → shapes (symbols_of fs) (numbering t ns vs (rows_in fs) ++ rest) ≡ flatten (map (λ (f : Fact). cells_from t (names_met t ns (rows_in fs)) [] f.symbols) fs)
unfolding flatten names_met numbering shapes
rows-shapes t ns vs [] rest = refl
rows-shapes t ns vs (f ∷ fs) rest =
    let ss = f.symbols in
    let all = names_met t ns (items_in ss ++ rows_in fs) in
    ap (λ (l : List ℕ). shapes (ss ++ symbols_of fs) (l ++ rest)) (row-numbers t ns [] ss (rows_in fs))
    ∙ ap (shapes (ss ++ symbols_of fs)) (append_assoc (numbers_by t all [] ss) (numbering t (names_met t ns (items_in ss)) (variables_in t [] ss) (rows_in fs)) rest)
    ∙ row-shapes t all [] ss (symbols_of fs) (numbering t (names_met t ns (items_in ss)) (variables_in t [] ss) (rows_in fs) ++ rest)
    ∙ ap (λ (l : List ℕ). cells_from t all [] ss ++ l)
    (rows-shapes t (names_met t ns (items_in ss)) (variables_in t [] ss) fs rest
    ∙ ap (λ (ms : List Place). flatten (map (λ (g : Fact). cells_from t ms [] g.symbols) fs)) (sym (names-append t ns (items_in ss) (rows_in fs))))

-- all the rows' cells
pub cells-shapes : (t : List ℕ) (fs : List Fact) (rest : List ℕ)
    → shapes (symbols_of fs) (numbering t [] [] (items_of fs) ++ rest) ≡ flatten (map (λ (f : Fact). cells_from t (names_of t fs) [] f.symbols) fs)
unfolding numbering flatten
cells-shapes t fs rest =
    ap (λ (l : List ℕ). shapes (symbols_of fs) (l ++ rest)) (skip fs)
    ∙ rows-shapes t [] [] fs rest
    ∙ ap (λ (ms : List Place). flatten (map (λ (g : Fact). cells_from t ms [] g.symbols) fs)) (names-rows-from t [] fs)
  where
    skip : (fs : List Fact) → numbering t [] [] (items_of fs) ≡ numbering t [] [] (rows_in fs)
    skip [] = refl
    skip (g ∷ gs) = refl

-- AS MANY NUMBERS AS SYMBOLS
pub numbering-long : (t : List ℕ) (ns vs : List Place) (xs : List Item) → length (numbering t ns vs xs) ≡ symbols_among xs
unfolding symbols_among numbering
numbering-long t ns vs [] = refl
numbering-long t ns vs (of-name w ∷ xs) = ap suc (numbering-long t (meet t ns w) vs xs)
numbering-long t ns vs (of-variable w ∷ xs) = ap suc (numbering-long t ns (variables_with t vs w) xs)
numbering-long t ns vs (of_number v ∷ xs) = ap suc (numbering-long t ns vs xs)
numbering-long t ns vs (next_row ∷ xs) = numbering-long t ns [] xs

-- where there are none, nothing is numbered or listed
pub none-numbered : (t : List ℕ) (ns vs : List Place) (xs : List Item) → symbols_among xs ≡ 0 → numbering t ns vs xs ≡ []
unfolding symbols_among numbering
none-numbered t ns vs [] e = refl
none-numbered t ns vs (of-name w ∷ xs) e = absurd (omega arith)
none-numbered t ns vs (of-variable w ∷ xs) e = absurd (omega arith)
none-numbered t ns vs (of_number v ∷ xs) e = absurd (omega arith)
none-numbered t ns vs (next_row ∷ xs) e = none-numbered t ns [] xs e

pub none_named : (t : List ℕ) (ns : List Place) (xs : List Item) → symbols_among xs ≡ 0 → names_met t ns xs ≡ ns
unfolding symbols_among names_met
none_named t ns [] e = refl
none_named t ns (of-name w ∷ xs) e = absurd (omega arith)
none_named t ns (of-variable w ∷ xs) e = absurd (omega arith)
none_named t ns (of_number v ∷ xs) e = absurd (omega arith)
none_named t ns (next_row ∷ xs) e = none_named t ns xs e

-- ONE SYMBOL MORE, ONE SYMBOL CHANGED
pub shapes-more : (ss : List Symbol) (x : Symbol) (ns : List ℕ) → shapes (ss ++ (x ∷ [])) ns ≡ shapes ss ns ++ (shape_of x (get_or ns (length ss) 0) ∷ [])
unfolding shapes
shapes-more [] x [] = refl
shapes-more [] x (n ∷ ns) = refl
shapes-more (y ∷ ss) x [] = ap (λ (l : List ℕ). shape_of y 0 ∷ l) (shapes-more ss x [])
shapes-more (y ∷ ss) x (n ∷ ns) = ap (λ (l : List ℕ). shape_of y n ∷ l) (shapes-more ss x ns)

pub shapes-set : (ss : List Symbol) (i : ℕ) (x : Symbol) (ns : List ℕ) → shapes (set ss i x) ns ≡ set (shapes ss ns) i (shape_of x (get_or ns i 0))
unfolding shapes
shapes-set [] i x ns = refl
shapes-set (y ∷ ss) zero x [] = refl
shapes-set (y ∷ ss) zero x (n ∷ ns) = refl
shapes-set (y ∷ ss) (suc i) x [] = ap (λ (l : List ℕ). shape_of y 0 ∷ l) (shapes-set ss i x [])
shapes-set (y ∷ ss) (suc i) x (n ∷ ns) = ap (λ (l : List ℕ). shape_of y n ∷ l) (shapes-set ss i x ns)

pub shape_at : (ss : List Symbol) (i : ℕ) (ns : List ℕ) → i < length ss → get_or (shapes ss ns) i 0 ≡ shape_of (get_or ss i (number 0)) (get_or ns i 0)
unfolding shapes
shape_at [] i ns h = absurd (omega arith)
shape_at (y ∷ ss) zero [] h = refl
shape_at (y ∷ ss) zero (n ∷ ns) h = refl
shape_at (y ∷ ss) (suc i) [] h = shape_at ss i [] (omega arith)
shape_at (y ∷ ss) (suc i) (n ∷ ns) h = shape_at ss i ns (omega arith)

pub shapes-long : (ss : List Symbol) (ns : List ℕ) → length (shapes ss ns) ≡ length ss
unfolding shapes
shapes-long [] ns = refl
shapes-long (y ∷ ss) [] = ap suc (shapes-long ss [])
shapes-long (y ∷ ss) (n ∷ ns) = ap suc (shapes-long ss ns)
