-- Goals that are added one after another are a list of them: the words name each goal, whole and in its order.
use mathlib.Core.Path.{◌≡◌, refl, ap, ◌∙◌}
use mathlib.Core.Bool.{true, false}
use mathlib.Core.Logic.{⊎_elim}
use mathlib.Core.List.{List, [], ◌∷◌, ◌++◌, append_assoc}
use Prim.Native.Nat.{ℕ, ◌+◌, ◌≤◌}
use native.Mathlib.Omega.{arith}
use lib.ListN.{length, take, drop, length-append}
use lib.Seq.{sets, sets-eq, slice, length-sets, length-take-le, take_at, drop_at, take-take, take-append-le}
use borrow.Author.Tests.{leb-true}
use Rattle.term.proofs.Tests.{bool_cases}
use Rattle.goallist.specs.Gathering.{words_fit, cells_fit, with_goal, Adding, goals_at, Pairs, none, pair, Gathered}
use Rattle.goallist.specs.declared.Held.{Held}
use Rattle.goallist.specs.declared.Full.{Full}
use Rattle.std.specs.Prelude.{Result, Ok, Err}

-- what stands before a part that is put, and the part itself
module _ (l part : List ℕ) (i : ℕ) (h : i + length part ≤ length l) where
  before-put : (t : ℕ) → t ≤ i → take t (sets l i part) ≡ take t l
  before-put t g =
      let front : length (take i l) ≡ i = length-take-le i l (omega arith) in
      ap (take t) (sets-eq part l i h ∙ append_assoc (take i l) part (drop (i + length part) l))
      ∙ take-append-le t (take i l) (part ++ drop (i + length part) l) (omega arith) ∙ take-take t i l g

  through-put : take (i + length part) (sets l i part) ≡ take i l ++ part
  through-put =
      let front : length (take i l) ≡ i = length-take-le i l (omega arith) in
      ap (take (i + length part)) (sets-eq part l i h)
      ∙ take_at (take i l ++ part) (drop (i + length part) l) (i + length part) (omega (arith, length-append (take i l) part))

  part-put : slice i (i + length part) (sets l i part) ≡ part
  part-put = ap (drop i) through-put ∙ drop_at (take i l) part i (length-take-le i l (omega arith))

-- words two by two, with a goal more
pairs-further : {end more : ℕ} {list : List ℕ} → end ≤ more → Pairs end list → Pairs more list
pairs-further h none = none
pairs-further {more = more} h (pair {start = s} {count = n} e p) = let f : s + n ≤ more = omega arith in pair f (pairs-further h p)

pairs-last : {end : ℕ} {list : List ℕ} (start count : ℕ) → start + count ≤ end → Pairs end list → Pairs end (list ++ (start ∷ count ∷ []))
pairs-last start count h none = pair h none
pairs-last start count h (pair e p) = pair e (pairs-last start count h p)

goals-last : {end : ℕ} {list : List ℕ} (cells : List ℕ) (start count : ℕ) → Pairs end list
    → goals_at cells (list ++ (start ∷ count ∷ [])) ≡ goals_at cells list ++ (slice start (start + count) cells ∷ [])
unfolding goals_at
goals-last cells start count none = refl
goals-last cells start count (pair {start = s} {count = n} e p) =
    ap (λ (l : List (List ℕ)). slice s (s + n) cells ∷ l) (goals-last cells start count p)

goals-same : {end : ℕ} {list : List ℕ} (cells cells' : List ℕ) → ((t : ℕ) → t ≤ end → take t cells' ≡ take t cells) → Pairs end list
    → goals_at cells' list ≡ goals_at cells list
unfolding goals_at
goals-same cells cells' f none = refl
goals-same cells cells' f (pair {start = s} {count = n} e p) = rw (f (s + n) e, goals-same cells cells' f p)

-- nothing is gathered yet
pub gathered_none : (cells list : List ℕ) → Gathered cells list (record { cells = 0; words = 0 })
gathered_none cells list = record { in_cells = omega arith; in_list = omega arith; pairs = none }

-- a goal more, in rooms that are enough
module _ (goal cells list : List ℕ) (held : Held) (g : Gathered cells list held) (c : held.cells + length goal ≤ length cells)
    (w : held.words + 2 ≤ length list) where
  abbrev cells_with : List ℕ
  cells_with = sets cells held.cells goal

  abbrev words_with : List ℕ
  words_with = sets list held.words (held.cells ∷ length goal ∷ [])

  words-then : take (held.words + 2) words_with ≡ take held.words list ++ (held.cells ∷ length goal ∷ [])
  words-then = through-put list (held.cells ∷ length goal ∷ []) held.words w

  gathered-then : Gathered cells_with words_with (with_goal goal held)
  gathered-then = record {
    in_cells = omega (arith, length-sets cells held.cells goal);
    in_list = omega (arith, length-sets list held.words (held.cells ∷ length goal ∷ []));
    pairs = rw words-then (pairs-last held.cells (length goal) (omega arith) (pairs-further (omega arith) g.pairs));
  }

  goals-then : goals_at cells_with (take (held.words + 2) words_with) ≡ goals_at cells (take held.words list) ++ (goal ∷ [])
  goals-then =
      ap (goals_at cells_with) words-then ∙ goals-last cells_with held.cells (length goal) g.pairs
      ∙ rw (goals-same cells cells_with (before-put cells goal held.cells c) g.pairs, part-put cells goal held.cells c)

kept_same : {x y : Held} → ◌≡◌ {A = Result Held Full} (Ok x) (Ok y) → x ≡ y
kept_same e = cc

kept-left : {x : Held} {f : Full} → ◌≡◌ {A = Result Held Full} (Ok x) (Err f) → ⊥
kept-left e = let z : ◌≡◌ {A = ℕ} 0 1 = cc in omega arith

-- a goal that is kept has room for its words and its cells
module _ {goal cells list cells' list' : List ℕ} {held held' : Held} (a : Adding goal held cells list cells' list' (Ok held')) where
  kept-room : (words_fit held list ≡ true) × (cells_fit goal held cells ≡ true) × (held' ≡ with_goal goal held)
  kept-room = ⊎_elim
      (λ (w : words_fit held list ≡ true). ⊎_elim
      (λ (c : cells_fit goal held cells ≡ true). (w, c, kept_same (rw (w, c) at a.told)))
      (λ (c : cells_fit goal held cells ≡ false). absurd (kept-left (rw (w, c) at a.told)))
      (bool_cases (cells_fit goal held cells)))
      (λ (w : words_fit held list ≡ false). absurd (kept-left (rw w at a.told)))
      (bool_cases (words_fit held list))

  -- and what is in use then is a list of goals: those that there were, and this one
  pub goals-kept : Gathered cells list held → Gathered cells' list' held'
      × (goals_at cells' (take held'.words list') ≡ goals_at cells (take held.words list) ++ (goal ∷ []))
  goals-kept g =
      let r = kept-room in
      let c = leb-true _ _ r.1 in
      let w = leb-true _ _ r.0 in
      let e = rw (r.0, r.1) at a.puts-cells in
      let f = rw (r.0, r.1) at a.puts-words in
      rw (e, f, r.2) (gathered-then goal cells list held g c w, goals-then goal cells list held g c w)
