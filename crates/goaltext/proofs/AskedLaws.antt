-- What a goal's text is answered with, law by law: the facts that it is read as are one of the table's predicate and width, or not; and its
-- cells by its own names, with these looked up, are the goal's.
use Prim.Native.Nat.{ℕ, suc, ◌+◌, ◌-◌, ◌≤◌, ◌<◌}
use mathlib.Core.Path.{◌≡◌, refl, sym, ap, ap₂, subst, ◌∙◌}
use mathlib.Core.Bool.{Bool, true, false, cond}
use mathlib.Core.List.{List, [], ◌∷◌, ◌++◌, flatten, append-nil}
use native.Mathlib.Omega.{arith}
use lib.ListN.{length, get_or, take, drop, length-append, length-drop, length-map, get_or-append}
use lib.Dec.{ltb}
use lib.Seq.{slice, sets, length-take-le, take-append_seam}
use borrow.Author.Tests.{lt-ltb, le-ltb}
use Rattle.refusal.specs.Refusal.{Refused, refused, told, answered, turned}
use Rattle.refusal.specs.Read.{Read, read, refuse, and_then}
use Rattle.refusal.specs.declared.Refusal.{Refusal}
use Rattle.refusal.specs.declared.Reason.TheVariants as reason
use Rattle.refusal.specs.declared.Input.TheVariants as input
use Rattle.table.specs.Table.{goal_of, goal_says, goal_told}
use Rattle.table.specs.declared.GoalSize.{GoalSize}
use Rattle.table.proofs.Accepted.{is-goal}
use Rattle.grammar.specs.Grammar.{Symbol, Fact, Text}
use Rattle.grammar.specs.Meaning.{Place, entry_of, width_of, symbols_of, names_of, table_cells, name_list, none, found, other_in, other_than}
use Rattle.grammar.specs.Numbering as numbering
use Rattle.grammar.specs.Numbering.{Words, words_at, Firsts, NumberedRow, Rows}
use Rattle.grammar.specs.Taken.{Taken, too_long, no_text, other-fact, taken}
use Rattle.grammar.proofs.Accepted.{unique, not-both}
use Rattle.grammar.proofs.LongLaws.{text-long, names-few}
use Rattle.grammar.proofs.NthLaws.{words_long}
use Rattle.grammar.proofs.Numbered.{names-are, cells_are}
use Rattle.scan.specs.Scan.{Counts}
use Rattle.scan.specs.declared.Counted.{Counted}
use Rattle.slices.specs.declared.Span.{Span}
use Rattle.prolog.specs.Entry.{FactsAre, are-made}
use Rattle.prolog.specs.Entry as entry
use Rattle.prolog.specs.declared.FactsMade.TheVariants as facts-made
use Rattle.prolog.specs.declared.TextSize.{TextSize}
use Rattle.prolog.proofs.EntryLaws.{cells-long}
use Rattle.slices.proofs.SliceLaws.{part-is}
use Rattle.termtext.specs.Saying.{word_in, words_in, predicate_in}
use Rattle.termtext.specs.Goal.{Whole, stopped, unstopped, Ours, Goal, Asks, GoalRead}
use Rattle.termtext.specs.Goal as goal
use Rattle.termtext.specs.code.Renumber.{word_number, numbers_from, new_ones, new_cells}
use Rattle.termtext.specs.declared.Predicate.{Predicate}
use Rattle.termtext.proofs.LieLaws.{goal-lies}
use Rattle.termtext.proofs.ListLaws.{firsts-in, listed-words}
use Rattle.termtext.proofs.RenumberLaws.{new-few, new-numbered, goal-new}
use Rattle.goaltext.specs.Asked.{goal_text_told, Answers}
use Rattle.goaltext.specs.code.Steps.{NameIs, Same, NamesNumbered, FactAsked, Reads}
use Rattle.std.specs.Prelude.{Result, Ok, Err}
use Rattle.goaltext.specs.declared.GoalTextSize.{GoalTextSize}
use Rattle.goaltext.proofs.StepLaws.{counted-text, some-fact}
use Rattle.goaltext.proofs.NameLaws.{cells-many, words-many, stored-front}
use Rattle.limits.specs.Limits.{most_goal_bytes, most_names, most_text_bytes}

-- A GOAL'S TEXT IS A TEXT
pub whole-text : {t whole : List ℕ} {fs : List Fact} → Whole t whole fs → Text whole fs
whole-text (stopped x) = x
whole-text (unstopped s x) = x

-- the numbers, found where they are stored
numbers-long : (words : Words) (new : ℕ) (vs : Words) → length (numbers_from words new vs) ≡ length vs
unfolding numbers_from
numbers-long words new [] = refl
numbers-long words new (v ∷ vs) = by (ltb (word_number v words) (length words)) (numbers-long words new vs) (numbers-long words (suc new) vs)
  where
    by : (b : Bool) → length (numbers_from words new vs) ≡ length vs → length (numbers_from words (suc new) vs) ≡ length vs
        → length (cond b (word_number v words ∷ numbers_from words new vs) ((length words + new) ∷ numbers_from words (suc new) vs))
        ≡ suc (length vs)
    by true e f = ap suc e
    by false e f = ap suc f

stored_at : (xs zeros : List ℕ) (k : ℕ) → length xs ≤ length zeros → k < length xs → get_or (sets zeros 0 xs) k 0 ≡ get_or xs k 0
stored_at xs zeros k h l = ap (λ (ys : List ℕ). get_or ys k 0) (stored-front xs zeros h) ∙ get_or-append xs (drop (length xs) zeros) 0 k l

-- A TEXT OF ONE FACT: its cells by its own names, and with these looked up
module _ (t whole : List ℕ) (f : Fact) (w : Whole t whole (f ∷ [])) (few : length whole ≤ most_text_bytes) (short : length t ≤ most_goal_bytes) where
  abbrev own : List Place
  own = names_of whole (f ∷ [])

  alone : symbols_of (f ∷ []) ≡ f.symbols
  unfolding flatten
  alone = append-nil f.symbols

  own-firsts : Firsts whole [] f.symbols own
  own-firsts = subst (λ (ss : List Symbol). Firsts whole [] ss own) alone ((names-are whole (f ∷ []) own).1 refl)

  few-symbols : length f.symbols ≤ 32766
  few-symbols = omega (arith, text-long whole (whole-text w), ap length alone)

  few-own : length own ≤ 32766
  few-own = omega (arith, names-few whole [] (symbols_of (f ∷ [])), ap length alone, few-symbols)

  own-words : words_in whole (name_list whole (f ∷ [])) ≡ words_at whole own
  unfolding name_list
  own-words = listed-words whole (length t) own (omega arith) (firsts-in whole (length t) (goal-lies w) own-firsts)

  own_row : (row : List ℕ) → table_cells whole (f ∷ []) ≡ f.width ∷ 1 ∷ row → NumberedRow whole (words_at whole own) [] f.symbols row
  unfolding width_of
  own_row row e = by ((cells_are whole (f ∷ []) row).1 e)
    where
      by : {cs : List ℕ} → Rows whole own (f ∷ []) cs → NumberedRow whole (words_at whole own) [] f.symbols cs
      by (numbering.more {row = r} a numbering.none q) = subst (NumberedRow whole (words_at whole own) [] f.symbols) (sym (q ∙ append-nil r)) a

  one-asks : (words : Words) (predicate : List ℕ) (width : ℕ) (row numbers : List ℕ) → Ours predicate width whole f []
      → table_cells whole (f ∷ []) ≡ f.width ∷ 1 ∷ row → length words ≤ most_names
      → ((k : ℕ) → k < length own → get_or numbers k 0 ≡ get_or (numbers_from words 0 (words_at whole own)) k 0)
      → Asks words predicate width t (record { cells = new_cells numbers row; new = new_ones (word_in whole) words (name_list whole (f ∷ [])) })
  unfolding name_list
  one-asks words predicate width row numbers o e h n =
      record {
        whole = whole;
        fact = f;
        text = w;
        ours = o;
        numbered = new-numbered whole words f own numbers row (length t) own-firsts (own_row row e) (goal-lies w) (omega arith)
            (omega (arith, few-symbols)) (omega (arith, few-own)) n;
      }

  one-cells : table_cells whole (f ∷ []) ≡ f.width ∷ 1 ∷ drop 2 (table_cells whole (f ∷ []))
  unfolding table_cells width_of
  one-cells = refl

goal-long : (width : ℕ) (cells : List ℕ) → 32 < length cells → goal_of width cells ≡ refuse (refused reason.Length input.Goal 0)
unfolding goal_of
goal-long width cells h = rw (le-ltb (length cells) 1 (omega arith), lt-ltb 32 (length cells) h)

-- WHAT IS ANSWERED. The goal's first fact, and the text of facts whose names and predicate it is held against
module _ (text names : List ℕ) (p : Predicate) (t whole : List ℕ) (few : length whole ≤ most_text_bytes) (short : length t ≤ most_goal_bytes) where
  abbrev words : Words
  words = words_in text names

  turns : {cells new : List ℕ} {r : Result GoalTextSize Refusal} {g : Refused} → GoalRead words (predicate_in text p) p.width t (refuse g)
      → goal_text_told r ≡ turned g
      → Reads text names p t cells cells new new r
  turns {g = g} x e = record { says = refuse g; rule = x; answers = record { tells = e; wrote = refl; listed = refl } }

  module _ {s : Span} (N : NameIs whole s) where
    -- the first fact is the table's where its name and its width are
    same-ours : (f : Fact) {c : Counted} (C : Counts whole c) → C.facts ≡ f ∷ [] → Text whole (f ∷ []) → Same text p whole s c
        → Ours (predicate_in text p) p.width whole f []
    unfolding width_of
    same-ours f C e x S =
        let z = N f [] x in
        record {
          single = refl;
          called = ap₂ (λ (a b : ℕ). slice a b whole) (sym z.0) (sym z.1) ∙ S.called;
          wide = sym (ap width_of e) ∙ C.width ∙ sym S.wide;
        }

    ours_same : (f : Fact) (fs : List Fact) {c : Counted} (C : Counts whole c) → C.facts ≡ f ∷ fs → Text whole (f ∷ fs)
        → Ours (predicate_in text p) p.width whole f fs → Same text p whole s c
    unfolding width_of
    ours_same f fs C e x O =
        let z = N f fs x in
        record {
          one = sym C.number ∙ ap length e ∙ ap (λ (gs : List Fact). suc (length gs)) O.single;
          wide = sym O.wide ∙ sym (ap width_of e) ∙ C.width;
          called = ap₂ (λ (a b : ℕ). slice a b whole) z.0 z.1 ∙ O.called;
        }

    -- OTHER
    other_at : (f : Fact) (fs : List Fact) {cells new : List ℕ} {r : Result GoalTextSize Refusal} → Whole t whole (f ∷ fs)
        → (Ours (predicate_in text p) p.width whole f fs → ⊥) → goal_text_told r ≡ turned (refused reason.Other input.Text s.start)
        → Reads text names p t cells cells new new r
    other_at f fs w n e =
        let z = (N f fs (whole-text w)).0 in
        turns (goal.other short w n) (e ∙ ap (λ (k : ℕ). turned (refused reason.Other input.Text k)) z)

    pub other-reads : {c : Counted} {fs : List Fact} {cells new : List ℕ} {r : Result GoalTextSize Refusal} → Whole t whole fs → Counts whole c
        → (Same text p whole s c → ⊥) → goal_text_told r ≡ turned (refused reason.Other input.Text s.start)
        → Reads text names p t cells cells new new r
    other-reads {fs = fs} w C n e =
        let x = whole-text w in
        let o = some-fact x in
        let q = unique whole (counted-text C) x ∙ o.1.1 in
        other_at o.0 o.1.0 (subst (Whole t whole) o.1.1 w)
        (λ O. n (ours_same o.0 o.1.0 C q (subst (Text whole) o.1.1 x) O)) e

    pub refused-reads : (g : Refused) {fs : List Fact} {cells new : List ℕ} {r : Result GoalTextSize Refusal} → Whole t whole fs → Taken whole (refuse g)
        → goal_text_told r ≡ turned (refused reason.Other input.Text s.start) → Reads text names p t cells cells new new r
    unfolding other_in other_than
    refused-reads g {fs} {cells} {new} {r} w k e = by k refl
      where
        x : Text whole fs
        x = whole-text w

        two : {gs hs : List Fact} {f : Fact} {j : ℕ} → other_in whole gs ≡ found j → gs ≡ f ∷ hs → hs ≡ [] → ⊥
        two {f = f} {j = j} o a b =
            let z : none ≡ found j = sym (ap (other_in whole) (a ∙ ap (λ (hs : List Fact). f ∷ hs) b)) ∙ o in
            let y : ◌≡◌ {A = ℕ} 0 1 = cc in
            omega arith

        by : {o : Read (List Fact)} → Taken whole o → o ≡ refuse g → Reads text names p t cells cells new new r
        by (too_long h) z = absurd (omega arith)
        by (no_text {k = j} h m) z = absurd (not-both whole j m x)
        by (taken h y o) z = absurd (let u : ◌≡◌ {A = ℕ} 0 1 = cc in omega arith)
        by (other-fact {fs = gs} h y o) z =
            let u = some-fact x in
            other_at u.0 u.1.0 (subst (Whole t whole) u.1.1 w) (λ O. two o (unique whole y x ∙ u.1.1) O.single) e

    -- THE GOAL, and 01's refusals of it
    reads-by : (g : Goal) (row : List ℕ) {cells cells' new new' : List ℕ} {r : Result GoalTextSize Refusal} → Asks words (predicate_in text p) p.width t g
        → goal_of p.width g.cells ≡ goal_of p.width row
        → Answers (and_then (goal_of p.width row) (λ (vars : ℕ). read g)) cells cells' new new' r
        → Reads text names p t cells cells' new new' r
    reads-by g row {cells} {cells'} {new} {new'} {r} a e x = by (goal_of p.width row) refl x
      where
        by : (o : Read ℕ) → goal_of p.width row ≡ o → Answers (and_then o (λ (vars : ℕ). read g)) cells cells' new new' r
            → Reads text names p t cells cells' new new' r
        by (read v) i x = record { says = read g; rule = goal.is-goal short a (e ∙ i); answers = x }
        by (refuse f) i x = record { says = refuse f; rule = goal.no-goal short a (e ∙ i); answers = x }

    one-reads : (f : Fact) {row list cells cells' new new' : List ℕ} {r : Result GoalTextSize Refusal} → length names ≤ most_names → Whole t whole (f ∷ [])
        → Ours (predicate_in text p) p.width whole f [] → row ≡ drop 2 (table_cells whole (f ∷ [])) → list ≡ name_list whole (f ∷ [])
        → FactAsked text names p.width whole row list cells cells' new new' r → Reads text names p t cells cells' new new' r
    one-reads f {row} {list} h w o e l A =
        let made = one-cells t whole f w few short ∙ ap (λ (cs : List ℕ). f.width ∷ 1 ∷ cs) (sym e) in
        let ns = own t whole f w few short in
        let vs : words_in whole list ≡ words_at whole ns = ap (words_in whole) l ∙ own-words t whole f w few short in
        let long = ap length vs ∙ words_long whole ns in
        let numbers : (j : ℕ) → j < length ns → get_or A.numbers j 0 ≡ get_or (numbers_from words 0 (words_at whole ns)) j 0
        = λ j i. A.are j (omega (arith, long, words-many whole list)) ∙ ap (λ (us : Words). get_or (numbers_from words 0 us) j 0) vs in
        let asks = one-asks t whole f w few short words (predicate_in text p) p.width row A.numbers o made
        (omega (arith, words-many text names)) numbers in
        reads-by (record { cells = new_cells A.numbers row; new = new_ones (word_in whole) words list }) row
        (subst (λ (xs : List ℕ). Asks words (predicate_in text p) p.width t
        (record { cells = new_cells A.numbers row; new = new_ones (word_in whole) words xs })) (sym l) asks)
        (goal-new p.width A.numbers row) A.answers

    -- a goal of over 2,048 symbols
    one-long : (f : Fact) {cells new : List ℕ} {r : Result GoalTextSize Refusal} → length names ≤ most_names → Whole t whole (f ∷ [])
        → Ours (predicate_in text p) p.width whole f [] → most_names < length (symbols_of (f ∷ []))
        → goal_text_told r ≡ turned (refused reason.Length input.Goal 0)
        → Reads text names p t cells cells new new r
    one-long f h w o l e =
        let made = one-cells t whole f w few short in
        let row = drop 2 (table_cells whole (f ∷ [])) in
        let numbers = numbers_from words 0 (words_at whole (own t whole f w few short)) in
        let asks = one-asks t whole f w few short words (predicate_in text p) p.width row numbers o made
        (omega (arith, words-many text names)) (λ j i. refl) in
        let long : 32 < length (new_cells numbers row) = omega (arith, cells-many numbers row, ap length made, cells-long whole (f ∷ [])) in
        turns (goal.no-goal short asks (goal-long p.width (new_cells numbers row) long)) e

    -- by the facts that are counted
    counted-one : {c : Counted} {fs : List Fact} (C : Counts whole c) → c.facts ≡ 1 → Whole t whole fs
        → (f : Fact) × ((C.facts ≡ f ∷ []) × Whole t whole (f ∷ []))
    counted-one {c} {fs} C o w = by C.facts (unique whole (whole-text w) (counted-text C)) (C.number ∙ o) refl
      where
        by : (gs : List Fact) → fs ≡ gs → length gs ≡ 1 → C.facts ≡ gs → (f : Fact) × ((C.facts ≡ f ∷ []) × Whole t whole (f ∷ []))
        by [] k l e = absurd (omega arith)
        by (f ∷ []) k l e = (f, (e, subst (Whole t whole) k w))
        by (f ∷ g ∷ gs) k l e = absurd (omega arith)

    pub goal-reads : {c : Counted} {fs : List Fact} {row list cells cells' new new' : List ℕ} {r : Result GoalTextSize Refusal} (C : Counts whole c)
        → length names ≤ most_names → Whole t whole fs → Same text p whole s c → row ≡ drop 2 (table_cells whole C.facts)
        → list ≡ name_list whole C.facts → FactAsked text names p.width whole row list cells cells' new new' r
        → Reads text names p t cells cells' new new' r
    goal-reads C h w S e l A =
        let o = counted-one C S.one w in
        let q = o.1.0 in
        one-reads o.0 h o.1.1 (same-ours o.0 C q (whole-text o.1.1) S)
        (e ∙ ap (λ (gs : List Fact). drop 2 (table_cells whole gs)) q) (l ∙ ap (name_list whole) q) A

    pub long-reads : {c : Counted} {fs : List Fact} {cells new : List ℕ} {r : Result GoalTextSize Refusal} (C : Counts whole c) → length names ≤ most_names
        → Whole t whole fs
        → Same text p whole s c → most_names < c.symbols → goal_text_told r ≡ turned (refused reason.Length input.Goal 0)
        → Reads text names p t cells cells new new r
    long-reads C h w S l e =
        let o = counted-one C S.one w in
        let q = o.1.0 in
        let n = ap (λ (gs : List Fact). length (symbols_of gs)) q in
        one-long o.0 h o.1.1 (same-ours o.0 C q (whole-text o.1.1) S) (omega (arith, C.symbols, n)) e

-- 01'S ANSWER OF A GOAL
module _ (width : ℕ) (row : List ℕ) {r : Result GoalSize Refusal} (e : goal_told r ≡ goal_says row (goal_of width row)) where
  pub accepted-read : {s : GoalSize} → r ≡ Ok s → (u : ℕ) × (goal_of width row ≡ read u)
  accepted-read {s} q = by (goal_of width row) refl e
    where
      by : (o : Read ℕ) → goal_of width row ≡ o → goal_told r ≡ goal_says row o → (u : ℕ) × (goal_of width row ≡ read u)
      by (read u) i j = (u, i)
      by (refuse f) i j = absurd (let z : answered s.cells s.vars ≡ turned f = sym (ap goal_told q) ∙ j in let y : ◌≡◌ {A = ℕ} 0 1 = cc in omega arith)

  refused-read : {f : Refusal} → r ≡ Err f → goal_of width row ≡ refuse (told f)
  refused-read {f} q = by (goal_of width row) refl e
    where
      by : (o : Read ℕ) → goal_of width row ≡ o → goal_told r ≡ goal_says row o → goal_of width row ≡ refuse (told f)
      by (read u) i j =
          let z : turned (told f) ≡ answered (length row) u = sym (ap goal_told q) ∙ j in
          absurd (let y : ◌≡◌ {A = ℕ} 0 1 = cc in omega arith)
      by (refuse g) i j = i ∙ (let z : turned (told f) ≡ turned g = sym (ap goal_told q) ∙ j in cc)

pub goal-few : (width : ℕ) (row : List ℕ) {u : ℕ} → goal_of width row ≡ read u → length row ≤ 32
goal-few width row e = (is-goal width row e).0.head.short

-- A FACT'S GOAL, put into the rooms; or its refusal
module _ (text names : List ℕ) (width : ℕ) (whole row list : List ℕ) {g : Result GoalSize Refusal}
    (e : goal_told g ≡ goal_says row (goal_of width row)) where
  pub put-accepted : {size : GoalSize} {k : ℕ} {zeros numbers cells cells' new new' : List ℕ} → g ≡ Ok size → length list ≤ length row
      → length zeros ≡ 32 → length new ≡ 32 → NamesNumbered (words_in text names) whole list zeros numbers new new' k
      → cells' ≡ new_cells numbers row ++ drop (length row) cells
      → FactAsked text names width whole row list cells cells' new new' (Ok (record { cells = size.cells; names = k }))
  put-accepted {size} {k} {zeros} {numbers} {cells} {new = new} q l z m N w =
      let a = accepted-read width row e q in
      let few = goal-few width row a.1 in
      let news = new_ones (word_in whole) (words_in text names) list in
      let all = numbers_from (words_in text names) 0 (words_in whole list) in
      let long = numbers-long (words_in text names) 0 (words_in whole list) ∙ words-many whole list in
      let y : answered size.cells size.vars ≡ answered (length row) a.0 = sym (ap goal_told q) ∙ e ∙ ap (goal_says row) a.1 in
      let s : size.cells ≡ length row = cc in
      record {
        numbers = numbers;
        are = λ j i. ap (λ (ns : List ℕ). get_or ns j 0) N.are ∙ stored_at all zeros j (omega arith) (omega arith);
        answers =
            rw a.1
            (record {
              tells = ap₂ answered (s ∙ sym (cells-many numbers row)) N.many;
              wrote = w ∙ ap (λ (i : ℕ). new_cells numbers row ++ drop i cells) (sym (cells-many numbers row));
              listed = N.news ∙ stored-front news new (omega (arith, new-few (word_in whole) (words_in text names) list));
            });
      }

  pub put_refused : {f : Refusal} {cells new : List ℕ} → g ≡ Err f
      → FactAsked text names width whole row list cells cells new new (Err f)
  put_refused {f} q =
      record {
        numbers = numbers_from (words_in text names) 0 (words_in whole list);
        are = λ j i. refl;
        answers = rw (refused-read width row e q) (record { tells = refl; wrote = refl; listed = refl });
      }

-- WHAT IS MADE OF A GOAL'S TEXT: its cells and its names, before a place of their rooms
pub record MadeAt (t : List ℕ) (c : Counted) (made list : List ℕ) (s : TextSize) : Type 0 where
  pub counts : Counts t c
  pub within : (s.cells ≤ length made) × (s.names ≤ length list)
  pub cells : take s.cells made ≡ table_cells t counts.facts
  pub names : take s.names list ≡ name_list t counts.facts

module _ {t made list : List ℕ} where
  pub made-are : {made' list' : List ℕ} {c : Counted} {s : TextSize} → FactsAre t made list made' list' (Ok (facts-made.Made c s)) → MadeAt t c made' list' s
  made-are (are-made C h) =
      let cells = table_cells t C.facts in
      let names = name_list t C.facts in
      record {
        counts = C;
        within = (omega (arith, length-append cells (drop (length cells) made)), omega (arith, length-append names (drop (length names) list)));
        cells = take-append_seam cells (drop (length cells) made);
        names = take-append_seam names (drop (length names) list);
      }

  pub long-are : {made' list' : List ℕ} {c : Counted} → FactsAre t made list made' list' (Ok (facts-made.Long c)) → Counts t c × (most_names < c.symbols)
  long-are (entry.too_long C h) = (C, h)

  pub turned-are : {made' list' : List ℕ} (f : Refusal) → FactsAre t made list made' list' (Err f) → Taken t (refuse (told f))
  turned-are f (entry.not_taken x) = x

-- at least two cells, and the row behind them
module _ {t made list : List ℕ} {c : Counted} {s : TextSize} (M : MadeAt t c made list s) where
  abbrev facts : List Fact
  facts = M.counts.facts

  pub made-two : 2 ≤ s.cells
  made-two = omega (arith, length-take-le s.cells made M.within.0, ap length M.cells, cells-long t facts)

  pub made_row : take (s.cells - 2) (drop 2 made) ≡ drop 2 (table_cells t facts)
  made_row = part-is 2 s.cells made ∙ ap (drop 2) M.cells

  -- it has a cell for each symbol, and at most one name
  pub made-names : length (take s.names list) ≤ length (take (s.cells - 2) (drop 2 made))
  unfolding name_list
  made-names =
      let cells = ap length made_row ∙ length-drop 2 (table_cells t facts) in
      let names = ap length M.names ∙ length-map (names_of t facts) entry_of in
      omega (arith, cells, names, cells-long t facts, names-few t [] (symbols_of facts))
