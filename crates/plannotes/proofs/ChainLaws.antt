-- Single branches that lead from one state to the next, and the end of them.
use Prim.Native.Nat.{ℕ, suc, ◌+◌, ◌-◌, ◌*◌, ◌^◌, ◌≤◌, ◌<◌}
use mathlib.Core.Path.{◌≡◌, refl, sym, ◌∙◌, ap, ap₂}
use mathlib.Core.Logic.{◌≢◌, ◌⊎◌, inl, inr, ⊎_elim}
use mathlib.Core.Bool.{Bool, true, false, cond, ◌&&◌, true≢false}
use mathlib.Core.List.{List, [], ◌∷◌, ◌++◌, map, append-nil}
use native.Mathlib.Omega.{arith}
use lib.Dec.{eqb, ltb}
use borrow.Author.Tests.{ltb-true, ltb-false, eqb-true, eqb-false}
use lib.ListN.{length, get_or, set, take, drop, length-append}
use lib.Seq.{sets, slice, set-set, take-take, take-append_seam}
use Rattle.cell.specs.Cell.{arity}
use Rattle.term.proofs.Tests.{bool_cases}
use Rattle.term.proofs.Lists.{sets-sets, sets-found, set-sets, slice-take}
use Rattle.table.proofs.AllLaws.{all-++}
use Rattle.plan.specs.Runs.{Run, run}
use Rattle.plan.specs.Plans.{Branches, end, next, write, writes, branches, branches_in}
use Rattle.plan.specs.Notes.{Branch, branch, flag, repeats, below, notes, notes_in, word, cell_in}
use Rattle.plan.specs.code.Rows.{row_count}
use Rattle.plannotes.specs.code.Steps.{part_of, ended, finished, Low, Part, Ending, BranchMet, Begun}
use Rattle.plannotes.specs.code.Tree.{Ready, ReadyAt, notes_at, StateDone, BranchDone, One, Went, Followed}
use Rattle.plannotes.specs.declared.branch.Past.{Past}
use Rattle.plannotes.proofs.TreeLaws.{ReadyIn, Inside, inside, first_of, met, arity-is, number_is, number-low, number-cell, lower_of}
use Rattle.plannotes.proofs.TreeLaws.{words_count, done-long}
use Rattle.plannotes.proofs.AloneLaws.{flag_is, one_more, one-run, one-leaf, one-moved, finished-more, finished-length}

-- the number of a branch that has ended
word-is : (c s r l n : ℕ) (b : Bool) → word (branch c s r l n b) ≡ ended s (part_of c r n l) + cond b 1 0 * 2 ^ 63
unfolding word
word-is c s r l n b = omega arith

-- one more number
added : (l l' : List ℕ) (i j : ℕ) (xs : List ℕ) (y : ℕ) → l' ≡ sets l i xs → j ≡ i + length xs → set l' j y ≡ sets l i (xs ++ (y ∷ []))
added l l' i j xs y e q = rw (e, q) (sets-sets l i xs (y ∷ []))

-- what the code asks to see that a state has one branch
pub single-is : (k x : ℕ) (b : Bool) → b ≡ (ltb 0 k && eqb x 1) → b ≡ true → (0 < k) × (x ≡ 1)
single-is k x b e t = go (ltb 0 k) (eqb x 1) refl refl (sym e ∙ t)
  where
    go : (p q : Bool) → ltb 0 k ≡ p → eqb x 1 ≡ q → (p && q) ≡ true → (0 < k) × (x ≡ 1)
    go true true h l z = (ltb-true 0 k h, eqb-true x 1 l)
    go true false h l z = absurd (let y : ◌≡◌ {A = ℕ} 0 1 = cc in omega arith)
    go false q h l z = absurd (let y : ◌≡◌ {A = ℕ} 0 1 = cc in omega arith)

-- and that it has not: it is a leaf, or has another number of them
single-not : (k x : ℕ) → (ltb 0 k && eqb x 1) ≡ false → (k ≡ 0) ⊎ (x ≢ 1)
single-not k x e = go (ltb 0 k) (eqb x 1) refl refl e
  where
    go : (p q : Bool) → ltb 0 k ≡ p → eqb x 1 ≡ q → (p && q) ≡ false → (k ≡ 0) ⊎ (x ≢ 1)
    go true true h l z = absurd (true≢false z)
    go true false h l z = inr (eqb-false x 1 l)
    go false q h l z = inl (let o = ltb-false 0 k h in omega arith)

-- A state with one branch.
module _ {plan links noted : List ℕ} {at k made free row : ℕ} (w : Ready plan links noted at k made free row) where
  pub record Only : Type 0 where
    pub one : ReadyAt plan links noted (get_or plan at 0) (at + 2) k made free row
    pub same-notes : notes w.tree w.slots free row ≡ notes_at one.tree one.group.cell (get_or plan at 0) one.slots free row
    pub count : branches w.tree ≡ suc (branches one.tree)
    pub cells : length (write w.tree) ≡ 3 + length (write one.tree)
    pub rows : length w.rows ≡ length one.group.rows
    pub alone : (cs : List ℕ) → One one.group.rows cs → One w.rows (one.group.cell ∷ cs)

  only-by : {groups : List Run} (trees : Branches (k - 1) groups) → length groups ≡ 1
      → ReadyIn plan links noted w.slots (get_or plan at 0) (at + 2) k made free row trees
      → notes w.tree w.slots free row ≡ notes_in trees (get_or plan at 0) w.slots free row → branches w.tree ≡ branches_in trees
      → length (write w.tree) ≡ suc (suc (length (writes trees))) → length w.rows ≡ row_count groups
      → ((g : Run) (cs : List ℕ) → groups ≡ g ∷ [] → One g.rows cs → One w.rows (g.cell ∷ cs)) → Only
  unfolding notes branches write first_of
  only-by end e x n c l r o = absurd (omega arith)
  only-by (next {g = g} p end) e x n c l r o = record {
    one = first_of x;
    same-notes = n ∙ append-nil (notes_at p g.cell (get_or plan at 0) w.slots free row);
    count = omega arith;
    cells = omega (arith, length-append (write p) []);
    rows = omega arith;
    alone = λ cs. o g cs refl;
  }
  only-by (next p (next q bs)) e x n c l r o = absurd (omega arith)

  pub only : 0 < k → get_or plan (at + 1) 0 ≡ 1 → Only
  only l e = by (inside w l)
    where
      by : Inside w → Only
      by x =
          let z : k ≡ suc (k - 1) = omega arith in
          only-by x.trees (sym x.number ∙ e) x.within x.same-notes x.count x.cells x.rows
          (λ g cs q. one_more w.left x.index (k - 1) w.rows g cs (rw z at w.fit) x.index-low (sym x.are ∙ q))

  -- a state where single branches end: of one row nothing is left
  pub stopped : (ltb 0 k && eqb (get_or plan (at + 1) 0) 1) ≡ false → One w.rows []
  stopped e = ⊎_elim
      (λ z. one-leaf w.left w.rows (rw z at w.fit))
      (λ n. by n (bool_cases (ltb 0 k)))
      (single-not k (get_or plan (at + 1) 0) e)
    where
      by : get_or plan (at + 1) 0 ≢ 1 → (ltb 0 k ≡ true) ⊎ (ltb 0 k ≡ false) → One w.rows []
      by n (inl l) = let x = inside w (ltb-true 0 k l) in λ y q. absurd (n (x.number ∙ ap length x.are ∙ one-run x.index w.rows y q))
      by n (inr l) = let z : k ≡ 0 = (let o = ltb-false 0 k l in omega arith) in one-leaf w.left w.rows (rw z at w.fit)

-- Along single branches: so far none is passed, or one more.
module _ {plan links noted : List ℕ} {at k made free row : ℕ} (w : Ready plan links noted at k made free row) where
  pub went-none : Went w links noted at k made free
  unfolding finished
  went-none = record {
    lower = w;
    parts = [];
    low = tt;
    few = tt;
    wrote = refl;
    next = omega arith;
    whole = λ cs o. (o, refl);
    count = refl;
    same_rows = refl;
    after = refl;
    later = omega arith;
  }

  module _ {links' noted' : List ℕ} {at' k' made' free' : ℕ} (g : Went w links' noted' at' k' made' free') where
    went-by : (o : Only g.lower) → {links'' noted'' : List ℕ} {a : ℕ} → Begun (met o.one) links'' noted'' a
        → Went w links'' noted'' (at' + 3) (a + (k' - 1)) (made' + 1) (free' + a)
    unfolding lower_of
    went-by o {links''} {noted''} {a} b =
        let x = o.one in
        let c : ℕ = x.group.cell in
        let l : ℕ = get_or x.slots (get_or plan at' 0) 0 in
        let y : ℕ = part_of c row free' l in
        let q : at' + 3 ≡ at' + 2 + 1 = omega arith in
        let s : made' + 1 + branches x.tree ≡ made + branches w.tree = omega (arith, g.count, o.count) in
        let r : length x.group.rows ≡ length w.rows = sym o.rows ∙ g.same_rows in
        let S : ℕ = branches x.tree in
        let W : List ℕ = map word (notes x.tree (below (get_or plan at' 0) (arity c) free' x.slots) (free' + arity c) row) in
        let here : cell_in y ≡ c = number-cell x b in
        rw (q, arity-is x b)
        (record {
          lower = lower_of x b;
          parts = g.parts ++ (y ∷ []);
          low = all-++ Part g.parts (y ∷ []) g.low (number-low x b, tt);
          few = all-++ (λ (p : ℕ). Low (cell_in p)) g.parts (y ∷ []) g.few (rw here x.sound.cell, tt);
          wrote = number_is x b ∙ added noted noted' made made' g.parts y g.wrote g.next;
          next = omega (arith, g.next, length-append g.parts (y ∷ []));
          whole = λ cs u.
              let h = g.whole (cell_in y ∷ cs) (rw here (o.alone cs u)) in
              let f : flag (run c x.group.rows) ≡ repeats (cell_in y) cs = rw here (flag_is x.group cs x.sound.lone u) in
              let n : word (branch c S row l free' (flag (run c x.group.rows))) ≡ ended S y + cond (repeats (cell_in y) cs) 1 0 * 2 ^ 63 =
              word-is c S row l free' (flag (run c x.group.rows)) ∙ ap (λ (z : Bool). ended S y + cond z 1 0 * 2 ^ 63) f in (
                one-moved w.rows g.parts y cs h.0,
                h.1 ∙ ap (λ (t : List Branch). finished (branches g.lower.tree) g.parts (cell_in y ∷ cs) ++ map word t) o.same-notes
                    ∙ ap₂ (λ (s z : ℕ). finished s g.parts (cell_in y ∷ cs) ++ (z ∷ W)) o.count n ∙ finished-more S g.parts y cs W,
              );
          count = s;
          same_rows = r;
          after = omega (arith, g.after, o.cells);
          later = omega (arith, g.later);
        })

    pub went_on : 0 < k' → get_or plan (at' + 1) 0 ≡ 1 → {links'' noted'' : List ℕ} {a : ℕ}
        → ((x : BranchMet plan links' noted' (get_or plan at' 0) (at' + 2) made' free' row) → Begun x links'' noted'' a)
        → Went w links'' noted'' (at' + 3) (a + (k' - 1)) (made' + 1) (free' + a)
    went_on l e f = let o = only g.lower l e in went-by o (f (met o.one))

-- A branch and all below it: numbers that are written over, and the end.

-- the front of what was stored is found, and is stored over
front-found : (l l' A B : List ℕ) (i j : ℕ) → l' ≡ sets l i (A ++ B) → j ≡ i + length A → i + length (A ++ B) ≤ length l → slice i j l' ≡ A
front-found l l' A B i j e q h =
    let X = drop i (sets l i (A ++ B)) in
    rw (e, q)
    (slice-take i (length A) (sets l i (A ++ B))
    ∙ sym (take-take (length A) (length (A ++ B)) X (omega (arith, length-append A B)))
    ∙ ap (take (length A)) (sets-found l (A ++ B) i (length (A ++ B)) h refl)
    ∙ take-append_seam A B)

stored-over : (l : List ℕ) (i : ℕ) (A A' B : List ℕ) → length A' ≡ length A → sets (sets l i (A ++ B)) i A' ≡ sets l i (A' ++ B)
stored-over l i [] [] B e = refl
stored-over l i [] (a' ∷ A') B e = absurd (omega arith)
stored-over l i (a ∷ A) [] B e = absurd (omega arith)
stored-over l i (a ∷ A) (a' ∷ A') B e =
    ap (λ (x : List ℕ). sets x (suc i) A') (set-sets (set l i a) i (suc i) a' (A ++ B) (omega arith)
    ∙ ap (λ (x : List ℕ). sets x (suc i) (A ++ B)) (set-set l i a a'))
    ∙ stored-over (set l i a') (suc i) A A' B (omega arith)

-- three stores one after another
all-stored : (l l₁ l₂ l₃ : List ℕ) (i j y : ℕ) (ps W : List ℕ) → l₁ ≡ set l i y → l₂ ≡ sets l₁ (i + 1) ps → j ≡ i + 1 + length ps → l₃ ≡ sets l₂ j W
    → l₃ ≡ sets l i ((y ∷ ps) ++ W)
all-stored l l₁ l₂ l₃ i j y ps W e₁ e₂ q e₃ =
    let z : i + 1 ≡ suc i = omega arith in
    e₃ ∙ rw (e₂, e₁, q, z) (sets-sets (set l i y) (suc i) ps W)

module _ {plan links noted : List ℕ} {i place k made free row : ℕ} (w : ReadyAt plan links noted i place k made free row)
    {links₁ noted₁ : List ℕ} {a : ℕ} (b : Begun (met w) links₁ noted₁ a) where
  -- the state below it, with the number of arguments that the code counts
  pub under : Ready plan links₁ noted₁ (place + 1) (a + (k - 1)) (made + 1) (free + a) row
  under = rw (arity-is w b) (lower_of w b)

  module _ {links₂ noted₂ : List ℕ} {at' k' made' free' : ℕ}
      (f : (v : Ready plan links₁ noted₁ (place + 1) (a + (k - 1)) (made + 1) (free + a) row) → Followed v links₂ noted₂ at' k' made' free') where
    followed : Followed (lower_of w b) links₂ noted₂ at' k' made' free'
    followed = (rw (arity-is w b) at f) (lower_of w b)

    -- the state that single branches lead to
    pub went : Went (lower_of w b) links₂ noted₂ at' k' made' free'
    went = followed.went

    module _ {noted₃ : List ℕ} {p : Past} (d : StateDone went.lower noted₃ p) where
      abbrev y : ℕ
      y = part_of w.group.cell row free (get_or w.slots i 0)

      abbrev W : List ℕ
      W = map word (notes went.lower.tree went.lower.slots free' row)

      stored : noted₃ ≡ sets noted made ((y ∷ went.parts) ++ W)
      stored = all-stored noted noted₁ noted₂ noted₃ made made' y went.parts W (number_is w b) went.wrote went.next d.wrote

      skip_is : p.made ≡ made + 1 + branches w.tree
      unfolding lower_of
      skip_is = d.next ∙ went.count

      rows_are : p.row ≡ row + length w.group.rows
      unfolding lower_of
      rows_are = d.has ∙ ap (λ (n : ℕ). row + n) went.same_rows

      words-fit : made + length ((y ∷ went.parts) ++ W) ≤ length noted
      words-fit =
          omega (arith, length-append went.parts W, words_count went.lower.tree went.lower.slots free' row, went.lower.room, went.next, w.array)

      sliced : slice made made' noted₃ ≡ y ∷ went.parts
      sliced = front-found noted noted₃ (y ∷ went.parts) W made made' stored (omega (arith, went.next)) words-fit

      pub ending : Ending noted₃ made made' p.made
      ending = record {
        up = omega (arith, went.next);
        on = omega (arith, d.next);
        few = omega (arith, skip_is, w.room);
        parts = rw sliced (number-low w b, went.low);
        low = rw sliced (rw (number-cell w b) w.sound.cell, went.few);
        size = done-long d ∙ went.lower.array;
      }

      pub branch-done : {noted₄ : List ℕ} → noted₄ ≡ sets noted₃ made (finished (p.made - made') (slice made made' noted₃) []) → BranchDone w noted₄ p
      unfolding lower_of finished went
      branch-done {noted₄} e =
          let c : ℕ = w.group.cell in
          let s : ℕ = branches went.lower.tree in
          let over : p.made - made' ≡ s = omega (arith, d.next) in
          let all : branches w.tree ≡ length went.parts + s = omega (arith, went.next, went.count) in
          let X : List ℕ = finished s (y ∷ went.parts) [] in
          let h = went.whole [] followed.ends in
          let f : flag (run c w.group.rows) ≡ repeats (cell_in y) (map cell_in went.parts ++ []) =
          rw (number-cell w b) (flag_is w.group (map cell_in went.parts ++ []) w.sound.lone h.0) in
          let n : map word (notes_at w.tree c i w.slots free row) ≡ X ++ W =
          ap₂ (λ (x : ℕ) (xs : List ℕ). x ∷ xs) (word-is c (branches w.tree) row (get_or w.slots i 0) free (flag (run c w.group.rows))
          ∙ rw (f, all) refl) h.1 in
          let z : noted₄ ≡ sets noted₃ made X = rw (over, sliced) at e in
          record {
            wrote = z ∙ rw stored (stored-over noted made (y ∷ went.parts) X W (finished-length s (y ∷ went.parts) [])) ∙ ap (sets noted made) (sym n);
            after = omega (arith, d.after, went.after);
            next = omega (arith, skip_is);
            has = rows_are;
          }
