-- The list of a goal's new names: what its numbers say of the goal's own bytes.
use Prim.Native.Nat.{ℕ, suc, ◌+◌, ◌%◌, ◌/◌, ◌≤◌, ◌<◌}
use mathlib.Core.Path.{◌≡◌, refl, sym, ap, ap₂, subst, ◌∙◌}
use mathlib.Core.List.{List, [], ◌∷◌, ◌++◌, map}
use native.Mathlib.Omega.{arith}
use lib.ListN.{length, drop, length-map}
use lib.Seq.{slice, take-append-le}
use Rattle.grammar.specs.Grammar.{Symbol, Fact}
use Rattle.grammar.specs.Meaning.{Place, bytes_at, entry_of}
use Rattle.grammar.specs.Numbering as numbering
use Rattle.grammar.specs.Numbering.{Words, Nth, First, words_at, Firsts, NumberedRow}
use Rattle.grammar.proofs.FirstLaws.{firsts-first}
use Rattle.termtext.specs.Saying.{word_in, words_in}
use Rattle.termtext.specs.Goal.{Whole, stopped, unstopped, Goal, Asks}
use Rattle.termtext.proofs.LieLaws.{AllLie, goal-lies}
use Rattle.limits.specs.Limits.{most_goal_bytes}

-- places that lie within so many bytes
abbrev pub AllIn : ℕ → List Place → Type 0
AllIn n [] = Unit {0}
AllIn n (w ∷ ws) = (w.start ≤ w.end) × (w.end ≤ n) × AllIn n ws

pub firsts-in : (t : List ℕ) {met : Words} {ss : List Symbol} {ns : List Place} (n : ℕ) → AllLie n ss → Firsts t met ss ns → AllIn n ns
firsts-in t n l numbering.none = tt
firsts-in t n l (numbering.first h f) = (l.0.0, l.0.1, firsts-in t n l.1 f)
firsts-in t n l (numbering.again h f) = firsts-in t n l.1 f
firsts-in t n l (numbering.a-variable f) = firsts-in t n l.1 f
firsts-in t n l (numbering.a-number f) = firsts-in t n l.1 f

-- a place's number says its word, and the list says the words
pub entry-word : (t : List ℕ) (w : Place) → w.start ≤ w.end → w.start < 65536 → word_in t (entry_of w) ≡ bytes_at t w
entry-word t w l h =
    let a : entry_of w % 65536 ≡ w.start = omega arith in
    let b : entry_of w % 65536 + entry_of w / 65536 ≡ w.end = omega arith in
    ap₂ (λ (x y : ℕ). slice x y t) a b

pub listed-words : (t : List ℕ) (n : ℕ) (ns : List Place) → n < 65536 → AllIn n ns → words_in t (map entry_of ns) ≡ words_at t ns
listed-words t n [] h l = refl
listed-words t n (w ∷ ns) h l = ap₂ ◌∷◌ (entry-word t w l.0 (omega arith)) (listed-words t n ns h l.2)

-- at most one for each cell
firsts-few : (t : List ℕ) {met : Words} {ss : List Symbol} {ns : List Place} → Firsts t met ss ns → length ns ≤ length ss
firsts-few t numbering.none = omega arith
firsts-few t (numbering.first h f) = omega (arith, firsts-few t f)
firsts-few t (numbering.again h f) = omega (arith, firsts-few t f)
firsts-few t (numbering.a-variable f) = omega (arith, firsts-few t f)
firsts-few t (numbering.a-number f) = omega (arith, firsts-few t f)

row-long : (t : List ℕ) {words met : Words} {ss : List Symbol} {cs : List ℕ} → NumberedRow t words met ss cs → length cs ≡ length ss
row-long t numbering.none = refl
row-long t (numbering.a-name h c r) = ap suc (row-long t r)
row-long t (numbering.a-number c r) = ap suc (row-long t r)
row-long t (numbering.unnamed u c r) = ap suc (row-long t r)
row-long t (numbering.first n c r) = ap suc (row-long t r)
row-long t (numbering.again n h c r) = ap suc (row-long t r)

pub new-fewer : {words : Words} {predicate : List ℕ} {width : ℕ} {t : List ℕ} {goal : Goal} → Asks words predicate width t goal
    → length goal.new ≤ length goal.cells
new-fewer A =
    let n = A.numbered in
    omega (arith, ap length n.listed ∙ length-map n.places entry_of, firsts-few A.whole n.firsts, row-long A.whole n.row)

-- the words at places in the goal's own bytes are the goal's
own-words : {t whole : List ℕ} {fs : List Fact} (ns : List Place) → Whole t whole fs → AllIn (length t) ns → words_at whole ns ≡ words_at t ns
own-words [] w l = refl
own-words (n ∷ ns) (stopped x) l = refl
own-words {t} (n ∷ ns) (unstopped s x) l =
    ap₂ ◌∷◌ (ap (drop n.start) (take-append-le n.end t (10 ∷ 46 ∷ []) l.1)) (own-words ns (unstopped s x) l.2)

module _ {words : Words} {predicate : List ℕ} {width : ℕ} {t : List ℕ} {goal : Goal} (A : Asks words predicate width t goal)
    (short : length t ≤ most_goal_bytes) where
  -- THE LIST SAYS THE NEW NAMES' WORDS, of the goal's own bytes
  pub new-words : words_in t goal.new ≡ words_at A.whole A.numbered.places
  new-words =
      let l = firsts-in A.whole (length t) (goal-lies A.text) A.numbered.firsts in
      ap (words_in t) A.numbered.listed ∙ listed-words t (length t) A.numbered.places (omega arith) l
      ∙ sym (own-words A.numbered.places A.text l)

  -- "names that the table does not have .. fit no name of it": they are numbered on from the table's, and none of these is equal
  pub new_apart : {i : ℕ} {w : List ℕ} → Nth (words_in t goal.new) i w → First (words ++ words_in t goal.new) (length words + i) w
  new_apart {i} {w} h =
      subst (λ (ws : Words). First (words ++ ws) (length words + i) w) (sym new-words)
      (firsts-first A.whole A.numbered.firsts (subst (λ (ws : Words). Nth ws i w) new-words h))
