-- What is answered, case by case: of what the reader of a goal gave in its two arrays, and of the two rooms.
use Prim.Native.Nat.{ℕ, ◌+◌, ◌≤◌, ◌<◌}
use mathlib.Core.Path.{◌≡◌, refl, sym, ap, ◌∙◌}
use mathlib.Core.List.{List, [], ◌∷◌}
use native.Mathlib.Omega.{arith}
use lib.ListN.{length, take, drop, length-append}
use lib.Seq.{take_at}
use Rattle.refusal.specs.Refusal.{Refused, refused, told, turned}
use Rattle.refusal.specs.Read.{Read, read, refuse}
use Rattle.refusal.specs.declared.Refusal.{Refusal}
use Rattle.refusal.specs.declared.Reason.TheVariants as reason
use Rattle.refusal.specs.declared.Input.TheVariants as input
use Rattle.table.proofs.Accepted.{is-goal}
use Rattle.grammar.specs.Grammar as G
use Rattle.grammar.specs.Grammar.{Fact, OneFact, Facts, Text}
use Rattle.grammar.proofs.LongLaws.{gap-place}
use Rattle.loading.specs.Load.{put_first}
use Rattle.octets.specs.Octets.{Put}
use Rattle.octets.proofs.PutLaws.{put_front}
use Rattle.termtext.specs.Goal as asking
use Rattle.termtext.specs.Goal.{Whole, NoGoal, Goal}
use Rattle.termtext.specs.declared.Predicate.{Predicate}
use Rattle.termtext.proofs.ListLaws.{new-fewer}
use Rattle.goaltext.specs.Asked.{PredicateIs, AskedAs, asked, goal_text_told, Answers, GoalAsked}
use Rattle.std.specs.Prelude.{Result, Ok, Err}
use Rattle.goaltext.specs.declared.GoalTextSize.{GoalTextSize}
use Rattle.goalroom.specs.Rooms.{GoalFits, not-read, no_cells, no_names, fits, GoalInto}

-- a goal that was read: it stands at the front of the two arrays
pub record Found (text names : List ℕ) (p : Predicate) (goal made list : List ℕ) (n k : ℕ) : Type 0 where
  pub is : Goal
  pub rule : AskedAs text names p goal (read is)
  pub cells : n ≡ length is.cells
  pub new : k ≡ length is.new
  pub first : take n made ≡ is.cells
  pub listed : take k list ≡ is.new
  pub inside : (n ≤ length made) × (k ≤ length list)

front-found : (xs room : List ℕ) {room' : List ℕ} {n : ℕ} → n ≡ length xs → room' ≡ put_first xs room
    → (take n room' ≡ xs) × (n ≤ length room')
front-found xs room {n = n} e f =
    (ap (take n) f ∙ take_at xs (drop (length xs) room) n (sym e), omega (arith, ap length f, length-append xs (drop (length xs) room)))

module _ {text names : List ℕ} {p : Predicate} {goal : List ℕ} {made made' list list' : List ℕ} {r : Result GoalTextSize Refusal} where
  pub found : {size : GoalTextSize} → GoalAsked text names p goal made made' list list' r → r ≡ Ok size
      → Found text names p goal made' list' size.cells size.names
  found {size} x e = by x.says x.rule x.answers
    where
      by : (o : Read Goal) → AskedAs text names p goal o → Answers o made made' list list' r
          → Found text names p goal made' list' size.cells size.names
      by (refuse f) a w = absurd (let t = w.tells in let z : ◌≡◌ {A = ℕ} 0 1 = cc in omega arith)
      by (read g) a w =
          let t = sym (ap goal_text_told e) ∙ w.tells in
          let c : size.cells ≡ length g.cells = cc in
          let m : size.names ≡ length g.new = cc in
          let u = front-found g.cells made c w.wrote in
          let v = front-found g.new list m w.listed in
          record { is = g; rule = a; cells = c; new = m; first = u.0; listed = v.0; inside = (u.1, v.1) }

  -- and one that was not
  pub is-refused : {cells new : List ℕ} {f : Refusal} → PredicateIs text p → GoalAsked text names p goal made made' list list' r
      → r ≡ Err f
      → GoalInto text names goal cells cells new new (Err f)
  is-refused {cells} {new} {f} q x e = by x.says x.rule x.answers
    where
      by : (o : Read Goal) → AskedAs text names p goal o → Answers o made made' list list' r
          → GoalInto text names goal cells cells new new (Err f)
      by (read g) a w = absurd (let t = w.tells in let z : ◌≡◌ {A = ℕ} 0 1 = cc in omega arith)
      by (refuse g) a w =
          let t : turned (told f) ≡ turned g = sym (ap goal_text_told e) ∙ w.tells in
          record { says = refuse g; rule = not-read q a; answers = record { tells = t; wrote = refl; listed = refl } }

-- the rooms
module _ {text names : List ℕ} {p : Predicate} {goal made list : List ℕ} {n k : ℕ} (q : PredicateIs text p) (x : Found text names p goal made list n k) where
  short : {cells new : List ℕ} {r : Result GoalTextSize Refusal} {need : ℕ} {f : Refused} → goal_text_told r ≡ turned (refused reason.Room input.Lent need)
      → f ≡ refused reason.Room input.Lent need → GoalFits text names goal (length cells) (length new) (refuse f)
      → GoalInto text names goal cells cells new new r
  short {f = f} t e w = record { says = refuse f; rule = w; answers = record { tells = t ∙ ap turned (sym e); wrote = refl; listed = refl } }

  pub short-cells : {cells new : List ℕ} {r : Result GoalTextSize Refusal} → length cells < n → goal_text_told r ≡ turned (refused reason.Room input.Lent n)
      → GoalInto text names goal cells cells new new r
  short-cells h t = short t (ap (λ (m : ℕ). refused reason.Room input.Lent m) (sym x.cells)) (no_cells q x.rule (omega (arith, x.cells)))

  pub short-names : {cells new : List ℕ} {r : Result GoalTextSize Refusal} → n ≤ length cells → length new < k → goal_text_told r ≡ turned (refused reason.Room input.Lent k)
      → GoalInto text names goal cells cells new new r
  short-names h l t =
      short t (ap (λ (m : ℕ). refused reason.Room input.Lent m) (sym x.new))
      (no_names q x.rule (omega (arith, x.cells)) (omega (arith, x.new)))

  pub given : {cells cells' new new' : List ℕ} {i j : ℕ} → n ≤ length cells → k ≤ length new → Put cells cells' 0 (take n made) i
      → Put new new' 0 (take k list) j
      → GoalInto text names goal cells cells' new new' (Ok (record { cells = n; names = k }))
  given {cells} {new = new} h l a b =
      let u = put_front (rw x.first at a) (omega (arith, x.cells)) in
      let v = put_front (rw x.listed at b) (omega (arith, x.new)) in
      record {
        says = read x.is;
        rule = fits q x.rule (omega (arith, x.cells)) (omega (arith, x.new));
        answers = record { tells = rw (x.cells, x.new); wrote = u.1; listed = v.1 };
      }

-- HOW LARGE what is answered can be: a goal has at most 32 cells, and no more new names than cells
pub asked-few : {text names : List ℕ} {p : Predicate} {goal : List ℕ} {g : Goal} → AskedAs text names p goal (read g)
    → (length g.cells ≤ 32) × (length g.new ≤ length g.cells)
asked-few {p = p} {g = g} (asked l (asking.is-goal b a e)) = ((is-goal p.width g.cells e).0.head.short, new-fewer a)

-- TEXT's place and that of the first fact lie in what is read
pub no-goal-within : {t : List ℕ} {k : ℕ} → NoGoal t k → k ≤ length t
no-goal-within (asking.at_byte h s) = omega arith
no-goal-within (asking.at-end s n) = omega arith

pub whole_long : {t whole : List ℕ} {fs : List Fact} → Whole t whole fs → length whole ≤ length t + 2
whole_long (asking.stopped x) = omega arith
whole_long {t} (asking.unstopped s x) = omega (arith, length-append t (10 ∷ 46 ∷ []))

pub first-within : {t : List ℕ} {f : Fact} {fs : List Fact} → Text t (f ∷ fs) → f.start ≤ length t
first-within {t} {f} {fs} x = by x.facts refl
  where
    one : {p q : ℕ} {xs ys : List ℕ} {h : Fact} → OneFact p xs q ys h → h.start ≡ p
    one (G.one e l a g) = refl

    by : {gs : List Fact} → Facts x.at x.rest gs → gs ≡ f ∷ fs → f.start ≤ length t
    by (G.last {f = h} o g) e = let z : h ≡ f = cc in omega (arith, ap (λ (y : Fact). y.start) z, one o, gap-place x.layout)
    by (G.more {f = h} o g l k) e = let z : h ≡ f = cc in omega (arith, ap (λ (y : Fact). y.start) z, one o, gap-place x.layout)
