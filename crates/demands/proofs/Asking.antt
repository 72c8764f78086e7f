-- The request "ask" of what its two entries promise: `GoalTextCoded` for dudowiej_read_goal_text, `AnswerCoded` for dudowiej_put_answer (crate
-- dudowiej). The statements are in specs/Asking.
use Prim.Native.Nat.{ℕ, ◌+◌, ◌≤◌, ◌<◌}
use mathlib.Core.Path.{◌≡◌, refl, sym, ap, ap₂, subst, ◌∙◌}
use mathlib.Core.Logic.{◌↔◌, by_cases}
use mathlib.Core.List.Memᴰ
use mathlib.Core.List.{List, [], ◌∷◌, ◌++◌}
use native.Mathlib.Decide.{dec_lt}
use native.Mathlib.Omega.{arith}
use lib.ListN.{length, take, drop}
use lib.Seq.{take_at}
use Rattle.std.specs.Prelude.{Result}
use Rattle.refusal.specs.declared.Refusal.{Refusal}
use Rattle.refusal.specs.Refusal.{Refused, refused, Answer, answered, turned}
use Rattle.refusal.specs.Read.{Read, read, refuse}
use Rattle.refusal.specs.Coded.{decoded}
use Rattle.refusal.specs.declared.Reason.TheVariants as reason
use Rattle.refusal.specs.declared.Input.TheVariants as input
use Rattle.table.proofs.Accepted.{goal-accepted}
use Rattle.grammar.specs.Grammar.{Fact}
use Rattle.grammar.specs.Taken.{Taken}
use Rattle.grammar.specs.Numbering.{Nth, First}
use Rattle.grammar.proofs.Sizes.{text-wide}
use Rattle.loading.specs.Load.{put_first}
use Rattle.termtext.specs.declared.Predicate.{Predicate}
use Rattle.termtext.specs.Saying.{words_in, words_of, predicate_in, said_in}
use Rattle.termtext.specs.Goal as asking
use Rattle.termtext.specs.Goal.{Whole, Ours, Goal, GoalRead}
use Rattle.termtext.proofs.ListLaws.{new_apart, new-fewer}
use Rattle.goaltext.specs.Asked as goaltext
use Rattle.goaltext.specs.Asked.{PredicateIs, AskedAs, said, goal_cells, new_of}
use Rattle.goaltext.specs.declared.GoalTextSize.{GoalTextSize}
use Rattle.goaltext.proofs.AskedLaws.{whole-text}
use Rattle.goaltext.proofs.Fixed.{predicate-of-fixed}
use Rattle.goalroom.specs.Rooms as rooms
use Rattle.goalroom.specs.Rooms.{GoalFits, GoalInto}
use Rattle.goalroom.proofs.Fixed.{fits-is, fits_one}
use Rattle.answerroom.specs.Room as into
use Rattle.answerroom.specs.Room.{answer_told, AnswerInto}
use Rattle.answerroom.specs.declared.AnswerTextSize.{AnswerTextSize}
use Rattle.replyback.proofs.ReplyBack.{replies-back}
use Rattle.dudowiej.specs.Coded.{GoalTextCoded, AnswerCoded}
use Rattle.dudowiej.proofs.Back.{goal-text-back, answer_back}
use Rattle.demands.specs.Asking.{IsAsked, Roomy, Gives, GoalTurned, ReadsGoal, AnswerTurned, PutsAnswer, ReadsBack}
use Rattle.demands.specs.Asking as asks
use Rattle.demands.proofs.Cited.{clash, turned-one, answered-one}
use Rattle.limits.specs.Limits.{most_reply_cells}

-- A GOAL

-- of a list at the front of a room, what is taken
front-one : (xs ys room : List ℕ) {room' : List ℕ} → length xs ≡ length ys → room' ≡ put_first xs room → room' ≡ put_first ys room → xs ≡ ys
front-one xs ys room l e f =
    sym (take_at xs (drop (length xs) room) (length xs) refl)
    ∙ ap (take (length xs)) (sym e ∙ f)
    ∙ take_at ys (drop (length ys) room) (length xs) (sym l)

same-goal : (a b : Goal) → a.cells ≡ b.cells → a.new ≡ b.new → a ≡ b
same-goal a b e f = ap₂ (λ (x y : List ℕ). record { cells = x; new = y }) e f

says-turned : (o : Read Goal) (f : Refused) → said o ≡ turned f → o ≡ refuse f
says-turned (read g) f e = clash e
says-turned (refuse g) f e = ap refuse (turned-one e)

-- every fact has arguments, so that none is of no predicate
none-ours : {predicate t whole : List ℕ} {f : Fact} {fs : List Fact} → Whole t whole (f ∷ fs) → Ours predicate 0 whole f fs → ⊥
none-ours w o = let n = text-wide (whole-text w) (Memᴰ.head refl) in omega (arith, o.wide)

module _ {text names t : List ℕ} where
  -- a goal, as the promise has it and as the request says it
  asked_is : {p : Predicate} {goal : Goal} → PredicateIs text p → AskedAs text names p t (read goal) → IsAsked text names t goal
  asked_is {p} {goal} q (goaltext.asked l (asking.is-goal b a e)) =
      record { p = p; predicate = q; listed = l; bytes = b; asks = a; is-goal = (goal-accepted p.width goal.cells).0 (_, e) }

  is-asked : {goal : Goal} (i : IsAsked text names t goal) → AskedAs text names i.p t (read goal)
  is-asked {goal} i =
      let v = (goal-accepted i.p.width goal.cells).1 i.is-goal in
      goaltext.asked i.listed (asking.is-goal i.bytes i.asks v.1)

  -- the refusals likewise
  module _ {cells new : List ℕ} where
    turned_as : {f : Refused} → GoalFits text names t (length cells) (length new) (refuse f) → GoalTurned text names t cells new f
    turned_as (rooms.not-read q a) = by q a
      where
        by : {p : Predicate} {g : Refused} → PredicateIs text p → AskedAs text names p t (refuse g) → GoalTurned text names t cells new g
        by q (goaltext.too_many h) = asks.too_many h
        by q (goaltext.asked l (asking.too_long h)) = asks.bytes l h
        by q (goaltext.asked l (asking.no_text {k = k} h n)) = asks.no_text k l h n
        by {p} q (goaltext.asked l (asking.other {whole = whole} {f = f} {fs = fs} h w n)) = asks.other p whole f fs l h q w n
        by {p} {g} q (goaltext.asked l (asking.no-goal {goal = goal} h a e)) = asks.no-goal p goal g l h q a e
    turned_as (rooms.no_cells {g = g} q a l) = asks.no_cells g (asked_is q a) l
    turned_as (rooms.no_names {g = g} q a l m) = asks.no_names g (asked_is q a) l m

    turned_by : {p : Predicate} {f : Refused} → PredicateIs text p → GoalTurned text names t cells new f
        → GoalFits text names t (length cells) (length new) (refuse f)
    turned_by q (asks.too_many h) = rooms.not-read q (goaltext.too_many h)
    turned_by q (asks.bytes l h) = rooms.not-read q (goaltext.asked l (asking.too_long h))
    turned_by q (asks.no_text k l h n) = rooms.not-read q (goaltext.asked l (asking.no_text h n))
    turned_by q (asks.other p whole f fs l h r w n) = rooms.not-read r (goaltext.asked l (asking.other h w n))
    turned_by q (asks.no-goal p goal f l h r a e) = rooms.not-read r (goaltext.asked l (asking.no-goal h a e))
    turned_by q (asks.no_cells goal i l) = rooms.no_cells i.predicate (is-asked i) l
    turned_by q (asks.no_names goal i l m) = rooms.no_names i.predicate (is-asked i) l m

  -- what is answered, of a goal and its rooms
  module _ {cells cells' new new' : List ℕ} {r : Result GoalTextSize Refusal} (x : GoalInto text names t cells cells' new new' r) where
    abbrev answer : Answer
    answer = goaltext.goal_text_told r

    says : {o : Read Goal} → GoalFits text names t (length cells) (length new) o → x.says ≡ o
    says l = fits_one x.rule l

    given : (goal : Goal) → x.says ≡ read goal → Gives goal cells cells' new new' answer
    given goal e = record {
      tells = x.answers.tells ∙ ap said e;
      wrote = x.answers.wrote ∙ ap (λ (o : Read Goal). put_first (goal_cells o) cells) e;
      listed = x.answers.listed ∙ ap (λ (o : Read Goal). put_first (new_of o) new) e;
    }

    gives : (goal : Goal) → Gives goal cells cells' new new' answer → IsAsked text names t goal × Roomy goal cells new
    gives goal g = by x.says refl x.rule
      where
        same : (G : Goal) → x.says ≡ read G → G ≡ goal
        same G e =
            let w = given G e in
            let l = answered-one (sym w.tells ∙ g.tells) in
            same-goal G goal (front-one G.cells goal.cells cells l.0 w.wrote g.wrote)
            (front-one G.new goal.new new l.1 w.listed g.listed)

        by : (o : Read Goal) → x.says ≡ o → GoalFits text names t (length cells) (length new) o → IsAsked text names t goal × Roomy goal cells new
        by (refuse f) e k = clash (sym g.tells ∙ x.answers.tells ∙ ap said e)
        by (read G) e (rooms.fits q a l m) =
            subst (λ (h : Goal). IsAsked text names t h × Roomy h cells new) (same G e) (asked_is q a, record { holds = l; lists = m })

    turns : (f : Refused) → (answer ≡ turned f) ↔ GoalTurned text names t cells new f
    turns f = (
      λ e. turned_as (subst (GoalFits text names t (length cells) (length new)) (says-turned x.says f (sym x.answers.tells ∙ e)) x.rule),
      λ k. x.answers.tells ∙ ap said (says (turned_by (fits-is x.rule).is k)),
    )

    -- ROOM, of a goal: the first room that it does not fit
    short : (goal : Goal) (place : ℕ) → IsAsked text names t goal → answer ≡ turned (refused reason.Room input.Lent place)
        → (length cells < place → place ≡ length goal.cells) × (place ≤ length cells → place ≡ length goal.new)
    short goal place i e =
        by_cases (dec_lt (length cells) (length goal.cells))
        (λ (l : length cells < length goal.cells).
        let z = placed (rooms.no_cells i.predicate (is-asked i) l) in
        (λ (h : length cells < place). omega arith, λ (h : place ≤ length cells). absurd (omega arith)))
        (λ l. by_cases (dec_lt (length new) (length goal.new))
        (λ (m : length new < length goal.new).
        let z = placed (rooms.no_names i.predicate (is-asked i) (omega arith) m) in
        let n = new-fewer i.asks in
        (λ (h : length cells < place). absurd (omega arith), λ (h : place ≤ length cells). omega arith))
        (λ m. clash (told (rooms.fits i.predicate (is-asked i) (omega arith) (omega arith)))))
      where
        told : {o : Read Goal} → GoalFits text names t (length cells) (length new) o → said o ≡ turned (refused reason.Room input.Lent place)
        told k = ap said (sym (says k)) ∙ sym x.answers.tells ∙ e

        placed : {n : ℕ} → GoalFits text names t (length cells) (length new) (refuse (refused reason.Room input.Lent n)) → n ≡ place
        placed k = ap (λ (f : Refused). f.place) (turned-one (told k))

    pub reads-goal : ReadsGoal text names t cells cells' new new' answer
    reads-goal = record {
      accepts = λ goal. (gives goal, λ k. given goal (says (rooms.fits k.0.predicate (is-asked k.0) k.1.holds k.1.lists)));
      refuses = turns;
      untouched = λ f e.
          let q = says-turned x.says f (sym x.answers.tells ∙ e) in (
            x.answers.wrote ∙ ap (λ (o : Read Goal). put_first (goal_cells o) cells) q,
            x.answers.listed ∙ ap (λ (o : Read Goal). put_first (new_of o) new) q,
          );
      room = short;
      none = λ g whole f fs k l h w.
          (turns (refused reason.Other input.Text f.start)).1 (asks.other _ whole f fs l h (goaltext.none k) w (λ o. none-ours w o));
    }

pub ask-goal : {text names t cells cells' new new' : List ℕ} {n : ℕ} → GoalTextCoded text names t cells cells' new new' n
    → ReadsGoal text names t cells cells' new new' (decoded n)
ask-goal {text} {names} {t} {cells} {cells'} {new} {new'} x =
    subst (ReadsGoal text names t cells cells' new new') (sym (goal-text-back x)) (reads-goal x.into)

-- "names that the table does not have are sound and fit no name of it": the k-th of them has the number after the table's names and the k new
-- ones before it, and no word of the table's is equal to it
pub ask-new : {text names t : List ℕ} {goal : Goal} → IsAsked text names t goal → {k : ℕ} {w : List ℕ}
    → Nth (words_in t goal.new) k w → First (words_of text names t goal.new) (length (words_in text names) + k) w
ask-new i = new_apart i.asks i.bytes

-- AN ANSWER

-- the text by any predicate that is the facts'
same-said : (names goal new cells : List ℕ) {text : List ℕ} {p q : Predicate} → PredicateIs text p → PredicateIs text q
    → said_in text names goal new p cells ≡ said_in text names goal new q cells
same-said names goal new cells {text} a b = ap (λ (p : Predicate). said_in text names goal new p cells) (predicate-of-fixed a b)

module _ {text names goal new cells room room' : List ℕ} {r : Result AnswerTextSize Refusal} where
  said-there : AnswerInto text names goal new cells room room' r → (p : Predicate) → length cells ≤ most_reply_cells → PredicateIs text p
      → length (said_in text names goal new p cells) ≤ length room
      → (answer_told r ≡ answered (length cells) (length (said_in text names goal new p cells)))
      × (room' ≡ put_first (said_in text names goal new p cells) room)
  said-there (into.too-big h e f) p k a l = absurd (omega arith)
  said-there (into.no_room q h b m e f) p k a l = absurd (omega (arith, ap length (same-said names goal new cells a b)))
  said-there (into.is_said q h b m e f) p k a l =
      let z = same-said names goal new cells b a in
      (e ∙ ap (λ (s : List ℕ). answered (length cells) (length s)) z, f ∙ ap (λ (s : List ℕ). put_first s room) z)

  answer-turned : AnswerInto text names goal new cells room room' r → (f : Refused)
      → (answer_told r ≡ turned f) ↔ AnswerTurned text names goal new cells room f
  answer-turned x f = (from x, to x)
    where
      from : AnswerInto text names goal new cells room room' r → answer_told r ≡ turned f → AnswerTurned text names goal new cells room f
      from (into.too-big h e g) z = subst (AnswerTurned text names goal new cells room) (turned-one (sym e ∙ z)) (asks.big h)
      from (into.no_room p h a l e g) z = subst (AnswerTurned text names goal new cells room) (turned-one (sym e ∙ z)) (asks.no_room p h a l)
      from (into.is_said p h a l e g) z = clash (sym e ∙ z)

      to : AnswerInto text names goal new cells room room' r → {g : Refused} → AnswerTurned text names goal new cells room g → answer_told r ≡ turned g
      to (into.too-big h e g) (asks.big k) = e
      to (into.too-big h e g) (asks.no_room q k b m) = absurd (omega arith)
      to (into.no_room p h a l e g) (asks.big k) = absurd (omega arith)
      to (into.no_room p h a l e g) (asks.no_room q k b m) =
          e ∙ ap (λ (s : List ℕ). turned (refused reason.Room input.Lent (length s))) (same-said names goal new cells a b)
      to (into.is_said p h a l e g) (asks.big k) = absurd (omega arith)
      to (into.is_said p h a l e g) (asks.no_room q k b m) = absurd (omega (arith, ap length (same-said names goal new cells a b)))

  kept : AnswerInto text names goal new cells room room' r → (f : Refused) → answer_told r ≡ turned f → room' ≡ room
  kept (into.too-big h e g) f z = g
  kept (into.no_room p h a l e g) f z = g
  kept (into.is_said p h a l e g) f z = clash (sym e ∙ z)

  -- what is answered is the text
  said-found : AnswerInto text names goal new cells room room' r → {p : Predicate} → PredicateIs text p → (k n : ℕ) → answer_told r ≡ answered k n
      → take n room' ≡ said_in text names goal new p cells
  said-found (into.too-big h e g) a k n z = clash (sym z ∙ e)
  said-found (into.no_room p h b l e g) a k n z = clash (sym z ∙ e)
  said-found (into.is_said q h b l e g) a k n z =
      let s = said_in text names goal new q cells in
      let m = (answered-one (sym e ∙ z)).1 in
      ap (take n) g ∙ take_at s (drop (length s) room) n m ∙ same-said names goal new cells b a

pub ask-answer : {text names goal new cells room room' : List ℕ} {n : ℕ} → AnswerCoded text names goal new cells room room' n
    → PutsAnswer text names goal new cells room room' (decoded n)
ask-answer {text} {names} {goal} {new} {cells} {room} {room'} x =
    subst (PutsAnswer text names goal new cells room room') (sym (answer_back x))
    (record { says = said-there x.into; refuses = answer-turned x.into; untouched = kept x.into })

pub ask-back : {text names goal new cells room room' : List ℕ} {n : ℕ} → AnswerCoded text names goal new cells room room' n
    → ReadsBack text names goal new cells room' (decoded n)
ask-back {text} {names} {goal} x c k L T p G all l n e q g m rs i s said bytes a H =
    let g' = subst (λ (ns : List ℕ). GoalRead (words_in text ns) (predicate_in text p) p.width goal (read G)) n g in
    rw (said-found x.into q said bytes (sym (answer_back x) ∙ a), n, m) (replies-back p l e g' rs i s H)
