-- The replies to a list of goals (specs/ReplyShift), proved of what the entry promises: `ReplyJobsRun t p cells room room' jobs jobs' answer`.
use Rattle.std.specs.Prelude.{Result, Ok}
use Rattle.instance.specs.declared.ReplyCounts.{ReplyCounts}
use Rattle.answer.specs.declared.RunCounts.{RunCounts}
use Rattle.refusal.specs.declared.Refusal.{Refusal}
use Prim.Native.Nat.{ℕ, ◌+◌, ◌≤◌, ◌<◌}
use mathlib.Core.Path.{◌≡◌, refl, sym, ◌∙◌, ap, ap₂, subst}
use mathlib.Core.Logic.{◌↔◌}
use mathlib.Core.List.{List, [], ◌∷◌, ◌++◌, flatten, append-nil, append_assoc}
use native.Mathlib.Omega.{arith}
use lib.ListN.{length, take, drop, replicate, length-append}
use lib.Seq.{take-append_seam, drop-append_seam, drop-drop}
use Rattle.refusal.specs.Refusal.{Refused, Answer, answered, turned}
use Rattle.refusal.specs.Read.{read, refuse}
use Rattle.refusal.specs.Coded.{decoded}
use Rattle.table.proofs.ReadLaws.{apart}
use Rattle.plan.specs.Check.{plan_of}
use Rattle.checker.specs.Checked.{plan_says}
use Rattle.answer.specs.declared.Job.{Job}
use Rattle.answer.specs.Run.{Ran}
use Rattle.answer.specs.Jobs.{bits_of, entered, Asked}
use Rattle.answer.specs.Jobs as jobs
use Rattle.answer.proofs.Fixed.{run-fixed}
use Rattle.instance.specs.declared.ReplyJob.{ReplyJob}
use Rattle.instance.specs.Replied.{Replied, replies_told}
use Rattle.instance.specs.Replied as entry
use Rattle.instance.specs.ReplyJobs.{reply_filled, declined, goal_of_job, ReplyAsked, outside, refused, replied, RepliesEach, ReplyJobsRun, refusal, asked}
use Rattle.instance.specs.ReplyJobs as list
use Rattle.instance.proofs.Fixed.{replied-fixed}
use Rattle.replyjobs.proofs.Fixed.{reply-jobs-told}
use Rattle.dudowiej.specs.Coded.{ReplyJobsCoded}
use Rattle.dudowiej.proofs.Back.{reply-jobs-back}
use Rattle.demands.specs.ReplyShift.{Declined, ReplyAnswered, OneReply, InTurn, nil, cons, ListReplied, ReplyShift}
use Rattle.demands.proofs.Cited.{clash, turned-one, answered-one, plan-kept}

-- What a record holds.
declines : (j : ReplyJob) {k : ReplyJob} {n p : ℕ} → k ≡ declined j n p → Declined k n p
declines j e = record {
  number_is = ap (λ (x : ReplyJob). x.number) e;
  place_is = ap (λ (x : ReplyJob). x.place) e;
  at_zero = ap (λ (x : ReplyJob). x.at) e;
  replies-zero = ap (λ (x : ReplyJob). x.replies) e;
  cells-zero = ap (λ (x : ReplyJob). x.cells) e;
  hits-zero = ap (λ (x : ReplyJob). x.hits) e;
  tried-zero = ap (λ (x : ReplyJob). x.tried) e;
}

-- what W-203 writes where it answers
wrote_by : {t p g room room' : List ℕ} {r : Result ReplyCounts Refusal} {n m : ℕ} → Replied t p g room room' r → replies_told r ≡ answered n m
    → (w : List ℕ) × (m ≡ length w) × (room' ≡ w ++ drop (length w) room)
wrote_by (entry.refusal f a b c) e = clash (sym e ∙ b)
wrote_by (entry.big T all a w l b c) e = clash (sym e ∙ b)
wrote_by (entry.no_room T all a w s l b c) e = clash (sym e ∙ b)
wrote_by (entry.replied T all a w s l b c) e =
    (flatten all, (answered-one (sym e ∙ b)).1, c)

-- a room that is `front` and then what was lent
module _ {on : ℕ} {room : List ℕ} (front lent : List ℕ) (s : length front ≡ on) (e : room ≡ front ++ drop on lent) where
  front-is : take on room ≡ front
  front-is = ap (take on) e ∙ subst (λ (n : ℕ). take n (front ++ drop on lent) ≡ front) s (take-append_seam front (drop on lent))

  left_is : drop on room ≡ drop on lent
  left_is = ap (drop on) e ∙ subst (λ (n : ℕ). drop n (front ++ drop on lent) ≡ drop on lent) s (drop-append_seam front (drop on lent))

-- the replies of one goal, then those of the goals after it
in_all : (front said all lent : List ℕ) (on n : ℕ) {room : List ℕ} → n ≡ length said → room ≡ ((front ++ said) ++ all) ++ drop (on + n + length all) lent
    → room ≡ (front ++ (said ++ all)) ++ drop (on + length (said ++ all)) lent
in_all front said all lent on n s e =
    let m : on + n + length all ≡ on + length (said ++ all) = omega (arith, length-append said all, s) in
    e ∙ ap₂ (λ (a : List ℕ) (b : ℕ). a ++ drop b lent) (append_assoc front said all) m

-- One record, where table and plan are accepted.
module _ (t p cells : List ℕ) where
  -- what W-203 allows for the goal of a record, where so many cells of the room are taken
  abbrev Asks : (room : List ℕ) (on : ℕ) (j : ReplyJob) (left : List ℕ) (r : Result ReplyCounts Refusal) → Type 0
  Asks room on j left r = Replied t p (goal_of_job cells j) (drop on room) left r

  -- hits and tried are those of a list of this goal alone
  hits-run : (j : ReplyJob) (h n : ℕ) (bytes : List ℕ) → j.start + j.count ≤ length cells
      → Ran t p (goal_of_job cells j) (replicate 64 0) bytes (Ok (record { hits = h; tried = n })) → (k k' : Job) → k.start ≡ j.start → k.count ≡ j.count
      → Asked t p cells k k' → (bits_of (take h bytes) ≡ k'.hits) × (n ≡ k'.tried)
  hits-run j h n bytes l x k k' s c (jobs.outside m q) = absurd (let z : ⊥ = omega arith in z)
  hits-run j h n bytes l x k k' s c (jobs.alone room r m y q) =
      let g : take k.count (drop k.start cells) ≡ goal_of_job cells j = ap₂ (λ (a b : ℕ). take a (drop b cells)) c s in
      let f = run-fixed x (subst (λ (v : List ℕ). Ran t p v (replicate 64 0) room r) g y) in
      let e : k' ≡ entered k (Ok (record { hits = h; tried = n })) bytes = q ∙ sym (ap₂ (λ (a : Result RunCounts Refusal) (b : List ℕ). entered k a b) f.0 f.1) in
      (sym (ap (λ (v : Job). v.hits) e), sym (ap (λ (v : Job). v.tried) e))

  -- what a record that is not answered becomes, and writes
  turned-away : {room : List ℕ} {on n m : ℕ} {j k : ReplyJob} → k ≡ declined j n m
      → (length cells < j.start + j.count → Declined k 1 0)
      → (j.start + j.count ≤ length cells → (left : List ℕ) × (r : Result ReplyCounts Refusal) × Asks room on j left r)
      → (j.start + j.count ≤ length cells → (f : Refused) (left : List ℕ) (r : Result ReplyCounts Refusal) → Asks room on j left r
      → replies_told r ≡ turned f → Declined k f.number f.place)
      → (j.start + j.count ≤ length cells → (a b : ℕ) (left : List ℕ) (r : Result ReplyCounts Refusal) → Asks room on j left r
      → replies_told r ≡ answered a b → ⊥) → OneReply t p cells room on j k []
  turned-away e past there refuses answers = record {
    start-stays = ap (λ (x : ReplyJob). x.start) e;
    count-stays = ap (λ (x : ReplyJob). x.count) e;
    size = ap (λ (x : ReplyJob). x.cells) e;
    past = past;
    asked = there;
    refused = refuses;
    answers = λ h a b left r x y. absurd (answers h a b left r x y);
  }

  -- One step, where the room so far is `front` and then what was lent.
  module _ (lent : List ℕ) where
    record Step (on : ℕ) (front between : List ℕ) (j k : ReplyJob) : Type 0 where
      pub said : List ℕ
      pub one : OneReply t p cells lent on j k said
      pub left : between ≡ (front ++ said) ++ drop (on + k.cells) lent

    -- a record that writes nothing
    none : {on : ℕ} {front room between : List ℕ} {j k : ReplyJob} → room ≡ front ++ drop on lent → between ≡ room
        → OneReply t p cells lent on j k [] → Step on front between j k
    none {on} {front} {k = k} e d o =
        let z : on ≡ on + k.cells = omega (arith, o.size) in
        record { said = []; one = o; left = d ∙ e ∙ ap₂ (λ (a : List ℕ) (b : ℕ). a ++ drop b lent) (sym (append-nil front)) z }

    step : {on : ℕ} {front room between : List ℕ} {j k : ReplyJob} → length front ≡ on → room ≡ front ++ drop on lent
        → ReplyAsked t p cells on room between j k → Step on front between j k
    step {j = j} s e (outside h q d) =
        none e d (turned-away q (λ l. declines j q) (λ l. absurd (let z : ⊥ = omega arith in z)) (λ l. absurd (let z : ⊥ = omega arith in z))
        (λ l. absurd (let z : ⊥ = omega arith in z)))
    step {front = front} {j = j} s e (refused f after r h x y q d) =
        let x' = subst (λ (c : List ℕ). Replied t p (goal_of_job cells j) c after r) (left_is front lent s e) x in
        none e d (turned-away q (λ l. absurd (let z : ⊥ = omega arith in z)) (λ l. (after, r, x'))
        (λ l g left u a b. let m = turned-one (sym y ∙ ap replies_told (replied-fixed x' a).0 ∙ b) in
        declines j (q ∙ ap (λ (w : Refused). declined j w.number w.place) m))
        (λ l n m left u a b. clash (sym b ∙ sym (ap replies_told (replied-fixed x' a).0) ∙ y)))
    step {on} {front} {j = j} s e (replied n m h u after bytes r l x y z q d) =
        let x' = subst (λ (c : List ℕ). Replied t p (goal_of_job cells j) c after r) (left_is front lent s e) x in
        let w = wrote_by x' y in
        let many = ap (λ (c : ReplyJob). c.cells) q ∙ w.1 in
        record {
          said = w.0;
          one = record {
            start-stays = ap (λ (c : ReplyJob). c.start) q;
            count-stays = ap (λ (c : ReplyJob). c.count) q;
            size = many;
            past = λ b. absurd (let z : ⊥ = omega arith in z);
            asked = λ b. (after, r, x');
            refused = λ b f left o a c. clash (sym y ∙ ap replies_told (replied-fixed x' a).0 ∙ c);
            answers = λ b n' m' left o a c.
                let g = answered-one (sym y ∙ ap replies_told (replied-fixed x' a).0 ∙ c) in (
                  record {
                    number-zero = ap (λ (c : ReplyJob). c.number) q;
                    place-zero = ap (λ (c : ReplyJob). c.place) q;
                    at-is = ap (λ (c : ReplyJob). c.at) q;
                    replies-is = ap (λ (c : ReplyJob). c.replies) q ∙ g.0;
                    cells_is = ap (λ (c : ReplyJob). c.cells) q ∙ g.1;
                    as-run = λ i i' s c o.
                        let run = hits-run j h u bytes l z i i' s c o in
                        (ap (λ (c : ReplyJob). c.hits) q ∙ run.0, ap (λ (c : ReplyJob). c.tried) q ∙ run.1);
                  },
                  sym (replied-fixed x' a).1 ∙ w.2,
                );
          };
          left = d ∙ ap₂ (λ (a b : List ℕ). a ++ b) (front-is front lent s e) w.2 ∙ sym (append_assoc front w.0 (drop (length w.0) (drop on lent)))
              ∙ ap (λ (a : List ℕ). (front ++ w.0) ++ a) (drop-drop (length w.0) on lent ∙ ap (λ (i : ℕ). drop (on + i) lent) (sym many));
        }

    -- and the whole list
    in-turn : {on : ℕ} {room room' : List ℕ} {js ks : List ReplyJob} (front : List ℕ) → length front ≡ on → room ≡ front ++ drop on lent
        → RepliesEach t p cells on room room' js ks
        → (all : List ℕ) × InTurn t p cells lent on js ks all × (room' ≡ (front ++ all) ++ drop (on + length all) lent)
    in-turn {on} front s e list.nil =
        let z : on ≡ on + 0 = omega arith in
        ([], nil, e ∙ ap₂ (λ (a : List ℕ) (b : ℕ). a ++ drop b lent) (sym (append-nil front)) z)
    in-turn {on} front s e (list.cons {j' = k} x u) =
        let o = step {front = front} s e x in
        let l : length (front ++ o.said) ≡ on + k.cells = length-append front o.said ∙ omega (arith, o.one.size, s) in
        let r = in-turn (front ++ o.said) l o.left u in
        (o.said ++ r.0, cons o.one r.1, in_all front o.said r.0 lent on k.cells o.one.size r.2)

-- The whole call.
module _ {t p cells room room' : List ℕ} {js ks : List ReplyJob} {a : Answer} where
  replied-list : ReplyJobsRun t p cells room room' js ks a → ReplyShift t p cells room room' js ks a
  replied-list x = record {
    refuses = told;
    untouched = left x;
    accepts = λ b e. reply-jobs-told x ∙ ap plan_says e;
    lists = lists x;
  }
    where
      told : (f : Refused) → (a ≡ turned f) ↔ (plan_of t p ≡ refuse f)
      told f = let k = (plan-kept t p).refuses f in (λ e. k.0 (sym (reply-jobs-told x) ∙ e), λ e. reply-jobs-told x ∙ k.1 e)

      left : ReplyJobsRun t p cells room room' js ks a → (f : Refused) → a ≡ turned f → (ks ≡ js) × (room' ≡ room)
      left (refusal g d q c b) f e = (c, b)
      left (asked n d q c) f e = apart (sym d ∙ (told f).0 e)

      lists : ReplyJobsRun t p cells room room' js ks a → (b : ℕ) → plan_of t p ≡ read b → ListReplied t p cells room room' js ks
      lists (refusal g d q c b) n e = apart (sym e ∙ d)
      lists (asked n d q c) m e =
          let r = in-turn t p cells room [] refl refl c in
          let z : 0 + length r.0 ≡ length r.0 = omega arith in
          record { all = r.0; each = r.1; wrote = r.2 ∙ ap (λ (i : ℕ). r.0 ++ drop i room) z }

pub request-replies : {t p cells room room' : List ℕ} {js ks : List ReplyJob} {n : ℕ} → ReplyJobsCoded t p cells room room' js ks n
    → ReplyShift t p cells room room' js ks (decoded n)
request-replies {t} {p} {cells} {room} {room'} {js} {ks} x =
    subst (ReplyShift t p cells room room' js ks) (sym (reply-jobs-back x)) (replied-list x.ran)
