-- The passes over the hits, one hit after another; and what the entry answers after them.
use Rattle.std.specs.Prelude.{Result, Err, Ok}
use Rattle.instance.specs.declared.ReplyCounts.{ReplyCounts}
use Prim.Native.Nat.{ℕ, ◌+◌, ◌≤◌, ◌<◌}
use mathlib.Core.Path.{◌≡◌, refl, sym, ◌∙◌, ap, subst}
use mathlib.Core.List.Memᴰ
use mathlib.Core.List.{List, [], ◌++◌, flatten, append_assoc, append-nil}
use native.Mathlib.Omega.{arith}
use lib.Dec.{ltb}
use lib.ListN.{length, get_or, take, drop, length-append, drop_of_length-le}
use lib.Seq.{sets, take_at, length-take-le}
use borrow.Author.Tests.{le-ltb}
use Rattle.refusal.specs.Refusal.{refused, answered, turned}
use Rattle.refusal.specs.declared.Refusal.{Refusal}
use Rattle.refusal.specs.declared.Reason.TheVariants as reason
use Rattle.refusal.specs.declared.Input.TheVariants as input
use Rattle.refusal.specs.Read.{Read, read, refuse, when, and_then}
use Rattle.octets.specs.Octets.{Put, fitting}
use Rattle.octets.proofs.PutLaws.{put-put, put-nothing, put_front}
use Rattle.table.specs.Table.{Table, table_of, goal_of, row_in}
use Rattle.table.proofs.Accepted.{is-table}
use Rattle.plan.specs.Check.{plan_of}
use Rattle.answer.specs.Run.{run_of, Ran}
use Rattle.answer.specs.Run as runs
use Rattle.instance.specs.Reply.{Large}
use Rattle.instance.specs.Rewrite.{number_in, number_from}
use Rattle.instance.specs.Replied.{replies_of, replies_told, Replied, refusal, big, no_room, replied}
use Rattle.instance.specs.code.Meet.{Hit, InstanceMet, Over}
use Rattle.instance.specs.code.Passes.{RepliesAt, done, next, Hits, Pass, Passed, Found}
use Rattle.instance.proofs.Variants.{reply-one}
use Rattle.instance.proofs.NumberLaws.{unmet-start, number_fits, number-long}
use Rattle.instance.proofs.StartLaws.{reply-there}
use Rattle.instance.proofs.RepliesLaws.{replies-take, Given, picks-given, at_next}

pub pass-start : {table goal hits room : List ℕ} {all : List (List ℕ)} → RepliesAt (row_in (table_of table)) goal hits all
    → Pass table goal hits 0 all room room 0 0
pass-start {all = all} a = record { left = all; at = a; front = []; put = put-nothing; split = refl; cells = refl; short = λ s. s; large = λ b. b }

module _ {table goal hits room₀ room : List ℕ} {i on sum : ℕ} {all : List (List ℕ)} (p : Pass table goal hits i all room₀ room on sum)
    (h : i < length hits) where
  pub pass-hit : Hit (row_in (table_of table) (get_or hits i 0)) goal
  pass-hit = (at_next hits i h p.at).hit

  -- one more reply
  pub pass-next : {cells room' : List ℕ} {n on' : ℕ} → InstanceMet (row_in (table_of table) (get_or hits i 0)) goal cells n
      → Put room room' on (number_in 64 [] (take n cells)) on' → Pass table goal hits (i + 1) all room₀ room' on' (sum + n)
  unfolding flatten
  pass-next {cells} {room'} {n} {on'} m q =
      let x = at_next hits i h p.at in
      let f : number_in 64 [] (take n cells) ≡ number_from [] (take n cells) = number_fits [] (take n cells) (unmet-start m.few) in
      let e : x.cells ≡ number_in 64 [] (take n cells) = reply-one x.reply (reply-there m) ∙ sym f in
      let k : length x.cells ≡ n = ap length e ∙ number-long 64 [] (take n cells) ∙ length-take-le n cells m.within in
      record {
        left = x.rest;
        at = x.at;
        front = p.front ++ x.cells;
        put = put-put p.put (subst (λ (t : List ℕ). Put room room' on t on') (sym e) q);
        split = append_assoc p.front x.cells (flatten x.rest) ∙ ap (λ (a : List (List ℕ)). p.front ++ flatten a) (sym x.is) ∙ p.split;
        cells = length-append p.front x.cells ∙ omega (arith, p.cells, k);
        short = λ s. p.short (rw x.is (omega (arith, k, m.short), s));
        large = λ b. p.large (rw x.is (record { cells = b.cells; one = Memᴰ.tail b.one; over = b.over }));
      }

  -- or one that is too long
  pub pass-large : Over (row_in (table_of table) (get_or hits i 0)) goal → Large all
  pass-large o =
      let x = at_next hits i h p.at in
      p.large (rw x.is (record { cells = x.cells; one = Memᴰ.head refl; over = o.over x.cells x.reply.instance.common }))

nothing_left : {row : ℕ → List ℕ} {goal hits : List ℕ} {all : List (List ℕ)} → hits ≡ [] → RepliesAt row goal hits all → all ≡ []
nothing_left e done = refl
nothing_left e (next h r a) = absurd (let z : ◌≡◌ {A = ℕ} 0 1 = cc in omega arith)

pub pass-end : {table goal hits room₀ room : List ℕ} {i on sum : ℕ} {all : List (List ℕ)} → Pass table goal hits i all room₀ room on sum
    → length hits ≤ i → Passed room₀ room all sum
unfolding flatten
pass-end {hits = hits} {room₀} {room} {i} {all = all} p h =
    let z = nothing_left (drop_of_length-le hits {i = i} h) p.at in
    let e : p.front ≡ flatten all = sym (append-nil p.front) ∙ ap (λ (a : List (List ℕ)). p.front ++ flatten a) (sym z) ∙ p.split in
    record { cells = sym p.cells ∙ ap length e; short = p.short (rw z tt); wrote = p.put.wrote ∙ ap (λ (t : List ℕ). sets room₀ 0 (fitting room₀ 0 t)) e }

-- What the entry answers.

-- a room of 64 bytes is enough for a run of any table, so that a run refuses as the entry does
pub run-replies : (t p g room : List ℕ) → 64 ≤ length room → run_of t p g room ≡ replies_of t p g
unfolding run_of replies_of
run-replies t p g room h = go (table_of t) refl
  where
    go : (R : Read Table) → table_of t ≡ R
        → and_then R (λ (T : Table). and_then (plan_of t p) (λ (n : ℕ). and_then (goal_of T.width g) (λ (v : ℕ).
        when (ltb (length room) (length T.rows)) (refused reason.Room input.Lent (length T.rows)) (read T))))
        ≡ and_then R (λ (T : Table). and_then (plan_of t p) (λ (n : ℕ). and_then (goal_of T.width g) (λ (v : ℕ). read T)))
    go (read T) e = let l = (is-table t e).count in rw (le-ltb (length room) (length T.rows) (omega arith))
    go (refuse f) e = refl

-- what is found: the table, the goal, and the replies
module _ {table plan goal hits : List ℕ} (f : Found table plan goal hits) where
  pub found-table : table_of table ≡ read f.is
  found-table = (replies-take table plan goal f.reads).0

  pub found-given : Given (row_in (table_of table)) goal f.is.rows (length f.is.rows) hits
  found-given =
      let i = is-table table found-table in
      picks-given (row_in (table_of table)) (replies-take table plan goal f.reads).1 (length f.is.rows) i.each (omega arith)
      (λ j. let e : 0 + j ≡ j = omega arith in rw (e, found-table)) f.picks

  pub found-hits : Hits table goal hits (length f.is.rows)
  found-hits =
      let g = found-given in
      let i = is-table table found-table in
      record { below = g.below; few = omega (arith, g.few, i.count); all = g.all; at = g.at }

  -- the answers: a reply that is too long, too little room, and enough
  pub too_large : {room room' : List ℕ} {r : Result ReplyCounts Refusal} → Large found-given.all
      → replies_told r ≡ turned (refused reason.Big input.Goal 0) → room' ≡ room → Replied table plan goal room room' r
  too_large b t e = big f.is found-given.all f.reads found-given.replies b t e

  pub too_few : {room room' none none' : List ℕ} {r : Result ReplyCounts Refusal} {n : ℕ} → Passed none none' found-given.all n → length room < n
      → replies_told r ≡ turned (refused reason.Room input.Lent n) → room' ≡ room → Replied table plan goal room room' r
  too_few p l t e =
      let g = found-given in
      no_room f.is g.all f.reads g.replies p.short (omega (arith, p.cells, l))
      (t ∙ ap (λ (k : ℕ). turned (refused reason.Room input.Lent k)) p.cells) e

  pub enough : {room room' : List ℕ} {r : Result ReplyCounts Refusal} {n : ℕ} → Passed room room' found-given.all n → n ≤ length room
      → replies_told r ≡ answered (length hits) n → Replied table plan goal room room' r
  enough {room} {room'} {n = n} p l t =
      let g = found-given in
      let w : Put room room' 0 (flatten g.all) (0 + length (fitting room 0 (flatten g.all))) = record { wrote = p.wrote; after = refl } in
      let h : length (flatten g.all) ≤ length room = omega (arith, p.cells, l) in
      replied f.is g.all f.reads g.replies p.short h
      (t ∙ ap (λ (k : ℕ). answered k n) (sym g.many) ∙ ap (λ (k : ℕ). answered (length g.all) k) p.cells) (put_front w h).1

-- a run that is refused, and one that has found its hits
pub run-refused : {t p g bytes bytes' room : List ℕ} {f : Refusal} → Ran t p g bytes bytes' (Err f) → 64 ≤ length bytes
    → Replied t p g room room (Err f)
run-refused {t} {p} {g} {bytes} (runs.refusal k e q w) h = refusal k (sym (run-replies t p g bytes h) ∙ e) q refl
run-refused (runs.ran T tree hits n e w x y q z) h = absurd (let o : ◌≡◌ {A = ℕ} 0 1 = cc in omega arith)

pub run-found : {t p g bytes bytes' : List ℕ} {h n : ℕ} → Ran t p g bytes bytes' (Ok (record { hits = h; tried = n })) → 64 ≤ length bytes
    → Found t p g (take h bytes') × (h ≤ length bytes')
run-found (runs.refusal k e q w) l = absurd (let o : ◌≡◌ {A = ℕ} 0 1 = cc in omega arith)
run-found {t} {p} {g} {bytes} {bytes'} {h} (runs.ran T tree hits n e w x y q z) l =
    let k : h ≡ length hits = cc in
    let f : take h bytes' ≡ hits = ap (take h) z ∙ take_at hits (drop (length hits) bytes) h (sym k) in (
      record { is = T; reads = sym (run-replies t p g bytes l) ∙ e; picks = rw f x },
      omega (arith, k, ap length z, length-append hits (drop (length hits) bytes)),
    )
