-- A rule whose head has no variables but its open places, against rows: what the call's answers make of the goal is what the head filled with the
-- rows of the called predicate has in common with it.
use Prim.Native.Nat.{ℕ, ◌+◌, ◌^◌, ◌≤◌}
use mathlib.Core.Path.{◌≡◌, refl, sym, ◌∙◌, ap}
use mathlib.Core.List.{List, [], ◌∷◌, ◌++◌, map}
use native.Mathlib.Omega.{arith}
use Rattle.term.specs.Terms.{Terms}
use Rattle.term.specs.Unify.{inst, Subst}
use Rattle.term.proofs.Inst.{Terms-inst}
use Rattle.term.specs.code.Fresh.{Fresh}
use Rattle.term.proofs.Step.{Terms-fresh, spread}
use Rattle.table.specs.All.{All}
use Rattle.table.specs.Table.{count, up_from}
use Rattle.table.proofs.HeadLaws.{appear-has}
use Rattle.answer.specs.Skeleton.{hole, fill}
use Rattle.answer.proofs.CountLaws.{up-distinct, up_mem}
use Rattle.instance.specs.Instance.{Instance, Common, MostGeneral}
use Rattle.instance.specs.Reply.{Reply}
use Rattle.instance.proofs.Instances.{instance-self, instance-then}
use Rattle.instance.proofs.Apart.{Below}
use Rattle.instance.proofs.StartLaws.{renamed-terms}
use Rattle.clauses.specs.Clauses.{handed}
use Rattle.clauses.specs.Answers as answers
use Rattle.clauses.specs.Answers.{Disjoint, Passes, Passed, AllPassed}
use Rattle.clauses.specs.Translate.{Predicate, done, fact, rule, head_of}
use Rattle.clauses.proofs.Nested as says
use Rattle.clauses.proofs.Nested.{Says}
use Rattle.clauses.proofs.SolidLaws.{Solid, Frame, inst-fill, fill_one, fill-mem, numbered-solid, handed-is, head-is}
use Rattle.clauses.proofs.MeetLaws.{Meets, meets, apart_from, meet}

-- the replies of rows, from the top: W-203's, a hit being what has something in common with the goal
pub data Hits (goal : List ℕ) : List (List ℕ) → List (List ℕ) → Type 0 where
  none : Hits goal [] []
  hit : {row cells : List ℕ} {rows all : List (List ℕ)} → Reply row goal cells → Hits goal rows all → Hits goal (row ∷ rows) (cells ∷ all)
  miss : {row : List ℕ} {rows all : List (List ℕ)} → Disjoint row goal → Hits goal rows all → Hits goal (row ∷ rows) all

pub hits-both : {goal : List ℕ} {xs ys us ws : List (List ℕ)} → Hits goal xs us → Hits goal ys ws → Hits goal (xs ++ ys) (us ++ ws)
hits-both none k = k
hits-both (hit r h) k = hit r (hits-both h k)
hits-both (miss r h) k = miss r (hits-both h k)

-- and taken apart again
pub record Parted (goal : List ℕ) (xs ys all : List (List ℕ)) : Type 0 where
  pub front : List (List ℕ)
  pub back : List (List ℕ)
  pub hits : Hits goal xs front
  pub others : Hits goal ys back
  pub is : all ≡ front ++ back

pub hits-part : {goal : List ℕ} (xs : List (List ℕ)) {ys all : List (List ℕ)} → Hits goal (xs ++ ys) all → Parted goal xs ys all
hits-part [] h = record { front = []; back = _; hits = none; others = h; is = refl }
hits-part (x ∷ xs) (hit {cells = cells} r h) =
    let p = hits-part xs h in
    record { front = cells ∷ p.front; back = p.back; hits = hit r p.hits; others = p.others; is = ap (λ (l : List (List ℕ)). cells ∷ l) p.is }
hits-part (x ∷ xs) (miss r h) =
    let p = hits-part xs h in
    record { front = p.front; back = p.back; hits = miss r p.hits; others = p.others; is = p.is }

-- WHAT CLAUSES MEAN: to every goal they answer what these rows reply, and they do answer it, where w terms are asked and there are variables enough:
-- r of them for the clauses' own
pub record Means (P : Predicate) (w r : ℕ) (xs : List (List ℕ)) : Type 0 where
  pub told : (goal : List ℕ) (all : List (List ℕ)) → Says P goal all → Hits goal xs all
  pub tells : (d : ℕ) (goal : List ℕ) (all : List (List ℕ)) → Terms w goal → Below d goal → d + r ≤ 2 ^ 16 → Hits goal xs all
      → Says P goal all

pub means-done : {w r : ℕ} → Means done w r []
means-done = record { told = λ goal all. go goal; tells = λ d goal all t b l. back goal }
  where
    go : (goal : List ℕ) {all : List (List ℕ)} → Says done goal all → Hits goal [] all
    go goal says.none = none

    back : (goal : List ℕ) {all : List (List ℕ)} → Hits goal [] all → Says done goal all
    back goal none = says.none

pub means-fact : {P : Predicate} {w r : ℕ} {xs : List (List ℕ)} (h : List ℕ) → Means P w r xs → Means (fact h P) w r (h ∷ xs)
means-fact {P} {w} {r} {xs} h M = record { told = λ goal all. go goal; tells = λ d goal all t b l. back d goal t b l }
  where
    go : (goal : List ℕ) {all : List (List ℕ)} → Says (fact h P) goal all → Hits goal (h ∷ xs) all
    go goal (says.fact-fits r k) = hit r (M.told goal _ k)
    go goal (says.fact-not r k) = miss r (M.told goal _ k)

    back : (d : ℕ) (goal : List ℕ) {all : List (List ℕ)} → Terms w goal → Below d goal → d + r ≤ 2 ^ 16 → Hits goal (h ∷ xs) all
        → Says (fact h P) goal all
    back d goal t b l (hit q k) = says.fact-fits q (M.tells d goal _ t b l k)
    back d goal t b l (miss q k) = says.fact-not q (M.tells d goal _ t b l k)

module _ (K : List ℕ) (n : ℕ) (a : Solid K) (e : count hole K ≡ n) (l : n ≤ 2 ^ 15) where
  abbrev places : List ℕ
  places = up_from 0 n

  fresh : Fresh n places
  fresh = up-distinct 0 n (omega arith)

  -- what fits the holes
  fits : {y : List ℕ} → Terms n y → Terms (count hole K) y
  fits t = rw e t

  filled : {τ : ℕ → List ℕ} (y : List ℕ) → Subst τ → Terms n y → inst τ (fill K y) ≡ fill K (inst τ y)
  filled y s t = inst-fill K y s a (fits t)

  head-filled : {τ : ℕ → List ℕ} → Subst τ → inst τ (head_of K) ≡ fill K (inst τ places)
  head-filled {τ} s = ap (inst τ) (head-is K n e) ∙ filled places s (Terms-fresh fresh)

  -- an instance of the head, filled
  pub head-over : {y z : List ℕ} → Terms n y → Instance (fill K y) z → Instance (head_of K) z
  head-over {y} {z} t i =
      let r = spread (inst i.by y) i.good fresh (Terms-inst i.good t) in
      record { by = r.new; good = r.good; same = head-filled r.good ∙ ap (fill K) r.hits ∙ sym (filled y i.good t) ∙ i.same }

  pub apart-over : {y goal : List ℕ} → Terms n y → Disjoint (head_of K) goal → Disjoint (fill K y) goal
  apart-over t h z c = h z (record { first = head-over t c.first; second = c.second })

  module _ {goal : List ℕ} {σ : ℕ → List ℕ} (s : Subst σ) (g : MostGeneral (head_of K) goal (inst σ (head_of K))) where
    abbrev call : List ℕ
    call = inst σ places

    call-terms : Terms n call
    call-terms = Terms-inst s (Terms-fresh fresh)

    goal-filled : {τ : ℕ → List ℕ} → Subst τ → inst τ (inst σ (head_of K)) ≡ fill K (inst τ call)
    goal-filled {τ} t = ap (inst τ) (head-filled s) ∙ filled call t call-terms

    -- what a filled head has in common with the goal: an instance of it by which the call becomes one of what it is filled with
    pub common-passes : {y z : List ℕ} → Terms n y → Common (fill K y) goal z → Passes (inst σ (head_of K)) call y z
    common-passes {y} {z} t c =
        let i = c.first in
        let k = g.most z (record { first = head-over t i; second = c.second }) in
        let q : fill K (inst k.by call) ≡ fill K (inst i.by y) = sym (goal-filled k.good) ∙ k.same ∙ sym i.same ∙ filled y i.good t in
        record {
          by = k.by;
          good = k.good;
          same = k.same;
          fits = record {
            by = i.by;
            good = i.good;
            same = sym (fill_one K (inst k.by call) (inst i.by y) (fits (Terms-inst k.good call-terms)) (fits (Terms-inst i.good t)) q);
          };
        }

    pub passes-common : {y z : List ℕ} → Terms n y → Passes (inst σ (head_of K)) call y z → Common (fill K y) goal z
    passes-common {y} {z} t p =
        let i = p.fits in
        record {
          first = record { by = i.by; good = i.good; same = filled y i.good t ∙ ap (fill K) i.same ∙ sym (goal-filled p.good) ∙ p.same };
          second = instance-then g.common.second (record { by = p.by; good = p.good; same = p.same });
        }

    -- an answer to the call, which is the reply of a row to it: for the goal, that of the filled head
    passed-reply : {y b cells : List ℕ} → Terms n y → MostGeneral y call b → Passed (inst σ (head_of K)) call b cells
        → Reply (fill K y) goal cells
    passed-reply {y} {b} t m p =
        let q = p.passes in
        record {
          instance = record {
            common = passes-common t (record { by = q.by; good = q.good; same = q.same; fits = instance-then m.common.first q.fits });
            most = λ us c.
                let r = common-passes t c in
                let here : Instance call (inst r.by call) = record { by = r.by; good = r.good; same = refl } in
                p.most us (record {
                  by = r.by;
                  good = r.good;
                  same = r.same;
                  fits =
                      m.most (inst r.by call) (record { first = r.fits; second = here });
                });
          };
          order = p.order;
        }

    passed_apart : {y : List ℕ} → Terms n y → Disjoint y call → Disjoint (fill K y) goal
    passed_apart {y} t h z c =
        let r = common-passes t c in
        h (inst r.by call) (record { first = r.fits; second = record { by = r.by; good = r.good; same = refl } })

    -- and the other way: a reply of the filled head is what the row's reply to the call makes of the goal
    record Called (y cells : List ℕ) : Type 0 where
      answer : List ℕ
      reply : Reply y call answer
      passed : Passed (inst σ (head_of K)) call answer cells

    call-common : {y u : List ℕ} → Terms n y → Common y call u
        → (z : List ℕ) × Common (fill K y) goal z × ((κ : ℕ → List ℕ) → Subst κ → (b : List ℕ) → Terms n b → inst κ (fill K b) ≡ z → inst κ b ≡ u)
    call-common {y} {u} t c =
        let j = c.second in
        let z = inst j.by (inst σ (head_of K)) in (
          z,
          passes-common t (record { by = j.by; good = j.good; same = refl; fits = rw j.same c.first }),
          λ κ s' b tb q.
              fill_one K (inst κ b) u (fits (Terms-inst s' tb)) (fits (rw j.same at (Terms-inst j.good call-terms)))
              (sym (filled b s' tb) ∙ q ∙ goal-filled j.good ∙ ap (fill K) j.same),
        )

    reply-called : {y cells : List ℕ} → Terms n y → Reply (fill K y) goal cells → Called y cells
    reply-called {y} {cells} t r =
        let p = common-passes t r.instance.common in
        let b = inst p.by call in
        let tb : Terms n b = Terms-inst p.good call-terms in
        let is : fill K b ≡ cells = sym (goal-filled p.good) ∙ p.same in
        record {
          answer = b;
          reply = record {
            instance = record {
              common = record { first = p.fits; second = record { by = p.by; good = p.good; same = refl } };
              most = λ u c.
                  let z = call-common t c in
                  let i = r.instance.most z.0 z.1 in
                  record { by = i.by; good = i.good; same = z.2 i.by i.good b tb (ap (inst i.by) is ∙ i.same) };
            };
            order = numbered-solid K b a (fits tb) (rw is r.order);
          };
          passed = record {
            passes = record { by = p.by; good = p.good; same = p.same; fits = instance-self b };
            most =
                λ us q. r.instance.most us (passes-common t
                (record { by = q.by; good = q.good; same = q.same; fits = instance-then p.fits q.fits }));
            order = r.order;
          };
        }

    apart-called : {y : List ℕ} → Terms n y → Disjoint (fill K y) goal → Disjoint y call
    apart-called t h u c = let z = call-common t c in h z.0 z.1

    pub record AllCalled (ys all : List (List ℕ)) : Type 0 where
      pub found : List (List ℕ)
      pub hits : Hits call ys found
      pub passed : AllPassed (inst σ (head_of K)) call found all

    pub called : {passed : List (List ℕ)} (ys : List (List ℕ)) → All (Terms n) ys → Hits goal (map (fill K) ys) passed → AllCalled ys passed
    called [] t none = record { found = []; hits = none; passed = answers.none }
    called (y ∷ ys) t (hit r h) =
        let c = reply-called t.0 r in
        let k = called ys t.1 h in
        record { found = c.answer ∷ k.found; hits = hit c.reply k.hits; passed = answers.next c.passed k.passed }
    called (y ∷ ys) t (miss r h) =
        let k = called ys t.1 h in
        record { found = k.found; hits = miss (apart-called t.0 r) k.hits; passed = k.passed }

    pub passed-hits : {ys found passed : List (List ℕ)} → All (Terms n) ys → Hits call ys found
        → AllPassed (inst σ (head_of K)) call found passed
        → Hits goal (map (fill K) ys) passed
    passed-hits t none answers.none = none
    passed-hits t (hit r h) (answers.next p q) = hit (passed-reply t.0 r.instance p) (passed-hits t.1 h q)
    passed-hits t (miss r h) q = miss (passed_apart t.0 r) (passed-hits t.1 h q)

  no-hits : {goal : List ℕ} (ys : List (List ℕ)) → All (Terms n) ys → Disjoint (head_of K) goal → Hits goal (map (fill K) ys) []
  no-hits [] t h = none
  no-hits (y ∷ ys) t h = miss (apart-over t.0 h) (no-hits ys t.1 h)

  none-hit : {goal : List ℕ} (ys : List (List ℕ)) {all : List (List ℕ)} → All (Terms n) ys → Disjoint (head_of K) goal
      → Hits goal (map (fill K) ys) all → all ≡ []
  none-hit [] t h none = refl
  none-hit (y ∷ ys) t h (hit r k) = absurd (apart-over t.0 h _ r.instance.common)
  none-hit (y ∷ ys) t h (miss r k) = none-hit ys t.1 h k

  -- THE RULE
  pub means-rule : {Q P : Predicate} {w q p r : ℕ} {ys xs : List (List ℕ)} → Frame w K → n + q ≤ r → p ≤ r → All (Terms n) ys
      → Means Q n q ys → Means P w p xs
      → Means (rule (head_of K) Q P) w r (map (fill K) ys ++ xs)
  unfolding count
  means-rule {Q} {P} {w} {q} {p} {r} {ys} {xs} frame hq hp ts MQ MP = record { told = λ goal all. go goal; tells = λ d goal all. back d goal }
    where
      hands : handed (head_of K) ≡ places
      hands = handed-is K n a e l

      go : (goal : List ℕ) {all : List (List ℕ)} → Says (rule (head_of K) Q P) goal all → Hits goal (map (fill K) ys ++ xs) all
      go goal (says.rule_fits {found = found} {passed = passed} σ s g k i o q) =
          let k' : Says Q (inst σ places) found = rw hands at k in
          let i' : AllPassed (inst σ (head_of K)) (inst σ places) found passed = rw hands at i in
          rw q (hits-both (passed-hits s g ts (MQ.told (inst σ places) found k') i') (MP.told goal _ o))
      go goal (says.rule-not h o) = hits-both (no-hits ys ts h) (MP.told goal _ o)

      head-terms : Terms w (head_of K)
      head-terms = rw (head-is K n e) (frame places (fits (Terms-fresh fresh)))

      head-low : Below n (head_of K)
      head-low = record { vars = λ c m v. (let z = up_mem 0 n c (rw hands at (appear-has c [] (head_of K) m v refl)) in omega arith) }

      by_call : (d : ℕ) (goal : List ℕ) {front others all : List (List ℕ)} {T : List ℕ} → d + r ≤ 2 ^ 16 → MostGeneral (head_of K) goal T
          → Below (n + d) T
          → Hits goal (map (fill K) ys) front → Says P goal others → all ≡ front ++ others → Says (rule (head_of K) Q P) goal all
      by_call d goal {front} {others} {all} {T} lim g low h o is =
          let i = g.common.first in
          let σ = i.by in
          let g' : MostGeneral (head_of K) goal (inst σ (head_of K)) = rw i.same g in
          let low' : Below (n + d) (inst σ (head_of K)) = rw i.same low in
          let f = called i.good g' ys ts h in
          let b : Below (n + d) (inst σ places) = record {
            vars = λ c m v. low'.vars c (rw (head-filled i.good) (fill-mem K (inst σ places) c (fits (call-terms i.good g')) m)) v;
          } in
          let k = MQ.tells (n + d) (inst σ places) f.found (call-terms i.good g') b (omega (arith, hq, lim)) f.hits in
          let k' : Says Q (inst σ (handed (head_of K))) f.found = rw hands k in
          let p' : AllPassed (inst σ (head_of K)) (inst σ (handed (head_of K))) f.found front = rw hands f.passed in
          says.rule_fits σ i.good g' k' p' o is

      back : (d : ℕ) (goal : List ℕ) {all : List (List ℕ)} → Terms w goal → Below d goal → d + r ≤ 2 ^ 16
          → Hits goal (map (fill K) ys ++ xs) all
          → Says (rule (head_of K) Q P) goal all
      back d goal {all} t b lim h =
          let z = hits-part (map (fill K) ys) h in
          let o = MP.tells d goal z.back t b (omega arith) z.others in
          let wide : Below (2 ^ 16) goal = record { vars = λ c m v. (let y = b.vars c m v in omega arith) } in
          decided z o (meet n d (omega arith) (omega arith) (head_of K) goal head-terms (renamed-terms t wide) head-low b)
        where
          decided : (z : Parted goal (map (fill K) ys) xs all) → Says P goal z.back
              → Meets n d (omega arith) (omega arith) (head_of K) goal → Says (rule (head_of K) Q P) goal all
          decided z o (meets g low) = by_call d goal lim g low z.hits o z.is
          decided z o (apart_from h) = let f : all ≡ z.back = z.is ∙ ap (λ (l : List (List ℕ)). l ++ z.back) (none-hit ys ts h z.hits) in
              let o' : Says P goal all = rw f o in
              says.rule-not h o'
