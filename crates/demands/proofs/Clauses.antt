-- W-210 of what the entry promises: `ClausesCoded t p text names room room' n`. The statements are in specs/Clauses.
use Prim.Native.Nat.{ℕ, ◌≤◌, ◌<◌}
use mathlib.Core.Path.{◌≡◌, refl, sym, ◌∙◌, ap, subst}
use mathlib.Core.Logic.{◌↔◌, by_cases}
use mathlib.Core.List.{List, ◌++◌}
use native.Mathlib.Decide.{dec_lt}
use native.Mathlib.Omega.{arith}
use lib.ListN.{length, drop}
use Rattle.std.specs.Prelude.{Result, Ok, Err}
use Rattle.refusal.specs.declared.Refusal.{Refusal}
use Rattle.refusal.specs.Refusal.{Refused, refused, Answer, answered, turned}
use Rattle.refusal.specs.declared.Reason.TheVariants as reason
use Rattle.refusal.specs.declared.Input.TheVariants as input
use Rattle.refusal.specs.Read.{Read, read, refuse, and_then}
use Rattle.refusal.specs.Coded.{decoded}
use Rattle.table.specs.Table.{Table, table, table_of, IsTable}
use Rattle.table.proofs.ReadLaws.{apart, refuse-one}
use Rattle.table.proofs.Accepted.{is-table}
use Rattle.plan.specs.Plans.{Plan, write, branches}
use Rattle.plan.specs.Check.{plan_of, plan_for}
use Rattle.clauses.specs.Program.{program}
use Rattle.clauses.specs.Handed.{hand_of, Listed, hand_told, text_for, Handed, refusal, no_names, no_room, handed}
use Rattle.clauses.specs.declared.ProgramSize.{ProgramSize}
use Rattle.clauses.proofs.TakesLaws.{hand_takes, takes-hand, hand-table, hand-plan}
use Rattle.clauses.proofs.Theorems.{program-few, clauses-answer, answers_one, answers-some, named, text-reads}
use Rattle.clauses.proofs.WordLaws.{names_apart, names-bare, words-apart}
use Rattle.clauses.proofs.OneLaws.{reads-one}
use Rattle.clauses.proofs.UnlistedLaws.{unlisted}
use Rattle.clauses.proofs.Fixed.{handed-fixed}
use Rattle.dudowiej.specs.Coded.{ClausesCoded}
use Rattle.dudowiej.proofs.Back.{clauses-back}
use Rattle.demands.specs.Clauses.{ClausesTurned, bad-table, bad-plan, bad-names, bad-room, ClausesRefused}
use Rattle.demands.specs.Clauses.{AnswersReplies, NoClash, HandedBack, HandsBack}
use Rattle.demands.proofs.Cited.{clash, turned-one, reads, writes, tree-read}

-- what turns the entry away before the names
asked-turned : {t p text names room : List ℕ} {f : Refused} → hand_of t p ≡ refuse f → ClausesTurned t p text names room f
unfolding hand_of
asked-turned {t} {p} {text} {names} {room} {f} = go (table_of t) refl
  where
    in-plan : (T : Table) → table_of t ≡ read T → (x : Read ℕ) → plan_for T p ≡ x → and_then x (λ (b : ℕ). read T) ≡ refuse f
        → ClausesTurned t p text names room f
    in-plan T e (read b) k q = apart q
    in-plan T e (refuse z) k q = bad-plan (is-table t e) (rw e (k ∙ ap refuse (refuse-one q)))

    go : (x : Read Table) → table_of t ≡ x → and_then x (λ (T : Table). and_then (plan_for T p) (λ (b : ℕ). read T)) ≡ refuse f
        → ClausesTurned t p text names room f
    go (read T) e q = in-plan T e (plan_for T p) refl q
    go (refuse z) e q = bad-table (e ∙ ap refuse (refuse-one q))

-- a table and a plan of it are taken
asked-read : {t p : List ℕ} {w : ℕ} {rows : List (List ℕ)} → IsTable t w rows → (tree : Plan w rows) → write tree ≡ p
    → hand_of t p ≡ read (table w rows)
asked-read i tree h = takes-hand (record { table = reads i; branches = branches tree; plan = rw (reads i) at (tree-read i tree h) })

-- and what is taken is a table, and a plan as a tree
asked-table : (t p : List ℕ) {T : Table} → hand_of t p ≡ read T → IsTable t T.width T.rows
asked-table t p a = is-table t (hand_takes t p a).table

asked-tree : (t p : List ℕ) {T : Table} → hand_of t p ≡ read T → (tree : Plan T.width T.rows) × (write tree ≡ p)
asked-tree t p a =
    let x = hand_takes t p a in
    let s = writes t p (asked-table t p a) x.branches (rw x.table x.plan) in
    (s.tree, s.cells)

-- under a table, a plan and a list of names: what holds with any room
module _ {t text names : List ℕ} {w : ℕ} {rows : List (List ℕ)} (i : IsTable t w rows) (tree : Plan w rows) (l : Listed text names rows) where
  answers-kept : AnswersReplies w rows (program tree)
  answers-kept = record {
    replies = λ goal all g. clauses-answer i tree g all;
    some = λ goal g. answers-some i tree g;
    one = λ goal xs ys g a b. answers_one i tree g a b;
  }

  apart-kept : NoClash text names
  apart-kept = record {
    quoted = λ j k u n. names_apart k u (named i tree l j u n);
    bare = λ j k u n. names-bare k u (named i tree l j u n);
    apart = words-apart;
  }

  -- and what the room decides
  hands-short : {room room' : List ℕ} {a : Answer} → length room < length (text_for text names (program tree))
      → a ≡ turned (refused reason.Room input.Lent (length (text_for text names (program tree)))) → HandedBack tree text names room room' a
  hands-short n y =
      record {
        full = (λ e. n, λ k. y);
        told = (λ e. clash (sym e ∙ y), λ k. absurd (let z : ⊥ = omega (arith, n, k) in z));
        wrote = λ k. absurd (let z : ⊥ = omega (arith, n, k) in z);
        reads = text-reads i tree l;
        only = λ cs r. reads-one r (text-reads i tree l);
        answers = answers-kept;
        no-clash = apart-kept;
        few = program-few i tree;
      }

  hands-all : {room room' : List ℕ} {a : Answer} → length (text_for text names (program tree)) ≤ length room
      → a ≡ answered (length (program tree)) (length (text_for text names (program tree)))
      → room' ≡ text_for text names (program tree) ++ drop (length (text_for text names (program tree))) room
      → HandedBack tree text names room room' a
  hands-all n y c =
      record {
        full = (λ e. clash (sym y ∙ e), λ k. absurd (let z : ⊥ = omega (arith, n, k) in z));
        told = (λ e. n, λ k. y);
        wrote = λ k. c;
        reads = text-reads i tree l;
        only = λ cs r. reads-one r (text-reads i tree l);
        answers = answers-kept;
        no-clash = apart-kept;
        few = program-few i tree;
      }

-- the refusals for the names and for the room, as the entry gives them
abbrev no-list : Result ProgramSize Refusal
no-list = Err (record { reason = reason.Names; input = input.Names; place = 0 })

abbrev short : ℕ → Result ProgramSize Refusal
short n = Err (record { reason = reason.Room; input = input.Lent; place = n })

module _ {t p text names room : List ℕ} where
  by_names : {w : ℕ} {rows : List (List ℕ)} → IsTable t w rows → (tree : Plan w rows) → write tree ≡ p → (Listed text names rows → ⊥)
      → Handed t p text names room room no-list
  by_names {w} {rows} i tree h l = no_names (table w rows) (asked-read i tree h) l refl refl

  by-room : {w : ℕ} {rows : List (List ℕ)} → IsTable t w rows → (tree : Plan w rows) → write tree ≡ p → Listed text names rows
      → length room < length (text_for text names (program tree))
      → Handed t p text names room room (short (length (text_for text names (program tree))))
  by-room {w} {rows} i tree h l n = no_room (table w rows) tree (asked-read i tree h) (sym h) l n refl refl

  module _ {room' : List ℕ} {r : Result ProgramSize Refusal} (x : Handed t p text names room room' r) where
    turned-why : (f : Refused) → hand_told r ≡ turned f → ClausesTurned t p text names room f
    turned-why f e = go x
      where
        go : Handed t p text names room room' r → ClausesTurned t p text names room f
        go (refusal h a y c) = asked-turned (a ∙ ap refuse (turned-one (sym y ∙ e)))
        go (no_names T a l y c) =
            let k = asked-tree t p a in
            bad-names (asked-table t p a) k.0 k.1 ((unlisted text names T.rows).0 l) (sym (turned-one (sym y ∙ e)))
        go (no_room T tree a u l n y c) = bad-room (asked-table t p a) tree (sym u) l n (sym (turned-one (sym y ∙ e)))
        go (handed T tree a u l n y c) = clash (sym y ∙ e)

    as-refused : {h : Refused} → hand_of t p ≡ refuse h → hand_told r ≡ turned h
    as-refused {h} e = go x
      where
        go : Handed t p text names room room' r → hand_told r ≡ turned h
        go (refusal g a y c) = y ∙ ap turned (refuse-one (sym a ∙ e))
        go (no_names T a l y c) = apart (sym a ∙ e)
        go (no_room T tree a u l n y c) = apart (sym a ∙ e)
        go (handed T tree a u l n y c) = apart (sym a ∙ e)

    turned-gets : (f : Refused) → ClausesTurned t p text names room f → hand_told r ≡ turned f
    turned-gets f (bad-table e) = as-refused (hand-table t p e)
    turned-gets f (bad-plan i h) = as-refused (hand-plan t p (reads i) (rw (reads i) at h))
    turned-gets f (bad-names {rows = rows} i tree h u q) =
        ap hand_told (handed-fixed x (by_names i tree h ((unlisted text names rows).1 u))).0 ∙ ap turned (sym q)
    turned-gets f (bad-room i tree h l n q) = ap hand_told (handed-fixed x (by-room i tree h l n)).0 ∙ ap turned (sym q)

    untouched-by : (f : Refused) → hand_told r ≡ turned f → room' ≡ room
    untouched-by f e = go x
      where
        go : Handed t p text names room room' r → room' ≡ room
        go (refusal h a y c) = c
        go (no_names T a l y c) = c
        go (no_room T tree a u l n y c) = c
        go (handed T tree a u l n y c) = clash (sym y ∙ e)

    refuses-kept : ClausesRefused t p text names room room' (hand_told r)
    refuses-kept = record { refuses = λ f. (turned-why f, turned-gets f); untouched = untouched-by }

    hands-kept : HandsBack t p text names room room' (hand_told r)
    hands-kept w rows tree i h l =
        by_cases (dec_lt (length room) (length (text_for text names (program tree))))
        (λ (n : length room < length (text_for text names (program tree))).
        hands-short i tree l n (ap hand_told (handed-fixed x (by-room i tree h l n)).0))
        (λ n. (let m : length (text_for text names (program tree)) ≤ length room = omega arith in enough m))
      where
        enough : length (text_for text names (program tree)) ≤ length room → HandedBack tree text names room room' (hand_told r)
        enough m =
            let T = text_for text names (program tree) in
            let y : Handed t p text names room (T ++ drop (length T) room) (Ok (record { clauses = length (program tree); bytes = length T })) =
            handed (table w rows) tree (asked-read i tree h) (sym h) l m refl refl in
            let z = handed-fixed x y in
            hands-all i tree l m (ap hand_told z.0) z.1

module _ {t p text names room room' : List ℕ} {n : ℕ} (x : ClausesCoded t p text names room room' n) where
  pub request-210-refuses : ClausesRefused t p text names room room' (decoded n)
  request-210-refuses = subst (ClausesRefused t p text names room room') (sym (clauses-back x)) (refuses-kept x.handed)

  pub request-210-hands : HandsBack t p text names room room' (decoded n)
  request-210-hands = subst (HandsBack t p text names room room') (sym (clauses-back x)) (hands-kept x.handed)
