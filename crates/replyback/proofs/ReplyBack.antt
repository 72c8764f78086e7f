-- "The text of an answer is a promised, total library function (cells and the list of names to bytes, and W-201's reader of that text gives
-- the cells back: a theorem)". Here for every reply: of an accepted text of facts, an accepted goal's text, and a row that the goal hits.
use Prim.Native.Nat.{ℕ, ◌≤◌}
use mathlib.Core.Path.{◌≡◌, refl, sym, ap, subst}
use mathlib.Core.Logic.{⊎_elim}
use mathlib.Core.List.Memᴰ
use mathlib.Core.List.{List, Memᴰ}
use native.Mathlib.Omega.{arith}
use lib.ListN.{length, length-append}
use borrow.Author.Tests.{le-leb}
use Rattle.cell.proofs.CellLaws.{not-var}
use Rattle.refusal.specs.Read.{read}
use Rattle.term.specs.Terms.{Terms}
use Rattle.term.proofs.Inst.{Terms-inst}
use Rattle.term.proofs.TermsLaws.{Terms-number}
use Rattle.table.specs.All.{All}
use Rattle.table.specs.Table.{Table, table_of, Row, IsGoal}
use Rattle.table.proofs.AllLaws.{all-member}
use Rattle.table.proofs.Accepted.{is-table, is-goal}
use Rattle.grammar.specs.Grammar.{Fact}
use Rattle.grammar.specs.Meaning.{table_cells, name_list}
use Rattle.grammar.specs.Numbering.{Words, Nth, here, later}
use Rattle.grammar.specs.Taken.{Taken, taken}
use Rattle.loading.specs.Load.{Loaded, Loads, loads}
use Rattle.lex.specs.Names.{IsName}
use Rattle.termtext.specs.Saying.{words_in, words_of, predicate_in, IsAnswer, said_in, known}
use Rattle.termtext.specs.Goal as asking
use Rattle.termtext.specs.Goal.{Goal, Asks, GoalRead}
use Rattle.termtext.specs.declared.Predicate.{Predicate}
use Rattle.termtext.proofs.Back.{back}
use Rattle.termtext.proofs.One.{asks-one}
use Rattle.instance.specs.Reply.{Reply, Replies, Short, none, hit, miss}
use Rattle.instance.proofs.ReplyLaws.{reply-terms, reply-symbols, reply-cells}
use Rattle.replyback.specs.ReadBack.{ReadBack}
use Rattle.replyback.proofs.ListedLaws.{Listed, table-listed}
use Rattle.replyback.proofs.WordLaws.{Names, table-words, table-names, goal-names, goal-listed, goal-called}

-- what holds of each of a list holds of one
all-nth : {A : Type 0} (P : A → Type 0) {xs : List A} {k : ℕ} {x : A} → All P xs → Nth xs k x → P x
all-nth P a here = a.0
all-nth P a (later h) = all-nth P a.1 h

-- A REPLY is an answer, where it has at most 1,024 cells
reply-answer : {words : Words} {predicate row goal cells : List ℕ} {w : ℕ} → 1 ≤ w → Row w row → IsGoal w goal → Reply row goal cells
    → Short cells → Listed (length words) row → Listed (length words) goal → Names words → IsName predicate → IsAnswer words predicate w cells
reply-answer some r g p short l m n called =
    record {
      some = some;
      terms = reply-terms r g p;
      good = reply-cells r g p short;
      order = p.order;
      listed = λ c i k. ⊎_elim (λ j. l c j k) (λ j. m c j k) (reply-symbols r g p c i (not-var c (λ e. omega arith)));
      called = called;
      names = λ k w. all-nth IsName n.each;
      apart = λ j k w. n.parted.one j k w tt;
    }

-- a row and a goal with a reply have one width
one_width : {v w : ℕ} {row goal cells : List ℕ} → Terms v row → Terms w goal → Reply row goal cells → v ≡ w
one_width {v} {w} t u p =
    let i = p.instance.common.first in
    let j = p.instance.common.second in
    Terms-number (subst (Terms v) i.same (Terms-inst i.good t)) (subst (Terms w) j.same (Terms-inst j.good u))

-- every reply to a goal's text, from a row of a table's text, is an answer by the words of both
pub reply-is-answer : {text goal cells row : List ℕ} {facts : List Fact} {T : Table} {predicate : List ℕ} {width : ℕ} {G : Goal}
    → Taken text (read facts) → table_of (table_cells text facts) ≡ read T
    → GoalRead (words_in text (name_list text facts)) predicate width goal (read G) → Memᴰ row T.rows → Reply row G.cells cells
    → Short cells → IsAnswer (words_of text (name_list text facts) goal G.new) predicate width cells
reply-is-answer {text} {goal} {row = row} {facts} {T} {G = G} (taken few x o) e (asking.is-goal short a i) m p s =
    let t = is-table (table_cells text facts) e in
    let r = all-member (Row T.width) T.rows t.each m in
    let g = (is-goal _ G.cells i).0 in
    let w = one_width r.terms g.head.terms p in
    let r' = subst (λ (n : ℕ). Row n row) w r in
    let some = subst (λ (n : ℕ). 1 ≤ n) w t.width.0 in
    let n = ap length (table-words text facts few x) in
    let k = length-append (words_in text (name_list text facts)) (words_in goal G.new) in
    reply-answer some r' g p s (λ c i q. (let z = table-listed text facts e m c i q in omega arith)) (goal-listed short a g.head.short)
    (goal-names short a (table-names text facts few x)) (goal-called short a)

-- THE THEOREM, for the reply of a row that the goal hits
pub reply-back : {text goal cells row : List ℕ} {c n : ℕ} {L : Loaded} {T : Table} {G : Goal} (p : Predicate)
    → Loads text c n (read L) → table_of L.cells ≡ read T
    → GoalRead (words_in text L.names) (predicate_in text p) p.width goal (read G)
    → Memᴰ row T.rows → Reply row G.cells cells → Short cells → ReadBack text L p goal G cells
unfolding said_in
reply-back {text} {goal} {cells} {G = G} p (loads {facts = facts} x b d f) e q m r s H =
    let a = reply-is-answer x e q m r s in
    let words = words_of text (name_list text facts) goal G.new in
    let said = said_in text (name_list text facts) goal G.new p cells in
    let reads : Asks words (predicate_in text p) p.width said (known cells) = rw (le-leb (length cells) 1024 s) (back a) in (
      λ h. asks-one words (predicate_in text p) p.width said h reads,
      λ z. subst (Asks words (predicate_in text p) p.width said) (sym z) reads,
    )

-- and for each of the replies that W-203's entry writes: none has over 1,024 cells (W-209, BIG)
replies-row : {goal cells : List ℕ} {rows all : List (List ℕ)} → Replies goal rows all → Memᴰ cells all
    → (row : List ℕ) × Memᴰ row rows × Reply row goal cells
replies-row none m = absurd (Memᴰ.not-nil m)
replies-row {goal} (hit {row = row} h r rs) m =
    ⊎_elim (λ p. (row, Memᴰ.head refl, subst (Reply row goal) (sym p) r))
    (λ q. (let x = replies-row rs q in (x.0, Memᴰ.tail x.1, x.2))) (Memᴰ.cases_cons m)
replies-row (miss h rs) m = let x = replies-row rs m in (x.0, Memᴰ.tail x.1, x.2)

pub replies-back : {text goal cells : List ℕ} {all : List (List ℕ)} {c n : ℕ} {L : Loaded} {T : Table} {G : Goal} (p : Predicate)
    → Loads text c n (read L) → table_of L.cells ≡ read T
    → GoalRead (words_in text L.names) (predicate_in text p) p.width goal (read G)
    → Replies G.cells T.rows all → Memᴰ cells all → Short cells → ReadBack text L p goal G cells
replies-back p l e q rs m s = let x = replies-row rs m in reply-back p l e q x.1 x.2 s
