-- W-210's theorem for accepted tables, plans and goals: what the clauses of the plan answer to the goal is W-203's replies, in row order; and there is
-- exactly one such list.
use Prim.Native.Nat.{ℕ, zero, suc, ◌+◌, ◌*◌, ◌^◌, ◌≤◌, ◌<◌}
use mathlib.Core.Path.{◌≡◌, refl, sym, ap, subst}
use mathlib.Core.Logic.{◌↔◌}
use mathlib.Core.List.{List, [], ◌∷◌, map, Memᴰ}
use native.Mathlib.Omega.{arith}
use lib.ListN.{length, get_or, length-map}
use Rattle.cell.specs.Cell.{kind_of, number_of}
use Rattle.term.specs.Terms.{Terms}
use Rattle.table.specs.All.{All}
use Rattle.table.proofs.AllLaws.{all-each, all_both}
use Rattle.table.specs.Table.{Head, IsTable, IsGoal}
use Rattle.table.proofs.Accepted.{few-variables}
use Rattle.plan.specs.Plans.{Plan, node, leaves, OneRow}
use Rattle.plan.proofs.OneRow.{one-row, leaf-each}
use Rattle.answer.proofs.Decided.{hits-by, row-terms}
use Rattle.instance.specs.Reply as replies
use Rattle.instance.specs.Reply.{Numbered, Replies}
use Rattle.instance.proofs.Variants.{replies-one}
use Rattle.instance.proofs.Apart.{Below, matches-common, common-matches}
use Rattle.instance.proofs.StartLaws.{renamed-terms}
use Rattle.instance.proofs.RepliesLaws.{picks-given}
use Rattle.grammar.specs.Numbering.{Words, Nth, here, later}
use Rattle.lex.specs.Names.{IsName}
use Rattle.termtext.specs.Saying.{word_in, words_in}
use Rattle.termtext.proofs.SayLaws.{Goods}
use Rattle.termtext.proofs.Back.{Named, cells-good}
use Rattle.clauses.specs.Answers.{Answers}
use Rattle.clauses.specs.Translate.{predicate}
use Rattle.clauses.specs.Program.{program}
use Rattle.clauses.specs.Reading.{Reads}
use Rattle.clauses.specs.Handed.{Listed, text_for}
use Rattle.clauses.proofs.CallLaws.{Hits, none, hit, miss, Means}
use Rattle.clauses.proofs.SeatLaws.{Seat, seat-row}
use Rattle.clauses.proofs.MeansLaws.{clauses-mean}
use Rattle.clauses.proofs.NumberedLaws.{numbered-answers}
use Rattle.clauses.proofs.ReadLaws.{Printed, program-reads}
use Rattle.clauses.proofs.WalkLaws.{program-visited}
use Rattle.clauses.proofs.CountLaws.{walked-long}
use Rattle.clauses.proofs.PrintLaws.{numbered-printed, predicate-fine}

-- THE TEXT
nth-map : {f : ℕ → List ℕ} (xs : List ℕ) {k : ℕ} {w : List ℕ} → Nth (map f xs) k w → (n : ℕ) × Nth xs k n × (w ≡ f n)
nth-map (x ∷ xs) here = (x, here, refl)
nth-map (x ∷ xs) (later h) = let z = nth-map xs h in (z.0, later z.1, z.2)
nth-map {f = f} [] {k = k} {w = w} x' = elim x' [ ]

plan-fine : (words : Words) {rows : List (List ℕ)} (w : ℕ) → 1 ≤ w → (p : Plan w rows) → OneRow p → All (Seat w) rows → 0 < length rows
    → All (λ (r : List ℕ). Goods words r × Numbered r) rows → All (Printed words) (program p)
plan-fine words zero h p o a s x = absurd (omega arith)
plan-fine words (suc k) h p o a s x = numbered-printed words (predicate-fine words p o a s x)

-- at most 127 clauses
plan-few : {rows : List (List ℕ)} (w : ℕ) → 1 ≤ w → (p : Plan w rows) → OneRow p → All (Seat w) rows → 0 < length rows
    → suc (length (program p)) ≤ 2 * length rows
unfolding leaves
plan-few zero h p o a s = absurd (omega arith)
plan-few {rows} (suc k) h (node i l bs) o a s =
    let e = ap length (program-visited rows i l bs a s) in
    let f = walked-long rows i bs s in
    let g = leaf-each (node {rows = rows} i l bs) o in
    omega arith

-- something in common is a hit
low : {w : ℕ} {xs : List ℕ} → Head w xs → Below (2 ^ 16) xs
low h = record { vars = λ c m v. (let l = few-variables h c m v in omega arith) }

module _ {w : ℕ} {goal : List ℕ} (g : Head w goal) where
  hits-replies : {rows all : List (List ℕ)} → All (Head w) rows → Hits goal rows all → Replies goal rows all
  hits-replies a none = replies.none
  hits-replies a (hit r h) = replies.hit (common-matches (low a.0) (low g) r.instance.common) r (hits-replies a.1 h)
  hits-replies a (miss n h) = replies.miss (λ m. (let c = matches-common (low g) m in n c.0 c.1)) (hits-replies a.1 h)

  replies-hits : {rows all : List (List ℕ)} → All (Head w) rows → Replies goal rows all → Hits goal rows all
  replies-hits a replies.none = none
  replies-hits a (replies.hit m r h) = hit r (replies-hits a.1 h)
  replies-hits a (replies.miss n h) = miss (λ zs c. n (common-matches (low a.0) (low g) c)) (replies-hits a.1 h)

plan-means : {rows : List (List ℕ)} (w : ℕ) → 1 ≤ w → (p : Plan w rows) → OneRow p → All (Seat w) rows → 0 < length rows
    → Means (predicate p) w (32 * length rows) rows
plan-means zero h p o a s = absurd (omega arith)
plan-means (suc k) h p o a s = clauses-mean p o a s

module _ {t : List ℕ} {w : ℕ} {rows : List (List ℕ)} (i : IsTable t w rows) (tree : Plan w rows) where
  means : Means (predicate tree) w (32 * length rows) rows
  means =
      plan-means w i.width.0 tree (one-row tree (all-each (Head w) (Terms w) (λ r x. x.terms) rows i.each) i.apart i.count.0)
      (all-each (Head w) (Seat w) (seat-row w) rows i.each) i.count.0

  pub program-few : length (program tree) ≤ 127
  program-few =
      let f = plan-few w i.width.0 tree (one-row tree (all-each (Head w) (Terms w) (λ r x. x.terms) rows i.each) i.apart i.count.0)
      (all-each (Head w) (Seat w) (seat-row w) rows i.each) i.count.0 in
      let n = i.count.1 in
      omega arith

module _ {t : List ℕ} {w : ℕ} {rows : List (List ℕ)} (i : IsTable t w rows) (tree : Plan w rows) {goal : List ℕ} (g : IsGoal w goal) where
  -- 02, "prove that for every goal it is the goal's common instance (W-203) with each hit row, in row order"
  pub clauses-answer : (all : List (List ℕ)) → Answers (program tree) 0 goal all ↔ Replies goal rows all
  clauses-answer all = (
    λ x. hits-replies g.head i.each ((means i tree).told goal all ((numbered-answers w (predicate tree) goal all).0 x)),
    λ x. (numbered-answers w (predicate tree) goal all).1
        ((means i tree).tells 32 goal all g.head.terms (record { vars = few-variables g.head }) (let l = i.count.1 in
        omega arith) (replies-hits g.head i.each x)),
  )

  -- and that is one list
  pub answers_one : {xs ys : List (List ℕ)} → Answers (program tree) 0 goal xs → Answers (program tree) 0 goal ys → xs ≡ ys
  answers_one x y = replies-one ((clauses-answer _).0 x) ((clauses-answer _).0 y)

  pub answers-some : (all : List (List ℕ)) × Answers (program tree) 0 goal all
  answers-some =
      let p = hits-by w goal (renamed-terms g.head.terms (low g.head)) rows 0 (row-terms w rows i.each) in
      let z : (j : ℕ) → get_or rows (0 + j) [] ≡ get_or rows j [] = λ j. ap (λ (m : ℕ). get_or rows m []) (let e : 0 + j ≡ j = omega arith in e) in
      let r = picks-given (λ (j : ℕ). get_or rows j []) g (length rows) {rows = rows} {f = 0} i.each (omega arith) z p in
      (r.all, (clauses-answer r.all).1 r.replies)

-- 02, "Names come from W-201's list": where the names are listed, the text that is handed back reads as the program
module _ {t : List ℕ} {w : ℕ} {rows : List (List ℕ)} (i : IsTable t w rows) (tree : Plan w rows) {text names : List ℕ} (l : Listed text names rows) where
  abbrev words : Words
  words = words_in text names

  pub named : Named words
  named k u n = let z = nth-map names n in subst IsName (sym z.2) (l.places k z.0 z.1).1

  good : (r : List ℕ) → Head w r × ((c : ℕ) → Memᴰ c r → kind_of c ≡ 1 → number_of c < length names) → Goods words r × Numbered r
  good r x =
      let e : length words ≡ length names = length-map names (word_in text) in
      (cells-good words r x.0.cells (λ c m k. (let z = x.1 c m k in omega arith)) named, x.0.order)

  pub program-printed : All (Printed words) (program tree)
  program-printed =
      plan-fine words w i.width.0 tree (one-row tree (all-each (Head w) (Terms w) (λ r x. x.terms) rows i.each) i.apart i.count.0)
      (all-each (Head w) (Seat w) (seat-row w) rows i.each) i.count.0
      (all-each (λ (r : List ℕ). Head w r × ((c : ℕ) → Memᴰ c r → kind_of c ≡ 1 → number_of c < length names))
      (λ (r : List ℕ). Goods words r × Numbered r) good rows
      (all_both (Head w) (λ (r : List ℕ). (c : ℕ) → Memᴰ c r → kind_of c ≡ 1 → number_of c < length names) rows i.each l.known))

  pub text-reads : Reads words (text_for text names (program tree)) (program tree)
  text-reads = program-reads words l.apart (program tree) program-printed
