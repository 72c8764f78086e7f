-- The text of a program is short: fewer than 2^29 bytes. A program has at most 127 clauses, a clause two atoms of at most 32 cells, a cell's
-- word fewer than 65,539 bytes and two around it (counted roughly: a number n has at most n + 1 digits), and no predicate's number is above
-- that of the clauses.
use Prim.Native.Nat.{ℕ, zero, suc, ◌+◌, ◌-◌, ◌*◌, ◌/◌, ◌%◌, ◌^◌, ◌≤◌, ◌<◌}
use mathlib.Core.Path.{◌≡◌, refl}
use mathlib.Core.Bool.{Bool, true, false, cond}
use mathlib.Core.List.{List, [], ◌∷◌, ◌++◌}
use native.Mathlib.Omega.{arith}
use lib.Dec.{ltb}
use lib.IntN.{pos, negsuc}
use lib.ListN.{length, get_or, length-append}
use lib.Seq.{length-slice}
use Rattle.cell.specs.Cell.{values_at}
use Rattle.cell.specs.Signed.{signed_of}
use Rattle.cell.proofs.CellLaws.{built-variable, built-name, built-number}
use Rattle.table.specs.All.{All}
use Rattle.table.proofs.AllLaws.{all-++}
use Rattle.table.specs.Table.{IsTable}
use Rattle.plan.specs.Plans.{Plan}
use Rattle.octets.specs.Octets.{digits_of, decimal}
use Rattle.printing.specs.Printing.{signed_decimal}
use Rattle.grammar.specs.Numbering.{Words, Nth, here, later}
use Rattle.termtext.specs.Saying.{words_in, symbol_word}
use Rattle.termtext.proofs.SayLaws.{Good, good-variable, good-name, good-number, Goods}
use Rattle.clauses.specs.Clauses.{Body, nothing, calls, Clause, handed}
use Rattle.clauses.specs.Translate.{Predicate, done, fact, rule, predicate}
use Rattle.clauses.specs.Program.{callees, own, below, numbered, program}
use Rattle.clauses.specs.Text.{predicate_word}
use Rattle.clauses.specs.Handed.{Listed, text_for}
use Rattle.clauses.specs.code.Size.{cell_bytes, line_bytes, program_bytes}
use Rattle.clauses.proofs.ReadLaws.{Printed, fact-printed, rule-printed}
use Rattle.clauses.proofs.SizeLaws.{program-long}
use Rattle.clauses.proofs.Theorems.{program-few, program-printed}

-- THE PREDICATES' NUMBERS
called : Body → ℕ
called nothing = 0
called (calls j) = j

record Low (b : ℕ) (c : Clause) : Type 0 where
  own-low : c.predicate ≤ b
  called-low : called c.body ≤ b

clauses-low : (b k w n : ℕ) (P : Predicate) → k ≤ b → n + callees P ≤ suc b → All (Low b) (own k w n P)
unfolding own callees called
clauses-low b k w n done h l = tt
clauses-low b k w n (fact x P) h l = (record { own-low = h; called-low = omega arith }, clauses-low b k w n P h l)
clauses-low b k w n (rule x Q P) h l =
    (record { own-low = h; called-low = omega arith }, clauses-low b k w (n + suc (callees Q)) P h (omega arith))

below-low : (b n : ℕ) (P : Predicate) → n + callees P ≤ suc b → All (Low b) (below n P)
unfolding below callees
below-low b n done l = tt
below-low b n (fact x P) l = below-low b n P l
below-low b n (rule x Q P) l =
    let w = length (handed x) in
    all-++ (Low b) (own n w (suc n) Q) (below (suc n) Q ++ below (n + suc (callees Q)) P) (clauses-low b n w (suc n) Q (omega arith) (omega arith))
    (all-++ (Low b) (below (suc n) Q) (below (n + suc (callees Q)) P) (below-low b (suc n) Q (omega arith))
    (below-low b (n + suc (callees Q)) P (omega arith)))

-- each called predicate has the clause that calls it
called-few : (k w n : ℕ) (P : Predicate) → callees P ≤ length (own k w n P) + length (below n P)
unfolding own below callees
called-few k w n done = omega arith
called-few k w n (fact x P) = omega (arith, called-few k w n P)
called-few k w n (rule x Q P) =
    let v = length (handed x) in
    let A = own n v (suc n) Q in
    let B = below (suc n) Q in
    let C = below (n + suc (callees Q)) P in
    omega (arith, called-few n v (suc n) Q, called-few k w (n + suc (callees Q)) P, length-append A (B ++ C), length-append B C)

numbered-low : (w b : ℕ) (P : Predicate) → length (numbered w P) ≤ b → All (Low b) (numbered w P)
unfolding numbered
numbered-low w b P l =
    let e : callees P ≤ b = omega (arith, called-few 0 w 1 P, length-append (own 0 w 1 P) (below 1 P)) in
    all-++ (Low b) (own 0 w 1 P) (below 1 P) (clauses-low b 0 w 1 P (omega arith) (omega arith)) (below-low b 1 P (omega arith))

-- WORDS
digits-few : (k n : ℕ) → length (digits_of k n) ≤ k
unfolding digits_of
digits-few zero n = omega arith
digits-few (suc k) n = go (ltb n 10) (digits-few k (n / 10))
  where
    go : (b : Bool) → length (digits_of k (n / 10)) ≤ k → length (cond b ((48 + n) ∷ []) (digits_of k (n / 10) ++ ((48 + n % 10) ∷ []))) ≤ suc k
    go true h = omega arith
    go false h = omega (arith, length-append (digits_of k (n / 10)) ((48 + n % 10) ∷ []))

decimal-few : (n : ℕ) → length (decimal n) ≤ suc n
unfolding decimal
decimal-few n = digits-few (suc n) n

word-few : (k : ℕ) → length (predicate_word k) ≤ 4 + k
word-few k = omega (arith, decimal-few k, length-append (decimal k) (39 ∷ []))

signed-few : (n : ℕ) → n < 2 ^ 16 → length (signed_decimal (signed_of n)) ≤ 65538
signed-few n h = go (ltb n 32768)
  where
    go : (b : Bool) → length (signed_decimal (cond b (pos n) (negsuc (65535 - n)))) ≤ 65538
    go true = omega (arith, decimal-few n)
    go false = omega (arith, decimal-few (suc (65535 - n)))

-- every word of a list has at most 65,535 bytes
record Brief (words : Words) : Type 0 where
  brief : (k : ℕ) (w : List ℕ) → Nth words k w → length w ≤ 65535

nth-get_d : {words : Words} {k : ℕ} {w : List ℕ} → Nth words k w → get_or words k [] ≡ w
nth-get_d here = refl
nth-get_d (later h) = nth-get_d h

module _ (words : Words) (b : Brief words) where
  symbol-few : {c : ℕ} → Good words c → length (symbol_word words (values_at c)) ≤ 65538
  unfolding symbol_word
  symbol-few (good-variable {n} h) = rw (built-variable n h) (omega (arith, decimal-few n))
  symbol-few (good-name {a} {k} {w} l h m s) = rw (built-name a k l h, nth-get_d m) (omega (arith, b.brief k w m))
  symbol-few (good-number {n} h) = rw (built-number n h) (signed-few n h)

  cells-few : (cells : List ℕ) → Goods words cells → cell_bytes words cells ≤ 65540 * length cells
  unfolding cell_bytes
  cells-few [] g = omega arith
  cells-few (c ∷ cells) g = omega (arith, symbol-few g.0, cells-few cells g.1)

  -- 4,194,828 is twice a predicate's word and 32 cells, and 6 for what stands between and after
  line-few : {c : Clause} → Printed words c → Low 127 c → line_bytes words c ≤ 4194828
  unfolding called
  line-few (fact-printed {k} {w} {head} h n) l = omega (arith, word-few k, l.own-low, cells-few head h.goods, h.short)
  line-few (rule-printed {k} {w} {j} {n} {head} h m g c) l =
      let a = cells-few head h.goods in
      let b = cells-few (handed head) g.goods in
      omega (arith, word-few k, word-few j, l.own-low, l.called-low, h.short, g.short)

  lines-few : (cs : List Clause) → All (Printed words) cs → All (Low 127) cs → program_bytes words cs ≤ 4194828 * length cs
  unfolding program_bytes
  lines-few [] p l = omega arith
  lines-few (c ∷ cs) p l = omega (arith, line-few p.0 l.0, lines-few cs p.1 l.1)

-- a name of W-201's list has 16 bits for its bytes
word-brief : (text names : List ℕ) → ((k n : ℕ) → Nth names k n → n % 65536 + n / 65536 ≤ length text) → ((k : ℕ) → get_or names k 0 < 2 ^ 32)
    → (k : ℕ) (w : List ℕ) → Nth (words_in text names) k w → length w ≤ 65535
word-brief text (n ∷ names) h s k w here =
    let e = length-slice (n % 65536) (n % 65536 + n / 65536) text (h 0 n here) in
    omega (arith, s 0)
word-brief text (n ∷ names) h s (suc k) w (later m) = word-brief text names (λ j x y. h (suc j) x (later y)) (λ j. s (suc j)) k w m
word-brief text [] h s k w x3 = elim x3 [ ]

-- so where the names are listed, each a number of 32 bits
pub text-small : {t : List ℕ} {w : ℕ} {rows : List (List ℕ)} → IsTable t w rows → (tree : Plan w rows) → {text names : List ℕ}
    → Listed text names rows → ((k : ℕ) → get_or names k 0 < 2 ^ 32) → length (text_for text names (program tree)) < 2 ^ 29
text-small {w = w} i tree {text} {names} l s =
    let p = program-printed i tree l in
    let n = program-few i tree in
    let words = words_in text names in
    let b : Brief words = record { brief = word-brief text names (λ k x m. (l.places k x m).0) s } in
    omega (arith, lines-few words b (program tree) p (numbered-low w 127 (predicate tree) n), program-long words (program tree) p)
