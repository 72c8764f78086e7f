-- How many bytes the text of a program has.
use Prim.Native.Nat.{ℕ, zero, suc, ◌+◌, ◌-◌, ◌≤◌}
use mathlib.Core.Path.{◌≡◌, refl, ap}
use mathlib.Core.Bool.{false}
use mathlib.Core.List.{List, [], ◌∷◌, ◌++◌}
use native.Mathlib.Omega.{arith}
use lib.Dec.{leb}
use lib.ListN.{length, length-append}
use borrow.Author.Tests.{lt-leb}
use Rattle.cell.specs.Cell.{arity, values_at}
use Rattle.term.specs.Terms.{Terms}
use Rattle.term.proofs.TermsLaws.{Terms-1, zero-nil, nil-zero}
use Rattle.table.specs.All.{All}
use Rattle.grammar.specs.Numbering.{Words}
use Rattle.termtext.specs.Saying.{symbol_word, closing, owing, mark_after, owed_after, terms_text, answer_text}
use Rattle.clauses.specs.Clauses.{calls, Clause, handed}
use Rattle.clauses.specs.Text.{predicate_word, atom_text, body_text, line_text, program_text}
use Rattle.clauses.specs.code.Size.{cell_bytes, atom_bytes, line_bytes, program_bytes}
use Rattle.clauses.proofs.ReadLaws.{Printed, fact-printed, rule-printed}

-- so many terms are left where these are owed, the one under way being counted in each bracket
rest : List ℕ → ℕ
rest [] = 0
rest (n ∷ owed) = n - 1 + rest owed

data Some : List ℕ → Type 0 where
  one : {n : ℕ} → 1 ≤ n → Some (n ∷ [])
  over : {n : ℕ} {owed : List ℕ} → 1 ≤ n → Some owed → Some (n ∷ owed)

-- after a complete term: all brackets are closed, or a comma follows
data Closed (owed : List ℕ) : Type 0 where
  shut : length (closing owed) ≡ length owed → owing owed ≡ [] → rest owed ≡ 0 → Closed owed
  comma : length (closing owed) + length (owing owed) ≡ length owed + 2 → Some (owing owed) → suc (rest (owing owed)) ≡ rest owed
      → Closed owed

put-comma : (n : ℕ) (owed : List ℕ) → (closing (suc (suc n) ∷ owed) ≡ 44 ∷ 32 ∷ []) × (owing (suc (suc n) ∷ owed) ≡ suc n ∷ owed)
unfolding closing owing
put-comma n owed =
    let e : leb (suc (suc n)) 1 ≡ false = lt-leb (suc (suc n)) 1 (omega arith) in
    let z : suc (suc n) - 1 ≡ suc n = omega arith in
    (rw e, rw (e, z))

closed : {owed : List ℕ} → Some owed → Closed owed
unfolding closing owing rest
closed (one {n} h) = go n h
  where
    go : (n : ℕ) → 1 ≤ n → Closed (n ∷ [])
    go zero h = absurd (omega arith)
    go (suc zero) h = shut refl refl refl
    go (suc (suc n)) h =
        let p = put-comma n [] in
        comma (rw (p.0, p.1)) (rw p.1 (one {n = suc n} (omega arith))) (rw p.1 (omega arith))
closed (over {n} {owed} h s) = go n h (closed s)
  where
    go : (n : ℕ) → 1 ≤ n → Closed owed → Closed (n ∷ owed)
    go zero h c = absurd (omega arith)
    go (suc zero) h (shut a b c) = shut (ap suc a) b (omega arith)
    go (suc zero) h (comma a b c) = comma (omega arith) b (omega arith)
    go (suc (suc n)) h c =
        let p = put-comma n owed in
        comma (rw (p.0, p.1) (omega arith)) (rw p.1 (over {n = suc n} (omega arith) s)) (rw p.1 (omega arith))

-- one cell with what stands after it
add-up : (W M T owed : List ℕ) (b : ℕ) → length M + length T + 2 ≡ 2 + b + length owed
    → length (W ++ (M ++ T)) + 2 ≡ length W + 2 + b + length owed
add-up W M T owed b e = omega (arith, length-append W (M ++ T), length-append M T)

long : (words : Words) (cells owed : List ℕ) → Some owed → Terms (suc (rest owed)) cells
    → length (terms_text words owed cells) + 2 ≡ cell_bytes words cells + length owed
unfolding terms_text cell_bytes rest
long words [] owed s t = absurd (let z = nil-zero t in let y : ⊥ = omega arith in y)
long words (c ∷ cs) owed s t =
    add-up (symbol_word words (values_at c)) (mark_after (arity c) owed) (terms_text words (owed_after (arity c) owed) cs) owed (cell_bytes words cs)
    (go (arity c) refl (closed s) (λ o p. long words cs o p) (Terms-1 t))
  where
    none_left : (o : List ℕ) → o ≡ [] → cs ≡ [] → length (terms_text words o cs) ≡ 0
    none_left o e f = rw (e, f)

    go : (a : ℕ) → arity c ≡ a → Closed owed
        → ((o : List ℕ) → Some o → Terms (suc (rest o)) cs → length (terms_text words o cs) + 2 ≡ cell_bytes words cs + length o)
        → Terms (arity c + rest owed) cs
        → length (mark_after a owed) + length (terms_text words (owed_after a owed) cs) + 2 ≡ 2 + cell_bytes words cs + length owed
    go zero e (shut a b r) ih u =
        let z : cs ≡ [] = zero-nil (rw (e, r) at u) in
        let y = none_left (owing owed) b z in
        let x : cell_bytes words cs ≡ 0 = rw z in
        omega arith
    go zero e (comma a b r) ih u =
        let w : 0 + rest owed ≡ suc (rest (owing owed)) = omega arith in
        let y = ih (owing owed) b (rw (e, w) at u) in
        omega arith
    go (suc a) e k ih u =
        let w : suc a + rest owed ≡ suc (rest (suc a ∷ owed)) = omega arith in
        let y = ih (suc a ∷ owed) (over {n = suc a} (omega arith) s) (rw (e, w) at u) in
        omega arith

pub answer-long : (words : Words) (p : List ℕ) (k : ℕ) (cells : List ℕ) → Terms (suc k) cells
    → length (answer_text words p (suc k) cells) ≡ length p + cell_bytes words cells
unfolding answer_text rest
answer-long words p k cells t =
    let e : suc (rest (suc k ∷ [])) ≡ suc k = omega arith in
    let y = long words cells (suc k ∷ []) (one {n = suc k} (omega arith)) (rw e t) in
    omega (arith, length-append p (40 ∷ terms_text words (suc k ∷ []) cells))

line-long : (words : Words) {c : Clause} → Printed words c → length (line_text words c) ≡ line_bytes words c
line-long words (fact-printed {k} {w} {head} h n) =
    omega (arith, answer-long words (predicate_word k) w head h.terms, length-append (atom_text words k (suc w) head) (46 ∷ 10 ∷ []))
line-long words (rule-printed {k} {w} {j} {n} {head} h m g c) =
    let X = handed head in
    let B = body_text words head (calls j) in
    let q : length (atom_text words j (length X) X) ≡ atom_bytes words j X = rw m (answer-long words (predicate_word j) n X g.terms) in
    omega (
      arith,
      answer-long words (predicate_word k) w head h.terms,
      q,
      length-append (atom_text words k (suc w) head) (B ++ (46 ∷ 10 ∷ [])),
      length-append B (46 ∷ 10 ∷ []),
    )

-- so a program is measured clause by clause
pub program-long : (words : Words) (cs : List Clause) → All (Printed words) cs → length (program_text words cs) ≡ program_bytes words cs
unfolding program_text program_bytes
program-long words [] a = refl
program-long words (c ∷ cs) a = omega (arith, length-append (line_text words c) (program_text words cs), line-long words a.0, program-long words cs a.1)
