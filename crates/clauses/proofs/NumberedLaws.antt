-- A numbered program answers what the predicate that it was made of says: a number stands for one predicate, all of whose clauses are there.
use Prim.Native.Nat.{ℕ, suc, ◌+◌, ◌≤◌, ◌<◌}
use mathlib.Core.Path.{◌≡◌, refl, sym, ◌∙◌, ap, subst}
use mathlib.Core.Logic.{◌≢◌, ◌↔◌, ◌⊎◌, inl, inr}
use mathlib.Core.List.{List, [], ◌∷◌, ◌++◌, append_assoc, append-nil}
use native.Mathlib.Omega.{arith}
use lib.ListN.{length}
use Rattle.table.specs.All.{All}
use Rattle.table.proofs.AllLaws.{all-each, all-++}
use Rattle.clauses.specs.Clauses.{nothing, calls, Clause, clause_of, handed}
use Rattle.clauses.specs.Answers as answers
use Rattle.clauses.specs.Answers.{AnswersFrom, Answers}
use Rattle.clauses.specs.Translate.{Predicate, done, fact, rule}
use Rattle.clauses.specs.Program.{callees, own, below, numbered}
use Rattle.clauses.proofs.Nested as says
use Rattle.clauses.proofs.Nested.{Says}

-- the clauses of predicate k among some are these, and so on for each predicate that they call
pub data Collects (program : List Clause) : ℕ → List Clause → Predicate → Type 0 where
  none : {k : ℕ} → Collects program k [] done
  other : {k : ℕ} {c : Clause} {cs : List Clause} {P : Predicate} → c.predicate ≢ k → Collects program k cs P
      → Collects program k (c ∷ cs) P
  a-fact : {k w : ℕ} {h : List ℕ} {cs : List Clause} {P : Predicate} → Collects program k cs P
      → Collects program k (clause_of k w h nothing ∷ cs) (fact h P)
  a-rule : {k w j : ℕ} {h : List ℕ} {cs : List Clause} {Q P : Predicate} → Collects program j program Q → Collects program k cs P
      → Collects program k (clause_of k w h (calls j) ∷ cs) (rule h Q P)

module _ {program : List Clause} where
  pub says-answers : {k : ℕ} {cs : List Clause} {P : Predicate} {goal : List ℕ} {all : List (List ℕ)} → Collects program k cs P
      → Says P goal all
      → AnswersFrom program cs k goal all
  says-answers none says.none = answers.none
  says-answers (other n c) s = answers.other n (says-answers c s)
  says-answers (a-fact c) (says.fact-fits r s) = answers.fact-fits r (says-answers c s)
  says-answers (a-fact c) (says.fact-not r s) = answers.fails r (says-answers c s)
  says-answers (a-rule d c) (says.rule_fits by b g s p o e) = answers.rule_fits by b g (says-answers d s) p (says-answers c o) e
  says-answers (a-rule d c) (says.rule-not r s) = answers.fails r (says-answers c s)

  -- at two numbers that are the same: a case at one number would need axiom K
  answers-says-at : {k m : ℕ} {cs : List Clause} {P : Predicate} {goal : List ℕ} {all : List (List ℕ)} → Collects program k cs P
      → m ≡ k → AnswersFrom program cs m goal all
      → Says P goal all
  answers-says-at none e answers.none = says.none
  answers-says-at (other n c) e (answers.other m s) = answers-says-at c e s
  answers-says-at (other n c) e (answers.fact-fits r s) = absurd (n e)
  answers-says-at (other n c) e (answers.rule_fits by b g s p o q) = absurd (n e)
  answers-says-at (other n c) e (answers.fails r s) = absurd (n e)
  answers-says-at (a-fact c) e (answers.other m s) = absurd (m (sym e))
  answers-says-at (a-fact c) e (answers.fact-fits r s) = says.fact-fits r (answers-says-at c e s)
  answers-says-at (a-fact c) e (answers.fails r s) = says.fact-not r (answers-says-at c e s)
  answers-says-at (a-rule d c) e (answers.other m s) = absurd (m (sym e))
  answers-says-at (a-rule d c) e (answers.rule_fits by b g s p o q) = says.rule_fits by b g (answers-says-at d refl s) p (answers-says-at c e o) q
  answers-says-at (a-rule d c) e (answers.fails r s) = says.rule-not r (answers-says-at c e s)

  pub answers-says : {k : ℕ} {cs : List Clause} {P : Predicate} {goal : List ℕ} {all : List (List ℕ)} → Collects program k cs P
      → AnswersFrom program cs k goal all
      → Says P goal all
  answers-says c s = answers-says-at c refl s

-- WHERE THE NUMBERS ARE
abbrev Not : ℕ → List Clause → Type 0
Not k cs = All (λ (c : Clause). c.predicate ≢ k) cs

-- none from lo on below lo + n
abbrev Outside : (lo n : ℕ) → List Clause → Type 0
Outside lo n cs = All (λ (c : Clause). (c.predicate < lo) ⊎ (lo + n ≤ c.predicate)) cs

abbrev Within : (lo n : ℕ) → List Clause → Type 0
Within lo n cs = All (λ (c : Clause). (lo ≤ c.predicate) × (c.predicate < lo + n)) cs

own_is : (k w next : ℕ) (P : Predicate) → All (λ (c : Clause). c.predicate ≡ k) (own k w next P)
unfolding own
own_is k w next done = tt
own_is k w next (fact h P) = (refl, own_is k w next P)
own_is k w next (rule h Q P) = (refl, own_is k w (next + suc (callees Q)) P)

below-within : (next : ℕ) (P : Predicate) → Within next (callees P) (below next P)
unfolding below callees
below-within next done = tt
below-within next (fact h P) = below-within next P
below-within next (rule h Q P) =
    let n = callees Q in
    let m = callees P in
    let R : Clause → Type 0 = λ c. (next ≤ c.predicate) × (c.predicate < next + suc (n + m)) in
    all-++ R (own next (length (handed h)) (suc next) Q) _
    (all-each (λ (c : Clause). c.predicate ≡ next) R (λ c e. (omega arith, omega arith)) (own next (length (handed h)) (suc next) Q)
    (own_is next (length (handed h)) (suc next) Q))
    (all-++ R (below (suc next) Q) (below (next + suc n) P)
    (all-each (λ (c : Clause). (suc next ≤ c.predicate) × (c.predicate < suc next + n)) R (λ c e. (omega (arith, e.0), omega (arith, e.1)))
    (below (suc next) Q) (below-within (suc next) Q))
    (all-each (λ (c : Clause). (next + suc n ≤ c.predicate) × (c.predicate < next + suc n + m)) R
    (λ c e. (omega (arith, e.0), omega (arith, e.1))) (below (next + suc n) P) (below-within (next + suc n) P)))

-- the predicates that are called are there
abbrev Called : (program : List Clause) → ℕ → Predicate → Type 0
Called program next done = Unit {0}
Called program next (fact h P) = Called program next P
Called program next (rule h Q P) = Collects program next program Q × Called program (next + suc (callees Q)) P

collect-not : {program : List Clause} {k : ℕ} (cs : List Clause) → Not k cs → Collects program k cs done
collect-not [] n = none
collect-not (c ∷ cs) n = other n.0 (collect-not cs n.1)

collect-past : {program : List Clause} {k : ℕ} {P : Predicate} (xs : List Clause) {ys : List Clause} → Not k xs → Collects program k ys P
    → Collects program k (xs ++ ys) P
collect-past [] n c = c
collect-past (x ∷ xs) n c = other n.0 (collect-past xs n.1 c)

collect-own : {program : List Clause} (k w next : ℕ) (P : Predicate) (ys : List Clause) → Called program next P → Not k ys
    → Collects program k (own k w next P ++ ys) P
unfolding own
collect-own k w next done ys c n = collect-not ys n
collect-own k w next (fact h P) ys c n = a-fact (collect-own k w next P ys c n)
collect-own k w next (rule h Q P) ys c n = a-rule c.0 (collect-own k w (next + suc (callees Q)) P ys c.1 n)

called-there : (program : List Clause) (next : ℕ) (P : Predicate) (pre post : List Clause) → program ≡ pre ++ (below next P ++ post)
    → Outside next (callees P) pre → Outside next (callees P) post → Called program next P
unfolding below callees
called-there program next done pre post e a b = tt
called-there program next (fact h P) pre post e a b = called-there program next P pre post e a b
called-there program next (rule h Q P) pre post e a b =
    let n = callees Q in
    let m = callees P in
    let O = own next (length (handed h)) (suc next) Q in
    let B = below (suc next) Q in
    let C = below (next + suc n) P in
    let Out : (lo n : ℕ) → Clause → Type 0 = λ lo n c. (c.predicate < lo) ⊎ (lo + n ≤ c.predicate) in
    let e₁ : program ≡ (pre ++ O) ++ (B ++ (C ++ post)) = e ∙ simp append_assoc in
    let e₂ : program ≡ ((pre ++ O) ++ B) ++ (C ++ post) = e ∙ simp append_assoc in
    let e₃ : program ≡ pre ++ (O ++ (B ++ (C ++ post))) = e ∙ simp append_assoc in
    let o = own_is next (length (handed h)) (suc next) Q in
    let i = below-within (suc next) Q in
    let j = below-within (next + suc n) P in
    let q = called-there program (suc next) Q (pre ++ O) (C ++ post) e₁
    (all-++ (Out (suc next) n) pre O (all-each (Out next (suc (n + m))) (Out (suc next) n) (λ c. low c next n m) pre a)
    (all-each (λ (c : Clause). c.predicate ≡ next) (Out (suc next) n) (λ c z. inl (omega arith)) O o))
    (all-++ (Out (suc next) n) C post
    (all-each (λ (c : Clause). (next + suc n ≤ c.predicate) × (c.predicate < next + suc n + m)) (Out (suc next) n)
    (λ c z. inr (omega (arith, z.0))) C j) (all-each (Out next (suc (n + m))) (Out (suc next) n) (λ c. low c next n m) post b)) in
    let p = called-there program (next + suc n) P ((pre ++ O) ++ B) post e₂
    (all-++ (Out (next + suc n) m) (pre ++ O) B
    (all-++ (Out (next + suc n) m) pre O (all-each (Out next (suc (n + m))) (Out (next + suc n) m) (λ c. high c next n m) pre a)
    (all-each (λ (c : Clause). c.predicate ≡ next) (Out (next + suc n) m) (λ c z. inl (omega arith)) O o))
    (all-each (λ (c : Clause). (suc next ≤ c.predicate) × (c.predicate < suc next + n)) (Out (next + suc n) m) (λ c z. inl (omega (arith, z.1))) B i))
    (all-each (Out next (suc (n + m))) (Out (next + suc n) m) (λ c. high c next n m) post b) in
    let not : (c : Clause) → Out next (suc (n + m)) c → c.predicate ≢ next = λ c. away c next (n + m) in
    let Y = B ++ (C ++ post) in
    let ny : Not next Y
    = all-++ (λ (c : Clause). c.predicate ≢ next) B (C ++ post)
    (all-each (λ (c : Clause). (suc next ≤ c.predicate) × (c.predicate < suc next + n)) (λ (c : Clause). c.predicate ≢ next)
    (λ c z f. (let y : ⊥ = omega (arith, z.0) in y)) B i)
    (all-++ (λ (c : Clause). c.predicate ≢ next) C post
    (all-each (λ (c : Clause). (next + suc n ≤ c.predicate) × (c.predicate < next + suc n + m)) (λ (c : Clause). c.predicate ≢ next)
    (λ c z f. (let y : ⊥ = omega (arith, z.0) in y)) C j)
    (all-each (Out next (suc (n + m))) (λ (c : Clause). c.predicate ≢ next) not post b)) in
    let here = collect-past pre (all-each (Out next (suc (n + m))) (λ (c : Clause). c.predicate ≢ next) not pre a)
    (collect-own next (length (handed h)) (suc next) Q Y q ny) in
    (subst (λ (cs : List Clause). Collects program next cs Q) (sym e₃) here, p)
  where
    low : (c : Clause) (next n m : ℕ) → (c.predicate < next) ⊎ (next + suc (n + m) ≤ c.predicate)
        → (c.predicate < suc next) ⊎ (suc next + n ≤ c.predicate)
    low c next n m (inl x) = inl (omega arith)
    low c next n m (inr x) = inr (omega arith)

    high : (c : Clause) (next n m : ℕ) → (c.predicate < next) ⊎ (next + suc (n + m) ≤ c.predicate)
        → (c.predicate < next + suc n) ⊎ (next + suc n + m ≤ c.predicate)
    high c next n m (inl x) = inl (omega arith)
    high c next n m (inr x) = inr (omega arith)

    away : (c : Clause) (next s : ℕ) → (c.predicate < next) ⊎ (next + suc s ≤ c.predicate) → c.predicate ≢ next
    away c next s (inl x) f = omega arith
    away c next s (inr x) f = omega arith

numbered-collects : (w : ℕ) (P : Predicate) → Collects (numbered w P) 0 (numbered w P) P
unfolding numbered
numbered-collects w P =
    let O = own 0 w 1 P in
    let B = below 1 P in
    let Out : Clause → Type 0 = λ c. (c.predicate < 1) ⊎ (1 + callees P ≤ c.predicate) in
    let c = called-there (O ++ B) 1 P O [] (ap (λ (l : List Clause). O ++ l) (sym (append-nil B)))
    (all-each (λ (c : Clause). c.predicate ≡ 0) Out (λ c z. inl (omega arith)) O (own_is 0 w 1 P)) tt in
    collect-own 0 w 1 P B c
    (all-each (λ (c : Clause). (1 ≤ c.predicate) × (c.predicate < 1 + callees P)) (λ (c : Clause). c.predicate ≢ 0)
    (λ c z f. (let y : ⊥ = omega (arith, z.0) in y)) B (below-within 1 P))

pub numbered-answers : (w : ℕ) (P : Predicate) (goal : List ℕ) (all : List (List ℕ)) → Answers (numbered w P) 0 goal all ↔ Says P goal all
numbered-answers w P goal all = let c = numbered-collects w P in (λ x. answers-says c x, λ x. says-answers c x)
