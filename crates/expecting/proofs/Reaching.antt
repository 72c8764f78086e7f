-- The mode that the grammar's reader reaches after some bytes, and what it reads from there on.
use Prim.Native.Nat.{ℕ, suc, ◌+◌}
use mathlib.Core.Path.{◌≡◌, refl, ap}
use mathlib.Core.Bool.{true}
use mathlib.Core.List.{List, [], ◌∷◌, ◌++◌}
use native.Mathlib.Nat.{add-zero}
use native.Mathlib.Omega.{arith}
use lib.ListN.{length}
use Rattle.grammar.specs.Grammar.{Fact}
use Rattle.grammar.specs.Reader.{Mode, Work, Next, dead, go, says, step, Out, stops, reads, fact_before, run}
use Rattle.grammar.proofs.Sound.{clash}
use Rattle.grammar.proofs.Viable.{mode-lives}
use Rattle.expecting.specs.Expected.{lost, here, onward, reach}
use Rattle.expecting.proofs.Alive.{alive}

-- something is read
pub record Reads (o : Out) : Type 0 where
  pub facts : List Fact
  pub is : o ≡ reads facts

reads_before : (f : Fact) {o : Out} → Reads o → Reads (fact_before f o)
reads_before f r = record { facts = f ∷ r.facts; is = ap (fact_before f) r.is }

before-reads : (f : Fact) (o : Out) → Reads (fact_before f o) → Reads o
before-reads f (stops k) r = record { facts = r.facts; is = r.is }
before-reads f (reads fs) r = record { facts = fs; is = refl }

stops-none : {A : Type 0} {k : ℕ} → Reads (stops k) → A
stops-none r = clash r.is

-- a text that is read is read from where its first bytes lead to
pub reads_on : (xs ys : List ℕ) (m : Mode) (w : Work) (p : ℕ) → Reads (run (xs ++ ys) m w p)
    → (m' : Mode) × (w' : Work) × (reach xs m w p ≡ here m' w') × Reads (run ys m' w' (p + length xs))
unfolding run reach
reads_on [] ys m w p r = (m, w, refl, rw (add-zero p) r)
reads_on (b ∷ xs) ys m w p r = by (step m w p b) refl r (λ m' w'. reads_on xs ys m' w' (suc p))
  where
    by : (n : Next) → step m w p b ≡ n → Reads (run ((b ∷ xs) ++ ys) m w p)
        → ((m' : Mode) (w' : Work) → Reads (run (xs ++ ys) m' w' (suc p))
        → (m'' : Mode) × (w'' : Work) × (reach xs m' w' (suc p) ≡ here m'' w'') × Reads (run ys m'' w'' (suc p + length xs)))
        → (m'' : Mode) × (w'' : Work) × (reach (b ∷ xs) m w p ≡ here m'' w'') × Reads (run ys m'' w'' (p + suc (length xs)))
    by dead e r f = stops-none (rw e at r)
    by (go m' w') e r f =
        let g = f m' w' (rw e at r) in
        let q : suc p + length xs ≡ p + suc (length xs) = omega arith in
        (g.0, g.1, rw e g.2, rw q at g.3)
    by (says k m' w') e r f =
        let g = f m' w' (before-reads k (run (xs ++ ys) m' w' (suc p)) (rw e at r)) in
        let q : suc p + length xs ≡ p + suc (length xs) = omega arith in
        (g.0, g.1, rw e g.2, rw q at g.3)

-- and what is read from there makes a text that is read
pub reads_all : (xs ys : List ℕ) (m : Mode) (w : Work) (p : ℕ) {m' : Mode} {w' : Work} → reach xs m w p ≡ here m' w'
    → Reads (run ys m' w' (p + length xs)) → Reads (run (xs ++ ys) m w p)
unfolding run reach
reads_all [] ys m w p {m'} {w'} e r = let h : m ≡ m' = cc in let k : w ≡ w' = cc in rw (h, k, ← add-zero p) r
reads_all (b ∷ xs) ys m w p {m'} {w'} e r = by (step m w p b) refl e (λ m'' w'' h. reads_all xs ys m'' w'' (suc p) h (rw q at r))
  where
    q : p + suc (length xs) ≡ suc p + length xs
    q = omega arith

    by : (n : Next) → step m w p b ≡ n → reach (b ∷ xs) m w p ≡ here m' w'
        → ((m'' : Mode) (w'' : Work) → reach xs m'' w'' (suc p) ≡ here m' w' → Reads (run (xs ++ ys) m'' w'' (suc p))) → Reads (run ((b ∷ xs) ++ ys) m w p)
    by dead h e f = absurd (let z : lost ≡ here m' w' = rw h at e in let o : ◌≡◌ {A = ℕ} 0 1 = cc in omega arith)
    by (go m'' w'') h e f = rw h (f m'' w'' (rw h at e))
    by (says k m'' w'') h e f = rw h (reads_before k (f m'' w'' (rw h at e)))

-- one byte more
pub reach-more : (xs : List ℕ) (m : Mode) (w : Work) (p b : ℕ) {m' : Mode} {w' : Work} → reach xs m w p ≡ here m' w'
    → reach (xs ++ (b ∷ [])) m w p ≡ onward (step m' w' (p + length xs) b) here
unfolding reach
reach-more [] m w p b {m'} {w'} e = let h : m ≡ m' = cc in let k : w ≡ w' = cc in rw (h, k, add-zero p)
reach-more (c ∷ xs) m w p b {m'} {w'} e = by (step m w p c) refl e (λ m'' w'' h. rw q at (reach-more xs m'' w'' (suc p) b h))
  where
    q : suc p + length xs ≡ p + suc (length xs)
    q = omega arith

    by : (n : Next) → step m w p c ≡ n → reach (c ∷ xs) m w p ≡ here m' w'
        → ((m'' : Mode) (w'' : Work) → reach xs m'' w'' (suc p) ≡ here m' w'
        → reach (xs ++ (b ∷ [])) m'' w'' (suc p) ≡ onward (step m' w' (p + suc (length xs)) b) here)
        → reach ((c ∷ xs) ++ (b ∷ [])) m w p ≡ onward (step m' w' (p + suc (length xs)) b) here
    by dead h e f = absurd (let z : lost ≡ here m' w' = rw h at e in let o : ◌≡◌ {A = ℕ} 0 1 = cc in omega arith)
    by (go m'' w'') h e f = rw h (f m'' w'' (rw h at e))
    by (says k m'' w'') h e f = rw h (f m'' w'' (rw h at e))

-- a byte is read, and then something, exactly when the reader goes on with it
pub alive-reads : (m : Mode) (w : Work) (p b : ℕ) → alive (step m w p b) ≡ true → (ys : List ℕ) × Reads (run (b ∷ ys) m w p)
unfolding run
alive-reads m w p b e = by (step m w p b) refl e
  where
    by : (n : Next) → step m w p b ≡ n → alive n ≡ true → (ys : List ℕ) × Reads (run (b ∷ ys) m w p)
    by dead h z = absurd (let o : ◌≡◌ {A = ℕ} 0 1 = cc in omega arith)
    by (go m' w') h z = let l = mode-lives m' w' (suc p) in (l.rest, rw h (record { facts = l.facts; is = l.goes }))
    by (says f m' w') h z = let l = mode-lives m' w' (suc p) in (l.rest, rw h (reads_before f (record { facts = l.facts; is = l.goes })))

pub reads-alive : (m : Mode) (w : Work) (p b : ℕ) (ys : List ℕ) → Reads (run (b ∷ ys) m w p) → alive (step m w p b) ≡ true
unfolding run
reads-alive m w p b ys r = by (step m w p b) refl r
  where
    by : (n : Next) → step m w p b ≡ n → Reads (run (b ∷ ys) m w p) → alive n ≡ true
    by dead h r = stops-none (rw h at r)
    by (go m' w') h r = refl
    by (says f m' w') h r = refl
