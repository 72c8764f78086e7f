-- The program of an accepted plan, where the names are listed, can be put: its heads are short, their variables are 0, 1, 2 and on, and no
-- clause calls the first predicate.
use Prim.Native.Nat.{ℕ, suc, ◌+◌, ◌≤◌, ◌<◌}
use mathlib.Core.Path.{◌≡◌, refl, sym, ◌∙◌, ap}
use mathlib.Core.Bool.{Bool, true, false, cond}
use mathlib.Core.List.{List, [], ◌∷◌, ◌++◌}
use native.Mathlib.Omega.{arith}
use lib.Dec.{eqb}
use lib.ListN.{length}
use borrow.Author.Tests.{eqb-false, eq-eqb, ne_eqb}
use Rattle.cell.specs.Cell.{kind_of, is_var}
use Rattle.refusal.specs.Read.{Read, read, and_then}
use Rattle.table.specs.All.{All}
use Rattle.table.proofs.AllLaws.{all-each, all_both, all-++}
use Rattle.table.specs.Table.{up_from, IsTable}
use Rattle.table.specs.code.Looks.{cell_from, cells_from}
use Rattle.table.proofs.ReadLaws.{first}
use Rattle.table.proofs.SoundLaws.{Seen, symbol, new, old, seen, down, cells-sound}
use Rattle.plan.specs.Plans.{Plan}
use Rattle.grammar.specs.Numbering.{Words}
use Rattle.termtext.specs.Saying.{words_in}
use Rattle.clauses.specs.Clauses.{nothing, calls, Clause, handed}
use Rattle.clauses.specs.Translate.{Predicate, done, fact, rule, predicate}
use Rattle.clauses.specs.Program.{callees, own, below, numbered, program}
use Rattle.clauses.specs.Handed.{Listed}
use Rattle.clauses.proofs.ReadLaws.{Printed, fact-printed, rule-printed}
use Rattle.clauses.proofs.Theorems.{program-printed}
use Rattle.handing.specs.code.Lines.{met_in, Plainly}

-- NO CALL OF THE FIRST PREDICATE
abbrev Later : Clause → Type 0
Later c = (j : ℕ) → c.body ≡ calls j → 0 < j

no-calls : {j : ℕ} → nothing ≡ calls j → 0 < j
no-calls e = absurd (let z : ◌≡◌ {A = ℕ} 0 1 = cc in omega arith)

later-call : {n j : ℕ} → 0 < n → calls n ≡ calls j → 0 < j
later-call {n} {j} h e = let z : n ≡ j = cc in omega arith

own-later : (k w n : ℕ) (P : Predicate) → 0 < n → All Later (own k w n P)
unfolding own
own-later k w n done h = tt
own-later k w n (fact hd P) h = (λ j e. no-calls e, own-later k w n P h)
own-later k w n (rule hd Q P) h = (λ j e. later-call h e, own-later k w (n + suc (callees Q)) P (omega arith))

below-later : (n : ℕ) (P : Predicate) → 0 < n → All Later (below n P)
unfolding below
below-later n done h = tt
below-later n (fact hd P) h = below-later n P h
below-later n (rule hd Q P) h =
    all-++ Later (own n (length (handed hd)) (suc n) Q) (below (suc n) Q ++ below (n + suc (callees Q)) P)
    (own-later n (length (handed hd)) (suc n) Q (omega arith))
    (all-++ Later (below (suc n) Q) (below (n + suc (callees Q)) P) (below-later (suc n) Q (omega arith)) (below-later (n + suc (callees Q)) P (omega arith)))

program-later : {k : ℕ} {rows : List (List ℕ)} (p : Plan k rows) → All Later (program p)
unfolding numbered
program-later {k} p =
    all-++ Later (own 0 k 1 (predicate p)) (below 1 (predicate p)) (own-later 0 k 1 (predicate p) (omega arith)) (below-later 1 (predicate p) (omega arith))

-- THE VARIABLES, COUNTED. Only a variable is a number so small
small-var : (c v : ℕ) → v ≤ 64 → c ≡ v → is_var c ≡ false → ⊥
unfolding is_var
small-var c v h e i = let z = eqb-false (kind_of c) 0 i in z (let q : kind_of c ≡ 0 = omega arith in q)

met-seen : {c v u : ℕ} → v ≤ 64 → Seen c v (read u) → u ≡ cond (eqb c v) (suc v) v
met-seen {c} {v} h (symbol k i) = rw (ne_eqb c v (λ e. small-var c v h e i))
met-seen {c} {v} h (new k i e) = rw (eq-eqb c v e)
met-seen {c} {v} h (old k i l) = rw (ne_eqb c v (λ e. (let z : ⊥ = omega arith in z)))

met-counted : (cells : List ℕ) (v p : ℕ) {u : ℕ} → v + length cells ≤ 64 → cells_from false cells v p ≡ read u → met_in cells v ≡ u
unfolding cells_from met_in
met-counted [] v p h e = cc
met-counted (c ∷ cells) v p h e =
    let f = first (cell_from false c v p) (λ (u : ℕ). cells_from false cells u (suc p)) e in
    let m = met-seen {c = c} {v = v} {u = f.0} (omega arith) (rw f.1 at (seen false c v p)) in
    ap (met_in cells) (sym m) ∙ met-counted cells f.0 (suc p) (at_most (eqb c v) m) f.2
  where
    at_most : (b : Bool) {u : ℕ} → u ≡ cond b (suc v) v → u + length cells ≤ 64
    at_most true e = omega arith
    at_most false e = omega arith

front-counted : (xs ys : List ℕ) (v p : ℕ) {u : ℕ} → cells_from false (xs ++ ys) v p ≡ read u → (m : ℕ) × (cells_from false xs v p ≡ read m)
unfolding cells_from
front-counted [] ys v p e = (v, refl)
front-counted (c ∷ xs) ys v p e =
    let f = first (cell_from false c v p) (λ (u : ℕ). cells_from false (xs ++ ys) u (suc p)) e in
    let g = front-counted xs ys f.0 (suc p) f.2 in
    (g.0, ap (λ (r : Read ℕ). and_then r (λ (u : ℕ). cells_from false xs u (suc p))) f.1 ∙ g.1)

order_is : (head : List ℕ) {v : ℕ} → length head ≤ 32 → cells_from false head 0 0 ≡ read v → handed head ≡ up_from 0 (met_in head 0)
unfolding down
order_is head h e =
    let s = cells-sound false head 0 0 e in
    let m = met-counted head 0 0 (omega arith) e in
    let z : s.more ≡ met_in head 0 = omega (arith, s.total, m) in
    s.order ∙ ap (up_from 0) z

plainly : {words : Words} (c : Clause) → Printed words c × Later c → Plainly c
plainly c x = go x.0 x.1
  where
    go : {words : Words} {c : Clause} → Printed words c → Later c → Plainly c
    go (fact-printed {head = head} h n) l = record { short = h.short; order = order_is head h.short n.1; called = l }
    go (rule-printed {head = head} h m g n) l =
        let f = front-counted head (handed head) 0 0 n.1 in
        record { short = h.short; order = order_is head h.short f.1; called = l }

pub program-plain : {t : List ℕ} {w : ℕ} {rows : List (List ℕ)} → IsTable t w rows → (tree : Plan w rows) → {text names : List ℕ}
    → Listed text names rows
    → All Plainly (program tree)
program-plain i tree {text} {names} l =
    all-each (λ (c : Clause). Printed (words_in text names) c × Later c) Plainly plainly (program tree)
    (all_both (Printed (words_in text names)) Later (program tree) (program-printed i tree l) (program-later tree))
