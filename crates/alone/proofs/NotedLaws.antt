-- What is noted of a plan of one row, branch by branch.
use Prim.Native.Nat.{ℕ, suc, ◌+◌, ◌≤◌, ◌<◌}
use mathlib.Core.Path.{◌≡◌, refl, sym, ◌∙◌, ap, subst, path_j, subst_refl}
use mathlib.Core.Logic.{◌≢◌}
use mathlib.Core.Bool.{true}
use mathlib.Core.List.{List, [], ◌∷◌, ◌++◌, map, map-append, append_assoc, head-eq_of_cons-eq, tail-eq_of_cons-eq}
use native.Mathlib.Omega.{arith}
use lib.ListN.{length, get_or, drop, length-drop}
use lib.Seq.{drop-cons}
use Rattle.cell.specs.Cell.{arity, is_var}
use Rattle.term.specs.Terms.{root, close}
use Rattle.table.specs.All.{All}
use Rattle.table.proofs.AllLaws.{all-front}
use Rattle.plan.specs.Runs.{Run, run, runs}
use Rattle.plan.specs.Plans.{Plan, leaf, node, Branches, end, next, branches, branches_in}
use Rattle.plan.specs.Notes.{below, notes, notes_in, word, cell_in, slot_in, next_in, BranchFits}
use Rattle.plan.specs.code.Cells.{Cells, CellsIn}
use Rattle.plan.proofs.NotesLaws.{word-parts}
use Rattle.answer.specs.Skeleton.{hole}
use Rattle.walking.specs.code.Frames.{RowCell}
use Rattle.alone.specs.code.Alone.{Chain}
use Rattle.alone.specs.code.Rest.{length_of, Noted}
use Rattle.alone.proofs.PlanLaws.{cell-is, chain-of, chain-in}

noted-subst : (k : ℕ) {c d : ℕ} {y : List ℕ} (e : c ≡ d) (q : Chain (arity c + k) y) (words : List ℕ) (at : ℕ) (slots : List ℕ) (m : ℕ)
    → Noted q words at slots m
    → Noted (subst (λ (d : ℕ). Chain (arity d + k) y) e q) words at slots m
noted-subst k {c} {d} {y} e q words at slots m n =
    path_j (λ (d : ℕ) (e : c ≡ d). Noted (subst (λ (d : ℕ). Chain (arity d + k) y) e q) words at slots m)
    (subst (λ (r : Chain (arity c + k) y). Noted r words at slots m) (sym (subst_refl (λ (d : ℕ). Chain (arity d + k) y) q)) n) e

length-subst : (k : ℕ) {c d : ℕ} {y : List ℕ} (e : c ≡ d) (q : Chain (arity c + k) y) → length_of (subst (λ (d : ℕ). Chain (arity d + k) y) e q) ≡ length_of q
length-subst k {c} {d} {y} e q =
    path_j (λ (d : ℕ) (e : c ≡ d). length_of (subst (λ (d : ℕ). Chain (arity d + k) y) e q) ≡ length_of q)
    (ap length_of (subst_refl (λ (d : ℕ). Chain (arity d + k) y) q)) e

none-branches : {k : ℕ} {gs : List Run} (bs : Branches k gs) → gs ≡ [] → branches_in bs ≡ 0
unfolding branches
none-branches end e = refl
none-branches (next p bs) e = let z : ◌≡◌ {A = ℕ} 0 1 = cc in absurd (let y : ⊥ = omega arith in y)

mutual
  unfolding branches length_of chain-of

  pub chain_length : {k : ℕ} {rows : List (List ℕ)} (p : Plan k rows) (x : List ℕ) (e : rows ≡ x ∷ []) → length_of (chain-of p x e) ≡ branches p
  chain_length leaf x e = refl
  chain_length (node i h bs) x e = chain-length_in bs (root i x) (close i x) (ap (runs i) e)

  chain-length_in : {k : ℕ} {gs : List Run} (bs : Branches k gs) (c : ℕ) (y : List ℕ) (e : gs ≡ run c (y ∷ []) ∷ [])
      → suc (length_of (chain-in bs c y e)) ≡ branches_in bs
  chain-length_in end c y e = let z : ◌≡◌ {A = ℕ} 0 1 = cc in absurd (let y : ⊥ = omega arith in y)
  chain-length_in (next {k} {g} {gs} p bs) c y e =
      let q = cell-is g gs c y e in
      let a = length-subst k q.0 (chain-of p y q.1) in
      let b = chain_length p y q.1 in
      omega (arith, a, b, none-branches bs q.2)

-- a branch's word, and those after it
word_at : (words : List ℕ) (at x : ℕ) (xs : List ℕ) → drop at words ≡ x ∷ xs → (get_or words at 0 ≡ x) × (drop (at + 1) words ≡ xs)
word_at words at x xs e =
    let l : at < length words = (let z = length-drop at words in let y = ap length e in omega arith) in
    let q : get_or words at 0 ∷ drop (suc at) words ≡ x ∷ xs = sym (drop-cons words at 0 l) ∙ e in
    let o : at + 1 ≡ suc at = omega arith in
    (head-eq_of_cons-eq q, rw o (tail-eq_of_cons-eq q))

mutual
  unfolding notes Noted Cells chain-of

  pub chain-noted : {k : ℕ} {rows : List (List ℕ)} (p : Plan k rows) (x : List ℕ) (e : rows ≡ x ∷ []) (words : List ℕ) (at : ℕ) (slots : List ℕ)
      (m row : ℕ) (rest : List ℕ)
      → drop at words ≡ map word (notes p slots m row) ++ rest → All BranchFits (notes p slots m row) → Cells RowCell p
      → Noted (chain-of p x e) words at slots m
  chain-noted leaf x e words at slots m row rest d f c = tt
  chain-noted (node i h bs) x e words at slots m row rest d f c = chain-noted_in bs (root i x) (close i x) (ap (runs i) e) i h words at slots m row rest d f c

  chain-noted_in : {k : ℕ} {gs : List Run} (bs : Branches k gs) (c : ℕ) (y : List ℕ) (e : gs ≡ run c (y ∷ []) ∷ []) (i : ℕ) → i ≤ k
      → (words : List ℕ) (at : ℕ) (slots : List ℕ) (m row : ℕ) (rest : List ℕ)
      → drop at words ≡ map word (notes_in bs i slots m row) ++ rest → All BranchFits (notes_in bs i slots m row) → CellsIn RowCell bs
      → (cell_in (get_or words at 0) ≡ c) × (slot_in (get_or words at 0) ≡ get_or slots i 0) × (next_in (get_or words at 0) ≡ m) × (m + arity c < 64)
      × (is_var c ≡ true → c < 32) × (c ≢ hole) × Noted (chain-in bs c y e) words (at + 1) (below i (arity c) m slots) (m + arity c)
  chain-noted_in end c y e i h words at slots m row rest d f cs = let z : ◌≡◌ {A = ℕ} 0 1 = cc in absurd (let y : ⊥ = omega arith in y)
  chain-noted_in (next {k} {g} {gs} p bs) c y e i h words at slots m row rest d f cs =
      let q = cell-is g gs c y e in
      let N = notes p (below i (arity g.cell) m slots) (m + arity g.cell) row in
      let M = notes_in bs i slots m (row + length g.rows) in
      let w = word_at words at _ (map word (N ++ M) ++ rest) d in
      let P = word-parts _ f.0 in
      let d' : drop (at + 1) words ≡ map word N ++ (map word M ++ rest) =
      w.1 ∙ ap (λ (l : List ℕ). l ++ rest) (map-append word N M) ∙ append_assoc (map word N) (map word M) rest in
      let n = chain-noted p y q.1 words (at + 1) (below i (arity g.cell) m slots) (m + arity g.cell) row (map word M ++ rest) d'
      (all-front BranchFits N M f.1) cs.1 in
      let o = noted-subst k q.0 (chain-of p y q.1) words (at + 1) (below i (arity g.cell) m slots) (m + arity g.cell) n in (
        rw w.0 (P.cell ∙ q.0),
        rw w.0 P.slot,
        rw w.0 P.next,
        rw q.0 at f.0.next,
        rw q.0 at cs.0.cell.0,
        rw q.0 at cs.0.cell.1,
        subst (λ (d : ℕ). Noted (chain-in (next {g = g} p bs) c y e) words (at + 1) (below i (arity d) m slots)
            (m + arity d)) q.0 o,
      )
