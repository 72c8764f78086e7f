-- Every refusal has a reason and an input by name, and its place lies within what is read.
use mathlib.Core.Path.{◌≡◌, refl, ap}
use mathlib.Core.Bool.{Bool, true, false, cond, not, ◌&&◌, ◌||◌}
use mathlib.Core.List.{List, [], ◌∷◌, ◌++◌}
use Prim.Native.Nat.{ℕ, zero, suc, ◌+◌, ◌-◌, ◌*◌, ◌%◌, ◌^◌, ◌≤◌, ◌<◌}
use native.Mathlib.Omega.{arith}
use lib.Dec.{eqb, leb, ltb}
use lib.ListN.{length, get_or, set, take, drop, length-drop}
use borrow.Author.Tests.{ltb-false, leb-false}
use Rattle.cell.specs.Cell.{arity, values_at}
use Rattle.refusal.specs.Refusal.{Refused, refused}
use Rattle.refusal.specs.Refusal as answer
use Rattle.refusal.specs.Coded.{Small}
use Rattle.refusal.proofs.CodedLaws.{refused-small, small_by}
use Rattle.refusal.specs.declared.Reason.{Reason}
use Rattle.refusal.specs.declared.Reason.TheVariants as reason
use Rattle.refusal.specs.declared.Input.{Input}
use Rattle.refusal.specs.declared.Input.TheVariants as input
use Rattle.plan.specs.Runs.{Run, runs}
use Rattle.plan.specs.Named.{spread, may, any_past}
use Rattle.plan.specs.Check.{Seen, seen, cell_then, Reader, branches_from, leaf_from, state_from, nothing_after, plan_with, plan_for, plan_of, columns_for, plan_under}
use Rattle.answer.specs.Run.{run_of}
use Rattle.instance.specs.Replied.{replies_of}
use Rattle.clauses.specs.Handed.{hand_of}
use Rattle.octets.specs.Octets.{cells_of}
use Rattle.blocks.specs.Blocks as blocks
use Rattle.blocks.proofs.BlockLaws.{sound-most}
use Rattle.filing.specs.Files.{needed, zeros, Card, card, sizes, table_part, plan_part, card_of, file_read}
use Rattle.table.proofs.Accepted.{is-table}
use Rattle.refusal.specs.Read.{Read, read, refuse, when, and_then}
use Rattle.table.specs.Table.{Table, Met, met, counted, terms_from, row_before, doubled, rows_from, table_of, table, goal_of, goal_with, others, row_of}
use Rattle.record.specs.Edits.{Edit, append, drop-last, replace, edit_of}
use Rattle.limits.specs.Limits.{most_plan_cells, most_table_cells}

-- a refusal has its names and a place of at most n; what is read has P
pub data Placed {A : Type 0} (n : ℕ) (P : A → Type 0) : Read A → Type 0 where
  good : {x : A} → P x → Placed n P (read x)
  turned : (k : Reason) (i : Input) (p : ℕ) → p ≤ n → Placed n P (refuse (refused k i p))

placed-when : {A : Type 0} {n : ℕ} {P : A → Type 0} (b : Bool) (k : Reason) (i : Input) (p : ℕ) {r : Read A} → p ≤ n
    → (b ≡ false → Placed n P r)
    → Placed n P (when b (refused k i p) r)
placed-when true k i p l h = turned k i p l
placed-when false k i p l h = h refl

placed-then : {A B : Type 0} {n : ℕ} {P : A → Type 0} {Q : B → Type 0} {r : Read A} (f : A → Read B) → Placed n P r
    → ((x : A) → P x → Placed n Q (f x)) → Placed n Q (and_then r f)
placed-then f (good {x} p) h = h x p
placed-then f (turned k i p l) h = turned k i p l

-- so it fits its bits
pub placed-small : {A : Type 0} {n : ℕ} {P : A → Type 0} {f : Refused} {r : Read A} → n < 2 ^ 48 → Placed n P r → r ≡ refuse f
    → Small (answer.turned f)
placed-small b (good p) e = let z : ◌≡◌ {A = ℕ} 0 1 = cc in absurd (omega arith)
placed-small {f = f} b (turned k i p l) e =
    let q : f ≡ refused k i p = cc in
    small_by (ap answer.turned q) (refused-small k i p (omega arith))

-- the input whose terms are read
abbrev of : Bool → Input
of row = cond row input.Table input.Goal

-- what a row or a goal reads ends within it
Within : ℕ → ℕ → Met → Type 0
Within p n m = (p ≤ m.next) × (m.next ≤ n)

placed-terms : (row : Bool) (xs : List ℕ) (owed used vars p n : ℕ) → p + length xs ≡ n
    → Placed n (Within p n) (terms_from row xs owed used vars p)
unfolding terms_from Within
placed-terms row [] zero used vars p n e = good {x = met p vars} (omega arith)
placed-terms row [] (suc owed) used vars p n e =
    placed-when (row && leb 32 used) reason.Long (of row) p (omega arith) (λ _. turned reason.Short (of row) p (omega arith))
placed-terms row (c ∷ xs) zero used vars p n e = good {x = met p vars} (omega arith)
placed-terms row (c ∷ xs) (suc owed) used vars p n e =
    let v = values_at c in
    placed-when (row && leb 32 used) reason.Long (of row) p (omega arith) (λ _.
    placed-when (eqb v.kind 3) reason.Cell (of row) p (omega arith) (λ _.
    placed-when (eqb v.kind 0 && ltb vars v.number) reason.Fresh (of row) p (omega arith) (λ _.
    later (placed-terms row xs (v.args + owed) (suc used) (counted v vars) (suc p) n (omega arith)))))
  where
    later : {r : Read Met} → Placed n (Within (suc p) n) r → Placed n (Within p n) r
    later (good {x} w) = good {x = x} (omega arith)
    later (turned k i q l) = turned k i q l

abbrev pub Any : {A : Type 0} → A → Type 0
Any x = Unit {0}

placed-before : {n : ℕ} (r : List ℕ) {rs : Read (List (List ℕ))} → Placed n Any rs → Placed n Any (row_before r rs)
placed-before r (good p) = good tt
placed-before r (turned k i p l) = turned k i p l

placed-rows : (w k : ℕ) (seen : List (List ℕ)) (xs : List ℕ) (p n : ℕ) → p + length xs ≡ n → Placed n Any (rows_from w k seen xs p)
unfolding rows_from Within
placed-rows w zero seen [] p n e = good tt
placed-rows w zero seen (c ∷ xs) p n e = turned reason.Extra input.Table p (omega arith)
placed-rows w (suc k) seen xs p n e =
    placed-then _
    (placed-terms true xs w 0 0 p n e)
    (λ m i.
    placed-when (doubled m (take (m.next - p) xs) seen) reason.Same input.Table p (omega arith) (λ _.
    placed-before (take (m.next - p) xs)
    (placed-rows w k (take (m.next - p) xs ∷ seen) (drop (m.next - p) xs) m.next n (omega (arith, length-drop (m.next - p) xs)))))

-- a bound may be larger
pub widen : {A : Type 0} {n m : ℕ} {r : Read A} → n ≤ m → Placed n Any r → Placed m Any r
widen l (good p) = good tt
widen l (turned k i p q) = turned k i p (omega arith)

-- a row by itself is read no further than its 32 cells, however many are there
placed-cells : (xs : List ℕ) (owed used vars : ℕ) → used ≤ 32 → Placed 32 (λ (m : Met). m.next ≤ 32) (terms_from true xs owed used vars used)
unfolding terms_from
placed-cells [] zero used vars l = good {x = met used vars} l
placed-cells [] (suc owed) used vars l =
    placed-when (true && leb 32 used) reason.Long input.Table used l (λ _. turned reason.Short input.Table used l)
placed-cells (c ∷ xs) zero used vars l = good {x = met used vars} l
placed-cells (c ∷ xs) (suc owed) used vars l =
    let v = values_at c in
    placed-when (true && leb 32 used) reason.Long input.Table used l (λ h.
    placed-when (eqb v.kind 3) reason.Cell input.Table used l (λ _.
    placed-when (eqb v.kind 0 && ltb vars v.number) reason.Fresh input.Table used l (λ _.
    placed-cells xs (v.args + owed) (suc used) (counted v vars) (omega (arith, leb-false 32 used h)))))

pub placed_row : (w : ℕ) (rows : List (List ℕ)) (row : List ℕ) → Placed 32 (Any {A = ℕ}) (row_of w rows row)
unfolding row_of
placed_row w rows row =
    placed-then (λ (m : Met).
    when (doubled m (take m.next row) rows) (refused reason.Same input.Table 0)
    (when (ltb m.next (length row)) (refused reason.Extra input.Table m.next) (read m.vars)))
    (placed-cells row w 0 0 (omega arith))
    (λ m l.
    placed-when (doubled m (take m.next row) rows) reason.Same input.Table 0 (omega arith) (λ _.
    placed-when (ltb m.next (length row)) reason.Extra input.Table m.next l (λ _. good tt)))

-- so an edit's refusal is at one of its places, or at 0
pub placed-edit : (e : Edit) (T : Table) → Placed 32 (Any {A = Table}) (edit_of e T)
unfolding edit_of
placed-edit (append row) T =
    placed-when (leb 64 (length T.rows)) reason.Full input.Table 0 (omega arith) (λ _.
    placed-then (λ (_ : ℕ). read (table T.width (T.rows ++ (row ∷ [])))) (placed_row T.width T.rows row) (λ _ _. good tt))
placed-edit drop-last T = placed-when (leb (length T.rows) 1) reason.Last input.Table 0 (omega arith) (λ _. good tt)
placed-edit (replace r row) T =
    placed-when (leb (length T.rows) r) reason.Index input.Table 0 (omega arith) (λ _.
    placed-then (λ (_ : ℕ). read (table T.width (set T.rows r row)))
    (placed_row T.width (others r T.rows) row) (λ _ _. good tt))

-- both sides of a test with two ways to fail
or-false : (a b : Bool) → (a || b) ≡ false → (a ≡ false) × (b ≡ false)
or-false true b e = let z : ◌≡◌ {A = ℕ} 0 1 = cc in absurd (omega arith)
or-false false b e = (refl, e)

pub placed-table : (t : List ℕ) → Placed most_table_cells (Any {A = Table}) (table_of t)
unfolding table_of
placed-table t =
    placed-when (ltb (length t) 2 || ltb most_table_cells (length t)) reason.Length input.Table 0 (omega arith) (λ h.
    let e = or-false (ltb (length t) 2) (ltb most_table_cells (length t)) h in
    let lo = ltb-false (length t) 2 e.0 in
    let hi = ltb-false most_table_cells (length t) e.1 in
    placed-when (ltb (get_or t 0 0) 1 || ltb 8 (get_or t 0 0)) reason.Width input.Table 0 (omega arith) (λ _.
    placed-when (ltb (get_or t 1 0) 1 || ltb 64 (get_or t 1 0)) reason.Count input.Table 1 (omega arith) (λ _.
    let rows = placed-rows (get_or t 0 0) (get_or t 1 0) [] (drop 2 t) 2 (length t) (omega (arith, length-drop 2 t)) in
    placed-then (λ (rs : List (List ℕ)). read (table (get_or t 0 0) rs)) (widen hi rows) (λ x _. good tt))))

pub placed-goal : (w : ℕ) (g : List ℕ) → Placed 32 (Any {A = ℕ}) (goal_of w g)
unfolding goal_of Within
placed-goal w g =
    placed-when (ltb (length g) 1 || ltb 32 (length g)) reason.Length input.Goal 0 (omega arith) (λ h.
    let hi = ltb-false 32 (length g) (or-false (ltb (length g) 1) (ltb 32 (length g)) h).1 in
    placed-then (λ (m : Met). when (ltb m.next (length g)) (refused reason.Extra input.Goal m.next) (read m.vars))
    (narrow hi (placed-terms false g w 0 0 0 (length g) (omega arith)))
    (λ m i. placed-when (ltb m.next (length g)) reason.Extra input.Goal m.next i (λ _. good tt)))
  where
    narrow : {n : ℕ} {r : Read Met} → n ≤ 32 → Placed n (Within 0 n) r → Placed 32 (λ (m : Met). m.next ≤ 32) r
    narrow l (good {x} w) = good {x = x} (omega arith)
    narrow l (turned k i p q) = turned k i p (omega arith)

pub placed-asked : (t g : List ℕ) → Placed most_table_cells (Any {A = ℕ}) (goal_with t g)
placed-asked t g = placed-then (λ (T : Table). goal_of T.width g) (placed-table t) (λ T _. widen (omega arith) (placed-goal T.width g))

-- a plan's cells: what is read and what is left of it make up the whole
abbrev Left : ℕ → Seen → Type 0
Left n s = s.next + length s.rest ≡ n

module _ (n : ℕ) where
  placed-cell : {A : Type 0} {P : A → Type 0} (ok : ℕ → Bool) (k : Reason) (p : ℕ) (f : ℕ → List ℕ → Read A) (xs : List ℕ)
      → p + length xs ≡ n
      → ((c : ℕ) (ys : List ℕ) → suc p + length ys ≡ n → Placed n P (f c ys)) → Placed n P (cell_then ok k p f xs)
  placed-cell ok k p f [] e h = turned reason.Ends input.Plan p (omega arith)
  placed-cell ok k p f (c ∷ xs) e h = placed-when (not (ok c)) k input.Plan p (omega arith) (λ _. h c xs (omega arith))

  abbrev Reads : Reader → Type 0
  Reads below = (fs : List Bool) (k : ℕ) (rows : List (List ℕ)) (p : ℕ) (xs : List ℕ) → p + length xs ≡ n → Placed n (Left n) (below fs k rows p xs)

  placed-branches : (below : Reader) → Reads below → (fs : List Bool) (i k : ℕ) (gs : List Run) (p : ℕ) (xs : List ℕ) → p + length xs ≡ n
      → Placed n (Left n) (branches_from below fs i k gs p xs)
  placed-branches below r fs i k [] p xs e = good {x = seen 0 p xs} e
  placed-branches below r fs i k (g ∷ gs) p xs e =
      placed-cell (λ c. eqb c g.cell) reason.Label p _ xs e (λ c ys l.
      placed-then _ (r (spread i (arity g.cell) fs) (arity g.cell + k) g.rows (suc p) ys l) (λ s m.
      placed-then _ (placed-branches below r fs i k gs s.next s.rest m) (λ t o.
      good {x = seen (suc (s.branches + t.branches)) t.next t.rest} o)))

  placed-leaf : (rows : List (List ℕ)) (p : ℕ) (xs : List ℕ) → p + length xs ≡ n → Placed n (Left n) (leaf_from rows p xs)
  placed-leaf rows p xs e = placed-cell (λ c. eqb c (length rows)) reason.Rows p _ xs e (λ c ys l. good {x = seen 0 (suc p) ys} l)

  placed-state : (m : ℕ) → Reads (state_from m)
  unfolding state_from
  placed-state zero fs zero rows p xs e = placed-leaf rows p xs e
  placed-state zero fs (suc k) rows p xs e = turned reason.Ends input.Plan p (omega arith)
  placed-state (suc m) fs zero rows p xs e = placed-leaf rows p xs e
  placed-state (suc m) fs (suc k) rows p xs e =
      placed-cell (λ c. leb c k) reason.Open p _ xs e (λ i ys l.
      placed-when (not (may fs i)) reason.Early input.Plan p (omega arith) (λ _.
      placed-cell (λ c. eqb c (length (runs i rows))) reason.Edges (suc p) _ ys l (λ b zs o.
      placed-branches (λ gs j rs q us. state_from m gs j rs q us) (placed-state m) fs i k (runs i rows) (suc (suc p)) zs o)))

pub placed-with : (fs : List Bool) (T : Table) (cells : List ℕ) → Placed most_plan_cells (Any {A = ℕ}) (plan_with fs T cells)
unfolding plan_with
placed-with fs T cells =
    placed-when (ltb most_plan_cells (length cells)) reason.Size input.Plan 0 (omega arith) (λ h.
    let hi = ltb-false most_plan_cells (length cells) h in
    placed-then nothing_after (narrow hi (placed-state (length cells) 32 fs T.width T.rows 0 cells (omega arith)))
    (λ s l. placed-when (ltb 0 (length s.rest)) reason.Extra input.Plan s.next l (λ _. good tt)))
  where
    narrow : {n : ℕ} {r : Read Seen} → n ≤ most_plan_cells → Placed n (Left n) r → Placed most_plan_cells (λ (s : Seen). s.next ≤ most_plan_cells) r
    narrow l (good {x} w) = good {x = x} (omega arith)
    narrow l (turned k i p q) = turned k i p (omega arith)

pub placed-plan : (T : Table) (cells : List ℕ) → Placed most_plan_cells (Any {A = ℕ}) (plan_for T cells)
placed-plan = placed-with []

-- the check for named columns: COLUMN between the table's and the plan's
placed-columns : (T : Table) (columns : List ℕ) → Placed most_plan_cells (Any {A = List Bool}) (columns_for T columns)
placed-columns T columns = placed-when (any_past T.width columns) reason.Column input.Columns 0 (omega arith) (λ _. good tt)

pub placed-under : (t columns p : List ℕ) → Placed most_plan_cells (Any {A = ℕ}) (plan_under t columns p)
placed-under t columns p =
    placed-then _ (widen (omega arith) (placed-table t)) (λ T _. placed-then _ (placed-columns T columns) (λ fs _. placed-with fs T p))

-- a run: the table's, the plan's and the goal's refusals, and ROOM at the number of rows
pub placed-checked : (t p : List ℕ) → Placed most_plan_cells (Any {A = ℕ}) (plan_of t p)
placed-checked t p = placed-then (λ (T : Table). plan_for T p) (widen (omega arith) (placed-table t)) (λ T _. placed-plan T p)

pub placed-run : (t p g room : List ℕ) → Placed most_plan_cells (Any {A = Table}) (run_of t p g room)
unfolding run_of
placed-run t p g room = go (table_of t) refl
  where
    rest : (T : Table) → length T.rows ≤ 64 → Placed most_plan_cells Any (and_then (plan_of t p) (λ (n : ℕ).
        and_then (goal_of T.width g) (λ (v : ℕ).
        when (ltb (length room) (length T.rows)) (refused reason.Room input.Lent (length T.rows)) (read T))))
    rest T l =
        placed-then _ (placed-checked t p) (λ n _.
        placed-then _ (widen (omega arith) (placed-goal T.width g)) (λ v _.
        placed-when (ltb (length room) (length T.rows)) reason.Room input.Lent (length T.rows) (omega arith) (λ _. good tt)))

    go : (r : Read Table) → table_of t ≡ r → Placed most_plan_cells Any (and_then r (λ (T : Table).
        and_then (plan_of t p) (λ (n : ℕ).
        and_then (goal_of T.width g) (λ (v : ℕ).
        when (ltb (length room) (length T.rows)) (refused reason.Room input.Lent (length T.rows)) (read T)))))
    go (read T) e = rest T (is-table t e).count.1
    go (refuse f) e = widen (omega arith) (rw e at (placed-table t))

-- the replies: the same without the room
pub placed-replies : (t p g : List ℕ) → Placed most_plan_cells (Any {A = Table}) (replies_of t p g)
unfolding replies_of
placed-replies t p g =
    placed-then _ (widen (omega arith) (placed-table t)) (λ T _.
    placed-then _ (placed-checked t p) (λ n _.
    placed-then _ (widen (omega arith) (placed-goal T.width g)) (λ v _. good tt)))

-- a plan handed back: the table's and the plan's
pub placed-handed : (t p : List ℕ) → Placed most_plan_cells (Any {A = Table}) (hand_of t p)
unfolding hand_of
placed-handed t p =
    placed-then _ (widen (omega arith) (placed-table t)) (λ T _. placed-then _ (placed-plan T p) (λ n _. good tt))

-- a file: a block's place in it, then the table's and the plan's
pub placed-file : (f : List ℕ) → Placed (blocks.whole f + most_plan_cells) (Any {A = Card}) (file_read f)
unfolding file_read card_of
placed-file f =
    let cells = blocks.good_cells f 0 in
    let most = sound-most (blocks.whole f - 0) 0 (drop (128 * 0) (cells_of f)) in
    placed-when (eqb (length f) 0 || not (eqb (length f % 512) 0)) reason.Blocks input.File 0 (omega arith) (λ _.
    placed-when (ltb (blocks.good f 0) (blocks.whole f)) reason.Damage input.File (blocks.good f 0) (omega (arith, most)) (λ _.
    placed-when (not (eqb (needed (sizes cells)) (blocks.whole f))) reason.Sizes input.File 0 (omega arith) (λ _.
    placed-when (not (zeros (drop (sizes cells) cells))) reason.Padding input.File 0 (omega arith) (λ _.
    placed-then (λ (n : ℕ). read (card (table_part cells) (plan_part cells)))
    (widen (omega arith) (placed-checked (table_part cells) (plan_part cells))) (λ n _. good tt)))))
