-- One branch, when it is met and when it has ended.
use Prim.Native.Nat.{ℕ, suc, ◌+◌, ◌-◌, ◌*◌, ◌^◌, ◌≤◌, ◌<◌}
use mathlib.Core.Path.{◌≡◌, refl, sym, ◌∙◌, ap, subst}
use mathlib.Core.Logic.{◌≢◌, by_cases}
use mathlib.Core.Bool.{Bool, true, false, cond, true≢false}
use mathlib.Core.List.{List, [], ◌∷◌, map, append-nil}
use native.Mathlib.Decide.{ℕ_discrete}
use native.Mathlib.Omega.{arith}
use lib.Dec.{eqb, ltb}
use lib.ListN.{length, get_or, set, take, replicate, length-set, length-replicate}
use lib.Seq.{sets, slice, slice_empty, slice-cons, length-slice, get_or-take, get_or-drop, get_or-set_same, get_or-set_other}
use borrow.Author.Tests.{ne_eqb, lt-ltb}
use Rattle.cell.specs.Cell.{arity, is_var}
use Rattle.cell.proofs.CellLaws.{var-small}
use Rattle.term.proofs.Tests.{eqb_same}
use Rattle.term.proofs.Lists.{get_d_sets, set-sets, get_d-zeros}
use Rattle.table.specs.All.{All}
use Rattle.table.specs.Table.{count}
use Rattle.table.proofs.AllLaws.{all-at}
use Rattle.plan.specs.Notes.{twice, repeats, cell_in}
use Rattle.plannotes.specs.code.Places.{Spot, Closed}
use Rattle.plannotes.specs.code.Steps.{part_of, end_of, ended, finished, Low, Part, Ending, BranchMet, Begun}
use Rattle.plannotes.proofs.PlacesLaws.{spot-small}
use Rattle.plannotes.proofs.AloneLaws.{met-mark}
use Rattle.limits.specs.Limits.{most_branches}

-- A branch that is met.
part-cell : (c r n l : ℕ) → c < 2 ^ 32 → cell_in (part_of c r n l) ≡ c
part-cell c r n l h = omega arith

module _ {plan links notes : List ℕ} {i place made free row : ℕ} (w : BranchMet plan links notes i place made free row) {a : ℕ}
    (e : a ≡ arity (get_or plan place 0)) where
  -- its place, with the number of arguments that the code counts
  pub spot_of : Spot links i a free
  spot_of = record { slots = w.spot.slots; opens = w.spot.opens; here = w.spot.here; room = rw e w.spot.room }

  module _ {links' : List ℕ} {slot : ℕ} (f : (s : Spot links i a free) → Closed s links' slot) where
    pub slot-low : (row < 64) × (free < 64) × (slot < 64)
    unfolding spot_of
    slot-low = (w.first, omega (arith, spot_of.room), rw (f spot_of).found (spot-small spot_of))

    pub begun : (x : ℕ) → get_or plan place 0 < 2 ^ 32 → x ≡ part_of (get_or plan place 0) row free slot → Begun w links' (set notes made x) a
    unfolding spot_of
    begun x h q =
        let c = f spot_of in
        let z : Part (part_of (get_or plan place 0) row free slot) = omega (arith, slot-low) in
        let y : cell_in (part_of (get_or plan place 0) row free slot) ≡ get_or plan place 0 = part-cell (get_or plan place 0) row free slot h in
        record { count = e; wrote = ap (set notes made) q ∙ rw c.found; low = rw c.found at z; cell = rw c.found at y; opens = c.opens }

-- Branches that end.

-- a cell before others: it is met, and no other
met-same : (c : ℕ) (cs : List ℕ) → ◌≡◌ {A = ℕ} 1 (cond (ltb 0 (count c (c ∷ cs))) 1 0)
unfolding count
met-same c cs = rw (lt-ltb 0 (cond (eqb c c) 1 0 + count c cs) (rw (eqb_same c) (omega arith)))

met-other : (v c : ℕ) (cs : List ℕ) → v ≢ c → ◌≡◌ {A = ℕ} (cond (ltb 0 (count v cs)) 1 0) (cond (ltb 0 (count v (c ∷ cs))) 1 0)
unfolding count
met-other v c cs d = let e : count v cs ≡ cond (eqb v c) 1 0 + count v cs = rw (ne_eqb v c d) (omega arith) in ap (λ (n : ℕ). cond (ltb 0 n) 1 0) e

-- those from the number i on are finished: `seen` has 1 for each variable of theirs, and `again` is the mark where one stands twice
pub record Finishing (notes₀ : List ℕ) (from to past : ℕ) (notes seen : List ℕ) (again i : ℕ) : Type 0 where
  pub down : from ≤ i
  pub up : i ≤ to
  pub size : length notes ≡ most_branches
  pub done : notes ≡ sets notes₀ i (finished (past - to) (slice i to notes₀) [])
  pub met : (v : ℕ) → v < 32 → get_or seen v 0 ≡ cond (ltb 0 (count v (map cell_in (slice i to notes₀)))) 1 0
  pub twice-met : again ≡ cond (twice (map cell_in (slice i to notes₀))) 1 0 * 2 ^ 63
  pub size-seen : length seen ≡ 32

pub finish-first : {notes : List ℕ} {from to past : ℕ} → Ending notes from to past → Finishing notes from to past notes (replicate 32 0) 0 to
unfolding finished count twice
finish-first {notes} {to = to} E =
    let s = slice_empty to notes in
    record {
      down = E.up;
      up = omega arith;
      size = E.size;
      done = rw s refl;
      met = λ v l. rw (s, get_d-zeros 32 v) refl;
      twice-met = rw s refl;
      size-seen = length-replicate {A = ℕ} 32 0;
    }

module _ {notes₀ : List ℕ} {from to past : ℕ} {notes seen : List ℕ} {again i : ℕ} (E : Ending notes₀ from to past)
    (f : Finishing notes₀ from to past notes seen again i) where
  pub finish-over : i ≤ from → notes ≡ sets notes₀ from (finished (past - to) (slice from to notes₀) [])
  finish-over h = let q : i ≡ from = omega (arith, f.down) in rw q at f.done

  -- a mark is at most bit 63
  pub mark-low : (b : Bool) {r : ℕ} → r ≡ cond b again (2 ^ 63) → r ≤ 2 ^ 63
  mark-low b e = rw (e, f.twice-met) (either b (twice (map cell_in (slice i to notes₀))))
    where
      either : (b t : Bool) → cond b (cond t 1 0 * 2 ^ 63) (2 ^ 63) ≤ 2 ^ 63
      either true true = omega arith
      either true false = omega arith
      either false t = omega arith

  -- the one before them
  module _ (h : from < i) where
    abbrev w : ℕ
    w = get_or notes₀ (i - 1) 0

    abbrev cs : List ℕ
    cs = map cell_in (slice i to notes₀)

    pub read_is : get_or notes (i - 1) 0 ≡ w
    read_is = ap (λ (l : List ℕ). get_or l (i - 1) 0) f.done ∙ get_d_sets notes₀ (finished (past - to) (slice i to notes₀) []) (i - 1) i (omega arith)

    sliced : slice (i - 1) to notes₀ ≡ w ∷ slice i to notes₀
    sliced = let q : suc (i - 1) ≡ i = omega arith in rw q at (slice-cons (i - 1) to notes₀ 0 (omega (arith, f.up)) (omega (arith, E.on, E.few, E.size)))

    -- how many branches are below it
    below-it : length (slice i to notes₀) + (past - to) ≡ past - i
    below-it = omega (arith, length-slice i to notes₀ (omega (arith, E.on, E.few, E.size)), f.up, E.on)

    one_of : (P : ℕ → Type 0) → All P (slice from to notes₀) → P w
    one_of P a =
        let e : get_or (slice from to notes₀) (i - 1 - from) 0 ≡ w =
        get_or-drop from (take to notes₀) (i - 1 - from) 0 ∙ get_or-take to notes₀ (from + (i - 1 - from)) 0 (omega (arith, f.up))
        ∙ ap (λ (n : ℕ). get_or notes₀ n 0) (let q : from + (i - 1 - from) ≡ i - 1 = omega arith in q) in
        subst P e (all-at P 0 (slice from to notes₀) (i - 1 - from)
        (omega (arith, length-slice from to notes₀ (omega (arith, E.on, E.few, E.size)), f.up)) a)

    pub word_low : Part (get_or notes (i - 1) 0)
    word_low = rw read_is (one_of Part E.parts)

    pub cell-low : {c : ℕ} → c ≡ cell_in (get_or notes (i - 1) 0) → is_var c ≡ true → c < 32
    cell-low e = rw (e, read_is) (one_of (λ (p : ℕ). Low (cell_in p)) E.low)

    stored : (y : ℕ) → y ≡ ended (length (slice i to notes₀) + (past - to)) w + cond (repeats (cell_in w) cs) 1 0 * 2 ^ 63
        → set notes (i - 1) y ≡ sets notes₀ (i - 1) (finished (past - to) (slice (i - 1) to notes₀) [])
    unfolding finished
    stored y e =
        let q : suc (i - 1) ≡ i = omega arith in
        let F : List ℕ = finished (past - to) (slice i to notes₀) [] in
        let l : set notes (i - 1) y ≡ sets (set notes₀ (i - 1) y) i F =
        ap (λ (l : List ℕ). set l (i - 1) y) f.done ∙ set-sets notes₀ (i - 1) i y F (omega arith) in
        let r : finished (past - to) (slice (i - 1) to notes₀) [] ≡ y ∷ F =
        ap (λ (l : List ℕ). finished (past - to) l []) sliced ∙ rw (append-nil cs) (ap (λ (z : ℕ). z ∷ F) (sym e)) in
        l ∙ ap (λ (n : ℕ). sets (set notes₀ (i - 1) y) n F) (sym q) ∙ ap (sets notes₀ (i - 1)) (sym r)

    next : {y again' : ℕ} {seen' : List ℕ} → y ≡ ended (length (slice i to notes₀) + (past - to)) w + cond (repeats (cell_in w) cs) 1 0 * 2 ^ 63
        → ((v : ℕ) → v < 32 → get_or seen' v 0 ≡ cond (ltb 0 (count v (cell_in w ∷ cs))) 1 0) → again' ≡ cond (twice (cell_in w ∷ cs)) 1 0 * 2 ^ 63
        → length seen' ≡ 32
        → Finishing notes₀ from to past (set notes (i - 1) y) seen' again' (i - 1)
    next {y} e m t z = record {
      down = omega arith;
      up = omega (arith, f.up);
      size = length-set notes (i - 1) y ∙ f.size;
      done = stored y e;
      met = λ v l. rw sliced (m v l);
      twice-met = rw sliced t;
      size-seen = z;
    }

    -- a symbol's branch
    pub finish-symbol : {c x : ℕ} → c ≡ cell_in (get_or notes (i - 1) 0) → is_var c ≡ false → x ≡ end_of (past - i)
        → Finishing notes₀ from to past (set notes (i - 1) (get_or notes (i - 1) 0 + x)) seen again (i - 1)
    unfolding twice
    finish-symbol {c} {x} ec v ex =
        let hc : is_var (cell_in w) ≡ false = rw (← read_is, ← ec) v in
        next (rw (read_is, ex, hc, below-it) (omega arith))
        (λ u l. f.met u l ∙ met-other u (cell_in w) cs (λ e. true≢false (sym (var-small u (omega arith)) ∙ ap is_var e ∙ hc)))
        (rw hc f.twice-met) f.size-seen

    -- a variable's
    pub finish-variable : {c x r : ℕ} {seen' : List ℕ} → c ≡ cell_in (get_or notes (i - 1) 0) → is_var c ≡ true → x ≡ end_of (past - i)
        → r ≡ cond (eqb (get_or seen c 0) 0) again (2 ^ 63) → seen' ≡ set seen c 1
        → Finishing notes₀ from to past (set notes (i - 1) (get_or notes (i - 1) 0 + x + r)) seen' r (i - 1)
    unfolding twice
    finish-variable {c} {x} {r} {seen'} ec v ex er es =
        let q : cell_in w ≡ c = rw (← read_is) (sym ec) in
        let hc : is_var (cell_in w) ≡ true = rw q v in
        let l : c < 32 = cell-low ec v in
        let t : r ≡ cond (twice (cell_in w ∷ cs)) 1 0 * 2 ^ 63 =
        er ∙ rw (q, v) (met-mark (get_or seen c 0) again (ltb 0 (count c cs)) (twice cs) (f.met c l) f.twice-met) in
        next (rw (read_is, ex, below-it) (ap (λ (z : ℕ). w + end_of (past - i) + z) (t ∙ rw hc refl)))
        (λ u k. rw (es, q) (by_cases (ℕ_discrete u c)
        (λ e. rw e (get_or-set_same seen c 1 0 (omega (arith, f.size-seen)) ∙ met-same c cs))
        (λ d. get_or-set_other seen c u 1 0 d ∙ f.met u k ∙ met-other u c cs d)))
        t (rw es (length-set seen c 1 ∙ f.size-seen))
