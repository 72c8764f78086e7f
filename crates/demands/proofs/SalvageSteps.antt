-- W-212's statements (specs/Salvage) and the definitions of crate salvaging: the steps that proofs/Salvage cites.
use Prim.Native.Nat.{ℕ, zero, suc, ◌+◌, ◌-◌, ◌*◌, ◌/◌, ◌%◌, ◌≤◌, ◌<◌, min}
use mathlib.Core.Path.{◌≡◌, refl, sym, ◌∙◌, ap, subst}
use mathlib.Core.Logic.{◌⊎◌, inl, inr}
use mathlib.Core.Bool.{Bool, true, false, cond}
use mathlib.Core.List.Memᴰ
use mathlib.Core.List.{List, [], ◌∷◌, ◌++◌, flatten, append-nil}
use native.Mathlib.Omega.{arith}
use lib.Dec.{eqb}
use lib.ListN.{length, get_or, take, drop, length-append, length-take, length-drop, take-append-drop, get_or-append}
use lib.Seq.{length-take-le, get_or-take, get_or-drop, get_or-append-add, ext_get_or}
use borrow.Author.Tests.{eq-eqb, eqb-true, ne_eqb, leb-true}
use Rattle.term.specs.Terms.{Terms}
use Rattle.term.proofs.Tests.{bool_cases}
use Rattle.refusal.specs.Read.{Read, read, refuse}
use Rattle.table.specs.All.{All}
use Rattle.table.specs.Table.{table, Row, Apart, IsTable}
use Rattle.table.proofs.AllLaws.{all-each, all-members}
use Rattle.table.proofs.ReadLaws.{not-both, within-bounds}
use Rattle.table.proofs.Accepted.{is-table}
use Rattle.plan.specs.Check.{plan_of}
use Rattle.plan.proofs.PlansLaws.{write-some}
use Rattle.least.specs.Measures.{work}
use Rattle.least.specs.declared.By.TheVariants.{Work}
use Rattle.least.proofs.Weighed.{by-light}
use Rattle.least.proofs.Building.{built-least}
use Rattle.least.proofs.NoneNamed.{plain-least}
use Rattle.octets.specs.Octets.{cells_of}
use Rattle.blocks.specs.Blocks.{sound, whole, good, good_cells, block_at, cells_in}
use Rattle.blocks.proofs.BlockLaws.{and_both, cells-size, sound-parts}
use Rattle.blocks.proofs.LookLaws.{good-next}
use Rattle.filing.specs.Files.{table_size, plan_size, table_part}
use Rattle.salvaging.specs.Kept.{kept_from}
use Rattle.salvaging.specs.Salvage.{front, width, count, no_head, kept, kept_cells, plan_start, plan_run, plan_cells, in_sound}
use Rattle.salvaging.specs.Salvage.{accepted, plan_kept, PlanHad, old-plan, new-plan}
use Rattle.salvaging.proofs.KeptLaws.{Starts, kept-are, longest, no_rows}
use Rattle.salvaging.proofs.TopLaws.{a-head, head-is}
use Rattle.salvaging.proofs.InSound.{sound-whole, run-first, in-sound}
use Rattle.demands.specs.Files.{SoundAt}
use Rattle.demands.specs.Salvage.{SoundBlock, cell_on, table_size_on, plan_size_on, width_on, count_on, Headed, RunOf, Longest, table_with}
use Rattle.demands.specs.Salvage.{OldPlan, PlanOut, old, new}
use Rattle.demands.proofs.Cited.{reads, writes, tree-read}
use Rattle.demands.proofs.FileSteps.{sound-at, at-sound, good-sound, all-counted}

-- Blocks and cells. A block is sound by 02's words exactly where it is by the code's test,
module _ (f : List ℕ) (k : ℕ) where
  pub sound-block : sound k (block_at f k) ≡ true → SoundBlock f k
  sound-block e = record { there = sound-whole f k e; sound = sound-at f k e }

  pub block-sound : SoundBlock f k → sound k (block_at f k) ≡ true
  block-sound s = at-sound f k s.there s.sound

-- and the cells of the sound blocks from one on are the file's own
block-long : (f : List ℕ) (b : ℕ) → sound b (block_at f b) ≡ true → length (cells_in (block_at f b)) ≡ 125
block-long f b s = length-take-le 125 (drop 1 (block_at f b)) (omega (arith, length-drop 1 (block_at f b), (sound-parts b (block_at f b) s).size))

run-cell : (n : ℕ) (f : List ℕ) (b j : ℕ) → j / 125 ≡ n → j < 125 * good f b → get_or (good_cells f b) j 0 ≡ cell_on f (125 * b + j)
run-cell zero f b j e h =
    let s = run-first f b (omega arith) in
    let g = good-next f b (sound-whole f b s.0) s.0 in
    let B = block_at f b in
    let q : (125 * b + j) / 125 ≡ b = omega arith in
    let r : (125 * b + j) % 125 ≡ j = omega arith in
    ap (λ (l : List ℕ). get_or l j 0) g.1 ∙ get_or-append (cells_in B) (good_cells f (b + 1)) 0 j (omega (arith, block-long f b s.0))
    ∙ get_or-take 125 (drop 1 B) j 0 (omega arith) ∙ get_or-drop 1 B j 0 ∙ rw (q, r) refl
run-cell (suc n) f b j e h =
    let s = run-first f b (omega arith) in
    let g = good-next f b (sound-whole f b s.0) s.0 in
    let c = cells_in (block_at f b) in
    let m : length c + (j - 125) ≡ j = omega (arith, block-long f b s.0) in
    let k : 125 * (b + 1) + (j - 125) ≡ 125 * b + j = omega arith in
    ap (λ (l : List ℕ). get_or l j 0) g.1 ∙ ap (λ (i : ℕ). get_or (c ++ good_cells f (b + 1)) i 0) (sym m)
    ∙ get_or-append-add c (good_cells f (b + 1)) (j - 125) 0 ∙ run-cell n f (b + 1) (j - 125) (omega arith) (omega (arith, s.1)) ∙ ap (cell_on f) k

run_long : (f : List ℕ) (b : ℕ) → length (good_cells f b) ≡ 125 * good f b
run_long f b = cells-size (whole f - b) b (drop (128 * b) (cells_of f))

front-cell : (f : List ℕ) (j : ℕ) → j < 125 * good f 0 → get_or (front f) j 0 ≡ cell_on f j
front-cell f j h = let z : 125 * 0 + j ≡ j = omega arith in run-cell (j / 125) f 0 j refl h ∙ ap (cell_on f) z

-- The head: with block 0 sound the sizes, the width and the count are the file's own.
pub record Sizes (f : List ℕ) : Type 0 where
  pub table-size : table_size (front f) ≡ table_size_on f
  pub plan-size : plan_size (front f) ≡ plan_size_on f
  pub width_is : width f ≡ width_on f
  pub count-is : count f ≡ count_on f

sizes-on : (f : List ℕ) → 1 ≤ good f 0 → Sizes f
sizes-on f h = record {
  table-size = front-cell f 0 (omega arith);
  plan-size = front-cell f 1 (omega arith);
  width_is = front-cell f 2 (omega arith);
  count-is = front-cell f 3 (omega arith);
}

pub good-some : (f : List ℕ) → SoundBlock f 0 → 1 ≤ good f 0
good-some f s = all-counted f 1 (let t = s.there in omega arith) (λ j l. first j l)
  where
    first : (j : ℕ) → j < 1 → SoundAt f j
    first zero l = s.sound
    first (suc j) l = absurd (omega arith)

pub is-headed : (f : List ℕ) → no_head f ≡ false → Headed f
is-headed f e =
    let a = head-is f e in
    let z = sizes-on f a.some in
    record {
      block = sound-block f 0 (good-sound f 0 a.some);
      width-in = rw (← z.width_is) a.columns;
      count-in = rw (← z.count-is) a.rows;
    }

module _ (f : List ℕ) (h : Headed f) where
  abbrev some : 1 ≤ good f 0
  some = good-some f h.block

  pub sizes-of : Sizes f
  sizes-of = sizes-on f some

  pub headed : no_head f ≡ false
  headed =
      let w = rw (← sizes-of.width_is) at h.width-in in
      let n = rw (← sizes-of.count-is) at h.count-in in
      a-head f (ne_eqb (good f 0) 0 (λ z. let y : ⊥ = omega (arith, some) in y)) (within-bounds (width f) 1 8 w.0 w.1)
      (within-bounds (count f) 1 64 n.0 n.1)

  -- The rows: they are read from these cells, which are the file's own from cell 4 on.
  abbrev from-four : List ℕ
  from-four = drop 2 (table_part (front f))

  -- how many there are: up to the table size, and up to the end of the sound blocks
  four-long : length from-four ≡ min (table_size_on f) (125 * good f 0 - 2) - 2
  four-long =
      let G = front f in
      let z = sizes-of.table-size in
      omega (arith, length-drop 2 (table_part G), length-take (table_size G) (drop 2 G), length-drop 2 G, run_long f 0, z)

  four-cell : (j : ℕ) → j < length from-four → get_or from-four j 0 ≡ cell_on f (4 + j)
  four-cell j l =
      let G = front f in
      let m = four-long in
      let z = sizes-of.table-size in
      let s : 2 + (2 + j) ≡ 4 + j = omega arith in
      get_or-drop 2 (table_part G) j 0 ∙ get_or-take (table_size G) (drop 2 G) (2 + j) 0 (omega (arith, l, m, z)) ∙ get_or-drop 2 G (2 + j) 0
      ∙ ap (λ (i : ℕ). get_or G i 0) s ∙ front-cell f (4 + j) (omega (arith, l, m, some))

  kept_run : RunOf f (kept f)
  kept_run =
      let k = kept-are (width f) (count f) [] from-four in
      let K = flatten (kept f) in
      let l : length K ≤ length from-four = omega (arith, ap length k.cells, length-append K k.rest) in
      let m = four-long in
      record {
        each = subst (λ (w : ℕ). All (Row w) (kept f)) sizes-of.width_is k.are.each;
        apart = k.are.distinct;
        few = omega (arith, k.few, sizes-of.count-is);
        cells = λ j i.
            sym (get_or-append K k.rest 0 j i) ∙ ap (λ (r : List ℕ). get_or r j 0) k.cells ∙ four-cell j (omega (arith, i, l));
        within = omega (arith, l, m);
        before = λ i b. sound-block f i (good-sound f i (omega (arith, b, l, m, some)));
      }

  -- a run's rows end in a sound block, and so its cells are among these
  run_ends : (rows : List (List ℕ)) → RunOf f rows → 4 + length (flatten rows) ≤ 125 * good f 0
  run_ends rows x =
      let n = length (flatten rows) in
      let k = (4 + n + 124) / 125 in
      let w = (x.before (k - 1) (omega arith)).there in
      let c = all-counted f k (omega arith) (λ j l. (x.before j (omega (arith, l))).sound) in
      omega (arith, c)

  run-starts : (rows : List (List ℕ)) → RunOf f rows → Starts rows (kept f)
  run-starts rows x =
      let R = flatten rows in
      let n = length R in
      let m = four-long in
      let l : n ≤ length from-four = omega (arith, m, run_ends rows x, x.within) in
      let t = take n from-four in
      let lt : length t ≡ n = length-take-le n from-four l in
      let e : R ≡ t = ext_get_or 0 R t (sym lt) (λ j i. x.cells j i ∙ sym (four-cell j (omega (arith, i, l))) ∙ sym (get_or-take n from-four j 0 i)) in
      let all : R ++ drop n from-four ≡ from-four = ap (λ (r : List ℕ). r ++ drop n from-four) e ∙ take-append-drop n from-four in
      let s =
      longest (width f) (count f) [] rows (drop n from-four) (subst (λ (w : ℕ). All (Row w) rows) (sym sizes-of.width_is) x.each)
      (all-members (Apart []) rows (λ r m g i. absurd (Memᴰ.not-nil i))) x.apart (let c = x.few in omega (arith, sizes-of.count-is)) in
      record { more = s.more; both = s.both ∙ ap (kept_from (width f) (count f) []) all }

  pub kept-longest : Longest f (kept f)
  kept-longest = record {
    run = kept_run;
    longest = λ rows x. (let s = run-starts rows x in omega (arith, ap length s.both, length-append rows s.more));
  }

  -- no other run is a longest one
  pub longest-kept : (rows : List (List ℕ)) → Longest f rows → rows ≡ kept f
  longest-kept rows x =
      let s = run-starts rows x.run in
      let n : length s.more ≡ 0 = omega (arith, ap length s.both, length-append rows s.more, x.longest (kept f) kept_run) in
      sym (append-nil rows) ∙ ap (λ (l : List (List ℕ)). rows ++ l) (sym (no_rows s.more n)) ∙ s.both

  pub with-kept : table_with f (kept f) ≡ kept_cells f
  with-kept = ap (λ (w : ℕ). w ∷ length (kept f) ∷ flatten (kept f)) (sym sizes-of.width_is)

-- so a run, where it has any row, is a table
pub run-table : (f : List ℕ) → Headed f → (rows : List (List ℕ)) → RunOf f rows → 1 ≤ length rows → IsTable (table_with f rows) (width_on f) rows
run-table f h rows x s = record {
  cells = refl;
  width = h.width-in;
  count = (s, (let c = h.count-in.1 in omega (arith, x.few, c)));
  each = x.each;
  apart = x.apart;
}

-- The plan.
accepts : (r : Read ℕ) → accepted r ≡ true → (n : ℕ) × (r ≡ read n)
accepts (read n) e = (n, refl)
accepts (refuse g) e = not-both refl (sym e)

-- where its cells are in sound blocks they are the file's own
module _ (f : List ℕ) (e : in_sound f ≡ true) where
  abbrev fits : plan_start f % 125 + plan_size (front f) ≤ length (plan_run f)
  fits = leb-true (plan_start f % 125 + plan_size (front f)) (length (plan_run f)) e

  plan-long : length (plan_cells f) ≡ plan_size (front f)
  plan-long =
      length-take-le (plan_size (front f)) (drop (plan_start f % 125) (plan_run f)) (omega (arith, fits, length-drop (plan_start f % 125) (plan_run f)))

  plan-cell : (j : ℕ) → j < plan_size (front f) → get_or (plan_cells f) j 0 ≡ cell_on f (plan_start f + j)
  plan-cell j l =
      let b = plan_start f / 125 in
      let r = plan_start f % 125 in
      let s : 125 * b + (r + j) ≡ plan_start f + j = omega arith in
      get_or-take (plan_size (front f)) (drop r (plan_run f)) j 0 l ∙ get_or-drop r (plan_run f) j 0
      ∙ run-cell ((r + j) / 125) f b (r + j) refl (omega (arith, l, fits, run_long f b)) ∙ ap (cell_on f) s

module _ (f : List ℕ) (h : Headed f) (s : 1 ≤ length (kept f)) where
  abbrev Z : Sizes f
  Z = sizes-of f h

  abbrev is-kept : IsTable (table_with f (kept f)) (width_on f) (kept f)
  is-kept = run-table f h (kept f) (kept_run f h) s

  plan-old : plan_kept f ≡ true → OldPlan f (kept f) (plan_cells f)
  plan-old e =
      let a = and_both (eqb (length (kept f)) (count f)) _ e in
      let b = and_both (in_sound f) _ a.1 in
      let n = accepts (plan_of (kept_cells f) (plan_cells f)) b.1 in
      let w = writes (table_with f (kept f)) (plan_cells f) is-kept n.0 (rw (with-kept f h) n.1) in
      let ps = Z.plan-size in
      let ts = Z.table-size in
      record {
        all = eqb-true (length (kept f)) (count f) a.0 ∙ Z.count-is;
        size = plan-long f b.0 ∙ ps;
        same = λ j l. plan-cell f b.0 j (omega (arith, l, ps)) ∙ ap (λ (k : ℕ). cell_on f (2 + k + j)) ts;
        sound = λ j l.
            sound-block f ((2 + table_size_on f + j) / 125)
            ((in-sound f (omega (arith, l, ps))).0 b.0 (2 + table_size_on f + j) (omega (arith, ts)) (omega (arith, l, ts, ps)));
        tree = w.tree;
        written = w.cells;
      }

  old-plan-kept : (cells : List ℕ) → OldPlan f (kept f) cells → (plan_kept f ≡ true) × (cells ≡ plan_cells f)
  old-plan-kept cells x =
      let ps = Z.plan-size in
      let ts = Z.table-size in
      let some : 0 < plan_size (front f) = omega (arith, write-some x.tree, ap length x.written, x.size, ps) in
      let i : in_sound f ≡ true = (in-sound f some).1 (λ j a b. each j a b) in
      let e : cells ≡ plan_cells f =
      ext_get_or 0 cells (plan_cells f) (x.size ∙ sym ps ∙ sym (plan-long f i))
      (λ j l.
      x.same j (omega (arith, l, x.size)) ∙ ap (λ (k : ℕ). cell_on f (2 + k + j)) (sym ts)
      ∙ sym (plan-cell f i j (omega (arith, l, x.size, ps)))) in
      let ok = tree-read is-kept x.tree (x.written ∙ e) in
      (rw (eq-eqb (length (kept f)) (count f) (x.all ∙ sym Z.count-is), i, sym (with-kept f h), ok) refl, e)
    where
      each : (j : ℕ) → plan_start f ≤ j → j < plan_start f + plan_size (front f) → sound (j / 125) (block_at f (j / 125)) ≡ true
      each j a b =
          let d : 2 + table_size_on f + (j - plan_start f) ≡ j = omega (arith, a, Z.table-size) in
          block-sound f (j / 125)
          (subst (λ (k : ℕ). SoundBlock f (k / 125)) d (x.sound (j - plan_start f) (omega (arith, a, b, Z.plan-size))))

  pub plan-out : (keeps : Bool) (cells : List ℕ) → PlanHad f keeps cells → PlanOut f (kept f) (cond keeps 1 0) cells
  plan-out true cells (old-plan e) = old (plan-old e)
  plan-out false cells (new-plan e T q plan b) =
      let t = rw (sym (with-kept f h)) at q in
      let i = is-table (table_with f (kept f)) t in
      new _ (λ others x. not-both (old-plan-kept others x).0 e) (record {
        width = T.width;
        rows = T.rows;
        is-table = i;
        tree = plan;
        written = refl;
        checked = tree-read i plan refl;
        costs = refl;
        none-less =
            plain-least (work 0)
            (built-least (work 0) (by-light (Work 0)) [] plan (all-each (Row T.width) (Terms T.width) (λ r x. x.terms) T.rows i.each) b).0;
        rule = b;
      })

  pub record HadSo (number : ℕ) (cells : List ℕ) : Type 0 where
    pub keeps : Bool
    pub had : PlanHad f keeps cells
    pub told : cond keeps 1 0 ≡ number

  pub plan-had : {number : ℕ} {cells : List ℕ} → PlanOut f (kept f) number cells → HadSo number cells
  plan-had (old {cells} x) =
      let k = old-plan-kept cells x in
      record { keeps = true; had = subst (PlanHad f true) (sym k.1) (old-plan k.0); told = refl }
  plan-had (new {cells} cost none x) =
      record {
        keeps = false;
        had = subst (PlanHad f false) x.written
            (new-plan (dropped (bool_cases (plan_kept f))) (table x.width x.rows) (rw (with-kept f h) at (reads x.is-table)) x.tree
            x.rule);
        told = refl;
      }
    where
      dropped : (plan_kept f ≡ true) ⊎ (plan_kept f ≡ false) → plan_kept f ≡ false
      dropped (inl e) = absurd (none (plan_cells f) (plan-old e))
      dropped (inr e) = e
