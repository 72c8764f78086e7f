-- W-212 of what the entry promises: `SalvageCoded f t p b r t' p' b' r' n`. The statements are in specs/Salvage.
use Prim.Native.Nat.{ℕ, ◌+◌, ◌-◌, ◌%◌, ◌^◌, ◌≤◌, ◌<◌}
use mathlib.Core.Path.{◌≡◌, refl, sym, ◌∙◌, ap, subst}
use mathlib.Core.Logic.{◌⊎◌, inl, inr}
use mathlib.Core.Bool.{Bool, true, false, cond}
use mathlib.Core.List.{List, [], ◌∷◌, ◌++◌, flatten}
use native.Mathlib.Omega.{arith}
use lib.ListN.{length, get_or, take, drop, length-append}
use lib.Seq.{take_at}
use Rattle.refusal.specs.Refusal.{Refused, refused, Answer, answered, turned}
use Rattle.refusal.specs.declared.Reason.TheVariants as reason
use Rattle.refusal.specs.declared.Input.TheVariants as input
use Rattle.refusal.specs.Read.{read}
use Rattle.refusal.specs.Coded.{decoded}
use Rattle.term.proofs.Tests.{bool_cases}
use Rattle.table.specs.Table.{table, IsTable}
use Rattle.table.proofs.ReadLaws.{not-both}
use Rattle.table.proofs.Accepted as tables
use Rattle.plan.specs.Check.{plan_of}
use Rattle.octets.specs.Octets.{Bytes, AreWords}
use Rattle.filing.specs.Files.{card, file_of}
use Rattle.filing.proofs.Undo.{accepted-sizes, there_and_back}
use Rattle.salvaging.specs.Salvage.{bad_in, width, count, no_head, kept, kept_cells, plan_cells, PlanHad, old-plan, facts, Outcome, saved, Salvaged}
use Rattle.salvaging.specs.Salvage.{head-lost, none_kept, all-had}
use Rattle.salvaging.specs.Salvage as saving
use Rattle.salvaging.proofs.Fixed.{salvaged-fixed}
use Rattle.salvaging.proofs.Unchanged.{unchanged}
use Rattle.salvaging.proofs.Original.{original}
use Rattle.dudowiej.specs.Coded.{cut, salvage_says, report_after, SalvageCoded}
use Rattle.dudowiej.proofs.Back.{salvaged-back}
use Rattle.demands.specs.Salvage.{width_on, count_on, Longest, RowsKept, table_with, PlanOut, old, new, Had}
use Rattle.demands.specs.Salvage.{SalvageTurned, no-head, no_row, table-short, plan-short, bad-short, SalvageRefused, Written, Salvages}
use Rattle.demands.specs.Salvage.{Unchanged, AsWritten, Originals}
use Rattle.demands.proofs.Cited.{clash, turned-one, answered-one, reads, tree-read}
use Rattle.demands.proofs.FileSteps.{is-card}
use Rattle.demands.proofs.Files.{room_small, held-again}
use Rattle.demands.proofs.SalvageSteps.{sound-block, is-headed, headed, sizes-of, good-some, kept-longest, longest-kept, with-kept}
use Rattle.demands.proofs.SalvageSteps.{run-table, plan-out, plan-had}
use Rattle.demands.proofs.BadSteps.{bad-blocks, bad-few, bad-one}
use Rattle.limits.specs.Limits.{most_plan_cells}

-- What crate salvaging says of a file is what 02's words say,
module _ (f : List ℕ) (h : no_head f ≡ false) (s : 1 ≤ length (kept f)) where
  kept_of : RowsKept f (kept f)
  kept_of = record { head = is-headed f h; are = kept-longest f (is-headed f h); some = s }

  had-of : (keeps : Bool) (cells : List ℕ) → PlanHad f keeps cells → Had f (kept f) (cond keeps 1 0) cells (bad_in f)
  had-of keeps cells x = record { kept = kept_of; plan = plan-out f (is-headed f h) s keeps cells x; blocks = bad-blocks f }

-- and the other way round: what is had by 02's words is what the definitions give
record Found (f : List ℕ) (rows : List (List ℕ)) (number : ℕ) (cells numbers : List ℕ) : Type 0 where
  head : no_head f ≡ false
  rows_are : rows ≡ kept f
  some : 1 ≤ length (kept f)
  keeps : Bool
  had : PlanHad f keeps cells
  told : cond keeps 1 0 ≡ number
  bad-are : numbers ≡ bad_in f

kept-one : (f : List ℕ) {rows : List (List ℕ)} → RowsKept f rows → (rows ≡ kept f) × (1 ≤ length (kept f))
kept-one f {rows} k = let e = longest-kept f k.head rows k.are in (e, rw (← e) k.some)

found : (f : List ℕ) {rows : List (List ℕ)} {number : ℕ} {cells numbers : List ℕ} → Had f rows number cells numbers
    → Found f rows number cells numbers
found f {rows} {number} {cells} {numbers} x =
    let k = kept-one f x.kept in
    let p = plan-had f x.kept.head k.1 (subst (λ (rs : List (List ℕ)). PlanOut f rs number cells) k.0 x.plan) in
    record {
      head = headed f x.kept.head;
      rows_are = k.0;
      some = k.1;
      keeps = p.keeps;
      had = p.had;
      told = p.told;
      bad-are = bad-one f numbers x.blocks;
    }

-- the width of a file whose block 0 is as it was written
written-width : (f t p : List ℕ) {n w : ℕ} {rows : List (List ℕ)} → AreWords t → AreWords p → plan_of t p ≡ read n → IsTable t w rows
    → AsWritten f (file_of t p) → no_head f ≡ false → width f ≡ w
written-width f t p v w ok i kept-so h =
    let g = file_of t p in
    let u = unchanged g (card t p) (there_and_back t p v w ok) in
    let y = is-headed f h in
    let z = is-headed g u.head in
    let same : width_on f ≡ width_on g = ap (λ (block : List ℕ). get_or block 3 0) (kept-so 0 z.block.there y.block) in
    (sizes-of f y).width_is ∙ same ∙ sym (sizes-of g z).width_is ∙ ap (λ (xs : List ℕ). get_or xs 0 0) (u.table ∙ i.cells)

-- numbers that are the same in a table's front, and in a report
front_same : {a b a' b' : ℕ} {xs : List ℕ} → a ≡ a' → b ≡ b' → a ∷ b ∷ xs ≡ a' ∷ b' ∷ xs
front_same p q = rw (p, q)

report-same : {a b c d e a' b' c' d' e' : ℕ} → a ≡ a' → b ≡ b' → c ≡ c' → d ≡ d' → e ≡ e'
    → a ∷ b ∷ 1 ∷ c ∷ d ∷ e ∷ [] ≡ a' ∷ b' ∷ 1 ∷ c' ∷ d' ∷ e' ∷ []
report-same p q r s t = rw (p, q, r, s, t)

-- the cells that are had are few
module _ {f : List ℕ} {rows : List (List ℕ)} (k : RowsKept f rows) where
  abbrev is-kept : IsTable (table_with f rows) (width_on f) rows
  is-kept = run-table f k.head rows k.are.run k.some

  table-few : length (table_with f rows) ≤ most_plan_cells
  table-few = omega (arith, tables.table-short (table_with f rows) (reads is-kept))

  plan-few : {number : ℕ} {cells : List ℕ} → PlanOut f rows number cells → length cells ≤ most_plan_cells
  plan-few (old {cells} x) = (accepted-sizes (table_with f rows) cells (tree-read is-kept x.tree x.written)).1
  plan-few (new {cells} cost none x) = (accepted-sizes (table_with f rows) cells x.checked).1

module _ {f t p b t' p' b' : List ℕ} {o : Outcome} (x : Salvaged f t p b t' p' b' o) where
  abbrev said : Answer
  said = cut (salvage_says o)

  says : {o' : Outcome} → o ≡ o' → said ≡ cut (salvage_says o')
  says e = ap (λ (u : Outcome). cut (salvage_says u)) e

  -- Refusals.
  turned-why : (g : Refused) → said ≡ turned g → SalvageTurned f t p b g
  turned-why g q = go x
    where
      why : {o' : Outcome} {h : Refused} → o ≡ o' → cut (salvage_says o') ≡ turned h → g ≡ h
      why e k = turned-one (sym q ∙ says e ∙ k)

      go : Salvaged f t p b t' p' b' o → SalvageTurned f t p b g
      go (head-lost h r s u v) = no-head (λ y. not-both h (headed f y)) (why r refl)
      go (none_kept h k r s u v) = no_row (is-headed f h) (subst (Longest f) k (kept-longest f (is-headed f h))) (why r refl)
      go (saving.table-short h k l r s u v) =
          let y = kept_of f h k in table-short (kept f) y l (why r (room_small (length (kept_cells f)) (table-few y)))
      go (saving.plan-short h k l keeps cells z m r s u v) =
          let y = had-of f h k keeps cells z in
          plan-short (kept f) _ cells y.kept y.plan l m (why r (room_small (length cells) (plan-few y.kept y.plan)))
      go (saving.bad-short h k l keeps cells z m n r s u v) =
          bad-short (kept f) _ cells (bad_in f) (had-of f h k keeps cells z) l m n (why r refl)
      go (all-had h k l keeps cells z m n r s u v) = clash (sym (says r) ∙ q)

  -- what the promise gives where it allows one outcome
  gets : {t'' p'' b'' : List ℕ} {o' : Outcome} → Salvaged f t p b t'' p'' b'' o' → said ≡ cut (salvage_says o')
  gets y = says (salvaged-fixed x y).0

  bad-gets : {rows : List (List ℕ)} {number : ℕ} {cells numbers : List ℕ} → Had f rows number cells numbers → length (table_with f rows) ≤ length t
      → length cells ≤ length p → length b < length numbers → said ≡ turned (refused reason.Room input.Lent (length numbers % 2 ^ 48))
  bad-gets {rows} {number} {cells} {numbers} y l m n =
      let w = found f y in
      let n' : length b < length (bad_in f) = rw w.bad-are at n in
      gets (saving.bad-short w.head w.some (rw w.rows_are at l) w.keeps cells w.had m n' refl refl refl refl)
      ∙ ap (λ (ns : List ℕ). turned (refused reason.Room input.Lent (length ns % 2 ^ 48))) (sym w.bad-are)

  turned-gets : (g : Refused) → SalvageTurned f t p b g → said ≡ turned g
  turned-gets g (no-head y q) = gets (head-lost (lost (bool_cases (no_head f))) refl refl refl refl) ∙ ap turned (sym q)
    where
      lost : (no_head f ≡ true) ⊎ (no_head f ≡ false) → no_head f ≡ true
      lost (inl e) = e
      lost (inr e) = absurd (y (is-headed f e))
  turned-gets g (no_row h k q) = gets (none_kept (headed f h) (sym (longest-kept f h [] k)) refl refl refl refl) ∙ ap turned (sym q)
  turned-gets g (table-short rows k l q) =
      let e = kept-one f k in
      let n : length (kept_cells f) ≡ length (table_with f rows) =
      omega (arith, ap (λ (rs : List (List ℕ)). length (flatten rs)) e.0) in
      gets (saving.table-short (headed f k.head) e.1 (omega (arith, l, n)) refl refl refl refl)
      ∙ ap (λ (j : ℕ). cut (turned (refused reason.Room input.Lent j))) n ∙ room_small (length (table_with f rows)) (table-few k) ∙ ap turned (sym q)
  turned-gets g (plan-short rows number cells k y l m q) =
      let e = kept-one f k in
      let n : length (kept_cells f) ≡ length (table_with f rows) =
      omega (arith, ap (λ (rs : List (List ℕ)). length (flatten rs)) e.0) in
      let w = plan-had f k.head e.1 (subst (λ (rs : List (List ℕ)). PlanOut f rs number cells) e.0 y) in
      gets (saving.plan-short (headed f k.head) e.1 (omega (arith, l, n)) w.keeps cells w.had m refl refl refl refl)
      ∙ room_small (length cells) (plan-few k y) ∙ ap turned (sym q)
  turned-gets g (bad-short rows number cells numbers y l m n q) = bad-gets y l m n ∙ ap turned (sym q)

  -- a file of less than 2^57 bytes has at most 2^48 blocks, of which the first is sound
  many-gets : (rows : List (List ℕ)) (number : ℕ) (cells numbers : List ℕ) → Had f rows number cells numbers → length (table_with f rows) ≤ length t
      → length cells ≤ length p → length b < length numbers → length f < 2 ^ 57 → said ≡ turned (refused reason.Room input.Lent (length numbers))
  many-gets rows number cells numbers y l m n h =
      let w = (found f y).bad-are in
      let k : length numbers % 2 ^ 48 ≡ length numbers = omega (arith, bad-few f y.kept.head.block, ap length w) in
      bad-gets y l m n ∙ ap (λ (j : ℕ). turned (refused reason.Room input.Lent j)) k

  module _ (r : List ℕ) {r' : List ℕ} (e : r' ≡ report_after o r) where
    nothing_written : (g : Refused) → said ≡ turned g → (t' ≡ t) × (p' ≡ p) × (b' ≡ b) × (r' ≡ r)
    nothing_written g q = go x
      where
        report-so : {o' : Outcome} → o ≡ o' → r' ≡ report_after o' r
        report-so k = e ∙ ap (λ (u : Outcome). report_after u r) k

        go : Salvaged f t p b t' p' b' o → (t' ≡ t) × (p' ≡ p) × (b' ≡ b) × (r' ≡ r)
        go (head-lost h k s u v) = (s, u, v, report-so k)
        go (none_kept h l k s u v) = (s, u, v, report-so k)
        go (saving.table-short h m l k s u v) = (s, u, v, report-so k)
        go (saving.plan-short h m l keeps cells z n k s u v) = (s, u, v, report-so k)
        go (saving.bad-short h m l keeps cells z n i k s u v) = (s, u, v, report-so k)
        go (all-had h m l keeps cells z n i k s u v) = clash (sym (says k) ∙ q)

    salvage-refused : SalvageRefused f t p b r t' p' b' r' said
    salvage-refused = record { refuses = λ g. (turned-why g, turned-gets g); untouched = nothing_written; many = many-gets }

    -- What is saved.
    written_of : (keeps : Bool) (cells : List ℕ) → no_head f ≡ false → o ≡ saved (facts f keeps cells)
        → t' ≡ kept_cells f ++ drop (length (kept_cells f)) t → p' ≡ cells ++ drop (length cells) p → b' ≡ bad_in f ++ drop (length (bad_in f)) b
        → Written f (kept f) (cond keeps 1 0) cells (bad_in f) t p b t' p' b' r' said
    written_of keeps cells h k s u v =
        let y = is-headed f h in
        let c : count f - length (kept f) ≡ count_on f - length (kept f) = ap (λ (n : ℕ). n - length (kept f)) (sizes-of f y).count-is in
        record {
          told = says k ∙ ap (answered (length (kept f))) c;
          table_is = s ∙ ap (λ (l : List ℕ). l ++ drop (length l) t) (sym (with-kept f y));
          plan-is = u;
          bad-is = v;
          report-is = e ∙ ap (λ (w : Outcome). report_after w r) k
              ∙ ap (λ (n : ℕ). length (kept f) ∷ n ∷ cond keeps 1 0 ∷ length (kept_cells f) ∷ length cells ∷ length (bad_in f) ∷ []) c;
        }

    saves-all : (rows : List (List ℕ)) (number : ℕ) (cells numbers : List ℕ) → Had f rows number cells numbers
        → length (table_with f rows) ≤ length t → length cells ≤ length p → length numbers ≤ length b
        → Written f rows number cells numbers t p b t' p' b' r' said
    saves-all rows number cells numbers y l m n =
        let w = found f y in
        let l' : length (kept_cells f) ≤ length t = rw w.rows_are at l in
        let n' : length (bad_in f) ≤ length b = rw w.bad-are at n in
        let z = salvaged-fixed x (all-had w.head w.some l' w.keeps cells w.had m n' refl refl refl refl) in
        rw (w.rows_are, w.bad-are, ← w.told) (written_of w.keeps cells w.head z.0 z.1 z.2 z.3)

    salvages : Salvages f t p b t' p' b' r' said
    salvages = record { saves = saves-all; only = λ m n q. had-so m n q x }
      where
        had-so : (m n : ℕ) → said ≡ answered m n → Salvaged f t p b t' p' b' o
            → (rows : List (List ℕ)) × (number : ℕ) × (cells : List ℕ) × (numbers : List ℕ) × Had f rows number cells numbers
            × Written f rows number cells numbers t p b t' p' b' r' said
        had-so m n q (head-lost h k s u v) = clash (sym q ∙ says k)
        had-so m n q (none_kept h l k s u v) = clash (sym q ∙ says k)
        had-so m n q (saving.table-short h l i k s u v) = clash (sym q ∙ says k)
        had-so m n q (saving.plan-short h l i keeps cells z j k s u v) = clash (sym q ∙ says k)
        had-so m n q (saving.bad-short h l i keeps cells z j d k s u v) = clash (sym q ∙ says k)
        had-so m n q (all-had h l i keeps cells z j d k s u v) =
            (kept f, cond keeps 1 0, cells, bad_in f, had-of f h l keeps cells z, written_of keeps cells h k s u v)

    -- A file that W-211 accepts.
    same-file : Bytes f → Unchanged f t p b t' p' b' r' said
    same-file by t₁ p₁ y l m =
        let w = unchanged f (card t₁ p₁) (is-card f y) in
        let n : length (kept f) ≡ length y.rows = ap (λ (xs : List ℕ). get_or xs 1 0) (w.table ∙ y.accepted.cells) in
        let some : 1 ≤ length (kept f) = omega (arith, n, y.accepted.count.0) in
        let d : count f - length (kept f) ≡ 0 = omega (arith, w.every) in
        let z = salvaged-fixed x (all-had w.head some (rw (← w.table) at l) true (plan_cells f) (old-plan w.keeps) (rw (← w.plan) at m)
        (rw w.none (omega arith)) refl refl refl refl) in
        let front : t' ≡ t₁ ++ drop (length t₁) t = z.1 ∙ ap (λ (xs : List ℕ). xs ++ drop (length xs) t) w.table in
        let back : p' ≡ p₁ ++ drop (length p₁) p = z.2 ∙ ap (λ (xs : List ℕ). xs ++ drop (length xs) p) w.plan in
        let f1 : take (length t₁) t' ≡ t₁ = ap (take (length t₁)) front ∙ take_at t₁ _ (length t₁) refl in
        let f2 : take (length p₁) p' ≡ p₁ = ap (take (length p₁)) back ∙ take_at p₁ _ (length p₁) refl in
        record {
          told = says z.0 ∙ ap (λ (j : ℕ). answered (length (kept f)) j) d ∙ ap (λ (j : ℕ). answered j 0) n;
          table_is = front;
          plan-is = back;
          bad-is = z.3 ∙ ap (λ (xs : List ℕ). xs ++ drop (length xs) b) w.none;
          report-is = e ∙ ap (λ (u : Outcome). report_after u r) z.0
              ∙ report-same n d (ap length w.table) (ap length w.plan) (ap length w.none);
          again = λ room after a v q. held-again f by y room after a (rw (f1, f2) at v) q;
        }

    -- A file that was written for a table and a plan.
    originals : Originals f t' said
    originals t₁ p₁ wd rows tree v w i h aw m n q = go x
      where
        go : Salvaged f t p b t' p' b' o → (m ≤ length rows) × (take (2 + length (flatten (take m rows))) t' ≡ wd ∷ m ∷ flatten (take m rows))
        go (head-lost g k s u z) = clash (sym q ∙ says k)
        go (none_kept g l k s u z) = clash (sym q ∙ says k)
        go (saving.table-short g l j k s u z) = clash (sym q ∙ says k)
        go (saving.plan-short g l j keeps cells y c k s u z) = clash (sym q ∙ says k)
        go (saving.bad-short g l j keeps cells y c d k s u z) = clash (sym q ∙ says k)
        go (all-had g l j keeps cells y c d k s u z) =
            let a = (answered-one (sym (says k) ∙ q)).0 in
            let ok = tree-read i tree h in
            let st = original t₁ p₁ (table wd rows) v w ok (reads i) f (λ b l s. aw b l (sound-block f b s)) (good-some f (is-headed f g).block) in
            let fr : take m rows ≡ kept f = ap (take m) (sym st.both) ∙ take_at (kept f) st.more m a in
            let wf : width f ≡ wd = written-width f t₁ p₁ v w ok i aw g in
            let tk : take (length (kept_cells f)) t' ≡ kept_cells f =
            ap (take (length (kept_cells f))) s ∙ take_at (kept_cells f) _ (length (kept_cells f)) refl in
            let two : 2 + length (flatten (kept f)) ≡ length (kept_cells f) = omega arith in (
              omega (arith, a, ap length st.both, length-append (kept f) st.more),
              rw fr (ap (λ (j : ℕ). take j t') two ∙ tk ∙ front_same wf a),
            )

module _ {f t p b r t' p' b' r' : List ℕ} {n : ℕ} (x : SalvageCoded f t p b r t' p' b' r' n) where
  pub request-212-refuses : SalvageRefused f t p b r t' p' b' r' (decoded n)
  request-212-refuses = subst (SalvageRefused f t p b r t' p' b' r') (sym (salvaged-back x)) (salvage-refused x.had r x.reports)

  pub request-212-saves : Salvages f t p b t' p' b' r' (decoded n)
  request-212-saves = subst (Salvages f t p b t' p' b' r') (sym (salvaged-back x)) (salvages x.had r x.reports)

  pub request-212-unchanged : Bytes f → Unchanged f t p b t' p' b' r' (decoded n)
  request-212-unchanged by = subst (Unchanged f t p b t' p' b' r') (sym (salvaged-back x)) (same-file x.had r x.reports by)

  pub request-212-original : Originals f t' (decoded n)
  request-212-original = subst (Originals f t') (sym (salvaged-back x)) (originals x.had r x.reports)
