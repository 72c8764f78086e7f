-- The clauses of a plan can be printed and read back, where the table's names are listed: each head is terms of good cells, numbered by first
-- appearance. So the text that is handed back reads as the program.
use Prim.Native.Nat.{ℕ, zero, suc, ◌+◌, ◌-◌, ◌^◌, ◌≤◌, ◌<◌}
use mathlib.Core.Path.{◌≡◌, refl, sym, ◌∙◌, ap, subst}
use mathlib.Core.Logic.{◌≢◌, ◌⊎◌, inl, inr, ⊎_elim}
use mathlib.Core.Bool.{Bool, true, false, cond, ◌&&◌, true≢false}
use mathlib.Core.List.Memᴰ
use mathlib.Core.List.{List, [], ◌∷◌, ◌++◌, Memᴰ}
use native.Mathlib.Omega.{arith}
use lib.Dec.{eqb}
use lib.ListN.{length}
use borrow.Author.Tests.{eqb-false, ne_eqb}
use Rattle.cell.specs.Cell as cell
use Rattle.cell.specs.Cell.{Cell, is_var}
use Rattle.term.specs.Terms.{Terms, none, root, close, front, back}
use Rattle.term.proofs.Tests.{bool_cases}
use Rattle.term.proofs.TermsLaws.{zero-nil, front-back, terms-long}
use Rattle.term.proofs.Step.{Terms-fresh}
use Rattle.table.specs.All.{All}
use Rattle.table.proofs.AllLaws.{all-each, all_both, all-++}
use Rattle.table.specs.Table.{count, appear, up_from}
use Rattle.table.proofs.SoundLaws.{Sound, sound-cells, down}
use Rattle.table.proofs.HeadLaws.{up-length}
use Rattle.plan.specs.Runs.{Run, runs}
use Rattle.plan.specs.Plans.{Plan, leaf, node, Branches, end, next, OneRow, OneRows}
use Rattle.plan.specs.code.Rows.{row_count}
use Rattle.plan.proofs.RunsLaws.{Each, Sized, group-all, group-sizes, group-rows}
use Rattle.answer.specs.Skeleton.{hole, fill, decide}
use Rattle.answer.proofs.CountLaws.{up-distinct, count_same}
use Rattle.answer.proofs.SkeletonLaws.{fill-hole, fill-cell, fill-all, count-all, first-hole}
use Rattle.instance.specs.Reply.{Numbered}
use Rattle.grammar.specs.Numbering.{Words}
use Rattle.termtext.proofs.SayLaws.{Good, good-variable, good-name, good-number, Goods}
use Rattle.clauses.specs.Clauses.{handed}
use Rattle.clauses.specs.Translate.{Predicate, done, fact, rule, head_of, single, each, clause, clause_in, predicate}
use Rattle.clauses.specs.Program.{callees, own, below, numbered}
use Rattle.clauses.proofs.SolidLaws.{Solid, Frame, Hole?, a-hole, a-cell, hole?, no-hole, blank-solid, fill_none, fill-mem}
use Rattle.clauses.proofs.SolidLaws.{handed-is, head-is, numbered-solid, fill-long}
use Rattle.clauses.proofs.SeatLaws.{Seat, SeatAt, seat-close, few-places, one-solid, seats, Fixed, runs-fixed, refill, blank, below-count}
use Rattle.clauses.proofs.SeatLaws.{frame-blank, frame_below}
use Rattle.clauses.proofs.MeansLaws.{solid-below}
use Rattle.clauses.proofs.ReadLaws.{Plain, Counted, Printed, fact-printed, rule-printed}

-- variables that have come do not come again
appear-none : (ys met : List ℕ) → ((c : ℕ) → Memᴰ c ys → is_var c ≡ true → 1 ≤ count c met) → appear met ys ≡ []
unfolding appear
appear-none [] met h = refl
appear-none (y ∷ ys) met h = go (bool_cases (is_var y)) (appear-none ys met (λ c m. h c (Memᴰ.tail m)))
  where
    go : (is_var y ≡ true) ⊎ (is_var y ≡ false) → appear met ys ≡ [] → appear met (y ∷ ys) ≡ []
    go (inl v) ih =
        let l = h y (Memᴰ.head refl) v in
        let e : eqb (count y met) 0 ≡ false = ne_eqb (count y met) 0 (λ q. (let z : ⊥ = omega arith in z)) in
        rw (v, e) ih
    go (inr v) ih = rw v ih

more-count : (c d : ℕ) (met : List ℕ) → 1 ≤ count c met → 1 ≤ count c (d ∷ met)
unfolding count
more-count c d met h = omega arith

appear-again : (xs ys met : List ℕ) → ((c : ℕ) → Memᴰ c ys → is_var c ≡ true → (1 ≤ count c met) ⊎ Memᴰ c xs)
    → appear met (xs ++ ys) ≡ appear met xs
unfolding appear
appear-again [] ys met h = appear-none ys met (λ c m v. ⊎_elim (λ l. l) (λ q. absurd (Memᴰ.not-nil q)) (h c m v))
appear-again (x ∷ xs) ys met h =
    go (is_var x && eqb (count x met) 0) refl (appear-again xs ys (x ∷ met)
    (λ c m v. ⊎_elim (λ l. inl (more-count c x met l)) (λ q. fresh c v (Memᴰ.cases_cons q)) (h c m v)))
    (λ old. appear-again xs ys met (λ c m v. ⊎_elim inl (λ q. ⊎_elim (λ e. inl (old c e v)) inr (Memᴰ.cases_cons q)) (h c m v)))
  where
    fresh : (c : ℕ) → is_var c ≡ true → (c ≡ x) ⊎ Memᴰ c xs → (1 ≤ count c (x ∷ met)) ⊎ Memᴰ c xs
    fresh c v (inl e) = inl (rw e (let z = count_same x met in omega arith))
    fresh c v (inr q) = inr q

    known : (b : Bool) → is_var x && eqb (count x met) 0 ≡ b → b ≡ false → (c : ℕ) → c ≡ x → is_var c ≡ true → 1 ≤ count c met
    known b e f c q v = rw q (by (eqb (count x met) 0) refl)
      where
        nonzero : (n : ℕ) → n ≢ 0 → 1 ≤ n
        nonzero zero n = absurd (n refl)
        nonzero (suc m) n = omega arith

        by : (d : Bool) → eqb (count x met) 0 ≡ d → 1 ≤ count x met
        by true z = absurd (true≢false (sym (let w : is_var x ≡ true = rw q at v in rw (w, z)) ∙ e ∙ f))
        by false z = let w = eqb-false (count x met) 0 z in nonzero (count x met) w

    go : (b : Bool) → is_var x && eqb (count x met) 0 ≡ b → appear (x ∷ met) (xs ++ ys) ≡ appear (x ∷ met) xs
        → (((c : ℕ) → c ≡ x → is_var c ≡ true → 1 ≤ count c met) → appear met (xs ++ ys) ≡ appear met xs)
        → cond b (x ∷ appear (x ∷ met) (xs ++ ys)) (appear met (xs ++ ys)) ≡ cond b (x ∷ appear (x ∷ met) xs) (appear met xs)
    go true e p q = ap (λ (l : List ℕ). x ∷ l) p
    go false e p q = q (known false e refl)

-- GOOD CELLS
module _ (words : Words) where
  goods-left : (xs ys : List ℕ) → Goods words (xs ++ ys) → Goods words xs
  goods-left [] ys g = tt
  goods-left (x ∷ xs) ys g = (g.0, goods-left xs ys g.1)

  goods-right : (xs ys : List ℕ) → Goods words (xs ++ ys) → Goods words ys
  goods-right [] ys g = g
  goods-right (x ∷ xs) ys g = goods-right xs ys g.1

  goods-both : (xs ys : List ℕ) → Goods words xs → Goods words ys → Goods words (xs ++ ys)
  goods-both [] ys g h = h
  goods-both (x ∷ xs) ys g h = (g.0, goods-both xs ys g.1 h)

  goods-front : (Y : List ℕ) → Goods words Y → Goods words (front 1 Y) × Goods words (back 1 Y)
  goods-front Y g =
      let h : Goods words (front 1 Y ++ back 1 Y) = rw (front-back 1 Y) g in
      (goods-left (front 1 Y) (back 1 Y) h, goods-right (front 1 Y) (back 1 Y) h)

  -- what is decided is good wherever it is filled
  goods-fill : (K X Y : List ℕ) → Goods words (fill K X) → Goods words Y → Goods words (fill K Y)
  unfolding fill
  goods-fill [] X Y g h = tt
  goods-fill (c ∷ K) X Y g h = go (hole? c) g (goods-fill K X Y) (goods-fill K (back 1 X) (back 1 Y))
    where
      go : {c : ℕ} → Hole? c → Goods words (fill (c ∷ K) X) → (Goods words (fill K X) → Goods words Y → Goods words (fill K Y))
          → (Goods words (fill K (back 1 X)) → Goods words (back 1 Y) → Goods words (fill K (back 1 Y))) → Goods words (fill (c ∷ K) Y)
      go a-hole g ih jh =
          let x : Goods words (front 1 X ++ fill K (back 1 X)) = rw (fill-hole K X) at g in
          let y = goods-front Y h in
          rw (fill-hole K Y) (goods-both (front 1 Y) (fill K (back 1 Y)) y.0 (jh (goods-right (front 1 X) (fill K (back 1 X)) x) y.1))
      go (a-cell {c} n) g ih jh =
          let x : Goods words (c ∷ fill K X) = rw (fill-cell c K X n) at g in
          rw (fill-cell c K Y n) (x.0, ih x.1 h)

  -- and so is what it is filled with
  goods-part : (K X : List ℕ) → Terms (count hole K) X → Goods words (fill K X) → Goods words X
  unfolding fill count
  goods-part [] X t g = rw (zero-nil t) tt
  goods-part (c ∷ K) X t g = go (hole? c) t g (goods-part K X) (goods-part K (back 1 X))
    where
      go : {c : ℕ} → Hole? c → Terms (count hole (c ∷ K)) X → Goods words (fill (c ∷ K) X)
          → (Terms (count hole K) X → Goods words (fill K X) → Goods words X)
          → (Terms (count hole K) (back 1 X) → Goods words (fill K (back 1 X)) → Goods words (back 1 X)) → Goods words X
      go a-hole t g ih jh =
          let x : Goods words (front 1 X ++ fill K (back 1 X)) = rw (fill-hole K X) at g in
          let z = goods-both (front 1 X) (back 1 X) (goods-left (front 1 X) (fill K (back 1 X)) x)
          (jh (first-hole K X t).1 (goods-right (front 1 X) (fill K (back 1 X)) x)) in
          rw (front-back 1 X) at z
      go (a-cell {c} n) t g ih jh = let x : Goods words (c ∷ fill K X) = rw (fill-cell c K X n) at g in ih (no-hole K X n t) x.1

  goods-up : (n a : ℕ) → n + a ≤ 2 ^ 16 → Goods words (up_from n a)
  unfolding up_from
  goods-up n zero h = tt
  goods-up n (suc a) h = (good-variable {n = n} (omega arith), goods-up (suc n) a (omega arith))

  good-cell : {c : ℕ} → Good words c → Cell c
  good-cell (good-variable h) = cell.variable h
  good-cell (good-name h l n w) = cell.name h l
  good-cell (good-number h) = cell.number h

  goods-cells : (xs : List ℕ) → Goods words xs → (c : ℕ) → Memᴰ c xs → Cell c
  goods-cells [] g c m = absurd (Memᴰ.not-nil m)
  goods-cells (x ∷ xs) g c m = ⊎_elim (λ e. subst Cell (sym e) (good-cell g.0)) (λ q. goods-cells xs g.1 c q) (Memᴰ.cases_cons m)

  counted : (xs : List ℕ) → Goods words xs → Numbered xs → Counted xs
  unfolding down
  counted xs g o =
      let s : Sound xs 0 (0 + length (appear [] xs)) = record {
        cells = goods-cells xs g;
        more = length (appear [] xs);
        total = refl;
        order = o;
      } in
      (0 + length (appear [] xs), sound-cells false xs 0 0 s)

  -- A PREDICATE THAT CAN BE PRINTED, with w + 1 arguments
  pub data Fine : ℕ → Predicate → Type 0 where
    fine-done : {w : ℕ} → Fine w done
    fine-fact : {w : ℕ} {h : List ℕ} {P : Predicate} → Plain words w h → Counted h → Fine w P → Fine w (fact h P)
    fine-rule : {w n : ℕ} {h : List ℕ} {Q P : Predicate} → Plain words w h → length (handed h) ≡ suc n → Plain words n (handed h)
        → Counted (h ++ handed h)
        → Fine n Q → Fine w P → Fine w (rule h Q P)

  own-printed : {w : ℕ} {P : Predicate} (k v : ℕ) → Fine w P → All (Printed words) (own k (suc w) v P)
  unfolding own
  own-printed k v fine-done = tt
  own-printed k v (fine-fact h c f) = (fact-printed h c, own-printed k v f)
  own-printed k v (fine-rule {Q = Q} h e g c q f) = (rule-printed h e g c, own-printed k (v + suc (callees Q)) f)

  below-printed : {w : ℕ} {P : Predicate} (v : ℕ) → Fine w P → All (Printed words) (below v P)
  unfolding below
  below-printed v fine-done = tt
  below-printed v (fine-fact h c f) = below-printed v f
  below-printed v (fine-rule {n = n} {h = head} {Q = Q} {P = P} h e g c q f) =
      let o : All (Printed words) (own v (length (handed head)) (suc v) Q) = rw e (own-printed v (suc v) q) in
      all-++ (Printed words) (own v (length (handed head)) (suc v) Q) (below (suc v) Q ++ below (v + suc (callees Q)) P) o
      (all-++ (Printed words) (below (suc v) Q) (below (v + suc (callees Q)) P) (below-printed (suc v) q) (below-printed (v + suc (callees Q)) f))

  pub numbered-printed : {w : ℕ} {P : Predicate} → Fine w P → All (Printed words) (numbered (suc w) P)
  unfolding numbered
  numbered-printed {w} {P} f = all-++ (Printed words) (own 0 (suc w) 1 P) (below 1 P) (own-printed 0 1 f) (below-printed 1 f)

  -- a row of a state, with what is decided above it in its predicate
  abbrev Full : (K r : List ℕ) → Type 0
  Full K r = Goods words (fill K r) × Numbered (fill K r) × (length (fill K r) ≤ 32)

  full_runs : (i k : ℕ) (K : List ℕ) → i ≤ k → (rows : List (List ℕ)) → All (Seat (suc k)) rows → All (Full K) rows
      → Each (λ (c : ℕ). Full (decide i c K)) (runs i rows)
  full_runs i k K h rows a f =
      let q : suc k ≡ i + suc (k - i) = omega arith in
      group-all (root i) (close i) (λ (r : List ℕ). Seat (suc k) r × Full K r) (λ (c : ℕ). Full (decide i c K))
      (λ r x. (let e = refill i (k - i) K r (rw q at x.0) in (rw e x.1.0, rw e x.1.1, rw e x.1.2))) rows
      (all_both (Seat (suc k)) (Full K) rows a f)

  -- of a state with no variable decided above it, the rows themselves
  full-blank : (k : ℕ) (K : List ℕ) → Solid K → count hole K ≡ suc k → (rows : List (List ℕ)) → All (Seat (suc k)) rows
      → All (Full K) rows → All (Full (blank k)) rows
  full-blank k K s e rows a f =
      all-each (λ (r : List ℕ). Seat (suc k) r × Full K r) (Full (blank k))
      (λ r x. (let t : Terms (count hole K) r = rw e x.0.terms in
      let z = fill-all (suc k) x.0.terms in
      (rw z (goods-part K r t x.1.0), rw z (numbered-solid K r s t x.1.1), rw z x.0.short))) rows (all_both (Seat (suc k)) (Full K) rows a f)

  -- a row of a state with some
  abbrev Sample : (K r : List ℕ) → Type 0
  Sample K r = Terms (count hole K) r × Goods words (fill K r) × (length (fill K r) ≤ 32)

  -- THE RULE
  rule-fine : {w k : ℕ} (K r : List ℕ) {Q P : Predicate} → Frame (suc w) K → Solid K → count hole K ≡ suc k → suc k ≤ 32 → Sample K r
      → Fine k Q → Fine w P
      → Fine w (rule (head_of K) Q P)
  unfolding count
  rule-fine {w} {k} K r f s e l g q p =
      let hd = head_of K in
      let vs = up_from 0 (suc k) in
      let h : handed hd ≡ vs = handed-is K (suc k) s e (omega arith) in
      let u = goods-up 0 (suc k) (omega arith) in
      let tv : Terms (suc k) vs = Terms-fresh (up-distinct 0 (suc k) (omega arith)) in
      let tk : Terms (count hole K) vs = rw e tv in
      let is = head-is K (suc k) e in
      let gh : Goods words hd = rw is (goods-fill K r vs g.1 u) in
      let mem : (c : ℕ) → Memᴰ c vs → Memᴰ c hd = λ c m. rw is (fill-mem K vs c tk m) in
      let ap₁ : appear [] (hd ++ vs) ≡ vs = appear-again hd vs [] (λ c m v. inr (mem c m)) ∙ h in
      let num : Numbered (hd ++ vs) = rw ap₁ (ap (up_from 0) (sym (up-length 0 (suc k)))) in
      let th : Terms (suc w) hd = rw is (f vs tk) in
      let sh : length hd ≤ 32 = rw is (omega (arith, fill-long K vs tk, fill-long K r g.0, g.2, up-length 0 (suc k), terms-long g.0)) in
      let sv : length vs ≤ 32 = omega (arith, up-length 0 (suc k)) in
      fine-rule {n = k} (record { terms = th; goods = gh; short = sh }) (rw h (up-length 0 (suc k)))
      (rw h (record { terms = tv; goods = u; short = sv })) (rw h (counted (hd ++ vs) (goods-both hd vs gh u) num)) q p

  one-or-more : (w i k : ℕ) (K r : List ℕ) (g : Run) (gs : List Run) {z : ℕ} {P P₁ Q : Predicate} → Frame (suc w) K → count hole K ≡ suc k
      → suc k ≤ 32
      → Sized z (g ∷ gs) → (2 ≤ row_count (g ∷ gs) → Solid K) → Sample K r → Fine w P₁ → (2 ≤ row_count (g ∷ gs) → Fine k Q) → Fine w P
      → Fine w (single gs P₁ (rule (head_of K) Q P))
  one-or-more w i k K r g [] f e l s d x p₁ q p = p₁
  one-or-more w i k K r g (g' ∷ gs) f e l s d x p₁ q p =
      let two : 2 ≤ row_count (g ∷ (g' ∷ gs)) = omega (arith, s.0.0, s.1.0.0) in
      rule-fine K r f (d two) e l x (q two) p

  leaf-fine : (w : ℕ) (K : List ℕ) {P : Predicate} (rows : List (List ℕ)) → count hole K ≡ 0 → All (Seat 0) rows → length rows ≡ 1
      → Frame (suc w) K → All (Full K) rows → Fine w P
      → Fine w (fact K P)
  leaf-fine w K [] e a o f x p = absurd (let z : ⊥ = omega arith in z)
  leaf-fine w K (r ∷ rs) e a o f x p =
      let z : r ≡ [] = zero-nil a.0.terms in
      let k : fill K r ≡ K = ap (fill K) z ∙ fill_none K e in
      let g : Goods words K = rw k at x.0.0 in
      let n : Numbered K = rw k at x.0.1 in
      let b : length K ≤ 32 = rw k at x.0.2 in
      let t0 : Terms (count hole K) [] = rw e none in
      let t : Terms (suc w) K = rw (fill_none K e) at (f [] t0) in
      fine-fact (record { terms = t; goods = g; short = b }) (counted K g n) p

  mutual
    unfolding each OneRow

    clause-fine : {k : ℕ} {rows : List (List ℕ)} (p : Plan k rows) (w : ℕ) (K : List ℕ) {P : Predicate} → OneRow p → Frame (suc w) K
        → count hole K ≡ k → All (Seat k) rows
        → 0 < length rows → (2 ≤ length rows → Solid K) → All (Full K) rows → Fine w P → Fine w (clause p K P)
    clause-fine (leaf {rows}) w K o f e a s d x P = leaf-fine w K rows e a o f x P
    clause-fine (node {k} {rows} i h bs) w K o f e a s d x P =
        let n = group-rows (root i) (close i) rows in
        clause_in-fine bs w i K (head-row rows) o f e h (few-places (suc k) rows a s)
        (group-all (root i) (close i) (Seat (suc k)) (SeatAt k) (seat-close k i h) rows a) (runs-fixed i rows) (length rows)
        (group-sizes (root i) (close i) rows)
        (λ l. d (omega (arith, n))) (head-full rows s a x) (full_runs i k K h rows a x)
        (λ l. full_runs i k (blank k) h rows a (full-blank k K (d (omega (arith, n))) e rows a x)) P
      where
        head-row : List (List ℕ) → List ℕ
        head-row [] = []
        head-row (r ∷ rs) = r

        head-full : (rs : List (List ℕ)) → 0 < length rs → All (Seat (suc k)) rs → All (Full K) rs → Sample K (head-row rs)
        head-full [] s a x = absurd (let z : ⊥ = omega arith in z)
        head-full (r ∷ rs) s a x = (rw e a.0.terms, x.0.0, x.0.2)

    clause_in-fine : {k : ℕ} {gs : List Run} (bs : Branches k gs) (w i : ℕ) (K r : List ℕ) {P : Predicate} → OneRows bs → Frame (suc w) K
        → count hole K ≡ suc k → i ≤ k → suc k ≤ 32
        → Each (SeatAt k) gs → Fixed gs → (z : ℕ) → Sized z gs → (2 ≤ row_count gs → Solid K) → Sample K r
        → Each (λ (c : ℕ). Full (decide i c K)) gs
        → (2 ≤ row_count gs → Each (λ (c : ℕ). Full (decide i c (blank k))) gs) → Fine w P → Fine w (clause_in bs i K P)
    clause_in-fine end w i K r o f e h m a x z s d g y b P = P
    clause_in-fine (next {k} {g} {gs} p bs) w i K r o f e h m a x z s d v y b P =
        let n = one-solid k g.cell g.rows a.0 s.0.0 in
        let B = blank k in
        let c = count-all (suc k) in
        let P₁ = clause-fine p w (decide i g.cell K) o.0 (frame_below (suc w) i g.cell k K e h n f) (below-count i g.cell k K e h n)
        (seats k g.cell g.rows a.0) s.0.0 (solid-below i K g (λ l. d (omega arith)) x.0) y.0 P in
        one-or-more w i k K r g gs f e m s d v P₁
        (λ two. clause-fine p k (decide i g.cell B) o.0 (frame_below (suc k) i g.cell k B c h n (frame-blank (suc k)))
        (below-count i g.cell k B c h n)
        (seats k g.cell g.rows a.0) s.0.0 (solid-below i B g (λ l. blank-solid (suc k)) x.0) (b two).0
        (each-fine bs i o.1 h m a.1 x.1 z s.1 (b two).1)) P

    each-fine : {k : ℕ} {gs : List Run} (bs : Branches k gs) (i : ℕ) → OneRows bs → i ≤ k → suc k ≤ 32 → Each (SeatAt k) gs → Fixed gs
        → (z : ℕ) → Sized z gs
        → Each (λ (c : ℕ). Full (decide i c (blank k))) gs → Fine k (each bs i)
    each-fine end i o h m a x z s b = fine-done
    each-fine (next {k} {g} p bs) i o h m a x z s b =
        let n = one-solid k g.cell g.rows a.0 s.0.0 in
        let B = blank k in
        let c = count-all (suc k) in
        clause-fine p k (decide i g.cell B) o.0 (frame_below (suc k) i g.cell k B c h n (frame-blank (suc k))) (below-count i g.cell k B c h n)
        (seats k g.cell g.rows a.0) s.0.0 (solid-below i B g (λ l. blank-solid (suc k)) x.0) b.0
        (each-fine bs i o.1 h m a.1 x.1 z s.1 b.1)

  pub predicate-fine : {k : ℕ} {rows : List (List ℕ)} (p : Plan (suc k) rows) → OneRow p → All (Seat (suc k)) rows → 0 < length rows
      → All (λ (r : List ℕ). Goods words r × Numbered r) rows → Fine k (predicate p)
  unfolding predicate OneRow
  predicate-fine {rows = rows} (node {k} i h bs) o a s x =
      let f : All (Full (blank k)) rows
      = all-each (λ (r : List ℕ). Seat (suc k) r × (Goods words r × Numbered r)) (Full (blank k))
      (λ r y. (let z = fill-all (suc k) y.0.terms in (rw z y.1.0, rw z y.1.1, rw z y.0.short))) rows
      (all_both (Seat (suc k)) (λ (r : List ℕ). Goods words r × Numbered r) rows a x) in
      each-fine bs i o h (few-places (suc k) rows a s)
      (group-all (root i) (close i) (Seat (suc k)) (SeatAt k) (seat-close k i h) rows a) (runs-fixed i rows) (length rows) (group-sizes (root i) (close i) rows)
      (full_runs i k (blank k) h rows a f)
