-- The steps as the code makes them in its lists: what is left stays what it was.
use Prim.Native.Nat.{ℕ, suc, ◌+◌, ◌-◌, ◌^◌, ◌≤◌, ◌<◌}
use mathlib.Core.Path.{◌≡◌, refl, sym, ◌∙◌, ap, subst}
use mathlib.Core.Logic.{◌≢◌, ⊎_elim}
use mathlib.Core.Bool.{true, false, cond}
use mathlib.Core.List.Memᴰ
use mathlib.Core.List.{List, [], ◌∷◌, ◌++◌}
use native.Mathlib.Numerals.{add-one, one-add}
use native.Mathlib.Omega.{arith}
use lib.ListN.{length, get_or, take, drop, length-append, length-drop, length-map, take-append-drop, drop_of_length-le}
use lib.Seq.{slice, take-take, take_at, drop_at, drop-cons, take-suc, take-add, get_or-take, length-take-le}
use Rattle.cell.specs.Cell.{is_var}
use Rattle.std.specs.Prelude.{Option, None}
use Rattle.term.specs.Terms.{Terms, front, back}
use Rattle.term.specs.Ends.{Ends, at, short}
use Rattle.term.specs.Unify.{renamed}
use Rattle.term.proofs.Tests.{bool_cases}
use Rattle.table.specs.Table.{Head}
use Rattle.table.proofs.Accepted.{few-variables}
use Rattle.term.proofs.TermsLaws.{front-back, front-terms, one_cell, terms-long}
use Rattle.term.specs.Bind.{Within}
use Rattle.instance.specs.Instance.{Common, MostGeneral}
use Rattle.instance.specs.code.Meet.{TermsAt, TermAt, Meeting, After, InstanceMet, Over}
use Rattle.instance.specs.Rewrite.{put}
use Rattle.instance.specs.code.Left.{Left}
use Rattle.instance.proofs.Apart.{after-cell, Below}
use Rattle.instance.proofs.General.{solves-common}
use Rattle.instance.proofs.MeetLaws.{left-long, left-cell, left-first, left-second, left-symbols, left-done}
use Rattle.limits.specs.Limits.{most_reply_cells}

-- A variable replaced everywhere: in the goal so far, then in what is left of the row.
module _ {row goal cells : List ℕ} {v : ℕ} {t : List ℕ} {i n at' len turns : ℕ} (w : After row goal cells v t i n at' len turns) (inside : at' ≤ len) where
  abbrev first : List ℕ
  first = put v t (slice 0 at' cells)

  abbrev second : List ℕ
  second = put v t (slice at' len cells)

  abbrev third : List ℕ
  third = put v t (slice i n cells)

  there : Left row goal third first second turns
  there = subst (λ (P : List ℕ). Left row goal third P second turns) (ap (put v t) (take-take at' len cells inside)) w.left

  -- what is too long already
  pub goal-over : most_reply_cells < length first + length second → Over row goal
  goal-over l = record { over = λ Y q. omega (arith, l, (left-long there Y q).0) }

  pub row-over : most_reply_cells < length third → Over row goal
  row-over l = record { over = λ Y q. omega (arith, l, (left-long there Y q).1) }

  -- all three stand at the front of a list
  pub bind-there : (cells' : List ℕ) (q l m : ℕ) → m ≤ length cells' → q ≡ length first → l ≡ length first + length second
      → m ≡ l + length third → l ≤ most_reply_cells → m ≤ l + most_reply_cells → take m cells' ≡ (first ++ second) ++ third
      → Meeting row goal cells' l m q l turns
  bind-there cells' q l m lc eq el em sl sm x =
      let b : length (first ++ second) ≡ l = length-append first second ∙ sym el in
      let y : drop l (take m cells') ≡ third = ap (drop l) x ∙ drop_at (first ++ second) third l b in
      let z : take l cells' ≡ first ++ second = sym (take-take l m cells' (omega (arith, em))) ∙ ap (take l) x ∙ take_at (first ++ second) third l b in
      record {
        inside = omega (arith, eq, el);
        apart = omega arith;
        started = omega (arith, em);
        goal-short = sl;
        row-short = sm;
        held = lc;
        left = rw (y, z, take_at first second q (sym eq), drop_at first second q (sym eq)) there;
      }

-- The term that stands at a place.
module _ {C : List ℕ} {at' : ℕ} where
  -- where at least one term is, the cells do not run out
  pub term-there : {r : Option ℕ} → TermsAt C at' → Ends C at' r → r ≢ None
  term-there w (at {t} rest v q) p = let z : ◌≡◌ {A = ℕ} 0 1 = cc in omega arith
  term-there w (short n) p =
      let v : Terms (1 + w.after) (drop at' C) = rw one-add w.terms in
      n (front 1 (drop at' C)) (back 1 (drop at' C)) (front-terms 1 w.after (drop at' C) v) (sym (front-back 1 (drop at' C)))

module _ {C t : List ℕ} {at' e : ℕ} (x : TermAt C t at' e) where
  pub end-in : at' ≤ length C → e ≤ length C
  end-in i = omega (arith, x.end, ap length x.split, length-append t (drop e C), length-drop at' C, length-drop e C, i)

  front-is : take e C ≡ take at' C ++ t
  front-is =
      ap (λ (n : ℕ). take n C) (sym x.end) ∙ take-add at' (length t) C ∙ ap (λ (l : List ℕ). take at' C ++ take (length t) l) x.split
      ∙ ap (λ (l : List ℕ). take at' C ++ l) (take_at t (drop e C) (length t) refl)

-- the first cell of a term
head-of : {c : ℕ} {t xs : List ℕ} (rest : List ℕ) → Terms 1 t → c ∷ xs ≡ t ++ rest → (ys : List ℕ) × (t ≡ c ∷ ys)
head-of {c} {t} {xs} rest u e =
    let h = one_cell u in
    let z : c ∷ xs ≡ (h.0 ∷ h.1) ++ rest = e ∙ ap (λ (l : List ℕ). l ++ rest) h.2 in
    let y : c ≡ h.0 = cc in
    (h.1, h.2 ∙ ap (λ (n : ℕ). n ∷ h.1) (sym y))

-- One cell of each, or one variable.
module _ {row goal cells : List ℕ} {i n at' len turns : ℕ} (w : Meeting row goal cells i n at' len turns) (more_left : i < n) where
  abbrev L : List ℕ
  L = take n cells

  abbrev C : List ℕ
  C = take len cells

  abbrev c : ℕ
  c = get_or L i 0

  abbrev d : ℕ
  d = get_or C at' 0

  pub L-long : length L ≡ n
  L-long = length-take-le n cells w.held

  pub C-long : length C ≡ len
  C-long = length-take-le len cells (omega (arith, w.apart, w.started, w.held))

  L-split : drop i L ≡ c ∷ drop (suc i) L
  L-split = drop-cons L i 0 (omega (arith, more_left, L-long))

  j : ℕ
  j = (after-cell (subst (Terms w.left.owed) L-split w.left.row-terms)).0

  owed-is : w.left.owed ≡ suc j
  unfolding j
  owed-is = (after-cell (subst (Terms w.left.owed) L-split w.left.row-terms)).1

  goal-owed : Terms (suc j) (drop at' C)
  goal-owed = subst (λ (n : ℕ). Terms n (drop at' C)) owed-is w.left.goal-terms

  row-owed : Terms (suc j) (drop i L)
  row-owed = subst (λ (n : ℕ). Terms n (drop i L)) owed-is w.left.row-terms

  pub goal-left : at' < len
  goal-left = omega (arith, terms-long goal-owed, length-drop at' C, C-long, w.inside)

  C-split : drop at' C ≡ d ∷ drop (suc at') C
  C-split = drop-cons C at' 0 (omega (arith, goal-left, C-long))

  here : Left row goal (c ∷ drop (suc i) L) (take at' C) (d ∷ drop (suc at') C) turns
  here =
      subst (λ (l : List ℕ). Left row goal l (take at' C) (d ∷ drop (suc at') C) turns) L-split
      (subst (λ (l : List ℕ). Left row goal (drop i L) (take at' C) l turns) C-split w.left)

  pub row-cell : c ≡ get_or cells i 0
  row-cell = get_or-take n cells i 0 more_left

  pub goal-cell : d ≡ get_or cells at' 0
  goal-cell = get_or-take len cells at' 0 goal-left

  next-C : take at' C ++ (d ∷ []) ≡ take (at' + 1) C
  next-C = sym (ap (λ (n : ℕ). take n C) (add-one at') ∙ take-suc C at' 0 (omega (arith, goal-left, C-long)))

  pub same-there : c ≡ d → Meeting row goal cells (i + 1) n (at' + 1) len turns
  same-there e = record {
    inside = omega (arith, goal-left);
    apart = omega (arith, w.apart);
    started = omega (arith, more_left);
    goal-short = w.goal-short;
    row-short = omega (arith, w.row-short);
    held = w.held;
    left = rw (add-one i, sym next-C, add-one at') (left-cell e here);
  }

  -- a term stands on each side, of at most 1,024 cells
  pub goal-term : TermsAt C at' × (length C ≤ at' + most_reply_cells)
  goal-term = (record { after = j; terms = goal-owed }, omega (arith, C-long, w.goal-short))

  pub row-term : TermsAt L i × (length L ≤ i + most_reply_cells)
  row-term = (record { after = j; terms = row-owed }, omega (arith, L-long, w.row-short))

  -- a variable of the row meets a term of the goal
  pub first-bind : {v e : ℕ} {T : List ℕ} → v ≡ get_or cells i 0 → is_var v ≡ true → v ≢ get_or cells at' 0 → TermAt C T at' e
      → (0 < turns) × (e ≤ len) × After row goal cells v T (i + 1) n e len (turns - 1)
  first-bind {v} {e} {T} ev hv ne x =
      let h = head-of (drop e C) x.term (sym C-split ∙ x.split) in
      let ht : Terms 1 (d ∷ h.0) = subst (Terms 1) h.1 x.term in
      let q : v ≡ c = ev ∙ sym row-cell in
      let f : d ∷ drop (suc at') C ≡ (d ∷ h.0) ++ drop e C = sym C-split ∙ x.split ∙ ap (λ (l : List ℕ). l ++ drop e C) h.1 in
      let u = subst (λ (y : ℕ). Left row goal (y ∷ drop (suc i) L) (take at' C) (d ∷ drop (suc at') C) turns) (sym q) here in
      let u' = subst (λ (l : List ℕ). Left row goal (v ∷ drop (suc i) L) (take at' C) l turns) f u in
      let g = left-first (drop e C) hv (λ z. ne (z ∙ goal-cell)) ht u' in
      let a : take e C ≡ take at' C ++ (d ∷ h.0) = front-is x ∙ ap (λ (l : List ℕ). take at' C ++ l) h.1 in
      (g.0, omega (arith, end-in x (omega (arith, w.inside, C-long)), C-long), record { left = rw (h.1, a, add-one i) g.1 })

  -- a variable of the goal meets a term of the row that is none
  second-var : {v : ℕ} → v ≡ d → is_var c ≡ false → v ≢ c → is_var v ≡ true
  second-var {v} q hc ne =
      ⊎_elim (λ (h : is_var v ≡ true). h) (λ (h : is_var v ≡ false). absurd (left-symbols hc (ap is_var (sym q) ∙ h) here (λ z. ne (q ∙ sym z))))
      (bool_cases (is_var v))

  pub second-bind : {v e : ℕ} {T : List ℕ} → v ≡ get_or cells at' 0 → is_var (get_or cells i 0) ≡ false → v ≢ get_or cells i 0 → TermAt L T i e
      → (0 < turns) × (e ≤ n) × After row goal cells v T e n (at' + 1) len (turns - 1)
  second-bind {v} {e} {T} ev hc ne x =
      let h = head-of (drop e L) x.term (sym L-split ∙ x.split) in
      let ht : Terms 1 (c ∷ h.0) = subst (Terms 1) h.1 x.term in
      let q : v ≡ d = ev ∙ sym goal-cell in
      let ne' : v ≢ c = λ z. ne (z ∙ row-cell) in
      let hc' : is_var c ≡ false = ap is_var row-cell ∙ hc in
      let f : c ∷ drop (suc i) L ≡ (c ∷ h.0) ++ drop e L = sym L-split ∙ x.split ∙ ap (λ (l : List ℕ). l ++ drop e L) h.1 in
      let u = subst (λ (y : ℕ). Left row goal (c ∷ drop (suc i) L) (take at' C) (y ∷ drop (suc at') C) turns) (sym q) here in
      let u' = subst (λ (l : List ℕ). Left row goal l (take at' C) (v ∷ drop (suc at') C) turns) f u in
      let g = left-second (drop e L) (second-var q hc' ne') ne' ht u' in
      let k : take at' C ++ (v ∷ []) ≡ take (at' + 1) C = ap (λ (y : ℕ). take at' C ++ (y ∷ [])) q ∙ next-C in
      (g.0, omega (arith, end-in x (omega (arith, w.started, L-long)), L-long), record { left = rw (h.1, sym k, add-one at') g.1 })

-- the row is at its end
pub met : {row goal cells : List ℕ} {i n at' len turns : ℕ} → Meeting row goal cells i n at' len turns → n ≤ i → turns ≤ 64 → InstanceMet row goal cells len
met {row} {goal} {cells} {i} {n} {at'} {len} {turns} w h t =
    let C = take len cells in
    let e : drop i (take n cells) ≡ [] = drop_of_length-le (take n cells) {i = i} (omega (arith, h, length-take-le n cells w.held)) in
    let v = subst (λ (l : List ℕ). Left row goal l (take at' C) (drop at' C) turns) e w.left in
    let f : take at' C ++ drop at' C ≡ C = take-append-drop at' C in
    record {
      within = omega (arith, w.apart, w.started, w.held);
      short = w.goal-short;
      general = subst (λ (l : List ℕ). MostGeneral row goal l) f (left-done v);
      few = record { vars = v.vars; found = subst (λ (l : List ℕ). Within v.vars l) f v.goal-within; few = omega (arith, v.few, t) };
    }

-- their variables are among their cells
pub both-few : {wide : ℕ} {row goal : List ℕ} → Head wide row → Head wide goal → length (row ++ renamed goal) ≤ 64
unfolding renamed
both-few {row = row} {goal} r g =
    omega (arith, length-append row (renamed goal), length-map goal (λ (c : ℕ). cond (is_var c) (2 ^ 16 + c) c), r.short, g.short)

-- The start: the goal's cells, its variables moved apart, then the row's.
pub start-there : {wide : ℕ} {row goal cells Y : List ℕ} {len n : ℕ} → Head wide row → Head wide goal → Terms wide (renamed goal) → Common row goal Y
    → 64 ≤ length cells → len ≡ length (renamed goal) → n ≡ len + length row → take n cells ≡ renamed goal ++ row
    → Meeting row goal cells len n 0 len 64
unfolding renamed
start-there {wide} {row} {goal} {cells} {Y} {len} {n} r g tg q lc el en x =
    let a : Below (2 ^ 16) row = record { vars = λ c m v. let l = few-variables r c m v in omega arith } in
    let b : Below (2 ^ 16) goal = record { vars = λ c m v. let l = few-variables g c m v in omega arith } in
    let k : length (renamed goal) ≡ length goal = length-map goal (λ (c : ℕ). cond (is_var c) (2 ^ 16 + c) c) in
    let y : drop len (take n cells) ≡ row = ap (drop len) x ∙ drop_at (renamed goal) row len (sym el) in
    let z : take len cells ≡ renamed goal = sym (take-take len n cells (omega (arith, en))) ∙ ap (take len) x ∙ take_at (renamed goal) row len (sym el) in
    record {
      inside = omega arith;
      apart = omega arith;
      started = omega (arith, en);
      goal-short = omega (arith, el, k, g.short);
      row-short = omega (arith, en, r.short);
      held = omega (arith, en, el, k, r.short, g.short, lc);
      left = rw (y, z) (record {
        gives = λ Z. ((solves-common a b Z).1, (solves-common a b Z).0);
        made = Y;
        makes = q;
        owed = wide;
        row-terms = r.terms;
        goal-terms = tg;
        vars = row ++ renamed goal;
        row_within = record { found = λ c m v. Memᴰ.append_left (renamed goal) m };
        goal-within = record { found = λ c m v. Memᴰ.append_right row m };
        few = both-few r g;
      });
    }
